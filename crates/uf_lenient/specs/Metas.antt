-- The metadata of what was read: that of a message, as far as a tree may have it.
use Rattle.std.specs.Prelude.{ℕ, ℤ, IsTrue, ⊤, ◌==◌, nat_le, if◌then◌else◌}
use Rattle.std.specs.declared.option.Option.{Option}
use Rattle.std.specs.declared.option.Option.TheVariants.{None, Some}
use Rattle.uf_message.specs.declared.message.Message.{Message}
use Rattle.uf_message.specs.declared.message.Mtime.{Mtime}
use Rattle.uf_tree.specs.declared.meta.Meta.{Meta}
use Rattle.uf_tree.specs.Metas.{is_meta}
use Rattle.uf_lenient.specs.declared.gathered.Gathered.{Gathered}
use Rattle.uf_lenient.specs.declared.gathered.Gathered.TheVariants.{File as IsFile, Folder as IsFolder}
use Rattle.uf_lenient.specs.declared.shapes.Shape.{Shape}
use Rattle.uf_lenient.specs.declared.shapes.Shape.TheVariants.{File as FileShape, Folder as FolderShape}
use Rattle.uf_lenient.specs.declared.unixfs.Unixfs.{Unixfs}
use Rattle.uf_lenient.specs.declared.unixfs.Unixfs.TheVariants.{File, Directory, Shard, OtherShard, Other}

-- the mtime of these seconds and nanoseconds: 0 nanoseconds are none, and with more than a second has it is dropped
abbrev pub time_read : ℤ → Option ℕ → Option Mtime
time_read seconds None = Some (record { seconds = seconds; nanos = None })
time_read seconds (Some nanos) =
    if nanos == 0 then Some (record { seconds = seconds; nanos = None })
    else if nat_le nanos 999999999 then Some (record { seconds = seconds; nanos = Some nanos })
    else None

abbrev pub mtime_read : Option Mtime → Option Mtime
mtime_read None = None
mtime_read (Some t) = time_read t.seconds t.nanos

-- the metadata of a message
abbrev pub meta_read : Message → Meta
meta_read m = record { mode = m.mode; mtime = mtime_read m.mtime }

-- the metadata of what was read is in the ranges of a tree's
abbrev pub IsGoodUnixfs : Unixfs → Type 0
IsGoodUnixfs (File meta bytes links) = IsTrue (is_meta meta)
IsGoodUnixfs (Directory meta links) = IsTrue (is_meta meta)
IsGoodUnixfs (Shard meta links) = IsTrue (is_meta meta)
IsGoodUnixfs OtherShard = ⊤
IsGoodUnixfs Other = ⊤

abbrev pub IsGoodGathered : Gathered → Type 0
IsGoodGathered (IsFile meta bytes links) = IsTrue (is_meta meta)
IsGoodGathered (IsFolder meta ways) = IsTrue (is_meta meta)

abbrev pub IsGoodShape : Shape → Type 0
IsGoodShape (FileShape meta) = IsTrue (is_meta meta)
IsGoodShape (FolderShape meta ways) = IsTrue (is_meta meta)
