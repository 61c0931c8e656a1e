-- What a plain tree shows at each path: its names, bytes and metadata.
use Rattle.std.specs.Prelude.{ℕ, List}
use Rattle.std.specs.declared.option.Option.{Option}
use Rattle.std.specs.declared.option.Option.TheVariants.{None, Some}
use Rattle.std.specs.declared.result.Result.{Result}
use Rattle.std.specs.declared.result.Result.TheVariants.{Ok, Err}
use Rattle.uf_plain.specs.Edits.{at}
use Rattle.uf_plain.specs.declared.rule.Refused.{Refused}
use Rattle.uf_tree.specs.Tree.{Tree, File, Dir, Entries, own_meta}
use Rattle.uf_tree.specs.declared.meta.Meta.{Meta}

-- what is at a path: a file with its metadata and its bytes, or a folder with its metadata
pub data Place : Type 0 where
  Bytes : Meta → List ℕ → Place
  Folder : Meta → Place

-- what a lookup found, if anything
abbrev pub place_of : Result Tree Refused → Option Place
place_of (Ok (File m bytes)) = Some (Bytes m bytes)
place_of (Ok (Dir es)) = Some (Folder (own_meta es))
place_of (Err why) = None

-- what is at these names
abbrev pub place_at : List (List ℕ) → Entries → Option Place
place_at names es = place_of (at 0 names (Dir es))
