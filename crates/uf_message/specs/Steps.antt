-- Fields taken one after the other, as a reader goes.
use Rattle.std.specs.Prelude.{◌≡◌, ◌⊎◌, ℕ, List, [], ◌∷◌, ◌++◌}
use Rattle.std.specs.Option.{option_map, option_or}
use Rattle.std.specs.declared.result.Result.{Result}
use Rattle.std.specs.declared.result.Result.TheVariants.{Ok, Err}
use Rattle.uf_varint.specs.declared.fields.CutFault.{CutFault}
use Rattle.uf_varint.specs.Fields.{Content, Keyed}
use Rattle.uf_message.specs.Reading.{msg_fault, message_field_fault, judged, selected, Selected}
use Rattle.uf_message.specs.declared.message.MsgFault.{MsgFault}
use Rattle.uf_message.specs.declared.message.MsgFault.TheVariants as fault
use Rattle.uf_message.specs.declared.seen.Seen.{Seen}

-- what a call returned, seen by view, is what reading gives, unless memory ran out
abbrev pub Gives : {X Y : Type 0} → (X → Y) → Result X MsgFault → Result Y MsgFault → Type 0
Gives view (Ok x) read = read ≡ Ok (view x)
Gives view (Err why) read = (why ≡ fault.Memory) ⊎ (read ≡ Err why)

-- a cut, with its fault as one of the message
abbrev pub cut_of : {A : Type 0} → Result A CutFault → Result A MsgFault
cut_of (Ok a) = Ok a
cut_of (Err f) = Err (msg_fault f)

-- numbers that were read after earlier ones
abbrev pub added : List ℕ → Result (List ℕ) CutFault → Result (List ℕ) MsgFault
added earlier (Ok ns) = Ok (earlier ++ ns)
added earlier (Err f) = Err (msg_fault f)

-- what a reader has seen, without where it lies in memory
abbrev pub selection : Seen → Selected
selection s = record {
  kind = s.kind;
  content = option_map (λ b. b.now) s.content;
  filesize = s.filesize;
  sizes = s.sizes;
  hash_type = s.hash_type;
  fanout = s.fanout;
  mode = s.mode;
  mtime = option_map (λ b. b.now) s.mtime;
}

-- later fields after earlier ones
abbrev pub over : Selected → Selected → Selected
over later earlier = record {
  kind = option_or later.kind earlier.kind;
  content = option_or later.content earlier.content;
  filesize = option_or later.filesize earlier.filesize;
  sizes = earlier.sizes ++ later.sizes;
  hash_type = option_or later.hash_type earlier.hash_type;
  fanout = option_or later.fanout earlier.fanout;
  mode = option_or later.mode earlier.mode;
  mtime = option_or later.mtime earlier.mtime;
}

-- a field taken after what was seen, and the bytes that follow it
abbrev pub took : ℕ → Selected → Result (Content × List ℕ) CutFault → Result (Selected × List ℕ) MsgFault
took key seen (Ok c) = judged (message_field_fault (Keyed key (Ok c.0)))
    (Ok (over (selected (Keyed key (Ok c.0) ∷ [])) seen, c.1))
took key seen (Err f) = judged (message_field_fault (Keyed key (Err f))) (Err fault.Wire)
