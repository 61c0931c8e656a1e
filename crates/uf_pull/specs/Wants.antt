-- The lines in which blocks are asked for (this project's own form): `want ` and the text of a CID in lower case for
-- each, and `done` after the last.
use Rattle.std.specs.Prelude.{ℕ, ◌+◌, ◌-◌, nat_eq, nat_lt, List, [], ◌∷◌, ◌++◌, codes, length, drop, flat_map, Bool}
use Rattle.std.specs.Prelude.{true, false, if◌then◌else◌}
use Rattle.std.specs.List.{starts_with}
use Rattle.std.specs.Str.{bytes_eq, is_utf8}
use Rattle.std.specs.declared.option.Option.{Option}
use Rattle.std.specs.declared.option.Option.TheVariants.{None, Some}
use Rattle.std.specs.declared.result.Result.{Result}
use Rattle.std.specs.declared.result.Result.TheVariants.{Ok, Err}
use Rattle.uf_cid.specs.Cid.{cid_text}
use Rattle.uf_cid.specs.Read.{cid_of_text}
use Rattle.uf_cid.specs.declared.cid.Cid.{Cid}
use Rattle.uf_cid.specs.declared.cid.CidFault.{CidFault}
use Rattle.uf_lines.specs.LinesIn.{LinesIn, lines_in, text_of}
use Rattle.uf_pull.specs.declared.fault.ServeFault.{ServeFault}
use Rattle.uf_pull.specs.declared.fault.ServeFault.TheVariants as fault
use Rattle.uf_pull.specs.declared.want.PeerAsk.{PeerAsk}
use Rattle.uf_pull.specs.declared.want.PeerAsk.TheVariants.{Want, Done, Neither}

-- ---- as they are written

abbrev pub want_line : Cid → List ℕ
want_line c = codes "want " ++ cid_text c ++ 10 ∷ []

abbrev pub done_line : List ℕ
done_line = codes "done\n"

abbrev pub wants_text : List Cid → List ℕ
wants_text cids = flat_map want_line cids

-- ---- as they are read

-- what stands after a first word
abbrev pub behind_word : List ℕ → List ℕ → Option (List ℕ)
behind_word word line = if starts_with nat_eq line word then Some (drop (length word) line) else None

-- the block whose CID was read from a text, where the text is the CID's
abbrev pub want_of : List ℕ → Result Cid CidFault → PeerAsk
want_of text (Ok c) = if bytes_eq (cid_text c) text then Want c else Neither
want_of text (Err why) = Neither

abbrev pub spelled_want : List ℕ → PeerAsk
spelled_want text = if is_utf8 text then want_of text (cid_of_text text) else Neither

abbrev pub want_behind : Option (List ℕ) → PeerAsk
want_behind None = Neither
want_behind (Some text) = spelled_want text

-- what a line without its LF says
unfoldable pub ask_of : List ℕ → PeerAsk
ask_of line = if bytes_eq line (codes "done") then Done else want_behind (behind_word (codes "want ") line)

-- ---- all lines

-- the blocks that are asked for, and how that ends: at `done` or with the input, or at a fault
pub record Asked : Type 0 where
  pub wants : List Cid
  pub ends : Result Unit ServeFault

-- these are asked for first
abbrev pub with_wants : List Cid → Asked → Asked
with_wants wants rest = record { wants = wants ++ rest.wants; ends = rest.ends }

abbrev pub asked_by : ℕ → PeerAsk → Asked → Asked
asked_by number (Want c) rest = with_wants (c ∷ []) rest
asked_by number Done rest = record { wants = []; ends = Ok tt }
asked_by number Neither rest = record { wants = []; ends = Err (fault.BadWant number) }

-- what lines ask for, of which the first has this number; after the last of them stands what the number there decides
unfoldable pub asked_from : (ℕ → Result Unit ServeFault) → ℕ → List (List ℕ) → Asked
asked_from last number [] = record { wants = []; ends = last number }
asked_from last number (line ∷ lines) = asked_by number (ask_of line) (asked_from last (number + 1) lines)

-- what stands after the last line: the end of the input, or a line that is too long where enough of the limit is left
-- for one, or else more bytes than may be read
abbrev pub behind_lines : ℕ → List (List ℕ) → Bool → ℕ → Result Unit ServeFault
behind_lines limit lines true number = Ok tt
behind_lines limit lines false number =
    if nat_lt 4096 (limit - length (text_of lines)) then Err (fault.BadWant number) else Err fault.TooLong

abbrev pub asked_of : ℕ → LinesIn → Asked
asked_of limit r = asked_from (behind_lines limit r.lines r.whole) 1 r.lines

-- what an input asks for of which at most n bytes are read, in lines of at most 4096 bytes
abbrev pub asked_in : ℕ → List ℕ → Asked
asked_in limit bytes = asked_of limit (lines_in 4096 limit bytes)
