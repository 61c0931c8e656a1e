-- What the reader of a Head answers: the lines from the first on, and the first fault.
use Rattle.std.specs.Prelude.{◌≡◌, ◌⊎◌, ℕ, List, [], ◌∷◌, codes, length, Bool, true, false, ◌&&◌, ◌==◌, nat_le, if◌then◌else◌}
use Rattle.std.specs.Fmt.{decimal}
use Rattle.std.specs.Option.{option_and_then, option_map, option_or, ok_or}
use Rattle.std.specs.Str.{bytes_eq, is_utf8}
use Rattle.std.specs.Str.Parse.{digits_value}
use Rattle.std.specs.declared.option.Option.{Option}
use Rattle.std.specs.declared.option.Option.TheVariants.{None, Some}
use Rattle.std.specs.declared.result.Result.{Result}
use Rattle.std.specs.declared.result.Result.TheVariants.{Ok, Err}
use Rattle.uf_varint.specs.Fields.{◌>>=◌}
use Rattle.uf_cid.specs.Cid.{cid_text}
use Rattle.uf_cid.specs.Read.{cid_of_text}
use Rattle.uf_cid.specs.declared.cid.Cid.{Cid}
use Rattle.uf_cid.specs.declared.cid.CidFault.{CidFault}
use Rattle.uf_cid.specs.declared.cid.Codec.{Codec}
use Rattle.uf_cid.specs.declared.cid.Codec.TheVariants.{Raw, DagPb}
use Rattle.uf_tree.specs.declared.head_fault.HeadFault.{HeadFault}
use Rattle.uf_tree.specs.declared.head_fault.HeadFault.TheVariants as heads
use Rattle.uf_tree.specs.declared.profile.Head.{Head}
use Rattle.uf_tree.specs.Heads.{line}

-- the bytes up to the first line feed, and those after it
unfoldable pub line_at : List ℕ → Option (List ℕ × List ℕ)
line_at [] = None
line_at (b ∷ bytes) = if b == 10 then Some ([], bytes) else option_map (λ x. (b ∷ x.0, x.1)) (line_at bytes)

-- what stands after a first word
unfoldable pub behind : List ℕ → List ℕ → Option (List ℕ)
behind [] bytes = Some bytes
behind (w ∷ word) [] = None
behind (w ∷ word) (b ∷ bytes) = if w == b then behind word bytes else None

-- a line that starts with its word: what stands after the word, and the bytes after the line
abbrev pub worded_at : List ℕ → List ℕ → Option (List ℕ × List ℕ)
worded_at word bytes = option_and_then (λ l. option_map (λ text. (text, l.1)) (behind word l.0)) (line_at bytes)

-- the number of which the text is the decimal spelling, where it is in its range
unfoldable pub number_in : ℕ → ℕ → List ℕ → Option ℕ
number_in low high text =
    if is_utf8 text && bytes_eq (decimal (digits_value 10 text)) text && nat_le low (digits_value 10 text)
    && nat_le (digits_value 10 text) high
    then Some (digits_value 10 text) else None

abbrev pub is_node : Codec → Bool
is_node Raw = false
is_node DagPb = true

-- a CID of a node, where the text is its spelling
abbrev pub node_of : List ℕ → Result Cid CidFault → Option Cid
node_of text (Ok c) = if is_node c.codec && bytes_eq (cid_text c) text then Some c else None
node_of text (Err f) = None

unfoldable pub root_in : List ℕ → Option Cid
root_in text = if is_utf8 text then node_of text (cid_of_text text) else None

-- line n, with a number
unfoldable pub number_line : ℕ → List ℕ → ℕ → ℕ → List ℕ → Result (ℕ × List ℕ) HeadFault
number_line n word low high bytes =
    ok_or (worded_at word bytes) (heads.Line n) >>= λ x.
    ok_or (number_in low high x.0) (heads.Number n) >>= λ k. Ok (k, x.1)

-- line 5, with the root
unfoldable pub root_line : List ℕ → Result (Cid × List ℕ) HeadFault
root_line bytes =
    ok_or (worded_at (codes "root ") bytes) (heads.Line 5) >>= λ x.
    ok_or (root_in x.0) heads.Root >>= λ c. Ok (c, x.1)

-- line 1, of version 2 or 1
abbrev pub version_line : List ℕ → List ℕ → Option (List ℕ)
version_line version bytes = behind (line (codes "unixfs-head ") version) bytes

unfoldable pub first_line : List ℕ → Result (List ℕ) HeadFault
first_line bytes = ok_or (option_or (version_line (codes "2") bytes) (version_line (codes "1") bytes)) heads.Version

-- the Head that the bytes spell, or their first fault
unfoldable pub head_reads : List ℕ → Result Head HeadFault
head_reads bytes =
    first_line bytes >>= λ one.
    number_line 2 (codes "chunk ") 1 1048576 one >>= λ chunk.
    number_line 3 (codes "width ") 2 1024 chunk.1 >>= λ width.
    number_line 4 (codes "threshold ") 0 1048576 width.1 >>= λ threshold.
    root_line threshold.1 >>= λ root.
    if length root.1 == 0
    then Ok (record { profile = record { chunk = chunk.0; width = width.0; threshold = threshold.0 }; root = root.0 })
    else Err (heads.Line 6)

-- what a call answered, unless there was no memory
abbrev pub GivesHead : {X Y : Type 0} → (X → Y) → Result X HeadFault → Result Y HeadFault → Type 0
GivesHead view (Ok x) said = said ≡ Ok (view x)
GivesHead view (Err fault) said = (fault ≡ heads.Memory) ⊎ (said ≡ Err fault)
