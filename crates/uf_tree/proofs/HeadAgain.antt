-- A Head's text is read as the Head, and no other text is.
use Rattle.std.proofs.Common.{◌≡◌, ℕ, zero, suc, ◌+◌, ◌%◌, ◌^◌, ◌<◌, ◌≤◌, List, [], ◌∷◌, ◌++◌, get_or, map, refl, ap, append_assoc, arith, ◌∙◌, ◌⊎◌, inl, inr, Ok, true, false, cond, Option, None, Some, nat_lt}
use Rattle.std.specs.Prelude.{◌&&◌, ◌==◌, codes, flat_map, nat_le, IsTrue}
use Rattle.std.specs.Fmt.{decimal}
use Rattle.std.specs.List.{AllByRecursion}
use Rattle.std.specs.Option.{option_and_then, option_map, option_or, ok_or}
use Rattle.std.specs.Str.{bytes_eq, IsUtf8}
use Rattle.std.proofs.lemmas.Bool.{cases_lt, le-ltb, lt-ltb}
use Rattle.std.proofs.lemmas.Bool.Decides.{nat_tests}
use Rattle.std.proofs.lemmas.Fmt.{decimal_by_steps}
use Rattle.std.proofs.lemmas.List.{append-nil}
use Rattle.std.proofs.lemmas.Slice.Eq.{bytes_eq-Decides}
use Rattle.std.proofs.lemmas.Str.{IsUtf8-from_ascii}
use Rattle.uf_varint.specs.Fields.{◌>>=◌}
use Rattle.uf_cid.specs.Base32.{base32, bits, fives, five, letter}
use Rattle.uf_cid.specs.Cid.{cid_bytes, cid_text}
use Rattle.uf_cid.specs.Read.{IsCid}
use Rattle.uf_cid.specs.declared.cid.Cid.{Cid}
use Rattle.uf_cid.specs.declared.cid.Codec.TheVariants.{DagPb}
use Rattle.uf_cid.proofs.Again.{text_again}
use Rattle.uf_tree.specs.declared.head_fault.HeadFault.TheVariants as heads
use Rattle.uf_tree.specs.declared.profile.Head.{Head}
use Rattle.uf_tree.specs.declared.profile.Profile.{Profile}
use Rattle.uf_tree.specs.HeadReading.{behind, version_line, first_line, head_reads, is_node, line_at, number_in, number_line, root_in, root_line, worded_at}
use Rattle.uf_tree.specs.Heads.{text_in, line, IsHeadText}
use Rattle.uf_tree.specs.Profiles.{is_profile}
use Rattle.uf_tree.proofs.Each.{both}
use Rattle.uf_tree.proofs.HeadLines.{behind-front, number_some, root_read}
use Rattle.uf_tree.proofs.Told.{kept}
use Rattle.uf_tree.proofs.Twins.{other_key}

-- ---- texts without a line feed

abbrev NoFeed : List ℕ → Type 0
NoFeed text = AllByRecursion (λ b. (b == 10) ≡ false) text

decimal_plain : (n : ℕ) → n < 2 ^ 32 → NoFeed (decimal n)
decimal_plain n h = decimal_by_steps (λ n ds. NoFeed ds) (λ n lt. (other_key (48 + n) 10 (λ e. omega arith), tt)) (λ n ds le all. both (λ b. (b == 10) ≡ false) ds ((48 + n % 10) ∷ []) all (other_key (48 + n % 10) 10 (λ e. omega arith), tt)) n (omega arith)

letter_plain : (n : ℕ) → (letter n == 10) ≡ false
letter_plain n = elim (nat_lt n 26) as (λ b. (cond b (97 + n) (24 + n) == 10) ≡ false) [ true ↦ other_key (97 + n) 10 (λ e. omega arith) | false ↦ other_key (24 + n) 10 (λ e. omega arith) ]

letters_plain : (ns : List ℕ) → NoFeed (map letter ns)
letters_plain [] = tt
letters_plain (n ∷ ns) = (letter_plain n, letters_plain ns)

cid_plain : (c : Cid) → NoFeed (cid_text c)
unfolding base32
cid_plain c = (refl, letters_plain (fives (flat_map bits (cid_bytes c))))

-- ---- the text of a CID is text

abbrev AreBits : List ℕ → Type 0
AreBits bs = AllByRecursion (λ b. b < 2) bs

bits_small : (b : ℕ) → AreBits (bits b)
bits_small b = (omega arith, (omega arith, (omega arith, (omega arith, (omega arith, (omega arith, (omega arith, (omega arith, tt))))))))

all_bits : (bytes : List ℕ) → AreBits (flat_map bits bytes)
all_bits [] = tt
all_bits (b ∷ bytes) = both (λ n. n < 2) (bits b) (flat_map bits bytes) (bits_small b) (all_bits bytes)

five_small : (a b c d e : ℕ) → a < 2 → b < 2 → c < 2 → d < 2 → e < 2 → five a b c d e < 32
five_small a b c d e p q r s t = omega arith

fives_small : (bs : List ℕ) → AreBits bs → AllByRecursion (λ n. n < 32) (fives bs)
fives_small [] h = tt
fives_small (a ∷ []) h = (five_small a 0 0 0 0 h.0 (omega arith) (omega arith) (omega arith) (omega arith), tt)
fives_small (a ∷ b ∷ []) h = (five_small a b 0 0 0 h.0 h.1.0 (omega arith) (omega arith) (omega arith), tt)
fives_small (a ∷ b ∷ c ∷ []) h = (five_small a b c 0 0 h.0 h.1.0 h.1.1.0 (omega arith) (omega arith), tt)
fives_small (a ∷ b ∷ c ∷ d ∷ []) h = (five_small a b c d 0 h.0 h.1.0 h.1.1.0 h.1.1.1.0 (omega arith), tt)
fives_small (a ∷ b ∷ c ∷ d ∷ e ∷ rest) h = (five_small a b c d e h.0 h.1.0 h.1.1.0 h.1.1.1.0 h.1.1.1.1.0, fives_small rest h.1.1.1.1.1)

letter_ascii : (n : ℕ) → n < 32 → letter n < 128
letter_ascii n h = by (cases_lt n 26)
  where
    by : (n < 26) ⊎ (26 ≤ n) → letter n < 128
    by (inl low) = let e : letter n ≡ 97 + n = ap (λ b. cond b (97 + n) (24 + n)) (lt-ltb n 26 low) in omega arith
    by (inr high) = let e : letter n ≡ 24 + n = ap (λ b. cond b (97 + n) (24 + n)) (le-ltb n 26 high) in omega arith

letters_ascii : (ns : List ℕ) → AllByRecursion (λ n. n < 32) ns → AllByRecursion (λ b. b < 128) (map letter ns)
letters_ascii [] h = tt
letters_ascii (n ∷ ns) h = (letter_ascii n h.0, letters_ascii ns h.1)

at_each : (bytes : List ℕ) → AllByRecursion (λ b. b < 128) bytes → (i : ℕ) → get_or bytes i 0 < 128
at_each [] h i = omega arith
at_each (b ∷ bytes) h zero = h.0
at_each (b ∷ bytes) h (suc i) = at_each bytes h.1 i

pub cid_utf8 : (c : Cid) → IsUtf8 (cid_text c)
unfolding base32
cid_utf8 c = IsUtf8-from_ascii (cid_text c) (at_each (cid_text c) (let first : 98 < 128 = omega arith in (first, letters_ascii (fives (flat_map bits (cid_bytes c))) (fives_small (flat_map bits (cid_bytes c)) (all_bits (cid_bytes c))))))

-- ---- read again

line_at-line : (x rest : List ℕ) → NoFeed x → line_at (x ++ 10 ∷ rest) ≡ Some (x, rest)
unfolding line_at
line_at-line [] rest h = refl
line_at-line (b ∷ x) rest h =
    let again = line_at-line x rest h.1 in
    ap (λ t. cond t (Some ([], x ++ 10 ∷ rest)) (option_map (λ (y : List ℕ × List ℕ). (b ∷ y.0, y.1)) (line_at (x ++ 10 ∷ rest)))) h.0
    ∙ ap (option_map (λ (y : List ℕ × List ℕ). (b ∷ y.0, y.1))) again

abbrev wording : List ℕ → Option (List ℕ × List ℕ) → Option (List ℕ × List ℕ)
wording word o = option_and_then (λ (l : List ℕ × List ℕ). option_map (λ (t : List ℕ). (t, l.1)) (behind word l.0)) o

worded_again : (word text rest : List ℕ) → NoFeed word → NoFeed text → worded_at word (line word text ++ rest) ≡ Some (text, rest)
worded_again word text rest h k =
    ap (worded_at word) (append_assoc (word ++ text) (10 ∷ []) rest)
    ∙ ap (wording word) (line_at-line (word ++ text) rest (both (λ b. (b == 10) ≡ false) word text h k))
    ∙ ap (option_map (λ (t : List ℕ). (t, rest))) (behind-front word text)

within : (low v high : ℕ) → low ≤ v → v ≤ high → (nat_le low v && nat_le v high) ≡ true
within low v high h k = grind (arith, nat_tests)

number_again : (n low high v : ℕ) (word rest : List ℕ) → NoFeed word → v < 2 ^ 32 → low ≤ v → v ≤ high → number_line n word low high (line word (decimal v) ++ rest) ≡ Ok (v, rest)
unfolding number_line
number_again n low high v word rest h small le most =
    ap (λ o. ok_or o (heads.Line n) >>= λ (x : List ℕ × List ℕ). ok_or (number_in low high x.0) (heads.Number n) >>= λ k. Ok (k, x.1)) (worded_again word (decimal v) rest h (decimal_plain v small))
    ∙ ap (λ o. ok_or o (heads.Number n) >>= λ k. Ok (k, rest)) (number_some low high v (decimal v) small refl ∙ ap (λ b. cond b (Some v) None) (within low v high le most))

root_in-text : (c : Cid) → IsCid c → c.codec ≡ DagPb → root_in (cid_text c) ≡ Some c
root_in-text c h node =
    root_read (cid_text c) (Ok c) (cid_utf8 c) (text_again c h)
    ∙ ap (λ b. cond (b && bytes_eq (cid_text c) (cid_text c)) (Some c) None) (ap is_node node)
    ∙ ap (λ b. cond b (Some c) None) ((bytes_eq-Decides (cid_text c) (cid_text c)).1 refl)

root_again : (c : Cid) (rest : List ℕ) → IsCid c → c.codec ≡ DagPb → root_line (line (codes "root ") (cid_text c) ++ rest) ≡ Ok (c, rest)
unfolding root_line
root_again c rest h node =
    ap (λ o. ok_or o (heads.Line 5) >>= λ (x : List ℕ × List ℕ). ok_or (root_in x.0) heads.Root >>= λ k. Ok (k, x.1)) (worded_again (codes "root ") (cid_text c) rest (refl, (refl, (refl, (refl, (refl, tt))))) (cid_plain c))
    ∙ ap (λ o. ok_or o heads.Root >>= λ k. Ok (k, rest)) (root_in-text c h node)

-- the first line of a version is read
abbrev IsFirst : List ℕ → Type 0
IsFirst version = (rest : List ℕ) → first_line (line (codes "unixfs-head ") version ++ rest) ≡ Ok rest

second_first : IsFirst (codes "2")
unfolding first_line
second_first rest = ap (λ o. ok_or (option_or o (version_line (codes "1") (line (codes "unixfs-head ") (codes "2") ++ rest))) heads.Version) (behind-front (line (codes "unixfs-head ") (codes "2")) rest)

not_second : (rest : List ℕ) → version_line (codes "2") (line (codes "unixfs-head ") (codes "1") ++ rest) ≡ None
unfolding behind
not_second rest = refl

first_first : IsFirst (codes "1")
unfolding first_line
first_first rest =
    ap (λ o. ok_or (option_or o (version_line (codes "1") (line (codes "unixfs-head ") (codes "1") ++ rest))) heads.Version) (not_second rest)
    ∙ ap (λ o. ok_or o heads.Version) (behind-front (line (codes "unixfs-head ") (codes "1")) rest)

abbrev head_of : ℕ → ℕ → ℕ → Cid → Head
head_of chunk width threshold root = record { profile = record { chunk = chunk; width = width; threshold = threshold }; root = root }

in_turn : (bytes one two three four : List ℕ) (chunk width threshold : ℕ) (root : Cid) → first_line bytes ≡ Ok one → number_line 2 (codes "chunk ") 1 1048576 one ≡ Ok (chunk, two)
    → number_line 3 (codes "width ") 2 1024 two ≡ Ok (width, three) → number_line 4 (codes "threshold ") 0 1048576 three ≡ Ok (threshold, four) → root_line four ≡ Ok (root, [])
    → head_reads bytes ≡ Ok (head_of chunk width threshold root)
unfolding head_reads
in_turn bytes one two three four chunk width threshold root a b c d e = rw (a, b, c, d, e) refl

behind_one_another : (a b c d e : List ℕ) → (((a ++ b) ++ c) ++ d) ++ e ≡ a ++ (b ++ (c ++ (d ++ (e ++ []))))
behind_one_another a b c d e = simp (append_assoc, append-nil)

version_again : (version : List ℕ) → IsFirst version → (p : Profile) (c : Cid) → IsTrue (is_profile p) → IsCid c → c.codec ≡ DagPb → head_reads (text_in version p c) ≡ Ok (record { profile = p; root = c })
unfolding text_in
version_again version first p c ok h node =
    let k = kept p ok in
    let chunk : p.chunk ≤ 1048576 = k.short in
    let width : p.width ≤ 1024 = k.few in
    let threshold : p.threshold ≤ 1048576 = k.threshold in
    let e = line (codes "root ") (cid_text c) ++ [] in
    let d = line (codes "threshold ") (decimal p.threshold) in
    let w = line (codes "width ") (decimal p.width) in
    let s = line (codes "chunk ") (decimal p.chunk) in
    ap head_reads (behind_one_another (line (codes "unixfs-head ") version) s w d (line (codes "root ") (cid_text c)))
    ∙ in_turn (line (codes "unixfs-head ") version ++ (s ++ (w ++ (d ++ e)))) (s ++ (w ++ (d ++ e))) (w ++ (d ++ e)) (d ++ e) e p.chunk p.width p.threshold c
    (first (s ++ (w ++ (d ++ e))))
    (number_again 2 1 1048576 p.chunk (codes "chunk ") (w ++ (d ++ e)) (refl, (refl, (refl, (refl, (refl, (refl, tt)))))) (omega arith) k.some chunk)
    (number_again 3 2 1024 p.width (codes "width ") (d ++ e) (refl, (refl, (refl, (refl, (refl, (refl, tt)))))) (omega arith) k.two width)
    (number_again 4 0 1048576 p.threshold (codes "threshold ") e (refl, (refl, (refl, (refl, (refl, (refl, (refl, (refl, (refl, (refl, tt)))))))))) (omega arith) (omega arith) threshold)
    (root_again c [] h node)

pub head_again : (text : List ℕ) (p : Profile) (c : Cid) → IsTrue (is_profile p) → IsCid c → c.codec ≡ DagPb → IsHeadText text p c → head_reads text ≡ Ok (record { profile = p; root = c })
head_again text p c ok h node (inl e) = ap head_reads e ∙ version_again (codes "2") second_first p c ok h node
head_again text p c ok h node (inr e) = ap head_reads e ∙ version_again (codes "1") first_first p c ok h node
