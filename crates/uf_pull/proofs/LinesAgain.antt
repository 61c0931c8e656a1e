-- Lines that were written are read.
use Rattle.std.proofs.Common.{◌≡◌, ℕ, zero, suc, ◌+◌, ◌*◌, ◌-◌, ◌/◌, ◌%◌, ◌<◌, ◌≤◌, List, [], ◌∷◌, ◌++◌, Bool, true, false, cond, length, arith, refl, sym, ap, ◌∙◌, inl, inr, append_assoc, ◌⊎◌, Result, Ok, Err}
use Rattle.std.specs.Prelude.{codes, map, flat_map, nat_lt, ◌==◌, if◌then◌else◌}
use Rattle.std.specs.Cmp.Lexicographic.{bytes_decides}
use Rattle.std.specs.List.{All, AllByRecursion}
use Rattle.std.specs.Str.{IsAscii, IsUtf8}
use Rattle.std.proofs.lemmas.List.Elements.{All-cons, All-nil}
use Rattle.std.proofs.lemmas.Bool.{cases_lt}
use Rattle.std.proofs.lemmas.Bool.Decides.{nat_tests}
use Rattle.std.proofs.lemmas.Str.{IsUtf8-from_ascii}
use Rattle.uf_cid.proofs.Again.{text_again}
use Rattle.uf_cid.specs.Base32.{base32, bits, five, fives, letter}
use Rattle.uf_cid.specs.Cid.{cid_bytes, cid_text}
use Rattle.uf_cid.specs.Read.{IsCid}
use Rattle.uf_cid.specs.Unbase32.{AreBits, are_bits}
use Rattle.uf_cid.specs.declared.cid.Cid.{Cid}
use Rattle.uf_lines.proofs.Cuts.{too_many, written}
use Rattle.uf_lines.specs.LinesIn.{HasNoFeed, IsLine, LinesIn, lines_in, long_lines, text_of}
use Rattle.uf_pull.specs.declared.fault.ServeFault.{ServeFault}
use Rattle.uf_pull.specs.declared.fault.ServeFault.TheVariants as fault
use Rattle.uf_pull.specs.declared.want.PeerAsk.{PeerAsk}
use Rattle.uf_pull.specs.declared.want.PeerAsk.TheVariants.{Want, Done, Neither}
use Rattle.uf_pull.specs.Wants.{Asked, ask_of, asked_by, asked_from, asked_in, asked_of, done_line, want_line, wants_text, with_wants}
use Rattle.uf_pull.proofs.Fronts.{below, not_below}
use Rattle.uf_pull.proofs.WantLines.{read_want}

-- ---- the letters of a CID

-- a byte that is a letter or a digit
abbrev IsPlain : ℕ → Type 0
IsPlain b = (47 < b) × (b < 128)

low_is : (n : ℕ) → n < 26 → nat_lt n 26 ≡ true
low_is n h = grind (arith, nat_tests)

high_is : (n : ℕ) → 26 ≤ n → nat_lt n 26 ≡ false
high_is n h = grind (arith, nat_tests)

plain_letter : (n : ℕ) → n < 32 → IsPlain (letter n)
plain_letter n h = elim (cases_lt n 26) [
  | inl lt ↦ rw (low_is n lt) (omega (arith, lt), omega (arith, lt))
  | inr le ↦ rw (high_is n le) (omega (arith, le), omega (arith, h))
]

letters_of : (bs : List ℕ) → AreBits bs → AllByRecursion IsPlain (map letter (fives bs))
letters_of [] p = tt
letters_of (a ∷ []) p = (plain_letter (five a 0 0 0 0) (omega (arith, p.0)), tt)
letters_of (a ∷ b ∷ []) p = (plain_letter (five a b 0 0 0) (omega (arith, p.0, p.1.0)), tt)
letters_of (a ∷ b ∷ c ∷ []) p = (plain_letter (five a b c 0 0) (omega (arith, p.0, p.1.0, p.1.1.0)), tt)
letters_of (a ∷ b ∷ c ∷ d ∷ []) p = (plain_letter (five a b c d 0) (omega (arith, p.0, p.1.0, p.1.1.0, p.1.1.1.0)), tt)
letters_of (a ∷ b ∷ c ∷ d ∷ e ∷ rest) p = (plain_letter (five a b c d e) (omega (arith, p.0, p.1.0, p.1.1.0, p.1.1.1.0, p.1.1.1.1.0)), letters_of rest p.1.1.1.1.1)

text_plain : (c : Cid) → AllByRecursion IsPlain (cid_text c)
unfolding base32
text_plain c = ((omega arith, omega arith), letters_of (flat_map bits (cid_bytes c)) (are_bits (cid_bytes c)))

ascii_more : (b : ℕ) (l : List ℕ) → b < 128 → IsAscii l → IsAscii (b ∷ l)
ascii_more b l low h zero = low
ascii_more b l low h (suc i) = h i

ascii_of : (l : List ℕ) → AllByRecursion IsPlain l → IsAscii l
ascii_of [] h = λ i. omega arith
ascii_of (b ∷ l) h = ascii_more b l h.0.1 (ascii_of l h.1)

few_letters : (bs : List ℕ) → 5 * length (map letter (fives bs)) ≤ length bs + 4
few_letters [] = omega arith
few_letters (a ∷ []) = omega arith
few_letters (a ∷ b ∷ []) = omega arith
few_letters (a ∷ b ∷ c ∷ []) = omega arith
few_letters (a ∷ b ∷ c ∷ d ∷ []) = omega arith
few_letters (a ∷ b ∷ c ∷ d ∷ e ∷ rest) = (let k = few_letters rest in omega (arith, k))

bits_count : (bytes : List ℕ) → length (flat_map bits bytes) ≡ 8 * length bytes
bits_count [] = refl
bits_count (b ∷ bytes) = (let k = bits_count bytes in omega (arith, k))

few_text : (c : Cid) → IsCid c → length (cid_text c) ≤ 255
unfolding base32
few_text c whole =
    let count = bits_count (cid_bytes c) in
    let few = few_letters (flat_map bits (cid_bytes c)) in
    let size = whole.size in
    omega (arith, count, few, size)

not_feed : (b : ℕ) → 47 < b → (b == 10) ≡ false
not_feed b h = grind (arith, nat_tests)

-- ---- a line

spelled : (c : Cid) → IsCid c → ask_of (codes "want " ++ cid_text c) ≡ Want c
unfolding ask_of
spelled c whole =
    read_want (cid_text c) (Ok c) (IsUtf8-from_ascii (cid_text c) (ascii_of (cid_text c) (text_plain c))) (text_again c whole)
    ∙ ap (λ (b : Bool). cond b (Want c) Neither) ((bytes_decides (cid_text c) (cid_text c)).1 refl)

pub reads_want : (c : Cid) → IsCid c → ask_of (codes "want " ++ cid_text c) ≡ Want c
reads_want c whole = spelled c whole

pub reads_done : ask_of (codes "done") ≡ Done
unfolding ask_of
reads_done = refl

-- ---- all lines

-- the lines that ask for these blocks
abbrev lines_for : List Cid → List (List ℕ)
lines_for [] = codes "done" ∷ []
lines_for (c ∷ cids) = (codes "want " ++ cid_text c) ∷ lines_for cids

text_for : (cids : List Cid) → wants_text cids ++ done_line ≡ text_of (lines_for cids)
text_for [] = refl
text_for (c ∷ cids) =
    append_assoc (want_line c) (wants_text cids) done_line ∙ ap (λ (xs : List ℕ). want_line c ++ xs) (text_for cids)
    ∙ append_assoc (codes "want " ++ cid_text c) (10 ∷ []) (text_of (lines_for cids))

no_feed : (l : List ℕ) → AllByRecursion IsPlain l → HasNoFeed l
no_feed [] h = All-nil (λ b. (b == 10) ≡ false)
no_feed (b ∷ l) h = All-cons (λ b. (b == 10) ≡ false) b l (not_feed b h.0.0) (no_feed l h.1)

no_feed_behind : (word l : List ℕ) → AllByRecursion (λ (b : ℕ). (b == 10) ≡ false) word → HasNoFeed l → HasNoFeed (word ++ l)
no_feed_behind [] l h rest = rest
no_feed_behind (b ∷ word) l h rest = All-cons (λ b. (b == 10) ≡ false) b (word ++ l) h.0 (no_feed_behind word l h.1 rest)

are_lines : (cids : List Cid) → AllByRecursion IsCid cids → AllByRecursion (IsLine 4096) (lines_for cids)
are_lines [] whole = (record { few = omega arith; no_feed = no_feed_behind (codes "done") [] (refl, (refl, (refl, (refl, tt)))) (All-nil (λ b. (b == 10) ≡ false)) }, tt)
are_lines (c ∷ cids) whole =
    let few = few_text c whole.0 in (
      record {
        few = omega (arith, few);
        no_feed = no_feed_behind (codes "want ") (cid_text c) (refl, (refl, (refl, (refl, (refl, tt))))) (no_feed (cid_text c) (text_plain c));
      },
      are_lines cids whole.1,
    )

asks_for : (last : ℕ → Result Unit ServeFault) (number : ℕ) (cids : List Cid) → AllByRecursion IsCid cids → asked_from last number (lines_for cids) ≡ record { wants = cids; ends = Ok tt }
unfolding asked_from
asks_for last number [] whole = ap (λ (a : PeerAsk). asked_by number a (asked_from last (number + 1) [])) reads_done
asks_for last number (c ∷ cids) whole =
    ap (λ (a : PeerAsk). asked_by number a (asked_from last (number + 1) (lines_for cids))) (reads_want c whole.0)
    ∙ ap (with_wants (c ∷ [])) (asks_for last (number + 1) cids whole.1)

pub reads_wants : (limit : ℕ) (cids : List Cid) → AllByRecursion IsCid cids → length (wants_text cids ++ done_line) ≤ limit → asked_in limit (wants_text cids ++ done_line) ≡ record { wants = cids; ends = Ok tt }
reads_wants limit cids whole few =
    let size = ap length (text_for cids) in
    ap (λ (xs : List ℕ). asked_of limit (lines_in 4096 limit xs)) (text_for cids)
    ∙ ap (asked_of limit) (written 4096 limit (lines_for cids) (are_lines cids whole) (omega (arith, few, size)))
    ∙ asks_for _ 1 cids whole

-- ---- too much

module _ (limit : ℕ) (line rest : List ℕ) (none : HasNoFeed line) where
  -- what the number behind all lines decides
  ended_so : lines_in 4096 limit (line ++ rest) ≡ long_lines → (b : Bool) → nat_lt 4096 limit ≡ b
      → asked_in limit (line ++ rest) ≡ record { wants = []; ends = if b then Err (fault.BadWant 1) else Err fault.TooLong }
  unfolding asked_from
  ended_so is b test =
      let whole : limit - 0 ≡ limit = omega arith in
      ap (asked_of limit) is
      ∙ ap (λ (n : ℕ). record { wants = []; ends = if nat_lt 4096 n then Err (fault.BadWant 1) else Err fault.TooLong }) whole
      ∙ ap (λ (t : Bool). record { wants = []; ends = if t then Err (fault.BadWant 1) else Err fault.TooLong }) test

  pub long_line : 4096 < length line → 4096 < limit → asked_in limit (line ++ rest) ≡ record { wants = []; ends = Err (fault.BadWant 1) }
  long_line long room = ended_so (too_many 4096 limit [] line rest none (omega arith) (inl (omega (arith, long)))) true (below 4096 limit room)

  pub long_input : limit ≤ 4096 → limit < length line → asked_in limit (line ++ rest) ≡ record { wants = []; ends = Err fault.TooLong }
  long_input room long = ended_so (too_many 4096 limit [] line rest none (omega arith) (inr (omega (arith, long)))) false (not_below 4096 limit room)
