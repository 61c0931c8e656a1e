-- A note lists pins, or isn't read.
use Rattle.std.proofs.Common.{◌≡◌, ◌≢◌, ◌⊎◌, ◌∙◌, ℕ, zero, suc, ◌+◌, ◌<◌, ◌≤◌, List, [], ◌∷◌, ◌++◌, length, length-append, Bool, true, false, arith, refl, sym, ap, subst, inl, inr, nat_eq, Option, Result, Ok, Err}
use Rattle.std.specs.Prelude.{◌==◌, Some, None}
use Rattle.std.specs.Cmp.Lexicographic.{pointwise, slice_cmp}
use Rattle.std.specs.Ordering.{nat_cmp}
use Rattle.std.specs.declared.cmp.Ordering.{Ordering}
use Rattle.std.specs.declared.cmp.Ordering.TheVariants.{Less, Equal, Greater}
use Rattle.std.proofs.lemmas.Bool.{cases_lt, eqb-true, eq-eqb}
use Rattle.uf_cid.specs.Bytes.{IsBytes}
use Rattle.uf_cid.specs.Cid.{cid_text}
use Rattle.uf_cid.specs.Read.{IsCid, cid_of_text}
use Rattle.uf_cid.specs.declared.cid.Cid.{Cid}
use Rattle.uf_cid.specs.declared.cid.CidFault.{CidFault}
use Rattle.uf_cid.proofs.Again.{text_again}
use Rattle.uf_tree.specs.HeadReading.{line_at}
use Rattle.uf_pins.specs.Notes.{IsReadAs}
use Rattle.uf_pins.specs.Reading.{BeginsLine, IsNoText, IsTextOf, ReadsTo, Spells}
use Rattle.uf_pins.specs.Texts.{IsAbove, IsBefore, first_line, line_of}
use Rattle.uf_pins.proofs.Spelled.{no-cid, other-text, own-text}
use Rattle.uf_pins.proofs.Written.{line-no-text, line-none, line-other, line-some, order-no-text, reads-all, reads-first, reads-on, version-no-text}

-- ---- whether a text is that of a CID

are-bytes : (bytes : List ℕ) → IsBytes bytes ⊎ (IsBytes bytes → ⊥)
are-bytes [] = inl tt
are-bytes (b ∷ bytes) = by (cases_lt b 256) (are-bytes bytes)
  where
    by : (b < 256) ⊎ (256 ≤ b) → IsBytes bytes ⊎ (IsBytes bytes → ⊥) → IsBytes (b ∷ bytes) ⊎ (IsBytes (b ∷ bytes) → ⊥)
    by (inl low) (inl rest) = inl (low, rest)
    by (inl low) (inr not) = inr (λ h. not h.1)
    by (inr high) rest = inr (λ h. let low = h.0 in absurd (omega (arith, low, high)))

is-size : (m n : ℕ) → (m ≡ n) ⊎ (m ≡ n → ⊥)
is-size m n = by (m == n) refl
  where
    by : (b : Bool) → (m == n) ≡ b → (m ≡ n) ⊎ (m ≡ n → ⊥)
    by true is = inl (eqb-true m n is)
    by false is = inr (λ e. let no : false ≡ true = sym is ∙ eq-eqb m n e in cc)

is-whole : (c : Cid) → IsCid c ⊎ (IsCid c → ⊥)
is-whole c = by (is-size (length c.digest) 32) (are-bytes c.digest)
  where
    by : (length c.digest ≡ 32) ⊎ (length c.digest ≡ 32 → ⊥) → IsBytes c.digest ⊎ (IsBytes c.digest → ⊥) → IsCid c ⊎ (IsCid c → ⊥)
    by (inl size) (inl bytes) = inl (record { size = size; bytes = bytes })
    by (inl size) (inr not) = inr (λ h. not h.bytes)
    by (inr not) bytes = inr (λ h. not h.size)

spelled : (text : List ℕ) → (c : Option Cid) × Spells text c
spelled text = by (cid_of_text text) refl
  where
    by : (r : Result Cid CidFault) → cid_of_text text ≡ r → (c : Option Cid) × Spells text c
    by (Err f) is = (None, no-cid text text f refl (sym is))
    by (Ok c) is = whole (is-whole c)
      where
        same : (b : Bool) → pointwise nat_eq (cid_text c) text ≡ b → IsCid c → (c : Option Cid) × Spells text c
        same true e good = (Some c, own-text text (cid_text c) c (pointwise nat_eq (cid_text c) text) good refl refl e)
        same false e good = (None, other-text text text (cid_text c) c (pointwise nat_eq (cid_text c) text) refl (sym is) refl refl e)

        whole : IsCid c ⊎ (IsCid c → ⊥) → (c : Option Cid) × Spells text c
        whole (inl good) = same (pointwise nat_eq (cid_text c) text) refl good
        whole (inr bad) = (
          None,
          λ d good e.
              let both : ◌≡◌ {A = Result Cid CidFault} (Ok c) (Ok d) = sym is ∙ ap cid_of_text e ∙ text_again d good in
              let one : d ≡ c = cc in
              bad (subst IsCid one good),
        )

-- ---- whether a CID is behind others

is-above : (pins : List Cid) (c : Cid) → IsAbove pins c ⊎ (IsAbove pins c → ⊥)
is-above [] c = inl tt
is-above (p ∷ pins) c = by (slice_cmp nat_cmp (cid_text p) (cid_text c)) refl (is-above pins c)
  where
    by : (o : Ordering) → slice_cmp nat_cmp (cid_text p) (cid_text c) ≡ o → IsAbove pins c ⊎ (IsAbove pins c → ⊥) → IsAbove (p ∷ pins) c ⊎ (IsAbove (p ∷ pins) c → ⊥)
    by Less is (inl above) = inl (is, above)
    by Less is (inr not) = inr (λ h. not h.1)
    by Equal is above = inr (λ h. let e : Equal ≡ Less = sym is ∙ h.0 in cc)
    by Greater is above = inr (λ h. let e : Greater ≡ Less = sym is ∙ h.0 in cc)

-- ---- lines, one after the other

module _ (bytes : List ℕ) where
  abbrev Decided : Type 0
  Decided = IsNoText bytes ⊎ ((pins : List Cid) × IsTextOf bytes pins)

  abbrev Again : ℕ → Type 0
  Again fuel = (after : List ℕ) (pins : List Cid) → length after ≤ fuel → ReadsTo bytes pins after → Decided

  lines-read : (fuel : ℕ) (rest : List ℕ) (pins : List Cid) → length rest ≤ fuel → ReadsTo bytes pins rest → Decided
  lines-read fuel [] pins few front = inr (pins, reads-all bytes [] pins front refl)
  lines-read zero (b ∷ rest) pins few front = absurd (omega (arith, few))
  lines-read (suc fuel) (b ∷ rest) pins few front = by (λ after pins less front. lines-read fuel after pins less front) (line_at (b ∷ rest)) refl
    where
      ordered : Again fuel → (c : Cid) (after : List ℕ) → BeginsLine (b ∷ rest) (Some (c, after)) → IsAbove pins c ⊎ (IsAbove pins c → ⊥) → Decided
      ordered again c after line (inl above) =
          let long : length (b ∷ rest) ≡ length (line_of c ++ after) = ap length line.1 in
          let sum = length-append (line_of c) after in
          let feed = length-append (cid_text c) (10 ∷ []) in
          again after (pins ++ c ∷ []) (omega (arith, long, sum, feed, few)) (reads-on bytes (b ∷ rest) after pins (pins ++ c ∷ []) c front line above refl)
      ordered again c after line (inr not) = inl (order-no-text bytes (length pins + 2) (record {
        pins = pins;
        cid = c;
        whole = line.0;
        behind = after;
        front = subst (ReadsTo bytes pins) line.1 front;
        number = refl;
        not_above = not;
      }))

      named : Again fuel → (x : List ℕ × List ℕ) → line_at (b ∷ rest) ≡ Some x → (c : Option Cid) × Spells x.0 c → Decided
      named again x is s = one s.0 s.1
        where
          one : (c : Option Cid) → Spells x.0 c → Decided
          one None none = inl (line-no-text bytes (length pins + 2) (record {
            pins = pins;
            rest = b ∷ rest;
            front = front;
            number = refl;
            some = λ e. cc;
            no_line = line-other (b ∷ rest) x.0 x.1 is none;
          }))
          one (Some c) good = ordered again c x.1 (line-some (b ∷ rest) x.0 x.1 c is good) (is-above pins c)

      by : Again fuel → (o : Option (List ℕ × List ℕ)) → line_at (b ∷ rest) ≡ o → Decided
      by again None is = inl (line-no-text bytes (length pins + 2) (record {
        pins = pins;
        rest = b ∷ rest;
        front = front;
        number = refl;
        some = λ e. cc;
        no_line = line-none (b ∷ rest) is;
      }))
      by again (Some x) is = named again x is (spelled x.0)

-- ---- the first line

begun : (front bytes : List ℕ) → ((rest : List ℕ) × (bytes ≡ front ++ rest)) ⊎ ((rest : List ℕ) → bytes ≢ front ++ rest)
begun [] bytes = inl (bytes, refl)
begun (f ∷ front) [] = inr (λ rest e. cc)
begun (f ∷ front) (b ∷ bytes) = by (is-size b f) (begun front bytes)
  where
    by : (b ≡ f) ⊎ (b ≡ f → ⊥) → ((rest : List ℕ) × (bytes ≡ front ++ rest)) ⊎ ((rest : List ℕ) → bytes ≢ front ++ rest)
        → ((rest : List ℕ) × (b ∷ bytes ≡ (f ∷ front) ++ rest)) ⊎ ((rest : List ℕ) → b ∷ bytes ≢ (f ∷ front) ++ rest)
    by (inl same) (inl found) = inl (found.0, λ i. same i ∷ found.1 i)
    by (inl same) (inr none) = inr (λ rest e. none rest (let k : bytes ≡ front ++ rest = cc in k))
    by (inr differ) found = inr (λ rest e. differ (let k : b ≡ f = cc in k))

text-read : (bytes : List ℕ) → IsNoText bytes ⊎ ((pins : List Cid) × IsTextOf bytes pins)
text-read bytes = by (begun first_line bytes)
  where
    by : ((rest : List ℕ) × (bytes ≡ first_line ++ rest)) ⊎ ((rest : List ℕ) → bytes ≢ first_line ++ rest) → IsNoText bytes ⊎ ((pins : List Cid) × IsTextOf bytes pins)
    by (inl found) = lines-read bytes (length found.0) found.0 [] (omega arith) (reads-first bytes found.0 [] found.1 refl)
    by (inr none) = inl (version-no-text bytes none)

-- what a note is read as
pub note-read : (noted : Option (List ℕ)) → (pins : Option (List Cid)) × IsReadAs noted pins
note-read None = (Some [], refl)
note-read (Some text) = by (text-read text)
  where
    by : IsNoText text ⊎ ((pins : List Cid) × IsTextOf text pins) → (pins : Option (List Cid)) × IsReadAs (Some text) pins
    by (inl none) = (None, none)
    by (inr found) = (Some found.0, found.1)
