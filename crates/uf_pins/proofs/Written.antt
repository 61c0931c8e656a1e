-- The note's text: its lines, and that a text is that of at most one list of pins.
use Rattle.std.proofs.Common.{◌≡◌, ◌≢◌, ◌↔◌, ℕ, zero, suc, ◌+◌, ◌-◌, slice_get, ◌<◌, ◌≤◌, List, [], ◌∷◌, ◌++◌, map, get_or, length, take, take-suc, Bool, true, false, cond, refl, sym, ap, subst, ◌∙◌, ◌⊎◌, inl, inr, Ok, Err, Result, arith, append_assoc, append-nil, add-one, nat_lt, ◌==◌}
use Rattle.std.specs.Prelude.{Some, None, Option, flat_map}
use Rattle.std.specs.List.{AllByRecursion}
use Rattle.std.specs.Option.{option_map}
use Rattle.std.specs.Ordering.{nat_cmp, ordering_reverse}
use Rattle.std.specs.Cmp.{IsTotalOrder}
use Rattle.std.specs.Cmp.Lexicographic.{slice_cmp, nat_list_cmp_total}
use Rattle.std.specs.declared.cmp.Ordering.{Ordering}
use Rattle.std.specs.declared.cmp.Ordering.TheVariants.{Less, Equal, Greater}
use Rattle.std.proofs.lemmas.Bool.{cases_Bool, eqb-true, eq-eqb, false_from_ne_true}
use Rattle.uf_cid.specs.Base32.{base32, bits, fives, letter}
use Rattle.uf_cid.specs.Cid.{cid_bytes, cid_text}
use Rattle.uf_cid.specs.Read.{IsCid, cid_of_text}
use Rattle.uf_cid.specs.declared.cid.Cid.{Cid}
use Rattle.uf_cid.specs.declared.cid.CidFault.{CidFault}
use Rattle.uf_cid.proofs.Again.{text_again}
use Rattle.uf_tree.specs.HeadReading.{line_at}
use Rattle.uf_pins.specs.declared.fault.PinsFault.{PinsFault}
use Rattle.uf_pins.specs.declared.fault.PinsFault.TheVariants as fault
use Rattle.uf_pins.specs.Reading.{BeginsNoLine, IsNoText, IsTextOf, ReadsPins, ReadsTo, Spells, BeginsLine, StopsAtLine, StopsAtOrder}
use Rattle.uf_pins.specs.Texts.{AreAscending, ArePins, IsAbove, IsBefore, first_line, line_of, lines_of, text_of}

-- ---- lines that are written

pub lines-append : (xs ys : List Cid) → lines_of (xs ++ ys) ≡ lines_of xs ++ lines_of ys
lines-append [] ys = refl
lines-append (c ∷ xs) ys = ap (λ (l : List ℕ). line_of c ++ l) (lines-append xs ys) ∙ sym (append_assoc (line_of c) (lines_of xs) (lines_of ys))

lines-one : (c : Cid) → lines_of (c ∷ []) ≡ line_of c
lines-one c = append-nil (line_of c)

pub lines-next : (cids : List Cid) (place : ℕ) (d : Cid) (text now : List ℕ) → place < length cids → text ≡ text_of (take place cids) → now ≡ text ++ line_of (get_or cids place d)
    → now ≡ text_of (take (place + 1) cids)
lines-next cids place d text now inside so put =
    let c = get_or cids place d in
    put ∙ ap (λ (l : List ℕ). l ++ line_of c) so ∙ append_assoc first_line (lines_of (take place cids)) (line_of c)
    ∙ ap (λ (l : List ℕ). first_line ++ l) (
    ap (λ (l : List ℕ). lines_of (take place cids) ++ l) (sym (lines-one c)) ∙ sym (lines-append (take place cids) (c ∷ []))
    ∙ ap lines_of (sym (ap (λ n. take n cids) (add-one place) ∙ take-suc cids place d inside)))

-- ---- texts without a line feed

abbrev NoFeed : List ℕ → Type 0
NoFeed text = AllByRecursion (λ b. (b == 10) ≡ false) text

other : (a b : ℕ) → a ≢ b → (a == b) ≡ false
other a b ne = false_from_ne_true (a == b) (λ t. ne (eqb-true a b t))

letter_plain : (n : ℕ) → (letter n == 10) ≡ false
letter_plain n = elim (nat_lt n 26) as (λ b. (cond b (97 + n) (24 + n) == 10) ≡ false) [ true ↦ other (97 + n) 10 (λ e. omega arith) | false ↦ other (24 + n) 10 (λ e. omega arith) ]

letters_plain : (ns : List ℕ) → NoFeed (map letter ns)
letters_plain [] = tt
letters_plain (n ∷ ns) = (letter_plain n, letters_plain ns)

cid_plain : (c : Cid) → NoFeed (cid_text c)
unfolding base32
cid_plain c = (refl, letters_plain (fives (flat_map bits (cid_bytes c))))

-- the line of a text without one
pub line-of-plain : (text rest : List ℕ) → NoFeed text → line_at (text ++ 10 ∷ rest) ≡ Some (text, rest)
unfolding line_at
line-of-plain [] rest plain = refl
line-of-plain (b ∷ text) rest plain =
    ap (λ x. cond x (Some ([], text ++ 10 ∷ rest)) (option_map (λ (x : List ℕ × List ℕ). (b ∷ x.0, x.1)) (line_at (text ++ 10 ∷ rest)))) plain.0
    ∙ ap (option_map (λ (x : List ℕ × List ℕ). (b ∷ x.0, x.1))) (line-of-plain text rest plain.1)

begins : (c : Cid) (behind rest : List ℕ) → rest ≡ line_of c ++ behind → line_at rest ≡ Some (cid_text c, behind)
begins c behind rest is = ap line_at (is ∙ append_assoc (cid_text c) (10 ∷ []) behind) ∙ line-of-plain (cid_text c) behind (cid_plain c)

some-pair : (x y : List ℕ × List ℕ) → Some x ≡ Some y → x ≡ y
some-pair x y e = cc

first-is : (a b c d : List ℕ) → ◌≡◌ {A = Option (List ℕ × List ℕ)} (Some (a, b)) (Some (c, d)) → a ≡ c
first-is a b c d e = ap (λ (x : List ℕ × List ℕ). x.0) (some-pair (a, b) (c, d) e)

second-is : (a b c d : List ℕ) → ◌≡◌ {A = Option (List ℕ × List ℕ)} (Some (a, b)) (Some (c, d)) → b ≡ d
second-is a b c d e = ap (λ (x : List ℕ × List ℕ). x.1) (some-pair (a, b) (c, d) e)

-- CIDs of one text are one
pub same_cid : (a b : Cid) → IsCid a → IsCid b → cid_text a ≡ cid_text b → a ≡ b
same_cid a b p q is = let both : ◌≡◌ {A = Result Cid CidFault} (Ok a) (Ok b) = sym (text_again a p) ∙ ap cid_of_text is ∙ text_again b q in cc

same_line : (a b : Cid) (r s : List ℕ) → IsCid a → IsCid b → line_of a ++ r ≡ line_of b ++ s → (a ≡ b) × (r ≡ s)
same_line a b r s p q is =
    let both : ◌≡◌ {A = Option (List ℕ × List ℕ)} (Some (cid_text a, r)) (Some (cid_text b, s)) = sym (begins a r (line_of a ++ r) refl) ∙ begins b s (line_of a ++ r) is in
    let text = first-is (cid_text a) r (cid_text b) s both in
    let rest = second-is (cid_text a) r (cid_text b) s both in
    (same_cid a b p q text, rest)

-- ---- a text is that of one list

some-line : (c : Cid) (r : List ℕ) → [] ≡ line_of c ++ r → ⊥
some-line c r is = cc

record IsMore (p q : List Cid) (rest : List ℕ) : Type 0 where
  more : List Cid
  list : q ≡ p ++ more
  whole : AllByRecursion IsCid more
  left : rest ≡ lines_of more

more_lines : (p q : List Cid) (rest : List ℕ) → AllByRecursion IsCid p → AllByRecursion IsCid q → lines_of p ++ rest ≡ lines_of q → IsMore p q rest
more_lines [] q rest are also is = record { more = q; list = refl; whole = also; left = is }
more_lines (c ∷ p) [] rest are also is = absurd (some-line c (lines_of p ++ rest) (sym (sym (append_assoc (line_of c) (lines_of p) rest) ∙ is)))
more_lines (c ∷ p) (d ∷ q) rest are also is =
    let one = same_line c d (lines_of p ++ rest) (lines_of q) are.0 also.0 (sym (append_assoc (line_of c) (lines_of p) rest) ∙ is) in
    let again = more_lines p q rest are.1 also.1 one.1 in
    record { more = again.more; list = (λ i. sym one.0 i ∷ again.list i); whole = again.whole; left = again.left }

front-off : (xs ys : List ℕ) → first_line ++ xs ≡ first_line ++ ys → xs ≡ ys
front-off xs ys is = cc

text-more : (bytes rest : List ℕ) (p q : List Cid) → ReadsTo bytes p rest → ArePins q → bytes ≡ text_of q → IsMore p q rest
text-more bytes rest p q front also is =
    more_lines p q rest front.are.whole also.whole
    (front-off (lines_of p ++ rest) (lines_of q) (sym (append_assoc first_line (lines_of p) rest) ∙ sym front.text ∙ is))

pub one-list : (bytes : List ℕ) (a b : List Cid) → IsTextOf bytes a → IsTextOf bytes b → a ≡ b
one-list bytes a b p q =
    let m = text-more bytes [] a b (record { are = p.are; text = p.text ∙ sym (append-nil (text_of a)) }) q.are q.text in
    by m.more m.list m.left
  where
    by : (more : List Cid) → b ≡ a ++ more → [] ≡ lines_of more → a ≡ b
    by [] list left = sym (list ∙ append-nil a)
    by (c ∷ more) list left = absurd (some-line c (lines_of more) left)

pub line-no-text : (bytes : List ℕ) (n : ℕ) → StopsAtLine bytes n → IsNoText bytes
line-no-text bytes n s q also is =
    let m = text-more bytes s.rest s.pins q s.front also is in
    by m.more m.whole m.left
  where
    by : (more : List Cid) → AllByRecursion IsCid more → s.rest ≡ lines_of more → ⊥
    by [] whole left = s.some left
    by (c ∷ more) whole left = s.no_line c (lines_of more) whole.0 left

above-front : (p : List Cid) (c : Cid) (more : List Cid) → AreAscending (p ++ c ∷ more) → IsAbove p c
above-front [] c more h = tt
above-front (d ∷ p) c more h = (at-end p h.0, above-front p c more h.1)
  where
    at-end : (xs : List Cid) → AllByRecursion (IsBefore d) (xs ++ c ∷ more) → IsBefore d c
    at-end [] k = k.0
    at-end (x ∷ xs) k = at-end xs k.1

pub order-no-text : (bytes : List ℕ) (n : ℕ) → StopsAtOrder bytes n → IsNoText bytes
order-no-text bytes n s q also is =
    let m = text-more bytes (line_of s.cid ++ s.behind) s.pins q s.front also is in
    by m.more m.list m.whole m.left
  where
    by : (more : List Cid) → q ≡ s.pins ++ more → AllByRecursion IsCid more → line_of s.cid ++ s.behind ≡ lines_of more → ⊥
    by [] list whole left = some-line s.cid s.behind (sym left)
    by (d ∷ more) list whole left =
        let one = same_line s.cid d s.behind (lines_of more) s.whole whole.0 left in
        s.not_above (above-front s.pins s.cid more (subst AreAscending (list ∙ λ i. s.pins ++ sym one.0 i ∷ more) also.ascending))

pub version-no-text : (bytes : List ℕ) → ((rest : List ℕ) → bytes ≢ first_line ++ rest) → IsNoText bytes
version-no-text bytes h q also is = h (lines_of q) is

-- a fault of the reader is that of no text
pub refused : (bytes : List ℕ) (f : PinsFault) → ReadsPins bytes (Err f) → (f ≡ fault.Memory) ⊎ IsNoText bytes
refused bytes fault.Version h = inr (version-no-text bytes h)
refused bytes (fault.Line n) h = inr (line-no-text bytes n h)
refused bytes (fault.Order n) h = inr (order-no-text bytes n h)
refused bytes fault.Memory h = inl refl

-- ---- lines that are read

-- the bytes in front of a line feed
pub line-is : (bytes text rest : List ℕ) → line_at bytes ≡ Some (text, rest) → bytes ≡ text ++ 10 ∷ rest
unfolding line_at
line-is [] text rest is = cc
line-is (b ∷ bytes) text rest is = by (λ text rest is. line-is bytes text rest is) (cases_Bool (b == 10)) (line_at bytes) refl
  where
    by : ((text rest : List ℕ) → line_at bytes ≡ Some (text, rest) → bytes ≡ text ++ 10 ∷ rest) → ((b == 10) ≡ true) ⊎ ((b == 10) ≡ false)
        → (o : Option (List ℕ × List ℕ)) → line_at bytes ≡ o → b ∷ bytes ≡ text ++ 10 ∷ rest
    by again (inl t) o found =
        let here : ◌≡◌ {A = Option (List ℕ × List ℕ)} (Some ([], bytes)) (Some (text, rest)) = sym (ap (λ x. cond x (Some ([], bytes)) (option_map (λ (x : List ℕ × List ℕ). (b ∷ x.0, x.1)) (line_at bytes))) t) ∙ is in
        let none = first-is [] bytes text rest here in
        let all = second-is [] bytes text rest here in
        let first : b ≡ 10 = eqb-true b 10 t in
        (λ i. first i ∷ all i) ∙ ap (λ (l : List ℕ). l ++ 10 ∷ rest) none
    by again (inr f) None found =
        let no : ◌≡◌ {A = Option (List ℕ × List ℕ)} None (Some (text, rest)) = sym (ap (λ x. cond x (Some ([], bytes)) (option_map (λ (x : List ℕ × List ℕ). (b ∷ x.0, x.1)) (line_at bytes))) f ∙ ap (option_map (λ (x : List ℕ × List ℕ). (b ∷ x.0, x.1))) found) ∙ is in absurd cc
    by again (inr f) (Some x) found =
        let one : ◌≡◌ {A = Option (List ℕ × List ℕ)} (Some (b ∷ x.0, x.1)) (Some (text, rest)) = sym (ap (λ x. cond x (Some ([], bytes)) (option_map (λ (x : List ℕ × List ℕ). (b ∷ x.0, x.1)) (line_at bytes))) f ∙ ap (option_map (λ (x : List ℕ × List ℕ). (b ∷ x.0, x.1))) found) ∙ is in
        let front = first-is (b ∷ x.0) x.1 text rest one in
        let behind = second-is (b ∷ x.0) x.1 text rest one in
        let so : bytes ≡ x.0 ++ 10 ∷ x.1 = again x.0 x.1 found in
        (λ i. b ∷ so i) ∙ (λ i. front i ++ 10 ∷ behind i)

-- the first line, where it is that of a CID, and where it isn't
pub line-none : (bytes : List ℕ) → line_at bytes ≡ None → BeginsNoLine bytes
line-none bytes none c behind whole is = let no : ◌≡◌ {A = Option (List ℕ × List ℕ)} None (Some (cid_text c, behind)) = sym none ∙ begins c behind bytes is in absurd cc

pub line-other : (bytes text rest : List ℕ) → line_at bytes ≡ Some (text, rest) → Spells text None → BeginsNoLine bytes
line-other bytes text rest found no_cid c behind whole is =
    let one : ◌≡◌ {A = Option (List ℕ × List ℕ)} (Some (text, rest)) (Some (cid_text c, behind)) = sym found ∙ begins c behind bytes is in
    no_cid c whole (first-is text rest (cid_text c) behind one)

pub line-some : (bytes text rest : List ℕ) (c : Cid) → line_at bytes ≡ Some (text, rest) → Spells text (Some c) → BeginsLine bytes (Some (c, rest))
line-some bytes text rest c found spells =
    (spells.0, line-is bytes text rest found ∙ ap (λ (l : List ℕ). l ++ 10 ∷ rest) spells.1 ∙ sym (append_assoc (cid_text c) (10 ∷ []) rest))

-- ---- pins in order

pub before-trans : (a b c : Cid) → IsBefore a b → IsBefore b c → IsBefore a c
before-trans a b c p q = nat_list_cmp_total.trans (cid_text a) (cid_text b) (cid_text c) p q

ascending-more : (pins : List Cid) (c : Cid) → AreAscending pins → IsAbove pins c → AreAscending (pins ++ c ∷ [])
ascending-more [] c h above = (tt, tt)
ascending-more (p ∷ pins) c h above = (at-end pins h.0, ascending-more pins c h.1 above.1)
  where
    at-end : (xs : List Cid) → AllByRecursion (IsBefore p) xs → AllByRecursion (IsBefore p) (xs ++ c ∷ [])
    at-end [] k = (above.0, tt)
    at-end (x ∷ xs) k = (k.0, at-end xs k.1)

pub all-more : (P : Cid → Type 0) (xs : List Cid) (c : Cid) → AllByRecursion P xs → P c → AllByRecursion P (xs ++ c ∷ [])
all-more P [] c h p = (p, tt)
all-more P (x ∷ xs) c h p = (h.0, all-more P xs c h.1 p)

-- one line more was read
pub reads-on : (bytes rest after : List ℕ) (pins now : List Cid) (c : Cid) → ReadsTo bytes pins rest → BeginsLine rest (Some (c, after)) → IsAbove pins c → now ≡ pins ++ c ∷ []
    → ReadsTo bytes now after
reads-on bytes rest after pins now c front line above is = record {
  are = record {
    ascending = subst AreAscending (sym is) (ascending-more pins c front.are.ascending above);
    whole = subst (AllByRecursion IsCid) (sym is) (all-more IsCid pins c front.are.whole line.0);
  };
  text = front.text ∙ ap (λ (l : List ℕ). text_of pins ++ l) line.1 ∙ sym (append_assoc (text_of pins) (line_of c) after)
      ∙ ap (λ (l : List ℕ). l ++ after) (append_assoc first_line (lines_of pins) (line_of c) ∙ ap (λ (l : List ℕ). first_line ++ l)
      (ap (λ (l : List ℕ). lines_of pins ++ l) (sym (lines-one c)) ∙ sym (lines-append pins (c ∷ [])) ∙ ap lines_of (sym is)));
}

pub reads-first : (bytes rest : List ℕ) (pins : List Cid) → bytes ≡ first_line ++ rest → pins ≡ [] → ReadsTo bytes pins rest
reads-first bytes rest pins is none = subst (λ (l : List Cid). ReadsTo bytes l rest) (sym none)
    (record { are = record { ascending = tt; whole = tt }; text = is ∙ ap (λ (l : List ℕ). l ++ rest) (sym (append-nil first_line)) })

pub reads-all : (bytes rest : List ℕ) (pins : List Cid) → ReadsTo bytes pins rest → rest ≡ [] → IsTextOf bytes pins
reads-all bytes rest pins front none = record { are = front.are; text = front.text ∙ ap (λ (l : List ℕ). text_of pins ++ l) none ∙ append-nil (text_of pins) }

-- a CID behind the last of pins in order is behind all of them
pub above-last : (front : List Cid) (p c : Cid) → AreAscending (front ++ p ∷ []) → IsBefore p c → IsAbove (front ++ p ∷ []) c
above-last [] p c h b = (b, tt)
above-last (q ∷ front) p c h b = (before-trans q p c (last-one front h.0) b, above-last front p c h.1 b)
  where
    last-one : (xs : List Cid) → AllByRecursion (IsBefore q) (xs ++ p ∷ []) → IsBefore q p
    last-one [] k = k.0
    last-one (x ∷ xs) k = last-one xs k.1

-- a CID is behind all pins in order exactly where it is behind the last
pub above-is : (pins : List Cid) (p c : Cid) → AreAscending pins → slice_get pins (length pins - 1) ≡ Some p → (IsBefore p c ↔ IsAbove pins c)
above-is [] p c up is = absurd (let no : None ≡ Some p = is in cc)
above-is (x ∷ []) p c up is = let same : x ≡ p = cc in (λ b. (subst (λ (y : Cid). IsBefore y c) (sym same) b, tt), λ h. subst (λ (y : Cid). IsBefore y c) same h.0)
above-is (x ∷ y ∷ pins) p c up is =
    let at : length (x ∷ y ∷ pins) - 1 ≡ suc (length (y ∷ pins) - 1) = omega arith in
    let again = above-is (y ∷ pins) p c up.1 (sym (ap (slice_get (x ∷ y ∷ pins)) at) ∙ is) in
    (λ b. let above = again.0 b in (before-trans x y c up.0.0 above.0, above), λ h. again.1 h.1)
