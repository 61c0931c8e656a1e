-- The sections of a CAR, one after another.
use Rattle.std.proofs.Common.{◌≡◌, ℕ, zero, suc, ◌+◌, ◌-◌, ◌≤◌, ◌<◌, List, [], ◌∷◌, ◌++◌, length, take, drop, Bool, true, false, refl, sym, ap, subst, ◌∙◌, arith, append_assoc, append-nil, length-append, length-drop, Ok, Err}
use Rattle.std.proofs.lemmas.List.{drop_at, take_at}
use Rattle.std.specs.Prelude.{nat_lt, nat_eq, Some, None, Option, IfSome, if◌then◌else◌}
use Rattle.std.specs.Cmp.Lexicographic.{pointwise}
use Rattle.uf_cid.specs.Blocks.{Held}
use Rattle.uf_cid.specs.declared.cid.Cid.{Cid}
use Rattle.uf_store.specs.Contents.{Contents, Told, changed, with_save}
use Rattle.uf_store.specs.Keeping.{HoldsOne}
use Rattle.uf_car.specs.declared.fault.CarFault.{CarFault}
use Rattle.uf_car.specs.declared.fault.CarFault.TheVariants as fault
use Rattle.uf_car.specs.declared.section.Opening.{Opening}
use Rattle.uf_car.specs.declared.section.Opening.TheVariants.{End, Cut, Wrong, Found}
use Rattle.uf_car.specs.Importing.{ClashesFirst, GoesOn, IsAtLast, KeepsAll, KeepsSection, RefusesCar, RefusesSection, cut_fault, behind_done, section_said, no_more, stops, store_fault, with_saves}
use Rattle.uf_car.specs.Reading.{NothingLeft, EndsInside, Has, IsWrong, Read, Section, and_section, checked, ended_over, opening_of, read_on, section_of, sections_of, sections_within, with_opening, within_section}
use Rattle.uf_car.specs.Windows.{Ahead}
use Rattle.uf_car.proofs.Openings.{opening_none, opening_within}
use Rattle.uf_car.proofs.Stops.{clash_as}

module _ (hash : List ℕ → List ℕ) where
  -- a section has a byte or more
  has_some : (place : ℕ) (bytes : List ℕ) (b : Held) (used : ℕ) → section_of hash place bytes ≡ Has b used → 0 < used
  has_some place bytes b used e = by (opening_of place bytes) (opening_within place bytes) e
    where
      by : (o : Opening) → within_section o → with_opening hash place bytes o ≡ Has b used → 0 < used
      by End w is = cc
      by Cut w is = cc
      by (Wrong f) w is = cc
      by (Found c front size) w is = there (nat_lt (length bytes) (front + size)) is
        where
          there : (x : Bool) → (elim x as (λ y. Section) [ true ↦ EndsInside | false ↦ checked hash place c (take size (drop front bytes)) (front + size) ]) ≡ Has b used → 0 < used
          there true q = cc
          there false q = good (pointwise nat_eq (hash (take size (drop front bytes))) c.digest) q
            where
              block : Held
              block = (c, take size (drop front bytes))

              good : (z : Bool) → (if z then Has (c, take size (drop front bytes)) (front + size) else IsWrong (fault.WrongDigest place c)) ≡ Has b used → 0 < used
              good true p = let same : front + size ≡ used = cc in omega (arith, w.0)
              good false p = cc

  section_none : (place : ℕ) → section_of hash place [] ≡ NothingLeft
  section_none place = ap (with_opening hash place []) (opening_none place [] refl)

  module _ (over : Bool) where
    -- how many sections there may be doesn't matter, where there are enough
    within_none : (n place : ℕ) → sections_within hash over n place [] ≡ record { sections = []; answer = ended_over over (Ok tt) }
    unfolding sections_within
    within_none zero place = refl
    within_none (suc n) place = ap (read_on (λ at rest. sections_within hash over n at rest) over place []) (section_none place)

    read_on_same : (n m place : ℕ) (bytes : List ℕ) (s : Section) → ((b : Held) (used : ℕ) → s ≡ Has b used → sections_within hash over n (place + used) (drop used bytes) ≡ sections_within hash over m (place + used) (drop used bytes))
        → read_on (λ at rest. sections_within hash over n at rest) over place bytes s ≡ read_on (λ at rest. sections_within hash over m at rest) over place bytes s
    read_on_same n m place bytes NothingLeft h = refl
    read_on_same n m place bytes EndsInside h = refl
    read_on_same n m place bytes (IsWrong f) h = refl
    read_on_same n m place bytes (Has b used) h = ap (and_section b) (h b used refl)

    enough : (n m place : ℕ) (bytes : List ℕ) → length bytes ≤ n → length bytes ≤ m → sections_within hash over n place bytes ≡ sections_within hash over m place bytes
    unfolding sections_within
    enough n m place [] hn hm = within_none n place ∙ sym (within_none m place)
    enough zero m place (b ∷ bytes) hn hm = absurd (omega arith)
    enough (suc n) zero place (b ∷ bytes) hn hm = absurd (omega arith)
    enough (suc n) (suc m) place (b ∷ bytes) hn hm =
        read_on_same n m place (b ∷ bytes) (section_of hash place (b ∷ bytes))
        (λ block used is. enough n m (place + used) (drop used (b ∷ bytes))
        (let some : 0 < used = has_some place (b ∷ bytes) block used is in let left : length (drop used (b ∷ bytes)) ≡ length (b ∷ bytes) - used = length-drop used (b ∷ bytes) in omega (arith, some, left))
        (let some : 0 < used = has_some place (b ∷ bytes) block used is in let left : length (drop used (b ∷ bytes)) ≡ length (b ∷ bytes) - used = length-drop used (b ∷ bytes) in omega (arith, some, left)))

    -- the sections of some bytes are the first, and those of the bytes behind it
    pub sections_step : (place : ℕ) (bytes : List ℕ) → sections_of hash over place bytes ≡ read_on (λ at rest. sections_of hash over at rest) over place bytes (section_of hash place bytes)
    unfolding sections_within
    sections_step place [] = sym (ap (read_on (λ at rest. sections_of hash over at rest) over place []) (section_none place))
    sections_step place (b ∷ bytes) = by (section_of hash place (b ∷ bytes)) refl
      where
        by : (s : Section) → section_of hash place (b ∷ bytes) ≡ s
            → read_on (λ at rest. sections_within hash over (length bytes) at rest) over place (b ∷ bytes) s ≡ read_on (λ at rest. sections_of hash over at rest) over place (b ∷ bytes) s
        by NothingLeft is = refl
        by EndsInside is = refl
        by (IsWrong f) is = refl
        by (Has block used) is =
            let some : 0 < used = has_some place (b ∷ bytes) block used is in
            let left : length (drop used (b ∷ bytes)) ≡ length (b ∷ bytes) - used = length-drop used (b ∷ bytes) in
            ap (and_section block) (enough (length bytes) (length (drop used (b ∷ bytes))) (place + used) (drop used (b ∷ bytes)) (omega (arith, some, left)) (omega arith))

-- ---- what was kept

with_saves-more : (done : List Held) (b : Held) (t : Contents) → with_saves (done ++ b ∷ []) t ≡ with_save b.0 b.1 (with_saves done t)
with_saves-more [] b t = refl
with_saves-more (d ∷ done) b t = with_saves-more done b (with_save d.0 d.1 t)

pub saved_more : (done : List Held) (b : Held) (told mid now : Told) → mid ≡ changed (with_saves done) told → now ≡ changed (with_save b.0 b.1) mid → now ≡ changed (with_saves (done ++ b ∷ [])) told
saved_more done b told mid now before is = is ∙ ap (changed (with_save b.0 b.1)) before ∙ by told
  where
    by : (t : Told) → changed (with_save b.0 b.1) (changed (with_saves done) t) ≡ changed (with_saves (done ++ b ∷ [])) t
    by None = refl
    by (Some t) = ap Some (sym (with_saves-more done b t))

pub saved_none : (told : Told) → told ≡ changed (with_saves []) told
saved_none None = refl
saved_none (Some t) = refl

module _ (hash : List ℕ → List ℕ) (start : ℕ) (first : Ahead) where
  pub goes_first : (told : Told) (now : Option Ahead) → now ≡ Some first → GoesOn hash start first start now told told 0
  goes_first told now e = record { done = []; rest = first.0; is_ahead = e; so_far = refl; kept = saved_none told; count = refl }

  module _ (place : ℕ) (now later : Option Ahead) (told mid last : Told) (blocks : ℕ) (g : GoesOn hash start first place now told mid blocks) where
    ahead_is : Ahead
    ahead_is = (g.rest, first.1)

    -- one section more
    pub goes_more : (used : ℕ) → KeepsSection hash place used (g.rest, first.1) later mid last → GoesOn hash start first (place + used) later told last (blocks + 1)
    goes_more used k = record {
      done = g.done ++ k.block ∷ [];
      rest = drop used g.rest;
      is_ahead = k.rest;
      so_far = g.so_far ∙ ap (behind_done g.done) (sections_step hash first.1 place g.rest ∙ ap (read_on (λ at rest. sections_of hash first.1 at rest) first.1 place g.rest) k.has)
          ∙ (λ i. record { sections = sym (append_assoc g.done (k.block ∷ []) (sections_of hash first.1 (place + used) (drop used g.rest)).sections) i; answer = (sections_of hash first.1 (place + used) (drop used g.rest)).answer });
      kept = saved_more g.done k.block told mid last g.kept k.kept;
      count = let size : length (g.done ++ k.block ∷ []) ≡ length g.done + 1 = length-append g.done (k.block ∷ []) in omega (arith, size, g.count);
    }

    -- no section is left
    pub goes_last : IsAtLast hash place (g.rest, first.1) later mid last → KeepsAll (sections_of hash first.1 start first.0) tt blocks told last
    goes_last k =
        let none : g.rest ≡ [] = ap (λ (x : Ahead). x.0) k.none in
        let over : first.1 ≡ false = ap (λ (x : Ahead). x.1) k.none in
        let whole : sections_of hash first.1 start first.0 ≡ record { sections = g.done; answer = Ok tt } =
        g.so_far ∙ ap (behind_done g.done) (sections_step hash first.1 place g.rest ∙ ap (λ (xs : List ℕ). read_on (λ at rest. sections_of hash first.1 at rest) first.1 place xs (section_of hash place xs)) none
        ∙ ap (read_on (λ at rest. sections_of hash first.1 at rest) first.1 place []) (section_none hash place))
        ∙ (λ i. record { sections = append-nil g.done i; answer = ended_over (over i) (Ok tt) })
        in
        record {
          said = ap (λ (r : Read Unit). r.answer) whole;
          count = g.count ∙ ap (λ (r : Read Unit). length r.sections) (sym whole);
          kept = k.same_told ∙ g.kept ∙ ap (λ (r : Read Unit). changed (with_saves r.sections) told) (sym whole);
        }

    -- a section was refused
    refused_is : (f : CarFault) (s : Section) → section_said first.1 place s ≡ Err f → read_on (λ at rest. sections_of hash first.1 at rest) first.1 place g.rest s ≡ record { sections = []; answer = Err f }
    refused_is f NothingLeft e = by first.1 e
      where
        by : (x : Bool) → no_more {A = Held × ℕ} x ≡ Err f → ◌≡◌ {A = Read Unit} (record { sections = []; answer = ended_over x (Ok tt) }) (record { sections = []; answer = Err f })
        by true is = let same : fault.TooLong ≡ f = cc in λ i. record { sections = []; answer = Err (same i) }
        by false is = cc
    refused_is f EndsInside e = by first.1 (let same : cut_fault first.1 place ≡ f = cc in same)
      where
        by : (x : Bool) → cut_fault x place ≡ f → ◌≡◌ {A = Read Unit} (record { sections = []; answer = ended_over x (Err (fault.Truncated place)) }) (record { sections = []; answer = Err f })
        by true is = λ i. record { sections = []; answer = Err (is i) }
        by false is = λ i. record { sections = []; answer = Err (is i) }
    refused_is f (IsWrong w) e = let same : w ≡ f = cc in λ i. record { sections = []; answer = Err (same i) }
    refused_is f (Has b used) e = cc

    pub goes_wrong : (f : CarFault) → RefusesSection hash place (g.rest, first.1) f mid last → RefusesCar (sections_of hash first.1 start first.0) f told last
    goes_wrong f k = record {
      said = λ plain. ap (λ (r : Read Unit). r.answer) (whole plain);
      kept = record {
        count = length g.done;
        few = ap-few;
        kept = k.same_told ∙ g.kept ∙ ap (λ (xs : List Held). changed (with_saves xs) told) (sym (take_at g.done (sections_of hash first.1 place g.rest).sections (length g.done) refl) ∙ ap (λ (r : Read Unit). take (length g.done) r.sections) (sym g.so_far));
        all = λ plain. ap (λ (r : Read Unit). length r.sections) (sym (whole plain));
        next = subst (λ (xs : List Held). IfSome (store_fault f) (ClashesFirst xs last)) (sym left_is) (clash_as InFront First in-front (store_fault f) k.clash);
      };
    }
      where
        rest : List Held
        rest = (sections_of hash first.1 place g.rest).sections

        left_is : drop (length g.done) (sections_of hash first.1 start first.0).sections ≡ rest
        left_is = ap (λ (r : Read Unit). drop (length g.done) r.sections) g.so_far ∙ drop_at g.done rest (length g.done) refl

        InFront : Cid → List ℕ → List ℕ → Type 0
        InFront c a b = (used : ℕ) × (section_of hash place g.rest ≡ Has (c, b) used) × HoldsOne mid c a

        First : Cid → List ℕ → List ℕ → Type 0
        First c a b = (more : List Held) × (rest ≡ (c, b) ∷ more) × HoldsOne last c a

        in-front : (c : Cid) (a b : List ℕ) → InFront c a b → First c a b
        in-front c a b h = (
          (sections_of hash first.1 (place + h.0) (drop h.0 g.rest)).sections,
          ap (λ (r : Read Unit). r.sections) (sections_step hash first.1 place g.rest ∙ ap (read_on (λ at bytes. sections_of hash first.1 at bytes) first.1 place g.rest) h.1),
          subst (λ t. HoldsOne t c a) (sym k.same_told) h.2,
        )

        whole : stops f ≡ false → sections_of hash first.1 start first.0 ≡ record { sections = g.done; answer = Err f }
        whole plain = g.so_far ∙ ap (behind_done g.done) (sections_step hash first.1 place g.rest ∙ refused_is f (section_of hash place g.rest) (k.said plain)) ∙ (λ i. record { sections = append-nil g.done i; answer = Err f })

        ap-few : length g.done ≤ length (sections_of hash first.1 start first.0).sections
        ap-few =
            let same : length (sections_of hash first.1 start first.0).sections ≡ length (g.done ++ (sections_of hash first.1 place g.rest).sections) = ap (λ (r : Read Unit). length r.sections) g.so_far in
            let size : length (g.done ++ (sections_of hash first.1 place g.rest).sections) ≡ length g.done + length (sections_of hash first.1 place g.rest).sections = length-append g.done (sections_of hash first.1 place g.rest).sections in
            omega (arith, same, size)
