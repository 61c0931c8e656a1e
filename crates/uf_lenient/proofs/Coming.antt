-- Files read node by node.
use Rattle.std.proofs.Common.{◌≡◌, inl, inr, ℕ, suc, pred, ◌+◌, ◌-◌, ◌≤◌, List, [], ◌∷◌, ◌++◌, drop, get_or, length, take, reverse, refl, sym, ap, subst, ◌∙◌, arith, Result, Ok, Err, append_assoc, length-append, set}
use Rattle.std.proofs.lemmas.List.{length-reverse, reverse-append, set_at, take_rest}
use Rattle.std.specs.Prelude.{Option, Some, None, OnOk, slice_get}
use Rattle.uf_cid.specs.declared.bytes.Memory.{Memory}
use Rattle.uf_cid.specs.Blocks.{Lookup}
use Rattle.uf_dagpb.specs.declared.node.Link.{Link}
use Rattle.uf_lenient.specs.declared.due.Due.{Due}
use Rattle.uf_lenient.specs.declared.fault.DagFault.{DagFault}
use Rattle.uf_lenient.specs.Answers.{IsFault}
use Rattle.uf_lenient.specs.Pending.{all_bytes, due_bytes, own_part, parts_due}
use Rattle.uf_lenient.specs.Reading.{◌>>◌, Visits, answered, joined_parts, part_bytes}
use Rattle.uf_lenient.specs.Steps.{Rest, prefixed, to_come}
use Rattle.uf_lenient.proofs.Ends.{bytes-step, less-one, with_below}

-- bytes in front of what is read behind them
abbrev behind : (ℕ → Visits (List ℕ)) → List ℕ → ℕ → Visits (List ℕ)
behind later bytes m = later m >> λ more k. Ok (bytes ++ more, k)

nothing-front : (r : Visits (List ℕ)) → (r >> λ more k. Ok ([] ++ more, k)) ≡ r
nothing-front (Ok x) = refl
nothing-front (Err e) = refl

-- ---- what is on top

some_else : Due → Option Due → Due
some_else e None = e
some_else e (Some y) = y

same_some : (x y : Due) → Some x ≡ Some y → x ≡ y
unfolding some_else
same_some x y is = ap (some_else x) is

abbrev Is_none : Option Due → Type 0
Is_none None = Unit {0}
Is_none (Some x) = ⊥

none_some : (d : Due) → None ≡ Some d → ⊥
none_some d is = subst Is_none is tt

pub first-is : (l : List Due) (d : Due) → slice_get l 0 ≡ Some d → l ≡ d ∷ drop 1 l
first-is [] d is = absurd (none_some d is)
first-is (x ∷ l) d is = ap (λ (y : Due). y ∷ l) (same_some x d is)

pub none-first : (l : List Due) → slice_get l 0 ≡ None → l ≡ []
none-first [] is = refl
none-first (x ∷ l) is = absurd (none_some x (sym is))

module _ (held : Lookup) where
  all_bytes-append : (xs ys : List Due) (n : ℕ) → all_bytes held (xs ++ ys) n ≡ (all_bytes held xs n >> behind (all_bytes held ys))
  all_bytes-append [] ys n = sym (nothing-front (all_bytes held ys n))
  all_bytes-append (x ∷ xs) ys n = inside (due_bytes held x n) (λ m. all_bytes-append xs ys m)
    where
      last : (b : List ℕ) (r : Visits (List ℕ)) (later : ℕ → Visits (List ℕ)) → ((r >> behind later) >> λ more k. Ok (b ++ more, k)) ≡ ((r >> λ more k. Ok (b ++ more, k)) >> behind later)
      last b (Err e) later = refl
      last b (Ok y) later = third (later y.1)
        where
          third : (r : Visits (List ℕ)) → ((r >> λ more k. Ok (y.0 ++ more, k)) >> λ more k. Ok (b ++ more, k)) ≡ (r >> λ more k. Ok ((b ++ y.0) ++ more, k))
          third (Ok z) = ap (λ (l : List ℕ). Ok (l, z.1)) (sym (append_assoc b y.0 z.0))
          third (Err e) = refl

      inside : (r : Visits (List ℕ)) → ((m : ℕ) → all_bytes held (xs ++ ys) m ≡ (all_bytes held xs m >> behind (all_bytes held ys))) → (r >> behind (all_bytes held (xs ++ ys))) ≡ ((r >> behind (all_bytes held xs)) >> behind (all_bytes held ys))
      inside (Ok y) ih = ap (λ (s : Visits (List ℕ)). s >> λ more k. Ok (y.0 ++ more, k)) (ih y.1) ∙ last y.0 (all_bytes held xs y.1) (all_bytes held ys)
      inside (Err e) ih = refl

  joined-bytes : (left : ℕ) (links : List Link) (n : ℕ) → joined_parts (part_bytes held left) links n ≡ all_bytes held (parts_due left links) n
  joined-bytes left [] n = refl
  joined-bytes left (l ∷ ls) n = inside (part_bytes held left l.cid n) (λ m. joined-bytes left ls m)
    where
      inside : (r : Visits (List ℕ)) → ((m : ℕ) → joined_parts (part_bytes held left) ls m ≡ all_bytes held (parts_due left ls) m) → (r >> behind (joined_parts (part_bytes held left) ls)) ≡ (r >> behind (all_bytes held (parts_due left ls)))
      inside (Ok y) ih = ap (λ (s : Visits (List ℕ)). s >> λ more k. Ok (y.0 ++ more, k)) (ih y.1)
      inside (Err e) ih = refl

  -- what is to come is the first node's own bytes, and what comes behind them
  front : (b : List ℕ) (r : Visits (List ℕ)) (later : ℕ → Visits (List ℕ)) → answered (λ (x : List ℕ). x) ((r >> λ more j. Ok (b ++ more, j)) >> behind later) ≡ prefixed b (answered (λ (x : List ℕ). x) (r >> behind later))
  front b (Err e) later = refl
  front b (Ok y) later = third (later y.1)
    where
      third : (r : Visits (List ℕ)) → answered (λ (x : List ℕ). x) (r >> λ more k. Ok ((b ++ y.0) ++ more, k)) ≡ prefixed b (answered (λ (x : List ℕ). x) (r >> λ more k. Ok (y.0 ++ more, k)))
      third (Ok z) = ap (λ (l : List ℕ). Ok l) (append_assoc b y.0 z.0)
      third (Err e) = refl

  pub come : (d : Due) (ds : List Due) (n : ℕ) (bytes : List ℕ) (links : List Link) (m : ℕ) → own_part held d n ≡ Ok ((bytes, links), m)
      → to_come held (d ∷ ds, n) ≡ prefixed bytes (to_come held (parts_due (d.left - 1) links ++ ds, m))
  come d ds n bytes links m is =
      ap (λ (r : Visits (List ℕ)). answered (λ (x : List ℕ). x) (r >> behind (all_bytes held ds))) (bytes-step held d n ∙ ap (λ r. r >> with_below held (pred d.left)) is)
      ∙ front bytes (joined_parts (part_bytes held (pred d.left)) links m) (all_bytes held ds)
      ∙ ap (λ (r : Visits (List ℕ)). prefixed bytes (answered (λ (x : List ℕ). x) (r >> behind (all_bytes held ds)))) (ap (λ l. joined_parts (part_bytes held l) links m) (sym (less-one d.left)) ∙ joined-bytes (d.left - 1) links m)
      ∙ ap (λ (r : Visits (List ℕ)). prefixed bytes (answered (λ (x : List ℕ). x) r)) (sym (all_bytes-append (parts_due (d.left - 1) links) ds m))

  pub comes-err : (d : Due) (ds : List Due) (n : ℕ) (fault : DagFault) → own_part held d n ≡ Err fault → to_come held (d ∷ ds, n) ≡ Err fault
  comes-err d ds n fault is = ap (λ (r : Visits (List ℕ)). answered (λ (x : List ℕ). x) (r >> behind (all_bytes held ds))) (bytes-step held d n ∙ ap (λ r. r >> with_below held (pred d.left)) is)

  comes_next : (old now : Rest) (d : Due) (bytes : List ℕ) (links put : List Link) (m : ℕ) → slice_get old.0 0 ≡ Some d → own_part held d old.1 ≡ Ok ((bytes, links), m) → put ≡ links → now.0 ≡ parts_due (d.left - 1) put ++ drop 1 old.0 → now.1 ≡ m
      → to_come held old ≡ prefixed bytes (to_come held now)
  comes_next old now d bytes links put m top is same due visits =
      ap (λ (l : List Due). to_come held (l, old.1)) (first-is old.0 d top)
      ∙ come d (drop 1 old.0) old.1 bytes links m is
      ∙ ap (λ (ls : List Link). prefixed bytes (to_come held (parts_due (d.left - 1) ls ++ drop 1 old.0, m))) (sym same)
      ∙ ap (λ (l : List Due). prefixed bytes (to_come held (l, m))) (sym due)
      ∙ ap (λ k. prefixed bytes (to_come held (now.0, k))) (sym visits)

  pub comes-next : (old now : Rest) (d : Due) (n : ℕ) (bytes : List ℕ) (links : List Link) (m : ℕ) → n ≡ old.1 → slice_get old.0 0 ≡ Some d → own_part held d n ≡ Ok ((bytes, links), m) → now.0 ≡ parts_due (d.left - 1) links ++ drop 1 old.0 → now.1 ≡ m
      → to_come held old ≡ prefixed bytes (to_come held now)
  comes-next old now d n bytes links m same top is due visits = comes_next old now d bytes links links m top (ap (λ k. own_part held d k) (sym same) ∙ is) refl due visits

  come_fault : (old : Rest) (d : Due) (fault : DagFault) → slice_get old.0 0 ≡ Some d → IsFault (own_part held d old.1) fault → IsFault (to_come held old) fault
  come_fault old d fault top (inl own) = inl own
  come_fault old d fault top (inr is) =
      inr (ap (λ (l : List Due). to_come held (l, old.1)) (first-is old.0 d top) ∙ ap (λ (r : Visits (List ℕ)). answered (λ (x : List ℕ). x) (r >> behind (all_bytes held (drop 1 old.0)))) (bytes-step held d old.1 ∙ ap (λ r. r >> with_below held (pred d.left)) is))

  pub come-fault : (old : Rest) (d : Due) (n : ℕ) (fault : DagFault) → n ≡ old.1 → slice_get old.0 0 ≡ Some d → IsFault (own_part held d n) fault → IsFault (to_come held old) fault
  come-fault old d n fault same top fails = come_fault old d fault top (subst (λ m. IsFault (own_part held d m) fault) same fails)

  pub none-comes : (old : Rest) → old.0 ≡ [] → to_come held old ≡ Ok []
  none-comes old is = ap (λ (l : List Due). to_come held (l, old.1)) is

-- ---- the pile after its top was replaced

snoc : (xs : List Due) → 1 ≤ length xs → (rest : List Due) × (top : Due) × (xs ≡ rest ++ top ∷ [])
snoc [] some = absurd (omega arith)
snoc (x ∷ []) some = ([], x, refl)
snoc (x ∷ y ∷ xs) some =
    let more = snoc (y ∷ xs) (one (length xs)) in
    (x ∷ more.0, more.1, ap (λ (l : List Due). x ∷ l) more.2)
  where
    one : (n : ℕ) → 1 ≤ suc n
    one n = omega arith

top_replaced : (xs : List Due) (lowest : Due) (above : List Due) → 1 ≤ length xs → reverse (set (xs ++ above) (length xs - 1) lowest) ≡ reverse (lowest ∷ above) ++ drop 1 (reverse xs)
top_replaced xs lowest above some =
    let s = snoc xs some in
    ap (λ (l : List Due). reverse (set (l ++ above) (length l - 1) lowest)) s.2
    ∙ ap reverse (ap (λ (l : List Due). set l (length (s.0 ++ s.1 ∷ []) - 1) lowest) (append_assoc s.0 (s.1 ∷ []) above) ∙ set_at s.0 s.1 above lowest (length (s.0 ++ s.1 ∷ []) - 1) (sym (less s.0 s.1)))
    ∙ reverse-append s.0 (lowest ∷ above)
    ∙ ap (λ (l : List Due). reverse (lowest ∷ above) ++ l) (sym (ap (λ (l : List Due). drop 1 l) (ap reverse s.2 ∙ reverse-append s.0 (s.1 ∷ []))))
  where
    less : (r : List Due) (t : Due) → length (r ++ t ∷ []) - 1 ≡ length r
    less r t = ap (λ n. n - 1) (length-append r (t ∷ [])) ∙ back (length r)
      where
        back : (n : ℕ) → n + 1 - 1 ≡ n
        back n = omega arith

first_rest : (ys : List Due) (d : Due) → 1 ≤ length ys → get_or ys 0 d ∷ drop 1 ys ≡ ys
first_rest [] d some = absurd (omega arith)
first_rest (x ∷ ys) d some = refl

pub replaced : (r : Result (Unit {0}) Memory) (xs ys shown now self others : List Due) (d : Due) → 1 ≤ length self → 1 ≤ length shown → shown ≡ ys → reverse xs ≡ self → reverse ys ≡ others
    → OnOk r (now ≡ set (xs ++ take (length shown - 1) (drop 1 shown)) (length xs - 1) (get_or shown 0 d)) → OnOk r (reverse now ≡ others ++ drop 1 self)
replaced (Err e) xs ys shown now self others d some any same old new is = tt
replaced (Ok u) xs ys shown now self others d some any same old new is =
    let long : 1 ≤ length xs = subst (λ n. 1 ≤ n) (ap length (sym old) ∙ length-reverse xs) some in
    ap reverse (is ∙ ap (λ (l : List Due). set (xs ++ l) (length xs - 1) (get_or shown 0 d)) (take_rest shown 1)) ∙ top_replaced xs (get_or shown 0 d) (drop 1 shown) long ∙ ap (λ (l : List Due). reverse l ++ drop 1 (reverse xs)) (first_rest shown d any ∙ same) ∙ ap (λ (l : List Due). l ++ drop 1 (reverse xs)) new ∙ ap (λ (l : List Due). others ++ drop 1 l) old
