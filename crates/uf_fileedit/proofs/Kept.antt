-- What is held while a file is changed.
use Rattle.std.proofs.Common.{◌≡◌, ℕ, zero, suc, List, [], ◌∷◌, ◌++◌, refl, ap, sym, ◌∙◌, subst, None, Some, ◌⊎◌, inl, inr}
use Rattle.std.specs.Prelude.{IfSome}
use Rattle.std.specs.List.{AllByRecursion, flat_map}
use Rattle.uf_cid.specs.Blocks.{Held, Lookup}
use Rattle.uf_cid.specs.declared.cid.Cid.{Cid}
use Rattle.uf_store.specs.declared.store.StoreFault.{StoreFault}
use Rattle.uf_store.specs.declared.store.StoreFault.TheVariants.{Failed, Damaged, Missing, BadBlock, Clash, Memory}
use Rattle.uf_store.specs.Contents.{Told, held_at}
use Rattle.uf_store.specs.Keeping.{Agrees, AreGood, Holds, KeepsGood}
use Rattle.uf_store.specs.Lost.{IsLossOf, IsLost}
use Rattle.uf_store.proofs.Keeping.{Holds-kept}
use Rattle.uf_tree.specs.FilePlan.{groups}
use Rattle.uf_tree.specs.FileSub.{blocks_over, span}
use Rattle.uf_fileedit.specs.Changes.{IsIn, IsKnown}

-- ---- one of some blocks

pub in-front : (b : Held) (l m : List Held) → IsIn b l → IsIn b (l ++ m)
in-front b [] m h = absurd h
in-front b (c ∷ l) m (inl h) = inl h
in-front b (c ∷ l) m (inr h) = inr (in-front b l m h)

pub in-back : (b : Held) (l m : List Held) → IsIn b m → IsIn b (l ++ m)
in-back b [] m h = h
in-back b (c ∷ l) m h = inr (in-back b l m h)

pub in-either : (b : Held) (l m : List Held) → IsIn b (l ++ m) → IsIn b l ⊎ IsIn b m
in-either b [] m h = inr h
in-either b (c ∷ l) m (inl h) = inl (inl h)
in-either b (c ∷ l) m (inr h) = by (in-either b l m h)
  where
    by : IsIn b l ⊎ IsIn b m → ((b ≡ c) ⊎ IsIn b l) ⊎ IsIn b m
    by (inl k) = inl (inr k)
    by (inr k) = inr k

module _ (P : Held → Type 0) where
  pub all-in : (l : List Held) (b : Held) → AllByRecursion P l → IsIn b l → P b
  all-in [] b h k = absurd k
  all-in (c ∷ l) b h (inl k) = subst P (sym k) h.0
  all-in (c ∷ l) b h (inr k) = all-in l b h.1 k

  pub each-in : (l : List Held) → ((b : Held) → IsIn b l → P b) → AllByRecursion P l
  each-in [] h = tt
  each-in (c ∷ l) h = (h c (inl refl), each-in l (λ b k. h b (inr k)))

  pub all-append : (l m : List Held) → AllByRecursion P l → AllByRecursion P m → AllByRecursion P (l ++ m)
  all-append [] m h k = k
  all-append (c ∷ l) m h k = (h.0, all-append l m h.1 k)

-- ---- blocks that agree, and lost ones

pub agrees-among : (told : Told) (l olds : List Held) → ((b : Held) → IsIn b l → IsIn b olds) → Agrees told olds → Agrees told l
agrees-among None l olds among h = h
agrees-among (Some t) l olds among h = each-in (λ (b : Held). IfSome (held_at t b.0) (λ bytes. bytes ≡ b.1)) l (λ b k. all-in (λ (b : Held). IfSome (held_at t b.0) (λ bytes. bytes ≡ b.1)) olds b h (among b k))

-- a lost block, and which it is
record OneLost (held : Lookup) (c : Cid) (l : List Held) : Type 0 where
  block : Held
  is_in : IsIn block l
  cid_is : c ≡ block.0
  none : held block.0 ≡ None

the-lost : (held : Lookup) (c : Cid) (l : List Held) → IsLost held c l → OneLost held c l
the-lost held c [] h = absurd h
the-lost held c (b ∷ l) (inl h) = record { block = b; is_in = inl refl; cid_is = h.0; none = h.1 }
the-lost held c (b ∷ l) (inr h) = let one = the-lost held c l h in record { block = one.block; is_in = inr one.is_in; cid_is = one.cid_is; none = one.none }

is-lost : (held : Lookup) (c : Cid) (b : Held) (l : List Held) → IsIn b l → c ≡ b.0 → held b.0 ≡ None → IsLost held c l
is-lost held c b [] h is none = absurd h
is-lost held c b (d ∷ l) (inl h) is none = inl (is ∙ ap (λ (x : Held). x.0) h, ap (λ (x : Held). held x.0) (sym h) ∙ none)
is-lost held c b (d ∷ l) (inr h) is none = inr (is-lost held c b l h is none)

pub lost-in : (held : Lookup) (c : Cid) (l olds : List Held) → ((b : Held) → IsIn b l → IsIn b olds) → IsLost held c l → IsLost held c olds
lost-in held c l olds among h = let one = the-lost held c l h in is-lost held c one.block olds (among one.block one.is_in) one.cid_is one.none

pub loss-among : (told : Told) (l olds : List Held) (fault : StoreFault) → ((b : Held) → IsIn b l → IsIn b olds) → IsLossOf told l fault → IsLossOf told olds fault
loss-among told l olds Failed among h = h
loss-among told l olds (Damaged c) among h = h
loss-among None l olds (Missing c) among h = tt
loss-among (Some t) l olds (Missing c) among h = lost-in (held_at t) c l olds among h
loss-among told l olds (BadBlock c role) among h = h
loss-among told l olds (Clash c x y) among h = h
loss-among told l olds Memory among h = tt

-- ---- blocks that are held or old ones

pub known-later : (hash : List ℕ → List ℕ) (a b : Told) (olds l : List Held) → KeepsGood hash a b → AreGood hash l → AllByRecursion (IsKnown a olds) l → AllByRecursion (IsKnown b olds) l
known-later hash a b olds [] keeps good h = tt
known-later hash a b olds (x ∷ l) keeps good h = (by h.0, known-later hash a b olds l keeps good.1 h.1)
  where
    by : IsKnown a olds x → IsKnown b olds x
    by (inl k) = inl (Holds-kept hash a b (x ∷ []) (good.0, tt) keeps k)
    by (inr k) = inr k

pub known-among : (told : Told) (olds more l : List Held) → ((b : Held) → IsIn b olds → IsIn b more) → AllByRecursion (IsKnown told olds) l → AllByRecursion (IsKnown told more) l
known-among told olds more [] among h = tt
known-among told olds more (x ∷ l) among h = (by h.0, known-among told olds more l among h.1)
  where
    by : IsKnown told olds x → IsKnown told more x
    by (inl k) = inl k
    by (inr k) = inr (among x k)

pub known-old : (told : Told) (l : List Held) → AllByRecursion (IsKnown told l) l
known-old told l = each-in (IsKnown told l) l (λ b k. inr k)

pub known-held : (told : Told) (olds : List Held) (b : Held) → Holds told (b ∷ []) → AllByRecursion (IsKnown told olds) (b ∷ [])
known-held told olds b h = (inl h, tt)

pub known-each : (told : Told) (olds l : List Held) → Holds told l → AllByRecursion (IsKnown told olds) l
known-each None olds [] h = tt
known-each None olds (x ∷ l) h = (inl tt, known-each None olds l tt)
known-each (Some t) olds [] h = tt
known-each (Some t) olds (x ∷ l) h = (inl (h.0, tt), known-each (Some t) olds l h.1)

good-each : (X : List ℕ → List ℕ) (f : List ℕ → List Held) → ((g : List ℕ) → AreGood X (f g)) → (gs : List (List ℕ)) → AreGood X (flat_map f gs)
good-each X f h [] = tt
good-each X f h (g ∷ gs) = all-append (λ (b : Held). X b.1 ≡ b.0.digest) (f g) (flat_map f gs) (h g) (good-each X f h gs)

-- each block of a file has its CID's digest
pub over-good : (X : List ℕ → List ℕ) (c w k : ℕ) (bytes : List ℕ) → AreGood X (blocks_over X c w k bytes)
unfolding blocks_over
over-good X c w zero bytes = (refl, tt)
over-good X c w (suc k) bytes = (refl, good-each X (blocks_over X c w k) (λ g. over-good X c w k g) (groups (span c w k) bytes))

pub all-good : (X : List ℕ → List ℕ) (c w k : ℕ) (gs : List (List ℕ)) → AreGood X (flat_map (blocks_over X c w k) gs)
all-good X c w k gs = good-each X (blocks_over X c w k) (λ g. over-good X c w k g) gs
