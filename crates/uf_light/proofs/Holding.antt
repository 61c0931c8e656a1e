-- Blocks of lists, and what a store that agrees with them loses of them.
use Rattle.std.proofs.Common.{◌≡◌, List, [], ◌∷◌, ◌++◌, refl, sym, subst, inl, inr, Some, None, Result, Ok, Err}
use Rattle.std.specs.Prelude.{IfSome}
use Rattle.std.specs.List.{AllByRecursion}
use Rattle.uf_cid.specs.declared.cid.Cid.{Cid}
use Rattle.uf_cid.specs.Blocks.{Held, Lookup}
use Rattle.uf_store.specs.declared.store.StoreFault.{StoreFault}
use Rattle.uf_store.specs.declared.store.StoreFault.TheVariants.{Failed, Damaged, Missing, BadBlock, Clash, Memory}
use Rattle.uf_store.specs.Contents.{Told, held_at}
use Rattle.uf_store.specs.Keeping.{Agrees, Holds}
use Rattle.uf_store.specs.Lost.{FindsOver, IsFirstLost, IsLossOf, IsLost, ReadsOver}
use Rattle.uf_fileread.specs.Ranges.{IsFirstLossOf}

-- ---- of each block

pub each : (P Q : Held → Type 0) → ((b : Held) → P b → Q b) → (l : List Held) → AllByRecursion P l → AllByRecursion Q l
each P Q more [] h = tt
each P Q more (b ∷ l) h = (more b h.0, each P Q more l h.1)

pub append : (P : Held → Type 0) (k l : List Held) → AllByRecursion P k → AllByRecursion P l → AllByRecursion P (k ++ l)
append P [] l h j = j
append P (b ∷ k) l h j = (h.0, append P k l h.1 j)

pub front : (P : Held → Type 0) (k l : List Held) → AllByRecursion P (k ++ l) → AllByRecursion P k
front P [] l h = tt
front P (b ∷ k) l h = (h.0, front P k l h.1)

pub back : (P : Held → Type 0) (k l : List Held) → AllByRecursion P (k ++ l) → AllByRecursion P l
back P [] l h = h
back P (b ∷ k) l h = back P k l h.1

-- what holds of some blocks does of those that are among them
abbrev pub Among : List Held → List Held → Type 1
Among k l = (P : Held → Type 0) → AllByRecursion P l → AllByRecursion P k

pub agrees-among : (a : Told) (k l : List Held) → ((P : Held → Type 0) → AllByRecursion P k → AllByRecursion P l) → Agrees a k → Agrees a l
agrees-among None k l more h = h
agrees-among (Some t) k l more h = more (λ b. IfSome (held_at t b.0) (λ bytes. bytes ≡ b.1)) h

pub holds-append : (a : Told) (k l : List Held) → Holds a k → Holds a l → Holds a (k ++ l)
holds-append None k l h j = tt
holds-append (Some t) k l h j = append _ k l h j

pub holds-none : (a : Told) → Holds a []
holds-none None = tt
holds-none (Some t) = tt

-- ---- lost blocks

lost-front : (held : Lookup) (c : Cid) (k l : List Held) → IsLost held c k → IsLost held c (k ++ l)
lost-front held c [] l x = absurd x
lost-front held c (b ∷ k) l (inl x) = inl x
lost-front held c (b ∷ k) l (inr x) = inr (lost-front held c k l x)

lost-back : (held : Lookup) (c : Cid) (k l : List Held) → IsLost held c l → IsLost held c (k ++ l)
lost-back held c [] l x = x
lost-back held c (b ∷ k) l x = inr (lost-back held c k l x)

pub first-lost : (held : Lookup) (c : Cid) (l : List Held) → IsFirstLost held c l → IsLost held c l
first-lost held c [] x = x
first-lost held c (b ∷ l) (inl x) = inl x
first-lost held c (b ∷ l) (inr x) = inr (first-lost held c l x.1)

-- a lost block, as one of which nothing is held
pub lost-none : (held : Lookup) (c : Cid) (l : List Held) → IsLost held c l → held c ≡ None
lost-none held c [] x = absurd x
lost-none held c (b ∷ l) (inl x) = subst (λ (d : Cid). held d ≡ None) (sym x.0) x.1
lost-none held c (b ∷ l) (inr x) = lost-none held c l x

-- each block of a list that isn't held is lost of it
each-lost : (held : Lookup) (l : List Held) → AllByRecursion (λ (b : Held). held b.0 ≡ None → IsLost held b.0 l) l
each-lost held [] = tt
each-lost held (b ∷ l) =
    (λ none. inl (refl, none), each (λ (d : Held). held d.0 ≡ None → IsLost held d.0 l) (λ (d : Held). held d.0 ≡ None → IsLost held d.0 (b ∷ l)) (λ d h none. inr (h none)) l (each-lost held l))

-- so what is lost of blocks that are among others is lost of those
pub lost-among : (held : Lookup) (c : Cid) (k l : List Held) → Among k l → IsLost held c k → IsLost held c l
lost-among held c k l among x = by k (among (λ (b : Held). held b.0 ≡ None → IsLost held b.0 l) (each-lost held l)) x
  where
    by : (k : List Held) → AllByRecursion (λ (b : Held). held b.0 ≡ None → IsLost held b.0 l) k → IsLost held c k → IsLost held c l
    by [] h x = absurd x
    by (b ∷ k) h (inl x) = subst (λ (d : Cid). IsLost held d l) (sym x.0) (h.0 x.1)
    by (b ∷ k) h (inr x) = by k h.1 x

-- a loss of one list is one of another, where what is lost of the first is of the other
pub loss-by : (a : Told) (k l : List Held) (f : StoreFault) → ((held : Lookup) (c : Cid) → IsLost held c k → IsLost held c l) → IsLossOf a k f → IsLossOf a l f
loss-by a k l Failed more x = x
loss-by a k l (Damaged c) more x = x
loss-by None k l (Missing c) more x = tt
loss-by (Some t) k l (Missing c) more x = more (held_at t) c x
loss-by a k l (BadBlock c role) more x = x
loss-by a k l (Clash c held bytes) more x = x
loss-by a k l Memory more x = tt

pub loss-front : (a : Told) (k l : List Held) (f : StoreFault) → IsLossOf a k f → IsLossOf a (k ++ l) f
loss-front a k l f x = loss-by a k (k ++ l) f (λ held c. lost-front held c k l) x

pub loss-back : (a : Told) (k l : List Held) (f : StoreFault) → IsLossOf a l f → IsLossOf a (k ++ l) f
loss-back a k l f x = loss-by a l (k ++ l) f (λ held c. lost-back held c k l) x

pub loss-among : (a : Told) (k l : List Held) (f : StoreFault) → Among k l → IsLossOf a k f → IsLossOf a l f
loss-among a k l f among x = loss-by a k l f (λ held c. lost-among held c k l among) x

-- the first lost block is a lost one
pub finds-loss : {A : Type 0} (a : Told) (l : List Held) (v : A) (f : StoreFault) → FindsOver a l v (Err f) → IsLossOf a l f
finds-loss a l v Failed h = h
finds-loss a l v (Damaged c) h = h
finds-loss None l v (Missing c) h = tt
finds-loss (Some t) l v (Missing c) h = first-lost (held_at t) c l h
finds-loss a l v (BadBlock c role) h = h
finds-loss a l v (Clash c held bytes) h = h
finds-loss a l v Memory h = tt

pub finds-reads : {A : Type 0} (a : Told) (l : List Held) (v : A) (r : Result A StoreFault) → FindsOver a l v r → ReadsOver a l v r
finds-reads a l v (Ok x) h = h.0
finds-reads a l v (Err f) h = finds-loss a l v f h

pub first-loss : (a : Told) (l : List Held) (f : StoreFault) → IsFirstLossOf a l f → IsLossOf a l f
first-loss a l Failed h = h
first-loss a l (Damaged c) h = h
first-loss None l (Missing c) h = tt
first-loss (Some t) l (Missing c) h = first-lost (held_at t) c l h
first-loss a l (BadBlock c role) h = h
first-loss a l (Clash c held bytes) h = h
first-loss a l Memory h = tt
