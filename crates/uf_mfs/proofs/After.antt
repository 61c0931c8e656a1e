-- Blocks after calls, of which some may be lost: each that isn't held is one of some old blocks, and wasn't held before.
use Rattle.std.proofs.Common.{◌≡◌, ℕ, List, [], ◌∷◌, ◌++◌, refl, sym, ap, subst, ◌∙◌, inl, inr, Option, Some, None}
use Rattle.std.specs.Prelude.{IfSome}
use Rattle.std.specs.List.{AllByRecursion}
use Rattle.uf_cid.specs.Blocks.{Held, Lookup}
use Rattle.uf_cid.specs.Blocks as blocks
use Rattle.uf_store.specs.declared.store.StoreFault.{StoreFault}
use Rattle.uf_store.specs.declared.store.StoreFault.TheVariants.{Failed, Damaged, Missing, BadBlock, Clash, Memory}
use Rattle.uf_store.specs.Contents.{Contents, Told, held_at}
use Rattle.uf_store.specs.Keeping.{AreGood, KeepsGood, StaysAgreed}
use Rattle.uf_store.specs.Lost.{AgreesAfter, IsLossOf, IsLost, IsLostBlock, LosesBlock}
use Rattle.uf_store.specs.Writing.{SavesOnly}
use Rattle.uf_store.specs.Writing.{IsSave}
use Rattle.uf_store.proofs.Lost.{lost-cid}
use Rattle.uf_store.proofs.Writing.{agrees-between}
use Rattle.uf_mfs.specs.Standing.{TellsHeld}
use Rattle.uf_mfs.proofs.Holding.{agrees-among, append, back, each, front, tells-agrees}

-- each of these blocks is one of those
abbrev pub Among : List Held → List Held → Type 1
Among k l = (P : Held → Type 0) → AllByRecursion P l → AllByRecursion P k

-- what is said of each block that isn't held is said of a lost one
lost-each : (held : Lookup) (P : Held → Type 0) (x : Held) (l : List Held) → AllByRecursion (λ (b : Held). held b.0 ≡ None → P b) l → IsLostBlock held x l → P x
lost-each held P x [] h lost = absurd lost
lost-each held P x (b ∷ l) h (inl here) = subst P (sym here.0) (h.0 here.1)
lost-each held P x (b ∷ l) h (inr later) = lost-each held P x l h.1 later

all-lost : (held : Lookup) (l m : List Held) → ((x : Held) → IsLostBlock held x l → IsLostBlock held x m) → AllByRecursion (λ (b : Held). held b.0 ≡ None → IsLostBlock held b m) l
all-lost held [] m more = tt
all-lost held (b ∷ l) m more = ((λ gone. more b (inl (refl, gone))), all-lost held l m (λ x h. more x (inr h)))

lost-among : (held : Lookup) (k l : List Held) → Among k l → (x : Held) → IsLostBlock held x k → IsLostBlock held x l
lost-among held k l more x lost = lost-each held (λ y. IsLostBlock held y l) x k (more _ (all-lost held l l (λ y h. h))) lost

loses-among : (a : Told) (k l : List Held) → Among k l → (x : Held) → LosesBlock a x k → LosesBlock a x l
loses-among None k l more x lost = tt
loses-among (Some t) k l more x lost = lost-among (held_at t) k l more x lost

-- what is lost of some of the blocks is lost of all
pub loss-among : (a : Told) (k l : List Held) (f : StoreFault) → Among k l → IsLossOf a k f → IsLossOf a l f
loss-among a k l Failed more h = h
loss-among a k l (Damaged c) more h = h
loss-among None k l (Missing c) more h = tt
loss-among (Some t) k l (Missing c) more h = by k more h
  where
    at-one : (m : List Held) → AllByRecursion (λ (b : Held). held_at t b.0 ≡ None → IsLost (held_at t) b.0 l) m → IsLost (held_at t) c m → IsLost (held_at t) c l
    at-one [] h x = absurd x
    at-one (b ∷ m) h (inl x) = subst (λ c. IsLost (held_at t) c l) (sym x.0) (h.0 x.1)
    at-one (b ∷ m) h (inr x) = at-one m h.1 x

    by : (k : List Held) → Among k l → IsLost (held_at t) c k → IsLost (held_at t) c l
    by k more x = at-one k (more _ (each _ _ (λ b lost gone. lost-cid (held_at t) b l (lost gone)) l (all-lost (held_at t) l l (λ y h. h)))) x
loss-among a k l (BadBlock c role) more h = h
loss-among a k l (Clash c held bytes) more h = h
loss-among a k l Memory more h = tt

-- of more old blocks, and of some of the new ones
pub after-wider : (a b : Told) (k l new : List Held) → Among k l → AgreesAfter a b k new → AgreesAfter a b l new
after-wider a None k l new more h = absurd h
after-wider a (Some u) k l new more h = (h.0, each _ _ (λ x lost gone. loses-among a k l more x (lost gone)) new h.1)

pub after-some : (a b : Told) (old k l : List Held) → Among k l → AgreesAfter a b old l → AgreesAfter a b old k
after-some a None old k l more h = absurd h
after-some a (Some u) old k l more h = (more _ h.0, more _ h.1)

pub after-both : (a b : Told) (old k l : List Held) → AgreesAfter a b old k → AgreesAfter a b old l → AgreesAfter a b old (k ++ l)
after-both a None old k l h j = absurd h
after-both a (Some u) old k l h j = (append _ k l h.0 j.0, append _ k l h.1 j.1)

-- blocks that are held
pub after-held : (a b : Told) (old l : List Held) → TellsHeld b l → AgreesAfter a b old l
after-held a None old l h = absurd h
after-held a (Some u) old l h = (tells-agrees (Some u) l h, each _ _ (λ x held gone. absurd (let e : None ≡ Some x.1 = sym gone ∙ held in cc)) l h)

-- a block that is lost after calls was lost before, or is one of the old blocks
pub loss-after : (a c : Told) (old mid : List Held) (f : StoreFault) → AgreesAfter a c old mid → IsLossOf c mid f → IsLossOf a old f
loss-after a c old mid Failed h x = absurd x
loss-after a c old mid (Damaged d) h x = absurd x
loss-after a None old mid (Missing d) h x = absurd h
loss-after None (Some t) old mid (Missing d) h x = tt
loss-after (Some s) (Some t) old mid (Missing d) h x = by mid h.1 x
  where
    by : (l : List Held) → AllByRecursion (λ (b : Held). held_at t b.0 ≡ None → IsLostBlock (held_at s) b old) l → IsLost (held_at t) d l → IsLost (held_at s) d old
    by [] h x = absurd x
    by (b ∷ l) h (inl x) = subst (λ c. IsLost (held_at s) c old) (sym x.0) (lost-cid (held_at s) b old (h.0 x.1))
    by (b ∷ l) h (inr x) = by l h.1 x
loss-after a c old mid (BadBlock d role) h x = absurd x
loss-after a c old mid (Clash d held bytes) h x = absurd x
loss-after a c old mid Memory h x = tt

module _ (hash : List ℕ → List ℕ) where
  -- blocks with which the store agrees before and after calls that keep good blocks
  kept-each : (t u : Contents) (l m : List Held) → AreGood hash l → KeepsGood hash (Some t) (Some u) → blocks.Agrees (held_at t) l
      → ((x : Held) → IsLostBlock (held_at t) x l → IsLostBlock (held_at t) x m) → AllByRecursion (λ (b : Held). held_at u b.0 ≡ None → IsLostBlock (held_at t) b m) l
  kept-each t u [] m good keeps agrees more = tt
  kept-each t u (b ∷ l) m good keeps agrees more = (by (held_at t b.0) refl agrees.0, kept-each t u l m good.1 keeps agrees.1 (λ x h. more x (inr h)))
    where
      by : (o : Option (List ℕ)) → held_at t b.0 ≡ o → IfSome o (λ bytes. bytes ≡ b.1) → held_at u b.0 ≡ None → IsLostBlock (held_at t) b m
      by None is same gone = more b (inl (refl, is))
      by (Some bytes) is same gone =
          let one : bytes ≡ b.1 = same in
          let stays : held_at u b.0 ≡ Some b.1 = keeps.stays b.0 b.1 (is ∙ ap Some one) good.0 in
          absurd (let e : None ≡ Some b.1 = sym gone ∙ stays in cc)

  pub after-kept : (a b : Told) (l : List Held) → AreGood hash l → KeepsGood hash a b → StaysAgreed a b l → AgreesAfter a b l l
  after-kept None b l good keeps stays = absurd stays.first
  after-kept (Some t) None l good keeps stays = absurd stays.last
  after-kept (Some t) (Some u) l good keeps stays = (stays.last, kept-each t u l l good keeps stays.first (λ x h. h))

  -- agreement goes on from there
  onward-each : (s t u : Contents) (old l : List Held) → AreGood hash l → KeepsGood hash (Some t) (Some u) → blocks.Agrees (held_at u) old → blocks.Agrees (held_at t) l
      → AllByRecursion (λ (b : Held). held_at t b.0 ≡ None → IsLostBlock (held_at s) b old) l → blocks.Agrees (held_at u) l
  onward-each s t u old [] good keeps last agrees lost = tt
  onward-each s t u old (b ∷ l) good keeps last agrees lost = (by (held_at t b.0) refl agrees.0, onward-each s t u old l good.1 keeps last agrees.1 lost.1)
    where
      P : Held → Type 0
      P x = IfSome (held_at u x.0) (λ bytes. bytes ≡ x.1)

      by : (o : Option (List ℕ)) → held_at t b.0 ≡ o → IfSome o (λ bytes. bytes ≡ b.1) → P b
      by None is same = lost-each (held_at s) P b old (each _ _ (λ x h gone. h) old last) (lost.0 is)
      by (Some bytes) is same =
          let one : bytes ≡ b.1 = same in
          subst (λ o. IfSome o (λ bytes. bytes ≡ b.1)) (sym (keeps.stays b.0 b.1 (is ∙ ap Some one) good.0)) refl

  pub onward : (a c d : Told) (old mid : List Held) → AgreesAfter a c old mid → AreGood hash mid → KeepsGood hash c d → StaysAgreed a d old → StaysAgreed c d mid
  onward a None d old mid h good keeps stays = absurd h
  onward None (Some t) d old mid h good keeps stays = absurd stays.first
  onward (Some s) (Some t) None old mid h good keeps stays = absurd stays.last
  onward (Some s) (Some t) (Some u) old mid h good keeps stays = record { first = h.0; last = onward-each s t u old mid good keeps stays.last h.0 h.1 }

  -- ---- between calls

  pub stays-first : (a b c : Told) (l : List Held) → SavesOnly hash a b → SavesOnly hash b c → StaysAgreed a c l → StaysAgreed a b l
  stays-first a b c l p q h = record { first = h.first; last = agrees-between hash IsSave a b c l p q h }

pub stays-some : (a b : Told) (k l : List Held) → Among k l → StaysAgreed a b l → StaysAgreed a b k
stays-some a b k l more h = record { first = agrees-among a l k more h.first; last = agrees-among b l k more h.last }

pub front-among : (k l : List Held) → Among k (k ++ l)
front-among k l P h = front P k l h

pub back-among : (k l : List Held) → Among l (k ++ l)
back-among k l P h = back P k l h

pub among-then : (k l m : List Held) → Among k l → Among l m → Among k m
among-then k l m p q P h = p P (q P h)
