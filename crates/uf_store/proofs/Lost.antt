-- Lost blocks, carried from one call to the next.
use Rattle.std.proofs.Common.{◌≡◌, List, [], ◌∷◌, inl, inr, ap, subst, sym}
use Rattle.std.specs.Prelude.{Some, None}
use Rattle.std.specs.List.{AllByRecursion}
use Rattle.uf_cid.specs.Blocks.{Held, Lookup}
use Rattle.uf_store.specs.Contents.{Contents, Told, held_at}
use Rattle.uf_store.specs.Lost.{AgreesAfter, IsLost, IsLostBlock, LosesBlock, LosesOne}

-- a lost block's CID is that of a lost block
pub lost-cid : (held : Lookup) (block : Held) (l : List Held) → IsLostBlock held block l → IsLost held block.0 l
lost-cid held block [] lost = absurd lost
lost-cid held block (b ∷ l) (inl here) = inl (ap (λ (x : Held). x.0) here.0, here.1)
lost-cid held block (b ∷ l) (inr later) = inr (lost-cid held block l later)

pub loses-cid : (told : Told) (block : Held) (l : List Held) → LosesBlock told block l → LosesOne told block.0 l
loses-cid None block l lost = tt
loses-cid (Some t) block l lost = lost-cid (held_at t) block l lost

-- what is said of each block that isn't held is said of a lost one
lost-of-each : (t : Contents) (P : Held → Type 0) (block : Held) (l : List Held) → AllByRecursion (λ (b : Held). held_at t b.0 ≡ None → P b) l
    → IsLostBlock (held_at t) block l → P block
lost-of-each t P block [] each lost = absurd lost
lost-of-each t P block (b ∷ l) each (inl here) = subst P (sym here.0) (each.0 here.1)
lost-of-each t P block (b ∷ l) each (inr later) = lost-of-each t P block l each.1 later

lost-before : (a : Told) (t u : Contents) (old mid new : List Held) → AllByRecursion (λ (b : Held). held_at t b.0 ≡ None → LosesBlock a b old) mid
    → AllByRecursion (λ (b : Held). held_at u b.0 ≡ None → LosesBlock (Some t) b mid) new → AllByRecursion (λ (b : Held). held_at u b.0 ≡ None → LosesBlock a b old) new
lost-before a t u old mid [] first next = tt
lost-before a t u old mid (b ∷ new) first next = ((λ gone. lost-of-each t (λ (x : Held). LosesBlock a x old) b mid first (next.0 gone)), lost-before a t u old mid new first next.1)

-- one call after another
pub after-then : (a b c : Told) (old mid new : List Held) → AgreesAfter a b old mid → AgreesAfter b c mid new → AgreesAfter a c old new
after-then a b None old mid new first next = absurd next
after-then a None (Some u) old mid new first next = absurd first
after-then a (Some t) (Some u) old mid new first next = (next.0, lost-before a t u old mid new first.1 next.1)
