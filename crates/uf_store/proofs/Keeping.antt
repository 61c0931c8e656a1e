-- What stays where a save keeps another block, and how what calls leave composes.
use Rattle.std.proofs.Common.{◌≡◌, ℕ, List, [], ◌∷◌, ◌++◌, Bool, true, false, cond, refl, sym, ap, subst, ◌∙◌}
use Rattle.std.specs.Prelude.{Some, None}
use Rattle.std.specs.Cmp.{eq_by_cmp_equiv}
use Rattle.std.specs.Ordering.{is_eq, eq_by_cmp}
use Rattle.std.specs.declared.cmp.Ordering.{Ordering}
use Rattle.std.specs.declared.cmp.Ordering.TheVariants.{Less, Equal, Greater}
use Rattle.std.specs.FinMap.{get, get-insert}
use Rattle.std.specs.List.{AllByRecursion}
use Rattle.uf_cid.specs.declared.cid.Cid.{Cid}
use Rattle.uf_cid.specs.Blocks.{Held}
use Rattle.uf_cid.specs.Blocks as blocks
use Rattle.uf_cid.specs.Cid.{cid_cmp}
use Rattle.uf_store.specs.Contents.{Contents, HeldMap, Told, changed, held_at, with_save}
use Rattle.uf_store.specs.Keeping.{AreGood, Holds, HoldsOne, KeepsGood}
use Rattle.uf_store.proofs.Holding.{cid_cmp_total, cid_cmp-IsAntisymmetric}

equal_of : (r : Ordering) → is_eq r ≡ true → r ≡ Equal
equal_of Less e = cc
equal_of Equal e = refl
equal_of Greater e = cc

-- CIDs that tie are one
pub same_of : (c cid : Cid) → eq_by_cmp cid_cmp c cid ≡ true → c ≡ cid
same_of c cid tie = cid_cmp-IsAntisymmetric c cid (equal_of (cid_cmp c cid) tie)

-- a block that isn't the saved one stays, and the saved one is the same
pub get_kept : (held : HeldMap) (hash : List ℕ → List ℕ) (cid c : Cid) (bytes b : List ℕ) (tied : Bool) → eq_by_cmp cid_cmp c cid ≡ tied
    → ((other : List ℕ) → get held cid ≡ Some other → hash other ≡ cid.digest → other ≡ bytes)
    → get held c ≡ Some b → hash b ≡ c.digest → cond tied (Some bytes) (get held c) ≡ Some b
get_kept held hash cid c bytes b true tie no_other is digest =
    let same : c ≡ cid = same_of c cid tie in
    let found : get held cid ≡ Some b = ap (get held) (sym same) ∙ is in
    ap Some (sym (no_other b found (digest ∙ ap (λ (d : Cid). d.digest) same)))
get_kept held hash cid c bytes b false tie no_other is digest = is

-- the saved block is held
pub held-saved : (t : Contents) (cid : Cid) (bytes : List ℕ) → held_at (with_save cid bytes t) cid ≡ Some bytes
held-saved t cid bytes =
    get-insert cid_cmp_total t.held cid bytes cid
    ∙ ap (λ (b : Bool). cond b (Some bytes) (get t.held cid)) ((eq_by_cmp_equiv cid_cmp_total).refl cid)

pub Holds-saved : (told told_now : Told) (cid : Cid) (bytes : List ℕ) → told_now ≡ changed (with_save cid bytes) told → Holds told_now ((cid, bytes) ∷ [])
Holds-saved None told_now cid bytes is = subst (λ (x : Told). Holds x ((cid, bytes) ∷ [])) (sym is) tt
Holds-saved (Some t) told_now cid bytes is = subst (λ (x : Told). Holds x ((cid, bytes) ∷ [])) (sym is) (held-saved t cid bytes, tt)

pub KeepsGood-refl : (hash : List ℕ → List ℕ) (a : Told) → KeepsGood hash a a
KeepsGood-refl hash a = record { alike = refl; stays = λ c b is digest. is }

pub KeepsGood-trans : (hash : List ℕ → List ℕ) (a b c : Told) → KeepsGood hash a b → KeepsGood hash b c → KeepsGood hash a c
KeepsGood-trans hash a b c p q = record { alike = q.alike ∙ p.alike; stays = λ x bytes is digest. q.stays x bytes (p.stays x bytes is digest) digest }

pub KeepsGood-same : (hash : List ℕ → List ℕ) (a b : Told) → b ≡ a → KeepsGood hash a b
KeepsGood-same hash a b is = subst (KeepsGood hash a) (sym is) (KeepsGood-refl hash a)

holds-each : (hash : List ℕ → List ℕ) (a : Told) (u : Contents) (l : List Held) → AreGood hash l → KeepsGood hash a (Some u)
    → AllByRecursion (λ (b : Held). HoldsOne a b.0 b.1) l → blocks.Holds (held_at u) l
holds-each hash a u [] good keeps held = tt
holds-each hash a u (b ∷ l) good keeps held = (keeps.stays b.0 b.1 held.0 good.0, holds-each hash a u l good.1 keeps held.1)

nothing-told : (l : List Held) → AllByRecursion (λ (b : Held). HoldsOne None b.0 b.1) l
nothing-told [] = tt
nothing-told (b ∷ l) = (tt, nothing-told l)

-- good blocks that are held stay held
pub Holds-kept : (hash : List ℕ → List ℕ) (a b : Told) (l : List Held) → AreGood hash l → KeepsGood hash a b → Holds a l → Holds b l
Holds-kept hash a None l good keeps held = tt
Holds-kept hash None (Some u) l good keeps held = holds-each hash None u l good keeps (nothing-told l)
Holds-kept hash (Some t) (Some u) l good keeps held = holds-each hash (Some t) u l good keeps held

holds-append : (t : Contents) (l m : List Held) → blocks.Holds (held_at t) l → blocks.Holds (held_at t) m → blocks.Holds (held_at t) (l ++ m)
holds-append t [] m p q = q
holds-append t (b ∷ l) m p q = (p.0, holds-append t l m p.1 q)

pub Holds-append : (a : Told) (l m : List Held) → Holds a l → Holds a m → Holds a (l ++ m)
Holds-append None l m p q = tt
Holds-append (Some t) l m p q = holds-append t l m p q
