-- What a check answers of a CAR that was read.
use Rattle.std.proofs.Common.{◌≡◌, ◌⊎◌, ℕ, ◌-◌, ◌<◌, ◌^◌, List, arith, sym, ap, subst, ◌∙◌, Some, None, Result, Ok, Err, inl, inr}
use Rattle.std.specs.List.{AllByRecursion}
use Rattle.std.specs.Prelude.{IfSome}
use Rattle.uf_car.specs.Importing.{with_saves}
use Rattle.uf_car.specs.Reading.{Read}
use Rattle.uf_cid.specs.Blocks.{Held}
use Rattle.uf_cid.specs.declared.cid.Cid.{Cid}
use Rattle.uf_edge.specs.Counts.{Stood}
use Rattle.uf_edge.specs.Streams.{AppendsPrefix, Told as SinkTold}
use Rattle.uf_laws.proofs.Held.{tree-digested}
use Rattle.uf_store.specs.Calls.{OnlyReads}
use Rattle.uf_store.specs.Contents.{Told, changed, held_at}
use Rattle.uf_store.specs.Faults.{NoneIsBad, Shown, ShowsBadBlock, ShowsMissing, StaysCalm}
use Rattle.uf_store.specs.InMemory.{new_seen, no_contents}
use Rattle.uf_store.specs.Keeping.{Agrees, HoldsOne}
use Rattle.uf_store.specs.Seen.{Seen}
use Rattle.uf_store.specs.Writing.{SavesOnly}
use Rattle.uf_store.specs.declared.store.StoreFault.TheVariants as store
use Rattle.uf_tree.specs.declared.profile.Profile.{Profile}
use Rattle.uf_tree.specs.Tree.{Tree}
use Rattle.uf_tree.specs.TreePlan.{blocks}
use Rattle.uf_light.specs.declared.fault.LightFault.{LightFault}
use Rattle.uf_light.specs.declared.fault.LightFault.TheVariants as fault
use Rattle.uf_light.specs.Answers.{Accepts, ClashesWithPlan, IsOwnFault, light_fault}
use Rattle.uf_light.specs.Bad.{IsBadLight}
use Rattle.uf_light.specs.Below.{HasNames, IsAboveNames}
use Rattle.uf_light.specs.Checking.{keeping_fault, reading_fault}
use Rattle.uf_light.specs.Sending.{ComesFirst}
use Rattle.uf_light.specs.Opening.{Opens}
use Rattle.uf_light.specs.Sections.{ShownBySections, sections_told}
use Rattle.uf_light.specs.Standing.{IsAgreedAt, IsTreeAt}
use Rattle.uf_light.proofs.Agreeing.{agree-or-clash}
use Rattle.uf_light.proofs.Below.{above-names}
use Rattle.uf_light.proofs.Saving.{digests-all, holds-all, section-of}

stands : (a b : ℕ) → a ≡ 0 → b ≡ a → Stood a b
stands a b zero same = omega (arith, zero, same)

module _ (X : List ℕ → List ℕ) (N : List ℕ → ℕ) where
  -- ---- the faults of a store of its own, that reading it may show

  abbrev Reads : Cid → Seen → Seen → Result ℕ LightFault → Type 0
  Reads root mid now r = OnlyReads X (IsBadLight X N mid.told root) (light_fault r) mid now

  module _ (root : Cid) (mid now : Seen) (fresh : mid.faults ≡ 0) (needs : List Held) (said : Result (List ℕ) LightFault) (out out_now : SinkTold) where
    abbrev Answered : Result ℕ LightFault → Type 0
    Answered r = Stood mid.faults now.faults → Accepts mid.told needs said r out out_now

    abbrev calmly : StaysCalm mid now → Stood mid.faults now.faults
    calmly calm = stands mid.faults now.faults fresh calm.faults

    reads-as : (f : LightFault) → Reads root mid now (Err f) → Answered (Err f) → Accepts mid.told needs said (Err (reading_fault f)) out out_now
    reads-as (fault.NotFound k) h a = a (calmly h.cause)
    reads-as (fault.NotADirectory k) h a = a (calmly h.cause)
    reads-as fault.IsADirectory h a = a (calmly h.cause)
    reads-as fault.Exists h a = a (calmly h.cause)
    reads-as (fault.OtherRoot c) h a = a (calmly h.cause)
    reads-as (fault.Car g) h a = a (calmly h.cause)
    reads-as fault.Sink h a = a (calmly h.cause)
    reads-as (fault.Store store.Failed) h a = tt
    reads-as (fault.Store (store.Damaged c)) h a = tt
    reads-as (fault.Store (store.Missing c)) h a = a (let shown : ShowsMissing c mid now = h.cause in calmly shown.calm)
    reads-as (fault.Store (store.BadBlock c role)) h a = a (let shown : ShowsBadBlock X (IsBadLight X N mid.told root) c role mid now = h.cause in calmly shown.calm)
    reads-as (fault.Store (store.Clash c x y)) h a = tt
    reads-as (fault.Store store.Memory) h a = tt

    -- what comes before anything is written does so where it is told as a fault of the sections
    first-as : (f : LightFault) → Reads root mid now (Err f) → (Stood mid.faults now.faults → ComesFirst (Err f) out out_now) → ComesFirst (Err (reading_fault f)) out out_now
    first-as (fault.NotFound k) h a = a (calmly h.cause)
    first-as (fault.NotADirectory k) h a = a (calmly h.cause)
    first-as fault.IsADirectory h a = a (calmly h.cause)
    first-as fault.Exists h a = a (calmly h.cause)
    first-as (fault.OtherRoot c) h a = a (calmly h.cause)
    first-as (fault.Car g) h a = a (calmly h.cause)
    first-as fault.Sink h a = tt
    first-as (fault.Store store.Failed) h a = tt
    first-as (fault.Store (store.Damaged c)) h a = tt
    first-as (fault.Store (store.Missing c)) h a = a (let shown : ShowsMissing c mid now = h.cause in calmly shown.calm)
    first-as (fault.Store (store.BadBlock c role)) h a = a (let shown : ShowsBadBlock X (IsBadLight X N mid.told root) c role mid now = h.cause in calmly shown.calm)
    first-as (fault.Store (store.Clash c x y)) h a = tt
    first-as (fault.Store store.Memory) h a = tt

    reads-well : (n : ℕ) → Reads root mid now (Ok n) → Answered (Ok n) → Accepts mid.told needs said (Ok n) out out_now
    reads-well n h a = a (calmly h.cause)

  -- ---- a CAR that isn't refused by its form

  module _ (root : Cid) (r : Read (List Cid)) (start mid now : Seen) (new : start ≡ new_seen) (calm : StaysCalm start mid) (saves : SavesOnly X start.told mid.told) (opens : Opens X root r (Ok tt) mid) where
    empty : start.told ≡ Some no_contents
    empty = ap (λ (s : Seen). s.told) new

    told-is : mid.told ≡ sections_told r.sections
    told-is = opens.says.1

    kept : mid.told ≡ changed (with_saves r.sections) start.told
    kept = told-is ∙ sym (ap (changed (with_saves r.sections)) empty)

    -- each section has its CID's digest
    digested : AllByRecursion (λ (b : Held). X b.1 ≡ b.0.digest) r.sections
    digested = digests-all X start.told mid.told empty saves r.sections kept

    -- what is held where there are names below the root is among the sections
    pub shows-root : (names : List (List ℕ)) → HasNames X mid.told root names → IsAboveNames X root names r.sections
    shows-root names has =
        above-names X root r.sections (holds-all X start.told mid.told empty saves r.sections kept) names (subst (λ (told : Told). HasNames X told root names) told-is has)

    fresh : mid.faults ≡ 0
    fresh = calm.faults ∙ ap (λ (s : Seen). s.faults) new

    module _ (p : Profile) (t : Tree) (is : IsTreeAt X N p root t) (needs : List Held) (said : Result (List ℕ) LightFault) (out out_now : SinkTold) where
      -- the tree's plan and the sections clash, or the store agrees with the plan
      agreed : IsAgreedAt X N mid.told p root t ⊎ ClashesWithPlan X (blocks X N p t) r.sections
      agreed = by (agree-or-clash X r.sections (blocks X N p t) digested (tree-digested X N p t))
        where
          by : Agrees (sections_told r.sections) (blocks X N p t) ⊎ ClashesWithPlan X (blocks X N p t) r.sections → IsAgreedAt X N mid.told p root t ⊎ ClashesWithPlan X (blocks X N p t) r.sections
          by (inl a) = inl (record { plan = is; agrees = subst (λ (told : Told). Agrees told (blocks X N p t)) (sym told-is) a })
          by (inr clash) = inr clash

      abbrev Judged : Result ℕ LightFault → Type 0
      Judged answer = ClashesWithPlan X (blocks X N p t) r.sections ⊎ Accepts (sections_told r.sections) needs said answer out out_now

      pub judges-err : (f : LightFault) → Reads root mid now (Err f) → (IsAgreedAt X N mid.told p root t → Stood mid.faults now.faults → Accepts mid.told needs said (Err f) out out_now) → Judged (Err (reading_fault f))
      judges-err f reads accepts = by agreed
        where
          by : IsAgreedAt X N mid.told p root t ⊎ ClashesWithPlan X (blocks X N p t) r.sections → Judged (Err (reading_fault f))
          by (inl a) = inr (subst (λ (told : Told). Accepts told needs said (Err (reading_fault f)) out out_now) told-is (reads-as root mid now fresh needs said out out_now f reads (accepts a)))
          by (inr clash) = inl clash

      pub judges-ok : (n : ℕ) → Reads root mid now (Ok n) → (IsAgreedAt X N mid.told p root t → Stood mid.faults now.faults → Accepts mid.told needs said (Ok n) out out_now) → Judged (Ok n)
      judges-ok n reads accepts = by agreed
        where
          by : IsAgreedAt X N mid.told p root t ⊎ ClashesWithPlan X (blocks X N p t) r.sections → Judged (Ok n)
          by (inl a) = inr (subst (λ (told : Told). Accepts told needs said (Ok n) out out_now) told-is (reads-well root mid now fresh needs said out out_now n reads (accepts a)))
          by (inr clash) = inl clash

      -- nothing was written before all was read
      pub judges-first : (f : LightFault) → Reads root mid now (Err f) → (IsAgreedAt X N mid.told p root t → Stood mid.faults now.faults → ComesFirst (Err f) out out_now)
          → ClashesWithPlan X (blocks X N p t) r.sections ⊎ ComesFirst (Err (reading_fault f)) out out_now
      judges-first f reads first = by agreed
        where
          by : IsAgreedAt X N mid.told p root t ⊎ ClashesWithPlan X (blocks X N p t) r.sections → ClashesWithPlan X (blocks X N p t) r.sections ⊎ ComesFirst (Err (reading_fault f)) out out_now
          by (inl a) = inr (first-as root mid now fresh needs said out out_now f reads (first a))
          by (inr clash) = inl clash

      -- a front of what is said
      pub judges-front : (bytes : List ℕ) → (IsAgreedAt X N mid.told p root t → mid.faults < 2 ^ 64 - 1 → AppendsPrefix bytes out out_now) → ClashesWithPlan X (blocks X N p t) r.sections ⊎ AppendsPrefix bytes out out_now
      judges-front bytes front = by agreed
        where
          by : IsAgreedAt X N mid.told p root t ⊎ ClashesWithPlan X (blocks X N p t) r.sections → ClashesWithPlan X (blocks X N p t) r.sections ⊎ AppendsPrefix bytes out out_now
          by (inl a) = inr (front a (omega (arith, fresh)))
          by (inr clash) = inl clash

    -- ---- what is shown of a fault, whatever the sections are

    now-told : (f : Result ℕ LightFault) → Reads root mid now f → now.told ≡ sections_told r.sections
    now-told f h = h.told ∙ told-is

    pub shows-err : (f : LightFault) → Reads root mid now (Err f) → ShownBySections X N root r.sections (Err (reading_fault f))
    shows-err (fault.NotFound k) h = tt
    shows-err (fault.NotADirectory k) h = tt
    shows-err fault.IsADirectory h = tt
    shows-err fault.Exists h = tt
    shows-err (fault.OtherRoot c) h = tt
    shows-err (fault.Car g) h = tt
    shows-err fault.Sink h = tt
    shows-err (fault.Store store.Failed) h = tt
    shows-err (fault.Store (store.Damaged c)) h = tt
    shows-err (fault.Store (store.Missing c)) h =
        let shown : ShowsMissing c mid now = h.cause in
        subst (λ (told : Told). IfSome told (λ t. held_at t c ≡ None)) (now-told (Err (fault.Store (store.Missing c))) h) shown.not_held
    shows-err (fault.Store (store.BadBlock c role)) h =
        let shown : ShowsBadBlock X (IsBadLight X N mid.told root) c role mid now = h.cause in
        record {
          block = now.lent;
          there = section-of r.sections c now.lent (subst (λ (told : Told). HoldsOne told c now.lent) (now-told (Err (fault.Store (store.BadBlock c role))) h) shown.is_held);
          bad = subst (λ (told : Told). IsBadLight X N told root role now.lent) told-is shown.bad;
        }
    shows-err (fault.Store (store.Clash c x y)) h = tt
    shows-err (fault.Store store.Memory) h = tt

-- ---- the faults of a store of its own, whatever the input tells

pub keeps-own : (X : List ℕ → List ℕ) (f : LightFault) (a b : Seen) → Shown X NoneIsBad (light_fault {A = Unit {0}} (Err f)) a b → IsOwnFault X (keeping_fault f)
keeps-own X (fault.NotFound k) a b h = tt
keeps-own X (fault.NotADirectory k) a b h = tt
keeps-own X fault.IsADirectory a b h = tt
keeps-own X fault.Exists a b h = tt
keeps-own X (fault.OtherRoot c) a b h = tt
keeps-own X (fault.Car f) a b h = tt
keeps-own X fault.Sink a b h = tt
keeps-own X (fault.Store store.Failed) a b h = tt
keeps-own X (fault.Store (store.Damaged c)) a b h = tt
keeps-own X (fault.Store (store.Missing c)) a b h = tt
keeps-own X (fault.Store (store.BadBlock c role)) a b h = tt
keeps-own X (fault.Store (store.Clash c first second)) a b h = h.clash
keeps-own X (fault.Store store.Memory) a b h = tt

pub reads-own : (X : List ℕ → List ℕ) (f : LightFault) → IsOwnFault X (reading_fault f)
reads-own X (fault.NotFound k) = tt
reads-own X (fault.NotADirectory k) = tt
reads-own X fault.IsADirectory = tt
reads-own X fault.Exists = tt
reads-own X (fault.OtherRoot c) = tt
reads-own X (fault.Car f) = tt
reads-own X fault.Sink = tt
reads-own X (fault.Store store.Failed) = tt
reads-own X (fault.Store (store.Damaged c)) = tt
reads-own X (fault.Store (store.Missing c)) = tt
reads-own X (fault.Store (store.BadBlock c role)) = tt
reads-own X (fault.Store (store.Clash c first second)) = tt
reads-own X (fault.Store store.Memory) = tt
