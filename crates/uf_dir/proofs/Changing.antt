-- Directories changed in place, in one block or in shards.
use Rattle.std.proofs.Common.{◌≡◌, ℕ, suc, ◌+◌, ◌≤◌, List, [], ◌∷◌, ◌++◌, length, refl, ap, arith, sym, ◌∙◌, subst, inl, inr, Option, Some, None, Ordering, Bool, true, false, cond}
use Rattle.std.specs.Prelude.{IfErr, IfOk, IfSome, IsTrue, OnOk, nat_lt, not}
use Rattle.std.specs.declared.cmp.Ordering.TheVariants.{Less, Equal, Greater}
use Rattle.std.specs.declared.result.Result.{Result}
use Rattle.std.specs.declared.result.Result.TheVariants.{Ok, Err}
use Rattle.std.specs.FinMap.Entries.{by_order, find, put, where_key}
use Rattle.std.specs.List.{AllByRecursion}
use Rattle.std.specs.Ordering.{eq_by_cmp}
use Rattle.std.proofs.lemmas.Bool.Decides.{nat_tests}
use Rattle.std.proofs.lemmas.List.Sums.{sum_by-cons}
use Rattle.uf_cid.specs.Blocks.{Held}
use Rattle.uf_cid.specs.declared.cid.Cid.{Cid}
use Rattle.uf_edge.specs.Counts.{Stood}
use Rattle.uf_store.specs.Among.{SavesAmong}
use Rattle.uf_store.specs.Clashes.{IsSaving}
use Rattle.uf_store.specs.Contents.{Contents, Told, held_at}
use Rattle.uf_store.specs.Calls.{Calm, OnlySaves}
use Rattle.uf_store.specs.Faults.{Answers, NoneIsBad, Shows, StaysCalm, fault_in}
use Rattle.uf_store.specs.Faults as faults
use Rattle.uf_store.specs.Keeping.{Agrees, Holds, KeepsGood, StaysAgreed}
use Rattle.uf_store.specs.Writing.{IsSave, SavesOnly}
use Rattle.uf_store.proofs.Calls.{shown-rises}
use Rattle.uf_store.proofs.Writing.{SavesOnly-trans, agrees-between}
use Rattle.uf_store.specs.Lost.{AgreesAfter, IsLossOf, IsLost, LosesBlock, LosesOne, ReadsOver}
use Rattle.uf_store.proofs.Lost.{loses-cid}
use Rattle.uf_store.specs.Seen.{Seen}
use Rattle.uf_store.specs.declared.store.Role.{Role}
use Rattle.uf_store.specs.declared.store.StoreFault.{StoreFault}
use Rattle.uf_store.specs.declared.store.StoreFault.TheVariants.{Failed, Damaged, Missing, BadBlock, Clash, Memory}
use Rattle.uf_tree.specs.declared.nodes.Entry.{Entry}
use Rattle.uf_tree.specs.declared.meta.Meta.{Meta}
use Rattle.uf_tree.specs.declared.profile.Profile.{Profile}
use Rattle.uf_tree.specs.Changes.{with_name, without}
use Rattle.uf_tree.specs.DirPlan.{basic_dir, is_sharded, weight}
use Rattle.uf_tree.specs.Names.{names_cmp}
use Rattle.uf_tree.specs.declared.nodes.DirNode.{DirNode}
use Rattle.uf_tree.specs.declared.nodes.ShardNode.{ShardNode}
use Rattle.uf_tree.specs.Metas.{is_meta}
use Rattle.uf_tree.specs.Nodes.{Named}
use Rattle.uf_tree.specs.ShardPlan.{same_slots, shard, shard_plan, twins}
use Rattle.uf_tree.specs.TreePlan.{Refusal, collision, dir_refusal, or_else, too_big}
use Rattle.uf_tree.specs.Validity.{IsDirNode, IsDirectory, IsHash}
use Rattle.uf_shard.specs.declared.fault.DirFault.{DirFault}
use Rattle.uf_shard.specs.declared.fault.DirFault.TheVariants.{Collision, TooBig, Store}
use Rattle.uf_shard.specs.Answers.{Gives, GivesOver, Shown, shard_refusal}
use Rattle.uf_shard.specs.Planned as shards
use Rattle.uf_shard.specs.Planned.{IsShardCid}
use Rattle.uf_tree.proofs.Each.{each_filter}
use Rattle.uf_dir.specs.Planned.{IsPlanned, dir_entry, entry_without, own_blocks}
use Rattle.uf_dir.specs.Roots.{IsRootCid, IsRootOf, IsThere}
use Rattle.uf_dir.specs.declared.root.Root.{Root}
use Rattle.uf_dir.specs.declared.root.Root.TheVariants as root
use Rattle.uf_dir.proofs.Looked.{sharded-meta, sharded_is}
use Rattle.uf_dir.proofs.Planning.{blocks-sharded, light-entry, light-held, planned-sharded}
use Rattle.uf_dir.proofs.Edited.{after-held, after-same, left-some, without-absent}
use Rattle.uf_dir.proofs.Listing.{directory-without}
use Rattle.uf_dir.proofs.Nodes.{planned-root, shard-root}
use Rattle.uf_store.proofs.Writing.{SavesOnly-refl}
use Rattle.uf_dir.specs.Left.{AreShards, CanRise, Fits, IsLeftOrHeld, SettlesOver, SettlesShards, StayShards, TakesBasic, TakesOver, TakesSharded, pairs_left}
use Rattle.uf_shard.specs.declared.removed.Removed.TheVariants.{Absent, Empty, Left}
use Rattle.uf_shard.specs.Taken.{left_of, left_without}
use Rattle.uf_tree.specs.FilePlan.{Plan}
use Rattle.uf_tree.proofs.Twins.{Alone, Apart, Apart-twins, twins-Apart}

-- ---- causes

pub none-bad : (Q : Role → List ℕ → Type 0) (role : Role) (bytes : List ℕ) → NoneIsBad role bytes → Q role bytes
none-bad Q role bytes h = absurd h

-- a fault of a save where no count rose is want of memory
pub saving-loss : (hash : List ℕ → List ℕ) (P : Role → List ℕ → Type 0) (told : Told) (l : List Held) (fault : StoreFault) (before now : Seen) → IsSaving fault → Shows hash P fault before now → Stood before.faults now.faults → Stood before.clashes now.clashes → IsLossOf told l fault
saving-loss hash P told l Failed before now h shows faults clashes = let r = shows.rose in absurd (omega (arith, r, faults))
saving-loss hash P told l (Damaged c) before now h shows faults clashes = absurd h
saving-loss hash P told l (Missing c) before now h shows faults clashes = absurd h
saving-loss hash P told l (BadBlock c role) before now h shows faults clashes = absurd h
saving-loss hash P told l (Clash c x y) before now h shows faults clashes = let r = shows.rose in absurd (omega (arith, r, clashes))
saving-loss hash P told l Memory before now h shows faults clashes = tt

stood-mid : (before mid now : Seen) → StaysCalm before mid → Stood before.faults now.faults → Stood mid.faults now.faults
stood-mid before mid now calm stood = subst (λ (n : ℕ). Stood n now.faults) (sym calm.faults) stood

stood-clash : (before mid now : Seen) → StaysCalm before mid → Stood before.clashes now.clashes → Stood mid.clashes now.clashes
stood-clash before mid now calm stood = subst (λ (n : ℕ). Stood n now.clashes) (sym calm.clashes) stood

-- where no count rose over two calls, none rose in the second
pub then-calm : (before mid now : Seen) → StaysCalm before mid → Calm before now → Calm mid now
then-calm before mid now stays calm = record { faults = stood-mid before mid now stays calm.faults; clashes = stood-clash before mid now stays calm.clashes }

-- after such calls the counts can still rise
pub can-rise : (before mid : Seen) → StaysCalm before mid → CanRise before → CanRise mid
can-rise before mid calm can = record {
  faults = subst (λ (n : ℕ). Stood n n) (sym calm.faults) can.faults;
  clashes = subst (λ (n : ℕ). Stood n n) (sym calm.clashes) can.clashes;
}

-- nor in the first
pub first-calm : (hash : List ℕ → List ℕ) (P : Role → List ℕ → Type 0) (fault : Option StoreFault) (before mid now : Seen) → StaysCalm before mid → faults.Shown hash P fault mid now → Calm before now → Calm before mid
first-calm hash P fault before mid now stays shown calm =
    let rises = shown-rises hash P fault mid now shown in
    record { faults = omega (arith, stays.faults, rises.faults, calm.faults); clashes = omega (arith, stays.clashes, rises.clashes, calm.clashes) }

-- ---- weights

heavier_one : (name : List ℕ) (e : Entry) (l : List Named) → weight l ≤ weight (with_name name e l)
heavier_one name e [] = omega arith
heavier_one name e (x ∷ l) = by (names_cmp name x.0) refl (heavier_one name e l)
  where
    whole : weight (x ∷ l) ≡ length x.0 + 36 + weight l
    whole = sum_by-cons (λ (e : Named). length e.0 + 36) x l

    by : (r : Ordering) → names_cmp name x.0 ≡ r → weight l ≤ weight (with_name name e l) → weight (x ∷ l) ≤ weight (by_order r ((name, e) ∷ x ∷ l) ((x.0, e) ∷ l) (x ∷ put names_cmp name e l))
    by Less is later = let more : weight ((name, e) ∷ x ∷ l) ≡ length name + 36 + weight (x ∷ l) = sum_by-cons (λ (e : Named). length e.0 + 36) (name, e) (x ∷ l) in let goal : weight (x ∷ l) ≤ weight ((name, e) ∷ x ∷ l) = omega (arith, more) in goal
    by Equal is later = let same : weight ((x.0, e) ∷ l) ≡ length x.0 + 36 + weight l = sum_by-cons (λ (e : Named). length e.0 + 36) (x.0, e) l in let goal : weight (x ∷ l) ≤ weight ((x.0, e) ∷ l) = omega (arith, same, whole) in goal
    by Greater is later = let more : weight (x ∷ put names_cmp name e l) ≡ length x.0 + 36 + weight (put names_cmp name e l) = sum_by-cons (λ (e : Named). length e.0 + 36) x (put names_cmp name e l) in let goal : weight (x ∷ l) ≤ weight (x ∷ put names_cmp name e l) = omega (arith, more, whole, later) in goal

above : (t a b : ℕ) → a ≤ b → nat_lt t a ≡ true → nat_lt t b ≡ true
above t a b le h = grind (arith, nat_tests)

-- a directory in shards stays in shards where an entry is put
pub heavier : (p : Profile) (name : List ℕ) (e : Entry) (l : List Named) → is_sharded p l ≡ true → is_sharded p (with_name name e l) ≡ true
heavier p name e l h = above p.threshold (weight l) (weight (with_name name e l)) (heavier_one name e l) h

-- ---- a put

-- what was built, where blocks were read before
pub gives-over : (hash : List ℕ → List ℕ) (told : Told) (old : List Held) (refusal : Option Refusal) (entry : Entry) (r : Result Entry DirFault) (before mid now : Seen) → Gives refusal entry r → StaysCalm before mid → Shown hash NoneIsBad r mid now
    → Stood before.faults now.faults → Stood before.clashes now.clashes → GivesOver told old refusal entry r
gives-over hash told old refusal entry (Ok e) before mid now gives calm shown faults clashes = gives
gives-over hash told old refusal entry (Err (Collision a b)) before mid now gives calm shown faults clashes = gives
gives-over hash told old refusal entry (Err TooBig) before mid now gives calm shown faults clashes = gives
gives-over hash told old refusal entry (Err (Store fault)) before mid now gives calm shown faults clashes = saving-loss hash NoneIsBad told old fault mid now gives shown (stood-mid before mid now calm faults) (stood-clash before mid now calm clashes)

-- what a removal from shards answers, by what it takes
takes-reads : (X : List ℕ → List ℕ) (N : List ℕ → ℕ) (p : Profile) (meta : Meta) (name : List ℕ) (l : List Named) (before now : Told) (r : Result (Option Entry) StoreFault) → TakesOver X N p meta name l before now r
    → ReadsOver before (shard X N 7 meta l).blocks (entry_without X N p meta name l) r
takes-reads X N p meta name l before now (Ok None) takes = takes
takes-reads X N p meta name l before now (Ok (Some e)) takes = takes.0
takes-reads X N p meta name l before now (Err fault) takes = takes

module _ (X : List ℕ → List ℕ) (good : IsHash X) (N : List ℕ → ℕ) (p : Profile) (meta : Meta) (cid : Cid) (l : List Named) (is : IsPlanned X N p meta cid l)
    (before mid : Seen) (found : Root) (node : ShardNode) (at : found ≡ root.Sharded node) (looks : IsThere cid before mid × IsRootOf mid.lent found) (same : mid.told ≡ before.told) (agrees : Agrees before.told (own_blocks X N p meta l)) where
  pub in_shards : is_sharded p l ≡ true
  in_shards = sharded_is X good N p meta cid l is before mid found node at looks same agrees

  pub plan_there : shards.IsPlanned X N cid meta l
  plan_there = planned-sharded X N p meta l cid is in_shards

  agrees_there : Agrees before.told (shard X N 7 meta l).blocks
  agrees_there = subst (Agrees before.told) (blocks-sharded X N p meta l in_shards) agrees

  over_as : (b : Bool) (m : List Named) (r : Result Entry DirFault) → is_sharded p m ≡ b → b ≡ true → GivesOver before.told (own_blocks X N p meta l) (shard_refusal X N meta m) (shard X N 7 meta m).entry r → GivesOver before.told (own_blocks X N p meta l) (dir_refusal X N p meta m) (dir_entry X N p meta m) r
  over_as b m r is holds h = subst (λ (b : Bool). GivesOver before.told (own_blocks X N p meta l) (or_else (cond b (collision N m) None) (too_big (cond b (shard X N 7 meta m) (basic_dir X N meta m)).entry.tsize)) (cond b (shard X N 7 meta m) (basic_dir X N meta m)).entry r) (sym (is ∙ holds)) h

  pub put-sharded : (name : List ℕ) (e : Entry) (now : Seen) (r : Result Entry DirFault)
      → ((n : Meta) (k : List Named) → shards.IsPlanned X N cid n k → Agrees before.told (shard X N 7 n k).blocks → Stood before.faults now.faults → Stood before.clashes now.clashes
      → GivesOver before.told (shard X N 7 n k).blocks (shard_refusal X N n (with_name name e k)) (shard X N 7 n (with_name name e k)).entry r)
      → Stood before.faults now.faults → Stood before.clashes now.clashes → GivesOver before.told (own_blocks X N p meta l) (dir_refusal X N p meta (with_name name e l)) (dir_entry X N p meta (with_name name e l)) r
  put-sharded name e now r value faults clashes =
      over_as true (with_name name e l) r (heavier p name e l in_shards) refl
      (subst (λ (old : List Held). GivesOver before.told old (shard_refusal X N meta (with_name name e l)) (shard X N 7 meta (with_name name e l)).entry r) (sym (blocks-sharded X N p meta l in_shards))
      (value meta l plan_there agrees_there faults clashes))

  pub put-sharded-saves : (name : List ℕ) (e : Entry) (now : Told)
      → ((n : Meta) (k : List Named) → shards.IsPlanned X N cid n k → Agrees before.told (shard X N 7 n k).blocks → SavesAmong X (shard X N 7 n (with_name name e k)).blocks before.told now)
      → SavesAmong X (own_blocks X N p meta (with_name name e l)) before.told now
  put-sharded-saves name e now saves =
      subst (λ (own : List Held). SavesAmong X own before.told now) (sym (blocks-sharded X N p meta (with_name name e l) (heavier p name e l in_shards)))
      (saves meta l plan_there agrees_there)

  stays_there : (now : Told) → Agrees now (own_blocks X N p meta l) → StaysAgreed before.told now (shard X N 7 meta l).blocks
  stays_there now agrees_now = record { first = agrees_there; last = subst (Agrees now) (blocks-sharded X N p meta l in_shards) agrees_now }

  pub put-sharded-after : (name : List ℕ) (e : Entry) (now : Told)
      → ((n : Meta) (k : List Named) → shards.IsPlanned X N cid n k → StaysAgreed before.told now (shard X N 7 n k).blocks → AgreesAfter before.told now (shard X N 7 n k).blocks (shard X N 7 n (with_name name e k)).blocks)
      → Agrees now (own_blocks X N p meta l) → AgreesAfter before.told now (own_blocks X N p meta l) (own_blocks X N p meta (with_name name e l))
  put-sharded-after name e now after safe =
      subst (AgreesAfter before.told now (own_blocks X N p meta l)) (sym (blocks-sharded X N p meta (with_name name e l) (heavier p name e l in_shards)))
      (subst (λ (old : List Held). AgreesAfter before.told now old (shard X N 7 meta (with_name name e l)).blocks) (sym (blocks-sharded X N p meta l in_shards))
      (after meta l plan_there (stays_there now safe)))

  -- ---- a removal

  -- the shards stay
  pub stay-there : (now : Seen) → Agrees now.told (own_blocks X N p meta l) → Calm before now → StayShards X N meta cid before now l
  stay-there now safe calm = record { plan = plan_there; stays = stays_there now.told safe; calm = calm }

  -- the metadata that was read is the directory's
  pub read_there : node.meta ≡ meta
  read_there = sharded-meta X good N p meta cid l is before mid found node at looks same agrees

  pub stay-read : (now : Seen) → Agrees now.told (own_blocks X N p meta l) → Calm before now → StayShards X N node.meta cid before now l
  stay-read now safe calm = subst (λ (n : Meta). StayShards X N n cid before now l) (sym read_there) (stay-there now safe calm)

  pub removal-there : (name : List ℕ) (now : Told)
      → ((k : List Named) → shards.IsPlanned X N cid node.meta k → StaysAgreed before.told now (shard X N 7 node.meta k).blocks
      → CanRise before → SavesAmong X ((shard X N 7 node.meta (without name k)).blocks ++ own_blocks X N p node.meta (without name k)) before.told now)
      → Agrees now (own_blocks X N p meta l) → CanRise before → SavesAmong X ((shard X N 7 meta (without name l)).blocks ++ own_blocks X N p meta (without name l)) before.told now
  removal-there name now saves safe can =
      (subst (λ (n : Meta). (k : List Named) → shards.IsPlanned X N cid n k → StaysAgreed before.told now (shard X N 7 n k).blocks
      → CanRise before → SavesAmong X ((shard X N 7 n (without name k)).blocks ++ own_blocks X N p n (without name k)) before.told now) read_there saves) l plan_there (stays_there now safe) can

  pub takes_there : (name : List ℕ) (now : Seen) (r : Result (Option Entry) StoreFault) → TakesSharded X N p node.meta cid name before now r → TakesSharded X N p meta cid name before now r
  takes_there name now r takes = subst (λ (n : Meta). TakesSharded X N p n cid name before now r) read_there takes

  pub take-sharded : (name : List ℕ) (now : Seen) (r : Result (Option Entry) StoreFault) → TakesSharded X N p node.meta cid name before now r
      → Agrees now.told (own_blocks X N p meta l) → Calm before now → ReadsOver before.told (own_blocks X N p meta l) (entry_without X N p meta name l) r
  take-sharded name now r takes safe calm =
      subst (λ (old : List Held). ReadsOver before.told old (entry_without X N p meta name l) r) (sym (blocks-sharded X N p meta l in_shards))
      (takes-reads X N p meta name l before.told now.told r ((takes_there name now r takes).over l (stay-there now safe calm)))

-- ---- what is left of a directory in shards

module _ (X : List ℕ → List ℕ) (N : List ℕ → ℕ) (p : Profile) (meta : Meta) (name : List ℕ) (l : List Named) where
  pub absent-none : Absent ≡ left_without X N name meta l → None ≡ entry_without X N p meta name l
  absent-none h = by (find names_cmp name l) h
    where
      left : (m : List Named) → Absent ≡ left_of X N meta m → ⊥
      left [] h = let no : Absent ≡ Empty = h in cc
      left (e ∷ m) h = let no : Absent ≡ Left (shard X N 7 meta (e ∷ m)).entry = h in cc

      by : (o : Option Entry) → Absent ≡ elim o [ None ↦ Absent | Some old ↦ left_of X N meta (without name l) ] → ◌≡◌ {A = Option Entry} None (elim o [ None ↦ None | Some old ↦ Some (dir_entry X N p meta (without name l)) ])
      by None h = refl
      by (Some old) h = absurd (left (without name l) h)

  -- something is left, or nothing
  pub record IsEmptied : Type 0 where
    pub nothing : without name l ≡ []
    pub entry : entry_without X N p meta name l ≡ Some (dir_entry X N p meta (without name l))

  pub emptied : Empty ≡ left_without X N name meta l → IsEmptied
  emptied h = by (find names_cmp name l) refl h
    where
      none : (m : List Named) → Empty ≡ left_of X N meta m → m ≡ []
      none [] h = refl
      none (e ∷ m) h = absurd (let no : Empty ≡ Left (shard X N 7 meta (e ∷ m)).entry = h in cc)

      by : (o : Option Entry) → find names_cmp name l ≡ o → Empty ≡ elim o [ None ↦ Absent | Some old ↦ left_of X N meta (without name l) ] → IsEmptied
      by None is h = absurd (let no : Empty ≡ Absent = h in cc)
      by (Some old) is h = record { nothing = none (without name l) h; entry = ap (λ (o : Option Entry). elim o [ None ↦ None | Some old ↦ Some (dir_entry X N p meta (without name l)) ]) is }

  pub emptied-value : (e : Entry) → e ≡ dir_entry X N p meta [] → Empty ≡ left_without X N name meta l → Some e ≡ entry_without X N p meta name l
  emptied-value e is h = let empty = emptied h in ap (λ (x : Entry). Some x) (is ∙ ap (dir_entry X N p meta) (sym empty.nothing)) ∙ sym empty.entry

  pub record IsShortened (e : Entry) : Type 0 where
    pub some : 1 ≤ length (without name l)
    pub old : Entry
    pub there : find names_cmp name l ≡ Some old
    pub shards : e ≡ (shard X N 7 meta (without name l)).entry
    pub entry : entry_without X N p meta name l ≡ Some (dir_entry X N p meta (without name l))

  pub shortened : (e : Entry) → Left e ≡ left_without X N name meta l → IsShortened e
  shortened e h = by (find names_cmp name l) refl h
    where
      some : (m : List Named) → Left e ≡ left_of X N meta m → (1 ≤ length m) × (e ≡ (shard X N 7 meta m).entry)
      some [] h = absurd (let no : Left e ≡ Empty = h in cc)
      some (x ∷ m) h = (let one : 1 ≤ suc (length m) = omega arith in one, let same : Left e ≡ Left (shard X N 7 meta (x ∷ m)).entry = h in cc)

      by : (o : Option Entry) → find names_cmp name l ≡ o → Left e ≡ elim o [ None ↦ Absent | Some old ↦ left_of X N meta (without name l) ] → IsShortened e
      by None is h = absurd (let no : Left e ≡ Absent = h in cc)
      by (Some old) is h =
          let parts = some (without name l) h in
          record { some = parts.0; old = old; there = is; shards = parts.1; entry = ap (λ (o : Option Entry). elim o [ None ↦ None | Some old ↦ Some (dir_entry X N p meta (without name l)) ]) is }

  -- what is left has a plan
  alone_kept : (same : List ℕ → List ℕ → Bool) (a : List ℕ) (test : List ℕ → Bool) (m : List Named) → Alone same a m → Alone same a (where_key names_cmp test m)
  alone_kept same a test m h = each_filter (λ (f : Named). same a f.0 ≡ false) (λ (f : Named). test f.0) m h

  apart_kept : (same : List ℕ → List ℕ → Bool) (test : List ℕ → Bool) (m : List Named) → Apart same m → Apart same (where_key names_cmp test m)
  apart_kept same test [] h = tt
  apart_kept same test (x ∷ m) h = elim (test x.0) as (λ (b : Bool). Apart same (cond b (x ∷ where_key names_cmp test m) (where_key names_cmp test m))) [
    | true ↦ (alone_kept same x.0 test m h.0, apart_kept same test m h.1)
    | false ↦ apart_kept same test m h.1
  ]

  plan_some : (m : List Named) → 1 ≤ length m → twins (same_slots N 7) m ≡ None → shard_plan X N 0 meta m ≡ Some (shard X N 7 meta m)
  plan_some [] some h = absurd (omega arith)
  plan_some (e ∷ m) some h = ap (λ (o : Option (List ℕ × List ℕ)). elim o [ None ↦ Some (shard X N 7 meta (e ∷ m)) | Some names ↦ None ]) h

  plan_apart : (m : List Named) (plan : Plan) → shard_plan X N 0 meta m ≡ Some plan → twins (same_slots N 7) m ≡ None
  plan_apart [] plan h = absurd (let no : None ≡ Some plan = h in cc)
  plan_apart (e ∷ m) plan h = by (twins (same_slots N 7) (e ∷ m)) h
    where
      by : (o : Option (List ℕ × List ℕ)) → elim o [ None ↦ Some (shard X N 7 meta (e ∷ m)) | Some names ↦ None ] ≡ Some plan → o ≡ None
      by None h = refl
      by (Some names) h = absurd (let no : None ≡ Some plan = h in cc)

  pub shortened-plan : (cid : Cid) (e : Entry) → shards.IsPlanned X N cid meta l → IsShortened e → shards.IsPlanned X N e.cid meta (without name l)
  shortened-plan cid e is h = record {
    good = is.good;
    valid = directory-without name l is.valid;
    plan = shard X N 7 meta (without name l);
    is_plan = plan_some (without name l) h.some (Apart-twins (same_slots N 7) (without name l) (apart_kept (same_slots N 7) (λ other. not (eq_by_cmp names_cmp name other)) l (twins-Apart (same_slots N 7) l (plan_apart l is.plan is.is_plan))));
    cid = ap (λ (x : Entry). x.cid) h.shards;
  }

-- a block that is lost afterwards was lost before
back_lost : (u : Contents) (before : Told) (old new : List Held) (c : Cid) → AllByRecursion (λ (b : Held). held_at u b.0 ≡ None → LosesBlock before b old) new → IsLost (held_at u) c new → LosesOne before c old
back_lost u before old [] c all h = absurd h
back_lost u before old (b ∷ new) c all (inl h) = subst (λ (x : Cid). LosesOne before x old) (sym h.0) (loses-cid before b old (all.0 h.1))
back_lost u before old (b ∷ new) c all (inr h) = back_lost u before old new c all.1 h

pub loss-back : (before mid : Told) (old new : List Held) (fault : StoreFault) → AgreesAfter before mid old new → IsLossOf mid new fault → IsLossOf before old fault
loss-back before mid old new Failed after h = h
loss-back before mid old new (Damaged c) after h = h
loss-back before None old new (Missing c) after h = absurd after
loss-back before (Some u) old new (Missing c) after h = back_lost u before old new c after.1 h
loss-back before mid old new (BadBlock c role) after h = h
loss-back before mid old new (Clash c x y) after h = h
loss-back before mid old new Memory after h = tt

pub agrees-of : (before mid : Told) (old new : List Held) → AgreesAfter before mid old new → Agrees mid new
agrees-of before None old new after = absurd after
agrees-of before (Some u) old new after = after.0

-- where what is left stays as it was saved, or is held in another form
pub settled-after : (X : List ℕ → List ℕ) (N : List ℕ → ℕ) (p : Profile) (meta : Meta) (m : List Named) (before mid now : Told) (old : List Held) → Agrees before old → SavesOnly X before now → AgreesAfter before mid old (shard X N 7 meta m).blocks
    → IsLeftOrHeld X N p meta m mid now → AgreesAfter before now old (own_blocks X N p meta m)
settled-after X N p meta m before mid now old agrees saves after (inl stays) =
    subst (AgreesAfter before now old) (sym (blocks-sharded X N p meta m stays.0)) (subst (λ (told : Told). AgreesAfter before told old (shard X N 7 meta m).blocks) (sym stays.1) after)
settled-after X N p meta m before mid now old agrees saves after (inr held) = after-held X before now old (own_blocks X N p meta m) agrees saves held

-- ---- the form that what is left has

-- the pairs that were listed, saved in one block where they aren't too heavy
module _ (X : List ℕ → List ℕ) (p : Profile) (meta : Meta) (entry : Entry) where
  sharded-entry : (N : List ℕ → ℕ) (l : List Named) → is_sharded p l ≡ true → entry ≡ (shard X N 7 meta l).entry → entry ≡ dir_entry X N p meta l
  sharded-entry N l heavy is = is ∙ ap (λ (b : Bool). (cond b (shard X N 7 meta l) (basic_dir X N meta l)).entry) (sym heavy)

  -- shards that are too heavy for one block stay
  pub stays-settled : (before now : Seen) → IsShardCid X entry.cid → now.told ≡ before.told
      → ((N : List ℕ → ℕ) (l : List Named) → AreShards X N meta entry before now l → true ≡ nat_lt p.threshold (weight l)) → SettlesShards X p meta entry before now (Ok entry)
  stays-settled before now shard same heavy = record {
    made = shard-root X (Some p) entry.cid shard;
    over = λ N l are. let is : is_sharded p l ≡ true = sym (heavy N l are) in (sharded-entry N l is are.same, inl (is, same));
  }

  -- the same over two calls, of which the first left all as it was
  pub later-shards : (N : List ℕ → ℕ) (before mid now : Seen) (l : List Named) → StaysCalm before mid → mid.told ≡ before.told → AreShards X N meta entry before now l → AreShards X N meta entry mid now l
  later-shards N before mid now l stays same are = record {
    plan = are.plan;
    same = are.same;
    agrees = subst (λ (told : Told). Agrees told (shard X N 7 meta l).blocks) (sym same) are.agrees;
    calm = then-calm before mid now stays are.calm;
  }

  pub settles-later : (before mid now : Seen) (r : Result Entry StoreFault) → StaysCalm before mid → mid.told ≡ before.told → SettlesShards X p meta entry mid now r → SettlesShards X p meta entry before now r
  settles-later before mid now r stays same settles = record {
    made = settles.made;
    over = λ N l are. subst (λ (told : Told). SettlesOver X N p meta l told now.told r) same (settles.over N l (later-shards N before mid now l stays same are));
  }

  module _ (pairs : List Named) where
    -- what was saved of pairs that aren't too heavy
    pub saved-fits : (N : List ℕ → ℕ) (r : Result Entry StoreFault) (mid now : Told) → is_sharded p pairs ≡ false → IfOk r (λ e. (N : List ℕ → ℕ) → e ≡ (basic_dir X N meta pairs).entry) → OnOk r (Holds now (basic_dir X N meta pairs).blocks) → IfErr r IsSaving
        → Fits X N p meta entry pairs mid now r
    saved-fits N (Ok e) mid now light is held fault = inr (is N ∙ light-entry X N p meta pairs light, light-held X N p meta pairs now light held)
    saved-fits N (Err fault) mid now light is held saving = saving

    fits-made : IsHash X → IsTrue (is_meta meta) → IsDirectory pairs → (r : Result Entry StoreFault) (before now : Told) → IsShardCid X entry.cid → Fits X (λ name. 0) p meta entry pairs before now r → IfOk r (λ e. IsRootCid X (Some p) e.cid)
    fits-made good carried valid (Ok e) before now shard (inl heavy) = subst (λ (x : Entry). IsRootCid X (Some p) x.cid) (sym heavy.2) (shard-root X (Some p) entry.cid shard)
    fits-made good carried valid (Ok e) before now shard (inr light) = subst (λ (x : Entry). IsRootCid X (Some p) x.cid) (sym light.0) (planned-root X good (λ name. 0) p meta pairs carried valid)
    fits-made good carried valid (Err fault) before now shard fits = tt

    fits-over : (N : List ℕ → ℕ) (l : List Named) (r : Result Entry StoreFault) (before mid now : Seen) → pairs ≡ l → entry ≡ (shard X N 7 meta l).entry → mid.told ≡ before.told → Fits X N p meta entry pairs mid.told now.told r
        → faults.Shown X NoneIsBad (fault_in r) mid now → Calm mid now → SettlesOver X N p meta l before.told now.told r
    fits-over N l (Ok e) before mid now same is told (inl heavy) shown calm =
        let in_shards : is_sharded p l ≡ true = ap (is_sharded p) (sym same) ∙ heavy.0 in
        (heavy.2 ∙ sharded-entry N l in_shards is, inl (in_shards, heavy.1 ∙ told))
    fits-over N l (Ok e) before mid now same is told (inr light) shown calm =
        (light.0 ∙ ap (dir_entry X N p meta) same, inr (subst (λ (m : List Named). Holds now.told (own_blocks X N p meta m)) same light.1))
    fits-over N l (Err fault) before mid now same is told fits shown calm = saving-loss X NoneIsBad before.told (shard X N 7 meta l).blocks fault mid now fits shown calm.faults calm.clashes

    pub fits-settles : IsHash X → IsTrue (is_meta meta) → IsDirectory pairs → (r : Result Entry StoreFault) (before mid now : Seen) → IsShardCid X entry.cid → StaysCalm before mid → mid.told ≡ before.told
        → ((N : List ℕ → ℕ) (n : Meta) (l : List Named) → shards.IsPlanned X N entry.cid n l → Agrees before.told (shard X N 7 n l).blocks → Stood before.faults mid.faults → pairs ≡ l)
        → ((N : List ℕ → ℕ) → Fits X N p meta entry pairs mid.told now.told r) → faults.Shown X NoneIsBad (fault_in r) mid now → SettlesShards X p meta entry before now r
    fits-settles good carried valid r before mid now shard stays told same fits shown = record {
      made = fits-made good carried valid r mid.told now.told shard (fits (λ name. 0));
      over = λ N l are. let first = first-calm X NoneIsBad (fault_in r) before mid now stays shown are.calm in
          fits-over N l r before mid now (same N meta l are.plan are.agrees first.faults) are.same told (fits N) shown (then-calm before mid now stays are.calm);
    }

-- the weight of fewer pairs
pub lighter : (name : List ℕ) (l : List Named) → weight (without name l) ≤ weight l
lighter name [] = omega arith
lighter name (x ∷ l) = by (not (eq_by_cmp names_cmp name x.0)) (lighter name l)
  where
    whole : (m : List Named) → weight (x ∷ m) ≡ length x.0 + 36 + weight m
    whole m = sum_by-cons (λ (e : Named). length e.0 + 36) x m

    by : (b : Bool) → weight (without name l) ≤ weight l → weight (cond b (x ∷ without name l) (without name l)) ≤ weight (x ∷ l)
    by true later = omega (arith, whole (without name l), whole l, later)
    by false later = omega (arith, whole l, later)

pub light_bound : (t n : ℕ) → n ≤ t → nat_lt t n ≡ false
light_bound t n h = grind (arith, nat_tests)

-- the pairs that are left of one block fit one block too
module _ (name : List ℕ) (pairs m : List Named) (left : Option (List Named)) (some : left ≡ Some m) (is : left ≡ pairs_left name pairs) where
  pub left-light : (most : ℕ) → weight pairs ≤ most → weight m ≤ most
  left-light most light = let rest : weight m ≤ weight pairs = subst (λ (k : List Named). weight k ≤ weight pairs) (sym (left-some name pairs m left some is)) (lighter name pairs) in omega (arith, rest, light)

  pub left-basic : (X : List ℕ → List ℕ) (N : List ℕ → ℕ) (p : Profile) (meta : Meta) (e : Entry) (now : Told) → weight pairs ≤ p.threshold → e ≡ (basic_dir X N meta m).entry → Holds now (basic_dir X N meta m).blocks
      → (entry_without X N p meta name pairs ≡ Some e) × Holds now (own_blocks X N p meta (without name pairs))
  left-basic X N p meta e now light entry held = (
    there (find names_cmp name pairs) (sym some ∙ is) ∙ ap (λ (k : List Named). Some (dir_entry X N p meta k)) (sym whole) ∙ ap (λ (x : Entry). Some x) (sym (entry ∙ light-entry X N p meta m one)),
    subst (λ (k : List Named). Holds now (own_blocks X N p meta k)) whole (light-held X N p meta m now one held),
  )
    where
      whole : m ≡ without name pairs
      whole = left-some name pairs m left some is

      one : is_sharded p m ≡ false
      one = light_bound p.threshold (weight m) (left-light p.threshold light)

      there : (o : Option Entry) → ◌≡◌ {A = Option (List Named)} (Some m) (elim o [ None ↦ None | Some old ↦ Some (without name pairs) ])
          → elim o [ None ↦ None | Some old ↦ Some (dir_entry X N p meta (without name pairs)) ] ≡ Some (dir_entry X N p meta (without name pairs))
      there None e = absurd (let no : Some m ≡ None = e in cc)
      there (Some old) e = refl

-- what a removal from one block answers
pub basic-value : (X : List ℕ → List ℕ) (N : List ℕ → ℕ) (p : Profile) (meta : Meta) (name : List ℕ) (pairs l : List Named) (told : Told) (old : List Held) (mid now : Told) (r : Result (Option Entry) StoreFault) (before between after : Seen) → pairs ≡ l → TakesBasic X N p meta name pairs mid now r
    → StaysCalm before between → Answers X NoneIsBad r between after → Stood before.faults after.faults → Stood before.clashes after.clashes → ReadsOver told old (entry_without X N p meta name l) r
basic-value X N p meta name pairs l told old mid now (Ok None) before between after same takes calm answers faults clashes =
    sym (ap (λ (m : List Named). entry_without X N p meta name m) (sym same) ∙ ap (λ (o : Option Entry). elim o [ None ↦ None | Some old ↦ Some (dir_entry X N p meta (without name pairs)) ]) takes.0)
basic-value X N p meta name pairs l told old mid now (Ok (Some e)) before between after same takes calm answers faults clashes = sym takes.0 ∙ ap (λ (m : List Named). entry_without X N p meta name m) same
basic-value X N p meta name pairs l told old mid now (Err fault) before between after same takes calm answers faults clashes = saving-loss X NoneIsBad told old fault between after takes answers (stood-mid before between after calm faults) (stood-clash before between after calm clashes)

pub basic-after : (X : List ℕ → List ℕ) (N : List ℕ → ℕ) (p : Profile) (meta : Meta) (name : List ℕ) (pairs l : List Named) (before mid now : Told) (r : Result (Option Entry) StoreFault) → pairs ≡ l → mid ≡ before → TakesBasic X N p meta name pairs mid now r → SavesOnly X before now
    → Agrees before (own_blocks X N p meta l) → OnOk r (AgreesAfter before now (own_blocks X N p meta l) (own_blocks X N p meta (without name l)))
basic-after X N p meta name pairs l before mid now (Ok None) same calm takes saves agrees =
    subst (λ (m : List Named). AgreesAfter before now (own_blocks X N p meta l) (own_blocks X N p meta m)) (sym (without-absent name l (ap (find names_cmp name) (sym same) ∙ takes.0))) (after-same before now (own_blocks X N p meta l) agrees (takes.1 ∙ calm))
basic-after X N p meta name pairs l before mid now (Ok (Some e)) same calm takes saves agrees =
    after-held X before now (own_blocks X N p meta l) (own_blocks X N p meta (without name l)) agrees saves (subst (λ (m : List Named). Holds now (own_blocks X N p meta (without name m))) same takes.1)
basic-after X N p meta name pairs l before mid now (Err fault) same calm takes saves agrees = tt

-- ---- what a removal from shards leaves

-- the entry of what is left as the answer of the removal
abbrev pub with_some : Result Entry StoreFault → Result (Option Entry) StoreFault
with_some (Ok e) = Ok (Some e)
with_some (Err fault) = Err fault

module _ (X : List ℕ → List ℕ) (N : List ℕ → ℕ) (p : Profile) (meta : Meta) (name : List ℕ) (l : List Named) where
  pub emptied-after : (before now : Told) → Agrees before (shard X N 7 meta l).blocks → SavesOnly X before now → Empty ≡ left_without X N name meta l → Holds now (own_blocks X N p meta [])
      → AgreesAfter before now (shard X N 7 meta l).blocks (own_blocks X N p meta (without name l))
  emptied-after before now agrees saves is held =
      let empty = emptied X N p meta name l is in
      after-held X before now (shard X N 7 meta l).blocks (own_blocks X N p meta (without name l)) agrees saves (subst (λ (m : List Named). Holds now (own_blocks X N p meta m)) (sym empty.nothing) held)

  module _ (cid : Cid) (is : shards.IsPlanned X N cid meta l) (e : Entry) (before mid now : Seen) (agrees : Agrees before.told (shard X N 7 meta l).blocks) (stays : StaysCalm before mid) (calm : Calm before now)
      (safe : Agrees now.told (shard X N 7 meta l).blocks) (second : SavesOnly X mid.told now.told) (first : SavesOnly X before.told mid.told) (left : Left e ≡ left_without X N name meta l)
      (after : StaysAgreed before.told mid.told (shard X N 7 meta l).blocks → AgreesAfter before.told mid.told (shard X N 7 meta l).blocks (shard X N 7 meta (without name l)).blocks) where
    after_mid : AgreesAfter before.told mid.told (shard X N 7 meta l).blocks (shard X N 7 meta (without name l)).blocks
    after_mid = after (record { first = agrees; last = agrees-between X IsSave before.told mid.told now.told (shard X N 7 meta l).blocks first second (record { first = agrees; last = safe }) })

    pub left-shards : AreShards X N meta e mid now (without name l)
    left-shards =
        let short = shortened X N p meta name l e left in
        record {
          plan = shortened-plan X N p meta name l cid e is short;
          same = short.shards;
          agrees = agrees-of before.told mid.told (shard X N 7 meta l).blocks (shard X N 7 meta (without name l)).blocks after_mid;
          calm = then-calm before mid now stays calm;
        }

    pub left-over : (r : Result Entry StoreFault) → SettlesOver X N p meta (without name l) mid.told now.told r → TakesOver X N p meta name l before.told now.told (with_some r)
    left-over (Ok x) settles = (
      ap (λ (x : Entry). Some x) settles.0 ∙ sym (shortened X N p meta name l e left).entry,
      settled-after X N p meta (without name l) before.told mid.told now.told (shard X N 7 meta l).blocks agrees (SavesOnly-trans X before.told mid.told now.told first second) after_mid settles.1,
    )
    left-over (Err fault) settles = loss-back before.told mid.told (shard X N 7 meta l).blocks (shard X N 7 meta (without name l)).blocks fault after_mid settles

pub saves-same : (X : List ℕ → List ℕ) (a b : Told) → b ≡ a → SavesOnly X a b
saves-same X a b same = subst (SavesOnly X a) (sym same) (SavesOnly-refl X a)

-- what a call does behind one that saved nothing
pub saves-behind : (hash : List ℕ → List ℕ) (Bad : Role → List ℕ → Type 0) (fault : Option StoreFault) (before mid now : Seen) → mid.told ≡ before.told → faults.Shown hash Bad fault before now
    → KeepsGood hash mid.told now.told → SavesOnly hash mid.told now.told → OnlySaves hash Bad fault before now
saves-behind hash Bad fault before mid now same cause good saves = record {
  cause = cause;
  good = subst (λ (t : Told). KeepsGood hash t now.told) same good;
  saves = subst (λ (t : Told). SavesOnly hash t now.told) same saves;
}

-- ---- the two calls, where the root is one block

module _ (X : List ℕ → List ℕ) (N : List ℕ → ℕ) (p : Profile) where
  pub put-basic : (name : List ℕ) (e : Entry) (meta : Meta) (l : List Named) (node : DirNode) (told : Told) (old : List Held) (r : Result Entry DirFault) (before mid now : Seen) → node ≡ record { pairs = l; meta = meta }
      → Gives (dir_refusal X N p node.meta (with_name name e node.pairs)) (dir_entry X N p node.meta (with_name name e node.pairs)) r
      → StaysCalm before mid → Shown X NoneIsBad r mid now → Stood before.faults now.faults → Stood before.clashes now.clashes → GivesOver told old (dir_refusal X N p meta (with_name name e l)) (dir_entry X N p meta (with_name name e l)) r
  put-basic name e meta l node told old r before mid now same gives calm shown faults clashes =
      subst (λ (n : DirNode). GivesOver told old (dir_refusal X N p n.meta (with_name name e n.pairs)) (dir_entry X N p n.meta (with_name name e n.pairs)) r) same (gives-over X told old _ _ r before mid now gives calm shown faults clashes)

  pub put-basic-after : (root : Cid) (name : List ℕ) (e : Entry) (node : DirNode) (before mid now : Told) (r : Result Entry DirFault) → ((meta : Meta) (l : List Named) → IsPlanned X N p meta root l → Agrees before (own_blocks X N p meta l) → node ≡ record { pairs = l; meta = meta }) → mid ≡ before → SavesOnly X mid now
      → OnOk r (Holds now (own_blocks X N p node.meta (with_name name e node.pairs)))
      → OnOk r ((meta : Meta) (l : List Named) → IsPlanned X N p meta root l → StaysAgreed before now (own_blocks X N p meta l) → AgreesAfter before now (own_blocks X N p meta l) (own_blocks X N p meta (with_name name e l)))
  put-basic-after root name e node before mid now (Ok x) ok same saves held = λ meta l is stays.
      after-held X before now (own_blocks X N p meta l) (own_blocks X N p meta (with_name name e l)) stays.first (subst (λ (told : Told). SavesOnly X told now) same saves)
      (subst (λ (n : DirNode). Holds now (own_blocks X N p n.meta (with_name name e n.pairs))) (ok meta l is stays.first) held)
  put-basic-after root name e node before mid now (Err fault) ok same saves held = tt

  module _ (good : IsHash X) (name : List ℕ) (node : DirNode) (valid : IsDirNode node) where
    entry-some : (e : Entry) → entry_without X N p node.meta name node.pairs ≡ Some e → IsRootCid X (Some p) e.cid
    entry-some e h = by (find names_cmp name node.pairs) h
      where
        by : (o : Option Entry) → elim o [ None ↦ None | Some old ↦ Some (dir_entry X N p node.meta (without name node.pairs)) ] ≡ Some e → IsRootCid X (Some p) e.cid
        by None h = absurd (let no : None ≡ Some e = h in cc)
        by (Some old) h =
            let same : dir_entry X N p node.meta (without name node.pairs) ≡ e = (let some : Some (dir_entry X N p node.meta (without name node.pairs)) ≡ Some e = h in cc) in
            subst (λ (x : Entry). IsRootCid X (Some p) x.cid) same (planned-root X good N p node.meta (without name node.pairs) valid.meta (directory-without name node.pairs valid.pairs))

    pub basic-root : (mid now : Told) (r : Result (Option Entry) StoreFault) → TakesBasic X N p node.meta name node.pairs mid now r → IfOk r (λ left. IfSome left (λ e. IsRootCid X (Some p) e.cid))
    basic-root mid now (Ok None) h = tt
    basic-root mid now (Ok (Some e)) h = entry-some e h.0
    basic-root mid now (Err fault) h = tt

  -- the same pairs and metadata
  takes-of : (name : List ℕ) (meta : Meta) (l : List Named) (node : DirNode) (mid now : Told) (r : Result (Option Entry) StoreFault) → node ≡ record { pairs = l; meta = meta } → TakesBasic X N p node.meta name node.pairs mid now r → TakesBasic X N p meta name l mid now r
  takes-of name meta l node mid now r same takes = subst (λ (n : DirNode). TakesBasic X N p n.meta name n.pairs mid now r) same takes

  pub basic-answer : (name : List ℕ) (meta : Meta) (l : List Named) (node : DirNode) (told : Told) (old : List Held) (mid now : Told) (r : Result (Option Entry) StoreFault) (before between after : Seen) → node ≡ record { pairs = l; meta = meta }
      → TakesBasic X N p node.meta name node.pairs mid now r → StaysCalm before between → Answers X NoneIsBad r between after → Stood before.faults after.faults → Stood before.clashes after.clashes → ReadsOver told old (entry_without X N p meta name l) r
  basic-answer name meta l node told old mid now r before between after same takes = basic-value X N p meta name l l told old mid now r before between after refl (takes-of name meta l node mid now r same takes)

  pub basic-ok : (root : Cid) (name : List ℕ) (node : DirNode) (before mid now : Told) (r : Result (Option Entry) StoreFault) (B C : Meta → List Named → Type 0)
      → ((meta : Meta) (l : List Named) → IsPlanned X N p meta root l → Agrees before (own_blocks X N p meta l) → node ≡ record { pairs = l; meta = meta }) → mid ≡ before
      → SavesOnly X mid now → TakesBasic X N p node.meta name node.pairs mid now r
      → OnOk r ((meta : Meta) (l : List Named) → IsPlanned X N p meta root l → StaysAgreed before now (own_blocks X N p meta l) → B meta l → C meta l → AgreesAfter before now (own_blocks X N p meta l) (own_blocks X N p meta (without name l)))
  basic-ok root name node before mid now r B C ok same saves takes = by r takes
    where
      by : (r : Result (Option Entry) StoreFault) → TakesBasic X N p node.meta name node.pairs mid now r
          → OnOk r ((meta : Meta) (l : List Named) → IsPlanned X N p meta root l → StaysAgreed before now (own_blocks X N p meta l) → B meta l → C meta l → AgreesAfter before now (own_blocks X N p meta l) (own_blocks X N p meta (without name l)))
      by (Ok left) takes = λ meta l is stays b c. basic-after X N p meta name l l before mid now (Ok left) refl same (takes-of name meta l node mid now (Ok left) (ok meta l is stays.first) takes)
          (subst (λ (told : Told). SavesOnly X told now) same saves) stays.first
      by (Err fault) takes = tt

-- ---- and where it is a shard

module _ (X : List ℕ → List ℕ) (good : IsHash X) (N : List ℕ → ℕ) (p : Profile) (cid : Cid)
    (before mid : Seen) (found : Root) (node : ShardNode) (at : found ≡ root.Sharded node) (looks : IsThere cid before mid × IsRootOf mid.lent found) (same : mid.told ≡ before.told) where
  pub put-sharded-ok : (name : List ℕ) (e : Entry) (now : Told) (r : Result Entry DirFault)
      → OnOk r ((n : Meta) (k : List Named) → shards.IsPlanned X N cid n k → StaysAgreed before.told now (shard X N 7 n k).blocks → AgreesAfter before.told now (shard X N 7 n k).blocks (shard X N 7 n (with_name name e k)).blocks)
      → OnOk r ((meta : Meta) (l : List Named) → IsPlanned X N p meta cid l → StaysAgreed before.told now (own_blocks X N p meta l) → AgreesAfter before.told now (own_blocks X N p meta l) (own_blocks X N p meta (with_name name e l)))
  put-sharded-ok name e now (Ok x) after = λ meta l is stays. put-sharded-after X good N p meta cid l is before mid found node at looks same stays.first name e now after stays.last
  put-sharded-ok name e now (Err fault) after = tt

  module _ (name : List ℕ) (now : Seen) where
    not-there : (meta : Meta) (l : List Named) → None ≡ entry_without X N p meta name l → find names_cmp name l ≡ None
    not-there meta l h = by (find names_cmp name l) h
      where
        by : (o : Option Entry) → ◌≡◌ {A = Option Entry} None (elim o [ None ↦ None | Some old ↦ Some (dir_entry X N p meta (without name l)) ]) → o ≡ None
        by None h = refl
        by (Some old) h = absurd (let no : None ≡ Some (dir_entry X N p meta (without name l)) = h in cc)

    pub take-sharded-ok : (r : Result (Option Entry) StoreFault) → TakesSharded X N p node.meta cid name before now r
        → OnOk r ((meta : Meta) (l : List Named) → IsPlanned X N p meta cid l → StaysAgreed before.told now.told (own_blocks X N p meta l) → Stood before.faults now.faults → Stood before.clashes now.clashes
        → AgreesAfter before.told now.told (own_blocks X N p meta l) (own_blocks X N p meta (without name l)))
    take-sharded-ok (Ok None) takes = λ meta l is keeps faults clashes.
        let absent : None ≡ entry_without X N p meta name l = (takes_there X good N p meta cid l is before mid found node at looks same keeps.first name now (Ok None) takes).over l
        (stay-there X good N p meta cid l is before mid found node at looks same keeps.first now keeps.last (record { faults = faults; clashes = clashes })) in
        subst (λ (m : List Named). AgreesAfter before.told now.told (own_blocks X N p meta l) (own_blocks X N p meta m)) (sym (without-absent name l (not-there meta l absent))) (after-same before.told now.told (own_blocks X N p meta l) keeps.first (takes.none refl))
    take-sharded-ok (Ok (Some e)) takes = λ meta l is keeps faults clashes.
        let over = (takes_there X good N p meta cid l is before mid found node at looks same keeps.first name now (Ok (Some e)) takes).over l
        (stay-there X good N p meta cid l is before mid found node at looks same keeps.first now keeps.last (record { faults = faults; clashes = clashes })) in
        subst (λ (old : List Held). AgreesAfter before.told now.told old (own_blocks X N p meta (without name l))) (sym (blocks-sharded X N p meta l (in_shards X good N p meta cid l is before mid found node at looks same keeps.first)))
        over.1
    take-sharded-ok (Err fault) takes = tt
