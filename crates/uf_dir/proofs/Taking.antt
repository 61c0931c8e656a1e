-- What a removal from a directory in shards answers.
use Rattle.std.proofs.Common.{◌≡◌, ℕ, List, [], refl, ap, sym, ◌∙◌, subst, Some, None}
use Rattle.std.specs.Prelude.{IfOk, IfSome, IsTrue}
use Rattle.std.specs.declared.result.Result.{Result}
use Rattle.std.specs.declared.result.Result.TheVariants.{Ok, Err}
use Rattle.uf_cid.specs.declared.cid.Cid.{Cid}
use Rattle.uf_edge.specs.Counts.{Stood}
use Rattle.uf_store.specs.Clashes.{IsSaving}
use Rattle.uf_store.specs.Faults.{NoneIsBad, Shown, Shows, StaysCalm, fault_in}
use Rattle.uf_store.specs.Keeping.{Agrees, Holds, StaysAgreed}
use Rattle.uf_store.specs.Lost.{AgreesAfter, IsLossOf}
use Rattle.uf_store.specs.Seen.{Seen}
use Rattle.uf_store.specs.Writing.{SavesOnly}
use Rattle.uf_store.specs.declared.store.StoreFault.{StoreFault}
use Rattle.uf_store.proofs.Writing.{SavesOnly-trans}
use Rattle.uf_tree.specs.declared.nodes.Entry.{Entry}
use Rattle.uf_tree.specs.declared.meta.Meta.{Meta}
use Rattle.uf_tree.specs.declared.profile.Profile.{Profile}
use Rattle.uf_tree.specs.Changes.{without}
use Rattle.uf_tree.specs.DirPlan.{basic_dir}
use Rattle.uf_tree.specs.Metas.{is_meta}
use Rattle.uf_tree.specs.Validity.{IsHash}
use Rattle.uf_tree.specs.Nodes.{Named}
use Rattle.uf_tree.specs.ShardPlan.{shard}
use Rattle.uf_shard.specs.declared.removed.Removed.TheVariants.{Absent, Empty, Left}
use Rattle.uf_shard.specs.Listing.{IsBadShard}
use Rattle.uf_shard.specs.Planned as shards
use Rattle.uf_shard.specs.Taken.{left_without}
use Rattle.uf_dir.specs.Left.{AreShards, SettlesShards, StayShards, TakesSharded}
use Rattle.uf_dir.specs.Planned.{dir_entry, own_blocks}
use Rattle.uf_dir.proofs.Changing.{absent-none, emptied-after, emptied-value, first-calm, IsShortened, left-over, left-shards, saving-loss, shortened, then-calm, with_some}
use Rattle.uf_dir.specs.Roots.{IsRootCid}
use Rattle.uf_dir.proofs.Nodes.{planned-root}
use Rattle.uf_dir.proofs.Planning.{empty-light, light-entry, light-held}

module _ (X : List ℕ → List ℕ) (N : List ℕ → ℕ) (p : Profile) (meta : Meta) (root : Cid) (name : List ℕ) where
  -- what holds of the pairs whose shards a store agrees with, where it stays calm
  abbrev pub Asks : (before mid : Seen) → (List Named → Type 0) → Type 0
  Asks before mid Q = (l : List Named) → shards.IsPlanned X N root meta l → Agrees before.told (shard X N 7 meta l).blocks → Stood before.faults mid.faults → Stood before.clashes mid.clashes → Q l

  -- the shards weren't read
  pub unread-takes : (before now : Seen) (fault : StoreFault) → Asks before now (λ l. IsLossOf before.told (shard X N 7 meta l).blocks fault) → TakesSharded X N p meta root name before now (Err fault)
  unread-takes before now fault value = record { made = tt; none = tt; over = λ l stay. value l stay.plan stay.stays.first stay.calm.faults stay.calm.clashes }

  -- the name isn't there
  pub absent-takes : (before now : Seen) → now.told ≡ before.told → Asks before now (λ l. Absent ≡ left_without X N name meta l) → TakesSharded X N p meta root name before now (Ok None)
  absent-takes before now same value = record {
    made = tt;
    none = λ is. same;
    over = λ l stay. absent-none X N p meta name l (value l stay.plan stay.stays.first stay.calm.faults stay.calm.clashes);
  }

  module _ (before mid now : Seen) (stays : StaysCalm before mid) where
    -- it was the only one, and the empty directory wasn't saved
    pub unsaved-takes : (fault : StoreFault) → IsSaving fault → Shows X NoneIsBad fault mid now → TakesSharded X N p meta root name before now (Err fault)
    unsaved-takes fault saving shows = record {
      made = tt;
      none = tt;
      over = λ l stay. let calm = then-calm before mid now stays stay.calm in saving-loss X NoneIsBad before.told (shard X N 7 meta l).blocks fault mid now saving shows calm.faults calm.clashes;
    }

    module _ (first : SavesOnly X before.told mid.told) (second : SavesOnly X mid.told now.told) where
      -- or it was
      pub emptied-takes : (e : Entry) → IsRootCid X (Some p) e.cid → e ≡ dir_entry X N p meta [] → Holds now.told (own_blocks X N p meta []) → StaysCalm mid now
          → Asks before mid (λ l. Empty ≡ left_without X N name meta l) → TakesSharded X N p meta root name before now (Ok (Some e))
      emptied-takes e made is held calm value = record {
        made = made;
        none = λ no. absurd (let none : Some e ≡ None = no in cc);
        over = λ l stay.
            let was = first-calm X NoneIsBad None before mid now stays calm stay.calm in
            let empty = value l stay.plan stay.stays.first was.faults was.clashes in (
              emptied-value X N p meta name l e is empty,
              emptied-after X N p meta name l before.told now.told stay.stays.first (SavesOnly-trans X before.told mid.told now.told first second) empty held,
            );
      }

      pub emptied-basic : IsHash X → IsTrue (is_meta meta) → (e : Entry) (pairs : List Named) → pairs ≡ [] → ((N : List ℕ → ℕ) → e ≡ (basic_dir X N meta pairs).entry) → Holds now.told (basic_dir X N meta pairs).blocks → StaysCalm mid now
          → Asks before mid (λ l. Empty ≡ left_without X N name meta l) → TakesSharded X N p meta root name before now (Ok (Some e))
      emptied-basic good carried e pairs nothing entry held calm value =
          let is : e ≡ dir_entry X N p meta [] = entry N ∙ ap (λ (k : List Named). (basic_dir X N meta k).entry) nothing ∙ light-entry X N p meta [] (empty-light p) in
          emptied-takes e (subst (λ (x : Entry). IsRootCid X (Some p) x.cid) (sym is) (planned-root X good N p meta [] carried (record { sorted = refl; each = tt }))) is
          (light-held X N p meta [] now.told (empty-light p) (subst (λ (k : List Named). Holds now.told (basic_dir X N meta k).blocks) nothing held)) calm value

      -- shards are left
      module _ (e : Entry) (value : Asks before mid (λ l. Left e ≡ left_without X N name meta l))
          (after : (l : List Named) → shards.IsPlanned X N root meta l → StaysAgreed before.told mid.told (shard X N 7 meta l).blocks → AgreesAfter before.told mid.told (shard X N 7 meta l).blocks (shard X N 7 meta (without name l)).blocks)
          (r : Result Entry StoreFault) (shown : Shown X IsBadShard (fault_in r) mid now) where
        left-there : (l : List Named) → StayShards X N meta root before now l → Left e ≡ left_without X N name meta l
        left-there l stay = let was = first-calm X IsBadShard (fault_in r) before mid now stays shown stay.calm in value l stay.plan stay.stays.first was.faults was.clashes

        -- the name was there
        pub was-there : (l : List Named) → StayShards X N meta root before now l → IsShortened X N p meta name l e
        was-there l stay = shortened X N p meta name l e (left-there l stay)

        pub shards-left : (l : List Named) → StayShards X N meta root before now l → AreShards X N meta e mid now (without name l)
        shards-left l stay = left-shards X N p meta name l root stay.plan e before mid now stay.stays.first stays stay.calm stay.stays.last second first (left-there l stay) (after l stay.plan)

        made-left : (r : Result Entry StoreFault) → IfOk r (λ e. IsRootCid X (Some p) e.cid) → IfOk (with_some r) (λ left. IfSome left (λ e. IsRootCid X (Some p) e.cid))
        made-left (Ok x) made = made
        made-left (Err fault) made = tt

        some-left : (r : Result Entry StoreFault) → IfOk (with_some r) (λ left. left ≡ None → now.told ≡ before.told)
        some-left (Ok x) = λ no. absurd (let none : Some x ≡ None = no in cc)
        some-left (Err fault) = tt

        pub settled-takes : SettlesShards X p meta e mid now r → TakesSharded X N p meta root name before now (with_some r)
        settled-takes settles = record {
          made = made-left r settles.made;
          none = some-left r;
          over = λ l stay. left-over X N p meta name l root stay.plan e before mid now stay.stays.first stays stay.calm stay.stays.last second first (left-there l stay) (after l stay.plan) r
              (settles.over N (without name l) (shards-left l stay));
        }
