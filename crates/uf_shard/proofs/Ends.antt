-- What a put answers at the root.
use Rattle.std.proofs.Common.{◌≡◌, ℕ, ◌^◌, ◌<◌, ◌≤◌, List, [], ◌∷◌, length, map, refl, ap, arith, sym, ◌∙◌, Option, None, Some}
use Rattle.std.specs.declared.result.Result.{Result}
use Rattle.std.specs.declared.result.Result.TheVariants.{Ok, Err}
use Rattle.std.specs.Prelude.{IfErr, IfOk, IsTrue, OnOk, not}
use Rattle.uf_cid.specs.declared.cid.Cid.{Cid}
use Rattle.uf_cid.specs.Blocks.{Held}
use Rattle.uf_edge.specs.Counts.{Stood}
use Rattle.uf_store.specs.Contents.{Told}
use Rattle.uf_store.specs.Clashes.{IsSaving}
use Rattle.uf_store.specs.Faults.{Answers, NoneIsBad, Shows}
use Rattle.uf_store.specs.Keeping.{Holds, KeepsGood}
use Rattle.uf_store.specs.Lost.{AgreesAfter, IsLossOf, ReadsOver}
use Rattle.uf_store.specs.Seen.{Seen}
use Rattle.uf_store.proofs.Keeping.{KeepsGood-trans}
use Rattle.uf_store.specs.declared.store.Role.{Role}
use Rattle.uf_store.specs.declared.store.StoreFault.{StoreFault}
use Rattle.uf_store.specs.declared.store.StoreFault.TheVariants.{Failed, Damaged, Missing, BadBlock, Clash, Memory}
use Rattle.uf_tree.specs.declared.meta.Meta.{Meta}
use Rattle.uf_tree.specs.declared.nodes.Entry.{Entry}
use Rattle.uf_tree.specs.Changes.{with_name}
use Rattle.uf_tree.specs.Names.{names_cmp}
use Rattle.uf_tree.specs.Nodes.{InSlot, Named, item_entry, node_entry, shard_block}
use Rattle.uf_tree.specs.ShardPlan.{same_hash, same_slots, shard}
use Rattle.uf_tree.specs.TreePlan.{Refusal, collision, or_else, too_big}
use Rattle.uf_tree.specs.TreePlan as plans
use Rattle.uf_tree.specs.Validity.{IsHash}
use Rattle.uf_tree.proofs.Twins.{Apart, Apart-twins, HasShard-Apart, same_slots-hash, twins-Apart, twins-same}
use Rattle.uf_shard.specs.declared.fault.DirFault.{DirFault}
use Rattle.uf_shard.specs.declared.fault.DirFault.TheVariants.{Collision, TooBig, Store}
use Rattle.uf_shard.specs.Answers.{GivesOver, Shown, shard_refusal}
use Rattle.uf_shard.specs.Planned.{IsPlanned}
use Rattle.uf_shard.specs.Reached.{IsReached}
use Rattle.uf_shard.specs.Saving.{IsWithin}
use Rattle.uf_shard.proofs.Reaching.{reached-root}
use Rattle.std.specs.FinMap.Entries.{find, is_sorted, is_sorted-where_key}
use Rattle.std.specs.Ordering.{eq_by_cmp}
use Rattle.uf_tree.specs.Changes.{without}
use Rattle.uf_shard.specs.Buckets.{deeper}
use Rattle.uf_shard.specs.declared.removed.Removed.{Removed}
use Rattle.uf_shard.specs.declared.removed.Removed.TheVariants.{Absent, Empty, Left}
use Rattle.uf_shard.specs.Taken.{AgreesLeft, IsLeftOf, HasName, TakesSlots, left_of, left_without}
use Rattle.uf_shard.specs.Changed.{HasNoTwin, MayLose, PutsSlots, level, slots_of}
use Rattle.uf_shard.proofs.Alone.{no-items}
use Rattle.uf_store.specs.Keeping.{StaysAgreed}
use Rattle.uf_shard.proofs.Knowing.{after-known}
use Rattle.uf_shard.proofs.Pairing.{no_twins, two_twins}
use Rattle.uf_shard.proofs.Placing.{shard-good}
use Rattle.uf_shard.proofs.Puts.{T-of, items-none, of-T, saved-entry, saved-known, saving-lost}

-- where no count rose, a fault is a loss
pub calm-loss : (hash : List ℕ → List ℕ) (IsBad : Role → List ℕ → Type 0) (told : Told) (l : List Held) (fault : StoreFault) (before now : Seen) → MayLose told l fault → Shows hash IsBad fault before now
    → Stood before.faults now.faults → Stood before.clashes now.clashes → IsLossOf told l fault
calm-loss hash IsBad told l Failed before now h shows faults clashes = let r = shows.rose in absurd (omega (arith, r, faults))
calm-loss hash IsBad told l (Damaged c) before now h shows faults clashes = let r = shows.rose in absurd (omega (arith, r, faults))
calm-loss hash IsBad told l (Missing c) before now h shows faults clashes = h
calm-loss hash IsBad told l (BadBlock c role) before now h shows faults clashes = absurd h
calm-loss hash IsBad told l (Clash c x y) before now h shows faults clashes = let r = shows.rose in absurd (omega (arith, r, clashes))
calm-loss hash IsBad told l Memory before now h shows faults clashes = tt

module _ (X : List ℕ → List ℕ) (N : List ℕ → ℕ) (good : IsHash X) (fits : (name : List ℕ) → N name < 2 ^ 64) (name : List ℕ) (e : Entry) (root : Cid) (m : Meta) (l : List Named) (planned : IsPlanned X N root m l) where
  reached : IsReached X N (N name) 7 root m l
  reached = reached-root X N good name root m l planned

  apart : Apart (same_hash N) l
  apart = twins-Apart (same_hash N) l (sym (twins-same (same_slots N 7) (same_hash N) (λ a b. same_slots-hash N fits a b) l) ∙ Apart-twins (same_slots N 7) l (HasShard-Apart N 7 l reached.apart))

  pub put-err : (hash : List ℕ → List ℕ) (IsBad : Role → List ℕ → Type 0) (before now : Seen) (fault : DirFault) → PutsSlots X N before.told now.told (shard X N 7 m l).blocks 7 name e l (Err fault)
      → Shown {A = List InSlot} hash IsBad (Err fault) before now → Stood before.faults now.faults → Stood before.clashes now.clashes
      → GivesOver before.told (shard X N 7 m l).blocks (shard_refusal X N m (with_name name e l)) (shard X N 7 m (with_name name e l)).entry (Err fault)
  put-err hash IsBad before now (Collision first second) puts shown faults clashes =
      ap (λ (o : Option (List ℕ × List ℕ)). or_else (elim o [ None ↦ None | Some names ↦ Some (plans.Collision names.0 names.1) ]) (too_big (shard X N 7 m (with_name name e l)).entry.tsize))
      (two_twins N name e l first second reached.valid.sorted apart puts)
  put-err hash IsBad before now TooBig puts shown faults clashes = absurd puts
  put-err hash IsBad before now (Store fault) puts shown faults clashes = calm-loss hash IsBad before.told (shard X N 7 m l).blocks fault before now puts shown faults clashes

  no-refusal : HasNoTwin N name l → (size : Option Refusal) → or_else (collision N (with_name name e l)) size ≡ size
  no-refusal none size = ap (λ (o : Option (List ℕ × List ℕ)). or_else (elim o [ None ↦ None | Some names ↦ Some (plans.Collision names.0 names.1) ]) size) (no_twins N name e l reached.valid.sorted apart none)

  pub put-ok : (before mid now : Told) (items : List InSlot) (entry : Entry) (r : Result Entry DirFault) → PutsSlots X N before mid (shard X N 7 m l).blocks 7 name e l (Ok items)
      → entry ≡ node_entry X (shard_block m items) (map (λ (p : InSlot). item_entry p.1) items) → Holds now ((entry.cid, shard_block m items) ∷ []) → KeepsGood X mid now → IsWithin entry r
      → GivesOver before (shard X N 7 m l).blocks (shard_refusal X N m (with_name name e l)) (shard X N 7 m (with_name name e l)).entry r
  put-ok before mid now items entry (Ok x) puts is held keeps within =
      let same = saved-entry X N mid now m items entry is held keeps (shard X N 7 m l).blocks 7 (with_name name e l) puts.1 in
      (no-refusal puts.0 (too_big (shard X N 7 m (with_name name e l)).entry.tsize) ∙ ap (λ (x : Entry). too_big x.tsize) (sym same) ∙ within.0, within.1 ∙ same)
  put-ok before mid now items entry (Err (Collision a b)) puts is held keeps within = absurd within
  put-ok before mid now items entry (Err TooBig) puts is held keeps within =
      let same = saved-entry X N mid now m items entry is held keeps (shard X N 7 m l).blocks 7 (with_name name e l) puts.1 in
      no-refusal puts.0 (too_big (shard X N 7 m (with_name name e l)).entry.tsize) ∙ ap (λ (x : Entry). too_big x.tsize) (sym same) ∙ within
  put-ok before mid now items entry (Err (Store fault)) puts is held keeps within = absurd within

  pub put-after : (before mid now : Told) (items : List InSlot) (entry : Entry) → PutsSlots X N before mid (shard X N 7 m l).blocks 7 name e l (Ok items)
      → entry ≡ node_entry X (shard_block m items) (map (λ (p : InSlot). item_entry p.1) items) → Holds now ((entry.cid, shard_block m items) ∷ []) → KeepsGood X before mid → KeepsGood X mid now
      → StaysAgreed before now (shard X N 7 m l).blocks → AgreesAfter before now (shard X N 7 m l).blocks (shard X N 7 m (with_name name e l)).blocks
  put-after before mid now items entry puts is held first second stays =
      after-known X before now (shard X N 7 m l).blocks (shard X N 7 m (with_name name e l)).blocks (shard-good X N 7 m l) stays (KeepsGood-trans X before mid now first second)
      (saved-known X N mid now m items entry is held second (shard X N 7 m l).blocks 7 (with_name name e l) puts.1)

-- ---- a removal

module _ (X : List ℕ → List ℕ) (N : List ℕ → ℕ) (name : List ℕ) (m : Meta) (l : List Named) where
  pub take-err : (hash : List ℕ → List ℕ) (IsBad : Role → List ℕ → Type 0) (before now : Seen) (fault : StoreFault) → TakesSlots X N before.told now.told (shard X N 7 m l).blocks 7 name l (Err fault)
      → Shows hash IsBad fault before now → Stood before.faults now.faults → Stood before.clashes now.clashes → IsLossOf before.told (shard X N 7 m l).blocks fault
  take-err hash IsBad before now fault takes shows faults clashes = calm-loss hash IsBad before.told (shard X N 7 m l).blocks fault before now takes shows faults clashes

  pub take-absent : find names_cmp name l ≡ None → Absent ≡ left_without X N name m l
  take-absent none = ap (λ (o : Option Entry). elim o [ None ↦ Absent | Some old ↦ left_of X N m (without name l) ]) (sym none)

  sorted-left : IsTrue (is_sorted names_cmp l) → IsTrue (is_sorted names_cmp (without name l))
  sorted-left h = of-T _ (is_sorted-where_key names_cmp (λ other. not (eq_by_cmp names_cmp name other)) l (T-of _ h))

  left_without-there : HasName name l → left_without X N name m l ≡ left_of X N m (without name l)
  left_without-there there = ap (λ (o : Option Entry). elim o [ None ↦ Absent | Some old ↦ left_of X N m (without name l) ]) there.1

  left-some : (k : List Named) → 1 ≤ length k → left_of X N m k ≡ Left (shard X N 7 m k).entry
  left-some [] h = absurd (omega arith)
  left-some (e ∷ k) h = refl

  some-left : (k : List Named) (items : List InSlot) → items ≡ slots_of X N 7 k → 1 ≤ length items → 1 ≤ length k
  some-left [] items is h = let none : length items ≡ 0 = ap length (is ∙ items-none X N 256 0) in absurd (omega arith)
  some-left (e ∷ k) items is h = omega arith

  module _ (sorted : IsTrue (is_sorted names_cmp (without name l))) (before mid now : Told) (items : List InSlot) (takes : TakesSlots X N before mid (shard X N 7 m l).blocks 7 name l (Ok (Some items))) where
    pub take-ok : (left : Removed) → KeepsGood X mid now → IsLeftOf X mid now m items left → left ≡ left_without X N name m l
    take-ok Absent keeps h = absurd h
    take-ok Empty keeps h =
        let nothing : without name l ≡ [] = no-items N (deeper X N 7) (level 7) (without name l) (T-of _ sorted) (sym h ∙ takes.1.same) in
        ap (left_of X N m) (sym nothing) ∙ sym (left_without-there takes.0)
    take-ok (Left e) keeps h =
        ap (λ (x : Entry). Left x) (saved-entry X N mid now m items e h.1 h.2 keeps (shard X N 7 m l).blocks 7 (without name l) takes.1)
        ∙ sym (left-some (without name l) (some-left (without name l) items takes.1.same h.0)) ∙ sym (left_without-there takes.0)

    pub take-after : (left : Removed) → KeepsGood X before mid → KeepsGood X mid now → IsLeftOf X mid now m items left
        → StaysAgreed before now (shard X N 7 m l).blocks → AgreesLeft X N before now (shard X N 7 m l).blocks name m l left
    take-after Absent first second h stays = tt
    take-after Empty first second h stays = tt
    take-after (Left e) first second h stays =
        after-known X before now (shard X N 7 m l).blocks (shard X N 7 m (without name l)).blocks (shard-good X N 7 m l) stays (KeepsGood-trans X before mid now first second)
        (saved-known X N mid now m items e h.1 h.2 second (shard X N 7 m l).blocks 7 (without name l) takes.1)

  -- the answer at the root, where no count rose
  pub left-value : IsTrue (is_sorted names_cmp l) → (before : Seen) (mid : Told) (now : Seen) (items : List InSlot) → TakesSlots X N before.told mid (shard X N 7 m l).blocks 7 name l (Ok (Some items)) → (r : Result Removed StoreFault) → KeepsGood X mid now.told
      → IfOk r (IsLeftOf X mid now.told m items) → IfErr r IsSaving → Answers X NoneIsBad r before now → Stood before.faults now.faults → Stood before.clashes now.clashes → ReadsOver before.told (shard X N 7 m l).blocks (left_without X N name m l) r
  left-value sorted before mid now items takes (Ok left) keeps is saving shows faults clashes = take-ok (sorted-left sorted) before.told mid now.told items takes left keeps is
  left-value sorted before mid now items takes (Err fault) keeps is saving shows faults clashes =
      calm-loss X NoneIsBad before.told (shard X N 7 m l).blocks fault before now (saving-lost before.told (shard X N 7 m l).blocks fault saving) shows faults clashes

  pub left-after : IsTrue (is_sorted names_cmp l) → (before mid now : Told) (items : List InSlot) → TakesSlots X N before mid (shard X N 7 m l).blocks 7 name l (Ok (Some items)) → (left : Removed) → KeepsGood X before mid → KeepsGood X mid now
      → IsLeftOf X mid now m items left → StaysAgreed before now (shard X N 7 m l).blocks → AgreesLeft X N before now (shard X N 7 m l).blocks name m l left
  left-after sorted before mid now items takes left first second h stays = take-after (sorted-left sorted) before mid now items takes left first second h stays

-- what holds whatever comes holds after Ok
pub on-ok : {A E : Type 0} (P : Type 0) (r : Result A E) → P → OnOk r P
on-ok P (Ok x) p = p
on-ok P (Err x) p = tt
