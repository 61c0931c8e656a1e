-- A directory after what a name names is replaced.
use Rattle.std.proofs.Common.{◌≡◌, ℕ, ◌+◌, ◌≤◌, List, Bool, true, false, cond, Some, None, refl, ap, arith, ◌∙◌}
use Rattle.std.specs.Prelude.{nat_lt}
use Rattle.std.specs.List.{AllByRecursion}
use Rattle.std.specs.FinMap.Entries.{find}
use Rattle.uf_tree.specs.declared.meta.Meta.{Meta}
use Rattle.uf_tree.specs.declared.nodes.Entry.{Entry}
use Rattle.uf_tree.specs.declared.profile.Profile.{Profile}
use Rattle.uf_tree.specs.Changes.{with_name}
use Rattle.uf_tree.specs.DirPlan.{own_plan, basic_dir, is_sharded}
use Rattle.uf_tree.specs.Names.{names_cmp}
use Rattle.uf_tree.specs.Nodes.{Named}
use Rattle.uf_tree.specs.ShardPlan.{shard, same_hash}
use Rattle.uf_tree.specs.TreePlan.{dir_refusal}
use Rattle.uf_tree.specs.Validity.{IsHash, IsEntry, IsNamed, IsDirectory}
use Rattle.uf_tree.proofs.Twins.{Apart-twins}
use Rattle.uf_laws.proofs.Blocks.{meta_size, basic_size, basic-size}
use Rattle.uf_laws.proofs.Levels.{size, top-tsize, cap-mono}
use Rattle.uf_laws.proofs.Reasons.{collides, unrefused, allowed, no-collision, apart-collision, basic-tsize}
use Rattle.uf_laws.proofs.Under.{Under, put-under, under-weight, under-apart, under-pairs, under-size}

module _ (X : List ℕ → List ℕ) (N : List ℕ → ℕ) (meta : Meta) (good : IsHash X) (l m : List Named) (h : AllByRecursion IsNamed l) (k : AllByRecursion IsNamed m) (under : Under l m) where
  abbrev tsize_as : Bool → List Named → ℕ
  tsize_as b x = (cond b (shard X N 7 meta x) (basic_dir X N meta x)).entry.tsize

  no-greater : (b : Bool) → tsize_as b l ≤ tsize_as b m
  no-greater true =
      let sizes : size X N 7 l + meta_size meta ≤ size X N 7 m + meta_size meta = omega (arith, under-size X N good 7 l m h k under) in
      omega (arith, cap-mono (size X N 7 l + meta_size meta) (size X N 7 m + meta_size meta) sizes, top-tsize X N 7 meta l, top-tsize X N 7 meta m)
  no-greater false =
      let sizes : basic_size meta l ≤ basic_size meta m = omega (arith, under-pairs l m under, basic-size meta l h, basic-size meta m k) in
      omega (arith, cap-mono (basic_size meta l) (basic_size meta m) sizes, basic-tsize X N meta l, basic-tsize X N meta m)

  no-twins : (b : Bool) → collides N b m ≡ None → collides N b l ≡ None
  no-twins true c = apart-collision N l (Apart-twins (same_hash N) l (under-apart (same_hash N) l m under (no-collision N m c)))
  no-twins false c = refl

  same-form : (p : Profile) → is_sharded p l ≡ is_sharded p m
  same-form p = ap (nat_lt p.threshold) (under-weight l m under)

  pub under-tsize : (p : Profile) → (own_plan X N p meta l).entry.tsize ≤ (own_plan X N p meta m).entry.tsize
  under-tsize p = omega (arith, no-greater (is_sharded p m), ap (λ b. tsize_as b l) (same-form p))

  pub under-plan : (p : Profile) → dir_refusal X N p meta m ≡ None → dir_refusal X N p meta l ≡ None
  under-plan p c =
      let parts = unrefused X N p meta m c in
      allowed X N p meta l (ap (λ b. collides N b l) (same-form p) ∙ no-twins (is_sharded p m) parts.0) (omega (arith, under-tsize p, parts.1))

module _ (X : List ℕ → List ℕ) (N : List ℕ → ℕ) (p : Profile) (meta : Meta) (name : List ℕ) (old e : Entry) (l : List Named) (good : IsHash X) (dir : IsDirectory l) (is : find names_cmp name l ≡ Some old) (entry : IsEntry e) (le : e.tsize ≤ old.tsize) where
  pub replaced-tsize : (own_plan X N p meta (with_name name e l)).entry.tsize ≤ (own_plan X N p meta l).entry.tsize
  replaced-tsize = let put = put-under name e old l dir.sorted dir.each entry is le in under-tsize X N meta good (with_name name e l) l put.1 dir.each put.0 p

  pub replaced-plan : dir_refusal X N p meta l ≡ None → dir_refusal X N p meta (with_name name e l) ≡ None
  replaced-plan c = let put = put-under name e old l dir.sorted dir.each entry is le in under-plan X N meta good (with_name name e l) l put.1 dir.each put.0 p c
