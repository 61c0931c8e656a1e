-- A folder with a plan, as the layer of directories sees it.
use Rattle.std.proofs.Common.{◌≡◌, ℕ, ◌<◌, ◌^◌, List, [], ◌∷◌, refl, ap, sym, ◌∙◌, Bool, true, false, cond, Option, Some, None}
use Rattle.std.specs.List.{AllByRecursion}
use Rattle.uf_cid.specs.Blocks.{Held}
use Rattle.uf_cid.specs.Cid.{cid_of}
use Rattle.uf_cid.specs.declared.cid.Codec.TheVariants.{DagPb}
use Rattle.uf_cid.specs.declared.cid.Cid.{Cid}
use Rattle.uf_tree.specs.declared.meta.Meta.{Meta}
use Rattle.uf_tree.specs.declared.nodes.Entry.{Entry}
use Rattle.uf_tree.specs.declared.profile.Profile.{Profile}
use Rattle.uf_tree.specs.DirPlan.{basic_dir, is_sharded, own_plan}
use Rattle.uf_tree.specs.FilePlan.{Plan}
use Rattle.uf_tree.specs.Metas.{none}
use Rattle.uf_tree.specs.Nodes.{Named, dir_block}
use Rattle.uf_tree.specs.Roots.{dir_root}
use Rattle.uf_tree.specs.ShardPlan.{shard, shard_held, shard_items, twins, same_hash}
use Rattle.uf_tree.specs.Tree.{Dir, Entries, own_meta}
use Rattle.uf_tree.specs.TreePlan.{Refusal, Collision, dir_refusal, named_entries, or_else}
use Rattle.uf_tree.specs.Validity.{IsHash}
use Rattle.uf_laws.proofs.Held.{dir_plan-own}
use Rattle.uf_tree.proofs.Valid.{directory-valid}
use Rattle.uf_dir.specs.Planned.{IsPlanned}
use Rattle.uf_light.specs.Standing.{IsTreeAt}
use Rattle.uf_plain.proofs.Kept.{tree-meta}
use Rattle.uf_plain.proofs.Plans.{entry-is, none-second, refusal-is}

no-twins : (b : Bool) (o : Option (List ℕ × List ℕ)) (other : Option Refusal)
    → or_else (cond b (elim o [ None ↦ None | Some names ↦ Some (Collision names.0 names.1) ]) None) other ≡ None → cond b o None ≡ None
no-twins true None other h = refl
no-twins true (Some names) other h = absurd cc
no-twins false o other h = refl

-- the root block of a directory is one of its own
pub root-among : (X : List ℕ → List ℕ) (N : List ℕ → ℕ) (p : Profile) (meta : Meta) (l : List Named) (P : Held → Type 0) → AllByRecursion P (own_plan X N p meta l).blocks → AllByRecursion P (dir_root X N p meta l ∷ [])
unfolding shard
root-among X N p meta l P h = (
  elim (is_sharded p l) as (λ b. AllByRecursion P (cond b (shard X N 7 meta l) (basic_dir X N meta l)).blocks
      → P (cond b (shard_held X N meta (shard_items N (shard X N 6 none) 0 l)) (cid_of X DagPb (dir_block meta l), dir_block meta l))) [ true ↦ λ h. h.0 | false ↦ λ h. h.0 ] h,
  tt,
)

module _ (X : List ℕ → List ℕ) (N : List ℕ → ℕ) (p : Profile) (c : Cid) (es : Entries) (s : IsTreeAt X N p c (Dir es)) where
  abbrev m : List Named
  m = named_entries X N p es

  abbrev meta : Meta
  meta = own_meta es

  own-planned : dir_refusal X N p meta m ≡ None
  own-planned = none-second _ _ (sym (refusal-is X N p es) ∙ s.planned)

  -- a folder with a plan, as the layer of directories sees it
  pub planned-of : IsHash X → ((name : List ℕ) → N name < 2 ^ 64) → IsPlanned X N p meta c m
  planned-of hash fits = record {
    good = tree-meta (Dir es) s.tree;
    valid = directory-valid X hash N p s.profile es s.tree;
    plan = own_plan X N p meta m;
    is_plan = dir_plan-own X N fits p meta m
        ∙ ap (λ (o : Option (List ℕ × List ℕ)). elim o as (λ o. Option Plan) [ None ↦ Some (own_plan X N p meta m) | Some names ↦ None ]) (no-twins (is_sharded p m) (twins (same_hash N) m) _ own-planned);
    cid = s.is ∙ ap (λ (e : Entry). e.cid) (entry-is X N p es);
  }
