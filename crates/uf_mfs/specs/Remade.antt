-- The metadata of what is in the tree changed.
use Rattle.std.specs.Prelude.{◌≡◌, ◌⊎◌, ℕ, List, []}
use Rattle.std.specs.declared.option.Option.{Option}
use Rattle.std.specs.declared.option.Option.TheVariants.{None, Some}
use Rattle.std.specs.declared.result.Result.{Result}
use Rattle.std.specs.declared.result.Result.TheVariants.{Ok, Err}
use Rattle.uf_cid.specs.Blocks.{Held}
use Rattle.uf_cid.specs.declared.cid.Cid.{Cid}
use Rattle.uf_fileread.specs.Bad.{IsBadRoot}
use Rattle.uf_store.specs.declared.store.Role.{Role}
use Rattle.uf_store.specs.Contents.{Told}
use Rattle.uf_store.specs.Calls.{Calm}
use Rattle.uf_store.specs.Keeping.{StaysAgreed}
use Rattle.uf_store.specs.Lost.{IsLossOf}
use Rattle.uf_store.specs.Seen.{Seen}
use Rattle.uf_tree.specs.declared.meta.Meta.{Meta}
use Rattle.uf_tree.specs.declared.nodes.Entry.{Entry}
use Rattle.uf_tree.specs.declared.profile.Profile.{Profile}
use Rattle.uf_tree.specs.Tree.{Tree, meta_of}
use Rattle.uf_tree.specs.TreePlan.{blocks, refusal}
use Rattle.uf_plain.specs.declared.meta_edit.MetaEdit.{MetaEdit}
use Rattle.uf_plain.specs.declared.rule.Refused.TheVariants.{NotFound}
use Rattle.uf_plain.specs.Metas.{meta_after, remade, with_meta}
use Rattle.uf_plain.specs.Rules.{unless}
use Rattle.uf_mfs.specs.declared.fault.Stop.{Stop}
use Rattle.uf_mfs.specs.declared.thing.Thing.{Thing}
use Rattle.uf_mfs.specs.declared.fault.Stop.TheVariants as stop
use Rattle.uf_mfs.specs.Answers.{MeetsOr}
use Rattle.uf_mfs.specs.Bad.{IsBadInTree}
use Rattle.uf_mfs.specs.Standing.{IsAfter, IsAgreedMember, IsAgreedThing}

-- a block that isn't canonical on the way to what is changed in the tree with this root, or as the root of a file
abbrev pub IsBadRemadeIn : (List ℕ → List ℕ) → (List ℕ → ℕ) → Profile → Cid → Role → List ℕ → Type 0
IsBadRemadeIn X N p root role bytes = IsBadInTree X N (Some p) root role bytes ⊎ IsBadRoot role bytes

-- over these blocks, before and after a call
module _ (X : List ℕ → List ℕ) (N : List ℕ → ℕ) (p : Profile) (before now : Told) where
  -- this tree with other metadata is answered, or what refuses it, or one of its blocks is lost
  abbrev pub GivesRemade : Meta → Tree → Result Entry Stop → Type 0
  GivesRemade m t result =
      MeetsOr (IsLossOf before (blocks X N p t)) (λ u e. IsAfter X N before now (blocks X N p t) p e u)
      (unless (with_meta m t) (refusal X N p (with_meta m t))) result

  -- the same of a change of its metadata, with no entry where that leaves the tree as it is
  abbrev pub ChangesMeta : MetaEdit → Tree → Result (Option Entry) Stop → Type 0
  ChangesMeta what t (Ok None) = remade what t ≡ t
  ChangesMeta what t (Ok (Some e)) = GivesRemade (meta_after what (meta_of t)) t (Ok e)
  ChangesMeta what t (Err given) = GivesRemade (meta_after what (meta_of t)) t (Err given)

  -- the same of what is under a name, to which n names led
  abbrev pub ChangesMember : MetaEdit → ℕ → Option Tree → Result (Option Entry) Stop → Type 0
  ChangesMember what led None result = result ≡ Err (stop.Refused (NotFound led))
  ChangesMember what led (Some t) result = ChangesMeta what t result

-- the blocks of what is under a name
abbrev pub member_blocks : (List ℕ → List ℕ) → (List ℕ → ℕ) → Profile → Option Tree → List Held
member_blocks X N p None = []
member_blocks X N p (Some t) = blocks X N p t

-- where the store agrees with the blocks of what was met before and after, and stayed calm, this holds of its tree
abbrev pub CalmThing : (List ℕ → List ℕ) → (List ℕ → ℕ) → Profile → (before now : Seen) → Thing
    → (Told → Told → Tree → Type 0) → Type 0
CalmThing X N p before now thing P = (t : Tree) → IsAgreedThing X N before.told p t thing
    → StaysAgreed before.told now.told (blocks X N p t) → Calm before now → P before.told now.told t

-- the same of what was found under a name
abbrev pub CalmMember : (List ℕ → List ℕ) → (List ℕ → ℕ) → Profile → (before now : Seen) → Option Thing
    → (Told → Told → Option Tree → Type 0) → Type 0
CalmMember X N p before now found P = (o : Option Tree) → IsAgreedMember X N before.told p o found
    → StaysAgreed before.told now.told (member_blocks X N p o) → Calm before now → P before.told now.told o
