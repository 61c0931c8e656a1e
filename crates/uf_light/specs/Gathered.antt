-- What is gathered on the way of a path.
use Rattle.std.specs.Prelude.{◌≡◌, ◌++◌, ℕ, List}
use Rattle.std.specs.declared.option.Option.{Option}
use Rattle.std.specs.declared.result.Result.{Result}
use Rattle.std.specs.declared.result.Result.TheVariants.{Ok, Err}
use Rattle.uf_cid.specs.Blocks.{Held}
use Rattle.uf_cid.specs.declared.cid.Cid.{Cid}
use Rattle.uf_store.specs.Contents.{Told}
use Rattle.uf_store.specs.Keeping.{Holds}
use Rattle.uf_store.specs.Lost.{IsLossOf}
use Rattle.uf_store.specs.declared.store.StoreFault.{StoreFault}
use Rattle.uf_tree.specs.declared.profile.Profile.{Profile}
use Rattle.uf_tree.specs.DirPlan.{trail}
use Rattle.uf_tree.specs.Tree.{Tree, Entries, own_meta}
use Rattle.uf_tree.specs.TreePlan.{named_entries}
use Rattle.uf_plain.specs.Edits.{child}
use Rattle.uf_plain.specs.Needs.{member_needs, way}
use Rattle.uf_plain.specs.declared.rule.Refused.{Refused}
use Rattle.uf_light.specs.declared.fault.LightFault.{LightFault}
use Rattle.uf_light.specs.declared.fault.LightFault.TheVariants as fault
use Rattle.uf_light.specs.declared.met.PathEnd.{PathEnd}
use Rattle.uf_light.specs.FileCids.{cids_of}
use Rattle.uf_light.specs.Light.{trails}
use Rattle.uf_light.specs.declared.thing.TypedEntry.{TypedEntry}
use Rattle.uf_light.specs.Standing.{IsAgreedMember, IsMet}

-- the CIDs of these blocks, which are held, were put at the end of a list
pub record Gathered (told : Told) (l : List Held) (cids cids_now : List Cid) : Type 0 where
  pub added : cids_now ≡ cids ++ cids_of l
  pub held : Holds told l

-- the CIDs of the blocks that decide the names were gathered, and what the names lead to is so; or a block of the way is
-- lost
module _ (X : List ℕ → List ℕ) (N : List ℕ → ℕ) (told : Told) (p : Profile) where
  abbrev pub Gathers : List (List ℕ) → Tree → Result Tree Refused → List Cid → List Cid → Result PathEnd StoreFault
      → Type 0
  Gathers names t w cids cids_now (Ok met) = IsMet X N told p w met × Gathered told (trails X N p names t) cids cids_now
  Gathers names t w cids cids_now (Err fault) = IsLossOf told (way X N p names t) fault

  -- the same of one name in a directory of these entries: what is under it, and the CIDs of the blocks that decide it
  abbrev pub GathersMember : List ℕ → Entries → List Cid → List Cid → Result (Option TypedEntry) StoreFault → Type 0
  GathersMember name es cids cids_now (Ok found) = IsAgreedMember X N told p (child name es) found
      × Gathered told (trail X N p (own_meta es) (named_entries X N p es) name) cids cids_now
  GathersMember name es cids cids_now (Err fault) = IsLossOf told (member_needs X N p name es) fault

-- the CIDs of these blocks were put at the end of a list, or one of the blocks is lost
abbrev pub AddsBlocks : Told → List Held → List Cid → List Cid → Result Unit LightFault → Type 0
AddsBlocks told l cids cids_now (Ok done) = Gathered told l cids cids_now
AddsBlocks told l cids cids_now (Err (fault.Store f)) = IsLossOf told l f
AddsBlocks told l cids cids_now (Err f) = ⊥
