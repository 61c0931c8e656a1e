-- What a CID stands for, where a store agrees with the blocks of a tree.
use Rattle.std.specs.Prelude.{◌≡◌, ◌+◌, ℕ, List, IsTrue}
use Rattle.std.specs.declared.result.Result.{Result}
use Rattle.std.specs.declared.result.Result.TheVariants.{Ok, Err}
use Rattle.std.specs.declared.option.Option.{Option}
use Rattle.std.specs.declared.option.Option.TheVariants.{None, Some}
use Rattle.uf_cid.specs.Blocks.{Held}
use Rattle.uf_cid.specs.declared.cid.Cid.{Cid}
use Rattle.uf_store.specs.Contents.{Told}
use Rattle.uf_store.specs.Keeping.{Agrees}
use Rattle.uf_store.specs.Lost.{IsLossOf}
use Rattle.uf_store.specs.declared.store.StoreFault.{StoreFault}
use Rattle.uf_tree.specs.declared.profile.Profile.{Profile}
use Rattle.uf_tree.specs.Profiles.{is_profile}
use Rattle.uf_tree.specs.Tree.{Tree, File, Dir, is_tree}
use Rattle.uf_tree.specs.TreePlan.{blocks, entry, refusal}
use Rattle.uf_plain.specs.declared.rule.Refused.{Refused}
use Rattle.uf_plain.specs.declared.rule.Refused.TheVariants.{NotADirectory, NotFound}
use Rattle.uf_light.specs.declared.met.PathEnd.{PathEnd}
use Rattle.uf_light.specs.declared.met.PathEnd.TheVariants.{There, Nothing, Behind}
use Rattle.uf_light.specs.declared.thing.TypedEntry.{TypedEntry}
use Rattle.uf_light.specs.declared.thing.TypedEntry.TheVariants.{File as FileAt, Folder as FolderAt}

-- the CID is that of the root of the tree's plan, which the tree has by an accepted profile
pub record IsTreeAt (X : List ℕ → List ℕ) (N : List ℕ → ℕ) (p : Profile) (cid : Cid) (t : Tree) : Type 0 where
  pub profile : IsTrue (is_profile p)
  pub tree : IsTrue (is_tree t)
  pub planned : refusal X N p t ≡ None
  pub is : cid ≡ (entry X N p t).cid

module _ (X : List ℕ → List ℕ) (N : List ℕ → ℕ) (told : Told) (p : Profile) where
  -- and the store agrees with the blocks of that plan, of which some may be lost
  pub record IsAgreedAt (cid : Cid) (t : Tree) : Type 0 where
    pub plan : IsTreeAt X N p cid t
    pub agrees : Agrees told (blocks X N p t)

  -- the same of a file or a directory
  abbrev pub IsAgreedThing : Tree → TypedEntry → Type 0
  IsAgreedThing (File m bytes) (FileAt e) = IsAgreedAt e.cid (File m bytes)
  IsAgreedThing (File m bytes) (FolderAt e) = ⊥
  IsAgreedThing (Dir es) (FileAt e) = ⊥
  IsAgreedThing (Dir es) (FolderAt e) = IsAgreedAt e.cid (Dir es)

  -- of what is under a name
  abbrev pub IsAgreedMember : Option Tree → Option TypedEntry → Type 0
  IsAgreedMember None None = Unit {0}
  IsAgreedMember None (Some thing) = ⊥
  IsAgreedMember (Some t) None = ⊥
  IsAgreedMember (Some t) (Some thing) = IsAgreedThing t thing

  -- and of what a path leads to, where the plain tree gives this
  abbrev pub IsMet : Result Tree Refused → PathEnd → Type 0
  IsMet (Ok t) (There thing) = IsAgreedThing t thing
  IsMet (Ok t) (Nothing place) = ⊥
  IsMet (Ok t) (Behind place) = ⊥
  IsMet (Err why) (There thing) = ⊥
  IsMet (Err why) (Nothing place) = why ≡ NotFound (place + 1)
  IsMet (Err why) (Behind place) = why ≡ NotADirectory place

  -- an answer that is so, or one of these blocks is lost; out of memory is free
  abbrev pub LosesOr : {A : Type 0} → List Held → (A → Type 0) → Result A StoreFault → Type 0
  LosesOr l IsSo (Ok a) = IsSo a
  LosesOr l IsSo (Err fault) = IsLossOf told l fault
