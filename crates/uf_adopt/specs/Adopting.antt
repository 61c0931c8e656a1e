-- What adopting answers: the entry of the tree that a CID denotes, or why there is none.
use Rattle.std.specs.Prelude.{◌≡◌, ◌⊎◌, ℕ, ◌<◌, List, [], ◌∷◌, length, true, Some, None, IsTrue}
use Rattle.std.specs.declared.option.Option.{Option}
use Rattle.std.specs.declared.result.Result.{Result}
use Rattle.std.specs.declared.result.Result.TheVariants.{Ok, Err}
use Rattle.std.specs.List.{flat_map}
use Rattle.uf_cid.specs.Blocks.{Held, Lookup}
use Rattle.uf_cid.specs.declared.cid.Cid.{Cid}
use Rattle.uf_store.specs.Among.{SavesAmong}
use Rattle.uf_store.specs.Contents.{Told}
use Rattle.uf_store.specs.Keeping.{Holds}
use Rattle.uf_tree.specs.Nodes.{Named}
use Rattle.uf_tree.specs.Profiles.{most_bytes}
use Rattle.uf_tree.specs.Metas.{is_meta}
use Rattle.uf_tree.specs.Tree.{Dir, Entries, File, Nothing, Tree, With, are_trees, fold_each, is_tree, own_meta}
use Rattle.uf_tree.specs.TreePlan.{Planned, Refusal, blocks as blocks_of, entry, first_refusal, members}
use Rattle.uf_tree.specs.TreePlan.{planned_dir, planned_file, refusal}
use Rattle.uf_tree.specs.TreePlan.{FileTooLong as IsTooLong, Collision as Collides, TooBig as IsTooBig}
use Rattle.uf_tree.specs.declared.meta.Meta.{Meta}
use Rattle.uf_tree.specs.declared.nodes.Entry.{Entry}
use Rattle.uf_tree.specs.declared.profile.Profile.{Profile}
use Rattle.uf_lenient.specs.Reading.{denotes, shallow_of}
use Rattle.uf_lenient.specs.declared.fault.DagFault.{DagFault}
use Rattle.uf_lenient.specs.declared.fault.DagFault.TheVariants as dag
use Rattle.uf_lenient.specs.declared.shapes.Limits.{Limits}
use Rattle.uf_lenient.specs.declared.shapes.Shape.TheVariants.{Folder as FolderShape}
use Rattle.uf_adopt.specs.Faults.{IsStoreFailing}
use Rattle.uf_adopt.specs.declared.fault.AdoptFault.{AdoptFault}
use Rattle.uf_adopt.specs.declared.fault.AdoptFault.TheVariants.{Dag, FileTooLong, Collision, TooBig, Store}

module _ (X : List ℕ → List ℕ) (N : List ℕ → ℕ) (p : Profile) where
  -- the plans of a directory's members
  abbrev pub planned_each : Entries → List (List ℕ × Planned)
  planned_each es = fold_each (planned_file X N p) (planned_dir X N p) es

  -- the blocks of their plans
  abbrev pub each_blocks : Entries → List Held
  each_blocks es = flat_map (λ (m : List ℕ × Planned). m.1.plan.blocks) (planned_each es)

  -- the entry is that of the tree, which nothing refuses, and whose blocks are held
  pub record IsBuilt (told : Told) (t : Tree) (e : Entry) : Type 0 where
    pub tree : IsTrue (is_tree t)
    pub planned : refusal X N p t ≡ None
    pub is : e ≡ entry X N p t
    pub held : Holds told (blocks_of X N p t)

  -- the pairs are the names and entries of these members, which nothing refuses, and whose blocks are held; they are
  -- trees where the directory's metadata may be one's
  pub record AreBuilt (told : Told) (es : Entries) (l : List Named) : Type 0 where
    pub trees : IsTrue (is_meta (own_meta es)) → are_trees es ≡ true
    pub planned : first_refusal (planned_each es) ≡ None
    pub are : l ≡ members X N p (planned_each es)
    pub held : Holds told (each_blocks es)

  -- nothing was written but blocks of the plan of this tree, and nothing at all where there is none
  abbrev pub SavesOfTree : Result Tree DagFault → Told → Told → Type 0
  SavesOfTree (Ok t) before now = SavesAmong X (blocks_of X N p t) before now
  SavesOfTree (Err fault) before now = now ≡ before

  module _ (held : Lookup) (limits : Limits) where
    unfoldable mutual
      -- the CID `node` is that of the first node of the file in a tree that is too long, before which nothing is
      -- refused; another CID denotes the tree
      pub IsFirstTooLong : Tree → Cid → Cid → Type 0
      IsFirstTooLong (File m bytes) c node = (node ≡ c) × (most_bytes p < length bytes)
      IsFirstTooLong (Dir es) c node =
          (meta : Meta) × (ways : List (List ℕ × Cid)) × (shallow_of held limits c ≡ Ok (FolderShape meta ways))
          × IsFirstAmong es ways node

      -- the same of members, to which these ways lead
      pub IsFirstAmong : Entries → List (List ℕ × Cid) → Cid → Type 0
      IsFirstAmong (Nothing m) ways node = ⊥
      IsFirstAmong (With name t es) [] node = ⊥
      IsFirstAmong (With name t es) (w ∷ ways) node =
          IsFirstTooLong t w.1 node ⊎ ((refusal X N p t ≡ None) × IsFirstAmong es ways node)

    -- the refusal is this one; of a file that is too long the CID of its first node is reported
    abbrev pub IsRefusedSo : Option Refusal → (Cid → Type 0) → AdoptFault → Type 0
    IsRefusedSo why IsNode (Dag fault) = ⊥
    IsRefusedSo why IsNode (FileTooLong node) = (why ≡ Some IsTooLong) × IsNode node
    IsRefusedSo why IsNode (Collision first second) = why ≡ Some (Collides first second)
    IsRefusedSo why IsNode TooBig = why ≡ Some IsTooBig
    IsRefusedSo why IsNode (Store fault) = IsStoreFailing fault

    -- the tree that a CID denotes is built or refused, or the store itself fails
    abbrev pub BuildsTree : Told → Cid → Tree → Result Entry AdoptFault → Type 0
    BuildsTree told c t (Ok e) = IsBuilt told t e
    BuildsTree told c t (Err why) = IsRefusedSo (refusal X N p t) (IsFirstTooLong t c) why

    -- the same of members, to which these ways lead
    abbrev pub BuildsEach : Told → List (List ℕ × Cid) → Entries → Result (List Named) AdoptFault → Type 0
    BuildsEach told ways es (Ok l) = AreBuilt told es l
    BuildsEach told ways es (Err why) = IsRefusedSo (first_refusal (planned_each es)) (IsFirstAmong es ways) why

    -- the CID denotes a tree, which is built or refused
    pub record BuildsDenoted (told : Told) (c : Cid) (result : Result Entry AdoptFault) : Type 0 where
      pub tree : Tree
      pub denoted : denotes held limits c ≡ Ok tree
      pub builds : BuildsTree told c tree result

    -- what is adopted is what the CID denotes, or the first fault of its reading; or the store itself fails
    abbrev pub Adopts : Told → Cid → Result Entry AdoptFault → Type 0
    Adopts told c (Ok e) = BuildsDenoted told c (Ok e)
    Adopts told c (Err (Dag fault)) = denotes held limits c ≡ Err fault
    Adopts told c (Err (Store fault)) = IsStoreFailing fault ⊎ (denotes held limits c ≡ Err (dag.Store fault))
    Adopts told c (Err why) = BuildsDenoted told c (Err why)
