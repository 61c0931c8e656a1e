-- When what is held and the Head stand for a tree.
use Rattle.std.specs.Prelude.{◌≡◌, ℕ, List, IsTrue}
use Rattle.std.specs.declared.option.Option.{Option}
use Rattle.std.specs.declared.option.Option.TheVariants.{None, Some}
use Rattle.uf_cid.specs.Blocks.{Lookup, Holds}
use Rattle.uf_cid.specs.Read.{IsCid}
use Rattle.uf_cid.specs.declared.cid.Cid.{Cid}
use Rattle.uf_cid.specs.declared.cid.Codec.TheVariants.{DagPb}
use Rattle.uf_tree.specs.declared.profile.Profile.{Profile}
use Rattle.uf_tree.specs.Tree.{Dir, Entries, is_tree}
use Rattle.uf_tree.specs.TreePlan.{entry, blocks, refusal}
use Rattle.uf_tree.specs.Heads.{IsHeadText}
use Rattle.uf_tree.specs.Profiles.{is_profile}

-- the note is there, and is a text of this profile and this root
abbrev pub IsHeadNote : Option (List ℕ) → Profile → Cid → Type 0
IsHeadNote None p root = ⊥
IsHeadNote (Some text) p root = IsHeadText text p root

-- the Head is a text of this profile and of the root of the directory of these entries, which has a plan, and all
-- blocks of the plan are held
pub record StandsFor (X : List ℕ → List ℕ) (N : List ℕ → ℕ) (held : Lookup) (head : Option (List ℕ)) (p : Profile)
    (es : Entries) : Type 0 where
  pub profile : IsTrue (is_profile p)
  pub tree : IsTrue (is_tree (Dir es))
  pub planned : refusal X N p (Dir es) ≡ None
  pub head_is : IsHeadNote head p (entry X N p (Dir es)).cid
  pub blocks_held : Holds held (blocks X N p (Dir es))

-- the text is that of no profile and no CID of a directory's block
abbrev pub IsRefusedText : List ℕ → Type 0
IsRefusedText text = (p : Profile) (c : Cid) → IsTrue (is_profile p) → IsCid c → c.codec ≡ DagPb → IsHeadText text p c
    → ⊥

-- there is no Head, or one that isn't read, or a profile and the entries of the root
pub data Standing : Type 0 where
  NoHead BadHead : Standing
  Stands : Profile → Entries → Standing

-- there is a Head that isn't read
abbrev pub IsBadHead : Option (List ℕ) → Type 0
IsBadHead None = ⊥
IsBadHead (Some text) = IsRefusedText text

-- what is held and the Head stand so
abbrev pub StandsAs : (List ℕ → List ℕ) → (List ℕ → ℕ) → Lookup → Option (List ℕ) → Standing → Type 0
StandsAs X N held head NoHead = head ≡ None
StandsAs X N held head BadHead = IsBadHead head
StandsAs X N held head (Stands p es) = StandsFor X N held head p es

-- what is held and the Head stand in one of these three ways
abbrev pub IsSettled : (List ℕ → List ℕ) → (List ℕ → ℕ) → Lookup → Option (List ℕ) → Type 0
IsSettled X N held head = (standing : Standing) × StandsAs X N held head standing
