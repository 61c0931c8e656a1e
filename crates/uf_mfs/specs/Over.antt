-- Calls over a store that agrees with what an entry, a thing or a tree in memory stands for, and doesn't fail.
use Rattle.std.specs.Prelude.{◌≡◌, ◌≤◌, ◌+◌, ℕ, List, [], Bool, false, IfOk, IsTrue, map}
use Rattle.std.specs.declared.option.Option.{Option}
use Rattle.std.specs.declared.option.Option.TheVariants.{None, Some}
use Rattle.std.specs.declared.result.Result.{Result}
use Rattle.std.specs.declared.result.Result.TheVariants.{Ok}
use Rattle.std.specs.List.{flat_map}
use Rattle.uf_cid.specs.Blocks.{Held}
use Rattle.uf_edge.specs.Counts.{Stood}
use Rattle.uf_store.specs.declared.store.StoreFault.{StoreFault}
use Rattle.uf_store.specs.Contents.{Told}
use Rattle.uf_store.specs.Lost.{IsLossOf, ReadsOver}
use Rattle.uf_store.specs.Seen.{Seen}
use Rattle.uf_tree.specs.Nodes.{Named}
use Rattle.uf_tree.specs.declared.nodes.Entry.{Entry}
use Rattle.uf_tree.specs.declared.profile.Profile.{Profile}
use Rattle.uf_tree.specs.declared.meta.Meta.{Meta}
use Rattle.uf_tree.specs.Tree.{Tree, File, Dir, Entries}
use Rattle.uf_plain.specs.declared.file.WriteHow.{WriteHow}
use Rattle.uf_plain.specs.declared.rule.Refused.{Refused}
use Rattle.uf_plain.specs.Edits.{at, child}
use Rattle.uf_plain.specs.Needs.{member_needs, needs_at, root_of, way}
use Rattle.uf_mfs.specs.declared.fault.MfsFault.{MfsFault}
use Rattle.uf_mfs.specs.declared.fault.Stop.{Stop}
use Rattle.uf_mfs.specs.declared.mfs.Mfs.{Mfs}
use Rattle.uf_mfs.specs.declared.thing.Thing.{Thing}
use Rattle.uf_mfs.specs.Answers.{Answers, AnswersOr, MeetsOr}
use Rattle.uf_mfs.specs.Standing.{AreMembers, IsAgreed, IsAgreedMember, IsAgreedThing, StandsAt, StandsOver}
use Rattle.uf_mfs.specs.Touches.{read_bound}

-- no block is saved, and no entry is answered
abbrev pub ChangesNothing : Seen → Seen → Result (Option Entry) Stop → Type 0
ChangesNothing before now result = (now.told ≡ before.told) × IfOk result (λ new. new ≡ None)

-- whatever tells of a member that was found so, this holds of it
abbrev pub OfMember : Option Thing
    → ((List ℕ → List ℕ) → (List ℕ → ℕ) → Told → Profile → Option Tree → Type 0) → Type 0
OfMember found P = (X : List ℕ → List ℕ) (N : List ℕ → ℕ) (told : Told) (p : Profile) (o : Option Tree)
    → IsAgreedMember X N told p o found → P X N told p o

module _ (X : List ℕ → List ℕ) (N : List ℕ → ℕ) (before now : Seen) where
  -- where the store agrees with the blocks of the folder of this entry, and doesn't fail, this holds
  abbrev pub OverFolder : Entry → (Profile → Entries → Type 0) → Type 0
  OverFolder folder P = (p : Profile) (es : Entries) → IsAgreed X N before.told p folder (Dir es)
      → Stood before.faults now.faults → P p es

  -- the same of a file or a folder
  abbrev pub OverEntry : Entry → (Profile → Tree → Type 0) → Type 0
  OverEntry e P = (p : Profile) (t : Tree) → IsAgreed X N before.told p e t → Stood before.faults now.faults → P p t

  -- the same of what was met
  abbrev pub OverThing : Thing → (Profile → Tree → Type 0) → Type 0
  OverThing thing P = (p : Profile) (t : Tree) → IsAgreedThing X N before.told p t thing
      → Stood before.faults now.faults → P p t

  -- the same of what was found under a name
  abbrev pub OverMember : Option Thing → (Profile → Tree → Type 0) → Type 0
  OverMember found P = (p : Profile) (t : Tree) → IsAgreedMember X N before.told p (Some t) found
      → Stood before.faults now.faults → P p t

  -- where the store agrees with the blocks of the tree in memory, and doesn't fail, this holds
  abbrev pub OverTree : Mfs → (Profile → Entries → Type 0) → Type 0
  OverTree mfs P = (p : Profile) (es : Entries) → StandsOver X N before.told mfs p es
      → Stood before.faults now.faults → P p es

  -- the same where all blocks of the tree are held
  abbrev pub WholeTree : Mfs → (Profile → Entries → Type 0) → Type 0
  WholeTree mfs P = (p : Profile) (es : Entries) → StandsAt X N before.told mfs p es
      → Stood before.faults now.faults → P p es

  -- this is told of a file or a folder, or its root block is lost
  abbrev pub TellsOfEntry : {A : Type 0} → Entry → (Profile → Tree → A) → Result A StoreFault → Type 0
  TellsOfEntry e value result = OverEntry e (λ p t. ReadsOver before.told (root_of X N p t) (value p t) result)

  -- the same of what was met, of which these blocks are needed
  abbrev pub TellsOfThing : {A : Type 0} → Thing → (Profile → Tree → List Held) → (Profile → Tree → A)
      → Result A StoreFault → Type 0
  TellsOfThing thing need value result = OverThing thing (λ p t. ReadsOver before.told (need p t) (value p t) result)

  -- the same of a folder
  abbrev pub TellsOfFolder : {A : Type 0} → Entry → (Profile → Tree → List Held) → (Profile → Tree → A)
      → Result A StoreFault → Type 0
  TellsOfFolder folder need value result =
      OverFolder folder (λ p es. ReadsOver before.told (need p (Dir es)) (value p (Dir es)) result)

  -- what this folder has under a name is answered, or a block that this needs is lost
  abbrev pub FindsMember : Entry → List ℕ → Result (Option Thing) Stop → Type 0
  FindsMember folder name result =
      OverFolder folder (λ p es. MeetsOr (IsLossOf before.told (member_needs X N p name es))
      (λ o found. IsAgreedMember X N before.told p o found) (Ok (child name es)) result)

  -- what the names lead to from what was met is answered, or what refuses that, or a block on the way is lost
  abbrev pub LooksFrom : Thing → ℕ → List (List ℕ) → Result Thing Stop → Type 0
  LooksFrom thing led names result = OverThing thing (λ p t. MeetsOr (IsLossOf before.told (way X N p names t))
      (λ t found. IsAgreedThing X N before.told p t found) (at led names t) result)

  -- the same of the entry of what the names lead to from this folder, by the tree that has to be there
  abbrev pub LooksAlong : {A : Type 0} → Entry → List (List ℕ) → (A → Tree) → (Entries → Result A Refused)
      → Result Entry Stop → Type 0
  LooksAlong folder names tree_of there result =
      OverFolder folder (λ p es. MeetsOr (IsLossOf before.told (way X N p names (Dir es)))
      (λ a e. IsAgreed X N before.told p e (tree_of a)) (there es) result)

  -- the same of the tree in memory
  abbrev pub FindsThing : Mfs → List (List ℕ) → Result Thing MfsFault → Type 0
  FindsThing mfs names result = OverTree mfs (λ p es. AnswersOr (IsLossOf before.told (way X N p names (Dir es)))
      (λ t thing. IsAgreedThing X N before.told p t thing) names (at 0 names (Dir es)) result)

  -- of the tree in memory, whose blocks are all held, this is told of what is at the names, or what refuses that
  abbrev pub TellsAt : {A : Type 0} → Mfs → List (List ℕ) → (Profile → Tree → A) → Result A MfsFault → Type 0
  TellsAt mfs names value result =
      WholeTree mfs (λ p es. Answers (λ t a. a ≡ value p t) names (at 0 names (Dir es)) result)

  -- the same where some of its blocks may be lost, and what is told of a tree needs these: or one of those is lost
  abbrev pub TellsOver : {A : Type 0} → Mfs → List (List ℕ) → (Profile → Tree → List Held) → (Profile → Tree → A)
      → Result A MfsFault → Type 0
  TellsOver mfs names need value result =
      OverTree mfs (λ p es. AnswersOr (IsLossOf before.told (needs_at X N p (need p) names (Dir es)))
      (λ t a. a ≡ value p t) names (at 0 names (Dir es)) result)

  -- and this many touches are enough: a few for each name, and those that what is there takes
  abbrev pub TouchesAt : Mfs → List (List ℕ) → (Profile → Tree → ℕ) → (was is : ℕ) → Type 0
  TouchesAt mfs names more was is = OverTree mfs (λ p es. is ≤ was + read_bound (more p) names (Dir es))

  -- where this holds of what is at the names, no block is saved, and the tree in memory stays
  abbrev pub StaysWhere : (was is : Mfs) → List (List ℕ) → (Tree → Type 0) → Type 0
  StaysWhere was is names Q = (p : Profile) (es : Entries) (t : Tree) → StandsOver X N before.told was p es
      → Stood before.faults now.faults → at 0 names (Dir es) ≡ Ok t → Q t → (now.told ≡ before.told) × (is ≡ was)

  -- where this holds of the tree in memory, no block is saved, and this is so
  abbrev pub StaysOver : Mfs → (Entries → Type 0) → Type 0 → Type 0
  StaysOver mfs Q R = OverTree mfs (λ p es. Q es → (now.told ≡ before.told) × R)

  -- where the folder at these names is there, and those that are missing may be made, no block is saved, and this is
  -- so
  abbrev pub MakesNothing : Mfs → Bool → List (List ℕ) → Type 0 → Type 0
  MakesNothing mfs parents names R = (p : Profile) (es below : Entries) → StandsOver X N before.told mfs p es
      → Stood before.faults now.faults → IsTrue parents → at 0 names (Dir es) ≡ Ok (Dir below)
      → (now.told ≡ before.told) × R

  -- where a file is at these names, and this piece has no bytes and the write empties none, no block is saved, and the
  -- tree in memory stays
  abbrev pub WritesNoByte : (was is : Mfs) → WriteHow → List ℕ → List (List ℕ) → Type 0
  WritesNoByte was is how piece names = (p : Profile) (es : Entries) (m : Meta) (bytes : List ℕ)
      → StandsOver X N before.told was p es → Stood before.faults now.faults → piece ≡ [] → how.cut ≡ false
      → at 0 names (Dir es) ≡ Ok (File m bytes) → (now.told ≡ before.told) × (is ≡ was)

  -- where this holds of what was found under a name, nothing is changed
  abbrev pub LeavesMember : Option Thing → (Tree → Type 0) → Result (Option Entry) Stop → Type 0
  LeavesMember found Q result = OverMember found (λ p t. Q t → ChangesNothing before now result)

  -- the same of what was met
  abbrev pub LeavesThing : Thing → (Tree → Type 0) → Result (Option Entry) Stop → Type 0
  LeavesThing thing Q result = OverThing thing (λ p t. Q t → ChangesNothing before now result)

  -- the same of the root
  abbrev pub LeavesRoot : Entry → (Tree → Type 0) → Result (Option Entry) Stop → Type 0
  LeavesRoot root Q result = OverFolder root (λ p es. Q (Dir es) → ChangesNothing before now result)

  -- where each folder along these names from this one is there, nothing is changed
  abbrev pub FillsNothing : Profile → Entry → ℕ → List (List ℕ) → Result (Option Entry) Stop → Type 0
  FillsNothing p folder led names result = (es below : Entries) → IsAgreed X N before.told p folder (Dir es)
      → Stood before.faults now.faults → at led names (Dir es) ≡ Ok (Dir below) → ChangesNothing before now result

  -- this is told of each of these names and entries, or one of the blocks that this needs is lost
  abbrev pub TellsOfPairs : {A : Type 0} → List Named → (Profile → Tree → List Held) → (Profile → List ℕ → Tree → A)
      → Result (List A) StoreFault → Type 0
  TellsOfPairs pairs need value result = (p : Profile) (l : List (List ℕ × Tree))
      → AreMembers X N before.told p pairs l → Stood before.faults now.faults
      → ReadsOver before.told (flat_map (λ (m : List ℕ × Tree). need p m.1) l)
      (map (λ (m : List ℕ × Tree). value p m.0 m.1) l) result
