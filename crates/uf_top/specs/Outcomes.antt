-- What a stop during a command leaves.
use Rattle.std.specs.Prelude.{◌≡◌, ◌⊎◌, ℕ, List, ◌++◌}
use Rattle.std.specs.declared.option.Option.TheVariants.{None}
use Rattle.std.specs.FinMap.{get}
use Rattle.uf_store.specs.Contents.{Contents, HeldMap, Notes}
use Rattle.uf_store.specs.Stops.{IsOutcome, IsSafe}
use Rattle.uf_store.specs.declared.store.Write.{Write}
use Rattle.uf_tree.specs.Standing.{StandsFor}
use Rattle.uf_tree.specs.Tree.{Dir, Entries}
use Rattle.uf_tree.specs.TreePlan.{blocks}
use Rattle.uf_tree.specs.declared.profile.Profile.{Profile}

-- whatever a stop after these writes leaves is so
abbrev pub EachOutcome : (HeldMap → Notes → Type 0) → List Write → Type 0
EachOutcome IsSo ws = (held : HeldMap) (notes : Notes) → IsOutcome ws held notes → IsSo held notes

-- whatever a stop leaves is so, after any of the writes that led from the first contents to the second
abbrev pub EachStop : (HeldMap → Notes → Type 0) → Contents → Contents → Type 0
EachStop IsSo before now = (done rest : List Write) → now.writes ≡ before.writes ++ done ++ rest
    → EachOutcome IsSo (before.writes ++ done)

module _ (X : List ℕ → List ℕ) (N : List ℕ → ℕ) where
  -- what is held and noted stands for this tree
  abbrev pub LeavesTree : Profile → Entries → HeldMap → Notes → Type 0
  LeavesTree p es held notes = StandsFor X N (λ cid. get held cid) notes.head p es

  -- it stands for one of two trees
  abbrev pub LeavesEither : Profile → Entries → Profile → Entries → HeldMap → Notes → Type 0
  LeavesEither p es q fs held notes = LeavesTree p es held notes ⊎ LeavesTree q fs held notes

  -- there is no Head, or it stands for this tree
  abbrev pub LeavesNoneOr : Profile → Entries → HeldMap → Notes → Type 0
  LeavesNoneOr p es held notes = (notes.head ≡ None) ⊎ LeavesTree p es held notes

  -- what is told stands for this tree, and no stop takes its Head or a block of it away
  pub record IsSafeFor (t : Contents) (p : Profile) (es : Entries) : Type 0 where
    pub stands : LeavesTree p es t.held t.notes
    pub text : List ℕ
    pub safe : IsSafe t text (blocks X N p (Dir es))
