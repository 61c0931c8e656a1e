-- What an `add` has printed, and no stop takes away.
use Rattle.std.specs.Prelude.{◌≡◌, ℕ, List, Bool, false}
use Rattle.std.specs.declared.option.Option.TheVariants.{Some}
use Rattle.std.specs.FinMap.{get}
use Rattle.uf_cid.specs.Blocks.{Held, Holds}
use Rattle.uf_edge.specs.Streams.{after}
use Rattle.uf_store.specs.Contents.{Contents}
use Rattle.uf_store.specs.declared.store.Write.{Write}
use Rattle.uf_tree.specs.FilePlan.{file_plan}
use Rattle.uf_tree.specs.Metas.{none}
use Rattle.uf_tree.specs.TreePlan.{blocks}
use Rattle.uf_top.specs.Around.{Around}
use Rattle.uf_top.specs.Causes.{IsRow}
use Rattle.uf_top.specs.Hosted.{AreHostRows}
use Rattle.uf_top.specs.Outcomes.{EachOutcome}

-- whatever a stop after these writes leaves holds the blocks
abbrev pub EachHolds : List Held → List Write → Type 0
EachHolds list ws = EachOutcome (λ held notes. Holds (λ cid. get held cid) list) ws

-- the row of the input was printed, and the blocks of its file stay
pub record KeepsInput (X : List ℕ → List ℕ) (before now : Around) (a b : Contents) : Type 0 where
  pub text : List ℕ
  pub row : IsRow X (Some a) (Some b) false before.left text
  pub printed : now.held ≡ after before.held text
  pub stays : EachHolds (file_plan X row.profile none row.bytes).blocks b.writes

-- the rows of what the host has were printed, and the blocks of its tree stay
pub record KeepsHosted (X : List ℕ → List ℕ) (N : List ℕ → ℕ) (recursive : Bool) (path : List ℕ) (before now : Around)
    (a b : Contents) : Type 0 where
  pub text : List ℕ
  pub rows : AreHostRows X N (Some a) (Some b) before.host.told recursive false path text
  pub printed : now.held ≡ after before.held text
  pub stays : EachHolds (blocks X N rows.profile rows.tree) b.writes
