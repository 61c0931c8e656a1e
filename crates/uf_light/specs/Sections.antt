-- What the sections of a CAR show of an answer of `check`.
use Rattle.std.specs.Prelude.{◌≡◌, ◌⊎◌, ℕ, List, Some, None, IfErr, Contains}
use Rattle.std.specs.declared.result.Result.{Result}
use Rattle.std.specs.declared.result.Result.TheVariants.{Ok, Err}
use Rattle.uf_cid.specs.Blocks.{Held, IsClash}
use Rattle.uf_cid.specs.declared.cid.Cid.{Cid}
use Rattle.uf_car.specs.Clashing.{HasTwo, sections_held}
use Rattle.uf_car.specs.Importing.{with_saves}
use Rattle.uf_edge.specs.Streams.{Told as SinkTold}
use Rattle.uf_store.specs.Contents.{Told}
use Rattle.uf_store.specs.InMemory.{no_contents}
use Rattle.uf_store.specs.declared.store.Role.{Role}
use Rattle.uf_store.specs.declared.store.StoreFault.TheVariants as store
use Rattle.uf_light.specs.declared.fault.LightFault.{LightFault}
use Rattle.uf_light.specs.declared.fault.LightFault.TheVariants as fault
use Rattle.uf_light.specs.Answers.{Accepts, ClashesWithPlan, IsBehindCar}
use Rattle.uf_light.specs.Bad.{IsBadLight}

-- what an empty store tells once these sections are saved
abbrev pub sections_told : List Held → Told
sections_told sections = Some (with_saves sections no_contents)

-- a section has this CID, and its block isn't canonical in this role on a path below this root or in a file
pub record HasBadSection (X : List ℕ → List ℕ) (N : List ℕ → ℕ) (root : Cid) (sections : List Held) (cid : Cid)
    (role : Role) : Type 0 where
  pub block : List ℕ
  pub there : Contains sections (cid, block)
  pub bad : IsBadLight X N (sections_told sections) root role block

-- what the sections show of a fault of the store that they are read into
abbrev pub ShownBySections : (List ℕ → List ℕ) → (List ℕ → ℕ) → Cid → List Held → Result ℕ LightFault → Type 0
ShownBySections X N root sections (Err (fault.Store store.Failed)) = ⊥
ShownBySections X N root sections (Err (fault.Store (store.Damaged c))) = ⊥
ShownBySections X N root sections (Err (fault.Store (store.Missing c))) = sections_held sections c ≡ None
ShownBySections X N root sections (Err (fault.Store (store.BadBlock c role))) = HasBadSection X N root sections c role
ShownBySections X N root sections (Err (fault.Store (store.Clash c a b))) = HasTwo sections c a b × IsClash X a b
ShownBySections X N root sections _ = Unit {0}

-- what a proof that isn't refused by its form says of a tree with this plan: two blocks of one digest are shown, or it
-- answers as the tree does
abbrev pub AnswersTree : (List ℕ → List ℕ) → List Held → (plan needs : List Held) → Result (List ℕ) LightFault
    → Result ℕ LightFault → SinkTold → SinkTold → Type 0
AnswersTree X sections plan needs said result out out_now = IfErr result IsBehindCar
    → ClashesWithPlan X plan sections ⊎ Accepts (sections_told sections) needs said result out out_now

-- an answer of success, or out of memory
abbrev pub IsOkOrMemory : Result ℕ LightFault → Type 0
IsOkOrMemory (Ok n) = Unit {0}
IsOkOrMemory (Err f) = f ≡ fault.Store store.Memory
