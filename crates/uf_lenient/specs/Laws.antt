-- What the laws of readings say.
use Rattle.std.specs.Prelude.{◌≡◌, ◌<◌, ◌^◌, ℕ, List, Contains, IsTrue, None}
use Rattle.std.specs.declared.result.Result.{Result}
use Rattle.uf_cid.specs.Blocks.{Holds, Lookup}
use Rattle.uf_cid.specs.declared.cid.Cid.{Cid}
use Rattle.uf_cid.specs.declared.cid.Codec.TheVariants.{DagPb}
use Rattle.uf_tree.specs.declared.profile.Profile.{Profile}
use Rattle.uf_tree.specs.Profiles.{is_profile}
use Rattle.uf_tree.specs.Tree.{Tree, is_tree}
use Rattle.uf_tree.specs.TreePlan.{blocks, refusal}
use Rattle.uf_tree.specs.Validity.{IsHash}
use Rattle.uf_lenient.specs.declared.fault.DagFault.{DagFault}
use Rattle.uf_lenient.specs.declared.shapes.Limits.{Limits}
use Rattle.uf_lenient.specs.declared.unixfs.Unixfs.{Unixfs}
use Rattle.uf_lenient.specs.Leading.{AgreeAmong}
use Rattle.uf_lenient.specs.Unixfs.{unixfs_of}
use Rattle.uf_lenient.specs.Within.{AnswersSame, HoldsAllOf, HoldsGoodOf, good_blocks}

-- what the block of a node under this digest is read as
abbrev pub node_read : List ℕ → List ℕ → Result Unixfs DagFault
node_read digest block = unixfs_of (record { codec = DagPb; digest = digest }) block

-- this is said of the plan of each tree that a profile allows, and of each map that holds its blocks
abbrev pub OfHeldPlan : ((List ℕ → List ℕ) → (List ℕ → ℕ) → Profile → Tree → Lookup → Type 0) → Type 0
OfHeldPlan P = (X : List ℕ → List ℕ) (N : List ℕ → ℕ) (p : Profile) (t : Tree) (held : Lookup)
    → IsHash X → ((name : List ℕ) → N name < 2 ^ 64) → IsTrue (is_profile p) → IsTrue (is_tree t)
    → refusal X N p t ≡ None → Holds held (blocks X N p t) → P X N p t held

-- the reading below a CID answers the same in each map that holds all and more, but that a block that was missing may
-- be there
abbrev pub StaysInGreater : {A : Type 0} → (Lookup → Limits → Cid → Result A DagFault) → Type 0
StaysInGreater read = (held more : Lookup) (limits : Limits) (c : Cid) → HoldsAllOf held more
    → AnswersSame more (read held limits c) (read more limits c)

-- the same of the good blocks of a map that holds all good ones
abbrev pub StaysByGood : {A : Type 0} → (Lookup → Limits → Cid → Result A DagFault) → Type 0
StaysByGood read = (X : List ℕ → List ℕ) (held more : Lookup) (limits : Limits) (c : Cid) → HoldsGoodOf X held more
    → AnswersSame (good_blocks X more) (read (good_blocks X held) limits c) (read (good_blocks X more) limits c)

-- the reading below one of some CIDs, which no link leaves, answers the same in two maps that hold the same under them
abbrev pub FollowsLinks : {A : Type 0} → (Lookup → Limits → Cid → Result A DagFault) → Type 0
FollowsLinks read = (left right : Lookup) (cids : List Cid) (limits : Limits) (c : Cid) → AgreeAmong left right cids
    → Contains cids c → read left limits c ≡ read right limits c
