-- What is held under CIDs: the words in which every layer above says which blocks are there.
use Rattle.std.specs.Prelude.{◌≡◌, ◌≢◌, ℕ, List, IfSome}
use Rattle.std.specs.List.{AllByRecursion}
use Rattle.std.specs.declared.option.Option.{Option}
use Rattle.std.specs.declared.option.Option.TheVariants.{Some}
use Rattle.uf_cid.specs.declared.cid.Cid.{Cid}

-- a block under its CID
abbrev pub Held : Type 0
Held = Cid × List ℕ

-- what is held under each CID
abbrev pub Lookup : Type 0
Lookup = Cid → Option (List ℕ)

-- each of these blocks is held under its CID
abbrev pub Holds : Lookup → List Held → Type 0
Holds held blocks = AllByRecursion (λ b. held b.0 ≡ Some b.1) blocks

-- under the CID of each of these blocks that block is held, or none
abbrev pub Agrees : Lookup → List Held → Type 0
Agrees held blocks = AllByRecursion (λ b. IfSome (held b.0) (λ bytes. bytes ≡ b.1)) blocks

-- two different blocks of one digest
pub record IsClash (hash : List ℕ → List ℕ) (first second : List ℕ) : Type 0 where
  pub differ : first ≢ second
  pub one_digest : hash first ≡ hash second
