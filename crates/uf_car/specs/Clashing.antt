-- The sections of a CAR as what an empty store holds once they are saved, and where two of them clash.
use Rattle.std.specs.Prelude.{◌≡◌, ℕ, List, [], ◌∷◌, ◌++◌, Contains, nat_eq, if◌then◌else◌}
use Rattle.std.specs.Cmp.Lexicographic.{pointwise}
use Rattle.std.specs.declared.option.Option.{Option}
use Rattle.std.specs.declared.option.Option.TheVariants.{None, Some}
use Rattle.uf_cid.specs.Blocks.{Held, Lookup}
use Rattle.uf_cid.specs.declared.cid.Cid.{Cid}
use Rattle.uf_store.specs.Contents.{Contents, held_at, with_save}
use Rattle.uf_store.specs.InMemory.{no_contents}
use Rattle.uf_car.specs.Importing.{with_saves}

-- what these sections hold under each CID
abbrev pub sections_held : List Held → Lookup
sections_held sections = held_at (with_saves sections no_contents)

-- two blocks under one CID
pub record TwoBlocks : Type 0 where
  pub cid : Cid
  pub first : List ℕ
  pub second : List ℕ

-- a block and another one that is held under its CID, or what comes after it
abbrev pub or_other : Option (List ℕ) → Held → Option TwoBlocks → Option TwoBlocks
or_other None b rest = rest
or_other (Some other) b rest =
    if pointwise nat_eq other b.1 then rest else Some (record { cid = b.0; first = other; second = b.1 })

-- the first of these sections under whose CID another block is held, even if only since an earlier one was saved
unfoldable pub first_clash : Contents → List Held → Option TwoBlocks
first_clash t [] = None
first_clash t (b ∷ sections) = or_other (held_at t b.0) b (first_clash (with_save b.0 b.1 t) sections)

-- the first section that has the CID of an earlier one and another block
abbrev pub sections_clash : List Held → Option TwoBlocks
sections_clash sections = first_clash no_contents sections

-- a section has this CID and the second block, and an earlier one has it and the first
pub record HasTwo (sections : List Held) (cid : Cid) (first second : List ℕ) : Type 0 where
  pub front : List Held
  pub rest : List Held
  pub is : sections ≡ front ++ (cid, second) ∷ rest
  pub earlier : Contains front (cid, first)
