-- A part of a file changed.
use Rattle.std.specs.Prelude.{◌≡◌, ◌⊎◌, ℕ, zero, suc, ◌+◌, ◌<◌, ◌≤◌, ◌^◌, List, [], ◌∷◌, length, map, take, ⊤, min, max}
use Rattle.std.specs.List.{AllByRecursion, flat_map}
use Rattle.std.specs.declared.option.Option.{Option}
use Rattle.std.specs.declared.option.Option.TheVariants.{None, Some}
use Rattle.std.specs.Prelude.{IfErr, IfOk}
use Rattle.std.specs.declared.result.Result.{Result}
use Rattle.uf_cid.specs.Blocks.{Held}
use Rattle.uf_edge.specs.Counts.{Stood}
use Rattle.uf_store.specs.Contents.{Told}
use Rattle.uf_store.specs.Keeping.{Agrees, Holds}
use Rattle.uf_store.specs.Lost.{IsLossOf}
use Rattle.uf_store.specs.Seen.{Seen}
use Rattle.uf_store.specs.declared.store.StoreFault.{StoreFault}
use Rattle.uf_fileedit.specs.declared.changing.PartEdit.{PartEdit}
use Rattle.uf_tree.specs.declared.meta.Meta.{Meta}
use Rattle.uf_tree.specs.declared.nodes.Part.{Part}
use Rattle.uf_tree.specs.declared.profile.Profile.{Profile}
use Rattle.uf_tree.specs.declared.nodes.Entry.{Entry}
use Rattle.uf_tree.specs.Cutting.{joined}
use Rattle.uf_tree.specs.FilePlan.{file_plan, groups}
use Rattle.uf_tree.specs.FileSub.{blocks_over, part_over, span}

-- the first byte, and those after it; after the end are zeros
abbrev pub first : List ℕ → ℕ
first [] = 0
first (y ∷ b) = y

abbrev pub rest : List ℕ → List ℕ
rest [] = []
rest (y ∷ b) = b

-- n bytes: those of b and then zeros, with x over them from a place on
abbrev pub overlaid : ℕ → List ℕ → ℕ → List ℕ → List ℕ
overlaid zero b offset x = []
overlaid (suc n) b zero [] = first b ∷ overlaid n (rest b) zero []
overlaid (suc n) b zero (z ∷ x) = z ∷ overlaid n (rest b) zero x
overlaid (suc n) b (suc offset) x = first b ∷ overlaid n (rest b) offset x

-- one of these blocks
abbrev pub IsIn : Held → List Held → Type 0
IsIn b [] = ⊥
IsIn b (c ∷ l) = (b ≡ c) ⊎ IsIn b l

-- the block is held, or it is one of the old ones
abbrev pub IsKnown : Told → List Held → Held → Type 0
IsKnown told olds b = Holds told (b ∷ []) ⊎ IsIn b olds

-- bytes that a part of this height may have, and a node has some
pub record FitsOld (p : Profile) (k : ℕ) (bytes : List ℕ) : Type 0 where
  pub few : length bytes ≤ span p.chunk p.width k
  pub small : length bytes < 2 ^ 63
  pub some : 1 ≤ k → 1 ≤ length bytes

-- the old part of this height over these bytes
pub record IsOldPart (X : List ℕ → List ℕ) (p : Profile) (k : ℕ) (part : Part) (bytes : List ℕ) : Type 0 where
  pub same : part ≡ part_over X p.chunk p.width k bytes
  pub fits : FitsOld p k bytes

-- the old file has this part of this height over these bytes, or nothing
abbrev pub IsOld : (List ℕ → List ℕ) → Profile → ℕ → Option Part → List ℕ → Type 0
IsOld X p k None bytes = bytes ≡ []
IsOld X p k (Some part) bytes = IsOldPart X p k part bytes

-- its blocks
abbrev pub old_blocks : (List ℕ → List ℕ) → Profile → ℕ → Option Part → List ℕ → List Held
old_blocks X p k None bytes = []
old_blocks X p k (Some part) bytes = blocks_over X p.chunk p.width k bytes

-- consecutive groups of bytes: all but the last have this size, and the last no more
abbrev pub AreCut : ℕ → List (List ℕ) → Type 0
AreCut s [] = ⊤
AreCut s (g ∷ []) = length g ≤ s
AreCut s (g ∷ h ∷ gs) = (length g ≡ s) × AreCut s (h ∷ gs)

-- the old parts below a node whose parts have s bytes at most, over these groups; they have this height
pub record AreOld (X : List ℕ → List ℕ) (p : Profile) (s k : ℕ) (parts : List Part) (gs : List (List ℕ)) : Type 0 where
  pub same : parts ≡ map (part_over X p.chunk p.width k) gs
  pub fits : AllByRecursion (FitsOld p k) gs
  pub cut : AreCut s gs

-- their blocks
abbrev pub blocks_of_all : (List ℕ → List ℕ) → Profile → ℕ → List (List ℕ) → List Held
blocks_of_all X p k gs = flat_map (blocks_over X p.chunk p.width k) gs

-- the part is the one of this height over these bytes, and each of its blocks is held or an old one
pub record GivesPart (X : List ℕ → List ℕ) (p : Profile) (told : Told) (olds : List Held) (k : ℕ) (part : Part)
    (bytes : List ℕ) : Type 0 where
  pub same : part ≡ part_over X p.chunk p.width k bytes
  pub known : AllByRecursion (IsKnown told olds) (blocks_over X p.chunk p.width k bytes)

-- the same of the parts below a node
pub record GivesAll (X : List ℕ → List ℕ) (p : Profile) (told : Told) (olds : List Held) (k : ℕ) (parts : List Part)
    (gs : List (List ℕ)) : Type 0 where
  pub same : parts ≡ map (part_over X p.chunk p.width k) gs
  pub known : AllByRecursion (IsKnown told olds) (flat_map (blocks_over X p.chunk p.width k) gs)

-- a piece that is written within n bytes
abbrev pub LiesWithin : ℕ → ℕ → List ℕ → Type 0
LiesWithin size offset piece = 1 ≤ length piece → offset + length piece ≤ size

-- bytes that a part of this height may have, and a node has some
pub record HasSize (p : Profile) (k size : ℕ) : Type 0 where
  pub fits : size ≤ span p.chunk p.width k
  pub small : size < 2 ^ 63
  pub some : 1 ≤ k → 1 ≤ size

-- the old parts below a part of the new file of height k + 1, over these bytes: their blocks are old ones
pub record IsBelow (X : List ℕ → List ℕ) (p : Profile) (top k : ℕ) (olds : List Held) (parts : List Part)
    (bytes : List ℕ) : Type 0 where
  pub gs : List (List ℕ)
  pub are : AreOld X p (span p.chunk p.width k) (min top k) parts gs
  pub whole : joined gs ≡ bytes
  pub among : (b : Held) → IsIn b (blocks_of_all X p (min top k) gs) → IsIn b olds

-- a part of zeros of this height, whose blocks are held, where there is one
abbrev pub IsBlank : (List ℕ → List ℕ) → Profile → Told → ℕ → Option Part → Type 0
IsBlank X p told k None = ⊤
IsBlank X p told k (Some part) = GivesPart X p told [] k part (overlaid part.size [] zero [])

-- the first part of a lesser height of an old file over these bytes
pub record IsFrontPart (X : List ℕ → List ℕ) (p : Profile) (top k : ℕ) (part : Part) (bytes : List ℕ) : Type 0 where
  pub front : List ℕ
  pub part_is : IsOldPart X p k part front
  pub is_front : take (span p.chunk p.width k) bytes ≡ front
  pub among : (b : Held) → IsIn b (blocks_over X p.chunk p.width k front)
      → IsIn b (blocks_over X p.chunk p.width top bytes)

-- how many bytes a file of this length has after an edit: as many as are wanted, or else no fewer than a piece needs
abbrev pub size_after : ℕ → Option ℕ → ℕ → ℕ → ℕ
size_after old None offset more = max old (offset + more)
size_after old (Some size) offset more = size

-- the entry is that of the file of these bytes, and each block of its plan is held or an old one
pub record GivesFile (X : List ℕ → List ℕ) (p : Profile) (m : Meta) (told : Told) (olds : List Held) (entry : Entry)
    (bytes : List ℕ) : Type 0 where
  pub same : entry ≡ (file_plan X p m bytes).entry
  pub known : AllByRecursion (IsKnown told olds) (file_plan X p m bytes).blocks

-- over the old part's bytes, with whose blocks the store agrees before and after, the part of this height over the
-- changed bytes is made
abbrev pub MakesPart : (List ℕ → List ℕ) → Profile → ℕ → ℕ → PartEdit → List ℕ → Told → Told
    → Result Part StoreFault → Type 0
MakesPart X p top k target piece before now answer =
    (b : List ℕ) → IsOld X p (min top k) target.old b → Agrees before (old_blocks X p (min top k) target.old b)
    → Agrees now (old_blocks X p (min top k) target.old b)
    → IfOk answer (λ m. GivesPart X p now (old_blocks X p (min top k) target.old b) k m
    (overlaid target.size b target.offset piece))

-- where the store has stayed calm besides, a fault is that one of the old part's blocks is lost, or out of memory
abbrev pub LosesOfPart : (List ℕ → List ℕ) → Profile → ℕ → Option Part → Seen → Seen → Result Part StoreFault → Type 0
LosesOfPart X p k old before now answer =
    (b : List ℕ) → IsOld X p k old b → Agrees before.told (old_blocks X p k old b)
    → Agrees now.told (old_blocks X p k old b) → Stood before.faults now.faults → Stood before.clashes now.clashes
    → IfErr answer (IsLossOf now.told (old_blocks X p k old b))

-- the same of the parts below a node, whose parts have this height
abbrev pub MakesParts : (List ℕ → List ℕ) → Profile → ℕ → ℕ → List Part → PartEdit → List ℕ → Told → Told
    → Result (List Part) StoreFault → Type 0
MakesParts X p top k olds target piece before now answer =
    (gs : List (List ℕ)) → AreOld X p (span p.chunk p.width k) (min top k) olds gs
    → Agrees before (blocks_of_all X p (min top k) gs)
    → Agrees now (blocks_of_all X p (min top k) gs)
    → IfOk answer (λ parts. GivesAll X p now (blocks_of_all X p (min top k) gs) k parts
    (groups (span p.chunk p.width k) (overlaid target.size (joined gs) target.offset piece)))

abbrev pub LosesOfParts : (List ℕ → List ℕ) → Profile → ℕ → ℕ → List Part → Seen → Seen
    → Result (List Part) StoreFault → Type 0
LosesOfParts X p top k olds before now answer =
    (gs : List (List ℕ)) → AreOld X p (span p.chunk p.width k) (min top k) olds gs
    → Agrees before.told (blocks_of_all X p (min top k) gs) → Agrees now.told (blocks_of_all X p (min top k) gs)
    → Stood before.faults now.faults → Stood before.clashes now.clashes
    → IfErr answer (IsLossOf now.told (blocks_of_all X p (min top k) gs))

-- old parts of this height, whose bytes are the first of some bytes: as many as a part of another height has, or all
pub record IsFirstOf (X : List ℕ → List ℕ) (p : Profile) (high k : ℕ) (olds : List Held) (parts : List Part)
    (bytes : List ℕ) : Type 0 where
  pub gs : List (List ℕ)
  pub are : AreOld X p (span p.chunk p.width k) k parts gs
  pub same : take (span p.chunk p.width high) (joined gs) ≡ take (span p.chunk p.width high) bytes
  pub few : length (joined gs) ≤ length bytes
  pub among : (b : Held) → IsIn b (blocks_of_all X p k gs) → IsIn b olds

-- over the bytes of a file whose root, of height `top`, has these old parts below it, the parts of height k over the
-- changed bytes are made
abbrev pub MakesRoot : (List ℕ → List ℕ) → Profile → ℕ → ℕ → ℕ → List Part → PartEdit → List ℕ → Told → Told
    → Result (List Part) StoreFault → Type 0
MakesRoot X p top j k olds target piece before now answer =
    (gs : List (List ℕ)) → AreOld X p (span p.chunk p.width j) j olds gs
    → length (joined gs) ≤ span p.chunk p.width top
    → Agrees before (blocks_of_all X p j gs) → Agrees now (blocks_of_all X p j gs)
    → IfOk answer (λ parts. GivesAll X p now (blocks_of_all X p j gs) k parts
    (groups (span p.chunk p.width k) (overlaid target.size (joined gs) target.offset piece)))

-- where the store has stayed calm besides, a fault is that one of their blocks is lost, or out of memory
abbrev pub LosesOfRoot : (List ℕ → List ℕ) → Profile → ℕ → ℕ → List Part → Seen → Seen
    → Result (List Part) StoreFault → Type 0
LosesOfRoot X p top j olds before now answer =
    (gs : List (List ℕ)) → AreOld X p (span p.chunk p.width j) j olds gs
    → length (joined gs) ≤ span p.chunk p.width top
    → Agrees before.told (blocks_of_all X p j gs) → Agrees now.told (blocks_of_all X p j gs)
    → Stood before.faults now.faults → Stood before.clashes now.clashes
    → IfErr answer (IsLossOf now.told (blocks_of_all X p j gs))
