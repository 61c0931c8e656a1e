-- What an edit saves: blocks of the new file, and no others.
use Rattle.std.specs.Prelude.{◌≡◌, ◌+◌, ◌-◌, ◌≤◌, ℕ, List, [], ◌∷◌, length, min}
use Rattle.std.specs.declared.option.Option.{Option}
use Rattle.uf_cid.specs.Blocks.{Held}
use Rattle.uf_fileread.specs.Ranges.{IsFile}
use Rattle.uf_store.specs.Among.{SavesAmong}
use Rattle.uf_store.specs.Keeping.{Agrees, StaysAgreed}
use Rattle.uf_store.specs.Seen.{Seen}
use Rattle.uf_tree.specs.Cutting.{joined}
use Rattle.uf_tree.specs.FilePlan.{file_plan, groups, leaf_held}
use Rattle.uf_tree.specs.FileSub.{blocks_over}
use Rattle.uf_tree.specs.declared.meta.Meta.{Meta}
use Rattle.uf_tree.specs.declared.nodes.Entry.{Entry}
use Rattle.uf_tree.specs.declared.nodes.Part.{Part}
use Rattle.uf_tree.specs.declared.profile.Profile.{Profile}
use Rattle.uf_fileedit.specs.Changes.{AreOld, IsBlank, IsOld, blocks_of_all, old_blocks, overlaid}
use Rattle.uf_fileedit.specs.Layers.{OfOldPiece, room_at}
use Rattle.uf_fileedit.specs.Touches.{old_size}
use Rattle.uf_fileedit.specs.declared.changing.PartEdit.{PartEdit}
use Rattle.uf_fileedit.specs.declared.layout.Layer.{Layer}

-- over the bytes of an old piece nothing is saved but the piece that is made of it
abbrev pub SavesOfPiece : (List ℕ → List ℕ) → Option Part → ℕ → ℕ → List ℕ → Seen → Seen → Type 0
SavesOfPiece X old size offset piece before now = OfOldPiece X old before now (λ p b.
    SavesAmong X (leaf_held X (overlaid size b offset piece) ∷ []) before.told now.told)

module _ (X : List ℕ → List ℕ) (layer : Layer) where
  -- the blocks of the parts of the layer's height that are made of these bytes
  abbrev pub blocks_changed : PartEdit → List ℕ → List ℕ → List Held
  blocks_changed target b piece = blocks_of_all X layer.p layer.height
      (groups (room_at layer.p layer.height) (overlaid target.size b target.offset piece))

  -- over the old part's bytes, with whose blocks the store agrees before and after, nothing is saved but blocks of the
  -- part of this height that is made of it
  abbrev pub SavesOfPart : ℕ → PartEdit → List ℕ → Seen → Seen → Type 0
  SavesOfPart k target piece before now = IsBlank X layer.p before.told 0 layer.zeros
      → (b : List ℕ) → IsOld X layer.p (min layer.top k) target.old b
      → Agrees before.told (old_blocks X layer.p (min layer.top k) target.old b)
      → Agrees now.told (old_blocks X layer.p (min layer.top k) target.old b)
      → SavesAmong X (blocks_over X layer.p.chunk layer.p.width k (overlaid target.size b target.offset piece))
      before.told now.told

  -- the same of the parts below a node
  abbrev pub SavesOfParts : List Part → PartEdit → List ℕ → Seen → Seen → Type 0
  SavesOfParts olds target piece before now = IsBlank X layer.p before.told 0 layer.zeros
      → (gs : List (List ℕ)) → AreOld X layer.p (room_at layer.p layer.height) (min layer.top layer.height) olds gs
      → Agrees before.told (blocks_of_all X layer.p (min layer.top layer.height) gs)
      → Agrees now.told (blocks_of_all X layer.p (min layer.top layer.height) gs)
      → SavesAmong X (blocks_changed target (joined gs) piece) before.told now.told

  -- the same of those below a new root, made of old parts of height j
  abbrev SavesOfRow : ℕ → List Part → PartEdit → List ℕ → List (List ℕ) → Seen → Seen → Type 0
  SavesOfRow j olds target piece gs before now = AreOld X layer.p (room_at layer.p j) j olds gs
      → length (joined gs) ≤ room_at layer.p layer.top
      → Agrees before.told (blocks_of_all X layer.p j gs) → Agrees now.told (blocks_of_all X layer.p j gs)
      → SavesAmong X (blocks_changed target (joined gs) piece) before.told now.told

  -- where these are no higher than the layer
  abbrev pub SavesOfGrown : List Part → PartEdit → List ℕ → Seen → Seen → Type 0
  SavesOfGrown olds target piece before now = IsBlank X layer.p before.told 0 layer.zeros
      → (gs : List (List ℕ)) → SavesOfRow (min (layer.top - 1) layer.height) olds target piece gs before now

  -- where these stand below the old root, and the old part has as many of their bytes as there is room for
  abbrev pub SavesOfRoot : List Part → PartEdit → List ℕ → Seen → Seen → Type 0
  SavesOfRoot olds target piece before now = (gs : List (List ℕ))
      → old_size target.old ≡ min (length (joined gs)) (room_at layer.p (layer.height + 1))
      → SavesOfRow (layer.top - 1) olds target piece gs before now

-- whatever file this is the entry of: where the store agrees with its blocks before and after, nothing is saved but
-- blocks of the plan of the changed bytes
abbrev pub SavesOfEdited : (List ℕ → List ℕ) → Profile → Entry → (List ℕ → List ℕ) → Seen → Seen → Type 0
SavesOfEdited X p entry change before now =
    (m : Meta) (b : List ℕ) (height : ℕ) → IsFile X p m b entry.cid height
    → StaysAgreed before.told now.told (file_plan X p m b).blocks
    → SavesAmong X (file_plan X p m (change b)).blocks before.told now.told

-- the same of the plan with this metadata; the store need agree with the file's blocks before alone
abbrev pub SavesOfMeta : (List ℕ → List ℕ) → Entry → Meta → Seen → Seen → Type 0
SavesOfMeta X entry meta before now =
    (p : Profile) (m : Meta) (b : List ℕ) (height : ℕ) → IsFile X p m b entry.cid height
    → Agrees before.told (file_plan X p m b).blocks
    → SavesAmong X (file_plan X p meta b).blocks before.told now.told
