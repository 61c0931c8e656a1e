-- Nodes that may not stand where they are read.
use Rattle.std.proofs.Common.{◌≡◌, ◌≢◌, ℕ, zero, suc, ◌-◌, ◌<◌, ◌≤◌, List, sum, refl, ap, arith, sym, ◌∙◌, subst, Bool, false, Option, None, Some, inl, inr, Err, IsTrue}
use Rattle.std.specs.Prelude.{◌↔◌}
use Rattle.std.proofs.lemmas.Bool.{false≢true}
use Rattle.uf_cid.specs.declared.bytes.StrictFault.TheVariants.{NotCanonical, Memory as StrictMemory}
use Rattle.uf_cid.specs.declared.cid.Cid.{Cid}
use Rattle.uf_store.specs.declared.store.Role.TheVariants.{FileNode}
use Rattle.uf_store.specs.Faults.{ShowsBadBlock, StaysCalm}
use Rattle.uf_store.specs.Contents.{Told}
use Rattle.uf_store.specs.Keeping.{HoldsOne}
use Rattle.uf_store.specs.Seen.{Finds, Seen}
use Rattle.uf_tree.specs.declared.nodes.Part.{Part}
use Rattle.uf_tree.specs.Codecs.{Reads}
use Rattle.uf_tree.specs.FilePlan.{node_over}
use Rattle.uf_tree.specs.Nodes.{file_block}
use Rattle.uf_tree.specs.Metas.{none}
use Rattle.uf_tree.specs.declared.meta.Meta.{Meta}
use Rattle.uf_tree.specs.Roles.{Below, CarriesAt, IsCanonicalFileNode, WithSome}
use Rattle.uf_tree.specs.Validity.{IsFileNode}
use Rattle.uf_fileread.specs.Bad.{IsBadBelow, place_of}
use Rattle.uf_fileread.specs.Parts.{AreParts, parts_block}
use Rattle.uf_fileread.specs.declared.node_parts.NodeParts.{NodeParts}
use Rattle.uf_fileread.specs.Sending.{CarriesHere, MayStand}
use Rattle.uf_fileread.proofs.Bad.{bad-here}
use Rattle.uf_fileread.proofs.Nodes.{node-parts, same_parts, zipped}

-- where too many nodes are above, no node may stand
pub high : (rows : ℕ) (declared : Option ℕ) (bytes : List ℕ) → rows ≤ 0 → Reads (MayStand rows declared) parts_block bytes (Err NotCanonical)
high rows declared bytes low = inr (λ v h e. let some : 1 ≤ rows = h.some in absurd (omega arith))

-- where another size was declared, the node that is read may not stand
pub undeclared : (rows : ℕ) (declared : Option ℕ) (bytes : List ℕ) (parts : NodeParts) (slice : List Part) (size : ℕ) (b : Bool) → AreParts parts × (bytes ≡ parts_block parts) → slice ≡ parts.parts → size ≡ sum (node_over slice).sizes
    → IsTrue b ↔ WithSome declared (λ n. size ≡ n) → b ≡ false → Reads (MayStand rows declared) parts_block bytes (Err NotCanonical)
undeclared rows declared bytes parts slice size b read same sized iff fails =
    inr (λ v h e. false≢true (sym fails ∙ iff.1 (subst (λ s. WithSome declared (λ n. s ≡ n)) (sym (sized ∙ ap (λ (l : List Part). sum (node_over l).sizes) (same ∙ ap (λ (n : NodeParts). n.parts) (same_parts parts v read.0 h.valid (sym read.1 ∙ e))))) h.size)))

-- where other metadata may be carried than the node that is read does, it may not stand
pub uncarried : (rows : ℕ) (declared : Option ℕ) (bytes : List ℕ) (parts : NodeParts) (b : Bool) → AreParts parts × (bytes ≡ parts_block parts) → IsTrue b ↔ CarriesHere rows parts.meta → b ≡ false
    → Reads (MayStand rows declared) parts_block bytes (Err NotCanonical)
uncarried rows declared bytes parts b read iff fails =
    inr (λ v h e. false≢true (sym fails ∙ iff.1 (subst (CarriesHere rows) (sym (ap (λ (n : NodeParts). n.meta) (same_parts parts v read.0 h.valid (sym read.1 ∙ e)))) h.carries)))

-- below the root no node carries metadata
carries-below : (above declared : ℕ) (m : Meta) → 1 ≤ above → CarriesAt (Below above declared 0) m → m ≡ none
carries-below zero declared m some h = absurd (omega arith)
carries-below (suc above) declared m some h = h

-- a block that is that of no node that may stand there isn't canonical there
not_canonical : (rows : ℕ) (declared : Option ℕ) (bytes : List ℕ) → (declared ≡ None → rows ≡ 22) → ((parts : NodeParts) → MayStand rows declared parts → bytes ≢ parts_block parts)
    → IsCanonicalFileNode None (place_of (22 - rows) declared) bytes → ⊥
not_canonical rows None bytes root refuses canonical =
    let same = node-parts canonical.node canonical.valid in
    let all : rows ≡ 22 = root refl in
    refuses (record { parts = zipped canonical.node.parts canonical.node.sizes; meta = canonical.node.meta }) (record { valid = subst IsFileNode (sym same) canonical.valid; some = omega arith; carries = λ lt. absurd (omega (arith, all, lt)); size = tt })
    (canonical.is ∙ ap file_block (sym same))
not_canonical rows (Some n) bytes root refuses canonical =
    let same = node-parts canonical.node canonical.valid in
    let few : 22 - rows < 22 = canonical.few in
    refuses (record { parts = zipped canonical.node.parts canonical.node.sizes; meta = canonical.node.meta })
    (record { valid = subst IsFileNode (sym same) canonical.valid; some = omega arith; carries = λ lt. carries-below (22 - rows) n canonical.node.meta (omega arith) canonical.carries; size = ap (λ m. sum m.sizes) same ∙ canonical.declared })
    (canonical.is ∙ ap file_block (sym same))

pub bad_node : (hash : List ℕ → List ℕ) (rows : ℕ) (declared : Option ℕ) (cid : Cid) (lent : List ℕ) (before now : Seen) → (declared ≡ None → rows ≡ 22) → Finds hash cid before now → StaysCalm before now → lent ≡ now.lent
    → Reads (MayStand rows declared) parts_block lent (Err NotCanonical) → ShowsBadBlock hash (IsBadBelow before.told (22 - rows) declared cid) cid FileNode before now
bad_node hash rows declared cid lent before now root found calm same read = record {
  rose = found.counted.finds.rose refl;
  digest = found.digest;
  is_held = subst (λ (t : Told). HoldsOne t cid now.lent) (sym found.same_told) found.is_held;
  bad = bad-here before.told (22 - rows) declared cid FileNode now.lent found.is_held (not_canonical rows declared now.lent root (refused read));
  calm = calm;
}
  where
    differ : NotCanonical ≡ StrictMemory → ⊥
    differ e = cc

    refused : Reads (MayStand rows declared) parts_block lent (Err NotCanonical) → (parts : NodeParts) → MayStand rows declared parts → now.lent ≢ parts_block parts
    refused (inl e) = absurd (differ e)
    refused (inr h) = λ parts stands e. h parts stands (same ∙ e)
