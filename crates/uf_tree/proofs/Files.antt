-- Blocks of files' nodes.
use Rattle.std.proofs.Common.{◌≡◌, ◌≢◌, ℕ, ◌+◌, ◌^◌, ◌<◌, List, [], ◌∷◌, length, sum, refl, ap, arith, subst, sym, ◌∙◌, ◌⊎◌, inl, inr, Ok, Err, Result, Bool, true, false, Some, IsTrue}
use Rattle.std.specs.Prelude.{◌↔◌, ◌&&◌, MatchResult}
use Rattle.std.specs.List.{AllByRecursion}
use Rattle.std.specs.Cmp.Lexicographic.{slice_cmp}
use Rattle.std.specs.Ordering.{is_le, nat_cmp}
use Rattle.std.proofs.lemmas.Bool.{false≢true}
use Rattle.std.proofs.lemmas.List.Sums.{sum_by-cons}
use Rattle.std.proofs.lemmas.Str.{IsUtf8-nil}
use Rattle.std.specs.Str.{IsUtf8}
use Rattle.uf_cid.specs.declared.bytes.StrictFault.{StrictFault}
use Rattle.uf_cid.specs.declared.bytes.StrictFault.TheVariants as strict
use Rattle.uf_dagpb.specs.declared.node.Link.{Link}
use Rattle.uf_dagpb.specs.declared.node.Node.{Node}
use Rattle.uf_dagpb.specs.Spelling.{node_bytes, are_sorted, AreLinks, IsLink, IsNode}
use Rattle.uf_message.specs.Spelling.{message_bytes, IsMessage}
use Rattle.uf_message.specs.Strict.{GivesValue}
use Rattle.uf_message.specs.declared.message.Message.{Message}
use Rattle.uf_message.proofs.Again.{one_message}
use Rattle.uf_tree.specs.declared.meta.Meta.{Meta}
use Rattle.uf_tree.specs.declared.nodes.FileNode.{FileNode}
use Rattle.uf_tree.specs.Codecs.{FitSizes, IsContent, Reads, content_spelling, file_dag, file_spelling, meta_in}
use Rattle.uf_tree.specs.Metas.{is_meta}
use Rattle.uf_tree.specs.Nodes.{file_block, file_message}
use Rattle.uf_tree.specs.Validity.{IsFileNode, IsPartLink}
use Rattle.uf_tree.proofs.MetaNumbers.{mode_fits, nanos_fit, seconds_fit}
use Rattle.uf_tree.proofs.Reading.{node_refused, node_read}

-- ---- the message of the sizes

each_fits : (sizes : List ℕ) → sum sizes < 2 ^ 63 → AllByRecursion (λ n. n < 2 ^ 64) sizes
each_fits [] h = tt
each_fits (n ∷ sizes) h = let e : sum (n ∷ sizes) ≡ n + sum sizes = sum_by-cons (λ (x : ℕ). x) n sizes in (omega arith, each_fits sizes (omega arith))

abbrev message_of : List ℕ × Meta → Message
message_of content = file_message content.1 content.0

-- the sizes and the metadata of a node can be spelled
spelled : (m : Meta) (sizes : List ℕ) → IsTrue (is_meta m) → FitSizes sizes → IsMessage (file_message m sizes)
spelled m sizes good small = record {
  content = tt;
  filesize = omega arith;
  blocksizes = each_fits sizes small;
  hash_type = tt;
  fanout = tt;
  mode = mode_fits m good;
  seconds = seconds_fit m good;
  nanos = nanos_fit m good;
}

pub content_refused : (content : List ℕ) (f : StrictFault) → ((m : Message) → IsMessage m → content ≡ message_bytes m → GivesValue (Err f) m) → Reads IsContent content_spelling content (Err f)
content_refused content strict.Memory only = inl refl
content_refused content strict.NotCanonical only = inr (λ v h e. only (message_of v) h.1 e)

abbrev pub IsFileMessage : Message → Type 0
IsFileMessage m = (m ≡ file_message (meta_in m) m.blocksizes) × FitSizes m.blocksizes

pub no_content : (content : List ℕ) (m : Message) (b : Bool) → ((n : Message) → IsMessage n → content ≡ message_bytes n → GivesValue (Ok m) n) → IsTrue b ↔ IsFileMessage m → b ≡ false
    → Reads IsContent content_spelling content (Err strict.NotCanonical)
no_content content m b only iff fails = inr (λ v h e. by v h (only (message_of v) h.1 e))
  where
    by : (v : List ℕ × Meta) → IsContent v → m ≡ message_of v → ⊥
    by v h e =
        let sizes : m.blocksizes ≡ v.0 = ap (λ (n : Message). n.blocksizes) e in
        let meta : meta_in m ≡ v.1 = ap meta_in e in
        absurd (false≢true (sym fails ∙ iff.1 (e ∙ ap (λ (x : List ℕ). file_message v.1 x) (sym sizes) ∙ ap (λ (x : Meta). file_message x m.blocksizes) (sym meta), subst FitSizes (sym sizes) h.0)))

pub the_content : (content : List ℕ) (m : Message) (b : Bool) (meta : Meta) → IsMessage m × (content ≡ message_bytes m) → IsTrue b ↔ IsFileMessage m → meta ≡ meta_in m → b ≡ true
    → Reads IsContent content_spelling content (Ok (m.blocksizes, meta))
the_content content m b meta found iff its holds =
    let own = iff.0 holds in
    let whole : m ≡ message_of (m.blocksizes, meta) = own.0 ∙ ap (λ (x : Meta). file_message x m.blocksizes) (sym its) in
    ((own.1, subst IsMessage whole found.0), found.1 ∙ ap message_bytes whole)

-- ---- the node is one

part_link : (l : Link) → IsPartLink l → IsLink l
part_link l h = record { cid = h.cid; name = subst IsUtf8 (sym h.name) IsUtf8-nil; tsize = h.tsize }

part_links : (ls : List Link) → AllByRecursion IsPartLink ls → AreLinks ls
part_links [] h = tt
part_links (l ∷ ls) h = (part_link l h.0, part_links ls h.1)

unnamed_sorted : (ls : List Link) → AllByRecursion IsPartLink ls → are_sorted ls ≡ true
unnamed_sorted [] h = refl
unnamed_sorted (a ∷ []) h = refl
unnamed_sorted (a ∷ b ∷ ls) h =
    let again = unnamed_sorted (b ∷ ls) h.1 in
    let both : is_le (slice_cmp nat_cmp a.name b.name) ≡ true = ap (λ (x : List ℕ). is_le (slice_cmp nat_cmp x b.name)) h.0.name ∙ ap (λ (x : List ℕ). is_le (slice_cmp nat_cmp [] x)) h.1.0.name in
    ap (λ (x : Bool). x && are_sorted (b ∷ ls)) both ∙ again

pub file_dag-node : (node : FileNode) → IsFileNode node → IsNode (file_dag node)
file_dag-node node h = record { links = part_links node.parts h.each; sorted = unnamed_sorted node.parts h.each }

some_is : (x y : List ℕ) → Some x ≡ Some y → x ≡ y
some_is x y e = cc

-- a node of DAG-PB is that of one file's node
pub one_file : (a b : FileNode) → IsFileNode a → IsFileNode b → file_dag a ≡ file_dag b → a ≡ b
one_file a b h k e =
    let links : a.parts ≡ b.parts = ap (λ (n : Node). n.links) e in
    let spelt : file_spelling a.meta a.sizes ≡ file_spelling b.meta b.sizes = some_is (file_spelling a.meta a.sizes) (file_spelling b.meta b.sizes) (ap (λ (n : Node). n.content) e) in
    let message : file_message a.meta a.sizes ≡ file_message b.meta b.sizes =
    one_message (file_message a.meta a.sizes) (file_message b.meta b.sizes) (spelled a.meta a.sizes h.meta h.total) (spelled b.meta b.sizes k.meta k.total) spelt in
    let all : a.sizes ≡ b.sizes = ap (λ (m : Message). m.blocksizes) message in
    let carried : a.meta ≡ b.meta = ap meta_in message in
    λ i. record { parts = links i; sizes = all i; meta = carried i }

-- ---- read

pub file_refused : (bytes : List ℕ) (f : StrictFault) → (f ≡ strict.Memory) ⊎ ((n : Node) → IsNode n → bytes ≢ node_bytes n) → Reads IsFileNode file_block bytes (Err f)
unfolding file_block
file_refused bytes f h = node_refused IsFileNode file_dag file_dag-node bytes f h

pub file_read : (bytes : List ℕ) (node : Node) (r : Result FileNode StrictFault) → length bytes < 2 ^ 64 → IsNode node × (bytes ≡ node_bytes node) → Reads IsFileNode file_dag node r → Reads IsFileNode file_block bytes r
unfolding file_block
file_read bytes node r small h k = node_read IsFileNode file_dag file_dag-node bytes node small h.0 h.1 r k

abbrev of_parts : Node → List ℕ → Meta → FileNode
of_parts node sizes meta = record { parts = node.links; sizes = sizes; meta = meta }

pub file_of_parts : (node : Node) (content slice sizes : List ℕ) (meta : Meta) (r : Result FileNode StrictFault) → node.content ≡ Some content → slice ≡ content
    → IsContent (sizes, meta) × (slice ≡ content_spelling (sizes, meta))
    → MatchResult r (λ v. (v ≡ of_parts node sizes meta) × IsFileNode (of_parts node sizes meta)) (λ f. (f ≡ strict.NotCanonical) × (IsFileNode (of_parts node sizes meta) → ⊥))
    → Reads IsFileNode file_dag node r
file_of_parts node content slice sizes meta (Ok v) c s h k =
    let whole : node.content ≡ Some (file_spelling meta sizes) = c ∙ ap (λ (x : List ℕ). Some x) (sym s ∙ h.1) in
    let built : node ≡ file_dag (of_parts node sizes meta) = λ i. record { links = node.links; content = whole i } in
    (subst IsFileNode (sym k.0) k.1, built ∙ ap file_dag (sym k.0))
file_of_parts node content slice sizes meta (Err f) c s h k = inr (λ v j e. k.1 (subst IsFileNode (same v j e) j))
  where
    same : (v : FileNode) → IsFileNode v → node ≡ file_dag v → v ≡ of_parts node sizes meta
    same v j e =
        let links : v.parts ≡ node.links = sym (ap (λ (n : Node). n.links) e) in
        let spelt : file_spelling v.meta v.sizes ≡ file_spelling meta sizes =
        (let some : Some (file_spelling v.meta v.sizes) ≡ Some content = sym (ap (λ (n : Node). n.content) e) ∙ c in let one : file_spelling v.meta v.sizes ≡ content = cc in one) ∙ sym s ∙ h.1 in
        let message : file_message v.meta v.sizes ≡ file_message meta sizes =
        one_message (file_message v.meta v.sizes) (file_message meta sizes) (spelled v.meta v.sizes j.meta j.total) h.0.1 spelt in
        let all : v.sizes ≡ sizes = ap (λ (m : Message). m.blocksizes) message in
        let carried : v.meta ≡ meta = ap meta_in message in
        λ i. record { parts = links i; sizes = all i; meta = carried i }

pub file_unread : (node : Node) (content slice : List ℕ) (f : StrictFault) → node.content ≡ Some content → slice ≡ content → Reads IsContent content_spelling slice (Err f) → Reads IsFileNode file_dag node (Err f)
file_unread node content slice f c s (inl m) = inl m
file_unread node content slice f c s (inr h) =
    inr (λ v j e. h (v.sizes, v.meta) (j.total, spelled v.meta v.sizes j.meta j.total) (s ∙ some_is content (file_spelling v.meta v.sizes) (sym c ∙ ap (λ (n : Node). n.content) e)))
