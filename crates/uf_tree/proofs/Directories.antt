-- Blocks of basic directories.
use Rattle.std.proofs.Common.{◌≡◌, ◌≢◌, ℕ, ◌^◌, ◌<◌, ◌≤◌, List, [], ◌∷◌, length, map, refl, ap, arith, subst, sym, ◌∙◌, ◌⊎◌, inl, inr, Ok, Err, Result, Bool, true, Some, None, Ordering, Less, Equal, Greater}
use Rattle.std.specs.Prelude.{IfOk, IsTrue, MatchResult, ◌&&◌}
use Rattle.std.specs.List.{AllByRecursion}
use Rattle.std.specs.Ordering.{is_lt, is_le}
use Rattle.std.proofs.lemmas.Bool.{le-ltb}
use Rattle.std.proofs.lemmas.Str.{IsUtf8-from_is_utf8}
use Rattle.uf_cid.specs.declared.bytes.Memory.{Memory}
use Rattle.uf_cid.specs.declared.bytes.StrictFault.{StrictFault}
use Rattle.uf_cid.specs.declared.bytes.StrictFault.TheVariants as strict
use Rattle.uf_dagpb.specs.declared.node.Link.{Link}
use Rattle.uf_dagpb.specs.declared.node.Node.{Node}
use Rattle.uf_dagpb.specs.Spelling.{node_bytes, are_sorted, AreLinks, IsLink, IsNode}
use Rattle.uf_message.specs.Spelling.{IsMessage}
use Rattle.uf_message.proofs.Again.{one_message}
use Rattle.uf_tree.specs.declared.meta.Meta.{Meta}
use Rattle.uf_tree.specs.declared.nodes.DirNode.{DirNode}
use Rattle.uf_tree.specs.declared.profile.Profile.{Profile}
use Rattle.uf_tree.specs.Codecs.{Reads, dir_dag, dir_node_block, dir_spelling, meta_in, pair_link}
use Rattle.uf_tree.specs.DirPlan.{weight}
use Rattle.uf_tree.specs.Metas.{is_meta}
use Rattle.uf_tree.specs.Names.{names_cmp}
use Rattle.uf_tree.specs.Nodes.{Named, dir_block, dir_message}
use Rattle.uf_tree.specs.Rising.{rises}
use Rattle.uf_tree.specs.Validity.{IsDirNode, IsDirectory, IsNamed}
use Rattle.uf_tree.proofs.MetaNumbers.{mode_fits, nanos_fit, seconds_fit}
use Rattle.uf_tree.proofs.Reading.{node_refused, node_read}
use Rattle.uf_tree.proofs.Rises.{rises-sorted}
use Rattle.uf_tree.proofs.ShardLaws.{names_total}
use Rattle.uf_tree.proofs.Sizes.{dir_length}
use Rattle.uf_tree.proofs.Twins.{both_true}

-- ---- written

pub dir_is : (r : Result (List ℕ) Memory) (m : Meta) (l links : List Named) (content slice : List ℕ) → links ≡ l → content ≡ dir_spelling m → slice ≡ content
    → IfOk r (λ b. b ≡ node_bytes (record { links = map pair_link links; content = Some slice })) → IfOk r (λ b. b ≡ dir_block m l)
unfolding dir_block
dir_is (Err e) m l links content slice a c s k = tt
dir_is (Ok b) m l links content slice a c s k =
    k ∙ ap (λ (x : List Named). node_bytes (record { links = map pair_link x; content = Some slice })) a
    ∙ ap (λ (x : List ℕ). node_bytes (record { links = map pair_link l; content = Some x })) (s ∙ c)

abbrev greatest : Profile
greatest = record { chunk = 1; width = 2; threshold = 1048576 }

dir_short : (m : Meta) (l : List Named) → IsDirectory l → weight l ≤ 1048576 → length (dir_block m l) ≤ 2097152
dir_short m l h light = dir_length greatest m l refl h.each (le-ltb 1048576 (weight l) light)

pub dir_small : (r : Result (List ℕ) Memory) (m : Meta) (l : List Named) → IsDirectory l → IfOk r (λ b. b ≡ dir_block m l) → weight l ≤ 1048576 → IfOk r (λ b. length b ≤ 2097152)
dir_small (Err e) m l h k light = tt
dir_small (Ok b) m l h k light = omega (arith, dir_short m l h light, ap length k)

-- ---- the node is one

named_link : (e : Named) → IsNamed e → IsLink (pair_link e)
named_link e h = record { cid = h.entry.cid; name = IsUtf8-from_is_utf8 e.0 (both_true _ _ h.name).1; tsize = h.entry.tsize }

named_links : (l : List Named) → AllByRecursion IsNamed l → AreLinks (map pair_link l)
named_links [] h = tt
named_links (e ∷ l) h = (named_link e h.0, named_links l h.1)

pub lt-le : (r : Ordering) → is_lt r ≡ true → is_le r ≡ true
lt-le Less e = refl
lt-le Equal e = refl
lt-le Greater e = e

rising_links : (l : List Named) → rises names_cmp l ≡ true → are_sorted (map pair_link l) ≡ true
rising_links [] h = refl
rising_links (a ∷ []) h = refl
rising_links (a ∷ b ∷ l) h =
    let parts = both_true (is_lt (names_cmp a.0 b.0)) (rises names_cmp (b ∷ l)) h in
    let again = rising_links (b ∷ l) parts.1 in
    ap (λ (x : Bool). x && are_sorted (map pair_link (b ∷ l))) (lt-le (names_cmp a.0 b.0) parts.0) ∙ again

pub dir_dag-node : (node : DirNode) → IsDirNode node → IsNode (dir_dag node)
dir_dag-node node h = record { links = named_links node.pairs h.pairs.each; sorted = rising_links node.pairs (rises-sorted names_total node.pairs ∙ h.pairs.sorted) }

-- ---- the message of the metadata

fits : (m : Meta) → IsTrue (is_meta m) → IsMessage (dir_message m)
fits m h = record { content = tt; filesize = tt; blocksizes = tt; hash_type = tt; fanout = tt; mode = mode_fits m h; seconds = seconds_fit m h; nanos = nanos_fit m h }

abbrev IsGood : Meta → Type 0
IsGood m = IsTrue (is_meta m)

-- ---- read

pub dir_refused : (bytes : List ℕ) (f : StrictFault) → (f ≡ strict.Memory) ⊎ ((n : Node) → IsNode n → bytes ≢ node_bytes n) → Reads IsDirNode dir_node_block bytes (Err f)
unfolding dir_block
dir_refused bytes f h = node_refused IsDirNode dir_dag dir_dag-node bytes f h

pub dir_read : (bytes : List ℕ) (node : Node) (r : Result DirNode StrictFault) → length bytes < 2 ^ 64 → IsNode node × (bytes ≡ node_bytes node) → Reads IsDirNode dir_dag node r → Reads IsDirNode dir_node_block bytes r
unfolding dir_block
dir_read bytes node r small h k = node_read IsDirNode dir_dag dir_dag-node bytes node small h.0 h.1 r k

-- ---- the parts of the node

some_is : (x y : List ℕ) → Some x ≡ Some y → x ≡ y
some_is x y e = cc

-- the content that a directory's node has
content_is : (node : Node) (content slice : List ℕ) (v : DirNode) → node.content ≡ Some content → slice ≡ content → node ≡ dir_dag v → slice ≡ dir_spelling v.meta
content_is node content slice v c s e = s ∙ some_is content (dir_spelling v.meta) (sym c ∙ ap (λ (n : Node). n.content) e)

pub bare_node : (node : Node) → node.content ≡ None → Reads IsDirNode dir_dag node (Err strict.NotCanonical)
bare_node node c = inr (λ v h e. by (dir_spelling v.meta) (sym c ∙ ap (λ (n : Node). n.content) e))
  where
    by : (x : List ℕ) → None ≡ Some x → ⊥
    by x e = cc

pub content_refused : (node : Node) (content slice : List ℕ) (f : StrictFault) → node.content ≡ Some content → slice ≡ content → Reads IsGood dir_spelling slice (Err f) → Reads IsDirNode dir_dag node (Err f)
content_refused node content slice f c s (inl m) = inl m
content_refused node content slice f c s (inr h) = inr (λ v k e. h v.meta k.meta (content_is node content slice v c s e))

pub links_refused : (node : Node) (links : List Link) (f : StrictFault) → links ≡ node.links → Reads (AllByRecursion IsNamed) (map pair_link) links (Err f) → Reads IsDirNode dir_dag node (Err f)
links_refused node links f s (inl m) = inl m
links_refused node links f s (inr h) = inr (λ v k e. h v.pairs k.pairs.each (s ∙ ap (λ (n : Node). n.links) e))

unlink : Link → Named
unlink l = (l.name, record { cid = l.cid; tsize = l.tsize })

unlinked : (l : List Named) → map unlink (map pair_link l) ≡ l
unfolding unlink
unlinked [] = refl
unlinked (e ∷ l) = ap (λ (x : List Named). e ∷ x) (unlinked l)

pub one_directory : (l m : List Named) → map pair_link l ≡ map pair_link m → l ≡ m
one_directory l m e = sym (unlinked l) ∙ ap (map unlink) e ∙ unlinked m

abbrev of_parts : List Named → Meta → DirNode
of_parts pairs meta = record { pairs = pairs; meta = meta }

pub dir_of_parts : (node : Node) (content slice : List ℕ) (links : List Link) (pairs : List Named) (meta : Meta) (r : Result DirNode StrictFault) → node.content ≡ Some content → slice ≡ content → links ≡ node.links
    → IsGood meta × (slice ≡ dir_spelling meta) → AllByRecursion IsNamed pairs × (links ≡ map pair_link pairs)
    → MatchResult r (λ v. (v ≡ of_parts pairs meta) × IsDirNode (of_parts pairs meta)) (λ f. (f ≡ strict.NotCanonical) × (IsDirNode (of_parts pairs meta) → ⊥)) → Reads IsDirNode dir_dag node r
dir_of_parts node content slice links pairs meta (Ok v) c s a h k whole =
    let spelt : node.content ≡ Some (dir_spelling meta) = c ∙ ap (λ (x : List ℕ). Some x) (sym s ∙ h.1) in
    let linked : node.links ≡ map pair_link pairs = sym a ∙ k.1 in
    let built : node ≡ dir_dag (of_parts pairs meta) = λ i. record { links = linked i; content = spelt i } in
    (subst IsDirNode (sym whole.0) whole.1, built ∙ ap dir_dag (sym whole.0))
dir_of_parts node content slice links pairs meta (Err f) c s a h k whole = inr (λ v j e. whole.1 (subst IsDirNode (same v j e) j))
  where
    same : (v : DirNode) → IsDirNode v → node ≡ dir_dag v → v ≡ of_parts pairs meta
    same v j e =
        let listed : v.pairs ≡ pairs = one_directory v.pairs pairs (sym (ap (λ (n : Node). n.links) e) ∙ sym a ∙ k.1) in
        let spelt : dir_spelling v.meta ≡ dir_spelling meta = sym (content_is node content slice v c s e) ∙ h.1 in
        let message : dir_message v.meta ≡ dir_message meta = one_message (dir_message v.meta) (dir_message meta) (fits v.meta j.meta) (fits meta h.0) spelt in
        let carried : v.meta ≡ meta = ap meta_in message in
        λ i. record { pairs = listed i; meta = carried i }

-- a node of DAG-PB is that of one directory
pub one_dir : (a b : DirNode) → IsDirNode a → IsDirNode b → dir_dag a ≡ dir_dag b → a ≡ b
one_dir a b h k e =
    let listed : a.pairs ≡ b.pairs = one_directory a.pairs b.pairs (ap (λ (n : Node). n.links) e) in
    let spelt : dir_spelling a.meta ≡ dir_spelling b.meta = some_is (dir_spelling a.meta) (dir_spelling b.meta) (ap (λ (n : Node). n.content) e) in
    let message : dir_message a.meta ≡ dir_message b.meta = one_message (dir_message a.meta) (dir_message b.meta) (fits a.meta h.meta) (fits b.meta k.meta) spelt in
    let carried : a.meta ≡ b.meta = ap meta_in message in
    λ i. record { pairs = listed i; meta = carried i }
