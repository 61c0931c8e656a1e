-- Where the old parts stand in a file, and what is bad there.
use Rattle.std.proofs.Common.{◌≡◌, ◌≢◌, ℕ, zero, suc, ◌+◌, ◌-◌, ◌*◌, ◌<◌, ◌≤◌, List, [], ◌∷◌, ◌++◌, length, sum, map, replicate, drop, get_or, min, refl, ap, arith, sym, ◌∙◌, subst, length-append, mul_assoc, add-mul, Bool, true, false, cond, Some, ◌⊎◌, inl, inr, IsTrue}
use Rattle.std.specs.Prelude.{◌↔◌, ◌&&◌, ◌==◌, nat_lt}
use Rattle.std.specs.List.{AllByRecursion, Contains}
use Rattle.std.proofs.Math.Nat.{mul-le-mul_right}
use Rattle.std.proofs.lemmas.Bool.{cases_lt}
use Rattle.std.proofs.lemmas.Bool.Decides.{nat_tests}
use Rattle.std.proofs.lemmas.List.{length-replicate}
use Rattle.std.proofs.lemmas.List.Sums.{sum_by-cons}
use Rattle.uf_cid.specs.declared.cid.Cid.{Cid}
use Rattle.uf_cid.specs.declared.cid.Codec.{Codec}
use Rattle.uf_cid.specs.declared.cid.Codec.TheVariants.{Raw, DagPb}
use Rattle.uf_dagpb.specs.declared.node.Link.{Link}
use Rattle.uf_fileread.specs.Parts.{AreParts, parts_block}
use Rattle.uf_fileread.specs.declared.node_parts.NodeParts.{NodeParts}
use Rattle.uf_fileread.proofs.Nodes.{node-parts, same_parts, zipped}
use Rattle.uf_store.specs.Contents.{Told}
use Rattle.uf_store.specs.Keeping.{KeepsGood}
use Rattle.uf_tree.specs.declared.nodes.FileNode.{FileNode}
use Rattle.uf_tree.specs.declared.nodes.Part.{Part}
use Rattle.uf_tree.specs.declared.profile.Profile.{Profile}
use Rattle.uf_tree.specs.Cutting.{joined}
use Rattle.uf_tree.specs.FilePlan.{groups, node_over, root_node}
use Rattle.uf_tree.specs.FileSub.{IsFileHeight, IsHeight, lowest, span}
use Rattle.uf_tree.specs.Nodes.{file_block}
use Rattle.uf_tree.specs.Profiles.{is_profile}
use Rattle.uf_tree.specs.Metas.{is_bare, is_meta}
use Rattle.uf_tree.specs.declared.meta.Meta.{Meta}
use Rattle.uf_tree.specs.Roles.{Below, IsCanonicalFileNode, IsSpanned, Root, part_codec, part_sizes}
use Rattle.uf_tree.specs.Validity.{IsFileNode}
use Rattle.uf_tree.proofs.Behind.{split-short}
use Rattle.uf_tree.proofs.Groups.{joined-split}
use Rattle.uf_tree.proofs.Sub.{span-pos}
use Rattle.uf_tree.proofs.Told.{kept}
use Rattle.uf_fileedit.specs.Bad.{IsLinked, IsUnder, way_end, way_size}
use Rattle.uf_fileedit.specs.Changes.{AreCut}
use Rattle.uf_fileedit.specs.Planned.{IsLaidOut, IsPlannedNode, IsSize, are_planned, bytes_over, is_of_height, leaf_alone, single_root}
use Rattle.uf_fileedit.specs.Roots.{IsRootIn}
use Rattle.uf_fileedit.specs.Ways.{HasPlaceBelow, Stands}
use Rattle.uf_fileedit.proofs.Numbers.{span-rises}
use Rattle.uf_fileedit.proofs.Old.{groups-cut, groups-some}
use Rattle.uf_tree.proofs.Rows.{file-height-unique, height-unique, lowest-bare, lowest-carried, lowest-one}

-- a block that is held with its digest stays
pub under-kept : (hash : List ℕ → List ℕ) (a b : Told) (cid : Cid) (bytes : List ℕ) → KeepsGood hash a b → IsUnder hash a cid bytes → IsUnder hash b cid bytes
under-kept hash a b cid bytes keeps is = record { digest = is.digest; is_held = keeps.stays cid bytes is.is_held is.digest }

-- ---- parts in numbers

some_test : (n : ℕ) → nat_lt 0 n ≡ true → 1 ≤ n
some_test n h = grind (arith, nat_tests)

some_true : (n : ℕ) → 1 ≤ n → nat_lt 0 n ≡ true
some_true n h = grind (arith, nat_tests)

same_test : (a b : ℕ) → (a == b) ≡ true → a ≡ b
same_test a b h = grind (arith, nat_tests)

same_true : (a b : ℕ) → a ≡ b → (a == b) ≡ true
same_true a b h = grind (arith, nat_tests)

each_true : (a b c d : Bool) → (a && b && c && d) ≡ true → (a ≡ true) × (b ≡ true) × (c ≡ true) × (d ≡ true)
each_true true true true true h = (refl, refl, refl, refl)
each_true true true true false h = absurd (let no : false ≡ true = h in cc)
each_true true true false d h = absurd (let no : false ≡ true = h in cc)
each_true true false c d h = absurd (let no : false ≡ true = h in cc)
each_true false b c d h = absurd (let no : false ≡ true = h in cc)

all_true : (a b c d : Bool) → a ≡ true → b ≡ true → c ≡ true → d ≡ true → (a && b && c && d) ≡ true
all_true a b c d p q r s = ap (λ x. x && b && c && d) p ∙ ap (λ x. true && x && c && d) q ∙ ap (λ x. true && true && x && d) r ∙ s

-- the first of some planned parts, and those behind it
record First (s k n : ℕ) (m : Part) (ms : List Part) : Type 0 where
  some : 1 ≤ m.size
  size : m.size ≡ min n s
  codec : is_of_height k m.entry.cid.codec ≡ true
  behind : are_planned s k (n - m.size) ms ≡ true

first_of : (s k n : ℕ) (m : Part) (ms : List Part) → are_planned s k n (m ∷ ms) ≡ true → First s k n m ms
first_of s k n m ms h =
    let e = each_true (nat_lt 0 m.size) (m.size == min n s) (is_of_height k m.entry.cid.codec) (are_planned s k (n - m.size) ms) h in
    record { some = some_test m.size e.0; size = same_test m.size (min n s) e.1; codec = e.2; behind = e.3 }

cut_first : (s : ℕ) (g : List ℕ) (gs : List (List ℕ)) → AreCut s (g ∷ gs) → length g ≡ min (length (g ++ joined gs)) s
cut_first s g [] h = omega (arith, length-append g [])
cut_first s g (x ∷ gs) h = omega (arith, length-append g (joined (x ∷ gs)), h.0)

cut_behind : (s : ℕ) (g : List ℕ) (gs : List (List ℕ)) → AreCut s (g ∷ gs) → AreCut s gs
cut_behind s g [] h = tt
cut_behind s g (x ∷ gs) h = h.1

abbrev sizes : List Part → List ℕ
sizes ms = map (λ (m : Part). m.size) ms

abbrev lengths : List (List ℕ) → List ℕ
lengths gs = map (λ (g : List ℕ). length g) gs

abbrev AreHigh : ℕ → List Part → Type 0
AreHigh k ms = AllByRecursion (λ (m : Part). is_of_height k m.entry.cid.codec ≡ true) ms

-- planned parts have the sizes of groups
sizes-are : (s k : ℕ) (gs : List (List ℕ)) (ms : List Part) → AreCut s gs → AllByRecursion (λ (g : List ℕ). 1 ≤ length g) gs → are_planned s k (length (joined gs)) ms ≡ true → sizes ms ≡ lengths gs
sizes-are s k [] [] cut some h = refl
sizes-are s k [] (m ∷ ms) cut some h = let f = first_of s k 0 m ms h in absurd (let a : 1 ≤ m.size = f.some in let b : m.size ≡ min 0 s = f.size in omega arith)
sizes-are s k (g ∷ gs) [] cut some h = absurd (let e : length (g ++ joined gs) ≡ 0 = same_test (length (g ++ joined gs)) 0 h in omega (arith, length-append g (joined gs), some.0))
sizes-are s k (g ∷ gs) (m ∷ ms) cut some h =
    let f = first_of s k (length (g ++ joined gs)) m ms h in
    let size : m.size ≡ length g = f.size ∙ sym (cut_first s g gs cut) in
    let left : length (g ++ joined gs) - m.size ≡ length (joined gs) = omega (arith, length-append g (joined gs)) in
    let rest = sizes-are s k gs ms (cut_behind s g gs cut) some.1 (subst (λ n. are_planned s k n ms ≡ true) left f.behind) in
    λ i. size i ∷ rest i

-- parts with the sizes of groups are planned
are-sized : (s k : ℕ) (gs : List (List ℕ)) (ms : List Part) → AreCut s gs → AllByRecursion (λ (g : List ℕ). 1 ≤ length g) gs → sizes ms ≡ lengths gs → AreHigh k ms → are_planned s k (length (joined gs)) ms ≡ true
are-sized s k [] [] cut some e high = refl
are-sized s k [] (m ∷ ms) cut some e high = absurd (let n : length (sizes (m ∷ ms)) ≡ 0 = ap length e in omega arith)
are-sized s k (g ∷ gs) [] cut some e high = absurd (let n : 0 ≡ length (lengths (g ∷ gs)) = ap length e in omega arith)
are-sized s k (g ∷ gs) (m ∷ ms) cut some e high =
    let size : m.size ≡ length g = ap (λ l. get_or l 0 0) e in
    let rest : sizes ms ≡ lengths gs = ap (drop 1) e in
    let left : length (g ++ joined gs) - m.size ≡ length (joined gs) = omega (arith, length-append g (joined gs)) in
    all_true (nat_lt 0 m.size) (m.size == min (length (g ++ joined gs)) s) (is_of_height k m.entry.cid.codec) (are_planned s k (length (g ++ joined gs) - m.size) ms)
    (some_true m.size (omega (arith, some.0))) (same_true m.size (min (length (g ++ joined gs)) s) (size ∙ cut_first s g gs cut)) high.0
    (ap (λ n. are_planned s k n ms) left ∙ are-sized s k gs ms (cut_behind s g gs cut) some.1 rest high.1)

are-high : (s k n : ℕ) (ms : List Part) → are_planned s k n ms ≡ true → AreHigh k ms
are-high s k n [] h = tt
are-high s k n (m ∷ ms) h = let f = first_of s k n m ms h in (f.codec, are-high s k (n - m.size) ms f.behind)

planned-total : (s k n : ℕ) (ms : List Part) → are_planned s k n ms ≡ true → sum (sizes ms) ≡ n
planned-total s k n [] h = sym (same_test n 0 h)
planned-total s k n (m ∷ ms) h =
    let f = first_of s k n m ms h in
    let size : m.size ≡ min n s = f.size in
    let rest : sum (sizes ms) ≡ n - m.size = planned-total s k (n - m.size) ms f.behind in
    sum_by-cons (λ (x : ℕ). x) m.size (sizes ms) ∙ (let e : m.size + sum (sizes ms) ≡ n = omega arith in e)

-- one of the planned parts
record Child (s k n i : ℕ) (m : Part) : Type 0 where
  some : 1 ≤ m.size
  size : m.size ≡ min (n - i * s) s
  codec : is_of_height k m.entry.cid.codec ≡ true

one_more : (i s : ℕ) → suc i * s ≡ s + i * s
one_more i s = omega arith

child-at : (s k n : ℕ) (ms : List Part) (d : Part) → are_planned s k n ms ≡ true → (i : ℕ) → i < length ms → Child s k n i (get_or ms i d)
child-at s k n [] d h i low = absurd (omega arith)
child-at s k n (m ∷ ms) d h zero low =
    let f = first_of s k n m ms h in
    record { some = f.some; size = f.size ∙ (let e : min n s ≡ min (n - 0 * s) s = omega arith in e); codec = f.codec }
child-at s k n (m ∷ ms) d h (suc i) low =
    let f = first_of s k n m ms h in
    let c = child-at s k (n - m.size) ms d f.behind i (omega arith) in
    let size : m.size ≡ min n s = f.size in
    let more = one_more i s in
    record { some = c.some; size = c.size ∙ (let e : min ((n - m.size) - i * s) s ≡ min (n - suc i * s) s = omega arith in e); codec = c.codec }

-- ---- codecs

codec_of : (k : ℕ) (c : Codec) → is_of_height k c ≡ true → c ≡ part_codec k
codec_of zero Raw h = refl
codec_of zero DagPb h = absurd (let no : false ≡ true = h in cc)
codec_of (suc k) Raw h = absurd (let no : false ≡ true = h in cc)
codec_of (suc k) DagPb h = refl

codec_at : (k : ℕ) (c : Codec) → c ≡ part_codec k → is_of_height k c ≡ true
codec_at zero c e = ap (is_of_height zero) e
codec_at (suc k) c e = ap (is_of_height (suc k)) e

abbrev AreCoded : ℕ → List Link → Type 0
AreCoded k links = AllByRecursion (λ (l : Link). l.cid.codec ≡ part_codec k) links

coded : (k : ℕ) (ms : List Part) → AreHigh k ms → AreCoded k (node_over ms).parts
coded k [] h = tt
coded k (m ∷ ms) h = (codec_of k m.entry.cid.codec h.0, coded k ms h.1)

high_coded : (k : ℕ) (ms : List Part) → AreCoded k (node_over ms).parts → AreHigh k ms
high_coded k [] h = tt
high_coded k (m ∷ ms) h = (codec_at k m.entry.cid.codec h.0, high_coded k ms h.1)

-- ---- nodes at their places

module _ (p : Profile) (ok : IsTrue (is_profile p)) where
  wide : 1 ≤ p.width
  wide = let two : 2 ≤ p.width = (kept p ok).two in omega arith

  pos : (k : ℕ) → 1 ≤ span p.chunk p.width k
  pos k = span-pos p.chunk p.width k (kept p ok).some wide

  abbrev zeros : ℕ → ℕ → List (List ℕ)
  zeros k n = groups (span p.chunk p.width k) (replicate n 0)

  joined-zeros : (k n : ℕ) → length (joined (zeros k n)) ≡ n
  joined-zeros k n = ap length (joined-split (span p.chunk p.width k) (span p.chunk p.width k) (replicate n 0)) ∙ length-replicate {A = ℕ} n 0

  zeros-some : (k n : ℕ) → 1 ≤ n → AllByRecursion (λ (g : List ℕ). 1 ≤ length g) (zeros k n)
  zeros-some k n some = groups-some (span p.chunk p.width k) (replicate n 0) (pos k) (omega (arith, length-replicate {A = ℕ} n 0))

  as-file : (m : Meta) (whole rows : ℕ) → 1 ≤ rows → IsHeight p.chunk p.width whole rows → IsFileHeight p.chunk p.width m whole rows
  as-file m whole rows some h = record { fits = h.fits; enough = omega (arith, lowest-one m); least = λ j low less. h.least j less }

  -- what is planned is canonical
  planned-sized : (k n : ℕ) (ms : List Part) → 1 ≤ n → are_planned (span p.chunk p.width k) k n ms ≡ true → sizes ms ≡ part_sizes p k n
  planned-sized k n ms some planned =
      sizes-are (span p.chunk p.width k) k (zeros k n) ms (groups-cut (span p.chunk p.width k) (replicate n 0) (pos k)) (zeros-some k n some)
      (subst (λ x. are_planned (span p.chunk p.width k) k x ms ≡ true) (sym (joined-zeros k n)) planned)

  node-canonical : (rows above k whole n : ℕ) (parts : NodeParts) → IsPlannedNode p rows k n parts → 1 ≤ n → suc above < 22 → IsHeight p.chunk p.width whole (suc above + suc k) → IsSpanned p (suc k) whole n
      → IsCanonicalFileNode (Some p) (Below (suc above) n whole) (parts_block parts)
  node-canonical rows above k whole n parts planned some few height place =
      let total : sum (sizes parts.parts) ≡ n = planned-total (span p.chunk p.width k) k n parts.parts planned.planned in
      let sized : sizes parts.parts ≡ part_sizes p k n = planned-sized k n parts.parts some planned.planned in
      record {
        node = root_node parts.meta parts.parts;
        valid = planned.valid;
        few = few;
        carries = planned.carries;
        declared = total;
        planned = record { below = k; height = height; has_place = place; sizes = sized ∙ ap (part_sizes p k) (sym total); codecs = coded k parts.parts (are-high (span p.chunk p.width k) k n parts.parts planned.planned) };
        is = refl;
      }

  -- parts with the sizes and codecs of a node are planned
  sized-planned : (k n : ℕ) (ms : List Part) → 1 ≤ n → sizes ms ≡ part_sizes p k n → AreHigh k ms → are_planned (span p.chunk p.width k) k n ms ≡ true
  sized-planned k n ms some sized codecs =
      subst (λ x. are_planned (span p.chunk p.width k) k x ms ≡ true) (joined-zeros k n)
      (are-sized (span p.chunk p.width k) k (zeros k n) ms (groups-cut (span p.chunk p.width k) (replicate n 0) (pos k)) (zeros-some k n some) sized codecs)

  -- what isn't planned isn't canonical
  pub node-bad : (rows above k whole n : ℕ) (bytes : List ℕ) → ((parts : NodeParts) → IsPlannedNode p rows k n parts → bytes ≢ parts_block parts) → suc above + suc k ≡ rows → 1 ≤ n → IsHeight p.chunk p.width whole rows
      → IsCanonicalFileNode (Some p) (Below (suc above) n whole) bytes → ⊥
  node-bad rows above k whole n bytes refuses count some height canonical =
      let c = canonical.planned in
      let same = node-parts canonical.node canonical.valid in
      let one : suc above + suc c.below ≡ rows = height-unique p.chunk p.width whole (suc above + suc c.below) rows c.height height in
      let deep : c.below ≡ k = omega arith in
      let sized : sizes (zipped canonical.node.parts canonical.node.sizes) ≡ part_sizes p k n = ap (λ (m : FileNode). m.sizes) same ∙ c.sizes ∙ ap (part_sizes p c.below) canonical.declared ∙ ap (λ j. part_sizes p j n) deep in
      let codecs : AreCoded k (node_over (zipped canonical.node.parts canonical.node.sizes)).parts = subst (λ (m : FileNode). AreCoded k m.parts) (sym same) (subst (λ j. AreCoded j canonical.node.parts) deep c.codecs) in
      let few : suc above < 22 = canonical.few in
      refuses (record { parts = zipped canonical.node.parts canonical.node.sizes; meta = canonical.node.meta })
      (record {
        valid = subst IsFileNode (sym same) canonical.valid;
        few = omega arith;
        carries = canonical.carries;
        planned = sized-planned k n (zipped canonical.node.parts canonical.node.sizes) some sized (high_coded k (zipped canonical.node.parts canonical.node.sizes) codecs);
      })
      (canonical.is ∙ ap file_block (sym same))

  -- ---- the root

  one_group : (n : ℕ) → n ≤ p.chunk → part_sizes p 0 n ≡ n ∷ []
  unfolding span
  one_group n few =
      ap (λ (s : List ℕ × List (List ℕ)). map (λ (g : List ℕ). length g) (s.0 ∷ s.1)) (split-short p.chunk p.chunk (replicate n 0) (omega (arith, length-replicate {A = ℕ} n 0)))
      ∙ ap (λ k. k ∷ []) (length-replicate {A = ℕ} n 0)

  alone-sized : (l : List Part) (n : ℕ) → sizes l ≡ n ∷ [] → AreHigh 0 l → leaf_alone l ≡ true
  alone-sized [] n e high = absurd (let c : length (sizes []) ≡ 1 = ap length e in omega arith)
  alone-sized (m ∷ []) n e high = high.0
  alone-sized (m ∷ x ∷ l) n e high = absurd (let c : length (sizes (m ∷ x ∷ l)) ≡ 1 = ap length e in omega arith)

  -- one piece stands under a node only where the file carries metadata
  low_height : (m : Meta) (n j : ℕ) → n ≤ p.chunk → IsFileHeight p.chunk p.width m n (suc j) → j ≡ 0
  unfolding span
  low_height m n zero few high = refl
  low_height m n (suc j) few high = absurd (
      let past : span p.chunk p.width 1 < n = high.least 1 (lowest-one m) (omega arith) in
      let rises : span p.chunk p.width 0 ≤ span p.chunk p.width 1 = span-rises p.chunk p.width 0 1 wide (omega arith) in
      omega arith)

  not_bare : (m : Meta) (n j : ℕ) → n ≤ p.chunk → IsFileHeight p.chunk p.width m n (suc j) → (t : Bool) → is_bare m ≡ t → is_bare m ≡ false
  unfolding span
  not_bare m n j few high true bare = absurd (let past : span p.chunk p.width 0 < n = high.least 0 (omega (arith, lowest-bare m bare)) (omega arith) in omega arith)
  not_bare m n j few high false carried = carried

  laid-at : (v : NodeParts) (j : ℕ) → IsFileHeight p.chunk p.width v.meta (bytes_over v.parts) (suc j) → sizes v.parts ≡ part_sizes p j (bytes_over v.parts) → AreHigh j v.parts → IsLaidOut p DagPb v
  laid-at v j high sized codecs = record {
    single = λ few.
        let low = low_height v.meta (bytes_over v.parts) j few high in
        let bare = not_bare v.meta (bytes_over v.parts) j few high (is_bare v.meta) refl in
        ap (λ t. cond t false (leaf_alone v.parts)) bare
        ∙ alone-sized v.parts (bytes_over v.parts) (sized ∙ ap (λ i. part_sizes p i (bytes_over v.parts)) low ∙ one_group (bytes_over v.parts) few) (subst (λ i. AreHigh i v.parts) low codecs);
    many = λ more k is.
        let up : suc j ≡ suc k = file-height-unique p.chunk p.width v.meta (bytes_over v.parts) (suc j) (suc k) high (as-file v.meta (bytes_over v.parts) (suc k) (omega arith) is) in
        let deep : j ≡ k = omega arith in
        sized-planned k (bytes_over v.parts) v.parts (omega arith) (sized ∙ ap (λ i. part_sizes p i (bytes_over v.parts)) deep) (subst (λ i. AreHigh i v.parts) deep codecs);
  }

  -- what is canonical at the root is laid out
  pub canonical-laid : (bytes : List ℕ) (root : NodeParts) → AreParts root → bytes ≡ parts_block root → IsCanonicalFileNode (Some p) Root bytes → IsLaidOut p DagPb root
  canonical-laid bytes root valid is canonical =
      let c = canonical.planned in
      let same = node-parts canonical.node canonical.valid in
      let one : root ≡ record { parts = zipped canonical.node.parts canonical.node.sizes; meta = canonical.node.meta }
      = same_parts root (record { parts = zipped canonical.node.parts canonical.node.sizes; meta = canonical.node.meta }) valid (subst IsFileNode (sym same) canonical.valid) (sym is ∙ canonical.is ∙ ap file_block (sym same)) in
      let total : bytes_over (zipped canonical.node.parts canonical.node.sizes) ≡ sum canonical.node.sizes = ap (λ (m : FileNode). sum m.sizes) same in
      let sized : sizes (zipped canonical.node.parts canonical.node.sizes) ≡ part_sizes p c.below (bytes_over (zipped canonical.node.parts canonical.node.sizes)) = ap (λ (m : FileNode). m.sizes) same ∙ c.sizes ∙ ap (part_sizes p c.below) (sym total) in
      let up : IsFileHeight p.chunk p.width canonical.node.meta (bytes_over (zipped canonical.node.parts canonical.node.sizes)) (suc c.below)
      = subst (λ n. IsFileHeight p.chunk p.width canonical.node.meta n (suc c.below)) (sym total) (subst (λ h. IsFileHeight p.chunk p.width canonical.node.meta (sum canonical.node.sizes) h) (let z : 0 + suc c.below ≡ suc c.below = omega arith in z) c.height) in
      subst (IsLaidOut p DagPb) (sym one)
      (laid-at (record { parts = zipped canonical.node.parts canonical.node.sizes; meta = canonical.node.meta }) c.below up sized
      (high_coded c.below (zipped canonical.node.parts canonical.node.sizes) (subst (λ (m : FileNode). AreCoded c.below m.parts) (sym same) c.codecs)))

  -- and the other way
  pub the-leaf : (l : List Part) → leaf_alone l ≡ true → (m : Part) × (l ≡ m ∷ []) × (is_of_height 0 m.entry.cid.codec ≡ true)
  the-leaf [] h = absurd (let no : false ≡ true = h in cc)
  the-leaf (m ∷ []) h = (m, refl, h)
  the-leaf (m ∷ x ∷ l) h = absurd (let no : false ≡ true = h in cc)

  pub one_total : (m : Part) → bytes_over (m ∷ []) ≡ m.size
  one_total m = sum_by-cons (λ (x : ℕ). x) m.size [] ∙ (let e : m.size + 0 ≡ m.size = omega arith in e)

  pub single-leaf : (codec : Codec) (meta : Meta) (l : List Part) → single_root codec meta l ≡ true → leaf_alone l ≡ true
  single-leaf Raw meta l h = h
  single-leaf DagPb meta l h = by (is_bare meta) refl
    where
      by : (t : Bool) → is_bare meta ≡ t → leaf_alone l ≡ true
      by true bare = absurd (let no : false ≡ true = sym (ap (λ t. cond t false (leaf_alone l)) bare) ∙ h in cc)
      by false carried = sym (ap (λ t. cond t false (leaf_alone l)) carried) ∙ h

  single-carried : (meta : Meta) (l : List Part) → single_root DagPb meta l ≡ true → (t : Bool) → is_bare meta ≡ t → is_bare meta ≡ false
  single-carried meta l h true bare = absurd (let no : false ≡ true = sym (ap (λ t. cond t false (leaf_alone l)) bare) ∙ h in cc)
  single-carried meta l h false carried = carried

  root-node : (root : NodeParts) (j : ℕ) → AreParts root → IsFileHeight p.chunk p.width root.meta (bytes_over root.parts) (suc j) → sizes root.parts ≡ part_sizes p j (bytes_over root.parts) → AreHigh j root.parts
      → IsCanonicalFileNode (Some p) Root (parts_block root)
  root-node root j valid high sized codecs = record {
    node = root_node root.meta root.parts;
    valid = valid;
    few = omega arith;
    carries = tt;
    declared = tt;
    planned = record {
      below = j;
      height = subst (λ h. IsFileHeight p.chunk p.width root.meta (bytes_over root.parts) h) (let z : suc j ≡ 0 + suc j = omega arith in z) high;
      has_place = tt;
      sizes = sized;
      codecs = coded j root.parts codecs;
    };
    is = refl;
  }

  planned_true : (a b : Bool) → (a && b) ≡ true → (a ≡ true) × (b ≡ true)
  planned_true true b h = (refl, h)
  planned_true false b h = absurd (let no : false ≡ true = h in cc)

  -- the parts of a root that is laid out, of more bytes than a piece
  pub laid-many : (codec : Codec) (root : NodeParts) (rows : ℕ) → IsLaidOut p codec root → p.chunk < bytes_over root.parts → IsHeight p.chunk p.width (bytes_over root.parts) rows
      → (1 ≤ rows) × (is_of_height 1 codec ≡ true) × (are_planned (span p.chunk p.width (rows - 1)) (rows - 1) (bytes_over root.parts) root.parts ≡ true)
  unfolding span
  laid-many codec root zero laid more high = absurd (let fits : bytes_over root.parts ≤ span p.chunk p.width 0 = high.fits in omega arith)
  laid-many codec root (suc k) laid more high =
      let same : k ≡ suc k - 1 = omega arith in
      let both = planned_true (is_of_height 1 codec) (are_planned (span p.chunk p.width k) k (bytes_over root.parts) root.parts) (laid.many more k high) in
      (omega arith, both.0, subst (λ j. are_planned (span p.chunk p.width j) j (bytes_over root.parts) root.parts ≡ true) same both.1)

  -- of no more bytes it has no rows
  pub laid-low : (n rows : ℕ) → n ≤ p.chunk → IsHeight p.chunk p.width n rows → rows ≡ 0
  unfolding span
  laid-low n zero few high = refl
  laid-low n (suc k) few high = absurd (let past : span p.chunk p.width 0 < n = high.least 0 (omega arith) in omega arith)

  alone_canonical : (root : NodeParts) → AreParts root → IsLaidOut p DagPb root → bytes_over root.parts ≤ p.chunk → (m : Part) × (root.parts ≡ m ∷ []) × (is_of_height 0 m.entry.cid.codec ≡ true) → IsCanonicalFileNode (Some p) Root (parts_block root)
  unfolding span
  alone_canonical root valid laid few one =
      let carried = single-carried root.meta root.parts (laid.single few) (is_bare root.meta) refl in
      let rises : span p.chunk p.width 0 ≤ span p.chunk p.width 1 = span-rises p.chunk p.width 0 1 wide (omega arith) in
      root-node root 0 valid
      (record { fits = omega arith; enough = lowest-one root.meta; least = λ j low less. absurd (let l : lowest root.meta ≡ 1 = lowest-carried root.meta carried in omega arith) })
      (ap sizes one.1 ∙ ap (λ n. n ∷ []) (sym (one_total one.0) ∙ ap bytes_over (sym one.1)) ∙ sym (one_group (bytes_over root.parts) few))
      (subst (AreHigh 0) (sym one.1) (one.2, tt))

  -- as it is tested
  pub single-laid : (codec : Codec) (root : NodeParts) (slice : List Part) (size : ℕ) (r : Bool) → slice ≡ root.parts → size ≡ bytes_over slice → size ≤ p.chunk → r ≡ single_root codec root.meta slice → IsTrue r ↔ IsLaidOut p codec root
  single-laid codec root slice size r sliced size_is few is =
      let same : r ≡ single_root codec root.meta root.parts = is ∙ ap (single_root codec root.meta) sliced in
      let total : size ≡ bytes_over root.parts = size_is ∙ ap bytes_over sliced in
      (λ h. record { single = λ low. sym same ∙ h; many = λ more. absurd (omega arith) }, λ laid. same ∙ laid.single (omega arith))

  pub many-laid : (codec : Codec) (root : NodeParts) (slice : List Part) (size rows below : ℕ) (r : Bool) → slice ≡ root.parts → size ≡ bytes_over slice → p.chunk < size → IsHeight p.chunk p.width size rows → below ≡ rows - 1
      → r ≡ (is_of_height 1 codec && are_planned (span p.chunk p.width below) below size slice) → IsTrue r ↔ IsLaidOut p codec root
  unfolding span
  many-laid codec root slice size zero below r sliced size_is more high below_is is = absurd (let fits : size ≤ span p.chunk p.width 0 = high.fits in omega arith)
  many-laid codec root slice size (suc j) below r sliced size_is more high below_is is =
      let total : size ≡ bytes_over root.parts = size_is ∙ ap bytes_over sliced in
      let deep : below ≡ j = omega arith in
      let same : r ≡ (is_of_height 1 codec && are_planned (span p.chunk p.width j) j (bytes_over root.parts) root.parts)
      = is ∙ ap (λ k. is_of_height 1 codec && are_planned (span p.chunk p.width k) k size slice) deep ∙ ap (λ n. is_of_height 1 codec && are_planned (span p.chunk p.width j) j n slice) total ∙ ap (λ (l : List Part). is_of_height 1 codec && are_planned (span p.chunk p.width j) j (bytes_over root.parts) l) sliced in
      let high_at : IsHeight p.chunk p.width (bytes_over root.parts) (suc j) = subst (λ n. IsHeight p.chunk p.width n (suc j)) total high in (
        λ h. record {
          single = λ low. absurd (omega arith);
          many = λ over k is_at.
              let up : suc j ≡ suc k = height-unique p.chunk p.width (bytes_over root.parts) (suc j) (suc k) high_at is_at in
              subst (λ k. (is_of_height 1 codec && are_planned (span p.chunk p.width k) k (bytes_over root.parts) root.parts) ≡ true) (let e : j ≡ k = omega arith in e) (sym same ∙ h);
        },
        λ laid. same ∙ laid.many (omega arith) j high_at,
      )

  -- what stands below the root is as high with metadata as without
  pub heights-agree : (m : Meta) (n rows height : ℕ) → IsHeight p.chunk p.width n rows → IsFileHeight p.chunk p.width m n height → rows - 1 ≡ height - 1
  unfolding span
  heights-agree m n zero zero high file = refl
  heights-agree m n zero (suc j) high file = let low : j ≡ 0 = low_height m n j high.fits file in omega arith
  heights-agree m n (suc r) zero high file = absurd (let past : span p.chunk p.width 0 < n = high.least 0 (omega arith) in let fits : n ≤ span p.chunk p.width 0 = file.fits in omega arith)
  heights-agree m n (suc r) (suc j) high file = let same : suc j ≡ suc r = file-height-unique p.chunk p.width m n (suc j) (suc r) file (as-file m n (suc r) (omega arith) high) in omega arith

  pub laid-canonical : (root : NodeParts) (rows : ℕ) → AreParts root → IsLaidOut p DagPb root → IsHeight p.chunk p.width (bytes_over root.parts) rows → IsCanonicalFileNode (Some p) Root (parts_block root)
  laid-canonical root rows valid laid high = by (cases_lt p.chunk (bytes_over root.parts))
    where
      by : (p.chunk < bytes_over root.parts) ⊎ (bytes_over root.parts ≤ p.chunk) → IsCanonicalFileNode (Some p) Root (parts_block root)
      by (inl more) =
          let m = laid-many DagPb root rows laid more high in
          let some : 1 ≤ bytes_over root.parts = omega arith in
          let up : rows ≡ suc (rows - 1) = omega (arith, m.0) in
          root-node root (rows - 1) valid (as-file root.meta (bytes_over root.parts) (suc (rows - 1)) (omega arith) (subst (IsHeight p.chunk p.width (bytes_over root.parts)) up high))
          (planned-sized (rows - 1) (bytes_over root.parts) root.parts some m.2) (are-high (span p.chunk p.width (rows - 1)) (rows - 1) (bytes_over root.parts) root.parts m.2)
      by (inr few) = alone_canonical root valid laid few (the-leaf root.parts (single-leaf DagPb root.meta root.parts (laid.single few)))

  spanned-some : (k whole n : ℕ) → IsSpanned p k whole n → 1 ≤ n
  spanned-some k whole n place = omega (arith, place.inside, place.is, pos k)

  room_behind : (i w s : ℕ) → i * s < w * s → i * s + s ≤ w * s
  room_behind i w s low = by (cases_lt i w)
    where
      by : (i < w) ⊎ (w ≤ i) → i * s + s ≤ w * s
      by (inl less) = let more : (i + 1) * s ≤ w * s = mul-le-mul_right s (let e : i + 1 ≤ w = omega arith in e) in let e : (i + 1) * s ≡ i * s + s = omega arith in omega arith
      by (inr high) = let more : w * s ≤ i * s = mul-le-mul_right s high in absurd (omega arith)

  -- a part of a node has its place among the parts of its row
  child-spanned : (k whole n i m : ℕ) → IsSpanned p (suc k) whole n → 1 ≤ m → m ≡ min (n - i * span p.chunk p.width k) (span p.chunk p.width k) → IsSpanned p k whole m
  unfolding span
  child-spanned k whole n i m place some is =
      let s = span p.chunk p.width k in
      let at : (place.before * p.width + i) * s ≡ place.before * (p.width * s) + i * s = add-mul (place.before * p.width) i s ∙ ap (λ x. x + i * s) (mul_assoc place.before p.width s) in
      let inside : place.before * (p.width * s) < whole = place.inside in
      let size : n ≡ min (p.width * s) (whole - place.before * (p.width * s)) = place.is in
      let room : i * s + s ≤ p.width * s = room_behind i p.width s (omega arith) in
      record { before = place.before * p.width + i; inside = omega arith; is = omega arith }

-- ---- the parts that stand in a file

module _ (hash : List ℕ → List ℕ) (p : Profile) (ok : IsTrue (is_profile p)) (told : Told) (root : Cid) (rows k : ℕ) (part : Part) (stands : Stands hash p told root rows (suc k) part) where
  pub node_place : HasPlaceBelow p stands.whole rows (suc k) part.size (length stands.way)
  node_place = stands.node (omega arith)

  pub some_bytes : 1 ≤ part.size
  some_bytes = spanned-some p ok (suc k) stands.whole part.size node_place.spanned

  -- the parts of a node that was read stand below it
  module _ (parts : NodeParts) (m : Part) (is_under : IsUnder hash told part.entry.cid (parts_block parts)) (planned : IsPlannedNode p rows k part.size parts) (among : Contains parts.parts m) where
    linked : (way : List Part) → length way + suc k ≡ rows → 1 ≤ length way → part.size ≡ way_size stands.whole way → part.entry.cid ≡ way_end root way → IsLinked hash p told root stands.whole way m
    linked [] count below size cid = absurd (omega arith)
    linked (x ∷ way) count below size cid =
        let few : rows - k ≤ 22 = planned.few in
        let high : IsHeight p.chunk p.width stands.whole (suc (length way) + suc k) = subst (IsHeight p.chunk p.width stands.whole) (sym count) node_place.high in
        record {
          parts = parts;
          valid = planned.valid;
          canonical = subst (λ n. IsCanonicalFileNode (Some p) (Below (suc (length way)) n stands.whole) (parts_block parts)) size (node-canonical p ok rows (length way) k stands.whole part.size parts planned some_bytes (omega arith) high node_place.spanned);
          is_under = subst (λ (c : Cid). IsUnder hash told c (parts_block parts)) cid is_under;
          among = among;
        }

    pub child-stands : Stands hash p told root rows k m
    child-stands =
        let child : Child (span p.chunk p.width k) k part.size among.0 m = subst (Child (span p.chunk p.width k) k part.size among.0) among.2 (child-at (span p.chunk p.width k) k part.size parts.parts m planned.planned among.0 among.1) in
        let count : length stands.way + suc k ≡ rows = node_place.count in
        record {
          whole = stands.whole;
          says = stands.says;
          way = m ∷ stands.way;
          is_way = (linked stands.way count node_place.below stands.size_is stands.cid_is, stands.is_way);
          cid_is = refl;
          size_is = refl;
          node = λ some. record {
            high = node_place.high;
            count = omega arith;
            below = omega arith;
            spanned = child-spanned p ok k stands.whole part.size among.0 m.size node_place.spanned child.some child.size;
          };
          codec = child.codec;
        }

-- ---- the parts below the root

module _ (hash : List ℕ → List ℕ) (p : Profile) (ok : IsTrue (is_profile p)) (told : Told) (cid : Cid) (root : NodeParts) (lent : List ℕ) (is_under : IsUnder hash told cid lent) (rows : ℕ) (high : IsHeight p.chunk p.width (bytes_over root.parts) rows)
    (m : Part) (among : Contains root.parts m) where
  the_only : (x : Part) → root.parts ≡ x ∷ [] → x ≡ m
  the_only x one = by (subst (λ (l : List Part). Contains l m) one among)
    where
      by : Contains (x ∷ []) m → x ≡ m
      by (zero, low, e) = e
      by (suc i, low, e) = absurd (omega arith)

  -- a raw block is its own part
  leaf_stands : IsRootIn Raw cid lent root → IsLaidOut p Raw root → cid.codec ≡ Raw → Stands hash p told cid rows (rows - 1) m
  leaf_stands says laid raw = by (cases_lt p.chunk (bytes_over root.parts))
    where
      by : (p.chunk < bytes_over root.parts) ⊎ (bytes_over root.parts ≤ p.chunk) → Stands hash p told cid rows (rows - 1) m
      by (inl more) = absurd (let no : false ≡ true = (laid-many p ok Raw root rows laid more high).1 in cc)
      by (inr few) =
          let m_is : (record { entry = record { cid = cid; tsize = length lent }; size = length lent }) ≡ m = the_only (record { entry = record { cid = cid; tsize = length lent }; size = length lent }) (ap (λ (n : NodeParts). n.parts) says) in
          let total : bytes_over root.parts ≡ length lent = ap (λ (n : NodeParts). bytes_over n.parts) says ∙ one_total p ok (record { entry = record { cid = cid; tsize = length lent }; size = length lent }) in
          let low : rows ≡ 0 = laid-low p ok (bytes_over root.parts) rows few high in
          let size : IsSize p Raw lent (bytes_over root.parts) = (total, omega arith) in
          let m_cid : cid ≡ m.entry.cid = ap (λ (x : Part). x.entry.cid) m_is in
          let m_size : length lent ≡ m.size = ap (λ (x : Part). x.size) m_is in
          let none : rows - 1 ≡ 0 = omega arith in
          record {
            whole = bytes_over root.parts;
            says = record { block = lent; is_under = is_under; says = subst (λ (c : Codec). IsSize p c lent (bytes_over root.parts)) (sym raw) size };
            way = [];
            is_way = tt;
            cid_is = sym m_cid;
            size_is = sym m_size ∙ sym total;
            node = λ some. absurd (omega arith);
            codec = subst (λ n. is_of_height n m.entry.cid.codec ≡ true) (sym none) (ap (is_of_height 0) (sym (ap (λ (c : Cid). c.codec) m_cid) ∙ raw));
          }

  -- the parts of the root's node
  node_stands : IsRootIn DagPb cid lent root → IsLaidOut p DagPb root → cid.codec ≡ DagPb → Stands hash p told cid rows (rows - 1) m
  node_stands says laid dag = record {
    whole = bytes_over root.parts;
    says = record {
      block = lent;
      is_under = is_under;
      says = subst (λ (c : Codec). IsSize p c lent (bytes_over root.parts)) (sym dag) (record { parts = root; valid = says.0; is = says.1; total = refl; many = many (cases_lt p.chunk (bytes_over root.parts)) });
    };
    way = m ∷ [];
    is_way = (record { parts = root; valid = says.0; canonical = laid-canonical p ok root rows says.0 laid high; is_under = subst (IsUnder hash told cid) says.1 is_under; among = among }, tt);
    cid_is = refl;
    size_is = refl;
    node = λ some. placed some (cases_lt p.chunk (bytes_over root.parts));
    codec = coded_at (cases_lt p.chunk (bytes_over root.parts));
  }
    where
      many : (p.chunk < bytes_over root.parts) ⊎ (bytes_over root.parts ≤ p.chunk) → is_bare root.meta ≡ true → p.chunk < bytes_over root.parts
      many (inl more) bare = more
      many (inr few) bare = absurd (let no : true ≡ false = sym bare ∙ single-carried p ok root.meta root.parts (laid.single few) (is_bare root.meta) refl in cc)

      child_of : p.chunk < bytes_over root.parts → Child (span p.chunk p.width (rows - 1)) (rows - 1) (bytes_over root.parts) among.0 m
      child_of more = subst (Child (span p.chunk p.width (rows - 1)) (rows - 1) (bytes_over root.parts) among.0) among.2 (child-at (span p.chunk p.width (rows - 1)) (rows - 1) (bytes_over root.parts) root.parts m (laid-many p ok DagPb root rows laid more high).2 among.0 among.1)

      placed : 1 ≤ rows - 1 → (p.chunk < bytes_over root.parts) ⊎ (bytes_over root.parts ≤ p.chunk) → HasPlaceBelow p (bytes_over root.parts) rows (rows - 1) m.size 1
      placed some (inr few) = absurd (let low : rows ≡ 0 = laid-low p ok (bytes_over root.parts) rows few high in omega arith)
      placed some (inl more) =
          let child = child_of more in
          let up : rows ≡ suc (rows - 1) = omega arith in
          let fits : bytes_over root.parts ≤ span p.chunk p.width (suc (rows - 1)) = subst (λ n. bytes_over root.parts ≤ span p.chunk p.width n) up high.fits in
          record {
            high = high;
            count = omega arith;
            below = omega arith;
            spanned = child-spanned p ok (rows - 1) (bytes_over root.parts) (bytes_over root.parts) among.0 m.size (record { before = 0; inside = omega arith; is = omega arith }) child.some child.size;
          }

      coded_at : (p.chunk < bytes_over root.parts) ⊎ (bytes_over root.parts ≤ p.chunk) → is_of_height (rows - 1) m.entry.cid.codec ≡ true
      coded_at (inl more) = (child_of more).codec
      coded_at (inr few) =
          let one = the-leaf p ok root.parts (single-leaf p ok DagPb root.meta root.parts (laid.single few)) in
          let low : rows ≡ 0 = laid-low p ok (bytes_over root.parts) rows few high in
          let none : 0 ≡ rows - 1 = omega arith in
          subst (λ n. is_of_height n m.entry.cid.codec ≡ true) none (subst (λ (x : Part). is_of_height 0 x.entry.cid.codec ≡ true) (the_only one.0 one.1) one.2)

  pub root-stands-at : (c : Codec) → cid.codec ≡ c → IsRootIn c cid lent root → IsLaidOut p c root → Stands hash p told cid rows (rows - 1) m
  root-stands-at Raw is says laid = leaf_stands says laid is
  root-stands-at DagPb is says laid = node_stands says laid is

-- the metadata of a root that was read is good
pub root-good : (c : Codec) (cid : Cid) (lent : List ℕ) (root : NodeParts) → IsRootIn c cid lent root → IsTrue (is_meta root.meta)
root-good Raw cid lent root says = ap (λ (n : NodeParts). is_meta n.meta) says
root-good DagPb cid lent root says = says.0.meta
