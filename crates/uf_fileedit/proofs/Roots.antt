-- The root of a file, and what stands below it.
use Rattle.std.proofs.Common.{◌≡◌, ◌≢◌, ℕ, zero, suc, ◌*◌, ◌^◌, ◌<◌, ◌≤◌, List, [], ◌∷◌, ◌++◌, length, map, refl, ap, arith, sym, ◌∙◌, subst, ◌-◌, Bool, true, false, cond, ◌⊎◌, inl, inr, Result, Ok, Err, None, Some}
use Rattle.std.specs.Prelude.{IfErr, IfOk, IfSome}
use Rattle.std.specs.List.{AllByRecursion}
use Rattle.std.proofs.lemmas.Bool.{cases_lt}
use Rattle.std.proofs.lemmas.List.{length-map}
use Rattle.uf_cid.specs.Blocks.{Held}
use Rattle.uf_cid.specs.Cid.{cid_of}
use Rattle.uf_cid.specs.declared.bytes.StrictFault.TheVariants.{NotCanonical, Memory as StrictMemory}
use Rattle.uf_cid.specs.declared.cid.Cid.{Cid}
use Rattle.uf_cid.specs.declared.cid.Codec.TheVariants.{Raw, DagPb}
use Rattle.uf_fileread.specs.Parts.{AreParts, parts_block}
use Rattle.uf_fileread.specs.Ranges.{IsFile}
use Rattle.uf_fileread.specs.Sizes.{IsNoNode}
use Rattle.uf_fileread.specs.declared.node_parts.NodeParts.{NodeParts}
use Rattle.uf_fileread.proofs.Nodes.{node-parts, same_parts, zipped}
use Rattle.uf_edge.specs.Counts.{Stood}
use Rattle.uf_fileread.proofs.Sending.{root-agrees, the_block}
use Rattle.uf_store.specs.Clashes.{IsLoadFault}
use Rattle.uf_store.specs.Contents.{Told, held_at}
use Rattle.uf_store.specs.Faults.{NoneIsBad, Shows}
use Rattle.uf_store.specs.Keeping.{Agrees, AreGood, Holds, KeepsGood}
use Rattle.uf_store.specs.Lost.{AgreesAfter, IsLossOf}
use Rattle.uf_store.specs.Seen.{Seen}
use Rattle.uf_store.specs.declared.store.StoreFault.{StoreFault}
use Rattle.uf_store.specs.declared.store.StoreFault.TheVariants.{Failed, Damaged, Missing, BadBlock, Clash, Memory}
use Rattle.uf_store.proofs.Keeping.{Holds-kept}
use Rattle.uf_store.specs.declared.store.Role.TheVariants.{FileNode as FileRole}
use Rattle.uf_tree.specs.Codecs.{Reads}
use Rattle.uf_tree.specs.declared.meta.Meta.{Meta}
use Rattle.uf_tree.specs.declared.nodes.Entry.{Entry}
use Rattle.uf_tree.specs.declared.nodes.FileNode.{FileNode}
use Rattle.uf_tree.specs.declared.nodes.Part.{Part}
use Rattle.uf_tree.specs.declared.profile.Profile.{Profile}
use Rattle.uf_tree.specs.FilePlan.{file_plan, groups, leaf_part, root_held, row, rows_held, split_from, top_held, top_part}
use Rattle.uf_tree.specs.FileSub.{IsFileHeight, IsTop, lowest, part_over, span, whole_blocks, whole_part}
use Rattle.uf_tree.specs.Metas.{is_bare, none}
use Rattle.uf_tree.specs.Nodes.{file_block}
use Rattle.uf_tree.specs.Roots.{root_over}
use Rattle.uf_tree.specs.Validity.{IsFileNode, IsHash}
use Rattle.uf_tree.proofs.Behind.{split-short}
use Rattle.uf_tree.proofs.Canonical.{root-canonical}
use Rattle.uf_tree.proofs.Climb.{some-behind}
use Rattle.uf_tree.proofs.MetaNumbers.{bare-none}
use Rattle.uf_tree.proofs.Rows.{below-rows, file-height-unique, file_plan-rows, file_plan-top, lowest-bare, lowest-carried, plan-sub, row-sub, under_root}
use Rattle.uf_tree.proofs.Told.{kept}
use Rattle.uf_tree.proofs.Valid.{root_node-valid}
use Rattle.uf_fileedit.specs.Changes.{IsIn, IsKnown}
use Rattle.uf_fileedit.specs.Planned.{IsLaidOut, bytes_over, is_of_height}
use Rattle.uf_fileedit.specs.Roots.{IsRootIn, IsRootOf, IsRootOver, SaysRoot, StandUnder, whole_leaf}
use Rattle.uf_fileedit.proofs.Files.{known-after, known-holds}
use Rattle.uf_fileedit.proofs.Kept.{all-append, all-good, each-in, in-front, known-each, known-old}
use Rattle.uf_fileedit.proofs.Old.{need_lost}
use Rattle.uf_fileedit.proofs.Ways.{canonical-laid, heights-agree, one_total}

-- a block that is no node with parts is none at all
pub no-root : (cid : Cid) (bytes : List ℕ) → cid.codec ≡ DagPb → Reads AreParts parts_block bytes (Err NotCanonical) → IsNoNode cid cid FileRole bytes
no-root cid bytes codec reads = record { same = refl; role_is = refl; codec = codec; none = by reads }
  where
    by : (NotCanonical ≡ StrictMemory) ⊎ ((v : NodeParts) → AreParts v → bytes ≢ parts_block v) → (node : FileNode) → IsFileNode node → bytes ≢ file_block node
    by (inl e) node valid is = absurd (differ e)
      where
        differ : NotCanonical ≡ StrictMemory → ⊥
        differ e = cc
    by (inr h) node valid is =
        let again = node-parts node valid in
        h (record { parts = zipped node.parts node.sizes; meta = node.meta }) (subst IsFileNode (sym again) valid) (is ∙ ap file_block (sym again))

-- ---- the topmost row

module _ (X : List ℕ → List ℕ) (p : Profile) (b : List ℕ) (pos : 1 ≤ p.chunk) (two : 2 ≤ p.width) where
  -- it is the same row whatever the metadata
  one_top : (m n : Meta) (i j : ℕ) → IsTop X p m b (file_plan X p m b) i → IsTop X p n b (file_plan X p n b) j → j ≡ i
  one_top m n i j a c = by (cases_lt i j) (cases_lt j i)
    where
      by : (i < j) ⊎ (j ≤ i) → (j < i) ⊎ (i ≤ j) → j ≡ i
      by (inl less) other = let more : p.width < length (row X p b i) = c.first i less in let one : length (row X p b i) ≤ p.width = a.one in absurd (omega arith)
      by (inr le) (inl less) = let more : p.width < length (row X p b j) = a.first j less in let one : length (row X p b j) ≤ p.width = c.one in absurd (omega arith)
      by (inr le) (inr ge) = omega arith

  pub stand-under : (m : Meta) (k : ℕ) → IsTop X p m b (file_plan X p m b) k → StandUnder X p b (row X p b k)
  stand-under m k top = record {
    under = rows_held X p b k;
    entry = λ n. let t = file_plan-top X p n b pos two in t.1.entry ∙ ap (λ j. (top_part X n (row X p b j)).entry) (one_top m n k t.0 top t.1);
    blocks = λ n. let t = file_plan-top X p n b pos two in t.1.blocks ∙ ap (λ j. rows_held X p b j ++ top_held X n (row X p b j)) (one_top m n k t.0 top t.1);
  }

  rows-good : (k : ℕ) → AreGood X (rows_held X p b k)
  rows-good k = below-rows X p none b pos two (λ (h : Held). X h.1 ≡ h.0.digest) k (all-good X p.chunk p.width k (groups (span p.chunk p.width k) b))

  top-good : (m : Meta) (parts : List Part) → AreGood X (top_held X m parts)
  top-good m [] = tt
  top-good m (x ∷ []) = elim (is_bare m) as (λ t. AreGood X (cond t [] (root_held X m (x ∷ []) ∷ []))) [ true ↦ tt | false ↦ (refl, tt) ]
  top-good m (x ∷ y ∷ ys) = (refl, tt)

  -- each block of a file's plan has its CID's digest
  pub plan-is-good : (m : Meta) → AreGood X (file_plan X p m b).blocks
  plan-is-good m =
      let t = file_plan-top X p m b pos two in
      subst (AreGood X) (sym t.1.blocks) (all-append (λ (h : Held). X h.1 ≡ h.0.digest) (rows_held X p b t.0) (top_held X m (row X p b t.0)) (rows-good t.0) (top-good m (row X p b t.0)))

  up_length : (k : ℕ) → length (row X p b (suc k)) ≡ length (groups p.width (row X p b k))
  unfolding row
  up_length k = length-map (groups p.width (row X p b k)) _

  alone : (k : ℕ) → length (row X p b k) ≤ 1 → ((j : ℕ) → j < k → p.width < length (row X p b j)) → k ≡ 0
  alone zero few before = refl
  alone (suc k) few before =
      let more : p.width < length (row X p b k) = before k (omega arith) in
      let many : 1 ≤ length (split_from p.width p.width (row X p b k)).1 = some-behind p.width (row X p b k) (omega arith) more in
      let count : length (row X p b (suc k)) ≡ length (groups p.width (row X p b k)) = up_length k in
      absurd (omega arith)

  row_zero : length (row X p b 0) ≡ length (groups p.chunk b)
  unfolding row
  row_zero = length-map (groups p.chunk b) (leaf_part X)

  row_one : length b ≤ p.chunk → row X p b 0 ≡ leaf_part X b ∷ []
  unfolding row
  row_one fit = ap (λ (s : List ℕ × List (List ℕ)). map (leaf_part X) (s.0 ∷ s.1)) (split-short p.chunk p.chunk b fit)

  low_fits : length (row X p b 0) ≤ 1 → length b ≤ p.chunk
  low_fits few = by (cases_lt p.chunk (length b))
    where
      by : (p.chunk < length b) ⊎ (length b ≤ p.chunk) → length b ≤ p.chunk
      by (inl lt) = let many : 1 ≤ length (split_from p.chunk p.chunk b).1 = some-behind p.chunk b pos lt in let count : length (row X p b 0) ≡ length (groups p.chunk b) = row_zero in absurd (omega arith)
      by (inr le) = le

  lowest_height : (m : Meta) → is_bare m ≡ true → length b ≤ p.chunk → IsFileHeight p.chunk p.width m (length b) 0
  unfolding span
  lowest_height m bare fit = record { fits = fit; enough = let low : lowest m ≡ 0 = lowest-bare m bare in omega arith; least = λ j low less. absurd (omega arith) }

  -- a root stands over the row, or its only part stands alone
  abbrev pub IsUnder : Meta → ℕ → ℕ → Type 0
  IsUnder m k height = (suc k ≡ height) ⊎ ((k ≡ 0) × (0 ≡ height) × (is_bare m ≡ true) × (length b ≤ p.chunk))

  pub is-under : (m : Meta) (k height : ℕ) → IsTop X p m b (file_plan X p m b) k → IsFileHeight p.chunk p.width m (length b) height → IsUnder m k height
  is-under m k height top high = by (cases_lt 1 (length (row X p b k)))
    where
      rooted : (2 ≤ length (row X p b k)) ⊎ ((k ≡ 0) × (is_bare m ≡ false)) → IsUnder m k height
      rooted over = inl (file-height-unique p.chunk p.width m (length b) (suc k) height (under_root X p m b pos two k top.one top.first over) high)

      single : length (row X p b k) ≤ 1 → k ≡ 0 → (t : Bool) → is_bare m ≡ t → IsUnder m k height
      single few z true bare =
          let fit = low_fits (subst (λ j. length (row X p b j) ≤ 1) z few) in
          inr (z, file-height-unique p.chunk p.width m (length b) 0 height (lowest_height m bare fit) high, bare, fit)
      single few z false carried = rooted (inr (z, carried))

      by : (1 < length (row X p b k)) ⊎ (length (row X p b k) ≤ 1) → IsUnder m k height
      by (inl many) = rooted (inl (omega arith))
      by (inr few) = single few (alone k few top.first) (is_bare m) refl

-- ---- the root of a file

first_of : (told : Told) (x : Held) (l : List Held) → Agrees told (x ∷ l) → Agrees told (x ∷ [])
first_of None x l h = h
first_of (Some t) x l h = (h.0, tt)

module _ (X : List ℕ → List ℕ) (good : IsHash X) (p : Profile) (m : Meta) (b : List ℕ) (cid : Cid) (height : ℕ) (is : IsFile X p m b cid height) where
  abbrev some_chunk : 1 ≤ p.chunk
  some_chunk = (kept p is.profile).some

  abbrev two_links : 2 ≤ p.width
  two_links = (kept p is.profile).two

  root_under : (h : ℕ) → (whole_part X p.chunk p.width m h b).entry.cid ≡ (root_over X p.chunk p.width m h b).0
  unfolding whole_part
  root_under zero = refl
  root_under (suc k) = refl

  pub root-cid : cid ≡ (root_over X p.chunk p.width m height b).0
  root-cid = is.cid_is ∙ ap (λ (e : Entry). e.cid) is.rooted.entry ∙ root_under height

  first_agrees : (h : ℕ) (told : Told) → Agrees told (whole_blocks X p.chunk p.width m h b) → Agrees told (root_over X p.chunk p.width m h b ∷ [])
  unfolding whole_blocks
  first_agrees zero told h = first_of told _ _ h
  first_agrees (suc k) told h = first_of told _ _ h

  pub root-alone : (told : Told) → Agrees told (file_plan X p m b).blocks → Agrees told (root_over X p.chunk p.width m height b ∷ [])
  root-alone told h = first_agrees height told (root-agrees X good p cid m b height told is h)

  first_all : (h : ℕ) (P : Held → Type 0) → AllByRecursion P (whole_blocks X p.chunk p.width m h b) → P (root_over X p.chunk p.width m h b)
  unfolding whole_blocks
  first_all zero P a = a.0
  first_all (suc k) P a = a.0

  pub root-among : (x : Held) → IsIn x (root_over X p.chunk p.width m height b ∷ []) → IsIn x (file_plan X p m b).blocks
  root-among x (inl e) =
      let r = file_plan-rows X p m b some_chunk two_links in
      let same : r.0 ≡ height = file-height-unique p.chunk p.width m (length b) r.0 height r.2 is.rooted.least in
      subst (λ (y : Held). IsIn y (file_plan X p m b).blocks) (sym e) (subst (λ h. IsIn (root_over X p.chunk p.width m h b) (file_plan X p m b).blocks) same
      (first_all r.0 (λ (y : Held). IsIn y (file_plan X p m b).blocks) (plan-sub X p m b some_chunk two_links (λ (y : Held). IsIn y (file_plan X p m b).blocks) r.0 r.2.fits (file_plan X p m b).blocks r.3
      (each-in (λ (y : Held). IsIn y (file_plan X p m b).blocks) (file_plan X p m b).blocks (λ y k. k)))))
  root-among x (inr h) = absurd h

  small : length b < 2 ^ 63
  small = few_bytes p.chunk (length b) is.few (kept p is.profile).short
    where
      few_bytes : (c n : ℕ) → n ≤ c * 4194304 → c ≤ 1048576 → n < 2 ^ 63
      few_bytes c n a b = omega arith

  -- what the root of this height has below it
  abbrev base_at : ℕ → NodeParts
  base_at zero = whole_leaf cid b
  base_at (suc k) = record { parts = map (part_over X p.chunk p.width k) (groups (span p.chunk p.width k) b); meta = m }

  valid : (k : ℕ) → IsFileHeight p.chunk p.width m (length b) (suc k) → AreParts (base_at (suc k))
  valid k high = root_node-valid X good p is.profile m is.good k b high.fits small

  root-is-at : (h : ℕ) (lent : List ℕ) (root : NodeParts) → IsFileHeight p.chunk p.width m (length b) h → lent ≡ (root_over X p.chunk p.width m h b).1 → IsRootIn (root_over X p.chunk p.width m h b).0.codec cid lent root → root ≡ base_at h
  root-is-at zero lent root high e says = says ∙ ap (whole_leaf cid) e
  root-is-at (suc k) lent root high e says = same_parts root (base_at (suc k)) says.0 (valid k high) (sym says.1 ∙ e)

  abbrev the_node : List Part → NodeParts
  the_node l = record { parts = l; meta = m }

  -- it is the row that has the root over it
  base_is : (k : ℕ) → IsTop X p m b (file_plan X p m b) k → (h : ℕ) → h ≡ height → IsUnder X p b some_chunk two_links m k h → IsRootOf X p m b (base_at h)
  base_is k top h here (inl e) =
      let over : base_at (suc k) ≡ record { parts = row X p b k; meta = m } = ap (λ (l : List Part). the_node l) (sym (row-sub X p m b some_chunk two_links k)) in
      subst (λ n. IsRootOf X p m b (base_at n)) e (subst (IsRootOf X p m b) (sym over) (record { meta_is = refl; stands = stand-under X p b some_chunk two_links m k top }))
  base_is k top h here (inr alone) =
      let at_zero : (root_over X p.chunk p.width m height b).0 ≡ cid_of X Raw b = ap (λ n. (root_over X p.chunk p.width m n b).0) (sym (alone.1 ∙ here)) in
      let is_cid : cid ≡ cid_of X Raw b = root-cid ∙ at_zero in
      let parts_are : (whole_leaf cid b).parts ≡ row X p b k = ap (λ (c : Cid). (whole_leaf c b).parts) is_cid ∙ sym (row_one X p b some_chunk two_links alone.3) ∙ ap (row X p b) (sym alone.0) in
      subst (λ n. IsRootOf X p m b (base_at n)) alone.1 (record {
        meta_is = sym (bare-none m alone.2);
        stands = subst (StandUnder X p b) (sym parts_are) (stand-under X p b some_chunk two_links m k top);
      })

  pub root-gives : (lent : List ℕ) (root : NodeParts) → lent ≡ (root_over X p.chunk p.width m height b).1 → IsRootIn cid.codec cid lent root → IsRootOf X p m b root
  root-gives lent root e says =
      let t = file_plan-top X p m b some_chunk two_links in
      subst (IsRootOf X p m b) (sym (root-is-at height lent root is.rooted.least e (subst (λ (c : Cid). IsRootIn c.codec cid lent root) root-cid says)))
      (base_is t.0 t.1 height refl (is-under X p b some_chunk two_links m t.0 height t.1 is.rooted.least))

  -- the parts below it, by the height that the bytes need
  base_row : (h : ℕ) → h ≡ height → (base_at h).parts ≡ map (part_over X p.chunk p.width (h - 1)) (groups (span p.chunk p.width (h - 1)) b)
  unfolding span
  base_row zero here =
      let at_zero : (root_over X p.chunk p.width m height b).0 ≡ cid_of X Raw b = ap (λ n. (root_over X p.chunk p.width m n b).0) (sym here) in
      let fit : length b ≤ span p.chunk p.width 0 = subst (λ n. length b ≤ span p.chunk p.width n) (sym here) is.rooted.least.fits in
      let none : 0 ≡ 0 - 1 = omega arith in
      ap (λ (c : Cid). (whole_leaf c b).parts) (root-cid ∙ at_zero) ∙ sym (row_one X p b some_chunk two_links fit) ∙ row-sub X p m b some_chunk two_links 0
      ∙ ap (λ n. map (part_over X p.chunk p.width n) (groups (span p.chunk p.width n) b)) none
  base_row (suc k) here = ap (λ n. map (part_over X p.chunk p.width n) (groups (span p.chunk p.width n) b)) (let e : k ≡ suc k - 1 = omega arith in e)

  base_meta : (h : ℕ) → h ≡ height → (base_at h).meta ≡ m
  base_meta zero here = sym (bare-none m (by (is_bare m) refl))
    where
      by : (t : Bool) → is_bare m ≡ t → is_bare m ≡ true
      by true bare = bare
      by false carried = absurd (let one : lowest m ≡ 1 = lowest-carried m carried in let low : lowest m ≤ height = is.rooted.least.enough in omega arith)
  base_meta (suc k) here = refl

  pub over-root : (lent : List ℕ) (root : NodeParts) → lent ≡ (root_over X p.chunk p.width m height b).1 → IsRootIn cid.codec cid lent root → IsRootOver X p m b root
  over-root lent root e says =
      let same = root-is-at height lent root is.rooted.least e (subst (λ (c : Cid). IsRootIn c.codec cid lent root) root-cid says) in
      record {
        meta_is = ap (λ (n : NodeParts). n.meta) same ∙ base_meta height refl;
        row = λ rows high. ap (λ (n : NodeParts). n.parts) same ∙ base_row height refl
            ∙ ap (λ n. map (part_over X p.chunk p.width n) (groups (span p.chunk p.width n) b)) (sym (heights-agree p is.profile m (length b) rows height high is.rooted.least));
      }

  -- it is laid out
  base_laid : (h : ℕ) → h ≡ height → IsLaidOut p (root_over X p.chunk p.width m h b).0.codec (base_at h)
  unfolding span
  base_laid zero here =
      let raw : cid.codec ≡ Raw = ap (λ (c : Cid). c.codec) (root-cid ∙ ap (λ n. (root_over X p.chunk p.width m n b).0) (sym here)) in
      let fit : length b ≤ span p.chunk p.width 0 = subst (λ n. length b ≤ span p.chunk p.width n) (sym here) is.rooted.least.fits in
      let total : bytes_over (whole_leaf cid b).parts ≡ length b = one_total p is.profile (record { entry = record { cid = cid; tsize = length b }; size = length b }) in
      record { single = λ few. ap (is_of_height 0) raw; many = λ more. absurd (omega arith) }
  base_laid (suc k) here =
      canonical-laid p is.profile (parts_block (base_at (suc k))) (base_at (suc k)) (valid k (subst (IsFileHeight p.chunk p.width m (length b)) (sym here) is.rooted.least)) refl
      (root-canonical X good p is.profile m is.good k b (subst (IsFileHeight p.chunk p.width m (length b)) (sym here) is.rooted.least) small)

  pub laid-root : (lent : List ℕ) (root : NodeParts) → lent ≡ (root_over X p.chunk p.width m height b).1 → IsRootIn cid.codec cid lent root → IsLaidOut p cid.codec root
  laid-root lent root e says =
      let same = root-is-at height lent root is.rooted.least e (subst (λ (c : Cid). IsRootIn c.codec cid lent root) root-cid says) in
      subst (λ (c : Cid). IsLaidOut p c.codec root) (sym root-cid) (subst (IsLaidOut p (root_over X p.chunk p.width m height b).0.codec) (sym same) (base_laid height refl))

  -- a block that is no node isn't the root's
  no_node_at : (h : ℕ) (lent : List ℕ) → IsFileHeight p.chunk p.width m (length b) h → lent ≡ (root_over X p.chunk p.width m h b).1 → (root_over X p.chunk p.width m h b).0.codec ≡ DagPb → ((node : FileNode) → IsFileNode node → lent ≢ file_block node) → ⊥
  no_node_at zero lent high e codec refuses = absurd (raw_dag codec)
    where
      raw_dag : Raw ≡ DagPb → ⊥
      raw_dag q = cc
  no_node_at (suc k) lent high e codec refuses = refuses _ (valid k high) e

  pub no-other : (lent : List ℕ) → lent ≡ (root_over X p.chunk p.width m height b).1 → cid.codec ≡ DagPb → ((node : FileNode) → IsFileNode node → lent ≢ file_block node) → ⊥
  no-other lent e codec refuses = no_node_at height lent is.rooted.least e (sym (ap (λ (c : Cid). c.codec) root-cid) ∙ codec) refuses

  -- what a block at the root says
  module _ (told : Told) (lent : List ℕ) (agrees : Agrees told (root_over X p.chunk p.width m height b ∷ [])) (held : IfSome told (λ t. held_at t cid ≡ Some lent)) where
    found : lent ≡ (root_over X p.chunk p.width m height b).1
    found = (the_block told (root_over X p.chunk p.width m height b) [] cid lent root-cid agrees held).0

    pub says-gives : (r : Result NodeParts StoreFault) → SaysRoot cid lent r → IfOk r (IsRootOf X p m b)
    says-gives (Ok root) says = root-gives lent root found says
    says-gives (Err fault) says = tt

    pub root-is-over : (root : NodeParts) → IsRootIn cid.codec cid lent root → IsRootOver X p m b root
    root-is-over root says = over-root lent root found says

    pub root-is-laid : (root : NodeParts) → IsRootIn cid.codec cid lent root → (IsLaidOut p cid.codec root → ⊥) → ⊥
    root-is-laid root says refuses = refuses (laid-root lent root found says)

    pub says-lost : (r : Result NodeParts StoreFault) → SaysRoot cid lent r → IfErr r (IsLossOf told (root_over X p.chunk p.width m height b ∷ []))
    says-lost (Ok root) says = tt
    says-lost (Err Failed) says = says
    says-lost (Err (Damaged c)) says = says
    says-lost (Err (Missing c)) says = absurd says
    says-lost (Err (BadBlock c role)) says = no-other lent found says.codec says.none
    says-lost (Err (Clash c x y)) says = says
    says-lost (Err Memory) says = tt

  pub root-missed : (before now : Seen) (fault : StoreFault) → Shows X NoneIsBad fault before now → IsLoadFault cid fault → now.told ≡ before.told → Stood before.faults now.faults
      → IsLossOf before.told (root_over X p.chunk p.width m height b ∷ []) fault
  root-missed before now fault shows load same stood = need_lost X before now (root_over X p.chunk p.width m height b) [] cid fault root-cid shows load same stood

  -- ---- the file with other metadata

  abbrev olds : List Held
  olds = (file_plan X p m b).blocks

  module _ (before now : Told) (agrees : Agrees before olds) (keeps : KeepsGood X before now) (n : Meta) where
    abbrev news : List Held
    news = (file_plan X p n b).blocks

    -- nothing changes
    pub known-same : (root : NodeParts) → IsRootOf X p m b root → root.meta ≡ n → AllByRecursion (IsKnown now olds) news
    known-same root r same = subst (λ (k : Meta). AllByRecursion (IsKnown now olds) (file_plan X p k b).blocks) (sym r.meta_is ∙ same) (known-old now olds)

    -- or another root is saved
    pub known-set : (root : NodeParts) (parts : List Part) → IsRootOf X p m b root → parts ≡ root.parts → Holds now (top_held X n parts) → AllByRecursion (IsKnown now olds) news
    known-set root parts r same held =
        subst (AllByRecursion (IsKnown now olds)) (sym (r.stands.blocks n)) (all-append (IsKnown now olds) r.stands.under (top_held X n root.parts)
        (each-in (IsKnown now olds) r.stands.under (λ x k. inr (subst (IsIn x) (sym (r.stands.blocks m)) (in-front x r.stands.under (top_held X m root.parts) k))))
        (known-each now olds (top_held X n root.parts) (subst (λ (l : List Part). Holds now (top_held X n l)) same held)))

    pub set-after : Agrees now olds → AllByRecursion (IsKnown now olds) news → AgreesAfter before now olds news
    set-after after known = known-after X before now olds news (plan-is-good X p b some_chunk two_links m) agrees after keeps known

    pub set-held : Holds before olds → AllByRecursion (IsKnown now olds) news → Holds now news
    set-held holds known = known-holds now olds news (Holds-kept X before now olds (plan-is-good X p b some_chunk two_links m) keeps holds) known

  pub entry-same : (n : Meta) (entry : Entry) (root : NodeParts) → IsRootOf X p m b root → root.meta ≡ n → entry ≡ (file_plan X p m b).entry → entry ≡ (file_plan X p n b).entry
  entry-same n entry root r same is = is ∙ ap (λ (k : Meta). (file_plan X p k b).entry) (sym r.meta_is ∙ same)

  pub entry-set : (n : Meta) (part : Part) (root : NodeParts) (parts : List Part) → IsRootOf X p m b root → parts ≡ root.parts → part ≡ top_part X n parts → part.entry ≡ (file_plan X p n b).entry
  entry-set n part root parts r same is = ap (λ (m : Part). m.entry) is ∙ ap (λ (l : List Part). (top_part X n l).entry) same ∙ sym (r.stands.entry n)
