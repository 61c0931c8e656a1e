-- A whole file changed.
use Rattle.std.proofs.Common.{◌≡◌, ℕ, suc, ◌+◌, ◌-◌, ◌*◌, ◌^◌, ◌<◌, ◌≤◌, List, [], ◌∷◌, ◌++◌, length, map, max, refl, ap, arith, sym, ◌∙◌, subst, Bool, true, false, Option, None, Some, ◌⊎◌, inl, inr, IsTrue}
use Rattle.std.specs.Prelude.{◌==◌, IfSome}
use Rattle.std.specs.List.{AllByRecursion, sum_by}
use Rattle.std.proofs.Math.Nat.{mul-le-mul_left}
use Rattle.std.proofs.lemmas.Bool.{cases_lt}
use Rattle.std.proofs.lemmas.Bool.Decides.{nat_tests}
use Rattle.std.proofs.lemmas.List.Sums.{sum-map}
use Rattle.uf_cid.specs.Blocks.{Held}
use Rattle.uf_cid.specs.declared.cid.Cid.{Cid}
use Rattle.uf_fileread.specs.Ranges.{IsFile}
use Rattle.uf_fileread.specs.declared.node_parts.NodeParts.{NodeParts}
use Rattle.uf_store.specs.declared.store.StoreFault.{StoreFault}
use Rattle.uf_store.specs.Contents.{Told}
use Rattle.uf_store.specs.Keeping.{Agrees, AreGood, Holds, KeepsGood}
use Rattle.uf_store.specs.Lost.{AgreesAfter, IsLossOf}
use Rattle.uf_store.specs.Writing.{IsSave, SavesOnly}
use Rattle.uf_store.proofs.Keeping.{KeepsGood-refl}
use Rattle.uf_store.proofs.Writing.{Wrote-good, agrees-between}
use Rattle.uf_tree.specs.Cutting.{joined}
use Rattle.uf_tree.specs.FilePlan.{file_plan, groups, row, rows_held, top_held, top_part}
use Rattle.uf_tree.specs.FileSub.{IsFileHeight, IsHeight, lowest, part_over, span}
use Rattle.uf_tree.specs.Metas.{none}
use Rattle.uf_tree.specs.Profiles.{is_profile}
use Rattle.uf_tree.specs.Roots.{root_over}
use Rattle.uf_tree.specs.Validity.{IsHash}
use Rattle.uf_tree.specs.declared.meta.Meta.{Meta}
use Rattle.uf_tree.specs.declared.nodes.Entry.{Entry}
use Rattle.uf_tree.specs.declared.nodes.Part.{Part}
use Rattle.uf_tree.specs.declared.profile.Profile.{Profile}
use Rattle.uf_tree.proofs.Groups.{joined-split}
use Rattle.uf_tree.proofs.Rows.{below-rows, file_plan-rows, file_plan-top, lowest-one, row-sub, rows-below}
use Rattle.uf_tree.proofs.Sub.{span-pos}
use Rattle.uf_tree.proofs.Told.{kept}
use Rattle.uf_tree.proofs.Valid.{sub-size, sum_sizes}
use Rattle.uf_fileedit.specs.declared.layout.Heights.{Heights}
use Rattle.uf_fileedit.specs.Changes.{AreOld, FitsOld, GivesAll, GivesFile, IsIn, IsKnown, LiesWithin, blocks_of_all, overlaid, size_after}
use Rattle.uf_fileedit.specs.Edits.{laid}
use Rattle.uf_fileedit.specs.Planned.{AreHeights, bytes_over}
use Rattle.uf_fileedit.specs.Roots.{IsRootOver}
use Rattle.uf_fileedit.specs.Touches.{edit_touches}
use Rattle.uf_fileedit.proofs.Blames.{file-rows}
use Rattle.uf_fileedit.proofs.Bytes.{changed-same, length-changed}
use Rattle.uf_fileedit.proofs.Files.{known-after, known-holds, loss-back, still-agrees}
use Rattle.uf_fileedit.proofs.Kept.{agrees-among, all-append, all-good, all-in, each-in, in-front, known-among, known-each, known-later, known-old, loss-among}
use Rattle.uf_fileedit.proofs.Numbers.{span-rises}
use Rattle.uf_fileedit.proofs.Old.{groups-cut, groups-fit}
use Rattle.uf_fileedit.proofs.Roots.{IsUnder, is-under, plan-is-good, root-alone, root-among}
use Rattle.uf_fileedit.proofs.Ways.{heights-agree, laid-low}

-- without metadata a file has the height that its bytes need
bare_height : (c w n h : ℕ) → IsFileHeight c w none n h → IsHeight c w n h
bare_height c w n h high = record { fits = high.fits; least = λ k less. let low : 0 ≤ k = omega arith in high.least k low less }

-- with metadata it has no fewer rows of nodes
pub bare-under : (p : Profile) (m : Meta) (n h : ℕ) → IsFileHeight p.chunk p.width m n h → (k : ℕ) × IsHeight p.chunk p.width n k × (k ≤ h)
unfolding span
bare-under p m n h high = by (cases_lt (span p.chunk p.width 0) n)
  where
    by : (span p.chunk p.width 0 < n) ⊎ (n ≤ span p.chunk p.width 0) → (k : ℕ) × IsHeight p.chunk p.width n k × (k ≤ h)
    by (inl more) = (h, record { fits = high.fits; least = λ j less. low j less (cases_lt j (lowest m)) }, omega arith)
      where
        low : (j : ℕ) → j < h → (j < lowest m) ⊎ (lowest m ≤ j) → span p.chunk p.width j < n
        low j less (inl under) = subst (λ k. span p.chunk p.width k < n) (let one : lowest m ≤ 1 = lowest-one m in let e : 0 ≡ j = omega arith in e) more
        low j less (inr over) = high.least j over less
    by (inr few) = (0, record { fits = few; least = λ j less. absurd (omega arith) }, omega arith)

pub bytes-small : (parts : List Part) (n : ℕ) → n ≡ bytes_over parts → sum_by (λ (m : Part). m.size) parts < 2 ^ 63 → n < 2 ^ 63
bytes-small parts n is small = let e : bytes_over parts ≡ sum_by (λ (m : Part). m.size) parts = sum-map (λ (m : Part). m.size) parts in omega arith

-- how many bytes there are afterwards
pub after-small : (old : ℕ) (wanted : Option ℕ) (offset more : ℕ) → old < 2 ^ 63 → IfSome wanted (λ n. n < 2 ^ 63) → offset + more < 2 ^ 63 → size_after old wanted offset more < 2 ^ 63
after-small old None offset more a b c = omega arith
after-small old (Some n) offset more a b c = b

pub after-within : (old : ℕ) (wanted : Option ℕ) (offset : ℕ) (piece : List ℕ) → IfSome wanted (λ n. LiesWithin n offset piece) → LiesWithin (size_after old wanted offset (length piece)) offset piece
after-within old None offset piece w = λ some. omega arith
after-within old (Some n) offset piece w = w

-- more rows allow more touches
pub more-rows : (d m n t0 t1 : ℕ) → m ≤ n → t1 ≤ t0 + edit_touches d m → t1 ≤ t0 + edit_touches d n
more-rows d m n t0 t1 few h = let more : 2 * (d + 2) * (m + 2) ≤ 2 * (d + 2) * (n + 2) = mul-le-mul_left (2 * (d + 2)) (let e : m + 2 ≤ n + 2 = omega arith in e) in omega arith

-- ---- the parts below a root, as the bytes give them

module _ (X : List ℕ → List ℕ) (good : IsHash X) (p : Profile) (ok : IsTrue (is_profile p)) (b : List ℕ) where
  abbrev some_chunk : 1 ≤ p.chunk
  some_chunk = (kept p ok).some

  abbrev two_links : 2 ≤ p.width
  two_links = (kept p ok).two

  wide : 1 ≤ p.width
  wide = let two : 2 ≤ p.width = two_links in omega arith

  pub some-height : (n : ℕ) × IsHeight p.chunk p.width (length b) n
  some-height = let r = file_plan-rows X p none b some_chunk two_links in (r.0, bare_height p.chunk p.width (length b) r.0 r.2)

  abbrev at : ℕ → List Part
  at k = map (part_over X p.chunk p.width k) (groups (span p.chunk p.width k) b)

  abbrev pieces : ℕ → List (List ℕ)
  pieces k = groups (span p.chunk p.width k) b

  pub row-total : (k : ℕ) → bytes_over (at k) ≡ length b
  row-total k =
      sum-map (λ (m : Part). m.size) (at k) ∙ sum_sizes X good p ok (pieces k) (part_over X p.chunk p.width k) (sub-size X good p ok k)
      ∙ ap length (joined-split (span p.chunk p.width k) (span p.chunk p.width k) b)

  pub pieces-joined : (k : ℕ) → joined (pieces k) ≡ b
  pieces-joined k = joined-split (span p.chunk p.width k) (span p.chunk p.width k) b

  module _ (rows : ℕ) (high : IsHeight p.chunk p.width (length b) rows) where
    none_fit : (l : List ℕ) (k : ℕ) → length l ≤ 0 → k ≡ 0 → AllByRecursion (FitsOld p k) (groups (span p.chunk p.width k) l)
    none_fit [] k low z = (record { few = (let e : 0 ≤ span p.chunk p.width k = omega arith in e); small = (let e : 0 < 2 ^ 63 = omega arith in e); some = λ h. absurd (omega arith) }, tt)
    none_fit (x ∷ l) k low z = absurd (omega arith)

    pub row-old : (parts : List Part) → parts ≡ at (rows - 1) → length b < 2 ^ 63 → AreOld X p (span p.chunk p.width (rows - 1)) (rows - 1) parts (pieces (rows - 1))
    row-old parts same small = record {
      same = same;
      fits = fits (cases_lt 0 (length b));
      cut = groups-cut (span p.chunk p.width (rows - 1)) b (span-pos p.chunk p.width (rows - 1) some_chunk wide);
    }
      where
        fits : (0 < length b) ⊎ (length b ≤ 0) → AllByRecursion (FitsOld p (rows - 1)) (pieces (rows - 1))
        fits (inl some) = groups-fit p (rows - 1) b ok some small
        fits (inr none) = none_fit b (rows - 1) none (let low : rows ≡ 0 = laid-low p ok (length b) rows (omega (arith, some_chunk)) high in omega arith)

    module _ (m : Meta) where
      top_is : (file_plan-top X p m b some_chunk two_links).0 ≡ rows - 1
      top_is =
          let t = file_plan-top X p m b some_chunk two_links in
          let r = file_plan-rows X p m b some_chunk two_links in
          by t.0 r.0 (is-under X p b some_chunk two_links m t.0 r.0 t.1 r.2) (heights-agree p ok m (length b) rows r.0 high r.2)
        where
          by : (k h : ℕ) → IsUnder X p b some_chunk two_links m k h → rows - 1 ≡ h - 1 → k ≡ rows - 1
          by k h (inl e) same = omega arith
          by k h (inr e) same = let a : k ≡ 0 = e.0 in let c : 0 ≡ h = e.1 in omega arith

      abbrev top_row : List Part
      top_row = row X p b (rows - 1)

      row_at : row X p b (rows - 1) ≡ at (rows - 1)
      row_at = row-sub X p m b some_chunk two_links (rows - 1)

      pub plan-entry : (file_plan X p m b).entry ≡ (top_part X m (at (rows - 1))).entry
      plan-entry = (file_plan-top X p m b some_chunk two_links).1.entry ∙ ap (λ k. (top_part X m (row X p b k)).entry) top_is ∙ ap (λ (l : List Part). (top_part X m l).entry) row_at

      pub plan-blocks : (file_plan X p m b).blocks ≡ rows_held X p b (rows - 1) ++ top_held X m (at (rows - 1))
      plan-blocks =
          (file_plan-top X p m b some_chunk two_links).1.blocks ∙ ap (λ k. rows_held X p b k ++ top_held X m (row X p b k)) top_is
          ∙ ap (λ (l : List Part). rows_held X p b (rows - 1) ++ top_held X m l) row_at

      pub row-among : (x : Held) → IsIn x (blocks_of_all X p (rows - 1) (pieces (rows - 1))) → IsIn x (file_plan X p m b).blocks
      row-among x is =
          let plan = (file_plan X p m b).blocks in
          all-in (λ (y : Held). IsIn y (file_plan X p m b).blocks) (blocks_of_all X p (rows - 1) (pieces (rows - 1))) x
          (rows-below X p m b some_chunk two_links (λ (y : Held). IsIn y (file_plan X p m b).blocks) (rows - 1)
          (each-in (λ (y : Held). IsIn y (file_plan X p m b).blocks) (rows_held X p b (rows - 1)) (λ y h. subst (IsIn y) (sym plan-blocks) (in-front y (rows_held X p b (rows - 1)) (top_held X m (at (rows - 1))) h)))) is

      -- a root over the parts makes the file
      pub file-made : (told : Told) (olds : List Held) (slice : List Part) (part : Part) → slice ≡ at (rows - 1) → AllByRecursion (IsKnown told olds) (blocks_of_all X p (rows - 1) (pieces (rows - 1)))
          → part ≡ top_part X m slice → Holds told (top_held X m slice) → GivesFile X p m told olds part.entry b
      file-made told olds slice part same known is held = record {
        same = ap (λ (x : Part). x.entry) is ∙ ap (λ (l : List Part). (top_part X m l).entry) same ∙ sym plan-entry;
        known = subst (AllByRecursion (IsKnown told olds)) (sym plan-blocks) (all-append (IsKnown told olds) (rows_held X p b (rows - 1)) (top_held X m (at (rows - 1)))
            (below-rows X p m b some_chunk two_links (IsKnown told olds) (rows - 1) known)
            (known-each told olds (top_held X m (at (rows - 1))) (subst (λ (l : List Part). Holds told (top_held X m l)) same held)));
      }

-- ---- an edit

module _ (X : List ℕ → List ℕ) (good : IsHash X) (p : Profile) (m : Meta) (b : List ℕ) (cid : Cid) (height : ℕ) (is : IsFile X p m b cid height) where
  ok : IsTrue (is_profile p)
  ok = is.profile

  small : length b < 2 ^ 63
  small = few_bytes p.chunk (length b) is.few (kept p is.profile).short
    where
      few_bytes : (c n : ℕ) → n ≤ c * 4194304 → c ≤ 1048576 → n < 2 ^ 63
      few_bytes c n a b = omega arith

  module _ (root : NodeParts) (over : IsRootOver X p m b root) where
    pub old-size : bytes_over root.parts ≡ length b
    old-size = let h = some-height X good p is.profile b in ap bytes_over (over.row h.0 h.1) ∙ row-total X good p is.profile b (h.0 - 1)

    module _ (rows top : ℕ) (high : IsHeight p.chunk p.width (bytes_over root.parts) rows) (top_is : top ≡ max rows 1) where
      pub high-at : IsHeight p.chunk p.width (length b) rows
      high-at = subst (λ n. IsHeight p.chunk p.width n rows) old-size high

      low_is : rows - 1 ≡ top - 1
      low_is = omega arith

      abbrev cut : List (List ℕ)
      cut = groups (span p.chunk p.width (top - 1)) b

      abbrev olds : List Held
      olds = blocks_of_all X p (top - 1) cut

      pub old-parts : (parts : List Part) → parts ≡ root.parts → AreOld X p (span p.chunk p.width (top - 1)) (top - 1) parts (groups (span p.chunk p.width (top - 1)) b)
      old-parts parts same =
          subst (λ k. AreOld X p (span p.chunk p.width k) k parts (groups (span p.chunk p.width k) b)) low_is
          (row-old X good p is.profile b rows high-at parts (same ∙ over.row rows high-at) small)

      pub old-fits : length (joined (groups (span p.chunk p.width (top - 1)) b)) ≤ span p.chunk p.width top
      old-fits =
          let wide : 1 ≤ p.width = (let two : 2 ≤ p.width = (kept p is.profile).two in omega arith) in
          let rises : span p.chunk p.width rows ≤ span p.chunk p.width top = span-rises p.chunk p.width rows top wide (omega arith) in
          let fits : length b ≤ span p.chunk p.width rows = high-at.fits in
          subst (λ (l : List ℕ). length l ≤ span p.chunk p.width top) (sym (pieces-joined X good p is.profile b (top - 1))) (omega arith)

      pub old-among : (x : Held) → IsIn x (blocks_of_all X p (top - 1) (groups (span p.chunk p.width (top - 1)) b)) → IsIn x (file_plan X p m b).blocks
      old-among x k = row-among X good p is.profile b rows high-at m x (subst (λ n. IsIn x (blocks_of_all X p n (groups (span p.chunk p.width n) b))) (sym low_is) k)

      pub old-agrees : (told : Told) → Agrees told (file_plan X p m b).blocks → Agrees told (blocks_of_all X p (top - 1) (groups (span p.chunk p.width (top - 1)) b))
      old-agrees told h = agrees-among told (blocks_of_all X p (top - 1) (groups (span p.chunk p.width (top - 1)) b)) (file_plan X p m b).blocks old-among h

      pub old-lost : (told : Told) (fault : StoreFault) → IsLossOf told (blocks_of_all X p (top - 1) (groups (span p.chunk p.width (top - 1)) b)) fault → IsLossOf told (file_plan X p m b).blocks fault
      old-lost told fault h = loss-among told (blocks_of_all X p (top - 1) (groups (span p.chunk p.width (top - 1)) b)) (file_plan X p m b).blocks fault old-among h

      -- what is made of the parts, with a root over them
      pub edited : (mid now : Told) (size offset after k : ℕ) (piece : List ℕ) (news slice : List Part) (part : Part) (meta : Meta) → IsHeight p.chunk p.width size after → k ≡ after - 1 → KeepsGood X mid now
          → GivesAll X p mid (blocks_of_all X p (top - 1) (groups (span p.chunk p.width (top - 1)) b)) k news (groups (span p.chunk p.width k) (overlaid size (joined (groups (span p.chunk p.width (top - 1)) b)) offset piece))
          → slice ≡ news → meta ≡ root.meta → part ≡ top_part X meta slice → Holds now (top_held X meta slice) → GivesFile X p m now (file_plan X p m b).blocks part.entry (overlaid size b offset piece)
      edited mid now size offset after k piece news slice part meta after_is k_is keeps made sliced meta_is part_is held =
          let new = overlaid size b offset piece in
          let bytes : overlaid size (joined (groups (span p.chunk p.width (top - 1)) b)) offset piece ≡ overlaid size b offset piece = ap (λ (l : List ℕ). overlaid size l offset piece) (pieces-joined X good p is.profile b (top - 1)) in
          let m_is : meta ≡ m = meta_is ∙ over.meta_is in
          let at_size : IsHeight p.chunk p.width (length (overlaid size b offset piece)) after = subst (λ n. IsHeight p.chunk p.width n after) (sym (length-changed size b offset piece)) after_is in
          file-made X good p is.profile (overlaid size b offset piece) after at_size m now (file_plan X p m b).blocks slice part
          (sliced ∙ made.same ∙ ap (λ (l : List ℕ). map (part_over X p.chunk p.width k) (groups (span p.chunk p.width k) l)) bytes ∙ ap (λ n. map (part_over X p.chunk p.width n) (groups (span p.chunk p.width n) (overlaid size b offset piece))) k_is)
          (subst (λ n. AllByRecursion (IsKnown now (file_plan X p m b).blocks) (blocks_of_all X p n (groups (span p.chunk p.width n) (overlaid size b offset piece)))) k_is
          (known-among now (blocks_of_all X p (top - 1) (groups (span p.chunk p.width (top - 1)) b)) (file_plan X p m b).blocks (blocks_of_all X p k (groups (span p.chunk p.width k) (overlaid size b offset piece))) old-among
          (known-later X mid now (blocks_of_all X p (top - 1) (groups (span p.chunk p.width (top - 1)) b)) (blocks_of_all X p k (groups (span p.chunk p.width k) (overlaid size b offset piece))) keeps (all-good X p.chunk p.width k (groups (span p.chunk p.width k) (overlaid size b offset piece)))
          (subst (λ (l : List ℕ). AllByRecursion (IsKnown mid (blocks_of_all X p (top - 1) (groups (span p.chunk p.width (top - 1)) b))) (blocks_of_all X p k (groups (span p.chunk p.width k) l))) bytes made.known))))
          (part_is ∙ ap (λ (n : Meta). top_part X n slice) m_is) (subst (λ (n : Meta). Holds now (top_held X n slice)) m_is held)

  -- nothing is changed
  pub unchanged : (told : Told) (entry : Entry) (size offset : ℕ) (piece : List ℕ) → entry ≡ (file_plan X p m b).entry → size ≡ length b → length piece ≡ 0 → GivesFile X p m told (file_plan X p m b).blocks entry (overlaid size b offset piece)
  unchanged told entry size offset piece is_entry size_is none =
      let same : overlaid size b offset piece ≡ b = ap (λ n. overlaid n b offset piece) size_is ∙ ap (overlaid (length b) b offset) (empty_is piece none) ∙ changed-same b offset in
      subst (GivesFile X p m told (file_plan X p m b).blocks entry) (sym same) (record { same = is_entry; known = known-old told (file_plan X p m b).blocks })
    where
      empty_is : (x : List ℕ) → length x ≡ 0 → x ≡ []
      empty_is [] e = refl
      empty_is (z ∷ x) e = absurd (omega arith)

  -- the root is one of the blocks
  pub root-lost : (told : Told) (fault : StoreFault) → IsLossOf told (root_over X p.chunk p.width m height b ∷ []) fault → IsLossOf told (file_plan X p m b).blocks fault
  root-lost told fault h = loss-among told (root_over X p.chunk p.width m height b ∷ []) (file_plan X p m b).blocks fault (root-among X good p m b cid height is) h

-- ---- an edit, of what its root has below it

module _ (X : List ℕ → List ℕ) (good : IsHash X) (p : Profile) (m : Meta) (b : List ℕ) (cid : Cid) (height : ℕ) (is : IsFile X p m b cid height) (told : Told) (agrees : Agrees told (file_plan X p m b).blocks) (root : NodeParts)
    (gives : (m : Meta) (b : List ℕ) (height : ℕ) → IsFile X p m b cid height → Agrees told (root_over X p.chunk p.width m height b ∷ []) → IsRootOver X p m b root) (old : ℕ) (old_is : old ≡ bytes_over root.parts) where
  root_over_is : IsRootOver X p m b root
  root_over_is = gives m b height is (root-alone X good p m b cid height is told agrees)

  pub old-length : old ≡ length b
  old-length = old_is ∙ old-size X good p m b cid height is root root_over_is

  pub new-length : (size : ℕ) (wanted : Option ℕ) (offset more : ℕ) → size ≡ size_after old wanted offset more → size ≡ size_after (length b) wanted offset more
  new-length size wanted offset more size_is = size_is ∙ ap (λ (n : ℕ). size_after n wanted offset more) old-length

  pub same-gives : (now : Told) (entry : Entry) (size : ℕ) (wanted : Option ℕ) (offset : ℕ) (piece : List ℕ) → entry ≡ (file_plan X p m b).entry → size ≡ size_after old wanted offset (length piece) → old ≡ size → length piece ≡ 0
      → GivesFile X p m now (file_plan X p m b).blocks entry (overlaid (size_after (length b) wanted offset (length piece)) b offset piece)
  same-gives now entry size wanted offset piece entry_is size_is same none =
      subst (λ (n : ℕ). GivesFile X p m now (file_plan X p m b).blocks entry (overlaid n b offset piece)) (new-length size wanted offset (length piece) size_is)
      (unchanged X good p m b cid height is now entry size offset piece entry_is (sym same ∙ old-length) none)

  -- an edit that changes something changes the length, or lays something over the bytes
  pub differs : (size : ℕ) (wanted : Option ℕ) (offset more : ℕ) → size ≡ size_after old wanted offset more → ((old ≡ size) × (more ≡ 0) → ⊥) → length b ≡ size_after (length b) wanted offset more → more ≡ 0 → ⊥
  differs size wanted offset more size_is changed alike none = changed (old-length ∙ alike ∙ sym (new-length size wanted offset more size_is), none)

  module _ (size : ℕ) (at : Heights) (are : AreHeights p old size at) (loaded mid now : Told) (same : loaded ≡ told) (saves : SavesOnly X loaded mid) where
    high_here : IsHeight p.chunk p.width (bytes_over root.parts) at.rows
    high_here = subst (λ n. IsHeight p.chunk p.width n at.rows) old_is are.before

    old_row : AreOld X p (span p.chunk p.width (at.top - 1)) (at.top - 1) root.parts (groups (span p.chunk p.width (at.top - 1)) b)
    old_row = old-parts X good p m b cid height is root root_over_is at.rows at.top high_here are.top_is root.parts refl

    row_fits : length (joined (groups (span p.chunk p.width (at.top - 1)) b)) ≤ span p.chunk p.width at.top
    row_fits = old-fits X good p m b cid height is root root_over_is at.rows at.top high_here are.top_is

    first_agrees : Agrees loaded (file_plan X p m b).blocks
    first_agrees = subst (λ (t : Told). Agrees t (file_plan X p m b).blocks) (sym same) agrees

    old_agrees : (t : Told) → Agrees t (file_plan X p m b).blocks → Agrees t (blocks_of_all X p (at.top - 1) (groups (span p.chunk p.width (at.top - 1)) b))
    old_agrees t h = old-agrees X good p m b cid height is root root_over_is at.rows at.top high_here are.top_is t h

    pub edit-gives : (wanted : Option ℕ) (offset : ℕ) (piece : List ℕ) (news slice : List Part) (part : Part) → size ≡ size_after old wanted offset (length piece) → SavesOnly X mid now → KeepsGood X mid now → Agrees now (file_plan X p m b).blocks
        → ((gs : List (List ℕ)) → AreOld X p (span p.chunk p.width (at.top - 1)) (at.top - 1) root.parts gs → length (joined gs) ≤ span p.chunk p.width at.top → Agrees loaded (blocks_of_all X p (at.top - 1) gs) → Agrees mid (blocks_of_all X p (at.top - 1) gs)
        → GivesAll X p mid (blocks_of_all X p (at.top - 1) gs) at.height news (groups (span p.chunk p.width at.height) (overlaid size (joined gs) offset piece)))
        → slice ≡ news → part ≡ top_part X root.meta slice → Holds now (top_held X root.meta slice)
        → GivesFile X p m now (file_plan X p m b).blocks part.entry (overlaid (size_after (length b) wanted offset (length piece)) b offset piece)
    edit-gives wanted offset piece news slice part size_is last keeps after made sliced part_is held =
        let between : Agrees mid (file_plan X p m b).blocks = agrees-between X IsSave loaded mid now (file_plan X p m b).blocks saves last (record { first = first_agrees; last = after }) in
        subst (λ (n : ℕ). GivesFile X p m now (file_plan X p m b).blocks part.entry (overlaid n b offset piece)) (new-length size wanted offset (length piece) size_is)
        (edited X good p m b cid height is root root_over_is at.rows at.top high_here are.top_is mid now size offset are.after at.height piece news slice part root.meta are.high are.height_is keeps
        (made (groups (span p.chunk p.width (at.top - 1)) b) old_row row_fits (old_agrees loaded first_agrees) (old_agrees mid between)) sliced refl part_is held)

    pub edit-loses : (fault : StoreFault) → Agrees mid (file_plan X p m b).blocks
        → (at.rows ≤ 22 → (gs : List (List ℕ)) → AreOld X p (span p.chunk p.width (at.top - 1)) (at.top - 1) root.parts gs → length (joined gs) ≤ span p.chunk p.width at.top → Agrees loaded (blocks_of_all X p (at.top - 1) gs) → Agrees mid (blocks_of_all X p (at.top - 1) gs)
        → IsLossOf mid (blocks_of_all X p (at.top - 1) gs) fault) → IsLossOf mid (file_plan X p m b).blocks fault
    edit-loses fault after lost =
        old-lost X good p m b cid height is root root_over_is at.rows at.top high_here are.top_is mid fault
        (lost (file-rows X p m b cid height is old at.rows old-length are.before) (groups (span p.chunk p.width (at.top - 1)) b) old_row row_fits (old_agrees loaded first_agrees) (old_agrees mid after))

file-good : (X : List ℕ → List ℕ) (p : Profile) (m : Meta) (b : List ℕ) (cid : Cid) (h : ℕ) → IsFile X p m b cid h → AreGood X (file_plan X p m b).blocks
file-good X p m b cid h is = plan-is-good X p b (kept p is.profile).some (kept p is.profile).two m

-- ---- the answers

module _ (X : List ℕ → List ℕ) (good : IsHash X) (p : Profile) (m : Meta) (b : List ℕ) (cid : Cid) (h : ℕ) (is : IsFile X p m b cid h) (before now : Told) (saves : SavesOnly X before now)
    (agrees : Agrees before (file_plan X p m b).blocks) where
  keeps : KeepsGood X before now
  keeps = Wrote-good X IsSave before now saves

  pub agreed-held : Holds before (file_plan X p m b).blocks → Agrees now (file_plan X p m b).blocks
  agreed-held holds = (still-agrees X before now (file_plan X p m b).blocks (file-good X p m b cid h is) agrees holds saves).0

  pub answer-entry : (entry : Entry) (bytes new : List ℕ) → bytes ≡ new → GivesFile X p m now (file_plan X p m b).blocks entry bytes → entry ≡ (file_plan X p m new).entry
  answer-entry entry bytes new same gives = gives.same ∙ ap (λ l. (file_plan X p m l).entry) same

  pub answer-held : (entry : Entry) (bytes new : List ℕ) → Holds before (file_plan X p m b).blocks → bytes ≡ new → GivesFile X p m now (file_plan X p m b).blocks entry bytes → Holds now (file_plan X p m new).blocks
  answer-held entry bytes new holds same gives =
      subst (λ l. Holds now (file_plan X p m l).blocks) same
      (known-holds now (file_plan X p m b).blocks (file_plan X p m bytes).blocks (still-agrees X before now (file_plan X p m b).blocks (file-good X p m b cid h is) agrees holds saves).1 gives.known)

  pub answer-after : (entry : Entry) (bytes new : List ℕ) → Agrees now (file_plan X p m b).blocks → bytes ≡ new → GivesFile X p m now (file_plan X p m b).blocks entry bytes → AgreesAfter before now (file_plan X p m b).blocks (file_plan X p m new).blocks
  answer-after entry bytes new after same gives =
      subst (λ l. AgreesAfter before now (file_plan X p m b).blocks (file_plan X p m l).blocks) same
      (known-after X before now (file_plan X p m b).blocks (file_plan X p m bytes).blocks (file-good X p m b cid h is) agrees after keeps gives.known)

  pub answer-lost : (fault : StoreFault) → IsLossOf now (file_plan X p m b).blocks fault → IsLossOf before (file_plan X p m b).blocks fault
  answer-lost fault loss = loss-back X before now (file_plan X p m b).blocks fault (file-good X p m b cid h is) agrees saves loss

pub some_bytes : (n : ℕ) (t : Bool) → t ≡ (n == 0) → t ≡ false → 1 ≤ n
some_bytes n t e h = grind (arith, nat_tests)

pub no_bytes : (n : ℕ) (t : Bool) → t ≡ (n == 0) → t ≡ true → n ≡ 0
no_bytes n t e h = grind (arith, nat_tests)

pub laid_empty : (b : List ℕ) (offset : ℕ) (x : List ℕ) (t : Bool) → t ≡ (length x == 0) → t ≡ true → laid b offset x ≡ b
laid_empty b offset [] t e h = refl
laid_empty b offset (z ∷ x) t e h = absurd (no (length x) t e h)
  where
    no : (n : ℕ) (t : Bool) → t ≡ (suc n == 0) → t ≡ true → ⊥
    no n t e h = grind (arith, nat_tests)

-- where nothing is written, all is as it was
pub nothing-after : (X : List ℕ → List ℕ) → IsHash X → (p : Profile) (m : Meta) (b : List ℕ) (cid : Cid) (h : ℕ) → IsFile X p m b cid h → (told : Told) (offset : ℕ) (x : List ℕ) (t : Bool) → t ≡ (length x == 0) → t ≡ true → Agrees told (file_plan X p m b).blocks
    → AgreesAfter told told (file_plan X p m b).blocks (file_plan X p m (laid b offset x)).blocks
nothing-after X good p m b cid h is told offset x t e k agrees =
    subst (λ l. AgreesAfter told told (file_plan X p m b).blocks (file_plan X p m l).blocks) (sym (laid_empty b offset x t e k))
    (known-after X told told (file_plan X p m b).blocks (file_plan X p m b).blocks (file-good X p m b cid h is) agrees agrees (KeepsGood-refl X told) (known-old told (file_plan X p m b).blocks))
