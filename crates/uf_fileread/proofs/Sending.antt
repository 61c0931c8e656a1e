-- How the reading of a range goes on from part to part.
use Rattle.std.proofs.Common.{◌≡◌, ◌≢◌, ℕ, zero, suc, ◌+◌, ◌-◌, ◌*◌, ◌^◌, ◌<◌, ◌≤◌, List, [], ◌∷◌, ◌++◌, length, sum, map, take, drop, min, get_or, refl, ap, arith, sym, ◌∙◌, subst, append_assoc, append-nil, length-append, Bool, cond, Option, None, Some, ◌⊎◌, inl, inr, Result, Ok, Err, IsTrue}
use Rattle.std.specs.Prelude.{IfErr, IfSome}
use Rattle.std.specs.List.{AllByRecursion, flat_map}
use Rattle.std.proofs.lemmas.List.{drop_all, drop_more, get_or-map, length-map, take-append-le}
use Rattle.std.proofs.lemmas.List.Sums.{sum-map}
use Rattle.uf_cid.specs.Blocks.{Held, Lookup}
use Rattle.uf_cid.specs.Blocks as blocks
use Rattle.uf_cid.specs.declared.cid.Cid.{Cid}
use Rattle.uf_cid.specs.declared.cid.Codec.TheVariants.{Raw, DagPb}
use Rattle.uf_edge.specs.Counts.{Stood}
use Rattle.uf_edge.specs.Streams.{Told as SinkTold, AppendsPrefix, after}
use Rattle.uf_fileread.specs.declared.fault.RangeFault.{RangeFault}
use Rattle.uf_fileread.specs.declared.fault.RangeFault.TheVariants.{Sink, Store}
use Rattle.uf_store.specs.declared.store.StoreFault.{StoreFault}
use Rattle.uf_store.specs.declared.store.StoreFault.TheVariants.{Failed, Damaged, Missing, BadBlock, Clash, Memory}
use Rattle.uf_store.specs.Clashes.{IsLoadFault}
use Rattle.uf_store.specs.Contents.{Told, held_at}
use Rattle.uf_store.specs.Faults.{Answers, NoneIsBad, Shows}
use Rattle.uf_store.specs.Keeping.{Agrees, Holds}
use Rattle.uf_store.specs.Lost.{IsFirstLost, LosesFirst}
use Rattle.uf_store.specs.Seen.{Seen}
use Rattle.uf_store.proofs.Keeping.{Holds-append}
use Rattle.uf_tree.specs.declared.meta.Meta.{Meta}
use Rattle.uf_tree.specs.declared.nodes.Part.{Part}
use Rattle.uf_tree.specs.declared.profile.Profile.{Profile}
use Rattle.uf_tree.specs.Cutting.{joined}
use Rattle.uf_tree.specs.FilePlan.{file_plan, groups, leaf_held, node_over, root_held}
use Rattle.uf_tree.specs.FileSub.{blocks_over, part_over, span, whole_blocks, whole_part}
use Rattle.uf_tree.specs.Metas.{none}
use Rattle.uf_tree.specs.Profiles.{is_profile}
use Rattle.uf_tree.specs.Roles.{WithSome}
use Rattle.uf_tree.specs.Validity.{IsHash}
use Rattle.uf_tree.specs.declared.nodes.Entry.{Entry}
use Rattle.uf_tree.proofs.Canonical.{few_file_rows}
use Rattle.uf_tree.proofs.Groups.{joined-split}
use Rattle.uf_tree.proofs.MetaNumbers.{none-is_meta}
use Rattle.uf_tree.proofs.Told.{kept}
use Rattle.uf_tree.proofs.Valid.{root_node-valid, sub-size, sum_sizes}
use Rattle.uf_store.specs.declared.store.Role.{Role}
use Rattle.uf_fileread.specs.Parts.{parts_block}
use Rattle.uf_fileread.specs.declared.node_parts.NodeParts.{NodeParts}
use Rattle.uf_fileread.specs.Ranges.{AppendsCount, AppendsAtMost, IsFile, IsFirstLossOf, WritesOver, blocks_met, blocks_read, meets, range_of}
use Rattle.uf_fileread.specs.Sending.{ArePartsOver, Fits, HasParts, IsFirstLoss, IsFilePart, LoadsParts, MayStand, ReadsPart, Stopped, WroteRange}
use Rattle.uf_fileread.proofs.Cutting.{groups_fit, is_met, length_range, not_met, range_two}
use Rattle.uf_fileread.proofs.Nodes.{same_parts}

-- ---- what a sink holds

pub after-none : (held : SinkTold) → after held [] ≡ held
after-none None = refl
after-none (Some h) = ap (λ (b : List ℕ). Some b) (append-nil h)

pub after-after : (held : SinkTold) (a b : List ℕ) → after (after held a) b ≡ after held (a ++ b)
after-after None a b = refl
after-after (Some h) a b = ap (λ (b : List ℕ). Some b) (append_assoc h a b)

pub prefix-none : (bytes : List ℕ) (held : SinkTold) → AppendsPrefix bytes held held
prefix-none bytes held = record { count = 0; fits = omega arith; appended = sym (after-none held) }

take_past : (a b : List ℕ) (n : ℕ) → take (length a + n) (a ++ b) ≡ a ++ take n b
take_past [] b n = ap (λ k. take k b) (let e : 0 + n ≡ n = omega arith in e)
take_past (x ∷ a) b n = ap (λ k. take k (x ∷ (a ++ b))) (let e : suc (length a) + n ≡ suc (length a + n) = omega arith in e) ∙ ap (λ l. x ∷ l) (take_past a b n)

pub prefix-behind : (a b : List ℕ) (held mid now : SinkTold) → mid ≡ after held a → AppendsPrefix b mid now → AppendsPrefix (a ++ b) held now
prefix-behind a b held mid now e p = record {
  count = length a + p.count;
  fits = omega (arith, p.fits, length-append a b);
  appended = p.appended ∙ ap (λ h. after h (take p.count b)) e ∙ after-after held a (take p.count b) ∙ ap (after held) (sym (take_past a b p.count));
}

pub prefix-more : (a b : List ℕ) (held now : SinkTold) → AppendsPrefix a held now → AppendsPrefix (a ++ b) held now
prefix-more a b held now p = record {
  count = p.count;
  fits = omega (arith, p.fits, length-append a b);
  appended = p.appended ∙ ap (after held) (sym (take-append-le p.count a b p.fits));
}

-- ---- lost blocks

first-behind : (held : Lookup) (c : Cid) (l m : List Held) → blocks.Holds held l → IsFirstLost held c m → IsFirstLost held c (l ++ m)
first-behind held c [] m h k = k
first-behind held c (b ∷ l) m h k = inr (h.0, first-behind held c l m h.1 k)

first-front : (held : Lookup) (c : Cid) (l m : List Held) → IsFirstLost held c l → IsFirstLost held c (l ++ m)
first-front held c [] m h = absurd h
first-front held c (b ∷ l) m (inl h) = inl h
first-front held c (b ∷ l) m (inr h) = inr (h.0, first-front held c l m h.1)

-- a loss of the blocks behind some that are held, and before others
pub loss-among : (told : Told) (done l rest : List Held) (fault : RangeFault) → Holds told done → IsFirstLoss told l fault → IsFirstLoss told (done ++ (l ++ rest)) fault
loss-among told done l rest Sink h k = tt
loss-among told done l rest (Store Failed) h k = absurd k
loss-among told done l rest (Store (Damaged c)) h k = absurd k
loss-among None done l rest (Store (Missing c)) h k = tt
loss-among (Some t) done l rest (Store (Missing c)) h k = first-behind (held_at t) c done (l ++ rest) h (first-front (held_at t) c l rest k)
loss-among told done l rest (Store (BadBlock c role)) h k = absurd k
loss-among told done l rest (Store (Clash c x y)) h k = absurd k
loss-among told done l rest (Store Memory) h k = tt

-- the block that is found is the one with which the store agrees
pub the_block : (told : Told) (b : Held) (l : List Held) (cid : Cid) (lent : List ℕ) → cid ≡ b.0 → Agrees told (b ∷ l) → IfSome told (λ t. held_at t cid ≡ Some lent) → (lent ≡ b.1) × Holds told (b ∷ [])
the_block None b l cid lent is agrees held = absurd agrees
the_block (Some t) b l cid lent is agrees held =
    let at : held_at t b.0 ≡ Some lent = ap (held_at t) (sym is) ∙ held in
    let same : lent ≡ b.1 = by (held_at t b.0) at agrees.0 in
    (same, (at ∙ ap (λ (b : List ℕ). Some b) same, tt))
  where
    by : (o : Option (List ℕ)) → o ≡ Some lent → IfSome o (λ x. x ≡ b.1) → lent ≡ b.1
    by None e h = absurd (let no : None ≡ Some lent = e in cc)
    by (Some x) e h = (let same : x ≡ lent = cc in sym same) ∙ h

-- a block that isn't held is the first of those that it stands before
pub missing-first : (told : Told) (b : Held) (l : List Held) (cid : Cid) → cid ≡ b.0 → IfSome told (λ t. held_at t cid ≡ None) → LosesFirst told cid (b ∷ l)
missing-first None b l cid is gone = tt
missing-first (Some t) b l cid is gone = inl (is, ap (held_at t) (sym is) ∙ gone)

-- a load that fails while the store stays calm has lost the first block
pub need-lost : (X : List ℕ → List ℕ) (before now : Seen) (b : Held) (l : List Held) (cid : Cid) (fault : StoreFault) → cid ≡ b.0 → Shows X NoneIsBad fault before now → IsLoadFault cid fault → now.told ≡ before.told → Stood before.faults now.faults
    → IsFirstLossOf before.told (b ∷ l) fault
need-lost X before now b l cid Failed is shows load same stood = let r = shows.rose in omega (arith, r, stood)
need-lost X before now b l cid (Damaged c) is shows load same stood = let r = shows.rose in omega (arith, r, stood)
need-lost X before now b l cid (Missing c) is shows load same stood =
    missing-first before.told b l c (load ∙ is) (subst (λ (t : Told). IfSome t (λ t. held_at t c ≡ None)) same shows.not_held)
need-lost X before now b l cid (BadBlock c role) is shows load same stood = load
need-lost X before now b l cid (Clash c x y) is shows load same stood = load
need-lost X before now b l cid Memory is shows load same stood = tt

-- ---- parts one behind the other

-- what is done of a range, and what is left
pub record Progress (told : Told) (of : ℕ → ℕ → List ℕ → List Held) (offset count : ℕ) (gs left : List (List ℕ)) (place rest : ℕ) (held held_now : SinkTold) (touches touches_now : ℕ) : Type 0 where
  pub done : List Held
  pub sent : List ℕ
  pub blocks : blocks_met of offset count gs ≡ done ++ blocks_met of place rest left
  pub are_held : Holds told done
  pub bytes : range_of offset count (joined gs) ≡ sent ++ range_of place rest (joined left)
  pub written : held_now ≡ after held sent
  pub spent : length sent + rest ≡ count
  pub steps : touches_now ≤ touches + length done

holds-nothing : (told : Told) → Holds told []
holds-nothing None = tt
holds-nothing (Some t) = tt

pub begins : (told : Told) (of : ℕ → ℕ → List ℕ → List Held) (offset count : ℕ) (gs : List (List ℕ)) (held : SinkTold) (touches : ℕ) → Progress told of offset count gs gs offset count held held touches touches
begins told of offset count gs held touches = record {
  done = [];
  sent = [];
  blocks = refl;
  are_held = holds-nothing told;
  bytes = refl;
  written = sym (after-none held);
  spent = omega arith;
  steps = omega arith;
}

module _ (told : Told) (of : ℕ → ℕ → List ℕ → List Held) (offset count : ℕ) (gs : List (List ℕ)) (held now next : SinkTold) (touches touches_now touches_next : ℕ) where
  pub ends : (place rest : ℕ) → Progress told of offset count gs [] place rest held now touches touches_now → WroteRange told (blocks_met of offset count gs) (range_of offset count (joined gs)) held now touches touches_now (count - rest)
  ends place rest p =
      let sent : range_of offset count (joined gs) ≡ p.sent = p.bytes ∙ ap (λ (l : List ℕ). p.sent ++ l) (none place rest) ∙ append-nil p.sent in
      let done : blocks_met of offset count gs ≡ p.done = p.blocks ∙ append-nil p.done in
      record {
        count = omega (arith, p.spent, ap length sent);
        blocks = subst (Holds told) (sym done) p.are_held;
        written = p.written ∙ ap (after held) (sym sent);
        steps = omega (arith, p.steps, ap length done);
      }
    where
      dropped : (place : ℕ) → drop {A = ℕ} place [] ≡ []
      dropped zero = refl
      dropped (suc n) = refl

      none : (place rest : ℕ) → range_of place rest [] ≡ []
      none place zero = refl
      none place (suc n) = ap (take (suc n)) (dropped place)

  module _ (place rest : ℕ) (g : List ℕ) (left : List (List ℕ)) where
    abbrev here : List Held
    here = cond (meets place rest g) (of place rest g) []

    pub goes_on : (n : ℕ) → Progress told of offset count gs (g ∷ left) place rest held now touches touches_now
        → WroteRange told here (range_of place rest g) now next touches_now touches_next n
        → Progress told of offset count gs left (place - length g) (rest - n) held next touches touches_next
    goes_on n p w =
        let count_is : n ≡ min rest (length g - place) = w.count ∙ length_range place rest g in
        let less : rest - (length g - place) ≡ rest - n = omega arith in
        record {
          done = p.done ++ here;
          sent = p.sent ++ range_of place rest g;
          blocks = p.blocks ∙ sym (append_assoc p.done here (blocks_met of (place - length g) (rest - (length g - place)) left)) ∙ ap (λ k. (p.done ++ here) ++ blocks_met of (place - length g) k left) less;
          are_held = Holds-append told p.done here p.are_held w.blocks;
          bytes = p.bytes ∙ ap (λ (l : List ℕ). p.sent ++ l) (range_two place rest g (joined left)) ∙ sym (append_assoc p.sent (range_of place rest g) (range_of (place - length g) (rest - (length g - place)) (joined left)))
              ∙ ap (λ k. (p.sent ++ range_of place rest g) ++ range_of (place - length g) k (joined left)) less;
          written = w.written ∙ ap (λ h. after h (range_of place rest g)) p.written ∙ after-after held p.sent (range_of place rest g);
          spent = omega (arith, p.spent, length-append p.sent (range_of place rest g), w.count, count_is);
          steps = omega (arith, p.steps, w.steps, length-append p.done here);
        }

    pub stops : (faults faults_mid faults_now : ℕ) (fault : RangeFault) → faults_mid ≡ faults → Progress told of offset count gs (g ∷ left) place rest held now touches touches_now
        → Stopped told here (range_of place rest g) now next faults_mid faults_now touches_now touches_next fault
        → Stopped told (blocks_met of offset count gs) (range_of offset count (joined gs)) held next faults faults_now touches touches_next fault
    stops faults faults_mid faults_now fault calm p w =
        let behind = blocks_met of (place - length g) (rest - (length g - place)) left in
        let bytes_behind = range_of (place - length g) (rest - (length g - place)) (joined left) in
        record {
          loss = λ stood. subst (λ (l : List Held). IsFirstLoss told l fault) (sym p.blocks) (loss-among told p.done here behind fault p.are_held (w.loss (subst (λ n. Stood n faults_now) (sym calm) stood)));
          written = subst (λ (b : List ℕ). AppendsPrefix b held next) (sym (p.bytes ∙ ap (λ (l : List ℕ). p.sent ++ l) (range_two place rest g (joined left))))
              (prefix-behind p.sent (range_of place rest g ++ bytes_behind) held now next p.written (prefix-more (range_of place rest g) bytes_behind now next w.written));
          steps = omega (arith, p.steps, w.steps, ap length p.blocks, length-append p.done (here ++ behind), length-append here behind);
        }

-- ---- a part and those below it

-- a whole file without metadata is the part over its bytes
pub whole-none : (X : List ℕ → List ℕ) (c w k : ℕ) (b : List ℕ) → whole_part X c w none k b ≡ part_over X c w k b
unfolding whole_part part_over
whole-none X c w zero b = refl
whole-none X c w (suc k) b = refl

pub whole-none-blocks : (X : List ℕ → List ℕ) (c w k : ℕ) (b : List ℕ) → whole_blocks X c w none k b ≡ blocks_over X c w k b
unfolding whole_blocks blocks_over
whole-none-blocks X c w zero b = refl
whole-none-blocks X c w (suc k) b = refl

abbrev at_parts : (List ℕ → List ℕ) → Profile → ℕ → List ℕ → List Part
at_parts X p k bytes = map (part_over X p.chunk p.width k) (groups (span p.chunk p.width k) bytes)

-- what holds of each holds at a place
each_at : (P : List ℕ → Type 0) (gs : List (List ℕ)) (i : ℕ) → i < length gs → AllByRecursion P gs → P (get_or gs i [])
each_at P [] i low h = absurd (omega arith)
each_at P (g ∷ gs) zero low h = h.0
each_at P (g ∷ gs) (suc i) low h = each_at P gs i (omega arith) h.1

agrees_front : (held : Lookup) (l m : List Held) → blocks.Agrees held (l ++ m) → blocks.Agrees held l
agrees_front held [] m h = tt
agrees_front held (b ∷ l) m h = (h.0, agrees_front held l m h.1)

agrees_back : (held : Lookup) (l m : List Held) → blocks.Agrees held (l ++ m) → blocks.Agrees held m
agrees_back held [] m h = h
agrees_back held (b ∷ l) m h = agrees_back held l m h.1

agrees_at : (f : List ℕ → List Held) (held : Lookup) (gs : List (List ℕ)) (i : ℕ) → i < length gs → blocks.Agrees held (flat_map f gs) → blocks.Agrees held (f (get_or gs i []))
agrees_at f held [] i low h = absurd (omega arith)
agrees_at f held (g ∷ gs) zero low h = agrees_front held (f g) (flat_map f gs) h
agrees_at f held (g ∷ gs) (suc i) low h = agrees_at f held gs i (omega arith) (agrees_back held (f g) (flat_map f gs) h)

module _ (X : List ℕ → List ℕ) (good : IsHash X) (p : Profile) where
  some_wide : IsTrue (is_profile p) → 1 ≤ p.width
  some_wide ok = let two : 2 ≤ p.width = (kept p ok).two in omega arith

  total : IsTrue (is_profile p) → (k : ℕ) (bytes : List ℕ) → sum (node_over (at_parts X p k bytes)).sizes ≡ length bytes
  total ok k bytes = sum-map (λ (m : Part). m.size) (at_parts X p k bytes) ∙ sum_sizes X good p ok (groups (span p.chunk p.width k) bytes) (part_over X p.chunk p.width k) (sub-size X good p ok k)
      ∙ ap length (joined-split (span p.chunk p.width k) (span p.chunk p.width k) bytes)

  module _ (rows : ℕ) (cid : Cid) (declared : Option ℕ) (meta : Meta) (bytes : List ℕ) where
    -- the planned node
    abbrev planned_parts : ℕ → NodeParts
    planned_parts k = record { parts = at_parts X p k bytes; meta = meta }

    node_cid : (k : ℕ) → IsFilePart X p rows meta (suc k) cid declared bytes → cid ≡ (root_held X meta (at_parts X p k bytes)).0
    unfolding whole_part
    node_cid k is = is.cid_is

    no_leaf : IsFilePart X p rows meta zero cid declared bytes → cid.codec ≡ DagPb → ⊥
    unfolding whole_part
    no_leaf is codec = (let no : Raw ≡ DagPb = sym (ap (λ (c : Cid). c.codec) is.cid_is) ∙ codec in cc)

    no_node : (k : ℕ) → IsFilePart X p rows meta (suc k) cid declared bytes → cid.codec ≡ Raw → ⊥
    no_node k is codec = (let no : DagPb ≡ Raw = sym (ap (λ (c : Cid). c.codec) (node_cid k is)) ∙ codec in cc)

    stands : (k : ℕ) → IsFilePart X p rows meta (suc k) cid declared bytes → MayStand rows declared (planned_parts k)
    stands k is = record {
      valid = root_node-valid X good p is.profile meta is.good k bytes is.fits.few is.fits.small;
      some = omega (arith, is.low);
      carries = is.carries;
      size = sized declared is.size;
    }
      where
        sized : (declared : Option ℕ) → WithSome declared (λ n. length bytes ≡ n) → WithSome declared (λ n. sum (node_over (at_parts X p k bytes)).sizes ≡ n)
        sized None h = tt
        sized (Some n) h = total is.profile k bytes ∙ h

    agrees_own : (k : ℕ) (told : Told) → Agrees told (whole_blocks X p.chunk p.width meta (suc k) bytes) → Agrees told (root_held X meta (at_parts X p k bytes) ∷ flat_map (blocks_over X p.chunk p.width k) (groups (span p.chunk p.width k) bytes))
    unfolding whole_blocks
    agrees_own k told h = h

    agrees_below : (told : Told) (b : Held) (l : List Held) → Agrees told (b ∷ l) → Agrees told l
    agrees_below None b l h = absurd h
    agrees_below (Some t) b l h = h.1

    -- the node that was loaded is the planned one
    planned : (k : ℕ) (before : Seen) (parts : NodeParts) → IsFilePart X p rows meta (suc k) cid declared bytes → Agrees before.told (whole_blocks X p.chunk p.width meta (suc k) bytes) → HasParts rows declared cid before parts
        → (parts.parts ≡ at_parts X p k bytes) × Holds before.told (root_held X meta (at_parts X p k bytes) ∷ [])
    planned k before parts is agrees has =
        let block = the_block before.told (root_held X meta (at_parts X p k bytes)) (flat_map (blocks_over X p.chunk p.width k) (groups (span p.chunk p.width k) bytes)) cid (parts_block parts) (node_cid k is) (agrees_own k before.told agrees) has.is_held in
        (ap (λ (n : NodeParts). n.parts) (same_parts parts (planned_parts k) has.stands.valid (stands k is).valid block.0), block.1)

    -- what is read below a node is read of it
    up : (k : ℕ) (before mid now : Seen) (offset count : ℕ) (held held_now : SinkTold) (touches touches_mid touches_now : ℕ) (r : Result ℕ RangeFault)
        → mid.told ≡ before.told → mid.faults ≡ before.faults → touches_mid ≡ touches + 1 → Holds before.told (root_held X meta (at_parts X p k bytes) ∷ [])
        → ReadsPart mid.told (blocks_met (λ o n g. blocks_read X p.chunk p.width none k o n g) offset count (groups (span p.chunk p.width k) bytes)) (range_of offset count (joined (groups (span p.chunk p.width k) bytes)))
        held held_now mid.faults now.faults touches_mid touches_now r
        → ReadsPart before.told (blocks_read X p.chunk p.width meta (suc k) offset count bytes) (range_of offset count bytes) held held_now before.faults now.faults touches touches_now r
    unfolding blocks_read
    up k before mid now offset count held held_now touches touches_mid touches_now (Ok n) same calm steps has read =
        let whole = joined-split (span p.chunk p.width k) (span p.chunk p.width k) bytes in
        let below = blocks_met (λ o n g. blocks_read X p.chunk p.width none k o n g) offset count (groups (span p.chunk p.width k) bytes) in
        let bytes_are : range_of offset count (joined (groups (span p.chunk p.width k) bytes)) ≡ range_of offset count bytes = ap (range_of offset count) whole in
        record {
          count = read.count ∙ ap length bytes_are;
          blocks = Holds-append before.told (root_held X meta (at_parts X p k bytes) ∷ []) below has (subst (λ (t : Told). Holds t below) same read.blocks);
          written = read.written ∙ ap (after held) bytes_are;
          steps = omega (arith, read.steps);
        }
    up k before mid now offset count held held_now touches touches_mid touches_now (Err fault) same calm steps has read =
        let whole = joined-split (span p.chunk p.width k) (span p.chunk p.width k) bytes in
        let below = blocks_met (λ o n g. blocks_read X p.chunk p.width none k o n g) offset count (groups (span p.chunk p.width k) bytes) in
        record {
          loss = λ stood. subst (λ (l : List Held). IsFirstLoss before.told (root_held X meta (at_parts X p k bytes) ∷ l) fault) (append-nil below)
              (loss-among before.told (root_held X meta (at_parts X p k bytes) ∷ []) below [] fault has
              (subst (λ (t : Told). IsFirstLoss t below fault) same (read.loss (subst (λ n. Stood n now.faults) (sym calm) stood))));
          written = subst (λ (b : List ℕ). AppendsPrefix b held held_now) (ap (range_of offset count) whole) read.written;
          steps = omega (arith, read.steps);
        }

    -- of a node that was loaded, what is read of its parts
    pub part-node : (k : ℕ) (before mid now : Seen) (parts : NodeParts) (slice : List Part) (offset count : ℕ) (held held_now : SinkTold) (touches touches_mid touches_now : ℕ) (r : Result ℕ RangeFault)
        → cid.codec ≡ DagPb → HasParts rows declared cid before parts → slice ≡ parts.parts → mid.told ≡ before.told → mid.faults ≡ before.faults → touches_mid ≡ touches + 1
        → ((q : Profile) (j : ℕ) (gs : List (List ℕ)) → ArePartsOver X q (rows - 1) j slice gs → Agrees mid.told (flat_map (blocks_over X q.chunk q.width j) gs)
        → ReadsPart mid.told (blocks_met (λ o n g. blocks_read X q.chunk q.width none j o n g) offset count gs) (range_of offset count (joined gs)) held held_now mid.faults now.faults touches_mid touches_now r)
        → IsFilePart X p rows meta k cid declared bytes → Agrees before.told (whole_blocks X p.chunk p.width meta k bytes)
        → ReadsPart before.told (blocks_read X p.chunk p.width meta k offset count bytes) (range_of offset count bytes) held held_now before.faults now.faults touches touches_now r
    part-node zero before mid now parts slice offset count held held_now touches touches_mid touches_now r codec has sliced same calm steps below is agrees = absurd (no_leaf is codec)
    part-node (suc k) before mid now parts slice offset count held held_now touches touches_mid touches_now r codec has sliced same calm steps below is agrees =
        let plan = planned k before parts is agrees has in
        up k before mid now offset count held held_now touches touches_mid touches_now r same calm steps plan.1
        (below p k (groups (span p.chunk p.width k) bytes)
        (record { profile = is.profile; low = omega (arith, is.low); same = sliced ∙ plan.0; fits = groups_fit p k bytes (kept p is.profile).some (some_wide is.profile) is.fits.small })
        (subst (λ (t : Told). Agrees t (flat_map (blocks_over X p.chunk p.width k) (groups (span p.chunk p.width k) bytes))) (sym same) (agrees_below before.told (root_held X meta (at_parts X p k bytes)) (flat_map (blocks_over X p.chunk p.width k) (groups (span p.chunk p.width k) bytes)) (agrees_own k before.told agrees))))

    node-lost : (Bad : Role → List ℕ → Type 0) (k : ℕ) (before now : Seen) (l : List Held) (fault : StoreFault) → LoadsParts rows declared cid before now (Err fault) → Answers {A = NodeParts} X Bad (Err fault) before now
        → IsFilePart X p rows meta (suc k) cid declared bytes → Agrees before.told (whole_blocks X p.chunk p.width meta (suc k) bytes) → Stood before.faults now.faults
        → IsFirstLossOf before.told (root_held X meta (at_parts X p k bytes) ∷ l) fault
    node-lost Bad k before now l Failed loads cause is agrees stood = let r = cause.rose in omega (arith, r, stood)
    node-lost Bad k before now l (Damaged c) loads cause is agrees stood = let r = cause.rose in omega (arith, r, stood)
    node-lost Bad k before now l (Missing c) loads cause is agrees stood = missing-first before.told (root_held X meta (at_parts X p k bytes)) l c (loads.0 ∙ node_cid k is)
        (subst (λ (d : Cid). IfSome before.told (λ t. held_at t d ≡ None)) (sym loads.0) loads.1)
    node-lost Bad k before now l (BadBlock c role) loads cause is agrees stood =
        loads.none (planned_parts k) (stands k is) (the_block before.told (root_held X meta (at_parts X p k bytes)) (flat_map (blocks_over X p.chunk p.width k) (groups (span p.chunk p.width k) bytes)) cid now.lent (node_cid k is) (agrees_own k before.told agrees) loads.is_held).0
    node-lost Bad k before now l (Clash c x y) loads cause is agrees stood = loads
    node-lost Bad k before now l Memory loads cause is agrees stood = tt

    -- of a node that was not loaded
    pub part-lost : (Bad : Role → List ℕ → Type 0) (k : ℕ) (before now : Seen) (offset count : ℕ) (held : SinkTold) (touches touches_now : ℕ) (fault : StoreFault)
        → cid.codec ≡ DagPb → LoadsParts rows declared cid before now (Err fault) → Answers {A = NodeParts} X Bad (Err fault) before now → touches_now ≡ touches + 1
        → IsFilePart X p rows meta k cid declared bytes → Agrees before.told (whole_blocks X p.chunk p.width meta k bytes)
        → Stopped before.told (blocks_read X p.chunk p.width meta k offset count bytes) (range_of offset count bytes) held held before.faults now.faults touches touches_now (Store fault)
    unfolding blocks_read
    part-lost Bad zero before now offset count held touches touches_now fault codec loads cause steps is agrees = absurd (no_leaf is codec)
    part-lost Bad (suc k) before now offset count held touches touches_now fault codec loads cause steps is agrees = record {
      loss = λ stood. node-lost Bad k before now (blocks_met (λ o n g. blocks_read X p.chunk p.width none k o n g) offset count (groups (span p.chunk p.width k) bytes)) fault loads cause is agrees stood;
      written = prefix-none (range_of offset count bytes) held;
      steps = omega arith;
    }

    -- of a leaf
    pub part-leaf : (k : ℕ) (told : Told) (offset count : ℕ) (held held_now : SinkTold) (faults faults_now touches touches_now : ℕ) (r : Result ℕ RangeFault)
        → cid.codec ≡ Raw
        → ((b : List ℕ) → cid ≡ (leaf_held X b).0 → WithSome declared (λ n. length b ≡ n) → Agrees told (leaf_held X b ∷ [])
        → ReadsPart told (leaf_held X b ∷ []) (range_of offset count b) held held_now faults faults_now touches touches_now r)
        → IsFilePart X p rows meta k cid declared bytes → Agrees told (whole_blocks X p.chunk p.width meta k bytes)
        → ReadsPart told (blocks_read X p.chunk p.width meta k offset count bytes) (range_of offset count bytes) held held_now faults faults_now touches touches_now r
    unfolding blocks_read whole_blocks whole_part
    part-leaf zero told offset count held held_now faults faults_now touches touches_now r codec read is agrees = read bytes is.cid_is is.size agrees
    part-leaf (suc k) told offset count held held_now faults faults_now touches touches_now r codec read is agrees = absurd (no_node k is codec)

  -- one of the parts of a node
  pub one-part : (rows k : ℕ) (part : Part) (g : List ℕ) → ArePartsOver X p rows k (part ∷ []) (g ∷ []) → IsFilePart X p rows none k part.entry.cid (Some part.size) g
  one-part rows k part g is =
      let same : part ≡ part_over X p.chunk p.width k g = cc in
      record {
        profile = is.profile;
        low = is.low;
        good = none-is_meta;
        carries = λ lt. refl;
        cid_is = ap (λ (m : Part). m.entry.cid) (same ∙ sym (whole-none X p.chunk p.width k g));
        size = sym (ap (λ (m : Part). m.size) same ∙ sub-size X good p is.profile k g);
        fits = is.fits.0;
      }

  pub size-part : (rows k : ℕ) (part : Part) (g : List ℕ) → ArePartsOver X p rows k (part ∷ []) (g ∷ []) → part.size ≡ length g
  size-part rows k part g is = sym (one-part rows k part g is).size

  -- one of several
  pub at-part : (rows k i : ℕ) (parts : List Part) (part : Part) (gs : List (List ℕ)) → i < length parts → part ≡ get_or parts i part → ArePartsOver X p rows k parts gs
      → (drop i gs ≡ get_or gs i [] ∷ drop (i + 1) gs) × ArePartsOver X p rows k (part ∷ []) (get_or gs i [] ∷ [])
  at-part rows k i parts part gs low is over =
      let count : length parts ≡ length gs = ap length over.same ∙ length-map gs (part_over X p.chunk p.width k) in
      let below : i < length gs = omega arith in
      let same : part ≡ part_over X p.chunk p.width k (get_or gs i []) = is ∙ ap (λ (l : List Part). get_or l i part) over.same ∙ get_or-map (part_over X p.chunk p.width k) gs i [] part below in
      (drop_more gs i [] below, record { profile = over.profile; low = over.low; same = ap (λ (m : Part). m ∷ []) same; fits = (each_at (Fits p k) gs i below over.fits, tt) })

  pub at-agrees : (k i : ℕ) (told : Told) (gs : List (List ℕ)) → i < length gs → Agrees told (flat_map (blocks_over X p.chunk p.width k) gs) → Agrees told (blocks_over X p.chunk p.width k (get_or gs i []))
  at-agrees k i None gs low h = h
  at-agrees k i (Some t) gs low h = agrees_at (blocks_over X p.chunk p.width k) (held_at t) gs i low h

  -- the loop over the parts of a node
  module _ (rows k i : ℕ) (parts : List Part) (part : Part) (gs : List (List ℕ)) (low : i < length parts) (is : part ≡ get_or parts i part) (over : ArePartsOver X p rows k parts gs) where
    abbrev of : ℕ → ℕ → List ℕ → List Held
    of o n g = blocks_read X p.chunk p.width none k o n g

    few_groups : i < length gs
    few_groups = let count : length parts ≡ length gs = ap length over.same ∙ length-map gs (part_over X p.chunk p.width k) in omega arith

    left_is : drop i gs ≡ get_or gs i [] ∷ drop (i + 1) gs
    left_is = (at-part rows k i parts part gs low is over).0

    one : ArePartsOver X p rows k (part ∷ []) (get_or gs i [] ∷ [])
    one = (at-part rows k i parts part gs low is over).1

    module _ (before mid now : Seen) (offset count place rest : ℕ) (held held_mid held_now : SinkTold) (touches touches_mid touches_now : ℕ) (same : mid.told ≡ before.told) where
      agrees_one : Agrees before.told (flat_map (blocks_over X p.chunk p.width k) gs) → Agrees mid.told (blocks_over X p.chunk p.width k (get_or gs i []))
      agrees_one agrees = subst (λ (t : Told). Agrees t (blocks_over X p.chunk p.width k (get_or gs i []))) (sym same) (at-agrees k i before.told gs few_groups agrees)

      pub loop-on : (n : ℕ) → ((q : Profile) (j : ℕ) (g : List ℕ) → ArePartsOver X q rows j (part ∷ []) (g ∷ []) → Agrees mid.told (blocks_over X q.chunk q.width j g)
          → WroteRange mid.told (cond (meets place rest g) (blocks_read X q.chunk q.width none j place rest g) []) (range_of place rest g) held_mid held_now touches_mid touches_now n)
          → Agrees before.told (flat_map (blocks_over X p.chunk p.width k) gs)
          → Progress before.told of offset count gs (drop i gs) place rest held held_mid touches touches_mid
          → Progress before.told of offset count gs (drop (i + 1) gs) (place - part.size) (rest - n) held held_now touches touches_now
      loop-on n read agrees progress =
          let g = get_or gs i [] in
          let wrote : WroteRange before.told (cond (meets place rest g) (of place rest g) []) (range_of place rest g) held_mid held_now touches_mid touches_now n
          = subst (λ (t : Told). WroteRange t (cond (meets place rest g) (of place rest g) []) (range_of place rest g) held_mid held_now touches_mid touches_now n) same (read p k g one (agrees_one agrees)) in
          subst (λ (m : ℕ). Progress before.told of offset count gs (drop (i + 1) gs) (place - m) (rest - n) held held_now touches touches_now) (sym (size-part rows k part g one))
          (goes_on before.told of offset count gs held held_mid held_now touches touches_mid touches_now place rest g (drop (i + 1) gs) n
          (subst (λ (l : List (List ℕ)). Progress before.told of offset count gs l place rest held held_mid touches touches_mid) left_is progress) wrote)

      pub loop-stops : (fault : RangeFault) → mid.faults ≡ before.faults
          → ((q : Profile) (j : ℕ) (g : List ℕ) → ArePartsOver X q rows j (part ∷ []) (g ∷ []) → Agrees mid.told (blocks_over X q.chunk q.width j g)
          → Stopped mid.told (cond (meets place rest g) (blocks_read X q.chunk q.width none j place rest g) []) (range_of place rest g) held_mid held_now mid.faults now.faults touches_mid touches_now fault)
          → Agrees before.told (flat_map (blocks_over X p.chunk p.width k) gs)
          → Progress before.told of offset count gs (drop i gs) place rest held held_mid touches touches_mid
          → Stopped before.told (blocks_met of offset count gs) (range_of offset count (joined gs)) held held_now before.faults now.faults touches touches_now fault
      loop-stops fault calm read agrees progress =
          let g = get_or gs i [] in
          let stopped : Stopped before.told (cond (meets place rest g) (of place rest g) []) (range_of place rest g) held_mid held_now mid.faults now.faults touches_mid touches_now fault
          = subst (λ (t : Told). Stopped t (cond (meets place rest g) (of place rest g) []) (range_of place rest g) held_mid held_now mid.faults now.faults touches_mid touches_now fault) same (read p k g one (agrees_one agrees)) in
          stops before.told of offset count gs held held_mid held_now touches touches_mid touches_now place rest g (drop (i + 1) gs) before.faults mid.faults now.faults fault calm
          (subst (λ (l : List (List ℕ)). Progress before.told of offset count gs l place rest held held_mid touches touches_mid) left_is progress) stopped

  -- where the loop has ended nothing is left
  pub loop-ends : (rows k i : ℕ) (parts : List Part) (gs : List (List ℕ)) (told : Told) (offset count place rest : ℕ) (held now : SinkTold) (touches touches_now : ℕ) → length parts ≤ i → ArePartsOver X p rows k parts gs
      → Progress told (λ o n g. blocks_read X p.chunk p.width none k o n g) offset count gs (drop i gs) place rest held now touches touches_now
      → WroteRange told (blocks_met (λ o n g. blocks_read X p.chunk p.width none k o n g) offset count gs) (range_of offset count (joined gs)) held now touches touches_now (count - rest)
  loop-ends rows k i parts gs told offset count place rest held now touches touches_now high over progress =
      let number : length parts ≡ length gs = ap length over.same ∙ length-map gs (part_over X p.chunk p.width k) in
      ends told (λ o n g. blocks_read X p.chunk p.width none k o n g) offset count gs held now now touches touches_now touches_now place rest
      (subst (λ (l : List (List ℕ)). Progress told (λ o n g. blocks_read X p.chunk p.width none k o n g) offset count gs l place rest held now touches touches_now) (drop_all i gs (omega arith)) progress)

  -- a part that the range doesn't meet
  pub unmet : (told : Told) (k offset count : ℕ) (g : List ℕ) (held : SinkTold) (touches : ℕ) → (length g ≤ offset) ⊎ (count ≡ 0)
      → WroteRange told (cond (meets offset count g) (blocks_read X p.chunk p.width none k offset count g) []) (range_of offset count g) held held touches touches 0
  unmet told k offset count g held touches h =
      let no = not_met offset count g h in
      subst (λ (b : Bool). WroteRange told (cond b (blocks_read X p.chunk p.width none k offset count g) []) (range_of offset count g) held held touches touches 0) (sym no.0)
      (subst (λ (l : List ℕ). WroteRange told [] l held held touches touches 0) (sym no.1) (record { count = refl; blocks = holds-nothing told; written = sym (after-none held); steps = omega arith }))

  -- one that it meets
  pub met : (rows k : ℕ) (part : Part) (g : List ℕ) (told : Told) (offset count : ℕ) (held held_now : SinkTold) (faults faults_now touches touches_now : ℕ) (r : Result ℕ RangeFault)
      → offset < part.size → count ≢ 0
      → ((q : Profile) (n : Meta) (j : ℕ) (b : List ℕ) → IsFilePart X q rows n j part.entry.cid (Some part.size) b → Agrees told (whole_blocks X q.chunk q.width n j b)
      → ReadsPart told (blocks_read X q.chunk q.width n j offset count b) (range_of offset count b) held held_now faults faults_now touches touches_now r)
      → ArePartsOver X p rows k (part ∷ []) (g ∷ []) → Agrees told (blocks_over X p.chunk p.width k g)
      → ReadsPart told (cond (meets offset count g) (blocks_read X p.chunk p.width none k offset count g) []) (range_of offset count g) held held_now faults faults_now touches touches_now r
  met rows k part g told offset count held held_now faults faults_now touches touches_now r low some read over agrees =
      let size = size-part rows k part g over in
      subst (λ (b : Bool). ReadsPart told (cond b (blocks_read X p.chunk p.width none k offset count g) []) (range_of offset count g) held held_now faults faults_now touches touches_now r) (sym (is_met offset count g (omega arith) some))
      (read p none k g (one-part rows k part g over) (subst (Agrees told) (sym (whole-none-blocks X p.chunk p.width k g)) agrees))

  -- the root of a file
  pub root-part : (cid : Cid) (meta : Meta) (bytes : List ℕ) (height : ℕ) → IsFile X p meta bytes cid height → IsFilePart X p 22 meta height cid None bytes
  root-part cid meta bytes height is = record {
    profile = is.profile;
    low = few_file_rows p.chunk p.width meta (length bytes) height (kept p is.profile).two is.few is.rooted.least;
    good = is.good;
    carries = λ lt. absurd (omega (arith, lt));
    cid_is = is.cid_is ∙ ap (λ (e : Entry). e.cid) is.rooted.entry;
    size = tt;
    fits = record { few = is.rooted.least.fits; small = small p.chunk (length bytes) is.few (kept p is.profile).short };
  }
    where
      small : (c n : ℕ) → n ≤ c * 4194304 → c ≤ 1048576 → n < 2 ^ 63
      small c n a b = omega arith

  pub root-agrees : (cid : Cid) (meta : Meta) (bytes : List ℕ) (height : ℕ) (told : Told) → IsFile X p meta bytes cid height → Agrees told (file_plan X p meta bytes).blocks
      → Agrees told (whole_blocks X p.chunk p.width meta height bytes)
  root-agrees cid meta bytes height None is agrees = agrees
  root-agrees cid meta bytes height (Some t) is agrees = (is.rooted.agrees (held_at t)).0 agrees

-- the answer of the reading of a range, as three facts
pub as-value : (told : Told) (l : List Held) (bytes : List ℕ) (held held_now : SinkTold) (faults faults_now touches touches_now : ℕ) (r : Result ℕ RangeFault)
    → ReadsPart told l bytes held held_now faults faults_now touches touches_now r → Stood faults faults_now → WritesOver told l bytes held held_now r
as-value told l bytes held held_now faults faults_now touches touches_now (Ok n) read stood = (read.count, read.blocks, read.written)
as-value told l bytes held held_now faults faults_now touches touches_now (Err Sink) read stood = tt
as-value told l bytes held held_now faults faults_now touches touches_now (Err (Store fault)) read stood = read.loss stood

pub as-fault : (told : Told) (l : List Held) (bytes : List ℕ) (held held_now : SinkTold) (faults faults_now touches touches_now : ℕ) (r : Result ℕ RangeFault)
    → ReadsPart told l bytes held held_now faults faults_now touches touches_now r → IfErr r (λ f. AppendsPrefix bytes held held_now)
as-fault told l bytes held held_now faults faults_now touches touches_now (Ok n) read = tt
as-fault told l bytes held held_now faults faults_now touches touches_now (Err fault) read = read.written

pub as-touches : (told : Told) (l : List Held) (bytes : List ℕ) (held held_now : SinkTold) (faults faults_now touches touches_now : ℕ) (r : Result ℕ RangeFault)
    → ReadsPart told l bytes held held_now faults faults_now touches touches_now r → touches_now ≤ touches + length l
as-touches told l bytes held held_now faults faults_now touches touches_now (Ok n) read = read.steps
as-touches told l bytes held held_now faults faults_now touches touches_now (Err fault) read = read.steps

-- ---- how many bytes were sent, whatever was read

pub sends-none : (count : ℕ) (held : SinkTold) → AppendsCount (count - count) held held
sends-none count held = record { bytes = []; count = omega arith; appended = sym (after-none held) }

pub sends-nothing : (most : ℕ) (held : SinkTold) → AppendsAtMost most held held
sends-nothing most held = record { count = 0; few = omega arith; appends = record { bytes = []; count = refl; appended = sym (after-none held) } }

pub sends-more : (count rest n : ℕ) (held mid now : SinkTold) → rest ≤ count → AppendsCount (count - rest) held mid → (n ≤ rest) × AppendsCount n mid now → AppendsCount (count - (rest - n)) held now
sends-more count rest n held mid now few a b = record {
  bytes = a.bytes ++ b.1.bytes;
  count = omega (arith, a.count, b.1.count, b.0, length-append a.bytes b.1.bytes);
  appended = b.1.appended ∙ ap (λ h. after h b.1.bytes) a.appended ∙ after-after held a.bytes b.1.bytes;
}

pub sends-last : (count rest : ℕ) (held mid now : SinkTold) → rest ≤ count → AppendsCount (count - rest) held mid → AppendsAtMost rest mid now → AppendsAtMost count held now
sends-last count rest held mid now few a b = record {
  count = (count - rest) + b.count;
  few = omega (arith, b.few);
  appends = record {
    bytes = a.bytes ++ b.appends.bytes;
    count = omega (arith, a.count, b.appends.count, length-append a.bytes b.appends.bytes);
    appended = b.appends.appended ∙ ap (λ h. after h b.appends.bytes) a.appended ∙ after-after held a.bytes b.appends.bytes;
  };
}
