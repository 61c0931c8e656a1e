-- The old parts of a file.
use Rattle.std.proofs.Common.{◌≡◌, ◌≢◌, ℕ, zero, suc, pred, ◌+◌, ◌-◌, ◌^◌, ◌<◌, ◌≤◌, List, [], ◌∷◌, ◌++◌, length, map, min, refl, ap, arith, sym, ◌∙◌, subst, append-nil, length-append, add-one, Bool, true, false, Option, None, Some, ◌⊎◌, inl, inr, Result, Ok, Err, IsTrue}
use Rattle.std.specs.Prelude.{◌↔◌, ◌&&◌, ◌==◌, IfOk, IfSome, nat_lt}
use Rattle.std.specs.List.{AllByRecursion}
use Rattle.std.proofs.lemmas.Bool.Decides.{nat_tests}
use Rattle.std.proofs.lemmas.Bool.{false≢true}
use Rattle.uf_cid.specs.declared.bytes.StrictFault.TheVariants.{NotCanonical, Memory as StrictMemory}
use Rattle.uf_tree.specs.Metas.{none}
use Rattle.uf_cid.specs.Blocks.{Held}
use Rattle.uf_cid.specs.declared.cid.Cid.{Cid}
use Rattle.uf_fileread.specs.Parts.{AreParts, parts_block}
use Rattle.uf_fileread.specs.declared.node_parts.NodeParts.{NodeParts}
use Rattle.uf_fileread.proofs.Nodes.{same_parts}
use Rattle.uf_fileread.proofs.Sending.{the_block}
use Rattle.uf_edge.specs.Counts.{Stood}
use Rattle.uf_store.specs.declared.store.StoreFault.{StoreFault}
use Rattle.uf_store.specs.declared.store.StoreFault.TheVariants.{Failed, Damaged, Missing, BadBlock, Clash, Memory}
use Rattle.uf_store.specs.Clashes.{IsLoadFault}
use Rattle.uf_store.specs.Contents.{Told, held_at}
use Rattle.uf_store.specs.Faults.{NoneIsBad, Shows}
use Rattle.uf_store.specs.Keeping.{Agrees}
use Rattle.uf_store.specs.Lost.{IsLossOf, LosesOne}
use Rattle.uf_store.specs.Seen.{Seen}
use Rattle.uf_tree.specs.declared.nodes.Part.{Part}
use Rattle.uf_tree.specs.declared.profile.Profile.{Profile}
use Rattle.uf_tree.specs.Cutting.{joined}
use Rattle.uf_tree.specs.FilePlan.{groups, node_held, split_from}
use Rattle.uf_tree.specs.FileSub.{blocks_over, part_over, span}
use Rattle.uf_tree.specs.Profiles.{is_profile}
use Rattle.uf_tree.specs.Validity.{IsHash}
use Rattle.uf_tree.proofs.Groups.{joined-split}
use Rattle.uf_tree.proofs.Sub.{span-pos}
use Rattle.uf_tree.proofs.Told.{kept}
use Rattle.uf_tree.proofs.Valid.{file_node-valid, sub-size}
use Rattle.uf_fileedit.specs.Changes.{AreCut, AreOld, FitsOld, IsBelow, IsIn, IsOld, IsOldPart, blocks_of_all, old_blocks}
use Rattle.uf_fileedit.specs.Planned.{IsPlannedNode, are_planned, is_of_height}
use Rattle.uf_fileedit.proofs.Numbers.{span-rises}

-- a load that fails while the store stays calm has lost one of the blocks
pub missing_one : (told : Told) (b : Held) (l : List Held) (cid : Cid) → cid ≡ b.0 → IfSome told (λ t. held_at t cid ≡ None) → LosesOne told cid (b ∷ l)
missing_one None b l cid is gone = tt
missing_one (Some t) b l cid is gone = inl (is, ap (held_at t) (sym is) ∙ gone)

pub need_lost : (X : List ℕ → List ℕ) (before now : Seen) (b : Held) (l : List Held) (cid : Cid) (fault : StoreFault) → cid ≡ b.0 → Shows X NoneIsBad fault before now → IsLoadFault cid fault → now.told ≡ before.told → Stood before.faults now.faults
    → IsLossOf before.told (b ∷ l) fault
need_lost X before now b l cid Failed is shows load same stood = let r = shows.rose in omega (arith, r, stood)
need_lost X before now b l cid (Damaged c) is shows load same stood = let r = shows.rose in omega (arith, r, stood)
need_lost X before now b l cid (Missing c) is shows load same stood =
    missing_one before.told b l c (load ∙ is) (subst (λ (t : Told). IfSome t (λ t. held_at t c ≡ None)) same shows.not_held)
need_lost X before now b l cid (BadBlock c role) is shows load same stood = load
need_lost X before now b l cid (Clash c x y) is shows load same stood = load
need_lost X before now b l cid Memory is shows load same stood = tt

-- ---- groups

-- a split whose first group has room for r
abbrev AreSplit : ℕ → ℕ → List ℕ → List (List ℕ) → Type 0
AreSplit s r a [] = length a ≤ r
AreSplit s r a (g ∷ gs) = (length a ≡ r) × AreCut s (g ∷ gs) × AllByRecursion (λ (h : List ℕ). 1 ≤ length h) (g ∷ gs)

more_split : (s r x : ℕ) (a : List ℕ) (gs : List (List ℕ)) → AreSplit s r a gs → AreSplit s (suc r) (x ∷ a) gs
more_split s r x a [] h = omega arith
more_split s r x a (g ∷ gs) h = (ap suc h.0, h.1, h.2)

new_group : (s x : ℕ) (a : List ℕ) (gs : List (List ℕ)) → 1 ≤ s → AreSplit s (pred s) a gs → AreCut s ((x ∷ a) ∷ gs) × AllByRecursion (λ (h : List ℕ). 1 ≤ length h) ((x ∷ a) ∷ gs)
new_group s x a [] pos h = (omega arith, (omega arith, tt))
new_group s x a (g ∷ gs) pos h = ((omega (arith, h.0), h.1), (omega arith, h.2))

split_are : (s r : ℕ) (b : List ℕ) → 1 ≤ s → r ≤ s → AreSplit s r (split_from s r b).0 (split_from s r b).1
split_are s r [] pos h = omega arith
split_are s zero (x ∷ b) pos h = let n = new_group s x _ _ pos (split_are s (pred s) b pos (omega arith)) in (refl, n.0, n.1)
split_are s (suc r) (x ∷ b) pos h = more_split s r x _ _ (split_are s r b pos (omega arith))

cut_split : (s : ℕ) (a : List ℕ) (gs : List (List ℕ)) → AreSplit s s a gs → AreCut s (a ∷ gs)
cut_split s a [] h = h
cut_split s a (g ∷ gs) h = (h.0, h.1)

pub groups-cut : (s : ℕ) (b : List ℕ) → 1 ≤ s → AreCut s (groups s b)
groups-cut s b pos = cut_split s (split_from s s b).0 (split_from s s b).1 (split_are s s b pos (omega arith))

some_split : (s : ℕ) (b a : List ℕ) (gs : List (List ℕ)) → 1 ≤ s → 1 ≤ length b → a ++ joined gs ≡ b → AreSplit s s a gs → AllByRecursion (λ (h : List ℕ). 1 ≤ length h) (a ∷ gs)
some_split s b a [] pos some whole h = (omega (arith, ap length whole, length-append a []), tt)
some_split s b a (g ∷ gs) pos some whole h = (omega (arith, h.0), h.2)

pub groups-some : (s : ℕ) (b : List ℕ) → 1 ≤ s → 1 ≤ length b → AllByRecursion (λ (h : List ℕ). 1 ≤ length h) (groups s b)
groups-some s b pos some = some_split s b (split_from s s b).0 (split_from s s b).1 pos some (joined-split s s b) (split_are s s b pos (omega arith))

-- each group is bytes that a part may have
each_fits : (p : Profile) (k : ℕ) (gs : List (List ℕ)) → AreCut (span p.chunk p.width k) gs → AllByRecursion (λ (h : List ℕ). 1 ≤ length h) gs → length (joined gs) < 2 ^ 63 → AllByRecursion (FitsOld p k) gs
each_fits p k [] cut some small = tt
each_fits p k (g ∷ []) cut some small = (record { few = cut; small = omega (arith, length-append g []); some = λ h. some.0 }, tt)
each_fits p k (g ∷ h ∷ gs) cut some small =
    let all : length (g ++ joined (h ∷ gs)) ≡ length g + length (joined (h ∷ gs)) = length-append g (joined (h ∷ gs)) in
    (record { few = omega (arith, cut.0); small = omega arith; some = λ _. some.0 }, each_fits p k (h ∷ gs) cut.1 some.1 (omega arith))

pub groups-fit : (p : Profile) (k : ℕ) (b : List ℕ) → IsTrue (is_profile p) → 1 ≤ length b → length b < 2 ^ 63 → AllByRecursion (FitsOld p k) (groups (span p.chunk p.width k) b)
groups-fit p k b ok some small =
    let pos : 1 ≤ span p.chunk p.width k = span-pos p.chunk p.width k (kept p ok).some (let two : 2 ≤ p.width = (kept p ok).two in omega arith) in
    each_fits p k (groups (span p.chunk p.width k) b) (groups-cut (span p.chunk p.width k) b pos) (groups-some (span p.chunk p.width k) b pos some)
    (subst (λ (l : List ℕ). length l < 2 ^ 63) (sym (joined-split (span p.chunk p.width k) (span p.chunk p.width k) b)) small)

-- ---- the parts of a planned node

codec_of : (X : List ℕ → List ℕ) (c w k : ℕ) (g : List ℕ) → is_of_height k (part_over X c w k g).entry.cid.codec ≡ true
unfolding part_over
codec_of X c w zero g = refl
codec_of X c w (suc k) g = refl

both : (a b c d : Bool) → a ≡ true → b ≡ true → c ≡ true → d ≡ true → (a && b && c && d) ≡ true
both a b c d p q r s = ap (λ x. x && b && c && d) p ∙ ap (λ x. true && x && c && d) q ∙ ap (λ x. true && true && x && d) r ∙ s

some_test : (n : ℕ) → 1 ≤ n → nat_lt 0 n ≡ true
some_test n h = grind (arith, nat_tests)

same_test : (a b : ℕ) → a ≡ b → (a == b) ≡ true
same_test a b h = grind (arith, nat_tests)

module _ (X : List ℕ → List ℕ) (good : IsHash X) (p : Profile) (ok : IsTrue (is_profile p)) where
  wide : 1 ≤ p.width
  wide = let two : 2 ≤ p.width = (kept p ok).two in omega arith

  pub pos : (k : ℕ) → 1 ≤ span p.chunk p.width k
  pos k = span-pos p.chunk p.width k (kept p ok).some wide

  planned-are : (k : ℕ) (gs : List (List ℕ)) → AreCut (span p.chunk p.width k) gs → AllByRecursion (λ (h : List ℕ). 1 ≤ length h) gs
      → are_planned (span p.chunk p.width k) k (length (joined gs)) (map (part_over X p.chunk p.width k) gs) ≡ true
  planned-are k [] cut some = refl
  planned-are k (g ∷ gs) cut some =
      let s = span p.chunk p.width k in
      let size : (part_over X p.chunk p.width k g).size ≡ length g = sub-size X good p ok k g in
      let all : length (g ++ joined gs) ≡ length g + length (joined gs) = length-append g (joined gs) in
      let left : length (g ++ joined gs) - (part_over X p.chunk p.width k g).size ≡ length (joined gs) = omega arith in
      let here : length g ≡ min (length (g ++ joined gs)) s = one s g gs cut in
      both _ _ _ _ (some_test (part_over X p.chunk p.width k g).size (omega (arith, some.0)))
      (same_test (part_over X p.chunk p.width k g).size (min (length (g ++ joined gs)) s) (size ∙ here))
      (codec_of X p.chunk p.width k g)
      (ap (λ n. are_planned s k n (map (part_over X p.chunk p.width k) gs)) left ∙ planned-are k gs (behind s g gs cut) some.1)
    where
      one : (s : ℕ) (g : List ℕ) (gs : List (List ℕ)) → AreCut s (g ∷ gs) → length g ≡ min (length (g ++ joined gs)) s
      one s g [] h = omega (arith, length-append g [])
      one s g (x ∷ gs) h = omega (arith, length-append g (joined (x ∷ gs)), h.0)

      behind : (s : ℕ) (g : List ℕ) (gs : List (List ℕ)) → AreCut s (g ∷ gs) → AreCut s gs
      behind s g [] h = tt
      behind s g (x ∷ gs) h = h.1

  abbrev at_parts : ℕ → List ℕ → List Part
  at_parts k b = map (part_over X p.chunk p.width k) (groups (span p.chunk p.width k) b)

  abbrev at_node : ℕ → List ℕ → NodeParts
  at_node k b = record { parts = at_parts k b; meta = none }

  module _ (k : ℕ) (part : Part) (b : List ℕ) (is : IsOldPart X p (suc k) part b) where
    own : Held
    own = node_held X (at_parts k b)

    some_bytes : 1 ≤ length b
    some_bytes = is.fits.some (omega arith)

    size_is : part.size ≡ length b
    size_is = ap (λ (m : Part). m.size) is.same ∙ sub-size X good p ok (suc k) b

    node_valid : AreParts (at_node k b)
    node_valid = file_node-valid X good p ok k b is.fits.few is.fits.small

    planned : (rows : ℕ) → rows ≤ 22 → IsPlannedNode p rows k part.size (at_node k b)
    planned rows low = record {
      valid = node_valid;
      few = omega arith;
      carries = refl;
      planned = ap (λ n. are_planned (span p.chunk p.width k) k n (at_parts k b)) (size_is ∙ sym (ap length (joined-split (span p.chunk p.width k) (span p.chunk p.width k) b)))
          ∙ planned-are k (groups (span p.chunk p.width k) b) (groups-cut (span p.chunk p.width k) b (pos k)) (groups-some (span p.chunk p.width k) b (pos k) some_bytes);
    }

    cid_is : part.entry.cid ≡ (node_held X (at_parts k b)).0
    unfolding part_over
    cid_is = ap (λ (m : Part). m.entry.cid) is.same

    pub below-in : (x : Held) → IsIn x (blocks_of_all X p k (groups (span p.chunk p.width k) b)) → IsIn x (blocks_over X p.chunk p.width (suc k) b)
    unfolding blocks_over
    below-in x h = inr h

    agrees_own : (told : Told) → Agrees told (blocks_over X p.chunk p.width (suc k) b) → Agrees told (node_held X (at_parts k b) ∷ blocks_of_all X p k (groups (span p.chunk p.width k) b))
    unfolding blocks_over
    agrees_own told h = h

    lost_own : (told : Told) (fault : StoreFault) → IsLossOf told (node_held X (at_parts k b) ∷ blocks_of_all X p k (groups (span p.chunk p.width k) b)) fault → IsLossOf told (blocks_over X p.chunk p.width (suc k) b) fault
    unfolding blocks_over
    lost_own told fault h = h

    pub are-old : AreOld X p (span p.chunk p.width k) k (at_parts k b) (groups (span p.chunk p.width k) b)
    are-old = record {
      same = refl;
      fits = groups-fit p k b ok some_bytes is.fits.small;
      cut = groups-cut (span p.chunk p.width k) b (pos k);
    }

    pub loaded : (rows : ℕ) (told : Told) (lent : List ℕ) (parts : NodeParts) → Agrees told (blocks_over X p.chunk p.width (suc k) b) → IfSome told (λ t. held_at t part.entry.cid ≡ Some lent) → IsPlannedNode p rows k part.size parts → lent ≡ parts_block parts
        → AreOld X p (span p.chunk p.width k) k parts.parts (groups (span p.chunk p.width k) b)
    loaded rows told lent parts agrees held read is_block =
        let block = the_block told (node_held X (at_parts k b)) (blocks_of_all X p k (groups (span p.chunk p.width k) b)) part.entry.cid lent cid_is (agrees_own told agrees) held in
        let same : parts ≡ at_node k b = same_parts parts (at_node k b) read.valid node_valid (sym is_block ∙ block.0) in
        subst (λ (n : NodeParts). AreOld X p (span p.chunk p.width k) k n.parts (groups (span p.chunk p.width k) b)) (sym same) are-old

    pub no_bad : (rows : ℕ) (told : Told) (lent : List ℕ) → rows ≤ 22 → Agrees told (blocks_over X p.chunk p.width (suc k) b) → IfSome told (λ t. held_at t part.entry.cid ≡ Some lent)
        → ((parts : NodeParts) → IsPlannedNode p rows k part.size parts → lent ≢ parts_block parts) → ⊥
    no_bad rows told lent low agrees held refuses = refuses (at_node k b) (planned rows low) (the_block told (node_held X (at_parts k b)) (blocks_of_all X p k (groups (span p.chunk p.width k) b)) part.entry.cid lent cid_is (agrees_own told agrees) held).0

    pub need-lost : (before now : Seen) (fault : StoreFault) → Shows X NoneIsBad fault before now → IsLoadFault part.entry.cid fault → now.told ≡ before.told → Stood before.faults now.faults → IsLossOf before.told (blocks_over X p.chunk p.width (suc k) b) fault
    need-lost before now fault shows load same stood = lost_own before.told fault (need_lost X before now (node_held X (at_parts k b)) (blocks_of_all X p k (groups (span p.chunk p.width k) b)) part.entry.cid fault cid_is shows load same stood)

-- a node that isn't as the layout has it
pub planned-elsewhere : (p : Profile) (rows k size : ℕ) (bytes : List ℕ) (parts : NodeParts) (slice : List Part) (b : Bool) → AreParts parts × (bytes ≡ parts_block parts) → slice ≡ parts.parts → b ≡ are_planned (span p.chunk p.width k) k size slice → b ≡ false
    → (NotCanonical ≡ StrictMemory) ⊎ ((v : NodeParts) → IsPlannedNode p rows k size v → bytes ≢ parts_block v)
planned-elsewhere p rows k size bytes parts slice b read same is fails =
    inr (λ v h e. false≢true (sym fails ∙ is ∙ ap (are_planned (span p.chunk p.width k) k size) (same ∙ ap (λ (n : NodeParts). n.parts) (same_parts parts v read.0 h.valid (sym read.1 ∙ e))) ∙ h.planned))

-- a node that carries metadata which it may not
pub planned-carried : (p : Profile) (rows k size : ℕ) (bytes : List ℕ) (parts : NodeParts) (b : Bool) → AreParts parts × (bytes ≡ parts_block parts) → IsTrue b ↔ parts.meta ≡ none → b ≡ false
    → (NotCanonical ≡ StrictMemory) ⊎ ((v : NodeParts) → IsPlannedNode p rows k size v → bytes ≢ parts_block v)
planned-carried p rows k size bytes parts b read iff fails =
    inr (λ v h e. false≢true (sym fails ∙ iff.1 (ap (λ (n : NodeParts). n.meta) (same_parts parts v read.0 h.valid (sym read.1 ∙ e)) ∙ h.carries)))

-- below too many nodes none may stand
pub planned-nowhere : (p : Profile) (rows k size above : ℕ) (bytes : List ℕ) → above ≡ rows - k → 22 < above → (NotCanonical ≡ StrictMemory) ⊎ ((v : NodeParts) → IsPlannedNode p rows k size v → bytes ≢ parts_block v)
planned-nowhere p rows k size above bytes is high = inr (λ v h e. absurd (let few : rows - k ≤ 22 = h.few in omega arith))

-- ---- the parts below an old part

module _ (X : List ℕ → List ℕ) (good : IsHash X) (p : Profile) (ok : IsTrue (is_profile p)) where
  module _ (k : ℕ) (part : Part) (b : List ℕ) (is : IsOldPart X p (k + 1) part b) where
    at_suc : IsOldPart X p (suc k) part b
    at_suc = subst (λ n. IsOldPart X p n part b) (add-one k) is

    agrees_suc : (told : Told) → Agrees told (blocks_over X p.chunk p.width (k + 1) b) → Agrees told (blocks_over X p.chunk p.width (suc k) b)
    agrees_suc told h = subst (λ n. Agrees told (blocks_over X p.chunk p.width n b)) (add-one k) h

    pub load-gives : (rows : ℕ) (told : Told) (lent : List ℕ) (parts : NodeParts) → Agrees told (blocks_over X p.chunk p.width (k + 1) b) → IfSome told (λ t. held_at t part.entry.cid ≡ Some lent) → IsPlannedNode p rows k part.size parts × (lent ≡ parts_block parts)
        → AreOld X p (span p.chunk p.width k) k parts.parts (groups (span p.chunk p.width k) b)
    load-gives rows told lent parts agrees held read = loaded X good p ok k part b at_suc rows told lent parts (agrees_suc told agrees) held read.0 read.1

    pub load-no_bad : (rows : ℕ) (told : Told) (lent : List ℕ) → rows ≤ 22 → Agrees told (blocks_over X p.chunk p.width (k + 1) b) → IfSome told (λ t. held_at t part.entry.cid ≡ Some lent)
        → (NotCanonical ≡ StrictMemory) ⊎ ((parts : NodeParts) → IsPlannedNode p rows k part.size parts → lent ≢ parts_block parts) → ⊥
    load-no_bad rows told lent low agrees held (inl e) = absurd (differ e)
      where
        differ : NotCanonical ≡ StrictMemory → ⊥
        differ e = cc
    load-no_bad rows told lent low agrees held (inr refuses) = no_bad X good p ok k part b at_suc rows told lent low (agrees_suc told agrees) held refuses

    pub load-lost : (before now : Seen) (fault : StoreFault) → Shows X NoneIsBad fault before now → IsLoadFault part.entry.cid fault → now.told ≡ before.told → Stood before.faults now.faults → IsLossOf before.told (blocks_over X p.chunk p.width (k + 1) b) fault
    load-lost before now fault shows load same stood = subst (λ n. IsLossOf before.told (blocks_over X p.chunk p.width n b) fault) (sym (add-one k)) (need-lost X good p ok k part b at_suc before now fault shows load same stood)

    pub in-suc : (x : Held) → IsIn x (blocks_of_all X p k (groups (span p.chunk p.width k) b)) → IsIn x (blocks_over X p.chunk p.width (k + 1) b)
    in-suc x h = subst (λ n. IsIn x (blocks_over X p.chunk p.width n b)) (sym (add-one k)) (below-in X good p ok k part b at_suc x h)

  module _ (told : Told) (top k : ℕ) (old : Option Part) (part : Part) (b : List ℕ) (some : old ≡ Some part) where
    part_at : (j : ℕ) → min top (k + 1) ≡ j → IsOld X p (min top (k + 1)) old b → IsOldPart X p j part b
    part_at j e is = subst (λ n. IsOldPart X p n part b) e (subst (λ (o : Option Part). IsOld X p (min top (k + 1)) o b) some is)

    blocks_at : (j : ℕ) → min top (k + 1) ≡ j → old_blocks X p (min top (k + 1)) old b ≡ blocks_over X p.chunk p.width j b
    blocks_at j e = ap (λ (o : Option Part). old_blocks X p (min top (k + 1)) o b) some ∙ ap (λ n. blocks_over X p.chunk p.width n b) e

    pub below-loaded : (r : Result (List Part) StoreFault) → k < top
        → ((b : List ℕ) → IsOldPart X p (k + 1) part b → Agrees told (blocks_over X p.chunk p.width (k + 1) b) → IfOk r (λ parts. AreOld X p (span p.chunk p.width k) k parts (groups (span p.chunk p.width k) b)))
        → IsOld X p (min top (k + 1)) old b → Agrees told (old_blocks X p (min top (k + 1)) old b)
        → IfOk r (λ parts. IsBelow X p top k (old_blocks X p (min top (k + 1)) old b) parts b)
    below-loaded (Ok parts) low load is agrees =
        let high : min top (k + 1) ≡ k + 1 = omega arith in
        let here : k ≡ min top k = omega arith in
        let part_is = part_at (k + 1) high is in
        let are = load b part_is (subst (Agrees told) (blocks_at (k + 1) high) agrees) in
        record {
          gs = groups (span p.chunk p.width k) b;
          are = subst (λ n. AreOld X p (span p.chunk p.width k) n parts (groups (span p.chunk p.width k) b)) here are;
          whole = joined-split (span p.chunk p.width k) (span p.chunk p.width k) b;
          among = λ x h. subst (IsIn x) (sym (blocks_at (k + 1) high)) (in-suc k part b part_is x (subst (λ n. IsIn x (blocks_of_all X p n (groups (span p.chunk p.width k) b))) (sym here) h));
        }
    below-loaded (Err fault) low load is agrees = tt

    pub below-just : (parts : List Part) → top ≤ k → parts ≡ part ∷ [] → IsOld X p (min top (k + 1)) old b → IsBelow X p top k (old_blocks X p (min top (k + 1)) old b) parts b
    below-just parts high one is =
        let up : min top (k + 1) ≡ top = omega arith in
        let here : top ≡ min top k = omega arith in
        let part_is = part_at top up is in
        let wide : 1 ≤ p.width = (let two : 2 ≤ p.width = (kept p ok).two in omega arith) in
        let rises : span p.chunk p.width top ≤ span p.chunk p.width k = span-rises p.chunk p.width top k wide high in
        record {
          gs = b ∷ [];
          are = subst (λ n. AreOld X p (span p.chunk p.width k) n parts (b ∷ [])) here (record { same = one ∙ ap (λ (m : Part). m ∷ []) part_is.same; fits = (part_is.fits, tt); cut = omega (arith, part_is.fits.few) });
          whole = append-nil b;
          among = λ x h. subst (IsIn x) (append-nil (blocks_over X p.chunk p.width top b) ∙ sym (blocks_at top up)) (subst (λ n. IsIn x (blocks_of_all X p n (b ∷ []))) (sym here) h);
        }
