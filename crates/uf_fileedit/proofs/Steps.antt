-- Parts changed, step by step.
use Rattle.std.proofs.Common.{◌≡◌, ◌≢◌, ℕ, zero, suc, ◌+◌, ◌-◌, ◌*◌, ◌^◌, ◌<◌, ◌≤◌, List, [], ◌∷◌, ◌++◌, length, map, take, drop, replicate, get_or, min, refl, ap, arith, sym, ◌∙◌, subst, append-nil, append_assoc, add-one, Option, None, Some, ◌⊎◌, inl, inr, Result, Ok, Err, IsTrue}
use Rattle.std.specs.Prelude.{nat_le, slice_get, IfErr, IfOk, IfSome, OnOk}
use Rattle.std.specs.List.{AllByRecursion, flat_map, sum_by}
use Rattle.std.proofs.lemmas.List.{take_rest, drop_min, length-drop, length-take, take_at, take-append-drop, take-take, take_min, map-append}
use Rattle.uf_cid.specs.Blocks.{Held}
use Rattle.uf_edge.specs.Counts.{Stood}
use Rattle.uf_fileread.proofs.Sending.{the_block}
use Rattle.uf_store.specs.declared.store.StoreFault.{StoreFault}
use Rattle.uf_store.specs.declared.store.StoreFault.TheVariants.{Failed, Damaged, Missing, BadBlock, Clash, Memory}
use Rattle.uf_store.specs.Clashes.{IsLoadFault, IsSaving}
use Rattle.uf_store.specs.Contents.{Told, held_at}
use Rattle.uf_store.specs.Faults.{Answers, NoneIsBad, Shows, StaysCalm}
use Rattle.uf_store.specs.declared.store.Role.{Role}
use Rattle.uf_store.proofs.Causes.{Shows-after, Shows-any, StaysCalm-trans}
use Rattle.uf_store.specs.Among.{SavesAmong}
use Rattle.uf_store.specs.Keeping.{Agrees, Holds, KeepsGood}
use Rattle.uf_store.specs.Lost.{IsLossOf}
use Rattle.uf_store.specs.Writing.{IsSave, SavesOnly}
use Rattle.uf_store.proofs.Among.{SavesAmong-trans}
use Rattle.uf_store.proofs.Writing.{Wrote-good, agrees-between}
use Rattle.uf_store.specs.Seen.{Seen}
use Rattle.std.proofs.lemmas.Bool.Decides.{nat_tests}
use Rattle.std.proofs.lemmas.List.Sums.{sum_by-cons}
use Rattle.uf_tree.proofs.Told.{kept}
use Rattle.uf_tree.specs.declared.nodes.Part.{Part}
use Rattle.uf_tree.specs.declared.profile.Profile.{Profile}
use Rattle.uf_tree.specs.Cutting.{joined}
use Rattle.uf_tree.specs.FilePlan.{groups, leaf_held, leaf_part, node_held, node_part}
use Rattle.uf_tree.specs.FileSub.{blocks_over, part_over, span}
use Rattle.uf_tree.specs.Profiles.{is_profile}
use Rattle.uf_tree.specs.Validity.{IsHash}
use Rattle.uf_tree.proofs.Valid.{sub-size}
use Rattle.uf_fileedit.specs.Changes.{AreCut, AreOld, FitsOld, GivesPart, GivesAll, IsBelow, IsBlank, IsIn, IsKnown, IsOld, IsOldPart, HasSize, LiesWithin, blocks_of_all, overlaid, old_blocks}
use Rattle.uf_fileedit.specs.Edits.{cut_to}
use Rattle.uf_fileedit.proofs.Among.{in-part, saves-more}
use Rattle.uf_fileedit.proofs.Bytes.{at-front, changed-cut, changed-nothing, changed-over, changed-same, later, later-one, later-some, length-changed}
use Rattle.uf_fileedit.proofs.Kept.{agrees-among, over-good, all-append, all-good, in-back, in-front, known-among, known-held, known-later, known-old, loss-among}
use Rattle.uf_fileedit.proofs.Old.{need_lost, pos}
use Rattle.uf_fileedit.proofs.Numbers.{last, room-few}

-- ---- a leaf

pub laid-bytes : (size offset from : ℕ) (old piece fill out : List ℕ) → LiesWithin size offset piece → from ≡ min offset (size - length piece) → fill ≡ cut_to old size
    → out ≡ take from fill ++ piece ++ drop (from + length piece) fill → out ≡ overlaid size old offset piece
laid-bytes size offset from old [] fill out within is filled written =
    let none : from + 0 ≡ from = omega arith in
    written ∙ ap (λ l. l ++ drop (from + 0) fill) (append-nil (take from fill)) ∙ ap (λ n. take from fill ++ drop n fill) none ∙ take-append-drop from fill ∙ filled ∙ sym (changed-cut size old offset)
laid-bytes size offset from old (z ∷ x) fill out within is filled written =
    let inside : offset + length (z ∷ x) ≤ size = within (omega arith) in
    let same : from ≡ offset = omega arith in
    written ∙ ap (λ n. take n fill ++ (z ∷ x) ++ drop (n + length (z ∷ x)) fill) same ∙ ap (λ f. take offset f ++ (z ∷ x) ++ drop (offset + length (z ∷ x)) f) filled ∙ sym (changed-over size old offset (z ∷ x) inside)

-- the first bytes, filled up
pub fill-is : (size : ℕ) (old front fill : List ℕ) → front ≡ take (min (length old) size) old → fill ≡ take size front ++ replicate (size - length front) 0 → fill ≡ cut_to old size
fill-is size old front fill is filled =
    let same : front ≡ take size old = is ∙ least (length old) size old refl in
    filled ∙ ap (λ (f : List ℕ). take size f ++ replicate (size - length f) 0) same ∙ ap (λ l. l ++ replicate (size - length (take size old)) 0) (take-take size size old (omega arith))
    ∙ ap (λ n. take size old ++ replicate n 0) (let e : size - length (take size old) ≡ size - length old = omega (arith, length-take size old) in e)
  where
    least : (n size : ℕ) (old : List ℕ) → n ≡ length old → take (min n size) old ≡ take size old
    least n size old e = ap (λ k. take k old) (let t : min n size ≡ min size (length old) = omega arith in t) ∙ take_min size old

module _ (X : List ℕ → List ℕ) (p : Profile) where
  leaf_cid : (part : Part) (b : List ℕ) → IsOldPart X p zero part b → part.entry.cid ≡ (leaf_held X b).0
  unfolding part_over
  leaf_cid part b is = ap (λ (m : Part). m.entry.cid) is.same

  leaf_size : (part : Part) (b : List ℕ) → IsOldPart X p zero part b → part.size ≡ length b
  unfolding part_over
  leaf_size part b is = ap (λ (m : Part). m.size) is.same

  pub over-bytes : (told : Told) (part : Part) (b lent out piece : List ℕ) (size offset : ℕ) → IsOldPart X p zero part b → Agrees told (leaf_held X b ∷ []) → IfSome told (λ t. held_at t part.entry.cid ≡ Some lent)
      → out ≡ overlaid size lent offset piece → out ≡ overlaid size b offset piece
  over-bytes told part b lent out piece size offset is agrees held laid = laid ∙ ap (λ l. overlaid size l offset piece) (the_block told (leaf_held X b) [] part.entry.cid lent (leaf_cid part b is) agrees held).0

  pub over-lost : (before now : Seen) (part : Part) (b : List ℕ) (fault : StoreFault) → IsOldPart X p zero part b → Shows X NoneIsBad fault before now → IsLoadFault part.entry.cid fault → now.told ≡ before.told → Stood before.faults now.faults
      → IsLossOf now.told (leaf_held X b ∷ []) fault
  over-lost before now part b fault is shows load same stood =
      subst (λ (t : Told). IsLossOf t (leaf_held X b ∷ []) fault) (sym same) (need_lost X before now (leaf_held X b) [] part.entry.cid fault (leaf_cid part b is) shows load same stood)

  pub over-no_bad : (told : Told) (part : Part) (b lent : List ℕ) → IsOldPart X p zero part b → Agrees told (leaf_held X b ∷ []) → IfSome told (λ t. held_at t part.entry.cid ≡ Some lent) → length lent ≢ part.size → ⊥
  over-no_bad told part b lent is agrees held differs = differs (ap length (the_block told (leaf_held X b) [] part.entry.cid lent (leaf_cid part b is) agrees held).0 ∙ sym (leaf_size part b is))

  pub as_leaf : (told : Told) (part : Part) (b : List ℕ) → Agrees told (old_blocks X p zero (Some part) b) → Agrees told (leaf_held X b ∷ [])
  unfolding blocks_over
  as_leaf told part b h = h

  pub from_leaf : (told : Told) (part : Part) (b : List ℕ) (fault : StoreFault) → IsLossOf told (leaf_held X b ∷ []) fault → IsLossOf told (old_blocks X p zero (Some part) b) fault
  unfolding blocks_over
  from_leaf told part b fault h = h

  pub leaf-gives : (told : Told) (olds : List Held) (m : Part) (out bytes : List ℕ) → m ≡ leaf_part X out → out ≡ bytes → Holds told (leaf_held X out ∷ []) → GivesPart X p told olds zero m bytes
  unfolding part_over blocks_over
  leaf-gives told olds m out bytes is same held = record {
    same = is ∙ ap (leaf_part X) same;
    known = known-held told olds (leaf_held X bytes) (subst (λ (b : List ℕ). Holds told (leaf_held X b ∷ [])) same held);
  }

-- a fault of a save, while the store stays calm and meets no clash, is want of memory
pub save-lost : (X : List ℕ → List ℕ) (before now : Seen) (olds : List Held) (fault : StoreFault) → Shows X NoneIsBad fault before now → IsSaving fault → Stood before.faults now.faults → Stood before.clashes now.clashes → IsLossOf now.told olds fault
save-lost X before now olds Failed shows saving stood clash = let r = shows.rose in omega (arith, r, stood)
save-lost X before now olds (Damaged c) shows saving stood clash = saving
save-lost X before now olds (Missing c) shows saving stood clash = absurd saving
save-lost X before now olds (BadBlock c role) shows saving stood clash = saving
save-lost X before now olds (Clash c x y) shows saving stood clash = let r = shows.rose in omega (arith, r, clash)
save-lost X before now olds Memory shows saving stood clash = tt

-- what is written back into the list of a vector
pub written-back : (n : ℕ) (out items : List ℕ) → n ≡ length out → take n (out ++ drop (length out) items) ≡ out
written-back n out items e = take_at out (drop (length out) items) n (sym e)

-- ---- a part of zeros that is known

pub blank-later : (X : List ℕ → List ℕ) (p : Profile) (a b : Told) (k : ℕ) (o : Option Part) → KeepsGood X a b → IsBlank X p a k o → IsBlank X p b k o
blank-later X p a b k None keeps h = tt
blank-later X p a b k (Some x) keeps h = record { same = h.same; known = known-later X a b [] (blocks_over X p.chunk p.width k (overlaid x.size [] zero [])) keeps (over-good X p.chunk p.width k (overlaid x.size [] zero [])) h.known }

pub blank-first : (X : List ℕ → List ℕ) (p : Profile) (told : Told) (k : ℕ) (blank zeros : Option Part) → (blank ≡ None) ⊎ ((k ≡ 0) × (blank ≡ zeros)) → IsBlank X p told 0 zeros → IsBlank X p told k blank
blank-first X p told k blank zeros (inl e) h = subst (IsBlank X p told k) (sym e) tt
blank-first X p told k blank zeros (inr e) h = subst (IsBlank X p told k) (sym e.1) (subst (λ n. IsBlank X p told n zeros) (sym e.0) h)

-- ---- bytes of an old piece, where there is one

module _ (X : List ℕ → List ℕ) (p : Profile) (told : Told) where
  abbrev HasBytes : ℕ → List ℕ → ℕ → List ℕ → Result (List ℕ) StoreFault → Type 0
  HasBytes size b offset piece r = IfOk r (λ v. v ≡ overlaid size b offset piece)

  pub old-part : (old : Option Part) (part : Part) (b : List ℕ) → old ≡ Some part → IsOld X p zero old b → IsOldPart X p zero part b
  old-part old part b e is = subst (λ (o : Option Part). IsOld X p zero o b) e is

  pub old-agrees : (old : Option Part) (part : Part) (b : List ℕ) → old ≡ Some part → Agrees told (old_blocks X p zero old b) → Agrees told (leaf_held X b ∷ [])
  old-agrees old part b e agrees = as_leaf X p told part b (subst (λ (o : Option Part). Agrees told (old_blocks X p zero o b)) e agrees)

  pub old-loss : {A : Type 0} (old : Option Part) (part : Part) (b : List ℕ) (r : Result A StoreFault) → old ≡ Some part → IfErr r (IsLossOf told (leaf_held X b ∷ [])) → IfErr r (IsLossOf told (old_blocks X p zero old b))
  old-loss old part b (Ok v) e h = tt
  old-loss old part b (Err fault) e h = subst (λ (o : Option Part). IsLossOf told (old_blocks X p zero o b) fault) (sym e) (from_leaf X p told part b fault h)

  -- with no old piece, the old bytes are none
  pub nothing-old : (old : Option Part) (b : List ℕ) → ((part : Part) → old ≡ Some part → ⊥) → IsOld X p zero old b → b ≡ []
  nothing-old None b none is = is
  nothing-old (Some part) b none is = absurd (none part refl)

-- ---- what a save after calm calls leaves

module _ (X : List ℕ → List ℕ) (before mid now : Seen) (calm : StaysCalm before mid) where
  pub saved-lost : {A : Type 0} (olds : List Held) (r : Result A StoreFault) → Answers X NoneIsBad r mid now → IfErr r IsSaving → Stood before.faults now.faults → Stood before.clashes now.clashes → IfErr r (IsLossOf now.told olds)
  saved-lost olds (Ok v) shows saving stood clash = tt
  saved-lost olds (Err fault) shows saving stood clash =
      save-lost X mid now olds fault shows saving (subst (λ (n : ℕ). Stood n now.faults) (sym calm.faults) stood) (subst (λ (n : ℕ). Stood n now.clashes) (sym calm.clashes) clash)

  pub saved-shows : {A : Type 0} (bad : Role → List ℕ → Type 0) (r : Result A StoreFault) → Answers X NoneIsBad r mid now → Answers X bad r before now
  saved-shows bad (Ok v) shows = StaysCalm-trans before mid now calm shows
  saved-shows bad (Err fault) shows = Shows-after X bad fault before mid now calm (Shows-any X bad fault mid now shows)

pub leaf-saved : (X : List ℕ → List ℕ) (p : Profile) (told : Told) (olds : List Held) (out bytes : List ℕ) (r : Result Part StoreFault) → IfOk r (λ m. m ≡ leaf_part X out) → OnOk r (Holds told (leaf_held X out ∷ [])) → out ≡ bytes
    → IfOk r (λ m. GivesPart X p told olds zero m bytes)
leaf-saved X p told olds out bytes (Ok m) is held same = leaf-gives X p told olds m out bytes is same held
leaf-saved X p told olds out bytes (Err fault) is held same = tt

-- ---- the parts of a node, one after the other

-- an old part at a place, or nothing behind the last
module _ (X : List ℕ → List ℕ) (p : Profile) (s j : ℕ) where
  at-old : (parts : List Part) (gs : List (List ℕ)) (at : ℕ) → parts ≡ map (part_over X p.chunk p.width j) gs → AllByRecursion (FitsOld p j) gs → (old : Option Part) → old ≡ slice_get parts at
      → IsOld X p j old (get_or gs at []) × ((b : Held) → IsIn b (old_blocks X p j old (get_or gs at [])) → IsIn b (blocks_of_all X p j gs))
  at-old parts [] at same fits old is = subst (λ (o : Option Part). IsOld X p j o [] × ((b : Held) → IsIn b (old_blocks X p j o []) → IsIn b [])) (sym (is ∙ ap (λ (l : List Part). slice_get l at) same)) (refl, λ b h. h)
  at-old parts (g ∷ gs) zero same fits old is =
      subst (λ (o : Option Part). IsOld X p j o g × ((b : Held) → IsIn b (old_blocks X p j o g) → IsIn b (blocks_of_all X p j (g ∷ gs)))) (sym (is ∙ ap (λ (l : List Part). slice_get l 0) same))
      (record { same = refl; fits = fits.0 }, λ b h. in-front b (blocks_over X p.chunk p.width j g) (blocks_of_all X p j gs) h)
  at-old parts (g ∷ gs) (suc at) same fits old is =
      let later = at-old (map (part_over X p.chunk p.width j) gs) gs at refl fits.1 old (is ∙ ap (λ (l : List Part). slice_get l (suc at)) same) in
      (later.0, λ b h. in-back b (blocks_over X p.chunk p.width j g) (blocks_of_all X p j gs) (later.1 b h))

module _ (X : List ℕ → List ℕ) (p : Profile) (s j k : ℕ) (gs : List (List ℕ)) (size offset : ℕ) (piece : List ℕ) where
  abbrev olds_of : List Held
  olds_of = blocks_of_all X p j gs

  -- what is done of the parts, and what is left
  pub record Progress (told : Told) (news : List Part) (left at place : ℕ) (rest : List ℕ) : Type 0 where
    pub done : List (List ℕ)
    pub same : news ≡ map (part_over X p.chunk p.width k) done
    pub known : AllByRecursion (IsKnown told olds_of) (blocks_of_all X p k done)
    pub whole : groups s (overlaid size (joined gs) offset piece) ≡ done ++ later s left (joined (drop at gs)) place rest

  pub begins : (told : Told) → 1 ≤ size → Progress told [] size 0 offset piece
  begins told some = record { done = []; same = refl; known = tt; whole = sym (later-some s size (joined gs) offset piece some) }

  pub ends : (told : Told) (news : List Part) (left at place : ℕ) (rest : List ℕ) → left ≤ 0 → Progress told news left at place rest
      → GivesAll X p told olds_of k news (groups s (overlaid size (joined gs) offset piece))
  ends told news zero at place rest low progress =
      let all : groups s (overlaid size (joined gs) offset piece) ≡ progress.done = progress.whole ∙ append-nil progress.done in
      record { same = progress.same ∙ ap (map (part_over X p.chunk p.width k)) (sym all); known = subst (λ (l : List (List ℕ)). AllByRecursion (IsKnown told olds_of) (blocks_of_all X p k l)) (sym all) progress.known }
  ends told news (suc left) at place rest low progress = absurd (omega arith)

  flat-more : (f : List ℕ → List Held) (done : List (List ℕ)) (g : List ℕ) (P : Held → Type 0) → AllByRecursion P (flat_map f done) → AllByRecursion P (f g) → AllByRecursion P (flat_map f (done ++ g ∷ []))
  flat-more f [] g P h i = all-append P (f g) [] i tt
  flat-more f (d ∷ done) g P h i = subst (AllByRecursion P) (append_assoc (f d) (flat_map f done) (flat_map f (g ∷ [])) ∙ ap (λ l. f d ++ l) (flat_two done)) (all-append P (f d ++ flat_map f done) (flat_map f (g ∷ [])) h (all-append P (f g) [] i tt))
    where
      flat_two : (done : List (List ℕ)) → flat_map f done ++ flat_map f (g ∷ []) ≡ flat_map f (done ++ g ∷ [])
      flat_two [] = refl
      flat_two (e ∷ done) = append_assoc (f e) (flat_map f done) (flat_map f (g ∷ [])) ∙ ap (λ l. f e ++ l) (flat_two done)

  -- one part more
  pub goes_on : (told next : Told) (news : List Part) (left at place count : ℕ) (rest : List ℕ) (m : Part) → 1 ≤ s → 1 ≤ left → count ≡ min left s → AreCut s gs → KeepsGood X told next
      → GivesPart X p next olds_of k m (overlaid count (get_or gs at []) place (take (count - place) rest))
      → Progress told news left at place rest
      → Progress next (news ++ m ∷ []) (left - count) (at + 1) (place - count) (drop (count - place) rest)
  goes_on told next news left at place count rest m pos some is cut keeps gives progress =
      let front = at-front s at gs cut in
      let g = overlaid count (get_or gs at []) place (take (count - place) rest) in
      let one : later s left (joined (drop at gs)) place rest ≡ g ∷ later s (left - count) (joined (drop (at + 1) gs)) (place - count) (drop (count - place) rest)
      = later-one s left count (joined (drop at gs)) place rest pos some is
      ∙ (λ i. overlaid count (front.0 i) place (take (count - place) rest) ∷ later s (left - count) (front.1 i) (place - count) (drop (count - place) rest)) in
      record {
        done = progress.done ++ g ∷ [];
        same = ap (λ l. l ++ m ∷ []) progress.same ∙ ap (λ (x : Part). map (part_over X p.chunk p.width k) progress.done ++ x ∷ []) gives.same ∙ sym (map-append (part_over X p.chunk p.width k) progress.done (g ∷ []));
        known = flat-more (blocks_over X p.chunk p.width k) progress.done g (IsKnown next olds_of) (known-later X told next olds_of (blocks_of_all X p k progress.done) keeps (all-good X p.chunk p.width k progress.done) progress.known) gives.known;
        whole = progress.whole ∙ ap (λ l. progress.done ++ l) one ∙ sym (append_assoc progress.done (g ∷ []) (later s (left - count) (joined (drop (at + 1) gs)) (place - count) (drop (count - place) rest)));
      }

-- ---- the goals of the recursion

empty_is : (x : List ℕ) → length x ≡ 0 → x ≡ []
empty_is [] e = refl
empty_is (z ∷ x) e = absurd (omega arith)

pub leaf-small : (p : Profile) (height size : ℕ) → IsTrue (is_profile p) → HasSize p height size → height ≡ 0 → size ≤ 2097152
unfolding span
leaf-small p zero size ok has e = let short : p.chunk ≤ 1048576 = (kept p ok).short in let f : size ≤ p.chunk = has.fits in omega arith
leaf-small p (suc k) size ok has e = absurd (omega arith)

-- where a piece is written, if there is one, it is within
pub same-place : (size offset : ℕ) (b piece : List ℕ) → LiesWithin size offset piece → overlaid size b (min offset size) piece ≡ overlaid size b offset piece
same-place size offset b [] within = changed-nothing size b (min offset size) ∙ sym (changed-nothing size b offset)
same-place size offset b (z ∷ x) within = ap (λ n. overlaid size b n (z ∷ x)) (let inside : offset + length (z ∷ x) ≤ size = within (omega arith) in let e : min offset size ≡ offset = omega arith in e)

module _ (X : List ℕ → List ℕ) (good : IsHash X) (p : Profile) (ok : IsTrue (is_profile p)) where
  -- a part that the change leaves alone
  pub left-alone : (told : Told) (top height size offset : ℕ) (old : Option Part) (part : Part) (b piece : List ℕ) → old ≡ Some part → height ≤ top → part.size ≡ size → length piece ≡ 0
      → IsOld X p (min top height) old b → GivesPart X p told (old_blocks X p (min top height) old b) height part (overlaid size b offset piece)
  left-alone told top height size offset old part b piece some low size_is none is =
      let here : min top height ≡ height = omega arith in
      let old_is : IsOldPart X p height part b = subst (λ n. IsOldPart X p n part b) here (subst (λ (o : Option Part). IsOld X p (min top height) o b) some is) in
      let olds : old_blocks X p (min top height) old b ≡ blocks_over X p.chunk p.width height b = ap (λ (o : Option Part). old_blocks X p (min top height) o b) some ∙ ap (λ n. blocks_over X p.chunk p.width n b) here in
      let length_is : part.size ≡ length b = ap (λ (m : Part). m.size) old_is.same ∙ sub-size X good p ok height b in
      let same : overlaid size b offset piece ≡ b = ap (λ n. overlaid n b offset piece) (sym size_is ∙ length_is) ∙ ap (overlaid (length b) b offset) (empty_is piece none) ∙ changed-same b offset in
      subst (λ l. GivesPart X p told l height part (overlaid size b offset piece)) (sym olds) (subst (λ l. GivesPart X p told (blocks_over X p.chunk p.width height b) height part l) (sym same)
      (record { same = old_is.same; known = known-old told (blocks_over X p.chunk p.width height b) }))

  -- a blank part again
  pub blank-again : (told : Told) (j height size offset : ℕ) (blank old : Option Part) (part : Part) (b piece : List ℕ) → blank ≡ Some part → old ≡ None → length piece ≡ 0 → part.size ≡ size
      → IsOld X p j old b → IsBlank X p told height blank → GivesPart X p told (old_blocks X p j old b) height part (overlaid size b offset piece)
  blank-again told j height size offset blank old part b piece some none empty size_is is blank_is =
      let nothing : b ≡ [] = subst (λ (o : Option Part). IsOld X p j o b) none is in
      let gives : GivesPart X p told [] height part (overlaid part.size [] zero []) = subst (IsBlank X p told height) some blank_is in
      let same : overlaid part.size [] zero [] ≡ overlaid size b offset piece
      = ap (λ n. overlaid n [] zero []) size_is ∙ ap (λ l. overlaid size l zero []) (sym nothing) ∙ sym (changed-nothing size b offset) ∙ ap (overlaid size b offset) (sym (empty_is piece empty)) in
      subst (λ l. GivesPart X p told (old_blocks X p j old b) height part l) same
      (record { same = gives.same; known = known-among told [] (old_blocks X p j old b) (blocks_over X p.chunk p.width height (overlaid part.size [] zero [])) (λ x h. absurd h) gives.known })

  -- a leaf
  pub leaf-here : (before now : Told) (top height size offset at : ℕ) (old : Option Part) (b piece : List ℕ) (r : Result Part StoreFault) → height ≡ 0 → at ≡ min offset size → LiesWithin size offset piece
      → ((q : Profile) (b : List ℕ) → IsOld X q 0 old b → Agrees before (old_blocks X q 0 old b) → Agrees now (old_blocks X q 0 old b) → IfOk r (λ m. GivesPart X q now (old_blocks X q 0 old b) 0 m (overlaid size b at piece)))
      → IsOld X p (min top height) old b → Agrees before (old_blocks X p (min top height) old b) → Agrees now (old_blocks X p (min top height) old b)
      → IfOk r (λ m. GivesPart X p now (old_blocks X p (min top height) old b) height m (overlaid size b offset piece))
  leaf-here before now top height size offset at old b piece r zero_is at_is within leaf =
      let low : 0 ≡ min top height = omega arith in
      let same : overlaid size b at piece ≡ overlaid size b offset piece = ap (λ n. overlaid size b n piece) at_is ∙ same-place size offset b piece within in
      subst (λ j. IsOld X p j old b → Agrees before (old_blocks X p j old b) → Agrees now (old_blocks X p j old b) → IfOk r (λ m. GivesPart X p now (old_blocks X p j old b) height m (overlaid size b offset piece))) low
      (subst (λ h. IsOld X p 0 old b → Agrees before (old_blocks X p 0 old b) → Agrees now (old_blocks X p 0 old b) → IfOk r (λ m. GivesPart X p now (old_blocks X p 0 old b) h m (overlaid size b offset piece))) (sym zero_is)
      (subst (λ l. IsOld X p 0 old b → Agrees before (old_blocks X p 0 old b) → Agrees now (old_blocks X p 0 old b) → IfOk r (λ m. GivesPart X p now (old_blocks X p 0 old b) 0 m l)) same (leaf p b)))

  -- a node over new parts
  pub made-node : (told : Told) (olds : List Held) (k : ℕ) (m : Part) (news slice : List Part) (bytes : List ℕ) → slice ≡ news → m ≡ node_part X slice → Holds told (node_held X slice ∷ [])
      → news ≡ map (part_over X p.chunk p.width k) (groups (span p.chunk p.width k) bytes) → AllByRecursion (IsKnown told olds) (blocks_of_all X p k (groups (span p.chunk p.width k) bytes))
      → GivesPart X p told olds (suc k) m bytes
  unfolding part_over blocks_over
  made-node told olds k m news slice bytes sliced is held same known = record {
    same = is ∙ ap (node_part X) (sliced ∙ same);
    known = (inl (subst (λ l. Holds told (node_held X l ∷ [])) (sliced ∙ same) held), known);
  }

  pub node-gives : (before low mid now : Told) (top k size offset : ℕ) (old : Option Part) (b piece : List ℕ) (parts below news slice : List Part) (r : Result Part StoreFault)
      → low ≡ before → SavesOnly X low mid → SavesOnly X mid now
      → IsBelow X p top k (old_blocks X p (min top (k + 1)) old b) parts b → below ≡ parts
      → ((gs : List (List ℕ)) → AreOld X p (span p.chunk p.width k) (min top k) below gs → Agrees low (blocks_of_all X p (min top k) gs) → Agrees mid (blocks_of_all X p (min top k) gs)
      → GivesAll X p mid (blocks_of_all X p (min top k) gs) k news (groups (span p.chunk p.width k) (overlaid size (joined gs) offset piece)))
      → slice ≡ news → IfOk r (λ m. m ≡ node_part X slice) → OnOk r (Holds now (node_held X slice ∷ []))
      → Agrees before (old_blocks X p (min top (k + 1)) old b) → Agrees now (old_blocks X p (min top (k + 1)) old b)
      → IfOk r (λ m. GivesPart X p now (old_blocks X p (min top (k + 1)) old b) (k + 1) m (overlaid size b offset piece))
  node-gives before low mid now top k size offset old b piece parts below news slice (Err fault) same adds saves is_below sliced_below gives sliced is held agrees agrees_now = tt
  node-gives before low mid now top k size offset old b piece parts below news slice (Ok m) same adds saves is_below sliced_below gives sliced is held agrees agrees_now =
      let olds = old_blocks X p (min top (k + 1)) old b in
      let gs = is_below.gs in
      let all = blocks_of_all X p (min top k) gs in
      let at_low : Agrees low all = subst (λ (t : Told). Agrees t all) (sym same) (agrees-among before all olds is_below.among agrees) in
      let at_now : Agrees now all = agrees-among now all olds is_below.among agrees_now in
      let at_mid : Agrees mid all = agrees-between X IsSave low mid now all adds saves (record { first = at_low; last = at_now }) in
      let keeps = Wrote-good X IsSave mid now saves in
      let made = gives gs (subst (λ l. AreOld X p (span p.chunk p.width k) (min top k) l gs) (sym sliced_below) is_below.are) at_low at_mid in
      let bytes_are : overlaid size (joined gs) offset piece ≡ overlaid size b offset piece = ap (λ l. overlaid size l offset piece) is_below.whole in
      let new = groups (span p.chunk p.width k) (overlaid size b offset piece) in
      let parts_are : news ≡ map (part_over X p.chunk p.width k) new = made.same ∙ ap (λ l. map (part_over X p.chunk p.width k) (groups (span p.chunk p.width k) l)) bytes_are in
      let known : AllByRecursion (IsKnown now olds) (blocks_of_all X p k new)
      = known-among now all olds (blocks_of_all X p k new) is_below.among (known-later X mid now all (blocks_of_all X p k new) keeps (all-good X p.chunk p.width k new)
      (subst (λ l. AllByRecursion (IsKnown mid all) (blocks_of_all X p k (groups (span p.chunk p.width k) l))) bytes_are made.known)) in
      subst (λ n. GivesPart X p now olds n m (overlaid size b offset piece)) (sym (add-one k)) (made-node now olds k m news slice (overlaid size b offset piece) sliced is held parts_are known)

  pub node-lost : (before low mid : Told) (top k size offset : ℕ) (old : Option Part) (b piece : List ℕ) (parts below : List Part) (fault : StoreFault)
      → low ≡ before → IsBelow X p top k (old_blocks X p (min top (k + 1)) old b) parts b → below ≡ parts
      → ((gs : List (List ℕ)) → AreOld X p (span p.chunk p.width k) (min top k) below gs → Agrees low (blocks_of_all X p (min top k) gs) → Agrees mid (blocks_of_all X p (min top k) gs) → IsLossOf mid (blocks_of_all X p (min top k) gs) fault)
      → Agrees before (old_blocks X p (min top (k + 1)) old b) → Agrees mid (old_blocks X p (min top (k + 1)) old b)
      → IsLossOf mid (old_blocks X p (min top (k + 1)) old b) fault
  node-lost before low mid top k size offset old b piece parts below fault same is_below sliced lost agrees agrees_mid =
      let olds = old_blocks X p (min top (k + 1)) old b in
      let all = blocks_of_all X p (min top k) is_below.gs in
      loss-among mid all olds fault is_below.among
      (lost is_below.gs (subst (λ l. AreOld X p (span p.chunk p.width k) (min top k) l is_below.gs) (sym sliced) is_below.are)
      (subst (λ (t : Told). Agrees t all) (sym same) (agrees-among before all olds is_below.among agrees))
      (agrees-among mid all olds is_below.among agrees_mid))

  -- ---- one turn of the loop
  module _ (top k size offset left at place count most cut : ℕ) (olds news : List Part) (piece rest : List ℕ) (gs : List (List ℕ)) (old : Option Part)
      (most_is : most ≡ min (span p.chunk p.width k) last) (count_is : count ≡ min left most) (cut_is : cut ≡ min (length rest) (count - place)) (old_is : old ≡ slice_get olds at)
      (has : HasSize p (k + 1) size) (left_is : left ≤ size) (some : 1 ≤ left) (within : LiesWithin left place rest) where
    abbrev s_of : ℕ
    s_of = span p.chunk p.width k

    pos_s : 1 ≤ span p.chunk p.width k
    pos_s = pos X good p ok k

    pub counted : count ≡ min left (span p.chunk p.width k)
    counted = let small : size < 2 ^ 63 = has.small in omega arith

    pub count-size : HasSize p k count
    count-size = record { fits = (let e = counted in omega arith); small = (let e = counted in let small : size < 2 ^ 63 = has.small in omega arith); some = λ h. (let e = counted in let q = pos_s in omega arith) }

    pub count-some : 1 ≤ count
    count-some = let e = counted in let q = pos_s in omega arith

    pub one-within : LiesWithin count place (take cut rest)
    one-within h = let e = length-take cut rest in omega arith

    pub rest-within : LiesWithin (left - count) (place - count) (take (length rest - cut) (drop cut rest))
    rest-within h =
        let e : length (take (length rest - cut) (drop cut rest)) ≡ length rest - cut = ap (λ (l : List ℕ). length l) (take_rest rest cut) ∙ length-drop cut rest in
        let inside : place + length rest ≤ left = within (omega arith) in
        omega arith

    cut-take : take cut rest ≡ take (count - place) rest
    cut-take = ap (λ n. take n rest) (cut_is ∙ turned (length rest) (count - place)) ∙ take_min (count - place) rest
      where
        turned : (a b : ℕ) → min a b ≡ min b a
        turned a b = omega arith

    cut-drop : take (length rest - cut) (drop cut rest) ≡ drop (count - place) rest
    cut-drop = take_rest rest cut ∙ ap (λ n. drop n rest) (cut_is ∙ turned (length rest) (count - place)) ∙ drop_min (count - place) rest
      where
        turned : (a b : ℕ) → min a b ≡ min b a
        turned a b = omega arith

    module _ (first mid next : Told) (are : AreOld X p (span p.chunk p.width k) (min top k) olds gs) (adds : SavesOnly X first mid) (saves : SavesOnly X mid next) where
      keeps : KeepsGood X mid next
      keeps = Wrote-good X IsSave mid next saves

      child : IsOld X p (min top k) old (get_or gs at []) × ((x : Held) → IsIn x (old_blocks X p (min top k) old (get_or gs at [])) → IsIn x (blocks_of_all X p (min top k) gs))
      child = at-old X p (span p.chunk p.width k) (min top k) olds gs at are.same are.fits old old_is

      agrees-mid : Agrees first (blocks_of_all X p (min top k) gs) → Agrees next (blocks_of_all X p (min top k) gs) → Agrees mid (blocks_of_all X p (min top k) gs)
      agrees-mid a c = agrees-between X IsSave first mid next (blocks_of_all X p (min top k) gs) adds saves (record { first = a; last = c })

      pub turn-agrees : Agrees first (blocks_of_all X p (min top k) gs) → Agrees next (blocks_of_all X p (min top k) gs) → Agrees mid (blocks_of_all X p (min top k) gs)
      turn-agrees a c = agrees-mid a c

      pub turn-lost : (fault : StoreFault) → Agrees first (blocks_of_all X p (min top k) gs) → Agrees next (blocks_of_all X p (min top k) gs)
          → ((b : List ℕ) → IsOld X p (min top k) old b → Agrees mid (old_blocks X p (min top k) old b) → Agrees next (old_blocks X p (min top k) old b) → IsLossOf next (old_blocks X p (min top k) old b) fault)
          → IsLossOf next (blocks_of_all X p (min top k) gs) fault
      turn-lost fault a c lost =
          loss-among next (old_blocks X p (min top k) old (get_or gs at [])) (blocks_of_all X p (min top k) gs) fault child.1
          (lost (get_or gs at []) child.0 (agrees-among mid (old_blocks X p (min top k) old (get_or gs at [])) (blocks_of_all X p (min top k) gs) child.1 (agrees-mid a c))
          (agrees-among next (old_blocks X p (min top k) old (get_or gs at [])) (blocks_of_all X p (min top k) gs) child.1 c))

      -- what is saved of one part more is of the row
      pub turn-saves : Agrees first (blocks_of_all X p (min top k) gs) → Agrees next (blocks_of_all X p (min top k) gs)
          → (Agrees mid (blocks_of_all X p (min top k) gs) → Progress X p (span p.chunk p.width k) (min top k) k gs size offset piece mid news left at place rest)
          → (Agrees mid (blocks_of_all X p (min top k) gs) → SavesAmong X (blocks_of_all X p k (groups (span p.chunk p.width k) (overlaid size (joined gs) offset piece))) first mid)
          → ((b : List ℕ) → IsOld X p (min top k) old b → Agrees mid (old_blocks X p (min top k) old b) → Agrees next (old_blocks X p (min top k) old b)
          → SavesAmong X (blocks_over X p.chunk p.width k (overlaid count b place (take cut rest))) mid next)
          → SavesAmong X (blocks_of_all X p k (groups (span p.chunk p.width k) (overlaid size (joined gs) offset piece))) first next
      turn-saves a c progressed saved saves_one =
          let all = blocks_of_all X p (min top k) gs in
          let row = blocks_of_all X p k (groups (span p.chunk p.width k) (overlaid size (joined gs) offset piece)) in
          let at_mid = agrees-mid a c in
          let progress = progressed at_mid in
          let front = at-front (span p.chunk p.width k) at gs are.cut in
          let group = overlaid count (get_or gs at []) place (take cut rest) in
          let behind = later (span p.chunk p.width k) (left - count) (drop (span p.chunk p.width k) (joined (drop at gs))) (place - count) (drop (count - place) rest) in
          let one : later (span p.chunk p.width k) left (joined (drop at gs)) place rest ≡ group ∷ behind
          = later-one (span p.chunk p.width k) left count (joined (drop at gs)) place rest pos_s some counted
          ∙ ap (λ l. overlaid count l place (take (count - place) rest) ∷ behind) front.0 ∙ ap (λ l. overlaid count (get_or gs at []) place l ∷ behind) (sym cut-take) in
          let whole : groups (span p.chunk p.width k) (overlaid size (joined gs) offset piece) ≡ progress.done ++ group ∷ behind = progress.whole ∙ ap (λ l. progress.done ++ l) one in
          let olds = old_blocks X p (min top k) old (get_or gs at []) in
          let here : SavesAmong X (blocks_over X p.chunk p.width k group) mid next = saves_one (get_or gs at []) child.0 (agrees-among mid olds all child.1 at_mid) (agrees-among next olds all child.1 c) in
          SavesAmong-trans X row first mid next (saved at_mid)
          (subst (λ l. SavesAmong X (blocks_of_all X p k l) mid next) (sym whole)
          (saves-more X (blocks_over X p.chunk p.width k group) (blocks_of_all X p k (progress.done ++ group ∷ behind)) mid next (λ x h. in-part (blocks_over X p.chunk p.width k) progress.done group behind x h) here))

      module _ (blank blank_now : Option Part) (m : Part) (blank_is : (blank_now ≡ blank) ⊎ ((blank_now ≡ Some m) × (old ≡ None) × (cut ≡ 0))) (m_size : m.size ≡ count)
          (gives : (b : List ℕ) → IsOld X p (min top k) old b → IsBlank X p mid k blank → Agrees mid (old_blocks X p (min top k) old b) → Agrees next (old_blocks X p (min top k) old b)
          → GivesPart X p next (old_blocks X p (min top k) old b) k m (overlaid count b place (take cut rest)))
          (a : Agrees first (blocks_of_all X p (min top k) gs)) (c : Agrees next (blocks_of_all X p (min top k) gs))
          (progress : Progress X p (span p.chunk p.width k) (min top k) k gs size offset piece mid news left at place rest × IsBlank X p mid k blank) where
        made : GivesPart X p next (old_blocks X p (min top k) old (get_or gs at [])) k m (overlaid count (get_or gs at []) place (take cut rest))
        made = gives (get_or gs at []) child.0 progress.1
            (agrees-among mid (old_blocks X p (min top k) old (get_or gs at [])) (blocks_of_all X p (min top k) gs) child.1 (agrees-mid a c))
            (agrees-among next (old_blocks X p (min top k) old (get_or gs at [])) (blocks_of_all X p (min top k) gs) child.1 c)

        made-all : GivesPart X p next (blocks_of_all X p (min top k) gs) k m (overlaid count (get_or gs at []) place (take (count - place) rest))
        made-all = subst (λ l. GivesPart X p next (blocks_of_all X p (min top k) gs) k m (overlaid count (get_or gs at []) place l)) cut-take
            (record { same = made.same; known = known-among next (old_blocks X p (min top k) old (get_or gs at [])) (blocks_of_all X p (min top k) gs) (blocks_over X p.chunk p.width k (overlaid count (get_or gs at []) place (take cut rest))) child.1 made.known })

        blank-kept : (o : Option Part) → IsBlank X p mid k o → IsBlank X p next k o
        blank-kept None h = tt
        blank-kept (Some x) h = record { same = h.same; known = known-later X mid next [] (blocks_over X p.chunk p.width k (overlaid x.size [] zero [])) keeps (over-good X p.chunk p.width k (overlaid x.size [] zero [])) h.known }

        blank-new : old ≡ None → cut ≡ 0 → IsBlank X p next k (Some m)
        blank-new none zero_cut =
            let nothing : get_or gs at [] ≡ [] = subst (λ (o : Option Part). IsOld X p (min top k) o (get_or gs at [])) none child.0 in
            let same : overlaid count (get_or gs at []) place (take cut rest) ≡ overlaid m.size [] zero []
            = ap (λ l. overlaid count l place (take cut rest)) nothing ∙ ap (λ n. overlaid count [] place (take n rest)) zero_cut ∙ changed-nothing count [] place ∙ ap (λ n. overlaid n [] zero []) (sym m_size) in
            let no_olds : old_blocks X p (min top k) old (get_or gs at []) ≡ [] = ap (λ (o : Option Part). old_blocks X p (min top k) o (get_or gs at [])) none in
            subst (λ l. GivesPart X p next [] k m l) same (subst (λ l. GivesPart X p next l k m (overlaid count (get_or gs at []) place (take cut rest))) no_olds made)

        blank-next : (blank_now ≡ blank) ⊎ ((blank_now ≡ Some m) × (old ≡ None) × (cut ≡ 0)) → IsBlank X p next k blank_now
        blank-next (inl e) = subst (IsBlank X p next k) (sym e) (blank-kept blank progress.1)
        blank-next (inr h) = subst (IsBlank X p next k) (sym h.0) (blank-new h.1 h.2)

        pub turn : Progress X p (span p.chunk p.width k) (min top k) k gs size offset piece next (news ++ m ∷ []) (left - count) (at + 1) (place - count) (take (length rest - cut) (drop cut rest)) × IsBlank X p next k blank_now
        turn = (
          subst (λ l. Progress X p (span p.chunk p.width k) (min top k) k gs size offset piece next (news ++ m ∷ []) (left - count) (at + 1) (place - count) l) (sym cut-drop)
              (goes_on X p (span p.chunk p.width k) (min top k) k gs size offset piece mid next news left at place count rest m pos_s some counted are.cut keeps made-all progress.0),
          blank-next blank_is,
        )

-- the bytes below some parts and one more
pub total-more : (news : List Part) (m : Part) (left count size : ℕ) → count ≤ left → m.size ≡ count → sum_by (λ (x : Part). x.size) news + left ≡ size → sum_by (λ (x : Part). x.size) (news ++ m ∷ []) + (left - count) ≡ size
total-more news m left count size few is total = let more = pushed news m in omega arith
  where
    pushed : (news : List Part) (m : Part) → sum_by (λ (x : Part). x.size) (news ++ m ∷ []) ≡ sum_by (λ (x : Part). x.size) news + m.size
    pushed [] m = let e : sum_by (λ (x : Part). x.size) (m ∷ []) ≡ m.size + sum_by (λ (x : Part). x.size) [] = sum_by-cons (λ (x : Part). x.size) m [] in omega arith
    pushed (n ∷ news) m =
        let a : sum_by (λ (x : Part). x.size) (n ∷ (news ++ m ∷ [])) ≡ n.size + sum_by (λ (x : Part). x.size) (news ++ m ∷ []) = sum_by-cons (λ (x : Part). x.size) n (news ++ m ∷ []) in
        let b : sum_by (λ (x : Part). x.size) (n ∷ news) ≡ n.size + sum_by (λ (x : Part). x.size) news = sum_by-cons (λ (x : Part). x.size) n news in
        let c : sum_by (λ (x : Part). x.size) (news ++ m ∷ []) ≡ sum_by (λ (x : Part). x.size) news + m.size = pushed news m in
        omega arith

pub node-few : (X : List ℕ → List ℕ) → IsHash X → (p : Profile) → IsTrue (is_profile p) → (k size count : ℕ) → HasSize p (k + 1) size → count * span p.chunk p.width k < size + span p.chunk p.width k → count ≤ p.width
unfolding span
node-few X good p ok k size count has within =
    let fits : size ≤ p.width * span p.chunk p.width k = subst (λ n. size ≤ span p.chunk p.width n) (add-one k) has.fits in
    room-few (span p.chunk p.width k) p.width size count (pos X good p ok k) fits within

pub high_is : (a b : ℕ) → IsTrue (nat_le a b) → a ≤ b
high_is a b h = grind (arith, nat_tests)

-- a piece of zeros that was saved
pub zeros-saved : (X : List ℕ → List ℕ) (p : Profile) (told : Told) (size : ℕ) (out : List ℕ) (m : Part) → m ≡ leaf_part X out → Holds told (leaf_held X out ∷ []) → out ≡ overlaid size [] zero [] → IsBlank X p told 0 (Some m)
zeros-saved X p told size out m is held bytes =
    let sized : m.size ≡ size = ap (λ (x : Part). x.size) is ∙ ap length bytes ∙ length-changed size [] zero [] in
    leaf-gives X p told [] m out (overlaid m.size [] zero []) is (bytes ∙ ap (λ n. overlaid n [] zero []) (sym sized)) held
