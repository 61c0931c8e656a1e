-- The parts below the root of a changed file.
use Rattle.std.proofs.Common.{◌≡◌, ℕ, zero, suc, ◌+◌, ◌-◌, ◌*◌, ◌^◌, ◌<◌, ◌≤◌, List, [], ◌∷◌, length, map, take, drop, get_or, min, max, refl, ap, arith, sym, ◌∙◌, subst, add-one, true, Option, None, Some, ◌⊎◌, inl, inr, Result, Ok, Err, IsTrue}
use Rattle.std.specs.Prelude.{IfErr, IfOk}
use Rattle.std.specs.List.{AllByRecursion, Contains, sum_by}
use Rattle.std.proofs.Math.Nat.{add-mul, mul-add, mul-le-mul, lt_of_mul-lt-mul_right}
use Rattle.std.proofs.lemmas.List.{take_rest, drop_min, length-drop, length-take, take_all, drop_all, take-take, take_min}
use Rattle.std.proofs.lemmas.List.Sums.{sum_by-cons}
use Rattle.std.proofs.lemmas.Bool.{cases_lt}
use Rattle.uf_cid.specs.Blocks.{Held}
use Rattle.uf_store.specs.Contents.{Told}
use Rattle.uf_store.specs.Faults.{Answers, Shows, StaysCalm}
use Rattle.uf_store.specs.Keeping.{Agrees, Holds, KeepsGood}
use Rattle.uf_store.specs.Lost.{IsLossOf}
use Rattle.uf_store.specs.Seen.{Seen}
use Rattle.uf_store.specs.Writing.{IsSave, SavesOnly}
use Rattle.uf_store.proofs.Writing.{SavesOnly-trans, Wrote-good, agrees-between}
use Rattle.uf_fileedit.specs.declared.changing.PartEdit.{PartEdit}
use Rattle.uf_fileedit.specs.declared.layout.Heights.{Heights}
use Rattle.uf_store.specs.declared.store.StoreFault.{StoreFault}
use Rattle.uf_store.proofs.Causes.{Shows-after, Shows-by, StaysCalm-trans}
use Rattle.uf_store.proofs.Keeping.{Holds-kept}
use Rattle.uf_tree.specs.Cutting.{joined}
use Rattle.uf_tree.specs.FilePlan.{groups, node_held, node_part}
use Rattle.uf_tree.specs.FileSub.{IsHeight, blocks_over, part_over, span}
use Rattle.uf_tree.specs.Profiles.{is_profile}
use Rattle.uf_tree.specs.Validity.{IsHash}
use Rattle.uf_tree.specs.declared.nodes.Entry.{Entry}
use Rattle.uf_tree.specs.declared.nodes.Part.{Part}
use Rattle.uf_tree.specs.declared.profile.Profile.{Profile}
use Rattle.uf_tree.proofs.Groups.{joined-split}
use Rattle.uf_tree.proofs.Rows.{height-unique}
use Rattle.uf_tree.proofs.Sub.{span-pos}
use Rattle.uf_tree.proofs.Told.{kept}
use Rattle.uf_fileedit.specs.Changes.{AreOld, GivesAll, GivesPart, HasSize, IsFirstOf, IsFrontPart, IsIn, IsKnown, IsOldPart, LiesWithin, LosesOfParts, LosesOfRoot, MakesParts, MakesRoot, blocks_of_all, overlaid}
use Rattle.uf_cid.specs.declared.cid.Codec.{Codec}
use Rattle.uf_fileread.specs.declared.node_parts.NodeParts.{NodeParts}
use Rattle.uf_fileedit.specs.Planned.{AreHeights, IsLaidOut, are_planned, bytes_over}
use Rattle.uf_fileedit.specs.Touches.{AreBelow, IsChangeWithin, IsEditWithin, IsLeft, old_size}
use Rattle.uf_fileedit.specs.Ways.{IsBadAmongOld, IsBadOld, StandAmong, StandBelow, Stands}
use Rattle.uf_fileedit.proofs.Bytes.{changed-take, joined-front, later, later-one, later-some}
use Rattle.uf_fileedit.proofs.Kept.{agrees-among, all-append, all-good, in-front, known-among, known-later, loss-among}
use Rattle.uf_fileedit.proofs.Numbers.{last as most_bytes, span-rises}
use Rattle.uf_fileedit.proofs.Old.{in-suc, pos}
use Rattle.uf_fileedit.proofs.Steps.{made-node, node-few}
use Rattle.uf_fileedit.proofs.Ways.{laid-many, one_total, single-leaf, the-leaf}
use Rattle.uf_fileedit.proofs.Touching.{chunks_in, child-within, just-below, planned-below, span-chunks, sub_mul}

-- ---- old parts of a lesser height

module _ (X : List ℕ → List ℕ) (good : IsHash X) (p : Profile) (ok : IsTrue (is_profile p)) (t h : ℕ) (low : h < t) (olds : List Part) (gs : List (List ℕ)) (are : AreOld X p (span p.chunk p.width t) t olds gs) (first d : Part)
    (some : 1 ≤ length olds) (first_is : first ≡ get_or olds 0 d) where
  abbrev whole : List Held
  whole = blocks_of_all X p t gs

  wide : 1 ≤ p.width
  wide = let two : 2 ≤ p.width = (kept p ok).two in omega arith

  -- the first of them
  record First : Type 0 where
    g : List ℕ
    part_is : IsOldPart X p t first g
    front : take (span p.chunk p.width t) (joined gs) ≡ g
    among : (x : Held) → IsIn x (blocks_over X p.chunk p.width t g) → IsIn x (blocks_of_all X p t gs)

  the_first : (l : List Part) (hs : List (List ℕ)) → AreOld X p (span p.chunk p.width t) t l hs → l ≡ olds → hs ≡ gs → First
  the_first l [] a e f = absurd (let none : length l ≡ 0 = ap length a.same in let same : length l ≡ length olds = ap length e in omega arith)
  the_first l (g ∷ hs) a e f = record {
    g = g;
    part_is = record { same = first_is ∙ ap (λ (k : List Part). get_or k 0 d) (sym e ∙ a.same); fits = a.fits.0 };
    front = ap (λ k. take (span p.chunk p.width t) (joined k)) (sym f) ∙ (joined-front (span p.chunk p.width t) g hs a.cut).0;
    among = λ x k. subst (λ l. IsIn x (blocks_of_all X p t l)) f (in-front x (blocks_over X p.chunk p.width t g) (blocks_of_all X p t hs) k);
  }

  one : First
  one = the_first olds gs are refl refl

  -- what stands below the first old part of a height above h
  pub front-of : (told : Told) (high : ℕ) (front : Part) (parts : List Part) → high ≡ h + 1 → Agrees told (blocks_of_all X p t gs)
      → ((g : List ℕ) → IsOldPart X p t first g → Agrees told (blocks_over X p.chunk p.width t g) → IsFrontPart X p t (min t high) front g)
      → ((g : List ℕ) → IsOldPart X p (h + 1) front g → Agrees told (blocks_over X p.chunk p.width (h + 1) g) → AreOld X p (span p.chunk p.width h) h parts (groups (span p.chunk p.width h) g))
      → IsFirstOf X p (h + 1) (min t h) (blocks_of_all X p t gs) parts (joined gs)
  front-of told high front parts up agrees fronts loads =
      let f = fronts one.g one.part_is (agrees-among told (blocks_over X p.chunk p.width t one.g) (blocks_of_all X p t gs) one.among agrees) in
      let at : min t high ≡ h + 1 = omega arith in
      let front_is : IsOldPart X p (h + 1) front f.front = subst (λ n. IsOldPart X p n front f.front) at f.part_is in
      let below : (x : Held) → IsIn x (blocks_over X p.chunk p.width (h + 1) f.front) → IsIn x (blocks_of_all X p t gs)
      = λ x k. one.among x (f.among x (subst (λ n. IsIn x (blocks_over X p.chunk p.width n f.front)) (sym at) k)) in
      let loaded = loads f.front front_is (agrees-among told (blocks_over X p.chunk p.width (h + 1) f.front) (blocks_of_all X p t gs) below agrees) in
      let here : h ≡ min t h = omega arith in
      let rises : span p.chunk p.width (h + 1) ≤ span p.chunk p.width t = span-rises p.chunk p.width (h + 1) t wide (omega arith) in
      let bytes : take (span p.chunk p.width (h + 1)) (joined gs) ≡ f.front
      = sym (take-take (span p.chunk p.width (h + 1)) (span p.chunk p.width t) (joined gs) rises) ∙ ap (take (span p.chunk p.width (h + 1))) one.front ∙ ap (λ n. take (span p.chunk p.width n) one.g) (sym at) ∙ f.is_front in
      let all : joined (groups (span p.chunk p.width h) f.front) ≡ f.front = joined-split (span p.chunk p.width h) (span p.chunk p.width h) f.front in
      subst (λ k. IsFirstOf X p (h + 1) k (blocks_of_all X p t gs) parts (joined gs)) here (record {
        gs = groups (span p.chunk p.width h) f.front;
        are = loaded;
        same = ap (take (span p.chunk p.width (h + 1))) (all ∙ sym bytes) ∙ take-take (span p.chunk p.width (h + 1)) (span p.chunk p.width (h + 1)) (joined gs) (omega arith);
        few = (let e : length (joined (groups (span p.chunk p.width h) f.front)) ≡ length (take (span p.chunk p.width (h + 1)) (joined gs)) = ap length (all ∙ sym bytes) in omega (arith, length-take (span p.chunk p.width (h + 1)) (joined gs)));
        among = λ x k. below x (in-suc X good p ok h front f.front front_is x k);
      })

  -- what was lost on the way
  pub front-missed : (told : Told) (fault : StoreFault) → Agrees told (blocks_of_all X p t gs)
      → ((g : List ℕ) → IsOldPart X p t first g → Agrees told (blocks_over X p.chunk p.width t g) → IsLossOf told (blocks_over X p.chunk p.width t g) fault) → IsLossOf told (blocks_of_all X p t gs) fault
  front-missed told fault agrees lost =
      loss-among told (blocks_over X p.chunk p.width t one.g) (blocks_of_all X p t gs) fault one.among (lost one.g one.part_is (agrees-among told (blocks_over X p.chunk p.width t one.g) (blocks_of_all X p t gs) one.among agrees))

  pub below-missed : (told : Told) (high : ℕ) (front : Part) (fault : StoreFault) → high ≡ h + 1 → Agrees told (blocks_of_all X p t gs)
      → ((g : List ℕ) → IsOldPart X p t first g → Agrees told (blocks_over X p.chunk p.width t g) → IsFrontPart X p t (min t high) front g)
      → ((g : List ℕ) → IsOldPart X p (h + 1) front g → Agrees told (blocks_over X p.chunk p.width (h + 1) g) → IsLossOf told (blocks_over X p.chunk p.width (h + 1) g) fault) → IsLossOf told (blocks_of_all X p t gs) fault
  below-missed told high front fault up agrees fronts lost =
      let f = fronts one.g one.part_is (agrees-among told (blocks_over X p.chunk p.width t one.g) (blocks_of_all X p t gs) one.among agrees) in
      let at : min t high ≡ h + 1 = omega arith in
      let front_is : IsOldPart X p (h + 1) front f.front = subst (λ n. IsOldPart X p n front f.front) at f.part_is in
      let below : (x : Held) → IsIn x (blocks_over X p.chunk p.width (h + 1) f.front) → IsIn x (blocks_of_all X p t gs)
      = λ x k. one.among x (f.among x (subst (λ n. IsIn x (blocks_over X p.chunk p.width n f.front)) (sym at) k)) in
      loss-among told (blocks_over X p.chunk p.width (h + 1) f.front) (blocks_of_all X p t gs) fault below
      (lost f.front front_is (agrees-among told (blocks_over X p.chunk p.width (h + 1) f.front) (blocks_of_all X p t gs) below agrees))

  -- the same of whatever the load answers
  pub front-result : (told : Told) (high : ℕ) (front : Part) (r : Result (List Part) StoreFault) → high ≡ h + 1 → Agrees told (blocks_of_all X p t gs)
      → ((g : List ℕ) → IsOldPart X p t first g → Agrees told (blocks_over X p.chunk p.width t g) → IsFrontPart X p t (min t high) front g)
      → ((g : List ℕ) → IsOldPart X p (h + 1) front g → Agrees told (blocks_over X p.chunk p.width (h + 1) g) → IfOk r (λ parts. AreOld X p (span p.chunk p.width h) h parts (groups (span p.chunk p.width h) g)))
      → IfOk r (λ parts. IsFirstOf X p (h + 1) (min t h) (blocks_of_all X p t gs) parts (joined gs))
  front-result told high front (Ok parts) up agrees fronts loads = front-of told high front parts up agrees fronts loads
  front-result told high front (Err fault) up agrees fronts loads = tt

  pub lost-result : (told : Told) (high : ℕ) (front : Part) (r : Result (List Part) StoreFault) → high ≡ h + 1 → Agrees told (blocks_of_all X p t gs)
      → ((g : List ℕ) → IsOldPart X p t first g → Agrees told (blocks_over X p.chunk p.width t g) → IsFrontPart X p t (min t high) front g)
      → ((g : List ℕ) → IsOldPart X p (h + 1) front g → Agrees told (blocks_over X p.chunk p.width (h + 1) g) → IfErr r (IsLossOf told (blocks_over X p.chunk p.width (h + 1) g))) → IfErr r (IsLossOf told (blocks_of_all X p t gs))
  lost-result told high front (Ok parts) up agrees fronts lost = tt
  lost-result told high front (Err fault) up agrees fronts lost = below-missed told high front fault up agrees fronts lost

-- where the old parts are low enough, they are those that are to be changed
pub all-of : (X : List ℕ → List ℕ) (p : Profile) (t h : ℕ) (olds : List Part) (gs : List (List ℕ)) → t ≤ h → AreOld X p (span p.chunk p.width t) t olds gs → IsFirstOf X p (h + 1) (min t h) (blocks_of_all X p t gs) olds (joined gs)
all-of X p t h olds gs low are =
    subst (λ k. IsFirstOf X p (h + 1) k (blocks_of_all X p t gs) olds (joined gs)) (let e : t ≡ min t h = omega arith in e)
    (record { gs = gs; are = are; same = refl; few = omega arith; among = λ x k. k })

pub all-stand : (hash : List ℕ → List ℕ) (p : Profile) (before : Told) (rows t h : ℕ) (olds : List Part) → t ≤ h → StandAmong hash p before rows t olds (min t h) olds
all-stand hash p before rows t h olds low = λ now root keeps all m among. subst (λ k. Stands hash p now root rows k m) (let e : t ≡ min t h = omega arith in e) (all m among)

-- ---- which of them stand, and what is bad among them

module _ (hash : List ℕ → List ℕ) (p : Profile) (rows t h : ℕ) (low : h < t) (olds : List Part) (first d : Part) (some : 1 ≤ length olds) (first_is : first ≡ get_or olds 0 d) where
  first_in : Contains olds first
  first_in = by olds some first_is
    where
      by : (l : List Part) → 1 ≤ length l → first ≡ get_or l 0 d → Contains l first
      by [] few is = absurd (omega arith)
      by (m ∷ l) few is = (0, few, sym is)

  pub front-stand : (a b : Told) (high : ℕ) (front : Part) (parts : List Part) → high ≡ h + 1 → b ≡ a → StandBelow hash p a rows t (Some first) (min t high) (front ∷ []) → StandBelow hash p b rows (h + 1) (Some front) h parts
      → StandAmong hash p a rows t olds (min t h) parts
  front-stand a b high front parts up same upper lower = λ now root keeps all m among.
      let at : min t high ≡ h + 1 = omega arith in
      let front_is : Stands hash p now root rows (h + 1) front = subst (λ n. Stands hash p now root rows n front) at (upper now root keeps (all first first_in) front (0, (let e : 0 < length (front ∷ []) = omega arith in e), refl)) in
      subst (λ k. Stands hash p now root rows k m) (let e : h ≡ min t h = omega arith in e) (lower now root (subst (λ (x : Told). KeepsGood hash x now) (sym same) keeps) front_is m among)

  pub front-blamed : (fault : StoreFault) (a b : Seen) → Shows hash (IsBadOld hash p b.told rows t (Some first)) fault a b → Shows hash (IsBadAmongOld hash p b.told rows t olds) fault a b
  front-blamed fault a b h = Shows-by hash (IsBadOld hash p b.told rows t (Some first)) (IsBadAmongOld hash p b.told rows t olds) fault a b (λ role bytes bad root all. bad root (all first first_in)) h

  pub below-blamed : (fault : StoreFault) (high : ℕ) (front : Part) (a b c : Seen) → high ≡ h + 1 → KeepsGood hash a.told c.told → StaysCalm a b → StandBelow hash p a.told rows t (Some first) (min t high) (front ∷ [])
      → Shows hash (IsBadOld hash p c.told rows (h + 1) (Some front)) fault b c → Shows hash (IsBadAmongOld hash p c.told rows t olds) fault a c
  below-blamed fault high front a b c up keeps calm upper shows =
      let at : min t high ≡ h + 1 = omega arith in
      Shows-after hash (IsBadAmongOld hash p c.told rows t olds) fault a b c calm
      (Shows-by hash (IsBadOld hash p c.told rows (h + 1) (Some front)) (IsBadAmongOld hash p c.told rows t olds) fault b c
      (λ role bytes bad root all. bad root (subst (λ n. Stands hash p c.told root rows n front) at (upper c.told root keeps (all first first_in) front (0, (let e : 0 < length (front ∷ []) = omega arith in e), refl)))) shows)

  -- the same of whatever the load answers
  pub stand-result : (a b : Told) (high : ℕ) (front : Part) (r : Result (List Part) StoreFault) → high ≡ h + 1 → b ≡ a → StandBelow hash p a rows t (Some first) (min t high) (front ∷ []) → IfOk r (StandBelow hash p b rows (h + 1) (Some front) h)
      → IfOk r (StandAmong hash p a rows t olds (min t h))
  stand-result a b high front (Ok parts) up same upper lower = front-stand a b high front parts up same upper lower
  stand-result a b high front (Err fault) up same upper lower = tt

  pub blamed-result : (high : ℕ) (front : Part) (r : Result (List Part) StoreFault) (a b c : Seen) → high ≡ h + 1 → KeepsGood hash a.told c.told → StaysCalm a b → StandBelow hash p a.told rows t (Some first) (min t high) (front ∷ [])
      → Answers hash (IsBadOld hash p c.told rows (h + 1) (Some front)) r b c → Answers hash (IsBadAmongOld hash p c.told rows t olds) r a c
  blamed-result high front (Ok parts) a b c up keeps calm upper shows = StaysCalm-trans a b c calm shows
  blamed-result high front (Err fault) a b c up keeps calm upper shows = below-blamed fault high front a b c up keeps calm upper shows

-- what is bad among parts that stand where others do is bad among those
pub among-blamed : (hash : List ℕ → List ℕ) (p : Profile) (rows t j : ℕ) (olds parts slice : List Part) (fault : StoreFault) (a b c : Seen) → slice ≡ parts → StandAmong hash p a.told rows t olds j parts → KeepsGood hash a.told c.told → StaysCalm a b
    → Shows hash (IsBadAmongOld hash p c.told rows j slice) fault b c → Shows hash (IsBadAmongOld hash p c.told rows t olds) fault a c
among-blamed hash p rows t j olds parts slice fault a b c sliced stand keeps calm h =
    Shows-after hash (IsBadAmongOld hash p c.told rows t olds) fault a b c calm
    (Shows-by hash (IsBadAmongOld hash p c.told rows j slice) (IsBadAmongOld hash p c.told rows t olds) fault b c
    (λ role bytes bad root all. bad root (λ m among. stand c.told root keeps all m (subst (λ (l : List Part). Contains l m) sliced among))) h)

-- ---- their sizes

same-below : (s : ℕ) (a b : Part) (ms : List Part) → a.size ≡ b.size → AreBelow s (Some a) ms → AreBelow s (Some b) ms
same-below s a b ms same h = record {
  sizes = λ i. h.sizes i ∙ ap (λ n. min (n - i * s) s) same;
  ends = λ i none. subst (λ n. n ≤ i * s) same (h.ends i none);
}

-- the parts below a root
pub laid-below : (p : Profile) (ok : IsTrue (is_profile p)) (codec : Codec) (root : NodeParts) (rows top : ℕ) (part : Part) → IsLaidOut p codec root → IsHeight p.chunk p.width (bytes_over root.parts) rows → top ≡ max rows 1 → part.size ≡ bytes_over root.parts
    → AreBelow (span p.chunk p.width (top - 1)) (Some part) root.parts
unfolding span
laid-below p ok codec root rows top part laid high top_is size = by (cases_lt p.chunk (bytes_over root.parts))
  where
    by : (p.chunk < bytes_over root.parts) ⊎ (bytes_over root.parts ≤ p.chunk) → AreBelow (span p.chunk p.width (top - 1)) (Some part) root.parts
    by (inl more) =
        let m = laid-many p ok codec root rows laid more high in
        subst (λ k. AreBelow (span p.chunk p.width k) (Some part) root.parts) (let some : 1 ≤ rows = m.0 in let e : rows - 1 ≡ top - 1 = omega arith in e)
        (planned-below (span p.chunk p.width (rows - 1)) (rows - 1) (Some part) part root.parts refl (subst (λ n. are_planned (span p.chunk p.width (rows - 1)) (rows - 1) n root.parts ≡ true) (sym size) m.2))
    by (inr few) =
        let one = the-leaf p ok root.parts (single-leaf p ok codec root.meta root.parts (laid.single few)) in
        let total : bytes_over root.parts ≡ one.0.size = ap bytes_over one.1 ∙ one_total p ok one.0 in
        let wide : 1 ≤ p.width = (let two : 2 ≤ p.width = (kept p ok).two in omega arith) in
        let rises : span p.chunk p.width 0 ≤ span p.chunk p.width (top - 1) = span-rises p.chunk p.width 0 (top - 1) wide (omega arith) in
        let fits : one.0.size ≤ span p.chunk p.width (top - 1) = omega arith in
        same-below (span p.chunk p.width (top - 1)) one.0 part root.parts (sym total ∙ sym size) (just-below (span p.chunk p.width (top - 1)) (Some one.0) one.0 root.parts refl one.1 fits)

pub all-below : (p : Profile) → IsTrue (is_profile p) → (t h top : ℕ) (whole first : Part) (olds : List Part) → t ≤ h → t ≡ top - 1 → whole.size ≤ span p.chunk p.width top → AreBelow (span p.chunk p.width t) (Some whole) olds → first.size ≡ min whole.size (span p.chunk p.width (h + 1))
    → AreBelow (span p.chunk p.width (min t h)) (Some first) olds
all-below p ok t h top whole first olds low t_is fits below size =
    let wide : 1 ≤ p.width = (let two : 2 ≤ p.width = (kept p ok).two in omega arith) in
    let rises : span p.chunk p.width top ≤ span p.chunk p.width (h + 1) = span-rises p.chunk p.width top (h + 1) wide (omega arith) in
    subst (λ k. AreBelow (span p.chunk p.width k) (Some first) olds) (let e : t ≡ min t h = omega arith in e) (same-below (span p.chunk p.width t) whole first olds (omega arith) below)

pub front-below : (p : Profile) → IsTrue (is_profile p) → (t h high : ℕ) (whole first front low_one d : Part) (olds parts : List Part) → h < t → high ≡ h + 1 → AreBelow (span p.chunk p.width t) (Some whole) olds → first.size ≡ min whole.size (span p.chunk p.width (h + 1))
    → 1 ≤ length olds → low_one ≡ get_or olds 0 d → (low_one.size ≤ span p.chunk p.width t → front.size ≡ min low_one.size (span p.chunk p.width (min t high))) → are_planned (span p.chunk p.width h) h front.size parts ≡ true → AreBelow (span p.chunk p.width (min t h)) (Some first) parts
front-below p ok t h high whole first front low_one d [] parts low up below size some one_is sized planned = absurd (omega arith)
front-below p ok t h high whole first front low_one d (m ∷ ms) parts low up below size some one_is sized planned =
    let wide : 1 ≤ p.width = (let two : 2 ≤ p.width = (kept p ok).two in omega arith) in
    let one : m.size ≡ min (whole.size - 0 * span p.chunk p.width t) (span p.chunk p.width t) = below.sizes 0 in
    let same : low_one.size ≡ m.size = ap (λ (x : Part). x.size) one_is in
    let front_is : front.size ≡ min low_one.size (span p.chunk p.width (min t high)) = sized (omega arith) in
    let at : span p.chunk p.width (min t high) ≡ span p.chunk p.width (h + 1) = ap (span p.chunk p.width) (let e : min t high ≡ h + 1 = omega arith in e) in
    let rises : span p.chunk p.width (h + 1) ≤ span p.chunk p.width t = span-rises p.chunk p.width (h + 1) t wide (omega arith) in
    let alike : front.size ≡ first.size = omega arith in
    subst (λ k. AreBelow (span p.chunk p.width k) (Some first) parts) (let e : h ≡ min t h = omega arith in e)
    (same-below (span p.chunk p.width h) front first parts alike (planned-below (span p.chunk p.width h) h (Some front) front parts refl planned))

pub below-result : (p : Profile) → IsTrue (is_profile p) → (t h high : ℕ) (whole first front low_one d : Part) (olds : List Part) (r : Result (List Part) StoreFault) → h < t → high ≡ h + 1 → AreBelow (span p.chunk p.width t) (Some whole) olds → first.size ≡ min whole.size (span p.chunk p.width (h + 1))
    → 1 ≤ length olds → low_one ≡ get_or olds 0 d → (low_one.size ≤ span p.chunk p.width t → front.size ≡ min low_one.size (span p.chunk p.width (min t high))) → IfOk r (λ parts. IsTrue (are_planned (span p.chunk p.width h) h front.size parts)) → IfOk r (AreBelow (span p.chunk p.width (min t h)) (Some first))
below-result p ok t h high all first front low_one d olds (Ok parts) low up below size some one_is sized planned = front-below p ok t h high all first front low_one d olds parts low up below size some one_is sized planned
below-result p ok t h high all first front low_one d olds (Err fault) low up below size some one_is sized planned = tt

-- ---- a file that grows by a row

-- the first part of a row that is higher than the old file, and the others
module _ (X : List ℕ → List ℕ) (good : IsHash X) (p : Profile) (ok : IsTrue (is_profile p)) (h size offset most count cut : ℕ) (piece : List ℕ) (most_is : most ≡ min (span p.chunk p.width h) most_bytes) (count_is : count ≡ most)
    (inside : span p.chunk p.width h < size) (small : size < 2 ^ 63) (cut_is : cut ≡ min (length piece) (count - offset)) where
  two : 2 ≤ p.width
  two = (kept p ok).two

  wide_too : 1 ≤ p.width
  wide_too = let t : 2 ≤ p.width = two in omega arith

  some_span : 1 ≤ span p.chunk p.width h
  some_span = pos X good p ok h

  pub counted : count ≡ span p.chunk p.width h
  counted = omega arith

  pub first-size : HasSize p h count
  first-size = record { fits = (let e = counted in omega arith); small = (let e = counted in omega arith); some = λ k. (let e = counted in let q = some_span in omega arith) }

  pub first-within : LiesWithin count offset (take cut piece)
  first-within some = let e = length-take cut piece in omega arith

  pub rest-size : HasSize p (h + 1) size → HasSize p (h + 1) (size - count)
  rest-size has = let fits : size ≤ span p.chunk p.width (h + 1) = has.fits in record { fits = omega arith; small = omega arith; some = λ k. (let e = counted in omega arith) }

  pub rest-within : LiesWithin size offset piece → LiesWithin (size - count) (offset - count) (take (length piece - cut) (drop cut piece))
  rest-within within some =
      let e : length (take (length piece - cut) (drop cut piece)) ≡ length piece - cut = ap (λ (l : List ℕ). length l) (take_rest piece cut) ∙ length-drop cut piece in
      let i : offset + length piece ≤ size = within (omega arith) in
      let c = counted in
      omega arith

  turned : (a b : ℕ) → min a b ≡ min b a
  turned a b = omega arith

  cut_take : take cut piece ≡ take (count - offset) piece
  cut_take = ap (λ n. take n piece) (cut_is ∙ turned (length piece) (count - offset)) ∙ take_min (count - offset) piece

  cut_drop : take (length piece - cut) (drop cut piece) ≡ drop (count - offset) piece
  cut_drop = take_rest piece cut ∙ ap (λ n. drop n piece) (cut_is ∙ turned (length piece) (count - offset)) ∙ drop_min (count - offset) piece

  module _ (b : List ℕ) (few : length b ≤ span p.chunk p.width h) where
    abbrev front : List ℕ
    front = overlaid count b offset (take cut piece)

    abbrev behind : List ℕ
    behind = overlaid (size - count) [] (offset - count) (take (length piece - cut) (drop cut piece))

    pub grown_groups : groups (span p.chunk p.width h) (overlaid size b offset piece) ≡ front ∷ groups (span p.chunk p.width h) behind
    grown_groups =
        sym (later-some (span p.chunk p.width h) size b offset piece (omega arith))
        ∙ later-one (span p.chunk p.width h) size count b offset piece some_span (omega arith) (let e = counted in omega arith)
        ∙ ap (λ l. overlaid count l offset (take (count - offset) piece) ∷ later (span p.chunk p.width h) (size - count) (drop (span p.chunk p.width h) b) (offset - count) (drop (count - offset) piece)) (take_all (span p.chunk p.width h) b few)
        ∙ ap (λ l. overlaid count b offset (take (count - offset) piece) ∷ later (span p.chunk p.width h) (size - count) l (offset - count) (drop (count - offset) piece)) (drop_all (span p.chunk p.width h) b few)
        ∙ ap (λ l. overlaid count b offset l ∷ later (span p.chunk p.width h) (size - count) [] (offset - count) (drop (count - offset) piece)) (sym cut_take)
        ∙ ap (λ l. overlaid count b offset (take cut piece) ∷ later (span p.chunk p.width h) (size - count) [] (offset - count) l) (sym cut_drop)
        ∙ ap (λ l. overlaid count b offset (take cut piece) ∷ l) (later-some (span p.chunk p.width h) (size - count) [] (offset - count) (take (length piece - cut) (drop cut piece)) (let e = counted in omega arith))

    -- what was made of both is the row
    pub grown-gives : (a c d : Told) (olds : List Held) (k : ℕ) (firsts slice news others parts : List Part) (first : Part) → h ≡ k + 1 → KeepsGood X a d → KeepsGood X c d
        → GivesAll X p a olds k firsts (groups (span p.chunk p.width k) front) → slice ≡ firsts → first ≡ node_part X slice → Holds c (node_held X slice ∷ [])
        → GivesAll X p d [] h news (groups (span p.chunk p.width h) behind) → others ≡ news → parts ≡ first ∷ others
        → GivesAll X p d olds h parts (groups (span p.chunk p.width h) (overlaid size b offset piece))
    grown-gives a c d olds k firsts slice news others parts first up keeps keeps_too made sliced is held made_too others_are parts_are =
        let keeps_held : Holds d (node_held X slice ∷ []) = Holds-kept X c d (node_held X slice ∷ []) (refl, tt) keeps_too held in
        let one : GivesPart X p d olds (suc k) first front
        = made-node X good p ok d olds k first firsts slice front sliced is keeps_held made.same (known-later X a d olds (blocks_of_all X p k (groups (span p.chunk p.width k) front)) keeps (all-good X p.chunk p.width k (groups (span p.chunk p.width k) front)) made.known) in
        let here : GivesPart X p d olds h first front = subst (λ n. GivesPart X p d olds n first front) (let e : suc k ≡ h = omega arith in e) one in
        subst (GivesAll X p d olds h parts) (sym grown_groups) (record {
          same = parts_are ∙ ap (λ l. first ∷ l) (others_are ∙ made_too.same) ∙ ap (λ (x : Part). x ∷ map (part_over X p.chunk p.width h) (groups (span p.chunk p.width h) behind)) here.same;
          known = all-append (IsKnown d olds) (blocks_over X p.chunk p.width h front) (blocks_of_all X p h (groups (span p.chunk p.width h) behind)) here.known
              (known-among d [] olds (blocks_of_all X p h (groups (span p.chunk p.width h) behind)) (λ x none. absurd none) made_too.known);
        })

-- where the old parts are as high as the row
module _ (X : List ℕ → List ℕ) (p : Profile) (top h : ℕ) (low : h < top) where
  pub base_at : (olds : List Part) (gs : List (List ℕ)) → AreOld X p (span p.chunk p.width (min (top - 1) h)) (min (top - 1) h) olds gs → AreOld X p (span p.chunk p.width h) (min top h) olds gs
  base_at olds gs are =
      subst (λ k. AreOld X p (span p.chunk p.width k) (min top h) olds gs) (let e : min (top - 1) h ≡ h = omega arith in e)
      (subst (λ k. AreOld X p (span p.chunk p.width (min (top - 1) h)) k olds gs) (let e : min (top - 1) h ≡ min top h = omega arith in e) are)

  pub base-gives : (olds : List Part) (target : PartEdit) (piece : List ℕ) (a b : Told) (r : Result (List Part) StoreFault) → MakesParts X p top h olds target piece a b r → MakesRoot X p top (min (top - 1) h) h olds target piece a b r
  base-gives olds target piece a b r made = λ gs are fits agrees agrees_now.
      let same : min top h ≡ min (top - 1) h = omega arith in
      subst (λ k. Agrees a (blocks_of_all X p k gs) → Agrees b (blocks_of_all X p k gs) → IfOk r (λ parts. GivesAll X p b (blocks_of_all X p k gs) h parts (groups (span p.chunk p.width h) (overlaid target.size (joined gs) target.offset piece)))) same
      (made gs (base_at olds gs are)) agrees agrees_now

  pub base-lost : (olds : List Part) (before now : Seen) (r : Result (List Part) StoreFault) → LosesOfParts X p top h olds before now r → LosesOfRoot X p top (min (top - 1) h) olds before now r
  base-lost olds before now r lost = λ gs are fits agrees agrees_now stood clash.
      let same : min top h ≡ min (top - 1) h = omega arith in
      subst (λ k. Agrees before.told (blocks_of_all X p k gs) → Agrees now.told (blocks_of_all X p k gs) → IfErr r (IsLossOf now.told (blocks_of_all X p k gs))) same
      (λ x y. lost gs (base_at olds gs are) x y stood clash) agrees agrees_now

  pub base-shows : {A : Type 0} (rows : ℕ) (olds : List Part) (told : Told) (r : Result A StoreFault) (before now : Seen) → Answers X (IsBadAmongOld X p told rows (min top h) olds) r before now → Answers X (IsBadAmongOld X p told rows (min (top - 1) h) olds) r before now
  base-shows rows olds told r before now shows = subst (λ k. Answers X (IsBadAmongOld X p told rows k olds) r before now) (let e : min top h ≡ min (top - 1) h = omega arith in e) shows

-- no old parts, over nothing
pub nothing-old : (X : List ℕ → List ℕ) (p : Profile) (s k : ℕ) (parts : List Part) → parts ≡ [] → AreOld X p s k parts []
nothing-old X p s k parts none = record { same = none; fits = tt; cut = tt }

pub agrees-none : (told : Told) (olds : List Held) → Agrees told olds → Agrees told []
agrees-none told olds h = agrees-among told [] olds (λ x none. absurd none) h

pub lost-none : (told : Told) (olds : List Held) (fault : StoreFault) → IsLossOf told [] fault → IsLossOf told olds fault
lost-none told olds fault h = loss-among told [] olds fault (λ x none. absurd none) h

-- the first part and the others, as they were made
module _ (X : List ℕ → List ℕ) (good : IsHash X) (p : Profile) (ok : IsTrue (is_profile p)) (top h k size offset count cut : ℕ) (piece : List ℕ) (up : h ≡ k + 1) (low : top ≤ h) (some : 1 ≤ top) (count_is : count ≡ min (span p.chunk p.width h) most_bytes)
    (inside : span p.chunk p.width h < size) (small : size < 2 ^ 63) (cut_is : cut ≡ min (length piece) (count - offset)) (a b c d : Told) (first_saves : SavesOnly X a b) (node_saves : SavesOnly X b c) (rest_saves : SavesOnly X c d) where
  same_low : min (top - 1) k ≡ min (top - 1) h
  same_low = omega arith

  pub grown-makes : (olds firsts slice none news others parts : List Part) (first : Part) (away : ℕ) → away ≡ offset - count
      → ((gs : List (List ℕ)) → AreOld X p (span p.chunk p.width (min (top - 1) k)) (min (top - 1) k) olds gs → length (joined gs) ≤ span p.chunk p.width top → Agrees a (blocks_of_all X p (min (top - 1) k) gs) → Agrees b (blocks_of_all X p (min (top - 1) k) gs)
      → GivesAll X p b (blocks_of_all X p (min (top - 1) k) gs) k firsts (groups (span p.chunk p.width k) (overlaid count (joined gs) offset (take cut piece))))
      → slice ≡ firsts → first ≡ node_part X slice → Holds c (node_held X slice ∷ []) → none ≡ []
      → ((gs : List (List ℕ)) → AreOld X p (span p.chunk p.width h) (min top h) none gs → Agrees c (blocks_of_all X p (min top h) gs) → Agrees d (blocks_of_all X p (min top h) gs)
      → GivesAll X p d (blocks_of_all X p (min top h) gs) h news (groups (span p.chunk p.width h) (overlaid (size - count) (joined gs) away (take (length piece - cut) (drop cut piece)))))
      → others ≡ news → parts ≡ first ∷ others
      → (gs : List (List ℕ)) → AreOld X p (span p.chunk p.width (min (top - 1) h)) (min (top - 1) h) olds gs → length (joined gs) ≤ span p.chunk p.width top → Agrees a (blocks_of_all X p (min (top - 1) h) gs) → Agrees d (blocks_of_all X p (min (top - 1) h) gs)
      → GivesAll X p d (blocks_of_all X p (min (top - 1) h) gs) h parts (groups (span p.chunk p.width h) (overlaid size (joined gs) offset piece))
  grown-makes olds firsts slice none news others parts first away away_is made sliced is held none_is made_too others_are parts_are gs are fits agrees agrees_now =
      let wide : 1 ≤ p.width = (let two : 2 ≤ p.width = (kept p ok).two in omega arith) in
      let rises : span p.chunk p.width top ≤ span p.chunk p.width h = span-rises p.chunk p.width top h wide low in
      let l = blocks_of_all X p (min (top - 1) h) gs in
      let b_d : SavesOnly X b d = SavesOnly-trans X b c d node_saves rest_saves in
      let a_c : SavesOnly X a c = SavesOnly-trans X a b c first_saves node_saves in
      let at_b : Agrees b (blocks_of_all X p (min (top - 1) h) gs) = agrees-between X IsSave a b d (blocks_of_all X p (min (top - 1) h) gs) first_saves b_d (record { first = agrees; last = agrees_now }) in
      let at_c : Agrees c (blocks_of_all X p (min (top - 1) h) gs) = agrees-between X IsSave a c d (blocks_of_all X p (min (top - 1) h) gs) a_c rest_saves (record { first = agrees; last = agrees_now }) in
      let one : GivesAll X p b (blocks_of_all X p (min (top - 1) h) gs) k firsts (groups (span p.chunk p.width k) (overlaid count (joined gs) offset (take cut piece)))
      = subst (λ n. AreOld X p (span p.chunk p.width n) n olds gs → Agrees a (blocks_of_all X p n gs) → Agrees b (blocks_of_all X p n gs) → GivesAll X p b (blocks_of_all X p n gs) k firsts (groups (span p.chunk p.width k) (overlaid count (joined gs) offset (take cut piece)))) same_low
      (λ x y z. made gs x fits y z) are agrees at_b in
      grown-gives X good p ok h size offset count count cut piece count_is refl inside small cut_is (joined gs) (omega arith) b c d (blocks_of_all X p (min (top - 1) h) gs) k firsts slice news others parts first up
      (Wrote-good X IsSave b d b_d) (Wrote-good X IsSave c d rest_saves) one sliced is held
      (subst (λ n. GivesAll X p d [] h news (groups (span p.chunk p.width h) (overlaid (size - count) [] n (take (length piece - cut) (drop cut piece))))) away_is
      (made_too [] (nothing-old X p (span p.chunk p.width h) (min top h) none none_is) (agrees-none c (blocks_of_all X p (min (top - 1) h) gs) at_c) (agrees-none d (blocks_of_all X p (min (top - 1) h) gs) agrees_now))) others_are parts_are

pub room-grown : (n k s size count : ℕ) → k ≡ 1 + n → count ≡ s → s < size → n * s < (size - count) + s → k * s < size + s
room-grown n k s size count is counted more room =
    let one : (1 + n) * s ≡ s + n * s = (let e : (1 + n) * s ≡ 1 * s + n * s = add-mul 1 n s in let o : 1 * s ≡ s = omega arith in omega arith) in
    subst (λ m. m * s < size + s) (sym is) (omega arith)

pub total-grown : (first : Part) (news others : List Part) (parts : List Part) (size count : ℕ) → parts ≡ first ∷ others → others ≡ news → first.size ≡ count → count ≤ size → sum_by (λ (m : Part). m.size) news ≡ size - count → sum_by (λ (m : Part). m.size) parts ≡ size
total-grown first news others parts size count parts_are others_are first_size few total =
    let all : sum_by (λ (m : Part). m.size) parts ≡ first.size + sum_by (λ (m : Part). m.size) others = ap (sum_by (λ (m : Part). m.size)) parts_are ∙ sum_by-cons (λ (m : Part). m.size) first others in
    let rest : sum_by (λ (m : Part). m.size) others ≡ size - count = ap (sum_by (λ (m : Part). m.size)) others_are ∙ total in
    omega arith

-- ---- what that costs

module _ (p : Profile) (ok : IsTrue (is_profile p)) (top h : ℕ) (low : top ≤ h) (old : Option Part) (x : Part) (old_is : old ≡ Some x) (size offset more a z : ℕ) (is : IsChangeWithin p top (h + 1) old size offset more a z)
    (inside : span p.chunk p.width h < size) (count cut : ℕ) (count_is : count ≡ span p.chunk p.width h) (cut_is : cut ≡ min more (count - offset)) where
  abbrev q : ℕ
  q = chunks_in p.width h

  wide_here : 1 ≤ p.width
  wide_here = let two : 2 ≤ p.width = (kept p ok).two in omega arith

  some_bytes : 1 ≤ span p.chunk p.width h
  some_bytes = span-pos p.chunk p.width h (kept p ok).some wide_here

  few_old : x.size ≤ span p.chunk p.width h
  few_old =
      let same : min top (h + 1) ≡ top = omega arith in
      let fits : old_size old ≤ span p.chunk p.width top = subst (λ n. old_size old ≤ span p.chunk p.width n) same is.fits in
      let size_is : old_size old ≡ x.size = ap old_size old_is in
      let rises : span p.chunk p.width top ≤ span p.chunk p.width h = span-rises p.chunk p.width top h wide_here low in
      omega arith

  not_left : IsLeft top (h + 1) size old → ⊥
  not_left left = let l : (h + 1 ≤ top) × (x.size ≡ size) = subst (IsLeft top (h + 1) size) old_is left in let high : h + 1 ≤ top = l.0 in omega arith

  pub grow-first : IsChangeWithin p top h old count offset cut a (min z q)
  grow-first =
      let none : 0 * span p.chunk p.width h ≡ 0 = omega arith in
      let nought : 0 * q ≡ 0 = omega arith in
      let w : IsChangeWithin p top h old count offset cut (a - 0 * q) (min (z - 0 * q) q)
      = child-within p wide_here top h some_bytes old old (x ∷ []) size offset more a z 0 is (just-below (span p.chunk p.width h) old x (x ∷ []) old_is refl few_old) old_is (omega arith) count offset more cut (omega arith) cut_is (omega arith) (λ some. omega arith) in
      subst (λ n. IsChangeWithin p top h old count offset cut n (min z q)) (let e : a - 0 * q ≡ a = omega arith in e)
      (subst (λ n. IsChangeWithin p top h old count offset cut (a - 0 * q) (min n q)) (let e : z - 0 * q ≡ z = omega arith in e) w)

  chunks : span p.chunk p.width h ≡ q * p.chunk
  chunks = span-chunks p.chunk p.width h

  left_chunks : (z - q) * p.chunk ≡ z * p.chunk - span p.chunk p.width h
  left_chunks = sub_mul z q p.chunk ∙ ap (λ n. z * p.chunk - n) (sym chunks)

  past : q < z
  past =
      let ends = is.ends not_left in
      let e = chunks in
      let to : size ≤ z * p.chunk = ends.1 in
      lt_of_mul-lt-mul_right p.chunk {m = q} {n = z} (omega arith)

  before : a < q
  before =
      let ends = is.ends not_left in
      let from : a * p.chunk ≤ min (old_size old) size - 1 = ends.0 in
      let size_is : old_size old ≡ x.size = ap old_size old_is in
      let few = few_old in
      let some = some_bytes in
      let e = chunks in
      lt_of_mul-lt-mul_right p.chunk {m = a} {n = q} (omega arith)

  pub grow-rest : IsChangeWithin p top (h + 1) None (size - count) (offset - count) (more - cut) 0 (z - q)
  grow-rest =
      let l = left_chunks in
      let none : 0 * p.chunk ≡ 0 = omega arith in
      record {
        fits = (let e : 0 ≤ span p.chunk p.width (min top (h + 1)) = omega arith in e);
        laid = λ some. (
            let both = is.laid (omega arith) in
            let to : offset + more ≤ z * p.chunk = both.1 in
            (omega arith, omega arith));
        ends = λ changed. (
            let ends = is.ends not_left in
            let to : size ≤ z * p.chunk = ends.1 in
            let far = past in
            (omega arith, omega arith, omega arith));
      }

  pub grow-spent : (k t0 t1 t2 t3 : ℕ) → h ≡ k + 1 → t1 ≤ t0 + 2 * (k + 1) * (min z q - a) → t2 ≤ t1 + 1 → t3 ≤ t2 + 2 * (h + 1) * (z - q - 0) → t3 ≤ t0 + 2 * (h + 1) * (z - a)
  grow-spent k t0 t1 t2 t3 up one save rest =
      let far = past in
      let near = before in
      let first_is : min z q - a ≡ q - a = omega arith in
      let rest_is : z - q - 0 ≡ z - q = omega arith in
      let both : (q - a) + (z - q) ≡ z - a = omega arith in
      let one_at : t1 ≤ t0 + 2 * (k + 1) * (q - a) = subst (λ n. t1 ≤ t0 + 2 * (k + 1) * n) first_is one in
      let rest_at : t3 ≤ t2 + 2 * (h + 1) * (z - q) = subst (λ n. t3 ≤ t2 + 2 * (h + 1) * n) rest_is rest in
      let all : 2 * (h + 1) * ((q - a) + (z - q)) ≡ 2 * (h + 1) * (q - a) + 2 * (h + 1) * (z - q) = mul-add (2 * (h + 1)) (q - a) (z - q) in
      let more : 2 * (h + 1) * (q - a) ≡ 2 * (k + 1) * (q - a) + 2 * (q - a) = ap (λ n. n * (q - a)) (let e : 2 * (h + 1) ≡ 2 * (k + 1) + 2 = omega arith in e) ∙ add-mul (2 * (k + 1)) 2 (q - a) in
      subst (λ n. t3 ≤ t0 + 2 * (h + 1) * n) both (omega arith)

  -- the first part, its node, and the others
  pub grow-touches : (k cut_length away rest_length t0 t1 t2 t3 : ℕ) → h ≡ k + 1 → cut_length ≡ cut → away ≡ offset - count → rest_length ≡ more - cut
      → ((a z : ℕ) → IsChangeWithin p top (k + 1) old count offset cut_length a z → t1 ≤ t0 + 2 * (k + 1) * (z - a)) → t2 ≤ t1 + 1
      → ((a z : ℕ) → IsChangeWithin p top (h + 1) None (size - count) away rest_length a z → t3 ≤ t2 + 2 * (h + 1) * (z - a)) → t3 ≤ t0 + 2 * (h + 1) * (z - a)
  grow-touches k cut_length away rest_length t0 t1 t2 t3 up cut_length_is away_is rest_length_is one save rest =
      let first_at : IsChangeWithin p top (k + 1) old count offset cut_length a (min z q)
      = subst (λ n. IsChangeWithin p top n old count offset cut_length a (min z q)) up (subst (λ n. IsChangeWithin p top h old count offset n a (min z q)) (sym cut_length_is) grow-first) in
      let rest_at : IsChangeWithin p top (h + 1) None (size - count) away rest_length 0 (z - q)
      = subst (λ n. IsChangeWithin p top (h + 1) None (size - count) n rest_length 0 (z - q)) (sym away_is) (subst (λ n. IsChangeWithin p top (h + 1) None (size - count) (offset - count) n 0 (z - q)) (sym rest_length_is) grow-rest) in
      grow-spent k t0 t1 t2 t3 up (one a (min z q) first_at) save (rest 0 (z - q) rest_at)

-- a row more holds more bytes
pub span-less : (p : Profile) → IsTrue (is_profile p) → (k h count : ℕ) → h ≡ k + 1 → count ≡ span p.chunk p.width h → span p.chunk p.width k < count
unfolding span
span-less p ok k h count up is =
    let two : 2 ≤ p.width = (kept p ok).two in
    let wide : 1 ≤ p.width = omega arith in
    let some : 1 ≤ span p.chunk p.width k = span-pos p.chunk p.width k (kept p ok).some wide in
    let at : span p.chunk p.width h ≡ p.width * span p.chunk p.width k = ap (span p.chunk p.width) (up ∙ add-one k) in
    let more : 2 * span p.chunk p.width k ≤ p.width * span p.chunk p.width k = mul-le-mul two (let e : span p.chunk p.width k ≤ span p.chunk p.width k = omega arith in e) in
    omega arith

-- ---- what is spent on a whole file

module _ (p : Profile) (ok : IsTrue (is_profile p)) (old size offset more : ℕ) (at : Heights) (are : AreHeights p old size at) where
  pub fits-new : size ≤ span p.chunk p.width (at.height + 1)
  fits-new =
      let h : at.height ≡ are.after - 1 = are.height_is in
      let wide : 1 ≤ p.width = (let two : 2 ≤ p.width = (kept p ok).two in omega arith) in
      let rises : span p.chunk p.width are.after ≤ span p.chunk p.width (at.height + 1) = span-rises p.chunk p.width are.after (at.height + 1) wide (omega arith) in
      let fits : size ≤ span p.chunk p.width are.after = are.high.fits in
      omega arith

  pub fits-old : old ≤ span p.chunk p.width at.top
  fits-old =
      let t : at.top ≡ max at.rows 1 = are.top_is in
      let wide : 1 ≤ p.width = (let two : 2 ≤ p.width = (kept p ok).two in omega arith) in
      let rises : span p.chunk p.width at.rows ≤ span p.chunk p.width at.top = span-rises p.chunk p.width at.rows at.top wide (omega arith) in
      let fits : old ≤ span p.chunk p.width at.rows = are.before.fits in
      omega arith

  -- what is asked of the parts below the new root
  pub no-bytes : size ≡ 0 → at.height ≡ 0
  no-bytes none = by are.after refl
    where
      by : (n : ℕ) → n ≡ are.after → at.height ≡ 0
      by zero e = let h : at.height ≡ are.after - 1 = are.height_is in omega arith
      by (suc k) e = absurd (let past : span p.chunk p.width 0 < size = are.high.least 0 (omega arith) in omega arith)

  pub more-bytes : at.top ≤ at.height → span p.chunk p.width at.height < size
  more-bytes high = are.high.least at.height (let t : at.top ≡ max at.rows 1 = are.top_is in let h : at.height ≡ are.after - 1 = are.height_is in omega arith)

  -- the old file as a part as high as the new root
  module _ (first : Part) (first_is : first.size ≡ at.first) where
    left_alone : old ≡ size → IsLeft at.top (at.height + 1) size (Some first)
    left_alone same =
        let t : at.top ≡ max at.rows 1 = are.top_is in
        let h : at.height ≡ are.after - 1 = are.height_is in
        let f : at.first ≡ min old (span p.chunk p.width (at.height + 1)) = are.first_is in
        let alike : at.rows ≡ are.after = height-unique p.chunk p.width old at.rows are.after are.before (subst (λ n. IsHeight p.chunk p.width n are.after) (sym same) are.high) in
        let fits = fits-new in
        (omega arith, omega arith)

    whole_within : (a z : ℕ) → IsEditWithin p.chunk old size offset more a z → IsChangeWithin p at.top (at.height + 1) (Some first) size offset more a z
    whole_within a z is = record {
      fits = few (cases_lt at.top (at.height + 1));
      laid = is.laid;
      ends = λ changed.
          let ends = is.ends (λ same. changed (left_alone same)) in
          let from : a * p.chunk ≤ min old size - 1 = ends.0 in
          let fits = fits-new in
          let f : at.first ≡ min old (span p.chunk p.width (at.height + 1)) = are.first_is in
          ((let s : min first.size size ≡ min old size = omega arith in omega arith), ends.1, ends.2);
    }
      where
        few : (at.top < at.height + 1) ⊎ (at.height + 1 ≤ at.top) → first.size ≤ span p.chunk p.width (min at.top (at.height + 1))
        few (inl lower) = subst (λ n. first.size ≤ span p.chunk p.width n) (let e : at.top ≡ min at.top (at.height + 1) = omega arith in e) (let f : at.first ≡ min old (span p.chunk p.width (at.height + 1)) = are.first_is in let o = fits-old in omega arith)
        few (inr higher) = subst (λ n. first.size ≤ span p.chunk p.width n) (let e : at.height + 1 ≡ min at.top (at.height + 1) = omega arith in e) (let f : at.first ≡ min old (span p.chunk p.width (at.height + 1)) = are.first_is in omega arith)

  changes_some : (a z : ℕ) → IsEditWithin p.chunk old size offset more a z → ((old ≡ size) × (more ≡ 0) → ⊥) → a < z
  changes_some a z is changed = by (cases_lt 0 more)
    where
      by : (0 < more) ⊎ (more ≤ 0) → a < z
      by (inl some) =
          let both = is.laid some in
          let from : a * p.chunk ≤ offset = both.0 in
          let to : offset + more ≤ z * p.chunk = both.1 in
          lt_of_mul-lt-mul_right p.chunk {m = a} {n = z} (omega arith)
      by (inr none) = (is.ends (λ same. changed (same, (let e : more ≡ 0 = omega arith in e)))).2

  -- the root, what is changed below it, and the new root
  whole_costs : (a z t0 t1 t2 t3 : ℕ) → t1 ≡ t0 + 1 → t2 ≤ t1 + (at.top - 1 - at.height) + 1 + 2 * (at.height + 1) * (z - a) → t3 ≤ t2 + 1 → a < z → t3 ≤ t0 + 3 + (at.rows - are.after) + 2 * (are.after + 1) * (z - a)
  whole_costs a z t0 t1 t2 t3 one two three some = by (cases_lt 0 are.after)
    where
      by : (0 < are.after) ⊎ (are.after ≤ 0) → t3 ≤ t0 + 3 + (at.rows - are.after) + 2 * (are.after + 1) * (z - a)
      by (inl high) =
          let t : at.top ≡ max at.rows 1 = are.top_is in
          let h : at.height ≡ are.after - 1 = are.height_is in
          let same : 2 * (are.after + 1) ≡ 2 * (at.height + 1) + 2 = omega arith in
          let more : 2 * (are.after + 1) * (z - a) ≡ 2 * (at.height + 1) * (z - a) + 2 * (z - a) = ap (λ n. n * (z - a)) same ∙ add-mul (2 * (at.height + 1)) 2 (z - a) in
          omega arith
      by (inr low) =
          let t : at.top ≡ max at.rows 1 = are.top_is in
          let h : at.height ≡ are.after - 1 = are.height_is in
          let same : 2 * (are.after + 1) ≡ 2 * (at.height + 1) = omega arith in
          let more : 2 * (are.after + 1) * (z - a) ≡ 2 * (at.height + 1) * (z - a) = ap (λ n. n * (z - a)) same in
          omega arith

  -- what an edit costs, of the parts below the root that was loaded
  pub edit-costs : (codec : Codec) (root : NodeParts) (entry : Entry) → IsLaidOut p codec root → old ≡ bytes_over root.parts → ((old ≡ size) × (more ≡ 0) → ⊥)
      → (n new rows after a z t0 t1 t2 t3 : ℕ) → old ≡ n → size ≡ new → IsHeight p.chunk p.width n rows → IsHeight p.chunk p.width new after → IsEditWithin p.chunk n new offset more a z → t1 ≡ t0 + 1
      → ((whole first : Part) (a z : ℕ) → whole.size ≤ span p.chunk p.width at.top → AreBelow (span p.chunk p.width (at.top - 1)) (Some whole) root.parts → Some (record { entry = entry; size = at.first }) ≡ Some first
      → first.size ≡ min whole.size (span p.chunk p.width (at.height + 1)) → IsChangeWithin p at.top (at.height + 1) (Some (record { entry = entry; size = at.first })) size offset more a z → a < z
      → t2 ≤ t1 + (at.top - 1 - at.height) + 1 + 2 * (at.height + 1) * (z - a)) → t3 ≤ t2 + 1 → t3 ≤ t0 + 3 + (rows - after) + 2 * (after + 1) * (z - a)
  edit-costs codec root entry laid old_is changed n new rows after a z t0 t1 t2 t3 same size_is rows_is after_is within one two three =
      let here : IsEditWithin p.chunk old size offset more a z = subst (λ k. IsEditWithin p.chunk k size offset more a z) (sym same) (subst (λ k. IsEditWithin p.chunk n k offset more a z) (sym size_is) within) in
      let some : a < z = changes_some a z here changed in
      let part : Part = record { entry = entry; size = at.first } in
      let whole : Part = record { entry = entry; size = old } in
      let below : AreBelow (span p.chunk p.width (at.top - 1)) (Some whole) root.parts = laid-below p ok codec root at.rows at.top whole laid (subst (λ k. IsHeight p.chunk p.width k at.rows) old_is are.before) are.top_is old_is in
      let rows_same : at.rows ≡ rows = height-unique p.chunk p.width n at.rows rows (subst (λ k. IsHeight p.chunk p.width k at.rows) same are.before) rows_is in
      let after_same : are.after ≡ after = height-unique p.chunk p.width new are.after after (subst (λ k. IsHeight p.chunk p.width k are.after) size_is are.high) after_is in
      let all = whole_costs a z t0 t1 t2 t3 one (two whole part a z fits-old below refl are.first_is (whole_within part refl a z here) some) three some in
      subst (λ x. t3 ≤ t0 + 3 + (x - after) + 2 * (after + 1) * (z - a)) rows_same (subst (λ x. t3 ≤ t0 + 3 + (at.rows - x) + 2 * (x + 1) * (z - a)) after_same all)

-- ---- the parts below the new root

module _ (X : List ℕ → List ℕ) (good : IsHash X) (p : Profile) (ok : IsTrue (is_profile p)) (top h size offset : ℕ) (piece : List ℕ) (a b c : Told) (first_saves : SavesOnly X a b) (rest_saves : SavesOnly X b c) (fits : size ≤ span p.chunk p.width (h + 1))
    (fronts slice : List Part) (sliced : slice ≡ fronts) where
  -- what is made of the first of the old parts is made of all
  pub remade-gives : (olds news : List Part)
      → ((gs : List (List ℕ)) → AreOld X p (span p.chunk p.width (top - 1)) (top - 1) olds gs → Agrees a (blocks_of_all X p (top - 1) gs) → IsFirstOf X p (h + 1) (min (top - 1) h) (blocks_of_all X p (top - 1) gs) fronts (joined gs))
      → ((gs : List (List ℕ)) → AreOld X p (span p.chunk p.width (min (top - 1) h)) (min (top - 1) h) slice gs → length (joined gs) ≤ span p.chunk p.width top → Agrees b (blocks_of_all X p (min (top - 1) h) gs) → Agrees c (blocks_of_all X p (min (top - 1) h) gs)
      → GivesAll X p c (blocks_of_all X p (min (top - 1) h) gs) h news (groups (span p.chunk p.width h) (overlaid size (joined gs) offset piece)))
      → (gs : List (List ℕ)) → AreOld X p (span p.chunk p.width (top - 1)) (top - 1) olds gs → length (joined gs) ≤ span p.chunk p.width top → Agrees a (blocks_of_all X p (top - 1) gs) → Agrees c (blocks_of_all X p (top - 1) gs)
      → GivesAll X p c (blocks_of_all X p (top - 1) gs) h news (groups (span p.chunk p.width h) (overlaid size (joined gs) offset piece))
  remade-gives olds news firsts made gs are few agrees agrees_now =
      let f = firsts gs are agrees in
      let all = blocks_of_all X p (top - 1) gs in
      let at_b : Agrees b (blocks_of_all X p (top - 1) gs) = agrees-between X IsSave a b c (blocks_of_all X p (top - 1) gs) first_saves rest_saves (record { first = agrees; last = agrees_now }) in
      let m = made f.gs (subst (λ (l : List Part). AreOld X p (span p.chunk p.width (min (top - 1) h)) (min (top - 1) h) l f.gs) (sym sliced) f.are) (omega (arith, f.few))
      (agrees-among b (blocks_of_all X p (min (top - 1) h) f.gs) (blocks_of_all X p (top - 1) gs) f.among at_b) (agrees-among c (blocks_of_all X p (min (top - 1) h) f.gs) (blocks_of_all X p (top - 1) gs) f.among agrees_now) in
      let bytes : overlaid size (joined f.gs) offset piece ≡ overlaid size (joined gs) offset piece
      = sym (changed-take size (span p.chunk p.width (h + 1)) (joined f.gs) offset piece fits) ∙ ap (λ (l : List ℕ). overlaid size l offset piece) f.same ∙ changed-take size (span p.chunk p.width (h + 1)) (joined gs) offset piece fits in
      record {
        same = m.same ∙ ap (λ (l : List ℕ). map (part_over X p.chunk p.width h) (groups (span p.chunk p.width h) l)) bytes;
        known = known-among c (blocks_of_all X p (min (top - 1) h) f.gs) (blocks_of_all X p (top - 1) gs) (blocks_of_all X p h (groups (span p.chunk p.width h) (overlaid size (joined gs) offset piece))) f.among
            (subst (λ (l : List ℕ). AllByRecursion (IsKnown c (blocks_of_all X p (min (top - 1) h) f.gs)) (blocks_of_all X p h (groups (span p.chunk p.width h) l))) bytes m.known);
      }

  pub remade-lost : (olds : List Part) (fault : StoreFault)
      → ((gs : List (List ℕ)) → AreOld X p (span p.chunk p.width (top - 1)) (top - 1) olds gs → Agrees a (blocks_of_all X p (top - 1) gs) → IsFirstOf X p (h + 1) (min (top - 1) h) (blocks_of_all X p (top - 1) gs) fronts (joined gs))
      → ((gs : List (List ℕ)) → AreOld X p (span p.chunk p.width (min (top - 1) h)) (min (top - 1) h) slice gs → length (joined gs) ≤ span p.chunk p.width top → Agrees b (blocks_of_all X p (min (top - 1) h) gs) → Agrees c (blocks_of_all X p (min (top - 1) h) gs)
      → IsLossOf c (blocks_of_all X p (min (top - 1) h) gs) fault)
      → (gs : List (List ℕ)) → AreOld X p (span p.chunk p.width (top - 1)) (top - 1) olds gs → length (joined gs) ≤ span p.chunk p.width top → Agrees a (blocks_of_all X p (top - 1) gs) → Agrees c (blocks_of_all X p (top - 1) gs)
      → IsLossOf c (blocks_of_all X p (top - 1) gs) fault
  remade-lost olds fault firsts lost gs are few agrees agrees_now =
      let f = firsts gs are agrees in
      let at_b : Agrees b (blocks_of_all X p (top - 1) gs) = agrees-between X IsSave a b c (blocks_of_all X p (top - 1) gs) first_saves rest_saves (record { first = agrees; last = agrees_now }) in
      loss-among c (blocks_of_all X p (min (top - 1) h) f.gs) (blocks_of_all X p (top - 1) gs) fault f.among
      (lost f.gs (subst (λ (l : List Part). AreOld X p (span p.chunk p.width (min (top - 1) h)) (min (top - 1) h) l f.gs) (sym sliced) f.are) (omega (arith, f.few))
      (agrees-among b (blocks_of_all X p (min (top - 1) h) f.gs) (blocks_of_all X p (top - 1) gs) f.among at_b) (agrees-among c (blocks_of_all X p (min (top - 1) h) f.gs) (blocks_of_all X p (top - 1) gs) f.among agrees_now))

  -- the same of whatever is answered
  pub remade-all : (olds : List Part) (r : Result (List Part) StoreFault)
      → ((gs : List (List ℕ)) → AreOld X p (span p.chunk p.width (top - 1)) (top - 1) olds gs → Agrees a (blocks_of_all X p (top - 1) gs) → IsFirstOf X p (h + 1) (min (top - 1) h) (blocks_of_all X p (top - 1) gs) fronts (joined gs))
      → ((gs : List (List ℕ)) → AreOld X p (span p.chunk p.width (min (top - 1) h)) (min (top - 1) h) slice gs → length (joined gs) ≤ span p.chunk p.width top → Agrees b (blocks_of_all X p (min (top - 1) h) gs) → Agrees c (blocks_of_all X p (min (top - 1) h) gs)
      → IfOk r (λ parts. GivesAll X p c (blocks_of_all X p (min (top - 1) h) gs) h parts (groups (span p.chunk p.width h) (overlaid size (joined gs) offset piece))))
      → (gs : List (List ℕ)) → AreOld X p (span p.chunk p.width (top - 1)) (top - 1) olds gs → length (joined gs) ≤ span p.chunk p.width top → Agrees a (blocks_of_all X p (top - 1) gs) → Agrees c (blocks_of_all X p (top - 1) gs)
      → IfOk r (λ parts. GivesAll X p c (blocks_of_all X p (top - 1) gs) h parts (groups (span p.chunk p.width h) (overlaid size (joined gs) offset piece)))
  remade-all olds (Ok news) firsts made = remade-gives olds news firsts made
  remade-all olds (Err fault) firsts made = λ gs are few agrees agrees_now. tt

  pub remade-misses : (olds : List Part) (r : Result (List Part) StoreFault)
      → ((gs : List (List ℕ)) → AreOld X p (span p.chunk p.width (top - 1)) (top - 1) olds gs → Agrees a (blocks_of_all X p (top - 1) gs) → IsFirstOf X p (h + 1) (min (top - 1) h) (blocks_of_all X p (top - 1) gs) fronts (joined gs))
      → ((gs : List (List ℕ)) → AreOld X p (span p.chunk p.width (min (top - 1) h)) (min (top - 1) h) slice gs → length (joined gs) ≤ span p.chunk p.width top → Agrees b (blocks_of_all X p (min (top - 1) h) gs) → Agrees c (blocks_of_all X p (min (top - 1) h) gs)
      → IfErr r (IsLossOf c (blocks_of_all X p (min (top - 1) h) gs)))
      → (gs : List (List ℕ)) → AreOld X p (span p.chunk p.width (top - 1)) (top - 1) olds gs → length (joined gs) ≤ span p.chunk p.width top → Agrees a (blocks_of_all X p (top - 1) gs) → Agrees c (blocks_of_all X p (top - 1) gs)
      → IfErr r (IsLossOf c (blocks_of_all X p (top - 1) gs))
  remade-misses olds (Ok news) firsts lost = λ gs are few agrees agrees_now. tt
  remade-misses olds (Err fault) firsts lost = remade-lost olds fault firsts lost

-- what is bad among parts that stand where the old ones do
pub among-answers : (hash : List ℕ → List ℕ) (p : Profile) (rows t j : ℕ) (olds parts slice : List Part) (r : Result (List Part) StoreFault) (a b c : Seen) → slice ≡ parts → StandAmong hash p a.told rows t olds j parts → KeepsGood hash a.told c.told → StaysCalm a b
    → Answers hash (IsBadAmongOld hash p c.told rows j slice) r b c → Answers hash (IsBadAmongOld hash p c.told rows t olds) r a c
among-answers hash p rows t j olds parts slice (Ok news) a b c sliced stand keeps calm h = StaysCalm-trans a b c calm h
among-answers hash p rows t j olds parts slice (Err fault) a b c sliced stand keeps calm h = among-blamed hash p rows t j olds parts slice fault a b c sliced stand keeps calm h

-- with no old part none is bad
pub none-answers : {A : Type 0} (hash : List ℕ → List ℕ) (p : Profile) (rows t : ℕ) (olds : List Part) (r : Result A StoreFault) (a b : Seen) → Answers hash (IsBadOld hash p b.told rows 0 None) r a b → Answers hash (IsBadAmongOld hash p b.told rows t olds) r a b
none-answers hash p rows t olds (Ok x) a b h = h
none-answers hash p rows t olds (Err fault) a b h = Shows-by hash (IsBadOld hash p b.told rows 0 None) (IsBadAmongOld hash p b.told rows t olds) fault a b (λ role bytes bad root all. bad root tt) h

pub remade-few : (X : List ℕ → List ℕ) → IsHash X → (p : Profile) → IsTrue (is_profile p) → (h size : ℕ) (r : Result (List Part) StoreFault) → HasSize p (h + 1) size → IfOk r (λ parts. length parts * span p.chunk p.width h < size + span p.chunk p.width h) → IfOk r (λ parts. length parts ≤ 1024)
remade-few X good p ok h size (Ok parts) has room = let few : length parts ≤ p.width = node-few X good p ok h size (length parts) has room in let w : p.width ≤ 1024 = (kept p ok).few in omega arith
remade-few X good p ok h size (Err fault) has room = tt

-- a file of no bytes has one leaf
pub empty-gives : (X : List ℕ → List ℕ) (p : Profile) (told : Told) (olds : List Held) (h size offset : ℕ) (b piece : List ℕ) (parts : List Part) (leaf : Part) → h ≡ 0 → size ≡ 0 → parts ≡ leaf ∷ [] → GivesPart X p told [] 0 leaf (overlaid 0 [] 0 [])
    → GivesAll X p told olds h parts (groups (span p.chunk p.width h) (overlaid size b offset piece))
empty-gives X p told olds h size offset b piece parts leaf low none are gives =
    subst (λ k. GivesAll X p told olds k parts (groups (span p.chunk p.width k) (overlaid size b offset piece))) (sym low)
    (subst (λ n. GivesAll X p told olds 0 parts (groups (span p.chunk p.width 0) (overlaid n b offset piece))) (sym none) (record {
      same = are ∙ ap (λ (x : Part). x ∷ []) gives.same;
      known = all-append (IsKnown told olds) (blocks_over X p.chunk p.width 0 []) [] (known-among told [] olds (blocks_over X p.chunk p.width 0 []) (λ x n. absurd n) gives.known) tt;
    }))

pub leaf-costs : (h d x t0 t1 : ℕ) → t1 ≤ t0 + 2 → 1 ≤ d → t1 ≤ t0 + x + 1 + 2 * (h + 1) * d
leaf-costs h d x t0 t1 few some = let more : 2 * 1 ≤ 2 * (h + 1) * d = mul-le-mul (let e : 2 ≤ 2 * (h + 1) = omega arith in e) some in omega arith

pub first-touches : (s : ℕ) (old : Option Part) (first : Part) (slice parts : List Part) → old ≡ Some first → slice ≡ parts → AreBelow s (Some first) parts → AreBelow s old slice
first-touches s old first slice parts is sliced h = subst (λ (o : Option Part). AreBelow s o slice) (sym is) (subst (AreBelow s (Some first)) (sym sliced) h)
