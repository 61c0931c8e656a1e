-- How the blocks of a file are gone through.
use Rattle.std.proofs.Common.{◌≡◌, ℕ, zero, suc, ◌+◌, ◌-◌, ◌<◌, ◌≤◌, List, [], ◌∷◌, ◌++◌, length, length-append, map, drop, get_or, refl, ap, arith, sym, ◌∙◌, subst, append_assoc, append-nil, None, Some, Result, Ok, Err, inl, inr, IsTrue}
use Rattle.std.specs.Prelude.{IfSome}
use Rattle.std.specs.List.{AllByRecursion, flat_map}
use Rattle.std.proofs.lemmas.List.{drop_all, drop_more, length-map, map-append}
use Rattle.uf_cid.specs.Blocks.{Held}
use Rattle.uf_cid.specs.declared.bytes.StrictFault.{StrictFault}
use Rattle.uf_cid.specs.declared.cid.Cid.{Cid}
use Rattle.uf_cid.specs.declared.cid.Codec.TheVariants.{Raw, DagPb}
use Rattle.uf_edge.specs.Counts.{Stood}
use Rattle.uf_store.specs.declared.store.Role.{Role}
use Rattle.uf_store.specs.declared.store.StoreFault.{StoreFault}
use Rattle.uf_store.specs.declared.store.StoreFault.TheVariants.{Failed, Damaged, Missing, BadBlock, Clash, Memory}
use Rattle.uf_store.specs.Clashes.{IsLoadFault}
use Rattle.uf_store.specs.Contents.{Told, held_at}
use Rattle.uf_store.specs.Faults.{Answers, NoneIsBad, Shows}
use Rattle.uf_store.specs.Keeping.{Agrees, Holds}
use Rattle.uf_store.specs.Lost.{FindsOver}
use Rattle.uf_store.specs.Seen.{Seen}
use Rattle.uf_store.proofs.Keeping.{Holds-append}
use Rattle.uf_tree.specs.declared.meta.Meta.{Meta}
use Rattle.uf_tree.specs.declared.nodes.Part.{Part}
use Rattle.uf_tree.specs.declared.profile.Profile.{Profile}
use Rattle.uf_tree.specs.Codecs.{Reads}
use Rattle.uf_tree.specs.FilePlan.{groups}
use Rattle.uf_tree.specs.FileSub.{blocks_over, part_over, span, whole_blocks, whole_part}
use Rattle.uf_tree.specs.Metas.{none}
use Rattle.uf_tree.specs.Profiles.{is_profile}
use Rattle.uf_tree.specs.Roots.{root_over}
use Rattle.uf_tree.specs.Validity.{IsHash}
use Rattle.uf_tree.proofs.MetaNumbers.{none-is_meta}
use Rattle.uf_tree.proofs.Told.{kept}
use Rattle.uf_tree.proofs.Valid.{root_node-valid}
use Rattle.uf_fileread.specs.Parts.{AreParts, parts_block}
use Rattle.uf_fileread.specs.Ranges.{IsFile, IsFirstLossOf}
use Rattle.uf_fileread.specs.Sending.{Fits, HasParts, IsFilePart, LoadsParts, MayStand}
use Rattle.uf_fileread.specs.declared.fault.RangeFault.TheVariants.{Store}
use Rattle.uf_fileread.specs.declared.node_parts.NodeParts.{NodeParts}
use Rattle.uf_fileread.proofs.Cutting.{groups_fit}
use Rattle.uf_fileread.proofs.Nodes.{same_parts}
use Rattle.uf_fileread.proofs.Sending.{loss-among, missing-first, need-lost, root-part, the_block, whole-none, whole-none-blocks}
use Rattle.uf_light.specs.FileCids.{below, cids_in, cids_of}
use Rattle.uf_light.specs.Gathered.{Gathered}
use Rattle.uf_light.proofs.Holding.{agrees-among, back, front}

-- ---- CIDs at the end of a list

holds-nothing : (told : Told) → Holds told []
holds-nothing None = tt
holds-nothing (Some t) = tt

-- nothing yet
pub gathered-none : (told : Told) (cids : List Cid) → Gathered told [] cids cids
gathered-none told cids = record { added = sym (append-nil cids); held = holds-nothing told }

-- one block
gathered-one : (told : Told) (b : Held) (cid : Cid) (cids cids_now : List Cid) → cid ≡ b.0 → cids_now ≡ cids ++ cid ∷ [] → Holds told (b ∷ []) → Gathered told (b ∷ []) cids cids_now
gathered-one told b cid cids cids_now is added held = record { added = added ∙ ap (λ (c : Cid). cids ++ c ∷ []) is; held = held }

-- blocks behind others
pub gathered-more : (told : Told) (l m : List Held) (a b c : List Cid) → Gathered told l a b → Gathered told m b c → Gathered told (l ++ m) a c
gathered-more told l m a b c first next = record {
  added = next.added ∙ ap (λ (k : List Cid). k ++ cids_of m) first.added ∙ append_assoc a (cids_of l) (cids_of m) ∙ ap (λ (k : List Cid). a ++ k) (sym (map-append (λ (b : Held). b.0) l m));
  held = Holds-append told l m first.held next.held;
}

-- ---- the parts that are put in front

-- one more is put there
pub put-more : (parts : List Part) (otherwise : Part) (count i : ℕ) (before due due_now : List Cid) → count ≡ length parts → i < count
    → due ≡ cids_in (drop (length parts - i) parts) ++ before → due_now ≡ (get_or parts (count - 1 - i) otherwise).entry.cid ∷ due → due_now ≡ cids_in (drop (length parts - (i + 1)) parts) ++ before
put-more parts otherwise count i before due due_now all low was now =
    let here : drop (count - 1 - i) parts ≡ get_or parts (count - 1 - i) otherwise ∷ drop (count - 1 - i + 1) parts = drop_more parts (count - 1 - i) otherwise (omega (arith, all, low)) in
    let from : count - 1 - i ≡ length parts - (i + 1) = omega (arith, all) in
    let to : length parts - i ≡ count - 1 - i + 1 = omega (arith, all, low) in
    now ∙ (λ j. (get_or parts (count - 1 - i) otherwise).entry.cid ∷ was j)
    ∙ ap (λ (n : ℕ). (get_or parts (count - 1 - i) otherwise).entry.cid ∷ (cids_in (drop n parts) ++ before)) to
    ∙ ap (λ (l : List Part). cids_in l ++ before) (sym here)
    ∙ ap (λ (n : ℕ). cids_in (drop n parts) ++ before) from

-- none yet, and all
pub put-none : (parts : List Part) (before : List Cid) → before ≡ cids_in (drop (length parts - 0) parts) ++ before
put-none parts before = sym (ap (λ (l : List Part). cids_in l ++ before) (drop_all (length parts - 0) parts (omega arith)))

pub put-all : (parts : List Part) (count i : ℕ) (before due : List Cid) → count ≡ length parts → count ≤ i → due ≡ cids_in (drop (length parts - i) parts) ++ before → due ≡ cids_in parts ++ before
put-all parts count i before due all past was = was ∙ ap (λ (n : ℕ). cids_in (drop n parts) ++ before) (let rest : length parts - i ≡ 0 = omega (arith, all, past) in rest)

-- ---- what a node may be

at-root : (v : NodeParts) → AreParts v → MayStand 22 None v
at-root v valid = record { valid = valid; some = omega arith; carries = λ lt. absurd (omega (arith, lt)); size = tt }

-- any node may stand at the root
pub root-reads : (bytes : List ℕ) (r : Result NodeParts StrictFault) → Reads AreParts parts_block bytes r → Reads (MayStand 22 None) parts_block bytes r
root-reads bytes (Ok v) h = (at-root v h.0, h.1)
root-reads bytes (Err f) (inl e) = inl e
root-reads bytes (Err f) (inr h) = inr (λ v stands e. h v stands.valid e)

-- ---- what is due

-- a part that is to be gone through, by its metadata, its height and its bytes
abbrev pub Piece : Type 0
Piece = Meta × ℕ × List ℕ

-- a part below the root: it has no metadata
abbrev pub bare : ℕ → List ℕ → Piece
bare k bytes = (none, k, bytes)

module _ (X : List ℕ → List ℕ) (p : Profile) where
  abbrev pub blocks : Piece → List Held
  blocks t = whole_blocks X p.chunk p.width t.0 t.1 t.2

  abbrev pub cid_of : Piece → Cid
  cid_of t = (whole_part X p.chunk p.width t.0 t.1 t.2).entry.cid

  abbrev pub IsDue : Piece → Type 0
  IsDue t = IsFilePart X p 22 t.0 t.1 (cid_of t) None t.2

  -- some blocks were gathered, and those of the parts that are due follow
  pub record Gone (told : Told) (whole : List Held) (cids due : List Cid) : Type 0 where
    pub todo : List Piece
    pub done : List Held
    pub whole_is : whole ≡ done ++ flat_map blocks todo
    pub gathered : Gathered told done [] cids
    pub due_is : due ≡ map cid_of todo
    pub parts : AllByRecursion IsDue todo

  -- the first of the parts that are due
  pub record Coming (told : Told) (whole : List Held) (cids : List Cid) (cid : Cid) (due : List Cid) : Type 0 where
    pub meta : Meta
    pub height : ℕ
    pub bytes : List ℕ
    pub todo : List Piece
    pub done : List Held
    pub whole_is : whole ≡ done ++ (whole_blocks X p.chunk p.width meta height bytes ++ flat_map blocks todo)
    pub gathered : Gathered told done [] cids
    pub is : IsFilePart X p 22 meta height cid None bytes
    pub due_is : due ≡ map cid_of todo
    pub parts : AllByRecursion IsDue todo

-- ---- one block

found-lost : (told : Told) (l : List Held) (v : List Part) (f : StoreFault) → IsFirstLossOf told l f → FindsOver told l v (Err f)
found-lost told l v Failed h = h
found-lost told l v (Damaged c) h = h
found-lost told l v (Missing c) h = h
found-lost told l v (BadBlock c role) h = h
found-lost told l v (Clash c x y) h = h
found-lost told l v Memory h = h

module _ (X : List ℕ → List ℕ) (good : IsHash X) (p : Profile) where
  abbrev at_parts : ℕ → List ℕ → List Part
  at_parts k bytes = map (part_over X p.chunk p.width k) (groups (span p.chunk p.width k) bytes)

  abbrev pub root : Meta → ℕ → List ℕ → Held
  root m k bytes = root_over X p.chunk p.width m k bytes

  some_wide : IsTrue (is_profile p) → 1 ≤ p.width
  some_wide ok = let two : 2 ≤ p.width = (kept p ok).two in omega arith

  module _ (m : Meta) (bytes : List ℕ) (cid : Cid) where
    root-cid : (k : ℕ) → IsFilePart X p 22 m k cid None bytes → cid ≡ (root m k bytes).0
    unfolding whole_part
    root-cid zero is = is.cid_is
    root-cid (suc k) is = is.cid_is

    no-leaf : IsFilePart X p 22 m zero cid None bytes → cid.codec ≡ DagPb → ⊥
    no-leaf is codec = (let no : Raw ≡ DagPb = sym (ap (λ (c : Cid). c.codec) (root-cid zero is)) ∙ codec in cc)

    no-node : (k : ℕ) → IsFilePart X p 22 m (suc k) cid None bytes → cid.codec ≡ Raw → ⊥
    no-node k is codec = (let no : DagPb ≡ Raw = sym (ap (λ (c : Cid). c.codec) (root-cid (suc k) is)) ∙ codec in cc)

    -- the planned node
    abbrev node : ℕ → NodeParts
    node k = record { parts = at_parts k bytes; meta = m }

    stands : (k : ℕ) → IsFilePart X p 22 m (suc k) cid None bytes → MayStand 22 None (node k)
    stands k is = at-root (node k) (root_node-valid X good p is.profile m is.good k bytes is.fits.few is.fits.small)

    -- a leaf was found
    pub leaf-found : (k : ℕ) (told : Told) (lent : List ℕ) (parts : List Part) → cid.codec ≡ Raw → parts ≡ [] → IfSome told (λ t. held_at t cid ≡ Some lent) → IsFilePart X p 22 m k cid None bytes → Agrees told (root m k bytes ∷ [])
        → FindsOver told (root m k bytes ∷ []) (below X p k bytes) (Ok parts)
    leaf-found zero told lent parts codec empty held is agrees = (empty, (the_block told (root m zero bytes) [] cid lent (root-cid zero is) agrees held).1)
    leaf-found (suc k) told lent parts codec empty held is agrees = absurd (no-node k is codec)

    -- or is lost
    pub leaf-lost : (k : ℕ) (before now : Seen) (fault : StoreFault) → cid.codec ≡ Raw → Shows X NoneIsBad fault before now → IsLoadFault cid fault → now.told ≡ before.told → Stood before.faults now.faults
        → IsFilePart X p 22 m k cid None bytes → FindsOver before.told (root m k bytes ∷ []) (below X p k bytes) (Err fault)
    leaf-lost k before now fault codec shows load same stood is =
        found-lost before.told (root m k bytes ∷ []) (below X p k bytes) fault (need-lost X before now (root m k bytes) [] cid fault (root-cid k is) shows load same stood)

    -- a node was loaded
    pub node-found : (k : ℕ) (before : Seen) (parts : NodeParts) → cid.codec ≡ DagPb → HasParts 22 None cid before parts → IsFilePart X p 22 m k cid None bytes → Agrees before.told (root m k bytes ∷ [])
        → FindsOver before.told (root m k bytes ∷ []) (below X p k bytes) (Ok parts.parts)
    node-found zero before parts codec has is agrees = absurd (no-leaf is codec)
    node-found (suc k) before parts codec has is agrees =
        let block = the_block before.told (root m (suc k) bytes) [] cid (parts_block parts) (root-cid (suc k) is) agrees has.is_held in
        (ap (λ (n : NodeParts). n.parts) (same_parts parts (node k) has.stands.valid (stands k is).valid block.0), block.1)

    -- or wasn't
    lost : (Bad : Role → List ℕ → Type 0) (k : ℕ) (before now : Seen) (fault : StoreFault) → LoadsParts 22 None cid before now (Err fault) → Answers {A = NodeParts} X Bad (Err fault) before now
        → IsFilePart X p 22 m (suc k) cid None bytes → Agrees before.told (root m (suc k) bytes ∷ []) → Stood before.faults now.faults
        → IsFirstLossOf before.told (root m (suc k) bytes ∷ []) fault
    lost Bad k before now Failed loads cause is agrees stood = let r = cause.rose in omega (arith, r, stood)
    lost Bad k before now (Damaged c) loads cause is agrees stood = let r = cause.rose in omega (arith, r, stood)
    lost Bad k before now (Missing c) loads cause is agrees stood =
        missing-first before.told (root m (suc k) bytes) [] c (loads.0 ∙ root-cid (suc k) is) (subst (λ (d : Cid). IfSome before.told (λ t. held_at t d ≡ None)) (sym loads.0) loads.1)
    lost Bad k before now (BadBlock c role) loads cause is agrees stood =
        loads.none (node k) (stands k is) (the_block before.told (root m (suc k) bytes) [] cid now.lent (root-cid (suc k) is) agrees loads.is_held).0
    lost Bad k before now (Clash c x y) loads cause is agrees stood = loads
    lost Bad k before now Memory loads cause is agrees stood = tt

    pub node-lost : (Bad : Role → List ℕ → Type 0) (k : ℕ) (before now : Seen) (fault : StoreFault) → cid.codec ≡ DagPb → LoadsParts 22 None cid before now (Err fault) → Answers {A = NodeParts} X Bad (Err fault) before now
        → Stood before.faults now.faults → IsFilePart X p 22 m k cid None bytes → Agrees before.told (root m k bytes ∷ []) → FindsOver before.told (root m k bytes ∷ []) (below X p k bytes) (Err fault)
    node-lost Bad zero before now fault codec loads cause stood is agrees = absurd (no-leaf is codec)
    node-lost Bad (suc k) before now fault codec loads cause stood is agrees =
        found-lost before.told (root m (suc k) bytes ∷ []) (below X p (suc k) bytes) fault (lost Bad k before now fault loads cause is agrees stood)

  -- ---- what is gone through

  both-same : (a b : Cid) (k l : List Cid) → a ∷ k ≡ b ∷ l → (a ≡ b) × (k ≡ l)
  both-same a b k l e = ((let first : a ≡ b = cc in first), (let others : k ≡ l = cc in others))

  same-part : (m : Meta) (k : ℕ) (bytes : List ℕ) (a b : Cid) → a ≡ b → IsFilePart X p 22 m k a None bytes → IsFilePart X p 22 m k b None bytes
  same-part m k bytes a b same is = subst (λ (c : Cid). IsFilePart X p 22 m k c None bytes) same is

  pub starts : (told : Told) (m : Meta) (bytes : List ℕ) (height : ℕ) (cid : Cid) (cids due : List Cid) → IsFile X p m bytes cid height → cids ≡ [] → due ≡ cid ∷ []
      → Gone X p told (whole_blocks X p.chunk p.width m height bytes) cids due
  starts told m bytes height cid cids due is empty one =
      let part = root-part X good p cid m bytes height is in
      record {
        todo = (m, height, bytes) ∷ [];
        done = [];
        whole_is = sym (append-nil (whole_blocks X p.chunk p.width m height bytes));
        gathered = subst (Gathered told [] []) (sym empty) (gathered-none told []);
        due_is = one ∙ ap (λ (c : Cid). c ∷ []) part.cid_is;
        parts = (same-part m height bytes cid (whole_part X p.chunk p.width m height bytes).entry.cid part.cid_is part, tt);
      }

  no-todo : (todo : List Piece) → [] ≡ map (cid_of X p) todo → flat_map (blocks X p) todo ≡ []
  no-todo [] e = refl
  no-todo (t ∷ todo) e = absurd (let no : [] ≡ cid_of X p t ∷ map (cid_of X p) todo = e in cc)

  -- no more were gone through than there are
  pub no-more : (told : Told) (whole : List Held) (cids due : List Cid) → Gone X p told whole cids due → length cids ≤ length whole
  no-more told whole cids due g =
      let all = ap length g.whole_is in
      let parts = length-append g.done (flat_map (blocks X p) g.todo) in
      let got = ap length g.gathered.added in
      let each = length-map g.done (λ (b : Held). b.0) in
      omega (arith, all, parts, got, each)

  -- nothing is due
  pub ends : (told : Told) (whole : List Held) (cids due : List Cid) → Gone X p told whole cids due → due ≡ [] → FindsOver told whole (cids_of whole) (Ok cids)
  ends told whole cids due g empty =
      let all : whole ≡ g.done = g.whole_is ∙ ap (λ (l : List Held). g.done ++ l) (no-todo g.todo (sym empty ∙ g.due_is)) ∙ append-nil g.done in
      (g.gathered.added ∙ ap cids_of (sym all), subst (Holds told) (sym all) g.gathered.held)

  pub taken : (told : Told) (whole : List Held) (cids due : List Cid) (cid : Cid) (rest : List Cid) → Gone X p told whole cids due → due ≡ cid ∷ rest → Coming X p told whole cids cid rest
  taken told whole cids due cid rest g first = by g.todo g.whole_is (sym first ∙ g.due_is) g.parts
    where
      by : (todo : List Piece) → whole ≡ g.done ++ flat_map (blocks X p) todo → cid ∷ rest ≡ map (cid_of X p) todo → AllByRecursion (IsDue X p) todo → Coming X p told whole cids cid rest
      by [] whole_is e parts = absurd (let no : cid ∷ rest ≡ [] = e in cc)
      by (t ∷ todo) whole_is e parts = record {
        meta = t.0;
        height = t.1;
        bytes = t.2;
        todo = todo;
        done = g.done;
        whole_is = whole_is;
        gathered = g.gathered;
        is = same-part t.0 t.1 t.2 (cid_of X p t) cid (sym (both-same cid (cid_of X p t) rest (map (cid_of X p) todo) e).0) parts.0;
        due_is = (both-same cid (cid_of X p t) rest (map (cid_of X p) todo) e).1;
        parts = parts.1;
      }

  root-first : (m : Meta) (k : ℕ) (bytes : List ℕ) (P : Held → Type 0) → AllByRecursion P (whole_blocks X p.chunk p.width m k bytes) → P (root m k bytes)
  unfolding whole_blocks
  root-first m zero bytes P h = h.0
  root-first m (suc k) bytes P h = h.0

  -- the store agrees with its own block
  pub next-agrees : (told : Told) (whole : List Held) (cids : List Cid) (cid : Cid) (due : List Cid) (n : Coming X p told whole cids cid due) → Agrees told whole → Agrees told (root n.meta n.height n.bytes ∷ [])
  next-agrees told whole cids cid due n agrees =
      agrees-among told whole (root n.meta n.height n.bytes ∷ [])
      (λ P h. (root-first n.meta n.height n.bytes P (front P (whole_blocks X p.chunk p.width n.meta n.height n.bytes) (flat_map (blocks X p) n.todo) (back P n.done _ (subst (AllByRecursion P) n.whole_is h))), tt)) agrees

  -- ---- what is due of a node

  abbrev todos : ℕ → List ℕ → List Piece
  todos zero bytes = []
  todos (suc k) bytes = map (bare k) (groups (span p.chunk p.width k) bytes)

  blocks-of : (k : ℕ) (gs : List (List ℕ)) → flat_map (blocks X p) (map (bare k) gs) ≡ flat_map (blocks_over X p.chunk p.width k) gs
  blocks-of k [] = refl
  blocks-of k (g ∷ gs) = (λ i. whole-none-blocks X p.chunk p.width k g i ++ blocks-of k gs i)

  own-first : (m : Meta) (k : ℕ) (bytes : List ℕ) → whole_blocks X p.chunk p.width m k bytes ≡ root m k bytes ∷ flat_map (blocks X p) (todos k bytes)
  unfolding whole_blocks
  own-first m zero bytes = refl
  own-first m (suc k) bytes = ap (λ (l : List Held). root m (suc k) bytes ∷ l) (sym (blocks-of k (groups (span p.chunk p.width k) bytes)))

  cids-below : (k : ℕ) (gs : List (List ℕ)) → cids_in (map (part_over X p.chunk p.width k) gs) ≡ map (cid_of X p) (map (bare k) gs)
  cids-below k [] = refl
  cids-below k (g ∷ gs) = (λ i. (sym (whole-none X p.chunk p.width k g) i).entry.cid ∷ cids-below k gs i)

  todo-cids : (k : ℕ) (bytes : List ℕ) → cids_in (below X p k bytes) ≡ map (cid_of X p) (todos k bytes)
  todo-cids zero bytes = refl
  todo-cids (suc k) bytes = cids-below k (groups (span p.chunk p.width k) bytes)

  due-each : IsTrue (is_profile p) → (k : ℕ) (gs : List (List ℕ)) → k ≤ 22 → AllByRecursion (Fits p k) gs → AllByRecursion (IsDue X p) (map (bare k) gs)
  due-each ok k [] low h = tt
  due-each ok k (g ∷ gs) low h = (record { profile = ok; low = low; good = none-is_meta; carries = λ lt. refl; cid_is = refl; size = tt; fits = h.0 }, due-each ok k gs low h.1)

  due-below : (m : Meta) (k : ℕ) (bytes : List ℕ) (cid : Cid) → IsFilePart X p 22 m k cid None bytes → AllByRecursion (IsDue X p) (todos k bytes)
  due-below m zero bytes cid is = tt
  due-below m (suc k) bytes cid is =
      due-each is.profile k (groups (span p.chunk p.width k) bytes) (let low = is.low in omega (arith, low)) (groups_fit p k bytes (kept p is.profile).some (some_wide is.profile) is.fits.small)

  flat-append : (xs ys : List Piece) → flat_map (blocks X p) (xs ++ ys) ≡ flat_map (blocks X p) xs ++ flat_map (blocks X p) ys
  flat-append [] ys = refl
  flat-append (x ∷ xs) ys = ap (λ (l : List Held). blocks X p x ++ l) (flat-append xs ys) ∙ sym (append_assoc (blocks X p x) (flat_map (blocks X p) xs) (flat_map (blocks X p) ys))

  all-append : (xs ys : List Piece) → AllByRecursion (IsDue X p) xs → AllByRecursion (IsDue X p) ys → AllByRecursion (IsDue X p) (xs ++ ys)
  all-append [] ys h k = k
  all-append (x ∷ xs) ys h k = (h.0, all-append xs ys h.1 k)

  module _ (told : Told) (whole : List Held) (cids : List Cid) (cid : Cid) (due : List Cid) (n : Coming X p told whole cids cid due) where
    abbrev own : Held
    own = root n.meta n.height n.bytes

    abbrev rest : List Held
    rest = flat_map (blocks X p) (todos n.height n.bytes) ++ flat_map (blocks X p) n.todo

    whole-split : whole ≡ n.done ++ (own ∷ rest)
    whole-split = n.whole_is ∙ ap (λ (l : List Held). n.done ++ (l ++ flat_map (blocks X p) n.todo)) (own-first n.meta n.height n.bytes)

    -- the part was gone through, and those below it are due
    pub goes-on : (parts : List Part) (cids_now due_now : List Cid) → FindsOver told (own ∷ []) (below X p n.height n.bytes) (Ok parts) → cids_now ≡ cids ++ cid ∷ [] → due_now ≡ cids_in parts ++ due → Gone X p told whole cids_now due_now
    goes-on parts cids_now due_now found added put = record {
      todo = todos n.height n.bytes ++ n.todo;
      done = n.done ++ own ∷ [];
      whole_is = whole-split ∙ sym (append_assoc n.done (own ∷ []) rest) ∙ ap (λ (l : List Held). (n.done ++ own ∷ []) ++ l) (sym (flat-append (todos n.height n.bytes) n.todo));
      gathered = gathered-more told n.done (own ∷ []) [] cids cids_now n.gathered (gathered-one told own cid cids cids_now (root-cid n.meta n.bytes cid n.height n.is) added found.1);
      due_is = put ∙ ap (λ (l : List Part). cids_in l ++ due) found.0 ∙ (λ i. todo-cids n.height n.bytes i ++ n.due_is i) ∙ sym (map-append (cid_of X p) (todos n.height n.bytes) n.todo);
      parts = all-append (todos n.height n.bytes) n.todo (due-below n.meta n.height n.bytes cid n.is) n.parts;
    }

    -- fewer were gone through than there are
    pub one-more : length cids + 1 ≤ length whole
    one-more =
        let all = ap length whole-split in
        let parts = length-append n.done (own ∷ rest) in
        let got = ap length n.gathered.added in
        let each = length-map n.done (λ (b : Held). b.0) in
        omega (arith, all, parts, got, each)

    -- or its own block is lost
    pub stops : (fault : StoreFault) → FindsOver told (own ∷ []) (below X p n.height n.bytes) (Err fault) → FindsOver told whole (cids_of whole) (Err fault)
    stops fault h =
        lost-all fault (subst (λ (l : List Held). IsFirstLossOf told l fault) (sym whole-split) (loss-among told n.done (own ∷ []) rest (Store fault) n.gathered.held (first-lost fault h)))
      where
        first-lost : (fault : StoreFault) → FindsOver told (own ∷ []) (below X p n.height n.bytes) (Err fault) → IsFirstLossOf told (own ∷ []) fault
        first-lost Failed h = h
        first-lost (Damaged c) h = h
        first-lost (Missing c) h = h
        first-lost (BadBlock c role) h = h
        first-lost (Clash c x y) h = h
        first-lost Memory h = h

        lost-all : (fault : StoreFault) → IsFirstLossOf told whole fault → FindsOver told whole (cids_of whole) (Err fault)
        lost-all Failed h = h
        lost-all (Damaged c) h = h
        lost-all (Missing c) h = h
        lost-all (BadBlock c role) h = h
        lost-all (Clash c x y) h = h
        lost-all Memory h = h
