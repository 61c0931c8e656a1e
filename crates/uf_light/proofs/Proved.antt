-- What `prove` finds and writes.
use Rattle.std.proofs.Common.{◌≡◌, ℕ, ◌+◌, ◌≤◌, List, [], ◌∷◌, ◌++◌, fold, length, refl, ap, arith, sym, ◌∙◌, subst, Bool, Option, Some, None, Result, Ok, Err}
use Rattle.std.specs.Prelude.{IsOk}
use Rattle.std.specs.List.{AllByRecursion}
use Rattle.std.proofs.lemmas.List.Elements.{All-contains, All-from_recursion}
use Rattle.uf_cid.specs.Blocks.{Held, Lookup}
use Rattle.uf_cid.specs.Blocks as blocks
use Rattle.uf_cid.specs.declared.cid.Cid.{Cid}
use Rattle.uf_edge.specs.Counts.{Stood}
use Rattle.uf_edge.specs.Streams.{Told as SinkTold}
use Rattle.uf_car.specs.Text.{car_bytes, car_text}
use Rattle.uf_fileread.specs.Ranges.{IsFile}
use Rattle.uf_fileread.proofs.Sending.{prefix-none}
use Rattle.uf_store.specs.Contents.{Contents, Told, held_at}
use Rattle.uf_store.specs.Faults.{NoneIsBad, Shown}
use Rattle.uf_store.specs.Keeping.{Agrees, Holds}
use Rattle.uf_store.specs.Lost.{IsLossOf}
use Rattle.uf_store.specs.Seen.{Seen}
use Rattle.uf_store.specs.declared.store.StoreFault.{StoreFault}
use Rattle.uf_store.specs.declared.store.StoreFault.TheVariants as store
use Rattle.uf_tree.specs.declared.meta.Meta.{Meta}
use Rattle.uf_tree.specs.declared.nodes.Entry.{Entry}
use Rattle.uf_tree.specs.declared.profile.Profile.{Profile}
use Rattle.uf_tree.specs.FilePlan.{file_plan}
use Rattle.uf_tree.specs.FileSub.{whole_blocks}
use Rattle.uf_tree.specs.Tree.{Tree, File}
use Rattle.uf_tree.specs.Validity.{IsHash}
use Rattle.uf_plain.specs.declared.rule.Refused.{Refused}
use Rattle.uf_plain.specs.Edits.{at}
use Rattle.uf_plain.specs.Needs.{root_of, way}
use Rattle.uf_light.specs.declared.fault.LightFault.{LightFault}
use Rattle.uf_light.specs.declared.fault.LightFault.TheVariants as fault
use Rattle.uf_light.specs.Answers.{Proves, light_fault}
use Rattle.uf_light.specs.FileCids.{cids_of}
use Rattle.uf_light.specs.Gathered.{AddsBlocks, Gathered}
use Rattle.uf_light.specs.Light.{HasHeight, block_once, cid_once, file_blocks, light_order, light_says, light_text, trails}
use Rattle.uf_light.specs.Needs.{proof_needs, shown_blocks}
use Rattle.uf_light.specs.Proving.{FindsLight, FindsOrder}
use Rattle.uf_light.specs.Standing.{IsAgreedAt}
use Rattle.uf_light.specs.Writing.{AreThere, WritesCar}
use Rattle.uf_light.proofs.Wanting.{IsFileWanted, IsWanted}
use Rattle.uf_light.proofs.Files as files
use Rattle.uf_light.proofs.Counting.{shown-is}
use Rattle.uf_light.proofs.Finding.{root-loss-way}
use Rattle.uf_light.proofs.Going.{gathered-more}
use Rattle.uf_light.proofs.Holding.{loss-back, loss-front}
use Rattle.uf_light.proofs.Once.{once-among, once-cids, text-is}

-- ---- the blocks of the file at the end

module _ (X : List ℕ → List ℕ) (N : List ℕ → ℕ) (told : Told) (p : Profile) (names : List (List ℕ)) (absent : Bool) (height : ℕ) where
  file-at : (m : Meta) (bytes : List ℕ) (w : Result Tree Refused) → w ≡ Ok (File m bytes) → file_blocks X N p height w ≡ whole_blocks X p.chunk p.width m height bytes
  file-at m bytes w is = ap (file_blocks X N p height) is

  some-adds : (w : Result Tree Refused) (e : Entry) (cids cids_now : List Cid) (r : Result Unit LightFault) → IsFileWanted X N told p names absent w e → HasHeight p height w
      → ((m : Meta) (bytes : List ℕ) → IsFile X p m bytes e.cid height → Agrees told (file_plan X p m bytes).blocks → AddsBlocks told (whole_blocks X p.chunk p.width m height bytes) cids cids_now r)
      → AddsBlocks told (file_blocks X N p height w) cids cids_now r
  some-adds w e cids cids_now r f tall adds =
      subst (λ (l : List Held). AddsBlocks told l cids cids_now r) (sym (file-at f.meta f.bytes w f.is))
      (adds f.meta f.bytes (files.is-file X N p e.cid f.meta f.bytes f.agreed.plan height (subst (HasHeight p height) f.is tall)) (files.plan-agrees X N p e.cid f.meta f.bytes f.agreed.plan told f.agreed.agrees))

  -- the blocks of the file that is to be shown, where there is one
  pub add-says : (w : Result Tree Refused) (o : Option Entry) (cids cids_now : List Cid) (r : Result Unit LightFault) → IsWanted X N told p names absent w o → HasHeight p height w
      → (o ≡ None → AddsBlocks told [] cids cids_now r)
      → ((e : Entry) (m : Meta) (bytes : List ℕ) → o ≡ Some e → IsFile X p m bytes e.cid height → Agrees told (file_plan X p m bytes).blocks → AddsBlocks told (whole_blocks X p.chunk p.width m height bytes) cids cids_now r)
      → AddsBlocks told (file_blocks X N p height w) cids cids_now r
  add-says w None cids cids_now r f tall none some = subst (λ (l : List Held). AddsBlocks told l cids cids_now r) (sym (f.no_file height)) (none refl)
  add-says w (Some e) cids cids_now r f tall none some = some-adds w e cids cids_now r f tall (λ m bytes is agrees. some e m bytes refl is agrees)

  -- there is something to show
  pub wanted-something : (w : Result Tree Refused) (o : Option Entry) → IsWanted X N told p names absent w o → IsOk (light_says absent names w)
  wanted-something w None f = subst IsOk (sym f.says) refl
  wanted-something w (Some e) f = subst IsOk (sym f.says) refl

  -- no more touches than there are blocks of that file
  pub add-few : (w : Result Tree Refused) (o : Option Entry) (was now : ℕ) → IsWanted X N told p names absent w o → HasHeight p height w
      → (o ≡ None → now ≡ was)
      → ((e : Entry) (m : Meta) (bytes : List ℕ) → o ≡ Some e → IsFile X p m bytes e.cid height → Agrees told (file_plan X p m bytes).blocks → now ≤ was + length (whole_blocks X p.chunk p.width m height bytes))
      → now ≤ was + length (shown_blocks X N p height absent w)
  add-few w None was now f tall none some = let same = none refl in omega (arith, same)
  add-few w (Some e) was now f tall none some =
      let one =
      some e f.meta f.bytes refl (files.is-file X N p e.cid f.meta f.bytes f.agreed.plan height (subst (HasHeight p height) f.is tall)) (files.plan-agrees X N p e.cid f.meta f.bytes f.agreed.plan told f.agreed.agrees) in
      let all = ap length (file-at f.meta f.bytes w f.is) in
      let shown = ap length (shown-is X N p names height absent w (wanted-something w (Some e) f)) in
      omega (arith, one, all, shown)

  module _ (t : Tree) where
    abbrev w : Result Tree Refused
    w = at 0 names t

    -- the root block is on the way
    pub root-lost : IsHash X → (f : StoreFault) → IsLossOf told (root_of X N p t) f → IsLossOf told (proof_needs X N p height absent names t) f
    root-lost hash f h = loss-front told (way X N p names t) _ f (root-loss-way X N p hash told names t f h)

    -- a block of the way is lost
    pub way-lost : (f : StoreFault) → IsLossOf told (way X N p names t) f → IsLossOf told (proof_needs X N p height absent names t) f
    way-lost f h = loss-front told (way X N p names t) _ f h

    -- or one of the file that is to be shown
    pub file-lost : (o : Option Entry) (cids cids_now : List Cid) (f : LightFault) → IsWanted X N told p names absent w o → AddsBlocks told (file_blocks X N p height w) cids cids_now (Err f)
        → FindsLight told (proof_needs X N p height absent names t) (light_order X N p height names t) (light_says absent names w) (Err f)
    file-lost o cids cids_now (fault.Store g) f h =
        loss-back told (way X N p names t) _ g (subst (λ (l : List Held). IsLossOf told l g) (shown-is X N p names height absent w (wanted-something w o f)) h)
    file-lost o cids cids_now (fault.NotFound k) f h = absurd h
    file-lost o cids cids_now (fault.NotADirectory k) f h = absurd h
    file-lost o cids cids_now fault.IsADirectory f h = absurd h
    file-lost o cids cids_now fault.Exists f h = absurd h
    file-lost o cids cids_now (fault.OtherRoot c) f h = absurd h
    file-lost o cids cids_now (fault.Car g) f h = absurd h
    file-lost o cids cids_now fault.Sink f h = absurd h

    holds-once : (told : Told) (l : List Held) → Holds told l → Holds told (fold block_once [] l)
    holds-once None l h = tt
    holds-once (Some u) l h = once-among (λ (b : Held). held_at u b.0 ≡ Some b.1) [] l tt h

    -- all blocks were found
    pub found-order : (o : Option Entry) (none mid now order : List Cid) → none ≡ [] → IsWanted X N told p names absent w o → Gathered told (trails X N p names t) none mid → Gathered told (file_blocks X N p height w) mid now
        → order ≡ fold cid_once [] now → FindsOrder told (light_order X N p height names t) (light_says absent names w) order
    found-order o none mid now order empty f first next is =
        let all = trails X N p names t ++ file_blocks X N p height w in
        let g = gathered-more told (trails X N p names t) (file_blocks X N p height w) none mid now first next in
        let now-is : now ≡ cids_of all = g.added ∙ ap (λ (k : List Cid). k ++ cids_of all) empty in
        record {
          something = wanted-something w o f;
          order_is = is ∙ ap (fold cid_once []) now-is ∙ sym (once-cids [] all);
          held = holds-once told all g.held;
        }

-- ---- what is written

-- something is held under the CIDs of blocks that are held
there-of : (held : Lookup) (l : List Held) → blocks.Holds held l → AreThere held (cids_of l)
there-of held l h c there = All-contains (λ (c : Cid). held c ≡ None → ⊥) (cids_of l) c (All-from_recursion (λ (c : Cid). held c ≡ None → ⊥) (cids_of l) (each l h)) there
  where
    each : (l : List Held) → blocks.Holds held l → AllByRecursion (λ (c : Cid). held c ≡ None → ⊥) (cids_of l)
    each [] h = tt
    each (b ∷ l) h = ((λ none. let no : None ≡ Some b.1 = sym none ∙ h.0 in cc), each l h.1)

module _ (told : Told) (l : List Held) (text : List ℕ) (said : Result (List ℕ) LightFault) where
  -- nothing was written
  pub proves-err : (blocks : List Held) (f : LightFault) (out : SinkTold) → FindsLight told l blocks said (Err f) → Proves told l text said (Err f) out out
  proves-err blocks (fault.Store store.Failed) out h = h
  proves-err blocks (fault.Store (store.Damaged c)) out h = h
  proves-err blocks (fault.Store (store.Missing c)) out h = (h, refl)
  proves-err blocks (fault.Store (store.BadBlock c role)) out h = h
  proves-err blocks (fault.Store (store.Clash c a b)) out h = h
  proves-err blocks (fault.Store store.Memory) out h = prefix-none text out
  proves-err blocks (fault.NotFound k) out h = record { refused = h; unwritten = refl }
  proves-err blocks (fault.NotADirectory k) out h = record { refused = h; unwritten = refl }
  proves-err blocks fault.IsADirectory out h = record { refused = h; unwritten = refl }
  proves-err blocks fault.Exists out h = record { refused = h; unwritten = refl }
  proves-err blocks (fault.OtherRoot c) out h = record { refused = h; unwritten = refl }
  proves-err blocks (fault.Car g) out h = record { refused = h; unwritten = refl }
  proves-err blocks fault.Sink out h = prefix-none text out

  -- the text was, or a front of it
  pub proves-text : (hash : List ℕ → List ℕ) (before now : Seen) (r : Result ℕ LightFault) (out out_now : SinkTold) → IsOk said → WritesCar text r out out_now → Shown hash NoneIsBad (light_fault r) before now → Stood before.faults now.faults
      → Proves told l text said r out out_now
  proves-text hash before now (Ok n) out out_now some h cause stood = (some, h)
  proves-text hash before now (Err fault.Sink) out out_now some h cause stood = h
  proves-text hash before now (Err (fault.Store store.Failed)) out out_now some h cause stood = (let r = cause.rose in omega (arith, r, stood))
  proves-text hash before now (Err (fault.Store (store.Damaged c))) out out_now some h cause stood = (let r = cause.rose in omega (arith, r, stood))
  proves-text hash before now (Err (fault.Store (store.Missing c))) out out_now some h cause stood = absurd h.0
  proves-text hash before now (Err (fault.Store (store.BadBlock c role))) out out_now some h cause stood = absurd h.0
  proves-text hash before now (Err (fault.Store (store.Clash c a b))) out out_now some h cause stood = absurd h.0
  proves-text hash before now (Err (fault.Store store.Memory)) out out_now some h cause stood = h.1
  proves-text hash before now (Err (fault.NotFound k)) out out_now some h cause stood = absurd h
  proves-text hash before now (Err (fault.NotADirectory k)) out out_now some h cause stood = absurd h
  proves-text hash before now (Err fault.IsADirectory) out out_now some h cause stood = absurd h
  proves-text hash before now (Err fault.Exists) out out_now some h cause stood = absurd h
  proves-text hash before now (Err (fault.OtherRoot c)) out out_now some h cause stood = absurd h
  proves-text hash before now (Err (fault.Car g)) out out_now some h cause stood = absurd h

-- the text of the blocks in order is the proof's
pub light-written : (X : List ℕ → List ℕ) (N : List ℕ → ℕ) (told : Told) (p : Profile) (root : Cid) (t : Tree) (names : List (List ℕ)) (height : ℕ) (said : Result (List ℕ) LightFault) (order : List Cid) (r : Result ℕ LightFault) (out out_now : SinkTold)
    → IsAgreedAt X N told p root t → FindsOrder told (light_order X N p height names t) said order
    → ((u : Contents) → told ≡ Some u → AreThere (held_at u) order → WritesCar (car_text (held_at u) root order) r out out_now) → WritesCar (light_text X N p height names t) r out out_now
light-written X N None p root t names height said order r out out_now s found writes = absurd s.agrees
light-written X N (Some u) p root t names height said order r out out_now s found writes =
    let l = light_order X N p height names t in
    let there = subst (AreThere (held_at u)) (sym found.order_is) (there-of (held_at u) l found.held) in
    let same : car_text (held_at u) root order ≡ light_text X N p height names t = ap (car_text (held_at u) root) found.order_is ∙ text-is (held_at u) root l found.held ∙ ap (λ (c : Cid). car_bytes c l) s.plan.is in
    subst (λ (x : List ℕ). WritesCar x r out out_now) same (writes u refl there)
