-- A file made of a piece and the zeros in front of it.
use Rattle.std.proofs.Common.{None, Some, ◌≡◌, ℕ, ◌+◌, ◌-◌, ◌*◌, ◌<◌, ◌≤◌, List, [], length, map, max, ap, arith, refl, sym, ◌∙◌, subst, IsTrue, Bool, true, ◌==◌}
use Rattle.std.specs.List.{AllByRecursion}
use Rattle.std.proofs.Math.Nat.{mul-le-mul_right}
use Rattle.uf_cid.specs.declared.cid.Cid.{Cid}
use Rattle.uf_store.specs.Contents.{Told}
use Rattle.uf_store.specs.Faults.{Shows}
use Rattle.uf_store.specs.Keeping.{Holds, KeepsGood}
use Rattle.uf_store.specs.Seen.{Seen}
use Rattle.uf_store.specs.declared.store.StoreFault.{StoreFault}
use Rattle.uf_store.proofs.Causes.{Shows-by}
use Rattle.uf_tree.specs.FilePlan.{file_plan, groups, top_held, top_part}
use Rattle.uf_tree.specs.FileSub.{IsFileHeight, IsHeight, part_over, span}
use Rattle.uf_tree.specs.Laying.{laid}
use Rattle.uf_tree.specs.Profiles.{is_profile}
use Rattle.uf_tree.specs.Validity.{IsHash}
use Rattle.uf_tree.specs.declared.meta.Meta.{Meta}
use Rattle.uf_tree.specs.declared.nodes.Entry.{Entry}
use Rattle.uf_tree.specs.declared.nodes.Part.{Part}
use Rattle.uf_tree.specs.declared.profile.Profile.{Profile}
use Rattle.uf_tree.proofs.Rows.{height-unique}
use Rattle.uf_fileedit.specs.declared.layout.Heights.{Heights}
use Rattle.uf_fileedit.specs.Bad.{IsBadEdited}
use Rattle.uf_fileedit.specs.Changes.{GivesAll, GivesFile, IsKnown, blocks_of_all, overlaid}
use Rattle.uf_fileedit.specs.Planned.{AreHeights}
use Rattle.uf_fileedit.specs.Touches.{IsEditWithin, edit_touches, written_chunks}
use Rattle.uf_fileedit.specs.Ways.{IsBadAmongOld}
use Rattle.uf_tree.proofs.Told.{kept}
use Rattle.uf_fileedit.proofs.Bytes.{changed-laid, length-changed}
use Rattle.uf_fileedit.proofs.Edited.{bare-under, file-made, laid_empty, more-rows, no_bytes}
use Rattle.uf_fileedit.proofs.Files.{known-holds}
use Rattle.uf_fileedit.proofs.Kept.{all-good, known-later}
use Rattle.uf_fileedit.proofs.Touching.{write-costs}
use Rattle.uf_fileedit.proofs.Ways.{laid-low}

-- a block that is bad in each file where no part stands is bad in each file
pub none-bad : (hash : List ℕ → List ℕ) (p : Profile) (rows k : ℕ) (root : Cid) (fault : StoreFault) (a b : Seen) → Shows hash (IsBadAmongOld hash p b.told rows k []) fault a b
    → Shows hash (IsBadEdited hash p b.told root) fault a b
none-bad hash p rows k root fault a b h =
    Shows-by hash (IsBadAmongOld hash p b.told rows k []) (IsBadEdited hash p b.told root) fault a b
    (λ role bytes bad. bad root (λ m among. absurd (let low : among.0 < 0 = among.1 in omega arith))) h

module _ (p : Profile) (ok : IsTrue (is_profile p)) (size : ℕ) (at : Heights) (are : AreHeights p 0 size at) where
  pub few-rows : at.rows ≤ 22
  few-rows = let low : at.rows ≡ 0 = laid-low p ok 0 at.rows (omega arith) are.before in omega arith

  pub new-costs : (after d t0 t1 t2 : ℕ) → IsHeight p.chunk p.width size after → t1 ≤ t0 + 2 + 2 * (at.height + 1) * d → t2 ≤ t1 + 1 → t2 ≤ t0 + 3 + 2 * (after + 1) * d
  new-costs after d t0 t1 t2 high one two =
      let same : are.after ≡ after = height-unique p.chunk p.width size are.after after are.high high in
      let low : at.height ≡ are.after - 1 = are.height_is in
      let more : 2 * (at.height + 1) * d ≤ 2 * (after + 1) * d = mul-le-mul_right d (let e : 2 * (at.height + 1) ≤ 2 * (after + 1) = omega arith in e) in
      omega arith

  -- a root over the parts makes the file
  pub new-gives : (X : List ℕ → List ℕ) → IsHash X → (m : Meta) (offset : ℕ) (piece : List ℕ) (mid now : Told) (parts slice : List Part) (part : Part) → KeepsGood X mid now
      → GivesAll X p mid [] at.height parts (groups (span p.chunk p.width at.height) (overlaid size [] offset piece)) → slice ≡ parts → part ≡ top_part X m slice → Holds now (top_held X m slice)
      → GivesFile X p m now [] part.entry (overlaid size [] offset piece)
  new-gives X good m offset piece mid now parts slice part keeps made sliced part_is held =
      let high : IsHeight p.chunk p.width (length (overlaid size [] offset piece)) are.after = subst (λ n. IsHeight p.chunk p.width n are.after) (sym (length-changed size [] offset piece)) are.high in
      file-made X good p ok (overlaid size [] offset piece) are.after high m now [] slice part
      (sliced ∙ made.same ∙ ap (λ n. map (part_over X p.chunk p.width n) (groups (span p.chunk p.width n) (overlaid size [] offset piece))) are.height_is)
      (subst (λ n. AllByRecursion (IsKnown now []) (blocks_of_all X p n (groups (span p.chunk p.width n) (overlaid size [] offset piece)))) are.height_is
      (known-later X mid now [] (blocks_of_all X p at.height (groups (span p.chunk p.width at.height) (overlaid size [] offset piece))) keeps (all-good X p.chunk p.width at.height (groups (span p.chunk p.width at.height) (overlaid size [] offset piece))) made.known))
      part_is held

-- ---- a piece of some bytes

none-held : (told : Told) → Holds told []
none-held None = tt
none-held (Some t) = tt

pub laid-new : (offset : ℕ) (x : List ℕ) (n : ℕ) → n ≡ offset + length x → 1 ≤ length x → overlaid n [] offset x ≡ laid [] offset x
laid-new offset x n is some = ap (λ k. overlaid k [] offset x) (let e : n ≡ max 0 (offset + length x) = omega arith in e) ∙ changed-laid [] offset x some

pub made-file : (X : List ℕ → List ℕ) (p : Profile) (m : Meta) (now : Told) (e : Entry) (n offset : ℕ) (x : List ℕ) → GivesFile X p m now [] e (overlaid n [] offset x) → n ≡ offset + length x → 1 ≤ length x
    → (e ≡ (file_plan X p m (laid [] offset x)).entry) × Holds now (file_plan X p m (laid [] offset x)).blocks
made-file X p m now e n offset x gives is some =
    let g : GivesFile X p m now [] e (laid [] offset x) = subst (GivesFile X p m now [] e) (laid-new offset x n is some) gives in
    (g.same, known-holds now [] (file_plan X p m (laid [] offset x)).blocks (none-held now) g.known)

pub made-costs : (p : Profile) → IsTrue (is_profile p) → (m : Meta) (n offset : ℕ) (x : List ℕ) (rows t0 t1 : ℕ) → n ≡ offset + length x → 1 ≤ length x → IsFileHeight p.chunk p.width m (length (laid [] offset x)) rows
    → ((after a z : ℕ) → IsHeight p.chunk p.width n after → IsEditWithin p.chunk 0 n offset (length x) a z → t1 ≤ t0 + 3 + 2 * (after + 1) * (z - a))
    → t1 ≤ t0 + edit_touches (written_chunks p.chunk 0 offset (length x)) rows
made-costs p ok m n offset x rows t0 t1 is some rows_is cost =
    let new = bare-under p m (length (laid [] offset x)) rows rows_is in
    let bytes : length (laid [] offset x) ≡ n = ap (λ (l : List ℕ). length l) (sym (laid-new offset x n is some)) ∙ length-changed n [] offset x in
    more-rows (written_chunks p.chunk 0 offset (length x)) (max 0 new.0) rows t0 t1 (let low : new.0 ≤ rows = new.2 in omega arith)
    (write-costs p.chunk 0 n offset (length x) 0 new.0 t0 t1 ((kept p ok).some) some (omega arith)
    (λ a z within. let r = cost new.0 a z (subst (λ k. IsHeight p.chunk p.width k new.0) bytes new.1) within in omega (arith, r)))

-- ---- an empty piece

pub empty-file : (X : List ℕ → List ℕ) (p : Profile) (m : Meta) (now : Told) (e : Entry) (offset : ℕ) (x : List ℕ) (t : Bool) → t ≡ (length x == 0) → t ≡ true → GivesFile X p m now [] e (overlaid 0 [] offset x)
    → Holds now (file_plan X p m (laid [] offset x)).blocks
empty-file X p m now e offset x t is none gives = subst (λ l. Holds now (file_plan X p m l).blocks) (sym (laid_empty [] offset x t is none)) (known-holds now [] (file_plan X p m []).blocks (none-held now) gives.known)

pub empty-costs : (p : Profile) (m : Meta) (offset : ℕ) (x : List ℕ) (rows t0 t1 : ℕ) (t : Bool) → t ≡ (length x == 0) → t ≡ true
    → ((after a z : ℕ) → IsHeight p.chunk p.width 0 after → IsEditWithin p.chunk 0 0 offset (length x) a z → t1 ≤ t0 + 3 + 2 * (after + 1) * (z - a))
    → t1 ≤ t0 + edit_touches (written_chunks p.chunk 0 offset (length x)) rows
empty-costs p m offset x rows t0 t1 t is empty cost =
    let none : length x ≡ 0 = no_bytes (length x) t is empty in
    let high : IsHeight p.chunk p.width 0 0 = record { fits = omega arith; least = λ k low. absurd (omega arith) } in
    let within : IsEditWithin p.chunk 0 0 offset (length x) 0 0 = record { laid = λ some. absurd (omega arith); ends = λ differs. absurd (differs refl) } in
    let few : t1 ≤ t0 + 3 + 2 * (0 + 1) * (0 - 0) = cost 0 0 0 high within in
    more-rows (written_chunks p.chunk 0 offset (length x)) 0 rows t0 t1 (omega arith) (omega arith)
