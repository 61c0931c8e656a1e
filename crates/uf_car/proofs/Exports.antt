-- What an export has written.
use Rattle.std.proofs.Common.{◌≡◌, ℕ, zero, suc, ◌≤◌, List, [], ◌∷◌, length, take, drop, sym, ap, subst, ◌∙◌, arith, Contains, Err}
use Rattle.std.proofs.lemmas.List.Elements.{Contains-append_left, Contains-append_right, Contains-push}
use Rattle.std.proofs.lemmas.List.{take_all}
use Rattle.std.specs.Prelude.{Some, None, slice_get, IfSome}
use Rattle.uf_cid.specs.Blocks.{Lookup}
use Rattle.uf_cid.specs.declared.cid.Cid.{Cid}
use Rattle.uf_edge.specs.Streams.{Told}
use Rattle.uf_store.specs.Contents.{Contents, held_at}
use Rattle.uf_store.specs.Contents as contents
use Rattle.uf_store.specs.Faults.{NoneIsBad, Shown}
use Rattle.uf_store.specs.Seen.{Seen}
use Rattle.uf_store.specs.declared.store.StoreFault.TheVariants as store
use Rattle.uf_walk.proofs.Reaching.{order_few, order_held}
use Rattle.uf_car.specs.declared.fault.ExportFault.{ExportFault}
use Rattle.uf_car.specs.declared.fault.ExportFault.TheVariants as fault
use Rattle.uf_car.specs.Exporting.{IsAfterWalk, WritesCar, WritesAll, WritesBlock, export_fault}
use Rattle.uf_car.specs.Text.{blocks_at, car_text, section_bytes, sections_bytes}
use Rattle.uf_car.proofs.Texts.{nothing_behind, part_behind, text_at, text_rest}

-- an item at a place is in the list
got : (xs : List Cid) (i : ℕ) (c : Cid) → slice_get xs i ≡ Some c → Contains xs c
got [] i c e = cc
got (x ∷ xs) zero c e = let same : x ≡ c = cc in subst (Contains (x ∷ xs)) same (Contains-append_left (x ∷ []) xs x (Contains-push [] x))
got (x ∷ xs) (suc i) c e = Contains-append_right (x ∷ []) xs c (got xs i c e)

-- what is held under a CID, where a loaded block says so
pub held_block : (told : contents.Told) (t : Contents) (cid : Cid) (bytes : List ℕ) → told ≡ Some t → IfSome told (λ (u : Contents). held_at u cid ≡ Some bytes) → held_at t cid ≡ Some bytes
held_block told t cid bytes is h = subst (λ (x : contents.Told). IfSome x (λ (u : Contents). held_at u cid ≡ Some bytes)) is h

module _ (hash : List ℕ → List ℕ) (t : Contents) (most : ℕ) (root cid : Cid) (list : List Cid) (place n : ℕ) (before now : Seen) (out mid last : Told) where
  -- a block of the order wasn't written
  pub err_text : (f : ExportFault) → IsAfterWalk (held_at t) most root list → slice_get list place ≡ Some cid → before.told ≡ Some t → now.told ≡ Some t
      → WritesAll (car_text (held_at t) root (take place list)) n out mid → WritesBlock cid (Err f) before now mid last → Shown hash NoneIsBad (export_fault {A = ℕ} (Err f)) before now
      → WritesCar (car_text (held_at t) root list) (Err f) out last
  err_text fault.Sink after at was told w block cause =
      part_behind (car_text (held_at t) root list) (car_text (held_at t) root (take place list)) n out mid last w (section_bytes (cid, now.lent)) (sections_bytes (blocks_at (held_at t) (drop (suc place) list)))
      (text_at (held_at t) root list place cid now.lent at (held_block before.told t cid now.lent was block.is_held)) block.part
  err_text (fault.NotDagPb c why) after at was told w block cause = absurd block
  err_text fault.TooMany after at was told w block cause = absurd block
  err_text (fault.Store store.Failed) after at was told w block cause = (tt, nothing_behind (car_text (held_at t) root list) (car_text (held_at t) root (take place list)) n out mid last w (sections_bytes (blocks_at (held_at t) (drop place list))) (text_rest (held_at t) root list place) block.1)
  err_text (fault.Store (store.Damaged c)) after at was told w block cause = (tt, nothing_behind (car_text (held_at t) root list) (car_text (held_at t) root (take place list)) n out mid last w (sections_bytes (blocks_at (held_at t) (drop place list))) (text_rest (held_at t) root list place) block.1)
  err_text (fault.Store (store.Missing c)) after at was told w block cause =
      absurd (order_held (held_at t) most root list after cid (got list place cid at)
      (ap (held_at t) (sym block.0) ∙ subst (λ (x : contents.Told). IfSome x (λ (u : Contents). held_at u c ≡ None)) told cause.not_held))
  err_text (fault.Store (store.BadBlock c role)) after at was told w block cause = absurd block.0
  err_text (fault.Store (store.Clash c a b)) after at was told w block cause = absurd block.0
  err_text (fault.Store store.Memory) after at was told w block cause = (tt, nothing_behind (car_text (held_at t) root list) (car_text (held_at t) root (take place list)) n out mid last w (sections_bytes (blocks_at (held_at t) (drop place list))) (text_rest (held_at t) root list place) block.1)

-- all places were gone over
pub text_last : (held : Lookup) (most : ℕ) (root : Cid) (list : List Cid) (place : ℕ) → IsAfterWalk held most root list → most ≤ place → car_text held root (take place list) ≡ car_text held root list
text_last held most root list place after past = ap (car_text held root) (take_all place list (let few : length list ≤ most = order_few held most root list after in omega arith))
