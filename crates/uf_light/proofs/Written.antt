-- What was written of a CAR.
use Rattle.std.proofs.Common.{◌≡◌, ℕ, zero, suc, ◌≤◌, List, [], ◌∷◌, length, take, drop, sym, ap, subst, ◌∙◌, Contains, Err}
use Rattle.std.proofs.lemmas.List.Elements.{Contains-append_left, Contains-append_right, Contains-push}
use Rattle.std.proofs.lemmas.List.{take_all}
use Rattle.std.specs.Prelude.{Some, None, slice_get, IfSome}
use Rattle.uf_cid.specs.Blocks.{Lookup}
use Rattle.uf_cid.specs.declared.cid.Cid.{Cid}
use Rattle.uf_edge.specs.Streams.{Told as SinkTold}
use Rattle.uf_store.specs.Contents.{Contents, Told, held_at}
use Rattle.uf_store.specs.Faults.{NoneIsBad, Shown}
use Rattle.uf_store.specs.Seen.{Seen}
use Rattle.uf_store.specs.declared.store.StoreFault.TheVariants as store
use Rattle.uf_car.specs.Exporting.{WritesAll}
use Rattle.uf_car.specs.Text.{blocks_at, car_text, section_bytes, sections_bytes}
use Rattle.uf_car.proofs.Exports.{held_block}
use Rattle.uf_car.proofs.Texts.{nothing_behind, part_behind, text_at, text_rest}
use Rattle.uf_light.specs.declared.fault.LightFault.{LightFault}
use Rattle.uf_light.specs.declared.fault.LightFault.TheVariants as fault
use Rattle.uf_light.specs.Answers.{light_fault}
use Rattle.uf_light.specs.Writing.{AreThere, WritesCar, WritesSectionOf}

-- an item at a place is in the list
got : (xs : List Cid) (i : ℕ) (c : Cid) → slice_get xs i ≡ Some c → Contains xs c
got [] i c e = cc
got (x ∷ xs) zero c e = let same : x ≡ c = cc in subst (Contains (x ∷ xs)) same (Contains-append_left (x ∷ []) xs x (Contains-push [] x))
got (x ∷ xs) (suc i) c e = Contains-append_right (x ∷ []) xs c (got xs i c e)

module _ (hash : List ℕ → List ℕ) (t : Contents) (root cid : Cid) (list : List Cid) (place n : ℕ) (before now : Seen) (out mid last : SinkTold) where
  abbrev text : List ℕ
  text = car_text (held_at t) root list

  abbrev done : List ℕ
  done = car_text (held_at t) root (take place list)

  abbrev rest : List ℕ
  rest = sections_bytes (blocks_at (held_at t) (drop place list))

  -- a block of the list wasn't written
  pub err_text : (f : LightFault) → AreThere (held_at t) list → slice_get list place ≡ Some cid → before.told ≡ Some t → now.told ≡ Some t → WritesAll done n out mid
      → WritesSectionOf cid (Err f) before now mid last → Shown hash NoneIsBad (light_fault {A = ℕ} (Err f)) before now → WritesCar text (Err f) out last
  err_text fault.Sink there at was told w block cause =
      part_behind text done n out mid last w (section_bytes (cid, now.lent)) (sections_bytes (blocks_at (held_at t) (drop (suc place) list)))
      (text_at (held_at t) root list place cid now.lent at (held_block before.told t cid now.lent was block.is_held)) block.part
  err_text (fault.Store store.Failed) there at was told w block cause = (tt, nothing_behind text done n out mid last w rest (text_rest (held_at t) root list place) block.1)
  err_text (fault.Store (store.Damaged c)) there at was told w block cause = (tt, nothing_behind text done n out mid last w rest (text_rest (held_at t) root list place) block.1)
  err_text (fault.Store (store.Missing c)) there at was told w block cause =
      absurd (there cid (got list place cid at) (ap (held_at t) (sym block.0) ∙ subst (λ (x : Told). IfSome x (λ (u : Contents). held_at u c ≡ None)) told cause.not_held))
  err_text (fault.Store (store.BadBlock c role)) there at was told w block cause = absurd block.0
  err_text (fault.Store (store.Clash c a b)) there at was told w block cause = absurd block.0
  err_text (fault.Store store.Memory) there at was told w block cause = (tt, nothing_behind text done n out mid last w rest (text_rest (held_at t) root list place) block.1)
  err_text (fault.NotFound k) there at was told w block cause = absurd block
  err_text (fault.NotADirectory k) there at was told w block cause = absurd block
  err_text fault.IsADirectory there at was told w block cause = absurd block
  err_text fault.Exists there at was told w block cause = absurd block
  err_text (fault.OtherRoot c) there at was told w block cause = absurd block
  err_text (fault.Car f) there at was told w block cause = absurd block

-- all places were gone over
pub text_last : (held : Lookup) (root : Cid) (list : List Cid) (place : ℕ) → length list ≤ place → car_text held root (take place list) ≡ car_text held root list
text_last held root list place past = ap (car_text held root) (take_all place list past)
