-- What `remove_pin` and `add_pin` answer and leave, exit by exit.
use Rattle.std.proofs.Common.{◌≡◌, ◌≢◌, ℕ, ◌<◌, ◌≤◌, List, [], ◌∷◌, refl, sym, ap, subst, ◌∙◌, Contains, ◌⊎◌, inl, inr, Ok, Err, Result, Option, OnOk, OnErr, length}
use Rattle.std.specs.Prelude.{Some, None}
use Rattle.uf_cid.specs.declared.cid.Cid.{Cid}
use Rattle.uf_store.specs.Contents.{Contents, Told, changed, held_at, with_sync, with_text}
use Rattle.uf_store.specs.declared.store.Note.TheVariants.{Pins}
use Rattle.uf_store.specs.declared.store.StoreFault.{StoreFault}
use Rattle.uf_store.specs.declared.store.StoreFault.TheVariants as store
use Rattle.uf_pins.specs.declared.fault.PinFault.{PinFault}
use Rattle.uf_pins.specs.declared.fault.PinFault.TheVariants as fault
use Rattle.uf_pins.specs.Calls.{AddsPin, FailsAlone, GivesText, IsFailure, IsFull, IsNewText, IsSyncedAtMost, RemovesPin, StopsAtNote, StopsByStoreUnder, StopsPinning, StopsUnpinning, WasThere, WritesMore}
use Rattle.uf_pins.specs.Notes.{IsWith, IsWithout, Lists}
use Rattle.uf_pins.specs.Reach.{StopsReach, reach}
use Rattle.uf_pins.specs.Texts.{ArePins, text_of}

ok-by : {P Q : Type 0} (r : Result Unit PinFault) → (P → Q) → OnOk r P → OnOk r Q
ok-by (Ok u) f h = f h
ok-by (Err e) f h = h

err-by : {P Q : Type 0} (r : Result Unit PinFault) → (P → Q) → OnErr r P → OnErr r Q
err-by (Ok u) f h = h
err-by (Err e) f h = f h

-- what a pin more has written, whatever the store tells
pub more-written : (a m n b : Told) (text : List ℕ) (r : Result Unit PinFault) → m ≡ a → n ≡ changed with_sync m → OnOk r (b ≡ changed (with_text Pins text) n) → OnErr r (b ≡ n) → WritesMore r a b
more-written a m n b text (Ok u) same synced ok err = inr (text, ok ∙ ap (changed (with_text Pins text)) (synced ∙ ap (changed with_sync) same))
more-written a m n b text (Err f) same synced ok err = inr (err ∙ synced ∙ ap (changed with_sync) same)

module _ (t : Contents) (cid : Cid) where
  -- ---- a pin less

  pub note-refuses : (told : Told) (f : PinFault) → StopsAtNote t.notes.pins f → told ≡ Some t → RemovesPin t cid (Err f) told
  note-refuses told fault.BadPins h is = (h, is)
  note-refuses told fault.TooManyPins h is = absurd h
  note-refuses told (fault.NotPinned c) h is = absurd h
  note-refuses told (fault.NotDagPb c why) h is = absurd h
  note-refuses told fault.TooMany h is = absurd h
  note-refuses told (fault.Store f) h is = (h, is)

  module _ (pins : List Cid) (listed : Lists t.notes.pins pins) where
    pub is-unpinned : (told : Told) → (Contains pins cid → ⊥) → told ≡ Some t → RemovesPin t cid (Err (fault.NotPinned cid)) told
    is-unpinned told none is = ((refl, record { pins = pins; listed = listed; not_there = none }), is)

    unpins : (told : Told) (left : List Cid) (text : List ℕ) (r : Result Unit PinFault) → Contains pins cid → IsWithout cid pins left → text ≡ text_of left
        → OnOk r (told ≡ Some (with_text Pins text t)) → OnErr r (told ≡ Some t) → FailsAlone r → RemovesPin t cid r told
    unpins told left text (Ok u) was without is ok err fails =
        record { pins = pins; listed = listed; was = was; left = left; without = without; told_now = ok ∙ ap (λ (x : List ℕ). Some (with_text Pins x t)) is }
    unpins told left text (Err fault.BadPins) was without is ok err fails = absurd fails
    unpins told left text (Err fault.TooManyPins) was without is ok err fails = absurd fails
    unpins told left text (Err (fault.NotPinned c)) was without is ok err fails = absurd fails
    unpins told left text (Err (fault.NotDagPb c why)) was without is ok err fails = absurd fails
    unpins told left text (Err fault.TooMany) was without is ok err fails = absurd fails
    unpins told left text (Err (fault.Store f)) was without is ok err fails = (fails, err)

    pub unpins-by : (before told : Told) (left : List Cid) (text : List ℕ) (r : Result Unit PinFault) → Contains pins cid → IsWithout cid pins left → text ≡ text_of left
        → before ≡ Some t → OnOk r (told ≡ changed (with_text Pins text) before) → OnErr r (told ≡ before) → FailsAlone r → RemovesPin t cid r told
    unpins-by before told left text r was without is told_is ok err fails =
        unpins told left text r was without is (ok-by r (λ h. h ∙ ap (changed (with_text Pins text)) told_is) ok) (err-by r (λ h. h ∙ told_is) err) fails

  -- ---- a pin more

  module _ (most : ℕ) where
    failed-stops : (f : StoreFault) → IsFailure f → StopsPinning t most cid (fault.Store f)
    failed-stops store.Failed h = tt
    failed-stops (store.Damaged c) h = absurd h
    failed-stops (store.Missing c) h = absurd h
    failed-stops (store.BadBlock c role) h = absurd h
    failed-stops (store.Clash c a b) h = absurd h
    failed-stops store.Memory h = tt

    pub note-stops-pinning : (told : Told) (f : PinFault) → StopsAtNote t.notes.pins f → told ≡ Some t → AddsPin t most cid (Err f) told
    note-stops-pinning told fault.BadPins h is = (h, inl is)
    note-stops-pinning told fault.TooManyPins h is = absurd h
    note-stops-pinning told (fault.NotPinned c) h is = absurd h
    note-stops-pinning told (fault.NotDagPb c why) h is = absurd h
    note-stops-pinning told fault.TooMany h is = absurd h
    note-stops-pinning told (fault.Store f) h is = (failed-stops f h, inl is)

    pub reach-stops-pinning : (pins : List Cid) → Lists t.notes.pins pins → (told : Told) (f : PinFault) → StopsReach (reach (held_at t) most (cid ∷ [])) f → told ≡ Some t → AddsPin t most cid (Err f) told
    reach-stops-pinning pins listed told fault.BadPins h is = absurd h
    reach-stops-pinning pins listed told fault.TooManyPins h is = absurd h
    reach-stops-pinning pins listed told (fault.NotPinned c) h is = absurd h
    reach-stops-pinning pins listed told (fault.NotDagPb c why) h is = (record { pins = pins; listed = listed; stops = h }, inl is)
    reach-stops-pinning pins listed told fault.TooMany h is = (record { pins = pins; listed = listed; stops = h }, inl is)
    reach-stops-pinning pins listed told (fault.Store f) h is = (by f h, inl is)
      where
        by : (f : StoreFault) → StopsReach (reach (held_at t) most (cid ∷ [])) (fault.Store f) → StopsByStoreUnder t most cid f
        by store.Failed h = tt
        by (store.Damaged c) h = tt
        by (store.Missing c) h = record { pins = pins; listed = listed; stops = h }
        by (store.BadBlock c role) h = absurd h
        by (store.Clash c x y) h = absurd h
        by store.Memory h = tt

    alone-stops : (told : Told) (f : PinFault) → FailsAlone {A = Unit {0}} (Err f) → IsSyncedAtMost t told → AddsPin t most cid (Err f) told
    alone-stops told fault.BadPins h is = absurd h
    alone-stops told fault.TooManyPins h is = absurd h
    alone-stops told (fault.NotPinned c) h is = absurd h
    alone-stops told (fault.NotDagPb c why) h is = absurd h
    alone-stops told fault.TooMany h is = absurd h
    alone-stops told (fault.Store f) h is = (failed-stops f h, is)

    pub sync-stops-pinning : (told : Told) (f : PinFault) → FailsAlone {A = Unit {0}} (Err f) → told ≡ Some t → AddsPin t most cid (Err f) told
    sync-stops-pinning told f h is = alone-stops told f h (inl is)

    module _ (pins : List Cid) (listed : Lists t.notes.pins pins) where
      pub text-stops-pinning : (list : List Cid) → reach (held_at t) most (cid ∷ []) ≡ Ok list → (told : Told) (f : PinFault) → GivesText cid pins (Err f) → told ≡ Some t → AddsPin t most cid (Err f) told
      text-stops-pinning list reached told fault.BadPins h is = absurd h
      text-stops-pinning list reached told fault.TooManyPins h is = (record { pins = pins; listed = listed; list = list; reached = reached; many = h }, inl is)
      text-stops-pinning list reached told (fault.NotPinned c) h is = absurd h
      text-stops-pinning list reached told (fault.NotDagPb c why) h is = absurd h
      text-stops-pinning list reached told fault.TooMany h is = absurd h
      text-stops-pinning list reached told (fault.Store f) h is = (subst (λ x. StopsPinning t most cid (fault.Store x)) (sym h) tt, inl is)

      module _ (list : List Cid) (reached : reach (held_at t) most (cid ∷ []) ≡ Ok list) where
        pub was-pinned : (told : Told) → WasThere cid pins → told ≡ Some (with_sync t) → AddsPin t most cid (Ok tt) told
        was-pinned told h is = record {
          pins = pins;
          listed = listed;
          list = list;
          reached = reached;
          few = h.few;
          told_now = inl (record { was = h.was; synced = is });
        }

        pub pins-anew : (told : Told) (text : List ℕ) (r : Result Unit PinFault) → IsNewText cid pins text → OnOk r (told ≡ Some (with_text Pins text (with_sync t)))
            → OnErr r (told ≡ Some (with_sync t)) → FailsAlone r → AddsPin t most cid r told
        pins-anew told text (Ok u) h ok err fails = record {
          pins = pins;
          listed = listed;
          list = list;
          reached = reached;
          few = h.few;
          told_now = inr (record { now = h.now; with_it = h.with_it; noted = ok ∙ ap (λ (x : List ℕ). Some (with_text Pins x (with_sync t))) h.text_is });
        }
        pins-anew told text (Err f) h ok err fails = alone-stops told f fails (inr err)

        pub anew-by : (before told : Told) (text : List ℕ) (r : Result Unit PinFault) → IsNewText cid pins text → before ≡ Some (with_sync t)
            → OnOk r (told ≡ changed (with_text Pins text) before) → OnErr r (told ≡ before) → FailsAlone r → AddsPin t most cid r told
        anew-by before told text r h told_is ok err fails =
            pins-anew told text r h (ok-by r (λ e. e ∙ ap (changed (with_text Pins text)) told_is) ok) (err-by r (λ e. e ∙ told_is) err) fails
