-- Saves of blocks that are named: what is among some blocks is among more, and calls in a row.
use Rattle.std.proofs.Common.{◌≡◌, ℕ, zero, suc, ◌<◌, List, [], ◌∷◌, ◌++◌, length, slice_index_or, arith, refl, sym, subst}
use Rattle.std.specs.Prelude.{Some, None, IfSome, OnOk, OnErr}
use Rattle.std.specs.List.{Contains}
use Rattle.std.specs.declared.result.Result.{Result}
use Rattle.std.specs.declared.result.Result.TheVariants.{Ok, Err}
use Rattle.std.proofs.lemmas.List.Elements.{Contains-append_left, Contains-append_right}
use Rattle.uf_cid.specs.declared.cid.Cid.{Cid}
use Rattle.uf_cid.specs.Blocks.{Held}
use Rattle.uf_store.specs.declared.store.Write.{Write}
use Rattle.uf_store.specs.declared.store.Write.TheVariants.{Saved, Synced, Noted}
use Rattle.uf_store.specs.Contents.{Told, changed, with_save}
use Rattle.uf_store.specs.Seen.{KeepsHeld, Seen}
use Rattle.uf_store.specs.Writing.{IsSave, MeetsNoOther, SavesOnly}
use Rattle.uf_store.proofs.Writing.{Wrote-by, Wrote-refl, Wrote-same, Wrote-trans}
use Rattle.uf_store.specs.Among.{AreAmong, IsSaveOf, SavesAmong}

-- ---- blocks among others

-- a block of some that are all among others is one of these
among-one : (few many : List Held) (block : Held) → AreAmong few many → Contains few block → Contains many block
among-one few many block h is = at few is.0 is.1 is.2 h
  where
    at : (few : List Held) (k : ℕ) → k < length few → slice_index_or few k block ≡ block → AreAmong few many → Contains many block
    at [] k lt is h = absurd (omega arith)
    at (b ∷ few) zero lt is h = subst (Contains many) is h.0
    at (b ∷ few) (suc k) lt is h = at few k (omega arith) is h.1

among-each : (all few many : List Held) → ((b : Held) → Contains few b → Contains many b) → AreAmong all few → AreAmong all many
among-each [] few many more h = tt
among-each (b ∷ all) few many more h = (more b h.0, among-each all few many more h.1)

among-cons : (b : Held) (all few : List Held) → AreAmong all few → AreAmong all (b ∷ few)
among-cons b all few h = among-each all few (b ∷ few) (λ c is. Contains-append_right (b ∷ []) few c is) h

-- blocks are among themselves, and among more
pub among-refl : (all : List Held) → AreAmong all all
among-refl [] = tt
among-refl (b ∷ all) = (Contains-append_left (b ∷ []) all b (0, omega arith, refl), among-cons b all all (among-refl all))

pub among-left : (few more : List Held) → AreAmong few (few ++ more)
among-left few more = among-each few few (few ++ more) (λ b is. Contains-append_left few more b is) (among-refl few)

pub among-right : (few more : List Held) → AreAmong more (few ++ more)
among-right few more = among-each more more (few ++ more) (λ b is. Contains-append_right few more b is) (among-refl more)

-- ---- saves among them

save_of-save : (blocks : List Held) (w : Write) → IsSaveOf blocks w → IsSave w
save_of-save blocks (Saved cid bytes) h = tt
save_of-save blocks Synced h = h
save_of-save blocks (Noted which text) h = h

save_of-more : (few many : List Held) → AreAmong few many → (w : Write) → IsSaveOf few w → IsSaveOf many w
save_of-more few many h (Saved cid bytes) is = among-one few many (cid, bytes) h is
save_of-more few many h Synced is = is
save_of-more few many h (Noted which text) is = is

module _ (hash : List ℕ → List ℕ) where
  -- nothing is saved
  pub SavesAmong-refl : (blocks : List Held) (a : Told) → SavesAmong hash blocks a a
  SavesAmong-refl blocks a = Wrote-refl hash (IsSaveOf blocks) a

  pub SavesAmong-same : (blocks : List Held) (a b : Told) → b ≡ a → SavesAmong hash blocks a b
  SavesAmong-same blocks a b is = Wrote-same hash (IsSaveOf blocks) a b is

  -- calls in a row, each of which saves among the same blocks, or each among its own
  pub SavesAmong-trans : (blocks : List Held) (a b c : Told) → SavesAmong hash blocks a b → SavesAmong hash blocks b c → SavesAmong hash blocks a c
  SavesAmong-trans blocks a b c p q = Wrote-trans hash (IsSaveOf blocks) a b c p q

  pub SavesAmong-more : (few many : List Held) (a b : Told) → AreAmong few many → SavesAmong hash few a b → SavesAmong hash many a b
  SavesAmong-more few many a b more h = Wrote-by hash (IsSaveOf few) (IsSaveOf many) (save_of-more few many more) a b h

  pub SavesAmong-append : (few more : List Held) (a b c : Told) → SavesAmong hash few a b → SavesAmong hash more b c → SavesAmong hash (few ++ more) a c
  SavesAmong-append few more a b c p q =
      SavesAmong-trans (few ++ more) a b c (SavesAmong-more few (few ++ more) a b (among-left few more) p) (SavesAmong-more more (few ++ more) b c (among-right few more) q)

  -- such calls write blocks alone
  pub SavesAmong-only : (blocks : List Held) (a b : Told) → SavesAmong hash blocks a b → SavesOnly hash a b
  SavesAmong-only blocks a b h = Wrote-by hash (IsSaveOf blocks) IsSave (save_of-save blocks) a b h

  -- ---- one save

  SavesAmong-saved : (cid : Cid) (bytes : List ℕ) (told told_now : Told) → hash bytes ≡ cid.digest → IfSome told (λ t. MeetsNoOther hash cid bytes t.held)
      → told_now ≡ changed (with_save cid bytes) told → SavesAmong hash ((cid, bytes) ∷ []) told told_now
  SavesAmong-saved cid bytes None told_now digest free kept = subst (SavesAmong hash ((cid, bytes) ∷ []) None) (sym kept) tt
  SavesAmong-saved cid bytes (Some t) told_now digest free kept =
      subst (SavesAmong hash ((cid, bytes) ∷ []) (Some t)) (sym kept)
      (record { added = Saved cid bytes ∷ []; each = ((0, omega arith, refl), tt); writes = refl; held = refl; notes = refl; replace_none = (digest, free, tt) })

  -- a block that was kept, under a CID of its digest
  pub SavesAmong-kept : (block : Held) (before now : Seen) → hash block.1 ≡ block.0.digest → KeepsHeld hash block before now → SavesAmong hash (block ∷ []) before.told now.told
  SavesAmong-kept block before now digest kept = SavesAmong-saved block.0 block.1 before.told now.told digest kept.no_other kept.kept

  -- the same of a call that keeps a block after Ok alone
  pub SavesAmong-either : {T E : Type 0} (r : Result T E) (block : Held) (before now : Seen) → hash block.1 ≡ block.0.digest → OnOk r (KeepsHeld hash block before now) → OnErr r (now.told ≡ before.told)
      → SavesAmong hash (block ∷ []) before.told now.told
  SavesAmong-either (Ok t) block before now digest kept same = SavesAmong-kept block before now digest kept
  SavesAmong-either (Err e) block before now digest kept same = SavesAmong-same (block ∷ []) before.told now.told same
