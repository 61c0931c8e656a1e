-- What is written by calls that save no blocks but some.
use Rattle.std.proofs.Common.{◌≡◌, ℕ, List, [], ◌∷◌, ◌++◌, arith, refl, sym, subst, Result, Ok, Err}
use Rattle.std.specs.Prelude.{IfSome, Some, None}
use Rattle.std.proofs.lemmas.List.Elements.{Contains-append_left, Contains-append_right}
use Rattle.uf_cid.specs.Blocks.{Held}
use Rattle.uf_cid.specs.declared.cid.Cid.{Cid}
use Rattle.uf_command.specs.declared.types.Edit.TheVariants.{Write}
use Rattle.uf_edge.specs.Counts.{Stood}
use Rattle.uf_edge.specs.Streams as streams
use Rattle.uf_edits.specs.Edits.{edited_blocks}
use Rattle.uf_mfs.specs.Reading.{CanRise}
use Rattle.uf_mfs.specs.Saving.{AgreesThroughout, SavesAmongThen}
use Rattle.uf_mfs.specs.Standing.{Commits, Idle, LeavesHead, OnlySynced, Same, Written}
use Rattle.uf_plain.specs.declared.file.WriteHow.{WriteHow}
use Rattle.uf_store.specs.Among.{IsSaveOf, SavesAmong}
use Rattle.uf_store.specs.Contents.{Told, changed, with_sync, with_text}
use Rattle.uf_store.specs.Faults.{StaysCalm}
use Rattle.uf_store.specs.Keeping.{Agrees}
use Rattle.uf_store.specs.Seen.{Seen}
use Rattle.uf_store.specs.declared.store.Note.{Note}
use Rattle.uf_store.specs.declared.store.Note.TheVariants.{Head}
use Rattle.uf_store.specs.declared.store.Write.{Write as TheWrite}
use Rattle.uf_store.specs.declared.store.Write.TheVariants.{Saved, Synced, Noted}
use Rattle.uf_store.specs.Writing.{IsAny, WritesOnly}
use Rattle.uf_store.proofs.Writing.{Wrote-by, Wrote-same, Wrote-trans, saves-write}
use Rattle.uf_tree.specs.Heads.{head_text}
use Rattle.uf_tree.specs.declared.profile.Profile.{Profile}
use Rattle.uf_top.specs.Around.{CountsCanRise}
use Rattle.uf_command.specs.Natures.{MovesHead}
use Rattle.uf_command.specs.declared.types.Refusal.{Refusal}
use Rattle.uf_top.specs.Shapes.{WritesInTree, is_ok}
use Rattle.uf_top.specs.Saving.{IsNoOther, KeepsWritten, SavesInHead, SavesNoOther}

-- a count that can rise stands still over nothing
pub still-stood : (i j : ℕ) → CanRise i → j ≡ i → Stood i j
still-stood i j can same = omega (arith, can, same)

-- a store agrees with blocks throughout a call, where it agrees with them before and after, and its counts can rise
pub throughout : (a b : Seen) (l : List Held) → Agrees a.told l → Agrees b.told l → CountsCanRise a → AgreesThroughout a b l
throughout a b l first last can = record {
  stays = record { first = first; last = last };
  can = record { faults = still-stood a.faults a.faults can.faults refl; clashes = still-stood a.clashes a.clashes can.clashes refl };
}

-- they can rise after a call over which they stood
pub can-rise-later : (a m : Seen) → StaysCalm a m → CountsCanRise a → CountsCanRise m
can-rise-later a m calm can = record { faults = subst CanRise (sym calm.faults) can.faults; clashes = subst CanRise (sym calm.clashes) can.clashes }

save-no-other : (blocks : List Held) (w : TheWrite) → IsSaveOf blocks w → IsNoOther blocks w
save-no-other blocks (Saved cid bytes) h = h
save-no-other blocks Synced h = tt
save-no-other blocks (Noted which text) h = tt

module _ (hash : List ℕ → List ℕ) (blocks : List Held) where
  -- nothing was written
  pub no-other-same : (a b : Told) → b ≡ a → SavesNoOther hash blocks a b
  no-other-same a b is = Wrote-same hash (IsNoOther blocks) a b is

  pub no-other-trans : (a b c : Told) → SavesNoOther hash blocks a b → SavesNoOther hash blocks b c → SavesNoOther hash blocks a c
  no-other-trans a b c p q = Wrote-trans hash (IsNoOther blocks) a b c p q

  -- saves of these blocks
  pub no-other-among : (a b : Told) → SavesAmong hash blocks a b → SavesNoOther hash blocks a b
  no-other-among a b h = Wrote-by hash (IsSaveOf blocks) (IsNoOther blocks) (save-no-other blocks) a b h

  -- a sync, and a note
  no-other-synced : (a b : Told) → b ≡ changed with_sync a → SavesNoOther hash blocks a b
  no-other-synced None b is = subst (SavesNoOther hash blocks None) (sym is) tt
  no-other-synced (Some t) b is =
      subst (SavesNoOther hash blocks (Some t)) (sym is) (record { added = Synced ∷ []; each = (tt, tt); writes = refl; held = refl; notes = refl; replace_none = tt })

  no-other-noted : (which : Note) (text : List ℕ) (a b : Told) → b ≡ changed (with_text which text) a → SavesNoOther hash blocks a b
  no-other-noted which text None b is = subst (SavesNoOther hash blocks None) (sym is) tt
  no-other-noted which text (Some t) b is =
      subst (SavesNoOther hash blocks (Some t)) (sym is) (record { added = Noted which text ∷ []; each = (tt, tt); writes = refl; held = refl; notes = refl; replace_none = tt })

  -- the Head stays, or is written after a sync
  pub no-other-leaves : (a b : Told) → LeavesHead a b → SavesNoOther hash blocks a b
  no-other-leaves a b (Same is) = no-other-same a b is
  no-other-leaves a b (OnlySynced is) = no-other-synced a b is

  pub no-other-commits : (p : Profile) (root : Cid) (a b : Told) → Commits p root a b → SavesNoOther hash blocks a b
  no-other-commits p root a b (Idle head is) = no-other-same a b is
  no-other-commits p root a b (Written head is) =
      no-other-trans a (changed with_sync a) b (no-other-synced a (changed with_sync a) refl) (no-other-noted Head (head_text p root) (changed with_sync a) b is)

  -- blocks were saved, and then one of these was done
  pub no-other-then : (Last : Told → Told → Type 0) (a b : Told) → ((m : Told) → Last m b → SavesNoOther hash blocks m b) → SavesAmongThen hash blocks Last a b → SavesNoOther hash blocks a b
  no-other-then Last a b more h = no-other-trans a h.between b (no-other-among a h.between h.saves) (more h.between h.last)

-- whatever was saved, it was written
module _ (hash : List ℕ → List ℕ) where
  any-of : (blocks : List Held) (a b : Told) → SavesNoOther hash blocks a b → WritesOnly hash a b
  any-of blocks a b h = Wrote-by hash (IsNoOther blocks) IsAny (λ w is. tt) a b h

  -- and so in an opened tree
  pub in-tree-wrote : {A : Type 0} (p : Profile) (r : Result A Refusal) (a b : Told) → WritesInTree hash p MovesHead (is_ok r) a b → WritesOnly hash a b
  in-tree-wrote p (Ok x) a b h = Wrote-trans hash IsAny a h.1.between b (saves-write hash a h.1.between h.1.saves) (any-of [] h.1.between b (no-other-commits hash [] p h.0 h.1.between b h.1.last))
  in-tree-wrote p (Err why) a b h = Wrote-trans hash IsAny a h.between b (saves-write hash a h.between h.saves) (any-of [] h.between b (no-other-leaves hash [] h.between b h.last))

-- some of these are some of more
more-before : (few more : List Held) (w : TheWrite) → IsNoOther few w → IsNoOther (few ++ more) w
more-before few more (Saved cid bytes) h = Contains-append_left few more (cid, bytes) h
more-before few more Synced h = tt
more-before few more (Noted which text) h = tt

more-after : (few more : List Held) (w : TheWrite) → IsNoOther more w → IsNoOther (few ++ more) w
more-after few more (Saved cid bytes) h = Contains-append_right few more (cid, bytes) h
more-after few more Synced h = tt
more-after few more (Noted which text) h = tt

module _ (hash : List ℕ → List ℕ) where
  pub no-other-before : (few more : List Held) (a b : Told) → SavesNoOther hash few a b → SavesNoOther hash (few ++ more) a b
  no-other-before few more a b h = Wrote-by hash (IsNoOther few) (IsNoOther (few ++ more)) (more-before few more) a b h

  pub no-other-after : (few more : List Held) (a b : Told) → SavesNoOther hash more a b → SavesNoOther hash (few ++ more) a b
  no-other-after few more a b h = Wrote-by hash (IsNoOther more) (IsNoOther (few ++ more)) (more-after few more) a b h

-- ---- an input that is written

module _ (X : List ℕ → List ℕ) (N : List ℕ → ℕ) (how : WriteHow) (names : List (List ℕ)) (a b : Seen) where
  pub nothing-written : (left : streams.Told) → b.told ≡ a.told → KeepsWritten X N a b how names left
  nothing-written None same = tt
  nothing-written (Some bytes) same = λ p es named can. no-other-same X (edited_blocks X N (Write how bytes) names p es) a.told b.told same

  pub written-kept : (piece : List ℕ) (left : streams.Told) → IfSome left (λ bytes. bytes ≡ piece) → SavesInHead X N a b (edited_blocks X N (Write how piece) names) → KeepsWritten X N a b how names left
  written-kept piece None same h = tt
  written-kept piece (Some bytes) same h = subst (λ (bs : List ℕ). SavesInHead X N a b (edited_blocks X N (Write how bs) names)) (sym same) h

-- ---- blocks side by side

pub agrees-both : (told : Told) (k l : List Held) → Agrees told k → Agrees told l → Agrees told (k ++ l)
agrees-both None k l h m = absurd h
agrees-both (Some t) k l h m = by k h
  where
    by : (k : List Held) → Agrees (Some t) k → Agrees (Some t) (k ++ l)
    by [] h = m
    by (x ∷ k) h = (h.0, by k h.1)
