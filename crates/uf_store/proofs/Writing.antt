-- What calls in a row write, and what writes leave of what was held.
use Rattle.std.proofs.Common.{◌≡◌, ℕ, List, [], ◌∷◌, ◌++◌, Bool, true, false, cond, refl, sym, ap, subst, ◌∙◌, append_assoc, append-nil, ◌⊎◌, inl, inr}
use Rattle.std.specs.Prelude.{fold, Some, None, IfSome}
use Rattle.std.specs.declared.option.Option.{Option}
use Rattle.std.specs.FinMap.{get, get-insert, insert}
use Rattle.std.specs.List.{AllByRecursion}
use Rattle.std.specs.Ordering.{eq_by_cmp}
use Rattle.uf_cid.specs.declared.cid.Cid.{Cid}
use Rattle.uf_cid.specs.Blocks as blocks
use Rattle.uf_cid.specs.Blocks.{Held}
use Rattle.uf_cid.specs.Cid.{cid_cmp}
use Rattle.uf_store.specs.declared.store.Note.{Note}
use Rattle.uf_store.specs.declared.store.Write.{Write}
use Rattle.uf_store.specs.declared.store.Write.TheVariants.{Saved, Synced, Noted}
use Rattle.uf_store.specs.Contents.{Contents, HeldMap, Notes, Told, changed, held_after, held_at, notes_after, with_all, with_save, with_sync, with_text}
use Rattle.uf_store.specs.Keeping.{Agrees, KeepsGood, StaysAgreed}
use Rattle.uf_store.specs.Writing.{Appends, IsAny, IsSave, IsSaveOrSync, MeetsNoOther, ReplaceNone, SavesOnly, WritesOnly, Wrote}
use Rattle.uf_store.proofs.Holding.{cid_cmp_total}
use Rattle.uf_store.proofs.Keeping.{KeepsGood-refl, get_kept, same_of}

-- ---- lists of writes

pub fold-append : {A B : Type 0} (f : B → A → B) (b : B) (xs ys : List A) → fold f b (xs ++ ys) ≡ fold f (fold f b xs) ys
fold-append f b [] ys = refl
fold-append f b (x ∷ xs) ys = fold-append f (f b x) xs ys

each-append : (IsOne : Write → Type 0) (xs ys : List Write) → AllByRecursion IsOne xs → AllByRecursion IsOne ys → AllByRecursion IsOne (xs ++ ys)
each-append IsOne [] ys p q = q
each-append IsOne (x ∷ xs) ys p q = (p.0, each-append IsOne xs ys p.1 q)

each-by : (P Q : Write → Type 0) → ((w : Write) → P w → Q w) → (ws : List Write) → AllByRecursion P ws → AllByRecursion Q ws
each-by P Q more [] h = tt
each-by P Q more (w ∷ ws) h = (more w h.0, each-by P Q more ws h.1)

pub save_or_sync : (w : Write) → IsSave w → IsSaveOrSync w
save_or_sync (Saved cid bytes) h = tt
save_or_sync Synced h = tt
save_or_sync (Noted which text) h = absurd h

-- blocks that were saved behind others
pub with_all-append : (xs ys : List Held) (t : Contents) → with_all (xs ++ ys) t ≡ with_all ys (with_all xs t)
with_all-append [] ys t = refl
with_all-append (b ∷ xs) ys t = with_all-append xs ys (with_save b.0 b.1 t)

module _ (hash : List ℕ → List ℕ) where
  replace-append : (m : HeldMap) (xs ys : List Write) → ReplaceNone hash m xs → ReplaceNone hash (fold held_after m xs) ys → ReplaceNone hash m (xs ++ ys)
  replace-append m [] ys p q = q
  replace-append m (Saved cid bytes ∷ xs) ys p q = (p.0, p.1, replace-append (insert m cid bytes) xs ys p.2 q)
  replace-append m (Synced ∷ xs) ys p q = replace-append m xs ys p q
  replace-append m (Noted which text ∷ xs) ys p q = replace-append m xs ys p q

  -- ---- one word after another

  module _ (IsOne : Write → Type 0) where
    appends-trans : (t u v : Contents) → Appends hash IsOne t u → Appends hash IsOne u v → Appends hash IsOne t v
    appends-trans t u v p q = record {
      added = p.added ++ q.added;
      each = each-append IsOne p.added q.added p.each q.each;
      writes = q.writes ∙ ap (λ (ws : List Write). ws ++ q.added) p.writes ∙ append_assoc t.writes p.added q.added;
      held = q.held ∙ ap (λ (m : HeldMap). fold held_after m q.added) p.held ∙ sym (fold-append held_after t.held p.added q.added);
      notes = q.notes ∙ ap (λ (n : Notes). fold notes_after n q.added) p.notes ∙ sym (fold-append notes_after t.notes p.added q.added);
      replace_none = replace-append t.held p.added q.added p.replace_none (subst (λ (m : HeldMap). ReplaceNone hash m q.added) p.held q.replace_none);
    }

    pub Wrote-refl : (a : Told) → Wrote hash IsOne a a
    Wrote-refl None = tt
    Wrote-refl (Some t) = record { added = []; each = tt; writes = sym (append-nil t.writes); held = refl; notes = refl; replace_none = tt }

    pub Wrote-same : (a b : Told) → b ≡ a → Wrote hash IsOne a b
    Wrote-same a b is = subst (Wrote hash IsOne a) (sym is) (Wrote-refl a)

    pub Wrote-trans : (a b c : Told) → Wrote hash IsOne a b → Wrote hash IsOne b c → Wrote hash IsOne a c
    Wrote-trans None None None p q = tt
    Wrote-trans None None (Some w) p q = q
    Wrote-trans None (Some u) c p q = absurd p
    Wrote-trans (Some t) None c p q = absurd p
    Wrote-trans (Some t) (Some u) None p q = q
    Wrote-trans (Some t) (Some u) (Some w) p q = appends-trans t u w p q

  pub Wrote-by : (P Q : Write → Type 0) → ((w : Write) → P w → Q w) → (a b : Told) → Wrote hash P a b → Wrote hash Q a b
  Wrote-by P Q more None None h = tt
  Wrote-by P Q more None (Some u) h = h
  Wrote-by P Q more (Some t) None h = h
  Wrote-by P Q more (Some t) (Some u) h = record {
    added = h.added;
    each = each-by P Q more h.added h.each;
    writes = h.writes;
    held = h.held;
    notes = h.notes;
    replace_none = h.replace_none;
  }

  -- saves alone are writes of any kind
  pub saves-write : (a b : Told) → SavesOnly hash a b → WritesOnly hash a b
  saves-write a b h = Wrote-by IsSave IsAny (λ w p. tt) a b h

  pub SavesOnly-refl : (a : Told) → SavesOnly hash a a
  SavesOnly-refl a = Wrote-refl IsSave a

  pub SavesOnly-trans : (a b c : Told) → SavesOnly hash a b → SavesOnly hash b c → SavesOnly hash a c
  SavesOnly-trans a b c p q = Wrote-trans IsSave a b c p q

  -- a sync is one
  pub synced : (told told_now : Told) → told_now ≡ changed with_sync told → Wrote hash IsSaveOrSync told told_now
  synced None told_now is = subst (Wrote hash IsSaveOrSync None) (sym is) tt
  synced (Some t) told_now is =
      subst (Wrote hash IsSaveOrSync (Some t)) (sym is) (record { added = Synced ∷ []; each = (tt, tt); writes = refl; held = refl; notes = refl; replace_none = tt })

  no_notes_in : (ws : List Write) (n : Notes) → AllByRecursion IsSave ws → fold notes_after n ws ≡ n
  no_notes_in [] n h = refl
  no_notes_in (Saved cid bytes ∷ ws) n h = no_notes_in ws n h.1
  no_notes_in (Synced ∷ ws) n h = absurd h.0
  no_notes_in (Noted which text ∷ ws) n h = absurd h.0

  -- saves alone leave the notes
  pub saves-notes : (t u : Contents) → Appends hash IsSave t u → u.notes ≡ t.notes
  saves-notes t u h = h.notes ∙ no_notes_in h.added t.notes h.each

  -- ---- what each call writes

  pub SavesOnly-saved : (cid : Cid) (bytes : List ℕ) (told told_now : Told) → hash bytes ≡ cid.digest → IfSome told (λ t. MeetsNoOther hash cid bytes t.held)
      → told_now ≡ changed (with_save cid bytes) told → SavesOnly hash told told_now
  SavesOnly-saved cid bytes None told_now digest free kept = subst (SavesOnly hash None) (sym kept) tt
  SavesOnly-saved cid bytes (Some t) told_now digest free kept =
      subst (SavesOnly hash (Some t)) (sym kept) (record { added = Saved cid bytes ∷ []; each = (tt, tt); writes = refl; held = refl; notes = refl; replace_none = (digest, free, tt) })

  pub WritesOnly-synced : (told told_now : Told) → told_now ≡ changed with_sync told → WritesOnly hash told told_now
  WritesOnly-synced None told_now is = subst (WritesOnly hash None) (sym is) tt
  WritesOnly-synced (Some t) told_now is =
      subst (WritesOnly hash (Some t)) (sym is) (record { added = Synced ∷ []; each = (tt, tt); writes = refl; held = refl; notes = refl; replace_none = tt })

  pub WritesOnly-noted : (which : Note) (text : List ℕ) (told told_now : Told) → told_now ≡ changed (with_text which text) told → WritesOnly hash told told_now
  WritesOnly-noted which text None told_now is = subst (WritesOnly hash None) (sym is) tt
  WritesOnly-noted which text (Some t) told_now is =
      subst (WritesOnly hash (Some t)) (sym is) (record { added = Noted which text ∷ []; each = (tt, tt); writes = refl; held = refl; notes = refl; replace_none = tt })

  -- ---- what writes leave

  module _ (c : Cid) (b : List ℕ) where
    stays : (ws : List Write) (m : HeldMap) → ReplaceNone hash m ws → get m c ≡ Some b → hash b ≡ c.digest → get (fold held_after m ws) c ≡ Some b
    stays [] m h is digest = is
    stays (Saved cid bytes ∷ ws) m h is digest =
        stays ws (insert m cid bytes) h.2 (get-insert cid_cmp_total m cid bytes c ∙ get_kept m hash cid c bytes b (eq_by_cmp cid_cmp c cid) refl h.1 is digest) digest
    stays (Synced ∷ ws) m h is digest = stays ws m h is digest
    stays (Noted which text ∷ ws) m h is digest = stays ws m h is digest

    saved-or-there : (cid : Cid) (bytes : List ℕ) (m : HeldMap) (tied : Bool) → eq_by_cmp cid_cmp c cid ≡ tied → hash bytes ≡ cid.digest
        → cond tied (Some bytes) (get m c) ≡ Some b → (get m c ≡ Some b) ⊎ (hash b ≡ c.digest)
    saved-or-there cid bytes m true tie digest is =
        let same : bytes ≡ b = cc in
        let one : c ≡ cid = same_of c cid tie in
        inr (ap hash (sym same) ∙ digest ∙ ap (λ (d : Cid). d.digest) (sym one))
    saved-or-there cid bytes m false tie digest is = inl is

    came : (ws : List Write) (m : HeldMap) → ReplaceNone hash m ws → get (fold held_after m ws) c ≡ Some b → (get m c ≡ Some b) ⊎ (hash b ≡ c.digest)
    came [] m h is = inl is
    came (Saved cid bytes ∷ ws) m h is = by (came ws (insert m cid bytes) h.2 is)
      where
        by : (get (insert m cid bytes) c ≡ Some b) ⊎ (hash b ≡ c.digest) → (get m c ≡ Some b) ⊎ (hash b ≡ c.digest)
        by (inl there) = saved-or-there cid bytes m (eq_by_cmp cid_cmp c cid) refl h.0 (sym (get-insert cid_cmp_total m cid bytes c) ∙ there)
        by (inr digest) = inr digest
    came (Synced ∷ ws) m h is = came ws m h is
    came (Noted which text ∷ ws) m h is = came ws m h is

  -- no save replaced a block of its CID's digest, so such blocks are still held
  pub Wrote-good : (IsOne : Write → Type 0) (a b : Told) → Wrote hash IsOne a b → KeepsGood hash a b
  Wrote-good IsOne None None h = KeepsGood-refl hash None
  Wrote-good IsOne None (Some u) h = absurd h
  Wrote-good IsOne (Some t) None h = absurd h
  Wrote-good IsOne (Some t) (Some u) h = record {
    alike = refl;
    stays = λ c bytes is digest. subst (λ (m : HeldMap). get m c ≡ Some bytes) (sym h.held) (stays c bytes h.added t.held h.replace_none is digest);
  }

  -- what is held was held before, or has its CID's digest
  pub Wrote-came : (IsOne : Write → Type 0) (t u : Contents) → Appends hash IsOne t u → (c : Cid) (bytes : List ℕ) → held_at u c ≡ Some bytes
      → (held_at t c ≡ Some bytes) ⊎ (hash bytes ≡ c.digest)
  Wrote-came IsOne t u h c bytes is = came c bytes h.added t.held h.replace_none (ap (λ (m : HeldMap). get m c) (sym h.held) ∙ is)

  -- ---- blocks of which some may be lost

  agree-one : (IsOne : Write → Type 0) (t u v : Contents) (c : Cid) (bytes : List ℕ) (found : Option (List ℕ)) → held_at u c ≡ found → Appends hash IsOne t u
      → KeepsGood hash (Some u) (Some v) → IfSome (held_at t c) (λ x. x ≡ bytes) → IfSome (held_at v c) (λ x. x ≡ bytes) → IfSome found (λ x. x ≡ bytes)
  agree-one IsOne t u v c bytes None is p keeps first last = tt
  agree-one IsOne t u v c bytes (Some x) is p keeps first last = by (Wrote-came IsOne t u p c x is)
    where
      by : (held_at t c ≡ Some x) ⊎ (hash x ≡ c.digest) → x ≡ bytes
      by (inl there) = subst (λ (o : Option (List ℕ)). IfSome o (λ x. x ≡ bytes)) there first
      by (inr digest) = subst (λ (o : Option (List ℕ)). IfSome o (λ x. x ≡ bytes)) (keeps.stays c x is digest) last

  agrees-all : (IsOne : Write → Type 0) (t u v : Contents) (l : List Held) → Appends hash IsOne t u → KeepsGood hash (Some u) (Some v)
      → blocks.Agrees (held_at t) l → blocks.Agrees (held_at v) l → blocks.Agrees (held_at u) l
  agrees-all IsOne t u v [] p keeps first last = tt
  agrees-all IsOne t u v (b ∷ l) p keeps first last =
      (agree-one IsOne t u v b.0 b.1 (held_at u b.0) refl p keeps first.0 last.0, agrees-all IsOne t u v l p keeps first.1 last.1)

  -- a store that agrees with blocks before and after does so between
  pub agrees-between : (IsOne : Write → Type 0) (a b c : Told) (l : List Held) → Wrote hash IsOne a b → Wrote hash IsOne b c → StaysAgreed a c l → Agrees b l
  agrees-between IsOne None b c l p q h = absurd h.first
  agrees-between IsOne (Some t) None c l p q h = absurd p
  agrees-between IsOne (Some t) (Some u) None l p q h = absurd q
  agrees-between IsOne (Some t) (Some u) (Some v) l p q h = agrees-all IsOne t u v l p (Wrote-good IsOne (Some u) (Some v) q) h.first h.last
