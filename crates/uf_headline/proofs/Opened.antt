-- What a stop leaves of writes, as a store that is opened over it.
use Rattle.std.proofs.Common.{◌≡◌, ◌∙◌, ℕ, ◌+◌, ◌<◌, ◌≤◌, List, [], ◌∷◌, ◌++◌, Bool, true, false, arith, cond, refl, sym, ap, subst, inl, inr, Some, None}
use Rattle.std.specs.Prelude.{◌⊎◌, ◌||◌, fold, max, nat_lt}
use Rattle.std.specs.Cmp.{eq_by_cmp_equiv}
use Rattle.std.specs.FinMap.{get, insert, empty, get-empty, get-insert}
use Rattle.std.specs.Ordering.{eq_by_cmp}
use Rattle.uf_build.proofs.Carry.{is_below}
use Rattle.uf_cid.specs.Cid.{cid_cmp}
use Rattle.uf_cid.specs.declared.cid.Cid.{Cid}
use Rattle.uf_store.specs.Contents.{HeldMap, Notes, held_after, no_notes, notes_after}
use Rattle.uf_store.specs.Stops.{IsPart, after_stop, behind_sync, firm, firm_after, held_by, survives, survivors, written}
use Rattle.uf_store.specs.declared.store.Write.{Write}
use Rattle.uf_store.specs.declared.store.Write.TheVariants.{Saved, Synced, Noted}
use Rattle.uf_store.proofs.Holding.{cid_cmp_total}
use Rattle.uf_store.proofs.Keeping.{same_of}
use Rattle.uf_store.proofs.Writing.{fold-append}
use Rattle.uf_headline.proofs.Firm.{synced-firm}
use Rattle.uf_headline.specs.Calls.{IsReopened, Saves, SavesAgree}

-- ---- one save

same-save : (k c : Cid) (v b : List ℕ) → c ≡ k → v ≡ b → Saved k v ≡ Saved c b
same-save k c v b p q = ap (λ d. Saved d v) (sym p) ∙ ap (λ x. Saved c x) q

saved-cid : (k c : Cid) (v b : List ℕ) → Saved k v ≡ Saved c b → k ≡ c
saved-cid k c v b e = cc

put-there : (m : HeldMap) (k : Cid) (v : List ℕ) → get (insert m k v) k ≡ Some v
put-there m k v = get-insert cid_cmp_total m k v k ∙ ap (λ (t : Bool). cond t (Some v) (get m k)) ((eq_by_cmp_equiv cid_cmp_total).refl k)

-- what is held after a save is its block, or was held
put-held : (m : HeldMap) (k c : Cid) (v b : List ℕ) → get (insert m k v) c ≡ Some b → (Saved k v ≡ Saved c b) ⊎ (get m c ≡ Some b)
put-held m k c v b e = by (eq_by_cmp cid_cmp c k) refl (sym (get-insert cid_cmp_total m k v c) ∙ e)
  where
    by : (t : Bool) → eq_by_cmp cid_cmp c k ≡ t → cond t (Some v) (get m c) ≡ Some b → (Saved k v ≡ Saved c b) ⊎ (get m c ≡ Some b)
    by true tie e = inl (same-save k c v b (same_of c k tie) (let same : v ≡ b = cc in same))
    by false tie e = inr e

-- ---- all saves

-- what is held is what was held before, or was saved
saved-of : (ws : List Write) (m : HeldMap) (c : Cid) (b : List ℕ) → get (fold held_after m ws) c ≡ Some b → (get m c ≡ Some b) ⊎ Saves c b ws
saved-of [] m c b e = inl e
saved-of (Saved k v ∷ ws) m c b e = by (saved-of ws (insert m k v) c b e)
  where
    first : (Saved k v ≡ Saved c b) ⊎ (get m c ≡ Some b) → (get m c ≡ Some b) ⊎ Saves c b (Saved k v ∷ ws)
    first (inl same) = inr (inl same)
    first (inr held) = inl held

    by : (get (insert m k v) c ≡ Some b) ⊎ Saves c b ws → (get m c ≡ Some b) ⊎ Saves c b (Saved k v ∷ ws)
    by (inl held) = first (put-held m k c v b held)
    by (inr saved) = inr (inr saved)
saved-of (Synced ∷ ws) m c b e = by (saved-of ws m c b e)
  where
    by : (get m c ≡ Some b) ⊎ Saves c b ws → (get m c ≡ Some b) ⊎ Saves c b (Synced ∷ ws)
    by (inl held) = inl held
    by (inr saved) = inr (inr saved)
saved-of (Noted which text ∷ ws) m c b e = by (saved-of ws m c b e)
  where
    by : (get m c ≡ Some b) ⊎ Saves c b ws → (get m c ≡ Some b) ⊎ Saves c b (Noted which text ∷ ws)
    by (inl held) = inl held
    by (inr saved) = inr (inr saved)

-- under a CID where a block is, there is one still
still : (ws : List Write) (m : HeldMap) (c : Cid) (x : List ℕ) → get m c ≡ Some x → (b : List ℕ) × (get (fold held_after m ws) c ≡ Some b)
still [] m c x e = (x, e)
still (Saved k v ∷ ws) m c x e = by (λ y h. still ws (insert m k v) c y h) (eq_by_cmp cid_cmp c k) refl
  where
    by : ((y : List ℕ) → get (insert m k v) c ≡ Some y → (b : List ℕ) × (get (fold held_after (insert m k v) ws) c ≡ Some b)) → (t : Bool) → eq_by_cmp cid_cmp c k ≡ t
        → (b : List ℕ) × (get (fold held_after (insert m k v) ws) c ≡ Some b)
    by rec true tie = rec v (get-insert cid_cmp_total m k v c ∙ ap (λ (t : Bool). cond t (Some v) (get m c)) tie)
    by rec false tie = rec x (get-insert cid_cmp_total m k v c ∙ ap (λ (t : Bool). cond t (Some v) (get m c)) tie ∙ e)
still (Synced ∷ ws) m c x e = still ws m c x e
still (Noted which text ∷ ws) m c x e = still ws m c x e

-- under a CID that was saved there is a block
held-of : (ws : List Write) (m : HeldMap) (c : Cid) (b : List ℕ) → Saves c b ws → (x : List ℕ) × (get (fold held_after m ws) c ≡ Some x)
held-of [] m c b s = absurd s
held-of (Saved k v ∷ ws) m c b (inl e) = still ws (insert m k v) c v (subst (λ d. get (insert m k v) d ≡ Some v) (saved-cid k c v b e) (put-there m k v))
held-of (Saved k v ∷ ws) m c b (inr s) = held-of ws (insert m k v) c b s
held-of (Synced ∷ ws) m c b (inl e) = absurd cc
held-of (Synced ∷ ws) m c b (inr s) = held-of ws m c b s
held-of (Noted which text ∷ ws) m c b (inl e) = absurd cc
held-of (Noted which text ∷ ws) m c b (inr s) = held-of ws m c b s

-- nothing is held by no writes
none-held : (c : Cid) (b : List ℕ) → get (held_by []) c ≡ Some b → ⊥
none-held c b held = (let e : None ≡ Some b = sym (get-empty cid_cmp c) ∙ held in cc)

-- what is held by writes was saved by them
from-none : (ws : List Write) (c : Cid) (b : List ℕ) → get (held_by ws) c ≡ Some b → Saves c b ws
from-none ws c b e = by (saved-of ws empty c b e)
  where
    by : (get (held_by []) c ≡ Some b) ⊎ Saves c b ws → Saves c b ws
    by (inl held) = absurd (none-held c b held)
    by (inr saved) = saved

-- and what was saved is held, where the saves agree
saved-held : (ws : List Write) → SavesAgree ws → (c : Cid) (b : List ℕ) → Saves c b ws → get (held_by ws) c ≡ Some b
saved-held ws agree c b s = (let x = held-of ws empty c b s in x.1 ∙ ap Some (agree c x.0 b (from-none ws c x.0 x.1) s))

-- ---- what is firm

-- a save before a place, the first of these writes being at another
abbrev Before : Cid → List ℕ → ℕ → ℕ → List Write → Type 0
Before c b k n [] = ⊥
Before c b k n (w ∷ ws) = ((w ≡ Saved c b) × (n < k)) ⊎ Before c b k (n + 1) ws

raise : (c : Cid) (b : List ℕ) (k l n : ℕ) (ws : List Write) → k ≤ l → Before c b k n ws → Before c b l n ws
raise c b k l n [] le s = s
raise c b k l n (w ∷ ws) le (inl s) = (let less = s.1 in inl (s.0, omega (arith, less, le)))
raise c b k l n (w ∷ ws) le (inr s) = inr (raise c b k l (n + 1) ws le s)

less-max : (n k : ℕ) → n < max (n + 1) k
less-max n k = omega arith

le-max : (n k : ℕ) → k ≤ max (n + 1) k
le-max n k = omega arith

-- what is firm then was so before, or a sync came behind it
abbrev IsFirmBy : Cid → List ℕ → ℕ → ℕ → HeldMap → HeldMap → List Write → Type 0
IsFirmBy c b k n h f ws = (get f c ≡ Some b) ⊎ ((n < k) × ((get h c ≡ Some b) ⊎ Before c b k n ws))

firm-of : (ws : List Write) (n : ℕ) (h f : HeldMap) (c : Cid) (b : List ℕ) → get ((fold firm_after (h, f) ws).1) c ≡ Some b → IsFirmBy c b (behind_sync n ws) n h f ws
firm-of [] n h f c b e = inl e
firm-of (Saved k v ∷ ws) n h f c b e = by (firm-of ws (n + 1) (insert h k v) f c b e)
  where
    last : ℕ
    last = behind_sync (n + 1) ws

    first : n < last → (Saved k v ≡ Saved c b) ⊎ (get h c ≡ Some b) → IsFirmBy c b last n h f (Saved k v ∷ ws)
    first less (inl same) = inr (less, inr (inl (same, less)))
    first less (inr held) = inr (less, inl held)

    later : n < last → (get (insert h k v) c ≡ Some b) ⊎ Before c b last (n + 1) ws → IsFirmBy c b last n h f (Saved k v ∷ ws)
    later less (inl held) = first less (put-held h k c v b held)
    later less (inr s) = inr (less, inr (inr s))

    by : IsFirmBy c b last (n + 1) (insert h k v) f ws → IsFirmBy c b last n h f (Saved k v ∷ ws)
    by (inl e) = inl e
    by (inr s) = (let less = s.0 in later (omega (arith, less)) s.1)
firm-of (Synced ∷ ws) n h f c b e = by (firm-of ws (n + 1) h h c b e)
  where
    last : ℕ
    last = behind_sync (n + 1) ws

    later : (get h c ≡ Some b) ⊎ Before c b last (n + 1) ws → IsFirmBy c b (max (n + 1) last) n h f (Synced ∷ ws)
    later (inl held) = inr (less-max n last, inl held)
    later (inr s) = inr (less-max n last, inr (inr (raise c b last (max (n + 1) last) (n + 1) ws (le-max n last) s)))

    by : IsFirmBy c b last (n + 1) h h ws → IsFirmBy c b (max (n + 1) last) n h f (Synced ∷ ws)
    by (inl held) = inr (less-max n last, inl held)
    by (inr s) = later s.1
firm-of (Noted which text ∷ ws) n h f c b e = by (firm-of ws (n + 1) h f c b e)
  where
    last : ℕ
    last = behind_sync (n + 1) ws

    later : n < last → (get h c ≡ Some b) ⊎ Before c b last (n + 1) ws → IsFirmBy c b last n h f (Noted which text ∷ ws)
    later less (inl held) = inr (less, inl held)
    later less (inr s) = inr (less, inr (inr s))

    by : IsFirmBy c b last (n + 1) h f ws → IsFirmBy c b last n h f (Noted which text ∷ ws)
    by (inl e) = inl e
    by (inr s) = (let less = s.0 in later (omega (arith, less)) s.1)

-- ---- what survives

or-true : (t x : Bool) → t ≡ true → t || x ≡ true
or-true true x e = refl
or-true false x e = cc

module _ (lost : List ℕ) (k : ℕ) where
  -- a save that survives was made
  among : (n : ℕ) (ws : List Write) (c : Cid) (b : List ℕ) → Saves c b (survivors lost k n ws) → Saves c b ws
  among n [] c b s = s
  among n (w ∷ ws) c b s = by (survives lost k n w) (λ t. among (n + 1) ws c b t) s
    where
      by : (t : Bool) → (Saves c b (survivors lost k (n + 1) ws) → Saves c b ws) → Saves c b (cond t (w ∷ survivors lost k (n + 1) ws) (survivors lost k (n + 1) ws)) → Saves c b (w ∷ ws)
      by true rec (inl e) = inl e
      by true rec (inr s) = inr (rec s)
      by false rec s = inr (rec s)

  -- a save before the last sync survives
  survives-before : (n : ℕ) (c : Cid) (b : List ℕ) → n < k → survives lost k n (Saved c b) ≡ true
  survives-before n c b less = or-true (nat_lt n k) _ (is_below n k less)

  stays : (n : ℕ) (ws : List Write) (c : Cid) (b : List ℕ) → Before c b k n ws → Saves c b (survivors lost k n ws)
  stays n [] c b s = s
  stays n (w ∷ ws) c b (inl s) =
      subst (λ (v : Write). Saves c b (cond (survives lost k n v) (v ∷ survivors lost k (n + 1) ws) (survivors lost k (n + 1) ws))) (sym s.0)
      (subst (λ (t : Bool). Saves c b (cond t (Saved c b ∷ survivors lost k (n + 1) ws) (survivors lost k (n + 1) ws))) (sym (survives-before n c b s.1)) (inl refl))
  stays n (w ∷ ws) c b (inr s) = by (survives lost k n w) (stays (n + 1) ws c b s)
    where
      by : (t : Bool) → Saves c b (survivors lost k (n + 1) ws) → Saves c b (cond t (w ∷ survivors lost k (n + 1) ws) (survivors lost k (n + 1) ws))
      by true s = inr s
      by false s = s

  -- the notes are the same
  same-notes : (n : ℕ) (ws : List Write) (m : Notes) → fold notes_after m (survivors lost k n ws) ≡ fold notes_after m ws
  same-notes n [] m = refl
  same-notes n (Saved c b ∷ ws) m = by (survives lost k n (Saved c b)) (same-notes (n + 1) ws m)
    where
      by : (t : Bool) → fold notes_after m (survivors lost k (n + 1) ws) ≡ fold notes_after m ws → fold notes_after m (cond t (Saved c b ∷ survivors lost k (n + 1) ws) (survivors lost k (n + 1) ws)) ≡ fold notes_after m ws
      by true e = e
      by false e = e
  same-notes n (Synced ∷ ws) m = same-notes (n + 1) ws m
  same-notes n (Noted which text ∷ ws) m = same-notes (n + 1) ws (notes_after m (Noted which text))

module _ (lost : List ℕ) (ws : List Write) (agree : SavesAgree ws) where
  abbrev us : List Write
  us = survivors lost (behind_sync 0 ws) 0 ws

  us-among : (c : Cid) (b : List ℕ) → Saves c b us → Saves c b ws
  us-among c b s = among lost (behind_sync 0 ws) 0 ws c b s

  us-agree : SavesAgree us
  us-agree c b d s t = agree c b d (us-among c b s) (us-among c d t)

  firm-saved : (c : Cid) (b : List ℕ) → get (firm ws) c ≡ Some b → Saves c b us
  firm-saved c b e = by (firm-of ws 0 empty empty c b e)
    where
      later : (get (held_by []) c ≡ Some b) ⊎ Before c b (behind_sync 0 ws) 0 ws → Saves c b us
      later (inl held) = absurd (none-held c b held)
      later (inr s) = stays lost (behind_sync 0 ws) 0 ws c b s

      by : IsFirmBy c b (behind_sync 0 ws) 0 (held_by []) (held_by []) ws → Saves c b us
      by (inl held) = absurd (none-held c b held)
      by (inr s) = later s.1

  held-is : held_by (us ++ Synced ∷ []) ≡ held_by us
  held-is = fold-append held_after empty us (Synced ∷ [])

  pub opened : IsReopened ws (written (after_stop lost ws))
  opened = record {
    outcome = record {
      notes_are = fold-append notes_after no_notes us (Synced ∷ []) ∙ same-notes lost (behind_sync 0 ws) 0 ws no_notes;
      part = subst (λ (h : HeldMap). IsPart h (held_by ws)) (sym held-is) (λ c b e. saved-held ws agree c b (us-among c b (from-none us c b e)));
      firm_stays = subst (λ (h : HeldMap). IsPart (firm ws) h) (sym held-is) (λ c b e. saved-held us us-agree c b (firm-saved c b e));
    };
    plain = record { held = refl; notes = refl };
    kept = synced-firm us ∙ sym held-is;
  }
