-- What a stop leaves of a list of writes, one write after another.
use Rattle.std.proofs.Common.{◌≡◌, ℕ, suc, ◌+◌, ◌<◌, List, [], ◌∷◌, ◌++◌, Bool, true, false, cond, length, take, refl, sym, ap, ◌∙◌, arith, append-nil, add-one, get_or, ◌≤◌}
use Rattle.std.specs.Prelude.{max}
use Rattle.std.proofs.lemmas.List.{length-take-le}
use Rattle.std.proofs.Math.Seq.{take-length, take-suc}
use Rattle.std.specs.FinMap.{empty}
use Rattle.uf_store.specs.declared.store.Write.{Write}
use Rattle.uf_store.specs.declared.store.Write.TheVariants.{Saved, Synced, Noted}
use Rattle.uf_store.specs.Contents.{held_after, no_notes, notes_after}
use Rattle.uf_store.specs.Stops.{after_stop, behind_sync, behind_with, survives, survivors, with_write, written}
use Rattle.uf_store.proofs.Writing.{fold-append}

not_past : (n : ℕ) (ws : List Write) → behind_sync n ws < n + length ws + 1
not_past n [] = omega arith
not_past n (Saved cid bytes ∷ ws) = let h = not_past (n + 1) ws in omega (arith, h)
not_past n (Synced ∷ ws) = let h = not_past (n + 1) ws in omega (arith, h)
not_past n (Noted which text ∷ ws) = let h = not_past (n + 1) ws in omega (arith, h)

pub behind-more : (n : ℕ) (ws : List Write) (w : Write) → behind_sync n (ws ++ w ∷ []) ≡ behind_with (behind_sync n ws) (n + length ws) w
behind-more n [] (Saved cid bytes) = refl
behind-more n [] Synced = omega arith
behind-more n [] (Noted which text) = refl
behind-more n (Saved cid bytes ∷ ws) w = behind-more (n + 1) ws w ∙ ap (λ k. behind_with (behind_sync (n + 1) ws) k w) (let e : n + 1 + length ws ≡ n + suc (length ws) = omega arith in e)
behind-more n (Noted which text ∷ ws) w = behind-more (n + 1) ws w ∙ ap (λ k. behind_with (behind_sync (n + 1) ws) k w) (let e : n + 1 + length ws ≡ n + suc (length ws) = omega arith in e)
behind-more n (Synced ∷ ws) w = ap (max (n + 1)) (behind-more (n + 1) ws w) ∙ by w
  where
    by : (w : Write) → max (n + 1) (behind_with (behind_sync (n + 1) ws) (n + 1 + length ws) w) ≡ behind_with (max (n + 1) (behind_sync (n + 1) ws)) (n + suc (length ws)) w
    by (Saved cid bytes) = refl
    by Synced = let h = not_past (n + 1) ws in omega (arith, h)
    by (Noted which text) = refl

-- one write more, where it survives
abbrev pub more : List ℕ → ℕ → ℕ → Write → List Write
more lost firm place w = cond (survives lost firm place w) (w ∷ []) []

module _ (lost : List ℕ) (firm : ℕ) where
  next : (n : ℕ) (v w : Write) (ws later : List Write) (b : Bool) → later ≡ survivors lost firm (n + 1) ws ++ more lost firm (n + suc (length ws)) w
      → cond b (v ∷ later) later ≡ cond b (v ∷ survivors lost firm (n + 1) ws) (survivors lost firm (n + 1) ws) ++ more lost firm (n + suc (length ws)) w
  next n v w ws later true is = ap (λ (l : List Write). v ∷ l) is
  next n v w ws later false is = is

  pub survivors-more : (n : ℕ) (ws : List Write) (w : Write) → survivors lost firm n (ws ++ w ∷ []) ≡ survivors lost firm n ws ++ more lost firm (n + length ws) w
  survivors-more n [] w = ap (λ k. more lost firm k w) (let e : n ≡ n + 0 = omega arith in e)
  survivors-more n (v ∷ ws) w =
      next n v w ws (survivors lost firm (n + 1) (ws ++ w ∷ [])) (survives lost firm n v)
      (survivors-more (n + 1) ws w ∙ ap (λ k. survivors lost firm (n + 1) ws ++ more lost firm k w) (let e : n + 1 + length ws ≡ n + suc (length ws) = omega arith in e))

-- writing one more after others
pub written-more : (ws : List Write) (w : Write) → written (ws ++ w ∷ []) ≡ with_write w (written ws)
written-more ws w = λ i. record { held = fold-append held_after empty ws (w ∷ []) i; notes = fold-append notes_after no_notes ws (w ∷ []) i; writes = ws ++ w ∷ [] }

-- ---- the writes up to a place

module _ (ws : List Write) (place : ℕ) (w : Write) (inside : place < length ws) (there : w ≡ get_or ws place w) where
  one-more : take (place + 1) ws ≡ take place ws ++ w ∷ []
  one-more = ap (λ n. take n ws) (add-one place) ∙ take-suc ws place w inside ∙ ap (λ (v : Write). take place ws ++ v ∷ []) (sym there)

  as-long : 0 + length (take place ws) ≡ place
  as-long = let e : length (take place ws) ≡ place = length-take-le place ws (let le : place ≤ length ws = omega (arith, inside) in le) in omega (arith, e)

  pub behind-next : behind_sync 0 (take (place + 1) ws) ≡ behind_with (behind_sync 0 (take place ws)) place w
  behind-next = ap (behind_sync 0) one-more ∙ behind-more 0 (take place ws) w ∙ ap (λ k. behind_with (behind_sync 0 (take place ws)) k w) as-long

  module _ (lost : List ℕ) (firm : ℕ) where
    next-survivors : survivors lost firm 0 (take (place + 1) ws) ≡ survivors lost firm 0 (take place ws) ++ more lost firm place w
    next-survivors = ap (survivors lost firm 0) one-more ∙ survivors-more lost firm 0 (take place ws) w ∙ ap (λ k. survivors lost firm 0 (take place ws) ++ more lost firm k w) as-long

    -- a write that survives is made again
    pub survivors-then : survives lost firm place w ≡ true → with_write w (written (survivors lost firm 0 (take place ws))) ≡ written (survivors lost firm 0 (take (place + 1) ws))
    survivors-then is =
        sym (written-more (survivors lost firm 0 (take place ws)) w)
        ∙ ap written (ap (λ b. survivors lost firm 0 (take place ws) ++ cond b (w ∷ []) []) (sym is) ∙ sym next-survivors)

    -- another one isn't
    pub survivors-else : survives lost firm place w ≡ false → written (survivors lost firm 0 (take place ws)) ≡ written (survivors lost firm 0 (take (place + 1) ws))
    survivors-else is =
        ap written (sym (append-nil (survivors lost firm 0 (take place ws))) ∙ ap (λ b. survivors lost firm 0 (take place ws) ++ cond b (w ∷ []) []) (sym is) ∙ sym next-survivors)

-- all writes up to a place that is behind them
pub take-whole : (ws : List Write) (place : ℕ) → place ≤ length ws → length ws ≤ place → take place ws ≡ ws
take-whole ws place le ge = ap (λ n. take n ws) (let e : place ≡ length ws = omega (arith, le, ge) in e) ∙ take-length ws

-- the surviving writes of all, and one sync
pub stopped : (lost : List ℕ) (firm place : ℕ) (ws vs : List Write) → place ≤ length ws → length ws ≤ place → ws ≡ vs → firm ≡ behind_sync 0 ws
    → with_write Synced (written (survivors lost firm 0 (take place ws))) ≡ written (after_stop lost vs)
stopped lost firm place ws vs le ge same is =
    sym (written-more (survivors lost firm 0 (take place ws)) Synced)
    ∙ ap (λ l. written (survivors lost firm 0 l ++ Synced ∷ [])) (take-whole ws place le ge)
    ∙ ap (λ k. written (survivors lost k 0 ws ++ Synced ∷ [])) is
    ∙ ap (λ l. written (after_stop lost l)) same
