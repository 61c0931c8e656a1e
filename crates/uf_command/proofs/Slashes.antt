-- Slashes in front of a text.
use Rattle.std.proofs.Common.{◌≡◌, ◌⊎◌, inl, inr, ℕ, ◌<◌, ◌+◌, ◌≤◌, List, length, true, false, arith, sym, ap, subst, get_or}
use Rattle.std.proofs.Math.Nat.{eq-or-lt_of_le}
use Rattle.std.specs.Prelude.{not}
use Rattle.std.proofs.lemmas.List.Sums.{position_or_len_is}
use Rattle.uf_path.specs.Paths.{is_slash}
use Rattle.uf_command.specs.Cids.{slashes_before}

-- the first n bytes are slashes
abbrev pub AreSlashes : ℕ → List ℕ → Type 0
AreSlashes count text = (k : ℕ) → k < count → is_slash (get_or text k 0) ≡ true

pub none-yet : (text : List ℕ) → AreSlashes 0 text
none-yet text = λ k below. absurd (omega (arith, below))

pub one-more : (text : List ℕ) (count : ℕ) → AreSlashes count text → is_slash (get_or text count 0) ≡ true → AreSlashes (count + 1) text
one-more text count so_far last = λ k below. by k (eq-or-lt_of_le (omega (arith, below)))
  where
    by : (k : ℕ) → (k ≡ count) ⊎ (k < count) → is_slash (get_or text k 0) ≡ true
    by k (inl e) = subst (λ (i : ℕ). is_slash (get_or text i 0) ≡ true) (sym e) last
    by k (inr less) = so_far k less

-- they are all, where no slash follows
pub all-counted : (text : List ℕ) (count : ℕ) → count ≤ length text → AreSlashes count text → (count < length text → is_slash (get_or text count 0) ≡ false) → count ≡ slashes_before text
all-counted text count few so_far last =
    sym (position_or_len_is (λ b. not (is_slash b)) text count 0 few (λ k below. ap not (so_far k below)) (λ below. ap not (last below)))
