-- Slashes at the end of a path.
use Rattle.std.proofs.Common.{◌≡◌, ◌≢◌, ℕ, zero, suc, ◌+◌, ◌-◌, ◌<◌, ◌≤◌, List, length, take, Bool, true, false, ◌&&◌, ◌==◌, nat_lt, cond, refl, ap, sym, ◌∙◌, arith, drop, get_or, get_or-drop, length-drop, inl, inr, ◌⊎◌}
use Rattle.std.proofs.lemmas.Bool.{cases_lt}
use Rattle.std.proofs.lemmas.Bool.Decides.{nat_tests}
use Rattle.std.proofs.lemmas.Str.{len_utf8_ascii}
use Rattle.std.proofs.lemmas.Str.Pattern.{NoCharPasses-char}
use Rattle.std.specs.Prelude.{Some, None, Option, slice_index}
use Rattle.std.specs.Option.{option_map}
use Rattle.std.specs.Str.{NoCharPasses}
use Rattle.std.specs.Str.Pattern.{HasCharAt}
use Rattle.std.specs.Path.{rfind_below, rsplit_once}
use Rattle.uf_edge.specs.Host.{root}
use Rattle.uf_host.specs.Paths.{behind_slash, first_row, kept_length, trimmed}

positive : (n : ℕ) → 0 < n → nat_lt 0 n ≡ true
positive n h = grind (arith, nat_tests)

pub other : (n : ℕ) → n ≢ 47 → (n == 47) ≡ false
other n h = grind (arith, nat_tests)

and-false : (b : Bool) → b && false ≡ false
and-false true = refl
and-false false = refl

-- a slash behind the first byte is taken off
pub kept-slash : (path : List ℕ) (end : ℕ) → 1 < end → slice_index path (end - 1) ≡ 47 → kept_length path end ≡ kept_length path (end - 1)
kept-slash path end more is = by (end - 1) (omega arith) (omega arith) is
  where
    by : (n : ℕ) → end ≡ suc n → 0 < n → slice_index path n ≡ 47 → kept_length path end ≡ kept_length path n
    by n e some is =
        ap (kept_length path) e
        ∙ ap (λ (b : Bool). cond b (kept_length path n) (suc n)) (ap (λ (b : Bool). b && (slice_index path n == 47)) (positive n some) ∙ ap (λ (m : ℕ). m == 47) is)

-- another byte stays
pub kept-other : (path : List ℕ) (end : ℕ) → 1 < end → slice_index path (end - 1) ≢ 47 → kept_length path end ≡ end
kept-other path end more differs = by (end - 1) (omega arith) differs
  where
    by : (n : ℕ) → end ≡ suc n → slice_index path n ≢ 47 → kept_length path end ≡ end
    by n e differs =
        ap (kept_length path) e
        ∙ ap (λ (b : Bool). cond b (kept_length path n) (suc n)) (ap (λ (b : Bool). nat_lt 0 n && b) (other (slice_index path n) differs) ∙ and-false (nat_lt 0 n))
        ∙ sym e

-- and so does the first
pub kept-first : (path : List ℕ) (end : ℕ) → end ≤ 1 → kept_length path end ≡ end
kept-first path zero h = refl
kept-first path (suc zero) h = refl
kept-first path (suc (suc n)) h = absurd (omega arith)

-- ---- the last name

pub split-none : (text : List ℕ) (n : ℕ) → ((i : ℕ) → i < n → slice_index text i ≢ 47) → rfind_below 47 text n ≡ None
split-none text zero h = refl
split-none text (suc n) h =
    ap (λ (b : Bool). cond b (Some n) (rfind_below 47 text n)) (other (slice_index text n) (h n (omega arith)))
    ∙ split-none text n (λ i low. h i (omega arith))

pub split-some : (text : List ℕ) (k n : ℕ) → k < n → slice_index text k ≡ 47 → ((i : ℕ) → k < i → i < n → slice_index text i ≢ 47) → rfind_below 47 text n ≡ Some k
split-some text k zero less is h = absurd (omega arith)
split-some text k (suc n) less is h = by (cases_lt k n) (λ low. split-some text k n low is (λ i more fits. h i more (omega arith)))
  where
    by : (k < n) ⊎ (n ≤ k) → (k < n → rfind_below 47 text n ≡ Some k) → rfind_below 47 text (suc n) ≡ Some k
    by (inl low) more = ap (λ (b : Bool). cond b (Some n) (rfind_below 47 text n)) (other (slice_index text n) (h n low (omega arith))) ∙ more low
    by (inr high) more =
        let same : k ≡ n = omega arith in
        ap (λ (b : Bool). cond b (Some n) (rfind_below 47 text n)) (ap (λ (m : ℕ). m == 47) (ap (slice_index text) (sym same) ∙ is)) ∙ ap (λ (m : ℕ). Some m) (sym same)

pub none-behind : (text : List ℕ) → NoCharPasses (λ d. d == 47) text → text ≡ behind_slash text (rsplit_once 47 text)
unfolding rsplit_once
none-behind text none =
    sym (ap (λ (o : Option ℕ). behind_slash text (option_map (λ i. (take i text, drop (i + 1) text)) o))
    (split-none text (length text) (λ i low. NoCharPasses-char 47 text i none (omega arith) low)))

pub some-behind : (text last : List ℕ) (i j : ℕ) → NoCharPasses (λ d. d == 47) (drop j text) → HasCharAt 47 text i j → last ≡ drop j text → length last + j ≡ length text
    → last ≡ behind_slash text (rsplit_once 47 text)
unfolding rsplit_once
some-behind text last i j none at is all =
    let next : j ≡ i + 1 = omega (arith, at.ends, len_utf8_ascii 47 (omega arith)) in
    let later : (k : ℕ) → i < k → k < length text → slice_index text k ≢ 47 = λ k more low.
    let back : j + (k - j) ≡ k = omega arith in
    λ e. NoCharPasses-char 47 (drop j text) (k - j) none (omega arith) (omega (arith, length-drop j text)) (get_or-drop j text (k - j) 0 ∙ ap (λ (n : ℕ). get_or text n 0) back ∙ e) in
    let found = split-some text i (length text) (omega arith) (at.byte (omega arith)) later in
    is ∙ ap (λ (n : ℕ). drop n text) next
    ∙ sym (ap (λ (o : Option ℕ). behind_slash text (option_map (λ i. (take i text, drop (i + 1) text)) o)) found)

pub trimmed-is : (path : List ℕ) (end : ℕ) → kept_length path (length path) ≡ end → take end path ≡ trimmed path
unfolding trimmed
trimmed-is path end is = ap (λ n. take n path) (sym is)

pub first-none : (path last : List ℕ) (empty : Bool) → last ≡ behind_slash path (rsplit_once 47 path) → empty ≡ (length last == 0) → empty ≡ true → root ≡ first_row path
unfolding first_row
first-none path last empty is test none =
    let same : (length (behind_slash path (rsplit_once 47 path)) == 0) ≡ true = ap (λ (l : List ℕ). length l == 0) (sym is) ∙ sym test ∙ none in
    sym (ap (λ (b : Bool). cond b root (behind_slash path (rsplit_once 47 path))) same)

pub first-some : (path last : List ℕ) (empty : Bool) → last ≡ behind_slash path (rsplit_once 47 path) → empty ≡ (length last == 0) → empty ≡ false → last ≡ first_row path
unfolding first_row
first-some path last empty is test some =
    let same : (length (behind_slash path (rsplit_once 47 path)) == 0) ≡ false = ap (λ (l : List ℕ). length l == 0) (sym is) ∙ sym test ∙ some in
    is ∙ sym (ap (λ (b : Bool). cond b root (behind_slash path (rsplit_once 47 path))) same)
