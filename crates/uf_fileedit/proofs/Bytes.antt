-- Bytes changed, and cut into groups.
use Rattle.std.proofs.Common.{◌≡◌, ℕ, zero, suc, ◌+◌, ◌-◌, ◌<◌, ◌≤◌, List, [], ◌∷◌, ◌++◌, length, take, drop, replicate, get_or, min, max, refl, ap, arith, sym, ◌∙◌, subst, append-nil, ◌⊎◌, inl, inr}
use Rattle.std.proofs.lemmas.List.{take_all, drop_all, take_at, drop_at, take-replicate, drop-replicate}
use Rattle.std.proofs.lemmas.Bool.{cases_lt}
use Rattle.uf_fileread.proofs.Cutting.{take_two, drop_two}
use Rattle.uf_tree.specs.Cutting.{joined}
use Rattle.uf_tree.specs.FilePlan.{groups}
use Rattle.uf_tree.proofs.Behind.{groups-behind, split-short}
use Rattle.uf_fileedit.specs.Changes.{AreCut, overlaid, first, rest}
use Rattle.uf_fileedit.specs.Edits.{cut_to, laid}

take_nil : (n : ℕ) → take {A = ℕ} n [] ≡ []
take_nil zero = refl
take_nil (suc n) = refl

drop_nil : (n : ℕ) → drop {A = ℕ} n [] ≡ []
drop_nil zero = refl
drop_nil (suc n) = refl

first_take : (n : ℕ) (b : List ℕ) → first (take (suc n) b) ≡ first b
first_take n [] = refl
first_take n (y ∷ b) = refl

rest_take : (n : ℕ) (b : List ℕ) → rest (take (suc n) b) ≡ take n (rest b)
rest_take n [] = sym (take_nil n)
rest_take n (y ∷ b) = refl

drop_rest : (n : ℕ) (b : List ℕ) → drop (suc n) b ≡ drop n (rest b)
drop_rest n [] = sym (drop_nil n)
drop_rest n (y ∷ b) = refl

pub length-changed : (n : ℕ) (b : List ℕ) (o : ℕ) (x : List ℕ) → length (overlaid n b o x) ≡ n
length-changed zero b o x = refl
length-changed (suc n) b zero [] = ap suc (length-changed n (rest b) zero [])
length-changed (suc n) b zero (z ∷ x) = ap suc (length-changed n (rest b) zero x)
length-changed (suc n) b (suc o) x = ap suc (length-changed n (rest b) o x)

-- without a piece its place doesn't matter
pub changed-nothing : (n : ℕ) (b : List ℕ) (o : ℕ) → overlaid n b o [] ≡ overlaid n b zero []
changed-nothing zero b o = refl
changed-nothing (suc n) b zero = refl
changed-nothing (suc n) b (suc o) = ap (λ l. first b ∷ l) (changed-nothing n (rest b) o)

-- bytes behind the end don't matter
pub changed-take : (n s : ℕ) (b : List ℕ) (o : ℕ) (x : List ℕ) → n ≤ s → overlaid n (take s b) o x ≡ overlaid n b o x
changed-take zero s b o x h = refl
changed-take (suc n) zero b o x h = absurd (omega arith)
changed-take (suc n) (suc s) b zero [] h = let f = first_take s b in let r = ap (λ l. overlaid n l zero []) (rest_take s b) ∙ changed-take n s (rest b) zero [] (omega arith) in λ i. f i ∷ r i
changed-take (suc n) (suc s) b zero (z ∷ x) h = ap (λ l. z ∷ l) (ap (λ l. overlaid n l zero x) (rest_take s b) ∙ changed-take n s (rest b) zero x (omega arith))
changed-take (suc n) (suc s) b (suc o) x h = let f = first_take s b in let r = ap (λ l. overlaid n l o x) (rest_take s b) ∙ changed-take n s (rest b) o x (omega arith) in λ i. f i ∷ r i

-- bytes changed in two parts
changed-parts : (s m t d e : ℕ) (b : List ℕ) (o : ℕ) (x : List ℕ) → t ≡ s + m → d ≡ s - o → e ≡ o - s → overlaid t b o x ≡ overlaid s (take s b) o (take d x) ++ overlaid m (drop s b) e (drop d x)
changed-parts zero m t zero e b o x p q r = let k : t ≡ m = omega arith in let j : o ≡ e = omega arith in ap (λ n. overlaid n b o x) k ∙ ap (λ n. overlaid m b n x) j
changed-parts zero m t (suc d) e b o x p q r = absurd (omega arith)
changed-parts (suc s) m zero d e b o x p q r = absurd (omega arith)
changed-parts (suc s) m (suc t) zero e b zero x p q r = absurd (omega arith)
changed-parts (suc s) m (suc t) (suc d) e b zero [] p q r =
    let later = changed-parts s m t d e (rest b) zero [] (omega arith) (omega arith) (omega arith) in
    let here : overlaid t (rest b) zero [] ≡ overlaid s (take s (rest b)) zero [] ++ overlaid m (drop s (rest b)) e []
    = later ∙ ap (λ l. overlaid s (take s (rest b)) zero l ++ overlaid m (drop s (rest b)) e (drop d [])) (take_nil d) ∙ ap (λ l. overlaid s (take s (rest b)) zero [] ++ overlaid m (drop s (rest b)) e l) (drop_nil d) in
    let f = sym (first_take s b) in
    let a = ap (λ l. overlaid s l zero []) (sym (rest_take s b)) in
    let c = ap (λ l. overlaid m l e []) (sym (drop_rest s b)) in
    ap (λ l. first b ∷ l) here ∙ (λ i. f i ∷ (a i ++ c i))
changed-parts (suc s) m (suc t) (suc d) e b zero (z ∷ x) p q r =
    let here = changed-parts s m t d e (rest b) zero x (omega arith) (omega arith) (omega arith) in
    let a = ap (λ l. overlaid s l zero (take d x)) (sym (rest_take s b)) in
    let c = ap (λ l. overlaid m l e (drop d x)) (sym (drop_rest s b)) in
    ap (λ l. z ∷ l) here ∙ (λ i. z ∷ (a i ++ c i))
changed-parts (suc s) m (suc t) d e b (suc o) x p q r =
    let here = changed-parts s m t d e (rest b) o x (omega arith) (omega arith) (omega arith) in
    let f = sym (first_take s b) in
    let a = ap (λ l. overlaid s l o (take d x)) (sym (rest_take s b)) in
    let c = ap (λ l. overlaid m l e (drop d x)) (sym (drop_rest s b)) in
    ap (λ l. first b ∷ l) here ∙ (λ i. f i ∷ (a i ++ c i))

pub changed-two : (s t : ℕ) (b : List ℕ) (o : ℕ) (x : List ℕ) → s ≤ t → overlaid t b o x ≡ overlaid s (take s b) o (take (s - o) x) ++ overlaid (t - s) (drop s b) (o - s) (drop (s - o) x)
changed-two s t b o x h = changed-parts s (t - s) t (s - o) (o - s) b o x (omega arith) refl refl

-- ---- as the standard words say it

filled : (n : ℕ) (b : List ℕ) → overlaid n b zero [] ≡ cut_to b n
filled zero b = ap (λ k. replicate k 0) (let e : 0 ≡ 0 - length b = omega arith in e)
filled (suc n) [] = ap (λ l. 0 ∷ l) (filled n [] ∙ ap (λ l. l ++ replicate (n - 0) 0) (take_nil n)) ∙ ap (λ k. replicate k 0) (let e : suc (n - 0) ≡ suc n - 0 = omega arith in e)
filled (suc n) (y ∷ b) = ap (λ l. y ∷ l) (filled n b) ∙ ap (λ k. y ∷ (take n b ++ replicate k 0)) (let e : n - length b ≡ suc n - suc (length b) = omega arith in e)

over : (n e : ℕ) (b : List ℕ) (o : ℕ) (x : List ℕ) → e ≡ o + length x → e ≤ n → overlaid n b o x ≡ take o (overlaid n b zero []) ++ x ++ drop e (overlaid n b zero [])
over zero zero b zero [] h k = refl
over zero zero b zero (z ∷ x) h k = absurd (omega arith)
over zero zero b (suc o) x h k = absurd (omega arith)
over zero (suc e) b o x h k = absurd (omega arith)
over (suc n) zero b zero [] h k = refl
over (suc n) zero b zero (z ∷ x) h k = absurd (omega arith)
over (suc n) zero b (suc o) x h k = absurd (omega arith)
over (suc n) (suc e) b zero [] h k = absurd (omega arith)
over (suc n) (suc e) b zero (z ∷ x) h k = ap (λ l. z ∷ l) (over n e (rest b) zero x (omega arith) (omega arith))
over (suc n) (suc e) b (suc o) x h k = ap (λ l. first b ∷ l) (over n e (rest b) o x (omega arith) (omega arith))

pub changed-cut : (n : ℕ) (b : List ℕ) (o : ℕ) → overlaid n b o [] ≡ cut_to b n
changed-cut n b o = changed-nothing n b o ∙ filled n b

-- with the bytes of b, filled up, and a piece laid over them
pub changed-over : (n : ℕ) (b : List ℕ) (o : ℕ) (x : List ℕ) → o + length x ≤ n → overlaid n b o x ≡ take o (cut_to b n) ++ x ++ drop (o + length x) (cut_to b n)
changed-over n b o x h = over n (o + length x) b o x refl h ∙ ap (λ f. take o f ++ x ++ drop (o + length x) f) (filled n b)

pub changed-same : (b : List ℕ) (o : ℕ) → overlaid (length b) b o [] ≡ b
changed-same b o = changed-cut (length b) b o ∙ ap (λ l. l ++ replicate (length b - length b) 0) (take_all (length b) b (omega arith)) ∙ ap (λ k. b ++ replicate k 0) (let e : length b - length b ≡ 0 = omega arith in e) ∙ append-nil b

-- a piece that covers all leaves nothing of the old bytes
pub changed-covered : (n : ℕ) (b c : List ℕ) (o : ℕ) (x : List ℕ) → n ≤ length x → (1 ≤ length x → o + length x ≤ n) → overlaid n b o x ≡ overlaid n c o x
changed-covered zero b c o x h k = refl
changed-covered (suc n) b c zero [] h k = absurd (omega arith)
changed-covered (suc n) b c zero (z ∷ x) h k = ap (λ l. z ∷ l) (changed-covered n (rest b) (rest c) zero x (omega arith) (λ s. let all = k (omega arith) in omega arith))
changed-covered (suc n) b c (suc o) x h k = absurd (let all : suc o + length x ≤ suc n = k (omega arith) in omega arith)

pub changed-laid : (b : List ℕ) (o : ℕ) (x : List ℕ) → 1 ≤ length x → overlaid (max (length b) (o + length x)) b o x ≡ laid b o x
changed-laid b o [] h = absurd (omega arith)
changed-laid b o (z ∷ x) h =
    let m = max (length b) (o + length (z ∷ x)) in
    let whole : cut_to b m ≡ b ++ replicate (m - length b) 0 = ap (λ l. l ++ replicate (m - length b) 0) (take_all m b (omega arith)) in
    let front : take o (cut_to b m) ≡ take o (b ++ replicate (o - length b) 0)
    = ap (take o) whole ∙ take_two o b (replicate (m - length b) 0) ∙ ap (λ l. take o b ++ l) (take-replicate (o - length b) (m - length b) 0 (omega arith) ∙ sym (take-replicate (o - length b) (o - length b) 0 (omega arith)))
    ∙ sym (take_two o b (replicate (o - length b) 0)) in
    let none : (m - length b) - ((o + length (z ∷ x)) - length b) ≡ 0 = omega arith in
    let back : drop (o + length (z ∷ x)) (cut_to b m) ≡ drop (o + length (z ∷ x)) b
    = ap (drop (o + length (z ∷ x))) whole ∙ drop_two (o + length (z ∷ x)) b (replicate (m - length b) 0) ∙ ap (λ l. drop (o + length (z ∷ x)) b ++ l) (drop-replicate ((o + length (z ∷ x)) - length b) (m - length b) 0 ∙ ap (λ k. replicate k 0) none) ∙ append-nil (drop (o + length (z ∷ x)) b) in
    changed-over m b o (z ∷ x) (omega arith) ∙ (λ i. front i ++ (z ∷ x) ++ back i)

-- ---- groups

-- the first of some groups, and the others
pub joined-front : (s : ℕ) (g : List ℕ) (gs : List (List ℕ)) → AreCut s (g ∷ gs) → (take s (g ++ joined gs) ≡ g) × (drop s (g ++ joined gs) ≡ joined gs)
joined-front s g [] h = (ap (take s) (append-nil g) ∙ take_all s g h, ap (drop s) (append-nil g) ∙ drop_all s g h)
joined-front s g (x ∷ gs) h = (take_at g (joined (x ∷ gs)) s h.0, drop_at g (joined (x ∷ gs)) s h.0)

cut-rest : (s : ℕ) (g : List ℕ) (gs : List (List ℕ)) → AreCut s (g ∷ gs) → AreCut s gs
cut-rest s g [] h = tt
cut-rest s g (x ∷ gs) h = h.1

-- at a place, also behind the end
pub at-front : (s i : ℕ) (gs : List (List ℕ)) → AreCut s gs → (take s (joined (drop i gs)) ≡ get_or gs i []) × (drop s (joined (drop i gs)) ≡ joined (drop (i + 1) gs))
at-front s zero [] h = (take_nil s, drop_nil s ∙ ap joined (let e : [] ≡ drop {A = List ℕ} (0 + 1) [] = refl in e))
at-front s (suc i) [] h = (take_nil s, drop_nil s ∙ ap joined (let e : [] ≡ drop {A = List ℕ} (suc i + 1) [] = sym (drop_nothing (suc i + 1)) in e))
  where
    drop_nothing : (n : ℕ) → drop {A = List ℕ} n [] ≡ []
    drop_nothing zero = refl
    drop_nothing (suc n) = refl
at-front s zero (g ∷ gs) h = let f = joined-front s g gs h in (f.0, f.1 ∙ ap joined (let e : gs ≡ drop (0 + 1) (g ∷ gs) = refl in e))
at-front s (suc i) (g ∷ gs) h =
    let f = at-front s i gs (cut-rest s g gs h) in
    (f.0, f.1 ∙ ap joined (ap (λ n. drop n (g ∷ gs)) (let e : suc (i + 1) ≡ suc i + 1 = omega arith in e)))

-- the groups that are left to make
abbrev pub later : ℕ → ℕ → List ℕ → ℕ → List ℕ → List (List ℕ)
later s zero b o x = []
later s (suc n) b o x = groups s (overlaid (suc n) b o x)

pub later-some : (s n : ℕ) (b : List ℕ) (o : ℕ) (x : List ℕ) → 1 ≤ n → later s n b o x ≡ groups s (overlaid n b o x)
later-some s zero b o x h = absurd (omega arith)
later-some s (suc n) b o x h = refl

-- one group, and those behind it
pub later-one : (s n c : ℕ) (b : List ℕ) (o : ℕ) (x : List ℕ) → 1 ≤ s → 1 ≤ n → c ≡ min n s → later s n b o x ≡ overlaid c (take s b) o (take (c - o) x) ∷ later s (n - c) (drop s b) (o - c) (drop (c - o) x)
later-one s n c b o x pos some is = by (cases_lt s n)
  where
    cut : (k : ℕ) → k ≡ c → overlaid n b o x ≡ overlaid k (take k b) o (take (k - o) x) ++ overlaid (n - k) (drop k b) (o - k) (drop (k - o) x)
    cut k e = changed-two k n b o x (omega arith)

    nothing : (m : ℕ) (b : List ℕ) (o : ℕ) (x : List ℕ) → m ≡ 0 → (overlaid m b o x ≡ []) × ((d : List ℕ) (p : ℕ) (y : List ℕ) → later s m d p y ≡ [])
    nothing zero b o x e = (refl, λ d p y. refl)
    nothing (suc m) b o x e = absurd (omega arith)

    by : (s < n) ⊎ (n ≤ s) → later s n b o x ≡ overlaid c (take s b) o (take (c - o) x) ∷ later s (n - c) (drop s b) (o - c) (drop (c - o) x)
    by (inl more) =
        let full : s ≡ c = omega arith in
        let front = overlaid c (take s b) o (take (c - o) x) in
        let behind = overlaid (n - c) (drop s b) (o - c) (drop (c - o) x) in
        let two : overlaid n b o x ≡ front ++ behind = subst (λ k. overlaid n b o x ≡ overlaid c (take k b) o (take (c - o) x) ++ overlaid (n - c) (drop k b) (o - c) (drop (c - o) x)) (sym full) (cut c refl) in
        later-some s n b o x some ∙ ap (groups s) two
        ∙ groups-behind s pos front behind (length-changed c (take s b) o (take (c - o) x) ∙ sym full) (omega (arith, length-changed (n - c) (drop s b) (o - c) (drop (c - o) x)))
        ∙ ap (λ l. front ∷ l) (sym (later-some s (n - c) (drop s b) (o - c) (drop (c - o) x) (omega arith)))
    by (inr few) =
        let last : c ≡ n = omega arith in
        let none = nothing (n - c) (drop c b) (o - c) (drop (c - o) x) (omega arith) in
        let front = overlaid c (take s b) o (take (c - o) x) in
        let one : overlaid n b o x ≡ front
        = cut c refl ∙ ap (λ l. overlaid c (take c b) o (take (c - o) x) ++ l) none.0 ∙ append-nil (overlaid c (take c b) o (take (c - o) x))
        ∙ changed-take c c b o (take (c - o) x) (omega arith) ∙ sym (changed-take c s b o (take (c - o) x) (omega arith)) in
        later-some s n b o x some ∙ ap (groups s) one
        ∙ ap (λ (z : List ℕ × List (List ℕ)). z.0 ∷ z.1) (split-short s s front (omega (arith, length-changed c (take s b) o (take (c - o) x))))
        ∙ ap (λ l. front ∷ l) (sym (none.1 (drop s b) (o - c) (drop (c - o) x)))
