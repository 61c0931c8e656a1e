-- The names of generated files are in the order of their numbers.
use Rattle.std.proofs.Common.{◌≡◌, ℕ, zero, suc, ◌+◌, ◌/◌, ◌%◌, ◌^◌, ◌<◌, ◌≤◌, List, [], ◌∷◌, ◌++◌, refl, ap, sym, ◌∙◌, ◌⊎◌, inl, inr, arith}
use Rattle.std.specs.declared.cmp.Ordering.{Ordering}
use Rattle.std.specs.declared.cmp.Ordering.TheVariants.{Less, Equal, Greater}
use Rattle.std.specs.Cmp.{nat_cmp_is, tied_itself}
use Rattle.std.specs.Cmp.Lexicographic.{slice_cmp}
use Rattle.std.specs.Ordering.{nat_cmp, ordering_then}
use Rattle.std.specs.Prelude.{length}
use Rattle.std.proofs.lemmas.Bool.{cases_lt}
use Rattle.std.proofs.lemmas.Cmp.{nat_list_cmp_total}
use Rattle.std.proofs.lemmas.List.{length-append}
use Rattle.std.proofs.lemmas.Nat.{div-add-mod', mod_below}
use Rattle.std.proofs.Math.Nat.{pow-suc}
use Rattle.uf_tree.specs.Names.{names_cmp}
use Rattle.uf_gen.specs.Rules.{digits, file_name}

then-then : (r s t : Ordering) → ordering_then r (ordering_then s t) ≡ ordering_then (ordering_then r s) t
then-then Less s t = refl
then-then Equal s t = refl
then-then Greater s t = refl

-- what comes behind decides where the lists in front of it are as long and equal, and else they do
cmp-append : (xs ys a b : List ℕ) → length xs ≡ length ys
    → slice_cmp nat_cmp (xs ++ a) (ys ++ b) ≡ ordering_then (slice_cmp nat_cmp xs ys) (slice_cmp nat_cmp a b)
cmp-append [] [] a b e = refl
cmp-append [] (y ∷ ys) a b e = absurd (omega (arith, e))
cmp-append (x ∷ xs) [] a b e = absurd (omega (arith, e))
cmp-append (x ∷ xs) (y ∷ ys) a b e =
    ap (ordering_then (nat_cmp x y)) (cmp-append xs ys a b (omega (arith, e))) ∙ then-then (nat_cmp x y) _ _

length-digits : (count i : ℕ) → length (digits count i) ≡ count
unfolding digits
length-digits zero i = refl
length-digits (suc count) i = length-append (digits count (i / 10)) _ ∙ omega (arith, length-digits count (i / 10))

less-is : (x y : ℕ) → x < y → nat_cmp x y ≡ Less
less-is x y lt = sym (nat_cmp_is x y Less lt)

digits-less : (count i k : ℕ) → i < k → k < 10 ^ count → slice_cmp nat_cmp (digits count i) (digits count k) ≡ Less
unfolding digits
digits-less zero i k lt le = absurd (omega arith)
digits-less (suc count) i k lt le =
    cmp-append (digits count (i / 10)) (digits count (k / 10)) _ _ (length-digits count (i / 10) ∙ sym (length-digits count (k / 10)))
    ∙ by (digits-less count (i / 10) (k / 10)) (cases_lt (i / 10) (k / 10))
  where
    last : ℕ → List ℕ
    last n = (48 + n % 10) ∷ []

    by : (i / 10 < k / 10 → k / 10 < 10 ^ count → slice_cmp nat_cmp (digits count (i / 10)) (digits count (k / 10)) ≡ Less)
        → (i / 10 < k / 10) ⊎ (k / 10 ≤ i / 10)
        → ordering_then (slice_cmp nat_cmp (digits count (i / 10)) (digits count (k / 10))) (slice_cmp nat_cmp (last i) (last k)) ≡ Less
    by rec (inl less) = ap (λ r. ordering_then r (slice_cmp nat_cmp (last i) (last k)))
        (rec less (omega (arith, pow-suc 10 count, div-add-mod' k 10)))
    by rec (inr more) =
        let same : i / 10 ≡ k / 10 = omega (arith, div-add-mod' i 10, div-add-mod' k 10, mod_below i 10 (omega arith), mod_below k 10 (omega arith)) in
        let least : i % 10 < k % 10 = omega (arith, div-add-mod' i 10, div-add-mod' k 10) in
        ap (λ n. ordering_then (slice_cmp nat_cmp (digits count (i / 10)) (digits count n)) (slice_cmp nat_cmp (last i) (last k))) (sym same)
        ∙ ap (λ r. ordering_then r (slice_cmp nat_cmp (last i) (last k))) (tied_itself (nat_list_cmp_total) (digits count (i / 10)))
        ∙ ap (λ r. ordering_then r Equal) (less-is (48 + i % 10) (48 + k % 10) (omega arith))

pub names-less : (i k : ℕ) → i < k → k < 10 ^ 8 → names_cmp (file_name i) (file_name k) ≡ Less
names-less i k lt le = digits-less 8 i k lt le
