-- What it means that a CID was met.
use Rattle.std.proofs.Common.{◌≡◌, ℕ, List, [], ◌∷◌, ◌||◌, Bool, true, false, refl, sym, ap, ◌∙◌, arith, Contains, ◌⊎◌, inl, inr, true≢false}
use Rattle.std.specs.Cmp.{IsTotalOrder, eq_by_cmp_equiv}
use Rattle.std.specs.Cmp.Lexicographic.{on_texts}
use Rattle.std.specs.FinMap.{slice_cmp-IsAntisymmetric, nat_cmp-IsAntisymmetric}
use Rattle.std.specs.Ordering.{eq_by_cmp, is_eq}
use Rattle.std.specs.declared.cmp.Ordering.{Ordering}
use Rattle.std.specs.declared.cmp.Ordering.TheVariants.{Less, Equal, Greater}
use Rattle.std.proofs.lemmas.List.Elements.{Contains-append_cases, Contains-push_cases}
use Rattle.uf_cid.specs.declared.cid.Codec.{Codec}
use Rattle.uf_cid.specs.declared.cid.Codec.TheVariants.{Raw, DagPb}
use Rattle.uf_cid.specs.declared.cid.Cid.{Cid}
use Rattle.uf_cid.specs.Cid.{cid_bytes, cid_cmp, codec_byte}
use Rattle.indexmap.proofs.CallerLemmas.{Contains-list_any}
use Rattle.uf_walk.specs.Order.{is_met}

cid_cmp_total : IsTotalOrder cid_cmp
cid_cmp_total = on_texts cid_bytes

same_codec : (x y : Codec) → codec_byte x ≡ codec_byte y → x ≡ y
same_codec Raw Raw e = refl
same_codec Raw DagPb e = absurd (omega arith)
same_codec DagPb Raw e = absurd (omega arith)
same_codec DagPb DagPb e = refl

same_cid : (x y : Codec) (d e : List ℕ) → cid_bytes (record { codec = x; digest = d }) ≡ cid_bytes (record { codec = y; digest = e }) → ◌≡◌ {A = Cid} (record { codec = x; digest = d }) (record { codec = y; digest = e })
same_cid x y d e is =
    let codec : codec_byte x ≡ codec_byte y = cc in
    let digest : d ≡ e = cc in
    let c : x ≡ y = same_codec x y codec in
    λ i. record { codec = c i; digest = digest i }

equal_of : (r : Ordering) → is_eq r ≡ true → r ≡ Equal
equal_of Less e = cc
equal_of Equal e = refl
equal_of Greater e = cc

-- CIDs that tie are one
pub ties : (a b : Cid) → eq_by_cmp cid_cmp a b ≡ true → a ≡ b
ties a b e = same_cid a.codec b.codec a.digest b.digest (slice_cmp-IsAntisymmetric nat_cmp-IsAntisymmetric (cid_bytes a) (cid_bytes b) (equal_of (cid_cmp a b) e))

itself : (c : Cid) → eq_by_cmp cid_cmp c c ≡ true
itself c = (eq_by_cmp_equiv cid_cmp_total).refl c

-- a CID that was met is among those that were
pub among : (met : List Cid) (c : Cid) → is_met met c ≡ true → Contains met c
among met c e = Contains-list_any (eq_by_cmp cid_cmp) ties met c e

either_false : (a b : Bool) → (a || b) ≡ false → (a ≡ false) × (b ≡ false)
either_false true b e = absurd (true≢false e)
either_false false b e = (refl, e)

-- one that wasn't met is none of them
pub not_among : (met : List Cid) (c : Cid) → is_met met c ≡ false → Contains met c → ⊥
not_among [] c e h = let k : ℕ = h.0 in omega (arith, h.1)
not_among (x ∷ met) c e h = by (Contains-append_cases (x ∷ []) met c h) (not_among met c (either_false (eq_by_cmp cid_cmp c x) (is_met met c) e).1)
  where
    first : (x ≡ c) → ⊥
    first is = true≢false (sym (itself c) ∙ ap (eq_by_cmp cid_cmp c) (sym is) ∙ (either_false (eq_by_cmp cid_cmp c x) (is_met met c) e).0)

    by : Contains (x ∷ []) c ⊎ Contains met c → (Contains met c → ⊥) → ⊥
    by (inl one) rest = here (Contains-push_cases [] x c one)
      where
        here : Contains [] c ⊎ (x ≡ c) → ⊥
        here (inl none) = omega (arith, none.1)
        here (inr is) = first is
    by (inr later) rest = rest later
