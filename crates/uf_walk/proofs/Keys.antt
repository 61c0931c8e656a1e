-- CIDs as keys: what the set answers is what the list of CIDs says.
use Rattle.std.proofs.Common.{◌≡◌, ℕ, List, [], ◌∷◌, ◌++◌, ◌||◌, Bool, false, map, refl, sym, ap, ◌∙◌, if◌then◌else◌}
use Rattle.std.proofs.lemmas.List.{map-append}
use Rattle.indexmap.specs.IndexSet.{insert_key}
use Rattle.std.specs.List.{list_any}
use Rattle.std.specs.Cmp.{unsigned_tied}
use Rattle.std.specs.Cmp.Lexicographic.{lists_ties}
use Rattle.std.specs.Ordering.{eq_by_cmp, nat_cmp}
use Rattle.uf_cid.specs.declared.cid.Codec.{Codec}
use Rattle.uf_cid.specs.declared.cid.Codec.TheVariants.{Raw, DagPb}
use Rattle.uf_cid.specs.Cid.{cid_cmp}
use Rattle.uf_walk.specs.declared.key.Key.{Key}
use Rattle.uf_walk.specs.contracts.key.KeyPartialEq.TheImpl.{eq-value}
use Rattle.uf_walk.specs.Order.{is_met}

same_key : (x y : Codec) (d e : List ℕ) → eq-value.it (record { cid = record { codec = x; digest = d } }) (record { cid = record { codec = y; digest = e } }) ≡ eq_by_cmp cid_cmp (record { codec = x; digest = d }) (record { codec = y; digest = e })
same_key Raw Raw d e = lists_ties nat_cmp (λ (a b : ℕ). sym (unsigned_tied a b)) d e
same_key Raw DagPb d e = refl
same_key DagPb Raw d e = refl
same_key DagPb DagPb d e = lists_ties nat_cmp (λ (a b : ℕ). sym (unsigned_tied a b)) d e

-- two keys are equal where their CIDs are
pub eq_is : (a b : Key) → eq-value.it a b ≡ eq_by_cmp cid_cmp a.cid b.cid
eq_is a b = same_key a.cid.codec b.cid.codec a.cid.digest b.cid.digest

-- a key is in a list of keys where its CID is in that of their CIDs
pub among_keys : (ks : List Key) (k : Key) → list_any (eq-value.it k) ks ≡ is_met (map (λ (x : Key). x.cid) ks) k.cid
among_keys [] k = refl
among_keys (x ∷ ks) k = ap (λ (b : Bool). b || list_any (eq-value.it k) ks) (eq_is k x) ∙ ap (λ (b : Bool). eq_by_cmp cid_cmp k.cid x.cid || b) (among_keys ks k)

-- a new key goes last
pub inserted : (ks new : List Key) (k : Key) → new ≡ insert_key eq-value.it ks k → is_met (map (λ (x : Key). x.cid) ks) k.cid ≡ false
    → map (λ (x : Key). x.cid) new ≡ map (λ (x : Key). x.cid) ks ++ k.cid ∷ []
inserted ks new k is e =
    ap (map (λ (x : Key). x.cid)) (is ∙ ap (λ (b : Bool). if b then ks else ks ++ k ∷ []) (among_keys ks k ∙ e))
    ∙ map-append (λ (x : Key). x.cid) ks (k ∷ [])
