-- What `promote` and `put` of a cache do with the entry of a CID.
use Rattle.std.proofs.Common.{◌≡◌, ℕ, Bool, true, false, arith, List, ◌∷◌, Contains, is_some, refl, sym, ap}
use Rattle.std.proofs.Common.{subst, ◌∙◌, Option, Some, None, inl, inr}
use Rattle.std.specs.Prelude.{nat_eq, IfSome}
use Rattle.std.specs.Cmp.Lexicographic.{pointwise, same_text}
use Rattle.std.specs.Map.{lookup, lookup_entry, remove_entry}
use Rattle.std.specs.Option.{option_map, option_map_or}
use Rattle.std.specs.Result.{OnErr, OnOk, is_ok}
use Rattle.std.specs.declared.result.Result.{Result}
use Rattle.std.specs.declared.result.Result.TheVariants.{Ok, Err}
use Rattle.lru.specs.LruCache.{lru_cache, promoted, put_entries}
use Rattle.lru.proofs.CallerLemmas.{Contains-lookup}
use Rattle.lru.proofs.Pairs.{lookup-lookup_entry}
use Rattle.uf_cid.specs.declared.cid.Codec.{Codec}
use Rattle.uf_cid.specs.declared.cid.Codec.TheVariants.{Raw, DagPb}
use Rattle.uf_cid.specs.declared.cid.Cid.{Cid}
use Rattle.uf_cid.specs.Cid.{cid_bytes, codec_byte}
use Rattle.uf_cache.specs.Entries.{Entries, MayPut, entry_at, first_block, is_spelled, used}

-- ---- CIDs by their bytes

same_codec : (x y : Codec) → codec_byte x ≡ codec_byte y → x ≡ y
same_codec Raw Raw e = refl
same_codec Raw DagPb e = absurd (omega arith)
same_codec DagPb Raw e = absurd (omega arith)
same_codec DagPb DagPb e = refl

abbrev cid_with : Codec → List ℕ → Cid
cid_with codec digest = record { codec = codec; digest = digest }

same_parts : (x y : Codec) (d e : List ℕ) → cid_bytes (cid_with x d) ≡ cid_bytes (cid_with y e)
    → cid_with x d ≡ cid_with y e
same_parts x y d e is =
    let codec : codec_byte x ≡ codec_byte y = cc in
    let digest : d ≡ e = cc in
    let c : x ≡ y = same_codec x y codec in
    λ i. cid_with (c i) (digest i)

-- CIDs of the same bytes are one
pub same_cid : (a b : Cid) → cid_bytes a ≡ cid_bytes b → a ≡ b
same_cid a b is = same_parts a.codec b.codec a.digest b.digest is

pub spelled : (cid : Cid) (key : List ℕ) → is_spelled cid key ≡ true → cid_bytes cid ≡ key
spelled cid key is = same_text (cid_bytes cid) key (sym is)

-- ---- answers

-- what holds of each block that is there
pub each_some : (o : Option (List ℕ)) (P : List ℕ → Type 0) → ((bytes : List ℕ) → o ≡ Some bytes → P bytes) → IfSome o P
each_some None P h = tt
each_some (Some bytes) P h = h bytes refl

some_of : (o : Option (List ℕ)) → is_some o ≡ true → (bytes : List ℕ) × (o ≡ Some bytes)
some_of None h = cc
some_of (Some bytes) h = (bytes, refl)

none_of : (o : Option (List ℕ)) → is_some o ≡ false → o ≡ None
none_of None h = refl
none_of (Some bytes) h = cc

-- what holds where a call succeeds
pub where_ok : {A E : Type 0} {P : Type 0} (r : Result A E) → is_ok r ≡ true → OnOk r P → P
where_ok (Ok a) is holds = holds
where_ok (Err e) is holds = cc

-- ---- look-ups

-- the block of a CID's entry is in the list under its bytes
pub among : (es : Entries) (cid : Cid) (bytes : List ℕ) → entry_at es cid ≡ Some bytes
    → Contains es.entries (cid_bytes cid, bytes)
among es cid bytes is =
    let there = Contains-lookup (is_spelled cid) es.entries bytes is in
    subst (λ (key : List ℕ). Contains es.entries (key, bytes)) (sym (spelled cid there.0 there.2)) there.1

module _ (test : List ℕ → Bool) (es : List (List ℕ × List ℕ)) where
  abbrev with_first : Option (List ℕ × List ℕ) → List (List ℕ × List ℕ)
  with_first o = option_map_or (λ e. e ∷ remove_entry test es) o es

  brought : (o : Option (List ℕ × List ℕ)) (other bytes : List ℕ) → option_map (λ e. e.1) o ≡ Some bytes
      → first_block (with_first o) other ≡ bytes
  brought None other bytes is = cc
  brought (Some e) other bytes is = cc

  -- an entry that was used is the first
  first_used : (other bytes : List ℕ) → lookup test es ≡ Some bytes → first_block (promoted test es) other ≡ bytes
  first_used other bytes is = brought (lookup_entry test es) other bytes (lookup-lookup_entry test es ∙ is)

  left : (o : Option (List ℕ × List ℕ)) → option_map (λ e. e.1) o ≡ None → with_first o ≡ es
  left None is = refl
  left (Some e) is = cc

  -- where no entry is used, all stay in their places
  none_used : lookup test es ≡ None → promoted test es ≡ es
  none_used is = left (lookup_entry test es) (lookup-lookup_entry test es ∙ is)

-- ---- calls

-- what `put` answers is that the block is kept or that nothing has changed
module _ {A E : Type 0} (es now : Entries) (key block bytes : List ℕ) (cid : Cid) where
  pub put_or_left : (r : Result A E) → key ≡ cid_bytes cid → block ≡ bytes
      → OnOk r (now ≡ lru_cache (put_entries (pointwise nat_eq) es key block) es.cap) → OnErr r (now ≡ es)
      → MayPut cid bytes es now
  put_or_left (Ok a) key_is is ok err =
      inl (ok ∙ λ i. lru_cache (put_entries (pointwise nat_eq) es (key_is i) (is i)) es.cap)
  put_or_left (Err e) key_is is ok err = inr err

-- what `promote` did with the entry of a CID
pub record Promotes (es now : Entries) (cid : Cid) (answer : Bool) : Type 0 where
  pub is_used : now ≡ used cid es
  pub value : answer ≡ is_some (entry_at es cid)

pub promotes : (es now : Entries) (key : List ℕ) (cid : Cid) (answer : Bool) → key ≡ cid_bytes cid
    → answer ≡ is_some (lookup (pointwise nat_eq key) es.entries)
    → now ≡ lru_cache (promoted (pointwise nat_eq key) es.entries) es.cap → Promotes es now cid answer
promotes es now key cid answer key_is value is = record {
  is_used = is ∙ ap (λ (k : List ℕ). lru_cache (promoted (pointwise nat_eq k) es.entries) es.cap) key_is;
  value = value ∙ ap (λ (k : List ℕ). is_some (lookup (pointwise nat_eq k) es.entries)) key_is;
}

module _ {es now : Entries} {cid : Cid} {answer : Bool} (p : Promotes es now cid answer) where
  pub is_there : answer ≡ true → (bytes : List ℕ) × (entry_at es cid ≡ Some bytes)
  is_there h = some_of (entry_at es cid) (sym p.value ∙ h)

  pub is_absent : answer ≡ false → entry_at es cid ≡ None
  is_absent h = none_of (entry_at es cid) (sym p.value ∙ h)

  pub is_first : (other bytes : List ℕ) → entry_at es cid ≡ Some bytes → first_block now.entries other ≡ bytes
  is_first other bytes there =
      ap (λ (x : Entries). first_block x.entries other) p.is_used
      ∙ first_used (is_spelled cid) es.entries other bytes there

  pub is_left : answer ≡ false → now ≡ es
  is_left h =
      p.is_used
      ∙ ap (λ (x : List (List ℕ × List ℕ)). lru_cache x es.cap) (none_used (is_spelled cid) es.entries (is_absent h))
