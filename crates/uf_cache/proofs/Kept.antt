-- What each entry is, where entries change and where the store below does.
use Rattle.std.proofs.Common.{◌≡◌, ℕ, List, [], Contains, arith, refl, sym, subst, inl, inr}
use Rattle.std.specs.Prelude.{nat_eq}
use Rattle.std.specs.Cmp.Lexicographic.{pointwise}
use Rattle.lru.proofs.CallerLemmas.{Contains-promoted, Contains-put_entries}
use Rattle.uf_cid.specs.declared.cid.Cid.{Cid}
use Rattle.uf_cid.specs.Cid.{cid_bytes}
use Rattle.uf_store.specs.Contents.{Told}
use Rattle.uf_store.specs.Keeping.{KeepsGood}
use Rattle.uf_store.specs.Seen.{Looks, Seen, Stays}
use Rattle.uf_store.specs.declared.store.Presence.{Presence}
use Rattle.uf_store.specs.declared.store.Presence.TheVariants.{There, Missing, Failed, Memory}
use Rattle.uf_store.proofs.Keeping.{KeepsGood-same}
use Rattle.uf_cache.specs.Entries.{AreKept, Entries, IsKept, MayKeep, MayPut, emptied, is_spelled, used}
use Rattle.uf_cache.proofs.Finding.{same_cid, spelled}

-- no entries are all kept
pub AreKept-none : (hash : List ℕ → List ℕ) (told : Told) (es : Entries) → es.entries ≡ [] → AreKept hash told es
AreKept-none hash told es none cid bytes there =
    let in_none = subst (λ l. Contains l (cid_bytes cid, bytes)) none there in absurd (let k : ℕ = in_none.0 in omega (arith, in_none.1))

module _ (hash : List ℕ → List ℕ) where
  -- a store that keeps good blocks holds the entries still
  pub AreKept-on : (a b : Told) (es : Entries) → KeepsGood hash a b → AreKept hash a es → AreKept hash b es
  AreKept-on a b es keeps kept cid bytes there =
      let was = kept cid bytes there in
      record { size = was.size; digest = was.digest; is_held = keeps.stays cid bytes was.is_held was.digest }

  pub AreKept-same : (a b : Told) (es : Entries) → b ≡ a → AreKept hash a es → AreKept hash b es
  AreKept-same a b es is kept = AreKept-on a b es (KeepsGood-same hash a b is) kept

  module _ (told : Told) (es now : Entries) (cid : Cid) (kept : AreKept hash told es) where
    moved : (from : Entries) → now ≡ from → (e : List ℕ × List ℕ) → Contains now.entries e → Contains from.entries e
    moved from is e there = subst (λ (x : Entries). Contains x.entries e) is there

    -- an entry was used
    pub AreKept-used : now ≡ used cid es → AreKept hash told now
    AreKept-used is c b there =
        let e : List ℕ × List ℕ = (cid_bytes c, b) in
        kept c b (Contains-promoted (is_spelled cid) es.entries e (moved (used cid es) is e there))

    module _ (bytes : List ℕ) (whole : IsKept hash told cid bytes) where
      -- the block that was put, under its own CID
      put_one : (c : Cid) (b : List ℕ) → cid_bytes c ≡ cid_bytes cid → b ≡ bytes → IsKept hash told c b
      put_one c b key is =
          let one = subst (λ (x : Cid). IsKept hash told x bytes) (sym (same_cid c cid key)) whole in
          subst (IsKept hash told c) (sym is) one

      -- a block may have been put
      AreKept-put : MayPut cid bytes es now → AreKept hash told now
      AreKept-put (inl is) c b there =
          let e : List ℕ × List ℕ = (cid_bytes c, b) in
          elim (Contains-put_entries (pointwise nat_eq) es (cid_bytes cid) bytes e (moved _ is e there)) [
            | inl was ↦ kept c b was
            | inr put ↦ elim put.1 [
              | inl key ↦ put_one c b key put.0
              | inr old ↦ put_one c b (sym (spelled cid (cid_bytes c) old.2)) put.0
            ]
          ]
      AreKept-put (inr is) c b there = kept c b (moved es is (cid_bytes c, b) there)

-- a block that was found may have been put
module _ (hash : List ℕ → List ℕ) (told : Told) (es now : Entries) (cid : Cid) (kept : AreKept hash told es) where
  pub AreKept-kept : (bytes : List ℕ) → IsKept hash told cid bytes → MayKeep cid bytes es now → AreKept hash told now
  AreKept-kept bytes whole may =
      elim may.put [
        | inl put ↦ AreKept-put hash told es now cid kept bytes whole put
        | inr put ↦ AreKept-put hash told (emptied es) now cid (AreKept-none hash told (emptied es) refl) bytes whole put
      ]

-- the question whether a block is there changes neither what is told nor what is lent
pub looks-stays : (cid : Cid) (answer : Presence) (a b : Seen) → Looks cid answer a b → Stays a b
looks-stays cid There a b h = h.stays
looks-stays cid Missing a b h = h.stays
looks-stays cid Failed a b h = h.stays
looks-stays cid Memory a b h = h.stays
