-- What a load shows of the store above, where a hit is lent from the entries and all else comes from below.
use Rattle.std.proofs.Common.{◌≡◌, ◌≢◌, ℕ, ◌+◌, ◌-◌, ◌^◌, ◌≤◌, min, List, Bool, true, false}
use Rattle.std.proofs.Common.{arith, refl, sym, ap, subst, ◌∙◌}
use Rattle.std.specs.Prelude.{IfSome, Some}
use Rattle.uf_cid.specs.declared.cid.Cid.{Cid}
use Rattle.uf_cid.specs.declared.hash.BlockHash.{Ghosts as HashGhosts}
use Rattle.uf_edge.specs.Counts.{Counts}
use Rattle.uf_store.specs.declared.store.Load.{Load}
use Rattle.uf_store.specs.declared.store.Load.TheVariants.{Found, Missing, Damaged, Failed, Memory}
use Rattle.uf_store.specs.declared.store.Store.{Ghosts}
use Rattle.uf_store.specs.contracts.store.LoadPartialEq.TheImpl.{eq-value}
use Rattle.uf_store.specs.Contents.{Told, held_at}
use Rattle.uf_store.specs.Seen.{Counted, Finds, Loads, Seen, Stays}
use Rattle.uf_cache.specs.declared.cached.Cached.{Cached}
use Rattle.uf_cache.specs.Cached.{Hits, KeepsFound, Rests, cached_seen, entry_of}
use Rattle.uf_cache.specs.Entries.{Entries, IsKept, MayKeep, lent_by, used}
use Rattle.uf_cache.proofs.Finding.{each_some}

-- an answer that equals Found, and one that doesn't
pub is_found : (answer : Load) → true ≡ eq-value.it answer Found → answer ≡ Found
is_found Found e = refl
is_found Missing e = cc
is_found Damaged e = cc
is_found Failed e = cc
is_found Memory e = cc

pub is_other : (answer : Load) → false ≡ eq-value.it answer Found → answer ≢ Found
is_other answer e is =
    let same : eq-value.it Found Found ≡ false = ap (λ (x : Load). eq-value.it x Found) (sym is) ∙ sym e in absurd cc

-- a count that stands still, and one that rises
pub still : (n : ℕ) → Counts false n n
still n = record { later = omega arith; rose = λ h. absurd cc; still = λ h. refl }

risen : (n m : ℕ) → m ≡ min (n + 1) (2 ^ 64 - 1) → n ≤ 2 ^ 64 - 1 → Counts true n m
risen n m is fits = record { later = omega (arith, is, fits); rose = λ h. omega (arith, is); still = λ h. absurd cc }

-- what is seen with another block lent and another count of finds
abbrev pub seen_with : Seen → List ℕ → ℕ → Seen
seen_with seen lent finds = record seen { lent = lent; finds = finds }

module _ (hash : List ℕ → List ℕ) (cid : Cid) where
  -- an entry is found and lent
  pub hit_finds : (a : Seen) (before lent bytes : List ℕ) (n m : ℕ) → IsKept hash a.told cid bytes → lent ≡ bytes
      → m ≡ min (n + 1) (2 ^ 64 - 1) → n ≤ 2 ^ 64 - 1 → Finds hash cid (seen_with a before n) (seen_with a lent m)
  hit_finds a before lent bytes n m kept is rises fits =
      let whole = subst (IsKept hash a.told cid) (sym is) kept in
      record {
        size = whole.size;
        digest = whole.digest;
        is_held = whole.is_held;
        same_told = refl;
        counted = record {
          finds = risen n m rises fits;
          misses = still a.misses;
          faults = still a.faults;
          clashes = still a.clashes;
        };
      }

  module _ (a b : Seen) (lent now : List ℕ) (n : ℕ) (same : b.lent ≡ a.lent → now ≡ lent) where
    staying : Stays a b → Stays (seen_with a lent n) (seen_with b now n)
    staying s = record { same_told = s.same_told; same_lent = same s.same_lent }

    counting : (is_miss is_fault : Bool) → Counted false is_miss is_fault false a b
        → Counted false is_miss is_fault false (seen_with a lent n) (seen_with b now n)
    counting is_miss is_fault k = record { finds = still n; misses = k.misses; faults = k.faults; clashes = k.clashes }

    -- what isn't found below isn't found above, for the same cause, and the same block is lent
    pub unfound : (answer : Load) → answer ≢ Found → Loads hash cid answer a b
        → Loads hash cid answer (seen_with a lent n) (seen_with b now n)
    unfound Found other l = absurd (other refl)
    unfound Missing other l =
        record { not_held = l.not_held; stays = staying l.stays; counted = counting true false l.counted }
    unfound Damaged other l = record { stays = staying l.stays; counted = counting false true l.counted }
    unfound Failed other l = record { stays = staying l.stays; counted = counting false true l.counted }
    unfound Memory other l = record { stays = staying l.stays; counted = counting false false l.counted }

  -- a block that was found can be kept
  pub found_kept : (answer : Load) (a b : Seen) → answer ≡ Found → Loads hash cid answer a b
      → IsKept hash b.told cid b.lent
  found_kept answer a b is loads =
      let finds : Finds hash cid a b = subst (λ (x : Load). Loads hash cid x a b) is loads in
      let told = sym finds.same_told in
      let held = subst (λ (x : Told). IfSome x (λ t. held_at t cid ≡ Some b.lent)) told finds.is_held in
      record { size = finds.size; digest = finds.digest; is_held = held }

-- what is kept of a block that was found, and that nothing is kept of another answer
pub may_keep : (cid : Cid) (bytes lent : List ℕ) (es mid now : Entries) → mid ≡ es → bytes ≡ lent
    → MayKeep cid bytes mid now → MayKeep cid lent es now
may_keep cid bytes lent es mid now left is kept =
    subst (λ (x : Entries). MayKeep cid lent x now) left (subst (λ (b : List ℕ). MayKeep cid b mid now) is kept)

module _ {S X : Type 0} {G : Ghosts S X} {H : HashGhosts X} (before now : Cached S X G H) (cid : Cid) where
  -- an entry was used, and nothing was asked below
  pub hits : now.entries ≡ used cid before.entries → now.inner ≡ before.inner
      → ((bytes : List ℕ) → entry_of before cid ≡ Some bytes → (cached_seen now).lent ≡ bytes)
      → IfSome (entry_of before cid) (λ bytes. Hits cid bytes Found before now)
  hits first untouched lent =
      each_some (entry_of before cid) (λ bytes. Hits cid bytes Found before now)
      (λ bytes is. record { found = refl; lent = lent bytes is; first = first; untouched = untouched })

  -- the block that is lent is lent on
  pub rests : now.entries ≡ before.entries → now.inner ≡ before.inner → now.lends_first ≡ before.lends_first → Rests Found before now
  rests same untouched first = record {
    found = refl;
    same_lent = λ i. lent_by (first i) (same i) (G.seen (untouched i)).lent;
    same_entries = same;
    untouched = untouched;
  }

  pub keeps_found : (answer : Load) → answer ≡ Found → MayKeep cid (cached_seen now).lent before.entries now.entries
      → KeepsFound cid answer before now
  keeps_found answer is kept = subst (λ (x : Load). KeepsFound cid x before now) (sym is) kept

  pub keeps_none : (answer : Load) → answer ≢ Found → now.entries ≡ before.entries → KeepsFound cid answer before now
  keeps_none Found other is = absurd (other refl)
  keeps_none Missing other is = is
  keeps_none Damaged other is = is
  keeps_none Failed other is = is
  keeps_none Memory other is = is
