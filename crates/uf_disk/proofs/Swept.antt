-- A sweep that failed, of a store that tells nothing.
use Rattle.std.proofs.Common.{◌≡◌, ℕ, ◌+◌, ◌-◌, ◌^◌, ◌≤◌, min, List, [], true, false, arith, refl, sym, ap, ◌∙◌, None}
use Rattle.uf_cid.specs.declared.cid.Cid.{Cid}
use Rattle.uf_edge.specs.Counts.{Counts}
use Rattle.uf_store.specs.Contents.{changed}
use Rattle.uf_store.specs.Seen.{Seen}
use Rattle.uf_store.specs.Sweeping.{FailsToDrop, swept}

still : (n m : ℕ) → m ≡ n → Counts false n m
still n m is = record { later = omega (arith, is); rose = λ h. absurd cc; still = λ h. is }

risen : (n m : ℕ) → m ≡ min (n + 1) (2 ^ 64 - 1) → n ≤ 2 ^ 64 - 1 → Counts true n m
risen n m is fits = record { later = omega (arith, is, fits); rose = λ h. omega (arith, is); still = λ h. absurd cc }

pub fails-to-drop : (kept : List Cid) (a b : Seen) → a.told ≡ None → b.told ≡ None → b.lent ≡ [] → b.finds ≡ a.finds → b.misses ≡ a.misses → b.clashes ≡ a.clashes
    → b.faults ≡ min (a.faults + 1) (2 ^ 64 - 1) → a.faults ≤ 2 ^ 64 - 1 → FailsToDrop kept a b
fails-to-drop kept a b was now lent finds misses clashes faults fits = record {
  stays = λ c. true;
  keeps = λ c h. refl;
  left = now ∙ sym (ap (changed (swept (λ c. true))) was);
  lends_none = lent;
  counted = record { finds = still _ _ finds; misses = still _ _ misses; faults = risen _ _ faults fits; clashes = still _ _ clashes };
}
