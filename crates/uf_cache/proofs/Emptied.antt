-- What is seen above and which entries there are, where the store below was swept and all entries went.
use Rattle.std.proofs.Common.{ℕ, List, Bool, false}
use Rattle.uf_cid.specs.declared.cid.Cid.{Cid}
use Rattle.uf_store.specs.Seen.{Counted, Seen}
use Rattle.uf_store.specs.declared.sweep.Swept.{Swept}
use Rattle.uf_store.specs.declared.sweep.Swept.TheVariants.{Done, Failed, Memory}
use Rattle.uf_store.specs.Sweeping.{Sweeps}
use Rattle.uf_cache.proofs.Answering.{seen_with, still}

module _ (kept : List Cid) (a b : Seen) (lent : List ℕ) (n : ℕ) where
  counting : (is_fault : Bool) → Counted false false is_fault false a b → Counted false false is_fault false (seen_with a lent n) (seen_with b b.lent n)
  counting is_fault k = record { finds = still n; misses = k.misses; faults = k.faults; clashes = k.clashes }

  -- what the other store answers and leaves is answered and left above
  pub swept-above : (answer : Swept) → Sweeps kept answer a b → Sweeps kept answer (seen_with a lent n) (seen_with b b.lent n)
  swept-above (Done count) s = record { left = s.left; count = s.count; lends_none = s.lends_none; counted = counting _ s.counted }
  swept-above Failed s = record { stays = s.stays; keeps = s.keeps; left = s.left; lends_none = s.lends_none; counted = counting _ s.counted }
  swept-above Memory s = record { same_told = s.same_told; lends_none = s.lends_none; counted = counting _ s.counted }
