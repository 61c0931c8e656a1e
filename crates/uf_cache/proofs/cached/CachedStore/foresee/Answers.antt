use Rattle.std.proofs.Common.{ap, subst, sym}
use Rattle.std.specs.Prelude.{IfSome}
use Rattle.uf_store.specs.Seen.{Seen}
use Rattle.uf_cache.specs.Entries.{IsKept, lent_by}
use Rattle.uf_cache.proofs.Kept.{AreKept-same}
use Rattle.uf_cache.proofs.cached.CachedStore.foresee.Goals as goal

pub invariant_of-self : goal.invariant_of-self
invariant_of-self g c =
    let hash = g.S.X.BlockHash.block32 in let self = c.args.self.now in
    let same = c.foresee.ensures.seen in
    record {
      small = self.small;
      kept = AreKept-same hash _ _ self.entries (ap (λ (s : Seen). s.told) same) self.kept;
      rests = subst (λ (s : Seen). IfSome self.lent (λ x. IsKept hash s.told x (lent_by self.lends_first self.entries s.lent)))
          (sym same) self.rests;
    }
