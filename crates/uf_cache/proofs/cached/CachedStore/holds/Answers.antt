use Rattle.std.proofs.Common.{List, subst, sym, ℕ}
use Rattle.std.specs.Prelude.{IfSome}
use Rattle.uf_store.specs.Contents.{Told}
use Rattle.uf_cache.specs.Entries.{IsKept, lent_by}
use Rattle.uf_cache.proofs.Kept.{AreKept-same, looks-stays}
use Rattle.uf_cache.proofs.cached.CachedStore.holds.Goals as goal

pub invariant_of-self : goal.invariant_of-self
invariant_of-self g c =
    let hash = g.S.X.BlockHash.block32 in let self = c.args.self.now in
    let before = g.S.Store.seen self.inner in let now = g.S.Store.seen c.holds.new.self in
    let stays = looks-stays c.args.cid.now c.holds.result before now c.holds.ensures.seen in
    record {
      small = self.small;
      kept = AreKept-same hash _ _ self.entries stays.same_told self.kept;
      rests =
          subst (λ (t : Told). IfSome self.lent (λ x. IsKept hash t x (lent_by self.lends_first self.entries now.lent)))
          (sym stays.same_told)
          (subst (λ (l : List ℕ). IfSome self.lent (λ x. IsKept hash before.told x (lent_by self.lends_first self.entries l)))
          (sym stays.same_lent) self.rests);
    }
