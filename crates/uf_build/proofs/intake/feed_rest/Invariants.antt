use Rattle.std.proofs.Common.{◌≡◌, ◌-◌, None, false}
use Rattle.uf_store.specs.Calls.{OnlySaves}
use Rattle.uf_store.specs.Faults.{NoneIsBad}
use Rattle.uf_tree.specs.Profiles.{most_bytes}
use Rattle.uf_tree.specs.declared.profile.Profile.{Profile}
use Rattle.uf_build.specs.FeedingAll.{FeedsPart}
use Rattle.uf_build.proofs.intake.feed_rest.Given as goal

abbrev pub invariant-pieces : goal.invariant-pieces
invariant-pieces g l = record {
  feeds : (p : Profile) → FeedsPart g.S.X.BlockHash.block32 p (g.S.Store.seen l.initial.store).told (g.S.Store.seen l.store).told l.initial.builder l.builder (g.I.Source.left l.initial.input) (g.I.Source.left l.input);
  ready : l.builder.is_spent ≡ false;
  counted : g.I.Source.faults l.input ≡ g.I.Source.faults l.initial.input;
  saves : OnlySaves g.S.X.BlockHash.block32 NoneIsBad None (g.S.Store.seen l.initial.store) (g.S.Store.seen l.store);
}

abbrev pub decreases-pieces : goal.decreases-pieces
decreases-pieces g l = most_bytes l.builder.profile - l.builder.fed
