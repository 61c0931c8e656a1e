use Rattle.std.proofs.Common.{◌≡◌, ℕ, List, None, Some, subst}
use Rattle.uf_mfs.specs.Bad.{IsBadInTree}
use Rattle.uf_mfs.proofs.Judging.{tree-more}
use Rattle.uf_plain.specs.Moves.{spotted}
use Rattle.uf_plain.specs.declared.spot.Spot.{Spot}
use Rattle.uf_tree.specs.Tree.{Dir}
use Rattle.uf_tree.specs.TreePlan.{blocks}
use Rattle.uf_command.specs.Kinds.{IsOf}
use Rattle.uf_top.specs.Grafts.{FollowsOr, IsLostBy, graft_kinds}
use Rattle.uf_top.specs.Reply.{by_rule}
use Rattle.uf_top.specs.Losing.{placing_needs}
use Rattle.uf_top.proofs.Adopted.{tree-kind}
use Rattle.uf_top.proofs.Putting.{gives-misses, gives-refused}
use Rattle.uf_top.proofs.Refusing.{counts-both, of-both, shown-both}
use Rattle.uf_top.proofs.commands.files_cp.spot_for.Goals as goal

pub returns-clause-finds : goal.returns-clause-finds
returns-clause-finds g c = λ p es over stood.
    let X = g.S.X.BlockHash.block32 in let N = g.N.NameHash.name64 in let told = (g.S.Store.seen c.args.store.now).told in
    let e = c.spot.ensures in let name = Some c.in_ok-name.name in let dest = c.args.dest.now in let same = λ (spot given : Spot). given ≡ spot in
    subst (λ (n : List ℕ). FollowsOr (IsLostBy told (placing_needs X N dest (Some n) p es)) same (by_rule (spotted dest (Some n) es)) c.map_err.result) c.in_ok-name.ensures
    (gives-refused told (placing_needs X N dest name p es) same (spotted dest name es) c.spot.result c.map_err.result c.map_err.ensures.cases
    (gives-misses told (placing_needs X N dest name p es) (blocks X N p (Dir es)) same (spotted dest name es) c.spot.result (e.missing p es over stood) (e.lost p es over stood)))

pub returns-clause-reads : goal.returns-clause-reads
returns-clause-reads g c =
    let X = g.S.X.BlockHash.block32 in let N = g.N.NameHash.name64 in let p = c.args.tree.now.profile in let root = c.args.tree.now.root.cid in
    let e = c.spot.ensures in
    record {
      cause = shown-both c.spot.result c.map_err.result X (IsBadInTree X N None root) (IsBadInTree X N (Some p) root) (tree-more X N p root) (g.S.Store.seen c.args.store.now) (g.S.Store.seen c.spot.new.store) c.map_err.ensures.cases e.cause;
      told = e.told;
    }

pub returns-clause-kinds : goal.returns-clause-kinds
returns-clause-kinds g c = of-both c.spot.result c.map_err.result (λ r given. IsOf graft_kinds given) c.map_err.ensures.cases (λ spot. tt) tree-kind

pub returns-clause-touched : goal.returns-clause-touched
returns-clause-touched g c = counts-both c.spot.result c.map_err.result c.args.touches.now c.spot.new.touches c.map_err.ensures.cases c.spot.ensures.touched
