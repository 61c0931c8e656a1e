use Rattle.std.proofs.Common.{◌≡◌, ℕ, List, Option, subst}
use Rattle.std.specs.Prelude.{option_copied}
use Rattle.std.proofs.lemmas.Result.{err_from_is_err_and}
use Rattle.uf_edge.specs.Counts.{Stood}
use Rattle.uf_mfs.specs.Missing.{SpotMisses, put_names}
use Rattle.uf_mfs.specs.Moving.{GivesOver}
use Rattle.uf_mfs.specs.Steps.{tree_fault}
use Rattle.uf_mfs.specs.Standing.{StandsOver}
use Rattle.uf_plain.specs.Moves.{spotted}
use Rattle.uf_plain.specs.declared.spot.Spot.{Spot}
use Rattle.uf_tree.specs.Tree.{Entries}
use Rattle.uf_tree.specs.declared.profile.Profile.{Profile}
use Rattle.uf_top.proofs.Settled.{found-spot, unnamed, unopened, unspotted}
use Rattle.uf_top.proofs.commands.add_to_files.find.Goals as goal

pub returns-in_err-tree : goal.returns-in_err-tree
returns-in_err-tree g c =
    let out = err_from_is_err_and c.from_residual.result c.from_residual.ensures.1 in
    rw (out.1, out.2) (unopened g.S.X.BlockHash.block32 g.N.NameHash.name64 c.args.dest.now (option_copied c.args.path) (g.S.Store.seen c.args.store.now) (g.S.Store.seen c.opened.new.store) c.args.touches.now c.opened.new.touches
    c.in_err-tree.field-0.0 c.in_err-tree.ensures)

pub returns-in_err-name : goal.returns-in_err-name
returns-in_err-name g c =
    let out = err_from_is_err_and c.from_residual-in_err-name.result c.from_residual-in_err-name.ensures.1 in
    rw (out.1, out.2) (unnamed g.S.X.BlockHash.block32 g.N.NameHash.name64 c.args.dest.now (option_copied c.args.path) (g.S.Store.seen c.args.store.now) (g.S.Store.seen c.opened.new.store) c.args.touches.now c.opened.new.touches
    c.in_ok-tree.tree c.in_ok-tree.ensures c.in_err-name.field-0.0 c.in_err-name.ensures)

pub returns-in_err-spot : goal.returns-in_err-spot
returns-in_err-spot g c =
    let k = c.spot-found.ensures in let r = c.spot-found.result in let tree = c.in_ok-tree.tree in
    let X = g.S.X.BlockHash.block32 in let N = g.N.NameHash.name64 in let m = g.S.Store.seen c.opened.new.store in let b = g.S.Store.seen c.spot-found.new.store in
    let spots = subst (λ (n : Option (List ℕ)). (p : Profile) (es : Entries) → StandsOver X N m.told tree p es → Stood m.faults b.faults → GivesOver X N m.told p es (λ (spot given : Spot). given ≡ spot) (spotted c.args.dest.now n es) r) c.as_ref.ensures.value k.lost in
    let misses = subst (λ (n : Option (List ℕ)). SpotMisses X N m b tree (put_names c.args.dest.now n) (tree_fault r)) c.as_ref.ensures.value k.missing in
    let out = err_from_is_err_and c.from_residual-in_err-spot.result c.from_residual-in_err-spot.ensures.1 in
    rw (out.1, out.2) (unspotted X N c.args.dest.now (option_copied c.args.path) (g.S.Store.seen c.args.store.now) m c.args.touches.now c.opened.new.touches
    tree c.in_ok-tree.ensures c.in_ok-name.name c.in_ok-name.ensures b c.spot-found.new.touches r c.in_err-spot.field-0.0 c.in_err-spot.ensures.cases k.cause k.told k.touches k.touched misses spots)

pub returns : goal.returns
returns g c =
    let k = c.spot-found.ensures in let r = c.spot-found.result in let tree = c.in_ok-tree.tree in
    let X = g.S.X.BlockHash.block32 in let N = g.N.NameHash.name64 in let m = g.S.Store.seen c.opened.new.store in let b = g.S.Store.seen c.spot-found.new.store in
    let spots = subst (λ (n : Option (List ℕ)). (p : Profile) (es : Entries) → StandsOver X N m.told tree p es → Stood m.faults b.faults → GivesOver X N m.told p es (λ (spot given : Spot). given ≡ spot) (spotted c.args.dest.now n es) r) c.as_ref.ensures.value k.lost in
    found-spot X N c.args.dest.now (option_copied c.args.path) (g.S.Store.seen c.args.store.now) m c.args.touches.now c.opened.new.touches
    tree c.in_ok-tree.ensures c.in_ok-name.name c.in_ok-name.ensures b c.spot-found.new.touches r c.in_ok-spot.spot c.in_ok-spot.ensures.cases k.cause k.told k.touches k.touched spots
