use Rattle.std.proofs.lemmas.Result.{err_from_is_err_and}
use Rattle.uf_store.proofs.Calls.{reads-by}
use Rattle.uf_tree.specs.Validity.{IsHash}
use Rattle.uf_fileread.specs.Bad.{IsBadInFile}
use Rattle.uf_light.proofs.Going.{leaf-found, leaf-lost, node-found, node-lost}
use Rattle.uf_light.proofs.listing.parts_below.Goals as goal

pub returns-in_err-need-in-Raw-clause-parts : goal.returns-in_err-need-in-Raw-clause-parts
returns-in_err-need-in-Raw-clause-parts g c = λ p m k bytes is agrees stood.
    let X = g.S.X.BlockHash.block32 in let good : IsHash X = record { size = g.met.S.X.BlockHash.size; are_bytes = g.met.S.X.BlockHash.are_bytes } in
    let e = c.in_err-need-in-Raw.ensures in
    let out = err_from_is_err_and c.from_residual.result c.from_residual.ensures.1 in
    rw (out.1, out.2) (leaf-lost X good p m bytes c.args.cid.now k (g.S.Store.seen c.args.store.now) (g.S.Store.seen c.need.new.store) c.in_err-need-in-Raw.field-0.0 c.in-Raw.is e.cause e.fault e.told stood is)

pub returns-in_err-need-in-Raw-clause-reads : goal.returns-in_err-need-in-Raw-clause-reads
returns-in_err-need-in-Raw-clause-reads g c =
    let e = c.in_err-need-in-Raw.ensures in
    let out = err_from_is_err_and c.from_residual.result c.from_residual.ensures.1 in
    rw (out.1, out.2) (reads-by (IsBadInFile (g.S.Store.seen c.args.store.now).told c.args.cid.now) (λ role bytes no. absurd no) (record { cause = e.cause; told = e.told }))

pub returns-in_ok-need-in-Raw-clause-parts : goal.returns-in_ok-need-in-Raw-clause-parts
returns-in_ok-need-in-Raw-clause-parts g c = λ p m k bytes is agrees stood.
    let X = g.S.X.BlockHash.block32 in let good : IsHash X = record { size = g.met.S.X.BlockHash.size; are_bytes = g.met.S.X.BlockHash.are_bytes } in
    leaf-found X good p m bytes c.args.cid.now k (g.S.Store.seen c.args.store.now).told (g.S.Store.seen c.need.new.store).lent c.new.result c.in-Raw.is c.new.ensures c.in_ok-need-in-Raw.ensures.found.is_held is agrees

pub returns-in_err-node-in-DagPb-clause-parts : goal.returns-in_err-node-in-DagPb-clause-parts
returns-in_err-node-in-DagPb-clause-parts g c = λ p m k bytes is agrees stood.
    let X = g.S.X.BlockHash.block32 in let good : IsHash X = record { size = g.met.S.X.BlockHash.size; are_bytes = g.met.S.X.BlockHash.are_bytes } in
    let a = g.S.Store.seen c.args.store.now in let e = c.in_err-node-in-DagPb.ensures in
    let out = err_from_is_err_and c.from_residual-in_err-node-in-DagPb.result c.from_residual-in_err-node-in-DagPb.ensures.1 in
    rw (out.1, out.2) (node-lost X good p m bytes c.args.cid.now (IsBadInFile a.told c.args.cid.now) k a (g.S.Store.seen c.load_node.new.store) c.in_err-node-in-DagPb.field-0.0 c.in-DagPb.is e.loads e.cause stood is agrees)

pub returns-in_ok-node-in-DagPb-clause-parts : goal.returns-in_ok-node-in-DagPb-clause-parts
returns-in_ok-node-in-DagPb-clause-parts g c = λ p m k bytes is agrees stood.
    let X = g.S.X.BlockHash.block32 in let good : IsHash X = record { size = g.met.S.X.BlockHash.size; are_bytes = g.met.S.X.BlockHash.are_bytes } in
    node-found X good p m bytes c.args.cid.now k (g.S.Store.seen c.args.store.now) c.in_ok-node-in-DagPb.node c.in-DagPb.is c.in_ok-node-in-DagPb.ensures.loads is agrees
