use Rattle.std.specs.Prelude.{option_copied}
use Rattle.uf_tree.specs.Tree.{Dir, Entries}
use Rattle.uf_tree.specs.declared.nodes.Entry.{Entry}
use Rattle.uf_plain.specs.declared.spot.Spot.{Spot}
use Rattle.std.proofs.Common.{◌≡◌}
use Rattle.uf_mfs.specs.Standing.{IsAgreed}
use Rattle.uf_mfs.proofs.Missing.{entered-misses}
use Rattle.uf_mfs.proofs.Spots.{spotted-stop}
use Rattle.uf_mfs.proofs.spotting.spot_in.Goals as goal

pub returns-in-Err-clause-spots : goal.returns-in-Err-clause-spots
returns-in-Err-clause-spots g c = λ p es s stood.
    let X = g.S.X.BlockHash.block32 in let N = g.N.NameHash.name64 in let told = (g.S.Store.seen c.args.store.now).told in
    spotted-stop X N p told c.args.names.now (option_copied c.args.name) es (λ (fs : Entries) (e : Entry). IsAgreed X N told p e (Dir fs)) (λ (spot given : Spot). given ≡ spot) c.in-Err.stop c.fault_of.result
    c.fault_of.ensures (c.in-Err.ensures.looks p es s stood)

pub returns-in-Err-clause-missing : goal.returns-in-Err-clause-missing
returns-in-Err-clause-missing g c = λ p es s stood.
    let X = g.S.X.BlockHash.block32 in let N = g.N.NameHash.name64 in let told = (g.S.Store.seen c.args.store.now).told in
    entered-misses X N p Spot told c.args.names.now (option_copied c.args.name) es (λ (fs : Entries) (e : Entry). IsAgreed X N told p e (Dir fs)) c.in-Err.stop c.fault_of.result
    c.fault_of.ensures (c.in-Err.ensures.looks p es s stood)
