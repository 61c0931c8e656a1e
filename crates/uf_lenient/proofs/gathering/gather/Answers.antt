use Rattle.std.proofs.Common.{Ok, Err, inr, refl, []}
use Rattle.std.proofs.lemmas.Result.{err_from_is_err_and}
use Rattle.uf_lenient.specs.declared.fault.DagFault.TheVariants.{Unsupported}
use Rattle.uf_lenient.specs.declared.gathered.Gathered.TheVariants.{File as IsFile}
use Rattle.uf_lenient.specs.declared.unixfs.Unixfs.TheVariants.{File, Directory, Shard, OtherShard, Other}
use Rattle.uf_lenient.specs.Reading.{meet_all}
use Rattle.uf_lenient.proofs.Ends.{gathered-fault}
use Rattle.uf_lenient.proofs.Frames.{folder_still, gathered-says}
use Rattle.uf_lenient.proofs.Saying.{by-good, good-both}
use Rattle.uf_lenient.proofs.gathering.gather.Goals as goal

pub returns-in_err-meta-clause-says : goal.returns-in_err-meta-clause-says
returns-in_err-meta-clause-says g c =
    let out = err_from_is_err_and c.from_residual.result c.from_residual.ensures.1 in rw (out.1, out.2) (by-good g.S.X.BlockHash.block32 (g.S.Store.seen c.args.store.now).told (λ held says. gathered-fault held c.args.left c.args.cid.now c.args.visits.now c.in_err-meta.field-0.0 says) c.in_err-meta.ensures.says)

pub returns-in-File-clause-says : goal.returns-in-File-clause-says
returns-in-File-clause-says g c = by-good g.S.X.BlockHash.block32 (g.S.Store.seen c.args.store.now).told (λ held says. gathered-says held c.args.left c.args.cid.now c.args.visits.now _ (File c.in-File.meta c.in-File.bytes c.in-File.links) c.visit.new.visits c.visit.new.visits (Ok (IsFile c.in-File.meta c.in-File.bytes c.in-File.links)) c.in-File.is says refl) c.in_ok-meta.ensures.says

pub returns-in-Directory-clause-says : goal.returns-in-Directory-clause-says
returns-in-Directory-clause-says g c = by-good g.S.X.BlockHash.block32 (g.S.Store.seen c.args.store.now).told (λ held says. gathered-says held c.args.left c.args.cid.now c.args.visits.now _ (Directory c.in-Directory.meta c.in-Directory.links) c.visit.new.visits c.visit.new.visits c.gather_block.result c.in-Directory.is says
    (folder_still c.in-Directory.meta c.visit.new.visits (meet_all c.args.cid.now _ c.in-Directory.links []) c.gather_block.result c.gather_block.ensures.says)) c.in_ok-meta.ensures.says

pub returns-in-Shard-clause-says : goal.returns-in-Shard-clause-says
returns-in-Shard-clause-says g c = good-both g.S.X.BlockHash.block32 (g.S.Store.seen c.args.store.now).told (g.S.Store.seen c.visit.new.store).told c.in_ok-meta.ensures.reads.told
    (λ held says later. gathered-says held c.args.left c.args.cid.now c.args.visits.now _ (Shard c.in-Shard.meta c.in-Shard.links) c.visit.new.visits c.gather_shards.new.visits c.gather_shards.result c.in-Shard.is says later) c.in_ok-meta.ensures.says c.gather_shards.ensures.says

pub returns-in-OtherShard-clause-says : goal.returns-in-OtherShard-clause-says
returns-in-OtherShard-clause-says g c = by-good g.S.X.BlockHash.block32 (g.S.Store.seen c.args.store.now).told (λ held says. gathered-says held c.args.left c.args.cid.now c.args.visits.now _ OtherShard c.visit.new.visits c.visit.new.visits (Err (Unsupported c.args.cid.now)) c.in-OtherShard.is says (inr refl)) c.in_ok-meta.ensures.says

pub returns-in-Other-clause-says : goal.returns-in-Other-clause-says
returns-in-Other-clause-says g c = by-good g.S.X.BlockHash.block32 (g.S.Store.seen c.args.store.now).told (λ held says. gathered-says held c.args.left c.args.cid.now c.args.visits.now _ Other c.visit.new.visits c.visit.new.visits (Err (Unsupported c.args.cid.now)) c.in-Other.is says (inr refl)) c.in_ok-meta.ensures.says
