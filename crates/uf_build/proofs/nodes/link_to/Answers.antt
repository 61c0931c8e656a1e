use Rattle.std.proofs.Common.{◌<◌, ◌^◌, arith}
use Rattle.uf_build.proofs.nodes.link_to.Goals as goal

pub returns-clause-valid : goal.returns-clause-valid
returns-clause-valid c = record { name = c.new-name.ensures; cid = c.cids_are_whole.ensures; tsize = let h : c.args.tsize < 2 ^ 64 = omega arith in h }
