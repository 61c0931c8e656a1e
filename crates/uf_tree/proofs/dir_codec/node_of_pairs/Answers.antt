use Rattle.uf_tree.proofs.Directories.{dir_is, dir_small}
use Rattle.uf_tree.proofs.dir_codec.node_of_pairs.Goals as goal

pub returns-clause-block : goal.returns-clause-block
returns-clause-block c =
    dir_is c.node_of.result c.args.meta.now c.args.pairs.now c.as_slice.result.now c.in_ok-content.content c.as_slice-2.result.now c.as_slice.ensures c.in_ok-content.ensures c.as_slice-2.ensures c.node_of.ensures

pub returns-clause-small : goal.returns-clause-small
returns-clause-small c =
    dir_small c.node_of.result c.args.meta.now c.args.pairs.now c.requires.pairs
    (dir_is c.node_of.result c.args.meta.now c.args.pairs.now c.as_slice.result.now c.in_ok-content.content c.as_slice-2.result.now c.as_slice.ensures c.in_ok-content.ensures c.as_slice-2.ensures c.node_of.ensures)
