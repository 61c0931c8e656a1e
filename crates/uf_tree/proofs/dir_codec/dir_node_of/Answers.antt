use Rattle.uf_tree.proofs.Directories.{dir_of_parts}
use Rattle.uf_tree.proofs.dir_codec.dir_node_of.Goals as goal

pub returns-in_ok-pairs-in-Some : goal.returns-in_ok-pairs-in-Some
returns-in_ok-pairs-in-Some c =
    dir_of_parts c.args.node.now c.in-Some.content c.as_slice.result.now c.as_slice-in-Some.result.now c.in_ok-pairs-in-Some.pairs c.in_ok-meta-in-Some.meta c.whole.result c.in-Some.is c.as_slice.ensures c.as_slice-in-Some.ensures
    c.in_ok-meta-in-Some.ensures c.in_ok-pairs-in-Some.ensures c.whole.ensures
