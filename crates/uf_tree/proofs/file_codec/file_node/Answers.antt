use Rattle.uf_tree.proofs.Spelt.{file_small, file_is}
use Rattle.uf_tree.proofs.file_codec.file_node.Goals as goal

pub returns-clause-block : goal.returns-clause-block
returns-clause-block c =
    file_is c.node_of_parts.result c.args.node.now c.as_slice.result.now c.as_slice-2.result.now c.in_ok-content.content c.as_slice.ensures c.as_slice-2.ensures c.in_ok-content.ensures c.node_of_parts.ensures

pub returns-clause-small : goal.returns-clause-small
returns-clause-small c =
    file_small c.node_of_parts.result c.args.node.now c.requires
    (file_is c.node_of_parts.result c.args.node.now c.as_slice.result.now c.as_slice-2.result.now c.in_ok-content.content c.as_slice.ensures c.as_slice-2.ensures c.in_ok-content.ensures c.node_of_parts.ensures)
