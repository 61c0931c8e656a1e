use Rattle.uf_tree.proofs.Checked.{directory_iff}
use Rattle.uf_tree.proofs.checks.is_directory.Goals as goal

pub returns : goal.returns
returns c = directory_iff c.args.pairs.now c.as_slice-entries.result.now c.names_rise.result c.as_slice-entries.ensures c.pairs_are_named.ensures c.names_rise.ensures
