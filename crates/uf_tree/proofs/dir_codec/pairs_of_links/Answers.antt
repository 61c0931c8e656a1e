use Rattle.std.proofs.lemmas.Result.{err_from_is_err_and}
use Rattle.uf_tree.specs.Codecs.{pair_link}
use Rattle.uf_tree.specs.Validity.{IsNamed}
use Rattle.uf_tree.proofs.Reading.{each_refused}
use Rattle.uf_tree.proofs.dir_codec.pairs_of_links.Goals as goal

pub returns-in_err-pair : goal.returns-in_err-pair
returns-in_err-pair c =
    let out = err_from_is_err_and c.from_residual.result c.from_residual.ensures.1 in rw (out.1, out.2)
    (each_refused IsNamed pair_link c.args.links.now c.loop-link.link-index c.link-item.result c.in_err-pair.field-0.0 c.loop-link-test.true c.link-item.is c.in_err-pair.ensures)
