use Rattle.std.proofs.Common.{◌≡◌, false, rules}
use Rattle.std.proofs.lemmas.Result.{err_from_is_err_and}
use Rattle.uf_tree.proofs.Files.{content_refused, no_content}
use Rattle.uf_tree.proofs.file_codec.content_of.Goals as goal

pub returns-in_err-message : goal.returns-in_err-message
returns-in_err-message c =
    let out = err_from_is_err_and c.from_residual.result c.from_residual.ensures.1 in rw (out.1, out.2)
    (content_refused c.args.content.now c.in_err-message.field-0.0 c.in_err-message.ensures.only)

pub returns-else-is_file_message : goal.returns-else-is_file_message
returns-else-is_file_message c =
    let fails : c.is_file_message.result ≡ false = search rules in
    no_content c.args.content.now c.in_ok-message.message c.is_file_message.result c.in_ok-message.ensures.only c.is_file_message.ensures fails
