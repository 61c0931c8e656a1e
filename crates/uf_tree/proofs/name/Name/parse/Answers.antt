use Rattle.std.proofs.Common.{◌≡◌, ◌∙◌, true, ap, ◌++◌, rules}
use Rattle.uf_tree.proofs.Naming.{parsed}
use Rattle.uf_tree.proofs.name.Name.parse.Goals as goal

pub returns : goal.returns
returns c =
    let holds : c.is_good_text.result ≡ true = search rules in (
      c.in_ok-push_str.ensures.ok ∙ ap (λ x. x ++ c.args.text.now) c.new-own.ensures,
      parsed c.args.text.now c.as_bytes.result.now c.is_good_text.result c.as_bytes.ensures.value c.utf8.text c.is_good_text.ensures holds,
    )
