use Rattle.std.proofs.Common.{arith}
use Rattle.uf_words.proofs.Escapes.{shown_encoded, bytes_from}
use Rattle.uf_words.proofs.printing.shown.Goals as goal

pub returns : goal.returns
returns c =
    let small = bytes_from c.args.text.now (λ i within. omega (arith, c.type_inv.text i)) in
    rw (c.in_ok-push_str.ensures.ok, c.new-own.ensures, c.as_str.ensures.value, c.in_ok-encoded.ensures.value, c.utf8_percent_encode.ensures.text) (shown_encoded c.args.text.now small)
