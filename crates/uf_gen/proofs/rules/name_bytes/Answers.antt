use Rattle.std.proofs.Common.{refl}
use Rattle.uf_gen.specs.Rules.{digits}
use Rattle.uf_gen.proofs.rules.name_bytes.Goals as goal

pub returns : goal.returns
unfolding digits
returns c = rw (c.digit.ensures, c.digit-2.ensures, c.digit-3.ensures, c.digit-4.ensures, c.digit-5.ensures, c.digit-6.ensures, c.digit-7.ensures, c.digit-8.ensures) refl
