use Rattle.std.proofs.Common.{◌≡◌, subst, sym, ap, ◌∙◌, true, inl, inr}
use Rattle.uf_tree.specs.Names.{is_name}
use Rattle.std.specs.Str.{IsUtf8}
use Rattle.std.proofs.lemmas.Str.{IsUtf8-from_ascii}
use Rattle.uf_gen.specs.Rules.{file_name}
use Rattle.uf_gen.proofs.Names.{name-ascii, name-good}
use Rattle.uf_gen.proofs.rules.file_name.Goals as goal

pub unreachable-requires : goal.unreachable-requires
unreachable-requires c =
    let good : is_name c.in-Ok.text.now ≡ true = ap is_name (c.in-Ok.ensures.cases.0 ∙ c.name_bytes-bytes.ensures) ∙ name-good c.args.i in
    elim c.in-Err-Bad.ensures [ inl e ↦ absurd cc | inr p ↦ absurd cc ]

pub unreachable-requires-in-Err : goal.unreachable-requires-in-Err
unreachable-requires-in-Err c = c.in-Err.ensures.cases.0 (subst IsUtf8 (sym c.name_bytes-bytes.ensures) (IsUtf8-from_ascii (file_name c.args.i) (name-ascii c.args.i)))
