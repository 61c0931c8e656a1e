use Rattle.std.proofs.Common.{◌≡◌, ◌⊎◌, true, false, sym, ap, subst, ◌∙◌, inl, inr}
use Rattle.std.specs.Str.{IsUtf8}
use Rattle.uf_tree.specs.Names.{is_name}
use Rattle.uf_tree.specs.declared.name.NameFault.{NameFault}
use Rattle.uf_tree.specs.declared.name.NameFault.TheVariants as faults
use Rattle.uf_command.proofs.CidNames.{text-name, text-utf8}
use Rattle.uf_command.proofs.dags.text_name.Goals as goal

pub unreachable-requires : goal.unreachable-requires
unreachable-requires c = c.in-Err.ensures.cases.0 (subst IsUtf8 (sym c.text-bytes.ensures) (text-utf8 c.args.cid.now))

pub unreachable-requires-in-Err-Bad : goal.unreachable-requires-in-Err-Bad
unreachable-requires-in-Err-Bad c = by c.in-Err-Bad.field-0 c.in-Err-Bad.field-0-is c.in-Err-Bad.ensures
  where
    good : is_name c.in-Ok.text.now ≡ true
    good = ap is_name (c.in-Ok.ensures.cases.0 ∙ c.text-bytes.ensures) ∙ text-name c.args.cid.now c.cids_are_whole.ensures

    by : (f : NameFault) → f ≡ faults.Bad → (f ≡ faults.Memory) ⊎ ((f ≡ faults.Bad) × (is_name c.in-Ok.text.now ≡ false)) → ⊥
    by f bad (inl memory) = (let e : faults.Memory ≡ faults.Bad = sym memory ∙ bad in cc)
    by f bad (inr both) = (let e : true ≡ false = sym good ∙ both.1 in cc)
