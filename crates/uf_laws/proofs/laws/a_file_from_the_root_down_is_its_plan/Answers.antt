use Rattle.std.proofs.Common.{◌≡◌}
use Rattle.std.specs.Prelude.{IfSome, Some}
use Rattle.uf_tree.proofs.Rows.{file_plan-rows, plan-sub, sub-plan}
use Rattle.uf_tree.proofs.Told.{kept}
use Rattle.uf_laws.proofs.laws.a_file_from_the_root_down_is_its_plan.Goals as goal

pub returns : goal.returns
returns c = λ X p m bytes h.
    let pos = (kept p h).some in
    let two = (kept p h).two in
    let r = file_plan-rows X p m bytes pos two in (
      r.0,
      record {
        least = r.2;
        entry = r.1;
        holds = λ held. (plan-sub X p m bytes pos two (λ b. held b.0 ≡ Some b.1) r.0 r.2.fits _ r.3, sub-plan X p m bytes pos two (λ b. held b.0 ≡ Some b.1) r.0 r.2.fits _ r.3);
        agrees = λ held. (plan-sub X p m bytes pos two (λ b. IfSome (held b.0) (λ found. found ≡ b.1)) r.0 r.2.fits _ r.3, sub-plan X p m bytes pos two (λ b. IfSome (held b.0) (λ found. found ≡ b.1)) r.0 r.2.fits _ r.3);
      },
    )
