use Rattle.std.proofs.Common.{subst}
use Rattle.std.specs.Prelude.{nat_eq, codes}
use Rattle.std.proofs.lemmas.Bool.Decides.{Decides-eqb}
use Rattle.std.proofs.lemmas.Slice.Eq.{slice_eq-Decides, strip_prefix_is}
use Rattle.uf_mfs.proofs.Versions.{Stripped, front, never-else, rest-decides, text-decides}
use Rattle.uf_mfs.proofs.opening.names_same.Goals.{in_default-via-in-Some+in_default, in_default-via-in_default}
use Rattle.uf_mfs.proofs.opening.names_same.Goals as goal

pub returns-in-Some-Some : goal.returns-in-Some-Some
returns-in-Some-Some c = λ p root is.
    let older = strip_prefix_is {E = nat_eq} Decides-eqb c.args.there.now (front (codes "1")) c.strip_prefix.result c.strip_prefix.ensures.cases in
    let newer = strip_prefix_is {E = nat_eq} Decides-eqb c.args.text.now (front (codes "2")) c.strip_prefix-2.result c.strip_prefix-2.ensures.cases in
    rest-decides c.args.there.now c.args.text.now p root is c.in-Some-Some.old.now c.in-Some-Some.new.now c.eq.result
    (subst (Stripped c.args.there.now (front (codes "1"))) c.in-Some-Some.is-0 older)
    (subst (Stripped c.args.text.now (front (codes "2"))) c.in-Some-Some.is-1 newer)
    (slice_eq-Decides {E = nat_eq} Decides-eqb c.in-Some-Some.old.now c.in-Some-Some.new.now c.eq.result c.eq.ensures)

pub returns-in_default : goal.returns-in_default
returns-in_default c = λ p root is.
    let older = strip_prefix_is {E = nat_eq} Decides-eqb c.args.there.now (front (codes "1")) c.strip_prefix.result c.strip_prefix.ensures.cases in
    let newer = strip_prefix_is {E = nat_eq} Decides-eqb c.args.text.now (front (codes "2")) c.strip_prefix-2.result c.strip_prefix-2.ensures.cases in
    let same = slice_eq-Decides {E = nat_eq} Decides-eqb c.args.there.now c.args.text.now c.eq-in_default.result c.eq-in_default.ensures in
    elim c.in_default.branch [
      | in_default-via-in-Some+in_default w ↦ absurd (never-else c.args.there.now c.args.text.now p root is (subst (Stripped c.args.text.now (front (codes "2"))) w.in_default.is-1 newer))
      | in_default-via-in_default w ↦ text-decides c.args.there.now c.args.text.now p root is c.eq-in_default.result (subst (Stripped c.args.there.now (front (codes "1"))) w.in_default.is-0 older) same
    ]
