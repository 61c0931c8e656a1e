use Rattle.std.proofs.Common.{◌≡◌, ap, cond, ◌∙◌, inr, List, ℕ, Ok, Err, Result}
use Rattle.std.proofs.lemmas.Bool.{false_from_ne_true}
use Rattle.std.proofs.lemmas.Str.{is_utf8-from_IsUtf8, IsUtf8-from_is_utf8}
use Rattle.uf_dagpb.specs.declared.fault.PbFault.{PbFault}
use Rattle.uf_dagpb.specs.declared.fault.PbFault.TheVariants as pb
use Rattle.uf_dagpb.proofs.links.text_in.Goals as goal

abbrev found : List ℕ → Result (List ℕ) PbFault
found bytes = Ok bytes

pub returns-in_ok-push_str-in-Ok : goal.returns-in_ok-push_str-in-Ok
returns-in_ok-push_str-in-Ok c =
    let bytes = c.args.bytes.now in
    let e : bytes ≡ c.push_str.new.self = let h = c.in_ok-push_str-in-Ok.ensures.ok in let k = c.in-Ok.ensures.cases.0 in cc in
    ap (λ t. cond t (found bytes) (Err pb.NotText)) (is_utf8-from_IsUtf8 bytes c.in-Ok.ensures.cases.1) ∙ ap found e

pub returns-in-Err : goal.returns-in-Err
returns-in-Err c =
    let bytes = c.args.bytes.now in
    inr (ap (λ t. cond t (found bytes) (Err pb.NotText)) (false_from_ne_true _ (λ e. c.in-Err.ensures.cases.0 (IsUtf8-from_is_utf8 bytes e))))
