-- Paths followed name by name.
use Rattle.std.proofs.Common.{◌≡◌, ℕ, ◌+◌, ◌<◌, List, ◌∷◌, drop, get_or, length, sym, ap, ◌∙◌}
use Rattle.std.proofs.lemmas.List.{drop_more}
use Rattle.uf_cid.specs.Blocks.{Lookup}
use Rattle.uf_cid.specs.declared.cid.Cid.{Cid}
use Rattle.uf_lenient.specs.declared.fault.DagFault.{DagFault}
use Rattle.uf_lenient.specs.declared.shapes.Limits.{Limits}
use Rattle.uf_lenient.specs.Answers.{IsFault}
use Rattle.uf_lenient.specs.Reading.{resolve_from, step_of}
use Rattle.uf_lenient.proofs.Saying.{fault-is, fault-then}

-- the fault at one name is that of the path
pub path-fault : (held : Lookup) (limits : Limits) (names shown : List (List ℕ)) (start c : Cid) (at : ℕ) (name : List ℕ) (fault : DagFault) → shown ≡ names → at < length shown → name ≡ get_or shown at name
    → resolve_from held limits 0 shown start ≡ resolve_from held limits at (drop at shown) c → IsFault (step_of held limits at name c) fault → IsFault (resolve_from held limits 0 names start) fault
path-fault held limits names shown start c at name fault same within is reached fails =
    fault-is (resolve_from held limits at (name ∷ drop (at + 1) shown) c) (resolve_from held limits 0 names start) fault
    (ap (λ (l : List (List ℕ)). resolve_from held limits 0 l start) (sym same) ∙ reached ∙ ap (λ (l : List (List ℕ)). resolve_from held limits at l c) (drop_more shown at name within ∙ ap (λ (n : List ℕ). n ∷ drop (at + 1) shown) (sym is)))
    (fault-then (step_of held limits at name c) (λ next. resolve_from held limits (at + 1) (drop (at + 1) shown) next) fault fails)
