use Rattle.std.proofs.Common.{[], ◌∷◌, ap}
use Rattle.uf_build.specs.Building.{Any, IsHeld, HasFed, HoldsFed, saved_by}
use Rattle.uf_build.specs.Rows.{saved_all}
use Rattle.uf_build.proofs.Feeding.{builds-new}
use Rattle.uf_build.proofs.builder.Builder.new.Goals as goal

pub returns-clause-fed : goal.returns-clause-fed
unfolding HasFed
returns-clause-fed c = λ X. builds-new X Any c.args.p c.new.result.items ([] ∷ c.new-2.result.items) c.new.ensures.items (ap (λ rows. [] ∷ rows) c.new-2.ensures.items)

pub returns-clause-held : goal.returns-clause-held
unfolding HoldsFed
returns-clause-held c = λ X told. builds-new X (IsHeld told) c.args.p c.new.result.items ([] ∷ c.new-2.result.items) c.new.ensures.items (ap (λ rows. [] ∷ rows) c.new-2.ensures.items)

pub returns-clause-saved : goal.returns-clause-saved
unfolding saved_by
returns-clause-saved c = ap (λ rows. saved_all c.args.p.width ([] ∷ rows)) c.new-2.ensures.items
