use Rattle.uf_build.specs.Building.{Any, IsHeld, HasFed, HoldsFed}
use Rattle.uf_build.proofs.Feeding.{builds-mono, held-mono}
use Rattle.uf_build.proofs.laws.what_was_saved_stays_held.Goals as goal

pub returns-clause-held : goal.returns-clause-held
unfolding HoldsFed
returns-clause-held c = λ X bytes told told_now b keeps h. builds-mono X b.profile (IsHeld told) (IsHeld told_now) (held-mono X b.profile told told_now keeps) bytes b.begun b.rows h

pub returns-clause-fed : goal.returns-clause-fed
unfolding HasFed HoldsFed
returns-clause-fed c = λ X bytes told b h. builds-mono X b.profile (IsHeld told) Any (λ block good held. tt) bytes b.begun b.rows h
