-- What is so of every step, whether its words are refused or are a command.
use Rattle.std.proofs.Common.{ℕ, List}
use Rattle.uf_headline.proofs.Ran.{Ran, ran}
use Rattle.uf_headline.specs.History.{DidRun, Step}

pub step-ran : (X : List ℕ → List ℕ) (N : List ℕ → ℕ) (step : Step) → DidRun X N step → Ran X N step.asked step.given step.before step.now
step-ran X N step runs = ran X N step.asked step.given step.before step.now runs
