-- The lines of a batch as steps of a history.
use Rattle.std.specs.Prelude.{◌≡◌, ◌⊎◌, ℕ, List, [], ◌∷◌, map}
use Rattle.std.specs.List.{AllByRecursion}
use Rattle.std.specs.declared.option.Option.{Option}
use Rattle.std.specs.declared.option.Option.TheVariants.{None, Some}
use Rattle.std.specs.declared.result.Result.{Result}
use Rattle.std.specs.declared.result.Result.TheVariants.{Err}
use Rattle.uf_cid.specs.declared.cid.Cid.{Cid}
use Rattle.uf_edge.specs.Host.{HostTree}
use Rattle.uf_command.specs.Batches.{line_in}
use Rattle.uf_command.specs.Statuses.{no_memory}
use Rattle.uf_command.specs.declared.types.Command.{Command}
use Rattle.uf_command.specs.declared.types.Refusal.{Refusal}
use Rattle.uf_top.specs.Batch.{AtLine, Ending}
use Rattle.uf_top.specs.Reply.{Outside}
use Rattle.uf_headline.specs.History.{Step}

-- a line without a word asks for nothing
abbrev pub with_word : Option (Result Command Refusal) → List (Result Command Refusal) → List (Result Command Refusal)
with_word None rest = rest
with_word (Some asked) rest = asked ∷ rest

-- what lines ask for, one after the other
abbrev pub asked_by : List (List ℕ) → List (Result Command Refusal)
asked_by [] = []
asked_by (line ∷ lines) = with_word (line_in line) (asked_by lines)

-- what a line finds outside of the tree: no input, the host, and the pins
abbrev pub outside_line : HostTree → Option (List Cid) → Outside
outside_line host pins = record { input = []; host = host; pins = pins }

-- the steps are those of the lines, one for each that has a word
pub record AreOfLines (host : HostTree) (lines : List (List ℕ)) (steps : List Step) : Type 0 where
  pub asked : map (λ (s : Step). s.asked) steps ≡ asked_by lines
  pub outside : AllByRecursion (λ (s : Step). s.outside ≡ outside_line host s.outside.pins) steps

-- a call is of a line: of what it asks for, or, where there was no memory to read it, of words that are refused for
-- that
abbrev pub IsOfLine : List ℕ → Step → Type 0
IsOfLine line step = (line_in line ≡ Some step.asked) ⊎ (step.asked ≡ Err no_memory)

-- the calls are those of the lines, one for each that has a word, with no input and this host
abbrev pub AreCallsOf : HostTree → List (List ℕ) → List Step → Type 0
AreCallsOf host [] steps = steps ≡ []
AreCallsOf host (line ∷ lines) steps = ((line_in line ≡ None) × AreCallsOf host lines steps)
    ⊎ ((step : Step) × (rest : List Step) × (steps ≡ step ∷ rest) × IsOfLine line step
    × (step.outside ≡ outside_line host step.outside.pins) × AreCallsOf host lines rest)

module _ (X : List ℕ → List ℕ) (N : List ℕ → ℕ) where
  -- the lines of a batch that were done: with the one that ended it, where one did
  abbrev pub with_last : List (List ℕ) → Ending X N → List (List ℕ)
  with_last [] (AtLine line) = line ∷ []
  with_last [] other = []
  with_last (line ∷ lines) ending = line ∷ with_last lines ending
