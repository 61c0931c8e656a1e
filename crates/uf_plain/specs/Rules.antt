-- The rules that refuse an edit, and the path that they are reported with.
use Rattle.std.specs.Prelude.{ℕ, List, [], ◌∷◌, take}
use Rattle.std.specs.declared.option.Option.{Option}
use Rattle.std.specs.declared.option.Option.TheVariants.{None, Some}
use Rattle.std.specs.declared.result.Result.{Result}
use Rattle.std.specs.declared.result.Result.TheVariants.{Ok, Err}
use Rattle.std.specs.List.{flat_map}
use Rattle.uf_tree.specs.declared.profile.Profile.{Profile}
use Rattle.uf_tree.specs.Tree.{Dir, Entries}
use Rattle.uf_tree.specs.TreePlan.{Refusal, FileTooLong as IsTooLong, Collision as Collides, TooBig as IsTooBig}
use Rattle.uf_tree.specs.TreePlan.{refusal}
use Rattle.uf_plain.specs.declared.rule.Refused.{Refused}
use Rattle.uf_plain.specs.declared.rule.Refused.TheVariants as why
use Rattle.uf_plain.specs.declared.rule.Rule.{Rule}
use Rattle.uf_plain.specs.declared.rule.Rule.TheVariants as rule

-- a path as text: `/`, and the names joined by `/`
abbrev pub path_text : List (List ℕ) → List ℕ
path_text [] = 47 ∷ []
path_text (name ∷ names) = flat_map (λ n. 47 ∷ n) (name ∷ names)

-- the rule that refuses a command with this path
abbrev pub rule_of : List (List ℕ) → Refused → Rule
rule_of names (why.NotFound k) = rule.NotFound (path_text (take k names))
rule_of names (why.NotADirectory k) = rule.NotADirectory (path_text (take k names))
rule_of names (why.IsADirectory k) = rule.IsADirectory (path_text (take k names))
rule_of names (why.Exists k) = rule.Exists (path_text (take k names))
rule_of names (why.NeedsRecursive k) = rule.NeedsRecursive (path_text (take k names))
rule_of names why.RootRefused = rule.RootRefused
rule_of names why.FileTooLong = rule.FileTooLong
rule_of names (why.Collision first second) = rule.Collision first second
rule_of names why.TooBig = rule.TooBig

-- why a tree without a plan is refused
abbrev pub refused_by : Refusal → Refused
refused_by IsTooLong = why.FileTooLong
refused_by (Collides first second) = why.Collision first second
refused_by IsTooBig = why.TooBig

-- this, unless there is a refusal
abbrev pub unless : {A : Type 0} → A → Option Refusal → Result A Refused
unless a None = Ok a
unless a (Some refusal) = Err (refused_by refusal)

-- the edited folder, unless it has no plan
abbrev pub allowed : (List ℕ → List ℕ) → (List ℕ → ℕ) → Profile → Result Entries Refused → Result Entries Refused
allowed X N p (Ok es) = unless es (refusal X N p (Dir es))
allowed X N p (Err why) = Err why
