-- Light proofs in commands: how high a file's nodes stand, and why `prove` and `check` are refused.
use Rattle.std.specs.Prelude.{◌≡◌, ◌⊎◌, ℕ, zero, suc, ◌+◌, List, length, nat_le, if◌then◌else◌}
use Rattle.std.specs.declared.result.Result.{Result}
use Rattle.std.specs.declared.result.Result.TheVariants.{Ok, Err}
use Rattle.uf_light.specs.declared.fault.LightFault.{LightFault}
use Rattle.uf_light.specs.declared.fault.LightFault.TheVariants as light
use Rattle.uf_plain.specs.Rules.{rule_of}
use Rattle.uf_plain.specs.declared.rule.Refused.{Refused}
use Rattle.uf_plain.specs.declared.rule.Refused.TheVariants as why
use Rattle.uf_tree.specs.FileSub.{lowest, span}
use Rattle.uf_tree.specs.Tree.{Tree, File, Dir}
use Rattle.uf_tree.specs.declared.meta.Meta.{Meta}
use Rattle.uf_tree.specs.declared.profile.Profile.{Profile}
use Rattle.uf_command.specs.Cars.{car_refusal}
use Rattle.uf_command.specs.Statuses.{no_memory}
use Rattle.uf_command.specs.declared.types.DagRule.TheVariants as dag
use Rattle.uf_command.specs.declared.types.Refusal.{Refusal}
use Rattle.uf_command.specs.declared.types.Refusal.TheVariants as refusal

-- the least height from this one on at which n bytes fit, in pieces of c and nodes of w links, tried so often
unfoldable pub height_from : (c w n tries height : ℕ) → ℕ
height_from c w n zero height = height
height_from c w n (suc tries) height =
    if nat_le n (span c w height) then height else height_from c w n tries (suc height)

-- the height of a file of n bytes: at least twice as many fit with each row more, so n tries are enough
abbrev pub file_height : Profile → Meta → ℕ → ℕ
file_height p m n = height_from p.chunk p.width n n (lowest m)

-- the height of what was found, where it is a file
abbrev pub height_found : Profile → Result Tree Refused → ℕ
height_found p (Ok (File m bytes)) = file_height p m (length bytes)
height_found p (Ok (Dir es)) = 0
height_found p (Err why) = 0

-- why a light proof isn't made, or isn't accepted, of what is at these names: a rule is reported with the path up to
-- the name that decides
abbrev pub light_refusal : List (List ℕ) → LightFault → Refusal
light_refusal names (light.NotFound place) = refusal.Rule (rule_of names (why.NotFound (place + 1)))
light_refusal names (light.NotADirectory place) = refusal.Rule (rule_of names (why.NotADirectory place))
light_refusal names light.IsADirectory = refusal.Rule (rule_of names (why.IsADirectory (length names)))
light_refusal names light.Exists = refusal.Rule (rule_of names (why.Exists (length names)))
light_refusal names (light.OtherRoot cid) = refusal.Dag (dag.OtherRoot cid)
light_refusal names (light.Car fault) = car_refusal fault
light_refusal names light.Sink = refusal.Write
light_refusal names (light.Store fault) = refusal.Store fault

-- a light proof of what the plain tree says of these names is this text, or why there is none
abbrev pub proof_told : List (List ℕ) → (text : List ℕ) → Result (List ℕ) LightFault → Result (List ℕ) Refusal
proof_told names text (Ok said) = Ok text
proof_told names text (Err fault) = Err (light_refusal names fault)

-- a rule of the tree refuses it
abbrev pub IsByRule : LightFault → Type 0
IsByRule (light.NotFound place) = Unit {0}
IsByRule (light.NotADirectory place) = Unit {0}
IsByRule light.IsADirectory = Unit {0}
IsByRule light.Exists = Unit {0}
IsByRule other = ⊥

-- the refusal is reported so, or there was no memory for the path of a rule
abbrev pub IsLightTold : List (List ℕ) → LightFault → Refusal → Type 0
IsLightTold names fault given = ((given ≡ no_memory) × IsByRule fault) ⊎ (given ≡ light_refusal names fault)

-- a call on light proofs was done, or refused so
abbrev pub EndsLight : List (List ℕ) → Result ℕ LightFault → Result (Unit {0}) Refusal → Type 0
EndsLight names (Ok n) done = done ≡ Ok tt
EndsLight names (Err fault) (Ok done) = ⊥
EndsLight names (Err fault) (Err given) = IsLightTold names fault given

-- a light proof is read up to this number of bytes
abbrev pub most_of_proof : ℕ
most_of_proof = 1073741824
