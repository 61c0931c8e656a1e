use Rattle.std.proofs.Common.{◌≡◌, ◌++◌, ◌∷◌, take, List, ℕ}
use Rattle.std.specs.Prelude.{codes}
use Rattle.std.specs.List.{flat_map}
use Rattle.uf_cid.specs.Cid.{cid_text}
use Rattle.uf_words.specs.Shown.{shown_bytes}
use Rattle.uf_command.proofs.dags.with_path.Given as goal

abbrev pub invariant-loop-name : goal.invariant-loop-name
invariant-loop-name l = l.out ≡ l.word ++ codes "/ipfs/" ++ cid_text l.path.cid ++ flat_map (λ (name : List ℕ). 47 ∷ shown_bytes name) (take l.name-index l.path.names)
