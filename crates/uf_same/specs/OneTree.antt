-- What the comparison of two trees' plans finds.
use Rattle.std.specs.Prelude.{◌≡◌, ℕ, List}
use Rattle.std.specs.declared.result.Result.TheVariants.{Ok, Err}
use Rattle.uf_cid.specs.Blocks.{IsClash}
use Rattle.uf_tree.specs.Tree.{Tree}
use Rattle.uf_same.specs.declared.answer.Compared.TheVariants as compared
use Rattle.uf_same.specs.Verdict.{Verdict}

-- the verdict is Equal, and the two trees are one, or it is the clash of two different blocks of one digest
abbrev pub FindsOneTree : (List ℕ → List ℕ) → Tree → Tree → Verdict → Type 0
FindsOneTree hash t u (Ok compared.Equal) = t ≡ u
FindsOneTree hash t u (Ok compared.Differ) = ⊥
FindsOneTree hash t u (Ok (compared.Clash c a b)) = IsClash hash a b
FindsOneTree hash t u (Err fault) = ⊥
