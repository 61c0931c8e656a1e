-- Bytes laid over those of a file, and a file cut.
use Rattle.std.specs.Prelude.{ℕ, ◌+◌, ◌-◌, List, [], ◌∷◌, ◌++◌, length, take, drop, replicate}

-- x over the bytes of b from a place on, after zeros where b ends before it; of nothing, b
abbrev pub laid : List ℕ → ℕ → List ℕ → List ℕ
laid b offset [] = b
laid b offset (z ∷ x) = take offset (b ++ replicate (offset - length b) 0) ++ (z ∷ x)
    ++ drop (offset + length (z ∷ x)) b

-- the first bytes of b, and zeros where b ends before
abbrev pub cut_to : List ℕ → ℕ → List ℕ
cut_to b size = take size b ++ replicate (size - length b) 0
