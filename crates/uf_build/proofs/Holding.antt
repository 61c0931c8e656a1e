-- What is held where calls of a builder follow each other.
use Rattle.std.proofs.Common.{◌≡◌, ℕ, List, [], ◌∷◌}
use Rattle.std.specs.Prelude.{Some, None, OnErr}
use Rattle.std.specs.declared.result.Result.{Result}
use Rattle.std.specs.declared.result.Result.TheVariants.{Ok, Err}
use Rattle.std.specs.List.{AllByRecursion}
use Rattle.uf_cid.specs.Blocks.{Held}
use Rattle.uf_store.specs.Contents.{Told}
use Rattle.uf_store.specs.Keeping.{Holds, KeepsGood}
use Rattle.uf_store.proofs.Keeping.{Holds-kept, Holds-append}
use Rattle.uf_build.specs.Building.{IsHeld}

pub Holds-nil : (a : Told) → Holds a []
Holds-nil None = tt
Holds-nil (Some t) = tt

-- a block that was held before, and those that are held now
pub Holds-more : (hash : List ℕ → List ℕ) (a b : Told) (block : Held) (l : List Held) → hash block.1 ≡ block.0.digest → KeepsGood hash a b
    → Holds a (block ∷ []) → Holds b l → Holds b (block ∷ l)
Holds-more hash a b block l good keeps before now = Holds-append b (block ∷ []) l (Holds-kept hash a b (block ∷ []) (good, tt) keeps before) now

pub each-held : (a : Told) (l : List Held) → Holds a l → AllByRecursion (IsHeld a) l
each-held a [] h = tt
each-held None (b ∷ l) h = (tt, each-held None l tt)
each-held (Some t) (b ∷ l) h = ((h.0, tt), each-held (Some t) l h.1)

pub held-each : (a : Told) (l : List Held) → AllByRecursion (IsHeld a) l → Holds a l
held-each a [] h = Holds-nil a
held-each None (b ∷ l) h = tt
held-each (Some t) (b ∷ l) h = (h.0.0, held-each (Some t) l h.1)

pub on_err_given : {T E Q : Type 0} (r : Result T E) → Q → OnErr r Q
on_err_given (Ok x) q = tt
on_err_given (Err e) q = q
