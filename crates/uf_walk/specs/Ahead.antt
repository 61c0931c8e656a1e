-- What is ahead of a walk, and was met already.
use Rattle.std.specs.Prelude.{◌≡◌, ℕ, true, false, List, [], ◌∷◌, ◌++◌}
use Rattle.std.specs.List.{AllByRecursion}
use Rattle.std.specs.declared.result.Result.{Result}
use Rattle.std.specs.declared.result.Result.TheVariants.{Ok, Err}
use Rattle.uf_cid.specs.declared.cid.Cid.{Cid}
use Rattle.uf_walk.specs.declared.turn.WalkFault.{WalkFault}
use Rattle.uf_walk.specs.declared.turn.WalkFault.TheVariants as fault
use Rattle.uf_walk.specs.Order.{is_met}

-- some that were met were taken away from the start
pub record Passed (met before now : List Cid) : Type 0 where
  pub passed : List Cid
  pub front : before ≡ passed ++ now
  pub all_met : AllByRecursion (λ c. is_met met c ≡ true) passed

-- the first, where there is one, is new
abbrev pub StartsNew : List Cid → List Cid → Type 0
StartsNew met [] = Unit {0}
StartsNew met (c ∷ ahead) = is_met met c ≡ false

-- what was met was taken away from the start, up to the first new one
pub record PassesOver (met before now : List Cid) : Type 0 where
  pub past : Passed met before now
  pub starts_new : StartsNew met now

-- the links of a block, as they are read, were put before what is ahead
pub record PutsAhead (said : Result (List Cid) ℕ) (before now : List Cid) : Type 0 where
  pub links : List Cid
  pub reads : said ≡ Ok links
  pub ahead : now ≡ links ++ before

-- the block is no node, and nothing has changed
pub record RefusesNode (c d : Cid) (why : ℕ) (said : Result (List Cid) ℕ) (before now : List Cid) : Type 0 where
  pub same : d ≡ c
  pub reads : said ≡ Err why
  pub unchanged : now ≡ before

-- the links of a CID's block are ahead, or why they aren't
abbrev pub LinksAhead : Cid → Result (List Cid) ℕ → Result Unit WalkFault → List Cid → List Cid → Type 0
LinksAhead c said (Ok t) before now = PutsAhead said before now
LinksAhead c said (Err (fault.NotDagPb d why)) before now = RefusesNode c d why said before now
LinksAhead c said (Err fault.Memory) before now = now ≡ before
