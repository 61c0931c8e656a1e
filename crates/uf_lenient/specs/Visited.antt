-- Which CIDs the reading of a file visits, and what calls give together, each of which makes one visit over a map of
-- its own.
use Rattle.std.specs.Prelude.{◌≡◌, ℕ, zero, suc, ◌-◌, List, [], ◌∷◌, ◌++◌, map, take, ⊤, Some, None}
use Rattle.std.specs.List.{AllByRecursion}
use Rattle.std.specs.declared.option.Option.{Option}
use Rattle.std.specs.declared.result.Result.{Result}
use Rattle.std.specs.declared.result.Result.TheVariants.{Ok, Err}
use Rattle.uf_cid.specs.declared.cid.Cid.{Cid}
use Rattle.uf_cid.specs.Blocks.{Lookup}
use Rattle.uf_dagpb.specs.declared.node.Link.{Link}
use Rattle.uf_tree.specs.Cutting.{joined}
use Rattle.uf_lenient.specs.declared.due.Due.{Due}
use Rattle.uf_lenient.specs.declared.fault.DagFault.{DagFault}
use Rattle.uf_lenient.specs.declared.shapes.Limits.{Limits}
use Rattle.uf_lenient.specs.Answers.{IsFault}
use Rattle.uf_lenient.specs.Pending.{own_part, parts_due}
use Rattle.uf_lenient.specs.Reading.{Visits}
use Rattle.uf_lenient.specs.Steps.{IsPiece, Rest, start_of}

-- a CID that is visited where a depth is left for it, and those that are visited after it
abbrev pub visited_first : ℕ → Cid → List Cid → List Cid
visited_first zero c more = []
visited_first (suc left) c more = c ∷ more

-- those that `visits` has after a node: none where it is no part of a file
abbrev pub visited_below : (List Due → List Cid) → ℕ → List Due → Visits (List ℕ × List Link) → List Cid
visited_below visits left ds (Ok own) = visits (parts_due (left - 1) own.0.1 ++ ds)
visited_below visits left ds (Err fault) = []

module _ (held : Lookup) where
  -- the CIDs that are visited while what is due of a file is read, one after the other, where n visits are left
  abbrev pub visited_from : ℕ → List Due → List Cid
  visited_from zero ds = []
  visited_from (suc n) [] = []
  visited_from (suc n) (d ∷ ds) =
      visited_first d.left d.cid (visited_below (visited_from n) d.left ds (own_part held d (suc n)))

  abbrev pub visited_by : Rest → List Cid
  visited_by rest = visited_from rest.1 rest.0

  -- the CIDs that the reading of the file under a CID visits
  abbrev pub file_visits : Limits → Cid → List Cid
  file_visits limits c = visited_by (start_of limits c)

  -- the next one that is due was visited, and no other one
  abbrev pub VisitsNext : Rest → Rest → Type 0
  VisitsNext before now = visited_by before ≡ take 1 (map (λ (d : Due). d.cid) before.0) ++ visited_by now

  -- a call gave this piece, and made one visit
  pub record GavePiece (before now : Rest) (piece : List ℕ) : Type 0 where
    pub gives : IsPiece held before now (Ok piece)
    pub visits : VisitsNext before now

-- two maps hold the same under these CIDs
abbrev pub AgreeUnder : Lookup → Lookup → List Cid → Type 0
AgreeUnder left right cids = AllByRecursion (λ c. left c ≡ right c) cids

-- calls one after the other, each over a map of its own, gave these pieces
abbrev pub GavePieces : List (Lookup × List ℕ) → Rest → Rest → Type 0
GavePieces [] before now = now ≡ before
GavePieces (x ∷ xs) before now = (next : Rest) × GavePiece x.0 before next x.1 × GavePieces xs next now

-- the pieces after each other
abbrev pub pieces_of : List (Lookup × List ℕ) → List ℕ
pieces_of calls = joined (map (λ (x : Lookup × List ℕ). x.1) calls)

-- so far the file under a CID was given by calls, and each of their maps holds the same as this one under each CID that
-- the reading of the file visits
pub record GaveOfFile (held : Lookup) (limits : Limits) (c : Cid) (calls : List (Lookup × List ℕ)) (now : Rest)
    : Type 0 where
  pub given : GavePieces calls (start_of limits c) now
  pub agree : AllByRecursion (λ x. AgreeUnder held x.0 (file_visits held limits c)) calls

-- what a call answers after these pieces of a file: the file ends with them, or its fault; or there is a piece more
abbrev pub EndsPieces : Result (List ℕ) DagFault → List ℕ → Result (Option (List ℕ)) DagFault → Type 0
EndsPieces said pieces (Ok None) = said ≡ Ok pieces
EndsPieces said pieces (Ok (Some piece)) = ⊤
EndsPieces said pieces (Err fault) = IsFault said fault
