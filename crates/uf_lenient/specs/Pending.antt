-- The same reading one visit after the other: what is still to be visited, and what comes of it.
use Rattle.std.specs.Prelude.{ℕ, List, [], ◌∷◌, ◌++◌, drop, map}
use Rattle.std.specs.declared.result.Result.{Result}
use Rattle.std.specs.declared.result.Result.TheVariants.{Ok, Err}
use Rattle.uf_varint.specs.Fields.{◌>>=◌}
use Rattle.uf_cid.specs.Blocks.{Lookup}
use Rattle.uf_cid.specs.declared.cid.Cid.{Cid}
use Rattle.uf_dagpb.specs.declared.node.Link.{Link}
use Rattle.uf_lenient.specs.declared.due.Due.{Due}
use Rattle.uf_lenient.specs.declared.due.Frame.{Frame}
use Rattle.uf_lenient.specs.declared.due.Visited.TheVariants.{Whole, File, Part}
use Rattle.uf_lenient.specs.declared.fault.DagFault.{DagFault}
use Rattle.uf_lenient.specs.declared.found.Found.{Found}
use Rattle.uf_lenient.specs.declared.gathered.Gathered.{Gathered}
use Rattle.uf_lenient.specs.declared.gathered.Gathered.TheVariants.{File as IsFile, Folder as IsFolder}
use Rattle.uf_lenient.specs.declared.unixfs.Unixfs.{Unixfs}
use Rattle.uf_lenient.specs.Reading.{◌>>◌, Visits, Ways, file_under, part_bytes, shard_ways, unvisited, sub_ways, tree_under, visit_of}
use Rattle.uf_lenient.specs.Unixfs.{as_file, as_part, as_shard}

-- how many visits are left after a reading, or its first fault
abbrev pub how_ends : {A : Type 0} → Visits A → Result ℕ DagFault
how_ends (Ok x) = Ok x.1
how_ends (Err e) = Err e

-- a part of a file, and a member of a directory
abbrev pub part_due : ℕ → Link → Due
part_due left l = record { cid = l.cid; left = left; visited = Part }

abbrev pub parts_due : ℕ → List Link → List Due
parts_due left links = map (part_due left) links

abbrev pub way_due : List ℕ × Found → Due
way_due w = record { cid = w.1.cid; left = w.1.left; visited = Whole }

-- what is below the first node of a file, or the members of a directory
abbrev pub gathered_due : ℕ → Gathered → List Due
gathered_due left (IsFile meta bytes links) = parts_due left links
gathered_due left (IsFolder meta ways) = map way_due ways

module _ (held : Lookup) where
  -- the links of the shard that a shard links, which is visited
  abbrev pub own_shard : ℕ → Cid → ℕ → Visits (List Link)
  own_shard left c n = visit_of held left c n >> λ u m. unvisited m (as_shard c u)

  -- the ways of the shards in a pile, from its top down
  abbrev pub frame_ways : Frame → Ways → ℕ → Visits Ways
  frame_ways f met n = shard_ways (sub_ways held f.left) f.by f.left (drop f.at f.links) met n

  abbrev pub frames_ways : List Frame → Ways → ℕ → Visits Ways
  frames_ways [] met n = Ok (met, n)
  frames_ways (f ∷ fs) met n = frame_ways f met n >> λ more m. frames_ways fs more m

  -- how the reading of what is due ends
  abbrev pub due_ends : Due → ℕ → Result ℕ DagFault
  due_ends d n = elim d.visited [
    | Whole ↦ how_ends (tree_under held d.left d.cid n)
    | File ↦ how_ends (file_under held d.left d.cid n)
    | Part ↦ how_ends (part_bytes held d.left d.cid n)
  ]

  abbrev pub all_end : List Due → ℕ → Result ℕ DagFault
  all_end [] n = Ok n
  all_end (d ∷ ds) n = due_ends d n >>= λ m. all_end ds m

  -- the own bytes and the links of a node of a file, which is visited
  abbrev pub as_due : Due → Unixfs → Result (List ℕ × List Link) DagFault
  as_due d u = elim d.visited [ Whole ↦ as_file d.cid u | File ↦ as_file d.cid u | Part ↦ as_part d.cid u ]

  abbrev pub own_part : Due → ℕ → Visits (List ℕ × List Link)
  own_part d n = visit_of held d.left d.cid n >> λ u m. unvisited m (as_due d u)

  -- the bytes of what is due: of a file or of a part of one
  abbrev pub due_bytes : Due → ℕ → Visits (List ℕ)
  due_bytes d n = elim d.visited [
    | Whole ↦ file_under held d.left d.cid n
    | File ↦ file_under held d.left d.cid n
    | Part ↦ part_bytes held d.left d.cid n
  ]

  abbrev pub all_bytes : List Due → ℕ → Visits (List ℕ)
  all_bytes [] n = Ok ([], n)
  all_bytes (d ∷ ds) n = due_bytes d n >> λ bytes m. all_bytes ds m >> λ more k. Ok (bytes ++ more, k)
