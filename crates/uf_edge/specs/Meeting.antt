-- What a walk over a host's folders meets at a path.
use Rattle.std.specs.Prelude.{◌≡◌, ℕ, List, Bool, true, false, None, ⊤}
use Rattle.uf_edge.specs.declared.meeting.Met.{Met}
use Rattle.uf_edge.specs.declared.meeting.Met.TheVariants.{File, Folder, Other, Absent, Failed, Memory}
use Rattle.uf_edge.specs.Host.{AreNames, HostTold, IsAbsentAt, IsFileAt, IsFolderAt}

-- a file, a folder with its names, or nothing is there; something else is met only in a host that doesn't tell
abbrev pub Meets : Met → HostTold → List ℕ → Type 0
Meets File told path = IsFileAt told path
Meets (Folder names) told path = IsFolderAt told path × AreNames names told path
Meets Other told path = told ≡ None
Meets Absent told path = IsAbsentAt told path
Meets Failed told path = ⊤
Meets Memory told path = ⊤

abbrev pub is_meeting_fault : Met → Bool
is_meeting_fault Failed = true
is_meeting_fault met = false
