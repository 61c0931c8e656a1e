-- What the bytes of a CAR say (CARv1): its sections up to the first fault, and its roots or that fault. A place is the
-- number of the byte with which the header or a section begins.
use Rattle.std.specs.Prelude.{ℕ, zero, suc, ◌+◌, ◌-◌, ◌≤◌, ◌<◌, ◌==◌, ◌||◌, min, nat_eq, nat_lt, Bool, true, false}
use Rattle.std.specs.Prelude.{List, [], ◌∷◌, length, take, drop, if◌then◌else◌}
use Rattle.std.specs.Cmp.Lexicographic.{pointwise}
use Rattle.std.specs.declared.result.Result.{Result}
use Rattle.std.specs.declared.result.Result.TheVariants.{Ok, Err}
use Rattle.uf_varint.specs.declared.varint.Var.{Var}
use Rattle.uf_varint.specs.declared.varint.Var.TheVariants.{Value, Short, Bad}
use Rattle.uf_varint.specs.Varint.{read_multi_of}
use Rattle.uf_cid.specs.Blocks.{Held}
use Rattle.uf_cid.specs.Read.{cid_at}
use Rattle.uf_cid.specs.declared.cid.Cid.{Cid}
use Rattle.uf_cid.specs.declared.cid.CidFault.{CidFault}
use Rattle.uf_car.specs.declared.fault.CarFault.{CarFault}
use Rattle.uf_car.specs.declared.fault.CarFault.TheVariants as fault
use Rattle.uf_car.specs.declared.section.Opening.{Opening}
use Rattle.uf_car.specs.declared.section.Opening.TheVariants.{End, Cut, Wrong, Found}
use Rattle.uf_car.specs.Headers.{IsOfBytes, header_of}

-- the block of a section of n bytes after a CID that was read
abbrev pub sized : Cid → ℕ → ℕ → ℕ → Opening
sized c place front size = if nat_lt 2097152 size then Wrong (fault.TooBigBlock place size) else Found c front size

abbrev pub with_cid : ℕ → ℕ → ℕ → Result (Cid × ℕ) CidFault → Opening
with_cid place count used (Ok found) = sized found.0 place (used + found.1) (count - found.1)
with_cid place count used (Err why) = Wrong (fault.BadCid place)

-- a section of n bytes: at most 36 of them are read for its CID
abbrev pub behind_length : ℕ → ℕ → ℕ → List ℕ → Opening
behind_length place count used rest =
    if nat_lt (length rest) (min count 36) then Cut else with_cid place count used (cid_at (take (min count 36) rest))

abbrev pub with_section_length : ℕ → List ℕ → Var → Opening
with_section_length place bytes (Value count used) = behind_length place count used (drop used bytes)
with_section_length place bytes Short = Cut
with_section_length place bytes Bad = Wrong (fault.BadLength place)

-- how a section begins
unfoldable pub opening_of : ℕ → List ℕ → Opening
opening_of place [] = End
opening_of place (b ∷ bytes) = with_section_length place (b ∷ bytes) (read_multi_of (b ∷ bytes))

-- a block is no longer than it may be, and at most 45 bytes stand before it
abbrev pub within_section : Opening → Type 0
within_section End = Unit {0}
within_section Cut = Unit {0}
within_section (Wrong f) = IsOfBytes f
within_section (Found c front size) = (0 < front) × (front ≤ 45) × (size ≤ 2097152)

-- a section: nothing is left, the bytes end inside it, it is wrong, or its block, and how many bytes it has
pub data Section : Type 0 where
  NothingLeft : Section
  EndsInside : Section
  IsWrong : CarFault → Section
  Has : Held → ℕ → Section

-- a block is that of its CID
abbrev pub checked : (List ℕ → List ℕ) → ℕ → Cid → List ℕ → ℕ → Section
checked hash place c block used =
    if pointwise nat_eq (hash block) c.digest then Has (c, block) used else IsWrong (fault.WrongDigest place c)

abbrev pub with_opening : (List ℕ → List ℕ) → ℕ → List ℕ → Opening → Section
with_opening hash place bytes End = NothingLeft
with_opening hash place bytes Cut = EndsInside
with_opening hash place bytes (Wrong f) = IsWrong f
with_opening hash place bytes (Found c front size) =
    elim (nat_lt (length bytes) (front + size)) [
      | true ↦ EndsInside
      | false ↦ checked hash place c (take size (drop front bytes)) (front + size)
    ]

-- the section at the start
abbrev pub section_of : (List ℕ → List ℕ) → ℕ → List ℕ → Section
section_of hash place bytes = with_opening hash place bytes (opening_of place bytes)

-- ---- all sections

-- what was read, where the bytes that may be read are all there are or where there are more
pub record Read (A : Type 0) : Type 0 where
  pub sections : List Held
  pub answer : Result A CarFault

-- the bytes end: that is the end of the CAR, or of what may be read
abbrev pub ended_over : {A : Type 0} → Bool → Result A CarFault → Result A CarFault
ended_over true answer = Err fault.TooLong
ended_over false answer = answer

-- one section more, before the others
abbrev pub and_section : {A : Type 0} → Held → Read A → Read A
and_section b r = record { sections = b ∷ r.sections; answer = r.answer }

abbrev pub read_on : (ℕ → List ℕ → Read Unit) → Bool → ℕ → List ℕ → Section → Read Unit
read_on next over place bytes NothingLeft = record { sections = []; answer = ended_over over (Ok tt) }
read_on next over place bytes EndsInside =
    record { sections = []; answer = ended_over over (Err (fault.Truncated place)) }
read_on next over place bytes (IsWrong f) = record { sections = []; answer = Err f }
read_on next over place bytes (Has b used) = and_section b (next (place + used) (drop used bytes))

-- at most n sections
unfoldable pub sections_within : (List ℕ → List ℕ) → Bool → ℕ → ℕ → List ℕ → Read Unit
sections_within hash over zero place bytes = record { sections = []; answer = ended_over over (Ok tt) }
sections_within hash over (suc n) place bytes =
    read_on (λ at rest. sections_within hash over n at rest) over place bytes (section_of hash place bytes)

-- the sections of these bytes; each has a byte or more
abbrev pub sections_of : (List ℕ → List ℕ) → Bool → ℕ → List ℕ → Read Unit
sections_of hash over place bytes = sections_within hash over (length bytes) place bytes

-- the header at the start: its roots, and how many bytes it has
abbrev pub sized_roots : ℕ → Result (List Cid) CarFault → Result (List Cid × ℕ) CarFault
sized_roots size (Ok roots) = Ok (roots, size)
sized_roots size (Err f) = Err f

abbrev pub header_with : Bool → List ℕ → Var → Result (List Cid × ℕ) CarFault
header_with over bytes Short = ended_over over (Err (fault.Truncated 0))
header_with over bytes Bad = Err (fault.BadLength 0)
header_with over bytes (Value n used) =
    elim ((n == 0) || nat_lt 16384 n) [
      | true ↦ Err fault.Header
      | false ↦ elim (nat_lt (length bytes) (used + n)) [
        | true ↦ ended_over over (Err (fault.Truncated 0))
        | false ↦ sized_roots (used + n) (header_of (take n (drop used bytes)))
      ]
    ]

abbrev pub header_at : Bool → List ℕ → Result (List Cid × ℕ) CarFault
header_at over bytes = header_with over bytes (read_multi_of bytes)

-- a CAR with these roots
abbrev pub rooted : List Cid → Read Unit → Read (List Cid)
rooted roots r = record { sections = r.sections; answer = elim r.answer [ Ok done ↦ Ok roots | Err f ↦ Err f ] }

abbrev pub behind_header : (List ℕ → List ℕ) → Bool → List ℕ → Result (List Cid × ℕ) CarFault → Read (List Cid)
behind_header hash over bytes (Err f) = record { sections = []; answer = Err f }
behind_header hash over bytes (Ok h) = rooted h.0 (sections_of hash over h.1 (drop h.1 bytes))

-- what the bytes say that may be read, and whether there are more
abbrev pub read_over : (List ℕ → List ℕ) → Bool → List ℕ → Read (List Cid)
read_over hash over bytes = behind_header hash over bytes (header_at over bytes)

-- what a CAR says of which at most n bytes are read
abbrev pub car_read : (List ℕ → List ℕ) → ℕ → List ℕ → Read (List Cid)
car_read hash limit bytes = read_over hash (nat_lt limit (length bytes)) (take limit bytes)
