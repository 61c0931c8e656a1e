-- What the header of a CAR says (CARv1, "Header"; DAG-CBOR): its roots, or why it is refused.
use Rattle.std.specs.Prelude.{◌≡◌, ◌⊎◌, ⊤, ℕ, zero, suc, ◌-◌, ◌==◌, ◌&&◌, nat_eq, nat_le, nat_lt, List, [], ◌∷◌, ◌++◌}
use Rattle.std.specs.Prelude.{length, drop, if◌then◌else◌}
use Rattle.std.specs.List.{starts_with}
use Rattle.std.specs.declared.option.Option.{Option}
use Rattle.std.specs.declared.option.Option.TheVariants.{None, Some}
use Rattle.std.specs.declared.result.Result.{Result}
use Rattle.std.specs.declared.result.Result.TheVariants.{Ok, Err}
use Rattle.uf_varint.specs.Fields.{◌>>=◌}
use Rattle.uf_cid.specs.Read.{cid_at}
use Rattle.uf_cid.specs.declared.cid.Cid.{Cid}
use Rattle.uf_cid.specs.declared.cid.CidFault.{CidFault}
use Rattle.uf_store.specs.declared.store.StoreFault.TheVariants.{Memory}
use Rattle.uf_car.specs.declared.fault.CarFault.{CarFault}
use Rattle.uf_car.specs.declared.fault.CarFault.TheVariants as fault
use Rattle.uf_car.specs.Text.{roots_key, version_key, link_key}

-- the bytes after a front, where they begin with it
abbrev pub past_front : List ℕ → List ℕ → Option (List ℕ)
past_front front bytes = if starts_with nat_eq bytes front then Some (drop (length front) bytes) else None

-- something that has to be there
abbrev pub wanted : {A : Type 0} → Option A → Result A CarFault
wanted None = Err fault.Header
wanted (Some a) = Ok a

-- a link to a CIDv0: 35 bytes of which the first is 0
abbrev pub old_link_key : List ℕ
old_link_key = 0xd8 ∷ 0x2a ∷ 0x58 ∷ 0x23 ∷ 0x00 ∷ []

-- how many items an array has: a number below 24 in the head, or one byte of 24 or more after it
abbrev pub long_count : List ℕ → Result (ℕ × List ℕ) CarFault
long_count [] = Err fault.Header
long_count (n ∷ rest) = if nat_lt n 24 then Err fault.Header else Ok (n, rest)

abbrev pub count_of : List ℕ → Result (ℕ × List ℕ) CarFault
count_of [] = Err fault.Header
count_of (b ∷ rest) =
    if nat_le 0x80 b && nat_le b 0x97 then Ok (b - 0x80, rest)
    else if b == 0x98 then long_count rest
    else Err fault.Header

abbrev pub few_roots : ℕ × List ℕ → Result (ℕ × List ℕ) CarFault
few_roots c = if nat_lt 64 c.0 then Err (fault.TooManyRoots c.0) else Ok (c.0, c.1)

-- the CID of n bytes in front
abbrev pub root_with : ℕ → List ℕ → Result (Cid × ℕ) CidFault → Result (Cid × List ℕ) CarFault
root_with size bytes (Ok found) = if found.1 == size then Ok (found.0, drop size bytes) else Err fault.Header
root_with size bytes (Err why) = Err fault.Header

-- a root: a link to a CIDv1 or to a CIDv0
abbrev pub old_root : Option (List ℕ) → Result (Cid × List ℕ) CarFault
old_root None = Err fault.Header
old_root (Some rest) = root_with 34 rest (cid_at rest)

abbrev pub new_root : List ℕ → Option (List ℕ) → Result (Cid × List ℕ) CarFault
new_root bytes None = old_root (past_front old_link_key bytes)
new_root bytes (Some rest) = root_with 36 rest (cid_at rest)

unfoldable pub root_of : List ℕ → Result (Cid × List ℕ) CarFault
root_of bytes = new_root bytes (past_front link_key bytes)

-- so many roots more
unfoldable pub roots_from : List Cid → ℕ → List ℕ → Result (List Cid × List ℕ) CarFault
roots_from roots zero bytes = Ok (roots, bytes)
roots_from roots (suc n) bytes = root_of bytes >>= λ r. roots_from (roots ++ r.0 ∷ []) n r.1

-- the version, and nothing after it
abbrev pub ending : List Cid → List ℕ → Result (List Cid) CarFault
ending roots [] = Err fault.Header
ending roots (v ∷ []) = if v == 1 then Ok roots else if nat_lt v 24 then Err (fault.Version v) else Err fault.Header
ending roots (v ∷ w ∷ rest) = Err fault.Header

-- the mark of a later version: a map of the version alone
abbrev pub mark_in : List ℕ → Option ℕ
mark_in [] = None
mark_in (v ∷ []) = if nat_lt v 24 then Some v else None
mark_in (v ∷ w ∷ rest) = None

abbrev pub mark_of : Option (List ℕ) → Option ℕ
mark_of None = None
mark_of (Some rest) = mark_in rest

abbrev pub versioned : List Cid → List ℕ → Result (List Cid) CarFault
versioned roots bytes = wanted (past_front version_key bytes) >>= λ e. ending roots e

-- how many roots there are, not more than may be
abbrev pub roots_counted : List ℕ → Result (ℕ × List ℕ) CarFault
roots_counted bytes = count_of bytes >>= λ c. few_roots c

-- a header that isn't marked
abbrev pub first_version : List ℕ → Result (List Cid) CarFault
first_version bytes =
    wanted (past_front roots_key bytes) >>= λ a. roots_counted a >>= λ c. roots_from [] c.0 c.1 >>= λ r.
    versioned r.0 r.1

abbrev pub by_mark : List ℕ → Option ℕ → Result (List Cid) CarFault
by_mark bytes (Some v) = Err (fault.Version v)
by_mark bytes None = first_version bytes

-- the roots that a header names, or its first fault
unfoldable pub header_of : List ℕ → Result (List Cid) CarFault
header_of bytes = by_mark bytes (mark_of (past_front (0xa1 ∷ version_key) bytes))

-- a call answers what is said
abbrev pub HeaderSays : {X Y : Type 0} → (X → Y) → Result X CarFault → Result Y CarFault → Type 0
HeaderSays view (Ok x) said = said ≡ Ok (view x)
HeaderSays view (Err f) said = said ≡ Err f

-- or there was no memory
abbrev pub HeaderSaysOrMemory : {X Y : Type 0} → (X → Y) → Result X CarFault → Result Y CarFault → Type 0
HeaderSaysOrMemory view (Ok x) said = said ≡ Ok (view x)
HeaderSaysOrMemory view (Err f) said = (f ≡ fault.Store Memory) ⊎ (said ≡ Err f)

-- no store and no source is asked: all of a store that a fault can be is that there was no memory
abbrev pub IsOfBytes : CarFault → Type 0
IsOfBytes fault.Read = ⊥
IsOfBytes (fault.Store f) = f ≡ Memory
IsOfBytes _ = ⊤
