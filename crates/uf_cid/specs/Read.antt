-- What bytes and texts say as CIDs (multiformats CID, multihash, multibase; RFC 4648 section 6): the CID, or the first
-- deviation from left to right.
use Rattle.std.specs.Prelude.{◌≡◌, ◌==◌, ◌&&◌, Bool, ℕ, ◌+◌, ◌-◌, List, [], ◌∷◌, flat_map, length, take, nat_lt, nat_le, if◌then◌else◌}
use Rattle.std.specs.List.{list_all}
use Rattle.std.specs.Option.{option_and_then, option_map}
use Rattle.std.specs.declared.option.Option.{Option}
use Rattle.std.specs.declared.option.Option.TheVariants.{None, Some}
use Rattle.std.specs.declared.result.Result.{Result}
use Rattle.std.specs.declared.result.Result.TheVariants.{Ok, Err}
use Rattle.uf_cid.specs.Bytes.{IsBytes}
use Rattle.uf_cid.specs.Unbase32.{bits5, eights}
use Rattle.uf_cid.specs.declared.cid.Cid.{Cid}
use Rattle.uf_cid.specs.declared.cid.CidFault.{CidFault}
use Rattle.uf_cid.specs.declared.cid.CidFault.TheVariants as fault
use Rattle.uf_cid.specs.declared.cid.Codec.{Codec}
use Rattle.uf_cid.specs.declared.cid.Codec.TheVariants.{Raw, DagPb}

-- a CID whose digest has 32 bytes
pub record IsCid (c : Cid) : Type 0 where
  pub size : length c.digest ≡ 32
  pub bytes : IsBytes c.digest

-- a sha2-256 multihash after n bytes: 0x12, 0x20 and 32 bytes of digest
abbrev pub multihash_at : Codec → ℕ → List ℕ → Result (Cid × ℕ) CidFault
multihash_at codec before [] = Err fault.Short
multihash_at codec before (a ∷ []) = if a == 0x12 then Err fault.Short else Err fault.Hash
multihash_at codec before (a ∷ b ∷ rest) =
    if (a == 0x12) && (b == 0x20)
    then (if nat_lt (length rest) 32 then Err fault.Short else Ok (record { codec = codec; digest = take 32 rest }, before + 34))
    else Err fault.Hash

-- the codec of a CIDv1 and its multihash, after the version
abbrev pub codec_at : List ℕ → Result (Cid × ℕ) CidFault
codec_at [] = Err fault.Short
codec_at (a ∷ rest) =
    if a == 0x55 then multihash_at Raw 2 rest
    else if a == 0x70 then multihash_at DagPb 2 rest
    else Err fault.Codec

-- the CID before some bytes, and how many of them it has: a CIDv1 begins with 1, a CIDv0 is a multihash alone
unfoldable pub cid_at : List ℕ → Result (Cid × ℕ) CidFault
cid_at [] = Err fault.Short
cid_at (a ∷ rest) =
    if a == 1 then codec_at rest
    else if a == 0x12 then multihash_at DagPb 0 (a ∷ rest)
    else Err fault.Version

-- bytes that are one CIDv1: a CIDv0 has the wrong version there, and no byte may follow
abbrev pub alone : ℕ → Result (Cid × ℕ) CidFault → Result Cid CidFault
alone all (Ok found) = if found.1 == 34 then Err fault.Version else if found.1 == all then Ok found.0 else Err fault.Trailing
alone all (Err why) = Err why

abbrev pub whole_cid : List ℕ → Result Cid CidFault
whole_cid bytes = alone (length bytes) (cid_at bytes)

-- the number that a letter stands for, in an alphabet whose letters begin with the letter `a`
abbrev pub value_of : ℕ → ℕ → Option ℕ
value_of a c =
    if nat_le a c && nat_lt c (a + 26) then Some (c - a)
    else if nat_le 50 c && nat_lt c 56 then Some (c - 24)
    else None

-- the numbers of letters that are all of the alphabet
abbrev pub values_of : ℕ → List ℕ → Option (List ℕ)
values_of a [] = Some []
values_of a (c ∷ cs) = option_and_then (λ v. option_map (λ vs. v ∷ vs) (values_of a cs)) (value_of a c)

-- the bits after the whole groups of eight
abbrev pub spare : List ℕ → List ℕ
spare (a ∷ b ∷ c ∷ d ∷ e ∷ f ∷ g ∷ h ∷ rest) = spare rest
spare rest = rest

-- fewer bits than a letter has, all zero
abbrev pub is_padding : List ℕ → Bool
is_padding bits = nat_lt (length bits) 5 && list_all (λ b. b == 0) bits

-- the bytes of bits whose rest is padding
abbrev pub padded_bytes : List ℕ → Option (List ℕ)
padded_bytes bits = if is_padding (spare bits) then Some (eights bits) else None

-- the bytes that letters spell in base32 without padding characters
abbrev pub unbase32 : ℕ → List ℕ → Option (List ℕ)
unbase32 a letters = option_and_then (λ vs. padded_bytes (flat_map bits5 vs)) (values_of a letters)

abbrev pub cid_spelled : Option (List ℕ) → Result Cid CidFault
cid_spelled None = Err fault.Base
cid_spelled (Some bytes) = whole_cid bytes

-- the CID that a text spells: `b` and lower case letters, or `B` and upper case letters
unfoldable pub cid_of_text : List ℕ → Result Cid CidFault
cid_of_text [] = Err fault.Short
cid_of_text (p ∷ letters) =
    if p == 98 then cid_spelled (unbase32 97 letters)
    else if p == 66 then cid_spelled (unbase32 65 letters)
    else Err fault.Base

-- a letter of the lower case alphabet in upper case
abbrev pub raised : ℕ → ℕ
raised c = if nat_le 97 c then c - 32 else c
