-- 37 bytes tell what all of them say.
use Rattle.std.proofs.Common.{◌≡◌, ℕ, zero, suc, ◌+◌, ◌≤◌, min, Bool, true, false, List, [], ◌∷◌, length, take, refl, sym, ap, ◌∙◌, arith, Option, Some, None, Result, Ok, Err, cond}
use Rattle.std.specs.Prelude.{◌==◌, ◌&&◌, nat_lt, if◌then◌else◌, IfOk}
use Rattle.std.specs.Option.{option_map}
use Rattle.std.proofs.lemmas.List.{length-take, take-take}
use Rattle.std.proofs.lemmas.Bool.Decides.{nat_tests}
use Rattle.uf_cid.specs.Read.{multihash_at, codec_at, cid_at, alone, cid_spelled}
use Rattle.uf_cid.specs.declared.cid.Cid.{Cid}
use Rattle.uf_cid.specs.declared.cid.CidFault.{CidFault}
use Rattle.uf_cid.specs.declared.cid.CidFault.TheVariants as fault
use Rattle.uf_cid.specs.declared.cid.Codec.{Codec}
use Rattle.uf_cid.specs.declared.cid.Codec.TheVariants.{Raw, DagPb}

same_room : (k n m : ℕ) → 32 ≤ k → m ≡ min k n → nat_lt m 32 ≡ nat_lt n 32
same_room k n m h e = grind (arith, nat_tests)

same_end : (u n m : ℕ) → u ≤ 36 → m ≡ min 37 n → (u == m) ≡ (u == n)
same_end u n m h e = grind (arith, nat_tests)

multihash_front : (codec : Codec) (before k : ℕ) (rest : List ℕ) → 34 ≤ k → multihash_at codec before (take k rest) ≡ multihash_at codec before rest
multihash_front codec before zero rest h = absurd (omega arith)
multihash_front codec before (suc zero) rest h = absurd (omega arith)
multihash_front codec before (suc (suc k)) [] h = refl
multihash_front codec before (suc (suc k)) (a ∷ []) h = refl
multihash_front codec before (suc (suc k)) (a ∷ b ∷ rest) h =
    let room : nat_lt (length (take k rest)) 32 ≡ nat_lt (length rest) 32 = same_room k (length rest) (length (take k rest)) (omega arith) (length-take k rest) in
    let digest : take 32 (take k rest) ≡ take 32 rest = take-take 32 k rest (omega arith) in
    λ i. if (a == 0x12) && (b == 0x20)
    then (if room i then Err fault.Short else Ok (record { codec = codec; digest = digest i }, before + 34))
    else Err fault.Hash

codec_front : (rest : List ℕ) → codec_at (take 36 rest) ≡ codec_at rest
codec_front [] = refl
codec_front (a ∷ rest) =
    let raw : multihash_at Raw 2 (take 35 rest) ≡ multihash_at Raw 2 rest = multihash_front Raw 2 35 rest (omega arith) in
    let pb : multihash_at DagPb 2 (take 35 rest) ≡ multihash_at DagPb 2 rest = multihash_front DagPb 2 35 rest (omega arith) in
    λ i. if a == 0x55 then raw i else if a == 0x70 then pb i else Err fault.Codec

cid_front : (bytes : List ℕ) → cid_at (take 37 bytes) ≡ cid_at bytes
unfolding cid_at
cid_front [] = refl
cid_front (a ∷ rest) =
    let one : codec_at (take 36 rest) ≡ codec_at rest = codec_front rest in
    let zero : multihash_at DagPb 0 (take 37 (a ∷ rest)) ≡ multihash_at DagPb 0 (a ∷ rest) = multihash_front DagPb 0 37 (a ∷ rest) (omega arith) in
    λ i. if a == 1 then one i else if a == 0x12 then zero i else Err fault.Version

-- either way it has no more than 36 bytes
abbrev pub IsSmall : Result (Cid × ℕ) CidFault → Type 0
IsSmall r = IfOk r (λ found. found.1 ≤ 36)

either : (b : Bool) (x y : Result (Cid × ℕ) CidFault) → IsSmall x → IsSmall y → IsSmall (cond b x y)
either true x y p q = p
either false x y p q = q

multihash_small : (codec : Codec) (before : ℕ) (rest : List ℕ) → before ≤ 2 → IsSmall (multihash_at codec before rest)
multihash_small codec before [] h = tt
multihash_small codec before (a ∷ []) h = either (a == 0x12) (Err fault.Short) (Err fault.Hash) tt tt
multihash_small codec before (a ∷ b ∷ rest) h =
    either ((a == 0x12) && (b == 0x20)) _ (Err fault.Hash) (either (nat_lt (length rest) 32) (Err fault.Short) (Ok (record { codec = codec; digest = take 32 rest }, before + 34)) tt (omega arith)) tt

codec_small : (rest : List ℕ) → IsSmall (codec_at rest)
codec_small [] = tt
codec_small (a ∷ rest) = either (a == 0x55) (multihash_at Raw 2 rest) _ (multihash_small Raw 2 rest (omega arith)) (either (a == 0x70) (multihash_at DagPb 2 rest) (Err fault.Codec) (multihash_small DagPb 2 rest (omega arith)) tt)

pub cid_small : (bytes : List ℕ) → IsSmall (cid_at bytes)
unfolding cid_at
cid_small [] = tt
cid_small (a ∷ rest) = either (a == 1) (codec_at rest) _ (codec_small rest) (either (a == 0x12) (multihash_at DagPb 0 (a ∷ rest)) (Err fault.Version) (multihash_small DagPb 0 (a ∷ rest) (omega arith)) tt)

alone_front : (bytes : List ℕ) (r : Result (Cid × ℕ) CidFault) → IsSmall r → alone (length (take 37 bytes)) r ≡ alone (length bytes) r
alone_front bytes (Ok found) h =
    let e : (found.1 == length (take 37 bytes)) ≡ (found.1 == length bytes) = same_end found.1 (length bytes) (length (take 37 bytes)) h (length-take 37 bytes) in
    λ i. if found.1 == 34 then Err fault.Version else if e i then Ok found.0 else Err fault.Trailing
alone_front bytes (Err why) h = refl

abbrev some : List ℕ → Option (List ℕ)
some x = Some x

some_is : (x y : List ℕ) → some x ≡ some y → x ≡ y
some_is x y e = cc

-- what a text says is told by its first 37 bytes
pub spelled_front : (found : Option (List ℕ)) (front : List ℕ) (r : Result (Cid × ℕ) CidFault) → some front ≡ option_map (take 37) found → r ≡ cid_at front → cid_spelled found ≡ alone (length front) r
spelled_front None front r e told = absurd cc
spelled_front (Some bytes) front r e told =
    let is : front ≡ take 37 bytes = some_is front (take 37 bytes) e in
    let same : r ≡ cid_at bytes = told ∙ ap cid_at is ∙ cid_front bytes in
    sym (alone_front bytes (cid_at bytes) (cid_small bytes)) ∙ ap (λ (n : ℕ). alone n (cid_at bytes)) (ap length (sym is)) ∙ ap (alone (length front)) (sym same)
