-- A CAR that was written is read.
use Rattle.std.proofs.Common.{◌≡◌, ℕ, ◌+◌, ◌-◌, ◌≤◌, List, [], ◌∷◌, ◌++◌, length, take, drop, Bool, true, false, refl, sym, ap, ◌∙◌, arith, append_assoc, append-nil, length-append, Ok, Err, Result}
use Rattle.std.specs.Prelude.{nat_lt, nat_eq, min, ◌==◌, ◌||◌, if◌then◌else◌}
use Rattle.std.proofs.lemmas.List.{drop_at, take_all, take_at}
use Rattle.std.proofs.lemmas.Bool.Decides.{nat_tests}
use Rattle.std.specs.Cmp.Lexicographic.{bytes_decides}
use Rattle.uf_varint.specs.Fields.{◌>>=◌}
use Rattle.uf_varint.specs.Varint.{read_multi_of, varint, varint_within}
use Rattle.uf_varint.specs.declared.varint.Var.TheVariants.{Value}
use Rattle.uf_varint.proofs.Varints.{read_multi_of-varint}
use Rattle.uf_cid.specs.Blocks.{Held}
use Rattle.uf_cid.specs.Cid.{cid_bytes}
use Rattle.uf_cid.specs.Read.{IsCid, cid_at}
use Rattle.uf_cid.specs.declared.cid.Cid.{Cid}
use Rattle.uf_cid.proofs.Again.{binary_again}
use Rattle.uf_car.specs.declared.fault.CarFault.{CarFault}
use Rattle.uf_car.specs.declared.fault.CarFault.TheVariants as fault
use Rattle.uf_car.specs.declared.section.Opening.TheVariants.{Cut, Found, Wrong}
use Rattle.uf_car.specs.Headers.{header_of, root_of, roots_from, root_with, versioned}
use Rattle.uf_car.specs.Reading.{EndsInside, Has, IsWrong, Section, and_section, behind_header, car_read, checked, header_at, header_with, opening_of, read_on, read_over, rooted, section_of, sections_of, sections_within, sized_roots, with_cid, with_opening, with_section_length}
use Rattle.uf_car.specs.Text.{car_bytes, framed, header_bytes, link_key, section_bytes, sections_bytes, version_key}
use Rattle.uf_car.proofs.Sections.{sections_step}
use Rattle.uf_light.proofs.Sound.{AreSound, IsSound}

not_less : (n m : ℕ) → m ≤ n → nat_lt n m ≡ false
not_less n m h = grind (arith, nat_tests)

equal : (n m : ℕ) → n ≡ m → nat_eq n m ≡ true
equal n m h = grind (arith, nat_tests)

cid_length : (c : Cid) → IsCid c → length (cid_bytes c) ≡ 36
cid_length c h = let size : length c.digest ≡ 32 = h.size in omega arith

-- ---- a section

opening_some : (place : ℕ) (bytes : List ℕ) → 1 ≤ length bytes → opening_of place bytes ≡ with_section_length place bytes (read_multi_of bytes)
unfolding opening_of
opening_some place [] h = absurd (omega arith)
opening_some place (b ∷ bytes) h = refl

module _ (hash : List ℕ → List ℕ) (place : ℕ) (b : Held) (rest : List ℕ) (good : IsSound hash b) where
  abbrev inside : List ℕ
  inside = cid_bytes b.0 ++ b.1

  abbrev size : ℕ
  size = length inside

  abbrev front : ℕ
  front = length (varint size)

  size_is : size ≡ 36 + length b.1
  size_is = let whole = cid_length b.0 good.cid in omega (arith, whole, length-append (cid_bytes b.0) b.1)

  bytes_are : section_bytes b ++ rest ≡ varint size ++ (inside ++ rest)
  bytes_are = append_assoc (varint size) inside rest

  total : length (section_bytes b ++ rest) ≡ front + (size + length rest)
  total = ap length bytes_are ∙ length-append (varint size) (inside ++ rest) ∙ ap (λ (n : ℕ). front + n) (length-append inside rest)

  behind : drop front (section_bytes b ++ rest) ≡ inside ++ rest
  behind = ap (drop front) bytes_are ∙ drop_at (varint size) (inside ++ rest) front refl

  reads : read_multi_of (section_bytes b ++ rest) ≡ Value size front
  reads = ap read_multi_of bytes_are ∙ read_multi_of-varint size (inside ++ rest) (let n = size_is in let short = good.short in omega (arith, n, short))

  want : min size 36 ≡ 36
  want = let n = size_is in omega (arith, n)

  first : take (min size 36) (drop front (section_bytes b ++ rest)) ≡ cid_bytes b.0
  first =
      (λ i. take (want i) (behind i)) ∙ ap (take 36) (append_assoc (cid_bytes b.0) b.1 rest)
      ∙ take_at (cid_bytes b.0) (b.1 ++ rest) 36 (cid_length b.0 good.cid)

  cid_is : cid_at (take (min size 36) (drop front (section_bytes b ++ rest))) ≡ Ok (b.0, 36)
  cid_is = ap cid_at (first ∙ sym (append-nil (cid_bytes b.0))) ∙ binary_again b.0 [] good.cid

  enough : nat_lt (length (drop front (section_bytes b ++ rest))) (min size 36) ≡ false
  enough = not_less (length (drop front (section_bytes b ++ rest))) (min size 36)
      (let n = size_is in let all = ap length behind ∙ length-append inside rest in let w = want in omega (arith, n, all, w))

  opens : opening_of place (section_bytes b ++ rest) ≡ Found b.0 (front + 36) (size - 36)
  opens =
      opening_some place (section_bytes b ++ rest) (let n = size_is in let all = total in omega (arith, n, all))
      ∙ ap (with_section_length place (section_bytes b ++ rest)) reads
      ∙ ap (λ (x : Bool). if x then Cut else with_cid place size front (cid_at (take (min size 36) (drop front (section_bytes b ++ rest))))) enough
      ∙ ap (with_cid place size front) cid_is
      ∙ ap (λ (x : Bool). if x then Wrong (fault.TooBigBlock place (size - 36)) else Found b.0 (front + 36) (size - 36))
      (not_less 2097152 (size - 36) (let n = size_is in let short = good.short in omega (arith, n, short)))

  block_is : take (size - 36) (drop (front + 36) (section_bytes b ++ rest)) ≡ b.1
  block_is =
      let n : size - 36 ≡ length b.1 = (let s = size_is in omega (arith, s)) in
      let split : section_bytes b ++ rest ≡ (varint size ++ cid_bytes b.0) ++ (b.1 ++ rest) = bytes_are ∙ ap (λ (xs : List ℕ). varint size ++ xs) (append_assoc (cid_bytes b.0) b.1 rest) ∙ sym (append_assoc (varint size) (cid_bytes b.0) (b.1 ++ rest)) in
      let long : length (varint size ++ cid_bytes b.0) ≡ front + 36 = length-append (varint size) (cid_bytes b.0) ∙ ap (λ (m : ℕ). front + m) (cid_length b.0 good.cid) in
      ap (take (size - 36)) (ap (drop (front + 36)) split ∙ drop_at (varint size ++ cid_bytes b.0) (b.1 ++ rest) (front + 36) long)
      ∙ take_at b.1 (rest) (size - 36) (sym n)

  used_is : front + 36 + (size - 36) ≡ length (section_bytes b)
  used_is = let n = size_is in let all = length-append (varint size) inside in omega (arith, n, all)

  -- a section that was written is read
  section-again : section_of hash place (section_bytes b ++ rest) ≡ Has b (length (section_bytes b))
  section-again =
      ap (with_opening hash place (section_bytes b ++ rest)) opens
      ∙ ap (λ (x : Bool). elim x as (λ y. Section) [ true ↦ EndsInside | false ↦ checked hash place b.0 (take (size - 36) (drop (front + 36) (section_bytes b ++ rest))) (front + 36 + (size - 36)) ])
      (not_less (length (section_bytes b ++ rest)) (front + 36 + (size - 36)) (let n = size_is in let all = total in omega (arith, n, all)))
      ∙ (λ i. checked hash place b.0 (block_is i) (used_is i))
      ∙ ap (λ (x : Bool). if x then Has (b.0, b.1) (length (section_bytes b)) else IsWrong (fault.WrongDigest place b.0)) ((bytes_decides (hash b.1) b.0.digest).1 good.digest)

-- ---- all sections

sections-again : (hash : List ℕ → List ℕ) (blocks : List Held) (place : ℕ) → AreSound hash blocks → sections_of hash false place (sections_bytes blocks) ≡ record { sections = blocks; answer = Ok tt }
unfolding sections_within
sections-again hash [] place good = refl
sections-again hash (b ∷ blocks) place good =
    let used = length (section_bytes b) in
    sections_step hash false place (section_bytes b ++ sections_bytes blocks)
    ∙ ap (read_on (λ at rest. sections_of hash false at rest) false place (section_bytes b ++ sections_bytes blocks)) (section-again hash place b (sections_bytes blocks) good.0)
    ∙ ap (λ (xs : List ℕ). and_section b (sections_of hash false (place + used) xs)) (drop_at (section_bytes b) (sections_bytes blocks) used refl)
    ∙ ap (and_section b) (sections-again hash blocks (place + used) good.1)

-- ---- the header

header_length : (root : Cid) → IsCid root → length (header_bytes root) ≡ 58
header_length root whole =
    let size : length (cid_bytes root ++ (version_key ++ (0x01 ∷ []))) ≡ length (cid_bytes root) + length (version_key ++ (0x01 ∷ [])) = length-append (cid_bytes root) (version_key ++ (0x01 ∷ [])) in
    let digest : length root.digest ≡ 32 = whole.size in
    omega (arith, size, digest)

module _ (root : Cid) (whole : IsCid root) where
  abbrev tail : List ℕ
  tail = version_key ++ (0x01 ∷ [])

  drops : drop 36 (cid_bytes root ++ tail) ≡ tail
  drops = drop_at (cid_bytes root) tail 36 (cid_length root whole)

  root-again : root_of (link_key ++ (cid_bytes root ++ tail)) ≡ Ok (root, tail)
  unfolding root_of
  root-again = ap (root_with 36 (cid_bytes root ++ tail)) (binary_again root tail whole) ∙ ap (λ (xs : List ℕ). Ok (root, xs)) drops

  one-root : roots_from [] 1 (link_key ++ (cid_bytes root ++ tail)) ≡ Ok (root ∷ [], tail)
  unfolding roots_from
  one-root = ap (λ (r : Result (Cid × List ℕ) CarFault). r >>= λ r. roots_from ([] ++ r.0 ∷ []) 0 r.1) root-again

  header-again : header_of (header_bytes root) ≡ Ok (root ∷ [])
  unfolding header_of
  header-again = ap (λ (r : Result (List Cid × List ℕ) CarFault). r >>= λ r. versioned r.0 r.1) one-root

  module _ (rest : List ℕ) where
    abbrev bytes : List ℕ
    bytes = framed (header_bytes root) ++ rest

    abbrev n : ℕ
    n = length (header_bytes root)

    abbrev used : ℕ
    used = length (varint n)

    n_is : n ≡ 58
    n_is = header_length root whole

    one : used ≡ 1
    unfolding varint varint_within
    one = ap (λ (m : ℕ). length (varint m)) n_is

    split : bytes ≡ varint n ++ (header_bytes root ++ rest)
    split = append_assoc (varint n) (header_bytes root) rest

    head : take n (drop used bytes) ≡ header_bytes root
    head = ap (λ (xs : List ℕ). take n (drop used xs)) split ∙ ap (take n) (drop_at (varint n) (header_bytes root ++ rest) used refl) ∙ take_at (header_bytes root) rest n refl

    long : used + n ≤ length bytes
    long = let all = ap length split ∙ length-append (varint n) (header_bytes root ++ rest) in let more = length-append (header_bytes root) rest in omega (arith, all, more)

    header-at : header_at false bytes ≡ Ok (root ∷ [], 59)
    header-at =
        ap (header_with false bytes) (ap read_multi_of split ∙ read_multi_of-varint n (header_bytes root ++ rest) (let e = n_is in omega (arith, e)))
        ∙ ap (λ (x : Bool). elim x as (λ y. Result (List Cid × ℕ) CarFault) [
          | true ↦ Err fault.Header
          | false ↦ elim (nat_lt (length bytes) (used + n)) [ true ↦ Err (fault.Truncated 0) | false ↦ sized_roots (used + n) (header_of (take n (drop used bytes))) ]
        ]) (ap (λ (m : ℕ). (m == 0) || nat_lt 16384 m) n_is)
        ∙ ap (λ (x : Bool). elim x as (λ y. Result (List Cid × ℕ) CarFault) [ true ↦ Err (fault.Truncated 0) | false ↦ sized_roots (used + n) (header_of (take n (drop used bytes))) ]) (not_less (length bytes) (used + n) long)
        ∙ ap (sized_roots (used + n)) (ap header_of head ∙ header-again)
        ∙ ap (λ (m : ℕ). Ok (root ∷ [], m)) (let a = one in let b = n_is in let sum : used + n ≡ 59 = omega (arith, a, b) in sum)

    behind-head : drop 59 bytes ≡ rest
    behind-head = drop_at (framed (header_bytes root)) rest 59 (length-append (varint n) (header_bytes root) ∙ (let a = one in let b = n_is in let sum : used + n ≡ 59 = omega (arith, a, b) in sum))

-- a CAR that was written is read
pub car-again : (hash : List ℕ → List ℕ) (limit : ℕ) (root : Cid) (blocks : List Held) → IsCid root → AreSound hash blocks → length (car_bytes root blocks) ≤ limit
    → car_read hash limit (car_bytes root blocks) ≡ record { sections = blocks; answer = Ok (root ∷ []) }
car-again hash limit root blocks whole good few =
    let bytes = car_bytes root blocks in
    (λ i. read_over hash (not_less limit (length bytes) few i) (take_all limit bytes few i))
    ∙ ap (behind_header hash false bytes) (header-at root whole (sections_bytes blocks))
    ∙ ap (λ (xs : List ℕ). rooted (root ∷ []) (sections_of hash false 59 xs)) (behind-head root whole (sections_bytes blocks))
    ∙ ap (rooted (root ∷ [])) (sections-again hash blocks 59 good)
