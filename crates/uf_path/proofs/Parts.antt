-- Parts of a path, read one after another.
use Rattle.std.proofs.Common.{◌≡◌, ℕ, ◌+◌, ◌≤◌, ◌++◌, ◌==◌, false, Ok, Err, Some, ◌⊎◌, ⊎_elim, inl, inr, List, [], ◌∷◌, length, refl, sym, ap, subst, ◌∙◌, append_assoc, append-nil, length-append, get_or, lit<, arith}
use Rattle.std.specs.Borrow.{Bor}
use Rattle.std.specs.Str.{NoCharPasses}
use Rattle.std.specs.declared.result.Result.{Result}
use Rattle.std.proofs.lemmas.Bool.{ne_eqb}
use Rattle.std.proofs.lemmas.List.Elements.{All-from_get_or}
use Rattle.std.proofs.lemmas.List.Splits.{slice_split_none, slice_split_first}
use Rattle.std.proofs.lemmas.Str.Pattern.{NoCharPasses-char, split_once_first, IsSplitOnceResult, split_parts}
use Rattle.uf_path.specs.declared.faults.PathFault.{PathFault}
use Rattle.uf_path.specs.declared.faults.PathFault.TheVariants as fault
use Rattle.uf_path.specs.Paths.{is_slash, parts, part_read, both_read, names_in, ReadsAs}

-- where no byte is a slash, the text is its one part
pub whole_part : (bs : List ℕ) → NoCharPasses (λ d. d == 47) bs → parts bs ≡ bs ∷ []
whole_part bs none =
    slice_split_none is_slash bs (All-from_get_or (λ x. is_slash x ≡ false) bs 0 (λ i within. ne_eqb (get_or bs i 0) 47 (NoCharPasses-char 47 bs i none (lit< tt) within)))

-- the first part ends at the first slash
pub first_part : (bs : List ℕ) (x : Bor (List ℕ) × Bor (List ℕ)) → IsSplitOnceResult 47 bs (Some x) → parts bs ≡ x.0.now ∷ parts x.1.now
first_part bs x cut =
    let told = split_once_first 47 bs (Some x) cut (lit< tt) in
    rw (told.1, told.2) (slice_split_first is_slash bs 0 told.0)

cut_fits : (bs : List ℕ) (x : Bor (List ℕ) × Bor (List ℕ)) → IsSplitOnceResult 47 bs (Some x) → length x.0.now + (1 + length x.1.now) ≡ length bs
cut_fits bs x cut =
    let told = split_parts 47 bs (Some x) cut (lit< tt) in
    omega (arith, ap length told.0, length-append x.0.now (47 ∷ x.1.now))

-- names that are read join those before them
pub joined : (names found : List (List ℕ)) (later : Result (List (List ℕ)) PathFault) → both_read (Ok (names ++ found)) later ≡ both_read (Ok names) (both_read (Ok found) later)
joined names found (Ok more) = ap (λ (all : List (List ℕ)). Ok all) (append_assoc names found more)
joined names found (Err why) = refl

pub none_before : (later : Result (List (List ℕ)) PathFault) → both_read (Ok []) later ≡ later
none_before (Ok more) = refl
none_before (Err why) = refl

-- a call that hands a fault on
pub hands_on : {A : Type 0} (r told : Result A PathFault) (why : PathFault) → (y : PathFault) × (r ≡ Err y) × (y ≡ why) → (why ≡ fault.Memory) ⊎ (told ≡ Err why) → ReadsAs r told
hands_on {A} r told why exit h =
    let at_exit : ReadsAs (Err exit.0) told = subst (λ (y : PathFault). (y ≡ fault.Memory) ⊎ (told ≡ Err y)) (sym exit.2) h in
    subst (λ (r : Result A PathFault). ReadsAs r told) (sym exit.1) at_exit

-- so far the names of a text that starts at the byte `start` are read up to the byte `at`
pub record Reading (start : ℕ) (whole : List ℕ) (names : List (List ℕ)) (at : ℕ) (rest : List ℕ) : Type 0 where
  pub told : both_read (Ok names) (names_in at (parts rest)) ≡ names_in start (parts whole)
  pub fits : at + length rest ≤ start + length whole

pub reading_starts : (start : ℕ) (whole : List ℕ) → Reading start whole [] start whole
reading_starts start whole = record { told = none_before (names_in start (parts whole)); fits = omega arith }

-- one more part is read
pub reading_goes_on : (start : ℕ) (whole : List ℕ) (names : List (List ℕ)) (at : ℕ) (rest : List ℕ) (x : Bor (List ℕ) × Bor (List ℕ)) (found : List (List ℕ)) → Reading start whole names at rest → IsSplitOnceResult 47 rest (Some x) → part_read at x.0.now ≡ Ok found → Reading start whole (names ++ found) (at + (length x.0.now + 1)) x.1.now
reading_goes_on start whole names at rest x found so_far cut is =
    let first = first_part rest x cut in
    let later = names_in (at + (length x.0.now + 1)) (parts x.1.now) in
    let step : names_in at (parts rest) ≡ both_read (Ok found) later = ap (names_in at) first ∙ ap (λ (r : Result (List (List ℕ)) PathFault). both_read r later) is in
    record { told = joined names found later ∙ ap (both_read (Ok names)) (sym step) ∙ so_far.told; fits = omega (arith, so_far.fits, cut_fits rest x cut) }

-- a part is bad
reading_stops : (start : ℕ) (whole : List ℕ) (names : List (List ℕ)) (at : ℕ) (rest : List ℕ) (x : Bor (List ℕ) × Bor (List ℕ)) (why : PathFault) → Reading start whole names at rest → IsSplitOnceResult 47 rest (Some x) → part_read at x.0.now ≡ Err why → names_in start (parts whole) ≡ Err why
reading_stops start whole names at rest x why so_far cut is =
    let first = first_part rest x cut in
    let later = names_in (at + (length x.0.now + 1)) (parts x.1.now) in
    let step : names_in at (parts rest) ≡ Err why = ap (names_in at) first ∙ ap (λ (r : Result (List (List ℕ)) PathFault). both_read r later) is in
    sym so_far.told ∙ ap (both_read (Ok names)) step

pub reading_fails : (start : ℕ) (whole : List ℕ) (names : List (List ℕ)) (at : ℕ) (rest : List ℕ) (x : Bor (List ℕ) × Bor (List ℕ)) (why : PathFault) → Reading start whole names at rest → IsSplitOnceResult 47 rest (Some x) → (why ≡ fault.Memory) ⊎ (part_read at x.0.now ≡ Err why) → (why ≡ fault.Memory) ⊎ (names_in start (parts whole) ≡ Err why)
reading_fails start whole names at rest x why so_far cut h =
    ⊎_elim (λ e. inl e) (λ is. inr (reading_stops start whole names at rest x why so_far cut is)) h

-- the last part is read
pub reading_ends : (start : ℕ) (whole : List ℕ) (names : List (List ℕ)) (at : ℕ) (rest : List ℕ) (found : List (List ℕ)) → Reading start whole names at rest → NoCharPasses (λ d. d == 47) rest → part_read at rest ≡ Ok found → names_in start (parts whole) ≡ Ok (names ++ found)
reading_ends start whole names at rest found so_far none is =
    let step : names_in at (parts rest) ≡ Ok found = ap (names_in at) (whole_part rest none) ∙ ap (λ (r : Result (List (List ℕ)) PathFault). both_read r (Ok [])) is ∙ ap (λ (all : List (List ℕ)). Ok all) (append-nil found) in
    sym so_far.told ∙ ap (both_read (Ok names)) step

-- the last part is bad
reading_stops_last : (start : ℕ) (whole : List ℕ) (names : List (List ℕ)) (at : ℕ) (rest : List ℕ) (why : PathFault) → Reading start whole names at rest → NoCharPasses (λ d. d == 47) rest → part_read at rest ≡ Err why → names_in start (parts whole) ≡ Err why
reading_stops_last start whole names at rest why so_far none is =
    let step : names_in at (parts rest) ≡ Err why = ap (names_in at) (whole_part rest none) ∙ ap (λ (r : Result (List (List ℕ)) PathFault). both_read r (Ok [])) is in
    sym so_far.told ∙ ap (both_read (Ok names)) step

pub reading_fails_last : (start : ℕ) (whole : List ℕ) (names : List (List ℕ)) (at : ℕ) (rest : List ℕ) (why : PathFault) → Reading start whole names at rest → NoCharPasses (λ d. d == 47) rest → (why ≡ fault.Memory) ⊎ (part_read at rest ≡ Err why) → (why ≡ fault.Memory) ⊎ (names_in start (parts whole) ≡ Err why)
reading_fails_last start whole names at rest why so_far none h =
    ⊎_elim (λ e. inl e) (λ is. inr (reading_stops_last start whole names at rest why so_far none is)) h
