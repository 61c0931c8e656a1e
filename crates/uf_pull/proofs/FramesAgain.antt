-- Frames that were written are read.
use Rattle.std.proofs.Common.{◌≡◌, ℕ, ◌+◌, ◌-◌, ◌≤◌, List, [], ◌∷◌, ◌++◌, length, take, drop, append-nil, append_assoc, length-append, refl, sym, ap, ◌∙◌, arith, Ok}
use Rattle.std.proofs.Math.Seq.{drop-append-add}
use Rattle.std.proofs.lemmas.List.{drop_at, take_at}
use Rattle.std.specs.Prelude.{Option, Some, ◌||◌, Bool, true, false, if◌then◌else◌, nat_lt, ◌==◌}
use Rattle.uf_varint.proofs.Varints.{read_multi_of-varint}
use Rattle.uf_varint.specs.Varint.{read_multi_of, varint}
use Rattle.uf_varint.specs.declared.varint.Var.{Var}
use Rattle.uf_varint.specs.declared.varint.Var.TheVariants.{Value, Short, Bad}
use Rattle.uf_cid.proofs.Again.{binary_again}
use Rattle.uf_cid.specs.Cid.{cid_bytes}
use Rattle.uf_cid.specs.Read.{IsCid, cid_at}
use Rattle.uf_cid.specs.declared.cid.Cid.{Cid}
use Rattle.uf_pull.specs.Frames.{Begins, BreaksOff, Deviates, Frame, Giving, Lacking, Stands, all_of_36, begins, frame_bytes, giving_at, giving_in, giving_with, lacking_in, lacking_with}
use Rattle.uf_pull.proofs.Fronts.{not_below}

module _ (c : Cid) (whole : IsCid c) where
  cid_size : length (cid_bytes c) ≡ 36
  cid_size = omega (arith, whole.size)

  -- its bytes are those of a CID
  cid_again : all_of_36 (cid_at (cid_bytes c)) ≡ Some c
  cid_again = ap all_of_36 (ap cid_at (sym (append-nil (cid_bytes c))) ∙ binary_again c [] whole)

  -- ---- a CID that is lacking

  pub reads_lacking : (rest : List ℕ) → begins (frame_bytes (Lacking c) ++ rest) ≡ Stands (Lacking c) 37
  unfolding begins
  reads_lacking rest =
      let size : length (cid_bytes c ++ rest) ≡ length (cid_bytes c) + length rest = length-append (cid_bytes c) rest in
      let enough : nat_lt (length (cid_bytes c ++ rest)) 36 ≡ false = not_below (length (cid_bytes c ++ rest)) 36 (omega (arith, size, cid_size)) in
      let front : take 36 (cid_bytes c ++ rest) ≡ cid_bytes c = take_at (cid_bytes c) rest 36 cid_size in
      ap (λ (t : Bool). if t then BreaksOff else lacking_with (all_of_36 (cid_at (take 36 (cid_bytes c ++ rest))))) enough
      ∙ ap (λ (xs : List ℕ). lacking_with (all_of_36 (cid_at xs))) front ∙ ap lacking_with cid_again

  -- ---- a block

  module _ (block rest : List ℕ) (few : length block ≤ 2097152) where
    all : frame_bytes (Giving c block) ++ rest ≡ (1 ∷ varint (36 + length block)) ++ (cid_bytes c ++ (block ++ rest))
    all =
        append_assoc (1 ∷ varint (36 + length block)) (cid_bytes c ++ block) rest
        ∙ ap (λ (xs : List ℕ). (1 ∷ varint (36 + length block)) ++ xs) (append_assoc (cid_bytes c) block rest)

    length_is : length ((1 ∷ varint (36 + length block)) ++ (cid_bytes c ++ (block ++ rest))) ≡ length (varint (36 + length block)) + 1 + (36 + length block) + length rest
    length_is =
        let a : length ((1 ∷ varint (36 + length block)) ++ (cid_bytes c ++ (block ++ rest))) ≡ length (1 ∷ varint (36 + length block)) + length (cid_bytes c ++ (block ++ rest)) = length-append (1 ∷ varint (36 + length block)) (cid_bytes c ++ (block ++ rest)) in
        let b : length (cid_bytes c ++ (block ++ rest)) ≡ length (cid_bytes c) + length (block ++ rest) = length-append (cid_bytes c) (block ++ rest) in
        let d : length (block ++ rest) ≡ length block + length rest = length-append block rest in
        omega (arith, a, b, d, cid_size)

    -- the block stands behind the CID
    block_is : take (36 + length block - 36) (drop (length (varint (36 + length block)) + 1 + 36) ((1 ∷ varint (36 + length block)) ++ (cid_bytes c ++ (block ++ rest)))) ≡ block
    block_is =
        let at : length (varint (36 + length block)) + 1 + 36 ≡ length (1 ∷ varint (36 + length block)) + 36 = omega arith in
        let count : length block ≡ 36 + length block - 36 = omega arith in
        ap (λ (n : ℕ). take (36 + length block - 36) (drop n ((1 ∷ varint (36 + length block)) ++ (cid_bytes c ++ (block ++ rest))))) at
        ∙ ap (take (36 + length block - 36)) (drop-append-add (1 ∷ varint (36 + length block)) (cid_bytes c ++ (block ++ rest)) 36 ∙ drop_at (cid_bytes c) (block ++ rest) 36 cid_size)
        ∙ take_at block rest (36 + length block - 36) count

    cid_is : take 36 (drop (length (varint (36 + length block)) + 1) ((1 ∷ varint (36 + length block)) ++ (cid_bytes c ++ (block ++ rest)))) ≡ cid_bytes c
    cid_is =
        let at : length (1 ∷ varint (36 + length block)) ≡ length (varint (36 + length block)) + 1 = omega arith in
        ap (take 36) (drop_at (1 ∷ varint (36 + length block)) (cid_bytes c ++ (block ++ rest)) (length (varint (36 + length block)) + 1) at)
        ∙ take_at (cid_bytes c) (block ++ rest) 36 cid_size

    given : giving_at (length (varint (36 + length block)) + 1) (36 + length block) ((1 ∷ varint (36 + length block)) ++ (cid_bytes c ++ (block ++ rest)))
        ≡ Stands (Giving c block) (length (varint (36 + length block)) + 1 + (36 + length block))
    given =
        let bytes : List ℕ = (1 ∷ varint (36 + length block)) ++ (cid_bytes c ++ (block ++ rest)) in
        let k : ℕ = length (varint (36 + length block)) + 1 in
        let some : nat_lt (length ((1 ∷ varint (36 + length block)) ++ (cid_bytes c ++ (block ++ rest)))) (length (varint (36 + length block)) + 1 + 36) ≡ false =
        not_below _ _ (omega (arith, length_is)) in
        let enough : nat_lt (length ((1 ∷ varint (36 + length block)) ++ (cid_bytes c ++ (block ++ rest)))) (length (varint (36 + length block)) + 1 + (36 + length block)) ≡ false =
        not_below _ _ (omega (arith, length_is)) in
        ap (λ (t : Bool). if t then BreaksOff else giving_with k (36 + length block) bytes (all_of_36 (cid_at (take 36 (drop k bytes))))) some
        ∙ ap (λ (xs : List ℕ). giving_with k (36 + length block) bytes (all_of_36 (cid_at xs))) cid_is
        ∙ ap (giving_with k (36 + length block) bytes) cid_again
        ∙ ap (λ (t : Bool). if t then BreaksOff else Stands (Giving c (take (36 + length block - 36) (drop (k + 36) bytes))) (k + (36 + length block))) enough
        ∙ ap (λ (xs : List ℕ). Stands (Giving c xs) (k + (36 + length block))) block_is

    frame_size : length (varint (36 + length block)) + 1 + (36 + length block) ≡ length (frame_bytes (Giving c block))
    frame_size =
        let a : length ((1 ∷ varint (36 + length block)) ++ (cid_bytes c ++ block)) ≡ length (1 ∷ varint (36 + length block)) + length (cid_bytes c ++ block) = length-append (1 ∷ varint (36 + length block)) (cid_bytes c ++ block) in
        let b : length (cid_bytes c ++ block) ≡ length (cid_bytes c) + length block = length-append (cid_bytes c) block in
        omega (arith, a, b, cid_size)

    says : begins ((1 ∷ varint (36 + length block)) ++ (cid_bytes c ++ (block ++ rest))) ≡ Stands (Giving c block) (length (varint (36 + length block)) + 1 + (36 + length block))
    unfolding begins
    says =
        let bytes : List ℕ = (1 ∷ varint (36 + length block)) ++ (cid_bytes c ++ (block ++ rest)) in
        let k : ℕ = length (varint (36 + length block)) in
        let small : nat_lt (36 + length block) 36 ≡ false = not_below (36 + length block) 36 (omega arith) in
        let large : nat_lt 2097188 (36 + length block) ≡ false = not_below 2097188 (36 + length block) (omega (arith, few)) in
        ap (giving_in bytes) (read_multi_of-varint (36 + length block) (cid_bytes c ++ (block ++ rest)) (omega (arith, few)))
        ∙ (λ i. if small i || large i then Deviates else giving_at (k + 1) (36 + length block) bytes)
        ∙ given

    pub reads_giving : begins (frame_bytes (Giving c block) ++ rest) ≡ Stands (Giving c block) (length (frame_bytes (Giving c block)))
    reads_giving = ap begins all ∙ says ∙ ap (Stands (Giving c block)) frame_size
