-- How many bytes the blocks among the entries have, where one is used, where one is put and where all go.
use Rattle.std.proofs.Common.{◌≡◌, ◌≤◌, ◌+◌, ℕ, Bool, List, [], ◌∷◌, zero, suc, Option, Some, None, arith, refl, sym, ap, subst, ◌∙◌, inl, inr, length}
use Rattle.std.specs.Prelude.{take}
use Rattle.std.specs.List.{sum_by}
use Rattle.std.specs.Map.{lookup, remove_entry, values_of}
use Rattle.std.specs.Option.{option_map, option_map_or, unwrap_or}
use Rattle.std.proofs.lemmas.List.Sums.{sum_by-cons}
use Rattle.std.proofs.lemmas.Map.Entries.{sum_by-remove_entry}
use Rattle.lru.proofs.Pairs.{lookup-lookup_entry}
use Rattle.uf_cid.specs.declared.cid.Cid.{Cid}
use Rattle.uf_cid.specs.Cid.{cid_bytes}
use Rattle.uf_cache.specs.Entries.{Entries, HasRoom, MayPut, bytes_of, emptied, is_spelled, used}

abbrev total : List (List ℕ × List ℕ) → ℕ
total es = sum_by length (values_of es)

next : (e : List ℕ × List ℕ) (es : List (List ℕ × List ℕ)) → total (e ∷ es) ≡ length e.1 + total es
next e es = sum_by-cons length e.1 (values_of es)

take-total : (n : ℕ) (es : List (List ℕ × List ℕ)) → total (take n es) ≤ total es
take-total zero es = let none : 0 ≤ total es = omega arith in none
take-total (suc n) [] = let none : 0 ≤ 0 = omega arith in none
take-total (suc n) (e ∷ es) =
    let rest = take-total n es in let one = next e (take n es) in let all = next e es in
    let more : total (e ∷ take n es) ≤ total (e ∷ es) = omega (arith, rest, one, all) in
    more

module _ (test : List ℕ → Bool) (es : List (List ℕ × List ℕ)) where
  -- what goes and what stays are all
  split : (o : Option (List ℕ)) → lookup test es ≡ o → total (remove_entry test es) + unwrap_or (option_map length o) 0 ≡ total es
  split o is = subst (λ x. total (remove_entry test es) + unwrap_or (option_map length x) 0 ≡ total es) is (sum_by-remove_entry length test es)

  used_first : (o : Option (List ℕ × List ℕ)) → lookup test es ≡ option_map (λ e. e.1) o
      → total (option_map_or (λ e. e ∷ remove_entry test es) o es) ≡ total es
  used_first None is = refl
  used_first (Some e) is =
      let all : total (remove_entry test es) + length e.1 ≡ total es = split (Some e.1) is in
      let one = next e (remove_entry test es) in
      let moved : total (e ∷ remove_entry test es) ≡ total es = omega (arith, all, one) in
      moved

  put_first : (o : Option (List ℕ × List ℕ)) (key block : List ℕ) (n : ℕ) → lookup test es ≡ option_map (λ e. e.1) o
      → total (option_map_or (λ e. (e.0, block) ∷ remove_entry test es) o ((key, block) ∷ take n es)) ≤ length block + total es
  put_first None key block n is =
      let rest = take-total n es in let one = next (key, block) (take n es) in
      let more : total ((key, block) ∷ take n es) ≤ length block + total es = omega (arith, rest, one) in
      more
  put_first (Some e) key block n is =
      let all : total (remove_entry test es) + length e.1 ≡ total es = split (Some e.1) is in
      let one = next (e.0, block) (remove_entry test es) in
      let more : total ((e.0, block) ∷ remove_entry test es) ≤ length block + total es = omega (arith, all, one) in
      more

-- an entry was used
pub room-used : (room : ℕ) (cid : Cid) (es now : Entries) → now ≡ used cid es → HasRoom room es → HasRoom room now
room-used room cid es now is has =
    let same : bytes_of now ≡ bytes_of es =
    ap bytes_of is ∙ used_first (is_spelled cid) es.entries _ (sym (lookup-lookup_entry (is_spelled cid) es.entries)) in
    let small : bytes_of es + room ≤ 67108864 = has in
    let left : bytes_of now + room ≤ 67108864 = omega (arith, same, small) in
    left

bytes-put : (cid : Cid) (bytes : List ℕ) (es now : Entries) → MayPut cid bytes es now → bytes_of now ≤ length bytes + bytes_of es
bytes-put cid bytes es now (inl is) =
    let most = put_first (is_spelled cid) es.entries _ (cid_bytes cid) bytes _ (sym (lookup-lookup_entry (is_spelled cid) es.entries)) in
    subst (λ (x : Entries). bytes_of x ≤ length bytes + bytes_of es) (sym is) most
bytes-put cid bytes es now (inr is) =
    let more : bytes_of es ≤ length bytes + bytes_of es = omega arith in
    subst (λ (x : Entries). bytes_of x ≤ length bytes + bytes_of es) (sym is) more

-- a block may have been put for which there was room
pub room-put : (room : ℕ) (cid : Cid) (bytes : List ℕ) (es now : Entries) → MayPut cid bytes es now
    → HasRoom (room + length bytes) es → HasRoom room now
room-put room cid bytes es now put has =
    let more = bytes-put cid bytes es now put in
    let small : bytes_of es + (room + length bytes) ≤ 67108864 = has in
    let left : bytes_of now + room ≤ 67108864 = omega (arith, more, small) in
    left

-- all went
pub room-none : (room : ℕ) (es now : Entries) → now ≡ emptied es → room ≡ 67108864 → HasRoom room now
room-none room es now is all =
    let none : bytes_of now ≡ 0 = ap bytes_of is in
    let left : bytes_of now + room ≤ 67108864 = omega (arith, none, all) in
    left
