-- How many names a path has.
use Rattle.std.proofs.Common.{◌≡◌, ℕ, zero, suc, ◌+◌, ◌<◌, ◌≤◌, ◌^◌, List, [], ◌∷◌, ◌++◌, ◌-◌, length, length-append, drop, Bool, true, false, cond, arith, refl, ap, subst, Result, Ok, Err}
use Rattle.std.specs.Prelude.{nat_lt, slice_index, ◌==◌, if◌then◌else◌}
use Rattle.std.specs.List.{after_first, before_first, onto_first, position_or_len, slice_split}
use Rattle.std.proofs.lemmas.Bool.{ltb-false}
use Rattle.uf_cid.specs.Read.{cid_of_text}
use Rattle.uf_cid.specs.declared.cid.Cid.{Cid}
use Rattle.uf_cid.specs.declared.cid.CidFault.{CidFault}
use Rattle.uf_tree.specs.Names.{is_name}
use Rattle.uf_path.specs.Paths.{both_read, dag_at, dag_path_of, dag_path_reads, is_slash, names_a_dag, names_in, part_read, parts, path_of, path_reads}
use Rattle.uf_path.specs.declared.faults.PathFault.{PathFault}
use Rattle.uf_path.specs.declared.faults.PathFault.TheVariants as fault
use Rattle.uf_path.specs.declared.path.DagPath.{DagPath}
use Rattle.uf_path.specs.declared.path.Path.{Path}

-- a text has at most one part more than bytes
onto-few : (x : ℕ) (l : List (List ℕ)) (n : ℕ) → length l ≤ n + 1 → length (onto_first x l) ≤ n + 1
onto-few x [] n h = search arith
onto-few x (part ∷ l) n h = h

cond-few : (b : Bool) (x : ℕ) (l : List (List ℕ)) (n : ℕ) → length l ≤ n + 1 → length (cond b ([] ∷ l) (onto_first x l)) ≤ suc n + 1
cond-few true x l n h = omega (arith, h)
cond-few false x l n h = (let k = onto-few x l n h in omega (arith, k))

split-few : (p : ℕ → Bool) (xs : List ℕ) → length (slice_split p xs) ≤ length xs + 1
split-few p [] = search arith
split-few p (x ∷ xs) = cond-few (p x) x (slice_split p xs) (length xs) (split-few p xs)

drop-few : (n : ℕ) (xs : List ℕ) → length (drop n xs) ≤ length xs
drop-few zero xs = search arith
drop-few (suc n) [] = search arith
drop-few (suc n) (x ∷ xs) = (let h = drop-few n xs in omega (arith, h))

-- a part is one name at most
one-name : (empty good : Bool) (at : ℕ) (part : List ℕ) (found : List (List ℕ)) → (if empty then Ok [] else if good then Ok (part ∷ []) else Err (fault.BadName at)) ≡ Ok found → length found ≤ 1
one-name true good at part found is = (let e : [] ≡ found = cc in subst (λ l. length l ≤ 1) e (search arith))
one-name false true at part found is = (let e : part ∷ [] ≡ found = cc in subst (λ l. length l ≤ 1) e (search arith))
one-name false false at part found is = absurd cc

both-few : (r l : Result (List (List ℕ)) PathFault) (names : List (List ℕ)) (n : ℕ) → ((found : List (List ℕ)) → r ≡ Ok found → length found ≤ 1) → ((more : List (List ℕ)) → l ≡ Ok more → length more ≤ n) → both_read r l ≡ Ok names → length names ≤ suc n
both-few (Err why) l names n first later is = absurd cc
both-few (Ok found) (Err why) names n first later is = absurd cc
both-few (Ok found) (Ok more) names n first later is =
    let e : found ++ more ≡ names = cc in let a = first found refl in let b = later more refl in let sizes = length-append found more in
    subst (λ l. length l ≤ suc n) e (omega (arith, a, b, sizes))

names-few : (at : ℕ) (ps : List (List ℕ)) (names : List (List ℕ)) → names_in at ps ≡ Ok names → length names ≤ length ps
names-few at [] names is = (let e : [] ≡ names = cc in subst (λ l. length l ≤ 0) e (search arith))
names-few at (part ∷ rest) names is =
    both-few (part_read at part) (names_in (at + (length part + 1)) rest) names (length rest) (λ found one. one-name (length part == 0) (is_name part) at part found one) (λ more h. names-few (at + (length part + 1)) rest more h) is

path-names : (c : Result Cid CidFault) (n : Result (List (List ℕ)) PathFault) (path : DagPath) → dag_path_of c n ≡ Ok path → n ≡ Ok path.names
path-names (Err why) n path is = absurd cc
path-names (Ok cid) (Err why) path is = absurd cc
path-names (Ok cid) (Ok names) path is = (let e : record { cid = cid; names = names } ≡ path = cc in ap (λ (p : DagPath). Ok p.names) e)

at-few : (at : ℕ) (text : List ℕ) (path : DagPath) → dag_at at text ≡ Ok path → length path.names ≤ length text + 1
at-few at text path is =
    let front = before_first is_slash text in let rest = after_first is_slash text in
    let a = names-few (at + length front + 1) (parts rest) path.names (path-names (cid_of_text front) (names_in (at + length front + 1) (parts rest)) path is) in
    let b = split-few is_slash rest in let c = drop-few (position_or_len is_slash text + 1) text in
    omega (arith, a, b, c)

whole-few : (long in_dag : Bool) (text : List ℕ) (path : DagPath) → nat_lt 4096 (length text) ≡ long → (if long then Err fault.TooLong else if in_dag then dag_at 6 (drop 6 text) else dag_at 0 text) ≡ Ok path → length path.names < 2 ^ 32
whole-few true in_dag text path few is = absurd cc
whole-few false true text path few is = (let a = at-few 6 (drop 6 text) path is in let b = drop-few 6 text in let c = ltb-false 4096 (length text) few in omega (arith, a, b, c))
whole-few false false text path few is = (let a = at-few 0 text path is in let c = ltb-false 4096 (length text) few in omega (arith, a, c))

-- a path in a DAG has fewer names than a text of one may have bytes
pub dag-few : (text : List ℕ) (path : DagPath) → dag_path_reads text ≡ Ok path → length path.names < 2 ^ 32
unfolding dag_path_reads
dag-few text path is = whole-few (nat_lt 4096 (length text)) (names_a_dag text) text path refl is

tree-names : (into : Bool) (n : Result (List (List ℕ)) PathFault) (path : Path) → path_of into n ≡ Ok path → n ≡ Ok path.names
tree-names into (Err why) path is = absurd cc
tree-names into (Ok names) path is = (let e : record { names = names; into = into } ≡ path = cc in ap (λ (p : Path). Ok p.names) e)

tree-whole-few : (long absolute into : Bool) (text : List ℕ) (path : Path) → nat_lt 4096 (length text) ≡ long → (if long then Err fault.TooLong else if absolute then path_of into (names_in 0 (parts text)) else Err fault.NotAbsolute) ≡ Ok path → length path.names < 2 ^ 32
tree-whole-few true absolute into text path few is = absurd cc
tree-whole-few false false into text path few is = absurd cc
tree-whole-few false true into text path few is =
    let a = names-few 0 (parts text) path.names (tree-names into (names_in 0 (parts text)) path is) in
    let b = split-few is_slash text in let c = ltb-false 4096 (length text) few in omega (arith, a, b, c)

-- and so has a path in the tree
pub tree-few : (text : List ℕ) (path : Path) → path_reads text ≡ Ok path → length path.names < 2 ^ 32
unfolding path_reads
tree-few text path is = tree-whole-few (nat_lt 4096 (length text)) (is_slash (slice_index text 0)) (is_slash (slice_index text (length text - 1))) text path refl is
