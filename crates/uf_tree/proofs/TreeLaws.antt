-- The plan of a directory after a member changes.
use Rattle.std.proofs.Common.{◌≡◌, ℕ, List, [], ◌∷◌, refl, ap, ◌∙◌, Bool, true, false, cond, Some, Ordering, map}
use Rattle.std.specs.declared.cmp.Ordering.TheVariants.{Less, Equal, Greater}
use Rattle.std.specs.Option.{option_map}
use Rattle.std.specs.Ordering.{eq_by_cmp}
use Rattle.std.specs.FinMap.Entries.{find, put, where_key, by_order}
use Rattle.uf_tree.specs.declared.meta.Meta.{Meta}
use Rattle.uf_tree.specs.Tree.{Tree, Dir, Entries, Nothing, With, own_meta, pairs, entries, fold, fold_each}
use Rattle.uf_tree.specs.Changes.{with_name, without}
use Rattle.uf_tree.specs.DirPlan.{own_plan}
use Rattle.uf_tree.specs.Names.{names_cmp}
use Rattle.uf_tree.specs.TreePlan.{planned, planned_file, planned_dir, members, entry, named_entries}
use Rattle.uf_tree.specs.declared.profile.Profile.{Profile}

-- entries and pairs undo each other
pub pairs-entries : (m : Meta) (l : List (List ℕ × Tree)) → pairs (entries m l) ≡ l
pairs-entries m [] = refl
pairs-entries m (e ∷ l) = ap (λ l. e ∷ l) (pairs-entries m l)

pub entries-pairs : (es : Entries) → entries (own_meta es) (pairs es) ≡ es
entries-pairs (Nothing m) = refl
entries-pairs (With name t es) = ap (With name t) (entries-pairs es)

pub meta-entries : (m : Meta) (l : List (List ℕ × Tree)) → own_meta (entries m l) ≡ m
meta-entries m [] = refl
meta-entries m (e ∷ l) = meta-entries m l

-- the members' own results, as a map over the pairs
pub fold_each-pairs : {R : Type 0} (file : Meta → List ℕ → R) (dir : Meta → List (List ℕ × R) → R) (es : Entries) → fold_each file dir es ≡ map (λ (e : List ℕ × Tree). (e.0, fold file dir e.1)) (pairs es)
unfolding fold
fold_each-pairs file dir (Nothing m) = refl
fold_each-pairs file dir (With name t es) = ap (λ l. (name, fold file dir t) ∷ l) (fold_each-pairs file dir es)

module _ {K A B : Type 0} (R : K → K → Ordering) (f : A → B) where
  abbrev over : K × A → K × B
  over e = (e.0, f e.1)

  -- a put, and then what becomes of each value
  pub map-put : (k : K) (v : A) (l : List (K × A)) → map over (put R k v l) ≡ put R k (f v) (map over l)
  map-put k v [] = refl
  map-put k v (e ∷ l) = elim (R k e.0) as (λ r. map over (by_order r ((k, v) ∷ e ∷ l) ((e.0, v) ∷ l) (e ∷ put R k v l)) ≡ by_order r ((k, f v) ∷ map over (e ∷ l)) ((e.0, f v) ∷ map over l) (over e ∷ put R k (f v) (map over l))) [
    | Less ↦ refl
    | Equal ↦ refl
    | Greater ↦ ap (λ l. over e ∷ l) (map-put k v l)
  ]

  pub map-where_key : (p : K → Bool) (l : List (K × A)) → map over (where_key R p l) ≡ where_key R p (map over l)
  map-where_key p [] = refl
  map-where_key p (e ∷ l) = elim (p e.0) as (λ b. map over (cond b (e ∷ where_key R p l) (where_key R p l)) ≡ cond b (over e ∷ where_key R p (map over l)) (where_key R p (map over l))) [
    | true ↦ ap (λ l. over e ∷ l) (map-where_key p l)
    | false ↦ map-where_key p l
  ]

  pub find-map : (q : K) (l : List (K × A)) → find R q (map over l) ≡ option_map f (find R q l)
  find-map q [] = refl
  find-map q (e ∷ l) = elim (eq_by_cmp R q e.0) as (λ b. cond b (Some (f e.1)) (find R q (map over l)) ≡ option_map f (cond b (Some e.1) (find R q l))) [ true ↦ refl | false ↦ find-map q l ]

module _ (X : List ℕ → List ℕ) (N : List ℕ → ℕ) (p : Profile) where
  map-over : {A B C : Type 0} (f : A → B) (g : B → C) (l : List A) → map g (map f l) ≡ map (λ x. g (f x)) l
  map-over f g [] = refl
  map-over f g (x ∷ l) = ap (λ l. g (f x) ∷ l) (map-over f g l)

  -- a directory's entry is that of its members' names and entries
  pub entry-dir : (es : Entries) → entry X N p (Dir es) ≡ (own_plan X N p (own_meta es) (named_entries X N p es)).entry
  unfolding planned fold
  entry-dir es = ap (λ l. (own_plan X N p (own_meta es) l).entry) (ap (members X N p) (fold_each-pairs (planned_file X N p) (planned_dir X N p) es) ∙ map-over _ _ (pairs es))

  -- after a member is put, it is that of the pairs after its entry is put
  pub named_entries-with : (m : Meta) (name : List ℕ) (t : Tree) (es : Entries) → named_entries X N p (entries m (with_name name t (pairs es))) ≡ with_name name (entry X N p t) (named_entries X N p es)
  named_entries-with m name t es = ap (map _) (pairs-entries m (with_name name t (pairs es))) ∙ map-put names_cmp (λ t. entry X N p t) name t (pairs es)

  pub named_entries-without : (m : Meta) (name : List ℕ) (es : Entries) → named_entries X N p (entries m (without name (pairs es))) ≡ without name (named_entries X N p es)
  named_entries-without m name es = ap (map _) (pairs-entries m (without name (pairs es))) ∙ map-where_key names_cmp (λ t. entry X N p t) _ (pairs es)
