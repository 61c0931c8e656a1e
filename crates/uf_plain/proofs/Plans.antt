-- The plan of a folder, by those of its members.
use Rattle.std.proofs.Common.{◌≡◌, ℕ, List, [], ◌∷◌, ◌++◌, refl, ap, ◌∙◌, subst, Bool, true, false, cond, Option, Some, None, map}
use Rattle.std.specs.declared.cmp.Ordering.TheVariants.{Less, Equal, Greater}
use Rattle.std.specs.List.{AllByRecursion, flat_map}
use Rattle.std.specs.Option.{option_map}
use Rattle.std.specs.Ordering.{eq_by_cmp}
use Rattle.std.specs.FinMap.Entries.{find, put, where_key, by_order}
use Rattle.uf_cid.specs.Blocks.{Held}
use Rattle.uf_tree.specs.declared.profile.Profile.{Profile}
use Rattle.uf_tree.specs.DirPlan.{own_plan}
use Rattle.uf_tree.specs.Names.{names_cmp}
use Rattle.uf_tree.specs.Nodes.{Named}
use Rattle.uf_tree.specs.Tree.{Tree, Dir, Entries, own_meta, pairs, fold}
use Rattle.uf_tree.specs.TreePlan.{Refusal, Planned, planned, planned_file, planned_dir, members, first_refusal, or_else, dir_refusal, entry, blocks, refusal, named_entries}
use Rattle.uf_tree.proofs.TreeLaws.{fold_each-pairs, find-map}
use Rattle.uf_plain.specs.Edits.{child}

-- of the value under each name
module _ {A : Type 0} (P : A → Type 0) where
  abbrev pub Each : List (List ℕ × A) → Type 0
  Each l = AllByRecursion (λ (m : List ℕ × A). P m.1) l

  pub each-put : (name : List ℕ) (a : A) (l : List (List ℕ × A)) → P a → Each l → Each (put names_cmp name a l)
  each-put name a [] h j = (h, tt)
  each-put name a (e ∷ l) h j = elim (names_cmp name e.0) as (λ r. Each (by_order r ((name, a) ∷ e ∷ l) ((e.0, a) ∷ l) (e ∷ put names_cmp name a l))) [
    | Less ↦ (h, j)
    | Equal ↦ (h, j.1)
    | Greater ↦ (j.0, each-put name a l h j.1)
  ]

  pub each-where : (t : List ℕ → Bool) (l : List (List ℕ × A)) → Each l → Each (where_key names_cmp t l)
  each-where t [] j = tt
  each-where t (e ∷ l) j = elim (t e.0) as (λ b. Each (cond b (e ∷ where_key names_cmp t l) (where_key names_cmp t l))) [
    | true ↦ (j.0, each-where t l j.1)
    | false ↦ each-where t l j.1
  ]

  pub each-find : (name : List ℕ) (a : A) (l : List (List ℕ × A)) → Each l → find names_cmp name l ≡ Some a → P a
  each-find name a [] j e = absurd cc
  each-find name a (m ∷ l) j e = elim (eq_by_cmp names_cmp name m.0) as (λ b. cond b (Some m.1) (find names_cmp name l) ≡ Some a → P a) [
    | true ↦ λ e. (let same : m.1 ≡ a = cc in subst P same j.0)
    | false ↦ λ e. each-find name a l j.1 e
  ] e

pub none-first : (a b : Option Refusal) → or_else a b ≡ None → a ≡ None
none-first None b h = refl
none-first (Some a) b h = h

pub none-second : (a b : Option Refusal) → or_else a b ≡ None → b ≡ None
none-second None b h = h
none-second (Some a) b h = absurd cc

or-none : (a : Option Refusal) → or_else a None ≡ a
or-none None = refl
or-none (Some a) = refl

module _ (X : List ℕ → List ℕ) (N : List ℕ → ℕ) (p : Profile) where
  abbrev pub Ms : Type 0
  Ms = List (List ℕ × Tree)

  -- the members' plans
  abbrev pub plans : Ms → List (List ℕ × Planned)
  plans l = map (λ (m : List ℕ × Tree). (m.0, planned X N p m.1)) l

  abbrev pub named : Ms → List Named
  named l = map (λ (m : List ℕ × Tree). (m.0, entry X N p m.1)) l

  pub planned-dir : (es : Entries) → planned X N p (Dir es) ≡ planned_dir X N p (own_meta es) (plans (pairs es))
  unfolding planned fold
  planned-dir es = ap (planned_dir X N p (own_meta es)) (fold_each-pairs (planned_file X N p) (planned_dir X N p) es)

  pub members-plans : (l : Ms) → members X N p (plans l) ≡ named l
  members-plans [] = refl
  members-plans (m ∷ l) = ap (λ k. (m.0, entry X N p m.1) ∷ k) (members-plans l)

  -- the blocks of the members
  abbrev pub below_blocks : Ms → List Held
  below_blocks l = flat_map (λ (m : List ℕ × Planned). m.1.plan.blocks) (plans l)

  pub entry-is : (es : Entries) → entry X N p (Dir es) ≡ (own_plan X N p (own_meta es) (named (pairs es))).entry
  entry-is es = ap (λ (q : Planned). q.plan.entry) (planned-dir es) ∙ ap (λ l. (own_plan X N p (own_meta es) l).entry) (members-plans (pairs es))

  pub blocks-is : (es : Entries) → blocks X N p (Dir es) ≡ below_blocks (pairs es) ++ (own_plan X N p (own_meta es) (named (pairs es))).blocks
  blocks-is es = ap (λ (q : Planned). q.plan.blocks) (planned-dir es) ∙ ap (λ l. below_blocks (pairs es) ++ (own_plan X N p (own_meta es) l).blocks) (members-plans (pairs es))

  pub refusal-is : (es : Entries) → refusal X N p (Dir es) ≡ or_else (first_refusal (plans (pairs es))) (dir_refusal X N p (own_meta es) (named (pairs es)))
  refusal-is es = ap (λ (q : Planned). q.refusal) (planned-dir es) ∙ ap (λ l. or_else (first_refusal (plans (pairs es))) (dir_refusal X N p (own_meta es) l)) (members-plans (pairs es))

  pub find-child : (es : Entries) (name : List ℕ) → find names_cmp name (named_entries X N p es) ≡ option_map (λ t. entry X N p t) (child name es)
  find-child es name = find-map names_cmp (λ t. entry X N p t) name (pairs es)

  pub first-none : (l : Ms) → Each (λ t. refusal X N p t ≡ None) l → first_refusal (plans l) ≡ None
  first-none [] h = refl
  first-none (m ∷ l) h = ap (λ o. or_else o (first_refusal (plans l))) h.0 ∙ first-none l h.1

  pub first-put : (name : List ℕ) (u : Tree) (l : Ms) → Each (λ t. refusal X N p t ≡ None) l → first_refusal (plans (put names_cmp name u l)) ≡ refusal X N p u
  first-put name u [] h = or-none _
  first-put name u (m ∷ l) h =
      let rest : first_refusal (plans l) ≡ None = first-none l h.1 in
      elim (names_cmp name m.0) as (λ r. first_refusal (plans (by_order r ((name, u) ∷ m ∷ l) ((m.0, u) ∷ l) (m ∷ put names_cmp name u l))) ≡ refusal X N p u) [
        | Less ↦ ap (λ o. or_else (refusal X N p u) (or_else o (first_refusal (plans l)))) h.0 ∙ ap (or_else (refusal X N p u)) rest ∙ or-none _
        | Equal ↦ ap (or_else (refusal X N p u)) rest ∙ or-none _
        | Greater ↦ ap (λ o. or_else o (first_refusal (plans (put names_cmp name u l)))) h.0 ∙ first-put name u l h.1
      ]
