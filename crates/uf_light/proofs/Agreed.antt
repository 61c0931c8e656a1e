-- Trees whose blocks the store agrees with, of which some may be lost.
use Rattle.std.proofs.Common.{◌≡◌, ℕ, List, [], ◌∷◌, refl, sym, ◌∙◌, subst, true, Some, None}
use Rattle.std.specs.Prelude.{IsTrue}
use Rattle.std.specs.List.{AllByRecursion}
use Rattle.uf_cid.specs.Blocks.{Held}
use Rattle.uf_store.specs.Contents.{Told}
use Rattle.uf_cid.specs.declared.cid.Cid.{Cid}
use Rattle.uf_tree.specs.declared.profile.Profile.{Profile}
use Rattle.uf_tree.specs.DirPlan.{own_plan}
use Rattle.uf_tree.specs.Profiles.{is_profile}
use Rattle.uf_tree.specs.Tree.{Tree, Dir, Entries, Nothing, With, own_meta, pairs, is_tree, are_trees}
use Rattle.uf_tree.specs.TreePlan.{blocks, entry, first_refusal, named_entries}
use Rattle.uf_tree.proofs.Twins.{both_true}
use Rattle.uf_plain.specs.Edits.{child}
use Rattle.uf_plain.proofs.Plans.{Each, below_blocks, blocks-is, each-find, none-first, none-second, plans, refusal-is}
use Rattle.uf_light.specs.Standing.{IsAgreedAt, IsTreeAt}
use Rattle.uf_light.proofs.Holding.{agrees-among, back, front}

module _ (X : List ℕ → List ℕ) (N : List ℕ → ℕ) (p : Profile) where
  -- ---- what is among the blocks of a folder

  pub own-among : (es : Entries) (P : Held → Type 0) → AllByRecursion P (blocks X N p (Dir es)) → AllByRecursion P (own_plan X N p (own_meta es) (named_entries X N p es)).blocks
  own-among es P h = back P (below_blocks X N p (pairs es)) _ (subst (AllByRecursion P) (blocks-is X N p es) h)

  below-each : (P : Held → Type 0) (l : List (List ℕ × Tree)) → AllByRecursion P (below_blocks X N p l) → Each (λ t. AllByRecursion P (blocks X N p t)) l
  below-each P [] h = tt
  below-each P (m ∷ l) h = (front P (blocks X N p m.1) (below_blocks X N p l) h, below-each P l (back P (blocks X N p m.1) (below_blocks X N p l) h))

  pub members-among : (es : Entries) (P : Held → Type 0) → AllByRecursion P (blocks X N p (Dir es)) → Each (λ t. AllByRecursion P (blocks X N p t)) (pairs es)
  members-among es P h = below-each P (pairs es) (front P (below_blocks X N p (pairs es)) _ (subst (AllByRecursion P) (blocks-is X N p es) h))

  pub child-among : (es : Entries) (name : List ℕ) (t : Tree) → child name es ≡ Some t → (P : Held → Type 0) → AllByRecursion P (blocks X N p (Dir es)) → AllByRecursion P (blocks X N p t)
  child-among es name t is P h = each-find (λ t. AllByRecursion P (blocks X N p t)) name t (pairs es) (members-among es P h) is

  -- ---- the members of a folder

  abbrev pub Own : Tree → Type 0
  Own t = IsTreeAt X N p (entry X N p t).cid t

  all-plans : IsTrue (is_profile p) → (es : Entries) → first_refusal (plans X N p (pairs es)) ≡ None → are_trees es ≡ true → Each Own (pairs es)
  unfolding is_tree
  all-plans ok (Nothing m) n t = tt
  all-plans ok (With name u es) n t =
      let parts = both_true _ _ t in
      (record { profile = ok; tree = (both_true _ _ parts.0).1; planned = none-first _ _ n; is = refl }, all-plans ok es (none-second _ _ n) parts.1)

  pub members-own : (c : Cid) (es : Entries) → IsTreeAt X N p c (Dir es) → Each Own (pairs es)
  unfolding is_tree
  members-own c es s = all-plans s.profile es (none-first _ _ (sym (refusal-is X N p es) ∙ s.planned)) (both_true _ _ s.tree).1

  -- a member of a folder
  pub child-agreed : (told : Told) (c : Cid) (es : Entries) (name : List ℕ) (t : Tree) → IsAgreedAt X N told p c (Dir es) → child name es ≡ Some t → IsAgreedAt X N told p (entry X N p t).cid t
  child-agreed told c es name t s is = record {
    plan = each-find Own name t (pairs es) (members-own c es s.plan) is;
    agrees = agrees-among told _ _ (child-among es name t is) s.agrees;
  }
