-- Trees whose blocks the store agrees with, of which some may be lost.
use Rattle.std.proofs.Common.{◌≡◌, ℕ, List, [], ◌∷◌, refl, sym, ◌∙◌, subst, true, Some, None, map}
use Rattle.std.specs.Prelude.{IsTrue}
use Rattle.std.specs.List.{AllByRecursion}
use Rattle.uf_cid.specs.Blocks.{Held}
use Rattle.uf_store.specs.Contents.{Told}
use Rattle.uf_store.specs.Keeping.{Agrees}
use Rattle.uf_tree.specs.declared.nodes.Entry.{Entry}
use Rattle.uf_tree.specs.declared.profile.Profile.{Profile}
use Rattle.uf_tree.specs.DirPlan.{own_plan}
use Rattle.uf_tree.specs.Profiles.{is_profile}
use Rattle.uf_tree.specs.Tree.{own_meta, Tree, Dir, Entries, Nothing, With, pairs, is_tree, are_trees}
use Rattle.uf_tree.specs.TreePlan.{blocks, entry, first_refusal, named_entries}
use Rattle.uf_tree.proofs.Twins.{both_true}
use Rattle.uf_plain.specs.Edits.{child}
use Rattle.uf_plain.proofs.Plans.{Each, below_blocks, blocks-is, each-find, none-first, none-second, plans, refusal-is}
use Rattle.uf_mfs.specs.declared.mfs.Mfs.{Mfs}
use Rattle.uf_mfs.specs.Standing.{AreMembers, IsAgreed, IsEntry, IsPlanOf, StandsAt, StandsOver}
use Rattle.uf_mfs.proofs.Holding.{agrees-among, back, front, tells-agrees}

module _ (X : List ℕ → List ℕ) (N : List ℕ → ℕ) (p : Profile) where
  pub plan-of : (told : Told) (e : Entry) (t : Tree) → IsEntry X N told p e t → IsPlanOf X N p e t
  plan-of told e t s = record { profile = s.profile; tree = s.tree; planned = s.planned; is = s.is }

  -- where all blocks are held, the store agrees with them
  pub agreed : (told : Told) (e : Entry) (t : Tree) → IsEntry X N told p e t → IsAgreed X N told p e t
  agreed told e t s = record { plan = plan-of told e t s; agrees = tells-agrees told _ s.held }

  -- so a tree that stands in memory stands over its blocks
  pub stands-over : (told : Told) (mfs : Mfs) (es : Entries) → StandsAt X N told mfs p es → StandsOver X N told mfs p es
  stands-over told mfs es s = record { profile_is = s.profile_is; root = agreed told mfs.root (Dir es) s.root }

  -- ---- what is among the blocks of a folder

  pub own-among : (es : Entries) (P : Held → Type 0) → AllByRecursion P (blocks X N p (Dir es)) → AllByRecursion P (own_plan X N p (own_meta es) (named_entries X N p es)).blocks
  own-among es P h = back P (below_blocks X N p (pairs es)) _ (subst (AllByRecursion P) (blocks-is X N p es) h)

  below-each : (P : Held → Type 0) (l : List (List ℕ × Tree)) → AllByRecursion P (below_blocks X N p l) → Each (λ t. AllByRecursion P (blocks X N p t)) l
  below-each P [] h = tt
  below-each P (m ∷ l) h = (front P (blocks X N p m.1) (below_blocks X N p l) h, below-each P l (back P (blocks X N p m.1) (below_blocks X N p l) h))

  pub members-among : (es : Entries) (P : Held → Type 0) → AllByRecursion P (blocks X N p (Dir es)) → Each (λ t. AllByRecursion P (blocks X N p t)) (pairs es)
  members-among es P h = below-each P (pairs es) (front P (below_blocks X N p (pairs es)) _ (subst (AllByRecursion P) (blocks-is X N p es) h))

  pub child-among : (es : Entries) (name : List ℕ) (t : Tree) → child name es ≡ Some t → (P : Held → Type 0) → AllByRecursion P (blocks X N p (Dir es)) → AllByRecursion P (blocks X N p t)
  child-among es name t is P h = each-find (λ t. AllByRecursion P (blocks X N p t)) name t (pairs es) (members-among es P h) is

  -- ---- the members of a folder

  abbrev pub Own : Tree → Type 0
  Own t = IsPlanOf X N p (entry X N p t) t

  all-plans : IsTrue (is_profile p) → (es : Entries) → first_refusal (plans X N p (pairs es)) ≡ None → are_trees es ≡ true → Each Own (pairs es)
  unfolding is_tree
  all-plans ok (Nothing m) n t = tt
  all-plans ok (With name u es) n t =
      let parts = both_true _ _ t in
      (record { profile = ok; tree = (both_true _ _ parts.0).1; planned = none-first _ _ n; is = refl }, all-plans ok es (none-second _ _ n) parts.1)

  pub members-own : (e : Entry) (es : Entries) → IsPlanOf X N p e (Dir es) → Each Own (pairs es)
  unfolding is_tree
  members-own e es s = all-plans s.profile es (none-first _ _ (sym (refusal-is X N p es) ∙ s.planned)) (both_true _ _ s.tree).1

  -- a member of a folder
  pub child-agreed : (told : Told) (e : Entry) (es : Entries) (name : List ℕ) (t : Tree) → IsAgreed X N told p e (Dir es) → child name es ≡ Some t → IsAgreed X N told p (entry X N p t) t
  child-agreed told e es name t s is = record {
    plan = each-find Own name t (pairs es) (members-own e es s.plan) is;
    agrees = agrees-among told _ _ (child-among es name t is) s.agrees;
  }

  pub own-agrees : (told : Told) (e : Entry) (es : Entries) → IsAgreed X N told p e (Dir es) → Agrees told (own_plan X N p (own_meta es) (named_entries X N p es)).blocks
  own-agrees told e es s = agrees-among told _ _ (own-among es) s.agrees

  abbrev Member : Type 0
  Member = List ℕ × Tree

  all-agreed : (told : Told) (l : List Member) → Each Own l → Agrees told (below_blocks X N p l) → AreMembers X N told p (map (λ (e : Member). (e.0, entry X N p e.1)) l) l
  all-agreed told [] h g = tt
  all-agreed told (m ∷ l) h g = (
    refl,
    record { plan = h.0; agrees = agrees-among told (below_blocks X N p (m ∷ l)) _ (λ P. front P (blocks X N p m.1) (below_blocks X N p l)) g },
    all-agreed told l h.1 (agrees-among told (below_blocks X N p (m ∷ l)) _ (λ P. back P (blocks X N p m.1) (below_blocks X N p l)) g),
  )

  -- a folder's names and entries are those of its members
  pub folder-members : (told : Told) (e : Entry) (es : Entries) → IsAgreed X N told p e (Dir es) → AreMembers X N told p (named_entries X N p es) (pairs es)
  folder-members told e es s = all-agreed told (pairs es) (members-own e es s.plan)
      (agrees-among told _ _ (λ P h. front P (below_blocks X N p (pairs es)) _ (subst (AllByRecursion P) (blocks-is X N p es) h)) s.agrees)
