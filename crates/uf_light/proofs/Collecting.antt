-- What is gathered name by name.
use Rattle.std.proofs.Common.{◌≡◌, ℕ, ◌+◌, List, [], ◌∷◌, ◌++◌, refl, ap, sym, ◌∙◌, subst, append-nil, Option, Some, None, Result, Ok, Err}
use Rattle.std.specs.List.{AllByRecursion}
use Rattle.uf_cid.specs.Blocks.{Held}
use Rattle.uf_cid.specs.declared.cid.Cid.{Cid}
use Rattle.uf_store.specs.Contents.{Told}
use Rattle.uf_store.specs.Lost.{FindsOver, IsLossOf}
use Rattle.uf_store.specs.declared.store.StoreFault.{StoreFault}
use Rattle.uf_tree.specs.declared.nodes.Entry.{Entry}
use Rattle.uf_tree.specs.declared.profile.Profile.{Profile}
use Rattle.uf_tree.specs.DirPlan.{trail}
use Rattle.uf_tree.specs.Tree.{Tree, File, Dir, Entries, own_meta}
use Rattle.uf_tree.specs.TreePlan.{blocks, entry, named_entries}
use Rattle.uf_laws.proofs.Held.{trail-among}
use Rattle.uf_plain.specs.declared.rule.Refused.{Refused}
use Rattle.uf_plain.specs.declared.rule.Refused.TheVariants as why
use Rattle.uf_plain.specs.Edits.{at, child}
use Rattle.uf_plain.specs.Needs.{root_of, way}
use Rattle.uf_plain.specs.Replies.{root_block}
use Rattle.uf_light.specs.declared.met.PathEnd.{PathEnd}
use Rattle.uf_light.specs.declared.thing.TypedEntry.{TypedEntry}
use Rattle.uf_light.specs.declared.thing.TypedEntry.TheVariants.{File as FileAt}
use Rattle.uf_light.specs.FileCids.{cids_of}
use Rattle.uf_light.specs.Gathered.{Gathered, Gathers}
use Rattle.uf_light.specs.Light.{trails}
use Rattle.uf_light.specs.Standing.{IsAgreedThing, IsMet}
use Rattle.uf_light.proofs.Agreed.{child-among, own-among}
use Rattle.uf_light.proofs.Holding.{Among, append, loss-back}
use Rattle.uf_light.proofs.Finding.{at-on, way-on}
use Rattle.uf_light.proofs.Going.{gathered-more, gathered-none}
use Rattle.uf_light.proofs.Rooting.{found-among}
use Rattle.uf_light.proofs.Seeing.{file-tree}

module _ (X : List ℕ → List ℕ) (N : List ℕ → ℕ) (p : Profile) where
  -- ---- among the blocks of the tree

  pub root-of-among : (t : Tree) → Among (root_of X N p t) (blocks X N p t)
  root-of-among t P h = by (root_block X N p t) refl
    where
      by : (o : Option (List ℕ)) → root_block X N p t ≡ o → AllByRecursion P (elim o as (λ o. List Held) [ None ↦ [] | Some bytes ↦ ((entry X N p t).cid, bytes) ∷ [] ])
      by None is = tt
      by (Some bytes) is = (found-among (entry X N p t).cid bytes (blocks X N p t) P is h, tt)

  pub own-trail : (name : List ℕ) (es : Entries) → Among (trail X N p (own_meta es) (named_entries X N p es) name) (blocks X N p (Dir es))
  own-trail name es P h = trail-among X N P p (own_meta es) (named_entries X N p es) name (own-among X N p es P h)

  below : (need : Tree → List Held) → ((t : Tree) → Among (need t) (blocks X N p t)) → (name : List ℕ) (es : Entries)
      → Among (elim (child name es) as (λ o. List Held) [ None ↦ [] | Some t ↦ need t ]) (blocks X N p (Dir es))
  below need each name es P h = by (child name es) refl
    where
      by : (o : Option Tree) → child name es ≡ o → AllByRecursion P (elim o as (λ o. List Held) [ None ↦ [] | Some t ↦ need t ])
      by None is = tt
      by (Some t) is = each t P (child-among X N p es name t is P h)

  pub way-among : (names : List (List ℕ)) (t : Tree) → Among (way X N p names t) (blocks X N p t)
  way-among [] t P h = root-of-among t P h
  way-among (name ∷ names) (File m bytes) P h = root-of-among (File m bytes) P h
  way-among (name ∷ names) (Dir es) P h = append P _ _ (own-trail name es P h) (below (way X N p names) (way-among names) name es P h)

  pub trails-among : (names : List (List ℕ)) (t : Tree) → Among (trails X N p names t) (blocks X N p t)
  trails-among [] t P h = tt
  trails-among (name ∷ names) (File m bytes) P h = tt
  trails-among (name ∷ names) (Dir es) P h = append P _ _ (own-trail name es P h) (below (trails X N p names) (trails-among names) name es P h)

  module _ (told : Told) where
    -- ---- where the way ends

    pub ends-there : (names : List (List ℕ)) (t : Tree) (cids : List Cid) → [] ≡ names → Gathered told (trails X N p names t) cids cids
    ends-there names t cids none = subst (λ (l : List (List ℕ)). Gathered told (trails X N p l t) cids cids) none (gathered-none told cids)

    pub ends-behind : (name : List ℕ) (more names : List (List ℕ)) (t : Tree) (e : Entry) (thing : TypedEntry) (cids : List Cid) → name ∷ more ≡ names → thing ≡ FileAt e → IsAgreedThing X N told p t thing
        → Gathered told (trails X N p names t) cids cids
    ends-behind name more names t e thing cids are is h =
        let file = file-tree X N told p t e (subst (IsAgreedThing X N told p t) is h) in
        subst (λ (l : List (List ℕ)). Gathered told (trails X N p l t) cids cids) are
        (subst (λ (t : Tree). Gathered told (trails X N p (name ∷ more) t) cids cids) (sym file.2) (gathered-none told cids))

    -- ---- a name

    -- the blocks that decide it were gathered
    pub trail-gathered : (l : List Held) (found cids cids_now : List Cid) → FindsOver told l (cids_of l) (Ok found) → cids_now ≡ cids ++ found → Gathered told l cids cids_now
    trail-gathered l found cids cids_now h added = record { added = added ∙ ap (λ (k : List Cid). cids ++ k) h.0; held = h.1 }

    -- nothing is there
    pub gather-none : (led : ℕ) (name : List ℕ) (more names : List (List ℕ)) (t : Tree) (es : Entries) (cids cids_now : List Cid) → name ∷ more ≡ names → t ≡ Dir es → child name es ≡ None
        → Gathered told (trail X N p (own_meta es) (named_entries X N p es) name) cids cids_now → Gathered told (trails X N p names t) cids cids_now
    gather-none led name more names t es cids cids_now are is none h =
        subst (λ (l : List (List ℕ)). Gathered told (trails X N p l t) cids cids_now) are
        (subst (λ (t : Tree). Gathered told (trails X N p (name ∷ more) t) cids cids_now) (sym is)
        (subst (λ (o : Option Tree). Gathered told (trail X N p (own_meta es) (named_entries X N p es) name ++ elim o as (λ o. List Held) [ None ↦ [] | Some t ↦ trails X N p more t ]) cids cids_now) (sym none)
        (subst (λ (l : List Held). Gathered told l cids cids_now) (sym (append-nil (trail X N p (own_meta es) (named_entries X N p es) name))) h)))

    -- the way goes on
    pub gather-on : (led : ℕ) (name : List ℕ) (more names : List (List ℕ)) (t u : Tree) (es : Entries) (cids cids_mid cids_now : List Cid) (r : Result PathEnd StoreFault) → name ∷ more ≡ names → t ≡ Dir es → child name es ≡ Some u
        → Gathered told (trail X N p (own_meta es) (named_entries X N p es) name) cids cids_mid → Gathers X N told p more u (at (led + 1) more u) cids_mid cids_now r → Gathers X N told p names t (at led names t) cids cids_now r
    gather-on led name more names t u es cids cids_mid cids_now r are is there first h =
        subst (λ (l : List (List ℕ)). Gathers X N told p l t (at led l t) cids cids_now r) are
        (subst (λ (t : Tree). Gathers X N told p (name ∷ more) t (at led (name ∷ more) t) cids cids_now r) (sym is) (by r h))
      where
        by : (r : Result PathEnd StoreFault) → Gathers X N told p more u (at (led + 1) more u) cids_mid cids_now r → Gathers X N told p (name ∷ more) (Dir es) (at led (name ∷ more) (Dir es)) cids cids_now r
        by (Ok met) h = (
          subst (λ (w : Result Tree Refused). IsMet X N told p w met) (sym (at-on X N p told led name more es u there)) h.0,
          subst (λ (o : Option Tree). Gathered told (trail X N p (own_meta es) (named_entries X N p es) name ++ elim o as (λ o. List Held) [ None ↦ [] | Some t ↦ trails X N p more t ]) cids cids_now) (sym there)
              (gathered-more told (trail X N p (own_meta es) (named_entries X N p es) name) (trails X N p more u) cids cids_mid cids_now first h.1),
        )
        by (Err f) h = subst (λ (l : List Held). IsLossOf told l f) (sym (way-on X N p told name more es u there)) (loss-back told (trail X N p (own_meta es) (named_entries X N p es) name) (way X N p more u) f h)

  -- ---- what is at a path is among the blocks of the tree

  pub at-among : (led : ℕ) (names : List (List ℕ)) (t found : Tree) → at led names t ≡ Ok found → Among (blocks X N p found) (blocks X N p t)
  at-among led [] t found is P h = subst (λ (t : Tree). AllByRecursion P (blocks X N p t)) (let same : t ≡ found = cc in same) h
  at-among led (name ∷ names) (File m bytes) found is P h = absurd cc
  at-among led (name ∷ names) (Dir es) found is P h = by (λ t is h. at-among (led + 1) names t found is P h) (child name es) refl is
    where
      by : ((t : Tree) → at (led + 1) names t ≡ Ok found → AllByRecursion P (blocks X N p t) → AllByRecursion P (blocks X N p found)) → (o : Option Tree) → child name es ≡ o
          → (elim o as (λ o. Result Tree Refused) [ None ↦ Err (why.NotFound (led + 1)) | Some t ↦ at (led + 1) names t ]) ≡ Ok found → AllByRecursion P (blocks X N p found)
      by rec None there is = absurd cc
      by rec (Some t) there is = rec t is (child-among X N p es name t there P h)
