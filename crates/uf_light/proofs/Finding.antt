-- A lookup, name by name.
use Rattle.std.proofs.Common.{◌≡◌, ℕ, ◌+◌, ◌-◌, ◌<◌, ◌≤◌, List, [], ◌∷◌, ◌++◌, arith, drop, get_or, length, take, refl, ap, sym, ◌∙◌, subst, true, false, cond, inl, inr, Option, Some, None, Result, Ok, Err}
use Rattle.std.proofs.lemmas.List.{take_all}
use Rattle.uf_cid.specs.Blocks.{Held, Lookup}
use Rattle.uf_cid.specs.Cid.{cid_of}
use Rattle.uf_cid.specs.declared.cid.Cid.{Cid}
use Rattle.uf_cid.specs.declared.cid.Codec.TheVariants.{DagPb}
use Rattle.uf_store.specs.Contents.{Told}
use Rattle.uf_store.specs.Lost.{IsLossOf, IsLost}
use Rattle.uf_store.specs.declared.store.StoreFault.{StoreFault}
use Rattle.uf_tree.specs.declared.meta.Meta.{Meta}
use Rattle.uf_tree.specs.declared.nodes.Entry.{Entry}
use Rattle.uf_tree.specs.declared.profile.Profile.{Profile}
use Rattle.uf_tree.specs.DirPlan.{basic_dir, is_sharded, trail}
use Rattle.uf_tree.specs.Metas.{none}
use Rattle.uf_tree.specs.Nodes.{Named, dir_block}
use Rattle.uf_tree.specs.Roots.{dir_root}
use Rattle.uf_tree.specs.ShardPlan.{shard, shard_held, shard_items, shard_trail}
use Rattle.uf_tree.specs.Tree.{Tree, File, Dir, Entries, own_meta}
use Rattle.uf_tree.specs.TreePlan.{entry, named_entries}
use Rattle.uf_tree.specs.Validity.{IsHash}
use Rattle.uf_plain.specs.declared.rule.Refused.{Refused}
use Rattle.uf_plain.specs.declared.rule.Refused.TheVariants as why
use Rattle.uf_plain.specs.Edits.{at, child}
use Rattle.uf_plain.specs.Needs.{member_needs, root_of, way}
use Rattle.uf_plain.specs.Replies.{root_block}
use Rattle.uf_plain.proofs.Plans.{entry-is}
use Rattle.uf_light.specs.declared.met.PathEnd.{PathEnd}
use Rattle.uf_light.specs.declared.met.PathEnd.TheVariants.{There, Nothing, Behind}
use Rattle.uf_light.specs.declared.thing.TypedEntry.{TypedEntry}
use Rattle.uf_light.specs.declared.thing.TypedEntry.TheVariants.{File as FileAt}
use Rattle.uf_light.specs.Standing.{IsAgreedThing, IsMet, LosesOr}
use Rattle.uf_light.proofs.Holding.{loss-back, loss-by}
use Rattle.uf_light.proofs.Rooting.{dir-cid}
use Rattle.uf_light.proofs.Seeing.{file-tree}

-- a list that has a first member is that and the others
pub first-rest : {A : Type 0} (xs : List A) (x : A) → 1 ≤ length xs → x ≡ get_or xs 0 x → x ∷ take (length xs - 1) (drop 1 xs) ≡ xs
first-rest [] x l h = absurd (omega (arith, l))
first-rest (y ∷ xs) x l h =
    let same : x ≡ y = h in
    let whole : take (length (y ∷ xs) - 1) xs ≡ xs = take_all _ _ (omega arith) in
    ap (λ z. z ∷ take (length (y ∷ xs) - 1) xs) same ∙ ap (λ l. y ∷ l) whole

pub no-names : {A : Type 0} (xs : List A) → length xs < 1 → [] ≡ xs
no-names [] h = refl
no-names (x ∷ xs) h = absurd (omega (arith, h))

module _ (X : List ℕ → List ℕ) (N : List ℕ → ℕ) (p : Profile) where
  -- ---- what is lost of a member is lost of the way to it

  module _ (hash : IsHash X) where
    trail-root : (meta : Meta) (l : List Named) (name : List ℕ) (held : Lookup) (c : Cid) → c ≡ (dir_root X N p meta l).0 → held (dir_root X N p meta l).0 ≡ None → IsLost held c (trail X N p meta l name)
    unfolding shard shard_trail
    trail-root meta l name held c is lost =
        elim (is_sharded p l) as (λ b. c ≡ (cond b (shard_held X N meta (shard_items N (shard X N 6 none) 0 l)) (cid_of X DagPb (dir_block meta l), dir_block meta l)).0
        → held (cond b (shard_held X N meta (shard_items N (shard X N 6 none) 0 l)) (cid_of X DagPb (dir_block meta l), dir_block meta l)).0 ≡ None
        → IsLost held c (cond b (shard_trail X N 7 meta l name) (basic_dir X N meta l).blocks)) [ true ↦ λ is lost. inl (is, lost) | false ↦ λ is lost. inl (is, lost) ] is lost

    -- the root block of a folder is on the trail of each of its names
    root-way : (names : List (List ℕ)) (t : Tree) (held : Lookup) (c : Cid) → IsLost held c (root_of X N p t) → IsLost held c (way X N p names t)
    root-way [] t held c x = x
    root-way (name ∷ names) (File m bytes) held c x = x
    root-way (name ∷ names) (Dir es) held c x = by (root_block X N p (Dir es)) x
      where
        l : List Named
        l = named_entries X N p es

        cid : (entry X N p (Dir es)).cid ≡ (dir_root X N p (own_meta es) l).0
        cid = ap (λ (e : Entry). e.cid) (entry-is X N p es) ∙ sym (dir-cid X N hash p (own_meta es) l)

        front : (k m : List Held) → IsLost held c k → IsLost held c (k ++ m)
        front [] m x = absurd x
        front (b ∷ k) m (inl x) = inl x
        front (b ∷ k) m (inr x) = inr (front k m x)

        by : (o : Option (List ℕ)) → IsLost held c (elim o as (λ o. List Held) [ None ↦ [] | Some bytes ↦ ((entry X N p (Dir es)).cid, bytes) ∷ [] ]) → IsLost held c (way X N p (name ∷ names) (Dir es))
        by None x = absurd x
        by (Some bytes) (inl x) = front (trail X N p (own_meta es) l name) _ (trail-root (own_meta es) l name held c (x.0 ∙ cid) (ap held (sym cid) ∙ x.1))
        by (Some bytes) (inr x) = absurd x

    pub root-loss-way : (told : Told) (names : List (List ℕ)) (t : Tree) (f : StoreFault) → IsLossOf told (root_of X N p t) f → IsLossOf told (way X N p names t) f
    root-loss-way told names t f loss = loss-by told _ _ f (λ held c x. root-way names t held c x) loss

    -- what a member needs, the way to it does
    member-way : (told : Told) (name : List ℕ) (names : List (List ℕ)) (es : Entries) (f : StoreFault) → IsLossOf told (member_needs X N p name es) f → IsLossOf told (way X N p (name ∷ names) (Dir es)) f
    member-way told name names es f loss = loss-by told _ _ f (λ held c x. by held c (trail X N p (own_meta es) (named_entries X N p es) name) x) loss
      where
        rest : (held : Lookup) (c : Cid) (o : Option Tree) → IsLost held c (elim o as (λ o. List Held) [ None ↦ [] | Some t ↦ root_of X N p t ]) → IsLost held c (elim o as (λ o. List Held) [ None ↦ [] | Some t ↦ way X N p names t ])
        rest held c None x = x
        rest held c (Some t) x = root-way names t held c x

        by : (held : Lookup) (c : Cid) (k : List Held) → IsLost held c (k ++ elim (child name es) as (λ o. List Held) [ None ↦ [] | Some t ↦ root_of X N p t ]) → IsLost held c (k ++ elim (child name es) as (λ o. List Held) [ None ↦ [] | Some t ↦ way X N p names t ])
        by held c [] x = rest held c (child name es) x
        by held c (b ∷ k) (inl x) = inl x
        by held c (b ∷ k) (inr x) = inr (by held c k x)

    -- a lookup that lost a block at a name
    pub look-lost : (told : Told) (name : List ℕ) (more names : List (List ℕ)) (es : Entries) (t : Tree) (f : StoreFault) → name ∷ more ≡ names → t ≡ Dir es → IsLossOf told (member_needs X N p name es) f → IsLossOf told (way X N p names t) f
    look-lost told name more names es t f are is loss =
        subst (λ (l : List (List ℕ)). IsLossOf told (way X N p l t) f) are (subst (λ (t : Tree). IsLossOf told (way X N p (name ∷ more) t) f) (sym is) (member-way told name more es f loss))

  module _ (told : Told) where
    -- no names are left
    pub met-there : (led : ℕ) (names : List (List ℕ)) (t : Tree) (thing : TypedEntry) → [] ≡ names → IsAgreedThing X N told p t thing → IsMet X N told p (at led names t) (There thing)
    met-there led names t thing ended h = subst (λ (l : List (List ℕ)). IsMet X N told p (at led l t) (There thing)) ended h

    -- a name stands behind a file
    pub met-behind : (led : ℕ) (name : List ℕ) (more names : List (List ℕ)) (t : Tree) (e : Entry) (thing : TypedEntry) → name ∷ more ≡ names → thing ≡ FileAt e → IsAgreedThing X N told p t thing → IsMet X N told p (at led names t) (Behind led)
    met-behind led name more names t e thing are is h =
        let file = file-tree X N told p t e (subst (IsAgreedThing X N told p t) is h) in
        subst (λ (l : List (List ℕ)). IsMet X N told p (at led l t) (Behind led)) are
        (subst (λ (t : Tree). IsMet X N told p (at led (name ∷ more) t) (Behind led)) (sym file.2) refl)

    -- a name isn't there
    pub met-nothing : (led : ℕ) (name : List ℕ) (more names : List (List ℕ)) (t : Tree) (es : Entries) → name ∷ more ≡ names → t ≡ Dir es → child name es ≡ None → IsMet X N told p (at led names t) (Nothing led)
    met-nothing led name more names t es are is gone =
        subst (λ (l : List (List ℕ)). IsMet X N told p (at led l t) (Nothing led)) are
        (subst (λ (t : Tree). IsMet X N told p (at led (name ∷ more) t) (Nothing led)) (sym is)
        (subst (λ (o : Option Tree). IsMet X N told p (elim o as (λ o. Result Tree Refused) [ None ↦ Err (why.NotFound (led + 1)) | Some t ↦ at (led + 1) more t ]) (Nothing led)) (sym gone) refl))

    -- a lookup goes on at what a name leads to
    pub at-on : (led : ℕ) (name : List ℕ) (more : List (List ℕ)) (es : Entries) (u : Tree) → child name es ≡ Some u → at led (name ∷ more) (Dir es) ≡ at (led + 1) more u
    at-on led name more es u is = ap (λ (o : Option Tree). elim o as (λ o. Result Tree Refused) [ None ↦ Err (why.NotFound (led + 1)) | Some t ↦ at (led + 1) more t ]) is

    pub way-on : (name : List ℕ) (more : List (List ℕ)) (es : Entries) (u : Tree) → child name es ≡ Some u → way X N p (name ∷ more) (Dir es) ≡ trail X N p (own_meta es) (named_entries X N p es) name ++ way X N p more u
    way-on name more es u is = ap (λ (o : Option Tree). trail X N p (own_meta es) (named_entries X N p es) name ++ elim o as (λ o. List Held) [ None ↦ [] | Some t ↦ way X N p more t ]) is

    pub look-on : (led : ℕ) (name : List ℕ) (more names : List (List ℕ)) (es : Entries) (t u : Tree) (r : Result PathEnd StoreFault) → name ∷ more ≡ names → t ≡ Dir es → child name es ≡ Some u
        → LosesOr X N told p (way X N p more u) (IsMet X N told p (at (led + 1) more u)) r → LosesOr X N told p (way X N p names t) (IsMet X N told p (at led names t)) r
    look-on led name more names es t u r are is there h =
        subst (λ (l : List (List ℕ)). LosesOr X N told p (way X N p l t) (IsMet X N told p (at led l t)) r) are
        (subst (λ (t : Tree). LosesOr X N told p (way X N p (name ∷ more) t) (IsMet X N told p (at led (name ∷ more) t)) r) (sym is) (by r h))
      where
        by : (r : Result PathEnd StoreFault) → LosesOr X N told p (way X N p more u) (IsMet X N told p (at (led + 1) more u)) r → LosesOr X N told p (way X N p (name ∷ more) (Dir es)) (IsMet X N told p (at led (name ∷ more) (Dir es))) r
        by (Ok met) h = subst (λ (w : Result Tree Refused). IsMet X N told p w met) (sym (at-on led name more es u there)) h
        by (Err f) h = subst (λ (l : List Held). IsLossOf told l f) (sym (way-on name more es u there)) (loss-back told (trail X N p (own_meta es) (named_entries X N p es) name) (way X N p more u) f h)
