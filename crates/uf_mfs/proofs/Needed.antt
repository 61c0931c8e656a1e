-- What calls need of a tree is among the blocks of its plan, and what is lost of one need is lost of another.
use Rattle.std.proofs.Common.{◌≡◌, ℕ, ◌+◌, List, [], ◌∷◌, ◌++◌, refl, ap, sym, ◌∙◌, subst, true, false, cond, inl, inr, Option, Some, None, Result, Ok, Err}
use Rattle.std.specs.List.{AllByRecursion, flat_map}
use Rattle.uf_cid.specs.Blocks.{Held, Lookup}
use Rattle.uf_cid.specs.Cid.{cid_of}
use Rattle.uf_cid.specs.declared.cid.Codec.TheVariants.{DagPb}
use Rattle.uf_cid.specs.declared.cid.Cid.{Cid}
use Rattle.uf_store.specs.declared.store.StoreFault.{StoreFault}
use Rattle.uf_store.specs.declared.store.StoreFault.TheVariants.{Memory}
use Rattle.uf_store.specs.Contents.{Told}
use Rattle.uf_store.specs.Lost.{IsLossOf, IsLost, ReadsOver}
use Rattle.uf_tree.specs.declared.nodes.Entry.{Entry}
use Rattle.uf_tree.specs.declared.meta.Meta.{Meta}
use Rattle.uf_tree.specs.declared.profile.Profile.{Profile}
use Rattle.uf_tree.specs.DirPlan.{basic_dir, is_sharded, trail}
use Rattle.uf_tree.specs.Nodes.{Named, dir_block}
use Rattle.uf_tree.specs.Roots.{dir_root}
use Rattle.uf_tree.specs.ShardPlan.{shard, shard_held, shard_items, shard_trail}
use Rattle.uf_tree.specs.Tree.{own_meta, Tree, File, Dir, Entries, pairs}
use Rattle.uf_tree.specs.TreePlan.{blocks, entry, named_entries}
use Rattle.uf_tree.specs.Validity.{IsHash}
use Rattle.uf_laws.proofs.Held.{trail-among}
use Rattle.uf_plain.specs.declared.rule.Refused.{Refused}
use Rattle.uf_plain.specs.declared.rule.Refused.TheVariants as why
use Rattle.uf_plain.specs.Edits.{at, child}
use Rattle.uf_plain.specs.Needs.{member_needs, needs_at, own_needs, root_of, rows_need, way}
use Rattle.uf_plain.specs.Replies.{root_block}
use Rattle.uf_plain.specs.Rules.{rule_of}
use Rattle.uf_plain.proofs.Plans.{Each, entry-is}
use Rattle.uf_mfs.specs.declared.fault.MfsFault.{MfsFault}
use Rattle.uf_mfs.specs.declared.fault.MfsFault.TheVariants as fault
use Rattle.uf_mfs.specs.declared.fault.Stop.{Stop}
use Rattle.uf_mfs.specs.declared.fault.Stop.TheVariants as stop
use Rattle.uf_mfs.specs.Answers.{Answers, AnswersOr, MeetsOr, Tells}
use Rattle.uf_mfs.specs.declared.mfs.Mfs.{Mfs}
use Rattle.uf_mfs.specs.Standing.{StandsAt, TellsHeld}
use Rattle.uf_mfs.proofs.Agreed.{child-among, members-among, own-among}
use Rattle.uf_mfs.proofs.Holding.{append, loss-back, loss-by, loss-fault, loss-front, tells-among}
use Rattle.uf_mfs.proofs.Rooting.{dir-cid, found-among}
use Rattle.uf_tree.specs.Metas.{none}

-- a fault that may come, whatever the plain tree gives
meets-fault : {A B : Type 0} (May : StoreFault → Type 0) (P : A → B → Type 0) (w : Result A Refused) (f : StoreFault) → May f → MeetsOr May P w (Err (stop.Store f))
meets-fault May P (Ok a) f h = h
meets-fault May P (Err why) f h = h

-- where all that is needed is held, only memory can be wanting
pub answers-held : {A B : Type 0} (told : Told) (l : List Held) (P : A → B → Type 0) (names : List (List ℕ)) (w : Result A Refused) (r : Result B MfsFault) → TellsHeld told l
    → AnswersOr (IsLossOf told l) P names w r → Answers P names w r
answers-held told l P names (Ok a) (Ok b) held h = h
answers-held told l P names (Err why) (Ok b) held h = h
answers-held told l P names (Ok a) (Err (fault.Rule rule)) held h = h
answers-held told l P names (Err why) (Err (fault.Rule rule)) held h = h
answers-held told l P names (Ok a) (Err (fault.Ready ready)) held h = h
answers-held told l P names (Err why) (Err (fault.Ready ready)) held h = h
answers-held told l P names (Ok a) (Err fault.Sink) held h = h
answers-held told l P names (Err why) (Err fault.Sink) held h = h
answers-held told l P names (Ok a) (Err (fault.Store f)) held h = loss-fault told l f held h
answers-held told l P names (Err why) (Err (fault.Store f)) held h = loss-fault told l f held h

module _ (X : List ℕ → List ℕ) (N : List ℕ → ℕ) (p : Profile) where
  -- ---- among the blocks of the tree

  abbrev pub Among : List Held → List Held → Type 1
  Among k l = (P : Held → Type 0) → AllByRecursion P l → AllByRecursion P k

  pub root-of-among : (t : Tree) → Among (root_of X N p t) (blocks X N p t)
  root-of-among t P h = by (root_block X N p t) refl
    where
      by : (o : Option (List ℕ)) → root_block X N p t ≡ o → AllByRecursion P (elim o as (λ o. List Held) [ None ↦ [] | Some bytes ↦ ((entry X N p t).cid, bytes) ∷ [] ])
      by None is = tt
      by (Some bytes) is = (found-among (entry X N p t).cid bytes (blocks X N p t) P is h, tt)

  own-trail : (name : List ℕ) (es : Entries) → Among (trail X N p (own_meta es) (named_entries X N p es) name) (blocks X N p (Dir es))
  own-trail name es P h = trail-among X N P p (own_meta es) (named_entries X N p es) name (own-among X N p es P h)

  -- the member of a name, by what is needed of it
  below : (need : Tree → List Held) → ((t : Tree) → Among (need t) (blocks X N p t)) → (name : List ℕ) (es : Entries)
      → Among (elim (child name es) as (λ o. List Held) [ None ↦ [] | Some t ↦ need t ]) (blocks X N p (Dir es))
  below need each name es P h = by (child name es) refl
    where
      by : (o : Option Tree) → child name es ≡ o → AllByRecursion P (elim o as (λ o. List Held) [ None ↦ [] | Some t ↦ need t ])
      by None is = tt
      by (Some t) is = each t P (child-among X N p es name t is P h)

  pub member-among : (name : List ℕ) (es : Entries) → Among (member_needs X N p name es) (blocks X N p (Dir es))
  member-among name es P h = append P _ _ (own-trail name es P h) (below (root_of X N p) root-of-among name es P h)

  pub way-among : (names : List (List ℕ)) (t : Tree) → Among (way X N p names t) (blocks X N p t)
  way-among [] t P h = root-of-among t P h
  way-among (name ∷ names) (File m bytes) P h = root-of-among (File m bytes) P h
  way-among (name ∷ names) (Dir es) P h = append P _ _ (own-trail name es P h) (below (way X N p names) (way-among names) name es P h)

  pub at-among : (led : ℕ) (names : List (List ℕ)) (t found : Tree) → at led names t ≡ Ok found → Among (blocks X N p found) (blocks X N p t)
  at-among led [] t found is P h = subst (λ (t : Tree). AllByRecursion P (blocks X N p t)) (let same : t ≡ found = cc in same) h
  at-among led (name ∷ names) (File m bytes) found is P h = absurd cc
  at-among led (name ∷ names) (Dir es) found is P h = by (λ t is h. at-among (led + 1) names t found is P h) (child name es) refl is
    where
      by : ((t : Tree) → at (led + 1) names t ≡ Ok found → AllByRecursion P (blocks X N p t) → AllByRecursion P (blocks X N p found)) → (o : Option Tree) → child name es ≡ o
          → (elim o as (λ o. Result Tree Refused) [ None ↦ Err (why.NotFound (led + 1)) | Some t ↦ at (led + 1) names t ]) ≡ Ok found → AllByRecursion P (blocks X N p found)
      by rec None there is = absurd cc
      by rec (Some t) there is = rec t is (child-among X N p es name t there P h)

  pub needs-among : (more : Tree → List Held) → ((t : Tree) → Among (more t) (blocks X N p t)) → (names : List (List ℕ)) (t : Tree) → Among (needs_at X N p more names t) (blocks X N p t)
  needs-among more each names t P h = append P _ _ (way-among names t P h) (by (at 0 names t) refl)
    where
      by : (w : Result Tree Refused) → at 0 names t ≡ w → AllByRecursion P (elim w as (λ w. List Held) [ Ok found ↦ more found | Err why ↦ [] ])
      by (Ok found) is = each found P (at-among 0 names t found is P h)
      by (Err why) is = tt

  pub own-needs-among : (t : Tree) → Among (own_needs X N p t) (blocks X N p t)
  own-needs-among (File m bytes) P h = tt
  own-needs-among (Dir es) P h = own-among X N p es P h

  roots-among : (P : Held → Type 0) (l : List (List ℕ × Tree)) → Each (λ t. AllByRecursion P (blocks X N p t)) l → AllByRecursion P (flat_map (λ (m : List ℕ × Tree). root_of X N p m.1) l)
  roots-among P [] h = tt
  roots-among P (m ∷ l) h = append P _ _ (root-of-among m.1 P h.0) (roots-among P l h.1)

  pub rows-need-among : (t : Tree) → Among (rows_need X N p t) (blocks X N p t)
  rows-need-among (File m bytes) P h = tt
  rows-need-among (Dir es) P h = append P _ _ (own-among X N p es P h) (roots-among P (pairs es) (members-among X N p es P h))

  -- where the blocks of the tree in memory are held, so is what a call needs
  pub needs-held : (told : Told) (more : Tree → List Held) → ((t : Tree) → Among (more t) (blocks X N p t)) → (names : List (List ℕ)) (mfs : Mfs) (es : Entries) → StandsAt X N told mfs p es
      → TellsHeld told (needs_at X N p more names (Dir es))
  needs-held told more each names mfs es s = tells-among told (blocks X N p (Dir es)) _ (needs-among more each names (Dir es)) s.root.held

  -- ---- what is lost of one need is lost of another

  module _ (hash : IsHash X) where
    trail-root : (meta : Meta) (l : List Named) (name : List ℕ) (held : Lookup) (c : Cid) → c ≡ (dir_root X N p meta l).0 → held (dir_root X N p meta l).0 ≡ None → IsLost held c (trail X N p meta l name)
    unfolding shard shard_trail
    trail-root meta l name held c is lost =
        elim (is_sharded p l) as (λ b. c ≡ (cond b (shard_held X N meta (shard_items N (shard X N 6 none) 0 l)) (cid_of X DagPb (dir_block meta l), dir_block meta l)).0
        → held (cond b (shard_held X N meta (shard_items N (shard X N 6 none) 0 l)) (cid_of X DagPb (dir_block meta l), dir_block meta l)).0 ≡ None
        → IsLost held c (cond b (shard_trail X N 7 meta l name) (basic_dir X N meta l).blocks)) [ true ↦ λ is lost. inl (is, lost) | false ↦ λ is lost. inl (is, lost) ] is lost

    -- the root block of a folder is on the trail of each of its names
    root-way : (names : List (List ℕ)) (t : Tree) (held : Lookup) (c : Cid) → IsLost held c (root_of X N p t) → IsLost held c (way X N p names t)
    root-way [] t held c x = x
    root-way (name ∷ names) (File m bytes) held c x = x
    root-way (name ∷ names) (Dir es) held c x = by (root_block X N p (Dir es)) x
      where
        l : List Named
        l = named_entries X N p es

        cid : (entry X N p (Dir es)).cid ≡ (dir_root X N p (own_meta es) l).0
        cid = ap (λ (e : Entry). e.cid) (entry-is X N p es) ∙ sym (dir-cid X N hash p (own_meta es) l)

        front : (k m : List Held) → IsLost held c k → IsLost held c (k ++ m)
        front [] m x = absurd x
        front (b ∷ k) m (inl x) = inl x
        front (b ∷ k) m (inr x) = inr (front k m x)

        by : (o : Option (List ℕ)) → IsLost held c (elim o as (λ o. List Held) [ None ↦ [] | Some bytes ↦ ((entry X N p (Dir es)).cid, bytes) ∷ [] ]) → IsLost held c (way X N p (name ∷ names) (Dir es))
        by None x = absurd x
        by (Some bytes) (inl x) = front (trail X N p (own_meta es) l name) _ (trail-root (own_meta es) l name held c (x.0 ∙ cid) (ap held (sym cid) ∙ x.1))
        by (Some bytes) (inr x) = absurd x

    -- what a member needs, the way to it does
    member-way : (told : Told) (name : List ℕ) (names : List (List ℕ)) (es : Entries) (f : StoreFault) → IsLossOf told (member_needs X N p name es) f → IsLossOf told (way X N p (name ∷ names) (Dir es)) f
    member-way told name names es f loss = loss-by told _ _ f (λ held c x. by held c (trail X N p (own_meta es) (named_entries X N p es) name) x) loss
      where
        rest : (held : Lookup) (c : Cid) (o : Option Tree) → IsLost held c (elim o as (λ o. List Held) [ None ↦ [] | Some t ↦ root_of X N p t ]) → IsLost held c (elim o as (λ o. List Held) [ None ↦ [] | Some t ↦ way X N p names t ])
        rest held c None x = x
        rest held c (Some t) x = root-way names t held c x

        by : (held : Lookup) (c : Cid) (k : List Held) → IsLost held c (k ++ elim (child name es) as (λ o. List Held) [ None ↦ [] | Some t ↦ root_of X N p t ]) → IsLost held c (k ++ elim (child name es) as (λ o. List Held) [ None ↦ [] | Some t ↦ way X N p names t ])
        by held c [] x = rest held c (child name es) x
        by held c (b ∷ k) (inl x) = inl x
        by held c (b ∷ k) (inr x) = inr (by held c k x)

    -- a lookup that stopped at a name
    pub look-err : {A B C D : Type 0} (told : Told) (name : List ℕ) (names : List (List ℕ)) (es : Entries) (P : A → B → Type 0) (Q : C → D → Type 0) (o : A) (w : Result C Refused) (s : Stop)
        → MeetsOr (IsLossOf told (member_needs X N p name es)) P (Ok o) (Err s) → MeetsOr (IsLossOf told (way X N p (name ∷ names) (Dir es))) Q w (Err s)
    look-err told name names es P Q o w (stop.Refused why) h = absurd h
    look-err told name names es P Q o w (stop.Store f) h = meets-fault (IsLossOf told (way X N p (name ∷ names) (Dir es))) Q w f (member-way told name names es f h)

  -- and one that went on
  pub look-on : {B : Type 0} (told : Told) (led : ℕ) (name : List ℕ) (names : List (List ℕ)) (es : Entries) (t : Tree) (Q : Tree → B → Type 0) (r : Result B Stop) → child name es ≡ Some t
      → MeetsOr (IsLossOf told (way X N p names t)) Q (at (led + 1) names t) r → MeetsOr (IsLossOf told (way X N p (name ∷ names) (Dir es))) Q (at led (name ∷ names) (Dir es)) r
  look-on {B = B} told led name names es t Q r is h =
      subst (λ (o : Option Tree). MeetsOr (IsLossOf told (trail X N p (own_meta es) (named_entries X N p es) name ++ elim o as (λ o. List Held) [ None ↦ [] | Some t ↦ way X N p names t ])) Q
      (elim o as (λ o. Result Tree Refused) [ None ↦ Err (why.NotFound (led + 1)) | Some t ↦ at (led + 1) names t ]) r) (sym is) (by (at (led + 1) names t) r h)
    where
      by : (w : Result Tree Refused) (r : Result B Stop) → MeetsOr (IsLossOf told (way X N p names t)) Q w r → MeetsOr (IsLossOf told (trail X N p (own_meta es) (named_entries X N p es) name ++ way X N p names t)) Q w r
      by (Ok a) (Ok b) h = h
      by (Err why) (Ok b) h = h
      by (Ok a) (Err (stop.Refused given)) h = h
      by (Err why) (Err (stop.Refused given)) h = h
      by (Ok a) (Err (stop.Store f)) h = loss-back told (trail X N p (own_meta es) (named_entries X N p es) name) (way X N p names t) f h
      by (Err why) (Err (stop.Store f)) h = loss-back told (trail X N p (own_meta es) (named_entries X N p es) name) (way X N p names t) f h

  -- ---- commands

  -- a command that a lookup refuses
  pub call-err : {B D : Type 0} (May : StoreFault → Type 0) (P : Tree → B → Type 0) (Q : Tree → D → Type 0) (names : List (List ℕ)) (w : Result Tree Refused) (s : Stop) (f : MfsFault)
      → May Memory → Tells names s f → MeetsOr May P w (Err s) → AnswersOr May Q names w (Err f)
  call-err May P Q names (Ok a) (stop.Refused why) f free tells h = absurd h
  call-err May P Q names (Err why) (stop.Refused given) (fault.Rule rule) free tells h = tells ∙ ap (rule_of names) h
  call-err May P Q names (Err why) (stop.Refused given) (fault.Ready ready) free tells h = absurd tells
  call-err May P Q names (Err why) (stop.Refused given) fault.Sink free tells h = absurd tells
  call-err May P Q names (Err why) (stop.Refused given) (fault.Store f) free tells h = subst May (sym tells) free
  call-err May P Q names (Ok a) (stop.Store g) f free tells h = subst (λ f. AnswersOr May Q names (Ok a) (Err f)) (sym tells) h
  call-err May P Q names (Err why) (stop.Store g) f free tells h = subst (λ f. AnswersOr May Q names (Err why) (Err f)) (sym tells) h

  -- what a lookup answers, as a command's
  pub call-ok : {B : Type 0} (May : StoreFault → Type 0) (P : Tree → B → Type 0) (names : List (List ℕ)) (w : Result Tree Refused) (b : B) → MeetsOr May P w (Ok b) → AnswersOr May P names w (Ok b)
  call-ok May P names (Ok a) b h = h
  call-ok May P names (Err why) b h = h

  pub call-met : {B : Type 0} (May : StoreFault → Type 0) (P : Tree → B → Type 0) (names : List (List ℕ)) (w : Result Tree Refused) (b : B) → AnswersOr May P names w (Ok b) → MeetsOr May P w (Ok b)
  call-met May P names (Ok a) b h = h
  call-met May P names (Err why) b h = h

  -- a command that stopped where its lookup did
  pub call-stopped : {B D : Type 0} (told : Told) (more : Tree → List Held) (P : Tree → B → Type 0) (Q : Tree → D → Type 0) (names : List (List ℕ)) (t : Tree) (f : MfsFault)
      → AnswersOr (IsLossOf told (way X N p names t)) P names (at 0 names t) (Err f) → AnswersOr (IsLossOf told (needs_at X N p more names t)) Q names (at 0 names t) (Err f)
  call-stopped {B = B} {D = D} told more P Q names t f h = by (at 0 names t) (elim (at 0 names t) as (λ w. List Held) [ Ok found ↦ more found | Err why ↦ [] ]) f h
    where
      by : (w : Result Tree Refused) (k : List Held) (f : MfsFault) → AnswersOr (IsLossOf told (way X N p names t)) P names w (Err f) → AnswersOr (IsLossOf told (way X N p names t ++ k)) Q names w (Err f)
      by (Ok a) k (fault.Rule rule) h = absurd h
      by (Err why) k (fault.Rule rule) h = h
      by (Ok a) k (fault.Ready ready) h = absurd h
      by (Err why) k (fault.Ready ready) h = absurd h
      by (Ok a) k fault.Sink h = absurd h
      by (Err why) k fault.Sink h = absurd h
      by (Ok a) k (fault.Store f) h = loss-front told (way X N p names t) k f h
      by (Err why) k (fault.Store f) h = loss-front told (way X N p names t) k f h

  -- the fault of a call as that of a command
  abbrev pub raised : {D : Type 0} → Result D StoreFault → Result D MfsFault
  raised (Ok d) = Ok d
  raised (Err f) = Err (fault.Store f)

  -- a command that goes on from what a lookup found
  pub call-on : {B D : Type 0} (told : Told) (more : Tree → List Held) (P : Tree → B → Type 0) (value : Tree → D) (names : List (List ℕ)) (t : Tree) (b : B) (r : Result D StoreFault)
      → MeetsOr (IsLossOf told (way X N p names t)) P (at 0 names t) (Ok b) → ((found : Tree) → P found b → ReadsOver told (more found) (value found) r)
      → AnswersOr (IsLossOf told (needs_at X N p more names t)) (λ found d. d ≡ value found) names (at 0 names t) (raised r)
  call-on {B = B} {D = D} told more P value names t b r h reads = by (at 0 names t) r h reads
    where
      by : (w : Result Tree Refused) (r : Result D StoreFault) → MeetsOr (IsLossOf told (way X N p names t)) P w (Ok b) → ((found : Tree) → P found b → ReadsOver told (more found) (value found) r)
          → AnswersOr (IsLossOf told (way X N p names t ++ elim w as (λ w. List Held) [ Ok found ↦ more found | Err why ↦ [] ])) (λ found d. d ≡ value found) names w (raised r)
      by (Err why) r h reads = absurd h
      by (Ok found) (Ok d) h reads = reads found h
      by (Ok found) (Err f) h reads = loss-back told (way X N p names t) (more found) f (reads found h)
