-- Two plans of one root compare as equal where they are of one tree, unless two blocks clash.
use Rattle.std.proofs.Common.{◌≡◌, ◌≢◌, ℕ, ◌^◌, ◌<◌, List, [], ◌∷◌, Contains, map, refl, sym, ap, subst, arith, ◌∙◌, ◌⊎◌, inl, inr, Bool, true, false, Err}
use Rattle.std.specs.Prelude.{IsTrue, Some, None, nat_eq}
use Rattle.std.specs.Cmp.{eq_by_cmp_equiv}
use Rattle.std.specs.Cmp.Lexicographic.{on_texts, other_text, pointwise}
use Rattle.std.specs.List.{AllByRecursion}
use Rattle.std.specs.Ordering.{eq_by_cmp}
use Rattle.std.proofs.lemmas.List.Elements.{Contains-append_cases, Contains-push_cases}
use Rattle.uf_cid.specs.Blocks.{Held, Holds, Lookup}
use Rattle.uf_cid.specs.Cid.{cid_bytes, cid_cmp}
use Rattle.uf_cid.specs.declared.cid.Cid.{Cid}
use Rattle.uf_dagpb.specs.declared.node.Link.{Link}
use Rattle.uf_tree.specs.declared.profile.Profile.{Profile}
use Rattle.uf_tree.specs.Profiles.{is_profile}
use Rattle.uf_tree.specs.Tree.{Tree, is_tree}
use Rattle.uf_tree.specs.TreePlan.{blocks, entry, refusal}
use Rattle.uf_tree.specs.Validity.{IsHash}
use Rattle.uf_laws.proofs.Held.{tree-digested}
use Rattle.uf_laws.proofs.Trees.{same_tree}
use Rattle.uf_lenient.specs.declared.unixfs.Unixfs.{Unixfs}
use Rattle.uf_lenient.specs.declared.unixfs.Unixfs.TheVariants.{Directory, File, Other, OtherShard, Shard}
use Rattle.uf_lenient.specs.Leading.{IsFollowed, LeadsInto, block_cids, links_to_read}
use Rattle.uf_lenient.proofs.Reached.{plan-closed, plan-reached, plan-rooted}
use Rattle.uf_walk.specs.Order.{Course, OverMost, StopsAt, TooMany, Whole, block_links, follow_block, follow_held, goes, order, ordered, readable}
use Rattle.uf_same.specs.Alike.{AreAlike}
use Rattle.uf_same.specs.OneTree.{FindsOneTree}
use Rattle.uf_same.specs.Verdict.{by_equal, follow_both, follow_left, follow_equal, stop_equal, stop_left, verdict, verdict_of}
use Rattle.uf_same.proofs.Alike.{by_left, by_right, equal_alike}
use Rattle.uf_same.proofs.Linked.{FollowsAlike, IsUnread, follows-alike}
use Rattle.uf_same.proofs.Readings.{agree-back, root-there}
use Rattle.uf_same.proofs.Stopping.{over-as-well, where-it-stops}

same_cids : (a b : Cid) → a ≡ b → eq_by_cmp cid_cmp a b ≡ true
same_cids a b e = subst (λ x. eq_by_cmp cid_cmp a x ≡ true) e ((eq_by_cmp_equiv (on_texts cid_bytes)).refl a)

map_links : (Q : Cid → Type 0) (links : List Link) → AllByRecursion (λ (l : Link). Q l.cid) links → AllByRecursion Q (map (λ (l : Link). l.cid) links)
map_links Q [] h = tt
map_links Q (l ∷ ls) h = (h.0, map_links Q ls h.1)

both_of : (P Q : Cid → Type 0) (cs : List Cid) → AllByRecursion P cs → AllByRecursion Q cs → AllByRecursion (λ c. P c × Q c) cs
both_of P Q [] h k = tt
both_of P Q (c ∷ cs) h k = ((h.0, k.0), both_of P Q cs h.1 k.1)

not_unread : (u : Unixfs) → IsFollowed u → IsUnread u → ⊥
not_unread (File meta bytes links) h k = k
not_unread (Directory meta links) h k = k
not_unread (Shard meta links) h k = k
not_unread OtherShard h k = h
not_unread Other h k = h

some_is : (a b : List Cid) → Some a ≡ Some b → a ≡ b
some_is a b e = cc

-- a block of a plan that is held
pub record IsOfPlan (X : List ℕ → List ℕ) (held : Lookup) (cids : List Cid) (c : Cid) : Type 0 where
  pub bytes : List ℕ
  pub is_held : held c ≡ Some bytes
  pub digest : c.digest ≡ X bytes
  pub links : List Cid
  pub followed : follow_held held c ≡ Some links
  pub inside : AllByRecursion (Contains cids) links

module _ (X : List ℕ → List ℕ) (held : Lookup) (cids : List Cid) where
  of_plan : (b : Held) → LeadsInto cids b → held b.0 ≡ Some b.1 → b.0.digest ≡ X b.1 → IsOfPlan X held cids b.0
  of_plan b leads here digest =
      let f = follows-alike b.0 b.1 leads.node leads.says in
      let same : links_to_read leads.node ≡ f.all = by f f.read in
      record {
        bytes = b.1;
        is_held = here;
        digest = digest;
        links = map (λ (l : Link). l.cid) f.all;
        followed = ap (follow_block b.0) here ∙ ap readable f.is;
        inside = map_links (Contains cids) f.all (subst (AllByRecursion (λ (l : Link). Contains cids l.cid)) same leads.links);
      }
    where
      by : (f : FollowsAlike b.0 b.1 leads.node) → (links_to_read leads.node ≡ f.all) ⊎ IsUnread leads.node → links_to_read leads.node ≡ f.all
      by f (inl same) = same
      by f (inr unread) = absurd (not_unread leads.node leads.followed unread)

  in_plan : (bs : List Held) → AllByRecursion (LeadsInto cids) bs → Holds held bs → AllByRecursion (λ (b : Held). b.0.digest ≡ X b.1) bs → (c : Cid) → Contains (block_cids bs) c → IsOfPlan X held cids c
  in_plan [] leads all digests c h = absurd (let k : ℕ = h.0 in omega (arith, h.1))
  in_plan (b ∷ bs) leads all digests c h = by (Contains-append_cases (b.0 ∷ []) (block_cids bs) c h) (in_plan bs leads.1 all.1 digests.1 c)
    where
      by : Contains (b.0 ∷ []) c ⊎ Contains (block_cids bs) c → (Contains (block_cids bs) c → IsOfPlan X held cids c) → IsOfPlan X held cids c
      by (inr later) rest = rest later
      by (inl one) rest = here (Contains-push_cases [] b.0 c one)
        where
          here : Contains [] c ⊎ (b.0 ≡ c) → IsOfPlan X held cids c
          here (inl none) = absurd (let k : ℕ = none.0 in omega (arith, none.1))
          here (inr is) = subst (IsOfPlan X held cids) is (of_plan b leads.0 all.0 digests.0)

-- a tree that has a plan, whose blocks are held
pub record HasPlan (X : List ℕ → List ℕ) (N : List ℕ → ℕ) (p : Profile) (t : Tree) (held : Lookup) : Type 0 where
  pub profile : IsTrue (is_profile p)
  pub tree : IsTrue (is_tree t)
  pub planned : refusal X N p t ≡ None
  pub all : Holds held (blocks X N p t)

module _ (X : List ℕ → List ℕ) (N : List ℕ → ℕ) (good : IsHash X) (small : (name : List ℕ) → N name < 2 ^ 64) where
  module _ (p : Profile) (t : Tree) (held : Lookup) (h : HasPlan X N p t held) where
    abbrev Planned : Cid → Type 0
    Planned c = Contains (block_cids (blocks X N p t)) c

    pub rooted : Planned (entry X N p t).cid
    rooted = plan-rooted X N p t held good small h.profile h.tree h.planned h.all

    pub block-at : (c : Cid) → Planned c → IsOfPlan X held (block_cids (blocks X N p t)) c
    block-at c here = in_plan X held (block_cids (blocks X N p t)) (blocks X N p t) (plan-closed X N p t held good small h.profile h.tree h.planned h.all) h.all (tree-digested X N p t) c here

    pub goes-inside : (c : Cid) (links : List Cid) → Planned c → follow_held held c ≡ Some links → AllByRecursion Planned links
    goes-inside c links here is = let b = block-at c here in subst (AllByRecursion Planned) (some_is b.links links (sym b.followed ∙ is)) b.inside

  module _ (p q : Profile) (t u : Tree) (left right : Lookup) (most : ℕ) (h : HasPlan X N p t left) (k : HasPlan X N q u right) (e : (entry X N p t).cid ≡ (entry X N q u).cid) where
    abbrev root : Cid
    root = (entry X N p t).cid

    abbrev InBoth : Cid → Type 0
    InBoth c = Contains (block_cids (blocks X N p t)) c × Contains (block_cids (blocks X N q u)) c

    both_closed : (c : Cid) (links : List Cid) → InBoth c → follow_both left right c ≡ Some links → AllByRecursion InBoth links
    both_closed c links here is =
        both_of (Contains (block_cids (blocks X N p t))) (Contains (block_cids (blocks X N q u))) links
        (goes-inside p t left h c links here.0 (by_left left right c links is)) (goes-inside q u right k c links here.1 (by_right left right c links is))

    both_rooted : InBoth root
    both_rooted = (rooted p t left h, subst (Contains (block_cids (blocks X N q u))) (sym e) (rooted q u right k))

    -- where a walk over both stops, two blocks clash
    clashes : (d : Cid) → InBoth d → follow_both left right d ≡ None → FindsOneTree X t u (stop_left d (left d) (right d))
    clashes d here none =
        subst (λ o. FindsOneTree X t u (stop_left d o (right d))) (sym a.is_held)
        (subst (λ o. FindsOneTree X t u (stop_left d (Some a.bytes) o)) (sym b.is_held) (by (pointwise nat_eq a.bytes b.bytes) refl))
      where
        a : IsOfPlan X left (block_cids (blocks X N p t)) d
        a = block-at p t left h d here.0

        b : IsOfPlan X right (block_cids (blocks X N q u)) d
        b = block-at q u right k d here.1

        unfollowed : follow_equal (pointwise nat_eq a.bytes b.bytes) d a.bytes ≡ None
        unfollowed = sym (ap (λ o. follow_left d o (right d)) a.is_held ∙ ap (λ o. follow_left d (Some a.bytes) o) b.is_held) ∙ none

        reads : readable (block_links d.codec a.bytes) ≡ Some a.links
        reads = sym (ap (follow_block d) a.is_held) ∙ a.followed

        by : (x : Bool) → pointwise nat_eq a.bytes b.bytes ≡ x → FindsOneTree X t u (stop_equal x d a.bytes b.bytes)
        by true same = absurd (let no : Some a.links ≡ None = sym reads ∙ ap (λ y. follow_equal y d a.bytes) (sym same) ∙ unfollowed in cc)
        by false other = record { differ = other_text a.bytes b.bytes (sym other); one_digest = sym a.digest ∙ b.digest }

    -- where all blocks are equal, the trees are
    one_tree : AreAlike left right most root → t ≡ u
    one_tree alike =
        let there = plan-reached X N q u right good small k.profile k.tree k.planned k.all left alike.list (agree-back left right most root alike) (subst (Contains alike.list) e (root-there left most root alike.list alike.order_left)) in
        same_tree X N good small left p q t u (record { profile = h.profile; tree = h.tree; planned = h.planned; all = h.all }) (record { profile = k.profile; tree = k.tree; planned = k.planned; all = there }) e

    by_course : order left most root ≢ Err OverMost → (r : Course) → goes (follow_both left right) most (root ∷ []) ≡ r → verdict left right most root (entry X N q u).cid ≡ verdict_of left right r → FindsOneTree X t u (verdict_of left right r)
    by_course few (Whole list) is said = one_tree (equal_alike left right most root (entry X N q u).cid said)
    by_course few TooMany is said = absurd (few (ap (ordered left) (over-as-well (follow_both left right) (follow_held left) (by_left left right) most [] (root ∷ []) is)))
    by_course few (StopsAt d) is said = let s = where-it-stops (follow_both left right) InBoth both_closed d most [] (root ∷ []) (both_rooted, tt) is in clashes d s.holds s.unfollowed

    pub finds-one-tree : order left most root ≢ Err OverMost → FindsOneTree X t u (verdict left right most root (entry X N q u).cid)
    finds-one-tree few =
        let said : verdict left right most root (entry X N q u).cid ≡ verdict_of left right (goes (follow_both left right) most (root ∷ [])) = ap (by_equal left right most root) (same_cids root (entry X N q u).cid e) in
        subst (FindsOneTree X t u) (sym said) (by_course few (goes (follow_both left right) most (root ∷ [])) refl said)
