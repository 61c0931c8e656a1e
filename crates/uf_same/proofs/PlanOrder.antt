-- The order below the root of a plan that is held.
use Rattle.std.proofs.Common.{◌≡◌, ℕ, ◌^◌, ◌<◌, List, [], ◌∷◌, Contains, refl, sym, ap, subst, ◌∙◌, Ok}
use Rattle.std.specs.Prelude.{Some, None}
use Rattle.std.specs.List.{AllByRecursion}
use Rattle.std.proofs.lemmas.List.Elements.{All-contains, All-from_recursion}
use Rattle.uf_cid.specs.Blocks.{Held, Lookup}
use Rattle.uf_cid.specs.declared.cid.Cid.{Cid}
use Rattle.uf_tree.specs.declared.profile.Profile.{Profile}
use Rattle.uf_tree.specs.Tree.{Tree}
use Rattle.uf_tree.specs.TreePlan.{blocks, entry}
use Rattle.uf_tree.specs.Validity.{IsHash}
use Rattle.uf_lenient.specs.Leading.{block_cids}
use Rattle.uf_lenient.proofs.Reached.{tree-reached}
use Rattle.uf_walk.specs.Order.{Course, StopsAt, TooMany, Whole, follow_held, goes, order, ordered}
use Rattle.uf_walk.specs.Reaching.{IsChain}
use Rattle.uf_walk.proofs.Reaching.{order_whole, what_is_reached}
use Rattle.uf_same.specs.PlanOrder.{OrdersJust}
use Rattle.uf_same.proofs.OneTree.{HasPlan, block-at, goes-inside, rooted}
use Rattle.uf_same.proofs.Readings.{links-there, root-there}
use Rattle.uf_same.proofs.Stopping.{where-it-stops}

-- what holds of all blocks of a list holds of each of their CIDs
at_cid : (P : Cid → Type 0) (bs : List Held) → AllByRecursion (λ (b : Held). P b.0) bs → AllByRecursion P (block_cids bs)
at_cid P [] h = tt
at_cid P (b ∷ bs) h = (h.0, at_cid P bs h.1)

each_in : (P : Cid → Type 0) (cs : List Cid) → AllByRecursion P cs → (c : Cid) → Contains cs c → P c
each_in P cs h c there = All-contains P cs c (All-from_recursion P cs h) there

module _ (X : List ℕ → List ℕ) (N : List ℕ → ℕ) (good : IsHash X) (small : (name : List ℕ) → N name < 2 ^ 64) (p : Profile) (t : Tree) (held : Lookup) (h : HasPlan X N p t held) where
  abbrev root : Cid
  root = (entry X N p t).cid

  abbrev Inside : Cid → Type 0
  Inside c = Contains (block_cids (blocks X N p t)) c

  -- a chain from a plan's block leads to a plan's block
  chain_inside : (c : Cid) (path : List Cid) (d : Cid) → Inside c → IsChain (follow_held held) c path d → Inside d
  chain_inside c [] d here chain = subst Inside chain here
  chain_inside c (e ∷ path) d here chain = chain_inside e path d (each_in Inside chain.0.links (goes-inside X N good small p t held h c chain.0.links here chain.0.followed) e chain.0.among) chain.1

  whole : (most : ℕ) (list : List Cid) → order held most root ≡ Ok list → OrdersJust (block_cids (blocks X N p t)) (Ok list)
  whole most list is c =
      let reached = what_is_reached (follow_held held) most root list (order_whole held most root list is) in (
        λ there. let r = (reached c).0 there in chain_inside root r.path c (rooted X N good small p t held h) r.chain,
        λ inside. each_in (Contains list) (block_cids (blocks X N p t))
            (at_cid (Contains list) (blocks X N p t) (tree-reached held (Contains list) (links-there held most root list is) X N good small p t (record { profile = h.profile; tree = h.tree; planned = h.planned; all = h.all }) (root-there held most root list is)))
            c inside,
      )

  by_course : (most : ℕ) (r : Course) → goes (follow_held held) most (root ∷ []) ≡ r → OrdersJust (block_cids (blocks X N p t)) (ordered held r)
  by_course most (Whole list) is = whole most list (ap (ordered held) is)
  by_course most TooMany is = tt
  by_course most (StopsAt d) is =
      let s = where-it-stops (follow_held held) Inside (goes-inside X N good small p t held h) d most [] (root ∷ []) (rooted X N good small p t held h, tt) is in
      let b = block-at X N good small p t held h d s.holds in
      absurd (let no : Some b.links ≡ None = sym b.followed ∙ s.unfollowed in cc)

  -- the law of a plan's order
  pub plan-ordered : (most : ℕ) → OrdersJust (block_cids (blocks X N p t)) (order held most root)
  plan-ordered most = by_course most (goes (follow_held held) most (root ∷ [])) refl
