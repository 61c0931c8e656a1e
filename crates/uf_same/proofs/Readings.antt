-- What compares as equal is read alike.
use Rattle.std.proofs.Common.{◌≡◌, ℕ, List, [], ◌∷◌, ◌++◌, Contains, map, refl, sym, ap, subst, ◌∙◌, ◌⊎◌, inl, inr, Ok}
use Rattle.std.specs.Prelude.{Some}
use Rattle.std.specs.List.{AllByRecursion}
use Rattle.std.proofs.lemmas.List.Elements.{Contains-append_left, Contains-append_right, Contains-push}
use Rattle.uf_cid.specs.Blocks.{Lookup}
use Rattle.uf_cid.specs.declared.cid.Cid.{Cid}
use Rattle.uf_dagpb.specs.declared.node.Link.{Link}
use Rattle.uf_lenient.specs.declared.unixfs.Unixfs.{Unixfs}
use Rattle.uf_lenient.specs.declared.unixfs.Unixfs.TheVariants.{Directory, File, Other, OtherShard, Shard}
use Rattle.uf_lenient.specs.Leading.{AgreeAmong, links_to_read}
use Rattle.uf_lenient.specs.Unixfs.{unixfs_of}
use Rattle.uf_walk.specs.Order.{Follow, follow_block, follow_held, order, readable}
use Rattle.uf_walk.specs.Reaching.{IsChain, IsLinked, IsWhatIsReached}
use Rattle.uf_walk.proofs.Reaching.{order_whole, what_is_reached}
use Rattle.uf_same.specs.Alike.{AreAlike}
use Rattle.uf_same.proofs.Linked.{FollowsAlike, IsUnread, follows-alike}

-- a chain and one link more
one_more : (follow : Follow) (root c e : Cid) (path : List Cid) → IsChain follow root path c → IsLinked follow c e → IsChain follow root (path ++ e ∷ []) e
one_more follow root c e [] chain linked = (subst (λ (d : Cid). IsLinked follow d e) (sym chain) linked, refl)
one_more follow root c e (d ∷ path) chain linked = (chain.0, one_more follow d c e path chain.1 linked)

module _ (held : Lookup) (most : ℕ) (root : Cid) (list : List Cid) (is : order held most root ≡ Ok list) where
  reached : IsWhatIsReached (follow_held held) root list
  reached = what_is_reached (follow_held held) most root list (order_whole held most root list is)

  -- the root is in its order
  pub root-there : Contains list root
  root-there = (reached root).1 (record { path = []; chain = refl })

  -- and so is what a block that is held there links
  pub link-there : (c d : Cid) → Contains list c → IsLinked (follow_held held) c d → Contains list d
  link-there c d there linked = let r = (reached c).0 there in (reached d).1 (record { path = r.path ++ d ∷ []; chain = one_more (follow_held held) root c d r.path r.chain linked })

  each_there : (links : List Link) → ((d : Cid) → Contains (map (λ (l : Link). l.cid) links) d → Contains list d) → AllByRecursion (λ (l : Link). Contains list l.cid) links
  each_there [] h = tt
  each_there (l ∷ ls) h =
      (h l.cid (Contains-append_left (l.cid ∷ []) (map (λ (x : Link). x.cid) ls) l.cid (Contains-push [] l.cid)), each_there ls (λ d k. h d (Contains-append_right (l.cid ∷ []) (map (λ (x : Link). x.cid) ls) d k)))

  pub links-there : (c : Cid) (block : List ℕ) (u : Unixfs) → Contains list c → held c ≡ Some block → unixfs_of c block ≡ Ok u → AllByRecursion (λ (l : Link). Contains list l.cid) (links_to_read u)
  links-there c block u there here says = by f.read
    where
      f : FollowsAlike c block u
      f = follows-alike c block u says

      followed : follow_held held c ≡ Some (map (λ (l : Link). l.cid) f.all)
      followed = ap (follow_block c) here ∙ ap readable f.is

      all : AllByRecursion (λ (l : Link). Contains list l.cid) f.all
      all = each_there f.all (λ d among. link-there c d there (record { links = map (λ (l : Link). l.cid) f.all; followed = followed; among = among }))

      none : (v : Unixfs) → IsUnread v → AllByRecursion (λ (l : Link). Contains list l.cid) (links_to_read v)
      none (File meta bytes links) h = absurd h
      none (Directory meta links) h = absurd h
      none (Shard meta links) h = absurd h
      none OtherShard h = tt
      none Other h = tt

      by : (links_to_read u ≡ f.all) ⊎ IsUnread u → AllByRecursion (λ (l : Link). Contains list l.cid) (links_to_read u)
      by (inl same) = subst (AllByRecursion (λ (l : Link). Contains list l.cid)) (sym same) all
      by (inr unread) = none u unread

-- two places that are alike below a root agree among the CIDs of its order
pub agree-among : (left right : Lookup) (most : ℕ) (root : Cid) (h : AreAlike left right most root) → AgreeAmong left right h.list
agree-among left right most root h = record {
  same = λ c there. let one = h.alike c there in one.held_left ∙ sym one.held_right;
  closed = links-there left most root h.list h.order_left;
}

pub agree-back : (left right : Lookup) (most : ℕ) (root : Cid) (h : AreAlike left right most root) → AgreeAmong right left h.list
agree-back left right most root h = record {
  same = λ c there. let one = h.alike c there in one.held_right ∙ sym one.held_left;
  closed = links-there right most root h.list h.order_right;
}
