-- What is put on a host, place by place.
use Rattle.std.proofs.Common.{◌≡◌, ◌≢◌, inl, inr, ℕ, List, [], ◌∷◌, ◌++◌, Bool, true, false, cond, refl, sym, ap, subst, ◌∙◌}
use Rattle.std.specs.Prelude.{IfSome, None, Some, Option}
use Rattle.std.specs.FinMap.{get, get-insert, insert, same_map}
use Rattle.std.specs.List.{AllByRecursion}
use Rattle.std.specs.Ordering.{eq_by_cmp, nat_cmp}
use Rattle.std.specs.Cmp.Lexicographic.{slice_cmp, nat_list_cmp_total}
use Rattle.uf_edge.specs.Host.{HasParent, HostTold, HostTree, IsParentThere, IsRooted, TakesFile, TakesFolder, bytes_of, front, host_changed, with_piece}
use Rattle.uf_edge.specs.declared.host.Place.{Place}
use Rattle.uf_edge.specs.declared.host.Place.TheVariants.{File, Folder}
use Rattle.uf_edge.proofs.HostPlaces.{not_tied, only_equal, self_tied}
use Rattle.uf_host.specs.Places.{AreFirstOf, ChangesWhere, PutsFirst, PutAt, TakesMembers, with_places}
use Rattle.uf_host.proofs.Below.{member-differs, name-some, nothing-in}

-- ---- one place

-- what is put twice is put once
insert_twice : (tree : HostTree) (path : List ℕ) (a b : Place) → insert (insert tree path a) path b ≡ insert tree path b
insert_twice tree path a b = same_map nat_list_cmp_total only_equal _ _ (λ q.
    get-insert nat_list_cmp_total (insert tree path a) path b q
    ∙ ap (cond (eq_by_cmp (slice_cmp nat_cmp) q path) (Some b)) (get-insert nat_list_cmp_total tree path a q)
    ∙ one (eq_by_cmp (slice_cmp nat_cmp) q path) (get tree q)
    ∙ sym (get-insert nat_list_cmp_total tree path b q))
  where
    one : (tied : Bool) (o : Option Place) → cond tied (Some b) (cond tied (Some a) o) ≡ cond tied (Some b) o
    one true o = refl
    one false o = refl

get_self : (tree : HostTree) (path : List ℕ) (place : Place) → get (insert tree path place) path ≡ Some place
get_self tree path place = get-insert nat_list_cmp_total tree path place path ∙ ap (λ b. cond b (Some place) (get tree path)) (self_tied path)

get_other : (tree : HostTree) (path q : List ℕ) (place : Place) → q ≢ path → get (insert tree path place) q ≡ get tree q
get_other tree path q place differs = get-insert nat_list_cmp_total tree path place q ∙ ap (λ b. cond b (Some place) (get tree q)) (not_tied q path differs)

-- ---- many places

-- one list of places behind the other
with_both : (a b : List PutAt) (tree : HostTree) → with_places (a ++ b) tree ≡ with_places b (with_places a tree)
with_both [] b tree = refl
with_both (p ∷ a) b tree = with_both a b (insert tree p.0 p.1)

pub puts-both : (a b : List PutAt) (told mid now : HostTold) → mid ≡ host_changed (with_places a) told → now ≡ host_changed (with_places b) mid → now ≡ host_changed (with_places (a ++ b)) told
puts-both a b None mid now first second = second ∙ ap (host_changed (with_places b)) first
puts-both a b (Some tree) mid now first second = second ∙ ap (host_changed (with_places b)) first ∙ ap (λ t. Some t) (sym (with_both a b tree))

pub puts-none : (told : HostTold) → told ≡ host_changed (with_places []) told
puts-none None = refl
puts-none (Some tree) = refl

-- where a path isn't among the places, what is there stays
pub other-stays : (Where : List ℕ → Type 0) (places : List PutAt) (tree : HostTree) (q : List ℕ) → AllByRecursion (λ (p : PutAt). Where p.0) places → (Where q → ⊥) → get (with_places places tree) q ≡ get tree q
other-stays Where [] tree q all away = refl
other-stays Where (p ∷ places) tree q all away =
    other-stays Where places (insert tree p.0 p.1) q all.1 away ∙ get_other tree p.0 q p.1 (λ same. absurd (away (subst Where (sym same) all.0)))

both_where : (Where : List ℕ → Type 0) (a b : List PutAt) → AllByRecursion (λ (p : PutAt). Where p.0) a → AllByRecursion (λ (p : PutAt). Where p.0) b → AllByRecursion (λ (p : PutAt). Where p.0) (a ++ b)
both_where Where [] b first second = second
both_where Where (p ∷ a) b first second = (first.0, both_where Where a b first.1 second)

other_where : (Where Other : List ℕ → Type 0) → ((q : List ℕ) → Where q → Other q) → (places : List PutAt) → AllByRecursion (λ (p : PutAt). Where p.0) places → AllByRecursion (λ (p : PutAt). Other p.0) places
other_where Where Other more [] all = tt
other_where Where Other more (p ∷ places) all = (more p.0 all.0, other_where Where Other more places all.1)

-- ---- what has changed

pub changes-none : (Where : List ℕ → Type 0) (told now : HostTold) → now ≡ told → ChangesWhere Where told now
changes-none Where told now same = record { places = []; where_put = tt; are_put = same ∙ puts-none told }

pub changes-more : (Where Other : List ℕ → Type 0) (told now : HostTold) → ((q : List ℕ) → Where q → Other q) → ChangesWhere Where told now → ChangesWhere Other told now
changes-more Where Other told now more h = record { places = h.places; where_put = other_where Where Other more h.places h.where_put; are_put = h.are_put }

pub changes-both : (Where : List ℕ → Type 0) (told mid now : HostTold) → ChangesWhere Where told mid → ChangesWhere Where mid now → ChangesWhere Where told now
changes-both Where told mid now h k = record {
  places = h.places ++ k.places;
  where_put = both_where Where h.places k.places h.where_put k.where_put;
  are_put = puts-both h.places k.places told mid now h.are_put k.are_put;
}

pub changes-one : (Where : List ℕ → Type 0) (path : List ℕ) (place : Place) (told now : HostTold) → Where path → now ≡ host_changed (λ tree. insert tree path place) told → ChangesWhere Where told now
changes-one Where path place told now there is = record { places = (path, place) ∷ []; where_put = (there, tt); are_put = by told is }
  where
    by : (told : HostTold) → now ≡ host_changed (λ tree. insert tree path place) told → now ≡ host_changed (with_places ((path, place) ∷ [])) told
    by None is = is
    by (Some tree) is = is

-- ---- parts of what is put

pub first-all : (places : List PutAt) → AreFirstOf places places
first-all [] = tt
first-all (p ∷ places) = inl (refl, first-all places)

first_behind : (a part b : List PutAt) → AreFirstOf part b → AreFirstOf (a ++ part) (a ++ b)
first_behind [] part b first = first
first_behind (p ∷ a) part b first = inl (refl, first_behind a part b first)

first_longer : (part a b : List PutAt) → AreFirstOf part a → AreFirstOf part (a ++ b)
first_longer [] a b first = tt
first_longer (p ∷ part) [] b first = absurd first
first_longer (p ∷ part) (q ∷ a) b (inl same) = inl (same.0, first_longer part a b same.1)
first_longer (p ∷ part) (q ∷ a) b (inr cut) = inr cut

-- all of some places, and then the first of others
pub part-behind : (a b : List PutAt) (told mid now : HostTold) → mid ≡ host_changed (with_places a) told → PutsFirst b mid now → PutsFirst (a ++ b) told now
part-behind a b told mid now all h = record { part = a ++ h.part; first = first_behind a h.part b h.first; are_put = puts-both a h.part told mid now all h.are_put }

pub part-longer : (a b : List PutAt) (told now : HostTold) → PutsFirst a told now → PutsFirst (a ++ b) told now
part-longer a b told now h = record { part = h.part; first = first_longer h.part a b h.first; are_put = h.are_put }

pub part-none : (places : List PutAt) (told now : HostTold) → now ≡ told → PutsFirst places told now
part-none places told now same = record { part = []; first = tt; are_put = same ∙ puts-none told }

-- ---- a file, piece by piece

-- a file of these bytes was made at a path, or nothing was done yet
pub record HasMade (path bytes : List ℕ) (told now : HostTold) : Type 0 where
  pub made : now ≡ host_changed (λ tree. insert tree path (File bytes)) told

changed_twice : (f g h : HostTree → HostTree) (told mid now : HostTold) → ((tree : HostTree) → told ≡ Some tree → g (f tree) ≡ h tree) → mid ≡ host_changed f told → now ≡ host_changed g mid → now ≡ host_changed h told
changed_twice f g h None mid now same first second = second ∙ ap (host_changed g) first
changed_twice f g h (Some tree) mid now same first second = second ∙ ap (host_changed g) first ∙ ap (λ t. Some t) (same tree refl)

absent_in : (told : HostTold) (path : List ℕ) → TakesFolder told path → (tree : HostTree) → told ≡ Some tree → get tree path ≡ None
absent_in None path takes tree is = absurd (let no : None ≡ Some tree = is in cc)
absent_in (Some t) path takes tree is = subst (λ (u : HostTree). get u path ≡ None) (let one : t ≡ tree = cc in one) takes.1

-- the first piece makes the file
pub made-first : (path piece : List ℕ) (told now : HostTold) → TakesFolder told path → now ≡ host_changed (with_piece path piece) told → now ≡ host_changed (λ tree. insert tree path (File piece)) told
made-first path piece None now takes is = is
made-first path piece (Some tree) now takes is = is ∙ ap (λ o. Some (insert tree path (File (bytes_of o ++ piece)))) takes.1

-- a later one is put behind the others
pub made-more : (path bytes piece : List ℕ) (told mid now : HostTold) → mid ≡ host_changed (λ tree. insert tree path (File bytes)) told → now ≡ host_changed (with_piece path piece) mid
    → now ≡ host_changed (λ tree. insert tree path (File (bytes ++ piece))) told
made-more path bytes piece told mid now first second =
    changed_twice (λ tree. insert tree path (File bytes)) (with_piece path piece) (λ tree. insert tree path (File (bytes ++ piece))) told mid now
    (λ tree is. ap (λ o. insert (insert tree path (File bytes)) path (File (bytes_of o ++ piece))) (get_self tree path (File bytes)) ∙ insert_twice tree path (File bytes) (File (bytes ++ piece)))
    first second

-- where a file was made, its path still takes a file
pub takes-made : (path bytes : List ℕ) (told now : HostTold) → TakesFolder told path → now ≡ host_changed (λ tree. insert tree path (File bytes)) told → TakesFile now path
takes-made path bytes None now takes is = subst (λ t. TakesFile t path) (sym is) tt
takes-made path bytes (Some tree) now takes is = subst (λ t. TakesFile t path) (sym is) (parent takes.0, λ there. absurd (let f : Some (File bytes) ≡ Some Folder = sym (get_self tree path (File bytes)) ∙ there in cc))
  where
    parent : IsParentThere tree path → IsParentThere (insert tree path (File bytes)) path
    parent (inl empty) = inl empty
    parent (inr (inl good)) = inr (inl good)
    parent (inr (inr inside)) = inr (inr (record {
      folder = inside.folder;
      name = inside.name;
      is = inside.is;
      good = inside.good;
      there = get_other tree path inside.folder (File bytes) (λ same. absurd (let no : Some Folder ≡ None = sym inside.there ∙ ap (get tree) same ∙ takes.1 in cc)) ∙ inside.there;
    }))

pub takes-file : (told : HostTold) (path : List ℕ) → TakesFolder told path → TakesFile told path
takes-file None path takes = tt
takes-file (Some tree) path takes = (takes.0, λ there. absurd (let no : Some Folder ≡ None = sym there ∙ takes.1 in cc))

-- ---- a folder and its members

-- a path that isn't empty has the parent that is there
has-parent : (tree : HostTree) (path : List ℕ) → path ≢ [] → IsParentThere tree path → HasParent tree path
has-parent tree path named (inl empty) = absurd (named empty)
has-parent tree path named (inr parent) = parent

-- a folder that was made where nothing was has no members
pub empty-made : (told now : HostTold) (path : List ℕ) → path ≢ [] → IfSome told IsRooted → TakesFolder told path → now ≡ host_changed (λ tree. insert tree path Folder) told → TakesMembers now path
empty-made None now path named rooted takes is = subst (λ t. TakesMembers t path) (sym is) tt
empty-made (Some tree) now path named rooted takes is = subst (λ t. TakesMembers t path) (sym is) (record {
  there = get_self tree path Folder;
  empty = λ name good. get_other tree path (front path ++ name) Folder (member-differs path name (name-some name good)) ∙ nothing-in tree rooted path (has-parent tree path named takes.0) takes.1 name good;
})
