-- Where a walk over a host gives a tree, it is what the host has there.
use Rattle.std.proofs.Common.{◌≡◌, ◌∙◌, ℕ, List, [], ◌∷◌, ◌++◌, Bool, true, false, cond, refl, ap, Option, None, Some, Result, Ok, Err}
use Rattle.std.specs.Prelude.{zero, suc, map}
use Rattle.std.specs.FinMap.{get}
use Rattle.uf_edge.specs.Host.{HostTree, front, names_in}
use Rattle.uf_edge.specs.declared.host.Place.{Place}
use Rattle.uf_edge.specs.declared.host.Place.TheVariants as place
use Rattle.uf_host.specs.HostTree.{Members, Walk, directory_of, each_member, member_at, tree_on_host, tree_there, unless_refused, walk_down, with_entries}
use Rattle.uf_host.specs.Paths.{is_folder_there, trimmed}
use Rattle.uf_host.specs.declared.fault.HostFault.{HostFault}
use Rattle.uf_host.specs.declared.fault.HostFault.TheVariants as faults
use Rattle.uf_tree.specs.Metas.{none}
use Rattle.uf_tree.specs.Names.{is_name}
use Rattle.uf_tree.specs.Tree.{Tree, File, Dir, entries}
use Rattle.uf_tree.specs.TreePlan as plan
use Rattle.uf_tree.specs.declared.profile.Profile.{Profile}
use Rattle.uf_varint.specs.Fields.{◌>>=◌}
use Rattle.uf_headline.specs.OnHost.{tree_below, tree_of, tree_on}

-- ---- what came of a step

same-of : {A : Type 0} (a b : A) → ◌≡◌ {A = Result A HostFault} (Ok a) (Ok b) → a ≡ b
same-of a b e = cc

first-of : {A B : Type 0} (r : Result A HostFault) (go : A → Result B HostFault) (b : B) → (r >>= go) ≡ Ok b → (a : A) × (r ≡ Ok a) × (go a ≡ Ok b)
first-of (Ok a) go b e = (a, refl, e)
first-of (Err why) go b e = absurd cc

unrefused : (path : List ℕ) (u t : Tree) (o : Option plan.Refusal) → unless_refused path u o ≡ Ok t → u ≡ t
unrefused path u t None e = same-of u t e
unrefused path u t (Some plan.FileTooLong) e = absurd cc
unrefused path u t (Some (plan.Collision first second)) e = absurd cc
unrefused path u t (Some plan.TooBig) e = absurd cc

-- ---- the members of a folder

module _ (walk : Walk) (shown : List ℕ → Tree) (is : (path : List ℕ) (t : Tree) → walk path ≡ Ok t → shown path ≡ t) (folder : List ℕ) where
  abbrev shown-member : List ℕ → List ℕ × Tree
  shown-member name = (name, shown (front folder ++ name))

  member-is : (name : List ℕ) (t : Tree) → member_at walk folder name ≡ Ok t → shown (front folder ++ name) ≡ t
  member-is name t e = by (is_name name) e
    where
      by : (b : Bool) → cond b (walk (front folder ++ name)) (Err (faults.Name (front folder ++ name))) ≡ Ok t → shown (front folder ++ name) ≡ t
      by true e = is (front folder ++ name) t e
      by false e = absurd cc

  members-are : (names : List (List ℕ)) (ms : Members) → each_member walk folder names ≡ Ok ms → map shown-member names ≡ ms
  members-are [] ms e = same-of [] ms e
  members-are (name ∷ names) ms e =
      let t = first-of (member_at walk folder name) (λ tree. each_member walk folder names >>= λ rest. Ok ((name, tree) ∷ rest)) ms e in
      let rest = first-of (each_member walk folder names) (λ rest. Ok ((name, t.0) ∷ rest)) ms t.2 in
      ap (λ (u : Tree). (name, u) ∷ map shown-member names) (member-is name t.0 t.1)
      ∙ ap (λ (l : Members). (name, t.0) ∷ l) (members-are names rest.0 rest.1)
      ∙ same-of ((name, t.0) ∷ rest.0) ms rest.2

-- ---- a walk

module _ (X : List ℕ → List ℕ) (N : List ℕ → ℕ) (p : Profile) (host : HostTree) where
  file-is : (path bytes : List ℕ) (t : Tree) → unless_refused path (File none bytes) (plan.too_long p bytes) ≡ Ok t → File none bytes ≡ t
  file-is path bytes t e = unrefused path (File none bytes) t (plan.too_long p bytes) e

  abbrev Goes : ℕ → Type 0
  Goes levels = (path : List ℕ) (t : Tree) → walk_down X N p host levels path ≡ Ok t → tree_below host levels path ≡ t

  below-is : (levels : ℕ) (path : List ℕ) (t : Tree) → walk_down X N p host levels path ≡ Ok t → tree_below host levels path ≡ t
  unfolding walk_down tree_below
  below-is zero path t e = by (get host path) e
    where
      by : (o : Option Place) → tree_there X N p (Err (faults.TooDeep path)) path o ≡ Ok t → tree_of o [] ≡ t
      by None e = absurd cc
      by (Some (place.File bytes)) e = file-is path bytes t e
      by (Some place.Folder) e = absurd cc
  below-is (suc levels) path t e = by (λ path t e. below-is levels path t e) (get host path) e
    where
      names : List (List ℕ)
      names = names_in host path

      members : Members
      members = map (λ name. (name, tree_below host levels (front path ++ name))) names

      in_folder : Goes levels → (r : Result Members HostFault) → each_member (walk_down X N p host levels) path names ≡ r → (r >>= directory_of X N p path) ≡ Ok t → Dir (entries none members) ≡ t
      in_folder deeper (Ok ms) said k =
          ap (λ (l : Members). Dir (entries none l)) (members-are (walk_down X N p host levels) (tree_below host levels) deeper path names ms said)
          ∙ unrefused path (Dir (entries none ms)) t (plan.dir_refusal X N p none (with_entries X N p ms)) k
      in_folder deeper (Err why) said k = absurd cc

      by : Goes levels → (o : Option Place) → tree_there X N p (each_member (walk_down X N p host levels) path names >>= directory_of X N p path) path o ≡ Ok t → tree_of o members ≡ t
      by deeper None e = absurd cc
      by deeper (Some (place.File bytes)) e = file-is path bytes t e
      by deeper (Some place.Folder) e = in_folder deeper (each_member (walk_down X N p host levels) path names) refl e

  pub on-host : (recursive : Bool) (path : List ℕ) (t : Tree) → tree_on_host X N p host recursive path ≡ Ok t → tree_on host path ≡ t
  on-host true path t e = below-is 257 (trimmed path) t e
  on-host false path t e = by (is_folder_there (get host (trimmed path))) e
    where
      by : (b : Bool) → cond b (Err faults.NeedsRecursive) (walk_down X N p host 257 (trimmed path)) ≡ Ok t → tree_on host path ≡ t
      by true e = absurd cc
      by false e = below-is 257 (trimmed path) t e
