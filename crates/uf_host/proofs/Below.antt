-- Paths below other paths.
use Rattle.std.proofs.Common.{◌≡◌, ◌≢◌, ℕ, ◌<◌, ◌≤◌, List, [], ◌∷◌, ◌++◌, length, Bool, true, false, ◌||◌, ◌==◌, cond, refl, ap, sym, ◌∙◌, subst, arith, inl, inr, length-append, append_assoc}
use Rattle.std.proofs.Math.Logic.{∥∥₁_elim}
use Rattle.std.proofs.lemmas.List.{append_cancel_left}
use Rattle.std.proofs.lemmas.Slice.Eq.{bytes_eq-Decides}
use Rattle.std.specs.Prelude.{IsTrue, None, Some, is_some, not}
use Rattle.std.specs.FinMap.{get}
use Rattle.std.specs.List.{list_any}
use Rattle.std.specs.Str.{bytes_eq}
use Rattle.uf_edge.specs.Host.{HasParent, HostTree, IsRooted, front, is_member_name, root}
use Rattle.uf_edge.specs.declared.host.Place.TheVariants.{Folder}
use Rattle.uf_host.specs.Places.{IsBelow}

-- ---- names without a slash

-- the name of a member isn't empty, and has no slash
pub name-some : (name : List ℕ) → IsTrue (is_member_name name) → 0 < length name
name-some [] good = absurd (let no : false ≡ true = good in cc)
name-some (b ∷ bs) good = omega arith

no-slash : (name : List ℕ) → IsTrue (is_member_name name) → list_any (λ c. c == 47) name ≡ false
no-slash [] good = refl
no-slash (b ∷ bs) good = by (list_any (λ c. c == 47) (b ∷ bs)) good
  where
    by : (any : Bool) → IsTrue (not any) → any ≡ false
    by true h = absurd (let no : false ≡ true = h in cc)
    by false h = refl

slash-behind : (a b : List ℕ) → list_any (λ c. c == 47) (a ++ 47 ∷ b) ≡ true
slash-behind [] b = refl
slash-behind (x ∷ a) b = ap (λ any. (x == 47) || any) (slash-behind a b) ∙ by (x == 47)
  where
    by : (one : Bool) → (one || true) ≡ true
    by true = refl
    by false = refl

-- a name without a slash isn't one with a slash
clash : {P : Type 0} (name a b : List ℕ) → IsTrue (is_member_name name) → name ≡ a ++ 47 ∷ b → P
clash name a b good is = absurd (let no : false ≡ true = sym (no-slash name good) ∙ ap (list_any (λ c. c == 47)) is ∙ slash-behind a b in cc)

-- ---- fronts

-- what stands in front of the slash with which a front ends
abbrev pub body : List ℕ → List ℕ
body folder = cond (bytes_eq folder root) [] folder

pub front-body : (folder : List ℕ) → front folder ≡ body folder ++ 47 ∷ []
front-body folder = by (bytes_eq folder root)
  where
    by : (is : Bool) → cond is root (folder ++ root) ≡ cond is [] folder ++ 47 ∷ []
    by true = refl
    by false = refl

body-root : (folder : List ℕ) → folder ≡ root → body folder ≡ []
body-root folder is = ap (λ b. cond b [] folder) ((bytes_eq-Decides folder root).1 is)

body-other : (folder : List ℕ) → folder ≢ root → body folder ≡ folder
body-other folder differs = by (bytes_eq folder root) refl
  where
    by : (is : Bool) → bytes_eq folder root ≡ is → cond is [] folder ≡ folder
    by true e = absurd (differs ((bytes_eq-Decides folder root).0 e))
    by false e = refl

-- a front is no shorter than its folder, and longer but for the root
front-length : (folder : List ℕ) → length folder ≤ length (front folder)
front-length folder = by (bytes_eq folder root) refl
  where
    by : (is : Bool) → bytes_eq folder root ≡ is → length folder ≤ length (cond is root (folder ++ root))
    by true e = let same = ap length ((bytes_eq-Decides folder root).0 e) in omega (arith, same)
    by false e = let size = length-append folder root in omega (arith, size)

-- the path of a member is none of a folder
member-length : (folder name : List ℕ) → 0 < length name → 1 < length (front folder ++ name)
member-length folder name some =
    let first = length-append (front folder) name in
    let second = ap length (front-body folder) ∙ length-append (body folder) (47 ∷ []) in
    omega (arith, first, second, some)

member-not-root : (folder name : List ℕ) → 0 < length name → (front folder ++ name) ≢ root
member-not-root folder name some is = absurd (let size = ap length is in let more = member-length folder name some in omega (arith, size, more))

pub member-differs : (folder name : List ℕ) → 0 < length name → (front folder ++ name) ≢ folder
member-differs folder name some is =
    absurd (let size = sym (length-append (front folder) name) ∙ ap length is in let long = front-length folder in omega (arith, size, long, some))

-- the front of a member's path
front-member : (folder name : List ℕ) → 0 < length name → front (front folder ++ name) ≡ (front folder ++ name) ++ 47 ∷ []
front-member folder name some = front-body (front folder ++ name) ∙ ap (λ l. l ++ 47 ∷ []) (body-other (front folder ++ name) (member-not-root folder name some))

-- ---- paths below a member

-- what is below a member is below its folder
pub below-folder : (folder name q : List ℕ) → 0 < length name → IsBelow (front folder ++ name) q → (rest : List ℕ) × (q ≡ front folder ++ rest) × (rest ≢ [])
below-folder folder [] q some is = absurd (omega arith)
below-folder folder (b ∷ bs) q some (inl is) = (b ∷ bs, is, λ no. absurd (let size = ap length no in omega (arith, size)))
below-folder folder (b ∷ bs) q some (inr more) = (
  (b ∷ bs) ++ 47 ∷ more.0,
  more.1 ∙ ap (λ l. l ++ more.0) (front-member folder (b ∷ bs) some) ∙ append_assoc (front folder ++ b ∷ bs) (47 ∷ []) more.0 ∙ append_assoc (front folder) (b ∷ bs) (47 ∷ more.0),
  λ no. absurd (let size = ap length no in omega (arith, size)),
)

-- a member isn't below another one
pub sisters-apart : (folder name other : List ℕ) → IsTrue (is_member_name name) → IsTrue (is_member_name other) → name ≢ other → IsBelow (front folder ++ name) (front folder ++ other) → ⊥
sisters-apart folder name other good fine differs (inl is) = absurd (differs (sym (append_cancel_left (front folder) other name is)))
sisters-apart folder name other good fine differs (inr more) =
    let whole = more.1 ∙ ap (λ l. l ++ more.0) (front-member folder name (name-some name good)) ∙ append_assoc (front folder ++ name) (47 ∷ []) more.0 ∙ append_assoc (front folder) name (47 ∷ more.0) in
    clash other name more.0 fine (append_cancel_left (front folder) other (name ++ 47 ∷ more.0) whole)

-- a folder isn't below its member
pub folder-above : (folder name : List ℕ) → 0 < length name → IsBelow (front folder ++ name) folder → ⊥
folder-above folder name some (inl is) = absurd (member-differs folder name some (sym is))
folder-above folder name some (inr more) =
    let first = ap length more.1 ∙ length-append (front (front folder ++ name)) more.0 in
    let second = front-length (front folder ++ name) in
    let third = length-append (front folder) name in
    let fourth = front-length folder in
    absurd (omega (arith, first, second, third, fourth, some))

-- ---- the folder of a path

-- a text has one last slash
split-once : (a b name other : List ℕ) → IsTrue (is_member_name name) → IsTrue (is_member_name other) → a ++ 47 ∷ name ≡ b ++ 47 ∷ other → a ≡ b
split-once [] [] name other good fine is = refl
split-once [] (y ∷ b) name other good fine is = clash name b other good (let tails : name ≡ b ++ 47 ∷ other = cc in tails)
split-once (x ∷ a) [] name other good fine is = clash other a name fine (let tails : other ≡ a ++ 47 ∷ name = cc in tails)
split-once (x ∷ a) (y ∷ b) name other good fine is =
    let heads : x ≡ y = cc in
    let tails : a ++ 47 ∷ name ≡ b ++ 47 ∷ other = cc in
    ap (λ (h : ℕ). h ∷ a) heads ∙ ap (λ (t : List ℕ). y ∷ t) (split-once a b name other good fine tails)

member-body : (folder name : List ℕ) → front folder ++ name ≡ body folder ++ 47 ∷ name
member-body folder name = ap (λ l. l ++ name) (front-body folder) ∙ append_assoc (body folder) (47 ∷ []) name

same-body : (folder other name last : List ℕ) → IsTrue (is_member_name name) → IsTrue (is_member_name last) → front folder ++ name ≡ front other ++ last → body folder ≡ body other
same-body folder other name last good fine is = split-once (body folder) (body other) name last good fine (sym (member-body folder name) ∙ is ∙ member-body other last)

-- ---- trees with a root

-- the empty path has no parent
no-parent : (tree : HostTree) → HasParent tree [] → ⊥
no-parent tree (inl good) = absurd (let no : false ≡ true = good in cc)
no-parent tree (inr inside) =
    let size = ap length inside.is ∙ length-append (front inside.folder) inside.name in
    let some = name-some inside.name inside.good in
    absurd (omega (arith, size, some))

module _ (tree : HostTree) (rooted : IsRooted tree) (path : List ℕ) (parent : HasParent tree path) (absent : get tree path ≡ None) where
  not-there : (folder : List ℕ) → get tree folder ≡ Some Folder → folder ≢ path
  not-there folder there is = absurd (let no : Some Folder ≡ None = sym there ∙ ap (get tree) is ∙ absent in cc)

  -- a folder that is there has another body than one that isn't
  other-body : (folder : List ℕ) → get tree folder ≡ Some Folder → body folder ≡ body path → ⊥
  other-body folder there is = by (bytes_eq folder root) refl (bytes_eq path root) refl
    where
      by : (a : Bool) → bytes_eq folder root ≡ a → (b : Bool) → bytes_eq path root ≡ b → ⊥
      by true e true f = absurd (not-there folder there ((bytes_eq-Decides folder root).0 e ∙ sym ((bytes_eq-Decides path root).0 f)))
      by true e false f =
          let empty : path ≡ [] = sym (body-other path (λ same. absurd (let no : false ≡ true = sym f ∙ (bytes_eq-Decides path root).1 same in cc))) ∙ sym is ∙ body-root folder ((bytes_eq-Decides folder root).0 e) in
          no-parent tree (subst (HasParent tree) empty parent)
      by false e true f = absurd (let no : Some Folder ≡ None = sym rooted.root_is ∙ ap (get tree) (sym ((bytes_eq-Decides path root).0 f)) ∙ absent in cc)
      by false e false f =
          absurd (not-there folder there
          (sym (body-other folder (λ same. absurd (let no : false ≡ true = sym e ∙ (bytes_eq-Decides folder root).1 same in cc)))
          ∙ is ∙ body-other path (λ same. absurd (let no : false ≡ true = sym f ∙ (bytes_eq-Decides path root).1 same in cc))))

  -- no member of a folder that isn't there has a parent
  orphan : (name : List ℕ) → IsTrue (is_member_name name) → HasParent tree (front path ++ name) → ⊥
  orphan name good (inl one) = clash (front path ++ name) (body path) name one (member-body path name)
  orphan name good (inr inside) =
      other-body inside.folder inside.there (same-body inside.folder path inside.name name inside.good good (sym inside.is))

  -- nothing is in a folder that isn't there
  pub nothing-in : (name : List ℕ) → IsTrue (is_member_name name) → get tree (front path ++ name) ≡ None
  nothing-in name good = by (get tree (front path ++ name)) refl
    where
      by : (o : _) → get tree (front path ++ name) ≡ o → o ≡ None
      by None e = refl
      by (Some place) e =
          absurd (∥∥₁_elim (rooted.parents (front path ++ name) (member-not-root path name (name-some name good)) (ap is_some e)) (λ x y. absurd x) (orphan name good))
