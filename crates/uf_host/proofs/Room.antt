-- Room for a tree at a path of a host.
use Rattle.std.proofs.Common.{◌≡◌, ◌≢◌, ℕ, zero, suc, ◌+◌, ◌-◌, ◌<◌, List, [], ◌∷◌, ◌++◌, take, drop, length, Bool, true, false, ◌&&◌, ◌||◌, ◌==◌, cond, refl, sym, ap, subst, ◌∙◌, arith, inl, inr, get_or, append_assoc, Result, Ok, Err, get_or-drop, length-drop}
use Rattle.std.proofs.lemmas.Bool.Decides.{nat_tests}
use Rattle.std.proofs.lemmas.List.{drop_more, take-append-drop}
use Rattle.std.proofs.lemmas.Str.{len_utf8_ascii}
use Rattle.std.proofs.lemmas.Str.Pattern.{NoCharPasses-char}
use Rattle.std.specs.Prelude.{IfSome, IsTrue, None, Some, Option, not, slice_index}
use Rattle.std.specs.FinMap.{get}
use Rattle.std.specs.List.{list_any}
use Rattle.std.specs.Option.{option_map}
use Rattle.std.specs.Path.{rfind_below, rsplit_once}
use Rattle.std.specs.Str.{NoCharPasses, bytes_eq}
use Rattle.std.specs.Str.Pattern.{HasCharAt}
use Rattle.uf_edge.specs.Host.{HasParent, HostTold, HostTree, IsParentThere, TakesFolder, is_member_name, root}
use Rattle.uf_edge.specs.declared.host.Place.{Place}
use Rattle.uf_edge.specs.declared.host.Place.TheVariants.{File, Folder}
use Rattle.uf_host.specs.Getting.{FindsFolder, HasRoom, lacks_slash}
use Rattle.uf_host.specs.Paths.{folder_named, has_folder, has_folder_by, is_folder_there}
use Rattle.uf_host.specs.Places.{IsFolderThere}
use Rattle.uf_host.specs.declared.fault.HostFault.{HostFault}
use Rattle.uf_host.specs.declared.fault.HostFault.TheVariants as faults
use Rattle.uf_host.proofs.Members.{and-first, and-second}
use Rattle.uf_host.proofs.Texts.{other, split-none, split-some}

-- ---- the last slash

pub none-lacks : (text : List ℕ) → ((i : ℕ) → i < length text → slice_index text i ≢ 47) → lacks_slash text ≡ true
none-lacks text h = ap not (any text h)
  where
    any : (text : List ℕ) → ((i : ℕ) → i < length text → slice_index text i ≢ 47) → list_any (λ b. b == 47) text ≡ false
    any [] h = refl
    any (b ∷ bs) h = ap (λ one. one || list_any (λ b. b == 47) bs) (other b (h 0 (omega arith))) ∙ any bs (λ i low. h (suc i) (omega (arith, low)))

pub split-at-none : (text : List ℕ) → NoCharPasses (λ d. d == 47) text → (rsplit_once 47 text ≡ None) × (lacks_slash text ≡ true)
unfolding rsplit_once
split-at-none text none =
    let free = λ (i : ℕ) (low : i < length text). NoCharPasses-char 47 text i none (omega arith) low in
    (ap (option_map (λ i. (take i text, drop (i + 1) text))) (split-none text (length text) free), none-lacks text free)

pub split-at-some : (text first last : List ℕ) (i j : ℕ) → NoCharPasses (λ d. d == 47) (drop j text) → HasCharAt 47 text i j → first ≡ take i text → last ≡ drop j text → length last + j ≡ length text
    → (rsplit_once 47 text ≡ Some (first, last)) × (lacks_slash last ≡ true)
unfolding rsplit_once
split-at-some text first last i j none at front_is is all =
    let next : j ≡ i + 1 = omega (arith, at.ends, len_utf8_ascii 47 (omega arith)) in
    let free = λ (k : ℕ) (low : k < length (drop j text)). NoCharPasses-char 47 (drop j text) k none (omega arith) low in
    let later : (k : ℕ) → i < k → k < length text → slice_index text k ≢ 47 = λ k more low.
    let back : j + (k - j) ≡ k = omega arith in
    λ e. free (k - j) (omega (arith, length-drop j text)) (get_or-drop j text (k - j) 0 ∙ ap (λ (n : ℕ). get_or text n 0) back ∙ e) in
    let found = split-some text i (length text) (omega arith) (at.byte (omega arith)) later in (
      ap (option_map (λ i. (take i text, drop (i + 1) text))) found ∙ ap (λ (n : ℕ). Some (take i text, drop n text)) (sym next) ∙ ap (λ (l : List ℕ). Some (l, drop j text)) (sym front_is) ∙ ap (λ (l : List ℕ). Some (first, l)) (sym is),
      subst (λ (l : List ℕ). lacks_slash l ≡ true) (sym is) (none-lacks (drop j text) free),
    )

none-found : (text : List ℕ) (n : ℕ) → rfind_below 47 text n ≡ None → (i : ℕ) → i < n → slice_index text i ≢ 47
none-found text zero is = λ i low. absurd (omega (arith, low))
none-found text (suc n) is = by (slice_index text n == 47) refl (λ e. none-found text n e)
  where
    by : (b : Bool) → (slice_index text n == 47) ≡ b → (rfind_below 47 text n ≡ None → (i : ℕ) → i < n → slice_index text i ≢ 47) → (i : ℕ) → i < suc n → slice_index text i ≢ 47
    by true e more i low = absurd (let no : Some n ≡ None = sym (ap (λ (b : Bool). cond b (Some n) (rfind_below 47 text n)) e) ∙ is in cc)
    by false e more i low = λ same.
        let rest : rfind_below 47 text n ≡ None = sym (ap (λ (b : Bool). cond b (Some n) (rfind_below 47 text n)) e) ∙ is in
        let other : i ≢ n = λ at. absurd (let no : false ≡ true = sym e ∙ ap (λ (k : ℕ). slice_index text k == 47) (sym at) ∙ ap (λ (m : ℕ). m == 47) same in cc) in
        more rest i (omega (arith, low, other)) same

no-slash : (text : List ℕ) → rsplit_once 47 text ≡ None → (i : ℕ) → i < length text → slice_index text i ≢ 47
unfolding rsplit_once
no-slash text is = by (rfind_below 47 text (length text)) refl is
  where
    by : (o : Option ℕ) → rfind_below 47 text (length text) ≡ o → option_map {U = List ℕ × List ℕ} (λ i. (take i text, drop (i + 1) text)) o ≡ None → (i : ℕ) → i < length text → slice_index text i ≢ 47
    by None e is = none-found text (length text) e
    by (Some k) e is = absurd (let no : ◌≡◌ {A = Option (List ℕ × List ℕ)} (Some (take k text, drop (k + 1) text)) None = is in cc)

found-slash : (text : List ℕ) (n k : ℕ) → rfind_below 47 text n ≡ Some k → (k < n) × (slice_index text k ≡ 47)
found-slash text zero k is = absurd (let no : None ≡ Some k = is in cc)
found-slash text (suc n) k is = by (slice_index text n == 47) refl (λ e. found-slash text n k e)
  where
    by : (b : Bool) → (slice_index text n == 47) ≡ b → (rfind_below 47 text n ≡ Some k → (k < n) × (slice_index text k ≡ 47)) → (k < suc n) × (slice_index text k ≡ 47)
    by true e more =
        let same : n ≡ k = (let f : Some n ≡ Some k = sym (ap (λ (b : Bool). cond b (Some n) (rfind_below 47 text n)) e) ∙ is in cc) in
        (omega (arith, same), subst (λ m. slice_index text m ≡ 47) same (grind (arith, nat_tests, e)))
    by false e more = let h = more (sym (ap (λ (b : Bool). cond b (Some n) (rfind_below 47 text n)) e) ∙ is) in (omega (arith, h.0), h.1)

-- a path is what stands in front of its last slash, the slash, and what stands behind
split-whole : (text : List ℕ) (split : List ℕ × List ℕ) → rsplit_once 47 text ≡ Some split → text ≡ split.0 ++ 47 ∷ split.1
unfolding rsplit_once
split-whole text split is = by (rfind_below 47 text (length text)) refl is
  where
    by : (o : Option ℕ) → rfind_below 47 text (length text) ≡ o → option_map (λ i. (take i text, drop (i + 1) text)) o ≡ Some split → text ≡ split.0 ++ 47 ∷ split.1
    by None e is = absurd (let no : None ≡ Some split = is in cc)
    by (Some k) e is =
        let found = found-slash text (length text) k e in
        let same : (take k text, drop (k + 1) text) ≡ split = cc in
        subst (λ (s : List ℕ × List ℕ). text ≡ s.0 ++ 47 ∷ s.1) same
        (sym (take-append-drop k text) ∙ ap (λ l. take k text ++ l) (drop_more text k 0 found.0 ∙ ap (λ b. b ∷ drop (k + 1) text) found.1))

-- ---- the folder of a path

there_is : (o : Option Place) → is_folder_there o ≡ true → o ≡ Some Folder
there_is None h = absurd (let no : false ≡ true = h in cc)
there_is (Some Folder) h = refl
there_is (Some (File bytes)) h = absurd (let no : false ≡ true = h in cc)

member-of : (name : List ℕ) → (length name == 0) ≡ false → lacks_slash name ≡ true → is_member_name name ≡ true
member-of [] some lacks = absurd (let no : true ≡ false = some in cc)
member-of (b ∷ bs) some lacks = lacks

no-member : (name : List ℕ) → (length name == 0) ≡ true → is_member_name name ≡ false
no-member [] none = refl
no-member (b ∷ bs) none = absurd (let size : suc (length bs) ≡ 0 = grind (arith, nat_tests, none) in omega (arith, size))

parent-of : (host : HostTree) (path first name : List ℕ) → path ≡ first ++ 47 ∷ name → IsTrue (is_member_name name) → (bytes_eq first root) ≡ false → get host (folder_named first) ≡ Some Folder → HasParent host path
parent-of host path [] name is good differs there = inr (record { folder = root; name = name; is = is; good = good; there = there })
parent-of host path (x ∷ first) name is good differs there = inr (record {
  folder = x ∷ first;
  name = name;
  is = is ∙ sym (ap (λ b. cond b root ((x ∷ first) ++ root) ++ name) differs ∙ append_assoc (x ∷ first) root name);
  good = good;
  there = there;
})

not-false : (b : Bool) → not b ≡ true → b ≡ false
not-false true h = absurd (let no : false ≡ true = h in cc)
not-false false h = refl

-- a path without a slash is empty, or the name of a member of the working folder
in-working : (host : HostTree) (path : List ℕ) → lacks_slash path ≡ true → IsParentThere host path
in-working host [] lacks = inl refl
in-working host (b ∷ bs) lacks = inr (inl lacks)

-- where there is room for a tree, a folder may be made
pub room-takes : (told : HostTold) (path : List ℕ) → IfSome told (λ host. HasRoom host path) → TakesFolder told path
room-takes None path room = tt
room-takes (Some host) path room = (by (rsplit_once 47 path) refl room.folder, room.absent)
  where
    by : (o : Option (List ℕ × List ℕ)) → rsplit_once 47 path ≡ o → has_folder_by host path o ≡ true → IsParentThere host path
    by None e h = in-working host path (none-lacks path (no-slash path e))
    by (Some split) e h = inr (let two = and-first (is_member_name split.1 && not (bytes_eq split.0 root)) _ h in
        parent-of host path split.0 split.1 (split-whole path split e) (and-first (is_member_name split.1) _ two)
        (not-false (bytes_eq split.0 root) (and-second (is_member_name split.1) _ two))
        (there_is (get host (folder_named split.0)) (and-second (is_member_name split.1 && not (bytes_eq split.0 root)) _ h)))

-- ---- what is found of it

by_split : (told : HostTold) (path : List ℕ) (o : Option (List ℕ × List ℕ)) (b : Bool) → rsplit_once 47 path ≡ o → ((host : HostTree) → has_folder_by host path o ≡ b) → IfSome told (λ host. has_folder host path ≡ b)
by_split None path o b is h = tt
by_split (Some host) path o b is h = ap (has_folder_by host path) is ∙ h host

pub finds-working : (told : HostTold) (path : List ℕ) → rsplit_once 47 path ≡ None → IfSome told (λ host. has_folder host path ≡ true)
finds-working told path is = by_split told path None true is (λ host. refl)

pub finds-no-last : (told : HostTold) (path first name : List ℕ) → rsplit_once 47 path ≡ Some (first, name) → (length name == 0) ≡ true → IfSome told (λ host. has_folder host path ≡ false)
finds-no-last told path first name is none = by_split told path (Some (first, name)) false is (λ host. ap (λ b. (b && not (bytes_eq first root)) && is_folder_there (get host (folder_named first))) (no-member name none))

pub finds-slashes : (told : HostTold) (path first name : List ℕ) → rsplit_once 47 path ≡ Some (first, name) → bytes_eq first root ≡ true → IfSome told (λ host. has_folder host path ≡ false)
finds-slashes told path first name is same = by_split told path (Some (first, name)) false is (λ host. ap (λ b. (is_member_name name && not b) && is_folder_there (get host (folder_named first))) same ∙ by (is_member_name name) (is_folder_there (get host (folder_named first))))
  where
    by : (a b : Bool) → (a && false) && b ≡ false
    by true b = refl
    by false b = refl

pub finds-folder : (told : HostTold) (path first name : List ℕ) (r : Result (Unit {0}) HostFault) → rsplit_once 47 path ≡ Some (first, name) → lacks_slash name ≡ true → (length name == 0) ≡ false → bytes_eq first root ≡ false → IsFolderThere told (folder_named first) r → FindsFolder told path r
finds-folder told path first name (Ok done) is lacks some differs h = there told h
  where
    there : (told : HostTold) → IfSome told (λ tree. is_folder_there (get tree (folder_named first)) ≡ true) → IfSome told (λ host. has_folder host path ≡ true)
    there None h = tt
    there (Some host) h = ap (has_folder_by host path) is ∙ ap (λ b. (b && not (bytes_eq first root)) && is_folder_there (get host (folder_named first))) (member-of name some lacks) ∙ ap (λ b. not b && is_folder_there (get host (folder_named first))) differs ∙ h
finds-folder told path first name (Err faults.Absent) is lacks some differs h = there told h
  where
    there : (told : HostTold) → IfSome told (λ tree. is_folder_there (get tree (folder_named first)) ≡ false) → IfSome told (λ host. has_folder host path ≡ false)
    there None h = tt
    there (Some host) h = ap (has_folder_by host path) is ∙ ap (λ b. (b && not (bytes_eq first root)) && is_folder_there (get host (folder_named first))) (member-of name some lacks) ∙ ap (λ b. not b && is_folder_there (get host (folder_named first))) differs ∙ h
finds-folder told path first name (Err faults.Read) is lacks some differs h = tt
finds-folder told path first name (Err (faults.Store fault)) is lacks some differs h = h
finds-folder told path first name (Err faults.NeedsRecursive) is lacks some differs h = absurd h
finds-folder told path first name (Err (faults.Other p)) is lacks some differs h = absurd h
finds-folder told path first name (Err faults.Exists) is lacks some differs h = absurd h
finds-folder told path first name (Err (faults.Name p)) is lacks some differs h = absurd h
finds-folder told path first name (Err (faults.TooDeep p)) is lacks some differs h = absurd h
finds-folder told path first name (Err (faults.FileTooLong p)) is lacks some differs h = absurd h
finds-folder told path first name (Err (faults.Collision x y)) is lacks some differs h = absurd h
finds-folder told path first name (Err faults.TooBig) is lacks some differs h = absurd h
finds-folder told path first name (Err faults.Write) is lacks some differs h = absurd h
finds-folder told path first name (Err (faults.Dag fault)) is lacks some differs h = absurd h
