-- The members of a folder put on a host, one after the other.
use Rattle.std.proofs.Common.{◌≡◌, ◌≢◌, inr, ℕ, zero, suc, ◌+◌, ◌<◌, ◌≤◌, List, [], ◌∷◌, ◌++◌, drop, get_or, length, Bool, true, false, ◌&&◌, ◌||◌, ◌==◌, refl, sym, ap, subst, ◌∙◌, arith, append_assoc, append-nil, Ordering, Less, Equal, Greater, Ok, Err}
use Rattle.std.specs.Prelude.{IsTrue, None, Some, not}
use Rattle.std.specs.Ordering.{is_lt, ordering_reverse}
use Rattle.std.specs.FinMap.Entries.{below_all, is_sorted}
use Rattle.std.specs.List.{list_any}
use Rattle.std.specs.Cmp.Lexicographic.{nat_list_cmp_total}
use Rattle.std.proofs.lemmas.List.{drop_more}
use Rattle.uf_cid.specs.Blocks.{Lookup}
use Rattle.uf_cid.specs.declared.cid.Cid.{Cid}
use Rattle.uf_edge.specs.Host.{HostTold, TakesFolder, front, host_changed, is_member_name}
use Rattle.uf_lenient.specs.Denoted.{AreDenoted, denotes_within}
use Rattle.uf_lenient.specs.declared.shapes.Limits.{Limits}
use Rattle.uf_tree.specs.Names.{is_name, names_cmp}
use Rattle.uf_tree.specs.Tree.{Entries, Nothing, Tree, With}
use Rattle.uf_host.specs.Places.{ChangesAt, ChangesIn, ChangesWhere, IsBelow, Puts, PutsFirst, PutAt, TakesMembers, places_in, places_of, with_places}
use Rattle.uf_host.specs.declared.fault.HostFault.{HostFault}
use Rattle.uf_host.proofs.Below.{below-folder, folder-above, name-some, sisters-apart}
use Rattle.uf_host.proofs.Puttings.{changes-both, changes-more, first-all, other-stays, part-behind, part-longer, puts-both, puts-none}

-- ---- names

pub and-first : (a b : Bool) → IsTrue (a && b) → IsTrue a
and-first true b h = refl
and-first false b h = absurd (let no : false ≡ true = h in cc)

pub and-second : (a b : Bool) → IsTrue (a && b) → IsTrue b
and-second true b h = h
and-second false b h = absurd (let no : false ≡ true = h in cc)

no-other : (name : List ℕ) → IsTrue (not (list_any (λ b. (b == 47) || (b == 0)) name)) → IsTrue (not (list_any (λ b. b == 47) name))
no-other [] h = refl
no-other (x ∷ xs) h = by (x == 47) (x == 0) (λ rest. no-other xs rest) h
  where
    by : (a b : Bool) → (IsTrue (not (list_any (λ b. (b == 47) || (b == 0)) xs)) → IsTrue (not (list_any (λ b. b == 47) xs))) → IsTrue (not ((a || b) || list_any (λ b. (b == 47) || (b == 0)) xs)) → IsTrue (not (a || list_any (λ b. b == 47) xs))
    by true b more h = absurd (let no : false ≡ true = h in cc)
    by false true more h = absurd (let no : false ≡ true = h in cc)
    by false false more h = more h

-- a good name is one that a member may have
pub name-member : (name : List ℕ) → IsTrue (is_name name) → IsTrue (is_member_name name)
name-member [] good = absurd (let no : false ≡ true = good in cc)
name-member (b ∷ bs) good =
    let whole = and-first _ _ good in
    let three = and-first _ _ whole in
    no-other (b ∷ bs) (and-second _ _ three)

never-less : (name : List ℕ) → names_cmp name name ≡ Less → ⊥
never-less name h = absurd (let e : Less ≡ Greater = sym h ∙ nat_list_cmp_total.antisymm name name ∙ ap ordering_reverse h in cc)

-- ---- ways

pub at_drop : {A : Type 0} (l : List A) (i : ℕ) (w : A) → i < length l → w ≡ get_or l i w → drop i l ≡ w ∷ drop (i + 1) l
at_drop l i w low is = drop_more l i w low ∙ ap (λ x. x ∷ drop (i + 1) l) (sym is)

pub past_drop : {A : Type 0} (l : List A) (i : ℕ) → length l ≤ i → drop i l ≡ []
past_drop [] zero p = refl
past_drop [] (suc i) p = refl
past_drop (x ∷ l) zero p = absurd (omega arith)
past_drop (x ∷ l) (suc i) p = past_drop l i (omega (arith, p))

-- a path at or below a member of a folder, whose name comes before those of these ways
abbrev pub IsEarlier : List ℕ → List (List ℕ × Cid) → List ℕ → Type 0
IsEarlier folder left q = (name : List ℕ) × IsTrue (is_member_name name) × IsTrue (below_all names_cmp name left) × IsBelow (front folder ++ name) q

earlier_in : (folder : List ℕ) (left : List (List ℕ × Cid)) (q : List ℕ) → IsEarlier folder left q → (rest : List ℕ) × (q ≡ front folder ++ rest) × (rest ≢ [])
earlier_in folder left q h = below-folder folder h.0 q (name-some h.0 h.1) h.3

earlier_less : (folder : List ℕ) (w : List ℕ × Cid) (left : List (List ℕ × Cid)) (q : List ℕ) → IsEarlier folder (w ∷ left) q → IsEarlier folder left q
earlier_less folder w left q h = (h.0, h.1, and-second _ _ h.2, h.3)

-- so far members of the folder were put, each with a name before those of the ways that are left
pub record Went (folder : List ℕ) (left : List (List ℕ × Cid)) (told now : HostTold) : Type 0 where
  pub sorted : IsTrue (is_sorted names_cmp left)
  pub changed : ChangesWhere (IsEarlier folder left) told now

pub went-none : (folder : List ℕ) (left : List (List ℕ × Cid)) (told : HostTold) → IsTrue (is_sorted names_cmp left) → Went folder left told told
went-none folder left told sorted = record { sorted = sorted; changed = record { places = []; where_put = tt; are_put = puts-none told } }

pub went-in : (folder : List ℕ) (left : List (List ℕ × Cid)) (told now : HostTold) → Went folder left told now → ChangesIn folder told now
went-in folder left told now h = changes-more (IsEarlier folder left) _ told now (earlier_in folder left) h.changed

-- the next member may be made
pub went-takes : (folder : List ℕ) (w : List ℕ × Cid) (left : List (List ℕ × Cid)) (told now : HostTold) → TakesMembers told folder → IsTrue (is_name w.0) → Went folder (w ∷ left) told now → TakesFolder now (front folder ++ w.0)
went-takes folder w left None now takes good h = subst (λ t. TakesFolder t (front folder ++ w.0)) (sym h.changed.are_put) tt
went-takes folder w left (Some tree) now takes good h =
    let member = name-member w.0 good in
    let stays = λ (q : List ℕ) (away : IsEarlier folder (w ∷ left) q → ⊥). other-stays (IsEarlier folder (w ∷ left)) h.changed.places tree q h.changed.where_put away in
    let there = stays folder (λ e. folder-above folder e.0 (name-some e.0 e.1) e.3) ∙ takes.there in
    let absent = stays (front folder ++ w.0) (λ e. sisters-apart folder e.0 w.0 e.1 member (λ same. absurd (never-less w.0 (less e.0 (and-first _ _ e.2) same))) e.3) ∙ takes.empty w.0 member in
    subst (λ t. TakesFolder t (front folder ++ w.0)) (sym h.changed.are_put) (inr (inr (record { folder = folder; name = w.0; is = refl; good = member; there = there })), absent)
  where
    is-less : (o : Ordering) → IsTrue (is_lt o) → o ≡ Less
    is-less Less h = refl
    is-less Equal h = absurd (let no : false ≡ true = h in cc)
    is-less Greater h = absurd (let no : false ≡ true = h in cc)

    less : (name : List ℕ) → IsTrue (is_lt (names_cmp name w.0)) → name ≡ w.0 → names_cmp w.0 w.0 ≡ Less
    less name lower same = is-less (names_cmp w.0 w.0) (subst (λ n. IsTrue (is_lt (names_cmp n w.0))) same lower)

-- a member was put, or a part of it
one_changed : (folder : List ℕ) (w : List ℕ × Cid) (left : List (List ℕ × Cid)) (told mid now : HostTold) → IsTrue (is_name w.0) → Went folder (w ∷ left) told mid → ChangesAt (front folder ++ w.0) mid now → ChangesWhere (IsEarlier folder left) told now
one_changed folder w left told mid now good h one =
    changes-both (IsEarlier folder left) told mid now
    (changes-more (IsEarlier folder (w ∷ left)) (IsEarlier folder left) told mid (earlier_less folder w left) h.changed)
    (changes-more (IsBelow (front folder ++ w.0)) (IsEarlier folder left) mid now (λ q below. (w.0, name-member w.0 good, and-first _ _ h.sorted, below)) one)

pub went-more : (folder : List ℕ) (w : List ℕ × Cid) (left : List (List ℕ × Cid)) (told mid now : HostTold) → IsTrue (is_name w.0) → Went folder (w ∷ left) told mid → ChangesAt (front folder ++ w.0) mid now → Went folder left told now
went-more folder w left told mid now good h one = record { sorted = and-second _ _ h.sorted; changed = one_changed folder w left told mid now good h one }

pub went-stopped : (folder : List ℕ) (w : List ℕ × Cid) (left : List (List ℕ × Cid)) (told mid now : HostTold) → IsTrue (is_name w.0) → Went folder (w ∷ left) told mid → ChangesAt (front folder ++ w.0) mid now → ChangesIn folder told now
went-stopped folder w left told mid now good h one = changes-more (IsEarlier folder left) _ told now (earlier_in folder left) (one_changed folder w left told mid now good h one)

-- ---- what the members are

module _ (held : Lookup) (limits : Limits) (room : ℕ) (folder : List ℕ) where
  -- of what the ways lead to, some was put, and this is left
  pub record PutSome (left : List (List ℕ × Cid)) (es : Entries) (told now : HostTold) : Type 0 where
    pub rest : Entries
    pub denoted : AreDenoted held limits room left rest
    pub done : List PutAt
    pub whole : done ++ places_in folder rest ≡ places_in folder es
    pub are_put : now ≡ host_changed (with_places done) told

  pub some-none : (left : List (List ℕ × Cid)) (es : Entries) (told : HostTold) → AreDenoted held limits room left es → PutSome left es told told
  some-none left es told denoted = record { rest = es; denoted = denoted; done = []; whole = refl; are_put = puts-none told }

  -- the tree that is put next
  pub record NextPut (w : List ℕ × Cid) (left : List (List ℕ × Cid)) (es : Entries) (told mid : HostTold) : Type 0 where
    pub tree : Tree
    pub denoted : denotes_within held limits room w.1 ≡ Ok tree
    pub more : Entries
    pub others : AreDenoted held limits room left more
    pub done : List PutAt
    pub whole : done ++ (places_of (front folder ++ w.0) tree ++ places_in folder more) ≡ places_in folder es
    pub are_put : mid ≡ host_changed (with_places done) told

  pub some-next : (w : List ℕ × Cid) (left : List (List ℕ × Cid)) (es : Entries) (told mid : HostTold) → PutSome (w ∷ left) es told mid → NextPut w left es told mid
  unfolding places_of
  some-next w left es told mid h = by h.rest h.denoted h.whole
    where
      by : (rest : Entries) → AreDenoted held limits room (w ∷ left) rest → h.done ++ places_in folder rest ≡ places_in folder es → NextPut w left es told mid
      by (Nothing m) denoted whole = absurd denoted
      by (With name t more) denoted whole = record {
        tree = t;
        denoted = denoted.1;
        more = more;
        others = denoted.2;
        done = h.done;
        whole = ap (λ (n : List ℕ). h.done ++ (places_of (front folder ++ n) t ++ places_in folder more)) (sym denoted.0) ∙ whole;
        are_put = h.are_put;
      }

  pub some-more : (w : List ℕ × Cid) (left : List (List ℕ × Cid)) (es : Entries) (told mid now : HostTold) → (n : NextPut w left es told mid) → Puts (places_of (front folder ++ w.0) n.tree) mid now (Ok tt) → PutSome left es told now
  some-more w left es told mid now n one = record {
    rest = n.more;
    denoted = n.others;
    done = n.done ++ places_of (front folder ++ w.0) n.tree;
    whole = append_assoc n.done (places_of (front folder ++ w.0) n.tree) (places_in folder n.more) ∙ n.whole;
    are_put = puts-both n.done (places_of (front folder ++ w.0) n.tree) told mid now n.are_put one;
  }

  pub some-stopped : (w : List ℕ × Cid) (left : List (List ℕ × Cid)) (es : Entries) (told mid now : HostTold) (why : HostFault) → (n : NextPut w left es told mid) → Puts (places_of (front folder ++ w.0) n.tree) mid now (Err why) → Puts (places_in folder es) told now (Err why)
  some-stopped w left es told mid now why n one = (
    one.0,
    subst (λ l. PutsFirst l told now) n.whole
        (part-behind n.done (places_of (front folder ++ w.0) n.tree ++ places_in folder n.more) told mid now n.are_put (part-longer (places_of (front folder ++ w.0) n.tree) (places_in folder n.more) mid now one.1)),
  )

  pub some-all : (es : Entries) (told now : HostTold) → PutSome [] es told now → Puts (places_in folder es) told now (Ok tt)
  unfolding places_of
  some-all es told now h = by h.rest h.denoted h.whole
    where
      by : (rest : Entries) → AreDenoted held limits room [] rest → h.done ++ places_in folder rest ≡ places_in folder es → now ≡ host_changed (with_places (places_in folder es)) told
      by (Nothing m) denoted whole = h.are_put ∙ ap (λ (l : List PutAt). host_changed (with_places l) told) (sym (append-nil h.done) ∙ whole)
      by (With name t more) denoted whole = absurd denoted

  pub some-kept : (left : List (List ℕ × Cid)) (es : Entries) (told now : HostTold) → PutSome left es told now → PutsFirst (places_in folder es) told now
  some-kept left es told now h =
      subst (λ l. PutsFirst l told now) h.whole (part-longer h.done (places_in folder h.rest) told now (record { part = h.done; first = first-all h.done; are_put = h.are_put }))
