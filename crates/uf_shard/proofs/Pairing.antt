-- Two names of one hash, of which one is put.
use Rattle.std.proofs.Common.{◌≡◌, ◌≢◌, ℕ, List, [], ◌∷◌, Bool, true, false, cond, refl, ap, arith, sym, ◌∙◌, Option, Some, None, Ordering, ◌⊎◌, inl, inr}
use Rattle.std.specs.Prelude.{◌==◌, ◌&&◌}
use Rattle.std.specs.Cmp.{tied_itself}
use Rattle.std.specs.declared.cmp.Ordering.TheVariants.{Less, Equal, Greater}
use Rattle.std.specs.FinMap.Entries.{below_all, by_order, find as value_of, is_sorted, put, where_key, find-where_key}
use Rattle.std.specs.List.{find}
use Rattle.std.specs.Ordering.{eq_by_cmp, is_lt, ordering_reverse}
use Rattle.std.proofs.lemmas.Bool.{false≢true}
use Rattle.std.proofs.lemmas.Bool.Decides.{nat_tests}
use Rattle.uf_tree.specs.declared.nodes.Entry.{Entry}
use Rattle.uf_tree.specs.Names.{names_cmp}
use Rattle.uf_tree.specs.Nodes.{Named}
use Rattle.uf_tree.specs.ShardPlan.{same_hash, twins}
use Rattle.uf_tree.proofs.ShardLaws.{names_exact, names_total, tied}
use Rattle.uf_tree.proofs.Twins.{Alone, Apart, Apart-twins, both_true, other_key, same_key}
use Rattle.uf_shard.specs.declared.fault.DirFault.{DirFault}
use Rattle.uf_shard.specs.declared.fault.DirFault.TheVariants.{Collision, TooBig, Store}
use Rattle.uf_shard.specs.Saving.{IsCollisionOr}
use Rattle.uf_shard.specs.Changed.{AreTwins, HasNoTwin, IsOrdered, IsOrderedOr}

tested : (a b : ℕ) → (a == b) ≡ true → a ≡ b
tested a b h = grind (arith, nat_tests)

less_of : (r : Ordering) → is_lt r ≡ true → r ≡ Less
less_of Less e = refl
less_of Equal e = cc
less_of Greater e = cc

not_lower : (a b : List ℕ) → names_cmp a b ≡ Less → a ≢ b
not_lower a b less same =
    let tie : names_cmp a b ≡ Equal = ap (names_cmp a) (sym same) ∙ tied_itself names_total a in
    absurd (let no : Less ≡ Equal = sym less ∙ tie in cc)

-- a name below all others is none of them
none_below : (name other : List ℕ) (e : Entry) (l : List Named) → below_all names_cmp name l ≡ true → value_of names_cmp other l ≡ Some e → names_cmp name other ≡ Less
none_below name other e [] h found = absurd (let no : None ≡ Some e = found in cc)
none_below name other e (x ∷ l) h found = by (eq_by_cmp names_cmp other x.0) refl found (λ (k : value_of names_cmp other l ≡ Some e). none_below name other e l (both_true _ _ h).1 k)
  where
    parts : (is_lt (names_cmp name x.0) ≡ true) × (below_all names_cmp name l ≡ true)
    parts = both_true _ _ h

    by : (b : Bool) → eq_by_cmp names_cmp other x.0 ≡ b → cond b (Some x.1) (value_of names_cmp other l) ≡ Some e → (value_of names_cmp other l ≡ Some e → names_cmp name other ≡ Less) → names_cmp name other ≡ Less
    by true t f later = ap (names_cmp name) (names_exact other x.0 (tied _ t)) ∙ less_of _ parts.0
    by false t f later = later f

trans_below : (a b : List ℕ) (l : List Named) → names_cmp a b ≡ Less → below_all names_cmp b l ≡ true → below_all names_cmp a l ≡ true
trans_below a b [] less h = refl
trans_below a b (x ∷ l) less h =
    let parts = both_true _ _ h in
    ap (λ (r : Bool). r && below_all names_cmp a l) (ap is_lt (names_total.trans a b x.0 less (less_of _ parts.0))) ∙ trans_below a b l less parts.1

module _ (N : List ℕ → ℕ) where
  -- ---- no twins

  below_alone : (name : List ℕ) (l : List Named) → below_all names_cmp name l ≡ true → HasNoTwin N name l → Alone (same_hash N) name l
  below_alone name [] h none = tt
  below_alone name (x ∷ l) h none =
      let parts = both_true _ _ h in
      (other_key (N name) (N x.0) (λ one. not_lower name x.0 (less_of _ parts.0) (sym (none.0 (sym one)))), below_alone name l parts.1 none.1)

  alone_put : (a name : List ℕ) (e : Entry) (l : List Named) → Alone (same_hash N) a l → same_hash N a name ≡ false → Alone (same_hash N) a (put names_cmp name e l)
  alone_put a name e [] alone h = (h, tt)
  alone_put a name e (x ∷ l) alone h = elim (names_cmp name x.0) as (λ (r : Ordering). Alone (same_hash N) a (by_order r ((name, e) ∷ x ∷ l) ((x.0, e) ∷ l) (x ∷ put names_cmp name e l))) [
    | Less ↦ (h, alone)
    | Equal ↦ alone
    | Greater ↦ (alone.0, alone_put a name e l alone.1 h)
  ]

  apart_put : (name : List ℕ) (e : Entry) (l : List Named) → is_sorted names_cmp l ≡ true → Apart (same_hash N) l → HasNoTwin N name l → Apart (same_hash N) (put names_cmp name e l)
  apart_put name e [] sorted apart none = (tt, tt)
  apart_put name e (x ∷ l) sorted apart none = by (names_cmp name x.0) refl (apart_put name e l (both_true _ _ sorted).1 apart.1 none.1)
    where
      parts : (below_all names_cmp x.0 l ≡ true) × (is_sorted names_cmp l ≡ true)
      parts = both_true _ _ sorted

      by : (r : Ordering) → names_cmp name x.0 ≡ r → Apart (same_hash N) (put names_cmp name e l) → Apart (same_hash N) (by_order r ((name, e) ∷ x ∷ l) ((x.0, e) ∷ l) (x ∷ put names_cmp name e l))
      by Less is later = (below_alone name (x ∷ l) (ap (λ (r : Bool). r && below_all names_cmp name l) (ap is_lt is) ∙ trans_below name x.0 l is parts.0) none, apart)
      by Equal is later = apart
      by Greater is later = (
        alone_put x.0 name e l apart.0 (other_key (N x.0) (N name) (λ one. absurd (let no : Greater ≡ Equal = sym is ∙ ap (λ (n : List ℕ). names_cmp name n) (none.0 one) ∙ tied_itself names_total name in cc))),
        later,
      )

  -- a directory without twins has none after a name is put that has no twin
  pub no_twins : (name : List ℕ) (e : Entry) (l : List Named) → is_sorted names_cmp l ≡ true → Apart (same_hash N) l → HasNoTwin N name l → twins (same_hash N) (put names_cmp name e l) ≡ None
  no_twins name e l sorted apart none = Apart-twins (same_hash N) (put names_cmp name e l) (apart_put name e l sorted apart none)

  -- ---- twins

  not_alone : (a other : List ℕ) (e : Entry) (l : List Named) → Alone (same_hash N) a l → value_of names_cmp other l ≡ Some e → N a ≢ N other
  not_alone a other e [] alone found one = absurd (let no : None ≡ Some e = found in cc)
  not_alone a other e (x ∷ l) alone found one = by (eq_by_cmp names_cmp other x.0) refl found (λ (k : value_of names_cmp other l ≡ Some e). not_alone a other e l alone.1 k one)
    where
      by : (b : Bool) → eq_by_cmp names_cmp other x.0 ≡ b → cond b (Some x.1) (value_of names_cmp other l) ≡ Some e → (value_of names_cmp other l ≡ Some e → ⊥) → ⊥
      by true t f later = false≢true (sym alone.0 ∙ same_key (N a) (N x.0) (one ∙ ap N (names_exact other x.0 (tied _ t))))
      by false t f later = later f

  -- the first pair whose name has a hash that one name has
  first_is : (a other : List ℕ) (e : Entry) (l : List Named) → Apart (same_hash N) l → value_of names_cmp other l ≡ Some e → N a ≡ N other → (f : Named) × (find (λ (f : Named). same_hash N a f.0) l ≡ Some f) × (f.0 ≡ other)
  first_is a other e [] apart found one = absurd (let no : None ≡ Some e = found in cc)
  first_is a other e (x ∷ l) apart found one = by (eq_by_cmp names_cmp other x.0) refl found (λ (k : value_of names_cmp other l ≡ Some e). first_is a other e l apart.1 k one)
    where
      by : (b : Bool) → eq_by_cmp names_cmp other x.0 ≡ b → cond b (Some x.1) (value_of names_cmp other l) ≡ Some e
          → (value_of names_cmp other l ≡ Some e → (f : Named) × (find (λ (f : Named). same_hash N a f.0) l ≡ Some f) × (f.0 ≡ other))
          → (f : Named) × (cond (same_hash N a x.0) (Some x) (find (λ (f : Named). same_hash N a f.0) l) ≡ Some f) × (f.0 ≡ other)
      by true t g later =
          let is : other ≡ x.0 = names_exact other x.0 (tied _ t) in
          (x, ap (λ (b : Bool). cond b (Some x) (find (λ (f : Named). same_hash N a f.0) l)) (same_key (N a) (N x.0) (one ∙ ap N is)), sym is)
      by false t g later =
          let rest = later g in
          let off : same_hash N a x.0 ≡ false = other_key (N a) (N x.0) (λ here. not_alone x.0 other e l apart.0 g (sym here ∙ one)) in
          (rest.0, ap (λ (b : Bool). cond b (Some x) (find (λ (f : Named). same_hash N a f.0) l)) off ∙ rest.1, rest.2)

  first_put : (a name : List ℕ) (e : Entry) (l : List Named) → Alone (same_hash N) a l → N a ≡ N name → find (λ (f : Named). same_hash N a f.0) (put names_cmp name e l) ≡ Some (name, e)
  first_put a name e [] alone one = ap (λ (b : Bool). cond b (Some (name, e)) None) (same_key (N a) (N name) one)
  first_put a name e (x ∷ l) alone one = by (names_cmp name x.0) refl (first_put a name e l alone.1 one)
    where
      by : (r : Ordering) → names_cmp name x.0 ≡ r → find (λ (f : Named). same_hash N a f.0) (put names_cmp name e l) ≡ Some (name, e) → find (λ (f : Named). same_hash N a f.0) (by_order r ((name, e) ∷ x ∷ l) ((x.0, e) ∷ l) (x ∷ put names_cmp name e l)) ≡ Some (name, e)
      by Less is later = ap (λ (b : Bool). cond b (Some (name, e)) (find (λ (f : Named). same_hash N a f.0) (x ∷ l))) (same_key (N a) (N name) one)
      by Equal is later = absurd (false≢true (sym alone.0 ∙ same_key (N a) (N x.0) (one ∙ ap N (names_exact name x.0 is))))
      by Greater is later = ap (λ (b : Bool). cond b (Some x) (find (λ (f : Named). same_hash N a f.0) (put names_cmp name e l))) alone.0 ∙ later

  alone_none : (a : List ℕ) (l : List Named) → Alone (same_hash N) a l → find (λ (f : Named). same_hash N a f.0) l ≡ None
  alone_none a [] h = refl
  alone_none a (x ∷ l) h = ap (λ (b : Bool). cond b (Some x) (find (λ (f : Named). same_hash N a f.0) l)) h.0 ∙ alone_none a l h.1

  abbrev twins_of : Named → Option Named → Option (List ℕ × List ℕ) → Option (List ℕ × List ℕ)
  twins_of x found behind = elim found [ None ↦ behind | Some f ↦ Some (x.0, f.0) ]

  -- the two names in byte order
  abbrev ordered : Ordering → List ℕ → List ℕ → List ℕ × List ℕ
  ordered Less name other = (name, other)
  ordered Equal name other = (other, name)
  ordered Greater name other = (other, name)

  twins_put : (name other : List ℕ) (e old : Entry) (l : List Named) → is_sorted names_cmp l ≡ true → Apart (same_hash N) l → value_of names_cmp other l ≡ Some old → N other ≡ N name → other ≢ name
      → twins (same_hash N) (put names_cmp name e l) ≡ Some (ordered (names_cmp name other) name other)
  unfolding twins
  twins_put name other e old [] sorted apart found one differ = absurd (let no : None ≡ Some old = found in cc)
  twins_put name other e old (x ∷ l) sorted apart found one differ =
      by (names_cmp name x.0) refl (λ (k : value_of names_cmp other l ≡ Some old). twins_put name other e old l (both_true _ _ sorted).1 apart.1 k one differ)
    where
      parts : (below_all names_cmp x.0 l ≡ true) × (is_sorted names_cmp l ≡ true)
      parts = both_true _ _ sorted

      greater : (value_of names_cmp other l ≡ Some old → twins (same_hash N) (put names_cmp name e l) ≡ Some (ordered (names_cmp name other) name other)) → names_cmp name x.0 ≡ Greater → (b : Bool) → eq_by_cmp names_cmp other x.0 ≡ b → cond b (Some x.1) (value_of names_cmp other l) ≡ Some old
          → twins (same_hash N) (x ∷ put names_cmp name e l) ≡ Some (ordered (names_cmp name other) name other)
      greater later is true t f =
          let here : other ≡ x.0 = names_exact other x.0 (tied _ t) in
          ap (λ (o : Option Named). twins_of x o (twins (same_hash N) (put names_cmp name e l))) (first_put x.0 name e l apart.0 (ap N (sym here) ∙ one))
          ∙ ap (λ (n : List ℕ). Some (n, name)) (sym here)
          ∙ ap (λ (r : Ordering). Some (ordered r name other)) (sym (ap (names_cmp name) here ∙ is))
      greater later is false t f =
          let off : same_hash N x.0 name ≡ false = other_key (N x.0) (N name) (λ here. not_alone x.0 other old l apart.0 f (here ∙ sym one)) in
          ap (λ (o : Option Named). twins_of x o (twins (same_hash N) (put names_cmp name e l))) (alone_none x.0 (put names_cmp name e l) (alone_put x.0 name e l apart.0 off))
          ∙ later f

      gone : names_cmp name x.0 ≡ Equal → (b : Bool) → eq_by_cmp names_cmp other x.0 ≡ b → cond b (Some x.1) (value_of names_cmp other l) ≡ Some old → ⊥
      gone is true t f = differ (names_exact other x.0 (tied _ t) ∙ sym (names_exact name x.0 is))
      gone is false t f = not_alone x.0 other old l apart.0 f (ap N (sym (names_exact name x.0 is)) ∙ sym one)

      first : names_cmp name x.0 ≡ Less → (f : Named) × (find (λ (f : Named). same_hash N name f.0) (x ∷ l) ≡ Some f) × (f.0 ≡ other)
          → twins (same_hash N) ((name, e) ∷ x ∷ l) ≡ Some (ordered (names_cmp name other) name other)
      first is f =
          let lowest : below_all names_cmp name (x ∷ l) ≡ true = ap (λ (r : Bool). r && below_all names_cmp name l) (ap is_lt is) ∙ trans_below name x.0 l is parts.0 in
          ap (λ (o : Option Named). twins_of (name, e) o (twins (same_hash N) (x ∷ l))) f.1 ∙ ap (λ (n : List ℕ). Some (name, n)) f.2
          ∙ ap (λ (r : Ordering). Some (ordered r name other)) (sym (none_below name other old (x ∷ l) lowest found))

      by : (r : Ordering) → names_cmp name x.0 ≡ r → (value_of names_cmp other l ≡ Some old → twins (same_hash N) (put names_cmp name e l) ≡ Some (ordered (names_cmp name other) name other)) → twins (same_hash N) (by_order r ((name, e) ∷ x ∷ l) ((x.0, e) ∷ l) (x ∷ put names_cmp name e l)) ≡ Some (ordered (names_cmp name other) name other)
      by Less is later = first is (first_is name other old (x ∷ l) apart found (sym one))
      by Equal is later = absurd (gone is (eq_by_cmp names_cmp other x.0) refl found)
      by Greater is later = greater later is (eq_by_cmp names_cmp other x.0) refl found

  in_order : (name other first second : List ℕ) → IsOrdered name other first second → ordered (names_cmp name other) name other ≡ (first, second)
  in_order name other first second h = by h.are
    where
      by : ((first ≡ name) × (second ≡ other)) ⊎ ((first ≡ other) × (second ≡ name)) → ordered (names_cmp name other) name other ≡ (first, second)
      by (inl is) =
          let order : names_cmp name other ≡ Less = ap (λ (n : List ℕ). names_cmp n other) (sym is.0) ∙ ap (names_cmp first) (sym is.1) ∙ less_of _ h.in_order in
          ap (λ (r : Ordering). ordered r name other) order ∙ (λ i. (sym is.0 i, sym is.1 i))
      by (inr is) =
          let order : names_cmp other name ≡ Less = ap (λ (n : List ℕ). names_cmp n name) (sym is.0) ∙ ap (names_cmp first) (sym is.1) ∙ less_of _ h.in_order in
          ap (λ (r : Ordering). ordered r name other) (names_total.antisymm name other ∙ ap ordering_reverse order) ∙ (λ i. (sym is.0 i, sym is.1 i))

  -- a directory without twins has two after a name is put that has a twin
  pub two_twins : (name : List ℕ) (e : Entry) (l : List Named) (first second : List ℕ) → is_sorted names_cmp l ≡ true → Apart (same_hash N) l → AreTwins N name l first second → twins (same_hash N) (put names_cmp name e l) ≡ Some (first, second)
  two_twins name e l first second sorted apart h =
      twins_put name h.other e h.entry l sorted apart h.is_there h.one_hash h.differ ∙ ap (λ (p : List ℕ × List ℕ). Some p) (in_order name h.other first second h.are)

  -- a name of a part of the list is one of the list
  pub twins_whole : (test : List ℕ → Bool) (name : List ℕ) (l : List Named) (first second : List ℕ) → AreTwins N name (where_key names_cmp test l) first second → AreTwins N name l first second
  twins_whole test name l first second h = record {
    other = h.other;
    entry = h.entry;
    is_there = by (test h.other) (sym (find-where_key names_cmp test h.other (λ x t. ap test (sym (names_exact h.other x t))) l) ∙ h.is_there);
    one_hash = h.one_hash;
    differ = h.differ;
    are = h.are;
  }
    where
      by : (b : Bool) → cond b (value_of names_cmp h.other l) None ≡ Some h.entry → value_of names_cmp h.other l ≡ Some h.entry
      by true e = e
      by false e = absurd (let no : None ≡ Some h.entry = e in cc)

  pub none_whole : (test : List ℕ → Bool) (name : List ℕ) → ((other : List ℕ) → N other ≡ N name → test other ≡ true) → (l : List Named) → HasNoTwin N name (where_key names_cmp test l) → HasNoTwin N name l
  none_whole test name kept [] h = tt
  none_whole test name kept (x ∷ l) h = by (test x.0) refl h (λ k. none_whole test name kept l k)
    where
      by : (b : Bool) → test x.0 ≡ b → HasNoTwin N name (cond b (x ∷ where_key names_cmp test l) (where_key names_cmp test l)) → (HasNoTwin N name (where_key names_cmp test l) → HasNoTwin N name l) → HasNoTwin N name (x ∷ l)
      by true t k rest = (k.0, rest k.1)
      by false t k rest = (λ one. absurd (false≢true (sym t ∙ kept x.0 one)), rest k)

-- a name above another is behind it
ordered-greater : (name other : List ℕ) → names_cmp name other ≡ Greater → is_lt (names_cmp other name) ≡ true
ordered-greater name other is = ap is_lt (names_total.antisymm other name ∙ ap ordering_reverse is)

-- two names that are shown with the second first
pub shown-ordered : (name other : List ℕ) (fault : DirFault) → names_cmp name other ≡ Greater → IsCollisionOr (other, name) fault → IsOrderedOr name other fault
shown-ordered name other (Collision first second) is h = record {
  in_order = ap is_lt (ap (λ (n : List ℕ). names_cmp n second) h.0 ∙ ap (names_cmp other) h.1) ∙ ordered-greater name other is;
  are = inr (h.0, h.1);
}
shown-ordered name other TooBig is h = absurd h
shown-ordered name other (Store fault) is h = h
