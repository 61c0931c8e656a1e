-- A directory's own plan is read as its names, each with its CID.
use Rattle.std.proofs.Common.{◌≡◌, ℕ, zero, suc, ◌+◌, ◌-◌, ◌/◌, ◌%◌, ◌<◌, ◌≤◌, List, [], ◌∷◌, ◌++◌, length, map, refl, ap, arith, sym, subst, ◌∙◌, ◌⊎◌, inl, inr, T, Bool, true, false, cond, Option, None, Some, Ok, Err, Ordering, Less, Equal, Greater, is_eq, is_lt}
use Rattle.std.specs.Prelude.{IsTrue, ◌==◌, ◌&&◌, is_some, if◌then◌else◌}
use Rattle.std.specs.List.{AllByRecursion, cons_option}
use Rattle.std.specs.Option.{option_map, option_or}
use Rattle.std.specs.Ordering.{eq_by_cmp}
use Rattle.std.specs.Cmp.{tied_itself}
use Rattle.std.specs.FinMap.Entries.{below_all, find, find-put, find-where_key, is_sorted, is_sorted-put, is_sorted-where_key, put, same_entries}
use Rattle.std.proofs.lemmas.Bool.Decides.{nat_tests}
use Rattle.uf_varint.specs.Fields.{◌>>=◌}
use Rattle.uf_cid.specs.Blocks.{Held, Lookup, Holds}
use Rattle.uf_cid.specs.Cid.{cid_of}
use Rattle.uf_cid.specs.declared.cid.Cid.{Cid}
use Rattle.uf_cid.specs.declared.cid.Codec.TheVariants.{DagPb}
use Rattle.uf_dagpb.specs.declared.node.Link.{Link}
use Rattle.uf_murmur.specs.Slots.{slot}
use Rattle.uf_tree.specs.declared.meta.Meta.{Meta}
use Rattle.uf_tree.specs.declared.nodes.Entry.{Entry}
use Rattle.uf_tree.specs.FilePlan.{Plan}
use Rattle.uf_tree.specs.Metas.{is_meta, none}
use Rattle.uf_tree.specs.Names.{is_name, names_cmp}
use Rattle.uf_tree.specs.Nodes.{InSlot, Named, hex_digit, link_of, shard_block, slot_digits, slot_link}
use Rattle.uf_tree.specs.Shardable.{HasShard}
use Rattle.uf_tree.specs.ShardPlan.{bucket, no_shard, shard, shard_items, slot_blocks, slot_item, tabulate}
use Rattle.uf_tree.specs.Validity.{IsHash, IsEntry, IsNamed, IsShard}
use Rattle.uf_tree.proofs.Each.{at_flat_tabulate, each_filter}
use Rattle.uf_tree.proofs.MetaNumbers.{none-is_meta}
use Rattle.uf_tree.proofs.ShardLaws.{eqb_same, names_exact, names_total, slot-bound, tied}
use Rattle.uf_tree.proofs.Shards.{digit_bounds}
use Rattle.uf_tree.proofs.Sizes.{name_length}
use Rattle.uf_tree.proofs.TreeLaws.{find-map}
use Rattle.uf_tree.proofs.Valid.{node_entry-valid, shard-valid, shard_items-valid, sorted-map}
use Rattle.uf_lenient.specs.declared.fault.DagFault.TheVariants.{BadName, DuplicateName}
use Rattle.uf_lenient.specs.declared.found.Found.{Found}
use Rattle.uf_lenient.specs.declared.unixfs.Unixfs.TheVariants.{Shard}
use Rattle.uf_lenient.specs.Reading.{◌>>◌, Visits, Ways, behind_slot, is_digit, leads, meet, meet_all, meet_name, shard_ways, unvisited, sub_ways, visit_of}
use Rattle.uf_lenient.specs.Unixfs.{as_shard, unixfs_of}
use Rattle.uf_lenient.specs.Within.{IsLimit}
use Rattle.uf_lenient.proofs.Frames.{slot-deeper, slot-entry}
use Rattle.uf_lenient.proofs.Rereading.{shard-reread}
use Rattle.uf_lenient.proofs.Within.{gives-on, visit-gives}

both_T : (a b : Bool) → T (a && b) → T a × T b
both_T true b h = (tt, h)
both_T false b h = absurd h

digit_low : (b : ℕ) → 48 ≤ b → b ≤ 57 → is_digit b ≡ true
digit_low b h j = grind (arith, nat_tests)

digit_high : (b : ℕ) → 65 ≤ b → b ≤ 70 → is_digit b ≡ true
digit_high b h j = grind (arith, nat_tests)

-- the CID under a name, of a directory's pairs and of ways that were met
abbrev pub wanted : List Named → List ℕ → Option Cid
wanted l q = option_map (λ (e : Entry). e.cid) (find names_cmp q l)

abbrev pub met_at : Ways → List ℕ → Option Cid
met_at met q = option_map (λ (f : Found). f.cid) (find names_cmp q met)

abbrev pub cids : List Named → List (List ℕ × Cid)
cids l = map (λ (e : Named). (e.0, e.1.cid)) l

-- ways were added: under each name what is wanted, else what was met before
pub record Added (w : List ℕ → Option Cid) (met now : Ways) : Type 0 where
  pub sorted : T (is_sorted names_cmp now)
  pub found : (q : List ℕ) → met_at now q ≡ option_or (w q) (met_at met q)

abbrev pub Adds : (List ℕ → Option Cid) → Ways → Visits Ways → Type 0
Adds w met (Ok x) = Added w met x.0
Adds w met (Err e) = IsLimit e

-- no name of the pairs was met
abbrev pub Fresh : List Named → Ways → Type 0
Fresh l met = (q : List ℕ) → is_some (find names_cmp q l) ≡ true → find names_cmp q met ≡ None

or_or : (a b c : Option Cid) → option_or a (option_or b c) ≡ option_or (option_or a b) c
or_or None b c = refl
or_or (Some x) b c = refl

or_none : (a : Option Cid) → option_or a None ≡ a
or_none None = refl
or_none (Some x) = refl

added_none : (met : Ways) → T (is_sorted names_cmp met) → Added (λ q. None) met met
added_none met sorted = record { sorted = sorted; found = λ q. refl }

added_more : (w v : List ℕ → Option Cid) (met mid now : Ways) → Added w met mid → Added v mid now → Added (λ q. option_or (v q) (w q)) met now
added_more w v met mid now h k = record { sorted = k.sorted; found = λ q. k.found q ∙ ap (option_or (v q)) (h.found q) ∙ or_or (v q) (w q) (met_at met q) }

added_same : (w v : List ℕ → Option Cid) (met now : Ways) → ((q : List ℕ) → w q ≡ v q) → Added w met now → Added v met now
added_same w v met now same h = record { sorted = h.sorted; found = λ q. h.found q ∙ ap (λ o. option_or o (met_at met q)) (same q) }

adds_same : (w v : List ℕ → Option Cid) (met : Ways) (r : Visits Ways) → ((q : List ℕ) → w q ≡ v q) → Adds w met r → Adds v met r
adds_same w v met (Ok x) same h = added_same w v met x.0 same h
adds_same w v met (Err e) same h = h

adds_after : (w v : List ℕ → Option Cid) (met mid : Ways) (r : Visits Ways) → Added w met mid → Adds v mid r → Adds (λ q. option_or (v q) (w q)) met r
adds_after w v met mid (Ok x) h k = added_more w v met mid x.0 h k
adds_after w v met mid (Err e) h k = k

adds_then : (w v : List ℕ → Option Cid) (met : Ways) (r : Visits Ways) (f : Ways → ℕ → Visits Ways) → Adds w met r → ((mid : Ways) (n : ℕ) → Added w met mid → Adds v mid (f mid n)) → Adds (λ q. option_or (v q) (w q)) met (r >> f)
adds_then w v met (Ok x) f h next = adds_after w v met x.0 (f x.0 x.1) h (next x.0 x.1 h)
adds_then w v met (Err e) f h next = h

-- ---- one name

is_none : (o : Option Found) → option_map (λ (f : Found). f.cid) o ≡ None → o ≡ None
is_none None e = refl
is_none (Some f) e = absurd cc

pub record OneMet (by : Cid) (left : ℕ) (name : List ℕ) (c : Cid) (met : Ways) : Type 0 where
  pub now : Ways
  pub is : meet by left name c met ≡ Ok now
  pub added : Added (λ q. cond (eq_by_cmp names_cmp q name) (Some c) None) met now

meets_one : (by : Cid) (left : ℕ) (name : List ℕ) (c : Cid) (met : Ways) → IsTrue (is_name name) → find names_cmp name met ≡ None → T (is_sorted names_cmp met) → OneMet by left name c met
meets_one by left name c met good fresh sorted =
    let f : Found = record { cid = c; left = left } in
    record {
      now = put names_cmp name f met;
      is = ap (λ (b : Bool). if b then meet_name by name f met else Err (BadName by)) good
          ∙ ap (λ (o : Option Found). if is_some o then Err (DuplicateName by name) else Ok (put names_cmp name f met)) fresh;
      added = record {
        sorted = is_sorted-put names_cmp names_total name f met sorted;
        found = λ q. ap (option_map (λ (x : Found). x.cid)) (find-put names_cmp names_total q name f met) ∙ one f (eq_by_cmp names_cmp q name) (find names_cmp q met);
      };
    }
  where
    one : (f : Found) (b : Bool) (o : Option Found) → option_map (λ (x : Found). x.cid) (cond b (Some f) o) ≡ option_or (cond b (Some f.cid) None) (option_map (λ (x : Found). x.cid) o)
    one f true o = refl
    one f false o = refl

-- ---- a directory in one block

lesser : (o : Ordering) → T (is_lt o) → o ≡ Equal → ⊥
lesser Less h e = absurd cc
lesser Equal h e = h
lesser Greater h e = h

below_none : (x : List ℕ) (l : List Named) → T (below_all names_cmp x l) → find names_cmp x l ≡ None
below_none x [] h = refl
below_none x (e ∷ l) h =
    let parts = both_T (is_lt (names_cmp x e.0)) (below_all names_cmp x l) h in
    by (eq_by_cmp names_cmp x e.0) refl parts.0 (below_none x l parts.1)
  where
    by : (b : Bool) → eq_by_cmp names_cmp x e.0 ≡ b → T (is_lt (names_cmp x e.0)) → find names_cmp x l ≡ None → cond (eq_by_cmp names_cmp x e.0) (Some e.1) (find names_cmp x l) ≡ None
    by true same low gone = absurd (lesser (names_cmp x e.0) low (tied (names_cmp x e.0) same))
    by false other low gone = ap (λ b. cond b (Some e.1) (find names_cmp x l)) other ∙ gone

-- the first of a directory's pairs and the others
head_wanted : (e : Named) (l : List Named) (q : List ℕ) → T (below_all names_cmp e.0 l) → option_or (wanted l q) (cond (eq_by_cmp names_cmp q e.0) (Some e.1.cid) None) ≡ wanted (e ∷ l) q
head_wanted e l q below = by (eq_by_cmp names_cmp q e.0) refl
  where
    by : (b : Bool) → eq_by_cmp names_cmp q e.0 ≡ b → option_or (wanted l q) (cond b (Some e.1.cid) None) ≡ option_map (λ (x : Entry). x.cid) (cond b (Some e.1) (find names_cmp q l))
    by true same = ap (λ (o : Option Entry). option_or (option_map (λ (x : Entry). x.cid) o) (Some e.1.cid)) (ap (λ n. find names_cmp n l) (names_exact q e.0 (tied (names_cmp q e.0) same)) ∙ below_none e.0 l below)
    by false other = or_none (wanted l q)

-- a name that was met is no other name that is still to be met
still_fresh : (l : List Named) (name : List ℕ) (c : Cid) (met now : Ways) → find names_cmp name l ≡ None → Fresh l met → Added (λ q. cond (eq_by_cmp names_cmp q name) (Some c) None) met now → Fresh l now
still_fresh l name c met now gone fresh h q some = is_none (find names_cmp q now) (h.found q ∙ by (eq_by_cmp names_cmp q name) refl)
  where
    by : (b : Bool) → eq_by_cmp names_cmp q name ≡ b → option_or (cond b (Some c) None) (met_at met q) ≡ None
    by true same = absurd (no (sym (ap is_some (ap (λ n. find names_cmp n l) (names_exact q name (tied (names_cmp q name) same)) ∙ gone)) ∙ some))
      where
        no : false ≡ true → ⊥
        no e = cc
    by false other = ap (option_map (λ (f : Found). f.cid)) (fresh q some)

first_fresh : (e : Named) (l : List Named) (met : Ways) → Fresh (e ∷ l) met → find names_cmp e.0 met ≡ None
first_fresh e l met fresh = fresh e.0 (ap (λ b. is_some (cond b (Some e.1) (find names_cmp e.0 l))) (own e.0))
  where
    own : (x : List ℕ) → eq_by_cmp names_cmp x x ≡ true
    own x = ap is_eq (tied_itself names_total x)

rest_fresh : (e : Named) (l : List Named) (met : Ways) → Fresh (e ∷ l) met → Fresh l met
rest_fresh e l met fresh q some = fresh q (by (eq_by_cmp names_cmp q e.0))
  where
    by : (b : Bool) → is_some (cond b (Some e.1) (find names_cmp q l)) ≡ true
    by true = refl
    by false = some

pub record BlockMet (by : Cid) (left : ℕ) (l : List Named) (met : Ways) : Type 0 where
  pub now : Ways
  pub is : meet_all by left (map (λ (e : Named). link_of e.0 e.1) l) met ≡ Ok now
  pub added : Added (wanted l) met now

pub block-met : (by : Cid) (left : ℕ) (l : List Named) (met : Ways) → T (is_sorted names_cmp l) → AllByRecursion IsNamed l → Fresh l met → T (is_sorted names_cmp met) → BlockMet by left l met
block-met by left [] met rises named fresh sorted = record { now = met; is = refl; added = added_none met sorted }
block-met by left (e ∷ l) met rises named fresh sorted =
    let parts = both_T (below_all names_cmp e.0 l) (is_sorted names_cmp l) rises in
    let one = meets_one by left e.0 e.1.cid met named.0.name (first_fresh e l met fresh) sorted in
    let rest = block-met by left l one.now parts.1 named.1 (still_fresh l e.0 e.1.cid met one.now (below_none e.0 l parts.0) (rest_fresh e l met fresh) one.added) one.added.sorted in
    record {
      now = rest.now;
      is = ap (λ r. r >>= λ more. meet_all by left (map (λ (e : Named). link_of e.0 e.1) l) more) one.is ∙ rest.is;
      added = added_same _ (wanted (e ∷ l)) met rest.now (λ q. head_wanted e l q parts.0) (added_more _ (wanted l) met one.now rest.now one.added rest.added);
    }

-- what was added to nothing are the pairs
pub all-met : (l : List Named) (now : Ways) → T (is_sorted names_cmp l) → Added (wanted l) [] now → leads now ≡ cids l
all-met l now sorted h =
    same_entries names_cmp names_total names_exact (leads now) (cids l)
    (subst T (sym (sorted-map names_cmp (λ (f : Found). f.cid) now)) h.sorted) (subst T (sym (sorted-map names_cmp (λ (e : Entry). e.cid) l)) sorted)
    (λ q. find-map names_cmp (λ (f : Found). f.cid) q now ∙ h.found q ∙ or_none (wanted l q) ∙ sym (find-map names_cmp (λ (e : Entry). e.cid) q l))

-- ---- the slots of a shard

digit_is : (n : ℕ) → n < 16 → is_digit (hex_digit n) ≡ true
digit_is n h = by (digit_bounds n h)
  where
    by : ((48 ≤ hex_digit n) × (hex_digit n ≤ 57) × (hex_digit n ≡ 48 + n)) ⊎ ((65 ≤ hex_digit n) × (hex_digit n ≤ 70) × (hex_digit n ≡ 55 + n)) → is_digit (hex_digit n) ≡ true
    by (inl x) = digit_low (hex_digit n) x.0 x.1
    by (inr x) = digit_high (hex_digit n) x.0 x.1

behind_digits : (s : ℕ) (name : List ℕ) → s < 256 → behind_slot (slot_digits s ++ name) ≡ Some name
behind_digits s name h =
    ap (λ b. if b && is_digit (hex_digit (s % 16)) then Some name else None) (digit_is (s / 16) (omega arith))
    ∙ ap (λ b. if b then Some name else None) (digit_is (s % 16) (omega arith))

module _ (N : List ℕ → ℕ) (k : ℕ) (l : List Named) where
  -- what the slots from one on have under a name
  pub slots_wanted : ℕ → ℕ → List ℕ → Option Cid
  slots_wanted zero a q = None
  slots_wanted (suc n) a q = option_or (slots_wanted n (suc a) q) (wanted (bucket N k a l) q)

  in_slot : (s : ℕ) (q : List ℕ) → find names_cmp q (bucket N k s l) ≡ cond (slot (N q) k == s) (find names_cmp q l) None
  in_slot s q = find-where_key names_cmp (λ name. slot (N name) k == s) q (λ x e. ap (λ name. slot (N name) k == s) (sym (names_exact q x e))) l

  eqb_is : (x y : ℕ) → (x == y) ≡ true → x ≡ y
  eqb_is x y e = grind (arith, nat_tests)

  not_in_slot : (s : ℕ) (q : List ℕ) → (slot (N q) k ≡ s → ⊥) → find names_cmp q (bucket N k s l) ≡ None
  not_in_slot s q other = in_slot s q ∙ by (slot (N q) k == s) refl
    where
      by : (b : Bool) → (slot (N q) k == s) ≡ b → cond b (find names_cmp q l) None ≡ None
      by true e = absurd (other (eqb_is (slot (N q) k) s e))
      by false e = refl

  outside : (n a : ℕ) (q : List ℕ) → slot (N q) k < a → slots_wanted n a q ≡ None
  unfolding slots_wanted
  outside zero a q h = refl
  outside (suc n) a q h =
      ap (λ o. option_or o (wanted (bucket N k a l) q)) (outside n (suc a) q (omega arith)) ∙ ap (option_map (λ (e : Entry). e.cid)) (not_in_slot a q (λ e. omega arith))

  inside : (n a : ℕ) (q : List ℕ) → a ≤ slot (N q) k → slot (N q) k < a + n → slots_wanted n a q ≡ wanted l q
  unfolding slots_wanted
  inside zero a q h j = absurd (omega arith)
  inside (suc n) a q h j = by (slot (N q) k == a) refl (λ low high. inside n (suc a) q low high)
    where
      by : (b : Bool) → (slot (N q) k == a) ≡ b → (suc a ≤ slot (N q) k → slot (N q) k < suc a + n → slots_wanted n (suc a) q ≡ wanted l q) → option_or (slots_wanted n (suc a) q) (wanted (bucket N k a l) q) ≡ wanted l q
      by true e rest =
          let same : slot (N q) k ≡ a = eqb_is (slot (N q) k) a e in
          ap (λ o. option_or o (wanted (bucket N k a l) q)) (outside n (suc a) q (omega arith)) ∙ ap (option_map (λ (x : Entry). x.cid)) (in_slot a q ∙ ap (λ b. cond b (find names_cmp q l) None) e)
      by false e rest =
          let other : (slot (N q) k ≡ a → ⊥) = λ is. no (sym e ∙ ap (λ x. x == a) is ∙ eqb_same a) in
          ap (λ o. option_or (slots_wanted n (suc a) q) (option_map (λ (x : Entry). x.cid) o)) (not_in_slot a q other) ∙ or_none (slots_wanted n (suc a) q) ∙ rest (more other) (omega arith)
        where
          no : false ≡ true → ⊥
          no e = cc

          more : (slot (N q) k ≡ a → ⊥) → suc a ≤ slot (N q) k
          more other = omega (arith, other, h)

module _ (N : List ℕ → ℕ) (held : Lookup) (k : ℕ) (l : List Named) (deeper : List Named → Plan) (parent : Cid) (left : ℕ) (named : AllByRecursion IsNamed l) where
  abbrev slots_at : ℕ → List Named
  slots_at s = bucket N k s l

  -- each shard below adds the names of its slot
  abbrev Deep : Type 0
  Deep = (s : ℕ) → s < 256 → 2 ≤ length (slots_at s) → (met : Ways) (n : ℕ) → T (is_sorted names_cmp met) → Fresh (slots_at s) met → Adds (wanted (slots_at s)) met (sub_ways held left (deeper (slots_at s)).entry.cid met n)

  -- no name of the slots from one on was met
  abbrev FreshFrom : ℕ → Ways → Type 0
  FreshFrom a met = (q : List ℕ) → is_some (find names_cmp q l) ≡ true → a ≤ slot (N q) k → find names_cmp q met ≡ None

  slot_fresh : (a : ℕ) (met : Ways) → FreshFrom a met → Fresh (slots_at a) met
  slot_fresh a met fresh q some = by (slot (N q) k == a) refl
    where
      by : (b : Bool) → (slot (N q) k == a) ≡ b → find names_cmp q met ≡ None
      by true e =
          let same : slot (N q) k ≡ a = eqb_is N k l (slot (N q) k) a e in
          fresh q (ap is_some (sym (in_slot N k l a q ∙ ap (λ b. cond b (find names_cmp q l) None) e)) ∙ some) (omega arith)
      by false e = absurd (no (sym (ap is_some (in_slot N k l a q ∙ ap (λ b. cond b (find names_cmp q l) None) e)) ∙ some))
        where
          no : false ≡ true → ⊥
          no e = cc

  later_fresh : (a : ℕ) (met now : Ways) → FreshFrom a met → Added (wanted (slots_at a)) met now → FreshFrom (suc a) now
  later_fresh a met now fresh h q some later =
      is_none (find names_cmp q now) (h.found q
      ∙ ap (λ o. option_or (option_map (λ (e : Entry). e.cid) o) (met_at met q)) (not_in_slot N k l a q (λ e. omega arith))
      ∙ ap (option_map (λ (f : Found). f.cid)) (fresh q some (omega arith)))

  -- one link, and then those of the slots behind it
  abbrev rest_of : ℕ → ℕ → List Link
  rest_of n a = map slot_link (tabulate n a (λ s. slot_item deeper (slots_at s)))

  pub slots-add : (n a : ℕ) → a + n ≤ 256 → Deep → (met : Ways) (m : ℕ) → T (is_sorted names_cmp met) → FreshFrom a met → Adds (slots_wanted N k l n a) met (shard_ways (sub_ways held left) parent left (rest_of n a) met m)
  unfolding tabulate slots_wanted
  slots-add zero a bound deep met m sorted fresh = added_none met sorted
  slots-add (suc n) a bound deep met m sorted fresh =
      one (slots_at a) refl (each_filter IsNamed (λ (e : Named). slot (N e.0) k == a) l named) (slot_fresh a met fresh) (deep a (omega arith))
      (λ now j h. slots-add n (suc a) (omega arith) deep now j h.sorted (later_fresh a met now fresh h))
    where
      one : (bs : List Named) → bs ≡ slots_at a → AllByRecursion IsNamed bs → Fresh bs met
          → (2 ≤ length bs → (met : Ways) (n : ℕ) → T (is_sorted names_cmp met) → Fresh bs met → Adds (wanted bs) met (sub_ways held left (deeper bs).entry.cid met n))
          → ((now : Ways) (j : ℕ) → Added (wanted (slots_at a)) met now → Adds (slots_wanted N k l n (suc a)) now (shard_ways (sub_ways held left) parent left (rest_of n (suc a)) now j))
          → Adds (λ q. option_or (slots_wanted N k l n (suc a) q) (wanted (slots_at a) q)) met
          (shard_ways (sub_ways held left) parent left (map slot_link (cons_option (option_map (λ x. (a, x)) (slot_item deeper bs)) (tabulate n (suc a) (λ s. slot_item deeper (slots_at s))))) met m)
      one [] is good free below rest =
          let nothing = added_same (λ q. None) (wanted (slots_at a)) met met (λ q. ap (λ b. wanted b q) is) (added_none met sorted) in
          adds_after (wanted (slots_at a)) (slots_wanted N k l n (suc a)) met met _ nothing (rest met m nothing)
      one (e ∷ []) is good free below rest =
          let first = meets_one parent left e.0 e.1.cid met good.0.name (first_fresh e [] met free) sorted in
          let added = added_same (λ q. cond (eq_by_cmp names_cmp q e.0) (Some e.1.cid) None) (wanted (slots_at a)) met first.now (λ q. head_wanted e [] q tt ∙ ap (λ b. wanted b q) is) first.added in
          subst (Adds (λ q. option_or (slots_wanted N k l n (suc a) q) (wanted (slots_at a) q)) met)
          (sym (slot-entry (sub_ways held left) parent left (link_of (slot_digits a ++ e.0) e.1) (rest_of n (suc a)) met m e.0 first.now (name_length e.0 good.0.name).some (behind_digits a e.0 (omega arith)) first.is))
          (adds_after (wanted (slots_at a)) (slots_wanted N k l n (suc a)) met first.now _ added (rest first.now m added))
      one (e ∷ f ∷ bs) is good free below rest =
          subst (Adds (λ q. option_or (slots_wanted N k l n (suc a) q) (wanted (slots_at a) q)) met)
          (sym (slot-deeper (sub_ways held left) parent left (link_of (slot_digits a ++ []) (deeper (e ∷ f ∷ bs)).entry) (rest_of n (suc a)) met m (behind_digits a [] (omega arith))))
          (adds_then (wanted (slots_at a)) (slots_wanted N k l n (suc a)) met (sub_ways held left (deeper (e ∷ f ∷ bs)).entry.cid met m) (λ more j. shard_ways (sub_ways held left) parent left (rest_of n (suc a)) more j)
          (adds_same (wanted (e ∷ f ∷ bs)) (wanted (slots_at a)) met _ (λ q. ap (λ b. wanted b q) is) (below (omega arith) met m sorted free)) rest)

  -- the links of a shard add its names
  pub links-add : Deep → (met : Ways) (m : ℕ) → T (is_sorted names_cmp met) → Fresh l met → Adds (wanted l) met (shard_ways (sub_ways held left) parent left (map slot_link (shard_items N deeper k l)) met m)
  links-add deep met m sorted fresh =
      adds_same (slots_wanted N k l 256 0) (wanted l) met _ (λ q. inside N k l 256 0 q (omega arith) (slot-bound (N q) k)) (slots-add 256 0 (omega arith) deep met m sorted (λ q some low. fresh q some))

shared_held : (held : Lookup) (deeper : List Named → Plan) (a : List Named) → 2 ≤ length a → Holds held (slot_blocks deeper a) → Holds held (deeper a).blocks
shared_held held deeper [] two h = absurd (omega arith)
shared_held held deeper (e ∷ []) two h = absurd (omega arith)
shared_held held deeper (e ∷ f ∷ l) two h = h

module _ (X : List ℕ → List ℕ) (N : List ℕ → ℕ) (good : IsHash X) (held : Lookup) where
  -- pairs that have a shard with so many levels below it, whose blocks are held
  pub record ShardHeld (lv : ℕ) (m : Meta) (l : List Named) : Type 0 where
    pub meta : IsTrue (is_meta m)
    pub sorted : T (is_sorted names_cmp l)
    pub named : AllByRecursion IsNamed l
    pub some : 1 ≤ length l
    pub has : HasShard N lv l
    pub all : Holds held (shard X N lv m l).blocks

  pub below_shard : (lv : ℕ) (m : Meta) (l : List Named) → ShardHeld (suc lv) m l → (s : ℕ) → s < 256 → 2 ≤ length (bucket N (6 - lv) s l) → ShardHeld lv none (bucket N (6 - lv) s l)
  unfolding shard HasShard
  below_shard lv m l h s small two = record {
    meta = none-is_meta;
    sorted = is_sorted-where_key names_cmp (λ name. slot (N name) (6 - lv) == s) l h.sorted;
    named = each_filter IsNamed (λ (e : Named). slot (N e.0) (6 - lv) == s) l h.named;
    some = omega arith;
    has = by (h.has s);
    all = shared_held held (shard X N lv none) (bucket N (6 - lv) s l) two
        (at_flat_tabulate (λ (b : Held). held b.0 ≡ Some b.1) 256 0 (λ s. slot_blocks (shard X N lv none) (bucket N (6 - lv) s l)) s (omega arith) (omega arith) h.all.1);
  }
    where
      by : (length (bucket N (6 - lv) s l) ≤ 1) ⊎ HasShard N lv (bucket N (6 - lv) s l) → HasShard N lv (bucket N (6 - lv) s l)
      by (inl few) = absurd (omega arith)
      by (inr has) = has

  pub none_valid : (m : List Named) → IsEntry (no_shard X N m).entry
  none_valid m = node_entry-valid X good [] []

  -- a shard that is held is visited, and its links add its names
  visited_adds : (w : List ℕ → Option Cid) (met : Ways) (m : Meta) (items : List InSlot) (left n : ℕ) → IsTrue (is_meta m) → IsShard items → (c : Cid) → c ≡ cid_of X DagPb (shard_block m items) → held c ≡ Some (shard_block m items)
      → ((i : ℕ) → Adds w met (shard_ways (sub_ways held left) c left (map slot_link items) met i)) → Adds w met (sub_ways held (suc left) c met n)
  unfolding sub_ways
  visited_adds w met m items left n carried valid c is here next =
      gives-on (Adds w met) (λ e h. h) (Shard m (map slot_link items)) (visit_of held (suc left) c n) (λ u i. unvisited i (as_shard c u) >> λ links j. shard_ways (sub_ways held left) c left links met j)
      (visit-gives held c (shard_block m items) (Shard m (map slot_link items)) here (ap (λ d. unixfs_of d (shard_block m items)) is ∙ shard-reread (X (shard_block m items)) m items carried valid) (suc left) n) next

  pub shard-adds : (lv : ℕ) (m : Meta) (l : List Named) → ShardHeld lv m l → (left : ℕ) (met : Ways) (n : ℕ) → T (is_sorted names_cmp met) → Fresh l met → Adds (wanted l) met (sub_ways held left (shard X N lv m l).entry.cid met n)
  unfolding shard HasShard sub_ways
  shard-adds zero m l h zero met n sorted fresh = tt
  shard-adds (suc lv) m l h zero met n sorted fresh = tt
  shard-adds zero m l h (suc left) met n sorted fresh =
      visited_adds (wanted l) met m (shard_items N (no_shard X N) 7 l) left n h.meta (shard_items-valid N (no_shard X N) none_valid 7 l h.named h.some) (shard X N zero m l).entry.cid refl h.all.0
      (λ i. links-add N held 7 l (no_shard X N) (shard X N zero m l).entry.cid left h.named (λ s small two met n sorted fresh. absurd (let few : length (bucket N 7 s l) ≤ 1 = h.has s in omega arith)) met i sorted fresh)
  shard-adds (suc lv) m l h (suc left) met n sorted fresh =
      let below = shard-adds lv none in
      visited_adds (wanted l) met m (shard_items N (shard X N lv none) (6 - lv) l) left n h.meta (shard_items-valid N (shard X N lv none) (shard-valid X good N lv none) (6 - lv) l h.named h.some) (shard X N (suc lv) m l).entry.cid refl h.all.0
      (λ i. links-add N held (6 - lv) l (shard X N lv none) (shard X N (suc lv) m l).entry.cid left h.named (λ s small two met n sorted fresh. below (bucket N (6 - lv) s l) (below_shard lv m l h s small two) left met n sorted fresh) met i sorted fresh)

  -- the slots of the root, and its block
  abbrev pub root_items : List Named → List InSlot
  root_items l = shard_items N (shard X N 6 none) 0 l

  pub root-valid : (m : Meta) (l : List Named) → ShardHeld 7 m l → IsShard (root_items l)
  root-valid m l h = shard_items-valid N (shard X N 6 none) (shard-valid X good N 6 none) 0 l h.named h.some

  pub root-held : (m : Meta) (l : List Named) → ShardHeld 7 m l → held (shard X N 7 m l).entry.cid ≡ Some (shard_block m (root_items l))
  unfolding shard
  root-held m l h = h.all.0

  pub root-cid : (m : Meta) (l : List Named) → (shard X N 7 m l).entry.cid ≡ cid_of X DagPb (shard_block m (root_items l))
  unfolding shard
  root-cid m l = refl

  pub root-adds : (m : Meta) (l : List Named) → ShardHeld 7 m l → (c : Cid) (left i : ℕ) → Adds (wanted l) [] (shard_ways (sub_ways held left) c left (map slot_link (root_items l)) [] i)
  unfolding HasShard
  root-adds m l h c left i =
      links-add N held 0 l (shard X N 6 none) c left h.named (λ s small two met n sorted fresh. shard-adds 6 none (bucket N 0 s l) (below_shard 6 m l h s small two) left met n sorted fresh) [] i tt (λ q some. refl)
