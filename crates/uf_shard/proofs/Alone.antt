-- A shard with one leaf is that of one pair.
use Rattle.std.proofs.Common.{◌≡◌, ◌≢◌, ℕ, ◌<◌, ◌≤◌, List, [], ◌∷◌, refl, ap, arith, sym, ◌∙◌, Bool, true, false, cond, T, Some, None, ◌⊎◌, inl, inr}
use Rattle.std.specs.Prelude.{◌==◌}
use Rattle.std.specs.Ordering.{nat_cmp, eq_by_cmp, is_eq}
use Rattle.std.specs.FinMap.Entries.{find, is_sorted, find-where_key, same_entries}
use Rattle.std.proofs.lemmas.Bool.{cases_eq, cases_lt}
use Rattle.std.proofs.lemmas.Bool.Decides.{nat_tests}
use Rattle.uf_tree.specs.declared.nodes.Entry.{Entry}
use Rattle.uf_tree.specs.declared.nodes.Item.TheVariants.{Leaf}
use Rattle.uf_tree.specs.FilePlan.{Plan}
use Rattle.uf_murmur.specs.Slots.{slot}
use Rattle.uf_tree.specs.Names.{names_cmp}
use Rattle.uf_tree.specs.Nodes.{InSlot, Named}
use Rattle.uf_tree.specs.ShardPlan.{bucket, shard_items, slot_item}
use Rattle.uf_tree.proofs.ShardLaws.{eq_test, eqb_same, find-tabulate, names_exact, names_total, ne_test, nothing_above, slot-bound, tied}
use Rattle.std.specs.Cmp.{tied_itself}
use Rattle.uf_shard.proofs.Slotted.{free-none, leaf-one}

module _ (N : List ℕ → ℕ) (d : List Named → Plan) (k : ℕ) (l : List Named) where
  -- a name is found in its slot's pairs
  find-bucket : (q : List ℕ) → find names_cmp q l ≡ find names_cmp q (bucket N k (slot (N q) k) l)
  find-bucket q = sym (find-where_key names_cmp (λ name. slot (N name) k == slot (N q) k) q (λ x e. ap (λ name. slot (N name) k == slot (N q) k) (sym (names_exact q x e))) l
      ∙ ap (λ b. cond b (find names_cmp q l) None) (eqb_same (slot (N q) k)))

  -- in another slot it isn't found
  find-elsewhere : (q : List ℕ) (s : ℕ) → slot (N q) k ≢ s → find names_cmp q (bucket N k s l) ≡ None
  find-elsewhere q s other = find-where_key names_cmp (λ name. slot (N name) k == s) q (λ x e. ap (λ name. slot (N name) k == s) (sym (names_exact q x e))) l
      ∙ ap (λ b. cond b (find names_cmp q l) None) (ne_slot (slot (N q) k) s other)
    where
      ne_slot : (a b : ℕ) → a ≢ b → (a == b) ≡ false
      ne_slot a b h = grind (arith, nat_tests)

  -- what the items have at a slot is the slot's item
  item-at : (items : List InSlot) → items ≡ shard_items N d k l → (s : ℕ) → s < 256 → find nat_cmp s items ≡ slot_item d (bucket N k s l)
  item-at items e s h = ap (find nat_cmp s) e ∙ find-tabulate 256 0 (λ s. slot_item d (bucket N k s l)) s (omega arith) (omega arith)

  pub no-items : T (is_sorted names_cmp l) → [] ≡ shard_items N d k l → l ≡ []
  no-items sorted e = same_entries names_cmp names_total names_exact l [] sorted tt (λ q.
      find-bucket q ∙ ap (find names_cmp q) (free-none d (bucket N k (slot (N q) k) l) (item-at [] e (slot (N q) k) (slot-bound (N q) k))))

  pub one-item : T (is_sorted names_cmp l) → (s : ℕ) (name : List ℕ) (e : Entry) → (s, Leaf name e) ∷ [] ≡ shard_items N d k l → l ≡ (name, e) ∷ []
  one-item sorted s name e is = same_entries names_cmp names_total names_exact l ((name, e) ∷ []) sorted tt (λ q. each q (cases_eq (slot (N q) k) s))
    where
      here : (q : List ℕ) → find nat_cmp (slot (N q) k) ((s, Leaf name e) ∷ []) ≡ slot_item d (bucket N k (slot (N q) k) l)
      here q = item-at ((s, Leaf name e) ∷ []) is (slot (N q) k) (slot-bound (N q) k)

      at_s : (q : List ℕ) → slot (N q) k ≡ s → bucket N k (slot (N q) k) l ≡ (name, e) ∷ []
      at_s q same = leaf-one d name e (bucket N k (slot (N q) k) l) (sym (ap (λ b. cond b (Some (Leaf name e)) None) (ap (λ x. eq_by_cmp nat_cmp x s) same ∙ eq_test s)) ∙ here q)

      elsewhere : (q : List ℕ) → slot (N q) k ≢ s → find names_cmp q l ≡ None
      elsewhere q other = find-bucket q ∙ ap (find names_cmp q) (free-none d (bucket N k (slot (N q) k) l) (sym (ap (λ b. cond b (Some (Leaf name e)) None) (ne_test (slot (N q) k) s other)) ∙ here q))

      itself : eq_by_cmp nat_cmp s s ≡ true
      itself = eq_test s

      some_none : Some e ≡ None → ⊥
      some_none h = cc

      leaf_none : Some (Leaf name e) ≡ None → ⊥
      leaf_none h = cc

      found : find nat_cmp s ((s, Leaf name e) ∷ []) ≡ Some (Leaf name e)
      found = ap (λ b. cond b (Some (Leaf name e)) None) itself

      its_slot : (slot (N name) k ≡ s → ⊥) → ⊥
      its_slot other = bound (cases_lt s 256)
        where
          bound : (s < 256) ⊎ (256 ≤ s) → ⊥
          bound (inl low) = some_none (
              sym (ap (λ b. cond b (Some e) None) (ap is_eq (tied_itself names_total name)))
              ∙ ap (find names_cmp name) (sym (leaf-one d name e (bucket N k s l) (sym found ∙ item-at ((s, Leaf name e) ∷ []) is s low)))
              ∙ find-elsewhere name s other)
          bound (inr high) = leaf_none (sym found ∙ ap (find nat_cmp s) is ∙ nothing_above 256 0 (λ s. slot_item d (bucket N k s l)) s (omega arith))

      each : (q : List ℕ) → (slot (N q) k ≡ s) ⊎ (slot (N q) k ≢ s) → find names_cmp q l ≡ find names_cmp q ((name, e) ∷ [])
      each q (inl same) = find-bucket q ∙ ap (find names_cmp q) (at_s q same)
      each q (inr other) = elsewhere q other ∙ by (eq_by_cmp names_cmp q name) refl
        where
          by : (b : Bool) → eq_by_cmp names_cmp q name ≡ b → None ≡ cond b (Some e) None
          by false t = refl
          by true t = absurd (its_slot (λ same. other (ap (λ n. slot (N n) k) (names_exact q name (tied _ t)) ∙ same)))
