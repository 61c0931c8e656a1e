-- What readers answer, from the reader of nodes and the parts of a node.
use Rattle.std.proofs.Common.{◌≡◌, ◌≢◌, ℕ, zero, suc, ◌^◌, ◌<◌, ◌≤◌, List, [], ◌∷◌, length, get_or, map, take, refl, ap, arith, subst, sym, ◌∙◌, ◌⊎◌, inl, inr, Ok, Err, Result}
use Rattle.std.specs.List.{AllByRecursion}
use Rattle.std.proofs.lemmas.List.{length-map, take_all}
use Rattle.uf_cid.specs.declared.bytes.StrictFault.{StrictFault}
use Rattle.uf_cid.specs.declared.bytes.StrictFault.TheVariants.{Memory, NotCanonical}
use Rattle.uf_dagpb.specs.declared.node.Node.{Node}
use Rattle.uf_dagpb.specs.Spelling.{node_bytes, IsNode}
use Rattle.uf_dagpb.proofs.Strictly.{one_spelling}
use Rattle.uf_tree.specs.Codecs.{Reads}

-- ---- a node's bytes

module _ {V : Type 0} (valid : V → Type 0) (dag : V → Node) (is_node : (v : V) → valid v → IsNode (dag v)) where
  pub node_refused : (bytes : List ℕ) (f : StrictFault) → (f ≡ Memory) ⊎ ((n : Node) → IsNode n → bytes ≢ node_bytes n) → Reads valid (λ v. node_bytes (dag v)) bytes (Err f)
  node_refused bytes f (inl m) = inl m
  node_refused bytes f (inr h) = inr (λ v k. h (dag v) (is_node v k))

  pub node_read : (bytes : List ℕ) (node : Node) → length bytes < 2 ^ 64 → IsNode node → bytes ≡ node_bytes node → (r : Result V StrictFault) → Reads valid dag node r → Reads valid (λ v. node_bytes (dag v)) bytes r
  node_read bytes node small h e (Ok v) k = (k.0, e ∙ ap node_bytes k.1)
  node_read bytes node small h e (Err f) (inl m) = inl m
  node_read bytes node small h e (Err f) (inr k) =
      inr (λ v j d. k v j (one_spelling node (dag v) h (is_node v j) (subst (λ (x : List ℕ). length x < 2 ^ 64) e small) (sym e ∙ d)))

-- ---- a list, item by item

module _ {V W : Type 0} (valid : V → Type 0) (written : V → W) where
  at_place : (l : List V) (i : ℕ) (d : W) → AllByRecursion valid l → i < length l → (v : V) × (valid v × (get_or (map written l) i d ≡ written v))
  at_place [] i d all lt = absurd (omega arith)
  at_place (v ∷ l) zero d all lt = (v, (all.0, refl))
  at_place (v ∷ l) (suc i) d all lt = at_place l i d all.1 (omega arith)

  pub each_refused : (ws : List W) (i : ℕ) (w : W) (f : StrictFault) → i < length ws → w ≡ get_or ws i w → Reads valid written w (Err f) → Reads (AllByRecursion valid) (map written) ws (Err f)
  each_refused ws i w f lt is (inl m) = inl m
  each_refused ws i w f lt is (inr h) = inr (λ l all e. by l all e (at_place l i w all (omega (arith, lt, ap length e, length-map l written))))
    where
      by : (l : List V) → AllByRecursion valid l → ws ≡ map written l → (v : V) × (valid v × (get_or (map written l) i w ≡ written v)) → ⊥
      by l all e found = h found.0 found.1.0 (is ∙ ap (λ (x : List W). get_or x i w) e ∙ found.1.1)

  pub each_memory : (ws : List W) → Reads (AllByRecursion valid) (map written) ws (Err Memory)
  each_memory ws = inl refl

  pub each_end : (ws : List W) (i : ℕ) (l : List V) → length ws ≤ i → AllByRecursion valid l → map written l ≡ take i ws → Reads (AllByRecursion valid) (map written) ws (Ok l)
  each_end ws i l le all e = (all, sym (e ∙ take_all i ws le))

-- ---- a value that has another writing

module _ {V W : Type 0} (valid : V → Type 0) (written : V → W) where
  pub refused : (w : W) → ((v : V) → valid v → w ≢ written v) → Reads valid written w (Err NotCanonical)
  refused w h = inr h
