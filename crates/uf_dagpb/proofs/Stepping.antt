-- The reading goes over the bytes field by field.
use Rattle.std.proofs.Common.{◌≡◌, ℕ, ◌<◌, ◌%◌, List, [], ◌∷◌, ◌++◌, length, refl, ap, subst, arith, sym, ◌∙◌, Bool, true, false, cond, ◌⊎◌, inl, inr, Ok, Err, Result, Option, None, Some}
use Rattle.std.specs.Prelude.{◌==◌, is_some}
use Rattle.std.proofs.lemmas.Bool.{cases_Bool, eqb-true, eqb-false}
use Rattle.std.proofs.lemmas.List.{nil_from_length}
use Rattle.uf_varint.specs.declared.fields.CutFault.{CutFault}
use Rattle.uf_varint.specs.Fields.{◌>>=◌, Content, number_at, bytes_at, as_number, as_bytes, content_at, field_then, key_then, fields, fields_within}
use Rattle.uf_varint.proofs.Cutting.{fields-cons}
use Rattle.uf_cid.specs.declared.cid.Cid.{Cid}
use Rattle.uf_dagpb.specs.declared.fault.PbFault.{PbFault}
use Rattle.uf_dagpb.specs.declared.fault.PbFault.TheVariants as pb
use Rattle.uf_dagpb.specs.declared.node.Link.{Link}
use Rattle.uf_dagpb.specs.declared.node.Node.{Node}
use Rattle.uf_dagpb.specs.declared.parts.LinkParts.{LinkParts}
use Rattle.uf_dagpb.specs.Reading.{pb_fault, hash_of, Fails}
use Rattle.uf_dagpb.specs.Steps.{cut, or_fault, text_of, keyed_next, link_next, link_end, link_from, link_reads, links_next, content_next, node_next, node_from}

-- what is said behind one more field of a link, and of a node
abbrev pub link_behind : Result (LinkParts × List ℕ) PbFault → Result Link PbFault
link_behind r = r >>= λ x. link_from x.0 (fields x.1)

abbrev pub node_behind : Result (Node × List ℕ) PbFault → Result Node PbFault
node_behind r = r >>= λ x. node_from x.0 (fields x.1)

hash_step : (parts : LinkParts) (r : Result (List ℕ × List ℕ) CutFault) → link_from parts (field_then 0x0a fields (r >>= as_bytes)) ≡ link_behind (cond (is_some parts.cid) (Err pb.Twice) (cut r >>= λ b. or_fault pb.BadCid (hash_of b.0) >>= λ c. Ok (record parts { cid = Some c }, b.1)))
unfolding link_from
hash_step parts (Err f) = twice (is_some parts.cid)
  where
    twice : (t : Bool) → (cond t (Err pb.Twice) (Err (pb_fault f)) >>= λ p. link_from p []) ≡ link_behind (cond t (Err pb.Twice) (Err (pb_fault f)))
    twice true = refl
    twice false = refl
hash_step parts (Ok b) = twice (is_some parts.cid) (hash_of b.0)
  where
    twice : (t : Bool) (h : Option Cid)
        → (cond t (Err pb.Twice) (or_fault pb.BadCid h >>= λ c. Ok (record parts { cid = Some c })) >>= λ p. link_from p (fields b.1))
        ≡ link_behind (cond t (Err pb.Twice) (or_fault pb.BadCid h >>= λ c. Ok (record parts { cid = Some c }, b.1)))
    twice true h = refl
    twice false None = refl
    twice false (Some c) = refl

name_step : (parts : LinkParts) (r : Result (List ℕ × List ℕ) CutFault) → link_from parts (field_then 0x12 fields (r >>= as_bytes)) ≡ link_behind (cond (is_some parts.name) (Err pb.Twice) (cut r >>= λ b. text_of b.0 >>= λ t. Ok (record parts { name = Some t }, b.1)))
unfolding link_from
name_step parts (Err f) = twice (is_some parts.name)
  where
    twice : (t : Bool) → (cond t (Err pb.Twice) (Err (pb_fault f)) >>= λ p. link_from p []) ≡ link_behind (cond t (Err pb.Twice) (Err (pb_fault f)))
    twice true = refl
    twice false = refl
name_step parts (Ok b) = twice (is_some parts.name) (text_of b.0)
  where
    twice : (t : Bool) (h : Result (List ℕ) PbFault)
        → (cond t (Err pb.Twice) (h >>= λ c. Ok (record parts { name = Some c })) >>= λ p. link_from p (fields b.1))
        ≡ link_behind (cond t (Err pb.Twice) (h >>= λ c. Ok (record parts { name = Some c }, b.1)))
    twice true h = refl
    twice false (Err f) = refl
    twice false (Ok c) = refl

tsize_step : (parts : LinkParts) (r : Result (ℕ × List ℕ) CutFault) → link_from parts (field_then 0x18 fields (r >>= as_number)) ≡ link_behind (cond (is_some parts.tsize) (Err pb.Twice) (cut r >>= λ n. Ok (record parts { tsize = Some n.0 }, n.1)))
unfolding link_from
tsize_step parts (Err f) = twice (is_some parts.tsize)
  where
    twice : (t : Bool) → (cond t (Err pb.Twice) (Err (pb_fault f)) >>= λ p. link_from p []) ≡ link_behind (cond t (Err pb.Twice) (Err (pb_fault f)))
    twice true = refl
    twice false = refl
tsize_step parts (Ok n) = twice (is_some parts.tsize)
  where
    twice : (t : Bool)
        → (cond t (Err pb.Twice) (Ok (record parts { tsize = Some n.0 })) >>= λ p. link_from p (fields n.1))
        ≡ link_behind (cond t (Err pb.Twice) (Ok (record parts { tsize = Some n.0 }, n.1)))
    twice true = refl
    twice false = refl

-- a key that no link has
other_step : (parts : LinkParts) (key : ℕ) (r : Result (Content × List ℕ) CutFault) → (key == 0x0a) ≡ false → (key == 0x12) ≡ false → (key == 0x18) ≡ false → link_from parts (field_then key fields r) ≡ Err pb.Field
unfolding link_from
other_step parts key (Err f) a b c = rw (a, b, c) refl
other_step parts key (Ok x) a b c = rw (a, b, c) refl

keyed_step : (parts : LinkParts) (key : ℕ) (after : List ℕ) → link_from parts (field_then key fields (content_at (key % 8) after)) ≡ link_behind (keyed_next parts key after)
unfolding content_at
keyed_step parts key after = by (cases_Bool (key == 0x0a)) (cases_Bool (key == 0x12)) (cases_Bool (key == 0x18))
  where
    by : ((key == 0x0a) ≡ true) ⊎ ((key == 0x0a) ≡ false) → ((key == 0x12) ≡ true) ⊎ ((key == 0x12) ≡ false) → ((key == 0x18) ≡ true) ⊎ ((key == 0x18) ≡ false) → link_from parts (field_then key fields (content_at (key % 8) after)) ≡ link_behind (keyed_next parts key after)
    by (inl a) b c = subst (λ (k : ℕ). link_from parts (field_then k fields (content_at (k % 8) after)) ≡ link_behind (keyed_next parts k after)) (sym (eqb-true key 0x0a a)) (hash_step parts (bytes_at after))
    by (inr a) (inl b) c = subst (λ (k : ℕ). link_from parts (field_then k fields (content_at (k % 8) after)) ≡ link_behind (keyed_next parts k after)) (sym (eqb-true key 0x12 b)) (name_step parts (bytes_at after))
    by (inr a) (inr b) (inl c) = subst (λ (k : ℕ). link_from parts (field_then k fields (content_at (k % 8) after)) ≡ link_behind (keyed_next parts k after)) (sym (eqb-true key 0x18 c)) (tsize_step parts (number_at after))
    by (inr a) (inr b) (inr c) = other_step parts key (content_at (key % 8) after) a b c ∙ rw (a, b, c) refl

key_step : (parts : LinkParts) (r : Result (ℕ × List ℕ) CutFault) → link_from parts (key_then fields r) ≡ link_behind (cut r >>= λ key. keyed_next parts key.0 key.1)
unfolding link_from
key_step parts (Err f) = refl
key_step parts (Ok key) = keyed_step parts key.0 key.1

-- one field on, of a link
pub link_step : (parts : LinkParts) (bytes : List ℕ) → 0 < length bytes → link_from parts (fields bytes) ≡ link_behind (link_next parts bytes)
unfolding link_next
link_step parts [] some = absurd (omega arith)
link_step parts (b ∷ bytes) some = ap (link_from parts) (fields-cons b bytes) ∙ key_step parts (number_at (b ∷ bytes))

pub link_goes_on : (parts next : LinkParts) (bytes after : List ℕ) (total : Result Link PbFault) → 0 < length bytes → link_next parts bytes ≡ Ok (next, after) → link_from parts (fields bytes) ≡ total → link_from next (fields after) ≡ total
link_goes_on parts next bytes after total some e so_far = sym (ap link_behind e) ∙ sym (link_step parts bytes some) ∙ so_far

pub link_fails : (parts : LinkParts) (bytes : List ℕ) (fault : PbFault) (total : Result Link PbFault) → 0 < length bytes → Fails fault (link_next parts bytes) → link_from parts (fields bytes) ≡ total → Fails fault total
link_fails parts bytes fault total some (inl m) so_far = inl m
link_fails parts bytes fault total some (inr e) so_far = inr (sym so_far ∙ link_step parts bytes some ∙ ap link_behind e)

nothing_left : (bytes : List ℕ) → length bytes ≡ 0 → fields bytes ≡ []
unfolding fields fields_within
nothing_left bytes h = ap fields (nil_from_length bytes h)

pub link_ends : (parts : LinkParts) (bytes : List ℕ) (total : Result Link PbFault) → length bytes ≡ 0 → link_from parts (fields bytes) ≡ total → link_end parts ≡ total
unfolding link_from
link_ends parts bytes total h so_far = sym (ap (link_from parts) (nothing_left bytes h)) ∙ so_far

-- ---- nodes

links_step : (node : Node) (r : Result (List ℕ × List ℕ) CutFault) → node_from node (field_then 0x12 fields (r >>= as_bytes)) ≡ node_behind (cut r >>= λ b. link_reads b.0 >>= λ l. Ok (record node { links = node.links ++ l ∷ [] }, b.1))
unfolding node_from
links_step node (Err f) = refl
links_step node (Ok b) = read (link_reads b.0)
  where
    read : (h : Result Link PbFault)
        → ((h >>= λ l. Ok (record node { links = node.links ++ l ∷ [] })) >>= λ n. node_from n (fields b.1))
        ≡ node_behind (h >>= λ l. Ok (record node { links = node.links ++ l ∷ [] }, b.1))
    read (Err f) = refl
    read (Ok l) = refl

content_step : (node : Node) (r : Result (List ℕ × List ℕ) CutFault) → node_from node (field_then 0x0a fields (r >>= as_bytes)) ≡ node_behind (cond (is_some node.content) (Err pb.Twice) (cut r >>= λ b. Ok (record node { content = Some b.0 }, b.1)))
unfolding node_from
content_step node (Err f) = twice (is_some node.content)
  where
    twice : (t : Bool) → (cond t (Err pb.Twice) (Err (pb_fault f)) >>= λ n. node_from n []) ≡ node_behind (cond t (Err pb.Twice) (Err (pb_fault f)))
    twice true = refl
    twice false = refl
content_step node (Ok b) = twice (is_some node.content)
  where
    twice : (t : Bool)
        → (cond t (Err pb.Twice) (Ok (record node { content = Some b.0 })) >>= λ n. node_from n (fields b.1))
        ≡ node_behind (cond t (Err pb.Twice) (Ok (record node { content = Some b.0 }, b.1)))
    twice true = refl
    twice false = refl

alien_step : (node : Node) (key : ℕ) (r : Result (Content × List ℕ) CutFault) → (key == 0x12) ≡ false → (key == 0x0a) ≡ false → node_from node (field_then key fields r) ≡ Err pb.Field
unfolding node_from
alien_step node key (Err f) a b = rw (a, b) refl
alien_step node key (Ok x) a b = rw (a, b) refl

abbrev keyed_node_next : Node → ℕ → List ℕ → Result (Node × List ℕ) PbFault
keyed_node_next node key bytes = cond (key == 0x12) (links_next node bytes) (cond (key == 0x0a) (content_next node bytes) (Err pb.Field))

keyed_node_step : (node : Node) (key : ℕ) (after : List ℕ) → node_from node (field_then key fields (content_at (key % 8) after)) ≡ node_behind (keyed_node_next node key after)
unfolding content_at
keyed_node_step node key after = by (cases_Bool (key == 0x12)) (cases_Bool (key == 0x0a))
  where
    by : ((key == 0x12) ≡ true) ⊎ ((key == 0x12) ≡ false) → ((key == 0x0a) ≡ true) ⊎ ((key == 0x0a) ≡ false) → node_from node (field_then key fields (content_at (key % 8) after)) ≡ node_behind (keyed_node_next node key after)
    by (inl a) b = subst (λ (k : ℕ). node_from node (field_then k fields (content_at (k % 8) after)) ≡ node_behind (keyed_node_next node k after)) (sym (eqb-true key 0x12 a)) (links_step node (bytes_at after))
    by (inr a) (inl b) = subst (λ (k : ℕ). node_from node (field_then k fields (content_at (k % 8) after)) ≡ node_behind (keyed_node_next node k after)) (sym (eqb-true key 0x0a b)) (content_step node (bytes_at after))
    by (inr a) (inr b) = alien_step node key (content_at (key % 8) after) a b ∙ rw (a, b) refl

node_key_step : (node : Node) (r : Result (ℕ × List ℕ) CutFault) → node_from node (key_then fields r) ≡ node_behind (cut r >>= λ key. keyed_node_next node key.0 key.1)
unfolding node_from
node_key_step node (Err f) = refl
node_key_step node (Ok key) = keyed_node_step node key.0 key.1

pub node_step : (node : Node) (bytes : List ℕ) → 0 < length bytes → node_from node (fields bytes) ≡ node_behind (node_next node bytes)
unfolding node_next
node_step node [] some = absurd (omega arith)
node_step node (b ∷ bytes) some = ap (node_from node) (fields-cons b bytes) ∙ node_key_step node (number_at (b ∷ bytes))

pub node_goes_on : (node next : Node) (bytes after : List ℕ) (total : Result Node PbFault) → 0 < length bytes → node_next node bytes ≡ Ok (next, after) → node_from node (fields bytes) ≡ total → node_from next (fields after) ≡ total
node_goes_on node next bytes after total some e so_far = sym (ap node_behind e) ∙ sym (node_step node bytes some) ∙ so_far

pub node_fails : (node : Node) (bytes : List ℕ) (fault : PbFault) (total : Result Node PbFault) → 0 < length bytes → Fails fault (node_next node bytes) → node_from node (fields bytes) ≡ total → Fails fault total
node_fails node bytes fault total some (inl m) so_far = inl m
node_fails node bytes fault total some (inr e) so_far = inr (sym so_far ∙ node_step node bytes some ∙ ap node_behind e)

pub node_ends : (node : Node) (bytes : List ℕ) (total : Result Node PbFault) → length bytes ≡ 0 → node_from node (fields bytes) ≡ total → total ≡ Ok node
unfolding node_from
node_ends node bytes total h so_far = sym so_far ∙ ap (node_from node) (nothing_left bytes h)

-- what a test for emptiness says
pub some_left : (b : Bool) (n : ℕ) → b ≡ (n == 0) → b ≡ false → 0 < n
some_left b n e f = let h = eqb-false n 0 (sym e ∙ f) in omega arith

pub none_left : (b : Bool) (n : ℕ) → b ≡ (n == 0) → b ≡ true → n ≡ 0
none_left b n e t = eqb-true n 0 (sym e ∙ t)
