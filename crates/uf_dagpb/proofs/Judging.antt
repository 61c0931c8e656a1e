-- The reading in steps is the judgement of the list of fields, and the selections from it.
use Rattle.std.proofs.Common.{◌≡◌, ℕ, List, [], ◌∷◌, ◌++◌, refl, ap, append_assoc, subst, sym, ◌∙◌, Bool, true, false, cond, ◌⊎◌, inl, inr, Ok, Err, Result, Option, None, Some}
use Rattle.std.specs.Prelude.{◌==◌, ◌||◌, is_some}
use Rattle.std.specs.List.{cons_option, filter_map, list_any}
use Rattle.std.specs.Option.{option_and_then, unwrap_or}
use Rattle.std.specs.Str.{is_utf8}
use Rattle.std.proofs.lemmas.Bool.{cases_Bool, eqb-true}
use Rattle.std.proofs.lemmas.List.{append-nil}
use Rattle.uf_varint.specs.declared.fields.CutFault.{CutFault}
use Rattle.uf_varint.specs.Fields.{◌>>=◌, Content, Number, Bytes, Field, NoKey, Keyed, fields}
use Rattle.uf_cid.specs.declared.cid.Cid.{Cid}
use Rattle.uf_dagpb.specs.declared.fault.PbFault.{PbFault}
use Rattle.uf_dagpb.specs.declared.fault.PbFault.TheVariants as pb
use Rattle.uf_dagpb.specs.declared.node.Link.{Link}
use Rattle.uf_dagpb.specs.declared.node.Node.{Node}
use Rattle.uf_dagpb.specs.declared.parts.LinkParts.{LinkParts}
use Rattle.uf_dagpb.specs.Reading.{hash_of, bytes_of, number_of, first, first_of_all, link_content_fault, content_fault, link_fault, link_of, node_content_fault, node_fault, judged, node_reads}
use Rattle.uf_dagpb.specs.Steps.{or_fault, link_end, took_hash, took_name, took_tsize, link_from, link_reads, took_link, took_content, node_from, no_node}

-- one answer, said in two ways
abbrev pub Agrees : Result Link PbFault → Option PbFault → Option Link → Type 0
Agrees (Ok l) fault link = (fault ≡ None) × (link ≡ Some l)
Agrees (Err f) fault link = fault ≡ Some f

abbrev parts : Option Cid → Option (List ℕ) → Option ℕ → LinkParts
parts o n t = record { cid = o; name = n; tsize = t }

-- the link of some parts, and of what the fields have of the others
abbrev made : Option (List ℕ) → Option ℕ → Option Cid → Option Link
made n t o = option_and_then (λ c. Some (record { cid = c; name = unwrap_or n []; tsize = unwrap_or t 0 })) o

abbrev link_with : Option Cid → Option (List ℕ) → Option ℕ → List Field → Option Link
link_with o n t fs = made (first n (first_of_all (bytes_of 0x12) fs)) (first t (first_of_all (number_of 0x18) fs)) (first o (option_and_then hash_of (first_of_all (bytes_of 0x0a) fs)))

first-none : {A : Type 0} (o : Option A) → first o None ≡ o
first-none None = refl
first-none (Some a) = refl

end_judged : (o : Option Cid) (n : Option (List ℕ)) (t : Option ℕ) → Agrees (link_end (parts o n t)) (cond (is_some o) None (Some pb.NoHash)) (link_with o n t [])
unfolding link_end
end_judged None n t = refl
end_judged (Some c) n t = (refl, ap (λ x. made x (first t None) (Some c)) (first-none n) ∙ ap (λ x. made n x (Some c)) (first-none t))

hash_judged : (fs : List Field) (later : Option PbFault) (c : Result Content CutFault) (o : Option Cid) (n : Option (List ℕ)) (t : Option ℕ)
    → ((x : Cid) → Agrees (link_from (parts (Some x) n t) fs) later (link_with (Some x) n t fs))
    → Agrees (took_hash (parts o n t) c >>= λ p. link_from p fs) (cond (is_some o) (Some pb.Twice) (first (content_fault (link_content_fault 0x0a) c) later)) (link_with o n t (Keyed 0x0a c ∷ fs))
hash_judged fs later c (Some x) n t again = refl
hash_judged fs later (Err f) None n t again = refl
hash_judged fs later (Ok (Number m)) None n t again = refl
hash_judged fs later (Ok (Bytes b)) None n t again = hashed (hash_of b)
  where
    hashed : (h : Option Cid) → Agrees ((or_fault pb.BadCid h >>= λ x. Ok (parts (Some x) n t)) >>= λ p. link_from p fs) (first (cond (is_some h) None (Some pb.BadCid)) later)
        (made (first n (first_of_all (bytes_of 0x12) fs)) (first t (first_of_all (number_of 0x18) fs)) h)
    hashed None = refl
    hashed (Some x) = again x

name_judged : (fs : List Field) (later : Option PbFault) (c : Result Content CutFault) (o : Option Cid) (n : Option (List ℕ)) (t : Option ℕ)
    → ((x : List ℕ) → Agrees (link_from (parts o (Some x) t) fs) later (link_with o (Some x) t fs))
    → Agrees (took_name (parts o n t) c >>= λ p. link_from p fs) (cond (is_some n) (Some pb.Twice) (first (content_fault (link_content_fault 0x12) c) later)) (link_with o n t (Keyed 0x12 c ∷ fs))
name_judged fs later c o (Some x) t again = refl
name_judged fs later (Err f) o None t again = refl
name_judged fs later (Ok (Number m)) o None t again = refl
name_judged fs later (Ok (Bytes b)) o None t again = texted (is_utf8 b)
  where
    texted : (u : Bool) → Agrees ((cond u (Ok b) (Err pb.NotText) >>= λ x. Ok (parts o (Some x) t)) >>= λ p. link_from p fs) (first (cond u None (Some pb.NotText)) later) (link_with o (Some b) t fs)
    texted true = again b
    texted false = refl

tsize_judged : (fs : List Field) (later : Option PbFault) (c : Result Content CutFault) (o : Option Cid) (n : Option (List ℕ)) (t : Option ℕ)
    → ((x : ℕ) → Agrees (link_from (parts o n (Some x)) fs) later (link_with o n (Some x) fs))
    → Agrees (took_tsize (parts o n t) c >>= λ p. link_from p fs) (cond (is_some t) (Some pb.Twice) (first (content_fault (link_content_fault 0x18) c) later)) (link_with o n t (Keyed 0x18 c ∷ fs))
tsize_judged fs later c o n (Some x) again = refl
tsize_judged fs later (Err f) o n None again = refl
tsize_judged fs later (Ok (Number m)) o n None again = again m
tsize_judged fs later (Ok (Bytes b)) o n None again = refl

abbrev has : ℕ → List ℕ → Bool
has key seen = list_any (λ k. k == key) seen

pub record Sees (seen : List ℕ) (o : Option Cid) (n : Option (List ℕ)) (t : Option ℕ) : Type 0 where
  pub hash : has 0x0a seen ≡ is_some o
  pub name : has 0x12 seen ≡ is_some n
  pub tsize : has 0x18 seen ≡ is_some t

link_judged : (fs : List Field) (o : Option Cid) (n : Option (List ℕ)) (t : Option ℕ) (seen : List ℕ) → Sees seen o n t → Agrees (link_from (parts o n t) fs) (link_fault seen fs) (link_with o n t fs)
unfolding link_from link_fault
link_judged [] o n t seen s = subst (λ (b : Bool). Agrees (link_end (parts o n t)) (cond b None (Some pb.NoHash)) (link_with o n t [])) (sym s.hash) (end_judged o n t)
link_judged (NoKey f ∷ fs) o n t seen s = refl
link_judged (Keyed key c ∷ fs) o n t seen s = by (cases_Bool (key == 0x0a)) (cases_Bool (key == 0x12)) (cases_Bool (key == 0x18)) (link_judged fs)
  where
    by : ((key == 0x0a) ≡ true) ⊎ ((key == 0x0a) ≡ false) → ((key == 0x12) ≡ true) ⊎ ((key == 0x12) ≡ false) → ((key == 0x18) ≡ true) ⊎ ((key == 0x18) ≡ false)
        → ((o : Option Cid) (n : Option (List ℕ)) (t : Option ℕ) (seen : List ℕ) → Sees seen o n t → Agrees (link_from (parts o n t) fs) (link_fault seen fs) (link_with o n t fs))
        → Agrees (link_from (parts o n t) (Keyed key c ∷ fs)) (link_fault seen (Keyed key c ∷ fs)) (link_with o n t (Keyed key c ∷ fs))
    by (inl a) b d again =
        subst (λ (k : ℕ). Agrees (link_from (parts o n t) (Keyed k c ∷ fs)) (link_fault seen (Keyed k c ∷ fs)) (link_with o n t (Keyed k c ∷ fs))) (sym (eqb-true key 0x0a a))
        (subst (λ (x : Bool). Agrees (link_from (parts o n t) (Keyed 0x0a c ∷ fs)) (cond x (Some pb.Twice) (first (content_fault (link_content_fault 0x0a) c) (link_fault (0x0a ∷ seen) fs))) (link_with o n t (Keyed 0x0a c ∷ fs))) (sym s.hash)
        (hash_judged fs (link_fault (0x0a ∷ seen) fs) c o n t (λ x. again (Some x) n t (0x0a ∷ seen) (record { hash = refl; name = s.name; tsize = s.tsize }))))
    by (inr a) (inl b) d again =
        subst (λ (k : ℕ). Agrees (link_from (parts o n t) (Keyed k c ∷ fs)) (link_fault seen (Keyed k c ∷ fs)) (link_with o n t (Keyed k c ∷ fs))) (sym (eqb-true key 0x12 b))
        (subst (λ (x : Bool). Agrees (link_from (parts o n t) (Keyed 0x12 c ∷ fs)) (cond x (Some pb.Twice) (first (content_fault (link_content_fault 0x12) c) (link_fault (0x12 ∷ seen) fs))) (link_with o n t (Keyed 0x12 c ∷ fs))) (sym s.name)
        (name_judged fs (link_fault (0x12 ∷ seen) fs) c o n t (λ x. again o (Some x) t (0x12 ∷ seen) (record { hash = s.hash; name = refl; tsize = s.tsize }))))
    by (inr a) (inr b) (inl d) again =
        subst (λ (k : ℕ). Agrees (link_from (parts o n t) (Keyed k c ∷ fs)) (link_fault seen (Keyed k c ∷ fs)) (link_with o n t (Keyed k c ∷ fs))) (sym (eqb-true key 0x18 d))
        (subst (λ (x : Bool). Agrees (link_from (parts o n t) (Keyed 0x18 c ∷ fs)) (cond x (Some pb.Twice) (first (content_fault (link_content_fault 0x18) c) (link_fault (0x18 ∷ seen) fs))) (link_with o n t (Keyed 0x18 c ∷ fs))) (sym s.tsize)
        (tsize_judged fs (link_fault (0x18 ∷ seen) fs) c o n t (λ x. again o n (Some x) (0x18 ∷ seen) (record { hash = s.hash; name = s.name; tsize = refl }))))
    by (inr a) (inr b) (inr d) again = rw (a, b, d) refl

pub link_reads_judged : (bytes : List ℕ) → Agrees (link_reads bytes) (link_fault [] (fields bytes)) (link_of (fields bytes))
unfolding link_reads
link_reads_judged bytes = link_judged (fields bytes) None None None [] (record { hash = refl; name = refl; tsize = refl })

-- ---- nodes

abbrev link_in : Field → Option Link
link_in f = option_and_then (λ b. link_of (fields b)) (bytes_of 0x12 f)

abbrev node_with : List Link → Option (List ℕ) → List Field → Node
node_with links o fs = record { links = links ++ filter_map link_in fs; content = first o (first_of_all (bytes_of 0x0a) fs) }

abbrev node : List Link → Option (List ℕ) → Node
node links o = record { links = links; content = o }

or-false : (b : Bool) → (b || false) ≡ b
or-false true = refl
or-false false = refl

-- a link that was read, or its fault
one_judged : (fs : List Field) (links : List Link) (o : Option (List ℕ)) (r : Result Link PbFault) (fault : Option PbFault) (link : Option Link) → Agrees r fault link
    → ((l : Link) → node_from (node (links ++ l ∷ []) o) fs ≡ judged (node_fault (is_some o) fs) (node_with (links ++ l ∷ []) o fs))
    → ((r >>= λ l. Ok (node (links ++ l ∷ []) o)) >>= λ n. node_from n fs) ≡ judged (first fault (node_fault (is_some o) fs)) (node (links ++ cons_option link (filter_map link_in fs)) (first o (first_of_all (bytes_of 0x0a) fs)))
one_judged fs links o (Err f) fault link h again = sym (ap (λ x. judged (first x (node_fault (is_some o) fs)) (node (links ++ cons_option link (filter_map link_in fs)) (first o (first_of_all (bytes_of 0x0a) fs)))) h)
one_judged fs links o (Ok l) fault link h again =
    let content = first o (first_of_all (bytes_of 0x0a) fs) in
    again l
    ∙ ap (λ (ls : List Link). judged (node_fault (is_some o) fs) (node ls content)) (append_assoc links (l ∷ []) (filter_map link_in fs))
    ∙ sym (ap (λ x. judged (node_fault (is_some o) fs) (node (links ++ cons_option x (filter_map link_in fs)) content)) h.1)
    ∙ sym (ap (λ x. judged (first x (node_fault (is_some o) fs)) (node (links ++ cons_option link (filter_map link_in fs)) content)) h.0)

link_more_judged : (fs : List Field) (c : Result Content CutFault) (links : List Link) (o : Option (List ℕ))
    → ((links : List Link) → node_from (node links o) fs ≡ judged (node_fault (is_some o) fs) (node_with links o fs))
    → (took_link (node links o) c >>= λ n. node_from n fs) ≡ judged (first (content_fault (node_content_fault 0x12) c) (node_fault (is_some o) fs)) (node_with links o (Keyed 0x12 c ∷ fs))
link_more_judged fs (Err f) links o again = refl
link_more_judged fs (Ok (Number n)) links o again = refl
link_more_judged fs (Ok (Bytes b)) links o again = one_judged fs links o (link_reads b) (link_fault [] (fields b)) (link_of (fields b)) (link_reads_judged b) (λ l. again (links ++ l ∷ []))

content_judged : (fs : List Field) (c : Result Content CutFault) (links : List Link) (o : Option (List ℕ))
    → ((b : List ℕ) → node_from (node links (Some b)) fs ≡ judged (node_fault true fs) (node_with links (Some b) fs))
    → (took_content (node links o) c >>= λ n. node_from n fs) ≡ judged (cond (is_some o) (Some pb.Twice) (first (content_fault (node_content_fault 0x0a) c) (node_fault (is_some o || true) fs))) (node_with links o (Keyed 0x0a c ∷ fs))
content_judged fs c links (Some x) again = refl
content_judged fs (Err f) links None again = refl
content_judged fs (Ok (Number n)) links None again = refl
content_judged fs (Ok (Bytes b)) links None again = again b

fields_judged : (fs : List Field) (links : List Link) (o : Option (List ℕ)) → node_from (node links o) fs ≡ judged (node_fault (is_some o) fs) (node_with links o fs)
unfolding node_from node_fault
fields_judged [] links o = ap (λ (ls : List Link). Ok (node ls o)) (sym (append-nil links)) ∙ ap (λ (x : Option (List ℕ)). Ok (node (links ++ []) x)) (sym (first-none o))
fields_judged (NoKey f ∷ fs) links o = refl
fields_judged (Keyed key c ∷ fs) links o = by (cases_Bool (key == 0x12)) (cases_Bool (key == 0x0a)) (fields_judged fs)
  where
    by : ((key == 0x12) ≡ true) ⊎ ((key == 0x12) ≡ false) → ((key == 0x0a) ≡ true) ⊎ ((key == 0x0a) ≡ false)
        → ((links : List Link) (o : Option (List ℕ)) → node_from (node links o) fs ≡ judged (node_fault (is_some o) fs) (node_with links o fs))
        → node_from (node links o) (Keyed key c ∷ fs) ≡ judged (node_fault (is_some o) (Keyed key c ∷ fs)) (node_with links o (Keyed key c ∷ fs))
    by (inl a) b again =
        subst (λ (k : ℕ). node_from (node links o) (Keyed k c ∷ fs) ≡ judged (node_fault (is_some o) (Keyed k c ∷ fs)) (node_with links o (Keyed k c ∷ fs))) (sym (eqb-true key 0x12 a))
        (link_more_judged fs c links o (λ ls. again ls o)
        ∙ sym (ap (λ (x : Bool). judged (first (content_fault (node_content_fault 0x12) c) (node_fault x fs)) (node_with links o (Keyed 0x12 c ∷ fs))) (or-false (is_some o))))
    by (inr a) (inl b) again =
        subst (λ (k : ℕ). node_from (node links o) (Keyed k c ∷ fs) ≡ judged (node_fault (is_some o) (Keyed k c ∷ fs)) (node_with links o (Keyed k c ∷ fs))) (sym (eqb-true key 0x0a b))
        (content_judged fs c links o (λ x. again links (Some x)))
    by (inr a) (inr b) again = rw (a, b) refl

pub node_judged : (bytes : List ℕ) → node_from no_node (fields bytes) ≡ node_reads bytes
unfolding node_reads
node_judged bytes = fields_judged (fields bytes) [] None
