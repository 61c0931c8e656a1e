-- Files written out piece by piece.
use Rattle.std.proofs.Common.{◌≡◌, ℕ, ◌+◌, ◌-◌, ◌^◌, List, [], ◌++◌, length, length-append, min, refl, sym, ap, subst, ◌∙◌, arith, Result, Ok, Err, append_assoc, append-nil, drop, take, take-append-drop}
use Rattle.std.specs.Prelude.{Some, None, IfSome}
use Rattle.uf_cid.specs.Blocks.{Lookup}
use Rattle.uf_edge.specs.Streams.{AppendsPrefix, Told as Sent, after}
use Rattle.uf_store.specs.Contents.{Contents, Told, held_at}
use Rattle.uf_tree.specs.Nodes.{capped}
use Rattle.uf_lenient.specs.declared.fault.DagFault.{DagFault}
use Rattle.uf_lenient.specs.declared.fault.StreamFault.{StreamFault}
use Rattle.uf_lenient.specs.Answers.{IsFault}
use Rattle.uf_lenient.specs.Steps.{IsNextPiece, Rest, prefixed, to_come}
use Rattle.uf_lenient.specs.Streams.{HasSent, IsFileFront, SendsFront, Streams}
use Rattle.uf_lenient.proofs.Saying.{fault-is, fault-then, on, on-both}

after-none : (held : Sent) → held ≡ after held []
after-none None = refl
after-none (Some bytes) = ap (λ (l : List ℕ). Some l) (sym (append-nil bytes))

after-more : (held : Sent) (a b : List ℕ) → after (after held a) b ≡ after held (a ++ b)
after-more None a b = refl
after-more (Some bytes) a b = ap (λ (l : List ℕ). Some l) (append_assoc bytes a b)

front-none : (r : Result (List ℕ) DagFault) → r ≡ prefixed [] r
front-none (Ok bytes) = refl
front-none (Err e) = refl

front-more : (a b : List ℕ) (r : Result (List ℕ) DagFault) → prefixed a (prefixed b r) ≡ prefixed (a ++ b) r
front-more a b (Ok bytes) = ap (λ (l : List ℕ). Ok l) (sym (append_assoc a b bytes))
front-more a b (Err e) = refl

capped-more : (a b c : ℕ) → a ≡ capped c → min (a + b) (2 ^ 64 - 1) ≡ capped (c + b)
capped-more a b c is = omega (arith, is)

-- nothing was written yet
pub sent-none : (told : Told) (start : Rest) (held : Sent) → HasSent told start start held held 0
sent-none told start held = record { bytes = []; sent = after-none held; counted = refl; said = by told }
  where
    by : (told : Told) → IfSome told (λ t. to_come (held_at t) start ≡ prefixed [] (to_come (held_at t) start))
    by None = tt
    by (Some t) = front-none (to_come (held_at t) start)

-- a piece more was written
pub sent-more : (told later : Told) (start now next : Rest) (held held_now held_next : Sent) (count count_next : ℕ) (piece : List ℕ) → later ≡ told → HasSent told start now held held_now count
    → IfSome later (λ t. IsNextPiece (held_at t) now next (Ok (Some piece))) → held_next ≡ after held_now piece → count_next ≡ min (count + length piece) (2 ^ 64 - 1) → HasSent told start next held held_next count_next
sent-more told later start now next held held_now held_next count count_next piece same h moves sends counts = record {
  bytes = h.bytes ++ piece;
  sent = sends ∙ ap (λ s. after s piece) h.sent ∙ after-more held h.bytes piece;
  counted = counts ∙ capped-more count (length piece) (length h.bytes) h.counted ∙ ap capped (sym (length-append h.bytes piece));
  said = on-both told later same (λ t said moved. said ∙ ap (prefixed h.bytes) moved ∙ front-more h.bytes piece (to_come (held_at t) next)) h.said moves;
}

-- all was written
pub all-sent : (told later : Told) (start now next : Rest) (held held_now : Sent) (count : ℕ) → later ≡ told → HasSent told start now held held_now count → IfSome later (λ t. IsNextPiece (held_at t) now next (Ok None))
    → IfSome told (λ t. Streams (to_come (held_at t) start) held held_now (Ok count))
all-sent told later start now next held held_now count same h how_ends =
    on-both told later same (λ t said none. record { bytes = h.bytes; is = said ∙ ap (prefixed h.bytes) none ∙ ap (λ (l : List ℕ). Ok l) (append-nil h.bytes); sent = h.sent; counted = h.counted }) h.said how_ends

-- the next piece has a fault
pub not-sent : (told later : Told) (start now next : Rest) (held held_now : Sent) (count : ℕ) (fault : DagFault) → later ≡ told → HasSent told start now held held_now count → IfSome later (λ t. IsNextPiece (held_at t) now next (Err fault))
    → IfSome told (λ t. IsFault (to_come (held_at t) start) fault)
not-sent told later start now next held held_now count fault same h fails =
    on-both told later same (λ t said is. fault-is (prefixed h.bytes (to_come (held_at t) now)) (to_come (held_at t) start) fault said (fault-then (to_come (held_at t) now) (λ more. Ok (h.bytes ++ more)) fault is)) h.said fails

-- what was written is a front of the file
is_front : (front : List ℕ) (r said : Result (List ℕ) DagFault) → said ≡ prefixed front r → IsFileFront front said
is_front front (Ok bytes) said is = subst (IsFileFront front) (sym is) (bytes, refl)
is_front front (Err e) said is = subst (IsFileFront front) (sym is) tt

pub front-sent : (told : Told) (start now : Rest) (held held_now : Sent) (count : ℕ) → HasSent told start now held held_now count → SendsFront told (λ held. to_come held start) held held_now
front-sent told start now held held_now count h = record {
  front = h.bytes;
  sent = h.sent;
  is_front = on told (λ t said. is_front h.bytes (to_come (held_at t) now) (to_come (held_at t) start) said) h.said;
}

-- a front of the next piece was written too, and then the sink failed
cut : (n : ℕ) (l : List ℕ) → (rest : List ℕ) × (l ≡ take n l ++ rest)
cut n l = (drop n l, sym (take-append-drop n l))

more_front : (a b : List ℕ) (n : ℕ) (r said : Result (List ℕ) DagFault) → said ≡ prefixed a (prefixed b r) → IsFileFront (a ++ take n b) said
more_front a b n (Ok bytes) said is =
    let c = cut n b in
    subst (IsFileFront (a ++ take n b)) (sym is) (c.0 ++ bytes, ap (λ (l : List ℕ). a ++ (l ++ bytes)) c.1 ∙ ap (λ (l : List ℕ). a ++ l) (append_assoc (take n b) c.0 bytes) ∙ sym (append_assoc a (take n b) (c.0 ++ bytes)))
more_front a b n (Err e) said is = subst (IsFileFront (a ++ take n b)) (sym is) tt

pub part-sent : (told later : Told) (start now next : Rest) (held held_now held_next : Sent) (count : ℕ) (piece : List ℕ) → later ≡ told → HasSent told start now held held_now count
    → IfSome later (λ t. IsNextPiece (held_at t) now next (Ok (Some piece))) → AppendsPrefix piece held_now held_next → SendsFront told (λ held. to_come held start) held held_next
part-sent told later start now next held held_now held_next count piece same h moves part = record {
  front = h.bytes ++ take part.count piece;
  sent = part.appended ∙ ap (λ s. after s (take part.count piece)) h.sent ∙ after-more held h.bytes (take part.count piece);
  is_front = on-both told later same (λ t said moved. more_front h.bytes piece part.count (to_come (held_at t) next) (to_come (held_at t) start) (said ∙ ap (prefixed h.bytes) moved)) h.said moves;
}

-- what is said of what is to come from the start is said of the file
pub streams-file : (told : Told) (said : Contents → Result (List ℕ) DagFault) (other : Contents → Result (List ℕ) DagFault) (held now : Sent) (r : Result ℕ StreamFault) → ((t : Contents) → said t ≡ other t)
    → IfSome told (λ t. Streams (said t) held now r) → IfSome told (λ t. Streams (other t) held now r)
streams-file told said other held now r same streams = on told (λ t s. subst (λ x. Streams x held now r) (same t) s) streams

pub front-file : (told : Told) (said other : Lookup → Result (List ℕ) DagFault) (held now : Sent) → ((h : Lookup) → said h ≡ other h) → SendsFront told said held now → SendsFront told other held now
front-file told said other held now same s = record { front = s.front; sent = s.sent; is_front = on told (λ t f. subst (IsFileFront s.front) (same (held_at t)) f) s.is_front }
