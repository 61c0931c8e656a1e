-- The text of a CAR.
use Rattle.std.proofs.Common.{◌≡◌, ℕ, zero, suc, ◌+◌, List, [], ◌∷◌, ◌++◌, length, take, drop, refl, sym, ap, ◌∙◌, arith, append_assoc, append-nil, length-append}
use Rattle.std.proofs.lemmas.List.{take-append-drop, take_all, take_at}
use Rattle.std.specs.Prelude.{Some, None, Option, slice_get}
use Rattle.uf_car.specs.Exporting.{WritesAll}
use Rattle.uf_varint.specs.Varint.{varint, varint_within}
use Rattle.uf_cid.specs.Blocks.{Held, Lookup}
use Rattle.uf_cid.specs.Cid.{cid_bytes}
use Rattle.uf_cid.specs.Read.{IsCid}
use Rattle.uf_cid.specs.declared.cid.Cid.{Cid}
use Rattle.uf_edge.specs.Streams.{AppendsPrefix, Sends, Told, after}
use Rattle.uf_edge.specs.declared.streams.Sent.{Sent}
use Rattle.uf_edge.specs.declared.streams.Sent.TheVariants.{Done, Failed}
use Rattle.uf_edge.proofs.Appending.{after-after}
use Rattle.std.proofs.Math.Seq.{take-append-add}
use Rattle.std.proofs.lemmas.List.{take-append-le}
use Rattle.uf_car.specs.Text.{blocks_at, car_text, framed, header_bytes, link_key, roots_key, section_bytes, sections_bytes, version_key, with_held}

-- ---- the header

varint_58 : varint 58 ≡ 58 ∷ []
unfolding varint varint_within
varint_58 = refl

header_length : (root : Cid) → IsCid root → length (header_bytes root) ≡ 58
header_length root whole =
    let size : length (cid_bytes root ++ (version_key ++ (0x01 ∷ []))) ≡ length (cid_bytes root) + length (version_key ++ (0x01 ∷ [])) = length-append (cid_bytes root) (version_key ++ (0x01 ∷ [])) in
    let digest : length root.digest ≡ 32 = whole.size in
    omega (arith, size, digest)

pub header_is : (root : Cid) (bin one two three : List ℕ) → IsCid root → length bin ≡ 36 → bin ≡ cid_bytes root
    → take 14 one ≡ 58 ∷ (roots_key ++ (0x81 ∷ link_key))
    → take (14 + length bin) two ≡ take 14 one ++ bin
    → take 59 three ≡ take 50 two ++ (version_key ++ (0x01 ∷ []))
    → length three ≡ 59 → three ≡ framed (header_bytes root)
header_is root bin one two three whole n is a b c size =
    let front : take 50 two ≡ (58 ∷ (roots_key ++ (0x81 ∷ link_key))) ++ cid_bytes root = ap (λ (k : ℕ). take (14 + k) two) (sym n) ∙ b ∙ (λ i. a i ++ is i) in
    sym (take_all 59 three (omega arith))
    ∙ c ∙ ap (λ (xs : List ℕ). xs ++ (version_key ++ (0x01 ∷ []))) front
    ∙ append_assoc (58 ∷ (roots_key ++ (0x81 ∷ link_key))) (cid_bytes root) (version_key ++ (0x01 ∷ []))
    ∙ ap (λ (xs : List ℕ). xs ++ header_bytes root) (sym (ap varint (header_length root whole) ∙ varint_58))

-- ---- a section

section_is : (c : Cid) (bytes : List ℕ) → IsCid c → section_bytes (c, bytes) ≡ (varint (36 + length bytes) ++ cid_bytes c) ++ bytes
section_is c bytes whole =
    let size : length (cid_bytes c ++ bytes) ≡ length (cid_bytes c) + length bytes = length-append (cid_bytes c) bytes in
    let digest : length c.digest ≡ 32 = whole.size in
    let all : length (cid_bytes c ++ bytes) ≡ 36 + length bytes = omega (arith, size, digest) in
    ap (λ (n : ℕ). varint n ++ (cid_bytes c ++ bytes)) all ∙ sym (append_assoc (varint (36 + length bytes)) (cid_bytes c) bytes)

-- a front and what is written behind it
pub sends_both : (c : Cid) (bytes front : List ℕ) (answer : Sent) (out mid now : Told) → IsCid c → front ≡ varint (36 + length bytes) ++ cid_bytes c
    → mid ≡ after out front → Sends answer bytes mid now → Sends answer (section_bytes (c, bytes)) out now
sends_both c bytes front Done out mid now whole is wrote sent =
    sent ∙ ap (λ (t : Told). after t bytes) wrote ∙ after-after out front bytes ∙ ap (after out) (ap (λ (xs : List ℕ). xs ++ bytes) is ∙ sym (section_is c bytes whole))
sends_both c bytes front Failed out mid now whole is wrote sent =
    let size : length (section_bytes (c, bytes)) ≡ length front + length bytes = ap length (section_is c bytes whole ∙ ap (λ (xs : List ℕ). xs ++ bytes) (sym is)) ∙ length-append front bytes in
    record {
      count = length front + sent.count;
      fits = let few = sent.fits in omega (arith, size);
      appended =
          sent.appended ∙ ap (λ (t : Told). after t (take sent.count bytes)) wrote ∙ after-after out front (take sent.count bytes)
          ∙ ap (after out) (sym (take-append-add front bytes sent.count) ∙ ap (take (length front + sent.count)) (ap (λ (xs : List ℕ). xs ++ bytes) is ∙ sym (section_is c bytes whole)));
    }

pub sends_front : (c : Cid) (bytes front : List ℕ) (out now : Told) → IsCid c → front ≡ varint (36 + length bytes) ++ cid_bytes c
    → AppendsPrefix front out now → AppendsPrefix (section_bytes (c, bytes)) out now
sends_front c bytes front out now whole is sent =
    let size : length (section_bytes (c, bytes)) ≡ length front + length bytes = ap length (section_is c bytes whole ∙ ap (λ (xs : List ℕ). xs ++ bytes) (sym is)) ∙ length-append front bytes in
    record {
      count = sent.count;
      fits = let few = sent.fits in omega (arith, size);
      appended = sent.appended ∙ ap (after out) (sym (take-append-le sent.count front bytes sent.fits) ∙ ap (take sent.count) (ap (λ (xs : List ℕ). xs ++ bytes) is ∙ sym (section_is c bytes whole)));
    }

-- ---- the blocks of an order

blocks_append : (held : Lookup) (xs ys : List Cid) → blocks_at held (xs ++ ys) ≡ blocks_at held xs ++ blocks_at held ys
blocks_append held [] ys = refl
blocks_append held (x ∷ xs) ys = ap (with_held x (held x)) (blocks_append held xs ys) ∙ by (held x)
  where
    by : (o : Option (List ℕ)) → with_held x o (blocks_at held xs ++ blocks_at held ys) ≡ with_held x o (blocks_at held xs) ++ blocks_at held ys
    by None = refl
    by (Some bytes) = refl

sections_append : (xs ys : List Held) → sections_bytes (xs ++ ys) ≡ sections_bytes xs ++ sections_bytes ys
sections_append [] ys = refl
sections_append (x ∷ xs) ys = ap (λ (r : List ℕ). section_bytes x ++ r) (sections_append xs ys) ∙ sym (append_assoc (section_bytes x) (sections_bytes xs) (sections_bytes ys))

module _ (held : Lookup) (root : Cid) where
  text_append : (xs ys : List Cid) → car_text held root (xs ++ ys) ≡ car_text held root xs ++ sections_bytes (blocks_at held ys)
  text_append xs ys =
      ap (λ (bs : List Held). framed (header_bytes root) ++ sections_bytes bs) (blocks_append held xs ys)
      ∙ ap (λ (r : List ℕ). framed (header_bytes root) ++ r) (sections_append (blocks_at held xs) (blocks_at held ys))
      ∙ sym (append_assoc (framed (header_bytes root)) (sections_bytes (blocks_at held xs)) (sections_bytes (blocks_at held ys)))

  pub text_rest : (list : List Cid) (place : ℕ) → car_text held root list ≡ car_text held root (take place list) ++ sections_bytes (blocks_at held (drop place list))
  text_rest list place = ap (car_text held root) (sym (take-append-drop place list)) ∙ text_append (take place list) (drop place list)

  -- the text is that of the first CIDs, the section of the next, and what follows
  pub text_at : (list : List Cid) (place : ℕ) (c : Cid) (bytes : List ℕ) → slice_get list place ≡ Some c → held c ≡ Some bytes
      → car_text held root list ≡ car_text held root (take place list) ++ (section_bytes (c, bytes) ++ sections_bytes (blocks_at held (drop (suc place) list)))
  text_at list place c bytes at is =
      ap (car_text held root) (sym (take-append-drop place list))
      ∙ text_append (take place list) (drop place list)
      ∙ ap (λ (r : List ℕ). car_text held root (take place list) ++ r)
      (ap (λ (xs : List Cid). sections_bytes (blocks_at held xs)) (drop_at list place c at) ∙ ap (λ (o : Option (List ℕ)). sections_bytes (with_held c o (blocks_at held (drop (suc place) list)))) is)
    where
      drop_at : (xs : List Cid) (i : ℕ) (d : Cid) → slice_get xs i ≡ Some d → drop i xs ≡ d ∷ drop (suc i) xs
      drop_at [] i d e = cc
      drop_at (x ∷ xs) zero d e = let same : x ≡ d = cc in ap (λ (y : Cid). y ∷ xs) same
      drop_at (x ∷ xs) (suc i) d e = drop_at xs i d e

  pub text_more : (list : List Cid) (place : ℕ) (c : Cid) (bytes : List ℕ) → slice_get list place ≡ Some c → held c ≡ Some bytes
      → car_text held root (take (place + 1) list) ≡ car_text held root (take place list) ++ section_bytes (c, bytes)
  text_more list place c bytes at is =
      ap (car_text held root) (ap (λ (n : ℕ). take n list) (let e : place + 1 ≡ suc place = omega arith in e) ∙ take_at_more list place c at)
      ∙ text_append (take place list) (c ∷ [])
      ∙ ap (λ (r : List ℕ). car_text held root (take place list) ++ r) (ap (λ (o : Option (List ℕ)). sections_bytes (with_held c o [])) is ∙ append-nil (section_bytes (c, bytes)))
    where
      take_at_more : (xs : List Cid) (i : ℕ) (d : Cid) → slice_get xs i ≡ Some d → take (suc i) xs ≡ take i xs ++ d ∷ []
      take_at_more [] i d e = cc
      take_at_more (x ∷ xs) zero d e = let same : x ≡ d = cc in ap (λ (y : Cid). y ∷ []) same
      take_at_more (x ∷ xs) (suc i) d e = ap (λ (ys : List Cid). x ∷ ys) (take_at_more xs i d e)

  pub text_whole : (list : List Cid) (place : ℕ) → slice_get list place ≡ None → car_text held root (take place list) ≡ car_text held root list
  text_whole list place e = ap (car_text held root) (all list place e)
    where
      all : (xs : List Cid) (i : ℕ) → slice_get xs i ≡ None → take i xs ≡ xs
      all [] zero h = refl
      all [] (suc i) h = refl
      all (x ∷ xs) zero h = cc
      all (x ∷ xs) (suc i) h = ap (λ (ys : List Cid). x ∷ ys) (all xs i h)

-- ---- what a sink holds

module _ (text front : List ℕ) (n : ℕ) (out mid now : Told) (w : WritesAll front n out mid) where
  -- a part behind what was written
  pub part_behind : (piece rest : List ℕ) → text ≡ front ++ (piece ++ rest) → AppendsPrefix piece mid now → AppendsPrefix text out now
  part_behind piece rest is p =
      let size : length text ≡ length front + length (piece ++ rest) = ap length is ∙ length-append front (piece ++ rest) in
      let more : length (piece ++ rest) ≡ length piece + length rest = length-append piece rest in
      record {
        count = length front + p.count;
        fits = let few = p.fits in omega (arith, size, more);
        appended =
            p.appended ∙ ap (λ (t : Told). after t (take p.count piece)) w.written ∙ after-after out front (take p.count piece)
            ∙ ap (after out) (ap (λ (xs : List ℕ). front ++ xs) (sym (take-append-le p.count piece rest p.fits)) ∙ sym (take-append-add front (piece ++ rest) p.count) ∙ ap (take (length front + p.count)) (sym is));
      }

  -- nothing behind it
  pub nothing_behind : (rest : List ℕ) → text ≡ front ++ rest → now ≡ mid → AppendsPrefix text out now
  nothing_behind rest is same =
      let size : length text ≡ length front + length rest = ap length is ∙ length-append front rest in
      record {
        count = length front;
        fits = omega (arith, size);
        appended = same ∙ w.written ∙ ap (after out) (sym (take_at front rest (length front) refl) ∙ ap (take (length front)) (sym is));
      }

  pub written_more : (piece : List ℕ) (m : ℕ) → text ≡ front ++ piece → now ≡ after mid piece → m ≡ length piece → WritesAll text (n + m) out now
  written_more piece m is wrote size =
      let all : length text ≡ length front + length piece = ap length is ∙ length-append front piece in
      record {
        written = wrote ∙ ap (λ (t : Told). after t piece) w.written ∙ after-after out front piece ∙ ap (after out) (sym is);
        count = omega (arith, all, size, w.count);
      }

pub written_head : (root : Cid) (held : Lookup) (out now : Told) (none : List Cid) → IsCid root → none ≡ [] → now ≡ after out (framed (header_bytes root)) → WritesAll (car_text held root none) 59 out now
written_head root held out now none whole is wrote =
    let empty : car_text held root none ≡ framed (header_bytes root) = ap (car_text held root) is ∙ append-nil (framed (header_bytes root)) in
    let front : length (framed (header_bytes root)) ≡ length (varint (length (header_bytes root))) + length (header_bytes root) = length-append (varint (length (header_bytes root))) (header_bytes root) in
    let one : length (varint (length (header_bytes root))) ≡ 1 = ap length (ap varint (header_length root whole) ∙ varint_58) in
    let size : length (header_bytes root) ≡ 58 = header_length root whole in
    record { written = wrote ∙ ap (after out) (sym empty); count = sym (ap length empty ∙ (omega (arith, front, one, size))) }

pub head_part : (root : Cid) (held : Lookup) (list : List Cid) (out now : Told) → AppendsPrefix (framed (header_bytes root)) out now → AppendsPrefix (car_text held root list) out now
head_part root held list out now p = record {
  count = p.count;
  fits = let size = length-append (framed (header_bytes root)) (sections_bytes (blocks_at held list)) in let few = p.fits in omega (arith, size);
  appended = p.appended ∙ ap (after out) (sym (take-append-le p.count (framed (header_bytes root)) (sections_bytes (blocks_at held list)) p.fits));
}
