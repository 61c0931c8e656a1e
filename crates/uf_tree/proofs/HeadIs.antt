-- What is read as a Head is the text of that Head.
use Rattle.std.proofs.Common.{◌≡◌, ℕ, ◌≤◌, List, [], ◌∷◌, ◌++◌, length, refl, ap, append_assoc, arith, subst, sym, ◌∙◌, ◌⊎◌, inl, inr, Result, Ok, Err, Bool, true, false, cond, Option, None, Some}
use Rattle.std.specs.Prelude.{◌&&◌, ◌==◌, codes, flat_map, nat_le, IsTrue}
use Rattle.std.specs.Fmt.{decimal}
use Rattle.std.specs.Option.{option_and_then, option_map, option_or, ok_or}
use Rattle.std.specs.Str.{bytes_eq, is_utf8}
use Rattle.std.specs.Str.Parse.{digits_value}
use Rattle.std.proofs.lemmas.Bool.{cases_Bool, eqb-true}
use Rattle.std.proofs.lemmas.Bool.Decides.{nat_tests}
use Rattle.std.proofs.lemmas.List.{append-nil, nil_from_length}
use Rattle.std.proofs.lemmas.Slice.Eq.{bytes_eq-Decides}
use Rattle.uf_varint.specs.Fields.{◌>>=◌}
use Rattle.uf_cid.specs.Base32.{base32}
use Rattle.uf_cid.specs.Bytes.{IsBytes}
use Rattle.uf_cid.specs.Cid.{cid_bytes, cid_text}
use Rattle.uf_cid.specs.Read.{IsCid, alone, cid_at, cid_of_text, cid_spelled, is_padding, padded_bytes, spare, values_of}
use Rattle.uf_cid.specs.Unbase32.{AreBits, bits5, eights}
use Rattle.uf_cid.specs.declared.cid.Cid.{Cid}
use Rattle.uf_cid.specs.declared.cid.CidFault.{CidFault}
use Rattle.uf_cid.specs.declared.cid.CidFault.TheVariants as faults
use Rattle.uf_cid.specs.declared.cid.Codec.{Codec}
use Rattle.uf_cid.specs.declared.cid.Codec.TheVariants.{Raw, DagPb}
use Rattle.uf_cid.proofs.Again.{read_whole}
use Rattle.uf_tree.specs.declared.head_fault.HeadFault.{HeadFault}
use Rattle.uf_tree.specs.declared.head_fault.HeadFault.TheVariants as heads
use Rattle.uf_tree.specs.declared.profile.Head.{Head}
use Rattle.uf_tree.specs.HeadReading.{behind, version_line, first_line, head_reads, is_node, line_at, node_of, number_in, number_line, root_in, root_line, worded_at}
use Rattle.uf_tree.specs.Heads.{text_in, line, IsHeadOf}
use Rattle.uf_tree.specs.Profiles.{is_profile}
use Rattle.uf_tree.specs.Standing.{IsRefusedText}
use Rattle.uf_tree.proofs.HeadAgain.{head_again}
use Rattle.uf_tree.proofs.Twins.{both_true}

-- ---- what stands in an answer

module _ {A : Type 0} where
  some_is : (x y : A) → Some x ≡ Some y → x ≡ y
  some_is x y e = cc

  chosen : (b : Bool) (x y : A) → cond b (Some x) None ≡ Some y → (b ≡ true) × (x ≡ y)
  chosen true x y e = (refl, some_is x y e)
  chosen false x y e = absurd cc

module _ {A B : Type 0} where
  mapped : (f : A → B) (o : Option A) (y : B) → option_map f o ≡ Some y → (x : A) × (o ≡ Some x) × (f x ≡ y)
  mapped f None y e = absurd cc
  mapped f (Some x) y e = (x, refl, some_is (f x) y e)

  chained : (f : A → Option B) (o : Option A) (y : B) → option_and_then f o ≡ Some y → (x : A) × (o ≡ Some x) × (f x ≡ Some y)
  chained f None y e = absurd cc
  chained f (Some x) y e = (x, refl, e)

module _ {A E : Type 0} where
  abbrev ok : A → Result A E
  ok x = Ok x

  abbrev err : E → Result A E
  err e = Err e

  ok_is : (x y : A) → ok x ≡ ok y → x ≡ y
  ok_is x y e = cc

  not_ok : (fault : E) (x : A) → err fault ≡ ok x → ⊥
  not_ok fault x e = cc

  found : (o : Option A) (fault : E) (x : A) → ok_or o fault ≡ ok x → o ≡ Some x
  found None fault x e = absurd (not_ok fault x e)
  found (Some y) fault x e = ap (λ (z : A). Some z) (ok_is y x e)

  stepped : {B : Type 0} (r : Result A E) (f : A → Result B E) (y : B) → (r >>= f) ≡ Ok y → (x : A) × (r ≡ ok x) × (f x ≡ Ok y)
  stepped (Ok x) f y e = (x, refl, e)
  stepped (Err fault) f y e = absurd cc

-- ---- lines

behind_is : (word bytes rest : List ℕ) → behind word bytes ≡ Some rest → bytes ≡ word ++ rest
unfolding behind
behind_is [] bytes rest e = some_is bytes rest e
behind_is (w ∷ word) [] rest e = absurd cc
behind_is (w ∷ word) (b ∷ bytes) rest e = by (cases_Bool (w == b)) (behind_is word bytes rest)
  where
    by : ((w == b) ≡ true) ⊎ ((w == b) ≡ false) → (behind word bytes ≡ Some rest → bytes ≡ word ++ rest) → b ∷ bytes ≡ w ∷ word ++ rest
    by (inl t) later =
        let first : b ≡ w = sym (eqb-true w b t) in
        let tail : bytes ≡ word ++ rest = later (sym (ap (λ x. cond x (behind word bytes) None) t) ∙ e) in
        λ i. first i ∷ tail i
    by (inr f) later = absurd (no (sym (ap (λ x. cond x (behind word bytes) None) f) ∙ e))
      where
        no : None ≡ Some rest → ⊥
        no e = cc

line_is : (bytes : List ℕ) (l : List ℕ × List ℕ) → line_at bytes ≡ Some l → bytes ≡ l.0 ++ 10 ∷ l.1
unfolding line_at
line_is [] l e = absurd cc
line_is (b ∷ bytes) l e = by (cases_Bool (b == 10)) (line_is bytes)
  where
    by : ((b == 10) ≡ true) ⊎ ((b == 10) ≡ false) → ((l : List ℕ × List ℕ) → line_at bytes ≡ Some l → bytes ≡ l.0 ++ 10 ∷ l.1) → b ∷ bytes ≡ l.0 ++ 10 ∷ l.1
    by (inl t) later =
        let here : b ≡ 10 = eqb-true b 10 t in
        let same : ([], bytes) ≡ l = some_is ([], bytes) l (sym (ap (λ x. cond x (Some ([], bytes)) (option_map (λ (x : List ℕ × List ℕ). (b ∷ x.0, x.1)) (line_at bytes))) t) ∙ e) in
        ap (λ (n : ℕ). n ∷ bytes) here ∙ ap (λ (x : List ℕ × List ℕ). x.0 ++ 10 ∷ x.1) same
    by (inr f) later =
        let m = mapped (λ (x : List ℕ × List ℕ). (b ∷ x.0, x.1)) (line_at bytes) l (sym (ap (λ x. cond x (Some ([], bytes)) (option_map (λ (x : List ℕ × List ℕ). (b ∷ x.0, x.1)) (line_at bytes))) f) ∙ e) in
        ap (λ (x : List ℕ). b ∷ x) (later m.0 m.1) ∙ ap (λ (x : List ℕ × List ℕ). x.0 ++ 10 ∷ x.1) m.2

worded_is : (word bytes : List ℕ) (l : List ℕ × List ℕ) → worded_at word bytes ≡ Some l → bytes ≡ line word l.0 ++ l.1
worded_is word bytes l e =
    let cut = chained (λ (l : List ℕ × List ℕ). option_map (λ (text : List ℕ). (text, l.1)) (behind word l.0)) (line_at bytes) l e in
    let m = mapped (λ (text : List ℕ). (text, cut.0.1)) (behind word cut.0.0) l cut.2 in
    line_is bytes cut.0 cut.1
    ∙ ap (λ (x : List ℕ). x ++ 10 ∷ cut.0.1) (behind_is word cut.0.0 m.0 m.1)
    ∙ sym (append_assoc (word ++ m.0) (10 ∷ []) cut.0.1)
    ∙ ap (λ (x : List ℕ × List ℕ). line word x.0 ++ x.1) m.2

-- ---- a number

pub record InRange (low high n : ℕ) : Type 0 where
  pub least : low ≤ n
  pub most : n ≤ high

number_is : (low high n : ℕ) (text : List ℕ) → number_in low high text ≡ Some n → (text ≡ decimal n) × InRange low high n
unfolding number_in
number_is low high n text e =
    let v = digits_value 10 text in
    let c = chosen (is_utf8 text && bytes_eq (decimal v) text && nat_le low v && nat_le v high) v n e in
    let last = both_true (is_utf8 text && bytes_eq (decimal v) text && nat_le low v) (nat_le v high) c.0 in
    let middle = both_true (is_utf8 text && bytes_eq (decimal v) text) (nat_le low v) last.0 in
    let first = both_true (is_utf8 text) (bytes_eq (decimal v) text) middle.0 in
    (sym ((bytes_eq-Decides (decimal v) text).0 first.1) ∙ ap decimal c.1, subst (InRange low high) c.1 (record { least = at_most low v middle.1; most = at_most v high last.1 }))
  where
    at_most : (a b : ℕ) → nat_le a b ≡ true → a ≤ b
    at_most a b h = grind (arith, nat_tests)

number_line_is : (k low high : ℕ) (word bytes : List ℕ) (x : ℕ × List ℕ) → number_line k word low high bytes ≡ Ok x → (bytes ≡ line word (decimal x.0) ++ x.1) × InRange low high x.0
unfolding number_line
number_line_is k low high word bytes x e =
    let cut = stepped (ok_or (worded_at word bytes) (heads.Line k)) (λ (l : List ℕ × List ℕ). ok_or (number_in low high l.0) (heads.Number k) >>= λ n. Ok (n, l.1)) x e in
    let read = stepped (ok_or (number_in low high cut.0.0) (heads.Number k)) (λ (n : ℕ). Ok (n, cut.0.1)) x cut.2 in
    let n = number_is low high read.0 cut.0.0 (found (number_in low high cut.0.0) (heads.Number k) read.0 read.1) in
    let same : (read.0, cut.0.1) ≡ x = ok_is (read.0, cut.0.1) x read.2 in (
      worded_is word bytes cut.0 (found (worded_at word bytes) (heads.Line k) cut.0 cut.1) ∙ ap (λ (t : List ℕ). line word t ++ cut.0.1) n.0 ∙ ap (λ (y : ℕ × List ℕ). line word (decimal y.0) ++ y.1) same,
      subst (λ (y : ℕ × List ℕ). InRange low high y.0) same n.1,
    )

-- ---- a CID

five_bits : (vs : List ℕ) → AreBits (flat_map bits5 vs)
five_bits [] = tt
five_bits (v ∷ vs) = (omega arith, (omega arith, (omega arith, (omega arith, (omega arith, five_bits vs)))))

eights_bytes : (bs : List ℕ) → AreBits bs → IsBytes (eights bs)
eights_bytes (a ∷ b ∷ c ∷ d ∷ e ∷ f ∷ g ∷ h ∷ rest) p =
    (omega (arith, p.0, p.1.0, p.1.1.0, p.1.1.1.0, p.1.1.1.1.0, p.1.1.1.1.1.0, p.1.1.1.1.1.1.0, p.1.1.1.1.1.1.1.0), eights_bytes rest p.1.1.1.1.1.1.1.1)
eights_bytes [] p = tt
eights_bytes (a ∷ []) p = tt
eights_bytes (a ∷ b ∷ []) p = tt
eights_bytes (a ∷ b ∷ c ∷ []) p = tt
eights_bytes (a ∷ b ∷ c ∷ d ∷ []) p = tt
eights_bytes (a ∷ b ∷ c ∷ d ∷ e ∷ []) p = tt
eights_bytes (a ∷ b ∷ c ∷ d ∷ e ∷ f ∷ []) p = tt
eights_bytes (a ∷ b ∷ c ∷ d ∷ e ∷ f ∷ g ∷ []) p = tt

abbrev cid_ok : Cid → Result Cid CidFault
cid_ok c = Ok c

abbrev read_ok : Cid × ℕ → Result (Cid × ℕ) CidFault
read_ok x = Ok x

alone_is : (all : ℕ) (r : Result (Cid × ℕ) CidFault) (c : Cid) → alone all r ≡ Ok c → (used : ℕ) × (r ≡ Ok (c, used))
alone_is all (Err why) c e = absurd cc
alone_is all (Ok x) c e = by (x.1 == 34) (x.1 == all) e
  where
    by : (a b : Bool) → cond a (Err faults.Version) (cond b (cid_ok x.0) (Err faults.Trailing)) ≡ cid_ok c → (used : ℕ) × (read_ok x ≡ read_ok (c, used))
    by true b k = absurd (not_ok faults.Version c k)
    by false true k = (x.1, ap (λ (y : Cid). read_ok (y, x.1)) (ok_is x.0 c k))
    by false false k = absurd (not_ok faults.Trailing c k)

padded_whole : (bits : List ℕ) (c : Cid) → AreBits bits → cid_spelled (padded_bytes bits) ≡ Ok c → IsCid c
padded_whole bits c h e = by (is_padding (spare bits)) e
  where
    by : (b : Bool) → cid_spelled (cond b (Some (eights bits)) None) ≡ Ok c → IsCid c
    by true k = let a = alone_is (length (eights bits)) (cid_at (eights bits)) c k in read_whole c (eights bits) a.0 (eights_bytes bits h) a.1
    by false k = absurd cc

letters_whole : (o : Option (List ℕ)) (c : Cid) → cid_spelled (option_and_then (λ vs. padded_bytes (flat_map bits5 vs)) o) ≡ Ok c → IsCid c
letters_whole None c e = absurd cc
letters_whole (Some vs) c e = padded_whole (flat_map bits5 vs) c (five_bits vs) e

text_whole : (c : Cid) → cid_of_text (cid_text c) ≡ Ok c → IsCid c
unfolding cid_of_text
text_whole c e = letters_whole (values_of 97 (base32 (cid_bytes c))) c e

-- the text is that of the CID of a node
pub record IsRootOf (text : List ℕ) (c : Cid) : Type 0 where
  pub text_is : text ≡ cid_text c
  pub whole : IsCid c
  pub node : c.codec ≡ DagPb

codec_is : (codec : Codec) → is_node codec ≡ true → codec ≡ DagPb
codec_is Raw h = absurd cc
codec_is DagPb h = refl

node_is : (text : List ℕ) (r : Result Cid CidFault) (c : Cid) → cid_of_text text ≡ r → node_of text r ≡ Some c → IsRootOf text c
node_is text (Err f) c read e = absurd cc
node_is text (Ok x) c read e =
    let k = chosen (is_node x.codec && bytes_eq (cid_text x) text) x c e in
    let both = both_true (is_node x.codec) (bytes_eq (cid_text x) text) k.0 in
    let same : cid_text x ≡ text = (bytes_eq-Decides (cid_text x) text).0 both.1 in
    subst (IsRootOf text) k.1 (record { text_is = sym same; whole = text_whole x (ap cid_of_text same ∙ read); node = codec_is x.codec both.0 })

root_is : (text : List ℕ) (c : Cid) → root_in text ≡ Some c → IsRootOf text c
unfolding root_in
root_is text c e = by (is_utf8 text) e
  where
    by : (b : Bool) → cond b (node_of text (cid_of_text text)) None ≡ Some c → IsRootOf text c
    by true k = node_is text (cid_of_text text) c refl k
    by false k = absurd cc

root_line_is : (bytes : List ℕ) (x : Cid × List ℕ) → root_line bytes ≡ Ok x → (bytes ≡ line (codes "root ") (cid_text x.0) ++ x.1) × IsRootOf (cid_text x.0) x.0
unfolding root_line
root_line_is bytes x e =
    let cut = stepped (ok_or (worded_at (codes "root ") bytes) (heads.Line 5)) (λ (l : List ℕ × List ℕ). ok_or (root_in l.0) heads.Root >>= λ c. Ok (c, l.1)) x e in
    let read = stepped (ok_or (root_in cut.0.0) heads.Root) (λ (c : Cid). Ok (c, cut.0.1)) x cut.2 in
    let root = root_is cut.0.0 read.0 (found (root_in cut.0.0) heads.Root read.0 read.1) in
    let same : (read.0, cut.0.1) ≡ x = ok_is (read.0, cut.0.1) x read.2 in (
      worded_is (codes "root ") bytes cut.0 (found (worded_at (codes "root ") bytes) (heads.Line 5) cut.0 cut.1)
          ∙ ap (λ (t : List ℕ). line (codes "root ") t ++ cut.0.1) root.text_is ∙ ap (λ (y : Cid × List ℕ). line (codes "root ") (cid_text y.0) ++ y.1) same,
      subst (λ (y : Cid × List ℕ). IsRootOf (cid_text y.0) y.0) same (record { text_is = refl; whole = root.whole; node = root.node }),
    )

-- ---- the whole

first_line_is : (bytes rest : List ℕ) → first_line bytes ≡ Ok rest
    → (bytes ≡ line (codes "unixfs-head ") (codes "2") ++ rest) ⊎ (bytes ≡ line (codes "unixfs-head ") (codes "1") ++ rest)
unfolding first_line
first_line_is bytes rest e = by (version_line (codes "2") bytes) refl (found (option_or (version_line (codes "2") bytes) (version_line (codes "1") bytes)) heads.Version rest e)
  where
    by : (o : Option (List ℕ)) → version_line (codes "2") bytes ≡ o → option_or o (version_line (codes "1") bytes) ≡ Some rest
        → (bytes ≡ line (codes "unixfs-head ") (codes "2") ++ rest) ⊎ (bytes ≡ line (codes "unixfs-head ") (codes "1") ++ rest)
    by (Some r) is k = inl (behind_is (line (codes "unixfs-head ") (codes "2")) bytes rest (is ∙ k))
    by None is k = inr (behind_is (line (codes "unixfs-head ") (codes "1")) bytes rest k)

accepted : (chunk width threshold : ℕ) → InRange 1 1048576 chunk → InRange 2 1024 width → InRange 0 1048576 threshold → IsTrue (is_profile (record { chunk = chunk; width = width; threshold = threshold }))
accepted chunk width threshold a b c = grind (arith, nat_tests, a.least, a.most, b.least, b.most, c.most)

grouped : (a b c d e : List ℕ) → a ++ (b ++ (c ++ (d ++ (e ++ [])))) ≡ (((a ++ b) ++ c) ++ d) ++ e
grouped a b c d e = simp (append_assoc, append-nil)

behind_one_another : (bytes a after_a b after_b c after_c d after_d e after_e : List ℕ) → bytes ≡ a ++ after_a → after_a ≡ b ++ after_b → after_b ≡ c ++ after_c → after_c ≡ d ++ after_d → after_d ≡ e ++ after_e → after_e ≡ []
    → bytes ≡ (((a ++ b) ++ c) ++ d) ++ e
behind_one_another bytes a after_a b after_b c after_c d after_d e after_e p q r s t u =
    p ∙ ap (λ (x : List ℕ). a ++ x) (q ∙ ap (λ (x : List ℕ). b ++ x) (r ∙ ap (λ (x : List ℕ). c ++ x) (s ∙ ap (λ (x : List ℕ). d ++ x) (t ∙ ap (λ (x : List ℕ). e ++ x) u))))
    ∙ grouped a b c d e

abbrev head_of : ℕ → ℕ → ℕ → Cid → Head
head_of chunk width threshold root = record { profile = record { chunk = chunk; width = width; threshold = threshold }; root = root }

end_is : (chunk width threshold : ℕ) (root : Cid) (rest : List ℕ) (head : Head) → cond (length rest == 0) (Ok (head_of chunk width threshold root)) (Err (heads.Line 6)) ≡ Ok head
    → (rest ≡ []) × (head_of chunk width threshold root ≡ head)
end_is chunk width threshold root rest head e = by (cases_Bool (length rest == 0))
  where
    by : ((length rest == 0) ≡ true) ⊎ ((length rest == 0) ≡ false) → (rest ≡ []) × (head_of chunk width threshold root ≡ head)
    by (inl t) = (nil_from_length rest (omega (arith, eqb-true (length rest) 0 t)), ok_is (head_of chunk width threshold root) head (sym (ap (λ b. cond b (Ok (head_of chunk width threshold root)) (Err (heads.Line 6))) t) ∙ e))
    by (inr f) = absurd (not_ok (heads.Line 6) head (sym (ap (λ b. cond b (Ok (head_of chunk width threshold root)) (Err (heads.Line 6))) f) ∙ e))

abbrev after_root : ℕ → ℕ → ℕ → Cid × List ℕ → Result Head HeadFault
after_root chunk width threshold root = cond (length root.1 == 0) (Ok (head_of chunk width threshold root.0)) (Err (heads.Line 6))

abbrev after_threshold : ℕ → ℕ → ℕ × List ℕ → Result Head HeadFault
after_threshold chunk width threshold = root_line threshold.1 >>= after_root chunk width threshold.0

abbrev after_width : ℕ → ℕ × List ℕ → Result Head HeadFault
after_width chunk width = number_line 4 (codes "threshold ") 0 1048576 width.1 >>= after_threshold chunk width.0

abbrev after_chunk : ℕ × List ℕ → Result Head HeadFault
after_chunk chunk = number_line 3 (codes "width ") 2 1024 chunk.1 >>= after_width chunk.0

abbrev after_first : List ℕ → Result Head HeadFault
after_first one = number_line 2 (codes "chunk ") 1 1048576 one >>= after_chunk

in_turn : (bytes one two three four rest : List ℕ) (chunk width threshold : ℕ) (root : Cid) (head : Head) → first_line bytes ≡ Ok one → number_line 2 (codes "chunk ") 1 1048576 one ≡ Ok (chunk, two)
    → number_line 3 (codes "width ") 2 1024 two ≡ Ok (width, three) → number_line 4 (codes "threshold ") 0 1048576 three ≡ Ok (threshold, four) → root_line four ≡ Ok (root, rest)
    → after_root chunk width threshold (root, rest) ≡ Ok head → IsHeadOf bytes head
unfolding text_in
in_turn bytes one two three four rest chunk width threshold root head first second third fourth fifth last =
    let ended = end_is chunk width threshold root rest head last in
    let c = number_line_is 2 1 1048576 (codes "chunk ") one (chunk, two) second in
    let w = number_line_is 3 2 1024 (codes "width ") two (width, three) third in
    let t = number_line_is 4 0 1048576 (codes "threshold ") three (threshold, four) fourth in
    let r = root_line_is four (root, rest) fifth in
    subst (IsHeadOf bytes) ended.1 (record {
      profile = accepted chunk width threshold c.1 w.1 t.1;
      root = r.1.whole;
      node = r.1.node;
      text = elim (first_line_is bytes one first) [
        | inl q ↦ inl (behind_one_another bytes (line (codes "unixfs-head ") (codes "2")) one (line (codes "chunk ") (decimal chunk)) two (line (codes "width ") (decimal width)) three
            (line (codes "threshold ") (decimal threshold)) four (line (codes "root ") (cid_text root)) rest q c.0 w.0 t.0 r.0 ended.0)
        | inr q ↦ inr (behind_one_another bytes (line (codes "unixfs-head ") (codes "1")) one (line (codes "chunk ") (decimal chunk)) two (line (codes "width ") (decimal width)) three
            (line (codes "threshold ") (decimal threshold)) four (line (codes "root ") (cid_text root)) rest q c.0 w.0 t.0 r.0 ended.0)
      ];
    })

pub head_is : (bytes : List ℕ) (head : Head) → head_reads bytes ≡ Ok head → IsHeadOf bytes head
unfolding head_reads
head_is bytes head e =
    let a = stepped (first_line bytes) after_first head e in
    let b = stepped (number_line 2 (codes "chunk ") 1 1048576 a.0) after_chunk head a.2 in
    let c = stepped (number_line 3 (codes "width ") 2 1024 b.0.1) (after_width b.0.0) head b.2 in
    let d = stepped (number_line 4 (codes "threshold ") 0 1048576 c.0.1) (after_threshold b.0.0 c.0.0) head c.2 in
    let f = stepped (root_line d.0.1) (after_root b.0.0 c.0.0 d.0.0) head d.2 in
    in_turn bytes a.0 b.0.1 c.0.1 d.0.1 f.0.1 b.0.0 c.0.0 d.0.0 f.0.0 head a.1 b.1 c.1 d.1 f.1 f.2

-- a text that isn't read is none of a Head
pub head_is_not : (bytes : List ℕ) (fault : HeadFault) → head_reads bytes ≡ Err fault → IsRefusedText bytes
head_is_not bytes fault e p c ok whole node is = absurd (not_ok fault (record { profile = p; root = c }) (sym e ∙ head_again bytes p c ok whole node is))

-- ---- line by line

abbrev Told : HeadFault → List ℕ → Type 0
Told fault bytes = (fault ≡ heads.Memory) ⊎ IsRefusedText bytes

turned : {X : Type 0} (bytes : List ℕ) (fault : HeadFault) (r : Result X HeadFault) → (r ≡ Err fault → head_reads bytes ≡ Err fault) → (fault ≡ heads.Memory) ⊎ (r ≡ Err fault) → Told fault bytes
turned bytes fault r on (inl m) = inl m
turned bytes fault r on (inr e) = inr (head_is_not bytes fault (on e))

abbrev Line : ℕ → List ℕ → ℕ → ℕ → List ℕ → ℕ → List ℕ → Type 0
Line k word low high bytes n rest = number_line k word low high bytes ≡ Ok (n, rest)

module _ (bytes one : List ℕ) (first : first_line bytes ≡ Ok one) where
  pub no_chunk : (f : HeadFault) → (f ≡ heads.Memory) ⊎ (number_line 2 (codes "chunk ") 1 1048576 one ≡ Err f) → Told f bytes
  unfolding head_reads
  no_chunk f = turned bytes f (number_line 2 (codes "chunk ") 1 1048576 one) (λ e. rw (first, e) refl)

  module _ (chunk : ℕ) (two : List ℕ) (second : Line 2 (codes "chunk ") 1 1048576 one chunk two) where
    pub no_width : (f : HeadFault) → (f ≡ heads.Memory) ⊎ (number_line 3 (codes "width ") 2 1024 two ≡ Err f) → Told f bytes
    unfolding head_reads
    no_width f = turned bytes f (number_line 3 (codes "width ") 2 1024 two) (λ e. rw (first, second, e) refl)

    module _ (width : ℕ) (three : List ℕ) (third : Line 3 (codes "width ") 2 1024 two width three) where
      pub no_threshold : (f : HeadFault) → (f ≡ heads.Memory) ⊎ (number_line 4 (codes "threshold ") 0 1048576 three ≡ Err f) → Told f bytes
      unfolding head_reads
      no_threshold f = turned bytes f (number_line 4 (codes "threshold ") 0 1048576 three) (λ e. rw (first, second, third, e) refl)

      module _ (threshold : ℕ) (four : List ℕ) (fourth : Line 4 (codes "threshold ") 0 1048576 three threshold four) where
        pub no_root : (f : HeadFault) → (f ≡ heads.Memory) ⊎ (root_line four ≡ Err f) → Told f bytes
        unfolding head_reads
        no_root f = turned bytes f (root_line four) (λ e. rw (first, second, third, fourth, e) refl)

        module _ (root : Cid) (rest : List ℕ) (fifth : root_line four ≡ Ok (root, rest)) where
          pub all_lines : (b : Bool) → b ≡ (length rest == 0) → b ≡ true → IsHeadOf bytes (head_of chunk width threshold root)
          unfolding head_reads
          all_lines b is holds = let e : (length rest == 0) ≡ true = sym is ∙ holds in head_is bytes (head_of chunk width threshold root) (rw (first, second, third, fourth, fifth, e) refl)

          pub more_lines : (b : Bool) → b ≡ (length rest == 0) → b ≡ false → IsRefusedText bytes
          unfolding head_reads
          more_lines b is fails = let e : (length rest == 0) ≡ false = sym is ∙ fails in head_is_not bytes (heads.Line 6) (rw (first, second, third, fourth, fifth, e) refl)

pub no_first : (bytes : List ℕ) (f : HeadFault) → (f ≡ heads.Memory) ⊎ (first_line bytes ≡ Err f) → Told f bytes
unfolding head_reads
no_first bytes f = turned bytes f (first_line bytes) (λ e. rw e refl)
