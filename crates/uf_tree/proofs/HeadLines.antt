-- The lines of a Head, one after the other.
use Rattle.std.proofs.Common.{◌≡◌, ◌≢◌, ℕ, ◌+◌, ◌^◌, ◌<◌, ◌≤◌, List, [], ◌∷◌, ◌++◌, length, get_or, take, drop, refl, ap, append_assoc, arith, subst, sym, ◌∙◌, ◌⊎◌, inl, inr, Ok, Err, Result, Bool, true, false, cond, Option, None, Some, nat_eq}
use Rattle.std.specs.Prelude.{◌&&◌, ◌==◌, nat_le}
use Rattle.std.specs.Bool.{MatchBool}
use Rattle.std.specs.Cmp.Lexicographic.{pointwise}
use Rattle.std.specs.Fmt.{decimal}
use Rattle.std.specs.Option.{option_map}
use Rattle.std.specs.Str.{bytes_eq, is_utf8, IsUtf8}
use Rattle.std.specs.Str.Parse.{digits_value, ParsesUnsigned}
use Rattle.std.proofs.lemmas.Bool.{cases_Bool, eqb-true, eq-eqb, false≢true, false_from_ne_true}
use Rattle.std.proofs.lemmas.Bool.Decides.{nat_tests}
use Rattle.std.proofs.lemmas.Fmt.{IsAscii-decimal, decimal_is_IsNumeral, parse-decimal}
use Rattle.std.proofs.lemmas.List.{append-nil, drop_more, take_more, length-drop, nil_from_length}
use Rattle.std.proofs.lemmas.Slice.Eq.{bytes_eq-Decides}
use Rattle.std.proofs.lemmas.Str.{is_utf8-from_IsUtf8, IsUtf8-from_is_utf8, IsUtf8-from_ascii}
use Rattle.uf_cid.specs.Cid.{cid_text}
use Rattle.uf_cid.specs.Read.{cid_of_text}
use Rattle.uf_cid.specs.declared.cid.Cid.{Cid}
use Rattle.uf_cid.specs.declared.cid.CidFault.{CidFault}
use Rattle.uf_dagpb.proofs.Fronts.{too_short, cut_front, other_bytes}
use Rattle.uf_tree.proofs.Alike.{decides_bytes}
use Rattle.uf_tree.specs.HeadReading.{behind, is_node, line_at, node_of, number_in, root_in}
use Rattle.uf_tree.proofs.Twins.{both_true}

-- ---- a word in front

pub behind-front : (word rest : List ℕ) → behind word (word ++ rest) ≡ Some rest
unfolding behind
behind-front [] rest = refl
behind-front (w ∷ word) rest = let again = behind-front word rest in ap (λ b. cond b (behind word (word ++ rest)) None) (eq-eqb w w refl) ∙ again

behind-none : (word bytes : List ℕ) → ((rest : List ℕ) → bytes ≢ word ++ rest) → behind word bytes ≡ None
unfolding behind
behind-none [] bytes h = absurd (h bytes refl)
behind-none (w ∷ word) [] h = refl
behind-none (w ∷ word) (b ∷ bytes) h = by (behind-none word bytes) (cases_Bool (w == b))
  where
    by : (((rest : List ℕ) → bytes ≢ word ++ rest) → behind word bytes ≡ None) → ((w == b) ≡ true) ⊎ ((w == b) ≡ false) → cond (w == b) (behind word bytes) None ≡ None
    by again (inl t) = ap (λ x. cond x (behind word bytes) None) t ∙ again (λ rest e. h rest (let first : b ≡ w = sym (eqb-true w b t) in λ i. first i ∷ e i))
    by again (inr f) = ap (λ x. cond x (behind word bytes) None) f

pub behind_short : (word bytes : List ℕ) → length bytes < length word → None ≡ behind word bytes
behind_short word bytes h = sym (behind-none word bytes (too_short word bytes h))

pub behind_there : (word bytes front rest : List ℕ) (b : Bool) → front ≡ take (length word) bytes → rest ≡ drop (length word) bytes → b ≡ pointwise nat_eq front word → b ≡ true → Some rest ≡ behind word bytes
behind_there word bytes front rest b f r is holds =
    let same : front ≡ word = by b (decides_bytes b front word is) holds in
    let cut : bytes ≡ word ++ drop (length word) bytes = cut_front word bytes (length word) refl (sym f ∙ same) in
    ap (λ (x : List ℕ). Some x) r ∙ sym (ap (behind word) cut ∙ behind-front word (drop (length word) bytes))
  where
    by : (b : Bool) → MatchBool b (front ≡ word) (front ≡ word → ⊥) → b ≡ true → front ≡ word
    by true h t = h
    by false h t = absurd (false≢true t)

pub behind_other : (word bytes front : List ℕ) (b : Bool) → front ≡ take (length word) bytes → b ≡ pointwise nat_eq front word → b ≡ false → None ≡ behind word bytes
behind_other word bytes front b f is fails = sym (behind-none word bytes (other_bytes word bytes front b f is fails))

-- ---- a line

abbrev pub Cut : Type 0
Cut = Option (List ℕ × List ℕ)

abbrev pub after : List ℕ → Cut → Cut
after front o = option_map (λ (x : List ℕ × List ℕ). (front ++ x.0, x.1)) o

pub line_hit : (bytes front rest : List ℕ) (i : ℕ) → i < length bytes → get_or bytes i 0 ≡ 10 → front ≡ take i bytes → rest ≡ drop (i + 1) bytes → line_at bytes ≡ after (take i bytes) (line_at (drop i bytes)) → Some (front, rest) ≡ line_at bytes
unfolding line_at
line_hit bytes front rest i lt is f r so_far =
    let here : drop i bytes ≡ 10 ∷ drop (i + 1) bytes = drop_more bytes i 0 lt ∙ ap (λ (b : ℕ). b ∷ drop (i + 1) bytes) is in
    let found : line_at bytes ≡ Some (take i bytes ++ [], drop (i + 1) bytes) = so_far ∙ ap (λ (x : List ℕ). after (take i bytes) (line_at x)) here in
    let whole : take i bytes ++ [] ≡ front = append-nil (take i bytes) ∙ sym f in
    sym (found ∙ (λ j. Some (whole j, sym r j)))

regrouped : (front : List ℕ) (b : ℕ) (o : Cut) → after front (option_map (λ (x : List ℕ × List ℕ). (b ∷ x.0, x.1)) o) ≡ after (front ++ b ∷ []) o
regrouped front b None = refl
regrouped front b (Some x) = λ i. Some (sym (append_assoc front (b ∷ []) x.0) i, x.1)

pub line_on : (bytes : List ℕ) (i : ℕ) → i < length bytes → get_or bytes i 0 ≢ 10 → line_at bytes ≡ after (take i bytes) (line_at (drop i bytes)) → line_at bytes ≡ after (take (i + 1) bytes) (line_at (drop (i + 1) bytes))
unfolding line_at
line_on bytes i lt ne so_far =
    let b = get_or bytes i 0 in
    let other : (b == 10) ≡ false = false_from_ne_true (b == 10) (λ t. ne (eqb-true b 10 t)) in
    so_far ∙ ap (λ (x : List ℕ). after (take i bytes) (line_at x)) (drop_more bytes i 0 lt)
    ∙ ap (λ t. after (take i bytes) (cond t (Some ([], drop (i + 1) bytes)) (option_map (λ (x : List ℕ × List ℕ). (b ∷ x.0, x.1)) (line_at (drop (i + 1) bytes))))) other
    ∙ regrouped (take i bytes) b (line_at (drop (i + 1) bytes))
    ∙ ap (λ (x : List ℕ). after x (line_at (drop (i + 1) bytes))) (sym (take_more bytes i 0 lt))

pub line_end : (bytes : List ℕ) (i : ℕ) → length bytes ≤ i → line_at bytes ≡ after (take i bytes) (line_at (drop i bytes)) → None ≡ line_at bytes
unfolding line_at
line_end bytes i le so_far = sym (so_far ∙ ap (λ (x : List ℕ). after (take i bytes) (line_at x)) (nil_from_length (drop i bytes) (omega (arith, length-drop i bytes))))

-- ---- a number

decimal_text : (n : ℕ) → n < 2 ^ 32 → IsUtf8 (decimal n)
decimal_text n h = IsUtf8-from_ascii (decimal n) (IsAscii-decimal n (omega arith))

at_most : (a b : ℕ) → nat_le a b ≡ true → a ≤ b
at_most a b h = grind (arith, nat_tests)

same_ok : {E : Type 0} (r : Result ℕ E) (v n : ℕ) → r ≡ Ok v → r ≡ Ok n → v ≡ n
same_ok r v n p q = cc

number_none : (low high : ℕ) (text : List ℕ) → high < 2 ^ 32 → ((v : ℕ) → v < 2 ^ 32 → text ≡ decimal v → ⊥) → None ≡ number_in low high text
unfolding number_in
number_none low high text small h = by (cases_Bool test)
  where
    test : Bool
    test = is_utf8 text && bytes_eq (decimal (digits_value 10 text)) text && nat_le low (digits_value 10 text) && nat_le (digits_value 10 text) high

    by : (test ≡ true) ⊎ (test ≡ false) → None ≡ cond test (Some (digits_value 10 text)) None
    by (inl t) =
        let v = digits_value 10 text in
        let last = both_true (is_utf8 text && bytes_eq (decimal v) text && nat_le low v) (nat_le v high) t in
        let middle = both_true (is_utf8 text && bytes_eq (decimal v) text) (nat_le low v) last.0 in
        let first = both_true (is_utf8 text) (bytes_eq (decimal v) text) middle.0 in
        let most : v ≤ high = at_most v high last.1 in
        absurd (h v (omega arith) (sym ((bytes_eq-Decides (decimal v) text).0 first.1)))
    by (inr f) = sym (ap (λ b. cond b (Some (digits_value 10 text)) None) f)

pub number_no_text : (low high : ℕ) (text : List ℕ) → high < 2 ^ 32 → (IsUtf8 text → ⊥) → None ≡ number_in low high text
number_no_text low high text small bad = number_none low high text small (λ v lt e. bad (subst IsUtf8 (sym e) (decimal_text v lt)))

pub number_unread : {E : Type 0} (low high : ℕ) (text spelled : List ℕ) (e : E) → high < 2 ^ 32 → spelled ≡ text → ParsesUnsigned 32 10 spelled (Err e) → None ≡ number_in low high text
number_unread {E} low high text spelled e small s parsed =
    number_none low high text small (λ v lt is. let read : Err e ≡ Ok v = parse-decimal 32 v spelled (Err e) lt (omega arith) (s ∙ is) parsed in absurd cc)

pub number_other : {E : Type 0} (low high n : ℕ) (text spelled again : List ℕ) (r : Result ℕ E) (b : Bool) → high < 2 ^ 32 → spelled ≡ text → ParsesUnsigned 32 10 spelled r → r ≡ Ok n → again ≡ decimal n → b ≡ pointwise nat_eq again text → b ≡ false → None ≡ number_in low high text
number_other {E} low high n text spelled again r b small s parsed ok a is fails =
    number_none low high text small (λ v lt e.
    let read : r ≡ Ok v = parse-decimal 32 v spelled r lt (omega arith) (s ∙ e) parsed in
    let one : v ≡ n = same_ok r v n read ok in
    by b (decides_bytes b again text is) fails (a ∙ ap decimal (sym one) ∙ sym e))
  where
    by : (b : Bool) → MatchBool b (again ≡ text) (again ≡ text → ⊥) → b ≡ false → again ≡ text → ⊥
    by true h t e = false≢true (sym t)
    by false h t e = h e

pub number_some : (low high n : ℕ) (text : List ℕ) → n < 2 ^ 32 → text ≡ decimal n → number_in low high text ≡ cond (nat_le low n && nat_le n high) (Some n) None
unfolding number_in
number_some low high n text small e =
    let u : is_utf8 text ≡ true = is_utf8-from_IsUtf8 text (subst IsUtf8 (sym e) (decimal_text n small)) in
    let value : digits_value 10 text ≡ n = ap (digits_value 10) e ∙ (decimal_is_IsNumeral n (omega arith)).1 in
    let same : bytes_eq (decimal (digits_value 10 text)) text ≡ true = (bytes_eq-Decides (decimal (digits_value 10 text)) text).1 (ap decimal value ∙ sym e) in
    ap (λ (x : Bool). cond (x && bytes_eq (decimal (digits_value 10 text)) text && nat_le low (digits_value 10 text) && nat_le (digits_value 10 text) high) (Some (digits_value 10 text)) None) u
    ∙ ap (λ (x : Bool). cond (x && nat_le low (digits_value 10 text) && nat_le (digits_value 10 text) high) (Some (digits_value 10 text)) None) same
    ∙ ap (λ k. cond (nat_le low k && nat_le k high) (Some k) None) value

pub number_same : (low high n : ℕ) (text again : List ℕ) (b : Bool) (found : Option ℕ) → n < 2 ^ 32 → again ≡ decimal n → b ≡ pointwise nat_eq again text → b ≡ true → found ≡ cond (nat_le low n && nat_le n high) (Some n) None → found ≡ number_in low high text
number_same low high n text again b found small a is holds f = f ∙ sym (number_some low high n text small (sym (by b (decides_bytes b again text is) holds) ∙ a))
  where
    by : (b : Bool) → MatchBool b (again ≡ text) (again ≡ text → ⊥) → b ≡ true → again ≡ text
    by true h t = h
    by false h t = absurd (false≢true t)

-- ---- the root

pub root_no_text : (text : List ℕ) → (IsUtf8 text → ⊥) → None ≡ root_in text
unfolding root_in
root_no_text text bad = sym (ap (λ b. cond b (node_of text (cid_of_text text)) None) (false_from_ne_true (is_utf8 text) (λ t. bad (IsUtf8-from_is_utf8 text t))))

pub root_read : (text : List ℕ) (r : Result Cid CidFault) → IsUtf8 text → cid_of_text text ≡ r → root_in text ≡ node_of text r
unfolding root_in
root_read text r u e = ap (λ b. cond b (node_of text (cid_of_text text)) None) (is_utf8-from_IsUtf8 text u) ∙ ap (node_of text) e

pub root_unread : (text spelled : List ℕ) (f : CidFault) → IsUtf8 text → spelled ≡ text → Err f ≡ cid_of_text spelled → None ≡ root_in text
root_unread text spelled f u s e = sym (root_read text (Err f) u (sym (e ∙ ap cid_of_text s)))

pub root_raw : (text spelled : List ℕ) (c : Cid) (b : Bool) → IsUtf8 text → spelled ≡ text → Ok c ≡ cid_of_text spelled → b ≡ is_node c.codec → b ≡ false → None ≡ root_in text
root_raw text spelled c b u s e is fails = sym (root_read text (Ok c) u (sym (e ∙ ap cid_of_text s)) ∙ ap (λ t. cond (t && bytes_eq (cid_text c) text) (Some c) None) (sym is ∙ fails))

pub root_judged : (text spelled own slice : List ℕ) (c : Cid) (b t : Bool) → IsUtf8 text → spelled ≡ text → Ok c ≡ cid_of_text spelled → b ≡ is_node c.codec → b ≡ true → own ≡ cid_text c → slice ≡ own → t ≡ pointwise nat_eq slice text → cond t (Some c) None ≡ root_in text
root_judged text spelled own slice c b t u s e is holds o l q =
    sym (root_read text (Ok c) u (sym (e ∙ ap cid_of_text s)) ∙ ap (λ x. cond (x && bytes_eq (cid_text c) text) (Some c) None) (sym is ∙ holds)
    ∙ ap (λ x. cond x (Some c) None) (ap (λ (x : List ℕ). pointwise nat_eq x text) (sym (l ∙ o)) ∙ sym q))
