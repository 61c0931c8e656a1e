-- The list of writes that is made anew, write by write from the last one on, and a part of a map, CID by CID.
use Rattle.std.proofs.Common.{◌≡◌, ◌≢◌, ℕ, zero, suc, ◌+◌, ◌-◌, ◌<◌, ◌≤◌, List, [], ◌∷◌, ◌++◌, length, get_or, take, drop, take-suc, filter, T, reverse, Bool, true, false, cond, not, refl, sym, ap, subst, ◌∙◌, ◌||◌, arith, add-one, append-nil}
use Rattle.std.specs.Prelude.{fold, Some, None}
use Rattle.std.specs.declared.option.Option.{Option}
use Rattle.std.specs.FinMap.{get, insert, empty, get-empty, get-entries, get-insert, same_map, len, len-entries, entries, entries_sorted, entries-from_sorted, from_sorted, get-from_sorted, is_sorted}
use Rattle.std.specs.FinMap.Entries.{where_key, is_sorted-where_key, find-where_key}
use Rattle.std.specs.Cmp.{eq_by_cmp_equiv}
use Rattle.std.proofs.lemmas.List.Filters.{length-filter_both}
use Rattle.std.specs.List.{list_any}
use Rattle.std.specs.Ordering.{eq_by_cmp, is_eq}
use Rattle.std.proofs.lemmas.List.{drop_more, take_all, length-drop, nil_from_length, reverse-append, reverse-reverse}
use Rattle.uf_cid.specs.declared.cid.Cid.{Cid}
use Rattle.uf_cid.specs.Blocks.{Lookup}
use Rattle.uf_cid.specs.Cid.{cid_cmp}
use Rattle.uf_cid.specs.contracts.cid.CidOrd.TheImpl.{cmp-value}
use Rattle.uf_store.specs.declared.store.Write.{Write}
use Rattle.uf_store.specs.declared.store.Write.TheVariants.{Saved, Synced, Noted}
use Rattle.uf_store.specs.Contents.{Contents, HeldMap}
use Rattle.uf_store.specs.Sweeping.{AreSaved, is_among, is_saved, is_synced, last_saves, left_of, part_of, PutsSave, save_of, swept, synced_after, writes_of, with_block_of, with_found}
use Rattle.uf_store.proofs.Holding.{cid_cmp_total, cid_cmp-IsAntisymmetric, order_is}
use Rattle.uf_store.proofs.Keeping.{same_of}
use Rattle.uf_store.proofs.Sweeping.{get-part}
use Rattle.uf_store.proofs.Writing.{fold-append}

-- ---- syncs

pub synced-next : (ws : List Write) (place : ℕ) (w : Write) → place < length ws → w ≡ get_or ws place w → is_synced (take (place + 1) ws) ≡ synced_after (is_synced (take place ws)) w
synced-next ws place w inside there =
    ap is_synced (ap (λ n. take n ws) (add-one place) ∙ take-suc ws place w inside ∙ ap (λ (v : Write). take place ws ++ v ∷ []) (sym there))
    ∙ fold-append synced_after false (take place ws) (w ∷ [])

-- ---- saves, from the last write on

-- a write and those behind it
pub from-behind : (ws : List Write) (behind : ℕ) (w : Write) → behind < length ws → w ≡ get_or ws (length ws - 1 - behind) w
    → drop (length ws - (behind + 1)) ws ≡ w ∷ drop (length ws - behind) ws
from-behind ws behind w inside there =
    let at : ℕ = length ws - (behind + 1) in
    let here : at < length ws = omega (arith, inside) in
    let same : length ws - 1 - behind ≡ at = omega (arith, inside) in
    let next : at + 1 ≡ length ws - behind = omega (arith, inside) in
    drop_more ws at w here
    ∙ ap (λ (v : Write). v ∷ drop (at + 1) ws) (ap (λ n. get_or ws n w) (sym same) ∙ sym there)
    ∙ ap (λ n. w ∷ drop n ws) next

turned : (held : Lookup) (w : Write) (ws : List Write) → reverse (left_of held w ws) ≡ left_of held w ws
turned held (Saved cid bytes) ws = by (is_saved cid ws) (held cid)
  where
    by : (later : Bool) (here : Option (List ℕ)) → reverse (cond later [] (save_of cid here)) ≡ cond later [] (save_of cid here)
    by true here = refl
    by false None = refl
    by false (Some b) = refl
turned held Synced ws = refl
turned held (Noted which text) ws = refl

pub saves-next : (held : Lookup) (ws : List Write) (behind : ℕ) (w : Write) (saves now : List Write) → behind < length ws → w ≡ get_or ws (length ws - 1 - behind) w
    → saves ≡ reverse (last_saves held (drop (length ws - behind) ws)) → now ≡ saves ++ left_of held w (drop (length ws - behind) ws)
    → now ≡ reverse (last_saves held (drop (length ws - (behind + 1)) ws))
saves-next held ws behind w saves now inside there so put =
    let later = drop (length ws - behind) ws in
    put ∙ ap (λ (l : List Write). l ++ left_of held w later) so
    ∙ ap (λ (l : List Write). reverse (last_saves held later) ++ l) (sym (turned held w later))
    ∙ sym (reverse-append (left_of held w later) (last_saves held later))
    ∙ ap (λ (l : List Write). reverse (last_saves held l)) (sym (from-behind ws behind w inside there))

pub saved-next : (ws : List Write) (behind : ℕ) (w : Write) (cids : List Cid) → behind < length ws → w ≡ get_or ws (length ws - 1 - behind) w
    → AreSaved cids (w ∷ drop (length ws - behind) ws) → AreSaved cids (drop (length ws - (behind + 1)) ws)
saved-next ws behind w cids inside there are = subst (AreSaved cids) (sym (from-behind ws behind w inside there)) are

-- ---- CIDs that were seen

pub among-of : (c : Cid) (cids : List Cid) → list_any (λ d. is_eq (cmp-value.it c d)) cids ≡ is_among cids c
among-of c [] = refl
among-of c (d ∷ cids) = ap (λ r. is_eq r || list_any (λ d. is_eq (cmp-value.it c d)) cids) (order_is c d) ∙ ap (λ b. eq_by_cmp cid_cmp c d || b) (among-of c cids)

-- the CID of a save was noted
pub sees : (ws : List Write) (cid : Cid) (bytes : List ℕ) (cids now : List Cid) → AreSaved cids ws
    → ((q : Cid) → list_any (λ d. is_eq (cmp-value.it q d)) now ≡ cond (is_eq (cmp-value.it cid q)) true (list_any (λ d. is_eq (cmp-value.it q d)) cids))
    → AreSaved now (Saved cid bytes ∷ ws)
sees ws cid bytes cids now are updates c =
    sym (among-of c now) ∙ updates c
    ∙ ap (λ b. cond b true (list_any (λ d. is_eq (cmp-value.it c d)) cids)) (ap is_eq (order_is cid c) ∙ (eq_by_cmp_equiv cid_cmp_total).symm cid c)
    ∙ ap (cond (eq_by_cmp cid_cmp c cid) true) (among-of c cids ∙ are c)
    ∙ either (eq_by_cmp cid_cmp c cid) (is_saved c ws)
  where
    either : (a b : Bool) → cond a true b ≡ (a || b)
    either true b = refl
    either false b = refl

-- the save that is left of a save, where its CID is new, and where it isn't
pub left-known : (held : Lookup) (cid : Cid) (bytes : List ℕ) (ws : List Write) (cids : List Cid) (added : Bool) → AreSaved cids ws
    → added ≡ not (list_any (λ d. is_eq (cmp-value.it cid d)) cids) → left_of held (Saved cid bytes) ws ≡ cond added (save_of cid (held cid)) []
left-known held cid bytes ws cids added are is =
    by (is_saved cid ws) ∙ ap (λ b. cond b (save_of cid (held cid)) []) (sym (is ∙ ap not (among-of cid cids ∙ are cid)))
  where
    by : (b : Bool) → cond b [] (save_of cid (held cid)) ≡ cond (not b) (save_of cid (held cid)) []
    by true = refl
    by false = refl

-- what was put behind others where a CID was noted
pub put-known : (held : Lookup) (cid : Cid) (bytes : List ℕ) (ws : List Write) (cids now : List Cid) (added : Bool) (saves saves_now piece : List Write) → AreSaved cids ws
    → added ≡ not (list_any (λ d. is_eq (cmp-value.it cid d)) cids)
    → ((q : Cid) → list_any (λ d. is_eq (cmp-value.it q d)) now ≡ cond (is_eq (cmp-value.it cid q)) true (list_any (λ d. is_eq (cmp-value.it q d)) cids))
    → saves_now ≡ saves ++ piece → piece ≡ cond added (save_of cid (held cid)) [] → PutsSave held (Saved cid bytes) ws saves saves_now now
put-known held cid bytes ws cids now added saves saves_now piece are is updates put pieces = record {
  put = put ∙ ap (λ (l : List Write). saves ++ l) (pieces ∙ sym (left-known held cid bytes ws cids added are is));
  are_saved = sees ws cid bytes cids now are updates;
}

-- ---- a part of a map, CID by CID

among-append : (c d : Cid) (cids : List Cid) → is_among (cids ++ d ∷ []) c ≡ (eq_by_cmp cid_cmp c d || is_among cids c)
among-append c d [] = refl
among-append c d (e ∷ cids) = ap (λ b. eq_by_cmp cid_cmp c e || b) (among-append c d cids) ∙ by (eq_by_cmp cid_cmp c e) (eq_by_cmp cid_cmp c d) (is_among cids c)
  where
    by : (x y z : Bool) → (x || (y || z)) ≡ (y || (x || z))
    by true true z = refl
    by true false z = refl
    by false y z = refl

module _ (held : HeldMap) (cids : List Cid) (d : Cid) where
  -- what is held under the CIDs and one more
  more-found : (c : Cid) (tied : Bool) (found : Option (List ℕ)) → eq_by_cmp cid_cmp c d ≡ tied → get held d ≡ found
      → get (with_found found d (part_of held (is_among cids))) c ≡ cond (tied || is_among cids c) (get held c) None
  more-found c true None tie is =
      get-part held (is_among cids) c ∙ ap (λ (o : Option (List ℕ)). cond (is_among cids c) o None) none ∙ same (is_among cids c) ∙ sym none
    where
      none : get held c ≡ None
      none = ap (get held) (same_of c d tie) ∙ is

      same : (b : Bool) → ◌≡◌ {A = Option (List ℕ)} (cond b None None) None
      same true = refl
      same false = refl
  more-found c true (Some bytes) tie is =
      get-insert cid_cmp_total (part_of held (is_among cids)) d bytes c
      ∙ ap (λ b. cond b (Some bytes) (get (part_of held (is_among cids)) c)) tie
      ∙ sym (ap (get held) (same_of c d tie) ∙ is)
  more-found c false None tie is = get-part held (is_among cids) c
  more-found c false (Some bytes) tie is =
      get-insert cid_cmp_total (part_of held (is_among cids)) d bytes c
      ∙ ap (λ b. cond b (Some bytes) (get (part_of held (is_among cids)) c)) tie
      ∙ get-part held (is_among cids) c

  part-more : with_block_of held d (part_of held (is_among cids)) ≡ part_of held (is_among (cids ++ d ∷ []))
  part-more = same_map cid_cmp_total cid_cmp-IsAntisymmetric (with_block_of held d (part_of held (is_among cids))) (part_of held (is_among (cids ++ d ∷ []))) (λ c.
      more-found c (eq_by_cmp cid_cmp c d) (get held d) refl refl
      ∙ ap (λ (b : Bool). cond b (get held c) None) (sym (among-append c d cids))
      ∙ sym (get-part held (is_among (cids ++ d ∷ [])) c))

pub part-next : (held : HeldMap) (cids : List Cid) (place : ℕ) (d : Cid) (m now : HeldMap) → place < length cids
    → m ≡ part_of held (is_among (take place cids)) → now ≡ with_block_of held (get_or cids place d) m → now ≡ part_of held (is_among (take (place + 1) cids))
part-next held cids place d m now inside so put =
    put ∙ ap (with_block_of held (get_or cids place d)) so ∙ part-more held (take place cids) (get_or cids place d)
    ∙ ap (λ (l : List Cid). part_of held (is_among l)) (sym (ap (λ n. take n cids) (add-one place) ∙ take-suc cids place d inside))

pub part-none : (held : HeldMap) (m : HeldMap) → m ≡ empty → m ≡ part_of held (is_among [])
part-none held m is =
    is ∙ same_map cid_cmp_total cid_cmp-IsAntisymmetric empty (part_of held (is_among [])) (λ c. get-empty cid_cmp c ∙ sym (get-part held (is_among []) c))

-- all of a map
pub part-all : (held : HeldMap) → part_of held (λ c. true) ≡ held
part-all held = same_map cid_cmp_total cid_cmp-IsAntisymmetric (part_of held (λ c. true)) held (get-part held (λ c. true))

-- a part has no more blocks
few : (p : Cid × List ℕ → Bool) (es : List (Cid × List ℕ)) → length (filter p es) ≤ length es
few p es = let both = length-filter_both p (λ e. not (p e)) (λ e. refl) es in omega (arith, both)

pub part-few : (held : HeldMap) (stays : Cid → Bool) → len (part_of held stays) ≤ len held
part-few held stays =
    let es = where_key cid_cmp stays (entries held) in
    let sorted : T (is_sorted cid_cmp es) = is_sorted-where_key cid_cmp stays (entries held) (entries_sorted held) in
    let same : part_of held stays ≡ from_sorted es = same_map cid_cmp_total cid_cmp-IsAntisymmetric (part_of held stays) (from_sorted es) (λ c.
    get-part held stays c ∙ ap (λ (o : Option (List ℕ)). cond (stays c) o None) (get-entries held c)
    ∙ sym (get-from_sorted cid_cmp es c sorted ∙ find-where_key cid_cmp stays c (λ x tie. ap stays (sym (cid_cmp-IsAntisymmetric c x tie))) (entries held))) in
    let size : len (part_of held stays) ≡ length es = ap len same ∙ len-entries (from_sorted es) ∙ ap length (entries-from_sorted cid_cmp es sorted) in
    let all : len held ≡ length (entries held) = len-entries held in
    let less : length es ≤ length (entries held) = few (λ e. stays e.0) (entries held) in
    omega (arith, size, all, less)

-- ---- the first and the last moment of the loop over writes

behind-all : (ws : List Write) → drop (length ws - 0) ws ≡ []
behind-all ws = nil_from_length (drop (length ws - 0) ws) (let size = length-drop (length ws - 0) ws in omega (arith, size))

pub saves-none : (held : Lookup) (ws saves : List Write) → saves ≡ [] → saves ≡ reverse (last_saves held (drop (length ws - 0) ws))
saves-none held ws saves is = is ∙ ap (λ (l : List Write). reverse (last_saves held l)) (sym (behind-all ws))

pub saved-none : (ws : List Write) (cids : List Cid) → cids ≡ [] → AreSaved cids (drop (length ws - 0) ws)
saved-none ws cids is = subst (λ (l : List Cid). AreSaved l (drop (length ws - 0) ws)) (sym is) (subst (AreSaved []) (sym (behind-all ws)) (λ c. refl))

pub saves-whole : (held : Lookup) (ws saves : List Write) (behind : ℕ) → length ws ≤ behind → saves ≡ reverse (last_saves held (drop (length ws - behind) ws)) → reverse saves ≡ last_saves held ws
saves-whole held ws saves behind past so =
    let none : length ws - behind ≡ 0 = omega (arith, past) in
    ap reverse so ∙ reverse-reverse (last_saves held (drop (length ws - behind) ws)) ∙ ap (λ n. last_saves held (drop n ws)) none

-- what there is to put under a new CID: the block that is held, or nothing
pub put-one : (held : Lookup) (cid : Cid) (added : Bool) (block copy : List ℕ) → added ≡ true → Some block ≡ held cid → copy ≡ block
    → Saved cid copy ∷ [] ≡ cond added (save_of cid (held cid)) []
put-one held cid added block copy new is same =
    sym (ap (λ b. cond b (save_of cid (held cid)) []) new ∙ ap (save_of cid) (sym is) ∙ ap (λ (b : List ℕ). Saved cid b ∷ []) (sym same))

pub put-nothing : (held : Lookup) (cid : Cid) (added : Bool) → held cid ≡ None → [] ≡ cond added (save_of cid (held cid)) []
put-nothing held cid added is = sym (ap (λ o. cond added (save_of cid o) []) is ∙ by added)
  where
    by : (b : Bool) → ◌≡◌ {A = List Write} (cond b [] []) []
    by true = refl
    by false = refl

-- the front of two lists
pub take-front : {A : Type 0} (n : ℕ) (xs ys : List A) → length xs ≡ n → take n (xs ++ ys) ≡ xs
take-front zero [] ys e = refl
take-front zero (x ∷ xs) ys e = absurd (omega (arith, e))
take-front (suc n) [] ys e = absurd (omega (arith, e))
take-front (suc n) (x ∷ xs) ys e = let again = take-front n xs ys (omega (arith, e)) in λ i. x ∷ again i

pub part-whole : (held : HeldMap) (cids all : List Cid) (place : ℕ) → length cids ≤ place → cids ≡ all → part_of held (is_among (take place cids)) ≡ part_of held (is_among all)
part-whole held cids all place past is = ap (λ (l : List Cid). part_of held (is_among l)) (take_all place cids past ∙ is)

-- the blocks that are left, the notes, and the writes that make them
pub relisted : (stays : Cid → Bool) (t : Contents) (m : HeldMap) (past ws : List Write) → m ≡ part_of t.held stays → past ≡ t.writes
    → ws ≡ writes_of (λ cid. get m cid) t.notes past → ◌≡◌ {A = Contents} (record { held = m; notes = t.notes; writes = ws }) (swept stays t)
relisted stays t m past ws is same so i = record {
  held = is i;
  notes = t.notes;
  writes = (so ∙ λ j. writes_of (λ cid. get (is j) cid) t.notes (same j)) i;
}
