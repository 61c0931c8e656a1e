-- How far the lines of a peer were answered.
use Rattle.std.proofs.Common.{◌≡◌, ℕ, zero, suc, ◌+◌, ◌-◌, ◌≤◌, ◌<◌, List, [], ◌∷◌, ◌++◌, length, Bool, true, false, append-nil, append_assoc, length-append, refl, sym, ap, subst, ◌∙◌, arith, Result, Ok, Err}
use Rattle.std.specs.Prelude.{Some, None, Option, IfSome, nat_lt, if◌then◌else◌}
use Rattle.std.proofs.lemmas.Grind.{flat_map-append}
use Rattle.uf_cid.specs.Blocks.{Lookup}
use Rattle.uf_cid.specs.declared.cid.Cid.{Cid}
use Rattle.uf_edge.proofs.Appending.{after-after}
use Rattle.uf_edge.specs.Streams.{AppendsPrefix, Told, after, before as in_front}
use Rattle.uf_lines.specs.LinesIn.{LinesIn, last_line, lines_in, long_lines, text_of, with_lines}
use Rattle.uf_lines.specs.Reading.{bytes_ahead, line_most, line_room, lines_ahead, lines_told, with_line_told}
use Rattle.uf_lines.specs.declared.lines.Lines.{Lines}
use Rattle.uf_pull.specs.declared.fault.ServeFault.{ServeFault}
use Rattle.uf_pull.specs.declared.fault.ServeFault.TheVariants as fault
use Rattle.uf_pull.specs.declared.want.PeerAsk.{PeerAsk}
use Rattle.uf_pull.specs.declared.want.PeerAsk.TheVariants.{Want, Done, Neither}
use Rattle.uf_pull.specs.Frames.{answer_bytes, serve_text}
use Rattle.uf_pull.specs.Serving.{SendsFrame, ServesLines, ServesAll}
use Rattle.uf_pull.specs.Wants.{Asked, ask_of, asked_by, asked_from, asked_in, asked_of, behind_lines, with_wants}
use Rattle.uf_pull.proofs.Written.{after-none, part-behind, part-front, part-more}

-- these blocks were asked for and answered, and what is asked for goes on behind them
pub record Far (held : Lookup) (limit : ℕ) (bytes : List ℕ) (out out_now : Told) (served room : ℕ) (ahead : Option LinesIn) : Type 0 where
  pub wants : List Cid
  pub given : List (List ℕ)
  pub rest : LinesIn
  pub is_ahead : ahead ≡ Some rest
  pub lines : lines_in 4096 limit bytes ≡ with_lines given rest
  pub room_is : room ≡ limit - length (text_of given)
  pub asked : asked_in limit bytes ≡ with_wants wants (asked_from (behind_lines limit (given ++ rest.lines) rest.whole) (served + 1) rest.lines)
  pub count : served ≡ length wants
  pub written : out_now ≡ after out (serve_text held wants)

text-append : (xs : List (List ℕ)) (line : List ℕ) → length (text_of (xs ++ line ∷ [])) ≡ length (text_of xs) + (length line + 1)
text-append [] line = let size : length (line ++ 10 ∷ []) ≡ length line + 1 = length-append line (10 ∷ []) in omega (arith, size)
text-append (x ∷ xs) line =
    let here : length (x ++ 10 ∷ text_of (xs ++ line ∷ [])) ≡ length x + (length (text_of (xs ++ line ∷ [])) + 1) = length-append x (10 ∷ text_of (xs ++ line ∷ [])) ∙ (omega arith) in
    let there : length (x ++ 10 ∷ text_of xs) ≡ length x + (length (text_of xs) + 1) = length-append x (10 ∷ text_of xs) ∙ (omega arith) in
    omega (arith, here, there, text-append xs line)

serve-append : (held : Lookup) (xs ys : List Cid) → serve_text held (xs ++ ys) ≡ serve_text held xs ++ serve_text held ys
serve-append held xs ys = flat_map-append (answer_bytes held) xs ys

-- the lines of a source that nothing was read of
pub first_lines : (w : Lines) (left : Told) (limit : ℕ) (bytes : List ℕ) → bytes_ahead w ≡ [] → line_room w ≡ limit → line_most w ≡ 4096 → left ≡ Some bytes → Some (lines_in 4096 limit bytes) ≡ lines_ahead w left
first_lines w left limit bytes none room most is = sym (λ i. lines_told (most i) (room i) (in_front (none i) (is i)))

-- at first
pub far_first : (held : Lookup) (limit : ℕ) (bytes : List ℕ) (out : Told) → Far held limit bytes out out 0 limit (Some (lines_in 4096 limit bytes))
far_first held limit bytes out = record {
  wants = [];
  given = [];
  rest = lines_in 4096 limit bytes;
  is_ahead = refl;
  lines = refl;
  room_is = omega arith;
  asked = refl;
  count = refl;
  written = after-none out;
}

module _ (held : Lookup) (limit : ℕ) (bytes : List ℕ) (out out_now : Told) (served room : ℕ) (ahead : Option LinesIn) (far : Far held limit bytes out out_now served room ahead) where
  -- what is asked for, where this is what the lines ahead ask for
  whole_text : (more : List Cid) (ends : Result Unit ServeFault) → asked_in limit bytes ≡ with_wants far.wants (record { wants = more; ends = ends }) → serve_text held (asked_in limit bytes).wants ≡ serve_text held far.wants ++ serve_text held more
  whole_text more ends is = ap (λ (a : Asked). serve_text held a.wants) is ∙ serve-append held far.wants more

  -- it was stopped there
  pub far_part : AppendsPrefix (serve_text held (asked_in limit bytes).wants) out out_now
  far_part =
      subst (λ (x : List ℕ). AppendsPrefix x out out_now) (sym (ap (λ (a : Asked). serve_text held a.wants) far.asked ∙ serve-append held far.wants _))
      (part-front (serve_text held far.wants) _ out out_now far.written)

  -- nothing more is asked for
  all_served : (ends : Result Unit ServeFault) → asked_in limit bytes ≡ with_wants far.wants (record { wants = []; ends = ends }) → ServesAll held (asked_in limit bytes) ends out out_now
  all_served ends is = record {
    ends_so = ap (λ (a : Asked). a.ends) is;
    written = far.written ∙ ap (after out) (sym (ap (λ (a : Asked). serve_text held a.wants) is ∙ ap (serve_text held) (append-nil far.wants)));
  }

  all_counted : (ends : Result Unit ServeFault) → asked_in limit bytes ≡ with_wants far.wants (record { wants = []; ends = ends }) → served ≡ length (asked_in limit bytes).wants
  all_counted ends is = far.count ∙ sym (ap (λ (a : Asked). length a.wants) is ∙ ap length (append-nil far.wants))

  -- the lines ahead
  rest_is : (r : LinesIn) → IfSome ahead (λ x. x ≡ r) → far.rest ≡ r
  rest_is r h = subst (λ (x : Option LinesIn). IfSome x (λ y. y ≡ r)) far.is_ahead h

  ends_with : (r : LinesIn) → far.rest ≡ r → asked_in limit bytes ≡ with_wants far.wants (asked_from (behind_lines limit (far.given ++ r.lines) r.whole) (served + 1) r.lines)
  ends_with r is = far.asked ∙ ap (λ (x : LinesIn). with_wants far.wants (asked_from (behind_lines limit (far.given ++ x.lines) x.whole) (served + 1) x.lines)) is

  -- the input has ended
  pub far_end : IfSome ahead (λ r. r ≡ last_line []) → ServesLines held (asked_in limit bytes) (Ok served) out out_now
  unfolding asked_from
  far_end h = (all_served (Ok tt) (ends_with (last_line []) (rest_is (last_line []) h)), all_counted (Ok tt) (ends_with (last_line []) (rest_is (last_line []) h)))

  -- too much came
  pub far_over : (f : ServeFault) → IfSome ahead (λ r. r ≡ long_lines) → f ≡ (if nat_lt 4096 room then fault.BadWant (served + 1) else fault.TooLong) → ServesLines held (asked_in limit bytes) (Err f) out out_now
  unfolding asked_from
  far_over f h is =
      let room_so : limit - length (text_of (far.given ++ [])) ≡ room = ap (λ (l : List (List ℕ)). limit - length (text_of l)) (append-nil far.given) ∙ sym far.room_is in
      let says : asked_in limit bytes ≡ with_wants far.wants (record { wants = []; ends = behind_lines limit (far.given ++ []) false (served + 1) }) = ends_with long_lines (rest_is long_lines h) in
      let here : behind_lines limit (far.given ++ []) false (served + 1) ≡ (if nat_lt 4096 room then Err (fault.BadWant (served + 1)) else Err fault.TooLong) =
      ap (λ (n : ℕ). if nat_lt 4096 n then Err (fault.BadWant (served + 1)) else Err fault.TooLong) room_so in
      by (nat_lt 4096 room) is (says ∙ ap (λ (e : Result Unit ServeFault). with_wants far.wants (record { wants = []; ends = e })) here)
    where
      by : (b : Bool) → f ≡ (if b then fault.BadWant (served + 1) else fault.TooLong)
          → asked_in limit bytes ≡ with_wants far.wants (record { wants = []; ends = (if b then Err (fault.BadWant (served + 1)) else Err fault.TooLong) })
          → ServesLines held (asked_in limit bytes) (Err f) out out_now
      by true e says = subst (λ (g : ServeFault). ServesLines held (asked_in limit bytes) (Err g) out out_now) (sym e) (all_served (Err (fault.BadWant (served + 1))) says)
      by false e says = subst (λ (g : ServeFault). ServesLines held (asked_in limit bytes) (Err g) out out_now) (sym e) (all_served (Err fault.TooLong) says)

  -- ---- a line came

  record Came (line : List ℕ) (now : Option LinesIn) : Type 0 where
    next : LinesIn
    is_next : now ≡ Some next
    is_first : far.rest ≡ with_lines (line ∷ []) next

  came : (line : List ℕ) (now : Option LinesIn) → ahead ≡ with_line_told line now → Came line now
  came line None is = absurd (let no : ◌≡◌ {A = Option LinesIn} (Some far.rest) None = sym far.is_ahead ∙ is in cc)
  came line (Some next) is = record { next = next; is_next = refl; is_first = let same : ◌≡◌ {A = Option LinesIn} (Some far.rest) (Some (with_lines (line ∷ []) next)) = sym far.is_ahead ∙ is in cc }

  asked_line : (line : List ℕ) (next : LinesIn) (ask : PeerAsk) → far.rest ≡ with_lines (line ∷ []) next → ask ≡ ask_of line
      → asked_in limit bytes ≡ with_wants far.wants (asked_by (served + 1) ask (asked_from (behind_lines limit (far.given ++ line ∷ next.lines) next.whole) (served + 1 + 1) next.lines))
  unfolding asked_from
  asked_line line next ask first is =
      ends_with (with_lines (line ∷ []) next) first
      ∙ ap (λ (a : PeerAsk). with_wants far.wants (asked_by (served + 1) a (asked_from (behind_lines limit (far.given ++ line ∷ next.lines) next.whole) (served + 1 + 1) next.lines))) (sym is)

  module _ (line : List ℕ) (now : Option LinesIn) (is : ahead ≡ with_line_told line now) where
    -- it is `done`
    pub far_done : Done ≡ ask_of line → ServesLines held (asked_in limit bytes) (Ok served) out out_now
    far_done says = let c = came line now is in let e = asked_line line c.next Done c.is_first says in (all_served (Ok tt) e, all_counted (Ok tt) e)

    -- it is neither
    pub far_bad : Neither ≡ ask_of line → ServesLines held (asked_in limit bytes) (Err (fault.BadWant (served + 1))) out out_now
    far_bad says = let c = came line now is in all_served (Err (fault.BadWant (served + 1))) (asked_line line c.next Neither c.is_first says)

    module _ (c : Cid) (says : Want c ≡ ask_of line) where
      -- it was answered
      pub far_more : (last : Told) (n left : ℕ) → last ≡ after out_now (answer_bytes held c) → n ≡ served + 1 → left ≡ room - (length line + 1) → Far held limit bytes out last n left now
      far_more last n left sent count room_left =
          let x = came line now is in
          let e = asked_line line x.next (Want c) x.is_first says in
          let texts = text-append far.given line in
          let wants : length (far.wants ++ c ∷ []) ≡ length far.wants + 1 = length-append far.wants (c ∷ []) in
          record {
            wants = far.wants ++ c ∷ [];
            given = far.given ++ line ∷ [];
            rest = x.next;
            is_ahead = x.is_next;
            lines = far.lines ∙ ap (with_lines far.given) x.is_first ∙ (λ i. record { lines = sym (append_assoc far.given (line ∷ []) x.next.lines) i; whole = x.next.whole });
            room_is = omega (arith, room_left, far.room_is, texts);
            asked = e ∙ behind_more x.next ∙ again x.next n count;
            count = omega (arith, count, far.count, wants);
            written = sent ∙ ap (λ (o : Told). after o (answer_bytes held c)) far.written ∙ after-after out (serve_text held far.wants) (answer_bytes held c)
                ∙ ap (after out) (ap (λ (xs : List ℕ). serve_text held far.wants ++ xs) (sym (append-nil (answer_bytes held c))) ∙ sym (serve-append held far.wants (c ∷ [])));
          }
        where
          last_of : LinesIn → ℕ → Result Unit ServeFault
          last_of next = behind_lines limit (far.given ++ line ∷ next.lines) next.whole

          behind_more : (next : LinesIn) → with_wants far.wants (with_wants (c ∷ []) (asked_from (behind_lines limit (far.given ++ line ∷ next.lines) next.whole) (served + 1 + 1) next.lines))
              ≡ with_wants (far.wants ++ c ∷ []) (asked_from (behind_lines limit (far.given ++ line ∷ next.lines) next.whole) (served + 1 + 1) next.lines)
          behind_more next =
              let rest = asked_from (behind_lines limit (far.given ++ line ∷ next.lines) next.whole) (served + 1 + 1) next.lines in
              λ i. record { wants = sym (append_assoc far.wants (c ∷ []) rest.wants) i; ends = rest.ends }

          again : (next : LinesIn) (n : ℕ) → n ≡ served + 1 → with_wants (far.wants ++ c ∷ []) (asked_from (behind_lines limit (far.given ++ line ∷ next.lines) next.whole) (served + 1 + 1) next.lines)
              ≡ with_wants (far.wants ++ c ∷ []) (asked_from (behind_lines limit ((far.given ++ line ∷ []) ++ next.lines) next.whole) (n + 1) next.lines)
          again next n e = λ i. with_wants (far.wants ++ c ∷ []) (asked_from (behind_lines limit (sym (append_assoc far.given (line ∷ []) next.lines) i) next.whole) (sym e i + 1) next.lines)

      -- it wasn't answered, or not whole
      pub far_unsent : (f : ServeFault) (last : Told) → SendsFrame (answer_bytes held c) (Err f) out_now last → ServesLines held (asked_in limit bytes) (Err f) out last
      far_unsent f last sends = by f sends
        where
          line_text : (x : Came line now) → (tail : List ℕ) × (serve_text held (asked_in limit bytes).wants ≡ serve_text held far.wants ++ (answer_bytes held c ++ tail))
          line_text x =
              let e = asked_line line x.next (Want c) x.is_first says in
              (_, ap (λ (a : Asked). serve_text held a.wants) e ∙ serve-append held far.wants _)

          part : AppendsPrefix (answer_bytes held c) out_now last → AppendsPrefix (serve_text held (asked_in limit bytes).wants) out last
          part p =
              let text = line_text (came line now is) in
              subst (λ (x : List ℕ). AppendsPrefix x out last) (sym text.1)
              (part-behind (serve_text held far.wants) (answer_bytes held c ++ text.0) out out_now last far.written (part-more (answer_bytes held c) text.0 out_now last p))

          by : (g : ServeFault) → SendsFrame (answer_bytes held c) (Err g) out_now last → ServesLines held (asked_in limit bytes) (Err g) out last
          by (fault.BadWant n) s = absurd s
          by fault.TooLong s = absurd s
          by fault.Read s = absurd s
          by fault.Sink s = part s
          by (fault.Store g) s = subst (λ (o : Told). AppendsPrefix (serve_text held (asked_in limit bytes).wants) out o) (sym s) far_part
