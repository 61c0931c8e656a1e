-- What a batch has written to its output and to `errors`, also where writing to them fails.
use Rattle.std.proofs.Common.{◌≡◌, ◌∙◌, ℕ, suc, ◌+◌, ◌<◌, List, [], ◌∷◌, ◌++◌, length, length-append, take, arith, false, true, refl, sym, ap, subst, inl, inr, take_all, Some, Result, Ok, Err}
use Rattle.std.proofs.lemmas.List.{take-append-le}
use Rattle.std.specs.Prelude.{◌⊎◌}
use Rattle.uf_cid.specs.Blocks.{Lookup}
use Rattle.uf_edge.specs.Counts.{Stood}
use Rattle.uf_mfs.specs.Reading.{CanRise}
use Rattle.uf_edge.specs.Host.{HostTree}
use Rattle.uf_edge.specs.Streams as streams
use Rattle.uf_edge.specs.Streams.{AppendsPrefix}
use Rattle.uf_mfs.specs.Standing.{TellsAs}
use Rattle.uf_command.specs.Commands.{of_command}
use Rattle.uf_command.specs.Lines.{line_of}
use Rattle.uf_command.specs.Natures.{needs_standing}
use Rattle.uf_command.specs.Statuses.{ended, ends_batch, mark, no_memory}
use Rattle.uf_command.specs.Telling.{TellsWhy}
use Rattle.uf_command.specs.declared.status.Status.{Status}
use Rattle.uf_command.specs.declared.status.Status.TheVariants as status
use Rattle.uf_command.specs.declared.types.Refusal.{Refusal}
use Rattle.uf_command.specs.declared.types.Refusal.TheVariants as refusal
use Rattle.uf_top.specs.Around.{Around, NoneFalls, Said, SinkSide, StandsOrRose}
use Rattle.uf_top.specs.Batch.{AtLine, Batches, ByMemory, ByReading, Ending, EndsSo, LineCut, LineDone, LineEnds, PrintsCut, PrintsWhole, TooLong, WithInput, output_of, without_input}
use Rattle.uf_headline.specs.BatchReplies.{BatchReplied, EndsReplied, GoesOnReplied, LineAnswered, LinesReplied, NothingFails, line_reply, line_world, lines_printed, printed_by}
use Rattle.uf_headline.specs.BatchTexts.{FailsAtMostPrinting, PrintsFront, PrintsLast, PrintsUntil, SaidInTurn, batch_said, going_said, last_said, line_said, lines_said, whole_text}
use Rattle.uf_top.specs.Endings.{EndsAs, PrintsPart}
use Rattle.uf_top.specs.Naming.{TellsBlocks}
use Rattle.uf_top.specs.Reply.{reply_to}
use Rattle.uf_tree.specs.Standing.{Standing}
use Rattle.uf_headline.proofs.BatchCounts.{ends-counted, is-write-fault, lines-counted}
use Rattle.uf_headline.proofs.BatchFaults.{Still, lines-still}
use Rattle.uf_headline.proofs.BatchReplies.{GoesOn, after-nothing, after-then, all-printed, answered, found-of, held-of, lines-print, lines-replied, names-if, outside-of}
use Rattle.uf_top.proofs.Pins.{noted-pins}
use Rattle.uf_headline.proofs.Ran.{line-ran}
use Rattle.uf_top.proofs.Counted.{with_sinks}

-- ---- what goes to `errors`

turn-then : (xs ys : List (List ℕ)) (a m b : SinkSide) → SaidInTurn xs a m → SaidInTurn ys m b → SaidInTurn (xs ++ ys) a b
turn-then [] ys a m b same rest = subst (λ s. SaidInTurn ys s b) same rest
turn-then (x ∷ xs) ys a m b first rest = (first.0, first.1, turn-then xs ys first.0 m b first.2 rest)

alone : (line : List ℕ) (a b : SinkSide) → Said a b line → SaidInTurn (line ∷ []) a b
alone line a b said = (b, said, refl)

module _ (X : List ℕ → List ℕ) (N : List ℕ → ℕ) (host : HostTree) where
  line-says : (line : List ℕ) (given : Status) (s next : Standing) (a b : Around) (did : LineAnswered X N host line given s next a b) → (given ≡ status.Memory → ⊥) → Said a.errors b.errors (line_said X N host line given s next a b did)
  line-says line given s next a b did not = by did.ends
    where
      by : EndsAs X N did.found.asked (line_world host s did.found.held did.found.pins) given a b → Said a.errors b.errors (line_said X N host line given s next a b did)
      by (inl wants) = absurd (not wants.status_is)
      by (inr replies) = replies.0.says

  going-says : (line : List ℕ) (s next : Standing) (a b : Around) (each : GoesOnReplied X N host line s next a b) → SaidInTurn (going_said X N host line s next a b each) a.errors b.errors
  going-says line s next a b (inl none) = ap (λ (x : Around). x.errors) none.2
  going-says line s next a b (inr gone) =
      alone (line_said X N host line gone.0 s next a (with_sinks gone.1.printed b.errors b) gone.1.answered) a.errors b.errors
      (line-says line gone.0 s next a (with_sinks gone.1.printed b.errors b) gone.1.answered (λ e. (let k : true ≡ false = subst (λ g. ends_batch g ≡ false) e gone.1.ends in cc)))

  lines-say : (lines : List (List ℕ)) (s next : Standing) (a b : Around) (each : LinesReplied X N host lines s next a b) → SaidInTurn (lines_said X N host lines s next a b each) a.errors b.errors
  lines-say [] s next a b each = ap (λ (x : Around). x.errors) each.1
  lines-say (line ∷ lines) s next a b each =
      turn-then (going_said X N host line s each.0 a each.1 each.2) (lines_said X N host lines each.0 next each.1 b each.3) a.errors each.1.errors b.errors
      (going-says line s each.0 a each.1 each.2) (lines-say lines each.0 next each.1 b each.3)

  told-long : (given : Status) (a b : SinkSide) → TellsWhy (Said a b) refusal.InputTooLong given → (given ≡ status.Memory → ⊥) → Said a b (line_of refusal.InputTooLong)
  told-long given a b (inl t) not = t.1
  told-long given a b (inr t) not = absurd (not t.1)

  last-says : (ending : Ending X N) (given : Status) (s next : Standing) (a b : Around) (last : EndsReplied X N host ending given s next a b) → (given ≡ status.Memory → ⊥) → SaidInTurn (last_said X N host ending given s next a b last) a.errors b.errors
  last-says WithInput given s next a b last not = ap (λ (x : Around). x.errors) last.2
  last-says TooLong given s next a b last not = alone (line_of refusal.InputTooLong) a.errors b.errors (told-long given a.errors b.errors last.1.told not)
  last-says ByReading given s next a b last not = absurd last
  last-says ByMemory given s next a b last not = absurd (not (memory last.1.told))
    where
      memory : TellsWhy (Said a.errors b.errors) no_memory given → given ≡ status.Memory
      memory (inl t) = t.0
      memory (inr t) = t.1
  last-says (AtLine line) given s next a b last not =
      alone (line_said X N host line given s next a (with_sinks last.printed b.errors b) last.answered) a.errors b.errors
      (line-says line given s next a (with_sinks last.printed b.errors b) last.answered not)

  pub batch-says : (lines : List (List ℕ)) (ending : Ending X N) (given : Status) (s : Standing) (a m b : Around) (did : BatchReplied X N host lines ending given s a m b) → (given ≡ status.Memory → ⊥)
      → SaidInTurn (batch_said X N host lines ending given s a m b did) a.errors b.errors
  batch-says lines ending given s a m b did not =
      turn-then (lines_said X N host lines s did.stood a m did.each) (last_said X N host ending given did.stood did.next m b did.last) a.errors m.errors b.errors
      (lines-say lines s did.stood a m did.each) (last-says ending given did.stood did.next m b did.last not)

-- ---- what the output has got

take-past : (x y : List ℕ) (k : ℕ) → take (length x + k) (x ++ y) ≡ x ++ take k y
take-past [] y k = ap (λ n. take n y) (let e : 0 + k ≡ k = omega arith in e)
take-past (c ∷ x) y k =
    ap (λ n. take n (c ∷ (x ++ y))) (let e : length (c ∷ x) + k ≡ suc (length x + k) = omega arith in e)
    ∙ ap (λ (l : List ℕ). c ∷ l) (take-past x y k)

-- a part of a text is a part of that and what follows
part-first : (text more : List ℕ) (held now : streams.Told) → AppendsPrefix text held now → AppendsPrefix (text ++ more) held now
part-first text more held now p = record {
  count = p.count;
  fits = (let e = length-append text more in let f = p.fits in omega (arith, e, f));
  appended = p.appended ∙ ap (λ (l : List ℕ). streams.after held l) (sym (take-append-le p.count text more p.fits));
}

part-of : (ends : Result (List ℕ) Refusal) (more : List ℕ) (held now : streams.Told) → PrintsPart ends held now → AppendsPrefix (printed_by ends ++ more) held now
part-of (Ok text) more held now p = part-first text more held now p
part-of (Err why) more held now same = record { count = 0; fits = omega arith; appended = same ∙ after-nothing held }

-- a whole text, and what follows or a part of that
part-whole : (text more : List ℕ) (held mid now : streams.Told) → mid ≡ streams.after held text → now ≡ streams.after mid more → AppendsPrefix (text ++ more) held now
part-whole text more held mid now first then = record {
  count = length (text ++ more);
  fits = omega arith;
  appended = then ∙ ap (λ (h : streams.Told). streams.after h more) first ∙ after-then held text more ∙ ap (λ (l : List ℕ). streams.after held l) (sym (take_all (length (text ++ more)) (text ++ more) (omega arith)));
}

part-cut : (text more : List ℕ) (held mid now : streams.Told) → mid ≡ streams.after held text → AppendsPrefix more mid now → AppendsPrefix (text ++ more) held now
part-cut text more held mid now first p = record {
  count = length text + p.count;
  fits = (let e = length-append text more in let f = p.fits in omega (arith, e, f));
  appended = p.appended ∙ ap (λ (h : streams.Told). streams.after h (take p.count more)) first ∙ after-then held text (take p.count more) ∙ ap (λ (l : List ℕ). streams.after held l) (sym (take-past text more p.count));
}

module _ (X : List ℕ → List ℕ) (N : List ℕ → ℕ) (host : HostTree) (line : List ℕ) (s : Standing) where
  -- a line that was answered, of whose status all or a part was printed
  from-answered : (given : Status) (next : Standing) (a b : Around) (printed : SinkSide) (errors : SinkSide) → (did : LineAnswered X N host line given s next a (with_sinks printed errors b)) → (given ≡ status.Memory → ⊥)
      → PrintsWhole (mark given) printed (output_of b) ⊎ PrintsCut (mark given) printed (output_of b) → PrintsFront X N host line s a b
  from-answered given next a b printed errors did not marked = by did.ends
    where
      text : List ℕ
      text = printed_by (line_reply X N host s did.found).ends

      is-front : given ≡ ended (line_reply X N host s did.found).ends → printed.held ≡ streams.after a.held text → PrintsWhole (mark given) printed (output_of b) ⊎ PrintsCut (mark given) printed (output_of b)
          → AppendsPrefix (whole_text (line_reply X N host s did.found)) a.held b.held
      is-front is first (inl whole) = subst (λ g. AppendsPrefix (text ++ mark g) a.held b.held) is (part-whole text (mark given) a.held printed.held b.held first whole.printed)
      is-front is first (inr cut) = subst (λ g. AppendsPrefix (text ++ mark g) a.held b.held) is (part-cut text (mark given) a.held printed.held b.held first cut.printed)

      by : EndsAs X N did.found.asked (line_world host s did.found.held did.found.pins) given a (with_sinks printed errors b) → PrintsFront X N host line s a b
      by (inl wants) = absurd (not wants.status_is)
      by (inr replies) = record {
        found = did.found;
        printed = is-front replies.0.status_is (all-printed (line_reply X N host s did.found).ends a.held printed.held replies.0.printed) marked;
      }

  -- a line of which the output failed before its status
  from-part : (given : Status) (a b : Around) (done : LineDone X N line given a b) → a.host.told ≡ Some host → FailsAtMostPrinting a b → TellsAs X N a.store.told s → PrintsFront X N host line s a b
  from-part given a b done tells h stands = by (held-of X N a.store.told s stands)
    where
      by : ((held : Lookup) × TellsBlocks a.store.told held) → PrintsFront X N host line s a b
      by found = record {
        found = found-of X N host line given a b done found.0 found.1;
        printed = part-of (reply_to X N done.asked (line_world host s found.0 (noted-pins a.store.told).0)).ends (mark (ended (reply_to X N done.asked (line_world host s found.0 (noted-pins a.store.told).0)).ends)) a.held b.held
            ((line-ran done).prefix (line_world host s found.0 (noted-pins a.store.told).0)
            (record { names = names-if X N (of_command needs_standing true done.asked) a.store.told b.store.told s (line-ran done).good stands; held = found.1 })
            (outside-of X N host line given a b done s found.0 tells h.host)
            (record { faults = (let c = (line-ran done).faults.counted.store.faults in let f = h.store.faults in omega (arith, c, f)); clashes = (let c = (line-ran done).faults.counted.store.clashes in let f = h.store.clashes in omega (arith, c, f)) }));
      }

  -- nothing failed in a line that didn't end by a failed writing
  calm-line : (given : Status) (a b : Around) (done : LineDone X N line given a b) → FailsAtMostPrinting a b → CanRise a.writes → (given ≡ status.WriteFault → ⊥) → NothingFails a b
  calm-line given a b done h room not = record { store = h.store; output = wrote (line-ran done).faults.counted.writes; host = h.host }
    where
      wrote : StandsOrRose a.writes b.writes → Stood a.writes b.writes
      wrote (inl same) = omega (arith, same, room)
      wrote (inr rose) = absurd (not ((line-ran done).faults.writes (inl (let less : a.writes < b.writes = omega (arith, rose, room) in less))))

  last-front : (given : Status) (a b : Around) → LineEnds X N line given a b ⊎ LineCut X N line given a b → a.host.told ≡ Some host → FailsAtMostPrinting a b → CanRise a.writes → TellsAs X N a.store.told s
      → (given ≡ status.Memory → ⊥) → PrintsFront X N host line s a b
  last-front given a b (inl e) tells h room stands memory = by (is-write-fault given)
    where
      mid : FailsAtMostPrinting a (with_sinks e.printed b.errors b)
      mid = record { store = h.store; host = h.host }

      unmarked : PrintsFront X N host line s a (with_sinks e.printed b.errors b) → b.held ≡ e.printed.held → PrintsFront X N host line s a b
      unmarked p same = record {
        found = p.found;
        printed = subst (λ now. AppendsPrefix (whole_text (line_reply X N host s p.found)) a.held now) (sym same) p.printed;
      }

      by : (given ≡ status.WriteFault) ⊎ (given ≡ status.WriteFault → ⊥) → PrintsFront X N host line s a b
      by (inl is) = unmarked (from-part given a (with_sinks e.printed b.errors b) e.done tells mid stands) (ap (λ (x : SinkSide). x.held) (e.unmarked is))
      by (inr not) =
          let r = answered X N host line given a (with_sinks e.printed b.errors b) e.done tells (calm-line given a (with_sinks e.printed b.errors b) e.done mid room not) s stands in
          from-answered given r.0 a b e.printed b.errors r.1 memory (e.marked not)
  last-front given a b (inr e) tells h room stands memory =
      let r = answered X N host line e.was a (with_sinks e.printed e.between b) e.done tells (calm-line e.was a (with_sinks e.printed e.between b) e.done (record { store = h.store; host = h.host }) room (ends status.WriteFault refl)) s stands in
      from-answered e.was r.0 a b e.printed e.between r.1 (ends status.Memory refl) (inr e.cut)
    where
      ends : (other : Status) → ends_batch other ≡ true → e.was ≡ other → ⊥
      ends other closes is = (let k : false ≡ true = sym e.goes_on ∙ ap ends_batch is ∙ closes in cc)

module _ (X : List ℕ → List ℕ) (N : List ℕ → ℕ) (host : HostTree) where
  ends-until : (ending : Ending X N) (given : Status) (a b : Around) (s : Standing) → EndsSo X N ending given a b → GoesOn X N host a s → FailsAtMostPrinting a b → CanRise a.writes → (given ≡ status.Memory → ⊥)
      → PrintsLast X N host ending s a b
  ends-until WithInput given a b s e on h room memory = ap (λ (x : Around). x.held) e.1
  ends-until TooLong given a b s e on h room memory = ap (λ (x : Around). x.held) e.same
  ends-until ByReading given a b s e on h room memory = ap (λ (x : Around). x.held) e.same
  ends-until ByMemory given a b s e on h room memory = ap (λ (x : Around). x.held) e.same
  ends-until (AtLine line) given a b s e on h room memory = last-front X N host line s given a b e on.0 h room on.1 memory

  module _ (most limit : ℕ) (given : Status) (before now : Around) (s : Standing) where
    pub batch-until : (did : Batches X N most limit given before now) → before.host.told ≡ Some host → TellsAs X N before.store.told s → FailsAtMostPrinting before now → CanRise before.writes
        → (given ≡ status.Memory → ⊥) → PrintsUntil X N host did.lines did.ending s (without_input before) did.between (without_input now)
    batch-until did tells stands h room memory = by (lines-replied X N host did.lines (without_input before) did.between s did.done (tells, stands) calm)
      where
        still : Still (without_input before) did.between
        still = lines-still X N did.lines (without_input before) did.between did.done

        early : NoneFalls (without_input before) did.between
        early = lines-counted X N did.lines (without_input before) did.between did.done

        late : NoneFalls did.between (without_input now)
        late = ends-counted X N did.ending given did.between (without_input now) did.ends

        calm : NothingFails (without_input before) did.between
        calm = record {
          store = record { faults = omega (arith, early.store.faults, late.store.faults, h.store.faults); clashes = omega (arith, early.store.clashes, late.store.clashes, h.store.clashes) };
          output = omega (arith, still.writes, room);
          host = omega (arith, early.host_reads, late.host_reads, h.host);
        }

        last : FailsAtMostPrinting did.between (without_input now)
        last = record {
          store = record { faults = omega (arith, early.store.faults, late.store.faults, h.store.faults); clashes = omega (arith, early.store.clashes, late.store.clashes, h.store.clashes) };
          host = omega (arith, early.host_reads, late.host_reads, h.host);
        }

        by : (f : (next : Standing) × LinesReplied X N host did.lines s next (without_input before) did.between × GoesOn X N host did.between next) → PrintsUntil X N host did.lines did.ending s (without_input before) did.between (without_input now)
        by f = record {
          stood = f.0;
          each = f.1;
          last = ends-until did.ending given did.between (without_input now) f.0 did.ends f.2 last (omega (arith, still.writes, room)) memory;
        }

  -- what the lines before the last have printed
  pub until-prints : (lines : List (List ℕ)) (ending : Ending X N) (s : Standing) (a m b : Around) (did : PrintsUntil X N host lines ending s a m b) → m.held ≡ streams.after a.held (lines_printed X N host lines s did.stood a m did.each)
  until-prints lines ending s a m b did = lines-print X N host lines s did.stood a m did.each
