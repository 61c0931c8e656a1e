-- From what a line did to what a batch did.
use Rattle.std.proofs.Common.{◌≡◌, ◌∙◌, ℕ, List, [], ◌∷◌, ◌++◌, Bool, true, false, refl, sym, ap, subst, inl, inr, append_assoc, append-nil, Option, None, Some, Result, Err}
use Rattle.std.specs.Prelude.{◌⊎◌, IfSome, if◌then◌else◌}
use Rattle.uf_edge.specs.Counts.{Counts}
use Rattle.uf_edge.specs.Streams as streams
use Rattle.uf_edge.specs.declared.streams.Sent.{Sent}
use Rattle.uf_edge.specs.declared.streams.Sent.TheVariants.{Done, Failed}
use Rattle.uf_lines.specs.LinesIn.{LinesIn, lines_in, with_lines}
use Rattle.uf_lines.specs.Reading.{lines_told, with_line_told}
use Rattle.uf_command.proofs.Asked.{cmd-only}
use Rattle.uf_command.specs.Batches.{IsAskedBy, asked_in_batch, is_for_batch, line_asks, line_in}
use Rattle.uf_command.specs.Commands.{IsOfWords, asked}
use Rattle.uf_command.specs.Natures.{NoStore}
use Rattle.uf_command.specs.Statuses.{no_memory}
use Rattle.uf_command.specs.declared.status.Status.{Status}
use Rattle.uf_command.specs.declared.types.Command.{Command}
use Rattle.uf_command.specs.declared.types.Refusal.{Refusal}
use Rattle.uf_command.specs.declared.types.Refusal.TheVariants as refusal
use Rattle.uf_words.specs.Commands.{command_of}
use Rattle.uf_words.specs.Lines.{line_words}
use Rattle.uf_words.specs.declared.command.Cmd.{Cmd}
use Rattle.uf_top.specs.Around.{Around, Said, SinkSide}
use Rattle.uf_top.specs.Batch.{ClosesLine, DoesLine, LineDone, LineGone, LinesDone, PrintsCut, PrintsWhole, ServesLine, output_of, LineServed}
use Rattle.uf_command.specs.Telling.{TellsEnd}
use Rattle.uf_top.proofs.Runs.{blames-of, runs-told}
use Rattle.uf_top.proofs.Serving.{words-spare}

-- ---- words of a line

in-batch : (c : Cmd) (b : Bool) → IsOfWords (if b then asked c else Err refusal.Usage)
in-batch c true = cmd-only c
in-batch c false = refl

in-batch-only : (o : Option Cmd) → IsOfWords (asked_in_batch o)
in-batch-only None = refl
in-batch-only (Some c) = in-batch c (is_for_batch c)

line-only : (b : Bool) (words : List (List ℕ)) (given : Result Command Refusal) → line_asks b words ≡ Some given → IsOfWords given
line-only false words given is = subst IsOfWords (let e : Err refusal.Usage ≡ given = cc in e) refl
line-only true [] given is = absurd cc
line-only true (first ∷ words) given is = subst IsOfWords (let e : asked_in_batch (command_of (first ∷ words)) ≡ given = cc in e) (in-batch-only (command_of (first ∷ words)))

asks-words : (line : List ℕ) (given : Result Command Refusal) → (line_in line ≡ Some given) ⊎ (given ≡ Err no_memory) → IsOfWords given
asks-words line given (inl is) = line-only _ (line_words line) given is
asks-words line given (inr memory) = subst IsOfWords (sym memory) refl

module _ (X : List ℕ → List ℕ) (N : List ℕ → ℕ) where
  -- what a line asks for is refused
  pub serves-refused : (line : List ℕ) (why : Refusal) (a : Around) (er2 : SinkSide) → IsAskedBy (Some (Err why)) (line_in line) → ServesLine X N (line_in line) (Err why) a (record a { errors = er2 })
  serves-refused line why a er2 told = by told
    where
      by : IsAskedBy (Some (Err why)) (line_in line) → ServesLine X N (line_in line) (Err why) a (record a { errors = er2 })
      by (inl memory) = let e : (line_in line ≡ Some (Err why)) ⊎ (◌≡◌ {A = Result Command Refusal} (Err why) (Err no_memory)) = inr (ap (λ (w : Refusal). Err w) memory) in record {
        asked = Err why;
        asks = e;
        serves = record { refused = inl refl; same = refl };
        own = words-spare X a.left a.store a.store NoStore why (asks-words line (Err why) e);
        kinds = tt;
      }
      by (inr is) = record {
        asked = Err why;
        asks = inl is;
        serves = record { refused = inl refl; same = refl };
        own = words-spare X a.left a.store a.store NoStore why (asks-words line (Err why) (inl is));
        kinds = tt;
      }

-- ---- a line

module _ (X : List ℕ → List ℕ) (N : List ℕ → ℕ) (line : List ℕ) (done : Result (Unit {0}) Refusal) (a m : Around) (serves : (er2 : SinkSide) → ServesLine X N (line_in line) done a (record m { errors = er2 })) where
  line-done : (err_now : SinkSide) (given : Status) → TellsEnd (Said a.errors err_now) done given → LineDone X N line given a (record m { errors = err_now })
  line-done err_now given told = let s = serves err_now in record {
    asked = s.asked;
    asks = s.asks;
    runs = runs-told given X N a (record m { errors = err_now }) s.asked done (asks-words line s.asked s.asks) s.serves s.own s.kinds told;
    blames = blames-of given X N a (record m { errors = err_now }) s.asked done s.serves (asks-words line s.asked s.asks) told;
  }

  abbrev now : SinkSide → SinkSide → Around
  now out_now err_now = record m { held = out_now.held; writes = out_now.faults; errors = err_now }

  closes-on : (out_now err_now : SinkSide) → ClosesLine done None (output_of m) out_now a.errors err_now → DoesLine X N line None a (now out_now err_now)
  closes-on out_now err_now closes = inr (record {
    given = closes.0;
    printed = output_of m;
    done = line-done err_now closes.0 closes.1.told;
    goes_on = closes.1.goes_on;
    marked = closes.1.marked;
  })

  closes-last : (given : Status) (out_now err_now : SinkSide) → ClosesLine done (Some given) (output_of m) out_now a.errors err_now → DoesLine X N line (Some given) a (now out_now err_now)
  closes-last given out_now err_now (inl last) = inl (record {
    printed = output_of m;
    done = line-done err_now given last.told;
    ends = last.ends;
    unmarked = last.unmarked;
    marked = last.marked;
  })
  closes-last given out_now err_now (inr cut) = inr (record {
    was = cut.was;
    printed = output_of m;
    between = cut.between;
    done = line-done cut.between cut.was cut.told;
    goes_on = cut.goes_on;
    cut = cut.cut;
    tells = cut.tells;
  })

  pub closes : (out_now err_now : SinkSide) (given : Option Status) → ClosesLine done given (output_of m) out_now a.errors err_now → DoesLine X N line given a (now out_now err_now)
  closes out_now err_now None h = closes-on out_now err_now h
  closes out_now err_now (Some given) h = closes-last given out_now err_now h

-- a line without a word
pub closes-none : (X : List ℕ → List ℕ) (N : List ℕ → ℕ) (line : List ℕ) (a m : Around) → m.errors ≡ a.errors → LineServed X N (line_in line) None a m → DoesLine X N line None a m
closes-none X N line a m same served = inl (served.0, served.1 ∙ (λ i. record a { errors = same i }))

-- ---- a mark

pub marked : (sent : Sent) (text : List ℕ) (held held_now : streams.Told) (faults faults_now : ℕ) → streams.Sends sent text held held_now → Counts (streams.is_unsent sent) faults faults_now
    → PrintsWhole text (record { held = held; faults = faults }) (record { held = held_now; faults = faults_now }) ⊎ PrintsCut text (record { held = held; faults = faults }) (record { held = held_now; faults = faults_now })
marked Done text held held_now faults faults_now sends counts = inl (record { printed = sends; counted = counts.still refl })
marked Failed text held held_now faults faults_now sends counts = inr (record { printed = sends; counted = counts.rose refl })

-- ---- lines

pub lines-more : (X : List ℕ → List ℕ) (N : List ℕ → ℕ) (lines : List (List ℕ)) (line : List ℕ) (a b c : Around) → LinesDone X N lines a b → LineGone X N line b c → LinesDone X N (lines ++ line ∷ []) a c
lines-more X N [] line a b c same gone = (c, subst (λ s. LineGone X N line s c) same gone, refl)
lines-more X N (first ∷ lines) line a b c done gone = (done.0, done.1, lines-more X N lines line done.0 b c done.2 gone)

-- ---- the lines of an input

abbrev pub goes : List (List ℕ) → Option LinesIn → Option LinesIn
goes lines None = None
goes lines (Some rest) = Some (with_lines lines rest)

pub goes-first : (o : Option LinesIn) → o ≡ goes [] o
goes-first None = refl
goes-first (Some rest) = refl

pub goes-more : (lines : List (List ℕ)) (line : List ℕ) (o p q : Option LinesIn) → o ≡ goes lines p → p ≡ with_line_told line q → o ≡ goes (lines ++ line ∷ []) q
goes-more lines line o p q first second = first ∙ ap (goes lines) second ∙ by q
  where
    by : (q : Option LinesIn) → goes lines (with_line_told line q) ≡ goes (lines ++ line ∷ []) q
    by None = refl
    by (Some rest) = ap Some (λ i. record { lines = sym (append_assoc lines (line ∷ []) rest.lines) i; whole = rest.whole })

module _ (most limit : ℕ) (lines : List (List ℕ)) where
  all-with : (bytes : List ℕ) (rest : LinesIn) → ◌≡◌ {A = Option LinesIn} (Some (lines_in most limit bytes)) (Some (with_lines lines rest)) → lines_in most limit bytes ≡ with_lines lines rest
  all-with bytes rest is = cc

  -- all lines were given
  pub goes-all : (end : Bool) (left : streams.Told) (p : Option LinesIn) → lines_told most limit left ≡ goes lines p → IfSome p (λ r. r ≡ record { lines = []; whole = end })
      → IfSome left (λ bytes. lines_in most limit bytes ≡ record { lines = lines; whole = end })
  goes-all end None p is h = tt
  goes-all end (Some bytes) None is h = absurd cc
  goes-all end (Some bytes) (Some rest) is h = all-with bytes rest is ∙ (λ i. record { lines = (ap (λ (r : LinesIn). lines ++ r.lines) h ∙ append-nil lines) i; whole = (h i).whole })

  -- some lines were given
  pub goes-some : (left : streams.Told) (p : Option LinesIn) → lines_told most limit left ≡ goes lines p → IfSome left (λ bytes. (more : List (List ℕ)) × ((lines_in most limit bytes).lines ≡ lines ++ more))
  goes-some None p is = tt
  goes-some (Some bytes) None is = absurd cc
  goes-some (Some bytes) (Some rest) is = (rest.lines, ap (λ (r : LinesIn). r.lines) (all-with bytes rest is))

  -- and then this one
  pub goes-line : (line : List ℕ) (left : streams.Told) (p q : Option LinesIn) → lines_told most limit left ≡ goes lines p → p ≡ with_line_told line q
      → IfSome left (λ bytes. (more : List (List ℕ)) × ((lines_in most limit bytes).lines ≡ lines ++ line ∷ more))
  goes-line line None p q is h = tt
  goes-line line (Some bytes) p None is h = absurd (let e : ◌≡◌ {A = Option LinesIn} (Some (lines_in most limit bytes)) None = is ∙ ap (goes lines) h in cc)
  goes-line line (Some bytes) p (Some rest) is h = (rest.lines, ap (λ (r : LinesIn). r.lines) (all-with bytes (with_lines (line ∷ []) rest) (is ∙ ap (goes lines) h)))

-- before a line was read
pub ahead-first : (most limit m r : ℕ) (bytes : List ℕ) (left : streams.Told) → m ≡ most → r ≡ limit → bytes ≡ [] → lines_told most limit left ≡ goes [] (lines_told m r (streams.before bytes left))
ahead-first most limit m r bytes left a b c =
    by left ∙ (λ i. goes [] (lines_told (sym a i) (sym b i) (streams.before (sym c i) left)))
  where
    by : (left : streams.Told) → lines_told most limit left ≡ goes [] (lines_told most limit (streams.before [] left))
    by None = refl
    by (Some xs) = refl
