-- The lines of a batch that move the Head.
use Rattle.std.proofs.Common.{◌≡◌, ◌∙◌, ℕ, List, [], ◌∷◌, Bool, true, false, refl, ap, subst, inl, inr, Option}
use Rattle.std.specs.Prelude.{◌⊎◌}
use Rattle.uf_mfs.specs.Standing.{head_in}
use Rattle.uf_store.specs.Contents.{Told}
use Rattle.uf_command.specs.declared.status.Status.{Status}
use Rattle.uf_top.specs.Around.{Around, SameButErrors}
use Rattle.uf_top.specs.Batch.{AtLine, Batches, ByMemory, ByReading, Ending, EndsSo, LineDone, LineGone, LinesDone, TooLong, WithInput, without_input}
use Rattle.uf_headline.specs.BatchLines.{IsBehind, LineOf, MovesByLine}
use Rattle.uf_top.specs.Endings.{may_move}
use Rattle.uf_headline.proofs.Ran.{line-ran}
use Rattle.uf_top.proofs.Counted.{but-errors, with_sinks}

module _ (X : List ℕ → List ℕ) (N : List ℕ → ℕ) where
  -- ---- lines of a batch with one line more in front

  abbrev more-behind : (first : List ℕ) (front : List (List ℕ)) (line : List ℕ) (lines : List (List ℕ)) (ending : Ending X N) → IsBehind X N front line lines ending → IsBehind X N (first ∷ front) line (first ∷ lines) ending
  more-behind first front line lines ending (inl b) = inl (b.0, ap (λ (l : List (List ℕ)). first ∷ l) b.1)
  more-behind first front line lines ending (inr b) = inr (ap (λ (l : List (List ℕ)). first ∷ l) b.0, b.1)

  abbrev pub more-of : (line : List ℕ) (lines : List (List ℕ)) (ending : Ending X N) (a m : Around) → LineGone X N line a m → LineOf X N lines ending m → LineOf X N (line ∷ lines) ending a
  more-of line lines ending a m gone one = record {
    front = line ∷ one.front;
    line = one.line;
    given = one.given;
    found = one.found;
    left = one.left;
    behind = more-behind line one.front one.line lines ending one.behind;
    first = (m, gone, one.first);
    done = one.done;
  }

  -- the first line, and the one that ends a batch
  abbrev pub first-of : (line : List ℕ) (given : Status) (lines : List (List ℕ)) (ending : Ending X N) (a b : Around) → LineDone X N line given a b → LineOf X N (line ∷ lines) ending a
  first-of line given lines ending a b done = record { front = []; line = line; given = given; found = a; left = b; behind = inl (lines, refl); first = refl; done = done }

  abbrev pub last-of : (line : List ℕ) (given : Status) (a b : Around) → LineDone X N line given a b → LineOf X N [] (AtLine line) a
  last-of line given a b done = record { front = []; line = line; given = given; found = a; left = b; behind = inr (refl, refl); first = refl; done = done }

  -- ---- the Head

  abbrev head-of : Around → Option (List ℕ)
  head-of s = head_in s.store.told

  -- the Head stays, or the line may move it
  pub head-or : (line : List ℕ) (given : Status) (a b : Around) (done : LineDone X N line given a b) → (head-of b ≡ head-of a) ⊎ (may_move done.asked given ≡ true)
  head-or line given a b done = by (may_move done.asked given) refl
    where
      by : (may : Bool) → may_move done.asked given ≡ may → (head-of b ≡ head-of a) ⊎ (may_move done.asked given ≡ true)
      by true is = inr is
      by false is = inl ((line-ran done).head is)

  abbrev Moves : List (List ℕ) → Ending X N → Around → Told → Type 0
  Moves lines ending a now = (head_in now ≡ head-of a) ⊎ MovesByLine X N lines ending a now

  same-moves : (lines : List (List ℕ)) (ending : Ending X N) (a b : Around) → SameButErrors a b → Moves lines ending a b.store.told
  same-moves lines ending a b same = inl (ap (λ (x : Around). head_in x.store.told) same)

  last-moves : (line : List ℕ) (given : Status) (a b : Around) → LineDone X N line given a b → Moves [] (AtLine line) a b.store.told
  last-moves line given a b done = by (head-or line given a b done)
    where
      by : (head-of b ≡ head-of a) ⊎ (may_move done.asked given ≡ true) → Moves [] (AtLine line) a b.store.told
      by (inl same) = inl same
      by (inr may) = inr (record { one = last-of line given a b done; may = may; head = refl })

  ends-moves : (ending : Ending X N) (given : Status) (a b : Around) → EndsSo X N ending given a b → Moves [] ending a b.store.told
  ends-moves WithInput given a b e = same-moves [] WithInput a b (but-errors e.1)
  ends-moves TooLong given a b e = same-moves [] TooLong a b e.same
  ends-moves ByReading given a b e = same-moves [] ByReading a b e.same
  ends-moves ByMemory given a b e = same-moves [] ByMemory a b e.same
  ends-moves (AtLine line) given a b (inl e) = last-moves line given a (with_sinks e.printed b.errors b) e.done
  ends-moves (AtLine line) given a b (inr e) = last-moves line e.was a (with_sinks e.printed e.between b) e.done

  gone-moves : (line : List ℕ) (lines : List (List ℕ)) (ending : Ending X N) (a m : Around) (now : Told) → LineGone X N line a m → Moves lines ending m now → Moves (line ∷ lines) ending a now
  gone-moves line lines ending a m now gone (inr moved) = inr (record { one = more-of line lines ending a m gone moved.one; may = moved.may; head = moved.head })
  gone-moves line lines ending a m now (inl none) (inl same) = inl (same ∙ ap (λ (s : Around). head-of s) none.1)
  gone-moves line lines ending a m now (inr passed) (inl same) = by (head-or line passed.given a (with_sinks passed.printed m.errors m) passed.done)
    where
      by : (head-of m ≡ head-of a) ⊎ (may_move passed.done.asked passed.given ≡ true) → Moves (line ∷ lines) ending a now
      by (inl kept) = inl (same ∙ kept)
      by (inr may) = inr (record { one = first-of line passed.given lines ending a (with_sinks passed.printed m.errors m) passed.done; may = may; head = same })

  all-move : (lines : List (List ℕ)) (ending : Ending X N) (given : Status) (a m b : Around) → LinesDone X N lines a m → EndsSo X N ending given m b → Moves lines ending a b.store.told
  all-move [] ending given a m b same ends = ends-moves ending given a b (subst (λ s. EndsSo X N ending given s b) same ends)
  all-move (line ∷ lines) ending given a m b done ends = gone-moves line lines ending a done.0 b.store.told done.1 (all-move lines ending given done.0 m b done.2 ends)

  pub batch-moves : (most limit : ℕ) (given : Status) (a b : Around) (did : Batches X N most limit given a b) → Moves did.lines did.ending (without_input a) b.store.told
  batch-moves most limit given a b did = all-move did.lines did.ending given (without_input a) did.between (without_input b) did.done did.ends
