-- What a batch keeps, from what each of its lines keeps.
use Rattle.std.proofs.Common.{◌≡◌, ◌∙◌, ℕ, List, [], ◌∷◌, sym, ap, subst, inl, inr}
use Rattle.uf_store.specs.Keeping.{KeepsGood}
use Rattle.uf_store.proofs.Keeping.{KeepsGood-refl, KeepsGood-trans}
use Rattle.uf_command.specs.declared.status.Status.{Status}
use Rattle.uf_command.specs.declared.types.Refusal.{Refusal}
use Rattle.uf_top.specs.Around.{Around}
use Rattle.uf_headline.proofs.LineHosts.{asks-leaves}
use Rattle.uf_headline.proofs.Ran.{line-ran}
use Rattle.uf_top.specs.Batch.{AtLine, Batches, ByMemory, ByReading, Ending, EndsSo, LineDone, LineGone, LinesDone, Tells, TooLong, WithInput, without_input}

module _ (X : List ℕ → List ℕ) (N : List ℕ → ℕ) where
  abbrev GoodStays : Around → Around → Type 0
  GoodStays a b = KeepsGood X a.store.told b.store.told

  same-good : (a b : Around) → b ≡ a → GoodStays a b
  same-good a b same = subst (λ s. GoodStays a s) (sym same) (KeepsGood-refl X a.store.told)

  gone-good : (line : List ℕ) (a b : Around) → LineGone X N line a b → GoodStays a b
  gone-good line a b (inl none) = same-good a b none.1
  gone-good line a b (inr passed) = (line-ran passed.done).good

  lines-good : (lines : List (List ℕ)) (a b : Around) → LinesDone X N lines a b → GoodStays a b
  lines-good [] a b same = same-good a b same
  lines-good (line ∷ lines) a b done = KeepsGood-trans X a.store.told done.0.store.told b.store.told (gone-good line a done.0 done.1) (lines-good lines done.0 b done.2)

  tells-good : (why : Refusal) (given : Status) (a b : Around) → Tells X N why given a b → GoodStays a b
  tells-good why given a b t = subst (λ s. KeepsGood X a.store.told s.store.told) (sym t.same) (KeepsGood-refl X a.store.told)

  ends-good : (ending : Ending X N) (given : Status) (a b : Around) → EndsSo X N ending given a b → GoodStays a b
  ends-good WithInput given a b e = same-good a b e.1
  ends-good TooLong given a b e = tells-good _ given a b e
  ends-good ByReading given a b e = tells-good _ given a b e
  ends-good ByMemory given a b e = tells-good _ given a b e
  ends-good (AtLine line) given a b (inl e) = (line-ran e.done).good
  ends-good (AtLine line) given a b (inr e) = (line-ran e.done).good

  pub batch-good : (most limit : ℕ) (given : Status) (a b : Around) → Batches X N most limit given a b → GoodStays a b
  batch-good most limit given a b did =
      KeepsGood-trans X a.store.told did.between.store.told b.store.told (lines-good did.lines (without_input a) did.between did.done) (ends-good did.ending given did.between (without_input b) did.ends)

  -- ---- the host

  abbrev HostStays : Around → Around → Type 0
  HostStays a b = b.host.told ≡ a.host.told

  done-host : (line : List ℕ) (given : Status) (a b : Around) → LineDone X N line given a b → HostStays a b
  done-host line given a b done = (line-ran done).host (asks-leaves line done.asked done.asks)

  gone-host : (line : List ℕ) (a b : Around) → LineGone X N line a b → HostStays a b
  gone-host line a b (inl none) = ap (λ (s : Around). s.host.told) none.1
  gone-host line a b (inr passed) = done-host line passed.given a _ passed.done

  lines-host : (lines : List (List ℕ)) (a b : Around) → LinesDone X N lines a b → HostStays a b
  lines-host [] a b same = ap (λ (s : Around). s.host.told) same
  lines-host (line ∷ lines) a b done = lines-host lines done.0 b done.2 ∙ gone-host line a done.0 done.1

  ends-host : (ending : Ending X N) (given : Status) (a b : Around) → EndsSo X N ending given a b → HostStays a b
  ends-host WithInput given a b e = ap (λ (s : Around). s.host.told) e.1
  ends-host TooLong given a b e = ap (λ (s : Around). s.host.told) e.same
  ends-host ByReading given a b e = ap (λ (s : Around). s.host.told) e.same
  ends-host ByMemory given a b e = ap (λ (s : Around). s.host.told) e.same
  ends-host (AtLine line) given a b (inl e) = done-host line given a _ e.done
  ends-host (AtLine line) given a b (inr e) = done-host line e.was a _ e.done

  pub batch-host : (most limit : ℕ) (given : Status) (a b : Around) → Batches X N most limit given a b → HostStays a b
  batch-host most limit given a b did = ends-host did.ending given did.between (without_input b) did.ends ∙ lines-host did.lines (without_input a) did.between did.done
