-- A batch for whose words there was no memory.
use Rattle.std.proofs.Common.{◌≡◌, ◌⊎◌, ℕ, List, [], refl, ap, subst, inl, inr, None, Some, Result, Err}
use Rattle.std.specs.Prelude.{IfSome}
use Rattle.uf_edge.specs.Streams.{Told}
use Rattle.uf_lines.specs.LinesIn.{lines_in}
use Rattle.uf_command.specs.Statuses.{no_memory}
use Rattle.uf_command.specs.declared.status.Status.{Status}
use Rattle.uf_command.specs.declared.types.Refusal.{Refusal}
use Rattle.uf_top.specs.Around.{Around, Said}
use Rattle.uf_top.specs.Batch.{AreOf, Batches, ByMemory, without_input}
use Rattle.uf_command.specs.Telling.{TellsEnd, TellsWhy}
use Rattle.uf_top.specs.Working.{IsIdle}

some-of : (X : List ℕ → List ℕ) (N : List ℕ → ℕ) (most limit : ℕ) (left : Told) → IfSome left (λ bytes. AreOf X N ByMemory [] (lines_in most limit bytes))
some-of X N most limit None = tt
some-of X N most limit (Some bytes) = ((lines_in most limit bytes).lines, refl)

module _ (Says : List ℕ → Type 0) (given : Status) (done : Result (Unit {0}) Refusal) where
  pub wants : (done ≡ Err no_memory) ⊎ (done ≡ Err no_memory) → TellsEnd Says done given → TellsWhy Says no_memory given
  wants (inl is) t = subst (λ d. TellsEnd Says d given) is t
  wants (inr is) t = subst (λ d. TellsEnd Says d given) is t

-- nothing was done, and that is told
pub batch-wants : (X : List ℕ → List ℕ) (N : List ℕ → ℕ) (most limit : ℕ) (given : Status) (done : Result (Unit {0}) Refusal) (a b : Around) → IsIdle X N no_memory done a b → TellsEnd (Said a.errors b.errors) done given
    → Batches X N most limit given a b
batch-wants X N most limit given done a b idle t = record {
  lines = [];
  between = without_input a;
  ending = ByMemory;
  done = refl;
  ends = record {
    same = ap (λ (x : Around). record x { left = Some []; reads = 0 }) idle.same;
    told = wants (Said a.errors b.errors) given done idle.refused t;
  };
  told = some-of X N most limit a.left;
  nothing_left = λ is. absurd cc;
  fails = ap (λ (x : Around). x.reads) idle.same;
}
