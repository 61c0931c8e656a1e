-- What may come between two commands.
use Rattle.std.proofs.Common.{◌≡◌, ◌∙◌, ℕ, List, ◌++◌, Bool, refl, sym, ap, subst, inl, inr, None, Some, Result, Ok, Err}
use Rattle.uf_cid.specs.declared.cid.Cid.{Cid}
use Rattle.uf_command.specs.declared.status.Status.{Status}
use Rattle.uf_command.specs.declared.types.Refusal.{Refusal}
use Rattle.uf_mfs.specs.Standing.{TellsAs, head_in}
use Rattle.uf_pins.proofs.Decided.{note-read}
use Rattle.uf_store.specs.Contents.{Contents, Notes, Told}
use Rattle.uf_store.specs.Keeping.{Agrees}
use Rattle.uf_store.specs.Seen.{Seen}
use Rattle.uf_store.specs.declared.store.Write.{Write}
use Rattle.uf_top.specs.Around.{Around}
use Rattle.uf_top.specs.Checking.{RunsCheck}
use Rattle.uf_top.specs.Collecting.{KeepsFor, RunsGc, kept_in}
use Rattle.uf_top.specs.Outcomes.{IsSafeFor}
use Rattle.uf_top.specs.Talking.{RunsPull, RunsServe}
use Rattle.uf_tree.specs.Standing.{Standing}
use Rattle.uf_headline.specs.Calls.{IsReopened, MeanwhileOver, SafelyBetween, blocks_of}
use Rattle.uf_headline.specs.History.{Between}
use Rattle.uf_headline.proofs.Calling.{nothing-lost, reopened-safe}
use Rattle.uf_headline.proofs.Pulled.{pull-safe, pull-stops}

-- what is kept or not of a collection, the Head stays
kept-head : (t : Contents) (kept : Result (List Cid) Refusal) (told : Told) → KeepsFor t kept told → head_in told ≡ t.notes.head
kept-head t (Ok list) told k = ap head_in k.tells ∙ ap (λ (n : Notes). n.head) k.notes
kept-head t (Err why) told (inl e) = ap head_in e
kept-head t (Err why) told (inr e) = ap head_in e

module _ (X : List ℕ → List ℕ) (N : List ℕ → ℕ) where
  -- nothing happened
  pub between-same : (a b : Told) → b ≡ a → Between X N a b
  between-same a b same = record {
    stands = λ s t. subst (λ (x : Told). TellsAs X N x s) (sym same) t;
    head = λ s t. ap head_in same;
  }

  -- one after the other
  pub between-then : (a m b : Told) → Between X N a m → Between X N m b → Between X N a b
  between-then a m b first last = record {
    stands = λ s t. last.stands s (first.stands s t);
    head = λ s t. last.head s (first.stands s t) ∙ first.head s t;
  }

  module _ (given : Status) (a b : Around) where
    pub pull-between : (cid : Cid) → RunsPull X N cid given a b → Between X N a.store.told b.store.told
    pull-between cid runs = record { stands = runs.stands; head = λ s t. runs.head }

    pub serve-between : RunsServe X N given a b → Between X N a.store.told b.store.told
    serve-between runs = between-same a.store.told b.store.told runs.told

    pub check-between : (absent : Bool) (root : Cid) (names : List (List ℕ)) → RunsCheck X N absent root names given a b → Between X N a.store.told b.store.told
    check-between absent root names runs = between-same a.store.told b.store.told (ap (λ (x : Seen). x.told) runs.store)

    gc-head : (told : Told) (s : Standing) → a.store.told ≡ told → TellsAs X N told s → RunsGc X N given a b → head_in b.store.told ≡ head_in told
    gc-head None s is t runs = absurd t
    gc-head (Some t) s is stands runs = (let found = note-read t.notes.pins in kept-head t (kept_in t found.0) b.store.told (runs.keeps t found.0 is found.1))

    pub gc-between : RunsGc X N given a b → Between X N a.store.told b.store.told
    gc-between runs = record { stands = runs.stands; head = λ s t. gc-head a.store.told s refl t runs }

-- ---- over a store that is safe for a tree

same-contents : (a b : Told) (t u : Contents) → b ≡ a → a ≡ Some t → b ≡ Some u → u ≡ t
same-contents a b t u same was is = (let both : ◌≡◌ {A = Told} (Some u) (Some t) = sym is ∙ same ∙ was in let one : u ≡ t = cc in one)

module _ (X : List ℕ → List ℕ) (N : List ℕ → ℕ) where
  pub safely-same : (t u : Contents) → u ≡ t → SafelyBetween X N t u
  safely-same t u same = record { safe = λ p es h. subst (λ (x : Contents). IsSafeFor X N x p es) (sym same) h }

  pub safely-then : (t m u : Contents) → SafelyBetween X N t m → SafelyBetween X N m u → SafelyBetween X N t u
  safely-then t m u first last = record { safe = λ p es h. last.safe p es (first.safe p es h) }

  module _ (given : Status) (a b : Around) (t u : Contents) (was : a.store.told ≡ Some t) (is : b.store.told ≡ Some u) where
    pub pull-safely : (cid : Cid) → RunsPull X N cid given a b → SafelyBetween X N t u
    pull-safely cid runs = record { safe = λ p es h. pull-safe X N p es cid given a b runs t u was is h }

    -- a pull that was stopped, and the store that is opened then
    pub pull-stopped : (cid : Cid) (made rest : List Write) (c : Contents) → RunsPull X N cid given a b → u.writes ≡ t.writes ++ made ++ rest → IsReopened (t.writes ++ made) c → SafelyBetween X N t c
    pull-stopped cid made rest c runs cut again = record {
      safe = λ p es h. reopened-safe X N (t.writes ++ made) c p es again (pull-stops X N p es cid given a b runs t u was is h made rest cut c.held c.notes again.outcome);
    }

    pub serve-safely : RunsServe X N given a b → SafelyBetween X N t u
    serve-safely runs = safely-same t u (same-contents a.store.told b.store.told t u runs.told was is)

    pub check-safely : (absent : Bool) (root : Cid) (names : List (List ℕ)) → RunsCheck X N absent root names given a b → SafelyBetween X N t u
    check-safely absent root names runs = safely-same t u (same-contents a.store.told b.store.told t u (ap (λ (x : Seen). x.told) runs.store) was is)

    pub gc-safely : RunsGc X N given a b → SafelyBetween X N t u
    gc-safely runs = record { safe = λ p es h. runs.safe t u p es was is h }

-- ---- over a store that loses blocks

module _ (X : List ℕ → List ℕ) (N : List ℕ → ℕ) (s : Standing) (given : Status) (a b : Around) (t u : Contents) (was : a.store.told ≡ Some t) (is : b.store.told ≡ Some u) where
  pub pull-named : (cid : Cid) → RunsPull X N cid given a b → Agrees (Some u) (blocks_of X N s) → MeanwhileOver X N s t u
  pull-named cid runs agrees = inr (record { head = sym (ap head_in is) ∙ runs.head ∙ ap head_in was; agrees = agrees })

  pub serve-named : RunsServe X N given a b → MeanwhileOver X N s t u
  serve-named runs = nothing-lost X N s t u (same-contents a.store.told b.store.told t u runs.told was is)

  pub check-named : (absent : Bool) (root : Cid) (names : List (List ℕ)) → RunsCheck X N absent root names given a b → MeanwhileOver X N s t u
  check-named absent root names runs = nothing-lost X N s t u (same-contents a.store.told b.store.told t u (ap (λ (x : Seen). x.told) runs.store) was is)

  pub gc-named : RunsGc X N given a b → Agrees (Some u) (blocks_of X N s) → MeanwhileOver X N s t u
  gc-named runs agrees =
      let found = note-read t.notes.pins in
      inr (record { head = sym (ap head_in is) ∙ kept-head t (kept_in t found.0) b.store.told (runs.keeps t found.0 was found.1); agrees = agrees })
