-- Talks with a peer: what they leave, and one for whose words there was no memory.
use Rattle.std.proofs.Common.{◌≡◌, ℕ, List, [], ◌∷◌, refl, sym, ap, subst, ◌∙◌, arith, inl, inr, append-nil, None, Some, Result, Err}
use Rattle.std.specs.Prelude.{fold}
use Rattle.std.specs.List.{AllByRecursion}
use Rattle.uf_cid.specs.declared.cid.Cid.{Cid}
use Rattle.uf_edge.specs.Streams.{AppendsPrefix, Told, after}
use Rattle.uf_mfs.specs.Standing.{head_in}
use Rattle.uf_pull.specs.Pulling.{IsSaveOrSync}
use Rattle.uf_pull.specs.declared.fault.PullFault.TheVariants as pull
use Rattle.uf_pull.specs.declared.fault.ServeFault.TheVariants as serve
use Rattle.uf_command.specs.Statuses.{no_memory}
use Rattle.uf_command.specs.Telling.{TellsEnd}
use Rattle.uf_command.specs.declared.status.Status.{Status}
use Rattle.uf_command.specs.declared.types.Refusal.{Refusal}
use Rattle.uf_store.specs.Contents.{Notes, notes_after}
use Rattle.uf_store.specs.Contents as contents
use Rattle.uf_store.specs.Writing.{Wrote}
use Rattle.uf_store.specs.declared.store.StoreFault.TheVariants as fault
use Rattle.uf_store.specs.declared.store.Write.{Write}
use Rattle.uf_store.specs.declared.store.Write.TheVariants.{Saved, Synced, Noted}
use Rattle.uf_store.proofs.Causes.{StaysCalm-refl, calm-memory}
use Rattle.uf_store.proofs.Keeping.{KeepsGood-refl}
use Rattle.uf_store.proofs.Writing.{Wrote-refl}
use Rattle.uf_top.specs.Around.{Around, Said}
use Rattle.uf_top.specs.Talking.{RunsPull, RunsServe}
use Rattle.uf_top.specs.Working.{IsIdle}
use Rattle.uf_top.proofs.Shows.{counts-still}
use Rattle.uf_top.proofs.Wanted.{wants}

-- saves and syncs leave the notes as they were
notes-stay : (writes : List Write) (n : Notes) → AllByRecursion IsSaveOrSync writes → fold notes_after n writes ≡ n
notes-stay [] n each = refl
notes-stay (Saved cid bytes ∷ writes) n each = notes-stay writes n each.1
notes-stay (Synced ∷ writes) n each = notes-stay writes n each.1
notes-stay (Noted which text ∷ writes) n each = absurd each.0

pub head-stays : (X : List ℕ → List ℕ) (a b : contents.Told) → Wrote X IsSaveOrSync a b → head_in b ≡ head_in a
head-stays X None None h = refl
head-stays X None (Some u) h = absurd h
head-stays X (Some t) None h = absurd h
head-stays X (Some t) (Some u) h = ap (λ (n : Notes). n.head) (h.notes ∙ notes-stay h.added t.notes h.each)

-- nothing was written
pub no-bytes : (out : Told) → out ≡ after out []
no-bytes None = refl
no-bytes (Some held) = ap Some (sym (append-nil held))

pub no-front : (text : List ℕ) (out : Told) → AppendsPrefix text out out
no-front text out = record { count = 0; fits = omega arith; appended = no-bytes out }

module _ (X : List ℕ → List ℕ) (N : List ℕ → ℕ) (given : Status) (done : Result (Unit {0}) Refusal) (a b : Around) (idle : IsIdle X N no_memory done a b) (t : TellsEnd (Said a.errors b.errors) done given) where
  pub pull-wants : (cid : Cid) → RunsPull X N cid given a b
  pull-wants cid = subst (λ now. RunsPull X N cid given a now) (sym idle.same) (record {
    done = Err (pull.Store fault.Memory);
    tells = wants (Said a.errors b.errors) given done idle.refused t;
    pulls = λ c bytes told left. inl (record { count = 0; few = omega arith; kept = told; written = no-front _ a.held });
    last = λ c bytes told left. inr (no-front _ a.held);
    wants = λ c u bytes told left now. tt;
    some = ([], no-bytes a.held);
    cause = calm-memory a.store a.store (StaysCalm-refl a.store);
    fault = tt;
    reads = counts-still a.reads;
    writes = counts-still a.writes;
    good = KeepsGood-refl X a.store.told;
    saves = Wrote-refl X IsSaveOrSync a.store.told;
    head = refl;
    stands = λ standing stands. stands;
    host = refl;
  })

  pub serve-wants : RunsServe X N given a b
  serve-wants = subst (λ now. RunsServe X N given a now) (sym idle.same) (record {
    done = Err (serve.Store fault.Memory);
    tells = wants (Said a.errors b.errors) given done idle.refused t;
    frames = λ c bytes told left. no-front _ a.held;
    some = ([], no-bytes a.held);
    cause = calm-memory a.store a.store (StaysCalm-refl a.store);
    fault = tt;
    reads = counts-still a.reads;
    writes = counts-still a.writes;
    told = refl;
    host = refl;
  })
