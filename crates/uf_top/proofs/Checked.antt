-- The check of a proof that was asked for: as it was done, or not begun for want of memory.
use Rattle.std.proofs.Common.{◌≡◌, ℕ, List, [], Bool, refl, sym, subst, inl, inr, Result, Ok, Err}
use Rattle.uf_cid.specs.declared.cid.Cid.{Cid}
use Rattle.uf_car.specs.Reading.{car_read}
use Rattle.uf_light.specs.Answers.{OpensAs, opened}
use Rattle.uf_light.specs.declared.fault.LightFault.{LightFault}
use Rattle.uf_light.specs.declared.fault.LightFault.TheVariants as light
use Rattle.uf_path.specs.declared.path.Path.{Path}
use Rattle.uf_store.specs.declared.store.StoreFault.TheVariants as fault
use Rattle.uf_command.specs.Statuses.{no_memory}
use Rattle.uf_command.specs.Telling.{TellsEnd}
use Rattle.uf_command.specs.declared.requests.Request.TheVariants.{Check}
use Rattle.uf_command.specs.declared.status.Status.{Status}
use Rattle.uf_command.specs.declared.types.Refusal.{Refusal}
use Rattle.uf_top.specs.Around.{Around, Said}
use Rattle.uf_top.specs.Checking.{RunsCheck}
use Rattle.uf_top.specs.Light.{most_of_proof}
use Rattle.uf_top.specs.Working.{IsIdle}
use Rattle.uf_top.proofs.Shows.{counts-still}
use Rattle.uf_top.proofs.Talks.{no-bytes, no-front}
use Rattle.uf_top.proofs.Wanted.{wants}

-- want of memory is told whatever the CAR says
opens-wanting : (said : Result (Unit {0}) LightFault) → OpensAs {A = ℕ} said (Err (light.Store fault.Memory))
opens-wanting (Ok done) = tt
opens-wanting (Err f) = inl refl

module _ (X : List ℕ → List ℕ) (N : List ℕ → ℕ) (given : Status) (done : Result (Unit {0}) Refusal) (a b : Around) (idle : IsIdle X N no_memory done a b) (t : TellsEnd (Said a.errors b.errors) done given) where
  pub check-wants : (absent : Bool) (cid : Cid) (names : List (List ℕ)) → RunsCheck X N absent cid names given a b
  check-wants absent cid names = subst (λ now. RunsCheck X N absent cid names given a now) (sym idle.same) (record {
    done = Err no_memory;
    tells = wants (Said a.errors b.errors) given done idle.refused t;
    checks = record {
      answer = Err (light.Store fault.Memory);
      checks = record {
        opens = λ bytes left stood. opens-wanting (opened cid (car_read X most_of_proof bytes));
        tree = λ bytes p t height left is high behind. inr tt;
        accepts = λ said bytes proof few left calm still. refl;
        front = λ bytes p t height left is high. inr (no-front _ a.held);
        first = λ bytes p t height left is high. inr tt;
        some = ([], no-bytes a.held);
        root_section = λ bytes left. tt;
        line = λ asked. tt;
        shown = λ bytes left. tt;
        own = tt;
        reads = counts-still a.reads;
        writes = record { rose = λ e. absurd cc; still = λ e. refl };
      };
      ends = inr refl;
    };
    store = refl;
    host = refl;
  })

-- what was done of the request that was read is so of the one that was asked for
module _ (given : Status) (X : List ℕ → List ℕ) (N : List ℕ → ℕ) (a b : Around) where
  pub checked-as : (absent asked : Bool) (cid other : Cid) (path to : Path) → Check absent cid path ≡ Check asked other to → RunsCheck X N absent cid path.names given a b → RunsCheck X N asked other to.names given a b
  checked-as absent asked cid other path to same runs =
      let x : absent ≡ asked = cc in let y : cid ≡ other = cc in let z : path ≡ to = cc in
      subst (λ n. RunsCheck X N n other to.names given a b) x
      (subst (λ c. RunsCheck X N absent c to.names given a b) y
      (subst (λ (p : Path). RunsCheck X N absent cid p.names given a b) z runs))
