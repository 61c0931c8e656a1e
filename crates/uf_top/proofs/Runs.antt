-- From how a command was done to what it did.
use Rattle.std.proofs.Common.{◌≡◌, ◌∙◌, sym, subst, inl, inr, Result, Ok, Err}
use Rattle.std.specs.Prelude.{ℕ, List, IfErr}
use Rattle.uf_command.specs.Commands.{IsOfWords, of_command}
use Rattle.uf_command.specs.Kinds.{IsOf}
use Rattle.uf_command.specs.Natures.{IsOfCommand, NoStore, may_end, own_store}
use Rattle.uf_command.specs.declared.status.Status.{Status}
use Rattle.uf_command.specs.declared.status.Status.TheVariants as status
use Rattle.uf_command.specs.declared.types.Command.{Command}
use Rattle.uf_command.specs.declared.types.Refusal.{Refusal}
use Rattle.uf_command.specs.declared.types.Refusal.TheVariants as refusal
use Rattle.uf_cid.specs.declared.cid.Cid.{Cid}
use Rattle.uf_store.specs.declared.store.Role.{Role}
use Rattle.uf_store.specs.declared.store.StoreFault.TheVariants.{BadBlock}
use Rattle.uf_top.specs.Endings.{IsRefusedBy}
use Rattle.uf_top.proofs.Shows.{blamed-block}
use Rattle.uf_top.specs.Around.{Around, Said}
use Rattle.uf_top.specs.Cars.{ByOwnStore}
use Rattle.uf_top.specs.Caused.{BlamesWhereRead}
use Rattle.uf_command.specs.Telling.{TellsEnd}
use Rattle.uf_top.specs.Running.{Runs, RunsCommand}
use Rattle.uf_top.specs.Working.{Does, Serves}
use Rattle.uf_top.proofs.Counted.{counted-of}
use Rattle.uf_top.proofs.Losses.{lost-told, touches-told}
use Rattle.uf_top.proofs.Telling.{blamed-told, blames-told, clashes-told, faults-told, gets-told, head-told, host-told, idle-told, is-refused, kept-told, kinds-told, pins-told, prefix-told, prints-told, read-told, replies-told, says-plain, shows, synced-told, unplaced-told, unprinted-over-told, unprinted-told, unready-told, whole-told, write-told, writes-told}

-- no words that are refused call a block bad
no-words-blame : (cid : Cid) (role : Role) → IsOfWords (Err (refusal.Store (BadBlock cid role))) → ⊥
no-words-blame cid role of = cc

words-blame-none : (why : Refusal) (given : Status) (a b : Around) → IsOfWords (Err why) → IsRefusedBy why given a b → given ≡ status.BadBlock → ⊥
words-blame-none why given a b of (inl m) is = (let k : status.Memory ≡ status.BadBlock = sym m.0 ∙ is in cc)
words-blame-none why given a b of (inr r) is =
    let k = blamed-block why (sym r.0 ∙ is) in no-words-blame k.0 k.1 (subst (λ w. IsOfWords (Err w)) k.2 of)

module _ (given : Status) (X : List ℕ → List ℕ) (N : List ℕ → ℕ) (a b : Around) where
  command-told : (command : Command) (done : Result (Unit {0}) Refusal) → Does X N command done a b → IfErr done (ByOwnStore X (own_store command) a.left a.store b.store) → IsOf (may_end command) done → TellsEnd (Said a.errors b.errors) done given
      → RunsCommand X N command given a b
  command-told command done s sections kinds t = record {
    replies = λ w finds outside quiet. replies-told a b given X N command done s t w finds outside quiet.store quiet.written quiet.own;
    whole = λ standing needs stands calm. whole-told a b given X N command done s t standing needs stands calm;
    unprinted = λ w after is finds outside calm. unprinted-told a b given X N command done s t w after is finds outside calm;
    unprinted_over = λ p es held outside after is named has calm. unprinted-over-told a b given X N command done s t p es held outside after is named has calm;
    lost = λ p es rows held outside named tells heights has quiet.
        lost-told a b given X N p es command done s t rows held outside named tells heights has quiet.store quiet.written quiet.own;
    answered = record {
      kinds = kinds-told a b given command done kinds t;
      lines = says-plain a b given done t;
      cause = shows a b given X N command done s sections kinds t;
    };
    faults = record {
      store = λ more. faults-told a b given X N command done s t more;
      clashes = λ more. clashes-told a b given X N command done s t more;
      reads = λ more. read-told a b given X N command done s t more;
      writes = λ more. write-told a b given X N command done s t more;
      counted = counted-of X N a b command done s;
    };
    printed = record {
      prefix = λ w finds outside room. prefix-told a b given X N command done s w finds outside room;
      text = prints-told a b given X N command done s t;
      synced = λ is. synced-told a b given X N command done s t is;
    };
    left = record {
      writes = writes-told a b given X N command done s t;
      head = λ unmoved. head-told a b given X N command done s t unmoved;
      idle = λ p es bytes names input faults is. idle-told a b given X N command done s p es bytes names input faults is;
      unready = λ is. unready-told a b given X N command done s (kinds-told a b given command done kinds t) t is;
      unplaced = λ p es names stood none. unplaced-told a b given X N command done s p es names stood none;
      host = λ is. host-told a b given X N command done s is;
      gets = gets-told a b given X N command done s t;
      pins = pins-told a b given X N command done s t;
      kept = kept-told a b given X N command done s t;
    };
    touched = record {
      most = λ p es bytes rows named input heights calm. touches-told a b given X N p es bytes rows command done s named input heights calm;
      bad = λ is. blamed-told a b given X N command done s t is;
    };
  }

  -- words that are refused blame no block
  pub blames-of : (asked : Result Command Refusal) (done : Result (Unit {0}) Refusal) → Serves X N asked done a b → IsOfWords asked → TellsEnd (Said a.errors b.errors) done given → BlamesWhereRead X N a b given
  blames-of (Ok command) done s of-words t = blames-told a b given X N command done s t
  blames-of (Err why) done s of-words t = λ is. absurd (words-blame-none why given a b of-words (is-refused a b given done why t s.refused) is)

  pub runs-told : (asked : Result Command Refusal) (done : Result (Unit {0}) Refusal) → IsOfWords asked → Serves X N asked done a b
      → IfErr done (ByOwnStore X (of_command own_store NoStore asked) a.left a.store b.store) → IsOfCommand asked done → TellsEnd (Said a.errors b.errors) done given → Runs X N asked given a b
  runs-told (Ok command) done of-words s sections kinds t = command-told command done s sections kinds t
  runs-told (Err why) done of-words s sections kinds t = record {
    words = of-words;
    refused = is-refused a b given done why t s.refused;
    same = s.same;
  }
