-- What is so of all words, whether they are refused or are a command.
use Rattle.std.proofs.Common.{◌≡◌, ◌⊎◌, ℕ, ◌+◌, ◌<◌, ◌≤◌, List, [], true, false, arith, sym, ap, subst, ◌∙◌, inl, inr, Result, Ok, Err}
use Rattle.std.specs.Prelude.{IfSome}
use Rattle.uf_cid.specs.Blocks.{Held, Lookup}
use Rattle.uf_mfs.specs.Reading.{AreHeights}
use Rattle.uf_mfs.specs.Standing.{TellsAs, head_in}
use Rattle.uf_store.specs.Calls.{Calm}
use Rattle.uf_store.specs.Keeping.{KeepsGood}
use Rattle.uf_store.specs.declared.store.StoreFault.TheVariants as fault
use Rattle.uf_store.proofs.Keeping.{KeepsGood-same}
use Rattle.uf_tree.specs.Tree.{Dir, Entries}
use Rattle.uf_tree.specs.TreePlan.{blocks}
use Rattle.uf_tree.specs.declared.profile.Profile.{Profile}
use Rattle.uf_command.specs.Commands.{HasInput, of_command}
use Rattle.uf_command.specs.Kinds.{refusal_kind, word_kinds}
use Rattle.uf_command.specs.Natures.{prints_after, writes_host}
use Rattle.uf_command.specs.Statuses.{status_of}
use Rattle.uf_command.specs.declared.status.Status.{Status}
use Rattle.uf_command.specs.declared.status.Status.TheVariants as status
use Rattle.uf_command.specs.declared.types.Command.{Command}
use Rattle.uf_command.specs.declared.types.Refusal.{Refusal}
use Rattle.uf_command.specs.declared.types.Refusal.TheVariants as refusal
use Rattle.uf_top.specs.Answering.{LeavesNext}
use Rattle.uf_top.specs.Around.{Around, CountsCanRise, HasOutside, RoseAt, StaysQuiet}
use Rattle.uf_top.specs.Batch.{LineDone}
use Rattle.uf_top.specs.Bounds.{words_touch}
use Rattle.uf_top.specs.Caused.{StatusShows}
use Rattle.uf_top.specs.Endings.{EndsAs, IsRefusedBy, PrintsPart, may_move}
use Rattle.uf_top.specs.Losing.{EndsOver, command_needs}
use Rattle.uf_top.specs.Naming.{FindsOver, FindsWorld, NamesAfter, StandsNamed, StaysNamed, TellsBlocks}
use Rattle.uf_top.specs.Pins.{PinsAfter, pins_in}
use Rattle.uf_top.specs.Reply.{Outside, World, in_world, outside_of, reply_to}
use Rattle.uf_top.specs.Running.{RefusesWords, Runs, RunsCommand, TellsFaults}
use Rattle.uf_top.specs.Shapes.{WritesFor, is_done}
use Rattle.uf_top.proofs.Counted.{none-same}
use Rattle.uf_top.proofs.Losing.{names-same}
use Rattle.uf_top.proofs.Standings.{tells-none}
use Rattle.uf_top.proofs.Wrote.{words-good}

-- words are refused for no failed write
unwritten : (why : Refusal) → word_kinds (refusal_kind why) ≡ true → status_of why ≡ status.WriteFault → ⊥
unwritten (refusal.Rule rule) words is = cc
unwritten (refusal.Dag rule) words is = cc
unwritten (refusal.Car number place) words is = cc
unwritten (refusal.CarLacks cid) words is = cc
unwritten (refusal.OwnClash cid first second) words is = cc
unwritten (refusal.Host rule) words is = cc
unwritten (refusal.BadPath path) words is = cc
unwritten refusal.Usage words is = cc
unwritten refusal.InputTooLong words is = cc
unwritten refusal.BadPins words is = cc
unwritten (refusal.Ready reason) words is = cc
unwritten refusal.Read words is = cc
unwritten refusal.Write words is = cc
unwritten (refusal.Store fault.Failed) words is = cc
unwritten (refusal.Store (fault.Damaged cid)) words is = cc
unwritten (refusal.Store (fault.Missing cid)) words is = cc
unwritten (refusal.Store (fault.BadBlock cid role)) words is = cc
unwritten (refusal.Store (fault.Clash cid first second)) words is = cc
unwritten (refusal.Store fault.Memory) words is = cc

-- the blocks that words need of a tree of which some are lost
abbrev pub words_need : (List ℕ → List ℕ) → (List ℕ → ℕ) → (ℕ → ℕ) → Result Command Refusal → Profile → Entries → List Held
words_need X N rows (Ok command) p es = command_needs X N rows command p es
words_need X N rows (Err why) p es = []

module _ (X : List ℕ → List ℕ) (N : List ℕ → ℕ) where
  pub record Ran (asked : Result Command Refusal) (given : Status) (a b : Around) : Type 0 where
    pub replies : (w : World) → FindsWorld X N asked a.store.told w → HasOutside asked (outside_of w) a b → StaysQuiet asked given a b
        → EndsAs X N asked w given a b
    pub unprinted : (w : World) → of_command prints_after false asked ≡ true → given ≡ status.WriteFault → FindsWorld X N asked a.store.told w → HasOutside asked (outside_of w) a b → Calm a.store b.store
        → LeavesNext X N (reply_to X N asked w) b.store.told
    pub lost : (p : Profile) (es : Entries) (rows : ℕ → ℕ) (held : Lookup) (outside : Outside) → StaysNamed X N a.store.told b.store.told p es → TellsBlocks a.store.told held → AreHeights p rows → HasOutside asked outside a b
        → StaysQuiet asked given a b → EndsOver X N p es (words_need X N rows asked p es) (reply_to X N asked (in_world p es held outside)) given a b
    pub unprinted_over : (p : Profile) (es : Entries) (held : Lookup) (outside : Outside) → of_command prints_after false asked ≡ true → given ≡ status.WriteFault → StaysNamed X N a.store.told b.store.told p es → HasOutside asked outside a b
        → Calm a.store b.store → StandsNamed X N a.store.told b.store.told (blocks X N p (Dir es)) (reply_to X N asked (in_world p es held outside)).next
    pub written : given ≡ status.WriteFault → RoseAt (of_command writes_host false asked) a.writes b.writes a.host.writes b.host.writes
    pub faults : TellsFaults given a b
    pub prefix : (w : World) → FindsOver X N a.store.told b.store.told asked w → HasOutside asked (outside_of w) a b → CountsCanRise a.store → PrintsPart (reply_to X N asked w).ends a.held b.held
    pub writes : WritesFor X asked (is_done given) a.store.told b.store.told
    pub good : KeepsGood X a.store.told b.store.told
    pub head : may_move asked given ≡ false → head_in b.store.told ≡ head_in a.store.told
    pub host : of_command writes_host false asked ≡ false → b.host.told ≡ a.host.told
    pub pins : PinsAfter asked given a.store.told b.store.told
    pub touches : (p : Profile) (es : Entries) (bytes : List ℕ) (rows : ℕ → ℕ) → StaysNamed X N a.store.told b.store.told p es → HasInput asked a.left bytes a.reads b.reads → AreHeights p rows → Calm a.store b.store
        → IfSome (words_touch X N rows bytes asked p es) (λ most. b.touches ≤ a.touches + most)

  -- a command
  command-ran : (command : Command) (given : Status) (a b : Around) → RunsCommand X N command given a b → Ran (Ok command) given a b
  command-ran command given a b r = record {
    replies = r.replies;
    unprinted = r.unprinted;
    lost = r.lost;
    unprinted_over = r.unprinted_over;
    written = λ is. subst (StatusShows X N a b command) is r.answered.cause;
    faults = r.faults;
    prefix = r.printed.prefix;
    writes = r.left.writes;
    good = words-good X (Ok command) (is_done given) a.store.told b.store.told r.left.writes;
    head = r.left.head;
    host = r.left.host;
    pins = r.left.pins;
    touches = r.touched.most;
  }

  -- refused words
  module _ (why : Refusal) (given : Status) (a b : Around) (r : RefusesWords why given a b) where
    no-fault : TellsFaults given a b
    no-fault = record {
      store = λ more. (let e = ap (λ (x : Around). x.store.faults) r.same in absurd (omega (arith, e, more)));
      clashes = λ more. (let e = ap (λ (x : Around). x.store.clashes) r.same in absurd (omega (arith, e, more)));
      reads = λ more. absurd (reads more);
      writes = λ more. absurd (writes more);
      counted = none-same a b r.same;
    }
      where
        reads : (a.reads < b.reads) ⊎ (a.host.reads < b.host.reads) → ⊥
        reads (inl more) = (let e = ap (λ (x : Around). x.reads) r.same in omega (arith, e, more))
        reads (inr more) = (let e = ap (λ (x : Around). x.host.reads) r.same in omega (arith, e, more))

        writes : (a.writes < b.writes) ⊎ (a.host.writes < b.host.writes) → ⊥
        writes (inl more) = (let e = ap (λ (x : Around). x.writes) r.same in omega (arith, e, more))
        writes (inr more) = (let e = ap (λ (x : Around). x.host.writes) r.same in omega (arith, e, more))

    replies-refused : (w : World) → FindsWorld X N (Err why) a.store.told w → EndsAs X N (Err why) w given a b
    replies-refused w finds = by r.refused
      where
        stands : TellsAs X N b.store.told w.standing
        stands = subst (λ (x : Around). TellsAs X N x.store.told w.standing) (sym r.same) finds.stands

        by : IsRefusedBy why given a b → EndsAs X N (Err why) w given a b
        by (inl memory) = inl (record { status_is = memory.0; says = memory.1; stands = stands })
        by (inr told) = inr (record { status_is = told.0; says = told.1; printed = ap (λ (x : Around). x.held) r.same; stands = stands; blocks = tells-none X N b.store.told w.standing stands }, tt)

    lost-refused : (p : Profile) (es : Entries) (outside : Outside) (held : Lookup) → StaysNamed X N a.store.told b.store.told p es
        → EndsOver X N p es [] (reply_to X N (Err why) (in_world p es held outside)) given a b
    lost-refused p es outside held named = by r.refused
      where
        now : NamesAfter X N a.store.told b.store.told (blocks X N p (Dir es)) p es
        now = names-same X N a.store.told b.store.told p es (ap (λ (x : Around). x.store.told) r.same) named

        by : IsRefusedBy why given a b → EndsOver X N p es [] (reply_to X N (Err why) (in_world p es held outside)) given a b
        by (inl memory) = inl (record { fault = fault.Memory; loss = tt; status_is = memory.0; says = memory.1; stands = now })
        by (inr told) = inr (record { status_is = told.0; says = told.1; printed = ap (λ (x : Around). x.held) r.same; stands = now })

    written-refused : given ≡ status.WriteFault → ⊥
    written-refused is = by r.refused
      where
        by : IsRefusedBy why given a b → ⊥
        by (inl memory) = (let e : status.Memory ≡ status.WriteFault = sym memory.0 ∙ is in cc)
        by (inr told) = unwritten why r.words (sym told.0 ∙ is)

    words-ran : Ran (Err why) given a b
    words-ran = record {
      replies = λ w finds outside quiet. replies-refused w finds;
      unprinted = λ w after is finds outside calm. absurd cc;
      unprinted_over = λ p es held outside after. absurd cc;
      lost = λ p es rows held outside named tells heights has quiet. lost-refused p es outside held named;
      written = λ is. absurd (written-refused is);
      faults = no-fault;
      prefix = λ w finds outside room. ap (λ (x : Around). x.held) r.same;
      writes = ap (λ (x : Around). x.store.told) r.same;
      good = KeepsGood-same X a.store.told b.store.told (ap (λ (x : Around). x.store.told) r.same);
      head = λ still. ap (λ (x : Around). head_in x.store.told) r.same;
      host = λ is. ap (λ (x : Around). x.host.told) r.same;
      pins = ap (λ (x : Around). pins_in x.store.told) r.same;
      touches = λ p es bytes rows named input heights calm. (let e = ap (λ (x : Around). x.touches) r.same in omega (arith, e));
    }

  pub ran : (asked : Result Command Refusal) (given : Status) (a b : Around) → Runs X N asked given a b → Ran asked given a b
  ran (Ok command) given a b r = command-ran command given a b r
  ran (Err why) given a b r = words-ran why given a b r

-- a line of a batch
pub line-ran : {X : List ℕ → List ℕ} {N : List ℕ → ℕ} {line : List ℕ} {given : Status} {a b : Around} → (done : LineDone X N line given a b) → Ran X N done.asked given a b
line-ran {X} {N} {line} {given} {a} {b} done = ran X N done.asked given a b done.runs
