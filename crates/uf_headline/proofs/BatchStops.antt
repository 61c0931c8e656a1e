-- What a stop during a batch leaves.
use Rattle.std.proofs.Common.{◌≡◌, ◌∙◌, ℕ, ◌≤◌, ◌<◌, ◌^◌, List, [], ◌∷◌, ◌++◌, true, false, arith, refl, sym, ap, subst, inl, inr, append_assoc, append-nil, Option, None, Some, Result, Ok, Err}
use Rattle.std.proofs.lemmas.Bool.{cases_lt}
use Rattle.std.specs.Prelude.{◌⊎◌}
use Rattle.uf_cid.specs.Blocks.{Held, Lookup}
use Rattle.uf_cid.specs.declared.cid.Cid.{Cid}
use Rattle.uf_edge.specs.Counts.{Stood}
use Rattle.uf_edge.specs.Host.{HostTree}
use Rattle.uf_host.specs.HostTree.{tree_on_host}
use Rattle.uf_host.specs.declared.fault.HostFault.{HostFault}
use Rattle.uf_mfs.specs.Reading.{CanRise}
use Rattle.uf_mfs.specs.Standing.{TellsAs, head_in}
use Rattle.uf_plain.specs.Edits.{at}
use Rattle.uf_plain.specs.Files.{read}
use Rattle.uf_plain.specs.Replies.{stat_of}
use Rattle.uf_plain.specs.declared.rule.Refused.{Refused}
use Rattle.uf_plain.specs.declared.rule.Rule.{Rule}
use Rattle.uf_store.specs.Calls.{Calm}
use Rattle.uf_store.specs.Contents.{Contents, Told}
use Rattle.uf_store.specs.declared.store.Write.{Write}
use Rattle.uf_tree.specs.Standing.{Standing, Stands}
use Rattle.uf_tree.specs.Tree.{Tree, Dir, Entries}
use Rattle.uf_tree.specs.TreePlan.{blocks}
use Rattle.uf_tree.specs.Validity.{IsHash}
use Rattle.uf_tree.specs.declared.profile.Profile.{Profile}
use Rattle.uf_command.specs.Commands.{of_command}
use Rattle.uf_command.specs.Natures.{prints_after}
use Rattle.uf_command.specs.Lines.{stat_text}
use Rattle.uf_command.specs.Statuses.{ends_batch}
use Rattle.uf_command.specs.declared.status.Status.{Status}
use Rattle.uf_command.specs.declared.status.Status.TheVariants as status
use Rattle.uf_command.specs.declared.types.Ask.{Ask}
use Rattle.uf_command.specs.declared.types.Ask.TheVariants.{Ls, Stat, Edit as Edits}
use Rattle.uf_command.specs.declared.types.Command.{Command}
use Rattle.uf_command.specs.declared.types.Command.TheVariants.{Init, Add, WriteInput, At, Read, Cat, Get, Export, Import, Same, Adopt, Gen, Pin, Prove}
use Rattle.uf_command.specs.declared.types.Adding.TheVariants as adding
use Rattle.uf_command.specs.declared.types.Refusal.{Refusal}
use Rattle.uf_store.specs.Seen.{Seen}
use Rattle.uf_top.specs.Answering.{LeavesNext}
use Rattle.uf_top.specs.Around.{Around, SameButErrors, SinkSide, StandsOrRose}
use Rattle.uf_top.specs.Batch.{AtLine, Batches, ByMemory, ByReading, Ending, EndsSo, LineDone, LineGone, LinePassed, LinesDone, TooLong, WithInput, without_input}
use Rattle.uf_headline.specs.BatchLines.{AllCanRise, BeginsSafe, EndsDuring, LineOf, StopsAtFirst, StopsInLine}
use Rattle.uf_headline.specs.BatchReplies.{NothingFails, line_world}
use Rattle.uf_top.specs.Endings.{EndsAs, may_move}
use Rattle.uf_top.specs.HostTexts.{host_text}
use Rattle.uf_top.specs.Naming.{TellsBlocks}
use Rattle.uf_top.specs.Outcomes.{EachOutcome, EachStop, IsSafeFor, LeavesEither, LeavesTree}
use Rattle.uf_top.specs.Reply.{added_spot, adopted, grown, host_tree, hosted, listed, looked, moved, placed, reply_to, settled, tree_reply}
use Rattle.uf_edits.specs.Edits.{edited_by}
use Rattle.uf_top.specs.Shapes.{WritesFor, is_done}
use Rattle.uf_headline.proofs.BatchHeads.{first-of, head-or, last-of, more-of}
use Rattle.uf_headline.proofs.BatchReplies.{finds-of, held-of, host-same, next-same, outside-of, quiet-of, stands-next}
use Rattle.uf_headline.proofs.Firm.{added-is, cut, firm-leaves, safe-firm}
use Rattle.uf_headline.proofs.LineHosts.{Suits, asks-suits}
use Rattle.uf_top.proofs.Pins.{noted-pins}
use Rattle.uf_headline.proofs.Ran.{line-ran}
use Rattle.uf_top.proofs.Standings.{stands-kept}
use Rattle.uf_top.proofs.Wrote.{words-wrote}
use Rattle.uf_headline.proofs.Stopped.{words-end}
use Rattle.uf_top.proofs.Counted.{but-errors, with_sinks}

-- ---- counts that didn't rise

still-stood : (i j : ℕ) → i ≤ j → (i < j → ⊥) → CanRise i → Stood i j
still-stood i j later never room = by (cases_lt i j)
  where
    by : (i < j) ⊎ (j ≤ i) → Stood i j
    by (inl less) = absurd (never less)
    by (inr ge) = omega (arith, later, ge, room)

still-wrote : (i j : ℕ) → StandsOrRose i j → (i < j → ⊥) → CanRise i → Stood i j
still-wrote i j (inl e) never room = omega (arith, e, room)
still-wrote i j (inr r) never room = by (cases_lt i j)
  where
    by : (i < j) ⊎ (j ≤ i) → Stood i j
    by (inl less) = absurd (never less)
    by (inr ge) = absurd (omega (arith, r, ge, room))

-- what didn't rise can rise still
rise-later : (i j : ℕ) → i ≤ j → Stood i j → CanRise j
rise-later i j later stood = omega (arith, later, stood)

rise-wrote : (i j : ℕ) → StandsOrRose i j → Stood i j → CanRise j
rise-wrote i j (inl e) stood = omega (arith, e, stood)
rise-wrote i j (inr r) stood = absurd (omega (arith, r, stood))

-- ---- the tree after a reply

abbrev IsTreeOf : Standing → Type 0
IsTreeOf s = (q : Profile) × (fs : Entries) × (s ≡ Stands q fs)

looked-tree : {A : Type 0} (p : Profile) (es : Entries) (names : List (List ℕ)) (say : A → List ℕ) (found : Result A Refused) → IsTreeOf (looked (Stands p es) names say found).next
looked-tree p es names say (Ok a) = (p, es, refl)
looked-tree p es names say (Err why) = (p, es, refl)

module _ (X : List ℕ → List ℕ) (N : List ℕ → ℕ) (p : Profile) (es : Entries) where
  moved-tree : (next : Result Entries Rule) → IsTreeOf (moved X N p es next).next
  moved-tree (Ok next) = (p, next, refl)
  moved-tree (Err rule) = (p, es, refl)

  grown-tree : (next : Result Entries Refusal) → IsTreeOf (grown X N p es next).next
  grown-tree (Ok next) = (p, next, refl)
  grown-tree (Err why) = (p, es, refl)

  settled-tree : (say : Tree → List ℕ) (next : Result (Tree × Entries) Refusal) → IsTreeOf (settled X N say p es next).next
  settled-tree say (Ok put) = (p, put.1, refl)
  settled-tree say (Err why) = (p, es, refl)

  hosted-tree : (held : Tree → List Held) (path : List ℕ) (there : Result Tree HostFault) → IsTreeOf (hosted X N (Stands p es) held path p there).next
  hosted-tree held path (Ok t) = (p, es, refl)
  hosted-tree held path (Err fault) = (p, es, refl)

  ask-tree : (ask : Ask) (names : List (List ℕ)) → IsTreeOf (tree_reply X N ask names p es).next
  ask-tree (Ls long) names = looked-tree p es names (listed X N long p names) (at 0 names (Dir es))
  ask-tree Stat names = looked-tree p es names (λ t. stat_text (stat_of X N p t)) (at 0 names (Dir es))
  ask-tree (Edits edit) names = moved-tree (edited_by X N edit names p es)

  reply-tree : (host : HostTree) (held : Lookup) (listed : Option (List Cid)) (asked : Result Command Refusal) → Suits asked → IsTreeOf (reply_to X N asked (line_world host (Stands p es) held listed)).next
  reply-tree host held listed (Err why) suits = (p, es, refl)
  reply-tree host held listed (Ok (Init q)) suits = (p, es, refl)
  reply-tree host held listed (Ok (Add (adding.Input only_hash))) suits = absurd (let e : true ≡ false = suits.0 in cc)
  reply-tree host held listed (Ok (Add (adding.Host recursive true path))) suits = hosted-tree (λ t. []) path (tree_on_host X N p host recursive path)
  reply-tree host held listed (Ok (Add (adding.Host recursive false path))) suits = hosted-tree (blocks X N p) path (tree_on_host X N p host recursive path)
  reply-tree host held listed (Ok (Add (adding.InputTo dest))) suits = absurd (let e : true ≡ false = suits.0 in cc)
  reply-tree host held listed (Ok (Add (adding.HostTo recursive path dest))) suits =
      settled-tree (host_text X N p path) (placed X N (added_spot dest (Some path) es) (host_tree path (tree_on_host X N p host recursive path)) p es)
  reply-tree host held listed (Ok (WriteInput how path)) suits = absurd (let e : true ≡ false = suits.0 in cc)
  reply-tree host held listed (Ok (At ask path)) suits = ask-tree ask path.names
  reply-tree host held listed (Ok (Read offset count path)) suits = looked-tree p es path.names (λ bytes. bytes) (read offset count path.names es)
  reply-tree host held listed (Ok (Prove absent path)) suits = (p, es, refl)
  reply-tree host held listed (Ok (Cat path)) suits = (p, es, refl)
  reply-tree host held listed (Ok (Get path host_path)) suits = (p, es, refl)
  reply-tree host held listed (Ok (Export cid)) suits = (p, es, refl)
  reply-tree host held listed (Ok Import) suits = (p, es, refl)
  reply-tree host held listed (Ok (Same cid)) suits = (p, es, refl)
  reply-tree host held listed (Ok (Adopt source dest)) suits = grown-tree (adopted X N held source dest p es)
  reply-tree host held listed (Ok (Gen n seed)) suits = (p, es, refl)
  reply-tree host held listed (Ok (Pin ask)) suits = (p, es, refl)

-- ---- a line

-- the answer is none that tells of a failure or a clash, nor want of memory
abbrev Quiet : Status → Type 0
Quiet given = (given ≡ status.StoreFault → ⊥) × (given ≡ status.Memory → ⊥) × (given ≡ status.Clash → ⊥) × (given ≡ status.ReadFault → ⊥)

quiet-status : (given is : Status) → given ≡ is → Quiet is → Quiet given
quiet-status given is same h = subst Quiet (sym same) h

quiet-on : (given : Status) → ends_batch given ≡ false → Quiet given × (given ≡ status.WriteFault → ⊥)
quiet-on given on = (
  (
    λ e. (let k : true ≡ false = subst (λ g. ends_batch g ≡ false) e on in cc),
    λ e. (let k : true ≡ false = subst (λ g. ends_batch g ≡ false) e on in cc),
    λ e. (let k : true ≡ false = subst (λ g. ends_batch g ≡ false) e on in cc),
    λ e. (let k : true ≡ false = subst (λ g. ends_batch g ≡ false) e on in cc),
  ),
  λ e. (let k : true ≡ false = subst (λ g. ends_batch g ≡ false) e on in cc),
)

module _ (X : List ℕ → List ℕ) (N : List ℕ → ℕ) (host : HostTree) where
  told-some : (told : Told) (s : Standing) → TellsAs X N told s → (d : Contents) × (told ≡ Some d)
  told-some None s stands = absurd stands
  told-some (Some d) s stands = (d, refl)

  module _ (line : List ℕ) (given : Status) (a b : Around) (done : LineDone X N line given a b) (c : Contents) (p : Profile) (es : Entries) (begin : BeginsSafe X N host a c p es) where
    stands : TellsAs X N a.store.told (Stands p es)
    stands = subst (λ t. TellsAs X N t (Stands p es)) (sym begin.told) begin.safe.stands

    -- ---- no count rose

    never : (want : Status) → (given ≡ want → ⊥) → (given ≡ status.Memory → ⊥) → (given ≡ want) ⊎ (given ≡ status.Memory) → ⊥
    never want other memory (inl is) = other is
    never want other memory (inr is) = memory is

    calm : Quiet given → Calm a.store b.store
    calm quiet = record {
      faults = still-stood a.store.faults b.store.faults (line-ran done).faults.counted.store.faults (λ more. quiet.0 ((line-ran done).faults.store more)) begin.room.store.faults;
      clashes = still-stood a.store.clashes b.store.clashes (line-ran done).faults.counted.store.clashes (λ more. never status.Clash quiet.2 quiet.1 ((line-ran done).faults.clashes more)) begin.room.store.clashes;
    }

    host-read : Quiet given → Stood a.host.reads b.host.reads
    host-read quiet = still-stood a.host.reads b.host.reads (line-ran done).faults.counted.host_reads (λ more. quiet.3 ((line-ran done).faults.reads (inr more))) begin.room.host

    wrote-all : (given ≡ status.WriteFault → ⊥) → Stood a.writes b.writes
    wrote-all other = still-wrote a.writes b.writes (line-ran done).faults.counted.writes (λ more. other ((line-ran done).faults.writes (inl more))) begin.room.output

    nothing-fails : Quiet given → (given ≡ status.WriteFault → ⊥) → NothingFails a b
    nothing-fails quiet other = record { store = calm quiet; output = wrote-all other; host = host-read quiet }

    room-later : Quiet given → (given ≡ status.WriteFault → ⊥) → AllCanRise b
    room-later quiet other = (let h = nothing-fails quiet other in record {
      store = record {
        faults = rise-later a.store.faults b.store.faults (line-ran done).faults.counted.store.faults h.store.faults;
        clashes = rise-later a.store.clashes b.store.clashes (line-ran done).faults.counted.store.clashes h.store.clashes;
      };
      output = rise-wrote a.writes b.writes (line-ran done).faults.counted.writes h.output;
      host = rise-later a.host.reads b.host.reads (line-ran done).faults.counted.host_reads h.host;
    })

    -- ---- the tree after it

    abbrev NextTree : Type 0
    NextTree = (q : Profile) × (fs : Entries) × TellsAs X N b.store.told (Stands q fs)

    by-reply : (held : Lookup) → TellsAs X N b.store.told (reply_to X N done.asked (line_world host (Stands p es) held (noted-pins a.store.told).0)).next → NextTree
    by-reply held now = (let r = reply-tree X N p es host held (noted-pins a.store.told).0 done.asked (asks-suits line done.asked done.asks) in (r.0, r.1, subst (TellsAs X N b.store.told) r.2 now))

    after-ok : given ≡ status.Ok → ((held : Lookup) × TellsBlocks a.store.told held) → NextTree
    after-ok is h0 = by ((line-ran done).replies (line_world host (Stands p es) h0.0 (noted-pins a.store.told).0) (finds-of X N host line given a b done (Stands p es) h0.0 stands h0.1) (outside-of X N host line given a b done (Stands p es) h0.0 begin.host_told fails.host) (quiet-of X N host line given a b done fails))
      where
        fails : NothingFails a b
        fails = nothing-fails (quiet-status given status.Ok is (λ e. cc, λ e. cc, λ e. cc, λ e. cc)) (λ e. (let k : status.Ok ≡ status.WriteFault = sym is ∙ e in cc))

        by : EndsAs X N done.asked (line_world host (Stands p es) h0.0 (noted-pins a.store.told).0) given a b → NextTree
        by (inl wants) = absurd (let k : status.Ok ≡ status.Memory = sym is ∙ wants.status_is in cc)
        by (inr replies) = by-reply h0.0 (stands-next X N host line given a b done (Stands p es) (reply_to X N done.asked (line_world host (Stands p es) h0.0 (noted-pins a.store.told).0)).next (λ none. next-same X N done.asked (line_world host (Stands p es) h0.0 (noted-pins a.store.told).0) none) stands replies.0.stands)

    after-unprinted : given ≡ status.WriteFault → of_command prints_after false done.asked ≡ true → ((held : Lookup) × TellsBlocks a.store.told held) → NextTree
    after-unprinted is after h0 = by-reply h0.0 left.stands
      where
        quiet : Quiet given
        quiet = quiet-status given status.WriteFault is (λ e. cc, λ e. cc, λ e. cc, λ e. cc)

        left : LeavesNext X N (reply_to X N done.asked (line_world host (Stands p es) h0.0 (noted-pins a.store.told).0)) b.store.told
        left = (line-ran done).unprinted (line_world host (Stands p es) h0.0 (noted-pins a.store.told).0) after is (finds-of X N host line given a b done (Stands p es) h0.0 stands h0.1) (outside-of X N host line given a b done (Stands p es) h0.0 begin.host_told (host-read quiet)) (calm quiet)

    -- a status by which the line may move the Head
    after-moved : (is : Status) → given ≡ is → may_move done.asked is ≡ true → NextTree
    after-moved status.Ok is may = after-ok is (held-of X N a.store.told (Stands p es) stands)
    after-moved status.Rule is may = absurd cc
    after-moved status.Usage is may = absurd cc
    after-moved status.StoreFault is may = absurd cc
    after-moved status.Missing is may = absurd cc
    after-moved status.BadBlock is may = absurd cc
    after-moved status.ReadFault is may = absurd cc
    after-moved status.WriteFault is may = after-unprinted is may (held-of X N a.store.told (Stands p es) stands)
    after-moved status.Clash is may = absurd cc
    after-moved status.Memory is may = absurd cc
    after-moved status.NotReady is may = absurd cc

    next-tree : (head_in b.store.told ≡ head_in a.store.told) ⊎ (may_move done.asked given ≡ true) → NextTree
    next-tree (inl same) = (p, es, stands-kept X N a.store.told b.store.told (Stands p es) (line-ran done).good same stands)
    next-tree (inr may) = after-moved given refl may

    -- ---- each stop in it

    -- the contents after it, which are safe for the tree then
    record LineSafe : Type 0 where
      q : Profile
      fs : Entries
      d : Contents
      told_now : b.store.told ≡ Some d
      safe_now : IsSafeFor X N d q fs
      stops : EachStop (LeavesEither X N p es q fs) c d
      added : List Write
      grown : d.writes ≡ c.writes ++ added

    module _ (hash : IsHash X) (small : (name : List ℕ) → N name < 2 ^ 64) where
      line-safe : LineSafe
      line-safe = by (next-tree (head-or X N line given a b done))
        where
          writes : (d : Contents) → b.store.told ≡ Some d → WritesFor X done.asked (is_done given) (Some c) (Some d)
          writes d told = subst (λ t. WritesFor X done.asked (is_done given) t (Some d)) begin.told (subst (λ t. WritesFor X done.asked (is_done given) a.store.told t) told (line-ran done).writes)

          with-it : (q : Profile) (fs : Entries) → TellsAs X N b.store.told (Stands q fs) → ((d : Contents) × (b.store.told ≡ Some d)) → LineSafe
          with-it q fs now d0 =
              let wrote = writes d0.0 d0.1 in
              let well = words-end X N hash small c p q es fs begin.safe done.asked (is_done given) d0.0 wrote (subst (λ t. TellsAs X N t (Stands q fs)) d0.1 now) in
              let more = words-wrote X done.asked (is_done given) (Some c) (Some d0.0) wrote in
              record { q = q; fs = fs; d = d0.0; told_now = d0.1; safe_now = well.0; stops = well.1; added = more.added; grown = more.writes }

          by : NextTree → LineSafe
          by next = with-it next.0 next.1 next.2 (told-some b.store.told (Stands next.0 next.1) next.2)

  -- ---- lines

  module _ (hash : IsHash X) (small : (name : List ℕ) → N name < 2 ^ 64) where
    abbrev Stops : List (List ℕ) → Ending X N → Around → Contents → Profile → Entries → List Write → Type 0
    Stops lines ending a c p es ws = StopsAtFirst X N c p es ws ⊎ StopsInLine X N lines ending a ws

    -- the contents at the end are safe for a tree, and each stop before is one in a line
    record BatchSafe (lines : List (List ℕ)) (ending : Ending X N) (a z : Around) (c : Contents) (p : Profile) (es : Entries) : Type 0 where
      q : Profile
      fs : Entries
      d : Contents
      told_now : z.store.told ≡ Some d
      safe_now : IsSafeFor X N d q fs
      added : List Write
      grown : d.writes ≡ c.writes ++ added
      stops : (done rest : List Write) → d.writes ≡ c.writes ++ done ++ rest → Stops lines ending a c p es (c.writes ++ done)

    -- nothing was done
    nothing-safe : (lines : List (List ℕ)) (ending : Ending X N) (a z : Around) (c : Contents) (p : Profile) (es : Entries) → SameButErrors a z → BeginsSafe X N host a c p es → BatchSafe lines ending a z c p es
    nothing-safe lines ending a z c p es same begin = record {
      q = p;
      fs = es;
      d = c;
      told_now = ap (λ (x : Around). x.store.told) same ∙ begin.told;
      safe_now = begin.safe;
      added = [];
      grown = sym (append-nil c.writes);
      stops = λ done rest e. at-first done rest (added-is c.writes [] done rest c.writes (sym (append-nil c.writes)) e);
    }
      where
        at-first : (done rest : List Write) → [] ≡ done ++ rest → Stops lines ending a c p es (c.writes ++ done)
        at-first [] rest e = inl (record {
          none = append-nil c.writes;
          leaves = subst (EachOutcome (LeavesTree X N p es)) (sym (append-nil c.writes)) (firm-leaves X N p es c.writes (safe-firm X N p es c begin.safe));
        })
        at-first (w ∷ done) rest e = absurd cc

    module _ (line : List ℕ) (given : Status) (a b : Around) (done : LineDone X N line given a b) (c : Contents) (p : Profile) (es : Entries) (begin : BeginsSafe X N host a c p es) (l : LineSafe line given a b done c p es begin) where
      -- a stop in this line
      in-line : (lines : List (List ℕ)) (ending : Ending X N) (one : LineOf X N lines ending a) → one.found ≡ a → one.left ≡ b → (ws us vs : List Write) → ws ≡ c.writes ++ us → l.d.writes ≡ c.writes ++ us ++ vs → StopsInLine X N lines ending a ws
      in-line lines ending one found left ws us vs is cut_at = record {
        one = one;
        p = p;
        es = es;
        q = l.q;
        fs = l.fs;
        stood = subst (λ (s : Around). TellsAs X N s.store.told (Stands p es)) (sym found) (subst (λ t. TellsAs X N t (Stands p es)) (sym begin.told) begin.safe.stands);
        stands = subst (λ (s : Around). TellsAs X N s.store.told (Stands l.q l.fs)) (sym left) (subst (λ t. TellsAs X N t (Stands l.q l.fs)) (sym l.told_now) l.safe_now.stands);
        during = subst (λ (s : Around). EndsDuring s.store.told one.left.store.told ws) (sym found) (subst (λ (s : Around). EndsDuring a.store.told s.store.told ws) (sym left) between);
        leaves = subst (EachOutcome (LeavesEither X N p es l.q l.fs)) (sym is) (l.stops us vs cut_at);
      }
        where
          between : EndsDuring a.store.told b.store.told ws
          between = subst (λ t. EndsDuring t b.store.told ws) (sym begin.told) (subst (λ t. EndsDuring (Some c) t ws) (sym l.told_now)
              (us, vs, is, cut_at ∙ ap (λ (x : List Write). x ++ vs) (sym is)))

    -- the last line of a batch
    last-safe : (line : List ℕ) (given : Status) (a m z : Around) (done : LineDone X N line given a m) → z.store ≡ m.store → (c : Contents) (p : Profile) (es : Entries) → BeginsSafe X N host a c p es → BatchSafe [] (AtLine line) a z c p es
    last-safe line given a m z done same c p es begin = by (line-safe line given a m done c p es begin hash small)
      where
        by : LineSafe line given a m done c p es begin → BatchSafe [] (AtLine line) a z c p es
        by l = record {
          q = l.q;
          fs = l.fs;
          d = l.d;
          told_now = ap (λ (x : Seen). x.told) same ∙ l.told_now;
          safe_now = l.safe_now;
          added = l.added;
          grown = l.grown;
          stops = λ us vs e. inr (in-line line given a m done c p es begin l [] (AtLine line) (last-of X N line given a m done) refl refl (c.writes ++ us) us vs refl e);
        }

    ends-safe : (ending : Ending X N) (given : Status) (a z : Around) → EndsSo X N ending given a z → (c : Contents) (p : Profile) (es : Entries) → BeginsSafe X N host a c p es → BatchSafe [] ending a z c p es
    ends-safe WithInput given a z e c p es begin = nothing-safe [] WithInput a z c p es (but-errors e.1) begin
    ends-safe TooLong given a z e c p es begin = nothing-safe [] TooLong a z c p es e.same begin
    ends-safe ByReading given a z e c p es begin = nothing-safe [] ByReading a z c p es e.same begin
    ends-safe ByMemory given a z e c p es begin = nothing-safe [] ByMemory a z c p es e.same begin
    ends-safe (AtLine line) given a z (inl e) c p es begin = last-safe line given a (with_sinks e.printed z.errors z) z e.done refl c p es begin
    ends-safe (AtLine line) given a z (inr e) c p es begin = last-safe line e.was a (with_sinks e.printed e.between z) z e.done refl c p es begin

    -- ---- a line in front of others

    more-stop : (line : List ℕ) (lines : List (List ℕ)) (ending : Ending X N) (a m : Around) (ws : List Write) → LineGone X N line a m → StopsInLine X N lines ending m ws → StopsInLine X N (line ∷ lines) ending a ws
    more-stop line lines ending a m ws gone s = record {
      one = more-of X N line lines ending a m gone s.one;
      p = s.p;
      es = s.es;
      q = s.q;
      fs = s.fs;
      stood = s.stood;
      stands = s.stands;
      during = s.during;
      leaves = s.leaves;
    }

    -- one without a word
    idle-front : (line : List ℕ) (lines : List (List ℕ)) (ending : Ending X N) (a m z : Around) (c : Contents) (p : Profile) (es : Entries) → LineGone X N line a m → BatchSafe lines ending m z c p es → BatchSafe (line ∷ lines) ending a z c p es
    idle-front line lines ending a m z c p es gone r = record { q = r.q; fs = r.fs; d = r.d; told_now = r.told_now; safe_now = r.safe_now; added = r.added; grown = r.grown; stops = λ us vs e. by (c.writes ++ us) (r.stops us vs e) }
      where
        by : (ws : List Write) → Stops lines ending m c p es ws → Stops (line ∷ lines) ending a c p es ws
        by ws (inl first) = inl first
        by ws (inr later) = inr (more-stop line lines ending a m ws gone later)

    module _ (line : List ℕ) (lines : List (List ℕ)) (ending : Ending X N) (a m z : Around) (passed : LinePassed X N line a m) (c : Contents) (p : Profile) (es : Entries) (begin : BeginsSafe X N host a c p es)
        (l : LineSafe line passed.given a (with_sinks passed.printed m.errors m) passed.done c p es begin) (r : BatchSafe lines ending m z l.d l.q l.fs) where
      here : (ws us vs : List Write) → ws ≡ c.writes ++ us → l.d.writes ≡ c.writes ++ us ++ vs → Stops (line ∷ lines) ending a c p es ws
      here ws us vs is e =
          inr (in-line line passed.given a (with_sinks passed.printed m.errors m) passed.done c p es begin l (line ∷ lines) ending
          (first-of X N line passed.given lines ending a (with_sinks passed.printed m.errors m) passed.done) refl refl ws us vs is e)

      -- past the first line
      past-it : (us past : List Write) → us ≡ l.added ++ past → Stops lines ending m l.d l.q l.fs (l.d.writes ++ past) → Stops (line ∷ lines) ending a c p es (c.writes ++ us)
      past-it us past is (inl first) = here (c.writes ++ us) l.added [] whole (l.grown ∙ sym (append-nil (c.writes ++ l.added)))
        where
          whole : c.writes ++ us ≡ c.writes ++ l.added
          whole = ap (λ (x : List Write). c.writes ++ x) is ∙ sym (append_assoc c.writes l.added past) ∙ ap (λ (x : List Write). x ++ past) (sym l.grown) ∙ first.none ∙ l.grown
      past-it us past is (inr later) = inr (subst (StopsInLine X N (line ∷ lines) ending a) whole (more-stop line lines ending a m (l.d.writes ++ past) (inr passed) later))
        where
          whole : l.d.writes ++ past ≡ c.writes ++ us
          whole = ap (λ (x : List Write). x ++ past) l.grown ∙ append_assoc c.writes l.added past ∙ ap (λ (x : List Write). c.writes ++ x) (sym is)

      all-added : r.d.writes ≡ c.writes ++ (l.added ++ r.added)
      all-added = r.grown ∙ ap (λ (x : List Write). x ++ r.added) l.grown ∙ append_assoc c.writes l.added r.added

      any-stop : (us vs : List Write) → r.d.writes ≡ c.writes ++ us ++ vs → Stops (line ∷ lines) ending a c p es (c.writes ++ us)
      any-stop us vs e = by (cut l.added r.added us vs (added-is c.writes (l.added ++ r.added) us vs r.d.writes all-added e))
        where
          by : ((more : List Write) × (l.added ≡ us ++ more)) ⊎ ((past : List Write) × (us ≡ l.added ++ past) × (r.added ≡ past ++ vs)) → Stops (line ∷ lines) ending a c p es (c.writes ++ us)
          by (inl h) = here (c.writes ++ us) us h.0 refl (l.grown ∙ ap (λ (x : List Write). c.writes ++ x) h.1 ∙ sym (append_assoc c.writes us h.0))
          by (inr h) = past-it us h.0 h.1 (r.stops h.0 vs (r.grown ∙ ap (λ (x : List Write). l.d.writes ++ x) h.2 ∙ sym (append_assoc l.d.writes h.0 vs)))

      passed-front : BatchSafe (line ∷ lines) ending a z c p es
      passed-front = record { q = r.q; fs = r.fs; d = r.d; told_now = r.told_now; safe_now = r.safe_now; added = l.added ++ r.added; grown = all-added; stops = any-stop }

    -- ---- all lines

    mark-room : (printed errors : SinkSide) (b : Around) → b.writes ≡ printed.faults → AllCanRise (with_sinks printed errors b) → AllCanRise b
    mark-room printed errors b same room = record { store = room.store; output = subst CanRise (sym same) room.output; host = room.host }

    later-safe : (line : List ℕ) (a m : Around) (passed : LinePassed X N line a m) (c : Contents) (p : Profile) (es : Entries) (begin : BeginsSafe X N host a c p es) (l : LineSafe line passed.given a (with_sinks passed.printed m.errors m) passed.done c p es begin)
        → BeginsSafe X N host m l.d l.q l.fs
    later-safe line a m passed c p es begin l =
        let free = quiet-on passed.given passed.goes_on in
        record {
          told = l.told_now;
          safe = l.safe_now;
          host_told = host-same X N host line passed.given a (with_sinks passed.printed m.errors m) passed.done ∙ begin.host_told;
          room = mark-room passed.printed m.errors m passed.marked.counted (room-later line passed.given a (with_sinks passed.printed m.errors m) passed.done c p es begin free.0 free.1);
        }

    gone-safe : (line : List ℕ) (lines : List (List ℕ)) (ending : Ending X N) (a m z : Around) → LineGone X N line a m → ((c : Contents) (p : Profile) (es : Entries) → BeginsSafe X N host m c p es → BatchSafe lines ending m z c p es)
        → (c : Contents) (p : Profile) (es : Entries) → BeginsSafe X N host a c p es → BatchSafe (line ∷ lines) ending a z c p es
    gone-safe line lines ending a m z (inl none) rest c p es begin = idle-front line lines ending a m z c p es (inl none) (rest c p es (subst (λ s. BeginsSafe X N host s c p es) (sym none.1) begin))
    gone-safe line lines ending a m z (inr passed) rest c p es begin =
        let l = line-safe line passed.given a (with_sinks passed.printed m.errors m) passed.done c p es begin hash small in
        passed-front line lines ending a m z passed c p es begin l (rest l.d l.q l.fs (later-safe line a m passed c p es begin l))

    all-safe : (lines : List (List ℕ)) (ending : Ending X N) (given : Status) (a m z : Around) → LinesDone X N lines a m → EndsSo X N ending given m z → (c : Contents) (p : Profile) (es : Entries) → BeginsSafe X N host a c p es → BatchSafe lines ending a z c p es
    all-safe [] ending given a m z same ends c p es begin = ends-safe ending given a z (subst (λ s. EndsSo X N ending given s z) same ends) c p es begin
    all-safe (line ∷ lines) ending given a m z done ends c p es begin =
        gone-safe line lines ending a done.0 z done.1 (λ c p es begin. all-safe lines ending given done.0 m z done.2 ends c p es begin) c p es begin

    -- ---- the whole batch

    module _ (most limit : ℕ) (given : Status) (before now : Around) (did : Batches X N most limit given before now) (c d : Contents) (p : Profile) (es : Entries) where
      abbrev a : Around
      a = without_input before

      abbrev z : Around
      z = without_input now

      begins : BeginsSafe X N host before c p es → BeginsSafe X N host a c p es
      begins begin = record { told = begin.told; safe = begin.safe; host_told = begin.host_told; room = record { store = begin.room.store; output = begin.room.output; host = begin.room.host } }

      whole : BeginsSafe X N host before c p es → BatchSafe did.lines did.ending a z c p es
      whole begin = all-safe did.lines did.ending given a did.between z did.done did.ends c p es (begins begin)

      same-contents : (x y : Contents) → ◌≡◌ {A = Told} (Some x) (Some y) → x ≡ y
      same-contents x y e = cc

      pub batch-stops : BeginsSafe X N host before c p es → z.store.told ≡ Some d → (us vs : List Write) → d.writes ≡ c.writes ++ us ++ vs → Stops did.lines did.ending a c p es (c.writes ++ us)
      batch-stops begin told us vs e = (let r = whole begin in r.stops us vs (ap (λ (t : Contents). t.writes) (same-contents r.d d (sym r.told_now ∙ told)) ∙ e))

      pub batch-safe : BeginsSafe X N host before c p es → z.store.told ≡ Some d → (q : Profile) × (fs : Entries) × IsSafeFor X N d q fs
      batch-safe begin told = (let r = whole begin in (r.q, r.fs, subst (λ (t : Contents). IsSafeFor X N t r.q r.fs) (same-contents r.d d (sym r.told_now ∙ told)) r.safe_now))
