-- How a command ends over a tree of whose blocks some may be lost.
use Rattle.std.proofs.Common.{◌≡◌, ℕ, ◌+◌, ◌≤◌, List, true, refl, ap, subst, ◌∙◌, inl, inr, Result, Ok, Err}
use Rattle.std.specs.Prelude.{IfSome}
use Rattle.uf_cid.specs.Blocks.{Held, Lookup}
use Rattle.uf_mfs.specs.Reading.{AreHeights}
use Rattle.uf_store.specs.Calls.{Calm}
use Rattle.uf_store.specs.declared.store.StoreFault.TheVariants.{Memory}
use Rattle.uf_tree.specs.Tree.{Dir, Entries}
use Rattle.uf_tree.specs.TreePlan.{blocks}
use Rattle.uf_tree.specs.declared.profile.Profile.{Profile}
use Rattle.uf_command.specs.Commands.{HasInput}
use Rattle.uf_command.specs.Natures.{command_writes, prints_after}
use Rattle.uf_command.specs.Lines.{line_of, said}
use Rattle.uf_top.specs.Reply.{Outside, Reply, in_world, reply}
use Rattle.uf_command.specs.Statuses.{ended, status_of}
use Rattle.uf_command.specs.declared.status.Status.{Status}
use Rattle.uf_command.specs.declared.types.Command.{Command}
use Rattle.uf_command.specs.declared.types.Refusal.{Refusal}
use Rattle.uf_command.specs.declared.types.Refusal.TheVariants as refusal
use Rattle.uf_top.specs.Around.{AllWritten, Around, HasOutside, MetNone, Said}
use Rattle.uf_top.specs.Bounds.{command_touches}
use Rattle.uf_top.specs.Causes.{KeepsHead}
use Rattle.uf_command.specs.Telling.{TellsEnd, has_details}
use Rattle.uf_top.specs.Losing.{DoesOver, EndsOver, command_needs}
use Rattle.uf_top.specs.Naming.{NamesAfter, StaysNamed, TellsBlocks}
use Rattle.uf_top.specs.Working.{Does}
use Rattle.uf_top.proofs.Losing.{names-kept}
use Rattle.uf_top.proofs.Telling.{detailed-kept, err-ends, ok-ends, printed-all}
use Rattle.uf_top.specs.Shapes.{is_done}
use Rattle.uf_top.proofs.Wrote.{shape-good}

module _ (a b : Around) (given : Status) (X : List ℕ → List ℕ) (N : List ℕ → ℕ) (p : Profile) (es : Entries) where
  abbrev Says : List ℕ → Type 0
  Says line = Said a.errors b.errors line

  abbrev StillNamed : Type 0
  StillNamed = NamesAfter X N a.store.told b.store.told (blocks X N p (Dir es)) p es

  ok-over : (needs : List Held) (reply : Reply) (done : Unit {0}) → TellsEnd Says (Ok done) given → DoesOver X N a.store.told b.store.told p es needs reply (Ok done) a.held b.held → EndsOver X N p es needs reply given a b
  ok-over needs reply done t (inl x) = absurd (let e = x.ends_are in cc)
  ok-over needs reply done t (inr x) =
      let told = ok-ends a b reply.ends given a.held b.held t x.ends in
      inr (record { status_is = told.0; says = told.1; printed = printed-all reply.ends (Ok done) a.held b.held x.ends; stands = x.stands })

  err-over : (needs : List Held) (reply : Reply) (why : Refusal) → (given ≡ status_of why) × Says (line_of why) → DoesOver X N a.store.told b.store.told p es needs reply (Err why) a.held b.held
      → EndsOver X N p es needs reply given a b
  err-over needs reply why told (inl x) =
      let e : why ≡ refusal.Store x.fault = (let same = x.ends_are in cc) in
      inl (record { fault = x.fault; loss = x.loss; status_is = told.0 ∙ ap status_of e; says = subst (λ r. Says (line_of r)) e told.1; stands = x.stands })
  err-over needs reply why told (inr x) =
      let e = err-ends reply.ends why a.held b.held x.ends in
      inr (record { status_is = told.0 ∙ ap ended e; says = subst (λ e. Says (said e)) e told.1; printed = printed-all reply.ends (Err why) a.held b.held x.ends; stands = x.stands })

  ends-over : (command : Command) (needs : List Held) (reply : Reply) (done : Result (Unit {0}) Refusal) → MetNone (Ok command) given → TellsEnd Says done given
      → (MetNone (Ok command) (ended done) → DoesOver X N a.store.told b.store.told p es needs reply done a.held b.held)
      → ((why : Refusal) → done ≡ Err why → has_details (status_of why) ≡ true → StillNamed) → EndsOver X N p es needs reply given a b
  ends-over command needs reply (Ok done) none t over stays = ok-over needs reply done t (over (λ generated e. cc))
  ends-over command needs reply (Err why) none (inr told) over stays = inl (record { fault = Memory; loss = tt; status_is = told.1; says = told.2; stands = stays why refl told.0 })
  ends-over command needs reply (Err why) none (inl told) over stays = err-over needs reply why told (over (λ generated e. none generated (told.0 ∙ e)))

  over-of : (command : Command) (done : Result (Unit {0}) Refusal) → Does X N command done a b → (rows : ℕ → ℕ) (held : Lookup) (outside : Outside) → StaysNamed X N a.store.told b.store.told p es → TellsBlocks a.store.told held → AreHeights p rows
      → HasOutside (Ok command) outside a b → Calm a.store b.store → AllWritten (Ok command) a.writes b.writes a.host.writes b.host.writes → MetNone (Ok command) (ended done) → DoesOver X N a.store.told b.store.told p es (command_needs X N rows command p es) (reply X N command (in_world p es held outside)) done a.held b.held
  over-of command done h rows held outside named tells heights input calm write own = h.lost p es rows held outside named tells heights input (record { store = calm; written = write; own = own })

  still-of : (command : Command) (done : Result (Unit {0}) Refusal) → Does X N command done a b → StaysNamed X N a.store.told b.store.told p es → (why : Refusal) → done ≡ Err why → has_details (status_of why) ≡ true → StillNamed
  still-of command done h named why is detailed =
      names-kept X N a.store.told b.store.told p es (shape-good X (command_writes command) (is_done (ended done)) a.store.told b.store.told h.leaves.writes) (detailed-kept why (prints_after command) a.store.told b.store.told detailed (subst (λ d. KeepsHead d (prints_after command) a.store.told b.store.told) is h.leaves.head)) named

  pub lost-told : (command : Command) (done : Result (Unit {0}) Refusal) → Does X N command done a b → TellsEnd Says done given
      → (rows : ℕ → ℕ) (held : Lookup) (outside : Outside) → StaysNamed X N a.store.told b.store.told p es → TellsBlocks a.store.told held → AreHeights p rows → HasOutside (Ok command) outside a b → Calm a.store b.store → AllWritten (Ok command) a.writes b.writes a.host.writes b.host.writes → MetNone (Ok command) given
      → EndsOver X N p es (command_needs X N rows command p es) (reply X N command (in_world p es held outside)) given a b
  lost-told command done h t rows held outside named tells heights input calm write none =
      ends-over command (command_needs X N rows command p es) (reply X N command (in_world p es held outside)) done none t (over-of command done h rows held outside named tells heights input calm write) (still-of command done h named)

  -- ---- how many touches were needed

  pub touches-told : (bytes : List ℕ) (rows : ℕ → ℕ) (command : Command) (done : Result (Unit {0}) Refusal) → Does X N command done a b → StaysNamed X N a.store.told b.store.told p es → HasInput (Ok command) a.left bytes a.reads b.reads → AreHeights p rows → Calm a.store b.store
      → IfSome (command_touches X N rows bytes command p es) (λ most. b.touches ≤ a.touches + most)
  touches-told bytes rows command done h named input heights calm = h.touches p es bytes rows named input heights calm
