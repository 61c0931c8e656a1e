-- From the answers of readings to what is given, and to the texts that are made of it.
use Rattle.std.proofs.Common.{◌≡◌, ℕ, List, false, refl, sym, ap, subst, ◌∙◌, Result, Ok, Err}
use Rattle.std.specs.Prelude.{Bool, IfErr, IfOk, IfSome, OnOk}
use Rattle.std.specs.List.{flat_map}
use Rattle.uf_edge.specs.Counts.{Counts}
use Rattle.uf_edge.specs.Host.{HostTold}
use Rattle.uf_edge.specs.Streams as streams
use Rattle.uf_host.specs.Adding.{AddsFromHost, IsSaid}
use Rattle.uf_host.specs.Faults.{edge_fault, is_read_fault}
use Rattle.uf_host.specs.HostTree.{tree_on_host}
use Rattle.uf_host.specs.declared.fault.HostFault.{HostFault}
use Rattle.uf_host.specs.declared.fault.HostFault.TheVariants as host
use Rattle.uf_host.specs.declared.import.AddedRow.{AddedRow}
use Rattle.uf_build.specs.Faults.{IsStoppedBy, fails_reading, intake_fault}
use Rattle.uf_build.specs.Intake.{IsFileOf, PassesMost}
use Rattle.uf_build.specs.declared.intake_fault.IntakeFault.{IntakeFault}
use Rattle.uf_build.specs.declared.intake_fault.IntakeFault.TheVariants as faults
use Rattle.uf_store.specs.Contents.{Told, changed, with_sync}
use Rattle.uf_store.specs.Faults.{NoneIsBad, Shown}
use Rattle.uf_store.specs.Seen.{Seen}
use Rattle.uf_store.specs.declared.store.StoreFault.TheVariants as fault
use Rattle.uf_store.proofs.Causes.{calm-memory}
use Rattle.uf_tree.specs.Tree.{Tree}
use Rattle.uf_tree.specs.declared.nodes.Entry.{Entry}
use Rattle.uf_tree.specs.declared.profile.Profile.{Profile}
use Rattle.uf_command.specs.Kinds.{refusal_fault}
use Rattle.uf_command.specs.declared.types.Refusal.{Refusal}
use Rattle.uf_top.specs.Around.{HostSide, OnlyReadsHost}
use Rattle.uf_top.specs.Causes.{OnlyWants, Stops, is_read}
use Rattle.uf_top.specs.HostTexts.{host_refusal, host_row, host_text}
use Rattle.uf_top.specs.Hosted.{IsNoReading, MakesHostText}
use Rattle.uf_top.specs.Intake.{GivesEntry, IsRowOf, IsStopped, intake_refusal}
use Rattle.uf_top.specs.Placing.{GivesFor, GivesHost, HasLast, IsUngiven, SaysHost, SaysInput}
use Rattle.uf_top.specs.Reply.{input_row}
use Rattle.uf_top.specs.declared.given.Given.{Given}
use Rattle.uf_top.proofs.Added.{row-of, synced-row}
use Rattle.uf_top.proofs.Hosts.{add-fault, host-reads, host-refused, host-shown, stops-read}
use Rattle.uf_top.proofs.Settled.{file-given, has-last, host-ungiven, long-said, rows-gives}

-- the text of what is given
abbrev pub text_in : Result Given Refusal → Result (List ℕ) Refusal
text_in (Ok given) = Ok given.text
text_in (Err why) = Err why

-- ---- the input

-- no fault is given
not-given-entry : (f : IntakeFault) (given : Given) → GivesEntry (Err f) (Ok given) → ◌≡◌ {A = Result Given Refusal} (Ok given) (Err (intake_refusal f))
not-given-entry f given h = h

refused-as : (f : IntakeFault) (why : Refusal) → GivesEntry (Err f) (Err why) → why ≡ intake_refusal f
refused-as f why h = (let e : ◌≡◌ {A = Result Given Refusal} (Err why) (Err (intake_refusal f)) = h in cc)

stopped-as : (long : Type 0) (f : IntakeFault) → IsStoppedBy long f → IsStopped long (intake_refusal f)
stopped-as long faults.Read h = tt
stopped-as long faults.FileTooLong h = (refl, h)
stopped-as long (faults.Store f) h = h

pub entry-row : (X : List ℕ → List ℕ) (p : Profile) (told : Told) (l m : streams.Told) (r : Result Entry IntakeFault) (g : Result Given Refusal)
    → GivesEntry r g → IsFileOf X p told r l m → IsRowOf X p told (text_in g) l m
entry-row X p told l m (Ok e) (Ok given) h file = row-of X p told told e given.text l m (λ bs held. held) h.1 file
entry-row X p told l m (Ok e) (Err why) h file = subst (IsStopped (PassesMost p l m)) (sym h) tt
entry-row X p told l m (Err f) (Ok given) h file = (let e = not-given-entry f given h in absurd cc)
entry-row X p told l m (Err f) (Err why) h file = subst (IsStopped (PassesMost p l m)) (sym (refused-as f why h)) (stopped-as (PassesMost p l m) f file)

as-read : (i j : ℕ) (f : IntakeFault) → Counts (fails_reading {A = Entry} (Err f)) i j → Counts (is_read {A = List ℕ} (Err (intake_refusal f))) i j
as-read i j faults.Read h = h
as-read i j faults.FileTooLong h = h
as-read i j (faults.Store fault.Failed) h = h
as-read i j (faults.Store (fault.Damaged cid)) h = h
as-read i j (faults.Store (fault.Missing cid)) h = h
as-read i j (faults.Store (fault.BadBlock cid role)) h = h
as-read i j (faults.Store (fault.Clash cid held bytes)) h = h
as-read i j (faults.Store fault.Memory) h = h

pub entry-counts : (i j : ℕ) (r : Result Entry IntakeFault) (g : Result Given Refusal) → GivesEntry r g → Counts (fails_reading r) i j → Counts (is_read g) i j
entry-counts i j (Ok e) (Ok given) h counts = counts
entry-counts i j (Ok e) (Err why) h counts = subst (λ w. Counts (is_read {A = List ℕ} (Err w)) i j) (sym h) counts
entry-counts i j (Err f) (Ok given) h counts = (let e = not-given-entry f given h in absurd cc)
entry-counts i j (Err f) (Err why) h counts = subst (λ w. Counts (is_read {A = List ℕ} (Err w)) i j) (sym (refused-as f why h)) (as-read i j f counts)

as-shown : (X : List ℕ → List ℕ) (a b : Seen) (f : IntakeFault) → Shown X NoneIsBad (intake_fault {A = Entry} (Err f)) a b → Shown X NoneIsBad (refusal_fault {A = List ℕ} (Err (intake_refusal f))) a b
as-shown X a b faults.Read h = h
as-shown X a b faults.FileTooLong h = h
as-shown X a b (faults.Store f) h = h

pub entry-shown : (X : List ℕ → List ℕ) (a b : Seen) (r : Result Entry IntakeFault) (g : Result Given Refusal) → GivesEntry r g → Shown X NoneIsBad (intake_fault r) a b → Shown X NoneIsBad (refusal_fault g) a b
entry-shown X a b (Ok e) (Ok given) h shown = shown
entry-shown X a b (Ok e) (Err why) h shown = subst (λ w. Shown X NoneIsBad (refusal_fault {A = List ℕ} (Err w)) a b) (sym h) (calm-memory a b shown)
entry-shown X a b (Err f) (Ok given) h shown = (let e = not-given-entry f given h in absurd cc)
entry-shown X a b (Err f) (Err why) h shown = subst (λ w. Shown X NoneIsBad (refusal_fault {A = List ℕ} (Err w)) a b) (sym (refused-as f why h)) (as-shown X a b f shown)

as-wanting : (f : IntakeFault) → IfSome (intake_fault {A = Entry} (Err f)) (λ f. f ≡ fault.Memory) → OnlyWants {A = List ℕ} (Err (intake_refusal f))
as-wanting faults.Read h = tt
as-wanting faults.FileTooLong h = tt
as-wanting (faults.Store f) h = h

pub entry-wants : (r : Result Entry IntakeFault) (g : Result Given Refusal) → GivesEntry r g → IfSome (intake_fault r) (λ f. f ≡ fault.Memory) → OnlyWants g
entry-wants (Ok e) (Ok given) h wants = tt
entry-wants (Ok e) (Err why) h wants = subst (λ w. OnlyWants {A = List ℕ} (Err w)) (sym h) refl
entry-wants (Err f) (Ok given) h wants = (let e = not-given-entry f given h in absurd cc)
entry-wants (Err f) (Err why) h wants = subst (λ w. OnlyWants {A = List ℕ} (Err w)) (sym (refused-as f why h)) (as-wanting f wants)

as-said : (X : List ℕ → List ℕ) (N : List ℕ → ℕ) (p : Profile) (l m : streams.Told) (f : IntakeFault) → IsStoppedBy (PassesMost p l m) f → IsUngiven (SaysInput p l) (intake_refusal f)
as-said X N p l m faults.Read h = tt
as-said X N p l m faults.FileTooLong h = long-said X N p l m h
as-said X N p l m (faults.Store f) h = h

pub entry-given : (X : List ℕ → List ℕ) (N : List ℕ → ℕ) (p : Profile) (told : Told) (l m : streams.Told) (r : Result Entry IntakeFault) (g : Result Given Refusal)
    → GivesEntry r g → IsFileOf X p told r l m → GivesFor X N p told (SaysInput p l) (input_row X N p) g
entry-given X N p told l m (Ok e) (Ok given) h file = file-given X N p told l m e given file h.0 h.1
entry-given X N p told l m (Ok e) (Err why) h file = subst (IsUngiven (SaysInput p l)) (sym h) tt
entry-given X N p told l m (Err f) (Ok given) h file = (let e = not-given-entry f given h in absurd cc)
entry-given X N p told l m (Err f) (Err why) h file = subst (IsUngiven (SaysInput p l)) (sym (refused-as f why h)) (as-said X N p l m f file)

-- the row, once its blocks were made durable
pub entry-synced : (X : List ℕ → List ℕ) (p : Profile) (a b : Told) (l m : streams.Told) (r : Result Entry IntakeFault) (given : Given) (done : Result (List ℕ) Refusal)
    → GivesEntry r (Ok given) → IsFileOf X p a r l m → OnOk done (b ≡ changed with_sync a) → IfOk done (λ text. text ≡ given.text) → Stops done → IsRowOf X p b done l m
entry-synced X p a b l m (Ok e) given done h file synced is stops = synced-row X p a b e given.text done l m synced is h.1 stops file
entry-synced X p a b l m (Err f) given done h file synced is stops = (let e = not-given-entry f given h in absurd cc)

-- a sync reads nothing
pub synced-counts : (i j : ℕ) (done : Result (List ℕ) Refusal) → Stops done → Counts false i j → Counts (is_read done) i j
synced-counts i j done stops counts = subst (λ b. Counts b i j) (sym (stops-read done stops)) counts

-- ---- what a host has

module _ (path : List ℕ) where
  refused-from : (f : HostFault) (g : Result Given Refusal) → GivesHost path (Err f) g → g ≡ Err (host_refusal path f)
  refused-from f g h = h

  module _ (X : List ℕ → List ℕ) (N : List ℕ → ℕ) (p : Profile) (told : Told) (tells : HostTold) (recursive : Bool) where
    pub last-there : (r : Result (List AddedRow) HostFault) → AddsFromHost X N p told tells recursive path r → IfOk r HasLast
    last-there (Ok rows) h = has-last X N p told tells recursive path rows h
    last-there (Err f) h = tt

    pub no-reading : (r : Result (List AddedRow) HostFault) → AddsFromHost X N p told tells recursive path r → IfErr r IsNoReading
    no-reading (Ok rows) h = tt
    no-reading (Err f) h = add-fault (λ fault. IsSaid {A = Tree} tells (λ tree. tree_on_host X N p tree recursive path) (Err fault)) f h

    pub rows-text : (r : Result (List AddedRow) HostFault) (g : Result Given Refusal) → GivesHost path r g → AddsFromHost X N p told tells recursive path r
        → MakesHostText X N p told tells recursive path (text_in g)
    rows-text (Ok rows) (Ok given) h adds = record { tree = adds.0; plan = adds.1.plan; said = adds.2; is = h.1 ∙ ap (flat_map host_row) adds.1.are }
    rows-text (Ok rows) (Err why) h adds = subst (λ w. MakesHostText X N p told tells recursive path (Err w)) (sym h) tt
    rows-text (Err f) g h adds = subst (λ (g : Result Given Refusal). MakesHostText X N p told tells recursive path (text_in g)) (sym (refused-from f g h)) (host-refused path _ f adds)

    pub rows-for : (r : Result (List AddedRow) HostFault) (g : Result Given Refusal) → GivesHost path r g → AddsFromHost X N p told tells recursive path r
        → GivesFor X N p told (SaysHost X N p tells recursive path) (host_text X N p path) g
    rows-for (Ok rows) g h adds = rows-gives X N p told tells recursive path rows g adds h
    rows-for (Err f) g h adds = subst (λ (g : Result Given Refusal). GivesFor X N p told (SaysHost X N p tells recursive path) (host_text X N p path) g) (sym (refused-from f g h))
        (host-ungiven X N p tells recursive path (host_refusal path f) (host-refused path _ f adds))

  pub rows-read : (r : Result (List AddedRow) HostFault) (g : Result Given Refusal) (s t : HostSide) → GivesHost path r g → IfErr r IsNoReading
      → t.told ≡ s.told → Counts (is_read_fault r) s.reads t.reads → t.writes ≡ s.writes → OnlyReadsHost (is_read g) s t
  rows-read (Ok rows) (Ok given) s t h none told counts writes = record { told = told; reads = counts; writes = writes }
  rows-read (Ok rows) (Err why) s t h none told counts writes = subst (λ w. OnlyReadsHost (is_read {A = Given} (Err w)) s t) (sym h) (record { told = told; reads = counts; writes = writes })
  rows-read (Err f) g s t h none told counts writes = subst (λ (g : Result Given Refusal). OnlyReadsHost (is_read g) s t) (sym (refused-from f g h)) (host-reads path (List AddedRow) f s t none told counts writes)

  pub rows-shown : (X : List ℕ → List ℕ) (a b : Seen) (r : Result (List AddedRow) HostFault) (g : Result Given Refusal) → GivesHost path r g → IfErr r IsNoReading
      → Shown X NoneIsBad (edge_fault r) a b → Shown X NoneIsBad (refusal_fault g) a b
  rows-shown X a b (Ok rows) (Ok given) h none shown = shown
  rows-shown X a b (Ok rows) (Err why) h none shown = subst (λ w. Shown X NoneIsBad (refusal_fault {A = Given} (Err w)) a b) (sym h) (calm-memory a b shown)
  rows-shown X a b (Err f) g h none shown = subst (λ (g : Result Given Refusal). Shown X NoneIsBad (refusal_fault g) a b) (sym (refused-from f g h)) (host-shown path (List AddedRow) X a b f none shown)

  fault-wants : (f : HostFault) → IsNoReading f → IfSome (edge_fault {A = List AddedRow} (Err f)) (λ f. f ≡ fault.Memory) → OnlyWants {A = Given} (Err (host_refusal path f))
  fault-wants host.Absent none h = tt
  fault-wants host.NeedsRecursive none h = tt
  fault-wants (host.Other there) none h = tt
  fault-wants host.Exists none h = tt
  fault-wants (host.Name there) none h = tt
  fault-wants (host.TooDeep there) none h = tt
  fault-wants (host.FileTooLong there) none h = tt
  fault-wants (host.Collision first second) none h = tt
  fault-wants host.TooBig none h = tt
  fault-wants host.Read none h = tt
  fault-wants host.Write none h = tt
  fault-wants (host.Dag why) none h = absurd none
  fault-wants (host.Store why) none h = h

  pub rows-want : (r : Result (List AddedRow) HostFault) (g : Result Given Refusal) → GivesHost path r g → IfErr r IsNoReading → IfSome (edge_fault r) (λ f. f ≡ fault.Memory) → OnlyWants g
  rows-want (Ok rows) (Ok given) h none wants = tt
  rows-want (Ok rows) (Err why) h none wants = subst (λ w. OnlyWants {A = Given} (Err w)) (sym h) refl
  rows-want (Err f) g h none wants = subst (λ (g : Result Given Refusal). OnlyWants g) (sym (refused-from f g h)) (fault-wants f none wants)
