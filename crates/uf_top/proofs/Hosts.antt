-- How what a host has is added.
use Rattle.std.proofs.Common.{◌≡◌, ◌≢◌, ℕ, ◌+◌, ◌≤◌, List, [], Bool, true, false, refl, sym, ap, subst, ◌∙◌, inl, inr, Option, Some, None, Result, Ok, Err}
use Rattle.std.specs.Prelude.{IfOk, IfSome, OnOk}
use Rattle.uf_cid.specs.Blocks.{Held}
use Rattle.uf_edge.specs.Counts.{Counts, Stood}
use Rattle.uf_edge.specs.Host.{HostTold, HostTree}
use Rattle.uf_edge.specs.Streams as streams
use Rattle.uf_host.specs.Faults.{IsSaidOr, edge_fault, is_read_fault}
use Rattle.uf_host.specs.HostTree.{tree_on_host}
use Rattle.uf_host.specs.declared.fault.HostFault.{HostFault}
use Rattle.uf_host.specs.declared.fault.HostFault.TheVariants as host
use Rattle.uf_mfs.specs.Standing.{NamesOver, OnlySynced, Same, TellsAs, TellsHeld, head_in}
use Rattle.uf_mfs.specs.Touches.{IsBlaming}
use Rattle.uf_plain.specs.declared.ready.Ready.TheVariants as ready
use Rattle.uf_plain.specs.declared.rule.Rule.{Rule}
use Rattle.uf_store.specs.Clashes.{IsSaving}
use Rattle.uf_store.specs.Contents.{Told, changed, with_sync}
use Rattle.uf_store.specs.Faults.{NoneIsBad, Shown, StaysCalm}
use Rattle.uf_store.specs.Keeping.{Holds, KeepsGood}
use Rattle.uf_store.specs.Seen.{Seen}
use Rattle.uf_store.specs.declared.store.StoreFault.{StoreFault}
use Rattle.uf_store.specs.declared.store.StoreFault.TheVariants.{Failed, Damaged, Missing, BadBlock, Clash, Memory}
use Rattle.uf_store.proofs.Calls.{shown-after, stood-back}
use Rattle.uf_store.proofs.Writing.{SavesOnly-refl}
use Rattle.uf_tree.specs.Profiles.{usual}
use Rattle.uf_tree.specs.Standing.{Standing, NoHead, BadHead, Stands}
use Rattle.uf_tree.specs.Tree.{Tree, Dir, Entries}
use Rattle.uf_tree.specs.TreePlan.{blocks}
use Rattle.uf_tree.specs.Validity.{IsHash}
use Rattle.uf_tree.specs.declared.profile.Profile.{Profile}
use Rattle.uf_command.specs.Natures.{SyncsBlocks, command_writes}
use Rattle.uf_command.specs.Kinds.{add_host_kinds, IsOf, OfBadBlock, OfSections, OfMissing, fault_kind, may_meet, refusal_fault, refusal_kind}
use Rattle.uf_command.specs.Statuses.{ended, no_memory, status_of}
use Rattle.uf_command.specs.declared.status.Status.{Status}
use Rattle.uf_command.specs.declared.status.Status.TheVariants as status
use Rattle.uf_command.specs.declared.types.Command.TheVariants.{Add}
use Rattle.uf_command.specs.declared.types.Adding.TheVariants as adding
use Rattle.uf_command.specs.declared.types.HostRule.{HostRule}
use Rattle.uf_command.specs.declared.types.Refusal.{Refusal}
use Rattle.uf_command.specs.declared.types.Refusal.TheVariants as refusal
use Rattle.uf_top.specs.Answering.{Answers}
use Rattle.uf_top.specs.Around.{HostSide, OnlyReadsHost, SinkSide, around}
use Rattle.uf_top.specs.Bounds.{command_touches}
use Rattle.uf_top.specs.Causes.{AddsBy, HoldsUnless, IsBadIn, IsProfileIn, IsProfileOf, IsProfileRead, IsReady, IsReason, IsUnread, OnlyWants, Stops, is_read, or_usual}
use Rattle.uf_top.specs.Endings.{FindsAll, KeptFor}
use Rattle.uf_top.specs.Hosted.{AddsTrees, AreHostRows, IsHostRefused, IsHostRule, IsNoReading, MakesHostText}
use Rattle.uf_top.specs.HostTexts.{host_refusal, host_text}
use Rattle.uf_top.specs.Intake.{ShownIn}
use Rattle.uf_top.specs.Losing.{AnswersOver}
use Rattle.uf_top.specs.Naming.{NamesAfter}
use Rattle.uf_top.specs.Reply.{Reply, from_reply, hosted, not_ready, unchanged}
use Rattle.uf_top.specs.Shapes.{WritesAs, is_ok}
use Rattle.uf_top.specs.Working.{Makes}
use Rattle.uf_top.proofs.Added.{by-found, by-told}
use Rattle.uf_top.proofs.Finding.{kind-finds, of-none}
use Rattle.uf_top.proofs.InTree.{stays-same}
use Rattle.uf_top.proofs.Inputs.{add-head}
use Rattle.uf_top.proofs.Losing.{lost-wants, names-kept, names-same}
use Rattle.uf_top.proofs.Shows.{counts-still, no-touch, not-rose, saving-wants, shown-any, wants-shown}
use Rattle.uf_top.proofs.Standings.{leaves-holds, names-read, names-says, names-there, standing-bad, standing-none, standing-says, stands-kept, stands-same, tells-held, tells-none}
use Rattle.uf_top.proofs.Unready.{store-unready}

-- ---- how adding from a host ends, where it is refused

data HostEnd (path : List ℕ) (Said : HostFault → Type 0) (why : Refusal) : Type 0 where
  ByRead : why ≡ refusal.Read → HostEnd path Said why
  ByStore : (f : StoreFault) → why ≡ refusal.Store f → IsSaving f → HostEnd path Said why
  ByHost : (rule : HostRule) → why ≡ refusal.Host rule → IsHostRule path Said why → HostEnd path Said why
  ByRule : (rule : Rule) → why ≡ refusal.Rule rule → IsHostRule path Said why → HostEnd path Said why

end-of : (path : List ℕ) (Said : HostFault → Type 0) (why : Refusal) → IsHostRefused path Said why → HostEnd path Said why
end-of path Said (refusal.Rule rule) h = ByRule rule refl h
end-of path Said (refusal.Dag rule) h = absurd h
end-of path Said (refusal.Car number place) h = absurd h
end-of path Said (refusal.CarLacks cid) h = absurd h
end-of path Said (refusal.OwnClash cid first second) h = absurd h
end-of path Said (refusal.Host rule) h = ByHost rule refl h
end-of path Said (refusal.BadPath why) h = absurd h
end-of path Said refusal.Usage h = absurd h
end-of path Said refusal.InputTooLong h = absurd h
end-of path Said refusal.BadPins h = absurd h
end-of path Said (refusal.Ready why) h = absurd h
end-of path Said refusal.Read h = ByRead refl
end-of path Said refusal.Write h = absurd h
end-of path Said (refusal.Store f) h = ByStore f refl h

saving-kind : (f : StoreFault) → IsSaving f → may_meet add_host_kinds (fault_kind f) ≡ true
saving-kind Failed h = refl
saving-kind (Damaged cid) h = absurd h
saving-kind (Missing cid) h = absurd h
saving-kind (BadBlock cid role) h = absurd h
saving-kind (Clash cid held bytes) h = refl
saving-kind Memory h = refl

end-kind : (path : List ℕ) (Said : HostFault → Type 0) (why : Refusal) → HostEnd path Said why → may_meet add_host_kinds (refusal_kind why) ≡ true
end-kind path Said why (ByRead e) = subst (λ w. may_meet add_host_kinds (refusal_kind w) ≡ true) (sym e) refl
end-kind path Said why (ByStore f e saving) = subst (λ w. may_meet add_host_kinds (refusal_kind w) ≡ true) (sym e) (saving-kind f saving)
end-kind path Said why (ByHost rule e is) = subst (λ w. may_meet add_host_kinds (refusal_kind w) ≡ true) (sym e) refl
end-kind path Said why (ByRule rule e is) = subst (λ w. may_meet add_host_kinds (refusal_kind w) ≡ true) (sym e) refl

-- a refusal by the Head, or the store's
data HeadEnd (told : Told) (why : Refusal) : Type 0 where
  Unread : why ≡ refusal.Ready ready.BadHead → IfSome told (λ t. IsUnread t.notes.head) → HeadEnd told why
  OfStore : (f : StoreFault) → why ≡ refusal.Store f → IsSaving f → HeadEnd told why

head-end : (told : Told) (why : Refusal) → IsProfileRead (Err why) told → HeadEnd told why
head-end told (refusal.Rule rule) read = absurd read
head-end told (refusal.Dag rule) read = absurd read
head-end told (refusal.Car number place) read = absurd read
head-end told (refusal.CarLacks cid) read = absurd read
head-end told (refusal.OwnClash cid first second) read = absurd read
head-end told (refusal.Host rule) read = absurd read
head-end told (refusal.BadPath why) read = absurd read
head-end told refusal.Usage read = absurd read
head-end told refusal.InputTooLong read = absurd read
head-end told refusal.BadPins read = absurd read
head-end told (refusal.Ready why) read = Unread (ap refusal.Ready read.0) read.1
head-end told refusal.Read read = absurd read
head-end told refusal.Write read = absurd read
head-end told (refusal.Store f) read = OfStore f refl read

head-kind : (told : Told) (why : Refusal) → HeadEnd told why → may_meet add_host_kinds (refusal_kind why) ≡ true
head-kind told why (Unread e h) = subst (λ w. may_meet add_host_kinds (refusal_kind w) ≡ true) (sym e) refl
head-kind told why (OfStore f e saving) = subst (λ w. may_meet add_host_kinds (refusal_kind w) ≡ true) (sym e) (saving-kind f saving)

store-unread : (f : StoreFault) (i : ℕ) → Counts (is_read {A = List ℕ} (Err (refusal.Store f))) i i
store-unread Failed i = counts-still i
store-unread (Damaged cid) i = counts-still i
store-unread (Missing cid) i = counts-still i
store-unread (BadBlock cid role) i = counts-still i
store-unread (Clash cid held bytes) i = counts-still i
store-unread Memory i = counts-still i

head-reads : (told : Told) (why : Refusal) (s : HostSide) → HeadEnd told why → OnlyReadsHost (is_read {A = List ℕ} (Err why)) s s
head-reads told why s (Unread e h) = subst (λ w. OnlyReadsHost (is_read {A = List ℕ} (Err w)) s s) (sym e) (record { told = refl; reads = counts-still s.reads; writes = refl })
head-reads told why s (OfStore f e saving) = subst (λ w. OnlyReadsHost (is_read {A = List ℕ} (Err w)) s s) (sym e) (record { told = refl; reads = store-unread f s.reads; writes = refl })

-- ---- what it is refused by

kind-blames : (why : Refusal) → may_meet add_host_kinds (refusal_kind why) ≡ true → IsBlaming (refusal_fault {A = List ℕ} (Err why)) → ⊥
kind-blames (refusal.Rule rule) h blames = blames
kind-blames (refusal.Dag rule) h blames = blames
kind-blames (refusal.Car number place) h blames = blames
kind-blames (refusal.CarLacks cid) h blames = blames
kind-blames (refusal.OwnClash cid first second) h blames = blames
kind-blames (refusal.Host rule) h blames = blames
kind-blames (refusal.BadPath why) h blames = blames
kind-blames refusal.Usage h blames = blames
kind-blames refusal.InputTooLong h blames = blames
kind-blames refusal.BadPins h blames = blames
kind-blames (refusal.Ready why) h blames = blames
kind-blames refusal.Read h blames = blames
kind-blames refusal.Write h blames = blames
kind-blames (refusal.Store Failed) h blames = blames
kind-blames (refusal.Store (Damaged cid)) h blames = blames
kind-blames (refusal.Store (Missing cid)) h blames = blames
kind-blames (refusal.Store (BadBlock cid role)) h blames = (let e : false ≡ true = h in cc)
kind-blames (refusal.Store (Clash cid held bytes)) h blames = blames
kind-blames (refusal.Store Memory) h blames = blames

host-blames : (r : Result (List ℕ) Refusal) → IsOf (may_meet add_host_kinds) r → IsBlaming (refusal_fault r) → ⊥
host-blames (Ok text) h blames = blames
host-blames (Err why) h blames = kind-blames why h blames

host-finds : (r : Result (List ℕ) Refusal) → IsOf (may_meet add_host_kinds) r → FindsAll (ended r)
host-finds (Ok text) h = (λ e. cc, λ e. cc)
host-finds (Err why) h = kind-finds why (of-none (may_meet add_host_kinds) (refusal_kind why) OfMissing h refl) (of-none (may_meet add_host_kinds) (refusal_kind why) OfBadBlock h refl) (of-none (may_meet add_host_kinds) (refusal_kind why) OfSections h refl)

unread-reason : (told : Told) (recursive only_hash : Bool) (path : List ℕ) → IfSome told (λ t. IsUnread t.notes.head) → IsReason (Add (adding.Host recursive only_hash path)) ready.BadHead told
unread-reason told recursive true path h = h
unread-reason told recursive false path h = h

head-ready : (told : Told) (recursive only_hash : Bool) (path : List ℕ) (why : Refusal) → HeadEnd told why → IsReady {A = List ℕ} told (Add (adding.Host recursive only_hash path)) (Err why)
head-ready told recursive only_hash path why (Unread e h) = subst (λ w. IsReady {A = List ℕ} told (Add (adding.Host recursive only_hash path)) (Err w)) (sym e) (unread-reason told recursive only_hash path h)
head-ready told recursive only_hash path why (OfStore f e saving) = subst (λ w. IsReady {A = List ℕ} told (Add (adding.Host recursive only_hash path)) (Err w)) (sym e) tt

-- where nothing was written, one that is refused has written what it may
from-same : (X : List ℕ → List ℕ) (recursive only_hash : Bool) (path : List ℕ) (a b : Told) → b ≡ a → WritesAs X (command_writes (Add (adding.Host recursive only_hash path))) false a b
from-same X recursive true path a b e = e
from-same X recursive false path a b e = record { between = a; saves = SavesOnly-refl X a; last = Same e }

from-touch : (recursive only_hash : Bool) (path bytes : List ℕ) (X : List ℕ → List ℕ) (N : List ℕ → ℕ) (rows : ℕ → ℕ) (p : Profile) (es : Entries) (t0 : ℕ)
    → IfSome (command_touches X N rows bytes (Add (adding.Host recursive only_hash path)) p es) (λ most. t0 ≤ t0 + most)
from-touch recursive only_hash path bytes X N rows p es t0 = no-touch (command_touches X N rows bytes (Add (adding.Host recursive only_hash path)) p es) t0

-- ---- by what the host tells

module _ (X : List ℕ → List ℕ) (N : List ℕ → ℕ) where
  text-kinds : (p : Profile) (held : Told) (host : HostTold) (recursive : Bool) (path : List ℕ) (r : Result (List ℕ) Refusal) → MakesHostText X N p held host recursive path r → IsOf (may_meet add_host_kinds) r
  text-kinds p held host recursive path (Ok text) h = tt
  text-kinds p held host recursive path (Err why) h = end-kind path _ why (end-of path _ why h)

  text-ready : (p : Profile) (held : Told) (host : HostTold) (recursive only_hash : Bool) (path : List ℕ) (told : Told) (r : Result (List ℕ) Refusal) → MakesHostText X N p held host recursive path r
      → IsReady told (Add (adding.Host recursive only_hash path)) r
  text-ready p held host recursive only_hash path told (Ok text) h = tt
  text-ready p held host recursive only_hash path told (Err why) h = by (end-of path _ why h)
    where
      by : {Said : HostFault → Type 0} → HostEnd path Said why → IsReady {A = List ℕ} told (Add (adding.Host recursive only_hash path)) (Err why)
      by (ByRead e) = subst (λ w. IsReady {A = List ℕ} told (Add (adding.Host recursive only_hash path)) (Err w)) (sym e) tt
      by (ByStore f e saving) = subst (λ w. IsReady {A = List ℕ} told (Add (adding.Host recursive only_hash path)) (Err w)) (sym e) tt
      by (ByHost rule e is) = subst (λ w. IsReady {A = List ℕ} told (Add (adding.Host recursive only_hash path)) (Err w)) (sym e) tt
      by (ByRule rule e is) = subst (λ w. IsReady {A = List ℕ} told (Add (adding.Host recursive only_hash path)) (Err w)) (sym e) tt

  text-unready : (p : Profile) (held : Told) (host : HostTold) (recursive : Bool) (path : List ℕ) (r : Result (List ℕ) Refusal) → MakesHostText X N p held host recursive path r → ended r ≢ status.NotReady
  text-unready p held host recursive path (Ok text) h is = cc
  text-unready p held host recursive path (Err why) h is = by (end-of path _ why h)
    where
      by : {Said : HostFault → Type 0} → HostEnd path Said why → ⊥
      by (ByRead e) = (let i : status.ReadFault ≡ status.NotReady = subst (λ w. status_of w ≡ status.NotReady) e is in cc)
      by (ByStore f e saving) = store-unready f (subst (λ w. status_of w ≡ status.NotReady) e is)
      by (ByHost rule e said) = (let i : status.Rule ≡ status.NotReady = subst (λ w. status_of w ≡ status.NotReady) e is in cc)
      by (ByRule rule e said) = (let i : status.Rule ≡ status.NotReady = subst (λ w. status_of w ≡ status.NotReady) e is in cc)

  text-rows : (p : Profile) (held told now : Told) (host : HostTold) (recursive only_hash : Bool) (path : List ℕ) (r : Result (List ℕ) Refusal) → ((list : List Held) → Holds held list → HoldsUnless only_hash now list)
      → IfSome told (λ t. AddsBy only_hash t.notes.head p) → MakesHostText X N p held host recursive path r → IfOk r (λ text. AreHostRows X N told now host recursive only_hash path text)
  text-rows p held told now host recursive only_hash path (Ok text) keeps by h =
      record { profile = p; adds_by = by; tree = h.tree; is_tree = h.plan.tree; whole = h.plan.whole; said = h.said; is = h.is; held = keeps (blocks X N p h.tree) h.plan.held }
  text-rows p held told now host recursive only_hash path (Err why) keeps by h = tt

  module _ (s : Standing) (kept : Tree → List Held) (path : List ℕ) (p : Profile) (recursive : Bool) (host : HostTree) where
    abbrev reply_is : Reply
    reply_is = hosted X N s kept path p (tree_on_host X N p host recursive path)

    -- what the reply is, where the host says a tree, or a fault
    of-tree : (t : Tree) → tree_on_host X N p host recursive path ≡ Ok t → record { ends = Ok (host_text X N p path t); next = s; held = kept t } ≡ reply_is
    of-tree t is = sym (ap (hosted X N s kept path p) is)

    of-fault : (f : HostFault) → tree_on_host X N p host recursive path ≡ Err f → unchanged s (Err (host_refusal path f)) ≡ reply_is
    of-fault f is = sym (ap (hosted X N s kept path p) is)

    pub hosted-answers : (r : Result (List ℕ) Refusal) (held : Told) (a b : Seen) (i j : ℕ) → TellsAs X N b.told s → ((t : Tree) → Holds held (blocks X N p t) → TellsHeld b.told (kept t))
        → MakesHostText X N p held (Some host) recursive path r → ShownIn X r a b → Stood a.faults b.faults → Stood a.clashes b.clashes → Counts (is_read r) i j → Stood i j
        → Answers X N s reply_is r b.told
    hosted-answers (Ok text) held a b i j stands stays h shown f c counts read =
        subst (λ (given : Reply). Answers X N s given (Ok text) b.told) (of-tree h.tree h.said) (inr (record { ends_are = ap Ok h.is; stands = stands; held = stays h.tree h.plan.held }))
    hosted-answers (Err why) held a b i j stands stays h shown f c counts read = by (end-of path _ why h)
      where
        said : IsHostRule path (λ fault. tree_on_host X N p host recursive path ≡ Err fault) why → Answers X N s reply_is (Err why) b.told
        said is = subst (λ (given : Reply). Answers X N s given (Err why) b.told) (of-fault is.0 is.2) (inr (record { ends_are = ap (λ (w : Refusal). Err w) is.1; stands = stands; held = tells-none X N b.told s stands }))

        by : HostEnd path (λ fault. tree_on_host X N p host recursive path ≡ Err fault) why → Answers X N s reply_is (Err why) b.told
        by (ByRead e) = absurd (not-rose i j ((subst (λ w. Counts (is_read {A = List ℕ} (Err w)) i j) e counts).rose refl) read)
        by (ByStore fault e saving) =
            inl (record { ends_are = ap (λ (w : Refusal). Err w) (e ∙ ap refusal.Store (saving-wants X NoneIsBad fault a b saving (subst (λ w. ShownIn {A = List ℕ} X (Err w) a b) e shown) f c)); stands = stands })
        by (ByHost rule e is) = said is
        by (ByRule rule e is) = said is

  -- the same over a tree of whose blocks some may be lost
  module _ (es : Entries) (kept : Tree → List Held) (path : List ℕ) (p : Profile) (recursive : Bool) (host : HostTree) where
    pub hosted-over : (c d : Told) (r : Result (List ℕ) Refusal) (held : Told) (a b : Seen) (i j : ℕ) → NamesAfter X N c d (blocks X N p (Dir es)) p es
        → MakesHostText X N p held (Some host) recursive path r → ShownIn X r a b → Stood a.faults b.faults → Stood a.clashes b.clashes → Counts (is_read r) i j → Stood i j
        → AnswersOver X N c d p es [] (reply_is (Stands p es) kept path p recursive host) r
    hosted-over c d (Ok text) held a b i j stands h shown f g counts read =
        subst (λ (given : Reply). AnswersOver X N c d p es [] given (Ok text)) (of-tree (Stands p es) kept path p recursive host h.tree h.said) (inr (record { ends_are = ap Ok h.is; stands = stands }))
    hosted-over c d (Err why) held a b i j stands h shown f g counts read = by (end-of path _ why h)
      where
        said : IsHostRule path (λ fault. tree_on_host X N p host recursive path ≡ Err fault) why → AnswersOver X N c d p es [] (reply_is (Stands p es) kept path p recursive host) (Err why)
        said is = subst (λ (given : Reply). AnswersOver X N c d p es [] given (Err why)) (of-fault (Stands p es) kept path p recursive host is.0 is.2) (inr (record { ends_are = ap (λ (w : Refusal). Err w) is.1; stands = stands }))

        by : HostEnd path (λ fault. tree_on_host X N p host recursive path ≡ Err fault) why → AnswersOver X N c d p es [] (reply_is (Stands p es) kept path p recursive host) (Err why)
        by (ByRead e) = absurd (not-rose i j ((subst (λ w. Counts (is_read {A = List ℕ} (Err w)) i j) e counts).rose refl) read)
        by (ByStore fault e saving) =
            lost-wants X N c d p es [] (reply_is (Stands p es) kept path p recursive host) why (e ∙ ap refusal.Store (saving-wants X NoneIsBad fault a b saving (subst (λ w. ShownIn {A = List ℕ} X (Err w) a b) e shown) f g)) stands
        by (ByHost rule e is) = said is
        by (ByRule rule e is) = said is

  -- ---- by the Head

  module _ (good : IsHash X) (recursive : Bool) (path : List ℕ) (host : HostTree) where
    bad-reply : (only_hash : Bool) → not_ready BadHead ready.BadHead ≡ from_reply X N recursive only_hash path host BadHead
    bad-reply true = refl
    bad-reply false = refl

    unread-answers : (s : Standing) (only_hash : Bool) (why : Refusal) (a b : Seen) → TellsAs X N a.told s → TellsAs X N b.told s → HeadEnd a.told why → ShownIn {A = Option Profile} X (Err why) a b → Stood a.faults b.faults → Stood a.clashes b.clashes
        → Answers X N s (from_reply X N recursive only_hash path host s) (Err why) b.told
    unread-answers s only_hash why a b told now (Unread e h) shown f c =
        let bad = standing-bad X N good a.told s told h in
        let t = subst (λ s. TellsAs X N b.told s) bad now in
        subst (λ s. Answers X N s (from_reply X N recursive only_hash path host s) (Err why) b.told) (sym bad)
        (subst (λ (given : Reply). Answers X N BadHead given (Err why) b.told) (bad-reply only_hash) (inr (record { ends_are = ap (λ (w : Refusal). Err w) e; stands = t; held = tells-none X N b.told BadHead t })))
    unread-answers s only_hash why a b told now (OfStore fault e saving) shown f c =
        inl (record { ends_are = ap (λ (w : Refusal). Err w) (e ∙ ap refusal.Store (saving-wants X NoneIsBad fault a b saving (subst (λ w. ShownIn {A = Option Profile} X (Err w) a b) e shown) f c)); stands = now })

    unread-over : (p : Profile) (es : Entries) (given : Reply) (why : Refusal) (a b : Seen) → NamesOver X N a.told p es → NamesAfter X N a.told b.told (blocks X N p (Dir es)) p es → HeadEnd a.told why → ShownIn {A = Option Profile} X (Err why) a b
        → Stood a.faults b.faults → Stood a.clashes b.clashes → AnswersOver X N a.told b.told p es [] given (Err why)
    unread-over p es given why a b names stands (Unread e h) shown f g = absurd (names-read X N good a.told p es names h)
    unread-over p es given why a b names stands (OfStore fault e saving) shown f g =
        lost-wants X N a.told b.told p es [] given why (e ∙ ap refusal.Store (saving-wants X NoneIsBad fault a b saving (subst (λ w. ShownIn {A = Option Profile} X (Err w) a b) e shown) f g)) stands

    absent-answers : (s : Standing) (a b : Told) → TellsAs X N a s → TellsAs X N b s → IfSome a (λ t. t.notes.head ≡ None) → Answers X N s (from_reply X N recursive false path host s) (Err (refusal.Ready ready.NoHead)) b
    absent-answers s a b told now none =
        let is = standing-none X N a s told none in
        let t : TellsAs X N b NoHead = subst (λ s. TellsAs X N b s) is now in
        subst (λ s. Answers X N s (from_reply X N recursive false path host s) (Err (refusal.Ready ready.NoHead)) b) (sym is)
        (inr (record { ends_are = refl; stands = t; held = tells-none X N b NoHead t }))

    kept-answers : (s : Standing) (p : Profile) (r : Result (List ℕ) Refusal) (a b : Told) → TellsAs X N a s → IsProfileOf a p
        → Answers X N s (reply_is s (blocks X N p) path p recursive host) r b → Answers X N s (from_reply X N recursive false path host s) r b
    kept-answers s p r a b told says answers =
        let is = (standing-says X N good a s p told says).1 in
        subst (λ s. Answers X N s (from_reply X N recursive false path host s) r b) (sym is)
        (subst (λ s. Answers X N s (reply_is s (blocks X N p) path p recursive host) r b) is answers)

    hash-answers : (s : Standing) (found : Option Profile) (r : Result (List ℕ) Refusal) (a b : Told) → TellsAs X N a s → IfSome a (λ t. IsProfileIn found t.notes.head)
        → Answers X N s (reply_is s (λ t. []) path (or_usual found) recursive host) r b → Answers X N s (from_reply X N recursive true path host s) r b
    hash-answers s None r a b told none answers =
        let is = standing-none X N a s told none in
        subst (λ s. Answers X N s (from_reply X N recursive true path host s) r b) (sym is) (subst (λ s. Answers X N s (reply_is s (λ t. []) path usual recursive host) r b) is answers)
    hash-answers s (Some p) r a b told says answers =
        let is = (standing-says X N good a s p told says).1 in
        subst (λ s. Answers X N s (from_reply X N recursive true path host s) r b) (sym is) (subst (λ s. Answers X N s (reply_is s (λ t. []) path p recursive host) r b) is answers)

    hash-over : (found : Option Profile) (p : Profile) (es : Entries) (r : Result (List ℕ) Refusal) (a b : Told) → NamesOver X N a p es → IfSome a (λ t. IsProfileIn found t.notes.head)
        → (p ≡ or_usual found → AnswersOver X N a b p es [] (reply_is (Stands p es) (λ t. []) path p recursive host) r) → AnswersOver X N a b p es [] (from_reply X N recursive true path host (Stands p es)) r
    hash-over None p es r a b names none answers = absurd (names-there X N a p es names none)
    hash-over (Some q) p es r a b names says answers = answers (names-says X N good a p q es names says)

  -- ---- how it is done

  -- where nothing was written, nothing was added
  trees-same : (recursive only_hash : Bool) (path : List ℕ) (given : Status) (a b : Seen) (host : HostTold) (left : streams.Told) → b.told ≡ a.told → KeptFor X N (Add (adding.Host recursive only_hash path)) given a b host left
  trees-same recursive true path given a b host left e = tt
  trees-same recursive false path given a b host left e = inl e

  module _ (good : IsHash X) (recursive : Bool) (path : List ℕ) (a m : Seen) (told : m.told ≡ a.told) (side : HostSide) (er er2 : SinkSide) (l : streams.Told) (i : ℕ) (h : streams.Told) (w : ℕ) where
    -- the Head isn't read, or not in memory
    pub from-unread : (only_hash : Bool) (t0 : ℕ) (why : Refusal) → IsProfileRead (Err why) a.told → ShownIn {A = Option Profile} X (Err why) a m
        → Makes X N (Add (adding.Host recursive only_hash path)) (Err why) (around a l i h w t0 side er) (around m l i h w t0 side er2)
    from-unread only_hash t0 why read shown =
        let end = head-end a.told why read in
        record {
          answers = λ world stands outside calm. unread-answers good recursive path world.host world.standing only_hash why a m stands (stands-same X N a.told m.told world.standing told stands) end shown calm.faults calm.clashes;
          lost = λ p es rows held outside named given calm.
              unread-over good recursive path outside.host p es (from_reply X N recursive only_hash path outside.host (Stands p es)) why a m named.names (names-same X N a.told m.told p es told named) end shown calm.faults calm.clashes;
          kinds = head-kind a.told why end;
          ready = head-ready a.told recursive only_hash path why end;
          adds = tt;
          kept = trees-same recursive only_hash path (status_of why) a m side.told l told;
          reads = counts-still i;
          host = head-reads a.told why side end;
          rows = tt;
          cause = shown-any X (IsBadIn X N a.told m.told) (Err why) a m shown;
          whole = λ s stands calm. host-finds (Err why) (head-kind a.told why end);
          touches = λ p es bytes rows named input heights calm. from-touch recursive only_hash path bytes X N rows p es t0;
          touched = λ blames. absurd (host-blames (Err why) (head-kind a.told why end) blames);
          unready = λ e is. record { told = told; left = refl; reads = refl };
          unplaced = λ p es names stood none. absurd none;
          leaves = record { head = ap head_in told; writes = from-same X recursive only_hash path a.told m.told told; idle = λ p es bytes stands calm same. absurd cc };
        }

    -- there is none, where one is needed
    pub from-no-head : (t0 : ℕ) → IfSome a.told (λ t. t.notes.head ≡ None) → StaysCalm a m
        → Makes X N (Add (adding.Host recursive false path)) (Err (refusal.Ready ready.NoHead)) (around a l i h w t0 side er) (around m l i h w t0 side er2)
    from-no-head t0 none calm = record {
      answers = λ world stands outside calm2. absent-answers good recursive path world.host world.standing a.told m.told stands (stands-same X N a.told m.told world.standing told stands) none;
      lost = λ p es rows held outside named given calm2. absurd (names-there X N a.told p es named.names none);
      kinds = refl;
      ready = none;
      adds = tt;
      kept = inl told;
      reads = counts-still i;
      host = record { told = refl; reads = counts-still side.reads; writes = refl };
      rows = tt;
      cause = calm;
      whole = λ s stands calm2. host-finds (Err (refusal.Ready ready.NoHead)) refl;
      touches = λ p es bytes rows named input heights calm2. tt;
      touched = λ blames. absurd blames;
      unready = λ e is. record { told = told; left = refl; reads = refl };
      unplaced = λ p es names stood none. absurd none;
      leaves = record { head = ap head_in told; writes = from-same X recursive false path a.told m.told told; idle = λ p es bytes stands calm same. absurd cc };
    }

    module _ (calm : StaysCalm a m) (r : Result (List ℕ) Refusal) (side2 : HostSide) (reads : OnlyReadsHost (is_read r) side side2) where
      -- what the host has is added by the profile of the Head
      pub is-kept : (p : Profile) (b : Seen) (t0 t1 : ℕ) → IfSome a.told (λ t. IsProfileIn (Some p) t.notes.head) → MakesHostText X N p b.told side.told recursive path r → ShownIn X r m b → KeepsGood X m.told b.told
          → WritesAs X SyncsBlocks (is_ok r) m.told b.told → AddsTrees X N (ended r) p m.told b.told side.told recursive path → Makes X N (Add (adding.Host recursive false path)) r (around a l i h w t0 side er) (around b l i h w t1 side2 er2)
      is-kept p b t0 t1 says text shown kept writes only =
          let keeps = subst (λ t. KeepsGood X t b.told) told kept in
          let written = subst (λ t. WritesAs X SyncsBlocks (is_ok r) t b.told) told writes in
          let head = add-head X (is_ok r) a.told b.told written in
          let kinds = text-kinds p b.told side.told recursive path r text in
          record {
            answers = λ world stands outside calm2.
                let given = outside.1 refl in let s = world.standing in
                let now = stands-kept X N a.told b.told s keeps head stands in
                kept-answers good recursive path world.host s p r a.told b.told stands says
                (hosted-answers s (blocks X N p) path p recursive world.host r b.told m b side.reads side2.reads now (λ t held. tells-held X N b.told s _ now held)
                (subst (λ o. MakesHostText X N p b.told o recursive path r) given.0 text) shown
                (stood-back a.faults m.faults b.faults calm.faults calm2.faults) (stood-back a.clashes m.clashes b.clashes calm.clashes calm2.clashes) reads.reads given.1);
            lost = λ q es rows held outside named found calm2.
                let given = found.1 refl in let same = names-says X N good a.told q p es named.names says in
                hosted-over es (blocks X N q) path q recursive outside.host a.told b.told r b.told m b side.reads side2.reads (names-kept X N a.told b.told q es keeps head named)
                (subst (λ o. MakesHostText X N q b.told o recursive path r) given.0 (subst (λ p. MakesHostText X N p b.told side.told recursive path r) (sym same) text)) shown
                (stood-back a.faults m.faults b.faults calm.faults calm2.faults) (stood-back a.clashes m.clashes b.clashes calm.clashes calm2.clashes) reads.reads given.1;
            kinds = kinds;
            ready = text-ready p b.told side.told recursive false path a.told r text;
            adds = tt;
            kept = inr (p, says, subst (λ t. AddsTrees X N (ended r) p t b.told side.told recursive path) told only);
            reads = counts-still i;
            host = reads;
            rows = text-rows p b.told a.told b.told side.told recursive false path r (λ list held. held) (by-told a.told false p says) text;
            cause = shown-after X (IsBadIn X N a.told b.told) (refusal_fault r) a m b calm (shown-any X (IsBadIn X N a.told b.told) r m b shown);
            whole = λ s stands calm2. host-finds r kinds;
            touches = λ q es bytes rows named input heights calm2. tt;
            touched = λ blames. absurd (host-blames r kinds blames);
            unready = λ e is. absurd (text-unready p b.told side.told recursive path r text is);
            unplaced = λ p es names stood none. absurd none;
            leaves = record { head = stays-same r a.told b.told head; writes = written; idle = λ q es bytes stands calm same. absurd cc };
          }

      -- its rows are made, and nothing is kept
      pub is-only-hashed : (found : Option Profile) (p : Profile) (t0 : ℕ) → p ≡ or_usual found → IfSome a.told (λ t. IsProfileIn found t.notes.head) → MakesHostText X N p None side.told recursive path r → OnlyWants r
          → Makes X N (Add (adding.Host recursive true path)) r (around a l i h w t0 side er) (around m l i h w t0 side2 er2)
      is-only-hashed found p t0 is says text wants =
          let shown = wants-shown X r a m wants calm in
          let kinds = text-kinds p None side.told recursive path r text in
          record {
            answers = λ world stands outside calm2.
                let given = outside.1 refl in let s = world.standing in
                let mid = stands-same X N a.told m.told s told stands in
                hash-answers good recursive path world.host s found r a.told m.told stands says
                (hosted-answers s (λ t. []) path (or_usual found) recursive world.host r None a m side.reads side2.reads mid (λ t held. tells-none X N m.told s mid)
                (subst (λ o. MakesHostText X N (or_usual found) None o recursive path r) given.0 (subst (λ p. MakesHostText X N p None side.told recursive path r) is text)) shown calm2.faults calm2.clashes reads.reads given.1);
            lost = λ q es rows held outside named finds calm2.
                let given = finds.1 refl in
                hash-over good recursive path outside.host found q es r a.told m.told named.names says (λ same.
                hosted-over es (λ t. []) path q recursive outside.host a.told m.told r None a m side.reads side2.reads (names-same X N a.told m.told q es told named)
                (subst (λ o. MakesHostText X N q None o recursive path r) given.0 (subst (λ p. MakesHostText X N p None side.told recursive path r) (is ∙ sym same) text)) shown calm2.faults calm2.clashes reads.reads given.1);
            kinds = kinds;
            ready = text-ready p None side.told recursive true path a.told r text;
            adds = tt;
            kept = tt;
            reads = counts-still i;
            host = reads;
            rows = text-rows p None a.told m.told side.told recursive true path r (λ list held. tt) (subst (λ p. IfSome a.told (λ t. AddsBy true t.notes.head p)) (sym is) (by-found a.told found says)) text;
            cause = shown-any X (IsBadIn X N a.told m.told) r a m shown;
            whole = λ s stands calm2. host-finds r kinds;
            touches = λ q es bytes rows named input heights calm2. no-touch (Some 0) t0;
            touched = λ blames. absurd (host-blames r kinds blames);
            unready = λ e is. absurd (text-unready p None side.told recursive path r text is);
            unplaced = λ p es names stood none. absurd none;
            leaves = record { head = stays-same r a.told m.told (ap head_in told); writes = told; idle = λ q es bytes stands calm same. absurd cc };
          }

-- ---- from the answer of the import to the text

pub add-fault : (Said : HostFault → Type 0) (f : HostFault) → IsSaidOr Said f → IsNoReading f
add-fault Said host.Absent h = tt
add-fault Said host.NeedsRecursive h = tt
add-fault Said (host.Other path) h = tt
add-fault Said host.Exists h = tt
add-fault Said (host.Name path) h = tt
add-fault Said (host.TooDeep path) h = tt
add-fault Said (host.FileTooLong path) h = tt
add-fault Said (host.Collision first second) h = tt
add-fault Said host.TooBig h = tt
add-fault Said host.Read h = tt
add-fault Said host.Write h = tt
add-fault Said (host.Dag why) h = h
add-fault Said (host.Store why) h = tt

pub host-refused : (path : List ℕ) (Said : HostFault → Type 0) (f : HostFault) → IsSaidOr Said f → IsHostRefused path Said (host_refusal path f)
host-refused path Said host.Absent h = (host.Absent, refl, h)
host-refused path Said host.NeedsRecursive h = (host.NeedsRecursive, refl, h)
host-refused path Said (host.Other there) h = (host.Other there, refl, h)
host-refused path Said host.Exists h = absurd h
host-refused path Said (host.Name there) h = (host.Name there, refl, h)
host-refused path Said (host.TooDeep there) h = (host.TooDeep there, refl, h)
host-refused path Said (host.FileTooLong there) h = (host.FileTooLong there, refl, h)
host-refused path Said (host.Collision first second) h = (host.Collision first second, refl, h)
host-refused path Said host.TooBig h = (host.TooBig, refl, h)
host-refused path Said host.Read h = tt
host-refused path Said host.Write h = absurd h
host-refused path Said (host.Dag why) h = absurd h
host-refused path Said (host.Store why) h = h

module _ (path : List ℕ) (A : Type 0) where
  fault-reads : (i j : ℕ) (f : HostFault) → IsNoReading f → Counts (is_read_fault {A = A} (Err f)) i j → Counts (is_read {A = List ℕ} (Err (host_refusal path f))) i j
  fault-reads i j host.Absent h counts = counts
  fault-reads i j host.NeedsRecursive h counts = counts
  fault-reads i j (host.Other there) h counts = counts
  fault-reads i j host.Exists h counts = counts
  fault-reads i j (host.Name there) h counts = counts
  fault-reads i j (host.TooDeep there) h counts = counts
  fault-reads i j (host.FileTooLong there) h counts = counts
  fault-reads i j (host.Collision first second) h counts = counts
  fault-reads i j host.TooBig h counts = counts
  fault-reads i j host.Read h counts = counts
  fault-reads i j host.Write h counts = counts
  fault-reads i j (host.Dag why) h counts = absurd h
  fault-reads i j (host.Store Failed) h counts = counts
  fault-reads i j (host.Store (Damaged cid)) h counts = counts
  fault-reads i j (host.Store (Missing cid)) h counts = counts
  fault-reads i j (host.Store (BadBlock cid role)) h counts = counts
  fault-reads i j (host.Store (Clash cid held bytes)) h counts = counts
  fault-reads i j (host.Store Memory) h counts = counts

  pub host-reads : (f : HostFault) (s t : HostSide) → IsNoReading f → t.told ≡ s.told → Counts (is_read_fault {A = A} (Err f)) s.reads t.reads → t.writes ≡ s.writes
      → OnlyReadsHost (is_read {A = List ℕ} (Err (host_refusal path f))) s t
  host-reads f s t h told counts writes = record { told = told; reads = fault-reads s.reads t.reads f h counts; writes = writes }

  pub host-shown : (X : List ℕ → List ℕ) (a b : Seen) (f : HostFault) → IsNoReading f → Shown X NoneIsBad (edge_fault {A = A} (Err f)) a b → ShownIn {A = List ℕ} X (Err (host_refusal path f)) a b
  host-shown X a b host.Absent h shown = shown
  host-shown X a b host.NeedsRecursive h shown = shown
  host-shown X a b (host.Other there) h shown = shown
  host-shown X a b host.Exists h shown = shown
  host-shown X a b (host.Name there) h shown = shown
  host-shown X a b (host.TooDeep there) h shown = shown
  host-shown X a b (host.FileTooLong there) h shown = shown
  host-shown X a b (host.Collision first second) h shown = shown
  host-shown X a b host.TooBig h shown = shown
  host-shown X a b host.Read h shown = shown
  host-shown X a b host.Write h shown = shown
  host-shown X a b (host.Dag why) h shown = absurd h
  host-shown X a b (host.Store why) h shown = shown

-- the host was only read, and the text wasn't made
pub unmade-reads : (s t : HostSide) → t.told ≡ s.told → Counts false s.reads t.reads → t.writes ≡ s.writes → OnlyReadsHost (is_read {A = List ℕ} (Err no_memory)) s t
unmade-reads s t told counts writes = record { told = told; reads = counts; writes = writes }

module _ (X : List ℕ → List ℕ) (N : List ℕ → ℕ) (p : Profile) (host : HostTold) (recursive : Bool) (path : List ℕ) where
  -- the text, once its blocks were made durable
  pub synced-text : (a b : Told) (text : List ℕ) (r : Result (List ℕ) Refusal) → OnOk r (b ≡ changed with_sync a) → IfOk r (λ given. given ≡ text) → Stops r → MakesHostText X N p a host recursive path (Ok text) → MakesHostText X N p b host recursive path r
  synced-text a b text (Ok given) synced is stops h = record {
    tree = h.tree;
    plan = record { tree = h.plan.tree; whole = h.plan.whole; held = leaves-holds a b (blocks X N p h.tree) (OnlySynced synced) h.plan.held };
    said = h.said;
    is = is ∙ h.is;
  }
  synced-text a b text (Err (refusal.Rule rule)) synced is stops h = absurd stops
  synced-text a b text (Err (refusal.Dag rule)) synced is stops h = absurd stops
  synced-text a b text (Err (refusal.Car number place)) synced is stops h = absurd stops
  synced-text a b text (Err (refusal.CarLacks cid)) synced is stops h = absurd stops
  synced-text a b text (Err (refusal.OwnClash cid first second)) synced is stops h = absurd stops
  synced-text a b text (Err (refusal.Host rule)) synced is stops h = absurd stops
  synced-text a b text (Err (refusal.BadPath why)) synced is stops h = absurd stops
  synced-text a b text (Err refusal.Usage) synced is stops h = absurd stops
  synced-text a b text (Err refusal.InputTooLong) synced is stops h = absurd stops
  synced-text a b text (Err refusal.BadPins) synced is stops h = absurd stops
  synced-text a b text (Err (refusal.Ready why)) synced is stops h = absurd stops
  synced-text a b text (Err refusal.Read) synced is stops h = absurd stops
  synced-text a b text (Err refusal.Write) synced is stops h = absurd stops
  synced-text a b text (Err (refusal.Store fault)) synced is stops h = stops

pub stops-read : (r : Result (List ℕ) Refusal) → Stops r → is_read r ≡ false
stops-read (Ok text) h = refl
stops-read (Err (refusal.Rule rule)) h = absurd h
stops-read (Err (refusal.Dag rule)) h = absurd h
stops-read (Err (refusal.Car number place)) h = absurd h
stops-read (Err (refusal.CarLacks cid)) h = absurd h
stops-read (Err (refusal.OwnClash cid first second)) h = absurd h
stops-read (Err (refusal.Host rule)) h = absurd h
stops-read (Err (refusal.BadPath why)) h = absurd h
stops-read (Err refusal.Usage) h = absurd h
stops-read (Err refusal.InputTooLong) h = absurd h
stops-read (Err refusal.BadPins) h = absurd h
stops-read (Err (refusal.Ready why)) h = absurd h
stops-read (Err refusal.Read) h = absurd h
stops-read (Err refusal.Write) h = absurd h
stops-read (Err (refusal.Store Failed)) h = refl
stops-read (Err (refusal.Store (Damaged cid))) h = refl
stops-read (Err (refusal.Store (Missing cid))) h = refl
stops-read (Err (refusal.Store (BadBlock cid role))) h = refl
stops-read (Err (refusal.Store (Clash cid held bytes))) h = refl
stops-read (Err (refusal.Store Memory)) h = refl

-- so is the count of the host's readings
pub synced-reads : (r : Result (List ℕ) Refusal) (s t : HostSide) → Stops r → OnlyReadsHost false s t → OnlyReadsHost (is_read r) s t
synced-reads r s t stops h = subst (λ b. OnlyReadsHost b s t) (sym (stops-read r stops)) h
