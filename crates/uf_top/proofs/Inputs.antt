-- How `add` is done.
use Rattle.std.proofs.Common.{◌≡◌, ℕ, List, [], Bool, true, false, refl, sym, ap, subst, ◌∙◌, inl, inr, Option, Some, None, Result, Ok, Err}
use Rattle.std.specs.Prelude.{IfSome, OnErr, OnOk}
use Rattle.uf_edge.specs.Counts.{Counts}
use Rattle.uf_edge.specs.Host.{HostTold}
use Rattle.uf_edge.specs.Streams as streams
use Rattle.uf_mfs.specs.Standing.{LeavesHead, Same, OnlySynced, head_in}
use Rattle.uf_mfs.proofs.Starting.{leaves-head, saves-head}
use Rattle.uf_store.specs.Contents.{Told, changed, with_sync}
use Rattle.uf_store.specs.Faults.{StaysCalm}
use Rattle.uf_store.specs.Keeping.{KeepsGood}
use Rattle.uf_store.specs.Seen.{Seen}
use Rattle.uf_store.specs.Writing.{SavesOnly}
use Rattle.uf_store.proofs.Calls.{shown-after, stood-back}
use Rattle.uf_store.proofs.Writing.{SavesOnly-refl}
use Rattle.uf_tree.specs.Standing.{Stands}
use Rattle.uf_tree.specs.Validity.{IsHash}
use Rattle.uf_tree.specs.declared.profile.Profile.{Profile}
use Rattle.uf_plain.specs.declared.ready.Ready.TheVariants as ready
use Rattle.uf_command.specs.Natures.{SyncsBlocks, command_writes}
use Rattle.uf_command.specs.Kinds.{refusal_fault}
use Rattle.uf_top.specs.Reply.{add_reply}
use Rattle.uf_command.specs.Statuses.{status_of}
use Rattle.uf_command.specs.declared.status.Status.{Status}
use Rattle.uf_command.specs.declared.types.Command.TheVariants.{Add}
use Rattle.uf_command.specs.declared.types.Adding.TheVariants as adding
use Rattle.uf_command.specs.declared.types.Refusal.{Refusal}
use Rattle.uf_command.specs.declared.types.Refusal.TheVariants as refusal
use Rattle.uf_top.specs.Around.{HostSide, SinkSide, around}
use Rattle.uf_top.specs.Bounds.{command_touches}
use Rattle.uf_top.specs.Causes.{AddsBy, IsBadIn, IsProfileIn, IsProfileRead, OnlyWants, is_read, or_usual}
use Rattle.uf_top.specs.Endings.{KeptFor}
use Rattle.uf_top.specs.Intake.{AddsFile, IsRowOf, ShownIn}
use Rattle.uf_top.specs.Shapes.{WritesAs, is_ok}
use Rattle.uf_top.specs.Working.{Makes}
use Rattle.uf_top.proofs.Added.{add-answers, add-over, added-answers, added-over, hash-over, unread-over, adds-of, adds-read, by-found, by-told, hash-answers, head-absent, head-refused, plan_blocks, read-ready, row-ready}
use Rattle.uf_top.proofs.InTree.{stays-same}
use Rattle.uf_top.proofs.Classed.{head-counts, read-kinds, row-kinds}
use Rattle.uf_top.proofs.Losing.{names-kept, names-same}
use Rattle.uf_top.proofs.Finding.{add-whole}
use Rattle.uf_top.proofs.Shows.{add-blames, counts-still, no-rows, no-touch, shown-any, wants-shown}
use Rattle.uf_top.proofs.Standings.{names-there, stands-kept, stands-same, tells-held, tells-none}
use Rattle.uf_top.proofs.Unready.{row-unready}

-- where nothing was written, a refused `add` has written what it may
add-same : (X : List ℕ → List ℕ) (only_hash : Bool) (a b : Told) → b ≡ a → WritesAs X (command_writes (Add (adding.Input only_hash))) false a b
add-same X true a b e = e
add-same X false a b e = record { between = a; saves = SavesOnly-refl X a; last = Same e }

-- and has added nothing
file-same : (X : List ℕ → List ℕ) (N : List ℕ → ℕ) (only_hash : Bool) (given : Status) (a b : Seen) (host : HostTold) (left : streams.Told) → b.told ≡ a.told → KeptFor X N (Add (adding.Input only_hash)) given a b host left
file-same X N true given a b host left e = tt
file-same X N false given a b host left e = inl e

-- what saves and a sync write moves no Head
synced-head : (a b : Told) → b ≡ changed with_sync a → head_in b ≡ head_in a
synced-head a b e = leaves-head a b (OnlySynced e)

pub add-head : (X : List ℕ → List ℕ) (done : Bool) (a b : Told) → WritesAs X SyncsBlocks done a b → head_in b ≡ head_in a
add-head X true a b w = synced-head w.between b w.last ∙ saves-head X a w.between w.saves
add-head X false a b w = leaves-head w.between b w.last ∙ saves-head X a w.between w.saves

-- saves, and then a sync, or none
pub synced-writes : (X : List ℕ → List ℕ) (r : Result (List ℕ) Refusal) (a m b : Told) → SavesOnly X a m → OnOk r (b ≡ changed with_sync m) → OnErr r (LeavesHead m b) → WritesAs X SyncsBlocks (is_ok r) a b
synced-writes X (Ok text) a m b saves synced failed = record { between = m; saves = saves; last = synced }
synced-writes X (Err why) a m b saves synced failed = record { between = m; saves = saves; last = failed }

module _ (X : List ℕ → List ℕ) (hash : IsHash X) (N : List ℕ → ℕ) (a m : Seen) (told : m.told ≡ a.told) (l : streams.Told) (i : ℕ) (h : streams.Told) (w t0 : ℕ) (side : HostSide) (er er2 : SinkSide) where
  -- the Head isn't read, or not in memory
  pub head-unread : (only_hash : Bool) (why : Refusal) → IsProfileRead (Err why) a.told → ShownIn {A = Option Profile} X (Err why) a m → Makes X N (Add (adding.Input only_hash)) (Err why) (around a l i h w t0 side er) (around m l i h w t0 side er2)
  head-unread only_hash why read shown = record {
    answers = λ world stands input calm. let s = world.standing in let bytes = world.input in head-refused X hash N s only_hash bytes why a m stands (stands-same X N a.told m.told s told stands) read shown calm.faults calm.clashes;
    lost = λ p es heights held outside named input calm. let bytes = outside.input in
        unread-over X hash N p es (add_reply X only_hash (Stands p es) bytes) why a m named.names (names-same X N a.told m.told p es told named) read shown calm.faults calm.clashes;
    kinds = read-kinds why a.told read;
    ready = read-ready only_hash a.told why read;
    adds = adds-read X only_hash a.told m.told why l l read;
    kept = file-same X N only_hash (status_of why) a m side.told l told;
    reads = head-counts why a.told i read;
    host = refl;
    rows = tt;
    cause = shown-any X (IsBadIn X N a.told m.told) (Err why) a m shown;
    touches = λ p es bytes rows named input heights calm. no-touch (command_touches X N rows bytes (Add (adding.Input only_hash)) p es) t0;
    whole = λ s stands calm. add-whole (Err why) (read-kinds why a.told read);
    touched = λ blames. absurd (add-blames (Err why) (read-kinds why a.told read) blames);
    unready = λ e is. record { told = told; left = refl; reads = refl };
    unplaced = λ p es names stood none. absurd none;
    leaves = record { head = ap head_in told; writes = add-same X only_hash a.told m.told told; idle = λ p es bytes stands calm same. told };
  }

  -- there is none, where one is needed
  pub no-head : IfSome a.told (λ t. t.notes.head ≡ None) → StaysCalm a m → Makes X N (Add (adding.Input false)) (Err (refusal.Ready ready.NoHead)) (around a l i h w t0 side er) (around m l i h w t0 side er2)
  no-head none calm = record {
    answers = λ world stands input calm2. let s = world.standing in let bytes = world.input in head-absent X N s bytes a.told m.told stands (stands-same X N a.told m.told s told stands) none;
    lost = λ p es heights held outside named input calm2. let bytes = outside.input in absurd (names-there X N a.told p es named.names none);
    kinds = refl;
    ready = none;
    adds = tt;
    kept = inl told;
    reads = counts-still i;
    host = refl;
    rows = tt;
    cause = calm;
    touches = λ p es bytes rows named input heights calm2. tt;
    whole = λ s stands calm2. add-whole (Err (refusal.Ready ready.NoHead)) refl;
    touched = λ blames. absurd blames;
    unready = λ e is. record { told = told; left = refl; reads = refl };
    unplaced = λ p es names stood none. absurd none;
    leaves = record { head = ap head_in told; writes = add-same X false a.told m.told told; idle = λ p es bytes stands calm same. told };
  }

  module _ (calm : StaysCalm a m) (r : Result (List ℕ) Refusal) (k : streams.Told) (j : ℕ) (counts : Counts (is_read r) i j) where
    -- the input is added by the profile of the Head
    pub is-added : (p : Profile) (b : Seen) (t1 : ℕ) → IfSome a.told (λ t. IsProfileIn (Some p) t.notes.head) → IsRowOf X p b.told r l k → ShownIn X r m b → KeepsGood X m.told b.told
        → WritesAs X SyncsBlocks (is_ok r) m.told b.told → AddsFile X p m.told b.told l → Makes X N (Add (adding.Input false)) r (around a l i h w t0 side er) (around b k j h w t1 side er2)
    is-added p b t1 says row shown kept writes only =
        let good = subst (λ t. KeepsGood X t b.told) told kept in
        let written = subst (λ t. WritesAs X SyncsBlocks (is_ok r) t b.told) told writes in
        let head = add-head X (is_ok r) a.told b.told written in
        record {
          answers = λ world stands input calm2. let s = world.standing in let bytes = world.input in
              let given = input.0 refl in
              let now = stands-kept X N a.told b.told s good head stands in
              add-answers X hash N s p bytes r a.told b.told stands says
              (added-answers X N s (plan_blocks X p) p bytes r b.told m b l k i j now (λ bs h. tells-held X N b.told s _ now h) row given.0 shown
              (stood-back a.faults m.faults b.faults calm.faults calm2.faults) (stood-back a.clashes m.clashes b.clashes calm.clashes calm2.clashes) counts given.1);
          lost = λ q es heights held outside named input calm2. let bytes = outside.input in
              let given = input.0 refl in
              add-over X hash N q p es bytes r a.told b.told named.names says (λ same.
              added-over X N a.told b.told q es (plan_blocks X q) bytes r b.told m b l k i j (names-kept X N a.told b.told q es good head named)
              (subst (λ p. IsRowOf X p b.told r l k) (sym same) row) given.0 shown
              (stood-back a.faults m.faults b.faults calm.faults calm2.faults) (stood-back a.clashes m.clashes b.clashes calm.clashes calm2.clashes) counts given.1);
          kinds = row-kinds X p b.told r l k row;
          ready = row-ready X false a.told b.told p r l k row;
          adds = adds-of X false a.told b.told b.told p r l k (λ list held. held) (by-told a.told false p says) row;
          kept = inr (p, says, subst (λ t. AddsFile X p t b.told l) told only);
          reads = counts;
          host = refl;
          rows = no-rows r;
          cause = shown-after X (IsBadIn X N a.told b.told) (refusal_fault r) a m b calm (shown-any X (IsBadIn X N a.told b.told) r m b shown);
          touches = λ q es bytes rows named input heights calm2. tt;
          whole = λ s stands calm2. add-whole r (row-kinds X p b.told r l k row);
          touched = λ blames. absurd (add-blames r (row-kinds X p b.told r l k row) blames);
          unready = λ e is. absurd (row-unready X p b.told r l k row is);
          unplaced = λ p es names stood none. absurd none;
          leaves = record { head = stays-same r a.told b.told head; writes = written; idle = λ q es bytes stands calm same. absurd cc };
        }

    -- the input's row is made, and nothing is kept
    pub is-hashed : (found : Option Profile) (p : Profile) → p ≡ or_usual found → IfSome a.told (λ t. IsProfileIn found t.notes.head) → IsRowOf X p None r l k → OnlyWants r → Makes X N (Add (adding.Input true)) r (around a l i h w t0 side er) (around m k j h w t0 side er2)
    is-hashed found p is says row wants =
        let shown = wants-shown X r a m wants calm in
        record {
          answers = λ world stands input calm2. let s = world.standing in let bytes = world.input in
              let given = input.0 refl in
              let mid = stands-same X N a.told m.told s told stands in
              let usual_row : IsRowOf X (or_usual found) None r l k = subst (λ p. IsRowOf X p None r l k) is row in
              hash-answers X hash N s found bytes r a.told m.told stands says
              (added-answers X N s (λ bytes. []) (or_usual found) bytes r None a m l k i j mid (λ bs h. tells-none X N m.told s mid) usual_row given.0 shown calm2.faults calm2.clashes counts given.1);
          lost = λ q es heights held outside named input calm2. let bytes = outside.input in
              let given = input.0 refl in
              hash-over X hash N found q es bytes r a.told m.told named.names says (λ same.
              added-over X N a.told m.told q es (λ bytes. []) bytes r None a m l k i j (names-same X N a.told m.told q es told named)
              (subst (λ p. IsRowOf X p None r l k) (is ∙ sym same) row) given.0 shown calm2.faults calm2.clashes counts given.1);
          kinds = row-kinds X p None r l k row;
          ready = row-ready X true a.told None p r l k row;
          adds = adds-of X true a.told None m.told p r l k (λ list held. tt) (subst (λ p. IfSome a.told (λ t. AddsBy true t.notes.head p)) (sym is) (by-found a.told found says)) row;
          kept = tt;
          reads = counts;
          host = refl;
          rows = no-rows r;
          cause = shown-any X (IsBadIn X N a.told m.told) r a m shown;
          touches = λ q es bytes rows named input heights calm2. no-touch (Some 0) t0;
          whole = λ s stands calm2. add-whole r (row-kinds X p None r l k row);
          touched = λ blames. absurd (add-blames r (row-kinds X p None r l k row) blames);
          unready = λ e is. absurd (row-unready X p None r l k row is);
          unplaced = λ p es names stood none. absurd none;
          leaves = record { head = stays-same r a.told m.told (ap head_in told); writes = told; idle = λ q es bytes stands calm same. told };
        }
