-- What is made of an input that is added as a file.
use Rattle.std.proofs.Common.{◌≡◌, ℕ, ◌<◌, ◌≤◌, ◌+◌, List, [], ◌++◌, length, Bool, true, false, arith, refl, sym, ap, subst, ◌∙◌, inl, inr, append-nil, length-append, Option, Some, None, Result, Ok, Err}
use Rattle.std.specs.Prelude.{IfOk, IfSome, OnOk, if◌then◌else◌}
use Rattle.std.proofs.lemmas.Bool.{le-leb, lt-leb}
use Rattle.uf_tree.specs.Profiles.{most_bytes, usual}
use Rattle.uf_cid.specs.Blocks.{Held}
use Rattle.uf_edge.specs.Counts.{Counts, Stood}
use Rattle.uf_edge.specs.Streams.{before, IsAtEnd}
use Rattle.uf_edge.specs.Streams as streams
use Rattle.uf_mfs.specs.Standing.{NamesOver, OnlySynced, TellsAs, TellsHeld}
use Rattle.uf_plain.specs.declared.ready.Ready.TheVariants as ready
use Rattle.uf_plain.specs.declared.rule.Rule.{Rule}
use Rattle.uf_plain.specs.declared.rule.Rule.TheVariants.{FileTooLong}
use Rattle.uf_store.specs.declared.store.StoreFault.{StoreFault}
use Rattle.uf_store.specs.Contents.{Told, changed, with_sync}
use Rattle.uf_store.specs.Faults.{NoneIsBad}
use Rattle.uf_store.specs.Keeping.{Holds}
use Rattle.uf_store.specs.Seen.{Seen}
use Rattle.uf_tree.specs.FilePlan.{file_plan}
use Rattle.uf_tree.specs.Metas.{none}
use Rattle.uf_tree.specs.Standing.{Standing, NoHead, BadHead, Stands}
use Rattle.uf_tree.specs.Tree.{Dir, Entries}
use Rattle.uf_tree.specs.TreePlan.{blocks}
use Rattle.uf_tree.specs.Validity.{IsHash}
use Rattle.uf_tree.specs.declared.nodes.Entry.{Entry}
use Rattle.uf_tree.specs.declared.profile.Profile.{Profile}
use Rattle.uf_top.specs.Causes.{Adds, AddsBy, HeadSays, HoldsUnless, IsProfileIn, IsProfileOf, IsProfileRead, IsReady, IsReason, IsUnread, Stops, is_read, or_usual}
use Rattle.uf_build.specs.Intake.{IsFileOf}
use Rattle.uf_top.specs.Intake.{IsRowOf, ShownIn}
use Rattle.uf_top.specs.Losing.{AnswersOver}
use Rattle.uf_top.specs.Naming.{NamesAfter, StandsNamed}
use Rattle.uf_command.specs.Lines.{added_line}
use Rattle.uf_top.specs.Answering.{Answers}
use Rattle.uf_top.specs.Reply.{Reply, add_reply, added, file_cid, unchanged}
use Rattle.uf_command.specs.declared.types.Command.TheVariants.{Add}
use Rattle.uf_command.specs.declared.types.Adding.TheVariants as adding
use Rattle.uf_command.specs.declared.types.Refusal.{Refusal}
use Rattle.uf_command.specs.declared.types.Refusal.TheVariants as refusal
use Rattle.uf_top.proofs.Losing.{lost-wants}
use Rattle.uf_top.proofs.Shows.{saving-wants, not-rose}
use Rattle.uf_top.proofs.Standings.{leaves-holds, names-read, names-says, names-there, standing-bad, standing-none, standing-says, tells-none}

-- the row of a whole file, which stays held
pub row-of : (X : List ℕ → List ℕ) (p : Profile) (a b : Told) (entry : Entry) (text : List ℕ) (l m : streams.Told) → ((bs : List Held) → Holds a bs → Holds b bs)
    → text ≡ added_line entry.cid → IsFileOf X p a (Ok entry) l m → IsRowOf X p b (Ok text) l m
row-of X p a b entry text l m stays is h = record {
  bytes = h.bytes;
  taken = h.taken;
  nothing_left = h.nothing_left;
  few = h.few;
  is = is ∙ ap (λ (e : Entry). added_line e.cid) h.is;
  held = stays _ h.held;
}

pub all_given : (bytes given : List ℕ) (left left_now : streams.Told) → left ≡ Some bytes → left ≡ before given left_now → IsAtEnd left_now → bytes ≡ given
all_given bytes given left None e taken ended = (let k : Some bytes ≡ None = sym e ∙ taken in absurd cc)
all_given bytes given left (Some rest) e taken ended =
    let same : Some bytes ≡ Some (given ++ rest) = sym e ∙ taken in
    let whole : bytes ≡ given ++ rest = cc in
    whole ∙ ap (λ (r : List ℕ). given ++ r) ended ∙ append-nil given

pub given_few : (bytes given : List ℕ) (left left_now : streams.Told) → left ≡ Some bytes → left ≡ before given left_now → length given ≤ length bytes
given_few bytes given left None e taken = (let k : Some bytes ≡ None = sym e ∙ taken in absurd cc)
given_few bytes given left (Some rest) e taken =
    let same : Some bytes ≡ Some (given ++ rest) = sym e ∙ taken in
    let whole : bytes ≡ given ++ rest = cc in
    let sizes : length bytes ≡ length given + length rest = ap length whole ∙ length-append given rest in
    omega (arith, sizes)

pub left_are : (given : List ℕ) (left left_now : streams.Told) → left ≡ before given left_now → IsAtEnd left_now → IfSome left (λ b. b ≡ given)
left_are given None left_now taken ended = tt
left_are given (Some bytes) left_now taken ended = all_given bytes given (Some bytes) left_now refl taken ended

-- the blocks of the file of some bytes without metadata
abbrev pub plan_blocks : (List ℕ → List ℕ) → Profile → List ℕ → List Held
plan_blocks X p bytes = (file_plan X p none bytes).blocks

module _ (X : List ℕ → List ℕ) where
  short : (s : Standing) (blocks : List ℕ → List Held) (p : Profile) (bytes : List ℕ) → length bytes ≤ most_bytes p
      → added X s blocks p bytes ≡ record { ends = Ok (added_line (file_cid X p bytes)); next = s; held = blocks bytes }
  short s blocks p bytes h =
      let row : Reply = record { ends = Ok (added_line (file_cid X p bytes)); next = s; held = blocks bytes } in
      let other : Reply = unchanged s (Err (refusal.Rule FileTooLong)) in
      ap (λ (b : Bool). if b then row else other) (le-leb (length bytes) (most_bytes p) h)

  long : (s : Standing) (blocks : List ℕ → List Held) (p : Profile) (bytes : List ℕ) → most_bytes p < length bytes
      → added X s blocks p bytes ≡ unchanged s (Err (refusal.Rule FileTooLong))
  long s blocks p bytes h =
      let row : Reply = record { ends = Ok (added_line (file_cid X p bytes)); next = s; held = blocks bytes } in
      let other : Reply = unchanged s (Err (refusal.Rule FileTooLong)) in
      ap (λ (b : Bool). if b then row else other) (lt-leb (length bytes) (most_bytes p) h)

  -- the row of an input, or why there is none, is what the reply says of its bytes
  pub added-answers : (N : List ℕ → ℕ) (s : Standing) (blocks : List ℕ → List Held) (p : Profile) (bytes : List ℕ) (r : Result (List ℕ) Refusal) (held : Told) (a b : Seen) (l m : streams.Told) (i j : ℕ)
      → TellsAs X N b.told s → ((bs : List ℕ) → Holds held (plan_blocks X p bs) → TellsHeld b.told (blocks bs))
      → IsRowOf X p held r l m → l ≡ Some bytes → ShownIn X r a b → Stood a.faults b.faults → Stood a.clashes b.clashes → Counts (is_read r) i j → Stood i j
      → Answers X N s (added X s blocks p bytes) r b.told
  added-answers N s blocks p bytes (Ok text) held a b l m i j stands stays row e shown f c counts read =
      let same : bytes ≡ row.bytes = all_given bytes row.bytes l m e row.taken row.nothing_left in
      let few : length bytes ≤ most_bytes p = subst (λ (xs : List ℕ). length xs ≤ most_bytes p) (sym same) row.few in
      let reply = short s blocks p bytes few in
      inr (record {
        ends_are = ap Ok (row.is ∙ ap (λ (xs : List ℕ). added_line (file_cid X p xs)) (sym same)) ∙ ap (λ (r : Reply). r.ends) (sym reply);
        stands = subst (λ (r : Reply). TellsAs X N b.told r.next) (sym reply) stands;
        held = subst (λ (r : Reply). TellsHeld b.told r.held) (sym reply) (stays bytes (subst (λ (xs : List ℕ). Holds held (file_plan X p none xs).blocks) (sym same) row.held));
      })
  added-answers N s blocks p bytes (Err (refusal.Rule rule)) held a b l m i j stands stays row e shown f c counts read =
      let few = given_few bytes row.1.bytes l m e row.1.taken in
      let many = row.1.many in
      let reply = long s blocks p bytes (omega (arith, few, many)) in
      inr (record {
        ends_are = ap (λ (r : Rule). Err (refusal.Rule r)) row.0 ∙ ap (λ (r : Reply). r.ends) (sym reply);
        stands = subst (λ (r : Reply). TellsAs X N b.told r.next) (sym reply) stands;
        held = subst (λ (r : Reply). TellsHeld b.told r.held) (sym reply) (tells-none X N b.told s stands);
      })
  added-answers N s blocks p bytes (Err (refusal.Dag rule)) held a b l m i j stands stays row e shown f c counts read = absurd row
  added-answers N s blocks p bytes (Err (refusal.Car number place)) held a b l m i j stands stays row e shown f c counts read = absurd row
  added-answers N s blocks p bytes (Err (refusal.CarLacks cid)) held a b l m i j stands stays row e shown f c counts read = absurd row
  added-answers N s blocks p bytes (Err (refusal.OwnClash cid first second)) held a b l m i j stands stays row e shown f c counts read = absurd row
  added-answers N s blocks p bytes (Err (refusal.Host rule)) held a b l m i j stands stays row e shown f c counts read = absurd row
  added-answers N s blocks p bytes (Err (refusal.BadPath why)) held a b l m i j stands stays row e shown f c counts read = absurd row
  added-answers N s blocks p bytes (Err refusal.Usage) held a b l m i j stands stays row e shown f c counts read = absurd row
  added-answers N s blocks p bytes (Err refusal.InputTooLong) held a b l m i j stands stays row e shown f c counts read = absurd row
  added-answers N s blocks p bytes (Err refusal.BadPins) held a b l m i j stands stays row e shown f c counts read = absurd row
  added-answers N s blocks p bytes (Err (refusal.Ready why)) held a b l m i j stands stays row e shown f c counts read = absurd row
  added-answers N s blocks p bytes (Err refusal.Read) held a b l m i j stands stays row e shown f c counts read = absurd (not-rose i j (counts.rose refl) read)
  added-answers N s blocks p bytes (Err refusal.Write) held a b l m i j stands stays row e shown f c counts read = absurd row
  added-answers N s blocks p bytes (Err (refusal.Store fault)) held a b l m i j stands stays row e shown f c counts read =
      inl (record { ends_are = ap (λ (x : StoreFault). Err (refusal.Store x)) (saving-wants X NoneIsBad fault a b row shown f c); stands = stands })

  -- the same over a tree of whose blocks some may be lost
  pub added-over : (N : List ℕ → ℕ) (c d : Told) (p : Profile) (es : Entries) (held_blocks : List ℕ → List Held) (bytes : List ℕ) (r : Result (List ℕ) Refusal) (held : Told) (a b : Seen) (l m : streams.Told) (i j : ℕ)
      → NamesAfter X N c d (blocks X N p (Dir es)) p es
      → IsRowOf X p held r l m → l ≡ Some bytes → ShownIn X r a b → Stood a.faults b.faults → Stood a.clashes b.clashes → Counts (is_read r) i j → Stood i j
      → AnswersOver X N c d p es [] (added X (Stands p es) held_blocks p bytes) r
  added-over N c d p es held_blocks bytes (Ok text) held a b l m i j stands row e shown f g counts read =
      let same : bytes ≡ row.bytes = all_given bytes row.bytes l m e row.taken row.nothing_left in
      let few : length bytes ≤ most_bytes p = subst (λ (xs : List ℕ). length xs ≤ most_bytes p) (sym same) row.few in
      let reply = short (Stands p es) held_blocks p bytes few in
      inr (record {
        ends_are = ap Ok (row.is ∙ ap (λ (xs : List ℕ). added_line (file_cid X p xs)) (sym same)) ∙ ap (λ (r : Reply). r.ends) (sym reply);
        stands = subst (λ (r : Reply). StandsNamed X N c d (blocks X N p (Dir es)) r.next) (sym reply) stands;
      })
  added-over N c d p es held_blocks bytes (Err (refusal.Rule rule)) held a b l m i j stands row e shown f g counts read =
      let few = given_few bytes row.1.bytes l m e row.1.taken in
      let many = row.1.many in
      let reply = long (Stands p es) held_blocks p bytes (omega (arith, few, many)) in
      inr (record {
        ends_are = ap (λ (r : Rule). Err (refusal.Rule r)) row.0 ∙ ap (λ (r : Reply). r.ends) (sym reply);
        stands = subst (λ (r : Reply). StandsNamed X N c d (blocks X N p (Dir es)) r.next) (sym reply) stands;
      })
  added-over N c d p es held_blocks bytes (Err (refusal.Dag rule)) held a b l m i j stands row e shown f g counts read = absurd row
  added-over N c d p es held_blocks bytes (Err (refusal.Car number place)) held a b l m i j stands row e shown f g counts read = absurd row
  added-over N c d p es held_blocks bytes (Err (refusal.CarLacks cid)) held a b l m i j stands row e shown f g counts read = absurd row
  added-over N c d p es held_blocks bytes (Err (refusal.OwnClash cid first second)) held a b l m i j stands row e shown f g counts read = absurd row
  added-over N c d p es held_blocks bytes (Err (refusal.Host rule)) held a b l m i j stands row e shown f g counts read = absurd row
  added-over N c d p es held_blocks bytes (Err (refusal.BadPath why)) held a b l m i j stands row e shown f g counts read = absurd row
  added-over N c d p es held_blocks bytes (Err refusal.Usage) held a b l m i j stands row e shown f g counts read = absurd row
  added-over N c d p es held_blocks bytes (Err refusal.InputTooLong) held a b l m i j stands row e shown f g counts read = absurd row
  added-over N c d p es held_blocks bytes (Err refusal.BadPins) held a b l m i j stands row e shown f g counts read = absurd row
  added-over N c d p es held_blocks bytes (Err (refusal.Ready why)) held a b l m i j stands row e shown f g counts read = absurd row
  added-over N c d p es held_blocks bytes (Err refusal.Read) held a b l m i j stands row e shown f g counts read = absurd (not-rose i j (counts.rose refl) read)
  added-over N c d p es held_blocks bytes (Err refusal.Write) held a b l m i j stands row e shown f g counts read = absurd row
  added-over N c d p es held_blocks bytes (Err (refusal.Store fault)) held a b l m i j stands row e shown f g counts read =
      lost-wants X N c d p es [] (added X (Stands p es) held_blocks p bytes) (refusal.Store fault) (ap refusal.Store (saving-wants X NoneIsBad fault a b row shown f g)) stands

  -- ---- by the Head

  -- over such a tree the Head is read, and only memory was wanting
  pub unread-over : IsHash X → (N : List ℕ → ℕ) (p : Profile) (es : Entries) (given : Reply) (why : Refusal) (a b : Seen) → NamesOver X N a.told p es → NamesAfter X N a.told b.told (blocks X N p (Dir es)) p es
      → IsProfileRead (Err why) a.told → ShownIn {A = Option Profile} X (Err why) a b → Stood a.faults b.faults → Stood a.clashes b.clashes → AnswersOver X N a.told b.told p es [] given (Err why)
  unread-over good N p es given (refusal.Rule rule) a b names stands read shown f g = absurd read
  unread-over good N p es given (refusal.Dag rule) a b names stands read shown f g = absurd read
  unread-over good N p es given (refusal.Car number place) a b names stands read shown f g = absurd read
  unread-over good N p es given (refusal.CarLacks cid) a b names stands read shown f g = absurd read
  unread-over good N p es given (refusal.OwnClash cid first second) a b names stands read shown f g = absurd read
  unread-over good N p es given (refusal.Host rule) a b names stands read shown f g = absurd read
  unread-over good N p es given (refusal.BadPath why) a b names stands read shown f g = absurd read
  unread-over good N p es given refusal.Usage a b names stands read shown f g = absurd read
  unread-over good N p es given refusal.InputTooLong a b names stands read shown f g = absurd read
  unread-over good N p es given refusal.BadPins a b names stands read shown f g = absurd read
  unread-over good N p es given (refusal.Ready why) a b names stands read shown f g = absurd (names-read X N good a.told p es names read.1)
  unread-over good N p es given refusal.Read a b names stands read shown f g = absurd read
  unread-over good N p es given refusal.Write a b names stands read shown f g = absurd read
  unread-over good N p es given (refusal.Store fault) a b names stands read shown f g =
      lost-wants X N a.told b.told p es [] given (refusal.Store fault) (ap refusal.Store (saving-wants X NoneIsBad fault a b read shown f g)) stands

  -- the Head says the tree's profile, with `-n` too
  pub add-over : IsHash X → (N : List ℕ → ℕ) (p q : Profile) (es : Entries) (bytes : List ℕ) (r : Result (List ℕ) Refusal) (a b : Told) → NamesOver X N a p es → IsProfileOf a q
      → (p ≡ q → AnswersOver X N a b p es [] (added X (Stands p es) (plan_blocks X p) p bytes) r) → AnswersOver X N a b p es [] (add_reply X false (Stands p es) bytes) r
  add-over good N p q es bytes r a b names says answers = answers (names-says X N good a p q es names says)

  pub hash-over : IsHash X → (N : List ℕ → ℕ) (found : Option Profile) (p : Profile) (es : Entries) (bytes : List ℕ) (r : Result (List ℕ) Refusal) (a b : Told) → NamesOver X N a p es → IfSome a (λ t. IsProfileIn found t.notes.head)
      → (p ≡ or_usual found → AnswersOver X N a b p es [] (added X (Stands p es) (λ bytes. []) p bytes) r) → AnswersOver X N a b p es [] (add_reply X true (Stands p es) bytes) r
  hash-over good N None p es bytes r a b names none answers = absurd (names-there X N a p es names none)
  hash-over good N (Some q) p es bytes r a b names says answers = answers (names-says X N good a p q es names says)

  -- the Head that is not read, or want of memory
  pub head-refused : IsHash X → (N : List ℕ → ℕ) (s : Standing) (only_hash : Bool) (bytes : List ℕ) (why : Refusal) (a b : Seen)
      → TellsAs X N a.told s → TellsAs X N b.told s → IsProfileRead (Err why) a.told → ShownIn {A = Option Profile} X (Err why) a b → Stood a.faults b.faults → Stood a.clashes b.clashes
      → Answers X N s (add_reply X only_hash s bytes) (Err why) b.told
  head-refused good N s only_hash bytes (refusal.Rule rule) a b told now read shown f c = absurd read
  head-refused good N s only_hash bytes (refusal.Dag rule) a b told now read shown f c = absurd read
  head-refused good N s only_hash bytes (refusal.Car number place) a b told now read shown f c = absurd read
  head-refused good N s only_hash bytes (refusal.CarLacks cid) a b told now read shown f c = absurd read
  head-refused good N s only_hash bytes (refusal.OwnClash cid first second) a b told now read shown f c = absurd read
  head-refused good N s only_hash bytes (refusal.Host rule) a b told now read shown f c = absurd read
  head-refused good N s only_hash bytes (refusal.BadPath why) a b told now read shown f c = absurd read
  head-refused good N s only_hash bytes refusal.Usage a b told now read shown f c = absurd read
  head-refused good N s only_hash bytes refusal.InputTooLong a b told now read shown f c = absurd read
  head-refused good N s only_hash bytes refusal.BadPins a b told now read shown f c = absurd read
  head-refused good N s only_hash bytes (refusal.Ready why) a b told now read shown f c =
      let bad = standing-bad X N good a.told s told read.1 in
      subst (λ s. Answers X N s (add_reply X only_hash s bytes) (Err (refusal.Ready why)) b.told) (sym bad)
      (by only_hash (subst (λ s. TellsAs X N b.told s) bad now))
    where
      by : (only_hash : Bool) → TellsAs X N b.told BadHead → Answers X N BadHead (add_reply X only_hash BadHead bytes) (Err (refusal.Ready why)) b.told
      by true t = inr (record { ends_are = ap (λ r. Err (refusal.Ready r)) read.0; stands = t; held = tells-none X N b.told BadHead t })
      by false t = inr (record { ends_are = ap (λ r. Err (refusal.Ready r)) read.0; stands = t; held = tells-none X N b.told BadHead t })
  head-refused good N s only_hash bytes refusal.Read a b told now read shown f c = absurd read
  head-refused good N s only_hash bytes refusal.Write a b told now read shown f c = absurd read
  head-refused good N s only_hash bytes (refusal.Store fault) a b told now read shown f c =
      inl (record { ends_are = ap (λ (x : StoreFault). Err (refusal.Store x)) (saving-wants X NoneIsBad fault a b read shown f c); stands = now })

  -- there is no Head, where one is needed
  pub head-absent : (N : List ℕ → ℕ) (s : Standing) (bytes : List ℕ) (a b : Told) → TellsAs X N a s → TellsAs X N b s → IfSome a (λ t. t.notes.head ≡ None)
      → Answers X N s (add_reply X false s bytes) (Err (refusal.Ready ready.NoHead)) b
  head-absent N s bytes a b told now none =
      let is = standing-none X N a s told none in
      let t : TellsAs X N b NoHead = subst (λ s. TellsAs X N b s) is now in
      subst (λ s. Answers X N s (add_reply X false s bytes) (Err (refusal.Ready ready.NoHead)) b) (sym is)
      (inr (record { ends_are = refl; stands = t; held = tells-none X N b NoHead t }))

  -- the Head says this profile
  pub add-answers : IsHash X → (N : List ℕ → ℕ) (s : Standing) (p : Profile) (bytes : List ℕ) (r : Result (List ℕ) Refusal) (a b : Told) → TellsAs X N a s → IsProfileOf a p
      → Answers X N s (added X s (plan_blocks X p) p bytes) r b
      → Answers X N s (add_reply X false s bytes) r b
  add-answers good N s p bytes r a b told says answers =
      let is = (standing-says X N good a s p told says).1 in
      subst (λ s. Answers X N s (add_reply X false s bytes) r b) (sym is)
      (subst (λ s. Answers X N s (added X s (plan_blocks X p) p bytes) r b) is answers)

  -- with `-n`, the Head says this profile, or there is none
  pub hash-answers : IsHash X → (N : List ℕ → ℕ) (s : Standing) (found : Option Profile) (bytes : List ℕ) (r : Result (List ℕ) Refusal) (a b : Told) → TellsAs X N a s → IfSome a (λ t. IsProfileIn found t.notes.head)
      → Answers X N s (added X s (λ bytes. []) (or_usual found) bytes) r b → Answers X N s (add_reply X true s bytes) r b
  hash-answers good N s None bytes r a b told none answers =
      let is = standing-none X N a s told none in
      subst (λ s. Answers X N s (add_reply X true s bytes) r b) (sym is) (subst (λ s. Answers X N s (added X s (λ bytes. []) usual bytes) r b) is answers)
  hash-answers good N s (Some p) bytes r a b told says answers =
      let is = (standing-says X N good a s p told says).1 in
      subst (λ s. Answers X N s (add_reply X true s bytes) r b) (sym is) (subst (λ s. Answers X N s (added X s (λ bytes. []) p bytes) r b) is answers)

  -- ---- over every store

  pub adds-of : (only_hash : Bool) (told held now : Told) (p : Profile) (r : Result (List ℕ) Refusal) (l m : streams.Told) → ((list : List Held) → Holds held list → HoldsUnless only_hash now list) → IfSome told (λ t. AddsBy only_hash t.notes.head p)
      → IsRowOf X p held r l m → Adds X told now only_hash r l m
  adds-of only_hash told held now p (Ok text) l m keeps by row =
      record { profile = p; adds_by = by; bytes = row.bytes; are_left = left_are row.bytes l m row.taken row.nothing_left; is = row.is; held = keeps (file_plan X p none row.bytes).blocks row.held }
  adds-of only_hash told held now p (Err (refusal.Rule rule)) l m keeps by row = (row.0, record { profile = p; adds_by = by; bytes = row.1.bytes; taken = row.1.taken; many = row.1.many })
  adds-of only_hash told held now p (Err (refusal.Dag rule)) l m keeps by row = tt
  adds-of only_hash told held now p (Err (refusal.Car number place)) l m keeps by row = tt
  adds-of only_hash told held now p (Err (refusal.CarLacks cid)) l m keeps by row = tt
  adds-of only_hash told held now p (Err (refusal.OwnClash cid first second)) l m keeps by row = tt
  adds-of only_hash told held now p (Err (refusal.Host rule)) l m keeps by row = tt
  adds-of only_hash told held now p (Err (refusal.BadPath why)) l m keeps by row = tt
  adds-of only_hash told held now p (Err refusal.Usage) l m keeps by row = tt
  adds-of only_hash told held now p (Err refusal.InputTooLong) l m keeps by row = tt
  adds-of only_hash told held now p (Err refusal.BadPins) l m keeps by row = tt
  adds-of only_hash told held now p (Err (refusal.Ready why)) l m keeps by row = tt
  adds-of only_hash told held now p (Err refusal.Read) l m keeps by row = tt
  adds-of only_hash told held now p (Err refusal.Write) l m keeps by row = tt
  adds-of only_hash told held now p (Err (refusal.Store fault)) l m keeps by row = tt

  pub adds-read : (only_hash : Bool) (told now : Told) (why : Refusal) (l m : streams.Told) → IsProfileRead (Err why) told → Adds X told now only_hash (Err why) l m
  adds-read only_hash told now (refusal.Rule rule) l m read = absurd read
  adds-read only_hash told now (refusal.Dag rule) l m read = tt
  adds-read only_hash told now (refusal.Car number place) l m read = tt
  adds-read only_hash told now (refusal.CarLacks cid) l m read = tt
  adds-read only_hash told now (refusal.OwnClash cid first second) l m read = tt
  adds-read only_hash told now (refusal.Host rule) l m read = tt
  adds-read only_hash told now (refusal.BadPath why) l m read = tt
  adds-read only_hash told now refusal.Usage l m read = tt
  adds-read only_hash told now refusal.InputTooLong l m read = tt
  adds-read only_hash told now refusal.BadPins l m read = tt
  adds-read only_hash told now (refusal.Ready why) l m read = tt
  adds-read only_hash told now refusal.Read l m read = tt
  adds-read only_hash told now refusal.Write l m read = tt
  adds-read only_hash told now (refusal.Store fault) l m read = tt

  pub row-ready : (only_hash : Bool) (told held : Told) (p : Profile) (r : Result (List ℕ) Refusal) (l m : streams.Told) → IsRowOf X p held r l m → IsReady told (Add (adding.Input only_hash)) r
  row-ready only_hash told held p (Ok text) l m row = tt
  row-ready only_hash told held p (Err (refusal.Rule rule)) l m row = tt
  row-ready only_hash told held p (Err (refusal.Dag rule)) l m row = tt
  row-ready only_hash told held p (Err (refusal.Car number place)) l m row = tt
  row-ready only_hash told held p (Err (refusal.CarLacks cid)) l m row = tt
  row-ready only_hash told held p (Err (refusal.OwnClash cid first second)) l m row = tt
  row-ready only_hash told held p (Err (refusal.Host rule)) l m row = tt
  row-ready only_hash told held p (Err (refusal.BadPath why)) l m row = tt
  row-ready only_hash told held p (Err refusal.Usage) l m row = tt
  row-ready only_hash told held p (Err refusal.InputTooLong) l m row = tt
  row-ready only_hash told held p (Err refusal.BadPins) l m row = tt
  row-ready only_hash told held p (Err (refusal.Ready why)) l m row = absurd row
  row-ready only_hash told held p (Err refusal.Read) l m row = tt
  row-ready only_hash told held p (Err refusal.Write) l m row = tt
  row-ready only_hash told held p (Err (refusal.Store fault)) l m row = tt

by-head : (head : Option (List ℕ)) (only_hash : Bool) (p : Profile) → HeadSays head p → AddsBy only_hash head p
by-head None only_hash p h = absurd h
by-head (Some text) true p h = h
by-head (Some text) false p h = h

pub by-told : (told : Told) (only_hash : Bool) (p : Profile) → IsProfileOf told p → IfSome told (λ t. AddsBy only_hash t.notes.head p)
by-told None only_hash p h = tt
by-told (Some t) only_hash p h = by-head t.notes.head only_hash p h

usual-by : (head : Option (List ℕ)) → head ≡ None → AddsBy true head usual
usual-by None e = refl
usual-by (Some text) e = absurd cc

pub by-found : (told : Told) (found : Option Profile) → IfSome told (λ t. IsProfileIn found t.notes.head) → IfSome told (λ t. AddsBy true t.notes.head (or_usual found))
by-found None found h = tt
by-found (Some t) None h = usual-by t.notes.head h
by-found (Some t) (Some p) h = by-head t.notes.head true p h

unread-reason : (told : Told) (only_hash : Bool) → IfSome told (λ t. IsUnread t.notes.head) → IsReason (Add (adding.Input only_hash)) ready.BadHead told
unread-reason told true h = h
unread-reason told false h = h

pub read-ready : (only_hash : Bool) (told : Told) (why : Refusal) → IsProfileRead (Err why) told → IsReady {A = List ℕ} told (Add (adding.Input only_hash)) (Err why)
read-ready only_hash told (refusal.Rule rule) read = tt
read-ready only_hash told (refusal.Dag rule) read = tt
read-ready only_hash told (refusal.Car number place) read = tt
read-ready only_hash told (refusal.CarLacks cid) read = tt
read-ready only_hash told (refusal.OwnClash cid first second) read = tt
read-ready only_hash told (refusal.Host rule) read = tt
read-ready only_hash told (refusal.BadPath why) read = tt
read-ready only_hash told refusal.Usage read = tt
read-ready only_hash told refusal.InputTooLong read = tt
read-ready only_hash told refusal.BadPins read = tt
read-ready only_hash told (refusal.Ready why) read = subst (λ why. IsReason (Add (adding.Input only_hash)) why told) (sym read.0) (unread-reason told only_hash read.1)
read-ready only_hash told refusal.Read read = tt
read-ready only_hash told refusal.Write read = tt
read-ready only_hash told (refusal.Store fault) read = tt

-- the row of a file, once its blocks were made durable
pub synced-row : (X : List ℕ → List ℕ) (p : Profile) (a b : Told) (entry : Entry) (row : List ℕ) (r : Result (List ℕ) Refusal) (l m : streams.Told) → OnOk r (b ≡ changed with_sync a)
    → IfOk r (λ text. text ≡ row) → row ≡ added_line entry.cid → Stops r → IsFileOf X p a (Ok entry) l m → IsRowOf X p b r l m
synced-row X p a b entry row (Ok text) l m synced is row_is stops file = row-of X p a b entry text l m (λ bs h. leaves-holds a b bs (OnlySynced synced) h) (is ∙ row_is) file
synced-row X p a b entry row (Err (refusal.Rule rule)) l m leaves is row_is stops file = absurd stops
synced-row X p a b entry row (Err (refusal.Dag rule)) l m leaves is row_is stops file = absurd stops
synced-row X p a b entry row (Err (refusal.Car number place)) l m leaves is row_is stops file = absurd stops
synced-row X p a b entry row (Err (refusal.CarLacks cid)) l m leaves is row_is stops file = absurd stops
synced-row X p a b entry row (Err (refusal.OwnClash cid first second)) l m leaves is row_is stops file = absurd stops
synced-row X p a b entry row (Err (refusal.Host rule)) l m leaves is row_is stops file = absurd stops
synced-row X p a b entry row (Err (refusal.BadPath why)) l m leaves is row_is stops file = absurd stops
synced-row X p a b entry row (Err refusal.Usage) l m leaves is row_is stops file = absurd stops
synced-row X p a b entry row (Err refusal.InputTooLong) l m leaves is row_is stops file = absurd stops
synced-row X p a b entry row (Err refusal.BadPins) l m leaves is row_is stops file = absurd stops
synced-row X p a b entry row (Err (refusal.Ready why)) l m leaves is row_is stops file = absurd stops
synced-row X p a b entry row (Err refusal.Read) l m leaves is row_is stops file = absurd stops
synced-row X p a b entry row (Err refusal.Write) l m leaves is row_is stops file = absurd stops
synced-row X p a b entry row (Err (refusal.Store fault)) l m leaves is row_is stops file = stops
