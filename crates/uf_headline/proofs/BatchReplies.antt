-- What the lines of a batch answer, where nothing fails.
use Rattle.std.proofs.Common.{◌≡◌, ◌∙◌, ℕ, ◌+◌, ◌≤◌, List, [], ◌∷◌, ◌++◌, Bool, true, false, arith, refl, sym, ap, subst, inl, inr, append_assoc, append-nil, Option, None, Some, Result, Ok, Err}
use Rattle.std.specs.Prelude.{◌⊎◌, IfSome, IsTrue}
use Rattle.uf_cid.specs.Blocks.{Lookup}
use Rattle.uf_edge.specs.Counts.{Stood}
use Rattle.uf_edge.specs.Host.{HostTree}
use Rattle.uf_edge.specs.Streams as streams
use Rattle.uf_mfs.specs.Standing.{TellsAs}
use Rattle.uf_store.specs.Contents.{Told, held_at}
use Rattle.uf_store.specs.Keeping.{KeepsGood}
use Rattle.uf_tree.specs.Profiles.{is_profile}
use Rattle.uf_tree.specs.Standing.{Standing, NoHead, BadHead, Stands}
use Rattle.uf_tree.specs.Tree.{Entries}
use Rattle.uf_tree.specs.declared.profile.Profile.{Profile}
use Rattle.uf_command.specs.Commands.{of_command}
use Rattle.uf_command.specs.Natures.{needs_standing, pin_writes}
use Rattle.uf_command.specs.Statuses.{ends_batch, mark}
use Rattle.uf_command.specs.declared.status.Status.{Status}
use Rattle.uf_command.specs.declared.status.Status.TheVariants as status
use Rattle.uf_command.specs.declared.types.Command.{Command}
use Rattle.uf_command.specs.declared.types.Command.TheVariants.{Init, Add, WriteInput, At, Read, Cat, Get, Export, Import, Same, Adopt, Gen, Pin, Prove}
use Rattle.uf_command.specs.declared.types.Adding.TheVariants as adding
use Rattle.uf_command.specs.declared.types.Refusal.{Refusal}
use Rattle.uf_top.specs.Around.{Around, CountsCanRise, HasOutside, NoneFalls, RoseAt, SameButErrors, SinkSide, StaysQuiet}
use Rattle.uf_top.specs.Batch.{AtLine, Batches, ByMemory, ByReading, Ending, EndsSo, LineCut, LineDone, LineEnds, LineGone, LinePassed, LinesDone, PrintsCut, PrintsWhole, ReadingFails, TooLong, WithInput, output_of, without_input}
use Rattle.uf_headline.specs.BatchReplies.{BatchReplied, EndsReplied, GoesOnReplied, HasHeights, LineAnswered, LineFinds, LineReplied, LinesReplied, NothingFails, added_bounds, batch_bound, batch_printed, going_bound, going_printed, last_bound, last_printed, line_bound, line_printed, line_reply, line_world, lines_bound, lines_printed, printed_by}
use Rattle.uf_top.specs.Endings.{EndsAs, PrintsAll, PrintsPart}
use Rattle.uf_top.specs.Naming.{FindsOver, FindsWorld, NamesIf, StandsIf, TellsBlocks}
use Rattle.uf_top.specs.Reply.{World, outside_of, reply_to}
use Rattle.uf_top.specs.Shapes.{WritesFor, is_done}
use Rattle.uf_headline.proofs.BatchCounts.{ends-counted, fails-first, fails-last, gone-counted, last-counted, lines-counted, whole-counted, cut-counted}
use Rattle.uf_top.proofs.Counted.{but-errors, rose-not-stood, with_sinks}
use Rattle.uf_headline.proofs.LineHosts.{Suits, asks-suits}
use Rattle.uf_top.proofs.Losing.{named-of}
use Rattle.uf_top.proofs.Pins.{noted-pins, pins-head}
use Rattle.uf_top.proofs.Wrote.{shape-good}
use Rattle.uf_headline.proofs.Ran.{line-ran}
use Rattle.uf_top.proofs.Standings.{stands-kept}

-- ---- texts one after the other

pub after-then : (held : streams.Told) (x y : List ℕ) → streams.after (streams.after held x) y ≡ streams.after held (x ++ y)
after-then None x y = refl
after-then (Some h) x y = ap (λ (l : List ℕ). Some l) (append_assoc h x y)

pub after-nothing : (held : streams.Told) → held ≡ streams.after held []
after-nothing None = refl
after-nothing (Some h) = ap (λ (l : List ℕ). Some l) (sym (append-nil h))

pub all-printed : (ends : Result (List ℕ) Refusal) (held now : streams.Told) → PrintsAll ends held now → now ≡ streams.after held (printed_by ends)
all-printed (Ok text) held now is = is
all-printed (Err why) held now is = is ∙ after-nothing held

-- ---- what stands after a command that suits a batch

module _ (X : List ℕ → List ℕ) (N : List ℕ → ℕ) where
  pub held-of : (told : Told) (s : Standing) → TellsAs X N told s → (held : Lookup) × TellsBlocks told held
  held-of None s stands = absurd stands
  held-of (Some t) s stands = (held_at t, refl)

  pub if-needed : (needs : Bool) (told : Told) (s : Standing) → TellsAs X N told s → StandsIf X N needs told s
  if-needed true told s stands = stands
  if-needed false None s stands = absurd stands
  if-needed false (Some t) s stands = refl

  pub names-if : (needs : Bool) (a b : Told) (s : Standing) → KeepsGood X a b → TellsAs X N a s → NamesIf X N a b needs s
  names-if true a b NoHead good stands = stands
  names-if true a b BadHead good stands = stands
  names-if true a b (Stands p es) good stands = named-of X N a b p es stands good
  names-if false None b s good stands = absurd stands
  names-if false (Some t) b s good stands = refl

  profile-of : (told : Told) (p : Profile) (es : Entries) → TellsAs X N told (Stands p es) → IsTrue (is_profile p)
  profile-of None p es stands = absurd stands
  profile-of (Some t) p es stands = stands.profile

  -- a command that needs no standing leaves it
  pub next-same : (asked : Result Command Refusal) (w : World) → of_command needs_standing true asked ≡ false → (reply_to X N asked w).next ≡ w.standing
  next-same (Err why) w none = refl
  next-same (Ok (Init p)) w none = absurd cc
  next-same (Ok (Add (adding.Input only_hash))) w none = absurd cc
  next-same (Ok (Add (adding.Host recursive only_hash path))) w none = absurd cc
  next-same (Ok (Add (adding.InputTo dest))) w none = absurd cc
  next-same (Ok (Add (adding.HostTo recursive path dest))) w none = absurd cc
  next-same (Ok (WriteInput how path)) w none = absurd cc
  next-same (Ok (At ask path)) w none = absurd cc
  next-same (Ok (Read offset count path)) w none = absurd cc
  next-same (Ok (Prove absent path)) w none = absurd cc
  next-same (Ok (Cat path)) w none = refl
  next-same (Ok (Get path host_path)) w none = refl
  next-same (Ok (Export cid)) w none = refl
  next-same (Ok Import) w none = refl
  next-same (Ok (Same cid)) w none = refl
  next-same (Ok (Adopt source dest)) w none = absurd cc
  next-same (Ok (Gen n seed)) w none = refl
  next-same (Ok (Pin ask)) w none = refl

  module _ (done : Bool) (s t : Standing) (a b : Told) where
    -- nothing was written
    untouched : b ≡ a → t ≡ s → TellsAs X N a s → TellsAs X N b t
    untouched same is stands = subst (TellsAs X N b) (sym is) (subst (λ x. TellsAs X N x s) (sym same) stands)

    pub stands-now : (asked : Result Command Refusal) → Suits asked → WritesFor X asked done a b → (of_command needs_standing true asked ≡ false → t ≡ s) → TellsAs X N a s
        → StandsIf X N (of_command needs_standing true asked) b t → TellsAs X N b t
    stands-now (Err why) suits writes same stands now = now
    stands-now (Ok (Init p)) suits writes same stands now = now
    stands-now (Ok (Add (adding.Input only_hash))) suits writes same stands now = now
    stands-now (Ok (Add (adding.Host recursive only_hash path))) suits writes same stands now = now
    stands-now (Ok (Add (adding.InputTo dest))) suits writes same stands now = now
    stands-now (Ok (Add (adding.HostTo recursive path dest))) suits writes same stands now = now
    stands-now (Ok (WriteInput how path)) suits writes same stands now = now
    stands-now (Ok (At ask path)) suits writes same stands now = now
    stands-now (Ok (Read offset count path)) suits writes same stands now = now
    stands-now (Ok (Prove absent path)) suits writes same stands now = now
    stands-now (Ok (Cat path)) suits writes same stands now = untouched writes (same refl) stands
    stands-now (Ok (Get path host_path)) suits writes same stands now = untouched writes (same refl) stands
    stands-now (Ok (Export cid)) suits writes same stands now = untouched writes (same refl) stands
    stands-now (Ok Import) suits writes same stands now = absurd (let e : true ≡ false = suits.0 in cc)
    stands-now (Ok (Same cid)) suits writes same stands now = untouched writes (same refl) stands
    stands-now (Ok (Adopt source dest)) suits writes same stands now = now
    stands-now (Ok (Gen n seed)) suits writes same stands now = untouched writes (same refl) stands
    stands-now (Ok (Pin ask)) suits writes same stands now = subst (TellsAs X N b) (sym (same refl)) (stands-kept X N a b s (shape-good X (pin_writes ask) done a b writes) (pins-head X ask done a b writes) stands)

  -- ---- a line

  module _ (host : HostTree) (line : List ℕ) (given : Status) (a b : Around) (done : LineDone X N line given a b) where
    suits : Suits done.asked
    suits = asks-suits line done.asked done.asks

    pub outside-of : (s : Standing) (held : Lookup) → a.host.told ≡ Some host → Stood a.host.reads b.host.reads → HasOutside done.asked (outside_of (line_world host s held (noted-pins a.store.told).0)) a b
    outside-of s held tells stood = (λ reads. absurd (let e : true ≡ false = sym reads ∙ suits.0 in cc), λ uses. (tells, stood), λ uses. (noted-pins a.store.told).1)

    abbrev pub found-of : (held : Lookup) → TellsBlocks a.store.told held → LineFinds line a
    found-of held blocks = record { asked = done.asked; asks = done.asks; held = held; blocks = blocks; pins = (noted-pins a.store.told).0; noted = (noted-pins a.store.told).1 }

    pub quiet-of : NothingFails a b → StaysQuiet done.asked given a b
    quiet-of h = record {
      store = h.store;
      written = record { output = h.output; host = λ writes. absurd (let e : true ≡ false = sym writes ∙ suits.1 in cc) };
      own = λ own. absurd (let e : true ≡ false = sym own ∙ suits.2 in cc);
    }

    pub host-same : b.host.told ≡ a.host.told
    host-same = (line-ran done).host suits.1

    pub finds-of : (s : Standing) (held : Lookup) → TellsAs X N a.store.told s → TellsBlocks a.store.told held → FindsWorld X N done.asked a.store.told (line_world host s held (noted-pins a.store.told).0)
    finds-of s held stands blocks = record { stands = if-needed (of_command needs_standing true done.asked) a.store.told s stands; held = blocks }

    pub stands-next : (s t : Standing) → (of_command needs_standing true done.asked ≡ false → t ≡ s) → TellsAs X N a.store.told s → StandsIf X N (of_command needs_standing true done.asked) b.store.told t
        → TellsAs X N b.store.told t
    stands-next s t same stands now = stands-now (is_done given) s t a.store.told b.store.told done.asked suits (line-ran done).writes same stands now

    module _ (tells : a.host.told ≡ Some host) (h : NothingFails a b) where
      touched : (s : Standing) → TellsAs X N a.store.told s → (rows : Profile → ℕ → ℕ) → HasHeights rows → IfSome (line_bound X N rows s done.asked) (λ most. b.touches ≤ a.touches + most)
      touched NoHead stands rows heights = tt
      touched BadHead stands rows heights = tt
      touched (Stands p es) stands rows heights =
          (line-ran done).touches p es [] (rows p) (named-of X N a.store.told b.store.told p es stands (line-ran done).good) (λ reads. absurd (let e : true ≡ false = sym reads ∙ suits.0 in cc))
          (heights p (profile-of a.store.told p es stands)) h.store

      room : CountsCanRise a.store
      room = record { faults = omega (arith, (line-ran done).faults.counted.store.faults, h.store.faults); clashes = omega (arith, (line-ran done).faults.counted.store.clashes, h.store.clashes) }

      names-over : (s : Standing) (held : Lookup) → TellsAs X N a.store.told s → TellsBlocks a.store.told held → FindsOver X N a.store.told b.store.told done.asked (line_world host s held (noted-pins a.store.told).0)
      names-over s held stands blocks = record { names = names-if (of_command needs_standing true done.asked) a.store.told b.store.told s (line-ran done).good stands; held = blocks }

      prints-front : (s : Standing) (held : Lookup) → TellsAs X N a.store.told s → TellsBlocks a.store.told held → PrintsPart (reply_to X N done.asked (line_world host s held (noted-pins a.store.told).0)).ends a.held b.held
      prints-front s held stands blocks = (line-ran done).prefix (line_world host s held (noted-pins a.store.told).0) (names-over s held stands blocks) (outside-of s held tells h.host) room

      answered-by : (s : Standing) (held : Lookup) → TellsBlocks a.store.told held → TellsAs X N a.store.told s
          → EndsAs X N done.asked (line_world host s held (noted-pins a.store.told).0) given a b → (next : Standing) × LineAnswered X N host line given s next a b
      answered-by s held blocks stands (inl wants) = (
        s,
        record {
          found = found-of held blocks;
          stood = stands;
          ends = inl wants;
          prints = prints-front s held stands blocks;
          next_is = inr (wants.status_is, refl);
          moved = (line-ran done).pins;
          stands = stands-next s s (λ none. refl) stands wants.stands;
          touches = touched s stands;
        },
      )
      answered-by s held blocks stands (inr replies) = (
        (reply_to X N done.asked (line_world host s held (noted-pins a.store.told).0)).next,
        record {
          found = found-of held blocks;
          stood = stands;
          ends = inr replies;
          prints = prints-front s held stands blocks;
          next_is = inl refl;
          moved = (line-ran done).pins;
          stands = stands-next s (reply_to X N done.asked (line_world host s held (noted-pins a.store.told).0)).next (λ none. next-same done.asked (line_world host s held (noted-pins a.store.told).0) none) stands replies.0.stands;
          touches = touched s stands;
        },
      )

      pub answered : (s : Standing) → TellsAs X N a.store.told s → (next : Standing) × LineAnswered X N host line given s next a b
      answered s stands = by (held-of a.store.told s stands)
        where
          by : ((held : Lookup) × TellsBlocks a.store.told held) → (next : Standing) × LineAnswered X N host line given s next a b
          by h0 = answered-by s h0.0 h0.1 stands ((line-ran done).replies (line_world host s h0.0 (noted-pins a.store.told).0) (finds-of s h0.0 stands h0.1) (outside-of s h0.0 tells h.host) (quiet-of h))

    -- no writing of the output failed
    pub wrote : Stood a.writes b.writes → given ≡ status.WriteFault → ⊥
    wrote stood is = rose-not-stood a.writes b.writes (subst (λ u. RoseAt u a.writes b.writes a.host.writes b.host.writes) suits.1 ((line-ran done).written is)) stood

  -- ---- lines

  module _ (host : HostTree) where
    -- what is so where the lines go on
    abbrev pub GoesOn : Around → Standing → Type 0
    GoesOn a s = (a.host.told ≡ Some host) × TellsAs X N a.store.told s

    goes-same : (a b : Around) (s : Standing) → SameButErrors a b → GoesOn a s → GoesOn b s
    goes-same a b s same h = subst (λ (x : Around). (x.host.told ≡ Some host) × TellsAs X N x.store.told s) (sym same) h

    -- before a line's status was printed
    abbrev pub before-mark : SinkSide → Around → Around
    before-mark printed b = with_sinks printed b.errors b

    passed-replied : (line : List ℕ) (a b : Around) (s : Standing) (p : LinePassed X N line a b) → GoesOn a s → NothingFails a b → (next : Standing) × LineReplied X N host line false p.given s next a b × GoesOn b next
    passed-replied line a b s p on h =
        by (answered host line p.given a (before-mark p.printed b) p.done on.0 (fails-first a (before-mark p.printed b) b (line-ran p.done).faults.counted (whole-counted (mark p.given) p.printed b.errors b p.marked) h) s on.1)
      where
        by : ((next : Standing) × LineAnswered X N host line p.given s next a (before-mark p.printed b)) → (next : Standing) × LineReplied X N host line false p.given s next a b × GoesOn b next
        by r = (r.0, record { printed = p.printed; answered = r.1; ends = p.goes_on; marked = p.marked }, (host-same host line p.given a (before-mark p.printed b) p.done ∙ on.0, r.1.stands))

    gone-replied : (line : List ℕ) (a b : Around) (s : Standing) → LineGone X N line a b → GoesOn a s → NothingFails a b → (next : Standing) × GoesOnReplied X N host line s next a b × GoesOn b next
    gone-replied line a b s (inl none) on h = (s, inl (none.0, refl, none.1), goes-same a b s (but-errors none.1) on)
    gone-replied line a b s (inr passed) on h = (let r = passed-replied line a b s passed on h in (r.0, inr (passed.given, r.1), r.2))

    pub lines-replied : (lines : List (List ℕ)) (a b : Around) (s : Standing) → LinesDone X N lines a b → GoesOn a s → NothingFails a b → (next : Standing) × LinesReplied X N host lines s next a b × GoesOn b next
    lines-replied [] a b s same on h = (s, (refl, same), goes-same a b s (but-errors same) on)
    lines-replied (line ∷ lines) a b s done on h =
        rest first (lines-replied lines done.0 b first.0 done.2 first.2 (fails-last a done.0 b early late h))
      where
        early : NoneFalls a done.0
        early = gone-counted X N line a done.0 done.1

        late : NoneFalls done.0 b
        late = lines-counted X N lines done.0 b done.2

        first : (next : Standing) × GoesOnReplied X N host line s next a done.0 × GoesOn done.0 next
        first = gone-replied line a done.0 s done.1 on (fails-first a done.0 b early late h)

        rest : (f : (next : Standing) × GoesOnReplied X N host line s next a done.0 × GoesOn done.0 next) → ((next : Standing) × LinesReplied X N host lines f.0 next done.0 b × GoesOn b next)
            → (next : Standing) × LinesReplied X N host (line ∷ lines) s next a b × GoesOn b next
        rest f r = (r.0, (f.0, done.0, f.1, r.1), r.2)

    -- ---- the end

    last-replied : (line : List ℕ) (given : Status) (a b : Around) (s : Standing) → LineEnds X N line given a b → GoesOn a s → NothingFails a b → (next : Standing) × LineReplied X N host line true given s next a b × TellsAs X N b.store.told next
    last-replied line given a b s e on h = by (answered host line given a (before-mark e.printed b) e.done on.0 early s on.1) (e.marked (wrote host line given a (before-mark e.printed b) e.done early.output))
      where
        late : NoneFalls (before-mark e.printed b) b
        late = last-counted X N line given a b e

        early : NothingFails a (before-mark e.printed b)
        early = fails-first a (before-mark e.printed b) b (line-ran e.done).faults.counted late h

        by : ((next : Standing) × LineAnswered X N host line given s next a (before-mark e.printed b)) → PrintsWhole (mark given) e.printed (output_of b) ⊎ PrintsCut (mark given) e.printed (output_of b)
            → (next : Standing) × LineReplied X N host line true given s next a b × TellsAs X N b.store.told next
        by r (inl whole) = (r.0, record { printed = e.printed; answered = r.1; ends = e.ends; marked = whole }, r.1.stands)
        by r (inr cut) = absurd (rose-not-stood e.printed.faults b.writes cut.counted (fails-last a (before-mark e.printed b) b (line-ran e.done).faults.counted late h).output)

    never-cut : (line : List ℕ) (given : Status) (a b : Around) → LineCut X N line given a b → NothingFails a b → ⊥
    never-cut line given a b e h =
        rose-not-stood e.printed.faults b.writes e.cut.counted (fails-last a (with_sinks e.printed e.between b) b (line-ran e.done).faults.counted (cut-counted (mark e.was) e.printed e.between b e.cut) h).output

    ends-replied : (ending : Ending X N) (given : Status) (a b : Around) (s : Standing) → EndsSo X N ending given a b → GoesOn a s → NothingFails a b → (ending ≡ ByReading → ⊥)
        → (next : Standing) × EndsReplied X N host ending given s next a b × TellsAs X N b.store.told next
    ends-replied WithInput given a b s e on h reads = (s, (e.0, refl, e.1), (goes-same a b s (but-errors e.1) on).1)
    ends-replied TooLong given a b s e on h reads = (s, (refl, e), (goes-same a b s e.same on).1)
    ends-replied ByReading given a b s e on h reads = absurd (reads refl)
    ends-replied ByMemory given a b s e on h reads = (s, (refl, e), (goes-same a b s e.same on).1)
    ends-replied (AtLine line) given a b s (inl e) on h reads = last-replied line given a b s e on h
    ends-replied (AtLine line) given a b s (inr e) on h reads = absurd (never-cut line given a b e h)

    -- ---- the whole batch

    module _ (most limit : ℕ) (given : Status) (before now : Around) (s : Standing) where
      abbrev a : Around
      a = without_input before

      abbrev b : Around
      b = without_input now

      pub batch-replied : (did : Batches X N most limit given before now) → a.host.told ≡ Some host → TellsAs X N a.store.told s → NothingFails before now → Stood before.reads now.reads
          → BatchReplied X N host did.lines did.ending given s a did.between b
      batch-replied did tells stands fails stood = whole first (ends-replied did.ending given did.between b first.0 did.ends first.2 (fails-last a did.between b early late h) no-reading)
        where
          h : NothingFails a b
          h = record { store = fails.store; output = fails.output; host = fails.host }

          early : NoneFalls a did.between
          early = lines-counted X N did.lines a did.between did.done

          late : NoneFalls did.between b
          late = ends-counted X N did.ending given did.between b did.ends

          first : (next : Standing) × LinesReplied X N host did.lines s next a did.between × GoesOn did.between next
          first = lines-replied did.lines a did.between s did.done (tells, stands) (fails-first a did.between b early late h)

          no-reading : did.ending ≡ ByReading → ⊥
          no-reading is = rose-not-stood before.reads now.reads (subst (λ e. ReadingFails X N e before.reads now.reads) is did.fails) stood

          whole : (f : (next : Standing) × LinesReplied X N host did.lines s next a did.between × GoesOn did.between next) → ((next : Standing) × EndsReplied X N host did.ending given f.0 next did.between b × TellsAs X N b.store.told next)
              → BatchReplied X N host did.lines did.ending given s a did.between b
          whole f r = record { stood = f.0; next = r.0; each = f.1; last = r.1; stands = r.2 }

    -- ---- touches

    sum-of : (x y : Option ℕ) (i j k : ℕ) → IfSome x (λ m. j ≤ i + m) → IfSome y (λ n. k ≤ j + n) → IfSome (added_bounds x y) (λ t. k ≤ i + t)
    sum-of (Some m) (Some n) i j k p q = omega (arith, p, q)
    sum-of (Some m) None i j k p q = tt
    sum-of None y i j k p q = tt

    same-touches : (a b : Around) → SameButErrors a b → b.touches ≤ a.touches + 0
    same-touches a b same = (let e = ap (λ (x : Around). x.touches) same in omega (arith, e))

    module _ (rows : Profile → ℕ → ℕ) (heights : HasHeights rows) where
      going-touches : (line : List ℕ) (s next : Standing) (a b : Around) (each : GoesOnReplied X N host line s next a b) → IfSome (going_bound X N host rows line s next a b each) (λ most. b.touches ≤ a.touches + most)
      going-touches line s next a b (inl none) = same-touches a b (but-errors none.2)
      going-touches line s next a b (inr gone) = gone.1.answered.touches rows heights

      lines-touches : (lines : List (List ℕ)) (s next : Standing) (a b : Around) (each : LinesReplied X N host lines s next a b) → IfSome (lines_bound X N host rows lines s next a b each) (λ most. b.touches ≤ a.touches + most)
      lines-touches [] s next a b each = same-touches a b (but-errors each.1)
      lines-touches (line ∷ lines) s next a b each =
          sum-of (going_bound X N host rows line s each.0 a each.1 each.2) (lines_bound X N host rows lines each.0 next each.1 b each.3) a.touches each.1.touches b.touches
          (going-touches line s each.0 a each.1 each.2) (lines-touches lines each.0 next each.1 b each.3)

      last-touches : (ending : Ending X N) (given : Status) (s next : Standing) (a b : Around) (last : EndsReplied X N host ending given s next a b)
          → IfSome (last_bound X N host rows ending given s next a b last) (λ most. b.touches ≤ a.touches + most)
      last-touches WithInput given s next a b last = same-touches a b (but-errors last.2)
      last-touches TooLong given s next a b last = same-touches a b last.1.same
      last-touches ByReading given s next a b last = absurd last
      last-touches ByMemory given s next a b last = same-touches a b last.1.same
      last-touches (AtLine line) given s next a b last = last.answered.touches rows heights

      pub batch-touches : (lines : List (List ℕ)) (ending : Ending X N) (given : Status) (s : Standing) (a m b : Around) (did : BatchReplied X N host lines ending given s a m b)
          → IfSome (batch_bound X N host rows lines ending given s a m b did) (λ most. b.touches ≤ a.touches + most)
      batch-touches lines ending given s a m b did =
          sum-of (lines_bound X N host rows lines s did.stood a m did.each) (last_bound X N host rows ending given did.stood did.next m b did.last) a.touches m.touches b.touches
          (lines-touches lines s did.stood a m did.each) (last-touches ending given did.stood did.next m b did.last)

    -- ---- what is printed

    line-prints : (line : List ℕ) (last : Bool) (given : Status) (s next : Standing) (a b : Around) (r : LineReplied X N host line last given s next a b) → (given ≡ status.Memory → ⊥)
        → b.held ≡ streams.after a.held (line_printed X N host line given s next a (before-mark r.printed b) r.answered)
    line-prints line last given s next a b r not = by r.answered.ends
      where
        by : EndsAs X N r.answered.found.asked (line_world host s r.answered.found.held r.answered.found.pins) given a (before-mark r.printed b)
            → b.held ≡ streams.after a.held (line_printed X N host line given s next a (before-mark r.printed b) r.answered)
        by (inl wants) = absurd (not wants.status_is)
        by (inr replies) =
            r.marked.printed ∙ ap (λ (h : streams.Told). streams.after h (mark given)) (all-printed (line_reply X N host s r.answered.found).ends a.held r.printed.held replies.0.printed)
            ∙ after-then a.held (printed_by (line_reply X N host s r.answered.found).ends) (mark given)

    same-prints : (a b : Around) → SameButErrors a b → b.held ≡ streams.after a.held []
    same-prints a b same = ap (λ (x : Around). x.held) same ∙ after-nothing a.held

    going-prints : (line : List ℕ) (s next : Standing) (a b : Around) (each : GoesOnReplied X N host line s next a b) → b.held ≡ streams.after a.held (going_printed X N host line s next a b each)
    going-prints line s next a b (inl none) = same-prints a b (but-errors none.2)
    going-prints line s next a b (inr gone) = line-prints line false gone.0 s next a b gone.1 (λ e. (let k : true ≡ false = subst (λ g. ends_batch g ≡ false) e gone.1.ends in cc))

    then-prints : (a m b : streams.Told) (x y : List ℕ) → m ≡ streams.after a x → b ≡ streams.after m y → b ≡ streams.after a (x ++ y)
    then-prints a m b x y first then = then ∙ ap (λ (h : streams.Told). streams.after h y) first ∙ after-then a x y

    pub lines-print : (lines : List (List ℕ)) (s next : Standing) (a b : Around) (each : LinesReplied X N host lines s next a b) → b.held ≡ streams.after a.held (lines_printed X N host lines s next a b each)
    lines-print [] s next a b each = same-prints a b (but-errors each.1)
    lines-print (line ∷ lines) s next a b each =
        then-prints a.held each.1.held b.held (going_printed X N host line s each.0 a each.1 each.2) (lines_printed X N host lines each.0 next each.1 b each.3)
        (going-prints line s each.0 a each.1 each.2) (lines-print lines each.0 next each.1 b each.3)

    last-prints : (ending : Ending X N) (given : Status) (s next : Standing) (a b : Around) (last : EndsReplied X N host ending given s next a b) → (given ≡ status.Memory → ⊥)
        → b.held ≡ streams.after a.held (last_printed X N host ending given s next a b last)
    last-prints WithInput given s next a b last not = same-prints a b (but-errors last.2)
    last-prints TooLong given s next a b last not = same-prints a b last.1.same
    last-prints ByReading given s next a b last not = absurd last
    last-prints ByMemory given s next a b last not = same-prints a b last.1.same
    last-prints (AtLine line) given s next a b last not = line-prints line true given s next a b last not

    pub batch-prints : (lines : List (List ℕ)) (ending : Ending X N) (given : Status) (s : Standing) (a m b : Around) (did : BatchReplied X N host lines ending given s a m b) → (given ≡ status.Memory → ⊥)
        → b.held ≡ streams.after a.held (batch_printed X N host lines ending given s a m b did)
    batch-prints lines ending given s a m b did not =
        then-prints a.held m.held b.held (lines_printed X N host lines s did.stood a m did.each) (last_printed X N host ending given did.stood did.next m b did.last)
        (lines-print lines s did.stood a m did.each) (last-prints ending given did.stood did.next m b did.last not)
