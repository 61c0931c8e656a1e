-- How it is printed how what is held compares with a CAR.
use Rattle.std.proofs.Common.{◌≡◌, ◌≢◌, ◌⊎◌, ℕ, List, [], true, false, refl, sym, ap, subst, inl, inr, Some, None, Result, Ok, Err}
use Rattle.std.specs.Prelude.{IfErr, IsSome, ⊤}
use Rattle.uf_car.specs.Reading.{car_read}
use Rattle.uf_cid.specs.Blocks.{Lookup}
use Rattle.uf_cid.specs.declared.cid.Cid.{Cid}
use Rattle.uf_edge.specs.Counts.{Counts}
use Rattle.uf_edge.specs.Streams.{after}
use Rattle.uf_edge.specs.Streams as streams
use Rattle.uf_mfs.specs.Standing.{TellsHeld, head_in}
use Rattle.uf_mfs.specs.Touches.{IsBlaming}
use Rattle.uf_store.specs.Contents.{Told}
use Rattle.uf_store.specs.Faults.{NoneIsBad}
use Rattle.uf_store.specs.Seen.{Seen}
use Rattle.uf_store.specs.declared.store.StoreFault.TheVariants as fault
use Rattle.uf_store.proofs.Calls.{shown-by}
use Rattle.uf_tree.specs.Tree.{Entries}
use Rattle.uf_tree.specs.declared.profile.Profile.{Profile}
use Rattle.uf_command.specs.Cars.{most_car}
use Rattle.uf_command.specs.Natures.{OfCarSections}
use Rattle.uf_command.specs.Kinds.{same_kinds, OfWrite, fault_behind, may_meet, refusal_kind}
use Rattle.uf_command.specs.Statuses.{no_memory}
use Rattle.uf_command.specs.declared.types.Command.TheVariants.{Same}
use Rattle.uf_command.specs.declared.types.Refusal.{Refusal}
use Rattle.uf_command.specs.declared.types.Refusal.TheVariants as refusal
use Rattle.uf_top.specs.Answering.{DoesAnswer}
use Rattle.uf_top.specs.Around.{HostSide, RisesFor, SinkSide, around}
use Rattle.uf_top.specs.Cars.{ByOwnStore, ComparesCar}
use Rattle.uf_top.specs.Causes.{IsBadIn, IsReadyBy}
use Rattle.uf_top.specs.Endings.{EndsBy, PrintsPart}
use Rattle.uf_command.specs.Telling.{IsCut, Prints}
use Rattle.uf_top.specs.Losing.{DoesOver}
use Rattle.uf_top.specs.Naming.{StaysNamed, TellsBlocks}
use Rattle.uf_top.specs.Reply.{Outside, World, car_compared, in_world, reply}
use Rattle.uf_top.specs.Working.{Does}
use Rattle.uf_top.proofs.Cats.{tells-some}
use Rattle.uf_top.proofs.Losing.{names-same}
use Rattle.uf_top.proofs.Printing.{calm-of, else-same, may-end, nothing-printed, quiet-of, rises-still, whole-printed}
use Rattle.uf_top.proofs.Shows.{not-rose}

-- ---- what every refusal of `dag same` has

record IsOfComparing (told : Told) (cid : Cid) (why : Refusal) : Type 0 where
  other : refusal_kind why ≢ OfWrite
  ready : IsReadyBy told (Same cid) why
  blames : IsBlaming (fault_behind why) → ⊥

of-comparing : (told : Told) (cid : Cid) (why : Refusal) → may_meet same_kinds (refusal_kind why) ≡ true → IsOfComparing told cid why
of-comparing told cid (refusal.Rule rule) h = absurd cc
of-comparing told cid (refusal.Dag rule) h = record { other = λ e. cc; ready = tt; blames = λ b. b }
of-comparing told cid (refusal.Host rule) h = absurd cc
of-comparing told cid (refusal.BadPath why) h = absurd cc
of-comparing told cid refusal.InputTooLong h = absurd cc
of-comparing told cid refusal.BadPins h = absurd cc
of-comparing told cid refusal.Usage h = absurd cc
of-comparing told cid (refusal.Ready why) h = absurd cc
of-comparing told cid refusal.Read h = record { other = λ e. cc; ready = tt; blames = λ b. b }
of-comparing told cid refusal.Write h = absurd cc
of-comparing told cid (refusal.Store fault.Failed) h = record { other = λ e. cc; ready = tt; blames = λ b. b }
of-comparing told cid (refusal.Store (fault.Damaged c)) h = record { other = λ e. cc; ready = tt; blames = λ b. b }
of-comparing told cid (refusal.Store (fault.Missing c)) h = record { other = λ e. cc; ready = tt; blames = λ b. b }
of-comparing told cid (refusal.Store (fault.BadBlock c role)) h = absurd cc
of-comparing told cid (refusal.Store (fault.Clash c first second)) h = record { other = λ e. cc; ready = tt; blames = λ b. b }
of-comparing told cid (refusal.Store fault.Memory) h = record { other = λ e. cc; ready = tt; blames = λ b. b }
of-comparing told cid (refusal.Car number place) h = record { other = λ e. cc; ready = tt; blames = λ b. b }
of-comparing told cid (refusal.CarLacks c) h = record { other = λ e. cc; ready = tt; blames = λ b. b }
of-comparing told cid (refusal.OwnClash c first second) h = record { other = λ e. cc; ready = tt; blames = λ b. b }

-- a failed writing blames no section
pub printed-sections : (X : List ℕ → List ℕ) (left : streams.Told) (a b : Seen) (text : List ℕ) (h h2 : streams.Told) (w v : ℕ) (r : Result (Unit {0}) Refusal) → Prints text r h h2 w v → IfErr r (ByOwnStore X OfCarSections left a b)
printed-sections X left a b text h h2 w v (Ok done) p = tt
printed-sections X left a b text h h2 w v (Err why) p = subst (ByOwnStore X OfCarSections left a b) (sym p.write) tt

-- ---- its text is printed

module _ (X : List ℕ → List ℕ) (N : List ℕ → ℕ) (cid : Cid) (a b : Seen) (same : b.told ≡ a.told) (l m : streams.Told) (i j t0 t1 : ℕ) (h : streams.Told) (w : ℕ) (side : HostSide) (er er2 : SinkSide) where
  abbrev Wants : Result (List ℕ) Refusal → Lookup → List ℕ → Type 0
  Wants ends held bytes = (ends ≡ Err no_memory) ⊎ (ends ≡ car_compared held cid (car_read X most_car bytes))

  still-tells : (held : Lookup) → TellsBlocks a.told held → IsSome b.told
  still-tells held tells = subst IsSome (sym same) (by a.told tells)
    where
      by : (told : Told) → TellsBlocks told held → IsSome told
      by None tells = absurd tells
      by (Some t) tells = refl

  pub uncompared-does : (why : Refusal) → ComparesCar X cid (Err why) a b l i j → Does X N (Same cid) (Err why) (around a l i h w t0 side er) (around b m j h w t1 side er2)
  uncompared-does why k =
      let of = of-comparing a.told cid why k.kinds in
      let quiet = quiet-of (λ text. ⊤) false why of.other in
      record {
        answers = λ world finds input calm. answered world finds.held (k.says world.held world.input finds.held (input.0 refl).0 (input.0 refl).1 calm.store);
        lost = λ p es rows held outside named tells heights input calm. over p es held outside named (k.says held outside.input tells (input.0 refl).0 (input.0 refl).1 calm.store);
        unprinted = λ world after. absurd cc;
        unprinted_over = λ p es held outside after. absurd cc;
        prefix = λ world finds input room. nothing-printed (reply X N (Same cid) world).ends h h refl;
        prints = quiet.prints h h (else-same false h);
        kinds = may-end (Same cid) why k.kinds;
        ready = of.ready;
        long = tt;
        reads = k.counts;
        host = refl;
        gets = tt;
        pins = tt;
        kept = tt;
        writes = subst (λ f. RisesFor f w w) (sym quiet.unwritten) (rises-still w);
        cause = shown-by X NoneIsBad (IsBadIn X N a.told b.told) (fault_behind why) a b (λ role bytes bad. absurd bad) k.cause;
        whole = λ s needs stands calm. absurd cc;
        touches = λ p es bytes rows named input heights calm. tt;
        touched = λ blames. absurd (of.blames blames);
        unready = λ e is. absurd cc;
        unplaced = λ p es names stood none. absurd none;
        leaves = record { head = ap head_in same; writes = same; idle = λ p es bytes stands calm is. absurd cc };
      }
    where
      answered : (world : World) → TellsBlocks a.told world.held → Wants (Err why) world.held world.input → DoesAnswer X N (Same cid) world (Err why) h h b.told side.told
      answered world tells (inl e) = (let is : why ≡ no_memory = cc in inl (record { ends_are = ap (λ (r : Refusal). Err r) is; stands = still-tells world.held tells }))
      answered world tells (inr e) = inr (record { ends = subst (λ x. EndsBy x (Err why) h h) e (refl, refl); stands = still-tells world.held tells; blocks = subst (λ t. TellsHeld t []) (sym same) (tells-some a.told world.held tells) }, tt)

      over : (p : Profile) (es : Entries) (held : Lookup) (outside : Outside) → StaysNamed X N a.told b.told p es → Wants (Err why) held outside.input
          → DoesOver X N a.told b.told p es [] (reply X N (Same cid) (in_world p es held outside)) (Err why) h h
      over p es held outside named (inl e) = (let is : why ≡ no_memory = cc in inl (record { fault = fault.Memory; ends_are = ap (λ (r : Refusal). Err r) is; loss = tt; stands = names-same X N a.told b.told p es same named }))
      over p es held outside named (inr e) = inr (record { ends = subst (λ x. EndsBy x (Err why) h h) e (refl, refl); stands = names-same X N a.told b.told p es same named })

  module _ (text : List ℕ) (k : ComparesCar X cid (Ok text) a b l i j) (h2 : streams.Told) (v : ℕ) where
    -- the text is the reply's
    text-is : (held : Lookup) (bytes : List ℕ) → Wants (Ok text) held bytes → Ok text ≡ car_compared held cid (car_read X most_car bytes)
    text-is held bytes (inl e) = absurd cc
    text-is held bytes (inr e) = e

    printed : h2 ≡ after h text → Counts false w v → Does X N (Same cid) (Ok tt) (around a l i h w t0 side er) (around b m j h2 v t1 side er2)
    printed is counts = record {
      answers = λ world finds input calm. answered world finds.held (text-is world.held world.input (k.says world.held world.input finds.held (input.0 refl).0 (input.0 refl).1 calm.store));
      lost = λ p es rows held outside named tells heights input calm. over p es held outside named (text-is held outside.input (k.says held outside.input tells (input.0 refl).0 (input.0 refl).1 calm.store));
      unprinted = λ world after. absurd cc;
      unprinted_over = λ p es held outside after. absurd cc;
      prefix = λ world finds input room. subst (λ e. PrintsPart e h h2) (text-is world.held world.input (k.says world.held world.input finds.held (input.0 refl).0 (input.0 refl).1 (calm-of a b room k.cause))) (whole-printed text h h2 is);
      prints = (text, tt, is);
      kinds = tt;
      ready = tt;
      long = tt;
      reads = k.counts;
      host = refl;
      gets = tt;
      pins = tt;
      kept = tt;
      writes = record { rose = counts.rose; still = counts.still };
      cause = k.cause;
      whole = λ s needs stands calm. absurd cc;
      touches = λ p es bytes rows named input heights calm. tt;
      touched = λ blames. absurd blames;
      unready = λ e is. absurd cc;
      unplaced = λ p es names stood none. absurd none;
      leaves = record { head = tt; writes = same; idle = λ p es bytes stands calm is. absurd cc };
    }
      where
        answered : (world : World) → TellsBlocks a.told world.held → Ok text ≡ car_compared world.held cid (car_read X most_car world.input) → DoesAnswer X N (Same cid) world (Ok tt) h h2 b.told side.told
        answered world tells e = inr (record { ends = subst (λ x. EndsBy x (Ok tt) h h2) e (refl, is); stands = still-tells world.held tells; blocks = subst (λ t. TellsHeld t []) (sym same) (tells-some a.told world.held tells) }, tt)

        over : (p : Profile) (es : Entries) (held : Lookup) (outside : Outside) → StaysNamed X N a.told b.told p es → Ok text ≡ car_compared held cid (car_read X most_car outside.input)
            → DoesOver X N a.told b.told p es [] (reply X N (Same cid) (in_world p es held outside)) (Ok tt) h h2
        over p es held outside named e = inr (record { ends = subst (λ x. EndsBy x (Ok tt) h h2) e (refl, is); stands = names-same X N a.told b.told p es same named })

    cut : IsCut text refusal.Write h h2 w v → Does X N (Same cid) (Err refusal.Write) (around a l i h w t0 side er) (around b m j h2 v t1 side er2)
    cut c = record {
      answers = λ world finds input calm. absurd (not-rose w v (c.counts.rose refl) calm.written.output);
      lost = λ p es rows held outside named tells heights input calm. absurd (not-rose w v (c.counts.rose refl) calm.written.output);
      unprinted = λ world after. absurd cc;
      unprinted_over = λ p es held outside after. absurd cc;
      prefix = λ world finds input room. subst (λ e. PrintsPart e h h2) (text-is world.held world.input (k.says world.held world.input finds.held (input.0 refl).0 (input.0 refl).1 (calm-of a b room k.cause))) c.printed;
      prints = (text, tt, c.printed);
      kinds = refl;
      ready = tt;
      long = tt;
      reads = k.counts;
      host = refl;
      gets = tt;
      pins = tt;
      kept = tt;
      writes = record { rose = c.counts.rose; still = c.counts.still };
      cause = k.cause;
      whole = λ s needs stands calm. absurd cc;
      touches = λ p es bytes rows named input heights calm. tt;
      touched = λ blames. absurd blames;
      unready = λ e is. absurd cc;
      unplaced = λ p es names stood none. absurd none;
      leaves = record { head = ap head_in same; writes = same; idle = λ p es bytes stands calm is. absurd cc };
    }

    -- or the output failed
    pub compared-does : (r : Result (Unit {0}) Refusal) → Prints text r h h2 w v → Does X N (Same cid) r (around a l i h w t0 side er) (around b m j h2 v t1 side er2)
    compared-does (Ok done) p = printed p.0 p.1
    compared-does (Err why) c =
        let e = c.write in
        subst (λ (r : Refusal). Does X N (Same cid) (Err r) (around a l i h w t0 side er) (around b m j h2 v t1 side er2)) (sym e) (cut (subst (λ (r : Refusal). IsCut text r h h2 w v) e c))
