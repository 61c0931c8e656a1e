-- How it is printed what is said of a generated tree.
use Rattle.std.proofs.Common.{◌≡◌, ◌≢◌, ◌⊎◌, ℕ, List, [], true, false, arith, refl, sym, ap, subst, inl, inr, Result, Ok, Err}
use Rattle.std.specs.Prelude.{IfErr}
use Rattle.uf_cid.specs.Blocks.{Lookup}
use Rattle.uf_edge.specs.Counts.{Counts}
use Rattle.uf_edge.specs.Streams.{after}
use Rattle.uf_edge.specs.Streams as streams
use Rattle.uf_mfs.specs.Touches.{IsBlaming}
use Rattle.uf_store.specs.Faults.{Shown}
use Rattle.uf_store.specs.Seen.{Seen}
use Rattle.uf_store.specs.declared.store.StoreFault.{StoreFault}
use Rattle.uf_store.specs.declared.store.StoreFault.TheVariants as fault
use Rattle.uf_store.proofs.Causes.{StaysCalm-refl, calm-memory}
use Rattle.uf_tree.specs.Tree.{Entries}
use Rattle.uf_tree.specs.declared.profile.Profile.{Profile}
use Rattle.uf_command.specs.Natures.{OfTree}
use Rattle.uf_command.specs.Kinds.{gen_kinds, OfWrite, fault_behind, may_meet, refusal_kind}
use Rattle.uf_command.specs.Statuses.{no_memory, status_of}
use Rattle.uf_command.specs.declared.types.Command.TheVariants.{Gen}
use Rattle.uf_command.specs.declared.types.Refusal.{Refusal}
use Rattle.uf_command.specs.declared.types.Refusal.TheVariants as refusal
use Rattle.uf_top.specs.Answering.{DoesAnswer}
use Rattle.uf_top.specs.Around.{HostSide, MetNone, RisesFor, SinkSide, around}
use Rattle.uf_top.specs.Cars.{ByOwnStore}
use Rattle.uf_top.specs.Causes.{IsBadIn, IsReadyBy, is_read}
use Rattle.uf_top.specs.Endings.{EndsBy, IsTextOf, PrintsPart}
use Rattle.uf_command.specs.Telling.{IsCut, Prints}
use Rattle.uf_edits.specs.Generated.{IsGenerated, generated_ends}
use Rattle.uf_top.specs.Losing.{DoesOver}
use Rattle.uf_top.specs.Naming.{FindsWorld, StaysNamed}
use Rattle.uf_top.specs.Reply.{Outside, World, in_world, reply}
use Rattle.uf_top.specs.Working.{Does}
use Rattle.uf_top.proofs.Cats.{tells-some}
use Rattle.uf_top.proofs.Losing.{names-same}
use Rattle.uf_top.proofs.Printing.{else-same, may-end, nothing-printed, quiet-of, rises-still, whole-printed}
use Rattle.uf_top.proofs.Shows.{counts-still, not-rose}

-- ---- a store of the generator's own is to blame

module _ (X : List ℕ → List ℕ) (N : List ℕ → ℕ) (n seed : ℕ) (left : streams.Told) (a b : Seen) where
  pub refused-own : (why : Refusal) → IsGenerated X N n seed (Err why) → ByOwnStore X OfTree left a b why
  refused-own (refusal.Rule rule) h = tt
  refused-own (refusal.Dag rule) h = tt
  refused-own (refusal.Host rule) h = tt
  refused-own (refusal.BadPath path) h = tt
  refused-own refusal.InputTooLong h = tt
  refused-own refusal.BadPins h = tt
  refused-own refusal.Usage h = tt
  refused-own (refusal.Ready reason) h = tt
  refused-own refusal.Read h = tt
  refused-own refusal.Write h = tt
  refused-own (refusal.Store f) h = tt
  refused-own (refusal.Car number place) h = tt
  refused-own (refusal.CarLacks cid) h = absurd h
  refused-own (refusal.OwnClash cid first second) h = h

-- a failed writing blames none
pub cut-own : (X : List ℕ → List ℕ) (left : streams.Told) (a b : Seen) (text : List ℕ) (h h2 : streams.Told) (w v : ℕ) (r : Result (Unit {0}) Refusal) → Prints text r h h2 w v → IfErr r (ByOwnStore X OfTree left a b)
cut-own X left a b text h h2 w v (Ok done) p = tt
cut-own X left a b text h h2 w v (Err why) p = subst (ByOwnStore X OfTree left a b) (sym p.write) tt

module _ (X : List ℕ → List ℕ) (N : List ℕ → ℕ) (n seed : ℕ) (s : Seen) (l : streams.Told) (i t : ℕ) (h : streams.Told) (w : ℕ) (side : HostSide) (er er2 : SinkSide) where
  abbrev Says : Refusal → Type 0
  Says why = (why ≡ no_memory) ⊎ (Err why ≡ generated_ends X N n seed)

  -- ---- what every refusal of `gen` has

  record IsOfGenerating (why : Refusal) : Type 0 where
    kinds : may_meet gen_kinds (refusal_kind why) ≡ true
    other : refusal_kind why ≢ OfWrite
    unread : is_read {A = Unit {0}} (Err why) ≡ false
    blames : IsBlaming (fault_behind why) → ⊥
    cause : Shown X (IsBadIn X N s.told s.told) (fault_behind why) s s
    says : MetNone (Ok (Gen n seed)) (status_of why) → Says why

  wants-memory : IsOfGenerating no_memory
  wants-memory = record {
    kinds = refl;
    other = λ e. cc;
    unread = refl;
    blames = λ b. b;
    cause = calm-memory s s (StaysCalm-refl s);
    says = λ none. inl refl;
  }

  of-generating : (why : Refusal) → IsGenerated X N n seed (Err why) → IsOfGenerating why
  of-generating (refusal.Rule rule) g = record {
    kinds = refl;
    other = λ e. cc;
    unread = refl;
    blames = λ b. b;
    cause = StaysCalm-refl s;
    says = λ none. inr g;
  }
  of-generating (refusal.Dag rule) g = absurd g
  of-generating (refusal.Host rule) g = absurd g
  of-generating (refusal.BadPath why) g = absurd g
  of-generating refusal.InputTooLong g = absurd g
  of-generating refusal.BadPins g = absurd g
  of-generating refusal.Usage g = absurd g
  of-generating (refusal.Ready why) g = absurd g
  of-generating refusal.Read g = absurd g
  of-generating refusal.Write g = absurd g
  of-generating (refusal.Store f) g = subst (λ (f : StoreFault). IsOfGenerating (refusal.Store f)) (sym g) wants-memory
  of-generating (refusal.Car number place) g = absurd g
  of-generating (refusal.CarLacks c) g = absurd g
  of-generating (refusal.OwnClash c first second) g = record {
    kinds = refl;
    other = λ e. cc;
    unread = refl;
    blames = λ b. b;
    cause = StaysCalm-refl s;
    says = λ none. absurd (none refl refl);
  }

  pub ungenerated-does : (why : Refusal) → IsGenerated X N n seed (Err why) → Does X N (Gen n seed) (Err why) (around s l i h w t side er) (around s l i h w t side er2)
  ungenerated-does why g =
      let of = of-generating why g in
      let quiet = quiet-of (IsTextOf X N s.told s.told side.told (Gen n seed) l) false why of.other in
      record {
        answers = λ world finds input calm. answered world finds (of.says calm.own);
        lost = λ p es rows held outside named tells heights input calm. over p es held outside named (of.says calm.own);
        unprinted = λ world after. absurd cc;
        unprinted_over = λ p es held outside after. absurd cc;
        prefix = λ world finds input room. nothing-printed (reply X N (Gen n seed) world).ends h h refl;
        prints = quiet.prints h h (else-same false h);
        kinds = may-end (Gen n seed) why of.kinds;
        ready = ready why g;
        long = tt;
        reads = subst (λ u. Counts u i i) (sym of.unread) (counts-still i);
        host = refl;
        gets = tt;
        pins = tt;
        kept = tt;
        writes = subst (λ f. RisesFor f w w) (sym quiet.unwritten) (rises-still w);
        cause = of.cause;
        whole = λ s needs stands calm. absurd cc;
        touches = λ p es bytes rows named input heights calm. omega arith;
        touched = λ blames. absurd (of.blames blames);
        unready = λ e is. absurd cc;
        unplaced = λ p es names stood none. absurd none;
        leaves = record { head = refl; writes = refl; idle = λ p es bytes stands calm is. absurd cc };
      }
    where
      ready : (why : Refusal) → IsGenerated X N n seed (Err why) → IsReadyBy s.told (Gen n seed) why
      ready (refusal.Rule rule) g = tt
      ready (refusal.Dag rule) g = tt
      ready (refusal.Host rule) g = tt
      ready (refusal.BadPath path) g = tt
      ready refusal.InputTooLong g = tt
      ready refusal.BadPins g = tt
      ready refusal.Usage g = tt
      ready (refusal.Ready reason) g = absurd g
      ready refusal.Read g = tt
      ready refusal.Write g = tt
      ready (refusal.Store f) g = tt
      ready (refusal.Car number place) g = tt
      ready (refusal.CarLacks cid) g = tt
      ready (refusal.OwnClash cid first second) g = tt

      answered : (world : World) → FindsWorld X N (Ok (Gen n seed)) s.told world → Says why → DoesAnswer X N (Gen n seed) world (Err why) h h s.told side.told
      answered world finds (inl e) = inl (record { ends_are = ap (λ (r : Refusal). Err r) e; stands = finds.stands })
      answered world finds (inr e) = inr (record { ends = subst (λ x. EndsBy x (Err why) h h) e (refl, refl); stands = finds.stands; blocks = tells-some s.told world.held finds.held }, tt)

      over : (p : Profile) (es : Entries) (held : Lookup) (outside : Outside) → StaysNamed X N s.told s.told p es → Says why
          → DoesOver X N s.told s.told p es [] (reply X N (Gen n seed) (in_world p es held outside)) (Err why) h h
      over p es held outside named (inl e) = inl (record { fault = fault.Memory; ends_are = ap (λ (r : Refusal). Err r) e; loss = tt; stands = names-same X N s.told s.told p es refl named })
      over p es held outside named (inr e) = inr (record { ends = subst (λ x. EndsBy x (Err why) h h) e (refl, refl); stands = names-same X N s.told s.told p es refl named })

  -- ---- its text is printed

  module _ (text : List ℕ) (g : IsGenerated X N n seed (Ok text)) (h2 : streams.Told) (v : ℕ) where
    printed : h2 ≡ after h text → Counts false w v → Does X N (Gen n seed) (Ok tt) (around s l i h w t side er) (around s l i h2 v t side er2)
    printed is counts = record {
      answers = λ world finds input calm. answered world finds;
      lost = λ p es rows held outside named tells heights input calm. over p es held outside named;
      unprinted = λ world after. absurd cc;
      unprinted_over = λ p es held outside after. absurd cc;
      prefix = λ world finds input room. subst (λ e. PrintsPart e h h2) g (whole-printed text h h2 is);
      prints = (text, g, is);
      kinds = tt;
      ready = tt;
      long = tt;
      reads = counts-still i;
      host = refl;
      gets = tt;
      pins = tt;
      kept = tt;
      writes = record { rose = counts.rose; still = counts.still };
      cause = StaysCalm-refl s;
      whole = λ s needs stands calm. absurd cc;
      touches = λ p es bytes rows named input heights calm. omega arith;
      touched = λ blames. absurd blames;
      unready = λ e is. absurd cc;
      unplaced = λ p es names stood none. absurd none;
      leaves = record { head = tt; writes = refl; idle = λ p es bytes stands calm is. absurd cc };
    }
      where
        answered : (world : World) → FindsWorld X N (Ok (Gen n seed)) s.told world → DoesAnswer X N (Gen n seed) world (Ok tt) h h2 s.told side.told
        answered world finds = inr (record { ends = subst (λ x. EndsBy x (Ok tt) h h2) g (refl, is); stands = finds.stands; blocks = tells-some s.told world.held finds.held }, tt)

        over : (p : Profile) (es : Entries) (held : Lookup) (outside : Outside) → StaysNamed X N s.told s.told p es
            → DoesOver X N s.told s.told p es [] (reply X N (Gen n seed) (in_world p es held outside)) (Ok tt) h h2
        over p es held outside named = inr (record { ends = subst (λ x. EndsBy x (Ok tt) h h2) g (refl, is); stands = names-same X N s.told s.told p es refl named })

    cut : IsCut text refusal.Write h h2 w v → Does X N (Gen n seed) (Err refusal.Write) (around s l i h w t side er) (around s l i h2 v t side er2)
    cut c = record {
      answers = λ world finds input calm. absurd (not-rose w v (c.counts.rose refl) calm.written.output);
      lost = λ p es rows held outside named tells heights input calm. absurd (not-rose w v (c.counts.rose refl) calm.written.output);
      unprinted = λ world after. absurd cc;
      unprinted_over = λ p es held outside after. absurd cc;
      prefix = λ world finds input room. subst (λ e. PrintsPart e h h2) g c.printed;
      prints = (text, g, c.printed);
      kinds = refl;
      ready = tt;
      long = tt;
      reads = counts-still i;
      host = refl;
      gets = tt;
      pins = tt;
      kept = tt;
      writes = record { rose = c.counts.rose; still = c.counts.still };
      cause = StaysCalm-refl s;
      whole = λ s needs stands calm. absurd cc;
      touches = λ p es bytes rows named input heights calm. omega arith;
      touched = λ blames. absurd blames;
      unready = λ e is. absurd cc;
      unplaced = λ p es names stood none. absurd none;
      leaves = record { head = refl; writes = refl; idle = λ p es bytes stands calm is. absurd cc };
    }

    -- or the output failed
    pub generated-does : (r : Result (Unit {0}) Refusal) → Prints text r h h2 w v → Does X N (Gen n seed) r (around s l i h w t side er) (around s l i h2 v t side er2)
    generated-does (Ok done) p = printed p.0 p.1
    generated-does (Err why) c =
        let e = c.write in
        subst (λ (r : Refusal). Does X N (Gen n seed) (Err r) (around s l i h w t side er) (around s l i h2 v t side er2)) (sym e) (cut (subst (λ (r : Refusal). IsCut text r h h2 w v) e c))
