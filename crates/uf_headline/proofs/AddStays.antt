-- What an `add` has printed, and no stop takes away.
use Rattle.std.proofs.Common.{◌≡◌, ℕ, ◌<◌, ◌≤◌, List, Bool, false, arith, refl, sym, subst, inl, inr, None, Some, Ok}
use Rattle.std.proofs.lemmas.Bool.{cases_lt}
use Rattle.std.specs.FinMap.{empty}
use Rattle.std.specs.Prelude.{◌⊎◌}
use Rattle.uf_car.specs.Reading.{car_read}
use Rattle.uf_cid.specs.Blocks.{Holds}
use Rattle.uf_edge.specs.Counts.{Stood}
use Rattle.uf_mfs.specs.Reading.{CanRise}
use Rattle.uf_mfs.specs.Standing.{TellsHeld}
use Rattle.uf_store.specs.Contents.{Contents, Told, held_at}
use Rattle.uf_store.specs.Stops.{IsPlain}
use Rattle.uf_tree.specs.FilePlan.{file_plan}
use Rattle.uf_tree.specs.Metas.{none}
use Rattle.uf_tree.specs.Standing.{NoHead}
use Rattle.uf_tree.specs.TreePlan.{blocks}
use Rattle.uf_command.specs.declared.status.Status.TheVariants as status
use Rattle.uf_command.specs.declared.types.Command.{Command}
use Rattle.uf_command.specs.Cars.{most_car}
use Rattle.uf_command.specs.declared.types.Command.TheVariants.{Add, Import}
use Rattle.uf_command.specs.declared.types.Adding.TheVariants as adding
use Rattle.uf_headline.specs.Added.{EachHolds, KeepsHosted, KeepsInput}
use Rattle.uf_top.specs.Around.{Around, CountsCanRise, HasOutside, StaysQuiet}
use Rattle.uf_top.specs.Endings.{EndsAs, IsTextOf, PrintsAt}
use Rattle.uf_top.specs.Naming.{FindsWorld}
use Rattle.uf_top.specs.Reply.{World, outside_of, world_of}
use Rattle.uf_top.specs.Running.{Runs}
use Rattle.uf_top.specs.Shapes.{SyncsAfter}
use Rattle.uf_headline.proofs.Stopped.{add-stops}

module _ (X : List ℕ → List ℕ) (N : List ℕ → ℕ) (before now : Around) (a b : Contents) (was : before.store.told ≡ Some a) (is : now.store.told ≡ Some b) (plain : IsPlain a) where
  -- what was printed, over these contents
  abbrev Printed : Command → Type 0
  Printed command = PrintsAt (IsTextOf X N (Some a) (Some b) before.host.told command before.left) false status.Ok before.held now.held

  printed : (command : Command) → PrintsAt (IsTextOf X N before.store.told now.store.told before.host.told command before.left) false status.Ok before.held now.held → Printed command
  printed command h =
      subst (λ (told : Told). PrintsAt (IsTextOf X N (Some a) told before.host.told command before.left) false status.Ok before.held now.held) is
      (subst (λ (told : Told). PrintsAt (IsTextOf X N told now.store.told before.host.told command before.left) false status.Ok before.held now.held) was h)

  synced : SyncsAfter X before.store.told now.store.told → SyncsAfter X (Some a) (Some b)
  synced h = subst (λ (told : Told). SyncsAfter X (Some a) told) is (subst (λ (told : Told). SyncsAfter X told now.store.told) was h)

  pub input-stays : Runs X N (Ok (Add (adding.Input false))) status.Ok before now → KeepsInput X before now a b
  input-stays runs =
      let p = printed (Add (adding.Input false)) runs.printed.text in
      record {
        text = p.0;
        row = p.1;
        printed = p.2;
        stays = add-stops X a b (file_plan X p.1.profile none p.1.bytes).blocks plain (synced runs.left.writes) p.1.held;
      }

  pub hosted-stays : (recursive : Bool) (path : List ℕ) → Runs X N (Ok (Add (adding.Host recursive false path))) status.Ok before now → KeepsHosted X N recursive path before now a b
  hosted-stays recursive path runs =
      let p = printed (Add (adding.Host recursive false path)) runs.printed.text in
      record {
        text = p.0;
        rows = p.1;
        printed = p.2;
        stays = add-stops X a b (blocks X N p.1.profile p.1.tree) plain (synced runs.left.writes) p.1.held;
      }

  -- a count that would have an answer of its own stood
  stood : (i j : ℕ) → CanRise i → (i < j → ⊥) → Stood i j
  stood i j room never = by (cases_lt i j)
    where
      by : (i < j) ⊎ (j ≤ i) → Stood i j
      by (inl less) = absurd (never less)
      by (inr few) = omega (arith, few, room)

  pub import-stays : (bytes : List ℕ) → before.left ≡ Some bytes → CountsCanRise before.store → CanRise before.reads → CanRise before.writes → Runs X N (Ok Import) status.Ok before now → EachHolds (car_read X most_car bytes).sections b.writes
  import-stays bytes left room reads writes runs = add-stops X a b (car_read X most_car bytes).sections plain (synced runs.left.writes) (held (runs.replies world finds outside quiet))
    where
      world : World
      world = world_of NoHead (held_at a) (record { input = bytes; host = empty; pins = None })

      finds : FindsWorld X N (Ok Import) before.store.told world
      finds = subst (λ (told : Told). FindsWorld X N (Ok Import) told world) (sym was) (record { stands = refl; held = refl })

      outside : HasOutside (Ok Import) (outside_of world) before now
      outside = (λ asks. (left, stood before.reads now.reads reads (λ less. let e = runs.faults.reads (inl less) in cc)), λ uses. absurd cc, λ uses. absurd cc)

      quiet : StaysQuiet (Ok Import) status.Ok before now
      quiet = record {
        store = record {
          faults = stood before.store.faults now.store.faults room.faults (λ less. let e = runs.faults.store less in cc);
          clashes = stood before.store.clashes now.store.clashes room.clashes (λ less. clashed (runs.faults.clashes less));
        };
        written = record { output = stood before.writes now.writes writes (λ less. let e = runs.faults.writes (inl less) in cc); host = λ asks. absurd cc };
        own = λ asks. absurd cc;
      }
        where
          clashed : (status.Ok ≡ status.Clash) ⊎ (status.Ok ≡ status.Memory) → ⊥
          clashed (inl e) = cc
          clashed (inr e) = cc

      held : EndsAs X N (Ok Import) world status.Ok before now → Holds (held_at b) (car_read X most_car bytes).sections
      held (inl wants) = absurd (let e = wants.status_is in cc)
      held (inr replies) = subst (λ (told : Told). TellsHeld told (car_read X most_car bytes).sections) is replies.0.blocks
