use Rattle.std.proofs.Common.{◌≡◌, ◌∙◌, ap, sym, subst, refl, OnOk, Some}
use Rattle.uf_store.specs.declared.store.Write.{Write}
use Rattle.uf_store.specs.declared.store.Write.TheVariants.{Synced}
use Rattle.uf_store.specs.Contents.{Contents, changed}
use Rattle.uf_store.specs.InMemory.{failures_of, memory_seen, new_seen}
use Rattle.uf_store.specs.Seen.{Seen}
use Rattle.uf_store.specs.Stops.{with_write}
use Rattle.uf_store.proofs.Stopping.{stopped, survivors-else, survivors-then}
use Rattle.uf_store.proofs.memory.MemStore.redo_survivors.Goals as goal
use Rattle.uf_store.proofs.memory.MemStore.redo_survivors.Goals.{then-survives+in_ok-redo, else-survives}

-- what is seen after one write more
abbrev seen_with : Write → Seen → Seen
seen_with w x = record x { told = changed (with_write w) x.told }

-- what is seen of a store that was made of these contents
abbrev made_of : Contents → Seen
made_of t = record new_seen { told = Some t }

pub loop-place-init : goal.loop-place-init
loop-place-init g c = (c.requires, refl)

pub loop-place-preserved : goal.loop-place-preserved
loop-place-preserved g c = elim c.if-survives.branch [
  | then-survives+in_ok-redo w ↦ (
    ap memory_seen w.self-is
        ∙ w.in_ok-redo.ensures.ok
        ∙ ap (seen_with c.index-writes-place.result) c.loop-place.invariant.0
        ∙ ap made_of (survivors-then _ _ _ c.loop-place-test.true c.index-writes-place.is c.args.lost.now c.behind_sync-firm.result (sym c.survives.ensures ∙ w.if-survives.true)),
    ap failures_of w.self-is ∙ w.in_ok-redo.ensures.failures ∙ c.loop-place.invariant.1,
  )
  | else-survives w ↦ (
    ap memory_seen w.self-is
        ∙ c.loop-place.invariant.0
        ∙ ap made_of (survivors-else _ _ _ c.loop-place-test.true c.index-writes-place.is c.args.lost.now c.behind_sync-firm.result (sym c.survives.ensures ∙ w.if-survives.false)),
    ap failures_of w.self-is ∙ c.loop-place.invariant.1,
  )
]

pub returns-clause-ok : goal.returns-clause-ok
returns-clause-ok g c =
    subst (λ (seen : Seen). OnOk c.redo-2.result (memory_seen c.redo-2.new.self ≡ seen))
    (ap (seen_with Synced) c.loop-place.invariant.0
    ∙ ap made_of (stopped c.args.lost.now c.behind_sync-firm.result c.loop-place.place c.args.writes.now c.args.writes.now c.loop-place.auto.place-end c.loop-place-test.false refl c.behind_sync-firm.ensures))
    c.redo-2.ensures.ok
