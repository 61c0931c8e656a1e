use Rattle.std.proofs.Common.{Some, ap, sym, true}
use Rattle.uf_store.specs.Contents.{Contents}
use Rattle.uf_store.specs.InMemory.{contents_of, memory_seen}
use Rattle.uf_store.proofs.Relisting.{part-all, relisted}
use Rattle.uf_store.proofs.memory.MemStore.relist.Goals as goal

pub returns-clause-ok : goal.returns-clause-ok
returns-clause-ok g c =
    let t : Contents = contents_of c.args.self.now in
    ap (λ (u : Contents). record (memory_seen c.args.self.now) { told = Some u })
    (relisted (λ cid. true) t t.held _ _ (sym (part-all t.held)) c.deref.ensures.value c.in_ok-writes.ensures)
