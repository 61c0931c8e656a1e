use Rattle.std.proofs.Common.{◌≡◌, ℕ, List, Some, Err, subst, sym}
use Rattle.uf_edge.specs.Counts.{Counts}
use Rattle.uf_host.specs.Getting as export
use Rattle.uf_host.specs.Paths.{trimmed}
use Rattle.uf_host.specs.Places.{ChangesAt}
use Rattle.uf_command.specs.Dags.{usual_limits}
use Rattle.uf_store.specs.Contents.{Contents, held_at}
use Rattle.uf_top.specs.Getting.{IsUnwritten}
use Rattle.uf_top.proofs.Gotten.{as-of, unwritten-gets}
use Rattle.uf_top.proofs.commands.get.get_under.Goals as goal

pub returns-in-Err : goal.returns-in-Err
returns-in-Err g c =
    let source = c.args.path.now in let path = c.args.host_path.now in let f = c.in-Err.fault in let why = c.unwritten.result in let e = c.in-Err.ensures in
    let is = subst (λ (p : List ℕ). IsUnwritten source p f why) c.in_ok-given.ensures c.unwritten.ensures in
    let so = as-of source path f why is g.S.X.BlockHash.block32 (g.S.Store.seen c.args.store.now) (g.S.Store.seen c.get.new.store) e.faults in
    let store = (g.S.Store.seen c.args.store.now).told in let told = g.W.Host.tree c.args.host.now in let now = g.W.Host.tree c.get.new.host in
    let gets = subst (λ (p : List ℕ). (t : Contents) → store ≡ Some t → export.Gets (held_at t) usual_limits c.args.cid.now (trimmed p) told now (Err f)) c.as_str.ensures e.gets in
    record {
      gets = unwritten-gets source path f why is store c.args.cid.now told now gets;
      below = subst (λ (p : List ℕ). ChangesAt (trimmed p) told now) c.as_str.ensures e.below;
      refuses = so.kind;
      host_reads = subst (λ b. Counts b (g.W.Host.read_faults c.args.host.now) (g.W.Host.read_faults c.get.new.host)) (sym so.unread) e.reads;
      host_writes = subst (λ b. Counts b (g.W.Host.write_faults c.args.host.now) (g.W.Host.write_faults c.get.new.host)) (sym so.unwritten) e.writes;
      reads = record { cause = so.shown e.cause; told = e.told };
    }
