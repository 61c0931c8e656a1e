use Rattle.std.proofs.Common.{arith, refl, rules}
use Rattle.uf_disk.proofs.Swept.{fails-to-drop}
use Rattle.uf_disk.proofs.store.DiskStoreSweep.sweep.Goals as goal

pub returns-in-Err-Failed : goal.returns-in-Err-Failed
returns-in-Err-Failed g c = record {
  swept = fails-to-drop c.args.kept.now _ _ refl refl c.forget.ensures refl refl refl c.saturating_add-self.ensures (grind (arith, rules));
}
