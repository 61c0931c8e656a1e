use Rattle.std.proofs.Common.{◌≡◌, ap, arith, ◌∙◌}
use Rattle.std.specs.FinMap.{from_entries, len}
use Rattle.uf_cid.specs.Cid.{cid_cmp}
use Rattle.uf_store.specs.Contents.{HeldMap}
use Rattle.uf_store.specs.Sweeping.{is_among, part_of}
use Rattle.uf_store.proofs.Relisting.{part-few}
use Rattle.uf_store.proofs.memory.MemStore.leave.Goals as goal

pub overflow_sub-dropped : goal.overflow_sub-dropped
overflow_sub-dropped g c =
    let held : HeldMap = from_entries {R = cid_cmp} c.args.self.now.blocks.blocks.entries in
    let few = part-few held (is_among c.args.kept.now) in
    let left : c.len-2.result ≡ len (part_of held (is_among c.args.kept.now)) = c.len-2.ensures ∙ ap len c.in_ok-blocks.ensures in
    let all : c.len.result ≡ len held = c.len.ensures in
    omega (arith, few, left, all)

pub returns-clause-count : goal.returns-clause-count
returns-clause-count g c =
    let held : HeldMap = from_entries {R = cid_cmp} c.args.self.now.blocks.blocks.entries in
    let few = part-few held (is_among c.args.kept.now) in
    let left : c.len-2.result ≡ len (part_of held (is_among c.args.kept.now)) = c.len-2.ensures ∙ ap len c.in_ok-blocks.ensures in
    let all : c.len.result ≡ len held = c.len.ensures in
    omega (arith, few, left, all)
