use Rattle.std.proofs.Common.{ℕ, List, ◌++◌, ap, sym, ◌∙◌}
use Rattle.uf_cache.proofs.Finding.{put_or_left, where_ok}
use Rattle.uf_cache.proofs.keep.put.Goals as goal

pub returns-then-is_ok : goal.returns-then-is_ok
returns-then-is_ok c =
    let added = where_ok c.extend.result (sym c.is_ok.ensures.value ∙ c.if-is_ok.true) c.extend.ensures.ok in
    let block_is = added ∙ ap (λ (b : List ℕ). b ++ c.args.bytes.now) c.new-block.ensures in
    let put = c.put.ensures in
    put_or_left _ _ _ _ _ c.args.cid.now c.put.result c.to_binary.ensures block_is put.entries put.err
