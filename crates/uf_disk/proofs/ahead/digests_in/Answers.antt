use Rattle.std.proofs.Common.{◌≡◌, ℕ, ◌*◌, ◌<◌, ◌≤◌, List, [], length, length-take-le, take, drop, replicate, sym, ap, ◌∙◌, arith, slice_index}
use Rattle.std.proofs.lemmas.List.{get_or-take, get_or_append_left}
use Rattle.uf_cid.specs.Bytes.{piece}
use Rattle.uf_disk.proofs.Pieces.{block_in_front}
use Rattle.uf_disk.proofs.ahead.digests_in.Goals as goal

pub returns : goal.returns
returns g c =
    let lengths = c.args.pieces.now.lengths in
    let count = c.args.lanes in
    let size = c.args.pieces.now.size in
    let buffer = c.args.bytes.now in
    let front = c.block32_apart.new.bytes in
    let blank : List (List ℕ) = replicate 8 (replicate 32 0) in
    let long : length front ≡ count * size = c.block32_apart.auto.bytes ∙ length-take-le (count * size) buffer c.requires.inside in
    record {
      digests = λ k lt.
          let early : k < count = omega (arith, c.requires.all) in
          let inside : k < length (take count blank) = omega (arith, length-take-le count blank c.requires.most) in
          let same : slice_index (take count lengths) k ≡ slice_index lengths k = get_or-take count lengths k 0 early in
          let short : slice_index lengths k ≤ size = omega (arith, c.args.pieces.now.room k (omega (arith, c.requires.most))) in
          get_or_append_left c.block32_apart.new.out _ [] k (omega (arith, c.block32_apart.auto.out))
          ∙ c.block32_apart.ensures.digests k inside
          ∙ ap g.X.BlockHash.block32 (sym (c.block32_apart.ensures.kept k inside)
          ∙ ap (λ n. take n (piece front size k)) same
          ∙ sym (block_in_front front (drop (count * size) buffer) lengths size count k long early short));
    }
