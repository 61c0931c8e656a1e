use Rattle.std.proofs.Common.{map}
use Rattle.std.specs.Prelude.{string_bytes}
use Rattle.uf_words.proofs.LinePieces.{SplitTo}
use Rattle.uf_words.proofs.splitting.split_line.Given as goal

abbrev pub invariant-loop-piece : goal.invariant-loop-piece
invariant-loop-piece l = SplitTo (map (λ piece. piece.now) l.piece-items) (map string_bytes l.words.items) l.piece-index
