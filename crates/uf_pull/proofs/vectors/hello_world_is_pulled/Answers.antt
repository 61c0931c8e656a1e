use Rattle.std.proofs.Common.{refl}
use Rattle.std.specs.Str.{chars, is_utf8}
use Rattle.sha2.specs.Sha256.{sha256, compress, rounds, hash_after, digest_bytes, schedule, first_words}
use Rattle.uf_varint.specs.Varint.{multi_within, read_multi_of, varint, varint_within}
use Rattle.uf_cid.specs.Base32.{base32}
use Rattle.uf_cid.specs.Read.{cid_at, cid_of_text}
use Rattle.uf_lines.specs.LinesIn.{lines_from}
use Rattle.uf_walk.specs.Order.{visit}
use Rattle.uf_pull.specs.Due.{answer_to, due_within}
use Rattle.uf_pull.specs.Frames.{begins, frames_within}
use Rattle.uf_pull.specs.Wants.{ask_of, asked_from}
use Rattle.uf_pull.proofs.vectors.hello_world_is_pulled.Goals as goal

pub returns-clause-pulled : goal.returns-clause-pulled
unfolding sha256 compress rounds hash_after digest_bytes schedule first_words is_utf8 chars varint varint_within multi_within read_multi_of cid_at cid_of_text base32 visit answer_to due_within begins frames_within lines_from ask_of asked_from
returns-clause-pulled c = refl

pub returns-clause-text : goal.returns-clause-text
unfolding sha256 compress rounds hash_after digest_bytes schedule first_words is_utf8 chars varint varint_within multi_within read_multi_of cid_at cid_of_text base32 visit answer_to due_within begins frames_within lines_from ask_of asked_from
returns-clause-text c = refl

pub returns-clause-again : goal.returns-clause-again
unfolding sha256 compress rounds hash_after digest_bytes schedule first_words is_utf8 chars varint varint_within multi_within read_multi_of cid_at cid_of_text base32 visit answer_to due_within begins frames_within lines_from ask_of asked_from
returns-clause-again c = refl
