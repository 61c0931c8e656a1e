use Rattle.std.proofs.Common.{refl}
use Rattle.std.specs.Str.{chars, is_utf8}
use Rattle.std.specs.Str.Lossy.{utf8_valid_len}
use lib.Utf8.{encode}
use Rattle.uf_cid.specs.Read.{cid_at}
use Rattle.uf_dagpb.specs.Reading.{link_fault, node_fault, node_reads}
use Rattle.uf_message.specs.Reading.{message_reads, mtime_reads, run, run_within}
use Rattle.uf_varint.specs.Fields.{bytes_at, content_at, fields, fields_within, number_at, piece_at}
use Rattle.uf_varint.specs.Varint.{proto_within, read_proto_of}
use Rattle.uf_lenient.specs.Reading.{file_under, gathered, part_bytes, sub_ways, tree_within}
use Rattle.uf_lenient.specs.Unixfs.{unixfs_of}
use Rattle.uf_lenient.proofs.rows.files_are_of_files.Goals as goal

pub returns-clause-directory : goal.returns-clause-directory
unfolding tree_within file_under gathered sub_ways part_bytes unixfs_of node_reads node_fault link_fault message_reads run run_within mtime_reads fields fields_within content_at bytes_at piece_at number_at read_proto_of proto_within cid_at is_utf8 chars utf8_valid_len encode
returns-clause-directory c = refl

pub returns-clause-symlink : goal.returns-clause-symlink
unfolding tree_within file_under gathered sub_ways part_bytes unixfs_of node_reads node_fault link_fault message_reads run run_within mtime_reads fields fields_within content_at bytes_at piece_at number_at read_proto_of proto_within cid_at is_utf8 chars utf8_valid_len encode
returns-clause-symlink c = refl

pub returns-clause-shard : goal.returns-clause-shard
unfolding tree_within file_under gathered sub_ways part_bytes unixfs_of node_reads node_fault link_fault message_reads run run_within mtime_reads fields fields_within content_at bytes_at piece_at number_at read_proto_of proto_within cid_at is_utf8 chars utf8_valid_len encode
returns-clause-shard c = refl

pub returns-clause-first : goal.returns-clause-first
unfolding tree_within file_under gathered sub_ways part_bytes unixfs_of node_reads node_fault link_fault message_reads run run_within mtime_reads fields fields_within content_at bytes_at piece_at number_at read_proto_of proto_within cid_at is_utf8 chars utf8_valid_len encode
returns-clause-first c = refl

pub returns-clause-start : goal.returns-clause-start
unfolding tree_within file_under gathered sub_ways part_bytes unixfs_of node_reads node_fault link_fault message_reads run run_within mtime_reads fields fields_within content_at bytes_at piece_at number_at read_proto_of proto_within cid_at is_utf8 chars utf8_valid_len encode
returns-clause-start c = refl

pub returns-clause-shard_start : goal.returns-clause-shard_start
unfolding tree_within file_under gathered sub_ways part_bytes unixfs_of node_reads node_fault link_fault message_reads run run_within mtime_reads fields fields_within content_at bytes_at piece_at number_at read_proto_of proto_within cid_at is_utf8 chars utf8_valid_len encode
returns-clause-shard_start c = refl

pub returns-clause-symlink_start : goal.returns-clause-symlink_start
unfolding tree_within file_under gathered sub_ways part_bytes unixfs_of node_reads node_fault link_fault message_reads run run_within mtime_reads fields fields_within content_at bytes_at piece_at number_at read_proto_of proto_within cid_at is_utf8 chars utf8_valid_len encode
returns-clause-symlink_start c = refl
