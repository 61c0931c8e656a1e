use Rattle.std.proofs.Common.{refl}
use Rattle.std.specs.Str.{chars, is_utf8}
use Rattle.std.specs.Str.Lossy.{utf8_valid_len}
use lib.Utf8.{encode}
use Rattle.uf_cid.specs.Read.{cid_at}
use Rattle.uf_dagpb.specs.Reading.{link_fault, node_fault, node_reads}
use Rattle.uf_message.specs.Reading.{message_reads, mtime_reads, run, run_within}
use Rattle.uf_varint.specs.Fields.{bytes_at, content_at, fields, fields_within, number_at, piece_at}
use Rattle.uf_varint.specs.Varint.{proto_within, read_proto_of}
use Rattle.uf_lenient.specs.Reading.{file_under, gathered, part_bytes, sub_ways, tree_within}
use Rattle.uf_lenient.specs.Unixfs.{unixfs_of}
use Rattle.uf_lenient.proofs.rows.shards_are_read_in_place.Goals as goal

pub returns-clause-names : goal.returns-clause-names
unfolding tree_within file_under gathered sub_ways part_bytes unixfs_of node_reads node_fault link_fault message_reads run run_within mtime_reads fields fields_within content_at bytes_at piece_at number_at read_proto_of proto_within cid_at is_utf8 chars utf8_valid_len encode
returns-clause-names c = refl

pub returns-clause-tree : goal.returns-clause-tree
unfolding tree_within file_under gathered sub_ways part_bytes unixfs_of node_reads node_fault link_fault message_reads run run_within mtime_reads fields fields_within content_at bytes_at piece_at number_at read_proto_of proto_within cid_at is_utf8 chars utf8_valid_len encode
returns-clause-tree c = refl

pub returns-clause-depth : goal.returns-clause-depth
unfolding tree_within file_under gathered sub_ways part_bytes unixfs_of node_reads node_fault link_fault message_reads run run_within mtime_reads fields fields_within content_at bytes_at piece_at number_at read_proto_of proto_within cid_at is_utf8 chars utf8_valid_len encode
returns-clause-depth c = refl

pub returns-clause-visits : goal.returns-clause-visits
unfolding tree_within file_under gathered sub_ways part_bytes unixfs_of node_reads node_fault link_fault message_reads run run_within mtime_reads fields fields_within content_at bytes_at piece_at number_at read_proto_of proto_within cid_at is_utf8 chars utf8_valid_len encode
returns-clause-visits c = refl

pub returns-clause-lost : goal.returns-clause-lost
unfolding tree_within file_under gathered sub_ways part_bytes unixfs_of node_reads node_fault link_fault message_reads run run_within mtime_reads fields fields_within content_at bytes_at piece_at number_at read_proto_of proto_within cid_at is_utf8 chars utf8_valid_len encode
returns-clause-lost c = refl

pub returns-clause-twice : goal.returns-clause-twice
unfolding tree_within file_under gathered sub_ways part_bytes unixfs_of node_reads node_fault link_fault message_reads run run_within mtime_reads fields fields_within content_at bytes_at piece_at number_at read_proto_of proto_within cid_at is_utf8 chars utf8_valid_len encode
returns-clause-twice c = refl

pub returns-clause-twice_below : goal.returns-clause-twice_below
unfolding tree_within file_under gathered sub_ways part_bytes unixfs_of node_reads node_fault link_fault message_reads run run_within mtime_reads fields fields_within content_at bytes_at piece_at number_at read_proto_of proto_within cid_at is_utf8 chars utf8_valid_len encode
returns-clause-twice_below c = refl

pub returns-clause-digits : goal.returns-clause-digits
unfolding tree_within file_under gathered sub_ways part_bytes unixfs_of node_reads node_fault link_fault message_reads run run_within mtime_reads fields fields_within content_at bytes_at piece_at number_at read_proto_of proto_within cid_at is_utf8 chars utf8_valid_len encode
returns-clause-digits c = refl

pub returns-clause-bad : goal.returns-clause-bad
unfolding tree_within file_under gathered sub_ways part_bytes unixfs_of node_reads node_fault link_fault message_reads run run_within mtime_reads fields fields_within content_at bytes_at piece_at number_at read_proto_of proto_within cid_at is_utf8 chars utf8_valid_len encode
returns-clause-bad c = refl

pub returns-clause-over_raw : goal.returns-clause-over_raw
unfolding tree_within file_under gathered sub_ways part_bytes unixfs_of node_reads node_fault link_fault message_reads run run_within mtime_reads fields fields_within content_at bytes_at piece_at number_at read_proto_of proto_within cid_at is_utf8 chars utf8_valid_len encode
returns-clause-over_raw c = refl

pub returns-clause-over_directory : goal.returns-clause-over_directory
unfolding tree_within file_under gathered sub_ways part_bytes unixfs_of node_reads node_fault link_fault message_reads run run_within mtime_reads fields fields_within content_at bytes_at piece_at number_at read_proto_of proto_within cid_at is_utf8 chars utf8_valid_len encode
returns-clause-over_directory c = refl

pub returns-clause-over_other : goal.returns-clause-over_other
unfolding tree_within file_under gathered sub_ways part_bytes unixfs_of node_reads node_fault link_fault message_reads run run_within mtime_reads fields fields_within content_at bytes_at piece_at number_at read_proto_of proto_within cid_at is_utf8 chars utf8_valid_len encode
returns-clause-over_other c = refl

pub returns-clause-over_symlink : goal.returns-clause-over_symlink
unfolding tree_within file_under gathered sub_ways part_bytes unixfs_of node_reads node_fault link_fault message_reads run run_within mtime_reads fields fields_within content_at bytes_at piece_at number_at read_proto_of proto_within cid_at is_utf8 chars utf8_valid_len encode
returns-clause-over_symlink c = refl
