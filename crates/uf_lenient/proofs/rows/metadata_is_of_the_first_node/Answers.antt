use Rattle.std.proofs.Common.{refl}
use Rattle.std.specs.Str.{chars, is_utf8}
use Rattle.std.specs.Str.Lossy.{utf8_valid_len}
use lib.Utf8.{encode}
use Rattle.uf_cid.specs.Read.{cid_at}
use Rattle.uf_dagpb.specs.Reading.{link_fault, node_fault, node_reads}
use Rattle.uf_message.specs.Reading.{message_reads, mtime_reads, run, run_within}
use Rattle.uf_varint.specs.Fields.{bytes_at, content_at, fields, fields_within, number_at, piece_at}
use Rattle.uf_varint.specs.Varint.{proto_within, read_proto_of}
use Rattle.uf_lenient.specs.Reading.{file_under, gathered, part_bytes, sub_ways, tree_within}
use Rattle.uf_lenient.specs.Unixfs.{unixfs_of}
use Rattle.uf_lenient.proofs.rows.metadata_is_of_the_first_node.Goals as goal

pub returns-clause-file : goal.returns-clause-file
unfolding tree_within file_under gathered sub_ways part_bytes unixfs_of node_reads node_fault link_fault message_reads run run_within mtime_reads fields fields_within content_at bytes_at piece_at number_at read_proto_of proto_within cid_at is_utf8 chars utf8_valid_len encode
returns-clause-file c = refl

pub returns-clause-directory : goal.returns-clause-directory
unfolding tree_within file_under gathered sub_ways part_bytes unixfs_of node_reads node_fault link_fault message_reads run run_within mtime_reads fields fields_within content_at bytes_at piece_at number_at read_proto_of proto_within cid_at is_utf8 chars utf8_valid_len encode
returns-clause-directory c = refl

pub returns-clause-parts : goal.returns-clause-parts
unfolding tree_within file_under gathered sub_ways part_bytes unixfs_of node_reads node_fault link_fault message_reads run run_within mtime_reads fields fields_within content_at bytes_at piece_at number_at read_proto_of proto_within cid_at is_utf8 chars utf8_valid_len encode
returns-clause-parts c = refl

pub returns-clause-dropped : goal.returns-clause-dropped
unfolding tree_within file_under gathered sub_ways part_bytes unixfs_of node_reads node_fault link_fault message_reads run run_within mtime_reads fields fields_within content_at bytes_at piece_at number_at read_proto_of proto_within cid_at is_utf8 chars utf8_valid_len encode
returns-clause-dropped c = refl

pub returns-clause-kept : goal.returns-clause-kept
unfolding tree_within file_under gathered sub_ways part_bytes unixfs_of node_reads node_fault link_fault message_reads run run_within mtime_reads fields fields_within content_at bytes_at piece_at number_at read_proto_of proto_within cid_at is_utf8 chars utf8_valid_len encode
returns-clause-kept c = refl

pub returns-clause-shards : goal.returns-clause-shards
unfolding tree_within file_under gathered sub_ways part_bytes unixfs_of node_reads node_fault link_fault message_reads run run_within mtime_reads fields fields_within content_at bytes_at piece_at number_at read_proto_of proto_within cid_at is_utf8 chars utf8_valid_len encode
returns-clause-shards c = refl

pub returns-clause-shape : goal.returns-clause-shape
unfolding tree_within file_under gathered sub_ways part_bytes unixfs_of node_reads node_fault link_fault message_reads run run_within mtime_reads fields fields_within content_at bytes_at piece_at number_at read_proto_of proto_within cid_at is_utf8 chars utf8_valid_len encode
returns-clause-shape c = refl
