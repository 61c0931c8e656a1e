use Rattle.std.proofs.Common.{refl}
use Rattle.uf_laws.proofs.vectors.the_empty_directory.Goals as goal
use Rattle.sha2.specs.Sha256.{sha256, compress, rounds, hash_after, digest_bytes, schedule, first_words}
use Rattle.uf_cid.specs.Base32.{base32}
use Rattle.uf_varint.specs.Varint.{varint}
use Rattle.uf_dagpb.specs.Spelling.{node_bytes}
use Rattle.uf_message.specs.Spelling.{message_bytes}
use Rattle.uf_murmur.specs.Murmur.{murmur3}
use Rattle.uf_tree.specs.Nodes.{file_block, dir_block, bitfield, shard_block}
use Rattle.uf_tree.specs.FilePlan.{file_plan}
use Rattle.uf_tree.specs.ShardPlan.{shard, twins}
use Rattle.uf_tree.specs.TreePlan.{planned}
use Rattle.uf_tree.specs.Heads.{text_in}

pub returns : goal.returns
unfolding sha256 compress rounds hash_after digest_bytes schedule first_words base32 varint node_bytes murmur3 message_bytes file_block dir_block bitfield shard_block file_plan shard twins planned text_in
returns c = refl
