use Rattle.std.proofs.Common.{ℕ, ◌^◌, ◌<◌, List, length, refl, subst, sym, Ok, Err}
use Rattle.std.proofs.lemmas.Result.{err_from_is_err_and}
use Rattle.uf_dagpb.specs.Spelling.{node_bytes}
use Rattle.uf_tree.specs.Codecs.{Reads, dir_node_block}
use Rattle.uf_tree.specs.Validity.{IsDirNode}
use Rattle.uf_tree.proofs.Directories.{dir_read}
use Rattle.uf_tree.proofs.Shards.{shard_read}
use Rattle.uf_dir.specs.Roots.{ReadsRoot}
use Rattle.uf_dir.proofs.Roots.{unread-root}
use Rattle.uf_dir.proofs.looking.root_of_node.Goals as goal

pub basic_root-requires : goal.basic_root-requires
basic_root-requires c =
    let given = subst (Reads IsDirNode dir_node_block (node_bytes c.args.node.now)) (rw c.in-Some.is at c.in_ok-basic.ensures) (dir_read (node_bytes c.args.node.now) c.args.node.now c.dir_node_of.result c.requires.short (c.requires.node, refl) c.dir_node_of.ensures) in
    record { node = given.0; short = subst (λ (b : List ℕ). length b < 2 ^ 64) given.1 c.requires.short }

pub returns-in-Some-clause-reads : goal.returns-in-Some-clause-reads
returns-in-Some-clause-reads c =
    let given = subst (Reads IsDirNode dir_node_block (node_bytes c.args.node.now)) (rw c.in-Some.is at c.in_ok-basic.ensures) (dir_read (node_bytes c.args.node.now) c.args.node.now c.dir_node_of.result c.requires.short (c.requires.node, refl) c.dir_node_of.ensures) in
    subst (λ (b : List ℕ). ReadsRoot c.args.profile b c.basic_root.result) (sym given.1) c.basic_root.ensures.reads

pub returns-in_err-found-in-None-clause-reads : goal.returns-in_err-found-in-None-clause-reads
returns-in_err-found-in-None-clause-reads c =
    let out = err_from_is_err_and c.from_residual-in_err-found-in-None.result c.from_residual-in_err-found-in-None.ensures.1 in
    rw (out.1, out.2) (unread-root c.args.profile (node_bytes c.args.node.now) c.dir_node_of.result c.in_err-found-in-None.field-0.0
    (dir_read (node_bytes c.args.node.now) c.args.node.now c.dir_node_of.result c.requires.short (c.requires.node, refl) c.dir_node_of.ensures) (rw c.in-None.is at c.in_ok-basic.ensures)
    (shard_read (node_bytes c.args.node.now) c.args.node.now (Err c.in_err-found-in-None.field-0.0) c.requires.short (c.requires.node, refl) c.in_err-found-in-None.ensures))

pub returns-in_ok-found-in-None-clause-reads : goal.returns-in_ok-found-in-None-clause-reads
returns-in_ok-found-in-None-clause-reads c = (shard_read (node_bytes c.args.node.now) c.args.node.now (Ok c.in_ok-found-in-None.found) c.requires.short (c.requires.node, refl) c.in_ok-found-in-None.ensures)
