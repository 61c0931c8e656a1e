use Rattle.std.proofs.Common.{◌∙◌, subst}
use Rattle.std.specs.Prelude.{IfSome}
use Rattle.std.proofs.lemmas.Result.{err_from_is_err_and}
use Rattle.uf_command.specs.Dags.{usual_limits}
use Rattle.uf_command.specs.Kinds.{fault_behind}
use Rattle.uf_lenient.specs.Steps.{IsRead}
use Rattle.uf_store.specs.Contents.{held_at}
use Rattle.uf_store.specs.Faults.{NoneIsBad}
use Rattle.uf_store.proofs.Calls.{shown-after}
use Rattle.uf_top.proofs.Cats.{below-file, file-told, folder-told, no-way, same-fault}
use Rattle.uf_top.proofs.commands.cat.file_in.Goals as goal

pub returns-in_err-cid-clause-finds : goal.returns-in_err-cid-clause-finds
returns-in_err-cid-clause-finds g c =
    let out = err_from_is_err_and c.from_residual.result c.from_residual.ensures.1 in
    rw (out.1, out.2) (no-way g.S.X.BlockHash.block32 (g.S.Store.seen c.args.store.now).told c.args.path.now c.in_err-cid.field-0.0 c.in_err-cid.ensures.leads)

pub returns-in-Err-clause-finds : goal.returns-in-Err-clause-finds
returns-in-Err-clause-finds g c =
    below-file g.S.X.BlockHash.block32 (g.S.Store.seen c.args.store.now).told (g.S.Store.seen c.led_to.new.store).told c.in_ok-cid.ensures.reads.told c.args.path.now c.in_ok-cid.cid c.in_ok-cid.ensures.leads
    c.in-Err.fault c.dag_refusal.result c.in-Err.ensures.says c.dag_refusal.ensures

pub returns-in-Err-clause-reads : goal.returns-in-Err-clause-reads
returns-in-Err-clause-reads g c =
    let a = g.S.Store.seen c.args.store.now in let m = g.S.Store.seen c.led_to.new.store in let b = g.S.Store.seen c.survey_nodes.new.store in
    record {
      cause = shown-after g.S.X.BlockHash.block32 NoneIsBad (fault_behind c.dag_refusal.result) a m b c.in_ok-cid.ensures.reads.cause
          (same-fault c.args.path.now c.in-Err.fault g.S.X.BlockHash.block32 m b c.dag_refusal.result c.dag_refusal.ensures c.in-Err.ensures.cause);
      told = c.in-Err.ensures.told ∙ c.in_ok-cid.ensures.reads.told;
    }

pub returns-in-Ok-File-clause-finds : goal.returns-in-Ok-File-clause-finds
returns-in-Ok-File-clause-finds g c =
    let later = (g.S.Store.seen c.led_to.new.store).told in
    file-told g.S.X.BlockHash.block32 (g.S.Store.seen c.args.store.now).told later c.in_ok-cid.ensures.reads.told c.args.path.now c.in_ok-cid.cid c.in_ok-cid.ensures.leads c.in-Ok-File.field-0-0
    (subst (λ s. IfSome later (λ t. IsRead (held_at t) usual_limits c.in_ok-cid.cid s)) c.in-Ok-File.field-0-is c.in-Ok-File.ensures.says)

pub returns-clause-finds : goal.returns-clause-finds
returns-clause-finds g c =
    let later = (g.S.Store.seen c.led_to.new.store).told in
    folder-told g.S.X.BlockHash.block32 (g.S.Store.seen c.args.store.now).told later c.in_ok-cid.ensures.reads.told c.args.path.now c.in_ok-cid.cid c.in_ok-cid.ensures.leads c.in-Ok-Folder.field-0-0 c.in-Ok-Folder.field-0-1 c.no_file.result
    (subst (λ s. IfSome later (λ t. IsRead (held_at t) usual_limits c.in_ok-cid.cid s)) c.in-Ok-Folder.field-0-is c.in-Ok-Folder.ensures.says) c.no_file.ensures
