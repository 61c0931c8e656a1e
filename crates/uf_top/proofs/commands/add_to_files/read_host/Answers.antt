use Rattle.std.proofs.Common.{◌∙◌, ℕ, List, Result, ap, refl, subst, sym}
use Rattle.std.proofs.lemmas.Result.{err_from_is_err_and}
use Rattle.uf_command.specs.Statuses.{ended, status_of}
use Rattle.uf_command.specs.declared.types.Refusal.{Refusal}
use Rattle.uf_mfs.specs.Standing.{Same}
use Rattle.uf_top.specs.Around.{host_side}
use Rattle.uf_top.specs.Placing.{GivesHost}
use Rattle.uf_top.specs.declared.given.Given.{Given}
use Rattle.uf_top.proofs.Givens.{last-there, no-reading, rows-for, rows-read, rows-shown}
use Rattle.uf_top.proofs.Plans.{none-kept, rows-kept}
use Rattle.uf_top.proofs.Telling.{not-ok}
use Rattle.uf_top.proofs.commands.add_to_files.read_host.Goals as goal

pub rows_given-requires : goal.rows_given-requires
rows_given-requires g c =
    let X = g.S.X.BlockHash.block32 in let N = g.N.NameHash.name64 in let told = (g.S.Store.seen c.add_apart-answer.new.store).told in let tells = g.W.Host.tree c.args.host.now in let r = c.add_apart-answer.result in let e = c.add_apart-answer.ensures in
    record { last = last-there c.args.path.now X N c.args.profile told tells c.args.recursive r e.adds; walked = no-reading c.args.path.now X N c.args.profile told tells c.args.recursive r e.adds }

pub returns : goal.returns
returns g c =
    let X = g.S.X.BlockHash.block32 in let N = g.N.NameHash.name64 in let told = (g.S.Store.seen c.add_apart-answer.new.store).told in let tells = g.W.Host.tree c.args.host.now in let r = c.add_apart-answer.result in let e = c.add_apart-answer.ensures in
    let s = host_side (g.W.Host.tree c.args.host.now) (g.W.Host.read_faults c.args.host.now) (g.W.Host.write_faults c.args.host.now) in
    let t = host_side (g.W.Host.tree c.add_apart-answer.new.host) (g.W.Host.read_faults c.add_apart-answer.new.host) (g.W.Host.write_faults c.add_apart-answer.new.host) in
    let none = no-reading c.args.path.now X N c.args.profile told tells c.args.recursive r e.adds in let given = c.rows_given.result in
    let gives = subst (λ (q : List ℕ). GivesHost q r given) c.in_ok-own.ensures c.rows_given.ensures in
    let a = (g.S.Store.seen c.args.store.now).told in
    record {
      no_other = rows-kept X N c.args.profile a told told tells c.args.recursive c.args.path.now r given (ended given) gives
          (λ why is ok. not-ok why (sym (ap (λ (d : Result Given Refusal). ended d) is) ∙ ok)) e.no_other (Same refl);
      gives = rows-for c.args.path.now X N c.args.profile told tells c.args.recursive r given gives e.adds;
      host = rows-read c.in_ok-own.own r given s t c.rows_given.ensures none e.told e.reads e.writes;
      saves = record {
        cause = rows-shown c.in_ok-own.own X (g.S.Store.seen c.args.store.now) (g.S.Store.seen c.add_apart-answer.new.store) r given c.rows_given.ensures none e.cause;
        good = e.good;
        saves = e.saves;
      };
    }

pub returns-in_err-own-clause-no_other : goal.returns-in_err-own-clause-no_other
returns-in_err-own-clause-no_other g c =
    let out = err_from_is_err_and c.from_residual.result c.from_residual.ensures.1 in
    rw out.1 (none-kept g.S.X.BlockHash.block32 g.N.NameHash.name64 (status_of out.0) c.args.profile (g.S.Store.seen c.args.store.now).told (g.W.Host.tree c.args.host.now) c.args.recursive c.args.path.now (not-ok out.0))
