use Rattle.std.proofs.Common.{ℕ, List, None, Ok, Err, subst}
use Rattle.std.proofs.lemmas.Result.{err_from_is_err_and}
use Rattle.uf_top.specs.Around.{host_side}
use Rattle.uf_top.specs.Placing.{GivesHost}
use Rattle.uf_top.proofs.Givens.{last-there, no-reading, rows-read, rows-text, rows-want}
use Rattle.uf_top.proofs.commands.add_from.hash_by.Goals as goal

pub rows_given-requires : goal.rows_given-requires
rows_given-requires g c =
    let X = g.X.BlockHash.block32 in let N = g.N.NameHash.name64 in let tells = g.W.Host.tree c.args.host.now in let r = c.hash_rows-answer.result in let e = c.hash_rows-answer.ensures in
    record { last = last-there c.args.path.now X N c.args.profile None tells c.args.recursive r e.adds; walked = no-reading c.args.path.now X N c.args.profile None tells c.args.recursive r e.adds }

pub returns-in_err-given : goal.returns-in_err-given
returns-in_err-given g c =
    let X = g.X.BlockHash.block32 in let N = g.N.NameHash.name64 in let tells = g.W.Host.tree c.args.host.now in let r = c.hash_rows-answer.result in let e = c.hash_rows-answer.ensures in
    let s = host_side (g.W.Host.tree c.args.host.now) (g.W.Host.read_faults c.args.host.now) (g.W.Host.write_faults c.args.host.now) in
    let t = host_side (g.W.Host.tree c.hash_rows-answer.new.host) (g.W.Host.read_faults c.hash_rows-answer.new.host) (g.W.Host.write_faults c.hash_rows-answer.new.host) in
    let none = no-reading c.args.path.now X N c.args.profile None tells c.args.recursive r e.adds in
    let gives = subst (λ (q : List ℕ). GivesHost q r (Err c.in_err-given.field-0.0)) c.in_ok-own.ensures c.in_err-given.ensures in
    let out = err_from_is_err_and c.from_residual-in_err-given.result c.from_residual-in_err-given.ensures.1 in
    rw (out.1, out.2) (record {
      text = rows-text c.args.path.now X N c.args.profile None tells c.args.recursive r (Err c.in_err-given.field-0.0) gives e.adds;
      wants = rows-want c.in_ok-own.own r (Err c.in_err-given.field-0.0) c.in_err-given.ensures none e.wants;
      host = rows-read c.in_ok-own.own r (Err c.in_err-given.field-0.0) s t c.in_err-given.ensures none e.told e.reads e.writes;
    })

pub returns : goal.returns
returns g c =
    let X = g.X.BlockHash.block32 in let N = g.N.NameHash.name64 in let tells = g.W.Host.tree c.args.host.now in let r = c.hash_rows-answer.result in let e = c.hash_rows-answer.ensures in
    let s = host_side (g.W.Host.tree c.args.host.now) (g.W.Host.read_faults c.args.host.now) (g.W.Host.write_faults c.args.host.now) in
    let t = host_side (g.W.Host.tree c.hash_rows-answer.new.host) (g.W.Host.read_faults c.hash_rows-answer.new.host) (g.W.Host.write_faults c.hash_rows-answer.new.host) in
    let none = no-reading c.args.path.now X N c.args.profile None tells c.args.recursive r e.adds in
    let gives = subst (λ (q : List ℕ). GivesHost q r (Ok c.in_ok-given.given)) c.in_ok-own.ensures c.in_ok-given.ensures in
    record {
      text = rows-text c.args.path.now X N c.args.profile None tells c.args.recursive r (Ok c.in_ok-given.given) gives e.adds;
      wants = rows-want c.in_ok-own.own r (Ok c.in_ok-given.given) c.in_ok-given.ensures none e.wants;
      host = rows-read c.in_ok-own.own r (Ok c.in_ok-given.given) s t c.in_ok-given.ensures none e.told e.reads e.writes;
    }
