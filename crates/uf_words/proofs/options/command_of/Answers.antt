use Rattle.std.proofs.Common.{add-one, ◌∙◌, ap, sym, map, take}
use Rattle.std.proofs.lemmas.List.{map-append}
use Rattle.std.proofs.Math.Seq.{take-suc}
use Rattle.clap.specs.Simple.{app_of, with_rule}
use Rattle.clap.specs.Walk.{rule_of}
use Rattle.uf_words.specs.Options.{rule_in, simple_command}
use Rattle.uf_words.proofs.options.command_of.Goals as goal

pub loop-row-preserved : goal.loop-row-preserved
loop-row-preserved c = c.in_ok-command.ensures ∙ ap (λ a. with_rule a (rule_of c.arg_of.result)) c.loop-row.invariant ∙ ap (λ r. with_rule (simple_command (map rule_in (take c.loop-row.row-index c.args.rows.now))) r) c.arg_of.ensures.rule
    ∙ ap simple_command (sym (ap (λ n. map rule_in (take n c.args.rows.now)) (add-one c.loop-row.row-index) ∙ ap (map rule_in) (take-suc c.args.rows.now c.loop-row.row-index _ c.loop-row-test.true) ∙ map-append rule_in (take c.loop-row.row-index c.args.rows.now) _))
