use Rattle.std.proofs.Common.{◌≡◌, map, take}
use Rattle.clap.specs.Simple.{app_of}
use Rattle.uf_words.specs.Options.{rule_in, simple_command}
use Rattle.uf_words.proofs.options.command_of.Given as goal

abbrev pub invariant-loop-row : goal.invariant-loop-row
invariant-loop-row l = app_of l.command ≡ simple_command (map rule_in (take l.row-index l.rows))
