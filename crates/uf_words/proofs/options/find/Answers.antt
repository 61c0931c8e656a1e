use Rattle.std.proofs.Common.{map, ◌∙◌}
use Rattle.std.specs.Prelude.{string_bytes}
use Rattle.clap.specs.Simple.{app_of}
use Rattle.clap.specs.Faults.{fault_of}
use Rattle.clap.specs.Values.{kind_of}
use Rattle.clap.specs.declared.error.kind.ErrorKind.TheVariants.{OutOfMemory}
use Rattle.uf_words.proofs.Finding.{found_rows, no_rows, other_kind}
use Rattle.uf_words.proofs.options.find.Goals as goal

pub returns-in-Ok : goal.returns-in-Ok
returns-in-Ok c = found_rows (app_of c.args.command) (map string_bytes c.args.words.now) c.in-Ok.found c.requires (c.in-Ok.ensures.kinds c.requires) c.in-Ok.ensures.matches

pub returns : goal.returns
returns c =
    let kind = kind_of c.in-Err.why in
    no_rows (app_of c.args.command) (map string_bytes c.args.words.now) kind
    (other_kind kind OutOfMemory (fault_of (app_of c.args.command) (map string_bytes c.args.words.now)) (λ is. c.in_default.not-OutOfMemory (c.kind.ensures ∙ is)) (c.in-Err.ensures.kinds c.requires))
