-- What is said of what a path leads to.
use Rattle.std.specs.Prelude.{Bool, true, false}
use Rattle.std.specs.declared.option.Option.{Option}
use Rattle.std.specs.declared.option.Option.TheVariants.{None, Some}
use Rattle.std.specs.declared.result.Result.{Result}
use Rattle.std.specs.declared.result.Result.TheVariants.{Ok, Err}
use Rattle.uf_tree.specs.declared.nodes.Entry.{Entry}
use Rattle.uf_light.specs.declared.fault.LightFault.{LightFault}
use Rattle.uf_light.specs.declared.fault.LightFault.TheVariants as fault
use Rattle.uf_light.specs.declared.met.PathEnd.{PathEnd}
use Rattle.uf_light.specs.declared.met.PathEnd.TheVariants.{There, Nothing, Behind}
use Rattle.uf_light.specs.declared.thing.TypedEntry.{TypedEntry}
use Rattle.uf_light.specs.declared.thing.TypedEntry.TheVariants.{File, Folder}

-- a file that is to be shown, or why there is none
abbrev pub as_file : TypedEntry → Result (Option Entry) LightFault
as_file (File e) = Ok (Some e)
as_file (Folder e) = Err fault.IsADirectory

-- what is to be shown: a file, or with `absent` that nothing is there; or the refusal
abbrev pub wanted_of : Bool → PathEnd → Result (Option Entry) LightFault
wanted_of true (There thing) = Err fault.Exists
wanted_of false (There thing) = as_file thing
wanted_of true (Nothing place) = Ok None
wanted_of false (Nothing place) = Err (fault.NotFound place)
wanted_of absent (Behind place) = Err (fault.NotADirectory place)
