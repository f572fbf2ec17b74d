-- What a walk does at an edge, as the code has it: the vertex that it ends at, none where it goes on, or torn.
use Rattle.std.specs.Prelude.{ℕ}
use Rattle.std.specs.declared.option.Option.{Option}
use Rattle.std.specs.declared.option.Option.TheVariants.{Some, None}
use Rattle.std.specs.declared.result.Result.{Result}
use Rattle.std.specs.declared.result.Result.TheVariants.{Ok, Err}
use Rattle.mesh.specs.Reading.{Stop, at_vertex, go_on, is_torn}
use Rattle.tables.specs.declared.refusal.Refusal.{Refusal}
use Rattle.tables.specs.declared.refusal.Refusal.TheVariants.{Torn}

abbrev pub stop_meant : Stop → Result (Option ℕ) Refusal
stop_meant (at_vertex v) = Ok (Some v)
stop_meant go_on = Ok None
stop_meant is_torn = Err Torn
