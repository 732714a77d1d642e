-- What a squeeze table holds: its ticks, its steps and its turns.
use Rattle.lists.specs.Held.{list_of}
use Rattle.squeeze.specs.Squeeze.{Squeeze}
use Rattle.squeeze.specs.declared.table.SqueezeTable.{SqueezeTable}

abbrev pub squeeze_of : SqueezeTable → Squeeze
squeeze_of t = record { ticks = t.ticks; steps = list_of t.steps; turns = list_of t.turns }
