use Rattle.std.proofs.Common.{◌≡◌, map, drop}
use Rattle.stl_syntax.specs.Characters.{is_among}
use Rattle.stl_syntax.specs.Trace.{Column}
use Rattle.trace_reader.specs.Labels.{column_of}
use Rattle.trace_reader.proofs.room.HeadingRoom.has.Given as goal

abbrev pub invariant-loop-label : goal.invariant-loop-label
invariant-loop-label l =
    is_among l.name (map (λ (k : Column). k.name) (map column_of l.label-items))
    ≡ is_among l.name (map (λ (k : Column). k.name) (map column_of (drop l.label-index l.label-items)))
