use Rattle.std.proofs.Common.{◌≡◌, length}
use Rattle.truth_sets.proofs.growing.TruthSets.new.Given as goal

abbrev pub invariant-loop : goal.invariant-loop
invariant-loop l = record { count : length l.sets.items ≡ l.counter }
