use Rattle.std.proofs.Common.{◌-◌, length}
use Rattle.stl_grammar.proofs.ReadLaw.{HasRead}
use Rattle.stl_grammar.proofs.reader.read.Given as goal

abbrev pub invariant-loop-at : goal.invariant-loop-at
invariant-loop-at l = HasRead l.text l.at l.parser l.tokens.items

abbrev pub decreases-loop-at : goal.decreases-loop-at
decreases-loop-at l = length l.text - l.at
