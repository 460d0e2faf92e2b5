use Rattle.std.proofs.Common.{arith}
use Rattle.frac128.proofs.Halving.{odd_part_is}
use Rattle.frac128.proofs.arith.odd_part.Goals as goal

pub returns-clause-odd : goal.returns-clause-odd
returns-clause-odd c = (odd_part_is c.args.n c.requires (omega arith)).0

pub returns-clause-twos : goal.returns-clause-twos
returns-clause-twos c = (odd_part_is c.args.n c.requires (omega arith)).1
