use Rattle.std.proofs.Common.{ℕ, None, Some, arith}
use Rattle.std.specs.Prelude.{Option}
use Rattle.stl_syntax.specs.WellFormed.{IsInOrder}
use Rattle.offline_eval.proofs.untils.since_up_to_now.Goals as goal

-- a window that ends now has its bounds in order
from_zero : (b : Option ℕ) → IsInOrder 0 b
from_zero None = tt
from_zero (Some b) = omega arith

pub composed_since-requires-clause-order : goal.composed_since-requires-clause-order
composed_since-requires-clause-order g c = from_zero c.args.high
