use Rattle.std.proofs.Common.{arith}
use Rattle.session_mux.proofs.TagLemmas.{number_room}
use Rattle.session_mux.proofs.tag.number_of.Goals as goal

pub overflow_mul-number : goal.overflow_mul-number
overflow_mul-number c = omega (arith, number_room c.args.tag.now c.loop-at.at c.loop-at.number c.requires (omega arith) (omega arith) c.loop-at.invariant)

pub overflow_add-number : goal.overflow_add-number
overflow_add-number c = omega (
  arith,
  c.from.ensures,
  number_room c.args.tag.now c.loop-at.at c.loop-at.number c.requires (omega arith) (omega arith) c.loop-at.invariant,
)
