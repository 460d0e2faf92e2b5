use Rattle.std.proofs.Common.{◌^◌, inl, inr}
use Rattle.std.proofs.lemmas.Result.{on_ok_weaker}
use Rattle.rational.proofs.Order.{same_sym, le_of_same, lt_of_le_of_lt}
use Rattle.rational.proofs.Mixed.{within_same}
use Rattle.pieces.proofs.signals.put_knot.Goals as goal

pub put-requires-clause-limited : goal.put-requires-clause-limited
put-requires-clause-limited g c = within_same (2 ^ 34) (same_sym c.requires.begins.0) c.requires.from_within

pub put-requires-clause-later : goal.put-requires-clause-later
put-requires-clause-later g c = inl (lt_of_le_of_lt (le_of_same c.requires.begins.0) c.requires.order)

pub returns-in-Equal : goal.returns-in-Equal
returns-in-Equal g c = on_ok_weaker c.put.result (λ on. inl (c.in-Equal.ensures, on)) c.put.ensures.ok

pub returns-in_default : goal.returns-in_default
returns-in_default g c = on_ok_weaker c.put_both.result (λ on. inr on) c.put_both.ensures
