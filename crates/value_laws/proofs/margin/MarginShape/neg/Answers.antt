use Rattle.frac128.specs.Value.{value}
use Rattle.std.proofs.Common.{◌^◌, lit<}
use Rattle.std.specs.Int.{w64}
use Rattle.rational.proofs.Mixed.{fits_of_within}
use Rattle.value_laws.proofs.MarginLemmas.{bounded_constant, within_opposite, mirrored_constant}
use Rattle.value_laws.proofs.margin.MarginShape.neg.Goals as goal

pub mirror-requires : goal.mirror-requires
mirror-requires c =
    let v = value c.in-Fixed.c in
    fits_of_within w64 (2 ^ 31) (lit< tt) (within_opposite (2 ^ 31) v (bounded_constant (2 ^ 31) v (let r = c.requires in rw c.in-Fixed.is at r)))

pub returns-in-Fixed-clause-value : goal.returns-in-Fixed-clause-value
returns-in-Fixed-clause-value c = λ t. rw c.in-Fixed.is (mirrored_constant (value c.mirror.result) (value c.in-Fixed.c) t c.mirror.ensures.value)
