use Rattle.std.proofs.Common.{arith, inl}
use Rattle.std.proofs.lemmas.Int.{ints}
use Rattle.pieces.proofs.windows.ahead.Goals as goal

pub returns-clause-small : goal.returns-clause-small
returns-clause-small c =
    let a = c.ranges.a in
    let b = c.ranges.b in
    let h = c.requires in record {
      from = omega (arith, ints, a, b, h);
      to = omega (arith, ints, a, b, h);
      order = omega (arith, ints, a, b, h);
      aside = inl (omega (arith, ints, a, b, h));
    }
