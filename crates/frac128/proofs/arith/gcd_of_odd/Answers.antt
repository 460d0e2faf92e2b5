use Rattle.std.proofs.Common.{arith, ◌∙◌}
use Rattle.std.specs.Int.{trailing_zeros, w64}
use Rattle.frac128.proofs.Halving.{gcd_by_apart, lesser_odd, gcd_of_same}
use Rattle.frac128.proofs.arith.gcd_of_odd.Goals as goal

pub loop-x-preserved : goal.loop-x-preserved
loop-x-preserved c =
    let l = c.loop-x in
    let odd = l.invariant in
    record {
      first = c.odd_part-x.ensures.odd;
      second = lesser_odd l.x l.y _ odd.first odd.second c.min-y.ensures;
      same = λ g h. odd.same g (gcd_by_apart l.x l.y _ _ (trailing_zeros w64 c.abs_diff-apart.result) g odd.first odd.second
          (c.odd_part-x.ensures.twos ∙ c.abs_diff-apart.ensures) c.min-y.ensures h);
    }

pub returns : goal.returns
returns c = c.loop-x.invariant.same c.loop-x.x (gcd_of_same c.loop-x.x c.loop-x.y (omega arith))
