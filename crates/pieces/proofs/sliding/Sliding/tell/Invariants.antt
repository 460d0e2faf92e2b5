use Rattle.std.proofs.Common.{◌≡◌, ◌^◌, None, length}
use Rattle.rational.specs.Rational.{IsWithin}
use Rattle.rational.specs.Places.{AtMost}
use Rattle.frac128.specs.Cuts.{place}
use Rattle.pieces.specs.Chains.{stop}
use Rattle.pieces.specs.Sliding.{HasTold}
use Rattle.pieces.proofs.sliding.Sliding.tell.Given as goal

abbrev pub invariant-loop-side : goal.invariant-loop-side
invariant-loop-side g l = record {
  told : HasTold g.P.Shape l.side l.gap l.initial.self l.self;
  order : AtMost (stop l.self.out) (place l.until);
  within : IsWithin (2 ^ 34) (stop l.self.out).at;
  still : l.fault ≡ None;
}

abbrev pub decreases-loop-side : goal.decreases-loop-side
decreases-loop-side g l = length l.self.steps.items
