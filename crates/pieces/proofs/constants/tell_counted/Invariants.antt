use Rattle.std.proofs.Common.{◌≡◌, ◌^◌, length}
use Rattle.rational.specs.Rational.{IsWithin}
use Rattle.rational.specs.Places.{AtMost, Place}
use Rattle.frac128.specs.Cuts.{place}
use Rattle.pieces.specs.Chains.{Chain, stop}
use Rattle.pieces.specs.Constants.{AreAsked, CountsAll, IsFirstBest}
use Rattle.pieces.specs.ConstantsMet.{IsLeftOver, TellsBest}
use Rattle.pieces.proofs.constants.tell_counted.Given as goal

abbrev pub invariant-loop-window : goal.invariant-loop-window
invariant-loop-window g l = record {
  told : (s : Chain g.row.P.Denot) (met : Place) → TellsBest g.P.Shape s l.way met (place l.until) l.initial.window → CountsAll g.P.Shape s l.way met l.window;
  first : IsFirstBest g.P.Shape l.way.side l.window.steps.items;
  asked : AreAsked g.P.Shape l.way.side l.window.steps.items l.range;
  order : AtMost (stop l.window.out) (place l.until);
  left : IsLeftOver l.initial.window l.window;
  from : l.window.out.from ≡ l.initial.window.out.from;
  within : IsWithin (2 ^ 34) (stop l.window.out).at;
}

abbrev pub decreases-loop-window : goal.decreases-loop-window
decreases-loop-window g l = length l.window.steps.items
