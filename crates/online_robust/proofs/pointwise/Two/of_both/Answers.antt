use Rattle.frac128.specs.Value.{value}
use Rattle.stl_syntax.specs.SupInf.{Robustness}
use Rattle.online_robust.specs.Couples.{left_of, right_of}
use Rattle.online_robust.proofs.ChosenMargins.{chosen_there, level_there, turned_there}
use Rattle.online_robust.proofs.Robustly.{robust_is_function}
use Rattle.online_robust.proofs.pointwise.Two.of_both.Goals as goal

pub left_of-requires : goal.left_of-requires
left_of-requires c = level_there c.args.p.now c.requires.1

pub returns : goal.returns
returns c x left right = chosen_there c.args.self.now.side (left_of x c.args.self.now.turned) (right_of x) x.reach
    (value c.args.t.now) c.left_of.result c.args.q.now
    c.chosen_in_place.result.now
    (turned_there c.args.self.now.turned (Robustness x.left x.trace) x.reach (value c.args.t.now) c.args.p.now c.left_of.result
    (robust_is_function x.left x.trace) left (c.left_of.ensures.value (value c.args.t.now)) c.left_of.ensures.base)
    right c.chosen_in_place.ensures.one c.chosen_in_place.ensures.value
