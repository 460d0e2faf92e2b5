use Rattle.std.proofs.Common.{refl}
use Rattle.rational.specs.Line.{constant}
use Rattle.rational.proofs.Order.{same_refl, same_sym}
use Rattle.rational.proofs.Lines.{at_constant}
use Rattle.rational.proofs.Compare.{order_same}
use Rattle.rational.proofs.Meetings.{parallels_do_not_cross}
use Rattle.frac128.proofs.RampDifferences.{parallel_of_level}
use Rattle.frac128.specs.Line.{line}
use Rattle.frac128.specs.Value.{value}
use Rattle.frac128.proofs.Meets.{Ends, between_is, refuted, uncrossed, crossing_fits, crossing_made, crossing_wide}
use Rattle.frac128.proofs.ramp.Ramp.meet_const.Goals as goal

pub returns-then-not-are_opposite : goal.returns-then-not-are_opposite
returns-then-not-are_opposite c =
    let f = line c.args.self.now in
    let k = value c.args.c.now in
    let g = constant k in
    let e : Ends f g (value c.args.from.now) (value c.args.to.now) c.cmp_const.result c.cmp_const-2.result = record {
      from = c.requires.from;
      to = c.requires.to;
      order = c.requires.order;
      at_start = order_same c.cmp_const.result (same_refl _) (same_sym (at_constant k _)) c.cmp_const.ensures;
      at_end = order_same c.cmp_const-2.result (same_refl _) (same_sym (at_constant k _)) c.cmp_const-2.ensures;
    } in
    uncrossed e (refuted c.if-not-are_opposite.ensures.1)

pub returns-in_default : goal.returns-in_default
returns-in_default c = λ t.
    let f = line c.args.self.now in
    let k = value c.args.c.now in
    let g = constant k in
    parallels_do_not_cross f g _ _ t (parallel_of_level c.args.self.now c.args.c.now c.in_default.ensures.meets)

pub frac-requires : goal.frac-requires
frac-requires c =
    let f = line c.args.self.now in
    let k = value c.args.c.now in
    let g = constant k in
    let e : Ends f g (value c.args.from.now) (value c.args.to.now) c.cmp_const.result c.cmp_const-2.result = record {
      from = c.requires.from;
      to = c.requires.to;
      order = c.requires.order;
      at_start = order_same c.cmp_const.result (same_refl _) (same_sym (at_constant k _)) c.cmp_const.ensures;
      at_end = order_same c.cmp_const-2.result (same_refl _) (same_sym (at_constant k _)) c.cmp_const-2.ensures;
    } in
    crossing_fits _ e (c.if-not-are_opposite.ensures.0 refl) (c.in-Some.ensures.meets.1)

pub returns-in-Ok : goal.returns-in-Ok
returns-in-Ok c =
    let f = line c.args.self.now in
    let k = value c.args.c.now in
    let g = constant k in
    let e : Ends f g (value c.args.from.now) (value c.args.to.now) c.cmp_const.result c.cmp_const-2.result = record {
      from = c.requires.from;
      to = c.requires.to;
      order = c.requires.order;
      at_start = order_same c.cmp_const.result (same_refl _) (same_sym (at_constant k _)) c.cmp_const.ensures;
      at_end = order_same c.cmp_const-2.result (same_refl _) (same_sym (at_constant k _)) c.cmp_const-2.ensures;
    } in
    crossing_made _ e (c.if-not-are_opposite.ensures.0 refl) (c.in-Some.ensures.meets.1) c.in-Ok.ensures.ok

pub returns-in-Err : goal.returns-in-Err
returns-in-Err c =
    let f = line c.args.self.now in
    let k = value c.args.c.now in
    let g = constant k in
    let e : Ends f g (value c.args.from.now) (value c.args.to.now) c.cmp_const.result c.cmp_const-2.result = record {
      from = c.requires.from;
      to = c.requires.to;
      order = c.requires.order;
      at_start = order_same c.cmp_const.result (same_refl _) (same_sym (at_constant k _)) c.cmp_const.ensures;
      at_end = order_same c.cmp_const-2.result (same_refl _) (same_sym (at_constant k _)) c.cmp_const-2.ensures;
    } in
    crossing_wide _ c.in-Err.wide.den e (c.if-not-are_opposite.ensures.0 refl) (c.in-Some.ensures.meets.1) c.in-Err.ensures.wide

pub returns-in-Some-small : goal.returns-in-Some-small
returns-in-Some-small c =
    let f = line c.args.self.now in
    let g = constant (value c.args.c.now) in
    between_is f g (value c.args.from.now) (value c.args.to.now) _ c.between.result c.in-Some-small.t c.between.ensures c.in-Some.ensures.meets.1
    c.in-Some-small.ensures
