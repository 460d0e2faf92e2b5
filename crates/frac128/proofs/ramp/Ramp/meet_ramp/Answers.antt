use Rattle.std.proofs.Common.{Some, None, refl}
use Rattle.rational.specs.Line.{gap_line}
use Rattle.rational.proofs.Meetings.{order_of_gap, parallels_do_not_cross}
use Rattle.frac128.proofs.Differences.{meeting}
use Rattle.frac128.specs.Line.{line}
use Rattle.frac128.specs.Value.{value}
use Rattle.frac128.proofs.Meets.{Ends, between_is, refuted, uncrossed, crossing_fits, crossing_made, crossing_wide}
use Rattle.frac128.proofs.ramp.Ramp.meet_ramp.Goals as goal

pub returns-then-not-are_opposite : goal.returns-then-not-are_opposite
returns-then-not-are_opposite c =
    let f = line c.args.self.now in
    let g = line c.args.other.now in
    let e : Ends f g (value c.args.from.now) (value c.args.to.now) c.sign_at.result c.sign_at-2.result = record {
      from = c.requires.from;
      to = c.requires.to;
      order = c.requires.order;
      at_start = order_of_gap c.sign_at.result f g _ (c.sign_at.ensures (gap_line f g) c.of-gap.ensures);
      at_end = order_of_gap c.sign_at-2.result f g _ (c.sign_at-2.ensures (gap_line f g) c.of-gap.ensures);
    } in
    uncrossed e (refuted c.if-not-are_opposite.ensures.1)

pub returns-in_default : goal.returns-in_default
returns-in_default c = λ t.
    let f = line c.args.self.now in
    let g = line c.args.other.now in
    parallels_do_not_cross f g _ _ t (meeting f g _ _ None c.of-gap.ensures c.in_default.ensures)

pub frac-requires : goal.frac-requires
frac-requires c =
    let f = line c.args.self.now in
    let g = line c.args.other.now in
    let e : Ends f g (value c.args.from.now) (value c.args.to.now) c.sign_at.result c.sign_at-2.result = record {
      from = c.requires.from;
      to = c.requires.to;
      order = c.requires.order;
      at_start = order_of_gap c.sign_at.result f g _ (c.sign_at.ensures (gap_line f g) c.of-gap.ensures);
      at_end = order_of_gap c.sign_at-2.result f g _ (c.sign_at-2.ensures (gap_line f g) c.of-gap.ensures);
    } in
    crossing_fits _ e (c.if-not-are_opposite.ensures.0 refl) ((meeting f g _ _ (Some c.in-Some.time) c.of-gap.ensures c.in-Some.ensures).1)

pub returns-in-Ok : goal.returns-in-Ok
returns-in-Ok c =
    let f = line c.args.self.now in
    let g = line c.args.other.now in
    let e : Ends f g (value c.args.from.now) (value c.args.to.now) c.sign_at.result c.sign_at-2.result = record {
      from = c.requires.from;
      to = c.requires.to;
      order = c.requires.order;
      at_start = order_of_gap c.sign_at.result f g _ (c.sign_at.ensures (gap_line f g) c.of-gap.ensures);
      at_end = order_of_gap c.sign_at-2.result f g _ (c.sign_at-2.ensures (gap_line f g) c.of-gap.ensures);
    } in
    crossing_made _ e (c.if-not-are_opposite.ensures.0 refl) ((meeting f g _ _ (Some c.in-Some.time) c.of-gap.ensures c.in-Some.ensures).1) c.in-Ok.ensures.ok

pub returns-in-Err : goal.returns-in-Err
returns-in-Err c =
    let f = line c.args.self.now in
    let g = line c.args.other.now in
    let e : Ends f g (value c.args.from.now) (value c.args.to.now) c.sign_at.result c.sign_at-2.result = record {
      from = c.requires.from;
      to = c.requires.to;
      order = c.requires.order;
      at_start = order_of_gap c.sign_at.result f g _ (c.sign_at.ensures (gap_line f g) c.of-gap.ensures);
      at_end = order_of_gap c.sign_at-2.result f g _ (c.sign_at-2.ensures (gap_line f g) c.of-gap.ensures);
    } in
    crossing_wide _ c.in-Err.wide.den e (c.if-not-are_opposite.ensures.0 refl)
    ((meeting f g _ _ (Some c.in-Some.time) c.of-gap.ensures c.in-Some.ensures).1) c.in-Err.ensures.wide

pub returns-in-Some-small : goal.returns-in-Some-small
returns-in-Some-small c =
    let f = line c.args.self.now in
    let g = line c.args.other.now in
    between_is f g (value c.args.from.now) (value c.args.to.now) _ c.between.result c.in-Some-small.t c.between.ensures
    ((meeting f g _ _ (Some c.in-Some.time) c.of-gap.ensures c.in-Some.ensures).1) c.in-Some-small.ensures
