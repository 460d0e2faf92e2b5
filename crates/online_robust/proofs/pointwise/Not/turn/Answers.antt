use Rattle.std.proofs.Common.{◌<◌, Some, true, length, sym, ap, subst, ◌∙◌, ◌^◌, arith}
use Rattle.std.proofs.lemmas.Result.{on_ok_weaker}
use Rattle.rational.specs.Affine.{HasBoundedLevel}
use Rattle.rational.specs.Time.{◌<ʳ◌}
use Rattle.rational.proofs.Order.{le_trans, lt_of_lt_of_le, ge_of_same}
use Rattle.frac128.specs.Value.{value}
use Rattle.frac128.specs.declared.frac.Frac.{Frac}
use Rattle.value_laws.specs.Margins.{margin_function}
use Rattle.value_laws.specs.declared.margin.Margin.{Margin}
use Rattle.stl_syntax.specs.SupInf.{Robustness}
use Rattle.online_robust.specs.Lines.{margin_of}
use Rattle.online_robust.specs.Held.{held_at, held_of}
use Rattle.online_robust.specs.ReadLines.{HasReached, IsBuilt, LosesAt}
use Rattle.online_robust.specs.Couples.{Couple, IsNegatedTo, left_of, turns_left_of}
use Rattle.online_robust.specs.Tails.{Changes}
use Rattle.online_robust.proofs.Builts.{tick_between, tick_within}
use Rattle.online_robust.proofs.EdgesChanged.{changed_both, changed_by_loss, changed_by_put, put_but}
use Rattle.online_robust.proofs.JoinedLemmas.{first_gap}
use Rattle.online_robust.proofs.LinesGone.{both_of_one}
use Rattle.online_robust.proofs.LinesPut.{put_others}
use Rattle.online_robust.proofs.PointwiseLemmas.{TakesTwo, has_second, no_gap_none}
use Rattle.online_robust.proofs.NotLemmas.{IsMinus, built_more, fewer_left, gap_level, later_point, negated_held}
use Rattle.online_robust.proofs.NotLemmas.{point_level, point_negated, point_reached, two_lost_here}
use Rattle.online_robust.proofs.pointwise.Not.turn.Goals.{After-neg, In-Some-take}
use Rattle.online_robust.proofs.pointwise.Not.turn.Goals as goal

pub unreachable-requires : goal.unreachable-requires
unreachable-requires c =
    let (x, to, more) = c.requires.can in
    no_gap_none (first_gap (Robustness x.left x.trace) x.reach (value c.args.tail.now.end.at) x.left_to (held_at c.args.edges.now c.args.self.now.of) to.of
    (lt_of_lt_of_le more (ge_of_same to.all))) (sym c.take.ensures.first ∙ c.in_default.is)

pub unreachable-requires-in_default-take : goal.unreachable-requires-in_default-take
unreachable-requires-in_default-take c =
    let (x, to, more) = c.requires.can in
    has_second c.args.edges.now c.take.new.self c.args.self.now.of to.of_in c.take.ensures.taken
    (first_gap (Robustness x.left x.trace) x.reach (value c.args.tail.now.end.at) x.left_to (held_at c.args.edges.now c.args.self.now.of) to.of
    (lt_of_lt_of_le more (ge_of_same to.all))) (sym c.take-2.ensures.first ∙ c.in_default-take.is)

-- a gap and the point behind it were taken
two_of : (c : In-Some-take) → (x : Couple) → IsNegatedTo x c.args.self.now c.args.edges.now (value c.args.tail.now.end.at)
    → TakesTwo c.args.edges.now c.take.new.self c.take-2.new.self c.args.self.now.of c.in-Some.gap c.in-Some-take.point
two_of c x to = record {
  within = to.of_in;
  first = sym c.take.ensures.first ∙ c.in-Some.is;
  taken = c.take.ensures.taken;
  start = c.take.ensures.start;
  second = sym c.take-2.ensures.first ∙ c.in-Some-take.is;
  taken_too = c.take-2.ensures.taken;
  start_too = c.take-2.ensures.start;
}

pub neg-value-requires : goal.neg-value-requires
neg-value-requires c =
    let (x, to, more) = c.requires.can in
    subst (λ (m : Margin). HasBoundedLevel (2 ^ 31) (margin_function m)) (sym c.margin.ensures)
    (point_level x c.args.self.now to more (two_of (goal.at.neg-value-requires c).In-Some-take x to))

pub neg-requires : goal.neg-requires
neg-requires c =
    let (x, to, more) = c.requires.can in
    subst (λ (m : Margin). HasBoundedLevel (2 ^ 31) (margin_function m)) (sym c.margin-2.ensures)
    (gap_level x c.args.self.now to more (two_of (goal.at.neg-requires c).In-Some-take x to))

pub go_on-requires-clause-edge : goal.go_on-requires-clause-edge
go_on-requires-clause-edge c =
    let (x, to, more) = c.requires.can in
    let lost = (two_lost_here x c.args.self.now to more (two_of (goal.at.go_on-requires-clause-edge c).In-Some-take x to)).edges in
    omega (arith, c.requires.edge, lost)

pub go_on-requires-clause-within : goal.go_on-requires-clause-within
go_on-requires-clause-within c =
    let (x, to, more) = c.requires.can in tick_within (tick_between to.span.begin to.span.end (le_trans to.span.first to.from) to.to)

pub go_on-requires-clause-later : goal.go_on-requires-clause-later
go_on-requires-clause-later c =
    let (x, to, more) = c.requires.can in
    subst (λ (f : Frac). value c.args.tail.now.end.at <ʳ value f) (sym c.end-at.ensures)
    (later_point x c.args.self.now to more (two_of (goal.at.go_on-requires-clause-later c).In-Some-take x to))

minus_point : (c : After-neg) → IsMinus (margin_of c.in-Some-take.point) c.neg-value.result
minus_point c = let m : IsMinus c.margin.result c.neg-value.result = record { value = c.neg-value.ensures.value; base = c.neg-value.ensures.base } in
    subst (λ (p : Margin). IsMinus p c.neg-value.result) c.margin.ensures m

minus_gap : (c : After-neg) → IsMinus (margin_of c.in-Some.gap) c.neg.result
minus_gap c = let m : IsMinus c.margin-2.result c.neg.result = record { value = c.neg.ensures.value; base = c.neg.ensures.base } in
    subst (λ (p : Margin). IsMinus p c.neg.result) c.margin-2.ensures m

pub returns-clause-reached : goal.returns-clause-reached
returns-clause-reached c x to more =
    let step = (goal.at.returns-clause-reached c).In-Some-take in
    on_ok_weaker c.go_on.result
    (λ g. subst (λ r. HasReached (left_of x true) x.reach (value r.at) (Some r)) (sym g.end)
    (point_reached x c.args.self.now to more (two_of step x to) c.end-at.result c.neg-value.result c.end-at.ensures
    (minus_point (goal.at.returns-clause-reached c).After-neg)))
    c.go_on.ensures

pub returns-clause-negated : goal.returns-clause-negated
returns-clause-negated c x to more =
    let step = (goal.at.returns-clause-negated c).In-Some-take in
    on_ok_weaker c.go_on.result
    (λ g. subst (λ r. IsNegatedTo x c.args.self.now c.go_on.new.edges (value r.at)) (sym g.end)
    (negated_held x c.args.self.now (put_but g.put) c.requires.apart
    (point_negated x c.args.self.now to more (two_of step x to) c.end-at.result c.end-at.ensures)))
    c.go_on.ensures

pub returns-clause-turned : goal.returns-clause-turned
returns-clause-turned c =
    let (x, to, more) = c.requires.can in
    let op = c.args.self.now in
    let step = (goal.at.returns-clause-turned c).In-Some-take in
    let lost = subst (λ (f : Frac). LosesAt (value f) op.of c.args.edges.now c.take-2.new.self) (sym c.end-at.ensures)
    (two_lost_here x op to more (two_of step x to)) in
    on_ok_weaker c.go_on.result
    (λ g. record {
      more = g.more;
      changes = subst (λ r. Changes (value r.at) op.of op.of c.args.node g.more c.args.edges.now c.go_on.new.edges) (sym g.end)
          (changed_both c.requires.apart c.requires.apart (changed_by_loss c.requires.apart c.requires.apart (both_of_one lost))
          (changed_by_put c.requires.apart c.requires.apart (omega (arith, c.requires.edge, lost.edges)) g.put));
      on = λ first ks put tail signal.
          let (ks', goes, tail') = g.on first ks put tail signal in (
            ks',
            (
              goes.signal,
              λ x to more built.
                  subst (λ r. IsBuilt (left_of x true) x.reach x.from (value r.at) ks') (sym g.end)
                  (built_more x op to more (two_of step x to) ks ks' c.end-at.result c.neg.result c.neg-value.result c.end-at.ensures
                  (minus_gap (goal.at.returns-clause-turned c).After-neg)
                  (minus_point (goal.at.returns-clause-turned c).After-neg) built goes),
            ),
            tail',
          );
    })
    c.go_on.ensures

pub returns-clause-nearer : goal.returns-clause-nearer
returns-clause-nearer c =
    let (x, to, more) = c.requires.can in
    let op = c.args.self.now in
    let step = (goal.at.returns-clause-nearer c).In-Some-take in
    on_ok_weaker c.go_on.result
    (λ g. subst (λ n. n < turns_left_of op c.args.edges.now) (sym (ap (λ e. length (held_of e)) (put_others g.put op.of (λ e. c.requires.apart (sym e)))))
    (fewer_left x op to more (two_of step x to)))
    c.go_on.ensures
