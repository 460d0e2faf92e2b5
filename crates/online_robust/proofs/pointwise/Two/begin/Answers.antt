use Rattle.std.proofs.Common.{sym, subst, arith}
use Rattle.rational.specs.Time.{◌≈◌}
use Rattle.frac128.specs.Value.{value}
use Rattle.frac128.specs.declared.frac.Frac.{Frac}
use Rattle.value_laws.specs.declared.margin.Margin.{Margin}
use Rattle.stl_syntax.specs.SupInf.{Robustness}
use Rattle.online_robust.specs.Lines.{end_of, margin_of}
use Rattle.online_robust.specs.Told.{IsTick}
use Rattle.online_robust.specs.ReadLines.{IsThere, LosesAtBoth}
use Rattle.online_robust.specs.Couples.{IsJoinedTo}
use Rattle.online_robust.proofs.LinesGone.{both_none}
use Rattle.online_robust.proofs.PointwiseLemmas.{begun_some}
use Rattle.online_robust.proofs.TwoLemmas.{join_first, join_stood, join_stood_to, left_begins, left_there}
use Rattle.online_robust.proofs.TwoLemmas.{left_tick, left_when, lost_first, mid_count, right_some, right_there}
use Rattle.online_robust.proofs.pointwise.Two.begin.Goals as goal

pub returns-in-Some-clause-reached : goal.returns-in-Some-clause-reached
returns-in-Some-clause-reached c x can = join_stood x c.args.self.now c.args.edges.now c.in-Some.reached can c.in-Some.is

pub returns-in-Some-clause-joined : goal.returns-in-Some-clause-joined
returns-in-Some-clause-joined c x can = join_stood_to x c.args.self.now c.args.edges.now c.in-Some.reached can c.in-Some.is

pub returns-in-Some-clause-lost : goal.returns-in-Some-clause-lost
returns-in-Some-clause-lost c = both_none c.args.edges.now

pub unreachable-requires : goal.unreachable-requires
unreachable-requires c = begun_some (left_begins c.requires.0 c.args.self.now c.args.edges.now c.requires.1 c.in_default.is)
    (sym (rw c.in_default-ahead.is at c.ahead.ensures))

pub ahead-requires-2 : goal.ahead-requires-2
ahead-requires-2 c =
    let count = mid_count c.requires.0 c.args.self.now c.args.edges.now c.skip.new.self c.in-Some-ahead.p.now c.requires.1 c.in_default.is
    (sym (rw c.in-Some-ahead.is at c.ahead.ensures)) c.skip.ensures.taken c.skip.ensures.start in
    let within = c.requires.1.right_in in
    omega (arith, count, within)

pub skip-requires-2 : goal.skip-requires-2
skip-requires-2 c =
    let count = mid_count c.requires.0 c.args.self.now c.args.edges.now c.skip.new.self c.in-Some-ahead.p.now c.requires.1 c.in_default.is
    (sym (rw c.in-Some-ahead.is at c.ahead.ensures)) c.skip.ensures.taken c.skip.ensures.start in
    let within = c.requires.1.right_in in
    omega (arith, count, within)

pub unreachable-requires-in_default-ahead-2 : goal.unreachable-requires-in_default-ahead-2
unreachable-requires-in_default-ahead-2 c =
    right_some c.requires.0 c.args.self.now c.args.edges.now c.skip.new.self c.in-Some-ahead.p.now c.requires.1 c.in_default.is
    (sym (rw c.in-Some-ahead.is at c.ahead.ensures)) c.skip.ensures.taken c.skip.ensures.start (sym (rw c.in_default-ahead-2.is at c.ahead-2.ensures))

pub of_both-value-requires : goal.of_both-value-requires
of_both-value-requires c =
    let x = c.requires.0 in
    let left : IsThere (Robustness x.left x.trace) x.reach (value (end_of c.in-Some-ahead.p.now)) (margin_of c.in-Some-ahead.p.now) =
    left_there x c.args.self.now c.args.edges.now c.skip.new.self c.in-Some-ahead.p.now c.requires.1 c.in_default.is
    (sym (rw c.in-Some-ahead.is at c.ahead.ensures)) c.skip.ensures.taken c.skip.ensures.start in
    let right : IsThere (Robustness x.right x.trace) x.reach (value (end_of c.in-Some-ahead.p.now)) (margin_of c.in-Some-ahead-2.q.now) =
    right_there x c.args.self.now c.args.edges.now c.skip.new.self c.in-Some-ahead.p.now c.requires.1 c.in_default.is
    (sym (rw c.in-Some-ahead.is at c.ahead.ensures)) c.skip.ensures.taken c.skip.ensures.start c.in-Some-ahead-2.q.now
    (sym (rw c.in-Some-ahead-2.is at c.ahead-2.ensures)) in
    let tick : IsTick (value (end_of c.in-Some-ahead.p.now)) =
    left_tick x c.args.self.now c.args.edges.now c.skip.new.self c.in-Some-ahead.p.now c.requires.1 c.in_default.is
    (sym (rw c.in-Some-ahead.is at c.ahead.ensures)) c.skip.ensures.taken c.skip.ensures.start in (
      x,
      subst (λ (f : Frac). IsThere (Robustness x.left x.trace) x.reach (value f) c.margin-x.result) (sym c.end-at.ensures)
          (subst (λ (m : Margin). IsThere (Robustness x.left x.trace) x.reach (value (end_of c.in-Some-ahead.p.now)) m) (sym c.margin-x.ensures) left),
      subst (λ (f : Frac). IsThere (Robustness x.right x.trace) x.reach (value f) c.margin-y.result) (sym c.end-at.ensures)
          (subst (λ (m : Margin). IsThere (Robustness x.right x.trace) x.reach (value (end_of c.in-Some-ahead.p.now)) m) (sym c.margin-y.ensures) right),
      subst (λ (f : Frac). IsTick (value f)) (sym c.end-at.ensures) tick,
    )

pub returns-clause-reached : goal.returns-clause-reached
returns-clause-reached c x can =
    let left : IsThere (Robustness x.left x.trace) x.reach (value (end_of c.in-Some-ahead.p.now)) (margin_of c.in-Some-ahead.p.now) =
    left_there x c.args.self.now c.args.edges.now c.skip.new.self c.in-Some-ahead.p.now can c.in_default.is
    (sym (rw c.in-Some-ahead.is at c.ahead.ensures)) c.skip.ensures.taken c.skip.ensures.start in
    let right : IsThere (Robustness x.right x.trace) x.reach (value (end_of c.in-Some-ahead.p.now)) (margin_of c.in-Some-ahead-2.q.now) =
    right_there x c.args.self.now c.args.edges.now c.skip.new.self c.in-Some-ahead.p.now can c.in_default.is
    (sym (rw c.in-Some-ahead.is at c.ahead.ensures)) c.skip.ensures.taken c.skip.ensures.start c.in-Some-ahead-2.q.now
    (sym (rw c.in-Some-ahead-2.is at c.ahead-2.ensures)) in
    let there = c.of_both-value.ensures x
    (subst (λ (f : Frac). IsThere (Robustness x.left x.trace) x.reach (value f) c.margin-x.result) (sym c.end-at.ensures)
    (subst (λ (m : Margin). IsThere (Robustness x.left x.trace) x.reach (value (end_of c.in-Some-ahead.p.now)) m) (sym c.margin-x.ensures) left))
    (subst (λ (f : Frac). IsThere (Robustness x.right x.trace) x.reach (value f) c.margin-y.result) (sym c.end-at.ensures)
    (subst (λ (m : Margin). IsThere (Robustness x.right x.trace) x.reach (value (end_of c.in-Some-ahead.p.now)) m) (sym c.margin-y.ensures) right)) in (
      subst (λ (f : Frac). value f ≈ x.from) (sym c.end-at.ensures)
          (left_when x c.args.self.now c.args.edges.now c.skip.new.self c.in-Some-ahead.p.now can c.in_default.is
          (sym (rw c.in-Some-ahead.is at c.ahead.ensures)) c.skip.ensures.taken c.skip.ensures.start),
      subst (λ (f : Frac). IsTick (value f)) (sym c.end-at.ensures)
          (left_tick x c.args.self.now c.args.edges.now c.skip.new.self c.in-Some-ahead.p.now can c.in_default.is
          (sym (rw c.in-Some-ahead.is at c.ahead.ensures)) c.skip.ensures.taken c.skip.ensures.start),
      there,
    )

pub returns-clause-joined : goal.returns-clause-joined
returns-clause-joined c x can = subst (λ (f : Frac). IsJoinedTo x c.args.self.now c.skip-2.new.self (value f)) (sym c.end-at.ensures)
    (join_first x c.args.self.now c.args.edges.now c.skip.new.self c.in-Some-ahead.p.now can c.in_default.is
    (sym (rw c.in-Some-ahead.is at c.ahead.ensures)) c.skip.ensures.taken c.skip.ensures.start c.in-Some-ahead-2.q.now
    (sym (rw c.in-Some-ahead-2.is at c.ahead-2.ensures)) c.skip-2.new.self c.skip-2.ensures.taken c.skip-2.ensures.start)

pub returns-clause-lost : goal.returns-clause-lost
returns-clause-lost c = subst (λ (f : Frac). LosesAtBoth (value f) c.args.self.now.left c.args.self.now.right c.args.edges.now c.skip-2.new.self)
    (sym c.end-at.ensures)
    (lost_first c.requires.0 c.args.self.now c.args.edges.now c.skip.new.self c.in-Some-ahead.p.now c.requires.1 c.in_default.is
    (sym (rw c.in-Some-ahead.is at c.ahead.ensures)) c.skip.ensures.taken c.skip.ensures.start c.in-Some-ahead-2.q.now
    (sym (rw c.in-Some-ahead-2.is at c.ahead-2.ensures)) c.skip-2.new.self c.skip-2.ensures.taken c.skip-2.ensures.start)
