use Rattle.std.proofs.Common.{◌≡◌, ◌<◌, inl, inr, Some, sym, subst, ap, ◌^◌, slice_get, length, arith}
use Rattle.std.specs.Prelude.{IsTrue}
use Rattle.rational.specs.Time.{Rational, ◌≈◌}
use Rattle.rational.specs.Extended.{value_at, ◌≈ᵉ◌}
use Rattle.rational.specs.Affine.{HasBoundedLevel}
use Rattle.rational.proofs.Order.{le_of_lt, le_of_same, le_trans, lt_of_lt_of_le, same_refl}
use Rattle.std.proofs.lemmas.Result.{on_err_weaker, on_ok_weaker}
use Rattle.frac128.specs.Value.{value}
use Rattle.frac128.specs.declared.frac.Frac.{Frac}
use Rattle.value_laws.specs.Kinds.{margin_shape}
use Rattle.value_laws.specs.Margins.{is_ramp, margin_base, margin_function}
use Rattle.value_laws.specs.declared.margin.Margin.{Margin}
use Rattle.pl_signal.specs.Joining.{IsGapFault, Joins}
use Rattle.stl_syntax.specs.SupInf.{Robustness}
use Rattle.online_robust.specs.Lines.{margin_of}
use Rattle.online_robust.specs.Held.{held_at, held_of}
use Rattle.online_robust.specs.Told.{IsTick}
use Rattle.online_robust.specs.ReadLines.{HasReached, IsAhead, IsBuilt, IsThere, LosesAtBoth, value_turned}
use Rattle.online_robust.specs.Couples.{Couple, IsCoupleFault, IsJoinedTo, IsReadTo, both_of, turns_left}
use Rattle.online_robust.specs.Tails.{Changes}
use Rattle.pl_signal.specs.declared.faults.OpFault.TheVariants as F
use Rattle.online_robust.proofs.RefusalsBeside.{each_told}
use Rattle.online_robust.proofs.Builts.{tick_between, tick_within}
use Rattle.online_robust.proofs.EdgesChanged.{changed_both, changed_by_loss, changed_by_put, put_but}
use Rattle.online_robust.proofs.LinesGone.{both_of as lost_both}
use Rattle.online_robust.proofs.LinesPut.{put_others}
use Rattle.online_robust.proofs.TwoLemmas.{IsEarlier, IsStop, built_joined, counted_level, joined_fault, joined_held, left_later}
use Rattle.online_robust.proofs.TwoLemmas.{left_level, left_some, left_source, right_later, right_level}
use Rattle.online_robust.proofs.TwoLemmas.{right_some_too, right_source, stop_of, turn_nearer}
use Rattle.online_robust.proofs.pointwise.Two.turn.Goals.{After-earlier-t, After-up_to-x, After-up_to-y, After-left_of}
use Rattle.online_robust.proofs.pointwise.Two.turn.Goals as goal

pub unreachable-requires : goal.unreachable-requires
unreachable-requires c =
    let (x, to, e) = c.requires.joined in
    left_some x c.args.self.now c.args.edges.now (value c.args.tail.now.end.at) to (lt_of_lt_of_le c.requires.order (le_of_same e))
    (sym (rw c.in_default.is at c.ahead.ensures))

pub unreachable-requires-in_default-ahead : goal.unreachable-requires-in_default-ahead
unreachable-requires-in_default-ahead c =
    let (x, to, e) = c.requires.joined in
    right_some_too x c.args.self.now c.args.edges.now (value c.args.tail.now.end.at) to (lt_of_lt_of_le c.requires.order (le_of_same e))
    (sym (rw c.in_default-ahead.is at c.ahead-2.ensures))

-- where the turn stops
stop_at : (c : After-earlier-t) → (x : Couple) → IsJoinedTo x c.args.self.now c.args.edges.now (value c.args.tail.now.end.at) → value c.args.to.now ≈ x.to
    → IsStop (value c.args.tail.now.end.at) c.in-Some.p.now c.in-Some-ahead.q.now (value c.earlier-t.result) (value c.args.to.now)
stop_at c x to e =
    let more = lt_of_lt_of_le c.requires.order (le_of_same e) in
    let first = sym (rw c.in-Some.is at c.ahead.ensures) in
    let second = sym (rw c.in-Some-ahead.is at c.ahead-2.ensures) in
    let of_ends : IsEarlier c.end-p_end.result c.end-q_end.result c.earlier.result =
    record { left = c.earlier.ensures.left; right = c.earlier.ensures.right; one = c.earlier.ensures.one } in
    let of_all : IsEarlier c.earlier.result c.args.to.now c.earlier-t.result =
    record { left = c.earlier-t.ensures.left; right = c.earlier-t.ensures.right; one = c.earlier-t.ensures.one } in
    stop_of (value c.args.tail.now.end.at) c.in-Some.p.now c.in-Some-ahead.q.now c.end-p_end.ensures c.end-q_end.ensures
    (left_later x c.args.self.now c.args.edges.now (value c.args.tail.now.end.at) to more c.in-Some.p.now c.in-Some-ahead.q.now first second)
    (right_later x c.args.self.now c.args.edges.now (value c.args.tail.now.end.at) to more c.in-Some.p.now c.in-Some-ahead.q.now first second)
    c.requires.order of_ends of_all

read_left : (c : After-earlier-t) → (x : Couple) → IsJoinedTo x c.args.self.now c.args.edges.now (value c.args.tail.now.end.at) → value c.args.to.now ≈ x.to
    → IsReadTo (left_source x c.args.self.now (value c.args.tail.now.end.at)) c.in-Some.p.now (value c.earlier-t.result)
    (held_at c.args.edges.now c.args.self.now.left)
read_left c x to e =
    let s = stop_at c x to e in
    record { ahead = to.left; first = sym (rw c.in-Some.is at c.ahead.ensures); after = s.after; before = s.left }

read_right : (c : After-up_to-x) → (x : Couple) → IsJoinedTo x c.args.self.now c.args.edges.now (value c.args.tail.now.end.at) → value c.args.to.now ≈ x.to
    → IsStop (value c.args.tail.now.end.at) c.in-Some.p.now c.in-Some-ahead.q.now (value c.earlier-t.result) (value c.args.to.now)
    → IsReadTo (right_source x c.args.self.now (value c.args.tail.now.end.at)) c.in-Some-ahead.q.now (value c.earlier-t.result)
    (held_at c.up_to-x.new.edges c.args.self.now.right)
read_right c x to e s =
    let same : held_at c.args.edges.now c.args.self.now.right ≡ held_at c.up_to-x.new.edges c.args.self.now.right =
    sym (ap held_of (c.up_to-x.ensures.lost.others c.args.self.now.right (λ f. to.apart (sym f)))) in
    record {
      ahead = subst (λ (l : _). IsAhead (Robustness x.right x.trace) x.reach (value c.args.tail.now.end.at) x.right_to l) same to.right;
      first = subst (λ (l : _). slice_get l 0 ≡ Some c.in-Some-ahead.q.now) same (sym (rw c.in-Some-ahead.is at c.ahead-2.ensures));
      after = s.after;
      before = s.right;
    }

tick_at : (c : After-earlier-t) → (x : Couple) → IsJoinedTo x c.args.self.now c.args.edges.now (value c.args.tail.now.end.at) → value c.args.to.now ≈ x.to
    → IsTick (value c.earlier-t.result)
tick_at c x to e =
    let s = stop_at c x to e in
    tick_between to.span.begin to.span.end (le_trans to.span.first (le_trans to.from (le_of_lt s.after))) (le_trans s.by (le_of_same e))

pub up_to-x-requires-clause-read : goal.up_to-x-requires-clause-read
up_to-x-requires-clause-read c =
    let (x, to, e) = c.requires.joined in (
      left_source x c.args.self.now (value c.args.tail.now.end.at),
      c.in-Some.p.now,
      c.end-p_end.ensures,
      c.margin-p_shape.ensures,
      read_left (goal.at.up_to-x-requires-clause-read c).After-earlier-t x to e,
    )

pub up_to-y-requires-clause-of : goal.up_to-y-requires-clause-of
up_to-y-requires-clause-of c =
    let (x, to, e) = c.requires.joined in
    let within = to.right_in in
    omega (arith, within, c.up_to-x.ensures.lost.edges)

pub up_to-y-requires-clause-read : goal.up_to-y-requires-clause-read
up_to-y-requires-clause-read c =
    let (x, to, e) = c.requires.joined in (
      right_source x c.args.self.now (value c.args.tail.now.end.at),
      c.in-Some-ahead.q.now,
      c.end-q_end.ensures,
      c.margin-q_shape.ensures,
      read_right (goal.at.up_to-y-requires-clause-read c).After-up_to-x x to e
          (stop_at (goal.at.up_to-y-requires-clause-read c).After-earlier-t x to e),
    )

there_left : (c : After-up_to-y) → (x : Couple)
    → IsReadTo (left_source x c.args.self.now (value c.args.tail.now.end.at)) c.in-Some.p.now (value c.earlier-t.result)
    (held_at c.args.edges.now c.args.self.now.left) → IsThere (Robustness x.left x.trace) x.reach (value c.earlier-t.result) c.up_to-x.result
there_left c x read = c.up_to-x.ensures.there (left_source x c.args.self.now (value c.args.tail.now.end.at)) c.in-Some.p.now c.end-p_end.ensures
    c.margin-p_shape.ensures read

there_right : (c : After-up_to-y) → (x : Couple) → IsReadTo (right_source x c.args.self.now (value c.args.tail.now.end.at)) c.in-Some-ahead.q.now
    (value c.earlier-t.result) (held_at c.up_to-x.new.edges c.args.self.now.right)
    → IsThere (Robustness x.right x.trace) x.reach (value c.earlier-t.result) c.up_to-y.result
there_right c x read = c.up_to-y.ensures.there (right_source x c.args.self.now (value c.args.tail.now.end.at)) c.in-Some-ahead.q.now c.end-q_end.ensures
    c.margin-q_shape.ensures read

pub of_both-value-requires : goal.of_both-value-requires
of_both-value-requires c =
    let (x, to, e) = c.requires.joined in
    let step = (goal.at.of_both-value-requires c).After-earlier-t in (
      x,
      there_left (goal.at.of_both-value-requires c).After-up_to-y x (read_left step x to e),
      there_right (goal.at.of_both-value-requires c).After-up_to-y x
          (read_right (goal.at.of_both-value-requires c).After-up_to-x x to e (stop_at step x to e)),
      tick_at step x to e,
    )

pub left_of-requires : goal.left_of-requires
left_of-requires c =
    let (x, to, e) = c.requires.joined in
    subst (λ (m : Margin). HasBoundedLevel (2 ^ 31) (margin_function m)) (sym c.margin-p_shape.ensures)
    (left_level x c.args.self.now c.args.edges.now (value c.args.tail.now.end.at) to
    (lt_of_lt_of_le c.requires.order (le_of_same e)) c.in-Some.p.now c.in-Some-ahead.q.now
    (sym (rw c.in-Some.is at c.ahead.ensures)) (sym (rw c.in-Some-ahead.is at c.ahead-2.ensures)))

pub join-requires-clause-edge : goal.join-requires-clause-edge
join-requires-clause-edge c = omega (arith, c.requires.edge, c.up_to-x.ensures.lost.edges, c.up_to-y.ensures.lost.edges)

pub join-requires-clause-order : goal.join-requires-clause-order
join-requires-clause-order c =
    let (x, to, e) = c.requires.joined in (stop_at (goal.at.join-requires-clause-order c).After-earlier-t x to e).after

pub join-requires-clause-from_within : goal.join-requires-clause-from_within
join-requires-clause-from_within c =
    let (x, to, e) = c.requires.joined in tick_within (tick_between to.span.begin to.span.end (le_trans to.span.first to.from) to.to)

pub join-requires-clause-to_within : goal.join-requires-clause-to_within
join-requires-clause-to_within c =
    let (x, to, e) = c.requires.joined in
    tick_within (tick_at (goal.at.join-requires-clause-to_within c).After-earlier-t x to e)

-- what the left input counts as
turned_at : (c : After-left_of) → (t : Rational)
    → value_at (margin_function c.left_of.result) t ≈ᵉ value_turned c.args.self.now.turned (value_at (margin_function (margin_of c.in-Some.p.now)) t)
turned_at c t = subst
    (λ (m : Margin). value_at (margin_function c.left_of.result) t ≈ᵉ value_turned c.args.self.now.turned (value_at (margin_function m) t))
    c.margin-p_shape.ensures (c.left_of.ensures.value t)

based_at : (c : After-left_of) → IsTrue (is_ramp c.left_of.result)
    → IsTrue (is_ramp (margin_of c.in-Some.p.now)) × (margin_base c.left_of.result ≡ margin_base (margin_of c.in-Some.p.now))
based_at c = subst
    (λ (m : Margin). IsTrue (is_ramp c.left_of.result) → IsTrue (is_ramp m) × (margin_base c.left_of.result ≡ margin_base m))
    c.margin-p_shape.ensures c.left_of.ensures.base

pub join-requires-clause-first : goal.join-requires-clause-first
join-requires-clause-first c =
    let (x, to, e) = c.requires.joined in
    counted_level x c.args.self.now c.args.edges.now (value c.args.tail.now.end.at) to
    (lt_of_lt_of_le c.requires.order (le_of_same e)) c.in-Some.p.now c.in-Some-ahead.q.now
    (sym (rw c.in-Some.is at c.ahead.ensures)) (sym (rw c.in-Some-ahead.is at c.ahead-2.ensures)) c.left_of.result
    (turned_at (goal.at.join-requires-clause-first c).After-left_of) (based_at (goal.at.join-requires-clause-first c).After-left_of)

pub join-requires-clause-second : goal.join-requires-clause-second
join-requires-clause-second c =
    let (x, to, e) = c.requires.joined in
    subst (λ (m : Margin). HasBoundedLevel (2 ^ 31) (margin_function m)) (sym c.margin-q_shape.ensures)
    (right_level x c.args.self.now c.args.edges.now (value c.args.tail.now.end.at) to
    (lt_of_lt_of_le c.requires.order (le_of_same e)) c.in-Some.p.now c.in-Some-ahead.q.now
    (sym (rw c.in-Some.is at c.ahead.ensures)) (sym (rw c.in-Some-ahead.is at c.ahead-2.ensures)))

pub returns-clause-wide : goal.returns-clause-wide
returns-clause-wide c x to e =
    let step = (goal.at.returns-clause-wide c).After-earlier-t in
    let left = (goal.at.returns-clause-wide c).After-left_of in
    let s = stop_at step x to e in
    on_err_weaker c.join.result
    (λ wide. each_told (IsCoupleFault x c.args.self.now) c.join.new.fault tt wide
    (λ pair fault. joined_fault x c.args.self.now c.args.edges.now (value c.args.tail.now.end.at) to
    (lt_of_lt_of_le c.requires.order (le_of_same e)) c.in-Some.p.now c.in-Some-ahead.q.now (sym (rw c.in-Some.is at c.ahead.ensures))
    (sym (rw c.in-Some-ahead.is at c.ahead-2.ensures)) c.left_of.result (turned_at left) (based_at left)
    c.earlier-t.result s.left s.right s.after (le_trans s.by (le_of_same e)) c.args.tail.now.end.at (same_refl (value c.args.tail.now.end.at))
    (F.Wide pair)
    (subst (λ (m : Margin). IsGapFault margin_shape c.left_of.result m c.args.tail.now.end.at c.earlier-t.result (F.Wide pair)) c.margin-q_shape.ensures
    fault)))
    c.join.ensures.wide

-- both inputs' edges are read as far
lost : (c : After-up_to-y) → LosesAtBoth (value c.earlier-t.result) c.args.self.now.left c.args.self.now.right c.args.edges.now c.up_to-y.new.edges
lost c = let (x, to, e) = c.requires.joined in lost_both to.apart c.up_to-x.ensures.lost c.up_to-y.ensures.lost

pub returns-clause-reached : goal.returns-clause-reached
returns-clause-reached c x to e =
    let step = (goal.at.returns-clause-reached c).After-earlier-t in
    on_ok_weaker c.join.result
    (λ j. subst (λ r. HasReached (both_of x c.args.self.now) x.reach (value r.at) (Some r)) (sym j.end) (
      same_refl (value c.earlier-t.result),
      tick_at step x to e,
      c.of_both-value.ensures x (there_left (goal.at.returns-clause-reached c).After-up_to-y x (read_left step x to e))
          (there_right (goal.at.returns-clause-reached c).After-up_to-y x
          (read_right (goal.at.returns-clause-reached c).After-up_to-x x to e (stop_at step x to e))),
    ))
    c.join.ensures.joined

pub returns-clause-joined : goal.returns-clause-joined
returns-clause-joined c x to e =
    let step = (goal.at.returns-clause-joined c).After-earlier-t in
    let s = stop_at step x to e in
    let same : held_at c.up_to-x.new.edges c.args.self.now.left ≡ held_at c.up_to-y.new.edges c.args.self.now.left =
    sym (ap held_of (c.up_to-y.ensures.lost.others c.args.self.now.left to.apart)) in
    let left_in = to.left_in in
    let right_in = to.right_in in
    let read : IsJoinedTo x c.args.self.now c.up_to-y.new.edges (value c.earlier-t.result) =
    record {
      span = to.span;
      left_in = omega (arith, left_in, c.up_to-x.ensures.lost.edges, c.up_to-y.ensures.lost.edges);
      right_in = omega (arith, right_in, c.up_to-x.ensures.lost.edges, c.up_to-y.ensures.lost.edges);
      apart = to.apart;
      from = le_trans to.from (le_of_lt s.after);
      to = le_trans s.by (le_of_same e);
      left = subst (λ (l : _). IsAhead (Robustness x.left x.trace) x.reach (value c.earlier-t.result) x.left_to l) same
          (c.up_to-x.ensures.ahead (left_source x c.args.self.now (value c.args.tail.now.end.at)) c.in-Some.p.now c.end-p_end.ensures
          c.margin-p_shape.ensures (read_left step x to e));
      right = c.up_to-y.ensures.ahead (right_source x c.args.self.now (value c.args.tail.now.end.at)) c.in-Some-ahead.q.now c.end-q_end.ensures
          c.margin-q_shape.ensures
          (read_right (goal.at.returns-clause-joined c).After-up_to-x x to e s);
    } in
    on_ok_weaker c.join.result
    (λ j. subst (λ r. IsJoinedTo x c.args.self.now c.join.new.edges (value r.at)) (sym j.end)
    (joined_held x c.args.self.now (put_but j.put) c.requires.apart.0 c.requires.apart.1 read))
    c.join.ensures.joined

pub returns-clause-turned : goal.returns-clause-turned
returns-clause-turned c =
    let op = c.args.self.now in
    let step = (goal.at.returns-clause-turned c).After-earlier-t in
    let left = (goal.at.returns-clause-turned c).After-left_of in
    let lost = lost (goal.at.returns-clause-turned c).After-up_to-y in
    on_ok_weaker c.join.result
    (λ j. record {
      more = j.more;
      changes = subst (λ r. Changes (value r.at) op.left op.right c.args.node j.more c.args.edges.now c.join.new.edges) (sym j.end)
          (changed_both c.requires.apart.0 c.requires.apart.1 (changed_by_loss c.requires.apart.0 c.requires.apart.1 lost)
          (changed_by_put c.requires.apart.0 c.requires.apart.1 (omega (arith, c.requires.edge, lost.edges)) j.put));
      on = λ first ks put tail signal.
          let (ks', joins, tail') = j.on first ks put tail signal in (
            ks',
            (
              joins.signal,
              λ x to e built.
                  let s = stop_at step x to e in
                  subst (λ r. IsBuilt (both_of x op) x.reach x.from (value r.at) ks') (sym j.end)
                  (built_joined x op c.args.edges.now (value c.args.tail.now.end.at) to (lt_of_lt_of_le c.requires.order (le_of_same e))
                  c.in-Some.p.now c.in-Some-ahead.q.now (sym (rw c.in-Some.is at c.ahead.ensures)) (sym (rw c.in-Some-ahead.is at c.ahead-2.ensures))
                  c.left_of.result (turned_at left) (based_at left) c.earlier-t.result s.left s.right s.after (le_trans s.by (le_of_same e))
                  c.of_both-value.result ks ks' built
                  (subst (λ (m : Margin). Joins margin_shape op.side ks c.left_of.result m c.earlier-t.result c.of_both-value.result ks')
                  c.margin-q_shape.ensures joins)
                  (c.of_both-value.ensures x (there_left (goal.at.returns-clause-turned c).After-up_to-y x (read_left step x to e))
                  (there_right (goal.at.returns-clause-turned c).After-up_to-y x
                  (read_right (goal.at.returns-clause-turned c).After-up_to-x x to e s)))),
            ),
            tail',
          );
    })
    c.join.ensures.joined

pub returns-clause-nearer : goal.returns-clause-nearer
returns-clause-nearer c =
    let (x, to, e) = c.requires.joined in
    let op = c.args.self.now in
    let s = stop_at (goal.at.returns-clause-nearer c).After-earlier-t x to e in
    let left : length (held_at c.up_to-x.new.edges op.left) ≡ length (held_at c.up_to-y.new.edges op.left) =
    ap (λ (l : _). length l) (sym (ap held_of (c.up_to-y.ensures.lost.others op.left to.apart))) in
    let right : length (held_at c.args.edges.now op.right) ≡ length (held_at c.up_to-x.new.edges op.right) =
    ap (λ (l : _). length l) (sym (ap held_of (c.up_to-x.ensures.lost.others op.right (λ f. to.apart (sym f))))) in
    let left_no_more = c.up_to-x.ensures.no_more in
    let right_no_more = c.up_to-y.ensures.no_more in
    on_ok_weaker c.join.result
    (λ j.
    let left' : length (held_at c.join.new.edges op.left) ≡ length (held_at c.up_to-y.new.edges op.left) =
    ap (λ e. length (held_of e)) (put_others j.put op.left (λ f. c.requires.apart.0 (sym f))) in
    let right' : length (held_at c.join.new.edges op.right) ≡ length (held_at c.up_to-y.new.edges op.right) =
    ap (λ e. length (held_of e)) (put_others j.put op.right (λ f. c.requires.apart.1 (sym f))) in
    subst (λ r. turns_left op c.join.new.edges (value r.at) (value c.args.to.now) < turns_left op c.args.edges.now (value c.args.tail.now.end.at)
    (value c.args.to.now)) (sym j.end)
    (turn_nearer (length (held_at c.args.edges.now op.left)) (length (held_at c.join.new.edges op.left))
    (length (held_at c.args.edges.now op.right)) (length (held_at c.join.new.edges op.right))
    (value c.args.tail.now.end.at) (value c.earlier-t.result) (value c.args.to.now) c.requires.order (omega (arith, left, left', left_no_more))
    (omega (arith, right, right', right_no_more))
    (elim s.one [
      | inl h ↦ inl (let fewer = c.up_to-x.ensures.fewer (subst (λ (f : Frac). value f ≈ value c.earlier-t.result) (sym c.end-p_end.ensures) h) in
          omega (arith, left, left', fewer))
      | inr o ↦ elim o [
        | inl h ↦ inr (inl (let fewer = c.up_to-y.ensures.fewer (subst (λ (f : Frac). value f ≈ value c.earlier-t.result) (sym c.end-q_end.ensures) h) in
            omega (arith, right, right', fewer)))
        | inr h ↦ inr (inr h)
      ]
    ])))
    c.join.ensures.joined
