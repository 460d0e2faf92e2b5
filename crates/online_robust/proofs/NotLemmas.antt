-- How a negation goes through its input.
use Rattle.std.proofs.Common.{◌≡◌, ◌≢◌, ℕ, ◌<◌, ◌^◌, true, List, ◌∷◌, Some, None, sym, ap, subst, ◌∙◌, length, slice_get, arith}
use Rattle.std.specs.Prelude.{IsTrue}
use Rattle.rational.specs.Time.{Rational, ◌≈◌, ◌≤ʳ◌, ◌<ʳ◌}
use Rattle.rational.specs.Extended.{opposite, value_at, ◌≈ᵉ◌}
use Rattle.rational.specs.Affine.{HasBoundedLevel}
use Rattle.rational.proofs.Order.{le_refl, le_of_lt, le_of_same, ge_of_same, le_trans, lt_of_le_of_lt, lt_of_lt_of_le, same_refl}
use Rattle.rational.proofs.Bounds.{level_bounded}
use Rattle.frac128.specs.Value.{value}
use Rattle.frac128.specs.declared.frac.Frac.{Frac}
use Rattle.value_laws.specs.Kinds.{margin_shape}
use Rattle.value_laws.specs.Margins.{is_ramp, margin_base, margin_function}
use Rattle.value_laws.specs.declared.margin.Margin.{Margin}
use Rattle.pl_signal.specs.declared.knot.Knot.{Knot}
use Rattle.pl_signal.specs.Building.{GoesOn}
use Rattle.stl_syntax.specs.SupInf.{Robustness}
use Rattle.online_robust.specs.Lines.{end_of, margin_of}
use Rattle.online_robust.specs.Held.{Held, edge_at, held_at, held_of, with_edge, without}
use Rattle.online_robust.specs.Told.{IsMovedBy, IsTick}
use Rattle.online_robust.specs.ReadLines.{Begins, HasReached, IsAhead, IsBuilt, IsReady, IsThere, LosesAt}
use Rattle.online_robust.specs.Couples.{CanNegate, Couple, IsNegatedTo, left_of, turns_left_of}
use Rattle.online_robust.specs.declared.line.MarginLine.{MarginLine}
use Rattle.online_robust.specs.declared.line.MarginLine.TheVariants.{Point, Gap}
use Rattle.online_robust.specs.declared.pointwise.Not.{Not}
use Rattle.online_robust.proofs.Builts.{built_on}
use Rattle.online_robust.proofs.ChosenMargins.{moved_as, turned_is_function, turned_there}
use Rattle.online_robust.proofs.EdgesChanged.{AreSameBut}
use Rattle.online_robust.proofs.JoinedLemmas.{FirstGap, ahead_same, ahead_next, first_gap, joined_to, there_at, there_in}
use Rattle.online_robust.proofs.LinesGone.{took_held}
use Rattle.online_robust.proofs.PointwiseLemmas.{TakesTwo, begun_point, begun_rest, is_gap, is_point, is_rest, two_lost}
use Rattle.online_robust.proofs.Robustly.{robust_is_function}

-- the margin is minus the other
pub record IsMinus (p q : Margin) : Type 0 where
  -- the one is minus the other
  pub value : (t : Rational) → value_at (margin_function q) t ≈ᵉ opposite (value_at (margin_function p) t)
  -- with the same base
  pub base : IsTrue (is_ramp q) → IsTrue (is_ramp p) × (margin_base q ≡ margin_base p)

module _ (x : Couple) (op : Not) where
  -- minus what is there is there
  minus_there : {t : Rational} (p q : Margin) → IsThere (Robustness x.left x.trace) x.reach t p → IsMinus p q → IsThere (left_of x true) x.reach t q
  minus_there {t} p q there minus =
      turned_there true (Robustness x.left x.trace) x.reach t p q (robust_is_function x.left x.trace) there (minus.value t) minus.base

  -- the time by another pair
  pub negated_same : (e : Held) {t u : Rational} → t ≈ u → IsNegatedTo x op e t → IsNegatedTo x op e u
  negated_same e {t} {u} same to = record {
    span = to.span;
    of_in = to.of_in;
    all = to.all;
    from = le_trans to.from (le_of_same same);
    to = le_trans (ge_of_same same) to.to;
    of = ahead_same (Robustness x.left x.trace) x.reach t u x.left_to (held_at e op.of) same to.of;
  }

  -- where nothing was told, the input begins with the point at the start
  pub begins : (e : Held) → CanNegate x op e → op.last ≡ None → Begins (Robustness x.left x.trace) x.reach x.from x.left_to (held_at e op.of)
  begins e can none = subst (IsReady (Robustness x.left x.trace) x.reach x.from x.left_to (held_at e op.of)) none can.of

  -- where the input's edge is the same it is negated as far
  pub negated_held : {node : ℕ} {e f : Held} {at : Rational} → AreSameBut node e f → node ≢ op.of → IsNegatedTo x op e at → IsNegatedTo x op f at
  negated_held {at = at} but apart to =
      let of_in = to.of_in in
      record {
        span = to.span;
        of_in = omega (arith, of_in, but.edges);
        all = to.all;
        from = to.from;
        to = to.to;
        of = subst (IsAhead (Robustness x.left x.trace) x.reach at x.left_to) (sym (ap held_of (but.others op.of (λ e. apart (sym e))))) to.of;
      }

  -- it was told up to where it stood
  pub stood : (e : Held) (r : _) → CanNegate x op e → op.last ≡ Some r → HasReached (left_of x true) x.reach x.from (Some r)
  stood e r can is = subst (HasReached (left_of x true) x.reach x.from) is can.last

  -- a negation that has told stands there
  pub stood_to : (e : Held) (r : _) → CanNegate x op e → op.last ≡ Some r → IsNegatedTo x op e (value r.at)
  stood_to e r can is =
      let reached = stood e r can is in
      record {
        span = can.span;
        of_in = can.of_in;
        all = can.all;
        from = ge_of_same reached.0;
        to = le_trans (le_of_same reached.0) can.span.order;
        of = subst (IsReady (Robustness x.left x.trace) x.reach x.from x.left_to (held_at e op.of)) is can.of;
      }

  module _ (old : Held) (v : MarginLine) (can : CanNegate x op old) (none : op.last ≡ None) (first : slice_get (held_at old op.of) 0 ≡ Some v) where
    is_v : v ≡ Point (begins old can none).at (begins old can none).v
    is_v = begun_point (begins old can none) v first

    -- the input begins with that point
    pub first_there : IsThere (Robustness x.left x.trace) x.reach (value (end_of v)) (margin_of v)
    first_there = subst (λ (m : MarginLine). IsThere (Robustness x.left x.trace) x.reach (value (end_of m)) (margin_of m))
        (sym is_v) (begins old can none).there

    -- the first point is at the start
    pub first_when : value (end_of v) ≈ x.from
    first_when = subst (λ (m : MarginLine). value (end_of m) ≈ x.from) (sym is_v) (begins old can none).when

    -- the first point's time is a tick
    pub first_tick : IsTick (value (end_of v))
    first_tick = subst (λ (m : MarginLine). IsTick (value (end_of m))) (sym is_v) (begins old can none).tick

    -- minus the first point is what the node has reached
    pub first_reached : (at : Frac) (q : Margin) → at ≡ end_of v → IsMinus (margin_of v) q
        → HasReached (left_of x true) x.reach x.from (Some (record { at = at; value = q }))
    first_reached at q e minus = subst (λ (f : Frac). HasReached (left_of x true) x.reach x.from (Some (record { at = f; value = q }))) (sym e)
        (first_when, first_tick, minus_there (margin_of v) q first_there minus)

    -- the first point was taken
    pub first_negated : (new : Held) → new.edges ≡ with_edge old op.of (without 1 (edge_at old op.of))
        → length new.edges ≡ length old.edges → (at : Frac) → at ≡ end_of v
        → IsNegatedTo x op new (value at)
    first_negated new taken count at e = subst (λ (f : Frac). IsNegatedTo x op new (value f)) (sym e) (record {
      span = can.span;
      of_in = omega (arith, can.of_in, count);
      all = can.all;
      from = ge_of_same first_when;
      to = le_trans (le_of_same first_when) can.span.order;
      of = subst (λ (l : List MarginLine). IsAhead (Robustness x.left x.trace) x.reach (value (end_of v)) x.left_to l)
          (sym (took_held op.of old new can.of_in taken ∙ begun_rest (begins old can none)))
          (subst (λ (m : MarginLine). IsAhead (Robustness x.left x.trace) x.reach (value (end_of m)) x.left_to (begins old can none).rest) (sym is_v)
          (begins old can none).ahead);
    })

  -- a gap and its point are negated
  module _ {old mid new : Held} {gap point : MarginLine} {at : Rational} (to : IsNegatedTo x op old at) (more : at <ʳ x.to)
      (two : TakesTwo old mid new op.of gap point) where
    g : FirstGap (Robustness x.left x.trace) x.reach at x.left_to (held_at old op.of)
    g = first_gap (Robustness x.left x.trace) x.reach at x.left_to (held_at old op.of) to.of (lt_of_lt_of_le more (ge_of_same to.all))

    -- the gap's margin is bounded
    pub gap_level : HasBoundedLevel (2 ^ 31) (margin_function (margin_of gap))
    gap_level = subst (λ (m : MarginLine). HasBoundedLevel (2 ^ 31) (margin_function (margin_of m))) (sym (is_gap two g))
        (level_bounded (2 ^ 31) (margin_function g.p) (value g.a) g.gap_fit.2)

    -- the point's margin is bounded
    pub point_level : HasBoundedLevel (2 ^ 31) (margin_function (margin_of point))
    point_level = subst (λ (m : MarginLine). HasBoundedLevel (2 ^ 31) (margin_function (margin_of m))) (sym (is_point two g))
        (level_bounded (2 ^ 31) (margin_function g.v) (value g.u) g.point_fit.1)

    -- the point lies behind the time that was reached
    pub later_point : at <ʳ value (end_of point)
    later_point = subst (λ (m : MarginLine). at <ʳ value (end_of m)) (sym (is_point two g)) (lt_of_lt_of_le g.later (le_of_same g.ends))

    -- the point's time is a tick
    pub point_tick : IsTick (value (end_of point))
    point_tick = subst (λ (m : MarginLine). IsTick (value (end_of m))) (sym (is_point two g)) g.point_fit.0

    -- the input has the point's margin there
    pub point_there : IsThere (Robustness x.left x.trace) x.reach (value (end_of point)) (margin_of point)
    point_there = subst (λ (m : MarginLine). IsThere (Robustness x.left x.trace) x.reach (value (end_of m)) (margin_of m)) (sym (is_point two g))
        (there_at (Robustness x.left x.trace) x.reach (robust_is_function x.left x.trace) g.u g.v (value g.u) g.point g.point_fit (same_refl (value g.u)))

    -- minus the point is what the node has reached
    pub point_reached : (f : Frac) (q : Margin) → f ≡ end_of point → IsMinus (margin_of point) q
        → HasReached (left_of x true) x.reach (value f) (Some (record { at = f; value = q }))
    point_reached f q e minus = subst (λ (f : Frac). HasReached (left_of x true) x.reach (value f) (Some (record { at = f; value = q }))) (sym e)
        (same_refl (value (end_of point)), point_tick, minus_there (margin_of point) q point_there minus)

    -- the gap and the point were taken
    pub point_negated : (f : Frac) → f ≡ end_of point → IsNegatedTo x op new (value f)
    point_negated f e = subst (λ (f : Frac). IsNegatedTo x op new (value f)) (sym e) (record {
      span = to.span;
      of_in = omega (arith, to.of_in, (two_lost two (value (end_of point)) ends_by (le_refl (value (end_of point)))).edges);
      all = to.all;
      from = le_trans to.from (le_of_lt later_point);
      to = le_trans (subst (λ (m : MarginLine). value (end_of m) ≤ʳ x.left_to) (sym (is_point two g)) (joined_to (value g.u) x.left_to
          (Robustness x.left x.trace) g.rest g.told g.joined)) (le_of_same to.all);
      of = subst (λ (l : List MarginLine). IsAhead (Robustness x.left x.trace) x.reach (value (end_of point)) x.left_to l) (sym (is_rest two g))
          (ahead_next (Robustness x.left x.trace) x.reach (robust_is_function x.left x.trace) at x.left_to (held_at old op.of) g (value (end_of point))
          (subst (λ (m : MarginLine). value g.b ≈ value (end_of m)) (sym (is_point two g)) g.ends));
    })
      where
        ends_by : value (end_of gap) ≤ʳ value (end_of point)
        ends_by = subst (λ (m : MarginLine). value (end_of m) ≤ʳ value (end_of point)) (sym (is_gap two g))
            (subst (λ (m : MarginLine). value g.b ≤ʳ value (end_of m)) (sym (is_point two g)) (le_of_same g.ends))

    -- two lines are gone
    pub two_lost_here : LosesAt (value (end_of point)) op.of old new
    two_lost_here = two_lost two (value (end_of point))
        (subst (λ (m : MarginLine). value (end_of m) ≤ʳ value (end_of point)) (sym (is_gap two g))
        (subst (λ (m : MarginLine). value g.b ≤ʳ value (end_of m)) (sym (is_point two g)) (le_of_same g.ends))) (le_refl (value (end_of point)))

    -- two lines fewer make fewer turns
    pub fewer_left : turns_left_of op new < turns_left_of op old
    fewer_left =
        let is : length (held_at new op.of) ≡ length g.rest = ap (λ (l : List MarginLine). length l) (is_rest two g) in
        let all : length (held_at old op.of) ≡ length (Gap g.a g.b g.p ∷ Point g.u g.v ∷ g.rest) = ap (λ (l : List MarginLine). length l) g.is in
        omega (arith, is, all)

    -- minus the gap and the point goes on what was built
    pub built_more : (old_ks new_ks : List (Knot Margin)) (f : Frac) (p q : Margin) → f ≡ end_of point → IsMinus (margin_of gap) p → IsMinus (margin_of point) q
        → IsBuilt (left_of x true) x.reach x.from at old_ks → GoesOn margin_shape old_ks p f q new_ks → IsBuilt (left_of x true) x.reach x.from (value f) new_ks
    built_more old_ks new_ks f p q e minus_gap minus_point built on =
        built_on (left_of x true) x.reach (turned_is_function true (Robustness x.left x.trace) (robust_is_function x.left x.trace))
        x.from at old_ks new_ks built p q f on
        (λ t a b. minus_there (margin_of gap) p (in_gap t a (subst (λ (f : Frac). t <ʳ value f) e b)) minus_gap)
        (moved_as x.reach (margin_of gap) p minus_gap.base (subst (λ (m : MarginLine). IsMovedBy x.reach (margin_of m)) (sym (is_gap two g)) g.gap_fit.4))
        (subst (λ (f : Frac). IsThere (left_of x true) x.reach (value f) q) (sym e) (minus_there (margin_of point) q point_there minus_point))
      where
        in_gap : (t : Rational) → at <ʳ t → t <ʳ value (end_of point) → IsThere (Robustness x.left x.trace) x.reach t (margin_of gap)
        in_gap t a b = subst (λ (m : MarginLine). IsThere (Robustness x.left x.trace) x.reach t (margin_of m)) (sym (is_gap two g))
            (there_in (Robustness x.left x.trace) x.reach (robust_is_function x.left x.trace) g.a g.b g.p t g.gap g.gap_fit (lt_of_le_of_lt g.begun a)
            (lt_of_lt_of_le (subst (λ (m : MarginLine). t <ʳ value (end_of m)) (is_point two g) b) (ge_of_same g.ends)))
