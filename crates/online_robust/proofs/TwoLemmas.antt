-- How a connective goes through its inputs.
use Rattle.std.proofs.Common.{◌≡◌, ◌≢◌, ◌⊎◌, inl, inr, ℕ, ◌+◌, ◌<◌, ◌≤◌, ◌^◌, List, Some, None, sym, ap, subst, ◌∙◌, length, drop, slice_get, arith}
use Rattle.std.specs.Prelude.{Bool, IsTrue, if◌then◌else◌}
use Rattle.rational.specs.Rational.{middle}
use Rattle.rational.specs.Time.{Rational, less, ◌≈◌, ◌≤ʳ◌, ◌<ʳ◌}
use Rattle.rational.specs.Extended.{value_at, ◌≈ᵉ◌}
use Rattle.rational.specs.Affine.{HasBoundedLevel}
use Rattle.rational.specs.Windows.{Function}
use Rattle.rational.proofs.Order.{le_refl, le_of_same, ge_of_same, le_trans, left_of_middle, lt_of_le_of_lt}
use Rattle.rational.proofs.Order.{lt_of_lt_of_le, right_of_middle, same_refl, same_sym, same_trans}
use Rattle.rational.proofs.AffineLemmas.{bounded_same, same_reflᵉ, value_same}
use Rattle.rational.proofs.Bounds.{level_bounded}
use Rattle.rational.proofs.Sames.{symᵉ}
use Rattle.rational.proofs.TimeFunctions.{IsFunction}
use Rattle.rational.proofs.TimeLemmas.{less_in, less_no}
use Rattle.rational.proofs.Tests.{one_at_most}
use Rattle.frac128.specs.Value.{value}
use Rattle.frac128.specs.declared.frac.Frac.{Frac}
use Rattle.value_laws.specs.Kinds.{margin_shape}
use Rattle.value_laws.specs.Margins.{is_ramp, margin_base, margin_function}
use Rattle.value_laws.specs.declared.margin.Margin.{Margin}
use Rattle.pl_signal.specs.declared.knot.Knot.{Knot}
use Rattle.pl_signal.specs.declared.faults.WidePair.TheVariants.{Cross, Value}
use Rattle.pl_signal.specs.declared.faults.OpFault.{OpFault}
use Rattle.pl_signal.specs.declared.faults.OpFault.TheVariants as F
use Rattle.pl_signal.specs.Joining.{IsGapFault, Joins}
use Rattle.stl_syntax.specs.SupInf.{Robustness}
use Rattle.online_robust.specs.Lines.{end_of, margin_of}
use Rattle.online_robust.specs.Held.{Held, edge_at, held_at, held_of, with_edge, without}
use Rattle.online_robust.specs.Told.{IsMovedBy, IsTick}
use Rattle.online_robust.specs.ReadLines.{Begins, HasReached, IsAhead, IsBuilt, IsReady, IsThere, LosesAt, LosesAtBoth, value_turned}
use Rattle.online_robust.specs.Couples.{CanJoin, Couple, IsCoupleFault, IsJoinedTo, Source, both_of, left_of, right_of}
use Rattle.online_robust.specs.declared.line.MarginLine.{MarginLine}
use Rattle.online_robust.specs.declared.line.MarginLine.TheVariants.{Point, Gap}
use Rattle.online_robust.specs.declared.pointwise.Two.{Two}
use Rattle.online_robust.proofs.Builts.{built_join}
use Rattle.online_robust.proofs.ChosenMargins.{chosen_bounded, chosen_is_function, moved_as, turned_is_function, turned_there}
use Rattle.online_robust.proofs.EdgesChanged.{AreSameBut}
use Rattle.online_robust.proofs.JoinedLemmas.{FirstGap, ahead_same, first_gap, first_of, there_in}
use Rattle.online_robust.proofs.LinesGone.{took, took_held, both_of as lost_both}
use Rattle.online_robust.proofs.PointwiseLemmas.{begun_point, begun_rest, begun_some}
use Rattle.online_robust.proofs.Robustly.{robust_is_function}

-- what is there at a time is there at the time by another pair
pub there_same : (P : Function) (reach : ℕ) (t u : Rational) (v : Margin) → IsFunction P → t ≈ u → IsThere P reach t v → IsThere P reach u v
there_same P reach t u v is e h = record {
  told = is.alike t u (value_at (margin_function v) t) (value_at (margin_function v) u) e (value_same (margin_function v) e) h.told;
  bounded = bounded_same (2 ^ 31) (value_at (margin_function v) u) (value_at (margin_function v) t) (symᵉ (value_same (margin_function v) e)) h.bounded;
  moved = h.moved;
}

-- the next stop, no later than the ends of both gaps and the end of the stretch
pub record IsStop (at : Rational) (p q : MarginLine) (t to : Rational) : Type 0 where
  -- the next stop is later
  pub after : at <ʳ t
  -- not behind the left line
  pub left : t ≤ʳ value (end_of p)
  -- nor behind the right one
  pub right : t ≤ʳ value (end_of q)
  -- nor behind the time
  pub by : t ≤ʳ to
  -- but at one of them
  pub one : (value (end_of p) ≈ t) ⊎ (value (end_of q) ≈ t) ⊎ (to ≤ʳ t)

-- a time is the earlier of two
pub record IsEarlier (u v i : Frac) : Type 0 where
  -- not behind the first
  pub left : value i ≤ʳ value u
  -- nor behind the second
  pub right : value i ≤ʳ value v
  -- but at one of them
  pub one : (value i ≡ value u) ⊎ (value i ≡ value v)

-- the least of the three is the next stop
pub stop_of : (at : Rational) (p q : MarginLine) {u v i t to : Frac} → u ≡ end_of p → v ≡ end_of q → at <ʳ value (end_of p) → at <ʳ value (end_of q)
    → at <ʳ value to → IsEarlier u v i → IsEarlier i to t → IsStop at p q (value t) (value to)
stop_of at p q {u} {v} {i} {t} {to} is_u is_v later_p later_q more first second = record {
  after = after second.one first.one;
  left = le_trans second.left (subst (λ (f : Frac). value i ≤ʳ value f) is_u first.left);
  right = le_trans second.left (subst (λ (f : Frac). value i ≤ʳ value f) is_v first.right);
  by = second.right;
  one = which second.one first.one;
}
  where
    after : (value t ≡ value i) ⊎ (value t ≡ value to) → (value i ≡ value u) ⊎ (value i ≡ value v) → at <ʳ value t
    after (inr e) o = subst (λ (z : Rational). at <ʳ z) (sym e) more
    after (inl e) (inl f) = subst (λ (z : Rational). at <ʳ z) (sym (e ∙ f)) (subst (λ (g : Frac). at <ʳ value g) (sym is_u) later_p)
    after (inl e) (inr f) = subst (λ (z : Rational). at <ʳ z) (sym (e ∙ f)) (subst (λ (g : Frac). at <ʳ value g) (sym is_v) later_q)

    which : (value t ≡ value i) ⊎ (value t ≡ value to) → (value i ≡ value u) ⊎ (value i ≡ value v)
        → (value (end_of p) ≈ value t) ⊎ (value (end_of q) ≈ value t) ⊎ (value to ≤ʳ value t)
    which (inr e) o = inr (inr (subst (λ (z : Rational). value to ≤ʳ z) (sym e) (le_refl (value to))))
    which (inl e) (inl f) = inl (subst (λ (z : Rational). value (end_of p) ≈ z) (sym (e ∙ f)) (subst (λ (g : Frac). value (end_of p) ≈ value g) (sym is_u)
        (same_refl (value (end_of p)))))
    which (inl e) (inr f) = inr (inl (subst (λ (z : Rational). value (end_of q) ≈ z) (sym (e ∙ f)) (subst (λ (g : Frac). value (end_of q) ≈ value g) (sym is_v)
        (same_refl (value (end_of q))))))

-- a turn fewer is left
pub turn_nearer : (l m r s : ℕ) (at t to : Rational) → at <ʳ to → m ≤ l → s ≤ r → (m < l) ⊎ (s < r) ⊎ (to ≤ʳ t)
    → m + s + (if less t to then 1 else 0) < l + r + (if less at to then 1 else 0)
turn_nearer l m r s at t to more m_l s_r one = by_one one
  where
    now : ◌≡◌ {A = ℕ} (if less at to then 1 else 0) 1
    now = ap (λ (b : Bool). if b then 1 else 0) (less_in at to more)

    by_one : (m < l) ⊎ (s < r) ⊎ (to ≤ʳ t) → m + s + (if less t to then 1 else 0) < l + r + (if less at to then 1 else 0)
    by_one (inl h) = omega (arith, now, one_at_most (less t to), h, m_l, s_r)
    by_one (inr (inl h)) = omega (arith, now, one_at_most (less t to), h, m_l, s_r)
    by_one (inr (inr h)) =
        let none : ◌≡◌ {A = ℕ} (if less t to then 1 else 0) 0 = ap (λ (b : Bool). if b then 1 else 0) (less_no t to h) in
        omega (arith, now, none, m_l, s_r)

module _ (x : Couple) (op : Two) where
  -- the node's margin is a function
  pub both_is : IsFunction (both_of x op)
  both_is = chosen_is_function op.side (left_of x op.turned) (right_of x)
      (turned_is_function op.turned (Robustness x.left x.trace) (robust_is_function x.left x.trace)) (robust_is_function x.right x.trace)

  -- the time by another pair
  pub joined_same_time : (e : Held) {t u : Rational} → t ≈ u → IsJoinedTo x op e t → IsJoinedTo x op e u
  joined_same_time e {t} {u} same to = record {
    span = to.span;
    left_in = to.left_in;
    right_in = to.right_in;
    apart = to.apart;
    from = le_trans to.from (le_of_same same);
    to = le_trans (ge_of_same same) to.to;
    left = ahead_same (Robustness x.left x.trace) x.reach t u x.left_to (held_at e op.left) same to.left;
    right = ahead_same (Robustness x.right x.trace) x.reach t u x.right_to (held_at e op.right) same to.right;
  }

  -- where both inputs' edges are the same it is joined as far
  pub joined_held : {node : ℕ} {e f : Held} {at : Rational} → AreSameBut node e f → node ≢ op.left → node ≢ op.right → IsJoinedTo x op e at
      → IsJoinedTo x op f at
  joined_held {at = at} but from_left from_right to =
      let left_in = to.left_in in
      let right_in = to.right_in in
      record {
        span = to.span;
        left_in = omega (arith, left_in, but.edges);
        right_in = omega (arith, right_in, but.edges);
        apart = to.apart;
        from = to.from;
        to = to.to;
        left = subst (IsAhead (Robustness x.left x.trace) x.reach at x.left_to) (sym (ap held_of (but.others op.left (λ e. from_left (sym e))))) to.left;
        right = subst (IsAhead (Robustness x.right x.trace) x.reach at x.right_to) (sym (ap held_of (but.others op.right (λ e. from_right (sym e)))))
            to.right;
      }

  -- a connective that has told stands there
  pub join_stood : (e : Held) (r : _) → CanJoin x op e → op.last ≡ Some r → HasReached (both_of x op) x.reach x.from (Some r)
  join_stood e r can is = subst (HasReached (both_of x op) x.reach x.from) is can.last

  -- both inputs go on from where a connective has told
  pub join_stood_to : (e : Held) (r : _) → CanJoin x op e → op.last ≡ Some r → IsJoinedTo x op e (value r.at)
  join_stood_to e r can is =
      let reached = join_stood e r can is in
      record {
        span = can.span;
        left_in = can.left_in;
        right_in = can.right_in;
        apart = can.apart;
        from = ge_of_same reached.0;
        to = le_trans (le_of_same reached.0) can.span.order;
        left = subst (IsReady (Robustness x.left x.trace) x.reach x.from x.left_to (held_at e op.left)) is can.left;
        right = subst (IsReady (Robustness x.right x.trace) x.reach x.from x.right_to (held_at e op.right)) is can.right;
      }

  -- a connective that has told nothing finds the left input from the start on
  pub left_begins : (e : Held) → CanJoin x op e → op.last ≡ None → Begins (Robustness x.left x.trace) x.reach x.from x.left_to (held_at e op.left)
  left_begins e can none = subst (IsReady (Robustness x.left x.trace) x.reach x.from x.left_to (held_at e op.left)) none can.left

  -- a connective that has told nothing finds the right input from the start on
  pub right_begins : (e : Held) → CanJoin x op e → op.last ≡ None → Begins (Robustness x.right x.trace) x.reach x.from x.right_to (held_at e op.right)
  right_begins e can none = subst (IsReady (Robustness x.right x.trace) x.reach x.from x.right_to (held_at e op.right)) none can.right

  -- the points at the start were taken from both inputs
  module _ (old mid : Held) (v : MarginLine) (can : CanJoin x op old) (none : op.last ≡ None) (first : slice_get (held_at old op.left) 0 ≡ Some v)
      (taken : mid.edges ≡ with_edge old op.left (without 1 (edge_at old op.left))) (start_mid : mid.start ≡ old.start) where
    lost_left : LosesAt (value (end_of v)) op.left old mid
    lost_left = took (value (end_of v)) op.left old mid v can.left_in taken start_mid first (le_refl (value (end_of v)))

    -- the right edge stays while the left one is read
    pub mid_right : held_at mid op.right ≡ held_at old op.right
    mid_right = ap held_of (lost_left.others op.right (λ e. can.apart (sym e)))

    -- there are as many edges once the left one was read
    pub mid_count : length mid.edges ≡ length old.edges
    mid_count = lost_left.edges

    -- the right edge holds a line
    pub right_some : slice_get (held_at mid op.right) 0 ≡ None → ⊥
    right_some e = begun_some (right_begins old can none) (ap (λ (l : List MarginLine). slice_get l 0) (sym mid_right) ∙ e)

    is_v : v ≡ Point (left_begins old can none).at (left_begins old can none).v
    is_v = begun_point (left_begins old can none) v first

    -- the left input begins with that point
    pub left_there : IsThere (Robustness x.left x.trace) x.reach (value (end_of v)) (margin_of v)
    left_there = subst (λ (m : MarginLine). IsThere (Robustness x.left x.trace) x.reach (value (end_of m)) (margin_of m))
        (sym is_v) (left_begins old can none).there

    -- the first point of the left input is at the start
    pub left_when : value (end_of v) ≈ x.from
    left_when = subst (λ (m : MarginLine). value (end_of m) ≈ x.from) (sym is_v) (left_begins old can none).when

    -- the start is a tick
    pub left_tick : IsTick (value (end_of v))
    left_tick = subst (λ (m : MarginLine). IsTick (value (end_of m))) (sym is_v) (left_begins old can none).tick

    module _ (w : MarginLine) (second : slice_get (held_at mid op.right) 0 ≡ Some w) where
      old_second : slice_get (held_at old op.right) 0 ≡ Some w
      old_second = ap (λ (l : List MarginLine). slice_get l 0) (sym mid_right) ∙ second

      is_w : w ≡ Point (right_begins old can none).at (right_begins old can none).v
      is_w = begun_point (right_begins old can none) w old_second

      together : value (end_of w) ≈ value (end_of v)
      together = same_trans (subst (λ (m : MarginLine). value (end_of m) ≈ x.from) (sym is_w) (right_begins old can none).when) (same_sym left_when)

      -- the right input begins with that point
      pub right_there : IsThere (Robustness x.right x.trace) x.reach (value (end_of v)) (margin_of w)
      right_there = there_same (Robustness x.right x.trace) x.reach (value (end_of w)) (value (end_of v)) (margin_of w)
          (robust_is_function x.right x.trace) together
          (subst (λ (m : MarginLine). IsThere (Robustness x.right x.trace) x.reach (value (end_of m)) (margin_of m)) (sym is_w)
          (right_begins old can none).there)

      module _ (new : Held) (taken_too : new.edges ≡ with_edge mid op.right (without 1 (edge_at mid op.right))) (start_new : new.start ≡ mid.start) where
        -- both points are gone
        pub lost_first : LosesAtBoth (value (end_of v)) op.left op.right old new
        lost_first = lost_both can.apart lost_left
            (took (value (end_of v)) op.right mid new w (omega (arith, can.right_in, mid_count)) taken_too start_new second (le_of_same together))

        -- both inputs go on from the first point
        pub join_first : IsJoinedTo x op new (value (end_of v))
        join_first = record {
          span = can.span;
          left_in = omega (arith, can.left_in, lost_first.edges);
          right_in = omega (arith, can.right_in, lost_first.edges);
          apart = can.apart;
          from = ge_of_same left_when;
          to = le_trans (le_of_same left_when) can.span.order;
          left = subst (λ (l : List MarginLine). IsAhead (Robustness x.left x.trace) x.reach (value (end_of v)) x.left_to l) (sym left_rest)
              (subst (λ (m : MarginLine). IsAhead (Robustness x.left x.trace) x.reach (value (end_of m)) x.left_to (left_begins old can none).rest) (sym is_v)
              (left_begins old can none).ahead);
          right = subst (λ (l : List MarginLine). IsAhead (Robustness x.right x.trace) x.reach (value (end_of v)) x.right_to l) (sym right_rest)
              (ahead_same (Robustness x.right x.trace) x.reach (value (end_of w)) (value (end_of v)) x.right_to (right_begins old can none).rest together
              (subst (λ (m : MarginLine). IsAhead (Robustness x.right x.trace) x.reach (value (end_of m)) x.right_to (right_begins old can none).rest)
              (sym is_w)
              (right_begins old can none).ahead));
        }
          where
            lost_right : LosesAt (value (end_of w)) op.right mid new
            lost_right = took (value (end_of w)) op.right mid new w
                (omega (arith, can.right_in, mid_count)) taken_too start_new second (le_refl (value (end_of w)))

            left_rest : held_at new op.left ≡ (left_begins old can none).rest
            left_rest = ap held_of (lost_right.others op.left can.apart) ∙ took_held op.left old mid can.left_in taken ∙ begun_rest (left_begins old can none)

            right_rest : held_at new op.right ≡ (right_begins old can none).rest
            right_rest = took_held op.right mid new (omega (arith, can.right_in, mid_count)) taken_too
                ∙ ap (λ (l : List MarginLine). drop 1 l) (mid_right ∙ (right_begins old can none).is)

  -- the inputs as they are read to a time
  abbrev pub left_source : Rational → Source
  left_source at = record { formula = x.left; trace = x.trace; reach = x.reach; at = at; to = x.left_to }

  abbrev pub right_source : Rational → Source
  right_source at = record { formula = x.right; trace = x.trace; reach = x.reach; at = at; to = x.right_to }

  module _ (e : Held) (at : Rational) (to : IsJoinedTo x op e at) (more : at <ʳ x.to) where
    -- the left edge holds a line
    pub left_some : slice_get (held_at e op.left) 0 ≡ None → ⊥
    left_some none =
        let g = first_gap (Robustness x.left x.trace) x.reach at x.left_to (held_at e op.left) to.left (lt_of_lt_of_le more to.span.left) in
        absurd (let f : Some (Gap g.a g.b g.p) ≡ None = subst (λ (l : List MarginLine). slice_get l 0 ≡ None) g.is none in cc)

    -- the right edge holds a line
    pub right_some_too : slice_get (held_at e op.right) 0 ≡ None → ⊥
    right_some_too none =
        let g = first_gap (Robustness x.right x.trace) x.reach at x.right_to (held_at e op.right) to.right (lt_of_lt_of_le more to.span.right) in
        absurd (let f : Some (Gap g.a g.b g.p) ≡ None = subst (λ (l : List MarginLine). slice_get l 0 ≡ None) g.is none in cc)

    module _ (p q : MarginLine) (first : slice_get (held_at e op.left) 0 ≡ Some p) (second : slice_get (held_at e op.right) 0 ≡ Some q) where
      l : (g : FirstGap (Robustness x.left x.trace) x.reach at x.left_to (held_at e op.left)) × (p ≡ Gap g.a g.b g.p)
      l = first_of (Robustness x.left x.trace) x.reach at x.left_to (held_at e op.left) p to.left first

      r : (g : FirstGap (Robustness x.right x.trace) x.reach at x.right_to (held_at e op.right)) × (q ≡ Gap g.a g.b g.p)
      r = first_of (Robustness x.right x.trace) x.reach at x.right_to (held_at e op.right) q to.right second

      -- the left line ends behind the time that was reached
      pub left_later : at <ʳ value (end_of p)
      left_later = subst (λ (m : MarginLine). at <ʳ value (end_of m)) (sym l.1) l.0.later

      -- the right line ends behind the time that was reached
      pub right_later : at <ʳ value (end_of q)
      right_later = subst (λ (m : MarginLine). at <ʳ value (end_of m)) (sym r.1) r.0.later

      -- the left margin is bounded
      pub left_level : HasBoundedLevel (2 ^ 31) (margin_function (margin_of p))
      left_level = subst (λ (m : MarginLine). HasBoundedLevel (2 ^ 31) (margin_function (margin_of m))) (sym l.1)
          (level_bounded (2 ^ 31) (margin_function l.0.p) (value l.0.a) l.0.gap_fit.2)

      -- the right margin is bounded
      pub right_level : HasBoundedLevel (2 ^ 31) (margin_function (margin_of q))
      right_level = subst (λ (m : MarginLine). HasBoundedLevel (2 ^ 31) (margin_function (margin_of m))) (sym r.1)
          (level_bounded (2 ^ 31) (margin_function r.0.p) (value r.0.a) r.0.gap_fit.2)

      -- the left margin may be moved
      pub left_moved : IsMovedBy x.reach (margin_of p)
      left_moved = subst (λ (m : MarginLine). IsMovedBy x.reach (margin_of m)) (sym l.1) l.0.gap_fit.4

      -- the right margin may be moved
      pub right_moved : IsMovedBy x.reach (margin_of q)
      right_moved = subst (λ (m : MarginLine). IsMovedBy x.reach (margin_of m)) (sym r.1) r.0.gap_fit.4

      -- between here and the first end of a gap both are there
      pub left_on : (t : Rational) → at <ʳ t → t <ʳ value (end_of p) → IsThere (Robustness x.left x.trace) x.reach t (margin_of p)
      left_on t a c = subst (λ (m : MarginLine). IsThere (Robustness x.left x.trace) x.reach t (margin_of m)) (sym l.1)
          (there_in (Robustness x.left x.trace) x.reach (robust_is_function x.left x.trace) l.0.a l.0.b l.0.p t l.0.gap l.0.gap_fit (lt_of_le_of_lt l.0.begun a)
          (subst (λ (m : MarginLine). t <ʳ value (end_of m)) l.1 c))

      -- the right input has its margin up to its end
      pub right_on : (t : Rational) → at <ʳ t → t <ʳ value (end_of q) → IsThere (Robustness x.right x.trace) x.reach t (margin_of q)
      right_on t a c = subst (λ (m : MarginLine). IsThere (Robustness x.right x.trace) x.reach t (margin_of m)) (sym r.1)
          (there_in (Robustness x.right x.trace) x.reach
          (robust_is_function x.right x.trace) r.0.a r.0.b r.0.p t r.0.gap r.0.gap_fit (lt_of_le_of_lt r.0.begun a)
          (subst (λ (m : MarginLine). t <ʳ value (end_of m)) r.1 c))

      -- the left input's margin as it counts
      module _ (m : Margin) (turned : (t : Rational) → value_at (margin_function m) t ≈ᵉ value_turned op.turned (value_at (margin_function (margin_of p)) t))
          (base : IsTrue (is_ramp m) → IsTrue (is_ramp (margin_of p)) × (margin_base m ≡ margin_base (margin_of p))) where
        -- the left input, negated or not, has this margin up to its line's end
        pub counted_on : (t : Rational) → at <ʳ t → t <ʳ value (end_of p) → IsThere (left_of x op.turned) x.reach t m
        counted_on t a c = turned_there op.turned (Robustness x.left x.trace) x.reach t (margin_of p) m (robust_is_function x.left x.trace) (left_on t a c)
            (turned t) base

        -- the margin of the left input, negated or not, is bounded
        pub counted_level : HasBoundedLevel (2 ^ 31) (margin_function m)
        counted_level = level_bounded (2 ^ 31) (margin_function m) (middle at (value (end_of p)))
            (counted_on (middle at (value (end_of p))) (left_of_middle left_later) (right_of_middle left_later)).bounded

        -- the margin of the left input, negated or not, may be moved
        pub counted_moved : IsMovedBy x.reach m
        counted_moved = moved_as x.reach (margin_of p) m base left_moved

        module _ (t : Frac) (before_p : value t ≤ʳ value (end_of p)) (before_q : value t ≤ʳ value (end_of q))
            (after : at <ʳ value t) (by_end : value t ≤ʳ x.to) where
          -- both joined go on what was built
          pub built_joined : (point : Margin) (old_ks new_ks : List (Knot Margin)) → IsBuilt (both_of x op) x.reach x.from at old_ks
              → Joins margin_shape op.side old_ks m (margin_of q) t point new_ks → IsThere (both_of x op) x.reach (value t) point
              → IsBuilt (both_of x op) x.reach x.from (value t) new_ks
          built_joined point old_ks new_ks built joins there =
              built_join (both_of x op) x.reach (chosen_is_function op.side (left_of x op.turned) (right_of x)
              (turned_is_function op.turned (Robustness x.left x.trace) (robust_is_function x.left x.trace)) (robust_is_function x.right x.trace))
              x.from at old_ks new_ks built op.side m (margin_of q) point t joins
              (λ s v a b c.
              let left = counted_on s a (lt_of_lt_of_le b before_p) in
              let right = right_on s a (lt_of_lt_of_le b before_q) in (
                (value_at (margin_function m) s, value_at (margin_function (margin_of q)) s, left.told, right.told, c),
                chosen_bounded (2 ^ 31) op.side (value_at (margin_function m) s) (value_at (margin_function (margin_of q)) s) v c left.bounded right.bounded,
              ))
              counted_moved right_moved there

          -- a crossing that is refused is one of two parts of the inputs
          pub joined_fault : (from : Frac) (stopped : value from ≈ at) (e : OpFault Margin)
              → IsGapFault margin_shape m (margin_of q) from t e → IsCoupleFault x op e
          joined_fault from stopped F.Memory h = tt
          joined_fault from stopped (F.Wide (Cross a b c d den)) (is_a, is_b, is_c, is_d, (s, meet, has, wide)) =
              subst (λ (a : Margin). IsCoupleFault x op (F.Wide (Cross a b c d den))) (sym is_a)
              (subst (λ (b : Margin). IsCoupleFault x op (F.Wide (Cross m b c d den))) (sym is_b)
              (subst (λ (c : Frac). IsCoupleFault x op (F.Wide (Cross m (margin_of q) c d den))) (sym is_c)
              (subst (λ (d : Frac). IsCoupleFault x op (F.Wide (Cross m (margin_of q) from d den))) (sym is_d)
              (record {
                tau = s;
                after_start = lt_of_le_of_lt to.span.first (lt_of_le_of_lt to.from (lt_of_le_of_lt (ge_of_same stopped) meet.after));
                before_stop = lt_of_lt_of_le meet.before (le_trans by_end to.span.last);
                above = meet.after;
                below = meet.before;
                first = (
                  inl (record {
                    a = value from;
                    b = value t;
                    above = meet.after;
                    below = meet.before;
                    on = λ u y z. (
                      value_at (margin_function m) u,
                      (counted_on u (lt_of_le_of_lt (ge_of_same stopped) y) (lt_of_lt_of_le z before_p)).told,
                      same_reflᵉ (value_at (margin_function m) u),
                    );
                  }),
                  lt_of_lt_of_le meet.before by_end,
                );
                second = (
                  inr (record {
                    a = value from;
                    b = value t;
                    above = meet.after;
                    below = meet.before;
                    on = λ u y z. (
                      value_at (margin_function (margin_of q)) u,
                      (right_on u (lt_of_le_of_lt (ge_of_same stopped) y) (lt_of_lt_of_le z before_q)).told,
                      same_reflᵉ (value_at (margin_function (margin_of q)) u),
                    );
                  }),
                  lt_of_lt_of_le meet.before by_end,
                );
                meet = meet.meet;
                alone = meet.alone;
                denominator = has;
                wide = wide;
              }))))
          joined_fault from stopped (F.Wide (Value p at den)) h = absurd h
