-- What an operator keeps in mind of its inputs stays so once their edges let go what is needed no more.
use Rattle.std.proofs.Common.{◌≡◌, ◌⊎◌, inl, inr, refl, sym, ap, subst, ◌∙◌, ℕ, Bool, true, false, Some, List, [], ℤ, pos, neg_ℤ, ◌+ℤ◌, ◌≤ℤ◌, arith}
use Rattle.std.specs.Prelude.{MatchBool, cond, int_lt, not, slice_get}
use Rattle.std.proofs.lemmas.Int.{ints}
use Rattle.rational.specs.Rational.{Rational, ◌≤ʳ◌, ◌<ʳ◌, add, whole}
use Rattle.rational.proofs.Order.{ge_of_same, le_of_lt, le_of_same, le_trans, lt_of_le_of_lt, lt_of_lt_of_le, not_lt_of_le}
use Rattle.rational.proofs.Shift.{le_shift, le_whole, lt_shift}
use Rattle.frac128.specs.Spans.{interval}
use Rattle.frac128.specs.Value.{value}
use Rattle.stl_syntax.specs.Trace.{Trace, start}
use Rattle.stl_syntax.specs.Formula.{Subformula, subformula}
use Rattle.stl_syntax.specs.Truth.{Truth}
use Rattle.stl_syntax.specs.declared.items.Verdict.{Verdict}
use Rattle.online_nodes.specs.Network.{Front, least}
use Rattle.online_nodes.specs.Answering.{IsInput, IsOperand, is_empty, looks_by}
use Rattle.online_nodes.specs.Stepping.{Situation, HasWorkedOut, IsDue, LeavesLater, end_of, first_in, trace_in}
use Rattle.rational.specs.Places.{After, AtMost, Before, Place, Upto, begins, ends, moved_begin}
use Rattle.frac128.specs.Cuts.{place}
use Rattle.online_nodes.specs.Held.{Edge, Held, edge_at, fresh_at, held_of, number_at, IsDroppedBy}
use Rattle.online_nodes.specs.Kinds.{open_by}
use Rattle.online_nodes.specs.Operators.{IsSinceKnown, IsUntilKnown, KnowsBy, first_place, front_place, place_of, read_upto}
use Rattle.online_nodes.specs.Truths.{Knows, KnowsSince, Tells}
use Rattle.online_nodes.specs.Sinces.{IsBackward}
use Rattle.online_nodes.specs.Sweeps.{Counted, CountsBeyond, high_place, low_place}
use Rattle.online_nodes.specs.declared.answering.Outcome.{Outcome}
use Rattle.online_nodes.specs.declared.join.Inputs.{Inputs}
use Rattle.stl_syntax.specs.declared.operator.Join.{Join}
use Rattle.online_nodes.specs.declared.kind.Kind.{Kind}
use Rattle.online_nodes.specs.declared.kind.Kind.TheVariants.{Const as Constant, Not as Negation, Join as Connective}
use Rattle.online_nodes.specs.declared.kind.Kind.TheVariants.{Over, Until as UntilOf, Since as SinceOf}
use Rattle.online_nodes.specs.declared.operator.Operator.{Operator}
use Rattle.online_nodes.specs.declared.since.Since.{Since as SinceWindow}
use Rattle.online_nodes.specs.declared.until.Until.{Until as UntilWindow}
use Rattle.online_nodes.specs.declared.window.Window.{Window}
use Rattle.online_nodes.proofs.DroppedLemmas.{dropped_number, dropped_parts, dropped_read, dropped_tells, ends_by_number, tells_some}
use Rattle.online_nodes.proofs.DueLemmas.{among_telling, due_cases}
use Rattle.rational.proofs.PlaceLemmas.{not_both, upto_of_before, after_at_most}
use Rattle.online_nodes.proofs.RunLaw.{moved}
use Rattle.online_nodes.proofs.StepFacts.{just_after}
use Rattle.online_nodes.proofs.SinceWorked.{has_since}
use Rattle.online_nodes.proofs.SweptLemmas.{has_window, knows_window, whole_sum, window_input, window_knows}
use Rattle.online_nodes.proofs.TellingLemmas.{IsTelling, fresh_tells, fresh_within, tells_upto}
use Rattle.online_nodes.proofs.UntilWorked.{has_until}
use Rattle.online_nodes.proofs.WindowedLemmas.{none_in_window}

-- an edge that holds the same, and has the same number, tells the same
telling_on : {p : Subformula} {tr : Trace} {first now : ℕ} {x y : Edge} → IsTelling p tr first now x → held_of y ≡ held_of x → y.number ≡ x.number
    → IsTelling p tr first now y
telling_on {p} {tr} {first} {now} {x} {y} t held number = record {
  from = t.from;
  tells = subst (λ (l : List Verdict). Tells (Truth p tr) t.from l (place_of y.number)) (sym held)
      (subst (λ (o : Front). Tells (Truth p tr) t.from (held_of x) (place_of o)) (sym number) t.tells);
  late = subst (λ (l : List Verdict). (l ≡ [])
      ⊎ (AtMost (record { at = whole (pos first); after = false }) t.from × (f : ℤ) × (y.number ≡ Some f) × (f ≤ℤ pos now))) (sym held)
      (subst (λ (o : Front). (held_of x ≡ [])
      ⊎ (AtMost (record { at = whole (pos first); after = false }) t.from × (f : ℤ) × (o ≡ Some f) × (f ≤ℤ pos now))) (sym number) t.late);
}

-- a time that is not later than one moved back
moved_back : {u : Rational} (f l k : ℤ) → u ≤ʳ whole (f +ℤ l) → l ≤ℤ neg_ℤ k → add u (whole k) ≤ʳ whole f
moved_back {u} f l k h m =
    le_trans (le_shift k h) (le_trans (le_of_same (whole_sum (f +ℤ l) k)) (let s : ((f +ℤ l) +ℤ k) ≤ℤ f = omega (arith, ints) in le_whole s))

-- what comes before a moved begin, by the time that is moved
before_moved : (f k : ℤ) (inside : Bool) (c : Place) → Before (just_after f) (moved_begin k inside c) → whole f <ʳ add c.at (whole k)
before_moved f k inside c (inl l) = l
before_moved f k inside c (inr e) = absurd (let y : true ≡ false = e.1 in cc)

-- where a place just after a number comes before an end
before_end : (f : ℤ) (v : Verdict) → Before (just_after f) (ends (interval v.on)) → whole f <ʳ value v.on.to
before_end f v (inl l) = l
before_end f v (inr e) = absurd (let y : true ≡ false = e.1 in cc)

module _ {x : Situation} {op : Operator} {old mid : Held} {work : Outcome} (d : IsDue x op old) (w : HasWorkedOut x op old mid work) (new : Held)
    (lets : (j : ℕ) (left : Bool) → IsOperand op.kind left j → IsDroppedBy (x.front +ℤ looks_by op.kind left) (edge_at mid j) (edge_at new j)) where
  -- what was not read of an input, once the body worked
  mid_telling : (j : ℕ) → IsInput op.kind j → IsTelling (subformula x.nodes j) (trace_in x) (first_in x) x.now (edge_at mid j)
  mid_telling j a = telling_on (among_telling d j a) (w.worked.read j a).held (w.worked.read j a).number

  mid_tells : (j : ℕ) → IsInput op.kind j → Tells (Truth (subformula x.nodes j) (trace_in x)) (read_upto mid j) (fresh_at mid j) (front_place mid j)
  mid_tells j a = fresh_tells (mid_telling j a)

  module _ (j : ℕ) (left : Bool) (s : IsOperand op.kind left j) (a : IsInput op.kind j) where
    number_is : number_at new j ≡ number_at mid j
    number_is = dropped_number (lets j left s)

    stop_same : front_place new j ≡ front_place mid j
    stop_same = ap place_of number_is

    -- where nothing that was not read went, it is read from the same place on
    read_same : fresh_at new j ≡ fresh_at mid j → read_upto new j ≡ read_upto mid j
    read_same e = ap (λ (c : Place). first_place (fresh_at new j) c) stop_same ∙ ap (λ (l : List Verdict). first_place l (front_place mid j)) e

    new_tells : Tells (Truth (subformula x.nodes j) (trace_in x)) (read_upto new j) (fresh_at new j) (front_place new j)
    new_tells =
        subst (λ (c : Place). Tells (Truth (subformula x.nodes j) (trace_in x)) (first_place (fresh_at new j) c) (fresh_at new j) c) (sym stop_same)
        (dropped_tells (lets j left s) (Truth (subformula x.nodes j) (trace_in x)) (read_upto mid j) (front_place mid j) (mid_tells j a))

    -- it is read on no earlier
    read_later : AtMost (read_upto mid j) (read_upto new j)
    read_later =
        subst (λ (c : Place). AtMost (read_upto mid j) (first_place (fresh_at new j) c)) (sym stop_same)
        (dropped_read (lets j left s) (Truth (subformula x.nodes j) (trace_in x)) (read_upto mid j) (front_place mid j) (mid_tells j a)).0

    -- what went of it
    abbrev HasGone : Verdict → Type 0
    HasGone v = (slice_get (fresh_at mid j) 0 ≡ Some v) × (value v.on.to ≤ʳ whole (x.front +ℤ looks_by op.kind left))
        × AtMost (read_upto new j) (just_after (x.front +ℤ looks_by op.kind left))

    parts : (fresh_at new j ≡ fresh_at mid j) ⊎ ((v : Verdict) × HasGone v)
    parts = elim (dropped_parts (lets j left s) (Truth (subformula x.nodes j) (trace_in x)) (read_upto mid j) (front_place mid j) (mid_tells j a)) [
      | inl same ↦ inl same
      | inr h ↦ inr (
        h.0,
        (
          h.1,
          h.2,
          subst (λ (c : Place). AtMost (first_place (fresh_at new j) c) (just_after (x.front +ℤ looks_by op.kind left))) (sym stop_same) h.3,
        ),
      )
    ]

    -- a node that looks neither ahead nor back has read no further than its front
    read_by : looks_by op.kind left ≡ pos 0 → AtMost (read_upto mid j) (end_of x) → AtMost (read_upto new j) (end_of x)
    read_by zero h = elim parts [
      | inl same ↦ subst (λ (c : Place). AtMost c (end_of x)) (sym (read_same same)) h
      | inr g ↦
          let front : x.front +ℤ looks_by op.kind left ≡ x.front = omega (arith, ints, zero) in
          subst (λ (z : ℤ). AtMost (read_upto new j) (just_after z)) front g.1.2
    ]

  -- a negation
  negation_released : (of : ℕ) → op.kind ≡ Negation of → KnowsBy op.kind x.nodes (trace_in x) new (end_of x) (place work.marks.reach) (place work.marks.run)
  negation_released of kind =
      subst (λ k. KnowsBy k x.nodes (trace_in x) new (end_of x) (place work.marks.reach) (place work.marks.run)) (sym kind)
      (read_by of true (subst (λ k. IsOperand k true of) (sym kind) refl) (subst (λ k. IsInput k of) (sym kind) refl) (ap (λ k. looks_by k true) kind)
      (subst (λ k. KnowsBy k x.nodes (trace_in x) mid (end_of x) (place work.marks.reach) (place work.marks.run)) kind w.knows))

  -- a connective
  join_released : (join : Join) (inputs : Inputs) → op.kind ≡ Connective join inputs
      → KnowsBy op.kind x.nodes (trace_in x) new (end_of x) (place work.marks.reach) (place work.marks.run)
  join_released join inputs kind =
      let known : AtMost (read_upto mid inputs.left) (end_of x) × AtMost (read_upto mid inputs.right) (end_of x) =
      subst (λ k. KnowsBy k x.nodes (trace_in x) mid (end_of x) (place work.marks.reach) (place work.marks.run)) kind w.knows in
      subst (λ k. KnowsBy k x.nodes (trace_in x) new (end_of x) (place work.marks.reach) (place work.marks.run)) (sym kind) (
        read_by inputs.left true (subst (λ k. IsOperand k true inputs.left) (sym kind) refl) (subst (λ k. IsInput k inputs.left) (sym kind) (inl refl))
            (ap (λ k. looks_by k true) kind) known.0,
        read_by inputs.right false (subst (λ k. IsOperand k false inputs.right) (sym kind) refl)
            (subst (λ k. IsInput k inputs.right) (sym kind) (inr refl)) (ap (λ k. looks_by k false) kind) known.1,
      )

  -- a window: where it has a time in it, nothing that was not read goes
  module _ {v : Window} (is : op.kind ≡ Over v) (order : v.begin_by ≤ℤ v.end_by) where
    window_side : IsOperand op.kind true v.of
    window_side = subst (λ k. IsOperand k true v.of) (sym is) refl

    window_looks : looks_by op.kind true ≤ℤ neg_ℤ v.begin_by
    window_looks = subst (λ k. looks_by k true ≤ℤ neg_ℤ v.begin_by) (sym is) (by_test (int_lt v.end_by (pos 8589934592)))
      where
        by_test : (t : Bool) → neg_ℤ (cond t v.end_by v.begin_by) ≤ℤ neg_ℤ v.begin_by
        by_test true = let l : neg_ℤ v.end_by ≤ℤ neg_ℤ v.begin_by = omega (arith, ints, order) in l
        by_test false = let l : neg_ℤ v.begin_by ≤ℤ neg_ℤ v.begin_by = omega (arith, ints) in l

    window_beyond : is_empty v ≡ false → CountsBeyond mid v (end_of x)
    window_beyond full = subst (λ k. LeavesLater k mid (end_of x) (place work.marks.run)) is w.unread full

    window_fresh : is_empty v ≡ false → fresh_at new v.of ≡ fresh_at mid v.of
    window_fresh full = elim (parts v.of true window_side (window_input is v.of refl)) [
      | inl same ↦ same
      | inr g ↦
          let inside = fresh_within (mid_telling v.of (window_input is v.of refl)) 0 g.0 g.1.0 in
          absurd (not_lt_of_le (moved_back x.front (looks_by op.kind true) v.begin_by (le_trans inside.1 g.1.1) window_looks)
          (before_moved x.front v.begin_by v.begin_in (begins (interval g.0.on)) (window_beyond full g.0 g.1.0)))
    ]

    window_released : KnowsBy op.kind x.nodes (trace_in x) new (end_of x) (place work.marks.reach) (place work.marks.run)
    window_released =
        window_knows is x new (end_of x) (place work.marks.reach) (place work.marks.run)
        (subst (λ (c : Place). Knows v.seeks (Counted v.seeks (subformula x.nodes v.of) (trace_in x)) (low_place v) (high_place v) (end_of x)
        (place work.marks.reach) (read_upto new v.of) c) (sym (stop_same v.of true window_side (window_input is v.of refl)))
        (by_test (is_empty v) refl))
      where
        known : Knows v.seeks (Counted v.seeks (subformula x.nodes v.of) (trace_in x)) (low_place v) (high_place v) (end_of x)
            (place work.marks.reach) (read_upto mid v.of) (front_place mid v.of)
        known = knows_window is x mid (end_of x) (place work.marks.reach) (place work.marks.run) w.knows

        by_test : (t : Bool) → is_empty v ≡ t
            → Knows v.seeks (Counted v.seeks (subformula x.nodes v.of) (trace_in x)) (low_place v) (high_place v) (end_of x)
            (place work.marks.reach) (read_upto new v.of) (front_place mid v.of)
        by_test true e =
            record { counts = known.counts; rest = λ t u a b lo hi h. absurd (none_in_window v order e t u lo hi) }
        by_test false e =
            subst (λ (c : Place). Knows v.seeks (Counted v.seeks (subformula x.nodes v.of) (trace_in x)) (low_place v) (high_place v) (end_of x)
            (place work.marks.reach) c (front_place mid v.of))
            (sym (read_same v.of true window_side (window_input is v.of refl) (window_fresh e))) known

  -- until
  module _ {u : UntilWindow} (kind : op.kind ≡ UntilOf u) (order : u.window.begin_by ≤ℤ u.window.end_by) (ahead : u.window.end_by ≤ℤ pos 0)
      (not_before : (t v : Rational) → After (low_place u.window t) v → t ≤ʳ v) where
    left_side : IsOperand op.kind true u.window.of
    left_side = subst (λ k. IsOperand k true u.window.of) (sym kind) refl

    right_side : IsOperand op.kind false u.right
    right_side = subst (λ k. IsOperand k false u.right) (sym kind) refl

    left_input : IsInput op.kind u.window.of
    left_input = subst (λ k. IsInput k u.window.of) (sym kind) (inl refl)

    right_input : IsInput op.kind u.right
    right_input = subst (λ k. IsInput k u.right) (sym kind) (inr refl)

    abbrev mid_stop : Place
    mid_stop = place_of (least (number_at mid u.window.of) (number_at mid u.right))

    new_stop : place_of (least (number_at new u.window.of) (number_at new u.right)) ≡ mid_stop
    new_stop =
        ap (λ (o : Front). place_of (least o (number_at new u.right))) (number_is u.window.of true left_side left_input)
        ∙ ap (λ (o : Front). place_of (least (number_at mid u.window.of) o)) (number_is u.right false right_side right_input)

    known : IsUntilKnown (subformula x.nodes u.window.of) (subformula x.nodes u.right) (trace_in x) u (end_of x) (place work.marks.reach)
        (read_upto mid u.window.of) (read_upto mid u.right) mid_stop (fresh_at mid u.window.of)
    known = subst (λ k. KnowsBy k x.nodes (trace_in x) mid (end_of x) (place work.marks.reach) (place work.marks.run)) kind w.knows

    -- a time of a window after the stretch lies after the stretch
    past : (t v : Rational) → After (end_of x) t → After (low_place u.window t) v → After (end_of x) v
    past t v a lo = lt_of_lt_of_le a (not_before t v lo)

    -- and later than what went of the right input
    past_right : (t v : Rational) → After (end_of x) t → After (low_place u.window t) v → whole (x.front +ℤ neg_ℤ u.window.end_by) <ʳ v
    past_right t v a lo =
        lt_of_le_of_lt (ge_of_same (whole_sum x.front (neg_ℤ u.window.end_by)))
        (lt_of_lt_of_le (lt_shift (neg_ℤ u.window.end_by) a) (by_side (not u.window.end_in) lo))
      where
        by_side : (b : Bool) → MatchBool b (add t (whole (neg_ℤ u.window.end_by)) <ʳ v) (add t (whole (neg_ℤ u.window.end_by)) ≤ʳ v)
            → add t (whole (neg_ℤ u.window.end_by)) ≤ʳ v
        by_side true l = le_of_lt l
        by_side false l = l

    right_stays : (t v : Rational) → After (end_of x) t → After (low_place u.window t) v → Upto (read_upto new u.right) v → Upto (read_upto mid u.right) v
    right_stays t v a lo h = elim (parts u.right false right_side right_input) [
      | inl same ↦ subst (λ (c : Place). Upto c v) (read_same u.right false right_side right_input same) h
      | inr g ↦
          let by : AtMost (read_upto new u.right) (just_after (x.front +ℤ neg_ℤ u.window.end_by)) =
          subst (λ (z : ℤ). AtMost (read_upto new u.right) (just_after (x.front +ℤ z))) (ap (λ k. looks_by k false) kind) g.1.2 in
          absurd (not_lt_of_le (by v h) (past_right t v a lo))
    ]

    -- the node comes no further than to where both inputs are answered
    stop_beyond : (v : Rational) → After mid_stop v → After (end_of x) v
    stop_beyond v h =
        let both = both_are in
        lt_of_le_of_lt (le_whole both.2) (subst (λ (c : Place). After c v) (ap place_of both.1) h)
      where
        numbers : least (number_at mid u.window.of) (number_at mid u.right) ≡ least (number_at old u.window.of) (number_at old u.right)
        numbers =
            ap (λ (o : Front). least o (number_at mid u.right)) (w.worked.read u.window.of left_input).number
            ∙ ap (λ (o : Front). least (number_at old u.window.of) o) (w.worked.read u.right right_input).number

        both_now : (o q : Front) → o ≡ Some (pos x.now) → q ≡ Some (pos x.now) → least o q ≡ Some (pos x.now)
        both_now o q a b = rw (a, b)
            (elim (int_lt (pos x.now) (pos x.now)) as (λ (s : Bool). cond s (Some (pos x.now)) (Some (pos x.now)) ≡ Some (pos x.now))
            [ true ↦ refl | false ↦ refl ])

        both_are : (f : ℤ) × (least (number_at mid u.window.of) (number_at mid u.right) ≡ Some f) × (x.front ≤ℤ f)
        both_are = elim (due_cases d) [
          | inl h ↦ (
            pos x.now,
            numbers ∙ both_now (number_at old u.window.of) (number_at old u.right) (h.0 u.window.of left_input) (h.0 u.right right_input),
            (let e = h.1 in omega (arith, ints)),
          )
          | inr h ↦
              let m = moved u.window.begin_by (least (number_at old u.window.of) (number_at old u.right)) x.front
              (subst (λ k. open_by k old x.now ≡ Some x.front) kind h) in
              (m.0, numbers ∙ m.1, (let e = m.2 in omega (arith, ints, order, ahead)))
        ]

    abbrev until_at : Place → Type 0
    until_at stop =
        IsUntilKnown (subformula x.nodes u.window.of) (subformula x.nodes u.right) (trace_in x) u (end_of x) (place work.marks.reach)
        (read_upto new u.window.of) (read_upto new u.right) stop (fresh_at new u.window.of)

    -- nothing that was not read of the left input went
    until_same : fresh_at new u.window.of ≡ fresh_at mid u.window.of → until_at mid_stop
    until_same same =
        let is : read_upto new u.window.of ≡ read_upto mid u.window.of = read_same u.window.of true left_side left_input same in
        record {
          read = known.read;
          knows = known.knows;
          left_behind = λ t h. known.left_behind t (subst (λ (c : Place). Upto c t) is h);
          right_behind = λ t v a lo h. known.right_behind t v a lo (right_stays t v a lo h);
          tight = λ t a b. known.tight t (subst (λ (c : Place). After c t) is a)
              (after_at_most (read_upto mid u.right) (read_upto new u.right) t (read_later u.right false right_side right_input) b);
          ahead = λ v e. known.ahead v (ap (λ (l : List Verdict). slice_get l 0) (sym same) ∙ e);
        }

    -- some of it went: the stretch is past where it is read on
    until_gone : (v : Verdict) → HasGone u.window.of true left_side left_input v → until_at mid_stop
    until_gone v0 gone =
        let front : x.front +ℤ looks_by op.kind true ≡ x.front =
        (let z : looks_by op.kind true ≡ pos 0 = ap (λ k. looks_by k true) kind in omega (arith, ints, z))
        in
        let most : AtMost (read_upto new u.window.of) (end_of x) =
        subst (λ (z : ℤ). AtMost (read_upto new u.window.of) (just_after z)) front gone.2 in
        let by : value v0.on.to ≤ʳ whole x.front = subst (λ (z : ℤ). value v0.on.to ≤ʳ whole z) front gone.1 in
        let was : (t : Rational) → Upto known.read t → Upto (end_of x) t =
        λ t h. ends_by_number x.front v0 by t (upto_of_before known.read (ends (interval v0.on)) t (known.ahead v0 gone.0) h) in
        let later : (v : Rational) → After (end_of x) v → After (read_upto new u.window.of) v =
        λ v a. after_at_most (read_upto new u.window.of) (end_of x) v most a in
        record {
          read = read_upto new u.window.of;
          knows = record {
            run = λ t a h. absurd (not_both (end_of x) t (most t h) a);
            counts = known.knows.counts;
            rest = λ t v a b lo hi q all s. (later v (past t v a lo), later v (past t v a lo));
            inside = λ v h. (later v (stop_beyond v h), later v (stop_beyond v h));
            ahead = λ t v a lo q b h. absurd (not_both (read_upto new u.window.of) v h b);
          };
          left_behind = λ t h. h;
          right_behind = λ t v a lo h. absurd (not_both (end_of x) v (was v (known.right_behind t v a lo (right_stays t v a lo h))) (past t v a lo));
          tight = λ t a b. a;
          ahead = λ v e.
              tells_some (Truth (subformula x.nodes u.window.of) (trace_in x)) (fresh_at new u.window.of) (front_place new u.window.of) v
              (new_tells u.window.of true left_side left_input) e;
        }

    until_released : KnowsBy op.kind x.nodes (trace_in x) new (end_of x) (place work.marks.reach) (place work.marks.run)
    until_released =
        subst (λ k. KnowsBy k x.nodes (trace_in x) new (end_of x) (place work.marks.reach) (place work.marks.run)) (sym kind)
        (subst until_at (sym new_stop)
        (elim (parts u.window.of true left_side left_input) [ inl same ↦ until_same same | inr g ↦ until_gone g.0 g.1 ]))

  -- since
  module _ {s : SinceWindow} (kind : op.kind ≡ SinceOf s) (back : IsBackward s.window) where
    since_left_side : IsOperand op.kind true s.window.of
    since_left_side = subst (λ k. IsOperand k true s.window.of) (sym kind) refl

    since_right_side : IsOperand op.kind false s.right
    since_right_side = subst (λ k. IsOperand k false s.right) (sym kind) refl

    since_left_input : IsInput op.kind s.window.of
    since_left_input = subst (λ k. IsInput k s.window.of) (sym kind) (inl refl)

    since_right_input : IsInput op.kind s.right
    since_right_input = subst (λ k. IsInput k s.right) (sym kind) (inr refl)

    since_looks : (left : Bool) → looks_by op.kind left ≤ℤ neg_ℤ s.window.begin_by
    since_looks left = subst (λ k. looks_by k left ≤ℤ neg_ℤ s.window.begin_by) (sym kind) (by_test (int_lt s.window.end_by (pos 8589934592)))
      where
        by_test : (t : Bool) → neg_ℤ (cond t s.window.end_by s.window.begin_by) ≤ℤ neg_ℤ s.window.begin_by
        by_test true = let l : neg_ℤ s.window.end_by ≤ℤ neg_ℤ s.window.begin_by = (let o = back.order in omega (arith, ints)) in l
        by_test false = let l : neg_ℤ s.window.begin_by ≤ℤ neg_ℤ s.window.begin_by = omega (arith, ints) in l

    looks_back : (left : Bool) → (x.front +ℤ looks_by op.kind left) ≤ℤ x.front
    looks_back left = let l = since_looks left in let o = back.low in omega (arith, ints)

    since_unread : LeavesLater (SinceOf s) mid (end_of x) (place work.marks.run)
    since_unread = subst (λ k. LeavesLater k mid (end_of x) (place work.marks.run)) kind w.unread

    since_known : IsSinceKnown (subformula x.nodes s.window.of) (subformula x.nodes s.right) (trace_in x) s (end_of x) (place work.marks.run)
        (place work.marks.reach) (read_upto mid s.window.of) (read_upto mid s.right) (front_place mid s.window.of) (front_place mid s.right)
        (fresh_at mid s.window.of)
    since_known = subst (λ k. KnowsBy k x.nodes (trace_in x) mid (end_of x) (place work.marks.reach) (place work.marks.run)) kind w.knows

    -- nothing that was not read of the left input goes
    since_left_fresh : fresh_at new s.window.of ≡ fresh_at mid s.window.of
    since_left_fresh = elim (parts s.window.of true since_left_side since_left_input) [
      | inl same ↦ same
      | inr g ↦
          absurd (not_lt_of_le (le_trans g.1.1 (le_whole (looks_back true))) (before_end x.front g.0 (since_unread.0 g.0 g.1.0)))
    ]

    abbrev since_at : Place → Type 0
    since_at right =
        KnowsSince (Truth (subformula x.nodes s.window.of) (trace_in x)) (Counted true (subformula x.nodes s.right) (trace_in x))
        (low_place s.window) (high_place s.window) (record { at = start (trace_in x); after = false }) (end_of x) (place work.marks.run)
        (place work.marks.reach) since_known.read right (front_place mid s.window.of) (front_place mid s.right)

    -- of the right one only what lies before the run
    since_run : AtMost (end_of x) (place work.marks.run) → AtMost (read_upto new s.right) (end_of x) → since_at (read_upto new s.right)
    since_run run by = record {
      holds = since_known.knows.holds;
      order = since_known.knows.order;
      begins = since_known.knows.begins;
      counts = since_known.knows.counts;
      rest = λ t u a b lo hi q c e.
          after_at_most (read_upto new s.right) (end_of x) u by (after_at_most (end_of x) (place work.marks.run) u run c);
      inside = λ u a.
          after_at_most (read_upto new s.right) (front_place mid s.right) u
          (subst (λ (c : Place). AtMost (read_upto new s.right) c) (stop_same s.right false since_right_side since_right_input)
          (tells_upto (Truth (subformula x.nodes s.right) (trace_in x)) (read_upto new s.right) (fresh_at new s.right) (front_place new s.right)
          (new_tells s.right false since_right_side since_right_input))) a;
      ahead = λ u a h q v b l.
          absurd (not_both (end_of x) u (by u h)
          (after_at_most (end_of x) (place work.marks.run) u run (since_known.knows.order u a)));
    }

    since_right : since_at (read_upto new s.right)
    since_right = elim (parts s.right false since_right_side since_right_input) [
      | inl same ↦ subst since_at (sym (read_same s.right false since_right_side since_right_input same)) since_known.knows
      | inr g ↦ elim (since_unread.1 g.0 g.1.0) [
        | inl beyond ↦
            absurd (not_lt_of_le (moved_back x.front (looks_by op.kind false) s.window.begin_by g.1.1 (since_looks false))
            (before_moved x.front s.window.begin_by s.window.begin_in (ends (interval g.0.on)) beyond))
        | inr run ↦ since_run run (λ t h. le_trans (g.1.2 t h) (le_whole (looks_back false)))
      ]
    ]

    since_released : KnowsBy op.kind x.nodes (trace_in x) new (end_of x) (place work.marks.reach) (place work.marks.run)
    since_released =
        let is : read_upto new s.window.of ≡ read_upto mid s.window.of =
        read_same s.window.of true since_left_side since_left_input since_left_fresh in
        let known : IsSinceKnown (subformula x.nodes s.window.of) (subformula x.nodes s.right) (trace_in x) s (end_of x) (place work.marks.run)
        (place work.marks.reach) (read_upto new s.window.of) (read_upto new s.right) (front_place mid s.window.of) (front_place mid s.right)
        (fresh_at new s.window.of) =
        record {
          read = since_known.read;
          knows = since_right;
          behind = since_known.behind;
          left_behind = λ t h. since_known.left_behind t (subst (λ (c : Place). Upto c t) is h);
          tight = λ t a b. since_known.tight t (subst (λ (c : Place). After c t) is a) b;
          ahead = λ v e. since_known.ahead v (ap (λ (l : List Verdict). slice_get l 0) (sym since_left_fresh) ∙ e);
          from_start = since_known.from_start;
        } in
        subst (λ k. KnowsBy k x.nodes (trace_in x) new (end_of x) (place work.marks.reach) (place work.marks.run)) (sym kind)
        (subst (λ (c : Place). IsSinceKnown (subformula x.nodes s.window.of) (subformula x.nodes s.right) (trace_in x) s (end_of x)
        (place work.marks.run) (place work.marks.reach) (read_upto new s.window.of) (read_upto new s.right) c (front_place new s.right)
        (fresh_at new s.window.of)) (sym (stop_same s.window.of true since_left_side since_left_input))
        (subst (λ (c : Place). IsSinceKnown (subformula x.nodes s.window.of) (subformula x.nodes s.right) (trace_in x) s (end_of x)
        (place work.marks.run) (place work.marks.reach) (read_upto new s.window.of) (read_upto new s.right) (front_place mid s.window.of) c
        (fresh_at new s.window.of)) (sym (stop_same s.right false since_right_side since_right_input)) known))

  -- whatever its kind
  pub released_knows : KnowsBy op.kind x.nodes (trace_in x) new (end_of x) (place work.marks.reach) (place work.marks.run)
  released_knows = by_kind op.kind refl
    where
      by_kind : (k : Kind) → op.kind ≡ k → KnowsBy op.kind x.nodes (trace_in x) new (end_of x) (place work.marks.reach) (place work.marks.run)
      by_kind (Constant b) e = subst (λ k. KnowsBy k x.nodes (trace_in x) new (end_of x) (place work.marks.reach) (place work.marks.run)) (sym e) tt
      by_kind (Negation p) e = negation_released p e
      by_kind (Connective join inputs) e = join_released join inputs e
      by_kind (Over v) e = window_released e (has_window d e).order
      by_kind (UntilOf u) e = let has = has_until d e in until_released e has.order has.ahead has.looks.ahead
      by_kind (SinceOf s) e =
          let has = has_since d e in
          since_released e (record { begin_in = has.begin_in; end_in = has.end_in; low = has.low; order = has.order })
