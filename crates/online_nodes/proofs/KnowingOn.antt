-- What an operator keeps in mind of its inputs stays so once they are answered further and rows have come.
use Rattle.std.proofs.Common.{◌≡◌, ◌⊎◌, inl, inr, sym, subst, Bool, true, false, not, Some, List}
use Rattle.std.specs.Prelude.{slice_get}
use Rattle.rational.specs.Rational.{Rational, ◌≤ʳ◌, ◌<ʳ◌}
use Rattle.rational.proofs.Order.{le_trans, le_or_lt, not_lt_of_le}
use Rattle.frac128.specs.Spans.{interval}
use Rattle.stl_syntax.specs.Trace.{Trace, start, stop as last}
use Rattle.stl_syntax.specs.Formula.{Subformula}
use Rattle.stl_syntax.specs.Truth.{Truth}
use Rattle.stl_syntax.specs.declared.items.Verdict.{Verdict}
use Rattle.rational.specs.Places.{Place, ends, After, Upto, AtMost, Before, Same}
use Rattle.online_nodes.specs.Truths.{Truths, Is, AllFrom, Knows}
use Rattle.online_nodes.specs.Sweeps.{Counted, low_place, high_place}
use Rattle.online_nodes.specs.Operators.{IsUntilKnown, IsSinceKnown}
use Rattle.online_nodes.specs.declared.since.Since.{Since as SinceWindow}
use Rattle.online_nodes.specs.declared.until.Until.{Until as UntilWindow}
use Rattle.online_nodes.proofs.SweptLemmas.{before_trace}
use Rattle.rational.proofs.PlaceLemmas.{sides, not_both, same_places, upto_same, after_same}
use Rattle.rational.proofs.PlaceLemmas.{before_at_most, before_of_at_most, upto_earlier}

-- two truths are one up to a place, from a time on
abbrev pub Agrees : Rational → Place → Truths → Truths → Type 0
Agrees begin stop P Q = (u : Rational) → begin ≤ʳ u → Upto stop u → (P u → Q u) × (Q u → P u)

-- at all times up to a place
abbrev pub AgreesUpto : Place → Truths → Truths → Type 0
AgreesUpto stop P Q = (u : Rational) → Upto stop u → (P u → Q u) × (Q u → P u)

-- the verdict ends no earlier than the first of some others
abbrev pub EndsLater : List Verdict → Verdict → Type 0
EndsLater fresh v = (y : Verdict) × (slice_get fresh 0 ≡ Some y) × AtMost (ends (interval y.on)) (ends (interval v.on))

-- an input that was read up to a place and is answered up to another, once it is answered further: it was read up to where it was, but
-- for times before the start
pub record ReadsOn (begin : Rational) (read stop read' stop' : Place) : Type 0 where
  -- the input is answered no less far
  pub later : AtMost stop stop'
  -- what was read is answered
  pub within : AtMost read stop
  -- and so is what is read now
  pub within_new : AtMost read' stop'
  -- what is read now was read before, or lies before the rows
  pub back : (u : Rational) → Upto read' u → Upto read u ⊎ (u <ʳ begin)
  -- what was unread stays so
  pub forth : (u : Rational) → begin ≤ʳ u → After read u → After read' u

-- what counts within the trace is the same up to where it is answered, if the truth is
pub counted_agrees : (seeks : Bool) (p : Subformula) (tr tr' : Trace) (stop : Place) → start tr' ≡ start tr
    → ((u : Rational) → Upto stop u → (u ≤ʳ last tr) × (u ≤ʳ last tr')) → Agrees (start tr) stop (Truth p tr) (Truth p tr')
    → AgreesUpto stop (Counted seeks p tr) (Counted seeks p tr')
counted_agrees true p tr tr' stop e inside agrees u upto = (
  (λ h. (record { above = subst (λ s. s ≤ʳ u) (sym e) h.0.above; below = (inside u upto).1 }, (agrees u h.0.above upto).0 h.1)),
  (λ h. let a : start tr ≤ʳ u = subst (λ s. s ≤ʳ u) e h.0.above in
      (record { above = a; below = (inside u upto).0 }, (agrees u a upto).1 h.1)),
)
counted_agrees false p tr tr' stop e inside agrees u upto = (
  (λ h w. let a : start tr ≤ʳ u = subst (λ s. s ≤ʳ u) e w.above in
      (agrees u a upto).0 (h (record { above = a; below = (inside u upto).0 }))),
  (λ h w. (agrees u w.above upto).1 (h (record { above = subst (λ s. s ≤ʳ u) (sym e) w.above; below = (inside u upto).1 }))),
)

is_moved : (b : Bool) (P Q : Truths) (u : Rational) → (P u → Q u) × (Q u → P u) → Is b P u → Is b Q u
is_moved true P Q u e h = e.0 h
is_moved false P Q u e h = λ q. h (e.1 q)

module _ (seeks : Bool) (p : Subformula) (tr tr' : Trace) (low high : Rational → Place) (at reach : Place) where
  -- of a window
  pub knows_on : {read stop read' stop' : Place} → start tr' ≡ start tr → ReadsOn (start tr) read stop read' stop'
      → AgreesUpto stop (Counted seeks p tr) (Counted seeks p tr')
      → Knows seeks (Counted seeks p tr) low high at reach read stop → Knows seeks (Counted seeks p tr') low high at reach read' stop'
  knows_on {read} {stop} {read'} {stop'} e on agrees k = record {
    counts = λ t a u. let w = k.counts t a u in
        (w.0, w.1, w.2, on.later w.0 w.3, is_moved seeks (Counted seeks p tr) (Counted seeks p tr') w.0 (agrees w.0 w.3) w.4);
    rest = λ t u a r l h upto. by_read t u a r l h (on.back u upto);
  }
    where
      by_read : (t u : Rational) → After at t → After reach t → After (low t) u → Upto (high t) u → Upto read u ⊎ (u <ʳ start tr)
          → Is (not seeks) (Counted seeks p tr') u
      by_read t u a r l h (inl upto) =
          is_moved (not seeks) (Counted seeks p tr) (Counted seeks p tr') u (agrees u (on.within u upto)) (k.rest t u a r l h upto)
      by_read t u a r l h (inr before) = before_trace seeks p tr' u (subst (λ s. u <ʳ s) (sym e) before)

module _ (p q : Subformula) (tr tr' : Trace) (u : UntilWindow) (at reach : Place) where
  abbrev low : Rational → Place
  low = low_place u.window

  abbrev high : Rational → Place
  high = high_place u.window

  -- of until
  pub until_on : {left right stop left' right' stop' : Place} {fresh fresh' : List Verdict} → Same left left' → Same right right'
      → AtMost stop stop' → ((t : Rational) → After at t → start tr ≤ʳ t)
      → Agrees (start tr) stop (Truth p tr) (Truth p tr') → AgreesUpto stop (Counted true q tr) (Counted true q tr')
      → ((v : Verdict) → slice_get fresh' 0 ≡ Some v → EndsLater fresh v ⊎ Before stop (ends (interval v.on)))
      → IsUntilKnown p q tr u at reach left right stop fresh → IsUntilKnown p q tr' u at reach left' right' stop' fresh'
  until_on {left} {right} {stop} {left'} {right'} {stop'} {fresh} {fresh'} same_left same_right later begin agrees counted ahead k = record {
    read = k.read;
    knows = record {
      run = λ t a r. (agrees t (begin t a) (inside t r)).0 (k.knows.run t a r);
      counts = λ t a r. let w = k.knows.counts t a r in (
        w.0,
        w.1,
        w.2,
        (counted w.0 w.5).0 w.3,
        (λ v x y. (agrees v (le_trans (begin t a) x) (upto_earlier stop _ _ y w.5)).0 (w.4 v x y)),
        later w.0 w.5,
      );
      rest = λ t v a r l h holds all upto. by_side t v a r l h holds all (sides stop v);
      inside = λ v a. k.knows.inside v (beyond v a);
      ahead = λ t v a l holds x y. absurd (not_both k.read v y x);
    };
    left_behind = λ t x. k.left_behind t (upto_same left' left t (same_places same_left) x);
    right_behind = λ t v a l x. k.right_behind t v a l (upto_same right' right v (same_places same_right) x);
    tight = λ t x y. k.tight t (after_same left' left t (same_places same_left) x) (after_same right' right t (same_places same_right) y);
    ahead = λ v e. by_first v (ahead v e);
  }
    where
      -- both inputs were read no further than both are answered
      inside : (t : Rational) → Upto k.read t → Upto stop t
      inside t x = elim (sides stop t) [ inl y ↦ y | inr y ↦ absurd (not_both k.read t x (k.knows.inside t y).0) ]

      beyond : (t : Rational) → After stop' t → After stop t
      beyond t x = elim (sides stop t) [ inl y ↦ absurd (not_both stop' t (later t y) x) | inr y ↦ y ]

      by_side : (t v : Rational) → After at t → After reach t → After (low t) v → Upto (high t) v → Counted true q tr' v → AllFrom (Truth p tr') t v
          → Upto stop v ⊎ After stop v → After k.read v × After k.read v
      by_side t v a r l h holds all (inl x) = k.knows.rest t v a r l h ((counted v x).1 holds)
          (λ w y z. (agrees w (le_trans (begin t a) y) (upto_earlier stop _ _ z x)).1 (all w y z)) x
      by_side t v a r l h holds all (inr x) = k.knows.inside v x

      by_first : (v : Verdict) → EndsLater fresh v ⊎ Before stop (ends (interval v.on)) → Before k.read (ends (interval v.on))
      by_first v (inl (y, e, later)) = before_at_most k.read (ends (interval y.on)) (ends (interval v.on)) (k.ahead y e) later
      by_first v (inr b) = before_of_at_most k.read stop (ends (interval v.on)) inside b

module _ (p q : Subformula) (tr tr' : Trace) (s : SinceWindow) (at run reach : Place) where
  -- of since
  pub since_on : {left right stop_left stop_right left' right' stop_left' stop_right' : Place} {fresh fresh' : List Verdict} → start tr' ≡ start tr
      → Same left left' → AtMost stop_left stop_left' → AtMost at stop_left → ReadsOn (start tr) right stop_right right' stop_right'
      → Agrees (start tr) stop_left (Truth p tr) (Truth p tr') → AgreesUpto stop_right (Counted true q tr) (Counted true q tr')
      → ((v : Verdict) → slice_get fresh' 0 ≡ Some v → EndsLater fresh v ⊎ Before at (ends (interval v.on)))
      → IsSinceKnown p q tr s at run reach left right stop_left stop_right fresh
      → IsSinceKnown p q tr' s at run reach left' right' stop_left' stop_right' fresh'
  since_on {left} {right} {stop_left} {stop_right} {left'} {right'} {stop_left'} {stop_right'} {fresh} {fresh'} e same later short on agrees counted
      ahead k = record {
        read = k.read;
        knows = record {
          holds = λ t a r. (agrees t (from_run t a) (short t (k.behind t r))).0 (k.knows.holds t a r);
          order = k.knows.order;
          begins = λ u a r. let w = k.knows.begins u (begin_old u a) r in
              (w.0, w.1, w.2, λ h. w.3 ((agrees w.0 (le_trans (begin_old u a) w.1) (short w.0 (k.behind w.0 (run_read w.0 w.2)))).1 h));
          counts = λ t a r. let w = k.knows.counts t a r in (w.0, w.1, w.2, (counted w.0 w.5).0 w.3, w.4, on.later w.0 w.5);
          rest = λ t u a r l h holds x upto. on.forth u (counts_from u holds) (by_side t u a r l h holds x (sides stop_right u));
          inside = λ u a. beyond u a;
          ahead = λ u x y holds v z w. by_read u x holds v z w (on.back u y);
        };
        behind = k.behind;
        left_behind = λ t x. k.left_behind t (upto_same left' left t (same_places same) x);
        tight = λ t x y. k.tight t (after_same left' left t (same_places same) x) y;
        ahead = λ v x. by_first v (ahead v x);
        from_start = subst (λ b. AtMost (record { at = b; after = false }) run) (sym e) k.from_start;
      }
    where
      begin_old : (u : Rational) → start tr' ≤ʳ u → start tr ≤ʳ u
      begin_old u a = subst (λ b. b ≤ʳ u) e a

      from_run : (t : Rational) → After run t → start tr ≤ʳ t
      from_run t a = elim (le_or_lt (start tr) t) [ inl l ↦ l | inr l ↦ absurd (not_both run t (k.from_start t l) a) ]

      -- the run begins no later than what was read
      run_read : (t : Rational) → Upto run t → Upto k.read t
      run_read t x = elim (sides k.read t) [ inl y ↦ y | inr y ↦ absurd (not_both run t x (k.knows.order t y)) ]

      counts_from : (u : Rational) → Counted true q tr' u → start tr ≤ʳ u
      counts_from u h = begin_old u h.0.above

      by_side : (t u : Rational) → After at t → After reach t → After (low_place s.window t) u → Upto (high_place s.window t) u → Counted true q tr' u
          → After run u → Upto stop_right u ⊎ After stop_right u → After right u
      by_side t u a r l h holds x (inl y) = k.knows.rest t u a r l h ((counted u y).1 holds) x y
      by_side t u a r l h holds x (inr y) = k.knows.inside u y

      beyond : (u : Rational) → After stop_right' u → After right' u
      beyond u a = elim (sides right' u) [ inl y ↦ absurd (not_both stop_right' u (on.within_new u y) a) | inr y ↦ y ]

      by_read : (u : Rational) → After k.read u → Counted true q tr' u → (v : Rational) → After k.read v → v ≤ʳ u
          → Upto right u ⊎ (u <ʳ start tr) → Truth p tr' v × Upto stop_left' v
      by_read u x holds v z w (inr l) = absurd (not_lt_of_le (counts_from u holds) l)
      by_read u x holds v z w (inl y) =
          let h = k.knows.ahead u x y ((counted u (on.within u y)).1 holds) v z w in
          ((agrees v (from_run v (k.knows.order v z)) h.1).0 h.0, later v h.1)

      by_first : (v : Verdict) → EndsLater fresh v ⊎ Before at (ends (interval v.on)) → Before k.read (ends (interval v.on))
      by_first v (inl (y, e, later)) = before_at_most k.read (ends (interval y.on)) (ends (interval v.on)) (k.ahead y e) later
      by_first v (inr b) = before_of_at_most k.read at (ends (interval v.on)) k.behind b
