-- What the orders of two lines at two times say of a crossing between them.
use Rattle.std.proofs.Common.{◌≡◌, ℕ, IsTrue, None, Some, false, ◌≤◌, ◌^◌, lit<, subst, sym}
use Rattle.std.specs.Prelude.{MatchOption, Option}
use Rattle.std.specs.declared.cmp.Ordering.{Ordering}
use mir.Syntax.{w64}
use Rattle.rational.specs.Rational.{Rational, ◌<ʳ◌, ◌≈◌, IsOrder, IsWithin, FitsFloor}
use Rattle.rational.specs.Line.{Line, at, MeetAt, CrossAt, AreOpposite}
use Rattle.rational.specs.Time.{HasDenominator}
use Rattle.rational.proofs.Order.{same_sym, same_trans, le_of_lt, le_of_same, ge_of_same, lt_of_lt_of_le, lt_of_le_of_lt}
use Rattle.rational.proofs.Mixed.{fits_of_within, within_between}
use Rattle.rational.proofs.Meetings.{not_turned, turned, cross_same, meet_same}
use Rattle.frac128.specs.Value.{value}
use Rattle.frac128.specs.declared.frac.Frac.{Frac}

-- what makes a test of no a yes is not so
pub refuted : {P : Type 0} → (P → IsTrue false) → ¬ P
refuted h p = let e = h p in absurd (cc)

pub record Ends (f g : Line) (l r : Rational) (before after : Ordering) : Type 0 where
  -- the first time is within its limits
  pub from : IsWithin (2 ^ 34) l
  -- and the second
  pub to : IsWithin (2 ^ 34) r
  -- they are in order
  pub order : l <ʳ r
  -- the order of the lines at the first
  pub at_start : IsOrder before (at f l) (at g l)
  -- and at the second
  pub at_end : IsOrder after (at f r) (at g r)

-- where the orders are not opposite there is no crossing
pub uncrossed : {f g : Line} {l r : Rational} {before after : Ordering} → Ends f g l r before after → ¬ (AreOpposite before after)
    → (t : Rational) → ¬ (CrossAt f g l r t)
uncrossed {f} {g} {l} {r} {before} {after} e n t = not_turned before after f g l r t e.order n e.at_start e.at_end

crossing : {f g : Line} {l r : Rational} {before after : Ordering} (q : Rational) → Ends f g l r before after
    → AreOpposite before after → MeetAt f g q → CrossAt f g l r q
crossing {f} {g} {l} {r} {before} {after} q e o m = turned before after f g l r q e.order o e.at_start e.at_end m

-- where they are, the time of the meeting has a floor that fits
pub crossing_fits : {f g : Line} {l r : Rational} {before after : Ordering} (q : Rational) → Ends f g l r before after
    → AreOpposite before after → MeetAt f g q → FitsFloor w64 q
crossing_fits q e o m =
    let c = crossing q e o m in
    fits_of_within w64 (2 ^ 34) (lit< tt) (within_between (2 ^ 34) e.from e.to (le_of_lt c.after) (le_of_lt c.before))

-- a number that is that time is the crossing
pub crossing_made : {f g : Line} {l r t : Rational} {before after : Ordering} (q : Rational) → Ends f g l r before after
    → AreOpposite before after → MeetAt f g q → t ≈ q → CrossAt f g l r t
crossing_made {f} {g} q e o m s = cross_same f g (same_sym s) (crossing q e o m)

-- and so is one that needs too large a denominator
pub crossing_wide : {f g : Line} {l r : Rational} {before after : Ordering} (q : Rational) (d : ℕ) → Ends f g l r before after
    → AreOpposite before after → MeetAt f g q → HasDenominator q d × (2 ^ 60 ≤ d)
    → (t : Rational) × CrossAt f g l r t × HasDenominator t d × (2 ^ 60 ≤ d)
crossing_wide q d e o m w = (q, crossing q e o m, w.0, w.1)

-- a number that is the time of the meeting is the crossing where it lies between the two times, and else there is none
pub between_is : (f g : Line) (l r q : Rational) (o : Option Frac) (t : Frac)
    → MatchOption o (¬ ((l <ʳ value t) × (value t <ʳ r))) (λ u. (u ≡ t) × (l <ʳ value t) × (value t <ʳ r)) → MeetAt f g q → value t ≈ q
    → MatchOption o ((u : Rational) → ¬ (CrossAt f g l r u)) (λ u. CrossAt f g l r (value u))
between_is f g l r q None t not m e = λ u c. let s = same_trans (m.alone u c.meet.equal) (same_sym e) in
    not (lt_of_lt_of_le c.after (le_of_same s), lt_of_le_of_lt (ge_of_same s) c.before)
between_is f g l r q (Some u) t (same, after, before) m e =
    subst (λ (x : Frac). CrossAt f g l r (value x)) (sym same) (record { after = after; before = before; meet = meet_same f g (same_sym e) m })
