-- A since and an until of two functions have a value at each time, where both are affine on the same finitely many gaps.
use Rattle.std.proofs.Common.{◌⊎◌, inl, inr, Bool, true, false}
use Rattle.rational.specs.Rational.{Rational, negate, ◌<ʳ◌, ◌≤ʳ◌, ◌≈◌}
use Rattle.rational.specs.Time.{Within, Interval, IsIn, Precedes}
use Rattle.rational.specs.Extended.{Extended, ◌≤ᵉ◌, ◌<ᵉ◌, ◌≈ᵉ◌, Affine, value_at}
use Rattle.rational.specs.Affine.{MeetAlone}
use Rattle.rational.specs.InPlay.{IsLineOn}
use Rattle.rational.specs.Windows.{Function, IsInfOver, UntilToEnd, SinceFromStart}
use Rattle.rational.proofs.Order.{le_or_lt, le_refl, le_of_lt, ge_of_same, le_trans, lt_of_lt_of_le, lt_trans, same_of_le, same_refl}
use Rattle.rational.proofs.Field.{lt_negate, le_negate, same_negate}
use Rattle.rational.proofs.ExtendedLemmas.{le_totalᵉ, le_of_ltᵉ, le_transᵉ, least_of, greatest_of}
use Rattle.rational.proofs.AffineLemmas.{same_reflᵉ, same_transᵉ}
use Rattle.rational.proofs.AffineMeetings.{meets}
use Rattle.rational.proofs.WindowLemmas.{inf_alike}
use Rattle.rational.specs.Onward.{InOrder}
use Rattle.rational.proofs.TimeFunctions.{IsFunction}
use Rattle.rational.proofs.SinceForward.{after}
use Rattle.rational.proofs.SinceOnGaps.{IsOn}
use Rattle.rational.proofs.SinceAtPoints.{HasOneValue, at_start, at_point}
use Rattle.rational.proofs.SinceOnward.{goes_onward, since_of, of_since}
use Rattle.rational.proofs.TimeFunctions.{since_is_function}
use Rattle.rational.proofs.TimeFunctions.{until_is_function}
use Rattle.rational.proofs.RunningBack.{RunsBack, turned_affine, until_runs_back}
use Rattle.rational.proofs.PlayBack.{line_back}

-- two functions are in one order at both ends of a gap, or meet in it
order_or_meeting : (f h : Affine) (l r : Rational) → l <ʳ r → InOrder f h l r ⊎ ((t : Rational) × MeetAlone f h l r t)
order_or_meeting f h l r o = by_ends (le_totalᵉ (value_at f l) (value_at h l)) (le_totalᵉ (value_at h l) (value_at f l))
    (le_totalᵉ (value_at f r) (value_at h r)) (le_totalᵉ (value_at h r) (value_at f r))
  where
    by_ends : (value_at f l ≤ᵉ value_at h l) ⊎ (value_at h l <ᵉ value_at f l) → (value_at h l ≤ᵉ value_at f l) ⊎ (value_at f l <ᵉ value_at h l)
        → (value_at f r ≤ᵉ value_at h r) ⊎ (value_at h r <ᵉ value_at f r) → (value_at h r ≤ᵉ value_at f r) ⊎ (value_at f r <ᵉ value_at h r)
        → InOrder f h l r ⊎ ((t : Rational) × MeetAlone f h l r t)
    by_ends (inl a) b (inl c) d = inl (inl (record { left = a; right = c }))
    by_ends (inl a) (inl b) (inr c) d = inl (inr (record { left = b; right = le_of_ltᵉ (value_at h r) (value_at f r) c }))
    by_ends (inl a) (inr b) (inr c) d = inr (meets f h l r o (inl (b, c)))
    by_ends (inr a) b c (inl d) = inl (inr (record { left = le_of_ltᵉ (value_at h l) (value_at f l) a; right = d }))
    by_ends (inr a) b c (inr d) = inr (meets f h l r o (inr (a, d)))

-- up to a meeting, and from it on
order_upto : (f h : Affine) (l m : Rational) → value_at f m ≈ᵉ value_at h m → InOrder f h l m
order_upto f h l m e = elim (le_totalᵉ (value_at f l) (value_at h l)) as (λ v. InOrder f h l m) [
  | inl a ↦ inl (record { left = a; right = e.at_most })
  | inr a ↦ inr (record { left = le_of_ltᵉ (value_at h l) (value_at f l) a; right = e.at_least })
]

order_from : (f h : Affine) (m r : Rational) → value_at f m ≈ᵉ value_at h m → InOrder f h m r
order_from f h m r e = elim (le_totalᵉ (value_at f r) (value_at h r)) as (λ v. InOrder f h m r) [
  | inl a ↦ inl (record { left = e.at_most; right = a })
  | inr a ↦ inr (record { left = e.at_least; right = le_of_ltᵉ (value_at h r) (value_at f r) a })
]

-- on the gap the two functions are lines, with values between the least and the greatest
pub record IsPlain (lowest highest : Extended) (P Q : Function) (l r : Rational) (f h : Affine) : Type 0 where
  -- the left side is a line on the gap
  pub left_on : IsLineOn P l r f
  -- and so is the right side
  pub right_on : IsLineOn Q l r h
  -- the left side is at least the lowest value
  pub left_low : (t : Rational) → lowest ≤ᵉ value_at f t
  -- and so is the right side
  pub right_low : (t : Rational) → lowest ≤ᵉ value_at h t
  -- the left side is at most the highest
  pub left_high : (t : Rational) → value_at f t ≤ᵉ highest

later_part : (lowest highest : Extended) (P Q : Function) (l m r : Rational) (f h : Affine) → l <ʳ m → IsPlain lowest highest P Q l r f h
    → IsPlain lowest highest P Q m r f h
later_part lowest highest P Q l m r f h o plain = record {
  left_on = λ t a b. plain.left_on t (lt_trans o a) b;
  right_on = λ t a b. plain.right_on t (lt_trans o a) b;
  left_low = plain.left_low;
  right_low = plain.right_low;
  left_high = plain.left_high;
}

one_of : (F : Function) → IsFunction F → HasOneValue F
one_of F is = record { one = λ t u v w e h k. (is.one u v w (is.alike t u v v e (same_reflᵉ v) h) k).at_most }

-- what the functions have to have: one value at each time, an Inf over each interval, and values between the least and the greatest
pub record IsFit (lowest highest : Extended) (P Q : Function) (from to : Rational) : Type 0 where
  -- the left side is a function of time
  pub p_is : IsFunction P
  -- and so is the right side
  pub q_is : IsFunction Q
  -- the left side has an Inf over each interval
  pub infs : (on : Interval) → (y : Extended) × IsInfOver highest (IsIn on) P y
  -- the left side has a value at each time of the domain
  pub p_at : (t : Rational) → Within from to t → (v : Extended) × P t v × (lowest ≤ᵉ v) × (v ≤ᵉ highest)
  -- and so has the right side
  pub q_at : (t : Rational) → Within from to t → (v : Extended) × Q t v × (lowest ≤ᵉ v)

module _ (lowest highest : Extended) (P Q : Function) (from : Rational) where
  -- the since has a value
  abbrev pub IsKnown : Rational → Type 0
  IsKnown t = (v : Extended) × SinceFromStart lowest highest from P Q t v

  -- whether a value is known does not depend on the pair
  pub known_same : (t u : Rational) → t ≈ u → IsKnown t → IsKnown u
  known_same t u e k = (k.0, (since_is_function lowest highest from P Q).alike t u k.0 k.0 e (same_reflᵉ k.0) k.1)

module _ (lowest highest : Extended) (P Q : Function) (from to : Rational) (fit : IsFit lowest highest P Q from to) where
  abbrev Known : Rational → Type 0
  Known t = IsKnown lowest highest P Q from t

  -- it is known at the start
  pub known_first : from ≤ʳ to → Known from
  known_first order =
      let w : Within from to from = record { above = le_refl from; below = order } in
      let p = fit.p_at from w in
      let q = fit.q_at from w in
      let r = least_of q.0 p.0 in (
        r.0,
        of_since lowest highest P Q from from r.0 (at_start lowest highest P Q (one_of P fit.p_is) (one_of Q fit.q_is) from p.0 q.0 r.0 p.1 q.1 p.3 r.1
            (elim r.1.one_of [ inl h ↦ le_transᵉ lowest q.0 r.0 q.2 h | inr h ↦ le_transᵉ lowest p.0 r.0 p.2 h ])),
      )

  on_part : (F : Function) → IsFunction F → (l t r : Rational) (f : Affine) → t ≤ʳ r → IsLineOn F l r f → IsOn (after false l t) F f
  on_part F is l t r f b on = record {
    out = λ u v m w. let x = on u m.above (lt_of_lt_of_le m.below b) in same_transᵉ v x.0 (value_at f u) (is.one u v x.0 w x.1) x.2;
    back = λ u m. let x = on u m.above (lt_of_lt_of_le m.below b) in is.alike u u x.0 (value_at f u) (same_refl u) x.2 x.1;
  }

  -- in one order
  ordered : (l t r : Rational) (f h : Affine) → from ≤ʳ l → IsPlain lowest highest P Q l r f h → Known l → l <ʳ t → t ≤ʳ r → r ≤ʳ to → InOrder f h l t → Known t
  ordered l t r f h above plain known a b below in_order =
      let low = least_of known.0 (value_at f l) in
      let top = greatest_of low.0 (value_at h l) in
      let high = greatest_of top.0 (value_at h t) in
      let limit = least_of (value_at f t) high.0 in
      let w : Within from to t = record { above = le_trans above (le_of_lt a); below = le_trans b below } in
      let p = fit.p_at t w in
      let q = fit.q_at t w in
      let most = greatest_of q.0 limit.0 in
      let v = least_of p.0 most.0 in
      let since = goes_onward lowest highest P Q fit.infs false from l t above a f h (on_part P fit.p_is l t r f b plain.left_on)
      (on_part Q fit.q_is l t r h b plain.right_on)
      plain.left_low plain.right_low plain.left_high known.0 limit.0 (since_of lowest highest P Q from l known.0 known.1)
      (record { low = low.0; top = top.0; high = high.0; is_low = low.1; is_top = top.1; is_high = high.1; is_value = limit.1 }) in_order in (
        v.0,
        of_since lowest highest P Q from t v.0
            (at_point lowest highest P Q (one_of P fit.p_is)
            (one_of Q fit.q_is) fit.infs from t w.above limit.0 p.0 q.0 most.0 v.0 since p.1 q.1 p.3 most.1 v.1 p.2),
      )

  -- on a gap, and at its end
  pub known_on : (l t r : Rational) (f h : Affine) → from ≤ʳ l → IsPlain lowest highest P Q l r f h → Known l → l <ʳ t → t ≤ʳ r → r ≤ʳ to → Known t
  known_on l t r f h above plain known a b below = elim (order_or_meeting f h l t a) as (λ v. Known t) [
    | inl o ↦ ordered l t r f h above plain known a b below o
    | inr (m, meet) ↦ ordered m t r f h (le_trans above (le_of_lt meet.after)) (later_part lowest highest P Q l m r f h meet.after plain)
        (ordered l m r f h above plain known meet.after (le_of_lt (lt_of_lt_of_le meet.before b)) below (order_upto f h l m meet.meet)) meet.before b
        below (order_from f h m t meet.meet)
  ]

-- finitely many gaps from the one time to the other, on each of which both functions are lines
pub data Cuts (lowest highest : Extended) (P Q : Function) : Rational → Rational → Type 0 where
  done : {l r : Rational} → l ≈ r → Cuts lowest highest P Q l r
  gap : {l r : Rational} (m : Rational) (f h : Affine) → l <ʳ m → m ≤ʳ r → IsPlain lowest highest P Q l m f h → Cuts lowest highest P Q m r
      → Cuts lowest highest P Q l r

module _ (lowest highest : Extended) (P Q : Function) (from to : Rational) (fit : IsFit lowest highest P Q from to) where
  -- the since has a value at each time from one at which it has
  pub since_known : (l r : Rational) → Cuts lowest highest P Q l r → from ≤ʳ l → r ≤ʳ to → IsKnown lowest highest P Q from l → (t : Rational) → l ≤ʳ t
      → t ≤ʳ r → IsKnown lowest highest P Q from t
  since_known l r (done e) above below known t a b = known_same lowest highest P Q from l t (same_of_le a (le_trans b (ge_of_same e))) known
  since_known l r (gap m f h o n plain cuts) above below known t a b =
      by_order (λ x y. since_known m r cuts (le_trans above (le_of_lt o)) below (here m o (le_refl m)) t x y) (le_or_lt m t) (le_or_lt t l)
    where
      here : (t : Rational) → l <ʳ t → t ≤ʳ m → IsKnown lowest highest P Q from t
      here t x y = known_on lowest highest P Q from to fit l t m f h above plain known x y (le_trans n below)

      by_order : (m ≤ʳ t → t ≤ʳ r → IsKnown lowest highest P Q from t) → (m ≤ʳ t) ⊎ (t <ʳ m) → (t ≤ʳ l) ⊎ (l <ʳ t) → IsKnown lowest highest P Q from t
      by_order later (inl x) y = later x b
      by_order later (inr x) (inl y) = known_same lowest highest P Q from l t (same_of_le a y) known
      by_order later (inr x) (inr y) = here t y (le_of_lt x)

-- the function with time running back
abbrev Back : Function → Function
Back F t v = F (negate t) v

runs : (F : Function) → RunsBack F (Back F)
runs F = record { out = λ t v h. h; back = λ t v h. h }

runs' : (F : Function) → RunsBack (Back F) F
runs' F = record { out = λ t v h. h; back = λ t v h. h }

back_is_function : (F : Function) → IsFunction F → IsFunction (Back F)
back_is_function F is = record { alike = λ t u v w e f h. is.alike (negate t) (negate u) v w (same_negate e) f h; one = λ t v w a b. is.one (negate t) v w a b }

precedes_back : (b : Bool) (t u : Rational) → Precedes b t u → Precedes b (negate u) (negate t)
precedes_back true t u h = le_negate h
precedes_back false t u h = lt_negate h

abbrev back_on : Interval → Interval
back_on on = record { from = negate on.to; from_in = on.to_in; to = negate on.from; to_in = on.from_in }

in_back : (on : Interval) (t : Rational) → IsIn on t → IsIn (back_on on) (negate t)
in_back on t i = record { above = precedes_back on.to_in t on.to i.below; below = precedes_back on.from_in on.from t i.above }

in_forth : (on : Interval) (t : Rational) → IsIn (back_on on) t → IsIn on (negate t)
in_forth on t i = record { above = precedes_back on.from_in t (negate on.from) i.below; below = precedes_back on.to_in (negate on.to) t i.above }

module _ (lowest highest : Extended) (P Q : Function) (from to : Rational) (fit : IsFit lowest highest P Q from to) where
  back_fit : IsFit lowest highest (Back P) (Back Q) (negate to) (negate from)
  back_fit = record {
    p_is = back_is_function P fit.p_is;
    q_is = back_is_function Q fit.q_is;
    infs = λ on. let y = fit.infs (back_on on) in
        (y.0, inf_alike highest y.0 (λ v m. (negate m.0, in_forth on m.0 m.1, m.2)) (λ v m. (negate m.0, in_back on m.0 m.1, m.2)) y.1);
    p_at = λ t w. fit.p_at (negate t) (record { above = le_negate w.below; below = le_negate w.above });
    q_at = λ t w. fit.q_at (negate t) (record { above = le_negate w.below; below = le_negate w.above });
  }

  -- the until has a value
  abbrev pub IsKnownAhead : Rational → Type 0
  IsKnownAhead t = (v : Extended) × UntilToEnd lowest highest to P Q t v

  sides : RunsBack (UntilToEnd lowest highest to P Q) (SinceFromStart lowest highest (negate to) (Back P) (Back Q))
  sides = until_runs_back lowest highest P (Back P) Q (Back Q) (runs P) (runs Q) to (negate to) (same_refl to)

  -- and the until has one up to the end
  pub known_last : from ≤ʳ to → IsKnownAhead to
  known_last order = let k = known_first lowest highest (Back P) (Back Q) (negate to) (negate from) back_fit (le_negate order) in
      (k.0, sides.out (negate to) k.0 k.1)

  back_plain : (l r : Rational) (f h : Affine) → IsPlain lowest highest P Q l r f h → (g i : Affine)
      × IsPlain lowest highest (Back P) (Back Q) (negate r) (negate l) g i
  back_plain l r f h plain =
      let g = turned_affine f in
      let i = turned_affine h in (
        g.0,
        i.0,
        record {
          left_on = line_back (Back P) P (runs' P) f g.0 g.1 l r plain.left_on;
          right_on = line_back (Back Q) Q (runs' Q) h i.0 i.1 l r plain.right_on;
          left_low = λ t. le_transᵉ lowest (value_at f (negate t)) (value_at g.0 t) (plain.left_low (negate t)) (g.1 t).at_least;
          right_low = λ t. le_transᵉ lowest (value_at h (negate t)) (value_at i.0 t) (plain.right_low (negate t)) (i.1 t).at_least;
          left_high = λ t. le_transᵉ (value_at g.0 t) (value_at f (negate t)) highest (g.1 t).at_most (plain.left_high (negate t));
        },
      )

  ahead_on : (l t r : Rational) (f h : Affine) → r ≤ʳ to → IsPlain lowest highest P Q l r f h → IsKnownAhead r → l ≤ʳ t → t <ʳ r → from ≤ʳ l → IsKnownAhead t
  ahead_on l t r f h below plain known a b above =
      let g = back_plain l r f h plain in
      let k = known_on lowest highest (Back P) (Back Q) (negate to) (negate from) back_fit (negate r) (negate t) (negate l) g.0 g.1
      (le_negate below) g.2 (known.0, sides.back r known.0 known.1) (lt_negate b) (le_negate a) (le_negate above) in
      (k.0, sides.out (negate t) k.0 k.1)

  ahead_same : (t u : Rational) → t ≈ u → IsKnownAhead t → IsKnownAhead u
  ahead_same t u e k = (k.0, (until_is_function lowest highest to P Q).alike t u k.0 k.0 e (same_reflᵉ k.0) k.1)

  -- at each time up to one at which it has
  pub until_known : (l r : Rational) → Cuts lowest highest P Q l r → from ≤ʳ l → r ≤ʳ to → IsKnownAhead r → (t : Rational) → l ≤ʳ t → t ≤ʳ r → IsKnownAhead t
  until_known l r (done e) above below known t a b = ahead_same r t (same_of_le (le_trans (ge_of_same e) a) b) known
  until_known l r (gap m f h o n plain cuts) above below known t a b =
      by_order (λ u x y. until_known m r cuts (le_trans above (le_of_lt o)) below known u x y) (le_or_lt m t)
    where
      by_order : ((u : Rational) → m ≤ʳ u → u ≤ʳ r → IsKnownAhead u) → (m ≤ʳ t) ⊎ (t <ʳ m) → IsKnownAhead t
      by_order later (inl x) = later t x b
      by_order later (inr x) = ahead_on l t m f h (le_trans n below) plain (later m (le_refl m) n) a x above
