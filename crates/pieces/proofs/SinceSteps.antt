-- How a since of two chains goes on over a part of both, and the causes for which it may be refused.
use Rattle.std.proofs.Common.{◌≡◌, ◌⊎◌, inl, inr, ℕ, ◌^◌, Bool, true, false, refl, sym, ◌∙◌, subst}
use Rattle.rational.specs.Rational.{Rational, IsWithin, ◌<ʳ◌, ◌≤ʳ◌}
use Rattle.rational.specs.Time.{IsIn}
use Rattle.rational.specs.Extended.{Extended, ◌≈ᵉ◌, Affine, value_at}
use Rattle.rational.specs.Affine.{IsBounded, MeetAlone}
use Rattle.rational.specs.InPlay.{IsBreakpoint, IsCrossing}
use Rattle.rational.specs.Onward.{InOrder}
use Rattle.rational.specs.Places.{Place, After, Upto, Before, AtMost}
use Rattle.rational.proofs.Order.{le_refl, le_of_lt, le_trans, le_of_same, not_lt_of_le, same_sym}
use Rattle.rational.proofs.AffineLemmas.{same_reflᵉ}
use Rattle.rational.proofs.ExtendedLemmas.{le_totalᵉ, le_of_ltᵉ}
use Rattle.rational.proofs.Bounds.{bounded_start, bounded_stop, sup_bounded, least_bounded, inf_bounded}
use Rattle.rational.proofs.PlaceLemmas.{before_through, upto_earlier, after_of_before, upto_of_before, le_of_at_most}
use Rattle.rational.proofs.SinceForward.{upto, Reach}
use Rattle.rational.proofs.SinceOnward.{of_since}
use Rattle.rational.proofs.TimeFunctions.{IsFunction, since_is_function}
use Rattle.frac128.specs.Value.{value}
use Rattle.frac128.specs.Cuts.{place}
use Rattle.frac128.specs.declared.cut.Cut.{Cut}
use Rattle.frac128.specs.declared.frac.Frac.{Frac}
use Rattle.value_laws.specs.Members.{ShapeOf, ShapeLaws}
use Rattle.pl_signal.specs.Wide.{HasCause}
use Rattle.pl_signal.specs.declared.faults.OpFault.{OpFault}
use Rattle.courses.specs.declared.course.Gap.{Gap}
use Rattle.courses.specs.Courses.{IsBegun, IsOfGap, IsOnwardIn, IsPlayed}
use Rattle.courses.specs.Pairs.{IsPairWithin}
use Rattle.courses.proofs.CourseLemmas.{below_on, order_to_meeting}
use Rattle.courses.proofs.PlayLemmas.{Lies, PlaysOn, cross_cause, cross_within, fixed_plays, left_plays, other_before, right_plays}
use Rattle.courses.proofs.PlayLemmas.{value_of_cause, value_within}
use Rattle.pieces.specs.Chains.{Chain, HasShape, IsLimited, IsNormal, IsWorth, stop}
use Rattle.pieces.specs.Sinces.{BasesOfTwo, GoesOver, IsFit, IsPartFault, IsPassFault, IsTurning, IsUsed, Passes, SinceOf, SinceStep, up_to, from_on}
use Rattle.pieces.proofs.Ends.{after_le, upto_le, after_of_lt, upto_of_lt, at_most_itself, at_most_trans, here_after, here_upto, earlier_upto, later_after}
use Rattle.pieces.proofs.Infs.{chain_inf}
use Rattle.pieces.proofs.ChainsTell.{TellsSoFar, worth_is_function}
use Rattle.pieces.proofs.SincePlaces.{SinceTo, goes_from}

-- the order at both ends holds up to a time between them
in_order_to : (f h : Affine) (l t r : Rational) → l ≤ʳ t → t ≤ʳ r → InOrder f h l r → InOrder f h l t
in_order_to f h l t r a b (inl o) = inl (record { left = o.left; right = below_on f h l t r o a b })
in_order_to f h l t r a b (inr o) = inr (record { left = o.left; right = below_on h f l t r o a b })

-- from where two meet they are in one order
pub order_from_meeting : (f h : Affine) (l r : Rational) → value_at f l ≈ᵉ value_at h l → InOrder f h l r
order_from_meeting f h l r meet = elim (le_totalᵉ (value_at f r) (value_at h r)) [
  | inl k ↦ inl (record { left = meet.at_most; right = k })
  | inr k ↦ inr (record { left = meet.at_least; right = le_of_ltᵉ (value_at h r) (value_at f r) k })
]

-- a function that is bounded between two places is bounded at their times
pub bounded_ends : (n : ℕ) (c e : Place) (f : Affine) → Before c e → ((t : Rational) → After c t → Upto e t → IsBounded n (value_at f t))
    → IsBounded n (value_at f c.at) × IsBounded n (value_at f e.at)
bounded_ends n c e f (inl l) all = (
  bounded_start n f c.at e.at l (λ t x y. all t (after_of_lt c t x) (upto_of_lt e t y)),
  bounded_stop n f c.at e.at l (λ t x y. all t (after_of_lt c t x) (upto_of_lt e t y)),
)
bounded_ends n c e f (inr (s, x, y)) all = (
  all c.at (here_after c x) (earlier_upto c e (inr (s, x, y))),
  all e.at (later_after c e (inr (s, x, y))) (here_upto e y),
)

-- two limited chains with the laws of their kind of value
pub record AreOperands {P : Type 0} (shape : ShapeOf P) (a b : Chain P) : Type 0 where
  -- the laws
  pub laws : ShapeLaws shape
  -- both are normal
  pub left_normal : IsNormal shape a
  -- and so is the right side
  pub right_normal : IsNormal shape b
  -- within the limits
  pub left : IsLimited shape a
  -- both
  pub right : IsLimited shape b

-- the since is a function of time
pub since_is : {P : Type 0} (shape : ShapeOf P) (a b : Chain P) → IsFunction (SinceOf shape a b)
since_is shape a b = since_is_function shape.lowest shape.highest a.from.at (IsWorth shape a) (IsWorth shape b)

-- x has at the time of the place what the since is up to the place
abbrev pub SinceAt : {P : Type 0} → ShapeOf P → Chain P → Chain P → Place → P → Type 0
SinceAt shape a b c x = SinceTo shape.lowest shape.highest (IsWorth shape a) (IsWorth shape b) a.from.at c (value_at (shape.function x) c.at)

-- a shape of one of the two, or a constant
abbrev pub IsOfOperands : {P : Type 0} → ShapeOf P → Chain P → Chain P → P → Type 0
IsOfOperands shape a b x = HasShape a x ⊎ HasShape b x ⊎ (shape.moves x ≡ false)

-- a side is not affine at the time, or begins or ends
abbrev pub Breaks : {P : Type 0} → ShapeOf P → Chain P → Chain P → Rational → Type 0
Breaks shape a b t = IsBreakpoint (IsWorth shape a) a.from.at (stop a).at t ⊎ IsBreakpoint (IsWorth shape b) a.from.at (stop a).at t

-- where a part begins: just before its time, or just after it
abbrev pub begin_of : {P : Type 0} → Gap P → Bool → Place
begin_of gap side = record { at = value gap.from; after = side }

-- up to the end of what is built it is the since, and `before` has the value up to there
pub record Stands {P : Type 0} (shape : ShapeOf P) (a b built : Chain P) (before : P) : Type 0 where
  -- what is built tells the since
  pub tells : TellsSoFar shape (SinceOf shape a b) built
  -- the since up to its end
  pub here : SinceAt shape a b (stop built) before
  -- of what the shape is
  pub of : IsOfOperands shape a b before
  -- and the shapes of what is built
  pub shapes : (r : P) → HasShape built r → IsOfOperands shape a b r

-- a part of both chains, from a place on up to another
pub record IsPart {P : Type 0} (shape : ShapeOf P) (a b : Chain P) (gap : Gap P) (side : Bool) (e : Place) : Type 0 where
  -- there is some time in it
  pub later : Before (begin_of gap side) e
  -- it lies in the domain
  pub above : AtMost a.from (begin_of gap side)
  -- up to its end
  pub below : AtMost e (stop a)
  -- the left side goes by its shape
  pub left : (t : Rational) → After (begin_of gap side) t → Upto e t → IsWorth shape a t (value_at (shape.function gap.left) t)
  -- and so does the right side
  pub right : (t : Rational) → After (begin_of gap side) t → Upto e t → IsWorth shape b t (value_at (shape.function gap.right) t)
  -- these are shapes of the chains
  pub has_left : HasShape a gap.left
  -- of both
  pub has_right : HasShape b gap.right

-- the moving shapes of what is built have bases of the two
pub bases_of_stand : {P : Type 0} (shape : ShapeOf P) (a b built : Chain P) → ((r : P) → HasShape built r → IsOfOperands shape a b r)
    → BasesOfTwo shape a b built
bases_of_stand {P} shape a b built shapes = λ x h m. by_shape x m (shapes x h)
  where
    by_shape : (x : P) → shape.moves x ≡ true → IsOfOperands shape a b x
        → (y : P) × (HasShape a y ⊎ HasShape b y) × (shape.moves y ≡ true) × (shape.base x ≡ shape.base y)
    by_shape x m (inl h) = (x, inl h, m, refl)
    by_shape x m (inr (inl h)) = (x, inr h, m, refl)
    by_shape x m (inr (inr e)) = absurd (cc)

module _ {P : Type 0} {shape : ShapeOf P} {a b : Chain P} (two : AreOperands shape a b) where
  -- the since up to a place is bounded
  since_small : (c : Place) (x : P) → SinceAt shape a b c x → IsBounded (2 ^ 31) (value_at (shape.function x) c.at)
  since_small c x s = sup_bounded (2 ^ 31)
      (λ v. (u : Rational) × IsIn (upto c.after a.from.at c.at) u × Reach shape.lowest shape.highest (IsWorth shape a) (IsWorth shape b) c.after c.at u v)
      shape.lowest (value_at (shape.function x) c.at) two.laws.lowest_bounded
      (λ w (u, m, (y, z, f, i, l)). least_bounded (2 ^ 31) y z w l (two.right.values u y f)
      (inf_bounded (2 ^ 31) shape.highest (λ v. (t : Rational) × IsIn (upto c.after u c.at) t × IsWorth shape a t v) z i two.laws.highest_bounded
      (λ v (t, k, g). two.left.values t v g))) s

  module _ {gap : Gap P} {side : Bool} {e : Place} (part : IsPart shape a b gap side e) where
    -- the since up to a place of the part
    goes_to : (d : Place) (v : Extended) → Before (begin_of gap side) d → AtMost d e
        → InOrder (shape.function gap.left) (shape.function gap.right) (value gap.from) d.at → SinceAt shape a b (begin_of gap side) gap.before
        → IsOnwardIn shape gap d.at v → SinceTo shape.lowest shape.highest (IsWorth shape a) (IsWorth shape b) a.from.at d v
    goes_to d v before most o s on =
        goes_from shape.lowest shape.highest (IsWorth shape a) (IsWorth shape b) (worth_is_function shape a two.left_normal)
        (worth_is_function shape b two.right_normal) (λ on. chain_inf shape two.laws.highest_is_greatest a.from a.pieces on) a.from.at
        (shape.function gap.left) (shape.function gap.right) (two.laws.lowest_is_least gap.left) (two.laws.lowest_is_least gap.right)
        (two.laws.highest_is_greatest gap.left) side (value gap.from) d (value_at (shape.function gap.before) (value gap.from)) v
        (le_of_at_most a.from (begin_of gap side) part.above) before (λ u x y. part.left u x (most u y)) (λ u x y. part.right u x (most u y)) o s on

    -- at a time of it
    since_on : (t : Rational) (v : Extended) → After (begin_of gap side) t → Upto e t
        → InOrder (shape.function gap.left) (shape.function gap.right) (value gap.from) e.at → SinceAt shape a b (begin_of gap side) gap.before
        → IsOnwardIn shape gap t v → SinceOf shape a b t v
    since_on t v x y o s on = of_since shape.lowest shape.highest (IsWorth shape a) (IsWorth shape b) a.from.at t v
        (goes_to (record { at = t; after = true }) v (before_through (begin_of gap side) (record { at = t; after = true }) t x (le_refl t))
        (λ u k. upto_earlier e u t k y)
        (in_order_to (shape.function gap.left) (shape.function gap.right) (value gap.from) t e.at (after_le (begin_of gap side) t x) (upto_le e t y) o) s on)

    -- the shapes are bounded at its ends
    pub is_fit : value gap.to ≡ e.at → IsWithin (2 ^ 34) (value gap.from) → IsWithin (2 ^ 34) (value gap.to)
        → SinceAt shape a b (begin_of gap side) gap.before → IsFit shape gap
    is_fit end from_within to_within s =
        let l = bounded_ends (2 ^ 31) (begin_of gap side) e (shape.function gap.left) part.later
        (λ t x y. two.left.values t (value_at (shape.function gap.left) t) (part.left t x y)) in
        let r = bounded_ends (2 ^ 31) (begin_of gap side) e (shape.function gap.right) part.later
        (λ t x y. two.right.values t (value_at (shape.function gap.right) t) (part.right t x y)) in
        record {
          from_within = from_within;
          to_within = to_within;
          before_small = since_small (begin_of gap side) gap.before s;
          left_small = l.0;
          right_small = r.0;
          left_last = subst (λ t. IsBounded (2 ^ 31) (value_at (shape.function gap.left) t)) (sym end) l.1;
          right_last = subst (λ t. IsBounded (2 ^ 31) (value_at (shape.function gap.right) t)) (sym end) r.1;
        }

    -- what a since is made of on the part
    used_of : (x : P) → IsOfOperands shape a b gap.before → IsUsed shape gap x → IsOfOperands shape a b x
    used_of x before (inr h) = subst (IsOfOperands shape a b) (sym h) before
    used_of x before (inl (inl h)) = inl (subst (HasShape a) (sym h) part.has_left)
    used_of x before (inl (inr (inl h))) = inr (inl (subst (HasShape b) (sym h) part.has_right))
    used_of x before (inl (inr (inr (o, is, fixed, still)))) = inr (inr still)

    -- the part is a gap of both sides
    lies : value gap.to ≡ e.at → value gap.from <ʳ value gap.to
        → IsBreakpoint (IsWorth shape a) a.from.at (stop a).at (value gap.from) ⊎ IsBreakpoint (IsWorth shape b) a.from.at (stop a).at (value gap.from)
        ⊎ IsCrossing (shape.function gap.left) (shape.function gap.right) (value gap.from)
        → Lies shape (IsWorth shape a) (IsWorth shape b) a.from.at (stop a).at gap
    lies end later event =
        let low = le_of_at_most a.from (begin_of gap side) part.above in
        let high : value gap.to ≤ʳ (stop a).at = subst (λ t. t ≤ʳ (stop a).at) (sym end) (le_of_at_most e (stop a) part.below) in
        record {
          later = later;
          inside = record { above = low; below = le_trans (le_of_lt later) high };
          below = high;
          left_on = λ t x y. (
            value_at (shape.function gap.left) t,
            part.left t (after_of_lt (begin_of gap side) t x) (upto_of_lt e t (subst (λ s. t <ʳ s) end y)),
            same_reflᵉ (value_at (shape.function gap.left) t),
          );
          right_on = λ t x y. (
            value_at (shape.function gap.right) t,
            part.right t (after_of_lt (begin_of gap side) t x) (upto_of_lt e t (subst (λ s. t <ʳ s) end y)),
            same_reflᵉ (value_at (shape.function gap.right) t),
          );
          event = event;
        }

    -- what the since goes on with as the part begins is its value there, or one of the three shapes is
    begun_here : (o : P) → IsBegun shape gap o → InOrder (shape.function gap.left) (shape.function gap.right) (value gap.from) e.at
        → SinceAt shape a b (begin_of gap side) gap.before
        → (x : P) × SinceOf shape a b (value gap.from) (value_at (shape.function x) (value gap.from)) × IsOfGap shape (record gap { before = x }) o
    begun_here o is order s = by_side side refl
      where
        by_side : (b' : Bool) → side ≡ b'
            → (x : P) × SinceOf shape a b (value gap.from) (value_at (shape.function x) (value gap.from)) × IsOfGap shape (record gap { before = x }) o
        by_side true e' = (
          gap.before,
          of_since shape.lowest shape.highest (IsWorth shape a) (IsWorth shape b) a.from.at (value gap.from)
              (value_at (shape.function gap.before) (value gap.from))
              (subst (λ side. SinceAt shape a b (begin_of gap side) gap.before) e' s),
          is.0,
        )
        by_side false e' = (
          o,
          since_on (value gap.from) (value_at (shape.function o) (value gap.from)) (here_after (begin_of gap side) e')
              (earlier_upto (begin_of gap side) e part.later) order s is.1,
          inl refl,
        )

    -- what is refused on it has a cause in play, at times of the domain
    part_refused : Lies shape (IsWorth shape a) (IsWorth shape b) a.from.at (stop a).at gap
        → InOrder (shape.function gap.left) (shape.function gap.right) (value gap.from) e.at
        → InOrder (shape.function gap.left) (shape.function gap.right) (value gap.from) (value gap.to)
        → SinceAt shape a b (begin_of gap side) gap.before → (fault : OpFault P) → IsPartFault shape gap fault
        → HasCause shape (SinceStep shape a b) a.from.at (stop a).at fault × IsPairWithin a.from.at (stop a).at fault
    part_refused on order order' s fault (inl (o, is, h)) =
        let (x, here, of) = begun_here o is order s in
        (value_of_cause (other_before on x) (SinceOf shape a b) (since_is shape a b) here order' fault o of h, value_within on fault (o, is, h))
    part_refused on order order' s fault (inr (x, y, p, q, at, same, h)) =
        (cross_cause on (SinceOf shape a b) x y (plays x p) (plays y q) at same fault h, cross_within on x y at same fault h)
      where
        plays : (x : P) → IsPlayed shape gap x → PlaysOn shape (IsWorth shape a) (IsWorth shape b) (SinceOf shape a b) a.from.at (stop a).at gap x
        plays x (inl e') = subst (PlaysOn shape (IsWorth shape a) (IsWorth shape b) (SinceOf shape a b) a.from.at (stop a).at gap) (sym e')
            (left_plays on (SinceOf shape a b))
        plays x (inr (inl e')) = subst (PlaysOn shape (IsWorth shape a) (IsWorth shape b) (SinceOf shape a b) a.from.at (stop a).at gap) (sym e')
            (right_plays on (SinceOf shape a b))
        plays x (inr (inr (o, is, fixed, still))) =
            let (z, here, of) = begun_here o is order s in
            fixed_plays (other_before on z) (SinceOf shape a b) (since_is shape a b) here order' o x of fixed

  -- the chain goes on over a part in one order
  over : {gap : Gap P} {side : Bool} {until : Cut} {old new : Chain P} {last : P} → IsPart shape a b gap side (place until) → begin_of gap side ≡ stop old
      → value gap.to ≡ value until.time → Stands shape a b old gap.before → GoesOver shape gap until old new last → Stands shape a b new last
  over {gap} {side} {until} {old} {new} {last} part at end s goes = record {
    tells = record { normal = goes.normal; worth = λ t v w. by_part t v (goes.worth t v w) };
    here = subst (λ c. SinceAt shape a b c last) (sym goes.ends)
        (goes_to part (place until) (value_at (shape.function last) (value until.time)) part.later (at_most_itself (place until)) order before
        (subst (λ t. IsOnwardIn shape gap t (value_at (shape.function last) t)) end goes.here));
    of = used_of part last s.of goes.last_of;
    shapes = λ r h. by_shape r (goes.shapes r h);
  }
    where
      order : InOrder (shape.function gap.left) (shape.function gap.right) (value gap.from) (value until.time)
      order = subst (λ t. InOrder (shape.function gap.left) (shape.function gap.right) (value gap.from) t) end goes.in_order

      before : SinceAt shape a b (begin_of gap side) gap.before
      before = subst (λ c. SinceAt shape a b c gap.before) (sym at) s.here

      by_part : (t : Rational) (v : Extended) → IsWorth shape old t v ⊎ (After (stop old) t × Upto (place until) t × IsOnwardIn shape gap t v)
          → SinceOf shape a b t v
      by_part t v (inl w) = s.tells.worth t v w
      by_part t v (inr w) = since_on part t v (subst (λ c. After c t) (sym at) w.0) w.1 order before w.2

      by_shape : (r : P) → HasShape old r ⊎ IsUsed shape gap r → IsOfOperands shape a b r
      by_shape r (inl h) = s.shapes r h
      by_shape r (inr h) = used_of part r s.of h

  -- a part up to a time between, and from there on
  first_part : {gap : Gap P} {side : Bool} {e : Place} (time : Frac) → value gap.from <ʳ value time → value time <ʳ e.at → IsPart shape a b gap side e
      → IsPart shape a b (up_to gap time) side (place (record { time = time; side = 0 }))
  first_part {gap} {side} {e} time after before part = record {
    later = inl after;
    above = part.above;
    below = at_most_trans (place (record { time = time; side = 0 })) e (stop a)
        (λ t u. upto_of_before (place (record { time = time; side = 0 })) e t (inl before) u) part.below;
    left = λ t x y. part.left t x (upto_of_before (place (record { time = time; side = 0 })) e t (inl before) y);
    right = λ t x y. part.right t x (upto_of_before (place (record { time = time; side = 0 })) e t (inl before) y);
    has_left = part.has_left;
    has_right = part.has_right;
  }

  second_part : {gap : Gap P} {side : Bool} {e : Place} (time : Frac) (middle : P) → value gap.from <ʳ value time → value time <ʳ e.at
      → IsPart shape a b gap side e → IsPart shape a b (from_on gap time middle) false e
  second_part {gap} {side} {e} time middle after before part = record {
    later = inl before;
    above = at_most_trans a.from (begin_of gap side) (begin_of (from_on gap time middle) false) part.above
        (λ t u. upto_of_before (begin_of gap side) (begin_of (from_on gap time middle) false) t (inl after) u);
    below = part.below;
    left = λ t x y. part.left t (after_of_before (begin_of gap side) (begin_of (from_on gap time middle) false) t (inl after) x) y;
    right = λ t x y. part.right t (after_of_before (begin_of gap side) (begin_of (from_on gap time middle) false) t (inl after) x) y;
    has_left = part.has_left;
    has_right = part.has_right;
  }

  -- where it stands at the crossing of both sides
  turned : {gap : Gap P} {side : Bool} {e : Place} {old half : Chain P} {middle : P} (time : Frac) → IsPart shape a b gap side e → begin_of gap side ≡ stop old
      → value time <ʳ e.at → Stands shape a b old gap.before → IsTurning shape gap old half time middle → Stands shape a b half middle
  turned time part at before s turning = over (first_part time turning.meets.after before part) at refl s turning.first

  -- the chain goes on over a part
  pub through : {gap : Gap P} {side : Bool} {until : Cut} {old new : Chain P} {last : P} → IsPart shape a b gap side (place until)
      → begin_of gap side ≡ stop old → value gap.to ≡ value until.time → Stands shape a b old gap.before → Passes shape gap until old new last
      → Stands shape a b new last × (stop new ≡ place until) × (new.from ≡ old.from)
  through part at end s (inl goes) = (over part at end s goes, goes.ends, goes.begins)
  through {gap} {side} {until} {old} {new} {last} part at end s (inr (time, middle, half, turning, goes)) =
      let before : value time <ʳ value until.time = subst (λ t. value time <ʳ t) end turning.meets.before in (
        over (second_part time middle turning.meets.after before part) (sym turning.first.ends) end (turned time part at before s turning) goes,
        goes.ends,
        goes.begins ∙ turning.first.begins,
      )

  -- what is refused on the way has a cause in play, at times of the domain
  pub refused : {gap : Gap P} {side : Bool} {old : Chain P} (until : Cut) → IsPart shape a b gap side (place until) → begin_of gap side ≡ stop old
      → value gap.to ≡ value until.time → value gap.from <ʳ value gap.to
      → Breaks shape a b (value gap.from) → Stands shape a b old gap.before → (fault : OpFault P) → IsPassFault shape gap old fault
      → HasCause shape (SinceStep shape a b) a.from.at (stop a).at fault × IsPairWithin a.from.at (stop a).at fault
  refused {gap} {side} {old} until part at end later event s fault h = by_kind h
    where
      f : Affine
      f = shape.function gap.left

      g : Affine
      g = shape.function gap.right

      here : SinceAt shape a b (begin_of gap side) gap.before
      here = subst (λ c. SinceAt shape a b c gap.before) (sym at) s.here

      broken : IsBreakpoint (IsWorth shape a) a.from.at (stop a).at (value gap.from) ⊎ IsBreakpoint (IsWorth shape b) a.from.at (stop a).at (value gap.from)
          ⊎ IsCrossing f g (value gap.from)
      broken = elim event [ inl x ↦ inl x | inr x ↦ inr (inl x) ]

      until_at : (time : Frac) → value time <ʳ value gap.to → value time <ʳ value until.time
      until_at time l = subst (λ t. value time <ʳ t) end l

      crosses : (time : Frac) → MeetAlone f g (value gap.from) (value gap.to) (value time) → IsCrossing f g (value time)
      crosses time m = record {
        meet = m.meet;
        elsewhere = value gap.from;
        apart = λ same. not_lt_of_le (le_of_same (same_sym (m.alone (value gap.from) same))) m.after;
      }

      by_kind : IsPassFault shape gap old fault → HasCause shape (SinceStep shape a b) a.from.at (stop a).at fault × IsPairWithin a.from.at (stop a).at fault
      by_kind (inl w) =
          let on = lies part end later broken in (
            cross_cause on (SinceOf shape a b) gap.left gap.right (left_plays on (SinceOf shape a b)) (right_plays on (SinceOf shape a b))
                gap.from refl fault w,
            cross_within on gap.left gap.right gap.from refl fault w,
          )
      by_kind (inr (inl (order, w))) =
          part_refused part (lies part end later broken) (subst (λ t. InOrder f g (value gap.from) t) end order) order here fault w
      by_kind (inr (inr (inl (time, m, w)))) =
          let order = order_to_meeting f g (value gap.from) (value time) m.meet in
          let first = first_part time m.after (until_at time m.before) part in
          part_refused first (lies first refl m.after broken) order order here fault w
      by_kind (inr (inr (inr (time, middle, half, turning, w)))) =
          let m = turning.meets in
          let order = order_from_meeting f g (value time) (value gap.to) m.meet in
          let second = second_part time middle m.after (until_at time m.before) part in
          let there = turned time part at (until_at time m.before) s turning in
          part_refused second (lies second end m.before (inr (inr (crosses time m))))
          (subst (λ t. InOrder f g (value time) t) end order) order
          (subst (λ c. SinceAt shape a b c middle) turning.first.ends there.here) fault w
