-- Signals moved in time, knot by knot.
use Rattle.std.proofs.Common.{◌≡◌, ℕ, zero, suc, ◌+◌, ◌-◌, ◌<◌, ◌^◌, ◌⊎◌, inl, inr, List, [], ◌∷◌, length, Some}
use Rattle.std.proofs.Common.{ℤ, pos, neg_ℤ, refl, ◌∙◌, ap, subst, arith, IsTrue, get_or, negsuc, ◌≤ℤ◌, ◌-ℤ◌, ◌≤◌}
use Rattle.std.specs.Prelude.{slice_get}
use Rattle.std.specs.Int.{w64}
use Rattle.std.proofs.lemmas.Option.{slice_get_past, slice_get-get_or}
use Rattle.std.proofs.lemmas.Int.{ints}
use Rattle.std.specs.Prelude.{FitsSigned}
use Rattle.std.proofs.Common.{le_of_mul-le-mul_right}
use Rattle.rational.specs.Rational.{Rational, add, subtract, whole, IsWithin}
use Rattle.rational.specs.Time.{Within, ◌≤ʳ◌, ◌<ʳ◌, ◌≈◌}
use Rattle.rational.specs.Extended.{value_at, ◌≈ᵉ◌}
use Rattle.rational.proofs.Order.{le_trans, lt_of_lt_of_le, lt_of_le_of_lt, le_of_same, ge_of_same, same_refl, same_sym, same_trans}
use Rattle.rational.proofs.Shift.{shift_back, le_shift, lt_shift, same_shift, shift_forth}
use Rattle.rational.proofs.AffineLemmas.{same_symᵉ}
use Rattle.rational.proofs.Sames.{symᵉ}
use Rattle.frac128.specs.Value.{value}
use Rattle.frac128.specs.declared.frac.Frac.{Frac}
use Rattle.value_laws.specs.Members.{ShapeOf}
use Rattle.pl_signal.specs.declared.knot.Knot.{Knot}
use Rattle.pl_signal.specs.Knots.{time, start, stop, HasShape, IsWorth, IsSignal}
use Rattle.pl_signal.specs.Limits.{IsLimited}
use Rattle.pl_signal.specs.Building.{GoesOn}
use Rattle.pl_signal.specs.Moves.{BasesFrom, Tells}
use Rattle.pl_signal.proofs.Values.{next_rises, stop_at, worth_within, worth_at, worth_between, worth_same, one_value}
use Rattle.pl_signal.proofs.Telling.{IsFunction, TellsSoFar, tells_first, tells_on}

-- a mirror turns the order round
pub mirror_lt : {t u : Rational} (z : ℤ) → t <ʳ u → subtract (whole z) u <ʳ subtract (whole z) t
mirror_lt {t} {u} z h = record { lt = omega (arith, h.lt) }

-- so where they may be equal
pub mirror_le : {t u : Rational} (z : ℤ) → t ≤ʳ u → subtract (whole z) u ≤ʳ subtract (whole z) t
mirror_le {t} {u} z h = record { le = omega (arith, h.le) }

-- equal times have equal mirror images
pub mirror_same : {t u : Rational} (z : ℤ) → t ≈ u → subtract (whole z) t ≈ subtract (whole z) u
mirror_same {t} {u} z h = record { same = omega (arith, h.same) }

-- mirrored twice is as before
pub mirror_twice : (t : Rational) (z : ℤ) → subtract (whole z) (subtract (whole z) t) ≈ t
mirror_twice t z = omega arith

-- the mirror image of a mirror image
pub mirror_back : {t u : Rational} (z : ℤ) → u ≈ subtract (whole z) t → subtract (whole z) u ≈ t
mirror_back {t} z e = same_trans (mirror_same z e) (mirror_twice t z)

-- a time moved back, and forth again
pub move_back : {t u : Rational} (z : ℤ) → u ≈ add t (whole (neg_ℤ z)) → add u (whole z) ≈ t
move_back {t} z e = same_trans (same_shift z e) (shift_forth t z)

module _ {P : Type 0} (shape : ShapeOf P) where
  -- a moved signal is a function of time
  pub moved_is_function : (ks : List (Knot P)) (back : Rational → Rational) → ((t u : Rational) → t ≈ u → back t ≈ back u) → IsSignal shape ks
      → IsFunction (λ t v. IsWorth shape ks (back t) v)
  moved_is_function ks back alike s = record {
    alike = λ t u v w e f h. worth_same shape ks v w (alike t u e) f h;
    one = λ t v w a b. one_value shape ks (back t) v w s a b;
  }

  -- the knots `old` tell what the signal of `ks` is worth at the time `back t` for t, and `new` goes on from them by the gap after k and the point of m
  pub record MovesOn (ks : List (Knot P)) (back : Rational → Rational) (k m : Knot P) (old new : List (Knot P)) : Type 0 where
    -- the shape on the gap
    pub after : P
    -- the time of its end
    pub at : Frac
    -- the shape there
    pub point : P
    -- what is told so far
    pub so_far : TellsSoFar shape (λ t v. IsWorth shape ks (back t) v) old
    -- how it goes on
    pub on : GoesOn shape old after at point new
    -- the end is the time of m moved
    pub arrives : back (value at) ≈ time m
    -- the shape of the gap is that after k, moved
    pub afters : (t : Rational) → value_at (shape.function after) t ≈ᵉ value_at (shape.function k.after) (back t)
    -- and the one at its end that of the point of m
    pub points : (t : Rational) → value_at (shape.function point) t ≈ᵉ value_at (shape.function m.point) (back t)

  -- one knot more
  pub moved_on : {k n m : Knot P} {old new : List (Knot P)} (ks : List (Knot P)) (back : Rational → Rational) (i p : ℕ)
      → IsFunction (λ t v. IsWorth shape ks (back t) v)
      → slice_get ks i ≡ Some k → slice_get ks (i + 1) ≡ Some n → slice_get ks p ≡ Some m → (step : MovesOn ks back k m old new)
      → ((t : Rational) → stop old <ʳ t → t <ʳ value step.at → (time k <ʳ back t) × (back t <ʳ time n))
      → TellsSoFar shape (λ t v. IsWorth shape ks (back t) v) new
  moved_on {k} {n} {m} {old} {new} ks back i p is at_i at_next at_p step between =
      tells_on shape (λ t v. IsWorth shape ks (back t) v) old new step.after step.point step.at is step.so_far step.on
      (λ t a b. let h = between t a b in worth_same shape ks (value_at (shape.function k.after) (back t)) (value_at (shape.function step.after) t)
      (same_refl (back t))
      (same_symᵉ (value_at (shape.function step.after) t) (value_at (shape.function k.after) (back t)) (step.afters t))
      (worth_between shape ks i k n (back t) at_i at_next h.0 h.1))
      (worth_same shape ks (value_at (shape.function m.point) (back (value step.at))) (value_at (shape.function step.point) (value step.at))
      (same_refl (back (value step.at)))
      (same_symᵉ (value_at (shape.function step.point) (value step.at)) (value_at (shape.function m.point) (back (value step.at)))
      (step.points (value step.at)))
      (worth_at shape ks p m (back (value step.at)) at_p step.arrives))

  -- the first knot
  moved_first : (ks built : List (Knot P)) (back : Rational → Rational) (p : ℕ) (m : Knot P) (point : P) (at : Frac)
      → IsFunction (λ t v. IsWorth shape ks (back t) v) → slice_get ks p ≡ Some m
      → back (value at) ≈ time m → ((t : Rational) → value_at (shape.function point) t ≈ᵉ value_at (shape.function m.point) (back t))
      → built ≡ record { time = at; point = point; after = point } ∷ [] → TellsSoFar shape (λ t v. IsWorth shape ks (back t) v) built
  moved_first ks built back p m point at is at_p arrives points e =
      tells_first shape (λ t v. IsWorth shape ks (back t) v) built point at is
      (worth_same shape ks (value_at (shape.function m.point) (back (value at))) (value_at (shape.function point) (value at)) (same_refl (back (value at)))
      (symᵉ (points (value at))) (worth_at shape ks p m (back (value at)) at_p arrives)) e

  -- the times of a limited signal are limited
  pub limited_at : (ks : List (Knot P)) (i : ℕ) (k : Knot P) → IsLimited shape ks → slice_get ks i ≡ Some k → IsWithin (2 ^ 34) (time k)
  limited_at [] i k h e = absurd (cc)
  limited_at (l ∷ ks) zero k h e = let s : l ≡ k = cc in subst (λ k. IsWithin (2 ^ 34) (time k)) s h.0.when
  limited_at (l ∷ ks) (suc i) k h e = limited_at ks i k h.1 e

  -- so for the start
  pub limited_start : (ks : List (Knot P)) → 0 < length ks → IsLimited shape ks → IsWithin (2 ^ 34) (start ks)
  limited_start [] some h = absurd (omega arith)
  limited_start (k ∷ ks) some h = h.0.when

  -- and for the stop
  pub limited_stop : (ks : List (Knot P)) → 0 < length ks → IsLimited shape ks → IsWithin (2 ^ 34) (stop ks)
  limited_stop [] some h = absurd (omega arith)
  limited_stop (k ∷ []) some h = h.0.when
  limited_stop (k ∷ n ∷ ks) some h = limited_stop (n ∷ ks) (omega arith) h.1

  -- the time of a knot lies in the domain
  pub at_knot_within : (ks : List (Knot P)) (i : ℕ) (k : Knot P) → IsSignal shape ks → slice_get ks i ≡ Some k → Within (start ks) (stop ks) (time k)
  at_knot_within ks i k s e = worth_within shape ks (time k) (value_at (shape.function k.point) (time k)) s
      (worth_at shape ks i k (time k) e (same_refl (time k)))

  -- a mirrored knot lies between the mirrored ends
  pub mirror_within : (n : ℕ) (z : ℤ) (ks : List (Knot P)) (i : ℕ) (k : Knot P) → IsSignal shape ks → slice_get ks i ≡ Some k
      → IsWithin n (subtract (whole z) (stop ks)) → IsWithin n (subtract (whole z) (start ks))
      → IsWithin n (subtract (whole z) (time k))
  mirror_within n z ks i k s e low high =
      let w = at_knot_within ks i k s e in (le_trans low.0 (mirror_le z w.below), le_trans (mirror_le z w.above) high.1)

  -- the first knot and the last, by their places
  pub first_is : (ks : List (Knot P)) → 0 < length ks → (k : Knot P) × (slice_get ks 0 ≡ Some k) × (start ks ≡ time k)
  first_is [] some = absurd (omega arith)
  first_is (k ∷ ks) some = (k, refl, refl)

  -- and the stop is the time of the last
  pub last_is : (ks : List (Knot P)) (i : ℕ) (k : Knot P) → slice_get ks i ≡ Some k → i + 1 ≡ length ks → stop ks ≡ time k
  last_is ks i k e n = stop_at shape ks i k e (slice_get_past ks (i + 1) (omega (arith, n)))

  -- a mirrored signal goes on by one knot
  pub mirror_on : {old new : List (Knot P)} (ks : List (Knot P)) (z : ℤ) (i : ℕ) (k n : Knot P) → IsSignal shape ks
      → slice_get ks i ≡ Some k → slice_get ks (i + 1) ≡ Some n → MovesOn ks (λ t. subtract (whole z) t) k k old new
      → stop old ≈ subtract (whole z) (time n) → TellsSoFar shape (λ t v. IsWorth shape ks (subtract (whole z) t) v) new
  mirror_on ks z i k n s at_i at_next step stops =
      moved_on ks (λ t. subtract (whole z) t) i i (moved_is_function ks (λ t. subtract (whole z) t) (λ t u e. mirror_same z e) s) at_i at_next at_i step
      (λ t a b. (lt_of_le_of_lt (ge_of_same step.arrives) (mirror_lt z b), lt_of_lt_of_le (mirror_lt z a) (le_of_same (mirror_back z stops))))

  -- to a later time
  pub mirror_later : (ks : List (Knot P)) (z : ℤ) (i : ℕ) (k n : Knot P) {from at : Rational} → IsSignal shape ks → slice_get ks i ≡ Some k
      → slice_get ks (i + 1) ≡ Some n
      → from ≈ subtract (whole z) (time n) → at ≈ subtract (whole z) (time k) → from <ʳ at
  mirror_later ks z i k n s at_i at_next e f =
      lt_of_le_of_lt (le_of_same e) (lt_of_lt_of_le (mirror_lt z (next_rises shape ks i k n s.each at_i at_next)) (ge_of_same f))

  -- a shifted signal goes on by one knot
  pub shift_on : {old new : List (Knot P)} (ks : List (Knot P)) (z : ℤ) (i : ℕ) (k n : Knot P) → IsSignal shape ks
      → slice_get ks i ≡ Some k → slice_get ks (i + 1) ≡ Some n → MovesOn ks (λ t. add t (whole z)) k n old new
      → stop old ≈ add (time k) (whole (neg_ℤ z)) → TellsSoFar shape (λ t v. IsWorth shape ks (add t (whole z)) v) new
  shift_on ks z i k n s at_i at_next step stops =
      moved_on ks (λ t. add t (whole z)) i (i + 1) (moved_is_function ks (λ t. add t (whole z)) (λ t u e. same_shift z e) s) at_i at_next at_next step
      (λ t a b. (lt_of_le_of_lt (ge_of_same (move_back z stops)) (lt_shift z a), lt_of_lt_of_le (lt_shift z b) (le_of_same step.arrives)))

  -- to a later time
  pub shift_later : (ks : List (Knot P)) (z : ℤ) (i : ℕ) (k n : Knot P) {from at : Rational} → IsSignal shape ks → slice_get ks i ≡ Some k
      → slice_get ks (i + 1) ≡ Some n
      → from ≈ add (time k) (whole z) → at ≈ add (time n) (whole z) → from <ʳ at
  shift_later ks z i k n s at_i at_next e f =
      lt_of_le_of_lt (le_of_same e) (lt_of_lt_of_le (lt_shift z (next_rises shape ks i k n s.each at_i at_next)) (ge_of_same f))

  -- the bases of a signal that goes on
  pub bases_on : {old new : List (Knot P)} {after point : P} {at : Frac} (made : ℤ → ℤ) (ks : List (Knot P)) (p q : P) → BasesFrom shape made ks old
      → GoesOn shape old after at point new
      → HasShape ks p → (IsTrue (shape.moves after) → IsTrue (shape.moves p) × (shape.base after ≡ made (shape.base p))) → HasShape ks q
      → (IsTrue (shape.moves point) → IsTrue (shape.moves q) × (shape.base point ≡ made (shape.base q)))
      → BasesFrom shape made ks new
  bases_on {old} {after = after} {point = point} made ks p q so_far on has_p from_p has_q from_q = λ r h m. by_shape r m (on.shapes r h)
    where
      by_shape : (r : P) → IsTrue (shape.moves r) → HasShape old r ⊎ (r ≡ after) ⊎ (r ≡ point) → (o : P) × HasShape ks o × IsTrue (shape.moves o)
          × (shape.base r ≡ made (shape.base o))
      by_shape r m (inl h) = so_far r h m
      by_shape r m (inr (inl e)) = let f = from_p (subst (λ x. IsTrue (shape.moves x)) e m) in (p, has_p, f.0, ap shape.base e ∙ f.1)
      by_shape r m (inr (inr e)) = let f = from_q (subst (λ x. IsTrue (shape.moves x)) e m) in (q, has_q, f.0, ap shape.base e ∙ f.1)

  -- so for the first knot
  pub bases_first : (made : ℤ → ℤ) (ks : List (Knot P)) (point q : P) (at : Frac)
      → HasShape ks q → (IsTrue (shape.moves point) → IsTrue (shape.moves q) × (shape.base point ≡ made (shape.base q)))
      → BasesFrom shape made ks (record { time = at; point = point; after = point } ∷ [])
  bases_first made ks point q at has_q from_q = by_shape
    where
      of_point : (r : P) → r ≡ point → IsTrue (shape.moves r) → (o : P) × HasShape ks o × IsTrue (shape.moves o) × (shape.base r ≡ made (shape.base o))
      of_point r e m = let f = from_q (subst (λ x. IsTrue (shape.moves x)) e m) in (q, has_q, f.0, ap shape.base e ∙ f.1)

      by_shape : (r : P) → HasShape (record { time = at; point = point; after = point } ∷ []) r → IsTrue (shape.moves r) → (o : P) × HasShape ks o
          × IsTrue (shape.moves o) × (shape.base r ≡ made (shape.base o))
      by_shape r (inl e) m = of_point r e m
      by_shape r (inr (inl e)) m = of_point r e m
      by_shape r (inr (inr h)) m = absurd h

  -- the first knot of a mirrored signal
  pub mirror_first : (ks built : List (Knot P)) (z : ℤ) (i : ℕ) (m : Knot P) (point : P) (at : Frac) → IsSignal shape ks → slice_get ks i ≡ Some m
      → value at ≈ subtract (whole z) (time m)
      → ((t : Rational) → value_at (shape.function point) t ≈ᵉ value_at (shape.function m.point) (subtract (whole z) t))
      → built ≡ record { time = at; point = point; after = point } ∷ []
      → TellsSoFar shape (λ t v. IsWorth shape ks (subtract (whole z) t) v) built
  mirror_first ks built z i m point at s at_i arrives points e =
      moved_first ks built (λ t. subtract (whole z) t) i m point at (moved_is_function ks (λ t. subtract (whole z) t) (λ t u e. mirror_same z e) s) at_i
      (mirror_back z arrives) points e

  -- and of a shifted one
  pub shift_first : (ks built : List (Knot P)) (z : ℤ) (i : ℕ) (m : Knot P) (point : P) (at : Frac) → IsSignal shape ks → slice_get ks i ≡ Some m
      → add (value at) (whole z) ≈ time m
      → ((t : Rational) → value_at (shape.function point) t ≈ᵉ value_at (shape.function m.point) (add t (whole z)))
      → built ≡ record { time = at; point = point; after = point } ∷ []
      → TellsSoFar shape (λ t v. IsWorth shape ks (add t (whole z)) v) built
  shift_first ks built z i m point at s at_i arrives points e =
      moved_first ks built (λ t. add t (whole z)) i m point at (moved_is_function ks (λ t. add t (whole z)) (λ t u e. same_shift z e) s) at_i arrives points e

  -- the one knot of a list at a place
  pub same_knot : (ks : List (Knot P)) (i : ℕ) {k m : Knot P} → slice_get ks i ≡ Some k → slice_get ks i ≡ Some m → m ≡ k
  same_knot ks i h e = cc

  -- where a list begins and ends that was made of one knot
  pub only_ends : (built : List (Knot P)) (point : P) (at : Frac) → built ≡ record { time = at; point = point; after = point } ∷ []
      → (start built ≡ value at) × (stop built ≡ value at)
  only_ends built point at e = (ap (λ ks. start ks) e, ap (λ ks. stop ks) e)

  -- the knot before the place that is the length
  pub last_of : (ks : List (Knot P)) (n : ℕ) → 0 < length ks → n ≡ length ks → (k : Knot P) × (slice_get ks (n - 1) ≡ Some k) × (stop ks ≡ time k)
  last_of [] n some e = absurd (omega arith)
  last_of (k ∷ ks) n some e =
      let here = slice_get-get_or (k ∷ ks) (n - 1) k (omega (arith, some, e)) in
      (get_or (k ∷ ks) (n - 1) k, here, last_is (k ∷ ks) (n - 1) (get_or (k ∷ ks) (n - 1) k) here (omega (arith, some, e)))

-- a move between two times within 2^34 is not large
step_small : {t : Rational} (n : ℕ) → IsWithin (2 ^ 34) t → IsWithin (2 ^ 34) (add t (whole (negsuc n))) → suc n ≤ 2 ^ 35
step_small {t} n h k = le_of_mul-le-mul_right {k = t.den} (omega (arith, h.1.le, k.0.le)) t.positive

-- a move within the limits is not below -2^35
pub move_above : {t : Rational} (z : ℤ) → IsWithin (2 ^ 34) t → IsWithin (2 ^ 34) (add t (whole z)) → neg_ℤ (pos (2 ^ 35)) ≤ℤ z
move_above (pos n) h k = record { le = tt }
move_above (negsuc n) h k = let s = step_small n h k in omega (arith, ints, s)

-- and the move back fits where it does
pub back_fits : {t : Rational} (z : ℤ) → IsWithin (2 ^ 34) t → IsWithin (2 ^ 34) (add t (whole z)) → FitsSigned w64 z → FitsSigned w64 (pos 0 -ℤ z)
back_fits z h k f = let low = move_above z h k in omega (arith, ints, low)

-- 0 less a number is minus it
pub minus_is : (z : ℤ) → pos 0 -ℤ z ≡ neg_ℤ z
minus_is z = omega (arith, ints)

-- back from a moved time
pub shift_back' : {t u : Rational} (z : ℤ) → add t (whole z) ≈ u → t ≈ add u (whole (neg_ℤ z))
shift_back' {t} {u} z e = same_trans (same_sym (shift_back t z)) (same_shift (neg_ℤ z) e)

-- a knot moved back lies between the ends moved back
pub shifted_within : {P : Type 0} (shape : ShapeOf P) (ks : List (Knot P)) (i : ℕ) (k : Knot P) (z : ℤ) {from : Rational} → IsSignal shape ks
    → slice_get ks i ≡ Some k → add from (whole z) ≈ start ks
    → IsWithin (2 ^ 34) from → IsWithin (2 ^ 34) (add (stop ks) (whole (neg_ℤ z))) → IsWithin (2 ^ 34) (add (time k) (whole (neg_ℤ z)))
shifted_within shape ks i k z {from} s e begins low high =
    let w = at_knot_within shape ks i k s e in
    (le_trans low.0 (le_trans (le_of_same (shift_back' z begins)) (le_shift (neg_ℤ z) w.above)), le_trans (le_shift (neg_ℤ z) w.below) high.1)

-- what tells a part of a signal moved tells the signal moved
pub tells_through : {P : Type 0} {part : List (Knot P)} {low high : Rational} (shape : ShapeOf P) (ks new : List (Knot P)) (z : ℤ) (from to : Rational)
    → Tells shape (IsWorth shape ks) low high part
    → Tells shape (λ t v. IsWorth shape part (add t (whole z)) v) from (add (stop part) (whole (neg_ℤ z))) new → low ≈ add from (whole z)
    → high ≈ add to (whole z)
    → Tells shape (λ t v. IsWorth shape ks (add t (whole z)) v) from to new
tells_through {part = part} shape ks new z from to p r begins ends = record {
  signal = r.signal;
  begins = r.begins;
  ends = same_trans r.ends last;
  worth = λ t v. (
    λ w. let h = (r.worth t v).0 w in (record { above = h.0.above; below = le_trans h.0.below (le_of_same last) }, ((p.worth (add t (whole z)) v).0 h.1).1),
    λ h. (r.worth t v).1 (
      record { above = h.0.above; below = le_trans h.0.below (ge_of_same last) },
      (p.worth (add t (whole z)) v).1
          (record { above = le_trans (le_of_same begins) (le_shift z h.0.above); below = le_trans (le_shift z h.0.below) (ge_of_same ends) }, h.1),
    ),
  );
}
  where
    last : add (stop part) (whole (neg_ℤ z)) ≈ to
    last = same_sym (shift_back' z (same_trans (same_sym ends) (same_sym p.ends)))

-- the bases of a part are bases of the whole
pub bases_through : {P : Type 0} (shape : ShapeOf P) (made : ℤ → ℤ) (ks part new : List (Knot P)) → ((p : P) → HasShape part p → HasShape ks p)
    → BasesFrom shape made part new → BasesFrom shape made ks new
bases_through shape made ks part new inside h = λ p m n. let q = h p m n in (q.0, inside q.0 q.1, q.2, q.3)

-- a time in the domain of a limited signal is within 2^34
pub clip_within : {P : Type 0} (shape : ShapeOf P) (ks : List (Knot P)) {t : Rational} → 0 < length ks → IsLimited shape ks → start ks ≤ʳ t
    → t ≤ʳ stop ks → IsWithin (2 ^ 34) t
clip_within shape ks some h a b = (le_trans (limited_start shape ks some h).0 a, le_trans b (limited_stop shape ks some h).1)
