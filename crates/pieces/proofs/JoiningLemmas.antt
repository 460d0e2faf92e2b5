-- The least or the greatest of two shapes between two places, and a chain that goes on with it.
use Rattle.std.proofs.Common.{◌≡◌, ◌⊎◌, inl, inr, Bool, true, false, refl, sym, ◌∙◌, subst}
use Rattle.rational.specs.Time.{Rational, ◌≤ʳ◌, ◌<ʳ◌, ◌≈◌}
use Rattle.rational.specs.Extended.{Extended, Affine, value_at, Passes}
use Rattle.rational.specs.Affine.{MeetAlone}
use Rattle.rational.specs.Places.{Place, After, Upto, Before}
use Rattle.rational.proofs.Order.{le_refl, lt_or_same_or_gt, not_lt_of_le, same_sym}
use Rattle.std.proofs.lemmas.Bool.{false≢true}
use Rattle.rational.proofs.ExtendedLemmas.{le_transᵉ, le_of_ltᵉ, clashᵉ}
use Rattle.rational.proofs.AffineLemmas.{value_same}
use Rattle.rational.proofs.Sames.{symᵉ}
use Rattle.rational.proofs.PlaceLemmas.{sides, upto_of_before, after_of_before}
use Rattle.frac128.specs.Cuts.{place}
use Rattle.frac128.specs.declared.cut.Cut.{Cut}
use Rattle.value_laws.specs.Members.{ShapeOf}
use Rattle.pl_signal.specs.declared.joining.Side.{Side}
use Rattle.pl_signal.specs.declared.joining.Side.TheVariants.{Least, Greatest}
use Rattle.pl_signal.specs.Joining.{IsChosen, IsTurn, TurnsOver}
use Rattle.pl_signal.proofs.Choices.{IsTaken, chosen_first, chosen_second, chosen_same, chosen_one, taken_between, taken_of_greater, taken_of_less, taken_same}
use Rattle.pieces.specs.Best.{FallsFrom, IsNoWorse, RisesFrom}
use Rattle.pieces.specs.Chains.{Chain, stop, HasShape, IsWorth}
use Rattle.pieces.specs.Building.{GoesOn}
use Rattle.pieces.specs.Joining.{IsTakenOn, Joins}
use Rattle.pieces.proofs.Bests.{nw_trans}
use Rattle.pieces.proofs.Ends.{after_le, upto_le}

-- what is taken at a time is taken there by another pair
pub taken_alike : (b : Side) (f g : Affine) {t u : Rational} → t ≈ u → IsTaken b (value_at f t) (value_at g t) → IsTaken b (value_at f u) (value_at g u)
taken_alike Least f g {t} {u} e h =
    le_transᵉ (value_at f u) (value_at f t) (value_at g u) (value_same f e).at_least
    (le_transᵉ (value_at f t) (value_at g t) (value_at g u) h (value_same g e).at_most)
taken_alike Greatest f g {t} {u} e h =
    le_transᵉ (value_at g u) (value_at g t) (value_at f u) (value_same g e).at_least
    (le_transᵉ (value_at g t) (value_at f t) (value_at f u) h (value_same f e).at_most)

-- what is taken at both ends is taken from the one to the other
pub taken_within : (b : Side) (f g : Affine) (l t r : Rational) → l ≤ʳ t → t ≤ʳ r → IsTaken b (value_at f l) (value_at g l)
    → IsTaken b (value_at f r) (value_at g r) → IsTaken b (value_at f t) (value_at g t)
taken_within b f g l t r lt tr h k = by_left (lt_or_same_or_gt l t) (lt_or_same_or_gt t r)
  where
    by_left : (l <ʳ t) ⊎ (l ≈ t) ⊎ (t <ʳ l) → (t <ʳ r) ⊎ (t ≈ r) ⊎ (r <ʳ t) → IsTaken b (value_at f t) (value_at g t)
    by_left (inr (inl e)) o = taken_alike b f g e h
    by_left (inr (inr x)) o = absurd (not_lt_of_le lt x)
    by_left (inl x) (inl y) = taken_between b f g l t r x y h k
    by_left (inl x) (inr (inl e)) = taken_alike b f g (same_sym e) k
    by_left (inl x) (inr (inr y)) = absurd (not_lt_of_le tr y)

-- what is taken is no worse
nw_of_taken : (b : Side) (x y : Extended) → IsTaken b x y → IsNoWorse b x y
nw_of_taken Least x y h = record { order = h }
nw_of_taken Greatest x y h = record { order = h }

-- what is no worse may be taken
pub taken_of_nw : (b : Side) (x y : Extended) → IsNoWorse b x y → IsTaken b x y
taken_of_nw Least x y h = h.order
taken_of_nw Greatest x y h = h.order

-- what gets no better and is taken at the end, beside what gets no worse, is taken before
pub taken_before : (b : Side) (f g : Affine) (l r : Rational) → l ≤ʳ r → FallsFrom b l r f → RisesFrom b l r g → IsTaken b (value_at f r) (value_at g r)
    → IsTaken b (value_at f l) (value_at g l)
taken_before b f g l r o falls rises h = taken_of_nw b (value_at f l) (value_at g l) (nw_trans (falls l r (le_refl l) o (le_refl r))
    (nw_trans (nw_of_taken b (value_at f r) (value_at g r) h) (rises l r (le_refl l) o (le_refl r))))

-- and what gets no worse and is taken at the beginning is taken later
pub taken_later : (b : Side) (f g : Affine) (l r : Rational) → l ≤ʳ r → FallsFrom b l r f → RisesFrom b l r g → IsTaken b (value_at g l) (value_at f l)
    → IsTaken b (value_at g r) (value_at f r)
taken_later b f g l r o falls rises h = taken_of_nw b (value_at g r) (value_at f r) (nw_trans (rises l r (le_refl l) o (le_refl r))
    (nw_trans (nw_of_taken b (value_at g l) (value_at f l) h) (falls l r (le_refl l) o (le_refl r))))

module _ {P : Type 0} (shape : ShapeOf P) where
  -- the first is taken throughout
  pub whole_first : (b : Side) (p q : P) (from to : Place) → IsTaken b (value_at (shape.function p) from.at) (value_at (shape.function q) from.at)
      → IsTaken b (value_at (shape.function p) to.at) (value_at (shape.function q) to.at) → IsTakenOn shape b p q from to p
  whole_first b p q from to h k = (
    inl refl,
    λ t a u. chosen_first b (value_at (shape.function p) t) (value_at (shape.function q) t)
        (taken_within b (shape.function p) (shape.function q) from.at t to.at (after_le from t a) (upto_le to t u) h k),
  )

  -- the second is
  pub whole_second : (b : Side) (p q : P) (from to : Place) → IsTaken b (value_at (shape.function q) from.at) (value_at (shape.function p) from.at)
      → IsTaken b (value_at (shape.function q) to.at) (value_at (shape.function p) to.at) → IsTakenOn shape b p q from to q
  whole_second b p q from to h k = (
    inr refl,
    λ t a u. chosen_second b (value_at (shape.function p) t) (value_at (shape.function q) t)
        (taken_within b (shape.function q) (shape.function p) from.at t to.at (after_le from t a) (upto_le to t u) h k),
  )

  -- a chain that goes on with the shape that is taken joins what is chosen
  pub joins_alone : (b : Side) (old new : Chain P) (p q s : P) (until : Cut) → IsTakenOn shape b p q (stop old) (place until) s
      → GoesOn shape old until s new → Joins shape b old p q until new
  joins_alone b old new p q s until is on = record {
    normal = on.normal;
    begins = on.begins;
    ends = on.ends;
    worth = λ t v. (λ w. into t v ((on.worth t v).0 w), λ w. (on.worth t v).1 (back t v w));
    shapes = λ r h. by_shape r (on.shapes r h);
  }
    where
      into : (t : Rational) (v : Extended) → IsWorth shape old t v ⊎ (After (stop old) t × Upto (place until) t × Passes (shape.function s) t v)
          → IsWorth shape old t v ⊎ (After (stop old) t × Upto (place until) t × IsChosen b (value_at (shape.function p) t) (value_at (shape.function q) t) v)
      into t v (inl w) = inl w
      into t v (inr w) = inr (
        w.0,
        w.1,
        chosen_same b (value_at (shape.function p) t) (value_at (shape.function q) t) (value_at (shape.function s) t) v
            (symᵉ w.2) (is.1 t w.0 w.1),
      )

      back : (t : Rational) (v : Extended)
          → IsWorth shape old t v ⊎ (After (stop old) t × Upto (place until) t × IsChosen b (value_at (shape.function p) t) (value_at (shape.function q) t) v)
          → IsWorth shape old t v ⊎ (After (stop old) t × Upto (place until) t × Passes (shape.function s) t v)
      back t v (inl w) = inl w
      back t v (inr w) = inr (
        w.0,
        w.1,
        chosen_one b (value_at (shape.function p) t) (value_at (shape.function q) t) v (value_at (shape.function s) t) w.2 (is.1 t w.0 w.1),
      )

      by_shape : (r : P) → HasShape old r ⊎ (r ≡ s) → HasShape old r ⊎ (r ≡ p) ⊎ (r ≡ q)
      by_shape r (inl h) = inl h
      by_shape r (inr e) = elim is.0 [ inl f ↦ inr (inl (e ∙ f)) | inr f ↦ inr (inr (e ∙ f)) ]

  -- and so in two steps
  pub joins_twice : (b : Side) (old half new : Chain P) (p q : P) (middle until : Cut) → Before (stop old) (place middle)
      → Before (place middle) (place until)
      → Joins shape b old p q middle half → Joins shape b half p q until new → Joins shape b old p q until new
  joins_twice b old half new p q middle until first second on on' = record {
    normal = on'.normal;
    begins = on'.begins ∙ on.begins;
    ends = on'.ends;
    worth = λ t v. (λ w. into t v ((on'.worth t v).0 w), λ w. back t v w);
    shapes = λ r h. by_shape r (on'.shapes r h);
  }
    where
      Chosen : Rational → Extended → Type 0
      Chosen t v = IsChosen b (value_at (shape.function p) t) (value_at (shape.function q) t) v

      by_half : (t : Rational) (v : Extended) → IsWorth shape old t v ⊎ (After (stop old) t × Upto (place middle) t × Chosen t v)
          → IsWorth shape old t v ⊎ (After (stop old) t × Upto (place until) t × Chosen t v)
      by_half t v (inl w) = inl w
      by_half t v (inr w) = inr (w.0, upto_of_before (place middle) (place until) t second w.1, w.2)

      into : (t : Rational) (v : Extended) → IsWorth shape half t v ⊎ (After (stop half) t × Upto (place until) t × Chosen t v)
          → IsWorth shape old t v ⊎ (After (stop old) t × Upto (place until) t × Chosen t v)
      into t v (inl w) = by_half t v ((on.worth t v).0 w)
      into t v (inr w) = inr (after_of_before (stop old) (place middle) t first (subst (λ s. After s t) on.ends w.0), w.1, w.2)

      by_side : (t : Rational) (v : Extended) → After (stop old) t → Upto (place until) t → Chosen t v → Upto (place middle) t ⊎ After (place middle) t
          → IsWorth shape half t v ⊎ (After (stop half) t × Upto (place until) t × Chosen t v)
      by_side t v a u w (inl k) = inl ((on.worth t v).1 (inr (a, k, w)))
      by_side t v a u w (inr k) = inr (subst (λ s. After s t) (sym on.ends) k, u, w)

      back : (t : Rational) (v : Extended) → IsWorth shape old t v ⊎ (After (stop old) t × Upto (place until) t × Chosen t v) → IsWorth shape new t v
      back t v (inl w) = (on'.worth t v).1 (inl ((on.worth t v).1 (inl w)))
      back t v (inr w) = (on'.worth t v).1 (by_side t v w.0 w.1 w.2 (sides (place middle) t))

      by_old : (r : P) → HasShape old r ⊎ (r ≡ p) ⊎ (r ≡ q) → HasShape old r ⊎ (r ≡ p) ⊎ (r ≡ q)
      by_old r h = h

      by_shape : (r : P) → HasShape half r ⊎ (r ≡ p) ⊎ (r ≡ q) → HasShape old r ⊎ (r ≡ p) ⊎ (r ≡ q)
      by_shape r (inl h) = on.shapes r h
      by_shape r (inr h) = inr h

  -- where the two have one value, either is taken
  meeting : (b : Side) (f g : Affine) (l r m : Rational) → MeetAlone f g l r m → IsTaken b (value_at f m) (value_at g m)
  meeting b f g l r m alone = taken_same b (value_at f m) (value_at g m) alone.meet

  meeting_back : (b : Side) (f g : Affine) (l r m : Rational) → MeetAlone f g l r m → IsTaken b (value_at g m) (value_at f m)
  meeting_back b f g l r m alone = taken_same b (value_at g m) (value_at f m) (symᵉ alone.meet)

  -- the one is taken up to the crossing, and then the other
  pub taken_until : (b : Side) (p q : P) (from middle to : Place) → IsTurn shape b p q from.at to.at true
      → MeetAlone (shape.function p) (shape.function q) from.at to.at middle.at → IsTakenOn shape b p q from middle p × IsTakenOn shape b p q middle to q
  taken_until b p q from middle to turn m = (
    whole_first b p q from middle (taken_of_less b (value_at (shape.function p) from.at) (value_at (shape.function q) from.at) turn.0)
        (meeting b (shape.function p) (shape.function q) from.at to.at middle.at m),
    whole_second b p q middle to (meeting_back b (shape.function p) (shape.function q) from.at to.at middle.at m)
        (taken_of_greater b (value_at (shape.function p) to.at) (value_at (shape.function q) to.at) turn.1),
  )

  -- the same where q is taken before the crossing, and p after it
  pub taken_after : (b : Side) (p q : P) (from middle to : Place) → IsTurn shape b p q from.at to.at false
      → MeetAlone (shape.function p) (shape.function q) from.at to.at middle.at → IsTakenOn shape b p q from middle q × IsTakenOn shape b p q middle to p
  taken_after b p q from middle to turn m = (
    whole_second b p q from middle (taken_of_greater b (value_at (shape.function p) from.at) (value_at (shape.function q) from.at) turn.0)
        (meeting_back b (shape.function p) (shape.function q) from.at to.at middle.at m),
    whole_first b p q middle to (meeting b (shape.function p) (shape.function q) from.at to.at middle.at m)
        (taken_of_less b (value_at (shape.function p) to.at) (value_at (shape.function q) to.at) turn.1),
  )

  -- where the order turns over between two places, their times differ
  pub turned_apart : (p q : P) (c d : Place) → TurnsOver (shape.function p) (shape.function q) c.at d.at → Before c d → c.at <ʳ d.at
  turned_apart p q c d turn (inl l) = l
  turned_apart p q c d (inl (f, g)) (inr (s, e, i)) = absurd (clashᵉ (value_at (shape.function p) c.at) (value_at (shape.function q) c.at) f
      (le_transᵉ (value_at (shape.function q) c.at) (value_at (shape.function q) d.at) (value_at (shape.function p) c.at)
      (value_same (shape.function q) s).at_most
      (le_transᵉ (value_at (shape.function q) d.at) (value_at (shape.function p) d.at) (value_at (shape.function p) c.at)
      (le_of_ltᵉ (value_at (shape.function q) d.at) (value_at (shape.function p) d.at) g) (value_same (shape.function p) s).at_least)))
  turned_apart p q c d (inr (f, g)) (inr (s, e, i)) = absurd (clashᵉ (value_at (shape.function q) c.at) (value_at (shape.function p) c.at) f
      (le_transᵉ (value_at (shape.function p) c.at) (value_at (shape.function p) d.at) (value_at (shape.function q) c.at)
      (value_same (shape.function p) s).at_most
      (le_transᵉ (value_at (shape.function p) d.at) (value_at (shape.function q) d.at) (value_at (shape.function q) c.at)
      (le_of_ltᵉ (value_at (shape.function p) d.at) (value_at (shape.function q) d.at) g) (value_same (shape.function q) s).at_least)))

  -- a chain that goes on with the one up to the crossing, and then with the other
  joins_taken : (b : Side) (old half new : Chain P) (p q first second : P) (from : Place) (middle until : Cut) → from ≡ stop old
      → from.at <ʳ (place middle).at → (place middle).at <ʳ (place until).at
      → IsTakenOn shape b p q from (place middle) first × IsTakenOn shape b p q (place middle) (place until) second
      → GoesOn shape old middle first half → GoesOn shape half until second new → Joins shape b old p q until new
  joins_taken b old half new p q first second from middle until begins l r taken on on' =
      joins_twice b old half new p q middle until (subst (λ s. Before s (place middle)) begins (inl l)) (inl r)
      (joins_alone b old half p q first middle (subst (λ s. IsTakenOn shape b p q s (place middle) first) begins taken.0) on)
      (joins_alone b half new p q second until (subst (λ s. IsTakenOn shape b p q s (place until) second) (sym on.ends) taken.1) on')

  -- a chain that goes on with p up to the crossing and then with q, where p is better before it
  pub joins_crossing : (b : Side) (old half new : Chain P) (p q : P) (turn : Bool) (from : Place) (middle until : Cut) → turn ≡ true → from ≡ stop old
      → IsTurn shape b p q from.at (place until).at turn
      → MeetAlone (shape.function p) (shape.function q) from.at (place until).at (place middle).at
      → GoesOn shape old middle p half → GoesOn shape half until q new → Joins shape b old p q until new
  joins_crossing b old half new p q true from middle until is begins turn m on on' =
      joins_taken b old half new p q p q from middle until begins m.after m.before (taken_until b p q from (place middle) (place until) turn m) on on'
  joins_crossing b old half new p q false from middle until is begins turn m on on' = absurd (false≢true is)

  -- and one that goes on with q and then with p, where q is
  pub joins_crossing_back : (b : Side) (old half new : Chain P) (p q : P) (turn : Bool) (from : Place) (middle until : Cut) → turn ≡ false → from ≡ stop old
      → IsTurn shape b p q from.at (place until).at turn
      → MeetAlone (shape.function p) (shape.function q) from.at (place until).at (place middle).at
      → GoesOn shape old middle q half → GoesOn shape half until p new → Joins shape b old p q until new
  joins_crossing_back b old half new p q false from middle until is begins turn m on on' =
      joins_taken b old half new p q q p from middle until begins m.after m.before (taken_after b p q from (place middle) (place until) turn m) on on'
  joins_crossing_back b old half new p q true from middle until is begins turn m on on' = absurd (false≢true (sym is))
