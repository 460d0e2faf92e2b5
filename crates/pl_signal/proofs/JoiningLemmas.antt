-- The least or the greatest of two shapes over a gap, and a signal that goes on with it.
use Rattle.std.proofs.Common.{◌≡◌, ◌⊎◌, inl, inr, Bool, true, false, List, refl, sym, ◌∙◌, subst}
use Rattle.std.proofs.lemmas.Bool.{false≢true}
use Rattle.rational.specs.Rational.{Rational, ◌<ʳ◌, ◌≈◌}
use Rattle.rational.specs.Extended.{Extended, Affine, value_at, Passes}
use Rattle.rational.specs.Affine.{MeetAlone}
use Rattle.rational.proofs.Order.{lt_or_same_or_gt, lt_trans, lt_of_le_of_lt, lt_of_lt_of_le, le_of_same, ge_of_same, same_refl}
use Rattle.rational.proofs.AffineMeetings.{alone_swap}
use Rattle.rational.proofs.AffineLemmas.{same_symᵉ, same_transᵉ, value_same}
use Rattle.frac128.specs.Value.{value}
use Rattle.frac128.specs.declared.frac.Frac.{Frac}
use Rattle.value_laws.specs.Members.{ShapeOf}
use Rattle.pl_signal.specs.declared.knot.Knot.{Knot}
use Rattle.pl_signal.specs.declared.joining.Side.{Side}
use Rattle.pl_signal.specs.Knots.{stop, HasShape, IsWorth}
use Rattle.pl_signal.specs.Building.{GoesOn}
use Rattle.pl_signal.specs.Joining.{IsAllOver, IsChosen, IsSplit, IsTakenAt, IsTurn, Joins, TurnsOver}
use Rattle.pl_signal.proofs.Choices.{IsTaken, chosen_first, chosen_second, chosen_same, chosen_one, taken_between, taken_of_greater, taken_of_less}
use Rattle.pl_signal.proofs.Choices.{taken_same, turned_back, turned_over}

module _ {P : Type 0} (shape : ShapeOf P) where
  -- a value is of the old signal, of the gap or of its end
  abbrev IsPart : Side → List (Knot P) → P → P → P → Frac → Rational → Extended → Type 0
  IsPart b old p q point to t v =
      IsWorth shape old t v ⊎ ((stop old <ʳ t) × (t <ʳ value to) × IsChosen b (value_at (shape.function p) t) (value_at (shape.function q) t) v)
      ⊎ ((t ≈ value to) × Passes (shape.function point) t v)

  -- a shape that is taken at a time has just the chosen value there
  taken_value : (b : Side) (p q s : P) (t : Rational) (v : Extended) → IsTakenAt shape b p q s t → Passes (shape.function s) t v
      → IsChosen b (value_at (shape.function p) t) (value_at (shape.function q) t) v
  taken_value b p q s t v h w = chosen_same b (value_at (shape.function p) t) (value_at (shape.function q) t) (value_at (shape.function s) t) v
      (same_symᵉ v (value_at (shape.function s) t) w) h

  value_taken : (b : Side) (p q s : P) (t : Rational) (v : Extended) → IsTakenAt shape b p q s t
      → IsChosen b (value_at (shape.function p) t) (value_at (shape.function q) t) v → Passes (shape.function s) t v
  value_taken b p q s t v h c = chosen_one b (value_at (shape.function p) t) (value_at (shape.function q) t) v (value_at (shape.function s) t) c h

  -- one shape serves the whole gap
  joins_whole : (b : Side) (old new : List (Knot P)) (p q s point : P) (to : Frac) → IsAllOver shape b p q (stop old) (value to) s
      → GoesOn shape old s to point new → Joins shape b old p q to point new
  joins_whole b old new p q s point to is on = record {
    signal = on.signal;
    begins = on.begins;
    ends = on.ends;
    worth = λ t v. ((λ w. into t v ((on.worth t v).0 w)), (λ w. (on.worth t v).1 (back t v w)));
    shapes = λ r h. by_shape r (on.shapes r h);
  }
    where
      into : (t : Rational) (v : Extended) → IsWorth shape old t v ⊎ ((stop old <ʳ t) × (t <ʳ value to) × Passes (shape.function s) t v)
          ⊎ ((t ≈ value to) × Passes (shape.function point) t v) → IsPart b old p q point to t v
      into t v (inl w) = inl w
      into t v (inr (inl w)) = inr (inl (w.0, w.1, taken_value b p q s t v (is.1 t w.0 w.1) w.2))
      into t v (inr (inr w)) = inr (inr w)

      back : (t : Rational) (v : Extended) → IsPart b old p q point to t v → IsWorth shape old t v
          ⊎ ((stop old <ʳ t) × (t <ʳ value to) × Passes (shape.function s) t v) ⊎ ((t ≈ value to) × Passes (shape.function point) t v)
      back t v (inl w) = inl w
      back t v (inr (inl w)) = inr (inl (w.0, w.1, value_taken b p q s t v (is.1 t w.0 w.1) w.2))
      back t v (inr (inr w)) = inr (inr w)

      by_shape : (r : P) → HasShape old r ⊎ (r ≡ s) ⊎ (r ≡ point) → HasShape old r ⊎ (r ≡ p) ⊎ (r ≡ q) ⊎ (r ≡ point)
      by_shape r (inl h) = inl h
      by_shape r (inr (inl e)) = elim is.0 [ inl f ↦ inr (inl (e ∙ f)) | inr f ↦ inr (inr (inl (e ∙ f))) ]
      by_shape r (inr (inr e)) = inr (inr (inr e))

  -- a signal that goes on with the one up to a time, and then with the other, joins what is chosen
  pub joins_split : {half new : List (Knot P)} {first second : P} {middle : Frac} (b : Side) (old : List (Knot P)) (p q point : P) (to : Frac)
      → IsSplit shape b p q (stop old) (value to) first (value middle) second
      → GoesOn shape old first middle first half → GoesOn shape half second to point new → Joins shape b old p q to point new
  joins_split {half} {new} {first} {second} {middle} b old p q point to is on on' = record {
    signal = on'.signal;
    begins = on'.begins ∙ on.begins;
    ends = on'.ends;
    worth = λ t v. ((λ w. into t v ((on'.worth t v).0 w)), (λ w. back t v w));
    shapes = λ r h. by_shape r (on'.shapes r h);
  }
    where
      by_half : (t : Rational) (v : Extended) → IsWorth shape old t v ⊎ ((stop old <ʳ t) × (t <ʳ value middle) × Passes (shape.function first) t v)
          ⊎ ((t ≈ value middle) × Passes (shape.function first) t v) → IsPart b old p q point to t v
      by_half t v (inl h) = inl h
      by_half t v (inr (inl h)) = inr (inl (h.0, lt_trans h.1 is.before, taken_value b p q first t v (is.until_then t h.0 h.1) h.2))
      by_half t v (inr (inr h)) =
          inr (inl (lt_of_lt_of_le is.after (ge_of_same h.0), lt_of_le_of_lt (le_of_same h.0) is.before, taken_value b p q first t v (is.there t h.0) h.1))

      into : (t : Rational) (v : Extended) → IsWorth shape half t v ⊎ ((stop half <ʳ t) × (t <ʳ value to) × Passes (shape.function second) t v)
          ⊎ ((t ≈ value to) × Passes (shape.function point) t v) → IsPart b old p q point to t v
      into t v (inl h) = by_half t v ((on.worth t v).0 h)
      into t v (inr (inl h)) = let later = subst (λ s. s <ʳ t) on.ends h.0 in
          inr (inl (lt_trans is.after later, h.1, taken_value b p q second t v (is.from_then t later h.1) h.2))
      into t v (inr (inr h)) = inr (inr h)

      by_place : (t : Rational) (v : Extended) → stop old <ʳ t → t <ʳ value to
          → IsChosen b (value_at (shape.function p) t) (value_at (shape.function q) t) v → (t <ʳ value middle) ⊎ (t ≈ value middle)
          ⊎ (value middle <ʳ t) → IsWorth shape new t v
      by_place t v h k c (inl l) = (on'.worth t v).1 (inl ((on.worth t v).1 (inr (inl (h, l, value_taken b p q first t v (is.until_then t h l) c)))))
      by_place t v h k c (inr (inl e)) = (on'.worth t v).1 (inl ((on.worth t v).1 (inr (inr (e, value_taken b p q first t v (is.there t e) c)))))
      by_place t v h k c (inr (inr l)) =
          (on'.worth t v).1 (inr (inl (subst (λ s. s <ʳ t) (sym on.ends) l, k, value_taken b p q second t v (is.from_then t l k) c)))

      back : (t : Rational) (v : Extended) → IsPart b old p q point to t v → IsWorth shape new t v
      back t v (inl w) = (on'.worth t v).1 (inl ((on.worth t v).1 (inl w)))
      back t v (inr (inl w)) = by_place t v w.0 w.1 w.2 (lt_or_same_or_gt t (value middle))
      back t v (inr (inr w)) = (on'.worth t v).1 (inr (inr w))

      of_first : (r : P) → r ≡ first → HasShape old r ⊎ (r ≡ p) ⊎ (r ≡ q) ⊎ (r ≡ point)
      of_first r e = elim is.both [ inl f ↦ inr (inl (e ∙ f.0)) | inr f ↦ inr (inr (inl (e ∙ f.0))) ]

      of_second : (r : P) → r ≡ second → HasShape old r ⊎ (r ≡ p) ⊎ (r ≡ q) ⊎ (r ≡ point)
      of_second r e = elim is.both [ inl f ↦ inr (inr (inl (e ∙ f.1))) | inr f ↦ inr (inl (e ∙ f.1)) ]

      by_old : (r : P) → HasShape old r ⊎ (r ≡ first) ⊎ (r ≡ first) → HasShape old r ⊎ (r ≡ p) ⊎ (r ≡ q) ⊎ (r ≡ point)
      by_old r (inl h) = inl h
      by_old r (inr (inl e)) = of_first r e
      by_old r (inr (inr e)) = of_first r e

      by_shape : (r : P) → HasShape half r ⊎ (r ≡ second) ⊎ (r ≡ point) → HasShape old r ⊎ (r ≡ p) ⊎ (r ≡ q) ⊎ (r ≡ point)
      by_shape r (inl h) = by_old r (on.shapes r h)
      by_shape r (inr (inl e)) = of_second r e
      by_shape r (inr (inr e)) = inr (inr (inr e))

  -- a signal that goes on with the one shape that is chosen all over the gap joins what is chosen
  pub joins_alone : (b : Side) (old new : List (Knot P)) (p q s point : P) (to : Frac) → (s ≡ p) ⊎ (s ≡ q)
      → ((t : Rational) → stop old <ʳ t → t <ʳ value to → IsTakenAt shape b p q s t)
      → GoesOn shape old s to point new → Joins shape b old p q to point new
  joins_alone b old new p q s point to one is on = joins_whole b old new p q s point to (one, is) on

  -- the four ways over a gap
  pub whole_first : (b : Side) (p q : P) (from to : Rational) → IsTaken b (value_at (shape.function p) from) (value_at (shape.function q) from)
      → IsTaken b (value_at (shape.function p) to) (value_at (shape.function q) to)
      → IsAllOver shape b p q from to p
  whole_first b p q from to h k = (
    inl refl,
    λ t x y. chosen_first b (value_at (shape.function p) t) (value_at (shape.function q) t)
        (taken_between b (shape.function p) (shape.function q) from t to x y h k),
  )

  -- the second throughout
  pub whole_second : (b : Side) (p q : P) (from to : Rational) → IsTaken b (value_at (shape.function q) from) (value_at (shape.function p) from)
      → IsTaken b (value_at (shape.function q) to) (value_at (shape.function p) to)
      → IsAllOver shape b p q from to q
  whole_second b p q from to h k = (
    inr refl,
    λ t x y. chosen_second b (value_at (shape.function p) t) (value_at (shape.function q) t)
        (taken_between b (shape.function q) (shape.function p) from t to x y h k),
  )

  meeting : (b : Side) (f g : Affine) (l r m t : Rational) → MeetAlone f g l r m → t ≈ m → IsTaken b (value_at f t) (value_at g t)
  meeting b f g l r m t alone e = taken_same b (value_at f t) (value_at g t)
      (same_transᵉ (value_at f t) (value_at f m) (value_at g t) (value_same f e)
      (same_transᵉ (value_at f m) (value_at g m) (value_at g t) alone.meet (same_symᵉ (value_at g t) (value_at g m) (value_same g e))))

  -- the first, and then the second
  pub split_first : (b : Side) (p q : P) (from to : Rational) (middle : Frac)
      → IsTaken b (value_at (shape.function p) from) (value_at (shape.function q) from)
      → IsTaken b (value_at (shape.function q) to) (value_at (shape.function p) to)
      → MeetAlone (shape.function p) (shape.function q) from to (value middle) → IsSplit shape b p q from to p (value middle) q
  split_first b p q from to middle h k m = record {
    after = m.after;
    before = m.before;
    both = inl (refl, refl);
    until_then = λ t x y. chosen_first b (value_at (shape.function p) t) (value_at (shape.function q) t)
        (taken_between b (shape.function p) (shape.function q) from t (value middle) x y h
        (meeting b (shape.function p) (shape.function q) from to (value middle) (value middle) m (same_refl (value middle))));
    there = λ t x. chosen_first b (value_at (shape.function p) t) (value_at (shape.function q) t)
        (meeting b (shape.function p) (shape.function q) from to (value middle) t m x);
    from_then = λ t x y. chosen_second b (value_at (shape.function p) t) (value_at (shape.function q) t)
        (taken_between b (shape.function q) (shape.function p) (value middle) t to x y
        (meeting b (shape.function q) (shape.function p) from to (value middle) (value middle) (alone_swap m) (same_refl (value middle))) k);
  }

  -- the second, and then the first
  pub split_second : (b : Side) (p q : P) (from to : Rational) (middle : Frac)
      → IsTaken b (value_at (shape.function q) from) (value_at (shape.function p) from)
      → IsTaken b (value_at (shape.function p) to) (value_at (shape.function q) to)
      → MeetAlone (shape.function p) (shape.function q) from to (value middle) → IsSplit shape b p q from to q (value middle) p
  split_second b p q from to middle h k m = record {
    after = m.after;
    before = m.before;
    both = inr (refl, refl);
    until_then = λ t x y. chosen_second b (value_at (shape.function p) t) (value_at (shape.function q) t)
        (taken_between b (shape.function q) (shape.function p) from t (value middle) x y h
        (meeting b (shape.function q) (shape.function p) from to (value middle) (value middle) (alone_swap m) (same_refl (value middle))));
    there = λ t x. chosen_second b (value_at (shape.function p) t) (value_at (shape.function q) t)
        (meeting b (shape.function q) (shape.function p) from to (value middle) t (alone_swap m) x);
    from_then = λ t x y. chosen_first b (value_at (shape.function p) t) (value_at (shape.function q) t)
        (taken_between b (shape.function p) (shape.function q) (value middle) t to x y
        (meeting b (shape.function p) (shape.function q) from to (value middle) (value middle) m (same_refl (value middle))) k);
  }

  -- the order turns over where the one is better at the first time, and the other at the second
  pub turns_over : (b : Side) (p q : P) (from to : Rational) (first : Bool) → IsTurn shape b p q from to first
      → TurnsOver (shape.function p) (shape.function q) from to
  turns_over b p q from to true turn = turned_over b (shape.function p) (shape.function q) from to turn.0 turn.1
  turns_over b p q from to false turn = turned_back b (shape.function p) (shape.function q) from to turn.0 turn.1

  -- where p is the better one first, it is taken up to the crossing
  pub turn_first : (b : Side) (p q : P) (from to : Rational) (middle : Frac) (first : Bool) → first ≡ true → IsTurn shape b p q from to first
      → MeetAlone (shape.function p) (shape.function q) from to (value middle) → IsSplit shape b p q from to p (value middle) q
  turn_first b p q from to middle true is turn meet = split_first b p q from to middle
      (taken_of_less b (value_at (shape.function p) from) (value_at (shape.function q) from) turn.0)
      (taken_of_greater b (value_at (shape.function p) to) (value_at (shape.function q) to) turn.1) meet
  turn_first b p q from to middle false is turn meet = absurd (false≢true is)

  -- and q where it is the better one
  pub turn_second : (b : Side) (p q : P) (from to : Rational) (middle : Frac) (first : Bool) → first ≡ false → IsTurn shape b p q from to first
      → MeetAlone (shape.function p) (shape.function q) from to (value middle) → IsSplit shape b p q from to q (value middle) p
  turn_second b p q from to middle false is turn meet = split_second b p q from to middle
      (taken_of_greater b (value_at (shape.function p) from) (value_at (shape.function q) from) turn.0)
      (taken_of_less b (value_at (shape.function p) to) (value_at (shape.function q) to) turn.1) meet
  turn_second b p q from to middle true is turn meet = absurd (false≢true (sym is))
