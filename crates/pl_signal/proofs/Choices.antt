-- The least and the greatest of two affine functions on a gap, and where their order turns over.
use Rattle.std.proofs.Common.{◌≡◌, inl, inr, refl}
use Rattle.std.specs.Prelude.{Option, Some, None, MatchOption}
use Rattle.std.specs.declared.cmp.Ordering.{Ordering}
use Rattle.std.specs.declared.cmp.Ordering.TheVariants.{Less, Equal, Greater}
use Rattle.rational.specs.Rational.{Rational, ◌<ʳ◌}
use Rattle.rational.specs.Extended.{Extended, ◌≤ᵉ◌, ◌≈ᵉ◌, Affine, value_at}
use Rattle.rational.proofs.ExtendedLemmas.{le_reflᵉ, le_transᵉ, le_of_ltᵉ}
use Rattle.rational.proofs.AffineLemmas.{same_reflᵉ}
use Rattle.rational.proofs.AffineMeetings.{between}
use Rattle.pl_signal.specs.declared.joining.Side.{Side}
use Rattle.pl_signal.specs.declared.joining.Side.TheVariants.{Least, Greatest}
use Rattle.pl_signal.specs.Joining.{IsChosen, IsFavour, TurnsOver}

-- the first is taken where it is not above the second, or not below it where the greatest is wanted
abbrev pub IsTaken : Side → Extended → Extended → Type 0
IsTaken Least x y = x ≤ᵉ y
IsTaken Greatest x y = y ≤ᵉ x

-- what is taken of two values is chosen, where it is the first
pub chosen_first : (b : Side) (x y : Extended) → IsTaken b x y → IsChosen b x y x
chosen_first Least x y h = record { left = le_reflᵉ x; right = h; one_of = inl (le_reflᵉ x) }
chosen_first Greatest x y h = record { left = le_reflᵉ x; right = h; one_of = inl (le_reflᵉ x) }

-- and where it is the second
pub chosen_second : (b : Side) (x y : Extended) → IsTaken b y x → IsChosen b x y y
chosen_second Least x y h = record { left = h; right = le_reflᵉ y; one_of = inr (le_reflᵉ y) }
chosen_second Greatest x y h = record { left = h; right = le_reflᵉ y; one_of = inr (le_reflᵉ y) }

-- by the answers of a comparison
pub taken_of_less : (b : Side) (x y : Extended) → IsFavour b Less x y → IsTaken b x y
taken_of_less Least x y h = le_of_ltᵉ x y h
taken_of_less Greatest x y h = le_of_ltᵉ y x h

-- equal values may both be taken
pub taken_of_equal : (b : Side) (x y : Extended) → IsFavour b Equal x y → IsTaken b x y
taken_of_equal Least x y h = h.at_most
taken_of_equal Greatest x y h = h.at_most

-- and else the other one is
pub taken_of_greater : (b : Side) (x y : Extended) → IsFavour b Greater x y → IsTaken b y x
taken_of_greater Least x y h = le_of_ltᵉ y x h
taken_of_greater Greatest x y h = le_of_ltᵉ x y h

-- what is not greater is taken
pub taken_first : (b : Side) (o : Ordering) (x y : Extended) → IsFavour b o x y → ¬ (o ≡ Greater) → IsTaken b x y
taken_first b Less x y h n = taken_of_less b x y h
taken_first b Equal x y h n = taken_of_equal b x y h
taken_first b Greater x y h n = absurd (n refl)

-- what is not less is taken from the second
pub taken_second : (b : Side) (o : Ordering) (x y : Extended) → IsFavour b o x y → ¬ (o ≡ Less) → IsTaken b y x
taken_second b Less x y h n = absurd (n refl)
taken_second Least Equal x y h n = h.at_least
taken_second Greatest Equal x y h n = h.at_least
taken_second b Greater x y h n = taken_of_greater b x y h

-- what is taken at both ends is taken between
pub taken_between : (b : Side) (f g : Affine) (l t r : Rational) → l <ʳ t → t <ʳ r → IsTaken b (value_at f l) (value_at g l)
    → IsTaken b (value_at f r) (value_at g r) → IsTaken b (value_at f t) (value_at g t)
taken_between Least f g l t r h k a b = between f g l t r h k a b
taken_between Greatest f g l t r h k a b = between g f l t r h k a b

-- equal values may be taken for each other
pub taken_same : (b : Side) (x y : Extended) → x ≈ᵉ y → IsTaken b x y
taken_same Least x y h = h.at_most
taken_same Greatest x y h = h.at_least

-- the order turns over
pub turned_over : (b : Side) (f g : Affine) (l r : Rational) → IsFavour b Less (value_at f l) (value_at g l) → IsFavour b Greater (value_at f r) (value_at g r)
    → TurnsOver f g l r
turned_over Least f g l r h k = inl (h, k)
turned_over Greatest f g l r h k = inr (h, k)

-- and so the other way round
pub turned_back : (b : Side) (f g : Affine) (l r : Rational) → IsFavour b Greater (value_at f l) (value_at g l) → IsFavour b Less (value_at f r) (value_at g r)
    → TurnsOver f g l r
turned_back Least f g l r h k = inr (h, k)
turned_back Greatest f g l r h k = inl (h, k)

-- what is said of no answer
pub none_says : {A X : Type 0} (Y : A → Type 0) (o : Option A) → o ≡ None → MatchOption o X Y → X
none_says Y None e h = h
none_says Y (Some a) e h = absurd (cc)

-- the chosen value by another pair
pub chosen_same : (b : Side) (x y v w : Extended) → v ≈ᵉ w → IsChosen b x y v → IsChosen b x y w
chosen_same Least x y v w e h =
    record {
      left = le_transᵉ w v x e.at_least h.left;
      right = le_transᵉ w v y e.at_least h.right;
      one_of = elim h.one_of [ inl l ↦ inl (le_transᵉ x v w l e.at_most) | inr l ↦ inr (le_transᵉ y v w l e.at_most) ];
    }
chosen_same Greatest x y v w e h =
    record {
      left = le_transᵉ x v w h.left e.at_most;
      right = le_transᵉ y v w h.right e.at_most;
      one_of = elim h.one_of [ inl l ↦ inl (le_transᵉ w v x e.at_least l) | inr l ↦ inr (le_transᵉ w v y e.at_least l) ];
    }

-- one value is chosen of two
pub chosen_once : (b : Side) (x y x' y' v w : Extended) → x ≈ᵉ x' → y ≈ᵉ y' → IsChosen b x y v → IsChosen b x' y' w → v ≤ᵉ w
chosen_once Least x y x' y' v w e f h k =
    elim k.one_of [ inl l ↦ le_transᵉ v x w h.left (le_transᵉ x x' w e.at_most l) | inr l ↦ le_transᵉ v y w h.right (le_transᵉ y y' w f.at_most l) ]
chosen_once Greatest x y x' y' v w e f h k =
    elim h.one_of [ inl l ↦ le_transᵉ v x w l (le_transᵉ x x' w e.at_most k.left) | inr l ↦ le_transᵉ v y w l (le_transᵉ y y' w f.at_most k.right) ]

-- there is one chosen value
pub chosen_one : (b : Side) (x y v w : Extended) → IsChosen b x y v → IsChosen b x y w → v ≈ᵉ w
chosen_one b x y v w h k =
    record { at_most = chosen_once b x y x y v w (same_reflᵉ x) (same_reflᵉ y) h k; at_least = chosen_once b x y x y w v (same_reflᵉ x) (same_reflᵉ y) k h }
