-- A line between two times, by how its values there lie to a number.
use Rattle.std.proofs.Common.{◌⊎◌, inl, inr}
use Rattle.rational.specs.Rational.{Rational, ◌≤ʳ◌, ◌<ʳ◌, ◌≈◌}
use Rattle.rational.specs.Line.{Line, at, Rises, Falls, Level}
use Rattle.rational.proofs.Order.{le_of_same, ge_of_same, same_trans, same_sym, lt_of_lt_of_le, lt_of_le_of_lt, lt_trans, not_lt_of_le}
use Rattle.rational.proofs.Lines.{slope_of, lt_at, lt_at_falls, at_level}

-- it lies above a number where it is not below it at both ends, and above it at one
pub above_between : {c l t r : Rational} (f : Line) → l <ʳ t → t <ʳ r → c ≤ʳ at f l → c ≤ʳ at f r → (c <ʳ at f l) ⊎ (c <ʳ at f r) → c <ʳ at f t
above_between {c} {l} {t} {r} f h k a b w = by_slope (slope_of f)
  where
    by_end : Level f → (c <ʳ at f l) ⊎ (c <ʳ at f r) → c <ʳ at f t
    by_end p (inl x) = lt_of_lt_of_le x (le_of_same (at_level l t f p))
    by_end p (inr x) = lt_of_lt_of_le x (le_of_same (at_level r t f p))

    by_slope : Rises f ⊎ Level f ⊎ Falls f → c <ʳ at f t
    by_slope (inl p) = lt_of_le_of_lt a (lt_at f p h)
    by_slope (inr (inl p)) = by_end p w
    by_slope (inr (inr p)) = lt_of_le_of_lt b (lt_at_falls f p k)

-- below it likewise
pub below_between : {c l t r : Rational} (f : Line) → l <ʳ t → t <ʳ r → at f l ≤ʳ c → at f r ≤ʳ c → (at f l <ʳ c) ⊎ (at f r <ʳ c) → at f t <ʳ c
below_between {c} {l} {t} {r} f h k a b w = by_slope (slope_of f)
  where
    by_end : Level f → (at f l <ʳ c) ⊎ (at f r <ʳ c) → at f t <ʳ c
    by_end p (inl x) = lt_of_le_of_lt (le_of_same (at_level t l f p)) x
    by_end p (inr x) = lt_of_le_of_lt (le_of_same (at_level t r f p)) x

    by_slope : Rises f ⊎ Level f ⊎ Falls f → at f t <ʳ c
    by_slope (inl p) = lt_of_lt_of_le (lt_at f p k) b
    by_slope (inr (inl p)) = by_end p w
    by_slope (inr (inr p)) = lt_of_lt_of_le (lt_at_falls f p h) a

-- and it is the number where it is so at both ends
pub level_between : {c l t r : Rational} (f : Line) → l <ʳ t → t <ʳ r → at f l ≈ c → at f r ≈ c → at f t ≈ c
level_between {c} {l} {t} {r} f h k a b = by_slope (slope_of f)
  where
    ends : at f l ≈ at f r
    ends = same_trans a (same_sym b)

    by_slope : Rises f ⊎ Level f ⊎ Falls f → at f t ≈ c
    by_slope (inl p) = absurd (not_lt_of_le (ge_of_same ends) (lt_at f p (lt_trans h k)))
    by_slope (inr (inl p)) = same_trans (at_level t l f p) a
    by_slope (inr (inr p)) = absurd (not_lt_of_le (le_of_same ends) (lt_at_falls f p (lt_trans h k)))
