-- The window of a node: what it sees of a domain, the best over it, and what is in play where that is taken.
use Rattle.std.specs.Prelude.{◌≡◌, ◌⊎◌, ℕ, pos, neg_ℤ, ◌≤ℤ◌, true}
use Rattle.rational.specs.Time.{Rational, Within, Precedes, shifted, ◌<ʳ◌}
use Rattle.rational.specs.Extended.{Affine, minus_infinity, infinity}
use Rattle.rational.specs.InPlay.{HasTime, IsEndPart, IsLimitWithin, IsValueWithin}
use Rattle.rational.specs.Windows.{Function}
use Rattle.pieces.specs.Best.{IsBestOver}
use Rattle.stl_syntax.specs.Trace.{Trace, start, stop}
use Rattle.online_robust.specs.declared.slide.Window.{Window}

-- u lies in the window at t, as far as that lies between `from` and `to`
pub record Holds (from to : Rational) (w : Window) (t u : Rational) : Type 0 where
  pub inside : Within from to u
  pub begins : Precedes w.low_in (shifted t w.low) u
  pub ends : Precedes w.high_in u (shifted t w.high)

-- at each time the best of a function over the window, as far as that lies in the trace
abbrev pub best_over : Trace → Function → Window → Function
best_over tr P w t r = IsBestOver w.side minus_infinity infinity (Holds (start tr) (stop tr) w t) P r

-- the same window with both ends
abbrev pub closed : Window → Window
closed w = record w { low_in = true; high_in = true }

-- the line is in play at tau in the step that takes the best over the window
abbrev pub InPlayOver : Function → Rational → Rational → Window → Rational → Affine → Type 0
InPlayOver F from to w tau line =
    HasTime (Holds from to w tau)
    × (IsEndPart F from to tau line (λ k. (k ≡ w.low) ⊎ (k ≡ w.high))
    ⊎ IsValueWithin F from to (Holds from to w tau) line
    ⊎ IsLimitWithin F from to (Holds from to (closed w) tau) (λ u. shifted tau w.low <ʳ u) (λ u. u <ʳ shifted tau w.high) line)

-- a constant that the function has at a breakpoint before the time `front` is in play at tau
abbrev pub SettledOver : Function → Rational → Rational → Rational → Window → Rational → Affine → Type 0
SettledOver P from to front w tau line =
    IsValueWithin P from to (λ u. Holds from to w tau u × (u <ʳ front)) line
    ⊎ IsLimitWithin P from to (λ u. Holds from to (closed w) tau u × (u <ʳ front)) (λ u. shifted tau w.low <ʳ u) (λ u. u <ʳ shifted tau w.high) line

-- the high offset is no more than `own`, either way, and so is the low one, unless it lies before any time
pub record IsOwned (w : Window) (own : ℕ) : Type 0 where
  pub low : ((neg_ℤ (pos own) ≤ℤ w.low) × (w.low ≤ℤ pos own)) ⊎ (w.low ≡ neg_ℤ (pos 4294967296))
  pub high_from : neg_ℤ (pos own) ≤ℤ w.high
  pub high_to : w.high ≤ℤ pos own
