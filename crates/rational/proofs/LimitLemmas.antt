-- One-sided limits of functions of time.
use Rattle.std.proofs.Common.{inl, inr}
use Rattle.rational.specs.Rational.{middle}
use Rattle.rational.specs.Time.{Rational, ◌≤ʳ◌, ◌<ʳ◌, ◌≈◌}
use Rattle.rational.specs.Extended.{Extended, ◌≈ᵉ◌, Affine, value_at}
use Rattle.rational.specs.Affine.{AreSame}
use Rattle.rational.specs.Windows.{Function}
use Rattle.rational.specs.InPlay.{IsLineOn, IsLeftLimit, IsRightLimit}
use Rattle.rational.proofs.Order.{le_refl, le_or_lt, le_of_lt, lt_trans}
use Rattle.rational.proofs.Order.{lt_of_lt_of_le, lt_of_le_of_lt, left_of_middle, right_of_middle}
use Rattle.rational.proofs.AffineLemmas.{same_symᵉ, same_transᵉ, affine_unique}

-- a function of time has one value at a time
abbrev pub HasOneValue : Function → Type 0
HasOneValue F = (t : Rational) (v w : Extended) → F t v → F t w → v ≈ᵉ w

-- the line that a function is on an interval it is on a shorter one
pub line_on_part : (F : Function) (line : Affine) {a b c d : Rational} → a ≤ʳ c → d ≤ʳ b → IsLineOn F a b line → IsLineOn F c d line
line_on_part F line h k on = λ t x y. on t (lt_of_le_of_lt h x) (lt_of_lt_of_le y k)

-- two lines that a function is on one interval are one
pub lines_same : (F : Function) (f g : Affine) {a b : Rational} → HasOneValue F → a <ʳ b → IsLineOn F a b f → IsLineOn F a b g → AreSame f g
lines_same F f g {a} {b} one h on on' = λ t. record {
  at_most = affine_unique f g n m t order (here n n_after n_before) (here m m_after m_before);
  at_least = affine_unique g f n m t order (there n n_after n_before) (there m m_after m_before);
}
  where
    m : Rational
    m = middle a b

    n : Rational
    n = middle a m

    m_after : a <ʳ m
    m_after = left_of_middle h

    m_before : m <ʳ b
    m_before = right_of_middle h

    n_after : a <ʳ n
    n_after = left_of_middle m_after

    order : n <ʳ m
    order = right_of_middle m_after

    n_before : n <ʳ b
    n_before = lt_trans order m_before

    here : (u : Rational) → a <ʳ u → u <ʳ b → value_at f u ≈ᵉ value_at g u
    here u x y =
        let v = on u x y in
        let w = on' u x y in
        same_transᵉ (value_at f u) v.0 (value_at g u) (same_symᵉ v.0 (value_at f u) v.2) (same_transᵉ v.0 w.0 (value_at g u) (one u v.0 w.0 v.1 w.1) w.2)

    there : (u : Rational) → a <ʳ u → u <ʳ b → value_at g u ≈ᵉ value_at f u
    there u x y = same_symᵉ (value_at f u) (value_at g u) (here u x y)

-- the earlier of two later times, and the later of two earlier ones
pub earlier_end : {u a b : Rational} → u <ʳ a → u <ʳ b → (c : Rational) × (u <ʳ c) × (c ≤ʳ a) × (c ≤ʳ b)
earlier_end {u} {a} {b} h k = elim (le_or_lt a b) [ inl l ↦ (a, h, le_refl a, l) | inr l ↦ (b, k, le_of_lt l, le_refl b) ]

-- so for the later one
pub later_end : {u a b : Rational} → a <ʳ u → b <ʳ u → (c : Rational) × (c <ʳ u) × (a ≤ʳ c) × (b ≤ʳ c)
later_end {u} {a} {b} h k = elim (le_or_lt a b) [ inl l ↦ (b, k, l, le_refl b) | inr l ↦ (a, h, le_refl a, le_of_lt l) ]

limits_same : (f g : Affine) (u : Rational) (v w : Extended) → AreSame f g → v ≈ᵉ value_at f u → w ≈ᵉ value_at g u → v ≈ᵉ w
limits_same f g u v w same h k = same_transᵉ v (value_at f u) w h (same_transᵉ (value_at f u) (value_at g u) w (same u) (same_symᵉ w (value_at g u) k))

-- there is one limit from each side
pub right_limit_one : {F : Function} {u : Rational} (v w : Extended) → HasOneValue F → IsRightLimit F u v → IsRightLimit F u w → v ≈ᵉ w
right_limit_one {F} {u} v w one h k =
    let c = earlier_end h.below k.below in
    limits_same h.line k.line u v w
    (lines_same F h.line k.line one c.1 (line_on_part F h.line (le_refl u) c.2 h.on) (line_on_part F k.line (le_refl u) c.3 k.on)) h.value k.value

-- so from the left
pub left_limit_one : {F : Function} {u : Rational} (v w : Extended) → HasOneValue F → IsLeftLimit F u v → IsLeftLimit F u w → v ≈ᵉ w
left_limit_one {F} {u} v w one h k =
    let c = later_end h.above k.above in
    limits_same h.line k.line u v w
    (lines_same F h.line k.line one c.1 (line_on_part F h.line c.2 (le_refl u) h.on) (line_on_part F k.line c.3 (le_refl u) k.on)) h.value k.value
