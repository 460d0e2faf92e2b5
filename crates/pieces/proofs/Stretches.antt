-- Functions that agree between two times have the same breakpoints, parts and limits there.
use Rattle.std.proofs.Common.{◌⊎◌, inl, inr}
use Rattle.rational.specs.Time.{Rational, Within, ◌≤ʳ◌, ◌<ʳ◌, ◌≈◌}
use Rattle.rational.specs.Extended.{Extended, Affine}
use Rattle.rational.specs.Windows.{Function}
use Rattle.rational.specs.InPlay.{IsLineOn, IsPart, IsBreakpoint, start, stop, inner, IsLeftLimit, IsRightLimit}
use Rattle.rational.proofs.Order.{le_or_lt, lt_or_same_or_gt, le_trans, le_of_lt, le_of_same, ge_of_same, le_refl, lt_of_le_of_lt, lt_of_lt_of_le, same_sym}
use Rattle.rational.proofs.Order.{not_lt_of_le}

-- a domain does not depend on the pairs of its ends
pub within_same_ends : {from from' to to' t : Rational} → from ≈ from' → to ≈ to' → Within from to t → Within from' to' t
within_same_ends b e w = record { above = le_trans (ge_of_same b) w.above; below = le_trans w.below (le_of_same e) }

-- a time that is later than neither is the later of the two
record IsLaterOf (a b c : Rational) : Type 0 where
  left : a ≤ʳ c
  right : b ≤ʳ c
  below : (t : Rational) → a <ʳ t → b <ʳ t → c <ʳ t

later_of_two : (a b : Rational) → (c : Rational) × IsLaterOf a b c
later_of_two a b = by_order (le_or_lt a b)
  where
    by_order : (a ≤ʳ b) ⊎ (b <ʳ a) → (c : Rational) × IsLaterOf a b c
    by_order (inl h) = (b, record { left = h; right = le_refl b; below = λ t k l. l })
    by_order (inr h) = (a, record { left = le_refl a; right = le_of_lt h; below = λ t k l. k })

-- and one that is earlier than neither the earlier
record IsEarlierOf (a b c : Rational) : Type 0 where
  left : c ≤ʳ a
  right : c ≤ʳ b
  above : (t : Rational) → t <ʳ a → t <ʳ b → t <ʳ c

earlier_of_two : (a b : Rational) → (c : Rational) × IsEarlierOf a b c
earlier_of_two a b = by_order (le_or_lt a b)
  where
    by_order : (a ≤ʳ b) ⊎ (b <ʳ a) → (c : Rational) × IsEarlierOf a b c
    by_order (inl h) = (a, record { left = le_refl a; right = h; above = λ t k l. k })
    by_order (inr h) = (b, record { left = le_of_lt h; right = le_refl b; above = λ t k l. l })

-- F is G between the two times, and has no value elsewhere
pub record IsOn (from to : Rational) (F G : Function) : Type 0 where
  -- the function has values on the domain alone
  pub inside : (t : Rational) (v : Extended) → F t v → Within from to t
  -- what the one says the other says
  pub forth : (t : Rational) (v : Extended) → F t v → G t v
  -- and the other way round
  pub back : (t : Rational) (v : Extended) → Within from to t → G t v → F t v

module _ (from to : Rational) (F G : Function) (on : IsOn from to F G) where
  -- lines
  pub line_along : {a b : Rational} (line : Affine) → IsLineOn F a b line → IsLineOn G a b line
  line_along line h t k l = let f = h t k l in (f.0, on.forth t f.0 f.1, f.2)

  -- parts
  pub part_along : {u : Rational} {line : Affine} → IsPart F u line → IsPart G u line
  part_along {u} {line} h = record { a = h.a; b = h.b; above = h.above; below = h.below; on = line_along line h.on }

  part_back : {u : Rational} {line : Affine} → from <ʳ u → u <ʳ to → IsPart G u line → IsPart F u line
  part_back {u} {line} k l h =
      let a = later_of_two from h.a in
      let b = earlier_of_two to h.b in
      record {
        a = a.0;
        b = b.0;
        above = a.1.below u k h.above;
        below = b.1.above u l h.below;
        on = λ t m n.
            let f = h.on t (lt_of_le_of_lt a.1.right m) (lt_of_lt_of_le n b.1.right) in
            (f.0, on.back t f.0 (record { above = le_trans a.1.left (le_of_lt m); below = le_trans (le_of_lt n) b.1.left }) f.1, f.2);
      }

  -- breakpoints
  pub breakpoint_along : {u : Rational} → IsBreakpoint F from to u → IsBreakpoint G from to u
  breakpoint_along (start e) = start e
  breakpoint_along (stop e) = stop e
  breakpoint_along {u} (inner i no_line) = by_ends (lt_or_same_or_gt from u) (lt_or_same_or_gt u to)
    where
      by_ends : (from <ʳ u) ⊎ (from ≈ u) ⊎ (u <ʳ from) → (u <ʳ to) ⊎ (u ≈ to) ⊎ (to <ʳ u) → IsBreakpoint G from to u
      by_ends (inr (inl e)) y = start (same_sym e)
      by_ends (inr (inr h)) y = absurd (not_lt_of_le i.above h)
      by_ends (inl h) (inr (inl e)) = stop e
      by_ends (inl h) (inr (inr k)) = absurd (not_lt_of_le i.below k)
      by_ends (inl h) (inl k) = inner i (λ line p. no_line line (part_back h k p))

  -- limits from the left
  pub left_along : {u : Rational} {v : Extended} → IsLeftLimit F u v → IsLeftLimit G u v
  left_along h = record { a = h.a; above = h.above; line = h.line; on = line_along h.line h.on; value = h.value }

  -- and from the right
  pub right_along : {u : Rational} {v : Extended} → IsRightLimit F u v → IsRightLimit G u v
  right_along h = record { b = h.b; below = h.below; line = h.line; on = line_along h.line h.on; value = h.value }

-- the functions agree between the two times
pub record AreAlike (from to : Rational) (F G : Function) : Type 0 where
  -- what the one says the other says
  pub forth : (t : Rational) (v : Extended) → Within from to t → F t v → G t v

module _ (from to : Rational) (F G : Function) (on : AreAlike from to F G) where
  -- limits from the left inside the domain
  pub left_within : {u : Rational} {v : Extended} → from <ʳ u → u ≤ʳ to → IsLeftLimit F u v → IsLeftLimit G u v
  left_within {u} k l h =
      let a = later_of_two from h.a in
      record {
        a = a.0;
        above = a.1.below u k h.above;
        line = h.line;
        on = λ t m n. let f = h.on t (lt_of_le_of_lt a.1.right m) n in
            (f.0, on.forth t f.0 (record { above = le_trans a.1.left (le_of_lt m); below = le_trans (le_of_lt n) l }) f.1, f.2);
        value = h.value;
      }

  -- and from the right
  pub right_within : {u : Rational} {v : Extended} → from ≤ʳ u → u <ʳ to → IsRightLimit F u v → IsRightLimit G u v
  right_within {u} k l h =
      let b = earlier_of_two to h.b in
      record {
        b = b.0;
        below = b.1.above u l h.below;
        line = h.line;
        on = λ t m n. let f = h.on t m (lt_of_lt_of_le n b.1.right) in
            (f.0, on.forth t f.0 (record { above = le_trans k (le_of_lt m); below = le_trans (le_of_lt n) b.1.left }) f.1, f.2);
        value = h.value;
      }
