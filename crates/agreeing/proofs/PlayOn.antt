-- What is in play in a step stays in play over a longer domain, where the inputs stay the same up to a time that the step does not pass.
use Rattle.std.proofs.Common.{◌⊎◌, inl, inr, ℕ, ◌+◌, ◌*◌, Option, Some, None, Bool, true, ℤ, pos, arith}
use Rattle.std.specs.Prelude.{IfSome}
use Rattle.rational.specs.Time.{Rational, Precedes, shifted, later, ◌≤ʳ◌, ◌<ʳ◌, ◌≈◌}
use Rattle.rational.specs.Rational.{middle}
use Rattle.rational.specs.Extended.{Extended, Affine}
use Rattle.rational.specs.Windows.{Function, Window, Ahead, Behind}
use Rattle.rational.specs.InPlay.{IsLineOn, IsPart, IsBreakpoint, start, stop, inner, IsLeftLimit, IsRightLimit, HasTime, IsEndPart}
use Rattle.rational.specs.InPlay.{IsValueWithin, IsLimitWithin}
use Rattle.rational.proofs.Order.{le_or_lt, le_refl, le_trans, le_of_lt, le_of_same, ge_of_same, lt_of_lt_of_le, lt_of_le_of_lt, lt_trans, not_lt_of_le}
use Rattle.rational.proofs.Order.{left_of_middle, right_of_middle}
use Rattle.rational.proofs.TimeLemmas.{earlier_of, later_lt, precedes_of_lt}

-- ---- functions that are the same up to a time

module _ (P Q : Function) (cut : Rational) (same : (t : Rational) (v : Extended) → t <ʳ cut → P t v → Q t v) where
  line_on : (a b : Rational) (line : Affine) → b ≤ʳ cut → IsLineOn P a b line → IsLineOn Q a b line
  line_on a b line to on t x y = let (v, is, through) = on t x y in (v, same t v (lt_of_lt_of_le y to) is, through)

  -- a part
  pub part_on : (tau : Rational) (line : Affine) → tau <ʳ cut → IsPart P tau line → IsPart Q tau line
  part_on tau line l h =
      let (b, least) = earlier_of h.b cut in
      record {
        a = h.a;
        b = b;
        above = h.above;
        below = both_below b least.most;
        on = line_on h.a b line least.right (λ t x y. h.on t x (lt_of_lt_of_le y least.left));
      }
    where
      both_below : (b : Rational) → ((x : Rational) → x ≤ʳ h.b → x ≤ʳ cut → x ≤ʳ b) → tau <ʳ b
      both_below b most = by_order (le_or_lt h.b cut)
        where
          by_order : (h.b ≤ʳ cut) ⊎ (cut <ʳ h.b) → tau <ʳ b
          by_order (inl k) = lt_of_lt_of_le h.below (most h.b (le_refl h.b) k)
          by_order (inr k) = lt_of_lt_of_le l (most cut (le_of_lt k) (le_refl cut))

  -- a limit from the left
  pub left_on : (u : Rational) (v : Extended) → u ≤ʳ cut → IsLeftLimit P u v → IsLeftLimit Q u v
  left_on u v l h = record { a = h.a; above = h.above; line = h.line; on = line_on h.a u h.line l h.on; value = h.value }

  -- a limit from the right
  pub right_on : (u : Rational) (v : Extended) → u <ʳ cut → IsRightLimit P u v → IsRightLimit Q u v
  right_on u v l h = by_order (le_or_lt h.b cut)
    where
      by_order : (h.b ≤ʳ cut) ⊎ (cut <ʳ h.b) → IsRightLimit Q u v
      by_order (inl k) = record { b = h.b; below = h.below; line = h.line; on = line_on u h.b h.line k h.on; value = h.value }
      by_order (inr k) =
          record { b = cut; below = l; line = h.line; on = line_on u cut h.line (le_refl cut) (λ t x y. h.on t x (lt_trans y k)); value = h.value }

-- ---- over a longer domain

-- two functions that are the same up to a time of the shorter domain, which ends at `to`; the longer one ends at `end`
pub record StaysSame (P Q : Function) (to end cut : Rational) : Type 0 where
  -- what the one is there the other is
  pub forth : (t : Rational) (v : Extended) → t <ʳ cut → P t v → Q t v
  -- and the other way round
  pub back : (t : Rational) (v : Extended) → t <ʳ cut → Q t v → P t v
  -- the time does not lie after the shorter domain
  pub inside : cut ≤ʳ to
  -- which ends no later
  pub longer : to ≤ʳ end

module _ {P Q : Function} {from to end cut : Rational} (stays : StaysSame P Q to end cut) where
  breakpoint_on : (u : Rational) → u <ʳ cut → IsBreakpoint P from to u → IsBreakpoint Q from end u
  breakpoint_on u l (start e) = start e
  breakpoint_on u l (stop e) = absurd (not_lt_of_le (le_trans stays.inside (ge_of_same e)) l)
  breakpoint_on u l (inner w none) =
      inner (record { above = w.above; below = le_trans w.below stays.longer }) (λ line k. none line (part_on Q P cut stays.back u line l k))

  -- a value at a breakpoint
  pub value_within : (W V : Window) (line : Affine) → ((u : Rational) → W u → V u × (u <ʳ cut)) → IsValueWithin P from to W line
      → IsValueWithin Q from end V line
  value_within W V line inside (u, at, w, v, is, constant) =
      let (there, l) = inside u w in (u, breakpoint_on u l at, there, v, stays.forth u v l is, constant)

  -- a limit at one
  pub limit_within : (C D L R : Window) (line : Affine) → ((u : Rational) → C u → D u × (u <ʳ cut)) → IsLimitWithin P from to C L R line
      → IsLimitWithin Q from end D L R line
  limit_within C D L R line inside (u, at, w, v, side, constant) =
      let (there, l) = inside u w in (u, breakpoint_on u l at, there, v, by_side l side, constant)
    where
      by_side : u <ʳ cut → ((from <ʳ u) × L u × IsLeftLimit P u v) ⊎ ((u <ʳ to) × R u × IsRightLimit P u v)
          → ((from <ʳ u) × L u × IsLeftLimit Q u v) ⊎ ((u <ʳ end) × R u × IsRightLimit Q u v)
      by_side l (inl (after, goes, limit)) = inl (after, goes, left_on P Q cut stays.forth u v (le_of_lt l) limit)
      by_side l (inr (before, goes, limit)) = inr (lt_of_lt_of_le before stays.longer, goes, right_on P Q cut stays.forth u v l limit)

  -- a part at an end of the window
  pub end_part_on : (tau : Rational) (line : Affine) (Ends : ℤ → Type 0) → ((k : ℤ) → Ends k → shifted tau k <ʳ cut) → IsEndPart P from to tau line Ends
      → IsEndPart Q from end tau line Ends
  end_part_on tau line Ends inside (k, is, old, w, part, moved) = (
    k,
    is,
    old,
    record { above = w.above; below = le_trans w.below stays.longer },
    part_on P Q cut stays.forth (shifted tau k) old (inside k is) part,
    moved,
  )

-- ---- a time of a window near a limit

-- strictly between the later of two times and a third there is a time
above_both : (x y u : Rational) → x <ʳ u → y <ʳ u → (w : Rational) × (x <ʳ w) × (y <ʳ w) × (w <ʳ u)
above_both x y u a b = by_order (le_or_lt x y)
  where
    by_order : (x ≤ʳ y) ⊎ (y <ʳ x) → (w : Rational) × (x <ʳ w) × (y <ʳ w) × (w <ʳ u)
    by_order (inl k) = (middle y u, lt_of_le_of_lt k (left_of_middle b), left_of_middle b, right_of_middle b)
    by_order (inr k) = (middle x u, left_of_middle a, lt_trans k (left_of_middle a), right_of_middle a)

below_both : (u x y : Rational) → u <ʳ x → u <ʳ y → (w : Rational) × (u <ʳ w) × (w <ʳ x) × (w <ʳ y)
below_both u x y a b = by_order (le_or_lt x y)
  where
    by_order : (x ≤ʳ y) ⊎ (y <ʳ x) → (w : Rational) × (u <ʳ w) × (w <ʳ x) × (w <ʳ y)
    by_order (inl k) = (middle u x, left_of_middle a, right_of_middle a, lt_of_lt_of_le (right_of_middle a) k)
    by_order (inr k) = (middle u y, left_of_middle b, lt_trans (right_of_middle b) k, right_of_middle b)

-- k later, and moved by k, are one time
pub shifted_later : (t : Rational) (k : ℕ) → shifted t (pos k) ≈ later t k
shifted_later t k = record { same = omega arith }

-- the time k before t
abbrev back_by : Rational → ℕ → Rational
back_by t k = record { up = t.up; down = t.down + k * t.den; den = t.den; positive = t.positive }

back_lt : (t u : Rational) (k : ℕ) → t <ʳ later u k → back_by t k <ʳ u
back_lt t u k h = let l = h.lt in record { lt = omega (arith, l) }

forth_lt : (t u : Rational) (k : ℕ) → back_by t k <ʳ u → t <ʳ later u k
forth_lt t u k h = let l = h.lt in record { lt = omega (arith, l) }

back_gt : (t u : Rational) (k : ℕ) → later u k <ʳ t → u <ʳ back_by t k
back_gt t u k h = let l = h.lt in record { lt = omega (arith, l) }

forth_gt : (t u : Rational) (k : ℕ) → u <ʳ back_by t k → later u k <ʳ t
forth_gt t u k h = let l = h.lt in record { lt = omega (arith, l) }

-- a window behind that begins by one time begins before each later one
begins_later : (b : Option ℕ) (b_in : Bool) (tau u t : Rational) → u <ʳ t → IfSome b (λ b. Precedes true tau (later u b))
    → IfSome b (λ b. Precedes b_in tau (later t b))
begins_later None b_in tau u t l h = h
begins_later (Some b) b_in tau u t l h = precedes_of_lt b_in tau (later t b) (lt_of_le_of_lt h (later_lt u t b l))

module _ (P : Function) (from to end tau : Rational) (longer : to ≤ʳ end) (line : Affine) where
  -- a window ahead whose closure has a limit from a side on which it goes on has a time
  pub ahead_has_time : (a b : ℕ) (a_in b_in : Bool) (C : Window) → ((u : Rational) → C u → Ahead from to a b true true tau u)
      → IsLimitWithin P from to C (λ u. shifted tau (pos a) <ʳ u) (λ u. u <ʳ shifted tau (pos b)) line
      → HasTime (Ahead from end a b a_in b_in tau)
  ahead_has_time a b a_in b_in C inside (u, at, c, v, inl (after, goes, limit), constant) =
      let w = inside u c in
      let (t, x, y, z) = above_both (shifted tau (pos a)) from u goes after in (
        t,
        record {
          inside = record { above = le_of_lt y; below = le_trans (le_of_lt z) (le_trans w.inside.below longer) };
          begins = precedes_of_lt a_in (later tau a) t (lt_of_le_of_lt (ge_of_same (shifted_later tau a)) x);
          ends = precedes_of_lt b_in t (later tau b) (lt_of_lt_of_le z w.ends);
        },
      )
  ahead_has_time a b a_in b_in C inside (u, at, c, v, inr (before, goes, limit), constant) =
      let w = inside u c in
      let (t, x, y, z) = below_both u (shifted tau (pos b)) to goes before in (
        t,
        record {
          inside = record { above = le_trans w.inside.above (le_of_lt x); below = le_trans (le_of_lt z) longer };
          begins = precedes_of_lt a_in (later tau a) t (lt_of_le_of_lt w.begins x);
          ends = precedes_of_lt b_in t (later tau b) (lt_of_lt_of_le y (le_of_same (shifted_later tau b)));
        },
      )

  -- so has a window behind
  pub behind_has_time : (a : ℕ) (b : Option ℕ) (a_in b_in : Bool) (C : Window) → ((u : Rational) → C u → Behind from to a b true true tau u)
      → IsLimitWithin P from to C (λ u. IfSome b (λ b. tau <ʳ shifted u (pos b))) (λ u. shifted u (pos a) <ʳ tau) line
      → HasTime (Behind from end a b a_in b_in tau)
  behind_has_time a None a_in b_in C inside (u, at, c, v, inl (after, goes, limit), constant) =
      let w = inside u c in
      let (t, x, y, z) = above_both from from u after after in (
        t,
        record {
          inside = record { above = le_of_lt x; below = le_trans (le_of_lt z) (le_trans w.inside.below longer) };
          begins = w.begins;
          ends = precedes_of_lt a_in (later t a) tau (lt_of_lt_of_le (later_lt t u a z) w.ends);
        },
      )
  behind_has_time a (Some b) a_in b_in C inside (u, at, c, v, inl (after, goes, limit), constant) =
      let w = inside u c in
      let (t, x, y, z) = above_both (back_by tau b) from u (back_lt tau u b (lt_of_lt_of_le goes (le_of_same (shifted_later u b)))) after in (
        t,
        record {
          inside = record { above = le_of_lt y; below = le_trans (le_of_lt z) (le_trans w.inside.below longer) };
          begins = precedes_of_lt b_in tau (later t b) (forth_lt tau t b x);
          ends = precedes_of_lt a_in (later t a) tau (lt_of_lt_of_le (later_lt t u a z) w.ends);
        },
      )
  behind_has_time a b a_in b_in C inside (u, at, c, v, inr (before, goes, limit), constant) =
      let w = inside u c in
      let (t, x, y, z) = below_both u (back_by tau a) to (back_gt tau u a (lt_of_le_of_lt (ge_of_same (shifted_later u a)) goes)) before in (
        t,
        record {
          inside = record { above = le_trans w.inside.above (le_of_lt x); below = le_trans (le_of_lt z) longer };
          begins = begins_later b b_in tau u t x w.begins;
          ends = precedes_of_lt a_in (later t a) tau (forth_gt tau t a y);
        },
      )
