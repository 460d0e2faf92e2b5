-- What is in play in a since is so in the until with time running back.
use Rattle.std.proofs.Common.{◌≡◌, ℕ, ◌<◌, ◌⊎◌, inl, inr, ℤ, pos, negsuc, zero, suc, refl, subst}
use Rattle.std.specs.Prelude.{nat_abs}
use lib.IntN.{neg_ℤ}
use Rattle.rational.specs.Rational.{Rational, negate, ratio, ◌<ʳ◌, ◌≈◌}
use Rattle.rational.specs.Time.{Within, Divides, IsLowest, HasDenominator}
use Rattle.rational.specs.Extended.{Extended, finite, ◌≈ᵉ◌, Affine, value_at}
use Rattle.rational.specs.InPlay.{IsLineOn, IsPart, IsBreakpoint, start, stop, inner, IsLeftLimit, IsRightLimit, IsCrossing}
use Rattle.rational.specs.InPlay.{IsNext, IsPrevious, IsInPlay, since_start, until_end, IsWideCrossing, IsWideValue}
use Rattle.rational.specs.Windows.{Function}
use Rattle.rational.proofs.Order.{le_of_same, ge_of_same, le_trans, lt_of_lt_of_le, lt_of_le_of_lt, same_refl, same_sym, same_trans}
use Rattle.rational.proofs.Field.{lt_negate, le_negate, same_negate}
use Rattle.rational.proofs.Sames.{symᵉ}
use Rattle.rational.proofs.AffineLemmas.{same_symᵉ, same_transᵉ, value_same}
use Rattle.rational.proofs.RunningBack.{RunsBack, other_way, turned_affine}

-- g is f with time running back
abbrev pub IsBack : Affine → Affine → Type 0
IsBack f g = (t : Rational) → value_at g t ≈ᵉ value_at f (negate t)

-- running back is of both
pub back_other : (f g : Affine) → IsBack f g → IsBack g f
back_other f g h = λ t. same_symᵉ (value_at g (negate t)) (value_at f t) (h (negate t))

negated_lt : {a b : Rational} → negate a <ʳ b → negate b <ʳ a
negated_lt {a} {b} h = lt_negate h

lt_negated : {a b : Rational} → a <ʳ negate b → b <ʳ negate a
lt_negated {a} {b} h = lt_negate h

module _ (P P' : Function) (back : RunsBack P P') (f g : Affine) (turned : IsBack f g) where
  -- a line runs back to a line
  pub line_back : (a b : Rational) → IsLineOn P' a b f → IsLineOn P (negate b) (negate a) g
  line_back a b on = λ t h k.
      let x = on (negate t) (lt_negated k) (negated_lt h) in (
        x.0,
        back.out (negate t) x.0 x.1,
        same_transᵉ x.0 (value_at f (negate t)) (value_at g t) x.2
            (same_symᵉ (value_at g t) (value_at f (negate t)) (turned t)),
      )

  -- and a part to a part
  pub part_back : (tau : Rational) → IsPart P' tau f → IsPart P (negate tau) g
  part_back tau part = record {
    a = negate part.b;
    b = negate part.a;
    above = lt_negate part.below;
    below = lt_negate part.above;
    on = line_back part.a part.b part.on;
  }

-- a breakpoint
pub breakpoint_back : (P P' : Function) → RunsBack P P' → (from to from' to' u : Rational) → from ≈ negate to' → to ≈ negate from'
    → IsBreakpoint P' from' to' u → IsBreakpoint P from to (negate u)
breakpoint_back P P' back from to from' to' u e f (start s) = stop (same_trans (same_negate s) (same_sym f))
breakpoint_back P P' back from to from' to' u e f (stop s) = start (same_trans (same_negate s) (same_sym e))
breakpoint_back P P' back from to from' to' u e f (inner w n) =
    inner (record { above = le_trans (le_of_same e) (le_negate w.below); below = le_trans (le_negate w.above) (ge_of_same f) })
    (λ line part. let g = turned_affine line in n g.0 (part_back P' P (other_way back) line g.0 g.1 (negate u) part))

-- a crossing
pub crossing_back : (f g f' g' : Affine) (t : Rational) → IsBack f' f → IsBack g' g → IsCrossing f' g' t → IsCrossing f g (negate t)
crossing_back f g f' g' t h k c = record {
  meet = same_transᵉ (value_at f (negate t)) (value_at f' t) (value_at g (negate t)) (h (negate t))
      (same_transᵉ (value_at f' t) (value_at g' t) (value_at g (negate t)) c.meet (same_symᵉ (value_at g (negate t)) (value_at g' t) (k (negate t))));
  elsewhere = negate c.elsewhere;
  apart = λ s. c.apart (same_transᵉ (value_at f' c.elsewhere) (value_at f (negate c.elsewhere)) (value_at g' c.elsewhere)
      (same_symᵉ (value_at f (negate c.elsewhere)) (value_at f' c.elsewhere) (h (negate c.elsewhere)))
      (same_transᵉ (value_at f (negate c.elsewhere)) (value_at g (negate c.elsewhere)) (value_at g' c.elsewhere) s (k (negate c.elsewhere))));
}

limit_back : (P P' : Function) → RunsBack P P' → (u : Rational) (v : Extended) → IsRightLimit P' u v → IsLeftLimit P (negate u) v
limit_back P P' back u v l =
    let g = turned_affine l.line in
    record {
      a = negate l.b;
      above = lt_negate l.below;
      line = g.0;
      on = line_back P P' back l.line g.0 g.1 u l.b l.on;
      value = same_transᵉ v (value_at l.line u) (value_at g.0 (negate u)) l.value (same_symᵉ (value_at g.0 (negate u)) (value_at l.line u) (g.1 (negate u)));
    }

value_back : (P P' : Function) → RunsBack P P' → (u : Rational) (v : Extended) → P' u v ⊎ IsRightLimit P' u v → P (negate u) v ⊎ IsLeftLimit P (negate u) v
value_back P P' back u v (inl h) = inl (back.out u v h)
value_back P P' back u v (inr l) = inr (limit_back P P' back u v l)

-- three functions that run back, over a domain that runs back
pub record AreBack (P P' Q Q' R R' : Function) (from to from' to' : Rational) : Type 0 where
  -- the left side runs back
  pub left : RunsBack P P'
  -- the right side runs back
  pub right : RunsBack Q Q'
  -- what is made of them runs back
  pub made : RunsBack R R'
  -- the domain begins where the other ends
  pub first : from ≈ negate to'
  -- and ends where the other begins
  pub last : to ≈ negate from'

module _ {P P' Q Q' R R' : Function} {from to from' to' : Rational} (back : AreBack P P' Q Q' R R' from to from' to') where
  within_turned : (u : Rational) → Within from' to' u → Within from to (negate u)
  within_turned u w = record { above = le_trans (le_of_same back.first) (le_negate w.below); below = le_trans (le_negate w.above) (ge_of_same back.last) }

  next_back : (tau u : Rational) → IsPrevious P' Q' from' to' tau u → IsNext P Q from to (negate tau) (negate u)
  next_back tau u h =
      let f = turned_affine h.left in
      let g = turned_affine h.right in
      record {
        inside = within_turned u h.inside;
        after = lt_negate h.before;
        left = f.0;
        right = g.0;
        left_on = line_back P P' back.left h.left f.0 f.1 u tau h.left_on;
        right_on = line_back Q Q' back.right h.right g.0 g.1 u tau h.right_on;
        none_before = λ t a b c. h.none_before (negate t) (lt_negated b) (negated_lt a)
            (crossing_back h.left h.right f.0 g.0 t (back_other h.left f.0 f.1) (back_other h.right g.0 g.1) c);
        here = elim h.here [
          | inl x ↦ inl (breakpoint_back P P' back.left from to from' to' u back.first back.last x)
          | inr x ↦ elim x [
            | inl y ↦ inr (inl (breakpoint_back Q Q' back.right from to from' to' u back.first back.last y))
            | inr y ↦ inr (inr (crossing_back f.0 g.0 h.left h.right u f.1 g.1 y))
          ]
        ];
      }

  -- in play
  pub play_back : (tau : Rational) (f g : Affine) → IsBack f g → IsInPlay (since_start P' Q' R') from' to' tau f
      → IsInPlay (until_end P Q R) from to (negate tau) g
  play_back tau f g turned (inl part) = inl (part_back P P' back.left f g turned tau part)
  play_back tau f g turned (inr (inl part)) = inr (inl (part_back Q Q' back.right f g turned tau part))
  play_back tau f g turned (inr (inr (u, previous, v, is, by))) =
      inr (inr (
        negate u,
        next_back tau u previous,
        v,
        (λ t. same_transᵉ v (value_at f (negate t)) (value_at g t) (is (negate t)) (symᵉ (turned t))),
        elim by [
          | inl x ↦ inl (value_back P P' back.left u v x)
          | inr x ↦ elim x [ inl y ↦ inr (inl (value_back Q Q' back.right u v y)) | inr y ↦ inr (inr (value_back R R' back.made u v y)) ]
        ],
      ))

  -- a crossing that is in play
  pub crossing_cause : {f' g' : Affine} {a' b' : Rational} {den : ℕ} (f g : Affine) (a b : Rational) → IsBack f' f → IsBack g' g → a ≈ negate b' → b ≈ negate a'
      → IsWideCrossing (IsInPlay (since_start P' Q' R') from' to') from' to' f' g' a' b' den
      → IsWideCrossing (IsInPlay (until_end P Q R) from to) from to f g a b den
  crossing_cause {f'} {g'} {a'} {b'} {den} f g a b h k e e' w = record {
    tau = negate w.tau;
    after_start = lt_of_le_of_lt (le_of_same back.first) (lt_negate w.before_stop);
    before_stop = lt_of_lt_of_le (lt_negate w.after_start) (ge_of_same back.last);
    above = lt_of_le_of_lt (le_of_same e) (lt_negate w.below);
    below = lt_of_lt_of_le (lt_negate w.above) (ge_of_same e');
    first = play_back w.tau f' f h w.first;
    second = play_back w.tau g' g k w.second;
    meet = same_transᵉ (value_at f (negate w.tau)) (value_at f' w.tau) (value_at g (negate w.tau)) (h (negate w.tau))
        (same_transᵉ (value_at f' w.tau) (value_at g' w.tau) (value_at g (negate w.tau)) w.meet
        (symᵉ (k (negate w.tau))));
    alone = λ t s. same_negate
        (w.alone (negate t) (same_transᵉ (value_at f' (negate t)) (value_at f t) (value_at g' (negate t))
        (symᵉ (h t)) (same_transᵉ (value_at f t) (value_at g t) (value_at g' (negate t)) s (k t))));
    denominator = denominator_back w.tau den w.denominator;
    wide = w.wide;
  }
    where
      lowest_back : (num : ℤ) (den : ℕ) → IsLowest num den → IsLowest (neg_ℤ num) den
      lowest_back num den l = record { positive = l.positive; coprime = λ j h i. l.coprime j (subst (λ n. Divides j n) (abs_back num) h) i }
        where
          abs_back : (z : ℤ) → nat_abs (neg_ℤ z) ≡ nat_abs z
          abs_back (pos zero) = refl
          abs_back _ = refl

      ratio_back : (num : ℤ) (d : ℕ) (p : 0 < d) → negate (ratio num d p) ≈ ratio (neg_ℤ num) d p
      ratio_back (pos zero) d p = same_refl (ratio (pos zero) d p)
      ratio_back (pos (suc n)) d p = same_refl (ratio (negsuc n) d p)
      ratio_back (negsuc n) d p = same_refl (ratio (pos (suc n)) d p)

      denominator_back : (t : Rational) (den : ℕ) → HasDenominator t den → HasDenominator (negate t) den
      denominator_back t den (num, lowest, same) = (neg_ℤ num, lowest_back num den lowest, same_trans (same_negate same) (ratio_back num den lowest.positive))

  -- a constant that is in play
  pub value_cause : (f f' : Affine) (u u' : Rational) (den : ℕ) → IsBack f' f → u ≈ negate u'
      → IsWideValue (IsInPlay (since_start P' Q' R') from' to') from' to' f' u' den
      → IsWideValue (IsInPlay (until_end P Q R) from to) from to f u den
  value_cause f f' u u' den h e w =
      let g = turned_affine w.line in
      record {
        tau = negate w.tau;
        after_start = lt_of_le_of_lt (le_of_same back.first) (lt_negate w.before_stop);
        before_stop = lt_of_lt_of_le (lt_negate w.after_start) (ge_of_same back.last);
        value = w.value;
        is_value = same_transᵉ (finite w.value) (value_at f' u') (value_at f u) w.is_value
            (symᵉ
            (same_transᵉ (value_at f u) (value_at f' (negate u)) (value_at f' u') (h u) (value_same f' (same_negate e))));
        line = g.0;
        constant = λ t. same_transᵉ (finite w.value) (value_at w.line (negate t)) (value_at g.0 t) (w.constant (negate t))
            (symᵉ (g.1 t));
        in_play = play_back w.tau w.line g.0 g.1 w.in_play;
        denominator = w.denominator;
        wide = w.wide;
      }
