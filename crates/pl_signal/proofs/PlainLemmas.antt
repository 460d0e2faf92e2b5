-- A signal and the plain list of its knots say the same.
use Rattle.std.proofs.Common.{◌≡◌, inl, inr, List, [], ◌∷◌, refl, subst, sym, arith}
use Rattle.rational.specs.Time.{Rational, ◌<ʳ◌, ◌≈◌}
use Rattle.rational.specs.Extended.{Extended, value_at, ◌≈ᵉ◌}
use Rattle.rational.specs.Knots.{IsInside, ReadsFrom, Reads, AreKnotsFrom, last_knot, Spans, AreOneLine, AreNeededFrom, AreNeeded}
use Rattle.rational.proofs.Order.{same_refl, same_sym}
use Rattle.rational.proofs.AffineLemmas.{same_reflᵉ, same_symᵉ, same_transᵉ, value_same}
use Rattle.rational.proofs.Events.{same_by_two}
use Rattle.value_laws.specs.Members.{ShapeOf}
use Rattle.pl_signal.specs.declared.knot.Knot.{Knot}
use Rattle.pl_signal.specs.Knots.{time, start, stop, Each, IsKnot, IsAt, IsBetween, IsWorth, IsSignal, CanBeLeftOut}
use Rattle.pl_signal.specs.Plain.{plain_knot, plain_piece, pieces_of, knots_of}

module _ {P : Type 0} (shape : ShapeOf P) where
  at_of : (k : Knot P) (t : Rational) (v : Extended) → t ≈ time k → v ≈ᵉ value_at (shape.function k.point) (time k) → IsAt shape k t v
  at_of k t v when is = record {
    when = when;
    worth = same_transᵉ v (value_at (shape.function k.point) (time k)) (value_at (shape.function k.point) t) is
        (value_same (shape.function k.point) (same_sym when));
  }

  of_at : (k : Knot P) (t : Rational) (v : Extended) → IsAt shape k t v → (t ≈ time k) × (v ≈ᵉ value_at (shape.function k.point) (time k))
  of_at k t v is = (
    is.when,
    same_transᵉ v (value_at (shape.function k.point) t) (value_at (shape.function k.point) (time k)) is.worth
        (value_same (shape.function k.point) is.when),
  )

  between_of : (k n : Knot P) (t : Rational) (v : Extended) → time k <ʳ time n → IsInside (plain_knot shape k) (plain_piece shape k n) t v
      → IsBetween shape k n t v
  between_of k n t v rising is =
      let same = same_by_two (shape.function k.after) is.through (time k) (time n) rising is.from is.to in
      record {
        after = is.after;
        before = is.before;
        worth = same_transᵉ v (value_at is.through t) (value_at (shape.function k.after) t) is.value
            (same_symᵉ (value_at (shape.function k.after) t) (value_at is.through t) (same t));
      }

  -- a value between two knots is one of the piece between the plain knots
  pub of_between : (k n : Knot P) (t : Rational) (v : Extended) → IsBetween shape k n t v → IsInside (plain_knot shape k) (plain_piece shape k n) t v
  of_between k n t v is = record {
    after = is.after;
    before = is.before;
    through = shape.function k.after;
    from = same_reflᵉ (value_at (shape.function k.after) (time k));
    to = same_reflᵉ (value_at (shape.function k.after) (time n));
    value = is.worth;
  }

  worth_of_reads : (k : Knot P) (ks : List (Knot P)) (t : Rational) (v : Extended) → Each (IsKnot shape) (k ∷ ks)
      → ReadsFrom (plain_knot shape k) (pieces_of shape k ks) t v → IsWorth shape (k ∷ ks) t v
  worth_of_reads k [] t v e is = inl (at_of k t v is.0 is.1)
  worth_of_reads k (n ∷ ks) t v e (inl is) = inl (at_of k t v is.0 is.1)
  worth_of_reads k (n ∷ ks) t v e (inr (inl is)) = inr (inl (between_of k n t v e.0.rising is))
  worth_of_reads k (n ∷ ks) t v e (inr (inr is)) = inr (inr (worth_of_reads n ks t v e.1 is))

  reads_of_worth : (k : Knot P) (ks : List (Knot P)) (t : Rational) (v : Extended) → IsWorth shape (k ∷ ks) t v
      → ReadsFrom (plain_knot shape k) (pieces_of shape k ks) t v
  reads_of_worth k [] t v (inl is) = of_at k t v is
  reads_of_worth k [] t v (inr (inl is)) = absurd is
  reads_of_worth k [] t v (inr (inr is)) = absurd is
  reads_of_worth k (n ∷ ks) t v (inl is) = inl (of_at k t v is)
  reads_of_worth k (n ∷ ks) t v (inr (inl is)) = inr (inl (of_between k n t v is))
  reads_of_worth k (n ∷ ks) t v (inr (inr is)) = inr (inr (reads_of_worth n ks t v is))

  -- read at a time the plain list gives what the signal is worth there
  pub reads_is_worth : (ks : List (Knot P)) (t : Rational) (v : Extended) → IsSignal shape ks
      → (Reads (knots_of shape ks) t v → IsWorth shape ks t v) × (IsWorth shape ks t v → Reads (knots_of shape ks) t v)
  reads_is_worth [] t v s = let some = s.some in absurd (omega (arith, some))
  reads_is_worth (k ∷ ks) t v s = (worth_of_reads k ks t v s.each, reads_of_worth k ks t v)

  last_time : (k : Knot P) (ks : List (Knot P)) → (last_knot (plain_knot shape k) (pieces_of shape k ks)).time ≡ stop (k ∷ ks)
  last_time k [] = refl
  last_time k (n ∷ ks) = last_time n ks

  rising : (k : Knot P) (ks : List (Knot P)) → Each (IsKnot shape) (k ∷ ks) → AreKnotsFrom (plain_knot shape k) (pieces_of shape k ks)
  rising k [] e = tt
  rising k (n ∷ ks) e = (e.0.rising, rising n ks e.1)

  -- the plain list rises from where the signal begins to where it ends
  pub knots_span : (ks : List (Knot P)) → IsSignal shape ks → Spans (start ks) (stop ks) (knots_of shape ks)
  knots_span [] s = let some = s.some in absurd (omega (arith, some))
  knots_span (k ∷ ks) s = record {
    begins = same_refl (time k);
    ends = subst (λ t. t ≈ stop (k ∷ ks)) (sym (last_time k ks)) (same_refl (stop (k ∷ ks)));
    rising = rising k ks s.each;
  }

  -- a knot of the plain list can be left out exactly where that of the signal can
  pub left_out_of_line : (k n m : Knot P) → time k <ʳ time n → time n <ʳ time m
      → AreOneLine (plain_knot shape k) (plain_piece shape k n) (plain_piece shape n m) → CanBeLeftOut shape k n
  left_out_of_line k n m before after line =
      let left = same_by_two (shape.function k.after) line.through (time k) (time n) before line.begins line.arrives in
      let right = same_by_two (shape.function n.after) line.through (time n) (time m) after line.leaves line.ends in
      record {
        here = same_transᵉ (value_at (shape.function k.after) (time n)) (value_at line.through (time n))
            (value_at (shape.function n.point) (time n)) line.arrives
            (same_symᵉ (value_at (shape.function n.point) (time n)) (value_at line.through (time n)) line.here);
        on = λ t. same_transᵉ (value_at (shape.function k.after) t) (value_at line.through t) (value_at (shape.function n.after) t) (left t)
            (same_symᵉ (value_at (shape.function n.after) t) (value_at line.through t) (right t));
      }

  needed_from : (k : Knot P) (ks : List (Knot P)) → Each (IsKnot shape) (k ∷ ks) → AreNeededFrom (plain_knot shape k) (pieces_of shape k ks)
  needed_from k [] e = tt
  needed_from k (n ∷ []) e = tt
  needed_from k (n ∷ m ∷ ks) e = (λ line. e.0.needed (left_out_of_line k n m e.0.rising e.1.0.rising line), needed_from n (m ∷ ks) e.1)

  -- no knot of it can be left out
  pub knots_needed : (ks : List (Knot P)) → IsSignal shape ks → AreNeeded (knots_of shape ks)
  knots_needed [] s = let some = s.some in absurd (omega (arith, some))
  knots_needed (k ∷ ks) s = needed_from k ks s.each
