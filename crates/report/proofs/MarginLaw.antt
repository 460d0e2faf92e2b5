-- The plain knots of a signal that tells a robustness describe it.
use Rattle.std.proofs.Common.{List, [], ◌∷◌, inl, inr, refl, arith}
use Rattle.rational.specs.Time.{Rational, ◌<ʳ◌, ◌≈◌}
use Rattle.rational.specs.Extended.{Extended, value_at}
use Rattle.rational.proofs.Order.{same_refl, same_sym, same_trans}
use Rattle.rational.proofs.AffineLemmas.{same_reflᵉ}
use Rattle.value_laws.specs.Members.{ShapeOf}
use Rattle.pl_signal.specs.declared.knot.Knot.{Knot}
use Rattle.pl_signal.specs.Knots as knots
use Rattle.pl_signal.specs.Knots.{time, Each, IsKnot, IsWorth}
use Rattle.pl_signal.specs.Moves.{Tells}
use Rattle.pl_signal.specs.Plain.{plain_knot, plain_piece, pieces_of, knots_of}
use Rattle.pl_signal.proofs.PlainLemmas.{of_between, left_out_of_line}
use Rattle.stl_syntax.specs.Formula.{Subformula}
use Rattle.stl_syntax.specs.Trace.{Trace, start, stop}
use Rattle.stl_syntax.specs.SupInf.{SupInf, Robustness, margin_setting}
use Rattle.stl_syntax.specs.Verdicts.{IsRobust, IsRobustInside, PiecesGoOn, DescribesMargins}

module _ {P : Type 0} (shape : ShapeOf P) (p : Subformula) (tr : Trace) where
  -- all that the knots are worth is the robustness
  abbrev IsRobustSignal : List (Knot P) → Type 0
  IsRobustSignal ks = (t : Rational) (v : Extended) → IsWorth shape ks t v → Robustness p tr t v

  at_first : (k : Knot P) (ks : List (Knot P)) → IsRobustSignal (k ∷ ks) → IsRobust p tr (plain_knot shape k)
  at_first k ks worth =
      worth (time k) (value_at (shape.function k.point) (time k))
      (inl (record { when = same_refl (time k); worth = same_reflᵉ (value_at (shape.function k.point) (time k)) }))

  after_first : (k n : Knot P) (ks : List (Knot P)) → time k <ʳ time n → IsRobustSignal (k ∷ n ∷ ks)
      → IsRobustInside p tr (plain_knot shape k) (plain_piece shape k n)
  after_first k n ks rising worth = (
    rising,
    λ t above below.
        let v = value_at (shape.function k.after) t in
        let is : knots.IsBetween shape k n t v = record { after = above; before = below; worth = same_reflᵉ v } in
        (v, worth t v (inr (inl is)), of_between shape k n t v is),
  )

  goes_on : (to : Rational) (k n : Knot P) (ks : List (Knot P)) → Each (IsKnot shape) (k ∷ n ∷ ks) → IsRobustSignal (n ∷ ks) → knots.stop (n ∷ ks) ≈ to
      → PiecesGoOn p tr to (plain_knot shape k) (plain_piece shape k n) (pieces_of shape n ks)
  goes_on to k n [] each worth ends = ends
  goes_on to k n (m ∷ ks) each worth ends = (
    λ line. each.0.needed (left_out_of_line shape k n m each.0.rising each.1.0.rising line),
    after_first n m ks each.1.0.rising worth,
    at_first m ks (λ t v w. worth t v (inr (inr w))),
    goes_on to n m ks each.1 (λ t v w. worth t v (inr (inr w))) ends,
  )

  -- the plain knots of a signal that tells the robustness describe it
  pub knots_describe : (ks : List (Knot P)) → Tells shape (SupInf p (margin_setting tr)) (start tr) (stop tr) ks → DescribesMargins (knots_of shape ks) p tr
  knots_describe [] tells = let some = tells.signal.some in absurd (omega (arith, some))
  knots_describe (k ∷ []) tells = (
    tells.begins,
    at_first k [] (λ t v w. ((tells.worth t v).0 w).1),
    inl (refl, same_trans (same_sym tells.begins) tells.ends),
  )
  knots_describe (k ∷ n ∷ ks) tells =
      let worth : IsRobustSignal (k ∷ n ∷ ks) = λ t v w. ((tells.worth t v).0 w).1 in (
        tells.begins,
        at_first k (n ∷ ks) worth,
        inr (
          after_first k n ks tells.signal.each.0.rising worth,
          at_first n ks (λ t v w. worth t v (inr (inr w))),
          goes_on (stop tr) k n ks tells.signal.each (λ t v w. worth t v (inr (inr w))) tells.ends,
        ),
      )
