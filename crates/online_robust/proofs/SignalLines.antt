-- The lines of a signal: what they tell, and that they are the parts of what it tells.
use Rattle.std.proofs.Common.{◌≡◌, inl, inr, ℕ, true, List, [], ◌∷◌, refl, ap}
use Rattle.std.specs.Prelude.{map}
use Rattle.rational.specs.Time.{Rational, Within, ◌≈◌}
use Rattle.rational.specs.Extended.{Extended, value_at}
use Rattle.rational.specs.Windows.{Function}
use Rattle.rational.proofs.Order.{le_trans, same_refl, same_sym, same_trans}
use Rattle.rational.proofs.AffineLemmas.{same_reflᵉ}
use Rattle.value_laws.specs.Kinds.{margin_shape}
use Rattle.value_laws.specs.declared.margin.Margin.{Margin}
use Rattle.pl_signal.specs.declared.knot.Knot.{Knot}
use Rattle.pl_signal.specs.Knots as knots
use Rattle.pl_signal.specs.Knots.{time, Each, IsKnot, IsWorth, HasShape}
use Rattle.pl_signal.specs.Limits.{IsLimited}
use Rattle.pl_signal.specs.Plain.{plain_knot, plain_piece, pieces_of, knots_of}
use Rattle.pl_signal.proofs.PlainLemmas.{of_between, left_out_of_line}
use Rattle.stl_syntax.specs.Formula.{Subformula}
use Rattle.stl_syntax.specs.Trace.{Trace}
use Rattle.stl_syntax.specs.SupInf.{Robustness}
use Rattle.stl_syntax.specs.Verdicts.{IsRobustInside, PiecesGoOn, TellsAfter, TellsClosed}
use Rattle.online_nodes.specs.MarginEdges.{point, gap, parts_after, parts_of}
use Rattle.online_robust.specs.Told.{AreTold, AreFit, AreJoined, IsMovedBy, IsTick}
use Rattle.online_robust.specs.Pasts.{part_of}
use Rattle.online_robust.specs.Putting.{lines_after, lines_of}

-- ---- parts

-- the lines behind a knot are its later parts
pub after_parts : (k : Knot Margin) (ks : List (Knot Margin)) → map part_of (lines_after k ks) ≡ parts_after (time k) (pieces_of margin_shape k ks)
after_parts k [] = refl
after_parts k (n ∷ ks) =
    ap (λ l. gap (time k) (time n) (value_at (margin_shape.function k.after) (time k)) (value_at (margin_shape.function k.after) (time n))
    ∷ point (time n) (value_at (margin_shape.function n.point) (time n)) ∷ l) (after_parts n ks)

-- the lines behind a knot, with its point, are all its parts
pub all_parts : (k : Knot Margin) (ks : List (Knot Margin)) → map part_of (lines_of true (k ∷ ks)) ≡ parts_of (knots_of margin_shape (k ∷ ks))
all_parts k ks = ap (λ l. point (time k) (value_at (margin_shape.function k.point) (time k)) ∷ l) (after_parts k ks)

-- ---- what the lines tell

-- all that the knots are worth lies between the two times, and is what F says there
abbrev pub AreWorth : Function → Rational → Rational → List (Knot Margin) → Type 0
AreWorth F from to ks = (t : Rational) (v : Extended) → IsWorth margin_shape ks t v → Within from to t × F t v

module _ (F : Function) (from to : Rational) where
  -- a signal's first point is what it tells there
  pub at_first : (k : Knot Margin) (ks : List (Knot Margin)) → AreWorth F from to (k ∷ ks)
      → Within from to (time k) × F (time k) (value_at (margin_shape.function k.point) (time k))
  at_first k ks worth =
      worth (time k) (value_at (margin_shape.function k.point) (time k))
      (inl (record { when = same_refl (time k); worth = same_reflᵉ (value_at (margin_shape.function k.point) (time k)) }))

  -- the later lines tell the function
  pub told_after : (k : Knot Margin) (ks : List (Knot Margin)) → Each (IsKnot margin_shape) (k ∷ ks) → AreWorth F from to (k ∷ ks)
      → AreTold F (lines_after k ks)
  told_after k [] each worth = tt
  told_after k (n ∷ ks) each worth = (
    (
      each.0.rising,
      λ t above below.
          let v = value_at (margin_shape.function k.after) t in
          (worth t v (inr (inl (record { after = above; before = below; worth = same_reflᵉ v })))).1,
    ),
    (
      (at_first n ks (λ t v w. worth t v (inr (inr w)))).1,
      told_after n ks each.1 (λ t v w. worth t v (inr (inr w))),
    ),
  )

  -- within ticks the lines are fit, where the signal is within the limits
  module _ (reach : ℕ) (first : IsTick from) (last : IsTick to) where
    tick : (t : Rational) → Within from to t → IsTick t
    tick t w = (le_trans first.0 w.above, le_trans w.below last.1)

    -- the later lines keep within the limits
    pub fit_after : (k : Knot Margin) (ks : List (Knot Margin)) → AreWorth F from to (k ∷ ks) → IsLimited margin_shape (k ∷ ks)
        → ((p : Margin) → HasShape (k ∷ ks) p → IsMovedBy reach p) → AreFit reach (lines_after k ks)
    fit_after k [] worth limited moved = tt
    fit_after k (n ∷ ks) worth limited moved =
        let here = tick (time k) (at_first k (n ∷ ks) worth).0 in
        let there = tick (time n) (at_first n ks (λ t v w. worth t v (inr (inr w)))).0 in (
          (here, there, limited.0.limits.0, limited.0.limits.1, moved k.after (inr (inl refl))),
          (
            (there, limited.1.0.point, moved n.point (inr (inr (inl refl)))),
            fit_after n ks (λ t v w. worth t v (inr (inr w))) limited.1 (λ p h. moved p (inr (inr h))),
          ),
        )

    -- the first line and the later ones keep within the limits
    pub fit_first : (k : Knot Margin) (ks : List (Knot Margin)) → AreWorth F from to (k ∷ ks) → IsLimited margin_shape (k ∷ ks)
        → ((p : Margin) → HasShape (k ∷ ks) p → IsMovedBy reach p) → AreFit reach (lines_of true (k ∷ ks))
    fit_first k ks worth limited moved =
        ((tick (time k) (at_first k ks worth).0, limited.0.point, moved k.point (inl refl)), fit_after k ks worth limited moved)

-- the later lines go on to the signal's end
pub joined_after : (to : Rational) (k : Knot Margin) (ks : List (Knot Margin)) → knots.stop (k ∷ ks) ≈ to → AreJoined (time k) to (lines_after k ks)
joined_after to k [] ends = ends
joined_after to k (n ∷ ks) ends = (same_refl (time k), same_refl (time n), joined_after to n ks ends)

-- ---- the knots of told lines describe the robustness

module _ (p : Subformula) (tr : Trace) where
  inside : (k n : Knot Margin) (ks : List (Knot Margin)) → AreTold (Robustness p tr) (lines_after k (n ∷ ks))
      → IsRobustInside p tr (plain_knot margin_shape k) (plain_piece margin_shape k n)
  inside k n ks told = (
    told.0.0,
    λ t above below.
        let v = value_at (margin_shape.function k.after) t in
        let is : knots.IsBetween margin_shape k n t v = record { after = above; before = below; worth = same_reflᵉ v } in
        (v, told.0.1 t above below, of_between margin_shape k n t v is),
  )

  goes_on : (to : Rational) (k n : Knot Margin) (ks : List (Knot Margin)) → Each (IsKnot margin_shape) (k ∷ n ∷ ks)
      → AreTold (Robustness p tr) (lines_after n ks) → knots.stop (n ∷ ks) ≈ to
      → PiecesGoOn p tr to (plain_knot margin_shape k) (plain_piece margin_shape k n) (pieces_of margin_shape n ks)
  goes_on to k n [] each told ends = ends
  goes_on to k n (m ∷ ks) each told ends = (
    λ line. each.0.needed (left_out_of_line margin_shape k n m each.0.rising each.1.0.rising line),
    inside n m ks told,
    told.1.0,
    goes_on to n m ks each.1 told.1.1 ends,
  )

  -- the parts behind a knot tell the margin
  pub tells_after : (to : Rational) (k n : Knot Margin) (ks : List (Knot Margin)) → Each (IsKnot margin_shape) (k ∷ n ∷ ks)
      → AreTold (Robustness p tr) (lines_after k (n ∷ ks)) → knots.stop (n ∷ ks) ≈ to
      → TellsAfter p tr to (plain_knot margin_shape k) (pieces_of margin_shape k (n ∷ ks))
  tells_after to k n ks each told ends = (inside k n ks told, told.1.0, goes_on to k n ks each told.1.1 ends)

  -- all parts of a signal's lines tell the margin
  pub tells_closed : (from to : Rational) (k : Knot Margin) (ks : List (Knot Margin)) → Each (IsKnot margin_shape) (k ∷ ks)
      → AreTold (Robustness p tr) (lines_of true (k ∷ ks)) → time k ≈ from → knots.stop (k ∷ ks) ≈ to
      → TellsClosed p tr from to (knots_of margin_shape (k ∷ ks))
  tells_closed from to k [] each told begins ends = (begins, told.0, inl (refl, same_trans (same_sym begins) ends))
  tells_closed from to k (n ∷ ks) each told begins ends = (begins, told.0, inr (tells_after to k n ks each told.1 ends))
