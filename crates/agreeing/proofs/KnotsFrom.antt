-- Knots that tell a robustness up to the end of a stretch, from one of them on.
use Rattle.std.proofs.Common.{◌≡◌, ◌⊎◌, inl, inr, List, [], ◌∷◌}
use Rattle.rational.specs.Time.{Rational, ◌≤ʳ◌, ◌≈◌}
use Rattle.rational.proofs.Order.{le_of_lt, le_of_same, le_trans, same_trans}
use Rattle.stl_syntax.specs.Trace.{Trace}
use Rattle.stl_syntax.specs.Formula.{Subformula}
use Rattle.stl_syntax.specs.Knots.{Knot, Piece, AreKnotsFrom}
use Rattle.stl_syntax.specs.Verdicts.{IsRobust, IsRobustInside, PiecesGoOn, TellsAfter}

module _ (p : Subformula) (tr : Trace) (to : Rational) where
  -- from knot k on the knots tell the robustness, up to the end
  abbrev pub TellFrom : Knot → List Piece → Type 0
  TellFrom k [] = k.time ≈ to
  TellFrom k (q ∷ pieces) = IsRobustInside p tr k q × IsRobust p tr q.next × PiecesGoOn p tr to k q pieces

  -- so from the next one on
  pub go_on : (k : Knot) (q : Piece) (pieces : List Piece) → PiecesGoOn p tr to k q pieces → TellFrom q.next pieces
  go_on k q [] h = h
  go_on k q (next ∷ pieces) h = (h.1, h.2, h.3)

  -- from the first one on
  pub all_tell : (from : Rational) (first : Knot) (pieces : List Piece) → first.time ≈ from
      → ((pieces ≡ []) × (from ≈ to)) ⊎ TellsAfter p tr to first pieces → TellFrom first pieces
  all_tell from first [] e (inl (none, same)) = same_trans e same
  all_tell from first [] e (inr tells) = absurd tells
  all_tell from first (q ∷ pieces) e (inl (none, same)) = absurd (let k = none in cc)
  all_tell from first (q ∷ pieces) e (inr tells) = tells

  -- the times of the knots rise
  pub rise : (k : Knot) (pieces : List Piece) → TellFrom k pieces → AreKnotsFrom k pieces
  rise k [] h = tt
  rise k (q ∷ pieces) h = (h.0.0, rise q.next pieces (go_on k q pieces h.2))

  -- no knot lies after the end
  pub up_to_end : (k : Knot) (pieces : List Piece) → TellFrom k pieces → k.time ≤ʳ to
  up_to_end k [] h = le_of_same h
  up_to_end k (q ∷ pieces) h = le_trans (le_of_lt h.0.0) (up_to_end q.next pieces (go_on k q pieces h.2))
