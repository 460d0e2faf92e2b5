use Rattle.std.proofs.Common.{◌≡◌, ◌<◌, ℕ, Some}
use Rattle.std.specs.Prelude.{slice_get}
use Rattle.rational.specs.Affine.{IsSteady}
use Rattle.pieces.specs.declared.piece.Piece.{Piece}
use Rattle.pieces.proofs.levels.are_levels.Given as goal

abbrev pub invariant-loop-i : goal.invariant-loop-i
invariant-loop-i g l = record { steady : (j : ℕ) (p : Piece _) → j < l.i → slice_get l.s.pieces j ≡ Some p → IsSteady (g.P.Shape.function p.shape) }
