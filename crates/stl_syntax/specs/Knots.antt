-- Piecewise affine functions of time as lists of knots; they name nothing of the language, and stand with the rational numbers.
pub use Rattle.rational.specs.Knots.{Knot, Piece, Knots, IsInside, ReadsFrom, Reads, AreKnotsFrom, AreKnots, last_knot, Spans}
