-- A window that has met constants alone tells up to where it reaches past them, and takes a constant up by its value under the high end.
use Rattle.std.proofs.Common.{◌≡◌, ◌^◌, inl, inr, refl, IsTrue, None}
use Rattle.std.specs.Prelude.{◌-ℤ◌}
use Rattle.rational.specs.Time.{add, whole}
use Rattle.rational.specs.Time.{Rational}
use Rattle.rational.specs.Extended.{value_at, ◌≈ᵉ◌}
use Rattle.rational.specs.Affine.{HasBoundedLevel, IsSteady}
use Rattle.rational.specs.Places.{Place, AtMost, Same}
use Rattle.rational.proofs.AffineLemmas.{bounded_same}
use Rattle.rational.proofs.Sames.{symᵉ, transᵉ}
use Rattle.rational.proofs.PlaceLemmas.{after_same, between}
use Rattle.frac128.specs.Cuts.{place}
use Rattle.frac128.specs.declared.cut.Cut.{Cut}
use Rattle.value_laws.specs.Members.{ShapeOf, ShapeLaws}
use Rattle.pieces.specs.declared.piece.Piece.{Piece}
use Rattle.pieces.specs.declared.reach.Way.{Way}
use Rattle.pieces.specs.declared.sliding.Sliding.{Sliding}
use Rattle.pieces.specs.Chains.{Chain, end, stop}
use Rattle.pieces.specs.Constants.{CountsAll, Fits, IsFirstBest}
use Rattle.pieces.specs.ConstantsMet.{HasReachedPast, ReachesPast, TellsBest}
use Rattle.pieces.specs.Windows.{CanSlide, IsLeft, IsPieceFrom, IsReached}
use Rattle.pieces.proofs.Ends.{at_most_of_same}
use Rattle.pieces.proofs.PieceEnds.{reach_within}
use Rattle.pieces.proofs.SeenBest.{all_seen}

module _ {P : Type 0} (shape : ShapeOf P) (laws : ShapeLaws shape) (chain : Chain P) (way : Way) (met next : Place) (old : Sliding P)
    (known : ReachesPast shape chain way met old) (reached : IsReached way met next) where
  -- what was met is all that is seen up to there
  pub tells_reached : AtMost (stop old.out) next → TellsBest shape chain way met next old
  tells_reached order = record {
    has = known.has;
    order = order;
    inside = reach_within shape chain way met next reached known.ahead;
    best = λ t v u b. all_seen shape laws chain way known.has.can.rising met t v (reached.before t u) b;
  }

  -- and from there on the window reaches past it
  pub reached_past : (new : Sliding P) → CountsAll shape chain way met new → IsFirstBest shape way.side new.steps.items → Same (stop new.out) next
      → HasReachedPast shape chain way met new
  reached_past new all first ends = record {
    has = record { can = known.has.can; to = known.has.to; within = known.has.within; all = all; first = first };
    reached = inr (λ t u. reached.before t (at_most_of_same (stop new.out) next ends t u));
    entered = λ t a u. reached.after t (after_same (stop new.out) next t ends a) u;
  }

-- a constant under the window's high end
module _ {P : Type 0} (shape : ShapeOf P) (chain : Chain P) (way : Way) (begin : Place) (p : Piece P) (can : CanSlide shape chain way.over)
    (is : IsPieceFrom shape chain begin p) (steady : IsSteady (shape.function p.shape)) (l : P)
    (moved : (t : Rational) → value_at (shape.function l) t ≈ᵉ value_at (shape.function p.shape) (add t (whole way.over.high))) where
  value_there : (t u : Rational) → value_at (shape.function l) t ≈ᵉ value_at (shape.function p.shape) u
  value_there t u = transᵉ (moved t) (steady (add t (whole way.over.high)) u)

  -- is one
  pub steady_there : IsSteady (shape.function l)
  steady_there t u = transᵉ (value_there t u) (symᵉ (value_there u u))

  -- with a level
  pub level_there : HasBoundedLevel (2 ^ 31) (shape.function l)
  level_there k t = let m = between begin (end p) is.order in bounded_same (2 ^ 31) (value_at (shape.function l) t) (value_at (shape.function p.shape) m.0)
      (value_there t m.0) (can.limited.values m.0 (value_at (shape.function p.shape) m.0) (is.worth m.0 m.1 m.2))

  -- and has the value of the piece until the window leaves that
  pub fits_there : (until : Cut) → IsLeft way (end p) (place until)
      → (IsTrue (shape.moves l) → IsTrue (shape.moves p.shape) × (shape.base l ≡ shape.base p.shape -ℤ way.over.high))
      → Fits shape chain way p (record { until = until; shape = l; other = None })
  fits_there until left base = record {
    constant = (refl, steady_there);
    left = left;
    value = value_there;
    moved = λ m. let b = base m in (p.shape, is.has, b.0, inl b.1);
  }
