-- The two forms in which a function of time over a closed stretch is held: a signal of knots, and a chain of pieces. What is said of the
-- signals of a formula's nodes is said of a form, and so of both.
use Rattle.std.specs.Prelude.{◌≡◌, true, false, List}
use Rattle.rational.specs.Time.{Rational}
use Rattle.rational.specs.Windows.{Function}
use Rattle.value_laws.specs.Members.{ShapeOf}
use Rattle.pl_signal.specs.declared.knot.Knot.{Knot}
use Rattle.pl_signal.specs.Knots as knots
use Rattle.pl_signal.specs.Limits as limits
use Rattle.pl_signal.specs.Moves as moves
use Rattle.pieces.specs.Chains as chains
use Rattle.pieces.specs.Chains.{Chain}
use Rattle.pieces.specs.Knots.{before, after}

-- what holds a function of time, made of shapes of P
pub record Form (X P : Type 0) : Type 1 where
  -- the kind of value
  pub shape : ShapeOf P
  -- its first time, and its last one
  pub start : X → Rational
  pub stop : X → Rational
  -- what it is worth at a time
  pub IsWorth : X → Function
  -- a shape that it is made of
  pub HasShape : X → P → Type 0
  -- its ends are within 2^34, and its values are infinite or within 2^31
  pub IsLimited : X → Type 0
  -- it goes from the one time to the other, and is worth at each time between what the function says there
  pub Tells : Function → Rational → Rational → X → Type 0

-- a limited chain from just before one time up to just after one
pub record IsClosed {P : Type 0} (shape : ShapeOf P) (chain : Chain P) : Type 0 where
  pub limited : chains.IsLimited shape chain
  pub first : chain.from.after ≡ false
  pub last : (chains.stop chain).after ≡ true

-- signals of knots
abbrev pub of_knots : {P : Type 0} → ShapeOf P → Form (List (Knot P)) P
of_knots {P} shape = record {
  shape = shape;
  start = λ x. knots.start x;
  stop = λ x. knots.stop x;
  IsWorth = knots.IsWorth shape;
  HasShape = λ x p. knots.HasShape x p;
  IsLimited = limits.IsLimited shape;
  Tells = moves.Tells shape;
}

-- chains of pieces
abbrev pub of_pieces : {P : Type 0} → ShapeOf P → Form (Chain P) P
of_pieces {P} shape = record {
  shape = shape;
  start = λ x. x.from.at;
  stop = λ x. (chains.stop x).at;
  IsWorth = chains.IsWorth shape;
  HasShape = λ x p. chains.HasShape x p;
  IsLimited = IsClosed shape;
  Tells = λ F from to x. chains.Tells shape F (before from) (after to) x;
}
