-- Piecewise affine functions of time as lists of knots, and how a value is read from one.
use Rattle.std.specs.Prelude.{◌⊎◌, List, [], ◌∷◌}
use Rattle.rational.specs.Time.{Rational, ◌<ʳ◌, ◌≈◌}
use Rattle.rational.specs.Extended.{Extended, ◌≈ᵉ◌, Affine, Passes}

-- a time and the value there
pub record Knot : Type 0 where
  pub time : Rational
  pub value : Extended

-- the two limits of an open piece, and the knot that ends it
pub record Piece : Type 0 where
  pub from : Extended
  pub to : Extended
  pub next : Knot

-- the first knot, and the pieces after it
pub record Knots : Type 0 where
  pub first : Knot
  pub pieces : List Piece

-- strictly inside the piece after knot k the affine or constantly infinite function through its two limits has the value v at t
pub record IsInside (k : Knot) (p : Piece) (t : Rational) (v : Extended) : Type 0 where
  pub after : k.time <ʳ t
  pub before : t <ʳ p.next.time
  pub through : Affine
  pub from : Passes through k.time p.from
  pub to : Passes through p.next.time p.to
  pub value : Passes through t v

-- the knots from k on read at t give the value v
abbrev pub ReadsFrom : Knot → List Piece → Rational → Extended → Type 0
ReadsFrom k [] t v = (t ≈ k.time) × (v ≈ᵉ k.value)
ReadsFrom k (p ∷ pieces) t v = ((t ≈ k.time) × (v ≈ᵉ k.value)) ⊎ IsInside k p t v ⊎ ReadsFrom p.next pieces t v

-- the knots read at t give the value v
abbrev pub Reads : Knots → Rational → Extended → Type 0
Reads knots t v = ReadsFrom knots.first knots.pieces t v

-- the times rise strictly
abbrev pub AreKnotsFrom : Knot → List Piece → Type 0
AreKnotsFrom k [] = Unit {0}
AreKnotsFrom k (p ∷ pieces) = (k.time <ʳ p.next.time) × AreKnotsFrom p.next pieces

-- the times of the knots rise strictly
abbrev pub AreKnots : Knots → Type 0
AreKnots knots = AreKnotsFrom knots.first knots.pieces

-- the last knot
abbrev pub last_knot : Knot → List Piece → Knot
last_knot k [] = k
last_knot k (p ∷ pieces) = last_knot p.next pieces

-- the knots rise from the one time to the other
pub record Spans (from to : Rational) (knots : Knots) : Type 0 where
  pub begins : knots.first.time ≈ from
  pub ends : (last_knot knots.first knots.pieces).time ≈ to
  pub rising : AreKnots knots

-- the piece before the knot `before.next`, the value there and the piece after it are of one affine or one constantly infinite function
pub record AreOneLine (j : Knot) (before : Piece) (after : Piece) : Type 0 where
  pub through : Affine
  pub begins : Passes through j.time before.from
  pub arrives : Passes through before.next.time before.to
  pub here : Passes through before.next.time before.next.value
  pub leaves : Passes through before.next.time after.from
  pub ends : Passes through after.next.time after.to

-- no knot between the first and the last can be left out
abbrev pub AreNeededFrom : Knot → List Piece → Type 0
AreNeededFrom k [] = Unit {0}
AreNeededFrom k (p ∷ []) = Unit {0}
AreNeededFrom k (p ∷ q ∷ pieces) = (¬ AreOneLine k p q) × AreNeededFrom p.next (q ∷ pieces)

abbrev pub AreNeeded : Knots → Type 0
AreNeeded knots = AreNeededFrom knots.first knots.pieces
