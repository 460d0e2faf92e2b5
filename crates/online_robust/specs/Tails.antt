-- The end of a stretch that goes onto an edge line by line: what of its signal is on the edge, and what is not yet.
use Rattle.std.specs.Prelude.{◌≡◌, ◌≢◌, ℕ, Bool, List, [], ◌∷◌, ◌++◌, length, Option, Some, None}
use Rattle.rational.specs.Time.{Rational}
use Rattle.frac128.specs.Value.{value}
use Rattle.frac128.specs.declared.frac.Frac.{Frac}
use Rattle.value_laws.specs.Kinds.{margin_shape}
use Rattle.value_laws.specs.declared.margin.Margin.{Margin}
use Rattle.pl_signal.specs.declared.joining.Side.{Side}
use Rattle.pl_signal.specs.declared.knot.Knot.{Knot}
use Rattle.pl_signal.specs.Building.{GoesOn}
use Rattle.pl_signal.specs.Joining.{Joins}
use Rattle.pl_signal.specs.Knots.{IsSignal}
use Rattle.online_robust.specs.Held.{Held, edge_at, with_more}
use Rattle.online_robust.specs.Putting.{lines_of, HasPut}
use Rattle.online_robust.specs.ReadLines.{Loses, LosesAtBoth}
use Rattle.online_robust.specs.declared.line.MarginLine.{MarginLine}
use Rattle.online_robust.specs.declared.line.MarginLine.TheVariants.{Point, Gap}
use Rattle.online_robust.specs.declared.line.Reached.{Reached}
use Rattle.online_robust.specs.declared.tail.Open.{Open}
use Rattle.online_robust.specs.declared.tail.Tail.{Tail}

-- the knot with which a signal ends
abbrev pub knot_of : Reached → Knot Margin
knot_of r = record { time = r.at; point = r.value; after = r.value }

-- the knot after which a gap comes
abbrev pub opening : Open → Margin → Knot Margin
opening g v = record { time = g.from; point = v; after = g.piece }

-- the lines that are not on the edge yet: the last gap with the point that ends it, if there is a gap
abbrev pub lines_left : Option Open → Reached → List MarginLine
lines_left None end = []
lines_left (Some g) end = Gap g.from end.at g.piece ∷ Point end.at end.value ∷ []

-- the signal of these knots ends with the gap and the point, and before it these lines are on the edge, with the point at which it begins
-- or without
abbrev pub EndsBy : Option Open → Reached → Bool → List (Knot Margin) → List MarginLine → Type 0
EndsBy None end first ks put = (ks ≡ knot_of end ∷ []) × (put ≡ lines_of first (knot_of end ∷ []))
EndsBy (Some g) end first ks put =
    (xs : List (Knot Margin)) × (v : Margin) × (ks ≡ xs ++ opening g v ∷ knot_of end ∷ []) × (put ≡ lines_of first (xs ++ opening g v ∷ []))

abbrev pub IsTail : Tail → Bool → List (Knot Margin) → List MarginLine → Type 0
IsTail t first ks put = EndsBy t.gap t.end first ks put

-- as the tail goes on its signal does so, and these lines come onto the edge
abbrev pub GoesAs : Tail → Tail → List MarginLine → (List (Knot Margin) → List (Knot Margin) → Type 0) → Type 0
GoesAs old new more On = (first : Bool) (ks : List (Knot Margin)) (put : List MarginLine) → IsTail old first ks put → IsSignal margin_shape ks
    → (ks' : List (Knot Margin)) × On ks ks' × IsTail new first ks' (put ++ more)

-- with a margin up to a time, and the value there
pub record HasGoneOn (piece : Margin) (to : Frac) (v : Margin) (node : ℕ) (t : Tail) (old : Held) (t' : Tail) (new : Held) : Type 0 where
  pub more : List MarginLine
  pub put : HasPut node more old new
  pub end : t'.end ≡ record { at = to; value = v }
  pub on : GoesAs t t' more (λ ks ks'. GoesOn margin_shape ks piece to v ks')

-- with the least or the greatest of two margins
pub record HasJoined (side : Side) (p q : Margin) (to : Frac) (v : Margin) (node : ℕ) (t : Tail) (old : Held) (t' : Tail) (new : Held) : Type 0 where
  pub more : List MarginLine
  pub put : HasPut node more old new
  pub end : t'.end ≡ record { at = to; value = v }
  pub on : GoesAs t t' more (λ ks ks'. Joins margin_shape side ks p q to v ks')

-- two edges lost lines that end by the limit, and another one got lines
pub record Changes (limit : Rational) (i k node : ℕ) (more : List MarginLine) (old new : Held) : Type 0 where
  pub left : Loses limit (edge_at old i) (edge_at new i)
  pub right : Loses limit (edge_at old k) (edge_at new k)
  pub here : edge_at new node ≡ with_more (edge_at old node) more
  pub others : (j : ℕ) → j ≢ i → j ≢ k → j ≢ node → edge_at new j ≡ edge_at old j
  pub edges : length new.edges ≡ length old.edges
  pub start : new.start ≡ old.start

-- a turn went on from the inputs, which stand on two edges
pub record HasTurned (i k node : ℕ) (On : List (Knot Margin) → List (Knot Margin) → Type 0) (t : Tail) (old : Held) (t' : Tail) (new : Held) : Type 0 where
  pub more : List MarginLine
  pub changes : Changes (value t'.end.at) i k node more old new
  pub on : GoesAs t t' more On

-- so did the turns of a stretch so far
pub record IsUnderWay (limit : Rational) (i k node : ℕ) (first : Bool) (Is : List (Knot Margin) → Type 0) (old : Held) (t : Tail) (new : Held) : Type 0 where
  pub knots : List (Knot Margin)
  pub put : List MarginLine
  pub tail : IsTail t first knots put
  pub signal : IsSignal margin_shape knots
  pub changes : Changes limit i k node put old new
  pub is : Is knots

-- the inputs lost lines that end by the limit, and then the node's edge got those of a signal
pub record IsGivenOut (limit : Rational) (i k node : ℕ) (first : Bool) (Is : List (Knot Margin) → Held → Type 0) (old new : Held) : Type 0 where
  pub swept : List (Knot Margin)
  pub between : Held
  pub is : Is swept between
  pub lost : LosesAtBoth limit i k old between
  pub put : HasPut node (lines_of first swept) between new
