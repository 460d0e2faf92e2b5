-- What a network of streamed robustness gives out at each node, and what it holds.
use Rattle.std.specs.Prelude.{◌≡◌, ◌⊎◌, ℕ, ◌-◌, Bool, true, false, List, [], ◌∷◌, ◌++◌, length, drop, ℤ}
use Rattle.std.specs.Prelude.{int_lt, if◌then◌else◌, MatchBool, Option, Some, None, slice_get, pos}
use Rattle.rational.specs.Time.{Rational, Interval, IsIn, ◌<ʳ◌, whole}
use Rattle.rational.specs.Extended.{Extended}
use Rattle.stl_syntax.specs.Trace.{Header, Row, Trace, start, first_time, last_time}
use Rattle.stl_syntax.specs.Formula.{Subformula, subformula}
use Rattle.stl_syntax.specs.Knots.{Knot, Piece, Knots}
use Rattle.stl_syntax.specs.Verdicts.{TellsClosed}
use Rattle.online_nodes.specs.MarginStream.{TellsLeftOpen}
use Rattle.online_nodes.specs.StreamedWide.{front_at}
use Rattle.online_nodes.specs.Network.{reach_back, needed}
use Rattle.online_nodes.specs.Needed.{IsReader}
use Rattle.stl_syntax.specs.Texts.{IsKnotLine, IsPieceLine}
use Rattle.stl_syntax.specs.declared.scale.Scale.{Scale}
use Rattle.stl_syntax.specs.declared.node.Node.{Node}

-- a part of a robustness: a point with its value, or an open gap with the limits at its ends
pub data Part : Type 0 where
  point : Rational → Extended → Part
  gap : Rational → Rational → Extended → Extended → Part

-- the gaps and points of the pieces that begin at t, in order
abbrev pub parts_after : Rational → List Piece → List Part
parts_after t [] = []
parts_after t (p ∷ pieces) = gap t p.next.time p.from p.to ∷ point p.next.time p.next.value ∷ parts_after p.next.time pieces

-- the parts of a list of knots
abbrev pub parts_of : Knots → List Part
parts_of knots = point knots.first.time knots.first.value ∷ parts_after knots.first.time knots.pieces

-- the line of a part
abbrev pub IsPartLine : Scale → Part → List ℕ → Type 0
IsPartLine scale (point t v) text = IsKnotLine scale (record { time = t; value = v }) text
IsPartLine scale (gap a b v w) text =
    IsPieceLine scale (record { time = a; value = v }) (record { from = v; to = w; next = record { time = b; value = w } }) text

-- the front number as far as it is shown: not below the start
abbrev pub shown_number : ℕ → ℤ → Option ℤ
shown_number begin f = if int_lt f (pos begin) then None else Some f

-- the parts of what a front at `new` answers beyond `old`
abbrev pub AreNewParts : Subformula → Trace → Option ℤ → Option ℤ → List Part → Type 0
AreNewParts p tr old None parts = parts ≡ []
AreNewParts p tr None (Some new) parts = (knots : Knots) × TellsClosed p tr (start tr) (whole new) knots × (parts ≡ parts_of knots)
AreNewParts p tr (Some old) (Some new) parts =
    MatchBool (int_lt old new) ((k : Knot) × (pieces : List Piece) × TellsLeftOpen p tr (whole old) (whole new) k pieces × (parts ≡ parts_after k.time pieces))
    (parts ≡ [])

-- the parts that a node gives out over the rows in turn; `rows` came before, and `old` is what they answered
abbrev pub AreRowsParts : Subformula → Header → List Row → Option ℤ → List Row → List Part → Type 0
AreRowsParts p header rows old [] parts = parts ≡ []
AreRowsParts p header rows old (r ∷ more) parts =
    (here later : List Part)
    × AreNewParts p (record { header = header; rows = rows ++ r ∷ [] }) old (shown_number (first_time (rows ++ r ∷ [])) (front_at false (pos r.time) p)) here
    × AreRowsParts p header (rows ++ r ∷ []) (shown_number (first_time (rows ++ r ∷ [])) (front_at false (pos r.time) p)) more later
    × (parts ≡ here ++ later)

-- the parts that a node gave out for these rows, with the rest where the input has ended
abbrev pub AreEmittedParts : Subformula → Header → List Row → Bool → List Part → Type 0
AreEmittedParts p header rows false parts = AreRowsParts p header [] None rows parts
AreEmittedParts p header rows true parts =
    (during rest : List Part) × AreRowsParts p header [] None rows during
    × AreNewParts p (record { header = header; rows = rows })
    (shown_number (first_time rows) (front_at false (pos (last_time 0 rows)) p)) (Some (pos (last_time 0 rows))) rest
    × (parts ≡ during ++ rest)

-- some time of the part lies in the stretch
abbrev pub Touches : Interval → Part → Type 0
Touches stretch (point t v) = IsIn stretch t
Touches stretch (gap a b v w) = (t : Rational) × (a <ʳ t) × (t <ʳ b) × IsIn stretch t

-- those of the parts that touch the stretch
abbrev pub AreTouching : Interval → List Part → List Part → Type 0
AreTouching stretch [] held = held ≡ []
AreTouching stretch (x ∷ parts) held =
    (Touches stretch x × ((more : List Part) × AreTouching stretch parts more × (held ≡ x ∷ more))) ⊎ ((¬ Touches stretch x) × AreTouching stretch parts held)

-- the edge of node i, which is not the root: of what it gave out, the parts that its reader still needs
pub record IsMarginEdge (nodes : List Node) (header : Header) (rows : List Row) (ended : Bool) (i : ℕ) (held : List Part) : Type 0 where
  pub reader : ℕ
  pub reading : Node
  pub left : Bool
  pub at_reader : slice_get nodes reader ≡ Some reading
  pub reads : IsReader reading left i
  pub emitted : List Part
  pub is_emitted : AreEmittedParts (subformula nodes i) header rows ended emitted
  pub is_needed : (emitted ≡ []) × (held ≡ [])
      ⊎ AreTouching (needed (first_time rows) (front_at ended (pos (last_time 0 rows)) (subformula nodes i))
      (Some (front_at ended (pos (last_time 0 rows)) (subformula nodes reader))) (reach_back reading left)) emitted held

-- the root's edge: the parts that were not taken
abbrev pub IsMarginRootEdge : List Node → Header → List Row → Bool → ℕ → List Part → Type 0
IsMarginRootEdge nodes header rows ended taken held =
    (emitted : List Part) × AreEmittedParts (subformula nodes (length nodes - 1)) header rows ended emitted × (held ≡ drop taken emitted)
