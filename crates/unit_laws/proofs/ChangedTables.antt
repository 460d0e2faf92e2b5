-- The table and the JSON entries of knots, in other times and values.
use Rattle.std.proofs.Common.{ℕ, List, [], ◌∷◌}
use Rattle.rational.specs.Time.{Rational}
use Rattle.rational.specs.Extended.{Extended}
use Rattle.serde_json.specs.Data.{Data, Items}
use Rattle.stl_syntax.specs.Trace.{Trace}
use Rattle.stl_syntax.specs.Formula.{Subformula}
use Rattle.stl_syntax.specs.Knots.{Knot, Piece, Knots}
use Rattle.stl_syntax.specs.Texts.{IsNumberText, IsValueText}
use Rattle.stl_syntax.specs.declared.scale.Scale.{Scale}
use Rattle.report.specs.Json.{IsKnotData, IsPieceData, ArePieceData, AreMarginData}
use Rattle.report.specs.Table.{AreRecords, IsTableText}
use Rattle.unit_laws.proofs.KnotsChange.{Change, knot_by, piece_by, pieces_by, knots_by}

module _ {p : Subformula} {tr : Trace} {q : Subformula} {ur : Trace} (c : Change p tr q ur) (scale other : Scale)
    (times : (t : Rational) (text : List ℕ) → IsNumberText scale.time t text → IsNumberText other.time (c.time t) text)
    (values : (v : Extended) (text : List ℕ) → IsValueText scale.value v text → IsValueText other.value (c.value v) text) where
  records_by : (k : Knot) (pieces : List Piece) (records : List (List (List ℕ))) → AreRecords scale k pieces records
      → AreRecords other (knot_by c k) (pieces_by c pieces) records
  records_by k [] records (time, value, t, v, e) = (time, value, times k.time time t, values k.value value v, e)
  records_by k (x ∷ pieces) records (time, value, from, to, later, t, v, begins, ends, rest, e) = (
    time,
    value,
    from,
    to,
    later,
    times k.time time t,
    values k.value value v,
    values x.from from begins,
    values x.to to ends,
    records_by x.next pieces later rest,
    e,
  )

  -- the table of knots is that of the changed knots
  pub table_by : (knots : Knots) (text : List ℕ) → IsTableText scale knots text → IsTableText other (knots_by c knots) text
  table_by knots text (records, h, e) = (records, records_by knots.first knots.pieces records h, e)

  knot_data_by : (k : Knot) (d : Data) → IsKnotData scale k d → IsKnotData other (knot_by c k) d
  knot_data_by k d (time, value, t, v, e) = (time, value, times k.time time t, values k.value value v, e)

  piece_data_by : (k : Knot) (x : Piece) (d : Data) → IsPieceData scale k x d → IsPieceData other (knot_by c k) (piece_by c x) d
  piece_data_by k x d (a, b, from, to, s, t, begins, ends, e) =
      (a, b, from, to, times k.time a s, times x.next.time b t, values x.from from begins, values x.to to ends, e)

  pieces_data_by : (k : Knot) (pieces : List Piece) (items : Items) → ArePieceData scale k pieces items
      → ArePieceData other (knot_by c k) (pieces_by c pieces) items
  pieces_data_by k [] items h = h
  pieces_data_by k (x ∷ pieces) items (piece, knot, later, h, g, rest, e) =
      (piece, knot, later, piece_data_by k x piece h, knot_data_by x.next knot g, pieces_data_by x.next pieces later rest, e)

  -- and so are their entries
  pub margin_data_by : (knots : Knots) (items : Items) → AreMarginData scale knots items → AreMarginData other (knots_by c knots) items
  margin_data_by knots items (knot, later, h, rest, e) =
      (knot, later, knot_data_by knots.first knot h, pieces_data_by knots.first knots.pieces later rest, e)
