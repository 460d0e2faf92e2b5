-- Knots that describe a robustness, in other times and values.
use Rattle.std.proofs.Common.{◌≡◌, ℕ, ◌⊎◌, inl, inr, List, [], ◌∷◌, refl}
use Rattle.rational.specs.Time.{Rational, ◌≈◌, ◌<ʳ◌}
use Rattle.rational.specs.Extended.{Extended, ◌≈ᵉ◌, Affine, value_at, Passes}
use Rattle.rational.proofs.Order.{same_sym, same_trans, lt_of_lt_of_le, lt_of_le_of_lt, le_of_same, ge_of_same}
use Rattle.rational.proofs.AffineLemmas.{same_symᵉ, same_transᵉ, value_same}
use Rattle.stl_syntax.specs.Trace.{Trace, start, stop}
use Rattle.stl_syntax.specs.Formula.{Subformula}
use Rattle.stl_syntax.specs.SupInf.{Robustness}
use Rattle.stl_syntax.specs.Knots.{Knot, Piece, Knots, IsInside}
use Rattle.stl_syntax.specs.Texts.{IsNumberText, IsValueText, IsKnotLine, IsPieceLine, ArePieceLines, AreMarginLines}
use Rattle.stl_syntax.specs.Verdicts.{AreOneLine, IsRobustInside, PiecesGoOn, TellsAfter, TellsClosed, DescribesMargins}
use Rattle.stl_syntax.specs.declared.scale.Scale.{Scale}

-- a change of times and values, and the change back: both keep orders and lines, and carry the robustness of one formula on one trace to that of
-- the other
pub record Change (p : Subformula) (tr : Trace) (q : Subformula) (ur : Trace) : Type 0 where
  -- how times change
  pub time : Rational → Rational
  -- and back
  pub time_back : Rational → Rational
  -- how values change
  pub value : Extended → Extended
  -- and back
  pub value_back : Extended → Extended
  -- how lines change
  pub line : Affine → Affine
  -- and back
  pub line_back : Affine → Affine
  -- another way to write a time changes alike
  pub times_same : (t u : Rational) → t ≈ u → time t ≈ time u
  -- and so back
  pub times_back_same : (t u : Rational) → t ≈ u → time_back t ≈ time_back u
  -- the order of times stays
  pub times_lt : (t u : Rational) → t <ʳ u → time t <ʳ time u
  -- and so back
  pub times_back_lt : (t u : Rational) → t <ʳ u → time_back t <ʳ time_back u
  -- back and forth is the time itself
  pub round : (t : Rational) → time (time_back t) ≈ t
  -- and so forth and back
  pub round_back : (t : Rational) → time_back (time t) ≈ t
  -- another way to write a value changes alike
  pub values_same : (v w : Extended) → v ≈ᵉ w → value v ≈ᵉ value w
  -- and so back
  pub values_back_same : (v w : Extended) → v ≈ᵉ w → value_back v ≈ᵉ value_back w
  -- forth and back is the value itself
  pub round_value : (v : Extended) → value_back (value v) ≈ᵉ v
  -- a changed line has the changed value at the changed time
  pub lines : (f : Affine) (t : Rational) → value_at (line f) (time t) ≈ᵉ value (value_at f t)
  -- and so back
  pub lines_back : (f : Affine) (t : Rational) → value_at (line_back f) (time_back t) ≈ᵉ value_back (value_at f t)
  -- the robustness changes so
  pub robust : (t : Rational) (v : Extended) → Robustness p tr t v → Robustness q ur (time t) (value v)
  -- another way to write a time has the same robustness
  pub robust_of_times : (t u : Rational) (v : Extended) → t ≈ u → Robustness q ur t v → Robustness q ur u v
  -- the other trace starts at the changed start
  pub starts : start ur ≈ time (start tr)
  -- and ends at the changed end
  pub stops : stop ur ≈ time (stop tr)

module _ {p : Subformula} {tr : Trace} {q : Subformula} {ur : Trace} (c : Change p tr q ur) where
  -- the knots in the other times and values
  abbrev pub knot_by : Knot → Knot
  knot_by k = record { time = c.time k.time; value = c.value k.value }

  -- the piece in the other times and values
  abbrev pub piece_by : Piece → Piece
  piece_by x = record { from = c.value x.from; to = c.value x.to; next = record { time = c.time x.next.time; value = c.value x.next.value } }

  -- each piece
  abbrev pub pieces_by : List Piece → List Piece
  pieces_by [] = []
  pieces_by (x ∷ pieces) = piece_by x ∷ pieces_by pieces

  -- all knots
  abbrev pub knots_by : Knots → Knots
  knots_by knots = record { first = knot_by knots.first; pieces = pieces_by knots.pieces }

  passes_by : (f : Affine) (t : Rational) (v : Extended) → Passes f t v → Passes (c.line f) (c.time t) (c.value v)
  passes_by f t v h =
      same_transᵉ (c.value v) (c.value (value_at f t)) (value_at (c.line f) (c.time t)) (c.values_same v (value_at f t) h)
      (same_symᵉ (value_at (c.line f) (c.time t)) (c.value (value_at f t)) (c.lines f t))

  passes_back : (f : Affine) (t : Rational) (v : Extended) → Passes f (c.time t) (c.value v) → Passes (c.line_back f) t v
  passes_back f t v h =
      let a = same_symᵉ (c.value_back (c.value v)) v (c.round_value v) in
      let b = c.values_back_same (c.value v) (value_at f (c.time t)) h in
      let d = same_symᵉ (value_at (c.line_back f) (c.time_back (c.time t))) (c.value_back (value_at f (c.time t))) (c.lines_back f (c.time t)) in
      let e = value_same (c.line_back f) (c.round_back t) in
      same_transᵉ v (c.value_back (c.value v)) (value_at (c.line_back f) t) a
      (same_transᵉ (c.value_back (c.value v)) (c.value_back (value_at f (c.time t))) (value_at (c.line_back f) t) b
      (same_transᵉ (c.value_back (value_at f (c.time t))) (value_at (c.line_back f) (c.time_back (c.time t))) (value_at (c.line_back f) t) d e))

  one_line_back : (j : Knot) (x y : Piece) → AreOneLine (knot_by j) (piece_by x) (piece_by y) → AreOneLine j x y
  one_line_back j x y h = record {
    through = c.line_back h.through;
    begins = passes_back h.through j.time x.from h.begins;
    arrives = passes_back h.through x.next.time x.to h.arrives;
    here = passes_back h.through x.next.time x.next.value h.here;
    leaves = passes_back h.through x.next.time y.from h.leaves;
    ends = passes_back h.through y.next.time y.to h.ends;
  }

  -- the robustness between two knots
  inside_by : (k : Knot) (x : Piece) → IsRobustInside p tr k x → IsRobustInside q ur (knot_by k) (piece_by x)
  inside_by k x h = (c.times_lt k.time x.next.time h.0, at)
    where
      at : (t : Rational) → c.time k.time <ʳ t → t <ʳ c.time x.next.time
          → (r : Extended) × Robustness q ur t r × IsInside (knot_by k) (piece_by x) t r
      at t a b =
          let u = c.time_back t in
          let after = lt_of_le_of_lt (ge_of_same (c.round_back k.time)) (c.times_back_lt (c.time k.time) t a) in
          let before = lt_of_lt_of_le (c.times_back_lt t (c.time x.next.time) b) (le_of_same (c.round_back x.next.time)) in
          let (r, v, i) = h.1 u after before in (
            c.value r,
            c.robust_of_times (c.time u) t (c.value r) (c.round t) (c.robust u r v),
            record {
              after = a;
              before = b;
              through = c.line i.through;
              from = passes_by i.through k.time x.from i.from;
              to = passes_by i.through x.next.time x.to i.to;
              value = same_transᵉ (c.value r) (value_at (c.line i.through) (c.time u)) (value_at (c.line i.through) t) (passes_by i.through u r i.value)
                  (value_same (c.line i.through) (c.round t));
            },
          )

  go_on_by : (to to' : Rational) → to' ≈ c.time to → (j : Knot) (x : Piece) (pieces : List Piece)
      → PiecesGoOn p tr to j x pieces → PiecesGoOn q ur to' (knot_by j) (piece_by x) (pieces_by pieces)
  go_on_by to to' e j x [] h = same_trans (c.times_same x.next.time to h) (same_sym e)
  go_on_by to to' e j x (y ∷ pieces) h = (
    (λ n. h.0 (one_line_back j x y n)),
    inside_by x.next y h.1,
    c.robust y.next.time y.next.value h.2,
    go_on_by to to' e x.next y pieces h.3,
  )

  -- the pieces after a knot tell the robustness of the other
  pub after_by : (to to' : Rational) → to' ≈ c.time to → (k : Knot) (pieces : List Piece) → TellsAfter p tr to k pieces
      → TellsAfter q ur to' (knot_by k) (pieces_by pieces)
  after_by to to' e k [] h = h
  after_by to to' e k (x ∷ pieces) h = (inside_by k x h.0, c.robust x.next.time x.next.value h.1, go_on_by to to' e k x pieces h.2)

  -- and so do the knots of a stretch
  pub closed_by : (from to from' to' : Rational) → from' ≈ c.time from → to' ≈ c.time to → (knots : Knots) → TellsClosed p tr from to knots
      → TellsClosed q ur from' to' (knots_by knots)
  closed_by from to from' to' e f knots (begins, first, rest) = (
    same_trans (c.times_same knots.first.time from begins) (same_sym e),
    c.robust knots.first.time knots.first.value first,
    by_rest knots.pieces rest,
  )
    where
      by_rest : (pieces : List Piece) → ((pieces ≡ []) × (from ≈ to)) ⊎ TellsAfter p tr to knots.first pieces
          → ((pieces_by pieces ≡ []) × (from' ≈ to')) ⊎ TellsAfter q ur to' (knot_by knots.first) (pieces_by pieces)
      by_rest [] (inl h) = inl (refl, same_trans e (same_trans (c.times_same from to h.1) (same_sym f)))
      by_rest (x ∷ pieces) (inl h) = absurd (let e = h.0 in cc)
      by_rest pieces (inr h) = inr (after_by to to' f knots.first pieces h)

  -- the knots describe the robustness of the other
  pub describes_by : (knots : Knots) → DescribesMargins knots p tr → DescribesMargins (knots_by knots) q ur
  describes_by = closed_by (start tr) (stop tr) (start ur) (stop ur) c.starts c.stops

  -- texts that stay
  module _ (scale other : Scale) (times : (t : Rational) (text : List ℕ) → IsNumberText scale.time t text → IsNumberText other.time (c.time t) text)
      (values : (v : Extended) (text : List ℕ) → IsValueText scale.value v text → IsValueText other.value (c.value v) text) where
    knot_line_by : (k : Knot) (text : List ℕ) → IsKnotLine scale k text → IsKnotLine other (knot_by k) text
    knot_line_by k text (t, v, h, g, e) = (t, v, times k.time t h, values k.value v g, e)

    piece_line_by : (k : Knot) (x : Piece) (text : List ℕ) → IsPieceLine scale k x text → IsPieceLine other (knot_by k) (piece_by x) text
    piece_line_by k x text (a, b, from, to, h, g, l, m, e) =
        (a, b, from, to, times k.time a h, times x.next.time b g, values x.from from l, values x.to to m, e)

    -- the lines of pieces are those of the changed pieces
    pub piece_lines_by : (k : Knot) (pieces : List Piece) (text : List ℕ) → ArePieceLines scale k pieces text
        → ArePieceLines other (knot_by k) (pieces_by pieces) text
    piece_lines_by k [] text h = h
    piece_lines_by k (x ∷ pieces) text (piece, knot, later, h, g, l, e) =
        (piece, knot, later, piece_line_by k x piece h, knot_line_by x.next knot g, piece_lines_by x.next pieces later l, e)

    -- the lines of knots are those of the changed knots
    pub margin_lines_by : (knots : Knots) (text : List ℕ) → AreMarginLines scale knots text → AreMarginLines other (knots_by knots) text
    margin_lines_by knots text (first, later, h, g, e) =
        (first, later, knot_line_by knots.first first h, piece_lines_by knots.first knots.pieces later g, e)
