-- What a stream of margins writes by another clock.
use Rattle.std.proofs.Common.{◌≡◌, ℕ, ◌<◌, Bool, true, false, List, [], length, sym, subst, Some, None, MatchBool}
use Rattle.std.specs.Prelude.{int_lt}
use Rattle.rational.specs.Time.{Rational, ◌≈◌, whole}
use Rattle.rational.specs.Extended.{Extended}
use Rattle.rational.proofs.Order.{same_sym, same_trans}
use Rattle.stl_syntax.specs.Trace.{Header, Row, Trace, AreRows, start}
use Rattle.stl_syntax.specs.Formula.{Subformula}
use Rattle.stl_syntax.specs.Knots.{Knot, Piece}
use Rattle.stl_syntax.specs.Texts.{IsNumberText, IsValueText, ArePieceLines}
use Rattle.stl_syntax.specs.declared.scale.Scale.{Scale}
use Rattle.online_nodes.specs.MarginStream.{TellsLeftOpen, IsNewMargins, IsMarginStream}
use Rattle.bounds.proofs.NearTimes.{ahead}
use Rattle.unit_laws.proofs.Clocks.{clock, unclock, clock_same, unclock_same, unclock-clock}
use Rattle.unit_laws.proofs.FinerTraces.{rows_counted}
use Rattle.unit_laws.proofs.FinerValues.{stretchᵉ, shrinkᵉ}
use Rattle.unit_laws.proofs.KnotsChange.{Change, knot_by, pieces_by, knots_by, after_by, closed_by, piece_lines_by, margin_lines_by}
use Rattle.unit_laws.proofs.FinerKnots.{to_clock, from_clock}
use Rattle.unit_laws.proofs.Fronts.{less_shown}
use Rattle.unit_laws.proofs.FinerStreams.{q, other, rows_by, trace_of, other_of, so_far, match_by, KeepsNew, rows_text_by, rest_by}
use Rattle.unit_laws.proofs.FinerStreams.{GivesNew, rows_text_back, rest_back}

module _ (K o M : ℕ) (kp : 0 < K) (mp : 0 < M) (p : Subformula) (header : Header) (scale : Scale)
    (times : (t : Rational) (text : List ℕ) → IsNumberText header.scale.time t text → IsNumberText scale.time (clock K (ahead o) t) text)
    (values : (v : Extended) (text : List ℕ) → IsValueText header.scale.value v text → IsValueText scale.value (stretchᵉ M v) text) where
  abbrev r : Subformula
  r = q K o M kp mp p header scale

  abbrev change : (rows : List Row) → AreRows (length header.columns) rows
      → Change p (trace_of K o M kp mp p header scale rows) r (other_of K o M kp mp p header scale rows)
  change rows ok = to_clock K (ahead o) M kp mp (so_far K o M kp mp p header scale rows ok) p

  -- the lines of margins after one time, up to another
  abbrev IsText : List Row → Rational → Rational → List ℕ → Type 0
  IsText rows from to text =
      (k : Knot) × (pieces : List Piece) × TellsLeftOpen p (trace_of K o M kp mp p header scale rows) from to k pieces
      × ArePieceLines header.scale k pieces text

  -- and those by the clock
  abbrev IsTextBy : List Row → Rational → Rational → List ℕ → Type 0
  IsTextBy rows from to text =
      (k : Knot) × (pieces : List Piece) × TellsLeftOpen r (other_of K o M kp mp p header scale rows) from to k pieces × ArePieceLines scale k pieces text

  moved : (rows : List Row) → AreRows (length header.columns) rows → (from to from' to' : Rational) (text : List ℕ) → from' ≈ clock K (ahead o) from
      → to' ≈ clock K (ahead o) to → IsText rows from to text → IsTextBy rows from' to' text
  moved rows ok from to from' to' text f g (k, pieces, (begins, told), lines) =
      let c = change rows ok in (
        knot_by c k,
        pieces_by c pieces,
        (same_trans (clock_same K (ahead o) begins) (same_sym f), after_by c to to' g k pieces told),
        piece_lines_by c header.scale scale times values k pieces text lines,
      )

  -- the margins of what a front answers
  margins_keep : KeepsNew K o M kp mp p header scale (IsNewMargins p) (IsNewMargins r)
  margins_keep rows old None old' None text ok f g h = h
  margins_keep rows old None old' (Some j) text ok f g h = absurd g
  margins_keep rows old (Some i) old' None text ok f g h = absurd g
  margins_keep rows None (Some i) (Some b) (Some j) text ok f g h = absurd f
  margins_keep rows (Some a) (Some i) None (Some j) text ok f g h = absurd f
  margins_keep rows None (Some i) None (Some j) text ok f g (knots, told, lines) =
      let c = change rows ok in (
        knots_by c knots,
        closed_by c (start (trace_of K o M kp mp p header scale rows)) (whole i) (start (other_of K o M kp mp p header scale rows)) (whole j) c.starts g
            knots told,
        margin_lines_by c header.scale scale times values knots text lines,
      )
  margins_keep rows (Some a) (Some i) (Some b) (Some j) text ok f g h =
      let Fine : Type 0 = IsTextBy rows (whole b) (whole j) text in
      subst (λ x. MatchBool x Fine (text ≡ [])) (sym (less_shown K o kp a i b j f g))
      (match_by (IsText rows (whole a) (whole i) text) Fine (text ≡ []) (int_lt a i) (moved rows ok (whole a) (whole i) (whole b) (whole j) text f g) h)

  -- the text of a stream of margins
  pub margin_stream_by : (rows : List Row) (ended : Bool) (text : List ℕ) → AreRows (length header.columns) rows
      → IsMarginStream p header rows ended text
      → IsMarginStream r (other K o M kp mp p header scale) (rows_by K o M kp mp p header scale rows) ended text
  margin_stream_by rows false text ok h =
      rows_text_by K o M kp mp p header scale (IsNewMargins p) (IsNewMargins r) margins_keep [] None None rows text ok tt h
  margin_stream_by rows true text ok (_, (during, rest, a, b, is)) = (
    rows_counted K o M kp mp (length header.columns) rows ok,
    (
      during,
      rest,
      rows_text_by K o M kp mp p header scale (IsNewMargins p) (IsNewMargins r) margins_keep [] None None rows during ok tt a,
      rest_by K o M kp mp p header scale (IsNewMargins p) (IsNewMargins r) margins_keep rows rest ok b,
      is,
    ),
  )

module _ (K o M : ℕ) (kp : 0 < K) (mp : 0 < M) (p : Subformula) (header : Header) (scale : Scale)
    (times : (t : Rational) (text : List ℕ) → IsNumberText scale.time t text → IsNumberText header.scale.time (unclock K (ahead o) kp t) text)
    (values : (v : Extended) (text : List ℕ) → IsValueText scale.value v text → IsValueText header.scale.value (shrinkᵉ M mp v) text) where
  abbrev s : Subformula
  s = q K o M kp mp p header scale

  abbrev coarse : List Row → Trace
  coarse rows = trace_of K o M kp mp p header scale rows

  abbrev fine : List Row → Trace
  fine rows = other_of K o M kp mp p header scale rows

  abbrev change_back : (rows : List Row) → AreRows (length header.columns) rows → Change s (fine rows) p (coarse rows)
  change_back rows ok = from_clock K (ahead o) M kp mp (so_far K o M kp mp p header scale rows ok) p

  was_shown : (t u : Rational) → u ≈ clock K (ahead o) t → t ≈ unclock K (ahead o) kp u
  was_shown t u e = same_sym (same_trans (unclock_same K (ahead o) kp e) (unclock-clock K (ahead o) kp t))

  abbrev IsLeft : List Row → Rational → Rational → List ℕ → Type 0
  IsLeft rows from to text =
      (k : Knot) × (pieces : List Piece) × TellsLeftOpen p (coarse rows) from to k pieces × ArePieceLines header.scale k pieces text

  abbrev IsLeftBy : List Row → Rational → Rational → List ℕ → Type 0
  IsLeftBy rows from to text = (k : Knot) × (pieces : List Piece) × TellsLeftOpen s (fine rows) from to k pieces × ArePieceLines scale k pieces text

  taken_back : (rows : List Row) → AreRows (length header.columns) rows → (from to from' to' : Rational) (text : List ℕ) → from' ≈ clock K (ahead o) from
      → to' ≈ clock K (ahead o) to → IsLeftBy rows from' to' text → IsLeft rows from to text
  taken_back rows ok from to from' to' text f g (k, pieces, (begins, told), lines) =
      let c = change_back rows ok in (
        knot_by c k,
        pieces_by c pieces,
        (same_trans (unclock_same K (ahead o) kp begins) (same_sym (was_shown from from' f)), after_by c to' to (was_shown to to' g) k pieces told),
        piece_lines_by c scale header.scale times values k pieces text lines,
      )

  -- the margins of what a front answers by the clock are those of the rows
  margins_given : GivesNew K o M kp mp p header scale (λ rows. Unit {0}) (IsNewMargins p) (IsNewMargins s)
  margins_given rows old None old' None text ok range f g h = h
  margins_given rows old None old' (Some j) text ok range f g h = absurd g
  margins_given rows old (Some i) old' None text ok range f g h = absurd g
  margins_given rows None (Some i) (Some b) (Some j) text ok range f g h = absurd f
  margins_given rows (Some a) (Some i) None (Some j) text ok range f g h = absurd f
  margins_given rows None (Some i) None (Some j) text ok range f g (knots, told, lines) =
      let c = change_back rows ok in (
        knots_by c knots,
        closed_by c (start (fine rows)) (whole j) (start (coarse rows)) (whole i) c.starts (was_shown (whole i) (whole j) g) knots told,
        margin_lines_by c scale header.scale times values knots text lines,
      )
  margins_given rows (Some a) (Some i) (Some b) (Some j) text ok range f g h =
      let Coarse : Type 0 = IsLeft rows (whole a) (whole i) text in
      subst (λ x. MatchBool x Coarse (text ≡ [])) (less_shown K o kp a i b j f g)
      (match_by (IsLeftBy rows (whole b) (whole j) text) Coarse (text ≡ []) (int_lt b j)
      (taken_back rows ok (whole a) (whole i) (whole b) (whole j) text f g) h)

  -- the text of a stream of margins by the clock is that of the rows
  pub margin_stream_back : (rows : List Row) (ended : Bool) (text : List ℕ) → AreRows (length header.columns) rows
      → IsMarginStream s (other K o M kp mp p header scale) (rows_by K o M kp mp p header scale rows) ended text → IsMarginStream p header rows ended text
  margin_stream_back rows false text ok h =
      rows_text_back K o M kp mp p header scale (λ xs. Unit {0}) (IsNewMargins p) (IsNewMargins s) (λ xs x more h. h) margins_given [] None None rows
      text ok tt tt h
  margin_stream_back rows true text ok (_, (during, rest, a, b, is)) = (
    ok,
    (
      during,
      rest,
      rows_text_back K o M kp mp p header scale (λ xs. Unit {0}) (IsNewMargins p) (IsNewMargins s) (λ xs x more h. h) margins_given [] None None rows
          during ok tt tt a,
      rest_back K o M kp mp p header scale (λ xs. Unit {0}) (IsNewMargins p) (IsNewMargins s) (λ xs x more h. h) margins_given rows rest ok tt b,
      is,
    ),
  )
