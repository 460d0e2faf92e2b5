-- What streams owe for the rows of a delayed trace.
use Rattle.std.proofs.Common.{◌≡◌, ℕ, Bool, true, false, List, [], ◌∷◌, map, length, append-nil, refl, sym, subst, arith, ℤ}
use Rattle.std.proofs.Common.{Some, None, MatchBool}
use Rattle.std.specs.Prelude.{int_lt}
use Rattle.rational.specs.Time.{Rational, ◌≈◌, Interval, whole, later, closed, left_open}
use Rattle.rational.specs.Extended.{Extended, minus_infinity, finite, infinity, ◌≈ᵉ◌}
use Rattle.rational.proofs.Order.{same_sym, same_trans}
use Rattle.rational.proofs.AffineLemmas.{same_reflᵉ, finite_same}
use Rattle.stl_syntax.specs.Trace.{Header, Row, Trace, AreRows, row_time, start}
use Rattle.stl_syntax.specs.Formula.{Subformula, root}
use Rattle.stl_syntax.specs.Knots.{Knot, Piece}
use Rattle.stl_syntax.specs.EarlyText.{IsEarlyText, at_row, at_end, not_yet}
use Rattle.stl_syntax.specs.Stream.{IsStretchText, IsNewText, IsStreamText}
use Rattle.stl_syntax.specs.Texts.{IsNumberText, ArePieceLines}
use Rattle.stl_syntax.specs.Verdicts.{Describes}
use Rattle.online_nodes.specs.MarginStream.{TellsLeftOpen, IsNewMargins, IsMarginStream}
use Rattle.trace_stream.specs.Streams.{verdicts, early, margins}
use Rattle.stl_syntax.specs.Scaling.{nodes_for}
use Rattle.answer_lines.proofs.KeptTexts.{number_of_same}
use Rattle.unit_laws.specs.Origins.{delayed_row, IsDelayedKnot, AreDelayedPieces}
use Rattle.unit_laws.specs.StreamOrigins.{IsStretchLater, IsNewTextLater, IsNewMarginsLater, IsEarlyTextLater, at_row_later, at_end_too, not_yet_too}
use Rattle.unit_laws.specs.StreamOrigins.{StreamTextLater, StreamsMove}
use Rattle.bounds.proofs.NearTimes.{ahead, behind}
use Rattle.unit_laws.proofs.Clocks.{clock, unclock, clock_same, unclock_same, clock-unclock, unclock-clock}
use Rattle.unit_laws.proofs.FinerTrees.{finer_tree}
use Rattle.unit_laws.proofs.FinerTraces.{row_by}
use Rattle.unit_laws.proofs.FinerValues.{shrinkᵉ}
use Rattle.unit_laws.proofs.FinerVerdicts.{verdicts_by, stretch_described}
use Rattle.unit_laws.proofs.VerdictsBack.{start_back}
use Rattle.unit_laws.proofs.KnotsChange.{Change, knot_by, pieces_by, knots_by, after_by, closed_by}
use Rattle.unit_laws.proofs.FinerKnots.{from_clock}
use Rattle.unit_laws.proofs.Fronts.{less_shown}
use Rattle.unit_laws.proofs.FinerStreams.{q, rows_by, trace_of, other_of, so_far, match_by, GivesNew, rows_text_back, rest_back}
use Rattle.unit_laws.proofs.FinerEarly.{row_same, none_back, first_back}
use Rattle.unit_laws.proofs.OriginRows.{same_tree, some_one, rows_delayed, counts_back, clock_later, behind_later}
use Rattle.unit_laws.proofs.OriginVerdicts.{were_delayed}

part_one : (v : Extended) → v ≈ᵉ shrinkᵉ 1 some_one v
part_one minus_infinity = same_reflᵉ minus_infinity
part_one (finite x) = finite_same (record { same = omega arith })
part_one infinity = same_reflᵉ infinity

module _ (d : ℕ) (p : Subformula) (header : Header) where
  abbrev r : Subformula
  r = q 1 d 1 some_one some_one p header header.scale

  abbrev first : List Row → Trace
  first rows = trace_of 1 d 1 some_one some_one p header header.scale rows

  abbrev second : List Row → Trace
  second rows = other_of 1 d 1 some_one some_one p header header.scale rows

  -- a time is by the clock that shows -d at 0 what it was
  was_shown : (t u : Rational) → u ≈ clock 1 (ahead d) t → t ≈ clock 1 (behind d) u
  was_shown t u e = same_sym (same_trans (clock_same 1 (behind d) e) (behind_later d t))

  -- ---- verdicts

  stretch_later : (rows : List Row) → AreRows (length header.columns) rows → (on shown : Interval) → shown.from ≈ clock 1 (ahead d) on.from
      → on.from_in ≡ shown.from_in → shown.to ≈ clock 1 (ahead d) on.to → on.to_in ≡ shown.to_in → (text : List ℕ)
      → IsStretchText r (second rows) shown text → IsStretchLater d p (first rows) on text
  stretch_later rows ok on shown a i b j text (told, describes, lines) =
      let c = counts_back d (so_far 1 d 1 some_one some_one p header header.scale rows ok) in (
        verdicts_by 1 (behind d) some_one told,
        told,
        subst (λ t. Describes (verdicts_by 1 (behind d) some_one told) t (first rows) on) (same_tree p)
            (subst (λ t. Describes (verdicts_by 1 (behind d) some_one told) t (first rows) on) (same_tree (finer_tree 1 1 p))
            (stretch_described 1 (behind d) 1 some_one some_one c r shown on (was_shown on.from shown.from a) i (was_shown on.to shown.to b) j told describes)),
        were_delayed d told,
        lines,
      )

  verdicts_given : GivesNew 1 d 1 some_one some_one p header header.scale (λ rows. Unit {0}) (IsNewTextLater d p) (IsNewText r)
  verdicts_given rows old None old' None text ok range f g h = h
  verdicts_given rows old None old' (Some j) text ok range f g h = absurd g
  verdicts_given rows old (Some i) old' None text ok range f g h = absurd g
  verdicts_given rows None (Some i) (Some b) (Some j) text ok range f g h = absurd f
  verdicts_given rows (Some a) (Some i) None (Some j) text ok range f g h = absurd f
  verdicts_given rows None (Some i) None (Some j) text ok range f g h =
      stretch_later rows ok (closed (start (first rows)) (whole i)) (closed (start (second rows)) (whole j))
      (so_far 1 d 1 some_one some_one p header header.scale rows ok).starts refl g refl text h
  verdicts_given rows (Some a) (Some i) (Some b) (Some j) text ok range f g h =
      let on = left_open (whole a) (whole i) in
      let shown = left_open (whole b) (whole j) in
      subst (λ x. MatchBool x (IsStretchLater d p (first rows) on text) (text ≡ [])) (less_shown 1 d some_one a i b j f g)
      (match_by (IsStretchText r (second rows) shown text) (IsStretchLater d p (first rows) on text) (text ≡ []) (int_lt b j)
      (stretch_later rows ok on shown f refl g refl text) h)

  -- ---- margins

  abbrev change : (rows : List Row) → AreRows (length header.columns) rows → Change r (second rows) p (first rows)
  change rows ok = from_clock 1 (ahead d) 1 some_one some_one (so_far 1 d 1 some_one some_one p header header.scale rows ok) p

  unshown : (t u : Rational) → u ≈ clock 1 (ahead d) t → t ≈ unclock 1 (ahead d) some_one u
  unshown t u e = same_sym (same_trans (unclock_same 1 (ahead d) some_one e) (unclock-clock 1 (ahead d) some_one t))

  knot_later : (rows : List Row) (ok : AreRows (length header.columns) rows) (k : Knot) → IsDelayedKnot d (knot_by (change rows ok) k) k
  knot_later rows ok k = record {
    time = same_trans (same_sym (clock-unclock 1 (ahead d) some_one k.time)) (clock_later d (unclock 1 (ahead d) some_one k.time));
    value = part_one k.value;
  }

  pieces_later : (rows : List Row) (ok : AreRows (length header.columns) rows) (pieces : List Piece)
      → AreDelayedPieces d (pieces_by (change rows ok) pieces) pieces
  pieces_later rows ok [] = refl
  pieces_later rows ok (x ∷ pieces) =
      (x, pieces, refl, part_one x.from, part_one x.to, knot_later rows ok x.next, pieces_later rows ok pieces)

  abbrev IsOpen : List Row → ℤ → ℤ → List ℕ → Type 0
  IsOpen rows b j text =
      (k : Knot) × (pieces : List Piece) × TellsLeftOpen r (second rows) (whole b) (whole j) k pieces × ArePieceLines header.scale k pieces text

  abbrev IsOpenLater : List Row → ℤ → ℤ → List ℕ → Type 0
  IsOpenLater rows a i text =
      (k l : Knot) × (ps qs : List Piece) × TellsLeftOpen p (first rows) (whole a) (whole i) k ps × IsDelayedKnot d k l × AreDelayedPieces d ps qs
      × ArePieceLines header.scale l qs text

  open_later : (rows : List Row) → AreRows (length header.columns) rows → (a i b j : ℤ) (text : List ℕ) → whole b ≈ clock 1 (ahead d) (whole a)
      → whole j ≈ clock 1 (ahead d) (whole i) → IsOpen rows b j text → IsOpenLater rows a i text
  open_later rows ok a i b j text f g (k, pieces, (begins, told), lines) =
      let c = change rows ok in (
        knot_by c k,
        k,
        pieces_by c pieces,
        pieces,
        (
          same_trans (unclock_same 1 (ahead d) some_one begins) (same_sym (unshown (whole a) (whole b) f)),
          after_by c (whole j) (whole i) (unshown (whole i) (whole j) g) k pieces told,
        ),
        knot_later rows ok k,
        pieces_later rows ok pieces,
        lines,
      )

  margins_given : GivesNew 1 d 1 some_one some_one p header header.scale (λ rows. Unit {0}) (IsNewMarginsLater d p) (IsNewMargins r)
  margins_given rows old None old' None text ok range f g h = h
  margins_given rows old None old' (Some j) text ok range f g h = absurd g
  margins_given rows old (Some i) old' None text ok range f g h = absurd g
  margins_given rows None (Some i) (Some b) (Some j) text ok range f g h = absurd f
  margins_given rows (Some a) (Some i) None (Some j) text ok range f g h = absurd f
  margins_given rows None (Some i) None (Some j) text ok range f g (knots, told, lines) =
      let c = change rows ok in (
        knots_by c knots,
        knots,
        closed_by c (start (second rows)) (whole j) (start (first rows)) (whole i) c.starts (unshown (whole i) (whole j) g) knots told,
        (knot_later rows ok knots.first, pieces_later rows ok knots.pieces),
        lines,
      )
  margins_given rows (Some a) (Some i) (Some b) (Some j) text ok range f g h =
      let Moved : Type 0 = IsOpenLater rows a i text in
      subst (λ x. MatchBool x Moved (text ≡ [])) (less_shown 1 d some_one a i b j f g)
      (match_by (IsOpen rows b j text) Moved (text ≡ []) (int_lt b j) (open_later rows ok a i b j text f g) h)

  -- ---- the early verdict

  early_later : (rows : List Row) (ended : Bool) (text : List ℕ) → AreRows (length header.columns) rows
      → IsEarlyText r header (rows_by 1 d 1 some_one some_one p header header.scale rows) ended text → IsEarlyTextLater d p header rows ended text
  early_later rows ended text ok (at_row before after x holds time e firsts written is) =
      let c = first_back 1 d 1 some_one some_one p header header.scale rows before after x holds ok e firsts in
      let row = row_by 1 d 1 some_one some_one c.at in
      at_row_later c.before c.after c.at holds time c.is c.first
      (number_of_same header.scale.time (row_time row) (later (row_time c.at) d) time
      (same_trans (same_sym (row_same 1 d 1 some_one some_one p header header.scale c.at)) (clock_later d (row_time c.at)))
      (subst (λ y. IsNumberText header.scale.time (row_time y) time) c.here written)) is
  early_later rows ended text ok (at_end line end all none line_is is) =
      at_end_too line end ok (none_back 1 d 1 some_one some_one p header header.scale rows rows [] (sym (append-nil rows)) ok none)
      (start_back 1 (ahead d) 1 some_one some_one (so_far 1 d 1 some_one some_one p header header.scale rows ok) p line line_is) is
  early_later rows ended text ok (not_yet end none is) =
      not_yet_too end (none_back 1 d 1 some_one some_one p header header.scale rows rows [] (sym (append-nil rows)) ok none) is

  -- ---- the streams

  pub verdict_stream_later : (rows : List Row) (ended : Bool) (text : List ℕ) → AreRows (length header.columns) rows
      → IsStreamText r header (rows_by 1 d 1 some_one some_one p header header.scale rows) ended text
      → StreamTextLater d verdicts p header rows ended text
  verdict_stream_later rows false text ok h =
      rows_text_back 1 d 1 some_one some_one p header header.scale (λ xs. Unit {0}) (IsNewTextLater d p) (IsNewText r) (λ xs x more k. k) verdicts_given
      [] None None rows text ok tt tt h
  verdict_stream_later rows true text ok (_, (during, rest, line, a, b, s, is)) = (
    ok,
    (
      during,
      rest,
      line,
      rows_text_back 1 d 1 some_one some_one p header header.scale (λ xs. Unit {0}) (IsNewTextLater d p) (IsNewText r) (λ xs x more k. k) verdicts_given
          [] None None rows during ok tt tt a,
      rest_back 1 d 1 some_one some_one p header header.scale (λ xs. Unit {0}) (IsNewTextLater d p) (IsNewText r) (λ xs x more k. k) verdicts_given
          rows rest ok tt b,
      start_back 1 (ahead d) 1 some_one some_one (so_far 1 d 1 some_one some_one p header header.scale rows ok) p line s,
      is,
    ),
  )

  pub margin_stream_later : (rows : List Row) (ended : Bool) (text : List ℕ) → AreRows (length header.columns) rows
      → IsMarginStream r header (rows_by 1 d 1 some_one some_one p header header.scale rows) ended text
      → StreamTextLater d margins p header rows ended text
  margin_stream_later rows false text ok h =
      rows_text_back 1 d 1 some_one some_one p header header.scale (λ xs. Unit {0}) (IsNewMarginsLater d p) (IsNewMargins r) (λ xs x more k. k)
      margins_given [] None None rows text ok tt tt h
  margin_stream_later rows true text ok (_, (during, rest, a, b, is)) = (
    ok,
    (
      during,
      rest,
      rows_text_back 1 d 1 some_one some_one p header header.scale (λ xs. Unit {0}) (IsNewMarginsLater d p) (IsNewMargins r) (λ xs x more k. k)
          margins_given [] None None rows during ok tt tt a,
      rest_back 1 d 1 some_one some_one p header header.scale (λ xs. Unit {0}) (IsNewMarginsLater d p) (IsNewMargins r) (λ xs x more k. k)
          margins_given rows rest ok tt b,
      is,
    ),
  )

-- a text of the delayed rows is one of the tree and the rows by the clock
counted : (d : ℕ) (p : Subformula) (header : Header) (rows : List Row) (ended : Bool) (text : List ℕ)
    (Text : Subformula → Header → List Row → Bool → List ℕ → Type 0) → Text p header (map (delayed_row d) rows) ended text
    → Text (finer_tree 1 1 p) header (map (row_by 1 d 1 some_one some_one) rows) ended text
counted d p header rows ended text Text h =
    subst (λ xs. Text (finer_tree 1 1 p) header xs ended text) (rows_delayed d rows)
    (subst (λ t. Text t header (map (delayed_row d) rows) ended text) (sym (same_tree p)) h)

-- what a stream owes for the delayed rows is what it owes for the rows, later
pub streams_move : StreamsMove
streams_move verdicts f tr d ended text ok h =
    let p = root (nodes_for f tr) in
    verdict_stream_later d p tr.header tr.rows ended text ok.rows (counted d p tr.header tr.rows ended text IsStreamText h)
streams_move early f tr d ended text ok h =
    let p = root (nodes_for f tr) in
    early_later d p tr.header tr.rows ended text ok.rows (counted d p tr.header tr.rows ended text IsEarlyText h)
streams_move margins f tr d ended text ok h =
    let p = root (nodes_for f tr) in
    margin_stream_later d p tr.header tr.rows ended text ok.rows (counted d p tr.header tr.rows ended text IsMarginStream h)
