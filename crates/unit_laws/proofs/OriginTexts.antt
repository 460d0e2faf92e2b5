-- What the commands write of a delayed trace.
use Rattle.std.proofs.Common.{ℕ, Bool, true, false, List, [], ◌∷◌, map, refl, MatchBool}
use Rattle.rational.proofs.Order.{same_sym, same_trans}
use Rattle.rational.proofs.AffineLemmas.{same_reflᵉ}
use Rattle.stl_syntax.specs.Trace.{Trace, IsTrace, start}
use Rattle.stl_syntax.specs.Formula.{Subformula, root}
use Rattle.stl_syntax.specs.Knots.{Piece, Knots}
use Rattle.stl_syntax.specs.Truth.{Truth}
use Rattle.stl_syntax.specs.Texts.{IsStartLine}
use Rattle.stl_syntax.proofs.TruthLemmas.{Truth-same}
use Rattle.stl_syntax.specs.Scaling.{nodes_for}
use Rattle.report.specs.Report.{check, robust, explain, json, table}
use Rattle.unit_laws.specs.Origins.{delayed, earlier, piece_at, knots_at, AreDelayedPieces, AreDelayedKnots, TextsMove}
use Rattle.unit_laws.proofs.OriginRows.{delayed_counts, clock_later, truth_moves}
use Rattle.unit_laws.proofs.OriginVerdicts.{verdicts_move}
use Rattle.unit_laws.proofs.OriginKnots.{later-earlier, knots_move}
use Rattle.unit_laws.proofs.OriginItems.{explanations_move}

-- what the truth at the start is told to be is so of the trace
start_told : (p : Subformula) (tr : Trace) (d : ℕ) → IsTrace tr → (b : Bool)
    → MatchBool b (Truth p (delayed d tr) (start (delayed d tr))) (¬ Truth p (delayed d tr) (start (delayed d tr)))
    → MatchBool b (Truth p tr (start tr)) (¬ Truth p tr (start tr))
start_told p tr d ok true h =
    (truth_moves p tr d (start tr) ok).1 (Truth-same p (delayed d tr) (same_trans (delayed_counts d tr ok).starts (clock_later d (start tr))) h)
start_told p tr d ok false h = λ k. h
    (Truth-same p (delayed d tr) (same_sym (same_trans (delayed_counts d tr ok).starts (clock_later d (start tr))))
    ((truth_moves p tr d (start tr) ok).0 k))

start_line_back : (p : Subformula) (tr : Trace) (d : ℕ) → IsTrace tr → (line : List ℕ) → IsStartLine p (delayed d tr) line → IsStartLine p tr line
start_line_back p tr d ok line (holds, h, e) = (holds, start_told p tr d ok holds h, e)

-- knots are those that are d ticks earlier, d ticks later
pieces_later : (d : ℕ) (pieces : List Piece) → AreDelayedPieces d (map (piece_at (λ t. earlier t d)) pieces) pieces
pieces_later d [] = refl
pieces_later d (x ∷ pieces) = (
  x,
  pieces,
  refl,
  same_reflᵉ x.from,
  same_reflᵉ x.to,
  record { time = same_sym (later-earlier d x.next.time); value = same_reflᵉ x.next.value },
  pieces_later d pieces,
)

knots_later : (d : ℕ) (knots : Knots) → AreDelayedKnots d (knots_at (λ t. earlier t d) knots) knots
knots_later d knots =
    (record { time = same_sym (later-earlier d knots.first.time); value = same_reflᵉ knots.first.value }, pieces_later d knots.pieces)

-- what is written of the delayed trace is what is told of the trace, later
pub texts_move : TextsMove
texts_move check f tr d text ok (ws, body, line, told, lines, starts, is) =
    let p = root (nodes_for f tr) in
    let (vs, moved, was) = (verdicts_move p tr d ok).1 ws told in
    (vs, ws, body, line, was, moved, lines, start_line_back p tr d ok line starts, is)
texts_move robust f tr d text ok (ls, told, lines) =
    (knots_at (λ t. earlier t d) ls, ls, (knots_move (root (nodes_for f tr)) tr d ls ok).1 told, knots_later d ls, lines)
texts_move explain f tr d text ok (moved, line, body, told, starts, lines, is) =
    let (items, later_ones, was) = (explanations_move f tr d ok).1 moved told in
    (items, moved, line, body, was, later_ones, start_line_back (root (nodes_for f tr)) tr d ok line starts, lines, is)
texts_move json f tr d text ok (ws, ls, moved, holds, report, told, margins, explained, truth, data_is, is) =
    let p = root (nodes_for f tr) in
    let (vs, verdicts_later, was) = (verdicts_move p tr d ok).1 ws told in
    let (items, items_later, were) = (explanations_move f tr d ok).1 moved explained in (
      vs,
      ws,
      knots_at (λ t. earlier t d) ls,
      ls,
      items,
      moved,
      holds,
      report,
      was,
      verdicts_later,
      (knots_move p tr d ls ok).1 margins,
      knots_later d ls,
      were,
      items_later,
      start_told p tr d ok holds truth,
      data_is,
      is,
    )
texts_move table f tr d text ok (ls, told, lines) =
    (knots_at (λ t. earlier t d) ls, ls, (knots_move (root (nodes_for f tr)) tr d ls ok).1 told, knots_later d ls, lines)
