-- What the knots of a robustness tell of the truth.
use Rattle.std.proofs.Common.{◌≡◌, ◌⊎◌, inl, inr, ℕ, List, [], ◌∷◌, pos, refl, arith}
use Rattle.rational.specs.Time.{Rational, Within, whole, negate, ◌≤ʳ◌, ◌<ʳ◌, ◌≈◌}
use Rattle.rational.specs.Extended.{Extended, finite, value_at, ◌<ᵉ◌, ◌≈ᵉ◌}
use Rattle.rational.proofs.Order.{le_refl, le_of_lt, le_of_same, ge_of_same, le_trans, same_sym, same_trans}
use Rattle.rational.proofs.ExtendedLemmas.{lt_of_lt_of_leᵉ, lt_of_le_of_ltᵉ}
use Rattle.rational.proofs.AffineLemmas.{same_symᵉ, same_transᵉ, affine_unique}
use Rattle.stl_syntax.specs.Formula.{Formula, Subformula, root}
use Rattle.stl_syntax.specs.Trace.{Trace, IsLike, start, stop}
use Rattle.stl_syntax.specs.Truth.{Truth}
use Rattle.stl_syntax.specs.Closeness.{AreClose}
use Rattle.stl_syntax.specs.Knots.{Knot, Piece, Knots, IsInside, ReadsFrom, Reads}
use Rattle.stl_syntax.specs.SupInf.{Robustness, margin_setting}
use Rattle.stl_syntax.specs.Verdicts.{IsRobust, IsRobustInside, PiecesGoOn, TellsAfter, DescribesMargins}
use Rattle.stl_syntax.proofs.LawProofs.{values_are_of_times}
use Rattle.stl_syntax.specs.Scaling.{nodes_for}
use Rattle.report.specs.Report.{Command, robust, json, table}
use Rattle.workbench.specs.Ended.{TellTruth, IsAnsweredWhole}
use Rattle.promises.specs.Measured.{IsBelowSize, AreTrueKnots, HasKnots, IsMeasured}
use Rattle.agreeing.proofs.SignLaw.{close_to_itself}
use Rattle.workbench.specs.InputFaults.{whole_limits}
use Rattle.trace_stream.specs.CaseReader.{IsWhole}

-- inside a piece there is one value
pub one_inside : (k : Knot) (q : Piece) (t : Rational) (r v : Extended) → k.time <ʳ q.next.time → IsInside k q t r → IsInside k q t v → r ≈ᵉ v
one_inside k q t r v rising a b =
    let from = same_transᵉ (value_at a.through k.time) q.from (value_at b.through k.time) (same_symᵉ q.from (value_at a.through k.time) a.from) b.from in
    let to = same_transᵉ (value_at a.through q.next.time) q.to (value_at b.through q.next.time) (same_symᵉ q.to (value_at a.through q.next.time) a.to) b.to in
    let same : value_at a.through t ≈ᵉ value_at b.through t = record {
      at_most = affine_unique a.through b.through k.time q.next.time t rising from to;
      at_least = affine_unique b.through a.through k.time q.next.time t rising (same_symᵉ (value_at a.through k.time) (value_at b.through k.time) from)
          (same_symᵉ (value_at a.through q.next.time) (value_at b.through q.next.time) to);
    } in
    same_transᵉ r (value_at a.through t) v a.value
    (same_transᵉ (value_at a.through t) (value_at b.through t) v same (same_symᵉ v (value_at b.through t) b.value))

module _ (p : Subformula) (tr : Trace) where
  -- r is the robustness at t, a time of the domain
  abbrev pub IsValue : Rational → Extended → Type 0
  IsValue t r = Within (start tr) (stop tr) t × ((v : Extended) × Robustness p tr t v × (r ≈ᵉ v))

  at_knot : (k : Knot) (t : Rational) (r : Extended) → start tr ≤ʳ k.time → k.time ≤ʳ stop tr → IsRobust p tr k → t ≈ k.time → r ≈ᵉ k.value → IsValue t r
  at_knot k t r above below is e same = (
    record { above = le_trans above (ge_of_same e); below = le_trans (le_of_same e) below },
    (k.value, values_are_of_times p (margin_setting tr) k.time t k.value (same_sym e) is, same),
  )

  inside : (k : Knot) (q : Piece) (t : Rational) (r : Extended) → start tr ≤ʳ k.time → q.next.time ≤ʳ stop tr
      → IsRobustInside p tr k q → IsInside k q t r → IsValue t r
  inside k q t r above below is at =
      let (v, told, here) = is.1 t at.after at.before in (
        record { above = le_trans above (le_of_lt at.after); below = le_trans (le_of_lt at.before) below },
        (v, told, one_inside k q t r v is.0 at here),
      )

  -- the pieces end at the stop
  before_stop : (j : Knot) (before : Piece) (pieces : List Piece) → PiecesGoOn p tr (stop tr) j before pieces → before.next.time ≤ʳ stop tr
  before_stop j before [] goes = le_of_same goes
  before_stop j before (after ∷ pieces) goes = le_trans (le_of_lt goes.1.0) (before_stop before.next after pieces goes.3)

  reads_on : (j : Knot) (before : Piece) (pieces : List Piece) → start tr ≤ʳ before.next.time → IsRobust p tr before.next
      → PiecesGoOn p tr (stop tr) j before pieces
      → (t : Rational) (r : Extended) → ReadsFrom before.next pieces t r → IsValue t r
  reads_on j before [] above is goes t r at = at_knot before.next t r above (le_of_same goes) is at.0 at.1
  reads_on j before (after ∷ pieces) above is goes t r (inl at) = at_knot before.next t r above (before_stop j before (after ∷ pieces) goes) is at.0 at.1
  reads_on j before (after ∷ pieces) above is goes t r (inr (inl at)) =
      inside before.next after t r above (before_stop before.next after pieces goes.3) goes.1 at
  reads_on j before (after ∷ pieces) above is goes t r (inr (inr at)) =
      reads_on before.next after pieces (le_trans above (le_of_lt goes.1.0)) goes.2 goes.3 t r at

  -- knots of a robustness read its value at each time
  pub reads : (first : Knot) (pieces : List Piece) → first.time ≈ start tr → IsRobust p tr first
      → ((pieces ≡ []) × (start tr ≈ stop tr)) ⊎ TellsAfter p tr (stop tr) first pieces → (t : Rational) (r : Extended)
      → ReadsFrom first pieces t r → IsValue t r
  reads first [] e is (inl (none, same)) t r at = at_knot first t r (ge_of_same e) (le_of_same (same_trans e same)) is at.0 at.1
  reads first [] e is (inr tells) t r at = absurd tells
  reads first (q ∷ pieces) e is (inl (none, same)) t r at = absurd (let k = none in cc)
  reads first (q ∷ pieces) e is (inr (gap, next, goes)) t r (inl at) =
      at_knot first t r (ge_of_same e) (le_trans (le_of_lt gap.0) (before_stop first q pieces goes)) is at.0 at.1
  reads first (q ∷ pieces) e is (inr (gap, next, goes)) t r (inr (inl at)) = inside first q t r (ge_of_same e) (before_stop first q pieces goes) gap at
  reads first (q ∷ pieces) e is (inr (gap, next, goes)) t r (inr (inr at)) =
      reads_on first q pieces (le_trans (ge_of_same e) (le_of_lt gap.0)) next goes t r at

  module _ (knots : Knots) (described : DescribesMargins knots p tr) (sure : TellTruth p tr) where
    value_read : (t : Rational) (r : Extended) → Reads knots t r → IsValue t r
    value_read t r at = reads knots.first knots.pieces described.0 described.1 described.2 t r at

    -- what is sure of e is so of a value that is the robustness
    told_by : (e : Rational) (tr' : Trace) → whole (pos 0) ≤ʳ e → IsLike tr' tr → AreClose e tr tr' p → (t : Rational) (r : Extended) → Reads knots t r
        → (finite e <ᵉ r → Truth p tr' t) × (r <ᵉ finite (negate e) → ¬ Truth p tr' t)
    told_by e tr' positive like close t r at =
        let (w, (v, is, same)) = value_read t r at in
        let told = sure tr' e positive like close t v w is in (
          λ h. told.0 (lt_of_lt_of_leᵉ (finite e) r v h same.at_most),
          λ h. told.1 (lt_of_le_of_ltᵉ v r (finite (negate e)) same.at_least h),
        )

    sign : (t : Rational) (r : Extended) → Reads knots t r → (finite (whole (pos 0)) <ᵉ r → Truth p tr t) × (r <ᵉ finite (whole (pos 0)) → ¬ Truth p tr t)
    sign t r at = told_by (whole (pos 0)) tr (le_refl (whole (pos 0)))
        (record { header = refl; start_same = refl; stop_same = refl }) (close_to_itself tr p) t r at

    margin : (t : Rational) (r : Extended) → Reads knots t r → (e : Rational) (tr' : Trace) → whole (pos 0) ≤ʳ e → IsBelowSize e r
        → IsLike tr' tr → AreClose e tr tr' p
        → (Truth p tr' t → Truth p tr t) × (Truth p tr t → Truth p tr' t)
    margin t r at e tr' positive (inl h) like close =
        let here = (sign t r at).0 (lt_of_le_of_ltᵉ (finite (whole (pos 0))) (finite e) r positive h) in
        let there = (told_by e tr' positive like close t r at).0 h in
        (λ _. here, λ _. there)
    margin t r at e tr' positive (inr h) like close =
        let below : negate e ≤ʳ whole (pos 0) = let le = positive.le in record { le = omega (arith, le) } in
        let here = (sign t r at).1 (lt_of_lt_of_leᵉ r (finite (negate e)) (finite (whole (pos 0))) h below) in
        let there = (told_by e tr' positive like close t r at).1 h in
        (λ k. absurd (there k), λ k. absurd (here k))

    -- knots of margins tell the truth by their signs and sizes
    pub true_knots : AreTrueKnots p tr knots
    true_knots = record { value = value_read; sign = sign; margin = margin }

-- the knots of a text tell the truth
of_knots : (c : Command) (f : Formula) (bytes text : List ℕ) (tr : Trace) → IsWhole whole_limits f bytes tr → TellTruth (root (nodes_for f tr)) tr
    → (knots : Knots) → DescribesMargins knots (root (nodes_for f tr)) tr → HasKnots c f tr knots text → IsMeasured c f bytes text
of_knots c f bytes text tr trace sure knots described has = record {
  tr = tr;
  trace = trace;
  knots = knots;
  described = described;
  has = has;
  truth = true_knots (root (nodes_for f tr)) tr knots described sure;
}

-- what `robust` wrote tells the truth by its signs and sizes
pub measured_truth : (f : Formula) (bytes text : List ℕ) (status : ℕ) → IsAnsweredWhole robust f bytes status text → IsMeasured robust f bytes text
measured_truth f bytes text status a = let (knots, described, lines) = a.written in of_knots robust f bytes text a.tr a.trace a.sure knots described lines

-- what `table` wrote tells the truth by its signs and sizes
pub tabulated_truth : (f : Formula) (bytes text : List ℕ) (status : ℕ) → IsAnsweredWhole table f bytes status text → IsMeasured table f bytes text
tabulated_truth f bytes text status a = let (knots, described, lines) = a.written in of_knots table f bytes text a.tr a.trace a.sure knots described lines

-- what `json` wrote tells the truth by its signs and sizes
pub reported_truth : (f : Formula) (bytes text : List ℕ) (status : ℕ) → IsAnsweredWhole json f bytes status text → IsMeasured json f bytes text
reported_truth f bytes text status a =
    let (verdicts, knots, items, holds, report, _, described, _, _, members, is) = a.written in
    of_knots json f bytes text a.tr a.trace a.sure.0 knots described (verdicts, items, holds, report, members, is)
