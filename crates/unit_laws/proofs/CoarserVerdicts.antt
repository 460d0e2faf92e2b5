-- What `check` writes in smaller ticks it writes in the trace's.
use Rattle.std.proofs.Common.{◌≡◌, ℕ, ◌+◌, ◌^◌, ◌<◌, ◌≤◌, List, [], ◌∷◌, refl, subst, arith}
use Rattle.rational.specs.Time.{Rational, closed}
use Rattle.rational.proofs.Order.{same_sym}
use Rattle.frac128.specs.Value.{value}
use Rattle.stl_syntax.specs.Trace.{Trace, IsTrace, AreInRange, start, stop}
use Rattle.stl_syntax.specs.Formula.{Formula, Subformula, root}
use Rattle.stl_syntax.specs.Texts.{IsNumberText, AreVerdictLines, IsStartLine}
use Rattle.stl_syntax.specs.Verdicts.{Describes}
use Rattle.stl_syntax.specs.WellFormed.{IsWellFormed}
use Rattle.stl_syntax.specs.declared.scale.Scale.{Scale}
use Rattle.stl_syntax.specs.declared.items.Verdict.{Verdict}
use Rattle.stl_syntax.specs.Scaling.{nodes_for}
use Rattle.report.specs.Report.{Out, check}
use Rattle.answer_lines.proofs.KeptTexts.{number_of_same}
use Rattle.unit_laws.specs.Units.{finer, LawOfUnits, TruthTurnsAtFractions}
use Rattle.bounds.proofs.NearTimes.{ahead}
use Rattle.unit_laws.proofs.Clocks.{unclock}
use Rattle.unit_laws.proofs.FinerTrees.{root_finer}
use Rattle.unit_laws.proofs.FinerRows.{some_power, finer_counts}
use Rattle.unit_laws.proofs.FinerTexts.{time_text_back}
use Rattle.unit_laws.proofs.FinerCheck.{check_keeps_its_text}
use Rattle.unit_laws.proofs.FinerRobust.{robust_is_of_units}
use Rattle.unit_laws.proofs.CalmTruth.{HasCalmAtoms, calm}
use Rattle.unit_laws.proofs.CalmFormulas.{root_calm}
use Rattle.unit_laws.proofs.SmallFractions.{HasFrac}
use Rattle.unit_laws.proofs.TurningTimes.{has_ends}
use Rattle.unit_laws.proofs.VerdictsBack.{HasEnds, verdicts_back, describe_back, start_back}

-- the lines stay
module _ (k : ℕ) (kp : 0 < 10 ^ k) (scale other : Scale) (is : other.time ≡ scale.time + k) where
  -- a time's text in smaller ticks is that of the number at which it is shown
  pub end_text : (t : Rational) (a : HasFrac (unclock (10 ^ k) (ahead 0) kp t)) (text : List ℕ) → IsNumberText other.time t text
      → IsNumberText scale.time (value a.frac) text
  end_text t a text h =
      number_of_same scale.time (unclock (10 ^ k) (ahead 0) kp t) (value a.frac) text (same_sym a.same)
      (time_text_back scale.time k kp t text (subst (λ d. IsNumberText d t text) is h))

  -- the lines of verdicts taken back
  pub lines_back : (verdicts : List Verdict) (e : HasEnds (10 ^ k) (ahead 0) kp verdicts) (text : List ℕ) → AreVerdictLines other verdicts text
      → AreVerdictLines scale (verdicts_back (10 ^ k) (ahead 0) kp verdicts e) text
  lines_back [] e text h = h
  lines_back (v ∷ verdicts) e text (here, later, (on, h, f), g, i) = (
    here,
    later,
    (
      on,
      record {
        from = h.from;
        to = h.to;
        from_is = end_text (value v.on.from) e.0 h.from h.from_is;
        to_is = end_text (value v.on.to) e.1 h.to h.to_is;
        is = h.is;
      },
      f,
    ),
    lines_back verdicts e.2 later g,
    i,
  )

module _ (f : Formula) (tr : Trace) (k m : ℕ) (formed : IsWellFormed f) (ok : IsTrace tr) (range : AreInRange tr.rows)
    (ft : f.scale.time ≤ tr.header.scale.time) (fv : f.scale.value ≤ tr.header.scale.value) where
  abbrev tree : Subformula
  tree = root (nodes_for f tr)

  atoms_calm : HasCalmAtoms (2 ^ 31) tr tree
  atoms_calm = root_calm tr range _ _ f.nodes formed.nodes.atoms

  -- what `check` writes in smaller ticks it writes in the trace's own
  pub check_came_from : (text : List ℕ) → Out check f (finer k m tr) text → Out check f tr text
  check_came_from text (verdicts, body, line, d, l, s, e) =
      let same = root_finer f tr.header.scale k m ft fv in
      let kp = some_power k in
      let mp = some_power m in
      let fine_d = subst (λ r. Describes verdicts r (finer k m tr) (closed (start (finer k m tr)) (stop (finer k m tr)))) same d in
      let fine_s = subst (λ r. IsStartLine r (finer k m tr) line) same s in
      let c = finer_counts k m tr ok in
      let ends = has_ends (10 ^ k) (ahead 0) (10 ^ m) kp mp c tree atoms_calm verdicts fine_d in (
        verdicts_back (10 ^ k) (ahead 0) kp verdicts ends,
        body,
        line,
        describe_back (10 ^ k) (ahead 0) (10 ^ m) kp mp c tree verdicts ends fine_d,
        lines_back k kp tr.header.scale (finer k m tr).header.scale refl verdicts ends body l,
        start_back (10 ^ k) (ahead 0) (10 ^ m) kp mp c tree line fine_s,
        e,
      )

-- verdicts in smaller ticks, taken in the trace's, are those of the trace
pub law_of_units : LawOfUnits
law_of_units f tr k m formed ok range ft fv =
    (λ text. (check_keeps_its_text f tr k m ok ft fv text, check_came_from f tr k m formed ok range ft fv text), robust_is_of_units f tr k m ok ft fv)

-- truth turns at numbers that the program keeps
pub truth_turns_at_fractions : TruthTurnsAtFractions
truth_turns_at_fractions f tr t formed ok range rare =
    let c = calm (2 ^ 31) (omega arith) tr (root (nodes_for f tr)) (root_calm tr range _ _ f.nodes formed.nodes.atoms) t rare in (
      c.near.from,
      c.near.to,
      c.near.before,
      c.near.after,
      λ u v a b x y. c.alike u v (record { above = a; below = b }) (record { above = x; below = y }),
    )
