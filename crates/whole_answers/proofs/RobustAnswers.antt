-- The answer of `robust` for a case: what the root's signal tells, and why there is none.
use Rattle.std.proofs.Common.{ℕ, ◌≤◌, ◌^◌, List, inl, inr, pos, refl, subst, arith, true}
use Rattle.rational.specs.Time.{Rational, whole, ◌≈◌}
use Rattle.rational.specs.Rational.{IsWithin}
use Rattle.rational.proofs.Order.{le_trans, le_of_same, ge_of_same}
use Rattle.frac128.specs.Value.{value}
use Rattle.value_laws.specs.declared.margin.Margin.{Margin}
use Rattle.value_laws.specs.Margins.{margin_function}
use Rattle.value_laws.specs.Kinds.{margin_shape}
use Rattle.pl_signal.specs.declared.knot.Knot.{Knot}
use Rattle.pl_signal.specs.declared.faults.WidePair.{WidePair}
use Rattle.pl_signal.specs.declared.faults.WidePair.TheVariants.{Cross, Value}
use Rattle.pl_signal.specs.Plain.{knots_of}
use Rattle.stl_syntax.specs.Formula.{Formula, root}
use Rattle.stl_syntax.specs.Scaling.{scaled}
use Rattle.stl_syntax.specs.declared.scale.Scale.{Scale}
use Rattle.stl_syntax.specs.Trace.{Trace}
use Rattle.stl_syntax.specs.Knots.{Knots}
use Rattle.stl_syntax.specs.SupInf.{margins, margin_setting}
use Rattle.stl_syntax.specs.Texts.{AreMarginLines}
use Rattle.stl_syntax.specs.Verdicts.{DescribesMargins}
use Rattle.stl_syntax.proofs.LawProofs.{margins_hold}
use Rattle.offline_eval.specs.Evaluation.{IsCauseAt}
use Rattle.offline_eval.specs.declared.faults.EvalFault.{EvalFault}
use Rattle.offline_eval.specs.declared.faults.EvalFault.TheVariants as E
use Rattle.report.specs.Report.{robust, table}
use Rattle.report.specs.Table.{IsTableText}
use Rattle.report.proofs.MarginLaw.{knots_describe}
use Rattle.trace_stream.specs.declared.case.Case.{Case}
use Rattle.trace_stream.specs.Cases.{IsCase}
use Rattle.whole_answers.specs.Answering.{IsFaultIn, IsRootOf, denominator_of, stop_of_fault}
use Rattle.whole_answers.specs.Judging.{TellTruth, IsNeeded}
use Rattle.whole_answers.specs.Judging.{IsAnswerOf, IsUnanswered}
use Rattle.whole_answers.specs.declared.no_answer.NoAnswer.{NoAnswer}
use Rattle.whole_answers.specs.declared.no_answer.NoAnswer.TheVariants.{Fault as Faulty, Unread, NoMemory, Wide, TooMany}

-- a time of 32 bits is within the limits
pub tick_within : (t : Rational) (n : ℕ) → t ≈ whole (pos n) → n ≤ 4294967295 → IsWithin (2 ^ 34) t
tick_within t n e small = (
  le_trans (record { le = omega arith }) (ge_of_same e),
  le_trans (le_of_same e) (record { le = omega (arith, small) }),
)

module _ (c : Case) (f : Formula) (case : IsCase f c) where
  -- the text of knots and the law of margins over given nodes, with times and values in units of a scale
  Over : (Scale → Knots → List ℕ → Type 0) → List ℕ → Formula → Type 0
  Over Form text g =
      ((knots : Knots) × DescribesMargins knots (root g.nodes) c.trace × Form g.scale knots text)
      × TellTruth (root g.nodes) c.trace

  over : (Form : Scale → Knots → List ℕ → Type 0) (x : List (Knot Margin)) (text : List ℕ) → IsRootOf margin_shape margins c x
      → Form c.formula.scale (knots_of margin_shape x) text → Over Form text (scaled f c.trace.header.scale)
  unfolding Over
  over Form x text told lines =
      let own : Over Form text c.formula = (
        (knots_of margin_shape x, knots_describe margin_shape (root c.formula.nodes) c.trace x told.tells, lines),
        λ tr' e positive like close. margins_hold (root c.formula.nodes) c.trace tr' e positive like close told.values told.infs,
      ) in
      subst (Over Form text) case.formula own

  -- the lines of the root's margins are the answer of `robust`
  pub measured : (x : List (Knot Margin)) (text : List ℕ) → IsRootOf margin_shape margins c x
      → AreMarginLines c.formula.scale (knots_of margin_shape x) text → IsAnswerOf robust f c.trace true text
  unfolding Over
  measured x text told lines = let o = over AreMarginLines x text told lines in record { verdict = refl; written = o.0; few = λ n h. h; sure = o.1 }

  -- their records are that of `table`
  pub tabulated : (x : List (Knot Margin)) (text : List ℕ) → IsRootOf margin_shape margins c x
      → IsTableText c.formula.scale (knots_of margin_shape x) text → IsAnswerOf table f c.trace true text
  unfolding Over
  tabulated x text told lines = let o = over IsTableText x text told lines in record { verdict = refl; written = o.0; few = λ n h. h; sure = o.1 }

  needed : (i : ℕ) (pair : WidePair Margin) → IsCauseAt margin_shape c.formula.nodes (margin_setting c.trace) i pair
      → IsNeeded c.formula.nodes (margin_setting c.trace) i (denominator_of pair)
  needed i (Cross p q a b den) is = inl (margin_function p, margin_function q, value a, value b, is)
  needed i (Value p at den) is = inr (margin_function p, value at, is)

  -- where an evaluation was refused there is a reason for no answer
  pub unmeasured : (e : EvalFault Margin) → IsFaultIn margin_shape margins c e → IsUnanswered robust f c.trace (stop_of_fault e)
  unmeasured E.Memory is = tt
  unmeasured (E.Wide cause) is = (
    subst (λ (g : Formula). IsNeeded g.nodes (margin_setting c.trace) cause.node (denominator_of cause.pair)) case.formula (needed cause.node cause.pair is.1),
    λ n h. h,
  )

-- why `table` has no answer
pub untabulated : (f : Formula) (tr : Trace) (stop : NoAnswer) → IsUnanswered robust f tr stop → IsUnanswered table f tr stop
untabulated f tr (Faulty fault) is = is
untabulated f tr Unread is = is
untabulated f tr NoMemory is = is
untabulated f tr (Wide i den) is = is
untabulated f tr (TooMany count) is = is
