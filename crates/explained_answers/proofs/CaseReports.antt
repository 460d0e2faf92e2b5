-- The answer of `json` for a case: the verdicts, the knots and the explanation in one text, and why there is none.
use Rattle.std.proofs.Common.{◌≡◌, ◌⊎◌, inl, inr, ℕ, ◌<◌, Bool, List, [], ◌++◌, length, MatchBool, refl, subst}
use Rattle.rational.specs.Time.{closed}
use Rattle.rational.proofs.AffineLemmas.{same_reflᵉ}
use Rattle.serde_json.specs.Data.{Data}
use Rattle.serde_json.specs.Written.{compact_text}
use Rattle.value_laws.specs.declared.truth.Truth.{Truth as TruthPoint}
use Rattle.value_laws.specs.declared.margin.Margin.{Margin}
use Rattle.value_laws.specs.Kinds.{truth_shape, margin_shape}
use Rattle.pl_signal.specs.declared.knot.Knot.{Knot}
use Rattle.pl_signal.specs.Plain.{knots_of}
use Rattle.pl_signal.proofs.Values.{worth_same}
use Rattle.stl_syntax.specs.Formula.{Formula, root}
use Rattle.stl_syntax.specs.Trace.{Trace, start, stop}
use Rattle.stl_syntax.specs.Truth.{Truth}
use Rattle.stl_syntax.specs.PostOrder.{IsPostOrder}
use Rattle.stl_syntax.specs.WellFormed.{IsWellFormed}
use Rattle.stl_syntax.specs.Kept.{Kept}
use Rattle.stl_syntax.specs.Knots.{Knots}
use Rattle.stl_syntax.specs.SupInf.{truths, margins}
use Rattle.stl_syntax.specs.Texts.{newline}
use Rattle.stl_syntax.specs.Verdicts.{Describes, DescribesMargins}
use Rattle.stl_syntax.specs.declared.node.Node.{Node}
use Rattle.stl_syntax.specs.declared.items.Item.{Item}
use Rattle.stl_syntax.specs.declared.items.Verdict.{Verdict}
use Rattle.stl_syntax.proofs.LawProofs.{margins_hold}
use Rattle.implicants.specs.Explaining.{IsExplained}
use Rattle.implicants.specs.declared.explaining.Explained.{Explained}
use Rattle.implicants.specs.declared.explaining.Explained.TheVariants.{Holds, Violated}
use Rattle.stl_syntax.specs.Scaling.{nodes_for}
use Rattle.report.specs.Json.{IsReportData}
use Rattle.report.specs.Report.{explain, robust, json, IsItemLines}
use Rattle.report.specs.ReportText.{IsReportText}
use Rattle.report.specs.SignalVerdicts.{sign_of}
use Rattle.report.proofs.MarginLaw.{knots_describe}
use Rattle.report.proofs.SignalLaw.{truth_at, signal_describes}
use Rattle.trace_stream.specs.declared.case.Case.{Case}
use Rattle.whole_answers.specs.declared.no_answer.NoAnswer.{NoAnswer}
use Rattle.whole_answers.specs.declared.no_answer.NoAnswer.TheVariants.{Fault as Faulty, Unread, NoMemory, Wide, TooMany}
use Rattle.trace_stream.specs.Cases.{IsCase}
use Rattle.whole_answers.specs.Answering.{IsRootOf}
use Rattle.trace_stream.specs.Streams.{TellsTruth, status_of_truth}
use Rattle.whole_answers.specs.Judging.{IsUnexplained, TellTruth, IsAnswerOf, IsUnanswered}
use Rattle.explained_answers.specs.Reasons.{truth_of, items_of}
use Rattle.explained_answers.proofs.ExplainTexts.{nodes_of, few_cells}
use Rattle.explained_answers.proofs.KeptRefutes.{kept_refute}

-- what is explained at the start is the truth there
start_explained : (f : Formula) (tr : Trace) (steps : ℕ) (e : Explained) → IsExplained (nodes_for f tr) tr steps e
    → TellsTruth f tr (status_of_truth (truth_of e))
start_explained f tr steps Holds is = inl (refl, is.0)
start_explained f tr steps (Violated items) is = inr (refl, is.fails)

-- what is explained has few cells
pub few : (f : Formula) (tr : Trace) (steps : ℕ) (e : Explained) → IsExplained (nodes_for f tr) tr steps e → (count : ℕ) → ¬ IsUnexplained f tr count
few f tr steps Holds is count un = un.fails is.0
few f tr steps (Violated items) is count un = few_cells f tr steps items is count un

-- no item, or those that are kept, with neighbours joined
abbrev AreItems : List Node → Trace → List Item → Type 0
AreItems nodes tr lines =
    (Truth (root nodes) tr (start tr) × (lines ≡ []))
    ⊎ ((¬ Truth (root nodes) tr (start tr)) × ((items : List Item) × Kept nodes tr items × IsItemLines items lines))

explained_items : (nodes : List Node) (tr : Trace) (steps : ℕ) (e : Explained) (lines : List Item) → IsExplained nodes tr steps e
    → IsItemLines (items_of e) lines
    → AreItems nodes tr lines
explained_items nodes tr steps Holds lines is joined = inl (is.0, joined)
explained_items nodes tr steps (Violated items) lines is joined = inr (is.fails, (items, is.kept, joined))

module _ (f : Formula) (c : Case) (case : IsCase f c) (x : List (Knot TruthPoint)) (y : List (Knot Margin)) (text : List ℕ)
    (judged : IsRootOf truth_shape truths c x) (measured : IsRootOf margin_shape margins c y)
    (steps : ℕ) (e : Explained) (explained : IsExplained c.formula.nodes c.trace steps e) where
  -- the text and the law of margins over given nodes, with times and values in units of a scale
  Over : Formula → Type 0
  Over g =
      ((verdicts : List Verdict) × (knots : Knots) × (items : List Item) × (holds : Bool) × (report : Data)
      × Describes verdicts (root g.nodes) c.trace (closed (start c.trace) (stop c.trace)) × DescribesMargins knots (root g.nodes) c.trace
      × AreItems g.nodes c.trace items
      × MatchBool holds (Truth (root g.nodes) c.trace (start c.trace)) (¬ Truth (root g.nodes) c.trace (start c.trace))
      × IsReportData g.scale f verdicts knots items holds report × (text ≡ compact_text report ++ newline))
      × TellTruth (root g.nodes) c.trace

  own : IsReportText c.formula.scale f x y (items_of e) text → Over c.formula
  unfolding Over
  own is = (
    (
      is.verdicts,
      knots_of margin_shape y,
      is.lines,
      is.holds,
      is.report,
      signal_describes truth_shape (root c.formula.nodes) c.trace x judged.values judged.tells is.verdicts is.described,
      knots_describe margin_shape (root c.formula.nodes) c.trace y measured.tells,
      explained_items c.formula.nodes c.trace steps e is.lines explained is.joined,
      truth_at truth_shape (root c.formula.nodes) c.trace x judged.values judged.tells is.holds (start c.trace)
          (worth_same truth_shape x (sign_of is.holds) (sign_of is.holds) judged.tells.begins (same_reflᵉ (sign_of is.holds)) is.at_start),
      is.members,
      is.is,
    ),
    λ tr' a positive like close. margins_hold (root c.formula.nodes) c.trace tr' a positive like close measured.values measured.infs,
  )

  -- the report is the text of `json`
  pub reported : IsWellFormed c.formula → IsReportText c.formula.scale f x y (items_of e) text → IsAnswerOf json f c.trace (truth_of e) text
  unfolding Over
  reported formed is =
      let over = subst Over case.formula (own is) in
      let at : IsExplained (nodes_for f c.trace) c.trace steps e = subst (λ ns. IsExplained ns c.trace steps e) (nodes_of f c case) explained in
      let post : IsPostOrder (nodes_for f c.trace) = subst (λ ns. IsPostOrder ns) (nodes_of f c case) formed.nodes.post_order in
      let some : 0 < length (nodes_for f c.trace) = subst (λ ns. 0 < length ns) (nodes_of f c case) formed.some in
      record {
        verdict = start_explained f c.trace steps e at;
        written = over.0;
        few = few f c.trace steps e at;
        sure = (over.1, kept_refute f c.trace steps e post some at);
      }

-- why there is no report: no explanation
pub unreported : (f : Formula) (tr : Trace) (stop : NoAnswer) → IsUnanswered explain f tr stop → IsUnanswered json f tr stop
unreported f tr (Faulty fault) is = is
unreported f tr Unread is = is
unreported f tr NoMemory is = is
unreported f tr (Wide i den) is = absurd is.0
unreported f tr (TooMany count) is = is

-- or no robustness
pub unmarked : (f : Formula) (tr : Trace) (stop : NoAnswer) → ((count : ℕ) → ¬ IsUnexplained f tr count)
    → IsUnanswered robust f tr stop → IsUnanswered json f tr stop
unmarked f tr (Faulty fault) enough is = is
unmarked f tr Unread enough is = is
unmarked f tr NoMemory enough is = is
unmarked f tr (Wide i den) enough is = (is.0, enough)
unmarked f tr (TooMany count) enough is = absurd is
