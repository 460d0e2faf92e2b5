-- The laws in the words of specs/Laws.antt, from the lemmas on each word.
use Rattle.std.proofs.Common.{◌≡◌, ℕ, ◌-◌, inl, inr, Bool, List, ◌∷◌, ◌++◌, ap, ◌∙◌, arith, lit<, length, pos}
use Rattle.std.specs.Prelude.{◌↔◌, MatchBool}
use Rattle.rational.specs.Rational.{◌≤ʳ◌, whole}
use Rattle.rational.proofs.ExtendedLemmas.{not_twoᵉ}
use Rattle.stl_syntax.specs.Trace.{Header, Row, Trace, IsTrace, Continues, AreRowsAfter, row_time, last_time, start}
use Rattle.stl_syntax.specs.Formula.{root}
use Rattle.stl_syntax.specs.Truth.{Truth}
use Rattle.stl_syntax.specs.SupInf.{Robustness, Reading, margins, truths, certainties, signals, one, zero_value, minus_one}
use Rattle.stl_syntax.specs.Early.{Decides}
use Rattle.stl_syntax.specs.Kleene.{Must, MustNot}
use Rattle.stl_syntax.specs.Laws.{TruthIsOfTimes, ValuesAreOfTimes, CertaintyIsOfTimes, IsReadable, OneValue}
use Rattle.stl_syntax.specs.Laws.{CertaintyHasValues, IsToldByValue, TruthByValues, IsToldCertain, CertaintyByValues}
use Rattle.stl_syntax.specs.Laws.{CertaintyIsTruth, ExplanationsHold, AnswersStay, DecisionsStay, MarginsHold}
use Rattle.stl_syntax.specs.Laws.{OneListOfVerdicts, OneListOfMargins, AnsweredMarginsStay}
use Rattle.stl_syntax.proofs.TruthLemmas.{Truth-same}
use Rattle.stl_syntax.proofs.TimeLaw.{SupInf-same, Must-same, MustNot-same}
use Rattle.stl_syntax.proofs.SupInfLemmas.{GivesOne, SupInf-unique, margins_give_one, truths_give_one}
use Rattle.stl_syntax.proofs.KnotsLemmas.{signals_give_one}
use Rattle.stl_syntax.proofs.CoverLemmas.{certainties_give, certainties_give_one}
use Rattle.stl_syntax.proofs.TruthLaw.{Tells, SupInf-truth}
use Rattle.stl_syntax.proofs.KleeneLaw.{Tells3, SupInf-certain}
use Rattle.stl_syntax.proofs.KleeneLemmas.{clear, clear_not, certain_not}
use Rattle.stl_syntax.proofs.StandsLemmas.{stands}
use Rattle.stl_syntax.proofs.PrefixLaw.{Truth-settled}
use Rattle.stl_syntax.proofs.MarginsStay.{Margins-settled}
use Rattle.stl_syntax.proofs.EarlyLaw.{Decides-truth, Decides-stays}
use Rattle.stl_syntax.proofs.MarginLaw.{SupInf-margin}
use Rattle.stl_syntax.proofs.VerdictsLaw.{Describes-unique}
use Rattle.stl_syntax.proofs.MarginsLaw.{DescribesMargins-unique}
pub use Rattle.stl_syntax.proofs.RowsLemmas.{last_from}

-- truth is of times
pub truth_is_of_times : TruthIsOfTimes
truth_is_of_times p tr t u e h = Truth-same p tr e h

-- and values
pub values_are_of_times : ValuesAreOfTimes
values_are_of_times p s t u r e h = SupInf-same p s r e h

-- and certainty
pub certainty_is_of_times : CertaintyIsOfTimes
certainty_is_of_times p items tr t u e = (λ h. Must-same items tr p e h, λ h. MustNot-same items tr p e h)

readable : (A : Reading) → IsReadable A → GivesOne A
readable (margins tr) ok = margins_give_one tr
readable (truths tr) ok = truths_give_one tr
readable (certainties tr items) ok = certainties_give_one tr items
readable (signals lists) ok = signals_give_one lists ok

-- the law of one value
pub one_value : OneValue
one_value p s t r r' ok h k = record {
  at_most = SupInf-unique p s t r r' (readable s.atoms ok) h k;
  at_least = SupInf-unique p s t r' r (readable s.atoms ok) k h;
}

-- a value at each time
pub certainty_has_values : CertaintyHasValues
certainty_has_values tr items i a t = certainties_give tr items i a t

-- truth by the values 1 and -1
pub truth_by_values : TruthByValues
truth_by_values p tr ok t r w h = by_told (SupInf-truth p tr ok t r w h)
  where
    by_told : Tells r (Truth p tr t) → IsToldByValue p tr t r
    by_told (inl (e, k)) = record {
      told = inl e;
      holds = (λ _. k, λ _. e);
      fails = (λ f. not_twoᵉ r one minus_one e f (record { lt = lit< tt }), λ n. absurd (n k));
    }
    by_told (inr (e, n)) = record {
      told = inr e;
      holds = (λ f. not_twoᵉ r one minus_one f e (record { lt = lit< tt }), λ k. absurd (n k));
      fails = (λ _. n, λ _. e);
    }

-- certainty by the values 1, 0 and -1
pub certainty_by_values : CertaintyByValues
certainty_by_values p items tr ok more t r w h = by_told (SupInf-certain items tr p ok more t r w h)
  where
    by_told : Tells3 r (Must p items tr t) (MustNot p items tr t) → IsToldCertain p items tr t r
    by_told (inl (e, k, n)) = record {
      told = inl e;
      certain = (λ _. k, λ _. e);
      certain_not = (λ f. not_twoᵉ r one minus_one e f (record { lt = lit< tt }), λ m. absurd (n m));
    }
    by_told (inr (inl (e, m, n))) = record {
      told = inr (inl e);
      certain = (λ f. not_twoᵉ r one minus_one f e (record { lt = lit< tt }), λ k. absurd (n k));
      certain_not = (λ _. m, λ _. e);
    }
    by_told (inr (inr (e, n, m))) = record {
      told = inr (inr e);
      certain = (λ f. not_twoᵉ r one zero_value f e (record { lt = lit< tt }), λ k. absurd (n k));
      certain_not = (λ f. not_twoᵉ r zero_value minus_one e f (record { lt = lit< tt }), λ k. absurd (m k));
    }

-- certainty is truth
pub certainty_is_truth : CertaintyIsTruth
certainty_is_truth p items tr t = (λ h. clear p items tr t h, λ h. clear_not p items tr t h)

-- explanations hold in every trace that agrees
pub explanations_hold : ExplanationsHold
explanations_hold nodes items tr tr' placed some known false_there agree =
    rw agree.like.start_same
    (certain_not nodes items tr tr' agree known (root nodes) (start tr) (stands nodes (length nodes - 1) placed (omega arith)) false_there)

rows_after : (header : Header) (r : Row) (rows more : List Row) → IsTrace (record { header = header; rows = r ∷ (rows ++ more) })
    → AreRowsAfter (length header.columns) r.time (rows ++ more)
rows_after header r rows more ok = ok.rows.1

going_on : (header : Header) (r : Row) (rows : List Row) (tr : Trace) (ended : Bool) → Continues tr header (r ∷ rows) ended
    → (more : List Row) × (tr ≡ record { header = header; rows = r ∷ (rows ++ more) })
going_on header r rows tr ended c = (c.more, same)
  where
    same : tr ≡ record { header = header; rows = r ∷ (rows ++ c.more) }
    same = ap (λ h. record { header = h; rows = tr.rows }) c.same_header ∙ ap (λ x. record { header = header; rows = x }) c.begins

-- answered truths stay
pub answers_stay : AnswersStay
answers_stay p header r rows tr ended t ok c h = by_more (going_on header r rows tr ended c)
  where
    by_more : (more : List Row) × (tr ≡ record { header = header; rows = r ∷ (rows ++ more) })
        → Truth p (record { header = header; rows = r ∷ rows }) t ↔ Truth p tr t
    by_more (more, e) =
        let after = rows_after header r rows more (rw e at ok) in
        let both = Truth-settled header (length header.columns) r rows more after p t (record { after = h.0; before = h.1 }) in rw e both

-- answered margins stay
pub answered_margins_stay : AnsweredMarginsStay
answered_margins_stay p header r rows tr ended t v ok c h = by_more (going_on header r rows tr ended c)
  where
    by_more : (more : List Row) × (tr ≡ record { header = header; rows = r ∷ (rows ++ more) })
        → Robustness p (record { header = header; rows = r ∷ rows }) t v ↔ Robustness p tr t v
    by_more (more, e) =
        let after = rows_after header r rows more (rw e at ok) in
        let both = Margins-settled header (length header.columns) r rows more after p t (record { after = h.0; before = h.1 }) v in rw e both

first_le : (n : ℕ) (r : Row) (rows : List Row) → AreRowsAfter n r.time rows → row_time r ≤ʳ whole (pos (last_time r.time rows))
first_le n r rows ok = let h = last_from n r.time rows ok in record { le = omega arith }

-- decisions are the truth and stay
pub decisions_stay : DecisionsStay
decisions_stay p header r rows tr ended holds ok c d = by_more (going_on header r rows tr ended c)
  where
    by_more : (more : List Row) × (tr ≡ record { header = header; rows = r ∷ (rows ++ more) })
        → MatchBool holds (Truth p tr (start tr)) (¬ Truth p tr (start tr)) × Decides p tr holds
    by_more (more, e) =
        let after = rows_after header r rows more (rw e at ok) in
        rw e (
          Decides-truth header (length header.columns) r rows more after p holds (first_le (length header.columns) r (rows ++ more) after) d,
          Decides-stays header (length header.columns) r rows more after p holds d,
        )

-- margins above e hold in every trace that is e-close
pub margins_hold : MarginsHold
margins_hold p tr tr' e positive like close ok more = SupInf-margin e tr tr' like.start_same like.stop_same p ok more close

-- one list of verdicts
pub one_list_of_verdicts : OneListOfVerdicts
one_list_of_verdicts p tr stretch verdicts others h k = Describes-unique p tr stretch verdicts others h k

-- one list of knots
pub one_list_of_margins : OneListOfMargins
one_list_of_margins p tr knots others h k = DescribesMargins-unique p tr knots others h k
