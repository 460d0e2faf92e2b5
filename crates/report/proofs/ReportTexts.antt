-- A report from its parts.
use Rattle.std.proofs.Common.{◌≡◌, ℕ, Bool, true, false, List, [], ◌∷◌, ◌++◌, append_assoc, length, refl, sym, ap, ◌∙◌, arith, codes}
use Rattle.std.specs.Prelude.{All}
use Rattle.serde_json.specs.Written.{items_text}
use Rattle.value_laws.specs.Kinds.{truth_shape, margin_shape}
use Rattle.value_laws.specs.declared.truth.Truth.{Truth}
use Rattle.value_laws.specs.declared.margin.Margin.{Margin}
use Rattle.pl_signal.specs.declared.knot.Knot.{Knot}
use Rattle.pl_signal.specs.Knots.{start, IsWorth, IsSignal}
use Rattle.pl_signal.specs.Plain.{knots_of}
use Rattle.stl_syntax.specs.Formula.{Formula}
use Rattle.stl_syntax.specs.Texts.{newline}
use Rattle.stl_syntax.specs.declared.scale.Scale.{Scale}
use Rattle.stl_syntax.specs.declared.items.Item.{Item}
use Rattle.answer_lines.specs.Appended.{Then, Is}
use Rattle.report.specs.ItemLines.{IsOfAtom}
use Rattle.report.specs.JsonTexts.{AreItemEntries, AreMarginEntries, IsOpened, IsOpening, margins_data, start_data, HeadParts}
use Rattle.report.specs.ReportText.{IsReportText, TailParts}
use Rattle.report.specs.SignalVerdicts.{sign_of}
use Rattle.report.specs.VerdictForms.{AreEntries}
use Rattle.report.specs.declared.spelling.OpenSpan.{OpenSpan}
use Rattle.report.proofs.Advances.{spelled_start, told_to_end}
use Rattle.answer_lines.proofs.Growths as growth
use Rattle.answer_lines.proofs.Growths.{some_then}
use Rattle.report.proofs.JsonData.{json_string, start_member, report_value, report_text, opening_is, margins_opened, start_opened, margins_items, verdicts_data}
use Rattle.report.proofs.JsonItems.{list_exists}
use Rattle.report.proofs.JsonParts.{margin_entries_exist, opening_exists, margins_open, start_opens}
use Rattle.answer_lines.proofs.Growths.{word_exists}
use Rattle.report.proofs.Entries.{entries_text}

-- a report up to its items, and with them, has a text
pub head_exists : (scale : Scale) (f : Formula) (items : List Item) → All (IsOfAtom f) items → growth.Some (HeadParts scale f items)
head_exists scale f items all = some_then (IsOpening f) (AreItemEntries scale f items) (opening_exists f) (list_exists scale f items all)

module _ (scale : Scale) (truth : List (Knot Truth)) (margins : List (Knot Margin)) (holds : Bool) where
  -- the parts after the margins, from the last on
  abbrev pub Verdicts : List ℕ → Type 0
  Verdicts = Then (AreEntries truth_shape true scale truth) (Is (codes "}\n"))

  abbrev pub FromStart : List ℕ → Type 0
  FromStart = Then (IsOpened (codes ",") (start_data holds)) Verdicts

  abbrev pub Margins : List ℕ → Type 0
  Margins = Then (AreMarginEntries scale (knots_of margin_shape margins)) FromStart

  -- where the verdicts of the signal have a text
  pub verdicts_exist : growth.Some (AreEntries truth_shape true scale truth) → growth.Some Verdicts
  verdicts_exist v = some_then (AreEntries truth_shape true scale truth) (Is (codes "}\n")) v (word_exists (codes "}\n"))

  -- a report from the truth at the start on has a text
  pub start_exists : growth.Some (AreEntries truth_shape true scale truth) → growth.Some FromStart
  start_exists v = some_then (IsOpened (codes ",") (start_data holds)) Verdicts (start_opens holds) (verdicts_exist v)

  -- a report from the margins on has a text
  pub margins_exist : growth.Some (AreEntries truth_shape true scale truth) → growth.Some Margins
  margins_exist v =
      some_then (AreMarginEntries scale (knots_of margin_shape margins)) FromStart (margin_entries_exist scale (knots_of margin_shape margins)) (start_exists v)

  -- all of a report behind its items has a text
  pub tail_exists : growth.Some (AreEntries truth_shape true scale truth) → growth.Some (TailParts scale truth margins holds)
  tail_exists v = some_then (IsOpened (codes ",") margins_data) Margins margins_open (margins_exist v)

  together : (a p b i c m s v e : List ℕ)
      → ((a ++ (p ++ b)) ++ i) ++ (c ++ (m ++ (s ++ (v ++ (e ++ newline))))) ≡ (a ++ (p ++ (b ++ (i ++ (c ++ (m ++ (s ++ (v ++ e)))))))) ++ newline
  together a p b i c m s v e = simp append_assoc

  -- the whole report
  pub report_is : (f : Formula) (items : List Item) → IsWorth truth_shape truth (start truth) (sign_of holds) → (text : List ℕ)
      → Then (HeadParts scale f items) (TailParts scale truth margins holds) text → IsReportText scale f truth margins items text
  report_is f items at_start text (
    head,
    tail,
    (w1, i, is_opening, is_items, h1),
    (x1, t1, y1, (m, t2, is_margins, (x3, t3, y3, (v, x5, is_verdicts, y5, g4), g3), g2), g1),
    e,
  ) =
      let (printed, is_printed, o1) = opening_is f w1 is_opening in
      let (array_m, are_m, of_m) = margins_items scale (knots_of margin_shape margins) m is_margins in
      let (array_v, are_v, of_v) = verdicts_data scale is_verdicts.before is_verdicts.last v is_verdicts.written in
      let A = items_text false is_items.array in
      let M = items_text false array_m in
      let V = items_text false array_v in
      let H = codes "{\"formula\":" ++ (json_string printed ++ codes ",\"items\":[") in
      let head_is : head ≡ H ++ A = h1 ∙ ap (λ w. w ++ i) o1 ∙ ap (λ w. H ++ w) is_items.is in
      let tail_is : tail ≡ codes ",\"margins\":[" ++ (M ++ (start_member holds ++ (V ++ codes "}\n"))) =
      g1 ∙ ap (λ w. w ++ t1) (margins_opened x1 y1) ∙ ap (λ w. codes ",\"margins\":[" ++ w) (g2 ∙ ap (λ w. w ++ t2) of_m
      ∙ ap (λ w. M ++ w) (g3 ∙ ap (λ w. w ++ t3) (start_opened holds x3 y3)
      ∙ ap (λ w. start_member holds ++ w) (g4 ∙ ap (λ w. w ++ x5) of_v ∙ ap (λ w. V ++ w) y5))) in
      record {
        verdicts = is_verdicts.before ++ is_verdicts.last ∷ [];
        described = is_verdicts.described;
        lines = is_items.lines;
        joined = is_items.joined;
        holds = holds;
        at_start = at_start;
        report = report_value printed is_items.array array_m holds array_v;
        members = (printed, is_items.array, array_m, array_v, is_printed, is_items.entries, are_m, are_v, refl);
        is = e ∙ ap (λ w. w ++ tail) head_is ∙ ap (λ w. (H ++ A) ++ w) tail_is
            ∙ together (codes "{\"formula\":") (json_string printed) (codes ",\"items\":[") A (codes ",\"margins\":[") M (start_member holds) V (codes "}")
            ∙ ap (λ w. w ++ newline) (sym (report_text printed is_items.array array_m array_v holds));
      }

-- the verdicts of a signal have a text
pub signal_entries_exist : (json : Bool) (scale : Scale) (knots : List (Knot Truth)) → IsSignal truth_shape knots
    → growth.Some (AreEntries truth_shape json scale knots)
signal_entries_exist json scale [] signal = absurd (omega (arith, signal.some))
signal_entries_exist json scale (k ∷ knots) signal =
    let o : OpenSpan = record { from = k.time; from_in = true; holds = k.point.holds } in
    let end = told_to_end (k ∷ knots) (length knots) 0 [] o signal (omega arith) (spelled_start (k ∷ knots) k o refl refl refl refl) in
    entries_text truth_shape json scale (k ∷ knots) end.0 end.1 end.2
