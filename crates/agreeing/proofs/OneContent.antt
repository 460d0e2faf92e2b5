-- What `json` writes is the text of the one content of the trace.
use Rattle.std.proofs.Common.{refl, ap, ◌∙◌, ℕ, List, ◌++◌}
use Rattle.stl_syntax.specs.Formula.{Subformula, root}
use Rattle.stl_syntax.specs.Trace.{Trace}
use Rattle.stl_syntax.specs.Knots.{Knots}
use Rattle.stl_syntax.specs.Verdicts.{DescribesMargins}
use Rattle.stl_syntax.specs.Texts.{start_line}
use Rattle.stl_syntax.proofs.VerdictsLaw.{Describes-unique}
use Rattle.stl_syntax.proofs.MarginsLaw.{DescribesMargins-unique}
use Rattle.stl_syntax.specs.Scaling.{nodes_for}
use Rattle.report.specs.Report.{Command, check, robust, explain, json, table, Out}
use Rattle.answer_lines.proofs.OneText.{start_once}
use Rattle.agreeing.specs.Contents.{Content, IsTextOf, JsonTellsAll, TableHasTheKnots}
use Rattle.agreeing.proofs.AlikeTexts.{AllAlike, verdict_lines_alike, margin_lines_alike, table_alike, item_lines}

-- two lists of knots that describe one robustness are alike
pub knots_alike : (p : Subformula) (tr : Trace) (ks ls : Knots) → DescribesMargins ks p tr → DescribesMargins ls p tr
    → AllAlike ks.first ls.first ks.pieces ls.pieces
knots_alike p tr ks ls h k = let both = DescribesMargins-unique p tr ks ls h k in record { first = both.0; pieces = both.1 }

-- `json` tells all
pub json_tells_all : JsonTellsAll
json_tells_all f tr reported
    (verdicts, knots, items, holds, report, described, margins, explained, truth, members, text_is) =
    let c : Content = record { verdicts = verdicts; knots = knots; items = items; holds = holds } in
    let (printed, entries, marks, spans, printed_is, entries_are, marks_are, spans_are, is) = members in
    let (body, lines) = item_lines tr.header.scale f items entries entries_are in (
      c,
      (report, members, text_is),
      record {
        tells = tells;
        checked = λ text (ws, mid, line, others, at, start, e). (
          mid,
          verdict_lines_alike tr.header.scale ws verdicts mid (Describes-unique (root (nodes_for f tr)) tr _ ws verdicts others described) at,
          e ∙ ap (λ l. mid ++ l) (start_once (root (nodes_for f tr)) tr line (start_line holds) start (holds, truth, refl)),
        );
        measured = λ text (ls, others, at).
            margin_lines_alike tr.header.scale ls knots text (knots_alike (root (nodes_for f tr)) tr ls knots others margins) at;
        tabled = λ text (ls, others, at). table_alike tr.header.scale ls knots text (knots_alike (root (nodes_for f tr)) tr ls knots others margins) at;
        explained = (start_line holds ++ body, (body, lines, refl));
      },
    )
  where
    tells : (command : Command) (text : List ℕ)
        → IsTextOf command f tr.header.scale (record { verdicts = verdicts; knots = knots; items = items; holds = holds }) text → Out command f tr text
    tells check text (body, lines, e) = (verdicts, body, start_line holds, described, lines, (holds, truth, refl), e)
    tells robust text lines = (knots, margins, lines)
    tells explain text (body, lines, e) = (items, start_line holds, body, explained, (holds, truth, refl), lines, e)
    tells json text (other, entries, e) = (verdicts, knots, items, holds, other, described, margins, explained, truth, entries, e)
    tells table text rows = (knots, margins, rows)

-- `table` has the knots of `robust`
pub table_has_the_knots : TableHasTheKnots
table_has_the_knots f tr measured tabled (ks, margins, lines) (ls, others, rows) =
    (ks, lines, table_alike tr.header.scale ls ks tabled (knots_alike (root (nodes_for f tr)) tr ls ks others margins) rows)
