-- The summary of a run on the generated trace.
use Rattle.std.specs.Prelude.{◌≡◌, ℕ, suc, true, List, ◌++◌, codes, decimal}
use Rattle.stl_syntax.specs.Formula.{Formula, root}
use Rattle.stl_grammar.specs.Grammar.{FormulaText}
use Rattle.stl_syntax.specs.Texts.{newline, IsStartLine}
use Rattle.stl_syntax.specs.Scaling.{nodes_for}
use Rattle.report.specs.Report.{check, Out}
use Rattle.stl_syntax.specs.Stream.{IsStreamText}
pub use Rattle.workload.specs.Generated.{next_state, state_value, rows_after, generated, row_line, generated_bytes}
pub use Rattle.workload.specs.Judged.{judged}
pub use Rattle.workload_summary.specs.Counting.{line_count}

-- how many rows there are, how many verdict lines `check` and `watch` write before the start line, and the start line
pub record IsSummary (number rows : ℕ) (text : List ℕ) : Type 0 where
  pub formula : Formula
  pub is_judged : FormulaText judged formula
  pub checked : List ℕ
  pub watched : List ℕ
  pub start_line : List ℕ
  pub check_lines : ℕ
  pub watch_lines : ℕ
  pub check_text : Out check formula (generated number rows) checked
  pub watch_text : IsStreamText (root (nodes_for formula (generated number rows))) (generated number rows).header (generated number rows).rows true watched
  pub start_text : IsStartLine (root (nodes_for formula (generated number rows))) (generated number rows) start_line
  pub check_count : line_count checked ≡ suc check_lines
  pub watch_count : line_count watched ≡ suc watch_lines
  pub is : text ≡ codes "rows " ++ decimal rows ++ newline ++ codes "check " ++ decimal check_lines ++ newline
      ++ codes "watch " ++ decimal watch_lines ++ newline ++ start_line
