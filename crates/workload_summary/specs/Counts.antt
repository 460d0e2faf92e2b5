-- How many lines of verdicts stand in what `check` and `watch` write for a whole trace, before the line of the truth at the start.
use Rattle.std.specs.Prelude.{◌≡◌, ℕ, suc, Bool, true, List}
use Rattle.stl_syntax.specs.Formula.{Formula, root}
use Rattle.stl_syntax.specs.Stream.{IsStreamText}
use Rattle.stl_syntax.specs.Trace.{Trace}
use Rattle.verdict_sets.specs.Telling.{IsCheckAnswer}
use Rattle.workload_summary.specs.Counting.{line_count}
use Rattle.stl_syntax.specs.Scaling.{nodes_for}

-- so many in the answer of `check`
pub record IsChecked (f : Formula) (tr : Trace) (lines : ℕ) (holds : Bool) : Type 0 where
  pub text : List ℕ
  pub answer : IsCheckAnswer f tr holds text
  pub count : line_count text ≡ suc lines

-- so many in the text of a stream of verdicts
pub record IsStreamed (f : Formula) (tr : Trace) (lines : ℕ) : Type 0 where
  pub text : List ℕ
  pub is : IsStreamText (root (nodes_for f tr)) tr.header tr.rows true text
  pub count : line_count text ≡ suc lines
