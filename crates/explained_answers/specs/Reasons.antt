-- The text of an explanation.
use Rattle.std.specs.Prelude.{◌≡◌, Bool, true, false, ℕ, List, [], ◌++◌}
use Rattle.stl_syntax.specs.Formula.{Formula}
use Rattle.stl_syntax.specs.Texts.{start_line}
use Rattle.stl_syntax.specs.declared.scale.Scale.{Scale}
use Rattle.stl_syntax.specs.declared.items.Item.{Item}
use Rattle.implicants.specs.declared.explaining.Explained.{Explained}
use Rattle.implicants.specs.declared.explaining.Explained.TheVariants.{Holds, Violated}
use Rattle.implicants.specs.declared.explaining.ExplainFault.{ExplainFault}
use Rattle.implicants.specs.declared.explaining.ExplainFault.TheVariants as F
use Rattle.report.specs.ItemLines.{AreItemsText}
use Rattle.whole_answers.specs.declared.no_answer.NoAnswer.{NoAnswer}
use Rattle.whole_answers.specs.declared.no_answer.NoAnswer.TheVariants.{NoMemory, TooMany}

-- what it says of the start
abbrev pub truth_of : Explained → Bool
truth_of Holds = true
truth_of (Violated items) = false

-- its items
abbrev pub items_of : Explained → List Item
items_of Holds = []
items_of (Violated items) = items

-- the line of the truth at the start, and behind it the items
pub record IsReasonText (scale : Scale) (f : Formula) (e : Explained) (holds : Bool) (text : List ℕ) : Type 0 where
  pub truth : holds ≡ truth_of e
  pub body : List ℕ
  pub items : AreItemsText scale f (items_of e) body
  pub is : text ≡ start_line holds ++ body

-- the reason to stop where there is no explanation
abbrev pub stop_of_explaining : ExplainFault → NoAnswer
stop_of_explaining (F.TooManyCells count) = TooMany count
stop_of_explaining F.Memory = NoMemory
