-- What judging a trace makes on the way: the chains of a formula's nodes, and the signal of the formula.
use Rattle.std.specs.Prelude.{ℕ, List}
use Rattle.value_laws.specs.Members.{ShapeOf}
use Rattle.pl_signal.specs.declared.knot.Knot.{Knot}
use Rattle.pl_signal.specs.declared.faults.WidePair.{WidePair}
use Rattle.pl_signal.specs.declared.faults.WidePair.TheVariants.{Cross, Value}
use Rattle.pl_signal.specs.Moves.{Tells}
use Rattle.pieces.specs.Chains.{Chain}
use Rattle.stl_syntax.specs.Trace as trace
use Rattle.stl_syntax.specs.Trace.{Trace, first_time, last_time}
use Rattle.stl_syntax.specs.Formula.{root}
use Rattle.stl_syntax.specs.SupInf.{Reading, Setting, SupInf, HasValues, HasInfs}
use Rattle.offline_eval.specs.Forms.{of_pieces}
use Rattle.offline_eval.specs.Keeping.{IsStack, TellsStack}
use Rattle.offline_eval.specs.Evaluation.{IsFault}
use Rattle.offline_eval.specs.declared.faults.EvalFault.{EvalFault}
use Rattle.offline_eval.specs.declared.faults.EvalFault.TheVariants as E
use Rattle.trace_stream.specs.declared.case.Case.{Case}
use Rattle.whole_answers.specs.declared.no_answer.NoAnswer.{NoAnswer}
use Rattle.whole_answers.specs.declared.no_answer.NoAnswer.TheVariants.{NoMemory, Wide}

module _ {P : Type 0} (shape : ShapeOf P) (reading : Trace → Reading) where
  -- the setting of a trace: the atoms as they are read, and the least and the greatest value of the kind
  abbrev pub setting_of : Trace → Setting
  setting_of tr = record { atoms = reading tr; lowest = shape.lowest; highest = shape.highest; from = trace.start tr; to = trace.stop tr }

  -- the chains on the way to the root, once the first n nodes have theirs: over the trace they tell the nodes that are still to be read
  pub record IsStackOf (c : Case) (n : ℕ) (chains : List (Chain P)) : Type 0 where
    pub stands : IsStack (of_pieces shape) (first_time c.trace.rows) (last_time 0 c.trace.rows) c.formula.nodes n chains
    pub told : TellsStack (of_pieces shape) c.formula.nodes (setting_of c.trace) n chains

  -- the signal tells the formula over the trace, where the formula has a value at each time, and an Inf between each two times
  pub record IsRootOf (c : Case) (signal : List (Knot P)) : Type 0 where
    pub tells : Tells shape (SupInf (root c.formula.nodes) (setting_of c.trace)) (trace.start c.trace) (trace.stop c.trace) signal
    pub values : HasValues (root c.formula.nodes) (setting_of c.trace)
    pub infs : HasInfs (root c.formula.nodes) (setting_of c.trace)

  -- why there is none: want of memory, or a pair that is in play at a node and needs its denominator
  abbrev pub IsFaultIn : Case → EvalFault P → Type 0
  IsFaultIn c e = IsFault shape c.formula.nodes (setting_of c.trace) e

-- the denominator that a pair needs
abbrev pub denominator_of : {P : Type 0} → WidePair P → ℕ
denominator_of (Cross p q a b den) = den
denominator_of (Value p at den) = den

-- the reason to stop that a fault of an evaluation is
abbrev pub stop_of_fault : {P : Type 0} → EvalFault P → NoAnswer
stop_of_fault E.Memory = NoMemory
stop_of_fault (E.Wide c) = Wide c.node (denominator_of c.pair)
