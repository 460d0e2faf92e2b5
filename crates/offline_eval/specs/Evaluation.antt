-- What the signals of a formula's nodes tell, and for what an evaluation may be refused.
use Rattle.std.specs.Prelude.{◌≡◌, ◌<◌, ℕ, List, length, Some, slice_get}
use Rattle.frac128.specs.Value.{value}
use Rattle.value_laws.specs.Members.{ShapeOf}
use Rattle.pl_signal.specs.declared.faults.WidePair.{WidePair}
use Rattle.pl_signal.specs.declared.faults.WidePair.TheVariants.{Cross, Value}
use Rattle.pl_signal.specs.declared.knot.Knot.{Knot}
use Rattle.pl_signal.specs.Moves as moves
use Rattle.pieces.specs.Chains.{Chain, IsWorth, stop}
use Rattle.stl_syntax.specs.Formula.{subformula}
use Rattle.stl_syntax.specs.SupInf.{Setting, SupInf}
use Rattle.stl_syntax.specs.WideCause.{IsCrossingCause, IsValueCause}
use Rattle.stl_syntax.specs.declared.node.Node.{Node}
use Rattle.offline_eval.specs.Forms.{Form, IsClosed}
use Rattle.offline_eval.specs.declared.faults.EvalFault.{EvalFault}
use Rattle.offline_eval.specs.declared.faults.EvalFault.TheVariants as F

-- the signal at each node's place tells over the domain the value of the node's subformula
abbrev pub TellNodes : {X P : Type 0} → Form X P → List Node → List X → Setting → Type 0
TellNodes {X} form nodes signals s =
    (i : ℕ) → i < length nodes → (x : X) × (slice_get signals i ≡ Some x) × form.Tells (SupInf (subformula nodes i) s) s.from s.to x

module _ {P : Type 0} (shape : ShapeOf P) where
  -- the pair is in play at the node, and needs its denominator
  abbrev pub IsCauseAt : List Node → Setting → ℕ → WidePair P → Type 0
  IsCauseAt nodes s i (Cross p q a b den) = IsCrossingCause nodes s i (shape.function p) (shape.function q) (value a) (value b) den
  IsCauseAt nodes s i (Value p at den) = IsValueCause nodes s i (shape.function p) (value at) den

  -- a fault is want of memory, or keeps a node and a pair in play there
  abbrev pub IsFault : List Node → Setting → EvalFault P → Type 0
  IsFault nodes s F.Memory = Unit {0}
  IsFault nodes s (F.Wide c) = (c.node < length nodes) × IsCauseAt nodes s c.node c.pair

module _ {P : Type 0} (shape : ShapeOf P) where
  -- each of the chains is closed
  abbrev pub AreClosed : List (Chain P) → Type 0
  AreClosed chains = (k : ℕ) (c : Chain P) → slice_get chains k ≡ Some c → IsClosed shape c

  -- the signal is worth what the chain is, from its first time to its last one
  abbrev pub IsSignalOf : Chain P → List (Knot P) → Type 0
  IsSignalOf c x = moves.Tells shape (IsWorth shape c) c.from.at (stop c).at x

  -- the signals are those of the chains
  pub record AreSignalsOf (chains : List (Chain P)) (signals : List (List (Knot P))) : Type 0 where
    pub count : length signals ≡ length chains
    pub each : (k : ℕ) (c : Chain P) (x : List (Knot P)) → slice_get chains k ≡ Some c → slice_get signals k ≡ Some x → IsSignalOf c x
