-- Signals that are given up once the one node that reads them has its own.
use Rattle.std.specs.Prelude.{◌≡◌, ℕ, ◌+◌, ◌-◌, ◌==◌, if◌then◌else◌, false, List, length, take, Some, slice_get, MatchBool}
use Rattle.std.specs.List.{list_any}
use Rattle.stl_syntax.specs.Formula.{Subformula, constant, subformula}
use Rattle.stl_syntax.specs.PostOrder.{is_used}
use Rattle.stl_syntax.specs.SupInf.{Setting}
use Rattle.stl_syntax.specs.declared.node.Node.{Node}
use Rattle.offline_eval.specs.Forms.{Form}
use Rattle.offline_eval.specs.Inputs.{IsOver}
use Rattle.offline_eval.specs.Evaluation.{TellNodes}
use Rattle.offline_eval.specs.Making.{AreSound, IsSound, TellAt, TellsValue}
use Rattle.offline_eval.specs.Places.{reach_before}

-- what the signal at a place tells once the first i nodes have theirs: false, if one of them has the node there as a child
abbrev pub kept : List Node → ℕ → ℕ → Subformula
kept nodes i k = if is_used (take i nodes) k then constant false else subformula nodes k

module _ {X P : Type 0} (form : Form X P) (from to : ℕ) where
  -- the signal is sound and tells false: it stands in place of one that was given up
  pub record IsSpare (x : X) : Type 0 where
    pub sound : IsSound form from to 0 x
    pub told : (s : Setting) → IsOver form.shape.lowest form.shape.highest from to s → TellsValue form s (constant false) x

  -- the signals at these places were given up, and the others stay
  pub record AreGivenUp (places : List ℕ) (old new : List X) : Type 0 where
    pub count : length new ≡ length old
    pub at : (k : ℕ) (x : X) → slice_get new k ≡ Some x → MatchBool (list_any (λ p. p == k) places) (IsSpare x) (slice_get old k ≡ Some x)

module _ {X P : Type 0} (form : Form X P) (from to : ℕ) (nodes : List Node) where
  -- a signal stands at the place of each of the first i nodes: its own, or a spare one once it was given up
  pub record IsStack (i : ℕ) (done : List X) : Type 0 where
    pub count : length done ≡ i
    pub sound : AreSound form from to (reach_before nodes i) done

module _ {X P : Type 0} (form : Form X P) (nodes : List Node) (s : Setting) where
  -- in the setting these signals tell the nodes that are still to be read; there were signals of all the first i nodes that tell
  -- them, and the last of them is still there
  pub record TellsStack (i : ℕ) (done : List X) : Type 0 where
    pub told : TellAt form s (kept nodes i) done
    pub signals : List X
    pub count : length signals ≡ i
    pub all : TellAt form s (subformula nodes) signals
    pub last : (k : ℕ) (x : X) → k + 1 ≡ i → slice_get done k ≡ Some x → slice_get signals k ≡ Some x

  -- in the setting the signal is the last of signals of all nodes, which tell their nodes
  abbrev pub IsRootIn : X → Type 0
  IsRootIn r = (signals : List X) × (length signals ≡ length nodes) × (slice_get signals (length nodes - 1) ≡ Some r)
      × TellNodes form nodes signals s
