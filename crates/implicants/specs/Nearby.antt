-- Chains that are no less certain than a node: the best but in some runs, in which the node is less.
use Rattle.std.specs.Prelude.{◌≡◌, ◌⊎◌, ℕ, pos, Bool, true, false, List, Some, slice_get}
use Rattle.rational.specs.Time.{Rational, IsIn, whole}
use Rattle.rational.specs.Extended.{Extended, ◌≤ᵉ◌}
use Rattle.rational.specs.Places.{AtMost, Before, Same, begins, ends}
use Rattle.frac128.specs.Cuts.{place}
use Rattle.frac128.specs.Spans.{interval}
use Rattle.frac128.specs.declared.cut.Cut.{Cut}
use Rattle.value_laws.specs.Members.{ShapeOf}
use Rattle.value_laws.specs.declared.kleene.Kleene.{Kleene}
use Rattle.pieces.specs.Building.{GoesOn}
use Rattle.pieces.specs.Chains.{Chain, IsNormal, IsWorth, stop}
use Rattle.pieces.specs.Knots.{after, before}
use Rattle.stl_syntax.specs.SupInf.{one, minus_one}
use Rattle.offline_eval.specs.Forms.{of_pieces}
use Rattle.offline_eval.specs.Inputs.{IsInput}
use Rattle.implicants.specs.declared.nearby.View.{View}
use Rattle.implicants.specs.declared.runs.Run.{Run}

-- the value is no less than certainty of this kind
abbrev pub IsBest : Bool → Extended → Type 0
IsBest true v = one ≤ᵉ v
IsBest false v = v ≤ᵉ minus_one

-- t lies in a run of the node
abbrev pub InRun : List Run → ℕ → Rational → Type 0
InRun runs k t = (j : ℕ) × (r : Run) × (slice_get runs j ≡ Some r) × (r.of ≡ k) × IsIn (interval r.on) t

-- the value is the best, or t lies in such a run
abbrev pub IsBestAt : List Run → ℕ → Bool → Rational → Extended → Type 0
IsBestAt runs k h t v = IsBest h v ⊎ InRun runs k t

-- the run is of the node, and has times, all of them in the trace
pub record CountsFor (r : Run) (w : View) : Type 0 where
  pub of : r.of ≡ w.of
  pub some : Before (begins (interval r.on)) (ends (interval r.on))
  pub within : ¬ Before (after (whole (pos w.last))) (ends (interval r.on))

module _ (shape : ShapeOf Kleene) where
  -- the chain goes on with the value up to the place, where that lies behind what there was
  abbrev pub GoesUpTo : Chain Kleene → Cut → Kleene → Chain Kleene → Type 0
  GoesUpTo old until p new = ((¬ Before (stop old) (place until)) × (new ≡ old)) ⊎ GoesOn shape old until p new

  -- a chain from the first tick on and up to no later than the last, best but in such runs
  pub record IsBestSoFar (runs : List Run) (w : View) (x : Chain Kleene) : Type 0 where
    pub starts : Same x.from (before (whole (pos w.first)))
    pub later : AtMost x.from (stop x)
    pub within : AtMost (stop x) (after (whole (pos w.last)))
    pub worth : (t : Rational) (v : Extended) → IsWorth shape x t v → IsBestAt runs w.of w.best t v

  -- one over the whole domain
  pub record IsBestChain (runs : List Run) (w : View) (x : Chain Kleene) : Type 0 where
    pub normal : IsNormal shape x
    pub input : IsInput (of_pieces shape) w.first w.last x
    pub worth : (t : Rational) (v : Extended) → IsWorth shape x t v → IsBestAt runs w.of w.best t v
