-- The least and the greatest of two signals by way of their chains: what is refused for the chains is refused for the signals.
use Rattle.std.proofs.Common.{◌⊎◌, inl, inr, List}
use Rattle.rational.specs.InPlay.{of_two}
use Rattle.rational.proofs.Order.{le_trans, le_of_same, ge_of_same}
use Rattle.rational.specs.Extended.{value_at}
use Rattle.value_laws.specs.Members.{ShapeOf}
use Rattle.pl_signal.specs.declared.knot.Knot.{Knot}
use Rattle.pl_signal.specs.declared.faults.WidePair.TheVariants.{Cross, Value}
use Rattle.pl_signal.specs.declared.faults.OpFault.{OpFault}
use Rattle.pl_signal.specs.declared.faults.OpFault.TheVariants as F
use Rattle.pl_signal.specs.Knots.{start, stop, IsWorth}
use Rattle.pl_signal.specs.Wide.{HasCause}
use Rattle.pieces.specs.Chains as chains
use Rattle.pieces.specs.Chains.{Chain}
use Rattle.pieces.specs.Joining.{IsJoinFault}
use Rattle.pieces.proofs.PlayAlong.{cause_along, of_two_along}
use Rattle.pieces.proofs.SignalChains.{IsChainOf, chain_begins, chain_ends, chain_on}
use Rattle.signal_ops.specs.Pointwise.{IsFault, NamesShapes}

-- what is of one of two is of one of those that the two are of
pub of_each : {X : Type 0} {R A B A' B' : X → Type 0} → ((x : X) → R x → A x ⊎ B x) → ((x : X) → A x → A' x) → ((x : X) → B x → B' x) → (x : X) → R x
    → A' x ⊎ B' x
of_each one left right x r = elim (one x r) [ inl a ↦ inl (left x a) | inr b ↦ inr (right x b) ]

module _ {P : Type 0} (shape : ShapeOf P) (s u : List (Knot P)) (c d : Chain P) (left : IsChainOf shape s c) (right : IsChainOf shape u d) where
  -- a crossing of parts of the chains is one of parts of the signals
  pub fault_of_chains : (e : OpFault P) → IsJoinFault shape c d e → IsFault shape (IsWorth shape s) (IsWorth shape u) (start s) (stop s) e
  fault_of_chains F.Memory h = tt
  fault_of_chains (F.Wide (Cross p q from to den)) h = record {
    after_start = le_trans (ge_of_same (chain_begins left)) h.after_start;
    before_stop = le_trans h.before_stop (le_of_same (chain_ends left));
    left = λ t a b. (left.alike t (value_at (shape.function p) t)).0 (h.left t a b);
    right = λ t a b. (right.alike t (value_at (shape.function q) t)).0 (h.right t a b);
    at = h.at;
    meet = h.meet;
    denominator = h.denominator;
    wide = h.wide;
  }
  fault_of_chains (F.Wide (Value p at den)) h = absurd h

  -- of a shape of each
  pub names_of_chains : (e : OpFault P) → IsJoinFault shape c d e → NamesShapes s u e
  names_of_chains F.Memory h = tt
  names_of_chains (F.Wide (Cross p q from to den)) h = (left.shapes p h.first, right.shapes q h.second)
  names_of_chains (F.Wide (Value p at den)) h = absurd h

  -- and a cause in the step over the chains is one in that over the signals
  pub cause_of_chains : (e : OpFault P) → HasCause shape (of_two (chains.IsWorth shape c) (chains.IsWorth shape d)) c.from.at (chains.stop c).at e
      → HasCause shape (of_two (IsWorth shape s) (IsWorth shape u)) (start s) (stop s) e
  cause_of_chains e = cause_along shape (of_two (chains.IsWorth shape c) (chains.IsWorth shape d)) (of_two (IsWorth shape s) (IsWorth shape u)) c.from.at
      (chains.stop c).at (start s) (stop s) e (record {
        begins = chain_begins left;
        ends = chain_ends left;
        forth = λ tau line a b i. of_two_along c.from.at (chains.stop c).at (start s) (stop s) (chains.IsWorth shape c) (IsWorth shape s)
            (chains.IsWorth shape d) (IsWorth shape u) (chain_on left (start s) (stop s) (chain_begins left) (chain_ends left))
            (chain_on right (start u) (stop u) (chain_begins right) (chain_ends right)) tau line i;
      })
