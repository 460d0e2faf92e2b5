-- Since and until of the chains of two signals are those of the signals: their values, the bases of their shapes, and what is refused.
use Rattle.std.proofs.Common.{◌⊎◌, inl, inr, List}
use Rattle.std.specs.Prelude.{◌↔◌}
use Rattle.rational.specs.Time.{Rational, Within, ◌≈◌}
use Rattle.rational.specs.Extended.{Extended}
use Rattle.rational.specs.Windows.{Function, Window, IsDownTo, IsInfOver, IsSince, IsUntil, IsUpTo}
use Rattle.rational.proofs.Order.{same_refl, same_sym}
use Rattle.rational.proofs.WindowLemmas.{inf_alike, sup_alike}
use Rattle.value_laws.specs.Members.{ShapeOf}
use Rattle.pl_signal.specs.declared.faults.WidePair.TheVariants.{Cross, Value}
use Rattle.pl_signal.specs.declared.faults.OpFault.{OpFault}
use Rattle.pl_signal.specs.declared.faults.OpFault.TheVariants as F
use Rattle.pl_signal.specs.declared.knot.Knot.{Knot}
use Rattle.pl_signal.specs.Knots.{start, stop, HasShape, IsWorth}
use Rattle.pl_signal.specs.Wide.{HasCause}
use Rattle.courses.specs.Pairs.{IsPairWithin}
use Rattle.pieces.specs.Chains as chains
use Rattle.pieces.specs.Chains.{Chain}
use Rattle.pieces.specs.Sinces as of_chains
use Rattle.pieces.proofs.PlayAlong.{cause_along, since_along, until_along}
use Rattle.pieces.proofs.SignalChains.{IsChainOf, chain_begins, chain_ends, chain_on, chains_begin, chains_end}
use Rattle.pieces.proofs.Stretches.{within_same_ends}
use Rattle.until_ops.specs.Untils.{BasesOfTwo, SinceOf, SinceStep, UntilOf, UntilStep}

-- two functions that are one
abbrev AreOne : Function → Function → Type 0
AreOne F G = (t : Rational) (v : Extended) → F t v ↔ G t v

-- the two the other way round
turned : (F G : Function) → AreOne F G → AreOne G F
turned F G one t v = ((one t v).1, (one t v).0)

module _ (highest : Extended) (P P' Q Q' : Function) (left : AreOne P P') (right : AreOne Q Q') where
  inf_same : (W : Window) (y : Extended) → IsInfOver highest W P y → IsInfOver highest W P' y
  inf_same W y = inf_alike highest y (λ z (a, j, f). (a, j, (left a z).0 f)) (λ z (a, j, f). (a, j, (left a z).1 f))

  down_same : (t u : Rational) (w : Extended) → IsDownTo highest P Q t u w → IsDownTo highest P' Q' t u w
  down_same t u w (x, y, q, p, l) = (x, y, (right u x).0 q, inf_same (Within u t) y p, l)

  up_same : (t u : Rational) (w : Extended) → IsUpTo highest P Q t u w → IsUpTo highest P' Q' t u w
  up_same t u w (x, y, q, p, l) = (x, y, (right u x).0 q, inf_same (Within t u) y p, l)

module _ (lowest highest : Extended) (P P' Q Q' : Function) (left : AreOne P P') (right : AreOne Q Q') where
  -- a since of functions is that of others that are the same
  since_alike : (W W' : Window) → ((u : Rational) → W u → W' u) → ((u : Rational) → W' u → W u) → (t : Rational) (v : Extended)
      → IsSince lowest highest W P Q t v → IsSince lowest highest W' P' Q' t v
  since_alike W W' into out t v = sup_alike lowest v (λ w (u, i, d). (u, into u i, down_same highest P P' Q Q' left right t u w d))
      (λ w (u, i, d). (u, out u i, down_same highest P' P Q' Q (turned P P' left) (turned Q Q' right) t u w d))

  -- and so is an until
  until_alike : (W W' : Window) → ((u : Rational) → W u → W' u) → ((u : Rational) → W' u → W u) → (t : Rational) (v : Extended)
      → IsUntil lowest highest W P Q t v → IsUntil lowest highest W' P' Q' t v
  until_alike W W' into out t v = sup_alike lowest v (λ w (u, i, d). (u, into u i, up_same highest P P' Q Q' left right t u w d))
      (λ w (u, i, d). (u, out u i, up_same highest P' P Q' Q (turned P P' left) (turned Q Q' right) t u w d))

module _ {P : Type 0} (shape : ShapeOf P) (p q : List (Knot P)) (c d : Chain P) (left : IsChainOf shape p c) (right : IsChainOf shape q d) where
  -- the since of the chains is that of the signals
  pub since_of_chains : AreOne (of_chains.SinceOf shape c d) (SinceOf shape p q)
  since_of_chains t v = (
    since_alike shape.lowest shape.highest (chains.IsWorth shape c) (IsWorth shape p) (chains.IsWorth shape d) (IsWorth shape q) left.alike right.alike
        (Within c.from.at t) (Within (start p) t) (λ u w. within_same_ends (chain_begins left) (same_refl t) w)
        (λ u w. within_same_ends (same_sym (chain_begins left)) (same_refl t) w) t v,
    since_alike shape.lowest shape.highest (IsWorth shape p) (chains.IsWorth shape c) (IsWorth shape q) (chains.IsWorth shape d)
        (turned (chains.IsWorth shape c) (IsWorth shape p) left.alike) (turned (chains.IsWorth shape d) (IsWorth shape q) right.alike)
        (Within (start p) t) (Within c.from.at t) (λ u w. within_same_ends (same_sym (chain_begins left)) (same_refl t) w)
        (λ u w. within_same_ends (chain_begins left) (same_refl t) w) t v,
  )

  -- and so is the until
  pub until_of_chains : AreOne (of_chains.UntilOf shape c d) (UntilOf shape p q)
  until_of_chains t v = (
    until_alike shape.lowest shape.highest (chains.IsWorth shape c) (IsWorth shape p) (chains.IsWorth shape d) (IsWorth shape q) left.alike right.alike
        (Within t (chains.stop c).at) (Within t (stop p)) (λ u w. within_same_ends (same_refl t) (chain_ends left) w)
        (λ u w. within_same_ends (same_refl t) (same_sym (chain_ends left)) w) t v,
    until_alike shape.lowest shape.highest (IsWorth shape p) (chains.IsWorth shape c) (IsWorth shape q) (chains.IsWorth shape d)
        (turned (chains.IsWorth shape c) (IsWorth shape p) left.alike) (turned (chains.IsWorth shape d) (IsWorth shape q) right.alike)
        (Within t (stop p)) (Within t (chains.stop c).at) (λ u w. within_same_ends (same_refl t) (same_sym (chain_ends left)) w)
        (λ u w. within_same_ends (same_refl t) (chain_ends left) w) t v,
  )

  -- the bases of the shapes come from the signals
  pub bases_of_chains : (r : Chain P) (x : List (Knot P)) → of_chains.BasesOfTwo shape c d r → ((y : P) → HasShape x y → chains.HasShape r y)
      → BasesOfTwo shape p q x
  bases_of_chains r x bases shapes y h m = let old = bases y (shapes y h) m in (old.0, by_side old.0 old.1, old.2, old.3)
    where
      by_side : (y : P) → chains.HasShape c y ⊎ chains.HasShape d y → HasShape p y ⊎ HasShape q y
      by_side y (inl h) = inl (left.shapes y h)
      by_side y (inr h) = inr (right.shapes y h)

  -- the times of a pair lie in the domain of the signals
  pub pair_of_chains : (e : OpFault P) → IsPairWithin c.from.at (chains.stop c).at e → IsPairWithin (start p) (stop p) e
  pair_of_chains F.Memory h = tt
  pair_of_chains (F.Wide (Cross x y a b den)) h =
      (within_same_ends (chain_begins left) (chain_ends left) h.0, within_same_ends (chain_begins left) (chain_ends left) h.1)
  pair_of_chains (F.Wide (Value x at den)) h = within_same_ends (chain_begins left) (chain_ends left) h

  module _ (begins : start p ≈ start q) (ends : stop p ≈ stop q) where
    -- a cause in the step of the since over the chains is one in that over the signals
    pub since_cause_of_chains : (e : OpFault P) → HasCause shape (of_chains.SinceStep shape c d) c.from.at (chains.stop c).at e
        → HasCause shape (SinceStep shape p q) (start p) (stop p) e
    since_cause_of_chains e = cause_along shape (of_chains.SinceStep shape c d) (SinceStep shape p q) c.from.at (chains.stop c).at (start p) (stop p) e
        (record {
          begins = chain_begins left;
          ends = chain_ends left;
          forth = λ tau line a b i. since_along c.from.at (chains.stop c).at (start p) (stop p) (chain_begins left) (chain_ends left)
              (chains.IsWorth shape c) (IsWorth shape p) (chains.IsWorth shape d) (IsWorth shape q) (of_chains.SinceOf shape c d) (SinceOf shape p q)
              (chain_on left c.from.at (chains.stop c).at (same_refl c.from.at) (same_refl (chains.stop c).at))
              (chain_on right c.from.at (chains.stop c).at (same_sym (chains_begin left right begins).0) (same_sym (chains_end left right ends).0))
              (record { forth = λ t v w. (since_of_chains t v).0 }) tau line b i;
        })

    -- and so for the until
    pub until_cause_of_chains : (e : OpFault P) → HasCause shape (of_chains.UntilStep shape c d) c.from.at (chains.stop c).at e
        → HasCause shape (UntilStep shape p q) (start p) (stop p) e
    until_cause_of_chains e = cause_along shape (of_chains.UntilStep shape c d) (UntilStep shape p q) c.from.at (chains.stop c).at (start p) (stop p) e
        (record {
          begins = chain_begins left;
          ends = chain_ends left;
          forth = λ tau line a b i. until_along c.from.at (chains.stop c).at (start p) (stop p) (chain_begins left) (chain_ends left)
              (chains.IsWorth shape c) (IsWorth shape p) (chains.IsWorth shape d) (IsWorth shape q) (of_chains.UntilOf shape c d) (UntilOf shape p q)
              (chain_on left c.from.at (chains.stop c).at (same_refl c.from.at) (same_refl (chains.stop c).at))
              (chain_on right c.from.at (chains.stop c).at (same_sym (chains_begin left right begins).0) (same_sym (chains_end left right ends).0))
              (record { forth = λ t v w. (until_of_chains t v).0 }) tau line a i;
        })
