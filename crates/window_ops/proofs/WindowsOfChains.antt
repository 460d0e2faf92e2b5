-- A window over the chain of a signal is that over the signal: the Sup and the Inf, the bases of their shapes, and what is refused.
use Rattle.std.proofs.Common.{◌^◌, ◌-◌, ℕ, pos, Bool, List, arith}
use Rattle.std.specs.Prelude.{◌↔◌, Option, None, Some}
use Rattle.std.proofs.lemmas.Int.{ints}
use Rattle.rational.specs.Time.{Rational, ◌≤ʳ◌, ◌<ʳ◌}
use Rattle.rational.specs.Rational.{whole}
use Rattle.rational.specs.Extended.{Extended}
use Rattle.rational.specs.InPlay.{window_ahead, window_behind}
use Rattle.rational.specs.Windows.{Ahead, Behind, IsInfOver, IsSupOver, Window}
use Rattle.rational.proofs.Order.{le_of_same, ge_of_same, le_trans, lt_of_le_of_lt, same_refl, same_sym}
use Rattle.rational.proofs.Shift.{lt_whole}
use Rattle.rational.proofs.WindowLemmas.{inf_alike, sup_alike}
use Rattle.value_laws.specs.Members.{ShapeOf}
use Rattle.pl_signal.specs.declared.faults.OpFault.{OpFault}
use Rattle.pl_signal.specs.declared.knot.Knot.{Knot}
use Rattle.pl_signal.specs.Knots.{start, stop, HasShape, IsWorth}
use Rattle.pl_signal.specs.Wide.{HasCause}
use Rattle.pieces.specs.Chains as chains
use Rattle.pieces.specs.Chains.{Chain}
use Rattle.pieces.specs.Over as of_chains
use Rattle.pieces.specs.Windows as of_windows
use Rattle.pieces.specs.Windows.{InfAhead, InfBehind, SupAhead, SupBehind}
use Rattle.pieces.proofs.PlayAlong.{ahead_along, ahead_ends, behind_along, behind_ends, cause_along}
use Rattle.pieces.proofs.SignalChains.{IsChainOf, chain_begins, chain_ends, chain_on}
use Rattle.window_ops.specs.Conditions.{AreNear, BasesAhead, BasesBehind}

-- what ends by a tick ends before the next one
pub before_next_tick : {t : Rational} → t ≤ʳ whole (pos (2 ^ 32 - 1)) → t <ʳ whole (pos (2 ^ 32))
before_next_tick h = lt_of_le_of_lt h (lt_whole {j = pos (2 ^ 32 - 1)} {k = pos (2 ^ 32)} (omega (arith, ints)))

module _ {P : Type 0} (shape : ShapeOf P) (s : List (Knot P)) (c : Chain P) (is : IsChainOf shape s c) where
  -- the bases of the chain are near where those of the signal are
  pub near_chain : AreNear shape s → of_windows.AreNear shape c
  near_chain near p h = near p (is.shapes p h)

  -- the chain begins no earlier than 0 where the signal does
  pub first_of_chain : whole (pos 0) ≤ʳ start s → whole (pos 0) ≤ʳ c.from.at
  first_of_chain h = le_trans h (ge_of_same (chain_begins is))

  -- and ends earlier than the signal may not
  pub last_of_chain : stop s <ʳ whole (pos (2 ^ 32)) → (chains.stop c).at <ʳ whole (pos (2 ^ 32))
  last_of_chain h = lt_of_le_of_lt (le_of_same (chain_ends is)) h

  sup_over : (lowest v : Extended) (W W' : Window) → ((u : Rational) → W u → W' u) → ((u : Rational) → W' u → W u)
      → IsSupOver lowest W (chains.IsWorth shape c) v ↔ IsSupOver lowest W' (IsWorth shape s) v
  sup_over lowest v W W' into out = (
    sup_alike lowest v (λ w (u, i, f). (u, into u i, (is.alike u w).0 f)) (λ w (u, i, f). (u, out u i, (is.alike u w).1 f)),
    sup_alike lowest v (λ w (u, i, f). (u, out u i, (is.alike u w).1 f)) (λ w (u, i, f). (u, into u i, (is.alike u w).0 f)),
  )

  inf_over : (highest v : Extended) (W W' : Window) → ((u : Rational) → W u → W' u) → ((u : Rational) → W' u → W u)
      → IsInfOver highest W (chains.IsWorth shape c) v ↔ IsInfOver highest W' (IsWorth shape s) v
  inf_over highest v W W' into out = (
    inf_alike highest v (λ w (u, i, f). (u, into u i, (is.alike u w).0 f)) (λ w (u, i, f). (u, out u i, (is.alike u w).1 f)),
    inf_alike highest v (λ w (u, i, f). (u, out u i, (is.alike u w).1 f)) (λ w (u, i, f). (u, into u i, (is.alike u w).0 f)),
  )

  module _ (a b : ℕ) (a_in b_in : Bool) where
    ahead : (t u : Rational) → Ahead c.from.at (chains.stop c).at a b a_in b_in t u → Ahead (start s) (stop s) a b a_in b_in t u
    ahead t u w = ahead_ends c.from.at (chains.stop c).at (start s) (stop s) (chain_begins is) (chain_ends is) w

    ahead_back : (t u : Rational) → Ahead (start s) (stop s) a b a_in b_in t u → Ahead c.from.at (chains.stop c).at a b a_in b_in t u
    ahead_back t u w = ahead_ends (start s) (stop s) c.from.at (chains.stop c).at (same_sym (chain_begins is)) (same_sym (chain_ends is)) w

    -- the Sup ahead
    pub sup_ahead_of_chain : (lowest : Extended) (t : Rational) (v : Extended)
        → SupAhead c.from.at (chains.stop c).at (chains.IsWorth shape c) lowest a b a_in b_in t v
        ↔ SupAhead (start s) (stop s) (IsWorth shape s) lowest a b a_in b_in t v
    sup_ahead_of_chain lowest t v = sup_over lowest v (Ahead c.from.at (chains.stop c).at a b a_in b_in t) (Ahead (start s) (stop s) a b a_in b_in t)
        (ahead t) (ahead_back t)

    -- the Inf ahead
    pub inf_ahead_of_chain : (highest : Extended) (t : Rational) (v : Extended)
        → InfAhead c.from.at (chains.stop c).at (chains.IsWorth shape c) highest a b a_in b_in t v
        ↔ InfAhead (start s) (stop s) (IsWorth shape s) highest a b a_in b_in t v
    inf_ahead_of_chain highest t v = inf_over highest v (Ahead c.from.at (chains.stop c).at a b a_in b_in t) (Ahead (start s) (stop s) a b a_in b_in t)
        (ahead t) (ahead_back t)

    -- a cause in the step over the chain is one in that over the signal
    pub ahead_cause_of_chain : (e : OpFault P)
        → HasCause shape (window_ahead (chains.IsWorth shape c) a b a_in b_in) c.from.at (chains.stop c).at e
        → HasCause shape (window_ahead (IsWorth shape s) a b a_in b_in) (start s) (stop s) e
    ahead_cause_of_chain e = cause_along shape (window_ahead (chains.IsWorth shape c) a b a_in b_in) (window_ahead (IsWorth shape s) a b a_in b_in)
        c.from.at (chains.stop c).at (start s) (stop s) e (record {
          begins = chain_begins is;
          ends = chain_ends is;
          forth = λ tau line l r i. ahead_along c.from.at (chains.stop c).at (start s) (stop s) (chain_begins is) (chain_ends is) (chains.IsWorth shape c)
              (IsWorth shape s) (chain_on is c.from.at (chains.stop c).at (same_refl c.from.at) (same_refl (chains.stop c).at)) a b a_in b_in tau line i;
        })

  -- each moving shape has the base of one of the signal, less one of the bounds
  pub bases_ahead_of_chain : (a b : ℕ) (r : Chain P) (x : List (Knot P)) → of_chains.BasesAhead shape a b c r
      → ((p : P) → HasShape x p → chains.HasShape r p) → BasesAhead shape a b s x
  bases_ahead_of_chain a b r x bases shapes p h m = let old = bases p (shapes p h) m in (old.0, is.shapes old.0 old.1, old.2, old.3)

  module _ (a : ℕ) (b : Option ℕ) (a_in b_in : Bool) where
    behind : (t u : Rational) → Behind c.from.at (chains.stop c).at a b a_in b_in t u → Behind (start s) (stop s) a b a_in b_in t u
    behind t u w = behind_ends c.from.at (chains.stop c).at (start s) (stop s) (chain_begins is) (chain_ends is) w

    behind_back : (t u : Rational) → Behind (start s) (stop s) a b a_in b_in t u → Behind c.from.at (chains.stop c).at a b a_in b_in t u
    behind_back t u w = behind_ends (start s) (stop s) c.from.at (chains.stop c).at (same_sym (chain_begins is)) (same_sym (chain_ends is)) w

    -- the Sup behind
    pub sup_behind_of_chain : (lowest : Extended) (t : Rational) (v : Extended)
        → SupBehind c.from.at (chains.stop c).at (chains.IsWorth shape c) lowest a b a_in b_in t v
        ↔ SupBehind (start s) (stop s) (IsWorth shape s) lowest a b a_in b_in t v
    sup_behind_of_chain lowest t v = sup_over lowest v (Behind c.from.at (chains.stop c).at a b a_in b_in t) (Behind (start s) (stop s) a b a_in b_in t)
        (behind t) (behind_back t)

    -- the Inf behind
    pub inf_behind_of_chain : (highest : Extended) (t : Rational) (v : Extended)
        → InfBehind c.from.at (chains.stop c).at (chains.IsWorth shape c) highest a b a_in b_in t v
        ↔ InfBehind (start s) (stop s) (IsWorth shape s) highest a b a_in b_in t v
    inf_behind_of_chain highest t v = inf_over highest v (Behind c.from.at (chains.stop c).at a b a_in b_in t) (Behind (start s) (stop s) a b a_in b_in t)
        (behind t) (behind_back t)

    -- a cause in the step over the chain is one in that over the signal
    pub behind_cause_of_chain : (e : OpFault P)
        → HasCause shape (window_behind (chains.IsWorth shape c) a b a_in b_in) c.from.at (chains.stop c).at e
        → HasCause shape (window_behind (IsWorth shape s) a b a_in b_in) (start s) (stop s) e
    behind_cause_of_chain e = cause_along shape (window_behind (chains.IsWorth shape c) a b a_in b_in) (window_behind (IsWorth shape s) a b a_in b_in)
        c.from.at (chains.stop c).at (start s) (stop s) e (record {
          begins = chain_begins is;
          ends = chain_ends is;
          forth = λ tau line l r i. behind_along c.from.at (chains.stop c).at (start s) (stop s) (chain_begins is) (chain_ends is) (chains.IsWorth shape c)
              (IsWorth shape s) (chain_on is c.from.at (chains.stop c).at (same_refl c.from.at) (same_refl (chains.stop c).at)) a b a_in b_in tau line i;
        })

  -- and each moving shape has the base of one of the signal and one of the finite bounds
  pub bases_behind_of_chain : (a : ℕ) (b : Option ℕ) (r : Chain P) (x : List (Knot P)) → of_chains.BasesBehind shape a b c r
      → ((p : P) → HasShape x p → chains.HasShape r p) → BasesBehind shape a b s x
  bases_behind_of_chain a None r x bases shapes = λ p h m. let old = bases p (shapes p h) m in (old.0, is.shapes old.0 old.1, old.2, old.3)
  bases_behind_of_chain a (Some b) r x bases shapes = λ p h m. let old = bases p (shapes p h) m in (old.0, is.shapes old.0 old.1, old.2, old.3)
