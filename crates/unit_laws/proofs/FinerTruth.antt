-- The truth by another clock.
use Rattle.std.proofs.Common.{ℕ, ◌<◌, true}
use Rattle.std.specs.Prelude.{◌↔◌}
use Rattle.rational.specs.Time.{Rational}
use Rattle.rational.proofs.Tests.{either}
use Rattle.stl_syntax.specs.Trace.{Trace, start, stop}
use Rattle.stl_syntax.specs.Formula.{Subformula, constant, atom, negation, conjunction, disjunction}
use Rattle.stl_syntax.specs.Formula.{implication, until, eventually, always, since, once, historically}
use Rattle.stl_syntax.specs.Truth.{Truth}
use Rattle.stl_syntax.proofs.TruthLemmas.{Truth-same}
use Rattle.bounds.proofs.NearTimes.{Move}
use Rattle.unit_laws.proofs.Clocks.{clock}
use Rattle.unit_laws.proofs.FinerTrees.{finer_tree}
use Rattle.unit_laws.proofs.Recounts.{IsRecount, holds_by}
use Rattle.unit_laws.proofs.ClockWindows.{AreEnds}
use Rattle.unit_laws.proofs.ByTheClock.{Carries, some_of, every_of, ahead_shown, behind_shown, until_of, since_of}

module _ (K : ℕ) (o : Move) (M : ℕ) (kp : 0 < K) (mp : 0 < M) {tr ur : Trace} (c : IsRecount K o M tr ur) where
  -- the ends of the trace by the clock
  pub ends : AreEnds K o (start tr) (stop tr) (start ur) (stop ur)
  ends = record { from_same = c.starts; to_same = c.stops }

  carries : (p : Subformula) → ((u : Rational) → Truth p tr u ↔ Truth (finer_tree K M p) ur (clock K o u))
      → Carries K o kp (Truth p tr) (Truth (finer_tree K M p) ur)
  carries p h = record { forth = λ u. (h u).0; back = λ u. (h u).1; same = λ u v e x. Truth-same (finer_tree K M p) ur e x }

  -- the truth is that by the clock
  pub truth_by : (p : Subformula) (t : Rational) → Truth p tr t ↔ Truth (finer_tree K M p) ur (clock K o t)
  truth_by (constant b) t = (λ h. h, λ h. h)
  truth_by (atom i a) t = holds_by K o M mp c a t
  truth_by (negation p) t = let s = truth_by p t in (λ h k. h (s.1 k), λ h k. h (s.0 k))
  truth_by (conjunction p q) t = let s = truth_by p t in let u = truth_by q t in (λ h. (s.0 h.0, u.0 h.1), λ h. (s.1 h.0, u.1 h.1))
  truth_by (disjunction p q) t = let s = truth_by p t in let u = truth_by q t in (either s.0 u.0, either s.1 u.1)
  truth_by (implication p q) t = let s = truth_by p t in let u = truth_by q t in (λ h k. u.0 (h (s.1 k)), λ h k. u.1 (h (s.0 k)))
  truth_by (eventually a b i j p) t = some_of K o kp (ahead_shown K o kp ends a b i j t) (carries p (λ u. truth_by p u))
  truth_by (always a b i j p) t = every_of K o kp (ahead_shown K o kp ends a b i j t) (carries p (λ u. truth_by p u))
  truth_by (once a b i j p) t = some_of K o kp (behind_shown K o kp ends a b i j t) (carries p (λ u. truth_by p u))
  truth_by (historically a b i j p) t = every_of K o kp (behind_shown K o kp ends a b i j t) (carries p (λ u. truth_by p u))
  truth_by (until a b p q) t =
      until_of K o kp (ahead_shown K o kp ends a b true true t) (carries p (λ u. truth_by p u)) (carries q (λ u. truth_by q u)) t
  truth_by (since a b p q) t =
      since_of K o kp (behind_shown K o kp ends a b true true t) (carries p (λ u. truth_by p u)) (carries q (λ u. truth_by q u)) t
