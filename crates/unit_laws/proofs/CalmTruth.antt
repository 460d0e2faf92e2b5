-- About a time that is no fraction with a small denominator each formula has one truth, if each of its atoms has.
use Rattle.std.proofs.Common.{ℕ, ◌≤◌, Bool, true, false}
use Rattle.rational.specs.Time.{Rational}
use Rattle.stl_syntax.specs.Trace.{Trace, start, stop}
use Rattle.stl_syntax.specs.Formula.{Subformula, constant, atom, negation, conjunction, disjunction}
use Rattle.stl_syntax.specs.Formula.{implication, until, eventually, always, since, once, historically}
use Rattle.bounds.proofs.NearTimes.{Move, by, ahead, behind, IsRare, rare_by}
use Rattle.bounds.proofs.CalmWindows.{Calm, calm_of_keeps, keeps_of_calm, Edge, edge_of_keeps, low_of}
use Rattle.bounds.proofs.CalmWindows.{calm_constant, calm_negation, calm_conjunction, calm_disjunction, calm_implication}
use Rattle.bounds.proofs.CalmWindows.{begins_eventually, ends_eventually, begins_always, ends_always, begins_once, ends_once}
use Rattle.bounds.proofs.CalmWindows.{begins_historically, ends_historically, begins_until, ends_until, begins_since, ends_since}

-- each atom of the formula has one truth about each such time
abbrev pub HasCalmAtoms : ℕ → Trace → Subformula → Type 0
HasCalmAtoms N tr (constant b) = Unit {0}
HasCalmAtoms N tr (atom i a) = (t : Rational) → IsRare N t → Calm (atom i a) tr t
HasCalmAtoms N tr (negation p) = HasCalmAtoms N tr p
HasCalmAtoms N tr (conjunction p q) = HasCalmAtoms N tr p × HasCalmAtoms N tr q
HasCalmAtoms N tr (disjunction p q) = HasCalmAtoms N tr p × HasCalmAtoms N tr q
HasCalmAtoms N tr (implication p q) = HasCalmAtoms N tr p × HasCalmAtoms N tr q
HasCalmAtoms N tr (until a b p q) = HasCalmAtoms N tr p × HasCalmAtoms N tr q
HasCalmAtoms N tr (eventually a b a_in b_in p) = HasCalmAtoms N tr p
HasCalmAtoms N tr (always a b a_in b_in p) = HasCalmAtoms N tr p
HasCalmAtoms N tr (since a b p q) = HasCalmAtoms N tr p × HasCalmAtoms N tr q
HasCalmAtoms N tr (once a b a_in b_in p) = HasCalmAtoms N tr p
HasCalmAtoms N tr (historically a b a_in b_in p) = HasCalmAtoms N tr p

module _ (N : ℕ) (some : 1 ≤ N) (tr : Trace) where
  -- such a time, moved, is no end of the trace, so what has one truth about it goes on there
  edge : (on : Bool) (p : Subformula) → ((u : Rational) → IsRare N u → Calm p tr u) → (t : Rational) (k : Move) → IsRare N t → Edge on p tr (by t k)
  edge on p f t k r =
      let u = by t k in
      let rare = rare_by N t k r in
      edge_of_keeps on p tr u (keeps_of_calm on p tr u (f u rare)) (rare (start tr) some) (rare (stop tr) some)

  -- a formula whose atoms have one truth about a time has one itself
  pub calm : (p : Subformula) → HasCalmAtoms N tr p → (t : Rational) → IsRare N t → Calm p tr t
  calm (constant b) ok t r = calm_constant tr b t
  calm (atom i a) ok t r = ok t r
  calm (negation p) ok t r = calm_negation tr p t (calm p ok t r)
  calm (conjunction p q) ok t r = calm_conjunction tr p q t (calm p ok.0 t r) (calm q ok.1 t r)
  calm (disjunction p q) ok t r = calm_disjunction tr p q t (calm p ok.0 t r) (calm q ok.1 t r)
  calm (implication p q) ok t r = calm_implication tr p q t (calm p ok.0 t r) (calm q ok.1 t r)
  calm (eventually a b i j p) ok t r =
      calm_of_keeps (eventually a b i j p) tr t (begins_eventually tr a b i j p t (edge true p (calm p ok) t (ahead a) r))
      (ends_eventually tr a b i j p t (edge false p (calm p ok) t (ahead b) r))
  calm (always a b i j p) ok t r =
      calm_of_keeps (always a b i j p) tr t (begins_always tr a b i j p t (edge true p (calm p ok) t (ahead b) r))
      (ends_always tr a b i j p t (edge false p (calm p ok) t (ahead a) r))
  calm (once a b i j p) ok t r =
      calm_of_keeps (once a b i j p) tr t (begins_once tr a b i j p t (edge true p (calm p ok) t (low_of t b) r))
      (ends_once tr a b i j p t (edge false p (calm p ok) t (behind a) r))
  calm (historically a b i j p) ok t r =
      calm_of_keeps (historically a b i j p) tr t (begins_historically tr a b i j p t (edge true p (calm p ok) t (behind a) r))
      (ends_historically tr a b i j p t (edge false p (calm p ok) t (low_of t b) r))
  calm (until a b p q) ok t r =
      let both = λ (u : Rational) (s : IsRare N u). calm_conjunction tr p q u (calm p ok.0 u s) (calm q ok.1 u s) in
      calm_of_keeps (until a b p q) tr t (begins_until tr a b p q t (edge true (conjunction p q) both t (ahead a) r))
      (ends_until tr a b p q t (keeps_of_calm false p tr t (calm p ok.0 t r)) (edge false q (calm q ok.1) t (ahead b) r))
  calm (since a b p q) ok t r =
      let both = λ (u : Rational) (s : IsRare N u). calm_conjunction tr p q u (calm p ok.0 u s) (calm q ok.1 u s) in
      calm_of_keeps (since a b p q) tr t
      (begins_since tr a b p q t (keeps_of_calm true p tr t (calm p ok.0 t r)) (edge true q (calm q ok.1) t (low_of t b) r))
      (ends_since tr a b p q t (edge false (conjunction p q) both t (behind a) r))
