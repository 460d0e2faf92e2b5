-- Where the truth of a formula turns, the time is a number that the program keeps, in the ticks of the trace too.
use Rattle.std.proofs.Common.{ℕ, ◌^◌, ◌<◌, List, [], ◌∷◌, arith, inl, inr}
use Rattle.std.specs.Prelude.{◌≢◌}
use Rattle.std.proofs.lemmas.Bool.{cases_lt}
use Rattle.rational.specs.Time.{Rational, ◌≈◌, Interval, closed}
use Rattle.rational.proofs.Order.{same_refl, same_sym, same_trans}
use Rattle.rational.proofs.Lowest.{has_denominator, denominator_same}
use Rattle.frac128.specs.Value.{value}
use Rattle.frac128.specs.Spans.{interval}
use Rattle.stl_syntax.specs.Trace.{Trace, start, stop, first_time, last_time}
use Rattle.stl_syntax.specs.Formula.{Subformula}
use Rattle.stl_syntax.specs.Verdicts.{IsTold, GoesOn, Describes}
use Rattle.stl_syntax.specs.declared.items.Verdict.{Verdict}
use Rattle.bounds.proofs.NearTimes.{Move, IsRare}
use Rattle.bounds.proofs.FormulaTurns.{not_turning}
use Rattle.bounds.proofs.VerdictTurns.{turns_between}
use Rattle.unit_laws.proofs.Clocks.{clock, unclock, clock-unclock, same_of_clock, unclock_same}
use Rattle.unit_laws.proofs.Recounts.{IsRecount}
use Rattle.unit_laws.proofs.FinerTrees.{finer_tree}
use Rattle.unit_laws.proofs.CalmTruth.{HasCalmAtoms, calm}
use Rattle.unit_laws.proofs.SmallFractions.{HasFrac, has_frac, has_whole, at_most_its_own}
use Rattle.unit_laws.proofs.VerdictsBack.{shown, shown_not_empty, told_at, HasEnds}

module _ (K : ℕ) (o : Move) (M : ℕ) (kp : 0 < K) (mp : 0 < M) {tr ur : Trace} (c : IsRecount K o M tr ur)
    (p : Subformula) (atoms : HasCalmAtoms (2 ^ 31) tr p) where
  abbrev r : Subformula
  r = finer_tree K M p

  -- between two verdicts the truth turns, so the time is no rare one
  turns : (v w : Verdict) → IsTold r ur v → IsTold r ur w → v.holds ≢ w.holds → value w.on.from ≈ value v.on.to
      → ¬ IsRare (2 ^ 31) (unclock K o kp (value v.on.to))
  turns v w h k apart e rare =
      let on = shown K o kp (interval v.on) in
      let next = shown K o kp (interval w.on) in
      not_turning p tr on.to (calm (2 ^ 31) (omega arith) tr p atoms on.to rare)
      (turns_between p tr on next v.holds w.holds (shown_not_empty K o kp (interval v.on) h.not_empty) (shown_not_empty K o kp (interval w.on) k.not_empty)
      apart (told_at K o M kp mp c p v h) (told_at K o M kp mp c p w k) (unclock_same K o kp e))

  -- so it is kept
  turn_kept : (v w : Verdict) → IsTold r ur v → IsTold r ur w → v.holds ≢ w.holds → value w.on.from ≈ value v.on.to
      → HasFrac (unclock K o kp (value v.on.to))
  turn_kept v w h k apart e =
      let t = unclock K o kp (value v.on.to) in
      let d = has_denominator t in
      elim (cases_lt d.0 (2 ^ 60)) [
        | inl small ↦ has_frac t d.0 d.1 small
        | inr large ↦ absurd (turns v w h k apart e
            (λ x few same. let m = at_most_its_own x d.0 (denominator_same d.0 same d.1) in omega (arith, m, few, large)))
      ]

  -- a time that the clock shows at a number that the program keeps
  kept_at : (x u t : Rational) → HasFrac t → x ≈ u → u ≈ clock K o t → HasFrac (unclock K o kp x)
  kept_at x u t has e f = record {
    frac = has.frac;
    same = same_trans has.same (same_sym (same_of_clock K o kp (same_trans (clock-unclock K o kp x) (same_trans e f))));
  }

  ends_go_on : (on other : Interval) → HasFrac on.to → other.to ≈ clock K o on.to → (v : Verdict) (verdicts : List Verdict) → IsTold r ur v
      → GoesOn r ur other v verdicts → HasFrac (unclock K o kp (value v.on.to)) × HasEnds K o kp verdicts
  ends_go_on on other has e v [] told h = (kept_at (value v.on.to) other.to on.to has h.time e, tt)
  ends_go_on on other has e v (w ∷ verdicts) told h =
      let to = turn_kept v w told h.2 h.1 h.0.time in
      let rest = ends_go_on on other has e w verdicts h.2 h.3 in
      (to, (record { frac = to.frac; same = same_trans to.same (same_sym (unclock_same K o kp h.0.time)) }, rest.0, rest.1))

  -- the ends of the verdicts of a stretch are numbers that the program keeps, where its own ends are
  pub stretch_ends : (on other : Interval) → HasFrac on.from → HasFrac on.to → other.from ≈ clock K o on.from → other.to ≈ clock K o on.to
      → (verdicts : List Verdict) → Describes verdicts r ur other → HasEnds K o kp verdicts
  stretch_ends on other from to e f [] h = tt
  stretch_ends on other from to e f (v ∷ verdicts) h =
      let rest = ends_go_on on other to f v verdicts h.1 h.2 in (kept_at (value v.on.from) other.from on.from from h.0.time e, rest.0, rest.1)

  -- and those of the domain
  pub has_ends : (verdicts : List Verdict) → Describes verdicts r ur (closed (start ur) (stop ur)) → HasEnds K o kp verdicts
  has_ends =
      stretch_ends (closed (start tr) (stop tr)) (closed (start ur) (stop ur)) (has_whole (start tr) (first_time tr.rows) (same_refl (start tr)))
      (has_whole (stop tr) (last_time 0 tr.rows) (same_refl (stop tr))) c.starts c.stops
