-- A formula whose atoms do not turn: for how long its truth does not.
use Rattle.std.specs.Prelude.{List, [], ◌∷◌, true}
use Rattle.rational.specs.Time.{Rational, ◌<ʳ◌, ◌≤ʳ◌, later, left_open}
use Rattle.rational.specs.Places.{begins, ends, Same}
use Rattle.frac128.specs.Spans.{interval}
use Rattle.stl_syntax.specs.Trace.{Trace, start, stop}
use Rattle.stl_syntax.specs.Formula.{Subformula, horizon, constant, atom, negation, conjunction, disjunction}
use Rattle.stl_syntax.specs.Formula.{implication, until, eventually, always, since, once, historically}
use Rattle.stl_syntax.specs.Truth.{Truth}
use Rattle.stl_syntax.specs.Verdicts.{Describes}
use Rattle.stl_syntax.specs.declared.items.Verdict.{Verdict}
use Rattle.online_nodes.specs.Truths.{Is}
use Rattle.bounds.specs.Turns.{looks_back}

-- at the times after lo, up to hi, the formula has one truth
abbrev pub StaysOn : Subformula → Trace → Rational → Rational → Type 0
StaysOn p tr lo hi = (u v : Rational) → lo <ʳ u → u ≤ʳ hi → lo <ʳ v → v ≤ʳ hi → Truth p tr u → Truth p tr v

-- so has each of its atoms
abbrev pub AtomsStay : Subformula → Trace → Rational → Rational → Type 0
AtomsStay (constant b) tr lo hi = Unit {0}
AtomsStay (atom i a) tr lo hi = StaysOn (atom i a) tr lo hi
AtomsStay (negation p) tr lo hi = AtomsStay p tr lo hi
AtomsStay (conjunction p q) tr lo hi = AtomsStay p tr lo hi × AtomsStay q tr lo hi
AtomsStay (disjunction p q) tr lo hi = AtomsStay p tr lo hi × AtomsStay q tr lo hi
AtomsStay (implication p q) tr lo hi = AtomsStay p tr lo hi × AtomsStay q tr lo hi
AtomsStay (until a b p q) tr lo hi = AtomsStay p tr lo hi × AtomsStay q tr lo hi
AtomsStay (eventually a b a_in b_in p) tr lo hi = AtomsStay p tr lo hi
AtomsStay (always a b a_in b_in p) tr lo hi = AtomsStay p tr lo hi
AtomsStay (since a b p q) tr lo hi = AtomsStay p tr lo hi × AtomsStay q tr lo hi
AtomsStay (once a b a_in b_in p) tr lo hi = AtomsStay p tr lo hi
AtomsStay (historically a b a_in b_in p) tr lo hi = AtomsStay p tr lo hi

-- where the atoms of a formula do not turn on a stretch of the trace, the formula does not turn on that stretch less its reach: after so long as it
-- looks back, and up to its horizon before the end. A window with no end counts with its other bound alone
abbrev pub SteadyAtomsKeepTruths : Type 0
SteadyAtomsKeepTruths =
    (p : Subformula) (tr : Trace) (from to : Rational) → start tr ≤ʳ from → to ≤ʳ stop tr → AtomsStay p tr from to → (lo hi : Rational)
    → later from (looks_back p) ≤ʳ lo → later hi (horizon p) ≤ʳ to → StaysOn p tr lo hi

-- where the atoms do not turn after some time, to which the formula looks back from no time after g, one verdict describes it after g, up to a time f
-- that its horizon leaves within the trace: with the truth that it has at g
abbrev pub SteadyAtomsAnswerOnce : Type 0
SteadyAtomsAnswerOnce =
    (p : Subformula) (tr : Trace) (from g f : Rational) (v : Verdict) → start tr ≤ʳ from → AtomsStay p tr from (stop tr)
    → later from (looks_back p) <ʳ g → g <ʳ f → later f (horizon p) ≤ʳ stop tr → Is v.holds (Truth p tr) g
    → Same (record { at = g; after = true }) (begins (interval v.on)) → Same (ends (interval v.on)) (record { at = f; after = true })
    → Describes (v ∷ []) p tr (left_open g f)
