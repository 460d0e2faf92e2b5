-- How often the truth of a formula turns within a stretch of time, by the rows that lie in the stretch and about it.
use Rattle.std.specs.Prelude.{ℕ, suc, ◌+◌, ◌*◌, ◌≤◌, max, not, ◌&&◌, Bool, if◌then◌else◌, List, [], ◌∷◌, length, Option, Some, None}
use Rattle.rational.specs.Time.{Rational, ◌<ʳ◌, less, later, Within, Interval}
use Rattle.stl_syntax.specs.Trace.{Row, Trace, row_time}
use Rattle.stl_syntax.specs.Formula.{Subformula, constant, atom, negation, conjunction, disjunction}
use Rattle.stl_syntax.specs.Formula.{implication, until, eventually, always, since, once, historically}
use Rattle.stl_syntax.specs.Truth.{Truth}
use Rattle.stl_syntax.specs.Cells.{AreRisingTimes}
use Rattle.stl_syntax.specs.Verdicts.{Describes}
use Rattle.stl_syntax.specs.declared.items.Verdict.{Verdict}

-- the formula has one truth from one time to another, both ends out
abbrev pub IsOneTruth : Subformula → Trace → Rational → Rational → Type 0
IsOneTruth p tr from to = (u v : Rational) → from <ʳ u → u <ʳ to → from <ʳ v → v <ʳ to → Truth p tr u → Truth p tr v

-- the truth turns at t: on no stretch about t, however short, is it one
abbrev pub Turns : Subformula → Trace → Rational → Type 0
Turns p tr t = (from to : Rational) → from <ʳ t → t <ʳ to → ¬ IsOneTruth p tr from to

-- at each of the times the truth turns, and each lies from lo to hi
abbrev pub AreTurns : Subformula → Trace → Rational → Rational → List Rational → Type 0
AreTurns p tr lo hi [] = Unit {0}
AreTurns p tr lo hi (t ∷ times) = Turns p tr t × Within lo hi t × AreTurns p tr lo hi times

-- t lies from lo to hi, as a test
abbrev pub is_within : Rational → Rational → Rational → Bool
is_within lo hi t = not (less t lo) && not (less hi t)

-- how many of the rows lie from lo to hi
abbrev pub rows_within : Rational → Rational → List Row → ℕ
rows_within lo hi [] = 0
rows_within lo hi (r ∷ rows) = if is_within lo hi (row_time r) then suc (rows_within lo hi rows) else rows_within lo hi rows

-- a time k ticks earlier
abbrev pub earlier : Rational → ℕ → Rational
earlier t k = record { up = t.up; down = t.down + k * t.den; den = t.den; positive = t.positive }

-- how far the formula looks ahead, with each window inside another added
abbrev pub looks_ahead : Subformula → ℕ
looks_ahead (constant b) = 0
looks_ahead (atom i a) = 0
looks_ahead (negation p) = looks_ahead p
looks_ahead (conjunction p q) = max (looks_ahead p) (looks_ahead q)
looks_ahead (disjunction p q) = max (looks_ahead p) (looks_ahead q)
looks_ahead (implication p q) = max (looks_ahead p) (looks_ahead q)
looks_ahead (until a b p q) = max a b + max (looks_ahead p) (looks_ahead q)
looks_ahead (eventually a b a_in b_in p) = max a b + looks_ahead p
looks_ahead (always a b a_in b_in p) = max a b + looks_ahead p
looks_ahead (since a b p q) = max (looks_ahead p) (looks_ahead q)
looks_ahead (once a b a_in b_in p) = looks_ahead p
looks_ahead (historically a b a_in b_in p) = looks_ahead p

-- the bounds of a window behind: the greater one; with no end, the one that it has
abbrev pub far : ℕ → Option ℕ → ℕ
far a None = a
far a (Some b) = max a b

-- how far back the times lie at which a turn of an input can be a turn of the formula; a window with no end is no farther than where it begins
abbrev pub looks_back : Subformula → ℕ
looks_back (constant b) = 0
looks_back (atom i a) = 0
looks_back (negation p) = looks_back p
looks_back (conjunction p q) = max (looks_back p) (looks_back q)
looks_back (disjunction p q) = max (looks_back p) (looks_back q)
looks_back (implication p q) = max (looks_back p) (looks_back q)
looks_back (until a b p q) = max (looks_back p) (looks_back q)
looks_back (eventually a b a_in b_in p) = looks_back p
looks_back (always a b a_in b_in p) = looks_back p
looks_back (since a b p q) = far a b + max (looks_back p) (looks_back q)
looks_back (once a b a_in b_in p) = far a b + looks_back p
looks_back (historically a b a_in b_in p) = far a b + looks_back p

-- how often the truth can begin for a row, and how often it can end: of an atom at the row and between it and the next; of a window where its input
-- does, moved by the bound that goes by, and where that bound comes to the start or the end of the trace; of until and since where an input does
abbrev pub begins_for_a_row : Subformula → ℕ
begins_for_a_row (constant b) = 0
begins_for_a_row (atom i a) = 2
begins_for_a_row (negation p) = begins_for_a_row p
begins_for_a_row (conjunction p q) = begins_for_a_row p + begins_for_a_row q
begins_for_a_row (disjunction p q) = begins_for_a_row p + begins_for_a_row q
begins_for_a_row (implication p q) = begins_for_a_row p + begins_for_a_row q
begins_for_a_row (until a b p q) = begins_for_a_row p + begins_for_a_row q + 2
begins_for_a_row (eventually a b a_in b_in p) = begins_for_a_row p + 2
begins_for_a_row (always a b a_in b_in p) = begins_for_a_row p + 2
begins_for_a_row (since a b p q) = begins_for_a_row p + begins_for_a_row q + 2
begins_for_a_row (once a b a_in b_in p) = begins_for_a_row p + 2
begins_for_a_row (historically a b a_in b_in p) = begins_for_a_row p + 2

-- how often the truth can turn for a row: an atom at the row and between it and the next, a connective where an input does, and any other formula
-- where it begins or ends
abbrev pub turns_for_a_row : Subformula → ℕ
turns_for_a_row (constant b) = 0
turns_for_a_row (atom i a) = 2
turns_for_a_row (negation p) = turns_for_a_row p
turns_for_a_row (conjunction p q) = turns_for_a_row p + turns_for_a_row q
turns_for_a_row (disjunction p q) = turns_for_a_row p + turns_for_a_row q
turns_for_a_row (implication p q) = turns_for_a_row p + turns_for_a_row q
turns_for_a_row (until a b p q) = 2 * begins_for_a_row (until a b p q)
turns_for_a_row (eventually a b a_in b_in p) = 2 * begins_for_a_row (eventually a b a_in b_in p)
turns_for_a_row (always a b a_in b_in p) = 2 * begins_for_a_row (always a b a_in b_in p)
turns_for_a_row (since a b p q) = 2 * begins_for_a_row (since a b p q)
turns_for_a_row (once a b a_in b_in p) = 2 * begins_for_a_row (once a b a_in b_in p)
turns_for_a_row (historically a b a_in b_in p) = 2 * begins_for_a_row (historically a b a_in b_in p)

-- how many rows lie from lo to hi, and in the reach of the formula before and after
abbrev pub rows_about : Subformula → Trace → Rational → Rational → ℕ
rows_about p tr lo hi = rows_within (earlier lo (looks_back p)) (later hi (looks_ahead p)) tr.rows

-- a formula turns from lo to hi at no more times than so many for each row there and about, and for one more
abbrev pub TurnsAreFew : Type 0
TurnsAreFew =
    (p : Subformula) (tr : Trace) (lo hi : Rational) (times : List Rational) → AreRisingTimes times → AreTurns p tr lo hi times
    → length times ≤ turns_for_a_row p * suc (rows_about p tr lo hi)

-- and so many verdicts describe it there
abbrev pub VerdictsAreFew : Type 0
VerdictsAreFew =
    (p : Subformula) (tr : Trace) (stretch : Interval) (verdicts : List Verdict) → Describes verdicts p tr stretch
    → length verdicts ≤ 2 * (turns_for_a_row p * suc (rows_about p tr stretch.from stretch.to)) + 1
