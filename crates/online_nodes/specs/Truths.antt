-- What lists of verdicts tell of a predicate of time.
use Rattle.std.specs.Prelude.{Bool, true, not, MatchBool, List, [], ◌∷◌}
use Rattle.rational.specs.Time.{Rational, ◌≤ʳ◌}
use Rattle.frac128.specs.Spans.{interval}
use Rattle.stl_syntax.specs.declared.items.Verdict.{Verdict}
use Rattle.rational.specs.Places.{Place, begins, ends, After, Upto, Before, Same}

-- a predicate of time
abbrev pub Truths : Type 1
Truths = Rational → Type 0

-- the predicate holds or fails at t, as b says
abbrev pub Is : Bool → Truths → Rational → Type 0
Is b P t = MatchBool b (P t) (¬ P t)

-- it is so at each time between the places
abbrev pub AllAre : Bool → Truths → Place → Place → Type 0
AllAre b P c d = (t : Rational) → After c t → Upto d t → Is b P t

-- the verdicts follow one another from one place to the next, and tell the predicate; neighbours may agree
abbrev pub Tells : Truths → Place → List Verdict → Place → Type 0
Tells P c [] d = Same c d
Tells P c (v ∷ vs) d =
    Same c (begins (interval v.on)) × Before c (ends (interval v.on)) × AllAre v.holds P c (ends (interval v.on))
    × Tells P (ends (interval v.on)) vs d

-- a node that looks, at t, for a time of its window at which its input is as `seeks` says. Where it finds one the node is so too, and
-- where each time of the window is otherwise, the node is otherwise. The window at t goes from the place low t to high t.
pub record Looks (seeks : Bool) (N P : Truths) (low high : Rational → Place) : Type 0 where
  pub found : (t u : Rational) → After (low t) u → Upto (high t) u → Is seeks P u → Is seeks N t
  pub spared : (t : Rational) → ((u : Rational) → After (low t) u → Upto (high t) u → Is (not seeks) P u) → Is (not seeks) N t

-- what an operator remembers of its input, which was read up to the place `read`: after `at` the node is as it seeks up to `reach`; after that
-- it is otherwise, unless a time after `read` counts
pub record Remembers (seeks : Bool) (N P : Truths) (low high : Rational → Place) (at reach read : Place) : Type 0 where
  pub counts : (t : Rational) → After at t → Upto reach t → Is seeks N t
  pub rest : (t : Rational) → After at t → After reach t
      → ((u : Rational) → After (low t) u → Upto (high t) u → After read u → Is (not seeks) P u)
      → Is (not seeks) N t

-- what an operator keeps in mind of its input, which was read up to the place `read` and is answered up to `stop`: after `at`, what it found
-- counts up to `reach`, and beyond that nothing that was read counts. It speaks of the input up to `stop` alone, so that more rows leave it as it is
pub record Knows (seeks : Bool) (P : Truths) (low high : Rational → Place) (at reach read stop : Place) : Type 0 where
  pub counts : (t : Rational) → After at t → Upto reach t
      → (u : Rational) × After (low t) u × Upto (high t) u × Upto stop u × Is seeks P u
  pub rest : (t u : Rational) → After at t → After reach t → After (low t) u → Upto (high t) u → Upto read u → Is (not seeks) P u

-- the times whose window meets what lies after `begin`, or reaches back before `end`
abbrev pub MeetsAfter : (Rational → Place) → Place → Place → Type 0
MeetsAfter high begin from = (t : Rational) → (After from t → Before begin (high t)) × (Before begin (high t) → After from t)

abbrev pub MeetsUpto : (Rational → Place) → Place → Place → Type 0
MeetsUpto low end to = (t : Rational) → (Upto to t → Before (low t) end) × (Before (low t) end → Upto to t)

-- p holds at each time from t up to u
abbrev pub AllFrom : Truths → Rational → Rational → Type 0
AllFrom P t u = (v : Rational) → t ≤ʳ v → v ≤ʳ u → P v

-- P holds from the place on up to t
abbrev pub HoldsFrom : Truths → Place → Rational → Type 0
HoldsFrom P c t = (v : Rational) → After c v → v ≤ʳ t → P v

-- N is P until Q, by the window from the place low t to high t, which does not begin before t
pub record IsUntilOf (N P Q : Truths) (low high : Rational → Place) : Type 0 where
  pub holds : (t u : Rational) → After (low t) u → Upto (high t) u → Q u → AllFrom P t u → N t
  pub means : (t : Rational) → N t → (u : Rational) × After (low t) u × Upto (high t) u × Q u × AllFrom P t u
  pub ahead : (t u : Rational) → After (low t) u → t ≤ʳ u

-- what until remembers, with its inputs read up to the places `left` and `right`
pub record UntilRemembers (N P Q : Truths) (low high : Rational → Place) (at reach left right : Place) : Type 0 where
  -- the left input holds from `at` to where it was read
  pub run : AllAre true P at left
  pub counts : (t : Rational) → After at t → Upto reach t → N t
  -- a time that holds for another reason has its witness where neither input was read
  pub rest : (t : Rational) → After at t → After reach t → N t
      → (u : Rational) × After (low t) u × Upto (high t) u × Q u × AllFrom P t u × After left u × After right u

-- the same by its inputs alone, of which both are answered up to `stop`
pub record KnowsUntil (P Q : Truths) (low high : Rational → Place) (at reach left right stop : Place) : Type 0 where
  pub run : AllAre true P at left
  pub counts : (t : Rational) → After at t → Upto reach t
      → (u : Rational) × After (low t) u × Upto (high t) u × Q u × AllFrom P t u × Upto stop u
  pub rest : (t u : Rational) → After at t → After reach t → After (low t) u → Upto (high t) u → Q u → AllFrom P t u → Upto stop u
      → After left u × After right u
  pub inside : (u : Rational) → After stop u → After left u × After right u
  -- where the right input was read ahead of the left one and holds, the left one holds up to there
  pub ahead : (t u : Rational) → After at t → After (low t) u → Q u → After left u → Upto right u → HoldsFrom P left u

-- N is P since Q, by the window from the place low t to high t, which does not end after t
pub record IsSinceOf (N P Q : Truths) (low high : Rational → Place) : Type 0 where
  pub holds : (t u : Rational) → After (low t) u → Upto (high t) u → Q u → AllFrom P u t → N t
  pub means : (t : Rational) → N t → (u : Rational) × After (low t) u × Upto (high t) u × Q u × AllFrom P u t
  pub behind : (t u : Rational) → Upto (high t) u → u ≤ʳ t

-- why since holds at t
abbrev pub IsReason : Truths → Truths → (Rational → Place) → (Rational → Place) → Rational → Rational → Type 0
IsReason P Q low high t u = After (low t) u × Upto (high t) u × Q u × AllFrom P u t

-- what since remembers, with its inputs read up to the places `left` and `right`; `run` is where the run of the left input began
pub record SinceRemembers (N P Q : Truths) (low high : Rational → Place) (at run reach left right : Place) : Type 0 where
  pub holds : AllAre true P run left
  pub order : (t : Rational) → After left t → After run t
  pub begins : (t u : Rational) → After at t → IsReason P Q low high t u → After run u
  pub counts : (t : Rational) → After at t → Upto reach t → HoldsFrom P run t → N t
  -- a time that holds for another reason lies where the left input was not read, and its witness where the right one was not
  pub rest : (t : Rational) → After at t → After reach t → N t
      → After left t × ((u : Rational) × IsReason P Q low high t u × After right u)
  -- where the right input was read ahead of the left one and holds, the left one holds up to there
  pub ahead : (u : Rational) → After left u → Upto right u → Q u → HoldsFrom P left u

-- the same by its inputs alone, answered up to `left_stop` and `right_stop`; the trace begins at `start`
pub record KnowsSince (P Q : Truths) (low high : Rational
    → Place) (start at run reach left right left_stop right_stop : Place) : Type 0 where
  pub holds : AllAre true P run left
  pub order : (t : Rational) → After left t → After run t
  -- before the run the left input fails again and again
  pub begins : (u : Rational) → After start u → Upto run u → (v : Rational) × (u ≤ʳ v) × Upto run v × (¬ P v)
  pub counts : (t : Rational) → After at t → Upto reach t
      → (u : Rational) × After (low t) u × Upto (high t) u × Q u × After run u × Upto right_stop u
  pub rest : (t u : Rational) → After at t → After reach t → After (low t) u → Upto (high t) u → Q u → After run u
      → Upto right_stop u → After right u
  pub inside : (u : Rational) → After right_stop u → After right u
  pub ahead : (u : Rational) → After left u → Upto right u → Q u → (v : Rational) → After left v → v ≤ʳ u → P v × Upto left_stop v
