-- The windows of the four temporal operators by places, and what their truth and that of the connectives is by what their inputs are.
use Rattle.std.specs.Prelude.{ℕ, Bool, true, false, not, ℤ, pos, neg_ℤ, Option, Some, None}
use Rattle.rational.specs.Rational.{Rational, add, whole}
use Rattle.stl_syntax.specs.Trace.{Trace, start}
use Rattle.stl_syntax.specs.Formula.{
  Subformula,
  negation,
  conjunction,
  disjunction,
  implication,
  eventually,
  always,
  once,
  historically,
  until,
  since,
}
use Rattle.stl_syntax.specs.Truth.{Truth}
use Rattle.rational.specs.Places.{Place, After}
use Rattle.online_nodes.specs.Truths.{Looks, IsUntilOf, IsSinceOf, KnowsUntil, KnowsSince, UntilRemembers, SinceRemembers}
use Rattle.online_nodes.specs.Sweeps.{Counted}
use Rattle.online_nodes.specs.Joins.{IsJoinOf}
use Rattle.online_nodes.specs.Negations.{IsNotOf}
use Rattle.stl_syntax.specs.declared.operator.Join.TheVariants.{And, Or, Implies}

-- the time moved by k, before or after it
abbrev pub place_at : ℤ → Bool → Rational → Place
place_at k after t = record { at = add t (whole k); after = after }

-- where a window into the past begins: at the start of the trace, where it has no bound
abbrev pub past_begin : Rational → Option ℕ → Bool → Rational → Place
past_begin start None inside t = record { at = start; after = false }
past_begin start (Some b) inside t = place_at (neg_ℤ (pos b)) (not inside) t

-- eventually and once look for a time of their window at which the input holds; always and historically for one at which it fails
abbrev pub WindowsLook : Type 0
WindowsLook =
    (p : Subformula) (tr : Trace) (a b : ℕ) (bound : Option ℕ) (a_in b_in : Bool)
    → Looks true (Truth (eventually a b a_in b_in p) tr) (Counted true p tr) (place_at (pos a) (not a_in)) (place_at (pos b) b_in)
    × Looks false (Truth (always a b a_in b_in p) tr) (Counted false p tr) (place_at (pos a) (not a_in)) (place_at (pos b) b_in)
    × Looks true (Truth (once a bound a_in b_in p) tr) (Counted true p tr) (past_begin (start tr) bound b_in) (place_at (neg_ℤ (pos a)) a_in)
    × Looks false (Truth (historically a bound a_in b_in p) tr) (Counted false p tr) (past_begin (start tr) bound b_in) (place_at
    (neg_ℤ (pos a)) a_in)

-- the connectives are what they are taken for
abbrev pub ConnectivesJoin : Type 0
ConnectivesJoin =
    (p q : Subformula) (tr : Trace)
    → IsJoinOf And (conjunction p q) p q tr × IsJoinOf Or (disjunction p q) p q tr × IsJoinOf Implies (implication p q) p q tr
    × IsNotOf (negation p) p tr

-- until and since are P until Q and P since Q by their windows' places
abbrev pub UntilAndSinceLook : Type 0
UntilAndSinceLook =
    (p q : Subformula) (tr : Trace) (a b : ℕ) (bound : Option ℕ)
    → IsUntilOf (Truth (until a b p q) tr) (Truth p tr) (Counted true q tr) (place_at (pos a) false) (place_at (pos b) true)
    × IsSinceOf (Truth (since a bound p q) tr) (Truth p tr) (Counted true q tr) (past_begin (start tr) bound true) (place_at (neg_ℤ (pos a)) true)

-- what until knows of its inputs says what holds of the node itself
abbrev pub UntilRemembersWhatItKnows : Type 0
UntilRemembersWhatItKnows =
    (n p q : Subformula) (tr : Trace) (low high : Rational → Place) (at reach left right stop : Place)
    → IsUntilOf (Truth n tr) (Truth p tr) (Counted true q tr) low high
    → KnowsUntil (Truth p tr) (Counted true q tr) low high at reach left right stop
    → UntilRemembers (Truth n tr) (Truth p tr) (Counted true q tr) low high at reach left right

-- and what since knows of its inputs, where the left one was read no further than the node is told
abbrev pub SinceRemembersWhatItKnows : Type 0
SinceRemembersWhatItKnows =
    (n p q : Subformula) (tr : Trace) (low high : Rational → Place) (begin at run reach left right left_stop right_stop : Place)
    → IsSinceOf (Truth n tr) (Truth p tr) (Counted true q tr) low high → ((u : Rational) → Counted true q tr u → After begin u)
    → ((t : Rational) → After at t → After left t)
    → KnowsSince (Truth p tr) (Counted true q tr) low high begin at run reach left right left_stop right_stop
    → SinceRemembers (Truth n tr) (Truth p tr) (Counted true q tr) low high at run reach left right
