-- The fraction of a whole number, spans between such, and that a span has a time; places at ticks.
use Rattle.std.proofs.Common.{◌≡◌, ℕ, ℤ, pos, lit<, Bool, true, ◌&&◌, subst}
use Rattle.rational.specs.Rational.{Rational, ◌<ʳ◌, whole}
use Rattle.rational.specs.Time.{IsIn}
use Rattle.rational.proofs.Order.{le_refl}
use Rattle.rational.proofs.Lowest.{lowest_whole}
use Rattle.rational.proofs.TimeLemmas.{precedes_of_lt, room_of_precedes, precedes_of_room, not_empty_of_precedes, time_inside}
use Rattle.rational.specs.Places.{Same}
use Rattle.frac128.specs.declared.frac.Frac.{Frac}
use Rattle.frac128.specs.declared.span.Span.{Span}
use Rattle.frac128.specs.Value.{value}
use Rattle.frac128.specs.Spans.{interval}
use Rattle.frac128.specs.Cuts.{place}
use Rattle.frac128.specs.declared.cut.Cut.{Cut}

-- z / 1
abbrev pub whole_frac : ℤ → Frac
whole_frac z = record { whole = z; rest = 0; den = 1; positive = lit< tt; below = lit< tt; small = lit< tt; lowest = lowest_whole (pos 0) }

-- one time
abbrev pub instant_span : Frac → Span
instant_span t = record { from = t; from_in = true; to = t; to_in = true; not_empty = room_of_precedes true (value t) (value t) (le_refl (value t)) }

-- from one fraction to a later one
abbrev pub span_between : (a : Frac) (a_in : Bool) (b : Frac) (b_in : Bool) → value a <ʳ value b → Span
span_between a a_in b b_in h = record {
  from = a;
  from_in = a_in;
  to = b;
  to_in = b_in;
  not_empty = room_of_precedes (a_in && b_in) (value a) (value b) (precedes_of_lt (a_in && b_in) (value a) (value b) h);
}

-- a span has a time
pub span_time : (s : Span) → (t : Rational) × IsIn (interval s) t
span_time s =
    time_inside (interval s) (not_empty_of_precedes (interval s) (precedes_of_room (s.from_in && s.to_in) (value s.from) (value s.to) s.not_empty))

-- a place at a tick is at each number that the tick is
pub same_at_tick : (cut : Cut) (n m : ℕ) (after : Bool) → n ≡ m → Same (place cut) (record { at = whole (pos n); after = after })
    → Same (place cut) (record { at = whole (pos m); after = after })
same_at_tick cut n m after e s = subst (λ k. Same (place cut) (record { at = whole (pos k); after = after })) e s
