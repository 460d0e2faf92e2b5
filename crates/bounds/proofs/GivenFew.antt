-- What a node gives out over a run is few, by the rows of the trace so far.
use Rattle.std.proofs.Common.{◌≡◌, refl, ap, subst, ℕ, suc, ◌+◌, ◌*◌, ◌≤◌, Bool, true, false, cond, None, Some, List, [], ◌∷◌}
use Rattle.std.proofs.Common.{length, pos, arith}
use Rattle.std.proofs.Math.Nat.{mul-le-mul_left}
use Rattle.rational.specs.Time.{Rational, later, whole}
use Rattle.stl_syntax.specs.Trace.{Row, row_time, first_time}
use Rattle.stl_syntax.specs.Formula.{subformula}
use Rattle.online_nodes.specs.Network.{Front, initial, state, shown, needed}
use Rattle.online_nodes.specs.Laws.{IsWhole, answered_to}
use Rattle.online_nodes.proofs.RunLaw.{within_horizon, none_is_none}
use Rattle.online_nodes.proofs.StayLaw.{emitted_stays, shown_is}
use Rattle.online_nodes.proofs.EmittedLaw.{emitted_tiles}
use Rattle.online_nodes.proofs.RowsLaw.{rows_of, trace_so_far, goes_on_itself}
use Rattle.online_nodes.proofs.MeetingLaw.{needed_first}
use Rattle.bounds.specs.Turns.{earlier, looks_ahead, looks_back, is_within, rows_within, rows_about, turns_for_a_row}
use Rattle.bounds.specs.Held.{fronts_from, moves_within, so_far}
use Rattle.bounds.specs.Rests.{rests_for_a_row, verdicts_for_a_row, GivenAreFew}
use Rattle.bounds.proofs.EdgesFew.{few_held, parted}
use Rattle.bounds.proofs.RestTimes.{some_rests}
use Rattle.bounds.proofs.RestsFew.{moves_are_few, in_all}

-- the rows of a stretch are no more than all
pub within_all : (lo hi : Rational) (rows : List Row) → rows_within lo hi rows ≤ length rows
within_all lo hi [] = omega arith
within_all lo hi (r ∷ rows) = by_test (is_within lo hi (row_time r)) (within_all lo hi rows)
  where
    by_test : (b : Bool) → rows_within lo hi rows ≤ length rows → cond b (suc (rows_within lo hi rows)) (rows_within lo hi rows) ≤ length (r ∷ rows)
    by_test true h = omega (arith, h)
    by_test false h = omega (arith, h)

wider_in_all : (c R N n : ℕ) → R ≤ N → n ≤ c * suc R + 1 → n ≤ c * suc N + 1
wider_in_all c R N n h k = let q = mul-le-mul_left c h in omega (arith, q, k)

pub given_are_few : GivenAreFew
given_are_few nodes header order events run i l verdicts emitted = by_front (shown (state nodes events) i) refl
  where
    Claim : Type 0
    Claim = length verdicts ≤ verdicts_for_a_row (subformula nodes i) * suc (length (state nodes events).rows) + 1

    by_front : (o : Front) → shown (state nodes events) i ≡ o → Claim
    by_front None is =
        let none = subst (λ o. IsWhole (first_time (state nodes events).rows) o verdicts) is
        (emitted_tiles nodes header order events run i l verdicts emitted) in
        let e = ap length none in
        omega (arith, e)
    by_front (Some f) is =
        let last = within_horizon nodes header order events run i f l (shown_is nodes header order (state nodes events) i f is).0 in
        let trace = trace_so_far header (state nodes events) last.last (rows_of nodes header events run) last.is_last in
        let told = emitted_stays nodes header order events run i l verdicts emitted (so_far nodes header events) trace
        (goes_on_itself header (state nodes events).rows (state nodes events).closed) in
        let tiles = subst (λ o. IsWhole (first_time (state nodes events).rows) o verdicts) is
        (emitted_tiles nodes header order events run i l verdicts emitted) in
        let meets = needed_first (first_time (state nodes events).rows) f None (pos 0) verdicts (λ g e. absurd (none_is_none g e)) tiles in
        let from = whole (pos (first_time (state nodes events).rows)) in
        let few = few_held (subformula nodes i) (so_far nodes header events) (fronts_from nodes i initial events)
        (needed (first_time (state nodes events).rows) f None (pos 0))
        (answered_to (first_time (state nodes events).rows) None) (answered_to (first_time (state nodes events).rows) (Some f)) verdicts verdicts tiles told
        (parted nodes header i initial events verdicts emitted) meets in
        wider_in_all (verdicts_for_a_row (subformula nodes i)) (rows_about (subformula nodes i) (so_far nodes header events) from (whole f))
        (length (state nodes events).rows) (length verdicts)
        (within_all (earlier from (looks_back (subformula nodes i))) (later (whole f) (looks_ahead (subformula nodes i))) (state nodes events).rows)
        (in_all (turns_for_a_row (subformula nodes i)) (rests_for_a_row (subformula nodes i))
        (rows_about (subformula nodes i) (so_far nodes header events) from (whole f)) (moves_within nodes i from (whole f) events) (length verdicts)
        (some_rests (subformula nodes i)) (moves_are_few nodes header order events run i l from (whole f)) few)
