use Rattle.std.proofs.Common.{rules, refl, ◌≡◌, ◌<◌, length, slice_get, inl, inr, ap, sym, subst, ◌∙◌, arith, to_z, of_z, to_z-of_z}
use Rattle.std.specs.Int.{w64}
use Rattle.std.proofs.lemmas.Bool.{true≢false}
use Rattle.rational.specs.Rational.{FitsFloor, add, whole}
use Rattle.frac128.specs.Spans.{interval}
use Rattle.frac128.specs.Value.{value}
use Rattle.rational.specs.Places.{Place, begins, ends, moved_end, AtMost, Before, Same, Upto}
use Rattle.frac128.specs.Cuts.{place}
use Rattle.online_nodes.specs.Held.{fresh_at, Edge}
use Rattle.online_nodes.specs.Working.{HasPassed}
use Rattle.stl_syntax.specs.declared.items.Verdict.{Verdict}
use Rattle.frac128.specs.declared.cut.Cut.{Cut}
use Rattle.online_nodes.proofs.JoinLemmas.{same_first}
use Rattle.rational.proofs.PlaceLemmas.{at_most_of_not_before}
use Rattle.rational.proofs.Lists.{on_err_anyway}
use Rattle.std.proofs.lemmas.Option.{slice_get_within}
use Rattle.online_nodes.proofs.GotLemmas.{got-length, got-other}
use Rattle.online_nodes.proofs.OneVerdictMore.{begin_alike, end_alike, fits_alike}
use Rattle.online_nodes.proofs.SinceCounts.{IsFound}
use Rattle.online_nodes.proofs.SinceReads.{AreBoth, found_turn, go_on_turn, not_in_run, not_in_stretch, stale_over}
use Rattle.online_nodes.proofs.SinceTurns.{IsLaterOf, IsWorking}
use Rattle.online_nodes.proofs.since.count.Goals as goal
use Rattle.online_nodes.proofs.since.count.Goals.{After-later-from, After-shift_begin-begin}

-- the edges, the operator and its course
working : (c : After-later-from) → IsWorking c.args.edges.now c.args.since c.args.course
working c = record { own = c.requires.own; left_apart = c.requires.left_apart; right_apart = c.requires.right_apart; apart = c.requires.apart }

-- what the right input tells counts from the later of two places
from_is : (c : After-later-from) → IsLaterOf (begins (interval c.args.w.on)) (place c.args.course.run) (place c.later-from.result)
from_is c = record {
  first = λ t h. c.later-from.ensures.first t (subst (λ (q : Place). Upto q t) (sym c.begin.ensures) h);
  second = c.later-from.ensures.second;
  one = elim c.later-from.ensures.one [
    | inl e ↦ inl (λ t h. subst (λ (q : Place). Upto q t) c.begin.ensures (subst (λ (q : Cut). Upto (place q) t) e h))
    | inr e ↦ inr (λ t h. subst (λ (q : Cut). Upto (place q) t) e h)
  ];
}

-- the next verdicts of both inputs, where what they share begins to count
shared : (c : After-shift_begin-begin) → IsWorking c.args.edges.now c.args.since c.args.course
    → IsLaterOf (begins (interval c.args.w.on)) (place c.args.course.run) (place c.later-from.result)
    → AreBoth c.args.edges.now c.args.since c.args.course (place c.shift_begin-begin.result) (place c.later-from.result) c.args.v c.args.w
shared c at from_is = record {
  at = at;
  inside = c.requires.back.begin_in;
  first_left = c.requires.first_left;
  first_right = c.requires.first_right;
  left_holds = c.requires.left_holds;
  from_is = from_is;
  shared = subst (λ (q : Place). Before (place c.later-from.result) q) c.end-w_end.ensures (c.precedes.ensures.0 c.if-not-precedes.false);
  begin_is = begin_alike (place c.shift_begin-begin.result) _ c.args.since.window.begin_by c.args.since.window.begin_in _ (place c.later-from.result)
      (search (rules, to_z-of_z)) refl c.shift_begin-begin.ensures;
}

pub returns-then-not-precedes-clause-turned : goal.returns-then-not-precedes-clause-turned
returns-then-not-precedes-clause-turned c =
    let from = (goal.at.returns-then-not-precedes-clause-turned c).After-later-from in
    let is : c.pass.result ≡ c.args.w =
    same_first (fresh_at c.args.edges.now c.args.since.right) c.pass.result c.args.w c.pass.ensures.first c.requires.first_right in
    let passed : HasPassed c.args.edges.now c.pass.new.self c.args.since.right c.pass.result =
    record {
      within = c.requires.right;
      first = c.pass.ensures.first;
      edges = c.pass.ensures.read;
      start = c.pass.ensures.start;
      spare = c.pass.ensures.spare;
    } in
    stale_over (working from) c.requires.first_right (from_is from)
    (subst (λ (q : Place). AtMost q (place c.later-from.result)) c.end-w_end.ensures
    (at_most_of_not_before (place c.end-w_end.result) (place c.later-from.result)
    (λ b. let x = c.precedes.ensures.1 b in let y = c.if-not-precedes.true in cc)))
    (subst (λ (q : Verdict). HasPassed c.args.edges.now c.pass.new.self c.args.since.right q) is passed)
    c.requires.fits_run c.requires.back.begin_in c.requires.sound c.requires.inside

pub shift_begin-begin-requires : goal.shift_begin-begin-requires
shift_begin-begin-requires c =
    elim c.later-from.ensures.one [
      | inl e ↦
          subst (λ (q : Cut). FitsFloor w64 (add (value q.time) (whole (to_z w64 (of_z w64 c.args.since.window.begin_by))))) (sym e)
          (fits_alike (value c.begin.result.time) (value c.args.w.on.from) (to_z w64 (of_z w64 c.args.since.window.begin_by))
          c.args.since.window.begin_by (ap (λ (q : Place). q.at) c.begin.ensures) (search (rules, to_z-of_z)) c.requires.fits_right.0)
      | inr e ↦
          subst (λ (q : Cut). FitsFloor w64 (add (value q.time) (whole (to_z w64 (of_z w64 c.args.since.window.begin_by))))) (sym e)
          (fits_alike (value c.args.course.run.time) (value c.args.course.run.time) (to_z w64 (of_z w64 c.args.since.window.begin_by))
          c.args.since.window.begin_by refl (search (rules, to_z-of_z)) c.requires.fits_run)
    ]

pub returns-then-not-precedes-2-clause-turned : goal.returns-then-not-precedes-2-clause-turned
returns-then-not-precedes-2-clause-turned c =
    let from = (goal.at.returns-then-not-precedes-2-clause-turned c).After-later-from in
    let both = shared (goal.at.returns-then-not-precedes-2-clause-turned c).After-shift_begin-begin (working from) (from_is from) in
    go_on_turn both.at c.requires.first_left c.requires.left_holds c.requires.fits_run
    (not_in_run both
    (subst (λ (q : Place). AtMost q (place c.shift_begin-begin.result)) c.end-v_end.ensures
    (at_most_of_not_before (place c.end-v_end.result) (place c.shift_begin-begin.result)
    (λ b. let x = c.precedes-2.ensures.1 b in let y = c.if-not-precedes-2.true in cc))))
    c.go_on.new.edges c.in_ok-turn.turn c.in_ok-turn.ensures.gone

pub returns-then-precedes-clause-turned : goal.returns-then-precedes-clause-turned
returns-then-precedes-clause-turned c =
    let from = (goal.at.returns-then-precedes-clause-turned c).After-later-from in
    let both = shared (goal.at.returns-then-precedes-clause-turned c).After-shift_begin-begin (working from) (from_is from) in
    not_in_stretch both
    (subst (λ (q : Place). Before (place c.shift_begin-begin.result) q) c.end-v_end.ensures (c.precedes-2.ensures.0 c.if-not-precedes-2.false))
    (subst (λ (q : Cut). Before (place q) (place c.shift_begin-begin.result)) c.end.ensures (c.precedes-3.ensures.0 c.if-precedes.true))
    c.in_ok-done.ensures.rested

pub shift_end-requires : goal.shift_end-requires
shift_end-requires c =
    fits_alike (value c.end-w_end.result.time) (value c.args.w.on.to) (to_z w64 (of_z w64 c.args.since.window.end_by)) c.args.since.window.end_by
    (ap (λ (q : Place). q.at) c.end-w_end.ensures) (search (rules, to_z-of_z)) c.requires.fits_right.2

pub pass_first-requires-clause-inside : goal.pass_first-requires-clause-inside
pass_first-requires-clause-inside c t h =
    let said = c.in_ok-out.ensures.said in subst (λ (q : Cut). Upto (place q) t) (sym said.end) (said.inside t h)

pub pass_first-requires-clause-left : goal.pass_first-requires-clause-left
pass_first-requires-clause-left c =
    subst (λ n. c.args.since.window.of < n) (sym (got-length c.in_ok-out.ensures.said.got)) c.requires.left

pub pass_first-requires-clause-right : goal.pass_first-requires-clause-right
pass_first-requires-clause-right c = subst (λ n. c.args.since.right < n) (sym (got-length c.in_ok-out.ensures.said.got)) c.requires.right

pub pass_first-requires-clause-own : goal.pass_first-requires-clause-own
pass_first-requires-clause-own c =
    let said = c.in_ok-out.ensures.said in
    subst (λ i. i < length c.turn.new.edges.edges) (sym said.edge) (subst (λ n. c.args.course.out.edge < n) (sym (got-length said.got)) c.requires.own)

pub pass_first-requires-clause-sound : goal.pass_first-requires-clause-sound
pass_first-requires-clause-sound c = c.in_ok-out.ensures.said.sound

pub pass_first-requires-clause-first_left : goal.pass_first-requires-clause-first_left
pass_first-requires-clause-first_left c =
    ap (λ (e : Edge). slice_get e.fresh 0) (got-other c.in_ok-out.ensures.said.got c.args.since.window.of c.requires.left_apart) ∙ c.requires.first_left

pub pass_first-requires-clause-first_right : goal.pass_first-requires-clause-first_right
pass_first-requires-clause-first_right c =
    ap (λ (e : Edge). slice_get e.fresh 0) (got-other c.in_ok-out.ensures.said.got c.args.since.right c.requires.right_apart) ∙ c.requires.first_right

pub pass_first-requires-clause-fits_right : goal.pass_first-requires-clause-fits_right
pass_first-requires-clause-fits_right c = c.requires.fits_right

pub pass-requires : goal.pass-requires
pass-requires c = record {
  edge = c.requires.right;
  some = slice_get_within (fresh_at c.args.edges.now c.args.since.right) 0 c.args.w c.requires.first_right;
}

pub go_on-requires : goal.go_on-requires
go_on-requires c = record {
  left = c.requires.left;
  own = c.requires.own;
  left_apart = c.requires.left_apart;
  sound = c.requires.sound;
  inside = c.requires.inside;
  first = c.requires.first_left;
}

pub rest-requires : goal.rest-requires
rest-requires c = record { own = c.requires.own; sound = c.requires.sound; inside = c.requires.inside }

pub turn-requires : goal.turn-requires
turn-requires c = record { edge = c.requires.own; inside = c.requires.inside; sound = c.requires.sound }

pub returns-in_err-turn-2-clause-memory : goal.returns-in_err-turn-2-clause-memory
returns-in_err-turn-2-clause-memory c =
    let said = c.in_ok-out.ensures.said in
    on_err_anyway c.from_residual-in_err-turn-2.result (omega (arith, said.few, said.got.spare, c.in_err-turn-2.ensures.memory))

pub returns-clause-turned : goal.returns-clause-turned
returns-clause-turned c =
    let w = c.args.since.window in
    let from = (goal.at.returns-clause-turned c).After-later-from in
    let both = shared (goal.at.returns-clause-turned c).After-shift_begin-begin (working from) (from_is from) in
    let last_is : Same (place c.shift_end.result) (moved_end w.end_by w.end_in (ends (interval c.args.w.on))) =
    end_alike (place c.shift_end.result) _ w.end_by w.end_in _ (ends (interval c.args.w.on)) (search (rules, to_z-of_z)) c.end-w_end.ensures
    c.shift_end.ensures in
    let found : IsFound c.args.edges.now c.turn.new.edges c.args.since c.args.course c.in_ok-out.out c.earlier.result c.shift_begin-begin.result
    c.shift_end.result c.later-reach.result c.later-from.result c.args.v c.args.w =
    record {
      at = both.at;
      back = c.requires.back;
      first_left = c.requires.first_left;
      first_right = c.requires.first_right;
      left_holds = c.requires.left_holds;
      right_holds = c.requires.right_holds;
      from_is = both.from_is;
      shared = both.shared;
      begin_is = both.begin_is;
      in_run = subst (λ (q : Place). Before (place c.shift_begin-begin.result) q) c.end-v_end.ensures
          (c.precedes-2.ensures.0 c.if-not-precedes-2.false);
      to_end = subst (λ (q : Cut). AtMost (place c.shift_begin-begin.result) (place q)) c.end.ensures
          (at_most_of_not_before (place c.shift_begin-begin.result) (place c.end.result)
          (λ b. true≢false (sym (c.precedes-3.ensures.1 b) ∙ c.if-precedes.false)));
      held_reach = c.earlier.ensures.first;
      held_end = λ t h. subst (λ (q : Place). Upto q t) c.end-v_end.ensures (c.earlier.ensures.second t h);
      held_one = elim c.earlier.ensures.one [ inl e ↦ inl e | inr e ↦ inr (ap place e ∙ c.end-v_end.ensures) ];
      said = c.in_ok-out.ensures.said;
      last_is = last_is;
      reach_first = c.later-reach.ensures.first;
      reach_second = c.later-reach.ensures.second;
      reach_one = c.later-reach.ensures.one;
    } in
    found_turn found c.requires.fits_run c.pass_first.new.edges c.in_ok-turn-2.turn c.in_ok-turn-2.ensures.passed
