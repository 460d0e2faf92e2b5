use Rattle.std.proofs.Common.{◌∙◌, ◌<◌, slice_get, arith, rules, inl, inr, refl, sym, ap, subst, true, false, to_z, of_z, to_z-of_z}
use Rattle.std.specs.Int.{w64}
use Rattle.std.proofs.lemmas.Bool.{true≢false}
use Rattle.rational.specs.Rational.{FitsFloor, add, whole}
use Rattle.frac128.specs.Value.{value}
use Rattle.frac128.specs.declared.cut.Cut.{Cut}
use Rattle.rational.specs.Places.{Place, AtMost, Before, Same, Upto, moved_begin, moved_end}
use Rattle.frac128.specs.Cuts.{place}
use Rattle.rational.proofs.PlaceLemmas.{at_most_of_not_before}
use Rattle.rational.proofs.Lists.{on_err_anyway}
use Rattle.online_nodes.specs.Held.{Edge}
use Rattle.online_nodes.proofs.GotLemmas.{got-length, got-other}
use Rattle.online_nodes.proofs.SaidLemmas.{answered_twice}
use Rattle.online_nodes.proofs.OneVerdictMore.{begin_alike, end_alike, fits_alike}
use Rattle.online_nodes.proofs.UntilTurns.{IsSaidTwice}
use Rattle.online_nodes.proofs.UntilPasses.{earlier_of}
use Rattle.online_nodes.proofs.UntilCounts.{AreNext, shares_none, counts_beyond, counts_now}
use Rattle.online_nodes.proofs.until.count_both.Goals as goal
use Rattle.online_nodes.proofs.until.count_both.Goals.{After-earlier-end, After-shift_begin-from}

-- what comes next of both inputs, and what their stretches share
shared : (c : After-earlier-end) → AreNext c.args.edges.now c.args.until c.args.v c.args.w (place c.later-begin.result) (place c.earlier-end.result)
shared c = record {
  apart = c.requires.apart;
  first_left = c.requires.first_left;
  first_right = c.requires.first_right;
  left_holds = c.requires.left_holds;
  right_holds = c.requires.right_holds;
  earlier = earlier_of c.earlier-end.result c.end-v_end.result c.end-w_end.result c.end-v_end.ensures c.end-w_end.ensures
      c.earlier-end.ensures.one c.earlier-end.ensures.first c.earlier-end.ensures.second;
  after_left = λ t h. c.later-begin.ensures.first t (subst (λ (q : Place). Upto q t) (sym c.begin-v_begin.ensures) h);
  after_right = λ t h. c.later-begin.ensures.second t (subst (λ (q : Place). Upto q t) (sym c.begin-w_begin.ensures) h);
  one = elim c.later-begin.ensures.one [
    | inl e ↦ inl (λ t h. subst (λ (q : Place). Upto q t) c.begin-v_begin.ensures (subst (λ (q : Cut). Upto (place q) t) e h))
    | inr e ↦ inr (λ t h. subst (λ (q : Place). Upto q t) c.begin-w_begin.ensures (subst (λ (q : Cut). Upto (place q) t) e h))
  ];
}

-- where what they share begins to count
counts_from : (c : After-shift_begin-from)
    → Same (place c.shift_begin-from.result) (moved_begin c.args.until.window.begin_by c.args.until.window.begin_in (place c.later-begin.result))
counts_from c =
    begin_alike (place c.shift_begin-from.result) _ c.args.until.window.begin_by c.args.until.window.begin_in _ (place c.later-begin.result)
    (search (rules, to_z-of_z)) refl c.shift_begin-from.ensures

pub returns-then-not-precedes-clause-turned : goal.returns-then-not-precedes-clause-turned
returns-then-not-precedes-clause-turned c =
    let next = shared (goal.at.returns-then-not-precedes-clause-turned c).After-earlier-end in
    shares_none next (λ b. let e = c.precedes.ensures.1 b in let f = c.if-not-precedes.true in cc) c.pass_ended.ensures
    c.requires.left_apart c.requires.right_apart c.requires.sound c.requires.inside

pub shift_begin-from-requires : goal.shift_begin-from-requires
shift_begin-from-requires c =
    elim c.later-begin.ensures.one [
      | inl e ↦
          subst (λ (q : Cut). FitsFloor w64 (add (value q.time) (whole (to_z w64 (of_z w64 c.args.until.window.begin_by))))) (sym e)
          (fits_alike (value c.begin-v_begin.result.time) (value c.args.v.on.from) (to_z w64 (of_z w64 c.args.until.window.begin_by))
          c.args.until.window.begin_by (ap (λ (q : Place). q.at) c.begin-v_begin.ensures) (search (rules, to_z-of_z)) c.requires.fits_left.0)
      | inr e ↦
          subst (λ (q : Cut). FitsFloor w64 (add (value q.time) (whole (to_z w64 (of_z w64 c.args.until.window.begin_by))))) (sym e)
          (fits_alike (value c.begin-w_begin.result.time) (value c.args.w.on.from) (to_z w64 (of_z w64 c.args.until.window.begin_by))
          c.args.until.window.begin_by (ap (λ (q : Place). q.at) c.begin-w_begin.ensures) (search (rules, to_z-of_z)) c.requires.fits_right.0)
    ]

pub returns-then-precedes-clause-turned : goal.returns-then-precedes-clause-turned
returns-then-precedes-clause-turned c =
    let next = shared (goal.at.returns-then-precedes-clause-turned c).After-earlier-end in
    let from_is = counts_from (goal.at.returns-then-precedes-clause-turned c).After-shift_begin-from in
    counts_beyond (place c.shift_begin-from.result) next from_is
    (subst (λ (q : Cut). Before (place q) (place c.shift_begin-from.result)) c.end.ensures (c.precedes-2.ensures.0 c.if-precedes.true))

pub upto-requires-2-clause-inside : goal.upto-requires-2-clause-inside
upto-requires-2-clause-inside c t h =
    subst (λ (q : Cut). Upto (place q) t) (sym c.in_ok-found.ensures.said.end) (c.in_ok-found.ensures.reaches.inside t h)

pub shift_end-reach-requires : goal.shift_end-reach-requires
shift_end-reach-requires c =
    elim c.earlier-end.ensures.one [
      | inl e ↦
          subst (λ (q : Cut). FitsFloor w64 (add (value q.time) (whole (to_z w64 (of_z w64 c.args.until.window.end_by))))) (sym e)
          (fits_alike (value c.end-v_end.result.time) (value c.args.v.on.to) (to_z w64 (of_z w64 c.args.until.window.end_by))
          c.args.until.window.end_by (ap (λ (q : Place). q.at) c.end-v_end.ensures) (search (rules, to_z-of_z)) c.requires.fits_left.1)
      | inr e ↦
          subst (λ (q : Cut). FitsFloor w64 (add (value q.time) (whole (to_z w64 (of_z w64 c.args.until.window.end_by))))) (sym e)
          (fits_alike (value c.end-w_end.result.time) (value c.args.w.on.to) (to_z w64 (of_z w64 c.args.until.window.end_by))
          c.args.until.window.end_by (ap (λ (q : Place). q.at) c.end-w_end.ensures) (search (rules, to_z-of_z)) c.requires.fits_right.1)
    ]

pub returns-clause-turned : goal.returns-clause-turned
returns-clause-turned c =
    let next = shared (goal.at.returns-clause-turned c).After-earlier-end in
    let from_is = counts_from (goal.at.returns-clause-turned c).After-shift_begin-from in
    let reach_is : Same (place c.shift_end-reach.result) (moved_end c.args.until.window.end_by c.args.until.window.end_in
    (place c.earlier-end.result)) =
    end_alike (place c.shift_end-reach.result) _ c.args.until.window.end_by c.args.until.window.end_in _ (place c.earlier-end.result)
    (search (rules, to_z-of_z)) refl c.shift_end-reach.ensures in
    let said : IsSaidTwice c.args.edges.now c.upto-2.new.edges c.args.until c.args.sweep c.in_ok-found.found c.in_ok-out.out true false
    c.shift_begin-from.result =
    record {
      own = c.requires.own;
      left_apart = c.requires.left_apart;
      right_apart = c.requires.right_apart;
      apart = c.requires.apart;
      answers = answered_twice c.requires.own c.in_ok-found.ensures.said c.in_ok-out.ensures.said;
      one = c.in_ok-found.ensures.reaches;
      two = c.in_ok-out.ensures.reaches;
      same = c.in_ok-found.ensures.said.end;
    } in
    let to_end : AtMost (place c.shift_begin-from.result) (place c.args.sweep.out.to) =
    at_most_of_not_before (place c.shift_begin-from.result) (place c.args.sweep.out.to)
    (λ b. true≢false (sym (c.precedes-2.ensures.1 (subst (λ (q : Cut). Before (place q) (place c.shift_begin-from.result)) (sym c.end.ensures) b))
    ∙ c.if-precedes.false)) in
    counts_now {reach = c.shift_end-reach.result} next
    (c.precedes.ensures.0 c.if-not-precedes.false) from_is said to_end reach_is c.pass_ended-2.ensures

pub pass_ended-requires : goal.pass_ended-requires
pass_ended-requires c = record {
  left = c.requires.left;
  right = c.requires.right;
  apart = c.requires.apart;
  first_left = c.requires.first_left;
  first_right = c.requires.first_right;
}

pub upto-requires : goal.upto-requires
upto-requires c = record { edge = c.requires.own; inside = c.requires.inside; sound = c.requires.sound }

pub upto-requires-2-clause-edge : goal.upto-requires-2-clause-edge
upto-requires-2-clause-edge c = let one = c.in_ok-found.ensures.said in omega (arith, one.edge, got-length one.got, c.requires.own)

pub upto-requires-2-clause-sound : goal.upto-requires-2-clause-sound
upto-requires-2-clause-sound c = c.in_ok-found.ensures.said.sound

pub pass_ended-requires-2 : goal.pass_ended-requires-2
pass_ended-requires-2 c =
    let left = c.args.until.window.of in
    let right = c.args.until.right in
    let got = (answered_twice c.requires.own c.in_ok-found.ensures.said c.in_ok-out.ensures.said).got in
    record {
      left = subst (λ n. left < n) (sym (got-length got)) c.requires.left;
      right = subst (λ n. right < n) (sym (got-length got)) c.requires.right;
      apart = c.requires.apart;
      first_left = ap (λ (e : Edge). slice_get e.fresh 0) (got-other got left c.requires.left_apart) ∙ c.requires.first_left;
      first_right = ap (λ (e : Edge). slice_get e.fresh 0) (got-other got right c.requires.right_apart) ∙ c.requires.first_right;
    }

pub returns-in_err-out-clause-memory : goal.returns-in_err-out-clause-memory
returns-in_err-out-clause-memory c =
    let one = c.in_ok-found.ensures.said in
    on_err_anyway c.from_residual-in_err-out.result (omega (arith, one.got.spare, one.few, c.in_err-out.ensures.memory))
