use Rattle.std.proofs.Common.{sym, ap, subst, length, true, false, arith}
use Rattle.frac128.specs.declared.cut.Cut.{Cut}
use Rattle.rational.specs.Places.{Place, AtMost, Before, Upto}
use Rattle.frac128.specs.Cuts.{place}
use Rattle.std.proofs.lemmas.Option.{slice_get_within}
use Rattle.online_nodes.specs.Held.{fresh_at}
use Rattle.online_nodes.specs.Working.{HasPassed}
use Rattle.online_nodes.proofs.GotLemmas.{got-length, got-other}
use Rattle.rational.proofs.PlaceLemmas.{upto_of_before, at_most_of_not_before}
use Rattle.rational.proofs.Lists.{on_err_anyway}
use Rattle.online_nodes.proofs.SaidLemmas.{answered_twice}
use Rattle.online_nodes.proofs.UntilTurns.{IsSaidTwice, run_ended, fails_beyond}
use Rattle.online_nodes.proofs.until.new_run.Goals as goal

pub returns-then-precedes-clause-turned : goal.returns-then-precedes-clause-turned
returns-then-precedes-clause-turned c =
    fails_beyond c.requires.first c.requires.fails
    (λ t h. subst (λ (q : Place). Upto q t) c.end-v_end.ensures
    (upto_of_before (place c.end.result) (place c.end-v_end.result) t (c.precedes.ensures.0 c.if-precedes.true)
    (subst (λ (q : Cut). Upto (place q) t) (sym c.end.ensures) h)))

pub upto-requires-2-clause-edge : goal.upto-requires-2-clause-edge
upto-requires-2-clause-edge c = let one = c.in_ok-found.ensures.said in omega (arith, one.edge, got-length one.got, c.requires.own)

pub upto-requires-2-clause-inside : goal.upto-requires-2-clause-inside
upto-requires-2-clause-inside c t h =
    subst (λ (q : Cut). Upto (place q) t) (sym c.in_ok-found.ensures.said.end) (c.in_ok-found.ensures.reaches.inside t h)

pub upto-requires-2-clause-sound : goal.upto-requires-2-clause-sound
upto-requires-2-clause-sound c = c.in_ok-found.ensures.said.sound

pub pass-requires-clause-edge : goal.pass-requires-clause-edge
pass-requires-clause-edge c =
    let both = answered_twice c.requires.own c.in_ok-found.ensures.said c.in_ok-out.ensures.said in
    omega (arith, got-length both.got, c.requires.left)

pub pass-requires-clause-some : goal.pass-requires-clause-some
pass-requires-clause-some c =
    let both = answered_twice c.requires.own c.in_ok-found.ensures.said c.in_ok-out.ensures.said in
    let same = ap (λ x. length x.fresh) (got-other both.got c.args.until.window.of c.requires.left_apart) in
    let some = slice_get_within (fresh_at c.args.edges.now c.args.until.window.of) 0 c.args.v c.requires.first in
    omega (arith, same, some)

pub returns-in_err-out-clause-memory : goal.returns-in_err-out-clause-memory
returns-in_err-out-clause-memory c =
    let one = c.in_ok-found.ensures.said in
    on_err_anyway c.from_residual-in_err-out.result (omega (arith, one.got.spare, one.few, c.in_err-out.ensures.memory))

pub returns-clause-turned : goal.returns-clause-turned
returns-clause-turned c =
    let said : IsSaidTwice c.args.edges.now c.upto-2.new.edges c.args.until c.args.sweep c.in_ok-found.found c.in_ok-out.out true false
    c.end-v_end.result =
    record {
      own = c.requires.own;
      left_apart = c.requires.left_apart;
      right_apart = c.requires.right_apart;
      apart = c.requires.apart;
      answers = answered_twice c.requires.own c.in_ok-found.ensures.said c.in_ok-out.ensures.said;
      one = c.in_ok-found.ensures.reaches;
      two = c.in_ok-out.ensures.reaches;
      same = c.in_ok-found.ensures.said.end;
    } in
    let to_end : AtMost (place c.end-v_end.result) (place c.args.sweep.out.to) =
    at_most_of_not_before (place c.end-v_end.result) (place c.args.sweep.out.to)
    (λ b. let e = c.precedes.ensures.1 (subst (λ (q : Cut). Before (place q) (place c.end-v_end.result)) (sym c.end.ensures) b) in
    let f = c.if-precedes.false in cc) in
    let passed : HasPassed c.upto-2.new.edges c.pass.new.self c.args.until.window.of c.pass.result =
    record {
      within = omega (arith, got-length said.answers.got, c.requires.left);
      first = c.pass.ensures.first;
      edges = c.pass.ensures.read;
      start = c.pass.ensures.start;
      spare = c.pass.ensures.spare;
    } in
    run_ended said c.requires.first c.requires.fails c.end-v_end.ensures to_end passed
