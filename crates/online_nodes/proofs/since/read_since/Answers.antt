use Rattle.std.proofs.Common.{◌≡◌, ◌∙◌, sym, subst, arith}
use Rattle.std.proofs.lemmas.Option.{none-some, slice_get_within}
use Rattle.std.proofs.lemmas.Bool.{not-true, not-false}
use Rattle.rational.proofs.Lists.{empty_of_none, on_err_anyway}
use Rattle.online_nodes.specs.Held.{fresh_at}
use Rattle.online_nodes.specs.Working.{HasPassed}
use Rattle.stl_syntax.specs.declared.items.Verdict.{Verdict}
use Rattle.online_nodes.proofs.JoinLemmas.{same_first}
use Rattle.online_nodes.proofs.SinceEnds.{left_out_rests, rest_done, right_out_falls}
use Rattle.online_nodes.proofs.SinceReads.{go_on_turn, right_fails_over}
use Rattle.online_nodes.proofs.SinceTurns.{IsWorking}
use Rattle.online_nodes.proofs.since.read_since.Goals as goal

pub returns-in_default-clause-turned : goal.returns-in_default-clause-turned
returns-in_default-clause-turned c =
    let at : IsWorking c.args.edges.now c.args.since c.args.course =
    record { own = c.requires.own; left_apart = c.requires.left_apart; right_apart = c.requires.right_apart; apart = c.requires.apart } in
    let none = empty_of_none (fresh_at c.args.edges.now c.args.since.window.of) (sym c.next.ensures ∙ c.in_default.is) in
    rest_done at c.in_ok-done.ensures.rested (λ v first. absurd (none-some v (sym (sym first ∙ sym c.next.ensures ∙ c.in_default.is))))
    (λ x written r of m. left_out_rests of m none)

pub returns-in_default-next-clause-turned : goal.returns-in_default-next-clause-turned
returns-in_default-next-clause-turned c =
    let at : IsWorking c.args.edges.now c.args.since c.args.course =
    record { own = c.requires.own; left_apart = c.requires.left_apart; right_apart = c.requires.right_apart; apart = c.requires.apart } in
    let none = empty_of_none (fresh_at c.args.edges.now c.args.since.right) (sym c.next-2.ensures ∙ c.in_default-next.is) in
    go_on_turn at (sym c.next.ensures ∙ c.in-Some.is) (not-false c.in-Some.v.holds c.if-not-v.false) c.requires.fits_run
    (record {
      falls = λ x written r of m t a b to u. right_out_falls of m none t a b to;
      spent = λ w first. absurd (none-some w (sym (sym first ∙ sym c.next-2.ensures ∙ c.in_default-next.is)));
    })
    c.go_on.new.edges c.in_ok-turn-2.turn c.in_ok-turn-2.ensures.gone

pub returns-then-not-w-clause-turned : goal.returns-then-not-w-clause-turned
returns-then-not-w-clause-turned c =
    let at : IsWorking c.args.edges.now c.args.since c.args.course =
    record { own = c.requires.own; left_apart = c.requires.left_apart; right_apart = c.requires.right_apart; apart = c.requires.apart } in
    let first = sym c.next-2.ensures ∙ c.in-Some-next.is in
    let is : c.pass.result ≡ c.in-Some-next.w = same_first (fresh_at c.args.edges.now c.args.since.right) c.pass.result c.in-Some-next.w
    c.pass.ensures.first first in
    let passed : HasPassed c.args.edges.now c.pass.new.self c.args.since.right c.pass.result =
    record {
      within = c.requires.right;
      first = c.pass.ensures.first;
      edges = c.pass.ensures.read;
      start = c.pass.ensures.start;
      spare = c.pass.ensures.spare;
    } in
    right_fails_over at first (not-true c.in-Some-next.w.holds c.if-not-w.true)
    (subst (λ (q : Verdict). HasPassed c.args.edges.now c.pass.new.self c.args.since.right q) is passed)
    c.requires.fits_run c.requires.back.begin_in c.requires.sound c.requires.inside

pub rest-requires : goal.rest-requires
rest-requires c = record { own = c.requires.own; sound = c.requires.sound; inside = c.requires.inside }

pub end_run-requires : goal.end_run-requires
end_run-requires c =
    let first = sym c.next.ensures ∙ c.in-Some.is in
    record {
      left = c.requires.left;
      right = c.requires.right;
      own = c.requires.own;
      left_apart = c.requires.left_apart;
      right_apart = c.requires.right_apart;
      apart = c.requires.apart;
      sound = c.requires.sound;
      inside = c.requires.inside;
      back = c.requires.back;
      first = first;
      fails = not-true c.in-Some.v.holds c.if-not-v.true;
      fits_left = c.requires.fits_left c.in-Some.v first;
      fits_run = c.requires.fits_run;
    }

pub go_on-requires : goal.go_on-requires
go_on-requires c = record {
  left = c.requires.left;
  own = c.requires.own;
  left_apart = c.requires.left_apart;
  sound = c.requires.sound;
  inside = c.requires.inside;
  first = sym c.next.ensures ∙ c.in-Some.is;
}

pub pass-requires : goal.pass-requires
pass-requires c = record {
  edge = c.requires.right;
  some = slice_get_within (fresh_at c.args.edges.now c.args.since.right) 0 c.in-Some-next.w (sym c.next-2.ensures ∙ c.in-Some-next.is);
}

pub count-requires : goal.count-requires
count-requires c =
    let first_right = sym c.next-2.ensures ∙ c.in-Some-next.is in
    record {
      left = c.requires.left;
      right = c.requires.right;
      own = c.requires.own;
      left_apart = c.requires.left_apart;
      right_apart = c.requires.right_apart;
      apart = c.requires.apart;
      sound = c.requires.sound;
      inside = c.requires.inside;
      back = c.requires.back;
      first_left = sym c.next.ensures ∙ c.in-Some.is;
      first_right = first_right;
      left_holds = not-false c.in-Some.v.holds c.if-not-v.false;
      right_holds = not-false c.in-Some-next.w.holds c.if-not-w.false;
      fits_right = c.requires.fits_right c.in-Some-next.w first_right;
      fits_run = c.requires.fits_run;
    }

pub returns-then-not-v-clause-turned : goal.returns-then-not-v-clause-turned
returns-then-not-v-clause-turned c = c.in_ok-turn.ensures.turned

pub returns-clause-turned : goal.returns-clause-turned
returns-clause-turned c = c.in_ok-turn-3.ensures.turned

pub returns-in_err-turn-3-clause-memory : goal.returns-in_err-turn-3-clause-memory
returns-in_err-turn-3-clause-memory c =
    on_err_anyway c.from_residual-in_err-turn-3.result (omega (
      arith,
      c.in_err-turn-3.ensures.memory,
      slice_get_within (fresh_at c.args.edges.now c.args.since.window.of) 0 c.in-Some.v (sym c.next.ensures ∙ c.in-Some.is),
      slice_get_within (fresh_at c.args.edges.now c.args.since.right) 0 c.in-Some-next.w (sym c.next-2.ensures ∙ c.in-Some-next.is),
    ))
