use Rattle.std.proofs.Common.{slice_get, refl, ◌≡◌, ◌<◌, ap, sym, subst, ◌∙◌, arith}
use Rattle.std.proofs.lemmas.Option.{slice_get_within}
use Rattle.frac128.specs.Spans.{interval}
use Rattle.rational.specs.Places.{Place, ends, AtMost, Before, Upto}
use Rattle.frac128.specs.Cuts.{place}
use Rattle.online_nodes.specs.Held.{fresh_at, Edge}
use Rattle.online_nodes.specs.Working.{HasPassed}
use Rattle.stl_syntax.specs.declared.items.Verdict.{Verdict}
use Rattle.frac128.specs.declared.cut.Cut.{Cut}
use Rattle.online_nodes.proofs.GotLemmas.{got-length, got-other}
use Rattle.online_nodes.proofs.JoinLemmas.{same_first}
use Rattle.rational.proofs.PlaceLemmas.{at_most_of_not_before}
use Rattle.online_nodes.proofs.since.go_on.Goals as goal

pub returns-then-precedes-clause-gone : goal.returns-then-precedes-clause-gone
returns-then-precedes-clause-gone c = (
  c.in_ok-done.ensures.rested,
  subst (λ (q : Cut). Before (place q) (ends (interval c.args.v.on))) c.end.ensures
      (subst (λ (q : Place). Before (place c.end.result) q) c.end-end.ensures (c.precedes.ensures.0 c.if-precedes.true)),
)

pub returns-clause-gone : goal.returns-clause-gone
returns-clause-gone c =
    let said = c.in_ok-out.ensures.said in
    let is : c.pass.result ≡ c.args.v =
    same_first (fresh_at c.args.edges.now c.args.since.window.of) c.pass.result c.args.v
    (ap (λ l. slice_get l 0) (sym (ap (λ y. y.fresh) (got-other said.got c.args.since.window.of c.requires.left_apart))) ∙ c.pass.ensures.first)
    c.requires.first in
    let passed : HasPassed c.turn.new.edges c.pass.new.self c.args.since.window.of c.pass.result =
    record {
      within = omega (arith, got-length said.got, c.requires.left);
      first = c.pass.ensures.first;
      edges = c.pass.ensures.read;
      start = c.pass.ensures.start;
      spare = c.pass.ensures.spare;
    } in
    record {
      mid = c.turn.new.edges;
      held = c.earlier-held.result;
      cut = c.end-end.result;
      cut_is = c.end-end.ensures;
      held_reach = c.earlier-held.ensures.first;
      held_end = λ t h. subst (λ (q : Place). Upto q t) c.end-end.ensures (c.earlier-held.ensures.second t h);
      held_one = c.earlier-held.ensures.one;
      said = said;
      passed = subst (λ (q : Verdict). HasPassed c.turn.new.edges c.pass.new.self c.args.since.window.of q) is passed;
      to_end = subst (λ (q : Cut). AtMost (ends (interval c.args.v.on)) (place q)) c.end.ensures
          (subst (λ (q : Place). AtMost q (place c.end.result)) c.end-end.ensures
          (at_most_of_not_before (place c.end-end.result) (place c.end.result)
          (λ b. let x = c.precedes.ensures.1 b in let y = c.if-precedes.false in cc)));
      reach = refl;
      run = refl;
    }

pub rest-requires : goal.rest-requires
rest-requires c = record { own = c.requires.own; sound = c.requires.sound; inside = c.requires.inside }

pub turn-requires : goal.turn-requires
turn-requires c = record { edge = c.requires.own; inside = c.requires.inside; sound = c.requires.sound }

pub pass-requires : goal.pass-requires
pass-requires c =
    let of = c.args.since.window.of in
    let got = c.in_ok-out.ensures.said.got in
    record {
      edge = subst (λ n. of < n) (sym (got-length got)) c.requires.left;
      some = slice_get_within (fresh_at c.turn.new.edges of) 0 c.args.v
          (ap (λ (e : Edge). slice_get e.fresh 0) (got-other got of c.requires.left_apart) ∙ c.requires.first);
    }
