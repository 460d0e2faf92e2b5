use Rattle.std.proofs.Common.{◌<◌, ◌∙◌, refl, sym, subst}
use Rattle.frac128.specs.Spans.{interval}
use Rattle.stl_syntax.specs.declared.items.Verdict.{Verdict}
use Rattle.online_nodes.specs.Working.{HasPassed}
use Rattle.frac128.specs.declared.cut.Cut.{Cut}
use Rattle.rational.specs.Places.{Place, ends, AtMost, Before, Upto}
use Rattle.frac128.specs.Cuts.{place}
use Rattle.online_nodes.specs.Held.{fresh_at}
use Rattle.online_nodes.specs.Written.{HasAnswer}
use Rattle.online_nodes.proofs.GotLemmas.{got-length}
use Rattle.rational.proofs.PlaceLemmas.{upto_of_before, upto_same, same_places, at_most_of_not_before}
use Rattle.online_nodes.proofs.WorkLemmas.{passed-length}
use Rattle.online_nodes.proofs.JoinLemmas.{said_of_both, both_were_read, same_first}
use Rattle.online_nodes.proofs.join.read_together.Goals as goal
use Rattle.online_nodes.proofs.join.read_together.Goals.{After-end-end}

-- the end of both is where the left verdict ends, and where the right one does
of_left : (c : After-end-end) → AtMost (place c.end-end.result) (ends (interval c.args.v.on))
of_left c t h = subst (λ (q : Place). Upto q t) c.end-end.ensures h

of_right : (c : After-end-end) → AtMost (place c.end-end.result) (ends (interval c.args.w.on))
of_right c t h = upto_same (ends (interval c.args.v.on)) (ends (interval c.args.w.on)) t c.requires.alike (of_left c t h)

pub returns-then-not-precedes-clause-read : goal.returns-then-not-precedes-clause-read
returns-then-not-precedes-clause-read c =
    let here = (goal.at.returns-then-not-precedes-clause-read c).After-end-end in
    let end = c.end-end.result in
    let far : AtMost (place c.args.out.to) (place end) =
    at_most_of_not_before (place c.args.out.to) (place end)
    (λ b. let e = c.precedes.ensures.1 (subst (λ (q : Cut). Before (place end) (place q)) (sym c.end.ensures) b) in let f = c.if-not-precedes.true in cc) in
    record {
      same = refl;
      beyond = λ v w first_left first_right. (
        (λ t h. subst (λ (x : Verdict). Upto (ends (interval x.on)) t)
            (same_first (fresh_at c.args.edges.now c.args.inputs.left) c.args.v v c.requires.first_left first_left) (of_left here t (far t h))),
        (λ t h. subst (λ (x : Verdict). Upto (ends (interval x.on)) t)
            (same_first (fresh_at c.args.edges.now c.args.inputs.right) c.args.w w c.requires.first_right first_right) (of_right here t (far t h))),
      );
    }

pub upto_within-requires-clause-within : goal.upto_within-requires-clause-within
upto_within-requires-clause-within c t h =
    upto_of_before (place c.end-end.result) (place c.args.out.to) t
    (subst (λ (q : Cut). Before (place c.end-end.result) (place q)) c.end.ensures (c.precedes.ensures.0 c.if-not-precedes.false)) h

pub returns-clause-read : goal.returns-clause-read
returns-clause-read c =
    let here = (goal.at.returns-clause-read c).After-end-end in
    let end = c.end-end.result in
    let to_end : AtMost (place end) (place c.args.out.to) =
    λ t h. upto_of_before (place end) (place c.args.out.to) t
    (subst (λ (q : Cut). Before (place end) (place q)) c.end.ensures (c.precedes.ensures.0 c.if-not-precedes.false)) h in
    let said = said_of_both c.requires.first_left c.requires.first_right c.requires.own c.requires.left_apart c.requires.right_apart c.requires.apart
    (subst (λ b. HasAnswer c.args.edges.now c.upto_within.new.edges c.args.out b c.in_ok-next.next) c.joined.ensures c.in_ok-next.ensures.said)
    c.in_ok-next.ensures.reaches (of_left here) (of_right here) to_end in
    let passed : HasPassed c.upto_within.new.edges c.pass.new.self c.args.inputs.left c.pass.result =
    record {
      within = subst (λ n. c.args.inputs.left < n) (sym (got-length said.said.got)) c.requires.left;
      first = c.pass.ensures.first;
      edges = c.pass.ensures.read;
      start = c.pass.ensures.start;
      spare = c.pass.ensures.spare;
    } in
    let also : HasPassed c.pass.new.self c.pass-2.new.self c.args.inputs.right c.pass-2.result =
    record {
      within = subst (λ n. c.args.inputs.right < n) (sym (passed-length passed ∙ got-length said.said.got)) c.requires.right;
      first = c.pass-2.ensures.first;
      edges = c.pass-2.ensures.read;
      start = c.pass-2.ensures.start;
      spare = c.pass-2.ensures.spare;
    } in
    let v_ended : AtMost (ends (interval c.args.v.on)) (place end) = (λ t h. subst (λ (q : Place). Upto q t) (sym c.end-end.ensures) h) in
    both_were_read said passed also v_ended
    (λ t h. v_ended t (upto_same (ends (interval c.args.w.on)) (ends (interval c.args.v.on)) t (same_places c.requires.alike) h))
