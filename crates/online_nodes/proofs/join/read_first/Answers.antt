use Rattle.std.proofs.Common.{◌<◌, ◌∙◌, refl, sym, subst}
use Rattle.std.proofs.lemmas.Bool.{true≢false}
use Rattle.frac128.specs.Spans.{interval}
use Rattle.stl_syntax.specs.declared.items.Verdict.{Verdict}
use Rattle.online_nodes.specs.Working.{HasPassed}
use Rattle.frac128.specs.declared.cut.Cut.{Cut}
use Rattle.rational.specs.Places.{Place, ends, AtMost, Before, Upto}
use Rattle.frac128.specs.Cuts.{place}
use Rattle.online_nodes.specs.Held.{fresh_at}
use Rattle.online_nodes.specs.Written.{HasAnswer}
use Rattle.online_nodes.proofs.GotLemmas.{got-length}
use Rattle.rational.proofs.PlaceLemmas.{upto_of_before, at_most_of_not_before}
use Rattle.online_nodes.proofs.JoinLemmas.{said_of_both, at_most_named, right_was_read, left_was_read, same_first}
use Rattle.online_nodes.proofs.join.read_first.Goals as goal
use Rattle.online_nodes.proofs.join.read_first.Goals.{After-precedes}

-- the right verdict ends before the left one; or it does not
right_before : (c : After-precedes) → Before (place c.end-w_end.result) (place c.end-v_end.result)
    → AtMost (place c.end-w_end.result) (ends (interval c.args.v.on))
right_before c before =
    at_most_named (place c.end-w_end.result) (λ t h. upto_of_before (place c.end-w_end.result) (place c.end-v_end.result) t before h) c.end-v_end.ensures

left_before : (c : After-precedes) → ¬ (Before (place c.end-w_end.result) (place c.end-v_end.result))
    → AtMost (place c.end-v_end.result) (ends (interval c.args.w.on))
left_before c not_before =
    at_most_named (place c.end-v_end.result) (at_most_of_not_before (place c.end-v_end.result) (place c.end-w_end.result) not_before)
    c.end-w_end.ensures

-- the next verdict of an input reaches beyond the stretch
beyond : (c : After-precedes) (end : Cut) → AtMost (place c.args.out.to) (place end) → AtMost (place end) (ends (interval c.args.v.on))
    → AtMost (place end) (ends (interval c.args.w.on))
    → AtMost (place c.args.out.to) (ends (interval c.args.v.on)) × AtMost (place c.args.out.to) (ends (interval c.args.w.on))
beyond c end reach by_v by_w = (λ t h. by_v t (reach t h), λ t h. by_w t (reach t h))

pub returns-then-not-precedes-clause-read : goal.returns-then-not-precedes-clause-read
returns-then-not-precedes-clause-read c =
    let here = (goal.at.returns-then-not-precedes-clause-read c).After-precedes in
    let end = c.end-w_end.result in
    let far = beyond here end (at_most_of_not_before (place c.args.out.to) (place end)
    (λ b. let e = c.precedes-then-precedes.ensures.1 (subst (λ (q : Cut). Before (place end) (place q)) (sym c.end.ensures) b) in
    let f = c.if-not-precedes.true in cc))
    (right_before here (c.precedes.ensures.0 c.if-precedes.true)) (λ t h. subst (λ (q : Place). Upto q t) c.end-w_end.ensures h) in
    record {
      same = refl;
      beyond = λ v w first_left first_right. (
        (λ t h. subst (λ (x : Verdict). Upto (ends (interval x.on)) t)
            (same_first (fresh_at c.args.edges.now c.args.inputs.left) c.args.v v c.requires.first_left first_left) (far.0 t h)),
        (λ t h. subst (λ (x : Verdict). Upto (ends (interval x.on)) t)
            (same_first (fresh_at c.args.edges.now c.args.inputs.right) c.args.w w c.requires.first_right first_right) (far.1 t h)),
      );
    }

pub upto_within-requires-clause-within : goal.upto_within-requires-clause-within
upto_within-requires-clause-within c t h =
    upto_of_before (place c.end-w_end.result) (place c.args.out.to) t
    (subst (λ (q : Cut). Before (place c.end-w_end.result) (place q)) c.end.ensures (c.precedes-then-precedes.ensures.0 c.if-not-precedes.false)) h

pub returns-then-precedes-clause-read : goal.returns-then-precedes-clause-read
returns-then-precedes-clause-read c =
    let here = (goal.at.returns-then-precedes-clause-read c).After-precedes in
    let end = c.end-w_end.result in
    let to_end : AtMost (place end) (place c.args.out.to) = λ t h.
    upto_of_before (place end) (place c.args.out.to) t
    (subst (λ (q : Cut). Before (place end) (place q)) c.end.ensures (c.precedes-then-precedes.ensures.0 c.if-not-precedes.false)) h in
    let said = said_of_both c.requires.first_left c.requires.first_right c.requires.own c.requires.left_apart c.requires.right_apart c.requires.apart
    (subst (λ b. HasAnswer c.args.edges.now c.upto_within.new.edges c.args.out b c.in_ok-next.next) c.joined-holds.ensures c.in_ok-next.ensures.said)
    c.in_ok-next.ensures.reaches
    (right_before here (c.precedes.ensures.0 c.if-precedes.true)) (λ t h. subst (λ (q : Place). Upto q t) c.end-w_end.ensures h) to_end in
    let passed : HasPassed c.upto_within.new.edges c.pass.new.self c.args.inputs.right c.pass.result =
    record {
      within = subst (λ n. c.args.inputs.right < n) (sym (got-length said.said.got)) c.requires.right;
      first = c.pass.ensures.first;
      edges = c.pass.ensures.read;
      start = c.pass.ensures.start;
      spare = c.pass.ensures.spare;
    } in
    right_was_read said passed (λ t h. subst (λ (q : Place). Upto q t) (sym c.end-w_end.ensures) h)

pub returns-then-not-precedes-2-clause-read : goal.returns-then-not-precedes-2-clause-read
returns-then-not-precedes-2-clause-read c =
    let here = (goal.at.returns-then-not-precedes-2-clause-read c).After-precedes in
    let end = c.end-v_end.result in
    let far = beyond here end (at_most_of_not_before (place c.args.out.to) (place end)
    (λ b. let e = c.precedes-2.ensures.1 (subst (λ (q : Cut). Before (place end) (place q)) (sym c.end-2.ensures) b) in
    let f = c.if-not-precedes-2.true in cc))
    (λ t h. subst (λ (q : Place). Upto q t) c.end-v_end.ensures h)
    (left_before here (λ b. true≢false (sym (c.precedes.ensures.1 b) ∙ c.if-precedes.false))) in
    record {
      same = refl;
      beyond = λ v w first_left first_right. (
        (λ t h. subst (λ (x : Verdict). Upto (ends (interval x.on)) t)
            (same_first (fresh_at c.args.edges.now c.args.inputs.left) c.args.v v c.requires.first_left first_left) (far.0 t h)),
        (λ t h. subst (λ (x : Verdict). Upto (ends (interval x.on)) t)
            (same_first (fresh_at c.args.edges.now c.args.inputs.right) c.args.w w c.requires.first_right first_right) (far.1 t h)),
      );
    }

pub upto_within-requires-2-clause-within : goal.upto_within-requires-2-clause-within
upto_within-requires-2-clause-within c t h =
    upto_of_before (place c.end-v_end.result) (place c.args.out.to) t
    (subst (λ (q : Cut). Before (place c.end-v_end.result) (place q)) c.end-2.ensures (c.precedes-2.ensures.0 c.if-not-precedes-2.false)) h

pub returns-clause-read : goal.returns-clause-read
returns-clause-read c =
    let here = (goal.at.returns-clause-read c).After-precedes in
    let end = c.end-v_end.result in
    let to_end : AtMost (place end) (place c.args.out.to) = λ t h.
    upto_of_before (place end) (place c.args.out.to) t
    (subst (λ (q : Cut). Before (place end) (place q)) c.end-2.ensures (c.precedes-2.ensures.0 c.if-not-precedes-2.false)) h in
    let said = said_of_both c.requires.first_left c.requires.first_right c.requires.own c.requires.left_apart c.requires.right_apart c.requires.apart
    (subst (λ b. HasAnswer c.args.edges.now c.upto_within-2.new.edges c.args.out b c.in_ok-next-2.next) c.joined-holds.ensures c.in_ok-next-2.ensures.said)
    c.in_ok-next-2.ensures.reaches
    (λ t h. subst (λ (q : Place). Upto q t) c.end-v_end.ensures h)
    (left_before here (λ b. true≢false (sym (c.precedes.ensures.1 b) ∙ c.if-precedes.false))) to_end in
    let passed : HasPassed c.upto_within-2.new.edges c.pass-2.new.self c.args.inputs.left c.pass-2.result =
    record {
      within = subst (λ n. c.args.inputs.left < n) (sym (got-length said.said.got)) c.requires.left;
      first = c.pass-2.ensures.first;
      edges = c.pass-2.ensures.read;
      start = c.pass-2.ensures.start;
      spare = c.pass-2.ensures.spare;
    } in
    left_was_read said passed (λ t h. subst (λ (q : Place). Upto q t) (sym c.end-v_end.ensures) h)
