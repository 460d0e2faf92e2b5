use Rattle.std.proofs.Common.{◌≡◌, sym, ap, subst, ◌∙◌, length, arith}
use Rattle.rational.specs.Places.{Upto}
use Rattle.rational.proofs.Lists.{on_err_anyway}
use Rattle.frac128.specs.Cuts.{place}
use Rattle.frac128.specs.declared.cut.Cut.{Cut}
use Rattle.online_nodes.proofs.JoinLemmas.{gone_none, gone_one, gone_to_end}
use Rattle.online_nodes.proofs.join.connect.Goals as goal

pub loop-next-init : goal.loop-next-init
loop-next-init c = gone_none c.args.edges.now c.args.join c.args.inputs c.args.out c.requires.sound c.requires.inside

pub read_both-requires-clause-left : goal.read_both-requires-clause-left
read_both-requires-clause-left c = omega (arith, c.loop-next.invariant.worked.count, c.requires.left)

pub read_both-requires-clause-right : goal.read_both-requires-clause-right
read_both-requires-clause-right c = omega (arith, c.loop-next.invariant.worked.count, c.requires.right)

pub read_both-requires-clause-own : goal.read_both-requires-clause-own
read_both-requires-clause-own c = omega (arith, c.loop-next.invariant.worked.count, c.loop-next.invariant.edge, c.requires.own)

pub read_both-requires-clause-left_apart : goal.read_both-requires-clause-left_apart
read_both-requires-clause-left_apart c same = c.requires.left_apart (same ∙ c.loop-next.invariant.edge)

pub read_both-requires-clause-right_apart : goal.read_both-requires-clause-right_apart
read_both-requires-clause-right_apart c same = c.requires.right_apart (same ∙ c.loop-next.invariant.edge)

pub read_both-requires-clause-sound : goal.read_both-requires-clause-sound
read_both-requires-clause-sound c = c.loop-next.invariant.sound

pub read_both-requires-clause-inside : goal.read_both-requires-clause-inside
read_both-requires-clause-inside c t h =
    subst (λ (q : Cut). Upto (place q) t) (sym c.loop-next.invariant.end) (c.loop-next.invariant.inside t h)

pub returns-in_err-next-clause-memory : goal.returns-in_err-next-clause-memory
returns-in_err-next-clause-memory c =
    on_err_anyway c.from_residual.result
    (omega (arith, c.loop-next.invariant.worked.spare, c.loop-next.invariant.few, c.in_err-next.ensures.memory))

pub loop-next-preserved : goal.loop-next-preserved
loop-next-preserved c = gone_one c.loop-next.invariant (rw c.in-Some.is at c.in_ok-next.ensures.read)

pub end_join-requires-clause-left : goal.end_join-requires-clause-left
end_join-requires-clause-left c =
    let paused = rw c.in_default.is at c.in_ok-next.ensures.read in
    let same : length c.read_both.new.edges.edges ≡ length c.loop-next.edges.edges = ap (λ e. length e.edges) paused.same in
    omega (arith, same, c.loop-next.invariant.worked.count, c.requires.left)

pub end_join-requires-clause-right : goal.end_join-requires-clause-right
end_join-requires-clause-right c =
    let paused = rw c.in_default.is at c.in_ok-next.ensures.read in
    let same : length c.read_both.new.edges.edges ≡ length c.loop-next.edges.edges = ap (λ e. length e.edges) paused.same in
    omega (arith, same, c.loop-next.invariant.worked.count, c.requires.right)

pub end_join-requires-clause-own : goal.end_join-requires-clause-own
end_join-requires-clause-own c =
    let paused = rw c.in_default.is at c.in_ok-next.ensures.read in
    let same : length c.read_both.new.edges.edges ≡ length c.loop-next.edges.edges = ap (λ e. length e.edges) paused.same in
    omega (arith, same, c.loop-next.invariant.worked.count, c.loop-next.invariant.edge, c.requires.own)

pub end_join-requires-clause-left_apart : goal.end_join-requires-clause-left_apart
end_join-requires-clause-left_apart c same = c.requires.left_apart (same ∙ c.loop-next.invariant.edge)

pub end_join-requires-clause-right_apart : goal.end_join-requires-clause-right_apart
end_join-requires-clause-right_apart c same = c.requires.right_apart (same ∙ c.loop-next.invariant.edge)

pub end_join-requires-clause-sound : goal.end_join-requires-clause-sound
end_join-requires-clause-sound c = c.loop-next.invariant.sound

pub end_join-requires-clause-inside : goal.end_join-requires-clause-inside
end_join-requires-clause-inside c t h =
    subst (λ (q : Cut). Upto (place q) t) (sym c.loop-next.invariant.end) (c.loop-next.invariant.inside t h)

pub returns-in_err-end-clause-memory : goal.returns-in_err-end-clause-memory
returns-in_err-end-clause-memory c =
    let paused = rw c.in_default.is at c.in_ok-next.ensures.read in
    let same : c.read_both.new.edges.spare ≡ c.loop-next.edges.spare = ap (λ e. e.spare) paused.same in
    on_err_anyway c.from_residual-in_err-end.result
    (omega (arith, same, c.loop-next.invariant.worked.spare, c.loop-next.invariant.few, c.in_err-end.ensures.memory))

pub returns-clause-joined : goal.returns-clause-joined
returns-clause-joined c =
    gone_to_end c.loop-next.invariant (rw c.in_default.is at c.in_ok-next.ensures.read) c.in_ok-end.ensures.filled
