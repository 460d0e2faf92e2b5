use Rattle.std.proofs.Common.{◌≡◌, sym, ap, subst, ◌∙◌, length, arith}
use Rattle.rational.specs.Places.{Upto}
use Rattle.rational.proofs.Lists.{on_err_anyway}
use Rattle.frac128.specs.Cuts.{place}
use Rattle.frac128.specs.declared.cut.Cut.{Cut}
use Rattle.online_nodes.proofs.NegationLemmas.{gone_none, gone_one, gone_to_end}
use Rattle.online_nodes.proofs.negation.negate.Goals as goal

pub loop-next-init : goal.loop-next-init
loop-next-init c = gone_none c.args.edges.now c.args.of c.args.out c.requires.sound c.requires.inside

pub read_next-requires-clause-input : goal.read_next-requires-clause-input
read_next-requires-clause-input c = omega (arith, c.loop-next.invariant.worked.count, c.requires.input)

pub read_next-requires-clause-own : goal.read_next-requires-clause-own
read_next-requires-clause-own c = omega (arith, c.loop-next.invariant.worked.count, c.loop-next.invariant.edge, c.requires.own)

pub read_next-requires-clause-apart : goal.read_next-requires-clause-apart
read_next-requires-clause-apart c same = c.requires.apart (same ∙ c.loop-next.invariant.edge)

pub read_next-requires-clause-sound : goal.read_next-requires-clause-sound
read_next-requires-clause-sound c = c.loop-next.invariant.sound

pub read_next-requires-clause-inside : goal.read_next-requires-clause-inside
read_next-requires-clause-inside c t h =
    subst (λ (q : Cut). Upto (place q) t) (sym c.loop-next.invariant.end) (c.loop-next.invariant.inside t h)

pub returns-in_err-next-clause-memory : goal.returns-in_err-next-clause-memory
returns-in_err-next-clause-memory c =
    on_err_anyway c.from_residual.result
    (omega (arith, c.loop-next.invariant.worked.spare, c.loop-next.invariant.few, c.in_err-next.ensures.memory))

pub loop-next-preserved : goal.loop-next-preserved
loop-next-preserved c = gone_one c.loop-next.invariant (rw c.in-Some.is at c.in_ok-next.ensures.read)

pub end_negation-requires-clause-input : goal.end_negation-requires-clause-input
end_negation-requires-clause-input c =
    let waited = rw c.in_default.is at c.in_ok-next.ensures.read in
    let same : length c.read_next.new.edges.edges ≡ length c.loop-next.edges.edges = ap (λ e. length e.edges) waited.same in
    omega (arith, same, c.loop-next.invariant.worked.count, c.requires.input)

pub end_negation-requires-clause-own : goal.end_negation-requires-clause-own
end_negation-requires-clause-own c =
    let waited = rw c.in_default.is at c.in_ok-next.ensures.read in
    let same : length c.read_next.new.edges.edges ≡ length c.loop-next.edges.edges = ap (λ e. length e.edges) waited.same in
    omega (arith, same, c.loop-next.invariant.worked.count, c.loop-next.invariant.edge, c.requires.own)

pub end_negation-requires-clause-apart : goal.end_negation-requires-clause-apart
end_negation-requires-clause-apart c same = c.requires.apart (same ∙ c.loop-next.invariant.edge)

pub end_negation-requires-clause-sound : goal.end_negation-requires-clause-sound
end_negation-requires-clause-sound c = c.loop-next.invariant.sound

pub end_negation-requires-clause-inside : goal.end_negation-requires-clause-inside
end_negation-requires-clause-inside c t h =
    subst (λ (q : Cut). Upto (place q) t) (sym c.loop-next.invariant.end) (c.loop-next.invariant.inside t h)

pub returns-in_err-end-clause-memory : goal.returns-in_err-end-clause-memory
returns-in_err-end-clause-memory c =
    let waited = rw c.in_default.is at c.in_ok-next.ensures.read in
    let same : c.read_next.new.edges.spare ≡ c.loop-next.edges.spare = ap (λ e. e.spare) waited.same in
    on_err_anyway c.from_residual-in_err-end.result
    (omega (arith, same, c.loop-next.invariant.worked.spare, c.loop-next.invariant.few, c.in_err-end.ensures.memory))

pub returns-clause-negated : goal.returns-clause-negated
returns-clause-negated c =
    gone_to_end c.loop-next.invariant (rw c.in_default.is at c.in_ok-next.ensures.read) c.in_ok-end.ensures.denied
