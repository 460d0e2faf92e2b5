use Rattle.std.proofs.Common.{◌≡◌, sym, ap, subst, ◌∙◌, slice_get, length, arith}
use Rattle.rational.specs.Places.{Upto}
use Rattle.rational.proofs.Lists.{on_err_anyway}
use Rattle.frac128.specs.Cuts.{place}
use Rattle.online_nodes.specs.Held.{fresh_at}
use Rattle.frac128.specs.declared.cut.Cut.{Cut}
use Rattle.node_edges.proofs.DroppingLemmas.{slice_get-drop}
use Rattle.online_nodes.proofs.SweepLemmas.{gone_none, gone_one, gone_to_end}
use Rattle.online_nodes.proofs.window.sweep_on.Goals as goal

pub loop-next-init : goal.loop-next-init
loop-next-init c = gone_none c.args.edges.now c.args.window c.args.sweep c.requires.sound c.requires.inside

pub read_one-requires-clause-input : goal.read_one-requires-clause-input
read_one-requires-clause-input c = omega (arith, c.loop-next.invariant.worked.count, c.requires.input)

pub read_one-requires-clause-own : goal.read_one-requires-clause-own
read_one-requires-clause-own c = omega (arith, c.loop-next.invariant.worked.count, c.loop-next.invariant.edge, c.requires.own)

pub read_one-requires-clause-apart : goal.read_one-requires-clause-apart
read_one-requires-clause-apart c same = c.requires.apart (same ∙ c.loop-next.invariant.edge)

pub read_one-requires-clause-sound : goal.read_one-requires-clause-sound
read_one-requires-clause-sound c = c.loop-next.invariant.sound

pub read_one-requires-clause-inside : goal.read_one-requires-clause-inside
read_one-requires-clause-inside c t h =
    subst (λ (q : Cut). Upto (place q) t) (sym c.loop-next.invariant.end) (c.loop-next.invariant.inside t h)

pub read_one-requires-clause-fits : goal.read_one-requires-clause-fits
read_one-requires-clause-fits c v first =
    c.requires.fits c.loop-next.invariant.read v
    (sym (slice_get-drop c.loop-next.invariant.read (fresh_at c.args.edges.now c.args.window.of))
    ∙ sym (ap (λ l. slice_get l 0) c.loop-next.invariant.fresh) ∙ first)

pub returns-in_err-next-clause-memory : goal.returns-in_err-next-clause-memory
returns-in_err-next-clause-memory c =
    on_err_anyway c.from_residual.result
    (omega (arith, c.loop-next.invariant.worked.spare, c.loop-next.invariant.few, c.in_err-next.ensures.memory))

pub loop-next-preserved : goal.loop-next-preserved
loop-next-preserved c = gone_one c.loop-next.invariant (rw c.in-Some.is at c.in_ok-next.ensures.read)

pub end_sweep-requires-clause-own : goal.end_sweep-requires-clause-own
end_sweep-requires-clause-own c =
    let stopped = rw c.in_default.is at c.in_ok-next.ensures.read in
    let same : length c.read_one.new.edges.edges ≡ length c.loop-next.edges.edges = ap (λ e. length e.edges) stopped.same in
    omega (arith, same, c.loop-next.invariant.worked.count, c.loop-next.invariant.edge, c.requires.own)

pub end_sweep-requires-clause-sound : goal.end_sweep-requires-clause-sound
end_sweep-requires-clause-sound c = c.loop-next.invariant.sound

pub end_sweep-requires-clause-inside : goal.end_sweep-requires-clause-inside
end_sweep-requires-clause-inside c t h =
    subst (λ (q : Cut). Upto (place q) t) (sym c.loop-next.invariant.end) (c.loop-next.invariant.inside t h)

pub returns-in_err-end-clause-memory : goal.returns-in_err-end-clause-memory
returns-in_err-end-clause-memory c =
    let stopped = rw c.in_default.is at c.in_ok-next.ensures.read in
    let same : c.read_one.new.edges.spare ≡ c.loop-next.edges.spare = ap (λ e. e.spare) stopped.same in
    on_err_anyway c.from_residual-in_err-end.result
    (omega (arith, same, c.loop-next.invariant.worked.spare, c.loop-next.invariant.few, c.in_err-end.ensures.memory))

pub returns-clause-swept : goal.returns-clause-swept
returns-clause-swept c =
    gone_to_end c.requires.own c.requires.apart c.loop-next.invariant (rw c.in_default.is at c.in_ok-next.ensures.read) c.in_ok-end.ensures.ended
