use Rattle.std.proofs.Common.{◌≡◌, sym, ap, subst, ◌∙◌, slice_get, length, arith}
use Rattle.rational.specs.Places.{Upto}
use Rattle.rational.proofs.Lists.{on_err_anyway}
use Rattle.frac128.specs.Cuts.{place}
use Rattle.online_nodes.specs.Held.{fresh_at}
use Rattle.frac128.specs.declared.cut.Cut.{Cut}
use Rattle.node_edges.proofs.DroppingLemmas.{slice_get-drop}
use Rattle.online_nodes.proofs.UntilGoes.{gone_none, gone_one, gone_to_end}
use Rattle.online_nodes.proofs.until.until_on.Goals as goal

pub loop-next-init : goal.loop-next-init
loop-next-init c = gone_none c.args.edges.now c.args.until c.args.sweep c.requires.sound c.requires.inside

pub read_until-requires-clause-left : goal.read_until-requires-clause-left
read_until-requires-clause-left c = omega (arith, c.loop-next.invariant.worked.count, c.requires.left)

pub read_until-requires-clause-right : goal.read_until-requires-clause-right
read_until-requires-clause-right c = omega (arith, c.loop-next.invariant.worked.count, c.requires.right)

pub read_until-requires-clause-own : goal.read_until-requires-clause-own
read_until-requires-clause-own c = omega (arith, c.loop-next.invariant.worked.count, c.loop-next.invariant.edge, c.requires.own)

pub read_until-requires-clause-left_apart : goal.read_until-requires-clause-left_apart
read_until-requires-clause-left_apart c same = c.requires.left_apart (same ∙ c.loop-next.invariant.edge)

pub read_until-requires-clause-right_apart : goal.read_until-requires-clause-right_apart
read_until-requires-clause-right_apart c same = c.requires.right_apart (same ∙ c.loop-next.invariant.edge)

pub read_until-requires-clause-sound : goal.read_until-requires-clause-sound
read_until-requires-clause-sound c = c.loop-next.invariant.sound

pub read_until-requires-clause-inside : goal.read_until-requires-clause-inside
read_until-requires-clause-inside c t h =
    subst (λ (q : Cut). Upto (place q) t) (sym c.loop-next.invariant.end) (c.loop-next.invariant.inside t h)

pub read_until-requires-clause-fits_left : goal.read_until-requires-clause-fits_left
read_until-requires-clause-fits_left c v first =
    c.requires.fits_left c.loop-next.invariant.worked.left_read.read v
    (sym (slice_get-drop c.loop-next.invariant.worked.left_read.read (fresh_at c.args.edges.now c.args.until.window.of))
    ∙ sym (ap (λ l. slice_get l 0) c.loop-next.invariant.worked.left_read.fresh) ∙ first)

pub read_until-requires-clause-fits_right : goal.read_until-requires-clause-fits_right
read_until-requires-clause-fits_right c v first =
    c.requires.fits_right c.loop-next.invariant.worked.right_read.read v
    (sym (slice_get-drop c.loop-next.invariant.worked.right_read.read (fresh_at c.args.edges.now c.args.until.right))
    ∙ sym (ap (λ l. slice_get l 0) c.loop-next.invariant.worked.right_read.fresh) ∙ first)

pub returns-in_err-next-clause-memory : goal.returns-in_err-next-clause-memory
returns-in_err-next-clause-memory c =
    on_err_anyway c.from_residual.result
    (omega (arith, c.loop-next.invariant.worked.spare, c.loop-next.invariant.few, c.in_err-next.ensures.memory))

pub loop-next-preserved : goal.loop-next-preserved
loop-next-preserved c = gone_one c.loop-next.invariant (rw c.in-Some.is at c.in_ok-next.ensures.turned)

pub end_until-requires-clause-own : goal.end_until-requires-clause-own
end_until-requires-clause-own c =
    let settled = rw c.in_default.is at c.in_ok-next.ensures.turned in
    let same : length c.read_until.new.edges.edges ≡ length c.loop-next.edges.edges = ap (λ e. length e.edges) settled.same in
    omega (arith, same, c.loop-next.invariant.worked.count, c.loop-next.invariant.edge, c.requires.own)

pub end_until-requires-clause-left_apart : goal.end_until-requires-clause-left_apart
end_until-requires-clause-left_apart c same = c.requires.left_apart (same ∙ c.loop-next.invariant.edge)

pub end_until-requires-clause-right_apart : goal.end_until-requires-clause-right_apart
end_until-requires-clause-right_apart c same = c.requires.right_apart (same ∙ c.loop-next.invariant.edge)

pub end_until-requires-clause-sound : goal.end_until-requires-clause-sound
end_until-requires-clause-sound c = c.loop-next.invariant.sound

pub end_until-requires-clause-inside : goal.end_until-requires-clause-inside
end_until-requires-clause-inside c t h =
    subst (λ (q : Cut). Upto (place q) t) (sym c.loop-next.invariant.end) (c.loop-next.invariant.inside t h)

pub returns-in_err-end-clause-memory : goal.returns-in_err-end-clause-memory
returns-in_err-end-clause-memory c =
    let settled = rw c.in_default.is at c.in_ok-next.ensures.turned in
    let same : c.read_until.new.edges.spare ≡ c.loop-next.edges.spare = ap (λ e. e.spare) settled.same in
    on_err_anyway c.from_residual-in_err-end.result
    (omega (arith, same, c.loop-next.invariant.worked.spare, c.loop-next.invariant.few, c.in_err-end.ensures.memory))

pub returns-clause-told : goal.returns-clause-told
returns-clause-told c =
    gone_to_end c.loop-next.invariant (rw c.in_default.is at c.in_ok-next.ensures.turned) c.in_ok-end.ensures.ended
