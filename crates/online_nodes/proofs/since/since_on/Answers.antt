use Rattle.std.proofs.Common.{sym, ap, subst, ◌∙◌, slice_get, arith}
use Rattle.rational.specs.Places.{Upto}
use Rattle.rational.proofs.Lists.{on_err_anyway}
use Rattle.frac128.specs.Cuts.{place}
use Rattle.online_nodes.specs.Held.{fresh_at}
use Rattle.frac128.specs.declared.cut.Cut.{Cut}
use Rattle.node_edges.proofs.DroppingLemmas.{slice_get-drop}
use Rattle.online_nodes.proofs.SinceReads.{come_none, come_one, come_done}
use Rattle.online_nodes.proofs.since.since_on.Goals as goal

pub loop-next-init : goal.loop-next-init
loop-next-init c = come_none c.args.edges.now c.args.since c.args.course c.requires.sound c.requires.inside c.requires.fits_run

pub read_since-requires-clause-left : goal.read_since-requires-clause-left
read_since-requires-clause-left c = omega (arith, c.loop-next.invariant.worked.count, c.requires.left)

pub read_since-requires-clause-right : goal.read_since-requires-clause-right
read_since-requires-clause-right c = omega (arith, c.loop-next.invariant.worked.count, c.requires.right)

pub read_since-requires-clause-own : goal.read_since-requires-clause-own
read_since-requires-clause-own c = omega (arith, c.loop-next.invariant.worked.count, c.loop-next.invariant.edge, c.requires.own)

pub read_since-requires-clause-left_apart : goal.read_since-requires-clause-left_apart
read_since-requires-clause-left_apart c same = c.requires.left_apart (same ∙ c.loop-next.invariant.edge)

pub read_since-requires-clause-right_apart : goal.read_since-requires-clause-right_apart
read_since-requires-clause-right_apart c same = c.requires.right_apart (same ∙ c.loop-next.invariant.edge)

pub read_since-requires-clause-sound : goal.read_since-requires-clause-sound
read_since-requires-clause-sound c = c.loop-next.invariant.sound

pub read_since-requires-clause-inside : goal.read_since-requires-clause-inside
read_since-requires-clause-inside c t h =
    subst (λ (q : Cut). Upto (place q) t) (sym c.loop-next.invariant.end) (c.loop-next.invariant.inside t h)

pub read_since-requires-clause-fits_left : goal.read_since-requires-clause-fits_left
read_since-requires-clause-fits_left c v first =
    c.requires.fits_left c.loop-next.invariant.worked.left_read.read v
    (sym (slice_get-drop c.loop-next.invariant.worked.left_read.read (fresh_at c.args.edges.now c.args.since.window.of))
    ∙ sym (ap (λ l. slice_get l 0) c.loop-next.invariant.worked.left_read.fresh) ∙ first)

pub read_since-requires-clause-fits_right : goal.read_since-requires-clause-fits_right
read_since-requires-clause-fits_right c v first =
    c.requires.fits_right c.loop-next.invariant.worked.right_read.read v
    (sym (slice_get-drop c.loop-next.invariant.worked.right_read.read (fresh_at c.args.edges.now c.args.since.right))
    ∙ sym (ap (λ l. slice_get l 0) c.loop-next.invariant.worked.right_read.fresh) ∙ first)

pub read_since-requires-clause-fits_run : goal.read_since-requires-clause-fits_run
read_since-requires-clause-fits_run c = c.loop-next.invariant.fits

pub returns-in_err-next-clause-memory : goal.returns-in_err-next-clause-memory
returns-in_err-next-clause-memory c =
    on_err_anyway c.from_residual.result
    (omega (arith, c.loop-next.invariant.worked.spare, c.loop-next.invariant.few, c.in_err-next.ensures.memory))

pub loop-next-smaller : goal.loop-next-smaller
loop-next-smaller c = (rw c.in-More.is at c.in_ok-next.ensures.turned).fewer

pub loop-next-preserved : goal.loop-next-preserved
loop-next-preserved c = come_one c.loop-next.invariant (rw c.in-More.is at c.in_ok-next.ensures.turned)

pub returns-in-Done-clause-told : goal.returns-in-Done-clause-told
returns-in-Done-clause-told c = come_done c.loop-next.invariant (rw c.in-Done.is at c.in_ok-next.ensures.turned)
