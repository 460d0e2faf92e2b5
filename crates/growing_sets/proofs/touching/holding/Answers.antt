use Rattle.std.proofs.Common.{sym, subst}
use Rattle.std.specs.Prelude.{IfNone}
use Rattle.frac128.specs.Cuts.{place}
use Rattle.growing_sets.specs.Spans.{IsAmong}
use Rattle.growing_sets.specs.Steps.{HoldsFrom}
use Rattle.growing_sets.specs.declared.stretch.Stretch.{Stretch}
use Rattle.growing_sets.proofs.HoldingLemmas.{among_at, none_between, none_at_end}
use Rattle.growing_sets.proofs.touching.holding.Goals as goal

pub returns-in_err-next-clause-none : goal.returns-in_err-next-clause-none
returns-in_err-next-clause-none c =
    subst (λ r. IfNone r ((s : Stretch) → IsAmong s c.args.spans.now.items → ¬ (HoldsFrom s (place c.args.cut.now)))) (sym c.from_residual.ensures)
    (λ s m k. none_between (place c.args.cut.now) c.args.spans.now.items c.reaching-at.result s c.requires c.reaching-at.ensures.front
    c.in_err-next.ensures.none m k)

pub returns-then-not-precedes-clause-none : goal.returns-then-not-precedes-clause-none
returns-then-not-precedes-clause-none c s m k =
    none_at_end (place c.args.cut.now) c.args.spans.now.items c.reaching-at.result c.in_ok-next.next s c.requires c.reaching-at.ensures.front
    c.reaching-at.ensures.rest c.in_ok-next.ensures.some.0 (λ b. let e = c.precedes.ensures.1 b in let f = c.if-not-precedes.true in cc) m k

pub returns-clause-some : goal.returns-clause-some
returns-clause-some c = (
  among_at c.args.spans.now.items c.reaching-at.result c.in_ok-next.next c.in_ok-next.ensures.some.0,
  (c.in_ok-next.ensures.some.1, c.precedes.ensures.0 c.if-not-precedes.false),
)
