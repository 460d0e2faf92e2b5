use Rattle.std.proofs.Common.{arith, refl, subst}
use Rattle.std.proofs.lemmas.Result.{IfOk-weaker}
use Rattle.value_laws.specs.Kinds.{kleene_shape}
use Rattle.implicants.specs.Nearby.{IsBestChain}
use Rattle.implicants.specs.declared.nearby.View.{View}
use Rattle.implicants.proofs.LostAbove.{runs_best_at}
use Rattle.implicants.proofs.LostWithout.{gone_lost}
use Rattle.implicants.proofs.Wholes.{whole_view}
use Rattle.implicants.proofs.gone.chain_without.Goals as goal

pub few-requires-clause-order : goal.few-requires-clause-order
few-requires-clause-order c = let e = c.first.ensures in let f = c.last.ensures.later in omega (arith, e, f)

pub few-requires-clause-late : goal.few-requires-clause-late
few-requires-clause-late c = c.last.type_inv

pub returns-clause-whole : goal.returns-clause-whole
returns-clause-whole c =
    let view : View = record { of = c.args.i; best = c.args.best; first = c.first.result; last = c.last.result } in
    IfOk-weaker c.few.result _ _
    (λ x is. whole_view c.args.trace.now c.deref.result.now view x c.first.ensures c.last.ensures.last is) c.few.ensures

pub returns-clause-best : goal.returns-clause-best
returns-clause-best c = IfOk-weaker c.few.result _ _ (λ x is nodes signs a cells leaf sign.
    let tr = c.args.trace.now in
    let all = c.args.cells.now.all.items in
    let marks = c.args.marks.now in
    let view : View = record { of = c.args.i; best = c.args.best; first = c.first.result; last = c.last.result } in
    let gone = gone_lost nodes tr all c.args.cells.now.ends.items cells marks c.args.c signs c.args.i a c.args.best c.in_ok-gone.gone.items leaf sign
    c.in_ok-gone.ensures in
    runs_best_at nodes tr all marks c.args.c signs c.in_ok-gone.gone.items view x c.args.i refl sign gone
    (subst (λ rs. IsBestChain kleene_shape rs view x) c.deref.ensures.value is)) c.few.ensures
