use Rattle.std.proofs.lemmas.Result.{on_ok_weaker}
use Rattle.implicants.proofs.NearBest.{near_begin, near_run, near_within}
use Rattle.implicants.proofs.nearby.add_run.Goals as goal

pub go_up_to-requires : goal.go_up_to-requires
go_up_to-requires c = near_within c.args.runs.now c.args.view c.args.chain.now c.requires.before c.requires.late

pub go_up_to-requires-2 : goal.go_up_to-requires-2
go_up_to-requires-2 c =
    near_within c.args.runs.now c.args.view c.go_up_to.new.chain
    (near_begin c.args.runs.now c.args.view c.args.j c.run_in-run.result c.begin.result c.end.result c.best_value.result c.of.result c.run_in-run.ensures
    (c.counts.ensures c.if-not-counts.false) c.begin.ensures c.end.ensures c.best_value.ensures c.args.chain.now c.go_up_to.new.chain c.requires.before
    c.in_ok-go_up_to.ensures) c.requires.late

pub returns : goal.returns
returns c = on_ok_weaker c.go_up_to-2.result
    (λ over. near_run c.args.runs.now c.args.view c.args.j c.run_in-run.result c.begin.result c.end.result c.best_value.result c.of.result
    c.run_in-run.ensures (c.counts.ensures c.if-not-counts.false) c.begin.ensures c.end.ensures c.best_value.ensures c.args.chain.now
    c.go_up_to.new.chain c.go_up_to-2.new.chain c.requires.before c.in_ok-go_up_to.ensures over) c.go_up_to-2.ensures
