use Rattle.std.proofs.Common.{◌≡◌, ◌<◌, Some, length, subst, sym, arith}
use Rattle.std.specs.Prelude.{slice_get}
use Rattle.std.proofs.lemmas.Option.{slice_get-get_or}
use Rattle.std.proofs.lemmas.Result.{on_ok_weaker}
use Rattle.implicants.proofs.GivenUp.{settles_one}
use Rattle.implicants.proofs.upward.settle_run.Goals as goal

pub returns-clause-settles : goal.returns-clause-settles
returns-clause-settles c = on_ok_weaker c.put_run.result (λ puts.
    let each = c.args.runs.now.items in
    let k = c.args.run.of in
    let old = c.index_mut.result.now in
    let within : k < length each = let f = c.if-k-len.false in let n = c.args.runs.now.ok in omega (arith, f, n) in
    let at : slice_get each k ≡ Some old =
    subst (λ v. slice_get each k ≡ Some v) (sym c.index_mut.ensures.value) (slice_get-get_or each k old within) in
    settles_one c.args.run each k old c.put_run.new.runs at puts) c.put_run.ensures
