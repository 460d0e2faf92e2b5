use Rattle.std.proofs.Common.{sym, subst}
use Rattle.std.specs.Int.{w64}
use Rattle.rational.specs.Rational.{FitsFloor, add, whole, ◌≈◌}
use Rattle.rational.proofs.Mixed.{move_fits}
use Rattle.frac128.specs.Value.{value}
use Rattle.growing_sets.proofs.WindowLemmas.{near_fits}
use Rattle.early_verdict.proofs.letting.moved_cut.Goals as goal

pub shift_begin-requires : goal.shift_begin-requires
shift_begin-requires c = subst (λ k. FitsFloor w64 (add (value c.args.cut.now.time) (whole k))) (sym (near_fits c.args.by c.requires.bound))
    (move_fits (value c.args.cut.now.time) c.args.by c.requires.near c.requires.bound)

pub returns : goal.returns
returns c =
    subst (λ k. value c.shift_begin.result.time ≈ add (value c.args.cut.now.time) (whole k)) (near_fits c.args.by c.requires.bound) c.shift_begin.ensures.0
