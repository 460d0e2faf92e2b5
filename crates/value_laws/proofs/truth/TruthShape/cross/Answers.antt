use Rattle.rational.proofs.AffineLemmas.{steady_never_meet_alone}
use Rattle.rational.proofs.LevelLemmas.{level_steady}
use Rattle.rational.specs.Affine.{level}
use Rattle.frac128.specs.Value.{value}
use Rattle.value_laws.specs.Values.{truth_value}
use Rattle.value_laws.proofs.truth.TruthShape.cross.Goals as goal

pub returns-clause-time : goal.returns-clause-time
returns-clause-time c = λ t m.
    let p = truth_value c.args._p.now.holds in let q = truth_value c.args._q.now.holds in
    steady_never_meet_alone (level p) (level q) (value c.args._l.now) (value c.args._r.now) t (level_steady p) (level_steady q) m
