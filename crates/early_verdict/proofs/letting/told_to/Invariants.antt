use Rattle.std.proofs.Common.{◌⊎◌}
use Rattle.rational.specs.Time.{Rational}
use Rattle.rational.specs.Places.{After, Upto}
use Rattle.frac128.specs.Cuts.{place}
use Rattle.growing_sets.specs.Spans.{IsOn}
use Rattle.early_verdict.proofs.letting.told_to.Given as goal

abbrev pub invariant-runs : goal.invariant-runs
invariant-runs l = (t : Rational) → After (place l.fn.from) t → Upto (place l.cut) t → IsOn l.fn.own.yes.spans.items t ⊎ IsOn l.fn.own.no.spans.items t
