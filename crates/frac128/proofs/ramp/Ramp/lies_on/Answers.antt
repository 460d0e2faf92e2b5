use Rattle.frac128.specs.Line.{line}
use Rattle.frac128.proofs.Differences.{zero_everywhere, everywhere_zero}
use Rattle.frac128.proofs.ramp.Ramp.lies_on.Goals as goal

pub returns : goal.returns
returns c =
    let f = line c.args.self.now in
    let g = line c.args.other.now in
    (λ h. zero_everywhere f g _ _ c.of.ensures (c.is_zero.ensures.0 h), λ h. c.is_zero.ensures.1 (everywhere_zero f g _ _ c.of.ensures h))
