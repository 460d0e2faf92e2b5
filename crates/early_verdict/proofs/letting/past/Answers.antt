use Rattle.frac128.specs.Cuts.{place}
use Rattle.early_verdict.proofs.LettingLemmas.{past_one}
use Rattle.rational.proofs.PlaceLemmas.{not_both}
use Rattle.early_verdict.proofs.letting.past.Goals as goal

pub returns-in-Some : goal.returns-in-Some
returns-in-Some c = λ t a u. past_one c.args.spans.now.items c.in-Some.span (place c.args.cut) t c.in-Some.ensures.some.0 c.in-Some.ensures.some.1 a u

pub returns-in-None : goal.returns-in-None
returns-in-None c = λ t a u. absurd (not_both (place c.args.cut) t u a)
