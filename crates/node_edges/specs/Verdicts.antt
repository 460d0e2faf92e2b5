-- Verdicts as parts: neighbours of one truth go on from each other.
use Rattle.std.specs.Prelude.{◌≡◌}
use Rattle.rational.specs.Places.{begins, ends, Same}
use Rattle.frac128.specs.Spans.{interval}
use Rattle.stl_syntax.specs.declared.items.Verdict.{Verdict}

-- the second verdict goes on from the first: it begins where that ends, and has its truth
pub record GoesOn (first second : Verdict) : Type 0 where
  pub touch : Same (ends (interval first.on)) (begins (interval second.on))
  pub alike : second.holds ≡ first.holds

-- the verdict is two neighbours of one truth, joined
pub record IsJoined (first second joined : Verdict) : Type 0 where
  pub goes_on : GoesOn first second
  pub begin : begins (interval joined.on) ≡ begins (interval first.on)
  pub end : ends (interval joined.on) ≡ ends (interval second.on)
  pub holds : joined.holds ≡ first.holds
