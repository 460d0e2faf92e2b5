-- What a `Ratio` stands for.
use Rattle.rational.specs.Rational.{Rational, fraction}
use Rattle.frac128.specs.declared.ratio.Ratio.{Ratio}

-- num / den
abbrev pub number : Ratio → Rational
number q = fraction q.num q.den
