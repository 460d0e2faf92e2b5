-- How an atom is read, by its truth or by its margin, and what it is worth by how far its sum lies above its constant.
use Rattle.rational.specs.Time.{Rational, whole}
use Rattle.rational.specs.Extended.{Extended, finite}
use Rattle.value_laws.specs.Values.{truth_value}
use Rattle.stl_syntax.specs.Trace.{Trace}
use Rattle.stl_syntax.specs.Truth.{compares}
use Rattle.stl_syntax.specs.SupInf.{Reading, truths, margins, margin}
use Rattle.stl_syntax.specs.declared.rel.Rel.{Rel}

pub data How : Type 0 where
  by_truth : How
  by_margin : How

-- what the atom is worth
abbrev pub worth : How → Rel → Rational → Extended
worth by_truth rel y = finite (whole (truth_value (compares rel y)))
worth by_margin rel y = finite (margin rel y)

-- the reading of a trace
abbrev pub reading_of : How → Trace → Reading
reading_of by_truth = truths
reading_of by_margin = margins
