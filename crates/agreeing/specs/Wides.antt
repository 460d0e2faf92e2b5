-- A streamed robustness that is refused for a denominator has cause to be refused in each trace that goes on from the rows.
use Rattle.std.specs.Prelude.{◌≡◌, ◌⊎◌, ℕ, Bool, true, List, [], ◌++◌}
use Rattle.rational.specs.Time.{Rational}
use Rattle.rational.specs.Extended.{Affine}
use Rattle.stl_syntax.specs.Formula.{Formula}
use Rattle.stl_syntax.specs.SupInf.{margin_setting}
use Rattle.stl_syntax.specs.Trace.{Header, Row, Trace, IsTrace, Continues}
use Rattle.stl_syntax.specs.WideCause.{IsCrossingCause, IsValueCause}
use Rattle.trace_stream.specs.CaseReader.{IsWhole}
use Rattle.trace_stream.specs.Streams.{margins, HasStream, limits_of}
use Rattle.trace_stream.specs.Wides.{IsWideRows, IsWideStream}
use Rattle.stl_syntax.specs.Scaling.{nodes_for}

-- over the whole trace a pair of functions, or a constant, that is in play at node i needs this denominator
abbrev pub HasCause : Formula → Trace → ℕ → ℕ → Type 0
HasCause f tr i den =
    ((p q : Affine) × (a b : Rational) × IsCrossingCause (nodes_for f tr) (margin_setting tr) i p q a b den)
    ⊎ ((p : Affine) × (u : Rational) × IsValueCause (nodes_for f tr) (margin_setting tr) i p u den)

-- what `rwatch` is refused for at some rows, or at their end, is a cause over each trace that goes on from them: judging row by row gives no
-- cause that the whole trace does not give
abbrev pub StreamedWidesAreWhole : Type 0
StreamedWidesAreWhole =
    (f : Formula) (header : Header) (rows : List Row) (ended : Bool) (i den : ℕ) (text : List ℕ) → HasStream margins f
    → IsWideRows f header ended rows i den text → (tr : Trace) → IsTrace tr → Continues tr header rows ended → HasCause f tr i den

-- so is what `rwatch` is refused for on the bytes so far, over the trace of these bytes and whatever follows them
abbrev pub InputWidesAreWhole : Type 0
InputWidesAreWhole =
    (f : Formula) (bytes more : List ℕ) (ended : Bool) (i den : ℕ) (text : List ℕ) (tr : Trace) → HasStream margins f
    → IsWideStream margins (limits_of margins) f bytes ended i den text → (ended ≡ true → more ≡ []) → IsWhole (limits_of margins) f (bytes ++ more) tr
    → HasCause f tr i den
