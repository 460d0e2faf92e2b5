use Rattle.std.proofs.Common.{false, [], ◌++◌, sym, subst, append-nil, inl, inr}
use Rattle.std.specs.Prelude.{ℕ, List}
use Rattle.trace_stream.specs.Following.{Follows, IsOpen}
use Rattle.margin_stream.specs.Margining.{IsMargined}
use Rattle.trace_stream.specs.Streams.{margins}
use Rattle.trace_stream.specs.declared.case.Case.{Case}
use Rattle.margin_stream.specs.declared.margins.Margins.{Margins}
use Rattle.margin_stream.proofs.margins.MarginsFollow.flush.Goals as goal

-- nothing is ever owed
followed : (x : Margins) (c : Case) (made : List ℕ) → IsOpen (IsMargined false x) (λ case text. ⊥) margins c made
    → Follows (IsMargined false x) margins c (made ++ [])
followed x c made (inl k) = subst (λ m. Follows (IsMargined false x) margins c m) (sym (append-nil made)) k
followed x c made (inr b) = absurd b

pub returns : goal.returns
returns c = λ case made opened. ([], sym (append-nil c.args._text.now), followed c.args.self.now case made opened)
