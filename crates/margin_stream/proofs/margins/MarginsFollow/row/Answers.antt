use Rattle.std.proofs.Common.{false, inl, inr}
use Rattle.std.specs.Prelude.{ℕ, List}
use Rattle.trace_stream.specs.Following.{Follows, IsOpen}
use Rattle.margin_stream.specs.Margining.{IsMargined}
use Rattle.trace_stream.specs.Streams.{margins}
use Rattle.trace_stream.specs.declared.case.Case.{Case}
use Rattle.margin_stream.specs.declared.margins.Margins.{Margins}
use Rattle.margin_stream.proofs.margins.MarginsFollow.row.Goals as goal

-- nothing is ever owed
followed : (x : Margins) (c : Case) (made : List ℕ) → IsOpen (IsMargined false x) (λ case text. ⊥) margins c made → Follows (IsMargined false x) margins c made
followed x c made (inl k) = k
followed x c made (inr b) = absurd b

pub take_row-requires : goal.take_row-requires
take_row-requires c = let (case, made, opened, t) = c.requires in (case, made, followed c.args.self.now case made opened, t)

pub returns-in-Ok-clause-followed : goal.returns-in-Ok-clause-followed
returns-in-Ok-clause-followed c = λ case made opened t.
    let (grown, is, follows) = c.in-Ok.ensures.followed case made (followed c.args.self.now case made opened) t in (grown, is, inl follows)

pub returns-in-Err-clause-fault : goal.returns-in-Err-clause-fault
returns-in-Err-clause-fault c = λ case made opened t. c.in-Err.ensures.fault case made (followed c.args.self.now case made opened) t
