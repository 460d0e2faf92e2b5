use Rattle.std.proofs.Common.{false, inl, inr}
use Rattle.trace_stream.specs.Following.{Follows, IsOpen}
use Rattle.trace_stream.specs.Streams.{early}
use Rattle.trace_stream.specs.declared.case.Case.{Case}
use Rattle.std.specs.Prelude.{ℕ, List}
use Rattle.early_stream.specs.Deciding.{IsDeciding}
use Rattle.early_stream.specs.declared.deciding.Deciding.{Deciding}
use Rattle.early_stream.proofs.deciding.DecidingFollow.row.Goals as goal

-- nothing is ever owed
followed : (x : Deciding) (c : Case) (made : List ℕ) → IsOpen (λ case text. IsDeciding false x case) (λ case text. ⊥) early c made
    → Follows (λ case text. IsDeciding false x case) early c made
followed x c made (inl k) = k
followed x c made (inr b) = absurd b

pub take_row-requires : goal.take_row-requires
take_row-requires c =
    let (case, made, opened, t) = c.requires in (case, made, followed c.args.self.now case made opened, t)

pub returns-in-Ok-clause-followed : goal.returns-in-Ok-clause-followed
returns-in-Ok-clause-followed c = λ case made opened t.
    let (grown, is, follows) = c.in-Ok.ensures case made (followed c.args.self.now case made opened) t in (grown, is, inl follows)
