use Rattle.std.proofs.Common.{false, [], ◌++◌, sym, subst, append-nil, inl, inr}
use Rattle.std.specs.Prelude.{ℕ, List}
use Rattle.trace_stream.specs.Following.{Follows, IsOpen}
use Rattle.trace_stream.specs.Streams.{early}
use Rattle.trace_stream.specs.declared.case.Case.{Case}
use Rattle.early_stream.specs.Deciding.{IsDeciding}
use Rattle.early_stream.specs.declared.deciding.Deciding.{Deciding}
use Rattle.early_stream.proofs.deciding.DecidingFollow.flush.Goals as goal

-- nothing is ever owed
followed : (x : Deciding) (c : Case) (made : List ℕ) → IsOpen (λ case text. IsDeciding false x case) (λ case text. ⊥) early c made
    → Follows (λ case text. IsDeciding false x case) early c (made ++ [])
followed x c made (inl k) = subst (λ m. Follows (λ case text. IsDeciding false x case) early c m) (sym (append-nil made)) k
followed x c made (inr b) = absurd b

pub returns : goal.returns
returns c = λ case made opened. ([], sym (append-nil c.args._text.now), followed c.args.self.now case made opened)
