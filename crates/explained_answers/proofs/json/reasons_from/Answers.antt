use Rattle.std.specs.Prelude.{Result, Ok, Err, MatchResult}
use Rattle.explained_answers.proofs.json.reasons_from.Goals as goal

match_weaker : {A E : Type 0} (P Q : A → Type 0) (F : E → Type 0) (r : Result A E) → ((x : A) → P x → Q x) → MatchResult r P F → MatchResult r Q F
match_weaker P Q F (Ok x) f h = f x h
match_weaker P Q F (Err e) f h = h

pub explain_violation-requires-clause-root : goal.explain_violation-requires-clause-root
explain_violation-requires-clause-root g c = c.requires.told.tells

pub returns : goal.returns
returns g c = match_weaker _ _ _ c.explain_violation.result (λ r h. (_, h.0, h.1)) c.explain_violation.ensures
