use Rattle.std.proofs.lemmas.Result.{IfOk-weaker}
use Rattle.std.proofs.Common.{◌≡◌, ℕ, List, [], ◌∷◌, subst, arith}
use Rattle.stl_syntax.specs.Trace.{Row, IsTrace}
use Rattle.trace_stream.specs.Kept.{with_rows}
use Rattle.trace_stream.specs.declared.case.Case.{Case}
use Rattle.verdict_stream.specs.Watching.{IsBehind, HasAnswered, HasStepped}
use Rattle.verdict_stream.proofs.CaughtUp.{some_row}
use Rattle.verdict_stream.proofs.Quiets.{last_rises, at_last, at_new, steady_at, ahead_within, quiet_row, stepped_row, tail}
use Rattle.verdict_stream.proofs.verdicts.Verdicts.take_alone.Goals as goal
use Rattle.verdict_stream.proofs.verdicts.Verdicts.take_alone.Goals.{After-time-second}

-- the block is a trace
is_trace : (c : After-time-second) (case : Case) (made : List ℕ) (r : Row) → IsBehind c.args.self.now case made (r ∷ []) → IsTrace c.args.self.now.block
is_trace c case made r b = c.rows-last.ensures.trace (let n = some_row c.args.self.now case made (r ∷ []) b in omega (arith, n, c.rows-last.ensures.count))

-- the times of its last two rows
first_is : (c : After-time-second) (case : Case) (made : List ℕ) (r : Row) (b : IsBehind c.args.self.now case made (r ∷ []))
    → c.time-first.result ≡ (tail c.args.self.now case made r b (is_trace c case made r b)).l.time
first_is c case made r b =
    at_last c.args.self.now case made r b (is_trace c case made r b) c.rows-last.result c.time-first.result c.rows-last.ensures.count c.time-first.ensures

second_is : (c : After-time-second) (case : Case) (made : List ℕ) (r : Row) (b : IsBehind c.args.self.now case made (r ∷ []))
    → c.time-second.result ≡ r.time
second_is c case made r b =
    at_new c.args.self.now case made r b (is_trace c case made r b) c.rows-last.result c.time-second.result c.rows-last.ensures.count c.time-second.ensures

pub answer-requires-clause-from : goal.answer-requires-clause-from
answer-requires-clause-from c =
    let (case, made, r, b, k) = c.requires in
    let v = c.args.self.now in
    let x = (goal.at.answer-requires-clause-from c).After-time-second in
    let t = is_trace x case made r b in
    let a = ahead_within v case made r b t c.in-Some.holds k (c.goes_on.ensures.told c.in-Some.holds c.in-Some.is) in
    omega (arith, a, first_is x case made r b)

pub answer-requires-clause-rises : goal.answer-requires-clause-rises
answer-requires-clause-rises c =
    let (case, made, r, b, k) = c.requires in
    let x = (goal.at.answer-requires-clause-rises c).After-time-second in
    let rises = last_rises c.args.self.now case made r b (is_trace x case made r b) in
    omega (arith, rises, first_is x case made r b, second_is x case made r b)

pub answer-requires-clause-none : goal.answer-requires-clause-none
answer-requires-clause-none c = let (case, made, r, b, k) = c.requires in b.watched.stands.none_waiting

pub returns-in-Some : goal.returns-in-Some
returns-in-Some c = λ case made r b k.
    let v = c.args.self.now in
    let x = (goal.at.returns-in-Some c).After-time-second in
    let t = is_trace x case made r b in
    let holds = c.in-Some.holds in
    let calm = c.goes_on.ensures.calm holds c.in-Some.is in
    let steady = steady_at v case made r b t c.rows-last.result c.rows-last.ensures.count (c.stays-even.ensures c.if-even.true) in
    IfOk-weaker c.answer.result _ _
    (λ u a.
    quiet_row v case made r b t c.answer.new.self holds c.args.text.now c.answer.new.text k (c.goes_on.ensures.told holds c.in-Some.is)
    (omega (arith, calm, first_is x case made r b)) steady
    (subst (λ n. HasAnswered v c.answer.new.self n r.time holds c.args.text.now c.answer.new.text) (first_is x case made r b)
    (subst (λ n. HasAnswered v c.answer.new.self c.time-first.result n holds c.args.text.now c.answer.new.text) (second_is x case made r b) a)))
    c.answer.ensures

pub returns : goal.returns
returns c = λ case made r b k.
    let v = c.args.self.now in
    let x = (goal.at.returns c).After-time-second in
    let t = is_trace x case made r b in
    IfOk-weaker c.step_alone.result _ _
    (λ u s.
    stepped_row v case made r b t c.step_alone.new.self c.stays-even.result c.args.text.now c.step_alone.new.text k
    (λ yes. steady_at v case made r b t c.rows-last.result c.rows-last.ensures.count (c.stays-even.ensures yes))
    (subst (λ n. HasStepped v.quiet c.step_alone.new.self c.stays-even.result n (with_rows (r ∷ []) case) made c.args.text.now c.step_alone.new.text)
    (second_is x case made r b) s))
    (c.step_alone.ensures case made r b)
