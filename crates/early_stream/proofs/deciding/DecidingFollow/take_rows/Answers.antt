use Rattle.std.proofs.Common.{false, List, inl, inr, refl, sym, subst}
use Rattle.early_verdict.specs.Deciding.{trace_of}
use Rattle.trace_reader.specs.Taken.{HasTraceSoFar}
use Rattle.trace_stream.specs.Following.{Follows, IsOpen}
use Rattle.trace_stream.specs.Streams.{early}
use Rattle.trace_stream.specs.declared.case.Case.{Case}
use Rattle.std.specs.Prelude.{ℕ}
use Rattle.stl_syntax.specs.Trace.{Header}
use Rattle.early_stream.specs.Deciding.{IsDeciding}
use Rattle.early_stream.specs.declared.deciding.Deciding.{Deciding}
use Rattle.early_stream.proofs.EarlyFollows.{rows_on}
use Rattle.early_stream.proofs.deciding.DecidingFollow.take_rows.Goals as goal

-- nothing is ever owed
followed : (x : Deciding) (c : Case) (made : List ℕ) → IsOpen (λ case text. IsDeciding false x case) (λ case text. ⊥) early c made
    → Follows (λ case text. IsDeciding false x case) early c made
followed x c made (inl k) = k
followed x c made (inr b) = absurd b

pub take_rows-requires-clause-open : goal.take_rows-requires-clause-open
take_rows-requires-clause-open c =
    let (case, made, opened, has) = c.requires in (followed c.args.self.now case made opened).stands.stands.is_ended

pub take_rows-requires-clause-rows : goal.take_rows-requires-clause-rows
take_rows-requires-clause-rows c = λ running.
    let (case, made, opened, has) = c.requires in
    let k = (followed c.args.self.now case made opened).stands in
    (case.trace.rows, k.stands, subst (λ (h : Header). HasTraceSoFar c.args.rows.now (trace_of h case.trace.rows)) (sym k.header) has)

pub returns-clause-taken : goal.returns-clause-taken
returns-clause-taken c = λ case made opened has.
    let k = followed c.args.self.now case made opened in
    let t = c.in-Ok.ensures.taken case.trace.rows k.stands.stands
    (subst (λ (h : Header). HasTraceSoFar c.args.rows.now (trace_of h case.trace.rows)) (sym k.stands.header) has) in
    let on = rows_on c.args.self.now (record { early = c.take_rows.new.self; scale = c.args.self.now.scale; digits = c.self-1.given.0 }) case made k
    c.take_rows.ensures.same.nodes c.take_rows.ensures.same.header refl t.more c.args.text.now c.put_answer.new.text
    c.in-Ok.taken.decided t.stands t.answers c.in_ok-put_answer.ensures in
    record { more = t.more; stands = t.read; opened = (on.0, on.1, inl on.2) }
