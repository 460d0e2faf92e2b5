use Rattle.std.proofs.Common.{inl, true, ◌++◌, ap, ◌∙◌, subst, append_assoc}
use Rattle.stl_syntax.specs.Formula.{root}
use Rattle.trace_stream.specs.Streams.{verdicts, StreamText}
use Rattle.verdict_stream.proofs.verdicts.VerdictsFollow.end.Goals as goal

pub settle-requires : goal.settle-requires
settle-requires c = let (case, made, k, t) = c.requires in (case, made, inl k)

pub take_end-requires : goal.take_end-requires
take_end-requires c =
    let (case, made, k, t) = c.requires in
    let h = c.in-Ok.ensures.rows case made k in
    (case, made ++ h.grown, h.watched, t)

pub returns-in-Ok-take_end-clause-followed : goal.returns-in-Ok-take_end-clause-followed
returns-in-Ok-take_end-clause-followed c = λ case made k t.
    let h = c.in-Ok.ensures.rows case made k in
    let (g, is, done) = c.in-Ok-take_end.ensures case (made ++ h.grown) h.watched t in (
      h.grown ++ g,
      is ∙ ap (λ x. x ++ g) h.is ∙ append_assoc c.args.text.now h.grown g,
      record {
        ended = done.ended;
        told = subst (λ x. StreamText verdicts (root case.formula.nodes) case.trace.header case.trace.rows true x) (append_assoc made h.grown g) done.told;
        verdict = done.verdict;
      },
    )
