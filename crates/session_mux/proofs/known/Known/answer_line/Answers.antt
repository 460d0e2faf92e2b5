use Rattle.std.proofs.Common.{sym, ap, ◌∙◌, ◌++◌, [], append-nil, refl, length, length-append, arith}
use Rattle.stl_syntax.specs.Texts.{newline}
use Rattle.session_mux.specs.Sessions.{Tagged}
use Rattle.session_mux.proofs.known.Known.answer_line.Goals as goal

pub answer-requires-clause-some : goal.answer-requires-clause-some
answer-requires-clause-some c =
    let n = ap length (c.bytes.ensures ∙ c.in-Ok.ensures) in omega (arith, n, length-append c.args.content.now newline)

pub returns-in_default-clause-answered : goal.returns-in_default-clause-answered
returns-in_default-clause-answered c = λ f seen x k same. record { first = []; added = sym (append-nil c.args.out.now); begins = λ reply r. (reply, refl) }

pub returns-clause-answered : goal.returns-clause-answered
returns-clause-answered c = λ f seen x k same.
    c.answer.ensures.answered f seen x k (ap (λ (y : Tagged). y.tag) same)
    (c.bytes.ensures ∙ c.in-Ok.ensures ∙ ap (λ (y : Tagged). y.content ++ newline) (sym same))
