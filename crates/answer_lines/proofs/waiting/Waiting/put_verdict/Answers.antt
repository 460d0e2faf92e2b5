use Rattle.std.proofs.Common.{take, subst}
use Rattle.stl_syntax.specs.Texts.{IsVerdictLine}
use Rattle.answer_lines.specs.Appended.{Grew}
use Rattle.answer_lines.proofs.TextsBehind.{added_grew}
use Rattle.answer_lines.proofs.waiting.Waiting.put_verdict.Goals as goal

pub returns-clause-grew : goal.returns-clause-grew
returns-clause-grew c =
    let P = IsVerdictLine c.args.scale c.args.v.now in
    subst (λ w. Grew P w (take c.add_verdict-self-inside.result c.add_verdict-self-inside.new.buf)) c.self.view_is
    (added_grew P c.add_verdict-self-inside.ensures)
