use Rattle.std.proofs.Common.{take, subst}
use Rattle.value_laws.specs.Kinds.{margin_shape}
use Rattle.answer_lines.specs.Appended.{Grew}
use Rattle.answer_lines.specs.MarginLines.{AreNextLines}
use Rattle.answer_lines.proofs.TextsBehind.{added_grew}
use Rattle.answer_lines.proofs.waiting.Waiting.put_lines.Goals as goal

pub returns : goal.returns
returns c =
    let P = AreNextLines margin_shape c.args.scale c.args.k.now c.args.n.now in
    subst (λ w. Grew P w (take c.add_lines-self-inside.result c.add_lines-self-inside.new.buf)) c.self.view_is (added_grew P c.add_lines-self-inside.ensures)
