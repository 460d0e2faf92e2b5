use Rattle.std.proofs.Common.{◌++◌, codes, ap, ◌∙◌}
use Rattle.stl_syntax.specs.Texts.{newline}
use Rattle.answer_lines.proofs.TextsBehind.{add_then}
use Rattle.session_mux.proofs.waiting.Waiting.put.Goals as goal

pub returns : goal.returns
returns c =
    let prefix = c.args.tag.now ++ codes " " in
    let all = add_then (add_then c.put-begin.ensures.added c.put_front-end.ensures) c.add_byte-self-inside.ensures in
    all.added ∙ ap (λ w. w ++ ((prefix ++ c.args.line.now) ++ newline)) c.self.view_is
