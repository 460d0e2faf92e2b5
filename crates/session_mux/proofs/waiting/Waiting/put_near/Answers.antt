use Rattle.std.proofs.Common.{◌++◌, codes, take, length, length-take, ap, ◌∙◌, arith}
use Rattle.answer_lines.proofs.TextsBehind.{add_then}
use Rattle.session_mux.proofs.waiting.Waiting.put_near.Goals as goal

pub put_wide-self-inside-requires-clause-room : goal.put_wide-self-inside-requires-clause-room
put_wide-self-inside-requires-clause-room c =
    let few = c.put-begin.ensures.few in
    let same = c.put-begin.ensures.added.same in
    let used = length-take c.self.inside.used c.self.inside.bytes in
    omega (arith, few, same, c.requires.room, ap length c.self.view_is, used, c.self.invariant)

pub returns : goal.returns
returns c =
    let prefix = c.args.tag.now ++ codes " " in
    let text = c.args.text.now in
    let all = add_then c.put-begin.ensures.added c.put_wide-self-inside.ensures in
    all.added ∙ ap (λ w. w ++ (prefix ++ take c.args.len text)) c.self.view_is
