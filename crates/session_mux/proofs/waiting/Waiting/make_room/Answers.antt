use Rattle.answer_lines.proofs.Growths.{on_ok_both, joined_none}
use Rattle.session_mux.proofs.waiting.Waiting.make_room.Goals as goal

pub returns-clause-joined : goal.returns-clause-joined
returns-clause-joined c =
    on_ok_both c.hand_over.result (joined_none c.args.out.now c.hand_over.new.out c.args.self.now c.hand_over.new.self) c.hand_over.ensures.text
    c.hand_over.ensures.none
