use Rattle.std.proofs.Common.{length, sym, ◌∙◌, arith}
use Rattle.std.proofs.lemmas.List.{take-take, take_all}
use Rattle.answer_lines.proofs.TextsBehind.{add_as}
use Rattle.session_mux.proofs.near.put_front.Goals as goal

pub returns-then-text-ge-NEAR : goal.returns-then-text-ge-NEAR
returns-then-text-ge-NEAR c =
    add_as (take-take (length c.args.word.now) 32 c.args.text.now (omega arith) ∙ sym c.requires.front) c.add_part.ensures

pub returns : goal.returns
returns c = add_as (take_all (length c.args.word.now) c.args.word.now (omega arith)) c.add_part-2.ensures
