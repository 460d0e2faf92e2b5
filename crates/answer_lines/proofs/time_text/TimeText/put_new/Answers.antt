use Rattle.std.proofs.Common.{arith, sym, subst}
use Rattle.frac128.specs.Value.{value}
use Rattle.stl_syntax.specs.Texts.{IsNumberText}
use Rattle.answer_lines.proofs.KeptTexts.{stands}
use Rattle.answer_lines.proofs.TextsBehind.{made_added}
use Rattle.answer_lines.proofs.time_text.TimeText.put_new.Goals as goal

pub invariant_of-self : goal.invariant_of-self
invariant_of-self c =
    let (T, is, put) = c.put_time_before-from.ensures in
    (put.inside, omega (arith, put.few), subst (IsNumberText c.args.digits (value c.args.t.now)) (sym (stands put (omega arith))) is)

pub returns : goal.returns
returns c = made_added (IsNumberText c.args.digits (value c.args.t.now)) c.put_time_before-from.ensures (omega arith) c.add_text.ensures
