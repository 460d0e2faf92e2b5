use Rattle.std.proofs.Common.{arith}
use Rattle.std.proofs.lemmas.Fmt.{length-decimal-le}
use Rattle.answer_lines.proofs.TextsBefore.{put_digits_is}
use Rattle.answer_lines.proofs.before.put_small.Goals as goal

pub write_digits-requires : goal.write_digits-requires
write_digits-requires c = (omega (arith, length-decimal-le 20 c.args.n (omega arith) (omega arith) (omega arith)), c.requires.inside)

pub returns : goal.returns
returns c =
    let few = length-decimal-le 20 c.args.n (omega arith) (omega arith) (omega arith) in
    put_digits_is c.args.n c.args.buf.now c.args.end c.write_digits.new.buf c.write_digits.result few c.requires.inside c.write_digits.ensures.start
    c.write_digits.ensures.written c.write_digits.ensures.before
