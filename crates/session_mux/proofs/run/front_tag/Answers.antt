use Rattle.std.proofs.Common.{take, length-take-le, sym, ap, arith}
use Rattle.session_mux.proofs.RunInputs.{front_is_tag}
use Rattle.session_mux.proofs.run.front_tag.Goals as goal

pub returns : goal.returns
returns c = (
  front_is_tag c.args.piece.now c.tag_len-len.result c.tag_len-len.ensures.within c.tag_len-len.ensures.front
      (λ e. c.if-len-eq0.false e) (omega (arith, c.if-len-gt-LONGEST.false)),
  ap (λ n. take n c.args.piece.now) (sym (length-take-le c.tag_len-len.result c.args.piece.now c.tag_len-len.ensures.within)),
)
