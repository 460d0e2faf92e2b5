use Rattle.value_laws.specs.Kinds.{margin_shape}
use Rattle.pl_signal.specs.Plain.{plain_knot, plain_piece}
use Rattle.stl_syntax.specs.Texts.{IsKnotLine, IsPieceLine}
use Rattle.answer_lines.proofs.TextsBehind.{adds_then}
use Rattle.answer_lines.proofs.margin_lines.add_lines.Goals as goal

pub returns : goal.returns
returns c =
    let s = c.args.scale in
    let k = c.args.k.now in
    let n = c.args.n.now in
    adds_then (IsPieceLine s (plain_knot margin_shape k) (plain_piece margin_shape k n)) (IsKnotLine s (plain_knot margin_shape n))
    c.add_gap-knot.ensures c.add_point.ensures
