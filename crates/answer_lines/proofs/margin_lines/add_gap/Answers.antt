use Rattle.std.proofs.Common.{arith, refl}
use Rattle.answer_lines.proofs.TextsBehind.{add_then}
use Rattle.answer_lines.proofs.margin_lines.add_gap.Goals as goal

pub returns : goal.returns
returns c =
    let (A, is_a, few_a, a) = c.put-comma.ensures in
    let (B, is_b, few_b, b) = c.put_new-middle.ensures in
    let (v, is_v, few_v, from) = c.put-arrow.ensures in
    let (x, is_x, few_x, to) = c.put-line.ensures in
    let times = add_then (add_then (add_then c.add_byte-start.ensures a) c.add_byte-stop.ensures) b in
    let values = add_then (add_then (add_then (add_then times c.add_part-first.ensures) from) c.add_part-limit.ensures) to in
    let all = add_then values c.add_byte.ensures in (
      _,
      (A, B, v, x, is_a, is_b, is_v, is_x, refl),
      omega (
        arith,
        all.size,
        c.add_byte-start.ensures.size,
        a.size,
        c.add_byte-stop.ensures.size,
        b.size,
        c.add_part-first.ensures.size,
        from.size,
        c.add_part-limit.ensures.size,
        to.size,
        c.add_byte.ensures.size,
        few_a,
        few_b,
        few_v,
        few_x,
      ),
      all,
    )
