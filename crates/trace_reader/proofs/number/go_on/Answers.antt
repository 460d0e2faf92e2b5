-- A digit more.
use Rattle.std.proofs.Common.{◌≡◌, ◌+◌, ◌-◌, ◌*◌, get_or, take, arith}
use Rattle.stl_syntax.specs.Characters.{decimal_value}
use Rattle.trace_reader.proofs.NumberLemmas.{value_more, digit_at}
use Rattle.trace_reader.proofs.number.go_on.Goals as goal
use Rattle.trace_reader.proofs.number.go_on.Goals.{then-sum-lt-BEYOND, else-sum-lt-BEYOND}

pub loop-byte-preserved : goal.loop-byte-preserved
loop-byte-preserved c =
    let text = c.args.digits.now in
    let i = c.loop-byte.byte-index in
    let v : decimal_value c.args.value (take (i + 1) text) ≡ 10 * decimal_value c.args.value (take i text) + (get_or text i 0 - 48) =
    value_more c.args.value text i c.loop-byte-test.true in
    let d = digit_at text i c.requires.digits c.loop-byte-test.true in
    let old = c.loop-byte.invariant in
    elim c.if-sum-lt-BEYOND.branch [
      | then-sum-lt-BEYOND w ↦ (
        omega (arith, v, d.0, d.1, old.0, w.sum-is, w.if-sum-lt-BEYOND.true),
        omega (arith, d.0, d.1, w.sum-is, w.if-sum-lt-BEYOND.true),
      )
      | else-sum-lt-BEYOND w ↦ (omega (arith, v, d.0, d.1, old.0, w.sum-is, w.if-sum-lt-BEYOND.false), omega (arith, old.1, w.sum-is))
    ]
