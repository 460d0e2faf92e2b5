-- One more digit.
use Rattle.std.proofs.Common.{◌≡◌, ◌+◌, ◌-◌, ◌*◌, ap, ◌∙◌, take, get_or, true, arith}
use Rattle.std.proofs.lemmas.List.{take_more}
use Rattle.stl_syntax.specs.Characters.{is_digit, decimal_value}
use Rattle.stl_syntax.proofs.CharacterLemmas.{all-push}
use Rattle.stl_syntax.proofs.DecimalLemmas.{decimal_value-push}
use Rattle.trace_reader.proofs.digits.leading_digits.Goals as goal
use Rattle.trace_reader.proofs.digits.leading_digits.Goals.{then-value-lt-BEYOND, else-value-lt-BEYOND}

pub loop-i-preserved : goal.loop-i-preserved
loop-i-preserved c =
    let text = c.args.text.now in
    let i = c.loop-i.i in
    let b = get_or text i 0 in
    let t = take_more text i 0 c.loop-i-test.true in
    let digit : is_digit b ≡ true = grind arith in
    let v : decimal_value 0 (take (i + 1) text) ≡ 10 * decimal_value 0 (take i text) + (b - 48) =
    ap (decimal_value 0) t ∙ decimal_value-push 0 (take i text) b in (
      rw t (all-push is_digit (take i text) b c.loop-i.invariant.0 digit),
      elim c.if-value-lt-BEYOND.branch [ then-value-lt-BEYOND w ↦ omega (arith, v) | else-value-lt-BEYOND w ↦ omega (arith, v) ],
    )
