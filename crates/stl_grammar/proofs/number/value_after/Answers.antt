-- One more digit.
use Rattle.std.proofs.Common.{◌≡◌, ◌+◌, ◌-◌, ◌*◌, ap, ◌∙◌, take, get_or, arith}
use Rattle.std.proofs.lemmas.List.{take_more}
use Rattle.stl_syntax.specs.Characters.{decimal_value}
use Rattle.stl_syntax.proofs.DecimalLemmas.{decimal_value-push}
use Rattle.stl_grammar.proofs.number.value_after.Goals as goal
use Rattle.stl_grammar.proofs.number.value_after.Goals.{then-sum-lt-BEYOND, else-sum-lt-BEYOND}

pub loop-c-preserved : goal.loop-c-preserved
loop-c-preserved c =
    let text = c.args.digits.now in
    let i = c.loop-c.c-index in
    let b = get_or text i 0 in
    let t = take_more text i 0 c.loop-c-test.true in
    let v : decimal_value c.args.value (take (i + 1) text) ≡ 10 * decimal_value c.args.value (take i text) + (b - 48) =
    ap (decimal_value c.args.value) t ∙ decimal_value-push c.args.value (take i text) b in
    elim c.if-sum-lt-BEYOND.branch [ then-sum-lt-BEYOND w ↦ omega (arith, v) | else-sum-lt-BEYOND w ↦ omega (arith, v) ]
