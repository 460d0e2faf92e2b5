use Rattle.std.proofs.Common.{◌≡◌, ◌++◌, ◌/◌, ◌%◌, ◌^◌, ◌<◌, List, ℕ, arith, ◌∙◌, ap, append_assoc, lit<}
use Rattle.std.specs.Prelude.{decimal}
use Rattle.std.proofs.Math.Nat.{one-le-pow}
use Rattle.std.proofs.lemmas.Result.{on_ok_weaker}
use Rattle.stl_syntax.specs.Characters.{without_zeros}
use Rattle.stl_syntax.specs.Print.{after_point}
use Rattle.stl_syntax.specs.Printing.{last_digits, decimal_text}
use Rattle.stl_syntax.proofs.decimals.put_decimal.Goals as goal

pub nonzero_div-ticks : goal.nonzero_div-ticks
nonzero_div-ticks c = let some = one-le-pow c.from.result 10 (lit< tt) in omega (arith, some, c.pow-unit.ensures)

pub nonzero_rem-ticks : goal.nonzero_rem-ticks
nonzero_rem-ticks c = let some = one-le-pow c.from.result 10 (lit< tt) in omega (arith, some, c.pow-unit.ensures)

pub put_decimals-requires : goal.put_decimals-requires
put_decimals-requires c =
    let some = one-le-pow c.from.result 10 (lit< tt) in
    let unit : c.pow-unit.result ≡ 10 ^ c.args.digits = c.pow-unit.ensures ∙ ap (λ k. 10 ^ k) c.from.ensures in
    let below : c.args.ticks % c.pow-unit.result < c.pow-unit.result = omega (arith, some, c.pow-unit.ensures) in
    rw (← unit) below

pub returns : goal.returns
unfolding decimal_text
returns c =
    let unit : c.pow-unit.result ≡ 10 ^ c.args.digits = c.pow-unit.ensures ∙ ap (λ k. 10 ^ k) c.from.ensures in
    let whole : c.as_bytes.result.now ≡ decimal (c.args.ticks / c.pow-unit.result) = c.as_bytes.ensures.value ∙ c.format.ensures.text in
    let rest : List ℕ = after_point (without_zeros (last_digits c.args.digits (c.args.ticks % c.pow-unit.result))) in
    let first : c.push.new.self ≡ c.args.text.now ++ decimal (c.args.ticks / c.pow-unit.result) =
    c.in_ok-push.ensures.ok ∙ ap (λ w. c.args.text.now ++ w) whole in
    rw (← unit) (on_ok_weaker c.put_decimals.result
    (λ e. e ∙ ap (λ t. t ++ rest) first ∙ append_assoc c.args.text.now (decimal (c.args.ticks / c.pow-unit.result)) rest) c.put_decimals.ensures)
