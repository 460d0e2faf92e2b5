-- One more digit after others.
use Rattle.std.proofs.Common.{◌≡◌, ℕ, ◌+◌, ◌-◌, ◌*◌, ◌^◌, ◌<◌, ◌≤◌, ap, ◌∙◌, take, get_or, true, lit<, arith, add-one}
use Rattle.std.proofs.Math.Nat.{pow-suc, pow-le-pow_right}
use Rattle.std.proofs.lemmas.List.{take_more}
use Rattle.stl_syntax.specs.Characters.{is_digit, decimal_value}
use Rattle.stl_syntax.proofs.CharacterLemmas.{all-push}
use Rattle.stl_syntax.proofs.DecimalLemmas.{decimal_value-push}
use Rattle.trace_reader.proofs.DigitLemmas.{wrapped}
use Rattle.trace_reader.proofs.digits.more_digits.Goals as goal

-- fifteen digits are few enough
few : (i v : ℕ) → i < 7 → v < 10 ^ (i + 9) → v < 10 ^ 15
few i v h k =
    let p : 10 ^ (i + 9) ≤ 10 ^ 15 = pow-le-pow_right (lit< tt) (let e : i + 9 ≤ 15 = omega (arith, h) in e) in
    omega (arith, p, k)

pub overflow_mul-value : goal.overflow_mul-value
overflow_mul-value c = let f = few c.loop-len.len c.loop-len.value c.loop-len-test.true c.loop-len.invariant.2 in omega (arith, f)

pub overflow_add-value : goal.overflow_add-value
overflow_add-value c =
    let f = few c.loop-len.len c.loop-len.value c.loop-len-test.true c.loop-len.invariant.2 in
    omega (arith, f, c.if-digit-gt9.false)

pub loop-len-preserved : goal.loop-len-preserved
loop-len-preserved c =
    let text = c.args.text.now in
    let i = c.loop-len.len in
    let b = get_or text i 0 in
    let same : c.from-digit.result ≡ b = c.from-digit.ensures in
    let w = wrapped c.from-digit.result (let f = c.type_inv.text i in omega (arith, f, same)) c.if-digit-gt9.false in
    let t = take_more text i 0 (omega (arith, c.requires.room, c.loop-len-test.true)) in
    let digit : is_digit b ≡ true = grind (arith, same, w) in
    let before = c.args.before in
    let v : decimal_value before (take (i + 1) text) ≡ 10 * decimal_value before (take i text) + (b - 48) =
    ap (decimal_value before) t ∙ decimal_value-push before (take i text) b in
    let p = ap (λ j. 10 ^ j) (add-one (i + 9)) ∙ pow-suc 10 (i + 9) in
    let q : 10 ^ (i + 1 + 9) ≡ 10 ^ (i + 9 + 1) = ap (λ j. 10 ^ j) (let e : i + 1 + 9 ≡ i + 9 + 1 = omega arith in e) in (
      rw t (all-push is_digit (take i text) b c.loop-len.invariant.0 digit),
      omega (arith, v, w.2, same, c.loop-len.invariant.1),
      omega (arith, p, q, w.2, w.1, same, c.loop-len.invariant.2),
    )
