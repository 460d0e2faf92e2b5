-- Digits, or digits, a point and digits.
use Rattle.std.proofs.Common.{◌≡◌, ◌∷◌, ◌∙◌, ◌-◌, ◌*◌, ◌^◌, length, take, min, sym, ap, subst, inl, inr, arith, true}
use Rattle.std.proofs.lemmas.List.{take_all, take_rest, length-take-le}
use Rattle.stl_syntax.specs.Characters.{is_digit, all, decimal_value, without_zeros}
use Rattle.stl_syntax.proofs.DecimalLemmas.{all-without_zeros}
use Rattle.trace_reader.proofs.NumberLemmas.{numeral_cases, whole_read, decimal_read, parted, decimal_places, IsRead}
use Rattle.trace_reader.proofs.number.read_numeral.Goals as goal

pub returns-then-whole-eq0 : goal.returns-then-whole-eq0
returns-then-whole-eq0 c = λ n k h few.
    let e = c.leading_digits-whole.ensures in
    let s = numeral_cases h c.leading_digits-whole.result.len e.digits e.stops in
    omega (arith, s.0, c.if-whole-eq0.true)

pub returns-then-whole-text : goal.returns-then-whole-text
returns-then-whole-text c =
    let text = c.args.text.now in
    let len = c.leading_digits-whole.result.len in
    let e = c.leading_digits-whole.ensures in
    let t : take len text ≡ text = take_all len text (omega (arith, c.if-whole-text.true)) in
    let digits : all is_digit text ≡ true = rw t at e.digits in
    let value : min c.leading_digits-whole.result.value 4294967296 ≡ min (decimal_value 0 text) 4294967296 = rw t at e.value in
    whole_read text c.args.most c.args.digits c.min-value.result c.scaled.result (omega (arith, c.if-whole-eq0.false, c.if-whole-text.true)) digits
    (omega (arith, c.min-value.ensures, value)) c.scaled.ensures

pub returns-in_err-decimals : goal.returns-in_err-decimals
returns-in_err-decimals c = rw c.from_residual.ensures (λ n k h few.
    let text = c.args.text.now in
    let len = c.leading_digits-whole.result.len in
    let e = c.leading_digits-whole.ensures in
    let s = numeral_cases h len e.digits e.stops in
    let none = rw take_rest at c.in_err-decimals.ensures in
    elim s.1 [
      | inl whole ↦ c.if-whole-text.false (omega (arith, whole, e.within))
      | inr w ↦ none w.0 w.1 w.2 w.3
    ])

pub returns-then-decimals-most : goal.returns-then-decimals-most
returns-then-decimals-most c = λ n k h few.
    let text = c.args.text.now in
    let len = c.leading_digits-whole.result.len in
    let e = c.leading_digits-whole.ensures in
    let (d, more, is, digits, short) = rw take_rest at c.in_ok-decimals.ensures in
    let l : length c.in_ok-decimals.decimals.now ≡ length (without_zeros (d ∷ more)) = ap length short in
    let k_is : k ≡ length (without_zeros (d ∷ more)) = decimal_places text len d more e.digits e.within (omega (arith, c.if-whole-eq0.false)) is digits h in
    omega (arith, few, l, k_is, c.if-decimals-most.true)

pub go_on-requires-clause-digits : goal.go_on-requires-clause-digits
go_on-requires-clause-digits c =
    let (d, more, is, digits, short) = rw take_rest at c.in_ok-decimals.ensures in
    rw short (all-without_zeros (d ∷ more) digits)

pub returns : goal.returns
returns c =
    let text = c.args.text.now in
    let len = c.leading_digits-whole.result.len in
    let e = c.leading_digits-whole.ensures in
    let (d, more, is, digits, short) = rw take_rest at c.in_ok-decimals.ensures in
    let l : length c.in_ok-decimals.decimals.now ≡ length (without_zeros (d ∷ more)) = ap length short in
    let n : length (take len text) ≡ len = length-take-le len text e.within in
    let sum = c.go_on.ensures.value ∙ ap (λ t. min (decimal_value c.min-value.result t) 4294967296) short in
    let r = c.scaled-2.ensures ∙ ap (λ t. c.go_on.result * 10 ^ (c.args.digits - t)) l in
    subst (λ t. IsRead t c.args.most c.args.digits c.scaled-2.result) (sym (parted text len d more is))
    (decimal_read (take len text) d more c.args.most c.args.digits
    (record {
      some = omega (arith, n, c.if-whole-eq0.false);
      before = e.digits;
      after = digits;
      value = omega (arith, c.min-value.ensures, e.value);
      sum = sum;
    })
    (omega (arith, l, c.if-decimals-most.false)) r)
