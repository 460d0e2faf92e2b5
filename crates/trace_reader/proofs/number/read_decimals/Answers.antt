-- A point and digits.
use Rattle.std.proofs.Common.{◌≡◌, ◌∙◌, ap, sym, subst, true}
use Rattle.stl_syntax.specs.Characters.{is_digit, all, without_zeros}
use Rattle.trace_reader.proofs.NumberLemmas.{some_first}
use Rattle.trace_reader.proofs.number.read_decimals.Goals as goal

pub returns : goal.returns
returns c =
    let point = c.in_ok-point.point.now in
    let decimals = c.in_ok-point.decimals.now in
    let (d, more, whole, rest) = some_first point decimals c.if-point-ne46.false (sym c.if-is_empty.ensures) in (
      d,
      more,
      c.in_ok-point.ensures.cases.0 ∙ whole,
      subst (λ t. all is_digit t ≡ true) rest (sym c.if-not-are_digits.ensures),
      c.without_zeros.ensures ∙ ap without_zeros rest,
    )
