-- A colon and a digit.
use Rattle.std.proofs.Common.{◌≡◌, ◌∷◌, [], ◌-◌, ap, ◌∙◌, sym, subst, arith}
use Rattle.std.proofs.lemmas.List.{nil_from_length}
use Rattle.rational.proofs.Lists.{empty_of_test}
use Rattle.trace_reader.specs.TraceText.{IsDigits, no_digits}
use Rattle.trace_reader.proofs.HeadingLemmas.{digits_of, no_digits_in, no_digits_one, empty_is}
use Rattle.trace_reader.proofs.heading.read_digits.Goals as goal
use Rattle.trace_reader.proofs.heading.read_digits.Goals.{then-colon-ne58-via-then-colon-ne58}
use Rattle.trace_reader.proofs.heading.read_digits.Goals.{then-colon-ne58-via-else-colon-ne58+then-not-is_empty}
use Rattle.trace_reader.proofs.heading.read_digits.Goals.{then-colon-ne58-via-else-colon-ne58+else-not-is_empty+then-digit-lt48}
use Rattle.trace_reader.proofs.heading.read_digits.Goals.{then-colon-ne58-via-else-colon-ne58+else-not-is_empty+else-digit-lt48+then-digit-gt54}

pub returns-in_default : goal.returns-in_default
returns-in_default c = (subst (λ t. IsDigits t 0) (sym (nil_from_length c.args.text.now c.in_default.ensures.cases)) no_digits, omega arith)

pub returns-in_err-digit : goal.returns-in_err-digit
returns-in_err-digit c = rw c.from_residual.ensures
    (no_digits_one c.args.text.now c.in-Some.colon.now c.in-Some.rest.now c.in-Some.ensures.cases.0 c.in_err-digit.ensures.cases)

pub returns-then-colon-ne58 : goal.returns-then-colon-ne58
returns-then-colon-ne58 c =
    let whole : c.args.text.now ≡ c.in-Some.colon.now ∷ c.in_ok-digit.digit.now ∷ c.in_ok-digit.others.now =
    c.in-Some.ensures.cases.0 ∙ ap (λ t. c.in-Some.colon.now ∷ t) c.in_ok-digit.ensures.cases.0 in
    no_digits_in c.args.text.now c.in-Some.colon.now c.in_ok-digit.digit.now c.in_ok-digit.others.now whole (λ a l low high.
    elim c.then-colon-ne58.branch [
      | then-colon-ne58-via-then-colon-ne58 w ↦ w.if-colon-ne58.true a
      | then-colon-ne58-via-else-colon-ne58+then-not-is_empty w ↦
          empty_is c.in_ok-digit.others.now w.is_empty.result w.is_empty.ensures w.if-not-is_empty.true l
      | then-colon-ne58-via-else-colon-ne58+else-not-is_empty+then-digit-lt48 w ↦ omega (arith, low, w.if-digit-lt48.true)
      | then-colon-ne58-via-else-colon-ne58+else-not-is_empty+else-digit-lt48+then-digit-gt54 w ↦ omega (arith, high, w.if-digit-gt54.true)
    ])

pub returns : goal.returns
returns c =
    let empty : c.in_ok-digit.others.now ≡ [] = empty_of_test c.in_ok-digit.others.now (sym c.is_empty.ensures ∙ c.if-not-is_empty.false) in
    let whole : c.args.text.now ≡ 58 ∷ c.in_ok-digit.digit.now ∷ [] =
    c.in-Some.ensures.cases.0 ∙ (ap (λ t. c.in-Some.colon.now ∷ t) (c.in_ok-digit.ensures.cases.0 ∙ ap (λ t. c.in_ok-digit.digit.now ∷ t) empty)
    ∙ ap (λ x. x ∷ c.in_ok-digit.digit.now ∷ []) c.if-colon-ne58.false) in (
      subst (λ t. IsDigits t (c.in_ok-digit.digit.now - 48)) (sym whole) (digits_of c.in_ok-digit.digit.now c.if-digit-lt48.false c.if-digit-gt54.false),
      omega (arith, c.if-digit-gt54.false),
    )
