-- A value of a few digits, maybe after a minus.
use Rattle.std.proofs.Common.{◌≡◌, ◌∷◌, ◌+◌, take, drop, get_or, if◌then◌else◌, arith, length-drop, w32, sym, subst, ap, ◌∙◌}
use Rattle.std.proofs.lemmas.Bool.{ne_eqb, eq-eqb}
use Rattle.std.proofs.lemmas.Int.{to_z-of_z}
use Rattle.std.proofs.lemmas.List.{take_rest}
use Rattle.trace_reader.specs.Plain.{IsPlainNumber, IsTicks}
use Rattle.trace_reader.proofs.DigitLemmas.{value_fits}
use Rattle.trace_reader.proofs.PlainLemmas.{value_read, minus_value_read, minus_front, minus_plain}
use Rattle.trace_reader.proofs.plain.plain_value.Goals as goal

pub returns : goal.returns
returns c =
    let text = c.args.text.now in
    let n = c.in_ok-number.number in
    let none : c.sign_len.result ≡ 0 = c.sign_len.ensures ∙ ap (λ b. if b then 1 else 0) (ne_eqb (get_or text 0 0) 45 c.if-minus.false) in
    let p : IsPlainNumber c.args.most.now c.args.digits text n =
    subst (λ k. IsPlainNumber c.args.most.now c.args.digits (drop k text) n) none (rw take_rest at c.in_ok-number.ensures) in
    let size = c.in_ok-size.ensures in
    let s = c.in_ok-size.size in
    rw (to_z-of_z w32 c.value_of.result (value_fits c.value_of.result c.value_of.ensures.small), c.value_of.ensures.value) (record {
      plain = p.plain;
      read = λ i. value_read (take n.len text) c.args.most.now c.args.digits i s
          (subst (IsTicks c.args.most.now c.args.digits (take n.len text)) (sym size.0) p.read) size.1;
      fits = size.1;
    })

pub returns-then-minus : goal.returns-then-minus
returns-then-minus c =
    let text = c.args.text.now in
    let n = c.in_ok-number.number in
    let one : c.sign_len.result ≡ 1 = c.sign_len.ensures ∙ ap (λ b. if b then 1 else 0) (eq-eqb (get_or text 0 0) 45 c.if-minus.true) in
    let p : IsPlainNumber c.args.most.now c.args.digits (drop 1 text) n =
    subst (λ k. IsPlainNumber c.args.most.now c.args.digits (drop k text) n) one (rw take_rest at c.in_ok-number.ensures) in
    let size = c.in_ok-size.ensures in
    let s = c.in_ok-size.size in
    let m = length-drop 1 text in
    let front : take (n.len + 1) text ≡ 45 ∷ take n.len (drop 1 text) = minus_front text n.len (omega (arith, c.if-text-lt11.false)) c.if-minus.true in
    rw (to_z-of_z w32 c.opposite_of.result (value_fits c.opposite_of.result c.opposite_of.ensures.small), c.opposite_of.ensures.value) (record {
      plain = record {
        some = omega arith;
        goes_on = omega (arith, m, p.plain.goes_on);
        short = omega (arith, p.short);
        bytes = rw front (minus_plain (take n.len (drop 1 text)) p.plain.bytes);
      };
      read = λ i. rw front (minus_value_read (take n.len (drop 1 text)) c.args.most.now c.args.digits i s
          (subst (IsTicks c.args.most.now c.args.digits (take n.len (drop 1 text))) (sym size.0) p.read) size.1);
      fits = rw (← c.opposite_of.ensures.value) c.opposite_of.ensures.small;
    })
