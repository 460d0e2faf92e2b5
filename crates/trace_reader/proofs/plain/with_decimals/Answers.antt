-- Digits, a point and digits.
use Rattle.std.proofs.Common.{◌≡◌, ◌<◌, ◌≤◌, ◌+◌, ◌-◌, ◌*◌, ◌^◌, ◌++◌, [], ◌∷◌, ℕ, List, length, take, drop, arith, length-drop, subst, ◌∙◌, sym, ap, true}
use Rattle.std.proofs.lemmas.List.{length-take-le, take_rest}
use Rattle.stl_syntax.specs.Characters.{is_digit, all, decimal_value}
use Rattle.trace_reader.specs.Plain.{AreMoreDigits, IsTicks}
use Rattle.trace_reader.proofs.PlainLemmas.{decimal_ticks, decimals_plain, point_front}
use Rattle.trace_reader.proofs.plain.with_decimals.Goals as goal

-- the digits after the point, which are some
ticks_after : (front ds : List ℕ) (most digits v : ℕ) → 0 < length front → all is_digit front ≡ true → 0 < length ds → all is_digit ds ≡ true
    → v ≡ decimal_value (decimal_value 0 front) ds → length ds ≤ most → most ≤ digits → IsTicks most digits (front ++ 46 ∷ ds) (v * 10 ^ (digits - length ds))
ticks_after front [] most digits v some h more k value few within = absurd (omega (arith, more))
ticks_after front (d ∷ ds) most digits v some h more k value few within = decimal_ticks front d ds most digits v some h k value few within

pub returns : goal.returns
returns c =
    let text = c.args.text.now in
    let w = c.args.whole in
    let d = c.requires.whole in
    let n = w.len in
    let rest = drop (n + 1) text in
    let a : AreMoreDigits rest w.value c.in_ok-all.all = rw take_rest at c.in_ok-all.ensures in
    let m = c.in_ok-all.all.len in
    let l = length-drop (n + 1) text in
    let room : 7 ≤ length rest = omega (arith, l, c.if-rest-lt7.false) in
    let joined : take (n + 1 + m) text ≡ take n text ++ 46 ∷ take m rest =
    point_front text n m c.requires.inside c.requires.point (omega (arith, room, a.few)) in
    let front : length (take n text) ≡ n = length-take-le n text (omega (arith, c.requires.inside)) in
    let back : length (take m rest) ≡ m = length-take-le m rest (omega (arith, room, a.few)) in
    let value : c.in_ok-all.all.value ≡ decimal_value (decimal_value 0 (take n text)) (take m rest) =
    a.value ∙ ap (λ x. decimal_value x (take m rest)) d.value in
    let read = ticks_after (take n text) (take m rest) c.args.most.now c.args.digits c.in_ok-all.all.value (omega (arith, front, d.some)) d.digits
    (omega (arith, back, a.some)) a.digits value (omega (arith, back, c.if-all-most.false)) c.requires.most in
    record {
      plain = record {
        some = omega arith;
        goes_on = omega (arith, l, room, a.few);
        short = omega (arith, d.few, a.few);
        bytes = rw joined (decimals_plain (take n text) (take m rest) d.digits a.digits);
      };
      short = omega (arith, d.few, a.few);
      read = rw joined (subst (IsTicks c.args.most.now c.args.digits (take n text ++ 46 ∷ take m rest))
          (ap (λ x. c.in_ok-all.all.value * 10 ^ (c.args.digits - x)) back ∙ sym c.scaled.ensures) read);
    }
