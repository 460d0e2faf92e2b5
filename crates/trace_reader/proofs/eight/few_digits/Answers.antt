-- Up to eight digits, or eight and a ninth.
use Rattle.std.proofs.Common.{◌≡◌, ℕ, ◌+◌, ◌-◌, ◌*◌, ◌<◌, ◌≤◌, List, [], ◌∷◌, ◌++◌, true, length, take, get_or, sym, ap, ◌∙◌, subst, arith, length-take}
use Rattle.std.proofs.lemmas.List.{take-take, take_more}
use Rattle.stl_syntax.specs.Characters.{is_digit, all, decimal_value}
use Rattle.stl_syntax.proofs.CharacterLemmas.{all-push}
use Rattle.stl_syntax.proofs.DecimalLemmas.{decimal_value-push}
use Rattle.trace_reader.specs.declared.digits.Digits.{Digits}
use Rattle.trace_reader.specs.Words.{IsEight}
use Rattle.trace_reader.proofs.DigitLemmas.{wrapped}
use Rattle.trace_reader.proofs.eight.few_digits.Goals as goal

-- what is told of eight bytes is so of the text that they begin
front : (text : List ℕ) (e : Digits) → IsEight (take 8 text) e → e.len ≤ 8
    → (all is_digit (take e.len text) ≡ true) × (e.value ≡ decimal_value 0 (take e.len text))
front text e h l =
    let t : take e.len (take 8 text) ≡ take e.len text = take-take e.len 8 text l in
    (ap (all is_digit) (sym t) ∙ h.count.digits, h.value ∙ ap (decimal_value 0) t)

pub returns-then-eight-lt8 : goal.returns-then-eight-lt8
returns-then-eight-lt8 c =
    let text = c.args.text.now in
    let e = c.in_ok-eight.eight in
    let few : e.len ≤ 8 = omega (arith, c.if-eight-lt8.true) in
    let f = front text e c.in_ok-eight.ensures few in
    record {
      some = c.in_ok-eight.ensures.some;
      few = omega (arith, few);
      digits = f.0;
      value = f.1;
      small = omega (arith, c.in_ok-eight.ensures.small);
    }

in_range : (b : ℕ) → 48 ≤ b → b ≤ 57 → is_digit b ≡ true
in_range b low high = grind (arith, low, high)

pub returns : goal.returns
returns c =
    let text = c.args.text.now in
    let e = c.in_ok-eight.eight in
    let h = c.in_ok-eight.ensures in
    let long : 8 < length text = omega (arith, c.requires) in
    let few : e.len ≤ 8 = omega (arith, h.count.within, length-take 8 text) in
    let whole : e.len ≡ 8 = omega (arith, few, c.if-eight-lt8.false) in
    let f = front text e h few in
    let b = get_or text 8 0 in
    let same : c.from-ninth.result ≡ b = c.from-ninth.ensures in
    let w = wrapped c.from-ninth.result (let g = c.type_inv.text 8 in omega (arith, g, same)) (omega (arith, c.if-ninth-gt9.false)) in
    let t : take 9 text ≡ take 8 text ++ b ∷ [] = take_more text 8 0 long in
    let digit : is_digit b ≡ true = in_range b (omega (arith, same, w.0)) (omega (arith, same, w.1)) in
    let d : all is_digit (take 8 text) ≡ true = subst (λ n. all is_digit (take n text) ≡ true) whole f.0 in
    let v : e.value ≡ decimal_value 0 (take 8 text) = f.1 ∙ ap (λ n. decimal_value 0 (take n text)) whole in
    let m : decimal_value 0 (take 9 text) ≡ 10 * decimal_value 0 (take 8 text) + (b - 48) = ap (decimal_value 0) t ∙ decimal_value-push 0 (take 8 text) b in
    record {
      some = omega arith;
      few = omega arith;
      digits = rw t (all-push is_digit (take 8 text) b d digit);
      value = omega (arith, m, v, w.2, same);
      small = omega (arith, h.small, c.if-ninth-gt9.false);
    }
