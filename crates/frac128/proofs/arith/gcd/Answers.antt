use Rattle.std.proofs.Common.{◌≡◌, ◌*◌, ◌%◌, ◌^◌, ◌≤◌, arith, subst, sym}
use Rattle.std.proofs.lemmas.Nat.Gcd.{le_of_dvd}
use Rattle.std.specs.Int.{IsGcd, trailing_zeros, w64}
use Rattle.frac128.proofs.Halving.{gcd_by_odd_parts}
use Rattle.frac128.proofs.arith.gcd.Goals as goal

pub returns : goal.returns
returns c =
    let a = c.args.a in
    let b = c.args.b in
    let g = c.gcd_of_odd.result in
    let h : IsGcd a b (g * 2 ^ c.min-twos.result) =
    subst (λ k. IsGcd a b (g * 2 ^ k)) (sym c.min-twos.ensures)
    (gcd_by_odd_parts a b _ _ g (trailing_zeros w64 a) (trailing_zeros w64 b) c.odd_part.ensures.twos c.odd_part-2.ensures.twos
    c.odd_part.ensures.odd c.odd_part-2.ensures.odd c.gcd_of_odd.ensures) in
    let most : g * 2 ^ c.min-twos.result ≤ a = le_of_dvd (omega arith) h.0 in
    let fits : g * 2 ^ c.min-twos.result ≡ g * 2 ^ c.min-twos.result % 2 ^ 64 = omega arith in
    subst (λ n. IsGcd a b n) fits h

pub returns-then-b : goal.returns-then-b
returns-then-b c = rw c.from.ensures c.gcd_of_small.ensures
