use Rattle.std.proofs.Common.{◌≡◌, ℕ, ◌+◌, ◌-◌, ◌*◌, ◌≤◌, true, get_or, refl, subst, arith}
use Rattle.std.specs.Prelude.{nat_le}
use Rattle.std.proofs.lemmas.Bool.{and_from, le-leb}
use Rattle.stl_syntax.specs.Characters.{is_digit}
use Rattle.command_line.proofs.NumberWords.{IsReadTo, read_more, too_large}
use Rattle.command_line.proofs.request.numeral.Goals as goal

-- a byte among the digits
digit : (b : ℕ) → 48 ≤ b → b ≤ 57 → is_digit b ≡ true
digit b low high = and_from (nat_le 48 b) (nat_le b 57) (le-leb 48 b low) (le-leb b 57 high)

pub returns-then-longer-from : goal.returns-then-longer-from
returns-then-longer-from c =
    let bytes = c.args.bytes.now in
    let b = get_or bytes c.loop-i.i 0 in
    let r = read_more bytes c.loop-i.i c.loop-i.value b c.loop-i-test.true refl (digit b (omega (arith, c.if-byte-lt48.false))
    (omega (arith, c.if-byte-gt57.false)))
    c.loop-i.invariant.0 in
    λ n is. too_large bytes c.args.most (c.loop-i.i + 1) (c.loop-i.value * 10 + (b - 48)) n
    (omega (arith, c.from.ensures, c.from-in-loop-i.ensures, c.from-in-loop-i-2.ensures, c.if-longer-from.true)) r is

pub loop-i-preserved : goal.loop-i-preserved
loop-i-preserved c =
    let bytes = c.args.bytes.now in
    let b = get_or bytes c.loop-i.i 0 in
    let r = read_more bytes c.loop-i.i c.loop-i.value b c.loop-i-test.true refl (digit b (omega (arith, c.if-byte-lt48.false))
    (omega (arith, c.if-byte-gt57.false)))
    c.loop-i.invariant.0 in
    let same : c.loop-i.value * 10 + (b - 48) ≡ c.from.result * 10 + c.from-in-loop-i.result = omega (arith, c.from.ensures, c.from-in-loop-i.ensures) in
    (subst (IsReadTo bytes (c.loop-i.i + 1)) same r, omega (arith, c.from-in-loop-i-2.ensures, c.if-longer-from.false))
