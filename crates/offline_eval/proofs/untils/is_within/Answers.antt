use Rattle.std.proofs.Common.{◌≡◌, ◌^◌, ◌<◌, ◌∙◌, ℕ, ℤ, pos, arith, ap, refl, sym, subst, to_z, of_z, w64}
use Rattle.std.proofs.lemmas.Int.{to_z-of_z, ints}
use Rattle.std.specs.declared.cmp.Ordering.{Ordering}
use Rattle.std.specs.declared.cmp.Ordering.TheVariants.{Less, Equal, Greater}
use Rattle.rational.specs.Rational.{Rational, FitsFloor, IsOrder, add, whole, ◌≤ʳ◌}
use Rattle.rational.specs.Time.{later}
use Rattle.rational.proofs.Mixed.{move_fits}
use Rattle.rational.proofs.Order.{ge_of_same, le_of_lt, le_of_same, le_trans}
use Rattle.rational.proofs.TimeLemmas.{later-add}
use Rattle.frac128.specs.Value.{value}
use Rattle.offline_eval.proofs.untils.is_within.Goals as goal

-- the number of ticks as the program has it
passed : (z : ℤ) (n : ℕ) → n < 2 ^ 32 → z ≡ pos n → to_z w64 (of_z w64 z) ≡ pos n
passed z n h e = ap (λ z. to_z w64 (of_z w64 z)) e ∙ to_z-of_z w64 (pos n) (omega (arith, ints, h))

pub shift-end-requires : goal.shift-end-requires
shift-end-requires c =
    let fits : c.args.high < 2 ^ 32 = let h = c.ranges.high.fits in omega (arith, h) in
    subst (λ z. FitsFloor w64 (add (value c.args.start.now) (whole z))) (sym (passed c.from.result c.args.high fits c.from.ensures))
    (move_fits (value c.args.start.now) (pos c.args.high) c.requires (omega (arith, ints, fits)))

-- what is not below is at least
not_below : (o : Ordering) (a b : Rational) → IsOrder o a b → ¬ (o ≡ Less) → b ≤ʳ a
not_below Less a b h n = absurd (n refl)
not_below Equal a b h n = ge_of_same h
not_below Greater a b h n = le_of_lt h

pub returns-in_default : goal.returns-in_default
returns-in_default c = λ h.
    let fits : c.args.high < 2 ^ 32 = let h = c.ranges.high.fits in omega (arith, h) in
    let begin = value c.args.start.now in
    let to : Rational = later begin c.args.high in
    let moved : add begin (whole (to_z w64 (of_z w64 c.from.result))) ≤ʳ to =
    subst (λ z. add begin (whole z) ≤ʳ to) (sym (passed c.from.result c.args.high fits c.from.ensures)) (ge_of_same (later-add begin c.args.high)) in
    le_trans (not_below c.cmp.result (value c.shift-end.result) (value c.args.time.now) c.cmp.ensures c.in_default.not-Less)
    (le_trans (le_of_same c.shift-end.ensures.value) moved)
