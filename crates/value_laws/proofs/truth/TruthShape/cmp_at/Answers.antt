use Rattle.std.proofs.Common.{◌≡◌, Bool, true, false, refl, sym}
use Rattle.std.proofs.lemmas.Bool.{false≢true}
use Rattle.std.specs.Bool.{beq}
use Rattle.std.specs.declared.cmp.Ordering.TheVariants.{Less, Equal, Greater}
use Rattle.std.specs.Ordering.{int_cmp}
use Rattle.rational.proofs.LevelLemmas.{level_order}
use Rattle.frac128.specs.Value.{value}
use Rattle.value_laws.specs.Values.{truth_value}
use Rattle.value_laws.proofs.truth.TruthShape.cmp_at.Goals as goal

-- one truth is no order
alike : (p q : Bool) → beq p q ≡ true → Equal ≡ int_cmp (truth_value p) (truth_value q)
alike true true e = refl
alike true false e = absurd (false≢true e)
alike false true e = absurd (false≢true e)
alike false false e = refl

-- of two truths that differ the one that holds is above
above : (p q : Bool) → p ≡ true → beq p q ≡ false → Greater ≡ int_cmp (truth_value p) (truth_value q)
above true true e n = absurd (false≢true (sym n))
above true false e n = refl
above false q e n = absurd (false≢true e)

-- and the other below
below : (p q : Bool) → p ≡ false → beq p q ≡ false → Less ≡ int_cmp (truth_value p) (truth_value q)
below false false e n = absurd (false≢true (sym n))
below false true e n = refl
below true q e n = absurd (false≢true (sym e))

pub returns-then-p-q : goal.returns-then-p-q
returns-then-p-q c =
    let t = value c.args._t.now in
    level_order Equal (truth_value c.args.p.now.holds) (truth_value c.args.q.now.holds) t t
    (alike c.args.p.now.holds c.args.q.now.holds c.if-p-q.true)

pub returns-then-p : goal.returns-then-p
returns-then-p c =
    let t = value c.args._t.now in
    level_order Greater (truth_value c.args.p.now.holds) (truth_value c.args.q.now.holds) t t
    (above c.args.p.now.holds c.args.q.now.holds c.if-p.true c.if-p-q.false)

pub returns-else-p : goal.returns-else-p
returns-else-p c =
    let t = value c.args._t.now in
    level_order Less (truth_value c.args.p.now.holds) (truth_value c.args.q.now.holds) t t
    (below c.args.p.now.holds c.args.q.now.holds c.if-p.false c.if-p-q.false)
