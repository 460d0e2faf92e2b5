use Rattle.std.proofs.Common.{◌≡◌, ◌∙◌, refl, sym, true}
use Rattle.std.specs.Ordering.{on, eq_by_cmp, is_eq}
use Rattle.std.specs.declared.cmp.Ordering.{Ordering}
use Rattle.std.specs.declared.cmp.Ordering.TheVariants.{Less, Equal, Greater}
use Rattle.rational.specs.Rational.{rational_cmp}
use Rattle.rational.specs.Time.{◌≈◌}
use Rattle.rational.proofs.Compare.{order_from_cmp}
use Rattle.frac128.specs.Value.{value}
use Rattle.frac128.specs.declared.frac.Frac.{Frac}
use Rattle.pieces.proofs.order.is_one.Goals as goal

-- numbers that are compared as one are
same_by_cmp : (x y : Frac) → eq_by_cmp (on value rational_cmp) x y ≡ true → value x ≈ value y
same_by_cmp x y e = by_order (rational_cmp (value x) (value y)) refl e
  where
    by_order : (o : Ordering) → o ≡ rational_cmp (value x) (value y) → is_eq o ≡ true → value x ≈ value y
    by_order Less h k = absurd cc
    by_order Equal h k = order_from_cmp Equal (value x) (value y) h
    by_order Greater h k = absurd cc

pub returns : goal.returns
returns c t = same_by_cmp c.args.a.now c.args.b.now (sym c.eq.ensures ∙ t)
