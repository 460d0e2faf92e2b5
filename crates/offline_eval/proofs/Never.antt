-- Shapes that are constant whole numbers have no cause for a refusal.
use Rattle.std.proofs.Common.{◌≡◌, ℕ, ℤ, List, sym, subst, arith}
use Rattle.rational.specs.Time.{Rational, whole}
use Rattle.rational.specs.Extended.{finite, Affine, value_at, ◌≈ᵉ◌}
use Rattle.rational.specs.Affine.{IsSteady, level}
use Rattle.rational.specs.InPlay.{IsWideCrossing, IsWideValue}
use Rattle.rational.proofs.Order.{same_of_le}
use Rattle.rational.proofs.AffineLemmas.{same_transᵉ, steady_never_meet_alone}
use Rattle.rational.proofs.LevelLemmas.{level_is, level_steady}
use Rattle.rational.proofs.Lowest.{lowest_whole, denominator_unique}
use Rattle.frac128.specs.Value.{value}
use Rattle.value_laws.specs.Members.{ShapeOf}
use Rattle.pl_signal.specs.declared.faults.WidePair.{WidePair}
use Rattle.pl_signal.specs.declared.faults.WidePair.TheVariants.{Cross, Value}
use Rattle.pl_signal.specs.declared.faults.OpFault.TheVariants as F
use Rattle.pieces.specs.Chains.{Chain}
use Rattle.pieces.specs.Joining.{IsJoinFault}
use Rattle.stl_syntax.specs.Formula.{Subformula, subformula}
use Rattle.stl_syntax.specs.SupInf.{Setting}
use Rattle.stl_syntax.specs.declared.node.Node.{Node}
use Rattle.offline_eval.specs.Evaluation.{IsCauseAt}
use Rattle.offline_eval.specs.Making.{IsCauseOf}

levels_never_cross : {InPlay : Rational → Affine → Type 0} {from to : Rational} {den : ℕ} (a b : Rational) (f g : Affine) (n m : ℤ)
    → f ≡ level n → g ≡ level m → ¬ IsWideCrossing InPlay from to f g a b den
levels_never_cross a b f g n m e h w =
    steady_never_meet_alone f g a b w.tau (subst IsSteady (sym e) (level_steady n)) (subst IsSteady (sym h) (level_steady m))
    (record { after = w.above; before = w.below; meet = w.meet; alone = w.alone })

level_never_wide : {InPlay : Rational → Affine → Type 0} {from to : Rational} {den : ℕ} (u : Rational) (f : Affine) (n : ℤ) → f ≡ level n
    → ¬ IsWideValue InPlay from to f u den
level_never_wide {den = den} u f n h w =
    let here : value_at f u ≈ᵉ finite (whole n) = subst (λ f. value_at f u ≈ᵉ finite (whole n)) (sym h) (level_is n u) in
    let e : finite w.value ≈ᵉ finite (whole n) = same_transᵉ (finite w.value) (value_at f u) (finite (whole n)) w.is_value here in
    let one : den ≡ 1 = denominator_unique den 1 (same_of_le e.at_most e.at_least) w.denominator (n, lowest_whole n, record { same = omega arith }) in
    let wide = w.wide in omega (arith, one, wide)

module _ {P : Type 0} (shape : ShapeOf P) (whole_of : P → ℤ) (is : (p : P) → shape.function p ≡ level (whole_of p)) where
  -- where each shape is at every time the whole number that `whole_of` says, no pair is a cause in the steps of a formula
  pub levels_have_no_cause : (s : Setting) (f : Subformula) (pair : WidePair P) → ¬ IsCauseOf shape s f pair
  levels_have_no_cause s f (Cross p q a b den) w =
      levels_never_cross (value a) (value b) (shape.function p) (shape.function q) (whole_of p) (whole_of q) (is p) (is q) w
  levels_have_no_cause s f (Value p at den) w = level_never_wide (value at) (shape.function p) (whole_of p) (is p) w

  -- nor at a node
  pub levels_are_never_wide : (nodes : List Node) (s : Setting) (i : ℕ) (pair : WidePair P) → ¬ IsCauseAt shape nodes s i pair
  levels_are_never_wide nodes s i (Cross p q a b den) w = levels_have_no_cause s (subformula nodes i) (Cross p q a b den) w
  levels_are_never_wide nodes s i (Value p at den) w = levels_have_no_cause s (subformula nodes i) (Value p at den) w

  -- nor is the least of two chains, or the greatest, refused for a crossing
  pub levels_never_join : (a b : Chain P) (pair : WidePair P) → ¬ IsJoinFault shape a b (F.Wide pair)
  levels_never_join a b (Cross p q from to den) w =
      steady_never_meet_alone (shape.function p) (shape.function q) (value from) (value to) w.at (subst IsSteady (sym (is p)) (level_steady (whole_of p)))
      (subst IsSteady (sym (is q)) (level_steady (whole_of q))) w.meet
  levels_never_join a b (Value p at den) w = w
