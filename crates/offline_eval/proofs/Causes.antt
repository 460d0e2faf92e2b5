-- What may be refused in a step over signals may be refused where a formula's value is made whose parts they tell.
use Rattle.rational.specs.Time.{Rational, ◌<ʳ◌, ◌≈◌}
use Rattle.rational.specs.Extended.{Affine}
use Rattle.rational.specs.Windows.{Function}
use Rattle.rational.specs.InPlay.{Step, of_two, IsInPlay}
use Rattle.rational.proofs.Order.{le_trans, le_of_same, ge_of_same}
use Rattle.frac128.specs.Value.{value}
use Rattle.value_laws.specs.Members.{ShapeOf}
use Rattle.pl_signal.specs.declared.faults.WidePair.TheVariants.{Cross, Value}
use Rattle.pl_signal.specs.declared.faults.OpFault.{OpFault}
use Rattle.pl_signal.specs.declared.faults.OpFault.TheVariants as F
use Rattle.pl_signal.specs.Wide.{HasCause}
use Rattle.stl_syntax.specs.Formula.{Subformula}
use Rattle.stl_syntax.specs.SupInf.{Setting}
use Rattle.stl_syntax.specs.WideCause.{IsStepOf}
use Rattle.pieces.proofs.PlayAlong.{crossing_along, value_along, of_two_along}
use Rattle.pieces.proofs.Stretches.{IsOn, within_same_ends}
use Rattle.offline_eval.specs.Forms.{Form}
use Rattle.offline_eval.specs.Making.{IsFaultOf}
use Rattle.offline_eval.proofs.Forms.{FormLaws, IsTold}

-- a cause in a step that is one of the formula's is a fault of the formula
pub cause_of : {P : Type 0} (shape : ShapeOf P) (step other : Step) (from to : Rational) (p : Subformula) (s : Setting) (e : OpFault P) → from ≈ s.from
    → to ≈ s.to → ((tau : Rational) (line : Affine) → from <ʳ tau → tau <ʳ to → IsInPlay step from to tau line → IsInPlay other s.from s.to tau line)
    → ((C : Step → Type 0) → C other → IsStepOf p s C) → HasCause shape step from to e → IsFaultOf shape s p e
cause_of shape step other from to p s F.Memory begins ends forth is h = tt
cause_of shape step other from to p s (F.Wide (Cross a b l r den)) begins ends forth is h =
    crossing_along
    (record { begins = begins; ends = ends; forth = λ tau line k l i. is (λ step. IsInPlay step s.from s.to tau line) (forth tau line k l i) })
    (shape.function a) (shape.function b) (value l) (value r) den h
cause_of shape step other from to p s (F.Wide (Value a at den)) begins ends forth is h =
    value_along
    (record { begins = begins; ends = ends; forth = λ tau line k l i. is (λ step. IsInPlay step s.from s.to tau line) (forth tau line k l i) })
    (shape.function a) (value at) den h

module _ {X P : Type 0} {form : Form X P} (laws : FormLaws form) where
  -- a signal is what it tells on the domain, and nothing elsewhere
  pub on_of : (F : Function) (from to : Rational) (x : X) → form.Tells F from to x → IsOn (form.start x) (form.stop x) (form.IsWorth x) F
  on_of F from to x tells = record {
    inside = λ t v w. let i = ((is.worth t v).0 w).0 in
        record { above = le_trans (le_of_same is.begins) i.above; below = le_trans i.below (ge_of_same is.ends) };
    forth = λ t v w. ((is.worth t v).0 w).1;
    back = λ t v i f. (is.worth t v).1 (within_same_ends is.begins is.ends i, f);
  }
    where
      is : IsTold form F from to x
      is = laws.told F from to x tells

  -- in the step of two signals
  pub two_cause : (A B : Function) (x y : X) (p : Subformula) (s : Setting) (e : OpFault P) → form.Tells A s.from s.to x → form.Tells B s.from s.to y
      → ((C : Step → Type 0) → C (of_two A B) → IsStepOf p s C)
      → HasCause form.shape (of_two (form.IsWorth x) (form.IsWorth y)) (form.start x) (form.stop x) e → IsFaultOf form.shape s p e
  two_cause A B x y p s e left right is h =
      let told = laws.told A s.from s.to x left in
      cause_of form.shape (of_two (form.IsWorth x) (form.IsWorth y)) (of_two A B) (form.start x) (form.stop x) p s e told.begins told.ends
      (λ tau line k l i. of_two_along (form.start x) (form.stop x) s.from s.to (form.IsWorth x) A (form.IsWorth y) B (on_of A s.from s.to x left)
      (on_of B s.from s.to y right) tau line i) is h
