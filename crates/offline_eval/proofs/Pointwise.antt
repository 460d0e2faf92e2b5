-- Negation, and the least and the greatest of two, as formulas.
use Rattle.std.proofs.Common.{◌≡◌, ◌⊎◌, ◌^◌, refl, sym, subst}
use Rattle.std.specs.Prelude.{Result, IfOk, IsTrue, Ok, Err}
use Rattle.rational.specs.Time.{Rational, Within}
use Rattle.rational.specs.Extended.{Extended, opposite, IsGreatest}
use Rattle.rational.specs.Windows.{Function}
use Rattle.rational.specs.Affine.{IsBounded}
use Rattle.rational.specs.InPlay.{of_two}
use Rattle.rational.proofs.Order.{same_refl}
use Rattle.rational.proofs.ExtendedLemmas.{opposite_twice}
use Rattle.rational.proofs.Bounds.{opposite_bounded, least_bounded, greatest_bounded}
use Rattle.value_laws.specs.Members.{ShapeLaws}
use Rattle.pl_signal.specs.declared.faults.WidePair.TheVariants.{Cross, Value}
use Rattle.pl_signal.specs.declared.faults.OpFault.{OpFault}
use Rattle.pl_signal.specs.declared.faults.OpFault.TheVariants as F
use Rattle.pl_signal.specs.declared.joining.Side.TheVariants.{Least, Greatest}
use Rattle.pl_signal.specs.Joining.{ChosenOf}
use Rattle.pl_signal.specs.Wide.{HasCause}
use Rattle.stl_syntax.specs.Formula.{negation, conjunction, disjunction, implication}
use Rattle.stl_syntax.specs.SupInf.{SupInf}
use Rattle.pieces.specs.Negating.{Negated}
pub use Rattle.pieces.proofs.SignalChains.{err_same}
use Rattle.offline_eval.specs.Forms.{Form}
use Rattle.offline_eval.specs.Making.{StaysSound, StaySound, TellsOne, TellsTwo, FaultOfTwo}
use Rattle.offline_eval.proofs.Along.{tells_along}
use Rattle.offline_eval.proofs.Causes.{two_cause}
use Rattle.offline_eval.proofs.Forms.{FormLaws}
use Rattle.offline_eval.proofs.Sound.{limited_along, not_moved, stays_sound, stay_sound}

-- what follows from both facts of an answer
pub ok_both : {A E : Type 0} (r : Result A E) {X Y Z : A → Type 0} → IfOk r X → IfOk r Y → ((a : A) → X a → Y a → Z a) → IfOk r Z
ok_both (Ok a) x y f = f a x y
ok_both (Err e) x y f = tt

module _ {X P : Type 0} {form : Form X P} (laws : FormLaws form) where
  -- minus a limited signal is bounded
  pub negated_bounded : (x : X) → form.IsLimited x → (t : Rational) (v : Extended) → Negated (form.IsWorth x) t v → IsBounded (2 ^ 31) v
  negated_bounded x l t v w = opposite_bounded (2 ^ 31) v (laws.bounded x l t (opposite v) w)

  -- so is the least of two
  pub least_of_bounded : (x y : X) → form.IsLimited x → form.IsLimited y → (t : Rational) (v : Extended)
      → ChosenOf Least (form.IsWorth x) (form.IsWorth y) t v → IsBounded (2 ^ 31) v
  least_of_bounded x y l m t v (a, b, f, g, h) = least_bounded (2 ^ 31) a b v h (laws.bounded x l t a f) (laws.bounded y m t b g)

  -- and the greatest
  pub greatest_of_bounded : (x y : X) → form.IsLimited x → form.IsLimited y → (t : Rational) (v : Extended)
      → ChosenOf Greatest (form.IsWorth x) (form.IsWorth y) t v → IsBounded (2 ^ 31) v
  greatest_of_bounded x y l m t v (a, b, f, g, h) = greatest_bounded (2 ^ 31) a b v h (laws.bounded x l t a f) (laws.bounded y m t b g)

  -- a signal that tells a function is worth at a time of the domain just what the function says
  pub value_of : (F : Function) (from to : Rational) (x : X) (t : Rational) (v : Extended) → form.Tells F from to x → Within from to t
      → (form.IsWorth x t v → F t v) × (F t v → form.IsWorth x t v)
  value_of F from to x t v tells i =
      let is = laws.told F from to x tells in (λ w. ((is.worth t v).0 w).1, λ f. (is.worth t v).1 (i, f))

  module _ (kind : ShapeLaws form.shape) where
    -- minus a sound signal is sound
    pub negated_sound : (x r : X) → form.IsLimited x → form.Tells (Negated (form.IsWorth x)) (form.start x) (form.stop x) r
        → ((p : P) → form.HasShape r p → IsTrue (form.shape.moves p)
        → (q : P) × form.HasShape x q × IsTrue (form.shape.moves q) × (form.shape.base p ≡ form.shape.base q))
        → StaysSound form 0 x r
    negated_sound x r l made bases =
        let is = laws.told (Negated (form.IsWorth x)) (form.start x) (form.stop x) r made in
        stays_sound form kind 0 x r is.begins is.ends (limited_along laws (Negated (form.IsWorth x)) x r l made (negated_bounded x l))
        (λ p h m. let o = bases p h m in (o.0, o.1, not_moved (form.shape.base o.0) (form.shape.base p) o.3))

    -- so is the least of two
    pub both_sound : (x y r : X) → form.IsLimited x → form.IsLimited y
        → form.Tells (ChosenOf Least (form.IsWorth x) (form.IsWorth y)) (form.start x) (form.stop x) r
        → ((p : P) → form.HasShape r p → form.HasShape x p ⊎ form.HasShape y p) → StaySound form 0 x y r
    both_sound x y r l m made shapes =
        let is = laws.told (ChosenOf Least (form.IsWorth x) (form.IsWorth y)) (form.start x) (form.stop x) r made in
        stay_sound form kind 0 x y r (record {
          begins = is.begins;
          ends = is.ends;
          limited = limited_along laws (ChosenOf Least (form.IsWorth x) (form.IsWorth y)) x r l made (least_of_bounded x y l m);
          moved = λ p h m. (p, shapes p h, not_moved (form.shape.base p) (form.shape.base p) refl);
        })

    -- and the greatest
    pub either_sound : (x y r : X) → form.IsLimited x → form.IsLimited y
        → form.Tells (ChosenOf Greatest (form.IsWorth x) (form.IsWorth y)) (form.start x) (form.stop x) r
        → ((p : P) → form.HasShape r p → form.HasShape x p ⊎ form.HasShape y p) → StaySound form 0 x y r
    either_sound x y r l m made shapes =
        let is = laws.told (ChosenOf Greatest (form.IsWorth x) (form.IsWorth y)) (form.start x) (form.stop x) r made in
        stay_sound form kind 0 x y r (record {
          begins = is.begins;
          ends = is.ends;
          limited = limited_along laws (ChosenOf Greatest (form.IsWorth x) (form.IsWorth y)) x r l made (greatest_of_bounded x y l m);
          moved = λ p h m. (p, shapes p h, not_moved (form.shape.base p) (form.shape.base p) refl);
        })

  -- negation tells `not`
  pub told_negated : (x r : X) → form.Tells (Negated (form.IsWorth x)) (form.start x) (form.stop x) r → TellsOne form negation x r
  told_negated x r made s p ends tells =
      let is = laws.told (SupInf p s) s.from s.to x tells in
      tells_along laws (Negated (form.IsWorth x)) (SupInf (negation p) s) (form.start x) (form.stop x) s.from s.to r made is.begins is.ends
      (λ t v i. value_of (SupInf p s) s.from s.to x t (opposite v) tells i)

  -- the least tells `and`
  pub told_both : (x y r : X) → form.Tells (ChosenOf Least (form.IsWorth x) (form.IsWorth y)) (form.start x) (form.stop x) r → TellsTwo form conjunction x y r
  told_both x y r made s p q ends left right =
      let is = laws.told (SupInf p s) s.from s.to x left in
      tells_along laws (ChosenOf Least (form.IsWorth x) (form.IsWorth y)) (SupInf (conjunction p q) s) (form.start x) (form.stop x) s.from s.to r made
      is.begins is.ends
      (λ t v i. (
        λ (a, b, f, g, h). (a, b, (value_of (SupInf p s) s.from s.to x t a left i).0 f, (value_of (SupInf q s) s.from s.to y t b right i).0 g, h),
        λ (a, b, f, g, h). (a, b, (value_of (SupInf p s) s.from s.to x t a left i).1 f, (value_of (SupInf q s) s.from s.to y t b right i).1 g, h),
      ))

  -- the greatest tells `or`
  pub told_either : (x y r : X) → form.Tells (ChosenOf Greatest (form.IsWorth x) (form.IsWorth y)) (form.start x) (form.stop x) r → TellsTwo form disjunction x y r
  told_either x y r made s p q ends left right =
      let is = laws.told (SupInf p s) s.from s.to x left in
      tells_along laws (ChosenOf Greatest (form.IsWorth x) (form.IsWorth y)) (SupInf (disjunction p q) s) (form.start x) (form.stop x) s.from s.to r made
      is.begins is.ends
      (λ t v i. (
        λ (a, b, f, g, h). (a, b, (value_of (SupInf p s) s.from s.to x t a left i).0 f, (value_of (SupInf q s) s.from s.to y t b right i).0 g, h),
        λ (a, b, f, g, h). (a, b, (value_of (SupInf p s) s.from s.to x t a left i).1 f, (value_of (SupInf q s) s.from s.to y t b right i).1 g, h),
      ))

  -- a fault of the least is one of `and`
  pub fault_both : (x y : X) (e : OpFault P) → HasCause form.shape (of_two (form.IsWorth x) (form.IsWorth y)) (form.start x) (form.stop x) e
      → FaultOfTwo form conjunction x y e
  fault_both x y e h s p q ends left right = two_cause laws (SupInf p s) (SupInf q s) x y (conjunction p q) s e left right (λ C i. i) h

  -- of the greatest one of `or`
  pub fault_either : (x y : X) (e : OpFault P) → HasCause form.shape (of_two (form.IsWorth x) (form.IsWorth y)) (form.start x) (form.stop x) e
      → FaultOfTwo form disjunction x y e
  fault_either x y e h s p q ends left right = two_cause laws (SupInf p s) (SupInf q s) x y (disjunction p q) s e left right (λ C i. i) h

  -- `p implies q` is `not p or q`
  pub told_implied : (x y n r : X) → TellsOne form negation x n → TellsTwo form disjunction n y r → TellsTwo form implication x y r
  told_implied x y n r turned made s p q ends left right =
      tells_along laws (SupInf (disjunction (negation p) q) s) (SupInf (implication p q) s) s.from s.to s.from s.to r
      (made s (negation p) q ends (turned s p ends left) right) (same_refl s.from) (same_refl s.to)
      (λ t v i. (
        λ (a, b, f, g, h). (opposite a, b, f, g, subst (λ a. IsGreatest a b v) (sym (opposite_twice a)) h),
        λ (a, b, f, g, h). (opposite a, b, subst (SupInf p s t) (sym (opposite_twice a)) f, g, h),
      ))

module _ {X P : Type 0} (form : Form X P) where
  -- and a fault there is one of `implies`
  pub fault_implied : (x y n : X) (e : OpFault P) → TellsOne form negation x n → FaultOfTwo form disjunction n y e → FaultOfTwo form implication x y e
  fault_implied x y n F.Memory turned h s p q ends left right = tt
  fault_implied x y n (F.Wide (Cross a b l r den)) turned h s p q ends left right = h s (negation p) q ends (turned s p ends left) right
  fault_implied x y n (F.Wide (Value a at den)) turned h s p q ends left right = h s (negation p) q ends (turned s p ends left) right
