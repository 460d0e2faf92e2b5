-- Formulas whose nodes are told by signals have values and Infs.
use Rattle.std.proofs.Common.{◌≡◌, ℕ, ◌<◌, ◌≤◌, zero, suc, true, List, length, get_or, Some, sym, subst, arith}
use Rattle.std.specs.Prelude.{slice_get}
use Rattle.std.proofs.lemmas.Option.{slice_get-get_or}
use Rattle.rational.specs.Time.{Rational, Within, closed}
use Rattle.rational.specs.Extended.{value_at, ◌≤ᵉ◌}
use Rattle.rational.specs.Windows.{IsInfOver}
use Rattle.rational.proofs.Order.{le_trans}
use Rattle.rational.proofs.WindowLemmas.{inf_alike}
use Rattle.value_laws.specs.Members.{ShapeLaws}
use Rattle.stl_syntax.specs.Formula.{Subformula, subformula, tree_of, HasChildrenBelow}
use Rattle.stl_syntax.specs.PostOrder.{IsPostOrder}
use Rattle.stl_syntax.specs.SupInf.{Setting, SupInf, HasValue, HasValues, HasInf, HasInfs}
use Rattle.stl_syntax.specs.declared.node.Node.{Node}
use Rattle.stl_syntax.specs.declared.node.Node.TheVariants.{Const, Atom as Leaf, Not, And, Or, Implies, Until, Eventually, Always, Since, Once, Historically}
use Rattle.stl_syntax.proofs.FormulaLemmas.{subformula-at}
use Rattle.stl_syntax.proofs.PostOrderLemmas.{placed}
use Rattle.offline_eval.specs.Forms.{Form}
use Rattle.offline_eval.specs.Making.{TellsValue}
use Rattle.offline_eval.specs.Evaluation.{TellNodes}
use Rattle.offline_eval.proofs.Forms.{FormLaws}

module _ {X P : Type 0} {form : Form X P} (laws : FormLaws form) where
  -- what a signal tells has a value at each time of the domain
  pub has_value : (p : Subformula) (s : Setting) (x : X) → TellsValue form s p x → HasValue p s
  has_value p s x tells t i =
      let o = laws.every_time (SupInf p s) s.from s.to x t tells i in
      (o.0, (((laws.told (SupInf p s) s.from s.to x tells).worth t o.0).0 o.1).1)

  -- and an Inf between each two
  pub has_inf : ((q : P) (t : Rational) → value_at (form.shape.function q) t ≤ᵉ form.shape.highest) → (p : Subformula) (s : Setting) (x : X)
      → s.highest ≡ form.shape.highest → TellsValue form s p x → HasInf p s
  has_inf most p s x e tells t u i j =
      let is = laws.told (SupInf p s) s.from s.to x tells in
      let y = laws.infs most x (closed t u) in (
        y.0,
        subst (λ h. IsInfOver h (Within t u) (SupInf p s) y.0) (sym e) (inf_alike form.shape.highest y.0
            (λ v (w, on, worth). (w, record { above = on.above; below = on.below }, ((is.worth w v).0 worth).1))
            (λ v (w, on, told). (
              w,
              record { above = on.above; below = on.below },
              (is.worth w v).1
                  (record { above = le_trans i.above on.above; below = le_trans on.below j.below }, told),
            )) y.1),
      )

-- both of a formula
abbrev HasBoth : Setting → Subformula → Type 0
HasBoth s p = HasValues p s × HasInfs p s

-- a tree has both where its node has and the trees of its children have
both_of : (at : ℕ → Subformula) (i : ℕ) (n : Node) (s : Setting) → HasChildrenBelow i n → ((k : ℕ) → k < i → HasBoth s (at k) × HasInf (at k) s)
    → HasValue (tree_of at i n) s → HasBoth s (tree_of at i n)
both_of at i (Const b) s below all here = (here, tt)
both_of at i (Leaf a) s below all here = (here, tt)
both_of at i (Not p) s below all here = let a = all p below in ((here, a.0.0), a.0.1)
both_of at i (And p q) s below all here = let a = all p below.0 in let b = all q below.1 in ((here, a.0.0, b.0.0), (a.0.1, b.0.1))
both_of at i (Or p q) s below all here = let a = all p below.0 in let b = all q below.1 in ((here, a.0.0, b.0.0), (a.0.1, b.0.1))
both_of at i (Implies p q) s below all here = let a = all p below.0 in let b = all q below.1 in ((here, a.0.0, b.0.0), (a.0.1, b.0.1))
both_of at i (Until p q x y) s below all here = let a = all p below.0 in let b = all q below.1 in ((here, a.0.0, b.0.0), (a.1, a.0.1, b.0.1))
both_of at i (Eventually p x y c d) s below all here = let a = all p below in ((here, a.0.0), a.0.1)
both_of at i (Always p x y c d) s below all here = let a = all p below in ((here, a.0.0), a.0.1)
both_of at i (Since p q x y) s below all here = let a = all p below.0 in let b = all q below.1 in ((here, a.0.0, b.0.0), (a.1, a.0.1, b.0.1))
both_of at i (Once p x y c d) s below all here = let a = all p below in ((here, a.0.0), a.0.1)
both_of at i (Historically p x y c d) s below all here = let a = all p below in ((here, a.0.0), a.0.1)

module _ {X P : Type 0} {form : Form X P} (laws : FormLaws form) (kind : ShapeLaws form.shape) (nodes : List Node) (signals : List X) (s : Setting)
    (post : IsPostOrder nodes) (e : s.highest ≡ form.shape.highest) (told : TellNodes form nodes signals s) where
  -- each place below n has both, and an Inf
  below_has : (n k : ℕ) → k < n → n ≤ length nodes → HasBoth s (subformula nodes k) × HasInf (subformula nodes k) s
  below_has zero k h within = absurd (omega (arith, h))
  below_has (suc n) k h within =
      let inside : k < length nodes = omega (arith, h, within) in
      let node = get_or nodes k (Const true) in
      let at : slice_get nodes k ≡ Some node = slice_get-get_or nodes k (Const true) inside in
      let children = placed nodes k node post at in
      let tree : subformula nodes k ≡ tree_of (subformula nodes) k node = subformula-at nodes k node at children in
      let x = told k inside in
      let value = has_value laws (subformula nodes k) s x.0 x.2 in
      let both = both_of (subformula nodes) k node s children (λ j l. below_has n j (omega (arith, h, l)) (omega (arith, within)))
      (subst (λ p. HasValue p s) tree value) in
      (subst (HasBoth s) (sym tree) both, has_inf laws kind.highest_is_greatest (subformula nodes k) s x.0 e x.2)

  -- so for every node
  pub all_have : (i : ℕ) → i < length nodes → HasValues (subformula nodes i) s × HasInfs (subformula nodes i) s
  all_have i inside = (below_has (suc i) i (omega arith) (omega (arith, inside))).0
