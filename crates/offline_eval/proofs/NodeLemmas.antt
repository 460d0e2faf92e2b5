-- What the signal of a node keeps and tells, from the signals of its children among those before it.
use Rattle.std.proofs.Common.{◌≡◌, ℕ, ℤ, pos, neg_ℤ, ◌+◌, ◌-◌, ◌<◌, ◌^◌, ◌≤ℤ◌, ◌<ℤ◌, arith, List, None, Some, refl, sym, subst}
use Rattle.std.specs.Prelude.{slice_get}
use Rattle.std.proofs.lemmas.Option.{same_Some, none-some}
use Rattle.rational.specs.Extended.{Extended}
use Rattle.rational.proofs.Order.{same_trans, same_sym, le_trans, le_of_same, ge_of_same}
use Rattle.rational.proofs.Shift.{le_whole}
use Rattle.std.proofs.lemmas.Int.{ints}
use Rattle.pl_signal.specs.declared.faults.OpFault.{OpFault}
use Rattle.stl_syntax.specs.Formula.{HasChildrenBelow, Subformula, tree_of}
use Rattle.stl_syntax.specs.Limits.{own_reach}
use Rattle.stl_syntax.specs.SupInf.{Setting}
use Rattle.stl_syntax.specs.Views.{first_of, second_of, view_of}
use Rattle.stl_syntax.specs.declared.node.Node.{Node}
use Rattle.stl_syntax.specs.declared.node.Node.TheVariants.{Const, Atom as Leaf, Not, And, Or, Implies, Until, Eventually, Always, Since, Once, Historically}
use Rattle.offline_eval.specs.Forms.{Form}
use Rattle.offline_eval.specs.Inputs.{IsOver}
use Rattle.offline_eval.specs.Making.{HasEnds, MayMeet, IsFit, AreFit, IsSound, StaysSound, StaySound, NodeStaysSound}
use Rattle.offline_eval.specs.Making.{TellsValue, IsFaultOf, TellsOne, TellsTwo, FaultOfOne, FaultOfTwo, TellsNode}
use Rattle.offline_eval.specs.Making.{FaultOfNode, IsOne, IsTwo, make_one, make_two}

ends_of : {lowest highest : Extended} {from to : ℕ} {s : Setting} → IsOver lowest highest from to s → HasEnds lowest highest s
ends_of over = record { lowest = over.lowest; highest = over.highest }

module _ {X : Type 0} where
  -- the node n has the child p, whose signal among the others is x, and its formula is made of that of the child
  pub record HasOne (n : Node) (p : ℕ) (xs : List X) (x : X) (make : Subformula → Subformula) : Type 0 where
    -- x is the signal of the child
    pub at_p : slice_get xs p ≡ Some x
    -- the formula of the node is made of that of the child
    pub is : (at : ℕ → Subformula) (i : ℕ) → tree_of at i n ≡ make (at p)

  -- the node n has the children p and q, whose signals are x and y, and its formula is made of theirs
  pub record HasTwo (n : Node) (p q : ℕ) (xs : List X) (x y : X) (make : Subformula → Subformula → Subformula) : Type 0 where
    -- x is the signal of the first child
    pub at_p : slice_get xs p ≡ Some x
    -- y is the signal of the second
    pub at_q : slice_get xs q ≡ Some y
    -- the formula of the node is made of those of the children
    pub is : (at : ℕ → Subformula) (i : ℕ) → tree_of at i n ≡ make (at p) (at q)

-- a node has one operand, that at place p
pub record OneOperand (n : Node) (p : ℕ) : Type 0 where
  pub one : IsOne n
  pub is : (at : ℕ → Subformula) (i : ℕ) → tree_of at i n ≡ make_one n (at p)
  pub below : (m : ℕ) → HasChildrenBelow m n → p < m

-- or two
pub record TwoOperands (n : Node) (p q : ℕ) : Type 0 where
  pub two : IsTwo n
  pub is : (at : ℕ → Subformula) (i : ℕ) → tree_of at i n ≡ make_two n (at p) (at q)
  pub below : (m : ℕ) → HasChildrenBelow m n → (p < m) × (q < m)

one_here : (n : Node) (q p : ℕ) → Some q ≡ Some p → OneOperand n q → OneOperand n p
one_here n q p e known = subst (OneOperand n) (same_Some q p e) known

-- the first is the only one
pub one_operand : (n : Node) (p : ℕ) → first_of (view_of n) ≡ Some p → second_of (view_of n) ≡ None → OneOperand n p
one_operand (Const b) p e f = absurd (none-some p e)
one_operand (Leaf a) p e f = absurd (none-some p e)
one_operand (Not q) p e f = one_here _ q p e (record { one = tt; is = λ at i. refl; below = λ m h. h })
one_operand (Eventually q a b a_in b_in) p e f = one_here _ q p e (record { one = tt; is = λ at i. refl; below = λ m h. h })
one_operand (Always q a b a_in b_in) p e f = one_here _ q p e (record { one = tt; is = λ at i. refl; below = λ m h. h })
one_operand (Once q a b a_in b_in) p e f = one_here _ q p e (record { one = tt; is = λ at i. refl; below = λ m h. h })
one_operand (Historically q a b a_in b_in) p e f = one_here _ q p e (record { one = tt; is = λ at i. refl; below = λ m h. h })
one_operand _ p e f = absurd (none-some _ (sym f))

two_here : (n : Node) (k l p q : ℕ) → Some k ≡ Some p → Some l ≡ Some q → TwoOperands n k l → TwoOperands n p q
two_here n k l p q e f known = subst (TwoOperands n p) (same_Some l q f) (subst (λ x. TwoOperands n x l) (same_Some k p e) known)

-- there is a second one
pub two_operands : (n : Node) (p q : ℕ) → first_of (view_of n) ≡ Some p → second_of (view_of n) ≡ Some q → TwoOperands n p q
two_operands (And k l) p q e f = two_here _ k l p q e f (record { two = tt; is = λ at i. refl; below = λ m h. h })
two_operands (Or k l) p q e f = two_here _ k l p q e f (record { two = tt; is = λ at i. refl; below = λ m h. h })
two_operands (Implies k l) p q e f = two_here _ k l p q e f (record { two = tt; is = λ at i. refl; below = λ m h. h })
two_operands (Until k l a b) p q e f = two_here _ k l p q e f (record { two = tt; is = λ at i. refl; below = λ m h. h })
two_operands (Since k l a b) p q e f = two_here _ k l p q e f (record { two = tt; is = λ at i. refl; below = λ m h. h })
two_operands _ p q e f = absurd (none-some q f)

-- two that are fit are over one domain
pub may_meet : {X P : Type 0} (form : Form X P) (x y : X) → AreFit form x y → MayMeet form x y
may_meet form x y fit = record { left = fit.left.limited; right = fit.right.limited; begins = fit.begins; ends = fit.ends }

module _ {X P : Type 0} (form : Form X P) (from to : ℕ) where
  -- a sound signal is fit for every step
  pub fit_of : (x : X) → to < 2 ^ 32 → IsSound form from to 4294967295 x → IsFit form x
  fit_of x small s = record {
    limited = s.limited;
    first = le_trans (le_whole (from_zero from)) (ge_of_same s.begins);
    last = le_trans (le_of_same s.ends) (le_whole (below to small));
    near = λ p h. near_reached (form.shape.base p) (s.bases p h);
  }
    where
      from_zero : (n : ℕ) → pos 0 ≤ℤ pos n
      from_zero n = omega (arith, ints)

      below : (n : ℕ) → n < 2 ^ 32 → pos n ≤ℤ pos (2 ^ 32 - 1)
      below n h = omega (arith, ints, h)

      near_reached : (b : ℤ) → (neg_ℤ (pos 4294967295) ≤ℤ b) × (b <ℤ pos (2 ^ 32 + 4294967295)) → (neg_ℤ (pos (2 ^ 32)) ≤ℤ b) × (b ≤ℤ pos (2 ^ 33))
      near_reached b (low, high) = (omega (arith, ints, low), omega (arith, ints, high))

  -- so for two
  pub are_fit : (x y : X) → to < 2 ^ 32 → IsSound form from to 4294967295 x → IsSound form from to 4294967295 y → AreFit form x y
  are_fit x y small s u = record {
    left = fit_of x small s;
    right = fit_of y small u;
    begins = same_trans s.begins (same_sym u.begins);
    ends = same_trans s.ends (same_sym u.ends);
  }

  -- a node without children
  pub none_sound : (n : Node) (xs : List X) (r : X) → ((reach : ℕ) → IsSound form from to reach r)
      → NodeStaysSound form from to n xs r
  none_sound n xs r sound reach all = sound (reach + own_reach n)

  -- with one child
  pub one_sound : (n : Node) (p own : ℕ) (xs : List X) (x r : X) → slice_get xs p ≡ Some x → own_reach n ≡ own
      → StaysSound form own x r → NodeStaysSound form from to n xs r
  one_sound n p own xs x r at e sound reach all = subst (λ k. IsSound form from to (reach + k) r) (sym e) (sound from to reach (all p x at))

  -- with two children
  pub two_sound : {n : Node} {p q : ℕ} {xs : List X} {x y : X} {make : Subformula → Subformula → Subformula} (own : ℕ)
      (r : X) → HasTwo n p q xs x y make → own_reach n ≡ own → StaySound form own x y r → NodeStaysSound form from to n xs r
  two_sound {n} {p} {q} {xs} {x} {y} own r has e sound reach all =
      subst (λ k. IsSound form from to (reach + k) r) (sym e) (sound from to reach (all p x has.at_p) (all q y has.at_q))

module _ {X P : Type 0} (form : Form X P) (from to : ℕ) where
  -- what a node with one child tells
  pub one_told : {n : Node} {p : ℕ} {xs : List X} {x : X} {make : Subformula → Subformula} (r : X)
      → HasOne n p xs x make → TellsOne form make x r → TellsNode form from to n xs r
  one_told {p = p} {x = x} r has told s at i over all =
      subst (λ f. TellsValue form s f r) (sym (has.is at i)) (told s (at p) (ends_of over) (all p x has.at_p))

  -- and its fault
  pub one_fault : {n : Node} {p : ℕ} {xs : List X} {x : X} {make : Subformula → Subformula} (f : OpFault P)
      → HasOne n p xs x make → FaultOfOne form make x f → FaultOfNode form from to n xs f
  one_fault {p = p} {x = x} f has fault s at i over all =
      subst (λ t. IsFaultOf form.shape s t f) (sym (has.is at i)) (fault s (at p) (ends_of over) (all p x has.at_p))

  -- what a node with two children tells
  pub two_told : {n : Node} {p q : ℕ} {xs : List X} {x y : X} {make : Subformula → Subformula → Subformula} (r : X)
      → HasTwo n p q xs x y make → TellsTwo form make x y r → TellsNode form from to n xs r
  two_told {p = p} {q = q} {x = x} {y = y} r has told s at i over all =
      subst (λ f. TellsValue form s f r) (sym (has.is at i)) (told s (at p) (at q) (ends_of over) (all p x has.at_p) (all q y has.at_q))

  -- and its fault
  pub two_fault : {n : Node} {p q : ℕ} {xs : List X} {x y : X} {make : Subformula → Subformula → Subformula} (f : OpFault P)
      → HasTwo n p q xs x y make → FaultOfTwo form make x y f → FaultOfNode form from to n xs f
  two_fault {p = p} {q = q} {x = x} {y = y} f has fault s at i over all =
      subst (λ t. IsFaultOf form.shape s t f) (sym (has.is at i)) (fault s (at p) (at q) (ends_of over) (all p x has.at_p) (all q y has.at_q))
