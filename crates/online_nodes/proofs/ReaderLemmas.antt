-- Each node is read by one node at most, and by its kind an operator knows its node's inputs.
use Rattle.std.proofs.Common.{◌≡◌, inl, inr, refl, sym, ap, subst, ◌∙◌, ℕ, ◌<◌, ◌≤◌, Bool, true, false}
use Rattle.std.proofs.Common.{Some, List, length, take, get_or, ℤ, pos, neg_ℤ, ◌<ℤ◌, ◌≤ℤ◌, All, arith}
use Rattle.std.specs.Prelude.{slice_get, ◌==◌, cond, int_lt}
use Rattle.std.proofs.lemmas.Bool.{cases_lt, eq-eqb}
use Rattle.std.proofs.lemmas.Int.{ints}
use Rattle.std.proofs.lemmas.List.{get_or-take, length-take-le}
use Rattle.std.proofs.lemmas.List.Folds.{list_any_at}
use Rattle.std.proofs.lemmas.Option.{slice_get_within, get_or_from_slice_get}
use Rattle.rational.proofs.Tests.{int_order}
use Rattle.stl_syntax.specs.Limits.{own_reach}
use Rattle.stl_syntax.specs.PostOrder.{children, has_child, is_used, IsPostOrder}
use Rattle.stl_syntax.proofs.PostOrderLemmas.{children_free, inputs_apart}
use Rattle.stl_syntax.specs.declared.node.Node.{Node}
use Rattle.stl_syntax.specs.declared.node.Node.TheVariants.{Const, Atom as Leaf, Not, And, Or, Implies, Until, Eventually}
use Rattle.stl_syntax.specs.declared.node.Node.TheVariants.{Always, Since, Once, Historically}
use Rattle.online_nodes.specs.Network.{reach_back}
use Rattle.online_nodes.specs.Needed.{IsReader}
use Rattle.online_nodes.specs.Operators.{kind_of}
use Rattle.online_nodes.specs.Answering.{IsInput, IsOperand, looks_by}
use Rattle.online_nodes.specs.declared.kind.Kind.{Kind}
use Rattle.online_nodes.specs.declared.kind.Kind.TheVariants.{Const as Constant, Join as Connective, Until as UntilOf, Since as SinceOf}

-- what is so of all children is so of each
pub child_all : (P : ℕ → Type 0) (n : Node) (left : Bool) (j : ℕ) → IsReader n left j → All P (children n) → P j
child_all P (Const b) left j r h = absurd r
child_all P (Leaf a) left j r h = absurd r
child_all P (Not p) false j r h = absurd r
child_all P (Eventually p a b i k) false j r h = absurd r
child_all P (Always p a b i k) false j r h = absurd r
child_all P (Once p a b i k) false j r h = absurd r
child_all P (Historically p a b i k) false j r h = absurd r
child_all P _ true j r h = subst P r (h 0 0 (omega arith))
child_all P _ false j r h = subst P r (h 1 0 (omega arith))

-- a reader has what it reads as a child
pub reader_has : (n : Node) (left : Bool) (j : ℕ) → IsReader n left j → has_child j n ≡ true
reader_has n left j r =
    child_all (λ p. has_child p n ≡ true) n left j r
    (λ i d l. list_any_at (λ x. x == get_or (children n) i d) (children n) i d l (eq-eqb (get_or (children n) i d) (get_or (children n) i d) refl))

-- a node that reads another does so alone, and from one side
module _ (nodes : List Node) (order : IsPostOrder nodes) where
  not_before : (r s : ℕ) (n m : Node) (left right : Bool) (j : ℕ) → slice_get nodes r ≡ Some n → slice_get nodes s ≡ Some m
      → IsReader n left j → IsReader m right j → r < s → ⊥
  not_before r s n m left right j at_r at_s reads_r reads_s l =
      let within_s = slice_get_within nodes s m at_s in
      let free : is_used (take s nodes) j ≡ false =
      child_all (λ p. is_used (take s nodes) p ≡ false) m right j reads_s (children_free (take s nodes) m (order.follows s m at_s)) in
      let len : length (take s nodes) ≡ s = length-take-le s nodes (omega (arith, within_s)) in
      let there : get_or (take s nodes) r (Const false) ≡ n =
      get_or-take s nodes r (Const false) l ∙ get_or_from_slice_get nodes r n (Const false) at_r in
      let used : is_used (take s nodes) j ≡ true =
      list_any_at (has_child j) (take s nodes) r (Const false) (omega (arith, l, len)) (ap (has_child j) there ∙ reader_has n left j reads_r) in
      let x : true ≡ false = sym used ∙ free in cc

  -- two nodes that read one input are the same
  pub one_reader : (r s : ℕ) (n m : Node) (left right : Bool) (j : ℕ) → slice_get nodes r ≡ Some n → slice_get nodes s ≡ Some m
      → IsReader n left j → IsReader m right j → r ≡ s
  one_reader r s n m left right j at_r at_s reads_r reads_s = elim (cases_lt r s) [
    | inl l ↦ absurd (not_before r s n m left right j at_r at_s reads_r reads_s l)
    | inr g ↦ elim (cases_lt s r) [
      | inl l ↦ absurd (not_before s r m n right left j at_s at_r reads_s reads_r l)
      | inr h ↦ (let e : r ≡ s = omega (arith, g, h) in e)
    ]
  ]

  -- from both sides it would be two children of one place
  not_both_sides : (r : ℕ) (n : Node) (j : ℕ) → slice_get nodes r ≡ Some n → IsReader n true j → IsReader n false j → ⊥
  not_both_sides r (Const b) j at x y = x
  not_both_sides r (Leaf a) j at x y = x
  not_both_sides r (And p q) j at x y = inputs_apart nodes r (And p q) p q order at refl (x ∙ sym y)
  not_both_sides r (Or p q) j at x y = inputs_apart nodes r (Or p q) p q order at refl (x ∙ sym y)
  not_both_sides r (Implies p q) j at x y = inputs_apart nodes r (Implies p q) p q order at refl (x ∙ sym y)
  not_both_sides r (Until p q a b) j at x y = inputs_apart nodes r (Until p q a b) p q order at refl (x ∙ sym y)
  not_both_sides r (Since p q a b) j at x y = inputs_apart nodes r (Since p q a b) p q order at refl (x ∙ sym y)
  not_both_sides r _ j at x y = y

  -- a node reads one input on one side
  pub one_side : (r : ℕ) (n : Node) (left right : Bool) (j : ℕ) → slice_get nodes r ≡ Some n → IsReader n left j → IsReader n right j → left ≡ right
  one_side r n true true j at x y = refl
  one_side r n false false j at x y = refl
  one_side r n true false j at x y = absurd (not_both_sides r n j at x y)
  one_side r n false true j at x y = absurd (not_both_sides r n j at y x)

-- an operator's inputs by its kind are those that its node reads
pub side_reads : (n : Node) (left : Bool) (j : ℕ) → IsOperand (kind_of n) left j → IsReader n left j
side_reads (Const b) left j r = r
side_reads _ true j r = r
side_reads _ false j r = r

-- the kind of a node has its inputs on the node's sides
pub reads_side : (n : Node) (left : Bool) (j : ℕ) → IsReader n left j → IsOperand (kind_of n) left j
reads_side (Const b) left j r = r
reads_side _ true j r = r
reads_side _ false j r = r

-- an input stands on a side
pub input_side : (kind : Kind) (j : ℕ) → IsInput kind j → (left : Bool) × IsOperand kind left j
input_side (Constant b) j r = absurd r
input_side (Connective join inputs) j (inl r) = (true, r)
input_side (Connective join inputs) j (inr r) = (false, r)
input_side (UntilOf u) j (inl r) = (true, r)
input_side (UntilOf u) j (inr r) = (false, r)
input_side (SinceOf s) j (inl r) = (true, r)
input_side (SinceOf s) j (inr r) = (false, r)
input_side _ j r = (true, r)

-- how far an operator looks by its kind is how far its node does
in_sight : (c : ℤ) → c <ℤ pos 8589934592 → int_lt c (pos 8589934592) ≡ true
in_sight c h = by_test (int_lt c (pos 8589934592)) refl
  where
    by_test : (t : Bool) → int_lt c (pos 8589934592) ≡ t → int_lt c (pos 8589934592) ≡ true
    by_test true e = e
    by_test false e = absurd (let x : pos 8589934592 ≤ℤ c = int_order c (pos 8589934592) false e in omega (arith, ints, h))

-- twice negated is the number itself
pub twice_negated : (a : ℕ) → neg_ℤ (neg_ℤ (pos a)) ≡ pos a
twice_negated a = omega (arith, ints)

past_by : (a c : ℕ) → c ≤ 4294967295 → neg_ℤ (cond (int_lt (pos c) (pos 8589934592)) (pos c) (pos a)) ≡ neg_ℤ (pos c)
past_by a c h = ap (λ t. neg_ℤ (cond t (pos c) (pos a))) (in_sight (pos c) (omega (arith, ints, h)))

ahead_by : (a b : ℕ) → neg_ℤ (cond (int_lt (neg_ℤ (pos a)) (pos 8589934592)) (neg_ℤ (pos a)) (neg_ℤ (pos b))) ≡ pos a
ahead_by a b = ap (λ t. neg_ℤ (cond t (neg_ℤ (pos a)) (neg_ℤ (pos b)))) (in_sight (neg_ℤ (pos a)) (omega (arith, ints))) ∙ twice_negated a

-- a kind looks as far back into an input as its node
pub looks_is : (n : Node) (left : Bool) (j : ℕ) → IsReader n left j → own_reach n ≤ 4294967295 → looks_by (kind_of n) left ≡ reach_back n left
looks_is (Until p q a b) false j r h = twice_negated a
looks_is (Eventually p a b i k) left j r h = ahead_by a b
looks_is (Always p a b i k) left j r h = ahead_by a b
looks_is (Since p q a (Some b)) left j r h = past_by a b h
looks_is (Once p a (Some b) i k) left j r h = past_by a b h
looks_is (Historically p a (Some b) i k) left j r h = past_by a b h
looks_is _ left j r h = refl
