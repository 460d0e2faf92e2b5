-- Where no node can move, each number is the last row's time less the horizon.
use Rattle.std.proofs.Common.{◌≡◌, sym, ap, subst, ◌∙◌, ℕ, ◌<◌, ◌+◌, ◌-◌, max, Some, ℤ, pos, neg_ℤ, ◌+ℤ◌, ◌-ℤ◌, arith}
use Rattle.std.proofs.lemmas.Int.{ints}
use Rattle.stl_syntax.specs.Formula.{Subformula, horizon, tree_of, HasChildrenBelow}
use Rattle.online_nodes.specs.Network.{least, moved_by, State, last_row, open_number}
use Rattle.online_nodes.proofs.FrontsLaw.{least_is}
use Rattle.stl_syntax.specs.declared.node.Node.{Node}
use Rattle.stl_syntax.specs.declared.node.Node.TheVariants.{Const, Atom as Leaf, Not, And, Or, Implies, Until, Eventually}
use Rattle.stl_syntax.specs.declared.node.Node.TheVariants.{Always, Since, Once, Historically}

module _ (at : ℕ → Subformula) (s : State) (l : ℤ) where
  abbrev Settled : ℕ → Type 0
  Settled p = s.fronts p ≡ Some (l -ℤ pos (horizon (at p)))

  both : (h j : ℕ) → least (Some (l -ℤ pos h)) (Some (l -ℤ pos j)) ≡ Some (l -ℤ pos (max h j))
  both h j = least_is (l -ℤ pos h) (l -ℤ pos j) (l -ℤ pos (max h j)) (λ x. omega (arith, ints)) (λ x. omega (arith, ints))

  ahead : (b h : ℕ) → moved_by (neg_ℤ (pos b)) (Some (l -ℤ pos h)) ≡ Some (l -ℤ pos (b + h))
  ahead b h = ap (λ (z : ℤ). Some z) (let e : (l -ℤ pos h) +ℤ neg_ℤ (pos b) ≡ l -ℤ pos (b + h) = omega (arith, ints) in e)

  behind : (a h : ℕ) → last_row s ≡ Some l → least (moved_by (pos a) (Some (l -ℤ pos h))) (last_row s) ≡ Some (l -ℤ pos (h - a))
  behind a h e = subst (λ o. least (Some ((l -ℤ pos h) +ℤ pos a)) o ≡ Some (l -ℤ pos (h - a))) (sym e)
      (least_is ((l -ℤ pos h) +ℤ pos a) l (l -ℤ pos (h - a)) (λ x. omega (arith, ints)) (λ x. omega (arith, ints)))

  since_both : (a h j : ℕ) → least (Some (l -ℤ pos h)) (moved_by (pos a) (Some (l -ℤ pos j))) ≡ Some (l -ℤ pos (max h (j - a)))
  since_both a h j = least_is (l -ℤ pos h) ((l -ℤ pos j) +ℤ pos a) (l -ℤ pos (max h (j - a))) (λ x. omega (arith, ints))
      (λ x. omega (arith, ints))

  -- the number that a node may have before the end, once its children have theirs
  pub open_settled : (i : ℕ) (n : Node) → last_row s ≡ Some l → HasChildrenBelow i n → ((j : ℕ) → j < i → Settled j)
      → open_number n s ≡ Some (l -ℤ pos (horizon (tree_of at i n)))
  open_settled i (Const b) e c k = e ∙ ap (λ (z : ℤ). Some z) (let x : l ≡ l -ℤ pos 0 = omega (arith, ints) in x)
  open_settled i (Leaf a) e c k = e ∙ ap (λ (z : ℤ). Some z) (let x : l ≡ l -ℤ pos 0 = omega (arith, ints) in x)
  open_settled i (Not p) e c k = k p c
  open_settled i (And p q) e c k = rw (k p c.0, k q c.1) (both (horizon (at p)) (horizon (at q)))
  open_settled i (Or p q) e c k = rw (k p c.0, k q c.1) (both (horizon (at p)) (horizon (at q)))
  open_settled i (Implies p q) e c k = rw (k p c.0, k q c.1) (both (horizon (at p)) (horizon (at q)))
  open_settled i (Until p q a b) e c k = rw (k p c.0, k q c.1)
      (rw (both (horizon (at p)) (horizon (at q))) (ahead b (max (horizon (at p)) (horizon (at q)))))
  open_settled i (Eventually p a b a_in b_in) e c k = rw (k p c) (ahead b (horizon (at p)))
  open_settled i (Always p a b a_in b_in) e c k = rw (k p c) (ahead b (horizon (at p)))
  open_settled i (Since p q a b) e c k = rw (k p c.0, k q c.1) (since_both a (horizon (at p)) (horizon (at q)))
  open_settled i (Once p a b a_in b_in) e c k = rw (k p c) (behind a (horizon (at p)) e)
  open_settled i (Historically p a b a_in b_in) e c k = rw (k p c) (behind a (horizon (at p)) e)
