-- How far a node looks over covers how far its inputs do, and the root covers all.
use Rattle.std.specs.Prelude.{◌≢◌}
use Rattle.std.proofs.Common.{◌≡◌, ◌⊎◌, inl, inr, sym, subst, ℕ, zero, suc, ◌+◌, ◌-◌, ◌<◌, ◌≤◌, Bool, true, false, Some, None, List, length}
use Rattle.std.proofs.Common.{ℤ, pos, neg_ℤ, ◌+ℤ◌, ◌≤ℤ◌, arith}
use Rattle.std.specs.Prelude.{slice_get}
use Rattle.std.proofs.lemmas.Int.{ints}
use Rattle.std.proofs.lemmas.Bool.{cases_order}
use Rattle.std.proofs.lemmas.Option.{slice_get_within}
use Rattle.stl_syntax.specs.Formula.{Subformula, subformula, tree_of, horizon, root, constant, atom, negation, conjunction, disjunction}
use Rattle.stl_syntax.specs.Formula.{implication, until, eventually, always, since, once, historically}
use Rattle.stl_syntax.specs.PostOrder.{IsPostOrder}
use Rattle.stl_syntax.specs.WellFormed.{HasOneRoot}
use Rattle.stl_syntax.specs.declared.node.Node.{Node}
use Rattle.stl_syntax.specs.declared.node.Node.TheVariants.{Not, And, Or, Implies, Until, Eventually}
use Rattle.stl_syntax.specs.declared.node.Node.TheVariants.{Always, Since, Once, Historically}
use Rattle.stl_syntax.proofs.FormulaLemmas.{subformula-at}
use Rattle.stl_syntax.proofs.PostOrderLemmas.{placed}
use Rattle.online_nodes.specs.Network.{reach_back}
use Rattle.online_nodes.specs.Needed.{IsReader}
use Rattle.online_nodes.proofs.ReaderLemmas.{child_all}
use Rattle.online_nodes.proofs.ReadersLaw.{has_reader}
use Rattle.online_nodes.proofs.RisingLaw.{children_before}
use Rattle.stl_syntax.specs.Trace.{Header}
use Rattle.bounds.specs.Turns.{looks_ahead, looks_back}
use Rattle.watch_bounds.specs.Holdings.{looks_over}

-- a formula looks ahead as far as its horizon
pub horizon_within : (p : Subformula) → horizon p ≤ looks_ahead p
horizon_within (constant b) = omega arith
horizon_within (atom i a) = omega arith
horizon_within (negation p) = horizon_within p
horizon_within (conjunction p q) = let a = horizon_within p in let b = horizon_within q in omega (arith, a, b)
horizon_within (disjunction p q) = let a = horizon_within p in let b = horizon_within q in omega (arith, a, b)
horizon_within (implication p q) = let a = horizon_within p in let b = horizon_within q in omega (arith, a, b)
horizon_within (until a b p q) = let x = horizon_within p in let y = horizon_within q in omega (arith, x, y)
horizon_within (eventually a b i j p) = let x = horizon_within p in omega (arith, x)
horizon_within (always a b i j p) = let x = horizon_within p in omega (arith, x)
horizon_within (since a b p q) = let x = horizon_within p in let y = horizon_within q in omega (arith, x, y)
horizon_within (once a b i j p) = let x = horizon_within p in omega (arith, x)
horizon_within (historically a b i j p) = let x = horizon_within p in omega (arith, x)

-- what a node looks over covers what its input looks over, moved by how far the node looks back for it
pub record Covers (child node : Subformula) (k : ℤ) : Type 0 where
  -- it looks ahead as far
  pub ahead : looks_ahead child ≤ looks_ahead node
  -- and back
  pub back : looks_back child ≤ looks_back node
  -- with the move, too
  pub reach : pos (looks_back child) ≤ℤ (k +ℤ pos (looks_back node))

module _ (at : ℕ → Subformula) (i : ℕ) where
  -- of the child at place p that is the one at place j
  here : (n : Subformula) (k : ℤ) (p j : ℕ) → Covers (at p) n k → p ≡ j → Covers (at j) n k
  here n k p j c e = subst (λ x. Covers (at x) n k) e c

  -- a window behind reaches back by its farther bound, or by the one that it has
  pub covers : (n : Node) (left : Bool) (j : ℕ) → IsReader n left j → Covers (at j) (tree_of at i n) (reach_back n left)
  covers (Not p) true j r = here (tree_of at i (Not p)) (pos 0) p j (record { ahead = omega arith; back = omega arith; reach = omega (arith, ints) }) r
  covers (And p q) true j r =
      here (tree_of at i (And p q)) (pos 0) p j (record { ahead = omega arith; back = omega arith; reach = omega (arith, ints) }) r
  covers (And p q) false j r =
      here (tree_of at i (And p q)) (pos 0) q j (record { ahead = omega arith; back = omega arith; reach = omega (arith, ints) }) r
  covers (Or p q) true j r =
      here (tree_of at i (Or p q)) (pos 0) p j (record { ahead = omega arith; back = omega arith; reach = omega (arith, ints) }) r
  covers (Or p q) false j r =
      here (tree_of at i (Or p q)) (pos 0) q j (record { ahead = omega arith; back = omega arith; reach = omega (arith, ints) }) r
  covers (Implies p q) true j r =
      here (tree_of at i (Implies p q)) (pos 0) p j (record { ahead = omega arith; back = omega arith; reach = omega (arith, ints) }) r
  covers (Implies p q) false j r =
      here (tree_of at i (Implies p q)) (pos 0) q j (record { ahead = omega arith; back = omega arith; reach = omega (arith, ints) }) r
  covers (Until p q a b) true j r =
      here (tree_of at i (Until p q a b)) (pos 0) p j (record { ahead = omega arith; back = omega arith; reach = omega (arith, ints) }) r
  covers (Until p q a b) false j r =
      here (tree_of at i (Until p q a b)) (pos a) q j (record { ahead = omega arith; back = omega arith; reach = omega (arith, ints) }) r
  covers (Eventually p a b x y) true j r =
      here (tree_of at i (Eventually p a b x y)) (pos a) p j (record { ahead = omega arith; back = omega arith; reach = omega (arith, ints) }) r
  covers (Always p a b x y) true j r =
      here (tree_of at i (Always p a b x y)) (pos a) p j (record { ahead = omega arith; back = omega arith; reach = omega (arith, ints) }) r
  covers (Since p q a None) true j r =
      here (tree_of at i (Since p q a None)) (neg_ℤ (pos a)) p j (record { ahead = omega arith; back = omega arith; reach = omega (arith, ints) }) r
  covers (Since p q a None) false j r =
      here (tree_of at i (Since p q a None)) (neg_ℤ (pos a)) q j (record { ahead = omega arith; back = omega arith; reach = omega (arith, ints) }) r
  covers (Since p q a (Some b)) true j r =
      here (tree_of at i (Since p q a (Some b))) (neg_ℤ (pos b)) p j (record { ahead = omega arith; back = omega arith; reach = omega (arith, ints) }) r
  covers (Since p q a (Some b)) false j r =
      here (tree_of at i (Since p q a (Some b))) (neg_ℤ (pos b)) q j (record { ahead = omega arith; back = omega arith; reach = omega (arith, ints) }) r
  covers (Once p a None x y) true j r =
      here (tree_of at i (Once p a None x y)) (neg_ℤ (pos a)) p j (record { ahead = omega arith; back = omega arith; reach = omega (arith, ints) }) r
  covers (Once p a (Some b) x y) true j r =
      here (tree_of at i (Once p a (Some b) x y)) (neg_ℤ (pos b)) p j (record { ahead = omega arith; back = omega arith; reach = omega (arith, ints) }) r
  covers (Historically p a None x y) true j r =
      here (tree_of at i (Historically p a None x y)) (neg_ℤ (pos a)) p j (record { ahead = omega arith; back = omega arith; reach = omega (arith, ints) }) r
  covers (Historically p a (Some b) x y) true j r =
      here (tree_of at i (Historically p a (Some b) x y)) (neg_ℤ (pos b)) p j
      (record { ahead = omega arith; back = omega arith; reach = omega (arith, ints) }) r
  covers _ _ j r = absurd r

module _ (nodes : List Node) (header : Header) (order : IsPostOrder nodes) where
  -- a node of the list covers what it reads
  pub covers_at : (r : ℕ) (n : Node) (left : Bool) (j : ℕ) → slice_get nodes r ≡ Some n → IsReader n left j
      → Covers (subformula nodes j) (subformula nodes r) (reach_back n left)
  covers_at r n left j at reads =
      subst (λ p. Covers (subformula nodes j) p (reach_back n left)) (sym (subformula-at nodes r n at (placed nodes r n order at)))
      (covers (subformula nodes) r n left j reads)

  -- the root looks over what each node does
  covered : (fuel j : ℕ) → HasOneRoot nodes → j < length nodes → length nodes ≤ j + fuel → looks_over (subformula nodes j) ≤ looks_over (root nodes)
  covered zero j one l enough = absurd (omega (arith, l, enough))
  covered (suc fuel) j one l enough = by_place (λ r in_r enough. covered fuel r one in_r enough) (cases_order j (length nodes - 1))
    where
      Over : ℕ → Type 0
      Over k = looks_over (subformula nodes k) ≤ looks_over (root nodes)

      Next : Type 0
      Next = (r : ℕ) → r < length nodes → length nodes ≤ r + fuel → Over r

      other : Next → j ≢ length nodes - 1 → Over j
      other next d =
          let r = has_reader nodes one j l d in
          let in_r = slice_get_within nodes r.reader r.node r.at in
          let below : j < r.reader = child_all (λ p. p < r.reader) r.node r.left j r.reads (children_before nodes header order r.reader r.node in_r r.at) in
          let c = covers_at r.reader r.node r.left j r.at r.reads in
          let a = c.ahead in
          let b = c.back in
          let up = next r.reader in_r (omega (arith, below, enough)) in
          omega (arith, a, b, up)

      by_place : Next → (j ≡ length nodes - 1) ⊎ ((j < length nodes - 1) ⊎ (length nodes - 1 < j)) → Over j
      by_place next (inl e) = subst Over (sym e) (omega arith)
      by_place next (inr (inl h)) = other next (λ e. absurd (omega (arith, h, e)))
      by_place next (inr (inr h)) = absurd (omega (arith, h, l))

  -- so it does
  pub under_root : (j : ℕ) → HasOneRoot nodes → j < length nodes → looks_over (subformula nodes j) ≤ looks_over (root nodes)
  under_root j one l = covered (length nodes) j one l (omega arith)
