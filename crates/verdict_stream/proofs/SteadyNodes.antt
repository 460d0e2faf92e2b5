-- What holds of the tree at each place of nodes because it holds above places at which it holds: how far back a formula looks, and that its atoms
-- stay.
use Rattle.std.proofs.Common.{◌≡◌, ◌⊎◌, inl, inr, sym, ap, ◌∙◌, ℕ, zero, suc, ◌+◌, ◌-◌, ◌<◌, ◌≤◌, List, [], ◌∷◌, length, take, drop, arith}
use Rattle.std.proofs.Common.{Some, None, get_or, sum_by, take-add, subst}
use Rattle.std.specs.Prelude.{slice_get}
use Rattle.std.proofs.lemmas.List.{take_more}
use Rattle.std.proofs.lemmas.List.Sums.{sum_by-append}
use Rattle.std.proofs.lemmas.Option.{slice_get_cases}
use Rattle.rational.specs.Time.{Rational, ◌≤ʳ◌}
use Rattle.rational.proofs.Order.{le_trans, not_lt_of_le}
use Rattle.stl_syntax.specs.Trace.{Trace}
use Rattle.stl_syntax.specs.Formula.{Subformula, subformula, tree_of, HasChildrenBelow, constant, atom, negation, conjunction, disjunction}
use Rattle.stl_syntax.specs.Formula.{implication, until, eventually, always, since, once, historically}
use Rattle.stl_syntax.specs.PostOrder.{IsPostOrder}
use Rattle.stl_syntax.specs.declared.atom.Atom.{Atom}
use Rattle.stl_syntax.specs.declared.node.Node.{Node}
use Rattle.stl_syntax.specs.declared.node.Node.TheVariants.{Const, Atom as Leaf, Not, And, Or, Implies, Until, Eventually, Always, Since, Once, Historically}
use Rattle.stl_syntax.proofs.FormulaLemmas.{subformula-at}
use Rattle.stl_syntax.proofs.PostOrderLemmas.{placed}
use Rattle.bounds.specs.Turns.{looks_back}
use Rattle.bounds.specs.Steady.{StaysOn, AtomsStay}
use Rattle.verdict_stream.specs.Quieting.{own_back}

module _ (nodes : List Node) (ok : IsPostOrder nodes) (P : ℕ → Type 0)
    (above : (i : ℕ) (n : Node) → i < length nodes → slice_get nodes i ≡ Some n → get_or nodes i n ≡ n → HasChildrenBelow i n
    → ((k : ℕ) → k < i → P k) → P i) where
  below : (m i : ℕ) → i < m → i < length nodes → P i
  below zero i h l = absurd (omega (arith, h))
  below (suc m) i h l = by_node (λ k j e. below m k j e) (slice_get_cases nodes i).1
    where
      by_node : ((k : ℕ) → k < m → k < length nodes → P k)
          → ((n : Node) × (i < length nodes) × (slice_get nodes i ≡ Some n) × (get_or nodes i n ≡ n))
          ⊎ ((length nodes ≤ i) × (slice_get nodes i ≡ None))
          → P i
      by_node all (inr (past, e)) = absurd (omega (arith, past, l))
      by_node all (inl (n, k, here, is)) = above i n l here is (placed nodes i n ok here) (λ j under. all j (omega (arith, under, h)) (omega (arith, under, l)))

  -- it holds at each place
  pub at_each : (i : ℕ) → i < length nodes → P i
  at_each i l = below (suc i) i (omega arith) l

-- ---- how far back a formula looks

back_above : (at : ℕ → Subformula) (i sum : ℕ) (n : Node) → HasChildrenBelow i n → ((k : ℕ) → k < i → looks_back (at k) ≤ sum)
    → looks_back (tree_of at i n) ≤ sum + own_back n
back_above at i sum (Const b) c all = omega arith
back_above at i sum (Leaf a) c all = omega arith
back_above at i sum (Not p) c all = let x = all p c in omega (arith, x)
back_above at i sum (And p q) c all = let x = all p c.0 in let y = all q c.1 in omega (arith, x, y)
back_above at i sum (Or p q) c all = let x = all p c.0 in let y = all q c.1 in omega (arith, x, y)
back_above at i sum (Implies p q) c all = let x = all p c.0 in let y = all q c.1 in omega (arith, x, y)
back_above at i sum (Until p q a b) c all = let x = all p c.0 in let y = all q c.1 in omega (arith, x, y)
back_above at i sum (Eventually p a b a_in b_in) c all = let x = all p c in omega (arith, x)
back_above at i sum (Always p a b a_in b_in) c all = let x = all p c in omega (arith, x)
back_above at i sum (Since p q a b) c all = let x = all p c.0 in let y = all q c.1 in omega (arith, x, y)
back_above at i sum (Once p a b a_in b_in) c all = let x = all p c in omega (arith, x)
back_above at i sum (Historically p a b a_in b_in) c all = let x = all p c in omega (arith, x)

-- the sum over the first nodes
abbrev pub back_before : List Node → ℕ → ℕ
back_before nodes i = sum_by own_back (take i nodes)

-- one node more
pub back_more : (nodes : List Node) (i : ℕ) (n : Node) → i < length nodes → get_or nodes i n ≡ n → back_before nodes (i + 1) ≡ back_before nodes i + own_back n
back_more nodes i n l is =
    let e : own_back n + 0 ≡ own_back n = omega arith in
    ap (λ ns. sum_by own_back ns) (take_more nodes i n l) ∙ sum_by-append own_back (take i nodes) (get_or nodes i n ∷ [])
    ∙ ap (λ (m : Node). back_before nodes i + sum_by own_back (m ∷ [])) is ∙ (let f : back_before nodes i + sum_by own_back (n ∷ []) ≡ back_before nodes i + own_back n = omega arith in f)

-- the sum only grows
back_rises : (nodes : List Node) (m n : ℕ) → back_before nodes m ≤ back_before nodes (m + n)
back_rises nodes m n =
    let e : back_before nodes (m + n) ≡ back_before nodes m + sum_by own_back (take n (drop m nodes)) =
    ap (λ ns. sum_by own_back ns) (take-add m n nodes) ∙ sum_by-append own_back (take m nodes) (take n (drop m nodes)) in
    omega (arith, e)

-- the formula at a place looks no farther back than the sum over the nodes up to it
pub back_covers : (nodes : List Node) → IsPostOrder nodes → (i : ℕ) → i < length nodes → looks_back (subformula nodes i) ≤ back_before nodes (i + 1)
back_covers nodes ok =
    at_each nodes ok (λ i. looks_back (subformula nodes i) ≤ back_before nodes (i + 1)) (λ i n l here is c all.
    let up = back_above (subformula nodes) i (back_before nodes i) n c (λ k j.
    let x = all k j in
    let y = back_rises nodes (k + 1) (i - (k + 1)) in
    let e : (k + 1) + (i - (k + 1)) ≡ i = omega (arith, j) in
    let z : back_before nodes (k + 1) ≤ back_before nodes i = subst (λ m. back_before nodes (k + 1) ≤ back_before nodes m) e y in
    omega (arith, x, z)) in
    let more = back_more nodes i n l is in
    let made = ap looks_back (subformula-at nodes i n here c) in
    omega (arith, up, more, made))

-- ---- atoms that stay

-- on no time they do
pub none_stay : (p : Subformula) (tr : Trace) (lo hi : Rational) → hi ≤ʳ lo → AtomsStay p tr lo hi
none_stay (constant b) tr lo hi h = tt
none_stay (atom i a) tr lo hi h = λ u v above low other under t. absurd (not_lt_of_le (le_trans low h) above)
none_stay (negation p) tr lo hi h = none_stay p tr lo hi h
none_stay (conjunction p q) tr lo hi h = (none_stay p tr lo hi h, none_stay q tr lo hi h)
none_stay (disjunction p q) tr lo hi h = (none_stay p tr lo hi h, none_stay q tr lo hi h)
none_stay (implication p q) tr lo hi h = (none_stay p tr lo hi h, none_stay q tr lo hi h)
none_stay (until a b p q) tr lo hi h = (none_stay p tr lo hi h, none_stay q tr lo hi h)
none_stay (eventually a b a_in b_in p) tr lo hi h = none_stay p tr lo hi h
none_stay (always a b a_in b_in p) tr lo hi h = none_stay p tr lo hi h
none_stay (since a b p q) tr lo hi h = (none_stay p tr lo hi h, none_stay q tr lo hi h)
none_stay (once a b a_in b_in p) tr lo hi h = none_stay p tr lo hi h
none_stay (historically a b a_in b_in p) tr lo hi h = none_stay p tr lo hi h

module _ (nodes : List Node) (ok : IsPostOrder nodes) (tr tr' : Trace) (lo hi hi' : Rational)
    (leaf : (i : ℕ) (a : Atom) → slice_get nodes i ≡ Some (Leaf a) → StaysOn (atom i a) tr lo hi → StaysOn (atom i a) tr' lo hi') where
  -- in one trace they do, and so in another
  GoesOn : Subformula → Type 0
  GoesOn p = AtomsStay p tr lo hi → AtomsStay p tr' lo hi'

  stay_above : (i : ℕ) (n : Node) → slice_get nodes i ≡ Some n → HasChildrenBelow i n → ((k : ℕ) → k < i → GoesOn (subformula nodes k))
      → GoesOn (tree_of (subformula nodes) i n)
  unfolding GoesOn
  stay_above i (Const b) here c all h = tt
  stay_above i (Leaf a) here c all h = leaf i a here h
  stay_above i (Not p) here c all h = all p c h
  stay_above i (And p q) here c all h = (all p c.0 h.0, all q c.1 h.1)
  stay_above i (Or p q) here c all h = (all p c.0 h.0, all q c.1 h.1)
  stay_above i (Implies p q) here c all h = (all p c.0 h.0, all q c.1 h.1)
  stay_above i (Until p q a b) here c all h = (all p c.0 h.0, all q c.1 h.1)
  stay_above i (Eventually p a b a_in b_in) here c all h = all p c h
  stay_above i (Always p a b a_in b_in) here c all h = all p c h
  stay_above i (Since p q a b) here c all h = (all p c.0 h.0, all q c.1 h.1)
  stay_above i (Once p a b a_in b_in) here c all h = all p c h
  stay_above i (Historically p a b a_in b_in) here c all h = all p c h

  pub stay_on : (i : ℕ) → i < length nodes → AtomsStay (subformula nodes i) tr lo hi → AtomsStay (subformula nodes i) tr' lo hi'
  unfolding GoesOn
  stay_on =
      at_each nodes ok (λ i. GoesOn (subformula nodes i)) (λ i n l here is c all.
      subst GoesOn (sym (subformula-at nodes i n here c)) (stay_above i n here c all))
