-- How far the nodes of a formula are asked.
use Rattle.std.proofs.Common.{◌≡◌, ◌≢◌, ◌⊎◌, inl, inr, refl, sym, subst, ap, ◌∙◌, ℕ, zero, suc, ◌+◌, ◌<◌, ◌≤◌, Option}
use Rattle.std.proofs.Common.{List, [], ◌∷◌, Some, None, drop, length, arith, add-one}
use Rattle.std.proofs.lemmas.List.Sums.{sum_by-cons}
use Rattle.std.specs.Prelude.{IfSome, replicate, slice_get, sum_by}
use Rattle.std.proofs.lemmas.Option.{same_Some, none-some}
use Rattle.stl_syntax.specs.Views.{first_of, second_of, view_of}
use Rattle.stl_syntax.specs.Formula.{HasChildrenBelow}
use Rattle.stl_syntax.specs.Limits.{own_reach}
use Rattle.stl_syntax.specs.declared.node.Node.{Node}
use Rattle.stl_syntax.specs.declared.node.Node.TheVariants.{Const, Atom as Leaf, And, Or, Implies, Until, Since}
use Rattle.early_verdict.specs.Standing.{AsksBelow, looks_ahead, top_at}
use Rattle.early_verdict.specs.Tops.{rest_reach, Rises, StayFrom}

-- a node looks no further than it adds to the reach
looks_within : (n : Node) → looks_ahead n ≤ own_reach n
looks_within (Const b) = omega arith
looks_within _ = omega arith

-- a node and those after it
pub reach_from : (nodes : List Node) (i : ℕ) (n : Node) → slice_get nodes i ≡ Some n → looks_ahead n + rest_reach nodes (i + 1) ≤ rest_reach nodes i
reach_from nodes i n e = subst (λ k. looks_ahead n + rest_reach nodes k ≤ rest_reach nodes i) (sym (add-one i)) (by_place nodes i e)
  where
    by_place : (xs : List Node) (k : ℕ) → slice_get xs k ≡ Some n → looks_ahead n + sum_by own_reach (drop (suc k) xs) ≤ sum_by own_reach (drop k xs)
    by_place [] k e = absurd (let x : None ≡ Some n = e in cc)
    by_place (m ∷ xs) zero e =
        let same : m ≡ n = cc in
        let k = looks_within m in
        let sum = sum_by-cons own_reach m xs in
        subst (λ x. looks_ahead x + sum_by own_reach xs ≤ sum_by own_reach (m ∷ xs)) same (omega arith)
    by_place (m ∷ xs) (suc k) e = by_place xs k e

-- no node is asked further than the formula reaches
pub reach_all : (nodes : List Node) (i : ℕ) → rest_reach nodes i ≤ rest_reach nodes 0
reach_all nodes zero = omega arith
reach_all [] (suc i) = omega arith
reach_all (m ∷ nodes) (suc i) = let k = reach_all nodes i in let sum = sum_by-cons own_reach m nodes in omega arith

-- where no node is asked less far, a node asks its children at least as far as before
still_some : (old new : List ℕ) (to : ℕ) (o : Option ℕ) → Rises old new → IfSome o (λ p. to ≤ top_at old p) → IfSome o (λ p. to ≤ top_at new p)
still_some old new to None r h = tt
still_some old new to (Some p) r h = let k = r p in omega (arith, h, k)

pub asks_still : (old new : List ℕ) (top : ℕ) (n : Node) → Rises old new → AsksBelow (top_at old) top n → AsksBelow (top_at new) top n
asks_still old new top n r h = record {
  first = still_some old new (top + looks_ahead n) (first_of (view_of n)) r h.first;
  second = still_some old new (top + looks_ahead n) (second_of (view_of n)) r h.second;
}

-- no node of a list of zeros is asked after the start
pub zeros_at : (n j : ℕ) → top_at (replicate n 0) j ≤ 0
zeros_at zero j = omega arith
zeros_at (suc n) zero = omega arith
zeros_at (suc n) (suc j) = zeros_at n j

-- the operands of a node stand before it
pub operands_below : (i : ℕ) (n : Node) → HasChildrenBelow i n → IfSome (first_of (view_of n)) (λ p. p < i) × IfSome (second_of (view_of n)) (λ q. q < i)
operands_below i (Const b) h = (tt, tt)
operands_below i (Leaf a) h = (tt, tt)
operands_below i (And p q) h = h
operands_below i (Or p q) h = h
operands_below i (Implies p q) h = h
operands_below i (Until p q a b) h = h
operands_below i (Since p q a b) h = h
operands_below i _ h = (h, tt)

-- so one of them stands in a list in which the node stands
pub operand_there : (tops : List ℕ) (place : ℕ) (o : Option ℕ) → place < length tops → IfSome o (λ p. p < place) → IfSome o (λ p. p < length tops)
operand_there tops place None l h = tt
operand_there tops place (Some p) l h = omega (arith, l, h)

-- and no node from it on is one
not_from : (o : Option ℕ) (place j : ℕ) → IfSome o (λ p. p < place) → place ≤ j → o ≢ Some j
not_from None place j h l e = none-some j e
not_from (Some p) place j h l e = let same : p ≡ j = same_Some p j e in omega (arith, h, l, same)

-- once both children are asked as far as the node looks it asks them, and the nodes from it on are asked as before
pub both_asked : (n : Node) (p q : Option ℕ) (place to : ℕ) (old mid new : List ℕ) → HasChildrenBelow place n → to ≡ top_at old place + looks_ahead n
    → p ≡ first_of (view_of n) → q ≡ second_of (view_of n) → IfSome p (λ p. to ≤ top_at mid p) → Rises mid new → IfSome q (λ q. to ≤ top_at new q)
    → ((j : ℕ) → p ≢ Some j → top_at mid j ≡ top_at old j) → ((j : ℕ) → q ≢ Some j → top_at new j ≡ top_at mid j)
    → AsksBelow (top_at new) (top_at old place) n × StayFrom place old new
both_asked n p q place to old mid new below is first second left rises right stay then = (
  subst (λ k. IfSome p (λ p. k ≤ top_at new p) × IfSome q (λ q. k ≤ top_at new q) → AsksBelow (top_at new) (top_at old place) n) (sym is)
      (λ h. record {
        first = subst (λ o. IfSome o (λ p. top_at old place + looks_ahead n ≤ top_at new p)) first h.0;
        second = subst (λ o. IfSome o (λ q. top_at old place + looks_ahead n ≤ top_at new q)) second h.1;
      })
      (still_some mid new to p rises left, right),
  λ j l. then j (not_from q place j (subst (λ o. IfSome o (λ q. q < place)) (sym second) all.1) l)
      ∙ stay j (not_from p place j (subst (λ o. IfSome o (λ p. p < place)) (sym first) all.0) l),
)
  where
    all : IfSome (first_of (view_of n)) (λ p. p < place) × IfSome (second_of (view_of n)) (λ q. q < place)
    all = operands_below place n below

-- once the node at a place asks its children, those from it on do
pub raised : (nodes : List Node) (k : ℕ) (old new : List ℕ)
    → ((n : Node) → slice_get nodes k ≡ Some n → AsksBelow (top_at new) (top_at new k) n) → Rises old new → StayFrom k old new
    → ((j : ℕ) (n : Node) → k < j → slice_get nodes j ≡ Some n → AsksBelow (top_at old) (top_at old j) n)
    → (j : ℕ) (n : Node) → k ≤ j → slice_get nodes j ≡ Some n → AsksBelow (top_at new) (top_at new j) n
raised nodes k old new here rises others above j n below e = elim (nat_eq_or_lt k j below) [
  | inl same ↦ subst (λ i. AsksBelow (top_at new) (top_at new i) n) same (here n (subst (λ i. slice_get nodes i ≡ Some n) (sym same) e))
  | inr more ↦ subst (λ t. AsksBelow (top_at new) t n) (sym (others j below)) (asks_still old new (top_at old j) n rises (above j n more e))
]
  where
    nat_eq_or_lt : (a b : ℕ) → a ≤ b → (a ≡ b) ⊎ (a < b)
    nat_eq_or_lt zero zero h = inl refl
    nat_eq_or_lt zero (suc b) h = inr (omega arith)
    nat_eq_or_lt (suc a) zero h = absurd (omega arith)
    nat_eq_or_lt (suc a) (suc b) h = elim (nat_eq_or_lt a b (omega arith)) [ inl e ↦ inl (ap suc e) | inr l ↦ inr (omega arith) ]
