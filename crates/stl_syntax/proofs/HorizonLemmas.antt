-- The horizon of a node follows from those of its children.
use Rattle.std.proofs.Common.{◌≡◌, ℕ, zero, suc, ◌+◌, ◌<◌, ◌≤◌, List, [], ◌∷◌, ◌++◌, length, take, drop}
use Rattle.std.proofs.Common.{refl, sym, ◌∙◌, ap, arith, slice_index, false, set, ◌≢◌, below_more}
use Rattle.std.proofs.lemmas.List.{get_or-set_other, get_or-set_same, take_more, length-take-le, take-append-drop}
use Rattle.std.proofs.lemmas.List.Sums.{sum_by-append}
use Rattle.std.specs.Prelude.{Some, slice_get, slice_index_or, sum_by}
use Rattle.stl_syntax.specs.Formula.{Subformula, subformula, horizon, tree_of, HasChildrenBelow}
use Rattle.stl_syntax.specs.Horizons.{horizon_above, AreHorizonsBelow}
use Rattle.stl_syntax.specs.declared.node.Node.{Node}
use Rattle.stl_syntax.specs.declared.node.Node.TheVariants.{Const, Atom as Leaf, Not, And, Or, Implies, Until, Eventually, Always, Since, Once, Historically}
use Rattle.stl_syntax.specs.Limits.{own_reach, reach}
use Rattle.stl_syntax.specs.PostOrder.{children, unused, MayFollow, IsPostOrder}
use Rattle.stl_syntax.proofs.FormulaLemmas.{subformula-at}
use Rattle.stl_syntax.proofs.PostOrderLemmas.{placed, post_order_take, unused_push, slice_get_at}

above : (at : ℕ → Subformula) (h : List ℕ) (i : ℕ) (n : Node) → HasChildrenBelow i n
    → ((k : ℕ) → k < i → slice_index h k ≡ horizon (at k)) → horizon (tree_of at i n) ≡ horizon_above h n
above at h i (Const b) c e = refl
above at h i (Leaf a) c e = refl
above at h i (Not p) c e = sym (e p c)
above at h i (And p q) c e = rw (e p c.0, e q c.1)
above at h i (Or p q) c e = rw (e p c.0, e q c.1)
above at h i (Implies p q) c e = rw (e p c.0, e q c.1)
above at h i (Until p q a b) c e = rw (e p c.0, e q c.1)
above at h i (Eventually p a b a_in b_in) c e = rw (e p c)
above at h i (Always p a b a_in b_in) c e = rw (e p c)
above at h i (Since p q a b) c e = rw (e p c.0, e q c.1)
above at h i (Once p a b a_in b_in) c e = rw (e p c)
above at h i (Historically p a b a_in b_in) c e = rw (e p c)

-- the horizon of a node by the horizons of its children
pub horizon-above : (nodes : List Node) (h : List ℕ) (i : ℕ) (n : Node) → HasChildrenBelow i n → slice_get nodes i ≡ Some n
    → AreHorizonsBelow i nodes h → horizon (subformula nodes i) ≡ horizon_above h n
horizon-above nodes h i n p e k = rw (subformula-at nodes i n e p) (above (subformula nodes) h i n p k)

-- one more horizon
pub horizons-set : (nodes : List Node) (i x : ℕ) (h : List ℕ) → i < length h → AreHorizonsBelow i nodes h
    → x ≡ horizon (subformula nodes i) → AreHorizonsBelow (i + 1) nodes (set h i x)
horizons-set nodes i x h l k n = below_more _ _ (λ j m. let other : j ≢ i = omega arith in rw get_or-set_other (k j m)) (rw get_or-set_same n)

-- a node's horizon is at most its own bound and the horizons of its children
horizon_step : (at : ℕ → Subformula) (i : ℕ) (n : Node) → horizon (tree_of at i n) ≤ own_reach n + sum_by (λ p. horizon (at p)) (children n)
horizon_step at i (Const b) = omega arith
horizon_step at i _ = omega arith

-- the horizons of the unused places among the first nodes sum up to at most the reach of these nodes
abbrev AreWithin : List Node → List Node → Type 0
AreWithin nodes first = sum_by (λ p. horizon (subformula nodes p)) (unused first) ≤ reach first

-- so they do with one node more, which is unused
abbrev IsWithinTo : List Node → ℕ → Type 0
IsWithinTo nodes i = AreWithin nodes (take (i + 1) nodes) × (horizon (subformula nodes i) ≤ reach (take (i + 1) nodes))

one_more : (nodes : List Node) (i : ℕ) → IsPostOrder nodes → i < length nodes → AreWithin nodes (take i nodes) → IsWithinTo nodes i
one_more nodes i h l before =
    let n : Node = slice_index_or nodes i (Const false) in
    let found : slice_get nodes i ≡ Some n = slice_get_at nodes i (Const false) l in
    let longer : take (i + 1) nodes ≡ take i nodes ++ n ∷ [] = take_more nodes i (Const false) l in
    let last : MayFollow (take i nodes) n = h.follows i n found in
    let height : length (take i nodes) ≡ i = length-take-le i nodes (omega (arith, l)) in
    let now : unused (take i nodes ++ n ∷ []) ≡ last.others ++ i ∷ [] =
    unused_push (take i nodes) n last.others (post_order_take nodes i h) last.last ∙ rw height refl in
    let here : horizon (subformula nodes i) ≡ horizon (tree_of (subformula nodes) i n) =
    ap horizon (subformula-at nodes i n found (placed nodes i n h found)) in
    let sum : List ℕ → ℕ = sum_by (λ p. horizon (subformula nodes p)) in
    let old : sum (unused (take i nodes)) ≡ sum last.others + sum (children n) =
    ap sum last.last ∙ sum_by-append (λ p. horizon (subformula nodes p)) last.others (children n) in
    let new : sum (last.others ++ i ∷ []) ≡ sum last.others + sum (i ∷ []) = sum_by-append (λ p. horizon (subformula nodes p)) last.others (i ∷ []) in
    let only : sum (i ∷ []) ≡ horizon (subformula nodes i) = omega arith in
    let step : horizon (tree_of (subformula nodes) i n) ≤ own_reach n + sum (children n) = horizon_step (subformula nodes) i n in
    let total : reach (take i nodes ++ n ∷ []) ≡ reach (take i nodes) + reach (n ∷ []) = sum_by-append own_reach (take i nodes) (n ∷ []) in
    let own : reach (n ∷ []) ≡ own_reach n = omega arith in
    rw (longer, now) (omega arith, omega arith)

within : (nodes : List Node) (m : ℕ) → IsPostOrder nodes → m ≤ length nodes → AreWithin nodes (take m nodes)
unfolding unused
within nodes zero h l = omega arith
within nodes (suc m) h l =
    let up : m + 1 ≡ suc m = omega arith in
    rw (← up) (one_more nodes m h (omega (arith, l)) (within nodes m h (omega (arith, l)))).0

-- no horizon passes the reach
pub horizon_within : (nodes : List Node) (i : ℕ) → IsPostOrder nodes → i < length nodes → horizon (subformula nodes i) ≤ reach nodes
horizon_within nodes i h l =
    let part : IsWithinTo nodes i = one_more nodes i h l (within nodes i h (omega (arith, l))) in
    let whole : reach (take (i + 1) nodes) + reach (drop (i + 1) nodes) ≡ reach nodes =
    sym (sum_by-append own_reach (take (i + 1) nodes) (drop (i + 1) nodes)) ∙ ap reach (take-append-drop (i + 1) nodes) in
    omega (arith, part.1, whole)
