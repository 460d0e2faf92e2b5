-- The nodes of a formula are one tree.
use Rattle.std.proofs.Common.{◌≡◌, ℕ, zero, suc, ◌+◌, ◌-◌, ◌<◌, ◌≤◌, List, [], ◌∷◌, ◌++◌, length, take}
use Rattle.std.proofs.Common.{refl, sym, ◌∙◌, ap, subst, arith, append_assoc, length-append, false}
use Rattle.std.proofs.lemmas.List.{length_push, same_from_push, take_more, take_all, append-nil}
use Rattle.std.specs.Prelude.{slice_index_or}
use Rattle.stl_syntax.specs.PostOrder.{children, unused, MayFollow, IsPostOrder, top, IsTreeFrom, leaf, one, two}
use Rattle.stl_syntax.specs.WellFormed.{HasOneRoot}
use Rattle.stl_syntax.proofs.PostOrderLemmas.{post_order_take, unused_push, slice_get_at}
use Rattle.stl_syntax.specs.declared.node.Node.{Node}
use Rattle.stl_syntax.specs.declared.node.Node.TheVariants.{Const, Atom as Leaf, Not, And, Or, Implies, Until, Eventually, Always, Since, Once, Historically}

-- the nodes are trees one after another, with their last nodes at these places
data IsForest : List Node → List ℕ → Type 0 where
  none : IsForest [] []
  more : (before ns : List Node) (places : List ℕ) → IsForest before places → IsTreeFrom (length before) ns
      → IsForest (before ++ ns) (places ++ top (length before) ns ∷ [])

-- the last tree
record LastTree (nodes : List Node) (places : List ℕ) (p : ℕ) : Type 0 where
  before : List Node
  ns : List Node
  nodes_are : nodes ≡ before ++ ns
  forest : IsForest before places
  tree : IsTreeFrom (length before) ns
  place : p ≡ top (length before) ns

last_tree : (nodes : List Node) (all places : List ℕ) (p : ℕ) → IsForest nodes all → all ≡ places ++ p ∷ [] → LastTree nodes places p
last_tree nodes all places p none e = absurd (let l : 0 ≡ length (places ++ p ∷ []) = ap length e in omega (arith, l, length_push places p))
last_tree nodes all places p (more before ns others f t) e =
    let same = same_from_push others places (top (length before) ns) p e in
    record { before = before; ns = ns; nodes_are = refl; forest = subst (IsForest before) same.0 f; tree = t; place = sym same.1 }

no_tree : (nodes : List Node) (all : List ℕ) → IsForest nodes all → all ≡ [] → nodes ≡ []
no_tree nodes all none e = refl
no_tree nodes all (more before ns others f t) e =
    absurd (let l : length (others ++ top (length before) ns ∷ []) ≡ 0 = ap length e in omega (arith, l, length_push others (top (length before) ns)))

-- one tree more, of the last nodes
grown : (nodes before ns : List Node) (n : Node) (others : List ℕ) → nodes ≡ before ++ ns → IsForest before others → IsTreeFrom (length before) (ns ++ n ∷ [])
    → IsForest (nodes ++ n ∷ []) (others ++ length nodes ∷ [])
grown nodes before ns n others e f t =
    let all : nodes ++ n ∷ [] ≡ before ++ (ns ++ n ∷ []) = ap (λ l. l ++ n ∷ []) e ∙ append_assoc before ns (n ∷ []) in
    let place : length nodes ≡ top (length before) (ns ++ n ∷ []) = omega (arith, ap length e, length-append before ns, length_push ns n) in
    rw (all, place) (more before (ns ++ n ∷ []) others f t)

with_leaf : (nodes : List Node) (n : Node) (others : List ℕ) → children n ≡ [] → IsForest nodes (others ++ [])
    → IsForest (nodes ++ n ∷ []) (others ++ length nodes ∷ [])
with_leaf nodes n others e f = grown nodes nodes [] n others (sym (append-nil nodes)) (subst (IsForest nodes) (append-nil others) f) (leaf n e)

with_one : (nodes : List Node) (n : Node) (others : List ℕ) (p : ℕ) → children n ≡ p ∷ [] → IsForest nodes (others ++ p ∷ [])
    → IsForest (nodes ++ n ∷ []) (others ++ length nodes ∷ [])
with_one nodes n others p e f =
    let last = last_tree nodes (others ++ p ∷ []) others p f refl in
    grown nodes last.before last.ns n others last.nodes_are last.forest (one n last.tree (e ∙ ap (λ q. q ∷ []) last.place))

with_two : (nodes : List Node) (n : Node) (others : List ℕ) (p q : ℕ) → children n ≡ p ∷ q ∷ []
    → IsForest nodes (others ++ p ∷ q ∷ []) → IsForest (nodes ++ n ∷ []) (others ++ length nodes ∷ [])
with_two nodes n others p q e f =
    let right = last_tree nodes (others ++ p ∷ q ∷ []) (others ++ p ∷ []) q f (sym (append_assoc others (p ∷ []) (q ∷ []))) in
    let left = last_tree right.before (others ++ p ∷ []) others p right.forest refl in
    let begin : length right.before ≡ length left.before + length left.ns = ap length left.nodes_are ∙ length-append left.before left.ns in
    let all : nodes ≡ left.before ++ (left.ns ++ right.ns) =
    right.nodes_are ∙ ap (λ l. l ++ right.ns) left.nodes_are ∙ append_assoc left.before left.ns right.ns in
    grown nodes left.before (left.ns ++ right.ns) n others all left.forest
    (two n left.tree (subst (λ k. IsTreeFrom k right.ns) begin right.tree)
    (e ∙ ap (λ x. x ∷ q ∷ []) left.place ∙ ap (λ y. top (length left.before) left.ns ∷ y ∷ []) (right.place ∙ ap (λ k. top k right.ns) begin)))

-- a node joins the trees of its operands
with_node : (nodes : List Node) (n : Node) (others : List ℕ) → IsForest nodes (others ++ children n) → IsForest (nodes ++ n ∷ []) (others ++ length nodes ∷ [])
with_node nodes (Const b) others f = with_leaf nodes (Const b) others refl f
with_node nodes (Leaf a) others f = with_leaf nodes (Leaf a) others refl f
with_node nodes (Not p) others f = with_one nodes (Not p) others p refl f
with_node nodes (And p q) others f = with_two nodes (And p q) others p q refl f
with_node nodes (Or p q) others f = with_two nodes (Or p q) others p q refl f
with_node nodes (Implies p q) others f = with_two nodes (Implies p q) others p q refl f
with_node nodes (Until p q a b) others f = with_two nodes (Until p q a b) others p q refl f
with_node nodes (Eventually p a b a_in b_in) others f = with_one nodes (Eventually p a b a_in b_in) others p refl f
with_node nodes (Always p a b a_in b_in) others f = with_one nodes (Always p a b a_in b_in) others p refl f
with_node nodes (Since p q a b) others f = with_two nodes (Since p q a b) others p q refl f
with_node nodes (Once p a b a_in b_in) others f = with_one nodes (Once p a b a_in b_in) others p refl f
with_node nodes (Historically p a b a_in b_in) others f = with_one nodes (Historically p a b a_in b_in) others p refl f

forest_of : (nodes : List Node) (m : ℕ) → IsPostOrder nodes → m ≤ length nodes → IsForest (take m nodes) (unused (take m nodes))
unfolding unused
forest_of nodes zero h l = none
forest_of nodes (suc m) h l =
    let n : Node = slice_index_or nodes m (Const false) in
    let inside : m < length nodes = omega (arith, l) in
    let up : suc m ≡ m + 1 = omega arith in
    let longer : take (suc m) nodes ≡ take m nodes ++ n ∷ [] = ap (λ k. take k nodes) up ∙ take_more nodes m (Const false) inside in
    let last : MayFollow (take m nodes) n = h.follows m n (slice_get_at nodes m (Const false) inside) in
    let now : unused (take m nodes ++ n ∷ []) ≡ last.others ++ length (take m nodes) ∷ [] =
    unused_push (take m nodes) n last.others (post_order_take nodes m h) last.last in
    let before : IsForest (take m nodes) (last.others ++ children n) = subst (IsForest (take m nodes)) last.last (forest_of nodes m h (omega (arith, l))) in
    rw (longer, now) (with_node (take m nodes) n last.others before)

-- nodes in post-order with one root are one tree
pub one_tree : (nodes : List Node) → IsPostOrder nodes → HasOneRoot nodes → IsTreeFrom 0 nodes
one_tree nodes h root =
    let all : IsForest nodes (unused nodes) =
    subst (λ l. IsForest l (unused l)) (take_all (length nodes) nodes (omega arith)) (forest_of nodes (length nodes) h (omega arith)) in
    let last = last_tree nodes (unused nodes) [] (length nodes - 1) all root in
    let first : last.before ≡ [] = no_tree last.before [] last.forest refl in
    let whole : nodes ≡ last.ns = last.nodes_are ∙ ap (λ b. b ++ last.ns) first in
    rw whole (subst (λ k. IsTreeFrom k last.ns) (ap length first) last.tree)
