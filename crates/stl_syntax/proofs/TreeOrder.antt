-- A tree's nodes are in post-order, and its root alone is no child.
use Rattle.std.proofs.Common.{◌≡◌, ℕ, ◌+◌, ◌-◌, List, [], ◌∷◌, ◌++◌, length, refl, sym, ◌∙◌, ap, arith, append_assoc, length-append}
use Rattle.std.proofs.lemmas.List.{append-nil}
use Rattle.stl_syntax.specs.PostOrder.{children, unused, IsPostOrder, top, IsTreeFrom, leaf, one, two}
use Rattle.stl_syntax.specs.WellFormed.{HasOneRoot}
use Rattle.stl_syntax.proofs.PostOrderLemmas.{post_order_push, unused_push}
use Rattle.stl_syntax.specs.declared.node.Node.{Node}

-- nodes in post-order, with these places unused
record Stands (nodes : List Node) (places : List ℕ) : Type 0 where
  order : IsPostOrder nodes
  free : unused nodes ≡ places

pushed : (nodes : List Node) (n : Node) (others places : List ℕ) → Stands nodes places → places ≡ others ++ children n
    → Stands (nodes ++ n ∷ []) (others ++ length nodes ∷ [])
pushed nodes n others places h e =
    let f : unused nodes ≡ others ++ children n = h.free ∙ e in
    record { order = post_order_push nodes n h.order (record { others = others; last = f }); free = unused_push nodes n others h.order f }

tree_stands : (before : List Node) (places : List ℕ) {k : ℕ} {ns : List Node} → Stands before places → k ≡ length before → IsTreeFrom k ns
    → Stands (before ++ ns) (places ++ top k ns ∷ [])
tree_stands before places {k} h g (leaf n e) =
    let x = pushed before n places places h (sym (append-nil places) ∙ ap (λ z. places ++ z) (sym e)) in
    let t : length before ≡ top k (n ∷ []) = omega (arith, g) in
    rw t at x
tree_stands before places {k} h g (one {ns = ns} n t e) =
    let y = tree_stands before places h g t in
    let x = pushed (before ++ ns) n places (places ++ top k ns ∷ []) y (ap (λ z. places ++ z) (sym e)) in
    let s : length (before ++ ns) ≡ top k (ns ++ n ∷ []) = omega (arith, g, length-append before ns, length-append ns (n ∷ [])) in
    rw (append_assoc before ns (n ∷ []), s) at x
tree_stands before places {k} h g (two {ns = ns} {ms} n t u e) =
    let y = tree_stands before places h g t in
    let z = tree_stands (before ++ ns) (places ++ top k ns ∷ []) y (omega (arith, g, length-append before ns)) u in
    let x = pushed (before ++ ns ++ ms) n places (places ++ top k ns ∷ [] ++ top (k + length ns) ms ∷ []) z
    (append_assoc places (top k ns ∷ []) (top (k + length ns) ms ∷ []) ∙ ap (λ z. places ++ z) (sym e)) in
    let s : length (before ++ ns ++ ms) ≡ top k (ns ++ ms ++ n ∷ []) =
    omega (arith, g, length-append (before ++ ns) ms, length-append before ns, length-append (ns ++ ms) (n ∷ []), length-append ns ms) in
    let a : before ++ ns ++ ms ++ n ∷ [] ≡ before ++ (ns ++ ms ++ n ∷ []) = simp append_assoc in
    rw (a, s) at x

nothing_stands : Stands [] []
unfolding unused
nothing_stands = record { order = record { follows = λ i n e. absurd (cc) }; free = refl }

-- the nodes of a tree stand in post-order under one root
pub tree_order : {ns : List Node} → IsTreeFrom 0 ns → IsPostOrder ns
tree_order t = (tree_stands [] [] nothing_stands refl t).order

-- a tree has one root
pub tree_root : {ns : List Node} → IsTreeFrom 0 ns → HasOneRoot ns
tree_root {ns} t = let x = (tree_stands [] [] nothing_stands refl t).free in let e : top 0 ns ≡ length ns - 1 = omega arith in x ∙ ap (λ z. z ∷ []) e
