-- A formula in smaller ticks: its bounds times A, its constants times B.
use Rattle.std.proofs.Common.{◌≡◌, ℕ, zero, suc, ◌+◌, ◌-◌, ◌*◌, ◌^◌, ◌≤◌, List, [], ◌∷◌, ◌++◌, map, length}
use Rattle.std.proofs.Common.{refl, sym, ap, ◌∙◌, arith, ℤ, pos, negsuc, Option, Some, None, false}
use Rattle.std.specs.Prelude.{neg_ℤ, ◌*ℤ◌, option_map}
use Rattle.std.proofs.Math.Nat.{mul_assoc}
use Rattle.std.proofs.Math.ListN.{get_or-map}
use Rattle.std.proofs.lemmas.List.{length-map, map-append}
use Rattle.std.proofs.lemmas.Nat.{pow-add}
use Rattle.stl_syntax.specs.Formula.{Formula, Subformula, constant, atom, negation, conjunction}
use Rattle.stl_syntax.specs.Formula.{disjunction, implication, until, eventually, always, since, once}
use Rattle.stl_syntax.specs.Formula.{historically, tree_of, tree_at, trees_after, subformula, root}
use Rattle.stl_syntax.specs.Scaling.{scaled_atom, scaled_node, scaled}
use Rattle.stl_syntax.specs.declared.scale.Scale.{Scale}
use Rattle.stl_syntax.specs.declared.node.Node.{Node}
use Rattle.stl_syntax.specs.declared.node.Node.TheVariants.{Const, Atom as Leaf, Not, And, Or, Implies, Until, Eventually, Always, Since, Once, Historically}

-- the tree with its bounds times A, its constants times B
abbrev pub finer_tree : ℕ → ℕ → Subformula → Subformula
finer_tree A B (constant b) = constant b
finer_tree A B (atom i a) = atom i (scaled_atom B a)
finer_tree A B (negation p) = negation (finer_tree A B p)
finer_tree A B (conjunction p q) = conjunction (finer_tree A B p) (finer_tree A B q)
finer_tree A B (disjunction p q) = disjunction (finer_tree A B p) (finer_tree A B q)
finer_tree A B (implication p q) = implication (finer_tree A B p) (finer_tree A B q)
finer_tree A B (until a b p q) = until (A * a) (A * b) (finer_tree A B p) (finer_tree A B q)
finer_tree A B (eventually a b a_in b_in p) = eventually (A * a) (A * b) a_in b_in (finer_tree A B p)
finer_tree A B (always a b a_in b_in p) = always (A * a) (A * b) a_in b_in (finer_tree A B p)
finer_tree A B (since a b p q) = since (A * a) (option_map (λ b. A * b) b) (finer_tree A B p) (finer_tree A B q)
finer_tree A B (once a b a_in b_in p) = once (A * a) (option_map (λ b. A * b) b) a_in b_in (finer_tree A B p)
finer_tree A B (historically a b a_in b_in p) = historically (A * a) (option_map (λ b. A * b) b) a_in b_in (finer_tree A B p)

module _ (A B : ℕ) where
  -- the tree of a node, from finer trees of its children
  tree_by : (at fine : ℕ → Subformula) → ((j : ℕ) → fine j ≡ finer_tree A B (at j)) → (i : ℕ) (n : Node)
      → tree_of fine i (scaled_node A B n) ≡ finer_tree A B (tree_of at i n)
  tree_by at fine h i (Const b) = refl
  tree_by at fine h i (Leaf a) = refl
  tree_by at fine h i (Not p) = rw (h p) refl
  tree_by at fine h i (And p q) = rw (h p, h q) refl
  tree_by at fine h i (Or p q) = rw (h p, h q) refl
  tree_by at fine h i (Implies p q) = rw (h p, h q) refl
  tree_by at fine h i (Until p q a b) = rw (h p, h q) refl
  tree_by at fine h i (Eventually p a b a_in b_in) = rw (h p) refl
  tree_by at fine h i (Always p a b a_in b_in) = rw (h p) refl
  tree_by at fine h i (Since p q a b) = rw (h p, h q) refl
  tree_by at fine h i (Once p a b a_in b_in) = rw (h p) refl
  tree_by at fine h i (Historically p a b a_in b_in) = rw (h p) refl

  trees_by : (trees : List Subformula) (nodes : List Node)
      → trees_after (map (finer_tree A B) trees) (map (scaled_node A B) nodes) ≡ map (finer_tree A B) (trees_after trees nodes)
  trees_by trees [] = refl
  trees_by trees (n ∷ nodes) =
      let F : Subformula → Subformula = finer_tree A B in
      let new : tree_of (tree_at (map F trees)) (length (map F trees)) (scaled_node A B n) ≡ F (tree_of (tree_at trees) (length trees) n) =
      ap (λ k. tree_of (tree_at (map F trees)) k (scaled_node A B n)) (length-map trees F)
      ∙ tree_by (tree_at trees) (tree_at (map F trees)) (λ j. get_or-map F trees j (constant false)) (length trees) n in
      let longer : map F trees ++ tree_of (tree_at (map F trees)) (length (map F trees)) (scaled_node A B n) ∷ []
      ≡ map F (trees ++ tree_of (tree_at trees) (length trees) n ∷ []) =
      ap (λ x. map F trees ++ x ∷ []) new ∙ sym (map-append F trees (tree_of (tree_at trees) (length trees) n ∷ [])) in
      ap (λ ts. trees_after ts (map (scaled_node A B) nodes)) longer ∙ trees_by (trees ++ tree_of (tree_at trees) (length trees) n ∷ []) nodes

  -- the subformulas of scaled nodes
  pub subformula_by : (nodes : List Node) (i : ℕ) → subformula (map (scaled_node A B) nodes) i ≡ finer_tree A B (subformula nodes i)
  unfolding subformula
  subformula_by nodes i =
      ap (λ ts. tree_at ts i) (trees_by [] nodes) ∙ get_or-map (finer_tree A B) (trees_after [] nodes) i (constant false)

  -- the root in smaller ticks is the root's tree in smaller ticks
  pub root_by : (nodes : List Node) → root (map (scaled_node A B) nodes) ≡ finer_tree A B (root nodes)
  root_by nodes =
      ap (λ n. subformula (map (scaled_node A B) nodes) (n - 1)) (length-map nodes (scaled_node A B)) ∙ subformula_by nodes (length nodes - 1)

-- a number below 0 times M
pub minus_times : (M x : ℕ) → pos M *ℤ neg_ℤ (pos x) ≡ neg_ℤ (pos (M * x))
minus_times M zero = let e : M * 0 ≡ 0 = omega arith in rw e refl
minus_times M (suc x) = refl

limit_twice : (M B : ℕ) (z : ℤ) → pos (M * B) *ℤ z ≡ pos M *ℤ (pos B *ℤ z)
limit_twice M B (pos n) = ap pos (mul_assoc M B n)
limit_twice M B (negsuc n) = ap (λ x. neg_ℤ (pos x)) (mul_assoc M B (suc n)) ∙ sym (minus_times M (B * suc n))

bound_twice : (K A : ℕ) (b : Option ℕ) → option_map (λ b. K * A * b) b ≡ option_map (λ b. K * b) (option_map (λ b. A * b) b)
bound_twice K A None = refl
bound_twice K A (Some b) = ap Some (mul_assoc K A b)

-- a node in smaller ticks twice
node_twice : (K M A B : ℕ) (n : Node) → scaled_node (K * A) (M * B) n ≡ scaled_node K M (scaled_node A B n)
node_twice K M A B (Leaf a) = ap (λ z. Leaf (record { terms = a.terms; rel = a.rel; limit = z })) (limit_twice M B a.limit)
node_twice K M A B (Until p q a b) = rw (mul_assoc K A a, mul_assoc K A b) refl
node_twice K M A B (Eventually p a b a_in b_in) = rw (mul_assoc K A a, mul_assoc K A b) refl
node_twice K M A B (Always p a b a_in b_in) = rw (mul_assoc K A a, mul_assoc K A b) refl
node_twice K M A B (Since p q a b) = rw (mul_assoc K A a, bound_twice K A b) refl
node_twice K M A B (Once p a b a_in b_in) = rw (mul_assoc K A a, bound_twice K A b) refl
node_twice K M A B (Historically p a b a_in b_in) = rw (mul_assoc K A a, bound_twice K A b) refl
node_twice K M A B _ = refl

nodes_twice : (K M A B : ℕ) (nodes : List Node) → map (scaled_node (K * A) (M * B)) nodes ≡ map (scaled_node K M) (map (scaled_node A B) nodes)
nodes_twice K M A B [] = refl
nodes_twice K M A B (n ∷ nodes) =
    ap (λ x. x ∷ map (scaled_node (K * A) (M * B)) nodes) (node_twice K M A B n)
    ∙ ap (λ xs. scaled_node K M (scaled_node A B n) ∷ xs) (nodes_twice K M A B nodes)

-- the nodes of a formula in the ticks of a trace, and in smaller ones
pub nodes_finer : (f : Formula) (scale : Scale) (k m : ℕ) → f.scale.time ≤ scale.time → f.scale.value ≤ scale.value
    → (scaled f (record { time = scale.time + k; value = scale.value + m })).nodes ≡ map (scaled_node (10 ^ k) (10 ^ m)) (scaled f scale).nodes
nodes_finer f scale k m t v =
    let A = 10 ^ (scale.time - f.scale.time) in
    let B = 10 ^ (scale.value - f.scale.value) in
    let a : 10 ^ (scale.time + k - f.scale.time) ≡ 10 ^ k * A =
    ap (λ j. 10 ^ j) (let e : scale.time + k - f.scale.time ≡ k + (scale.time - f.scale.time) = omega arith in e) ∙ pow-add 10 k (scale.time - f.scale.time) in
    let b : 10 ^ (scale.value + m - f.scale.value) ≡ 10 ^ m * B =
    ap (λ j. 10 ^ j) (let e : scale.value + m - f.scale.value ≡ m + (scale.value - f.scale.value) = omega arith in e)
    ∙ pow-add 10 m (scale.value - f.scale.value) in
    ap (λ x. map (scaled_node x (10 ^ (scale.value + m - f.scale.value))) f.nodes) a
    ∙ ap (λ x. map (scaled_node (10 ^ k * A) x) f.nodes) b ∙ nodes_twice (10 ^ k) (10 ^ m) A B f.nodes

-- so its root is the tree in smaller ones
pub root_finer : (f : Formula) (scale : Scale) (k m : ℕ) → f.scale.time ≤ scale.time → f.scale.value ≤ scale.value
    → root (scaled f (record { time = scale.time + k; value = scale.value + m })).nodes ≡ finer_tree (10 ^ k) (10 ^ m) (root (scaled f scale).nodes)
root_finer f scale k m t v = ap root (nodes_finer f scale k m t v) ∙ root_by (10 ^ k) (10 ^ m) (scaled f scale).nodes
