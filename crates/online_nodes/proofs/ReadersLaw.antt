-- Each node of a formula but the root is the input of one other node, and the root is the input of none.
use Rattle.std.proofs.Common.{◌≡◌, ◌⊎◌, inl, inr, refl, sym, ap, subst, ◌∙◌, ℕ, zero, suc, ◌+◌, ◌-◌, ◌<◌}
use Rattle.std.proofs.Common.{◌≤◌, Bool, true, false, not, Some, List, [], ◌∷◌, length, take, arith}
use Rattle.std.specs.Prelude.{◌≢◌, cond, ◌==◌, ◌||◌, slice_get, slice_index_or, All}
use Rattle.std.specs.List.{list_any, filter, range_with_len}
use Rattle.std.proofs.lemmas.Bool.{cases_order}
use Rattle.std.proofs.lemmas.List.{get_or-take, length-take-le}
use Rattle.std.proofs.lemmas.List.Folds.{list_any_at, Any-from_list_any}
use Rattle.std.proofs.lemmas.List.Elements.{All-head, All-tail}
use Rattle.std.proofs.lemmas.Option.{slice_get_within, get_or_from_slice_get}
use Rattle.stl_syntax.specs.PostOrder.{has_child, is_used, unused, IsPostOrder}
use Rattle.stl_syntax.specs.WellFormed.{HasOneRoot}
use Rattle.stl_syntax.specs.declared.node.Node.{Node}
use Rattle.stl_syntax.specs.declared.node.Node.TheVariants.{Const, Atom as Leaf, Not, And, Or, Implies, Until, Eventually}
use Rattle.stl_syntax.specs.declared.node.Node.TheVariants.{Always, Since, Once, Historically}
use Rattle.stl_syntax.proofs.PostOrderLemmas.{children_free, unused_free, slice_get_at}
use Rattle.online_nodes.specs.Needed.{IsReader}
use Rattle.online_nodes.proofs.ReaderLemmas.{child_all, reader_has}

-- a node reads what it has as a child
child_reads : (n : Node) (j : ℕ) → has_child j n ≡ true → (left : Bool) × IsReader n left j
child_reads n j e = by_node n e
  where
    is_it : (p : ℕ) (rest : Bool) → ((p == j) || rest) ≡ true → (p ≡ j) ⊎ (rest ≡ true)
    is_it p rest x = by_test (p == j) refl
      where
        by_test : (t : Bool) → (p == j) ≡ t → (p ≡ j) ⊎ (rest ≡ true)
        by_test true y = inl (grind (arith, y))
        by_test false y = inr (subst (λ t. (t || rest) ≡ true) y x)

    one : (p : ℕ) → list_any (λ x. x == j) (p ∷ []) ≡ true → p ≡ j
    one p x = elim (is_it p false x) [ inl y ↦ y | inr y ↦ absurd (let z : false ≡ true = y in cc) ]

    two : (p q : ℕ) → list_any (λ x. x == j) (p ∷ q ∷ []) ≡ true → (p ≡ j) ⊎ (q ≡ j)
    two p q x = elim (is_it p (list_any (λ x. x == j) (q ∷ [])) x) [ inl y ↦ inl y | inr y ↦ inr (one q y) ]

    sides : {A B : Type 0} {C : Bool → Type 0} → (A → C true) → (B → C false) → A ⊎ B → (left : Bool) × C left
    sides f g (inl a) = (true, f a)
    sides f g (inr b) = (false, g b)

    by_node : (n : Node) → has_child j n ≡ true → (left : Bool) × IsReader n left j
    by_node (Const b) x = absurd (let z : false ≡ true = x in cc)
    by_node (Leaf a) x = absurd (let z : false ≡ true = x in cc)
    by_node (Not p) x = (true, one p x)
    by_node (And p q) x = sides {C = λ l. IsReader (And p q) l j} (λ y. y) (λ y. y) (two p q x)
    by_node (Or p q) x = sides {C = λ l. IsReader (Or p q) l j} (λ y. y) (λ y. y) (two p q x)
    by_node (Implies p q) x = sides {C = λ l. IsReader (Implies p q) l j} (λ y. y) (λ y. y) (two p q x)
    by_node (Until p q a b) x = sides {C = λ l. IsReader (Until p q a b) l j} (λ y. y) (λ y. y) (two p q x)
    by_node (Eventually p a b i k) x = (true, one p x)
    by_node (Always p a b i k) x = (true, one p x)
    by_node (Since p q a b) x = sides {C = λ l. IsReader (Since p q a b) l j} (λ y. y) (λ y. y) (two p q x)
    by_node (Once p a b i k) x = (true, one p x)
    by_node (Historically p a b i k) x = (true, one p x)

-- a node at a place makes what it reads used
used_by : (nodes : List Node) (m : ℕ) (n : Node) (left : Bool) (j : ℕ) → slice_get nodes m ≡ Some n → IsReader n left j → is_used nodes j ≡ true
used_by nodes m n left j at r =
    list_any_at (has_child j) nodes m (Const false) (slice_get_within nodes m n at)
    (ap (has_child j) (get_or_from_slice_get nodes m n (Const false) at) ∙ reader_has n left j r)

-- no two nodes read one node
pub one_reader : {n n' : Node} (nodes : List Node) → IsPostOrder nodes → (m k : ℕ) (left left' : Bool) (j : ℕ) → slice_get nodes m ≡ Some n
    → slice_get nodes k ≡ Some n' → IsReader n left j → IsReader n' left' j → m ≡ k
one_reader {n} {n'} nodes order m k left left' j at at' r r' = by_order (cases_order m k)
  where
    -- the earlier one would make the later one's child used
    apart : (m k : ℕ) (n n' : Node) (left left' : Bool) → m < k → slice_get nodes m ≡ Some n → slice_get nodes k ≡ Some n'
        → IsReader n left j → IsReader n' left' j → ⊥
    apart m k n n' left left' l at at' r r' =
        let inside = slice_get_within nodes k n' at' in
        let within : k ≤ length nodes = omega (arith, inside) in
        let here : has_child j (slice_index_or (take k nodes) m (Const false)) ≡ true =
        ap (has_child j) (get_or-take k nodes m (Const false) l ∙ get_or_from_slice_get nodes m n (Const false) at) ∙ reader_has n left j r in
        let used : is_used (take k nodes) j ≡ true =
        list_any_at (has_child j) (take k nodes) m (Const false) (omega (arith, l, length-take-le k nodes within)) here in
        let free : is_used (take k nodes) j ≡ false =
        child_all (λ p. is_used (take k nodes) p ≡ false) n' left' j r' (children_free (take k nodes) n' (order.follows k n' at')) in
        (let z : true ≡ false = sym used ∙ free in cc)

    by_order : (m ≡ k) ⊎ ((m < k) ⊎ (k < m)) → m ≡ k
    by_order (inl e) = e
    by_order (inr (inl l)) = absurd (apart m k n n' left left' l at at' r r')
    by_order (inr (inr l)) = absurd (apart k m n' n left' left l at' at r' r)

-- no node reads the root
pub root_unread : (nodes : List Node) → HasOneRoot nodes → (m : ℕ) (n : Node) (left : Bool) (j : ℕ) → slice_get nodes m ≡ Some n → IsReader n left j
    → j ≢ length nodes - 1
root_unread nodes root m n left j at r e =
    let free : is_used nodes (length nodes - 1) ≡ false =
    subst (λ l. All (λ i. is_used nodes i ≡ false) l) root (unused_free nodes) 0 0 (omega arith) in
    let used = used_by nodes m n left j at r in
    let same : is_used nodes j ≡ is_used nodes (length nodes - 1) = ap (is_used nodes) e in
    absurd (let z : true ≡ false = sym used ∙ same ∙ free in cc)

-- a place that passes a test is among those of a range that do
among : (p : ℕ → Bool) (j a n : ℕ) → a ≤ j → j < a + n → p j ≡ true → All (λ x. x ≢ j) (filter p (range_with_len a n)) → ⊥
among p j a zero low high free all = absurd (omega (arith, low, high))
among p j a (suc n) low high free all = by_order (cases_order a j) (λ x y h. among p j (a + 1) n x y free h)
  where
    first : a ≡ j → (t : Bool) → t ≡ true → All (λ x. x ≢ j) (cond t (a ∷ filter p (range_with_len (a + 1) n)) (filter p (range_with_len (a + 1) n))) → ⊥
    first x true y h = All-head (λ x. x ≢ j) a (filter p (range_with_len (a + 1) n)) h x
    first x false y h = absurd (let z : false ≡ true = y in cc)

    rest : (t : Bool) → All (λ x. x ≢ j) (cond t (a ∷ filter p (range_with_len (a + 1) n)) (filter p (range_with_len (a + 1) n)))
        → All (λ x. x ≢ j) (filter p (range_with_len (a + 1) n))
    rest true h = All-tail (λ x. x ≢ j) a (filter p (range_with_len (a + 1) n)) h
    rest false h = h

    by_order : (a ≡ j) ⊎ ((a < j) ⊎ (j < a)) → ((a + 1 ≤ j) → (j < a + 1 + n) → All (λ x. x ≢ j) (filter p (range_with_len (a + 1) n)) → ⊥) → ⊥
    by_order (inl x) go = first x (p a) (ap p x ∙ free) all
    by_order (inr (inl x)) go = go (omega (arith, x)) (omega (arith, high)) (rest (p a) all)
    by_order (inr (inr x)) go = absurd (omega (arith, low, x))

-- the node that reads a node
pub record Reader (nodes : List Node) (j : ℕ) : Type 0 where
  -- which node reads it
  pub reader : ℕ
  -- that node
  pub node : Node
  -- on which side
  pub left : Bool
  -- it stands there
  pub at : slice_get nodes reader ≡ Some node
  -- and reads it so
  pub reads : IsReader node left j

-- each node but the root has a reader
pub has_reader : (nodes : List Node) → HasOneRoot nodes → (j : ℕ) → j < length nodes → j ≢ length nodes - 1 → Reader nodes j
unfolding unused
has_reader nodes root j l d = by_used (is_used nodes j) refl
  where
    by_used : (t : Bool) → is_used nodes j ≡ t → Reader nodes j
    by_used true e =
        let any = Any-from_list_any (has_child j) nodes e in
        let r = child_reads any.1 j any.4 in
        record {
          reader = any.0;
          node = any.1;
          left = r.0;
          at = slice_get_at nodes any.0 any.1 any.2 ∙ ap Some any.3;
          reads = r.1;
        }
    by_used false e = absurd (among (λ i. not (is_used nodes i)) j 0 (length nodes) (omega arith) (omega (arith, l)) (ap not e)
        (subst (λ l. All (λ x. x ≢ j) l) (sym root) (λ k d h. by_index k d h)))
      where
        by_index : (k e : ℕ) → k < length ((length nodes - 1) ∷ []) → slice_index_or ((length nodes - 1) ∷ []) k e ≢ j
        by_index zero e h = λ x. d (sym x)
        by_index (suc k) e h = absurd (omega (arith, h))
