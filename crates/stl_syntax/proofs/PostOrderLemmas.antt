-- Nodes in post-order: children stand below their parents, and a node takes the place of its children among the unused places.
use Rattle.std.proofs.Common.{◌≡◌, ◌≢◌, ℕ, zero, suc, ◌+◌, ◌<◌, ◌≤◌, List, [], ◌∷◌, ◌++◌, length, take, refl, sym, ◌∙◌}
use Rattle.std.proofs.Common.{ap, arith, Bool, true, false, not, ◌||◌, cond, subst, append_assoc, inl, inr, ◌⊎◌}
use Rattle.std.proofs.lemmas.List.{append-nil, take-append-le, take_at, length_push, take-take, length-take}
use Rattle.std.proofs.lemmas.List.Elements.{filter-append, filter_agree, filter_passes, All-filter, All-nil, All-cons, All-head, All-tail, All-same, All-weaker}
use Rattle.std.proofs.lemmas.List.Folds.{list_any-append, list_any_none}
use Rattle.std.proofs.lemmas.Bool.{ne_eqb, eq-eqb, or_left, or_right, or_from, cases_lt, not-true}
use Rattle.std.specs.List.{list_any, range_with_len}
use Rattle.std.specs.Prelude.{Some, None, slice_get, slice_index_or, filter, ◌==◌, All}
use Rattle.std.proofs.Math.Bool.{or-false}
use Rattle.stl_syntax.specs.Formula.{HasChildrenBelow}
use Rattle.stl_syntax.specs.Cells.{IsChild}
use Rattle.stl_syntax.specs.PostOrder.{children, has_child, is_used, unused, MayFollow, IsPostOrder}
use Rattle.stl_syntax.specs.declared.node.Node.{Node}
use Rattle.stl_syntax.specs.declared.node.Node.TheVariants.{Const, Atom as Leaf, Not, And, Or, Implies, Until, Eventually, Always, Since, Once, Historically}

-- the numbers rise strictly, from a on
abbrev RiseFrom : ℕ → List ℕ → Type 0
RiseFrom a [] = Unit {0}
RiseFrom a (x ∷ xs) = (a ≤ x) × RiseFrom (x + 1) xs

rise_lower : (a b : ℕ) (xs : List ℕ) → b ≤ a → RiseFrom a xs → RiseFrom b xs
rise_lower a b [] h r = tt
rise_lower a b (x ∷ xs) h r = (omega (arith, r.0), r.1)

rise_filter : (p : ℕ → Bool) (a n : ℕ) → RiseFrom a (filter p (range_with_len a n))
rise_filter p a zero = tt
rise_filter p a (suc n) =
    let more : RiseFrom (a + 1) (filter p (range_with_len (a + 1) n)) = rise_filter p (a + 1) n in
    elim (p a) as (λ b. RiseFrom a (cond b (a ∷ filter p (range_with_len (a + 1) n)) (filter p (range_with_len (a + 1) n))))
    [ true ↦ (omega arith, more) | false ↦ rise_lower (a + 1) a (filter p (range_with_len (a + 1) n)) (omega arith) more ]

-- the rising numbers are each at least a
rise_above : (a : ℕ) (xs : List ℕ) → RiseFrom a xs → All (λ x. a ≤ x) xs
rise_above a [] r = All-nil (λ x. a ≤ x)
rise_above a (x ∷ xs) r = All-cons (λ x. a ≤ x) x xs r.0 (rise_above a xs (rise_lower (x + 1) a xs (omega (arith, r.0)) r.1))

rise_rest : (a : ℕ) (xs ys : List ℕ) → RiseFrom a (xs ++ ys) → RiseFrom a ys
rise_rest a [] ys r = r
rise_rest a (x ∷ xs) ys r = rise_lower (x + 1) a ys (omega (arith, r.0)) (rise_rest (x + 1) xs ys r.1)

-- a node without this child
misses : (i : ℕ) (places : List ℕ) → All (λ x. i + 1 ≤ x) places → list_any (λ p. p == i) places ≡ false
misses i places h = list_any_none (λ p. p == i) places (λ k d l. ne_eqb _ i (λ e. absurd (let above = h k d l in omega arith)))

-- what stands before the last of rising numbers is none of them
keep_others : (a : ℕ) (others last : List ℕ) → RiseFrom a (others ++ last) → filter (λ i. not (list_any (λ p. p == i) last)) others ≡ others
keep_others a [] last r = refl
keep_others a (x ∷ others) last r =
    let new : list_any (λ p. p == x) last ≡ false = misses x last (rise_above (x + 1) last (rise_rest (x + 1) others last r.1)) in
    rw (new, keep_others (x + 1) others last r.1)

-- each of the last is one of them
drop_last : (last all : List ℕ) → All (λ i. list_any (λ p. p == i) all ≡ true) last → filter (λ i. not (list_any (λ p. p == i) all)) last ≡ []
drop_last [] all h = refl
drop_last (x ∷ last) all h =
    let P : ℕ → Type 0 = λ i. list_any (λ p. p == i) all ≡ true in
    rw (All-head P x last h, drop_last last all (All-tail P x last h))

all_among : (before last : List ℕ) → All (λ i. list_any (λ p. p == i) (before ++ last) ≡ true) last
all_among before [] = All-nil (λ i. list_any (λ p. p == i) (before ++ []) ≡ true)
all_among before (x ∷ last) =
    let P : ℕ → Type 0 = λ i. list_any (λ p. p == i) (before ++ x ∷ last) ≡ true in
    let more : All (λ i. list_any (λ p. p == i) ((before ++ x ∷ []) ++ last) ≡ true) last = all_among (before ++ x ∷ []) last in
    let step : (before ++ x ∷ []) ++ last ≡ before ++ x ∷ last = append_assoc before (x ∷ []) last in
    All-cons P x last
    (rw (list_any-append (λ p. p == x) before (x ∷ last)) (or_right _ _ (or_left _ _ (eq-eqb x x refl))))
    (let Q : List ℕ → Type 0 = λ all. All (λ i. list_any (λ p. p == i) all ≡ true) last in subst Q step more)

filter_without : (a : ℕ) (others last : List ℕ) → RiseFrom a (others ++ last) → filter (λ i. not (list_any (λ p. p == i) last)) (others ++ last) ≡ others
filter_without a others last r =
    rw (filter-append, keep_others a others last r, drop_last last last (all_among [] last)) (append-nil others)

filter_filter : (p q : ℕ → Bool) (xs : List ℕ) → filter (λ i. not (p i || q i)) xs ≡ filter (λ i. not (q i)) (filter (λ i. not (p i)) xs)
filter_filter p q [] = refl
filter_filter p q (x ∷ xs) =
    let more : filter (λ i. not (p i || q i)) xs ≡ filter (λ i. not (q i)) (filter (λ i. not (p i)) xs) = filter_filter p q xs in
    elim (p x) as (λ b. cond (not (b || q x)) (x ∷ filter (λ i. not (p i || q i)) xs) (filter (λ i. not (p i || q i)) xs)
    ≡ filter (λ i. not (q i)) (cond (not b) (x ∷ filter (λ i. not (p i)) xs) (filter (λ i. not (p i)) xs)))
    [ true ↦ more | false ↦ rw more ]

range_more : (a n : ℕ) → range_with_len a (n + 1) ≡ range_with_len a n ++ (a + n) ∷ []
range_more a zero = let e : a ≡ a + 0 = omega arith in rw (← e)
range_more a (suc n) =
    let e : (a + 1) + n ≡ a + suc n = omega arith in
    let f : suc n + 1 ≡ suc (n + 1) = omega arith in
    rw (f) (ap (λ l. a ∷ l) (range_more (a + 1) n ∙ rw e))

range_below : (a n : ℕ) → All (λ i. i < a + n) (range_with_len a n)
range_below a zero = All-nil (λ i. i < a + 0)
range_below a (suc n) =
    let e : (a + 1) + n ≡ a + suc n = omega arith in
    let more : All (λ i. i < (a + 1) + n) (range_with_len (a + 1) n) = range_below (a + 1) n in
    All-cons (λ i. i < a + suc n) a (range_with_len (a + 1) n) (omega arith)
    (let Q : ℕ → Type 0 = λ top. All (λ i. i < top) (range_with_len (a + 1) n) in subst Q e more)

All-append_right : (P : ℕ → Type 0) (xs ys : List ℕ) → All P (xs ++ ys) → All P ys
All-append_right P [] ys h = h
All-append_right P (x ∷ xs) ys h = All-append_right P xs ys (All-tail P x (xs ++ ys) h)

-- unused places are places
pub unused_below : (nodes : List Node) → All (λ i. i < length nodes) (unused nodes)
unfolding unused
unused_below nodes =
    let e : 0 + length nodes ≡ length nodes = omega arith in
    let Q : ℕ → Type 0 = λ top. All (λ i. i < top) (range_with_len 0 (length nodes)) in
    All-filter (λ i. not (is_used nodes i)) (λ i. i < length nodes) (range_with_len 0 (length nodes)) (subst Q e (range_below 0 (length nodes)))

-- an unused place is no child
pub unused_free : (nodes : List Node) → All (λ i. is_used nodes i ≡ false) (unused nodes)
unfolding unused
unused_free nodes =
    All-weaker (λ i. not (is_used nodes i) ≡ true) (λ i. is_used nodes i ≡ false) (λ i e. not-true (is_used nodes i) e) _
    (filter_passes (λ i. not (is_used nodes i)) (range_with_len 0 (length nodes)))

-- the children of a node that may follow are no children of those before it
pub children_free : (before : List Node) (n : Node) → MayFollow before n → All (λ p. is_used before p ≡ false) (children n)
children_free before n h =
    let P : ℕ → Type 0 = λ p. is_used before p ≡ false in
    All-append_right P h.others (children n) (All-same P (h.others ++ children n) (unused before) (sym h.last) (unused_free before))

one : (i p : ℕ) → All (λ x. x < i) (p ∷ []) → p < i
one i p h = All-head (λ x. x < i) p [] h

two : (i p q : ℕ) → All (λ x. x < i) (p ∷ q ∷ []) → (p < i) × (q < i)
two i p q h = (All-head (λ x. x < i) p (q ∷ []) h, one i q (All-tail (λ x. x < i) p (q ∷ []) h))

placed_of_all : (i : ℕ) (n : Node) → All (λ p. p < i) (children n) → HasChildrenBelow i n
placed_of_all i (Const b) h = tt
placed_of_all i (Leaf a) h = tt
placed_of_all i (Not p) h = one i p h
placed_of_all i (And p q) h = two i p q h
placed_of_all i (Or p q) h = two i p q h
placed_of_all i (Implies p q) h = two i p q h
placed_of_all i (Until p q a b) h = two i p q h
placed_of_all i (Eventually p a b a_in b_in) h = one i p h
placed_of_all i (Always p a b a_in b_in) h = one i p h
placed_of_all i (Since p q a b) h = two i p q h
placed_of_all i (Once p a b a_in b_in) h = one i p h
placed_of_all i (Historically p a b a_in b_in) h = one i p h

-- the children of a node that may follow stand before it
pub children_below : (before : List Node) (n : Node) → MayFollow before n → All (λ p. p < length before) (children n)
children_below before n h =
    let P : ℕ → Type 0 = λ p. p < length before in
    All-append_right P h.others (children n) (All-same P (h.others ++ children n) (unused before) (sym h.last) (unused_below before))

-- the children of each node stand before it
pub placed : (nodes : List Node) (i : ℕ) (n : Node) → IsPostOrder nodes → slice_get nodes i ≡ Some n → HasChildrenBelow i n
placed nodes i n h e =
    placed_of_all i n
    (All-weaker (λ p. p < length (take i nodes)) (λ p. p < i) (λ p l. omega (arith, length-take i nodes)) (children n)
    (children_below (take i nodes) n (h.follows i n e)))

-- a child stands before its parent
pub child_below : (i p : ℕ) (n : Node) → HasChildrenBelow i n → IsChild n p → p < i
child_below i p (Const b) h c = absurd c
child_below i p (Leaf a) h c = absurd c
child_below i p (And q r) h c = elim c [ inl d ↦ subst (λ x. x < i) d h.0 | inr d ↦ subst (λ x. x < i) d h.1 ]
child_below i p (Or q r) h c = elim c [ inl d ↦ subst (λ x. x < i) d h.0 | inr d ↦ subst (λ x. x < i) d h.1 ]
child_below i p (Implies q r) h c = elim c [ inl d ↦ subst (λ x. x < i) d h.0 | inr d ↦ subst (λ x. x < i) d h.1 ]
child_below i p (Until q r a b) h c = elim c [ inl d ↦ subst (λ x. x < i) d h.0 | inr d ↦ subst (λ x. x < i) d h.1 ]
child_below i p (Since q r a b) h c = elim c [ inl d ↦ subst (λ x. x < i) d h.0 | inr d ↦ subst (λ x. x < i) d h.1 ]
child_below i p _ h c = subst (λ x. x < i) c h

-- two children of a node are two nodes
pub inputs_apart : (nodes : List Node) (i : ℕ) (n : Node) (p q : ℕ) → IsPostOrder nodes → slice_get nodes i ≡ Some n
    → children n ≡ p ∷ q ∷ [] → p ≢ q
unfolding unused
inputs_apart nodes i n p q order at two same =
    let follow = order.follows i n at in
    by_list follow.others (follow.last ∙ ap (λ l. follow.others ++ l) two)
  where
    last_two : (a : ℕ) (others : List ℕ) → RiseFrom a (others ++ p ∷ q ∷ []) → p < q
    last_two a [] r = let l = r.1.0 in omega (arith, l)
    last_two a (x ∷ others) r = last_two (x + 1) others r.1

    by_list : (others : List ℕ) → unused (take i nodes) ≡ others ++ p ∷ q ∷ [] → ⊥
    by_list others e =
        let l = last_two 0 others (subst (RiseFrom 0) e (rise_filter (λ k. not (is_used (take i nodes) k)) 0 (length (take i nodes)))) in
        omega (arith, l, same)

-- what stands before place i of a longer list
taken : (nodes : List Node) (n : Node) (i : ℕ) → i ≤ length nodes → take i (nodes ++ n ∷ []) ≡ take i nodes
taken nodes n i l = take-append-le i nodes (n ∷ []) l

get_before : (nodes : List Node) (m n : Node) (i : ℕ) → i < length nodes → slice_get (nodes ++ m ∷ []) i ≡ Some n → slice_get nodes i ≡ Some n
get_before [] m n i l e = absurd (omega (arith, l))
get_before (x ∷ nodes) m n zero l e = e
get_before (x ∷ nodes) m n (suc i) l e = get_before nodes m n i (omega (arith, l)) e

get_last : (nodes : List Node) (m n : Node) (i : ℕ) → length nodes ≤ i → slice_get (nodes ++ m ∷ []) i ≡ Some n → (i ≡ length nodes) × (m ≡ n)
get_last [] m n zero l e = (refl, cc)
get_last [] m n (suc i) l e = absurd (let x : None ≡ Some n = e in cc)
get_last (x ∷ nodes) m n zero l e = absurd (omega (arith, l))
get_last (x ∷ nodes) m n (suc i) l e = let rest : (i ≡ length nodes) × (m ≡ n) = get_last nodes m n i (omega (arith, l)) e in (omega (arith, rest.0), rest.1)

-- a node that may follow keeps the post-order
pub post_order_push : (nodes : List Node) (m : Node) → IsPostOrder nodes → MayFollow nodes m → IsPostOrder (nodes ++ m ∷ [])
post_order_push nodes m h last = record { follows = λ i n e. at i n e (cases_lt i (length nodes)) }
  where
    at : (i : ℕ) (n : Node) → slice_get (nodes ++ m ∷ []) i ≡ Some n → (i < length nodes) ⊎ (length nodes ≤ i) → MayFollow (take i (nodes ++ m ∷ [])) n
    at i n e (inl l) = rw (taken nodes m i (omega (arith, l))) (h.follows i n (get_before nodes m n i l e))
    at i n e (inr l) =
        let found : (i ≡ length nodes) × (m ≡ n) = get_last nodes m n i l e in
        let whole : take i (nodes ++ m ∷ []) ≡ nodes = take_at nodes (m ∷ []) i (sym found.0) in
        rw (whole, ← found.1) last

get_taken : (nodes : List Node) (m i : ℕ) (n : Node) → i < m → slice_get (take m nodes) i ≡ Some n → slice_get nodes i ≡ Some n
get_taken nodes zero i n l e = absurd (omega (arith, l))
get_taken [] (suc m) i n l e = e
get_taken (x ∷ nodes) (suc m) zero n l e = e
get_taken (x ∷ nodes) (suc m) (suc i) n l e = get_taken nodes m i n (omega (arith, l)) e

past : (nodes : List Node) (m i : ℕ) (n : Node) → m ≤ i → slice_get (take m nodes) i ≡ Some n → ⊥
past nodes zero zero n l e = let x : None ≡ Some n = e in cc
past nodes zero (suc i) n l e = let x : None ≡ Some n = e in cc
past [] (suc m) zero n l e = let x : None ≡ Some n = e in cc
past [] (suc m) (suc i) n l e = let x : None ≡ Some n = e in cc
past (x ∷ nodes) (suc m) zero n l e = omega (arith, l)
past (x ∷ nodes) (suc m) (suc i) n l e = past nodes m i n (omega (arith, l)) e

-- so do the first nodes
pub post_order_take : (nodes : List Node) (m : ℕ) → IsPostOrder nodes → IsPostOrder (take m nodes)
post_order_take nodes m h = record { follows = λ i n e. at i n e (cases_lt i m) }
  where
    at : (i : ℕ) (n : Node) → slice_get (take m nodes) i ≡ Some n → (i < m) ⊎ (m ≤ i) → MayFollow (take i (take m nodes)) n
    at i n e (inl l) = rw (take-take i m nodes (omega (arith, l))) (h.follows i n (get_taken nodes m i n l e))
    at i n e (inr l) = absurd (past nodes m i n l e)

-- the node at a place
pub slice_get_at : (nodes : List Node) (k : ℕ) (d : Node) → k < length nodes → slice_get nodes k ≡ Some (slice_index_or nodes k d)
slice_get_at [] k d l = absurd (omega (arith, l))
slice_get_at (x ∷ nodes) zero d l = refl
slice_get_at (x ∷ nodes) (suc k) d l = slice_get_at nodes k d (omega (arith, l))

-- a place above all children is none
no_child : (i j : ℕ) (n : Node) → All (λ p. p < i) (children n) → i ≤ j → has_child j n ≡ false
no_child i j n h l = list_any_none (λ p. p == j) (children n) (λ k d below. ne_eqb _ j (λ e. absurd (let less = h k d below in omega arith)))

-- the node that comes next has no parent yet
pub next_unused : (nodes : List Node) (m : Node) → IsPostOrder nodes → MayFollow nodes m → is_used (nodes ++ m ∷ []) (length nodes) ≡ false
next_unused nodes m h last =
    rw (list_any-append (has_child (length nodes)) nodes (m ∷ []))
    (or_from _ _
    (list_any_none (has_child (length nodes)) nodes (λ k d l. no_child k (length nodes) _ (placed_all k d l) (omega (arith, l))))
    (or_from _ _ (no_child (length nodes) (length nodes) m (children_below nodes m last) (omega arith)) refl))
  where
    placed_all : (k : ℕ) (d : Node) → k < length nodes → All (λ p. p < k) (children (slice_index_or nodes k d))
    placed_all k d l =
        let n : Node = slice_index_or nodes k d in
        let e : slice_get nodes k ≡ Some n = slice_get_at nodes k d l in
        All-weaker (λ p. p < length (take k nodes)) (λ p. p < k) (λ p l. omega (arith, length-take k nodes)) (children n)
        (children_below (take k nodes) n (h.follows k n e))

-- a node takes the place of its children among the unused places
pub unused_push : (nodes : List Node) (m : Node) (others : List ℕ) → IsPostOrder nodes → unused nodes ≡ others ++ children m
    → unused (nodes ++ m ∷ []) ≡ others ++ length nodes ∷ []
unfolding unused
unused_push nodes m others h last =
    let free : ℕ → Bool = λ i. not (is_used nodes i) in
    let free_too : ℕ → Bool = λ i. not (is_used (nodes ++ m ∷ []) i) in
    let longer : length (nodes ++ m ∷ []) ≡ length nodes + 1 = length_push nodes m in
    let top : 0 + length nodes ≡ length nodes = omega arith in
    let more : range_with_len 0 (length (nodes ++ m ∷ [])) ≡ range_with_len 0 (length nodes) ++ length nodes ∷ [] =
    rw longer (range_more 0 (length nodes) ∙ rw top) in
    let same : (i : ℕ) → free_too i ≡ not (is_used nodes i || list_any (λ p. p == i) (children m)) =
    λ i. ap not (list_any-append (has_child i) nodes (m ∷ []) ∙ ap (λ b. is_used nodes i || b) (or-false (list_any (λ p. p == i) (children m)))) in
    let before : filter free_too (range_with_len 0 (length nodes)) ≡ others =
    filter_agree free_too _ same (range_with_len 0 (length nodes))
    ∙ filter_filter (is_used nodes) (λ i. list_any (λ p. p == i) (children m)) (range_with_len 0 (length nodes))
    ∙ ap (filter (λ i. not (list_any (λ p. p == i) (children m)))) last
    ∙ filter_without 0 others (children m) (let R : List ℕ → Type 0 = RiseFrom 0 in subst R last (rise_filter free 0 (length nodes))) in
    let here : free_too (length nodes) ≡ true = ap not (next_unused nodes m h (record { others = others; last = last })) in
    ap (filter free_too) more ∙ filter-append free_too (range_with_len 0 (length nodes)) (length nodes ∷ []) ∙ rw (before, here)
