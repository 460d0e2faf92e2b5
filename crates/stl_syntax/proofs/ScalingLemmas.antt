-- Scaling a list of nodes in place, and what it keeps.
use Rattle.std.proofs.Common.{◌≡◌, ℕ, zero, suc, ◌+◌, ◌-◌, ◌*◌, ◌<◌, ◌≤◌, true, false, not, List, [], ◌∷◌, ◌++◌, map}
use Rattle.std.proofs.Common.{length, take, drop, set, get_or, pos, refl, sym, ◌∙◌, ap, arith, subst, ◌⊎◌, inl, inr}
use Rattle.std.proofs.Math.Nat.{mul-le-mul_left}
use Rattle.std.proofs.lemmas.Bool.{ltb-true, ltb-false, cases_order, cases_Bool, cond-true}
use Rattle.std.proofs.lemmas.Int.{unsigned_abs-mul}
use Rattle.std.proofs.lemmas.List.{append-nil, append_assoc, take_all, drop_all, drop_more, take_more}
use Rattle.std.proofs.lemmas.List.{take-map, map_push, set_at, get_or_at, length-map, length-take-le}
use Rattle.std.proofs.lemmas.List.Sums.{sum_by-append, fails_before_first}
use Rattle.std.proofs.lemmas.List.Quantifiers.{position-Some}
use Rattle.std.proofs.lemmas.Option.{slice_get_cases, slice_get-map, slice_get_within, get_or_from_slice_get}
use Rattle.std.proofs.lemmas.List.Elements.{All-map, filter_agree}
use Rattle.std.specs.List.{range_with_len, position_or_len}
use Rattle.std.specs.Prelude.{Some, None, slice_get, option_map, nat_abs, nat_lt, All, position}
use Rattle.stl_syntax.specs.Formula.{IsFirst}
use Rattle.stl_syntax.specs.Limits.{HasLargeConstant, own_reach, reach}
use Rattle.stl_syntax.specs.PostOrder.{children, is_used, unused, MayFollow, IsPostOrder}
use Rattle.stl_syntax.specs.Scaling.{scaled_node, has_large_constant}
use Rattle.stl_syntax.specs.WellFormed.{AreWellFormed, IsLeafInLimits, HasBounds, HasOneRoot}
use Rattle.stl_syntax.specs.declared.node.Node.{Node}
use Rattle.stl_syntax.specs.declared.node.Node.TheVariants.{Const, Atom as Leaf, Not, And, Or, Implies, Until, Eventually, Always, Since, Once, Historically}

-- the list with its first i elements replaced
abbrev pub replaced : {X : Type 0} → (X → X) → List X → ℕ → List X
replaced f xs i = map f (take i xs) ++ drop i xs

front : {X : Type 0} (f : X → X) (xs : List X) (i : ℕ) → i < length xs → length (map f (take i xs)) ≡ i
front f xs i l = length-map (take i xs) f ∙ length-take-le i xs (omega (arith, l))

-- the next element is as it was
pub replaced_next : {X : Type 0} (f : X → X) (xs : List X) (i : ℕ) (d : X) → i < length xs → get_or (replaced f xs i) i d ≡ get_or xs i d
replaced_next f xs i d l = rw (drop_more xs i d l) (get_or_at (map f (take i xs)) (get_or xs i d) (drop (i + 1) xs) d i (front f xs i l))

-- one more is replaced
pub replaced_more : {X : Type 0} (f : X → X) (xs : List X) (i : ℕ) (d : X) → i < length xs → set (replaced f xs i) i (f (get_or xs i d)) ≡ replaced f xs (i + 1)
replaced_more f xs i d l =
    rw (drop_more xs i d l, take_more xs i d l, map_push)
    (set_at (map f (take i xs)) (get_or xs i d) (drop (i + 1) xs) (f (get_or xs i d)) i (front f xs i l)
    ∙ sym (append_assoc (map f (take i xs)) (f (get_or xs i d) ∷ []) (drop (i + 1) xs)))

-- all are
pub replaced_all : {X : Type 0} (f : X → X) (xs : List X) (i : ℕ) → length xs ≤ i → replaced f xs i ≡ map f xs
replaced_all f xs i l = rw (take_all i xs l, drop_all i xs l) (append-nil (map f xs))

scaled_children : (k m : ℕ) (n : Node) → children (scaled_node k m n) ≡ children n
scaled_children k m (Const b) = refl
scaled_children k m _ = refl

scaled_used : (k m : ℕ) (nodes : List Node) (i : ℕ) → is_used (map (scaled_node k m) nodes) i ≡ is_used nodes i
scaled_used k m [] i = refl
scaled_used k m (n ∷ nodes) i = rw (scaled_children k m n, scaled_used k m nodes i)

-- scaling leaves the same places unused
pub unused_scaled : (k m : ℕ) (nodes : List Node) → unused (map (scaled_node k m) nodes) ≡ unused nodes
unfolding unused
unused_scaled k m nodes =
    rw (length-map nodes (scaled_node k m))
    (filter_agree (λ i. not (is_used (map (scaled_node k m) nodes) i)) (λ i. not (is_used nodes i))
    (λ i. ap not (scaled_used k m nodes i)) (range_with_len 0 (length nodes)))

-- a node of the scaled list is the scaled node of the list
pub scaled_at : (k m : ℕ) (nodes : List Node) (i : ℕ) (n : Node) → slice_get (map (scaled_node k m) nodes) i ≡ Some n
    → (old : Node) × (slice_get nodes i ≡ Some old) × (n ≡ scaled_node k m old)
scaled_at k m [] i n e = absurd (let x : None ≡ Some n = e in cc)
scaled_at k m (x ∷ nodes) zero n e = (x, refl, let same : n ≡ scaled_node k m x = cc in same)
scaled_at k m (x ∷ nodes) (suc i) n e = scaled_at k m nodes i n e

scaled_post_order : (k m : ℕ) (nodes : List Node) → IsPostOrder nodes → IsPostOrder (map (scaled_node k m) nodes)
scaled_post_order k m nodes h = record { follows = λ i n e. at i n (scaled_at k m nodes i n e) }
  where
    at : (i : ℕ) (n : Node) → (old : Node) × (slice_get nodes i ≡ Some old) × (n ≡ scaled_node k m old) → MayFollow (take i (map (scaled_node k m) nodes)) n
    at i n (old, found, is) =
        let before : MayFollow (take i nodes) old = h.follows i old found in
        record {
          others = before.others;
          last = ap unused (take-map (scaled_node k m) i nodes) ∙ unused_scaled k m (take i nodes) ∙ before.last
              ∙ ap (λ cs. before.others ++ cs) (sym (scaled_children k m old) ∙ ap children (sym is));
        }

scaled_own_reach : (k m : ℕ) (n : Node) → own_reach (scaled_node k m n) ≡ k * own_reach n
scaled_own_reach k m (Const b) = omega arith
scaled_own_reach k m (Leaf a) = omega arith
scaled_own_reach k m (Not p) = omega arith
scaled_own_reach k m (And p q) = omega arith
scaled_own_reach k m (Or p q) = omega arith
scaled_own_reach k m (Implies p q) = omega arith
scaled_own_reach k m (Since p q a None) = refl
scaled_own_reach k m (Once p a None a_in b_in) = refl
scaled_own_reach k m (Historically p a None a_in b_in) = refl
scaled_own_reach k m _ = refl

-- the reach is counted in the new ticks
pub scaled_reach : (k m : ℕ) (nodes : List Node) → reach (map (scaled_node k m) nodes) ≡ k * reach nodes
scaled_reach k m [] = omega arith
scaled_reach k m (n ∷ nodes) =
    let old : reach (n ∷ nodes) ≡ reach (n ∷ []) + reach nodes = sum_by-append own_reach (n ∷ []) nodes in
    let new : reach (map (scaled_node k m) (n ∷ nodes)) ≡ reach (scaled_node k m n ∷ []) + reach (map (scaled_node k m) nodes) =
    sum_by-append own_reach (scaled_node k m n ∷ []) (map (scaled_node k m) nodes) in
    let here : reach (scaled_node k m n ∷ []) ≡ k * reach (n ∷ []) = omega (arith, scaled_own_reach k m n) in
    new ∙ rw (old) (omega (arith, here, scaled_reach k m nodes))

scaled_bounds : (k m : ℕ) (n : Node) → HasBounds n → HasBounds (scaled_node k m n)
scaled_bounds k m (Until p q a b) h = mul-le-mul_left k h
scaled_bounds k m (Eventually p a b a_in b_in) h = mul-le-mul_left k h
scaled_bounds k m (Always p a b a_in b_in) h = mul-le-mul_left k h
scaled_bounds k m (Since p q a (Some b)) h = mul-le-mul_left k h
scaled_bounds k m (Once p a None a_in b_in) h = h
scaled_bounds k m (Once p a (Some b) a_in b_in) h = (mul-le-mul_left k h.0, tt)
scaled_bounds k m (Historically p a None a_in b_in) h = h
scaled_bounds k m (Historically p a (Some b) a_in b_in) h = (mul-le-mul_left k h.0, tt)
scaled_bounds k m _ h = tt

scaled_leaf : (k m : ℕ) (n : Node) → has_large_constant m n ≡ false → IsLeafInLimits n → IsLeafInLimits (scaled_node k m n)
scaled_leaf k m (Leaf a) small h = record {
  some = h.some;
  few = h.few;
  terms = h.terms;
  limit = omega (arith, unsigned_abs-mul (pos m) a.limit, ltb-false 1073741824 (nat_abs a.limit * m) small);
}
scaled_leaf k m _ small h = tt

-- where no number passes its limit, scaled nodes are well-formed
pub scaled_well_formed : (k m : ℕ) (nodes : List Node) → AreWellFormed nodes → All (λ n. has_large_constant m n ≡ false) nodes → k * reach nodes ≤ 4294967295
    → AreWellFormed (map (scaled_node k m) nodes)
scaled_well_formed k m nodes h small within = record {
  few = omega (arith, length-map nodes (scaled_node k m), h.few);
  post_order = scaled_post_order k m nodes h.post_order;
  atoms = All-map IsLeafInLimits (scaled_node k m) nodes (λ i d l. scaled_leaf k m (get_or nodes i d) (small i d l) (h.atoms i d l));
  bounds = All-map HasBounds (scaled_node k m) nodes (λ i d l. scaled_bounds k m (get_or nodes i d) (h.bounds i d l));
  reach = omega (arith, scaled_reach k m nodes);
}

-- scaling leaves one root
pub scaled_root : (k m : ℕ) (nodes : List Node) → HasOneRoot nodes → HasOneRoot (map (scaled_node k m) nodes)
scaled_root k m nodes h = unused_scaled k m nodes ∙ h ∙ ap (λ n. (n - 1) ∷ []) (sym (length-map nodes (scaled_node k m)))

-- the constant passes its limit in the new ticks
large_at : (k m : ℕ) (n : Node) → has_large_constant m n ≡ true → HasLargeConstant (scaled_node k m n)
large_at k m (Leaf a) h = omega (arith, unsigned_abs-mul (pos m) a.limit, ltb-true 1073741824 (nat_abs a.limit * m) h)
large_at k m _ h = let x : false ≡ true = h in cc

small_at : (k m : ℕ) (n : Node) → has_large_constant m n ≡ false → HasLargeConstant (scaled_node k m n) → ⊥
small_at k m (Leaf a) h large = omega (arith, unsigned_abs-mul (pos m) a.limit, ltb-false 1073741824 (nat_abs a.limit * m) h)
small_at k m _ h large = large

-- the first large constant, as a test finds it
pub first_large : (k m i : ℕ) (nodes : List Node) → position (has_large_constant m) nodes ≡ Some i → IsFirst HasLargeConstant (map (scaled_node k m) nodes) i
first_large k m i nodes e = from (slice_get_cases nodes i).1
  where
    found : (d : Node) → (i < length nodes) × (has_large_constant m (get_or nodes i d) ≡ true)
        × ((j : ℕ) → j < i → has_large_constant m (get_or nodes j d) ≡ false)
    found d = position-Some (has_large_constant m) nodes i d e

    before : (d : Node) (j : ℕ) (n : Node) → j < i → slice_get (map (scaled_node k m) nodes) j ≡ Some n → HasLargeConstant n → ⊥
    before d j n l at large =
        let old = scaled_at k m nodes j n at in
        let same : get_or nodes j d ≡ old.0 = get_or_from_slice_get nodes j old.0 d old.1 in
        small_at k m old.0 (ap (has_large_constant m) (sym same) ∙ (found d).2 j l) (subst HasLargeConstant old.2 large)

    from : ((n : Node) × (i < length nodes) × (slice_get nodes i ≡ Some n) × (get_or nodes i n ≡ n))
        ⊎ ((length nodes ≤ i) × (slice_get nodes i ≡ None)) → IsFirst HasLargeConstant (map (scaled_node k m) nodes) i
    from (inl (n, l, at, here)) = record {
      node = scaled_node k m n;
      at = slice_get-map (scaled_node k m) nodes i ∙ ap (option_map (scaled_node k m)) at;
      is = large_at k m n (ap (has_large_constant m) (sym here) ∙ (found n).1);
      none_before = before n;
    }
    from (inr (l, at)) = absurd (let inside = (found (Const false)).0 in omega (arith, inside))

-- none is large, as a test finds it
pub none_large : (m : ℕ) (nodes : List Node) → position (has_large_constant m) nodes ≡ None → All (λ n. has_large_constant m n ≡ false) nodes
none_large m nodes e i d l = fails_before_first (has_large_constant m) nodes i d
    (by_test (cases_Bool (nat_lt (position_or_len (has_large_constant m) nodes) (length nodes))))
  where
    by_test : (nat_lt (position_or_len (has_large_constant m) nodes) (length nodes) ≡ true)
        ⊎ (nat_lt (position_or_len (has_large_constant m) nodes) (length nodes) ≡ false) → i < position_or_len (has_large_constant m) nodes
    by_test (inl t) = absurd (let x : Some (position_or_len (has_large_constant m) nodes) ≡ None = sym (cond-true _ _ _ t) ∙ e in cc)
    by_test (inr f) = let past = ltb-false (position_or_len (has_large_constant m) nodes) (length nodes) f in omega (arith, past, l)

-- where no constant is too large there is no first one
pub no_first_large : (k m : ℕ) (nodes : List Node) → All (λ n. has_large_constant m n ≡ false) nodes → (i : ℕ)
    → IsFirst HasLargeConstant (map (scaled_node k m) nodes) i → ⊥
no_first_large k m nodes h i first =
    let old = scaled_at k m nodes i first.node first.at in
    let inside : i < length nodes = slice_get_within nodes i old.0 old.1 in
    let same : get_or nodes i old.0 ≡ old.0 = get_or_from_slice_get nodes i old.0 old.0 old.1 in
    small_at k m old.0 (ap (has_large_constant m) (sym same) ∙ h i old.0 inside) (subst HasLargeConstant old.2 first.is)

-- there is one first node of a kind
pub one_first : (P : Node → Type 0) (nodes : List Node) (i j : ℕ) → IsFirst P nodes i → IsFirst P nodes j → i ≡ j
one_first P nodes i j f g = by_order (cases_order i j)
  where
    by_order : (i ≡ j) ⊎ ((i < j) ⊎ (j < i)) → i ≡ j
    by_order (inl e) = e
    by_order (inr (inl l)) = absurd (g.none_before i f.node l f.at f.is)
    by_order (inr (inr l)) = absurd (f.none_before j g.node l g.at g.is)
