-- The nodes of drafts, one after another.
use Rattle.std.proofs.Common.{◌≡◌, ℕ, zero, suc, ◌+◌, ◌<◌, ◌≤◌, List, [], ◌∷◌, ◌++◌, length, take, drop, get_or}
use Rattle.std.proofs.Common.{reverse, refl, sym, ap, ◌∙◌, subst, true, false, arith, append_assoc, inl, inr}
use Rattle.std.specs.Prelude.{All, Some, slice_get, nat_abs}
use Rattle.std.proofs.lemmas.Bool.Decides.{nat_tests}
use Rattle.std.proofs.lemmas.List.{take_more, take_at, drop_more, take-append-drop, length-append, reverse-append, length-take-le}
use Rattle.std.proofs.lemmas.List.Elements.{All-nil, All-cons, All-head, All-tail, All-same, All-append, All-weaker}
use Rattle.std.proofs.lemmas.List.Sums.{sum_by-append}
use Rattle.rational.proofs.Lists.{slice_get-append_here}
use Rattle.stl_syntax.specs.Formula.{IsFirst}
use Rattle.stl_syntax.specs.Limits.{own_reach, reach, HasLargeConstant, IsTooLarge}
use Rattle.stl_syntax.specs.PostOrder.{MayFollow, children}
use Rattle.stl_syntax.specs.WellFormed.{HasBounds}
use Rattle.stl_syntax.specs.declared.scale.Scale.{Scale}
use Rattle.stl_syntax.specs.declared.node.Node.{Node}
use Rattle.stl_syntax.specs.declared.node.Node.TheVariants.{Atom as Leaf}
use Rattle.stl_syntax.proofs.PostOrderLemmas.{children_below}
use Rattle.stl_grammar.specs.Building.{is_large, HasFewTerms, IsBuildable, AreNodes}
use Rattle.stl_grammar.specs.Drafts.{node_in, nodes_in}
use Rattle.stl_grammar.specs.declared.draft.Draft.{Draft}
use Rattle.stl_grammar.specs.declared.fault.FormulaFault.{FormulaFault}
use Rattle.stl_grammar.specs.declared.fault.FormulaFault.TheVariants.{ConstantTooLarge, ReachTooLarge}

-- the nodes of joined drafts
pub nodes_in-append : (s : Scale) (xs ys : List Draft) → nodes_in s (xs ++ ys) ≡ nodes_in s xs ++ nodes_in s ys
nodes_in-append s [] ys = refl
nodes_in-append s (x ∷ xs) ys = ap (λ ns. node_in s x ∷ ns) (nodes_in-append s xs ys)

-- as many nodes as drafts
pub length-nodes_in : (s : Scale) (xs : List Draft) → length (nodes_in s xs) ≡ length xs
length-nodes_in s [] = refl
length-nodes_in s (x ∷ xs) = ap suc (length-nodes_in s xs)

-- what is large
pub large_is : (n : Node) → is_large n ≡ true → HasLargeConstant n
large_is (Leaf a) h = grind (arith, nat_tests, h)
large_is _ h = absurd (cc)

-- what is not found large is not
pub not_large : (n : Node) → is_large n ≡ false → ¬ HasLargeConstant n
not_large (Leaf a) h l = let e : nat_abs a.limit ≤ 1073741824 = grind (arith, nat_tests, h) in omega (arith, e, l)
not_large _ h l = l

-- none of the first is large, and the next is
pub first_after : (xs : List Node) (n : Node) (ys : List Node) → All (λ m. is_large m ≡ false) xs → is_large n ≡ true
    → IsFirst HasLargeConstant (xs ++ n ∷ ys) (length xs)
first_after xs n ys a l =
    record { node = n; at = slice_get-append_here xs n ys; is = large_is n l; none_before = λ j other i e. not_large other (earlier xs j other a i e) }
  where
    earlier : (xs : List Node) (j : ℕ) (other : Node) → All (λ m. is_large m ≡ false) xs → j < length xs
        → slice_get (xs ++ n ∷ ys) j ≡ Some other → is_large other ≡ false
    earlier [] j other a i e = absurd (omega (arith, i))
    earlier (x ∷ xs) zero other a i e =
        let same : x ≡ other = cc in subst (λ m. is_large m ≡ false) same (All-head (λ m. is_large m ≡ false) x xs a)
    earlier (x ∷ xs) (suc j) other a i e = earlier xs j other (All-tail (λ m. is_large m ≡ false) x xs a) (omega (arith, i)) e

-- where none is large, none is the first
pub none_first : (ns : List Node) → All (λ m. is_large m ≡ false) ns → (i : ℕ) → ¬ IsFirst HasLargeConstant ns i
none_first ns a i f = not_large f.node (at_all ns i f.node a f.at) f.is
  where
    at_all : (ns : List Node) (i : ℕ) (n : Node) → All (λ m. is_large m ≡ false) ns → slice_get ns i ≡ Some n → is_large n ≡ false
    at_all [] i n a e = absurd (cc)
    at_all (x ∷ ns) zero n a e = let same : x ≡ n = cc in subst (λ m. is_large m ≡ false) same (All-head (λ m. is_large m ≡ false) x ns a)
    at_all (x ∷ ns) (suc i) n a e = at_all ns i n (All-tail (λ m. is_large m ≡ false) x ns a) e

-- a list about its element i
pub drafts_split : (drafts : List Draft) (i : ℕ) (d : Draft) → i < length drafts → d ≡ get_or drafts i d → drafts ≡ take i drafts ++ d ∷ drop (i + 1) drafts
drafts_split drafts i d l e = sym (take-append-drop i drafts)
    ∙ ap (λ xs. take i drafts ++ xs) (drop_more drafts i d l ∙ ap (λ x. x ∷ drop (i + 1) drafts) (sym e))

taken_size : (s : Scale) (drafts : List Draft) (i : ℕ) → i ≤ length drafts → length (nodes_in s (take i drafts)) ≡ i
taken_size s drafts i l = length-nodes_in s (take i drafts) ∙ length-take-le i drafts l

-- a large node after none is the first
pub first_large : (s : Scale) (drafts : List Draft) (i : ℕ) (d : Draft) → i < length drafts → d ≡ get_or drafts i d
    → All (λ m. is_large m ≡ false) (nodes_in s (take i drafts))
    → is_large (node_in s d) ≡ true → IsFirst HasLargeConstant (nodes_in s drafts) i
first_large s drafts i d l e a b =
    let split : nodes_in s drafts ≡ nodes_in s (take i drafts) ++ node_in s d ∷ nodes_in s (drop (i + 1) drafts) =
    ap (nodes_in s) (drafts_split drafts i d l e) ∙ nodes_in-append s (take i drafts) (d ∷ drop (i + 1) drafts) in
    let size : length (nodes_in s (take i drafts)) ≡ i = taken_size s drafts i (omega (arith, l)) in
    subst (λ ns. IsFirst HasLargeConstant ns i) (sym split)
    (subst (λ k. IsFirst HasLargeConstant (nodes_in s (take i drafts) ++ node_in s d ∷ nodes_in s (drop (i + 1) drafts)) k) size
    (first_after (nodes_in s (take i drafts)) (node_in s d) (nodes_in s (drop (i + 1) drafts)) a b))

more_taken : (s : Scale) (drafts : List Draft) (i : ℕ) (d : Draft) → i < length drafts → d ≡ get_or drafts i d
    → nodes_in s (take (i + 1) drafts) ≡ nodes_in s (take i drafts) ++ node_in s d ∷ []
more_taken s drafts i d l e =
    ap (nodes_in s) (take_more drafts i d l ∙ ap (λ x. take i drafts ++ x ∷ []) (sym e)) ∙ nodes_in-append s (take i drafts) (d ∷ [])

-- and one that is not leaves none
pub none_yet : (s : Scale) (drafts : List Draft) (i : ℕ) (d : Draft) → i < length drafts → d ≡ get_or drafts i d
    → All (λ m. is_large m ≡ false) (nodes_in s (take i drafts))
    → is_large (node_in s d) ≡ false → All (λ m. is_large m ≡ false) (nodes_in s (take (i + 1) drafts))
none_yet s drafts i d l e a b =
    let P : Node → Type 0 = λ m. is_large m ≡ false in
    All-same P (nodes_in s (take (i + 1) drafts)) (nodes_in s (take i drafts) ++ node_in s d ∷ []) (more_taken s drafts i d l e)
    (All-append P (nodes_in s (take i drafts)) (node_in s d ∷ []) a (All-cons P (node_in s d) [] b (All-nil P)))

-- the reach goes on by the next node's own
pub reach_more : (s : Scale) (drafts : List Draft) (i : ℕ) (d : Draft) → i < length drafts → d ≡ get_or drafts i d
    → reach (nodes_in s (take (i + 1) drafts)) ≡ reach (nodes_in s (take i drafts)) + own_reach (node_in s d)
reach_more s drafts i d l e =
    let one : reach (node_in s d ∷ []) ≡ own_reach (node_in s d) = omega arith in
    ap reach (more_taken s drafts i d l e) ∙ (sum_by-append own_reach (nodes_in s (take i drafts)) (node_in s d ∷ [])
    ∙ ap (λ k. reach (nodes_in s (take i drafts)) + k) one)

-- what holds of all holds of one
middle : (P : Node → Type 0) (xs : List Node) (n : Node) (ys : List Node) → All P (xs ++ n ∷ ys) → P n
middle P [] n ys a = All-head P n ys a
middle P (x ∷ xs) n ys a = middle P xs n ys (All-tail P x (xs ++ n ∷ ys) a)

-- the node after some of the nodes
pub may_add : (before : List Node) (n : Node) (after : List Node) → AreNodes (before ++ n ∷ after) → All (λ m. is_large m ≡ false) (before ++ n ∷ after)
    → reach (before ++ n ∷ after) ≤ 4294967295 → IsBuildable n × (length before < 256) × MayFollow before n × (reach (before ++ n ∷ []) ≤ 4294967295)
may_add before n after a c r =
    let size : length (before ++ n ∷ after) ≡ length before + suc (length after) = length-append before (n ∷ after) in
    let few : length before < 256 = omega (arith, size, a.few) in
    let follows : MayFollow before n =
    subst (λ xs. MayFollow xs n) (take_at before (n ∷ after) (length before) refl) (a.order.follows (length before) n (slice_get-append_here before n after)) in
    let own : reach (n ∷ []) ≡ own_reach n = omega arith in
    let last : reach (before ++ n ∷ []) ≡ reach before + reach (n ∷ []) = sum_by-append own_reach before (n ∷ []) in
    let parts : reach (before ++ n ∷ after) ≡ reach (before ++ n ∷ []) + reach after =
    ap reach (sym (append_assoc before (n ∷ []) after)) ∙ sum_by-append own_reach (before ++ n ∷ []) after in (
      record {
        bounds = middle HasBounds before n after a.bounds;
        reach = omega (arith, parts, last, own, r);
        terms = middle HasFewTerms before n after a.terms;
        constant = middle (λ m. is_large m ≡ false) before n after c;
        children = All-weaker (λ p. p < length before) (λ p. p < 4294967296) (λ p l. omega (arith, l, few)) (children n) (children_below before n follows);
      },
      few,
      follows,
      omega (arith, parts, r),
    )

-- the last of the drafts that are left is the next node
pub next_node : (s : Scale) (b : List Node) (xs ys : List Draft) (d : Draft) (all : List Node) → b ++ nodes_in s (reverse xs) ≡ all → xs ≡ ys ++ d ∷ []
    → b ++ node_in s d ∷ nodes_in s (reverse ys) ≡ all
next_node s b xs ys d all e f =
    let turned : reverse xs ≡ d ∷ reverse ys = ap reverse f ∙ reverse-append ys (d ∷ []) in
    ap (λ ds. b ++ nodes_in s ds) (sym turned) ∙ e

-- the next node may be built
pub ready : (s : Scale) (b : List Node) (xs ys : List Draft) (d : Draft) (all : List Node) → b ++ nodes_in s (reverse xs) ≡ all → xs ≡ ys ++ d ∷ []
    → AreNodes all → All (λ m. is_large m ≡ false) all → reach all ≤ 4294967295
    → IsBuildable (node_in s d) × (length b < 256) × MayFollow b (node_in s d) × (reach (b ++ node_in s d ∷ []) ≤ 4294967295)
ready s b xs ys d all e f a c r =
    let same : all ≡ b ++ node_in s d ∷ nodes_in s (reverse ys) = sym (next_node s b xs ys d all e f) in
    may_add b (node_in s d) (nodes_in s (reverse ys)) (subst AreNodes same a)
    (All-same (λ m. is_large m ≡ false) (b ++ node_in s d ∷ nodes_in s (reverse ys)) all (sym same) c) (subst (λ ns. reach ns ≤ 4294967295) same r)

-- and once it is, the drafts that are left follow it
pub pushed : (s : Scale) (b q : List Node) (xs ys : List Draft) (d : Draft) (all : List Node) → b ++ nodes_in s (reverse xs) ≡ all → xs ≡ ys ++ d ∷ []
    → q ≡ b ++ node_in s d ∷ [] → q ++ nodes_in s (reverse ys) ≡ all
pushed s b q xs ys d all e f g = ap (λ z. z ++ nodes_in s (reverse ys)) g
    ∙ (append_assoc b (node_in s d ∷ []) (nodes_in s (reverse ys)) ∙ next_node s b xs ys d all e f)

-- the refusals of nodes that are too large
pub reach_fault : (ns : List Node) (sum : ℕ) → All (λ m. is_large m ≡ false) ns → sum ≡ reach ns → 4294967295 < sum
    → IsTooLarge ConstantTooLarge ReachTooLarge ns (ReachTooLarge sum)
reach_fault ns sum a e l = inr (λ x f. none_first ns a f.0 f.1, (subst (λ n. 4294967295 < n) e l, ap ReachTooLarge e))

-- where none is large and the reach fits, nothing is refused
pub no_fault : (ns : List Node) → All (λ m. is_large m ≡ false) ns → reach ns ≤ 4294967295 → (r : FormulaFault)
    → ¬ IsTooLarge ConstantTooLarge ReachTooLarge ns r
no_fault ns a l r (inl f) = none_first ns a f.0 f.1
no_fault ns a l r (inr (g, f)) = let h : 4294967295 < reach ns = f.0 in omega (arith, h, l)
