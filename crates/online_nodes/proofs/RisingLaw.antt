-- In a run no number falls, and a reader's number does not pass what its inputs' numbers allow.
use Rattle.std.proofs.Common.{◌≡◌, ◌⊎◌, inl, inr, refl, sym, ap, subst, ◌∙◌, ℕ, ◌<◌, ◌≤◌, suc, take as first, Bool, true, false}
use Rattle.std.proofs.Common.{not, Option, Some, None, List, [], ◌∷◌, ◌++◌, length, ℤ, pos, neg_ℤ, ◌+ℤ◌, ◌≤ℤ◌, ◌<ℤ◌, arith}
use Rattle.std.specs.Prelude.{int_lt, cond, ◌&&◌, ◌==◌, slice_index_or, slice_get, IfSome, All}
use Rattle.std.proofs.lemmas.Int.{ints}
use Rattle.std.proofs.lemmas.List.{length-take-le}
use Rattle.std.proofs.lemmas.Bool.{and_parts}
use Rattle.std.proofs.lemmas.Option.{same_Some}
use Rattle.rational.proofs.Tests.{int_order}
use Rattle.stl_syntax.specs.Trace.{Header}
use Rattle.stl_syntax.specs.Formula.{subformula, HasChildrenBelow}
use Rattle.stl_syntax.specs.PostOrder.{IsPostOrder, children}
use Rattle.stl_syntax.specs.WellFormed.{HasBounds}
use Rattle.stl_syntax.specs.declared.node.Node.{Node}
use Rattle.stl_syntax.specs.declared.node.Node.TheVariants.{Const, Atom as Leaf, Not, And, Or, Implies, Until, Eventually}
use Rattle.stl_syntax.specs.declared.node.Node.TheVariants.{Always, Since, Once, Historically}
use Rattle.stl_syntax.proofs.PostOrderLemmas.{placed, slice_get_at, children_below}
use Rattle.online_nodes.specs.Network.{Event, row, step, close, take, Front, least, moved_by, State, last_row, open_number}
use Rattle.online_nodes.specs.Network.{same_front, allowed, allowed_at, all_at_end, is_atom, node_is_atom, initial, after_event}
use Rattle.online_nodes.specs.Network.{state_from, reach_back, MayCome, IsRunFrom, IsRun, state}
use Rattle.online_nodes.specs.Needed.{IsReader}
use Rattle.online_nodes.specs.Laws.{NeverLess}
use Rattle.online_nodes.proofs.RunLaw.{AllBounded, bounded_after, open_bound, none_is_none, moved, lesser, last_appended}
use Rattle.online_nodes.proofs.FrameLaw.{one_more}

-- one number after another
pub less_itself : (o : Front) → NeverLess o o
less_itself o f e = (f, e, omega (arith, ints))

-- fronts that do not fall are ordered
pub less_through : (o p q : Front) → NeverLess o p → NeverLess p q → NeverLess o q
less_through o p q h k f e =
    let x = h f e in
    let y = k x.0 x.1 in
    (y.0, y.1, let a = x.2 in let b = y.2 in omega (arith, ints))

-- the least of two numbers is one of them
pub least_of : (g h : ℤ) → (m : ℤ) × (least (Some g) (Some h) ≡ Some m) × ((m ≡ g) ⊎ (m ≡ h))
least_of g h = by_test (int_lt h g) refl
  where
    by_test : (t : Bool) → int_lt h g ≡ t → (m : ℤ) × (cond (int_lt h g) (Some h) (Some g) ≡ Some m) × ((m ≡ g) ⊎ (m ≡ h))
    by_test true e = (h, ap (λ t. cond t (Some h) (Some g)) e, inr refl)
    by_test false e = (g, ap (λ t. cond t (Some h) (Some g)) e, inl refl)

-- the least of two that do not fall does not fall
pub least_rises : (o q o' q' : Front) → NeverLess o o' → NeverLess q q' → NeverLess (least o q) (least o' q')
least_rises o q o' q' h k f e =
    let low = lesser o q f e in
    let x = h low.0 low.2 in
    let y = k low.1 low.3 in
    let m = least_of x.0 y.0 in (
      m.0,
      ap (λ z. least z q') x.1 ∙ ap (λ z. least (Some x.0) z) y.1 ∙ m.1,
      elim m.2 [
        | inl s ↦ (let a = low.4 in let b = x.2 in omega (arith, ints))
        | inr s ↦ (let a = low.5 in let b = y.2 in omega (arith, ints))
      ],
    )

moved_rises : (k : ℤ) (o o' : Front) → NeverLess o o' → NeverLess (moved_by k o) (moved_by k o')
moved_rises k o o' h f e =
    let x = moved k o f e in
    let y = h x.0 x.1 in
    (y.0 +ℤ k, ap (moved_by k) y.1, (let a = x.2 in let b = y.2 in omega (arith, ints)))

-- one front and the same
pub same_is : (o q : Front) → same_front o q ≡ true → o ≡ q
same_is None None e = refl
same_is None (Some g) e = absurd (let x : false ≡ true = e in cc)
same_is (Some f) None e = absurd (let x : false ≡ true = e in cc)
same_is (Some f) (Some g) e = by_test (int_lt f g) refl (int_lt g f) refl
  where
    by_test : (t : Bool) → int_lt f g ≡ t → (u : Bool) → int_lt g f ≡ u → Some f ≡ Some g
    by_test true x u y = absurd (let z : (not true && not u) ≡ true = subst (λ t. (not t && not (int_lt g f)) ≡ true) x e in let w : false ≡ true = z in cc)
    by_test false x true y = absurd (let z : (not (int_lt f g) && not true) ≡ true = subst (λ u. (not (int_lt f g) && not u) ≡ true) y e in
        let w : (not false && not true) ≡ true = subst (λ t. (not t && not true) ≡ true) x z in let v : false ≡ true = w in cc)
    by_test false x false y = ap (λ (z : ℤ). Some z) (let a = int_order f g false x in let b = int_order g f false y in
        let c : f ≡ g = omega (arith, ints) in c)

-- fronts that are the same come out so
pub same_of : (o q : Front) → o ≡ q → same_front o q ≡ true
same_of o q e = subst (λ z. same_front o z ≡ true) e (itself o)
  where
    itself : (o : Front) → same_front o o ≡ true
    itself None = refl
    itself (Some f) = by_test (int_lt f f) refl
      where
        by_test : (t : Bool) → int_lt f f ≡ t → (not (int_lt f f) && not (int_lt f f)) ≡ true
        by_test true x = absurd (let h : f <ℤ f = int_order f f true x in omega (arith, ints))
        by_test false x = subst (λ t. (not t && not t) ≡ true) (sym x) refl

-- where all of these places stand at the last row's time, so do they in a later state, if each of them stays so
at_end_stays : (s s' : State) (i : ℕ) (places : List ℕ) → All (λ p. p < i) places
    → ((p : ℕ) → p < i → s.fronts p ≡ last_row s → s'.fronts p ≡ last_row s') → all_at_end s places ≡ true → all_at_end s' places ≡ true
at_end_stays s s' i [] below stay e = refl
at_end_stays s s' i (p ∷ places) below stay e =
    let rest : All (λ p. p < i) places = λ k d h. below (suc k) d (omega (arith, h)) in
    let first = (and_parts (same_front (s.fronts p) (last_row s)) (all_at_end s places) e).0 in
    let more = and_right (same_front (s.fronts p) (last_row s)) (all_at_end s places) e in
    let here : same_front (s'.fronts p) (last_row s') ≡ true =
    same_of (s'.fronts p) (last_row s') (stay p (below 0 0 (omega arith)) (same_is (s.fronts p) (last_row s) first)) in
    subst (λ t. (t && all_at_end s' places) ≡ true) (sym here) (at_end_stays s s' i places rest stay more)
  where
    and_right : (a b : Bool) → (a && b) ≡ true → b ≡ true
    and_right true b e = e
    and_right false b e = absurd (let x : false ≡ true = e in cc)

-- an input of a node all of whose inputs stand at the last row's time
at_end_reads : (s : State) (n : Node) (left : Bool) (j : ℕ) → IsReader n left j → all_at_end s (children n) ≡ true
    → s.fronts j ≡ last_row s
at_end_reads s n left j r e = by_node n left r e
  where
    one : (p : ℕ) → p ≡ j → all_at_end s (p ∷ []) ≡ true → s.fronts j ≡ last_row s
    one p x y = subst (λ k. s.fronts k ≡ last_row s) x
        (same_is (s.fronts p) (last_row s) ((and_parts (same_front (s.fronts p) (last_row s)) true y).0))

    first : (p q : ℕ) → p ≡ j → all_at_end s (p ∷ q ∷ []) ≡ true → s.fronts j ≡ last_row s
    first p q x y = subst (λ k. s.fronts k ≡ last_row s) x
        (same_is (s.fronts p) (last_row s) ((and_parts (same_front (s.fronts p) (last_row s)) (all_at_end s (q ∷ [])) y).0))

    second : (p q : ℕ) → q ≡ j → all_at_end s (p ∷ q ∷ []) ≡ true → s.fronts j ≡ last_row s
    second p q x y = one q x (by_first (same_front (s.fronts p) (last_row s)) y)
      where
        by_first : (t : Bool) → (t && all_at_end s (q ∷ [])) ≡ true → all_at_end s (q ∷ []) ≡ true
        by_first true z = z
        by_first false z = absurd (let x : false ≡ true = z in cc)

    by_node : (n : Node) (left : Bool) → IsReader n left j → all_at_end s (children n) ≡ true → s.fronts j ≡ last_row s
    by_node (Not p) true r e = one p r e
    by_node (And p q) true r e = first p q r e
    by_node (And p q) false r e = second p q r e
    by_node (Or p q) true r e = first p q r e
    by_node (Or p q) false r e = second p q r e
    by_node (Implies p q) true r e = first p q r e
    by_node (Implies p q) false r e = second p q r e
    by_node (Until p q a b) true r e = first p q r e
    by_node (Until p q a b) false r e = second p q r e
    by_node (Eventually p a b i k) true r e = one p r e
    by_node (Always p a b i k) true r e = one p r e
    by_node (Since p q a b) true r e = first p q r e
    by_node (Since p q a b) false r e = second p q r e
    by_node (Once p a b i k) true r e = one p r e
    by_node (Historically p a b i k) true r e = one p r e
    by_node _ _ r e = absurd r

-- an input of a node allows it its number
reads_within : (s : State) (n : Node) (left : Bool) (j : ℕ) → IsReader n left j → HasBounds n → (h : ℤ) → open_number n s ≡ Some h
    → (f : ℤ) × (s.fronts j ≡ Some f) × ((h +ℤ reach_back n left) ≤ℤ f)
reads_within s n left j r b h e = by_node n left r b e
  where
    Within : ℤ → Type 0
    Within k = (f : ℤ) × (s.fronts j ≡ Some f) × ((h +ℤ k) ≤ℤ f)

    -- the node has its input's number, or a lesser one
    first : (p q : ℕ) → p ≡ j → least (s.fronts p) (s.fronts q) ≡ Some h → Within (pos 0)
    first p q x y =
        let m = lesser (s.fronts p) (s.fronts q) h y in
        (m.0, ap s.fronts (sym x) ∙ m.2, (let a = m.4 in omega (arith, ints)))

    second : (p q : ℕ) → q ≡ j → least (s.fronts p) (s.fronts q) ≡ Some h → Within (pos 0)
    second p q x y =
        let m = lesser (s.fronts p) (s.fronts q) h y in
        (m.1, ap s.fronts (sym x) ∙ m.3, (let a = m.5 in omega (arith, ints)))

    ahead : (p a b : ℕ) → a ≤ b → p ≡ j → moved_by (neg_ℤ (pos b)) (s.fronts p) ≡ Some h → Within (pos a)
    ahead p a b o x y =
        let m = moved (neg_ℤ (pos b)) (s.fronts p) h y in
        (m.0, ap s.fronts (sym x) ∙ m.1, (let c = m.2 in omega (arith, ints)))

    until_left : (p q b : ℕ) → p ≡ j → moved_by (neg_ℤ (pos b)) (least (s.fronts p) (s.fronts q)) ≡ Some h → Within (pos 0)
    until_left p q b x y =
        let m = moved (neg_ℤ (pos b)) (least (s.fronts p) (s.fronts q)) h y in
        let k = lesser (s.fronts p) (s.fronts q) m.0 m.1 in
        (k.0, ap s.fronts (sym x) ∙ k.2, (let c = m.2 in let d = k.4 in omega (arith, ints)))

    until_right : (p q a b : ℕ) → a ≤ b → q ≡ j → moved_by (neg_ℤ (pos b)) (least (s.fronts p) (s.fronts q)) ≡ Some h → Within (pos a)
    until_right p q a b o x y =
        let m = moved (neg_ℤ (pos b)) (least (s.fronts p) (s.fronts q)) h y in
        let k = lesser (s.fronts p) (s.fronts q) m.0 m.1 in
        (k.1, ap s.fronts (sym x) ∙ k.3, (let c = m.2 in let d = k.5 in omega (arith, ints)))

    behind : (p a m : ℕ) → a ≤ m → p ≡ j → least (moved_by (pos a) (s.fronts p)) (last_row s) ≡ Some h → Within (neg_ℤ (pos m))
    behind p a m o x y =
        let k = lesser (moved_by (pos a) (s.fronts p)) (last_row s) h y in
        let d = moved (pos a) (s.fronts p) k.0 k.2 in
        (d.0, ap s.fronts (sym x) ∙ d.1, (let c = d.2 in let g = k.4 in omega (arith, ints)))

    since_left : (p q a m : ℕ) → p ≡ j → least (s.fronts p) (moved_by (pos a) (s.fronts q)) ≡ Some h → Within (neg_ℤ (pos m))
    since_left p q a m x y =
        let k = lesser (s.fronts p) (moved_by (pos a) (s.fronts q)) h y in
        (k.0, ap s.fronts (sym x) ∙ k.2, (let c = k.4 in omega (arith, ints)))

    since_right : (p q a m : ℕ) → a ≤ m → q ≡ j → least (s.fronts p) (moved_by (pos a) (s.fronts q)) ≡ Some h → Within (neg_ℤ (pos m))
    since_right p q a m o x y =
        let k = lesser (s.fronts p) (moved_by (pos a) (s.fronts q)) h y in
        let d = moved (pos a) (s.fronts q) k.1 k.3 in
        (d.0, ap s.fronts (sym x) ∙ d.1, (let c = d.2 in let g = k.5 in omega (arith, ints)))

    by_node : (n : Node) (left : Bool) → IsReader n left j → HasBounds n → open_number n s ≡ Some h → Within (reach_back n left)
    by_node (Not p) true r o e = (h, ap s.fronts (sym r) ∙ e, omega (arith, ints))
    by_node (And p q) true r o e = first p q r e
    by_node (And p q) false r o e = second p q r e
    by_node (Or p q) true r o e = first p q r e
    by_node (Or p q) false r o e = second p q r e
    by_node (Implies p q) true r o e = first p q r e
    by_node (Implies p q) false r o e = second p q r e
    by_node (Until p q a b) true r o e = until_left p q b r e
    by_node (Until p q a b) false r o e = until_right p q a b o r e
    by_node (Eventually p a b i k) true r o e = ahead p a b o r e
    by_node (Always p a b i k) true r o e = ahead p a b o r e
    by_node (Since p q a None) true r o e = since_left p q a a r e
    by_node (Since p q a (Some b)) true r o e = since_left p q a b r e
    by_node (Since p q a None) false r o e = since_right p q a a (omega arith) r e
    by_node (Since p q a (Some b)) false r o e = since_right p q a b o r e
    by_node (Once p a None i k) true r o e = behind p a a (omega arith) r e
    by_node (Once p a (Some b) i k) true r o e = behind p a b o.0 r e
    by_node (Historically p a None i k) true r o e = behind p a a (omega arith) r e
    by_node (Historically p a (Some b) i k) true r o e = behind p a b o.0 r e
    by_node _ _ r o e = absurd r

-- no number of the places before i falls, nor the last row's time
pub record IsLater (i : ℕ) (s s' : State) : Type 0 where
  -- the numbers of the nodes before do not fall
  pub fronts : (p : ℕ) → p < i → NeverLess (s.fronts p) (s'.fronts p)
  -- nor does the last row
  pub last : NeverLess (last_row s) (last_row s')

-- the number that a node may have before the end is known does not fall
open_rises : (s s' : State) (i : ℕ) (n : Node) → HasChildrenBelow i n → IsLater i s s' → NeverLess (open_number n s) (open_number n s')
open_rises s s' i (Const b) c l = l.last
open_rises s s' i (Leaf a) c l = l.last
open_rises s s' i (Not p) c l = l.fronts p c
open_rises s s' i (And p q) c l = least_rises (s.fronts p) (s.fronts q) (s'.fronts p) (s'.fronts q) (l.fronts p c.0) (l.fronts q c.1)
open_rises s s' i (Or p q) c l = least_rises (s.fronts p) (s.fronts q) (s'.fronts p) (s'.fronts q) (l.fronts p c.0) (l.fronts q c.1)
open_rises s s' i (Implies p q) c l = least_rises (s.fronts p) (s.fronts q) (s'.fronts p) (s'.fronts q) (l.fronts p c.0) (l.fronts q c.1)
open_rises s s' i (Until p q a b) c l = moved_rises (neg_ℤ (pos b)) (least (s.fronts p) (s.fronts q)) (least (s'.fronts p) (s'.fronts q))
    (least_rises (s.fronts p) (s.fronts q) (s'.fronts p) (s'.fronts q) (l.fronts p c.0) (l.fronts q c.1))
open_rises s s' i (Eventually p a b a_in b_in) c l = moved_rises (neg_ℤ (pos b)) (s.fronts p) (s'.fronts p) (l.fronts p c)
open_rises s s' i (Always p a b a_in b_in) c l = moved_rises (neg_ℤ (pos b)) (s.fronts p) (s'.fronts p) (l.fronts p c)
open_rises s s' i (Since p q a b) c l = least_rises (s.fronts p) (moved_by (pos a) (s.fronts q)) (s'.fronts p) (moved_by (pos a) (s'.fronts q))
    (l.fronts p c.0) (moved_rises (pos a) (s.fronts q) (s'.fronts q) (l.fronts q c.1))
open_rises s s' i (Once p a b a_in b_in) c l = least_rises (moved_by (pos a) (s.fronts p)) (last_row s) (moved_by (pos a) (s'.fronts p)) (last_row s')
    (moved_rises (pos a) (s.fronts p) (s'.fronts p) (l.fronts p c)) l.last
open_rises s s' i (Historically p a b a_in b_in) c l = least_rises (moved_by (pos a) (s.fronts p)) (last_row s) (moved_by (pos a) (s'.fronts p))
    (last_row s') (moved_rises (pos a) (s.fronts p) (s'.fronts p) (l.fronts p c)) l.last

module _ (nodes : List Node) (header : Header) (order : IsPostOrder nodes) where
  -- the places of a node's children stand before it
  pub children_before : (i : ℕ) (n : Node) → i < length nodes → slice_get nodes i ≡ Some n → All (λ p. p < i) (children n)
  children_before i n l at =
      let places : All (λ p. p < length (first i nodes)) (children n) = children_below (first i nodes) n (order.follows i n at) in
      subst (λ m. All (λ p. p < m) (children n)) (length-take-le i nodes (omega (arith, l))) places

  -- before the end is known a node's number is at most the last row's time
  open_within : (s : State) (i : ℕ) (n : Node) → i < length nodes → slice_get nodes i ≡ Some n → AllBounded nodes header order s
      → NeverLess (open_number n s) (last_row s)
  open_within s i n l at all f e =
      let below = placed nodes i n order at in
      let b = open_bound (subformula nodes) s i n f below (λ j k g. all j g (omega (arith, k, l))) e in
      (b.last, b.is_last, b.by_now)

  -- the number that a node may have does not fall
  allowed_rises : (s s' : State) (i : ℕ) (n : Node) → i < length nodes → slice_get nodes i ≡ Some n
      → AllBounded nodes header order s → AllBounded nodes header order s' → IsLater i s s'
      → (s.closed ≡ true → (s'.closed ≡ true) × (last_row s' ≡ last_row s))
      → NeverLess (allowed n s) (allowed n s')
  allowed_rises s s' i n l at all all' later stay = by_test (s.closed && all_at_end s (children n)) refl
    where
      below : HasChildrenBelow i n
      below = placed nodes i n order at

      either : NeverLess (open_number n s) (allowed n s')
      either = by_end (s'.closed && all_at_end s' (children n)) refl
        where
          by_end : (t : Bool) → (s'.closed && all_at_end s' (children n)) ≡ t
              → NeverLess (open_number n s) (cond (s'.closed && all_at_end s' (children n)) (last_row s') (open_number n s'))
          by_end true x = subst (λ t. NeverLess (open_number n s) (cond t (last_row s') (open_number n s'))) (sym x)
              (less_through (open_number n s) (last_row s) (last_row s') (open_within s i n l at all) later.last)
          by_end false x = subst (λ t. NeverLess (open_number n s) (cond t (last_row s') (open_number n s'))) (sym x)
              (open_rises s s' i n below later)

      by_test : (t : Bool) → (s.closed && all_at_end s (children n)) ≡ t
          → NeverLess (cond (s.closed && all_at_end s (children n)) (last_row s) (open_number n s)) (allowed n s')
      by_test false x = subst (λ t. NeverLess (cond t (last_row s) (open_number n s)) (allowed n s')) (sym x) either
      by_test true x =
          let closed = (and_parts s.closed (all_at_end s (children n)) x).0 in
          let ends : all_at_end s (children n) ≡ true = by_closed s.closed closed x in
          let now = stay closed in
          let ends' = at_end_stays s s' i (children n) (children_before i n l at) stays ends in
          let both : (s'.closed && all_at_end s' (children n)) ≡ true =
          subst (λ t. (t && all_at_end s' (children n)) ≡ true) (sym now.0) ends' in
          subst (λ t. NeverLess (cond t (last_row s) (open_number n s)) (allowed n s')) (sym x)
          (subst (λ t. NeverLess (last_row s) (cond t (last_row s') (open_number n s'))) (sym both)
          (subst (λ o. NeverLess (last_row s) o) (sym now.1) (less_itself (last_row s))))
        where
          by_closed : (c : Bool) → c ≡ true → (c && all_at_end s (children n)) ≡ true → all_at_end s (children n) ≡ true
          by_closed true e y = y
          by_closed false e y = absurd (let z : false ≡ true = e in cc)

          -- an input that stands at the end stays there
          stays : (p : ℕ) → p < i → s.fronts p ≡ last_row s → s'.fronts p ≡ last_row s'
          stays p h e = by_last (last_row s) refl
            where
              now : last_row s' ≡ last_row s
              now = (stay ((and_parts s.closed (all_at_end s (children n)) x).0)).1

              by_last : (o : Front) → last_row s ≡ o → s'.fronts p ≡ last_row s'
              by_last None y = by_front (s'.fronts p) refl
                where
                  by_front : (o : Front) → s'.fronts p ≡ o → s'.fronts p ≡ last_row s'
                  by_front None z = z ∙ sym y ∙ sym now
                  by_front (Some g) z =
                      let b = all' p g (omega (arith, h, l)) z in absurd (none_is_none b.last (sym y ∙ sym now ∙ b.is_last))
              by_last (Some m) y =
                  let up = later.fronts p h m (e ∙ y) in
                  let b = all' p up.0 (omega (arith, h, l)) up.1 in
                  let top : b.last ≡ m = same_Some b.last m (sym b.is_last ∙ now ∙ y) in
                  let same : up.0 ≡ m = (let a = up.2 in let c = b.by_now in omega (arith, ints)) in
                  up.1 ∙ ap (λ (z : ℤ). Some z) same ∙ sym y ∙ sym now

  -- each atom stands at the last row's time
  abbrev pub AtomsAtLast : State → Type 0
  AtomsAtLast s = (i : ℕ) → i < length nodes → node_is_atom nodes i ≡ true → s.fronts i ≡ last_row s

  -- no node stands beyond the number that it may have
  abbrev pub Rising : State → Type 0
  Rising s = (i : ℕ) → i < length nodes → NeverLess (s.fronts i) (allowed_at nodes s i)

  -- the number of an atom and of a node that stands at the last row's time is allowed
  node_there : (i : ℕ) → i < length nodes → slice_get nodes i ≡ Some (slice_index_or nodes i (Const false))
  node_there i l = slice_get_at nodes i (Const false) l

  -- an atom may have the last row's time
  atom_allowed : (s : State) (i : ℕ) → node_is_atom nodes i ≡ true → allowed_at nodes s i ≡ last_row s
  atom_allowed s i x = by_node (slice_index_or nodes i (Const false)) x
    where
      same : (b : Bool) → cond b (last_row s) (last_row s) ≡ last_row s
      same true = refl
      same false = refl

      by_node : (n : Node) → is_atom n ≡ true → allowed n s ≡ last_row s
      by_node (Leaf a) e = same (s.closed && true)
      by_node _ e = absurd (let y : false ≡ true = e in cc)

  -- an event lets no number fall
  pub event_later : (s : State) (e : Event) → MayCome nodes header s e → AtomsAtLast s → Rising s
      → IsLater (length nodes) s (after_event nodes s e)
  event_later s (row r) may atoms rise = record { fronts = by_place; last = last }
    where
      last : NeverLess (last_row s) (last_row (after_event nodes s (row r)))
      last f e =
          let later : f <ℤ pos r.time = subst (λ o. IfSome o (λ f. f <ℤ pos r.time)) e may.1 in
          (pos r.time, last_appended s.rows r s.closed (after_event nodes s (row r)).fronts, omega (arith, ints))

      by_place : (p : ℕ) → p < length nodes → NeverLess (s.fronts p) ((after_event nodes s (row r)).fronts p)
      by_place p h = by_test (node_is_atom nodes p) refl
        where
          by_test : (t : Bool) → node_is_atom nodes p ≡ t → NeverLess (s.fronts p) (cond (node_is_atom nodes p) (Some (pos r.time)) (s.fronts p))
          by_test false x = subst (λ t. NeverLess (s.fronts p) (cond t (Some (pos r.time)) (s.fronts p))) (sym x) (less_itself (s.fronts p))
          by_test true x = subst (λ t. NeverLess (s.fronts p) (cond t (Some (pos r.time)) (s.fronts p))) (sym x)
              (λ f e. let later : f <ℤ pos r.time = subst (λ o. IfSome o (λ f. f <ℤ pos r.time)) (sym (atoms p h x) ∙ e) may.1 in
              (pos r.time, refl, omega (arith, ints)))
  event_later s (step i) may atoms rise = record { fronts = by_place; last = less_itself (last_row s) }
    where
      by_place : (p : ℕ) → p < length nodes → NeverLess (s.fronts p) ((after_event nodes s (step i)).fronts p)
      by_place p h = by_test (p == i) refl
        where
          by_test : (t : Bool) → (p == i) ≡ t → NeverLess (s.fronts p) (cond (p == i) (allowed_at nodes s i) (s.fronts p))
          by_test false x = subst (λ t. NeverLess (s.fronts p) (cond t (allowed_at nodes s i) (s.fronts p))) (sym x) (less_itself (s.fronts p))
          by_test true x =
              let same : p ≡ i = grind (arith, x) in
              subst (λ t. NeverLess (s.fronts p) (cond t (allowed_at nodes s i) (s.fronts p))) (sym x)
              (subst (λ k. NeverLess (s.fronts p) (allowed_at nodes s k)) same (rise p h))
  event_later s close may atoms rise = record { fronts = λ p h. less_itself (s.fronts p); last = less_itself (last_row s) }
  event_later s take may atoms rise = record { fronts = λ p h. less_itself (s.fronts p); last = less_itself (last_row s) }

  -- atoms stay at the last row's time
  pub atoms_after : (s : State) (e : Event) → MayCome nodes header s e → AtomsAtLast s → AtomsAtLast (after_event nodes s e)
  atoms_after s (row r) may atoms i l x =
      subst (λ t. cond t (Some (pos r.time)) (s.fronts i) ≡ last_row (after_event nodes s (row r))) (sym x)
      (sym (last_appended s.rows r s.closed (after_event nodes s (row r)).fronts))
  atoms_after s (step i) may atoms j l x = by_test (j == i) refl
    where
      by_test : (t : Bool) → (j == i) ≡ t → cond (j == i) (allowed_at nodes s i) (s.fronts j) ≡ last_row s
      by_test false y = subst (λ t. cond t (allowed_at nodes s i) (s.fronts j) ≡ last_row s) (sym y) (atoms j l x)
      by_test true y = absurd (let same : j ≡ i = grind (arith, y) in let e = ap (node_is_atom nodes) same in let m = may.1 in cc)
  atoms_after s close may atoms i l x = atoms i l x
  atoms_after s take may atoms i l x = atoms i l x

  -- no node comes to stand beyond what it may have
  pub rising_after : (s : State) (e : Event) → MayCome nodes header s e → AllBounded nodes header order s → AtomsAtLast s → Rising s
      → Rising (after_event nodes s e)
  rising_after s e may all atoms rise i l = by_event e may later all'
    where
      later : IsLater (length nodes) s (after_event nodes s e)
      later = event_later s e may atoms rise

      all' : AllBounded nodes header order (after_event nodes s e)
      all' = bounded_after nodes header order s e may all

      n : Node
      n = slice_index_or nodes i (Const false)

      up : (e : Event) → IsLater (length nodes) s (after_event nodes s e) → AllBounded nodes header order (after_event nodes s e)
          → (s.closed ≡ true → ((after_event nodes s e).closed ≡ true) × (last_row (after_event nodes s e) ≡ last_row s))
          → NeverLess (allowed_at nodes s i) (allowed_at nodes (after_event nodes s e) i)
      up e later all' stay = allowed_rises s (after_event nodes s e) i n l (node_there i l) all all'
          (record { fronts = λ p h. later.fronts p (omega (arith, h, l)); last = later.last }) stay

      by_event : (e : Event) → MayCome nodes header s e → IsLater (length nodes) s (after_event nodes s e)
          → AllBounded nodes header order (after_event nodes s e)
          → NeverLess ((after_event nodes s e).fronts i) (allowed_at nodes (after_event nodes s e) i)
      by_event (row r) may later all' = by_test (node_is_atom nodes i) refl
        where
          grown : NeverLess (allowed_at nodes s i) (allowed_at nodes (after_event nodes s (row r)) i)
          grown = up (row r) later all' (λ c. absurd (let x : true ≡ false = sym c ∙ may.0 in cc))

          by_test : (t : Bool) → node_is_atom nodes i ≡ t
              → NeverLess (cond (node_is_atom nodes i) (Some (pos r.time)) (s.fronts i)) (allowed_at nodes (after_event nodes s (row r)) i)
          by_test false x = subst (λ t. NeverLess (cond t (Some (pos r.time)) (s.fronts i)) (allowed_at nodes (after_event nodes s (row r)) i)) (sym x)
              (less_through (s.fronts i) (allowed_at nodes s i) (allowed_at nodes (after_event nodes s (row r)) i) (rise i l) grown)
          by_test true x = subst (λ t. NeverLess (cond t (Some (pos r.time)) (s.fronts i)) (allowed_at nodes (after_event nodes s (row r)) i)) (sym x)
              (λ f y. (
                f,
                atom_allowed (after_event nodes s (row r)) i x
                    ∙ last_appended s.rows r s.closed (after_event nodes s (row r)).fronts ∙ y,
                omega (arith, ints),
              ))
      by_event (step k) may later all' = by_test (i == k) refl
        where
          grown : NeverLess (allowed_at nodes s i) (allowed_at nodes (after_event nodes s (step k)) i)
          grown = up (step k) later all' (λ c. (c, refl))

          by_test : (t : Bool) → (i == k) ≡ t
              → NeverLess (cond (i == k) (allowed_at nodes s k) (s.fronts i)) (allowed_at nodes (after_event nodes s (step k)) i)
          by_test false x = subst (λ t. NeverLess (cond t (allowed_at nodes s k) (s.fronts i)) (allowed_at nodes (after_event nodes s (step k)) i)) (sym x)
              (less_through (s.fronts i) (allowed_at nodes s i) (allowed_at nodes (after_event nodes s (step k)) i) (rise i l) grown)
          by_test true x =
              let same : i ≡ k = grind (arith, x) in
              subst (λ t. NeverLess (cond t (allowed_at nodes s k) (s.fronts i)) (allowed_at nodes (after_event nodes s (step k)) i)) (sym x)
              (subst (λ j. NeverLess (allowed_at nodes s j) (allowed_at nodes (after_event nodes s (step k)) i)) same grown)
      by_event close may later all' = less_through (s.fronts i) (allowed_at nodes s i) (allowed_at nodes (after_event nodes s close) i) (rise i l)
          (up close later all' (λ c. (refl, refl)))
      by_event take may later all' = rise i l

  -- what a state of a run keeps
  pub record IsSound (s : State) : Type 0 where
    -- no number passes what its inputs allow
    pub bounded : AllBounded nodes header order s
    -- the atoms are answered up to the last row
    pub atoms : AtomsAtLast s
    -- and no event lets a number fall
    pub rising : Rising s

  -- an event that may come keeps the numbers sound
  pub sound_after : (s : State) (e : Event) → MayCome nodes header s e → IsSound s → IsSound (after_event nodes s e)
  sound_after s e may h = record {
    bounded = bounded_after nodes header order s e may h.bounded;
    atoms = atoms_after s e may h.atoms;
    rising = rising_after s e may h.bounded h.atoms h.rising;
  }

  -- all events of a run together keep the numbers sound
  pub sound_from : (s : State) (events : List Event) → IsRunFrom nodes header s events → IsSound s → IsSound (state_from nodes s events)
  sound_from s [] r h = h
  sound_from s (e ∷ events) r h = sound_from (after_event nodes s e) events r.1 (sound_after s e r.0 h)

  sound_first : IsSound initial
  sound_first = record {
    bounded = λ i f l e. absurd (none_is_none f e);
    atoms = λ i l x. refl;
    rising = λ i l f e. absurd (none_is_none f e);
  }

  -- each state of a run is sound
  pub sound_of : (events : List Event) → IsRun nodes header events → IsSound (state nodes events)
  unfolding state
  sound_of events r = sound_from initial events r sound_first

  -- the events of a run but the last are a run, after which the last may come
  pub run_before : (s : State) (events : List Event) (e : Event) → IsRunFrom nodes header s (events ++ e ∷ [])
      → IsRunFrom nodes header s events × MayCome nodes header (state_from nodes s events) e
  run_before s [] e r = (tt, r.0)
  run_before s (d ∷ events) e r = let h = run_before (after_event nodes s d) events e r.1 in ((r.0, h.0), h.1)

  -- and the other way round
  pub run_on : (s : State) (events : List Event) (e : Event) → IsRunFrom nodes header s events
      → MayCome nodes header (state_from nodes s events) e → IsRunFrom nodes header s (events ++ e ∷ [])
  run_on s [] e r may = (may, tt)
  run_on s (d ∷ events) e r may = (r.0, run_on (after_event nodes s d) events e r.1 may)

  -- in a run no number falls
  pub never_fall : (events : List Event) (e : Event) → IsRun nodes header (events ++ e ∷ []) → (i : ℕ) → i < length nodes
      → NeverLess ((state nodes events).fronts i) ((state nodes (events ++ e ∷ [])).fronts i)
  unfolding state
  never_fall events e r i l =
      let h = run_before initial events e r in
      let s = sound_of events h.0 in
      subst (λ x. NeverLess ((state_from nodes initial events).fronts i) (x.fronts i)) (sym (one_more nodes header initial events e))
      ((event_later (state_from nodes initial events) e h.1 s.atoms s.rising).fronts i l)

  -- a reader's number, moved by how far it looks, is at most its input's; only after the end, where both stand at the last row's time, a
  -- reader that looks ahead goes beyond
  pub reader_behind : (s : State) → IsSound s → (r : ℕ) (n : Node) (left : Bool) (j : ℕ) → r < length nodes → slice_get nodes r ≡ Some n
      → HasBounds n → IsReader n left j → (g : ℤ) → s.fronts r ≡ Some g
      → (f : ℤ) × (s.fronts j ≡ Some f) × (((g +ℤ reach_back n left) ≤ℤ f) ⊎ ((s.closed ≡ true) × (last_row s ≡ Some f)))
  reader_behind s sound r n left j l at bounds reads g e = by_test (s.closed && all_at_end s (children n)) refl
    where
      at_place : slice_index_or nodes r (Const false) ≡ n
      at_place = some_node (slice_index_or nodes r (Const false)) n (sym (node_there r l) ∙ at)
        where
          or_first : Option Node → Node
          or_first None = Const false
          or_first (Some m) = m

          some_node : (a b : Node) → Some a ≡ Some b → a ≡ b
          some_node a b x = ap or_first x

      h : (h : ℤ) × (allowed n s ≡ Some h) × (g ≤ℤ h)
      h = subst (λ m. (h : ℤ) × (allowed m s ≡ Some h) × (g ≤ℤ h)) at_place (sound.rising r l g e)

      by_test : (t : Bool) → (s.closed && all_at_end s (children n)) ≡ t
          → (f : ℤ) × (s.fronts j ≡ Some f) × (((g +ℤ reach_back n left) ≤ℤ f) ⊎ ((s.closed ≡ true) × (last_row s ≡ Some f)))
      by_test true x =
          let last : last_row s ≡ Some h.0 = subst (λ t. cond t (last_row s) (open_number n s) ≡ Some h.0) x h.1 in (
            h.0,
            at_end_reads s n left j reads (both s.closed (all_at_end s (children n)) x) ∙ last,
            inr ((and_parts s.closed (all_at_end s (children n)) x).0, last),
          )
        where
          both : (a b : Bool) → (a && b) ≡ true → b ≡ true
          both true b y = y
          both false b y = absurd (let z : false ≡ true = y in cc)
      by_test false x =
          let low = reads_within s n left j reads bounds h.0 (subst (λ t. cond t (last_row s) (open_number n s) ≡ Some h.0) x h.1) in
          (low.0, low.1, inl (let a = low.2 in let b = h.2 in omega (arith, ints)))

  -- since stands no further than its left input
  pub since_left_behind : (s : State) → IsSound s → (r p q a : ℕ) (b : Option ℕ) → r < length nodes → slice_get nodes r ≡ Some (Since p q a b)
      → (g : ℤ) → s.fronts r ≡ Some g → (f : ℤ) × (s.fronts p ≡ Some f) × (g ≤ℤ f)
  since_left_behind s sound r p q a b l at g e = by_test (s.closed && all_at_end s (children n)) refl
    where
      n : Node
      n = Since p q a b

      at_place : slice_index_or nodes r (Const false) ≡ Since p q a b
      at_place = let x = node_there r l in cc

      h : (h : ℤ) × (allowed (Since p q a b) s ≡ Some h) × (g ≤ℤ h)
      h = subst (λ m. (h : ℤ) × (allowed m s ≡ Some h) × (g ≤ℤ h)) at_place (sound.rising r l g e)

      by_test : (t : Bool) → (s.closed && all_at_end s (p ∷ q ∷ [])) ≡ t → (f : ℤ) × (s.fronts p ≡ Some f) × (g ≤ℤ f)
      by_test true x =
          let last : last_row s ≡ Some h.0 =
          subst (λ t. cond t (last_row s) (least (s.fronts p) (moved_by (pos a) (s.fronts q))) ≡ Some h.0) x h.1 in
          (h.0, at_end_reads s (Since p q a b) true p refl (both s.closed (all_at_end s (p ∷ q ∷ [])) x) ∙ last, h.2)
        where
          both : (a b : Bool) → (a && b) ≡ true → b ≡ true
          both true b y = y
          both false b y = absurd (let z : false ≡ true = y in cc)
      by_test false x =
          let low = lesser (s.fronts p) (moved_by (pos a) (s.fronts q)) h.0
          (subst (λ t. cond t (last_row s) (least (s.fronts p) (moved_by (pos a) (s.fronts q))) ≡ Some h.0) x h.1) in
          (low.0, low.2, (let c = low.4 in let d = h.2 in omega (arith, ints)))
