-- How far the numbers of a run go.
use Rattle.std.proofs.Common.{◌≡◌, refl, sym, ap, subst, ◌∙◌, ℕ, ◌<◌, ◌+◌, ◌-◌, max, Bool, true}
use Rattle.std.proofs.Common.{false, Some, None, List, ℤ, pos, neg_ℤ, ◌+ℤ◌, ◌≤ℤ◌, ◌<ℤ◌, arith}
use Rattle.std.specs.Prelude.{int_lt, cond, ◌&&◌, ◌==◌, slice_index_or, slice_get, length, [], ◌∷◌, ◌++◌, IfSome}
use Rattle.std.proofs.lemmas.Int.{ints}
use Rattle.std.proofs.lemmas.Bool.{and_parts}
use Rattle.std.proofs.lemmas.Option.{same_Some}
use Rattle.rational.proofs.Tests.{int_order}
use Rattle.stl_syntax.specs.Trace.{Header, Row, last_time}
use Rattle.stl_syntax.specs.Formula.{Subformula, subformula, horizon, tree_of, HasChildrenBelow}
use Rattle.stl_syntax.specs.PostOrder.{IsPostOrder, children}
use Rattle.stl_syntax.proofs.FormulaLemmas.{subformula-at}
use Rattle.stl_syntax.proofs.PostOrderLemmas.{placed, slice_get_at}
use Rattle.online_nodes.specs.Network.{Event, row, step, close, take, Front, least, moved_by, State, last_row, open_number}
use Rattle.online_nodes.specs.Network.{allowed, allowed_at, all_at_end, is_atom, node_is_atom, initial, after_event, state_from}
use Rattle.online_nodes.specs.Network.{state, MayCome, IsRunFrom, IsRun}
use Rattle.online_nodes.specs.Laws.{IsBounded}
use Rattle.stl_syntax.specs.declared.node.Node.{Node}
use Rattle.stl_syntax.specs.declared.node.Node.TheVariants.{Const, Atom as Leaf, Not, And, Or, Implies, Until, Eventually}
use Rattle.stl_syntax.specs.declared.node.Node.TheVariants.{Always, Since, Once, Historically}

-- none is no number
pub none_is_none : (a : ℤ) → None ≡ Some a → ⊥
none_is_none a e = cc

-- a moved front has a number that was moved
pub moved : (k : ℤ) (o : Front) (f : ℤ) → moved_by k o ≡ Some f → (g : ℤ) × (o ≡ Some g) × (f ≡ g +ℤ k)
moved k None f e = absurd (none_is_none f e)
moved k (Some g) f e = (g, refl, sym (same_Some (g +ℤ k) f e))

-- the least of two fronts is at most both
pub lesser : (o q : Front) (f : ℤ) → least o q ≡ Some f → (g h : ℤ) × (o ≡ Some g) × (q ≡ Some h) × (f ≤ℤ g) × (f ≤ℤ h)
lesser None q f e = absurd (none_is_none f e)
lesser (Some g) None f e = absurd (none_is_none f e)
lesser (Some g) (Some h) f e = by_test (int_lt h g) refl
  where
    by_test : (t : Bool) → int_lt h g ≡ t → (a b : ℤ) × (Some g ≡ Some a) × (Some h ≡ Some b) × (f ≤ℤ a) × (f ≤ℤ b)
    by_test true x =
        let is : h ≡ f = same_Some h f (subst (λ t. cond t (Some h) (Some g) ≡ Some f) x e) in
        let o : h <ℤ g = int_order h g true x in
        (g, h, refl, refl, omega (arith, ints), omega (arith, ints))
    by_test false x =
        let is : g ≡ f = same_Some g f (subst (λ t. cond t (Some h) (Some g) ≡ Some f) x e) in
        let o : g ≤ℤ h = int_order h g false x in
        (g, h, refl, refl, omega (arith, ints), omega (arith, ints))

-- a number moved by k, with a horizon that is as much less
down : (s : State) (h j : ℕ) (f g : ℤ) → IsBounded s h g → f ≤ℤ g → (f +ℤ pos j) ≤ℤ (g +ℤ pos h) → IsBounded s j f
down s h j f g b l k = record {
  last = b.last;
  is_last = b.is_last;
  by_now = let x = b.by_now in omega (arith, ints);
  ahead = λ e. let x = b.ahead e in omega (arith, ints);
}

-- a number below two, with a horizon that both bound
two : (s : State) (h j m : ℕ) (f g k : ℤ) → IsBounded s h g → IsBounded s j k → f ≤ℤ g → f ≤ℤ k
    → ((last : ℤ) → (g +ℤ pos h) ≤ℤ last → (k +ℤ pos j) ≤ℤ last → (f +ℤ pos m) ≤ℤ last) → IsBounded s m f
two s h j m f g k b d l n below = record {
  last = b.last;
  is_last = b.is_last;
  by_now = let x = b.by_now in omega (arith, ints);
  ahead = λ e. below b.last (b.ahead e)
      (subst (λ z. (k +ℤ pos j) ≤ℤ z) (same_Some d.last b.last (sym d.is_last ∙ b.is_last)) (d.ahead e));
}

module _ (at : ℕ → Subformula) (s : State) where
  abbrev Bounded : ℕ → Type 0
  Bounded p = (g : ℤ) → s.fronts p ≡ Some g → IsBounded s (horizon (at p)) g

  join : (p q : ℕ) (f : ℤ) → Bounded p → Bounded q → least (s.fronts p) (s.fronts q) ≡ Some f
      → IsBounded s (max (horizon (at p)) (horizon (at q))) f
  join p q f b d e = by_both (lesser (s.fronts p) (s.fronts q) f e)
    where
      by_both : (g h : ℤ) × (s.fronts p ≡ Some g) × (s.fronts q ≡ Some h) × (f ≤ℤ g) × (f ≤ℤ h)
          → IsBounded s (max (horizon (at p)) (horizon (at q))) f
      by_both (g, h, x, y, l, m) =
          two s (horizon (at p)) (horizon (at q)) (max (horizon (at p)) (horizon (at q))) f g h (b g x) (d h y) l m
          (λ last u v. omega (arith, ints))

  ahead_by : (b h : ℕ) (o : Front) (f : ℤ) → ((g : ℤ) → o ≡ Some g → IsBounded s h g) → moved_by (neg_ℤ (pos b)) o ≡ Some f
      → IsBounded s (b + h) f
  ahead_by b h o f k e = by_move (moved (neg_ℤ (pos b)) o f e)
    where
      by_move : (g : ℤ) × (o ≡ Some g) × (f ≡ g +ℤ neg_ℤ (pos b)) → IsBounded s (b + h) f
      by_move (g, x, y) = down s h (b + h) f g (k g x) (omega (arith, ints)) (omega (arith, ints))

  behind_by : (p a : ℕ) (f : ℤ) → Bounded p → least (moved_by (pos a) (s.fronts p)) (last_row s) ≡ Some f
      → IsBounded s (horizon (at p) - a) f
  behind_by p a f b e = by_both (lesser (moved_by (pos a) (s.fronts p)) (last_row s) f e)
    where
      by_both : (g h : ℤ) × (moved_by (pos a) (s.fronts p) ≡ Some g) × (last_row s ≡ Some h) × (f ≤ℤ g) × (f ≤ℤ h)
          → IsBounded s (horizon (at p) - a) f
      by_both (g, h, x, y, l, m) = by_move (moved (pos a) (s.fronts p) g x)
        where
          by_move : (j : ℤ) × (s.fronts p ≡ Some j) × (g ≡ j +ℤ pos a) → IsBounded s (horizon (at p) - a) f
          by_move (j, z, w) = record {
            last = h;
            is_last = y;
            by_now = m;
            ahead = λ c. let u : (j +ℤ pos (horizon (at p))) ≤ℤ h = subst (λ v. (j +ℤ pos (horizon (at p))) ≤ℤ v)
                (same_Some (b j z).last h (sym (b j z).is_last ∙ y)) ((b j z).ahead c) in omega (arith, ints);
          }

  since_by : (p q a : ℕ) (f : ℤ) → Bounded p → Bounded q → least (s.fronts p) (moved_by (pos a) (s.fronts q)) ≡ Some f
      → IsBounded s (max (horizon (at p)) (horizon (at q) - a)) f
  since_by p q a f b d e = by_both (lesser (s.fronts p) (moved_by (pos a) (s.fronts q)) f e)
    where
      by_both : (g h : ℤ) × (s.fronts p ≡ Some g) × (moved_by (pos a) (s.fronts q) ≡ Some h) × (f ≤ℤ g) × (f ≤ℤ h)
          → IsBounded s (max (horizon (at p)) (horizon (at q) - a)) f
      by_both (g, h, x, y, l, m) = by_move (moved (pos a) (s.fronts q) h y)
        where
          by_move : (j : ℤ) × (s.fronts q ≡ Some j) × (h ≡ j +ℤ pos a) → IsBounded s (max (horizon (at p)) (horizon (at q) - a)) f
          by_move (j, z, w) = record {
            last = (b g x).last;
            is_last = (b g x).is_last;
            by_now = let u = (b g x).by_now in omega (arith, ints);
            ahead = λ c.
                let u = (b g x).ahead c in
                let v : (j +ℤ pos (horizon (at q))) ≤ℤ (b g x).last = subst (λ t. (j +ℤ pos (horizon (at q))) ≤ℤ t)
                (same_Some (d j z).last (b g x).last (sym (d j z).is_last ∙ (b g x).is_last)) ((d j z).ahead c) in
                let r = (b g x).by_now in
                omega (arith, ints);
          }

  -- the number that a node may have before the end is bounded, if those of its children are
  pub open_bound : (i : ℕ) (n : Node) (f : ℤ) → HasChildrenBelow i n → ((j : ℕ) → j < i → Bounded j) → open_number n s ≡ Some f
      → IsBounded s (horizon (tree_of at i n)) f
  open_bound i (Const b) f c k e = record
      { last = f; is_last = e; by_now = omega (arith, ints); ahead = λ _. omega (arith, ints) }
  open_bound i (Leaf a) f c k e = record { last = f; is_last = e; by_now = omega (arith, ints); ahead = λ _. omega (arith, ints) }
  open_bound i (Not p) f c k e = k p c f e
  open_bound i (And p q) f c k e = join p q f (k p c.0) (k q c.1) e
  open_bound i (Or p q) f c k e = join p q f (k p c.0) (k q c.1) e
  open_bound i (Implies p q) f c k e = join p q f (k p c.0) (k q c.1) e
  open_bound i (Until p q a b) f c k e = ahead_by b (max (horizon (at p)) (horizon (at q))) (least (s.fronts p) (s.fronts q)) f
      (λ g. join p q g (k p c.0) (k q c.1)) e
  open_bound i (Eventually p a b a_in b_in) f c k e = ahead_by b (horizon (at p)) (s.fronts p) f (k p c) e
  open_bound i (Always p a b a_in b_in) f c k e = ahead_by b (horizon (at p)) (s.fronts p) f (k p c) e
  open_bound i (Since p q a b) f c k e = since_by p q a f (k p c.0) (k q c.1) e
  open_bound i (Once p a b a_in b_in) f c k e = behind_by p a f (k p c) e
  open_bound i (Historically p a b a_in b_in) f c k e = behind_by p a f (k p c) e

-- the last row is the one that came last
pub last_appended : (rows : List Row) (r : Row) (closed : Bool) (fronts : ℕ → Front)
    → last_row (record { rows = rows ++ r ∷ []; closed = closed; fronts = fronts }) ≡ Some (pos r.time)
last_appended [] r closed fronts = refl
last_appended (q ∷ rows) r closed fronts = ap (λ t. Some (pos t)) (by_rest q.time rows)
  where
    by_rest : (t : ℕ) (rows : List Row) → last_time t (rows ++ r ∷ []) ≡ r.time
    by_rest t [] = refl
    by_rest t (q ∷ rows) = by_rest q.time rows

module _ (nodes : List Node) (header : Header) (order : IsPostOrder nodes) where
  abbrev pub AllBounded : State → Type 0
  AllBounded s = (i : ℕ) (f : ℤ) → i < length nodes → s.fronts i ≡ Some f → IsBounded s (horizon (subformula nodes i)) f

  node_at : ℕ → Node
  node_at i = slice_index_or nodes i (Const false)

  -- the number that a node is allowed is not behind the last row
  pub allowed_bound : (s : State) (i : ℕ) (n : Node) (f : ℤ) → i < length nodes → slice_get nodes i ≡ Some n → AllBounded s
      → allowed n s ≡ Some f → IsBounded s (horizon (subformula nodes i)) f
  allowed_bound s i n f l at all e = by_test (s.closed && all_at_end s (children n)) refl
    where
      below : HasChildrenBelow i n
      below = placed nodes i n order at

      by_test : (t : Bool) → (s.closed && all_at_end s (children n)) ≡ t → IsBounded s (horizon (subformula nodes i)) f
      by_test true x = record {
        last = f;
        is_last = subst (λ t. cond t (last_row s) (open_number n s) ≡ Some f) x e;
        by_now = omega (arith, ints);
        ahead = λ c. absurd (let y = (and_parts s.closed (all_at_end s (children n)) x).0 in cc);
      }
      by_test false x =
          subst (λ p. IsBounded s (horizon p) f) (sym (subformula-at nodes i n at below))
          (open_bound (subformula nodes) s i n f below (λ j k g. all j g (omega (arith, k, l))) (subst (λ t. cond t (last_row s)
          (open_number n s) ≡ Some f) x e))

  atom_horizon : (i : ℕ) → i < length nodes → node_is_atom nodes i ≡ true → horizon (subformula nodes i) ≡ 0
  atom_horizon i l e = by_node (slice_index_or nodes i (Const false)) (slice_get_at nodes i (Const false) l) e
    where
      by_node : (n : Node) → slice_get nodes i ≡ Some n → is_atom n ≡ true → horizon (subformula nodes i) ≡ 0
      by_node (Leaf a) at x = ap (λ p. horizon p) (subformula-at nodes i (Leaf a) at (placed nodes i (Leaf a) order at))
      by_node _ at x = absurd (let y : false ≡ true = x in cc)

  -- one more event keeps all numbers bounded
  pub bounded_after : (s : State) (e : Event) → MayCome nodes header s e → AllBounded s → AllBounded (after_event nodes s e)
  bounded_after s (row r) may all i f l e = by_test (node_is_atom nodes i) refl e
    where
      by_test : (t : Bool) → node_is_atom nodes i ≡ t → cond (node_is_atom nodes i) (Some (pos r.time)) (s.fronts i) ≡ Some f
          → IsBounded (after_event nodes s (row r)) (horizon (subformula nodes i)) f
      by_test true x y =
          let is : pos r.time ≡ f = same_Some (pos r.time) f (subst (λ t. cond t (Some (pos r.time)) (s.fronts i) ≡ Some f) x y) in
          record {
            last = pos r.time;
            is_last = last_appended s.rows r s.closed (after_event nodes s (row r)).fronts;
            by_now = omega (arith, ints);
            ahead = λ c. let h = atom_horizon i l x in omega (arith, ints);
          }
      by_test false x y =
          let b = all i f l (subst (λ t. cond t (Some (pos r.time)) (s.fronts i) ≡ Some f) x y) in
          let later : b.last <ℤ pos r.time = subst (λ o. IfSome o (λ f. f <ℤ pos r.time)) b.is_last may.1 in
          record {
            last = pos r.time;
            is_last = last_appended s.rows r s.closed (after_event nodes s (row r)).fronts;
            by_now = let z = b.by_now in omega (arith, ints);
            ahead = λ c. let z = b.ahead c in omega (arith, ints);
          }
  bounded_after s (step i) may all j f l e = by_test (j == i) refl e
    where
      kept : (h : ℕ) → IsBounded s h f → IsBounded (after_event nodes s (step i)) h f
      kept h b = record { last = b.last; is_last = b.is_last; by_now = b.by_now; ahead = b.ahead }

      by_test : (t : Bool) → (j == i) ≡ t → cond (j == i) (allowed_at nodes s i) (s.fronts j) ≡ Some f
          → IsBounded (after_event nodes s (step i)) (horizon (subformula nodes j)) f
      by_test true x y =
          let same : j ≡ i = grind (arith, x) in
          kept (horizon (subformula nodes j)) (subst (λ k. IsBounded s (horizon (subformula nodes k)) f) (sym same)
          (allowed_bound s i (slice_index_or nodes i (Const false)) f may.0 (slice_get_at nodes i (Const false) may.0) all (subst
          (λ t. cond t (allowed_at nodes s i) (s.fronts j) ≡ Some f) x y)))
      by_test false x y = kept (horizon (subformula nodes j))
          (all j f l (subst (λ t. cond t (allowed_at nodes s i) (s.fronts j) ≡ Some f) x y))
  bounded_after s close may all i f l e =
      let b = all i f l e in
      record { last = b.last; is_last = b.is_last; by_now = b.by_now; ahead = λ c. absurd (let y : true ≡ false = c in cc) }
  bounded_after s take may all i f l e = all i f l e

  bounded_from : (s : State) (events : List Event) → IsRunFrom nodes header s events → AllBounded s
      → AllBounded (state_from nodes s events)
  bounded_from s [] r all = all
  bounded_from s (e ∷ events) r all = bounded_from (after_event nodes s e) events r.1 (bounded_after s e r.0 all)

  -- within the horizon: after a run each number is at most the last row's time, and before the end so it is with its horizon
  pub within_horizon : (events : List Event) → IsRun nodes header events → AllBounded (state nodes events)
  unfolding state
  within_horizon events r = bounded_from initial events r (λ i f l e. absurd (none_is_none f e))
