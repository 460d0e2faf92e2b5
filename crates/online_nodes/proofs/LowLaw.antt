-- How far the numbers of a run lie below its start: by no more than the node's horizon.
use Rattle.std.proofs.Common.{◌≡◌, refl, sym, subst, ◌∙◌, ℕ, ◌<◌, ◌+◌, ◌-◌, max, Bool, true, false, Some, None, List, ℤ, pos, neg_ℤ, ◌+ℤ◌, ◌≤ℤ◌, ◌<ℤ◌, arith}
use Rattle.std.specs.Prelude.{int_lt, cond, ◌&&◌, ◌==◌, slice_index_or, slice_get, length, [], ◌∷◌, ◌++◌, IfSome}
use Rattle.std.proofs.lemmas.Int.{ints}
use Rattle.std.proofs.lemmas.Option.{same_Some}
use Rattle.stl_syntax.specs.Trace.{Header, Row, first_time}
use Rattle.stl_syntax.specs.Formula.{Subformula, subformula, horizon, tree_of, HasChildrenBelow}
use Rattle.stl_syntax.specs.PostOrder.{IsPostOrder, children}
use Rattle.stl_syntax.proofs.FormulaLemmas.{subformula-at}
use Rattle.stl_syntax.proofs.PostOrderLemmas.{placed, slice_get_at}
use Rattle.online_nodes.specs.Network.{Event, row, step, close, take, Front, least, moved_by, State, last_row, open_number}
use Rattle.online_nodes.specs.Network.{allowed, allowed_at, all_at_end, node_is_atom, initial, after_event, state_from, state}
use Rattle.online_nodes.specs.Network.{MayCome, IsRunFrom, IsRun}
use Rattle.online_nodes.proofs.RunLaw.{none_is_none, moved, last_appended}
use Rattle.stl_syntax.specs.declared.node.Node.{Node}
use Rattle.stl_syntax.specs.declared.node.Node.TheVariants.{Const, Atom as Leaf, Not, And, Or, Implies, Until, Eventually}
use Rattle.stl_syntax.specs.declared.node.Node.TheVariants.{Always, Since, Once, Historically}

-- the least of two numbers is one of them
one_of : (o q : Front) (f : ℤ) → least o q ≡ Some f → (g h : ℤ) × (o ≡ Some g) × (q ≡ Some h) × (cond (int_lt h g) h g ≡ f)
one_of None q f e = absurd (none_is_none f e)
one_of (Some g) None f e = absurd (none_is_none f e)
one_of (Some g) (Some h) f e = (g, h, refl, refl, by_test (int_lt h g) e)
  where
    by_test : (t : Bool) → cond t (Some h) (Some g) ≡ Some f → cond t h g ≡ f
    by_test true x = same_Some h f x
    by_test false x = same_Some g f x

-- a number, with its horizon, is not below the start
abbrev pub IsFrom : ℕ → ℕ → ℤ → Type 0
IsFrom start h f = pos start ≤ℤ (f +ℤ pos h)

lesser_from : (start h j m : ℕ) (g k f : ℤ) (t : Bool) → cond t k g ≡ f → pos start ≤ℤ (g +ℤ pos m) → pos start ≤ℤ (k +ℤ pos m)
    → IsFrom start m f
lesser_from start h j m g k f true e u v = subst (λ z. pos start ≤ℤ (z +ℤ pos m)) e v
lesser_from start h j m g k f false e u v = subst (λ z. pos start ≤ℤ (z +ℤ pos m)) e u

module _ (at : ℕ → Subformula) (s : State) (start : ℕ) where
  abbrev From : ℕ → Type 0
  From p = (g : ℤ) → s.fronts p ≡ Some g → IsFrom start (horizon (at p)) g

  join : (p q : ℕ) (f : ℤ) → From p → From q → least (s.fronts p) (s.fronts q) ≡ Some f → IsFrom start (max (horizon (at p)) (horizon (at q))) f
  join p q f b d e = by_both (one_of (s.fronts p) (s.fronts q) f e)
    where
      by_both : (g h : ℤ) × (s.fronts p ≡ Some g) × (s.fronts q ≡ Some h) × (cond (int_lt h g) h g ≡ f)
          → IsFrom start (max (horizon (at p)) (horizon (at q))) f
      by_both (g, h, x, y, l) =
          let u = b g x in
          let v = d h y in
          lesser_from start (horizon (at p)) (horizon (at q)) (max (horizon (at p)) (horizon (at q))) g h f (int_lt h g) l
          (omega (arith, ints)) (omega (arith, ints))

  ahead_by : (b h : ℕ) (o : Front) (f : ℤ) → ((g : ℤ) → o ≡ Some g → IsFrom start h g) → moved_by (neg_ℤ (pos b)) o ≡ Some f
      → IsFrom start (b + h) f
  ahead_by b h o f k e = by_move (moved (neg_ℤ (pos b)) o f e)
    where
      by_move : (g : ℤ) × (o ≡ Some g) × (f ≡ g +ℤ neg_ℤ (pos b)) → IsFrom start (b + h) f
      by_move (g, x, y) = let u = k g x in omega (arith, ints)

  behind_by : (p a : ℕ) (f : ℤ) → ((l : ℤ) → last_row s ≡ Some l → pos start ≤ℤ l) → From p
      → least (moved_by (pos a) (s.fronts p)) (last_row s) ≡ Some f → IsFrom start (horizon (at p) - a) f
  behind_by p a f last b e = by_both (one_of (moved_by (pos a) (s.fronts p)) (last_row s) f e)
    where
      by_both : (g h : ℤ) × (moved_by (pos a) (s.fronts p) ≡ Some g) × (last_row s ≡ Some h) × (cond (int_lt h g) h g ≡ f)
          → IsFrom start (horizon (at p) - a) f
      by_both (g, h, x, y, l) = by_move (moved (pos a) (s.fronts p) g x)
        where
          by_move : (j : ℤ) × (s.fronts p ≡ Some j) × (g ≡ j +ℤ pos a) → IsFrom start (horizon (at p) - a) f
          by_move (j, z, w) =
              let u = b j z in
              let v = last h y in
              lesser_from start 0 0 (horizon (at p) - a) g h f (int_lt h g) l (omega (arith, ints)) (omega (arith, ints))

  since_by : (p q a : ℕ) (f : ℤ) → From p → From q → least (s.fronts p) (moved_by (pos a) (s.fronts q)) ≡ Some f
      → IsFrom start (max (horizon (at p)) (horizon (at q) - a)) f
  since_by p q a f b d e = by_both (one_of (s.fronts p) (moved_by (pos a) (s.fronts q)) f e)
    where
      by_both : (g h : ℤ) × (s.fronts p ≡ Some g) × (moved_by (pos a) (s.fronts q) ≡ Some h) × (cond (int_lt h g) h g ≡ f)
          → IsFrom start (max (horizon (at p)) (horizon (at q) - a)) f
      by_both (g, h, x, y, l) = by_move (moved (pos a) (s.fronts q) h y)
        where
          by_move : (j : ℤ) × (s.fronts q ≡ Some j) × (h ≡ j +ℤ pos a) → IsFrom start (max (horizon (at p)) (horizon (at q) - a)) f
          by_move (j, z, w) =
              let u = b g x in
              let v = d j z in
              lesser_from start 0 0 (max (horizon (at p)) (horizon (at q) - a)) g h f (int_lt h g) l
              (omega (arith, ints)) (omega (arith, ints))

  -- the number that a node may have before the end is so, if those of its children are
  open_from : (i : ℕ) (n : Node) (f : ℤ) → ((l : ℤ) → last_row s ≡ Some l → pos start ≤ℤ l) → HasChildrenBelow i n
      → ((j : ℕ) → j < i → From j) → open_number n s ≡ Some f → IsFrom start (horizon (tree_of at i n)) f
  open_from i (Const b) f last c k e = let x = last f e in omega (arith, ints)
  open_from i (Leaf a) f last c k e = let x = last f e in omega (arith, ints)
  open_from i (Not p) f last c k e = k p c f e
  open_from i (And p q) f last c k e = join p q f (k p c.0) (k q c.1) e
  open_from i (Or p q) f last c k e = join p q f (k p c.0) (k q c.1) e
  open_from i (Implies p q) f last c k e = join p q f (k p c.0) (k q c.1) e
  open_from i (Until p q a b) f last c k e = ahead_by b (max (horizon (at p)) (horizon (at q))) (least (s.fronts p) (s.fronts q)) f
      (λ g. join p q g (k p c.0) (k q c.1)) e
  open_from i (Eventually p a b a_in b_in) f last c k e = ahead_by b (horizon (at p)) (s.fronts p) f (k p c) e
  open_from i (Always p a b a_in b_in) f last c k e = ahead_by b (horizon (at p)) (s.fronts p) f (k p c) e
  open_from i (Since p q a b) f last c k e = since_by p q a f (k p c.0) (k q c.1) e
  open_from i (Once p a b a_in b_in) f last c k e = behind_by p a f last (k p c) e
  open_from i (Historically p a b a_in b_in) f last c k e = behind_by p a f last (k p c) e

-- the start is the first row's time, also with a row more; and rows rise
first_appended : (rows : List Row) (r : Row) (l : ℤ) (closed : Bool) (fronts : ℕ → Front)
    → last_row (record { rows = rows; closed = closed; fronts = fronts }) ≡ Some l → first_time (rows ++ r ∷ []) ≡ first_time rows
first_appended [] r l closed fronts e = absurd (none_is_none l e)
first_appended (q ∷ rows) r l closed fronts e = refl

module _ (nodes : List Node) (header : Header) (order : IsPostOrder nodes) where
  -- the last row is not before the first, and no number lies further below the first than by its node's horizon
  pub record AllFrom (s : State) : Type 0 where
    -- the last row is not before the first
    pub last : (l : ℤ) → last_row s ≡ Some l → pos (first_time s.rows) ≤ℤ l
    -- no number lies further before the start than its node's horizon
    pub numbers : (i : ℕ) (f : ℤ) → i < length nodes → s.fronts i ≡ Some f
        → IsFrom (first_time s.rows) (horizon (subformula nodes i)) f
    -- a number comes after a row
    pub some : (i : ℕ) (f : ℤ) → i < length nodes → s.fronts i ≡ Some f → (l : ℤ) × (last_row s ≡ Some l)

  -- where some number is there, a row came
  open_some : (s : State) (i : ℕ) (n : Node) (f : ℤ) → AllFrom s → i < length nodes → HasChildrenBelow i n → open_number n s ≡ Some f
      → (l : ℤ) × (last_row s ≡ Some l)
  open_some s i (Const b) f all l c e = (f, e)
  open_some s i (Leaf a) f all l c e = (f, e)
  open_some s i (Not p) f all l c e = all.some p f (omega (arith, l, c)) e
  open_some s i (And p q) f all l c e = let w = one_of (s.fronts p) (s.fronts q) f e in all.some p w.0 (omega (arith, l, c.0)) w.2
  open_some s i (Or p q) f all l c e = let w = one_of (s.fronts p) (s.fronts q) f e in all.some p w.0 (omega (arith, l, c.0)) w.2
  open_some s i (Implies p q) f all l c e = let w = one_of (s.fronts p) (s.fronts q) f e in all.some p w.0 (omega (arith, l, c.0)) w.2
  open_some s i (Until p q a b) f all l c e =
      let m = moved (neg_ℤ (pos b)) (least (s.fronts p) (s.fronts q)) f e in
      let w = one_of (s.fronts p) (s.fronts q) m.0 m.1 in all.some p w.0 (omega (arith, l, c.0)) w.2
  open_some s i (Eventually p a b a_in b_in) f all l c e =
      let m = moved (neg_ℤ (pos b)) (s.fronts p) f e in all.some p m.0 (omega (arith, l, c)) m.1
  open_some s i (Always p a b a_in b_in) f all l c e =
      let m = moved (neg_ℤ (pos b)) (s.fronts p) f e in all.some p m.0 (omega (arith, l, c)) m.1
  open_some s i (Since p q a b) f all l c e =
      let w = one_of (s.fronts p) (moved_by (pos a) (s.fronts q)) f e in all.some p w.0 (omega (arith, l, c.0)) w.2
  open_some s i (Once p a b a_in b_in) f all l c e =
      let w = one_of (moved_by (pos a) (s.fronts p)) (last_row s) f e in (w.1, w.3)
  open_some s i (Historically p a b a_in b_in) f all l c e =
      let w = one_of (moved_by (pos a) (s.fronts p)) (last_row s) f e in (w.1, w.3)

  -- a number that a node is allowed lies no further before the start than its horizon
  pub allowed_from : (s : State) (i : ℕ) (n : Node) (f : ℤ) → i < length nodes → slice_get nodes i ≡ Some n → AllFrom s
      → allowed n s ≡ Some f → IsFrom (first_time s.rows) (horizon (subformula nodes i)) f × ((l : ℤ) × (last_row s ≡ Some l))
  allowed_from s i n f l at all e = by_test (s.closed && all_at_end s (children n)) refl
    where
      below : HasChildrenBelow i n
      below = placed nodes i n order at

      by_test : (t : Bool) → (s.closed && all_at_end s (children n)) ≡ t
          → IsFrom (first_time s.rows) (horizon (subformula nodes i)) f × ((l : ℤ) × (last_row s ≡ Some l))
      by_test true x =
          let is : last_row s ≡ Some f = subst (λ t. cond t (last_row s) (open_number n s) ≡ Some f) x e in
          let y = all.last f is in (omega (arith, ints), (f, is))
      by_test false x =
          let is : open_number n s ≡ Some f = subst (λ t. cond t (last_row s) (open_number n s) ≡ Some f) x e in (
            subst (λ p. IsFrom (first_time s.rows) (horizon p) f) (sym (subformula-at nodes i n at below))
                (open_from (subformula nodes) s (first_time s.rows) i n f all.last below
                (λ j k g. all.numbers j g (omega (arith, k, l))) is),
            open_some s i n f all l below is,
          )

  from_after : (s : State) (e : Event) → MayCome nodes header s e → AllFrom s → AllFrom (after_event nodes s e)
  from_after s (row r) may all = record {
    last = λ l e. by_last l e;
    numbers = λ i f l e. by_test i f l e (node_is_atom nodes i) refl;
    some = λ i f l e. (pos r.time, last_appended s.rows r s.closed (after_event nodes s (row r)).fronts);
  }
    where
      begins : (rows : List Row) → IfSome (last_row (record { rows = rows; closed = s.closed; fronts = s.fronts })) (λ f. f <ℤ pos r.time)
          → ((l : ℤ) → last_row (record { rows = rows; closed = s.closed; fronts = s.fronts }) ≡ Some l → pos (first_time rows) ≤ℤ l)
          → pos (first_time (rows ++ r ∷ [])) ≤ℤ pos r.time
      begins [] later from = omega (arith, ints)
      begins (q ∷ rows) later from = let x = from _ refl in omega (arith, ints)

      by_last : (l : ℤ) → last_row (after_event nodes s (row r)) ≡ Some l → pos (first_time (s.rows ++ r ∷ [])) ≤ℤ l
      by_last l e =
          subst (λ z. pos (first_time (s.rows ++ r ∷ [])) ≤ℤ z)
          (same_Some (pos r.time) l (sym (last_appended s.rows r s.closed (after_event nodes s (row r)).fronts) ∙ e))
          (begins s.rows may.1 all.last)

      by_test : (i : ℕ) (f : ℤ) → i < length nodes → cond (node_is_atom nodes i) (Some (pos r.time)) (s.fronts i) ≡ Some f
          → (t : Bool) → node_is_atom nodes i ≡ t → IsFrom (first_time (s.rows ++ r ∷ [])) (horizon (subformula nodes i)) f
      by_test i f l e true x =
          let is : pos r.time ≡ f = same_Some (pos r.time) f (subst (λ t. cond t (Some (pos r.time)) (s.fronts i) ≡ Some f) x e) in
          let y = begins s.rows may.1 all.last in omega (arith, ints)
      by_test i f l e false x =
          let is : s.fronts i ≡ Some f = subst (λ t. cond t (Some (pos r.time)) (s.fronts i) ≡ Some f) x e in
          let w = all.some i f l is in
          subst (λ n. IsFrom n (horizon (subformula nodes i)) f) (sym (first_appended s.rows r w.0 s.closed s.fronts w.1))
          (all.numbers i f l is)
  from_after s (step i) may all = record {
    last = all.last;
    numbers = λ j f l e. (by_test j f l e (j == i) refl).0;
    some = λ j f l e. (by_test j f l e (j == i) refl).1;
  }
    where
      by_test : (j : ℕ) (f : ℤ) → j < length nodes → cond (j == i) (allowed_at nodes s i) (s.fronts j) ≡ Some f
          → (t : Bool) → (j == i) ≡ t
          → IsFrom (first_time s.rows) (horizon (subformula nodes j)) f × ((l : ℤ) × (last_row s ≡ Some l))
      by_test j f l e true x =
          let same : j ≡ i = grind (arith, x) in
          subst (λ k. IsFrom (first_time s.rows) (horizon (subformula nodes k)) f × ((l : ℤ) × (last_row s ≡ Some l))) (sym same)
          (allowed_from s i (slice_index_or nodes i (Const false)) f may.0 (slice_get_at nodes i (Const false) may.0) all
          (subst (λ t. cond t (allowed_at nodes s i) (s.fronts j) ≡ Some f) x e))
      by_test j f l e false x =
          let is : s.fronts j ≡ Some f = subst (λ t. cond t (allowed_at nodes s i) (s.fronts j) ≡ Some f) x e in
          (all.numbers j f l is, all.some j f l is)
  from_after s close may all = record { last = all.last; numbers = all.numbers; some = all.some }
  from_after s take may all = all

  from_from : (s : State) (events : List Event) → IsRunFrom nodes header s events → AllFrom s → AllFrom (state_from nodes s events)
  from_from s [] r all = all
  from_from s (e ∷ events) r all = from_from (after_event nodes s e) events r.1 (from_after s e r.0 all)

  -- after a run no number lies further below the start than by its node's horizon
  pub within_start : (events : List Event) → IsRun nodes header events → AllFrom (state nodes events)
  unfolding state
  within_start events r = from_from initial events r
      (record { last = λ l e. absurd (none_is_none l e); numbers = λ i f l e. absurd (none_is_none f e); some = λ i f l e. absurd (none_is_none f e) })
