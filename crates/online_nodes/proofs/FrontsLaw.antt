-- In the run that a stream drives the front of each node is the last row's time less the horizon, and that time itself after the end.
use Rattle.std.proofs.Common.{◌≡◌, refl, sym, ap, subst, ◌∙◌, ℕ, zero, suc, ◌<◌, ◌+◌, ◌-◌, max, Bool, true, false}
use Rattle.std.proofs.Common.{Some, None, List, [], ◌∷◌, ◌++◌, length, take as first, ℤ, pos, neg_ℤ, ◌+ℤ◌, ◌-ℤ◌}
use Rattle.std.proofs.Common.{◌<ℤ◌, ◌≤ℤ◌, ◌≢◌, inl, inr, All, arith, append-nil, append_assoc, length-append}
use Rattle.std.proofs.Math.Seq.{get_or-append_seam}
use Rattle.std.proofs.lemmas.List.{length_push, length-take-le}
use Rattle.std.proofs.lemmas.Bool.{cases_lt, eq-eqb}
use Rattle.std.specs.Prelude.{int_lt, cond, ◌&&◌, ◌==◌, slice_index_or, slice_get}
use Rattle.std.proofs.lemmas.Int.{ints}
use Rattle.rational.proofs.Tests.{int_order}
use Rattle.stl_syntax.specs.Trace.{Header, Row, last_time}
use Rattle.stl_syntax.specs.Formula.{Subformula, subformula, horizon, tree_of, HasChildrenBelow}
use Rattle.stl_syntax.specs.PostOrder.{IsPostOrder, children}
use Rattle.online_nodes.specs.Network.{Event, row, step, close, Front, least, moved_by, State, last_row}
use Rattle.online_nodes.specs.Network.{open_number, same_front, all_at_end, allowed, allowed_at, is_atom}
use Rattle.online_nodes.specs.Network.{node_is_atom, initial, after_event, state_from, state}
use Rattle.online_nodes.specs.Driven.{rows_of, steps_of, takes, pass_of, IsDriven, nothing, by_rows, by_end}
use Rattle.online_nodes.specs.StreamedWide.{front_at}
use Rattle.online_nodes.specs.Laws.{FrontsAreTimes}
use Rattle.online_nodes.proofs.RunLaw.{last_appended}
use Rattle.stl_syntax.proofs.FormulaLemmas.{subformula-at}
use Rattle.stl_syntax.proofs.PostOrderLemmas.{placed, children_below, slice_get_at}
use Rattle.stl_syntax.specs.declared.node.Node.{Node}
use Rattle.stl_syntax.specs.declared.node.Node.TheVariants.{Const, Atom as Leaf, Not, And, Or, Implies, Until, Eventually, Always, Since, Once, Historically}
use Rattle.stl_syntax.proofs.RowsLemmas.{last_time-push}

-- the least of two numbers, where each order gives it
pub least_is : (a b m : ℤ) → (b <ℤ a → b ≡ m) → (a ≤ℤ b → a ≡ m) → least (Some a) (Some b) ≡ Some m
least_is a b m f g = by_test (int_lt b a) refl
  where
    by_test : (t : Bool) → int_lt b a ≡ t → cond (int_lt b a) (Some b) (Some a) ≡ Some m
    by_test true e = subst (λ t. cond t (Some b) (Some a) ≡ Some m) (sym e) (ap (λ (z : ℤ). Some z) (f (int_order b a true e)))
    by_test false e = subst (λ t. cond t (Some b) (Some a) ≡ Some m) (sym e) (ap (λ (z : ℤ). Some z) (g (int_order b a false e)))

module _ (at : ℕ → Subformula) (s : State) (l : ℤ) where
  -- the number of a place is the last time less the horizon
  abbrev pub IsAtHorizon : ℕ → Type 0
  IsAtHorizon p = s.fronts p ≡ Some (l -ℤ pos (horizon (at p)))

  both : (h j : ℕ) → least (Some (l -ℤ pos h)) (Some (l -ℤ pos j)) ≡ Some (l -ℤ pos (max h j))
  both h j = least_is (l -ℤ pos h) (l -ℤ pos j) (l -ℤ pos (max h j)) (λ x. omega (arith, ints)) (λ x. omega (arith, ints))

  ahead : (b h : ℕ) → moved_by (neg_ℤ (pos b)) (Some (l -ℤ pos h)) ≡ Some (l -ℤ pos (b + h))
  ahead b h = ap (λ (z : ℤ). Some z) (let e : (l -ℤ pos h) +ℤ neg_ℤ (pos b) ≡ l -ℤ pos (b + h) = omega (arith, ints) in e)

  behind : (a h : ℕ) → last_row s ≡ Some l → least (moved_by (pos a) (Some (l -ℤ pos h))) (last_row s) ≡ Some (l -ℤ pos (h - a))
  behind a h e =
      subst (λ o. least (Some ((l -ℤ pos h) +ℤ pos a)) o ≡ Some (l -ℤ pos (h - a))) (sym e)
      (least_is ((l -ℤ pos h) +ℤ pos a) l (l -ℤ pos (h - a)) (λ x. omega (arith, ints)) (λ x. omega (arith, ints)))

  since_both : (a h j : ℕ) → least (Some (l -ℤ pos h)) (moved_by (pos a) (Some (l -ℤ pos j))) ≡ Some (l -ℤ pos (max h (j - a)))
  since_both a h j =
      least_is (l -ℤ pos h) ((l -ℤ pos j) +ℤ pos a) (l -ℤ pos (max h (j - a))) (λ x. omega (arith, ints)) (λ x. omega (arith, ints))

  -- the number that a node may have before the end, once its children have theirs
  pub open_at_horizon : (i : ℕ) (n : Node) → last_row s ≡ Some l → HasChildrenBelow i n → ((j : ℕ) → j < i → IsAtHorizon j)
      → open_number n s ≡ Some (l -ℤ pos (horizon (tree_of at i n)))
  open_at_horizon i (Const b) e c k = e ∙ ap (λ (z : ℤ). Some z) (let x : l ≡ l -ℤ pos 0 = omega (arith, ints) in x)
  open_at_horizon i (Leaf a) e c k = e ∙ ap (λ (z : ℤ). Some z) (let x : l ≡ l -ℤ pos 0 = omega (arith, ints) in x)
  open_at_horizon i (Not p) e c k = k p c
  open_at_horizon i (And p q) e c k = rw (k p c.0, k q c.1) (both (horizon (at p)) (horizon (at q)))
  open_at_horizon i (Or p q) e c k = rw (k p c.0, k q c.1) (both (horizon (at p)) (horizon (at q)))
  open_at_horizon i (Implies p q) e c k = rw (k p c.0, k q c.1) (both (horizon (at p)) (horizon (at q)))
  open_at_horizon i (Until p q a b) e c k =
      rw (k p c.0, k q c.1) (rw (both (horizon (at p)) (horizon (at q))) (ahead b (max (horizon (at p)) (horizon (at q)))))
  open_at_horizon i (Eventually p a b a_in b_in) e c k = rw (k p c) (ahead b (horizon (at p)))
  open_at_horizon i (Always p a b a_in b_in) e c k = rw (k p c) (ahead b (horizon (at p)))
  open_at_horizon i (Since p q a b) e c k = rw (k p c.0, k q c.1) (since_both a (horizon (at p)) (horizon (at q)))
  open_at_horizon i (Once p a b a_in b_in) e c k = rw (k p c) (behind a (horizon (at p)) e)
  open_at_horizon i (Historically p a b a_in b_in) e c k = rw (k p c) (behind a (horizon (at p)) e)

same_front_refl : (f : Front) → same_front f f ≡ true
same_front_refl None = refl
same_front_refl (Some f) = let e : int_lt f f ≡ false = by_test (int_lt f f) refl in rw e refl
  where
    by_test : (t : Bool) → int_lt f f ≡ t → t ≡ false
    by_test false e = refl
    by_test true e = absurd (let h : f <ℤ f = int_order f f true e in omega (arith, ints))

-- where all these places stand at the last row's time, the test says so
all_stand : (s : State) (i : ℕ) (places : List ℕ) → All (λ p. p < i) places → ((j : ℕ) → j < i → s.fronts j ≡ last_row s) → all_at_end s places ≡ true
all_stand s i [] below stand = refl
all_stand s i (p ∷ places) below stand =
    let rest : All (λ p. p < i) places = λ k d h. below (suc k) d (omega (arith, h)) in
    rw (stand p (below 0 0 (omega arith)), same_front_refl (last_row s)) (all_stand s i places rest stand)

-- the state after events and then others
state_on : (nodes : List Node) (s : State) (events others : List Event)
    → state_from nodes s (events ++ others) ≡ state_from nodes (state_from nodes s events) others
state_on nodes s [] others = refl
state_on nodes s (e ∷ events) others = state_on nodes (after_event nodes s e) events others

-- takes change nothing
takes_keep : (nodes : List Node) (s : State) (n : ℕ) → state_from nodes s (takes n) ≡ s
takes_keep nodes s zero = refl
takes_keep nodes s (suc n) = takes_keep nodes s n

module _ (nodes : List Node) (order : IsPostOrder nodes) (ended : Bool) (l : ℤ) where
  -- the number that the law gives to a place
  abbrev pub Target : ℕ → Front
  Target i = Some (front_at ended l (subformula nodes i))

  -- the last row is at l, the end came or not, and each atom stands
  pub record IsPassing (s : State) : Type 0 where
    -- the last row
    pub last : last_row s ≡ Some l
    -- whether the end has come
    pub closed : s.closed ≡ ended
    -- each atom is answered as far as it may be
    pub atoms : (i : ℕ) → i < length nodes → node_is_atom nodes i ≡ true → s.fronts i ≡ Target i

  -- where the places before i have their numbers, so has the node at i after its step
  pub allowed_is : (s : State) (i : ℕ) (n : Node) → slice_get nodes i ≡ Some n → i < length nodes → IsPassing s → ((j : ℕ) → j < i → s.fronts j ≡ Target j)
      → allowed n s ≡ Target i
  allowed_is s i n at h pass before = by_end ended refl
    where
      below : HasChildrenBelow i n
      below = placed nodes i n order at

      not_ended : ended ≡ false → allowed n s ≡ Target i
      not_ended x =
          let low : (j : ℕ) → Target j ≡ Some (l -ℤ pos (horizon (subformula nodes j))) = λ j. ap (λ e. Some (front_at e l (subformula nodes j))) x in
          let tree = ap (λ p. Some (l -ℤ pos (horizon p))) (subformula-at nodes i n at below) in
          let number = open_at_horizon (subformula nodes) s l i n pass.last below (λ j k. before j k ∙ low j) in
          subst (λ t. cond (t && all_at_end s (children n)) (last_row s) (open_number n s) ≡ Target i) (sym (pass.closed ∙ x)) (number ∙ sym tree ∙ sym (low i))

      when_ended : ended ≡ true → allowed n s ≡ Target i
      when_ended x =
          let high : (j : ℕ) → Target j ≡ last_row s = λ j. ap (λ e. Some (front_at e l (subformula nodes j))) x ∙ sym pass.last in
          let places : All (λ p. p < length (first i nodes)) (children n) = children_below (first i nodes) n (order.follows i n at) in
          let under : All (λ p. p < i) (children n) = subst (λ m. All (λ p. p < m) (children n)) (length-take-le i nodes (omega arith)) places in
          let all = all_stand s i (children n) under (λ j k. before j k ∙ high j) in
          let number : cond (true && all_at_end s (children n)) (last_row s) (open_number n s) ≡ Target i =
          subst (λ t. cond t (last_row s) (open_number n s) ≡ Target i) (sym all) (sym (high i)) in
          subst (λ t. cond (t && all_at_end s (children n)) (last_row s) (open_number n s) ≡ Target i) (sym (pass.closed ∙ x)) number

      by_end : (e : Bool) → ended ≡ e → allowed n s ≡ Target i
      by_end false x = not_ended x
      by_end true x = when_ended x

  -- the same after a step of node k, which is no atom
  after_step : (s : State) (k : ℕ) → k < length nodes → node_is_atom nodes k ≡ false → IsPassing s → IsPassing (after_event nodes s (step k))
  after_step s k h other pass = record {
    last = pass.last;
    closed = pass.closed;
    atoms = λ j g a. by_place j g a (j == k) refl;
  }
    where
      by_place : (j : ℕ) → j < length nodes → node_is_atom nodes j ≡ true → (t : Bool) → (j == k) ≡ t
          → cond (j == k) (allowed_at nodes s k) (s.fronts j) ≡ Target j
      by_place j g a false x = subst (λ t. cond t (allowed_at nodes s k) (s.fronts j) ≡ Target j) (sym x) (pass.atoms j g a)
      by_place j g a true x = absurd (let e : j ≡ k = grind (arith, x) in let f = ap (node_is_atom nodes) e in cc)

  -- one place more has its number
  stepped_one : (s : State) (k : ℕ) → k < length nodes → IsPassing s → ((j : ℕ) → j < k → s.fronts j ≡ Target j)
      → (j : ℕ) → j < suc k → (after_event nodes s (step k)).fronts j ≡ Target j
  stepped_one s k h pass done j g = by_place (j == k) refl
    where
      here : allowed_at nodes s k ≡ Target k
      here = allowed_is s k (slice_index_or nodes k (Const false)) (slice_get_at nodes k (Const false) h) h pass done

      by_place : (t : Bool) → (j == k) ≡ t → cond (j == k) (allowed_at nodes s k) (s.fronts j) ≡ Target j
      by_place true x =
          let e : j ≡ k = grind (arith, x) in
          subst (λ t. cond t (allowed_at nodes s k) (s.fronts j) ≡ Target j) (sym x) (here ∙ ap Target (sym e))
      by_place false x =
          let e : j ≢ k = λ y. absurd (let f = eq-eqb j k y in cc) in
          subst (λ t. cond t (allowed_at nodes s k) (s.fronts j) ≡ Target j) (sym x) (done j (omega arith))

  -- after the steps of the nodes from place k on, every place has its number
  stepped : (k : ℕ) (before rest : List Node) → nodes ≡ before ++ rest → length before ≡ k → (s : State) → IsPassing s
      → ((j : ℕ) → j < k → s.fronts j ≡ Target j) → (j : ℕ) → j < length nodes → (state_from nodes s (steps_of k rest)).fronts j ≡ Target j
  stepped k before [] e f s pass done j h = done j (omega (arith, f, ap length e, length-append before []))
  stepped k before (n ∷ rest) e f s pass done j h =
      by_atom (λ s pass done. stepped (suc k) (before ++ n ∷ []) rest longer size s pass done j h) (is_atom n) refl
    where
      inside : k < length nodes
      inside = omega (arith, f, ap length e, length-append before (n ∷ rest))

      at : slice_index_or nodes k (Const false) ≡ n
      at = rw (e, sym f) (get_or-append_seam before n rest (Const false))

      longer : nodes ≡ (before ++ n ∷ []) ++ rest
      longer = e ∙ sym (append_assoc before (n ∷ []) rest)

      size : length (before ++ n ∷ []) ≡ suc k
      size = omega (arith, f, length_push before n)

      -- the numbers after the rest of the steps from a state, by whether this node steps
      Ends : State → Bool → Type 0
      Ends s t = (state_from nodes s (cond t (steps_of (suc k) rest) (step k ∷ steps_of (suc k) rest))).fronts j ≡ Target j

      by_atom : ((s : State) → IsPassing s → ((i : ℕ) → i < suc k → s.fronts i ≡ Target i) → (state_from nodes s (steps_of (suc k) rest)).fronts j ≡ Target j)
          → (t : Bool) → is_atom n ≡ t → Ends s (is_atom n)
      by_atom go true x = subst (Ends s) (sym x) (go s pass so_far)
        where
          here : s.fronts k ≡ Target k
          here = pass.atoms k inside (ap is_atom at ∙ x)

          so_far : (i : ℕ) → i < suc k → s.fronts i ≡ Target i
          so_far i g = elim (cases_lt i k) [ inl l ↦ done i l | inr d ↦ let e : i ≡ k = omega arith in ap s.fronts e ∙ here ∙ ap Target (sym e) ]
      by_atom go false x =
          let other : node_is_atom nodes k ≡ false = ap is_atom at ∙ x in
          subst (Ends s) (sym x) (go (after_event nodes s (step k)) (after_step s k inside other pass) (stepped_one s k inside pass done))

-- steps leave the rows and the end alone
steps_keep : (nodes : List Node) (k : ℕ) (rest : List Node) (s : State)
    → ((state_from nodes s (steps_of k rest)).rows ≡ s.rows) × ((state_from nodes s (steps_of k rest)).closed ≡ s.closed)
steps_keep nodes k [] s = (refl, refl)
steps_keep nodes k (n ∷ rest) s =
    elim (is_atom n) as (λ t. ((state_from nodes s (cond t (steps_of (suc k) rest) (step k ∷ steps_of (suc k) rest))).rows ≡ s.rows)
    × ((state_from nodes s (cond t (steps_of (suc k) rest) (step k ∷ steps_of (suc k) rest))).closed ≡ s.closed)) [
      | true ↦ steps_keep nodes (suc k) rest s
      | false ↦ steps_keep nodes (suc k) rest (after_event nodes s (step k))
    ]

-- an event, the steps and the takes
after_pass : (nodes : List Node) (s : State) (e : Event) (n : ℕ)
    → state_from nodes s (pass_of e nodes n) ≡ state_from nodes (after_event nodes s e) (steps_of 0 nodes)
after_pass nodes s e n =
    state_on nodes (after_event nodes s e) (steps_of 0 nodes) (takes n) ∙ takes_keep nodes (state_from nodes (after_event nodes s e) (steps_of 0 nodes)) n

-- an atom looks ahead by nothing
pub atom_horizon : (nodes : List Node) (i : ℕ) → IsPostOrder nodes → i < length nodes → node_is_atom nodes i ≡ true → horizon (subformula nodes i) ≡ 0
atom_horizon nodes i order l e = by_node (slice_index_or nodes i (Const false)) (slice_get_at nodes i (Const false) l) e
  where
    by_node : (n : Node) → slice_get nodes i ≡ Some n → is_atom n ≡ true → horizon (subformula nodes i) ≡ 0
    by_node (Leaf a) at x = ap (λ p. horizon p) (subformula-at nodes i (Leaf a) at (placed nodes i (Leaf a) order at))
    by_node _ at x = absurd (let y : false ≡ true = x in cc)

-- a state after these rows, and maybe the end: every place has its number
record IsAt (nodes : List Node) (rows : List Row) (ended : Bool) (s : State) : Type 0 where
  rows_are : s.rows ≡ rows
  closed : s.closed ≡ ended
  fronts : rows ≢ [] → (i : ℕ) → i < length nodes → s.fronts i ≡ Some (front_at ended (pos (last_time 0 rows)) (subformula nodes i))

last_row_is : (rows : List Row) (s : State) → rows ≢ [] → s.rows ≡ rows → last_row s ≡ Some (pos (last_time 0 rows))
last_row_is [] s some e = absurd (some refl)
last_row_is (r ∷ rows) s some e =
    subst (λ x. last_row (record { rows = x; closed = s.closed; fronts = s.fronts }) ≡ Some (pos (last_time r.time rows))) (sym e) refl

-- after a row
at_row : (nodes : List Node) (rows : List Row) (r : Row) (s : State) → IsPostOrder nodes → s.rows ≡ rows → s.closed ≡ false
    → IsAt nodes (rows ++ r ∷ []) false (state_from nodes (after_event nodes s (row r)) (steps_of 0 nodes))
at_row nodes rows r s order rows_are still = record {
  rows_are = kept.0 ∙ ap (λ x. x ++ r ∷ []) rows_are;
  closed = kept.1 ∙ still;
  fronts = λ some i h.
      stepped nodes order false (pos r.time) 0 [] nodes refl refl (after_event nodes s (row r)) passing (λ j g. absurd (omega arith)) i h
      ∙ ap (λ t. Some (front_at false (pos t) (subformula nodes i))) (sym (last_time-push 0 rows r));
}
  where
    kept : ((state_from nodes (after_event nodes s (row r)) (steps_of 0 nodes)).rows ≡ s.rows ++ r ∷ [])
        × ((state_from nodes (after_event nodes s (row r)) (steps_of 0 nodes)).closed ≡ s.closed)
    kept = steps_keep nodes 0 nodes (after_event nodes s (row r))

    by_atom : (i : ℕ) → i < length nodes → node_is_atom nodes i ≡ true
        → cond (node_is_atom nodes i) (Some (pos r.time)) (s.fronts i) ≡ Some (front_at false (pos r.time) (subformula nodes i))
    by_atom i h a =
        let none = atom_horizon nodes i order h a in
        let same : pos r.time ≡ pos r.time -ℤ pos (horizon (subformula nodes i)) = omega (arith, ints) in
        subst (λ t. cond t (Some (pos r.time)) (s.fronts i) ≡ Some (front_at false (pos r.time) (subformula nodes i))) (sym a)
        (ap (λ (z : ℤ). Some z) same)

    passing : IsPassing nodes order false (pos r.time) (after_event nodes s (row r))
    passing = record { last = last_appended s.rows r s.closed (after_event nodes s (row r)).fronts; closed = still; atoms = by_atom }

-- after rows that no step follows
rows_come : (nodes : List Node) (s : State) (more : List Row)
    → ((state_from nodes s (rows_of more)).rows ≡ s.rows ++ more) × ((state_from nodes s (rows_of more)).closed ≡ s.closed)
rows_come nodes s [] = (sym (append-nil s.rows), refl)
rows_come nodes s (q ∷ more) =
    let on = rows_come nodes (after_event nodes s (row q)) more in (on.0 ∙ append_assoc s.rows (q ∷ []) more, on.1)

-- after the end
at_close : (nodes : List Node) (rows : List Row) (s : State) → IsPostOrder nodes → rows ≢ [] → IsAt nodes rows false s
    → IsAt nodes rows true (state_from nodes (after_event nodes s close) (steps_of 0 nodes))
at_close nodes rows s order some at = record {
  rows_are = kept.0 ∙ at.rows_are;
  closed = kept.1;
  fronts = λ more i h.
      stepped nodes order true (pos (last_time 0 rows)) 0 [] nodes refl refl (after_event nodes s close) passing (λ j g. absurd (omega arith)) i h;
}
  where
    kept : ((state_from nodes (after_event nodes s close) (steps_of 0 nodes)).rows ≡ s.rows)
        × ((state_from nodes (after_event nodes s close) (steps_of 0 nodes)).closed ≡ true)
    kept = steps_keep nodes 0 nodes (after_event nodes s close)

    by_atom : (i : ℕ) → i < length nodes → node_is_atom nodes i ≡ true → s.fronts i ≡ Some (front_at true (pos (last_time 0 rows)) (subformula nodes i))
    by_atom i h a =
        let none = atom_horizon nodes i order h a in
        let same : pos (last_time 0 rows) -ℤ pos (horizon (subformula nodes i)) ≡ pos (last_time 0 rows) = omega (arith, ints) in
        at.fronts some i h ∙ ap (λ (z : ℤ). Some z) same

    passing : IsPassing nodes order true (pos (last_time 0 rows)) (after_event nodes s close)
    passing = record { last = last_row_is rows (after_event nodes s close) some at.rows_are; closed = refl; atoms = by_atom }

driven : {nodes : List Node} {header : Header} {rows : List Row} {ended : Bool} {events : List Event} → IsPostOrder nodes
    → IsDriven nodes header rows ended events → IsAt nodes rows ended (state_from nodes initial events)
driven order nothing = record { rows_are = refl; closed = refl; fronts = λ some i h. absurd (some refl) }
driven {nodes = nodes} order (by_rows {rows = rows} {events = events} more r n few before emptied) =
    let at = driven order before in
    let s = state_from nodes initial (events ++ rows_of more) in
    let came = rows_come nodes (state_from nodes initial events) more in
    let on = state_on nodes initial events (rows_of more) in
    let same = state_on nodes initial (events ++ rows_of more) (pass_of (row r) nodes n) ∙ after_pass nodes s (row r) n in
    subst (IsAt nodes ((rows ++ more) ++ r ∷ []) false) (sym same)
    (at_row nodes (rows ++ more) r s order (ap (λ (z : State). z.rows) on ∙ came.0 ∙ ap (λ l. l ++ more) at.rows_are)
    (ap (λ (z : State). z.closed) on ∙ came.1 ∙ at.closed))
driven {nodes = nodes} order (by_end {rows = rows} {events = events} n before some emptied) =
    let s = state_from nodes initial events in
    let same = state_on nodes initial events (pass_of close nodes n) ∙ after_pass nodes s close n in
    subst (IsAt nodes rows true) (sym same) (at_close nodes rows s order some (driven order before))

-- the law on fronts
pub fronts_are_times : FrontsAreTimes
unfolding state
fronts_are_times nodes header rows ended events i order d some h = (driven order d).fronts some i h
