-- A network's operators belong to its edges, and what a step that moves nothing leaves.
use Rattle.std.proofs.Common.{◌≡◌, ◌⊎◌, inl, inr, refl, sym, ap, subst, ◌∙◌, ℕ, zero, suc, ◌-◌, ◌<◌, ◌≤◌, Bool, true, false}
use Rattle.std.proofs.Common.{Option, Some, None, List, [], ◌∷◌, ◌++◌, length, drop, ℤ, pos, ◌<ℤ◌, arith}
use Rattle.std.specs.Prelude.{MatchBool, int_lt, ◌≢◌, cond, ◌==◌, slice_get, slice_index_or, slice_set, option_map}
use Rattle.std.proofs.lemmas.Bool.{cases_eq, cases_lt}
use Rattle.std.proofs.lemmas.Option.{slice_get_within}
use Rattle.stl_syntax.specs.Trace.{Header, Row, AreRowsAfter, first_time, last_time}
use Rattle.stl_syntax.specs.WellFormed.{AreWellFormed}
use Rattle.stl_syntax.specs.declared.items.Verdict.{Verdict}
use Rattle.stl_syntax.specs.declared.node.Node.{Node}
use Rattle.stl_syntax.specs.declared.atom.Atom.{Atom}
use Rattle.stl_syntax.specs.declared.node.Node.TheVariants.{Const, Atom as Leaf}
use Rattle.stl_syntax.proofs.PostOrderLemmas.{slice_get_at}
use Rattle.atom_lines.specs.Binding.{IsAtomNode}
use Rattle.online_nodes.specs.Network.{Event, row, step, close, take, Front, State, last_row, shown, is_atom}
use Rattle.online_nodes.specs.Network.{node_is_atom, allowed_at, same_front, after_event, state, IsReady, MayCome}
use Rattle.online_nodes.specs.Held.{Edge, Held, JoinsAlike, edge_at, held_at, held_of, no_edge, number_at, with_edge, without}
use Rattle.online_nodes.proofs.RowsLaw.{AreRowsSoFar, rows_of}
use Rattle.online_nodes.proofs.EmittedLaw.{front_shown}
use Rattle.stl_syntax.proofs.WellFormedLemmas.{root_some}
use Rattle.std.proofs.lemmas.List.{get_or-set_same, get_or-set_other, length-set, set_past}
use Rattle.std.proofs.lemmas.Int.{ints}
use Rattle.std.specs.Prelude.{IfSome}
use Rattle.online_nodes.specs.Belonging.{Belongs, HasStepped, StandsForSteps}
use Rattle.online_nodes.specs.declared.operator.Operator.{Operator}
use Rattle.online_nodes.proofs.RunLaw.{none_is_none, allowed_bound}
use Rattle.node_edges.proofs.DroppingLemmas.{slice_get-drop, held_of-without}
use Rattle.online_nodes.proofs.RisingLaw.{IsSound, sound_of, same_is, same_of}
use Rattle.online_nodes.proofs.EdgeLaw.{root_stays}
use Rattle.online_nodes.proofs.StretchLaw.{joined_stays}
use Rattle.online_net.specs.Nets.{Parts, Stands, IsNext, first_row, last_row_of, last_row_after}
use Rattle.online_net.specs.Steps.{IsStep}
use Rattle.online_net.proofs.Events.{stand, keep, operator_stays, input_same, read_place, root_here, stepped_stands, taken_stands}
use Rattle.online_net.proofs.RowInNet.{last_time_is, no_last, leaf_of, start_by_last}

-- what is there already, written once more
pub set_same : {X : Type 0} (xs : List X) (i : ℕ) (x : X) → slice_get xs i ≡ Some x → slice_set xs i x ≡ xs
set_same [] i x is = refl
set_same (y ∷ xs) zero x is = (let e : y ≡ x = one y x is in ap (λ z. z ∷ xs) (sym e))
  where
    one : {X : Type 0} (a b : X) → Some a ≡ Some b → a ≡ b
    one a b e = cc
set_same (y ∷ xs) (suc i) x is = ap (λ ys. y ∷ ys) (set_same xs i x is)

-- a step that moved nothing leaves what the network has
pub unmoved_parts : (net : Parts) (i : ℕ) (op after : Operator) (e' : Held) → slice_get net.operators i ≡ Some (Some op) → e' ≡ net.edges
    → after ≡ op → net ≡ record net { edges = e'; operators = slice_set net.operators i (Some after) }
unmoved_parts net i op after e' is same still =
    sym (ap (λ e. record net { edges = e; operators = slice_set net.operators i (Some after) }) same
    ∙ ap (λ (o : Operator). record net { operators = slice_set net.operators i (Some o) }) still
    ∙ ap (λ os. record net { operators = os }) (set_same net.operators i (Some op) is))

-- where an edge gave up its first verdict each joins where it joined
pub took_joins : (old new : Held) (k : ℕ) → new.edges ≡ with_edge old k (without 1 (edge_at old k)) → JoinsAlike old new
took_joins old new k is j = ap (λ es. (slice_index_or es j no_edge).joins) is ∙ by_place (cases_eq j k)
  where
    kept : Edge
    kept = without 1 (edge_at old k)

    own : j ≡ k → (j < length old.edges) ⊎ (length old.edges ≤ j) → (slice_index_or (with_edge old k kept) j no_edge).joins ≡ (edge_at old j).joins
    own same (inl l) = subst (λ i. (slice_index_or (with_edge old k kept) i no_edge).joins ≡ (edge_at old i).joins) (sym same)
        (ap (λ (x : Edge). x.joins) (get_or-set_same old.edges k kept no_edge (subst (λ i. i < length old.edges) same l)))
    own same (inr l) = ap (λ es. (slice_index_or es j no_edge).joins) (set_past old.edges k kept (subst (λ i. length old.edges ≤ i) same l))

    by_place : (j ≡ k) ⊎ (j ≢ k) → (slice_index_or (with_edge old k kept) j no_edge).joins ≡ (edge_at old j).joins
    by_place (inl same) = own same (cases_lt j (length old.edges))
    by_place (inr d) = ap (λ (x : Edge). x.joins) (get_or-set_other old.edges k j kept no_edge d)

module _ (nodes : List Node) (header : Header) (events : List Event) (net : Parts) (st : Stands nodes header net events) where
  abbrev s : State
  s = state nodes events

  abbrev formed : AreWellFormed nodes
  formed = st.holds.formed

  sound : IsSound nodes header formed.post_order s
  sound = sound_of nodes header formed.post_order events st.run

  within : (i : ℕ) → i < length net.operators → i < length nodes
  within i l = let c = st.holds.operators in omega (arith, l, c)

  -- an operator that is kept is that of its node
  pub kept_operator : (i : ℕ) (op : Operator) → slice_get net.operators i ≡ Some (Some op)
      → (node_is_atom nodes i ≡ false) × (op.node ≡ i) × StandsForSteps nodes header events op net.edges
  kept_operator i op is = by_atom (is_atom n) refl
    where
      l : i < length nodes
      l = within i (slice_get_within net.operators i (Some op) is)

      n : Node
      n = slice_index_or nodes i (Const false)

      at : slice_get nodes i ≡ Some n
      at = slice_get_at nodes i (Const false) l

      by_atom : (t : Bool) → is_atom n ≡ t → (node_is_atom nodes i ≡ false) × (op.node ≡ i) × StandsForSteps nodes header events op net.edges
      by_atom true a = absurd (let x : Some (Some op) ≡ Some None = sym is ∙ st.holds.at_atom i n at a in cc)
      by_atom false a =
          let has = st.holds.at_other i n at a in
          let same : has.operator ≡ op = one has.operator op (sym has.is ∙ is) in
          (a, ap (λ (o : Operator). o.node) (sym same) ∙ has.node, subst (λ o. StandsForSteps nodes header events o net.edges) same has.stands)
        where
          one : (a b : Operator) → Some (Some a) ≡ Some (Some b) → a ≡ b
          one a b e = cc

  -- where no operator is kept, the node is an atom
  pub no_operator : (i : ℕ) → i < length net.operators → slice_get net.operators i ≡ Some None → node_is_atom nodes i ≡ true
  no_operator i l is = by_atom (node_is_atom nodes i) refl
    where
      by_atom : (t : Bool) → node_is_atom nodes i ≡ t → node_is_atom nodes i ≡ true
      by_atom true a = a
      by_atom false a = absurd (let has = st.holds.at_other i (slice_index_or nodes i (Const false)) (slice_get_at nodes i (Const false) (within i l)) a in
          let x : Some (Some has.operator) ≡ Some None = sym has.is ∙ is in cc)

  -- an operator belongs to the edges, once a row came
  pub belongs_of : (i : ℕ) (op : Operator) (q : Row) → slice_get net.operators i ≡ Some (Some op) → net.last ≡ Some q
      → Belongs nodes header events op net.edges q.time net.closed
  belongs_of i op q is last = record {
    formed = formed;
    one_root = st.holds.one_root;
    run = st.run;
    edges = st.holds.edges;
    start = st.holds.start ∙ first s.rows (sym st.holds.last ∙ last);
    last = last_time_is s.rows s.closed s.fronts q (sym st.holds.last ∙ last);
    closed = sym st.holds.closed;
    number = st.shows.fronts op.node (subst (λ k. k < length nodes) (sym kept.1) l);
    inputs = λ j n left at r. (
      st.shows.fronts j (let x = read_place nodes header events net st op.node n left j at r in omega (arith, x)),
      st.shows.edges j (read_place nodes header events net st op.node n left j at r),
    );
    stands = kept.2;
  }
    where
      kept : (node_is_atom nodes i ≡ false) × (op.node ≡ i) × StandsForSteps nodes header events op net.edges
      kept = kept_operator i op is

      l : i < length nodes
      l = within i (slice_get_within net.operators i (Some op) is)

      first : (rows : List Row) → last_row_of rows ≡ Some q → option_map (λ (r : Row). r.time) (first_row rows) ≡ Some (first_time rows)
      first [] e = absurd (let x : None ≡ Some q = e in cc)
      first (r ∷ rows) e = refl

  -- the same at the last row's time
  pub belongs_now : (i : ℕ) (op : Operator) (q : Row) (time : ℕ) → slice_get net.operators i ≡ Some (Some op) → net.last ≡ Some q → time ≡ q.time
      → Belongs nodes header events op net.edges time net.closed
  belongs_now i op q time is last e = subst (λ t. Belongs nodes header events op net.edges t net.closed) (sym e) (belongs_of i op q is last)

  -- what the answer of one step says where it was none, and where it was an operator
  pub unready_by : (i : ℕ) (op after : Operator) (e' : Held) (time : ℕ) (moved : Bool) → slice_get net.operators i ≡ Some (Some op)
      → MatchBool moved (IsStep nodes header events op net.edges e' time net.closed after) (¬ IsReady nodes s op.node) → moved ≡ false
      → ¬ IsReady nodes s i
  unready_by i op after e' time moved is answer none =
      subst (λ k. ¬ IsReady nodes s k) (kept_operator i op is).1
      (subst (λ x. MatchBool x (IsStep nodes header events op net.edges e' time net.closed after) (¬ IsReady nodes s op.node)) none answer)

  -- a call that moved something is a step of the network
  pub step_by : (op after : Operator) (e' : Held) (q : Row) (time : ℕ) (moved : Bool) → time ≡ q.time
      → MatchBool moved (IsStep nodes header events op net.edges e' time net.closed after) (¬ IsReady nodes s op.node) → moved ≡ true
      → IsStep nodes header events op net.edges e' q.time net.closed after
  step_by op after e' q time moved now answer some =
      subst (λ t. IsStep nodes header events op net.edges e' t net.closed after) now
      (subst (λ x. MatchBool x (IsStep nodes header events op net.edges e' time net.closed after) (¬ IsReady nodes s op.node)) some answer)

  -- before any row no node is ready
  pub none_ready : net.last ≡ None → (i : ℕ) → i < length nodes → ¬ IsReady nodes s i
  none_ready last i l ready = ready.1 (none_both (allowed_at nodes s i) (s.fronts i) allowed front)
    where
      rows : s.rows ≡ []
      rows = no_last s.rows (sym st.holds.last ∙ last)

      none_both : (o q : Front) → o ≡ None → q ≡ None → o ≡ q
      none_both o q x y = x ∙ sym y

      empty : (f : ℤ) → last_row s ≡ Some f → ⊥
      empty f x = none_is_none f (subst (λ l. last_row (record { rows = l; closed = s.closed; fronts = s.fronts }) ≡ Some f) rows x)

      front : s.fronts i ≡ None
      front = by_front (s.fronts i) refl
        where
          by_front : (o : Front) → s.fronts i ≡ o → s.fronts i ≡ None
          by_front None x = x
          by_front (Some f) x = let b = sound.bounded i f l x in absurd (empty b.last b.is_last)

      allowed : allowed_at nodes s i ≡ None
      allowed = by_front (allowed_at nodes s i) refl
        where
          by_front : (o : Front) → allowed_at nodes s i ≡ o → allowed_at nodes s i ≡ None
          by_front None x = x
          by_front (Some f) x =
              let b = allowed_bound nodes header formed.post_order s i (slice_index_or nodes i (Const false)) f l (slice_get_at nodes i (Const false) l)
              sound.bounded x in
              absurd (empty b.last b.is_last)

  -- an atom is never ready
  pub atom_unready : (i : ℕ) → node_is_atom nodes i ≡ true → ¬ IsReady nodes s i
  atom_unready i a ready = let x : true ≡ false = sym a ∙ ready.0 in cc

  -- a step of a node that is not ready changes nothing
  pub idle_stands : (i : ℕ) → i < length nodes → node_is_atom nodes i ≡ false → ¬ IsReady nodes s i → Stands nodes header net (events ++ step i ∷ [])
  idle_stands i l other unready = stand nodes header events net st (step i) may net (λ j h. st.shows.fronts j h ∙ sym (stays j))
      (λ j h. joined_stays nodes header formed events (step i) st.run may j (omega (arith, h)) (held_at net.edges j) (st.shows.edges j h)
      (slice_get_within nodes (st.shows.edges j h).reader (st.shows.edges j h).reading (st.shows.edges j h).at_reader)
      (stays (st.shows.edges j h).reader) (stays j))
      (root_stays nodes header formed events (step i) (λ e. let z : step i ≡ take = e in cc) st.run (root_here nodes header events net st)
      (held_at net.edges (length nodes - 1)) st.shows.root (stays (length nodes - 1)))
      (keep nodes header events net st (step i) may net refl refl refl (λ j. refl) st.holds.start st.holds.last st.holds.closed st.holds.running
      st.holds.at_atom (λ j n at a. operator_stays nodes header events net st (step i) may net.edges j n at a (stays j)
      (λ left k r. input_same nodes header events net st (step i) may k (read_place nodes header events net st j n left k at r) net.edges (stays k) refl)))
    where
      may : MayCome nodes header s (step i)
      may = (l, other)

      same : allowed_at nodes s i ≡ s.fronts i
      same = by_test (same_front (allowed_at nodes s i) (s.fronts i)) refl
        where
          by_test : (t : Bool) → same_front (allowed_at nodes s i) (s.fronts i) ≡ t → allowed_at nodes s i ≡ s.fronts i
          by_test true x = same_is (allowed_at nodes s i) (s.fronts i) x
          by_test false x = absurd (unready (other, λ y. let z = same_of (allowed_at nodes s i) (s.fronts i) y in let w : true ≡ false = sym z ∙ x in cc))

      stays : (j : ℕ) → (after_event nodes s (step i)).fronts j ≡ s.fronts j
      stays j = by_test (j == i) refl
        where
          by_test : (t : Bool) → (j == i) ≡ t → cond (j == i) (allowed_at nodes s i) (s.fronts j) ≡ s.fronts j
          by_test true x =
              let e : j ≡ i = grind (arith, x) in
              ap (λ t. cond t (allowed_at nodes s i) (s.fronts j)) x ∙ same ∙ ap s.fronts (sym e)
          by_test false x = ap (λ t. cond t (allowed_at nodes s i) (s.fronts j)) x

  -- a step that moved
  pub moved_stands : (i : ℕ) (op after : Operator) (q : Row) (e' : Held) (ops : List (Option Operator)) → slice_get net.operators i ≡ Some (Some op)
      → net.last ≡ Some q → IsStep nodes header events op net.edges e' q.time net.closed after → length ops ≡ length net.operators
      → slice_get ops i ≡ Some (Some after) → ((j : ℕ) → j ≢ i → slice_get ops j ≡ slice_get net.operators j)
      → Stands nodes header (record net { edges = e'; operators = ops }) (events ++ step i ∷ [])
  moved_stands i op after q e' ops is last x long here others =
      stepped_stands nodes header events net st i after net.edges e' ops (l, kept.0) (λ j. refl)
      (subst (λ k. HasStepped nodes header events k net.edges e') kept.1 x.stepped) x.stepped.edges x.stepped.start
      (subst (λ k. StandsForSteps nodes header (events ++ step k ∷ []) after e') kept.1 x.belongs.stands) (x.node ∙ kept.1) long here others
    where
      kept : (node_is_atom nodes i ≡ false) × (op.node ≡ i) × StandsForSteps nodes header events op net.edges
      kept = kept_operator i op is

      l : i < length nodes
      l = within i (slice_get_within net.operators i (Some op) is)

  -- the first verdict of the root's edge is the next
  pub next_is : (v : Option Verdict) → v ≡ slice_get (held_at net.edges (length nodes - 1)) 0 → IsNext nodes header events v
  next_is v e = record {
    taken = st.shows.root.taken;
    is_taken = st.shows.root.is_taken;
    emitted = st.shows.root.emitted;
    is_emitted = st.shows.root.is_emitted;
    is = e ∙ ap (λ l. slice_get l 0) st.shows.root.is ∙ slice_get-drop st.shows.root.taken st.shows.root.emitted;
  }

  -- a node with no operator is an atom of the formula
  pub atom_leaf : (j : ℕ) → slice_get net.operators j ≡ Some None → (a : Atom) × (slice_get nodes j ≡ Some (Leaf a))
  atom_leaf j is =
      let l = slice_get_within net.operators j None is in
      let leaf = leaf_of (slice_index_or nodes j (Const false)) (no_operator j l is) in
      (leaf.0, slice_get_at nodes j (Const false) (within j l) ∙ ap Some leaf.1)

  -- and so do its columns
  pub atoms_bound : (j : ℕ) → slice_get net.operators j ≡ Some None → IsAtomNode net.bound j
  atoms_bound j is =
      let leaf = atom_leaf j is in
      let k = st.holds.bound.atoms j leaf.0 leaf.1 in
      (k.0, k.1)

  -- the end may come
  pub close_may : net.closed ≡ false → (net.last ≡ None → ⊥) → MayCome nodes header s close
  close_may going some = (sym st.holds.closed ∙ going, λ e. some (st.holds.last ∙ none_last s.rows e))
    where
      none_last : (rows : List Row) → last_row (record { rows = rows; closed = s.closed; fronts = s.fronts }) ≡ None → last_row_of rows ≡ None
      none_last [] e = refl
      none_last (r ∷ rows) e = absurd (none_is_none (pos (last_time r.time rows)) (sym e))

  -- a row may come
  pub row_may : (r : Row) → net.closed ≡ false → IfSome net.last (λ q. q.time < r.time) → length r.values ≡ net.bound.width → MayCome nodes header s (row r)
  row_may r going later wide = (sym st.holds.closed ∙ going, by_last net.last refl later, wide ∙ st.holds.bound.width)
    where
      by_last : (o : Option Row) → net.last ≡ o → IfSome o (λ q. q.time < r.time) → IfSome (last_row s) (λ f. f <ℤ pos r.time)
      by_last None e h = subst (λ l. IfSome (last_row (record { rows = l; closed = s.closed; fronts = s.fronts })) (λ f. f <ℤ pos r.time))
          (sym (no_last s.rows (sym st.holds.last ∙ e))) tt
      by_last (Some q) e h = subst (λ o. IfSome o (λ f. f <ℤ pos r.time)) (sym (last_time_is s.rows s.closed s.fronts q (sym st.holds.last ∙ e)))
          (let l : pos q.time <ℤ pos r.time = omega (arith, ints, h) in l)

  -- the last row has a value for each column
  pub last_width : IfSome net.last (λ q. length q.values ≡ net.bound.width)
  last_width = by_last net.last refl
    where
      among : (rows : List Row) (time : ℕ) (p q : Row) → length p.values ≡ length header.columns → AreRowsAfter (length header.columns) time rows
          → Some (last_row_after p rows) ≡ Some q → length q.values ≡ length header.columns
      among [] time p q w h e = let x : p ≡ q = one p q e in ap (λ (r : Row). length r.values) (sym x) ∙ w
        where
          one : (a b : Row) → Some a ≡ Some b → a ≡ b
          one a b e = cc
      among (r ∷ rows) time p q w h e = among rows r.time r q h.1 h.2 e

      of_rows : (rows : List Row) (q : Row) → AreRowsSoFar (length header.columns) rows → last_row_of rows ≡ Some q
          → length q.values ≡ length header.columns
      of_rows [] q h e = absurd (let x : None ≡ Some q = e in cc)
      of_rows (r ∷ rows) q h e = among rows r.time r q h.0 h.1 e

      by_last : (o : Option Row) → net.last ≡ o → IfSome o (λ q. length q.values ≡ net.bound.width)
      by_last None e = tt
      by_last (Some q) e = of_rows s.rows q (rows_of nodes header events st.run) (sym st.holds.last ∙ e) ∙ sym st.holds.bound.width

  -- an atom is answered up to the last row
  pub atom_front : (i : ℕ) → i < length nodes → node_is_atom nodes i ≡ true
      → option_map (λ (n : ℕ). pos n) (option_map (λ (r : Row). r.time) net.last) ≡ shown s i
  atom_front i l a = by_last net.last refl
    where
      front : s.fronts i ≡ last_row s
      front = sound.atoms i l a

      by_last : (o : Option Row) → net.last ≡ o → option_map (λ (n : ℕ). pos n) (option_map (λ (r : Row). r.time) o) ≡ shown s i
      by_last None e = sym (unshown (s.fronts i) (front ∙ none))
        where
          none : last_row s ≡ None
          none = subst (λ l. last_row (record { rows = l; closed = s.closed; fronts = s.fronts }) ≡ None) (sym (no_last s.rows (sym st.holds.last ∙ e))) refl

          from : Front → Front
          from None = None
          from (Some g) = cond (int_lt g (pos (first_time s.rows))) None (Some g)

          unshown : (o : Front) → o ≡ None → from o ≡ None
          unshown o x = ap from x
      by_last (Some q) e =
          let end = last_time_is s.rows s.closed s.fronts q (sym st.holds.last ∙ e) in
          let low = start_by_last (length header.columns) s.rows q (rows_of nodes header events st.run) (sym st.holds.last ∙ e) in
          sym (front_shown s i (pos q.time) (front ∙ end) (omega (arith, ints, low)))

  -- every kept operator shows its node's front
  pub operator_front : (i : ℕ) (op : Operator) → slice_get net.operators i ≡ Some (Some op) → option_map (λ (n : ℕ). pos n) op.front ≡ shown s i
  operator_front i op is = let k = kept_operator i op is in sym k.2.front ∙ ap (shown s) k.1

  -- the root's place among the edges
  pub root_place : (n : ℕ) → n ≡ length net.operators → (1 ≤ n) × (n - 1 ≡ length nodes - 1) × (n - 1 < length net.edges.edges)
  root_place n e =
      let h = root_some nodes st.holds.one_root in
      let c = st.holds.operators in
      let d = st.holds.edges in
      (omega (arith, e, h, c), omega (arith, e, c), omega (arith, e, h, c, d))

  -- the root's first verdict is taken
  pub took_stands : (e' : Held) (k : ℕ) → k ≡ length nodes - 1 → e'.edges ≡ with_edge net.edges k (without 1 (edge_at net.edges k)) → e'.start ≡ net.edges.start
      → Stands nodes header (record net { edges = e' }) (events ++ take ∷ [])
  took_stands e' k is x y = taken_stands nodes header events net st e' others (took_joins net.edges e' k x) held number count y
    where
      root_l : length nodes - 1 < length net.edges.edges
      root_l = let h = root_here nodes header events net st in let d = st.holds.edges in omega (arith, h, d)

      at_root : e'.edges ≡ with_edge net.edges (length nodes - 1) (without 1 (edge_at net.edges (length nodes - 1)))
      at_root = x ∙ ap (λ k. with_edge net.edges k (without 1 (edge_at net.edges k))) is

      here : edge_at e' (length nodes - 1) ≡ without 1 (edge_at net.edges (length nodes - 1))
      here = ap (λ es. slice_index_or es (length nodes - 1) no_edge) at_root ∙ get_or-set_same net.edges.edges (length nodes - 1) _ no_edge root_l

      others : (j : ℕ) → j ≢ length nodes - 1 → edge_at e' j ≡ edge_at net.edges j
      others j d = ap (λ es. slice_index_or es j no_edge) at_root ∙ get_or-set_other net.edges.edges (length nodes - 1) j _ no_edge d

      held : held_at e' (length nodes - 1) ≡ drop 1 (held_at net.edges (length nodes - 1))
      held = ap held_of here ∙ held_of-without 1 (edge_at net.edges (length nodes - 1))

      number : number_at e' (length nodes - 1) ≡ number_at net.edges (length nodes - 1)
      number = ap (λ (z : Edge). z.number) here

      count : length e'.edges ≡ length net.edges.edges
      count = ap length at_root ∙ length-set net.edges.edges (length nodes - 1) _

  -- nothing was left to take
  pub none_took : (k : ℕ) → k ≡ length nodes - 1 → length (held_at net.edges k) ≡ 0
      → IsNext nodes header events None × Stands nodes header net (events ++ take ∷ [])
  none_took k is none = (
    next_is None (sym (ap (λ l. slice_get l 0) empty)),
    taken_stands nodes header events net st net.edges (λ j d. refl) (λ j. refl) (empty ∙ sym (ap (drop 1) empty)) refl refl refl,
  )
    where
      nothing : (l : List Verdict) → length l ≡ 0 → l ≡ []
      nothing [] e = refl
      nothing (v ∷ l) e = absurd (let z : suc (length l) ≡ 0 = e in omega (arith, z))

      empty : held_at net.edges (length nodes - 1) ≡ []
      empty = nothing (held_at net.edges (length nodes - 1)) (ap (λ k. length (held_at net.edges k)) (sym is) ∙ none)
