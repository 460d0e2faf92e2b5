-- What a network stands for, after one event more.
use Rattle.std.proofs.Common.{◌≡◌, ◌⊎◌, inl, inr, refl, sym, ap, subst, ◌∙◌, ℕ, suc, ◌-◌, ◌<◌, Bool, true, false}
use Rattle.std.proofs.Common.{Option, Some, None, List, [], ◌∷◌, ◌++◌, length, drop, append_assoc, arith}
use Rattle.std.specs.Prelude.{◌≢◌, cond, ◌==◌, slice_get, slice_index_or, option_map}
use Rattle.std.proofs.lemmas.List.{append-nil}
use Rattle.std.proofs.lemmas.Bool.{cases_order, eq-eqb}
use Rattle.std.proofs.lemmas.Option.{get_or_from_slice_get, slice_get_within}
use Rattle.stl_syntax.specs.Trace.{Header, Row}
use Rattle.stl_syntax.specs.PostOrder.{IsPostOrder}
use Rattle.stl_syntax.specs.WellFormed.{AreWellFormed}
use Rattle.stl_syntax.specs.declared.items.Verdict.{Verdict}
use Rattle.stl_syntax.specs.declared.node.Node.{Node}
use Rattle.stl_syntax.specs.declared.node.Node.TheVariants.{Const}
use Rattle.stl_syntax.proofs.PostOrderLemmas.{slice_get_at}
use Rattle.stl_syntax.proofs.WellFormedLemmas.{root_some}
use Rattle.atom_lines.specs.Binding.{IsBound}
use Rattle.online_nodes.specs.Network.{Event, step, close, take, State, is_atom, node_is_atom, allowed_at, after_event, state, EmittedAt, MayCome}
use Rattle.online_nodes.specs.Needed.{IsReader, IsJoinedEdge, IsRootEdge}
use Rattle.online_nodes.specs.Held.{AreStretches, Edge, Held, JoinsAlike, edge_at, fresh_at, held_at, held_of, number_at}
use Rattle.online_nodes.specs.Belonging.{StandsForSteps, HasStepped}
use Rattle.online_nodes.specs.declared.operator.Operator.{Operator}
use Rattle.online_nodes.proofs.EdgeLaw.{root_grows, root_stays, root_taken, after_one}
use Rattle.online_nodes.proofs.EdgeLaw.{run_more, step_leaves, reads_or_not, shown_stays}
use Rattle.online_nodes.proofs.StretchLaw.{joined_grows, joined_stays}
use Rattle.online_nodes.proofs.Stretches.{all_stretches, stand_given}
use Rattle.online_nodes.proofs.ReadersLaw.{one_reader, root_unread}
use Rattle.online_nodes.proofs.StandingLaw.{InputOn, stands_on, edge_unshown, edge_within}
use Rattle.online_nodes.proofs.FrameLaw.{nothing_given}
use Rattle.online_nodes.proofs.RisingLaw.{sound_of, children_before}
use Rattle.online_nodes.proofs.ReaderLemmas.{child_all}
use Rattle.online_net.specs.Nets.{Parts, Keeps, HasOperator, Stands, first_row, last_row_of}

module _ (nodes : List Node) (header : Header) (events : List Event) (net : Parts) (st : Stands nodes header net events) where
  abbrev s : State
  s = state nodes events

  abbrev formed : AreWellFormed nodes
  formed = st.holds.formed

  abbrev order : IsPostOrder nodes
  order = st.holds.formed.post_order

  -- the root is a node
  pub root_here : length nodes - 1 < length nodes
  root_here = let h = root_some nodes st.holds.one_root in omega (arith, h)

  -- a node that is read is not the root
  read_under : (m : ℕ) (n : Node) (left : Bool) (j : ℕ) → slice_get nodes m ≡ Some n → IsReader n left j → j < length nodes → suc j < length nodes
  read_under m n left j at reads l = let d = root_unread nodes st.holds.one_root m n left j at reads in omega (arith, l, d)

  -- a node that is no root
  under : (j : ℕ) → j < length nodes → j ≢ length nodes - 1 → suc j < length nodes
  under j l d = omega (arith, l, d)

  -- what is appended to nothing that was left
  no_more : {X : Type 0} (xs ys : List X) → xs ++ ys ≡ [] → ys ≡ []
  no_more [] ys e = e
  no_more (x ∷ xs) ys e = absurd (let z : x ∷ (xs ++ ys) ≡ [] = e in cc)

  module _ (ev : Event) (may : MayCome nodes header (state nodes events) ev) where
    abbrev s' : State
    s' = after_event nodes (state nodes events) ev

    -- an input that got what it gave out
    pub input_got : (j : ℕ) → suc j < length nodes → (e' : Held) (more : List Verdict) → number_at e' j ≡ s'.fronts j
        → AreStretches (fresh_at e' j) (fresh_at net.edges j ++ more) → (edge_at e' j).seen ≡ (edge_at net.edges j).seen
        → EmittedAt nodes header j s s' more → InputOn nodes header formed s s' net.edges e' j
    input_got j l e' more number fresh seen given = record {
      number = st.shows.fronts j (omega (arith, l));
      number_new = number;
      more = more;
      fresh = fresh;
      seen = seen;
      emitted = given;
      unshown = λ x. no_more (edge_at net.edges j).seen (fresh_at net.edges j)
          (edge_unshown nodes header formed events st.run j (held_at net.edges j) (st.shows.edges j l) x);
      within = λ f x. edge_within nodes header formed events st.run j (omega (arith, l)) (edge_at net.edges j).seen (fresh_at net.edges j)
          (st.shows.edges j l) f x;
    }

    -- an input whose node and edge stay
    pub input_same : (j : ℕ) → suc j < length nodes → (e' : Held) → s'.fronts j ≡ s.fronts j → edge_at e' j ≡ edge_at net.edges j
        → InputOn nodes header formed s s' net.edges e' j
    input_same j l e' front edge = input_got j l e' [] (ap (λ (x : Edge). x.number) edge ∙ st.shows.fronts j (omega (arith, l)) ∙ sym front)
        (all_stretches (ap (λ (x : Edge). x.fresh) edge ∙ sym (append-nil (fresh_at net.edges j)))) (ap (λ (x : Edge). x.seen) edge)
        (nothing_given nodes header j s s'
        (shown_stays nodes header formed s ev (sound_of nodes header order events st.run) j (omega (arith, l)) front))

    -- the parts after the event stand for one event more, once each part does
    pub stand : (net' : Parts) → ((i : ℕ) → i < length nodes → number_at net'.edges i ≡ s'.fronts i)
        → ((j : ℕ) → suc j < length nodes → IsJoinedEdge nodes header (events ++ ev ∷ []) (edge_at net'.edges j).joins j (held_at net'.edges j))
        → IsRootEdge nodes header (events ++ ev ∷ []) (held_at net'.edges (length nodes - 1))
        → Keeps nodes header net' (events ++ ev ∷ []) → Stands nodes header net' (events ++ ev ∷ [])
    stand net' numbers edges root keeps = record {
      run = run_more nodes header formed events ev st.run may;
      holds = keeps;
      shows = record {
        fronts = λ i l. numbers i l ∙ ap (λ t. t.fronts i) (sym (after_one nodes header formed events ev));
        edges = edges;
        root = root;
      };
    }

    -- what is kept beside, after the event
    pub keep : (net' : Parts) → net'.bound ≡ net.bound → length net'.edges.edges ≡ length net.edges.edges → length net'.operators ≡ length net.operators
        → JoinsAlike net.edges net'.edges
        → net'.edges.start ≡ option_map (λ (r : Row). r.time) (first_row s'.rows) → net'.last ≡ last_row_of s'.rows → net'.closed ≡ s'.closed
        → net'.stopped ≡ false
        → ((i : ℕ) (n : Node) → slice_get nodes i ≡ Some n → is_atom n ≡ true → slice_get net'.operators i ≡ Some None)
        → ((i : ℕ) (n : Node) → slice_get nodes i ≡ Some n → is_atom n ≡ false
        → HasOperator nodes header (events ++ ev ∷ []) net'.edges i (slice_get net'.operators i))
        → Keeps nodes header net' (events ++ ev ∷ [])
    keep net' bound edges operators joins start last closed running at_atom at_other = record {
      formed = formed;
      one_root = st.holds.one_root;
      scale = st.holds.scale;
      bound = subst (λ b. IsBound b (record { nodes = nodes; scale = st.holds.scale }) header) (sym bound) st.holds.bound;
      edges = edges ∙ st.holds.edges;
      operators = operators ∙ st.holds.operators;
      plain = joins (length nodes - 1) ∙ st.holds.plain;
      start = start ∙ ap (λ t. option_map (λ (r : Row). r.time) (first_row t.rows)) (sym (after_one nodes header formed events ev));
      last = last ∙ ap (λ t. last_row_of t.rows) (sym (after_one nodes header formed events ev));
      closed = closed ∙ ap (λ (t : State). t.closed) (sym (after_one nodes header formed events ev));
      running = running;
      at_atom = at_atom;
      at_other = at_other;
    }

    -- an operator whose node stays
    pub operator_stays : (e' : Held) (i : ℕ) (n : Node) → slice_get nodes i ≡ Some n → is_atom n ≡ false → s'.fronts i ≡ s.fronts i
        → ((left : Bool) (j : ℕ) → IsReader n left j → InputOn nodes header formed s s' net.edges e' j)
        → HasOperator nodes header (events ++ ev ∷ []) e' i (slice_get net.operators i)
    operator_stays e' i n at other front ins =
        let has = st.holds.at_other i n at other in
        record {
          operator = has.operator;
          is = has.is;
          node = has.node;
          stands = stands_on nodes header formed events ev st.run may has.operator net.edges e' has.stands
              (subst (λ k. s'.fronts k ≡ s.fronts k) (sym has.node) front)
              (λ left j r. ins left j (subst (λ m. IsReader m left j) (same_node has.stands.node has.operator.node has.node has.stands.at) r));
        }
      where
        same_node : (m : Node) (k : ℕ) → k ≡ i → slice_get nodes k ≡ Some m → m ≡ n
        same_node m k e x =
            let y : slice_get nodes i ≡ Some m = subst (λ k. slice_get nodes k ≡ Some m) e x in
            sym (get_or_from_slice_get nodes i m (Const false) y) ∙ get_or_from_slice_get nodes i n (Const false) at

  -- what a node reads is no root
  pub read_place : (i : ℕ) (n : Node) (left : Bool) (j : ℕ) → slice_get nodes i ≡ Some n → IsReader n left j → suc j < length nodes
  read_place i n left j at reads =
      let l = slice_get_within nodes i n at in
      let x : j < i = child_all (λ p. p < i) n left j reads (children_before nodes header order i n l at) in
      omega (arith, l, x)

  -- the end came
  pub closed_stands : MayCome nodes header s close → Stands nodes header (record net { closed = true }) (events ++ close ∷ [])
  closed_stands may = stand close may (record net { closed = true }) (λ i l. st.shows.fronts i l)
      (λ j l. joined_stays nodes header formed events close st.run may j (omega (arith, l)) (held_at net.edges j) (st.shows.edges j l)
      (slice_get_within nodes (st.shows.edges j l).reader (st.shows.edges j l).reading (st.shows.edges j l).at_reader) refl refl)
      (root_stays nodes header formed events close (λ e. let z : close ≡ take = e in cc) st.run root_here
      (held_at net.edges (length nodes - 1)) st.shows.root refl)
      (keep close may (record net { closed = true }) refl refl refl (λ j. refl) st.holds.start st.holds.last refl st.holds.running st.holds.at_atom
      (λ i n at other. operator_stays close may net.edges i n at other refl
      (λ left j r. input_same close may j (read_place i n left j at r) net.edges refl refl)))

  -- a verdict of the root was taken, if there was one
  pub taken_stands : (e' : Held) → ((j : ℕ) → j ≢ length nodes - 1 → edge_at e' j ≡ edge_at net.edges j)
      → JoinsAlike net.edges e'
      → held_at e' (length nodes - 1) ≡ drop 1 (held_at net.edges (length nodes - 1)) → number_at e' (length nodes - 1) ≡ number_at net.edges (length nodes - 1)
      → length e'.edges ≡ length net.edges.edges → e'.start ≡ net.edges.start
      → Stands nodes header (record net { edges = e' }) (events ++ take ∷ [])
  taken_stands e' others joins root number count start = stand take tt (record net { edges = e' }) numbers
      (λ j l. subst (λ (x : Edge). IsJoinedEdge nodes header (events ++ take ∷ []) x.joins j (held_of x)) (sym (others j (omega (arith, l))))
      (joined_stays nodes header formed events take st.run tt j (omega (arith, l)) (held_at net.edges j) (st.shows.edges j l)
      (slice_get_within nodes (st.shows.edges j l).reader (st.shows.edges j l).reading (st.shows.edges j l).at_reader) refl refl))
      (subst (λ h. IsRootEdge nodes header (events ++ take ∷ []) h) (sym root)
      (root_taken nodes header formed events (held_at net.edges (length nodes - 1)) st.shows.root))
      (keep take tt (record net { edges = e' }) refl count refl joins (start ∙ st.holds.start) st.holds.last st.holds.closed st.holds.running
      st.holds.at_atom (λ i n at other. operator_stays take tt e' i n at other refl
      (λ left j r. input_same take tt j (read_place i n left j at r) e' refl
      (others j (let l = read_place i n left j at r in omega (arith, l))))))
    where
      numbers : (i : ℕ) → i < length nodes → number_at e' i ≡ s.fronts i
      numbers i l = by_order (cases_order i (length nodes - 1))
        where
          other : i ≢ length nodes - 1 → number_at e' i ≡ s.fronts i
          other d = ap (λ (x : Edge). x.number) (others i d) ∙ st.shows.fronts i l

          by_order : (i ≡ length nodes - 1) ⊎ ((i < length nodes - 1) ⊎ (length nodes - 1 < i)) → number_at e' i ≡ s.fronts i
          by_order (inl x) = ap (number_at e') x ∙ number ∙ ap (number_at net.edges) (sym x) ∙ st.shows.fronts i l
          by_order (inr (inl x)) = other (λ y. absurd (omega (arith, x, y)))
          by_order (inr (inr x)) = other (λ y. absurd (omega (arith, x, y)))

  -- a node stepped
  pub stepped_stands : (i : ℕ) (op : Operator) (e1 e' : Held) (ops : List (Option Operator)) → MayCome nodes header s (step i)
      → ((j : ℕ) → edge_at e1 j ≡ edge_at net.edges j) → HasStepped nodes header events i e1 e' → length e'.edges ≡ length net.edges.edges
      → e'.start ≡ net.edges.start → StandsForSteps nodes header (events ++ step i ∷ []) op e' → op.node ≡ i
      → length ops ≡ length net.operators → slice_get ops i ≡ Some (Some op)
      → ((j : ℕ) → j ≢ i → slice_get ops j ≡ slice_get net.operators j)
      → Stands nodes header (record net { edges = e'; operators = ops }) (events ++ step i ∷ [])
  stepped_stands i op e1 e' ops may same stepped count start stands node long here others = stand (step i) may (record net { edges = e'; operators = ops })
      numbers edges root
      (keep (step i) may (record net { edges = e'; operators = ops }) refl count long joins (start ∙ st.holds.start) st.holds.last st.holds.closed
      st.holds.running (λ j n at a. others j (λ x. not_atom j n at a x) ∙ st.holds.at_atom j n at a) (λ j n at a. by_place j n at a (cases_order j i)))
    where
      il : i < length nodes
      il = may.0

      n_i : Node
      n_i = slice_index_or nodes i (Const false)

      at_i : slice_get nodes i ≡ Some n_i
      at_i = slice_get_at nodes i (Const false) il

      not_atom : (j : ℕ) (n : Node) → slice_get nodes j ≡ Some n → is_atom n ≡ true → j ≡ i → ⊥
      not_atom j n at a x =
          let y : is_atom (slice_index_or nodes j (Const false)) ≡ true = ap is_atom (get_or_from_slice_get nodes j n (Const false) at) ∙ a in
          let z : node_is_atom nodes i ≡ true = subst (λ k. node_is_atom nodes k ≡ true) x y in
          (let w : true ≡ false = sym z ∙ may.1 in cc)

      -- the node's verdicts, at the state after its step
      given : EmittedAt nodes header i s (after_event nodes s (step i)) stepped.verdicts
      given = subst (λ t. EmittedAt nodes header i s t stepped.verdicts) (after_one nodes header formed events (step i)) stepped.emitted

      -- an edge that is neither the node's own nor one of its inputs'
      stays : (j : ℕ) → j ≢ i → ((left : Bool) → IsReader n_i left j → ⊥) → edge_at e' j ≡ edge_at net.edges j
      stays j d none = stepped.others j d (λ n left at r. none left
          (subst (λ m. IsReader m left j) (sym (get_or_from_slice_get nodes i n (Const false) at)) r)) ∙ same j

      number_here : number_at e' i ≡ (after_event nodes s (step i)).fronts i
      number_here = stepped.number ∙ sym (by_test (i == i) refl)
        where
          by_test : (t : Bool) → (i == i) ≡ t → cond (i == i) (allowed_at nodes s i) (s.fronts i) ≡ allowed_at nodes s i
          by_test true x = ap (λ t. cond t (allowed_at nodes s i) (s.fronts i)) x
          by_test false x = absurd (let y = eq-eqb i i refl in cc)

      numbers : (j : ℕ) → j < length nodes → number_at e' j ≡ (after_event nodes s (step i)).fronts j
      numbers j l = by_order (cases_order j i)
        where
          other : j ≢ i → number_at e' j ≡ (after_event nodes s (step i)).fronts j
          other d = by_read (reads_or_not n_i j) ∙ st.shows.fronts j l ∙ sym (step_leaves nodes header formed s i j d)
            where
              by_read : ((left : Bool) × IsReader n_i left j) ⊎ ((left : Bool) → IsReader n_i left j → ⊥) → number_at e' j ≡ number_at net.edges j
              by_read (inl (left, r)) = (stepped.inputs j n_i left at_i r).0 ∙ ap (λ (x : Edge). x.number) (same j)
              by_read (inr none) = ap (λ (x : Edge). x.number) (stays j d none)

          by_order : (j ≡ i) ⊎ ((j < i) ⊎ (i < j)) → number_at e' j ≡ (after_event nodes s (step i)).fronts j
          by_order (inl x) = subst (λ k. number_at e' k ≡ (after_event nodes s (step i)).fronts k) (sym x) number_here
          by_order (inr (inl x)) = other (λ y. absurd (omega (arith, x, y)))
          by_order (inr (inr x)) = other (λ y. absurd (omega (arith, x, y)))

      -- what the node's own edge held unread, what it held read, and all
      fresh_here : fresh_at e' i ≡ fresh_at net.edges i ++ stepped.verdicts
      fresh_here = stepped.got ∙ ap (λ (x : Edge). x.fresh ++ stepped.verdicts) (same i)

      seen_here : (edge_at e' i).seen ≡ (edge_at net.edges i).seen
      seen_here = stepped.seen ∙ ap (λ (x : Edge). x.seen) (same i)

      held_here : held_at e' i ≡ held_at net.edges i ++ stepped.verdicts
      held_here = ap (λ l. l ++ fresh_at e' i) seen_here ∙ ap (λ l. (edge_at net.edges i).seen ++ l) fresh_here
          ∙ sym (append_assoc (edge_at net.edges i).seen (fresh_at net.edges i) stepped.verdicts)

      -- each edge joins where it joined
      joins : JoinsAlike net.edges e'
      joins j = stepped.joins j ∙ ap (λ (x : Edge). x.joins) (same j)

      -- the reader of another node's edge, which does not read it
      reader_other : (j : ℕ) (l : suc j < length nodes) → ((left : Bool) → IsReader n_i left j → ⊥) → (st.shows.edges j l).reader ≢ i
      reader_other j l none x =
          let edge = st.shows.edges j l in
          let y : edge.reading ≡ n_i = sym (get_or_from_slice_get nodes edge.reader edge.reading (Const false) edge.at_reader)
          ∙ ap (λ k. slice_index_or nodes k (Const false)) x in
          none edge.left (subst (λ m. IsReader m edge.left j) y edge.reads)

      edges : (j : ℕ) → suc j < length nodes → IsJoinedEdge nodes header (events ++ step i ∷ []) (edge_at e' j).joins j (held_at e' j)
      edges j l = by_order (cases_order j i)
        where
          own : j ≡ i → IsJoinedEdge nodes header (events ++ step i ∷ []) (edge_at e' j).joins j (held_at e' j)
          own x = subst (λ k. IsJoinedEdge nodes header (events ++ step i ∷ []) (edge_at e' k).joins k (held_at e' k)) (sym x)
              (subst (λ b. IsJoinedEdge nodes header (events ++ step i ∷ []) b i (held_at e' i)) (sym (joins i))
              (subst (λ h. IsJoinedEdge nodes header (events ++ step i ∷ []) (edge_at net.edges i).joins i h)
              (sym (held_here ∙ append_assoc (edge_at net.edges i).seen (fresh_at net.edges i) stepped.verdicts))
              (joined_grows nodes header formed events (step i) st.run may i il (edge_at net.edges i).seen (fresh_at net.edges i)
              (fresh_at net.edges i ++ stepped.verdicts) stepped.verdicts edge (slice_get_within nodes edge.reader edge.reading edge.at_reader)
              (step_leaves nodes header formed s i edge.reader (λ y. absurd (let z = below in omega (arith, y, z)))) given
              (stand_given (edge_at net.edges i).joins (fresh_at net.edges i ++ stepped.verdicts)))))
            where
              edge : IsJoinedEdge nodes header events (edge_at net.edges i).joins i (held_at net.edges i)
              edge = st.shows.edges i (subst (λ k. suc k < length nodes) x l)

              below : i < edge.reader
              below = child_all (λ p. p < edge.reader) edge.reading edge.left i edge.reads
                  (children_before nodes header order edge.reader edge.reading (slice_get_within nodes edge.reader edge.reading edge.at_reader) edge.at_reader)

          other : j ≢ i → IsJoinedEdge nodes header (events ++ step i ∷ []) (edge_at e' j).joins j (held_at e' j)
          other d = by_read (reads_or_not n_i j)
            where
              by_read : ((left : Bool) × IsReader n_i left j) ⊎ ((left : Bool) → IsReader n_i left j → ⊥)
                  → IsJoinedEdge nodes header (events ++ step i ∷ []) (edge_at e' j).joins j (held_at e' j)
              by_read (inl (left, r)) = (stepped.inputs j n_i left at_i r).1
              by_read (inr none) = subst (λ (x : Edge). IsJoinedEdge nodes header (events ++ step i ∷ []) x.joins j (held_of x))
                  (sym (stays j d none))
                  (joined_stays nodes header formed events (step i) st.run may j (omega (arith, l)) (held_at net.edges j) (st.shows.edges j l)
                  (slice_get_within nodes (st.shows.edges j l).reader (st.shows.edges j l).reading (st.shows.edges j l).at_reader)
                  (step_leaves nodes header formed s i (st.shows.edges j l).reader (reader_other j l none)) (step_leaves nodes header formed s i j d))

          by_order : (j ≡ i) ⊎ ((j < i) ⊎ (i < j))
              → IsJoinedEdge nodes header (events ++ step i ∷ []) (edge_at e' j).joins j (held_at e' j)
          by_order (inl x) = own x
          by_order (inr (inl x)) = other (λ y. absurd (omega (arith, x, y)))
          by_order (inr (inr x)) = other (λ y. absurd (omega (arith, x, y)))

      root : IsRootEdge nodes header (events ++ step i ∷ []) (held_at e' (length nodes - 1))
      root = by_order (cases_order (length nodes - 1) i)
        where
          no_take : step i ≢ take
          no_take e = let z : step i ≡ take = e in cc

          own : length nodes - 1 ≡ i → IsRootEdge nodes header (events ++ step i ∷ []) (held_at e' (length nodes - 1))
          own x = subst (λ h. IsRootEdge nodes header (events ++ step i ∷ []) h)
              (sym (subst (λ k. held_at e' k ≡ held_at net.edges k ++ stepped.verdicts) (sym x) held_here))
              (root_grows nodes header formed events (step i) no_take (held_at net.edges (length nodes - 1)) stepped.verdicts st.shows.root
              (subst (λ k. EmittedAt nodes header k s (after_event nodes s (step i)) stepped.verdicts) (sym x) given))

          other : length nodes - 1 ≢ i → IsRootEdge nodes header (events ++ step i ∷ []) (held_at e' (length nodes - 1))
          other d = subst (λ h. IsRootEdge nodes header (events ++ step i ∷ []) h)
              (ap held_of (sym (stays (length nodes - 1) d
              (λ left r. root_unread nodes st.holds.one_root i n_i left (length nodes - 1) at_i r refl))))
              (root_stays nodes header formed events (step i) no_take st.run root_here (held_at net.edges (length nodes - 1)) st.shows.root
              (step_leaves nodes header formed s i (length nodes - 1) d))

          by_order : (length nodes - 1 ≡ i) ⊎ ((length nodes - 1 < i) ⊎ (i < length nodes - 1))
              → IsRootEdge nodes header (events ++ step i ∷ []) (held_at e' (length nodes - 1))
          by_order (inl x) = own x
          by_order (inr (inl x)) = other (λ y. absurd (omega (arith, x, y)))
          by_order (inr (inr x)) = other (λ y. absurd (omega (arith, x, y)))

      -- an input of another node
      input : (m : ℕ) (n : Node) (left : Bool) (j : ℕ) → m ≢ i → slice_get nodes m ≡ Some n → IsReader n left j
          → InputOn nodes header formed s (after_event nodes s (step i)) net.edges e' j
      input m n left j d at r = by_order (cases_order j i)
        where
          l : suc j < length nodes
          l = read_place m n left j at r

          none : (side : Bool) → IsReader n_i side j → ⊥
          none side q = d (one_reader nodes order m i left side j at at_i r q)

          other : j ≢ i → InputOn nodes header formed s (after_event nodes s (step i)) net.edges e' j
          other x = input_same (step i) may j l e' (step_leaves nodes header formed s i j x) (stays j x none)

          own : j ≡ i → InputOn nodes header formed s (after_event nodes s (step i)) net.edges e' j
          own x = subst (λ k. InputOn nodes header formed s (after_event nodes s (step i)) net.edges e' k) (sym x)
              (input_got (step i) may i (subst (λ k. suc k < length nodes) x l) e' stepped.verdicts number_here
              (all_stretches fresh_here) seen_here given)

          by_order : (j ≡ i) ⊎ ((j < i) ⊎ (i < j)) → InputOn nodes header formed s (after_event nodes s (step i)) net.edges e' j
          by_order (inl x) = own x
          by_order (inr (inl x)) = other (λ y. absurd (omega (arith, x, y)))
          by_order (inr (inr x)) = other (λ y. absurd (omega (arith, x, y)))

      by_place : (j : ℕ) (n : Node) → slice_get nodes j ≡ Some n → is_atom n ≡ false → (j ≡ i) ⊎ ((j < i) ⊎ (i < j))
          → HasOperator nodes header (events ++ step i ∷ []) e' j (slice_get ops j)
      by_place j n at a (inl x) = record { operator = op; is = ap (slice_get ops) x ∙ here; node = node ∙ sym x; stands = stands }
      by_place j n at a (inr q) =
          let d : j ≢ i = apart q in
          subst (λ o. HasOperator nodes header (events ++ step i ∷ []) e' j o) (sym (others j d))
          (operator_stays (step i) may e' j n at a (step_leaves nodes header formed s i j d) (λ left k r. input j n left k d at r))
        where
          apart : (j < i) ⊎ (i < j) → j ≢ i
          apart (inl x) y = absurd (omega (arith, x, y))
          apart (inr x) y = absurd (omega (arith, x, y))
