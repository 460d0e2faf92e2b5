-- What a network stands for once a row has come.
use Rattle.std.proofs.Common.{◌≡◌, refl, sym, ap, subst, ◌∙◌, ℕ, suc, ◌-◌, ◌<◌, ◌≤◌, Bool, true, false, Option}
use Rattle.std.proofs.Common.{Some, None, List, [], ◌∷◌, ◌++◌, length, ℤ, pos, ◌<ℤ◌, arith, append_assoc}
use Rattle.std.specs.Prelude.{MatchBool, ◌≢◌, cond, int_lt, not, ◌&&◌, slice_get, slice_index_or, option_map, IfSome}
use Rattle.std.proofs.lemmas.Int.{ints}
use Rattle.std.proofs.lemmas.Option.{get_or_from_slice_get, same_Some, slice_get_within}
use Rattle.rational.proofs.Lists.{slice_get-append_here}
use Rattle.rational.proofs.Tests.{int_order}
use Rattle.stl_syntax.specs.Trace.{Header, Row, Trace, first_time, last_time}
use Rattle.stl_syntax.specs.Formula.{subformula, atom}
use Rattle.stl_syntax.specs.PostOrder.{IsPostOrder}
use Rattle.stl_syntax.specs.WellFormed.{AreWellFormed}
use Rattle.stl_syntax.specs.Verdicts.{Describes}
use Rattle.stl_syntax.specs.declared.atom.Atom.{Atom}
use Rattle.stl_syntax.specs.declared.items.Verdict.{Verdict}
use Rattle.stl_syntax.specs.declared.node.Node.{Node}
use Rattle.stl_syntax.specs.declared.node.Node.TheVariants.{Const, Atom as Leaf, Not, And, Or, Implies, Until, Eventually, Always, Since, Once, Historically}
use Rattle.stl_syntax.proofs.FormulaLemmas.{subformula-at}
use Rattle.stl_syntax.proofs.PostOrderLemmas.{placed, slice_get_at}
use Rattle.stl_syntax.proofs.RowsLemmas.{last_from}
use Rattle.atom_lines.specs.Binding.{HasRow, AreNeighbours}
use Rattle.online_nodes.specs.Network.{Event, row, take, Front, State, last_row, shown, same_front, answered}
use Rattle.online_nodes.specs.Network.{is_atom, node_is_atom, after_event, state, EmittedAt, MayCome}
use Rattle.online_nodes.specs.Needed.{IsReader, IsJoinedEdge, IsRootEdge}
use Rattle.online_nodes.specs.Held.{Edge, Held, JoinsAlike, Stand, edge_at, fresh_at, held_at, held_of, number_at}
use Rattle.online_nodes.proofs.RunLaw.{last_appended}
use Rattle.online_nodes.proofs.RisingLaw.{IsSound, sound_of}
use Rattle.online_nodes.proofs.EmittedLaw.{front_shown}
use Rattle.online_nodes.proofs.RowsLaw.{AreRowsSoFar, rows_of, rows_after, trace_so_far}
use Rattle.online_nodes.proofs.EdgeLaw.{root_grows, root_stays, row_leaves, reader_is_none}
use Rattle.online_nodes.proofs.StandingLaw.{InputOn}
use Rattle.online_nodes.proofs.StretchLaw.{joined_grows, joined_stays}
use Rattle.online_nodes.proofs.Stretches.{stand_stretches}
use Rattle.online_net.specs.Nets.{Parts, Stands, first_row, last_row_of, last_row_after}
use Rattle.online_net.specs.Atoms.{row_stretch, StandsNext, IsPut, HasPutAtoms, begun}
use Rattle.online_net.proofs.Events.{stand, keep, operator_stays, input_got, input_same, read_place, root_here}

-- rows with a last one end in it
pub last_splits : (rows : List Row) (q : Row) → last_row_of rows ≡ Some q → (front : List Row) × (rows ≡ front ++ q ∷ [])
last_splits [] q e = absurd (let x : None ≡ Some q = e in cc)
last_splits (r ∷ rows) q e = by_rest r rows q e
  where
    by_rest : (r : Row) (rows : List Row) (q : Row) → Some (last_row_after r rows) ≡ Some q → (front : List Row) × (r ∷ rows ≡ front ++ q ∷ [])
    by_rest r [] q e = ([], let x : r ≡ q = row_is r q e in ap (λ y. y ∷ []) x)
      where
        row_is : (a b : Row) → Some a ≡ Some b → a ≡ b
        row_is a b e = cc
    by_rest r (s ∷ rows) q e = let x = by_rest s rows q e in (r ∷ x.0, ap (λ l. r ∷ l) x.1)

-- where there is no last row there are no rows
pub no_last : (rows : List Row) → last_row_of rows ≡ None → rows ≡ []
no_last [] e = refl
no_last (r ∷ rows) e = absurd (let x : Some (last_row_after r rows) ≡ None = e in cc)

last_pushed : (rows : List Row) (r : Row) → last_row_of (rows ++ r ∷ []) ≡ Some r
last_pushed [] r = refl
last_pushed (q ∷ rows) r = ap Some (by_rest q rows)
  where
    by_rest : (q : Row) (rows : List Row) → last_row_after q (rows ++ r ∷ []) ≡ r
    by_rest q [] = refl
    by_rest q (s ∷ rows) = by_rest s rows

-- the time of the last row by both names
pub last_time_is : (rows : List Row) (closed : Bool) (fronts : ℕ → Front) (q : Row) → last_row_of rows ≡ Some q
    → last_row (record { rows = rows; closed = closed; fronts = fronts }) ≡ Some (pos q.time)
last_time_is rows closed fronts q e =
    let x = last_splits rows q e in
    subst (λ l. last_row (record { rows = l; closed = closed; fronts = fronts }) ≡ Some (pos q.time)) (sym x.1) (last_appended x.0 q closed fronts)

-- a row that is pushed stands in the trace right after the last one
get_after_seam : (front : List Row) (q r : Row) → slice_get (front ++ q ∷ r ∷ []) (suc (length front)) ≡ Some r
get_after_seam [] q r = refl
get_after_seam (p ∷ front) q r = get_after_seam front q r

stands_next : (header : Header) (rows : List Row) (before : Option Row) (r : Row) → before ≡ last_row_of rows
    → StandsNext (record { header = header; rows = rows ++ r ∷ [] }) before r
stands_next header rows None r e = subst (λ l. HasRow (record { header = header; rows = l ++ r ∷ [] }) r) (sym (no_last rows (sym e))) (0, refl)
stands_next header rows (Some q) r e =
    let x = last_splits rows q (sym e) in
    subst (λ l. AreNeighbours (record { header = header; rows = l }) q r)
    (sym (ap (λ l. l ++ r ∷ []) x.1 ∙ append_assoc x.0 (q ∷ []) (r ∷ [])))
    (length x.0, slice_get-append_here x.0 q (r ∷ []), get_after_seam x.0 q r)

-- the first time is not after the last row's
pub start_by_last : (width : ℕ) (rows : List Row) (q : Row) → AreRowsSoFar width rows → last_row_of rows ≡ Some q → first_time rows ≤ q.time
start_by_last width [] q h e = absurd (let x : None ≡ Some q = e in cc)
start_by_last width (r ∷ rows) q h e =
    let x = last_from width r.time rows h.1 in
    let y : pos (last_time r.time rows) ≡ pos q.time = same_Some (pos (last_time r.time rows)) (pos q.time) (last_time_is (r ∷ rows) false (λ i. None) q e) in
    omega (arith, ints, x, y)

begun_edge : (e : Held) (before : Option Row) (r : Row) (j : ℕ) → edge_at (begun e before r) j ≡ edge_at e j
begun_edge e None r j = refl
begun_edge e (Some q) r j = refl

begun_count : (e : Held) (before : Option Row) (r : Row) → length (begun e before r).edges ≡ length e.edges
begun_count e None r = refl
begun_count e (Some q) r = refl

-- an atom's subformula
atom_is : (nodes : List Node) (j : ℕ) (a : Atom) → IsPostOrder nodes → slice_get nodes j ≡ Some (Leaf a) → subformula nodes j ≡ atom j a
atom_is nodes j a order at = subformula-at nodes j (Leaf a) at (placed nodes j (Leaf a) order at)

-- a node is an atom with its comparison
pub leaf_of : (n : Node) → is_atom n ≡ true → (a : Atom) × (n ≡ Leaf a)
leaf_of (Leaf a) e = (a, refl)
leaf_of (Const b) e = absurd (let x : false ≡ true = e in cc)
leaf_of (Not p) e = absurd (let x : false ≡ true = e in cc)
leaf_of (And p q) e = absurd (let x : false ≡ true = e in cc)
leaf_of (Or p q) e = absurd (let x : false ≡ true = e in cc)
leaf_of (Implies p q) e = absurd (let x : false ≡ true = e in cc)
leaf_of (Until p q a b) e = absurd (let x : false ≡ true = e in cc)
leaf_of (Eventually p a b i j) e = absurd (let x : false ≡ true = e in cc)
leaf_of (Always p a b i j) e = absurd (let x : false ≡ true = e in cc)
leaf_of (Since p q a b) e = absurd (let x : false ≡ true = e in cc)
leaf_of (Once p a b i j) e = absurd (let x : false ≡ true = e in cc)
leaf_of (Historically p a b i j) e = absurd (let x : false ≡ true = e in cc)

module _ (nodes : List Node) (header : Header) (events : List Event) (net : Parts) (st : Stands nodes header net events) (r : Row)
    (may : MayCome nodes header (state nodes events) (row r)) (e' : Held)
    (put : HasPutAtoms net.bound net.last r net.operators (length net.operators) (begun net.edges net.last r) e') where
  abbrev s : State
  s = state nodes events

  abbrev s' : State
  s' = after_event nodes (state nodes events) (row r)

  abbrev formed : AreWellFormed nodes
  formed = st.holds.formed

  sound : IsSound nodes header formed.post_order s
  sound = sound_of nodes header formed.post_order events st.run

  is_last : net.last ≡ last_row_of s.rows
  is_last = st.holds.last

  node_here : (j : ℕ) (n : Node) → slice_get nodes j ≡ Some n → node_is_atom nodes j ≡ is_atom n
  node_here j n at = ap is_atom (get_or_from_slice_get nodes j n (Const false) at)

  -- an atom's edge got its verdicts
  atom_put : (j : ℕ) (n : Node) → slice_get nodes j ≡ Some n → is_atom n ≡ true → IsPut net.bound net.last r j (edge_at net.edges j) (edge_at e' j)
  atom_put j n at a = subst (λ x. IsPut net.bound net.last r j x (edge_at e' j)) (begun_edge net.edges net.last r j)
      (put.atoms j (let l = slice_get_within nodes j n at in let c = st.holds.operators in omega (arith, l, c)) (st.holds.at_atom j n at a))

  -- another node's edge stays
  other_edge : (j : ℕ) (n : Node) → slice_get nodes j ≡ Some n → is_atom n ≡ false → edge_at e' j ≡ edge_at net.edges j
  other_edge j n at a = put.others j (λ l x. let has = st.holds.at_other j n at a in
      let y : Some (Some has.operator) ≡ Some None = sym has.is ∙ x in (cc)) ∙ begun_edge net.edges net.last r j

  other_front : (j : ℕ) (n : Node) → slice_get nodes j ≡ Some n → is_atom n ≡ false → s'.fronts j ≡ s.fronts j
  other_front j n at a = row_leaves nodes header formed s r j (node_here j n at ∙ a)

  atom_front : (j : ℕ) (n : Node) → slice_get nodes j ≡ Some n → is_atom n ≡ true → s'.fronts j ≡ Some (pos r.time)
  atom_front j n at a = ap (λ t. cond t (Some (pos r.time)) (s.fronts j)) (node_here j n at ∙ a)

  start_before : first_time s'.rows ≤ r.time
  start_before = start_by_last (length header.columns) s'.rows r
      (rows_after nodes header s (row r) may (rows_of nodes header events st.run)) (last_pushed s.rows r)

  -- it is what the atom gives out at the row
  given : (j : ℕ) (n : Node) (at : slice_get nodes j ≡ Some n) (a : is_atom n ≡ true) → EmittedAt nodes header j s s' (atom_put j n at a).more
  given j n at a = by_shown (shown s' j) now
    where
      more : List Verdict
      more = (atom_put j n at a).more

      now : shown s' j ≡ Some (pos r.time)
      now = front_shown s' j (pos r.time) (atom_front j n at a) (let h = start_before in omega (arith, ints, h))

      leaf : (x : Atom) × (n ≡ Leaf x)
      leaf = leaf_of n a

      at_leaf : slice_get nodes j ≡ Some (Leaf leaf.0)
      at_leaf = at ∙ ap Some leaf.1

      tr : Trace
      tr = record { header = header; rows = s'.rows }

      describes : Describes more (subformula nodes j) tr (row_stretch net.last r)
      describes = subst (λ p. Describes more p tr (row_stretch net.last r)) (sym (atom_is nodes j leaf.0 formed.post_order at_leaf))
          ((atom_put j n at a).describes leaf.0 tr (record {
            formula = record { nodes = nodes; scale = st.holds.scale };
            bound = st.holds.bound;
            node = at_leaf;
            rows = trace_so_far header s' (pos r.time) (rows_after nodes header s (row r) may (rows_of nodes header events st.run))
                (last_appended s.rows r s.closed s'.fronts);
          }) (stands_next header s.rows net.last r is_last))

      Gives : Front → Front → Type 0
      Gives old None = more ≡ []
      Gives old (Some f) = MatchBool (same_front old (Some f)) (more ≡ [])
          (Describes more (subformula nodes j) tr (answered (first_time s'.rows) old f))

      by_last : (before : Option Row) → net.last ≡ before → Describes more (subformula nodes j) tr (row_stretch before r)
          → Gives (shown s j) (Some (pos r.time))
      by_last None e d =
          let none : s.rows ≡ [] = no_last s.rows (sym is_last ∙ e) in
          let unshown : shown s j ≡ None = not_yet none in
          subst (λ o. Gives o (Some (pos r.time))) (sym unshown)
          (subst (λ l. Describes more (subformula nodes j) tr (answered (first_time (l ++ r ∷ [])) None (pos r.time))) (sym none) d)
        where
          not_yet : s.rows ≡ [] → shown s j ≡ None
          not_yet none = by_front (s.fronts j) refl
            where
              from : Front → Front
              from None = None
              from (Some g) = cond (int_lt g (pos (first_time s.rows))) None (Some g)

              by_front : (o : Front) → s.fronts j ≡ o → from (s.fronts j) ≡ None
              by_front None x = ap from x
              by_front (Some g) x =
                  let b = sound.bounded j g (slice_get_within nodes j n at) x in
                  let y : None ≡ Some b.last = subst (λ l. last_row (record { rows = l; closed = s.closed; fronts = s.fronts }) ≡ Some b.last) none b.is_last in
                  absurd (cc)
      by_last (Some q) e d =
          let end = last_time_is s.rows s.closed s.fronts q (sym is_last ∙ e) in
          let front : s.fronts j ≡ Some (pos q.time) = sound.atoms j (slice_get_within nodes j n at) (node_here j n at ∙ a) ∙ end in
          let low = start_by_last (length header.columns) s.rows q (rows_of nodes header events st.run) (sym is_last ∙ e) in
          let was : shown s j ≡ Some (pos q.time) = front_shown s j (pos q.time) front (omega (arith, ints, low)) in
          let later : pos q.time <ℤ pos r.time = subst (λ o. IfSome o (λ f. f <ℤ pos r.time)) end may.1 in
          subst (λ o. Gives o (Some (pos r.time))) (sym was)
          (subst (λ t. MatchBool t (more ≡ []) (Describes more (subformula nodes j) tr (answered (first_time s'.rows) (Some (pos q.time)) (pos r.time))))
          (sym (differs (pos q.time) (pos r.time) later)) d)
        where
          differs : (f g : ℤ) → f <ℤ g → same_front (Some f) (Some g) ≡ false
          differs f g l = by_test (int_lt f g) refl
            where
              by_test : (t : Bool) → int_lt f g ≡ t → (not (int_lt f g) && not (int_lt g f)) ≡ false
              by_test true x = ap (λ t. not t && not (int_lt g f)) x
              by_test false x = absurd (let h = int_order f g false x in omega (arith, ints))

      by_shown : (o : Front) → o ≡ Some (pos r.time) → Gives (shown s j) o
      by_shown o e = subst (λ o. Gives (shown s j) o) (sym e) (by_last net.last refl describes)

  -- an atom's edge, of which nothing more was read
  put_seen : (j : ℕ) (n : Node) → slice_get nodes j ≡ Some n → is_atom n ≡ true → (edge_at e' j).seen ≡ (edge_at net.edges j).seen
  put_seen j n at a = let p = atom_put j n at a in ap (λ (x : Edge). x.seen) p.is ∙ p.got.seen

  put_fresh : (j : ℕ) (n : Node) (at : slice_get nodes j ≡ Some n) (a : is_atom n ≡ true)
      → Stand (edge_at net.edges j).joins (fresh_at net.edges j ++ (atom_put j n at a).more) (fresh_at e' j)
  put_fresh j n at a =
      let p = atom_put j n at a in
      subst (λ (x : Edge). Stand (edge_at net.edges j).joins (fresh_at net.edges j ++ p.more) x.fresh) (sym p.is) p.got.fresh

  -- where the edge does not join it got the verdicts as they are
  put_held : (j : ℕ) (n : Node) (at : slice_get nodes j ≡ Some n) (a : is_atom n ≡ true) → (edge_at net.edges j).joins ≡ false
      → held_at e' j ≡ held_at net.edges j ++ (atom_put j n at a).more
  put_held j n at a e =
      let p = atom_put j n at a in
      ap (λ l. l ++ fresh_at e' j) (put_seen j n at a)
      ∙ ap (λ l. (edge_at net.edges j).seen ++ l) (subst (λ b. Stand b (fresh_at net.edges j ++ p.more) (fresh_at e' j)) e (put_fresh j n at a))
      ∙ sym (append_assoc (edge_at net.edges j).seen (fresh_at net.edges j) p.more)

  -- each edge joins where it joined
  pub put_joins : JoinsAlike net.edges e'
  put_joins j = put.joins j ∙ ap (λ (x : Edge). x.joins) (begun_edge net.edges net.last r j)

  put_number : (j : ℕ) (n : Node) → slice_get nodes j ≡ Some n → is_atom n ≡ true → number_at e' j ≡ s'.fronts j
  put_number j n at a = ap (λ (x : Edge). x.number) (atom_put j n at a).is ∙ sym (atom_front j n at a)

  by_kind : {P : Type 0} (n : Node) → (is_atom n ≡ true → P) → (is_atom n ≡ false → P) → P
  by_kind {P} n f g = by_test (is_atom n) refl
    where
      by_test : (t : Bool) → is_atom n ≡ t → P
      by_test true x = f x
      by_test false x = g x

  -- the row came, and each atom moved to it
  pub fed_stands : Stands nodes header (record net { edges = e'; last = Some r }) (events ++ row r ∷ [])
  fed_stands = stand nodes header events net st (row r) may (record net { edges = e'; last = Some r }) numbers edges root
      (keep nodes header events net st (row r) may (record net { edges = e'; last = Some r }) refl (put.count ∙ begun_count net.edges net.last r) refl put_joins
      (put.start ∙ start net.last is_last) (sym (last_pushed s.rows r)) st.holds.closed st.holds.running st.holds.at_atom
      (λ i n at a. operator_stays nodes header events net st (row r) may e' i n at a (other_front i n at a)
      (λ left j reads. input (slice_index_or nodes j (Const false)) i n left j at reads)))
    where
      node_at : ℕ → Node
      node_at j = slice_index_or nodes j (Const false)

      at_place : (j : ℕ) → j < length nodes → slice_get nodes j ≡ Some (node_at j)
      at_place j l = slice_get_at nodes j (Const false) l

      start : (before : Option Row) → before ≡ last_row_of s.rows
          → (begun net.edges before r).start ≡ option_map (λ (r : Row). r.time) (first_row s'.rows)
      start None e = ap (λ l. option_map (λ (r : Row). r.time) (first_row (l ++ r ∷ []))) (sym (no_last s.rows (sym e)))
      start (Some q) e = st.holds.start ∙ by_rows s.rows (sym e)
        where
          by_rows : (rows : List Row) → last_row_of rows ≡ Some q
              → option_map (λ (r : Row). r.time) (first_row rows) ≡ option_map (λ (r : Row). r.time) (first_row (rows ++ r ∷ []))
          by_rows [] x = absurd (let y : None ≡ Some q = x in cc)
          by_rows (p ∷ rows) x = refl

      numbers : (i : ℕ) → i < length nodes → number_at e' i ≡ s'.fronts i
      numbers i l = by_kind (node_at i) (λ a. put_number i (node_at i) (at_place i l) a)
          (λ a. ap (λ (x : Edge). x.number) (other_edge i (node_at i) (at_place i l) a) ∙ st.shows.fronts i l
          ∙ sym (other_front i (node_at i) (at_place i l) a))

      -- a reader is no atom, and stays
      reader_same : (j : ℕ) (l : suc j < length nodes) → s'.fronts (st.shows.edges j l).reader ≡ s.fronts (st.shows.edges j l).reader
      reader_same j l =
          let edge = st.shows.edges j l in
          row_leaves nodes header formed s r edge.reader (reader_is_none nodes header formed edge.reader edge.reading edge.left j
          (slice_get_within nodes edge.reader edge.reading edge.at_reader) edge.at_reader edge.reads)

      edges : (j : ℕ) → suc j < length nodes → IsJoinedEdge nodes header (events ++ row r ∷ []) (edge_at e' j).joins j (held_at e' j)
      edges j l = by_kind (node_at j)
          (λ a. subst (λ b. IsJoinedEdge nodes header (events ++ row r ∷ []) b j (held_at e' j)) (sym (put_joins j))
          (subst (λ q. IsJoinedEdge nodes header (events ++ row r ∷ []) (edge_at net.edges j).joins j (q ++ fresh_at e' j))
          (sym (put_seen j (node_at j) (at_place j jl) a))
          (joined_grows nodes header formed events (row r) st.run may j jl (edge_at net.edges j).seen (fresh_at net.edges j) (fresh_at e' j)
          (atom_put j (node_at j) (at_place j jl) a).more (st.shows.edges j l) rl (reader_same j l) (given j (node_at j) (at_place j jl) a)
          (put_fresh j (node_at j) (at_place j jl) a))))
          (λ a. subst (λ (x : Edge). IsJoinedEdge nodes header (events ++ row r ∷ []) x.joins j (held_of x))
          (sym (other_edge j (node_at j) (at_place j jl) a))
          (joined_stays nodes header formed events (row r) st.run may j jl (held_at net.edges j) (st.shows.edges j l) rl (reader_same j l)
          (other_front j (node_at j) (at_place j jl) a)))
        where
          jl : j < length nodes
          jl = omega (arith, l)

          rl : (st.shows.edges j l).reader < length nodes
          rl = slice_get_within nodes (st.shows.edges j l).reader (st.shows.edges j l).reading (st.shows.edges j l).at_reader

      root : IsRootEdge nodes header (events ++ row r ∷ []) (held_at e' (length nodes - 1))
      root = by_kind (node_at k)
          (λ a. subst (λ h. IsRootEdge nodes header (events ++ row r ∷ []) h) (sym (put_held k (node_at k) (at_place k kl) a st.holds.plain))
          (root_grows nodes header formed events (row r) no_take (held_at net.edges k) (atom_put k (node_at k) (at_place k kl) a).more st.shows.root
          (given k (node_at k) (at_place k kl) a)))
          (λ a. subst (λ h. IsRootEdge nodes header (events ++ row r ∷ []) h) (ap held_of (sym (other_edge k (node_at k) (at_place k kl) a)))
          (root_stays nodes header formed events (row r) no_take st.run kl (held_at net.edges k) st.shows.root (other_front k (node_at k) (at_place k kl) a)))
        where
          k : ℕ
          k = length nodes - 1

          kl : length nodes - 1 < length nodes
          kl = root_here nodes header events net st

          no_take : row r ≢ take
          no_take e = let z : row r ≡ take = e in cc

      input : (m : Node) (i : ℕ) (n : Node) (left : Bool) (j : ℕ) → slice_get nodes i ≡ Some n → IsReader n left j
          → InputOn nodes header formed s s' net.edges e' j
      input m i n left j at reads = by_kind (node_at j)
          (λ a. input_got nodes header events net st (row r) may j l e' (atom_put j (node_at j) (at_place j jl) a).more
          (put_number j (node_at j) (at_place j jl) a) (stand_stretches (edge_at net.edges j).joins (put_fresh j (node_at j) (at_place j jl) a))
          (put_seen j (node_at j) (at_place j jl) a) (given j (node_at j) (at_place j jl) a))
          (λ a. input_same nodes header events net st (row r) may j l e' (other_front j (node_at j) (at_place j jl) a)
          (other_edge j (node_at j) (at_place j jl) a))
        where
          l : suc j < length nodes
          l = read_place nodes header events net st i n left j at reads

          jl : j < length nodes
          jl = omega (arith, l)
