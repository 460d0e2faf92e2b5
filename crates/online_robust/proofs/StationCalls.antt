-- What the calls of a node leave, as the code makes them.
use Rattle.std.proofs.Common.{◌≡◌, ℕ, ◌<◌, ◌≤◌, Bool, true, false, List, [], ◌∷◌, ◌++◌, length, refl}
use Rattle.std.proofs.Common.{sym, ap, subst, ◌∙◌, arith, Option, Some, None, ℤ, pos, ◌-ℤ◌, ◌<ℤ◌, ◌≤ℤ◌}
use Rattle.std.specs.Prelude.{IfSome, MatchBool, MatchOption, not, slice_get}
use Rattle.std.proofs.lemmas.Int.{ints}
use Rattle.std.proofs.lemmas.Bool.{false≢true}
use Rattle.pl_signal.specs.declared.faults.OpFault.{OpFault}
use Rattle.value_laws.specs.declared.margin.Margin.{Margin}
use Rattle.stl_syntax.specs.Trace.{AreRows, AreRowsAfter, Row, IsTrace, first_time}
use Rattle.stl_syntax.specs.Formula.{Subformula, constant, atom, subformula, horizon}
use Rattle.stl_syntax.specs.declared.node.Node.TheVariants.{Const, Atom as Leaf}
use Rattle.stl_syntax.proofs.RowsLemmas.{last_time-push}
use Rattle.atom_lines.specs.Binding.{Binding, IsAtomNode}
use Rattle.online_nodes.specs.Needed.{IsReader}
use Rattle.online_robust.specs.Held.{Held, edge_at, number_at, with_edge, with_number}
use Rattle.online_robust.specs.Steps.{Step, Belongs, BelongsAt, GivesOut, IsStreamedFault}
use Rattle.online_robust.specs.Putting.{constant_margin, lines_of, HasPut, HasPutAtom, HasPutRow, IsAtomPiece, IsAtomValue}
use Rattle.online_robust.specs.Pasts.{Past, trace_of, number_by, shown_by, number_of, shown_of}
use Rattle.online_robust.specs.Moving.{Move, CanMove, CanGiveOut, CanGoTo, CanMoveByRow, CanMoveByEnd}
use Rattle.online_robust.specs.Moving.{HasMoved, IsFaultOf, last_row_after, last_row_of, turn_of}
use Rattle.online_robust.specs.declared.operator.Operator.{Operator}
use Rattle.online_robust.specs.declared.station.Station.{Station}
use Rattle.online_robust.specs.declared.station.Work.{Work}
use Rattle.online_robust.specs.declared.station.Work.TheVariants as W
use Rattle.online_robust.proofs.OperatorGoesOn.{belongs, belongs_now, has_moved}
use Rattle.online_robust.proofs.NothingNew.{both_hidden, idle_moved, idle_noted, idle_there, same_number}
use Rattle.online_robust.proofs.Leaves.{IsLeafAt}
use Rattle.online_robust.proofs.LinesPut.{put_within}
use Rattle.online_robust.proofs.LeafMoved.{atom_leaf, constant_leaf, leaf_moved}
use Rattle.online_robust.proofs.Readers.{tree_at_node}
use Rattle.online_robust.proofs.RowFacts.{number_here, number_hidden, number_rises, number_shown}
use Rattle.std.proofs.lemmas.Option.{slice_get_within, same_Some}

-- ---- an operator gives out

module _ (m : Move) (node : ℕ) (op : Operator) (e : Held) (to : ℕ) (with_first : Bool) (g : CanGiveOut m node op e to with_first) where
  abbrev pub swept_turn : BelongsAt node op e to
  swept_turn = (turn_of m (trace_of m.header m.new), g.place, belongs_now m node op e to with_first g)

  -- a refusal of an operator is one of its node
  pub swept_fault : (f : OpFault Margin) → ((t : Step) → Belongs t op e to → IsStreamedFault t f) → IsFaultOf m f
  swept_fault f h = h (turn_of m (trace_of m.header m.new)) (belongs_now m node op e to with_first g)

  -- the node has an edge
  pub turn_edge : node < length e.edges
  turn_edge =
      let all = g.can.edges in
      let within = slice_get_within m.nodes m.place g.can.node g.can.at in
      let place = g.place in
      omega (arith, all, within, place)

  module _ (op' : Operator) (new : Held) (out : GivesOut node with_first op to e op' new) where
    -- also after its operator gave out what it told
    pub given_within : node < length new.edges
    given_within =
        let count = (out.edges swept_turn.0 swept_turn.2).edges in
        let within = turn_edge in
        put_within node (lines_of with_first out.swept) out.between new out.put (omega (arith, count, within))

    -- and once its number was noted the node has moved
    pub given_out : (noted : Held) → noted ≡ record new { edges = with_edge new node (with_number (edge_at new node) (pos to)) }
        → HasMoved m (W.Operator op') e noted
    given_out noted is =
        subst (HasMoved m (W.Operator op') e) (sym (is ∙ ap (λ k. record new { edges = with_edge new k (with_number (edge_at new k) (pos to)) }) (sym g.place)))
        (has_moved m node op e to with_first g out.swept op' out.between new
        (λ tr trace c. out.told (turn_of m tr) (belongs m node op e to with_first g tr trace c))
        (out.edges (turn_of m (trace_of m.header m.new)) (belongs_now m node op e to with_first g))
        (λ tr trace c. out.stands (turn_of m tr) (belongs m node op e to with_first g tr trace c))
        (subst (λ k. HasPut k (lines_of with_first out.swept) out.between new) (sym g.place) out.put))

-- ---- an operator goes on

-- without rows nothing is shown
number_none : (p : Subformula) (ended : Bool) (rows : List Row) → number_by ended p rows ≡ None → shown_by ended p rows ≡ None
number_none p ended [] e = refl
number_none p ended (r ∷ rows) e = absurd (let f = e in cc)

module _ (m : Move) (node : ℕ) (op : Operator) (e : Held) (number : ℤ) (g : CanGoTo m node op e number) where
  abbrev p : Subformula
  p = subformula m.nodes m.place

  abbrev can : CanMove m (W.Operator op) e
  can = g.1

  start_is : (start : ℕ) → e.start ≡ Some start → start ≡ first_time m.new.rows
  start_is start is = same_Some _ _ (sym is ∙ can.start)

  was_number : number_at e node ≡ number_of m.nodes m.old m.place
  was_number = ap (number_at e) (sym g.0) ∙ can.number

  -- the number is below the start
  pub go_below : (start : ℕ) (e' : Held) → e.start ≡ Some start → number <ℤ pos start
      → e' ≡ record e { edges = with_edge e node (with_number (edge_at e node) number) } → HasMoved m (W.Operator op) e e'
  go_below start e' is lt same =
      subst (HasMoved m (W.Operator op) e) (sym (same ∙ ap (λ k. record e { edges = with_edge e k (with_number (edge_at e k) number) }) (sym g.0)))
      (idle_moved m (W.Operator op) e (record e { edges = with_edge e m.place (with_number (edge_at e m.place) number) }) can number g.2
      (both_hidden m (W.Operator op) e can number g.2 (subst (λ s. number <ℤ pos s) (start_is start is) lt))
      (idle_noted e m.place number (let all = can.edges in let within = slice_get_within m.nodes m.place can.node can.at in omega (arith, all, within))))

  -- the number is the one before
  pub go_same : number_at e node ≡ Some number → HasMoved m (W.Operator op) e e
  go_same is =
      idle_moved m (W.Operator op) e e can number g.2 (same_number m (W.Operator op) e can number g.2 (sym was_number ∙ is))
      (idle_there e m.place number (ap (number_at e) g.0 ∙ is))

  -- it is a later one
  pub go_give : (start to : ℕ) (flag : Bool) → e.start ≡ Some start → number ≡ pos to → start ≤ to → (number_at e node ≡ Some number → ⊥)
      → MatchOption (number_at e node) (flag ≡ false) (λ h. (flag ≡ false → h <ℤ pos start) × (flag ≡ true → pos start ≤ℤ h))
      → CanGiveOut m node op e to (not flag)
  go_give start to flag is same from apart shown = record {
    place = g.0;
    can = can;
    number = g.2 ∙ ap Some same;
    from_start = subst (λ s. s ≤ to) (start_is start is) from;
    moved = λ h. apart (was_number ∙ h ∙ ap Some (sym same));
    first = by_number (number_at e node) refl shown flag refl;
  }
    where
      begins : (k : ℤ) → number_at e node ≡ Some k → start ≡ first_time m.old.rows
      begins k h = start_is start is ∙ sym (number_rises m.header p m.old m.new can.next can.trace k (sym was_number ∙ h)).1

      by_number : (o : Option ℤ) → number_at e node ≡ o → MatchOption o (flag ≡ false) (λ h. (flag ≡ false → h <ℤ pos start) × (flag ≡ true → pos start ≤ℤ h))
          → (b : Bool) → flag ≡ b → MatchBool (not b) (shown_of m.nodes m.old m.place ≡ None) ((k : ℤ) × (shown_of m.nodes m.old m.place ≡ Some k))
      by_number None h f true k = absurd (false≢true (sym f ∙ k))
      by_number None h f false k = number_none p m.old.ended m.old.rows (sym was_number ∙ h)
      by_number (Some o) h f true k =
          (o, number_shown p m.old.ended m.old.rows o (sym was_number ∙ h) (subst (λ s. pos s ≤ℤ o) (begins o h) (f.1 k)))
      by_number (Some o) h f false k =
          number_hidden p m.old.ended m.old.rows o (sym was_number ∙ h) (subst (λ s. o <ℤ pos s) (begins o h) (f.0 k))

-- ---- a node goes on by a row

-- the last row and the one before it have a value for each column, and the last is later
pub record AreLast (n : ℕ) (before : Option Row) (r : Row) : Type 0 where
  -- the row has a value for each column
  pub second : length r.values ≡ n
  -- so has the row before
  pub first : IfSome before (λ q. length q.values ≡ n)
  -- which is earlier
  pub later : IfSome before (λ q. q.time < r.time)

last_after : (n : ℕ) (q : Row) (rows : List Row) (r : Row) → length q.values ≡ n → AreRowsAfter n q.time (rows ++ r ∷ [])
    → AreLast n (Some (last_row_after q rows)) r
last_after n q [] r own after = record { second = after.1; first = own; later = after.0 }
last_after n q (s ∷ rows) r own after = last_after n s rows r after.1 after.2

last_of_rows : (n : ℕ) (rows : List Row) (r : Row) → AreRows n (rows ++ r ∷ []) → AreLast n (last_row_of rows) r
last_of_rows n [] r are = record { second = are.0; first = tt; later = tt }
last_of_rows n (q ∷ rows) r are = last_after n q rows r are.0 are.1

module _ (m : Move) (node : ℕ) (st : Station) (e : Held) (b : Binding) (before : Option Row) (r : Row) (g : CanMoveByRow m node st e b before r) where
  abbrev can_row : CanMove m st.work e
  can_row = g.1

  -- the node has an edge
  pub row_edge : node < length e.edges
  row_edge =
      let all = can_row.edges in
      let within = slice_get_within m.nodes m.place can_row.node can_row.at in
      let place = g.0 in
      omega (arith, all, within, place)

  -- what the row and the one before have
  pub row_last : AreLast b.width before r
  row_last =
      let trace : IsTrace (record { header = m.header; rows = m.old.rows ++ r ∷ [] }) =
      subst (λ (q : Past). IsTrace (trace_of m.header q)) g.3.new can_row.trace in
      subst (λ o. AreLast b.width o r) (sym g.3.last)
      (subst (λ n. AreLast n (last_row_of m.old.rows) r) (sym g.3.bound.width) (last_of_rows (length m.header.columns) m.old.rows r trace.rows))

  -- the number by the horizon
  pub row_number : number_of m.nodes m.new m.place ≡ Some (pos r.time -ℤ pos st.ahead)
  row_number =
      let ahead = g.2 in
      ap (λ (q : Past). number_by q.ended (subformula m.nodes m.place) q.rows) g.3.new
      ∙ number_here m.header (subformula m.nodes m.place) false (m.old.rows ++ r ∷ [])
      (subst (λ (q : Past). IsTrace (trace_of m.header q)) g.3.new can_row.trace)
      ∙ ap (λ n. Some (pos n -ℤ pos (horizon (subformula m.nodes m.place)))) (last_time-push 0 m.old.rows r)
      ∙ ap (λ h. Some (pos r.time -ℤ pos h)) (sym g.2)

  -- an operator
  pub row_go : (op : Operator) → st.work ≡ W.Operator op → CanGoTo m node op e (pos r.time -ℤ pos st.ahead)
  row_go op is = (g.0, subst (λ w. CanMove m w e) is can_row, row_number)

  -- a constant
  pub row_const : (c : Bool) (e' e3 : Held) → st.work ≡ W.Const c → HasPutRow node before r (constant_margin c) (constant_margin c) e e'
      → e3 ≡ record e' { edges = with_edge e' node (with_number (edge_at e' node) (pos r.time)) } → HasMoved m (W.Const c) e e3
  row_const c e' e3 is put same =
      let can : CanMove m (W.Const c) e = subst (λ w. CanMove m w e) is can_row in
      let found : slice_get m.nodes m.place ≡ Some (Const c) = can.at ∙ ap Some can.work in
      let tree : subformula m.nodes m.place ≡ constant c = tree_at_node m.nodes can.nodes.formed m.place (Const c) found in
      subst (HasMoved m (W.Const c) e) (sym (same ∙ ap (λ k. record e' { edges = with_edge e' k (with_number (edge_at e' k) (pos r.time)) }) (sym g.0)))
      (leaf_moved m (W.Const c) e can b before r g.3 (constant_margin c) (constant_margin c)
      (subst (λ p. IsLeafAt p m.header m.old.rows before r (constant_margin c) (constant_margin c)) (sym tree) (constant_leaf c m.header m.old.rows before r))
      (λ n at side j reads. subst (λ k. IsReader k side j) (same_Some _ _ (sym at ∙ found)) reads) (λ n old new seen seen' h. h) e'
      (subst (λ k. HasPutRow k before r (constant_margin c) (constant_margin c) e e') (sym g.0) put))

  -- an atom
  pub row_bound : st.work ≡ W.Atom → IsAtomNode b node
  row_bound is =
      let can : CanMove m W.Atom e = subst (λ w. CanMove m w e) is can_row in
      let (a, e') = can.work in
      let (k, at, binding) = g.3.bound.atoms m.place a (can.at ∙ ap Some e') in
      subst (IsAtomNode b) g.0 (k, at)

  -- an atom puts its lines of the row
  pub row_atom : (e' e3 : Held) → st.work ≡ W.Atom → HasPutAtom b node before r e e'
      → e3 ≡ record e' { edges = with_edge e' node (with_number (edge_at e' node) (pos r.time)) } → HasMoved m W.Atom e e3
  row_atom e' e3 is (piece, v, is_piece, is_value, put) same =
      let can : CanMove m W.Atom e = subst (λ w. CanMove m w e) is can_row in
      let a = can.work.0 in
      let found : slice_get m.nodes m.place ≡ Some (Leaf a) = can.at ∙ ap Some can.work.1 in
      let tree : subformula m.nodes m.place ≡ atom m.place a = tree_at_node m.nodes can.nodes.formed m.place (Leaf a) found in
      let at_place : IsAtomPiece b m.place (last_row_of m.old.rows) r piece =
      subst (λ o. IsAtomPiece b m.place o r piece) g.3.last (subst (λ k. IsAtomPiece b k before r piece) (sym g.0) is_piece) in
      let leaf : IsLeafAt (atom m.place a) m.header m.old.rows before r piece v =
      subst (λ o. IsLeafAt (atom m.place a) m.header m.old.rows o r piece v) (sym g.3.last)
      (atom_leaf m.nodes m.header b g.3.scale g.3.bound m.place a found m.old.rows r piece v at_place (subst (λ k. IsAtomValue b k r v) (sym g.0) is_value)) in
      subst (HasMoved m W.Atom e) (sym (same ∙ ap (λ k. record e' { edges = with_edge e' k (with_number (edge_at e' k) (pos r.time)) }) (sym g.0)))
      (leaf_moved m W.Atom e can b before r g.3 piece v
      (subst (λ p. IsLeafAt p m.header m.old.rows before r piece v) (sym tree) leaf)
      (λ n at side j reads. subst (λ k. IsReader k side j) (same_Some _ _ (sym at ∙ found)) reads) (λ n old new seen seen' h. h) e'
      (subst (λ k. HasPutRow k before r piece v e e') (sym g.0) put))

-- ---- a node goes on by the end

module _ (m : Move) (node : ℕ) (st : Station) (e : Held) (now : ℕ) (g : CanMoveByEnd m node st e now) where
  abbrev can_end : CanMove m st.work e
  can_end = g.1

  end_number : number_of m.nodes m.new m.place ≡ Some (pos now)
  end_number =
      ap (λ (q : Past). number_by q.ended (subformula m.nodes m.place) q.rows) g.2.new
      ∙ number_here m.header (subformula m.nodes m.place) true m.old.rows (subst (λ (q : Past). IsTrace (trace_of m.header q)) g.2.new can_end.trace)
      ∙ ap (λ n. Some (pos n)) (sym g.2.last)

  -- a constant or an atom stands there already
  pub end_leaf : horizon (subformula m.nodes m.place) ≡ 0 → (w : Work) → st.work ≡ w → HasMoved m w e e
  end_leaf flat w is =
      let can : CanMove m w e = subst (λ x. CanMove m x e) is can_end in
      let was : number_of m.nodes m.old m.place ≡ Some (pos now) =
      ap (λ c. number_by c (subformula m.nodes m.place) m.old.rows) can.next.0
      ∙ number_here m.header (subformula m.nodes m.place) false m.old.rows (subst (λ (q : Past). IsTrace (trace_of m.header q)) g.2.new can.trace)
      ∙ ap (λ n. Some (pos n -ℤ pos (horizon (subformula m.nodes m.place)))) (sym g.2.last)
      ∙ ap (λ h. Some (pos now -ℤ pos h)) flat ∙ ap Some (omega (arith, ints)) in
      idle_moved m w e e can (pos now) end_number (same_number m w e can (pos now) end_number was) (idle_there e m.place (pos now) (can.number ∙ was))

  -- a constant has nothing more to give out
  pub end_const : (c : Bool) → st.work ≡ W.Const c → HasMoved m (W.Const c) e e
  end_const c is =
      let can : CanMove m (W.Const c) e = subst (λ w. CanMove m w e) is can_end in
      end_leaf (ap horizon (tree_at_node m.nodes can.nodes.formed m.place (Const c) (can.at ∙ ap Some can.work))) (W.Const c) is

  -- an atom has nothing more to give out at the end
  pub end_atom : st.work ≡ W.Atom → HasMoved m W.Atom e e
  end_atom is =
      let can : CanMove m W.Atom e = subst (λ w. CanMove m w e) is can_end in
      end_leaf (ap horizon (tree_at_node m.nodes can.nodes.formed m.place (Leaf can.work.0) (can.at ∙ ap Some can.work.1))) W.Atom is
