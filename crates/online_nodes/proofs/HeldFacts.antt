-- What the inputs' edges of an operator that belongs to them tell.
use Rattle.std.proofs.Common.{◌≡◌, ◌⊎◌, inl, inr, refl, sym, ap, subst, ◌∙◌, ℕ, ◌<◌, Bool, true, false, Some, None, List, []}
use Rattle.std.proofs.Common.{◌∷◌, ◌++◌, length, ℤ, pos, ◌+ℤ◌, ◌≤ℤ◌, ◌<ℤ◌, arith}
use Rattle.std.specs.Prelude.{int_lt, cond, slice_get, IfSome}
use Rattle.std.proofs.lemmas.Int.{ints}
use Rattle.std.proofs.lemmas.List.{append-nil}
use Rattle.std.proofs.lemmas.Option.{same_Some}
use Rattle.rational.specs.Rational.{Rational, whole}
use Rattle.rational.specs.Time.{left_open, closed as closed_at}
use Rattle.stl_syntax.specs.Trace.{Header, Row, AreRows, IsTrace, Continues, first_time}
use Rattle.stl_syntax.specs.Formula.{subformula}
use Rattle.stl_syntax.specs.declared.items.Verdict.{Verdict}
use Rattle.stl_syntax.specs.declared.node.Node.{Node}
use Rattle.stl_syntax.proofs.RowsLemmas.{rows-push}
use Rattle.online_nodes.specs.Network.{Event, Front, State, row, after_event, initial, last_row, needed}
use Rattle.online_nodes.specs.Network.{reach_back, shown, state, state_from, IsRun, IsRunFrom, MayCome}
use Rattle.online_nodes.specs.Needed.{AreMeeting, AreNeeded, IsJoinedEdge, IsReader}
use Rattle.rational.specs.Places.{Place, AtMost}
use Rattle.rational.proofs.Tests.{int_order}
use Rattle.online_nodes.specs.Held.{Held, edge_at, held_at}
use Rattle.online_nodes.specs.Laws.{answered_to, beyond, AreTiles, AreTold, IsWhole}
use Rattle.online_nodes.specs.Operators.{place_of}
use Rattle.online_nodes.specs.Belonging.{trace_of, Belongs}
use Rattle.online_nodes.specs.declared.operator.Operator.{Operator}
use Rattle.online_nodes.proofs.BelongLemmas.{own_within}
use Rattle.online_nodes.proofs.EmittedLaw.{emitted_tiles}
use Rattle.online_nodes.proofs.HeldLaw.{meeting_is_suffix}
use Rattle.online_nodes.proofs.InputLemmas.{tiles_beyond, told_beyond}
use Rattle.online_nodes.proofs.MeetingLaw.{needed_first, one_meeting}
use Rattle.online_nodes.proofs.ReaderLemmas.{child_all, one_reader, one_side}
use Rattle.online_nodes.proofs.RisingLaw.{children_before}
use Rattle.online_nodes.proofs.RunLaw.{none_is_none}
use Rattle.online_nodes.proofs.StayLaw.{emitted_stays, shown_is}
use Rattle.online_nodes.proofs.Stretches.{stand_stretches, stretches_told, stretches_whole}

-- the rows of a run are those of a trace, once one came
AreRowsSoFar : ℕ → List Row → Type 0
AreRowsSoFar width [] = Unit {0}
AreRowsSoFar width (r ∷ rows) = AreRows width (r ∷ rows)

rows_after : (nodes : List Node) (header : Header) (s : State) (e : Event) → MayCome nodes header s e
    → AreRowsSoFar (length header.columns) s.rows → AreRowsSoFar (length header.columns) (after_event nodes s e).rows
unfolding AreRowsSoFar
rows_after nodes header s (row q) may h = by_rows s.rows may.1 h
  where
    by_rows : (rows : List Row) → IfSome (last_row (record { rows = rows; closed = s.closed; fronts = s.fronts })) (λ f. f <ℤ pos q.time)
        → AreRowsSoFar (length header.columns) rows → AreRowsSoFar (length header.columns) (rows ++ q ∷ [])
    by_rows [] later h = (may.2, tt)
    by_rows (r ∷ rows) later (w, rest) = (w, rows-push (length header.columns) r.time rows q rest (omega (arith, ints)) may.2)
rows_after nodes header s _ may h = h

rows_from : (nodes : List Node) (header : Header) (s : State) (events : List Event) → IsRunFrom nodes header s events
    → AreRowsSoFar (length header.columns) s.rows → AreRowsSoFar (length header.columns) (state_from nodes s events).rows
rows_from nodes header s [] r h = h
rows_from nodes header s (e ∷ events) r h = rows_from nodes header (after_event nodes s e) events r.1 (rows_after nodes header s e r.0 h)

-- the rows of a run are those of a trace
pub run_is_trace : (nodes : List Node) (header : Header) (events : List Event) (l : ℤ) → IsRun nodes header events
    → last_row (state nodes events) ≡ Some l → IsTrace (trace_of header (state nodes events))
unfolding state AreRowsSoFar
run_is_trace nodes header events l run last =
    record { rows = some ((state_from nodes initial events).rows) refl (rows_from nodes header initial events run tt) }
  where
    some : (rows : List Row) → (state_from nodes initial events).rows ≡ rows → AreRowsSoFar (length header.columns) rows
        → AreRows (length header.columns) rows
    some [] e h = absurd (none_is_none l (sym (ap (λ rows. last_row (record
        { rows = rows; closed = (state_from nodes initial events).closed; fronts = (state_from nodes initial events).fronts })) e) ∙ last))
    some (r ∷ rows) e h = h

-- the trace of the rows so far goes on from them
pub goes_on_itself : (header : Header) (s : State) → Continues (trace_of header s) header s.rows s.closed
goes_on_itself header s = record { same_header = refl; more = []; begins = sym (append-nil s.rows); whole_input = λ _. refl }

-- what meets the needed stretch of a list without gap: all of it, or what ends after the reader's number, moved
pub needed_part : (start : ℕ) (f : ℤ) (reader : Front) (k : ℤ) (em held : List Verdict)
    → AreTiles (answered_to start None) em (answered_to start (Some f)) → AreNeeded start (Some f) reader k em held
    → (held ≡ em) ⊎ ((g : ℤ) × (reader ≡ Some g) × (pos start ≤ℤ g) × (held ≡ beyond (whole (g +ℤ k)) em))
needed_part start f None k em held tiles h =
    inl (one_meeting (needed start f None k) em held em h (needed_first start f None k em (λ g e. absurd (none_is_none g e)) tiles))
needed_part start f (Some g) k em held tiles h = by_low (int_lt g (pos start)) refl
  where
    whole_list : ((pos start ≤ℤ g) → (g +ℤ k) <ℤ pos start)
        → (held ≡ em) ⊎ ((j : ℤ) × (Some g ≡ Some j) × (pos start ≤ℤ j) × (held ≡ beyond (whole (j +ℤ k)) em))
    whole_list low = inl (one_meeting (needed start f (Some g) k) em held em h
        (needed_first start f (Some g) k em
        (λ j e s. let same : g ≡ j = same_Some g j e in
        subst (λ (q : ℤ). (q +ℤ k) <ℤ pos start) same (low (subst (λ (q : ℤ). pos start ≤ℤ q) (sym same) s))) tiles))

    by_begin : (t : Bool) → int_lt (g +ℤ k) (pos start) ≡ t → int_lt g (pos start) ≡ false
        → (held ≡ em) ⊎ ((j : ℤ) × (Some g ≡ Some j) × (pos start ≤ℤ j) × (held ≡ beyond (whole (j +ℤ k)) em))
    by_begin true x y = whole_list (λ _. int_order (g +ℤ k) (pos start) true x)
    by_begin false x y =
        let met : AreMeeting (left_open (whole (g +ℤ k)) (whole f)) em held =
        subst (λ t. AreMeeting (cond t (closed_at (whole (pos start)) (whole f)) (left_open (whole (g +ℤ k)) (whole f))) em held) x
        (subst (λ t. AreMeeting (cond t (closed_at (whole (pos start)) (whole f))
        (cond (int_lt (g +ℤ k) (pos start)) (closed_at (whole (pos start)) (whole f)) (left_open (whole (g +ℤ k)) (whole f)))) em held) y h) in
        inr (
          g,
          refl,
          int_order g (pos start) false y,
          one_meeting (left_open (whole (g +ℤ k)) (whole f)) em held (beyond (whole (g +ℤ k)) em) met
              (meeting_is_suffix (whole (g +ℤ k)) (whole f) (answered_to start None) em (answered_to start (Some f)) tiles (λ t u. u)),
        )

    by_low : (t : Bool) → int_lt g (pos start) ≡ t
        → (held ≡ em) ⊎ ((j : ℤ) × (Some g ≡ Some j) × (pos start ≤ℤ j) × (held ≡ beyond (whole (j +ℤ k)) em))
    by_low true x = whole_list (λ s. absurd (let l = int_order g (pos start) true x in omega (arith, ints)))
    by_low false x = by_begin (int_lt (g +ℤ k) (pos start)) refl x

-- just before the start
abbrev pub place_at_start : ℕ → Place
place_at_start start = record { at = whole (pos start); after = false }

module _ {nodes : List Node} {header : Header} {events : List Event} {op : Operator} {e : Held} {now : ℕ} {ended : Bool}
    (b : Belongs nodes header events op e now ended) (j : ℕ) (left : Bool) (reads : IsReader b.stands.node left j) where
  abbrev pub edge : IsJoinedEdge nodes header events (edge_at e j).joins j (held_at e j)
  edge = (b.inputs j b.stands.node left b.stands.at reads).1

  -- the edge's reader is the operator's node
  pub reader_is : edge.reader ≡ op.node
  reader_is = one_reader nodes b.formed.post_order edge.reader op.node edge.reading b.stands.node edge.left left j edge.at_reader b.stands.at
      edge.reads reads

  same_node : edge.reading ≡ b.stands.node
  same_node =
      let there : slice_get nodes op.node ≡ Some edge.reading = subst (λ (i : ℕ). slice_get nodes i ≡ Some edge.reading) reader_is edge.at_reader in
      let both : Some edge.reading ≡ Some b.stands.node = sym there ∙ b.stands.at in
      cc

  -- and it reads from this side
  pub left_is : edge.left ≡ left
  left_is = one_side nodes b.formed.post_order op.node b.stands.node edge.left left j b.stands.at
      (subst (λ (n : Node). IsReader n edge.left j) same_node edge.reads) reads

  -- the edge of an input holds what its reader may need
  pub needs : AreNeeded (first_time (state nodes events).rows) (shown (state nodes events) j) ((state nodes events).fronts op.node)
      (reach_back b.stands.node left) edge.stretches (held_at e j)
  needs =
      subst (λ (i : ℕ). AreNeeded (first_time (state nodes events).rows) (shown (state nodes events) j) ((state nodes events).fronts i)
      (reach_back b.stands.node left) edge.stretches (held_at e j)) reader_is
      (subst (λ (n : Node). AreNeeded (first_time (state nodes events).rows) (shown (state nodes events) j) ((state nodes events).fronts edge.reader)
      (reach_back n left) edge.stretches (held_at e j)) same_node
      (subst (λ (t : Bool). AreNeeded (first_time (state nodes events).rows) (shown (state nodes events) j) ((state nodes events).fronts edge.reader)
      (reach_back edge.reading t) edge.stretches (held_at e j)) left_is edge.is_needed))

  -- the input of such a reader is one of the nodes
  pub input_within : j < length nodes
  input_within =
      let low = child_all (λ p. p < op.node) b.stands.node left j reads
      (children_before nodes header b.formed.post_order op.node b.stands.node (own_within b) b.stands.at) in
      let l = own_within b in omega (arith, low, l)

  -- its stretches lead without gap from the start to where the input is answered
  pub stretches_lead : IsWhole (first_time (state nodes events).rows) (shown (state nodes events) j) edge.stretches
  stretches_lead = stretches_whole (stand_stretches (edge_at e j).joins edge.stand) (first_time (state nodes events).rows)
      (shown (state nodes events) j)
      (emitted_tiles nodes header b.formed.post_order events b.run j input_within edge.emitted edge.is_emitted)

  -- what the edge holds leads without gap to the input's front, and each verdict is its truth; before the front is at the start it holds nothing
  pub record IsHeldTo (held : List Verdict) (f : ℤ) : Type 0 where
    -- it has a number
    pub front : (state nodes events).fronts j ≡ Some f
    -- which is shown
    pub shown : shown (state nodes events) j ≡ Some f
    -- and does not lie before the start
    pub low : pos (first_time (state nodes events).rows) ≤ℤ f
    -- from where its edge holds
    pub begin : Place
    -- without gap, up to its number
    pub tiles : AreTiles begin held (place_of (Some f))
    -- not from before the start
    pub from : AtMost (place_at_start (first_time (state nodes events).rows)) begin
    -- and tells the truth
    pub told : AreTold (subformula nodes j) (trace_of header (state nodes events)) held

  -- an edge holds nothing that is shown, or all up to a number
  pub held_is : ((held_at e j ≡ []) × (shown (state nodes events) j ≡ None)) ⊎ ((f : ℤ) × IsHeldTo (held_at e j) f)
  held_is = by_shown (shown (state nodes events) j) refl needs
    where
      told : AreTold (subformula nodes j) (trace_of header (state nodes events)) edge.stretches
      told = stretches_told (subformula nodes j) (trace_of header (state nodes events)) (stand_stretches (edge_at e j).joins edge.stand)
          (emitted_stays nodes header b.formed.post_order events b.run j input_within edge.emitted edge.is_emitted
          (trace_of header (state nodes events)) (run_is_trace nodes header events (pos now) b.run b.last)
          (goes_on_itself header (state nodes events)))

      by_shown : (o : Front) → shown (state nodes events) j ≡ o
          → AreNeeded (first_time (state nodes events).rows) o ((state nodes events).fronts op.node) (reach_back b.stands.node left) edge.stretches
          (held_at e j)
          → ((held_at e j ≡ []) × (shown (state nodes events) j ≡ None)) ⊎ ((f : ℤ) × IsHeldTo (held_at e j) f)
      by_shown None x h = inl (h, x)
      by_shown (Some f) x h = inr (
        f,
        by_part (needed_part (first_time (state nodes events).rows) f ((state nodes events).fronts op.node) (reach_back b.stands.node left) edge.stretches
            (held_at e j) whole_list h),
      )
        where
          whole_list : AreTiles (answered_to (first_time (state nodes events).rows) None) edge.stretches
              (answered_to (first_time (state nodes events).rows) (Some f))
          whole_list = subst (λ (o : Front). IsWhole (first_time (state nodes events).rows) o edge.stretches) x stretches_lead

          by_part : (held_at e j ≡ edge.stretches) ⊎ ((g : ℤ) × ((state nodes events).fronts op.node ≡ Some g)
              × (pos (first_time (state nodes events).rows) ≤ℤ g) × (held_at e j ≡ beyond (whole (g +ℤ reach_back b.stands.node left)) edge.stretches))
              → IsHeldTo (held_at e j) f
          by_part (inl same) = record {
            front = (shown_is nodes header b.formed.post_order (state nodes events) j f x).0;
            shown = x;
            low = (shown_is nodes header b.formed.post_order (state nodes events) j f x).1;
            begin = place_at_start (first_time (state nodes events).rows);
            tiles = subst (λ l. AreTiles (place_at_start (first_time (state nodes events).rows)) l (place_of (Some f))) (sym same) whole_list;
            from = λ t h. h;
            told = subst (λ l. AreTold (subformula nodes j) (trace_of header (state nodes events)) l) (sym same) told;
          }
          by_part (inr (g, at, from, same)) =
              let lo : Rational = whole (g +ℤ reach_back b.stands.node left) in
              let left_part = tiles_beyond lo (place_at_start (first_time (state nodes events).rows)) edge.stretches (place_of (Some f)) whole_list in
              record {
                front = (shown_is nodes header b.formed.post_order (state nodes events) j f x).0;
                shown = x;
                low = (shown_is nodes header b.formed.post_order (state nodes events) j f x).1;
                begin = left_part.0;
                tiles = subst (λ l. AreTiles left_part.0 l (place_of (Some f))) (sym same) left_part.1;
                from = left_part.2;
                told = subst (λ l. AreTold (subformula nodes j) (trace_of header (state nodes events)) l) (sym same)
                    (told_beyond (subformula nodes j) (trace_of header (state nodes events)) lo edge.stretches told);
              }
