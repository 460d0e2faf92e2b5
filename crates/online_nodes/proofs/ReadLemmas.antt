-- What an operator that belongs to its edges may rely on: each input's edge tells the input, and holds what is needed.
use Rattle.std.proofs.Common.{◌≡◌, ◌≢◌, inl, inr, refl, sym, ap, subst, ◌∙◌, ℕ, ◌<◌, Bool, true, false}
use Rattle.std.proofs.Common.{Some, None, List, [], ◌∷◌, ◌++◌, length, ℤ, pos, ◌+ℤ◌, ◌≤ℤ◌, ◌<ℤ◌, arith}
use Rattle.std.specs.Prelude.{cond, option_map}
use Rattle.std.proofs.lemmas.Bool.{eq-eqb}
use Rattle.std.proofs.lemmas.Int.{ints}
use Rattle.std.proofs.lemmas.Option.{same_Some}
use Rattle.rational.specs.Rational.{whole}
use Rattle.rational.proofs.Order.{lt_of_lt_of_le, lt_of_le_of_lt}
use Rattle.rational.proofs.Shift.{le_whole, lt_whole}
use Rattle.frac128.specs.Spans.{interval}
use Rattle.stl_syntax.specs.Trace.{Header, Row, first_time, last_time, stop}
use Rattle.stl_syntax.specs.Formula.{subformula}
use Rattle.stl_syntax.specs.Truth.{Truth}
use Rattle.stl_syntax.specs.declared.items.Verdict.{Verdict}
use Rattle.stl_syntax.specs.declared.node.Node.{Node}
use Rattle.online_nodes.specs.Network.{Event, step, Front, State, shown, last_row, allowed_at, after_event, state, reach_back}
use Rattle.online_nodes.specs.Network.{IsRun}
use Rattle.online_nodes.specs.Needed.{IsReader, IsJoinedEdge, AreNeeded}
use Rattle.online_nodes.specs.Laws.{AreTiles, IsWhole, NeverLess, answered_to, beyond}
use Rattle.rational.specs.Places.{AtMost, Place, begins}
use Rattle.online_nodes.specs.Held.{Held, edge_at, fresh_at, held_at, number_at}
use Rattle.online_nodes.specs.Operators.{first_place, place_of, front_place, read_upto}
use Rattle.online_nodes.specs.Truths.{Tells}
use Rattle.online_nodes.specs.Belonging.{Belongs, trace_of}
use Rattle.online_nodes.specs.declared.operator.Operator.{Operator}
use Rattle.online_nodes.proofs.BelongLemmas.{no_atom_here, own_within}
use Rattle.online_nodes.proofs.EdgeLaw.{after_one, run_more, step_leaves, not_shown}
use Rattle.online_nodes.proofs.EmittedLaw.{front_shown}
use Rattle.online_nodes.proofs.FrameLaw.{other_step}
use Rattle.online_nodes.proofs.HeldFacts.{edge, held_is, input_within, needed_part, needs, stretches_lead}
use Rattle.online_nodes.proofs.InputLemmas.{tells_of}
use Rattle.rational.proofs.PlaceLemmas.{same_places, upto_same}
use Rattle.online_nodes.proofs.ReaderLemmas.{child_all}
use Rattle.online_nodes.proofs.RisingLaw.{IsSound, children_before, sound_of}
use Rattle.online_nodes.proofs.RunLaw.{none_is_none}
use Rattle.online_nodes.proofs.StepFacts.{needs_later, needs_same}
use Rattle.online_nodes.proofs.TellingLemmas.{IsTelling}
use Rattle.online_nodes.proofs.ToldSoFar.{same_itself}

-- the last row's time, by the rows
pub last_is : (s : State) (l : ℕ) → last_row s ≡ Some (pos l) → last_time 0 s.rows ≡ l
last_is s l e = by_rows s.rows e
  where
    by_rows : (rows : List Row) → last_row (record { rows = rows; closed = s.closed; fronts = s.fronts }) ≡ Some (pos l) → last_time 0 rows ≡ l
    by_rows [] e = absurd (none_is_none (pos l) e)
    by_rows (r ∷ rows) e = let x : pos (last_time r.time rows) ≡ pos l = same_Some (pos (last_time r.time rows)) (pos l) e in omega (arith, ints)

-- a front that is not shown, and one that is, by the place up to which the node is answered
below_start : (first : ℕ) (o : Front) → ((f : ℤ) → o ≡ Some f → f <ℤ pos first)
    → AtMost (place_of o) (record { at = whole (pos first); after = false })
below_start first None low t u = let h : pos 0 ≤ℤ pos first = omega (arith, ints) in lt_of_lt_of_le u (le_whole h)
below_start first (Some f) low t u = lt_of_le_of_lt u (lt_whole (low f refl))

module _ {nodes : List Node} {header : Header} {events : List Event} {op : Operator} {e : Held} {now : ℕ} {ended : Bool}
    (b : Belongs nodes header events op e now ended) where
  -- the numbers of the run are sound
  pub run_sound : IsSound nodes header b.formed.post_order (state nodes events)
  run_sound = sound_of nodes header b.formed.post_order events b.run

  -- the trace so far ends at the time of the last row
  pub stop_is : stop (trace_of header (state nodes events)) ≡ whole (pos now)
  stop_is = ap (λ (l : ℕ). whole (pos l)) (last_is (state nodes events) now b.last)

  -- a node's number is at most the last row's time
  pub by_now : (p : ℕ) (f : ℤ) → p < length nodes → (state nodes events).fronts p ≡ Some f → f ≤ℤ pos now
  by_now p f l x =
      let bound = run_sound.bounded p f l x in
      let last : bound.last ≡ pos now = same_Some bound.last (pos now) (sym bound.is_last ∙ b.last) in
      subst (λ z. f ≤ℤ z) last bound.by_now

  -- the run with a step of the node more
  pub with_step : state nodes (events ++ step op.node ∷ []) ≡ after_event nodes (state nodes events) (step op.node)
  with_step = after_one nodes header b.formed events (step op.node)

  -- its number is then the allowed one
  pub own_after : (after_event nodes (state nodes events) (step op.node)).fronts op.node ≡ allowed_at nodes (state nodes events) op.node
  own_after = ap (λ (t : Bool). cond t (allowed_at nodes (state nodes events) op.node) ((state nodes events).fronts op.node))
      (eq-eqb op.node op.node refl)

  -- and no other one's is another
  pub others_after : (j : ℕ) → j ≢ op.node
      → shown (state nodes events) j ≡ shown (after_event nodes (state nodes events) (step op.node)) j
  others_after j apart =
      subst (λ (o : Front). shown (state nodes events) j ≡ shown (record
      { rows = (state nodes events).rows; closed = (state nodes events).closed; fronts = λ k. o }) j)
      (sym (step_leaves nodes header b.formed (state nodes events) op.node j apart)) refl

  -- the allowed number is not less than the node's
  pub never_less : (f : ℤ) → allowed_at nodes (state nodes events) op.node ≡ Some f → NeverLess ((state nodes events).fronts op.node) (Some f)
  never_less f x = subst (λ (o : Front). NeverLess ((state nodes events).fronts op.node) o) x (run_sound.rising op.node (own_within b))

  -- and it is at most the last row's time
  pub allowed_by_now : (f : ℤ) → allowed_at nodes (state nodes events) op.node ≡ Some f → f ≤ℤ pos now
  allowed_by_now f x =
      let runs : IsRun nodes header (events ++ step op.node ∷ []) =
      run_more nodes header b.formed events (step op.node) b.run (own_within b, no_atom_here b) in
      let bound = (sound_of nodes header b.formed.post_order (events ++ step op.node ∷ []) runs).bounded op.node f (own_within b)
      (ap (λ (s : State). s.fronts op.node) with_step ∙ own_after ∙ x) in
      let last : bound.last ≡ pos now = same_Some bound.last (pos now) (sym bound.is_last ∙ ap last_row with_step ∙ b.last) in
      subst (λ z. f ≤ℤ z) last bound.by_now

  module _ (j : ℕ) (left : Bool) (r : IsReader b.stands.node left j) where
    -- an input stands before its reader
    pub input_below : j < op.node
    input_below = child_all (λ p. p < op.node) b.stands.node left j r
        (children_before nodes header b.formed.post_order op.node b.stands.node (own_within b) b.stands.at)

    -- an input is not its own reader
    pub input_apart : j ≢ op.node
    input_apart same = absurd (omega (arith, input_below, same))

    abbrev held_edge : IsJoinedEdge nodes header events (edge_at e j).joins j (held_at e j)
    held_edge = edge b j left r

    -- an input's edge notes the input's number
    pub number_is : number_at e j ≡ (state nodes events).fronts j
    number_is = (b.inputs j b.stands.node left b.stands.at r).0

    -- the input's edge tells the input
    pub telling : IsTelling (subformula nodes j) (trace_of header (state nodes events)) (first_time (state nodes events).rows) now (edge_at e j)
    telling = elim (held_is b j left r) [
      | inl h ↦ record {
        from = front_place e j;
        tells = subst (λ l. Tells (Truth (subformula nodes j) (trace_of header (state nodes events))) (front_place e j) l (front_place e j))
            (sym h.0) (same_itself (front_place e j));
        late = inl h.0;
      }
      | inr h ↦
          let number : number_at e j ≡ Some h.0 = number_is ∙ h.1.front in
          record {
            from = h.1.begin;
            tells = subst (λ (q : Place). Tells (Truth (subformula nodes j) (trace_of header (state nodes events))) h.1.begin (held_at e j) q)
                (ap place_of (sym number))
                (tells_of (subformula nodes j) (trace_of header (state nodes events)) h.1.begin (held_at e j) (place_of (Some h.0)) h.1.tiles
                h.1.told);
            late = inr (h.1.from, h.0, number, by_now j h.0 (input_within b j left r) h.1.front);
          }
    ]

    -- before the node's first answer it was read no further than to the start
    pub read_first : op.front ≡ None
        → AtMost (read_upto e j) (record { at = whole (pos (first_time (state nodes events).rows)); after = false })
    read_first none = by_front (shown (state nodes events) j) refl (stretches_lead b j left r) (needs b j left r)
      where
        S : ℕ
        S = first_time (state nodes events).rows

        unread : (edge_at e j).seen ≡ []
        unread = b.stands.unread none j left r

        fresh_is : fresh_at e j ≡ held_at e j
        fresh_is = sym (ap (λ l. l ++ fresh_at e j) unread)

        hidden : shown (state nodes events) op.node ≡ None
        hidden = b.stands.front ∙ ap (option_map pos) none

        by_front : (o : Front) → shown (state nodes events) j ≡ o → IsWhole S o held_edge.stretches
            → AreNeeded S o ((state nodes events).fronts op.node) (reach_back b.stands.node left) held_edge.stretches (held_at e j)
            → AtMost (read_upto e j) (answered_to S None)
        by_front None x w h =
            subst (λ l. AtMost (first_place l (front_place e j)) (answered_to S None)) (sym (fresh_is ∙ h))
            (below_start S (number_at e j) (λ f y. not_shown (state nodes events) j f x (sym number_is ∙ y)))
        by_front (Some f) x w h =
            subst (λ l. AtMost (first_place l (front_place e j)) (answered_to S None)) (sym (fresh_is ∙ all))
            (by_tiles held_edge.stretches w)
          where
            all : held_at e j ≡ held_edge.stretches
            all = elim (needed_part S f ((state nodes events).fronts op.node) (reach_back b.stands.node left) held_edge.stretches (held_at e j) w h) [
              | inl is ↦ is
              | inr part ↦
                  absurd (none_is_none part.0 (sym hidden ∙ front_shown (state nodes events) op.node part.0 part.1 part.2))
            ]

            by_tiles : (vs : List Verdict) → AreTiles (answered_to S None) vs (answered_to S (Some f))
                → AtMost (first_place vs (front_place e j)) (answered_to S None)
            by_tiles [] s = absurd (let y : false ≡ true = s.1 in cc)
            by_tiles (v ∷ vs) s = λ t u. upto_same (begins (interval v.on)) (answered_to S None) t (same_places s.0) u

    -- what an input's edge holds is what it is to hold after the step
    pub edge_of : (held : List Verdict) → AreNeeded (first_time (state nodes events).rows)
        (shown (after_event nodes (state nodes events) (step op.node)) j)
        ((after_event nodes (state nodes events) (step op.node)).fronts op.node) (reach_back b.stands.node left) held_edge.stretches held
        → IsJoinedEdge nodes header (events ++ step op.node ∷ []) (edge_at e j).joins j held
    edge_of held h = record {
      reader = op.node;
      reading = b.stands.node;
      left = left;
      at_reader = b.stands.at;
      reads = r;
      emitted = held_edge.emitted;
      is_emitted = other_step nodes header events op.node j held_edge.emitted input_apart held_edge.is_emitted;
      stretches = held_edge.stretches;
      stand = held_edge.stand;
      is_needed = subst (λ (st : State). AreNeeded (first_time st.rows) (shown st j) (st.fronts op.node) (reach_back b.stands.node left)
          held_edge.stretches held) (sym with_step) h;
    }

    module _ (f : ℤ) (allowed : allowed_at nodes (state nodes events) op.node ≡ Some f) where
      below_new : (g : ℤ) → (state nodes events).fronts op.node ≡ Some g → g ≤ℤ f
      below_new g x =
          let up = never_less f allowed g x in
          subst (λ z. g ≤ℤ z) (same_Some up.0 f (sym up.1)) up.2

      moved_edge : (held : List Verdict)
          → AreNeeded (first_time (state nodes events).rows) (shown (state nodes events) j) (Some f) (reach_back b.stands.node left)
          held_edge.stretches held → IsJoinedEdge nodes header (events ++ step op.node ∷ []) (edge_at e j).joins j held
      moved_edge held h =
          edge_of held
          (subst (λ (o : Front). AreNeeded (first_time (state nodes events).rows) o ((after_event nodes (state nodes events) (step op.node)).fronts
          op.node) (reach_back b.stands.node left) held_edge.stretches held) (others_after j input_apart)
          (subst (λ (o : Front). AreNeeded (first_time (state nodes events).rows) (shown (state nodes events) j) o (reach_back b.stands.node left)
          held_edge.stretches held) (sym (own_after ∙ allowed)) h))

      -- after a step to a number that is not below the start it needs what ends beyond that number, moved by how far the node looks back
      pub edge_later : (held : List Verdict) → pos (first_time (state nodes events).rows) ≤ℤ f
          → held ≡ beyond (whole (f +ℤ reach_back b.stands.node left)) (held_at e j)
          → IsJoinedEdge nodes header (events ++ step op.node ∷ []) (edge_at e j).joins j held
      edge_later held low is =
          moved_edge held
          (subst (λ l. AreNeeded S (shown (state nodes events) j) (Some f) k held_edge.stretches l) (sym is)
          (by_front (shown (state nodes events) j) (stretches_lead b j left r) (needs b j left r)))
        where
          S : ℕ
          S = first_time (state nodes events).rows

          k : ℤ
          k = reach_back b.stands.node left

          by_front : (o : Front) → IsWhole S o held_edge.stretches
              → AreNeeded S o ((state nodes events).fronts op.node) k held_edge.stretches (held_at e j)
              → AreNeeded S o (Some f) k held_edge.stretches (beyond (whole (f +ℤ k)) (held_at e j))
          by_front None w h = ap (beyond (whole (f +ℤ k))) h
          by_front (Some g) w h = needs_later S g ((state nodes events).fronts op.node) f k held_edge.stretches (held_at e j) w low below_new h

      -- below the start all
      pub edge_low : f <ℤ pos (first_time (state nodes events).rows)
          → IsJoinedEdge nodes header (events ++ step op.node ∷ []) (edge_at e j).joins j (held_at e j)
      edge_low low = moved_edge (held_at e j) (by_front (shown (state nodes events) j) (needs b j left r))
        where
          S : ℕ
          S = first_time (state nodes events).rows

          by_front : (o : Front)
              → AreNeeded S o ((state nodes events).fronts op.node) (reach_back b.stands.node left) held_edge.stretches (held_at e j)
              → AreNeeded S o (Some f) (reach_back b.stands.node left) held_edge.stretches (held_at e j)
          by_front None h = h
          by_front (Some g) h =
              needs_same S g ((state nodes events).fronts op.node) f (reach_back b.stands.node left) held_edge.stretches (held_at e j) low
              (λ j x. let l = below_new j x in omega (arith, ints)) h
