-- A step that gives out nothing: of a node that is not ready, and one to a number below the start.
use Rattle.std.proofs.Common.{◌≡◌, ◌≢◌, ◌⊎◌, inl, inr, refl, sym, ap, subst, ◌∙◌, ℕ, ◌≤◌, Bool, true, false, Option}
use Rattle.std.proofs.Common.{Some, None, List, [], ◌∷◌, ◌++◌, ℤ, pos, ◌<ℤ◌, arith}
use Rattle.std.specs.Prelude.{◌&&◌, not, option_map, slice_get, IfSome}
use Rattle.std.proofs.lemmas.Bool.{cases_eq}
use Rattle.std.proofs.lemmas.Int.{ints}
use Rattle.std.proofs.lemmas.List.{append-nil}
use Rattle.std.proofs.lemmas.Option.{same_Some}
use Rattle.rational.specs.Rational.{whole}
use Rattle.stl_syntax.specs.Trace.{Header, first_time}
use Rattle.stl_syntax.specs.declared.node.Node.{Node}
use Rattle.online_nodes.specs.Network.{Event, step, Front, State, EmittedAt, after_event, allowed_at, node_is_atom, reach_back}
use Rattle.online_nodes.specs.Network.{same_front, shown, state}
use Rattle.online_nodes.specs.Needed.{AreNeeded, IsJoinedEdge, IsReader}
use Rattle.online_nodes.specs.Belonging.{Belongs, HasStepped, StandsForSteps, is_ready, room_of_step, trace_of}
use Rattle.frac128.specs.Cuts.{place}
use Rattle.online_nodes.specs.Stepping.{Situation, IsDue}
use Rattle.online_nodes.specs.Held.{Edge, Held, edge_at, fresh_at, held_at, held_of, number_at, with_edge, with_number}
use Rattle.online_nodes.specs.Operators.{KnowsBy}
use Rattle.online_nodes.specs.declared.operator.Operator.{Operator}
use Rattle.online_nodes.proofs.BelongLemmas.{no_atom_here, own_edge}
use Rattle.online_nodes.proofs.FrameLaw.{nothing_given}
use Rattle.online_nodes.proofs.HeldFacts.{edge, needs}
use Rattle.online_nodes.proofs.ReadLemmas.{edge_low, edge_of, input_apart, never_less, others_after, own_after, with_step}
use Rattle.online_nodes.proofs.StayLaw.{shown_is}
use Rattle.online_nodes.proofs.SteppedLemmas.{nothing_here, reached-here, reached-length, reached-other}
use Rattle.online_nodes.proofs.RisingLaw.{same_is}

-- none is few
pub none_few : (n : ℕ) → 0 ≤ n
none_few n = omega arith

module _ {nodes : List Node} {header : Header} {events : List Event} {op : Operator} {e : Held} {now : ℕ} {ended : Bool}
    (b : Belongs nodes header events op e now ended) where
  -- one reader of the node's inputs
  reader_here : (n : Node) → slice_get nodes op.node ≡ Some n → n ≡ b.stands.node
  reader_here n at = let both : Some n ≡ Some b.stands.node = sym at ∙ b.stands.at in cc

  -- a node that is not ready has its allowed number
  module _ (idle : is_ready nodes (state nodes events) op.node ≡ false) where
    idle_number : allowed_at nodes (state nodes events) op.node ≡ (state nodes events).fronts op.node
    idle_number =
        same_is (allowed_at nodes (state nodes events) op.node) ((state nodes events).fronts op.node)
        (is_same (node_is_atom nodes op.node) (same_front (allowed_at nodes (state nodes events) op.node) ((state nodes events).fronts op.node))
        (no_atom_here b) idle)
      where
        is_same : (a t : Bool) → a ≡ false → (not a && not t) ≡ false → t ≡ true
        is_same true t p q = absurd (let x : true ≡ false = p in cc)
        is_same false true p q = refl
        is_same false false p q = absurd (let x : true ≡ false = q in cc)

    idle_front : (after_event nodes (state nodes events) (step op.node)).fronts op.node ≡ (state nodes events).fronts op.node
    idle_front = own_after b ∙ idle_number

    idle_shown : shown (state nodes events) op.node ≡ shown (after_event nodes (state nodes events) (step op.node)) op.node
    idle_shown = subst (λ (o : Front). shown (state nodes events) op.node
        ≡ shown (record { rows = (state nodes events).rows; closed = (state nodes events).closed; fronts = λ k. o }) op.node) (sym idle_front) refl

    idle_edge : (j : ℕ) (left : Bool) → IsReader b.stands.node left j
        → IsJoinedEdge nodes header (events ++ step op.node ∷ []) (edge_at e j).joins j (held_at e j)
    idle_edge j left r =
        edge_of b j left r (held_at e j)
        (subst (λ (o : Front). AreNeeded (first_time (state nodes events).rows)
        (shown (after_event nodes (state nodes events) (step op.node)) j) o (reach_back b.stands.node left) (edge b j left r).stretches
        (held_at e j)) (sym idle_front)
        (subst (λ (o : Front). AreNeeded (first_time (state nodes events).rows) o ((state nodes events).fronts op.node)
        (reach_back b.stands.node left) (edge b j left r).stretches (held_at e j)) (others_after b j (input_apart b j left r)) (needs b j left r)))

    -- a step of a node that is not ready leaves all edges
    pub idle_stepped : HasStepped nodes header events op.node e e
    idle_stepped = record {
      verdicts = [];
      emitted = subst (λ (s : State). EmittedAt nodes header op.node (state nodes events) s []) (sym (with_step b))
          (nothing_given nodes header op.node (state nodes events) (after_event nodes (state nodes events) (step op.node)) idle_shown);
      few = none_few (room_of_step nodes events op.node e);
      seen = refl;
      got = sym (append-nil (fresh_at e op.node));
      number = b.number ∙ sym idle_number;
      inputs = λ j n left at r. (refl, idle_edge j left (subst (λ (m : Node). IsReader m left j) (reader_here n at) r));
      others = λ j apart none. refl;
      joins = λ j. refl;
      edges = refl;
      start = refl;
      spare = omega arith;
    }

    -- the operator of a node that is not ready stands as before
    pub idle_stands : StandsForSteps nodes header (events ++ step op.node ∷ []) op e
    idle_stands = record {
      node = b.stands.node;
      at = b.stands.at;
      no_atom = b.stands.no_atom;
      kind = b.stands.kind;
      front = ap (λ (s : State). shown s op.node) (with_step b) ∙ sym idle_shown ∙ b.stands.front;
      unread = b.stands.unread;
      knows = subst (λ (s : State). IfSome op.front (λ f. KnowsBy op.kind nodes (trace_of header s) e (record { at = whole (pos f); after = true })
          (place op.reach) (place op.run))) (sym (with_step b)) b.stands.knows;
    }

  -- a step to a number below the start notes it, and nothing else
  module _ (f : ℤ) (allowed : allowed_at nodes (state nodes events) op.node ≡ Some f) (low : f <ℤ pos (first_time (state nodes events).rows))
      {new : Held} (noted : new ≡ record e { edges = with_edge e op.node (with_number (edge_at e op.node) f) }) where
    low_none : op.front ≡ None
    low_none = by_front op.front refl
      where
        by_front : (o : Option ℕ) → op.front ≡ o → op.front ≡ None
        by_front None h = h
        by_front (Some g) h =
            let shows : shown (state nodes events) op.node ≡ Some (pos g) = b.stands.front ∙ ap (option_map pos) h in
            let at = shown_is nodes header b.formed.post_order (state nodes events) op.node (pos g) shows in
            let up = never_less b f allowed (pos g) at.0 in
            let same : up.0 ≡ f = same_Some up.0 f (sym up.1) in
            absurd (let l = at.1 in let k = up.2 in omega (arith, ints))

    low_edge : edge_at new op.node ≡ with_number (edge_at e op.node) f
    low_edge = reached-here e new op.node f (own_edge b) noted

    low_other : (j : ℕ) → j ≢ op.node → edge_at new j ≡ edge_at e j
    low_other j apart = reached-other e new op.node f j apart noted

    low_input : (j : ℕ) (left : Bool) → IsReader b.stands.node left j
        → (number_at new j ≡ number_at e j) × IsJoinedEdge nodes header (events ++ step op.node ∷ []) (edge_at new j).joins j (held_at new j)
    low_input j left r =
        let same : edge_at new j ≡ edge_at e j = low_other j (input_apart b j left r) in (
          ap (λ (y : Edge). y.number) same,
          subst (λ (y : Edge). IsJoinedEdge nodes header (events ++ step op.node ∷ []) y.joins j (held_of y)) (sym same)
              (edge_low b j left r f allowed low),
        )

    low_joins : (j : ℕ) → (edge_at new j).joins ≡ (edge_at e j).joins
    low_joins j = by_place (cases_eq j op.node)
      where
        by_place : (j ≡ op.node) ⊎ (j ≢ op.node) → (edge_at new j).joins ≡ (edge_at e j).joins
        by_place (inl same) = subst (λ (k : ℕ). (edge_at new k).joins ≡ (edge_at e k).joins) (sym same) (ap (λ (y : Edge). y.joins) low_edge)
        by_place (inr apart) = ap (λ (y : Edge). y.joins) (low_other j apart)

    -- a step to a number before the start puts nothing
    pub low_stepped : HasStepped nodes header events op.node e new
    low_stepped = record {
      verdicts = [];
      emitted = nothing_here b f allowed low;
      few = none_few (room_of_step nodes events op.node e);
      seen = ap (λ (y : Edge). y.seen) low_edge;
      got = ap (λ (y : Edge). y.fresh) low_edge ∙ sym (append-nil (fresh_at e op.node));
      number = ap (λ (y : Edge). y.number) low_edge ∙ sym allowed;
      inputs = λ j n left at r. low_input j left (subst (λ (m : Node). IsReader m left j) (reader_here n at) r);
      others = λ j apart none. low_other j apart;
      joins = low_joins;
      edges = reached-length e new op.node f noted;
      start = ap (λ (y : Held). y.start) noted;
      spare = (let s : new.spare ≡ e.spare = ap (λ (y : Held). y.spare) noted in omega (arith, s));
    }

    -- after a step to a number before the start the operator notes that number
    pub low_stands : StandsForSteps nodes header (events ++ step op.node ∷ []) op new
    low_stands = record {
      node = b.stands.node;
      at = b.stands.at;
      no_atom = b.stands.no_atom;
      kind = b.stands.kind;
      front = ap (λ (s : State). shown s op.node) (with_step b) ∙ hidden (shown s' op.node) refl ∙ sym (ap (option_map pos) low_none);
      unread = λ h j left r. ap (λ (y : Edge). y.seen) (low_other j (input_apart b j left r)) ∙ b.stands.unread h j left r;
      knows = subst (λ (o : Option ℕ). IfSome o (λ f. KnowsBy op.kind nodes (trace_of header (state nodes (events ++ step op.node ∷ []))) new
          (record { at = whole (pos f); after = true }) (place op.reach) (place op.run))) (sym low_none) tt;
    }
      where
        s' : State
        s' = after_event nodes (state nodes events) (step op.node)

        hidden : (o : Front) → shown s' op.node ≡ o → shown s' op.node ≡ None
        hidden None x = x
        hidden (Some g) x =
            let was = shown_is nodes header b.formed.post_order s' op.node g x in
            let at : g ≡ f = same_Some g f (sym was.0 ∙ own_after b ∙ allowed) in
            absurd (let l = was.1 in omega (arith, ints))

-- an operator that is ready, and whose number comes to one that is not below the start, has a step that is due
module _ {nodes : List Node} {header : Header} {events : List Event} {op : Operator} {e : Held} {now : ℕ} {ended : Bool}
    (b : Belongs nodes header events op e now ended) where
  abbrev pub situation : ℕ → Situation
  situation front = record { nodes = nodes; header = header; events = events; now = now; ended = ended; front = pos front }

  -- the noted start is that of the rows
  pub start_is : (start : ℕ) → Some start ≡ e.start → first_time (state nodes events).rows ≡ start
  start_is start is = let both : Some start ≡ Some (first_time (state nodes events).rows) = is ∙ b.start in cc

  -- a step to a number from the start on is due
  pub here_due : (start front : ℕ) (number : ℤ) → now ≤ 4294967295 → first_time (state nodes events).rows ≡ start → number ≡ pos front
      → start ≤ front → is_ready nodes (state nodes events) op.node ≡ true → allowed_at nodes (state nodes events) op.node ≡ Some number
      → IsDue (situation front) op e
  here_due start front number small first is low ready allowed = record {
    belongs = b;
    allowed = allowed ∙ ap (λ (z : ℤ). Some z) is;
    ready = ready;
    low = omega (arith, ints, first, low);
    small = small;
  }
