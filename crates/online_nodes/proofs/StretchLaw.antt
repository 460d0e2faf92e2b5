-- What an edge holds after one event more, whether it joins or not, and that it is no more than the segments that its reader may need.
use Rattle.std.proofs.Common.{◌≡◌, inl, inr, refl, sym, ap, subst, ◌∙◌, ℕ, ◌<◌, ◌≤◌, Bool, true, false, Some, None, List, [], ◌∷◌, ◌++◌}
use Rattle.std.proofs.Common.{length, ℤ, pos, ◌+ℤ◌, arith, append_assoc, length-append}
use Rattle.std.specs.Prelude.{int_lt, cond, ◌↔◌}
use Rattle.std.proofs.lemmas.List.{append-nil}
use Rattle.rational.specs.Rational.{Rational, whole}
use Rattle.rational.specs.Time.{Interval, less}
use Rattle.rational.proofs.Tests.{int_order}
use Rattle.frac128.specs.Value.{value}
use Rattle.stl_syntax.specs.Trace.{Header, first_time}
use Rattle.stl_syntax.specs.PostOrder.{IsPostOrder}
use Rattle.stl_syntax.specs.WellFormed.{AreWellFormed}
use Rattle.stl_syntax.specs.declared.items.Verdict.{Verdict}
use Rattle.stl_syntax.specs.declared.node.Node.{Node}
use Rattle.online_nodes.specs.Network.{Event, Front, State, needed, shown, after_event, state, reach_back, Emitted, EmittedAt, IsRun, MayCome}
use Rattle.online_nodes.specs.Needed.{Meets, AreMeeting, AreNeeded, IsEdge, IsJoinedEdge}
use Rattle.online_nodes.specs.Held.{AreStretches, Stand, as_given}
use Rattle.online_nodes.specs.Laws.{AreTiles, answered_to, beyond, IsWhole}
use Rattle.online_nodes.proofs.EdgeLaw.{holds_more, after_one, run_more, emitted_more, shown_stays}
use Rattle.online_nodes.proofs.EmittedLaw.{emitted_tiles}
use Rattle.online_nodes.proofs.FrameLaw.{nothing_given}
use Rattle.online_nodes.proofs.HeldFacts.{needed_part}
use Rattle.online_nodes.proofs.MeetingLaw.{Each, all_meeting, one_meeting, needed_first}
use Rattle.online_nodes.proofs.RisingLaw.{sound_of}
use Rattle.online_nodes.proofs.RunLaw.{none_is_none}
use Rattle.online_nodes.proofs.StepFacts.{needs_later, needs_same}
use Rattle.online_nodes.proofs.Stretches.{none_long, stand_again, stand_behind, stand_given, stand_more, stand_stretches}
use Rattle.online_nodes.proofs.Stretches.{stretches_behind, stretches_meet, stretches_meet_few, stretches_none, stretches_whole}

-- each of those that meet a stretch does
meets_each : (stretch : Interval) (vs held : List Verdict) → AreMeeting stretch vs held → Each (Meets stretch) held
meets_each stretch [] held h = subst (λ l. Each (Meets stretch) l) (sym h) tt
meets_each stretch (v ∷ vs) held (inl (m, (more, rest, e))) =
    subst (λ l. Each (Meets stretch) l) (sym e) (m, meets_each stretch vs more rest)
meets_each stretch (v ∷ vs) held (inr (d, rest)) = meets_each stretch vs held rest

-- those of two lists, one behind the other, that meet a stretch are those of the one and those of the other
meeting_splits : (stretch : Interval) (pre vs held : List Verdict) → AreMeeting stretch (pre ++ vs) held
    → (first second : List Verdict) × AreMeeting stretch pre first × AreMeeting stretch vs second × (held ≡ first ++ second)
meeting_splits stretch [] vs held h = ([], held, refl, h, refl)
meeting_splits stretch (v ∷ pre) vs held (inl (m, (more, rest, e))) =
    let x = meeting_splits stretch pre vs more rest in
    (v ∷ x.0, x.1, inl (m, (x.0, x.2, refl)), x.3, e ∙ ap (λ l. v ∷ l) x.4)
meeting_splits stretch (v ∷ pre) vs held (inr (d, rest)) =
    let x = meeting_splits stretch pre vs held rest in
    (x.0, x.1, inr (d, x.2), x.3, x.4)

-- where the last ones of a list are those that meet a stretch, none of those before them does
meeting_front : (stretch : Interval) (pre held : List Verdict) → AreMeeting stretch (pre ++ held) held → AreMeeting stretch pre []
meeting_front stretch pre held h =
    let x = meeting_splits stretch pre held held h in
    let all : x.1 ≡ held = one_meeting stretch held x.1 held x.3 (all_meeting stretch held (meets_each stretch (pre ++ held) held h)) in
    let none : x.0 ≡ [] = none_long x.0 (omega (arith, ap length x.4, ap length all, length-append x.0 x.1)) in
    subst (λ l. AreMeeting stretch pre l) none x.2

-- and the other way round
meeting_again : (stretch : Interval) (pre held : List Verdict) → AreMeeting stretch pre [] → Each (Meets stretch) held
    → AreMeeting stretch (pre ++ held) held
meeting_again stretch [] held none all = all_meeting stretch held all
meeting_again stretch (v ∷ pre) held (inl (m, (more, rest, e))) all = absurd (let x : [] ≡ v ∷ more = e in cc)
meeting_again stretch (v ∷ pre) held (inr (d, rest)) all = inr (d, meeting_again stretch pre held rest all)

-- what ends behind a time stands at the back
beyond_back : (lo : Rational) (vs : List Verdict) → (pre : List Verdict) × (vs ≡ pre ++ beyond lo vs)
beyond_back lo [] = ([], refl)
beyond_back lo (v ∷ vs) = by_test (beyond_back lo vs) (less lo (value v.on.to)) refl
  where
    by_test : (pre : List Verdict) × (vs ≡ pre ++ beyond lo vs) → (t : Bool) → less lo (value v.on.to) ≡ t
        → (pre : List Verdict) × (v ∷ vs ≡ pre ++ cond (less lo (value v.on.to)) (v ∷ vs) (beyond lo vs))
    by_test more true e = ([], ap (λ t. cond t (v ∷ vs) (beyond lo vs)) (sym e))
    by_test more false e =
        (v ∷ more.0, ap (λ l. v ∷ l) more.1 ∙ ap (λ t. v ∷ (more.0 ++ cond t (v ∷ vs) (beyond lo vs))) (sym e))

-- what is needed stands at the back
needed_back : (start : ℕ) (f : ℤ) (reader : Front) (k : ℤ) (vs held : List Verdict)
    → AreTiles (answered_to start None) vs (answered_to start (Some f)) → AreNeeded start (Some f) reader k vs held
    → (pre : List Verdict) × (vs ≡ pre ++ held)
needed_back start f reader k vs held tiles h = elim (needed_part start f reader k vs held tiles h) [
  | inl same ↦ ([], sym same)
  | inr part ↦
      let more = beyond_back (whole (part.0 +ℤ k)) vs in
      (more.0, more.1 ∙ ap (λ l. more.0 ++ l) (sym part.3))
]

-- where what is held of some verdicts is joined, it is what is held of the verdicts joined
pub needed_joined : (start : ℕ) (o reader : Front) (k : ℤ) (vs held held' : List Verdict) → IsWhole start o vs → AreStretches held' held
    → AreNeeded start o reader k vs held
    → (vs' : List Verdict) × AreStretches vs' vs × AreNeeded start o reader k vs' held'
needed_joined start None reader k vs held held' whole s h = (vs, as_given, stretches_none s h)
needed_joined start (Some f) reader k vs held held' whole s h =
    let stretch : Interval = needed start f reader k in
    let back = needed_back start f reader k vs held whole h in (
      back.0 ++ held',
      subst (λ l. AreStretches (back.0 ++ held') l) (sym back.1) (stretches_behind back.0 s),
      meeting_again stretch back.0 held' (meeting_front stretch back.0 held (subst (λ l. AreMeeting stretch l held) back.1 h))
          (stretches_meet stretch s (meets_each stretch vs held h)),
    )

-- so it is for what stands on an edge, whether it joins or not
needed_stands : (b : Bool) (start : ℕ) (o reader : Front) (k : ℤ) (vs held held' : List Verdict) → IsWhole start o vs → Stand b held held'
    → AreNeeded start o reader k vs held
    → (vs' : List Verdict) × Stand b vs vs' × AreNeeded start o reader k vs' held'
needed_stands true start o reader k vs held held' whole s h = needed_joined start o reader k vs held held' whole s h
needed_stands false start o reader k vs held held' whole s h = (vs, refl, subst (λ l. AreNeeded start o reader k vs l) (sym s) h)

-- an edge that does not join holds the segments that its reader may need, and what holds them is such an edge
pub plain_holds : (nodes : List Node) (header : Header) (events : List Event) (j : ℕ) (held : List Verdict)
    → IsJoinedEdge nodes header events false j held ↔ IsEdge nodes header events j held
plain_holds nodes header events j held = (
  (λ edge. record {
    reader = edge.reader;
    reading = edge.reading;
    left = edge.left;
    at_reader = edge.at_reader;
    reads = edge.reads;
    emitted = edge.emitted;
    is_emitted = edge.is_emitted;
    is_needed = subst (λ vs. AreNeeded (first_time (state nodes events).rows) (shown (state nodes events) j)
        ((state nodes events).fronts edge.reader) (reach_back edge.reading edge.left) vs held) edge.stand edge.is_needed;
  }),
  (λ edge. record {
    reader = edge.reader;
    reading = edge.reading;
    left = edge.left;
    at_reader = edge.at_reader;
    reads = edge.reads;
    emitted = edge.emitted;
    is_emitted = edge.is_emitted;
    stretches = edge.emitted;
    stand = refl;
    is_needed = edge.is_needed;
  }),
)

-- of verdicts without gap some are needed
needed_some : (start : ℕ) (f : ℤ) (reader : Front) (k : ℤ) (vs : List Verdict)
    → AreTiles (answered_to start None) vs (answered_to start (Some f)) → (held : List Verdict) × AreNeeded start (Some f) reader k vs held
needed_some start f reader k vs tiles = by_reader reader
  where
    all : AreNeeded start (Some f) None k vs vs
    all = needed_first start f None k vs (λ g e. absurd (none_is_none g e)) tiles

    by_reader : (o : Front) → (held : List Verdict) × AreNeeded start (Some f) o k vs held
    by_reader None = (vs, all)
    by_reader (Some g) = by_test (int_lt g (pos start)) refl
      where
        by_test : (t : Bool) → int_lt g (pos start) ≡ t → (held : List Verdict) × AreNeeded start (Some f) (Some g) k vs held
        by_test true e = (vs, needs_same start f None g k vs vs (int_order g (pos start) true e) (λ j x. absurd (none_is_none j x)) all)
        by_test false e = (_, needs_later start f None g k vs vs tiles (int_order g (pos start) false e) (λ j x. absurd (none_is_none j x)) all)

module _ (nodes : List Node) (header : Header) (formed : AreWellFormed nodes) where
  abbrev order : IsPostOrder nodes
  order = formed.post_order

  module _ (events : List Event) (run : IsRun nodes header events) (j : ℕ) (l : j < length nodes) where
    -- the stretches of an edge are whole
    pub joined_whole : {joins : Bool} {held : List Verdict} (edge : IsJoinedEdge nodes header events joins j held)
        → IsWhole (first_time (state nodes events).rows) (shown (state nodes events) j) edge.stretches
    joined_whole {joins} edge = stretches_whole (stand_stretches joins edge.stand) (first_time (state nodes events).rows) (shown (state nodes events) j)
        (emitted_tiles nodes header order events run j l edge.emitted edge.is_emitted)

    -- an edge holds no more than the segments that its reader may need
    pub joined_few : (joins : Bool) (held : List Verdict) → IsJoinedEdge nodes header events joins j held
        → (segments : List Verdict) × IsEdge nodes header events j segments × (length held ≤ length segments)
    joined_few joins held edge = by_front (shown (state nodes events) j) refl
        (emitted_tiles nodes header order events run j l edge.emitted edge.is_emitted) edge.is_needed
      where
        s : State
        s = state nodes events

        S : ℕ
        S = first_time s.rows

        k : ℤ
        k = reach_back edge.reading edge.left

        by_front : (o : Front) → shown s j ≡ o → IsWhole S o edge.emitted → AreNeeded S o (s.fronts edge.reader) k edge.stretches held
            → (segments : List Verdict) × IsEdge nodes header events j segments × (length held ≤ length segments)
        by_front o x whole h = (
          few.0,
          record {
            reader = edge.reader;
            reading = edge.reading;
            left = edge.left;
            at_reader = edge.at_reader;
            reads = edge.reads;
            emitted = edge.emitted;
            is_emitted = edge.is_emitted;
            is_needed = subst (λ q. AreNeeded S q (s.fronts edge.reader) k edge.emitted few.0) (sym x) few.1;
          },
          few.2,
        )
          where
            by_shown : (o : Front) → IsWhole S o edge.emitted → AreNeeded S o (s.fronts edge.reader) k edge.stretches held
                → (segments : List Verdict) × AreNeeded S o (s.fronts edge.reader) k edge.emitted segments × (length held ≤ length segments)
            by_shown None w h = ([], refl, omega (arith, ap length h))
            by_shown (Some f) w h =
                let some = needed_some S f (s.fronts edge.reader) k edge.emitted w in
                (some.0, some.1, stretches_meet_few (needed S f (s.fronts edge.reader) k) (stand_stretches joins edge.stand) held some.0 h some.1)

            few : (segments : List Verdict) × AreNeeded S o (s.fronts edge.reader) k edge.emitted segments × (length held ≤ length segments)
            few = by_shown o whole h

  -- an edge, once its node gave out more, where its reader stays: where it joins, what was not read may be joined with what came
  pub joined_grows : {joins : Bool} (events : List Event) (e : Event) → IsRun nodes header events → MayCome nodes header (state nodes events) e
      → (j : ℕ) → j < length nodes → (seen fresh fresh' here : List Verdict) → (edge : IsJoinedEdge nodes header events joins j (seen ++ fresh))
      → edge.reader < length nodes
      → (after_event nodes (state nodes events) e).fronts edge.reader ≡ (state nodes events).fronts edge.reader
      → EmittedAt nodes header j (state nodes events) (after_event nodes (state nodes events) e) here
      → Stand joins (fresh ++ here) fresh' → IsJoinedEdge nodes header (events ++ e ∷ []) joins j (seen ++ fresh')
  joined_grows {joins} events e run may j l seen fresh fresh' here edge rl same given s = record {
    reader = edge.reader;
    reading = edge.reading;
    left = edge.left;
    at_reader = edge.at_reader;
    reads = edge.reads;
    emitted = edge.emitted ++ here;
    is_emitted = is_emitted;
    stretches = next.0;
    stand = stand_again joins (edge.emitted ++ here) (edge.stretches ++ here) next.0 behind next.1;
    is_needed = subst (λ st. AreNeeded (first_time st.rows) (shown st j) (st.fronts edge.reader) k next.0 (seen ++ fresh'))
        (sym (after_one nodes header formed events e)) next.2;
  }
    where
      s' : State
      s' = after_event nodes (state nodes events) e

      k : ℤ
      k = reach_back edge.reading edge.left

      is_emitted : Emitted nodes header (events ++ e ∷ []) j (edge.emitted ++ here)
      is_emitted = emitted_more nodes header formed events e j edge.emitted here edge.is_emitted given

      behind : Stand joins (edge.emitted ++ here) (edge.stretches ++ here)
      behind = stand_more joins edge.emitted edge.stretches edge.stand here

      whole : IsWhole (first_time s'.rows) (shown s' j) (edge.stretches ++ here)
      whole = stretches_whole (stand_stretches joins behind) (first_time s'.rows) (shown s' j)
          (subst (λ st. IsWhole (first_time st.rows) (shown st j) (edge.emitted ++ here)) (after_one nodes header formed events e)
          (emitted_tiles nodes header order (events ++ e ∷ []) (run_more nodes header formed events e run may) j l (edge.emitted ++ here) is_emitted))

      grown : AreNeeded (first_time s'.rows) (shown s' j) (s'.fronts edge.reader) k (edge.stretches ++ here) ((seen ++ fresh) ++ here)
      grown = holds_more nodes header formed e
          (record { input = l; within = rl; at = edge.at_reader; reads = edge.reads; same = same }) may (sound_of nodes header order events run)
          edge.stretches here (seen ++ fresh) (joined_whole events run j l edge) given edge.is_needed

      here_stands : Stand joins ((seen ++ fresh) ++ here) (seen ++ fresh')
      here_stands = subst (λ m. Stand joins m (seen ++ fresh')) (sym (append_assoc seen fresh here)) (stand_behind joins (fresh ++ here) fresh' seen s)

      next : (vs : List Verdict) × Stand joins (edge.stretches ++ here) vs
          × AreNeeded (first_time s'.rows) (shown s' j) (s'.fronts edge.reader) k vs (seen ++ fresh')
      next = needed_stands joins (first_time s'.rows) (shown s' j) (s'.fronts edge.reader) k (edge.stretches ++ here) ((seen ++ fresh) ++ here)
          (seen ++ fresh') whole here_stands grown

  -- an edge whose node and whose reader stay
  pub joined_stays : {joins : Bool} (events : List Event) (e : Event) → IsRun nodes header events → MayCome nodes header (state nodes events) e
      → (j : ℕ) → j < length nodes → (held : List Verdict) → (edge : IsJoinedEdge nodes header events joins j held) → edge.reader < length nodes
      → (after_event nodes (state nodes events) e).fronts edge.reader ≡ (state nodes events).fronts edge.reader
      → (after_event nodes (state nodes events) e).fronts j ≡ (state nodes events).fronts j
      → IsJoinedEdge nodes header (events ++ e ∷ []) joins j held
  joined_stays {joins} events e run may j l held edge rl same stays =
      joined_grows events e run may j l [] held held [] edge rl same
      (nothing_given nodes header j (state nodes events) (after_event nodes (state nodes events) e)
      (shown_stays nodes header formed (state nodes events) e (sound_of nodes header order events run) j l stays))
      (subst (λ m. Stand joins m held) (sym (append-nil held)) (stand_given joins held))
