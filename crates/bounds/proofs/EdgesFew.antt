-- What an edge of the streaming network holds in a run is few: each piece that a node gave out ends at a front to which it moved.
use Rattle.std.proofs.Common.{◌≡◌, ℕ, suc, ◌+◌, ◌*◌, ◌≤◌, Bool, true, false, not, cond, List, [], ◌∷◌, ◌++◌, length, refl, sym, ap, ◌∙◌, subst}
use Rattle.std.proofs.Common.{arith, inl, inr, ℤ, Some, None}
use Rattle.std.specs.Prelude.{◌≢◌, MatchBool}
use Rattle.rational.specs.Time.{Rational, whole, Interval}
use Rattle.rational.specs.Places.{Place, ends}
use Rattle.rational.proofs.Order.{same_refl, same_sym}
use Rattle.frac128.specs.Value.{value}
use Rattle.frac128.specs.Spans.{interval}
use Rattle.stl_syntax.specs.Trace.{Header, Trace, first_time}
use Rattle.stl_syntax.specs.Formula.{Subformula, subformula}
use Rattle.stl_syntax.specs.Cells.{IsAmong}
use Rattle.stl_syntax.specs.Verdicts.{GoesOn, Describes}
use Rattle.stl_syntax.specs.declared.items.Verdict.{Verdict}
use Rattle.stl_syntax.specs.declared.node.Node.{Node}
use Rattle.online_nodes.specs.Network.{Event, Front, State, after_event, initial, state, shown, same_front, answered, needed, reach_back}
use Rattle.online_nodes.specs.Network.{EmittedFrom}
use Rattle.online_nodes.specs.Needed.{AreMeeting, AreNeeded}
use Rattle.online_nodes.specs.Laws.{AreTiles, AreTold, IsWhole, answered_to}
use Rattle.online_nodes.proofs.RunLaw.{within_horizon}
use Rattle.online_nodes.proofs.StayLaw.{emitted_stays, shown_is}
use Rattle.online_nodes.proofs.EmittedLaw.{emitted_tiles}
use Rattle.online_nodes.proofs.RowsLaw.{rows_of, trace_so_far, goes_on_itself}
use Rattle.bounds.specs.Turns.{turns_for_a_row, rows_about}
use Rattle.bounds.specs.Held.{with_front, fronts_from, times_within, so_far, EdgesAreBounded}
use Rattle.bounds.proofs.FewTimes.{among_same}
use Rattle.bounds.proofs.HeldFew.{Parts, Joins, few_meet}

-- how each verdict meets the next
abbrev pub AllPart : List Rational → Verdict → List Verdict → Type 0
AllPart fronts v [] = Unit {0}
AllPart fronts v (w ∷ ws) = Parts fronts v w × AllPart fronts w ws

-- of a list of verdicts
abbrev pub Part : List Rational → List Verdict → Type 0
Part fronts [] = Unit {0}
Part fronts (v ∷ vs) = AllPart fronts v vs

-- more fronts
all_part_more : (x : Rational) (fronts : List Rational) (v : Verdict) (vs : List Verdict) → AllPart fronts v vs → AllPart (x ∷ fronts) v vs
all_part_more x fronts v [] h = tt
all_part_more x fronts v (w ∷ vs) h =
    (elim h.0 [ inl a ↦ inl a | inr m ↦ inr (m.0, inr m.1) ], all_part_more x fronts w vs h.1)

part_more : (x : Rational) (fronts : List Rational) (vs : List Verdict) → Part fronts vs → Part (x ∷ fronts) vs
part_more x fronts [] h = tt
part_more x fronts (v ∷ vs) h = all_part_more x fronts v vs h

-- a piece that ends at a front, and what comes behind it
on_with : (p : Subformula) (tr : Trace) (stretch : Interval) (fronts : List Rational) (v : Verdict) (vs later : List Verdict)
    → stretch.to_in ≡ true → IsAmong fronts stretch.to → GoesOn p tr stretch v vs → Part fronts later → AllPart fronts v (vs ++ later)
on_with p tr stretch fronts v [] [] i m h r = tt
on_with p tr stretch fronts v [] (w ∷ ws) i m h r = (inr (h.inside ∙ i, among_same fronts (value v.on.to) stretch.to h.time m), r)
on_with p tr stretch fronts v (w ∷ vs) later i m h r = (inl h.1, on_with p tr stretch fronts w vs later i m h.3 r)

piece_with : (p : Subformula) (tr : Trace) (stretch : Interval) (fronts : List Rational) (vs later : List Verdict)
    → stretch.to_in ≡ true → IsAmong fronts stretch.to → Describes vs p tr stretch → Part fronts later → Part fronts (vs ++ later)
piece_with p tr stretch fronts [] later i m h r = absurd h
piece_with p tr stretch fronts (v ∷ vs) later i m h r = on_with p tr stretch fronts v vs later i m h.2 r

-- what one event gives, by the fronts before and after
abbrev Gives : Subformula → Trace → ℕ → Front → List Verdict → Front → Type 0
Gives p tr first old vs None = vs ≡ []
Gives p tr first old vs (Some f) = MatchBool (same_front old (Some f)) (vs ≡ []) (Describes vs p tr (answered first old f))

nothing_before : (fronts : List Rational) (vs later : List Verdict) → vs ≡ [] → Part fronts later → Part fronts (vs ++ later)
nothing_before fronts vs later e r = subst (λ l. Part fronts (l ++ later)) (sym e) r

given : (p : Subformula) (tr : Trace) (first : ℕ) (old new : Front) (vs later : List Verdict) (fronts : List Rational)
    → Gives p tr first old vs new → Part fronts later → Part (with_front old new fronts) (vs ++ later)
given p tr first old None vs later fronts g r = nothing_before fronts vs later g r
given p tr first old (Some f) vs later fronts g r = by_test (same_front old (Some f)) g
  where
    by_old : (o : Front) → Describes vs p tr (answered first o f) → Part (whole f ∷ fronts) (vs ++ later)
    by_old None d = piece_with p tr (answered first None f) (whole f ∷ fronts) vs later refl (inl (same_refl (whole f))) d (part_more (whole f) fronts later r)
    by_old (Some g) d =
        piece_with p tr (answered first (Some g) f) (whole f ∷ fronts) vs later refl (inl (same_refl (whole f))) d (part_more (whole f) fronts later r)

    by_test : (b : Bool) → MatchBool b (vs ≡ []) (Describes vs p tr (answered first old f)) → Part (cond b fronts (whole f ∷ fronts)) (vs ++ later)
    by_test true e = nothing_before fronts vs later e r
    by_test false d = by_old old d

module _ (nodes : List Node) (header : Header) where
  -- each verdict of a node but the last ends where the next one differs, or at a front
  pub parted : (i : ℕ) (s : State) (events : List Event) (vs : List Verdict) → EmittedFrom nodes header i s events vs → Part (fronts_from nodes i s events) vs
  parted i s [] vs h = subst (λ l. Part [] l) (sym h) tt
  parted i s (e ∷ events) vs (here, later, now, rest, is) =
      let new = after_event nodes s e in
      subst (λ l. Part (fronts_from nodes i s (e ∷ events)) l) (sym is)
      (given (subformula nodes i) (record { header = header; rows = new.rows }) (first_time new.rows) (shown s i) (shown new i) here later
      (fronts_from nodes i new events) now (parted i new events later rest))

touch : (a b : Bool) → a ≡ not b → b ≢ a
touch true true e = absurd (cc)
touch true false e = λ f. (let x : false ≡ true = f in cc)
touch false true e = λ f. (let x : true ≡ false = f in cc)
touch false false e = absurd (cc)

-- verdicts without gap that tell the truth join on
joined : (p : Subformula) (tr : Trace) (fronts : List Rational) (v : Verdict) (vs : List Verdict) (d : Place) → AreTiles (ends (interval v.on)) vs d
    → AreTold p tr vs → AllPart fronts v vs → Joins p tr fronts v vs
joined p tr fronts v [] d t told h = tt
joined p tr fronts v (w ∷ vs) d t told h =
    (same_sym t.0.0, touch v.on.to_in w.on.from_in t.0.1, h.0, told.0, joined p tr fronts w vs d t.2 told.1 h.1)

-- those that meet a stretch are few
pub few_held : (p : Subformula) (tr : Trace) (fronts : List Rational) (stretch : Interval) (c d : Place) (vs held : List Verdict) → AreTiles c vs d
    → AreTold p tr vs → Part fronts vs → AreMeeting stretch vs held
    → length held ≤ 2 * (turns_for_a_row p * suc (rows_about p tr stretch.from stretch.to)) + length (times_within stretch.from stretch.to fronts) + 1
few_held p tr fronts stretch c d [] held t told h m = let e = ap length m in omega (arith, e)
few_held p tr fronts stretch c d (v ∷ vs) held t told h m =
    few_meet p tr fronts stretch v vs held told.0 (joined p tr fronts v vs d t.2 told.1 h) m

none_held : (start : ℕ) (front reader : Front) (k : ℤ) (vs held : List Verdict) → front ≡ None → AreNeeded start front reader k vs held → held ≡ []
none_held start None reader k vs held e h = h
none_held start (Some f) reader k vs held e h = absurd (let x : Some f ≡ None = e in cc)

pub edges_are_bounded : EdgesAreBounded
edges_are_bounded nodes header order events run i l held edge = (
  λ none. none_held _ (shown (state nodes events) i) _ _ edge.emitted held none edge.is_needed,
  λ f is.
      let last = (within_horizon nodes header order events run i f l (shown_is nodes header order (state nodes events) i f is).0) in
      let trace = trace_so_far header (state nodes events) last.last (rows_of nodes header events run) last.is_last in
      let told = emitted_stays nodes header order events run i l edge.emitted edge.is_emitted (so_far nodes header events) trace
      (goes_on_itself header (state nodes events).rows (state nodes events).closed) in
      let tiles = subst (λ o. IsWhole (first_time (state nodes events).rows) o edge.emitted) is
      (emitted_tiles nodes header order events run i l edge.emitted edge.is_emitted) in
      let meets = subst
      (λ o. AreNeeded (first_time (state nodes events).rows) o ((state nodes events).fronts edge.reader) (reach_back edge.reading edge.left) edge.emitted held)
      is edge.is_needed in
      few_held (subformula nodes i) (so_far nodes header events) (fronts_from nodes i initial events)
      (needed (first_time (state nodes events).rows) f ((state nodes events).fronts edge.reader) (reach_back edge.reading edge.left))
      (answered_to (first_time (state nodes events).rows) None) (answered_to (first_time (state nodes events).rows) (Some f)) edge.emitted held tiles told
      (parted nodes header i initial events edge.emitted edge.is_emitted) meets,
)
