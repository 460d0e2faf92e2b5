-- Of two runs whose rows and shown fronts are the same from time to time, what a node gives out in the one is that of the other, merged.
use Rattle.std.proofs.Common.{◌≡◌, refl, sym, ap, subst, ◌∙◌, ℕ, ◌<◌, Some, None, List, [], ◌∷◌, ◌++◌, length, ℤ}
use Rattle.rational.specs.Places.{Place, ends}
use Rattle.rational.proofs.PlaceLemmas.{same_places}
use Rattle.frac128.specs.Spans.{interval}
use Rattle.stl_syntax.specs.Trace.{Header, Row, Trace, Continues, first_time}
use Rattle.stl_syntax.specs.Formula.{Subformula, subformula}
use Rattle.stl_syntax.specs.PostOrder.{IsPostOrder}
use Rattle.stl_syntax.specs.declared.items.Verdict.{Verdict}
use Rattle.stl_syntax.specs.declared.node.Node.{Node}
use Rattle.online_nodes.specs.Network.{Event, Front, State, last_row, shown, initial, after_event, state, state_from, IsRun, IsRunFrom, Emitted}
use Rattle.online_nodes.specs.Laws.{AreTiles, AreTold, answered_to, IsWhole}
use Rattle.online_nodes.proofs.RunLaw.{none_is_none, within_horizon}
use Rattle.online_nodes.proofs.RowsLaw.{rows_of, trace_so_far, goes_on_itself}
use Rattle.online_nodes.proofs.StayLaw.{shown_is, rows_grow, emitted_stays}
use Rattle.online_nodes.proofs.EmittedLaw.{emitted_tiles, tiles_append}
use Rattle.online_nodes.proofs.ToldSoFar.{same_itself}
use Rattle.verdict_stream.proofs.Passes.{state_after, run_split, Parted, parted}
use Rattle.agreeing.proofs.JoinLaw.{joined}
use Rattle.row_runs.specs.RowByRow.{AreMerged}
use Rattle.row_runs.proofs.MergedVerdicts.{merged_of_joined, merged_append}
use Rattle.row_runs.proofs.Once.{MovesOnce, once_alternates}

-- what follows the first tiles leads on from where these end
tiles_rest : (c : Place) (vs ws : List Verdict) (m d : Place) → AreTiles c vs m → AreTiles c (vs ++ ws) d → AreTiles m ws d
tiles_rest c [] ws m d s t = tiles_append m [] c ws d (same_places s) t
tiles_rest c (v ∷ vs) ws m d (s, b, first) (r, e, all) = tiles_rest (ends (interval v.on)) vs ws m d first all

told_rest : (p : Subformula) (tr : Trace) (vs ws : List Verdict) → AreTold p tr (vs ++ ws) → AreTold p tr ws
told_rest p tr [] ws h = h
told_rest p tr (v ∷ vs) ws h = told_rest p tr vs ws h.1

module _ (nodes : List Node) (header : Header) where
  -- events after a run go on it where they may come from there
  pub run_append : (s : State) (a b : List Event) → IsRunFrom nodes header s a → IsRunFrom nodes header (state_from nodes s a) b
      → IsRunFrom nodes header s (a ++ b)
  run_append s [] b h k = k
  run_append s (e ∷ a) b h k = (h.0, run_append (after_event nodes s e) a b h.1 k)

  -- what node i gives out in the one run is what it gives out in the other, of which neighbours of one truth are merged
  abbrev pub GivesMerged : ℕ → List Event → List Event → Type 0
  GivesMerged i events each =
      (vs ws : List Verdict) → Emitted nodes header events i vs → Emitted nodes header each i ws → AreMerged ws vs

module _ (nodes : List Node) (header : Header) (order : IsPostOrder nodes) (i : ℕ) (l : i < length nodes) where
  abbrev p : Subformula
  p = subformula nodes i

  -- the state after a run
  abbrev at : List Event → State
  at events = state_from nodes initial events

  -- what was given out leads to what is shown, from the start that the trace has by then
  leads_to : (events : List Event) → IsRun nodes header events → (vs : List Verdict) → Emitted nodes header events i vs → (b : ℕ)
      → ((g : ℤ) → shown (at events) i ≡ Some g → first_time (at events).rows ≡ b)
      → AreTiles (answered_to b None) vs (answered_to b (shown (at events) i))
  unfolding state
  leads_to events run vs em b begins_at = by_front (shown (at events) i) refl (emitted_tiles nodes header order events run i l vs em)
    where
      by_front : (o : Front) → shown (at events) i ≡ o → IsWhole (first_time (at events).rows) o vs
          → AreTiles (answered_to b None) vs (answered_to b o)
      by_front None x none = subst (λ l. AreTiles (answered_to b None) l (answered_to b None)) (sym none) (same_itself (answered_to b None))
      by_front (Some g) x tiles = subst (λ k. AreTiles (answered_to k None) vs (answered_to k (Some g))) (begins_at g x) tiles

  -- where a front is shown, the trace begins as it does later
  begins_as : (a b : List Event) → IsRun nodes header a → IsRunFrom nodes header (at a) b → (g : ℤ) → shown (at a) i ≡ Some g
      → first_time (at a).rows ≡ first_time (state_from nodes (at a) b).rows
  unfolding state
  begins_as a b run on g x =
      let bound = within_horizon nodes header order a run i g l (shown_is nodes header order (at a) i g x).0 in
      let grow = rows_grow nodes header order (at a) b on in
      by_rows (at a).rows grow.0 bound.last bound.is_last ∙ sym (ap first_time grow.1)
    where
      by_rows : (rows more : List Row) (m : ℤ) → last_row (record { rows = rows; closed = (at a).closed; fronts = (at a).fronts }) ≡ Some m
          → first_time rows ≡ first_time (rows ++ more)
      by_rows [] more m e = absurd (none_is_none m e)
      by_rows (r ∷ rows) more m e = refl

  -- both runs go on, the one so that the node's front moves once at most
  pub merged_on : (a b ab x y xy : List Event) → ab ≡ a ++ b → xy ≡ x ++ y → IsRun nodes header ab → IsRun nodes header xy → (at xy).rows ≡ (at ab).rows
      → shown (at x) i ≡ shown (at a) i → shown (at xy) i ≡ shown (at ab) i → MovesOnce nodes header i (at a) b
      → GivesMerged nodes header i a x → GivesMerged nodes header i ab xy
  unfolding state
  merged_on a b ab x y xy parts parts' run run' rows_same was now once before vs ws em en = by_front (shown (at ab) i) refl
    where
      of_run : IsRunFrom nodes header initial a × IsRunFrom nodes header (at a) b
      of_run = run_split nodes header initial a b (subst (λ es. IsRun nodes header es) parts run)

      of_run' : IsRunFrom nodes header initial x × IsRunFrom nodes header (at x) y
      of_run' = run_split nodes header initial x y (subst (λ es. IsRun nodes header es) parts' run')

      begin : ℕ
      begin = first_time (at ab).rows

      tr : Trace
      tr = record { header = header; rows = (at ab).rows }

      c : Place
      c = answered_to begin None

      m : Place
      m = answered_to begin (shown (at a) i)

      d : Place
      d = answered_to begin (shown (at ab) i)

      from_a : (g : ℤ) → shown (at a) i ≡ Some g → first_time (at a).rows ≡ begin
      from_a g e =
          begins_as a b of_run.0 of_run.1 g e ∙ ap (λ (s : State). first_time s.rows) (sym (ap at parts ∙ state_after nodes header initial a b))

      from_x : (g : ℤ) → shown (at x) i ≡ Some g → first_time (at x).rows ≡ begin
      from_x g e =
          begins_as x y of_run'.0 of_run'.1 g e ∙ ap (λ (s : State). first_time s.rows) (sym (ap at parts' ∙ state_after nodes header initial x y))
          ∙ ap first_time rows_same

      v : Parted nodes header i initial a b vs
      v = parted nodes header i initial a b vs (subst (λ es. Emitted nodes header es i vs) parts em)

      w : Parted nodes header i initial x y ws
      w = parted nodes header i initial x y ws (subst (λ es. Emitted nodes header es i ws) parts' en)

      rest : AreTiles m v.beyond d
      rest =
          tiles_rest c v.first v.beyond m d (leads_to a of_run.0 v.first v.first_is begin from_a)
          (subst (λ k. AreTiles c k d) v.is (leads_to ab run vs em begin (λ g e. refl)))

      rest' : AreTiles m w.beyond d
      rest' =
          tiles_rest c w.first w.beyond m d
          (subst (λ o. AreTiles c w.first (answered_to begin o)) was (leads_to x of_run'.0 w.first w.first_is begin from_x))
          (subst (λ k. AreTiles c k d) w.is
          (subst (λ o. AreTiles c ws (answered_to begin o)) now (leads_to xy run' ws en begin (λ g e. ap first_time rows_same))))

      goes : Continues tr header (at xy).rows (at xy).closed
      goes = subst (λ r. Continues tr header r (at xy).closed) (sym rows_same) (goes_on_itself header (at ab).rows (at xy).closed)

      by_front : (o : Front) → shown (at ab) i ≡ o → AreMerged ws vs
      by_front None e =
          let none : vs ≡ [] = subst (λ o. IsWhole begin o vs) e (emitted_tiles nodes header order ab run i l vs em) in
          let none' : ws ≡ [] = subst (λ o. IsWhole (first_time (at xy).rows) o ws) (now ∙ e) (emitted_tiles nodes header order xy run' i l ws en) in
          subst (λ k. AreMerged ws k) (sym none) none'
      by_front (Some f) e =
          let bound = within_horizon nodes header order ab run i f l (shown_is nodes header order (at ab) i f e).0 in
          let is = trace_so_far header (at ab) bound.last (rows_of nodes header ab run) bound.is_last in
          let told = emitted_stays nodes header order ab run i l vs em tr is (goes_on_itself header (at ab).rows (at ab).closed) in
          let told' = emitted_stays nodes header order xy run' i l ws en tr is goes in
          let join = joined p tr m v.beyond d w.beyond rest (told_rest p tr v.first v.beyond (subst (λ k. AreTold p tr k) v.is told))
          (once_alternates nodes header i (at a) b v.beyond once v.beyond_is) rest'
          (told_rest p tr w.first w.beyond (subst (λ k. AreTold p tr k) w.is told')) in
          subst (λ k. AreMerged ws k) (sym v.is)
          (subst (λ k. AreMerged k (v.first ++ v.beyond)) (sym w.is)
          (merged_append w.first v.first w.beyond v.beyond (before v.first w.first v.first_is w.first_is)
          (merged_of_joined w.beyond v.beyond join)))
