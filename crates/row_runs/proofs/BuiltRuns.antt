-- The run in which each row is followed by a step of every node is built beside one that is driven: what the root gives out in it is cut from
-- what it gave out there, and so all of it can be taken.
use Rattle.std.proofs.Common.{◌≡◌, refl, sym, ap, subst, ◌∙◌, ℕ, zero, suc, ◌+◌, ◌-◌, ◌<◌, ◌≤◌, Bool, true, false, cond, Some, None, List, [], ◌∷◌, ◌++◌}
use Rattle.std.proofs.Common.{length, ℤ, pos, ◌≤ℤ◌, arith, append-nil, append_assoc, length-append}
use Rattle.std.specs.Prelude.{◌≢◌, slice_index_or}
use Rattle.std.proofs.lemmas.Int.{ints}
use Rattle.std.proofs.lemmas.List.{length_push}
use Rattle.std.proofs.lemmas.List.Elements.{All-cons}
use Rattle.std.proofs.Math.Seq.{get_or-append_seam}
use Rattle.stl_syntax.specs.Trace.{Header, Row, Trace, IsTrace, Continues, AreRows, AreRowsAfter, first_time, last_time}
use Rattle.stl_syntax.specs.Formula.{subformula, horizon}
use Rattle.stl_syntax.specs.PostOrder.{IsPostOrder}
use Rattle.stl_syntax.specs.declared.items.Verdict.{Verdict}
use Rattle.stl_syntax.specs.declared.node.Node.{Node}
use Rattle.stl_syntax.specs.declared.node.Node.TheVariants.{Const}
use Rattle.stl_syntax.proofs.RowsLemmas.{last_grows}
use Rattle.online_nodes.specs.Network.{Event, step, take as taken, Front, State, is_atom, initial, after_event, state_from, state}
use Rattle.online_nodes.specs.Network.{shown, MayCome, IsRunFrom, IsRun, Emitted}
use Rattle.online_nodes.specs.Needed.{IsTaken, next}
use Rattle.online_nodes.specs.Driven.{steps_of, takes, pass_of, IsEmptied, IsDriven, nothing as no_rows, by_end as driven_end}
use Rattle.online_nodes.specs.Laws.{AreTiles, AreTold, IsBounded, IsWhole, NeverLess, answered_to}
use Rattle.online_nodes.specs.StreamedWide.{front_at}
use Rattle.online_nodes.proofs.RunLaw.{within_horizon}
use Rattle.online_nodes.proofs.RisingLaw.{sound_of}
use Rattle.online_nodes.proofs.RowsLaw.{rows_of as rows_came, trace_so_far, goes_on_itself, last_is}
use Rattle.online_nodes.proofs.FrameLaw.{no_more_by_take}
use Rattle.online_nodes.proofs.FrontsLaw.{fronts_are_times}
use Rattle.online_nodes.proofs.StayLaw.{shown_is, emitted_stays}
use Rattle.online_nodes.proofs.EmittedLaw.{emitted_tiles, front_shown, taken_within}
use Rattle.verdict_stream.proofs.TakenVerdicts.{emitted_takes}
use Rattle.verdict_stream.proofs.Passes.{state_after, rows_stay}
use Rattle.verdict_stream.proofs.WatchedRoot.{steps_others, taken_on, driven_at, driven_emptied, by_row as driven_on}
use Rattle.row_runs.specs.RowByRow.{IsRowByRow, nothing, by_row, by_end}
use Rattle.row_runs.proofs.PartedVerdicts.{fewest}
use Rattle.row_runs.proofs.GivenCut.{LeadTo, shown_from, gives_out}
use Rattle.row_runs.proofs.MergedOutputs.{run_append}

-- the last of the first rows comes no later than the last of all
last_no_later : (n : ℕ) (rows more all : List Row) → all ≡ rows ++ more → AreRows n all → last_time 0 rows ≤ last_time 0 all
last_no_later n [] more all e h = omega arith
last_no_later n (r ∷ rows) more all e h =
    subst (λ k. last_time 0 (r ∷ rows) ≤ last_time 0 k) (sym e) (last_grows n r.time rows more (subst (AreRows n) e h).1)

-- a row among others has as many values as they
pub row_width : (n time : ℕ) (rows : List Row) (r : Row) (more : List Row) → AreRowsAfter n time (rows ++ r ∷ more) → length r.values ≡ n
row_width n time [] r more h = h.1
row_width n time (q ∷ rows) r more h = row_width n q.time rows r more h.2

module _ (nodes : List Node) (header : Header) where
  -- a run row by row is one that a stream drives
  pub driven_by_rows : {rows : List Row} {ended : Bool} {events : List Event} → IsRowByRow nodes header rows ended events
      → IsDriven nodes header rows ended events
  driven_by_rows nothing = no_rows
  driven_by_rows (by_row r n before emptied) = driven_on nodes header r n (driven_by_rows before) emptied
  driven_by_rows (by_end n before some emptied) = driven_end n (driven_by_rows before) some emptied

  -- steps of all may come at any time
  steps_run : (k : ℕ) (before rest : List Node) → nodes ≡ before ++ rest → length before ≡ k → (s : State) → IsRunFrom nodes header s (steps_of k rest)
  steps_run k before [] e f s = tt
  steps_run k before (n ∷ rest) e f s =
      by_atom (λ s. steps_run (suc k) (before ++ n ∷ []) rest (e ∙ sym (append_assoc before (n ∷ []) rest)) (omega (arith, f, length_push before n)) s)
      (is_atom n) refl
    where
      inside : k < length nodes
      inside = omega (arith, f, ap length e, length-append before (n ∷ rest))

      at : slice_index_or nodes k (Const false) ≡ n
      at = rw (e, sym f) (get_or-append_seam before n rest (Const false))

      by_atom : ((s : State) → IsRunFrom nodes header s (steps_of (suc k) rest)) → (t : Bool) → is_atom n ≡ t
          → IsRunFrom nodes header s (cond t (steps_of (suc k) rest) (step k ∷ steps_of (suc k) rest))
      by_atom go true x = go s
      by_atom go false x = ((inside, ap is_atom at ∙ x), go (after_event nodes s (step k)))

  -- and leave whether the end came
  steps_leave : (k : ℕ) (rest : List Node) (s : State) → (state_from nodes s (steps_of k rest)).closed ≡ s.closed
  steps_leave k [] s = refl
  steps_leave k (n ∷ rest) s =
      elim (is_atom n) as (λ t. (state_from nodes s (cond t (steps_of (suc k) rest) (step k ∷ steps_of (suc k) rest))).closed ≡ s.closed) [
        | true ↦ steps_leave (suc k) rest s
        | false ↦ steps_leave (suc k) rest (after_event nodes s (step k))
      ]

  takes_run : (s : State) (n : ℕ) → IsRunFrom nodes header s (takes n)
  takes_run s zero = tt
  takes_run s (suc n) = (tt, takes_run s n)

  -- an event that may come, and the steps
  run_steps : (each : List Event) (e : Event) → IsRun nodes header each → MayCome nodes header (state_from nodes initial each) e
      → IsRun nodes header (each ++ e ∷ steps_of 0 nodes)
  run_steps each e run may =
      run_append nodes header initial each (e ∷ steps_of 0 nodes) run
      (may, steps_run 0 [] nodes refl refl (after_event nodes (state_from nodes initial each) e))

  -- n verdicts more are taken
  take_more : (events : List Event) (m n : ℕ) (vs : List Verdict) → IsTaken nodes header events m → Emitted nodes header events (length nodes - 1) vs
      → m + n ≤ length vs → IsTaken nodes header (events ++ takes n) (m + n)
  take_more events m zero vs t em h =
      subst (λ l. IsTaken nodes header l (m + 0)) (sym (append-nil events)) (subst (λ k. IsTaken nodes header events k) (omega arith) t)
  take_more events m (suc n) vs t em h =
      subst (λ l. IsTaken nodes header l (m + suc n)) (append_assoc events (taken ∷ []) (takes n))
      (subst (λ k. IsTaken nodes header ((events ++ taken ∷ []) ++ takes n) k) (omega arith)
      (take_more (events ++ taken ∷ []) (suc m) n vs (next vs em (omega (arith, h)) t)
      (no_more_by_take nodes header events (length nodes - 1) vs em) (omega (arith, h))))

  -- after an event, the steps and takes, all that the root gave out was taken
  pub record HasPassed (each : List Event) (e : Event) : Type 0 where
    -- so many takes
    pub made : ℕ
    -- nothing is left
    pub emptied : IsEmptied nodes header (each ++ pass_of e nodes made)
    -- and all this may come
    pub run : IsRun nodes header (each ++ pass_of e nodes made)

  -- so it is where the root's list is there
  passed : (each : List Event) (e : Event) → e ≢ taken → IsRun nodes header each → MayCome nodes header (state_from nodes initial each) e
      → IsEmptied nodes header each → (vs : List Verdict) → Emitted nodes header (each ++ e ∷ steps_of 0 nodes) (length nodes - 1) vs → HasPassed each e
  passed each e ne run may x vs em =
      let path : (each ++ e ∷ steps_of 0 nodes) ++ takes (length vs - x.taken) ≡ each ++ pass_of e nodes (length vs - x.taken) =
      append_assoc each (e ∷ steps_of 0 nodes) (takes (length vs - x.taken)) in
      let first = taken_on nodes header each (e ∷ steps_of 0 nodes) x.taken
      (All-cons (λ (e : Event). e ≢ taken) e (steps_of 0 nodes) ne (steps_others nodes header 0 nodes)) x.is_taken in
      let few = taken_within nodes header first vs em in
      let all : x.taken + (length vs - x.taken) ≡ length vs = omega (arith, few) in
      record {
        made = length vs - x.taken;
        emptied = subst (λ l. IsEmptied nodes header l) path (record {
          taken = x.taken + (length vs - x.taken);
          is_taken = take_more (each ++ e ∷ steps_of 0 nodes) x.taken (length vs - x.taken) vs first em (omega (arith, all));
          emitted = vs;
          is_emitted = emitted_takes nodes header (length nodes - 1) (each ++ e ∷ steps_of 0 nodes) (length vs - x.taken) vs em;
          all = all;
        });
        run = subst (λ l. IsRun nodes header l) path
            (run_append nodes header initial (each ++ e ∷ steps_of 0 nodes) (takes (length vs - x.taken)) (run_steps each e run may)
            (takes_run (state_from nodes initial (each ++ e ∷ steps_of 0 nodes)) (length vs - x.taken)));
      }

module _ (nodes : List Node) (header : Header) (order : IsPostOrder nodes) (rows : List Row) (ended : Bool) (events : List Event)
    (driven : IsDriven nodes header rows ended events) (run : IsRun nodes header events) (some : rows ≢ []) where
  abbrev at : List Event → State
  at es = state_from nodes initial es

  abbrev all_rows : Trace
  all_rows = record { header = header; rows = rows }

  rows_are : (at events).rows ≡ rows
  rows_are = (driven_at nodes header driven).rows_are

  module _ (i : ℕ) (l : i < length nodes) where
    abbrev front : ℤ
    front = front_at ended (pos (last_time 0 rows)) (subformula nodes i)

    front_is : (at events).fronts i ≡ Some front
    unfolding state
    front_is = fronts_are_times nodes header rows ended events i order driven some l

    -- the rows are those of a trace
    pub is_trace : IsTrace all_rows
    unfolding state
    is_trace =
        let bound = within_horizon nodes header order events run i front l front_is in
        subst (λ r. IsTrace (record { header = header; rows = r })) rows_are
        (trace_so_far header (at events) bound.last (rows_came nodes header events run) bound.is_last)

    -- what was given out leads to what is shown, in as few spans as may be
    leads : (vs : List Verdict) → Emitted nodes header events i vs
        → (ws : List Verdict) × LeadTo nodes header order i l all_rows is_trace None (shown (at events) i) ws
    unfolding state
    leads vs em = by_front (shown (at events) i) refl (emitted_tiles nodes header order events run i l vs em)
      where
        told : AreTold (subformula nodes i) all_rows vs
        told =
            emitted_stays nodes header order events run i l vs em all_rows is_trace
            (subst (λ r. Continues all_rows header r (at events).closed) (sym rows_are) (goes_on_itself header rows (at events).closed))

        by_front : (o : Front) → shown (at events) i ≡ o → IsWhole (first_time (at events).rows) o vs
            → (ws : List Verdict) × LeadTo nodes header order i l all_rows is_trace None o ws
        by_front None e none = ([], refl)
        by_front (Some f) e tiles =
            fewest (subformula nodes i) all_rows (answered_to (first_time rows) None) vs (answered_to (first_time rows) (Some f))
            (subst (λ r. AreTiles (answered_to (first_time r) None) vs (answered_to (first_time r) (Some f))) rows_are tiles) told

    -- a run of no more rows shows no more
    shows_less : (each : List Event) → IsRun nodes header each → Continues all_rows header (at each).rows (at each).closed
        → ((at each).closed ≡ true → ended ≡ true) → NeverLess (shown (at each) i) (shown (at events) i)
    unfolding state
    shows_less each run' goes closes g x =
        (front, front_shown (at events) i front front_is (subst (λ r. pos (first_time r) ≤ℤ front) (sym rows_are) from), up)
      where
        up : g ≤ℤ front
        up = by_end ended refl (at each).closed refl
          where
            bound : IsBounded (at each) (horizon (subformula nodes i)) g
            bound = within_horizon nodes header order each run' i g l (shown_is nodes header order (at each) i g x).0

            last : pos (last_time 0 (at each).rows) ≡ bound.last
            last = last_is (at each) bound.last bound.is_last

            later : last_time 0 (at each).rows ≤ last_time 0 rows
            later = last_no_later (length header.columns) (at each).rows goes.more rows goes.begins is_trace.rows

            by_end : (e : Bool) → ended ≡ e → (c : Bool) → (at each).closed ≡ c
                → g ≤ℤ front_at e (pos (last_time 0 rows)) (subformula nodes i)
            by_end true e c d = let now = bound.by_now in omega (arith, ints, now, last, later)
            by_end false e false d = let ahead = bound.ahead d in omega (arith, ints, ahead, last, later)
            by_end false e true d = absurd (let k : true ≡ false = sym (closes d) ∙ e in cc)

        from : pos (first_time rows) ≤ℤ front
        from =
            let k = shown_from nodes header order i l all_rows is_trace (at each) g goes (sound_of nodes header order each run') x in
            omega (arith, ints, k, up)

    -- what the node gave out in the driven run has what it gives out in a run of no more rows
    pub is_given : (each : List Event) → IsRun nodes header each → Continues all_rows header (at each).rows (at each).closed
        → ((at each).closed ≡ true → ended ≡ true) → (vs : List Verdict) → Emitted nodes header events i vs
        → (fine : List Verdict) × Emitted nodes header each i fine
    unfolding state
    is_given each run' goes closes vs em =
        let (ws, leading) = leads vs em in
        gives_out nodes header order i l all_rows is_trace initial each run' (sound_of nodes header order [] tt) goes (shown (at events) i) ws leading
        (shows_less each run' goes closes)

  -- after an event more, and the steps, the rows are those by then, and the end came by then or not
  after_steps : (each : List Event) (e : Event) → ((at (each ++ e ∷ steps_of 0 nodes)).rows ≡ (after_event nodes (at each) e).rows)
      × ((at (each ++ e ∷ steps_of 0 nodes)).closed ≡ (after_event nodes (at each) e).closed)
  after_steps each e =
      let on = state_after nodes header initial each (e ∷ steps_of 0 nodes) in (
        ap (λ (z : State). z.rows) on ∙ sym (rows_stay nodes header 0 nodes (after_event nodes (at each) e)),
        ap (λ (z : State). z.closed) on ∙ steps_leave nodes header 0 nodes (after_event nodes (at each) e),
      )

  -- so a pass may follow a run of no more rows, of which all was taken
  pub pass_follows : 0 < length nodes → (each : List Event) (e : Event) → e ≢ taken → IsRun nodes header each → MayCome nodes header (at each) e
      → IsEmptied nodes header each → Continues all_rows header (after_event nodes (at each) e).rows (after_event nodes (at each) e).closed
      → ((after_event nodes (at each) e).closed ≡ true → ended ≡ true) → HasPassed nodes header each e
  pass_follows has_root each e ne run' may x goes closes =
      let after = after_steps each e in
      let root = driven_emptied nodes header driven in
      let inside : length nodes - 1 < length nodes = omega (arith, has_root) in
      let (vs, em) = is_given (length nodes - 1) inside (each ++ e ∷ steps_of 0 nodes) (run_steps nodes header each e run' may)
      (subst (λ r. Continues all_rows header r (at (each ++ e ∷ steps_of 0 nodes)).closed) (sym after.0)
      (subst (λ c. Continues all_rows header (after_event nodes (at each) e).rows c) (sym after.1) goes))
      (λ c. closes (sym after.1 ∙ c)) root.emitted root.is_emitted in
      passed nodes header each e ne run' may x vs em
