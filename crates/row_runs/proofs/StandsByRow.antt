-- The run that a stream drives, and a watch, stand for the run in which each row is followed by a step of every node.
use Rattle.std.proofs.Common.{◌≡◌, inl, inr, refl, sym, ap, subst, ◌∙◌, ℕ, ◌-◌, ◌<◌, Bool, true, false, List, [], ◌∷◌, ◌++◌, length}
use Rattle.std.proofs.Common.{pos, ◌<ℤ◌, arith, append-nil, append_assoc}
use Rattle.std.specs.Prelude.{◌≢◌, IfSome}
use Rattle.std.proofs.lemmas.Int.{ints}
use Rattle.std.proofs.lemmas.List.{drop_all}
use Rattle.std.proofs.lemmas.Option.{slice_get_within}
use Rattle.stl_syntax.specs.Trace.{Header, Row, Continues, AreRows, first_time}
use Rattle.stl_syntax.specs.PostOrder.{IsPostOrder}
use Rattle.stl_syntax.specs.WellFormed.{HasOneRoot}
use Rattle.stl_syntax.specs.declared.items.Verdict.{Verdict}
use Rattle.stl_syntax.specs.declared.node.Node.{Node}
use Rattle.stl_syntax.proofs.RowsLemmas.{row_later}
use Rattle.stl_syntax.proofs.VerdictsLaw.{alike_length}
use Rattle.stl_syntax.proofs.WellFormedLemmas.{root_some}
use Rattle.online_nodes.specs.Network.{Event, Front, row, close, State, last_row, node_is_atom, initial, after_event, state_from, state, shown, reach_back}
use Rattle.online_nodes.specs.Network.{MayCome, IsRunFrom, IsRun, Emitted}
use Rattle.online_nodes.specs.Needed.{AreNeeded, IsJoinedEdge, IsRootEdge}
use Rattle.online_nodes.specs.Driven.{rows_of, pass_of, IsEmptied, IsDriven, nothing as no_rows, by_rows as by_block, by_end as driven_end}
use Rattle.online_nodes.specs.Held.{edge_at, held_at}
use Rattle.online_nodes.specs.Laws.{IsWhole}
use Rattle.online_nodes.proofs.FrameLaw.{one_more}
use Rattle.online_nodes.proofs.RisingLaw.{IsSound, sound_of}
use Rattle.online_nodes.proofs.RowsLaw.{goes_on_itself}
use Rattle.online_nodes.proofs.FrontsLaw.{fronts_are_times}
use Rattle.online_nodes.proofs.EmittedLaw.{emitted_tiles}
use Rattle.online_nodes.proofs.Stretches.{stand_stretches, stretches_whole}
use Rattle.verdict_stream.proofs.Passes.{state_after, run_split, emitted_alike, taken_once}
use Rattle.verdict_stream.proofs.WatchedRoot.{no_row, show, shown_by, IsAfter, rows_at, driven_at, driven_emptied, none_driven}
use Rattle.row_runs.specs.RowByRow.{AreMerged, IsRowByRow, nothing, by_row, by_end, IsEdgeMerged, RunsStandForRows, WatchesStandForRows}
use Rattle.row_runs.proofs.MergedVerdicts.{merged_stretches, needed_of}
use Rattle.row_runs.proofs.Once.{quiet_steps, once_steps, once_rows, once_pass}
use Rattle.row_runs.proofs.MergedOutputs.{GivesMerged, merged_on}
use Rattle.row_runs.proofs.BuiltRuns.{row_width, driven_by_rows, is_trace, is_given, HasPassed, pass_follows}

module _ (nodes : List Node) (header : Header) (order : IsPostOrder nodes) (one : HasOneRoot nodes) where
  abbrev at : List Event → State
  at events = state_from nodes initial events

  -- a run row by row
  record IsBuilt (rows : List Row) (ended : Bool) (each : List Event) : Type 0 where
    run : IsRun nodes header each
    by_rows : IsRowByRow nodes header rows ended each

  built_at : {rows : List Row} {ended : Bool} {each : List Event} → IsBuilt rows ended each → IsAfter nodes header rows ended (at each)
  built_at b = driven_at nodes header (driven_by_rows nodes header b.by_rows)

  -- ---- fronts

  sound : (events : List Event) → IsRun nodes header events → IsSound nodes header order (at events)
  unfolding state
  sound events run = sound_of nodes header order events run

  -- by the rows an atom shows the same
  atom_shown : (i : ℕ) → i < length nodes → node_is_atom nodes i ≡ true → (s t : State) → IsSound nodes header order s → IsSound nodes header order t
      → s.rows ≡ t.rows → shown s i ≡ shown t i
  atom_shown i l x s t h k e =
      shown_by s i (first_time s.rows) (last_row s) refl (h.atoms i l x)
      ∙ ap (λ (r : List Row). show (first_time r) (last_row (record { rows = r; closed = t.closed; fronts = t.fronts }))) e
      ∙ sym (shown_by t i (first_time t.rows) (last_row t) refl (k.atoms i l x))

  -- two runs that the same rows drive have the same numbers
  same_fronts : {rows : List Row} {ended : Bool} {events each : List Event} → IsDriven nodes header rows ended events
      → IsDriven nodes header rows ended each → (i : ℕ) → i < length nodes → (at each).fronts i ≡ (at events).fronts i
  unfolding state
  same_fronts {rows} {ended} {events} {each} d d' i l = by_rows rows refl
    where
      by_rows : (r : List Row) → rows ≡ r → (at each).fronts i ≡ (at events).fronts i
      by_rows [] e = ap (λ es. (at es).fronts i) (none_driven nodes header d' e ∙ sym (none_driven nodes header d e))
      by_rows (q ∷ r) e =
          let some : rows ≢ [] = λ none. (let x = sym e ∙ none in cc) in
          fronts_are_times nodes header rows ended each i order d' some l ∙ sym (fronts_are_times nodes header rows ended events i order d some l)

  same_rows : {rows : List Row} {ended : Bool} {events each : List Event} → IsDriven nodes header rows ended events
      → IsDriven nodes header rows ended each → (at each).rows ≡ (at events).rows
  same_rows d d' = (driven_at nodes header d').rows_are ∙ sym (driven_at nodes header d).rows_are

  same_shown : {rows : List Row} {ended : Bool} {events each : List Event} → IsDriven nodes header rows ended events
      → IsDriven nodes header rows ended each → (i : ℕ) → i < length nodes → shown (at each) i ≡ shown (at events) i
  same_shown {events = events} {each = each} d d' i l =
      shown_by (at each) i (first_time (at events).rows) ((at events).fronts i) (ap first_time (same_rows d d')) (same_fronts d d' i l)
      ∙ sym (shown_by (at events) i (first_time (at events).rows) ((at events).fronts i) refl refl)

  -- ---- rows one by one

  -- a row of a trace may come after those before it
  row_may : (done later : List Row) (q : Row) (s : State) → IsAfter nodes header done false s → AreRows (length header.columns) (done ++ q ∷ later)
      → MayCome nodes header s (row q)
  row_may done later q s at h = (
    at.closed_is,
    subst (λ l. IfSome (last_row (record { rows = l; closed = s.closed; fronts = s.fronts })) (λ f. f <ℤ pos q.time)) (sym at.rows_are) (by_done done h),
    width done h,
  )
    where
      by_done : (l : List Row) → AreRows (length header.columns) (l ++ q ∷ later)
          → IfSome (last_row (record { rows = l; closed = s.closed; fronts = s.fronts })) (λ f. f <ℤ pos q.time)
      by_done [] k = tt
      by_done (r ∷ l) k = let less = row_later (length header.columns) r.time l q later k.1 in omega (arith, ints, less)

      width : (l : List Row) → AreRows (length header.columns) (l ++ q ∷ later) → length q.values ≡ length header.columns
      width [] k = k.0
      width (r ∷ l) k = row_width (length header.columns) r.time l q later k.1

  -- at a row an atom gives out the same, whether a step of every node follows or not
  atom_row : {done : List Row} {each : List Event} (q : Row) (n : ℕ) → IsBuilt done false each
      → IsBuilt (done ++ q ∷ []) false (each ++ pass_of (row q) nodes n) → (i : ℕ) → i < length nodes → node_is_atom nodes i ≡ true → (a : List Event)
      → IsRun nodes header (a ++ row q ∷ []) → (at a).rows ≡ done → GivesMerged nodes header i a each
      → GivesMerged nodes header i (a ++ row q ∷ []) (each ++ pass_of (row q) nodes n)
  atom_row {done} {each} q n b c i l x a run same g =
      let rows_same = (built_at c).rows_are ∙ sym (ap (λ (z : State). z.rows) (one_more nodes header initial a (row q)) ∙ ap (λ k. k ++ q ∷ []) same) in
      let was = atom_shown i l x (at each) (at a) (sound each b.run) (sound a (run_split nodes header initial a (row q ∷ []) run).0)
      ((built_at b).rows_are ∙ sym same) in
      let now = atom_shown i l x (at (each ++ pass_of (row q) nodes n)) (at (a ++ row q ∷ [])) (sound (each ++ pass_of (row q) nodes n) c.run)
      (sound (a ++ row q ∷ []) run) rows_same in
      merged_on nodes header order i l a (row q ∷ []) (a ++ row q ∷ []) each (pass_of (row q) nodes n) (each ++ pass_of (row q) nodes n)
      refl refl run c.run rows_same was now (inr tt) g

  module _ (rows : List Row) (events : List Event) (driven : IsDriven nodes header rows false events) (run : IsRun nodes header events) (some : rows ≢ [])
    where
      -- one row more
      one_row : (done later : List Row) (q : Row) (each : List Event) → rows ≡ done ++ q ∷ later → IsBuilt done false each
          → (n : ℕ) × IsBuilt (done ++ q ∷ []) false (each ++ pass_of (row q) nodes n)
      one_row done later q each e b =
          let at = built_at b in
          let inside = root_some nodes one in
          let trace = is_trace nodes header order rows false events driven run some 0 inside in
          let may = row_may done later q (at_each) at (subst (AreRows (length header.columns)) e trace.rows) in
          let goes : Continues (record { header = header; rows = rows }) header (at_each.rows ++ q ∷ []) at_each.closed = record {
            same_header = refl;
            more = later;
            begins = e ∙ ap (λ l. l ++ q ∷ later) (sym at.rows_are) ∙ sym (append_assoc at_each.rows (q ∷ []) later);
            whole_input = λ c. absurd (let x : false ≡ true = sym at.closed_is ∙ c in cc);
          } in
          let p = pass_follows nodes header order rows false events driven run some inside each (row q) (λ x. (let k = x in cc)) b.run may
          (driven_emptied nodes header (driven_by_rows nodes header b.by_rows)) goes (λ c. sym at.closed_is ∙ c) in
          (p.made, record { run = p.run; by_rows = by_row q p.made b.by_rows p.emptied })
        where
          at_each : State
          at_each = at each

      -- some rows more, one by one; an atom gives out the same as where no step follows them
      record Built (done todo : List Row) (each : List Event) : Type 0 where
        next : List Event
        more : List Event
        is : next ≡ each ++ more
        built : IsBuilt (done ++ todo) false next
        atoms : (i : ℕ) → i < length nodes → node_is_atom nodes i ≡ true → (a : List Event) → IsRun nodes header (a ++ rows_of todo) → (at a).rows ≡ done
            → GivesMerged nodes header i a each → GivesMerged nodes header i (a ++ rows_of todo) next

      rows_built : (done todo later : List Row) (each : List Event) → rows ≡ done ++ (todo ++ later) → IsBuilt done false each → Built done todo each
      rows_built done [] later each e b = record {
        next = each;
        more = [];
        is = sym (append-nil each);
        built = subst (λ r. IsBuilt r false each) (sym (append-nil done)) b;
        atoms = λ i l x a run same g. subst (λ es. GivesMerged nodes header i es each) (sym (append-nil a)) g;
      }
      rows_built done (q ∷ todo) later each e b = built_more (one_row done (todo ++ later) q each e b)
          (λ next c. rows_built (done ++ q ∷ []) todo later next (e ∙ sym (append_assoc done (q ∷ []) (todo ++ later))) c)
        where
          built_more : (n : ℕ) × IsBuilt (done ++ q ∷ []) false (each ++ pass_of (row q) nodes n)
              → ((next : List Event) → IsBuilt (done ++ q ∷ []) false next → Built (done ++ q ∷ []) todo next) → Built done (q ∷ todo) each
          built_more (n, c) go =
              let r = go (each ++ pass_of (row q) nodes n) c in
              record {
                next = r.next;
                more = pass_of (row q) nodes n ++ r.more;
                is = r.is ∙ append_assoc each (pass_of (row q) nodes n) r.more;
                built = subst (λ k. IsBuilt k false r.next) (append_assoc done (q ∷ []) todo) r.built;
                atoms = λ i l x a run' same g.
                    let path = append_assoc a (row q ∷ []) (rows_of todo) in
                    let run_q = subst (λ es. IsRun nodes header es) (sym path) run' in
                    let first = (run_split nodes header initial (a ++ row q ∷ []) (rows_of todo) run_q).0 in
                    let rows_a = ap (λ (z : State). z.rows) (one_more nodes header initial a (row q)) ∙ ap (λ k. k ++ q ∷ []) same in
                    subst (λ es. GivesMerged nodes header i es r.next) path
                    (r.atoms i l x (a ++ row q ∷ []) run_q rows_a (atom_row q n b c i l x a first same g));
              }

  -- ---- the whole run

  record StandsBeside (rows : List Row) (ended : Bool) (events : List Event) : Type 0 where
    each : List Event
    built : IsBuilt rows ended each
    gives : (i : ℕ) → i < length nodes → GivesMerged nodes header i events each

  -- rows that come together, and a step of every node
  block : {rows : List Row} {events : List Event} (more : List Row) (r : Row) (n : ℕ) → IsDriven nodes header rows false events
      → IsDriven nodes header ((rows ++ more) ++ r ∷ []) false ((events ++ rows_of more) ++ pass_of (row r) nodes n)
      → IsRun nodes header ((events ++ rows_of more) ++ pass_of (row r) nodes n) → StandsBeside rows false events
      → StandsBeside ((rows ++ more) ++ r ∷ []) false ((events ++ rows_of more) ++ pass_of (row r) nodes n)
  block {rows} {events} more r n before driven run b = of_last (one_row all new driven run some (rows ++ more) [] r g.next refl g.built)
    where
      all : List Row
      all = (rows ++ more) ++ r ∷ []

      new : List Event
      new = (events ++ rows_of more) ++ pass_of (row r) nodes n

      some : all ≢ []
      some = λ e. no_row (rows ++ more) r e

      g : Built all new driven run some rows more b.each
      g = rows_built all new driven run some rows more (r ∷ []) b.each (append_assoc rows more (r ∷ [])) b.built

      run_rows : IsRun nodes header (events ++ rows_of more) × IsRunFrom nodes header (at (events ++ rows_of more)) (pass_of (row r) nodes n)
      run_rows = run_split nodes header initial (events ++ rows_of more) (pass_of (row r) nodes n) run

      run_before : IsRun nodes header events
      run_before = (run_split nodes header initial events (rows_of more) run_rows.0).0

      of_last : (m : ℕ) × IsBuilt all false (g.next ++ pass_of (row r) nodes m) → StandsBeside all false new
      of_last (m, last) = record { each = g.next ++ pass_of (row r) nodes m; built = last; gives = λ i l. by_atom i l (node_is_atom nodes i) refl }
        where
          next : List Event
          next = g.next ++ pass_of (row r) nodes m

          last_driven : IsDriven nodes header all false next
          last_driven = driven_by_rows nodes header last.by_rows

          rows_then : (at (events ++ rows_of more)).rows ≡ rows ++ more
          rows_then =
              ap (λ (z : State). z.rows) (state_after nodes header initial events (rows_of more))
              ∙ (rows_at nodes header (at events) rows more (driven_at nodes header before)).rows_are

          by_atom : (i : ℕ) → i < length nodes → (t : Bool) → node_is_atom nodes i ≡ t → GivesMerged nodes header i new next
          by_atom i l true x =
              merged_on nodes header order i l (events ++ rows_of more) (pass_of (row r) nodes n) new g.next (pass_of (row r) nodes m) next refl refl
              run last.run
              (same_rows driven last_driven)
              (atom_shown i l x (at g.next) (at (events ++ rows_of more)) (sound g.next g.built.run) (sound (events ++ rows_of more) run_rows.0)
              ((built_at g.built).rows_are ∙ sym rows_then))
              (same_shown driven last_driven i l)
              (inr (quiet_steps nodes header i 0 nodes n (after_event nodes (at (events ++ rows_of more)) (row r)) run_rows.1.1
              (λ j h a e. (let y : true ≡ false = sym x ∙ ap (node_is_atom nodes) e ∙ a in cc))))
              (g.atoms i l x events run_rows.0 (driven_at nodes header before).rows_are (b.gives i l))
          by_atom i l false x =
              let whole : new ≡ events ++ (rows_of more ++ pass_of (row r) nodes n) = append_assoc events (rows_of more) (pass_of (row r) nodes n) in
              let whole' : next ≡ b.each ++ (g.more ++ pass_of (row r) nodes m) =
              ap (λ k. k ++ pass_of (row r) nodes m) g.is ∙ append_assoc b.each g.more (pass_of (row r) nodes m) in
              let from = (run_split nodes header initial events (rows_of more ++ pass_of (row r) nodes n) (subst (λ es. IsRun nodes header es) whole run)).1 in
              merged_on nodes header order i l events (rows_of more ++ pass_of (row r) nodes n) new b.each (g.more ++ pass_of (row r) nodes m) next whole whole'
              run last.run (same_rows driven last_driven)
              (same_shown before (driven_by_rows nodes header b.built.by_rows) i l)
              (same_shown driven last_driven i l)
              (once_rows nodes header i order l x more (pass_of (row r) nodes n) (at events) from (sound events run_before)
              (λ s run h. once_pass nodes header i order l x r n s run h))
              (b.gives i l)

  -- the end, and a step of every node
  ending : {rows : List Row} {events : List Event} (n : ℕ) → rows ≢ [] → IsDriven nodes header rows false events
      → IsDriven nodes header rows true (events ++ pass_of close nodes n) → IsRun nodes header (events ++ pass_of close nodes n)
      → StandsBeside rows false events → StandsBeside rows true (events ++ pass_of close nodes n)
  ending {rows} {events} n some before driven run b = record {
    each = b.each ++ pass_of close nodes p.made;
    built = last;
    gives = λ i l.
        merged_on nodes header order i l events (pass_of close nodes n) (events ++ pass_of close nodes n) b.each (pass_of close nodes p.made)
        (b.each ++ pass_of close nodes p.made) refl refl run last.run (same_rows driven (driven_by_rows nodes header last.by_rows))
        (same_shown before (driven_by_rows nodes header b.built.by_rows) i l) (same_shown driven (driven_by_rows nodes header last.by_rows) i l)
        (inl (refl, once_steps nodes header i 0 nodes n (after_event nodes (at events) close) run_end.1.1)) (b.gives i l);
  }
    where
      run_end : IsRun nodes header events × IsRunFrom nodes header (at events) (pass_of close nodes n)
      run_end = run_split nodes header initial events (pass_of close nodes n) run

      same : (at b.each).rows ≡ (at events).rows
      same = same_rows before (driven_by_rows nodes header b.built.by_rows)

      goes : Continues (record { header = header; rows = rows }) header (at b.each).rows true
      goes =
          subst (λ k. Continues (record { header = header; rows = rows }) header k true) (sym (built_at b.built).rows_are) (goes_on_itself header rows true)

      may : MayCome nodes header (at b.each) close
      may = (
        (built_at b.built).closed_is,
        λ none. run_end.1.0.1 (sym (ap (λ k. last_row (record { rows = k; closed = (at events).closed; fronts = (at events).fronts })) same) ∙ none),
      )

      p : HasPassed nodes header b.each close
      p = pass_follows nodes header order rows true (events ++ pass_of close nodes n) driven run some (root_some nodes one) b.each close
          (λ x. (let k = x in cc)) b.built.run may (driven_emptied nodes header (driven_by_rows nodes header b.built.by_rows)) goes (λ c. refl)

      last : IsBuilt rows true (b.each ++ pass_of close nodes p.made)
      last = record { run = p.run; by_rows = by_end p.made b.built.by_rows some p.emptied }

  beside : {rows : List Row} {ended : Bool} {events : List Event} → IsDriven nodes header rows ended events → IsRun nodes header events
      → StandsBeside rows ended events
  beside no_rows run = record {
    each = [];
    built = record { run = tt; by_rows = nothing };
    gives = λ i l vs ws em en. subst (λ k. AreMerged ws k) (sym em) en;
  }
  beside (by_block {rows = rows} {events = events} more r n few before emptied) run =
      block more r n before (by_block more r n few before emptied) run
      (beside before (run_split nodes header initial events (rows_of more)
      (run_split nodes header initial (events ++ rows_of more) (pass_of (row r) nodes n) run).0).0)
  beside (driven_end {rows = rows} {events = events} n before some emptied) run =
      ending n some before (driven_end n before some emptied) run (beside before (run_split nodes header initial events (pass_of close nodes n) run).0)

  module _ (rows : List Row) (ended : Bool) (events : List Event) (run : IsRun nodes header events) (driven : IsDriven nodes header rows ended events)
      (b : StandsBeside rows ended events) where
    by_rows_driven : IsDriven nodes header rows ended b.each
    by_rows_driven = driven_by_rows nodes header b.built.by_rows

    given : (i : ℕ) → i < length nodes → (vs : List Verdict) → Emitted nodes header events i vs
        → (ws : List Verdict) × Emitted nodes header b.each i ws × AreMerged ws vs
    given i l vs em = merged (by_rows rows refl)
      where
        merged : (ws : List Verdict) × Emitted nodes header b.each i ws → (ws : List Verdict) × Emitted nodes header b.each i ws × AreMerged ws vs
        merged (ws, en) = (ws, en, b.gives i l vs ws em en)

        by_rows : (k : List Row) → rows ≡ k → (ws : List Verdict) × Emitted nodes header b.each i ws
        by_rows [] e = ([], subst (λ es. Emitted nodes header es i []) (sym (none_driven nodes header by_rows_driven e)) refl)
        by_rows (q ∷ k) e =
            is_given nodes header order rows ended events driven run (λ none. (let x = sym e ∙ none in cc)) i l b.each b.built.run
            (subst (λ r. Continues (record { header = header; rows = rows }) header r (at b.each).closed) (sym (built_at b.built).rows_are)
            (goes_on_itself header rows (at b.each).closed)) (λ c. sym (built_at b.built).closed_is ∙ c) vs em

    edges : (i : ℕ) → i < length nodes → (joins : Bool) (held : List Verdict) → IsJoinedEdge nodes header events joins i held
        → IsEdgeMerged nodes header b.each i held
    unfolding state
    edges i l joins held edge =
        let (ws, en, merged) = given i l edge.emitted edge.is_emitted in
        let stretches = stand_stretches joins edge.stand in
        let n = needed_of (first_time (at b.each).rows) (shown (at b.each) i) ((at b.each).fronts edge.reader) (reach_back edge.reading edge.left) ws
        edge.stretches held (emitted_tiles nodes header order b.each b.built.run i l ws en)
        (moved (λ start shown reader. IsWhole start shown edge.stretches)
        (stretches_whole stretches (first_time (at events).rows) (shown (at events) i)
        (emitted_tiles nodes header order events run i l edge.emitted edge.is_emitted))) (merged_stretches stretches ws merged)
        (moved (λ start shown reader. AreNeeded start shown reader (reach_back edge.reading edge.left) edge.stretches held) edge.is_needed) in
        record {
          parts = n.some;
          edge = record {
            reader = edge.reader;
            reading = edge.reading;
            left = edge.left;
            at_reader = edge.at_reader;
            reads = edge.reads;
            emitted = ws;
            is_emitted = en;
            is_needed = n.needed_is;
          };
          merged = n.merged;
        }
      where
        -- start, front and reader's number are the same in both runs
        moved : (P : ℕ → Front → Front → Type 0) → P (first_time (at events).rows) (shown (at events) i) ((at events).fronts edge.reader)
            → P (first_time (at b.each).rows) (shown (at b.each) i) ((at b.each).fronts edge.reader)
        moved P h =
            let read = same_fronts driven by_rows_driven edge.reader (slice_get_within nodes edge.reader edge.reading edge.at_reader) in
            subst (λ q. P (first_time (at b.each).rows) (shown (at b.each) i) q) (sym read)
            (subst (λ o. P (first_time (at b.each).rows) o ((at events).fronts edge.reader)) (sym (same_shown driven by_rows_driven i l))
            (subst (λ r. P (first_time r) (shown (at events) i) ((at events).fronts edge.reader)) (sym (same_rows driven by_rows_driven)) h))

-- each run that a stream drives stands for the one row by row
pub runs_stand_for_rows : RunsStandForRows
unfolding state
runs_stand_for_rows nodes header order one rows ended events run driven =
    let b = beside nodes header order one driven run in
    let each_driven = driven_by_rows nodes header b.built.by_rows in
    record {
      each = b.each;
      run = b.built.run;
      by_rows = b.built.by_rows;
      rows_are = same_rows nodes header order one driven each_driven;
      closed_is = (driven_at nodes header each_driven).closed_is ∙ sym (driven_at nodes header driven).closed_is;
      numbers = same_fronts nodes header order one driven each_driven;
      given = given nodes header order one rows ended events run driven b;
      edges = edges nodes header order one rows ended events run driven b;
    }

-- where all was taken in both, the root's edge is that of the one and of the other
root_edge : (nodes : List Node) (header : Header) (events each : List Event) (held : List Verdict) → IsRootEdge nodes header events held
    → IsEmptied nodes header events → IsEmptied nodes header each → IsRootEdge nodes header each held
root_edge nodes header events each held edge all other =
    let same = taken_once nodes header all.taken edge.is_taken all.is_taken in
    let alike = alike_length edge.emitted all.emitted
    (emitted_alike nodes header (length nodes - 1) events edge.emitted all.emitted edge.is_emitted all.is_emitted) in
    let end = all.all in
    let last = other.all in
    record {
      taken = other.taken;
      is_taken = other.is_taken;
      emitted = other.emitted;
      is_emitted = other.is_emitted;
      is = edge.is ∙ drop_all edge.taken edge.emitted (omega (arith, same, alike, end)) ∙ sym (drop_all other.taken other.emitted (omega (arith, last)));
    }

-- and so does each watch whose nodes have stepped
pub watches_stand_for_rows : WatchesStandForRows
watches_stand_for_rows v c ended w =
    let nodes = c.formula.nodes in
    let header = c.trace.header in
    let stands = runs_stand_for_rows nodes header w.stands.holds.formed.post_order w.stands.holds.one_root c.trace.rows ended w.events w.stands.run w.driven in
    record {
      stands = stands;
      numbers = λ i l. w.stands.shows.fronts i l ∙ sym (stands.numbers i l);
      edges = λ i l. stands.edges i (omega (arith, l)) (edge_at v.watcher.network.net.edges i).joins (held_at v.watcher.network.net.edges i)
          (w.stands.shows.edges i l);
      root = root_edge nodes header w.events stands.each (held_at v.watcher.network.net.edges (length nodes - 1)) w.stands.shows.root
          (driven_emptied nodes header w.driven) (driven_emptied nodes header (driven_by_rows nodes header stands.by_rows));
    }
