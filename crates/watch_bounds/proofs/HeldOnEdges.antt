-- What a watch holds on all edges together.
use Rattle.std.specs.Prelude.{cond}
use Rattle.std.proofs.Common.{◌≡◌, ◌⊎◌, inl, inr, refl, sym, ap, subst, ◌∙◌, ℕ, suc, ◌+◌, ◌*◌, ◌-◌, ◌<◌, ◌≤◌, Bool, true, false, Some}
use Rattle.std.proofs.Common.{List, [], ◌∷◌, ◌++◌, length, length-append, ℤ, pos, ◌-ℤ◌, ◌≤ℤ◌, arith, append_assoc}
use Rattle.std.proofs.lemmas.Bool.{cases_order}
use Rattle.std.proofs.lemmas.Int.{ints}
use Rattle.std.proofs.lemmas.List.{drop_all}
use Rattle.stl_syntax.specs.Trace.{Header, Row, last_time}
use Rattle.stl_syntax.specs.Formula.{Subformula, subformula, horizon, root}
use Rattle.stl_syntax.specs.PostOrder.{IsPostOrder}
use Rattle.stl_syntax.specs.declared.items.Verdict.{Verdict}
use Rattle.stl_syntax.specs.declared.node.Node.{Node}
use Rattle.stl_syntax.proofs.VerdictsLaw.{alike_length}
use Rattle.online_nodes.specs.Network.{Event, row, State, initial, after_event, state_from, state, node_is_atom, IsRun, IsRunFrom, Emitted}
use Rattle.online_nodes.specs.Needed.{IsRootEdge}
use Rattle.online_nodes.specs.Driven.{rows_of, IsEmptied, IsDriven}
use Rattle.online_nodes.specs.Held.{edge_at, held_at}
use Rattle.online_nodes.specs.StreamedWide.{front_at}
use Rattle.online_nodes.proofs.EmittedLaw.{emitted_alike}
use Rattle.online_nodes.proofs.FrontsLaw.{fronts_are_times}
use Rattle.online_nodes.proofs.RowsLaw.{rows_of as rows_came, AreRowsSoFar}
use Rattle.online_nodes.proofs.StretchLaw.{joined_few}
use Rattle.online_net.specs.Nets.{Parts, Stands}
use Rattle.verdict_stream.proofs.OwedRows.{has_fed}
use Rattle.verdict_stream.proofs.Passes.{state_after, taken_once}
use Rattle.verdict_stream.proofs.WatchedRoot.{driven_at, driven_emptied, rows_at}
use Rattle.bounds.specs.Turns.{rows_within}
use Rattle.bounds.specs.Rests.{verdicts_for_a_row}
use Rattle.bounds.proofs.GivenFew.{within_all}
use Rattle.watch_bounds.specs.Holdings.{total, all_for_a_row, looks_over, last_rows, held_in_all, WatchHoldsFew, WatchOwesFew}
use Rattle.watch_bounds.proofs.Totals.{total_within}
use Rattle.watch_bounds.proofs.LastRows.{among_last, within_more}
use Rattle.watch_bounds.proofs.Edges.{IsReady, edge_few}

-- the edge of the root is empty where all was taken
root_empty : (nodes : List Node) (header : Header) (events : List Event) (held : List Verdict) → IsRootEdge nodes header events held
    → IsEmptied nodes header events → held ≡ []
root_empty nodes header events held edge all =
    let same = taken_once nodes header all.taken edge.is_taken all.is_taken in
    let alike = alike_length edge.emitted all.emitted (emitted_alike nodes header (length nodes - 1) initial events edge.emitted all.emitted
    edge.is_emitted all.is_emitted) in
    let end = all.all in
    edge.is ∙ drop_all edge.taken edge.emitted (omega (arith, same, alike, end))

-- all edges together, where the root's is empty and each other one holds few
together : (nodes : List Node) (header : Header) (events : List Event) (net : Parts) (l : ℤ) (N : ℕ) (st : Stands nodes header net events)
    → IsEmptied nodes header events → IsReady nodes header st.holds.formed.post_order st.holds.one_root events st.run l N
    → held_in_all net.edges ≤ all_for_a_row nodes * suc N
together nodes header events net l N st emptied ready =
    subst (λ n. total (λ i. length (held_at net.edges i)) n ≤ all_for_a_row nodes * suc N) (sym st.holds.edges)
    (total_within (λ i. length (held_at net.edges i)) (λ i. verdicts_for_a_row (subformula nodes i) + 1) (suc N) (length nodes) each)
  where
    each : (i : ℕ) → i < length nodes → length (held_at net.edges i) ≤ (verdicts_for_a_row (subformula nodes i) + 1) * suc N
    each i within = by_place (cases_order i (length nodes - 1))
      where
        by_place : (i ≡ length nodes - 1) ⊎ ((i < length nodes - 1) ⊎ (length nodes - 1 < i))
            → length (held_at net.edges i) ≤ (verdicts_for_a_row (subformula nodes i) + 1) * suc N
        by_place (inl e) =
            let none = root_empty nodes header events (held_at net.edges (length nodes - 1)) st.shows.root emptied in
            let x : length (held_at net.edges i) ≡ 0 = ap (λ j. length (held_at net.edges j)) e ∙ ap length none in
            omega (arith, x)
        by_place (inr (inl h)) =
            let joined = joined_few nodes header st.holds.formed events st.run i within (edge_at net.edges i).joins (held_at net.edges i)
            (st.shows.edges i (omega (arith, h, within))) in
            let few = edge_few nodes header st.holds.formed.post_order st.holds.one_root events st.run l N i within joined.0 joined.1 ready in
            let no_more = joined.2 in
            omega (arith, few, no_more)
        by_place (inr (inr h)) = absurd (omega (arith, h, within))

-- the rows of a run that a stream drove
pub driven_rows : (nodes : List Node) (header : Header) {rows : List Row} {ended : Bool} {events : List Event} → IsDriven nodes header rows ended events
    → (state nodes events).rows ≡ rows
unfolding state
driven_rows nodes header d = (driven_at nodes header d).rows_are

-- where each node of a driven run stands
stands_late : (ended : Bool) (l : ℤ) (p : Subformula) → (l -ℤ pos (horizon p)) ≤ℤ front_at ended l p
stands_late true l p = omega (arith, ints)
stands_late false l p = omega (arith, ints)

pub watch_holds_few : WatchHoldsFew
watch_holds_few v c ended w =
    together nodes header w.events v.watcher.network.net (pos (last_time 0 c.trace.rows)) (last_rows (looks_over (root nodes)) c.trace.rows) w.stands
    (driven_emptied nodes header w.driven) (by_rows c.trace.rows refl)
  where
    nodes : List Node
    nodes = c.formula.nodes

    header : Header
    header = c.trace.header

    order : IsPostOrder nodes
    order = w.stands.holds.formed.post_order

    rows_are : (state nodes w.events).rows ≡ c.trace.rows
    rows_are = driven_rows nodes header w.driven

    by_rows : (rows : List Row) → c.trace.rows ≡ rows
        → IsReady nodes header order w.stands.holds.one_root w.events w.stands.run (pos (last_time 0 c.trace.rows))
        (last_rows (looks_over (root nodes)) c.trace.rows)
    by_rows [] e = inr (λ lo hi. let x = ap length (rows_are ∙ e) in let y = within_all lo hi (state nodes w.events).rows in omega (arith, x, y))
    by_rows (r ∷ rows) e =
        let sorted = subst (AreRowsSoFar (length header.columns)) rows_are (rows_came nodes header w.events w.stands.run) in
        inl (record {
          rows = λ lo hi begin.
              subst (λ l. rows_within lo hi l ≤ last_rows (looks_over (root nodes)) c.trace.rows) (sym rows_are)
              (among_last (length header.columns) (looks_over (root nodes)) c.trace.rows lo hi sorted begin);
          fronts = λ i within no_atom. (
            front_at ended (pos (last_time 0 c.trace.rows)) (subformula nodes i),
            fronts_are_times nodes header c.trace.rows ended w.events i order w.driven
                (λ none. absurd (let x : r ∷ rows ≡ [] = sym e ∙ none in cc)) within,
            stands_late ended (pos (last_time 0 c.trace.rows)) (subformula nodes i),
          );
        })

-- a front of a run is a run
run_front : (nodes : List Node) (header : Header) (s : State) (a b : List Event) → IsRunFrom nodes header s (a ++ b) → IsRunFrom nodes header s a
run_front nodes header s [] b r = tt
run_front nodes header s (e ∷ a) b r = (r.0, run_front nodes header (after_event nodes s e) a b r.1)

-- rows leave the numbers of all nodes but the atoms
rows_leave : (nodes : List Node) (s : State) (rows : List Row) (j : ℕ) → node_is_atom nodes j ≡ false
    → (state_from nodes s (rows_of rows)).fronts j ≡ s.fronts j
rows_leave nodes s [] j e = refl
rows_leave nodes s (r ∷ rows) j e =
    rows_leave nodes (after_event nodes s (row r)) rows j e ∙ ap (λ t. cond t (Some (pos r.time)) (s.fronts j)) e

rows_push : (more : List Row) (r : Row) → rows_of (more ++ r ∷ []) ≡ rows_of more ++ row r ∷ []
rows_push [] r = refl
rows_push (q ∷ more) r = ap (λ l. row q ∷ l) (rows_push more r)

-- the state after rows that no step follows
after_rows : (nodes : List Node) (header : Header) (base events : List Event) (since : List Row) → events ≡ base ++ rows_of since
    → state nodes events ≡ state_from nodes (state nodes base) (rows_of since)
unfolding state
after_rows nodes header base events since e = ap (state_from nodes initial) e ∙ state_after nodes header initial base (rows_of since)

-- and its rows
fed_rows : (nodes : List Node) (header : Header) {before : List Row} {base : List Event} (since : List Row) → IsDriven nodes header before false base
    → (state_from nodes (state nodes base) (rows_of since)).rows ≡ before ++ since
unfolding state
fed_rows nodes header {before} {base} since d = (rows_at nodes header (state nodes base) before since (driven_at nodes header d)).rows_are

pub watch_owes_few : WatchOwesFew
watch_owes_few v c made o =
    together nodes header o.events v.watcher.network.net (pos (last_time 0 o.before)) N o.stands
    (subst (IsEmptied nodes header) (sym events_are) emptied) (by_before o.before refl)
  where
    nodes : List Node
    nodes = c.formula.nodes

    header : Header
    header = c.trace.header

    order : IsPostOrder nodes
    order = o.stands.holds.formed.post_order

    since : List Row
    since = o.more ++ o.last ∷ []

    N : ℕ
    N = last_rows (looks_over (root nodes)) o.before + suc (length o.more)

    base : List Event
    base = o.fed.base

    events_are : o.events ≡ base ++ rows_of since
    events_are =
        o.fed.is ∙ append_assoc base (rows_of o.more) (row o.last ∷ []) ∙ ap (λ l. base ++ l) (sym (rows_push o.more o.last))

    emptied : IsEmptied nodes header (base ++ rows_of since)
    emptied =
        (has_fed nodes header since o.emitted o.stands.shows.root.emitted o.fed.driven o.no_atom o.is_emitted
        (subst (λ es. Emitted nodes header es (length nodes - 1) o.stands.shows.root.emitted) events_are o.stands.shows.root.is_emitted)).emptied

    after : state nodes o.events ≡ state_from nodes (state nodes base) (rows_of since)
    after = after_rows nodes header base o.events since events_are

    rows_are : (state nodes o.events).rows ≡ o.before ++ since
    rows_are = ap (λ (z : State). z.rows) after ∙ fed_rows nodes header since o.fed.driven

    sorted : AreRowsSoFar (length header.columns) o.before
    sorted =
        subst (AreRowsSoFar (length header.columns)) (driven_rows nodes header o.fed.driven)
        (rows_came nodes header base (run_front nodes header initial base (rows_of since) (subst (IsRun nodes header) events_are o.stands.run)))

    size : length since ≡ suc (length o.more)
    size = let x = length-append o.more (o.last ∷ []) in omega (arith, x)

    by_before : (rows : List Row) → o.before ≡ rows
        → IsReady nodes header order o.stands.holds.one_root o.events o.stands.run (pos (last_time 0 o.before)) N
    by_before [] e =
        inr (λ lo hi.
        let x = within_all lo hi (state nodes o.events).rows in
        let y = ap length rows_are in
        let z = length-append o.before since in
        let none = ap length e in
        let k = size in
        omega (arith, x, y, z, none, k))
    by_before (r ∷ rows) e =
        inl (record {
          rows = λ lo hi begin.
              let x = among_last (length header.columns) (looks_over (root nodes)) o.before lo hi sorted begin in
              let y = within_more lo hi o.before since in
              let k = size in
              subst (λ l. rows_within lo hi l ≤ N) (sym rows_are) (omega (arith, x, y, k));
          fronts = λ i within no_atom. (
            front_at false (pos (last_time 0 o.before)) (subformula nodes i),
            ap (λ (z : State). z.fronts i) after ∙ rows_leave nodes (state nodes base) since i no_atom
                ∙ fronts_are_times nodes header o.before false base i order o.fed.driven
                (λ none. absurd (let x : r ∷ rows ≡ [] = sym e ∙ none in cc)) within,
            stands_late false (pos (last_time 0 o.before)) (subformula nodes i),
          );
        })
