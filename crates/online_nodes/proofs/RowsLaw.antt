-- The rows of a run are those of a trace.
use Rattle.std.proofs.Common.{◌≡◌, refl, sym, ℕ, Bool, false, Some, None, List, [], ◌∷◌, ◌++◌, length, ℤ, pos, ◌<ℤ◌, arith}
use Rattle.std.specs.Prelude.{IfSome}
use Rattle.std.proofs.lemmas.Int.{ints}
use Rattle.std.proofs.lemmas.List.{append-nil}
use Rattle.std.proofs.lemmas.Option.{same_Some}
use Rattle.stl_syntax.specs.Trace.{Header, Row, IsTrace, AreRows, Continues, last_time}
use Rattle.stl_syntax.specs.declared.node.Node.{Node}
use Rattle.stl_syntax.proofs.RowsLemmas.{rows-push}
use Rattle.online_nodes.specs.Network.{Event, row, State, last_row, after_event, state_from, initial, state, MayCome, IsRunFrom, IsRun}
use Rattle.online_nodes.proofs.RunLaw.{none_is_none}

-- no row, or those of a trace
abbrev pub AreRowsSoFar : ℕ → List Row → Type 0
AreRowsSoFar width [] = Unit {0}
AreRowsSoFar width (r ∷ rows) = AreRows width (r ∷ rows)

-- a later row more
pushed : (width : ℕ) (rows : List Row) (r : Row) → AreRowsSoFar width rows
    → IfSome (last_row (record { rows = rows; closed = false; fronts = λ i. None })) (λ f. f <ℤ pos r.time) → length r.values ≡ width
    → AreRowsSoFar width (rows ++ r ∷ [])
pushed width [] r h l e = (e, tt)
pushed width (q ∷ rows) r h l e = (h.0, rows-push width q.time rows r h.1 (omega (arith, ints, l)) e)

module _ (nodes : List Node) (header : Header) where
  -- the rows stay those of a trace after an event
  pub rows_after : (s : State) (e : Event) → MayCome nodes header s e → AreRowsSoFar (length header.columns) s.rows
      → AreRowsSoFar (length header.columns) (after_event nodes s e).rows
  rows_after s (row r) may h = pushed (length header.columns) s.rows r h may.1 may.2
  rows_after s _ may h = h

  rows_from : (s : State) (events : List Event) → IsRunFrom nodes header s events → AreRowsSoFar (length header.columns) s.rows
      → AreRowsSoFar (length header.columns) (state_from nodes s events).rows
  rows_from s [] r h = h
  rows_from s (e ∷ events) r h = rows_from (after_event nodes s e) events r.1 (rows_after s e r.0 h)

  -- the rows of a run
  pub rows_of : (events : List Event) → IsRun nodes header events → AreRowsSoFar (length header.columns) (state nodes events).rows
  unfolding state
  rows_of events r = rows_from initial events r tt

-- rows with a last one are a trace
pub trace_so_far : (header : Header) (s : State) (l : ℤ) → AreRowsSoFar (length header.columns) s.rows → last_row s ≡ Some l
    → IsTrace (record { header = header; rows = s.rows })
trace_so_far header s l h e = by_rows s.rows h e
  where
    by_rows : (rows : List Row) → AreRowsSoFar (length header.columns) rows
        → last_row (record { rows = rows; closed = s.closed; fronts = s.fronts }) ≡ Some l → IsTrace (record { header = header; rows = rows })
    by_rows [] h e = absurd (none_is_none l e)
    by_rows (r ∷ rows) h e = record { rows = h }

-- the rows go on from themselves
pub goes_on_itself : (header : Header) (rows : List Row) (ended : Bool) → Continues (record { header = header; rows = rows }) header rows ended
goes_on_itself header rows ended = record { same_header = refl; more = []; begins = sym (append-nil rows); whole_input = λ e. refl }

-- the last row's time, by both names
pub last_is : (s : State) (l : ℤ) → last_row s ≡ Some l → pos (last_time 0 s.rows) ≡ l
last_is s l e = by_rows s.rows e
  where
    by_rows : (rows : List Row) → last_row (record { rows = rows; closed = s.closed; fronts = s.fronts }) ≡ Some l → pos (last_time 0 rows) ≡ l
    by_rows [] e = absurd (none_is_none l e)
    by_rows (r ∷ rows) e = same_Some (pos (last_time r.time rows)) l e
