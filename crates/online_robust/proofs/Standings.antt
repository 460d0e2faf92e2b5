-- A network stands for a past: a new one for no rows, and one that took a row, or the end, for the past with it.
use Rattle.std.proofs.Common.{◌≡◌, ◌≢◌, ◌⊎◌, inl, inr, ℕ, ℤ, suc, zero, ◌-◌, ◌^◌, ◌<◌, ◌≤◌, true, false, List, [], ◌∷◌, ◌++◌}
use Rattle.std.proofs.Common.{length, drop, refl, sym, ap, subst, ◌∙◌, arith, append-nil, Option, Some, None, get_or}
use Rattle.std.specs.Prelude.{Bool, IfNone, IfSome, map, option_map, replicate, slice_get}
use Rattle.std.proofs.lemmas.Bool.{false≢true, cases_eq}
use Rattle.stl_syntax.specs.Trace.{AreRowsAfter, Header, Row, IsTrace, first_time, last_time}
use Rattle.stl_syntax.specs.Formula.{Formula, subformula}
use Rattle.stl_syntax.specs.WellFormed.{IsWellFormed}
use Rattle.stl_syntax.specs.declared.node.Node.{Node}
use Rattle.stl_syntax.specs.declared.node.Node.TheVariants.{Const, Atom as Leaf, Not, And, Or, Implies, Until, Eventually, Always, Since, Once, Historically}
use Rattle.stl_syntax.proofs.RowsLemmas.{last_time-push}
use Rattle.atom_lines.specs.Binding.{Binding, IsBound}
use Rattle.online_nodes.specs.MarginEdges.{AreEmittedParts, IsMarginEdge, IsMarginRootEdge}
use Rattle.online_nodes.specs.Network.{reach_back}
use Rattle.online_nodes.specs.StreamedWide.{IsUnstreamed}
use Rattle.online_nodes.proofs.ReadersLaw.{has_reader}
use Rattle.online_robust.specs.Held.{Edge, Held, edge_at, held_at, no_edge, with_edge, without}
use Rattle.online_robust.specs.Firsts.{AreFirstStations, IsFirstWork}
use Rattle.online_robust.specs.Standing.{Stands}
use Rattle.online_robust.specs.Steps.{back_of, seen_by}
use Rattle.online_robust.specs.Pasts.{Past, with_row, with_end, part_of, shown_of, Gave, IsRest, IsWork}
use Rattle.online_robust.specs.Moving.{last_row_of, last_row_after}
use Rattle.online_robust.specs.Nets.{begun, first_row_of, no_past, AreAllGiven, AreRowsSoFar, CanGoByEnd, CanGoByRow, HasGone, IsFault}
use Rattle.online_robust.specs.Nets.{IsGoFault, IsHeldBy, IsNear, IsTaken, IsTimely, IsWideIn, Keeps, Parts, Passing}
use Rattle.online_robust.specs.Nets.{StandsFor}
use Rattle.online_robust.specs.declared.net.RobustFault.{RobustFault}
use Rattle.online_robust.specs.declared.net.RobustFault.TheVariants.{Wide, Stopped, Closed, Memory}
use Rattle.rational.specs.Rational.{Rational, IsWithin}
use Rattle.rational.proofs.Order.{le_trans}
use Rattle.rational.proofs.Lists.{drop_none}
use Rattle.frac128.specs.Value.{value}
use Rattle.online_robust.specs.Told.{IsTick}
use Rattle.online_robust.specs.declared.line.MarginLine.{MarginLine}
use Rattle.online_robust.specs.declared.line.MarginLine.TheVariants.{Point, Gap}
use Rattle.online_robust.specs.declared.station.Station.{Station}
use Rattle.online_robust.specs.declared.station.Work.{Work}
use Rattle.online_robust.specs.declared.station.Work.TheVariants as W
use Rattle.online_robust.proofs.EdgeTouches.{margin_edge}
use Rattle.online_robust.proofs.RootTaken.{first_and_rest, held_none, line_timely, line_told, shows_next, shows_none, shows_same}

-- ---- a new network

-- an edge of margins in a new network
abbrev none_yet : Edge
none_yet = no_edge

edge_of_new : (n j : ℕ) → get_or (replicate n none_yet) j none_yet ≡ none_yet
edge_of_new zero j = refl
edge_of_new (suc n) zero = refl
edge_of_new (suc n) (suc j) = edge_of_new n j

length_of_new : (n : ℕ) → length (replicate n none_yet) ≡ n
length_of_new zero = refl
length_of_new (suc n) = ap suc (length_of_new n)

module _ (f : Formula) (header : Header) (b : Binding) (bound : IsBound b f header) (formed : IsWellFormed f)
    (streamed : (i : ℕ) (n : Node) → slice_get f.nodes i ≡ Some n → ¬ IsUnstreamed n) (e : Held) (stations : List Station)
    (edges : e.edges ≡ replicate (length f.nodes) no_edge) (start : e.start ≡ None) (first : AreFirstStations f.nodes (length f.nodes) stations) where
  empty : (j : ℕ) → edge_at e j ≡ no_edge
  empty j = ap (λ l. get_or l j no_edge) edges ∙ edge_of_new (length f.nodes) j

  none : (j : ℕ) → held_at e j ≡ []
  none j = ap (λ (x : Edge). x.seen ++ x.fresh) (empty j)

  gave_none : (i : ℕ) → Gave f.nodes header no_past i []
  gave_none i = record { parts = refl; told = refl }

  seen_none : (n : Node) → seen_by n e ≡ []
  seen_none (Const c) = refl
  seen_none (Leaf a) = refl
  seen_none (Not p) = refl
  seen_none (And p q) = refl
  seen_none (Or p q) = refl
  seen_none (Implies p q) = refl
  seen_none (Until p q a c) = refl
  seen_none (Eventually p a c i k) = ap (λ (x : Edge). x.seen) (empty p)
  seen_none (Always p a c i k) = ap (λ (x : Edge). x.seen) (empty p)
  seen_none (Since p q a c) = refl
  seen_none (Once p a c i k) = ap (λ (x : Edge). x.seen) (empty p)
  seen_none (Historically p a c i k) = ap (λ (x : Edge). x.seen) (empty p)

  work_first : (i : ℕ) (n : Node) (w : Work) → IsFirstWork n w → IsWork f.nodes header no_past i n (seen_by n e) w
  work_first i n (W.Const c) h = h
  work_first i n W.Atom h = h
  work_first i n (W.Operator op) h = (h.0, λ tr is c. subst (λ l. Stands n f.nodes i tr None op l) (sym (seen_none n)) (h.1 f.nodes i tr))

  -- a new network stands for no rows
  pub new_stands : StandsFor f.nodes header (record { edges = e; stations = stations; bound = b; last = None; closed = false; stopped = false }) no_past []
  new_stands = record {
    keeps = record {
      streamed = record { some = formed.some; formed = formed.nodes; one_root = formed.root; streamed = streamed };
      scale = f.scale;
      bound = bound;
      rows = tt;
      small = omega arith;
      start = start;
      last = refl;
      closed = refl;
      some = λ h. absurd (false≢true h);
      running = refl;
    };
    shows = record {
      edges = ap length edges ∙ length_of_new (length f.nodes);
      stations = first.count;
      held = λ j r n left found reads. ([], gave_none j, none j);
      root = subst (Gave f.nodes header no_past (length f.nodes - 1)) (sym (none (length f.nodes - 1))) (gave_none (length f.nodes - 1));
      numbers = λ j l. ap (λ (x : Edge). x.number) (empty j);
      works = λ j n st found here. let both = first.first j n st found here in (both.0, work_first j n st.work both.1);
    };
  }

-- ---- rows

last_row-append : (rows : List Row) (r : Row) → last_row_of (rows ++ r ∷ []) ≡ Some r
last_row-append [] r = refl
last_row-append (q ∷ rows) r = ap Some (by_rest q rows)
  where
    by_rest : (q : Row) (rows : List Row) → last_row_after q (rows ++ r ∷ []) ≡ r
    by_rest q [] = refl
    by_rest q (s ∷ rows) = by_rest s rows

first_row-append : (rows : List Row) (r : Row) → option_map (λ (x : Row). x.time) (first_row_of (rows ++ r ∷ [])) ≡ Some (first_time (rows ++ r ∷ []))
first_row-append [] r = refl
first_row-append (q ∷ rows) r = refl

rows_after : (n : ℕ) (q : Row) (rows : List Row) (r : Row) → AreRowsAfter n q.time rows → (last_row_after q rows).time < r.time → length r.values ≡ n
    → AreRowsAfter n q.time (rows ++ r ∷ [])
rows_after n q [] r are lt width = (lt, width, tt)
rows_after n q (s ∷ rows) r are lt width = (are.0, are.1, rows_after n s rows r are.2 lt width)

rows_more : (header : Header) (rows : List Row) (r : Row) → AreRowsSoFar header rows → IfSome (last_row_of rows) (λ q. q.time < r.time)
    → length r.values ≡ length header.columns → IsTrace (record { header = header; rows = rows ++ r ∷ [] })
rows_more header [] r are later width = record { rows = (width, tt) }
rows_more header (q ∷ rows) r are later width =
    record { rows = (are.rows.0, rows_after (length header.columns) q rows r are.rows.1 later width) }

soon : (header : Header) (rows : List Row) → IsTrace (record { header = header; rows = rows }) → AreRowsSoFar header rows
soon header [] is = tt
soon header (q ∷ rows) is = is

-- ---- faults

-- where a node did not go on, the network is stopped
pub fault_stops : (old new : Parts) (p : Passing) (fault : RobustFault) → old.stopped ≡ false → old.closed ≡ false → new.stopped ≡ true → IsGoFault p fault
    → IsFault old new fault
fault_stops old new p (Wide cause) running opened stopped h = (running, opened, stopped)
fault_stops old new p Stopped running opened stopped h = absurd h
fault_stops old new p Closed running opened stopped h = absurd h
fault_stops old new p Memory running opened stopped h = (running, opened, stopped)

-- a refusal of one node is one of the network
pub fault_is_wide : (p : Passing) (fault : RobustFault) → IsGoFault p fault → IsWideIn p.nodes p.header p.old p.new fault
fault_is_wide p (Wide cause) h = h
fault_is_wide p _ h = tt

-- ---- parts

drop_given : (given held : List MarginLine) → drop (length given) (map part_of (given ++ held)) ≡ map part_of held
drop_given [] held = refl
drop_given (x ∷ given) held = drop_given given held

length_map : (xs : List MarginLine) → length xs ≡ length (map part_of xs)
length_map [] = refl
length_map (x ∷ xs) = ap suc (length_map xs)

-- no parts are those of no lines
no_lines : (lines : List MarginLine) → map part_of lines ≡ [] → lines ≡ []
no_lines [] e = refl
no_lines (x ∷ lines) e = absurd (let l = ap length e in omega (arith, l))

-- what follows in no lines is none
none_after : (given held : List MarginLine) → given ++ held ≡ [] → held ≡ []
none_after [] held e = e
none_after (x ∷ given) held e = absurd (let l = ap length e in omega (arith, l))

-- nothing is left of no lines
none_left : (back : Option ℤ) (lines rest : List MarginLine) → lines ≡ [] → IsRest back lines rest → rest ≡ []
none_left None lines rest e is = is ∙ e
none_left (Some limit) lines rest e is = is.1 ∙ drop_none is.0 lines e

-- before the first row no node gave anything out
nothing_given : (nodes : List Node) (header : Header) (past : Past) (i : ℕ) (lines : List MarginLine) → (past.ended ≡ true → past.rows ≢ []) → past.rows ≡ []
    → Gave nodes header past i lines → lines ≡ []
nothing_given nodes header past i lines some none gave =
    no_lines lines (by_end past.ended refl (subst (λ rows. AreEmittedParts (subformula nodes i) header rows past.ended (map part_of lines)) none gave.parts))
  where
    by_end : (ended : Bool) → past.ended ≡ ended → AreEmittedParts (subformula nodes i) header [] ended (map part_of lines) → map part_of lines ≡ []
    by_end true e parts = absurd (some e none)
    by_end false e parts = parts

is_trace : (header : Header) (rows : List Row) → AreRowsSoFar header rows → rows ≢ [] → IsTrace (record { header = header; rows = rows })
is_trace header [] are some = absurd (some refl)
is_trace header (q ∷ rows) are some = are

-- ---- a row, and the end

-- the network may be given the row
pub record IsRowFor (net : Parts) (r : Row) : Type 0 where
  -- it has a value for each column
  pub width : length r.values ≡ net.bound.width
  -- it comes after the last one
  pub later : IfSome net.last (λ q. q.time < r.time)
  -- its time is a tick
  pub small : r.time ≤ 4294967295
  -- the end has not come
  pub opened : net.closed ≡ false

-- the network may come to its end, which is the time of the last row
pub record IsEndFor (net : Parts) (now : ℕ) : Type 0 where
  -- there is one
  pub some : net.last ≢ None
  -- the end has not come
  pub opened : net.closed ≡ false
  -- that is its time
  pub is_now : IfSome net.last (λ q. now ≡ q.time)

module _ (nodes : List Node) (header : Header) (net : Parts) (past : Past) (given : List MarginLine) (stands : StandsFor nodes header net past given) where
  abbrev keeps : Keeps nodes header net past
  keeps = stands.keeps

  -- where no row is kept, no row came, and no start is noted
  pub no_start : net.last ≡ None → net.edges.start ≡ None
  no_start none = keeps.start ∙ by_rows past.rows (sym keeps.last ∙ none)
    where
      by_rows : (rows : List Row) → last_row_of rows ≡ None → option_map (λ (x : Row). x.time) (first_row_of rows) ≡ None
      by_rows [] e = refl
      by_rows (q ∷ rows) e = absurd (let f = e in cc)

  module _ (r : Row) (fits : IsRowFor net r) where
    abbrev pub passing_row : Passing
    passing_row = record { nodes = nodes; header = header; old = past; new = with_row past r; given = given }

    begun_edges : (o : Option Row) → (begun net.edges o r.time).edges ≡ net.edges.edges
    begun_edges None = refl
    begun_edges (Some q) = refl

    begun_start : (begun net.edges net.last r.time).start ≡ Some (first_time (past.rows ++ r ∷ []))
    begun_start = by_rows past.rows keeps.last keeps.start
      where
        by_rows : (rows : List Row) → net.last ≡ last_row_of rows → net.edges.start ≡ option_map (λ (x : Row). x.time) (first_row_of rows)
            → (begun net.edges net.last r.time).start ≡ Some (first_time (rows ++ r ∷ []))
        by_rows [] last start = ap (λ o. (begun net.edges o r.time).start) last
        by_rows (q ∷ rows) last start = ap (λ o. (begun net.edges o r.time).start) last ∙ start

    -- each node may go on by the row
    pub can_row : CanGoByRow passing_row (begun net.edges net.last r.time) net.stations net.bound net.last r
    can_row = (
      record {
        nodes = keeps.streamed;
        next = (sym keeps.closed ∙ fits.opened, inl (r, refl));
        start = begun_start;
        trace = rows_more header past.rows r keeps.rows (subst (λ o. IfSome o (λ q. q.time < r.time)) keeps.last fits.later) (fits.width ∙ keeps.bound.width);
        small = let last = last_time-push 0 past.rows r in omega (arith, last, fits.small);
        shows =
            shows_same nodes header keeps.streamed (λ j. past) given given net.edges
            (begun net.edges net.last r.time) net.stations stands.shows refl (begun_edges net.last);
      },
      record { scale = keeps.scale; bound = keeps.bound; last = keeps.last; new = refl },
    )

    -- so it may with the edges as the call leaves them
    pub row_may : (e : Held) (now : ℕ) → now ≡ r.time → e ≡ begun net.edges net.last now → CanGoByRow passing_row e net.stations net.bound net.last r
    row_may e now same is =
        subst (λ x. CanGoByRow passing_row x net.stations net.bound net.last r) (sym (is ∙ ap (begun net.edges net.last) same)) can_row

    -- once all nodes have gone on by the row the network stands for the rows with it
    pub row_stands : (e : Held) (stations : List Station) (last : Option Row) → last ≡ Some r → HasGone passing_row e stations
        → StandsFor nodes header (record { edges = e; stations = stations; bound = net.bound; last = last; closed = net.closed; stopped = net.stopped })
        (with_row past r) given
    row_stands e stations last same gone = record {
      keeps = record {
        streamed = keeps.streamed;
        scale = keeps.scale;
        bound = keeps.bound;
        rows = soon header (past.rows ++ r ∷ []) can_row.0.trace;
        small = can_row.0.small;
        start = gone.start ∙ sym (first_row-append past.rows r);
        last = same ∙ sym (last_row-append past.rows r);
        closed = fits.opened;
        some = λ h. absurd (false≢true h);
        running = keeps.running;
      };
      shows = gone.shows;
    }

  module _ (now : ℕ) (end : IsEndFor net now) where
    abbrev pub passing_end : Passing
    passing_end = record { nodes = nodes; header = header; old = past; new = with_end past; given = given }

    last_after_time : (q : Row) (rows : List Row) → (last_row_after q rows).time ≡ last_time q.time rows
    last_after_time q [] = refl
    last_after_time q (s ∷ rows) = last_after_time s rows

    -- there is a row
    pub record HasRows (rows : List Row) : Type 0 where
      -- the rows are those of a trace
      pub trace : IsTrace (record { header = header; rows = rows })
      -- which starts at the first
      pub start : net.edges.start ≡ Some (first_time rows)
      -- and so far ends at the last
      pub last : now ≡ last_time 0 rows
      -- there is a row
      pub rows_some : rows ≢ []

    has_rows : HasRows past.rows
    has_rows = by_rows past.rows keeps.last keeps.start keeps.rows
      where
        by_rows : (rows : List Row) → net.last ≡ last_row_of rows
            → net.edges.start ≡ option_map (λ (x : Row). x.time) (first_row_of rows) → AreRowsSoFar header rows
            → HasRows rows
        by_rows [] last start are = absurd (end.some last)
        by_rows (q ∷ rows) last start are = record {
          trace = are;
          start = start;
          last = subst (λ o. IfSome o (λ x. now ≡ x.time)) last end.is_now ∙ last_after_time q rows;
          rows_some = λ e. let f = e in cc;
        }

    -- each node may go on to the end
    pub can_end : CanGoByEnd passing_end net.edges net.stations now
    can_end = (
      record {
        nodes = keeps.streamed;
        next = (sym keeps.closed ∙ end.opened, inr refl);
        start = has_rows.start;
        trace = has_rows.trace;
        small = keeps.small;
        shows = stands.shows;
      },
      record { last = has_rows.last; new = refl },
    )

    -- once all nodes have gone on to the end the network stands for the rows and the end
    pub end_stands : (e : Held) (stations : List Station) → HasGone passing_end e stations
        → StandsFor nodes header
        (record { edges = e; stations = stations; bound = net.bound; last = net.last; closed = true; stopped = net.stopped }) (with_end past) given
    end_stands e stations gone = record {
      keeps = record {
        streamed = keeps.streamed;
        scale = keeps.scale;
        bound = keeps.bound;
        rows = keeps.rows;
        small = keeps.small;
        start = gone.start ∙ sym has_rows.start ∙ keeps.start;
        last = keeps.last;
        closed = refl;
        some = λ h. has_rows.rows_some;
        running = keeps.running;
      };
      shows = gone.shows;
    }

-- ---- what is taken, and what is held

module _ (nodes : List Node) (header : Header) (net : Parts) (past : Past) (given : List MarginLine) (stands : StandsFor nodes header net past given) where
  abbrev keeping : Keeps nodes header net past
  keeping = stands.keeps

  abbrev last_node : ℕ
  last_node = length nodes - 1

  root_within : last_node < length net.edges.edges
  root_within = let some = keeping.streamed.some in let count = stands.shows.edges in omega (arith, some, count)

  root_is : length net.stations - 1 ≡ last_node
  root_is = let count = stands.shows.stations in omega (arith, count)

  keeps_edges : (e : Held) → e.start ≡ net.edges.start → Keeps nodes header (record net { edges = e }) past
  keeps_edges e same = record {
    streamed = keeping.streamed;
    scale = keeping.scale;
    bound = keeping.bound;
    rows = keeping.rows;
    small = keeping.small;
    start = same ∙ keeping.start;
    last = keeping.last;
    closed = keeping.closed;
    some = keeping.some;
    running = keeping.running;
  }

  -- where the root's edge holds no line, all were given
  parts_of_all : slice_get (held_at net.edges last_node) 0 ≡ None
      → AreEmittedParts (subformula nodes last_node) header past.rows past.ended (map part_of given)
  parts_of_all none =
      (subst (Gave nodes header past last_node) (ap (λ l. given ++ l) (held_none net.edges last_node none) ∙ append-nil given) stands.shows.root).parts

  -- so it is where the next line of the root is none
  pub all_given : (root : ℕ) → root ≡ length net.stations - 1 → IfNone (slice_get (held_at net.edges root) 0) (AreAllGiven nodes header past given net)
  all_given root own = by_line (slice_get (held_at net.edges root) 0) (ap (λ k. slice_get (held_at net.edges k) 0) (own ∙ root_is))
    where
      by_line : (o : Option MarginLine) → o ≡ slice_get (held_at net.edges last_node) 0 → IfNone o (AreAllGiven nodes header past given net)
      by_line None first = record { stands = stands; parts = parts_of_all (sym first) }
      by_line (Some line) first = tt

  -- a take of the root's edge
  pub taken : (root : ℕ) → root ≡ length net.stations - 1 → (e : Held) → e.edges ≡ with_edge net.edges root (without 1 (edge_at net.edges root))
      → e.start ≡ net.edges.start → (o : Option MarginLine) → o ≡ slice_get (held_at net.edges root) 0
      → IsTaken nodes header past given (record net { edges = e }) o
  taken root own e edges start o first =
      by_line o (subst (λ k. o ≡ slice_get (held_at net.edges k) 0) (own ∙ root_is) first)
      (subst (λ k. e.edges ≡ with_edge net.edges k (without 1 (edge_at net.edges k))) (own ∙ root_is) edges)
    where
      by_line : (o : Option MarginLine) → o ≡ slice_get (held_at net.edges last_node) 0
          → e.edges ≡ with_edge net.edges last_node (without 1 (edge_at net.edges last_node)) → IsTaken nodes header past given (record net { edges = e }) o
      by_line None first edges = record {
        stands = record {
          keeps = keeps_edges e start;
          shows = shows_none nodes header keeping.streamed (λ j. past) given given net.edges e net.stations stands.shows (sym first) refl edges;
        };
        parts = parts_of_all (sym first);
      }
      by_line (Some line) first edges =
          let rest : line ∷ drop 1 (held_at net.edges last_node) ≡ held_at net.edges last_node =
          first_and_rest (held_at net.edges last_node) line (sym first) in
          let gave : Gave nodes header past last_node (given ++ line ∷ drop 1 (held_at net.edges last_node)) =
          subst (λ l. Gave nodes header past last_node (given ++ l)) (sym rest) stands.shows.root in record {
            stands = record {
              keeps = keeps_edges e start;
              shows =
                  shows_next nodes header keeping.streamed (λ j. past) given
                  (given ++ line ∷ []) net.edges e net.stations stands.shows root_within line (sym first) refl edges;
            };
            timely = line_timely nodes header past last_node given (drop 1 (held_at net.edges last_node)) line gave keeping.rows;
            told = line_told nodes header past last_node given (drop 1 (held_at net.edges last_node)) line gave;
          }

  -- then it stands for the past, of which so much was given
  pub taken_stands : (new : Parts) (o : Option MarginLine) → IsTaken nodes header past given new o
      → (more : List MarginLine) × StandsFor nodes header new past more
  taken_stands new None h = (given, h.stands)
  taken_stands new (Some line) h = (given ++ line ∷ [], h.stands)

  -- the times of a line that is given
  pub taken_near : (new : Parts) (o : Option MarginLine) → IsTaken nodes header past given new o → IfSome o IsNear
  taken_near new None h = tt
  taken_near new (Some line) h = near line h.timely
    where
      within : (t : Rational) → IsTick t → IsWithin (2 ^ 34) t
      within t tick = (le_trans (record { le = omega arith }) tick.0, le_trans tick.1 (record { le = omega arith }))

      near : (x : MarginLine) → IsTimely x → IsNear x
      near (Point at v) h = within (value at) h
      near (Gap from to p) h = (within (value from) h.0, within (value to) h.1)

  -- so are those of the next line
  pub next_near : (root : ℕ) → root ≡ length net.stations - 1 → IfSome (slice_get (held_at net.edges root) 0) IsNear
  next_near root own =
      let e : Held = record net.edges { edges = with_edge net.edges root (without 1 (edge_at net.edges root)) } in
      taken_near (record net { edges = e }) (slice_get (held_at net.edges root) 0) (taken root own e refl refl (slice_get (held_at net.edges root) 0) refl)

  -- before the first row an edge holds nothing
  nothing_held : (i : ℕ) → i < length nodes → past.rows ≡ [] → held_at net.edges i ≡ []
  nothing_held i within none = by_place (cases_eq i last_node)
    where
      by_place : (i ≡ last_node) ⊎ (i ≢ last_node) → held_at net.edges i ≡ []
      by_place (inl same) = ap (held_at net.edges) same ∙ none_after given (held_at net.edges last_node)
          (nothing_given nodes header past last_node (given ++ held_at net.edges last_node) keeping.some none stands.shows.root)
      by_place (inr apart) =
          let reader = has_reader nodes keeping.streamed.one_root i within apart in
          let (lines, gave, rest) = stands.shows.held i reader.reader reader.node reader.left reader.at reader.reads in
          none_left (back_of (first_time past.rows) (shown_of nodes past reader.reader) (reach_back reader.node reader.left)) lines (held_at net.edges i)
          (nothing_given nodes header past i lines keeping.some none gave) rest

  -- what an edge holds
  pub held_by : (i : ℕ) → i < length net.stations → IsHeldBy nodes header past (length given) i (length (held_at net.edges i))
  held_by i low =
      (map part_of (held_at net.edges i), length_map (held_at net.edges i), λ none. ap (map part_of) (nothing_held i within none), others, own)
    where
      within : i < length nodes
      within = let count = stands.shows.stations in omega (arith, low, count)

      others : i ≢ last_node → past.rows ≢ [] → IsMarginEdge nodes header past.rows past.ended i (map part_of (held_at net.edges i))
      others apart some =
          let reader = has_reader nodes keeping.streamed.one_root i within apart in
          let (lines, gave, rest) = stands.shows.held i reader.reader reader.node reader.left reader.at reader.reads in
          margin_edge nodes header past (is_trace header past.rows keeping.rows some) i reader.reader reader.node reader.left reader.at reader.reads
          (held_at net.edges i) lines gave rest

      own : i ≡ last_node → IsMarginRootEdge nodes header past.rows past.ended (length given) (map part_of (held_at net.edges i))
      own same = (
        map part_of (given ++ held_at net.edges last_node),
        stands.shows.root.parts,
        sym (drop_given given (held_at net.edges last_node) ∙ ap (λ k. map part_of (held_at net.edges k)) (sym same)),
      )
