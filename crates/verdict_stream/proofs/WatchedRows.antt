-- The verdicts of a case after one row more, and at the end: from what the network's calls answer to what follows a case.
use Rattle.std.proofs.Common.{◌≡◌, ◌⊎◌, inl, inr, ℕ, ◌<◌, Bool, true, false, List, [], ◌∷◌, ◌++◌}
use Rattle.std.proofs.Common.{length, ◌-◌, ◌≤◌, refl, sym, ap, ◌∙◌, subst, arith, append_assoc, length-append, Some, None}
use Rattle.std.specs.Prelude.{◌≢◌, IfSome, MatchBool}
use Rattle.std.proofs.Math.Seq.{take-append_seam}
use Rattle.stl_syntax.specs.Formula.{Formula, root}
use Rattle.stl_syntax.specs.Scaling.{scaled}
use Rattle.stl_syntax.specs.declared.items.Verdict.{Verdict}
use Rattle.stl_syntax.specs.Trace.{Header, Row, Trace, IsTrace, AreRows, last_time, start}
use Rattle.stl_syntax.specs.Truth.{Truth}
use Rattle.stl_syntax.specs.PostOrder.{IsPostOrder}
use Rattle.stl_syntax.specs.Texts.{AreVerdictLines, start_line}
use Rattle.stl_syntax.proofs.WellFormedLemmas.{root_some}
use Rattle.stl_syntax.proofs.RowsLemmas.{first_to_last}
use Rattle.online_nodes.specs.Network.{Event, row as came, close, node_is_atom, initial, state_from, state, IsRun}
use Rattle.online_nodes.specs.Driven.{rows_of, steps_of, pass_of, most_rows, IsDriven, by_rows, by_end}
use Rattle.online_net.specs.Nets.{Parts, Stands, last_row_of, last_row_after}
use Rattle.trace_stream.specs.Streams.{verdicts, status_of_truth}
use Rattle.trace_stream.specs.Cases.{IsCase}
use Rattle.trace_stream.specs.Kept.{with_rows}
use Rattle.trace_stream.specs.Following.{Follows, IsFollowedOn, IsFollowedOut}
use Rattle.verdict_stream.specs.Watching.{first_truth, IsWatched, CanTake, HasTakenAll}
use Rattle.trace_stream.specs.declared.case.Case.{Case}
use Rattle.verdict_stream.specs.declared.watcher.Network.{Network}
use Rattle.verdict_stream.specs.declared.watcher.Watcher.{Watcher}
use Rattle.verdict_stream.proofs.Passes.{run_split}
use Rattle.verdict_stream.proofs.WatchedRoot.{driven_at, driven_emptied, AreOthers, Passing, passing_of, pass_before, front_after, shown_after}
use Rattle.verdict_stream.proofs.WatchedRoot.{HasPassed, passed_of, StartTold, start_truth, rest_text, rows_told}
use Rattle.verdict_stream.proofs.RowsTogether.{last_of, rows_of_more, rows_give, rows_text}

-- ---- the last row

after_time : (r : Row) (rows : List Row) → (last_row_after r rows).time ≡ last_time r.time rows
after_time r [] = refl
after_time r (q ∷ rows) = after_time q rows

-- a row that may come lies behind the last
pub later_row : (rows : List Row) (r : Row) → (0 < length rows → last_time 0 rows < r.time) → IfSome (last_row_of rows) (λ (l : Row). l.time < r.time)
later_row [] r h = tt
later_row (q ∷ rows) r h = subst (λ n. n < r.time) (sym (after_time q rows)) (h (omega arith))

has_last_row : (rows : List Row) → rows ≢ [] → last_row_of rows ≢ None
has_last_row [] some e = some refl
has_last_row (q ∷ rows) some e = cc

some_row : (width : ℕ) (rows : List Row) → AreRows width rows → rows ≢ []
some_row width [] are e = are
some_row width (q ∷ rows) are e = cc

-- the answer is the formula's truth at the start
abbrev TellsStart : Formula → Trace → Bool → Type 0
TellsStart f tr holds = MatchBool holds (Truth (root f.nodes) tr (start tr)) (¬ Truth (root f.nodes) tr (start tr))

-- a truth tells itself
pub tells : (holds : Bool) (A : Type 0) → MatchBool holds A (¬ A) → ((status_of_truth holds ≡ 0) × A) ⊎ ((status_of_truth holds ≡ 1) × (¬ A))
tells true A h = inl (refl, h)
tells false A h = inr (refl, h)

-- the path of the text at the end
end_path : (old mid new grown line : List ℕ) → mid ≡ old ++ grown → new ≡ mid ++ line → new ≡ old ++ (grown ++ line)
end_path old mid new grown line e f = f ∙ ap (λ t. t ++ line) e ∙ append_assoc old grown line

module _ (v : Watcher) (c : Case) (w : IsWatched false v c) where
  order : IsPostOrder c.formula.nodes
  order = w.stands.holds.formed.post_order

  some_node : 0 < length c.formula.nodes
  some_node = root_some c.formula.nodes w.stands.holds.one_root

  -- a row has as many values as the network's columns
  pub fits_width : length c.trace.header.columns ≡ v.network.net.bound.width
  fits_width = sym w.stands.holds.bound.width

  -- the network's last row is that of the case
  pub last_is : v.network.net.last ≡ last_row_of c.trace.rows
  unfolding state
  last_is = w.stands.holds.last ∙ ap last_row_of (driven_at c.formula.nodes c.trace.header w.driven).rows_are

  -- the end may come
  pub may_end : IsTrace c.trace → v.network.net.last ≢ None
  may_end t e = has_last_row c.trace.rows (some_row (length c.trace.header.columns) c.trace.rows t.rows) (sym last_is ∙ e)

  -- each node has its place among the operators
  pub places : (net : Parts) (events : List Event) → Stands c.formula.nodes c.trace.header net events → length net.operators ≡ length v.network.formula.nodes
  places net events st = st.holds.operators ∙ ap (λ (f : Formula). length f.nodes) (sym w.formula)

  -- where the root of the network's formula is an atom, that of the case's is
  pub atom_here : node_is_atom v.network.formula.nodes (length v.network.formula.nodes - 1) ≡ true
      → node_is_atom c.formula.nodes (length c.formula.nodes - 1) ≡ true
  atom_here e = ap (λ (f : Formula). node_is_atom f.nodes (length f.nodes - 1)) (sym w.formula) ∙ e

  -- the network after some events and the steps
  pub steps_stand : (more : List Event) (fed mid : Parts) → Stands c.formula.nodes c.trace.header fed (w.events ++ more)
      → ((header : Header) (events : List Event) → Stands v.network.formula.nodes header fed events
      → Stands v.network.formula.nodes header mid (events ++ steps_of 0 v.network.formula.nodes))
      → Stands c.formula.nodes c.trace.header mid ((w.events ++ more) ++ steps_of 0 c.formula.nodes)
  steps_stand more fed mid st step =
      subst (λ (f : Formula). Stands f.nodes c.trace.header mid ((w.events ++ more) ++ steps_of 0 f.nodes)) w.formula
      (step c.trace.header (w.events ++ more) (subst (λ (f : Formula). Stands f.nodes c.trace.header fed (w.events ++ more)) (sym w.formula) st))

  -- what the root gives out at some events and the steps
  pub passing : (more : List Event) (net : Parts) → AreOthers more
      → Stands c.formula.nodes c.trace.header net ((w.events ++ more) ++ steps_of 0 c.formula.nodes)
      → Passing c.formula.nodes c.trace.header w.events more w.emitted
  passing more net others st =
      passing_of c.formula.nodes c.trace.header more w.emitted st.shows.root.emitted others
      (driven_emptied c.formula.nodes c.trace.header w.driven) w.is_emitted st.shows.root.is_emitted

  -- so what the root gave out can be taken
  pub can_take : (more : List Event) (x : Passing c.formula.nodes c.trace.header w.events more w.emitted) (mid : Network)
      → Stands c.formula.nodes c.trace.header mid.net ((w.events ++ more) ++ steps_of 0 c.formula.nodes) → mid.start ≡ v.network.start
      → CanTake (pass_before c.formula.nodes c.trace.header w.events more x.first x.beyond) mid
  can_take more x mid st same = record {
    stands = st;
    given = x.given;
    taken = x.taken_first;
    start = same ∙ w.start ∙ sym x.truth ∙ sym (ap first_truth (take-append_seam x.first x.beyond));
  }

  -- the lines are in the ticks of the header
  lines_of : (f : Formula) (after : Network) (beyond : List Verdict) (grown : List ℕ) → IsCase f c → after.formula ≡ v.network.formula
      → AreVerdictLines after.formula.scale beyond grown → AreVerdictLines c.trace.header.scale beyond grown
  lines_of f after beyond grown is same lines =
      subst (λ (g : Formula). AreVerdictLines g.scale beyond grown) (same ∙ w.formula ∙ is.formula) lines

  -- after rows that come together, where the root is an atom
  pub rows_followed : {made : List ℕ} (rows : List Row) → Follows (λ case text. IsWatched false v case) verdicts c made
      → node_is_atom c.formula.nodes (length c.formula.nodes - 1) ≡ true → 0 < length rows → length rows ≤ most_rows
      → IsRun c.formula.nodes c.trace.header (w.events ++ rows_of rows)
      → (x : Passing c.formula.nodes c.trace.header w.events (rows_of rows) w.emitted) (after : Network) (waiting old new : List ℕ)
      → after.formula ≡ v.network.formula → waiting ≡ []
      → HasTakenAll (pass_before c.formula.nodes c.trace.header w.events (rows_of rows) x.first x.beyond) after old new
      → IsFollowedOn (λ case text. IsWatched false (record v { network = after; lines = waiting }) case) verdicts (with_rows rows c) old new made
  rows_followed {made} rows k atom some few run x after waiting old new same none h =
      let (f, is) = k.fits in
      let l = last_of rows some in
      let p = passed_of c.formula.nodes c.trace.header w.events (rows_of rows) w.emitted x (w.events ++ rows_of l.front) (came l.last)
      (ap (λ rs. w.events ++ rows_of rs) l.is ∙ rows_of_more w.events l.front l.last) after old new h in
      let driven : IsDriven c.formula.nodes c.trace.header (c.trace.rows ++ rows) false
      ((w.events ++ rows_of l.front) ++ pass_of (came l.last) c.formula.nodes p.made) =
      subst (λ rs. IsDriven c.formula.nodes c.trace.header rs false ((w.events ++ rows_of l.front) ++ pass_of (came l.last) c.formula.nodes p.made))
      (append_assoc c.trace.rows l.front (l.last ∷ []) ∙ ap (λ rs. c.trace.rows ++ rs) (sym l.is))
      (by_rows l.front l.last p.made (omega (arith, few, ap length l.is, length-append l.front (l.last ∷ []))) w.driven p.emptied) in
      let given = rows_give c.formula.nodes c.trace.header order some_node atom (state_from c.formula.nodes initial w.events) rows x.beyond x.gives in
      let (grown, lines, longer) = p.lines in (
        grown,
        longer,
        record {
          stands = record {
            formula = same ∙ w.formula;
            horizon = w.horizon;
            events = (w.events ++ rows_of l.front) ++ pass_of (came l.last) c.formula.nodes p.made;
            driven = driven;
            stands = p.stands;
            emitted = x.first ++ x.beyond;
            is_emitted = p.is_emitted;
            start = p.start;
            no_times = w.no_times;
            none_pending = w.none_pending;
            none_waiting = none;
          };
          fits = (f, record { formula = is.formula; bound = is.bound });
          told = rows_told (root c.formula.nodes) c.trace.header c.trace.rows rows made grown k.told
              (rows_text c.formula.nodes c.trace.header order some_node atom (state_from c.formula.nodes initial w.events) c.trace.rows rows
              (front_after (root c.formula.nodes) c.trace.rows) x.beyond grown (driven_at c.formula.nodes c.trace.header w.driven).rows_are
              (shown_after c.formula.nodes c.trace.header order some_node w.driven) refl
              (run_split c.formula.nodes c.trace.header initial w.events (rows_of rows) run).1 given (lines_of f after x.beyond grown is same lines));
        },
      )

  -- at the end the truth at the start is kept, and is so
  pub record IsOut (x : Passing c.formula.nodes c.trace.header w.events (close ∷ []) w.emitted) (after : Network) (old mid : List ℕ) : Type 0 where
    -- the end has passed through all nodes
    pub passed : HasPassed c.formula.nodes c.trace.header w.events close (x.first ++ x.beyond) x.beyond after old mid
    -- the run was driven to its end
    pub driven : IsDriven c.formula.nodes c.trace.header c.trace.rows true (w.events ++ pass_of close c.formula.nodes passed.made)
    -- and the truth at the start is told
    pub truth : StartTold (root c.formula.nodes) c.trace (x.first ++ x.beyond)

  -- the pass at the end leaves that
  pub is_out : (x : Passing c.formula.nodes c.trace.header w.events (close ∷ []) w.emitted) (after : Network) (old mid : List ℕ) → IsTrace c.trace
      → HasTakenAll (pass_before c.formula.nodes c.trace.header w.events (close ∷ []) x.first x.beyond) after old mid → IsOut x after old mid
  is_out x after old mid t h =
      let p = passed_of c.formula.nodes c.trace.header w.events (close ∷ []) w.emitted x w.events close refl after old mid h in
      let any : c.trace.rows ≢ [] = some_row (length c.trace.header.columns) c.trace.rows t.rows in
      let driven : IsDriven c.formula.nodes c.trace.header c.trace.rows true (w.events ++ pass_of close c.formula.nodes p.made) =
      by_end p.made w.driven any p.emptied in
      record {
        passed = p;
        driven = driven;
        truth = start_truth c.formula.nodes c.trace.header order some_node (x.first ++ x.beyond) p.stands.run driven any
            (first_to_last c.trace t) t p.is_emitted;
      }

  -- so a truth is kept
  pub start_kept : (x : Passing c.formula.nodes c.trace.header w.events (close ∷ []) w.emitted) (after : Network) (old mid : List ℕ) → IsOut x after old mid
      → after.start ≢ None
  start_kept x after old mid o e = absurd (let h : Some o.truth.holds ≡ None = sym o.truth.first ∙ sym o.passed.start ∙ e in cc)

  -- after the end, once the line of the start was put
  pub end_followed : {made old mid : List ℕ} {x : Passing c.formula.nodes c.trace.header w.events (close ∷ []) w.emitted} {after : Network}
      → Follows (λ case text. IsWatched false v case) verdicts c made → IsOut x after old mid → (waiting new : List ℕ) (holds : Bool)
      → waiting ≡ [] → IsTrace c.trace → after.formula ≡ v.network.formula → after.start ≡ Some holds → new ≡ mid ++ start_line holds
      → IsFollowedOut (λ case text. IsWatched true (record v { network = after; lines = waiting }) case) verdicts c old new made holds
  end_followed {made} {old} {mid} {x} {after} k o waiting new holds none t same kept line =
      let p = o.passed in
      let (f, is) = k.fits in
      let any : c.trace.rows ≢ [] = some_row (length c.trace.header.columns) c.trace.rows t.rows in
      let (grown, lines, longer) = p.lines in
      let one : o.truth.holds ≡ holds = (let h : Some o.truth.holds ≡ Some holds = sym o.truth.first ∙ sym p.start ∙ kept in cc) in
      let truth : TellsStart c.formula c.trace holds = subst (λ b. TellsStart c.formula c.trace b) one o.truth.truth in (
        grown ++ start_line holds,
        end_path old mid new grown (start_line holds) longer line,
        record {
          ended = record {
            formula = same ∙ w.formula;
            horizon = w.horizon;
            events = w.events ++ pass_of close c.formula.nodes p.made;
            driven = o.driven;
            stands = p.stands;
            emitted = x.first ++ x.beyond;
            is_emitted = p.is_emitted;
            start = p.start;
            no_times = w.no_times;
            none_pending = w.none_pending;
            none_waiting = none;
          };
          told = (
            t.rows,
            (
              made,
              grown,
              start_line holds,
              k.told,
              rest_text c.formula.nodes c.trace.header order some_node p.made x.beyond grown any (first_to_last c.trace t) w.driven o.driven x.gives
                  (lines_of f after x.beyond grown is same lines),
              (holds, truth, refl),
              sym (append_assoc made grown (start_line holds)),
            ),
          );
          verdict = λ g case.
              tells holds (Truth (root (scaled g c.trace.header.scale).nodes) c.trace (start c.trace))
              (subst (λ (h : Formula). TellsStart h c.trace holds) case.formula truth);
        },
      )
