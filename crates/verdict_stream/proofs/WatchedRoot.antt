-- What the root of a network gives out as the rows of a trace come, and at their end: its text, and the truth at the start.
use Rattle.std.proofs.Common.{◌≡◌, inl, inr, ℕ, zero, suc, ◌+◌, ◌-◌, ◌<◌, ◌≤◌, Bool, true, false, List}
use Rattle.std.proofs.Common.{[], ◌∷◌, ◌++◌, length, take, drop, refl, sym, ap, ◌∙◌, subst, arith, append-nil}
use Rattle.std.proofs.Common.{append_assoc, length-append, Some, None, ℤ, pos, ◌-ℤ◌, ◌≤ℤ◌}
use Rattle.std.specs.Prelude.{◌≢◌, All, cond, int_lt, MatchBool}
use Rattle.std.proofs.lemmas.Bool.{false≢true, not-false}
use Rattle.std.proofs.lemmas.Int.{ints}
use Rattle.std.proofs.lemmas.List.Elements.{All-nil, All-cons, All-head, All-tail}
use Rattle.std.proofs.Math.Seq.{drop-append_seam, take-length}
use Rattle.std.proofs.lemmas.Option.{same_Some}
use Rattle.rational.specs.Rational.{Rational, ◌<ʳ◌, whole}
use Rattle.rational.specs.Time.{Precedes}
use Rattle.rational.proofs.Order.{le_trans, le_of_lt, le_of_same, ge_of_same, lt_of_le_of_lt}
use Rattle.frac128.specs.Spans.{interval}
use Rattle.frac128.specs.Value.{value}
use Rattle.stl_syntax.specs.Trace.{Header, Row, Trace, IsTrace, Continues, first_time, last_time, start}
use Rattle.stl_syntax.specs.Formula.{Subformula, root, horizon}
use Rattle.stl_syntax.specs.Truth.{Truth}
use Rattle.stl_syntax.specs.PostOrder.{IsPostOrder}
use Rattle.stl_syntax.specs.Verdicts.{IsTold}
use Rattle.stl_syntax.specs.Texts.{AreVerdictLines}
use Rattle.stl_syntax.specs.Stream.{answered_by, NewText, IsNewText, IsRowsText, IsRestText}
use Rattle.stl_syntax.specs.declared.items.Verdict.{Verdict}
use Rattle.stl_syntax.specs.declared.node.Node.{Node}
use Rattle.stl_syntax.proofs.RowsLemmas.{last_time-push}
use Rattle.stl_syntax.proofs.VerdictsLaw.{alike_length}
use Rattle.online_nodes.specs.Network.{Event, row, step, close, take as taken, is_atom, initial}
use Rattle.online_nodes.specs.Network.{after_event, state_from, state, State, Front, shown, IsRun, Emitted, EmittedFrom}
use Rattle.rational.specs.Places.{begins, ends, Before, Same}
use Rattle.rational.proofs.Tests.{int_not_below}
use Rattle.online_nodes.specs.Driven.{rows_of, steps_of, takes, pass_of, IsEmptied, IsDriven, nothing, by_rows, by_end}
use Rattle.online_nodes.specs.Needed.{IsTaken, none as none_taken, other}
use Rattle.online_nodes.specs.Laws.{AreTiles, AreTold, IsWhole}
use Rattle.online_nodes.specs.StreamedWide.{front_at}
use Rattle.online_nodes.proofs.EmittedLaw.{emitted_tiles, front_shown}
use Rattle.online_nodes.proofs.FrontsLaw.{fronts_are_times}
use Rattle.online_nodes.proofs.RowsLaw.{goes_on_itself}
use Rattle.online_nodes.proofs.RunLaw.{none_is_none}
use Rattle.online_nodes.proofs.StayLaw.{emitted_stays}
use Rattle.online_net.specs.Nets.{Stands}
use Rattle.answer_lines.specs.Appended.{Grew}
use Rattle.verdict_stream.specs.Watching.{first_truth, Pass, HasTakenAll}
use Rattle.verdict_stream.specs.declared.watcher.Network.{Network}
use Rattle.verdict_stream.proofs.Passes.{state_after, parted, rows_stay, emitted_alike, Gives, pass_gives, text_of_given}
use Rattle.verdict_stream.proofs.TakenVerdicts.{first_alike, emitted_takes}

-- events that are no take
abbrev pub AreOthers : List Event → Type 0
AreOthers events = All (λ (e : Event). e ≢ taken) events

-- a list that ends with a row is not empty
pub no_row : (before : List Row) (r : Row) → before ++ r ∷ [] ≡ [] → ⊥
no_row [] r e = cc
no_row (q ∷ before) r e = cc

-- what a front shows where the trace begins
abbrev pub show : ℕ → Front → Front
show b None = None
show b (Some f) = cond (int_lt f (pos b)) None (Some f)

-- what is shown follows from the first time and the front
pub shown_by : (s : State) (i : ℕ) (b : ℕ) (o : Front) → first_time s.rows ≡ b → s.fronts i ≡ o → shown s i ≡ show b o
shown_by s i b o same e = ap (show (first_time s.rows)) e ∙ ap (λ n. show n o) same

-- ---- the run that a stream drives

module _ (nodes : List Node) (header : Header) where
  -- steps are no takes
  pub steps_others : (i : ℕ) (rest : List Node) → AreOthers (steps_of i rest)
  steps_others i [] = All-nil (λ (e : Event). e ≢ taken)
  steps_others i (n ∷ rest) =
      elim (is_atom n) as (λ t. AreOthers (cond t (steps_of (suc i) rest) (step i ∷ steps_of (suc i) rest))) [
        | true ↦ steps_others (suc i) rest
        | false ↦ All-cons (λ (e : Event). e ≢ taken) (step i) (steps_of (suc i) rest) (λ e. let k = e in cc) (steps_others (suc i) rest)
      ]

  -- after other events as many were taken
  pub taken_on : (events more : List Event) (n : ℕ) → AreOthers more → IsTaken nodes header events n → IsTaken nodes header (events ++ more) n
  taken_on events [] n all t = subst (λ l. IsTaken nodes header l n) (sym (append-nil events)) t
  taken_on events (e ∷ more) n all t =
      subst (λ l. IsTaken nodes header l n) (append_assoc events (e ∷ []) more)
      (taken_on (events ++ e ∷ []) more n (All-tail (λ (e : Event). e ≢ taken) e more all) (other e (All-head (λ (e : Event). e ≢ taken) e more all) t))

  -- steps leave whether the end came
  ends_stay : (i : ℕ) (rest : List Node) (s : State) → s.closed ≡ (state_from nodes s (steps_of i rest)).closed
  ends_stay i [] s = refl
  ends_stay i (n ∷ rest) s =
      elim (is_atom n) as (λ t. s.closed ≡ (state_from nodes s (cond t (steps_of (suc i) rest) (step i ∷ steps_of (suc i) rest))).closed) [
        | true ↦ ends_stay (suc i) rest s
        | false ↦ ends_stay (suc i) rest (after_event nodes s (step i))
      ]

  -- takes change nothing
  takes_keep : (s : State) (n : ℕ) → state_from nodes s (takes n) ≡ s
  takes_keep s zero = refl
  takes_keep s (suc n) = takes_keep s n

  -- the state after a pass
  pub after_pass : (events : List Event) (e : Event) (n : ℕ)
      → state_from nodes initial (events ++ pass_of e nodes n) ≡ state_from nodes (state_from nodes initial events) (e ∷ steps_of 0 nodes)
  after_pass events e n =
      state_after nodes header initial events (pass_of e nodes n)
      ∙ state_after nodes header (after_event nodes (state_from nodes initial events) e) (steps_of 0 nodes) (takes n)
      ∙ takes_keep (state_from nodes (after_event nodes (state_from nodes initial events) e) (steps_of 0 nodes)) n

  -- the rows of a state, and whether the end came
  pub record IsAfter (rows : List Row) (ended : Bool) (s : State) : Type 0 where
    -- the run has these rows
    pub rows_are : s.rows ≡ rows
    -- and this end
    pub closed_is : s.closed ≡ ended

  -- rows that come and that no step follows
  pub rows_at : (s : State) (rows more : List Row) → IsAfter rows false s → IsAfter (rows ++ more) false (state_from nodes s (rows_of more))
  rows_at s rows [] at = subst (λ l. IsAfter l false s) (sym (append-nil rows)) at
  rows_at s rows (q ∷ more) at =
      subst (λ l. IsAfter l false (state_from nodes (after_event nodes s (row q)) (rows_of more))) (append_assoc rows (q ∷ []) more)
      (rows_at (after_event nodes s (row q)) (rows ++ q ∷ []) more (record { rows_are = ap (λ l. l ++ q ∷ []) at.rows_are; closed_is = at.closed_is }))

  -- after the run that a stream drives the state has the rows, and the end where it came
  pub driven_at : {rows : List Row} {ended : Bool} {events : List Event} → IsDriven nodes header rows ended events
      → IsAfter rows ended (state_from nodes initial events)
  driven_at nothing = record { rows_are = refl; closed_is = refl }
  driven_at (by_rows {rows = rows} {events = events} more r n few before emptied) =
      let on = state_after nodes header initial events (rows_of more) in
      let at = subst (λ (z : State). IsAfter (rows ++ more) false z) (sym on) (rows_at (state_from nodes initial events) rows more (driven_at before)) in
      let s = state_from nodes initial (events ++ rows_of more) in
      subst (λ (z : State). IsAfter ((rows ++ more) ++ r ∷ []) false z) (sym (after_pass (events ++ rows_of more) (row r) n)) (record {
        rows_are = sym (rows_stay nodes header 0 nodes (after_event nodes s (row r))) ∙ ap (λ l. l ++ r ∷ []) at.rows_are;
        closed_is = sym (ends_stay 0 nodes (after_event nodes s (row r))) ∙ at.closed_is;
      })
  driven_at (by_end {rows = rows} {events = events} n before some emptied) =
      let at = driven_at before in
      subst (λ (z : State). IsAfter rows true z) (sym (after_pass events close n)) (record {
        rows_are = sym (rows_stay nodes header 0 nodes (after_event nodes (state_from nodes initial events) close)) ∙ at.rows_are;
        closed_is = sym (ends_stay 0 nodes (after_event nodes (state_from nodes initial events) close));
      })

  -- and all that the root gave out in it was taken
  pub driven_emptied : {rows : List Row} {ended : Bool} {events : List Event} → IsDriven nodes header rows ended events → IsEmptied nodes header events
  driven_emptied nothing = record { taken = 0; is_taken = none_taken; emitted = []; is_emitted = refl; all = refl }
  driven_emptied (by_rows more r n few before emptied) = emptied
  driven_emptied (by_end n before some emptied) = emptied

  -- without rows no event was driven
  pub none_driven : {rows : List Row} {ended : Bool} {events : List Event} → IsDriven nodes header rows ended events → rows ≡ [] → events ≡ []
  none_driven nothing e = refl
  none_driven (by_rows {rows = rows} more r n few before emptied) e = absurd (no_row (rows ++ more) r e)
  none_driven (by_end n before some emptied) e = absurd (some e)

  -- one row more, which a pass follows at once
  pub by_row : {rows : List Row} {events : List Event} (r : Row) (n : ℕ) → IsDriven nodes header rows false events
      → IsEmptied nodes header (events ++ pass_of (row r) nodes n) → IsDriven nodes header (rows ++ r ∷ []) false (events ++ pass_of (row r) nodes n)
  by_row {rows} {events} r n d x =
      subst (λ l. IsDriven nodes header (l ++ r ∷ []) false (events ++ pass_of (row r) nodes n)) (append-nil rows)
      (subst (λ l. IsDriven nodes header ((rows ++ []) ++ r ∷ []) false (l ++ pass_of (row r) nodes n)) (append-nil events)
      (by_rows [] r n (omega arith) d (subst (λ l. IsEmptied nodes header (l ++ pass_of (row r) nodes n)) (sym (append-nil events)) x)))

  -- ---- a pass

  -- one event that is no take
  pub one_other : (e : Event) → e ≢ taken → AreOthers (e ∷ [])
  one_other e ne = All-cons (λ (e : Event). e ≢ taken) e [] ne (All-nil (λ (e : Event). e ≢ taken))

  -- rows are no takes
  pub rows_others : (more : List Row) → AreOthers (rows_of more)
  rows_others [] = All-nil (λ (e : Event). e ≢ taken)
  rows_others (r ∷ more) = All-cons (λ (e : Event). e ≢ taken) (row r) (rows_of more) (λ e. let k = e in cc) (rows_others more)

  -- what the root had given out before some events and the steps, and what it gave out at them
  pub record Passing (events more : List Event) (emitted : List Verdict) : Type 0 where
    -- what the root gave out before
    pub first : List Verdict
    -- and by this pass
    pub beyond : List Verdict
    -- both together by all events
    pub given : Emitted nodes header ((events ++ more) ++ steps_of 0 nodes) (length nodes - 1) (first ++ beyond)
    -- those before were taken
    pub taken_first : IsTaken nodes header ((events ++ more) ++ steps_of 0 nodes) (length first)
    -- the truth at the start is that of before
    pub truth : first_truth first ≡ first_truth emitted
    -- and the others are given by the pass
    pub gives : EmittedFrom nodes header (length nodes - 1) (state_from nodes initial events) (more ++ steps_of 0 nodes) beyond

  -- of a run whose verdicts were all taken, some events and the steps, what was given out parts so
  pub passing_of : {events : List Event} (more : List Event) (emitted all : List Verdict) → AreOthers more
      → IsEmptied nodes header events → Emitted nodes header events (length nodes - 1) emitted
      → Emitted nodes header ((events ++ more) ++ steps_of 0 nodes) (length nodes - 1) all → Passing events more emitted
  passing_of {events} more emitted all others x was given =
      let same : (events ++ more) ++ steps_of 0 nodes ≡ events ++ (more ++ steps_of 0 nodes) = append_assoc events more (steps_of 0 nodes) in
      let p = parted nodes header (length nodes - 1) initial events (more ++ steps_of 0 nodes) all
      (subst (λ l. Emitted nodes header l (length nodes - 1) all) same given) in
      let size : x.taken ≡ length p.first = x.all
      ∙ alike_length x.emitted p.first (emitted_alike nodes header (length nodes - 1) events x.emitted p.first x.is_emitted p.first_is) in
      record {
        first = p.first;
        beyond = p.beyond;
        given = subst (λ vs. Emitted nodes header ((events ++ more) ++ steps_of 0 nodes) (length nodes - 1) vs) p.is given;
        taken_first = subst (λ n. IsTaken nodes header ((events ++ more) ++ steps_of 0 nodes) n) size
            (taken_on (events ++ more) (steps_of 0 nodes) x.taken (steps_others 0 nodes) (taken_on events more x.taken others x.is_taken));
        truth = first_alike p.first emitted (emitted_alike nodes header (length nodes - 1) events p.first emitted p.first_is was);
        gives = p.beyond_is;
      }

  -- so much was taken before the takes of the pass
  abbrev pub pass_before : (events more : List Event) (first beyond : List Verdict) → Pass
  pass_before events more first beyond = record {
    nodes = nodes;
    header = header;
    events = (events ++ more) ++ steps_of 0 nodes;
    given = first ++ beyond;
    taken = length first;
  }

  -- after the takes
  pub record HasPassed (events : List Event) (e : Event) (given beyond : List Verdict) (v : Network) (old new : List ℕ) : Type 0 where
    -- how many verdicts were taken
    pub made : ℕ
    -- and the root's edge is empty
    pub emptied : IsEmptied nodes header (events ++ pass_of e nodes made)
    -- the network stands for the run
    pub stands : Stands nodes header v.net (events ++ pass_of e nodes made)
    -- the root gave out what was given
    pub is_emitted : Emitted nodes header (events ++ pass_of e nodes made) (length nodes - 1) given
    -- the truth at the start is that of the first of them
    pub start : v.start ≡ first_truth given
    -- and their lines were appended
    pub lines : Grew (AreVerdictLines v.formula.scale beyond) old new

  -- once all was taken the run is driven on, and the lines are of what was given out last
  pub passed_of : (events more : List Event) (emitted : List Verdict) (x : Passing events more emitted) (before : List Event) (e : Event)
      → events ++ more ≡ before ++ e ∷ [] → (v : Network) (old new : List ℕ)
      → HasTakenAll (pass_before events more x.first x.beyond) v old new → HasPassed before e (x.first ++ x.beyond) x.beyond v old new
  passed_of events more emitted x before e parts v old new (n, h, all) =
      let path : ((events ++ more) ++ steps_of 0 nodes) ++ takes n ≡ before ++ pass_of e nodes n =
      append_assoc (events ++ more) (steps_of 0 nodes) (takes n) ∙ ap (λ l. l ++ (steps_of 0 nodes ++ takes n)) parts
      ∙ append_assoc before (e ∷ []) (steps_of 0 nodes ++ takes n) in
      let size : n ≡ length x.beyond = omega (arith, all, length-append x.first x.beyond) in
      let em = emitted_takes nodes header (length nodes - 1) ((events ++ more) ++ steps_of 0 nodes) n (x.first ++ x.beyond) x.given in
      let out : Emitted nodes header (before ++ pass_of e nodes n) (length nodes - 1) (x.first ++ x.beyond) =
      subst (λ l. Emitted nodes header l (length nodes - 1) (x.first ++ x.beyond)) path em in
      let (grown, lines, is) = h.lines in
      record {
        made = n;
        emptied = record {
          taken = length x.first + n;
          is_taken = subst (λ l. IsTaken nodes header l (length x.first + n)) path h.taken;
          emitted = x.first ++ x.beyond;
          is_emitted = out;
          all = all;
        };
        stands = subst (λ l. Stands nodes header v.net l) path h.stands;
        is_emitted = out;
        start = h.start ∙ ap (λ j. first_truth (take j (x.first ++ x.beyond))) all ∙ ap first_truth (take-length (x.first ++ x.beyond));
        lines = (
          grown,
          subst (λ l. AreVerdictLines v.formula.scale l grown) (ap (λ j. take j (drop (length x.first) (x.first ++ x.beyond))) size
              ∙ ap (take (length x.beyond)) (drop-append_seam x.first x.beyond) ∙ take-length x.beyond) lines,
          is,
        );
      }

-- ---- fronts

-- what the root's front shows after rows
abbrev pub front_after : Subformula → List Row → Front
front_after p [] = None
front_after p (r ∷ rows) = answered_by r.time p (last_time r.time rows)

-- the front after one row more
pub front_push : (p : Subformula) (rows : List Row) (r : Row) → front_after p (rows ++ r ∷ []) ≡ answered_by (first_time (rows ++ r ∷ [])) p r.time
front_push p [] r = refl
front_push p (q ∷ rows) r = ap (answered_by q.time p) (last_time-push q.time rows r)

-- where one is shown, it is the last row's time less the horizon
pub front_is : (p : Subformula) (rows : List Row) (g : ℤ) → front_after p rows ≡ Some g → (0 < length rows) × (g ≡ pos (last_time 0 rows) -ℤ pos (horizon p))
front_is p [] g e = absurd (none_is_none g e)
front_is p (r ∷ rows) g e = (omega arith, by_test (int_lt (pos (last_time r.time rows) -ℤ pos (horizon p)) (pos r.time)) e)
  where
    by_test : (t : Bool) → cond t None (Some (pos (last_time r.time rows) -ℤ pos (horizon p))) ≡ Some g
        → g ≡ pos (last_time r.time rows) -ℤ pos (horizon p)
    by_test true x = absurd (none_is_none g x)
    by_test false x = sym (same_Some (pos (last_time r.time rows) -ℤ pos (horizon p)) g x)

-- the first of the verdicts has a truth, which is that at the start of the trace
pub record StartTold (p : Subformula) (tr : Trace) (vs : List Verdict) : Type 0 where
  -- the truth at the start
  pub holds : Bool
  -- it is that of the first verdict
  pub first : first_truth vs ≡ Some holds
  -- and the formula's
  pub truth : MatchBool holds (Truth p tr (start tr)) (¬ Truth p tr (start tr))

first_told : (p : Subformula) (tr : Trace) (v : Verdict) → Same (record { at = start tr; after = false }) (begins (interval v.on))
    → Before (begins (interval v.on)) (ends (interval v.on)) → IsTold p tr v → MatchBool v.holds (Truth p tr (start tr)) (¬ Truth p tr (start tr))
first_told p tr v same before told = told.truth (start tr) (record { above = above; below = by_order before })
  where
    above : Precedes v.on.from_in (value v.on.from) (start tr)
    above = subst (λ i. Precedes i (value v.on.from) (start tr)) (sym (not-false v.on.from_in (sym same.1))) (ge_of_same same.0)

    by_end : (i : Bool) → start tr <ʳ value v.on.to → Precedes i (start tr) (value v.on.to)
    by_end true l = le_of_lt l
    by_end false l = l

    by_order : Before (begins (interval v.on)) (ends (interval v.on)) → Precedes v.on.to_in (start tr) (value v.on.to)
    by_order (inl l) = by_end v.on.to_in (lt_of_le_of_lt (le_of_same same.0) l)
    by_order (inr e) = subst (λ i. Precedes i (start tr) (value v.on.to)) (sym e.2) (le_trans (le_of_same same.0) (le_of_same e.0))

first_of_told : (p : Subformula) (tr : Trace) (to : Rational) (vs : List Verdict)
    → AreTiles (record { at = start tr; after = false }) vs (record { at = to; after = true }) → AreTold p tr vs → StartTold p tr vs
first_of_told p tr to [] tiles told = absurd (false≢true tiles.1)
first_of_told p tr to (v ∷ vs) tiles told = record { holds = v.holds; first = refl; truth = first_told p tr v tiles.0 tiles.1 told.0 }

module _ (nodes : List Node) (header : Header) (order : IsPostOrder nodes) (some : 0 < length nodes) where
  last_front : {rows : List Row} {ended : Bool} {events : List Event} → IsDriven nodes header rows ended events → rows ≢ []
      → (state_from nodes initial events).fronts (length nodes - 1) ≡ Some (front_at ended (pos (last_time 0 rows)) (root nodes))
  unfolding state
  last_front {rows} {ended} {events} d any = fronts_are_times nodes header rows ended events (length nodes - 1) order d any (omega (arith, some))

  -- what the root shows after rows
  pub shown_after : {rows : List Row} {events : List Event} → IsDriven nodes header rows false events
      → shown (state_from nodes initial events) (length nodes - 1) ≡ front_after (root nodes) rows
  shown_after {rows} {events} d = by_rows rows refl
    where
      by_rows : (l : List Row) → rows ≡ l → shown (state_from nodes initial events) (length nodes - 1) ≡ front_after (root nodes) l
      by_rows [] e = subst (λ es. shown (state_from nodes initial es) (length nodes - 1) ≡ None) (sym (none_driven nodes header d e)) refl
      by_rows (q ∷ l) e =
          let any : rows ≢ [] = λ none. absurd (let x : q ∷ l ≡ [] = sym e ∙ none in cc) in
          let begin : first_time (state_from nodes initial events).rows ≡ q.time = ap first_time ((driven_at nodes header d).rows_are ∙ e) in
          shown_by (state_from nodes initial events) (length nodes - 1) q.time (Some (pos (last_time q.time l) -ℤ pos (horizon (root nodes)))) begin
          (last_front d any ∙ ap (λ rs. Some (pos (last_time 0 rs) -ℤ pos (horizon (root nodes)))) e)

  -- and at the end
  pub shown_at_end : {rows : List Row} {events : List Event} → IsDriven nodes header rows true events → rows ≢ []
      → first_time rows ≤ last_time 0 rows → shown (state_from nodes initial events) (length nodes - 1) ≡ Some (pos (last_time 0 rows))
  shown_at_end {rows} {events} d any within =
      let low : pos (first_time rows) ≤ℤ pos (last_time 0 rows) = omega (arith, ints) in
      front_shown (state_from nodes initial events) (length nodes - 1) (pos (last_time 0 rows)) (last_front d any)
      (subst (λ l. pos (first_time l) ≤ℤ pos (last_time 0 rows)) (sym (driven_at nodes header d).rows_are) low)

  -- what the pass at the end gives out is the text of the rest
  pub rest_text : {rows : List Row} {events : List Event} (n : ℕ) (beyond : List Verdict) (text : List ℕ)
      → rows ≢ [] → first_time rows ≤ last_time 0 rows → IsDriven nodes header rows false events
      → IsDriven nodes header rows true (events ++ pass_of close nodes n)
      → EmittedFrom nodes header (length nodes - 1) (state_from nodes initial events) (close ∷ steps_of 0 nodes) beyond
      → AreVerdictLines header.scale beyond text
      → IsRestText (IsNewText (root nodes)) (root nodes) (record { header = header; rows = rows }) text
  rest_text {rows} {events} n beyond text any within d d' gives lines =
      subst (λ o. IsNewText (root nodes) (record { header = header; rows = rows }) o (Some (pos (last_time 0 rows))) text) (by_rows rows any)
      (text_of_given nodes (record { header = header; rows = rows }) (front_after (root nodes) rows) (Some (pos (last_time 0 rows))) beyond text rise
      (subst (λ rs. Gives nodes header (length nodes - 1) (record { header = header; rows = rs }) (front_after (root nodes) rows)
      (Some (pos (last_time 0 rows))) beyond) rows_are
      (subst (λ o. Gives nodes header (length nodes - 1) (record { header = header; rows = (state_from nodes s (close ∷ steps_of 0 nodes)).rows }) o
      (Some (pos (last_time 0 rows))) beyond) (shown_after d)
      (subst (λ o. Gives nodes header (length nodes - 1) (record { header = header; rows = (state_from nodes s (close ∷ steps_of 0 nodes)).rows })
      (shown s (length nodes - 1)) o beyond) new_is (pass_gives nodes header some s close beyond (λ not_atom. refl) gives).gives)))
      lines)
    where
      s : State
      s = state_from nodes initial events

      by_rows : (l : List Row) → l ≢ [] → front_after (root nodes) l ≡ answered_by (first_time l) (root nodes) (last_time 0 l)
      by_rows [] some = absurd (some refl)
      by_rows (q ∷ l) some = refl

      rows_are : (state_from nodes s (close ∷ steps_of 0 nodes)).rows ≡ rows
      rows_are = ap (λ (z : State). z.rows) (sym (after_pass nodes header events close n)) ∙ (driven_at nodes header d').rows_are

      new_is : shown (state_from nodes s (close ∷ steps_of 0 nodes)) (length nodes - 1) ≡ Some (pos (last_time 0 rows))
      new_is = ap (λ (z : State). shown z (length nodes - 1)) (sym (after_pass nodes header events close n)) ∙ shown_at_end d' any within

      rise : (g f : ℤ) → front_after (root nodes) rows ≡ Some g → Some (pos (last_time 0 rows)) ≡ Some f → int_lt f g ≡ false
      rise g f e e' =
          let old_is : g ≡ pos (last_time 0 rows) -ℤ pos (horizon (root nodes)) = (front_is (root nodes) rows g e).1 in
          let new_is : pos (last_time 0 rows) ≡ f = same_Some (pos (last_time 0 rows)) f e' in
          int_not_below f g (omega (arith, ints))

  -- ---- the truth at the start

  whole_at_end : {rows : List Row} {events : List Event} (vs : List Verdict) → IsRun nodes header events → IsDriven nodes header rows true events
      → rows ≢ [] → first_time rows ≤ last_time 0 rows → Emitted nodes header events (length nodes - 1) vs
      → IsWhole (first_time rows) (Some (pos (last_time 0 rows))) vs
  unfolding state
  whole_at_end {rows} {events} vs run d any within em =
      subst (λ l. IsWhole (first_time l) (Some (pos (last_time 0 rows))) vs) (driven_at nodes header d).rows_are
      (subst (λ o. IsWhole (first_time (state_from nodes initial events).rows) o vs) (shown_at_end d any within)
      (emitted_tiles nodes header order events run (length nodes - 1) (omega (arith, some)) vs em))

  told_at_end : {rows : List Row} {events : List Event} (vs : List Verdict) → IsRun nodes header events → IsDriven nodes header rows true events
      → IsTrace (record { header = header; rows = rows }) → Emitted nodes header events (length nodes - 1) vs
      → AreTold (root nodes) (record { header = header; rows = rows }) vs
  unfolding state
  told_at_end {rows} {events} vs run d is em =
      emitted_stays nodes header order events run (length nodes - 1) (omega (arith, some)) vs em (record { header = header; rows = rows }) is
      (subst (λ l. Continues (record { header = header; rows = rows }) header l (state_from nodes initial events).closed)
      (sym (driven_at nodes header d).rows_are) (goes_on_itself header rows (state_from nodes initial events).closed))

  -- at the end the first verdict that the root gave out tells the truth at the start
  pub start_truth : {rows : List Row} {events : List Event} (vs : List Verdict) → IsRun nodes header events → IsDriven nodes header rows true events
      → rows ≢ [] → first_time rows ≤ last_time 0 rows → IsTrace (record { header = header; rows = rows })
      → Emitted nodes header events (length nodes - 1) vs → StartTold (root nodes) (record { header = header; rows = rows }) vs
  start_truth {rows} {events} vs run d any within is em =
      first_of_told (root nodes) (record { header = header; rows = rows }) (whole (pos (last_time 0 rows))) vs
      (whole_at_end vs run d any within em) (told_at_end vs run d is em)

-- ---- texts of rows in turn

-- what the front shows after rows that follow others
abbrev front_from : Subformula → List Row → Front → List Row → Front
front_from p before old [] = old
front_from p before old (q ∷ rows) = front_from p (before ++ q ∷ []) (answered_by (first_time (before ++ q ∷ [])) p q.time) rows

front_on : (p : Subformula) (first : Row) (before : List Row) (t : ℕ) (rows : List Row)
    → front_from p (first ∷ before) (answered_by first.time p t) rows ≡ answered_by first.time p (last_time t rows)
front_on p first before t [] = refl
front_on p first before t (q ∷ rows) = front_on p first (before ++ q ∷ []) q.time rows

front_from_is : (p : Subformula) (rows : List Row) → front_from p [] None rows ≡ front_after p rows
front_from_is p [] = refl
front_from_is p (r ∷ rows) = front_on p r [] r.time rows

rows_text_append : (New : NewText) (p : Subformula) (header : Header) (before : List Row) (old : Front) (rows more : List Row) (text later : List ℕ)
    → IsRowsText New p header before old rows text → IsRowsText New p header (before ++ rows) (front_from p before old rows) more later
    → IsRowsText New p header before old (rows ++ more) (text ++ later)
rows_text_append New p header before old [] more text later none new =
    subst (λ t. IsRowsText New p header before old more (t ++ later)) (sym none)
    (subst (λ l. IsRowsText New p header l old more later) (append-nil before) new)
rows_text_append New p header before old (q ∷ rows) more text later (first, others, new_first, others_are, is) new = (
  first,
  others ++ later,
  new_first,
  rows_text_append New p header (before ++ q ∷ []) (answered_by (first_time (before ++ q ∷ [])) p q.time) rows more others later others_are
      (subst (λ l. IsRowsText New p header l (front_from p (before ++ q ∷ []) (answered_by (first_time (before ++ q ∷ [])) p q.time) rows) more later)
      (sym (append_assoc before (q ∷ []) rows)) new),
  ap (λ t. t ++ later) is ∙ append_assoc first others later,
)

-- the text of rows, and of some more
pub rows_told : (p : Subformula) (header : Header) (rows more : List Row) (text later : List ℕ) → IsRowsText (IsNewText p) p header [] None rows text
    → IsRowsText (IsNewText p) p header rows (front_after p rows) more later → IsRowsText (IsNewText p) p header [] None (rows ++ more) (text ++ later)
rows_told p header rows more text later told new =
    rows_text_append (IsNewText p) p header [] None rows more text later told
    (subst (λ o. IsRowsText (IsNewText p) p header rows o more later) (sym (front_from_is p rows)) new)
