-- Rows whose text is owed: the network takes them without a step. Then a step of every node gives out what all of them answer, and cut row
-- by row that is their text.
use Rattle.std.proofs.Common.{◌≡◌, ℕ, zero, suc, ◌+◌, ◌-◌, ◌<◌, ◌≤◌, Bool, true, false, List, [], ◌∷◌, ◌++◌, length, map, take, drop, refl}
use Rattle.std.proofs.Common.{sym, ap, ◌∙◌, subst, arith, append-nil, append_assoc, length-append, Some, None, ℤ, pos, ◌-ℤ◌}
use Rattle.std.specs.Prelude.{cond, int_lt, MatchBool}
use Rattle.std.proofs.lemmas.Int.{ints}
use Rattle.std.proofs.lemmas.List.{length-map, map-append, length-take-le, take-append-drop, drop-map}
use Rattle.std.proofs.Math.Seq.{drop-append_seam, take-length, take-append_seam, take-append-add}
use Rattle.rational.specs.Rational.{whole}
use Rattle.rational.specs.Time.{closed, left_open}
use Rattle.stl_syntax.specs.Formula.{Formula, horizon, root}
use Rattle.stl_syntax.specs.Trace.{Header, Row, Trace, AreRows, first_time, last_time}
use Rattle.stl_syntax.specs.PostOrder.{IsPostOrder}
use Rattle.stl_syntax.specs.Stream.{IsNewText, IsRowsText}
use Rattle.stl_syntax.specs.Texts.{AreVerdictLines}
use Rattle.stl_syntax.specs.Verdicts.{Describes, AreAlike}
use Rattle.stl_syntax.specs.declared.items.Verdict.{Verdict}
use Rattle.stl_syntax.specs.declared.node.Node.{Node}
use Rattle.stl_syntax.specs.declared.scale.Scale.{Scale}
use Rattle.rational.proofs.Tests.{int_not_below}
use Rattle.stl_syntax.proofs.RowsLemmas.{last_time-push, row_later}
use Rattle.stl_syntax.proofs.WellFormedLemmas.{root_some}
use Rattle.stl_syntax.proofs.VerdictsLaw.{alike_length, alike_sym}
use Rattle.online_nodes.specs.Network.{Event, row, node_is_atom, initial, after_event}
use Rattle.online_nodes.specs.Network.{state_from, state, State, Front, shown, same_front, answered, Emitted}
use Rattle.online_nodes.specs.Driven.{rows_of, steps_of, takes, pass_of, most_rows, IsEmptied, IsDriven, by_rows}
use Rattle.online_nodes.specs.Needed.{IsTaken}
use Rattle.online_nodes.specs.Laws.{answered_to}
use Rattle.online_nodes.proofs.EmittedLaw.{emitted_last}
use Rattle.online_nodes.proofs.RisingLaw.{same_is}
use Rattle.online_nodes.proofs.RunLaw.{none_is_none}
use Rattle.online_nodes.proofs.RowsLaw.{rows_of as rows_came, AreRowsSoFar}
use Rattle.online_nodes.proofs.ToldSoFar.{same_itself}
use Rattle.online_net.specs.Nets.{Parts, Stands}
use Rattle.trace_stream.specs.Streams.{verdicts, StreamText}
use Rattle.trace_stream.specs.Kept.{with_rows}
use Rattle.trace_stream.specs.Following.{Follows, IsFollowedOn}
use Rattle.verdict_stream.specs.Pendings.{IsTextOfRows, ArePassed}
use Rattle.verdict_stream.specs.Watching.{first_truth, Pass, IsWatched, IsOwing, IsToldBefore, CanTake, HasGivenAll, HasTakenAll}
use Rattle.trace_stream.specs.declared.case.Case.{Case}
use Rattle.verdict_stream.specs.declared.watcher.Network.{Network}
use Rattle.verdict_stream.specs.declared.watcher.Watcher.{Watcher}
use Rattle.verdict_stream.proofs.Passes.{state_after, parted, emitted_alike, Gives, AreQuiet, quiet_shown, quiet_gives, pass_gives, text_of_given}
use Rattle.verdict_stream.proofs.TakenVerdicts.{first_alike, emitted_takes}
use Rattle.verdict_stream.proofs.WatchedRoot.{no_row, shown_by, rows_others, taken_on, rows_at}
use Rattle.verdict_stream.proofs.WatchedRoot.{driven_at, driven_emptied, none_driven, after_pass, Passing}
use Rattle.verdict_stream.proofs.WatchedRoot.{passing_of, passed_of, pass_before, front_after, front_is, front_push, shown_after, rows_told}
use Rattle.verdict_stream.proofs.RowsTogether.{HasLast, last_of, rows_of_both, rows_of_more}
use Rattle.verdict_stream.proofs.CutVerdicts.{Leads, describes_leads, leads_alike}
use Rattle.verdict_stream.proofs.CutRows.{LeftTo, IsLeft, rows_cut, rows_passed}

module _ (nodes : List Node) (header : Header) where
  -- the root's place
  abbrev Top : ℕ
  Top = length nodes - 1

  -- before the first row the root has no number
  abbrev OpensEmpty : State → Type 0
  OpensEmpty s = s.rows ≡ [] → s.fronts Top ≡ None

  quiet_row : (s : State) (r : Row) → OpensEmpty s → node_is_atom nodes Top ≡ false → shown s Top ≡ shown (after_event nodes s (row r)) Top
  quiet_row s r opens no_atom = by_rows s.rows refl
    where
      stays : cond (node_is_atom nodes Top) (Some (pos r.time)) (s.fronts Top) ≡ s.fronts Top
      stays = ap (λ t. cond t (Some (pos r.time)) (s.fronts Top)) no_atom

      by_rows : (l : List Row) → s.rows ≡ l → shown s Top ≡ shown (after_event nodes s (row r)) Top
      by_rows [] e =
          let none = opens e in
          shown_by s Top (first_time s.rows) None refl none
          ∙ sym (shown_by (after_event nodes s (row r)) Top (first_time (s.rows ++ r ∷ [])) None refl (stays ∙ none))
      by_rows (q ∷ l) e =
          let same : first_time (s.rows ++ r ∷ []) ≡ first_time s.rows = subst (λ rs. first_time (rs ++ r ∷ []) ≡ first_time rs) (sym e) refl in
          sym (shown_by (after_event nodes s (row r)) Top (first_time s.rows) (s.fronts Top) same stays)

  rows_quiet : (s : State) (more : List Row) → OpensEmpty s → node_is_atom nodes Top ≡ false → AreQuiet nodes header Top s (rows_of more)
  rows_quiet s [] opens no_atom = tt
  rows_quiet s (r ∷ more) opens no_atom =
      (quiet_row s r opens no_atom, rows_quiet (after_event nodes s (row r)) more (λ e. absurd (no_row s.rows r e)) no_atom)

  opens_on : (s : State) (more : List Row) → OpensEmpty s → OpensEmpty (state_from nodes s (rows_of more))
  opens_on s [] opens = opens
  opens_on s (r ∷ more) opens = opens_on (after_event nodes s (row r)) more (λ e. absurd (no_row s.rows r e))

  driven_opens : {rows : List Row} {base : List Event} → IsDriven nodes header rows false base → OpensEmpty (state_from nodes initial base)
  driven_opens {rows} {base} d e =
      subst (λ es. (state_from nodes initial es).fronts Top ≡ None) (sym (none_driven nodes header d (sym (driven_at nodes header d).rows_are ∙ e))) refl

  fed_rows : {rows : List Row} {base : List Event} (more : List Row) → IsDriven nodes header rows false base
      → (state_from nodes initial (base ++ rows_of more)).rows ≡ rows ++ more
  fed_rows {rows} {base} more d =
      ap (λ (z : State). z.rows) (state_after nodes header initial base (rows_of more))
      ∙ (rows_at nodes header (state_from nodes initial base) rows more (driven_at nodes header d)).rows_are

  -- after rows that no step follows all that the root gave out was taken, as before them
  pub record HasFed (base : List Event) (more : List Row) (emitted : List Verdict) : Type 0 where
    -- the root's edge is empty after the rows
    pub emptied : IsEmptied nodes header (base ++ rows_of more)
    -- and the first truth is that of before
    pub truth : first_truth emptied.emitted ≡ first_truth emitted

  -- the network has taken the rows without a step
  pub has_fed : {rows : List Row} {base : List Event} (more : List Row) (emitted all : List Verdict) → IsDriven nodes header rows false base
      → node_is_atom nodes Top ≡ false → Emitted nodes header base Top emitted → Emitted nodes header (base ++ rows_of more) Top all → HasFed base more emitted
  has_fed {rows} {base} more emitted all d no_atom was given =
      let s = state_from nodes initial base in
      let p = parted nodes header Top initial base (rows_of more) all given in
      let none : p.beyond ≡ [] = quiet_gives nodes header Top s (rows_of more) p.beyond (rows_quiet s more (driven_opens d) no_atom) p.beyond_is in
      let is : all ≡ p.first = p.is ∙ ap (λ l. p.first ++ l) none ∙ append-nil p.first in
      let x = driven_emptied nodes header d in
      record {
        emptied = record {
          taken = x.taken;
          is_taken = taken_on nodes header base (rows_of more) x.taken (rows_others nodes header more) x.is_taken;
          emitted = all;
          is_emitted = given;
          all = x.all ∙ alike_length x.emitted p.first (emitted_alike nodes header Top base x.emitted p.first x.is_emitted p.first_is) ∙ ap length (sym is);
        };
        truth = first_alike all emitted (subst (λ l. AreAlike l emitted) (sym is) (emitted_alike nodes header Top base p.first emitted p.first_is was));
      }

  -- what a pass gave, all of which stands behind what was pending
  pub record HasGivenOut (events : List Event) (e : Event) (given beyond : List Verdict) (v : Network) (old new : List Verdict) : Type 0 where
    -- how many verdicts were taken
    pub made : ℕ
    -- and the root's edge is empty
    pub emptied : IsEmptied nodes header (events ++ pass_of e nodes made)
    -- the network stands for the run
    pub stands : Stands nodes header v.net (events ++ pass_of e nodes made)
    -- the root gave out what was given
    pub is_emitted : Emitted nodes header (events ++ pass_of e nodes made) Top given
    -- the truth at the start is that of the first of them
    pub start : v.start ≡ first_truth given
    -- the verdicts that were put
    pub put : List Verdict
    -- they are alike those that the run gives out
    pub are : AreAlike put beyond
    -- and stand behind the pending ones
    pub pending : new ≡ old ++ put

  -- a pass of the nodes gives out what the rows answer
  pub given_out : (events : List Event) (e : Event) (emitted : List Verdict) (x : Passing nodes header events (e ∷ []) emitted) (v : Network)
      (old new : List Verdict)
      → HasGivenAll (pass_before nodes header events (e ∷ []) x.first x.beyond) v old new → HasGivenOut events e (x.first ++ x.beyond) x.beyond v old new
  given_out events e emitted x v old new (n, h, all) =
      let path : ((events ++ e ∷ []) ++ steps_of 0 nodes) ++ takes n ≡ events ++ pass_of e nodes n =
      append_assoc (events ++ e ∷ []) (steps_of 0 nodes) (takes n) ∙ append_assoc events (e ∷ []) (steps_of 0 nodes ++ takes n) in
      let size : n ≡ length x.beyond = omega (arith, all, length-append x.first x.beyond) in
      let em = emitted_takes nodes header Top ((events ++ e ∷ []) ++ steps_of 0 nodes) n (x.first ++ x.beyond) x.given in
      let out : Emitted nodes header (events ++ pass_of e nodes n) Top (x.first ++ x.beyond) =
      subst (λ l. Emitted nodes header l Top (x.first ++ x.beyond)) path em in
      record {
        made = n;
        emptied = record {
          taken = length x.first + n;
          is_taken = subst (λ l. IsTaken nodes header l (length x.first + n)) path h.taken;
          emitted = x.first ++ x.beyond;
          is_emitted = out;
          all = all;
        };
        stands = subst (λ l. Stands nodes header v.net l) path h.stands;
        is_emitted = out;
        start = h.start ∙ ap (λ j. first_truth (take j (x.first ++ x.beyond))) all ∙ ap first_truth (take-length (x.first ++ x.beyond));
        put = h.put;
        are = subst (λ l. AreAlike h.put l) (ap (λ j. take j (drop (length x.first) (x.first ++ x.beyond))) size
            ∙ ap (take (length x.beyond)) (drop-append_seam x.first x.beyond) ∙ take-length x.beyond) h.are;
        pending = h.pending;
      }

  -- what a move of the root's front gives out is what is left for the rows to answer
  left_of_gives : (all : List Row) (are : AreRows (length header.columns) all) (old new : Front) (vs : List Verdict)
      → Gives nodes header Top (record { header = header; rows = all }) old new vs → LeftTo (root nodes) header all are old new vs
  left_of_gives all are old None vs g = g
  left_of_gives all are old (Some f) vs g = by_test (same_front old (Some f)) refl g
    where
      tr : Trace
      tr = record { header = header; rows = all }

      by_old : (o : Front) → Describes vs (root nodes) tr (answered (first_time all) o f)
          → Leads (root nodes) tr (answered_to (first_time all) o) vs (answered_to (first_time all) (Some f))
      by_old None d = describes_leads (root nodes) tr (closed (whole (pos (first_time all))) (whole f)) vs d
      by_old (Some o) d = describes_leads (root nodes) tr (left_open (whole o) (whole f)) vs d

      by_test : (t : Bool) → same_front old (Some f) ≡ t → MatchBool t (vs ≡ []) (Describes vs (root nodes) tr (answered (first_time all) old f))
          → Leads (root nodes) tr (answered_to (first_time all) old) vs (answered_to (first_time all) (Some f))
      by_test true e none =
          subst (λ l. Leads (root nodes) tr (answered_to (first_time all) old) l (answered_to (first_time all) (Some f))) (sym none)
          (subst (λ o. Leads (root nodes) tr (answered_to (first_time all) o) [] (answered_to (first_time all) (Some f))) (sym (same_is old (Some f) e))
          (record { tiles = same_itself (answered_to (first_time all) (Some f)); told = tt; turning = tt }))
      by_test false e d = by_old old d

  alike_left : (all : List Row) (are : AreRows (length header.columns) all) (old new : Front) (vs ws : List Verdict) → AreAlike ws vs
      → LeftTo (root nodes) header all are old new vs → LeftTo (root nodes) header all are old new ws
  alike_left all are old None vs ws e l = by_size ws (subst (λ x. AreAlike ws x) l e)
    where
      by_size : (ws : List Verdict) → AreAlike ws [] → ws ≡ []
      by_size [] a = refl
      by_size (w ∷ ws) a = absurd a
  alike_left all are old (Some f) vs ws e l =
      leads_alike (root nodes) (record { header = header; rows = all }) (answered_to (first_time all) old) (answered_to (first_time all) (Some f)) vs
      ws (alike_sym ws vs e) l

  module _ (order : IsPostOrder nodes) (some : 0 < length nodes) where
    -- what the pass after the last of some rows gives out, by what the root shows before and after
    pub pass_given : {before : List Row} {base : List Event} {last : Row} {emitted : List Verdict} (more : List Row) (n : ℕ)
        (x : Passing nodes header (base ++ rows_of more) (row last ∷ []) emitted) → node_is_atom nodes Top ≡ false → IsDriven nodes header before false base
        → IsDriven nodes header ((before ++ more) ++ last ∷ []) false ((base ++ rows_of more) ++ pass_of (row last) nodes n)
        → Gives nodes header Top (record { header = header; rows = (before ++ more) ++ last ∷ [] }) (front_after (root nodes) before)
        (front_after (root nodes) ((before ++ more) ++ last ∷ [])) x.beyond
    pass_given {before} {base} {last} more n x no_atom d d' =
        subst (λ o. Gives nodes header Top (record { header = header; rows = (before ++ more) ++ last ∷ [] }) (front_after (root nodes) before) o
        x.beyond) new_is
        (subst (λ o. Gives nodes header Top (record { header = header; rows = (before ++ more) ++ last ∷ [] }) o (shown end Top) x.beyond) old_is
        (subst (λ rs. Gives nodes header Top (record { header = header; rows = rs }) (shown s Top) (shown end Top) x.beyond) rows_are
        (pass_gives nodes header some s (row last) x.beyond (λ n. quiet_row s last opens n) x.gives).gives))
      where
        s : State
        s = state_from nodes initial (base ++ rows_of more)

        end : State
        end = state_from nodes s (row last ∷ steps_of 0 nodes)

        on : s ≡ state_from nodes (state_from nodes initial base) (rows_of more)
        on = state_after nodes header initial base (rows_of more)

        opens : OpensEmpty s
        opens = subst (λ (z : State). OpensEmpty z) (sym on) (opens_on (state_from nodes initial base) more (driven_opens d))

        old_is : shown s Top ≡ front_after (root nodes) before
        old_is = ap (λ (z : State). shown z Top) on
            ∙ sym (quiet_shown nodes header Top (state_from nodes initial base) (rows_of more)
            (rows_quiet (state_from nodes initial base) more (driven_opens d) no_atom))
            ∙ shown_after nodes header order some d

        rows_are : end.rows ≡ (before ++ more) ++ last ∷ []
        rows_are = ap (λ (z : State). z.rows) (sym (after_pass nodes header (base ++ rows_of more) (row last) n)) ∙ (driven_at nodes header d').rows_are

        new_is : shown end Top ≡ front_after (root nodes) ((before ++ more) ++ last ∷ [])
        new_is = ap (λ (z : State). shown z Top) (sym (after_pass nodes header (base ++ rows_of more) (row last) n)) ∙ shown_after nodes header order some d'

    -- it is what is left for these rows to answer
    pub left_of_pass : {before : List Row} {base : List Event} {last : Row} {emitted : List Verdict} (more : List Row) (n : ℕ) (put : List Verdict)
        (x : Passing nodes header (base ++ rows_of more) (row last ∷ []) emitted) → node_is_atom nodes Top ≡ false → IsDriven nodes header before false base
        → IsDriven nodes header ((before ++ more) ++ last ∷ []) false ((base ++ rows_of more) ++ pass_of (row last) nodes n)
        → (all : List Row) (are : AreRows (length header.columns) all) → all ≡ (before ++ more) ++ last ∷ [] → AreAlike put x.beyond
        → LeftTo (root nodes) header all are (front_after (root nodes) before) (front_after (root nodes) all) put
    left_of_pass {before} more n put x no_atom d d' all are e same =
        alike_left all are (front_after (root nodes) before) (front_after (root nodes) all) x.beyond put same
        (left_of_gives all are (front_after (root nodes) before) (front_after (root nodes) all) x.beyond
        (subst (λ rs. Gives nodes header Top (record { header = header; rows = rs }) (front_after (root nodes) before) (front_after (root nodes) rs)
        x.beyond) (sym e) (pass_given more n x no_atom d d')))

    -- the lines of what one row gives out are its text
    pub row_text : (before : List Row) (last : Row) (vs : List Verdict) (text : List ℕ) → AreRows (length header.columns) (before ++ last ∷ [])
        → Gives nodes header Top (record { header = header; rows = before ++ last ∷ [] }) (front_after (root nodes) before)
        (front_after (root nodes) (before ++ last ∷ [])) vs
        → AreVerdictLines header.scale vs text
        → IsRowsText (IsNewText (root nodes)) (root nodes) header before (front_after (root nodes) before) (last ∷ []) text
    row_text before last vs text are gives lines = (
      text,
      [],
      subst (λ o. IsNewText (root nodes) (record { header = header; rows = before ++ last ∷ [] }) (front_after (root nodes) before) o text)
          (front_push (root nodes) before last)
          (text_of_given nodes (record { header = header; rows = before ++ last ∷ [] }) (front_after (root nodes) before)
          (front_after (root nodes) (before ++ last ∷ [])) vs text (rises before are) gives lines),
      refl,
      sym (append-nil text),
    )
      where
        rises : (before : List Row) → AreRows (length header.columns) (before ++ last ∷ []) → (g f : ℤ) → front_after (root nodes) before ≡ Some g
            → front_after (root nodes) (before ++ last ∷ []) ≡ Some f → int_lt f g ≡ false
        rises [] are g f e e' = absurd (none_is_none g e)
        rises (q ∷ bs) are g f e e' =
            let later : last_time q.time bs < last.time = row_later (length header.columns) q.time bs last [] are.1 in
            let old_is : g ≡ pos (last_time q.time bs) -ℤ pos (horizon (root nodes)) = (front_is (root nodes) (q ∷ bs) g e).1 in
            let new_is : f ≡ pos last.time -ℤ pos (horizon (root nodes)) =
            (front_is (root nodes) ((q ∷ bs) ++ last ∷ []) f e').1 ∙ ap (λ t. pos t -ℤ pos (horizon (root nodes))) (last_time-push q.time bs last) in
            int_not_below f g (omega (arith, ints))

-- ---- rows more, whose text is owed

-- once the text that was owed is made, the network is that which the takes left, and no time or verdict waits
pub record OwesNoMore (v : Watcher) (given : Network) (after : Watcher) : Type 0 where
  -- the network is the one that the takes left
  pub network : after.network ≡ given
  -- of the formula of before
  pub formula : given.formula ≡ v.network.formula
  -- the horizon of before
  pub horizon : after.horizon ≡ v.horizon
  -- no row waits for its text
  pub times : after.times.items ≡ []
  -- and no verdict
  pub pending : after.pending ≡ []
  -- and no line
  pub lines : after.lines ≡ []

-- beside the network's parts, what rows whose text is owed change: their times are kept
pub record KeepsTimes (v after : Watcher) (rows : List Row) : Type 0 where
  -- the formula of before
  pub formula : after.network.formula ≡ v.network.formula
  -- the start of before
  pub start : after.network.start ≡ v.network.start
  -- the horizon of before
  pub horizon : after.horizon ≡ v.horizon
  -- the times of the rows wait behind the others
  pub times : after.times.items ≡ v.times.items ++ map (λ (r : Row). r.time) rows
  -- the verdicts that waited
  pub pending : after.pending ≡ v.pending
  -- the lines that waited
  pub lines : after.lines ≡ v.lines

module _ (v after : Watcher) (c : Case) (made : List ℕ) (rows : List Row) (some : 0 < length rows) (by : KeepsTimes v after rows) where
  parts : HasLast rows
  parts = last_of rows some

  -- the first rows whose text is owed
  pub owes_first : (k : Follows (λ case text. IsWatched false v case) verdicts c made) → node_is_atom c.formula.nodes (length c.formula.nodes - 1) ≡ false
      → length rows ≤ most_rows → Stands c.formula.nodes c.trace.header after.network.net (k.stands.events ++ rows_of rows)
      → IsOwing after (with_rows rows c) made
  owes_first k no_atom few stands =
      let w = k.stands in
      record {
        fits = (k.fits.0, record { formula = k.fits.1.formula; bound = k.fits.1.bound });
        formula = by.formula ∙ w.formula;
        horizon = by.horizon ∙ w.horizon;
        no_atom = no_atom;
        before = c.trace.rows;
        more = parts.front;
        last = parts.last;
        rows = ap (λ l. c.trace.rows ++ l) parts.is ∙ sym (append_assoc c.trace.rows parts.front (parts.last ∷ []));
        few = omega (arith, few, ap length parts.is, length-append parts.front (parts.last ∷ []));
        events = w.events ++ rows_of rows;
        fed = record {
          base = w.events;
          driven = w.driven;
          is = ap (λ l. w.events ++ rows_of l) parts.is ∙ rows_of_more w.events parts.front parts.last;
        };
        stands = stands;
        emitted = w.emitted;
        is_emitted = w.is_emitted;
        start = by.start ∙ w.start;
        times = by.times ∙ ap (λ l. l ++ map (λ (r : Row). r.time) rows) w.no_times ∙ ap (map (λ (r : Row). r.time)) parts.is;
        none_pending = by.pending ∙ w.none_pending;
        none_waiting = by.lines ∙ w.none_waiting;
        told = k.told;
      }

  -- and further ones
  pub owes_more : (o : IsOwing v c made) → length v.times.items + length rows ≤ most_rows
      → Stands c.formula.nodes c.trace.header after.network.net (o.events ++ rows_of rows) → IsOwing after (with_rows rows c) made
  owes_more o few stands =
      let waiting : List Row = o.more ++ o.last ∷ [] in
      let all : waiting ++ rows ≡ (waiting ++ parts.front) ++ parts.last ∷ [] =
      ap (λ l. waiting ++ l) parts.is ∙ sym (append_assoc waiting parts.front (parts.last ∷ [])) in
      record {
        fits = (o.fits.0, record { formula = o.fits.1.formula; bound = o.fits.1.bound });
        formula = by.formula ∙ o.formula;
        horizon = by.horizon ∙ o.horizon;
        no_atom = o.no_atom;
        before = o.before;
        more = waiting ++ parts.front;
        last = parts.last;
        rows = ap (λ l. l ++ rows) (o.rows ∙ append_assoc o.before o.more (o.last ∷ [])) ∙ append_assoc o.before waiting rows ∙ ap (λ l. o.before ++ l) all
            ∙ sym (append_assoc o.before (waiting ++ parts.front) (parts.last ∷ []));
        few = omega (
          arith,
          few,
          ap length o.times,
          length-map waiting (λ (r : Row). r.time),
          ap length all,
          length-append waiting rows,
          length-append (waiting ++ parts.front) (parts.last ∷ []),
        );
        events = o.events ++ rows_of rows;
        fed = record {
          base = o.fed.base;
          driven = o.fed.driven;
          is = ap (λ l. l ++ rows_of rows) (o.fed.is ∙ sym (rows_of_more o.fed.base o.more o.last)) ∙ append_assoc o.fed.base (rows_of waiting) (rows_of rows)
              ∙ ap (λ l. o.fed.base ++ l) (sym (rows_of_both waiting rows) ∙ ap rows_of all) ∙ rows_of_more o.fed.base (waiting ++ parts.front) parts.last;
        };
        stands = stands;
        emitted = o.emitted;
        is_emitted = o.is_emitted;
        start = by.start ∙ o.start;
        times = by.times ∙ ap (λ l. l ++ map (λ (r : Row). r.time) rows) o.times ∙ sym (map-append (λ (r : Row). r.time) waiting rows)
            ∙ ap (map (λ (r : Row). r.time)) all;
        none_pending = by.pending ∙ o.none_pending;
        none_waiting = by.lines ∙ o.none_waiting;
        told = o.told;
      }

-- ---- the text of what is owed

no_rows : (rows : List Row) → length rows ≡ 0 → rows ≡ []
no_rows [] e = refl
no_rows (q ∷ rows) e = absurd (omega (arith, e))

module _ (v : Watcher) (c : Case) (made : List ℕ) (o : IsOwing v c made) where
  abbrev pub fed_by : List Event
  fed_by = o.fed.base ++ rows_of o.more

  order : IsPostOrder c.formula.nodes
  order = o.stands.holds.formed.post_order

  some_node : 0 < length c.formula.nodes
  some_node = root_some c.formula.nodes o.stands.holds.one_root

  -- each node has its place among the operators
  pub owing_places : length v.network.net.operators ≡ length v.network.formula.nodes
  owing_places = o.stands.holds.operators ∙ ap (λ (f : Formula). length f.nodes) (sym o.formula)

  -- the network after the steps
  pub owing_steps : (mid : Parts) → ((header : Header) (events : List Event) → Stands v.network.formula.nodes header v.network.net events
      → Stands v.network.formula.nodes header mid (events ++ steps_of 0 v.network.formula.nodes))
      → Stands c.formula.nodes c.trace.header mid ((fed_by ++ row o.last ∷ []) ++ steps_of 0 c.formula.nodes)
  owing_steps mid step =
      subst (λ l. Stands c.formula.nodes c.trace.header mid (l ++ steps_of 0 c.formula.nodes)) o.fed.is
      (subst (λ (f : Formula). Stands f.nodes c.trace.header mid (o.events ++ steps_of 0 f.nodes)) o.formula
      (step c.trace.header o.events (subst (λ (f : Formula). Stands f.nodes c.trace.header v.network.net o.events) (sym o.formula) o.stands)))

  -- the rows whose text is owed were fed
  pub fed : HasFed c.formula.nodes c.trace.header o.fed.base o.more o.emitted
  fed =
      let root_edge = o.stands.shows.root in
      let x = emitted_last c.formula.nodes c.trace.header (length c.formula.nodes - 1) fed_by (row o.last) root_edge.emitted
      (subst (λ l. Emitted c.formula.nodes c.trace.header l (length c.formula.nodes - 1) root_edge.emitted) o.fed.is root_edge.is_emitted) in
      has_fed c.formula.nodes c.trace.header o.more o.emitted x.0 o.fed.driven o.no_atom o.is_emitted x.2

  -- what the root gives out at the last row and the steps
  pub owing_passing : (net : Parts) → Stands c.formula.nodes c.trace.header net ((fed_by ++ row o.last ∷ []) ++ steps_of 0 c.formula.nodes)
      → Passing c.formula.nodes c.trace.header fed_by (row o.last ∷ []) fed.emptied.emitted
  owing_passing net st =
      passing_of c.formula.nodes c.trace.header (row o.last ∷ []) fed.emptied.emitted st.shows.root.emitted
      (rows_others c.formula.nodes c.trace.header (o.last ∷ [])) fed.emptied
      fed.emptied.is_emitted st.shows.root.is_emitted

  abbrev pub Before : Passing c.formula.nodes c.trace.header fed_by (row o.last ∷ []) fed.emptied.emitted → Pass
  Before x = pass_before c.formula.nodes c.trace.header fed_by (row o.last ∷ []) x.first x.beyond

  -- so it can be taken
  pub owing_can : (x : Passing c.formula.nodes c.trace.header fed_by (row o.last ∷ []) fed.emptied.emitted) (mid : Network)
      → Stands c.formula.nodes c.trace.header mid.net ((fed_by ++ row o.last ∷ []) ++ steps_of 0 c.formula.nodes) → mid.start ≡ v.network.start
      → CanTake (Before x) mid
  owing_can x mid st same = record {
    stands = st;
    given = x.given;
    taken = x.taken_first;
    start = same ∙ o.start ∙ sym fed.truth ∙ sym x.truth ∙ sym (ap first_truth (take-append_seam x.first x.beyond));
  }

  -- its rows are the case's
  pub owing_rows : (state c.formula.nodes o.events).rows ≡ c.trace.rows
  unfolding state
  owing_rows =
      ap (λ es. (state_from c.formula.nodes initial es).rows) o.fed.is
      ∙ ap (λ (z : State). z.rows) (state_after c.formula.nodes c.trace.header initial fed_by (row o.last ∷ []))
      ∙ ap (λ l. l ++ o.last ∷ []) (fed_rows c.formula.nodes c.trace.header o.more o.fed.driven) ∙ sym o.rows

  are_rows : AreRows (length c.trace.header.columns) c.trace.rows
  are_rows = by_rows c.trace.rows o.rows
      (subst (λ l. AreRowsSoFar (length c.trace.header.columns) l) owing_rows (rows_came c.formula.nodes c.trace.header o.events o.stands.run))
    where
      by_rows : (l : List Row) → l ≡ (o.before ++ o.more) ++ o.last ∷ [] → AreRowsSoFar (length c.trace.header.columns) l
          → AreRows (length c.trace.header.columns) l
      by_rows [] e k = absurd (no_row (o.before ++ o.more) o.last (sym e))
      by_rows (q ∷ l) e k = k

  -- the rows whose text is owed
  abbrev pub Owed : List Row
  Owed = o.more ++ o.last ∷ []

  -- once the lines of what the last of them answer were put, behind the text of the others, the text is that of all rows
  owing_cut : {given : Network} {after : Watcher} → OwesNoMore v given after
      → (x : Passing c.formula.nodes c.trace.header fed_by (row o.last ∷ []) fed.emptied.emitted) (told more : List Row) (pending mid rest : List Verdict)
      (first old new grown : List ℕ) → HasGivenAll (Before x) given v.pending pending → Owed ≡ told ++ more
      → (IsLeft (root c.formula.nodes) c.trace.header c.trace.rows are_rows o.before pending
      → IsLeft (root c.formula.nodes) c.trace.header c.trace.rows are_rows (o.before ++ told) mid)
      → IsTextOfRows given.formula.scale v.horizon (map (λ (r : Row). r.time) more) mid grown rest → new ≡ old ++ grown
      → StreamText verdicts (root c.formula.nodes) c.trace.header (o.before ++ told) false first
      → IsFollowedOn (λ case text. IsWatched false after case) verdicts c old new first
  owing_cut {given} {after} left_off x told more pending mid rest first old new grown h parts passed lines longer is_told =
      let p = given_out c.formula.nodes c.trace.header fed_by (row o.last) fed.emptied.emitted x given v.pending pending h in
      let driven = by_rows o.more o.last p.made o.few o.fed.driven p.emptied in
      let put : pending ≡ p.put = p.pending ∙ ap (λ l. l ++ p.put) o.none_pending in
      let rows : c.trace.rows ≡ (o.before ++ told) ++ more =
      o.rows ∙ append_assoc o.before o.more (o.last ∷ []) ∙ ap (λ l. o.before ++ l) parts ∙ sym (append_assoc o.before told more) in
      let left = left_of_pass c.formula.nodes c.trace.header order some_node o.more p.made p.put x o.no_atom o.fed.driven
      driven c.trace.rows are_rows o.rows p.are in
      let (f, is) = o.fits in
      let scale : given.formula.scale ≡ c.trace.header.scale = ap (λ (g : Formula). g.scale) (left_off.formula ∙ o.formula ∙ is.formula) in
      let cut = rows_cut (root c.formula.nodes) c.trace.header c.trace.rows are_rows (o.before ++ told) more mid rest grown rows
      (subst (λ n. IsTextOfRows c.trace.header.scale n (map (λ (r : Row). r.time) more) mid grown rest) o.horizon
      (subst (λ (s : Scale). IsTextOfRows s v.horizon (map (λ (r : Row). r.time) more) mid grown rest) scale lines))
      (passed (subst (λ vs. IsLeft (root c.formula.nodes) c.trace.header c.trace.rows are_rows o.before vs) (sym put) left)) in (
        grown,
        longer,
        record {
          stands = record {
            formula = ap (λ (n : Network). n.formula) left_off.network ∙ left_off.formula ∙ o.formula;
            horizon = left_off.horizon ∙ o.horizon;
            events = fed_by ++ pass_of (row o.last) c.formula.nodes p.made;
            driven = subst (λ l. IsDriven c.formula.nodes c.trace.header l false (fed_by ++ pass_of (row o.last) c.formula.nodes p.made)) (sym o.rows) driven;
            stands = subst (λ (n : Network). Stands c.formula.nodes c.trace.header n.net (fed_by ++ pass_of (row o.last) c.formula.nodes p.made))
                (sym left_off.network) p.stands;
            emitted = x.first ++ x.beyond;
            is_emitted = p.is_emitted;
            start = ap (λ (n : Network). n.start) left_off.network ∙ p.start;
            no_times = left_off.times;
            none_pending = left_off.pending;
            none_waiting = left_off.lines;
          };
          fits = o.fits;
          told = subst (λ l. StreamText verdicts (root c.formula.nodes) c.trace.header l false (first ++ grown)) (sym rows)
              (rows_told (root c.formula.nodes) c.trace.header (o.before ++ told) more first grown is_told cut.text_is);
        },
      )

  -- the rows before the last of those that are owed
  told_rows : (told : ℕ) → told ≤ length Owed → take (length c.trace.rows - (length Owed - told)) c.trace.rows ≡ o.before ++ take told Owed
  told_rows told few =
      let rows : c.trace.rows ≡ o.before ++ Owed = o.rows ∙ append_assoc o.before o.more (o.last ∷ []) in
      let size : length c.trace.rows - (length Owed - told) ≡ length o.before + told = omega (arith, few, ap length rows, length-append o.before Owed) in
      ap (take (length c.trace.rows - (length Owed - told))) rows ∙ ap (λ n. take n (o.before ++ Owed)) size ∙ take-append-add o.before Owed told

  -- the text that was made is that of the rows before those that are owed
  pub told_so_far : IsToldBefore (length v.times.items - 0) c made
  told_so_far =
      let size : length v.times.items ≡ length Owed = ap length o.times ∙ length-map Owed (λ (r : Row). r.time) in
      subst (λ rs. StreamText verdicts (root c.formula.nodes) c.trace.header rs false made)
      (sym (ap (λ n. take (length c.trace.rows - (n - 0)) c.trace.rows) size ∙ told_rows 0 (omega arith) ∙ append-nil o.before)) o.told

  -- what the first of them answer was let go of
  passed_by : (told : ℕ) (pending mid : List Verdict) → told ≤ length Owed
      → ArePassed (horizon (root c.formula.nodes)) told (map (λ (r : Row). r.time) Owed) pending mid
      → IsLeft (root c.formula.nodes) c.trace.header c.trace.rows are_rows o.before pending
      → IsLeft (root c.formula.nodes) c.trace.header c.trace.rows are_rows (o.before ++ take told Owed) mid
  passed_by zero pending mid few passed left =
      subst (λ rs. IsLeft (root c.formula.nodes) c.trace.header c.trace.rows are_rows rs mid) (sym (append-nil o.before))
      (subst (λ vs. IsLeft (root c.formula.nodes) c.trace.header c.trace.rows are_rows o.before vs) (sym (passed.none refl)) left)
  passed_by (suc n) pending mid few passed left =
      let k = last_of (take (suc n) Owed) (omega (arith, few, length-take-le (suc n) Owed few)) in
      let size : length k.front ≡ n = omega (arith, ap length k.is, length-append k.front (k.last ∷ []), length-take-le (suc n) Owed few) in
      let all : Owed ≡ k.front ++ k.last ∷ drop (suc n) Owed =
      sym (take-append-drop (suc n) Owed) ∙ ap (λ l. l ++ drop (suc n) Owed) k.is ∙ append_assoc k.front (k.last ∷ []) (drop (suc n) Owed) in
      let times = ap (map (λ (r : Row). r.time)) all ∙ map-append (λ (r : Row). r.time) k.front (k.last ∷ drop (suc n) Owed) in
      let rows : c.trace.rows ≡ (o.before ++ k.front) ++ k.last ∷ drop (suc n) Owed =
      o.rows ∙ append_assoc o.before o.more (o.last ∷ []) ∙ ap (λ l. o.before ++ l) all
      ∙ sym (append_assoc o.before k.front (k.last ∷ drop (suc n) Owed)) in
      let at = passed.some (map (λ (r : Row). r.time) k.front) (map (λ (r : Row). r.time) (drop (suc n) Owed)) k.last.time times
      (omega (arith, size, length-map k.front (λ (r : Row). r.time))) in
      subst (λ rs. IsLeft (root c.formula.nodes) c.trace.header c.trace.rows are_rows rs mid)
      (append_assoc o.before k.front (k.last ∷ []) ∙ ap (λ l. o.before ++ l) (sym k.is))
      (rows_passed (root c.formula.nodes) c.trace.header c.trace.rows are_rows o.before k.front (drop (suc n) Owed) k.last pending mid rows at left)

  -- so it is where the first of these rows have their text, and what they answer was let go of
  pub owing_behind : {given : Network} {after : Watcher} → OwesNoMore v given after
      → (x : Passing c.formula.nodes c.trace.header fed_by (row o.last ∷ []) fed.emptied.emitted) (pending mid rest : List Verdict) (told : ℕ)
      (first old new grown : List ℕ) → HasGivenAll (Before x) given v.pending pending → told < length v.times.items
      → ArePassed v.horizon told v.times.items pending mid
      → IsTextOfRows given.formula.scale v.horizon (drop told v.times.items) mid grown rest → new ≡ old ++ grown
      → IsToldBefore (length v.times.items - told) c first
      → IsFollowedOn (λ case text. IsWatched false after case) verdicts c old new first
  owing_behind {given} left_off x pending mid rest told first old new grown h some passed lines longer is_told =
      let size : length v.times.items ≡ length Owed = ap length o.times ∙ length-map Owed (λ (r : Row). r.time) in
      let few : told ≤ length Owed = omega (arith, some, size) in
      owing_cut left_off x (take told Owed) (drop told Owed) pending mid rest first old new grown h (sym (take-append-drop told Owed))
      (passed_by told pending mid few
      (subst (λ ts. ArePassed (horizon (root c.formula.nodes)) told ts pending mid) o.times
      (subst (λ n. ArePassed n told v.times.items pending mid) o.horizon passed)))
      (subst (λ ts. IsTextOfRows given.formula.scale v.horizon ts mid grown rest)
      (ap (drop told) o.times ∙ drop-map (λ (r : Row). r.time) told Owed) lines) longer
      (subst (λ rs. StreamText verdicts (root c.formula.nodes) c.trace.header rs false first)
      (ap (λ n. take (length c.trace.rows - (n - told)) c.trace.rows) size ∙ told_rows told few) is_told)

  -- so it is where one row was owed, and the lines of all that was given out for it were put
  pub owing_taken : {given : Network} {after : Watcher} → OwesNoMore v given after → length v.times.items ≡ 1
      → (x : Passing c.formula.nodes c.trace.header fed_by (row o.last ∷ []) fed.emptied.emitted) (old new : List ℕ) → HasTakenAll (Before x) given old new
      → IsFollowedOn (λ case text. IsWatched false after case) verdicts c old new made
  owing_taken {given} {after} left_off one x old new h =
      let p = passed_of c.formula.nodes c.trace.header fed_by (row o.last ∷ []) fed.emptied.emitted x fed_by (row o.last) refl given old new h in
      let (grown, lines, longer) = p.lines in
      let driven = by_rows o.more o.last p.made o.few o.fed.driven p.emptied in
      let none : o.more ≡ [] =
      no_rows o.more (omega (arith, one, ap length o.times, length-map (o.more ++ o.last ∷ []) (λ (r : Row). r.time), length-append o.more (o.last ∷ []))) in
      let alone : (o.before ++ o.more) ++ o.last ∷ [] ≡ o.before ++ o.last ∷ [] =
      ap (λ l. (o.before ++ l) ++ o.last ∷ []) none ∙ ap (λ l. l ++ o.last ∷ []) (append-nil o.before) in
      let rows : c.trace.rows ≡ o.before ++ o.last ∷ [] = o.rows ∙ alone in
      let (f, is) = o.fits in
      let scale : given.formula.scale ≡ c.trace.header.scale = ap (λ (g : Formula). g.scale) (left_off.formula ∙ o.formula ∙ is.formula) in
      let gives = subst (λ rs. Gives c.formula.nodes c.trace.header (length c.formula.nodes - 1) (record { header = c.trace.header; rows = rs })
      (front_after (root c.formula.nodes) o.before) (front_after (root c.formula.nodes) rs) x.beyond) alone
      (pass_given c.formula.nodes c.trace.header order some_node o.more p.made x o.no_atom o.fed.driven driven) in
      let told = row_text c.formula.nodes c.trace.header order some_node o.before o.last x.beyond grown
      (subst (λ l. AreRows (length c.trace.header.columns) l) rows are_rows) gives
      (subst (λ (s : Scale). AreVerdictLines s x.beyond grown) scale lines) in (
        grown,
        longer,
        record {
          stands = record {
            formula = ap (λ (n : Network). n.formula) left_off.network ∙ left_off.formula ∙ o.formula;
            horizon = left_off.horizon ∙ o.horizon;
            events = fed_by ++ pass_of (row o.last) c.formula.nodes p.made;
            driven = subst (λ l. IsDriven c.formula.nodes c.trace.header l false (fed_by ++ pass_of (row o.last) c.formula.nodes p.made)) (sym o.rows) driven;
            stands = subst (λ (n : Network). Stands c.formula.nodes c.trace.header n.net (fed_by ++ pass_of (row o.last) c.formula.nodes p.made))
                (sym left_off.network) p.stands;
            emitted = x.first ++ x.beyond;
            is_emitted = p.is_emitted;
            start = ap (λ (n : Network). n.start) left_off.network ∙ p.start;
            no_times = left_off.times;
            none_pending = left_off.pending;
            none_waiting = left_off.lines;
          };
          fits = o.fits;
          told = subst (λ l. StreamText verdicts (root c.formula.nodes) c.trace.header l false (made ++ grown)) (sym rows)
              (rows_told (root c.formula.nodes) c.trace.header o.before (o.last ∷ []) made grown o.told told);
        },
      )
