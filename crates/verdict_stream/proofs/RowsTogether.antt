-- Rows that come together, without a step between them. A root that is an atom gives out at each of them what it answers, so that the lines of
-- all are the text of these rows.
use Rattle.std.proofs.Common.{◌≡◌, ℕ, ◌-◌, ◌<◌, true, false, List, [], ◌∷◌, ◌++◌, length, refl}
use Rattle.std.proofs.Common.{sym, ap, ◌∙◌, subst, arith, append-nil, append_assoc, Some, ℤ, pos, ◌-ℤ◌, ◌<ℤ◌}
use Rattle.std.specs.Prelude.{IfSome, cond, int_lt}
use Rattle.std.proofs.lemmas.Int.{ints}
use Rattle.stl_syntax.specs.Trace.{Header, Row, first_time, last_time}
use Rattle.stl_syntax.specs.Formula.{root, horizon}
use Rattle.stl_syntax.specs.PostOrder.{IsPostOrder}
use Rattle.stl_syntax.specs.Texts.{AreVerdictLines}
use Rattle.stl_syntax.specs.Stream.{answered_by, IsNewText, IsRowsText}
use Rattle.stl_syntax.specs.declared.items.Verdict.{Verdict}
use Rattle.stl_syntax.specs.declared.node.Node.{Node}
use Rattle.stl_syntax.specs.declared.scale.Scale.{Scale}
use Rattle.stl_syntax.proofs.RowsLemmas.{last_time-push}
use Rattle.rational.proofs.Tests.{int_not_below}
use Rattle.online_nodes.specs.Network.{Event, row, node_is_atom, after_event, state_from, State, Front, last_row, shown, IsRunFrom, EmittedFrom}
use Rattle.online_nodes.specs.Driven.{rows_of, steps_of}
use Rattle.online_nodes.proofs.FrontsLaw.{atom_horizon}
use Rattle.verdict_stream.proofs.Passes.{parted, quiet_gives, atom_steps, Gives, given_by, text_of_given}
use Rattle.verdict_stream.proofs.WatchedRoot.{show, shown_by, front_after, front_push, front_is}

-- some rows, with the last of them apart
pub record HasLast (rows : List Row) : Type 0 where
  -- those before the last
  pub front : List Row
  -- the last
  pub last : Row
  -- together they are all
  pub is : rows ≡ front ++ last ∷ []

-- where there are rows there is a last one
pub last_of : (rows : List Row) → 0 < length rows → HasLast rows
last_of [] some = absurd (omega arith)
last_of (r ∷ []) some = record { front = []; last = r; is = refl }
last_of (r ∷ q ∷ rows) some =
    let l = last_of (q ∷ rows) (omega arith) in
    record { front = r ∷ l.front; last = l.last; is = ap (λ rs. r ∷ rs) l.is }

-- rows come one after another
pub rows_of_both : (rows more : List Row) → rows_of (rows ++ more) ≡ rows_of rows ++ rows_of more
rows_of_both [] more = refl
rows_of_both (r ∷ rows) more = ap (λ l. row r ∷ l) (rows_of_both rows more)

-- the last of them last
pub rows_of_more : (base : List Event) (more : List Row) (r : Row) → base ++ rows_of (more ++ r ∷ []) ≡ (base ++ rows_of more) ++ row r ∷ []
rows_of_more base more r = ap (λ l. base ++ l) (rows_of_both more (r ∷ [])) ∙ sym (append_assoc base (rows_of more) (row r ∷ []))

-- the lines of some verdicts and of others behind them
record HasLines (scale : Scale) (vs ws : List Verdict) (text : List ℕ) : Type 0 where
  first : List ℕ
  later : List ℕ
  first_are : AreVerdictLines scale vs first
  later_are : AreVerdictLines scale ws later
  is : text ≡ first ++ later

lines_of : (scale : Scale) (vs ws : List Verdict) (text : List ℕ) → AreVerdictLines scale (vs ++ ws) text → HasLines scale vs ws text
lines_of scale [] ws text lines = record { first = []; later = text; first_are = refl; later_are = lines; is = refl }
lines_of scale (v ∷ vs) ws text (here, rest, line, more, is) =
    let l = lines_of scale vs ws rest more in
    record {
      first = here ++ l.first;
      later = l.later;
      first_are = (here, l.first, line, l.first_are, refl);
      later_are = l.later_are;
      is = is ∙ ap (λ t. here ++ t) l.is ∙ sym (append_assoc here l.first l.later);
    }

module _ (nodes : List Node) (header : Header) (order : IsPostOrder nodes) (some : 0 < length nodes)
    (atom : node_is_atom nodes (length nodes - 1) ≡ true) where
  -- rows, and the steps behind them, which give out nothing
  pub rows_give : (s : State) (rows : List Row) (vs : List Verdict) → EmittedFrom nodes header (length nodes - 1) s (rows_of rows ++ steps_of 0 nodes) vs
      → EmittedFrom nodes header (length nodes - 1) s (rows_of rows) vs
  rows_give s rows vs em =
      let p = parted nodes header (length nodes - 1) s (rows_of rows) (steps_of 0 nodes) vs em in
      let none = quiet_gives nodes header (length nodes - 1) (state_from nodes s (rows_of rows)) (steps_of 0 nodes) p.beyond
      (atom_steps nodes header some atom (state_from nodes s (rows_of rows))) p.beyond_is in
      subst (λ l. EmittedFrom nodes header (length nodes - 1) s (rows_of rows) l)
      (sym (p.is ∙ ap (λ l. p.first ++ l) none ∙ append-nil p.first)) p.first_is

  -- at a row the atom's front is the row's time
  front_at_row : (s : State) (r : Row)
      → shown (after_event nodes s (row r)) (length nodes - 1) ≡ answered_by (first_time (s.rows ++ r ∷ [])) (root nodes) r.time
  front_at_row s r =
      let none : horizon (root nodes) ≡ 0 = atom_horizon nodes (length nodes - 1) order (omega (arith, some)) atom in
      let same : pos r.time ≡ pos r.time -ℤ pos (horizon (root nodes)) = omega (arith, ints, none) in
      shown_by (after_event nodes s (row r)) (length nodes - 1) (first_time (s.rows ++ r ∷ [])) (Some (pos r.time)) refl
      (ap (λ t. cond t (Some (pos r.time)) (s.fronts (length nodes - 1))) atom)
      ∙ ap (λ (z : ℤ). show (first_time (s.rows ++ r ∷ [])) (Some z)) same

  -- a row comes after those before it
  comes_later : (s : State) (r : Row) → IfSome (last_row s) (λ f. f <ℤ pos r.time) → (rows : List Row) → s.rows ≡ rows → 0 < length rows
      → last_time 0 rows < r.time
  comes_later s r may [] e l = absurd (omega arith)
  comes_later s r may (q ∷ rows) e l =
      let h : pos (last_time q.time rows) <ℤ pos r.time =
      subst (λ rs. IfSome (last_row (record { rows = rs; closed = s.closed; fronts = s.fronts })) (λ f. f <ℤ pos r.time)) e may in
      omega (arith, ints)

  -- what a row answers does not lie before what was answered
  answers_rise : (before : List Row) (r : Row) → (0 < length before → last_time 0 before < r.time) → (g f : ℤ) → front_after (root nodes) before ≡ Some g
      → answered_by (first_time (before ++ r ∷ [])) (root nodes) r.time ≡ Some f → int_lt f g ≡ false
  answers_rise before r rises g f e e' =
      let old = front_is (root nodes) before g e in
      let new = front_is (root nodes) (before ++ r ∷ []) f (front_push (root nodes) before r ∙ e') in
      let l : last_time 0 before < r.time = rises old.0 in
      let old_is : g ≡ pos (last_time 0 before) -ℤ pos (horizon (root nodes)) = old.1 in
      let new_is : f ≡ pos r.time -ℤ pos (horizon (root nodes)) = new.1 ∙ ap (λ t. pos t -ℤ pos (horizon (root nodes))) (last_time-push 0 before r) in
      int_not_below f g (omega (arith, ints))

  -- the lines of what rows in turn give out are the text of these rows
  pub rows_text : (s : State) (before more : List Row) (old : Front) (vs : List Verdict) (text : List ℕ) → s.rows ≡ before
      → shown s (length nodes - 1) ≡ old → old ≡ front_after (root nodes) before → IsRunFrom nodes header s (rows_of more)
      → EmittedFrom nodes header (length nodes - 1) s (rows_of more) vs → AreVerdictLines header.scale vs text
      → IsRowsText (IsNewText (root nodes)) (root nodes) header before old more text
  rows_text s before [] old vs text rows_are shows is run em lines = subst (λ l. AreVerdictLines header.scale l text) em lines
  rows_text s before (r ∷ more) old vs text rows_are shows is (may, run) (here, later, at, rest, parts) lines =
      let l = lines_of header.scale here later text (subst (λ l. AreVerdictLines header.scale l text) parts lines) in
      let front : shown (after_event nodes s (row r)) (length nodes - 1) ≡ answered_by (first_time (before ++ r ∷ [])) (root nodes) r.time =
      front_at_row s r ∙ ap (λ rs. answered_by (first_time (rs ++ r ∷ [])) (root nodes) r.time) rows_are in
      let gives : Gives nodes header (length nodes - 1) (record { header = header; rows = before ++ r ∷ [] }) old
      (answered_by (first_time (before ++ r ∷ [])) (root nodes) r.time) here =
      subst (λ o. Gives nodes header (length nodes - 1) (record { header = header; rows = before ++ r ∷ [] }) old o here) front
      (subst (λ o. Gives nodes header (length nodes - 1) (record { header = header; rows = before ++ r ∷ [] }) o
      (shown (after_event nodes s (row r)) (length nodes - 1)) here) shows
      (subst (λ rs. Gives nodes header (length nodes - 1) (record { header = header; rows = rs ++ r ∷ [] }) (shown s (length nodes - 1))
      (shown (after_event nodes s (row r)) (length nodes - 1)) here) rows_are
      (given_by nodes header (length nodes - 1) s (after_event nodes s (row r)) here at))) in (
        l.first,
        l.later,
        text_of_given nodes (record { header = header; rows = before ++ r ∷ [] }) old (answered_by (first_time (before ++ r ∷ [])) (root nodes) r.time) here
            l.first (λ g f e e'. answers_rise before r (comes_later s r may.1 before rows_are) g f (sym is ∙ e) e') gives l.first_are,
        rows_text (after_event nodes s (row r)) (before ++ r ∷ []) more (answered_by (first_time (before ++ r ∷ [])) (root nodes) r.time) later l.later
            (ap (λ rs. rs ++ r ∷ []) rows_are) front (sym (front_push (root nodes) before r)) run rest l.later_are,
        l.is,
      )
