-- An operator goes on: it belongs to its edges in each trace that goes on from the rows, and what it leaves is what its node's new number answers.
use Rattle.std.proofs.Common.{◌≡◌, ◌≢◌, ℕ, suc, zero, ◌+◌, ◌<◌, ◌≤◌, Bool, true, false, List, [], ◌∷◌, ◌++◌}
use Rattle.std.proofs.Common.{length, refl, sym, ap, subst, ◌∙◌, arith, Option, Some, None, ℤ, pos, ◌+ℤ◌}
use Rattle.std.proofs.Common.{◌<ℤ◌, ◌≤ℤ◌, take, get_or, get_or-set_same, get_or-set_other, length-set}
use Rattle.std.specs.Prelude.{MatchBool, IfSome, int_lt, cond, map, slice_get, slice_index_or}
use Rattle.std.proofs.lemmas.Int.{ints}
use Rattle.std.proofs.lemmas.List.{take_more}
use Rattle.std.proofs.lemmas.List.Sums.{sum_by-append}
use Rattle.std.proofs.lemmas.Option.{slice_get_within, get_or_from_slice_get, same_Some}
use Rattle.rational.specs.Knots as plain
use Rattle.rational.specs.Knots.{Piece}
use Rattle.rational.specs.Windows.{Function}
use Rattle.rational.specs.Time.{Rational, whole}
use Rattle.rational.proofs.Order.{le_trans, lt_irrefl, lt_of_le_of_lt, le_of_same, ge_of_same}
use Rattle.rational.proofs.Shift.{le_whole, lt_whole}
use Rattle.rational.proofs.Tests.{int_order, int_below}
use Rattle.value_laws.specs.Kinds.{margin_shape}
use Rattle.value_laws.specs.declared.margin.Margin.{Margin}
use Rattle.pl_signal.specs.declared.knot.Knot.{Knot}
use Rattle.pl_signal.specs.Knots.{time, HasShape}
use Rattle.pl_signal.specs.Limits.{IsLimited}
use Rattle.pl_signal.specs.Moves.{Tells}
use Rattle.pl_signal.specs.Plain.{plain_knot, pieces_of, knots_of}
use Rattle.stl_syntax.specs.Trace.{Row, Trace, IsTrace, Continues, first_time, last_time}
use Rattle.stl_syntax.specs.Formula.{Subformula, subformula}
use Rattle.stl_syntax.specs.SupInf.{Robustness}
use Rattle.stl_syntax.specs.Limits.{reach, own_reach}
use Rattle.stl_syntax.specs.declared.node.Node.{Node}
use Rattle.stl_syntax.specs.declared.node.Node.TheVariants.{Const}
use Rattle.online_nodes.specs.MarginEdges.{AreNewParts, parts_after}
use Rattle.online_nodes.specs.MarginStream.{TellsLeftOpen}
use Rattle.online_nodes.specs.Network.{reach_back}
use Rattle.online_nodes.specs.Needed.{IsReader}
use Rattle.online_nodes.specs.StreamedWide.{front_at}
use Rattle.online_robust.specs.Held.{Edge, Held, edge_at, held_at, held_of, no_edge, number_at, with_edge, with_more, with_number}
use Rattle.online_robust.specs.Told.{AreTold, AreFit, AreJoined, IsTick, IsMovedBy}
use Rattle.online_robust.specs.Standing.{Stands}
use Rattle.online_robust.specs.Steps.{IsLeaf, Step, Belongs, IsSwept, HasSwept, StandsNow, AreInputs, IsInput, back_of, from_of, seen_by}
use Rattle.online_robust.specs.Putting.{lines_after, lines_of, HasPut}
use Rattle.online_robust.specs.Pasts.{trace_of, part_of, shown_of, IsRest, IsHeld}
use Rattle.online_robust.specs.Moving.{Move, AreMore, CanGiveOut, HasMoved, turn_of}
use Rattle.online_robust.specs.declared.line.MarginLine.{MarginLine}
use Rattle.online_robust.specs.declared.operator.Operator.{Operator}
use Rattle.online_robust.specs.declared.station.Work.TheVariants as W
use Rattle.online_robust.proofs.GivenOutGrows.{goes_on_from, itself}
use Rattle.online_robust.proofs.Readers.{reader_above, seen_same}
use Rattle.online_robust.proofs.LinesLeft.{IsLaterBack, input_rest, input_reach, rest_cut}
use Rattle.online_robust.proofs.RowFacts.{number_here, told_here, first_goes_on, last_goes_on, last_at_end, shown_is, number_shown, number_rises}
use Rattle.online_robust.proofs.SignalLines.{AreWorth, after_parts, all_parts, told_after, fit_after}
use Rattle.online_robust.proofs.SignalLines.{fit_first, at_first, joined_after, tells_after, tells_closed}
use Rattle.online_robust.proofs.JoinedLemmas.{joined_same}

-- ---- small facts

-- a number does not come out as less than itself
pub int_not_below : (a : ℤ) → int_lt a a ≡ false
int_not_below a = by_test (int_lt a a) refl
  where
    by_test : (t : Bool) → int_lt a a ≡ t → int_lt a a ≡ false
    by_test true e = let lt = int_order a a true e in absurd (omega (arith, ints, lt))
    by_test false e = e

-- the edge that was put stands at its place
pub edge_same : (e : Held) (i : ℕ) (x : Edge) → i < length e.edges → get_or (with_edge e i x) i no_edge ≡ x
edge_same e i x h = get_or-set_same e.edges i x no_edge h

-- the edges at other places stay
pub edge_other : (e : Held) (i j : ℕ) (x : Edge) → j ≢ i → get_or (with_edge e i x) j no_edge ≡ edge_at e j
edge_other e i j x h = get_or-set_other e.edges i j x no_edge h

-- there are as many edges as before once one was put
pub length-set-edges : (e : Held) (i : ℕ) (x : Edge) → length (with_edge e i x) ≡ length e.edges
length-set-edges e i x = length-set e.edges i x

-- where a reader goes on, what it needs no more does not shrink
pub back_later : (start : ℕ) (before : Option ℤ) (k to : ℤ) → IfSome before (λ g. g <ℤ to) → IsLaterBack (back_of start before k) (back_of start (Some to) k)
back_later start None k to lt = tt
back_later start (Some g) k to lt = by_tests (int_lt (g +ℤ k) (pos start)) (int_lt (to +ℤ k) (pos start)) refl refl
  where
    by_tests : (a b : Bool) → int_lt (g +ℤ k) (pos start) ≡ a → int_lt (to +ℤ k) (pos start) ≡ b
        → IsLaterBack (cond a None (Some (g +ℤ k))) (cond b None (Some (to +ℤ k)))
    by_tests true b e f = tt
    by_tests false true e f =
        let low = int_order (g +ℤ k) (pos start) false e in
        let high = int_order (to +ℤ k) (pos start) true f in
        absurd (omega (arith, ints, lt, low, high))
    by_tests false false e f = omega (arith, ints, lt)

-- ---- the reach of the nodes before a place

reach_step : (nodes : List Node) (i : ℕ) (n : Node) → slice_get nodes i ≡ Some n → reach (take (suc i) nodes) ≡ reach (take i nodes) + own_reach n
reach_step nodes i n found =
    let within = slice_get_within nodes i n found in
    let up : i + 1 ≡ suc i = omega arith in
    let is : slice_index_or nodes i (Const false) ≡ n = get_or_from_slice_get nodes i n (Const false) found in
    let longer : take (i + 1) nodes ≡ take i nodes ++ n ∷ [] = take_more nodes i (Const false) within ∙ ap (λ m. take i nodes ++ m ∷ []) is in
    let both : reach (take i nodes ++ n ∷ []) ≡ reach (take i nodes) + reach (n ∷ []) = sum_by-append own_reach (take i nodes) (n ∷ []) in
    let one : reach (n ∷ []) ≡ own_reach n = omega arith in
    ap (λ k. reach (take k nodes)) (sym up) ∙ ap reach longer ∙ both ∙ ap (λ k. reach (take i nodes) + k) one

reach_take : (nodes : List Node) (j : ℕ) → reach (take j nodes) ≤ reach nodes
reach_take [] zero = omega arith
reach_take [] (suc j) = omega arith
reach_take (n ∷ nodes) zero = omega arith
reach_take (n ∷ nodes) (suc j) =
    let h = reach_take nodes j in
    let first : reach (take (suc j) (n ∷ nodes)) ≡ reach (n ∷ []) + reach (take j nodes) = sum_by-append own_reach (n ∷ []) (take j nodes) in
    let all : reach (n ∷ nodes) ≡ reach (n ∷ []) + reach nodes = sum_by-append own_reach (n ∷ []) nodes in
    omega (arith, h, first, all)

reach_rises : (nodes : List Node) (j i : ℕ) → j ≤ i → reach (take j nodes) ≤ reach (take i nodes)
reach_rises [] zero i h = omega arith
reach_rises [] (suc j) zero h = absurd (omega (arith, h))
reach_rises [] (suc j) (suc i) h = omega arith
reach_rises (n ∷ nodes) zero i h = omega arith
reach_rises (n ∷ nodes) (suc j) zero h = absurd (omega (arith, h))
reach_rises (n ∷ nodes) (suc j) (suc i) h =
    let k = reach_rises nodes j i (omega (arith, h)) in
    let first : reach (take (suc j) (n ∷ nodes)) ≡ reach (n ∷ []) + reach (take j nodes) = sum_by-append own_reach (n ∷ []) (take j nodes) in
    let all : reach (take (suc i) (n ∷ nodes)) ≡ reach (n ∷ []) + reach (take i nodes) = sum_by-append own_reach (n ∷ []) (take i nodes) in
    omega (arith, k, first, all)

module _ (m : Move) (node : ℕ) (op : Operator) (e : Held) (to : ℕ) (with_first : Bool) (g : CanGiveOut m node op e to with_first) where
  abbrev p : Subformula
  p = subformula m.nodes m.place

  abbrev rows : List Row
  rows = m.new.rows

  abbrev now : ℕ
  now = last_time 0 m.new.rows

  abbrev so_far : Trace
  so_far = trace_of m.header m.new

  front_is : pos to ≡ front_at m.new.ended (pos now) p
  front_is = same_Some _ _ (sym g.number ∙ number_here m.header p m.new.ended rows g.can.trace)

  -- what was shown before
  before_is : (k : ℤ) → shown_of m.nodes m.old m.place ≡ Some k → (pos (first_time rows) ≤ℤ k) × (k <ℤ pos to)
  before_is k e =
      let (is, from) = shown_is p m.old.ended m.old.rows k e in
      let (le, same) = number_rises m.header p m.old m.new g.can.next g.can.trace k is in
      let apart : k ≢ pos to = λ h. g.moved (is ∙ ap Some h) in
      let top : k ≤ℤ pos to = subst (λ x. k ≤ℤ x) (sym front_is) le in
      (subst (λ s. pos s ≤ℤ k) same from, below_of k to apart top)
    where
      below_of : (k : ℤ) (n : ℕ) → k ≢ pos n → k ≤ℤ pos n → k <ℤ pos n
      below_of k n apart le = omega (arith, ints, apart, le)

  module _ (tr : Trace) (trace : IsTrace tr) (c : Continues tr m.header rows m.new.ended) where
    begin_is : first_time tr.rows ≡ first_time rows
    begin_is = first_goes_on m.header tr m.new.ended rows g.can.trace c

    input_here : (j : ℕ) (left : Bool) → IsReader g.can.node left j
        → IsInput (Robustness (subformula m.nodes j) tr) (reach (take m.place m.nodes)) (first_time rows)
        (back_of (first_time rows) (shown_of m.nodes m.old m.place) (reach_back g.can.node left))
        (front_at m.new.ended (pos now) (subformula m.nodes j)) (held_at e j)
    input_here j left reads =
        let (lines, gave, rest) = g.can.inputs j left reads in
        let lower : j < m.place = reader_above m.nodes g.can.nodes.formed m.place g.can.node left j g.can.at reads in
        input_reach (Robustness (subformula m.nodes j) tr) (reach (take (suc j) m.nodes)) (reach (take m.place m.nodes)) (first_time rows)
        (back_of (first_time rows) (shown_of m.nodes m.old m.place) (reach_back g.can.node left))
        (front_at m.new.ended (pos now) (subformula m.nodes j)) (held_at e j)
        (reach_rises m.nodes (suc j) m.place (omega (arith, lower)))
        (input_rest (Robustness (subformula m.nodes j) tr) (reach (take (suc j) m.nodes)) (first_time rows) (shown_of m.nodes m.old m.place)
        (reach_back g.can.node left) (front_at m.new.ended (pos now) (subformula m.nodes j)) lines (held_at e j)
        (told_here m.header m.nodes m.new.ended j rows lines g.can.trace gave.told tr trace c) rest)

    at_end : m.new.ended ≡ true → now ≡ last_time 0 tr.rows
    at_end h = last_at_end m.header tr rows (subst (λ b. Continues tr m.header rows b) h c)

    forth : (before : Option ℤ) → shown_of m.nodes m.old m.place ≡ before → IfSome before (λ k. (pos (first_time tr.rows) ≤ℤ k) × (k <ℤ pos to))
    forth None e = tt
    forth (Some k) e = subst (λ s. (pos s ≤ℤ k) × (k <ℤ pos to)) (sym begin_is) (before_is k e)

    -- the operator belongs to its edges in each trace that goes on from the rows
    pub belongs : Belongs (turn_of m tr) op e to
    belongs = record {
      formed = g.can.nodes.formed;
      one_root = g.can.nodes.one_root;
      node = g.can.node;
      at = g.can.at;
      no_leaf = g.can.work.0;
      streamed = g.can.nodes.streamed m.place g.can.node g.can.at;
      edges = g.can.edges;
      is_trace = trace;
      start = g.can.start ∙ ap Some (sym begin_is);
      small_now = g.can.small;
      by_now = last_goes_on m.header tr m.new.ended rows g.can.trace trace c;
      at_end = at_end;
      number = front_is;
      from_start = subst (λ s. s ≤ to) (sym begin_is) g.from_start;
      forth = forth (shown_of m.nodes m.old m.place) refl;
      small =
          let all = reach_step m.nodes m.place g.can.node g.can.at in
          let le = reach_take m.nodes (suc m.place) in
          let most = g.can.nodes.formed.reach in
          omega (arith, all, le, most);
      inputs = λ j left reads.
          subst (λ s. IsInput (Robustness (subformula m.nodes j) tr) (reach (take m.place m.nodes)) s
          (back_of s (shown_of m.nodes m.old m.place) (reach_back g.can.node left)) (front_at m.new.ended (pos now) (subformula m.nodes j)) (held_at e j))
          (sym begin_is) (input_here j left reads);
      stands = g.can.work.1 tr trace (goes_on_from m.old m.new g.can.next tr m.header c);
    }

  -- the operator belongs to its edges in the trace so far
  pub belongs_now : Belongs (turn_of m so_far) op e to
  belongs_now = belongs so_far g.can.trace (itself so_far m.new.ended)

  -- ---- what it leaves

  module _ (s : List (Knot Margin)) (op' : Operator) (e' e'' : Held)
      (swept : (tr : Trace) → IsTrace tr → Continues tr m.header rows m.new.ended → IsSwept (turn_of m tr) to s)
      (left : HasSwept (turn_of m so_far) e e' to)
      (stands : (tr : Trace) → IsTrace tr → Continues tr m.header rows m.new.ended → StandsNow (turn_of m tr) op' e' to)
      (put : HasPut m.place (lines_of with_first s) e' e'') where
    abbrev F : Trace → Function
    F tr = Robustness p tr

    abbrev most : ℕ
    most = reach (take (suc m.place) m.nodes)

    -- the times of the signal
    tick_to : IsTick (whole (pos to))
    tick_to =
        let low : to ≤ now = top in
        let small = g.can.small in
        (le_whole {j = pos 0} {k = pos to} (omega (arith, ints)), le_whole {j = pos to} {k = pos 4294967295} (omega (arith, ints, low, small)))
      where
        top : to ≤ now
        top = below m.new.ended front_is
          where
            below : (b : Bool) → pos to ≡ front_at b (pos now) p → to ≤ now
            below true e = omega (arith, ints, e)
            below false e = omega (arith, ints, e)

    tick_from : (before : Option ℤ) → shown_of m.nodes m.old m.place ≡ before → (tr : Trace) → IsTrace tr → Continues tr m.header rows m.new.ended
        → IsTick (from_of (record { nodes = m.nodes; place = m.place; trace = tr; now = now; ended = m.new.ended; before = before }))
    tick_from None e tr trace c =
        let same = begin_is tr trace c in
        let le = g.from_start in
        let low : first_time tr.rows ≤ to = omega (arith, same, le) in (
          le_whole {j = pos 0} {k = pos (first_time tr.rows)} (omega (arith, ints)),
          le_trans (le_whole {j = pos (first_time tr.rows)} {k = pos to} (omega (arith, ints, low))) tick_to.1,
        )
    tick_from (Some k) e tr trace c =
        let (from, lt) = before_is k e in (
          le_whole {j = pos 0} {k = k} (omega (arith, ints, from)),
          le_trans (le_whole {j = k} {k = pos to} (omega (arith, ints, lt))) tick_to.1,
        )

    moved_by : (tr : Trace) (trace : IsTrace tr) (c : Continues tr m.header rows m.new.ended) → (q : Margin) → HasShape s q → IsMovedBy most q
    moved_by tr trace c q has =
        subst (λ r. IsMovedBy r q) (sym (reach_step m.nodes m.place g.can.node g.can.at)) ((swept tr trace c).moved g.can.node g.can.at q has)

    shown_new : shown_of m.nodes m.new m.place ≡ Some (pos to)
    shown_new = number_shown p m.new.ended rows (pos to) g.number (let le = g.from_start in omega (arith, ints, le))

    -- the turn in a trace, where the number before is known
    abbrev turn_at : Trace → Option ℤ → Step
    turn_at tr before = record { nodes = m.nodes; place = m.place; trace = tr; now = now; ended = m.new.ended; before = before }

    abbrev TellsFrom : Trace → Rational → Type 0
    TellsFrom tr from = Tells margin_shape (F tr) from (whole (pos to)) s

    -- ---- the lines, from the start on

    closed_parts : (s : List (Knot Margin)) → Tells margin_shape (F so_far) (whole (pos (first_time rows))) (whole (pos to)) s
        → AreNewParts p so_far None (Some (pos to)) (map part_of (lines_of true s))
    closed_parts [] tells = let some = tells.signal.some in absurd (omega (arith, some))
    closed_parts (k ∷ ks) tells =
        let worth : AreWorth (F so_far) (whole (pos (first_time rows))) (whole (pos to)) (k ∷ ks) = λ t v w. (tells.worth t v).0 w in (
          knots_of margin_shape (k ∷ ks),
          tells_closed p so_far (whole (pos (first_time rows))) (whole (pos to)) k ks tells.signal.each (
            (at_first (F so_far) (whole (pos (first_time rows))) (whole (pos to)) k ks worth).1,
            told_after (F so_far) (whole (pos (first_time rows))) (whole (pos to)) k ks tells.signal.each worth,
          ) tells.begins tells.ends,
          all_parts k ks,
        )

    closed_told : (G : Function) (s : List (Knot Margin)) → Tells margin_shape G (whole (pos (first_time rows))) (whole (pos to)) s → IsLimited margin_shape s
        → ((q : Margin) → HasShape s q → IsMovedBy most q) → IsTick (whole (pos (first_time rows)))
        → AreInputs G most (first_time rows) None (pos to) (lines_of true s)
    closed_told G [] tells limited moved first = let some = tells.signal.some in absurd (omega (arith, some))
    closed_told G (k ∷ ks) tells limited moved first =
        let worth : AreWorth G (whole (pos (first_time rows))) (whole (pos to)) (k ∷ ks) = λ t v w. (tells.worth t v).0 w in record {
          told = (
            (at_first G (whole (pos (first_time rows))) (whole (pos to)) k ks worth).1,
            told_after G (whole (pos (first_time rows))) (whole (pos to)) k ks tells.signal.each worth,
          );
          fit = fit_first G (whole (pos (first_time rows))) (whole (pos to)) most first tick_to k ks worth limited moved;
          left = (k.time, k.point, lines_after k ks, refl, tells.begins, joined_after (whole (pos to)) k ks tells.ends);
        }

    -- ---- the lines, from a number on

    open_parts : (o : ℤ) → o <ℤ pos to → (s : List (Knot Margin)) → Tells margin_shape (F so_far) (whole o) (whole (pos to)) s
        → AreNewParts p so_far (Some o) (Some (pos to)) (map part_of (lines_of false s))
    open_parts o lt [] tells = let some = tells.signal.some in absurd (omega (arith, some))
    open_parts o lt (k ∷ []) tells = absurd (lt_irrefl (lt_of_le_of_lt (ge_of_same tells.ends) (lt_of_le_of_lt (le_of_same tells.begins) (lt_whole lt))))
    open_parts o lt (k ∷ n ∷ ks) tells =
        let worth : AreWorth (F so_far) (whole o) (whole (pos to)) (k ∷ n ∷ ks) = λ t v w. (tells.worth t v).0 w in
        subst (λ b. MatchBool b
        ((q : plain.Knot) × (pieces : List Piece) × TellsLeftOpen p so_far (whole o) (whole (pos to)) q pieces
        × (map part_of (lines_after k (n ∷ ks)) ≡ parts_after q.time pieces)) (map part_of (lines_after k (n ∷ ks)) ≡ [])) (sym (int_below o (pos to) lt)) (
          plain_knot margin_shape k,
          pieces_of margin_shape k (n ∷ ks),
          (
            tells.begins,
            tells_after p so_far (whole (pos to)) k n ks tells.signal.each
                (told_after (F so_far) (whole o) (whole (pos to)) k (n ∷ ks) tells.signal.each worth) tells.ends,
          ),
          after_parts k (n ∷ ks),
        )

    open_told : (G : Function) (start : ℕ) (o : ℤ) → o <ℤ pos to → (s : List (Knot Margin))
        → Tells margin_shape G (whole o) (whole (pos to)) s → IsLimited margin_shape s
        → ((q : Margin) → HasShape s q → IsMovedBy most q) → IsTick (whole o) → AreMore G most start (Some o) (Some (pos to)) (lines_of false s)
    open_told G start o lt [] tells limited moved first = let some = tells.signal.some in absurd (omega (arith, some))
    open_told G start o lt (k ∷ ks) tells limited moved first =
        let worth : AreWorth G (whole o) (whole (pos to)) (k ∷ ks) = λ t v w. (tells.worth t v).0 w in
        subst (λ b. MatchBool b (AreTold G (lines_after k ks) × AreFit most (lines_after k ks) × AreJoined (whole o) (whole (pos to)) (lines_after k ks))
        (lines_after k ks ≡ []))
        (sym (int_below o (pos to) lt)) (
          told_after G (whole o) (whole (pos to)) k ks tells.signal.each worth,
          fit_after G (whole o) (whole (pos to)) most first tick_to k ks worth limited moved,
          joined_same (time k) (whole o) (whole (pos to)) (lines_after k ks) tells.begins (joined_after (whole (pos to)) k ks tells.ends),
        )

    -- ---- both

    abbrev old_shown : Option ℤ
    old_shown = shown_of m.nodes m.old m.place

    parts_by : (b : Bool) → MatchBool b (old_shown ≡ None) ((k : ℤ) × (old_shown ≡ Some k))
        → AreNewParts p so_far old_shown (Some (pos to)) (map part_of (lines_of b s))
    parts_by true e =
        let tells : TellsFrom so_far (whole (pos (first_time rows))) =
        subst (λ o. TellsFrom so_far (from_of (turn_at so_far o))) e (swept so_far g.can.trace (itself so_far m.new.ended)).tells in
        subst (λ o. AreNewParts p so_far o (Some (pos to)) (map part_of (lines_of true s))) (sym e) (closed_parts s tells)
    parts_by false (k, e) =
        let tells : TellsFrom so_far (whole k) =
        subst (λ o. TellsFrom so_far (from_of (turn_at so_far o))) e (swept so_far g.can.trace (itself so_far m.new.ended)).tells in
        subst (λ o. AreNewParts p so_far o (Some (pos to)) (map part_of (lines_of false s))) (sym e) (open_parts k (before_is k e).1 s tells)

    told_by : (b : Bool) → MatchBool b (old_shown ≡ None) ((k : ℤ) × (old_shown ≡ Some k)) → (tr : Trace) → IsTrace tr → Continues tr m.header rows m.new.ended
        → AreMore (F tr) most (first_time rows) old_shown (Some (pos to)) (lines_of b s)
    told_by true e tr trace c =
        let same = begin_is tr trace c in
        let tells : TellsFrom tr (whole (pos (first_time rows))) =
        subst (λ n. TellsFrom tr (whole (pos n))) same (subst (λ o. TellsFrom tr (from_of (turn_at tr o))) e (swept tr trace c).tells) in
        let first : IsTick (whole (pos (first_time rows))) = subst (λ n. IsTick (whole (pos n))) same (tick_from None e tr trace c) in
        subst (λ o. AreMore (F tr) most (first_time rows) o (Some (pos to)) (lines_of true s)) (sym e)
        (closed_told (F tr) s tells (swept tr trace c).limited (moved_by tr trace c) first)
    told_by false (k, e) tr trace c =
        let tells : TellsFrom tr (whole k) = subst (λ o. TellsFrom tr (from_of (turn_at tr o))) e (swept tr trace c).tells in
        subst (λ o. AreMore (F tr) most (first_time rows) o (Some (pos to)) (lines_of false s)) (sym e)
        (open_told (F tr) (first_time rows) k (before_is k e).1 s tells (swept tr trace c).limited (moved_by tr trace c) (tick_from (Some k) e tr trace c))

    -- ---- the edges

    abbrev more : List MarginLine
    more = lines_of with_first s

    -- the edges once the number is noted
    abbrev noted : Held
    noted = record e'' { edges = with_edge e'' m.place (with_number (edge_at e'' m.place) (pos to)) }

    within : m.place < length m.nodes
    within = slice_get_within m.nodes m.place g.can.node g.can.at

    count' : length e'.edges ≡ length m.nodes
    count' = left.edges ∙ g.can.edges

    own_unread : (n : Node) (side : Bool) → slice_get m.nodes m.place ≡ Some n → IsReader n side m.place → ⊥
    own_unread n side at reads = let l = reader_above m.nodes g.can.nodes.formed m.place n side m.place at reads in omega (arith, l)

    own' : edge_at e' m.place ≡ edge_at e m.place
    own' = left.others m.place own_unread

    other'' : (j : ℕ) → j ≢ m.place → edge_at noted j ≡ edge_at e' j
    other'' j apart =
        edge_other e'' m.place j (with_number (edge_at e'' m.place) (pos to)) apart
        ∙ ap (λ l. get_or l j no_edge) put.edges ∙ edge_other e' m.place j (with_more (edge_at e' m.place) more) apart

    count'' : length e''.edges ≡ length m.nodes
    count'' = ap length put.edges ∙ length-set-edges e' m.place (with_more (edge_at e' m.place) more) ∙ count'

    got : edge_at noted m.place ≡ with_number (with_more (edge_at e m.place) more) (pos to)
    got =
        edge_same e'' m.place (with_number (edge_at e'' m.place) (pos to)) (omega (arith, within, count''))
        ∙ ap (λ x. with_number x (pos to)) (ap (λ l. get_or l m.place no_edge) put.edges
        ∙ edge_same e' m.place (with_more (edge_at e' m.place) more) (omega (arith, within, count'))
        ∙ ap (λ x. with_more x more) own')

    input_left : (n : Node) (j : ℕ) (side : Bool) → slice_get m.nodes m.place ≡ Some n → IsReader n side j
        → IsHeld m.nodes m.header m.new j m.new m.place (reach_back n side) (held_at noted j) × (number_at noted j ≡ number_at e j)
    input_left n j side at reads =
        let same : g.can.node ≡ n = same_Some _ _ (sym g.can.at ∙ at) in
        let reads' : IsReader g.can.node side j = subst (λ k. IsReader k side j) (sym same) reads in
        let (lines, gave, rest) = g.can.inputs j side reads' in
        let lower : j < m.place = reader_above m.nodes g.can.nodes.formed m.place n side j at reads in
        let kept : edge_at noted j ≡ edge_at e' j = other'' j (omega (arith, lower)) in
        let (cut, number) = left.inputs n j side at reads in
        let rest' : IsRest (back_of (first_time rows) old_shown (reach_back n side)) lines (held_at e j) =
        subst (λ k. IsRest (back_of (first_time rows) old_shown (reach_back k side)) lines (held_at e j)) same rest in
        let now_left : IsRest (back_of (first_time rows) (Some (pos to)) (reach_back n side)) lines (held_at e' j) =
        rest_cut (back_of (first_time rows) old_shown (reach_back n side)) (back_of (first_time rows) (Some (pos to)) (reach_back n side)) lines
        (edge_at e j) (edge_at e' j) (back_later (first_time rows) old_shown (reach_back n side) (pos to) (lower_before old_shown refl)) rest' cut in (
          (
            lines,
            gave,
            subst (λ o. IsRest (back_of (first_time rows) o (reach_back n side)) lines (held_at noted j)) (sym shown_new)
                (subst (λ x. IsRest (back_of (first_time rows) (Some (pos to)) (reach_back n side)) lines (held_of x)) (sym kept) now_left),
          ),
          ap (λ (x : Edge). x.number) kept ∙ number,
        )
      where
        lower_before : (o : Option ℤ) → old_shown ≡ o → IfSome o (λ k. k <ℤ pos to)
        lower_before None e = tt
        lower_before (Some k) e = (before_is k e).1

    seen_kept : (n : Node) → slice_get m.nodes m.place ≡ Some n → seen_by n noted ≡ seen_by n e'
    seen_kept n at = seen_same n e' noted (λ j side reads.
        let lower : j < m.place = reader_above m.nodes g.can.nodes.formed m.place n side j at reads in
        ap (λ (x : Edge). x.seen) (other'' j (omega (arith, lower))))

    -- what it leaves is what its node leaves
    pub has_moved : HasMoved m (W.Operator op') e noted
    has_moved = record {
      more = more;
      number = pos to;
      number_is = g.number;
      got = got;
      parts = subst (λ o. AreNewParts p so_far old_shown o (map part_of more)) (sym shown_new) (parts_by with_first g.first);
      told = λ tr trace c. subst (λ o. AreMore (F tr) most (first_time rows) old_shown o more) (sym shown_new) (told_by with_first g.first tr trace c);
      work = λ n at. (
        subst (λ k. ¬ IsLeaf k) (same_Some _ _ (sym g.can.at ∙ at)) g.can.work.0,
        λ tr trace c.
            subst (λ o. Stands n m.nodes m.place tr o op' (seen_by n noted)) (sym shown_new)
            (subst (λ l. Stands n m.nodes m.place tr (Some (pos to)) op' l) (sym (seen_kept n at)) (stands tr trace c n at)),
      );
      inputs = input_left;
      others = λ j apart unread. other'' j apart ∙ left.others j unread;
      edges = length-set-edges e'' m.place (with_number (edge_at e'' m.place) (pos to)) ∙ count'' ∙ sym g.can.edges;
      start = put.start ∙ left.start;
    }
