-- What the body of a window leaves of a step that is due.
use Rattle.std.proofs.Common.{◌≡◌, ◌⊎◌, inl, inr, refl, sym, ap, subst, ◌∙◌, ℕ, ◌+◌, ◌^◌, Bool, true, false, not}
use Rattle.std.proofs.Common.{Option, Some, None, [], length, slice_get, ℤ, pos, neg_ℤ, ◌+ℤ◌, ◌≤ℤ◌, arith}
use Rattle.std.specs.Prelude.{MatchBool}
use Rattle.std.proofs.lemmas.Int.{ints}
use Rattle.rational.specs.Rational.{Rational, ◌≤ʳ◌, ◌<ʳ◌, ◌≈◌, add, whole}
use Rattle.rational.proofs.Mixed.{parts}
use Rattle.rational.proofs.Order.{le_trans, le_of_lt, le_of_same, not_lt_of_le}
use Rattle.rational.proofs.Shift.{le_shift, le_whole}
use Rattle.frac128.specs.Value.{value}
use Rattle.frac128.specs.Spans.{interval}
use Rattle.stl_syntax.specs.Trace.{Trace, start, stop as last}
use Rattle.stl_syntax.specs.Formula.{Subformula, subformula}
use Rattle.stl_syntax.specs.declared.items.Verdict.{Verdict}
use Rattle.online_nodes.specs.Network.{moved_by}
use Rattle.online_nodes.specs.Answering.{HasSweptAll, HasToldAll, IsInput, is_empty}
use Rattle.online_nodes.specs.Stepping.{Situation, HasWorkedOut, IsBegun, IsDue, LeavesLater, end_of, first_in, formula_of}
use Rattle.online_nodes.specs.Stepping.{stretch_of, trace_in}
use Rattle.rational.specs.Places.{After, Place, Same, Upto, begins, moved_begin}
use Rattle.frac128.specs.Cuts.{place}
use Rattle.online_nodes.specs.Held.{Held, fresh_at, held_at, number_at}
use Rattle.online_nodes.specs.Kinds.{held_in, inputs_of, open_by}
use Rattle.online_nodes.specs.Operators.{KnowsBy, front_place, place_of, read_upto}
use Rattle.online_nodes.specs.Truths.{Is, Knows, Truths}
use Rattle.online_nodes.specs.Sweeps.{Counted, CountsBeyond, FitsIn, HasSwept, IsWindowOf, high_place, low_place}
use Rattle.online_nodes.specs.Working.{HasWorked}
use Rattle.online_nodes.specs.Written.{waiting}
use Rattle.frac128.specs.declared.cut.Cut.{Cut}
use Rattle.online_nodes.specs.declared.kind.Kind.{Kind}
use Rattle.online_nodes.specs.declared.kind.Kind.TheVariants.{Over}
use Rattle.online_nodes.specs.declared.operator.Operator.{Operator}
use Rattle.online_nodes.specs.declared.window.Window.{Window}
use Rattle.online_nodes.specs.declared.answering.Marks.{Marks}
use Rattle.online_nodes.specs.declared.answering.Outcome.{Outcome}
use Rattle.online_nodes.proofs.BelongLemmas.{own_bounds, own_reach_small}
use Rattle.online_nodes.proofs.AlikeLemmas.{is_like, told_like}
use Rattle.online_nodes.proofs.DueLemmas.{among_first, among_telling, begun_at, begun_inside, begun_told, due_cases, formula_is}
use Rattle.online_nodes.proofs.DueLemmas.{front_by_now, kind_is, knows_at}
use Rattle.online_nodes.proofs.TellingLemmas.{fresh_counted, fresh_within}
use Rattle.online_nodes.proofs.AnsweringLemmas.{fresh_few, worked_one}
use Rattle.online_nodes.proofs.ToldSoFar.{same_itself}
use Rattle.rational.proofs.PlaceLemmas.{after_same, sides, not_both, same_before, same_places, same_trans_places, upto_same}
use Rattle.rational.proofs.PlaceLemmas.{after_at_most, same_of_at_most}
use Rattle.online_nodes.proofs.ReadLemmas.{stop_is}
use Rattle.online_nodes.proofs.RunLaw.{lesser, moved}
use Rattle.online_nodes.proofs.WindowedLemmas.{HasWindow, fits_moved, none_in_window, some_in_window, window_node}
use Rattle.online_nodes.proofs.WorkedLemmas.{all_worked, read_place}

-- before the trace and beyond it nothing counts
pub beyond_trace : (seeks : Bool) (p : Subformula) (tr : Trace) (u : Rational) → last tr <ʳ u → Is (not seeks) (Counted seeks p tr) u
beyond_trace true p tr u l = λ c. not_lt_of_le c.0.below l
beyond_trace false p tr u l = λ w. absurd (not_lt_of_le w.below l)

-- before the trace nothing counts
pub before_trace : (seeks : Bool) (p : Subformula) (tr : Trace) (u : Rational) → u <ʳ start tr → Is (not seeks) (Counted seeks p tr) u
before_trace true p tr u l = λ c. not_lt_of_le c.0.above l
before_trace false p tr u l = λ w. absurd (not_lt_of_le w.above l)

-- places by other names
pub knows_same : {seeks : Bool} {P : Truths} {low high : Rational → Place} (at at' reach read read' stop : Place) → Same at at' → Same read read'
    → Knows seeks P low high at reach read stop → Knows seeks P low high at' reach read' stop
knows_same at at' reach read read' stop s r k = record {
  counts = λ t a b. k.counts t (after_same at' at t (same_places s) a) b;
  rest = λ t u a b lo hi h. k.rest t u (after_same at' at t (same_places s) a) b lo hi (upto_same read' read u (same_places r) h);
}

-- the sum of whole times is whole
pub whole_sum : (j k : ℤ) → add (whole j) (whole k) ≈ whole (j +ℤ k)
whole_sum j k = record { same = omega (arith, parts) }

-- where a window ends that begins no later than a number
pub window_ends : (w : Window) (front f : ℤ) (t u : Rational) → t ≤ʳ whole front → Upto (high_place w t) u → front ≤ℤ (f +ℤ w.begin_by)
    → u ≤ʳ whole f
window_ends w front f t u h hi l =
    le_trans (by_side w.begin_in hi)
    (le_trans (le_shift (neg_ℤ w.begin_by) h)
    (le_trans (le_of_same (whole_sum front (neg_ℤ w.begin_by))) (let m : (front +ℤ neg_ℤ w.begin_by) ≤ℤ f = omega (arith, ints) in le_whole m)))
  where
    by_side : (b : Bool) → MatchBool b (u ≤ʳ add t (whole (neg_ℤ w.begin_by))) (u <ʳ add t (whole (neg_ℤ w.begin_by)))
        → u ≤ʳ add t (whole (neg_ℤ w.begin_by))
    by_side true h = h
    by_side false h = le_of_lt h

module _ {k : Kind} {w : Window} (is : k ≡ Over w) where
  -- what the input holds is what the window's edge holds
  pub window_held : (e : Held) → held_in e (inputs_of k) ≡ length (held_at e w.of) + 0
  window_held e = ap (λ k. held_in e (inputs_of k)) is

  -- the window's input is the node's
  pub window_input : (j : ℕ) → w.of ≡ j → IsInput k j
  window_input j h = subst (λ k. IsInput k j) (sym is) h

  -- the node has no input but the window's
  pub input_window : (j : ℕ) → IsInput k j → w.of ≡ j
  input_window j h = subst (λ k. IsInput k j) is h

  -- what the marks say of the input is what the window knows
  pub window_knows : (x : Situation) (e : Held) (at reach run : Place)
      → Knows w.seeks (Counted w.seeks (subformula x.nodes w.of) (trace_in x)) (low_place w) (high_place w) at reach (read_upto e w.of)
      (front_place e w.of) → KnowsBy k x.nodes (trace_in x) e at reach run
  window_knows x e at reach run h = subst (λ k. KnowsBy k x.nodes (trace_in x) e at reach run) (sym is) h

  -- what the window knows of the input is what the marks say
  pub knows_window : (x : Situation) (e : Held) (at reach run : Place) → KnowsBy k x.nodes (trace_in x) e at reach run
      → Knows w.seeks (Counted w.seeks (subformula x.nodes w.of) (trace_in x)) (low_place w) (high_place w) at reach (read_upto e w.of)
      (front_place e w.of)
  knows_window x e at reach run h = subst (λ k. KnowsBy k x.nodes (trace_in x) e at reach run) is h

  -- what the window leaves counts beyond the stretch alone
  pub window_leaves : (e : Held) (to run : Place) → (is_empty w ≡ false → CountsBeyond e w to) → LeavesLater k e to run
  window_leaves e to run h = subst (λ k. LeavesLater k e to run) (sym is) h

  -- the number that it may have by its input's
  pub window_number : (e : Held) (now : ℕ) (f : ℤ) → open_by k e now ≡ Some f → (g : ℤ) × (number_at e w.of ≡ Some g) × (f ≤ℤ (g +ℤ w.begin_by))
  window_number e now f h =
      let l = lesser (moved_by w.begin_by (number_at e w.of)) (Some (pos now)) f (subst (λ k. open_by k e now ≡ Some f) is h) in
      let m = moved w.begin_by (number_at e w.of) l.0 l.2 in
      (m.0, m.1, (let q = m.2 in let r = l.4 in omega (arith, ints)))

module _ {x : Situation} {op : Operator} {old : Held} {work : Outcome} (d : IsDue x op old) (g : IsBegun x op work) {w : Window}
    (is : op.kind ≡ Over w) (has : HasWindow (formula_of x op) (subformula x.nodes w.of) (trace_in x) w (end_of x)) where
  -- the window's input is an input of the operator
  pub among_window : IsInput op.kind w.of
  among_window = window_input is w.of refl

  -- nothing counts beyond what the input is answered
  beyond : (t u : Rational) → Upto (place work.out.to) t → Upto (high_place w t) u → After (front_place old w.of) u
      → Is (not w.seeks) (Counted w.seeks (subformula x.nodes w.of) (trace_in x)) u
  beyond t u h hi after = elim (due_cases d) [
    | inl s ↦ beyond_trace w.seeks (subformula x.nodes w.of) (trace_in x) u
        (subst (λ q. q <ʳ u) (sym (stop_is d.belongs)) (subst (λ (o : Option ℤ). After (place_of o) u) (s.0 w.of among_window) after))
    | inr s ↦
        let n = window_number is old x.now x.front s in
        absurd (not_lt_of_le (window_ends w x.front n.0 t u (upto_same (place work.out.to) (end_of x) t g.end h) hi n.2)
        (subst (λ (o : Option ℤ). After (place_of o) u) n.1 after))
  ]

  within : (t u : Rational) → Upto (place work.out.to) t → Upto (high_place w t) u
      → Upto (front_place old w.of) u ⊎ Is (not w.seeks) (Counted w.seeks (subformula x.nodes w.of) (trace_in x)) u
  within t u h hi = elim (sides (front_place old w.of) u) [ inl s ↦ inl s | inr s ↦ inr (beyond t u h hi s) ]

  begun_knows : Knows w.seeks (Counted w.seeks (subformula x.nodes w.of) (trace_in x)) (low_place w) (high_place w) (place work.out.at)
      (place work.marks.reach) (read_upto old w.of) (front_place old w.of)
  begun_knows = by_front op.front refl
    where
      by_front : (o : Option ℕ) → op.front ≡ o
          → Knows w.seeks (Counted w.seeks (subformula x.nodes w.of) (trace_in x)) (low_place w) (high_place w) (place work.out.at)
          (place work.marks.reach) (read_upto old w.of) (front_place old w.of)
      by_front None h =
          let reach : work.marks.reach ≡ work.out.at = (g.first h).0 ∙ sym g.at in
          record {
            counts = λ t a b. absurd (not_both (place work.out.at) t (subst (λ (c : Cut). Upto (place c) t) reach b) a);
            rest = λ t u a b lo hi r.
                before_trace w.seeks (subformula x.nodes w.of) (trace_in x) u (among_first d w.of among_window h u r);
          }
      by_front (Some f) h =
          let begin : Same (record { at = whole (pos f); after = true }) (place work.out.at) =
          subst (λ (o : Option ℕ). Same (begins (stretch_of x (record op { front = o }))) (place work.out.at)) h (begun_at d g) in
          subst (λ (c : Cut). Knows w.seeks (Counted w.seeks (subformula x.nodes w.of) (trace_in x)) (low_place w) (high_place w)
          (place work.out.at) (place c) (read_upto old w.of) (front_place old w.of)) (sym (g.later f h).0)
          (knows_same (record { at = whole (pos f); after = true }) (place work.out.at) (place op.reach) (read_upto old w.of) (read_upto old w.of)
          (front_place old w.of) begin (same_itself (read_upto old w.of))
          (knows_window is x old (record { at = whole (pos f); after = true }) (place op.reach) (place op.run) (knows_at d f h)))

  -- the ends of the input's verdicts can be moved
  pub window_fits : (k : ℕ) (v : Verdict) → slice_get (fresh_at old w.of) k ≡ Some v → FitsIn w v
  window_fits k v h =
      let inside = fresh_within (among_telling d w.of among_window) k v h in
      let from : whole (pos 0) ≤ʳ value v.on.from = le_trans (let z : pos 0 ≤ℤ pos (first_in x) = omega (arith, ints) in le_whole z) inside.0 in
      let to : value v.on.to ≤ʳ whole (pos (2 ^ 32)) =
      le_trans inside.2 (let z : pos x.now ≤ℤ pos (2 ^ 32) = (let s = d.small in omega (arith, ints)) in le_whole z) in
      let order = has.order in let low = has.begin_low in let high = has.end_high in (
        fits_moved w.begin_by from (le_trans inside.1 to) low (omega (arith, ints)),
        fits_moved w.end_by (le_trans from inside.1) to (omega (arith, ints)) high,
      )

  -- the sweep is the work of the step
  pub window_worked : {new : Held} (done : Outcome) → is_empty w ≡ false
      → HasSwept old new w (record { out = work.out; reach = work.marks.reach }) (record { out = done.out; reach = done.marks.reach })
      → HasWorkedOut x op old new done
  window_worked {new} done full swept =
      let of : IsWindowOf has.like (subformula x.nodes w.of) (trace_in x) w (place work.out.to) (front_place old w.of) =
      record { looks = has.looks; some = some_in_window w has.order full; within = within } in
      let told = swept.told has.like (subformula x.nodes w.of) (trace_in x) (begins (stretch_of x op)) [] (read_upto old w.of)
      (front_place old w.of) of (record {
        told = begun_told d g has.like (trace_in x);
        knows = begun_knows;
        tells = fresh_counted (among_telling d w.of among_window) w.seeks refl (stop_is d.belongs);
      }) in
      let worked : HasWorked old new op.node w.of w.of swept.more = subst (λ (i : ℕ). HasWorked old new i w.of w.of swept.more) g.edge swept.worked in
      let stop : front_place old w.of ≡ front_place new w.of = ap place_of (sym worked.left_read.number) in
      let there : Same (place done.out.at) (end_of x) =
      same_trans_places (same_of_at_most (place done.out.at) (place work.out.to) swept.inside swept.all) g.end in
      let from : Same told.0 (read_upto new w.of) =
      read_place (Counted w.seeks (subformula x.nodes w.of) (trace_in x)) new w.of told.0 (front_place old w.of) stop told.1.tells in
      record {
        more = swept.more;
        owed = (let f = fresh_few old w.of in let m = swept.owed in let z = ap waiting g.holds in let h = window_held is old in omega arith);
        worked = worked_one op.kind w.of old new op.node swept.more (input_window is) (window_input is) worked;
        edge = swept.edge ∙ g.edge;
        sound = swept.sound;
        end = there;
        told = told_like has.alike (begins (stretch_of x op)) swept.more done.out
            (λ t u. upto_same (place done.out.at) (end_of x) t there u) told.1.told;
        knows = window_knows is x new (end_of x) (place done.marks.reach) (place done.marks.run)
            (subst (λ (q : Place). Knows w.seeks (Counted w.seeks (subformula x.nodes w.of) (trace_in x)) (low_place w) (high_place w) (end_of x)
            (place done.marks.reach) (read_upto new w.of) q) stop
            (knows_same (place done.out.at) (end_of x) (place done.marks.reach) told.0 (read_upto new w.of) (front_place old w.of) there from told.1.knows));
        unread = window_leaves is new (end_of x) (place done.marks.run) (λ full v first.
            same_before (end_of x) (place work.out.to) (moved_begin w.begin_by w.begin_in (begins (interval v.on))) (same_places g.end)
            (swept.beyond v first));
      }

  -- in a window with no time in it nothing is found
  pub empty_worked : {new : Held} (done : Outcome) → is_empty w ≡ true → HasToldAll old new (not w.seeks) work.out work.marks done
      → HasWorkedOut x op old new done
  empty_worked {new} done empty told =
      all_worked d g (not w.seeks) done told
      (λ t h. is_like has.alike (not w.seeks) t h (has.looks.spared t (λ u lo hi. absurd (none_in_window w has.order empty t u lo hi))))
      (window_knows is x new (end_of x) (place done.marks.reach) (place done.marks.run) (record {
        counts = λ t a b.
            let c = begun_knows.counts t (before_end t a) (subst (λ (m : Marks). Upto (place m.reach) t) told.kept b) in
            absurd (none_in_window w has.order empty t c.0 c.1 c.2);
        rest = λ t u a b lo hi h. absurd (none_in_window w has.order empty t u lo hi);
      }))
      (window_leaves is new (end_of x) (place done.marks.run) (λ full. absurd (let z : true ≡ false = sym empty ∙ full in cc)))
    where
      before_end : (t : Rational) → After (end_of x) t → After (place work.out.at) t
      before_end t a = after_at_most (place work.out.at) (end_of x) t
          (λ s h. upto_same (place work.out.to) (end_of x) s g.end (begun_inside d g s h)) a

  -- a window, with a time in it or not
  pub sweep_worked : {new : Held} (done : Outcome) → HasSweptAll w old new work.out work.marks done → HasWorkedOut x op old new done
  sweep_worked {new} done swept = by_test (is_empty w) refl
    where
      by_test : (t : Bool) → is_empty w ≡ t → HasWorkedOut x op old new done
      by_test true e = empty_worked done e (swept.empty e)
      by_test false e = window_worked done e (swept.swept e)

-- the operator's window
pub has_window : {x : Situation} {op : Operator} {old : Held} (d : IsDue x op old) {w : Window} → op.kind ≡ Over w
    → HasWindow (formula_of x op) (subformula x.nodes w.of) (trace_in x) w (end_of x)
has_window {x} {op} {old} d {w} e =
    subst (λ (n : Subformula). HasWindow n (subformula x.nodes w.of) (trace_in x) w (end_of x)) (sym (formula_is d))
    (window_node (subformula x.nodes) op.node (trace_in x) (end_of x) x.now d.small (λ t u. le_trans u (le_whole (front_by_now d)))
    d.belongs.stands.node w (sym (kind_is d) ∙ e) (own_bounds d.belongs) (own_reach_small d.belongs))
