-- From what an operator needs before it goes on to what its body needs, and back from what the body leaves.
use Rattle.std.proofs.Common.{◌≡◌, ◌≢◌, inl, inr, ℕ, ◌+◌, ◌<◌, ◌≤◌, Bool, true, false, List, [], ◌∷◌, length, refl}
use Rattle.std.proofs.Common.{sym, ap, subst, ◌∙◌, arith, Option, Some, None, ℤ, pos, ◌+ℤ◌, ◌<ℤ◌, ◌≤ℤ◌}
use Rattle.std.specs.Prelude.{◌⊎◌, MatchBool, IfSome, IsSome, int_lt, cond, slice_get}
use Rattle.std.proofs.lemmas.Int.{ints}
use Rattle.std.proofs.lemmas.Option.{slice_get_within, same_Some}
use Rattle.rational.specs.Time.{Rational, whole, ◌≈◌, ◌≤ʳ◌, ◌<ʳ◌}
use Rattle.rational.specs.Extended.{Affine, Extended, opposite, IsGreatest}
use Rattle.rational.specs.InPlay.{IsInPlay, of_two, IsWideCrossing}
use Rattle.rational.specs.Windows.{Function}
use Rattle.rational.proofs.Order.{le_refl, le_trans, le_of_same, ge_of_same, lt_of_le_of_lt, same_refl, same_sym, same_trans}
use Rattle.rational.proofs.ExtendedLemmas.{opposite_twice}
use Rattle.rational.proofs.Shift.{le_whole}
use Rattle.rational.proofs.Tests.{int_order}
use Rattle.rational.proofs.Events.{crossing_by}
use Rattle.frac128.specs.Value.{value}
use Rattle.value_laws.specs.Kinds.{margin_shape}
use Rattle.value_laws.specs.Margins.{margin_function}
use Rattle.value_laws.specs.declared.margin.Margin.{Margin}
use Rattle.pl_signal.specs.declared.knot.Knot.{Knot}
use Rattle.pl_signal.specs.Moves.{Tells}
use Rattle.pl_signal.specs.declared.faults.OpFault.{OpFault}
use Rattle.pl_signal.specs.declared.faults.OpFault.TheVariants as F
use Rattle.pl_signal.specs.declared.faults.WidePair.TheVariants.{Cross, Value}
use Rattle.pl_signal.specs.declared.joining.Side.{Side}
use Rattle.pl_signal.specs.declared.joining.Side.TheVariants.{Least, Greatest}
use Rattle.pl_signal.proofs.Telling.{told as tells_between}
use Rattle.stl_syntax.specs.Trace.{Trace, start, stop, last_time}
use Rattle.stl_syntax.specs.Formula.{Subformula, negation, subformula, horizon, tree_of}
use Rattle.stl_syntax.specs.SupInf.{Robustness, margin_setting}
use Rattle.stl_syntax.specs.Limits.{own_reach}
use Rattle.stl_syntax.specs.PostOrder.{children}
use Rattle.stl_syntax.specs.WideCause.{IsInPlayAt}
use Rattle.stl_syntax.specs.declared.node.Node.{Node}
use Rattle.stl_syntax.proofs.PostOrderLemmas.{inputs_apart}
use Rattle.stl_syntax.specs.declared.node.Node.TheVariants as N
use Rattle.online_nodes.specs.Network.{reach_back}
use Rattle.online_nodes.specs.Needed.{IsReader}
use Rattle.online_nodes.specs.StreamedWide.{front_at}
use Rattle.online_robust.specs.Lines.{end_of}
use Rattle.online_robust.specs.Held.{Edge, Held, edge_at, held_at, held_of}
use Rattle.online_robust.specs.Told.{AreTold, AreFit, AreJoined, IsMovedBy, IsTick}
use Rattle.online_robust.specs.ReadLines.{Begins, HasReached, IsAhead, IsReady, IsStretch, Loses, LosesAt, LosesAtBoth, turned_by}
use Rattle.online_robust.specs.Couples.{both_of, left_of, right_of, CanJoin, CanNegate, Couple, IsCoupleFault, IsJoinedTo, IsNegatedTo}
use Rattle.online_robust.specs.Standing.{HasStood, IsTwoOf, two_of}
use Rattle.online_robust.specs.Steps.{Step, Belongs, AreInputs, AreLeft, HasSwept, IsCut, IsInput, IsStreamedFault}
use Rattle.online_robust.specs.Steps.{IsSwept, StandsNow, back_of, begin_of, from_of, reach_before}
use Rattle.online_robust.specs.declared.line.MarginLine.{MarginLine}
use Rattle.online_robust.specs.declared.line.MarginLine.TheVariants.{Point, Gap}
use Rattle.online_robust.specs.declared.line.Reached.{Reached}
use Rattle.online_robust.specs.declared.operator.Operator.{Operator}
use Rattle.online_robust.specs.declared.operator.Operator.TheVariants as Op
use Rattle.online_robust.specs.declared.pointwise.Not as Negated
use Rattle.online_robust.specs.declared.pointwise.Two.{Two}
use Rattle.node_edges.proofs.DroppingLemmas.{held_of-without}
use Rattle.online_robust.proofs.Readers.{reader_above, tree_at_node}
use Rattle.online_robust.proofs.Robustly.{robust_is_function}

-- ---- numbers

-- a number that is not below the start, with nothing added
back_here : (start : ℕ) (g : ℤ) → pos start ≤ℤ g → back_of start (Some g) (pos 0) ≡ Some (g +ℤ pos 0)
back_here start g le = by_test (int_lt (g +ℤ pos 0) (pos start)) refl
  where
    by_test : (t : Bool) → int_lt (g +ℤ pos 0) (pos start) ≡ t → cond (int_lt (g +ℤ pos 0) (pos start)) None (Some (g +ℤ pos 0)) ≡ Some (g +ℤ pos 0)
    by_test true e = let lt = int_order (g +ℤ pos 0) (pos start) true e in absurd (omega (arith, ints, le, lt))
    by_test false e = rw e refl

whole_here : (g : ℤ) → whole (g +ℤ pos 0) ≈ whole g
whole_here g = let e : g +ℤ pos 0 ≡ g = omega (arith, ints) in subst (λ n. whole (g +ℤ pos 0) ≈ whole n) e (same_refl (whole (g +ℤ pos 0)))

-- an input whose number is not below the start has given out lines
pub inputs_of : (F : Function) (reach start : ℕ) (back : Option ℤ) (f : ℤ) (lines : List MarginLine) → pos start ≤ℤ f → IsInput F reach start back f lines
    → AreInputs F reach start back f lines
inputs_of F reach start back f lines le input = by_test (int_lt f (pos start)) refl input
  where
    by_test : (t : Bool) → int_lt f (pos start) ≡ t → MatchBool t (lines ≡ []) (AreInputs F reach start back f lines) → AreInputs F reach start back f lines
    by_test true e none = let lt = int_order f (pos start) true e in absurd (omega (arith, ints, le, lt))
    by_test false e inputs = inputs

-- what was not let go at a number was not at an earlier one
pub none_let_go : (start to : ℕ) (k : ℤ) (o : Option ℤ) → IfSome o (λ g. (pos start ≤ℤ g) × (g <ℤ pos to)) → int_lt (pos to +ℤ k) (pos start) ≡ true
    → back_of start o k ≡ None
none_let_go start to k None forth is = refl
none_let_go start to k (Some g) forth is = by_test (int_lt (g +ℤ k) (pos start)) refl
  where
    by_test : (c : Bool) → int_lt (g +ℤ k) (pos start) ≡ c → cond c None (Some (g +ℤ k)) ≡ None
    by_test true f = refl
    by_test false f =
        let le = int_order (g +ℤ k) (pos start) false f in
        let lt = int_order (pos to +ℤ k) (pos start) true is in
        let after = forth.1 in
        absurd (omega (arith, ints, le, lt, after))

-- ---- reading

-- the first line after a point ends after it
ends_after : (F : Function) (u to : Rational) (lines : List MarginLine) → AreTold F lines → AreJoined u to lines
    → IfSome (slice_get lines 0) (λ x. u <ʳ value (end_of x))
ends_after F u to [] told joined = tt
ends_after F u to (Gap a b p ∷ []) told joined = absurd joined
ends_after F u to (Gap a b p ∷ Gap c d q ∷ lines) told joined = absurd joined
ends_after F u to (Gap a b p ∷ Point w v ∷ lines) told joined = lt_of_le_of_lt (ge_of_same joined.0) told.0.0
ends_after F u to (Point w v ∷ lines) told joined = absurd joined

module _ (F : Function) (reach start : ℕ) (f : ℤ) (lines : List MarginLine) where
  -- a node that has told nothing finds its input from the start on
  pub begins : AreInputs F reach start None f lines → Begins F reach (whole (pos start)) (whole f) lines
  begins inputs = by_left inputs.left
    where
      by_left : AreLeft start None f lines → Begins F reach (whole (pos start)) (whole f) lines
      by_left (at, v, rest, is, when, joined) =
          let told : AreTold F (Point at v ∷ rest) = subst (AreTold F) is inputs.told in
          let fit : AreFit reach (Point at v ∷ rest) = subst (AreFit reach) is inputs.fit in record {
            at = at;
            v = v;
            rest = rest;
            is = is;
            when = when;
            tick = fit.0.0;
            there = record { told = told.0; bounded = fit.0.1; moved = fit.0.2 };
            ahead = record {
              told = told.1;
              fit = fit.1;
              from = value at;
              begun = le_refl (value at);
              joined = joined;
              later = ends_after F (value at) (whole f) rest told.1 joined;
            };
          }

  -- a node that has told up to a time finds its input from there on
  pub ahead : (back : ℤ) (t : Rational) → whole back ≈ t → AreInputs F reach start (Some back) f lines → IsAhead F reach t (whole f) lines
  ahead back t e inputs = by_left inputs.left
    where
      weaker : (o : Option MarginLine) → IfSome o (λ x. whole back <ʳ value (end_of x)) → IfSome o (λ x. t <ʳ value (end_of x))
      weaker None h = tt
      weaker (Some x) h = lt_of_le_of_lt (ge_of_same e) h

      by_left : AreLeft start (Some back) f lines → IsAhead F reach t (whole f) lines
      by_left (from, le, joined, later) = record {
        told = inputs.told;
        fit = inputs.fit;
        from = from;
        begun = le_trans le (le_of_same e);
        joined = joined;
        later = weaker (slice_get lines 0) later;
      }

-- what was reached, as the body has it
reached_before : (G : Function) (most : ℕ) (before : Option ℤ) (last : Option Reached) (from : Rational) → ((g : ℤ) → before ≡ Some g → from ≡ whole g)
    → HasStood G most before last → HasReached G most from last
reached_before G most None last from is stood = subst (HasReached G most from) (sym stood) tt
reached_before G most (Some g) last from is (r, kept, reached) =
    subst (HasReached G most from) (sym kept) (subst (λ t. HasReached G most t (Some r)) (sym (is g refl)) reached)

-- and as it leaves it
pub stood_after : (G : Function) (most : ℕ) (g : ℤ) (last : Option Reached) → IsSome last → HasReached G most (whole g) last → HasStood G most (Some g) last
stood_after G most g None some reached = absurd (let e = some in cc)
stood_after G most g (Some r) some reached = (r, refl, reached)

-- ---- what was dropped

cut : (F : Function) (reach start to : ℕ) (limit far : Rational) (old new : Edge) → start ≤ to → limit ≈ whole (pos to) → Loses limit old new
    → IsAhead F reach limit far (held_of new) → IsCut (back_of start (Some (pos to)) (pos 0)) old new × (new.number ≡ old.number)
cut F reach start to limit far old new le same lost ahead = (
  subst (λ b. IsCut b old new) (sym (back_here start (pos to) (omega (arith, ints, le)))) (record {
    count = lost.count;
    is = ap held_of lost.is ∙ held_of-without lost.count old;
    ended = λ k h. weaker (slice_get (held_of old) k) (lost.ended k h);
    rest = later (slice_get (held_of new) 0) ahead.later;
  }),
  ap (λ (x : Edge). x.number) lost.is,
)
  where
    here : limit ≈ whole (pos to +ℤ pos 0)
    here = same_trans same (same_sym (whole_here (pos to)))

    weaker : (o : Option MarginLine) → IfSome o (λ x. value (end_of x) ≤ʳ limit) → IfSome o (λ x. value (end_of x) ≤ʳ whole (pos to +ℤ pos 0))
    weaker None h = tt
    weaker (Some x) h = le_trans h (le_of_same here)

    later : (o : Option MarginLine) → IfSome o (λ x. limit <ʳ value (end_of x)) → IfSome o (λ x. whole (pos to +ℤ pos 0) <ʳ value (end_of x))
    later None h = tt
    later (Some x) h = lt_of_le_of_lt (ge_of_same here) h

-- ---- a signal that tells the same

same_told : (F G : Function) (from to : Rational) (s : List (Knot Margin))
    → ((t : Rational) (v : Extended) → (F t v → G t v) × (G t v → F t v)) → Tells margin_shape F from to s
    → Tells margin_shape G from to s
same_told F G from to s same tells = record {
  signal = tells.signal;
  begins = tells.begins;
  ends = tells.ends;
  worth = λ t v. (λ w. let h = (tells.worth t v).0 w in (h.0, (same t v).0 h.1), λ (i, g). (tells.worth t v).1 (i, (same t v).1 g));
}

-- a connective by its parts
abbrev made_two : ℕ → ℕ → Side → Bool → Option Reached → Two
made_two left right side turned last = record { left = left; right = right; side = side; turned = turned; last = last }

two_is : (x : Two) (p q : ℕ) (side : Side) (turned : Bool) → x.left ≡ p → x.right ≡ q → x.side ≡ side → x.turned ≡ turned
    → x ≡ record { left = p; right = q; side = side; turned = turned; last = x.last }
two_is x p q side turned l r s u =
    ap (λ k. made_two k x.right x.side x.turned x.last) l ∙ ap (λ k. made_two p k x.side x.turned x.last) r
    ∙ ap (λ k. made_two p q k x.turned x.last) s ∙ ap (λ k. made_two p q side k x.last) u

-- what is kept of its inputs is no matter of its node
kept_two : (n : Node) (x : Two) (last : Option Reached) → IsTwoOf n x → IsTwoOf n (record x { last = last })
kept_two (N.And p q) x last h = h
kept_two _ x last h = h

-- ---- any operator

module _ (t : Step) (op : Operator) (e : Held) (to : ℕ) (b : Belongs t op e to) where
  abbrev own : Subformula
  own = subformula t.nodes t.place

  -- the node's margin is that of its tree
  pub tree : own ≡ tree_of (subformula t.nodes) t.place b.node
  tree = tree_at_node t.nodes b.formed t.place b.node b.at

  -- a node without a number begins at the begin of its times
  pub from_none : t.before ≡ None → from_of t ≡ whole (pos (begin_of t))
  from_none e = by_before t.before e
    where
      by_before : (o : Option ℤ) → o ≡ None → from_of (record t { before = o }) ≡ whole (pos (begin_of t))
      by_before None e = refl
      by_before (Some g) e = absurd (let f = e in cc)

  -- a node with a number goes on from there
  pub from_some : (g : ℤ) → t.before ≡ Some g → from_of t ≡ whole g
  from_some g e = by_before t.before e
    where
      by_before : (o : Option ℤ) → o ≡ Some g → from_of (record t { before = o }) ≡ whole g
      by_before None e = absurd (let f = e in cc)
      by_before (Some h) e = ap whole (same_Some _ _ e)

  -- a node's number does not lie before the begin of its times
  pub low_before : IfSome t.before (λ g. pos (begin_of t) ≤ℤ g)
  low_before = by_before t.before b.forth
    where
      by_before : (o : Option ℤ) → IfSome o (λ g. (pos (begin_of t) ≤ℤ g) × (g <ℤ pos to)) → IfSome o (λ g. pos (begin_of t) ≤ℤ g)
      by_before None h = tt
      by_before (Some g) h = h.0

  -- a signal that tells what is the value of the node's tree tells the node's
  pub swept_of : (P : Function) (end : Rational) (s : List (Knot Margin)) → end ≈ whole (pos to)
      → ((u : Rational) (v : Extended) → u ≤ʳ end → P u v → Robustness (tree_of (subformula t.nodes) t.place b.node) t.trace u v)
      → IsStretch P (reach_before t + own_reach b.node) (from_of t) end s → IsSwept t to s
  swept_of P end s same holds is = record {
    tells = tells_between margin_shape (Robustness own t.trace) (from_of t) (whole (pos to)) s (robust_is_function own t.trace)
        (record {
          signal = is.tells.signal;
          worth = λ u v h. let (within, there) = (is.tells.worth u v).0 h in subst (λ p. Robustness p t.trace u v) (sym tree) (holds u v within.below there);
        }) is.tells.begins (same_trans is.tells.ends same);
    limited = is.limited;
    moved = λ node found p has. subst (λ (n : Node). IsMovedBy (reach_before t + own_reach n) p) (same_Some _ _ (sym b.at ∙ found)) (is.moved p has);
  }

  -- an input is ready, for a node that reads it at its own time
  ready : (G : Function) (j : ℕ) (f : ℤ) (last : Option Reached) → pos (begin_of t) ≤ℤ f
      → IsInput (Robustness (subformula t.nodes j) t.trace) (reach_before t) (begin_of t) (back_of (begin_of t) t.before (pos 0)) f (held_at e j)
      → HasStood G (reach_before t) t.before last
      → IsReady (Robustness (subformula t.nodes j) t.trace) (reach_before t) (from_of t) (whole f) (held_at e j) last
  ready G j f last le input stood = by_before t.before refl low_before input stood
    where
      F : Function
      F = Robustness (subformula t.nodes j) t.trace

      by_before : (o : Option ℤ) → t.before ≡ o → IfSome o (λ g. pos (begin_of t) ≤ℤ g)
          → IsInput F (reach_before t) (begin_of t) (back_of (begin_of t) o (pos 0)) f (held_at e j)
          → HasStood G (reach_before t) o last → IsReady F (reach_before t) (from_of t) (whole f) (held_at e j) last
      by_before None is low input stood =
          subst (IsReady F (reach_before t) (from_of t) (whole f) (held_at e j)) (sym stood)
          (subst (λ (u : Rational). Begins F (reach_before t) u (whole f) (held_at e j)) (sym (from_none is))
          (begins F (reach_before t) (begin_of t) f (held_at e j) (inputs_of F (reach_before t) (begin_of t) None f (held_at e j) le input)))
      by_before (Some g) is low input (r, kept, reached) =
          subst (IsReady F (reach_before t) (from_of t) (whole f) (held_at e j)) (sym kept)
          (ahead F (reach_before t) (begin_of t) f (held_at e j) (g +ℤ pos 0) (value r.at) (same_trans (whole_here g) (same_sym reached.0))
          (subst (λ b. AreInputs F (reach_before t) (begin_of t) b f (held_at e j)) (back_here (begin_of t) g low)
          (inputs_of F (reach_before t) (begin_of t) (back_of (begin_of t) (Some g) (pos 0)) f (held_at e j) le input)))

  -- where it begins lies between the start and its number
  pub span_from : (whole (pos (begin_of t)) ≤ʳ from_of t) × (from_of t ≤ʳ whole (pos to))
  span_from = by_before t.before b.forth
    where
      by_before : (o : Option ℤ) → IfSome o (λ g. (pos (begin_of t) ≤ℤ g) × (g <ℤ pos to))
          → (whole (pos (begin_of t)) ≤ʳ from_of (record t { before = o })) × (from_of (record t { before = o }) ≤ʳ whole (pos to))
      by_before None h = (
        le_refl (whole (pos (begin_of t))),
        le_whole {j = pos (begin_of t)} {k = pos to} (let le = b.from_start in omega (arith, ints, le)),
      )
      by_before (Some g) h = (le_whole {j = pos (begin_of t)} {k = g} h.0, le_whole {j = g} {k = pos to} (let lt = h.1 in omega (arith, ints, lt)))

  -- the time of the turn does not lie behind the last row
  pub small_to : to ≤ t.now
  small_to = below t.ended b.number
    where
      below : (c : Bool) → pos to ≡ front_at c (pos t.now) own → to ≤ t.now
      below true e = omega (arith, ints, e)
      below false e = omega (arith, ints, e)

  -- each whole number up to the time of the turn is a tick
  pub tick_of : (n : ℕ) → n ≤ to → IsTick (whole (pos n))
  tick_of n le =
      let top = small_to in
      let most = b.small_now in
      (le_whole {j = pos 0} {k = pos n} (omega (arith, ints)), le_whole {j = pos n} {k = pos 4294967295} (omega (arith, ints, le, top, most)))

  -- the time of the turn does not lie behind the trace's end
  pub last_to : whole (pos to) ≤ʳ stop t.trace
  last_to =
      let top = small_to in
      let last = b.by_now in
      le_whole {j = pos to} {k = pos (last_time 0 t.trace.rows)} (omega (arith, ints, top, last))

  -- an input whose horizon is not above the node's stands no earlier
  input_front : (j : ℕ) → horizon (subformula t.nodes j) ≤ horizon own → pos to ≤ℤ front_at t.ended (pos t.now) (subformula t.nodes j)
  input_front j le = by_end t.ended b.number
    where
      by_end : (c : Bool) → pos to ≡ front_at c (pos t.now) own → pos to ≤ℤ front_at c (pos t.now) (subformula t.nodes j)
      by_end true e = omega (arith, ints, e)
      by_end false e = omega (arith, ints, e, le)

  -- an input has an edge
  pub input_within : (j : ℕ) (left : Bool) → IsReader b.node left j → j < length e.edges
  input_within j left reads =
      let lower = reader_above t.nodes b.formed t.place b.node left j b.at reads in
      let within = slice_get_within t.nodes t.place b.node b.at in
      let count = b.edges in
      omega (arith, lower, within, count)

  -- the moved bases of a node that moves none
  moved_same : own_reach b.node ≡ 0 → (node : Node) → slice_get t.nodes t.place ≡ Some node → (p : Margin) → IsMovedBy (reach_before t) p
      → IsMovedBy (reach_before t + own_reach node) p
  moved_same none node at p moved =
      let same : node ≡ b.node = same_Some _ _ (sym at ∙ b.at) in
      let e : reach_before t ≡ reach_before t + own_reach node = let z = ap own_reach same ∙ none in omega (arith, z) in
      subst (λ r. IsMovedBy r p) e moved

-- ---- a negation

module _ (t : Step) (x : Negated.Not) (e : Held) (to : ℕ) (b : Belongs t (Op.Not x) e to) where
  abbrev child : Subformula
  child = subformula t.nodes x.of

  not_reads : IsReader b.node true x.of
  not_reads = subst (λ k. IsReader k true x.of) (sym b.stands.0) refl

  -- the node is not its input
  pub not_apart : t.place ≢ x.of
  not_apart same = let below = reader_above t.nodes b.formed t.place b.node true x.of b.at not_reads in absurd (omega (arith, below, same))

  not_own : own t (Op.Not x) e to b ≡ negation child
  not_own = tree t (Op.Not x) e to b ∙ ap (tree_of (subformula t.nodes) t.place) b.stands.0

  not_front : front_at t.ended (pos t.now) child ≡ pos to
  not_front = sym (b.number ∙ ap (front_at t.ended (pos t.now)) not_own)

  abbrev pub not_couple : Couple
  not_couple = record {
    left = child;
    right = child;
    trace = t.trace;
    reach = reach_before t;
    left_to = whole (pos to);
    right_to = whole (pos to);
    from = from_of t;
    to = whole (pos to);
  }

  not_input : IsInput (Robustness child t.trace) (reach_before t) (begin_of t) (back_of (begin_of t) t.before (pos 0)) (pos to) (held_at e x.of)
  not_input =
      subst (λ f. IsInput (Robustness child t.trace) (reach_before t) (begin_of t) (back_of (begin_of t) t.before (pos 0)) f (held_at e x.of)) not_front
      (subst (λ k. IsInput (Robustness child t.trace) (reach_before t) (begin_of t)
      (back_of (begin_of t) t.before (reach_back k true)) (front_at t.ended (pos t.now) child)
      (held_at e x.of)) b.stands.0 (b.inputs x.of true not_reads))

  -- a negation may go through its input up to the time of the turn
  pub can_negate : CanNegate not_couple x e
  can_negate = record {
    span = record {
      order = (span_from t (Op.Not x) e to b).1;
      first = (span_from t (Op.Not x) e to b).0;
      last = last_to t (Op.Not x) e to b;
      begin = tick_of t (Op.Not x) e to b (begin_of t) b.from_start;
      end = tick_of t (Op.Not x) e to b to (omega arith);
      left = le_refl (whole (pos to));
      right = le_refl (whole (pos to));
    };
    of_in = input_within t (Op.Not x) e to b x.of true not_reads;
    all = same_refl (whole (pos to));
    last = reached_before (turned_by true (Robustness child t.trace)) (reach_before t) t.before x.last (from_of t) (from_some t (Op.Not x) e to b) b.stands.1;
    of =
        ready t (Op.Not x) e to b (turned_by true (Robustness child t.trace)) x.of (pos to) x.last (let le = b.from_start in omega (arith, ints, le)) not_input
        b.stands.1;
  }

  -- what a negation tells is the node's margin
  pub not_told : (s : List (Knot Margin)) → IsStretch (left_of not_couple true) (reach_before t) (from_of t) (whole (pos to)) s → IsSwept t to s
  not_told s is = record {
    tells = subst (λ p. Tells margin_shape (Robustness p t.trace) (from_of t) (whole (pos to)) s) (sym not_own) is.tells;
    limited = is.limited;
    moved = λ node at p has. moved_same t (Op.Not x) e to b (ap own_reach b.stands.0) node at p (is.moved p has);
  }

  -- a negation's edges are swept up to the time of the turn
  pub not_edges : (e' : Held) (end : Rational) → end ≈ whole (pos to) → LosesAt end x.of e e' → IsNegatedTo not_couple x e' end → HasSwept t e e' to
  not_edges e' end same lost to_end = record {
    inputs = λ node j left at reads. by_side node j left (same_Some _ _ (sym at ∙ b.at) ∙ b.stands.0) reads;
    others = λ j unread. lost.others j (λ is. unread b.node true b.at (subst (IsReader b.node true) (sym is) not_reads));
    edges = lost.edges;
    start = lost.start;
  }
    where
      by_side : (node : Node) (j : ℕ) (left : Bool) → node ≡ N.Not x.of → IsReader node left j
          → IsCut (back_of (begin_of t) (Some (pos to)) (reach_back node left)) (edge_at e j) (edge_at e' j) × ((edge_at e' j).number ≡ (edge_at e j).number)
      by_side node j left is reads = by_left left (subst (λ k. IsReader k left j) is reads)
        where
          by_left : (left : Bool) → IsReader (N.Not x.of) left j
              → IsCut (back_of (begin_of t) (Some (pos to)) (reach_back node left)) (edge_at e j) (edge_at e' j)
              × ((edge_at e' j).number ≡ (edge_at e j).number)
          by_left true own =
              subst (λ k. IsCut (back_of (begin_of t) (Some (pos to)) (reach_back k true)) (edge_at e j) (edge_at e' j)
              × ((edge_at e' j).number ≡ (edge_at e j).number)) (sym is)
              (subst (λ i. IsCut (back_of (begin_of t) (Some (pos to)) (pos 0)) (edge_at e i) (edge_at e' i)
              × ((edge_at e' i).number ≡ (edge_at e i).number)) own
              (cut (Robustness child t.trace) (reach_before t) (begin_of t) to end (whole (pos to)) (edge_at e x.of)
              (edge_at e' x.of) b.from_start same lost.here to_end.of))
          by_left false none = absurd none

  -- a negation stands at the time of the turn once it has gone there
  pub not_stands : (x' : Negated.Not) (e' : Held) → x'.of ≡ x.of → IsSome x'.last
      → HasReached (left_of not_couple true) (reach_before t) (whole (pos to)) x'.last
      → StandsNow t (Op.Not x') e' to
  not_stands x' e' same some reached node at = (
    same_Some _ _ (sym at ∙ b.at) ∙ b.stands.0 ∙ ap N.Not (sym same),
    subst (λ i. HasStood (turned_by true (Robustness (subformula t.nodes i) t.trace)) (reach_before t) (Some (pos to)) x'.last) (sym same)
        (stood_after (turned_by true (Robustness child t.trace)) (reach_before t) (pos to) x'.last some reached),
  )

-- ---- a connective

-- what is so of a connective's node and its operator
pub record IsJoint (nodes : List Node) (place : ℕ) (tr : Trace) (n : Node) (x : Two) : Type 0 where
  -- the left input is read on the left
  pub left : IsReader n true x.left
  -- and the right one on the right
  pub right : IsReader n false x.right
  -- it reads no other
  pub only : (j : ℕ) (side : Bool) → IsReader n side j → (j ≡ x.left) ⊎ (j ≡ x.right)
  -- it looks back into neither
  pub back : (side : Bool) → reach_back n side ≡ pos 0
  -- and has no reach of its own
  pub none : own_reach n ≡ 0
  -- they are its children
  pub children : children n ≡ x.left ∷ x.right ∷ []
  -- the left one looks no further than the node
  pub left_horizon : horizon (subformula nodes x.left) ≤ horizon (tree_of (subformula nodes) place n)
  -- nor the right one
  pub right_horizon : horizon (subformula nodes x.right) ≤ horizon (tree_of (subformula nodes) place n)
  -- the node's value is made of both at the time
  pub value : (t : Rational) (v : Extended) → (two_of nodes tr x t v → Robustness (tree_of (subformula nodes) place n) tr t v)
      × (Robustness (tree_of (subformula nodes) place n) tr t v → two_of nodes tr x t v)
  -- and so is what is in play
  pub in_play : (tau : Rational) (line : Affine)
      → IsInPlay (of_two (turned_by x.turned (Robustness (subformula nodes x.left) tr)) (Robustness (subformula nodes x.right) tr))
      (start tr) (stop tr) tau line
      → IsInPlayAt (tree_of (subformula nodes) place n) (margin_setting tr) tau line

module _ (nodes : List Node) (place : ℕ) (tr : Trace) where
  by_side : (p q : ℕ) (n : Node) → (IsReader n true p) → (IsReader n false q) → ((j : ℕ) → IsReader n true j → p ≡ j) → ((j : ℕ) → IsReader n false j → q ≡ j)
      → (j : ℕ) (side : Bool) → IsReader n side j → (j ≡ p) ⊎ (j ≡ q)
  by_side p q n l r to from j true h = inl (sym (to j h))
  by_side p q n l r to from j false h = inr (sym (from j h))

  least_joint : (p q : ℕ) (last : Option Reached)
      → IsJoint nodes place tr (N.And p q) (record { left = p; right = q; side = Least; turned = false; last = last })
  least_joint p q last = record {
    left = refl;
    right = refl;
    only = by_side p q (N.And p q) refl refl (λ j h. h) (λ j h. h);
    back = λ side. refl;
    none = refl;
    children = refl;
    left_horizon = omega arith;
    right_horizon = omega arith;
    value = λ t v. (λ h. h, λ h. h);
    in_play = λ tau line h. h;
  }

  greatest_joint : (p q : ℕ) (last : Option Reached)
      → IsJoint nodes place tr (N.Or p q) (record { left = p; right = q; side = Greatest; turned = false; last = last })
  greatest_joint p q last = record {
    left = refl;
    right = refl;
    only = by_side p q (N.Or p q) refl refl (λ j h. h) (λ j h. h);
    back = λ side. refl;
    none = refl;
    children = refl;
    left_horizon = omega arith;
    right_horizon = omega arith;
    value = λ t v. (λ h. h, λ h. h);
    in_play = λ tau line h. h;
  }

  implied_joint : (p q : ℕ) (last : Option Reached)
      → IsJoint nodes place tr (N.Implies p q) (record { left = p; right = q; side = Greatest; turned = true; last = last })
  implied_joint p q last = record {
    left = refl;
    right = refl;
    only = by_side p q (N.Implies p q) refl refl (λ j h. h) (λ j h. h);
    back = λ side. refl;
    none = refl;
    children = refl;
    left_horizon = omega arith;
    right_horizon = omega arith;
    value = λ t v. (
      λ (a, b, f, g, h). (opposite a, b, f, g, subst (λ c. IsGreatest c b v) (sym (opposite_twice a)) h),
      λ (a, b, f, g, h). (opposite a, b, subst (Robustness (subformula nodes p) tr t) (sym (opposite_twice a)) f, g, h),
    );
    in_play = λ tau line h. h;
  }

  -- a node with two inputs and no window has the margin of both at each time
  pub joint : (n : Node) (x : Two) → IsTwoOf n x → IsJoint nodes place tr n x
  joint (N.And p q) x (l, r, s, u) = subst (IsJoint nodes place tr (N.And p q)) (sym (two_is x p q Least false l r s u)) (least_joint p q x.last)
  joint (N.Or p q) x (l, r, s, u) = subst (IsJoint nodes place tr (N.Or p q)) (sym (two_is x p q Greatest false l r s u)) (greatest_joint p q x.last)
  joint (N.Implies p q) x (l, r, s, u) = subst (IsJoint nodes place tr (N.Implies p q)) (sym (two_is x p q Greatest true l r s u)) (implied_joint p q x.last)
  joint _ x h = absurd h

module _ (t : Step) (x : Two) (e : Held) (to : ℕ) (b : Belongs t (Op.Two x) e to) where
  abbrev left_child : Subformula
  left_child = subformula t.nodes x.left

  abbrev right_child : Subformula
  right_child = subformula t.nodes x.right

  abbrev here : IsJoint t.nodes t.place t.trace b.node x
  here = joint t.nodes t.place t.trace b.node x b.stands.0

  -- the node is none of its inputs
  pub two_apart : (t.place ≢ x.left) × (t.place ≢ x.right)
  two_apart = (
    (λ same. let below = reader_above t.nodes b.formed t.place b.node true x.left b.at here.left in absurd (omega (arith, below, same))),
    (λ same. let below = reader_above t.nodes b.formed t.place b.node false x.right b.at here.right in absurd (omega (arith, below, same))),
  )

  abbrev two_own : Subformula
  two_own = own t (Op.Two x) e to b

  two_tree : two_own ≡ tree_of (subformula t.nodes) t.place b.node
  two_tree = tree t (Op.Two x) e to b

  abbrev left_front : ℤ
  left_front = front_at t.ended (pos t.now) left_child

  abbrev right_front : ℤ
  right_front = front_at t.ended (pos t.now) right_child

  left_to_own : pos to ≤ℤ left_front
  left_to_own = input_front t (Op.Two x) e to b x.left (subst (λ p. horizon left_child ≤ horizon p) (sym two_tree) here.left_horizon)

  right_to_own : pos to ≤ℤ right_front
  right_to_own = input_front t (Op.Two x) e to b x.right (subst (λ p. horizon right_child ≤ horizon p) (sym two_tree) here.right_horizon)

  abbrev pub two_couple : Couple
  two_couple = record {
    left = left_child;
    right = right_child;
    trace = t.trace;
    reach = reach_before t;
    left_to = whole left_front;
    right_to = whole right_front;
    from = from_of t;
    to = whole (pos to);
  }

  two_input : (j : ℕ) (side : Bool) → IsReader b.node side j
      → IsInput (Robustness (subformula t.nodes j) t.trace) (reach_before t) (begin_of t) (back_of (begin_of t) t.before (pos 0))
      (front_at t.ended (pos t.now) (subformula t.nodes j)) (held_at e j)
  two_input j side reads =
      subst (λ k. IsInput (Robustness (subformula t.nodes j) t.trace) (reach_before t) (begin_of t) (back_of (begin_of t) t.before k)
      (front_at t.ended (pos t.now) (subformula t.nodes j)) (held_at e j)) (here.back side) (b.inputs j side reads)

  two_ready : (j : ℕ) (side : Bool) → IsReader b.node side j → pos to ≤ℤ front_at t.ended (pos t.now) (subformula t.nodes j)
      → IsReady (Robustness (subformula t.nodes j) t.trace) (reach_before t) (from_of t)
      (whole (front_at t.ended (pos t.now) (subformula t.nodes j))) (held_at e j) x.last
  two_ready j side reads le =
      ready t (Op.Two x) e to b (two_of t.nodes t.trace x) j (front_at t.ended (pos t.now) (subformula t.nodes j)) x.last
      (let low = b.from_start in omega (arith, ints, le, low)) (two_input j side reads) b.stands.1

  -- a connective may go through its inputs up to the time of the turn
  pub can_join : CanJoin two_couple x e
  can_join = record {
    span = record {
      order = (span_from t (Op.Two x) e to b).1;
      first = (span_from t (Op.Two x) e to b).0;
      last = last_to t (Op.Two x) e to b;
      begin = tick_of t (Op.Two x) e to b (begin_of t) b.from_start;
      end = tick_of t (Op.Two x) e to b to (omega arith);
      left = le_whole left_to_own;
      right = le_whole right_to_own;
    };
    left_in = input_within t (Op.Two x) e to b x.left true here.left;
    right_in = input_within t (Op.Two x) e to b x.right false here.right;
    apart = inputs_apart t.nodes t.place b.node x.left x.right b.formed.post_order b.at here.children;
    last = reached_before (two_of t.nodes t.trace x) (reach_before t) t.before x.last (from_of t) (from_some t (Op.Two x) e to b) b.stands.1;
    left = two_ready x.left true here.left left_to_own;
    right = two_ready x.right false here.right right_to_own;
  }

  -- what a connective tells is the node's margin
  pub two_told : (s : List (Knot Margin)) → IsStretch (both_of two_couple x) (reach_before t) (from_of t) (whole (pos to)) s → IsSwept t to s
  two_told s is = record {
    tells =
        subst (λ p. Tells margin_shape (Robustness p t.trace) (from_of t) (whole (pos to)) s) (sym two_tree)
        (same_told (two_of t.nodes t.trace x) (Robustness (tree_of (subformula t.nodes) t.place b.node) t.trace) (from_of t)
        (whole (pos to)) s here.value is.tells);
    limited = is.limited;
    moved = λ node at p has. moved_same t (Op.Two x) e to b here.none node at p (is.moved p has);
  }

  -- a connective's edges are swept up to the time of the turn
  pub two_edges : (e' : Held) (end : Rational) → end ≈ whole (pos to) → LosesAtBoth end x.left x.right e e'
      → IsJoinedTo two_couple x e' end → HasSwept t e e' to
  two_edges e' end same lost to_end = record {
    inputs = λ node j left at reads. by_input node j left (same_Some _ _ (sym at ∙ b.at)) reads;
    others = λ j unread.
        lost.others j (λ is. unread b.node true b.at (subst (IsReader b.node true) (sym is) here.left))
        (λ is. unread b.node false b.at (subst (IsReader b.node false) (sym is) here.right));
    edges = lost.edges;
    start = lost.start;
  }
    where
      left_cut : IsCut (back_of (begin_of t) (Some (pos to)) (pos 0)) (edge_at e x.left) (edge_at e' x.left)
          × ((edge_at e' x.left).number ≡ (edge_at e x.left).number)
      left_cut =
          cut (Robustness left_child t.trace) (reach_before t) (begin_of t) to end (whole left_front) (edge_at e x.left)
          (edge_at e' x.left) b.from_start same lost.left to_end.left

      right_cut : IsCut (back_of (begin_of t) (Some (pos to)) (pos 0)) (edge_at e x.right) (edge_at e' x.right)
          × ((edge_at e' x.right).number ≡ (edge_at e x.right).number)
      right_cut =
          cut (Robustness right_child t.trace) (reach_before t) (begin_of t) to end (whole right_front) (edge_at e x.right)
          (edge_at e' x.right) b.from_start same lost.right
          to_end.right

      by_input : (node : Node) (j : ℕ) (left : Bool) → node ≡ b.node → IsReader node left j
          → IsCut (back_of (begin_of t) (Some (pos to)) (reach_back node left)) (edge_at e j) (edge_at e' j) × ((edge_at e' j).number ≡ (edge_at e j).number)
      by_input node j left is reads =
          let back : reach_back node left ≡ pos 0 = ap (λ k. reach_back k left) is ∙ here.back left in
          subst (λ k. IsCut (back_of (begin_of t) (Some (pos to)) k) (edge_at e j) (edge_at e' j) × ((edge_at e' j).number ≡ (edge_at e j).number)) (sym back)
          (elim (here.only j left (subst (λ k. IsReader k left j) is reads)) [
            | inl own ↦
                subst (λ i. IsCut (back_of (begin_of t) (Some (pos to)) (pos 0)) (edge_at e i) (edge_at e' i)
                × ((edge_at e' i).number ≡ (edge_at e i).number)) (sym own) left_cut
            | inr own ↦
                subst (λ i. IsCut (back_of (begin_of t) (Some (pos to)) (pos 0)) (edge_at e i) (edge_at e' i)
                × ((edge_at e' i).number ≡ (edge_at e i).number)) (sym own) right_cut
          ])

  -- a connective stands at the time of the turn once it has gone there
  pub two_stands : (x' : Two) (e' : Held) → x' ≡ record x { last = x'.last } → IsSome x'.last
      → HasReached (both_of two_couple x) (reach_before t) (whole (pos to)) x'.last
      → StandsNow t (Op.Two x') e' to
  two_stands x' e' same some reached node at =
      let found : node ≡ b.node = same_Some _ _ (sym at ∙ b.at) in
      subst (λ y. IsTwoOf node y × HasStood (two_of t.nodes t.trace y) (reach_before t) (Some (pos to)) y.last) (sym same) (
        subst (λ n. IsTwoOf n (record x { last = x'.last })) (sym found) (kept_two b.node x x'.last b.stands.0),
        stood_after (two_of t.nodes t.trace x) (reach_before t) (pos to) x'.last some reached,
      )

  -- what a connective refuses is refused for the node's stream
  pub two_fault : (f : OpFault Margin) → IsCoupleFault two_couple x f → IsStreamedFault t f
  two_fault F.Memory h = tt
  two_fault (F.Wide (Value p at den)) h = absurd h
  two_fault (F.Wide (Cross p q l r den)) h =
      subst (λ o. IsWideCrossing (λ tau line. IsInPlayAt o (margin_setting t.trace) tau line × (tau <ʳ whole (front_at t.ended (pos t.now) two_own)))
      (start t.trace) (stop t.trace)
      (margin_function p) (margin_function q) (value l) (value r) den) (sym two_tree)
      (crossing_by (λ tau line.
      IsInPlay (of_two (left_of two_couple x.turned) (right_of two_couple)) (start t.trace) (stop t.trace) tau line × (tau <ʳ whole (pos to)))
      (λ tau line. IsInPlayAt (tree_of (subformula t.nodes) t.place b.node) (margin_setting t.trace) tau line
      × (tau <ʳ whole (front_at t.ended (pos t.now) two_own)))
      (start t.trace) (stop t.trace) (margin_function p) (margin_function q) (value l) (value r) den
      (λ tau line (play, lt). (here.in_play tau line play, subst (λ n. tau <ʳ whole n) b.number lt)) h)
