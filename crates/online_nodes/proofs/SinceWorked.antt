-- What the body of since leaves of a step that is due.
use Rattle.std.proofs.Common.{◌≡◌, inl, inr, refl, sym, ap, subst, ◌∙◌, ℕ, ◌+◌, ◌≤◌, ◌^◌, Bool, true, false, not}
use Rattle.std.proofs.Common.{Option, Some, None, List, [], ◌∷◌, length, slice_get, ℤ, pos, ◌+ℤ◌, ◌≤ℤ◌, arith}
use Rattle.std.specs.Prelude.{◌*◌, int_lt, MatchBool}
use Rattle.std.proofs.lemmas.Int.{ints}
use Rattle.std.proofs.lemmas.Option.{same_Some, none-some}
use Rattle.std.proofs.lemmas.Bool.{false≢true}
use Rattle.rational.specs.Rational.{Rational, ◌≤ʳ◌, ◌<ʳ◌, whole}
use Rattle.rational.proofs.Order.{le_of_lt, le_trans, lt_of_lt_of_le}
use Rattle.rational.proofs.Shift.{le_whole}
use Rattle.frac128.specs.Value.{value}
use Rattle.frac128.specs.Spans.{interval}
use Rattle.stl_syntax.specs.Trace.{Trace}
use Rattle.stl_syntax.specs.Formula.{Subformula, since, subformula, tree_of}
use Rattle.stl_syntax.specs.Truth.{Truth}
use Rattle.stl_syntax.specs.Limits.{own_reach}
use Rattle.stl_syntax.specs.WellFormed.{HasBounds}
use Rattle.stl_syntax.specs.declared.items.Verdict.{Verdict}
use Rattle.stl_syntax.specs.declared.node.Node.{Node}
use Rattle.stl_syntax.specs.declared.node.Node.TheVariants.{Since}
use Rattle.online_nodes.specs.Network.{Front, moved_by}
use Rattle.online_nodes.specs.Answering.{HasWorkedOn, IsInput, is_empty}
use Rattle.online_nodes.specs.Stepping.{Situation, HasWorkedOut, IsBegun, IsDue, LeavesLater, end_of, first_in, formula_of}
use Rattle.online_nodes.specs.Stepping.{stretch_of, trace_in}
use Rattle.rational.specs.Places.{After, AtMost, Before, Place, Same, Upto, begins, ends, moved_begin}
use Rattle.frac128.specs.Cuts.{place}
use Rattle.online_nodes.specs.Held.{Held, fresh_at, number_at}
use Rattle.online_nodes.specs.Kinds.{held_in, inputs_of, open_by}
use Rattle.online_nodes.specs.Operators.{IsSinceKnown, KnowsBy, behind, first_place, front_place, kind_of, place_of, read_upto}
use Rattle.online_nodes.specs.Truths.{IsSinceOf, KnowsSince, Tells, Truths}
use Rattle.online_nodes.specs.Sinces.{CanMove, CanMoveRun, HasSinceTold, IsBackward, IsSince, IsStaying, Stay}
use Rattle.online_nodes.specs.Sweeps.{Counted, high_place, low_place}
use Rattle.online_nodes.specs.Untils.{Reads}
use Rattle.online_nodes.specs.Working.{HasWorked}
use Rattle.online_nodes.specs.Written.{waiting}
use Rattle.frac128.specs.declared.cut.Cut.{Cut}
use Rattle.online_nodes.specs.declared.kind.Kind.{Kind}
use Rattle.online_nodes.specs.declared.kind.Kind.TheVariants.{Since as SinceOf}
use Rattle.online_nodes.specs.declared.operator.Operator.{Operator}
use Rattle.online_nodes.specs.declared.since.Wrote.{Wrote}
use Rattle.online_nodes.specs.declared.since.Since.{Since as SinceWindow}
use Rattle.online_nodes.specs.declared.answering.Outcome.{Outcome}
use Rattle.online_nodes.specs.declared.writer.Out.{Out}
use Rattle.online_nodes.proofs.AlikeLemmas.{IsLike, like_itself, since_like, told_like}
use Rattle.online_nodes.proofs.BelongLemmas.{own_bounds, own_reach_small}
use Rattle.online_nodes.proofs.DueLemmas.{among_first, among_telling, begin_before, begun_at, begun_behind, begun_inside}
use Rattle.online_nodes.proofs.DueLemmas.{begun_told, due_cases, formula_is, front_by_now, kind_is, knows_at}
use Rattle.online_nodes.proofs.TellingLemmas.{fresh_counted, fresh_tells, fresh_within, tells_between, tells_upto}
use Rattle.online_nodes.proofs.AnsweringLemmas.{fresh_few, worked_two}
use Rattle.online_nodes.proofs.LooksLaw.{since_looks}
use Rattle.rational.proofs.PlaceLemmas.{after_same, before_same, between, not_both, same_before, same_places}
use Rattle.rational.proofs.PlaceLemmas.{same_trans_places, sides, upto_same, before_of_at_most}
use Rattle.rational.proofs.PlaceLemmas.{after_at_most, le_of_at_most, same_of_at_most}
use Rattle.rational.proofs.Tests.{and_false}
use Rattle.online_nodes.proofs.ReadLemmas.{stop_is}
use Rattle.online_nodes.proofs.RunLaw.{lesser, moved}
use Rattle.online_nodes.proofs.SweptLemmas.{window_ends}
use Rattle.online_nodes.proofs.WindowedLemmas.{fits_moved, some_in_window}
use Rattle.online_nodes.proofs.WorkedLemmas.{read_place}
use Rattle.online_nodes.proofs.ToldSoFar.{same_itself}

-- since's bounds, in order and near and not ahead, and what its node is: or a node like it up to a place
pub record HasSince (n p q : Subformula) (tr : Trace) (s : SinceWindow) (to : Place) : Type 0 where
  -- the formula that the window tells
  pub like : Subformula
  -- it is the node's, up to the last row
  pub alike : IsLike like n tr to
  -- it looks back as the window does
  pub looks : IsSinceOf (Truth like tr) (Truth p tr) (Counted true q tr) (low_place s.window) (high_place s.window)
  -- the window's ends are in order
  pub order : s.window.begin_by ≤ℤ s.window.end_by
  -- it looks back
  pub low : pos 0 ≤ℤ s.window.begin_by
  -- not too far
  pub end_high : s.window.end_by ≤ℤ pos (2 ^ 33)
  -- it has times
  pub full : is_empty s.window ≡ false
  -- its begin is in
  pub begin_in : s.window.begin_in ≡ true
  -- and its end
  pub end_in : s.window.end_in ≡ true

-- whether a kind is that of `since`
abbrev is_since : Kind → Bool
is_since (SinceOf x) = true
is_since _ = false

same_since : (x y : SinceWindow) → SinceOf x ≡ SinceOf y → x ≡ y
same_since x y e = cc

module _ (at : ℕ → Subformula) (i : ℕ) (tr : Trace) (to : Place) where
  since_has : (m n : Subformula) (p q a b : ℕ) → IsLike m n tr to → a ≤ b → b ≤ 8589934592
      → IsSinceOf (Truth m tr) (Truth (at p) tr) (Counted true (at q) tr) (low_place (behind p a (Some b) true true true))
      (high_place (behind p a (Some b) true true true))
      → HasSince n (at p) (at q) tr (record { window = behind p a (Some b) true true true; right = q }) to
  since_has m n p q a b same h small looks = record {
    like = m;
    alike = same;
    looks = looks;
    order = omega (arith, ints);
    low = omega (arith, ints);
    end_high = omega (arith, ints);
    full = and_false (not (int_lt (pos a) (pos b)));
    begin_in = refl;
    end_in = refl;
  }

  module _ (now : ℕ) (small : now ≤ 4294967295) (early : (t : Rational) → Upto to t → t ≤ʳ whole (pos now)) where
    any_since : (p q a : ℕ) (b : Option ℕ) → HasBounds (Since p q a b) → own_reach (Since p q a b) ≤ 4294967295
        → HasSince (tree_of at i (Since p q a b)) (at p) (at q) tr (record { window = behind p a b true true true; right = q }) to
    any_since p q a (Some b) h r =
        since_has (tree_of at i (Since p q a (Some b))) (tree_of at i (Since p q a (Some b))) p q a b
        (like_itself (tree_of at i (Since p q a (Some b))) tr to) h (omega (arith, r)) (since_looks (at p) (at q) tr a (Some b))
    any_since p q a None h r =
        since_has (since a (Some 8589934592) (at p) (at q)) (tree_of at i (Since p q a None)) p q a 8589934592
        (since_like tr now small to early a (at p) (at q)) (omega (arith, r)) (omega arith) (since_looks (at p) (at q) tr a (Some 8589934592))

    -- a node of `since` has such a window
    pub since_node : (n : Node) (s : SinceWindow) → kind_of n ≡ SinceOf s → HasBounds n → own_reach n ≤ 4294967295
        → HasSince (tree_of at i n) (at s.window.of) (at s.right) tr s to
    since_node (Since p q a b) s e h r =
        let same : record { window = behind p a b true true true; right = q } ≡ s = same_since _ s e in
        subst (λ (v : SinceWindow). HasSince (tree_of at i (Since p q a b)) (at v.window.of) (at v.right) tr v to) same (any_since p q a b h r)
    since_node _ s e h r = absurd (false≢true (ap is_since e))

-- what begins no earlier than a time
at_most_at : (r : Rational) (c : Place) → r ≤ʳ c.at → AtMost (record { at = r; after = false }) c
at_most_at r c h t u = by_side c.after
  where
    by_side : (b : Bool) → MatchBool b (t ≤ʳ c.at) (t <ʳ c.at)
    by_side true = le_of_lt (lt_of_lt_of_le u h)
    by_side false = lt_of_lt_of_le u h

-- what is not after a place that comes later
at_most_of_after : (c d : Place) → ((t : Rational) → After d t → After c t) → AtMost c d
at_most_of_after c d h t u = elim (sides d t) [ inl k ↦ k | inr a ↦ absurd (not_both c t u (h t a)) ]

-- what since knows, by other names of its places
since_same : {P Q : Truths} {low high : Rational → Place} {begin run reach read left_stop right_stop : Place} (at at' right right' : Place)
    → Same at at' → Same right right' → KnowsSince P Q low high begin at run reach read right left_stop right_stop
    → KnowsSince P Q low high begin at' run reach read right' left_stop right_stop
since_same at at' right right' s r k = record {
  holds = k.holds;
  order = k.order;
  begins = k.begins;
  counts = λ t a b. k.counts t (after_same at' at t (same_places s) a) b;
  rest = λ t u a b lo hi q c d. after_same right right' u r (k.rest t u (after_same at' at t (same_places s) a) b lo hi q c d);
  inside = λ u a. after_same right right' u r (k.inside u a);
  ahead = λ u a h q v x y. k.ahead u a (upto_same right' right u (same_places r) h) q v x y;
}

module _ {x : Situation} {op : Operator} {old : Held} {work : Outcome} (d : IsDue x op old) (g : IsBegun x op work) {s : SinceWindow}
    (kind : op.kind ≡ SinceOf s)
    (has : HasSince (formula_of x op) (subformula x.nodes s.window.of) (subformula x.nodes s.right) (trace_in x) s (end_of x)) where
  -- the left side of `since` is an input of the operator
  pub since_left : IsInput op.kind s.window.of
  since_left = subst (λ k. IsInput k s.window.of) (sym kind) (inl refl)

  -- the right side of `since` is an input of the operator
  pub since_right : IsInput op.kind s.right
  since_right = subst (λ k. IsInput k s.right) (sym kind) (inr refl)

  -- the inputs' numbers: the left one's is not below the node's, and the right one's not below what the window needs
  record HasNumbers : Type 0 where
    -- the left input's number
    pub f : ℤ
    -- the right input's number
    pub h : ℤ
    -- its edge notes it
    pub left : number_at old s.window.of ≡ Some f
    -- and the other's its own
    pub right : number_at old s.right ≡ Some h
    -- the stretch does not end behind the left one
    pub left_front : x.front ≤ℤ f
    -- nor behind the right one, moved by the window
    pub right_front : x.front ≤ℤ (h +ℤ s.window.begin_by)

  has_numbers : HasNumbers
  has_numbers = elim (due_cases d) [
    | inl c ↦ record {
      f = pos x.now;
      h = pos x.now;
      left = c.0 s.window.of since_left;
      right = c.0 s.right since_right;
      left_front = (let e = c.1 in omega (arith, ints));
      right_front = (let e = c.1 in let l = has.low in omega (arith, ints));
    }
    | inr c ↦
        let both = lesser (number_at old s.window.of) (moved_by s.window.begin_by (number_at old s.right)) x.front
        (subst (λ k. open_by k old x.now ≡ Some x.front) kind c) in
        let m = moved s.window.begin_by (number_at old s.right) both.1 both.3 in
        record {
          f = both.0;
          h = m.0;
          left = both.2;
          right = m.1;
          left_front = both.4;
          right_front = (let e = m.2 in let l = both.5 in omega (arith, ints));
        }
  ]

  -- the place at which the trace begins
  abbrev begin_place : Place
  begin_place = record { at = whole (pos (first_in x)); after = false }

  -- what was known, where there was an answer
  known_at : (f : ℕ) → op.front ≡ Some f
      → IsSinceKnown (subformula x.nodes s.window.of) (subformula x.nodes s.right) (trace_in x) s (record { at = whole (pos f); after = true })
      (place op.run) (place op.reach) (read_upto old s.window.of) (read_upto old s.right) (front_place old s.window.of) (front_place old s.right)
      (fresh_at old s.window.of)
  known_at f h = subst (λ k. KnowsBy k x.nodes (trace_in x) old (record { at = whole (pos f); after = true }) (place op.reach) (place op.run)) kind
      (knows_at d f h)

  -- the left input was read no further than to where the stretch begins
  left_at : AtMost (read_upto old s.window.of) (place work.out.at)
  left_at = begun_behind d g s.window.of since_left (λ f h. let k = known_at f h in λ t u. k.behind t (k.left_behind t u))

  at_before : Before (place work.out.at) (place work.out.to)
  at_before = same_before (place work.out.at) (begins (stretch_of x op)) (place work.out.to) (same_places (begun_at d g))
      (before_same (begins (stretch_of x op)) (end_of x) (place work.out.to) (begin_before d) (same_places g.end))

  left_enough : AtMost (place work.out.to) (front_place old s.window.of)
  left_enough t u = subst (λ (o : Front). Upto (place_of o) t) (sym has_numbers.left)
      (le_trans (upto_same (place work.out.to) (end_of x) t g.end u) (le_whole has_numbers.left_front))

  abbrev pub stay : Stay
  stay = record {
    n = has.like;
    p = subformula x.nodes s.window.of;
    q = subformula x.nodes s.right;
    tr = trace_in x;
    begin = begins (stretch_of x op);
    start = begin_place;
    stop_left = front_place old s.window.of;
    stop_right = front_place old s.right;
    first = fresh_at old s.window.of;
  }

  stay_is : IsSince stay s (place work.out.to)
  stay_is = record {
    looks = has.looks;
    some = some_in_window s.window has.order has.full;
    from_start = λ u c. c.0.above;
    left_enough = left_enough;
    right_enough = λ t u h hi. subst (λ (o : Front). Upto (place_of o) u) (sym has_numbers.right)
        (window_ends s.window x.front has_numbers.h t u (upto_same (place work.out.to) (end_of x) t g.end h) hi has_numbers.right_front);
    some_left = λ e.
        let all : AtMost (front_place old s.window.of) (place work.out.at) =
        subst (λ l. AtMost (first_place l (front_place old s.window.of)) (place work.out.at)) e left_at in
        let t = between (place work.out.at) (place work.out.to) at_before in
        not_both (place work.out.at) t.0 (all t.0 (left_enough t.0 t.2)) t.1;
    begins_left = λ v e. before_of_at_most (begins (interval v.on)) (place work.out.at) (place work.out.to) (first_at v e left_at) at_before;
  }
    where
      first_at : (v : Verdict) → slice_get (fresh_at old s.window.of) 0 ≡ Some v → AtMost (read_upto old s.window.of) (place work.out.at)
          → AtMost (begins (interval v.on)) (place work.out.at)
      first_at v e h = by_list (fresh_at old s.window.of) e h
        where
          by_list : (vs : List Verdict) → slice_get vs 0 ≡ Some v → AtMost (first_place vs (front_place old s.window.of)) (place work.out.at)
              → AtMost (begins (interval v.on)) (place work.out.at)
          by_list [] e h = absurd (none-some v e)
          by_list (w ∷ vs) e h =
              let is : w ≡ v = same_Some w v e in
              subst (λ (y : Verdict). AtMost (begins (interval y.on)) (place work.out.at)) is h

  abbrev pub begun_course : Wrote
  begun_course = record { out = work.out; reach = work.marks.reach; run = work.marks.run }

  left_tells : Tells (Truth (subformula x.nodes s.window.of) (trace_in x)) (read_upto old s.window.of) (fresh_at old s.window.of)
      (front_place old s.window.of)
  left_tells = fresh_tells (among_telling d s.window.of since_left)

  right_tells : Tells (Counted true (subformula x.nodes s.right) (trace_in x)) (read_upto old s.right) (fresh_at old s.right)
      (front_place old s.right)
  right_tells = fresh_counted (among_telling d s.right since_right) true refl (stop_is d.belongs)

  -- at the first answer all begins at the start, and nothing was read
  module _ (none : op.front ≡ None) where
    first_begin : Same begin_place (place work.out.at)
    first_begin = subst (λ (o : Option ℕ). Same (begins (stretch_of x (record op { front = o }))) (place work.out.at)) none (begun_at d g)

    first_reach : place work.marks.reach ≡ place work.out.at
    first_reach = ap place ((g.first none).0 ∙ sym g.at)

    first_run : place work.marks.run ≡ place work.out.at
    first_run = ap place ((g.first none).1 ∙ sym g.at)

    right_first : AtMost (read_upto old s.right) begin_place
    right_first = among_first d s.right since_right none

    ends_after : (v : Verdict) → slice_get (fresh_at old s.window.of) 0 ≡ Some v → Before (place work.out.at) (ends (interval v.on))
    ends_after v e =
        let inside = fresh_within (among_telling d s.window.of since_left) 0 v e in
        let here = tells_between (Truth (subformula x.nodes s.window.of) (trace_in x)) (read_upto old s.window.of) (fresh_at old s.window.of)
        (front_place old s.window.of) left_tells 0 v e in
        same_before (place work.out.at) begin_place (ends (interval v.on)) (same_places first_begin)
        (before_of_at_most begin_place (begins (interval v.on)) (ends (interval v.on))
        (at_most_at (whole (pos (first_in x))) (begins (interval v.on)) inside.0) here.2)

    first_knows : (run reach : Place) → run ≡ place work.out.at → reach ≡ place work.out.at
        → KnowsSince (Truth (subformula x.nodes s.window.of) (trace_in x)) (Counted true (subformula x.nodes s.right) (trace_in x))
        (low_place s.window) (high_place s.window) begin_place (place work.out.at) run reach (place work.out.at) (read_upto old s.right)
        (front_place old s.window.of) (front_place old s.right)
    first_knows run reach is_run is_reach =
        let at_run : (t : Rational) → After run t → After (place work.out.at) t = λ t a. subst (λ (c : Place). After c t) is_run a in
        let at_begin : (t : Rational) → After (place work.out.at) t → After begin_place t =
        λ t a. after_same (place work.out.at) begin_place t (same_places first_begin) a in
        record {
          holds = λ t a h. absurd (not_both (place work.out.at) t h (at_run t a));
          order = λ t a. subst (λ (c : Place). After c t) (sym is_run) a;
          begins = λ u a h. absurd (not_both begin_place u
              (upto_same (place work.out.at) begin_place u (same_places first_begin) (subst (λ (c : Place). Upto c u) is_run h)) a);
          counts = λ t a h. absurd (not_both (place work.out.at) t (subst (λ (c : Place). Upto c t) is_reach h) a);
          rest = λ t u a b lo hi q c e. after_at_most (read_upto old s.right) begin_place u right_first (at_begin u (at_run u c));
          inside = λ u a. after_at_most (read_upto old s.right) (front_place old s.right) u
              (tells_upto (Counted true (subformula x.nodes s.right) (trace_in x)) (read_upto old s.right) (fresh_at old s.right)
              (front_place old s.right) right_tells) a;
          ahead = λ u a h q v y z. absurd (not_both begin_place u (right_first u h) (at_begin u a));
        }

    staying_first : (r : Reads) × IsStaying stay s [] begun_course r (fresh_at old s.window.of) (fresh_at old s.right)
    staying_first = (
      record { read = place work.out.at; left = read_upto old s.window.of; right = read_upto old s.right },
      record {
        told = begun_told d g has.like (trace_in x);
        knows = first_knows (place work.marks.run) (place work.marks.reach) first_run first_reach;
        left_tells = left_tells;
        right_tells = right_tells;
        left_behind = left_at;
        tight = λ t a b. subst (λ (c : Place). After c t) first_run b;
        ahead = ends_after;
        ran = λ t a. subst (λ (c : Place). After c t) (sym first_run) a;
        answered = λ t a b. a;
        within = begun_inside d g;
        from_start = λ t u. subst (λ (c : Place). Upto c t) (sym first_run) (upto_same begin_place (place work.out.at) t first_begin u);
        spent = inl refl;
      },
    )

  -- and later what was known is
  module _ (f : ℕ) (some : op.front ≡ Some f) where
    later_begin : Same (record { at = whole (pos f); after = true }) (place work.out.at)
    later_begin = subst (λ (o : Option ℕ). Same (begins (stretch_of x (record op { front = o }))) (place work.out.at)) some (begun_at d g)

    known_knows : KnowsSince (Truth (subformula x.nodes s.window.of) (trace_in x)) (Counted true (subformula x.nodes s.right) (trace_in x))
        (low_place s.window) (high_place s.window) begin_place (place work.out.at) (place work.marks.run) (place work.marks.reach)
        (known_at f some).read (read_upto old s.right) (front_place old s.window.of) (front_place old s.right)
    known_knows =
        subst (λ (c : Cut). KnowsSince (Truth (subformula x.nodes s.window.of) (trace_in x)) (Counted true (subformula x.nodes s.right) (trace_in x))
        (low_place s.window) (high_place s.window) begin_place (place work.out.at) (place c) (place work.marks.reach)
        (known_at f some).read (read_upto old s.right) (front_place old s.window.of) (front_place old s.right)) (sym (g.later f some).1)
        (subst (λ (c : Cut). KnowsSince (Truth (subformula x.nodes s.window.of) (trace_in x)) (Counted true (subformula x.nodes s.right) (trace_in x))
        (low_place s.window) (high_place s.window) begin_place (place work.out.at) (place op.run) (place c)
        (known_at f some).read (read_upto old s.right) (front_place old s.window.of) (front_place old s.right)) (sym (g.later f some).0)
        (since_same (record { at = whole (pos f); after = true }) (place work.out.at) (read_upto old s.right) (read_upto old s.right) later_begin
        (same_itself (read_upto old s.right)) (known_at f some).knows))

    -- the left input is known no further than to where the stretch begins
    read_at : AtMost (known_at f some).read (place work.out.at)
    read_at t u = upto_same (record { at = whole (pos f); after = true }) (place work.out.at) t later_begin ((known_at f some).behind t u)

    staying_later : (r : Reads) × IsStaying stay s [] begun_course r (fresh_at old s.window.of) (fresh_at old s.right)
    staying_later = (
      record { read = (known_at f some).read; left = read_upto old s.window.of; right = read_upto old s.right },
      record {
        told = begun_told d g has.like (trace_in x);
        knows = known_knows;
        left_tells = left_tells;
        right_tells = right_tells;
        left_behind = (known_at f some).left_behind;
        tight = λ t a b. (known_at f some).tight t a (subst (λ (c : Cut). After (place c) t) (g.later f some).1 b);
        ahead = (known_at f some).ahead;
        ran = λ t a. known_knows.order t (after_at_most (known_at f some).read (place work.out.at) t read_at a);
        answered = λ t a b. after_at_most (known_at f some).read (place work.out.at) t read_at a;
        within = λ t u. begun_inside d g t (read_at t u);
        from_start = λ t u. subst (λ (c : Cut). Upto (place c) t) (sym (g.later f some).1) ((known_at f some).from_start t u);
        spent = inl refl;
      },
    )

  -- when the work begins nothing is known but what the marks say
  pub begun_staying : (r : Reads) × IsStaying stay s [] begun_course r (fresh_at old s.window.of) (fresh_at old s.right)
  begun_staying = by_front op.front refl
    where
      by_front : (o : Option ℕ) → op.front ≡ o → (r : Reads) × IsStaying stay s [] begun_course r (fresh_at old s.window.of) (fresh_at old s.right)
      by_front None h = staying_first h
      by_front (Some f) h = staying_later f h

  -- the window of `since` looks back
  pub since_backward : IsBackward s.window
  since_backward = record { begin_in = has.begin_in; end_in = has.end_in; low = has.low; order = has.order }

  -- the ends of an input's verdicts can be moved
  pub since_fits : (j : ℕ) → IsInput op.kind j → (k : ℕ) (v : Verdict) → slice_get (fresh_at old j) k ≡ Some v → CanMove s.window v
  since_fits j a k v h =
      let inside = fresh_within (among_telling d j a) k v h in
      let from : whole (pos 0) ≤ʳ value v.on.from = le_trans (let z : pos 0 ≤ℤ pos (first_in x) = omega (arith, ints) in le_whole z) inside.0 in
      let to : value v.on.to ≤ʳ whole (pos (2 ^ 32)) =
      le_trans inside.2 (let z : pos x.now ≤ℤ pos (2 ^ 32) = (let m = d.small in omega (arith, ints)) in le_whole z) in
      let order = has.order in let low = has.low in let high = has.end_high in (
        fits_moved s.window.begin_by from (le_trans inside.1 to) (omega (arith, ints)) (omega (arith, ints)),
        fits_moved s.window.begin_by (le_trans from inside.1) to (omega (arith, ints)) (omega (arith, ints)),
        fits_moved s.window.end_by (le_trans from inside.1) to (omega (arith, ints)) high,
      )

  -- and so can the begin of the run
  pub since_run_fits : (out : Out) → CanMoveRun s.window (record { out = out; reach = work.marks.reach; run = work.marks.run })
  since_run_fits out =
      let m = begun_staying.1 in
      let run_to : AtMost (place work.marks.run) (end_of x) =
      λ t u. upto_same (place work.out.to) (end_of x) t g.end
      (m.within t (at_most_of_after (place work.marks.run) begun_staying.0.read m.knows.order t u)) in
      let from : whole (pos 0) ≤ʳ value work.marks.run.time =
      le_trans (let z : pos 0 ≤ℤ pos (first_in x) = omega (arith, ints) in le_whole z)
      (le_of_at_most begin_place (place work.marks.run) m.from_start) in
      let to : value work.marks.run.time ≤ʳ whole (pos (2 ^ 32)) =
      le_trans (le_of_at_most (place work.marks.run) (end_of x) run_to)
      (let z : x.front ≤ℤ pos (2 ^ 32) = (let k = d.small in let l = front_by_now d in omega (arith, ints)) in le_whole z) in
      let order = has.order in let low = has.low in let high = has.end_high in
      fits_moved s.window.begin_by from to (omega (arith, ints)) (omega (arith, ints))

  -- the turns of `since` are the work of the step
  pub since_worked : {new : Held} (done : Outcome)
      → HasSinceTold old new s begun_course (record { out = done.out; reach = done.marks.reach; run = done.marks.run })
      → HasWorkedOut x op old new done
  since_worked {new} done told =
      let after = told.told stay [] begun_staying.0 stay_is begun_staying.1 in
      let m = after.1 in
      let worked : HasWorked old new op.node s.window.of s.right told.more =
      subst (λ (i : ℕ). HasWorked old new i s.window.of s.right told.more) g.edge told.worked in
      let there : Same (place done.out.at) (end_of x) =
      same_trans_places (same_of_at_most (place done.out.at) (place work.out.to) told.inside told.all) g.end in
      let left_stop : front_place old s.window.of ≡ front_place new s.window.of = ap place_of (sym worked.left_read.number) in
      let right_stop : front_place old s.right ≡ front_place new s.right = ap place_of (sym worked.right_read.number) in
      let left : Same after.0.left (read_upto new s.window.of) =
      read_place (Truth (subformula x.nodes s.window.of) (trace_in x)) new s.window.of after.0.left (front_place old s.window.of) left_stop
      m.left_tells in
      let right : Same after.0.right (read_upto new s.right) =
      read_place (Counted true (subformula x.nodes s.right) (trace_in x)) new s.right after.0.right (front_place old s.right) right_stop
      m.right_tells in
      let to : place done.out.to ≡ place work.out.to = ap place told.to in
      record {
        more = told.more;
        owed = subst (λ k. length told.more + waiting done.out.holds ≤ 2 * held_in old (inputs_of k) + 2) (sym kind)
            (let f = fresh_few old s.window.of in let h = fresh_few old s.right in let w = told.owed in let z = ap waiting g.holds in omega arith);
        worked = subst (λ k. HasWorkedOn k old new op.node told.more) (sym kind)
            (worked_two (SinceOf s) s.window.of s.right old new op.node told.more (λ k h. h) (λ k h. h) worked);
        edge = told.edge ∙ g.edge;
        sound = told.sound;
        end = there;
        told = told_like has.alike (begins (stretch_of x op)) told.more done.out
            (λ t u. upto_same (place done.out.at) (end_of x) t there u) m.told;
        knows = subst (λ k. KnowsBy k x.nodes (trace_in x) new (end_of x) (place done.marks.reach) (place done.marks.run)) (sym kind) (record {
          read = after.0.read;
          knows = subst (λ (c : Place). KnowsSince (Truth (subformula x.nodes s.window.of) (trace_in x))
              (Counted true (subformula x.nodes s.right) (trace_in x)) (low_place s.window) (high_place s.window) begin_place (end_of x)
              (place done.marks.run) (place done.marks.reach) after.0.read (read_upto new s.right) c (front_place new s.right)) left_stop
              (subst (λ (c : Place). KnowsSince (Truth (subformula x.nodes s.window.of) (trace_in x))
              (Counted true (subformula x.nodes s.right) (trace_in x)) (low_place s.window) (high_place s.window) begin_place (end_of x)
              (place done.marks.run) (place done.marks.reach) after.0.read (read_upto new s.right) (front_place old s.window.of) c) right_stop
              (since_same (place done.out.at) (end_of x) after.0.right (read_upto new s.right) there right m.knows));
          behind = λ t u. upto_same (place work.out.to) (end_of x) t g.end (subst (λ (c : Place). Upto c t) to (m.within t u));
          left_behind = λ t u. m.left_behind t (upto_same (read_upto new s.window.of) after.0.left t (same_places left) u);
          tight = λ t a b. m.tight t (after_same (read_upto new s.window.of) after.0.left t (same_places left) a) b;
          ahead = m.ahead;
          from_start = m.from_start;
        });
        unread = subst (λ k. LeavesLater k new (end_of x) (place done.marks.run)) (sym kind) (
          (λ v e. same_before (end_of x) (place work.out.to) (ends (interval v.on)) (same_places g.end) (told.left v e)),
          (λ w e. elim (after.2 w e) [
            | inl b ↦ inl (same_before (end_of x) (place work.out.to) (moved_begin s.window.begin_by s.window.begin_in (ends (interval w.on)))
                (same_places g.end) b)
            | inr u ↦ inr (λ t h. u t (upto_same (end_of x) (place work.out.to) t (same_places g.end) h))
          ]),
        );
      }

-- the operator's since
pub has_since : {x : Situation} {op : Operator} {old : Held} (d : IsDue x op old) {s : SinceWindow} → op.kind ≡ SinceOf s
    → HasSince (formula_of x op) (subformula x.nodes s.window.of) (subformula x.nodes s.right) (trace_in x) s (end_of x)
has_since {x} {op} {old} d {s} e =
    subst (λ (n : Subformula). HasSince n (subformula x.nodes s.window.of) (subformula x.nodes s.right) (trace_in x) s (end_of x)) (sym (formula_is d))
    (since_node (subformula x.nodes) op.node (trace_in x) (end_of x) x.now d.small (λ t u. le_trans u (le_whole (front_by_now d)))
    d.belongs.stands.node s (sym (kind_is d) ∙ e) (own_bounds d.belongs) (own_reach_small d.belongs))
