-- What the body of until leaves of a step that is due.
use Rattle.std.proofs.Common.{◌≡◌, inl, inr, refl, sym, ap, subst, ◌∙◌, ℕ, ◌+◌, ◌≤◌, ◌^◌, Bool, true, false, not}
use Rattle.std.proofs.Common.{Option, Some, None, List, [], ◌∷◌, length, slice_get, ℤ, pos, neg_ℤ, ◌≤ℤ◌, arith}
use Rattle.std.specs.Prelude.{◌*◌, cond, int_lt}
use Rattle.std.proofs.lemmas.Int.{ints}
use Rattle.std.proofs.lemmas.Option.{same_Some, none-some}
use Rattle.std.proofs.lemmas.Bool.{false≢true}
use Rattle.rational.specs.Rational.{Rational, ◌≤ʳ◌, ◌<ʳ◌, whole}
use Rattle.rational.proofs.Order.{le_of_lt, le_trans, not_lt_of_le}
use Rattle.rational.proofs.Shift.{le_whole}
use Rattle.frac128.specs.Value.{value}
use Rattle.frac128.specs.Spans.{interval}
use Rattle.stl_syntax.specs.Trace.{Trace}
use Rattle.stl_syntax.specs.Formula.{Subformula, subformula, tree_of}
use Rattle.stl_syntax.specs.Truth.{Truth}
use Rattle.stl_syntax.specs.Limits.{own_reach}
use Rattle.stl_syntax.specs.WellFormed.{HasBounds}
use Rattle.stl_syntax.specs.declared.items.Verdict.{Verdict}
use Rattle.stl_syntax.specs.declared.node.Node.{Node}
use Rattle.stl_syntax.specs.declared.node.Node.TheVariants.{Until}
use Rattle.online_nodes.specs.Network.{Front, least}
use Rattle.online_nodes.specs.Answering.{HasWorkedOn, IsInput, is_empty}
use Rattle.online_nodes.specs.Stepping.{Situation, HasWorkedOut, IsBegun, IsDue, LeavesLater, end_of, first_in, formula_of}
use Rattle.online_nodes.specs.Stepping.{stretch_of, trace_in}
use Rattle.rational.specs.Places.{After, Before, Place, Same, Upto, begins, ends}
use Rattle.frac128.specs.Cuts.{place}
use Rattle.online_nodes.specs.Held.{Held, fresh_at, number_at}
use Rattle.online_nodes.specs.Kinds.{held_in, inputs_of, open_by}
use Rattle.online_nodes.specs.Looking.{place_at}
use Rattle.online_nodes.specs.Operators.{IsUntilKnown, KnowsBy, ahead, first_place, front_place, kind_of, place_of, read_upto}
use Rattle.online_nodes.specs.Truths.{IsUntilOf, KnowsUntil, Tells}
use Rattle.online_nodes.specs.Sweeps.{Counted, FitsIn, high_place, low_place}
use Rattle.online_nodes.specs.Untils.{HasUntilTold, IsTurned, IsUntil, Reads, Stretch}
use Rattle.online_nodes.specs.Working.{HasWorked}
use Rattle.online_nodes.specs.Written.{waiting}
use Rattle.frac128.specs.declared.cut.Cut.{Cut}
use Rattle.online_nodes.specs.declared.kind.Kind.{Kind}
use Rattle.online_nodes.specs.declared.kind.Kind.TheVariants.{Until as UntilOf}
use Rattle.online_nodes.specs.declared.operator.Operator.{Operator}
use Rattle.online_nodes.specs.declared.until.Until.{Until as UntilWindow}
use Rattle.online_nodes.specs.declared.window.Sweep.{Sweep}
use Rattle.online_nodes.specs.declared.answering.Outcome.{Outcome}
use Rattle.online_nodes.proofs.BelongLemmas.{own_bounds, own_reach_small}
use Rattle.online_nodes.proofs.DueLemmas.{among_first, among_telling, begun_at, begun_told, due_cases, formula_is, kind_is, knows_at}
use Rattle.online_nodes.proofs.TellingLemmas.{fresh_counted, fresh_tells, fresh_within}
use Rattle.online_nodes.proofs.AnsweringLemmas.{fresh_few, worked_two}
use Rattle.online_nodes.proofs.LooksLaw.{until_looks}
use Rattle.rational.proofs.PlaceLemmas.{after_same, sides, not_both, same_places, same_trans_places, upto_same, after_at_most}
use Rattle.rational.proofs.PlaceLemmas.{same_of_at_most, after_later}
use Rattle.rational.proofs.Tests.{and_false}
use Rattle.online_nodes.proofs.ReadLemmas.{stop_is}
use Rattle.online_nodes.proofs.RunLaw.{lesser, moved}
use Rattle.online_nodes.proofs.SweptLemmas.{beyond_trace, window_ends}
use Rattle.online_nodes.proofs.UntilLaw.{knows_later}
use Rattle.online_nodes.proofs.WindowedLemmas.{fits_moved, some_in_window}
use Rattle.online_nodes.proofs.ReaderLemmas.{twice_negated}
use Rattle.online_nodes.proofs.WorkedLemmas.{read_place}

-- until's bounds, in order and near and not behind, and what its node is
pub record HasUntil (n p q : Subformula) (tr : Trace) (u : UntilWindow) : Type 0 where
  -- it looks ahead as the window does
  pub looks : IsUntilOf (Truth n tr) (Truth p tr) (Counted true q tr) (low_place u.window) (high_place u.window)
  -- the window's ends are in order
  pub order : u.window.begin_by ≤ℤ u.window.end_by
  -- it looks ahead
  pub ahead : u.window.end_by ≤ℤ pos 0
  -- not too far
  pub begin_low : neg_ℤ (pos (2 ^ 33)) ≤ℤ u.window.begin_by
  -- it has times
  pub full : is_empty u.window ≡ false
  -- its end is in
  pub end_in : u.window.end_in ≡ true

-- whether a kind is that of `until`
abbrev is_until : Kind → Bool
is_until (UntilOf x) = true
is_until _ = false

same_until : (x y : UntilWindow) → UntilOf x ≡ UntilOf y → x ≡ y
same_until x y e = cc

module _ (at : ℕ → Subformula) (i : ℕ) (tr : Trace) where
  until_has : (p q a b : ℕ) → a ≤ b → b ≤ 4294967295
      → HasUntil (tree_of at i (Until p q a b)) (at p) (at q) tr (record { window = ahead p a b true true true; right = q })
  until_has p q a b h small = record {
    looks = subst (λ (z : ℤ). IsUntilOf (Truth (tree_of at i (Until p q a b)) tr) (Truth (at p) tr) (Counted true (at q) tr) (place_at z false)
        (place_at (neg_ℤ (neg_ℤ (pos b))) true)) (sym (twice_negated a))
        (subst (λ (z : ℤ). IsUntilOf (Truth (tree_of at i (Until p q a b)) tr) (Truth (at p) tr) (Counted true (at q) tr) (place_at (pos a) false)
        (place_at z true)) (sym (twice_negated b)) (until_looks (at p) (at q) tr a b));
    order = omega (arith, ints);
    ahead = omega (arith, ints);
    begin_low = omega (arith, ints);
    full = and_false (not (int_lt (neg_ℤ (pos b)) (neg_ℤ (pos a))));
    end_in = refl;
  }

  -- a node of `until` has such a window
  pub until_node : (n : Node) (u : UntilWindow) → kind_of n ≡ UntilOf u → HasBounds n → own_reach n ≤ 4294967295
      → HasUntil (tree_of at i n) (at u.window.of) (at u.right) tr u
  until_node (Until p q a b) u e h r =
      let s : record { window = ahead p a b true true true; right = q } ≡ u = same_until _ u e in
      subst (λ (v : UntilWindow). HasUntil (tree_of at i (Until p q a b)) (at v.window.of) (at v.right) tr v) s (until_has p q a b h r)
  until_node _ u e h r = absurd (false≢true (ap is_until e))

-- what lies before both places lies before the lesser one
least_place : (o q : Front) (f : ℤ) → least o q ≡ Some f → (t : Rational) → Upto (place_of o) t → Upto (place_of q) t → Upto (place_of (Some f)) t
least_place (Some g) (Some h) f e t a b = by_test (int_lt h g) refl
  where
    by_test : (s : Bool) → int_lt h g ≡ s → t ≤ʳ whole f
    by_test true x = subst (λ (z : ℤ). t ≤ʳ whole z) (same_Some h f (sym (ap (λ (s : Bool). cond s (Some h) (Some g)) x) ∙ e)) b
    by_test false x = subst (λ (z : ℤ). t ≤ʳ whole z) (same_Some g f (sym (ap (λ (s : Bool). cond s (Some h) (Some g)) x) ∙ e)) a
least_place None q f e t a b = absurd (none-some f e)
least_place (Some g) None f e t a b = absurd (none-some f e)

least_itself : (z : ℤ) → least (Some z) (Some z) ≡ Some z
least_itself z = elim (int_lt z z) as (λ (s : Bool). cond s (Some z) (Some z) ≡ Some z) [ true ↦ refl | false ↦ refl ]

module _ {x : Situation} {op : Operator} {old : Held} {work : Outcome} (d : IsDue x op old) (g : IsBegun x op work) {u : UntilWindow}
    (kind : op.kind ≡ UntilOf u)
    (has : HasUntil (formula_of x op) (subformula x.nodes u.window.of) (subformula x.nodes u.right) (trace_in x) u) where
  -- the left side of `until` is an input of the operator
  pub until_left : IsInput op.kind u.window.of
  until_left = subst (λ k. IsInput k u.window.of) (sym kind) (inl refl)

  -- the right side of `until` is an input of the operator
  pub until_right : IsInput op.kind u.right
  until_right = subst (λ k. IsInput k u.right) (sym kind) (inr refl)

  -- the lesser of its inputs' numbers
  abbrev pub lesser_number : Front
  lesser_number = least (number_at old u.window.of) (number_at old u.right)

  -- it is there, the node's number is not above it, and nothing counts beyond it
  pub record HasLesser : Type 0 where
    -- the lesser of the inputs' numbers
    pub f : ℤ
    -- it is that
    pub is : lesser_number ≡ Some f
    -- the stretch does not end behind it
    pub front : x.front ≤ℤ f
    -- no window of the stretch has a right side behind it that counts
    pub within : (t v : Rational) → Upto (place work.out.to) t → Upto (high_place u.window t) v → After (place_of (Some f)) v
        → ¬ Counted true (subformula x.nodes u.right) (trace_in x) v

  has_lesser : HasLesser
  has_lesser = elim (due_cases d) [
    | inl h ↦ record {
      f = pos x.now;
      is = both_now (number_at old u.window.of) (number_at old u.right) (h.0 u.window.of until_left) (h.0 u.right until_right);
      front = (let e = h.1 in omega (arith, ints));
      within = λ t v a hi after. beyond_trace true (subformula x.nodes u.right) (trace_in x) v
          (subst (λ q. q <ʳ v) (sym (stop_is d.belongs)) after);
    }
    | inr h ↦
        let m = moved u.window.begin_by lesser_number x.front (subst (λ k. open_by k old x.now ≡ Some x.front) kind h) in
        record {
          f = m.0;
          is = m.1;
          front = (let e = m.2 in let o = has.order in let z = has.ahead in omega (arith, ints));
          within = λ t v a hi after. absurd (not_lt_of_le (window_ends u.window x.front m.0 t v
              (upto_same (place work.out.to) (end_of x) t g.end a) hi (let e = m.2 in omega (arith, ints))) after);
        }
  ]
    where
      both_now : (o q : Front) → o ≡ Some (pos x.now) → q ≡ Some (pos x.now) → least o q ≡ Some (pos x.now)
      both_now o q a b = rw (a, b) (least_itself (pos x.now))

  lesser_place : place_of lesser_number ≡ place_of (Some has_lesser.f)
  lesser_place = ap place_of has_lesser.is

  -- the stretch, its inputs, and up to where they are answered
  abbrev pub stretch : Stretch
  stretch = record {
    n = formula_of x op;
    p = subformula x.nodes u.window.of;
    q = subformula x.nodes u.right;
    tr = trace_in x;
    begin = begins (stretch_of x op);
    stop = place_of lesser_number;
    stop_left = front_place old u.window.of;
    stop_right = front_place old u.right;
  }

  stretch_is : IsUntil stretch u (place work.out.to)
  stretch_is =
      let both = lesser (number_at old u.window.of) (number_at old u.right) has_lesser.f has_lesser.is in
      record {
        looks = has.looks;
        some = some_in_window u.window has.order has.full;
        within = λ t v a hi. elim (sides (place_of lesser_number) v) [
          | inl h ↦ inl h
          | inr after ↦ inr (has_lesser.within t v a hi (subst (λ (q : Place). After q v) lesser_place after))
        ];
        inside = λ t h. subst (λ (q : Place). Upto q t) (sym lesser_place)
            (le_trans (upto_same (place work.out.to) (end_of x) t g.end h) (le_whole has_lesser.front));
        both = λ t h k. subst (λ (q : Place). Upto q t) (sym lesser_place)
            (least_place (number_at old u.window.of) (number_at old u.right) has_lesser.f has_lesser.is t h k);
        left_enough = λ t h. subst (λ (o : Front). Upto (place_of o) t) (sym both.2)
            (le_trans (subst (λ (q : Place). Upto q t) lesser_place h) (le_whole both.4));
        right_enough = λ t h. subst (λ (o : Front). Upto (place_of o) t) (sym both.3)
            (le_trans (subst (λ (q : Place). Upto q t) lesser_place h) (le_whole both.5));
      }

  -- what was not read of the inputs tells them
  left_tells : Tells (Truth (subformula x.nodes u.window.of) (trace_in x)) (read_upto old u.window.of) (fresh_at old u.window.of)
      (front_place old u.window.of)
  left_tells = fresh_tells (among_telling d u.window.of until_left)

  right_tells : Tells (Counted true (subformula x.nodes u.right) (trace_in x)) (read_upto old u.right) (fresh_at old u.right)
      (front_place old u.right)
  right_tells = fresh_counted (among_telling d u.right until_right) true refl (stop_is d.belongs)

  abbrev pub begun_sweep : Sweep
  begun_sweep = record { out = work.out; reach = work.marks.reach }

  abbrev first_place_is : Place
  first_place_is = record { at = whole (pos (first_in x)); after = false }

  -- at the first answer nothing was read
  turned_first : op.front ≡ None → (r : Reads) × IsTurned stretch u [] begun_sweep r (fresh_at old u.window.of) (fresh_at old u.right)
  turned_first none =
      let left = among_first d u.window.of until_left none in
      let right = among_first d u.right until_right none in
      let begin : Same first_place_is (place work.out.at) =
      subst (λ (o : Option ℕ). Same (begins (stretch_of x (record op { front = o }))) (place work.out.at)) none (begun_at d g) in
      let reach : work.marks.reach ≡ work.out.at = (g.first none).0 ∙ sym g.at in
      let read : Place = read_upto old u.window.of in
      let later : (t v : Rational) → After (place work.out.at) t → After (low_place u.window t) v → After first_place_is v =
      λ t v a lo. after_later first_place_is t v (has.looks.ahead t v lo) (after_same (place work.out.at) first_place_is t (same_places begin) a) in
      let unread : (v : Rational) → After first_place_is v → After read v = λ v h. after_at_most read first_place_is v left h in
      let to_stop : (v : Rational) → After (place_of lesser_number) v → After read v =
      λ v h. unread v (le_trans (let z : pos (first_in x) ≤ℤ has_lesser.f = (let l = d.low in let f = has_lesser.front in omega (arith, ints)) in le_whole z)
      (le_of_lt (subst (λ (q : Place). After q v) lesser_place h))) in (
        record { read = read; left = read; right = read_upto old u.right },
        record {
          told = begun_told d g (formula_of x op) (trace_in x);
          knows = record {
            run = λ t a h. absurd (not_both first_place_is t (left t h) (after_same (place work.out.at) first_place_is t (same_places begin) a));
            counts = λ t a h. absurd (not_both (place work.out.at) t (subst (λ (c : Cut). Upto (place c) t) reach h) a);
            rest = λ t v a b lo hi q all s. (unread v (later t v a lo), unread v (later t v a lo));
            inside = λ v h. (to_stop v h, to_stop v h);
            ahead = λ t v a lo q b h. absurd (not_both read v h b);
          };
          left_tells = left_tells;
          right_tells = right_tells;
          left_behind = λ t h. h;
          right_behind = λ t v a lo h. absurd (not_both first_place_is v (right v h) (later t v a lo));
          tight = λ t a b. a;
          ahead = λ v first. begins_first v first;
        },
      )
    where
      begins_first : (v : Verdict) → slice_get (fresh_at old u.window.of) 0 ≡ Some v → Before (read_upto old u.window.of) (ends (interval v.on))
      begins_first v first = by_list (fresh_at old u.window.of) left_tells first
        where
          by_list : (vs : List Verdict) → Tells (Truth (subformula x.nodes u.window.of) (trace_in x)) (first_place vs (front_place old u.window.of)) vs
              (front_place old u.window.of) → slice_get vs 0 ≡ Some v
              → Before (first_place vs (front_place old u.window.of)) (ends (interval v.on))
          by_list [] h e = absurd (none-some v e)
          by_list (w ∷ vs) h e =
              let is : w ≡ v = same_Some w v e in
              subst (λ (y : Verdict). Before (begins (interval w.on)) (ends (interval y.on))) is h.1

  -- and later what was known is
  turned_later : (f : ℕ) → op.front ≡ Some f → (r : Reads) × IsTurned stretch u [] begun_sweep r (fresh_at old u.window.of) (fresh_at old u.right)
  turned_later f some =
      let known : IsUntilKnown (subformula x.nodes u.window.of) (subformula x.nodes u.right) (trace_in x) u
      (record { at = whole (pos f); after = true }) (place op.reach) (read_upto old u.window.of) (read_upto old u.right)
      (place_of lesser_number) (fresh_at old u.window.of) =
      subst (λ k. KnowsBy k x.nodes (trace_in x) old (record { at = whole (pos f); after = true }) (place op.reach) (place op.run)) kind
      (knows_at d f some) in
      let begin : Same (record { at = whole (pos f); after = true }) (place work.out.at) =
      subst (λ (o : Option ℕ). Same (begins (stretch_of x (record op { front = o }))) (place work.out.at)) some (begun_at d g) in
      let back : (t : Rational) → After (place work.out.at) t → After (record { at = whole (pos f); after = true }) t =
      λ t a. after_same (place work.out.at) (record { at = whole (pos f); after = true }) t (same_places begin) a in (
        record { read = known.read; left = read_upto old u.window.of; right = read_upto old u.right },
        record {
          told = begun_told d g (formula_of x op) (trace_in x);
          knows = subst (λ (c : Cut). KnowsUntil (Truth (subformula x.nodes u.window.of) (trace_in x))
              (Counted true (subformula x.nodes u.right) (trace_in x)) (low_place u.window) (high_place u.window) (place work.out.at) (place c)
              known.read known.read (place_of lesser_number)) (sym (g.later f some).0)
              (knows_later known.knows (place work.out.at) back);
          left_tells = left_tells;
          right_tells = right_tells;
          left_behind = known.left_behind;
          right_behind = λ t v a lo h. known.right_behind t v (back t a) lo h;
          tight = known.tight;
          ahead = known.ahead;
        },
      )

  begun_turned : (r : Reads) × IsTurned stretch u [] begun_sweep r (fresh_at old u.window.of) (fresh_at old u.right)
  begun_turned = by_front op.front refl
    where
      by_front : (o : Option ℕ) → op.front ≡ o
          → (r : Reads) × IsTurned stretch u [] begun_sweep r (fresh_at old u.window.of) (fresh_at old u.right)
      by_front None h = turned_first h
      by_front (Some f) h = turned_later f h

  -- the ends of an input's verdicts can be moved
  pub until_fits : (j : ℕ) → IsInput op.kind j → (k : ℕ) (v : Verdict) → slice_get (fresh_at old j) k ≡ Some v → FitsIn u.window v
  until_fits j a k v h =
      let inside = fresh_within (among_telling d j a) k v h in
      let from : whole (pos 0) ≤ʳ value v.on.from = le_trans (let z : pos 0 ≤ℤ pos (first_in x) = omega (arith, ints) in le_whole z) inside.0 in
      let to : value v.on.to ≤ʳ whole (pos (2 ^ 32)) =
      le_trans inside.2 (let z : pos x.now ≤ℤ pos (2 ^ 32) = (let s = d.small in omega (arith, ints)) in le_whole z) in
      let order = has.order in let low = has.begin_low in let high = has.ahead in (
        fits_moved u.window.begin_by from (le_trans inside.1 to) low (omega (arith, ints)),
        fits_moved u.window.end_by (le_trans from inside.1) to (omega (arith, ints)) (omega (arith, ints)),
      )

  -- the turns of `until` are the work of the step
  pub until_worked : {new : Held} (done : Outcome)
      → HasUntilTold old new u begun_sweep (record { out = done.out; reach = done.marks.reach }) → HasWorkedOut x op old new done
  until_worked {new} done told =
      let after = told.told stretch [] begun_turned.0 stretch_is begun_turned.1 in
      let m = after.1 in
      let worked : HasWorked old new op.node u.window.of u.right told.more =
      subst (λ (i : ℕ). HasWorked old new i u.window.of u.right told.more) g.edge told.worked in
      let there : Same (place done.out.at) (end_of x) =
      same_trans_places (same_of_at_most (place done.out.at) (place work.out.to) told.inside told.all) g.end in
      let left : Same after.0.left (read_upto new u.window.of) =
      read_place (Truth (subformula x.nodes u.window.of) (trace_in x)) new u.window.of after.0.left (front_place old u.window.of)
      (ap place_of (sym worked.left_read.number)) m.left_tells in
      let right : Same after.0.right (read_upto new u.right) =
      read_place (Counted true (subformula x.nodes u.right) (trace_in x)) new u.right after.0.right (front_place old u.right)
      (ap place_of (sym worked.right_read.number)) m.right_tells in
      let numbers : least (number_at old u.window.of) (number_at old u.right) ≡ least (number_at new u.window.of) (number_at new u.right) =
      ap (λ (o : Front). least o (number_at old u.right)) (sym worked.left_read.number)
      ∙ ap (λ (o : Front). least (number_at new u.window.of) o) (sym worked.right_read.number) in
      let back : (t : Rational) → After (end_of x) t → After (place done.out.at) t =
      λ t a. after_same (end_of x) (place done.out.at) t (same_places there) a in
      record {
        more = told.more;
        owed = subst (λ k. length told.more + waiting done.out.holds ≤ 2 * held_in old (inputs_of k) + 2) (sym kind)
            (let f = fresh_few old u.window.of in let h = fresh_few old u.right in let m = told.owed in let z = ap waiting g.holds in omega arith);
        worked = subst (λ k. HasWorkedOn k old new op.node told.more) (sym kind)
            (worked_two (UntilOf u) u.window.of u.right old new op.node told.more (λ k h. h) (λ k h. h) worked);
        edge = told.edge ∙ g.edge;
        sound = told.sound;
        end = there;
        told = m.told;
        knows = subst (λ k. KnowsBy k x.nodes (trace_in x) new (end_of x) (place done.marks.reach) (place done.marks.run)) (sym kind) (record {
          read = after.0.read;
          knows = subst (λ (o : Front). KnowsUntil (Truth (subformula x.nodes u.window.of) (trace_in x))
              (Counted true (subformula x.nodes u.right) (trace_in x)) (low_place u.window) (high_place u.window) (end_of x) (place done.marks.reach)
              after.0.read after.0.read (place_of o)) numbers
              (knows_later m.knows (end_of x) back);
          left_behind = λ t h. m.left_behind t (upto_same (read_upto new u.window.of) after.0.left t (same_places left) h);
          right_behind = λ t v a lo h.
              m.right_behind t v (back t a) lo (upto_same (read_upto new u.right) after.0.right v (same_places right) h);
          tight = λ t a b. m.tight t (after_same (read_upto new u.window.of) after.0.left t (same_places left) a)
              (after_same (read_upto new u.right) after.0.right t (same_places right) b);
          ahead = m.ahead;
        });
        unread = subst (λ k. LeavesLater k new (end_of x) (place done.marks.run)) (sym kind) tt;
      }

-- the operator's until
pub has_until : {x : Situation} {op : Operator} {old : Held} (d : IsDue x op old) {u : UntilWindow} → op.kind ≡ UntilOf u
    → HasUntil (formula_of x op) (subformula x.nodes u.window.of) (subformula x.nodes u.right) (trace_in x) u
has_until {x} {op} {old} d {u} e =
    subst (λ (n : Subformula). HasUntil n (subformula x.nodes u.window.of) (subformula x.nodes u.right) (trace_in x) u) (sym (formula_is d))
    (until_node (subformula x.nodes) op.node (trace_in x) d.belongs.stands.node u (sym (kind_is d) ∙ e) (own_bounds d.belongs)
    (own_reach_small d.belongs))
