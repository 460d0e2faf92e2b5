-- The turns of since.
use Rattle.std.proofs.Common.{◌≡◌, ◌≢◌, ◌⊎◌, inl, inr, ◌+◌, ◌<◌, ℤ, pos, ◌≤ℤ◌, Bool, true, false, not, ◌||◌, ◌&&◌}
use Rattle.std.proofs.Common.{List, [], ◌∷◌, ◌++◌, drop, length, Some, slice_get, refl, sym, ap, subst, ◌∙◌, arith}
use Rattle.std.specs.Prelude.{MatchBool}
use Rattle.std.proofs.lemmas.List.{append-nil}
use Rattle.rational.specs.Rational.{Rational, ◌≤ʳ◌, ◌<ʳ◌, add, whole}
use Rattle.rational.proofs.Order.{le_trans, le_of_same, lt_of_lt_of_le}
use Rattle.rational.proofs.Shift.{lt_shift, same_shift, le_shift_by}
use Rattle.rational.proofs.TimeLemmas.{later_from, later-add}
use Rattle.frac128.specs.Spans.{interval}
use Rattle.stl_syntax.specs.Truth.{Truth}
use Rattle.stl_syntax.specs.declared.items.Verdict.{Verdict}
use Rattle.rational.specs.Places.{Place, begins, ends, moved_begin, moved_end, After, Upto, AtMost, Before, Same}
use Rattle.frac128.specs.Cuts.{place}
use Rattle.online_nodes.specs.Held.{Held, fresh_at}
use Rattle.online_nodes.specs.Truths.{AllAre, Tells, KnowsSince, SinceRemembers}
use Rattle.online_nodes.specs.Written.{HasSaidBoth, IsSound}
use Rattle.online_nodes.specs.Working.{HasPassed, HasWorked}
use Rattle.online_nodes.specs.Sweeps.{Counted, low_place, high_place}
use Rattle.online_nodes.specs.Untils.{Reads}
use Rattle.online_nodes.specs.Sinces.{CanMoveRun, HasMoved, HasReadLeft, IsSince, IsSpent, IsStaying, Stay}
use Rattle.frac128.specs.declared.cut.Cut.{Cut}
use Rattle.online_nodes.specs.declared.since.Wrote.{Wrote}
use Rattle.online_nodes.specs.declared.since.Since.{Since}
use Rattle.online_nodes.specs.declared.writer.Out.{Out}
use Rattle.online_nodes.proofs.GotLemmas.{got-other}
use Rattle.online_nodes.proofs.JoinLemmas.{worked_then_pass}
use Rattle.rational.proofs.PlaceLemmas.{sides, not_both, upto_of_before, upto_same, after_same, after_of_before, before_trans, same_places}
use Rattle.rational.proofs.PlaceLemmas.{after_at_most}
use Rattle.online_nodes.proofs.SaidLemmas.{passed-fresh, passed-one}
use Rattle.online_nodes.proofs.SinceLaw.{goes_on, went_on, fails, not_yet, remembers_of, knows_new_run, knows_left_read, knows_later}
use Rattle.online_nodes.proofs.UntilCounts.{meets_from}
use Rattle.online_nodes.proofs.UntilPasses.{told_before}
use Rattle.online_nodes.proofs.UntilTurns.{goes_on_from}
use Rattle.online_nodes.proofs.WindowPlaces.{meets_after}
use Rattle.online_nodes.proofs.WorkLemmas.{passed-other, first_and_rest, worked_put, worked_pass}

-- a time moved on is not earlier
up_by : (t : Rational) (k : ℤ) → pos 0 ≤ℤ k → t ≤ʳ add t (whole k)
up_by t k h = le_trans (later_from t 0) (le_trans (le_of_same (later-add t 0)) (le_shift_by t h))

-- a place moved on by an end of a window that is in is not earlier
pub moved_up : (k : ℤ) (i : Bool) (c : Place) → i ≡ true → pos 0 ≤ℤ k → AtMost c (moved_begin k i c)
moved_up k i c is h t = by_side c.after i is
  where
    by_side : (a j : Bool) → j ≡ true → MatchBool a (t ≤ʳ c.at) (t <ʳ c.at) → MatchBool (a || not j) (t ≤ʳ add c.at (whole k)) (t <ʳ add c.at (whole k))
    by_side true j e x = le_trans x (up_by c.at k h)
    by_side false true e x = lt_of_lt_of_le x (up_by c.at k h)
    by_side false false e x = absurd (let y : false ≡ true = e in cc)

-- and moved by more it is later
pub moved_more : (k j : ℤ) (i m : Bool) (c : Place) → i ≡ true → m ≡ true → k ≤ℤ j → AtMost (moved_begin k i c) (moved_end j m c)
moved_more k j i m c is im h t = by_side c.after i m is im
  where
    by_side : (a x y : Bool) → x ≡ true → y ≡ true → MatchBool (a || not x) (t ≤ʳ add c.at (whole k)) (t <ʳ add c.at (whole k))
        → MatchBool (a && y) (t ≤ʳ add c.at (whole j)) (t <ʳ add c.at (whole j))
    by_side true true true e f z = le_trans z (le_shift_by c.at h)
    by_side true false y e f z = absurd (let w : false ≡ true = e in cc)
    by_side true true false e f z = absurd (let w : false ≡ true = f in cc)
    by_side false true y e f z = lt_of_lt_of_le z (le_shift_by c.at h)
    by_side false false y e f z = absurd (let w : false ≡ true = e in cc)

-- moved places stay in order
pub moved_order : (k : ℤ) (i : Bool) (c d : Place) → i ≡ true → Before c d → Before (moved_begin k i c) (moved_begin k i d)
moved_order k i c d is (inl l) = inl (lt_shift k l)
moved_order k i c d is (inr (s, e, f)) = inr (same_shift k s, rw (e, is) refl, rw (f) refl)

-- the later of two places
pub record IsLaterOf (a b c : Place) : Type 0 where
  -- the first is no later
  pub first : AtMost a c
  -- nor is the second
  pub second : AtMost b c
  -- and one of them is no earlier
  pub one : (AtMost c a) ⊎ (AtMost c b)

-- what lies behind both lies behind the later one
pub after_later_of : {a b c : Place} → IsLaterOf a b c → (t : Rational) → After a t → After b t → After c t
after_later_of {a} {b} {c} is t x y = elim is.one [ inl h ↦ after_at_most c a t h x | inr h ↦ after_at_most c b t h y ]

-- where since works
pub record IsWorking (old : Held) (s : Since) (c : Wrote) : Type 0 where
  -- the node has an edge
  pub own : c.out.edge < length old.edges
  -- it is not that of the left input
  pub left_apart : s.window.of ≢ c.out.edge
  -- nor that of the right one
  pub right_apart : s.right ≢ c.out.edge
  -- and the two inputs' differ
  pub apart : s.window.of ≢ s.right

module _ {x : Stay} {s : Since} {written : List Verdict} {c : Wrote} {r : Reads} {fresh_left fresh_right : List Verdict}
    (of : IsSince x s (place c.out.to)) (m : IsStaying x s written c r fresh_left fresh_right) where
  -- in the trace, what is known says what holds of the node
  pub staying-remembers : SinceRemembers (Truth x.n x.tr) (Truth x.p x.tr) (Counted true x.q x.tr) (low_place s.window) (high_place s.window)
      (place c.out.at) (place c.run) (place c.reach) r.read r.right
  staying-remembers = remembers_of m.knows of.looks of.from_start m.ran m.answered

  -- the inputs' next verdicts
  pub left-first : {v : Verdict} → slice_get fresh_left 0 ≡ Some v → Tells (Truth x.p x.tr) r.left (v ∷ drop 1 fresh_left) x.stop_left
  left-first {v} first = subst (λ f. Tells (Truth x.p x.tr) r.left f x.stop_left) (first_and_rest fresh_left v first) m.left_tells

  -- what the right input's edge holds is told
  pub right-first : {w : Verdict} → slice_get fresh_right 0 ≡ Some w
      → Tells (Counted true x.q x.tr) r.right (w ∷ drop 1 fresh_right) x.stop_right
  right-first {w} first =
      subst (λ f. Tells (Counted true x.q x.tr) r.right f x.stop_right) (first_and_rest fresh_right w first) m.right_tells

  -- the first left verdict says its truth from where it was read
  pub left-says : {v : Verdict} → slice_get fresh_left 0 ≡ Some v → AllAre v.holds (Truth x.p x.tr) r.read (ends (interval v.on))
  left-says first t after upto = (left-first first).2 t (after_at_most r.left r.read t m.left_behind after) upto

  -- and holds to each place before its end
  pub left_holds_to : {v : Verdict} → slice_get fresh_left 0 ≡ Some v → v.holds ≡ true → (e : Place) → AtMost e (ends (interval v.on))
      → AllAre true (Truth x.p x.tr) r.read e
  left_holds_to {v} first holding e within t after upto =
      subst (λ b. AllAre b (Truth x.p x.tr) r.read (ends (interval v.on))) holding (left-says first) t after (within t upto)

  -- the first left verdict ends no later than the left input is answered
  pub left_within : {v : Verdict} → slice_get fresh_left 0 ≡ Some v → AtMost (ends (interval v.on)) x.stop_left
  left_within {v} first = told_before (Truth x.p x.tr) r.left x.stop_left fresh_left v m.left_tells first

  -- the first right verdict ends no later than the right input is answered
  pub right_within : {w : Verdict} → slice_get fresh_right 0 ≡ Some w → AtMost (ends (interval w.on)) x.stop_right
  right_within {w} first = told_before (Counted true x.q x.tr) r.right x.stop_right fresh_right w m.right_tells first

  -- the run begins no later than up to where the left input is known
  pub run_behind : AtMost (place c.run) r.read
  run_behind t h = elim (sides r.read t) [ inl k ↦ k | inr a ↦ absurd (not_both (place c.run) t h (m.knows.order t a)) ]

  -- once a verdict of the right input was read, the next one ends later
  pub spent_on : {w : Verdict} → s.window.begin_in ≡ true → slice_get fresh_right 0 ≡ Some w → IsSpent s fresh_right r.read (place c.run)
      → IsSpent s (drop 1 fresh_right) r.read (place c.run)
  spent_on {w} inside first spent y next = elim (spent w first) [
    | inl b ↦ inl (before_trans r.read (moved_begin s.window.begin_by s.window.begin_in (ends (interval w.on)))
        (moved_begin s.window.begin_by s.window.begin_in (ends (interval y.on))) b
        (moved_order s.window.begin_by s.window.begin_in (ends (interval w.on)) (ends (interval y.on)) inside
        (goes_on_from (Counted true x.q x.tr) (ends (interval w.on)) x.stop_right (drop 1 fresh_right) y (right-first first).3 next)))
    | inr h ↦ inr h
  ]

  -- up to where what the right input's next verdict tells in the run counts, the node fails beyond what was found
  pub not_yet_found : {w : Verdict} → slice_get fresh_right 0 ≡ Some w → (from begin : Place)
      → IsLaterOf (begins (interval w.on)) (place c.run) from
      → Same begin (moved_begin s.window.begin_by s.window.begin_in from)
      → (t : Rational) → After (place c.out.at) t → After (place c.reach) t → Upto begin t → ¬ Truth x.n x.tr t
  not_yet_found {w} first from begin is begin_is t a b u =
      not_yet of.looks staying-remembers from begin
      (meets_from (high_place s.window) (meets_after s.window.begin_by s.window.begin_in from) begin_is)
      (λ y after_run after_right. after_later_of is y (after_same r.right (begins (interval w.on)) y (right-first first).0 after_right) after_run)
      t a b u

-- the lists once the left input's next verdict was read
module _ {old mid new : Held} {s : Since} {c : Wrote} {out : Out} {held cut : Cut} {v : Verdict} (at : IsWorking old s c)
    (said : HasSaidBoth old mid c.out true held cut out) (passed : HasPassed mid new s.window.of v) where
  kept_left : fresh_at mid s.window.of ≡ fresh_at old s.window.of
  kept_left = ap (λ y. y.fresh) (got-other said.got s.window.of at.left_apart)

  -- the right input stays unread
  pub right_kept : fresh_at new s.right ≡ fresh_at old s.right
  right_kept = ap (λ y. y.fresh) (passed-other passed s.right (λ same. at.apart (sym same))) ∙ ap (λ y. y.fresh)
      (got-other said.got s.right at.right_apart)

  -- of the left input one verdict was read
  pub left_read : fresh_at new s.window.of ≡ drop 1 (fresh_at old s.window.of)
  left_read = passed-fresh passed ∙ ap (drop 1) kept_left

  -- of both inputs together there is one verdict fewer to read
  pub one_read : length (fresh_at new s.window.of) + length (fresh_at new s.right)
      < length (fresh_at old s.window.of) + length (fresh_at old s.right)
  one_read = omega (arith, ap length kept_left, ap length right_kept, passed-one passed)

  -- the inputs were read on, and what was told was put
  pub all_worked : HasWorked old new c.out.edge s.window.of s.right said.more
  all_worked = worked_then_pass (worked_put at.own at.left_apart at.right_apart said.got) passed (λ same. at.left_apart (sym same)) (inl refl)

-- the left input fails up to within the stretch: its run ends
pub run_over : {old mid new : Held} {s : Since} {c : Wrote} {out : Out} {held cut : Cut} {v y : Verdict} → IsWorking old s c
    → slice_get (fresh_at old s.window.of) 0 ≡ Some v → v.holds ≡ false → HasSaidBoth old mid c.out true held cut out
    → AtMost (place held) (place c.reach) → AtMost (place held) (begins (interval v.on))
    → (held ≡ c.reach) ⊎ (place held ≡ begins (interval v.on))
    → place cut ≡ ends (interval v.on) → AtMost (place cut) (place c.out.to) → HasPassed mid new s.window.of y
    → CanMoveRun s.window (record { out = out; reach = cut; run = cut }) → HasMoved old new s c (record { out = out; reach = cut; run = cut })
run_over {old} {mid} {new} {s} {c} {out} {held} {cut} {v} {y} at first failing said held_reach held_begin held_one cut_is to_end passed fits =
    record {
      more = said.more;
      few = said.few;
      owed = said.owed;
      worked = all_worked at said passed;
      fewer = one_read at said passed;
      edge = said.edge;
      end = said.end;
      sound = said.sound;
      inside = said.inside;
      fits = fits;
      goes = λ x written r of m.
          let e : Place = place cut in
          let failed : AllAre false (Truth x.p x.tr) r.read e =
          subst (λ (q : Place). AllAre false (Truth x.p x.tr) r.read q) (sym cut_is)
          (subst (λ b. AllAre b (Truth x.p x.tr) r.read (ends (interval v.on))) failing (left-says of m first)) in
          let ahead : Before r.read e = subst (λ (q : Place). Before r.read q) (sym cut_is) (m.ahead v first) in
          let later : (t : Rational) → After (place out.at) t → After (place c.out.at) t × After e t =
          λ t a. (
            after_at_most (place c.out.at) (place out.at) t said.forward a,
            after_at_most e (place out.at) t (λ z h. said.reached z h (to_end z h)) a,
          ) in
          let rest : Tells (Truth x.p x.tr) e (drop 1 (fresh_at old s.window.of)) x.stop_left =
          subst (λ (q : Place). Tells (Truth x.p x.tr) q (drop 1 (fresh_at old s.window.of)) x.stop_left) (sym cut_is) (left-first of m first).3 in
          let begun : Same r.left (begins (interval v.on)) = (left-first of m first).0 in
          let found : (t : Rational) → After (place c.out.at) t → Upto (place c.out.to) t → Upto (place held) t → Truth x.n x.tr t =
          λ t a to h. went_on of.looks (staying-remembers of m) t a (held_reach t h)
          (m.left_behind t (upto_same (begins (interval v.on)) r.left t (same_places begun) (held_begin t h))) in
          let which : (t : Rational) → After (place c.out.at) t → After (place held) t → After (place c.reach) t ⊎ After r.read t =
          λ t a b. elim held_one [
            | inl is ↦ inl (subst (λ (q : Cut). After (place q) t) is b)
            | inr is ↦ inr (m.tight t (after_same (begins (interval v.on)) r.left t (same_places begun)
                (subst (λ (q : Place). After q t) is b)) (m.ran t a))
          ] in
          let lost : (t : Rational) → After (place c.out.at) t → Upto (place c.out.to) t → After (place held) t → Upto e t → ¬ Truth x.n x.tr t =
          λ t a to b u. fails of.looks (staying-remembers of m) e failed t a
          (which t a b) u in (
            record { read = e; left = e; right = r.right },
            record {
              told = said.told x.n x.tr x.begin written m.told found lost;
              knows = knows_new_run m.knows (place out.at) e ahead failed later;
              left_tells = subst (λ f. Tells (Truth x.p x.tr) e f x.stop_left) (sym (left_read at said passed)) rest;
              right_tells = subst (λ f. Tells (Counted true x.q x.tr) r.right f x.stop_right) (sym (right_kept at said passed)) m.right_tells;
              left_behind = λ t h. h;
              tight = λ t a b. a;
              ahead = λ z is_first. goes_on_from (Truth x.p x.tr) e x.stop_left (drop 1 (fresh_at old s.window.of)) z rest
                  (ap (λ f. slice_get f 0) (sym (left_read at said passed)) ∙ is_first);
              ran = λ t a. (later t a).1;
              answered = λ t a b. b;
              within = λ t h. subst (λ (q : Cut). Upto (place q) t) (sym said.end) (to_end t h);
              from_start = λ t h. upto_of_before r.read e t ahead (run_behind of m t (m.from_start t h));
              spent = inr (λ w is_first. inr (λ t h. h));
            },
          );
    }

-- what the node fails up to, and what was read of the right input there
pub record IsLeftRead (old : Held) (s : Since) (c : Wrote) (e : Place) : Type 0 where
  -- where nothing counts any more `since` is false
  pub falls : (x : Stay) (written : List Verdict) (r : Reads) → IsSince x s (place c.out.to)
      → IsStaying x s written c r (fresh_at old s.window.of) (fresh_at old s.right)
      → (t : Rational) → After (place c.out.at) t → After (place c.reach) t → Upto (place c.out.to) t → Upto e t → ¬ Truth x.n x.tr t
  -- the right verdict counts for nothing from here on
  pub spent : (w : Verdict) → slice_get (fresh_at old s.right) 0 ≡ Some w
      → Before e (moved_begin s.window.begin_by s.window.begin_in (ends (interval w.on)))

-- the left input holds up to within the stretch, and was read
pub left_over : {old new : Held} {s : Since} {c next : Wrote} {v : Verdict} → IsWorking old s c → slice_get (fresh_at old s.window.of) 0 ≡ Some v
    → v.holds ≡ true → CanMoveRun s.window c → IsLeftRead old s c (ends (interval v.on)) → HasReadLeft old new s c v next
    → HasMoved old new s c next
left_over {old} {new} {s} {c} {next} {v} at first holding fits why g =
    record {
      more = g.said.more;
      few = g.said.few;
      owed = g.said.owed;
      worked = all_worked at g.said g.passed;
      fewer = one_read at g.said g.passed;
      edge = g.said.edge;
      end = g.said.end;
      sound = g.said.sound;
      inside = g.said.inside;
      fits = subst (λ (q : Cut). CanMoveRun s.window (record { out = c.out; reach = c.reach; run = q })) (sym g.run) fits;
      goes = λ x written r of m.
          let e : Place = ends (interval v.on) in
          let holds : AllAre true (Truth x.p x.tr) r.read e = left_holds_to of m first holding e (λ t h. h) in
          let rest : Tells (Truth x.p x.tr) e (drop 1 (fresh_at old s.window.of)) x.stop_left = (left-first of m first).3 in
          let later : (t : Rational) → After (place next.out.at) t → After (place c.out.at) t =
          λ t a. after_at_most (place c.out.at) (place next.out.at) t g.said.forward a in
          let past : (t : Rational) → After (place next.out.at) t → After e t =
          λ t a. after_at_most e (place next.out.at) t
          (λ z h. g.said.reached z (subst (λ (q : Place). Upto q z) (sym g.cut_is) h) (g.to_end z h)) a in
          let found : (t : Rational) → After (place c.out.at) t → Upto (place c.out.to) t → Upto (place g.held) t → Truth x.n x.tr t =
          λ t a to h. goes_on of.looks (staying-remembers of m) e holds t a
          (g.held_reach t h) (g.held_end t h) in
          let beyond : (t : Rational) → After (place g.held) t → Upto (place g.cut) t → After (place c.reach) t =
          λ t b u. elim g.held_one [
            | inl is ↦ subst (λ (q : Cut). After (place q) t) is b
            | inr is ↦ absurd (not_both (place g.cut) t u (subst (λ (q : Cut). After (place q) t) is b))
          ] in
          let lost : (t : Rational) → After (place c.out.at) t → Upto (place c.out.to) t → After (place g.held) t → Upto (place g.cut) t
          → ¬ Truth x.n x.tr t =
          λ t a to b u. why.falls x written r of m t a (beyond t b u) to (subst (λ (q : Place). Upto q t) g.cut_is u) in
          let there : IsStaying x s (written ++ g.said.more) (record { out = next.out; reach = c.reach; run = c.run })
          (record { read = e; left = e; right = r.right }) (fresh_at new s.window.of) (fresh_at new s.right) = record {
            told = g.said.told x.n x.tr x.begin written m.told found lost;
            knows = knows_later (knows_left_read m.knows e holds (λ t a. after_of_before r.read e t (m.ahead v first) a)) (place next.out.at) later;
            left_tells = subst (λ f. Tells (Truth x.p x.tr) e f x.stop_left) (sym (left_read at g.said g.passed)) rest;
            right_tells = subst (λ f. Tells (Counted true x.q x.tr) r.right f x.stop_right) (sym (right_kept at g.said g.passed)) m.right_tells;
            left_behind = λ t h. h;
            tight = λ t a b. a;
            ahead = λ z is_first. goes_on_from (Truth x.p x.tr) e x.stop_left (drop 1 (fresh_at old s.window.of)) z rest
                (ap (λ f. slice_get f 0) (sym (left_read at g.said g.passed)) ∙ is_first);
            ran = λ t a. m.ran t (later t a);
            answered = λ t a b. past t a;
            within = λ t h. subst (λ (q : Cut). Upto (place q) t) (sym g.said.end) (g.to_end t h);
            from_start = m.from_start;
            spent = inr (λ w is_first. inl (why.spent w (ap (λ f. slice_get f 0) (sym (right_kept at g.said g.passed)) ∙ is_first)));
          } in (
            record { read = e; left = e; right = r.right },
            subst (λ (q : Cut). IsStaying x s (written ++ g.said.more) (record { out = next.out; reach = q; run = next.run })
                (record { read = e; left = e; right = r.right }) (fresh_at new s.window.of) (fresh_at new s.right)) (sym g.reach)
                (subst (λ (q : Cut). IsStaying x s (written ++ g.said.more) (record { out = next.out; reach = c.reach; run = q })
                (record { read = e; left = e; right = r.right }) (fresh_at new s.window.of) (fresh_at new s.right)) (sym g.run) there),
          );
    }

-- the right input's next verdict was read, and nothing put
module _ {old new : Held} {s : Since} {c : Wrote} {w : Verdict} (at : IsWorking old s c)
    (first : slice_get (fresh_at old s.right) 0 ≡ Some w) (passed : HasPassed old new s.right w) where
  -- the left input stays unread
  pub left_stays : fresh_at new s.window.of ≡ fresh_at old s.window.of
  left_stays = ap (λ y. y.fresh) (passed-other passed s.window.of at.apart)

  -- what is known once it was read
  pub right_step : CanMoveRun s.window c → s.window.begin_in ≡ true
      → ((x : Stay) (written : List Verdict) (r : Reads) → IsSince x s (place c.out.to)
      → IsStaying x s written c r (fresh_at old s.window.of) (fresh_at old s.right)
      → KnowsSince (Truth x.p x.tr) (Counted true x.q x.tr) (low_place s.window) (high_place s.window) x.start (place c.out.at)
      (place c.run) (place c.reach) r.read (ends (interval w.on)) x.stop_left x.stop_right)
      → (x : Stay) (written : List Verdict) (r : Reads) → IsSince x s (place c.out.to)
      → IsStaying x s written c r (fresh_at old s.window.of) (fresh_at old s.right)
      → (r' : Reads) × IsStaying x s written c r' (fresh_at new s.window.of) (fresh_at new s.right)
  right_step fits inside knows x written r of m = (
    record { read = r.read; left = r.left; right = ends (interval w.on) },
    record {
      told = m.told;
      knows = knows x written r of m;
      left_tells = subst (λ f. Tells (Truth x.p x.tr) r.left f x.stop_left) (sym left_stays) m.left_tells;
      right_tells = subst (λ f. Tells (Counted true x.q x.tr) (ends (interval w.on)) f x.stop_right) (sym (passed-fresh passed)) (right-first of m first).3;
      left_behind = m.left_behind;
      tight = m.tight;
      ahead = λ z is_first. m.ahead z (ap (λ f. slice_get f 0) (sym left_stays) ∙ is_first);
      ran = m.ran;
      answered = m.answered;
      within = m.within;
      from_start = m.from_start;
      spent = elim m.spent [
        | inl same ↦ inl (left_stays ∙ same)
        | inr spent ↦ inr (subst (λ f. IsSpent s f r.read (place c.run)) (sym (passed-fresh passed)) (spent_on of m inside first spent))
      ];
    },
  )

  -- a right verdict that counts no more is passed over
  pub right_over : CanMoveRun s.window c → s.window.begin_in ≡ true → IsSound c.out → AtMost (place c.out.at) (place c.out.to)
      → ((x : Stay) (written : List Verdict) (r : Reads) → IsSince x s (place c.out.to)
      → IsStaying x s written c r (fresh_at old s.window.of) (fresh_at old s.right)
      → KnowsSince (Truth x.p x.tr) (Counted true x.q x.tr) (low_place s.window) (high_place s.window) x.start (place c.out.at)
      (place c.run) (place c.reach) r.read (ends (interval w.on)) x.stop_left x.stop_right)
      → HasMoved old new s c c
  right_over fits inside sound within knows =
      record {
        more = [];
        few = omega arith;
        owed = omega arith;
        worked = worked_pass passed (λ same. at.right_apart (sym same)) (inr refl);
        fewer = omega (arith, ap length left_stays, passed-one passed);
        edge = refl;
        end = refl;
        sound = sound;
        inside = within;
        fits = fits;
        goes = λ x written r of m.
            let next = right_step fits inside knows x written r of m in
            (next.0, subst (λ l. IsStaying x s l c next.0 (fresh_at new s.window.of) (fresh_at new s.right)) (sym (append-nil written)) next.1);
      }
