-- Since where both inputs hold: what the right one tells within the run counts from now on.
use Rattle.std.proofs.Common.{◌≡◌, ◌⊎◌, inl, inr, true, List, ◌++◌, drop, length, Some, slice_get}
use Rattle.std.proofs.Common.{refl, sym, ap, subst, ◌∙◌, arith, append_assoc, length-append}
use Rattle.std.proofs.lemmas.Option.{slice_get_within}
use Rattle.rational.specs.Rational.{Rational}
use Rattle.frac128.specs.Spans.{interval}
use Rattle.stl_syntax.specs.Truth.{Truth}
use Rattle.stl_syntax.specs.declared.items.Verdict.{Verdict}
use Rattle.rational.specs.Places.{Place, begins, ends, moved_begin, moved_end, After, Upto, AtMost, Before, Same}
use Rattle.frac128.specs.Cuts.{place}
use Rattle.online_nodes.specs.Held.{Held, fresh_at}
use Rattle.online_nodes.specs.Truths.{AllAre, Tells, MeetsUpto}
use Rattle.online_nodes.specs.Written.{HasSaidBoth}
use Rattle.online_nodes.specs.Working.{HasPassed, HasWorked}
use Rattle.online_nodes.specs.Sweeps.{Counted, low_place, high_place}
use Rattle.online_nodes.specs.Untils.{Reads}
use Rattle.online_nodes.specs.Sinces.{CanMoveRun, HasDone, HasMoved, HasReadRight, HasRested, IsBackward, IsSince, IsSpent}
use Rattle.online_nodes.specs.Sinces.{IsStaying, Stay}
use Rattle.frac128.specs.declared.cut.Cut.{Cut}
use Rattle.online_nodes.specs.declared.since.Wrote.{Wrote}
use Rattle.online_nodes.specs.declared.since.Since.{Since}
use Rattle.online_nodes.specs.declared.writer.Out.{Out}
use Rattle.online_nodes.proofs.GotLemmas.{got-length, got-other}
use Rattle.online_nodes.proofs.JoinLemmas.{worked_then_pass}
use Rattle.rational.proofs.PlaceLemmas.{sides, not_both, place_order, upto_of_before, after_same, after_of_before, before_trans, same_places, after_at_most}
use Rattle.online_nodes.proofs.SaidLemmas.{passed-fresh, passed-one}
use Rattle.online_nodes.proofs.SinceLaw.{goes_on, knows_found, knows_right_read, knows_left_read}
use Rattle.online_nodes.proofs.SinceEnds.{IsRest, rest_staying}
use Rattle.online_nodes.proofs.SinceTurns.{IsLaterOf, IsWorking, left-first, left_holds_to, left_within, moved_more, moved_up}
use Rattle.online_nodes.proofs.SinceTurns.{not_yet_found, right-first, right_step, right_within, staying-remembers}
use Rattle.online_nodes.proofs.UntilCounts.{meets_from, meets_to}
use Rattle.online_nodes.proofs.UntilTurns.{goes_on_from}
use Rattle.online_nodes.proofs.WindowLaw.{IsMet}
use Rattle.online_nodes.proofs.WindowPlaces.{meets_after, meets_upto}
use Rattle.online_nodes.proofs.WorkLemmas.{passed-other, worked_put, worked_both}

-- what both inputs' next verdicts tell, and from where to where it counts
pub record IsFound (old mid : Held) (s : Since) (c : Wrote) (out : Out) (held begin last reach from : Cut) (v w : Verdict) : Type 0 where
  -- the walk stands so
  pub at : IsWorking old s c
  -- the window looks back
  pub back : IsBackward s.window
  -- the first verdict of the left input
  pub first_left : slice_get (fresh_at old s.window.of) 0 ≡ Some v
  -- the first verdict of the right input
  pub first_right : slice_get (fresh_at old s.right) 0 ≡ Some w
  -- the left one holds
  pub left_holds : v.holds ≡ true
  -- and the right one
  pub right_holds : w.holds ≡ true
  -- from where both do, within the run
  pub from_is : IsLaterOf (begins (interval w.on)) (place c.run) (place from)
  -- before the right one ends
  pub shared : Before (place from) (ends (interval w.on))
  -- from where the window meets it
  pub begin_is : Same (place begin) (moved_begin s.window.begin_by s.window.begin_in (place from))
  -- within the left one
  pub in_run : Before (place begin) (ends (interval v.on))
  -- not beyond the end
  pub to_end : AtMost (place begin) (place c.out.to)
  -- up to where what was found counts
  pub held_reach : AtMost (place held) (place c.reach)
  -- and the left one holds
  pub held_end : AtMost (place held) (ends (interval v.on))
  -- whichever is earlier
  pub held_one : (held ≡ c.reach) ⊎ (place held ≡ ends (interval v.on))
  -- so far false and then true is told
  pub said : HasSaidBoth old mid c.out true held begin out
  -- to where the window meets what was found now
  pub last_is : Same (place last) (moved_end s.window.end_by s.window.end_in (ends (interval w.on)))
  -- what was found counts as far as before
  pub reach_first : AtMost (place c.reach) (place reach)
  -- and as far as that
  pub reach_second : AtMost (place last) (place reach)
  -- whichever is later
  pub reach_one : (reach ≡ c.reach) ⊎ (reach ≡ last)

-- a verdict of the left input, which holds, was read after that
left_step : {old new : Held} {s : Since} {c : Wrote} {v : Verdict} → IsWorking old s c → slice_get (fresh_at old s.window.of) 0 ≡ Some v
    → v.holds ≡ true → HasPassed old new s.window.of v → AtMost (ends (interval v.on)) (place c.out.to)
    → ((t : Rational) → After (place c.reach) t → After (ends (interval v.on)) t)
    → ((w : Verdict) → slice_get (fresh_at old s.right) 0 ≡ Some w
    → Before (ends (interval v.on)) (moved_begin s.window.begin_by s.window.begin_in (ends (interval w.on))))
    → {x : Stay} {written : List Verdict} {r : Reads} → IsSince x s (place c.out.to)
    → IsStaying x s written c r (fresh_at old s.window.of) (fresh_at old s.right)
    → IsStaying x s written c (record { read = ends (interval v.on); left = ends (interval v.on); right = r.right })
    (fresh_at new s.window.of) (fresh_at new s.right)
left_step {old} {new} {s} {c} {v} at first holding passed to_end beyond spent {x} {written} {r} of m =
    let e : Place = ends (interval v.on) in
    let right_now : fresh_at new s.right ≡ fresh_at old s.right = ap (λ y. y.fresh) (passed-other passed s.right (λ same. at.apart (sym same))) in
    let rest : Tells (Truth x.p x.tr) e (drop 1 (fresh_at old s.window.of)) x.stop_left = (left-first of m first).3 in
    record {
      told = m.told;
      knows = knows_left_read m.knows e
          (left_holds_to of m first holding e (λ t h. h)) (λ t a. after_of_before r.read e t (m.ahead v first) a);
      left_tells = subst (λ f. Tells (Truth x.p x.tr) e f x.stop_left) (sym (passed-fresh passed)) rest;
      right_tells = subst (λ f. Tells (Counted true x.q x.tr) r.right f x.stop_right) (sym right_now) m.right_tells;
      left_behind = λ t h. h;
      tight = λ t a b. a;
      ahead = λ z is_first. goes_on_from (Truth x.p x.tr) e x.stop_left (drop 1 (fresh_at old s.window.of)) z rest
          (ap (λ f. slice_get f 0) (sym (passed-fresh passed)) ∙ is_first);
      ran = m.ran;
      answered = λ t a b. beyond t b;
      within = to_end;
      from_start = m.from_start;
      spent = inr (λ w is_first. inl (spent w (ap (λ f. slice_get f 0) (sym right_now) ∙ is_first)));
    }

module _ {old mid : Held} {s : Since} {c : Wrote} {out : Out} {held begin last reach from : Cut} {v w : Verdict}
    (g : IsFound old mid s c out held begin last reach from v w) where
  kept_left : fresh_at mid s.window.of ≡ fresh_at old s.window.of
  kept_left = ap (λ y. y.fresh) (got-other g.said.got s.window.of g.at.left_apart)

  kept_right : fresh_at mid s.right ≡ fresh_at old s.right
  kept_right = ap (λ y. y.fresh) (got-other g.said.got s.right g.at.right_apart)

  -- what is found counts for no longer than `reach` says
  beyond_reach : (t u : Rational) → After (place reach) t → After (low_place s.window t) u → After (ends (interval w.on)) u
  beyond_reach t u a lo = by_order (place_order (low_place s.window t) (ends (interval w.on)))
    where
      counts : MeetsUpto (low_place s.window) (ends (interval w.on)) (place last)
      counts = meets_to (low_place s.window) (meets_upto s.window.end_by s.window.end_in (ends (interval w.on))) g.last_is

      by_order : Before (low_place s.window t) (ends (interval w.on)) ⊎ Same (low_place s.window t) (ends (interval w.on)) ⊎ Before (ends
          (interval w.on)) (low_place s.window t)
          → After (ends (interval w.on)) u
      by_order (inl before) = absurd (not_both (place last) t ((counts t).1 before) (after_at_most (place last) (place reach) t g.reach_second a))
      by_order (inr (inl same)) = after_same (low_place s.window t) (ends (interval w.on)) u same lo
      by_order (inr (inr after)) = after_of_before (ends (interval w.on)) (low_place s.window t) u after lo

  -- and that is at least as long as the right verdict goes on, its time moved by the window's near end
  at_least : AtMost (moved_begin s.window.begin_by s.window.begin_in (ends (interval w.on))) (place reach)
  at_least t h =
      g.reach_second t (elim (sides (place last) t) [
        | inl k ↦ k
        | inr a ↦ absurd (not_both (moved_end s.window.end_by s.window.end_in (ends (interval w.on))) t
            (moved_more s.window.begin_by s.window.end_by s.window.begin_in s.window.end_in (ends (interval w.on)) g.back.begin_in g.back.end_in
            g.back.order t h)
            (after_same (place last) (moved_end s.window.end_by s.window.end_in (ends (interval w.on))) t g.last_is a))
      ])

  -- what is told and known then
  pub found_staying : {x : Stay} {written : List Verdict} {r : Reads} → IsSince x s (place c.out.to)
      → IsStaying x s written c r (fresh_at old s.window.of) (fresh_at old s.right)
      → IsStaying x s (written ++ g.said.more) (record { out = out; reach = reach; run = c.run }) r (fresh_at mid s.window.of) (fresh_at mid s.right)
  found_staying {x} {written} {r} of m =
      let later : (t : Rational) → After (place out.at) t → After (place c.out.at) t =
      λ t a. after_at_most (place c.out.at) (place out.at) t g.said.forward a in
      let past : (t : Rational) → After (place out.at) t → After (place begin) t =
      λ t a. after_at_most (place begin) (place out.at) t (λ z h. g.said.reached z h (g.to_end z h)) a in
      let holds : AllAre true (Truth x.p x.tr) r.read (ends (interval v.on)) = left_holds_to of m g.first_left g.left_holds (ends (interval v.on)) (λ t h. h) in
      let begun : Same r.right (begins (interval w.on)) = (right-first of m g.first_right).0 in
      let q : AllAre true (Counted true x.q x.tr) (place from) (ends (interval w.on)) =
      λ t a h. subst (λ b. AllAre b (Counted true x.q x.tr) r.right (ends (interval w.on))) g.right_holds (right-first of m g.first_right).2 t
      (after_same (begins (interval w.on)) r.right t (same_places begun) (after_at_most (begins (interval w.on)) (place from) t g.from_is.first a)) h in
      let lost : (t : Rational) → After (place c.out.at) t → Upto (place c.out.to) t → After (place held) t → Upto (place begin) t
      → ¬ Truth x.n x.tr t =
      λ t a to b u. not_yet_found of m g.first_right (place from) (place begin) g.from_is g.begin_is t a
      (elim g.held_one [
        | inl is ↦ subst (λ (q : Cut). After (place q) t) is b
        | inr is ↦ absurd (not_both (ends (interval v.on)) t (upto_of_before (place begin) (ends (interval v.on)) t g.in_run u)
            (subst (λ (q : Place). After q t) is b))
      ])
      u in
      let more : (t : Rational) → After (place reach) t → After (place c.reach) t =
      λ t a. after_at_most (place c.reach) (place reach) t g.reach_first a in
      let met : IsMet true (Counted true x.q x.tr) (low_place s.window) (high_place s.window) (place from) (ends (interval w.on))
      (place begin) (place last) =
      record {
        some = g.shared;
        is = q;
        begin = meets_from (high_place s.window) (meets_after s.window.begin_by s.window.begin_in (place from)) g.begin_is;
        end = meets_to (low_place s.window) (meets_upto s.window.end_by s.window.end_in (ends (interval w.on))) g.last_is;
      } in
      record {
        told = g.said.told x.n x.tr x.begin written m.told
            (λ t a to h. goes_on of.looks (staying-remembers of m) (ends (interval v.on)) holds t a (g.held_reach t h) (g.held_end t h))
            lost;
        knows = knows_found m.knows (place out.at) (place reach) met of.some
            (λ u a. after_at_most (place c.run) (place from) u g.from_is.second a)
            (λ t a. (later t a, past t a))
            (λ t h. elim g.reach_one [
              | inl is ↦ inl (subst (λ (q : Cut). Upto (place q) t) is h)
              | inr is ↦ inr (subst (λ (q : Cut). Upto (place q) t) is h)
            ])
            more (right_within of m g.first_right);
        left_tells = subst (λ f. Tells (Truth x.p x.tr) r.left f x.stop_left) (sym kept_left) m.left_tells;
        right_tells = subst (λ f. Tells (Counted true x.q x.tr) r.right f x.stop_right) (sym kept_right) m.right_tells;
        left_behind = m.left_behind;
        tight = m.tight;
        ahead = λ z is_first. m.ahead z (ap (λ f. slice_get f 0) (sym kept_left) ∙ is_first);
        ran = λ t a. m.ran t (later t a);
        answered = λ t a b. m.answered t (later t a) (more t b);
        within = λ t h. subst (λ (q : Cut). Upto (place q) t) (sym g.said.end) (m.within t h);
        from_start = m.from_start;
        spent = elim m.spent [
          | inl same ↦ inl (kept_left ∙ same)
          | inr spent ↦ inr (subst (λ f. IsSpent s f r.read (place c.run)) (sym kept_right) spent)
        ];
      }

  working_now : IsWorking mid s (record { out = out; reach = reach; run = c.run })
  working_now = record {
    own = omega (arith, g.said.edge, got-length g.said.got, g.at.own);
    left_apart = λ same. g.at.left_apart (same ∙ g.said.edge);
    right_apart = λ same. g.at.right_apart (same ∙ g.said.edge);
    apart = g.at.apart;
  }

  left_now : slice_get (fresh_at mid s.window.of) 0 ≡ Some v
  left_now = ap (λ f. slice_get f 0) kept_left ∙ g.first_left

  right_now : slice_get (fresh_at mid s.right) 0 ≡ Some w
  right_now = ap (λ f. slice_get f 0) kept_right ∙ g.first_right

  since_now : {x : Stay} → IsSince x s (place c.out.to) → IsSince x s (place out.to)
  since_now {x} of = subst (λ (q : Cut). IsSince x s (place q)) (sym g.said.end) of

  one_right : (y : Verdict) → slice_get (fresh_at mid s.right) 0 ≡ Some y → w ≡ y
  one_right y first = let both : Some y ≡ Some w = sym first ∙ right_now in cc

  moved_by : {new : Held} {more : List Verdict} → HasWorked mid new c.out.edge s.window.of s.right more
      → HasWorked old new c.out.edge s.window.of s.right (g.said.more ++ more)
  moved_by worked = worked_both (worked_put g.at.own g.at.left_apart g.at.right_apart g.said.got) worked

  -- the right verdict was read
  pub counts_right : {new : Held} → CanMoveRun s.window c → HasReadRight mid new s v w
      → HasMoved old new s c (record { out = out; reach = reach; run = c.run })
  counts_right {new} fits read =
      record {
        more = g.said.more;
        few = g.said.few;
        owed = g.said.owed;
        worked = worked_then_pass (worked_put g.at.own g.at.left_apart g.at.right_apart g.said.got) read.passed (λ same. g.at.right_apart (sym same))
            (inr refl);
        fewer = omega (
          arith,
          ap length kept_left,
          ap length kept_right,
          passed-one read.passed,
          ap (λ y. length y.fresh) (passed-other read.passed s.window.of g.at.apart),
        );
        edge = g.said.edge;
        end = g.said.end;
        sound = g.said.sound;
        inside = g.said.inside;
        fits = fits;
        goes = λ x written r of m.
            right_step working_now right_now read.passed fits g.back.begin_in
            (λ x' written' r' of' m'. knows_right_read m'.knows (ends (interval w.on)) (ends (interval v.on)) (λ t u a b lo h. beyond_reach t u b lo)
            (left_holds_to of' m' left_now g.left_holds (ends (interval v.on)) (λ t h. h))
            (λ u h. read.sooner u (moved_up s.window.begin_by s.window.begin_in (ends (interval w.on)) g.back.begin_in g.back.low u h))
            (left_within of' m' left_now) (right_within of' m' right_now))
            x (written ++ g.said.more) r (since_now of) (found_staying of m);
      }

  -- the left verdict was read
  pub counts_left : {new : Held} → CanMoveRun s.window c → HasPassed mid new s.window.of v
      → Before (ends (interval v.on)) (moved_begin s.window.begin_by s.window.begin_in (ends (interval w.on)))
      → AtMost (ends (interval v.on)) (place out.to) → HasMoved old new s c (record { out = out; reach = reach; run = c.run })
  counts_left {new} fits passed sooner to_end =
      record {
        more = g.said.more;
        few = g.said.few;
        owed = g.said.owed;
        worked = worked_then_pass (worked_put g.at.own g.at.left_apart g.at.right_apart g.said.got) passed (λ same. g.at.left_apart (sym same))
            (inl refl);
        fewer = omega (
          arith,
          ap length kept_left,
          ap length kept_right,
          passed-one passed,
          ap (λ y. length y.fresh) (passed-other passed s.right (λ same. g.at.apart (sym same))),
        );
        edge = g.said.edge;
        end = g.said.end;
        sound = g.said.sound;
        inside = g.said.inside;
        fits = fits;
        goes = λ x written r of m. (
          record { read = ends (interval v.on); left = ends (interval v.on); right = r.right },
          left_step working_now left_now g.left_holds passed to_end
              (λ t a. after_of_before (ends (interval v.on)) (moved_begin s.window.begin_by s.window.begin_in (ends (interval w.on))) t sooner
              (after_at_most (moved_begin s.window.begin_by s.window.begin_in (ends (interval w.on))) (place reach) t at_least a))
              (λ y first. subst (λ (q : Verdict). Before (ends (interval v.on))
              (moved_begin s.window.begin_by s.window.begin_in (ends (interval q.on)))) (one_right y first) sooner)
              (since_now of) (found_staying of m),
        );
      }

  -- both go on beyond the stretch
  pub counts_done : {new : Held} {end : Wrote} → HasRested mid new (record { out = out; reach = reach; run = c.run }) end
      → Before (place out.to) (ends (interval v.on))
      → Before (ends (interval v.on)) (moved_begin s.window.begin_by s.window.begin_in (ends (interval w.on))) → HasDone old new s c end
  counts_done {new} {end} rested beyond sooner =
      let last_left : fresh_at new s.window.of ≡ fresh_at mid s.window.of =
      ap (λ y. y.fresh) (got-other rested.said.got s.window.of working_now.left_apart) in
      let last_right : fresh_at new s.right ≡ fresh_at mid s.right = ap (λ y. y.fresh) (got-other rested.said.got s.right working_now.right_apart) in
      let some_left = slice_get_within (fresh_at mid s.window.of) 0 v left_now in
      let some_right = slice_get_within (fresh_at mid s.right) 0 w right_now in
      record {
        more = g.said.more ++ rested.said.more;
        few = omega (
          arith,
          g.said.few,
          rested.said.few,
          length-append g.said.more rested.said.more,
          some_left,
          some_right,
          ap length last_left,
          ap length last_right,
        );
        owed = omega (
          arith,
          g.said.owed,
          rested.said.owed,
          length-append g.said.more rested.said.more,
          some_left,
          some_right,
          ap length last_left,
          ap length last_right,
        );
        worked = moved_by (subst (λ i. HasWorked mid new i s.window.of s.right rested.said.more) g.said.edge
            (worked_put working_now.own working_now.left_apart working_now.right_apart rested.said.got));
        fewer = omega (arith, ap length last_left, ap length last_right, ap length kept_left, ap length kept_right);
        edge = rested.said.edge ∙ g.said.edge;
        to = rested.said.end ∙ g.said.end;
        sound = rested.said.sound;
        all = λ t h. let k = subst (λ (q : Cut). Upto (place q) t) (sym g.said.end) h in rested.said.reached t k k;
        inside = λ t h. subst (λ (q : Cut). Upto (place q) t) g.said.end (rested.said.inside t h);
        left = λ y first.
            let both : Some y ≡ Some v = sym first ∙ ap (λ f. slice_get f 0) last_left ∙ left_now in
            let same : v ≡ y = cc in
            subst (λ (q : Verdict). Before (place c.out.to) (ends (interval q.on))) same
            (subst (λ (q : Cut). Before (place q) (ends (interval v.on))) g.said.end beyond);
        told = λ x written r of m.
            let st = found_staying of m in
            let spent : IsSpent s (fresh_at mid s.right) (place out.to) (place c.run) =
            λ y first. inl (before_trans (place out.to) (ends (interval v.on)) (moved_begin s.window.begin_by s.window.begin_in (ends (interval y.on)))
            beyond (subst (λ (q : Verdict). Before (ends (interval v.on))
            (moved_begin s.window.begin_by s.window.begin_in (ends (interval q.on)))) (one_right y first) sooner)) in
            let rest : IsRest x s (record { out = out; reach = reach; run = c.run }) r (fresh_at mid s.right) = record {
              holds = left_holds_to (since_now of) st left_now g.left_holds (place out.to)
                  (λ t h. upto_of_before (place out.to) (ends (interval v.on)) t beyond h);
              falls = λ t a b h. absurd (not_both (ends (interval v.on)) t (upto_of_before (place out.to) (ends (interval v.on)) t beyond h)
                  (after_of_before (ends (interval v.on)) (moved_begin s.window.begin_by s.window.begin_in (ends (interval w.on))) t sooner
                  (after_at_most (moved_begin s.window.begin_by s.window.begin_in (ends (interval w.on))) (place reach) t at_least b)));
              spent = spent;
            } in
            let last = rest_staying (since_now of) st rest rested in (
              r,
              subst (λ f. IsStaying x s (written ++ (g.said.more ++ rested.said.more)) end r f (fresh_at new s.right)) (sym last_left)
                  (subst (λ f. IsStaying x s (written ++ (g.said.more ++ rested.said.more)) end r (fresh_at mid s.window.of) f) (sym last_right)
                  (subst (λ l. IsStaying x s l end r (fresh_at mid s.window.of) (fresh_at mid s.right))
                  (append_assoc written g.said.more rested.said.more) last)),
              λ y first. subst (λ (q : Cut). Before (place q) (moved_begin s.window.begin_by s.window.begin_in (ends (interval y.on)))
                  ⊎ AtMost (place q) (place end.run)) g.said.end
                  (subst (λ (q : Cut). Before (place out.to) (moved_begin s.window.begin_by s.window.begin_in (ends (interval y.on)))
                  ⊎ AtMost (place out.to) (place q)) (sym rested.run)
                  (spent y (ap (λ f. slice_get f 0) (sym last_right) ∙ first))),
            );
      }
