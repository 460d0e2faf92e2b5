-- Since, verdict by verdict.
use Rattle.std.proofs.Common.{◌≡◌, inl, inr, ℕ, ◌+◌, ◌*◌, ◌≤◌, ◌<◌, true, false, List, [], ◌++◌, length}
use Rattle.std.proofs.Common.{Some, slice_get, refl, sym, subst, ◌∙◌, arith, append_assoc, length-append}
use Rattle.std.proofs.lemmas.List.{append-nil}
use Rattle.std.proofs.lemmas.Option.{same_Some}
use Rattle.frac128.specs.Spans.{interval}
use Rattle.stl_syntax.specs.declared.items.Verdict.{Verdict}
use Rattle.rational.specs.Places.{Place, begins, ends, moved_begin, Upto, AtMost, Before, Same}
use Rattle.frac128.specs.Cuts.{place}
use Rattle.online_nodes.specs.Held.{Held, fresh_at}
use Rattle.online_nodes.specs.Truths.{AllAre}
use Rattle.online_nodes.specs.Written.{IsSound, waiting}
use Rattle.online_nodes.specs.Working.{HasPassed, HasWorked}
use Rattle.online_nodes.specs.Sweeps.{Counted}
use Rattle.online_nodes.specs.Untils.{Reads}
use Rattle.online_nodes.specs.Sinces.{CanMoveRun, HasDone, HasGoneOn, HasMoved, HasPassedFirst, HasRested, HasSinceTold}
use Rattle.online_nodes.specs.Sinces.{IsSince, IsSpent, IsStaying, IsTurn, Stay}
use Rattle.frac128.specs.declared.cut.Cut.{Cut}
use Rattle.online_nodes.specs.declared.since.Wrote.{Wrote}
use Rattle.online_nodes.specs.declared.since.Since.{Since}
use Rattle.online_nodes.specs.declared.since.Step.{Step}
use Rattle.online_nodes.specs.declared.since.Step.TheVariants.{More, Done}
use Rattle.online_nodes.specs.declared.writer.Out.{Out}
use Rattle.rational.proofs.PlaceLemmas.{not_both, between, upto_of_before, upto_same, before_trans, same_before, same_places}
use Rattle.rational.proofs.PlaceLemmas.{before_of_at_most, after_at_most}
use Rattle.online_nodes.proofs.SinceLaw.{knows_right_fails, knows_right_read}
use Rattle.online_nodes.proofs.SinceCounts.{IsFound, counts_right, counts_left, counts_done}
use Rattle.online_nodes.proofs.SinceEnds.{rest_done}
use Rattle.online_nodes.proofs.SinceTurns.{IsLaterOf, IsLeftRead, IsWorking, left_holds_to, left_over, moved_order}
use Rattle.online_nodes.proofs.SinceTurns.{not_yet_found, right-first, right_over, right_within, run_behind}
use Rattle.online_nodes.proofs.WorkLemmas.{worked_none, worked_both}

-- the left input went on: it was read, or the stretch is told to its end
pub go_on_turn : {old : Held} {s : Since} {c : Wrote} {v : Verdict} → IsWorking old s c → slice_get (fresh_at old s.window.of) 0 ≡ Some v
    → v.holds ≡ true → CanMoveRun s.window c → IsLeftRead old s c (ends (interval v.on)) → (new : Held) (turn : Step)
    → HasGoneOn old new s c v turn → IsTurn old new s c turn
go_on_turn at first holding fits why new (More next) gone = left_over at first holding fits why gone
go_on_turn {old} {s} {c} {v} at first holding fits why new (Done end) (rested, beyond) =
    rest_done at rested
    (λ y other.
    let both : Some v ≡ Some y = sym first ∙ other in
    let is : v ≡ y = same_Some v y both in
    subst (λ (q : Verdict). Before (place c.out.to) (ends (interval q.on))) is beyond)
    (λ x written r of m. record {
      holds = left_holds_to of m first holding (place c.out.to) (λ t h. upto_of_before (place c.out.to) (ends (interval v.on)) t beyond h);
      falls = λ t a b h. why.falls x written r of m t a b h (upto_of_before (place c.out.to) (ends (interval v.on)) t beyond h);
      spent = λ w is_first. inl (before_trans (place c.out.to) (ends (interval v.on))
          (moved_begin s.window.begin_by s.window.begin_in (ends (interval w.on))) beyond (why.spent w is_first));
    })

-- the right input fails next
pub right_fails_over : {old new : Held} {s : Since} {c : Wrote} {w : Verdict} → IsWorking old s c → slice_get (fresh_at old s.right) 0 ≡ Some w
    → w.holds ≡ false → HasPassed old new s.right w → CanMoveRun s.window c → s.window.begin_in ≡ true → IsSound c.out
    → AtMost (place c.out.at) (place c.out.to) → HasMoved old new s c c
right_fails_over {old} {new} {s} {c} {w} at first failing passed fits inside sound within =
    right_over at first passed fits inside sound within
    (λ x written r of m. knows_right_fails m.knows (ends (interval w.on))
    (subst (λ b. AllAre b (Counted true x.q x.tr) r.right (ends (interval w.on))) failing (right-first of m first).2) (right_within of m first))

-- it holds no longer than to where the run began
pub stale_over : {old new : Held} {s : Since} {c : Wrote} {w : Verdict} {from : Place} → IsWorking old s c
    → slice_get (fresh_at old s.right) 0 ≡ Some w → IsLaterOf (begins (interval w.on)) (place c.run) from → AtMost (ends (interval w.on)) from
    → HasPassed old new s.right w → CanMoveRun s.window c → s.window.begin_in ≡ true → IsSound c.out → AtMost (place c.out.at) (place c.out.to)
    → HasMoved old new s c c
stale_over {old} {new} {s} {c} {w} {from} at first is ended passed fits inside sound within =
    right_over at first passed fits inside sound within
    (λ x written r of m.
    let gone : AtMost (ends (interval w.on)) (place c.run) = in_run of m in
    knows_right_read m.knows (ends (interval w.on)) (ends (interval w.on)) (λ t u a b lo h. after_at_most (ends (interval w.on)) (place c.run) u gone h)
    (λ t a h. absurd (not_both r.read t (run_behind of m t (gone t h)) a)) (λ u h. h)
    (λ u h. of.left_enough u (m.within u (run_behind of m u (gone u h)))) (right_within of m first))
  where
    in_run : {x : Stay} {written : List Verdict} {r : Reads} (of : IsSince x s (place c.out.to))
        → (m : IsStaying x s written c r (fresh_at old s.window.of) (fresh_at old s.right)) → AtMost (ends (interval w.on)) (place c.run)
    in_run {x} {written} {r} of m t h = elim is.one [
      | inr run ↦ run t (ended t h)
      | inl begin ↦ (let told = right-first of m first in
          let y = between r.right (ends (interval w.on)) told.1 in
          absurd (not_both r.right y.0 (upto_same (begins (interval w.on)) r.right y.0 (same_places told.0) (begin y.0 (ended y.0 y.2))) y.1))
    ]

-- what both inputs' next verdicts tell: from where to where it would count
pub record AreBoth (old : Held) (s : Since) (c : Wrote) (begin from : Place) (v w : Verdict) : Type 0 where
  -- the walk stands so
  pub at : IsWorking old s c
  -- the window has its begin
  pub inside : s.window.begin_in ≡ true
  -- the first verdict of the left input
  pub first_left : slice_get (fresh_at old s.window.of) 0 ≡ Some v
  -- the first verdict of the right input
  pub first_right : slice_get (fresh_at old s.right) 0 ≡ Some w
  -- the left one holds
  pub left_holds : v.holds ≡ true
  -- from where both lie within the run
  pub from_is : IsLaterOf (begins (interval w.on)) (place c.run) from
  -- before the right one ends
  pub shared : Before from (ends (interval w.on))
  -- from where the window meets it
  pub begin_is : Same begin (moved_begin s.window.begin_by s.window.begin_in from)

module _ {old : Held} {s : Since} {c : Wrote} {begin from : Place} {v w : Verdict} (g : AreBoth old s c begin from v w) where
  ends_after : (y : Verdict) → slice_get (fresh_at old s.right) 0 ≡ Some y
      → Before begin (moved_begin s.window.begin_by s.window.begin_in (ends (interval y.on)))
  ends_after y first =
      let both : Some w ≡ Some y = sym g.first_right ∙ first in
      let is : w ≡ y = same_Some w y both in
      subst (λ (q : Verdict). Before begin (moved_begin s.window.begin_by s.window.begin_in (ends (interval q.on)))) is
      (same_before begin (moved_begin s.window.begin_by s.window.begin_in from)
      (moved_begin s.window.begin_by s.window.begin_in (ends (interval w.on))) g.begin_is
      (moved_order s.window.begin_by s.window.begin_in from (ends (interval w.on)) g.inside g.shared))

  -- it counts only once the left verdict has ended
  pub not_in_run : AtMost (ends (interval v.on)) begin → IsLeftRead old s c (ends (interval v.on))
  not_in_run late = record {
    falls = λ x written r of m t a b to u. not_yet_found of m g.first_right from begin g.from_is g.begin_is t a b (late t u);
    spent = λ y first. before_of_at_most (ends (interval v.on)) begin
        (moved_begin s.window.begin_by s.window.begin_in (ends (interval y.on))) late (ends_after y first);
  }

  -- it counts only beyond the stretch
  pub not_in_stretch : {new : Held} {end : Wrote} → Before begin (ends (interval v.on)) → Before (place c.out.to) begin → HasRested old new c end
      → HasDone old new s c end
  not_in_stretch in_run beyond rested =
      let past : Before (place c.out.to) (ends (interval v.on)) = before_trans (place c.out.to) begin (ends (interval v.on)) beyond in_run in
      rest_done g.at rested
      (λ y other.
      let both : Some v ≡ Some y = sym g.first_left ∙ other in
      let is : v ≡ y = same_Some v y both in
      subst (λ (q : Verdict). Before (place c.out.to) (ends (interval q.on))) is past)
      (λ x written r of m. record {
        holds = left_holds_to of m g.first_left g.left_holds (place c.out.to)
            (λ t h. upto_of_before (place c.out.to) (ends (interval v.on)) t past h);
        falls = λ t a b h. not_yet_found of m g.first_right from begin g.from_is g.begin_is t a b
            (upto_of_before (place c.out.to) begin t beyond h);
        spent = λ y is_first. inl (before_trans (place c.out.to) begin
            (moved_begin s.window.begin_by s.window.begin_in (ends (interval y.on))) beyond (ends_after y is_first));
      })

-- it counts from now on, and one of the verdicts was read, or the stretch is told to its end
pub found_turn : {old mid : Held} {s : Since} {c : Wrote} {out : Out} {held begin last reach from : Cut} {v w : Verdict}
    → IsFound old mid s c out held begin last reach from v w → CanMoveRun s.window c → (new : Held) (turn : Step)
    → HasPassedFirst mid new s (record { out = out; reach = reach; run = c.run }) v w turn → IsTurn old new s c turn
found_turn {old} {mid} {s} {c} {out} {held} {begin} {last} {reach} g fits new (More next) (is, which) =
    subst (λ (q : Wrote). HasMoved old new s c q) (sym is)
    (elim which [ inl right ↦ counts_right g fits right | inr left ↦ counts_left g fits left.0 left.1 left.2 ])
found_turn g fits new (Done end) (rested, beyond, sooner) = counts_done g rested beyond sooner

-- some verdicts were read, and at most two put for each
pub record HasCome (old now : Held) (s : Since) (c here : Wrote) : Type 0 where
  -- what was put on the node's edge
  pub more : List Verdict
  -- at most two for each verdict that was read
  pub few : length more + 2 * (length (fresh_at now s.window.of) + length (fresh_at now s.right))
      ≤ 2 * (length (fresh_at old s.window.of) + length (fresh_at old s.right))
  -- with what waits, no more than that and what waited
  pub owed : length more + waiting here.out.holds + 2 * (length (fresh_at now s.window.of) + length (fresh_at now s.right))
      ≤ 2 * (length (fresh_at old s.window.of) + length (fresh_at old s.right)) + waiting c.out.holds
  -- the inputs were read on, and that was put
  pub worked : HasWorked old now c.out.edge s.window.of s.right more
  -- for the same edge
  pub edge : here.out.edge ≡ c.out.edge
  -- to the same end
  pub end : here.out.to ≡ c.out.to
  -- and what is told is sound
  pub sound : IsSound here.out
  -- not beyond the end
  pub inside : AtMost (place here.out.at) (place c.out.to)
  -- the run may move with the window
  pub fits : CanMoveRun s.window here
  -- what is known of both inputs goes on
  pub goes : (x : Stay) (written : List Verdict) (r : Reads) → IsSince x s (place c.out.to)
      → IsStaying x s written c r (fresh_at old s.window.of) (fresh_at old s.right)
      → (r' : Reads) × IsStaying x s (written ++ more) here r' (fresh_at now s.window.of) (fresh_at now s.right)

-- how many verdicts of both inputs are not read
abbrev unread : Held → Since → ℕ
unread h s = length (fresh_at h s.window.of) + length (fresh_at h s.right)

-- how much was put, where n of o verdicts are left and m were before the last step
none_few : (n : ℕ) → 0 + 2 * n ≤ 2 * n
none_few n = omega arith

none_owed : (n w : ℕ) → 0 + w + 2 * n ≤ 2 * n + w
none_owed n w = omega arith

few_on : (n m o : ℕ) {l : ℕ} (a b : ℕ) → l ≡ a + b → a + 2 * m ≤ 2 * o → b ≤ 2 → n < m → l + 2 * n ≤ 2 * o
few_on n m o a b e h k f = omega (arith, e, h, k, f)

owed_on : (n m o v w x : ℕ) {l : ℕ} (a b : ℕ) → l ≡ a + b → a + w + 2 * m ≤ 2 * o + v → b + x ≤ 2 + w → n < m → l + x + 2 * n ≤ 2 * o + v
owed_on n m o v w x a b e h k f = omega (arith, e, h, k, f)

-- before the first verdict nothing has changed, and nothing is put
pub come_none : (e : Held) (s : Since) (c : Wrote) → IsSound c.out → AtMost (place c.out.at) (place c.out.to) → CanMoveRun s.window c
    → HasCome e e s c c
come_none e s c sound inside fits =
    record {
      more = [];
      few = none_few (unread e s);
      owed = none_owed (unread e s) (waiting c.out.holds);
      worked = worked_none e c.out.edge s.window.of s.right;
      edge = refl;
      end = refl;
      sound = sound;
      inside = inside;
      fits = fits;
      goes = λ x written r of m.
          (r, subst (λ l. IsStaying x s l c r (fresh_at e s.window.of) (fresh_at e s.right)) (sym (append-nil written)) m);
    }

-- one turn more goes on from those before
pub come_one : {old now new : Held} {s : Since} {c here next : Wrote} → HasCome old now s c here → HasMoved now new s here next
    → HasCome old new s c next
come_one {old} {now} {new} {s} {c} {here} {next} come one =
    record {
      more = come.more ++ one.more;
      few = few_on (unread new s) (unread now s) (unread old s) (length come.more) (length one.more)
          (length-append come.more one.more) come.few one.few one.fewer;
      owed = owed_on (unread new s) (unread now s) (unread old s) (waiting c.out.holds) (waiting here.out.holds) (waiting next.out.holds)
          (length come.more) (length one.more) (length-append come.more one.more) come.owed one.owed one.fewer;
      worked = worked_both come.worked (subst (λ i. HasWorked now new i s.window.of s.right one.more) come.edge one.worked);
      edge = one.edge ∙ come.edge;
      end = one.end ∙ come.end;
      sound = one.sound;
      inside = λ t h. subst (λ (q : Cut). Upto (place q) t) come.end (one.inside t h);
      fits = one.fits;
      goes = λ x written r of m.
          let so_far = come.goes x written r of m in
          let more = one.goes x (written ++ come.more) so_far.0 (subst (λ (q : Cut). IsSince x s (place q)) (sym come.end) of) so_far.1 in (
            more.0,
            subst (λ l. IsStaying x s l next more.0 (fresh_at new s.window.of) (fresh_at new s.right))
                (append_assoc written come.more one.more) more.1,
          );
    }

-- the turns and the end of the stretch tell `since` on it
pub come_done : {old now new : Held} {s : Since} {c here end : Wrote} → HasCome old now s c here → HasDone now new s here end
    → HasSinceTold old new s c end
come_done {old} {now} {new} {s} {c} {here} {end} come one =
    record {
      more = come.more ++ one.more;
      few = omega (arith, come.few, one.few, one.fewer, length-append come.more one.more);
      owed = omega (arith, come.owed, one.owed, one.fewer, length-append come.more one.more);
      worked = worked_both come.worked (subst (λ i. HasWorked now new i s.window.of s.right one.more) come.edge one.worked);
      edge = one.edge ∙ come.edge;
      to = one.to ∙ come.end;
      sound = one.sound;
      all = λ t h. one.all t (subst (λ (q : Cut). Upto (place q) t) (sym come.end) h);
      inside = λ t h. subst (λ (q : Cut). Upto (place q) t) come.end (one.inside t h);
      left = λ v first. subst (λ (q : Cut). Before (place q) (ends (interval v.on))) come.end (one.left v first);
      told = λ x written r of m.
          let so_far = come.goes x written r of m in
          let more = one.told x (written ++ come.more) so_far.0 (subst (λ (q : Cut). IsSince x s (place q)) (sym come.end) of) so_far.1 in (
            more.0,
            subst (λ l. IsStaying x s l end more.0 (fresh_at new s.window.of) (fresh_at new s.right))
                (append_assoc written come.more one.more) more.1,
            subst (λ (q : Cut). IsSpent s (fresh_at new s.right) (place q) (place end.run)) come.end more.2,
          );
    }
