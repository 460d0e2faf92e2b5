-- How a window is swept over its input, one verdict at a time.
use Rattle.std.specs.Prelude.{◌≡◌, ◌⊎◌, Some, slice_get, ℕ, suc, ◌+◌, ◌*◌, ◌≤◌, Bool, true, false, not, neg_ℤ, List, ◌++◌, drop, length}
use Rattle.std.specs.Int.{w64}
use Rattle.rational.specs.Rational.{Rational, FitsFloor, add, whole}
use Rattle.frac128.specs.Value.{value}
use Rattle.frac128.specs.Spans.{interval}
use Rattle.rational.specs.Time.{Within}
use Rattle.stl_syntax.specs.Trace.{Trace, start, stop as last}
use Rattle.stl_syntax.specs.Formula.{Subformula}
use Rattle.stl_syntax.specs.Truth.{Truth}
use Rattle.stl_syntax.specs.declared.items.Verdict.{Verdict}
use Rattle.rational.specs.Places.{Place, begins, moved_begin, After, Upto, AtMost, Before}
use Rattle.frac128.specs.Cuts.{place}
use Rattle.online_nodes.specs.Held.{Held, fresh_at}
use Rattle.online_nodes.specs.Truths.{Truths, Is, Tells, Looks, Knows}
use Rattle.online_nodes.specs.Written.{HasTold, HasGot, IsSound, waiting}
use Rattle.online_nodes.specs.Working.{HasWorked}
use Rattle.online_nodes.specs.declared.window.Window.{Window}
use Rattle.online_nodes.specs.declared.window.Sweep.{Sweep}

-- for so many ticks counts what a window without a beginning found: no row comes so much later
abbrev pub for_ever : ℕ
for_ever = 8589934592

-- the window at t
abbrev pub low_place : Window → Rational → Place
low_place w t = record { at = add t (whole (neg_ℤ w.end_by)); after = not w.end_in }

abbrev pub high_place : Window → Rational → Place
high_place w t = record { at = add t (whole (neg_ℤ w.begin_by)); after = w.begin_in }

-- the ends of the verdict can be moved
abbrev pub FitsIn : Window → Verdict → Type 0
FitsIn w v = FitsFloor w64 (add (value v.on.from) (whole w.begin_by)) × FitsFloor w64 (add (value v.on.to) (whole w.end_by))

-- the input's truth within the trace: beyond it nothing is found
abbrev pub Counted : Bool → Subformula → Trace → Truths
Counted true p tr u = Within (start tr) (last tr) u × Truth p tr u
Counted false p tr u = Within (start tr) (last tr) u → Truth p tr u

-- node n looks through this window at p; the window is never empty, and up to `to` it ends by `stop`, or what lies beyond is not sought
pub record IsWindowOf (n p : Subformula) (tr : Trace) (w : Window) (to stop : Place) : Type 0 where
  pub looks : Looks w.seeks (Truth n tr) (Counted w.seeks p tr) (low_place w) (high_place w)
  pub some : (t : Rational) → Before (low_place w t) (high_place w t)
  pub within : (t u : Rational) → Upto to t → Upto (high_place w t) u → Upto stop u ⊎ Is (not w.seeks) (Counted w.seeks p tr) u

-- what was written is told, what is known of the input is so, and what was not read tells the input from `read` to `stop`
pub record IsSwept (n p : Subformula) (tr : Trace) (w : Window) (begin : Place) (written : List Verdict) (s : Sweep)
    (read stop : Place) (fresh : List Verdict) : Type 0 where
  pub told : HasTold n tr begin written s.out
  pub knows : Knows w.seeks (Counted w.seeks p tr) (low_place w) (high_place w) (place s.out.at) (place s.reach) read stop
  pub tells : Tells (Counted w.seeks p tr) read fresh stop

-- the rest of the stretch, beyond what was found, is otherwise
abbrev pub Settles : Subformula → Trace → Window → Sweep → Type 0
Settles n tr w s = (t : Rational) → After (place s.out.at) t → After (place s.reach) t → Upto (place s.out.to) t → Is (not w.seeks) (Truth n tr) t

-- what is not read yet counts only beyond the stretch
abbrev pub CountsBeyond : Held → Window → Place → Type 0
CountsBeyond e w to = (v : Verdict) → slice_get (fresh_at e w.of) 0 ≡ Some v → Before to (moved_begin w.begin_by w.begin_in (begins (interval v.on)))

-- nothing changed, and no verdict that was not read counts in the stretch
pub record HasStopped (old new : Held) (w : Window) (s : Sweep) : Type 0 where
  pub same : new ≡ old
  pub beyond : CountsBeyond old w (place s.out.to)
  pub settles : (n p : Subformula) (tr : Trace) (begin : Place) (written : List Verdict) (read stop : Place)
      → IsWindowOf n p tr w (place s.out.to) stop → IsSwept n p tr w begin written s read stop (fresh_at old w.of) → Settles n tr w s

-- one verdict was read, at most two were put, and what was known and told goes on
pub record HasRead (old new : Held) (w : Window) (s next : Sweep) : Type 0 where
  pub more : List Verdict
  pub few : length more ≤ 2
  pub owed : length more + waiting next.out.holds ≤ 2 + waiting s.out.holds
  pub worked : HasWorked old new s.out.edge w.of w.of more
  pub one : length (fresh_at old w.of) ≡ suc (length (fresh_at new w.of))
  pub fresh : fresh_at new w.of ≡ drop 1 (fresh_at old w.of)
  pub edge : next.out.edge ≡ s.out.edge
  pub end : next.out.to ≡ s.out.to
  pub sound : IsSound next.out
  pub inside : AtMost (place next.out.at) (place s.out.to)
  pub swept : (n p : Subformula) (tr : Trace) (begin : Place) (written : List Verdict) (read stop : Place)
      → IsWindowOf n p tr w (place s.out.to) stop → IsSwept n p tr w begin written s read stop (fresh_at old w.of)
      → (from : Place) × IsSwept n p tr w begin (written ++ more) next from stop (fresh_at new w.of)

-- the rest of the stretch was told, by at most two verdicts more
pub record HasEnded (old new : Held) (w : Window) (s end : Sweep) : Type 0 where
  pub more : List Verdict
  pub few : length more ≤ 2
  pub owed : length more + waiting end.out.holds ≤ 2 + waiting s.out.holds
  pub got : HasGot old new s.out.edge more
  pub edge : end.out.edge ≡ s.out.edge
  pub to : end.out.to ≡ s.out.to
  pub sound : IsSound end.out
  pub all : AtMost (place s.out.to) (place end.out.at)
  pub inside : AtMost (place end.out.at) (place s.out.to)
  pub told : (n p : Subformula) (tr : Trace) (begin : Place) (written : List Verdict) (read stop : Place) (fresh : List Verdict)
      → IsWindowOf n p tr w (place s.out.to) stop → IsSwept n p tr w begin written s read stop fresh → Settles n tr w s
      → IsSwept n p tr w begin (written ++ more) end read stop fresh

-- all that the input had ready was taken, and the stretch is told to its end
pub record HasSwept (old new : Held) (w : Window) (s end : Sweep) : Type 0 where
  pub more : List Verdict
  pub few : length more ≤ 2 * length (fresh_at old w.of) + 2
  pub owed : length more + waiting end.out.holds ≤ 2 * length (fresh_at old w.of) + 2 + waiting s.out.holds
  pub worked : HasWorked old new s.out.edge w.of w.of more
  pub beyond : CountsBeyond new w (place s.out.to)
  pub edge : end.out.edge ≡ s.out.edge
  pub to : end.out.to ≡ s.out.to
  pub sound : IsSound end.out
  pub all : AtMost (place s.out.to) (place end.out.at)
  pub inside : AtMost (place end.out.at) (place s.out.to)
  pub told : (n p : Subformula) (tr : Trace) (begin : Place) (written : List Verdict) (read stop : Place)
      → IsWindowOf n p tr w (place s.out.to) stop → IsSwept n p tr w begin written s read stop (fresh_at old w.of)
      → (from : Place) × IsSwept n p tr w begin (written ++ more) end from stop (fresh_at new w.of)
