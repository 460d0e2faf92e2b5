-- How since goes through its two inputs. The left one is known up to where its next verdict begins, or its run; the right one is read as
-- far as its times, moved by the window, lie before that.
use Rattle.std.specs.Prelude.{◌≡◌, ◌⊎◌, ◌+◌, ◌*◌, ◌≤◌, ◌<◌, ◌≤ℤ◌, true, pos, List, [], ◌++◌, length, Some, slice_get}
use Rattle.std.specs.Int.{w64}
use Rattle.rational.specs.Rational.{Rational, FitsFloor, add, whole}
use Rattle.frac128.specs.Value.{value}
use Rattle.frac128.specs.Spans.{interval}
use Rattle.stl_syntax.specs.Trace.{Trace}
use Rattle.stl_syntax.specs.Formula.{Subformula}
use Rattle.stl_syntax.specs.Truth.{Truth}
use Rattle.stl_syntax.specs.declared.items.Verdict.{Verdict}
use Rattle.rational.specs.Places.{Place, begins, ends, moved_begin, After, Upto, AtMost, Before}
use Rattle.frac128.specs.Cuts.{place}
use Rattle.online_nodes.specs.Held.{Held, fresh_at}
use Rattle.online_nodes.specs.Truths.{Tells, IsSinceOf, KnowsSince}
use Rattle.online_nodes.specs.Written.{HasTold, HasSaidBoth, IsSound, waiting}
use Rattle.online_nodes.specs.Working.{HasPassed, HasWorked}
use Rattle.online_nodes.specs.Sweeps.{Counted, low_place, high_place}
use Rattle.online_nodes.specs.Untils.{Reads}
use Rattle.frac128.specs.declared.cut.Cut.{Cut}
use Rattle.online_nodes.specs.declared.window.Window.{Window}
use Rattle.online_nodes.specs.declared.since.Since.{Since}
use Rattle.online_nodes.specs.declared.since.Wrote.{Wrote}
use Rattle.online_nodes.specs.declared.since.Step.{Step}
use Rattle.online_nodes.specs.declared.since.Step.TheVariants.{More, Done}

-- a window of the past, with both ends in
pub record IsBackward (w : Window) : Type 0 where
  pub begin_in : w.begin_in ≡ true
  pub end_in : w.end_in ≡ true
  pub low : pos 0 ≤ℤ w.begin_by
  pub order : w.begin_by ≤ℤ w.end_by

-- the ends of a verdict, and of a run, can be moved
abbrev pub CanMove : Window → Verdict → Type 0
CanMove w v = FitsFloor w64 (add (value v.on.from) (whole w.begin_by)) × FitsFloor w64 (add (value v.on.to) (whole w.begin_by))
    × FitsFloor w64 (add (value v.on.to) (whole w.end_by))

abbrev pub CanMoveRun : Window → Wrote → Type 0
CanMoveRun w c = FitsFloor w64 (add (value c.run.time) (whole w.begin_by))

-- a node p since q in a trace: where the trace and its stretch begin, up to where its inputs are answered, and what was not read of the
-- left one as the stretch began
pub record Stay : Type 0 where
  pub n : Subformula
  pub p : Subformula
  pub q : Subformula
  pub tr : Trace
  pub begin : Place
  pub start : Place
  pub stop_left : Place
  pub stop_right : Place
  pub first : List Verdict

-- n is p since q by this window, and up to `to` all that counts lies within what the inputs are answered
pub record IsSince (x : Stay) (s : Since) (to : Place) : Type 0 where
  pub looks : IsSinceOf (Truth x.n x.tr) (Truth x.p x.tr) (Counted true x.q x.tr) (low_place s.window) (high_place s.window)
  pub some : (t : Rational) → Before (low_place s.window t) (high_place s.window t)
  pub from_start : (u : Rational) → Counted true x.q x.tr u → After x.start u
  pub left_enough : AtMost to x.stop_left
  pub right_enough : (t u : Rational) → Upto to t → Upto (high_place s.window t) u → Upto x.stop_right u
  pub some_left : x.first ≡ [] → ⊥
  pub begins_left : (v : Verdict) → slice_get x.first 0 ≡ Some v → Before (begins (interval v.on)) to

-- where the right input's next verdict ends, moved by the window, comes after the place, or the run reaches there
abbrev pub IsSpent : Since → List Verdict → Place → Place → Type 0
IsSpent s fresh read run =
    (w : Verdict) → slice_get fresh 0 ≡ Some w → Before read (moved_begin s.window.begin_by s.window.begin_in (ends (interval w.on))) ⊎ AtMost read run

-- what was written is told, what is known of the inputs is so, and what was not read of them tells them from there on
pub record IsStaying (x : Stay) (s : Since) (written : List Verdict) (c : Wrote) (r : Reads) (fresh_left fresh_right : List Verdict) : Type 0 where
  pub told : HasTold x.n x.tr x.begin written c.out
  pub knows : KnowsSince (Truth x.p x.tr) (Counted true x.q x.tr) (low_place s.window) (high_place s.window)
      x.start (place c.out.at) (place c.run) (place c.reach) r.read r.right x.stop_left x.stop_right
  pub left_tells : Tells (Truth x.p x.tr) r.left fresh_left x.stop_left
  pub right_tells : Tells (Counted true x.q x.tr) r.right fresh_right x.stop_right
  pub left_behind : AtMost r.left r.read
  pub tight : (t : Rational) → After r.left t → After (place c.run) t → After r.read t
  -- the left input's next verdict goes on from there
  pub ahead : (v : Verdict) → slice_get fresh_left 0 ≡ Some v → Before r.read (ends (interval v.on))
  -- the node is told to where the run began, and to where the left input is known but for what was found
  pub ran : (t : Rational) → After (place c.out.at) t → After (place c.run) t
  pub answered : (t : Rational) → After (place c.out.at) t → After (place c.reach) t → After r.read t
  pub within : AtMost r.read (place c.out.to)
  pub from_start : AtMost x.start (place c.run)
  -- of the left input something was read since the stretch began, or else the right one was read as far as the node is told
  pub spent : (fresh_left ≡ x.first) ⊎ IsSpent s fresh_right r.read (place c.run)

-- a verdict was read, at most two were put, and what was known and told goes on
pub record HasMoved (old new : Held) (s : Since) (c next : Wrote) : Type 0 where
  pub more : List Verdict
  pub few : length more ≤ 2
  pub owed : length more + waiting next.out.holds ≤ 2 + waiting c.out.holds
  pub worked : HasWorked old new c.out.edge s.window.of s.right more
  pub fewer : length (fresh_at new s.window.of) + length (fresh_at new s.right)
      < length (fresh_at old s.window.of) + length (fresh_at old s.right)
  pub edge : next.out.edge ≡ c.out.edge
  pub end : next.out.to ≡ c.out.to
  pub sound : IsSound next.out
  pub inside : AtMost (place next.out.at) (place c.out.to)
  pub fits : CanMoveRun s.window next
  pub goes : (x : Stay) (written : List Verdict) (r : Reads) → IsSince x s (place c.out.to)
      → IsStaying x s written c r (fresh_at old s.window.of) (fresh_at old s.right)
      → (r' : Reads) × IsStaying x s (written ++ more) next r' (fresh_at new s.window.of) (fresh_at new s.right)

-- the stretch is told to its end, and what is left of the inputs reaches beyond it
pub record HasDone (old new : Held) (s : Since) (c end : Wrote) : Type 0 where
  pub more : List Verdict
  pub few : length more ≤ 2 + length (fresh_at new s.window.of) + length (fresh_at new s.right)
  pub owed : length more + waiting end.out.holds
      ≤ 2 + length (fresh_at new s.window.of) + length (fresh_at new s.right) + waiting c.out.holds
  pub worked : HasWorked old new c.out.edge s.window.of s.right more
  pub fewer : length (fresh_at new s.window.of) + length (fresh_at new s.right)
      ≤ length (fresh_at old s.window.of) + length (fresh_at old s.right)
  pub edge : end.out.edge ≡ c.out.edge
  pub to : end.out.to ≡ c.out.to
  pub sound : IsSound end.out
  pub all : AtMost (place c.out.to) (place end.out.at)
  pub inside : AtMost (place end.out.at) (place c.out.to)
  pub left : (v : Verdict) → slice_get (fresh_at new s.window.of) 0 ≡ Some v → Before (place c.out.to) (ends (interval v.on))
  pub told : (x : Stay) (written : List Verdict) (r : Reads) → IsSince x s (place c.out.to)
      → IsStaying x s written c r (fresh_at old s.window.of) (fresh_at old s.right)
      → (r' : Reads) × IsStaying x s (written ++ more) end r' (fresh_at new s.window.of) (fresh_at new s.right)
      × IsSpent s (fresh_at new s.right) (place c.out.to) (place end.run)

-- one step
abbrev pub IsTurn : Held → Held → Since → Wrote → Step → Type 0
IsTurn old new s c (More next) = HasMoved old new s c next
IsTurn old new s c (Done end) = HasDone old new s c end

-- all that both inputs had ready was taken, and the stretch is told to its end
pub record HasSinceTold (old new : Held) (s : Since) (c end : Wrote) : Type 0 where
  pub more : List Verdict
  pub few : length more ≤ 2 * (length (fresh_at old s.window.of) + length (fresh_at old s.right)) + 2
  pub owed : length more + waiting end.out.holds
      ≤ 2 * (length (fresh_at old s.window.of) + length (fresh_at old s.right)) + 2 + waiting c.out.holds
  pub worked : HasWorked old new c.out.edge s.window.of s.right more
  pub edge : end.out.edge ≡ c.out.edge
  pub to : end.out.to ≡ c.out.to
  pub sound : IsSound end.out
  pub all : AtMost (place c.out.to) (place end.out.at)
  pub inside : AtMost (place end.out.at) (place c.out.to)
  pub left : (v : Verdict) → slice_get (fresh_at new s.window.of) 0 ≡ Some v → Before (place c.out.to) (ends (interval v.on))
  pub told : (x : Stay) (written : List Verdict) (r : Reads) → IsSince x s (place c.out.to)
      → IsStaying x s written c r (fresh_at old s.window.of) (fresh_at old s.right)
      → (r' : Reads) × IsStaying x s (written ++ more) end r' (fresh_at new s.window.of) (fresh_at new s.right)
      × IsSpent s (fresh_at new s.right) (place c.out.to) (place end.run)

-- what was found was told, and then its opposite, to the end of the stretch
pub record HasRested (old new : Held) (c end : Wrote) : Type 0 where
  pub said : HasSaidBoth old new c.out true c.reach c.out.to end.out
  pub reach : end.reach ≡ c.reach
  pub run : end.run ≡ c.run

-- the left input's verdict v was read, and up to its end what was found was told, and then its opposite
pub record HasReadLeft (old new : Held) (s : Since) (c : Wrote) (v : Verdict) (next : Wrote) : Type 0 where
  pub mid : Held
  pub held : Cut
  pub cut : Cut
  pub cut_is : place cut ≡ ends (interval v.on)
  pub held_reach : AtMost (place held) (place c.reach)
  pub held_end : AtMost (place held) (ends (interval v.on))
  pub held_one : (held ≡ c.reach) ⊎ (held ≡ cut)
  pub said : HasSaidBoth old mid c.out true held cut next.out
  pub passed : HasPassed mid new s.window.of v
  pub to_end : AtMost (ends (interval v.on)) (place c.out.to)
  pub reach : next.reach ≡ c.reach
  pub run : next.run ≡ c.run

-- it was read, or it reaches beyond the stretch, which was told to its end
abbrev pub HasGoneOn : Held → Held → Since → Wrote → Verdict → Step → Type 0
HasGoneOn old new s c v (More next) = HasReadLeft old new s c v next
HasGoneOn old new s c v (Done end) = HasRested old new c end × Before (place c.out.to) (ends (interval v.on))

-- the right verdict w ended, its time moved by the window, by the time that the left one v does, and was read
pub record HasReadRight (old new : Held) (s : Since) (v w : Verdict) : Type 0 where
  pub passed : HasPassed old new s.right w
  pub sooner : AtMost (moved_begin s.window.begin_by s.window.begin_in (ends (interval w.on))) (ends (interval v.on))

-- of both verdicts the one that ends first was read, or the left one reaches beyond the stretch, which was told to its end
abbrev pub HasPassedFirst : Held → Held → Since → Wrote → Verdict → Verdict → Step → Type 0
HasPassedFirst old new s c v w (More next) =
    (next ≡ c) × (HasReadRight old new s v w
    ⊎ (HasPassed old new s.window.of v
    × Before (ends (interval v.on)) (moved_begin s.window.begin_by s.window.begin_in (ends (interval w.on)))
    × AtMost (ends (interval v.on)) (place c.out.to)))
HasPassedFirst old new s c v w (Done end) =
    HasRested old new c end × Before (place c.out.to) (ends (interval v.on))
    × Before (ends (interval v.on)) (moved_begin s.window.begin_by s.window.begin_in (ends (interval w.on)))
