-- How until goes through its two inputs. Both are known up to one place: where the verdict ends that was passed last.
use Rattle.std.specs.Prelude.{◌≡◌, ◌+◌, ◌*◌, ◌≤◌, ◌<◌, true, List, ◌++◌, ◌⊎◌, length, Some, slice_get}
use Rattle.rational.specs.Rational.{Rational}
use Rattle.frac128.specs.Spans.{interval}
use Rattle.stl_syntax.specs.Trace.{Trace}
use Rattle.stl_syntax.specs.Formula.{Subformula}
use Rattle.stl_syntax.specs.Truth.{Truth}
use Rattle.stl_syntax.specs.declared.items.Verdict.{Verdict}
use Rattle.rational.specs.Places.{Place, ends, After, Upto, AtMost, Before}
use Rattle.frac128.specs.Cuts.{place}
use Rattle.online_nodes.specs.Held.{Held, fresh_at}
use Rattle.online_nodes.specs.Truths.{Tells, IsUntilOf, KnowsUntil}
use Rattle.online_nodes.specs.Written.{HasTold, IsSound, waiting}
use Rattle.online_nodes.specs.Working.{HasPassed, HasWorked}
use Rattle.online_nodes.specs.Sweeps.{Counted, low_place, high_place}
use Rattle.online_nodes.specs.declared.window.Sweep.{Sweep}
use Rattle.online_nodes.specs.declared.until.Until.{Until}

-- a node p until q in a trace: where its stretch begins, up to where its inputs are answered, and up to where both are
pub record Stretch : Type 0 where
  pub n : Subformula
  pub p : Subformula
  pub q : Subformula
  pub tr : Trace
  pub begin : Place
  pub stop : Place
  pub stop_left : Place
  pub stop_right : Place

-- up to where both inputs were read, and where what was not read of them begins
pub record Reads : Type 0 where
  pub read : Place
  pub left : Place
  pub right : Place

-- n is p until q by this window, and up to `to` all that counts lies within what both inputs are answered, or beyond that nothing counts
pub record IsUntil (x : Stretch) (u : Until) (to : Place) : Type 0 where
  pub looks : IsUntilOf (Truth x.n x.tr) (Truth x.p x.tr) (Counted true x.q x.tr) (low_place u.window) (high_place u.window)
  pub some : (t : Rational) → Before (low_place u.window t) (high_place u.window t)
  pub within : (t v : Rational) → Upto to t → Upto (high_place u.window t) v → Upto x.stop v ⊎ ¬ Counted true x.q x.tr v
  pub inside : AtMost to x.stop
  pub both : (t : Rational) → Upto x.stop_left t → Upto x.stop_right t → Upto x.stop t
  pub left_enough : AtMost x.stop x.stop_left
  pub right_enough : AtMost x.stop x.stop_right

-- what was written is told, what is known of the inputs is so, and what was not read of them tells them from there on
pub record IsTurned (x : Stretch) (u : Until) (written : List Verdict) (s : Sweep) (r : Reads) (fresh_left fresh_right : List Verdict) : Type 0 where
  pub told : HasTold x.n x.tr x.begin written s.out
  pub knows : KnowsUntil (Truth x.p x.tr) (Counted true x.q x.tr) (low_place u.window) (high_place u.window)
      (place s.out.at) (place s.reach) r.read r.read x.stop
  pub left_tells : Tells (Truth x.p x.tr) r.left fresh_left x.stop_left
  pub right_tells : Tells (Counted true x.q x.tr) r.right fresh_right x.stop_right
  pub left_behind : AtMost r.left r.read
  -- of the right input more may be gone, which no window to come meets
  pub right_behind : (t v : Rational) → After (place s.out.at) t → After (low_place u.window t) v → Upto r.right v → Upto r.read v
  -- it was read no further than to where the one or the other begins
  pub tight : (t : Rational) → After r.left t → After r.right t → After r.read t
  -- the left input's next verdict goes on from there
  pub ahead : (v : Verdict) → slice_get fresh_left 0 ≡ Some v → Before r.read (ends (interval v.on))

-- beyond what was found the node fails to the end of the stretch
abbrev pub Falls : Stretch → Sweep → Type 0
Falls x s = (t : Rational) → After (place s.out.at) t → After (place s.reach) t → Upto (place s.out.to) t → ¬ Truth x.n x.tr t

-- nothing changed, and no verdict that was not read counts in the stretch
pub record HasSettled (old new : Held) (u : Until) (s : Sweep) : Type 0 where
  pub same : new ≡ old
  pub settles : (x : Stretch) (written : List Verdict) (r : Reads) → IsUntil x u (place s.out.to)
      → IsTurned x u written s r (fresh_at old u.window.of) (fresh_at old u.right) → Falls x s

-- at least one verdict was read, at most two were put, and what was known and told goes on
pub record HasTurned (old new : Held) (u : Until) (s next : Sweep) : Type 0 where
  pub more : List Verdict
  pub few : length more ≤ 2
  pub owed : length more + waiting next.out.holds ≤ 2 + waiting s.out.holds
  pub worked : HasWorked old new s.out.edge u.window.of u.right more
  pub fewer : length (fresh_at new u.window.of) + length (fresh_at new u.right)
      < length (fresh_at old u.window.of) + length (fresh_at old u.right)
  pub edge : next.out.edge ≡ s.out.edge
  pub end : next.out.to ≡ s.out.to
  pub sound : IsSound next.out
  pub inside : AtMost (place next.out.at) (place s.out.to)
  pub goes : (x : Stretch) (written : List Verdict) (r : Reads) → IsUntil x u (place s.out.to)
      → IsTurned x u written s r (fresh_at old u.window.of) (fresh_at old u.right)
      → (r' : Reads) × IsTurned x u (written ++ more) next r' (fresh_at new u.window.of) (fresh_at new u.right)

-- of the next verdicts v and w of both inputs the one that ends first was read; where both end at once, the left one
pub record HasPassedOne (old new : Held) (u : Until) (v w : Verdict) : Type 0 where
  pub which : (HasPassed old new u.right w × Before (ends (interval w.on)) (ends (interval v.on)))
      ⊎ (HasPassed old new u.window.of v × AtMost (ends (interval v.on)) (ends (interval w.on)))

-- the rest of the stretch was told, by at most two verdicts more
pub record HasUntilEnded (old new : Held) (u : Until) (s end : Sweep) : Type 0 where
  pub more : List Verdict
  pub few : length more ≤ 2
  pub owed : length more + waiting end.out.holds ≤ 2 + waiting s.out.holds
  pub worked : HasWorked old new s.out.edge u.window.of u.right more
  pub edge : end.out.edge ≡ s.out.edge
  pub to : end.out.to ≡ s.out.to
  pub sound : IsSound end.out
  pub all : AtMost (place s.out.to) (place end.out.at)
  pub inside : AtMost (place end.out.at) (place s.out.to)
  pub told : (x : Stretch) (written : List Verdict) (r : Reads) → IsUntil x u (place s.out.to)
      → IsTurned x u written s r (fresh_at old u.window.of) (fresh_at old u.right) → Falls x s
      → IsTurned x u (written ++ more) end r (fresh_at new u.window.of) (fresh_at new u.right)

-- all that both inputs had ready was taken, and the stretch is told to its end
pub record HasUntilTold (old new : Held) (u : Until) (s end : Sweep) : Type 0 where
  pub more : List Verdict
  pub few : length more ≤ 2 * (length (fresh_at old u.window.of) + length (fresh_at old u.right)) + 2
  pub owed : length more + waiting end.out.holds
      ≤ 2 * (length (fresh_at old u.window.of) + length (fresh_at old u.right)) + 2 + waiting s.out.holds
  pub worked : HasWorked old new s.out.edge u.window.of u.right more
  pub edge : end.out.edge ≡ s.out.edge
  pub to : end.out.to ≡ s.out.to
  pub sound : IsSound end.out
  pub all : AtMost (place s.out.to) (place end.out.at)
  pub inside : AtMost (place end.out.at) (place s.out.to)
  pub told : (x : Stretch) (written : List Verdict) (r : Reads) → IsUntil x u (place s.out.to)
      → IsTurned x u written s r (fresh_at old u.window.of) (fresh_at old u.right)
      → (r' : Reads) × IsTurned x u (written ++ more) end r' (fresh_at new u.window.of) (fresh_at new u.right)
