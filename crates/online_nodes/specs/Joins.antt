-- How a connective goes through its two inputs.
use Rattle.std.specs.Prelude.{◌≡◌, ◌+◌, ◌≤◌, ◌<◌, Bool, not, ◌&&◌, ◌||◌, List, ◌++◌, length, Some, slice_get}
use Rattle.rational.specs.Time.{Rational}
use Rattle.frac128.specs.Spans.{interval}
use Rattle.stl_syntax.specs.Trace.{Trace}
use Rattle.stl_syntax.specs.Formula.{Subformula}
use Rattle.stl_syntax.specs.Truth.{Truth}
use Rattle.stl_syntax.specs.declared.items.Verdict.{Verdict}
use Rattle.rational.specs.Places.{Place, ends, AtMost}
use Rattle.frac128.specs.Cuts.{place}
use Rattle.online_nodes.specs.Held.{Held, fresh_at}
use Rattle.online_nodes.specs.Truths.{Is, Tells}
use Rattle.online_nodes.specs.Written.{HasTold, IsSound}
use Rattle.online_nodes.specs.Working.{HasWorked}
use Rattle.stl_syntax.specs.declared.operator.Join.{Join}
use Rattle.stl_syntax.specs.declared.operator.Join.TheVariants.{And, Or, Implies}
use Rattle.online_nodes.specs.declared.join.Inputs.{Inputs}
use Rattle.online_nodes.specs.declared.writer.Out.{Out}

-- a connective's truth by those of its inputs
abbrev pub joined : Join → Bool → Bool → Bool
joined And x y = x && y
joined Or x y = x || y
joined Implies x y = not x || y

-- n is the connective of p and q: at each time its truth is that of theirs
abbrev pub IsJoinOf : Join → Subformula → Subformula → Subformula → Trace → Type 0
IsJoinOf join n p q tr = (t : Rational) (x y : Bool) → Is x (Truth p tr) t → Is y (Truth q tr) t → Is (joined join x y) (Truth n tr) t

-- an input was read no further than the node is told, what was not read tells the input up to `stop`, and `stop` is not before the end
-- of the stretch
pub record IsReadTo (p : Subformula) (tr : Trace) (out : Out) (read stop : Place) (fresh : List Verdict) : Type 0 where
  pub behind : AtMost read (place out.at)
  pub tells : Tells (Truth p tr) read fresh stop
  pub enough : AtMost (place out.to) stop

-- what was written is told, and both inputs were read no further than that
pub record IsJoining (n p q : Subformula) (tr : Trace) (begin : Place) (written : List Verdict) (out : Out) (left right stop_left stop_right : Place)
    (fresh_left fresh_right : List Verdict) : Type 0 where
  pub told : HasTold n tr begin written out
  pub left_read : IsReadTo p tr out left stop_left fresh_left
  pub right_read : IsReadTo q tr out right stop_right fresh_right

-- nothing changed, and where both inputs have a verdict that was not read, both reach beyond the stretch
pub record HasPaused (old new : Held) (inputs : Inputs) (out : Out) : Type 0 where
  pub same : new ≡ old
  pub beyond : (v w : Verdict) → slice_get (fresh_at old inputs.left) 0 ≡ Some v → slice_get (fresh_at old inputs.right) 0 ≡ Some w
      → AtMost (place out.to) (ends (interval v.on)) × AtMost (place out.to) (ends (interval w.on))

-- at least one verdict was read, at most one was put, and what is told and read goes on
pub record HasReadBoth (old new : Held) (join : Join) (inputs : Inputs) (out next : Out) : Type 0 where
  pub more : List Verdict
  pub few : length more ≤ 1
  pub worked : HasWorked old new out.edge inputs.left inputs.right more
  pub fewer : length (fresh_at new inputs.left) + length (fresh_at new inputs.right)
      < length (fresh_at old inputs.left) + length (fresh_at old inputs.right)
  pub edge : next.edge ≡ out.edge
  pub end : next.to ≡ out.to
  pub sound : IsSound next
  pub inside : AtMost (place next.at) (place out.to)
  pub goes : (n p q : Subformula) (tr : Trace) (begin : Place) (written : List Verdict) (left right stop_left stop_right : Place)
      → IsJoinOf join n p q tr
      → IsJoining n p q tr begin written out left right stop_left stop_right (fresh_at old inputs.left) (fresh_at old inputs.right)
      → (left' right' : Place)
      × IsJoining n p q tr begin (written ++ more) next left' right' stop_left stop_right (fresh_at new inputs.left) (fresh_at new inputs.right)

-- the rest of the stretch was told, by at most one verdict more
pub record HasFilled (old new : Held) (join : Join) (inputs : Inputs) (out end : Out) : Type 0 where
  pub more : List Verdict
  pub few : length more ≤ 1
  pub worked : HasWorked old new out.edge inputs.left inputs.right more
  pub edge : end.edge ≡ out.edge
  pub to : end.to ≡ out.to
  pub sound : IsSound end
  pub inside : AtMost (place end.at) (place out.to)
  pub fills : (n p q : Subformula) (tr : Trace) (begin : Place) (written : List Verdict) (left right stop_left stop_right : Place)
      → IsJoinOf join n p q tr
      → ((v w : Verdict) → slice_get (fresh_at old inputs.left) 0 ≡ Some v → slice_get (fresh_at old inputs.right) 0 ≡ Some w
      → AtMost (place out.to) (ends (interval v.on)) × AtMost (place out.to) (ends (interval w.on)))
      → IsJoining n p q tr begin written out left right stop_left stop_right (fresh_at old inputs.left) (fresh_at old inputs.right)
      → IsJoining n p q tr begin (written ++ more) end left right stop_left stop_right (fresh_at new inputs.left) (fresh_at new inputs.right)
      × AtMost (place out.to) (place end.at)

-- all that both inputs had ready was taken, and the stretch is told to its end
pub record HasJoined (old new : Held) (join : Join) (inputs : Inputs) (out end : Out) : Type 0 where
  pub more : List Verdict
  pub few : length more ≤ length (fresh_at old inputs.left) + length (fresh_at old inputs.right) + 1
  pub worked : HasWorked old new out.edge inputs.left inputs.right more
  pub edge : end.edge ≡ out.edge
  pub to : end.to ≡ out.to
  pub sound : IsSound end
  pub inside : AtMost (place end.at) (place out.to)
  pub goes : (n p q : Subformula) (tr : Trace) (begin : Place) (written : List Verdict) (left right stop_left stop_right : Place)
      → IsJoinOf join n p q tr
      → IsJoining n p q tr begin written out left right stop_left stop_right (fresh_at old inputs.left) (fresh_at old inputs.right)
      → (left' right' : Place)
      × IsJoining n p q tr begin (written ++ more) end left' right' stop_left stop_right (fresh_at new inputs.left) (fresh_at new inputs.right)
      × AtMost (place out.to) (place end.at)
