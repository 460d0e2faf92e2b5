-- What one answer of a node does to the edges, by its kind: its inputs are read on, and its own edge gets the list of the stretch; and how
-- its inputs are let go then.
use Rattle.std.specs.Prelude.{◌≡◌, ◌≢◌, ◌⊎◌, ℕ, ◌+◌, ◌<◌, ◌≤◌, Bool, true, false, not, ◌&&◌}
use Rattle.std.specs.Prelude.{if◌then◌else◌, List, length, ℤ, pos, neg_ℤ, ◌+ℤ◌, int_lt, Some, slice_get}
use Rattle.stl_syntax.specs.declared.items.Verdict.{Verdict}
use Rattle.rational.specs.Places.{AtMost}
use Rattle.frac128.specs.Cuts.{place}
use Rattle.online_nodes.specs.Held.{Held, edge_at, fresh_at, with_more, IsDroppedBy}
use Rattle.online_nodes.specs.Written.{HasAnswer, HasFinished}
use Rattle.online_nodes.specs.Working.{IsReadOn}
use Rattle.online_nodes.specs.Joins.{HasJoined}
use Rattle.online_nodes.specs.Negations.{HasNegated}
use Rattle.online_nodes.specs.Sweeps.{FitsIn, HasSwept, for_ever}
use Rattle.online_nodes.specs.Untils.{HasUntilTold}
use Rattle.online_nodes.specs.Sinces.{CanMove, CanMoveRun, IsBackward, HasSinceTold}
use Rattle.online_nodes.specs.Kinds.{IsNear}
use Rattle.online_nodes.specs.declared.answering.Outcome.{Outcome}
use Rattle.online_nodes.specs.declared.answering.Marks.{Marks}
use Rattle.online_nodes.specs.declared.kind.Kind.{Kind}
use Rattle.online_nodes.specs.declared.kind.Kind.TheVariants.{Const, Not, Join, Over, Until, Since}
use Rattle.online_nodes.specs.declared.window.Window.{Window}
use Rattle.online_nodes.specs.declared.writer.Out.{Out}

-- node j is an input
abbrev pub IsInput : Kind → ℕ → Type 0
IsInput (Const b) j = ⊥
IsInput (Not p) j = p ≡ j
IsInput (Join join inputs) j = (inputs.left ≡ j) ⊎ (inputs.right ≡ j)
IsInput (Over w) j = w.of ≡ j
IsInput (Until u) j = (u.window.of ≡ j) ⊎ (u.right ≡ j)
IsInput (Since s) j = (s.window.of ≡ j) ⊎ (s.right ≡ j)

-- node j is the left input, or only one, or the right one
abbrev pub IsOperand : Kind → Bool → ℕ → Type 0
IsOperand (Not p) true j = p ≡ j
IsOperand (Join join inputs) true j = inputs.left ≡ j
IsOperand (Join join inputs) false j = inputs.right ≡ j
IsOperand (Over w) true j = w.of ≡ j
IsOperand (Until u) true j = u.window.of ≡ j
IsOperand (Until u) false j = u.right ≡ j
IsOperand (Since s) true j = s.window.of ≡ j
IsOperand (Since s) false j = s.right ≡ j
IsOperand kind left j = ⊥

-- no time lies in the window
abbrev pub is_empty : Window → Bool
is_empty w = not (int_lt w.begin_by w.end_by) && not (w.begin_in && w.end_in)

-- a window's input, and that its verdicts can be moved
pub record CanSweep (w : Window) (e : Held) (own : ℕ) : Type 0 where
  pub within : w.of < length e.edges
  pub apart : w.of ≢ own
  pub fits : (k : ℕ) (v : Verdict) → slice_get (fresh_at e w.of) k ≡ Some v → FitsIn w v

-- two inputs, of which neither is the other or the node itself
pub record HaveTwo (left right : ℕ) (e : Held) (own : ℕ) : Type 0 where
  pub left_in : left < length e.edges
  pub right_in : right < length e.edges
  pub left_apart : left ≢ own
  pub right_apart : right ≢ own
  pub apart : left ≢ right

-- what an answer by this kind needs
abbrev pub CanAnswer : Kind → Held → ℕ → Marks → Type 0
CanAnswer (Const b) e own marks = Unit {0}
CanAnswer (Not p) e own marks = (p < length e.edges) × (p ≢ own)
CanAnswer (Join join inputs) e own marks = HaveTwo inputs.left inputs.right e own
CanAnswer (Over w) e own marks = CanSweep w e own
CanAnswer (Until u) e own marks =
    HaveTwo u.window.of u.right e own × ((k : ℕ) (v : Verdict) → slice_get (fresh_at e u.window.of) k ≡ Some v → FitsIn u.window v)
    × ((k : ℕ) (v : Verdict) → slice_get (fresh_at e u.right) k ≡ Some v → FitsIn u.window v)
CanAnswer (Since s) e own marks =
    HaveTwo s.window.of s.right e own × IsBackward s.window
    × ((k : ℕ) (v : Verdict) → slice_get (fresh_at e s.window.of) k ≡ Some v → CanMove s.window v)
    × ((k : ℕ) (v : Verdict) → slice_get (fresh_at e s.right) k ≡ Some v → CanMove s.window v)
    × ((out : Out) → CanMoveRun s.window (record { out = out; reach = marks.reach; run = marks.run }))

-- one truth was told to the end of the stretch
pub record HasToldAll (old new : Held) (holds : Bool) (out : Out) (marks : Marks) (a : Outcome) : Type 0 where
  pub said : HasAnswer old new out holds a.out
  pub all : AtMost (place out.to) (place a.out.at)
  pub inside : AtMost (place a.out.at) (place out.to)
  pub kept : a.marks ≡ marks

-- a window was swept, or it is empty and nothing was read
pub record HasSweptAll (w : Window) (old new : Held) (out : Out) (marks : Marks) (a : Outcome) : Type 0 where
  pub run : a.marks.run ≡ marks.run
  pub swept : is_empty w ≡ false → HasSwept old new w (record { out = out; reach = marks.reach }) (record { out = a.out; reach = a.marks.reach })
  pub empty : is_empty w ≡ true → HasToldAll old new (not w.seeks) out marks a

-- what was read and told, by the kind
abbrev pub HasBody : Kind → Held → Held → Out → Marks → Outcome → Type 0
HasBody (Const b) old new out marks a = HasToldAll old new b out marks a
HasBody (Not p) old new out marks a = HasNegated old new p out a.out × (a.marks ≡ marks)
HasBody (Join join inputs) old new out marks a = HasJoined old new join inputs out a.out × (a.marks ≡ marks)
HasBody (Over w) old new out marks a = HasSweptAll w old new out marks a
HasBody (Until u) old new out marks a =
    HasUntilTold old new u (record { out = out; reach = marks.reach }) (record { out = a.out; reach = a.marks.reach }) × (a.marks.run ≡ marks.run)
HasBody (Since s) old new out marks a =
    HasSinceTold old new s (record { out = out; reach = marks.reach; run = marks.run })
    (record { out = a.out; reach = a.marks.reach; run = a.marks.run })

-- a node's edge `own` got the verdicts, each for one of the spare places; of its inputs' edges some verdicts were read; nothing else changed
pub record HasWorkedOn (kind : Kind) (old new : Held) (own : ℕ) (more : List Verdict) : Type 0 where
  pub count : length new.edges ≡ length old.edges
  pub got : edge_at new own ≡ with_more (edge_at old own) more
  pub read : (j : ℕ) → IsInput kind j → IsReadOn (edge_at old j) (edge_at new j)
  pub others : (j : ℕ) → j ≢ own → (IsInput kind j → ⊥) → edge_at new j ≡ edge_at old j
  pub start : new.start ≡ old.start
  pub spare : old.spare ≤ new.spare + length more

-- what was told is put, and what the operator keeps in mind is `after`
pub record HasAnswered (kind : Kind) (old new : Held) (out : Out) (marks after : Marks) : Type 0 where
  pub mid : Held
  pub told : Outcome
  pub body : HasBody kind old mid out marks told
  pub finished : HasFinished mid new told.out
  pub is : after ≡ told.marks

-- by how much a reader looks back or ahead from its front, at its left input or the right one
abbrev pub back_by : Window → ℤ
back_by w = if int_lt w.end_by (pos for_ever) then w.end_by else w.begin_by

abbrev pub looks_by : Kind → Bool → ℤ
looks_by (Const b) left = pos 0
looks_by (Not p) left = pos 0
looks_by (Join join inputs) left = pos 0
looks_by (Over w) left = neg_ℤ (back_by w)
looks_by (Until u) true = pos 0
looks_by (Until u) false = neg_ℤ u.window.end_by
looks_by (Since s) left = neg_ℤ (back_by s.window)

-- the edge without what ends by a time
abbrev pub LetsGo : Held → Held → ℕ → ℤ → Type 0
LetsGo old new j limit = IsDroppedBy limit (edge_at old j) (edge_at new j)

-- the inputs' edges let go what ends by the node's front, moved by how far it looks
pub record HasReleased (kind : Kind) (front : ℤ) (old new : Held) : Type 0 where
  pub count : length new.edges ≡ length old.edges
  pub one : (j : ℕ) (left : Bool) → IsOperand kind left j → LetsGo old new j (front +ℤ looks_by kind left)
  pub others : (j : ℕ) → (IsInput kind j → ⊥) → edge_at new j ≡ edge_at old j
  pub start : new.start ≡ old.start
  pub spare : old.spare ≤ new.spare

-- two edges let go what ends by a time each
pub record HasReleasedTwo (old new : Held) (left : ℕ) (left_by : ℤ) (right : ℕ) (right_by : ℤ) : Type 0 where
  pub count : length new.edges ≡ length old.edges
  pub one : LetsGo old new left left_by
  pub other : LetsGo old new right right_by
  pub others : (j : ℕ) → j ≢ left → j ≢ right → edge_at new j ≡ edge_at old j
  pub start : new.start ≡ old.start
  pub spare : old.spare ≤ new.spare

-- a window's ends are near
abbrev pub AreNearEnds : Window → Type 0
AreNearEnds w = IsNear w.begin_by × IsNear w.end_by

-- what letting go needs: the inputs, and that the windows' ends can be moved by
abbrev pub CanRelease : Kind → Held → Type 0
CanRelease (Const b) e = Unit {0}
CanRelease (Not p) e = p < length e.edges
CanRelease (Join join inputs) e = (inputs.left < length e.edges) × (inputs.right < length e.edges) × (inputs.left ≢ inputs.right)
CanRelease (Over w) e = (w.of < length e.edges) × AreNearEnds w
CanRelease (Until u) e = (u.window.of < length e.edges) × (u.right < length e.edges) × (u.window.of ≢ u.right) × AreNearEnds u.window
CanRelease (Since s) e = (s.window.of < length e.edges) × (s.right < length e.edges) × (s.window.of ≢ s.right) × AreNearEnds s.window
