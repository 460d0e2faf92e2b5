-- What an operator does, by its kind and the edges alone: its inputs, the number that it may have, and what its inputs hold.
use Rattle.std.specs.Prelude.{ℕ, ◌+◌, ◌<◌, Bool, true, false, ◌&&◌, if◌then◌else◌, List, [], ◌∷◌, length, ℤ, pos, negsuc, ◌≤ℤ◌, Option, Some, IfSome}
use Rattle.online_nodes.specs.Network.{least, moved_by, same_front}
use Rattle.online_nodes.specs.Held.{Held, held_at, number_at}
use Rattle.online_nodes.specs.declared.kind.Kind.{Kind}
use Rattle.online_nodes.specs.declared.kind.Kind.TheVariants.{Const, Not, Join, Over, Until, Since}

-- the inputs' places, the left one first
abbrev pub inputs_of : Kind → List ℕ
inputs_of (Const b) = []
inputs_of (Not p) = p ∷ []
inputs_of (Join join inputs) = inputs.left ∷ inputs.right ∷ []
inputs_of (Over w) = w.of ∷ []
inputs_of (Until u) = u.window.of ∷ u.right ∷ []
inputs_of (Since s) = s.window.of ∷ s.right ∷ []

-- something is kept in mind of the inputs between steps
abbrev pub keeps_marks : Kind → Bool
keeps_marks (Const b) = false
keeps_marks (Not p) = false
keeps_marks (Join join inputs) = false
keeps_marks (Over w) = true
keeps_marks (Until u) = true
keeps_marks (Since s) = true

-- the inputs stand below n
abbrev pub AreInputs : Kind → ℕ → Type 0
AreInputs (Const b) n = Unit {0}
AreInputs (Not p) n = p < n
AreInputs (Join join inputs) n = (inputs.left < n) × (inputs.right < n)
AreInputs (Over w) n = w.of < n
AreInputs (Until u) n = (u.window.of < n) × (u.right < n)
AreInputs (Since s) n = (s.window.of < n) × (s.right < n)

-- a number that can be moved
abbrev pub IsNear : ℤ → Type 0
IsNear n = (negsuc 1099511627775 ≤ℤ n) × (n ≤ℤ pos 1099511627776)

abbrev pub HasNear : Held → ℕ → Type 0
HasNear e j = IfSome (number_at e j) IsNear

-- the inputs' numbers can be moved by the window's bounds
abbrev pub AreNear : Kind → Held → Type 0
AreNear (Const b) e = Unit {0}
AreNear (Not p) e = Unit {0}
AreNear (Join join inputs) e = Unit {0}
AreNear (Over w) e = HasNear e w.of × IsNear w.begin_by
AreNear (Until u) e = HasNear e u.window.of × HasNear e u.right × IsNear u.window.begin_by
AreNear (Since s) e = HasNear e s.right × IsNear s.window.begin_by

-- these nodes stand at the last row's time
abbrev pub all_stand_at : Held → ℕ → List ℕ → Bool
all_stand_at e now [] = true
all_stand_at e now (j ∷ js) = same_front (number_at e j) (Some (pos now)) && all_stand_at e now js

-- the number that the node may have before the end is known
abbrev pub open_by : Kind → Held → ℕ → Option ℤ
open_by (Const b) e now = Some (pos now)
open_by (Not p) e now = number_at e p
open_by (Join join inputs) e now = least (number_at e inputs.left) (number_at e inputs.right)
open_by (Over w) e now = least (moved_by w.begin_by (number_at e w.of)) (Some (pos now))
open_by (Until u) e now = moved_by u.window.begin_by (least (number_at e u.window.of) (number_at e u.right))
open_by (Since s) e now = least (number_at e s.window.of) (moved_by s.window.begin_by (number_at e s.right))

-- the number that it may have
abbrev pub allowed_by : Kind → Held → ℕ → Bool → Option ℤ
allowed_by k e now ended = if ended && all_stand_at e now (inputs_of k) then Some (pos now) else open_by k e now

-- how many verdicts these edges hold
abbrev pub held_in : Held → List ℕ → ℕ
held_in e [] = 0
held_in e (j ∷ js) = length (held_at e j) + held_in e js
