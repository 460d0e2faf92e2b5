-- When the sessions of an input stand for its lines, and what a call answers.
use Rattle.std.specs.Prelude.{◌≡◌, ℕ, ◌≤◌, false, List, [], ◌∷◌, ◌++◌, length, Result, Ok, Err, MatchBool}
use Rattle.stl_syntax.specs.Characters.{is_space, all, is_among}
use Rattle.stl_syntax.specs.Formula.{Formula}
use Rattle.session_mux.specs.Sessions.{Tagged, IsTagged, IsAnswer, AreEnds}
use Rattle.session_mux.specs.Standing.{IsCutShort}
use Rattle.session_mux.specs.Knowing.{Register, Knows, KnowsAll, IsRoomFor, tags_of, tag_list}
use Rattle.session_mux.specs.declared.fault.MuxFault.{MuxFault}
use Rattle.session_mux.specs.declared.fault.MuxFault.TheVariants as fault
use Rattle.session_mux.specs.declared.mux.Phase.{Phase}
use Rattle.session_mux.specs.declared.mux.Phase.TheVariants.{Taking, Stopped, Ended}

-- what is kept of an input: its sessions, and how far it has come
pub record Muxed : Type 0 where
  pub known : Register
  pub phase : Phase

-- what an input went through: the formula, and its lines that are not blank
pub record Past : Type 0 where
  pub formula : Formula
  pub seen : List Tagged

-- with one line more
abbrev pub with_line : Past → Tagged → Past
with_line p x = record p { seen = p.seen ++ x ∷ [] }

-- there is a session for each tag of the lines, in the order of their first ones
abbrev pub HasTags : Past → Muxed → Type 0
HasTags p m = tag_list m.known.sessions ≡ tags_of p.seen

-- neither want of memory nor the end came: each session stands for its own lines
pub record StandsFor (p : Past) (m : Muxed) : Type 0 where
  pub phase : m.phase ≡ Taking
  pub knows : Knows p.formula p.seen m.known

-- the end came: each session stands for its own lines and their end
pub record StandsForAll (p : Past) (m : Muxed) : Type 0 where
  pub phase : m.phase ≡ Ended
  pub knows : KnowsAll p.formula p.seen m.known

-- there are at most 1,024 sessions, and what goes on stands for some lines
abbrev pub HasPast : Muxed → Type 0
HasPast m = (length m.known.sessions ≤ 1024) × (m.phase ≡ Taking → (p : Past) × StandsFor p m)

-- the line was taken: its answer was added
pub record HasTaken (p : Past) (x : Tagged) (new : Muxed) (before after : List ℕ) : Type 0 where
  pub stands : StandsFor (with_line p x) new
  pub room : IsRoomFor p.seen x
  pub answer : List ℕ
  pub is : IsAnswer p.formula p.seen x answer
  pub added : after ≡ before ++ answer

-- of a line that is not blank
abbrev pub IsTakenLine : Past → List ℕ → Muxed → List ℕ → List ℕ → Type 0
IsTakenLine p content new before after = (x : Tagged) × IsTagged content x × HasTaken p x new before after

-- what a call came to: a blank line changes nothing, another one is answered; or it is refused, and nothing changed; or memory was
-- wanting, and at most a first part of the answer was added
abbrev pub IsLineCall : Past → List ℕ → Muxed → Muxed → List ℕ → List ℕ → Result (Unit {0}) MuxFault → Type 0
IsLineCall p content old new before after (Ok x) = MatchBool (all is_space content) ((new ≡ old) × (after ≡ before)) (IsTakenLine p content new before after)
IsLineCall p content old new before after (Err fault.BadTag) =
    (all is_space content ≡ false) × ((x : Tagged) → ¬ IsTagged content x) × (new ≡ old) × (after ≡ before)
IsLineCall p content old new before after (Err fault.TooManySessions) =
    (all is_space content ≡ false)
    × ((x : Tagged) × IsTagged content x × (is_among x.tag (tags_of p.seen) ≡ false)) × (1024 ≤ length (tags_of p.seen)) × (new ≡ old) × (after ≡ before)
IsLineCall p content old new before after (Err fault.Memory) =
    (all is_space content ≡ false) × ((x : Tagged) × IsTagged content x × IsCutShort (IsAnswer p.formula p.seen x) before after)
IsLineCall p content old new before after (Err fault.Stopped) = ⊥
IsLineCall p content old new before after (Err fault.Ended) = ⊥

-- the end: what the sessions say at it was added, or at most a first part where memory was wanting
abbrev pub IsEndCall : Past → Muxed → List ℕ → List ℕ → Result (Unit {0}) MuxFault → Type 0
IsEndCall p new before after (Ok x) = ((rest : List ℕ) × AreEnds p.formula p.seen (tags_of p.seen) rest × (after ≡ before ++ rest)) × StandsForAll p new
IsEndCall p new before after (Err fault.Memory) = IsCutShort (AreEnds p.formula p.seen (tags_of p.seen)) before after
IsEndCall p new before after (Err e) = ⊥

-- the phase in which a call is answered so, and the one that it leaves; nothing changes where an earlier call stopped, or the end came
abbrev pub Moves : Phase → Muxed → Muxed → Result (Unit {0}) MuxFault → Type 0
Moves next old new (Ok x) = (old.phase ≡ Taking) × (new.phase ≡ next)
Moves next old new (Err fault.Stopped) = (old.phase ≡ Stopped) × (new ≡ old)
Moves next old new (Err fault.Ended) = (old.phase ≡ Ended) × (new ≡ old)
Moves next old new (Err fault.Memory) = (old.phase ≡ Taking) × (new.phase ≡ Stopped)
Moves next old new (Err e) = (old.phase ≡ Taking) × (new ≡ old)

-- an earlier call stopped, or the end came
abbrev pub IsLate : Result (Unit {0}) MuxFault → Type 0
IsLate (Ok x) = ⊥
IsLate (Err fault.Stopped) = Unit {0}
IsLate (Err fault.Ended) = Unit {0}
IsLate (Err e) = ⊥

-- whether a phase takes a call
abbrev pub IsAllowed : Phase → Result (Unit {0}) MuxFault → Type 0
IsAllowed phase (Ok x) = phase ≡ Taking
IsAllowed phase (Err fault.Stopped) = phase ≡ Stopped
IsAllowed phase (Err fault.Ended) = phase ≡ Ended
IsAllowed phase (Err e) = ⊥

-- the phase after a line
abbrev pub phase_after : Phase → Result (Unit {0}) MuxFault → Phase
phase_after phase (Err fault.Memory) = Stopped
phase_after phase r = phase
