-- The sessions of an input, found by their tags, and what is answered to a line: words of private contracts.
use Rattle.std.specs.Prelude.{◌≡◌, ◌⊎◌, ℕ, ◌<◌, ◌≤◌, true, false, List, [], ◌∷◌, ◌++◌, length, map, slice_get, Option, Some}
use Rattle.std.specs.Ordering.{nat_cmp}
use Rattle.std.specs.BTreeMap.{Updates, is_at}
use Rattle.std.specs.Map.{lookup}
use Rattle.stl_syntax.specs.Characters.{is_among}
use Rattle.stl_syntax.specs.Formula.{Formula}
use Rattle.session_mux.specs.Sessions.{Tagged, IsTag, IsAnswer, AreEnds, tags_after}
use Rattle.session_mux.specs.Tags.{number_of}
use Rattle.session_mux.specs.Owning.{own_of, stopped_now}
use Rattle.session_mux.specs.Standing.{HasSaidSoFar, IsCutShort}
use Rattle.session_mux.specs.declared.fault.MuxFault.{MuxFault}
use Rattle.session_mux.specs.declared.fault.MuxFault.TheVariants as fault
use Rattle.session_mux.specs.declared.known.Known.{Known}
use Rattle.session_mux.specs.declared.session.Session.{Session}

-- what is known of the sessions of an input: they themselves, in the order of their first lines, and the numbers of their tags with their
-- places
pub record Register : Type 0 where
  pub formula : Formula
  pub sessions : List Session
  pub places : List (ℕ × ℕ)

abbrev pub shown : Known → Register
shown k = record { formula = k.formula; sessions = k.sessions.items; places = k.places.entries }

-- the place of a number
abbrev pub place_in : List (ℕ × ℕ) → ℕ → Option ℕ
place_in places n = lookup (is_at (nat_cmp n)) places

-- the tags of the lines, in the order of their first ones
abbrev pub tags_of : List Tagged → List (List ℕ)
tags_of seen = tags_after [] seen

-- the tags of sessions
abbrev pub tag_list : List Session → List (List ℕ)
tag_list sessions = map (λ (s : Session). s.tag) sessions

-- each session stands for its own lines
abbrev pub EachHasSaid : Formula → List Tagged → List Session → Type 0
EachHasSaid f seen sessions =
    (i : ℕ) (s : Session) → slice_get sessions i ≡ Some s → IsTag s.tag × ((said : List ℕ) × HasSaidSoFar f (own_of seen s.tag) said s)

-- the number of each tag has the place of its session, and no other number has one
pub record AreFound (sessions : List Session) (places : List (ℕ × ℕ)) : Type 0 where
  pub at : (i : ℕ) (s : Session) → slice_get sessions i ≡ Some s → place_in places (number_of s.tag) ≡ Some i
  pub only : (n i : ℕ) → place_in places n ≡ Some i → (s : Session) × (slice_get sessions i ≡ Some s) × (number_of s.tag ≡ n)

-- a session with this tag stands at place i
abbrev pub IsSessionAt : List Session → ℕ → List ℕ → Type 0
IsSessionAt sessions i tag = (s : Session) × (slice_get sessions i ≡ Some s) × (s.tag ≡ tag)

-- there is a session for each tag of the lines, which stands for its own lines, and is found by its tag
pub record Knows (f : Formula) (seen : List Tagged) (k : Register) : Type 0 where
  pub formula : k.formula ≡ f
  pub tags : tag_list k.sessions ≡ tags_of seen
  pub said : EachHasSaid f seen k.sessions
  pub found : AreFound k.sessions k.places

-- each session is over, and stands for its own lines and their end
abbrev pub EachHasEnded : Formula → List Tagged → List Session → Type 0
EachHasEnded f seen sessions =
    (i : ℕ) (s : Session) → slice_get sessions i ≡ Some s
    → IsTag s.tag × ((said : List ℕ) × HasSaidSoFar f (stopped_now (own_of seen s.tag)) said s)

-- the end came: there is a session for each tag of the lines, which stands for its own lines and their end
pub record KnowsAll (f : Formula) (seen : List Tagged) (k : Register) : Type 0 where
  pub formula : k.formula ≡ f
  pub tags : tag_list k.sessions ≡ tags_of seen
  pub ended : EachHasEnded f seen k.sessions

-- some lines of some formula
abbrev pub HasKnown : Register → Type 0
HasKnown k = (f : Formula) × (seen : List Tagged) × Knows f seen k

-- a session more, which has got nothing yet
pub record HasBegun (t : List ℕ) (n i : ℕ) (old new : Known) : Type 0 where
  pub at : i ≡ length old.sessions.items
  pub room : length old.sessions.items < 1024
  pub session : Session
  pub tag : session.tag ≡ t
  pub fresh : HasSaidSoFar old.formula (record { bytes = []; stopped = false }) [] session
  pub sessions : new.sessions.items ≡ old.sessions.items ++ session ∷ []
  pub places : Updates nat_cmp old.places new.places n (Some i)
  pub formula : new.formula ≡ old.formula

-- why there is no session more
abbrev pub IsNotBegun : Known → Known → MuxFault → Type 0
IsNotBegun old new fault.TooManySessions = (new ≡ old) × (1024 ≤ length old.sessions.items)
IsNotBegun old new fault.Memory = Unit {0}
IsNotBegun old new fault.BadTag = ⊥
IsNotBegun old new fault.Stopped = ⊥
IsNotBegun old new fault.Ended = ⊥

-- the line's tag is a known one, or there is room for one more
abbrev pub IsRoomFor : List Tagged → Tagged → Type 0
IsRoomFor seen x = (is_among x.tag (tags_of seen) ≡ true) ⊎ (length (tags_of seen) < 1024)

-- the line's session stands at place i, before it takes the line
pub record IsReady (f : Formula) (seen : List Tagged) (x : Tagged) (i : ℕ) (k : Register) : Type 0 where
  pub formula : k.formula ≡ f
  pub tags : tag_list k.sessions ≡ tags_of (seen ++ x ∷ [])
  pub said : EachHasSaid f seen k.sessions
  pub found : AreFound k.sessions k.places
  pub session : Session
  pub at : slice_get k.sessions i ≡ Some session
  pub tag : session.tag ≡ x.tag
  pub room : IsRoomFor seen x

-- the line's tag is a new one, and there are 1,024; or memory was wanting
abbrev pub IsTurnedAway : List Tagged → Tagged → Known → Known → MuxFault → Type 0
IsTurnedAway seen x old new fault.TooManySessions = (new ≡ old) × (is_among x.tag (tags_of seen) ≡ false) × (1024 ≤ length (tags_of seen))
IsTurnedAway seen x old new fault.Memory = Unit {0}
IsTurnedAway seen x old new fault.BadTag = ⊥
IsTurnedAway seen x old new fault.Stopped = ⊥
IsTurnedAway seen x old new fault.Ended = ⊥

-- the line was taken, and its answer added
pub record HasAnswered (f : Formula) (seen : List Tagged) (x : Tagged) (new : Register) (before after : List ℕ) : Type 0 where
  pub knows : Knows f (seen ++ x ∷ []) new
  pub room : IsRoomFor seen x
  pub answer : List ℕ
  pub is : IsAnswer f seen x answer
  pub added : after ≡ before ++ answer

-- why the line was not answered, or not whole
abbrev pub IsUnanswered : Formula → List Tagged → Tagged → Known → Known → List ℕ → List ℕ → MuxFault → Type 0
IsUnanswered f seen x old new before after fault.TooManySessions = IsTurnedAway seen x old new fault.TooManySessions × (after ≡ before)
IsUnanswered f seen x old new before after fault.Memory = IsCutShort (IsAnswer f seen x) before after
IsUnanswered f seen x old new before after fault.BadTag = ⊥
IsUnanswered f seen x old new before after fault.Stopped = ⊥
IsUnanswered f seen x old new before after fault.Ended = ⊥

-- the ends of all sessions were added
abbrev pub HasEnded : Formula → List Tagged → List ℕ → List ℕ → Type 0
HasEnded f seen before after = (rest : List ℕ) × AreEnds f seen (tags_of seen) rest × (after ≡ before ++ rest)
