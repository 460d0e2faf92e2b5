-- Objects of JSON that are made once and take the texts of one entry after another.
use Rattle.std.specs.Prelude.{◌≡◌, ℕ, List, Bool, codes, Some}
use Rattle.std.specs.Ordering.{nat_cmp, match_ordering}
use Rattle.std.specs.Cmp.Lexicographic.{slice_cmp}
use Rattle.serde_json.specs.Data.{Data, null, boolean, number, string, array, object, Members, no_members, member, put}
use Rattle.serde_json.specs.Find.{get_member, get}

-- the members, with d in the place of what is at k
abbrev pub replaced : List ℕ → Data → Members → Members
replaced k d no_members = no_members
replaced k d (member l e ms) = match_ordering (slice_cmp nat_cmp k l) (member l e (replaced k d ms)) (member l d ms) (member l e (replaced k d ms))

-- the object, with d in the place of what is at k
abbrev pub with_member : List ℕ → Data → Data → Data
with_member k d null = null
with_member k d (boolean b) = boolean b
with_member k d (number n) = number n
with_member k d (string s) = string s
with_member k d (array ds) = array ds
with_member k d (object ms) = object (replaced k d ms)

-- there is a text at k
abbrev pub HasTextAt : List ℕ → Members → Type 0
HasTextAt k ms = (s : List ℕ) × (get_member k ms ≡ Some (string s))

-- the object has a text at k
abbrev pub HasText : List ℕ → Data → Type 0
HasText k d = (s : List ℕ) × (get k d ≡ Some (string s))

-- a text of this kind has come to k
abbrev pub Sets : (List ℕ → Type 0) → List ℕ → Data → Data → Type 0
Sets P k old new = (s : List ℕ) × P s × (new ≡ with_member k (string s) old)

-- some text has come to k, or is there as before
abbrev pub SetsSome : List ℕ → Data → Data → Type 0
SetsSome k old new = (s : List ℕ) × (new ≡ with_member k (string s) old)

-- the members begin with e at k
abbrev pub BeginAt : List ℕ → Data → Members → Type 0
BeginAt k e no_members = ⊥
BeginAt k e (member l f ms) = (l ≡ k) × (f ≡ e)

-- the members end with e at k
abbrev pub EndAt : List ℕ → Data → Members → Type 0
EndAt k e no_members = ⊥
EndAt k e (member l f no_members) = (l ≡ k) × (f ≡ e)
EndAt k e (member l f (member m g ms)) = EndAt k e (member m g ms)

-- what is put at k takes the place of what is there
abbrev pub TakesPlace : List ℕ → Members → Type 0
TakesPlace k ms = (e : Data) → put k e ms ≡ replaced k e ms

-- the members begin with a text at k
abbrev pub BeginsAt : List ℕ → Members → Type 0
BeginsAt k ms = (s : List ℕ) × BeginAt k (string s) ms × TakesPlace k ms

-- the members end with a text at k
abbrev pub EndsAt : List ℕ → Members → Type 0
EndsAt k ms = (s : List ℕ) × EndAt k (string s) ms × TakesPlace k ms

-- the object begins with a text at k
abbrev pub IsFirst : List ℕ → Data → Type 0
IsFirst k d = (ms : Members) × (d ≡ object ms) × BeginsAt k ms

-- the object ends with a text at k
abbrev pub IsLast : List ℕ → Data → Type 0
IsLast k d = (ms : Members) × (d ≡ object ms) × EndsAt k ms

-- the object of a knot
abbrev pub knot_object : List ℕ → List ℕ → Data
knot_object at margin = object (member (codes "at") (string at) (member (codes "margin") (string margin) no_members))

-- the object of a piece
abbrev pub piece_object : List ℕ → List ℕ → List ℕ → Data
piece_object from on to = object (member (codes "from") (string from) (member (codes "on") (string on) (member (codes "to") (string to) no_members)))

-- the object of a verdict
abbrev pub verdict_object : List ℕ → Bool → Data
verdict_object on holds = object (member (codes "on") (string on) (member (codes "value") (boolean holds) no_members))

-- an object for knots
abbrev pub IsKnotForm : Data → Type 0
IsKnotForm d = (at margin : List ℕ) × (d ≡ knot_object at margin)

-- an object for pieces
abbrev pub IsPieceForm : Data → Type 0
IsPieceForm d = (from on to : List ℕ) × (d ≡ piece_object from on to)

-- an object for verdicts
abbrev pub IsVerdictForm : Data → Type 0
IsVerdictForm d = (on : List ℕ) × (holds : Bool) × (d ≡ verdict_object on holds)
