-- What the bench of a tag hears in the bytes that were written for all.
use Rattle.std.specs.Prelude.{◌≡◌, ℕ, ◌+◌, ◌==◌, ◌&&◌, Bool, true, false, not, List, [], ◌∷◌, ◌++◌}
use Rattle.std.specs.Prelude.{length, drop, flat_map, codes, if◌then◌else◌, Some, slice_get}
use Rattle.stl_syntax.specs.Formula.{Formula}
use Rattle.stl_syntax.specs.declared.atom.Atom.{Atom}
use Rattle.stl_syntax.specs.declared.atom.Term.{Term}
use Rattle.stl_syntax.specs.declared.node.Node.TheVariants.{Atom as Leaf}
use Rattle.session_mux.specs.Sessions.{Tagged, IsTag}
use Rattle.session_mux.specs.SessionsAlone.{AreSaidTo, AreSaidInAll}
use Rattle.session_mux.specs.Saying.{texts}

-- the line begins with the prefix
abbrev pub begins_with : List ℕ → List ℕ → Bool
begins_with [] line = true
begins_with (c ∷ prefix) [] = false
begins_with (c ∷ prefix) (d ∷ line) = (c == d) && begins_with prefix line

-- what a line says to the bench of a tag: what follows the tag and a space, unless it answers a query
abbrev pub says_to : List ℕ → List ℕ → List (List ℕ)
says_to t line = if begins_with (t ++ codes " ? ") line then [] else if begins_with (t ++ codes " ") line then drop (length t + 1) line ∷ [] else []

-- what the bench hears, line by line
abbrev pub heard : List ℕ → List ℕ → List (List ℕ)
heard t text = flat_map (says_to t) (texts text)

-- no LF among the bytes
abbrev pub is_plain : List ℕ → Bool
is_plain [] = true
is_plain (c ∷ text) = not (c == 10) && is_plain text

-- no name of the formula has an LF: a formula that was read has none
abbrev pub HasPlainNames : Formula → Type 0
HasPlainNames f = (i j : ℕ) (owner : Atom) (part : Term) → slice_get f.nodes i ≡ Some (Leaf owner)
    → slice_get owner.terms j ≡ Some part → is_plain part.name ≡ true

-- each line has a tag
abbrev pub HaveTags : List Tagged → Type 0
HaveTags [] = Unit {0}
HaveTags (x ∷ all) = IsTag x.tag × HaveTags all

-- the bench of a tag hears line by line what its session is told
abbrev pub EachHearsWhatIsSaid : Type 0
EachHearsWhatIsSaid = (f : Formula) (t : List ℕ) (all : List Tagged) (text said : List ℕ) → HasPlainNames f → IsTag t
    → HaveTags all → AreSaidTo f t [] all text said → heard t text ≡ texts said

-- and so to the end of the input
abbrev pub EachHearsItsEnd : Type 0
EachHearsItsEnd = (f : Formula) (t : List ℕ) (all : List Tagged) (text said : List ℕ) → HasPlainNames f → IsTag t → HaveTags all
    → AreSaidInAll f t all text said → heard t text ≡ texts said
