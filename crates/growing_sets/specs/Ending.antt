-- Where a stretch belongs in a list, as far as that is seen at the list's end: words of private contracts.
use Rattle.std.specs.Prelude.{◌≡◌, List, [], ◌∷◌, ◌++◌}
use Rattle.rational.specs.Places.{Place, Before}
use Rattle.frac128.specs.Cuts.{place}
use Rattle.growing_sets.specs.Spans.{EndBefore}
use Rattle.growing_sets.specs.declared.stretch.Stretch.{Stretch}
use Rattle.growing_sets.specs.declared.ending.End.{End}
use Rattle.growing_sets.specs.declared.ending.End.TheVariants.{Behind, In, Anywhere}

-- the list ends with s
abbrev pub IsLast : Stretch → List Stretch → Type 0
IsLast s xs = (front : List Stretch) × (xs ≡ front ++ s ∷ [])

-- what begins at the place begins behind all of the list; in its last stretch, or at the end of that; or anywhere
abbrev pub BelongsAt : Place → List Stretch → End → Type 0
BelongsAt c xs Behind = EndBefore c xs
BelongsAt c xs (In s) = IsLast s xs × ¬ (Before c (place s.from)) × ¬ (Before (place s.to) c)
BelongsAt c xs Anywhere = Unit {0}
