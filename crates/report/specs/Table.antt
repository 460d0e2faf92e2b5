-- The robustness as a table of comma-separated values.
use Rattle.std.specs.Prelude.{◌≡◌, ℕ, List, [], ◌∷◌, flat_map, codes}
use Rattle.csv.specs.Writing.{row_text, default_writer}
use Rattle.stl_syntax.specs.Knots.{Knot, Piece, Knots}
use Rattle.stl_syntax.specs.Texts.{IsNumberText, IsValueText}
use Rattle.stl_syntax.specs.declared.scale.Scale.{Scale}

-- a record for each knot: its time, its value and the two limits of the piece after it
abbrev pub AreRecords : Scale → Knot → List Piece → List (List (List ℕ)) → Type 0
AreRecords scale k [] records =
    (time value : List ℕ) × IsNumberText scale.time k.time time × IsValueText scale.value k.value value × (records ≡ (time ∷ value ∷ [] ∷ [] ∷ []) ∷ [])
AreRecords scale k (p ∷ pieces) records =
    (time value from to : List ℕ) × (later : List (List (List ℕ))) × IsNumberText scale.time k.time time × IsValueText scale.value k.value value
    × IsValueText scale.value p.from from × IsValueText scale.value p.to to × AreRecords scale p.next pieces later
    × (records ≡ (time ∷ value ∷ from ∷ to ∷ []) ∷ later)

-- the first record
abbrev pub heading : List (List ℕ)
heading = codes "time" ∷ codes "margin" ∷ codes "from" ∷ codes "to" ∷ []

-- the text of the table
abbrev pub IsTableText : Scale → Knots → List ℕ → Type 0
IsTableText scale knots text =
    (records : List (List (List ℕ))) × AreRecords scale knots.first knots.pieces records × (text ≡ flat_map (row_text default_writer) (heading ∷ records))
