-- The records of a table one by one, and the writer that they go through.
use Rattle.std.specs.Prelude.{◌≡◌, ℕ, false, List, [], ◌∷◌, ◌++◌, Vec}
use Rattle.std.specs.declared.alloc.Global.{Global}
use Rattle.csv.specs.Writing.{row_text, default_writer, writer_setup, fields_written, has_written, writer_under, writer_pending}
use Rattle.csv.specs.declared.writer.Writer.{Writer}
use Rattle.stl_syntax.specs.Knots.{Knot, Piece}
use Rattle.stl_syntax.specs.Texts.{IsNumberText, IsValueText}
use Rattle.stl_syntax.specs.declared.scale.Scale.{Scale}
use Rattle.answer_lines.specs.Steps.{Step}
use Rattle.report.specs.declared.table.Fields.{Fields}

-- the record of a knot and the piece after it
abbrev pub IsStepRow : Scale → Step → List ℕ → Type 0
IsStepRow scale s text =
    (time value from to : List ℕ) × IsNumberText scale.time s.knot.time time × IsValueText scale.value s.knot.value value
    × IsValueText scale.value s.piece.from from × IsValueText scale.value s.piece.to to × (text ≡ row_text default_writer (time ∷ value ∷ from ∷ to ∷ []))

-- the record of the last knot
abbrev pub IsLastRow : Scale → Knot → List ℕ → Type 0
IsLastRow scale k text =
    (time value : List ℕ) × IsNumberText scale.time k.time time × IsValueText scale.value k.value value
    × (text ≡ row_text default_writer (time ∷ value ∷ [] ∷ [] ∷ []))

-- the fields in order
abbrev pub field_list : Fields → List (List ℕ)
field_list fields = fields.time ∷ fields.value ∷ fields.from ∷ fields.to ∷ []

-- the first two fields are those of the knot
pub record HasKnot (scale : Scale) (k : Knot) (fields : Fields) : Type 0 where
  pub time : IsNumberText scale.time k.time fields.time
  pub value : IsValueText scale.value k.value fields.value

-- the last two fields are those of the piece
pub record HasPiece (scale : Scale) (p : Piece) (fields : Fields) : Type 0 where
  pub from : IsValueText scale.value p.from fields.from
  pub to : IsValueText scale.value p.to fields.to

-- a writer with its defaults, between two records
pub record IsReady (rows : Writer (Vec ℕ Global)) : Type 0 where
  pub setup : writer_setup rows ≡ default_writer
  pub fields : fields_written rows ≡ 0
  pub wrote : has_written rows ≡ false

-- what was written so far
abbrev pub rows_text : Writer (Vec ℕ Global) → List ℕ
rows_text rows = (writer_under rows).items ++ writer_pending rows
