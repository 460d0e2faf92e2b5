-- A table from its records.
use Rattle.std.proofs.Common.{◌≡◌, ℕ, List, [], ◌∷◌, ◌++◌, append-nil, append_assoc, refl, sym, ap, ◌∙◌}
use Rattle.std.specs.Prelude.{flat_map}
use Rattle.csv.specs.Writing.{row_text, default_writer}
use Rattle.stl_syntax.specs.Knots.{Knot, Piece, Knots, last_knot}
use Rattle.stl_syntax.specs.declared.scale.Scale.{Scale}
use Rattle.answer_lines.specs.Appended.{AreEach, Then, Is}
use Rattle.answer_lines.specs.Steps.{Step, steps_from, steps_of}
use Rattle.report.specs.Table.{AreRecords, IsTableText, heading}
use Rattle.report.specs.TableRows.{IsStepRow, IsLastRow}
use Rattle.answer_lines.proofs.Growths as growth
use Rattle.answer_lines.proofs.Growths.{some_then}
use Rattle.answer_lines.proofs.Lines.{number_exists}
use Rattle.answer_lines.proofs.MarginTexts.{value_exists}
use Rattle.answer_lines.proofs.Sequences.{each_exist}

module _ (scale : Scale) where
  -- each step has a record
  pub step_row_exists : (s : Step) → growth.Some (IsStepRow scale s)
  step_row_exists s =
      let time = number_exists scale.time s.knot.time in
      let value = value_exists scale.value s.knot.value in
      let from = value_exists scale.value s.piece.from in
      let to = value_exists scale.value s.piece.to in
      (_, (time.0, value.0, from.0, to.0, time.1, value.1, from.1, to.1, refl))

  -- and so has the last knot
  pub last_row_exists : (k : Knot) → growth.Some (IsLastRow scale k)
  last_row_exists k =
      let time = number_exists scale.time k.time in
      let value = value_exists scale.value k.value in
      (_, (time.0, value.0, time.1, value.1, refl))

  -- the records of the steps and that of the last knot are all records
  pub rows_are_records : (k : Knot) (pieces : List Piece) (body last : List ℕ) → AreEach (IsStepRow scale) (steps_from k pieces) body
      → IsLastRow scale (last_knot k pieces) last
      → (records : List (List (List ℕ))) × AreRecords scale k pieces records × (body ++ last ≡ flat_map (row_text default_writer) records)
  rows_are_records k [] body last h (time, value, is_time, is_value, e) = (
    (time ∷ value ∷ [] ∷ [] ∷ []) ∷ [],
    (time, value, is_time, is_value, refl),
    ap (λ w. w ++ last) h ∙ e ∙ sym
        (append-nil (row_text default_writer (time ∷ value ∷ [] ∷ [] ∷ []))),
  )
  rows_are_records k (p ∷ pieces) body last (here, later, (time, value, from, to, is_time, is_value, is_from, is_to, f), h, e) l =
      let (records, are, g) = rows_are_records p.next pieces later last h l in (
        (time ∷ value ∷ from ∷ to ∷ []) ∷ records,
        (time, value, from, to, records, is_time, is_value, is_from, is_to, are, refl),
        ap (λ w. w ++ last) (e ∙ ap (λ w. w ++ later) f) ∙ append_assoc (row_text default_writer (time ∷ value ∷ from ∷ to ∷ [])) later last
            ∙ ap (λ w. row_text default_writer (time ∷ value ∷ from ∷ to ∷ []) ++ w) g,
      )

  -- the parts of a table
  abbrev pub TableParts : Knots → List ℕ → Type 0
  TableParts knots =
      Then (Then (Is (row_text default_writer heading)) (AreEach (IsStepRow scale) (steps_of knots))) (IsLastRow scale (last_knot knots.first knots.pieces))

  -- the header's record and those of the knots make the table
  pub table_text : (knots : Knots) (text : List ℕ) → TableParts knots text → IsTableText scale knots text
  table_text knots text (front, last, (head, body, is_head, is_body, e), is_last, f) =
      let (records, are, g) = rows_are_records knots.first knots.pieces body last is_body is_last in (
        records,
        are,
        f ∙ ap (λ w. w ++ last) (e ∙ ap (λ w. w ++ body) is_head) ∙ append_assoc (row_text default_writer heading) body last
            ∙ ap (λ w. row_text default_writer heading ++ w) g,
      )

  -- the steps have records
  pub step_rows_exist : (steps : List Step) → growth.Some (AreEach (IsStepRow scale) steps)
  step_rows_exist = each_exist (IsStepRow scale) step_row_exists

  -- there is a table
  pub table_exists : (knots : Knots) → growth.Some (IsTableText scale knots)
  table_exists knots =
      let Head = Is (row_text default_writer heading) in
      let Body = AreEach (IsStepRow scale) (steps_of knots) in
      let last = last_knot knots.first knots.pieces in
      let all =
      some_then (Then Head Body) (IsLastRow scale last) (some_then Head Body (row_text default_writer heading, refl) (step_rows_exist (steps_of knots)))
      (last_row_exists last) in
      (all.0, table_text knots all.0 all.1)
