-- There is a text for each part of a report.
use Rattle.std.proofs.Common.{◌≡◌, ℕ, Bool, List, [], ◌∷◌, ◌++◌, refl, ap, codes}
use Rattle.std.specs.Prelude.{Some, slice_get}
use Rattle.std.proofs.lemmas.Option.{same_Some}
use Rattle.serde_json.specs.Data.{Data}
use Rattle.value_laws.specs.Members.{ShapeOf}
use Rattle.pl_signal.specs.declared.knot.Knot.{Knot as SignalKnot}
use Rattle.pl_signal.specs.Plain.{plain_knot, knots_of}
use Rattle.stl_syntax.specs.Formula.{Formula, root}
use Rattle.stl_syntax.specs.Knots.{Knot, Knots}
use Rattle.stl_syntax.specs.Printing.{atom_text, printed}
use Rattle.stl_syntax.proofs.PrintedText.{atom_is, printed_formula}
use Rattle.stl_syntax.specs.declared.scale.Scale.{Scale}
use Rattle.stl_syntax.specs.declared.items.Item.{Item}
use Rattle.answer_lines.specs.Appended.{AreEach, Then, Is}
use Rattle.report.specs.ItemLines.{IsOfAtom}
use Rattle.report.specs.JsonTexts.{IsItemEntry, IsKnotEntry, IsPieceEntry, IsStepEntry, AreMarginEntries}
use Rattle.report.specs.JsonTexts.{margins_data, start_data, EndsWithList, IsOpened, IsOpening}
use Rattle.answer_lines.specs.Steps.{Step, steps_of}
use Rattle.answer_lines.proofs.Growths as growth
use Rattle.answer_lines.proofs.Growths.{word_exists}
use Rattle.answer_lines.proofs.Growths.{some_then}
use Rattle.report.proofs.ItemTexts.{span_exists}
use Rattle.report.proofs.JsonData.{head_value, head_front, head_ends, margins_end, start_front, start_ends}
use Rattle.answer_lines.proofs.Lines.{number_exists}
use Rattle.answer_lines.proofs.MarginTexts.{value_exists}
use Rattle.answer_lines.proofs.Sequences.{each_exist}

-- the first of the plain knots
pub first_is : {P : Type 0} (shape : ShapeOf P) (ks : List (SignalKnot P)) (k : SignalKnot P) → slice_get ks 0 ≡ Some k
    → (knots_of shape ks).first ≡ plain_knot shape k
first_is shape [] k h = absurd (let e = h in cc)
first_is shape (x ∷ ks) k h = let same : x ≡ k = same_Some _ _ h in ap (plain_knot shape) same

-- an object that ends with a list has a text up to it
pub text_of_opened : (lead : List ℕ) (d : Data) (front : List ℕ) → EndsWithList d front → growth.Some (IsOpened lead d)
text_of_opened lead d front h = (lead ++ front, (front, h, refl))

-- the object of the margins does
pub margins_open : growth.Some (IsOpened (codes ",") margins_data)
margins_open = text_of_opened (codes ",") margins_data (codes "\"margins\":[") margins_end

-- and that of the verdicts
pub start_opens : (holds : Bool) → growth.Some (IsOpened (codes ",") (start_data holds))
start_opens holds = text_of_opened (codes ",") (start_data holds) (start_front holds) (start_ends holds)

-- a report up to its items has a text
pub opening_exists : (f : Formula) → growth.Some (IsOpening f)
opening_exists f =
    let p = printed f.scale (root f.nodes) in
    (codes "{" ++ head_front p, (head_value p, (p, printed_formula f p refl, refl), (head_front p, head_ends p, refl)))

module _ (scale : Scale) where
  -- the entry of a knot has a text
  pub knot_entry_exists : (lead : List ℕ) (k : Knot) → growth.Some (IsKnotEntry lead scale k)
  knot_entry_exists lead k =
      let time = number_exists scale.time k.time in
      let margin = value_exists scale.value k.value in
      (_, (_, (time.0, margin.0, time.1, margin.1, refl), refl))

  -- the entry of a piece has a text
  pub piece_entry_exists : (s : Step) → growth.Some (IsPieceEntry scale s)
  piece_entry_exists s =
      let begin = number_exists scale.time s.knot.time in
      let end = number_exists scale.time s.piece.next.time in
      let from = value_exists scale.value s.piece.from in
      let to = value_exists scale.value s.piece.to in
      (_, (_, (begin.0, end.0, from.0, to.0, begin.1, end.1, from.1, to.1, refl), refl))

  -- the entry of an item of an atom has a text
  pub item_entry_exists : (lead : List ℕ) (f : Formula) (e : Item) → IsOfAtom f e → growth.Some (IsItemEntry lead scale f e)
  item_entry_exists lead f e own =
      let on = span_exists scale e.on in
      (_, (_, (own.0, own.1, (atom_text f.scale own.0, on.0, atom_is f.scale own.0, on.1, refl)), refl))

  -- the entry of a piece with the knot after it has a text
  pub step_entry_exists : (s : Step) → growth.Some (IsStepEntry scale s)
  step_entry_exists s =
      some_then (IsPieceEntry scale s) (IsKnotEntry (codes ",") scale s.piece.next) (piece_entry_exists s) (knot_entry_exists (codes ",") s.piece.next)

  -- what stands after the first knot
  abbrev pub LaterMargins : Knots → List ℕ → Type 0
  LaterMargins knots = Then (AreEach (IsStepEntry scale) (steps_of knots)) (Is (codes "]"))

  -- the entries of all later knots have a text
  pub later_margins_exist : (knots : Knots) → growth.Some (LaterMargins knots)
  later_margins_exist knots =
      some_then (AreEach (IsStepEntry scale) (steps_of knots)) (Is (codes "]")) (each_exist (IsStepEntry scale) step_entry_exists (steps_of knots))
      (word_exists (codes "]"))

  -- the entries of all margins have a text
  pub margin_entries_exist : (knots : Knots) → growth.Some (AreMarginEntries scale knots)
  margin_entries_exist knots =
      some_then (IsKnotEntry [] scale knots.first) (LaterMargins knots) (knot_entry_exists [] knots.first) (later_margins_exist knots)
