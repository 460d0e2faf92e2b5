-- The texts of a report's parts are the compact texts of its values.
use Rattle.std.proofs.Common.{◌≡◌, ℕ, ◌-◌, Bool, true, false, List, [], ◌∷◌, ◌++◌, length, take, drop, append_assoc, length-append}
use Rattle.std.proofs.Common.{refl, sym, ap, ◌∙◌, arith, codes}
use Rattle.std.proofs.Math.Seq.{take-append_seam}
use Rattle.std.proofs.lemmas.List.{append_cancel_left, append_cancel_right}
use Rattle.serde_json.specs.Data.{Data, boolean, string, array, object, Items, no_items, item, no_members, member}
use Rattle.serde_json.specs.Written.{compact_text, items_text}
use Rattle.serde_json.proofs.OnLiterals.{serde_json_on_literals}
use Rattle.stl_syntax.specs.Knots.{Knot, Piece, Knots}
use Rattle.stl_syntax.specs.Formula.{Formula}
use Rattle.stl_syntax.specs.Print.{IsPrintedFormula}
use Rattle.stl_syntax.specs.Texts.{bool_text}
use Rattle.stl_syntax.specs.declared.scale.Scale.{Scale}
use Rattle.stl_syntax.specs.declared.items.Verdict.{Verdict}
use Rattle.stl_syntax.specs.declared.items.Item.{Item}
use Rattle.answer_lines.specs.Appended.{AreEach, Then}
use Rattle.report.specs.Json.{AreVerdictData, AreItemData, ArePieceData, AreMarginData}
use Rattle.report.specs.JsonTexts.{IsItemEntry, IsStepEntry, AreMarginEntries, margins_data, start_data, EndsWithList, IsOpened, IsOpening}
use Rattle.answer_lines.specs.Steps.{steps_from}
use Rattle.report.specs.VerdictForms.{IsEntry}

-- ---- what stands around the lists

-- a text as a string of JSON
abbrev pub json_string : List ℕ → List ℕ
json_string s = compact_text (string s)

-- the truth at the start, between the margins and the verdicts
abbrev pub start_member : Bool → List ℕ
start_member holds = codes ",\"start\":" ++ bool_text holds ++ codes ",\"verdicts\":["

-- the whole object
abbrev pub report_value : List ℕ → Items → Items → Bool → Items → Data
report_value printed items margins holds spans =
    object (member (codes "formula") (string printed) (member (codes "items") (array items) (member (codes "margins") (array margins)
    (member (codes "start") (boolean holds) (member (codes "verdicts") (array spans) no_members)))))

-- a report's compact text is made of those of its parts
pub report_text : (printed : List ℕ) (items margins spans : Items) (holds : Bool)
    → compact_text (report_value printed items margins holds spans)
    ≡ codes "{\"formula\":" ++ (json_string printed ++ (codes ",\"items\":[" ++ (items_text false items ++ (codes ",\"margins\":[" ++ (items_text false margins
    ++ (start_member holds ++ (items_text false spans ++ codes "}")))))))
unfolding serde_json_on_literals
report_text printed items margins spans true = refl
report_text printed items margins spans false = refl

-- the object up to its items, which has a formula
abbrev pub head_value : List ℕ → Data
head_value printed = object (member (codes "formula") (string printed) (member (codes "items") (array no_items) no_members))

-- the bytes before its list
abbrev pub head_front : List ℕ → List ℕ
head_front printed = codes "\"formula\":" ++ (json_string printed ++ codes ",\"items\":[")

-- it ends with its list of items
pub head_ends : (printed : List ℕ) → EndsWithList (head_value printed) (head_front printed)
unfolding serde_json_on_literals
head_ends printed = by_parts (codes "{") (codes "\"formula\":") (json_string printed) (codes ",\"items\":[") (codes "]}")
  where
    by_parts : (a b c d e : List ℕ) → a ++ (b ++ (c ++ (d ++ e))) ≡ a ++ ((b ++ (c ++ d)) ++ e)
    by_parts a b c d e = simp append_assoc

-- the object of the margins ends with their list
pub margins_end : EndsWithList margins_data (codes "\"margins\":[")
unfolding serde_json_on_literals
margins_end = refl

-- the bytes before the list of verdicts
abbrev pub start_front : Bool → List ℕ
start_front holds = codes "\"start\":" ++ bool_text holds ++ codes ",\"verdicts\":["

-- and the object of the verdicts with theirs
pub start_ends : (holds : Bool) → EndsWithList (start_data holds) (start_front holds)
unfolding serde_json_on_literals
start_ends true = refl
start_ends false = refl

-- the bytes before the list at the end of an object are these
front_is : (d : Data) (front other : List ℕ) → EndsWithList d front → EndsWithList d other → front ≡ other
front_is d front other h k =
    append_cancel_right front other (codes "]}") (append_cancel_left (codes "{") (front ++ codes "]}") (other ++ codes "]}") (sym h ∙ k))

-- an object that is opened is what was said to stand before its list
opened_is : (lead : List ℕ) (d : Data) (front text : List ℕ) → EndsWithList d front → IsOpened lead d text → text ≡ lead ++ front
opened_is lead d front text h (other, k, e) = e ∙ ap (λ w. lead ++ w) (front_is d other front k h)

-- what stands between the brace and the end of the list is what is left without the first byte and the last two
pub inside_is : (written front : List ℕ) → written ≡ codes "{" ++ (front ++ codes "]}")
    → written ≡ codes "{" ++ (take (length written - 2 - 1) (drop 1 written) ++ codes "]}")
inside_is written front e =
    let few : length written - 2 - 1 ≡ length front = omega (arith, ap length e, length-append front (codes "]}")) in
    let middle : take (length written - 2 - 1) (drop 1 written) ≡ front =
    ap (λ n. take n (drop 1 written)) few ∙ ap (λ w. take (length front) (drop 1 w)) e ∙ take-append_seam front (codes "]}") in
    e ∙ ap (λ w. codes "{" ++ (w ++ codes "]}")) (sym middle)

-- what stands before the items
pub opening_is : (f : Formula) (text : List ℕ) → IsOpening f text
    → (printed : List ℕ) × IsPrintedFormula f printed × (text ≡ codes "{\"formula\":" ++ (json_string printed ++ codes ",\"items\":["))
opening_is f text (d, (printed, is_printed, is), (front, h, e)) =
    let same : EndsWithList d (head_front printed) = ap compact_text is ∙ head_ends printed in
    (printed, is_printed, opened_is (codes "{") d (head_front printed) text same (front, h, e))

-- what stands between the items and the margins
pub margins_opened : (text : List ℕ) → IsOpened (codes ",") margins_data text → text ≡ codes ",\"margins\":["
margins_opened text h = opened_is (codes ",") margins_data (codes "\"margins\":[") text margins_end h

-- what stands between the margins and the verdicts
pub start_opened : (holds : Bool) (text : List ℕ) → IsOpened (codes ",") (start_data holds) text → text ≡ start_member holds
start_opened holds text h = opened_is (codes ",") (start_data holds) (start_front holds) text (start_ends holds) h

module _ (scale : Scale) where
  -- ---- knots and pieces

  -- the steps with the closing bracket are the items after the first
  pub steps_data : (k : Knot) (pieces : List Piece) (text : List ℕ) → AreEach (IsStepEntry scale) (steps_from k pieces) text
      → (later : Items) × ArePieceData scale k pieces later × (text ++ codes "]" ≡ items_text true later)
  steps_data k [] text h = (no_items, refl, ap (λ w. w ++ codes "]") h)
  steps_data k (p ∷ pieces) text (here, more, (piece, knot, (d, is_d, g), (c, is_c, h), e), others, f) =
      let (later, are, i) = steps_data p.next pieces more others in
      let text_is : text ++ codes "]" ≡ (((codes "," ++ compact_text d) ++ (codes "," ++ compact_text c)) ++ more) ++ codes "]" =
      ap (λ w. w ++ codes "]") (f ∙ ap (λ w. w ++ more) (e ∙ ap (λ w. w ++ knot) g ∙ ap (λ w. (codes "," ++ compact_text d) ++ w) h)) in (
        item d (item c later),
        (d, c, later, is_d, is_c, are, refl),
        text_is ∙ lists (compact_text d) (compact_text c) more ∙ ap
            (λ w. codes "," ++ (compact_text d ++ (codes "," ++ (compact_text c ++ w)))) i,
      )
    where
      lists : (d c m : List ℕ) → (((codes "," ++ d) ++ (codes "," ++ c)) ++ m) ++ codes "]" ≡ codes "," ++ (d ++ (codes "," ++ (c ++ (m ++ codes "]"))))
      lists d c m = simp append_assoc

  -- the margins
  pub margins_items : (knots : Knots) (text : List ℕ) → AreMarginEntries scale knots text → (data' : Items) × AreMarginData scale knots data'
      × (text ≡ items_text false data')
  margins_items knots text (first, rest, (c, is_c, g), (steps, end, are, is_end, e), f) =
      let (later, are_later, h) = steps_data knots.first knots.pieces steps are in
      (item c later, (c, later, is_c, are_later, refl), f ∙ ap (λ w. w ++ rest) g ∙ ap (λ w. compact_text c ++ w) (e ∙ ap (λ w. steps ++ w) is_end ∙ h))

  -- ---- verdicts

  -- the verdicts, the last one apart: after a comma each, where something stands before
  verdicts_from : (before : List Verdict) (last : Verdict) (front end : List ℕ) → AreEach (IsEntry true false scale) before front
      → IsEntry true true scale last end
      → (data' : Items) × AreVerdictData scale (before ++ last ∷ []) data' × (codes "," ++ (front ++ end) ≡ items_text true data')
      × (front ++ end ≡ items_text false data')
  verdicts_from [] last front end h (d, (on, is_on, is), e) =
      let all : front ++ end ≡ compact_text d ++ codes "]" = ap (λ w. w ++ end) h ∙ e in
      (item d no_items, (on, no_items, is_on, refl, ap (λ x. item x no_items) is), ap (λ w. codes "," ++ w) all, all)
  verdicts_from (v ∷ before) last front end (here, more, (d, (on, is_on, is), f), others, e) k =
      let (later, are, g, _) = verdicts_from before last more end others k in
      let all : front ++ end ≡ compact_text d ++ items_text true later =
      ap (λ w. w ++ end) (e ∙ ap (λ w. w ++ more) f) ∙ lists (compact_text d) more end ∙ ap (λ w. compact_text d ++ w) g in
      (item d later, (on, later, is_on, are, ap (λ x. item x later) is), ap (λ w. codes "," ++ w) all, all)
    where
      lists : (d m e : List ℕ) → ((d ++ codes ",") ++ m) ++ e ≡ d ++ (codes "," ++ (m ++ e))
      lists d m e = simp append_assoc

  -- verdicts one after another are the items of their list
  pub verdicts_data : (before : List Verdict) (last : Verdict) (text : List ℕ)
      → Then (AreEach (IsEntry true false scale) before) (IsEntry true true scale last) text
      → (data' : Items) × AreVerdictData scale (before ++ last ∷ []) data' × (text ≡ items_text false data')
  verdicts_data before last text (front, end, h, k, e) = let (items, are, _, f) = verdicts_from before last front end h k in (items, are, e ∙ f)

  -- ---- items

  module _ (f : Formula) where
    -- an item after some bytes is the first of its list
    pub item_data : (lead : List ℕ) (e : Item) (lines : List Item) (later : Items) (text : List ℕ) → IsItemEntry lead scale f e text
        → AreItemData scale f lines later → (d : Data) × AreItemData scale f (e ∷ lines) (item d later) × (text ≡ lead ++ compact_text d)
    item_data lead e lines later text (d, (a, at, (name, on, is_name, is_on, is)), g) are =
        (d, (a, at, (name, on, later, is_name, is_on, are, ap (λ x. item x later) is)), g)

    -- those after the first, with the closing bracket
    pub later_data : (lines : List Item) (text : List ℕ) → AreEach (IsItemEntry (codes ",") scale f) lines text
        → (later : Items) × AreItemData scale f lines later × (text ++ codes "]" ≡ items_text true later)
    later_data [] text h = (no_items, refl, ap (λ w. w ++ codes "]") h)
    later_data (e ∷ lines) text (here, more, is_here, others, g) =
        let (later, are, i) = later_data lines more others in
        let (d, are_all, k) = item_data (codes ",") e lines later here is_here are in (
          item d later,
          are_all,
          ap (λ w. w ++ codes "]") (g ∙ ap (λ w. w ++ more) k) ∙ lists (compact_text d) more ∙ ap (λ w. codes "," ++ (compact_text d ++ w)) i,
        )
      where
        lists : (d m : List ℕ) → ((codes "," ++ d) ++ m) ++ codes "]" ≡ codes "," ++ (d ++ (m ++ codes "]"))
        lists d m = simp append_assoc
