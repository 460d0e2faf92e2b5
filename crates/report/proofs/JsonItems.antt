-- The items of a report one by one, and what they are a first part of where memory is wanting.
use Rattle.std.proofs.Common.{◌≡◌, ℕ, ◌≤◌, List, [], ◌∷◌, ◌++◌, length, drop, append-nil, append_assoc, refl, sym, ap, ◌∙◌, subst, arith, codes}
use Rattle.std.proofs.lemmas.List.{drop_all}
use Rattle.std.proofs.lemmas.List.Elements.{All-drop}
use Rattle.std.specs.Prelude.{All}
use Rattle.stl_syntax.specs.Formula.{Formula}
use Rattle.stl_syntax.specs.declared.scale.Scale.{Scale}
use Rattle.stl_syntax.specs.declared.items.Item.{Item}
use Rattle.serde_json.specs.Data.{no_items, item}
use Rattle.serde_json.specs.Written.{compact_text}
use Rattle.answer_lines.specs.Appended.{Grew, GrewInPart, AreEach, Then, Is}
use Rattle.report.specs.ItemLines.{IsOfAtom, IsFirstLine}
use Rattle.report.specs.JsonTexts.{IsItemEntry, AreLaterEntries, AreItemEntries}
use Rattle.report.specs.Report.{IsItemLines, AreItemLines}
use Rattle.answer_lines.proofs.Growths as growth
use Rattle.report.proofs.ItemTexts.{items_exist}
use Rattle.report.proofs.JsonData.{item_data, later_data}
use Rattle.report.proofs.JsonParts.{item_entry_exists}
use Rattle.answer_lines.proofs.Sequences.{each_join, each_one, each_grow}

-- ---- a list of items

module _ (scale : Scale) (f : Formula) where
  abbrev Later : Item → List ℕ → Type 0
  Later = IsItemEntry (codes ",") scale f

  -- items that have lines have texts
  entries_of_lines : (lines : List Item) (text : List ℕ) → AreItemLines scale f lines text → growth.Some (AreEach Later lines)
  entries_of_lines [] text h = ([], refl)
  entries_of_lines (e ∷ lines) text (a, at, p) =
      let here = item_entry_exists scale (codes ",") f e (a, at) in
      let more = entries_of_lines lines p.2 p.5 in
      (here.0 ++ more.0, (here.0, more.0, here.1, more.1, refl))

  -- the items from any place on have texts
  pub later_exist : (items : List Item) (n : ℕ) → All (IsOfAtom f) items → growth.Some (AreLaterEntries scale f (drop n items))
  later_exist items n all =
      let lines = items_exist scale f (drop n items) (All-drop (IsOfAtom f) n items all) in
      let text = entries_of_lines lines.1.lines lines.0 lines.1.written in
      (text.0, record { lines = lines.1.lines; joined = lines.1.joined; written = text.1 })

  -- the lines of the items up to a place are written; those of the rest, whatever they are, stand behind them
  pub record AreEntriesTo (items : List Item) (from : ℕ) (old : List ℕ) (i : ℕ) (text : List ℕ) : Type 0 where
    -- so many items were written
    pub within : i ≤ length items
    -- their lines
    pub before : List Item
    -- with what follows they are the lines of all
    pub lines : (others : List Item) → IsItemLines (drop i items) others → IsItemLines (drop from items) (before ++ others)
    -- the text has grown by an entry for each
    pub grew : Grew (AreEach Later before) old text

  -- at first no entry was written
  pub entries_none : (items : List Item) (from : ℕ) (old : List ℕ) → from ≤ length items → AreEntriesTo items from old from old
  entries_none items from old h = record { within = h; before = []; lines = λ others l. l; grew = ([], refl, sym (append-nil old)) }

  -- a line more is an entry more
  pub entries_more : (items : List Item) (from : ℕ) (old : List ℕ) (i n : ℕ) (text new : List ℕ) (line : Item) → AreEntriesTo items from old i text
      → n ≤ length items
      → IsFirstLine (drop i items) (drop n items) line → Grew (Later line) text new → AreEntriesTo items from old n new
  entries_more items from old i n text new line w within first (here, is, e) = record {
    within = within;
    before = w.before ++ line ∷ [];
    lines = λ others h. subst (IsItemLines (drop from items)) (sym (append_assoc w.before (line ∷ []) others))
        (w.lines (line ∷ others) (first.before others h));
    grew = each_grow Later w.before (line ∷ []) old text new w.grew (here, each_one Later line here is, e);
  }

  -- at the end the entries of all are written
  pub entries_all : (items : List Item) (from : ℕ) (old : List ℕ) (i : ℕ) (text : List ℕ) → AreEntriesTo items from old i text → length items ≤ i
      → Grew (AreLaterEntries scale f (drop from items)) old text
  entries_all items from old i text w h =
      let none : IsItemLines (drop i items) [] = subst (λ xs. IsItemLines xs []) (sym (drop_all i items h)) refl in (
        w.grew.0,
        record {
          lines = w.before;
          joined = subst (IsItemLines (drop from items)) (append-nil w.before)
              (w.lines [] none);
          written = w.grew.1;
        },
        w.grew.2,
      )

  -- a cut in one entry is a cut in all
  pub entries_part : (items : List Item) (from : ℕ) (old : List ℕ) (i n : ℕ) (text new : List ℕ) (line : Item) → All (IsOfAtom f) items
      → AreEntriesTo items from old i text
      → IsFirstLine (drop i items) (drop n items) line → GrewInPart (Later line) text new → GrewInPart (AreLaterEntries scale f (drop from items)) old new
  entries_part items from old i n text new line all w first (a, b, is, e) =
      let (more, later) = later_exist items n all in
      let lines = w.lines (line ∷ later.lines) (first.before later.lines later.joined) in
      let written : AreEach Later (w.before ++ (line ∷ later.lines)) (w.grew.0 ++ ((a ++ b) ++ more)) =
      each_join Later w.before (line ∷ later.lines) w.grew.0 ((a ++ b) ++ more) w.grew.1 (a ++ b, more, is, later.written, refl) in (
        w.grew.0 ++ a,
        b ++ more,
        record {
          lines = w.before ++ (line ∷ later.lines);
          joined = lines;
          written = subst (AreEach Later (w.before ++ (line ∷ later.lines)))
              (together w.grew.0 a b more) written;
        },
        e ∙ ap (λ t. t ++ a) w.grew.2 ∙ append_assoc old w.grew.0 a,
      )
    where
      together : (t a b m : List ℕ) → t ++ ((a ++ b) ++ m) ≡ (t ++ a) ++ (b ++ m)
      together t a b m = simp append_assoc

  -- no items
  pub no_entries : (items : List Item) → length items ≡ 0 → AreItemEntries scale f items (codes "]")
  no_entries [] h = record { lines = []; joined = refl; array = no_items; entries = refl; is = refl }
  no_entries (e ∷ items) h = absurd (omega (arith, h))

  -- the first item, those after it, and the closing bracket
  abbrev pub ListParts : Item → List Item → List ℕ → Type 0
  ListParts line rest = Then (IsItemEntry [] scale f line) (Then (AreLaterEntries scale f rest) (Is (codes "]")))

  -- the first entry and the later ones make the list
  pub list_entries : (items : List Item) (n : ℕ) (line : Item) (text : List ℕ) → IsFirstLine items (drop n items) line → ListParts line (drop n items) text
      → AreItemEntries scale f items text
  list_entries items n line text first (head, tail, is_head, (later, end, is_later, is_end, e), g) =
      let (others, are, h) = later_data scale f is_later.lines later is_later.written in
      let (d, are_all, k) = item_data scale f [] line is_later.lines others head is_head are in
      record {
        lines = line ∷ is_later.lines;
        joined = first.before is_later.lines is_later.joined;
        array = item d others;
        entries = are_all;
        is = g ∙ ap (λ w. w ++ tail) k ∙ ap (λ w. compact_text d ++ w) (e ∙ ap (λ w. later ++ w) is_end ∙ h);
      }

  -- items of atoms have a list
  pub list_exists : (items : List Item) → All (IsOfAtom f) items → growth.Some (AreItemEntries scale f items)
  list_exists [] all = (codes "]", no_entries [] refl)
  list_exists (e ∷ items) all =
      let lines = items_exist scale f (e ∷ items) all in
      by_lines lines.1.lines lines.1.joined lines.0 lines.1.written
    where
      by_lines : (ls : List Item) → IsItemLines (e ∷ items) ls → (text : List ℕ) → AreItemLines scale f ls text
          → growth.Some (AreItemEntries scale f (e ∷ items))
      by_lines [] j text w = (codes "]", record { lines = []; joined = j; array = no_items; entries = refl; is = refl })
      by_lines (l ∷ ls) j text (a, at, p) =
          let here = item_entry_exists scale [] f l (a, at) in
          let more = entries_of_lines ls p.2 p.5 in
          let (others, are, h) = later_data scale f ls more.0 more.1 in
          let (d, are_all, k) = item_data scale f [] l ls others here.0 here.1 are in
          (_, record { lines = l ∷ ls; joined = j; array = item d others; entries = are_all; is = refl })
