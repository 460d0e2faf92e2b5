-- How the text of items grows, line by line, and what it is a first part of where memory is wanting.
use Rattle.std.proofs.Common.{◌≡◌, ℕ, ◌+◌, ◌<◌, ◌≤◌, List, [], ◌∷◌, ◌++◌, length, drop, append-nil, append_assoc, refl, sym, ap, ◌∙◌, subst}
use Rattle.std.proofs.lemmas.List.{drop_all, drop_more}
use Rattle.std.proofs.lemmas.List.Elements.{All-drop}
use Rattle.std.specs.Prelude.{All, slice_get, slice_index_or}
use Rattle.stl_syntax.specs.Formula.{Formula}
use Rattle.stl_syntax.specs.declared.scale.Scale.{Scale}
use Rattle.stl_syntax.specs.declared.items.Item.{Item}
use Rattle.answer_lines.specs.Appended.{Grew, GrewInPart}
use Rattle.report.specs.ItemLines.{IsOfAtom, IsItemLine, AreItemsText, IsFirstLine}
use Rattle.report.specs.Report.{IsItemLines, AreItemLines}
use Rattle.report.proofs.ItemTexts.{items_exist, lines_join, line_of_one}

-- a text that grows by four pieces
pub four_pieces : {t u v w : List ℕ} (old a b c d : List ℕ) → t ≡ old ++ a → u ≡ t ++ b → v ≡ u ++ c → w ≡ v ++ d → w ≡ old ++ (a ++ b ++ c ++ d)
four_pieces old a b c d e f g h = h ∙ ap (λ s. s ++ d) (g ∙ ap (λ s. s ++ c) (f ∙ ap (λ s. s ++ b) e)) ∙ simp append_assoc

-- the lines of the items up to a place are written; the lines of the rest, whatever they are, stand behind them
pub record AreWrittenTo (scale : Scale) (f : Formula) (items : List Item) (old : List ℕ) (i : ℕ) (text : List ℕ) : Type 0 where
  -- so many items were written
  pub within : i ≤ length items
  -- their lines
  pub before : List Item
  -- with what follows they are the lines of all
  pub lines : (others : List Item) → IsItemLines (drop i items) others → IsItemLines items (before ++ others)
  -- the text has grown by them
  pub grew : Grew (AreItemLines scale f before) old text

-- one line more
pub written_more : {scale : Scale} {f : Formula} {items : List Item} {old : List ℕ} {i : ℕ} {text new : List ℕ} (n : ℕ) (line : Item)
    → AreWrittenTo scale f items old i text → n ≤ length items
    → IsFirstLine (drop i items) (drop n items) line → Grew (IsItemLine scale f line) text new → AreWrittenTo scale f items old n new
written_more {scale} {f} {items} {old} n line w within first (here, is, e) = record {
  within = within;
  before = w.before ++ line ∷ [];
  lines = λ others h. subst (IsItemLines items) (sym (append_assoc w.before (line ∷ []) others)) (w.lines (line ∷ others) (first.before others h));
  grew = (
    w.grew.0 ++ here,
    lines_join scale f w.before (line ∷ []) w.grew.0 here w.grew.1 (line_of_one scale f line here is),
    e ∙ ap (λ t. t ++ here) w.grew.2 ∙ append_assoc old w.grew.0 here,
  );
}

-- all of them
pub written_all : (scale : Scale) (f : Formula) (items : List Item) (old : List ℕ) (i : ℕ) (text : List ℕ)
    → AreWrittenTo scale f items old i text → length items ≤ i → Grew (AreItemsText scale f items) old text
written_all scale f items old i text w h = (
  w.grew.0,
  record {
    lines = w.before;
    joined = subst (IsItemLines items) (append-nil w.before) (w.lines [] (none (drop_all i items h)));
    written = w.grew.1;
  },
  w.grew.2,
)
  where
    none : drop i items ≡ [] → IsItemLines (drop i items) []
    none e = subst (λ xs. IsItemLines xs []) (sym e) refl

-- where all items are of atoms, the line that begins with one is
pub atom_of_line : (f : Formula) (items : List Item) (i n : ℕ) (line : Item) → All (IsOfAtom f) items → i < length items
    → IsFirstLine (drop i items) (drop n items) line → IsOfAtom f line
atom_of_line f items i n line all h first =
    let own : IsOfAtom f (slice_index_or items i line) = all i line h in
    let same : line.node ≡ (slice_index_or items i line).node = first.node (slice_index_or items i line) (drop (i + 1) items) (drop_more items i line h) in
    (own.0, ap (λ n. slice_get f.nodes n) same ∙ own.1)

-- a part of one line more, behind which the rest has lines
pub part_more : {scale : Scale} {f : Formula} {items : List Item} {old : List ℕ} {i : ℕ} {text new : List ℕ} (n : ℕ) (line : Item)
    → All (IsOfAtom f) items → AreWrittenTo scale f items old i text
    → IsFirstLine (drop i items) (drop n items) line → GrewInPart (IsItemLine scale f line) text new → GrewInPart (AreItemsText scale f items) old new
part_more {scale} {f} {items} {old} n line all w first (here, rest, is, e) =
    let later = items_exist scale f (drop n items) (All-drop (IsOfAtom f) n items all) in
    let lines : IsItemLines items (w.before ++ (line ∷ later.1.lines)) = w.lines (line ∷ later.1.lines) (first.before later.1.lines later.1.joined) in
    let written : AreItemLines scale f (w.before ++ (line ∷ later.1.lines)) (w.grew.0 ++ ((here ++ rest) ++ later.0)) =
    lines_join scale f w.before (line ∷ later.1.lines) w.grew.0 ((here ++ rest) ++ later.0) w.grew.1
    (lines_join scale f (line ∷ []) later.1.lines (here ++ rest) later.0 (line_of_one scale f line (here ++ rest) is) later.1.written) in (
      w.grew.0 ++ here,
      rest ++ later.0,
      subst (AreItemsText scale f items) (together w.grew.0 here rest later.0)
          (record { lines = w.before ++ (line ∷ later.1.lines); joined = lines; written = written }),
      e ∙ ap (λ t. t ++ here) w.grew.2 ∙ append_assoc old w.grew.0 here,
    )
  where
    together : (a b c d : List ℕ) → a ++ ((b ++ c) ++ d) ≡ (a ++ b) ++ (c ++ d)
    together a b c d = simp append_assoc
