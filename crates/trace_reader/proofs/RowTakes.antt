-- A row of plain numbers that a piece begins with.
use Rattle.std.proofs.Common.{◌≡◌, ℕ, ◌+◌, ◌≤◌, Bool, List, [], ◌∷◌, ◌++◌, length, take, drop}
use Rattle.std.proofs.Common.{sym, ap, ◌∙◌, subst, arith, append_assoc, add-one, Option, None, Ok}
use Rattle.std.specs.Prelude.{IsSome}
use Rattle.std.proofs.lemmas.Bool.{false≢true}
use Rattle.std.proofs.lemmas.List.{take-append-drop}
use Rattle.stl_syntax.specs.Trace.{Row, Trace}
use Rattle.trace_reader.specs.Feeds.{through_feed}
use Rattle.trace_reader.specs.Plain.{IsWholeLine, IsRowTaken}
use Rattle.trace_reader.specs.Cut.{Cut, begun_after}
use Rattle.trace_reader.specs.Progress.{ReadsLine}
use Rattle.trace_reader.specs.Reader.{Reader, StandsFor}
use Rattle.trace_reader.specs.Taken.{AreRowsTaken}
use Rattle.trace_reader.specs.LineReader.{state, IsWithin}
use Rattle.trace_reader.specs.declared.refusal.Limits.{Limits}
use Rattle.trace_reader.specs.declared.refusal.TraceRefusal.{TraceRefusal}
use Rattle.trace_reader.specs.declared.event.Event.TheVariants.{Row as IsARow}
use Rattle.trace_reader.specs.declared.line_reader.LineReader.{LineReader}
use Rattle.trace_reader.proofs.FeedLemmas.{through-at}
use Rattle.trace_reader.proofs.ReaderTakes.{finish_stands, read_come, going_on}

-- the line is what stands before the first LF
pub line_through : (piece line : List ℕ) (n : ℕ) → IsWholeLine piece line n → through_feed piece ≡ line ++ 10 ∷ []
line_through piece line n w =
    ap through_feed (sym (take-append-drop n piece) ∙ (ap (λ t. t ++ drop n piece) w.taken ∙ append_assoc line (10 ∷ []) (drop n piece)))
    ∙ through-at line (drop n piece) w.free

begun_one : (b n : ℕ) (line : List ℕ) → line ≡ [] → b + 1 ≡ begun_after b line (n + 1)
begun_one b n line e = subst (λ l. b + 1 ≡ begun_after b l (n + 1)) (sym e) (add-one b ∙ ap (begun_after b []) (sym (add-one n)))

-- a row that the piece begins with
module _ (limits : Limits) (old new : LineReader) (piece : List ℕ) (n : ℕ) (w : IsWithin limits old)
    (r : IsRowTaken limits piece n old.content new.content) (between : old.lines.line ≡ [])
    (lines : new.lines ≡ record { begun = old.lines.begun + 1; line = [] }) (few : new.lines.begun ≤ limits.lines) where
  -- it is one of the rows that the reader stands for
  pub row_stands : (bytes : List ℕ) (rows : List Row) → StandsFor (state limits old) bytes rows
      → StandsFor (state limits new) (bytes ++ take n piece) (rows ++ new.content.row ∷ [])
  row_stands bytes rows s =
      let begun : new.lines.begun ≡ begun_after old.lines.begun old.lines.line (length r.line + 1) =
      ap (λ (x : Cut). x.begun) lines ∙ begun_one old.lines.begun (length r.line) old.lines.line between in
      let read = subst (λ t. ReadsLine limits t old.content new.content (Ok IsARow)) (ap (λ t. t ++ r.line) (sym between)) r.read in
      subst (λ t. StandsFor (state limits new) (bytes ++ t) (rows ++ new.content.row ∷ [])) (sym r.whole.taken)
      (finish_stands limits old new w r.line r.whole.free begun IsARow (record { count = few; short = omega (arith, ap length between, r.whole.short) })
      (ap (λ (x : Cut). x.line) lines) read bytes rows s)

  -- a heading was read before it
  row_some : IsSome new.content.heading
  row_some = let came = read_come {limits = limits} old new r.line r.read in subst IsSome (sym came.1) came.0

  -- the limits hold after it
  pub row_within : IsWithin limits new
  row_within = record {
    rows = w.rows;
    lines = w.lines;
    begun = few;
    line = let e : length new.lines.line ≡ 0 = ap (λ (x : Cut). length x.line) lines in omega (arith, e);
    fresh = λ none. absurd (false≢true (subst IsSome none row_some));
  }

-- a reader with this refusal and this end, where it goes on
abbrev pub told : Limits → LineReader → Option TraceRefusal → Bool → Reader
told limits p x e = record (state limits p) { refusal = x; ended = e }

-- what is so of readers by their parts
module _ (limits : Limits) (p q : LineReader) (x : Option TraceRefusal) (e : Bool) where
  stand : (bytes more : List ℕ) (rows later : List Row) → (StandsFor (state limits p) bytes rows → StandsFor (state limits q) more later)
      → StandsFor (told limits p x e) bytes rows → StandsFor (told limits q x e) more later
  stand bytes more rows later f s =
      subst (λ y. StandsFor (told limits q y e) more later) (sym s.open_end.0)
      (subst (λ y. StandsFor (told limits q None y) more later) (sym s.open_end.1) (f (going_on (told limits p x e) bytes rows s)))

  -- is so of the readers
  pub rows_told : (t u : Trace) (taken : List ℕ) → AreRowsTaken (state limits p) (state limits q) t u taken
      → AreRowsTaken (told limits p x e) (told limits q x e) t u taken
  rows_told t u taken m = record {
    more = m.more;
    added = m.added;
    stands = λ bytes rows s. stand bytes (bytes ++ taken) rows (rows ++ m.more) (m.stands bytes rows) s;
  }
