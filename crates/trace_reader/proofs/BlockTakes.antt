-- Rows of plain numbers that stand one after another are rows that the reader takes.
use Rattle.std.proofs.Common.{◌≡◌, ℕ, ◌+◌, ◌<◌, ◌≤◌, List, [], ◌∷◌, ◌++◌, length, take, drop, length-append, take-add, refl, sym, ap, ◌∙◌, subst, arith}
use Rattle.std.proofs.Common.{append_assoc, append-nil, Option, Some, Ok}
use Rattle.std.specs.Prelude.{option_map}
use Rattle.std.proofs.lemmas.List.{same_from_push, nil_from_length}
use Rattle.stl_syntax.specs.Trace.{Row, Header, Trace, last_time}
use Rattle.stl_syntax.specs.declared.scale.Scale.{Scale}
use Rattle.trace_reader.specs.TraceText.{Heading, content, scale_of}
use Rattle.trace_reader.specs.LineParts.{whole_line, fields_of}
use Rattle.trace_reader.specs.Headings.{Scaled}
use Rattle.trace_reader.specs.RowLines.{IsRowRead}
use Rattle.trace_reader.specs.Plain.{IsPlainRow, IsRowTaken}
use Rattle.trace_reader.specs.Blocks.{ArePlainRows, AreRowsAdded, none, more}
use Rattle.trace_reader.specs.Cut.{Cut}
use Rattle.trace_reader.specs.Progress.{Progress}
use Rattle.trace_reader.specs.Reader.{Reader, StandsFor, header_of}
use Rattle.trace_reader.specs.Taken.{HasTraceSoFar, AreRowsTaken}
use Rattle.trace_reader.specs.LineReader.{state, IsWithin}
use Rattle.trace_reader.specs.declared.refusal.Limits.{Limits}
use Rattle.trace_reader.specs.declared.event.Event.TheVariants.{Row as IsARow}
use Rattle.trace_reader.specs.declared.line_reader.LineReader.{LineReader}
use Rattle.trace_reader.proofs.ReadLemmas.{row_taken, row_line_read, fields_are}
use Rattle.trace_reader.proofs.TraceLemmas.{last_row, last_behind}
use Rattle.trace_reader.proofs.RowTakes.{row_stands, row_within}

-- rows behind rows
rows_behind : {h : Scaled} {from mid next : ℕ} {front back : List ℕ} {rows more_rows : List Row} → ArePlainRows h from front rows mid
    → ArePlainRows h mid back more_rows next → ArePlainRows h from (front ++ back) (rows ++ more_rows) next
rows_behind {front = front} {rows = rows} p none = rw (append-nil front, append-nil rows) p
rows_behind {h = h} {from = from} {front = front} {rows = rows} p (more {bytes = bytes} {rows = before} piece n r q read up) =
    subst (λ b. ArePlainRows h from b (rows ++ (before ++ r ∷ [])) (r.time + 1)) (append_assoc front bytes (take n piece))
    (subst (λ rs. ArePlainRows h from ((front ++ bytes) ++ take n piece) rs (r.time + 1)) (append_assoc rows before (r ∷ []))
    (more piece n r (rows_behind p q) read up))

-- a block behind a block
pub blocks_joined : (h : Scaled) (from mid next : ℕ) (t u v : Trace) (m n : ℕ) (piece : List ℕ) (a b : ℕ)
    → AreRowsAdded h from mid t u m (take a piece) → AreRowsAdded h mid next u v n (take b (drop a piece)) → AreRowsAdded h from next t v (m + n) (take (a + b) piece)
blocks_joined h from mid next t u v m n piece a b p q = record {
  rows = p.rows ++ q.rows;
  count = omega (arith, p.count, q.count, length-append p.rows q.rows);
  added = q.added ∙ (ap (λ (x : Trace). record x { rows = x.rows ++ q.rows }) p.added
      ∙ ap (λ rs. record t { rows = rs }) (append_assoc t.rows p.rows q.rows));
  read = subst (λ bytes. ArePlainRows h from bytes (p.rows ++ q.rows) next) (sym (take-add a b piece)) (rows_behind p.read q.read);
}

abbrev pub cut : ℕ → List ℕ → Cut
cut n line = record { begun = n; line = line }

abbrev pub counted : Progress → Row → ℕ → Progress
counted p r n = record p { row = r; count = n }

abbrev pub with_parts : Cut → Progress → LineReader
with_parts l p = record { lines = l; content = p }

-- the reader after these rows, which these bytes are
pub record IsAfter (limits : Limits) (p : LineReader) (bytes : List ℕ) (rows : List Row) (next : ℕ) : Type 0 where
  pub now : LineReader
  pub lines : now.lines ≡ cut (p.lines.begun + length rows) []
  pub content : now.content ≡ counted p.content now.content.row (p.content.count + length rows)
  pub last : (before : List Row) (x : Row) → rows ≡ before ++ x ∷ [] → now.content.row ≡ x
  pub within : IsWithin limits now
  pub later : 0 < now.content.count → now.content.row.time < next
  pub stands : (b : List ℕ) (rs : List Row) → StandsFor (state limits p) b rs → StandsFor (state limits now) (b ++ bytes) (rs ++ rows)

module _ (limits : Limits) (p : LineReader) (h : Scaled) (w : IsWithin limits p) (between : p.lines.line ≡ [])
    (is : p.content.heading ≡ Some h.heading) (ticks : h.scale ≡ scale_of p.content.least h.heading) (from : ℕ)
    (later : 0 < p.content.count → p.content.row.time < from) where
  none_after : IsAfter limits p [] [] from
  none_after =
      let begun : p.lines.begun ≡ p.lines.begun + 0 = omega arith in
      let count : p.content.count ≡ p.content.count + 0 = omega arith in
      record {
        now = p;
        lines = ap (cut p.lines.begun) between ∙ ap (λ n. cut n []) begun;
        content = ap (counted p.content p.content.row) count;
        last = λ before x e. absurd (omega (arith, ap length e, length-append before (x ∷ [])));
        within = w;
        later = later;
        stands = λ b rs s. rw (append-nil b, append-nil rs) s;
      }

  -- a row more
  row_after : (bytes : List ℕ) (rows : List Row) (next : ℕ) (piece : List ℕ) (n : ℕ) (r : Row) → IsAfter limits p bytes rows next → IsPlainRow h piece n r
      → next ≤ r.time → p.lines.begun + length rows < limits.lines → p.content.count + length rows < limits.rows
      → IsAfter limits p (bytes ++ take n piece) (rows ++ r ∷ []) (r.time + 1)
  row_after bytes rows next piece n r a read up lines count =
      let old = a.now in
      let new : LineReader = record { lines = cut (old.lines.begun + 1) []; content = counted old.content r (old.content.count + 1) } in
      let begun : old.lines.begun ≡ p.lines.begun + length rows = ap (λ (x : Cut). x.begun) a.lines in
      let rest : old.lines.line ≡ [] = ap (λ (x : Cut). x.line) a.lines in
      let so_many : old.content.count ≡ p.content.count + length rows = ap (λ (x : Progress). x.count) a.content in
      let heading : old.content.heading ≡ Some h.heading = ap (λ (x : Progress). x.heading) a.content ∙ is in
      let least : old.content.least ≡ p.content.least = ap (λ (x : Progress). x.least) a.content in
      let scale : h.scale ≡ scale_of old.content.least h.heading = ticks ∙ ap (λ (s : Scale). scale_of s h.heading) (sym least) in
      let text = content (whole_line read.line) in
      let fields : IsRowRead h (fields_of (Some text)) r = subst (λ fs. IsRowRead h fs r) (fields_are read.line) read.read in
      let room : old.content.count < limits.rows = omega (arith, so_many, count) in
      let rises : 0 < old.content.count → old.content.row.time < r.time = λ some. omega (arith, a.later some, up) in
      let taken : IsRowTaken limits piece n old.content new.content = record {
        line = read.line;
        whole = read.whole;
        read = row_line_read limits read.line text old.content new.content (Ok IsARow) refl read.solid
            (row_taken limits text old.content new.content h heading scale room fields rises refl);
      } in
      let few : new.lines.begun ≤ limits.lines = omega (arith, begun, lines) in
      let size : length (rows ++ r ∷ []) ≡ length rows + 1 = length-append rows (r ∷ []) in
      let more_begun : old.lines.begun + 1 ≡ p.lines.begun + length (rows ++ r ∷ []) = omega (arith, begun, size) in
      let more_counted : p.content.count + length rows + 1 ≡ p.content.count + length (rows ++ r ∷ []) = omega (arith, size) in
      record {
        now = new;
        lines = ap (λ k. cut k []) more_begun;
        content = ap (λ (x : Progress). counted x r (x.count + 1)) a.content ∙ ap (counted p.content r) more_counted;
        last = λ before x e. (same_from_push rows before r x e).1;
        within = row_within limits old new piece n a.within taken rest refl few;
        later = λ some. omega arith;
        stands = λ b rs s. subst (λ t. StandsFor (state limits new) t (rs ++ (rows ++ r ∷ []))) (append_assoc b bytes (take n piece))
            (subst (λ t. StandsFor (state limits new) ((b ++ bytes) ++ take n piece) t) (append_assoc rs rows (r ∷ []))
            (row_stands limits old new piece n a.within taken rest refl few (b ++ bytes) (rs ++ rows) (a.stands b rs s)));
      }

  -- all of them
  pub block_after : {bytes : List ℕ} {rows : List Row} {next : ℕ} → ArePlainRows h from bytes rows next → p.lines.begun + length rows ≤ limits.lines
      → p.content.count + length rows ≤ limits.rows → IsAfter limits p bytes rows next
  block_after none lines count = none_after
  block_after (more {bytes = bytes} {rows = rows} {next = next} piece n r before read up) lines count =
      let size : length (rows ++ r ∷ []) ≡ length rows + 1 = length-append rows (r ∷ []) in
      row_after bytes rows next piece n r (block_after before (omega (arith, size, lines)) (omega (arith, size, count))) read up
      (omega (arith, size, lines)) (omega (arith, size, count))

-- no row was added
pub none_taken : (r : Reader) (t u : Trace) (rows : List Row) → length rows ≡ 0 → u ≡ record t { rows = t.rows ++ rows } → AreRowsTaken r r t u []
none_taken r t u rows zero e = record {
  more = rows;
  added = e;
  stands = λ b rs s. rw (append-nil b, nil_from_length rows zero, append-nil rs) s;
}

-- the trace of the rows so far, or of the last of them, ends with the last row
pub so_far_later : (r : Reader) (t : Trace) (from : ℕ) → HasTraceSoFar r t → (0 < r.count → r.row.time < from) → 0 < length t.rows → last_time 0 t.rows < from
so_far_later r t from so later some =
    let (before, x, e) = last_row t.rows some in
    let all : so.earlier ++ t.rows ≡ (so.earlier ++ before) ++ x ∷ [] =
    ap (λ rs. so.earlier ++ rs) e ∙ sym (append_assoc so.earlier before (x ∷ [])) in
    let last : r.row ≡ x = so.stands.taken.last (so.earlier ++ before) x all in
    let time : last_time 0 t.rows ≡ x.time = ap (last_time 0) e ∙ last_behind before (x ∷ []) 0 0 (omega arith) in
    let count : 0 < r.count = omega (arith, so.stands.taken.count, length-append so.earlier t.rows, some) in
    omega (arith, time, ap (λ (y : Row). y.time) last, later count)

-- it has the columns of the heading
pub so_far_columns : (o : Option Heading) (least : Scale) (h : Heading) (header : Header) → option_map (header_of least) o ≡ Some header → o ≡ Some h
    → length header.columns ≡ length h.columns
so_far_columns o least h header e is =
    let same : Some (header_of least h) ≡ Some header = subst (λ x. option_map (header_of least) x ≡ Some header) is e in
    let is_it : header_of least h ≡ header = cc in
    sym (ap (λ (x : Header). length x.columns) is_it)

-- the reader with the rows that were added, the last of which the trace has
module _ (limits : Limits) (p q : LineReader) (h : Scaled) (from next : ℕ) (t u : Trace) (n : ℕ) (bytes : List ℕ)
    (added : AreRowsAdded h from next t u n bytes) (a : IsAfter limits p bytes added.rows next) (some : 0 < n)
    (lines : q.lines ≡ record p.lines { begun = p.lines.begun + n }) (between : p.lines.line ≡ [])
    (content : (before : List Row) (x : Row) → u.rows ≡ before ++ x ∷ [] → q.content ≡ counted p.content x (p.content.count + n)) where
  -- is the one after them
  same_reader : q ≡ a.now
  same_reader =
      let (before, x, e) = last_row added.rows (omega (arith, some, added.count)) in
      let all : u.rows ≡ (t.rows ++ before) ++ x ∷ [] =
      ap (λ (v : Trace). v.rows) added.added ∙ (ap (λ rs. t.rows ++ rs) e ∙ sym (append_assoc t.rows before (x ∷ []))) in
      let is : q.content ≡ counted p.content x (p.content.count + length added.rows) =
      content (t.rows ++ before) x all ∙ ap (λ k. counted p.content x (p.content.count + k)) added.count in
      let same : a.now.content ≡ counted p.content x (p.content.count + length added.rows) =
      a.content ∙ ap (λ r. counted p.content r (p.content.count + length added.rows)) (a.last before x e) in
      let begun : q.lines ≡ cut (p.lines.begun + length added.rows) [] =
      lines ∙ (ap (cut (p.lines.begun + n)) between ∙ ap (λ k. cut (p.lines.begun + k) []) added.count) in
      made_of (begun ∙ sym a.lines) (is ∙ sym same)
    where
      made_of : q.lines ≡ a.now.lines → q.content ≡ a.now.content → q ≡ a.now
      made_of e f = ap (λ (l : Cut). with_parts l q.content) e ∙ ap (with_parts a.now.lines) f

  -- so it has taken them
  pub block_taken : AreRowsTaken (state limits p) (state limits q) t u bytes
  block_taken = record {
    more = added.rows;
    added = added.added;
    stands = λ b rs s. subst (λ r. StandsFor (state limits r) (b ++ bytes) (rs ++ added.rows)) (sym same_reader) (a.stands b rs s);
  }

  -- within the limits
  pub block_within : IsWithin limits q
  block_within = subst (IsWithin limits) (sym same_reader) a.within

  -- with the heading and the ticks that it had
  pub block_kept : (q.content.heading ≡ p.content.heading) × (q.content.least ≡ p.content.least)
  block_kept =
      let same : q.content ≡ a.now.content = ap (λ (r : LineReader). r.content) same_reader in (
        ap (λ (x : Progress). x.heading) (same ∙ a.content),
        ap (λ (x : Progress). x.least) (same ∙ a.content),
      )
