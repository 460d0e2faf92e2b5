-- What a session writes for first bytes whose last line has ended, where it writes a text for more bytes.
use Rattle.std.proofs.Common.{◌≡◌, ◌⊎◌, inl, inr, ℕ, zero, suc, ◌+◌, ◌-◌, ◌<◌, ◌≤◌, Bool, false}
use Rattle.std.proofs.Common.{List, [], ◌∷◌, ◌++◌, length, take, refl, sym, ap, ◌∙◌, subst, arith, append-nil, append_assoc, Option, Some, None, ℤ}
use Rattle.std.specs.Prelude.{All}
use Rattle.std.proofs.lemmas.Bool.{false≢true, cases_lt}
use Rattle.std.proofs.lemmas.List.{take-append-le}
use Rattle.std.proofs.lemmas.List.Elements.{All-head, All-tail}
use Rattle.stl_syntax.specs.Formula.{Formula, Subformula, root}
use Rattle.stl_syntax.specs.Scaling.{scaled}
use Rattle.stl_syntax.specs.Stream.{NewText, IsNewText, IsRowsText}
use Rattle.stl_syntax.specs.Trace.{Header, Row}
use Rattle.stl_syntax.specs.declared.scale.Scale.{Scale}
use Rattle.trace_reader.specs.TraceText.{Line, lines, Heading, AreRowLines, none as no_lines, blank, row, AreTraceLines, heading, scale_of}
use Rattle.trace_reader.specs.InputFaults.{Fault, line_of, stream_limits, IsHeaderAt, here as at_first, later as at_later}
use Rattle.trace_reader.specs.InputFaults.{IsInputFault, AreRowsBefore, sound, no_header_yet, faulted, faulted_header}
use Rattle.trace_reader.proofs.LineLemmas.{IsDone}
use Rattle.trace_reader.proofs.OpenLines.{Parts}
use Rattle.answer_lines.proofs.StreamTexts.{IsLonger}
use Rattle.trace_stream.specs.Streams.{verdicts}
use Rattle.trace_stream.proofs.HeaderLines.{header_stays}
use Rattle.trace_stream.proofs.OneFault.{one_fault}
use Rattle.trace_stream.proofs.OwedRows.{stream_owed_grows}
use Rattle.trace_stream.proofs.RowsBefore.{RowLine, goes_on, is_blank, is_row, row_line, TraceLine, is_heading, trace_line, fault_stays}
use Rattle.session_mux.specs.Sessions.{IsRowsStream, IsFaultLine, Alone}
use Rattle.session_mux.proofs.FrontFaults.{lines_first, lines_all, fault_in_front, fault_early}
use Rattle.session_mux.proofs.OneText.{stream_of, text_alone_once}
use Rattle.session_mux.proofs.TextLemmas.{alone_stays}

-- a take that goes past the first of two lists
pub take_beyond : {X : Type 0} (xs ys : List X) (n m : ℕ) → n ≡ length xs + m → take n (xs ++ ys) ≡ xs ++ take m ys
take_beyond [] ys n m e = let same : n ≡ m = omega (arith, e) in ap (λ k. take k ys) same
take_beyond (x ∷ xs) ys zero m e = absurd (omega (arith, e))
take_beyond (x ∷ xs) ys (suc n) m e = ap (λ l. x ∷ l) (take_beyond xs ys n m (omega (arith, e)))

-- rows have a text where they and more rows have one
rows_text_front : (New : NewText) (p : Subformula) (header : Header) (before : List Row) (old : Option ℤ) (rows beyond : List Row)
    (text : List ℕ) → IsRowsText New p header before old (rows ++ beyond) text
    → (short : List ℕ) × IsRowsText New p header before old rows short
rows_text_front New p header before old [] beyond text t = ([], refl)
rows_text_front New p header before old (r ∷ rows) beyond text (here, later, new, more, is) =
    let (short, k) = rows_text_front New p header (before ++ r ∷ []) _ rows beyond later more in (here ++ short, (here, short, new, k, refl))

-- ---- the rows of first lines

-- the rows of lines begin with those of the first
rows_split : (s : Scale) (h : Heading) (front tail : List Line) (rows : List Row) → All IsDone front → AreRowLines s h (front ++ tail) rows
    → (a b : List Row) × AreRowLines s h front a × (rows ≡ a ++ b)
rows_split s h [] tail rows whole are = ([], rows, no_lines, refl)
rows_split s h (l ∷ front) tail rows whole are =
    by_line (row_line are l (front ++ tail) refl) (λ some. rows_split s h front tail some (All-tail IsDone l front whole))
  where
    by_line : RowLine s h l (front ++ tail) rows
        → ((some : List Row) → AreRowLines s h (front ++ tail) some → (a b : List Row) × AreRowLines s h front a × (some ≡ a ++ b))
        → (a b : List Row) × AreRowLines s h (l ∷ front) a × (rows ≡ a ++ b)
    by_line (goes_on w e) on = absurd (false≢true (sym w ∙ All-head IsDone l front whole))
    by_line (is_blank w b m) on = let (x, y, p, e) = on rows m in (x, y, blank w b p, e)
    by_line (is_row w b r others is m e) on = let (x, y, p, k) = on others m in (r ∷ x, y, row w b is p, e ∙ ap (λ z. r ∷ z) k)

-- first lines have the header, or not
data TraceSplit (least : Scale) (front : List Line) (header : Header) (rows : List Row) : Type 0 where
  headed : (a b : List Row) → AreTraceLines least front header a → rows ≡ a ++ b → TraceSplit least front header rows
  headless : ((n : ℕ) (h : Heading) → ¬ IsHeaderAt front n h) → TraceSplit least front header rows

trace_split : (least : Scale) (front tail : List Line) (header : Header) (rows : List Row) → All IsDone front
    → AreTraceLines least (front ++ tail) header rows → TraceSplit least front header rows
trace_split least [] tail header rows whole are = headless (λ n h at. elim at [ ])
trace_split least (l ∷ front) tail header rows whole are =
    by_line (trace_line are l (front ++ tail) refl) (trace_split least front tail header rows (All-tail IsDone l front whole))
  where
    by_line : TraceLine least l (front ++ tail) header rows
        → (AreTraceLines least (front ++ tail) header rows → TraceSplit least front header rows) → TraceSplit least (l ∷ front) header rows
    by_line (is_blank w b m) on = elim (on m) [
      | headed x y p e ↦ headed x y (blank w b p) e
      | headless none ↦ headless (λ n h at. no_header_after none n h at)
    ]
      where
        no_header_after : ((n : ℕ) (h : Heading) → ¬ IsHeaderAt front n h) → (n : ℕ) (h : Heading) → ¬ IsHeaderAt (l ∷ front) n h
        no_header_after none n h (at_first w' b' is) = false≢true (sym b' ∙ b)
        no_header_after none n h (at_later {n = m} w' b' at) = none m h at
    by_line (is_heading h w b is m e) on =
        let (x, y, p, k) = rows_split (scale_of least h) h front tail rows (All-tail IsDone l front whole) m in
        headed x y (subst (λ (z : Header). AreTraceLines least (l ∷ front) z x) (sym e) (heading h w b is p)) k

-- ---- what is written for first bytes

module _ (f : Formula) (a b : List ℕ) (p : Parts a []) where
  abbrev Faulted : List ℕ → Fault → Type 0
  Faulted bytes x = IsInputFault stream_limits f bytes false x

  -- no fault yet, and one of all bytes stands behind the first lines
  record IsCalm : Type 0 where
    -- the bytes of the front have no fault
    pub calm : (x : Fault) → ¬ Faulted a x
    -- a fault of all the bytes stands in a line behind those of the front
    pub behind : (x : Fault) → Faulted (a ++ b) x → length p.front < line_of x

  -- the first bytes have a fault, or none
  by_fault : (line : List ℕ) → IsFaultLine f (a ++ b) false line → ((x : Fault) × Faulted a x) ⊎ IsCalm
  by_fault line (inl (none, k)) = inr (record { calm = λ x g. none x (fault_stays stream_limits f a b false x g); behind = λ x g. absurd (none x g) })
  by_fault line (inr (x, is, k)) = elim (cases_lt (length p.front) (line_of x)) [
    | inl less ↦ inr (record {
      calm = λ y g. omega (
        arith,
        less,
        ap line_of (one_fault stream_limits f (a ++ b) false y x (fault_stays stream_limits f a b false y g) is),
        fault_in_front stream_limits f a b p y g,
      );
      behind = λ y g. omega (arith, less, ap line_of (one_fault stream_limits f (a ++ b) false y x g is));
    })
    | inr few ↦ inl (x, fault_early stream_limits f a b p x is few)
  ]

  -- ---- with a fault

  module _ (x : Fault) (fault : Faulted a x) where
    early : (y : Fault) → Faulted (a ++ b) y → line_of y ≤ length p.front
    early y g = omega (
      arith,
      ap line_of (one_fault stream_limits f (a ++ b) false y x g (fault_stays stream_limits f a b false x fault)),
      fault_in_front stream_limits f a b p x fault,
    )

    taken : (y : Fault) → Faulted (a ++ b) y → take (line_of y - 1) (lines false (a ++ b)) ≡ take (line_of y - 1) (lines false a)
    taken y g = ap (take (line_of y - 1)) (lines_all stream_limits f a b p)
        ∙ take-append-le (line_of y - 1) p.front (lines false b) (omega (arith, early y g))
        ∙ ap (take (line_of y - 1)) (sym (lines_first stream_limits f a b p))

    rows_there : {header : Option Header} {rows : List Row} {whole : Bool} → AreRowsBefore stream_limits f (a ++ b) false header rows whole
        → AreRowsBefore stream_limits f a false header rows false × (whole ≡ false)
    rows_there (sound calm read) = absurd (calm x (fault_stays stream_limits f a b false x fault))
    rows_there (no_header_yet calm none) = absurd (calm x (fault_stays stream_limits f a b false x fault))
    rows_there (faulted {header = header} {rows = rows} y g read) =
        (faulted y (fault_early stream_limits f a b p y g (early y g)) (subst (λ ls. AreTraceLines f.scale ls header rows) (taken y g) read), refl)
    rows_there (faulted_header y g none) =
        (faulted_header y (fault_early stream_limits f a b p y g (early y g)) (λ n h at. none n h (subst (λ ls. IsHeaderAt ls n h) (sym (taken y g)) at)), refl)

    line_there : (line : List ℕ) → IsFaultLine f (a ++ b) false line → IsFaultLine f a false line
    line_there line (inl (none, k)) = absurd (none x (fault_stays stream_limits f a b false x fault))
    line_there line (inr (y, g, k)) = inr (y, fault_early stream_limits f a b p y g (early y g), k)

  -- ---- without one

  module _ (k : IsCalm) where
    abbrev Front : Type 0
    Front = (text : List ℕ) × Alone f a false text

    no_header_there : ((n : ℕ) (h : Heading) → ¬ IsHeaderAt p.front n h) → Front
    no_header_there none = (
      [],
      (
        None,
        [],
        false,
        [],
        [],
        no_header_yet k.calm (λ n h at. none n h (subst (λ ls. IsHeaderAt ls n h) (lines_first stream_limits f a b p) at)),
        refl,
        inl (k.calm, refl),
        refl,
      ),
    )

    by_split : (header : Header) (rows : List Row) (stream : List ℕ) → IsRowsStream f (Some header) rows false stream
        → TraceSplit f.scale p.front header rows → Front
    by_split header rows stream said (headless none) = no_header_there none
    by_split header rows stream said (headed x y read e) =
        let q = root (scaled f header.scale).nodes in
        let (t, is) = rows_text_front (IsNewText q) q header [] None x y stream (subst (λ rs. IsRowsText (IsNewText q) q header [] None rs stream) e said) in (
          t,
          (
            Some header,
            x,
            false,
            t,
            [],
            sound k.calm (subst (λ ls. AreTraceLines f.scale ls header x) (sym (lines_first stream_limits f a b p)) read),
            is,
            inl (k.calm, refl),
            sym (append-nil t),
          ),
        )

    behind_front : (y : Fault) → Faulted (a ++ b) y
        → take (line_of y - 1) (lines false (a ++ b)) ≡ p.front ++ take (line_of y - 1 - length p.front) (lines false b)
    behind_front y g = ap (take (line_of y - 1)) (lines_all stream_limits f a b p)
        ∙ take_beyond p.front (lines false b) (line_of y - 1) (line_of y - 1 - length p.front) (omega (arith, k.behind y g))

    front_calm : {header : Option Header} {rows : List Row} {whole : Bool} (stream : List ℕ) → AreRowsBefore stream_limits f (a ++ b) false header rows whole
        → IsRowsStream f header rows whole stream → Front
    front_calm stream (sound {header = header} {rows = rows} calm read) said =
        by_split header rows stream said
        (trace_split f.scale p.front (lines false b) header rows p.whole
        (subst (λ ls. AreTraceLines f.scale ls header rows) (lines_all stream_limits f a b p) read))
    front_calm stream (no_header_yet calm none) said = no_header_there (λ n h at.
        none n h (subst (λ ls. IsHeaderAt ls n h) (sym (lines_all stream_limits f a b p)) (header_stays (lines false b) at)))
    front_calm stream (faulted {header = header} {rows = rows} y g read) said =
        by_split header rows stream said
        (trace_split f.scale p.front (take (line_of y - 1 - length p.front) (lines false b)) header rows p.whole
        (subst (λ ls. AreTraceLines f.scale ls header rows) (behind_front y g) read))
    front_calm stream (faulted_header y g none) said = no_header_there (λ n h at.
        none n h (subst (λ ls. IsHeaderAt ls n h) (sym (behind_front y g)) (header_stays (take (line_of y - 1 - length p.front) (lines false b)) at)))

  -- there is a text for the first bytes where there is one for all
  pub alone_front : (text : List ℕ) → Alone f (a ++ b) false text → (first : List ℕ) × Alone f a false first
  alone_front text (header, rows, whole, stream, line, before, said, said_of, e) = elim (by_fault line said_of) [
    | inl h ↦ (let (there, open_still) = rows_there h.0 h.1 before in (
      text,
      (
        header,
        rows,
        false,
        stream,
        line,
        there,
        subst (λ (w : Bool). IsRowsStream f header rows w stream) open_still said,
        line_there h.0 h.1 line said_of,
        e,
      ),
    ))
    | inr k ↦ front_calm k stream before said
  ]

-- the text for more bytes begins with that for the first
pub alone_grows : (f : Formula) (a b : List ℕ) (short long : List ℕ) → Alone f a false short → Alone f (a ++ b) false long → IsLonger short long
alone_grows f a b short long (header, rows, whole, stream, line, before, said, inl (calm, k), e)
    (header', rows', whole', stream', line', before', said', said_of', e') =
    let (r, same) = stream_owed_grows verdicts f a b false stream stream'
    (record { header = header; rows = rows; whole = whole; before = before; is = stream_of f header rows whole stream said })
    (record { header = header'; rows = rows'; whole = whole'; before = before'; is = stream_of f header' rows' whole' stream' said' }) in (
      r ++ line',
      e' ∙ ap (λ t. t ++ line') same ∙ append_assoc stream r line'
          ∙ ap (λ t. t ++ (r ++ line')) (sym (e ∙ ap (λ t. stream ++ t) k ∙ append-nil stream)),
    )
alone_grows f a b short long (header, rows, whole, stream, line, before, said, inr (x, is, k), e) other =
    let stays = alone_stays f a b false short (x, is) (header, rows, whole, stream, line, before, said, inr (x, is, k), e) in
    ([], text_alone_once f (a ++ b) false long short other stays ∙ sym (append-nil short))
