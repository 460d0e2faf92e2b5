-- The rows before the first fault are one list for given bytes, and those of more bytes go on from them.
use Rattle.std.proofs.Common.{◌≡◌, ◌⊎◌, inl, inr, ℕ, suc, ◌+◌, ◌-◌, ◌<◌, ◌≤◌, Bool, true, false, List}
use Rattle.std.proofs.Common.{[], ◌∷◌, ◌++◌, length, take, drop, take-append-drop, zero, refl, sym, ap}
use Rattle.std.proofs.Common.{◌∙◌, subst, arith, append-nil, length-append, Option, Some, None}
use Rattle.std.specs.Prelude.{MatchBool, All}
use Rattle.std.proofs.lemmas.Bool.{false≢true}
use Rattle.std.proofs.lemmas.List.{take-append-le, take_all, nil_from_length}
use Rattle.std.proofs.Math.Seq.{take-append-add}
use Rattle.std.proofs.lemmas.Bool.{cases_lt}
use Rattle.std.proofs.lemmas.List.Elements.{All-head, All-tail}
use Rattle.stl_syntax.specs.Formula.{Formula}
use Rattle.stl_syntax.specs.Trace.{Header, Row}
use Rattle.stl_syntax.specs.declared.scale.Scale.{Scale}
use Rattle.trace_reader.specs.TraceText.{Line, lines, is_blank_line, fields, Heading, IsHeading, IsRow, scale_of}
use Rattle.trace_reader.specs.TraceText.{AreRowLines, none as no_lines, unfinished, blank, row, AreTraceLines, heading}
use Rattle.trace_reader.specs.TraceRefusals.{FaultFrom, FaultAfter, IsFirstFault}
use Rattle.trace_reader.specs.Reader.{header_of}
use Rattle.trace_reader.specs.declared.refusal.Limits.{Limits}
use Rattle.trace_reader.specs.declared.refusal.TraceRefusal.{TraceRefusal}
use Rattle.trace_reader.proofs.TraceRefusalLaw.{heading-unique, row-unique, FirstFault-unique}
use Rattle.trace_reader.proofs.FirstFaultStays.{first_fault_stays}
use Rattle.trace_reader.proofs.LineLemmas.{rest, IsDone}
use Rattle.trace_reader.proofs.OpenLines.{Parts, parts, lines-now, open_line}
use Rattle.trace_reader.specs.InputFaults.{Fault, of_trace, line_of, IsHeaderAt, here as at_first, later as at_later, IsLack}
use Rattle.trace_reader.specs.InputFaults.{IsInputFault, AreRowsBefore, sound, no_header_yet, faulted, faulted_header}
use Rattle.trace_stream.proofs.HeaderLines.{header_once, header_read, header_stays, header_within}
use Rattle.trace_stream.proofs.FaultsStay.{lack_stays}
use Rattle.trace_stream.proofs.FaultPlaces.{fault_within, to_true, to_false, at_true, at_false, InRow, InHeading, after_header, open_kind}

-- ---- the rows of lines

-- what a first line of rows is
pub data RowLine (s : Scale) (h : Heading) (l : Line) (ls : List Line) (rows : List Row) : Type 0 where
  goes_on : l.whole ≡ false → rows ≡ [] → RowLine s h l ls rows
  is_blank : l.whole ≡ true → is_blank_line l ≡ true → AreRowLines s h ls rows → RowLine s h l ls rows
  is_row : l.whole ≡ true → is_blank_line l ≡ false → (r : Row) (more : List Row) → IsRow s h (fields l) r
      → AreRowLines s h ls more → rows ≡ r ∷ more → RowLine s h l ls rows

-- the rows of lines begin with the first line's
pub row_line : {s : Scale} {h : Heading} {all : List Line} {rows : List Row} → AreRowLines s h all rows
    → (l : Line) (ls : List Line) → all ≡ l ∷ ls → RowLine s h l ls rows
row_line no_lines l ls e = absurd (let k = e in cc)
row_line {s} {h} (unfinished {line = x} w) l ls e = goes_on (let k : x ≡ l = cc in subst (λ (z : Line). z.whole ≡ false) k w) refl
row_line {s} {h} (blank {line = x} {more = xs} {rows = rows} w b m) l ls e =
    let k : x ≡ l = cc in let j : xs ≡ ls = cc in
    is_blank (subst (λ (z : Line). z.whole ≡ true) k w) (subst (λ (z : Line). is_blank_line z ≡ true) k b) (subst (λ zs. AreRowLines s h zs rows) j m)
row_line {s} {h} (row {line = x} {more = xs} {r = r} {rows = rows} w b is m) l ls e =
    let k : x ≡ l = cc in let j : xs ≡ ls = cc in
    is_row (subst (λ (z : Line). z.whole ≡ true) k w) (subst (λ (z : Line). is_blank_line z ≡ false) k b) r rows
    (subst (λ (z : Line). IsRow s h (fields z) r) k is)
    (subst (λ zs. AreRowLines s h zs rows) j m) refl

-- no lines have no rows
pub no_line : {s : Scale} {h : Heading} {all : List Line} {rows : List Row} → AreRowLines s h all rows → all ≡ [] → rows ≡ []
no_line no_lines e = refl
no_line (unfinished w) e = absurd (let k = e in cc)
no_line (blank w b m) e = absurd (let k = e in cc)
no_line (row w b is m) e = absurd (let k = e in cc)

-- the second rows begin with the first
abbrev pub GoOn : List Row → List Row → Type 0
GoOn rows more = (beyond : List Row) × (more ≡ rows ++ beyond)

-- the rows of more lines begin with those of the first
rows_front : (s : Scale) (h : Heading) (front tail : List Line) (rows more : List Row) → AreRowLines s h front rows
    → AreRowLines s h (front ++ tail) more → GoOn rows more
rows_front s h [] tail rows more a b = (more, ap (λ r. r ++ more) (sym (no_line a refl)))
rows_front s h (l ∷ front) tail rows more a b = by_line (row_line a l front refl) (row_line b l (front ++ tail) refl) (rows_front s h front tail)
  where
    by_line : RowLine s h l front rows → RowLine s h l (front ++ tail) more
        → ((rows more : List Row) → AreRowLines s h front rows → AreRowLines s h (front ++ tail) more → GoOn rows more) → GoOn rows more
    by_line (goes_on w e) other on = (more, ap (λ r. r ++ more) (sym e))
    by_line (is_blank w b m) (goes_on w' e) on = absurd (false≢true (sym w' ∙ w))
    by_line (is_blank w b m) (is_blank w' b' m') on = on rows more m m'
    by_line (is_blank w b m) (is_row w' b' r others is m' e) on = absurd (false≢true (sym b' ∙ b))
    by_line (is_row w b r others is m e) (goes_on w' e') on = absurd (false≢true (sym w' ∙ w))
    by_line (is_row w b r others is m e) (is_blank w' b' m') on = absurd (false≢true (sym b ∙ b'))
    by_line (is_row w b r others is m e) (is_row w' b' r' others' is' m' e') on =
        let (beyond, k) = on others others' m m' in
        (beyond, e' ∙ ap (λ (z : Row). z ∷ others') (row-unique s h (fields l) r' r is' is) ∙ ap (λ zs. r ∷ zs) k ∙ ap (λ zs. zs ++ beyond) (sym e))

-- a line that goes on has no row
rows_dropped : (s : Scale) (h : Heading) (front : List Line) (line : List ℕ) (rows : List Row) → All IsDone front
    → AreRowLines s h (front ++ rest false line) rows → AreRowLines s h front rows
rows_dropped s h [] [] rows whole a = a
rows_dropped s h [] (c ∷ cs) rows whole a = by_line (row_line a _ [] refl)
  where
    by_line : RowLine s h (record { bytes = c ∷ cs; whole = false }) [] rows → AreRowLines s h [] rows
    by_line (goes_on w e) = subst (λ r. AreRowLines s h [] r) (sym e) no_lines
    by_line (is_blank w b m) = absurd (false≢true w)
    by_line (is_row w b r others is m e) = absurd (false≢true w)
rows_dropped s h (l ∷ front) line rows whole a =
    by_line (row_line a l (front ++ rest false line) refl) (λ some. rows_dropped s h front line some (All-tail IsDone l front whole))
  where
    by_line : RowLine s h l (front ++ rest false line) rows
        → ((rows : List Row) → AreRowLines s h (front ++ rest false line) rows → AreRowLines s h front rows) → AreRowLines s h (l ∷ front) rows
    by_line (goes_on w e) on = absurd (false≢true (sym w ∙ All-head IsDone l front whole))
    by_line (is_blank w b m) on = blank w b (on rows m)
    by_line (is_row w b r others is m e) on = subst (λ z. AreRowLines s h (l ∷ front) z) (sym e) (row w b is (on others m))

-- what a first line of a trace is
pub data TraceLine (least : Scale) (l : Line) (ls : List Line) (header : Header) (rows : List Row) : Type 0 where
  is_blank : l.whole ≡ true → is_blank_line l ≡ true → AreTraceLines least ls header rows → TraceLine least l ls header rows
  is_heading : (h : Heading) → l.whole ≡ true → is_blank_line l ≡ false → IsHeading (fields l) h
      → AreRowLines (scale_of least h) h ls rows → header ≡ header_of least h → TraceLine least l ls header rows

-- the lines of a trace begin with its first
pub trace_line : {least : Scale} {all : List Line} {header : Header} {rows : List Row} → AreTraceLines least all header rows
    → (l : Line) (ls : List Line) → all ≡ l ∷ ls → TraceLine least l ls header rows
trace_line {least} (blank {line = x} {more = xs} {header = header} {rows = rows} w b m) l ls e =
    let k : x ≡ l = cc in let j : xs ≡ ls = cc in
    is_blank (subst (λ (z : Line). z.whole ≡ true) k w) (subst (λ (z : Line). is_blank_line z ≡ true) k b)
    (subst (λ zs. AreTraceLines least zs header rows) j m)
trace_line {least} (heading {line = x} {more = xs} {rows = rows} h w b is m) l ls e =
    let k : x ≡ l = cc in let j : xs ≡ ls = cc in
    is_heading h (subst (λ (z : Line). z.whole ≡ true) k w) (subst (λ (z : Line). is_blank_line z ≡ false) k b)
    (subst (λ (z : Line). IsHeading (fields z) h) k is)
    (subst (λ zs. AreRowLines (scale_of least h) h zs rows) j m) refl

-- no lines have no trace
pub no_trace : {least : Scale} {all : List Line} {header : Header} {rows : List Row} → AreTraceLines least all header rows → all ≡ [] → ⊥
no_trace (blank w b m) e = let k = e in cc
no_trace (heading h w b is m) e = let k = e in cc

-- more lines have the header of the first, and their rows begin with those of the first
pub trace_front : (least : Scale) (front tail : List Line) (header other : Header) (rows more : List Row)
    → AreTraceLines least front header rows → AreTraceLines least (front ++ tail) other more
    → (header ≡ other) × GoOn rows more
trace_front least [] tail header other rows more a b = absurd (no_trace a refl)
trace_front least (l ∷ front) tail header other rows more a b =
    by_line (trace_line a l front refl) (trace_line b l (front ++ tail) refl) (trace_front least front tail header other rows more)
  where
    by_line : TraceLine least l front header rows → TraceLine least l (front ++ tail) other more
        → (AreTraceLines least front header rows → AreTraceLines least (front ++ tail) other more → (header ≡ other) × GoOn rows more)
        → (header ≡ other) × GoOn rows more
    by_line (is_blank w b m) (is_blank w' b' m') on = on m m'
    by_line (is_blank w b m) (is_heading h' w' b' is' m' e') on = absurd (false≢true (sym b' ∙ b))
    by_line (is_heading h w b is m e) (is_blank w' b' m') on = absurd (false≢true (sym b ∙ b'))
    by_line (is_heading h w b is m e) (is_heading h' w' b' is' m' e') on =
        let same = heading-unique (fields l) h h' is is' in (
          e ∙ ap (header_of least) same ∙ sym e',
          rows_front (scale_of least h') h' front tail rows more (subst (λ (z : Heading). AreRowLines (scale_of least z) z front rows) same m) m',
        )

-- a line that goes on has no row of a trace
pub trace_dropped : (least : Scale) (front : List Line) (line : List ℕ) (header : Header) (rows : List Row) → All IsDone front
    → AreTraceLines least (front ++ rest false line) header rows
    → AreTraceLines least front header rows
trace_dropped least [] [] header rows whole a = a
trace_dropped least [] (c ∷ cs) header rows whole a = by_line (trace_line a _ [] refl)
  where
    by_line : TraceLine least (record { bytes = c ∷ cs; whole = false }) [] header rows → AreTraceLines least [] header rows
    by_line (is_blank w b m) = absurd (false≢true w)
    by_line (is_heading h w b is m e) = absurd (false≢true w)
trace_dropped least (l ∷ front) line header rows whole a =
    by_line (trace_line a l (front ++ rest false line) refl) (trace_dropped least front line header rows (All-tail IsDone l front whole))
  where
    by_line : TraceLine least l (front ++ rest false line) header rows
        → (AreTraceLines least (front ++ rest false line) header rows → AreTraceLines least front header rows)
        → AreTraceLines least (l ∷ front) header rows
    by_line (is_blank w b m) on = blank w b (on m)
    by_line (is_heading h w b is m e) on = subst (λ (z : Header). AreTraceLines least (l ∷ front) z rows) (sym e)
        (heading h w b is (rows_dropped (scale_of least h) h front line rows (All-tail IsDone l front whole) m))

-- lines are those of one trace
pub trace_once : (least : Scale) (ls : List Line) (header other : Header) (rows more : List Row)
    → AreTraceLines least ls header rows → AreTraceLines least ls other more
    → (header ≡ other) × (rows ≡ more)
trace_once least ls header other rows more a b =
    let there = trace_front least ls [] header other rows more a (subst (λ zs. AreTraceLines least zs other more) (sym (append-nil ls)) b) in
    let back = trace_front least ls [] other header more rows b (subst (λ zs. AreTraceLines least zs header rows) (sym (append-nil ls)) a) in
    (there.0, ends_alike rows more there.1.0 back.1.0 there.1.1 back.1.1)
  where
    ends_alike : (rows more x y : List Row) → more ≡ rows ++ x → rows ≡ more ++ y → rows ≡ more
    ends_alike rows more [] y e f = sym (e ∙ append-nil rows)
    ends_alike rows more (z ∷ x) y e f = absurd (omega (arith, ap length e, ap length f, length-append rows (z ∷ x), length-append more y))

-- ---- where a fault stands that was not one before

module _ (limits : Limits) (x : TraceRefusal) where
  tail_from : (s : Scale) (h : Heading) (ended : Bool) (n count : ℕ) (last : Option ℕ) (ls : List Line)
      → FaultAfter limits s h ended n count last ls x → (n ≤ x.line) ⊎ (count ≡ 0)
  tail_from s h ended n count last [] f = inr f.1.0.1
  tail_from s h ended n count last (l ∷ ls) (inl (e, f)) = inl (omega (arith, e))
  tail_from s h ended n count last (l ∷ ls) (inr (calm, (w, m))) =
      by_kind (is_blank_line l) m (tail_from s h ended (suc n) count last ls) (λ t. tail_from s h ended (suc n) (suc count) t ls)
    where
      by_kind : (b : Bool) → MatchBool b (FaultAfter limits s h ended (suc n) count last ls x) (InRow limits s h ended n count last l ls x)
          → (FaultAfter limits s h ended (suc n) count last ls x → (suc n ≤ x.line) ⊎ (count ≡ 0))
          → ((t : Option ℕ) → FaultAfter limits s h ended (suc n) (suc count) t ls x → (suc n ≤ x.line) ⊎ (suc count ≡ 0)) → (n ≤ x.line) ⊎ (count ≡ 0)
      by_kind true f if_blank if_row = elim (if_blank f) [ inl a ↦ inl (omega (arith, a)) | inr a ↦ inr a ]
      by_kind false (inl (e, f)) if_blank if_row = inl (omega (arith, e))
      by_kind false (inr (none, (r, is, f))) if_blank if_row =
          elim (if_row (Some r.time) f) [ inl a ↦ inl (omega (arith, a)) | inr a ↦ absurd (omega (arith, a)) ]

  -- the lines of rows, the tail after some of them, and the line that was open behind these
  module _ (s : Scale) (h : Heading) (ended : Bool) (tail : List Line) (line : List ℕ) where
    -- it stands after the first lines, or these have no row
    front_from : (n count : ℕ) (last : Option ℕ) (front : List Line) (rows : List Row) → AreRowLines s h front rows
        → ((r : TraceRefusal) → ¬ FaultAfter limits s h false n count last (front ++ rest false line) r)
        → FaultAfter limits s h ended n count last (front ++ tail) x
        → (n + length front ≤ x.line) ⊎ (count + length rows ≡ 0)
    front_from n count last [] rows a calm f = elim (tail_from s h ended n count last tail f) [
      | inl k ↦ inl (omega (arith, k))
      | inr k ↦ inr (omega (arith, k, ap length (no_line a refl)))
    ]
    front_from n count last (l ∷ front) rows a calm (inl f) = absurd (calm x (inl f))
    front_from n count last (l ∷ front) rows a calm (inr (early, (w, m))) =
        by_line (row_line a l front refl)
        (λ some k c. front_from (suc n) k c front some)
      where
        by_line : RowLine s h l front rows
            → ((some : List Row) (k : ℕ) (c : Option ℕ) → AreRowLines s h front some
            → ((r : TraceRefusal) → ¬ FaultAfter limits s h false (suc n) k c (front ++ rest false line) r)
            → FaultAfter limits s h ended (suc n) k c (front ++ tail) x → (suc n + length front ≤ x.line) ⊎ (k + length some ≡ 0))
            → (n + suc (length front) ≤ x.line) ⊎ (count + length rows ≡ 0)
        by_line (goes_on w' e) on = absurd (false≢true (sym w' ∙ w))
        by_line (is_blank w' b more) on = elim (on rows count last more
            (λ r g. calm r (inr (early, (w, to_true _ _ (is_blank_line l) b g)))) (at_true _ _ (is_blank_line l) b m)) [
              | inl k ↦ inl (omega (arith, k))
              | inr k ↦ inr k
            ]
        by_line (is_row w' b r others is more e) on = by_fault (at_false _ _ (is_blank_line l) b m)
          where
            by_fault : InRow limits s h ended n count last l (front ++ tail) x → (n + suc (length front) ≤ x.line) ⊎ (count + length rows ≡ 0)
            by_fault (inl f) = absurd (calm x (inr (early, (w, to_false _ _ (is_blank_line l) b (inl f)))))
            by_fault (inr (none, (r', is', f))) = elim (on others (suc count) (Some r'.time) more
                (λ q g. calm q (inr (early, (w, to_false _ _ (is_blank_line l) b (inr (none, (r', is', g))))))) f) [
                  | inl k ↦ inl (omega (arith, k))
                  | inr k ↦ absurd (omega (arith, k))
                ]

  -- lines of a trace without a fault are its rows
  pub trace_from : (least : Scale) (ended : Bool) (n : ℕ) (front tail : List Line) (line : List ℕ) (header : Header) (rows : List Row)
      → AreTraceLines least front header rows
      → ((r : TraceRefusal) → ¬ FaultFrom limits least false n (front ++ rest false line) r) → FaultFrom limits least ended n (front ++ tail) x
      → (n + length front ≤ x.line) ⊎ (rows ≡ [])
  trace_from least ended n [] tail line header rows a calm f = absurd (no_trace a refl)
  trace_from least ended n (l ∷ front) tail line header rows a calm (inl f) = absurd (calm x (inl f))
  trace_from least ended n (l ∷ front) tail line header rows a calm (inr (early, (w, m))) =
      by_line (trace_line a l front refl) (trace_from least ended (suc n) front tail line header rows)
    where
      by_line : TraceLine least l front header rows
          → (AreTraceLines least front header rows → ((r : TraceRefusal) → ¬ FaultFrom limits least false (suc n) (front ++ rest false line) r)
          → FaultFrom limits least ended (suc n) (front ++ tail) x → (suc n + length front ≤ x.line) ⊎ (rows ≡ []))
          → (n + suc (length front) ≤ x.line) ⊎ (rows ≡ [])
      by_line (is_blank w' b more) on = elim (on more
          (λ r g. calm r (inr (early, (w, to_true _ _ (is_blank_line l) b g)))) (at_true _ _ (is_blank_line l) b m)) [
            | inl k ↦ inl (omega (arith, k))
            | inr k ↦ inr k
          ]
      by_line (is_heading h w' b is more e) on = by_fault (at_false _ _ (is_blank_line l) b m)
        where
          by_fault : InHeading limits least ended n l (front ++ tail) x → (n + suc (length front) ≤ x.line) ⊎ (rows ≡ [])
          by_fault (inl f) = absurd (calm x (inr (early, (w, to_false _ _ (is_blank_line l) b (inl f)))))
          by_fault (inr (none, (h', is', f))) =
              let same = heading-unique (fields l) h h' is is' in
              elim (front_from (scale_of least h') h' ended tail line (suc n) 0 None front rows
              (subst (λ (z : Heading). AreRowLines (scale_of least z) z front rows) same more)
              (λ q g. calm q (inr (early, (w, to_false _ _ (is_blank_line l) b (inr (none, (h', is', g))))))) f) [
                | inl k ↦ inl (omega (arith, k))
                | inr k ↦ inr (nil_from_length rows (omega (arith, k)))
              ]

-- ---- faults of the bytes

-- a header that stands in the front stands there without what comes behind
pub header_in : (front tail : List Line) {n : ℕ} {h : Heading} → IsHeaderAt (front ++ tail) n h → n ≤ length front → IsHeaderAt front n h
header_in [] tail at few = absurd (omega (arith, few, (header_within at).0))
header_in (l ∷ front) tail (at_first w b is) few = at_first w b is
header_in (l ∷ front) tail (at_later w b at) few = at_later w b (header_in front tail at (omega (arith, few)))

module _ (limits : Limits) (f : Formula) {bytes line : List ℕ} (p : Parts bytes line) (more : List ℕ) (ended : Bool) where
  abbrev tail : List Line
  tail = lines ended (line ++ more)

  -- the lines of the bytes, and of all
  now : lines false bytes ≡ p.front ++ rest false line
  now = lines-now bytes line p false

  all : lines ended (bytes ++ more) ≡ p.front ++ tail
  all = p.joins ended more

  taken : (n : ℕ) → n ≤ length p.front → take n (lines ended (bytes ++ more)) ≡ take n (lines false bytes)
  taken n few = ap (take n) all ∙ take-append-le n p.front tail few ∙ sym (ap (take n) now ∙ take-append-le n p.front (rest false line) few)

  -- what a header among the first lines lacks it lacked before
  lack_back : (x : Fault) → (k : IsLack limits f (bytes ++ more) ended x) → k.0 ≤ length p.front → IsLack limits f bytes false x
  lack_back x (n, h, at, lacking, clean) few = (
    n,
    h,
    subst (λ ls. IsHeaderAt ls n h) (sym now) (header_stays (rest false line) (header_in p.front tail (subst (λ ls. IsHeaderAt ls n h) all at) few)),
    lacking,
    λ r fault. clean r (subst (λ ls. FaultFrom limits f.scale false 1 ls r) (sym (taken n few)) fault),
  )

  -- a first fault of the bytes leaves no later header that lacks something
  no_lack_after : (r : TraceRefusal) → IsFirstFault bytes false limits f.scale r → ((x : Fault) → ¬ IsLack limits f bytes false x)
      → (x : Fault) → ¬ IsLack limits f (bytes ++ more) ended x
  no_lack_after r first none x k = elim (cases_lt (length p.front) k.0) [
    | inl over ↦ elim (after_header limits ended r f.scale 1 (lines ended (bytes ++ more)) k.2 k.4
        (first_fault_stays bytes limits f.scale r more ended first)) [
          | inl from ↦ omega (
            arith,
            over,
            from,
            fault_within limits false r f.scale 1 (lines false bytes) (omega arith) first,
            ap length now,
            length-append p.front (rest false line),
            rest_few line,
          )
          | inr at_end ↦ open_kind limits f.scale r 1 (lines false bytes) first at_end.1
        ]
    | inr few ↦ none x (lack_back x k few)
  ]
    where
      rest_few : (l : List ℕ) → length (rest false l) ≤ 1
      rest_few [] = omega arith
      rest_few (c ∷ cs) = omega arith

  -- the first fault of the bytes stands first in all bytes that begin with them
  stays : (x : Fault) → IsInputFault limits f bytes false x → IsInputFault limits f (bytes ++ more) ended x
  stays x (inl lack) = inl (lack_stays limits f bytes more ended x lack)
  stays x (inr (none, (r, first, e))) = inr (no_lack_after r first none, (r, first_fault_stays bytes limits f.scale r more ended first, e))

-- the first fault of bytes stands first in all bytes that begin with them
pub fault_stays : (limits : Limits) (f : Formula) (bytes more : List ℕ) (ended : Bool) (x : Fault)
    → IsInputFault limits f bytes false x → IsInputFault limits f (bytes ++ more) ended x
fault_stays limits f bytes more ended x fault = let (line, o) = open_line bytes in stays limits f (parts o) more ended x fault

-- two first faults stand in one line
pub fault_once : (limits : Limits) (f : Formula) (bytes : List ℕ) (ended : Bool) (x y : Fault)
    → IsInputFault limits f bytes ended x → IsInputFault limits f bytes ended y → line_of x ≡ line_of y
fault_once limits f bytes ended x y (inl a) (inl b) = lack_line x a ∙ (header_once a.2 b.2).0 ∙ sym (lack_line y b)
  where
    lack_line : (x : Fault) → (k : IsLack limits f bytes ended x) → line_of x ≡ k.0
    lack_line x (n, h, at, inl (atom, term, name, is, e), clean) = ap line_of e
    lack_line x (n, h, at, inr (fits, (fault, is, e)), clean) = ap line_of e
fault_once limits f bytes ended x y (inl a) (inr b) = absurd (b.0 x a)
fault_once limits f bytes ended x y (inr a) (inl b) = absurd (a.0 y b)
fault_once limits f bytes ended x y (inr (none, (r, first, e))) (inr (none', (q, other, k))) =
    ap line_of e ∙ ap (λ (z : TraceRefusal). z.line) (FirstFault-unique bytes ended limits f.scale r q first other) ∙ sym (ap line_of k)

-- ---- the rows before the first fault

-- the second rows go on from the first; where the first are none, that says nothing of the header
pub data GoesOnFrom (header : Option Header) (rows : List Row) (other : Option Header) (more : List Row) : Type 0 where
  from_none : rows ≡ [] → GoesOnFrom header rows other more
  from_some : other ≡ header → GoOn rows more → GoesOnFrom header rows other more

module _ (limits : Limits) (f : Formula) {bytes line : List ℕ} (p : Parts bytes line) (more : List ℕ) (ended : Bool) where
  -- the lines before a line that stands after the first ones
  before_line : (n : ℕ) → 1 + length p.front ≤ n
      → take (n - 1) (lines ended (bytes ++ more)) ≡ p.front ++ take (n - 1 - length p.front) (tail limits f p more ended)
  before_line n over =
      ap (take (n - 1)) (all limits f p more ended)
      ∙ subst (λ k. take k (p.front ++ tail limits f p more ended) ≡ p.front ++ take (n - 1 - length p.front) (tail limits f p more ended))
      (omega (arith, over))
      (take-append-add p.front (tail limits f p more ended) (n - 1 - length p.front))

  module _ {header : Header} {rows : List Row} (calm : (x : Fault) → ¬ IsInputFault limits f bytes false x)
      (read : AreTraceLines f.scale (lines false bytes) header rows) where
    front : AreTraceLines f.scale p.front header rows
    front = trace_dropped f.scale p.front line header rows p.whole (subst (λ ls. AreTraceLines f.scale ls header rows) (now limits f p more ended) read)

    quiet : (r : TraceRefusal) → ¬ FaultFrom limits f.scale false 1 (p.front ++ rest false line) r
    quiet r fault = calm (of_trace r)
        (inr (λ x lack. calm x (inl lack), (r, subst (λ ls. FaultFrom limits f.scale false 1 ls r) (sym (now limits f p more ended)) fault, refl)))

    -- a fault of all bytes is one of the trace, after these lines, or there are no rows
    later_fault : (x : Fault) → IsInputFault limits f (bytes ++ more) ended x → (1 + length p.front ≤ line_of x) ⊎ (rows ≡ [])
    later_fault x (inl k) =
        let (n, h, at, e) = header_read front in
        let here = (header_once (subst (λ ls. IsHeaderAt ls k.0 k.1) (all limits f p more ended) k.2) (header_stays (tail limits f p more ended) at)).0 in
        absurd (calm x (inl (lack_back limits f p more ended x k (omega (arith, here, (header_within at).1)))))
    later_fault x (inr (none, (r, first, e))) =
        subst (λ n. (1 + length p.front ≤ n) ⊎ (rows ≡ [])) (sym (ap line_of e))
        (trace_from limits r f.scale ended 1 p.front (tail limits f p more ended) line header rows front quiet
        (subst (λ ls. FaultFrom limits f.scale ended 1 ls r) (all limits f p more ended) first))

    go_on : (ls : List Line) {other : Header} {beyond : List Row} → AreTraceLines f.scale (p.front ++ ls) other beyond
        → GoesOnFrom (Some header) rows (Some other) beyond
    go_on ls {other} {beyond} b = let e = trace_front f.scale p.front ls header other rows beyond front b in from_some (ap Some (sym e.0)) e.1

    sound_goes_on : {other : Option Header} {beyond : List Row} {whole : Bool}
        → AreRowsBefore limits f (bytes ++ more) ended other beyond whole → GoesOnFrom (Some header) rows other beyond
    sound_goes_on (sound {header = g} {rows = later} clean b) =
        go_on (tail limits f p more ended) (subst (λ ls. AreTraceLines f.scale ls g later) (all limits f p more ended) b)
    sound_goes_on (no_header_yet clean none) =
        let (n, h, at, e) = header_read front in
        absurd (none n h (subst (λ ls. IsHeaderAt ls n h) (sym (all limits f p more ended)) (header_stays (tail limits f p more ended) at)))
    sound_goes_on (faulted {header = g} {rows = later} x fault b) = elim (later_fault x fault) [
      | inl over ↦ go_on (take (line_of x - 1 - length p.front) (tail limits f p more ended))
          (subst (λ ls. AreTraceLines f.scale ls g later) (before_line (line_of x) over) b)
      | inr none ↦ from_none none
    ]
    sound_goes_on (faulted_header x fault none) = elim (later_fault x fault) [
      | inl over ↦ (let (n, h, at, e) = header_read front in
          absurd (none n h (subst (λ ls. IsHeaderAt ls n h) (sym (before_line (line_of x) over))
          (header_stays (take (line_of x - 1 - length p.front) (tail limits f p more ended)) at))))
      | inr none ↦ from_none none
    ]

  -- the lines before the first fault of the bytes are those of all
  before_fault : (x y : Fault) → IsInputFault limits f bytes false x → IsInputFault limits f (bytes ++ more) ended y
      → take (line_of y - 1) (lines ended (bytes ++ more)) ≡ take (line_of x - 1) (lines false bytes)
  before_fault x y a b =
      let same = fault_once limits f (bytes ++ more) ended x y (stays limits f p more ended x a) b in
      ap (λ n. take (n - 1) (lines ended (bytes ++ more))) (sym same) ∙ taken limits f p more ended (line_of x - 1) (within x a)
    where
      few : length (lines false bytes) ≤ length p.front + 1
      few = omega (arith, ap length (now limits f p more ended), length-append p.front (rest false line), one line)
        where
          one : (l : List ℕ) → length (rest false l) ≤ 1
          one [] = omega arith
          one (c ∷ cs) = omega arith

      within : (x : Fault) → IsInputFault limits f bytes false x → line_of x - 1 ≤ length p.front
      within x (inl (n, h, at, inl (atom, term, name, is, e), clean)) = omega (arith, few, (header_within at).1, ap line_of e)
      within x (inl (n, h, at, inr (fits, (fault, is, e)), clean)) = omega (arith, few, (header_within at).1, ap line_of e)
      within x (inr (none, (r, first, e))) = omega (arith, few, ap line_of e, fault_within limits false r f.scale 1 (lines false bytes) (omega arith) first)

  goes_on_by : {header other : Option Header} {rows beyond : List Row} {whole : Bool} → AreRowsBefore limits f bytes false header rows false
      → AreRowsBefore limits f (bytes ++ more) ended other beyond whole → GoesOnFrom header rows other beyond
  goes_on_by (sound calm read) b = sound_goes_on calm read b
  goes_on_by (no_header_yet calm none) b = from_none refl
  goes_on_by (faulted_header x fault none) b = from_none refl
  goes_on_by (faulted x fault read) (sound clean b) = absurd (clean x (stays limits f p more ended x fault))
  goes_on_by (faulted x fault read) (no_header_yet clean none) = absurd (clean x (stays limits f p more ended x fault))
  goes_on_by (faulted {header = h} {rows = rows} x fault read) (faulted {header = g} {rows = later} y other b) =
      let e = trace_once f.scale _ h g rows later read (subst (λ ls. AreTraceLines f.scale ls g later) (before_fault x y fault other) b) in
      from_some (ap Some (sym e.0)) ([], sym e.1 ∙ sym (append-nil rows))
  goes_on_by (faulted x fault read) (faulted_header y other none) =
      let (n, h, at, e) = header_read read in absurd (none n h (subst (λ ls. IsHeaderAt ls n h) (sym (before_fault x y fault other)) at))

-- the rows before the first fault of more bytes go on from those of the first bytes
pub rows_go_on : (limits : Limits) (f : Formula) (bytes more : List ℕ) (ended : Bool) {header other : Option Header}
    {rows beyond : List Row} {whole : Bool} → AreRowsBefore limits f bytes false header rows false
    → AreRowsBefore limits f (bytes ++ more) ended other beyond whole → GoesOnFrom header rows other beyond
rows_go_on limits f bytes more ended a b = let (line, o) = open_line bytes in goes_on_by limits f (parts o) more ended a b

-- a fault stops the rows for good
pub rows_stay : (limits : Limits) (f : Formula) (bytes more : List ℕ) (ended : Bool) {header : Option Header} {rows : List Row}
    → ((x : Fault) × IsInputFault limits f bytes false x)
    → AreRowsBefore limits f bytes false header rows false → AreRowsBefore limits f (bytes ++ more) ended header rows false
rows_stay limits f bytes more ended (x, fault) (sound calm read) = absurd (calm x fault)
rows_stay limits f bytes more ended (x, fault) (no_header_yet calm none) = absurd (calm x fault)
rows_stay limits f bytes more ended some (faulted {header = header} {rows = rows} y fault read) =
    let (line, o) = open_line bytes in
    let now = stays limits f (parts o) more ended y fault in
    faulted y now (subst (λ ls. AreTraceLines f.scale ls header rows) (sym (before_fault limits f (parts o) more ended y y fault now)) read)
rows_stay limits f bytes more ended some (faulted_header y fault none) =
    let (line, o) = open_line bytes in
    let now = stays limits f (parts o) more ended y fault in
    faulted_header y now (λ n h at. none n h (subst (λ ls. IsHeaderAt ls n h) (before_fault limits f (parts o) more ended y y fault now) at))

-- there are at most one header and one list of rows before the first fault
pub record IsOneBefore (header other : Option Header) (rows beyond : List Row) (whole complete : Bool) : Type 0 where
  -- they have one header
  pub same_header : header ≡ other
  -- and the same rows
  pub same_rows : rows ≡ beyond
  -- and one end
  pub same_end : whole ≡ complete

-- the rows before the first fault are one list
pub rows_once : (limits : Limits) (f : Formula) (bytes : List ℕ) (ended : Bool) {header other : Option Header}
    {rows beyond : List Row} {whole complete : Bool} → AreRowsBefore limits f bytes ended header rows whole
    → AreRowsBefore limits f bytes ended other beyond complete → IsOneBefore header other rows beyond whole complete
rows_once limits f bytes ended (sound {header = h} {rows = rows} calm read) (sound {header = g} {rows = later} clean b) =
    let e = trace_once f.scale _ h g rows later read b in record { same_header = ap Some e.0; same_rows = e.1; same_end = refl }
rows_once limits f bytes ended (sound calm read) (no_header_yet clean none) = let (n, h, at, e) = header_read read in absurd (none n h at)
rows_once limits f bytes ended (sound calm read) (faulted y other b) = absurd (calm y other)
rows_once limits f bytes ended (sound calm read) (faulted_header y other none) = absurd (calm y other)
rows_once limits f bytes ended (no_header_yet calm none) (sound clean b) = let (n, h, at, e) = header_read b in absurd (none n h at)
rows_once limits f bytes ended (no_header_yet calm none) (no_header_yet clean none') = record { same_header = refl; same_rows = refl; same_end = refl }
rows_once limits f bytes ended (no_header_yet calm none) (faulted y other b) = absurd (calm y other)
rows_once limits f bytes ended (no_header_yet calm none) (faulted_header y other none') = absurd (calm y other)
rows_once limits f bytes ended (faulted x fault read) (sound clean b) = absurd (clean x fault)
rows_once limits f bytes ended (faulted x fault read) (no_header_yet clean none) = absurd (clean x fault)
rows_once limits f bytes ended (faulted {header = h} {rows = rows} x fault read) (faulted {header = g} {rows = later} y other b) =
    let e = trace_once f.scale _ h g rows later read (subst (λ n. AreTraceLines f.scale (take (n - 1) (lines ended bytes)) g later)
    (fault_once limits f bytes ended y x other fault) b) in
    record { same_header = ap Some e.0; same_rows = e.1; same_end = refl }
rows_once limits f bytes ended (faulted x fault read) (faulted_header y other none) =
    let (n, h, at, e) = header_read read in
    absurd (none n h (subst (λ k. IsHeaderAt (take (k - 1) (lines ended bytes)) n h) (fault_once limits f bytes ended x y fault other) at))
rows_once limits f bytes ended (faulted_header x fault none) (sound clean b) = absurd (clean x fault)
rows_once limits f bytes ended (faulted_header x fault none) (no_header_yet clean none') = absurd (clean x fault)
rows_once limits f bytes ended (faulted_header x fault none) (faulted y other b) =
    let (n, h, at, e) = header_read b in
    absurd (none n h (subst (λ k. IsHeaderAt (take (k - 1) (lines ended bytes)) n h) (fault_once limits f bytes ended y x other fault) at))
rows_once limits f bytes ended (faulted_header x fault none) (faulted_header y other none') = record { same_header = refl; same_rows = refl; same_end = refl }

-- ---- the end of the input

length_take_most : (j : ℕ) (ls : List Line) → length (take j ls) ≤ j
length_take_most zero ls = omega arith
length_take_most (suc j) [] = omega arith
length_take_most (suc j) (l ∷ ls) = omega (arith, length_take_most j ls)

-- the first lines of whole lines without rows, the header among them, are such
rows_taken : (s : Scale) (h : Heading) (ls : List Line) (j : ℕ) → All IsDone ls → AreRowLines s h ls [] → AreRowLines s h (take j ls) []
rows_taken s h [] zero whole a = a
rows_taken s h [] (suc j) whole a = a
rows_taken s h (l ∷ ls) zero whole a = no_lines
rows_taken s h (l ∷ ls) (suc j) whole a = by_line (row_line a l ls refl) (rows_taken s h ls j (All-tail IsDone l ls whole))
  where
    by_line : RowLine s h l ls [] → (AreRowLines s h ls [] → AreRowLines s h (take j ls) []) → AreRowLines s h (l ∷ take j ls) []
    by_line (goes_on w e) on = absurd (false≢true (sym w ∙ All-head IsDone l ls whole))
    by_line (is_blank w b m) on = blank w b (on m)
    by_line (is_row w b r others is m e) on = absurd (let k = e in cc)

-- a header after a blank line
header_beyond : {l : Line} {ls : List Line} {n : ℕ} {h : Heading} → IsHeaderAt (l ∷ ls) n h → is_blank_line l ≡ true → (m : ℕ) × IsHeaderAt ls m h × (n ≡ suc m)
header_beyond (at_first w b is) e = absurd (false≢true (sym b ∙ e))
header_beyond (at_later {n = m} w b at) e = (m, at, refl)

trace_taken : (least : Scale) (ls : List Line) (header : Header) (j : ℕ) {n : ℕ} {h : Heading} → All IsDone ls
    → AreTraceLines least ls header [] → IsHeaderAt ls n h → n ≤ j
    → AreTraceLines least (take j ls) header []
trace_taken least [] header j whole a at few = absurd (no_trace a refl)
trace_taken least (l ∷ ls) header zero whole a at few = absurd (omega (arith, few, (header_within at).0))
trace_taken least (l ∷ ls) header (suc j) {n} {h} whole a at few =
    by_line (trace_line a l ls refl) (λ i g m k. trace_taken least ls header j {n = i} {h = g} (All-tail IsDone l ls whole) m k) at few
  where
    by_line : TraceLine least l ls header []
        → ((n : ℕ) (h : Heading) → AreTraceLines least ls header [] → IsHeaderAt ls n h → n ≤ j → AreTraceLines least (take j ls) header [])
        → IsHeaderAt (l ∷ ls) n h → n ≤ suc j → AreTraceLines least (l ∷ take j ls) header []
    by_line (is_blank w b m) on at few = let (i, there, e) = header_beyond at b in blank w b (on i h m there (omega (arith, few, e)))
    by_line (is_heading g w b is m e) on at few = subst (λ (z : Header). AreTraceLines least (l ∷ take j ls) z []) (sym e)
        (heading g w b is (rows_taken (scale_of least g) g ls j (All-tail IsDone l ls whole) m))

-- the rows before the first fault at the end are those so far; or there are none, and maybe no header either
pub data BeforeEnd (limits : Limits) (f : Formula) (bytes : List ℕ) (header : Option Header) (rows : List Row) : Type 0 where
  the_same : AreRowsBefore limits f bytes true header rows false → BeforeEnd limits f bytes header rows
  no_rows_there : rows ≡ [] → AreRowsBefore limits f bytes true None [] false → BeforeEnd limits f bytes header rows

module _ (limits : Limits) (f : Formula) {bytes line : List ℕ} (p : Parts bytes line) where
  all_now : lines true bytes ≡ p.front ++ rest true line
  all_now = lines-now bytes line p true

  so_many : (l : List ℕ) → length (rest true l) ≤ 1
  so_many [] = omega arith
  so_many (c ∷ cs) = omega arith

  -- a fault stands in one of the lines
  in_lines : (x : Fault) → IsInputFault limits f bytes true x → line_of x ≤ length p.front + 1
  in_lines x (inl (n, h, at, inl (atom, term, name, is, e), clean)) =
      omega (arith, ap line_of e, (header_within at).1, ap length all_now, length-append p.front (rest true line), so_many line)
  in_lines x (inl (n, h, at, inr (fits, (fault, is, e)), clean)) =
      omega (arith, ap line_of e, (header_within at).1, ap length all_now, length-append p.front (rest true line), so_many line)
  in_lines x (inr (none, (r, first, e))) =
      omega (
        arith,
        ap line_of e,
        fault_within limits true r f.scale 1 (lines true bytes) (omega arith) first,
        ap length all_now,
        length-append p.front (rest true line),
        so_many line,
      )

  before_it : (x : Fault) → IsInputFault limits f bytes true x → take (line_of x - 1) (lines true bytes) ≡ take (line_of x - 1) p.front
  before_it x fault = ap (take (line_of x - 1)) all_now ∙ take-append-le (line_of x - 1) p.front (rest true line) (omega (arith, in_lines x fault))

  header_in_taken : (j : ℕ) {m : ℕ} {g : Heading} → IsHeaderAt (take j p.front) m g → IsHeaderAt p.front m g
  header_in_taken j {m} {g} at = subst (λ ls. IsHeaderAt ls m g) (take-append-drop j p.front) (header_stays (drop j p.front) at)

  at_the_end : {header : Option Header} {rows : List Row} → AreRowsBefore limits f bytes false header rows false
      → ((x : Fault) → ¬ IsInputFault limits f bytes false x)
      → (x : Fault) → IsInputFault limits f bytes true x → BeforeEnd limits f bytes header rows
  at_the_end (faulted y other read) calm x fault = absurd (calm y other)
  at_the_end (faulted_header y other none) calm x fault = absurd (calm y other)
  at_the_end (no_header_yet clean none) calm x fault = the_same (faulted_header x fault (λ m g at.
      none m g (subst (λ ls. IsHeaderAt ls m g) (sym (lines-now bytes line p false))
      (header_stays (rest false line) (header_in_taken (line_of x - 1) (subst (λ ls. IsHeaderAt ls m g) (before_it x fault) at))))))
  at_the_end (sound {header = header} {rows = rows} clean read) calm x fault = by_place (later_fault limits f p [] true clean read x longer)
    where
      longer : IsInputFault limits f (bytes ++ []) true x
      longer = subst (λ b. IsInputFault limits f b true x) (sym (append-nil bytes)) fault

      of_front : AreTraceLines f.scale p.front header rows
      of_front = front limits f p [] true clean read

      by_header : rows ≡ [] → (n : ℕ) (h : Heading) → IsHeaderAt p.front n h → (n ≤ line_of x - 1) ⊎ (line_of x - 1 < n)
          → BeforeEnd limits f bytes (Some header) rows
      by_header none n h at (inl few) = the_same (faulted x fault
          (subst (λ ls. AreTraceLines f.scale ls header rows) (sym (before_it x fault))
          (subst (λ rs. AreTraceLines f.scale (take (line_of x - 1) p.front) header rs) (sym none)
          (trace_taken f.scale p.front header (line_of x - 1) p.whole (subst (λ rs. AreTraceLines f.scale p.front header rs) none of_front) at few))))
      by_header none n h at (inr over) = no_rows_there none (faulted_header x fault (λ m g there.
          let taken_at = subst (λ ls. IsHeaderAt ls m g) (before_it x fault) there in
          let same = (header_once (header_in_taken (line_of x - 1) taken_at) at).0 in
          omega (arith, same, over, (header_within taken_at).1, length_of_taken)))
        where
          length_of_taken : length (take (line_of x - 1) p.front) ≤ line_of x - 1
          length_of_taken = length_take_most (line_of x - 1) p.front

      by_place : (1 + length p.front ≤ line_of x) ⊎ (rows ≡ []) → BeforeEnd limits f bytes (Some header) rows
      by_place (inl over) = the_same (faulted x fault (subst (λ ls. AreTraceLines f.scale ls header rows)
          (sym (before_it x fault ∙ take_all (line_of x - 1) p.front (omega (arith, over)))) of_front))
      by_place (inr none) =
          let (n, h, at, e) = header_read of_front in
          by_header none n h at (elim (cases_lt (line_of x - 1) n) [ inl over ↦ inr over | inr few ↦ inl few ])

-- bytes without a fault before their end have all rows before one that comes with it
pub before_end : (limits : Limits) (f : Formula) (bytes : List ℕ) {header : Option Header} {rows : List Row}
    → AreRowsBefore limits f bytes false header rows false
    → ((x : Fault) → ¬ IsInputFault limits f bytes false x) → (x : Fault) → IsInputFault limits f bytes true x → BeforeEnd limits f bytes header rows
before_end limits f bytes before calm x fault = let (line, o) = open_line bytes in at_the_end limits f (parts o) before calm x fault
