-- Where the header stands among the lines of a trace.
use Rattle.std.proofs.Common.{◌≡◌, ℕ, suc, ◌<◌, ◌≤◌, true, List, [], ◌∷◌, ◌++◌, length, refl, sym, ap, ◌∙◌, subst, arith, max}
use Rattle.std.specs.Prelude.{All}
use Rattle.std.proofs.lemmas.Bool.{false≢true}
use Rattle.std.proofs.lemmas.List.Elements.{All-head, All-tail}
use Rattle.stl_syntax.specs.Trace.{Column, Header, Row}
use Rattle.stl_syntax.specs.WellFormed.{IsScale}
use Rattle.stl_syntax.specs.declared.scale.Scale.{Scale}
use Rattle.trace_reader.specs.TraceText.{Line, is_blank_line, fields, Heading, IsHeading, IsDigits}
use Rattle.trace_reader.specs.TraceText.{no_digits, with_digits, IsTimeField, time, column, AreColumns}
use Rattle.trace_reader.specs.TraceText.{greatest, scale_of, AreTraceLines, blank, heading, none}
use Rattle.trace_reader.specs.Reader.{header_of, IsBlankSoFar}
use Rattle.trace_reader.proofs.TraceRefusalLaw.{heading-unique}
use Rattle.trace_reader.specs.InputFaults.{IsHeaderAt, here, later}

abbrev pub IsBlank : Line → Type 0
IsBlank l = is_blank_line l ≡ true

-- lines have one header
pub header_once : {ls : List Line} {n m : ℕ} {h g : Heading} → IsHeaderAt ls n h → IsHeaderAt ls m g → (n ≡ m) × (h ≡ g)
header_once (here {line = l} {h = h} w b k) (here {h = g} w' b' k') = (refl, heading-unique (fields l) h g k k')
header_once (here w b k) (later w' b' p) = absurd (false≢true (sym b ∙ b'))
header_once (later w b p) (here w' b' k') = absurd (false≢true (sym b' ∙ b))
header_once (later w b p) (later w' b' q) = let e = header_once p q in (ap suc e.0, e.1)

-- the header of lines that were read
pub header_read : {least : Scale} {ls : List Line} {header : Header} {rows : List Row} → AreTraceLines least ls header rows
    → (n : ℕ) × (h : Heading) × IsHeaderAt ls n h × (header ≡ header_of least h)
header_read (blank w b more) = let (n, h, at, e) = header_read more in (suc n, h, later w b at, e)
header_read (heading h w b k rows) = (1, h, here w b k, refl)

-- it stays where more lines follow
pub header_stays : {ls : List Line} {n : ℕ} {h : Heading} (more : List Line) → IsHeaderAt ls n h → IsHeaderAt (ls ++ more) n h
header_stays more (here w b k) = here w b k
header_stays more (later w b p) = later w b (header_stays more p)

-- the header's line is one of the lines
pub header_within : {ls : List Line} {n : ℕ} {h : Heading} → IsHeaderAt ls n h → (0 < n) × (n ≤ length ls)
header_within (here w b k) = (omega arith, omega arith)
header_within (later w b p) = let e = header_within p in (omega arith, omega (arith, e.1))

-- it comes after blank lines
pub header_after : (front tail : List Line) {n : ℕ} {h : Heading} → All IsBlank front → IsHeaderAt (front ++ tail) n h → length front < n
header_after [] tail all p = (header_within p).0
header_after (l ∷ front) tail all (here w b k) = absurd (false≢true (sym b ∙ All-head IsBlank l front all))
header_after (l ∷ front) tail all (later w b p) = omega (arith, header_after front tail (All-tail IsBlank l front all) p)

-- where each whole line is blank there is none
pub no_header : (ls : List Line) {n : ℕ} {h : Heading} → All IsBlankSoFar ls → ¬ IsHeaderAt ls n h
no_header [] all p = elim p [ ]
no_header (l ∷ ls) all (here w b k) = false≢true (sym b ∙ All-head IsBlankSoFar l ls all w)
no_header (l ∷ ls) all (later w b p) = no_header ls (All-tail IsBlankSoFar l ls all) p

-- after blank lines one line alone is no trace with rows
pub no_rows_in : (front tail : List Line) {least : Scale} {header : Header} {rows : List Row} → All IsBlank front
    → length tail ≤ 1 → AreTraceLines least (front ++ tail) header rows → rows ≡ []
no_rows_in [] [] all few p = elim p [ ]
no_rows_in [] (l ∷ []) all few (blank w b more) = elim more [ ]
no_rows_in [] (l ∷ []) all few (heading h w b k none) = refl
no_rows_in [] (l ∷ m ∷ ls) all few p = absurd (omega (arith, few))
no_rows_in (l ∷ front) tail all few (blank w b more) = no_rows_in front tail (All-tail IsBlank l front all) few more
no_rows_in (l ∷ front) tail all few (heading h w b k rows) = absurd (false≢true (sym b ∙ All-head IsBlank l front all))

digits_small : {d : List ℕ} {n : ℕ} → IsDigits d n → n ≤ 6
digits_small no_digits = omega arith
digits_small (with_digits h) = h

columns_small : (fs : List (List ℕ)) (columns : List Column) (digits : List ℕ) (n : ℕ) → AreColumns fs columns digits → n ≤ 6 → greatest n digits ≤ 6
columns_small [] columns digits n (a, b) small = subst (λ ds. greatest n ds ≤ 6) (sym b) small
columns_small (f ∷ fs) columns digits n (k, m, more, rest, column name is mode ds, others, a, b) small =
    subst (λ ds. greatest n ds ≤ 6) (sym b) (columns_small fs more rest (max n m) others (omega (arith, small, digits_small ds)))

time_small : {f : List ℕ} {n : ℕ} → IsTimeField f n → n ≤ 6
time_small (time d) = digits_small d

-- the ticks of a header have at most six digits
pub ticks_small : (least : Scale) (fs : List (List ℕ)) (g : Heading) → IsScale least → IsHeading fs g → IsScale (scale_of least g)
ticks_small least [] g s h = absurd h
ticks_small least (f ∷ fs) g s h = record { time = omega (arith, s.time, time_small h.0); value = columns_small fs g.columns g.digits least.value h.1 s.value }

-- the header's line has fields that make its heading
pub heading_is : {ls : List Line} {n : ℕ} {h : Heading} → IsHeaderAt ls n h → (fs : List (List ℕ)) × IsHeading fs h
heading_is (here {line = l} w b is) = (fields l, is)
heading_is (later w b p) = heading_is p
