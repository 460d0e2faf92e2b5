-- The lines of a trace's bytes, and the header and rows that they stand for.
use Rattle.std.specs.Prelude.{◌≡◌, ℕ, ◌≤◌, max, ◌==◌, Bool, true, false, List, [], ◌∷◌, ◌++◌, map}
use Rattle.std.specs.Prelude.{reverse, length, ℤ, pos, neg_ℤ, codes, decimal, if◌then◌else◌}
use Rattle.stl_syntax.specs.Characters.{is_space, begins_word, goes_on_word, all, after_first, IsNumeral, signed_ticks}
use Rattle.stl_syntax.specs.Trace.{Column, Row, Header, Trace, IsTrace}
use Rattle.stl_syntax.specs.declared.scale.Scale.{Scale}

-- the text cut at each byte c, which is left out
abbrev pub split : ℕ → List ℕ → List (List ℕ)
split c [] = [] ∷ []
split c (x ∷ text) = if x == c then [] ∷ split c text else begin (split c text)
  where
    begin : List (List ℕ) → List (List ℕ)
    begin [] = (x ∷ []) ∷ []
    begin (part ∷ parts) = (x ∷ part) ∷ parts

-- a line without its LF; it is whole once its LF, or the end of input, was read
pub record Line : Type 0 where
  pub bytes : List ℕ
  pub whole : Bool

-- nothing after a last LF is a line
unfoldable pub lines : Bool → List ℕ → List Line
lines ended bytes = of_parts (split 10 bytes)
  where
    of_parts : List (List ℕ) → List Line
    of_parts [] = []
    of_parts ([] ∷ []) = []
    of_parts (part ∷ []) = record { bytes = part; whole = ended } ∷ []
    of_parts (part ∷ parts) = record { bytes = part; whole = true } ∷ of_parts parts

-- a line's bytes without one CR at the end
abbrev pub content : Line → List ℕ
content line = without_return (reverse line.bytes)
  where
    without_return : List ℕ → List ℕ
    without_return [] = []
    without_return (c ∷ rest) = if c == 13 then reverse rest else reverse (c ∷ rest)

-- only spaces and tabs
abbrev pub is_blank_line : Line → Bool
is_blank_line line = all is_space (content line)

-- a field without the spaces at both ends
abbrev pub trim : List ℕ → List ℕ
trim text = reverse (after_first is_space (reverse (after_first is_space text)))

-- the fields of a line, cut at its commas
unfoldable pub fields : Line → List (List ℕ)
fields line = map trim (split 44 (content line))

-- the field is the number n / 10^k
pub data IsNumber : List ℕ → ℤ → ℕ → Type 0 where
  plain : {text : List ℕ} {n k : ℕ} → IsNumeral text n k → IsNumber text (pos n) k
  plus : {text : List ℕ} {n k : ℕ} → IsNumeral text n k → IsNumber (43 ∷ text) (pos n) k
  minus : {text : List ℕ} {n k : ℕ} → IsNumeral text n k → IsNumber (45 ∷ text) (neg_ℤ (pos n)) k

-- a column's name, of 1 to 64 bytes
pub data IsName : List ℕ → Type 0 where
  name : {c : ℕ} {rest : List ℕ} → begins_word c ≡ true → all goes_on_word rest ≡ true → length (c ∷ rest) ≤ 64 → IsName (c ∷ rest)

-- what a header field may have after its name: a mode, and how many decimals its numbers may have
pub data IsMode : List ℕ → Bool → Type 0 where
  no_mode : IsMode [] false
  ramp : IsMode (codes ":ramp") false
  step : IsMode (codes ":step") true

-- how many decimals, after a colon; none without it
pub data IsDigits : List ℕ → ℕ → Type 0 where
  no_digits : IsDigits [] 0
  with_digits : {n : ℕ} → n ≤ 6 → IsDigits (codes ":" ++ decimal n) n

-- the first field of a header
pub data IsTimeField : List ℕ → ℕ → Type 0 where
  time : {d : List ℕ} {n : ℕ} → IsDigits d n → IsTimeField (codes "time" ++ d) n

-- a further field: a name, maybe a mode, maybe the decimals
pub data IsColumn : List ℕ → Column → ℕ → Type 0 where
  column : {m d : List ℕ} {step : Bool} {n : ℕ} (name : List ℕ) → IsName name → IsMode m step → IsDigits d n
      → IsColumn (name ++ m ++ d) (record { name = name; step = step }) n

-- a header as it is written, with the decimals of each field
pub record Heading : Type 0 where
  pub time_digits : ℕ
  pub columns : List Column
  pub digits : List ℕ

-- the further fields in order
abbrev pub AreColumns : List (List ℕ) → List Column → List ℕ → Type 0
AreColumns [] columns digits = (columns ≡ []) × (digits ≡ [])
AreColumns (f ∷ others) columns digits =
    (k : Column) × (n : ℕ) × (more : List Column) × (rest : List ℕ) × IsColumn f k n × AreColumns others more rest × (columns ≡ k ∷ more) × (digits ≡ n ∷ rest)

-- the fields of a header
abbrev pub IsHeading : List (List ℕ) → Heading → Type 0
IsHeading [] h = ⊥
IsHeading (f ∷ others) h = IsTimeField f h.time_digits × AreColumns others h.columns h.digits

-- the greatest of the numbers and n
abbrev pub greatest : ℕ → List ℕ → ℕ
greatest n [] = n
greatest n (m ∷ more) = greatest (max n m) more

-- the scale of a trace has at least the decimals of its header and those of the formula
abbrev pub scale_of : Scale → Heading → Scale
scale_of least h = record { time = max h.time_digits least.time; value = greatest least.value h.digits }

-- the field is a number of so many ticks, with at most `most` decimals
abbrev pub IsInTicks : ℕ → ℕ → List ℕ → ℤ → Type 0
IsInTicks digits most f v = (n : ℤ) × (k : ℕ) × IsNumber f n k × (k ≤ most) × (v ≡ signed_ticks digits n k)

-- the fields are numbers of so many ticks, one for each column, with at most its decimals
abbrev pub AreInTicks : ℕ → List ℕ → List (List ℕ) → List ℤ → Type 0
AreInTicks digits [] [] values = values ≡ []
AreInTicks digits (most ∷ others) (f ∷ fields) values =
    (v : ℤ) × (more : List ℤ) × IsInTicks digits most f v × AreInTicks digits others fields more × (values ≡ v ∷ more)
AreInTicks digits _ _ values = ⊥

-- under this heading the fields are those of the row, in ticks of the scale
abbrev pub IsRow : Scale → Heading → List (List ℕ) → Row → Type 0
IsRow s h [] r = ⊥
IsRow s h (f ∷ others) r = IsInTicks s.time h.time_digits f (pos r.time) × AreInTicks s.value h.digits others r.values

-- each whole line that is not blank is a row
pub data AreRowLines (s : Scale) (h : Heading) : List Line → List Row → Type 0 where
  none : AreRowLines s h [] []
  unfinished : {line : Line} → line.whole ≡ false → AreRowLines s h (line ∷ []) []
  blank : {line : Line} {more : List Line} {rows : List Row} → line.whole ≡ true → is_blank_line line ≡ true
      → AreRowLines s h more rows → AreRowLines s h (line ∷ more) rows
  row : {line : Line} {more : List Line} {r : Row} {rows : List Row} → line.whole ≡ true → is_blank_line line ≡ false → IsRow s h (fields line) r
      → AreRowLines s h more rows → AreRowLines s h (line ∷ more) (r ∷ rows)

-- the first whole line that is not blank is the header
pub data AreTraceLines (least : Scale) : List Line → Header → List Row → Type 0 where
  blank : {line : Line} {more : List Line} {header : Header} {rows : List Row} → line.whole ≡ true → is_blank_line line ≡ true
      → AreTraceLines least more header rows → AreTraceLines least (line ∷ more) header rows
  heading : {line : Line} {more : List Line} {rows : List Row} (h : Heading) → line.whole ≡ true → is_blank_line line ≡ false
      → IsHeading (fields line) h → AreRowLines (scale_of least h) h more rows
      → AreTraceLines least (line ∷ more) (record { columns = h.columns; scale = scale_of least h }) rows

-- the header and the rows of these bytes, which the input may have ended, with a scale of at least `least`
abbrev pub TraceOf : List ℕ → Bool → Scale → Header → List Row → Type 0
TraceOf bytes ended least header rows = AreTraceLines least (lines ended bytes) header rows

-- the bytes, all of them, are those of the trace
pub record IsTraceText (bytes : List ℕ) (least : Scale) (tr : Trace) : Type 0 where
  pub read : TraceOf bytes true least tr.header tr.rows
  pub rising : IsTrace tr
