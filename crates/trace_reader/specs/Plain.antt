-- Rows of plain numbers: digits, maybe after a minus, and maybe a point and further digits.
use Rattle.std.specs.Prelude.{◌≡◌, ℕ, ◌<◌, ◌≤◌, ◌==◌, ◌||◌, Bool, List, [], ◌∷◌, ◌++◌, take, length, true, false, pos, negsuc, nat_abs, Ok}
use Rattle.stl_syntax.specs.Characters.{is_digit, all, decimal_value, IsNumeral, ticks}
use Rattle.stl_syntax.specs.Trace.{Row}
use Rattle.trace_reader.specs.TraceText.{fields, is_blank_line}
use Rattle.trace_reader.specs.LineParts.{whole_line}
use Rattle.trace_reader.specs.FieldFaults.{IsFieldRead}
use Rattle.trace_reader.specs.Feeds.{HasNoFeed}
use Rattle.trace_reader.specs.Headings.{Scaled}
use Rattle.trace_reader.specs.RowLines.{IsRowRead}
use Rattle.trace_reader.specs.Progress.{Progress, ReadsLine}
use Rattle.trace_reader.specs.declared.refusal.Limits.{Limits}
use Rattle.trace_reader.specs.declared.event.Event.TheVariants.{Row as IsARow}
use Rattle.trace_reader.specs.declared.digits.Digits.{Digits}
use Rattle.trace_reader.specs.declared.plain.PlainNumber.{PlainNumber}
use Rattle.trace_reader.specs.declared.plain.PlainTime.{PlainTime}
use Rattle.trace_reader.specs.declared.plain.PlainValue.{PlainValue}

-- one to nine digits that the text begins with, and their value
pub record IsFewDigits (text : List ℕ) (d : Digits) : Type 0 where
  pub some : 0 < d.len
  pub few : d.len ≤ 9
  pub digits : all is_digit (take d.len text) ≡ true
  pub value : d.value ≡ decimal_value 0 (take d.len text)
  pub small : d.value ≤ 999999999

-- one to six digits that the text begins with, and the value of others with them
pub record AreMoreDigits (text : List ℕ) (before : ℕ) (d : Digits) : Type 0 where
  pub some : 0 < d.len
  pub few : d.len ≤ 6
  pub digits : all is_digit (take d.len text) ≡ true
  pub value : d.value ≡ decimal_value before (take d.len text)

-- a byte of a plain number: a digit, a minus or a point
abbrev pub is_plain : ℕ → Bool
is_plain c = is_digit c || (c == 45) || (c == 46)

-- the text begins with so many bytes of a plain number, and goes on after them
pub record IsPlain (text : List ℕ) (n : ℕ) : Type 0 where
  pub some : 0 < n
  pub goes_on : n < length text
  pub short : n ≤ 17
  pub bytes : all is_plain (take n text) ≡ true

-- the text is a number without a sign that has so many ticks, and at most `most` decimals
abbrev pub IsTicks : ℕ → ℕ → List ℕ → ℕ → Type 0
IsTicks most digits text size = (n k : ℕ) × IsNumeral text n k × (k ≤ most) × (size ≡ ticks digits n k)

-- the number without a sign in ticks of 1/10^digits that the text begins with
pub record IsPlainNumber (most digits : ℕ) (text : List ℕ) (p : PlainNumber) : Type 0 where
  pub plain : IsPlain text p.len
  pub short : p.len ≤ 16
  pub read : IsTicks most digits (take p.len text) p.size

-- the time in ticks of 1/10^digits that the text begins with
pub record IsPlainTime (most digits : ℕ) (text : List ℕ) (p : PlainTime) : Type 0 where
  pub plain : IsPlain text p.len
  pub read : IsFieldRead digits most (pos 0) (pos 4294967295) 1 (take p.len text) (pos p.time)
  pub fits : p.time ≤ 4294967295

-- the value in ticks of 1/10^digits that the text begins with
pub record IsPlainValue (most digits : ℕ) (text : List ℕ) (p : PlainValue) : Type 0 where
  pub plain : IsPlain text p.len
  pub read : (i : ℕ) → IsFieldRead digits most (negsuc 16777215) (pos 16777216) i (take p.len text) p.value
  pub fits : nat_abs p.value ≤ 16777216

-- the piece begins with a whole line of `n` bytes with its LF
pub record IsWholeLine (piece line : List ℕ) (n : ℕ) : Type 0 where
  pub taken : take n piece ≡ line ++ 10 ∷ []
  pub within : n ≤ length piece
  pub free : HasNoFeed line
  pub short : length line ≤ 4096

-- the piece begins with a line that is this row
pub record IsPlainRow (h : Scaled) (piece : List ℕ) (n : ℕ) (r : Row) : Type 0 where
  pub line : List ℕ
  pub whole : IsWholeLine piece line n
  pub solid : is_blank_line (whole_line line) ≡ false
  pub read : IsRowRead h (fields (whole_line line)) r

-- the piece begins with a row that follows
pub record IsRowTaken (limits : Limits) (piece : List ℕ) (n : ℕ) (old new : Progress) : Type 0 where
  pub line : List ℕ
  pub whole : IsWholeLine piece line n
  pub read : ReadsLine limits line old new (Ok IsARow)
