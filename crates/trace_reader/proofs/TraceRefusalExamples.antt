-- First faults of small traces.
use Rattle.std.proofs.Common.{◌≡◌, ℕ, ◌≤◌, ◌⊎◌, inl, inr, List, [], ◌∷◌, ◌++◌, length, refl, true, lit≤, arith, ℤ}
use Rattle.std.specs.Prelude.{codes}
use Rattle.stl_syntax.specs.Characters.{is_digit, IsNumeral, integer, decimal}
use Rattle.trace_reader.specs.TraceText.{Line, lines, fields, IsNumber, plain, plus, minus, name, column}
use Rattle.trace_reader.specs.TraceText.{time, no_mode, no_digits as no_field_digits, Heading, IsHeading}
use Rattle.trace_reader.specs.TraceRefusals.{LineFault, InLine, HeaderFault, IsFirstFault}
use Rattle.trace_reader.specs.declared.refusal.Limits.{Limits}
use Rattle.trace_reader.specs.declared.refusal.TraceRefusal.{TraceRefusal}
use Rattle.trace_reader.specs.declared.refusal.TraceKind.TheVariants.{Empty, NoRows, BadNumber}
use Rattle.stl_syntax.proofs.Examples.{x_column, no_digits}

abbrev whole_trace : Limits
whole_trace = record { rows = 1000000; lines = 8589934592 }

-- a line that is not too long
pub no_line_fault : (limits : Limits) (n : ℕ) (line : Line) → n ≤ limits.lines → length line.bytes ≤ 4096 → (r : TraceRefusal)
    → ¬ InLine n (LineFault limits n line) r
no_line_fault limits n line h k r (e, inl (l, z)) = omega arith
no_line_fault limits n line h k r (e, inr (_, (l, z))) = omega arith

-- the header `time,x`
pub header_sound : (r : TraceRefusal) → ¬ InLine 1 (HeaderFault (codes "time" ∷ codes "x" ∷ [])) r
header_sound r (e, inl (h, z)) = omega arith
header_sound r (e, inr (_, inl (inl (h, z)))) = h refl
header_sound r (e, inr (_, inl (inr (_, (h, z))))) = h (0, time no_field_digits)
header_sound r (e, inr (_, inr (_, inl (inl (h, z))))) = h (name refl refl (lit≤ tt))
header_sound r (e, inr (_, inr (_, inl (inr (_, inl (h, z)))))) = h (x_column, 0, column (codes "x") (name refl refl (lit≤ tt)) no_mode no_field_digits)
header_sound r (e, inr (_, inr (_, inl (inr (_, inr (_, (h, z))))))) = cc
header_sound r (e, inr (_, inr (_, inr (_, h)))) = h

abbrev pub first_byte : List ℕ → ℕ
first_byte [] = 0
first_byte (c ∷ text) = c

pub numeral_begins : {text : List ℕ} {n k : ℕ} → IsNumeral text n k → is_digit (first_byte text) ≡ true
numeral_begins (integer {c = c} h) = grind (arith, h)
numeral_begins (decimal c digits d decimals h k) = grind (arith, h)

number_begins : {text : List ℕ} {v : ℤ} {k : ℕ} → IsNumber text v k → (is_digit (first_byte text) ≡ true) ⊎ ((first_byte text ≡ 43) ⊎ (first_byte text ≡ 45))
number_begins (plain h) = inl (numeral_begins h)
number_begins (plus h) = inr (inl refl)
number_begins (minus h) = inr (inr refl)

-- `y` is no number
no_number : (v : ℤ) (k : ℕ) → ¬ IsNumber (codes "y") v k
no_number v k h = by_first (number_begins h)
  where
    by_first : (is_digit (first_byte (codes "y")) ≡ true) ⊎ ((first_byte (codes "y") ≡ 43) ⊎ (first_byte (codes "y") ≡ 45)) → ⊥
    by_first (inl e) = cc
    by_first (inr (inl e)) = omega arith
    by_first (inr (inr e)) = omega arith

-- no bytes, and a header alone
no_header : IsFirstFault [] true whole_trace no_digits (record { line = 0; kind = Empty })
unfolding lines
no_header = (refl, (refl, refl))

abbrev pub x_heading : Heading
x_heading = record { time_digits = 0; columns = x_column ∷ []; digits = 0 ∷ [] }

pub x_heading_read : IsHeading (codes "time" ∷ codes "x" ∷ []) x_heading
x_heading_read = (time no_field_digits, (x_column, 0, [], [], column (codes "x") (name refl refl (lit≤ tt)) no_mode no_field_digits, (refl, refl), refl, refl))

no_rows : IsFirstFault (codes "time,x") true whole_trace no_digits (record { line = 1; kind = NoRows })
unfolding lines fields
no_rows = inr (
  no_line_fault whole_trace 1 (record { bytes = codes "time,x"; whole = true }) (lit≤ tt) (lit≤ tt),
  (refl, inr (header_sound, (x_heading, x_heading_read, (refl, ((refl, refl), refl))))),
)

-- a bad number in the first field of line 2
bad_number : IsFirstFault (codes "time,x" ++ 10 ∷ codes "y,0") true whole_trace no_digits (record { line = 2; kind = BadNumber 1 })
unfolding lines fields
bad_number = inr (
  no_line_fault whole_trace 1 (record { bytes = codes "time,x"; whole = true }) (lit≤ tt) (lit≤ tt),
  (
    refl,
    inr (
      header_sound,
      (
        x_heading,
        x_heading_read,
        inr (
          no_line_fault whole_trace 2 (record { bytes = codes "y,0"; whole = true }) (lit≤ tt) (lit≤ tt),
          (
            refl,
            inl (
              refl,
              inr ((λ k h. omega arith), inr ((λ k h. h.0 refl), inl (inl (inl ((λ h. no_number h.0 h.1 h.2), refl))))),
            ),
          ),
        ),
      ),
    ),
  ),
)
