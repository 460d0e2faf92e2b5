-- The bytes of a small trace.
use Rattle.std.proofs.Common.{[], ◌∷◌, ◌++◌, pos, refl, lit≤, lit<}
use Rattle.std.specs.Prelude.{codes}
use Rattle.stl_syntax.specs.Characters.{integer}
use Rattle.trace_reader.specs.TraceText.{IsTraceText, lines, fields, blank, heading, row, none, name, plain}
use Rattle.trace_reader.specs.TraceText.{plus, column, time, no_mode, no_digits as no_field_digits}
use Rattle.stl_syntax.proofs.Examples.{rise, x_column, no_digits}

-- the bytes of the rise, with a blank line, CR LF line ends, and no LF at the end
rise_bytes : IsTraceText (13 ∷ 10 ∷ codes "time, x" ++ 13 ∷ 10 ∷ codes "0,0" ++ 10 ∷ codes "+10,010") no_digits rise
unfolding lines fields
rise_bytes = record {
  read = blank refl refl (heading (record { time_digits = 0; columns = x_column ∷ []; digits = 0 ∷ [] }) refl refl
      (time no_field_digits, (x_column, 0, [], [], column (codes "x") (name refl refl (lit≤ tt)) no_mode no_field_digits, (refl, refl), refl, refl))
      (row refl refl ((pos 0, 0, plain (integer refl), lit≤ tt, refl), (pos 0, [], (pos 0, 0, plain (integer refl), lit≤ tt, refl), refl, refl))
      (row refl refl ((pos 10, 0, plus (integer refl), lit≤ tt, refl), (pos 10, [], (pos 10, 0, plain (integer refl), lit≤ tt, refl), refl, refl)) none)));
  rising = record { rows = (refl, (lit< tt, refl, tt)) };
}
