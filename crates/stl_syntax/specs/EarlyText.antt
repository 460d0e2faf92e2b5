-- What an early run writes: the first row that decides, and the truth at the start.
use Rattle.std.specs.Prelude.{◌≡◌, Bool, List, [], ◌∷◌, ◌++◌, length, ℕ, codes, IsTrue, IsFalse}
use Rattle.stl_syntax.specs.Trace.{Header, Row, AreRows, row_time}
use Rattle.stl_syntax.specs.Formula.{Subformula}
use Rattle.stl_syntax.specs.Early.{NoneDecides, FirstDecides}
use Rattle.stl_syntax.specs.Texts.{IsNumberText, IsStartLine, start_line, newline}

-- the text for these rows, where the input has ended, which it does after a row, or not
pub data IsEarlyText (p : Subformula) (header : Header) (rows : List Row) (ended : Bool) (text : List ℕ) : Type 0 where
  at_row : (before after : List Row) (r : Row) (holds : Bool) (time : List ℕ) → rows ≡ before ++ r ∷ after → FirstDecides p header before r holds
      → IsNumberText header.scale.time (row_time r) time → text ≡ codes "decided at " ++ time ++ newline ++ start_line holds
      → IsEarlyText p header rows ended text
  at_end : (line : List ℕ) → IsTrue ended → AreRows (length header.columns) rows → NoneDecides p header rows
      → IsStartLine p (record { header = header; rows = rows }) line
      → text ≡ codes "decided at end" ++ newline ++ line → IsEarlyText p header rows ended text
  not_yet : IsFalse ended → NoneDecides p header rows → text ≡ [] → IsEarlyText p header rows ended text
