-- Where the text of a time stands among the bytes of a room.
use Rattle.std.specs.Prelude.{◌≤◌, ◌+◌, ℕ, List, length, take, drop}
use Rattle.rational.specs.Rational.{Rational}
use Rattle.stl_syntax.specs.Texts.{IsNumberText}
use Rattle.answer_lines.specs.declared.line_after.TextAt.{TextAt}

-- the text of the time t stands there, in units of a scale with so many digits
pub record IsTextAt (digits : ℕ) (t : Rational) (bytes : List ℕ) (p : TextAt) : Type 0 where
  pub inside : p.at + p.len ≤ length bytes
  pub text : IsNumberText digits t (take p.len (drop p.at bytes))
