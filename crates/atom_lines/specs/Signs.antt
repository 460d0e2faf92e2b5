-- A number, or its negative, as a comparison has it.
use Rattle.std.specs.Prelude.{ℤ, pos, neg_ℤ}
use Rattle.stl_syntax.specs.declared.rel.Rel.{Rel}
use Rattle.stl_syntax.specs.declared.rel.Rel.TheVariants.{AtLeast, Above, AtMost, Below}

abbrev pub signed : Rel → ℤ → ℤ
signed AtLeast n = n
signed Above n = n
signed AtMost n = neg_ℤ n
signed Below n = neg_ℤ n

-- the least number from which on the comparison is what it is above 0
abbrev pub least_sum : Rel → ℤ
least_sum AtLeast = pos 0
least_sum Above = pos 1
least_sum AtMost = pos 1
least_sum Below = pos 0
