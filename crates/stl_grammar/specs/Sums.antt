-- A comparison whose number is not in ticks yet.
use Rattle.std.specs.Prelude.{Bool, List}
use Rattle.stl_syntax.specs.declared.atom.Term.{Term}
use Rattle.stl_syntax.specs.declared.rel.Rel.{Rel}
use Rattle.stl_grammar.specs.declared.decimal.Decimal.{Decimal}

-- a sum of terms, compared with a number that may have a minus before it
pub record Comparison : Type 0 where
  pub terms : List Term
  pub rel : Rel
  pub negative : Bool
  pub limit : Decimal
