-- Texts of formulas with their nodes, and the bytes of a trace.
use Rattle.std.proofs.Common.{[], ◌∷◌, pos, refl, true}
use Rattle.std.specs.Prelude.{codes}
use Rattle.stl_grammar.specs.Tokens.{nothing, blank as skip, token, a_word, an_integer, a_decimal, at_least}
use Rattle.stl_grammar.specs.Grammar.{FormulaText, disjunct, conjunct, timed, operand, not, always_true, atom, first}
use Rattle.stl_grammar.specs.Grammar.{name as term_name, none as no_terms, plain as no_sign}
use Rattle.stl_syntax.specs.declared.node.Node.TheVariants.{Const, Atom as Leaf, Not}
use Rattle.stl_syntax.proofs.Examples.{at_least_5, no_digits}

x_text : FormulaText (codes "x >= 5") (record { nodes = Leaf at_least_5 ∷ []; scale = no_digits })
x_text = record {
  tokens = _;
  lexed = token (codes "x") (codes " >= 5") refl (a_word refl refl refl)
      (skip refl (token (codes ">=") (codes " 5") refl at_least (skip refl (token (codes "5") [] refl (an_integer refl tt refl) nothing))));
  scale = refl;
  parsed = disjunct (conjunct (timed (operand (atom (first (term_name {w = codes "x"} refl) no_terms no_sign)))));
}

-- in tenths, with a zero at the end dropped
decimal_text : FormulaText (codes "x >= 1.50") (record { nodes = Leaf (record at_least_5 { limit = pos 15 }) ∷ []; scale = record { time = 0; value = 1 } })
decimal_text = record {
  tokens = _;
  lexed = token (codes "x") (codes " >= 1.50") refl (a_word refl refl refl) (skip refl
      (token (codes ">=") (codes " 1.50") refl at_least (skip refl (token (codes "1.50") [] refl (a_decimal 49 [] 53 (48 ∷ []) refl refl tt) nothing))));
  scale = refl;
  parsed = disjunct (conjunct (timed (operand (atom (first (term_name {w = codes "x"} refl) no_terms no_sign)))));
}

not_text : FormulaText (codes "not true") (record { nodes = Const true ∷ Not 0 ∷ []; scale = no_digits })
not_text = record {
  tokens = _;
  lexed = token (codes "not") (codes " true") refl (a_word refl refl refl) (skip refl (token (codes "true") [] refl (a_word refl refl tt) nothing));
  scale = refl;
  parsed = disjunct (conjunct (timed (operand (not {ns = Const true ∷ []} always_true))));
}
