-- The formula that is judged on a generated trace: its text is that of this formula, which looks 16 ticks ahead.
use Rattle.std.proofs.Common.{ℕ, true, List, [], ◌∷◌, ◌++◌, refl}
use Rattle.std.specs.Prelude.{codes}
use Rattle.stl_syntax.specs.Formula as formula
use Rattle.stl_syntax.specs.declared.rel.Rel.{Rel}
use Rattle.stl_syntax.specs.declared.rel.Rel.TheVariants.{AtLeast, Below}
use Rattle.stl_syntax.specs.declared.node.Node.TheVariants.{Atom as Leaf, Not, Eventually, Always}
use Rattle.stl_grammar.specs.Tokens.{Token, Lexes, word, number, relation, open_paren, close_paren, open_bracket, close_bracket}
use Rattle.stl_grammar.specs.Tokens.{comma, nothing, blank as skip, token, a_word, an_integer, at_least, below, paren}
use Rattle.stl_grammar.specs.Tokens.{paren_end, bracket, bracket_end, a_comma}
use Rattle.stl_grammar.specs.Grammar.{FormulaText, IsFormula, IsOperand, disjunct, implies, conjunct, timed, and, operand}
use Rattle.stl_grammar.specs.Grammar.{since, not, eventually, always, parens, atom, first, inside, bounded}
use Rattle.stl_grammar.specs.Grammar.{name as term_name, none as no_terms, plain as no_sign}
use Rattle.workload.specs.Generated.{ticks}
use Rattle.workload.specs.Judged.{judged, compared, ahead_nodes, behind_nodes, judged_formula}

-- tokens from the end on
abbrev tokens_1 : List Token
tokens_1 = close_bracket ∷ word (codes "x") ∷ relation AtLeast ∷ number 500000 0 ∷ close_paren ∷ []

lexed_1 : Lexes (codes "] x >= 500000)") tokens_1
lexed_1 =
    token (codes "]") (codes " x >= 500000)") refl bracket_end
    (skip refl (token (codes "x") (codes " >= 500000)") refl (a_word refl refl refl)
    (skip refl (token (codes ">=") (codes " 500000)") refl at_least
    (skip refl (token (codes "500000") (codes ")") refl (an_integer refl refl refl)
    (token (codes ")") [] refl paren_end
    (nothing))))))))

-- tokens from the end on
abbrev tokens_2 : List Token
tokens_2 = number 0 0 ∷ word (codes "since") ∷ open_bracket ∷ number 4 0 ∷ comma ∷ number 12 0 ∷ tokens_1

lexed_2 : Lexes (codes " 0 since[4,12] x >= 500000)") tokens_2
lexed_2 =
    skip refl (token (codes "0") (codes " since[4,12] x >= 500000)") refl (an_integer refl refl refl)
    (skip refl (token (codes "since") (codes "[4,12] x >= 500000)") refl (a_word refl refl refl)
    (token (codes "[") (codes "4,12] x >= 500000)") refl bracket
    (token (codes "4") (codes ",12] x >= 500000)") refl (an_integer refl refl refl)
    (token (codes ",") (codes "12] x >= 500000)") refl a_comma
    (token (codes "12") (codes "] x >= 500000)") refl (an_integer refl refl refl)
    (lexed_1))))))))

-- tokens from the end on
abbrev tokens_3 : List Token
tokens_3 = word (codes "and") ∷ word (codes "not") ∷ open_paren ∷ word (codes "s") ∷ relation Below ∷ tokens_2

lexed_3 : Lexes (codes "and not (s < 0 since[4,12] x >= 500000)") tokens_3
lexed_3 =
    token (codes "and") (codes " not (s < 0 since[4,12] x >= 500000)") refl (a_word refl refl refl)
    (skip refl (token (codes "not") (codes " (s < 0 since[4,12] x >= 500000)") refl (a_word refl refl refl)
    (skip refl (token (codes "(") (codes "s < 0 since[4,12] x >= 500000)") refl paren
    (token (codes "s") (codes " < 0 since[4,12] x >= 500000)") refl (a_word refl refl refl)
    (skip refl (token (codes "<") (codes " 0 since[4,12] x >= 500000)") refl (below refl)
    (lexed_2))))))))

-- tokens from the end on
abbrev tokens_4 : List Token
tokens_4 = word (codes "s") ∷ relation AtLeast ∷ number 0 0 ∷ close_paren ∷ tokens_3

lexed_4 : Lexes (codes " s >= 0) and not (s < 0 since[4,12] x >= 500000)") tokens_4
lexed_4 =
    skip refl (token (codes "s") (codes " >= 0) and not (s < 0 since[4,12] x >= 500000)") refl (a_word refl refl refl)
    (skip refl (token (codes ">=") (codes " 0) and not (s < 0 since[4,12] x >= 500000)") refl at_least
    (skip refl (token (codes "0") (codes ") and not (s < 0 since[4,12] x >= 500000)") refl (an_integer refl refl refl)
    (token (codes ")") (codes " and not (s < 0 since[4,12] x >= 500000)") refl paren_end
    (skip refl (lexed_3))))))))

-- tokens from the end on
abbrev tokens_5 : List Token
tokens_5 = word (codes "implies") ∷ word (codes "eventually") ∷ open_bracket ∷ number 0 0 ∷ comma ∷ number 8 0 ∷ close_bracket ∷ tokens_4

lexed_5 : Lexes (codes "implies eventually[0,8] s >= 0) and not (s < 0 since[4,12] x >= 500000)") tokens_5
lexed_5 =
    token (codes "implies") (codes " eventually[0,8] s >= 0) and not (s < 0 since[4,12] x >= 500000)") refl (a_word refl refl refl)
    (skip refl (token (codes "eventually") (codes "[0,8] s >= 0) and not (s < 0 since[4,12] x >= 500000)") refl (a_word refl refl refl)
    (token (codes "[") (codes "0,8] s >= 0) and not (s < 0 since[4,12] x >= 500000)") refl bracket
    (token (codes "0") (codes ",8] s >= 0) and not (s < 0 since[4,12] x >= 500000)") refl (an_integer refl refl refl)
    (token (codes ",") (codes "8] s >= 0) and not (s < 0 since[4,12] x >= 500000)") refl a_comma
    (token (codes "8") (codes "] s >= 0) and not (s < 0 since[4,12] x >= 500000)") refl (an_integer refl refl refl)
    (token (codes "]") (codes " s >= 0) and not (s < 0 since[4,12] x >= 500000)") refl bracket_end
    (lexed_4))))))))

-- tokens from the end on
abbrev tokens_6 : List Token
tokens_6 = open_paren ∷ word (codes "x") ∷ relation Below ∷ number 0 0 ∷ tokens_5

lexed_6 : Lexes (codes " (x < 0 implies eventually[0,8] s >= 0) and not (s < 0 since[4,12] x >= 500000)") tokens_6
lexed_6 =
    skip refl (token (codes "(") (codes "x < 0 implies eventually[0,8] s >= 0) and not (s < 0 since[4,12] x >= 500000)") refl paren
    (token (codes "x") (codes " < 0 implies eventually[0,8] s >= 0) and not (s < 0 since[4,12] x >= 500000)") refl (a_word refl refl refl)
    (skip refl (token (codes "<") (codes " 0 implies eventually[0,8] s >= 0) and not (s < 0 since[4,12] x >= 500000)") refl (below refl)
    (skip refl (token (codes "0") (codes " implies eventually[0,8] s >= 0) and not (s < 0 since[4,12] x >= 500000)") refl (an_integer refl refl refl)
    (skip refl (lexed_5))))))))

-- tokens from the end on
abbrev tokens_7 : List Token
tokens_7 = word (codes "always") ∷ open_bracket ∷ number 0 0 ∷ comma ∷ number 8 0 ∷ close_bracket ∷ tokens_6

lexed_7 : Lexes (codes "always[0,8] (x < 0 implies eventually[0,8] s >= 0) and not (s < 0 since[4,12] x >= 500000)") tokens_7
lexed_7 =
    token (codes "always") (codes "[0,8] (x < 0 implies eventually[0,8] s >= 0) and not (s < 0 since[4,12] x >= 500000)") refl (a_word refl refl refl)
    (token (codes "[") (codes "0,8] (x < 0 implies eventually[0,8] s >= 0) and not (s < 0 since[4,12] x >= 500000)") refl bracket
    (token (codes "0") (codes ",8] (x < 0 implies eventually[0,8] s >= 0) and not (s < 0 since[4,12] x >= 500000)") refl (an_integer refl refl refl)
    (token (codes ",") (codes "8] (x < 0 implies eventually[0,8] s >= 0) and not (s < 0 since[4,12] x >= 500000)") refl a_comma
    (token (codes "8") (codes "] (x < 0 implies eventually[0,8] s >= 0) and not (s < 0 since[4,12] x >= 500000)") refl (an_integer refl refl refl)
    (token (codes "]") (codes " (x < 0 implies eventually[0,8] s >= 0) and not (s < 0 since[4,12] x >= 500000)") refl bracket_end
    (lexed_6))))))

-- the tokens of an atom of one column
abbrev compared_tokens : List ℕ → Rel → ℕ → List Token
compared_tokens name rel n = word name ∷ relation rel ∷ number n 0 ∷ []

-- a bound in brackets
abbrev bound_tokens : ℕ → ℕ → List Token
bound_tokens a b = open_bracket ∷ number a 0 ∷ comma ∷ number b 0 ∷ close_bracket ∷ []

-- the tokens of the two sides
abbrev ahead_tokens : List Token
ahead_tokens =
    compared_tokens (codes "x") Below 0 ++ word (codes "implies") ∷ word (codes "eventually") ∷ bound_tokens 0 8 ++ compared_tokens (codes "s") AtLeast 0

abbrev behind_tokens : List Token
behind_tokens = compared_tokens (codes "s") Below 0 ++ word (codes "since") ∷ bound_tokens 4 12 ++ compared_tokens (codes "x") AtLeast 500000

x_below : IsOperand ticks 0 (compared_tokens (codes "x") Below 0) (Leaf (compared (codes "x") Below 0) ∷ [])
x_below = atom (first (term_name {w = codes "x"} refl) no_terms no_sign)

s_at_least : IsOperand ticks 1 (compared_tokens (codes "s") AtLeast 0) (Leaf (compared (codes "s") AtLeast 0) ∷ [])
s_at_least = atom (first (term_name {w = codes "s"} refl) no_terms no_sign)

s_below : IsOperand ticks 5 (compared_tokens (codes "s") Below 0) (Leaf (compared (codes "s") Below 0) ∷ [])
s_below = atom (first (term_name {w = codes "s"} refl) no_terms no_sign)

x_at_least : IsOperand ticks 6 (compared_tokens (codes "x") AtLeast 500000) (Leaf (compared (codes "x") AtLeast 500000) ∷ [])
x_at_least = atom (first (term_name {w = codes "x"} refl) no_terms no_sign)

soon : IsOperand ticks 1 (word (codes "eventually") ∷ bound_tokens 0 8 ++ compared_tokens (codes "s") AtLeast 0)
    (Leaf (compared (codes "s") AtLeast 0) ∷ Eventually 1 0 8 true true ∷ [])
soon =
    eventually {ts = compared_tokens (codes "s") AtLeast 0} {us = bound_tokens 0 8} {ns = Leaf (compared (codes "s") AtLeast 0) ∷ []}
    (bounded inside inside) s_at_least

answered : IsFormula ticks 0 ahead_tokens ahead_nodes
answered =
    implies {ts = compared_tokens (codes "x") Below 0} {us = word (codes "eventually") ∷ bound_tokens 0 8 ++ compared_tokens (codes "s") AtLeast 0}
    {ns = Leaf (compared (codes "x") Below 0) ∷ []} {ms = Leaf (compared (codes "s") AtLeast 0) ∷ Eventually 1 0 8 true true ∷ []}
    (conjunct (timed (operand x_below))) (disjunct (conjunct (timed (operand soon))))

ahead : IsOperand ticks 0 (word (codes "always") ∷ bound_tokens 0 8 ++ open_paren ∷ ahead_tokens ++ close_paren ∷ [])
    (ahead_nodes ++ Always 3 0 8 true true ∷ [])
ahead =
    always {ts = open_paren ∷ ahead_tokens ++ close_paren ∷ []} {us = bound_tokens 0 8} {ns = ahead_nodes} (bounded inside inside)
    (parens {ts = ahead_tokens} {ns = ahead_nodes} answered)

held : IsFormula ticks 5 behind_tokens behind_nodes
held =
    disjunct (conjunct (timed (since {ts = compared_tokens (codes "s") Below 0} {us = bound_tokens 4 12} {vs = compared_tokens (codes "x") AtLeast 500000}
    {ns = Leaf (compared (codes "s") Below 0) ∷ []} {ms = Leaf (compared (codes "x") AtLeast 500000) ∷ []} s_below (bounded inside inside) x_at_least)))

behind : IsOperand ticks 5 (word (codes "not") ∷ open_paren ∷ behind_tokens ++ close_paren ∷ []) (behind_nodes ++ Not 7 ∷ [])
behind = not {ts = open_paren ∷ behind_tokens ++ close_paren ∷ []} {ns = behind_nodes} (parens {ts = behind_tokens} {ns = behind_nodes} held)

whole : IsFormula ticks 0
    ((word (codes "always") ∷ bound_tokens 0 8 ++ open_paren ∷ ahead_tokens ++ close_paren ∷ []) ++ word (codes "and") ∷ word
    (codes "not") ∷ open_paren ∷ behind_tokens ++ close_paren ∷ [])
    judged_formula.nodes
whole =
    disjunct (conjunct (and {ts = word (codes "always") ∷ bound_tokens 0 8 ++ open_paren ∷ ahead_tokens ++ close_paren ∷ []}
    {us = word (codes "not") ∷ open_paren ∷ behind_tokens ++ close_paren ∷ []} {ns = ahead_nodes ++ Always 3 0 8 true true ∷ []}
    {ms = behind_nodes ++ Not 7 ∷ []}
    (timed (operand ahead)) (operand behind)))

-- the text is that of the formula
pub judged_text : FormulaText judged judged_formula
judged_text = record { tokens = _; lexed = lexed_7; scale = refl; parsed = whole }
