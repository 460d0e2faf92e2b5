-- The printed text of a formula: constants and bounds as decimals with the fewest digits, and parentheses about a two-operand operand.
use Rattle.std.specs.Prelude.{◌≡◌, ℕ, suc, ◌*◌, ◌^◌, ◌&&◌, Bool, true, false, List, [], ◌∷◌, ◌++◌, length, ℤ}
use Rattle.std.specs.Prelude.{pos, negsuc, codes, decimal, if◌then◌else◌, ◌==◌, Option, Some, None, MatchBool}
use Rattle.stl_syntax.specs.Characters.{is_digit, all, decimal_value, without_zeros}
use Rattle.stl_syntax.specs.Formula.{Formula, Subformula, constant, atom, negation, conjunction, disjunction}
use Rattle.stl_syntax.specs.Formula.{implication, until, eventually, always, since, once, historically, root}
use Rattle.stl_syntax.specs.Texts.{bool_text}
use Rattle.stl_syntax.specs.declared.scale.Scale.{Scale}
use Rattle.stl_syntax.specs.declared.atom.Atom.{Atom}
use Rattle.stl_syntax.specs.declared.atom.Term.{Term}
use Rattle.stl_syntax.specs.declared.rel.Rel.{Rel}
use Rattle.stl_syntax.specs.declared.rel.Rel.TheVariants.{AtLeast, Above, AtMost, Below}

-- the point and the decimals, where there are any
abbrev pub after_point : List ℕ → List ℕ
after_point [] = []
after_point (d ∷ decimals) = codes "." ++ d ∷ decimals

-- n ticks of 1 / 10^digits as a decimal with the fewest digits
pub record IsDecimalText (digits n : ℕ) (text : List ℕ) : Type 0 where
  pub whole : ℕ
  pub decimals : List ℕ
  pub are_digits : all is_digit decimals ≡ true
  pub fewest : without_zeros decimals ≡ decimals
  pub same : n * 10 ^ length decimals ≡ decimal_value whole decimals * 10 ^ digits
  pub is : text ≡ decimal whole ++ after_point decimals

-- a constant as a decimal, with its sign
abbrev pub IsConstantText : ℕ → ℤ → List ℕ → Type 0
IsConstantText digits (pos n) text = IsDecimalText digits n text
IsConstantText digits (negsuc n) text = (size : List ℕ) × IsDecimalText digits (suc n) size × (text ≡ codes "-" ++ size)

-- the relation's symbol
abbrev pub relation_text : Rel → List ℕ
relation_text AtLeast = codes ">="
relation_text Above = codes ">"
relation_text AtMost = codes "<="
relation_text Below = codes "<"

-- the size of a coefficient and its name
abbrev pub scaled_text : ℕ → List ℕ → List ℕ
scaled_text k name = if k == 1 then name else decimal k ++ codes "*" ++ name

-- the first term, with a minus where it is negative
abbrev pub first_term : Term → List ℕ
first_term t = of_sign t.coef
  where
    of_sign : ℤ → List ℕ
    of_sign (pos k) = scaled_text k t.name
    of_sign (negsuc k) = codes "-" ++ scaled_text (suc k) t.name

-- the other terms, each after its sign
abbrev pub further_terms : List Term → List ℕ
further_terms [] = []
further_terms (t ∷ terms) = of_sign t.coef ++ further_terms terms
  where
    of_sign : ℤ → List ℕ
    of_sign (pos k) = codes " + " ++ scaled_text k t.name
    of_sign (negsuc k) = codes " - " ++ scaled_text (suc k) t.name

-- all terms
abbrev pub terms_text : List Term → List ℕ
terms_text [] = []
terms_text (t ∷ terms) = first_term t ++ further_terms terms

-- an atom
abbrev pub IsAtomText : Scale → Atom → List ℕ → Type 0
IsAtomText s a text =
    (limit : List ℕ) × IsConstantText s.value a.limit limit × (text ≡ terms_text a.terms ++ codes " " ++ relation_text a.rel ++ codes " " ++ limit)

-- the bracket before a bound
abbrev pub opening : Bool → List ℕ
opening is_in = if is_in then codes "[" else codes "]"

-- the bracket after it
abbrev pub closing : Bool → List ℕ
closing is_in = if is_in then codes "]" else codes "["

-- an upper bound
abbrev pub IsUpperText : Scale → Option ℕ → List ℕ → Type 0
IsUpperText s None text = text ≡ codes "inf"
IsUpperText s (Some b) text = IsDecimalText s.time b text

-- a bound with its brackets
abbrev pub IsBoundText : Scale → ℕ → Option ℕ → Bool → Bool → List ℕ → Type 0
IsBoundText s a b a_in b_in text =
    (low high : List ℕ) × IsDecimalText s.time a low × IsUpperText s b high × (text ≡ opening a_in ++ low ++ codes "," ++ high ++ closing b_in)

-- the bound [0,inf] of a past operator is left out
abbrev pub IsPastBoundText : Scale → ℕ → Option ℕ → Bool → Bool → List ℕ → Type 0
IsPastBoundText s a None a_in b_in text = MatchBool ((a == 0) && a_in) (text ≡ []) (IsBoundText s a None a_in b_in text)
IsPastBoundText s a (Some b) a_in b_in text = IsBoundText s a (Some b) a_in b_in text

-- a two-operand operator
abbrev pub has_two : Subformula → Bool
has_two (conjunction p q) = true
has_two (disjunction p q) = true
has_two (implication p q) = true
has_two (until a b p q) = true
has_two (since a b p q) = true
has_two _ = false

-- the text is one of P, in parentheses where it is asked for
abbrev pub InParens : Bool → (List ℕ → Type 0) → List ℕ → Type 0
InParens parens P text = (inner : List ℕ) × P inner × (text ≡ (if parens then codes "(" ++ inner ++ codes ")" else inner))

-- a word, maybe with a bound, before its operand; and between its operands
abbrev pub Before : (List ℕ → Type 0) → (List ℕ → Type 0) → List ℕ → Type 0
Before Word P text = (word x : List ℕ) × Word word × P x × (text ≡ word ++ codes " " ++ x)

-- a word, maybe with a bound, between its operands
abbrev pub Between : (List ℕ → Type 0) → (List ℕ → Type 0) → (List ℕ → Type 0) → List ℕ → Type 0
Between P Word Q text = (x word y : List ℕ) × P x × Word word × Q y × (text ≡ x ++ codes " " ++ word ++ codes " " ++ y)

-- a word without a bound
abbrev pub Bare : List ℕ → List ℕ → Type 0
Bare word text = text ≡ word

-- a word with its bound
abbrev pub Bounded : List ℕ → (List ℕ → Type 0) → List ℕ → Type 0
Bounded word Bound text = (bound : List ℕ) × Bound bound × (text ≡ word ++ bound)

-- the text of a tree
abbrev pub IsPrinted : Scale → Subformula → List ℕ → Type 0
IsPrinted s (constant b) text = text ≡ bool_text b
IsPrinted s (atom i a) text = IsAtomText s a text
IsPrinted s (negation p) text = Before (Bare (codes "not")) (InParens (has_two p) (IsPrinted s p)) text
IsPrinted s (conjunction p q) text = Between (InParens (has_two p) (IsPrinted s p)) (Bare (codes "and")) (InParens (has_two q) (IsPrinted s q)) text
IsPrinted s (disjunction p q) text = Between (InParens (has_two p) (IsPrinted s p)) (Bare (codes "or")) (InParens (has_two q) (IsPrinted s q)) text
IsPrinted s (implication p q) text = Between (InParens (has_two p) (IsPrinted s p)) (Bare (codes "implies")) (InParens (has_two q) (IsPrinted s q)) text
IsPrinted s (until a b p q) text =
    Between (InParens (has_two p) (IsPrinted s p)) (Bounded (codes "until") (IsBoundText s a (Some b) true true)) (InParens (has_two q) (IsPrinted s q)) text
IsPrinted s (since a b p q) text =
    Between (InParens (has_two p) (IsPrinted s p)) (Bounded (codes "since") (IsPastBoundText s a b true true)) (InParens (has_two q) (IsPrinted s q)) text
IsPrinted s (eventually a b a_in b_in p) text =
    Before (Bounded (codes "eventually") (IsBoundText s a (Some b) a_in b_in)) (InParens (has_two p) (IsPrinted s p)) text
IsPrinted s (always a b a_in b_in p) text =
    Before (Bounded (codes "always") (IsBoundText s a (Some b) a_in b_in)) (InParens (has_two p) (IsPrinted s p)) text
IsPrinted s (once a b a_in b_in p) text =
    Before (Bounded (codes "once") (IsPastBoundText s a b a_in b_in)) (InParens (has_two p) (IsPrinted s p)) text
IsPrinted s (historically a b a_in b_in p) text =
    Before (Bounded (codes "historically") (IsPastBoundText s a b a_in b_in)) (InParens (has_two p) (IsPrinted s p)) text

-- the printed text of a formula
abbrev pub IsPrintedFormula : Formula → List ℕ → Type 0
IsPrintedFormula f text = IsPrinted f.scale (root f.nodes) text
