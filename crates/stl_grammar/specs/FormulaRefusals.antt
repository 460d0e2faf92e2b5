-- The first refusal of a text that is no formula within the limits.
use Rattle.std.specs.Prelude.{◌≡◌, ℕ, suc, ◌+◌, ◌*◌, ◌^◌, ◌<◌, ◌&&◌, ◌||◌, ◌==◌, nat_lt, not, Bool, true}
use Rattle.std.specs.Prelude.{false, if◌then◌else◌, List, [], ◌∷◌, ◌++◌, length, reverse, codes, IsTrue}
use Rattle.stl_syntax.specs.Characters.{is_blank, all, after_first}
use Rattle.stl_syntax.specs.Limits.{IsTooLarge}
use Rattle.stl_syntax.specs.Choice.{◌or_else◌, Where}
use Rattle.stl_grammar.specs.Tokens.{Token, word, number, relation, open_paren, close_paren, open_bracket, close_bracket, comma, star, plus, minus, IsToken}
use Rattle.stl_syntax.specs.Formula.{Formula}
use Rattle.stl_grammar.specs.Grammar.{reserved, IsFormula, FormulaText}
use Rattle.stl_syntax.specs.Characters.{is_among}
use Rattle.stl_syntax.specs.declared.node.Node.{Node}
use Rattle.stl_grammar.specs.declared.fault.What.{What}
use Rattle.stl_grammar.specs.declared.fault.What.TheVariants.{Operand, Number, Comma, Bracket, Star, Name, Term, Relation, Constant, Paren, End}
use Rattle.stl_grammar.specs.declared.fault.FormulaFault.{FormulaFault}
use Rattle.stl_grammar.specs.declared.fault.FormulaFault.TheVariants.{Empty, BadByte, Expected, BadNumber, BoundOrder}
use Rattle.stl_grammar.specs.declared.fault.FormulaFault.TheVariants.{UnboundedFuture, TooManyTerms, TooLong, TooDeep}
use Rattle.stl_grammar.specs.declared.fault.FormulaFault.TheVariants.{TooManyNodes, ReachTooLarge, ConstantTooLarge}

-- In what follows `before` are the tokens before a place, the last one first.

-- the words of the constants
abbrev pub constants : List (List ℕ)
constants = codes "true" ∷ codes "false" ∷ []

-- the operators that a formula's operand may follow, with a bound or without one
abbrev pub prefixes : List (List ℕ)
prefixes = codes "not" ∷ codes "eventually" ∷ codes "always" ∷ codes "once" ∷ codes "historically" ∷ []

-- the operators that look ahead
abbrev pub ahead : List (List ℕ)
ahead = codes "until" ∷ codes "eventually" ∷ codes "always" ∷ []

-- what is pending: a parenthesis up to its end, an operator up to the end of its operand, an `implies` up to the end of its right side
pub data Pending : Type 0 where
  a_paren : Pending
  an_operator : Pending
  an_implies : Pending

-- what is pending after the end of an operand
abbrev pub after_operand : List Pending → List Pending
after_operand (an_operator ∷ pending) = after_operand pending
after_operand pending = pending

-- what is pending after a closing parenthesis
abbrev pub after_paren : List Pending → List Pending
after_paren [] = []
after_paren (a_paren ∷ pending) = after_operand pending
after_paren (_ ∷ pending) = after_paren pending

-- the last token is the number of a constant
abbrev pub ends_constant : List Token → Bool
ends_constant (number n k ∷ relation r ∷ _) = true
ends_constant (number n k ∷ plus ∷ relation r ∷ _) = true
ends_constant (number n k ∷ minus ∷ relation r ∷ _) = true
ends_constant _ = false

-- what is pending after the token t, which may end a constant
abbrev pub pending_after : Bool → Token → List Pending → List Pending
pending_after constant open_paren pending = a_paren ∷ pending
pending_after constant close_paren pending = after_paren pending
pending_after constant (number n k) pending = if constant then after_operand pending else pending
pending_after constant (word w) pending =
    if is_among w constants then after_operand pending
    else if is_among w prefixes then an_operator ∷ pending
    else if is_among w (codes "implies" ∷ []) then an_implies ∷ pending else pending
pending_after constant _ pending = pending

-- what is pending after the tokens
abbrev pub pending : List Token → List Pending
pending [] = []
pending (t ∷ before) = pending_after (ends_constant (t ∷ before)) t (pending before)

-- a parenthesis is pending
abbrev pub has_paren : List Pending → Bool
has_paren [] = false
has_paren (a_paren ∷ more) = true
has_paren (_ ∷ more) = has_paren more

-- what is expected after a whole operand
abbrev pub after_whole : List Token → What
after_whole before = if has_paren (pending before) then Paren else End

-- what is expected after the tokens
abbrev pub expected_after_number : List Token → List Token → What
expected_after_number whole (comma ∷ _) = Bracket
expected_after_number whole (open_bracket ∷ word w ∷ _) = if is_among w (codes "inf" ∷ []) then Star else Comma
expected_after_number whole (close_bracket ∷ word w ∷ _) = if is_among w (codes "inf" ∷ []) then Star else Comma
expected_after_number whole _ = if ends_constant whole then after_whole whole else Star

-- after a sign of a constant, or of a term
abbrev pub expected_after_sign : List Token → What
expected_after_sign (relation r ∷ _) = Constant
expected_after_sign _ = Term

-- after a bracket that opens a bound, or that closes one
abbrev pub expected_after_bracket : List Token → What
expected_after_bracket (word w ∷ _) = if is_among w (codes "inf" ∷ []) then Operand else Number
expected_after_bracket _ = Operand

-- after a word
abbrev pub expected_after_word : List ℕ → List Token → What
expected_after_word w before =
    if is_among w (codes "inf" ∷ []) then Bracket
    else if is_among w constants then after_whole before
    else if is_among w reserved then Operand else Relation

-- what is expected after the tokens
abbrev pub expected : List Token → What
expected [] = Operand
expected (word w ∷ before) = expected_after_word w (word w ∷ before)
expected (number n k ∷ before) = expected_after_number (number n k ∷ before) before
expected (relation r ∷ before) = Constant
expected (open_paren ∷ before) = Operand
expected (close_paren ∷ before) = after_whole (close_paren ∷ before)
expected (open_bracket ∷ before) = expected_after_bracket before
expected (close_bracket ∷ before) = expected_after_bracket before
expected (comma ∷ before) = Number
expected (star ∷ before) = Name
expected (plus ∷ before) = expected_after_sign before
expected (minus ∷ before) = expected_after_sign before

-- some formula begins with these tokens; and is these tokens
abbrev pub MayBegin : List Token → Type 0
MayBegin before = (after : List Token) × (nodes : List Node) × IsFormula (record { time = 0; value = 0 }) 0 (reverse before ++ after) nodes

-- the tokens are a formula
abbrev pub MayEnd : List Token → Type 0
MayEnd before = (nodes : List Node) × IsFormula (record { time = 0; value = 0 }) 0 (reverse before) nodes

-- a bracket that may open a bound of the operator comes next, blanks aside
abbrev pub opens_bound : List ℕ → List ℕ → Bool
opens_bound w text = at_bracket (after_first is_blank text)
  where
    at_bracket : List ℕ → Bool
    at_bracket [] = false
    at_bracket (c ∷ more) = (c == 91) || ((c == 93) && not (is_among w (codes "until" ∷ [])))

-- the tokens are an operator that looks ahead, and its bound up to the comma
abbrev pub begins_future_bound : List Token → Bool
begins_future_bound (comma ∷ number n k ∷ open_bracket ∷ word w ∷ _) = is_among w ahead
begins_future_bound (comma ∷ number n k ∷ close_bracket ∷ word w ∷ _) = is_among w ahead
begins_future_bound _ = false

-- an operator that looks ahead has no bound, or no upper one
abbrev pub is_unbounded : List Token → Token → List ℕ → Bool
is_unbounded before (word w) text =
    (is_among w ahead && not (opens_bound w text)) || (is_among w (codes "inf" ∷ []) && begins_future_bound before)
is_unbounded before _ text = false

-- an operand is expected
abbrev pub is_operand : What → Bool
is_operand Operand = true
is_operand _ = false

-- a constant, an operator word or the first token of an atom makes a node
abbrev pub makes_node : What → Token → Bool
makes_node what (word w) = if is_among w reserved then not (is_among w (codes "inf" ∷ [])) else is_operand what
makes_node what (number n k) = is_operand what
makes_node what plus = is_operand what
makes_node what minus = is_operand what
makes_node what _ = false

-- how many nodes the tokens make
abbrev pub nodes_made : List Token → ℕ
nodes_made [] = 0
nodes_made (t ∷ before) = if makes_node (expected before) t then suc (nodes_made before) else nodes_made before

-- how many terms the atom has so far
abbrev pub terms_made : List Token → ℕ
terms_made (word w ∷ before) = if is_among w reserved then 0 else suc (terms_made before)
terms_made (number n k ∷ before) = terms_made before
terms_made (star ∷ before) = terms_made before
terms_made (plus ∷ before) = terms_made before
terms_made (minus ∷ before) = terms_made before
terms_made _ = 0

-- a sign after the fourth term
abbrev pub begins_fifth_term : List Token → Token → Bool
begins_fifth_term before t = is_sign t && (terms_made before == 4) && at_relation (expected before)
  where
    is_sign : Token → Bool
    is_sign plus = true
    is_sign minus = true
    is_sign _ = false

    at_relation : What → Bool
    at_relation Relation = true
    at_relation _ = false

-- the number n / 10^k passes the limit of a coefficient, a constant or a bound
abbrev pub passes_limit : What → ℕ → ℕ → Bool
passes_limit Constant n k = nat_lt 6 k || nat_lt 1073741824 n
passes_limit Number n k = nat_lt 6 k || nat_lt 4294967295 n
passes_limit _ n k = nat_lt 0 k || nat_lt 16 n

-- the token is a number past its limit
abbrev pub is_bad_number : List Token → Token → Bool
is_bad_number before (number n k) = passes_limit (expected before) n k
is_bad_number before _ = false

-- the upper bound is less than the lower
abbrev pub is_out_of_order : List Token → Token → Bool
is_out_of_order (comma ∷ number a j ∷ _) (number b k) = nat_lt (b * 10 ^ j) (a * 10 ^ k)
is_out_of_order _ t = false

-- the refusals at the token t at place p, in the order in which they are tried; `text` follows it
abbrev pub RefusedAt : List Token → Token → List ℕ → ℕ → FormulaFault → Type 0
RefusedAt before t text p =
    Where (IsTrue (is_unbounded before t text)) (UnboundedFuture p)
    or_else Where (¬ MayBegin (t ∷ before)) (Expected p (expected before))
    or_else Where (64 < length (pending (t ∷ before))) (TooDeep p)
    or_else Where (256 < nodes_made (t ∷ before)) (TooManyNodes p)
    or_else Where (IsTrue (begins_fifth_term before t)) (TooManyTerms p)
    or_else Where (IsTrue (is_bad_number before t)) (BadNumber p)
    or_else Where (IsTrue (is_out_of_order before t)) (BoundOrder p)

-- no token begins here
abbrev pub BeginsNoToken : List ℕ → Type 0
BeginsNoToken whole = (bytes text : List ℕ) (t : Token) → whole ≡ bytes ++ text → ¬ IsToken bytes text t

-- the refusal of the first token, from place p on, at which one stands
pub data TokenFault : List Token → ℕ → List ℕ → FormulaFault → Type 0 where
  blank : {before : List Token} {p c : ℕ} {text : List ℕ} {r : FormulaFault} → is_blank c ≡ true
      → TokenFault before (suc p) text r → TokenFault before p (c ∷ text) r
  bad_byte : {before : List Token} {p c : ℕ} {text : List ℕ} → is_blank c ≡ false → BeginsNoToken (c ∷ text) → TokenFault before p (c ∷ text) (BadByte p)
  here : {before : List Token} {p : ℕ} {whole : List ℕ} {r : FormulaFault} (t : Token) (bytes text : List ℕ) → whole ≡ bytes ++ text → IsToken bytes text t
      → RefusedAt before t text p r → TokenFault before p whole r
  later : {before : List Token} {p : ℕ} {whole : List ℕ} {r : FormulaFault} (t : Token) (bytes text : List ℕ) → whole ≡ bytes ++ text → IsToken bytes text t
      → ((x : FormulaFault) → ¬ RefusedAt before t text p x) → TokenFault (t ∷ before) (p + length bytes) text r → TokenFault before p whole r
  at_end : {before : List Token} {p : ℕ} → ¬ MayEnd before → TokenFault before p [] (Expected p (expected before))

-- the whole text is a formula, and too large
abbrev pub IsLateFault : List ℕ → FormulaFault → Type 0
IsLateFault text r = (f : Formula) × FormulaText text f × IsTooLarge ConstantTooLarge ReachTooLarge f.nodes r

-- the refusal of a text
abbrev pub IsFormulaFault : List ℕ → FormulaFault → Type 0
IsFormulaFault text =
    Where (8192 < length text) (TooLong (length text))
    or_else Where (IsTrue (all is_blank text)) Empty
    or_else TokenFault [] 0 text
    or_else IsLateFault text

-- the text is one of the formula, and nothing in it is refused
pub record IsFormulaOf (text : List ℕ) (f : Formula) : Type 0 where
  pub read : FormulaText text f
  pub sound : (r : FormulaFault) → ¬ IsFormulaFault text r
