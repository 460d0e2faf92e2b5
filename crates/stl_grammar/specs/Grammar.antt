-- The grammar of formulas: the nodes that a list of tokens stands for, with their numbers in ticks of a scale.
use Rattle.std.specs.Prelude.{◌≡◌, ℕ, ◌+◌, max, Bool, true, false, List, [], ◌∷◌, ◌++◌, length, ℤ, pos, neg_ℤ, codes, Option, Some, None}
use Rattle.stl_syntax.specs.Characters.{ticks, is_among}
pub use Rattle.stl_syntax.specs.Names.{reserved}
pub use Rattle.stl_syntax.specs.PostOrder.{top}
use Rattle.stl_syntax.specs.Formula.{Formula}
pub use Rattle.stl_grammar.specs.Tokens.{Token, word, number, relation, open_paren, close_paren, open_bracket, close_bracket, comma, star, plus, minus, Lexes}
use Rattle.stl_syntax.specs.declared.scale.Scale.{Scale}
use Rattle.stl_syntax.specs.declared.atom.Atom.{Atom}
use Rattle.stl_syntax.specs.declared.atom.Term.{Term}
use Rattle.stl_syntax.specs.declared.rel.Rel.{Rel}
use Rattle.stl_syntax.specs.declared.node.Node.{Node}
use Rattle.stl_syntax.specs.declared.node.Node.TheVariants.{Const, Atom as Leaf, Not, And, Or, Implies, Until, Eventually, Always, Since, Once, Historically}

-- a constant: a sign, where there is one, and a number
pub data IsConstant (digits : ℕ) : List Token → ℤ → Type 0 where
  plain : {n k : ℕ} → IsConstant digits (number n k ∷ []) (pos (ticks digits n k))
  positive : {n k : ℕ} → IsConstant digits (plus ∷ number n k ∷ []) (pos (ticks digits n k))
  negative : {n k : ℕ} → IsConstant digits (minus ∷ number n k ∷ []) (neg_ℤ (pos (ticks digits n k)))

-- a term without its sign; a coefficient with decimals is refused as too large
pub data IsTerm : List Token → ℕ → List ℕ → Type 0 where
  name : {w : List ℕ} → is_among w reserved ≡ false → IsTerm (word w ∷ []) 1 w
  scaled : {n k : ℕ} {w : List ℕ} → is_among w reserved ≡ false → IsTerm (number n k ∷ star ∷ word w ∷ []) n w

-- further terms, each after a sign
pub data AreTerms : List Token → List Term → Type 0 where
  none : AreTerms [] []
  more_plus : {k : ℕ} {w : List ℕ} {ts us : List Token} {terms : List Term} → IsTerm ts k w → AreTerms us terms
      → AreTerms (plus ∷ ts ++ us) (record { coef = pos k; name = w } ∷ terms)
  more_minus : {k : ℕ} {w : List ℕ} {ts us : List Token} {terms : List Term} → IsTerm ts k w → AreTerms us terms
      → AreTerms (minus ∷ ts ++ us) (record { coef = neg_ℤ (pos k); name = w } ∷ terms)

-- an atom, its first term with a sign or without one
pub data IsAtom (digits : ℕ) : List Token → Atom → Type 0 where
  first : {k : ℕ} {w : List ℕ} {ts us vs : List Token} {terms : List Term} {rel : Rel} {c : ℤ} → IsTerm ts k w → AreTerms us terms → IsConstant digits vs c
      → IsAtom digits (ts ++ us ++ relation rel ∷ vs) (record { terms = record { coef = pos k; name = w } ∷ terms; rel = rel; limit = c })
  signed : {us vs : List Token} {terms : List Term} {rel : Rel} {c : ℤ} {t : Term} → AreTerms us (t ∷ terms) → IsConstant digits vs c
      → IsAtom digits (us ++ relation rel ∷ vs) (record { terms = t ∷ terms; rel = rel; limit = c })

-- where the window of an operator lies
pub data Direction : Type 0 where
  ahead : Direction
  behind : Direction

-- whether the ends of an operator's bound may be out
pub data Ends : Type 0 where
  closed : Ends
  free : Ends

-- the bracket before a bound; reversed where that end is out
pub data IsOpening : Ends → Token → Bool → Type 0 where
  inside : {e : Ends} → IsOpening e open_bracket true
  outside : IsOpening free close_bracket false

-- the bracket after a bound
pub data IsClosing : Ends → Token → Bool → Type 0 where
  inside : {e : Ends} → IsClosing e close_bracket true
  outside : IsClosing free open_bracket false

-- the bound of an operator, with each end in or out: a window behind may be left out, or have no upper end
pub data IsBound (digits : ℕ) : Direction → Ends → List Token → ℕ → Option ℕ → Bool → Bool → Type 0 where
  nothing : {e : Ends} → IsBound digits behind e [] 0 None true true
  bounded : {d : Direction} {e : Ends} {a j b k : ℕ} {x y : Token} {a_in b_in : Bool} → IsOpening e x a_in → IsClosing e y b_in
      → IsBound digits d e (x ∷ number a j ∷ comma ∷ number b k ∷ y ∷ []) (ticks digits a j) (Some (ticks digits b k)) a_in b_in
  unbounded : {e : Ends} {a j : ℕ} {x y : Token} {a_in b_in : Bool} → IsOpening e x a_in → IsClosing e y b_in
      → IsBound digits behind e (x ∷ number a j ∷ comma ∷ word (codes "inf") ∷ y ∷ []) (ticks digits a j) None a_in true

-- tokens and the nodes that they make from place k on, in post-order
mutual
  pub data IsFormula (s : Scale) : ℕ → List Token → List Node → Type 0 where
    disjunct : {k : ℕ} {ts : List Token} {ns : List Node} → IsDisjunct s k ts ns → IsFormula s k ts ns
    implies : {k : ℕ} {ts us : List Token} {ns ms : List Node} → IsDisjunct s k ts ns → IsFormula s (k + length ns) us ms
        → IsFormula s k (ts ++ word (codes "implies") ∷ us) (ns ++ ms ++ Implies (top k ns) (top (k + length ns) ms) ∷ [])

  -- `or` groups to the left
  pub data IsDisjunct (s : Scale) : ℕ → List Token → List Node → Type 0 where
    conjunct : {k : ℕ} {ts : List Token} {ns : List Node} → IsConjunct s k ts ns → IsDisjunct s k ts ns
    or : {k : ℕ} {ts us : List Token} {ns ms : List Node} → IsDisjunct s k ts ns → IsConjunct s (k + length ns) us ms
        → IsDisjunct s k (ts ++ word (codes "or") ∷ us) (ns ++ ms ++ Or (top k ns) (top (k + length ns) ms) ∷ [])

  -- `and` groups to the left
  pub data IsConjunct (s : Scale) : ℕ → List Token → List Node → Type 0 where
    timed : {k : ℕ} {ts : List Token} {ns : List Node} → IsTimed s k ts ns → IsConjunct s k ts ns
    and : {k : ℕ} {ts us : List Token} {ns ms : List Node} → IsConjunct s k ts ns → IsTimed s (k + length ns) us ms
        → IsConjunct s k (ts ++ word (codes "and") ∷ us) (ns ++ ms ++ And (top k ns) (top (k + length ns) ms) ∷ [])

  -- at most one until or since
  pub data IsTimed (s : Scale) : ℕ → List Token → List Node → Type 0 where
    operand : {k : ℕ} {ts : List Token} {ns : List Node} → IsOperand s k ts ns → IsTimed s k ts ns
    until : {k a b : ℕ} {ts us vs : List Token} {ns ms : List Node} → IsOperand s k ts ns → IsBound s.time ahead closed us a (Some b) true true
        → IsOperand s (k + length ns) vs ms
        → IsTimed s k (ts ++ word (codes "until") ∷ us ++ vs) (ns ++ ms ++ Until (top k ns) (top (k + length ns) ms) a b ∷ [])
    since : {k a : ℕ} {b : Option ℕ} {ts us vs : List Token} {ns ms : List Node} → IsOperand s k ts ns → IsBound s.time behind closed us a b true true
        → IsOperand s (k + length ns) vs ms
        → IsTimed s k (ts ++ word (codes "since") ∷ us ++ vs) (ns ++ ms ++ Since (top k ns) (top (k + length ns) ms) a b ∷ [])

  -- a constant, an atom, parentheses, or a one-operand operator with its operand
  pub data IsOperand (s : Scale) : ℕ → List Token → List Node → Type 0 where
    not : {k : ℕ} {ts : List Token} {ns : List Node} → IsOperand s k ts ns → IsOperand s k (word (codes "not") ∷ ts) (ns ++ Not (top k ns) ∷ [])
    eventually : {k a b : ℕ} {a_in b_in : Bool} {ts us : List Token} {ns : List Node} → IsBound s.time ahead free us a (Some b) a_in b_in → IsOperand s k ts ns
        → IsOperand s k (word (codes "eventually") ∷ us ++ ts) (ns ++ Eventually (top k ns) a b a_in b_in ∷ [])
    always : {k a b : ℕ} {a_in b_in : Bool} {ts us : List Token} {ns : List Node} → IsBound s.time ahead free us a (Some b) a_in b_in → IsOperand s k ts ns
        → IsOperand s k (word (codes "always") ∷ us ++ ts) (ns ++ Always (top k ns) a b a_in b_in ∷ [])
    once : {k a : ℕ} {b : Option ℕ} {a_in b_in : Bool} {ts us : List Token} {ns : List Node} → IsBound s.time behind free us a b a_in b_in → IsOperand s k ts ns
        → IsOperand s k (word (codes "once") ∷ us ++ ts) (ns ++ Once (top k ns) a b a_in b_in ∷ [])
    historically : {k a : ℕ} {b : Option ℕ} {a_in b_in : Bool} {ts us : List Token} {ns : List Node}
        → IsBound s.time behind free us a b a_in b_in → IsOperand s k ts ns
        → IsOperand s k (word (codes "historically") ∷ us ++ ts) (ns ++ Historically (top k ns) a b a_in b_in ∷ [])
    always_true : {k : ℕ} → IsOperand s k (word (codes "true") ∷ []) (Const true ∷ [])
    always_false : {k : ℕ} → IsOperand s k (word (codes "false") ∷ []) (Const false ∷ [])
    parens : {k : ℕ} {ts : List Token} {ns : List Node} → IsFormula s k ts ns → IsOperand s k (open_paren ∷ ts ++ close_paren ∷ []) ns
    atom : {k : ℕ} {ts : List Token} {a : Atom} → IsAtom s.value ts a → IsOperand s k ts (Leaf a ∷ [])

-- the decimals of the number with which the tokens begin, after a sign or without one
abbrev pub first_decimals : List Token → ℕ
first_decimals (number n k ∷ _) = k
first_decimals (plus ∷ number n k ∷ _) = k
first_decimals (minus ∷ number n k ∷ _) = k
first_decimals _ = 0

-- the greatest number of decimals of the constants, which follow relations
abbrev pub value_digits : List Token → ℕ
value_digits [] = 0
value_digits (relation r ∷ tokens) = max (first_decimals tokens) (value_digits tokens)
value_digits (_ ∷ tokens) = value_digits tokens

-- the greatest number of decimals of the bounds, which stand about commas
abbrev pub time_digits : List Token → ℕ
time_digits [] = 0
time_digits (number n k ∷ tokens) = max (before_comma k tokens) (time_digits tokens)
  where
    before_comma : ℕ → List Token → ℕ
    before_comma k (comma ∷ tokens) = max k (first_decimals tokens)
    before_comma k _ = 0
time_digits (_ ∷ tokens) = time_digits tokens

-- the text is that of the formula
pub record FormulaText (text : List ℕ) (f : Formula) : Type 0 where
  pub tokens : List Token
  pub lexed : Lexes text tokens
  pub scale : f.scale ≡ record { time = time_digits tokens; value = value_digits tokens }
  pub parsed : IsFormula f.scale 0 tokens f.nodes
