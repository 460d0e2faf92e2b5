-- At most one refusal of a token stands first.
use Rattle.std.proofs.Common.{◌≡◌, ℕ, List, [], ◌∷◌, ◌++◌, refl, ap, sym, ◌∙◌, Bool, true, false, if◌then◌else◌, arith, append_assoc}
use Rattle.std.proofs.lemmas.List.{append_cancel_right}
use Rattle.std.specs.Prelude.{◌==◌, Option, Some, None}
use Rattle.stl_syntax.specs.Characters.{is_blank, is_digit, begins_word, goes_on_word, all, StopsAt, after_first, begins_decimals, without_zeros}
use Rattle.stl_syntax.proofs.ChoiceLemmas.{AtMostOne, where-unique, or_else-unique}
use Rattle.stl_syntax.proofs.CharacterLemmas.{span_of, span_all, after_all}
use Rattle.stl_grammar.specs.Tokens.{Token, word, relation, open_paren, close_paren, open_bracket, close_bracket, comma, star}
use Rattle.stl_grammar.specs.Tokens.{plus, minus, decimal_number, IsToken, a_word, an_integer, a_decimal}
use Rattle.stl_grammar.specs.Tokens.{above, below}
use Rattle.stl_grammar.specs.Tokens.{Lexes, nothing, token, blank as skip}
use Rattle.stl_syntax.specs.Formula.{Formula}
use Rattle.stl_grammar.specs.Grammar.{FormulaText, time_digits, value_digits}
use Rattle.stl_syntax.specs.declared.scale.Scale.{Scale}
use Rattle.stl_grammar.specs.FormulaRefusals.{RefusedAt, TokenFault, blank, bad_byte, here, later, at_end}
use Rattle.stl_syntax.specs.declared.rel.Rel.TheVariants.{AtLeast, Above, AtMost, Below}
use Rattle.stl_grammar.specs.declared.fault.FormulaFault.{FormulaFault}

tail : List ℕ → List ℕ
tail [] = []
tail (c ∷ text) = text

-- the symbol that begins with c, and the text after it
symbol : ℕ → List ℕ → Option (Token × List ℕ)
symbol c text =
    if c == 40 then Some (open_paren, text) else if c == 41 then Some (close_paren, text) else if c == 91 then Some (open_bracket, text)
    else if c == 93 then Some (close_bracket, text) else if c == 44 then Some (comma, text) else if c == 42 then Some (star, text)
    else if c == 43 then Some (plus, text) else if c == 45 then Some (minus, text) else None

-- the first token of a text, and the text after it
first_token : List ℕ → Option (Token × List ℕ)
first_token [] = None
first_token (c ∷ text) =
    if is_blank c then None
    else if begins_word c then Some (word (c ∷ span_of goes_on_word text), after_first goes_on_word text)
    else if is_digit c then number_of (span_of is_digit (c ∷ text)) (after_first is_digit (c ∷ text))
    else if c == 62 then (if starts_equal text then Some (relation AtLeast, tail text) else Some (relation Above, text))
    else if c == 60 then (if starts_equal text then Some (relation AtMost, tail text) else Some (relation Below, text))
    else symbol c text
  where
    starts_equal : List ℕ → Bool
    starts_equal [] = false
    starts_equal (d ∷ more) = d == 61

    number_of : List ℕ → List ℕ → Option (Token × List ℕ)
    number_of digits more =
        if begins_decimals more then Some (decimal_number digits (without_zeros (span_of is_digit (tail more))), after_first is_digit (tail more))
        else Some (decimal_number digits [], more)

word_not_blank : (c : ℕ) → begins_word c ≡ true → is_blank c ≡ false
word_not_blank c h = grind (arith, h)

digit_not_blank : (c : ℕ) → is_digit c ≡ true → is_blank c ≡ false
digit_not_blank c h = grind (arith, h)

digit_no_word : (c : ℕ) → is_digit c ≡ true → begins_word c ≡ false
digit_no_word c h = grind (arith, h)

decimal_first : (c : ℕ) (digits : List ℕ) (d : ℕ) (decimals text : List ℕ) → all is_digit (c ∷ digits) ≡ true → all is_digit (d ∷ decimals) ≡ true
    → StopsAt is_digit text → first_token (c ∷ (digits ++ 46 ∷ d ∷ (decimals ++ text)))
    ≡ Some (decimal_number (c ∷ digits) (without_zeros (d ∷ decimals)), text)
unfolding first_token tail
decimal_first c digits d decimals text h k l =
    let a : is_digit c ≡ true = grind (arith, h) in let b : is_digit d ≡ true = grind (arith, k) in
    rw (
      digit_not_blank c a,
      digit_no_word c a,
      span_all is_digit (c ∷ digits) (46 ∷ d ∷ (decimals ++ text)) h refl,
      after_all is_digit (c ∷ digits) (46 ∷ d ∷ (decimals ++ text)) h refl,
      span_all is_digit (d ∷ decimals) text k l,
      after_all is_digit (d ∷ decimals) text k l,
      a,
      b,
    ) refl

-- a token of a text is its first
token_first : (bytes text : List ℕ) (t : Token) → IsToken bytes text t → first_token (bytes ++ text) ≡ Some (t, text)
unfolding first_token symbol tail
token_first bytes text t (a_word {c = c} {rest} h k l) =
    rw (word_not_blank c h, h, span_all goes_on_word rest text k l, after_all goes_on_word rest text k l) refl
token_first bytes text t (an_integer {c = c} {digits} h k l) =
    let d : is_digit c ≡ true = grind (arith, h) in
    rw (digit_not_blank c d, digit_no_word c d, span_all is_digit (c ∷ digits) text h k, after_all is_digit (c ∷ digits) text h k, d, l) refl
token_first bytes text t (a_decimal c digits d decimals h k l) =
    ap first_token (append_assoc (c ∷ digits) (46 ∷ d ∷ decimals) text) ∙ decimal_first c digits d decimals text h k l
token_first bytes [] t (above h) = refl
token_first bytes (d ∷ text) t (above h) = rw h refl
token_first bytes [] t (below h) = refl
token_first bytes (d ∷ text) t (below h) = rw h refl
token_first bytes text t _ = refl

abbrev token_of : Option (Token × List ℕ) → Token
token_of None = comma
token_of (Some p) = p.0

abbrev rest_of : Option (Token × List ℕ) → List ℕ
rest_of None = []
rest_of (Some p) = p.1

-- the first token of a text, its bytes and the text after it are determined
pub token-unique : (whole bytes bytes' text text' : List ℕ) (t t' : Token) → whole ≡ bytes ++ text → IsToken bytes text t
    → whole ≡ bytes' ++ text' → IsToken bytes' text' t'
    → (t ≡ t') × (text ≡ text') × (bytes ≡ bytes')
token-unique whole bytes bytes' text text' t t' e h e' h' =
    let a : first_token whole ≡ Some (t, text) = ap first_token e ∙ token_first bytes text t h in
    let a' : first_token whole ≡ Some (t', text') = ap first_token e' ∙ token_first bytes' text' t' h' in
    let x : t ≡ t' = ap token_of (sym a ∙ a') in
    let y : text ≡ text' = ap rest_of (sym a ∙ a') in
    (x, y, append_cancel_right bytes bytes' text (sym e ∙ e' ∙ ap (λ z. bytes' ++ z) (sym y)))

blank_first : (c : ℕ) (rest : List ℕ) → is_blank c ≡ true → first_token (c ∷ rest) ≡ None
unfolding first_token
blank_first c rest b = rw b refl

-- no token begins with a blank, or where the text ends
pub no_token_at_blank : (c : ℕ) (rest bytes text : List ℕ) (t : Token) → is_blank c ≡ true → c ∷ rest ≡ bytes ++ text → ¬ IsToken bytes text t
no_token_at_blank c rest bytes text t b e h = let a : first_token (c ∷ rest) ≡ Some (t, text) = ap first_token e ∙ token_first bytes text t h in blank_none a
  where
    blank_none : first_token (c ∷ rest) ≡ Some (t, text) → ⊥
    blank_none a = let n : first_token (c ∷ rest) ≡ None = blank_first c rest b in cc

-- nor at the end
pub no_token_at_end : (bytes text : List ℕ) (t : Token) → [] ≡ bytes ++ text → ¬ IsToken bytes text t
unfolding first_token
no_token_at_end bytes text t e h = let a : first_token [] ≡ Some (t, text) = ap first_token e ∙ token_first bytes text t h in cc

-- at most one refusal stands at a token
pub RefusedAt-unique : (before : List Token) (t : Token) (text : List ℕ) (p : ℕ) → AtMostOne (RefusedAt before t text p)
RefusedAt-unique before t text p =
    or_else-unique _ _ (where-unique _ _) (or_else-unique _ _ (where-unique _ _) (or_else-unique _ _ (where-unique _ _) (or_else-unique _ _ (where-unique _ _)
    (or_else-unique _ _ (where-unique _ _) (or_else-unique _ _ (where-unique _ _) (where-unique _ _))))))

-- the first refusal of a token is determined
pub TokenFault-unique : {before : List Token} {p : ℕ} {whole : List ℕ} {r r' : FormulaFault} → TokenFault before p whole r
    → TokenFault before p whole r' → r ≡ r'
TokenFault-unique (blank b h) (blank b' h') = TokenFault-unique h h'
TokenFault-unique (blank b h) (bad_byte c n) = absurd (cc)
TokenFault-unique (blank {c = c} {text} b h) (here t bytes rest e k x) = absurd (no_token_at_blank c text bytes rest t b e k)
TokenFault-unique (blank {c = c} {text} b h) (later t bytes rest e k x y) = absurd (no_token_at_blank c text bytes rest t b e k)
TokenFault-unique (bad_byte c n) (blank b h) = absurd (cc)
TokenFault-unique (bad_byte c n) (bad_byte c' n') = refl
TokenFault-unique (bad_byte c n) (here t bytes rest e k x) = absurd (n bytes rest t e k)
TokenFault-unique (bad_byte c n) (later t bytes rest e k x y) = absurd (n bytes rest t e k)
TokenFault-unique (here t bytes rest e k x) (blank {c = c} {text} b h) = absurd (no_token_at_blank c text bytes rest t b e k)
TokenFault-unique (here t bytes rest e k x) (bad_byte c n) = absurd (n bytes rest t e k)
TokenFault-unique {before} {p} {whole} {r} {r'} (here t bytes rest e k x) (here t' bytes' rest' e' k' x') =
    let u = token-unique whole bytes bytes' rest rest' t t' e k e' k' in RefusedAt-unique before t rest p r r' x (rw (u.0, u.1) x')
TokenFault-unique {before} {p} {whole} {r} {r'} (here t bytes rest e k x) (later t' bytes' rest' e' k' y' z') =
    let u = token-unique whole bytes bytes' rest rest' t t' e k e' k' in absurd (y' r (rw (← u.0, ← u.1) x))
TokenFault-unique (here t bytes rest e k x) (at_end n) = absurd (no_token_at_end bytes rest t e k)
TokenFault-unique (later t bytes rest e k y z) (blank {c = c} {text} b h) = absurd (no_token_at_blank c text bytes rest t b e k)
TokenFault-unique (later t bytes rest e k y z) (bad_byte c n) = absurd (n bytes rest t e k)
TokenFault-unique {before} {p} {whole} {r} {r'} (later t bytes rest e k y z) (here t' bytes' rest' e' k' x') =
    let u = token-unique whole bytes bytes' rest rest' t t' e k e' k' in absurd (y r' (rw (u.0, u.1) x'))
TokenFault-unique {before} {p} {whole} {r} {r'} (later t bytes rest e k y z) (later t' bytes' rest' e' k' y' z') =
    let u = token-unique whole bytes bytes' rest rest' t t' e k e' k' in TokenFault-unique z (rw (u.0, u.1, u.2) z')
TokenFault-unique (later t bytes rest e k y z) (at_end n) = absurd (no_token_at_end bytes rest t e k)
TokenFault-unique (at_end n) (here t bytes rest e k x) = absurd (no_token_at_end bytes rest t e k)
TokenFault-unique (at_end n) (later t bytes rest e k y z) = absurd (no_token_at_end bytes rest t e k)
TokenFault-unique (at_end n) (at_end n') = refl

-- the tokens of a text are determined, and so is the scale of its formula
pub Lexes-unique : {text : List ℕ} {ts ts' : List Token} → Lexes text ts → Lexes text ts' → ts ≡ ts'
Lexes-unique nothing nothing = refl
Lexes-unique nothing (token {t = t} bytes rest e k h) = absurd (no_token_at_end bytes rest t e k)
Lexes-unique (skip b h) (skip b' h') = Lexes-unique h h'
Lexes-unique (skip {c = c} {text = text} b h) (token {t = t} bytes rest e k h') = absurd (no_token_at_blank c text bytes rest t b e k)
Lexes-unique (token {t = t} bytes rest e k h) nothing = absurd (no_token_at_end bytes rest t e k)
Lexes-unique (token {t = t} bytes rest e k h) (skip {c = c} {text = text} b h') = absurd (no_token_at_blank c text bytes rest t b e k)
Lexes-unique (token {t = t} {tokens = ts} {whole = whole} bytes rest e k h) (token {t = t'} bytes' rest' e' k' h') =
    let u = token-unique whole bytes bytes' rest rest' t t' e k e' k' in ap (λ x. x ∷ ts) u.0 ∙ ap (λ xs. t' ∷ xs) (Lexes-unique h (rw u.1 h'))

abbrev made_scale : List Token → Scale
made_scale ts = record { time = time_digits ts; value = value_digits ts }

-- a text has one scale
pub scale-unique : (text : List ℕ) (f f' : Formula) → FormulaText text f → FormulaText text f' → f.scale ≡ f'.scale
scale-unique text f f' h h' = h.scale ∙ (ap (λ ts. made_scale ts) (Lexes-unique h.lexed h'.lexed) ∙ sym h'.scale)
