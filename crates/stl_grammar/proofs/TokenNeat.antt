-- Tokens with few decimals, of which no coefficient has any.
use Rattle.std.proofs.Common.{◌≡◌, ℕ, ◌≤◌, List, [], ◌∷◌, ◌++◌, refl, Bool, true, false}
use Rattle.std.specs.Prelude.{codes}
use Rattle.stl_syntax.specs.declared.scale.Scale.{Scale}
use Rattle.stl_grammar.specs.Tokens.{Token, word, number, relation, open_paren, close_paren, comma, star}
use Rattle.stl_grammar.specs.Grammar.{IsConstant, plain, time_digits}
use Rattle.stl_grammar.specs.declared.operator.Timed.{Timed}
use Rattle.stl_grammar.proofs.Derivations.{by_brackets, Bounded, left_out, within, endless}
use Rattle.stl_grammar.proofs.TokenEnds.{ends_well, begins_comma, IsShort, short_joined, short_word, short_parens, short_bound}

-- a number before a star has no decimals
abbrev pub BeforeStar : ℕ → List Token → Type 0
BeforeStar k (star ∷ ts) = k ≡ 0
BeforeStar k _ = Unit {0}

abbrev pub ArePlain : List Token → Type 0
ArePlain [] = Unit {0}
ArePlain (number n k ∷ ts) = BeforeStar k ts × ArePlain ts
ArePlain (_ ∷ ts) = ArePlain ts

abbrev pub begins_star : List Token → Bool
begins_star (star ∷ ts) = true
begins_star _ = false

before_none : (k : ℕ) (us : List Token) → begins_star us ≡ false → BeforeStar k us
before_none k [] e = tt
before_none k (star ∷ us) e = absurd (cc)
before_none k (_ ∷ us) e = tt

before_more : (k : ℕ) (t : Token) (ts us : List Token) → BeforeStar k (t ∷ ts) → BeforeStar k (t ∷ ts ++ us)
before_more k star ts us h = h
before_more k _ ts us h = tt

-- joined tokens
pub plain_append : (ts us : List Token) → begins_star us ≡ false → ArePlain ts → ArePlain us → ArePlain (ts ++ us)
plain_append [] us e a b = b
plain_append (number n k ∷ []) us e a b = (before_none k us e, b)
plain_append (number n k ∷ t ∷ ts) us e a b = (before_more k t ts us a.0, plain_append (t ∷ ts) us e a.1 b)
plain_append (_ ∷ ts) us e a b = plain_append ts us e a b

pub record IsNeat (s : Scale) (ts : List Token) : Type 0 where
  -- few decimals
  pub short : IsShort s ts
  -- no coefficient with decimals
  pub plain : ArePlain ts

-- joined tokens
pub neat_joined : (s : Scale) (ts us : List Token) → ends_well ts ≡ true → begins_comma us ≡ false → begins_star us ≡ false
    → IsNeat s ts → IsNeat s us → IsNeat s (ts ++ us)
neat_joined s ts us h e f a b = record { short = short_joined s ts us h e a.short b.short; plain = plain_append ts us f a.plain b.plain }

-- a word before
pub neat_word : (s : Scale) (w : List ℕ) (ts : List Token) → IsNeat s ts → IsNeat s (word w ∷ ts)
neat_word s w ts a = record { short = short_word s w ts a.short; plain = a.plain }

-- parentheses around
pub neat_parens : (s : Scale) (ts : List Token) → ends_well ts ≡ true → IsNeat s ts → IsNeat s (open_paren ∷ ts ++ close_paren ∷ [])
neat_parens s ts h a = record { short = short_parens s ts h a.short; plain = plain_append ts (close_paren ∷ []) refl a.plain tt }

-- a constant
pub constant_plain : {d : ℕ} {vs : List Token} {c : _} (r : _) → IsConstant d vs c → ArePlain (relation r ∷ vs)
constant_plain r plain = (tt, tt)
constant_plain r _ = (tt, tt)

bound_plain : {d a : ℕ} {o : Timed} {b : _} {us : List Token} {x y : Bool} (ts : List Token) → Bounded d o us a b x y → ArePlain ts → ArePlain (us ++ ts)
bound_plain ts (left_out e) h = h
bound_plain ts (within {a = a} {j} {b} {k} p q) h =
    by_brackets (λ t u. ArePlain (t ∷ number a j ∷ comma ∷ number b k ∷ u ∷ ts)) (tt, (tt, h)) (tt, (tt, h)) (tt, (tt, h)) (tt, (tt, h)) p q
bound_plain ts (endless {a = a} {j} e p q) h =
    by_brackets (λ t u. ArePlain (t ∷ number a j ∷ comma ∷ word (codes "inf") ∷ u ∷ ts)) (tt, h) (tt, h) (tt, h) (tt, h) p q

-- a bound before an operand
pub neat_bound : {d a : ℕ} {o : Timed} {b : _} {us : List Token} {x y : Bool} (s : Scale) (ts : List Token) → Bounded d o us a b x y
    → time_digits us ≤ s.time → IsNeat s ts → IsNeat s (us ++ ts)
neat_bound s ts w l h = record { short = short_bound s ts w l h.short; plain = bound_plain ts w h.plain }
