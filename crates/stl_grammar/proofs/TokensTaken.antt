-- What holds of the tokens of a text that is not refused.
use Rattle.std.proofs.Common.{◌≡◌, ℕ, suc, ◌+◌, ◌<◌, ◌≤◌, List, [], ◌∷◌, length, refl, Bool, true, false, inl, inr, arith}
use Rattle.std.specs.Prelude.{nat_lt}
use Rattle.std.proofs.lemmas.Bool.{or_parts}
use Rattle.std.proofs.lemmas.Bool.Decides.{nat_tests}
use Rattle.stl_grammar.specs.Tokens.{Token, number, relation, comma, plus, minus, Lexes, nothing, blank as skip, token}
use Rattle.stl_grammar.specs.Grammar.{first_decimals, value_digits, time_digits}
use Rattle.stl_grammar.specs.FormulaRefusals.{MayBegin, RefusedAt, TokenFault, blank, here, later, is_unbounded, expected}
use Rattle.stl_grammar.specs.FormulaRefusals.{pending, nodes_made, begins_fifth_term, passes_limit, is_bad_number}
use Rattle.stl_grammar.specs.FormulaRefusals.{is_out_of_order}
use Rattle.stl_grammar.specs.declared.fault.What.{What}
use Rattle.stl_grammar.specs.declared.fault.What.TheVariants.{Number, Constant}
use Rattle.stl_grammar.specs.declared.fault.FormulaFault.{FormulaFault}
use Rattle.stl_grammar.specs.declared.fault.FormulaFault.TheVariants.{Expected, BadNumber, BoundOrder, UnboundedFuture, TooManyTerms, TooDeep, TooManyNodes}

-- the token is not refused
pub record IsFree (before : List Token) (t : Token) : Type 0 where
  -- there is room for its node
  pub few : nodes_made (t ∷ before) ≤ 256
  -- it begins no fifth term
  pub terms : begins_fifth_term before t ≡ false
  -- its number does not pass its limit
  pub small : is_bad_number before t ≡ false
  -- its bound is in order
  pub order : is_out_of_order before t ≡ false

by_test : (b : Bool) → ¬ (b ≡ true) → b ≡ false
by_test true h = absurd (h refl)
by_test false h = refl

by_order : (m n : ℕ) → ¬ (m < n) → n ≤ m
by_order m n h = grind (arith, h)

is_free : (before : List Token) (t : Token) (text : List ℕ) (p : ℕ) → ((x : FormulaFault) → ¬ RefusedAt before t text p x) → IsFree before t
is_free before t text p h =
    let a : ¬ (is_unbounded before t text ≡ true) = λ x. h (UnboundedFuture p) (inl (x, refl)) in
    let b : ¬ (¬ MayBegin (t ∷ before)) = λ x. h (Expected p (expected before)) (inr (λ y g. a g.0, inl (x, refl))) in
    let c : ¬ (64 < length (pending (t ∷ before))) = λ x. h (TooDeep p) (inr (λ y g. a g.0, inr (λ y g. b g.0, inl (x, refl)))) in
    let d : ¬ (256 < nodes_made (t ∷ before)) = λ x. h (TooManyNodes p) (inr (λ y g. a g.0, inr (λ y g. b g.0, inr (λ y g. c g.0, inl (x, refl))))) in
    let e : ¬ (begins_fifth_term before t ≡ true) =
    λ x. h (TooManyTerms p) (inr (λ y g. a g.0, inr (λ y g. b g.0, inr (λ y g. c g.0, inr (λ y g. d g.0, inl (x, refl)))))) in
    let f : ¬ (is_bad_number before t ≡ true) =
    λ x. h (BadNumber p) (inr (λ y g. a g.0, inr (λ y g. b g.0, inr (λ y g. c g.0, inr (λ y g. d g.0, inr (λ y g. e g.0, inl (x, refl))))))) in
    let k : ¬ (is_out_of_order before t ≡ true) =
    λ x. h (BoundOrder p) (inr (λ y g. a g.0, inr (λ y g. b g.0, inr (λ y g. c g.0, inr (λ y g. d g.0, inr (λ y g. e g.0, inr (λ y g. f g.0, (x, refl)))))))) in
    record { few = by_order _ _ d; terms = by_test _ e; small = by_test _ f; order = by_test _ k }

-- no token is refused, after those before them
abbrev pub AreFree : List Token → List Token → Type 0
AreFree before [] = Unit {0}
AreFree before (t ∷ ts) = IsFree before t × AreFree (t ∷ before) ts

-- the tokens of a text that no token refuses are refused by nothing
pub tokens_free : {text : List ℕ} {ts : List Token} → Lexes text ts → (before : List Token) (p : ℕ)
    → ((r : FormulaFault) → ¬ TokenFault before p text r) → AreFree before ts
tokens_free nothing before p h = tt
tokens_free (skip b l) before p h = tokens_free l before (suc p) (λ r f. h r (blank b f))
tokens_free (token {t = t} bytes text e k l) before p h =
    let n : (x : FormulaFault) → ¬ RefusedAt before t text p x = λ x r. h x (here t bytes text e k r) in
    (is_free before t text p n, tokens_free l (t ∷ before) (p + length bytes) (λ r f. h r (later t bytes text e k n f)))

-- each number has at most 6 decimals
abbrev AreSmall : List Token → Type 0
AreSmall [] = Unit {0}
AreSmall (number n k ∷ ts) = (k ≤ 6) × AreSmall ts
AreSmall (_ ∷ ts) = AreSmall ts

small_by : (what : What) (n k : ℕ) → passes_limit what n k ≡ false → k ≤ 6
small_by Constant n k e = let x = (or_parts (nat_lt 6 k) (nat_lt 1073741824 n) e).0 in grind (arith, nat_tests, x)
small_by Number n k e = let x = (or_parts (nat_lt 6 k) (nat_lt 4294967295 n) e).0 in grind (arith, nat_tests, x)
small_by _ n k e = let x = (or_parts (nat_lt 0 k) (nat_lt 16 n) e).0 in grind (arith, nat_tests, x)

are_small : (before ts : List Token) → AreFree before ts → AreSmall ts
are_small before [] h = tt
are_small before (number n k ∷ ts) h = (small_by (expected before) n k h.0.small, are_small (number n k ∷ before) ts h.1)
are_small before (t ∷ ts) h = are_small (t ∷ before) ts h.1

first_small : (ts : List Token) → AreSmall ts → first_decimals ts ≤ 6
first_small [] h = omega arith
first_small (number n k ∷ ts) h = h.0
first_small (plus ∷ number n k ∷ ts) h = h.0
first_small (minus ∷ number n k ∷ ts) h = h.0
first_small (_ ∷ ts) h = omega arith

value_small : (ts : List Token) → AreSmall ts → value_digits ts ≤ 6
value_small [] h = omega arith
value_small (relation r ∷ ts) h = let x = first_small ts h in let y = value_small ts h in omega arith
value_small (number n k ∷ ts) h = value_small ts h.1
value_small (_ ∷ ts) h = value_small ts h

time_small : (ts : List Token) → AreSmall ts → time_digits ts ≤ 6
time_small [] h = omega arith
time_small (number n k ∷ []) h = omega arith
time_small (number n k ∷ comma ∷ ts) h = let x = h.0 in let y = first_small ts h.1 in let z = time_small (comma ∷ ts) h.1 in omega arith
time_small (number n k ∷ t ∷ ts) h = let z = time_small (t ∷ ts) h.1 in omega arith
time_small (_ ∷ ts) h = time_small ts h

-- the digits of a text that is not refused
pub digits_small : (text : List ℕ) (ts : List Token) → Lexes text ts → ((r : FormulaFault) → ¬ TokenFault [] 0 text r)
    → (time_digits ts ≤ 6) × (value_digits ts ≤ 6)
digits_small text ts l h = let x = are_small [] ts (tokens_free l [] 0 h) in (time_small ts x, value_small ts x)
