-- Numbers with decimals, digit by digit.
use Rattle.std.proofs.Common.{◌≡◌, ℕ, ◌⊎◌, inl, inr, zero, suc, ◌+◌, ◌-◌, ◌*◌, ◌^◌, ◌<◌, ◌≤◌, min}
use Rattle.std.proofs.Common.{Bool, true, false, List, [], ◌∷◌, ◌++◌, length, take, drop, get_or}
use Rattle.std.proofs.Common.{refl, sym, ap, ◌∙◌, subst, arith, lit<, mul-le-mul, ℤ, pos, negsuc}
use Rattle.std.specs.Prelude.{neg_ℤ, ◌==◌, ◌*ℤ◌, ◌<ℤ◌}
use Rattle.std.proofs.lemmas.Int.{ints}
use Rattle.std.proofs.lemmas.List.{take-append-drop, take_more, drop_at, length-take-le}
use Rattle.std.proofs.lemmas.Bool.{cases_eq, false≢true}
use Rattle.std.proofs.Math.Nat.{one-le-pow, pow-le-pow_right}
use Rattle.stl_syntax.specs.Characters.{is_digit, all, StopsAt, decimal_value, without_zeros, IsNumeral, integer, decimal, ticks}
use Rattle.trace_reader.specs.TraceText.{IsNumber, plain, plus, minus, IsInTicks}
use Rattle.trace_reader.specs.LineParts.{signed}
use Rattle.trace_reader.specs.TraceRefusals.{NumberFault}
use Rattle.trace_reader.specs.FieldFaults.{IsFieldRead}
use Rattle.trace_reader.specs.declared.refusal.TraceKind.{TraceKind}
use Rattle.trace_reader.specs.declared.refusal.TraceKind.TheVariants.{OutOfRange}
use Rattle.stl_syntax.proofs.DecimalLemmas.{decimal_value-push, decimal_value-append, decimal_value-min}
use Rattle.trace_reader.proofs.DigitLemmas.{all_ends, front_ends}
use Rattle.trace_reader.proofs.TraceRefusalExamples.{first_byte, numeral_begins}
use Rattle.trace_reader.proofs.TraceRefusalLaw.{numeral-unique, ticks-unique}

-- a number without a sign is digits, or digits, a point and digits
pub numeral_cases : {text : List ℕ} {n k : ℕ} → IsNumeral text n k → (len : ℕ) → all is_digit (take len text) ≡ true → StopsAt is_digit (drop len text)
    → (0 < len) × ((length text ≤ len) ⊎ ((d : ℕ) × (more : List ℕ) × (drop len text ≡ 46 ∷ d ∷ more) × (all is_digit (d ∷ more) ≡ true)))
numeral_cases (integer {c = c} {digits = ds} h) len t s = let e = all_ends is_digit (c ∷ ds) len h s in (omega (arith, e), inl e)
numeral_cases (decimal c ds d more h k) len t s =
    let l : length (c ∷ ds) ≡ len = front_ends is_digit (c ∷ ds) 46 (d ∷ more) len h refl t s in
    (omega (arith, l), inr (d, more, drop_at (c ∷ ds) (46 ∷ d ∷ more) len l, k))

scaled_same : (a b p : ℕ) → 0 < p → min a 4294967296 ≡ min b 4294967296 → min (a * p) 4294967296 ≡ min (b * p) 4294967296
scaled_same a b zero some h = absurd (omega (arith, some))
scaled_same a b (suc q) some h = by_test (cases_eq a b)
  where
    by_test : (a ≡ b) ⊎ (a ≡ b → ⊥) → min (a * suc q) 4294967296 ≡ min (b * suc q) 4294967296
    by_test (inl e) = ap (λ x. min (x * suc q) 4294967296) e
    by_test (inr e) =
        let s : a * suc q ≡ a + a * q = omega arith in
        let t : b * suc q ≡ b + b * q = omega arith in
        omega (arith, h, e, s, t)

-- a digit more
pub value_more : (v : ℕ) (text : List ℕ) (n : ℕ) → n < length text
    → decimal_value v (take (n + 1) text) ≡ 10 * decimal_value v (take n text) + (get_or text n 0 - 48)
value_more v text n h = ap (decimal_value v) (take_more text n 0 h) ∙ push (take n text) (get_or text n 0) v
  where
    push : (xs : List ℕ) (c v : ℕ) → decimal_value v (xs ++ c ∷ []) ≡ 10 * decimal_value v xs + (c - 48)
    push xs c v = decimal_value-push v xs c

-- each byte of digits is a digit
pub digit_at : (text : List ℕ) (n : ℕ) → all is_digit text ≡ true → n < length text → (48 ≤ get_or text n 0) × (get_or text n 0 ≤ 57)
digit_at [] n h l = absurd (omega (arith, l))
digit_at (c ∷ text) zero h l = let a : is_digit c ≡ true = grind (arith, h) in (grind (arith, a), grind (arith, a))
digit_at (c ∷ text) (suc n) h l = let b : all is_digit text ≡ true = grind (arith, h) in digit_at text n b (omega (arith, l))

-- the ticks of a number without a sign
abbrev pub IsRead : List ℕ → ℕ → ℕ → ℕ → Type 0
IsRead text most digits r = (n : ℕ) × (k : ℕ) × IsNumeral text n k × (k ≤ most) × (min r 4294967296 ≡ min (ticks digits n k) 4294967296)

-- digits alone
pub whole_read : (text : List ℕ) (most digits v r : ℕ) → 0 < length text → all is_digit text ≡ true → min v 4294967296 ≡ min (decimal_value 0 text) 4294967296
    → r ≡ v * 10 ^ digits → IsRead text most digits r
whole_read [] most digits v r some h value is = absurd (omega (arith, some))
whole_read (c ∷ ds) most digits v r some h value is = (
  decimal_value 0 (c ∷ ds),
  0,
  integer h,
  omega arith,
  rw is (scaled_same v (decimal_value 0 (c ∷ ds)) (10 ^ digits) (one-le-pow digits 10 (lit< tt)) value
      ∙ ap (λ j. min (decimal_value 0 (c ∷ ds) * 10 ^ j) 4294967296) (let e : digits ≡ digits - 0 = omega arith in e)),
)

-- digits before a point, with a value v below 2^32 or as great, and those after it, with s for the value of both
pub record AroundPoint (front : List ℕ) (d : ℕ) (more : List ℕ) (v s : ℕ) : Type 0 where
  -- a digit comes before the point
  pub some : 0 < length front
  -- what comes before it is digits
  pub before : all is_digit front ≡ true
  -- and so is what comes after it
  pub after : all is_digit (d ∷ more) ≡ true
  -- the value of the digits before it
  pub value : min v 4294967296 ≡ min (decimal_value 0 front) 4294967296
  -- the value of all, but for zeros at the end
  pub sum : min s 4294967296 ≡ min (decimal_value v (without_zeros (d ∷ more))) 4294967296

-- digits, a point and digits
pub decimal_read : (front : List ℕ) (d : ℕ) (more : List ℕ) (most digits : ℕ) {v s r : ℕ} → AroundPoint front d more v s
    → length (without_zeros (d ∷ more)) ≤ most → r ≡ s * 10 ^ (digits - length (without_zeros (d ∷ more))) → IsRead (front ++ 46 ∷ d ∷ more) most digits r
decimal_read [] d more most digits point few is = absurd (omega (arith, point.some))
decimal_read (c ∷ ds) d more most digits {v} {s} point few is =
    let zs = without_zeros (d ∷ more) in
    let n : decimal_value 0 ((c ∷ ds) ++ zs) ≡ decimal_value (decimal_value 0 (c ∷ ds)) zs = decimal_value-append 0 (c ∷ ds) zs in
    let same : min s 4294967296 ≡ min (decimal_value 0 ((c ∷ ds) ++ zs)) 4294967296 =
    point.sum ∙ (decimal_value-min v (decimal_value 0 (c ∷ ds)) zs point.value ∙ ap (λ x. min x 4294967296) (sym n)) in (
      decimal_value 0 ((c ∷ ds) ++ zs),
      length zs,
      decimal c ds d more point.before point.after,
      few,
      rw is (scaled_same s (decimal_value 0 ((c ∷ ds) ++ zs)) (10 ^ (digits - length zs)) (one-le-pow (digits - length zs) 10 (lit< tt)) same),
    )

-- a value with at most six zeros more
pub product_small : (v p : ℕ) → v ≤ 42949672969 → p ≤ 6 → v * 10 ^ p < 18446744073709551616
product_small v p h k =
    let a : 10 ^ p ≤ 10 ^ 6 = pow-le-pow_right (lit< tt) k in
    let b : v * 10 ^ p ≤ 42949672969 * 10 ^ 6 = mul-le-mul h a in
    omega (arith, b)

-- the text goes on after its first digits
pub parted : (text : List ℕ) (len d : ℕ) (more : List ℕ) → drop len text ≡ 46 ∷ d ∷ more → text ≡ take len text ++ 46 ∷ d ∷ more
parted text len d more e = sym (take-append-drop len text) ∙ ap (λ t. take len text ++ t) e

-- a point and what follows it
pub some_first : (c : ℕ) (xs : List ℕ) → c ≡ 46 → ((length xs == 0) ≡ false) → (d : ℕ) × (more : List ℕ) × (c ∷ xs ≡ 46 ∷ d ∷ more) × (xs ≡ d ∷ more)
some_first c [] e h = absurd (false≢true (sym h))
some_first c (d ∷ more) e h = (d, more, ap (λ x. x ∷ d ∷ more) e, refl)

-- digits, a point and digits have the decimals after the point
pub decimal_places : (text : List ℕ) (len d : ℕ) (more : List ℕ) → all is_digit (take len text) ≡ true → len ≤ length text
    → 0 < len → drop len text ≡ 46 ∷ d ∷ more
    → all is_digit (d ∷ more) ≡ true → {n k : ℕ} → IsNumeral text n k → k ≡ length (without_zeros (d ∷ more))
decimal_places text len d more front within some e digits {n} {k} h =
    let l : length (take len text) ≡ len = length-take-le len text within in
    by_front (take len text) (omega (arith, l, some)) front (subst (λ t. IsNumeral t n k) (parted text len d more e) h)
  where
    by_front : (xs : List ℕ) → 0 < length xs → all is_digit xs ≡ true → IsNumeral (xs ++ 46 ∷ d ∷ more) n k → k ≡ length (without_zeros (d ∷ more))
    by_front [] l a i = absurd (omega (arith, l))
    by_front (c ∷ ds) l a i = (numeral-unique i (decimal c ds d more a digits)).1

-- the ticks of a number with a minus
pub neg_ticks : (n p : ℕ) → neg_ℤ (pos n) *ℤ pos p ≡ neg_ℤ (pos (n * p))
neg_ticks zero p = let e : 0 * p ≡ 0 = omega arith in rw e refl
neg_ticks (suc n) p = refl

-- a sign before a numeral
pub minus_read : (others : List ℕ) (most digits r : ℕ) → IsRead others most digits r
    → (m : ℕ) × IsInTicks digits most (45 ∷ others) (signed true m) × (min r 4294967296 ≡ min m 4294967296)
minus_read others most digits r (n, k, h, few, e) = (ticks digits n k, (neg_ℤ (pos n), k, minus h, few, sym (neg_ticks n (10 ^ (digits - k)))), e)

-- a plus before a numeral
pub plus_read : (others : List ℕ) (most digits r : ℕ) → IsRead others most digits r
    → (m : ℕ) × IsInTicks digits most (43 ∷ others) (signed false m) × (min r 4294967296 ≡ min m 4294967296)
plus_read others most digits r (n, k, h, few, e) = (ticks digits n k, (pos n, k, plus h, few, refl), e)

-- a numeral without a sign
pub plain_read : (field : List ℕ) (most digits r : ℕ) → IsRead field most digits r
    → (m : ℕ) × IsInTicks digits most field (signed false m) × (min r 4294967296 ≡ min m 4294967296)
plain_read field most digits r (n, k, h, few, e) = (ticks digits n k, (pos n, k, plain h, few, refl), e)

-- a number without a numeral is none
digit_first : {text : List ℕ} {n k : ℕ} (c : ℕ) (rest : List ℕ) → IsNumeral text n k → text ≡ c ∷ rest → is_digit c ≡ true
digit_first c rest h e = ap (λ t. is_digit (first_byte t)) (sym e) ∙ numeral_begins h

abbrev NoNumber : List ℕ → ℕ → Type 0
NoNumber f most = (v : ℤ) (k : ℕ) → IsNumber f v k → ¬ (k ≤ most)

abbrev pub NoNumeral : List ℕ → ℕ → Type 0
NoNumeral f most = (n k : ℕ) → IsNumeral f n k → ¬ (k ≤ most)

signed_none : {f : List ℕ} {v : ℤ} {k : ℕ} (most c : ℕ) (others : List ℕ) → (c ≡ 45) ⊎ (c ≡ 43) → NoNumeral others most
    → IsNumber f v k → f ≡ c ∷ others → ¬ (k ≤ most)
signed_none most c others s none (plain {n = n} {k} h) e few =
    let d : is_digit c ≡ true = digit_first c others h e in
    elim s [
      | inl a ↦ absurd (let b : is_digit 45 ≡ true = subst (λ x. is_digit x ≡ true) a d in cc)
      | inr a ↦ absurd (let b : is_digit 43 ≡ true = subst (λ x. is_digit x ≡ true) a d in cc)
    ]
signed_none most c others s none (plus {text = t} {n} {k} h) e few = let q : t ≡ others = cc in none n k (subst (λ x. IsNumeral x n k) q h) few
signed_none most c others s none (minus {text = t} {n} {k} h) e few = let q : t ≡ others = cc in none n k (subst (λ x. IsNumeral x n k) q h) few

plain_none : {f : List ℕ} {v : ℤ} {k : ℕ} (most c : ℕ) (others : List ℕ) → (c ≡ 45 → ⊥) → (c ≡ 43 → ⊥) → NoNumeral f most
    → IsNumber f v k → f ≡ c ∷ others → ¬ (k ≤ most)
plain_none most c others a b none (plain {n = n} {k} h) e few = none n k h few
plain_none most c others a b none (plus h) e few = b (let q : 43 ≡ c = cc in sym q)
plain_none most c others a b none (minus h) e few = a (let q : 45 ≡ c = cc in sym q)

-- a sign before no numeral is no number
pub no_signed : (f : List ℕ) (most c : ℕ) (others : List ℕ) → (c ≡ 45) ⊎ (c ≡ 43) → f ≡ c ∷ others → NoNumeral others most → NoNumber f most
no_signed f most c others s e none v k h few = signed_none most c others s none h e few

-- nor is what is no numeral without a sign
pub no_plain : (f : List ℕ) (most c : ℕ) (others : List ℕ) → (c ≡ 45 → ⊥) → (c ≡ 43 → ⊥) → f ≡ c ∷ others → NoNumeral f most → NoNumber f most
no_plain f most c others a b e none v k h few = plain_none most c others a b none h e few

-- a field of a row is as the ticks that were read of it say
module _ (digits most : ℕ) (low high : ℤ) (i : ℕ) (f : List ℕ) (v : ℤ) (h : IsInTicks digits most f v) where
  -- a number within its limits is read
  pub within : ((v <ℤ low) ⊎ (high <ℤ v) → ⊥) → IsFieldRead digits most low high i f v
  within fits = record { value = h; sound = by_fault }
    where
      by_fault : (k : TraceKind) → ¬ NumberFault digits most low high i f k
      by_fault k (inl (none, e)) = none (h.0, h.1, h.2, h.3)
      by_fault k (inr (_, ((w, is, out), e))) = fits (subst (λ x. (x <ℤ low) ⊎ (high <ℤ x)) (ticks-unique digits most f w v is h) out)

  -- and one outside is out of range
  pub outside : (v <ℤ low) ⊎ (high <ℤ v) → NumberFault digits most low high i f (OutOfRange i)
  outside out = inr ((λ x bad. bad.0 (h.0, h.1, h.2, h.3)), ((v, h, out), refl))

-- a time is not negative
pub some_negative : (m : ℕ) → 0 < m → neg_ℤ (pos m) <ℤ pos 0
some_negative zero l = absurd (omega (arith, l))
some_negative (suc m) l = omega (arith, ints)

-- no ticks are none with any sign
pub zero_ticks : (b : Bool) (m : ℕ) → m ≡ 0 → signed b m ≡ pos 0
zero_ticks true m e = ap (λ x. neg_ℤ (pos x)) e
zero_ticks false m e = ap pos e

-- a value within its limits
pub small_negative : (m : ℕ) → m ≤ 16777216 → (neg_ℤ (pos m) <ℤ negsuc 16777215) ⊎ (pos 16777216 <ℤ neg_ℤ (pos m)) → ⊥
small_negative zero l (inl h) = omega (arith, ints)
small_negative zero l (inr h) = omega (arith, ints)
small_negative (suc m) l (inl h) = omega (arith, ints)
small_negative (suc m) l (inr h) = omega (arith, ints)

-- a size past the limit is outside with any sign
pub large_signed : (b : Bool) (m : ℕ) → 16777216 < m → (signed b m <ℤ negsuc 16777215) ⊎ (pos 16777216 <ℤ signed b m)
large_signed true zero l = absurd (omega (arith, l))
large_signed true (suc m) l = inl (omega (arith, ints))
large_signed false m l = inr (omega (arith, ints))
