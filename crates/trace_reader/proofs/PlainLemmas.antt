-- Rows of plain numbers: each field is its own trimmed text, and the first of what is left.
use Rattle.std.proofs.Common.{◌≡◌, ℕ, ◌⊎◌, inl, inr, suc, ◌+◌, ◌-◌, ◌*◌, ◌^◌, ◌<◌, ◌≤◌, Bool, true, false, List}
use Rattle.std.proofs.Common.{[], ◌∷◌, ◌++◌, map, reverse, length, take, drop, get_or, refl, sym, ap, ◌∙◌, subst}
use Rattle.std.proofs.Common.{arith, append_assoc, length-append, add-one, ℤ, pos, negsuc, Option, Some, None}
use Rattle.std.specs.Prelude.{neg_ℤ, ◌||◌, ◌==◌, All, MatchOption}
use Rattle.std.proofs.lemmas.Int.{ints}
use Rattle.std.proofs.lemmas.List.{append-nil, reverse-append, reverse-reverse, length_push, drop_more}
use Rattle.std.proofs.lemmas.List.Elements.{All-nil, All-cons}
use Rattle.std.proofs.lemmas.Bool.{ne_eqb, eq-eqb, cases_eq, false≢true}
use Rattle.std.proofs.Math.Nat.{pow-suc, mul_assoc}
use Rattle.std.proofs.lemmas.Nat.{pow-add}
use Rattle.stl_syntax.specs.Characters.{is_digit, is_space, all, after_first, decimal_value, without_zeros, integer, decimal}
use Rattle.stl_syntax.specs.Trace.{Row, IsInRange}
use Rattle.stl_syntax.specs.declared.scale.Scale.{Scale}
use Rattle.stl_syntax.proofs.CharacterLemmas.{all-append, all-reverse}
use Rattle.stl_syntax.proofs.DecimalLemmas.{decimal_value-push, decimal_value-append}
use Rattle.trace_reader.specs.TraceText.{split, trim, content, fields, is_blank_line, Heading, plain, minus}
use Rattle.trace_reader.specs.LineParts.{whole_line}
use Rattle.trace_reader.specs.FieldFaults.{IsFieldRead}
use Rattle.trace_reader.specs.Feeds.{HasNoFeed}
use Rattle.trace_reader.specs.Headings.{Scaled}
use Rattle.trace_reader.specs.RowLines.{AreValuesLeft, IsRowRead}
use Rattle.trace_reader.specs.Plain.{is_plain, IsTicks, IsPlainRow}
use Rattle.trace_reader.proofs.FieldLemmas.{split-none, split-at, after_none}
use Rattle.trace_reader.proofs.NumberLemmas.{within, small_negative, neg_ticks}
use Rattle.trace_reader.proofs.RowLemmas.{start_values, values_more, values_read, values_sound, row_is, numbers_sound, row_made}
use Rattle.trace_reader.proofs.ReadLemmas.{fields_are}
use Rattle.trace_reader.proofs.ReaderTakes.{take_on}

-- digits alone in ticks
pub whole_ticks : (text : List ℕ) (most digits v : ℕ) → 0 < length text → all is_digit text ≡ true → v ≡ decimal_value 0 text
    → IsTicks most digits text (v * 10 ^ digits)
whole_ticks [] most digits v some h value = absurd (omega (arith, some))
whole_ticks (c ∷ ds) most digits v some h value = (
  decimal_value 0 (c ∷ ds),
  0,
  integer h,
  omega arith,
  ap (λ x. x * 10 ^ digits) value ∙ ap (λ j. decimal_value 0 (c ∷ ds) * 10 ^ j) (let e : digits ≡ digits - 0 = omega arith in e),
)

-- zeros at the end of decimals make the value so many times ten larger
pub record HasZeros (v : ℕ) (xs zs : List ℕ) : Type 0 where
  -- how many zeros were dropped
  pub zeros : ℕ
  -- the digits that are left and the zeros are all digits
  pub count : length zs + zeros ≡ length xs
  -- each zero makes the value ten times larger
  pub value : decimal_value v xs ≡ decimal_value v zs * 10 ^ zeros

-- a zero more
ten_more : (a b p q y : ℕ) → a ≡ b * p → q ≡ p * 10 → y ≡ 48 → 10 * a + (y - 48) ≡ b * q
ten_more a b p q y e f g =
    let h : b * (p * 10) ≡ b * p * 10 = sym (mul_assoc b p 10) in
    let k : b * q ≡ b * (p * 10) = ap (λ x. b * x) f in
    omega (arith, e, g, h, k)

zeros_of : (v : ℕ) (ys : List ℕ) → HasZeros v (reverse ys) (reverse (after_first (λ c. c == 48) ys))
zeros_of v [] = record { zeros = 0; count = refl; value = omega arith }
zeros_of v (y ∷ ys) = by_test (zeros_of v ys) (cases_eq y 48)
  where
    by_test : HasZeros v (reverse ys) (reverse (after_first (λ c. c == 48) ys)) → (y ≡ 48) ⊎ (y ≡ 48 → ⊥)
        → HasZeros v (reverse (y ∷ ys)) (reverse (after_first (λ c. c == 48) (y ∷ ys)))
    by_test z (inl e) =
        let zs = reverse (after_first (λ c. c == 48) ys) in
        let rev : reverse (y ∷ ys) ≡ reverse ys ++ y ∷ [] = reverse-append (y ∷ []) ys in
        let front : decimal_value v (reverse ys ++ y ∷ []) ≡ 10 * decimal_value v (reverse ys) + (y - 48) = decimal_value-push v (reverse ys) y in
        let size = length_push (reverse ys) y in
        let p : 10 ^ (z.zeros + 1) ≡ 10 ^ z.zeros * 10 = ap (λ j. 10 ^ j) (add-one z.zeros) ∙ pow-suc 10 z.zeros in
        let h : HasZeros v (reverse ys ++ y ∷ []) zs = record {
          zeros = z.zeros + 1;
          count = omega (arith, size, z.count);
          value = front ∙ ten_more (decimal_value v (reverse ys)) (decimal_value v zs) (10 ^ z.zeros) (10 ^ (z.zeros + 1)) y z.value p e;
        } in
        rw (eq-eqb y 48 e) (subst (λ t. HasZeros v t zs) (sym rev) h)
    by_test z (inr e) = rw (ne_eqb y 48 e) (record { zeros = 0; count = omega arith; value = omega arith })

-- decimals by those without the zeros at their end
pub without_zeros_of : (v : ℕ) (xs : List ℕ) → HasZeros v xs (without_zeros xs)
without_zeros_of v xs = subst (λ t. HasZeros v t (without_zeros xs)) (reverse-reverse xs) (zeros_of v (reverse xs))

-- digits, a point and digits in ticks
pub decimal_ticks : (front : List ℕ) (d : ℕ) (more : List ℕ) (most digits v : ℕ) → 0 < length front → all is_digit front ≡ true → all is_digit (d ∷ more) ≡ true
    → v ≡ decimal_value (decimal_value 0 front) (d ∷ more) → length (d ∷ more) ≤ most → most ≤ digits
    → IsTicks most digits (front ++ 46 ∷ d ∷ more) (v * 10 ^ (digits - length (d ∷ more)))
decimal_ticks [] d more most digits v some h k value few within = absurd (omega (arith, some))
decimal_ticks (c ∷ ds) d more most digits v some h k value few within =
    let front = c ∷ ds in
    let zs = without_zeros (d ∷ more) in
    let z = without_zeros_of (decimal_value 0 front) (d ∷ more) in
    let n : decimal_value 0 (front ++ zs) ≡ decimal_value (decimal_value 0 front) zs = decimal_value-append 0 front zs in
    let room : digits - length zs ≡ z.zeros + (digits - length (d ∷ more)) = omega (arith, z.count, few, within) in
    let power : 10 ^ (digits - length zs) ≡ 10 ^ z.zeros * 10 ^ (digits - length (d ∷ more)) =
    ap (λ j. 10 ^ j) room ∙ pow-add 10 z.zeros (digits - length (d ∷ more)) in (
      decimal_value 0 (front ++ zs),
      length zs,
      decimal c ds d more h k,
      omega (arith, z.count, few),
      ap (λ x. x * 10 ^ (digits - length (d ∷ more))) (value ∙ z.value)
          ∙ (mul_assoc (decimal_value (decimal_value 0 front) zs) (10 ^ z.zeros) (10 ^ (digits - length (d ∷ more)))
          ∙ (ap (λ x. decimal_value (decimal_value 0 front) zs * x) (sym power) ∙ ap (λ x. x * 10 ^ (digits - length zs)) (sym n))),
    )

-- ticks as a time
pub time_read : (text : List ℕ) (most digits r : ℕ) → IsTicks most digits text r → r < 4294967296
    → IsFieldRead digits most (pos 0) (pos 4294967295) 1 text (pos r)
time_read text most digits r (n, k, h, few, is) small =
    within digits most (pos 0) (pos 4294967295) 1 text (pos r) (pos n, k, plain h, few, ap pos is)
    (λ out. elim out [ inl l ↦ omega (arith, ints) | inr l ↦ omega (arith, ints) ])

-- ticks as a value
pub value_read : (text : List ℕ) (most digits i r : ℕ) → IsTicks most digits text r → r ≤ 16777216
    → IsFieldRead digits most (negsuc 16777215) (pos 16777216) i text (pos r)
value_read text most digits i r (n, k, h, few, is) small =
    within digits most (negsuc 16777215) (pos 16777216) i text (pos r) (pos n, k, plain h, few, ap pos is)
    (λ out. elim out [ inl l ↦ omega (arith, ints) | inr l ↦ omega (arith, ints) ])

-- ticks after a minus
pub minus_value_read : (text : List ℕ) (most digits i r : ℕ) → IsTicks most digits text r → r ≤ 16777216
    → IsFieldRead digits most (negsuc 16777215) (pos 16777216) i (45 ∷ text) (neg_ℤ (pos r))
minus_value_read text most digits i r (n, k, h, few, is) small =
    within digits most (negsuc 16777215) (pos 16777216) i (45 ∷ text) (neg_ℤ (pos r))
    (neg_ℤ (pos n), k, minus h, few, ap (λ x. neg_ℤ (pos x)) is ∙ sym (neg_ticks n (10 ^ (digits - k)))) (small_negative r small)

-- digits are bytes of a plain number
pub digits_plain : (xs : List ℕ) → all is_digit xs ≡ true → all is_plain xs ≡ true
digits_plain [] h = refl
digits_plain (c ∷ xs) h =
    let a : is_digit c ≡ true = grind (arith, h) in let b : all is_digit xs ≡ true = grind (arith, h) in
    rw (a, digits_plain xs b) refl

-- digits, a point and digits are bytes of a plain number
pub decimals_plain : (xs : List ℕ) (ds : List ℕ) → all is_digit xs ≡ true → all is_digit ds ≡ true → all is_plain (xs ++ 46 ∷ ds) ≡ true
decimals_plain xs ds h k = all-append is_plain xs (46 ∷ ds) (digits_plain xs h) (digits_plain ds k)

-- the bytes up to the point, the point and the digits after it
pub point_front : (text : List ℕ) (n m : ℕ) → n < length text → get_or text n 0 ≡ 46 → m ≤ length (drop (n + 1) text)
    → take (n + 1 + m) text ≡ take n text ++ 46 ∷ take m (drop (n + 1) text)
point_front text n m h e k =
    let d : drop n text ≡ 46 ∷ drop (n + 1) text = drop_more text n 0 h ∙ ap (λ c. c ∷ drop (n + 1) text) e in
    let t : take (m + 1) (drop n text) ≡ 46 ∷ take m (drop (n + 1) text) = ap (take (m + 1)) d ∙ ap (λ j. take j (46 ∷ drop (n + 1) text)) (add-one m) in
    ap (λ j. take j text) (let e : n + 1 + m ≡ n + (m + 1) = omega arith in e)
    ∙ take_on n (m + 1) text (46 ∷ take m (drop (n + 1) text)) t (omega (arith, h)) (omega (arith, k, ap length d))

-- so are they after a minus
pub minus_plain : (xs : List ℕ) → all is_plain xs ≡ true → all is_plain (45 ∷ xs) ≡ true
minus_plain xs h = h

-- a minus and what follows it
pub minus_front : (text : List ℕ) (n : ℕ) → 0 < length text → get_or text 0 0 ≡ 45 → take (n + 1) text ≡ 45 ∷ take n (drop 1 text)
minus_front [] n h e = absurd (omega (arith, h))
minus_front (c ∷ text) n h e = ap (λ k. take k (c ∷ text)) (add-one n) ∙ ap (λ x. x ∷ take n text) e

-- a byte of the kind is not this other one
other_byte : (p : ℕ → Bool) (c d : ℕ) → p c ≡ true → p d ≡ false → c ≡ d → ⊥
other_byte p c d h k e = false≢true (sym k ∙ (ap p (sym e) ∙ h))

free_of : (p : ℕ → Bool) (d : ℕ) → p d ≡ false → (xs : List ℕ) → all p xs ≡ true → All (λ c. c ≡ d → ⊥) xs
free_of p d k [] h = All-nil (λ c. c ≡ d → ⊥)
free_of p d k (c ∷ xs) h =
    let a : p c ≡ true = grind (arith, h) in let b : all p xs ≡ true = grind (arith, h) in
    All-cons (λ x. x ≡ d → ⊥) c xs (other_byte p c d a k) (free_of p d k xs b)

-- a text that begins with no blank
no_blank : (p : ℕ → Bool) → p 32 ≡ false → p 9 ≡ false → (c : ℕ) → p c ≡ true → is_space c ≡ false
no_blank p k l c h = rw (ne_eqb c 32 (other_byte p c 32 h k), ne_eqb c 9 (other_byte p c 9 h l)) refl

nothing_first : (xs : List ℕ) → all is_plain xs ≡ true → after_first is_space xs ≡ xs
nothing_first [] h = refl
nothing_first (c ∷ xs) h = let a : is_plain c ≡ true = grind (arith, h) in after_none is_space c xs (no_blank is_plain refl refl c a)

-- a plain number is its own trimmed text
pub plain_trim : (f : List ℕ) → all is_plain f ≡ true → trim f ≡ f
plain_trim f h =
    ap (λ t. reverse (after_first is_space (reverse t))) (nothing_first f h)
    ∙ (ap reverse (nothing_first (reverse f) (all-reverse is_plain f h)) ∙ reverse-reverse f)

-- a byte of a row of plain numbers
abbrev pub in_row : ℕ → Bool
in_row c = is_plain c || (c == 44)

plain_in_row : (xs : List ℕ) → all is_plain xs ≡ true → all in_row xs ≡ true
plain_in_row [] h = refl
plain_in_row (c ∷ xs) h =
    let a : is_plain c ≡ true = grind (arith, h) in let b : all is_plain xs ≡ true = grind (arith, h) in
    rw (a, plain_in_row xs b) refl

trim_push : (xs : List (List ℕ)) (f : List ℕ) → map trim (xs ++ f ∷ []) ≡ map trim xs ++ trim f ∷ []
trim_push [] f = refl
trim_push (x ∷ xs) f = ap (λ t. trim x ∷ t) (trim_push xs f)

-- the front of a row of plain numbers up to the end of a field, after `i` values
pub record IsPlainFront (s : Scale) (h : Heading) (front : List ℕ) (i : ℕ) (r : Row) : Type 0 where
  -- the first field
  pub first : List ℕ
  -- the fields after it
  pub others : List (List ℕ)
  -- a comma behind the front ends its last field
  pub joins : (rest : List ℕ) → split 44 (front ++ 44 ∷ rest) ≡ (first ∷ others) ++ split 44 rest
  -- its fields, split at commas
  pub whole : split 44 front ≡ first ∷ others
  -- no field has blanks around it
  pub trimmed : map trim (first ∷ others) ≡ first ∷ others
  -- each byte may stand in a row
  pub bytes : all in_row front ≡ true
  -- the front is not empty
  pub begins : 0 < length front
  -- after the first field there are as many as there are values
  pub count : length others ≡ i
  -- the first field reads as the row's time
  pub time : IsFieldRead s.time h.time_digits (pos 0) (pos 4294967295) 1 first (pos r.time)
  -- with the fields that are still to come the others read as the row's values
  pub left : (more : List (List ℕ)) → AreValuesLeft s h.digits (others ++ more) (i + 2) (drop i h.digits) more r.values

-- the time is the first field
pub front_first : (s : Scale) (h : Heading) (f : List ℕ) (t : ℕ) → 0 < length f → all is_plain f ≡ true
    → IsFieldRead s.time h.time_digits (pos 0) (pos 4294967295) 1 f (pos t)
    → IsPlainFront s h f 0 (row_made t [])
front_first s h f t some p read =
    let free = free_of is_plain 44 refl f p in
    record {
      first = f;
      others = [];
      joins = λ rest. split-at f rest free;
      whole = split-none f free;
      trimmed = ap (λ x. x ∷ []) (plain_trim f p);
      bytes = plain_in_row f p;
      begins = some;
      count = refl;
      time = read;
      left = λ more. start_values s h.digits more;
    }

-- a value is the next
pub front_next : (s : Scale) (h : Heading) (front : List ℕ) (i : ℕ) (r : Row) (f : List ℕ) (m : ℕ) (v : ℤ)
    → IsPlainFront s h front i r → drop i h.digits ≡ m ∷ drop (i + 1) h.digits
    → all is_plain f ≡ true → IsFieldRead s.value m (negsuc 16777215) (pos 16777216) (i + 2) f v
    → IsPlainFront s h (front ++ 44 ∷ f) (i + 1) (row_made r.time (r.values ++ v ∷ []))
front_next s h front i r f m v p ds k read =
    let free = free_of is_plain 44 refl f k in
    record {
      first = p.first;
      others = p.others ++ f ∷ [];
      joins = λ rest. ap (split 44) (append_assoc front (44 ∷ f) (44 ∷ rest))
          ∙ (p.joins (f ++ 44 ∷ rest)
          ∙ (ap (λ t. (p.first ∷ p.others) ++ t) (split-at f rest free) ∙ sym (append_assoc (p.first ∷ p.others) (f ∷ []) (split 44 rest))));
      whole = p.joins f ∙ ap (λ t. (p.first ∷ p.others) ++ t) (split-none f free);
      trimmed = trim_push (p.first ∷ p.others) f ∙ (ap (λ t. t ++ trim f ∷ []) p.trimmed ∙ ap (λ x. (p.first ∷ p.others) ++ x ∷ []) (plain_trim f k));
      bytes = all-append in_row front (44 ∷ f) p.bytes (plain_in_row f k);
      begins = omega (arith, length-append front (44 ∷ f), p.begins);
      count = length_push p.others f ∙ ap (λ n. n + 1) p.count;
      time = p.time;
      left = λ more. subst (λ fs. AreValuesLeft s h.digits fs (i + 1 + 2) (drop (i + 1) h.digits) more (r.values ++ v ∷ []))
          (sym (append_assoc p.others (f ∷ []) more))
          (values_more s h.digits (p.others ++ f ∷ more) (i + 2) (drop i h.digits) (f ∷ more) r.values (p.left (f ∷ more))
          (i + 1 + 2) m (drop (i + 1) h.digits) f more v ds refl read (omega arith));
    }

-- the bytes of a row of plain numbers, with a CR or without
content_reversed : (xs : List ℕ) → all in_row xs ≡ true → content (whole_line (reverse xs)) ≡ reverse xs
content_reversed [] h = refl
content_reversed (c ∷ xs) h =
    let a : in_row c ≡ true = grind (arith, h) in
    rw (reverse-reverse (c ∷ xs), ne_eqb c 13 (other_byte in_row c 13 a refl)) refl

content_plain : (front : List ℕ) → all in_row front ≡ true → content (whole_line front) ≡ front
content_plain front h =
    subst (λ t. content (whole_line t) ≡ t) (reverse-reverse front) (content_reversed (reverse front) (all-reverse in_row front h))

content_return : (front : List ℕ) → content (whole_line (front ++ 13 ∷ [])) ≡ front
content_return front = rw (reverse-append front (13 ∷ [])) (reverse-reverse front)

-- a row of plain numbers is its own content, with a CR or without
pub row_content : (front line : List ℕ) → all in_row front ≡ true → (line ≡ front) ⊎ (line ≡ front ++ 13 ∷ []) → content (whole_line line) ≡ front
row_content front line h (inl e) = ap (λ t. content (whole_line t)) e ∙ content_plain front h
row_content front line h (inr e) = ap (λ t. content (whole_line t)) e ∙ content_return front

row_solid : (front : List ℕ) → all in_row front ≡ true → 0 < length front → all is_space front ≡ false
row_solid [] h some = absurd (omega (arith, some))
row_solid (c ∷ front) h some = let a : in_row c ≡ true = grind (arith, h) in rw (no_blank in_row refl refl c a) refl

-- and has no LF
pub row_free : (front line : List ℕ) → all in_row front ≡ true → (line ≡ front) ⊎ (line ≡ front ++ 13 ∷ []) → HasNoFeed line
row_free front line h (inl e) = subst HasNoFeed (sym e) (free_of in_row 10 refl front h)
row_free front line h (inr e) = subst HasNoFeed (sym e) (with_return front h)
  where
    with_return : (xs : List ℕ) → all in_row xs ≡ true → HasNoFeed (xs ++ 13 ∷ [])
    with_return [] h = All-cons (λ c. c ≡ 10 → ⊥) 13 [] (other_byte (λ c. c == 13) 13 10 refl refl) (All-nil (λ c. c ≡ 10 → ⊥))
    with_return (c ∷ xs) h =
        let a : in_row c ≡ true = grind (arith, h) in let b : all in_row xs ≡ true = grind (arith, h) in
        All-cons (λ x. x ≡ 10 → ⊥) c (xs ++ 13 ∷ []) (other_byte in_row c 10 a refl) (with_return xs b)

-- the whole row
module _ (sc : Scaled) (front line : List ℕ) (i : ℕ) (r : Row) (p : IsPlainFront sc.scale sc.heading front i r)
    (is : (line ≡ front) ⊎ (line ≡ front ++ 13 ∷ [])) where
  -- it is not blank
  pub row_not_blank : is_blank_line (whole_line line) ≡ false
  row_not_blank = ap (all is_space) (row_content front line p.bytes is) ∙ row_solid front p.bytes p.begins

  row_fields : fields (whole_line line) ≡ p.first ∷ p.others
  row_fields = fields_are line ∙ (ap (λ t. map trim (split 44 t)) (row_content front line p.bytes is) ∙ (ap (map trim) p.whole ∙ p.trimmed))

  -- and is read as its fields say
  pub row_read : drop i sc.heading.digits ≡ [] → i ≡ length sc.heading.columns → length r.values ≡ i → IsInRange r → IsRowRead sc (fields (whole_line line)) r
  row_read past n width range =
      let l = subst (λ fs. AreValuesLeft sc.scale sc.heading.digits fs (i + 2) (drop i sc.heading.digits) [] r.values) (append-nil p.others) (p.left []) in
      record {
        read = row_is sc.scale sc.heading (fields (whole_line line)) p.first p.others row_fields r p.time.value
            (values_read sc.scale sc.heading.digits p.others (i + 2) (drop i sc.heading.digits) [] r.values l past refl);
        width = ap length row_fields ∙ ap suc (p.count ∙ n);
        values = width ∙ n;
        sound = numbers_sound sc.scale sc.heading (fields (whole_line line)) p.first p.others row_fields p.time.sound
            (values_sound sc.scale sc.heading.digits p.others (i + 2) (drop i sc.heading.digits) [] r.values l past);
        range = range;
      }

-- a front that is a whole row of plain numbers
pub record IsPlainWhole (sc : Scaled) (front : List ℕ) (i : ℕ) (r : Row) : Type 0 where
  -- it is a front
  pub front_is : IsPlainFront sc.scale sc.heading front i r
  -- it has a value for each column
  pub past : drop i sc.heading.digits ≡ []
  -- so many columns there are
  pub columns : i ≡ length sc.heading.columns
  -- and so many values
  pub width : length r.values ≡ i
  -- time and values are within their ranges
  pub range : IsInRange r
  -- and is short enough for a line
  pub short : length front ≤ 4000

-- the piece begins with the row
pub plain_row : (sc : Scaled) (piece front : List ℕ) (i : ℕ) (r : Row) (n : ℕ) → IsPlainWhole sc front i r → n ≤ length piece
    → (take n piece ≡ front ++ 10 ∷ []) ⊎ (take n piece ≡ (front ++ 13 ∷ []) ++ 10 ∷ []) → IsPlainRow sc piece n r
plain_row sc piece front i r n h within (inl e) = record {
  line = front;
  whole = record { taken = e; within = within; free = row_free front front h.front_is.bytes (inl refl); short = omega (arith, h.short) };
  solid = row_not_blank sc front front i r h.front_is (inl refl);
  read = row_read sc front front i r h.front_is (inl refl) h.past h.columns h.width h.range;
}
plain_row sc piece front i r n h within (inr e) = record {
  line = front ++ 13 ∷ [];
  whole = record {
    taken = e;
    within = within;
    free = row_free front (front ++ 13 ∷ []) h.front_is.bytes (inr refl);
    short = omega (arith, h.short, length_push front 13);
  };
  solid = row_not_blank sc front (front ++ 13 ∷ []) i r h.front_is (inr refl);
  read = row_read sc front (front ++ 13 ∷ []) i r h.front_is (inr refl) h.past h.columns h.width h.range;
}

-- the next field after a comma
pub front_longer : (at n : ℕ) (piece : List ℕ) → at < length piece → n < length (drop (at + 1) piece) → get_or piece at 0 ≡ 44
    → take (at + (n + 1)) piece ≡ take at piece ++ 44 ∷ take n (drop (at + 1) piece)
front_longer at n piece h k e =
    let d : drop at piece ≡ 44 ∷ drop (at + 1) piece = drop_more piece at 0 h ∙ ap (λ c. c ∷ drop (at + 1) piece) e in
    let t : take (n + 1) (drop at piece) ≡ 44 ∷ take n (drop (at + 1) piece) = ap (take (n + 1)) d ∙ ap (λ j. take j (44 ∷ drop (at + 1) piece)) (add-one n) in
    take_on at (n + 1) piece (44 ∷ take n (drop (at + 1) piece)) t (omega (arith, h)) (omega (arith, k, ap length d))

-- what holds of a result
pub some_to : (o : Option ℕ) (P Q : ℕ → Type 0) → ((n : ℕ) → P n → Q n) → MatchOption o (Unit {0}) P → MatchOption o (Unit {0}) Q
some_to None P Q f h = h
some_to (Some n) P Q f h = f n h
