-- The first token of a text.
use Rattle.std.proofs.Common.{◌≡◌, ℕ, suc, zero, ◌+◌, ◌-◌, ◌<◌, ◌≤◌, min, Bool, true, false, List, [], ◌∷◌}
use Rattle.std.proofs.Common.{◌++◌, length, take, drop, get_or, refl, sym, ap, ◌∙◌, subst, arith, append_assoc}
use Rattle.std.specs.Prelude.{◌==◌, ◌||◌, nat_lt, nat_le, IsTrue, MatchBool}
use Rattle.std.specs.Str.{IsAscii}
use Rattle.std.proofs.lemmas.Bool.{eqb-true}
use Rattle.std.proofs.lemmas.Bool.Decides.{nat_tests}
use Rattle.std.proofs.lemmas.List.{take-append-drop, drop_more, drop-drop, length-take-le, append-nil, take_at}
use Rattle.stl_syntax.specs.Characters.{is_digit, begins_word, goes_on_word, all, StopsAt, decimal_value, without_zeros, begins_decimals, is_among}
use Rattle.stl_grammar.specs.Tokens.{Token, word, number, relation, decimal_number, IsToken, a_word, an_integer, a_decimal}
use Rattle.stl_syntax.specs.Names.{reserved, is_name}
use Rattle.stl_grammar.specs.declared.decimal.Decimal.{Decimal}
use Rattle.stl_grammar.specs.Spelling.{Spells, SpellsNumber, IsNumber, IsLarge, spelling, IsLexeme, has_equal}
use Rattle.stl_syntax.proofs.DecimalLemmas.{all-without_zeros}
use Rattle.stl_grammar.specs.declared.token.Keyword.{Keyword}
use Rattle.stl_grammar.specs.declared.token.Token.{Token as Code}
use Rattle.stl_grammar.specs.declared.token.Token.TheVariants.{Keyword as IsKeyword, Number, Relation, Name}
use Rattle.stl_syntax.proofs.DecimalLemmas.{decimal_value-min, decimal_value-append}
use Rattle.stl_syntax.proofs.CharacterLemmas.{words_ascii, begins_goes_on}
use Rattle.stl_syntax.specs.declared.rel.Rel.{Rel}

-- what begins with such a byte, and stops after n of them
pub front_some : (p : ℕ → Bool) (xs : List ℕ) (n : ℕ) → 0 < length xs → p (get_or xs 0 0) ≡ true → StopsAt p (drop n xs) → 0 < n
front_some p [] n l h s = absurd (omega (arith, l))
front_some p (c ∷ xs) zero l h s = absurd (cc)
front_some p (c ∷ xs) (suc n) l h s = omega arith

-- a token of one byte
pub one_byte : (text rest : List ℕ) (c : ℕ) (t : Token) (code : Code) → 0 < length rest → get_or rest 0 0 ≡ c → ((after : List ℕ) → IsToken (c ∷ []) after t)
    → Spells text code t → IsLexeme text rest code 1
one_byte text [] c t code l e h k = absurd (omega (arith, l))
one_byte text (d ∷ rest) c t code l e h k =
    record { bytes = c ∷ []; after = rest; token = t; splits = ap (λ x. x ∷ rest) e; size = refl; reads = h rest; spells = k }

-- a relation, with = after its first byte or without it
abbrev pub SpellsRelation : List ℕ → Rel → Rel → Code → ℕ → Type 0
SpellsRelation rest strict weak code len = MatchBool (has_equal rest) ((code ≡ Relation weak) × (len ≡ 2)) ((code ≡ Relation strict) × (len ≡ 1))

weak_relation : (text more : List ℕ) (c : ℕ) (weak : Rel) (code : Code) (len : ℕ) → ((after : List ℕ) → IsToken (c ∷ 61 ∷ []) after (relation weak))
    → (code ≡ Relation weak) × (len ≡ 2) → IsLexeme text (c ∷ 61 ∷ more) code len
weak_relation text more c weak code len h m =
    rw (m.0, m.1) (record { bytes = c ∷ 61 ∷ []; after = more; token = relation weak; splits = refl; size = refl; reads = h more; spells = refl })

strict_relation : (text more : List ℕ) (c : ℕ) (strict : Rel) (code : Code) (len : ℕ) → StopsAt (λ d. d == 61) more
    → ((after : List ℕ) → StopsAt (λ d. d == 61) after → IsToken (c ∷ []) after (relation strict))
    → (code ≡ Relation strict) × (len ≡ 1) → IsLexeme text (c ∷ more) code len
strict_relation text more c strict code len s h m =
    rw (m.0, m.1) (record { bytes = c ∷ []; after = more; token = relation strict; splits = refl; size = refl; reads = h more s; spells = refl })

-- a token that may go on with `=`
pub a_relation : (text rest : List ℕ) (c : ℕ) (strict weak : Rel) (code : Code) (len : ℕ) → 0 < length rest → get_or rest 0 0 ≡ c
    → ((after : List ℕ) → IsToken (c ∷ 61 ∷ []) after (relation weak))
    → ((after : List ℕ) → StopsAt (λ d. d == 61) after → IsToken (c ∷ []) after (relation strict))
    → SpellsRelation rest strict weak code len → IsLexeme text rest code len
a_relation text [] c strict weak code len l e h k m = absurd (omega (arith, l))
a_relation text (b ∷ []) c strict weak code len l e h k m = rw e (strict_relation text [] c strict code len tt k m)
a_relation text (b ∷ d ∷ more) c strict weak code len l e h k m = rw e (by_second (d == 61) refl m)
  where
    by_second : (q : Bool) → (d == 61) ≡ q → MatchBool q ((code ≡ Relation weak) × (len ≡ 2)) ((code ≡ Relation strict) × (len ≡ 1))
        → IsLexeme text (c ∷ d ∷ more) code len
    by_second true f m = rw (eqb-true d 61 f) (weak_relation text more c weak code len h m)
    by_second false f m = strict_relation text (d ∷ more) c strict code len f k m

-- the token of a number
pub spells_number : (v n k : ℕ) (d : Decimal) → min v 4294967296 ≡ min n 4294967296 → SpellsNumber v k d → IsNumber d (number n k)
spells_number v n k d e h = by_size (nat_le d.decimals 6) h
  where
    by_size : (q : Bool) → MatchBool q ((d.value ≡ v) × (d.decimals ≡ k) × (v < 4294967296)) (IsTrue (nat_lt 6 k || nat_lt 4294967295 v))
        → MatchBool q (number n k ≡ number d.value d.decimals) (IsLarge (number n k))
    by_size true h = let same : d.value ≡ n = omega (arith, e, h.0, h.2) in rw (same, h.1) refl
    by_size false h = (n, k, refl, grind (arith, nat_tests, h, e))

whole_token : (whole after : List ℕ) → 0 < length whole → all is_digit whole ≡ true → StopsAt is_digit after → begins_decimals after ≡ false
    → IsToken whole after (decimal_number whole [])
whole_token [] after l h s b = absurd (omega (arith, l))
whole_token (c ∷ whole) after l h s b = an_integer h s b

decimal_token : (whole fraction after : List ℕ) → 0 < length whole → 0 < length fraction → all is_digit whole ≡ true → all is_digit fraction ≡ true
    → StopsAt is_digit after → IsToken (whole ++ 46 ∷ fraction) after (decimal_number whole (without_zeros fraction))
decimal_token [] fraction after l m h k s = absurd (omega (arith, l))
decimal_token (c ∷ whole) [] after l m h k s = absurd (omega (arith, m))
decimal_token (c ∷ whole) (d ∷ fraction) after l m h k s = a_decimal c whole d fraction h k s

-- a point and a digit
point_at : (xs : List ℕ) → begins_decimals xs ≡ true → (xs ≡ 46 ∷ drop 1 xs) × (0 < length (drop 1 xs)) × (is_digit (get_or (drop 1 xs) 0 0) ≡ true)
point_at [] h = absurd (cc)
point_at (c ∷ []) h = absurd (cc)
point_at (c ∷ d ∷ more) h =
    let e : c ≡ 46 = grind (arith, nat_tests, h) in let k : is_digit d ≡ true = grind (arith, h) in
    (rw e refl, omega arith, k)

-- behind the point of a number of the value v come l digits, of which k are kept; they make the value u
pub record HasDecimals (decimals : List ℕ) (v l k u : ℕ) : Type 0 where
  -- there are as many
  pub within : l ≤ length decimals
  -- they are digits
  pub digits : all is_digit (take l decimals) ≡ true
  -- and no more follow
  pub stops : StopsAt is_digit (drop l decimals)
  -- those that are kept are some of them
  pub few : k ≤ length (take l decimals)
  -- which are all but the zeros at the end
  pub kept : take k (take l decimals) ≡ without_zeros (take l decimals)
  -- with them the value is this, or both are beyond
  pub value : min u 4294967296 ≡ min (decimal_value v (take k (take l decimals))) 4294967296

-- a number at the front of a text: w digits, of the value v
module _ (text rest : List ℕ) (w v : ℕ) (some : 0 < length rest) (first : is_digit (get_or rest 0 0) ≡ true) (within : w ≤ length rest)
    (front : all is_digit (take w rest) ≡ true) (stops : StopsAt is_digit (drop w rest))
    (value : min v 4294967296 ≡ min (decimal_value 0 (take w rest)) 4294967296) where
  digits : 0 < length (take w rest)
  digits = omega (arith, length-take-le w rest within, front_some is_digit rest w some first stops)

  -- a number without decimals
  pub whole_lexeme : (d : Decimal) → begins_decimals (drop w rest) ≡ false → SpellsNumber v 0 d → IsLexeme text rest (Number d) w
  whole_lexeme d b h =
      record {
        bytes = take w rest;
        after = drop w rest;
        token = decimal_number (take w rest) [];
        splits = sym (take-append-drop w rest);
        size = length-take-le w rest within;
        reads = whole_token (take w rest) (drop w rest) digits front stops b;
        spells = spells_number v _ 0 d (rw append-nil value) h;
      }

  -- with l decimals, of which k are kept
  pub decimal_lexeme : (l k u : ℕ) (d : Decimal) → begins_decimals (drop w rest) ≡ true → HasDecimals (drop (w + 1) rest) v l k u → SpellsNumber u k d
      → IsLexeme text rest (Number d) (w + 1 + l)
  decimal_lexeme l k u d b x h =
      let p = point_at (drop w rest) b in
      let same : drop 1 (drop w rest) ≡ drop (w + 1) rest = drop-drop 1 w rest in
      let starts : drop w rest ≡ 46 ∷ drop (w + 1) rest = rw same at p.0 in
      let more : 0 < length (drop (w + 1) rest) = rw same at p.1 in
      let digit : is_digit (get_or (drop (w + 1) rest) 0 0) ≡ true = rw same at p.2 in
      let fraction : List ℕ = take l (drop (w + 1) rest) in
      let size : length fraction ≡ l = length-take-le l (drop (w + 1) rest) x.within in
      let kept : length (without_zeros fraction) ≡ k = ap length (sym x.kept) ∙ length-take-le k fraction x.few in
      let exact : min u 4294967296 ≡ min (decimal_value 0 (take w rest ++ without_zeros fraction)) 4294967296 =
      x.value ∙ ap (λ xs. min (decimal_value v xs) 4294967296) x.kept ∙ decimal_value-min v (decimal_value 0 (take w rest)) (without_zeros fraction) value
      ∙ ap (λ y. min y 4294967296) (sym (decimal_value-append 0 (take w rest) (without_zeros fraction))) in
      record {
        bytes = take w rest ++ 46 ∷ fraction;
        after = drop l (drop (w + 1) rest);
        token = decimal_number (take w rest) (without_zeros fraction);
        splits = sym (append_assoc (take w rest) (46 ∷ fraction) (drop l (drop (w + 1) rest))
            ∙ ap (λ xs. take w rest ++ 46 ∷ xs) (take-append-drop l (drop (w + 1) rest)) ∙ ap (λ xs. take w rest ++ xs) (sym starts) ∙ take-append-drop w rest);
        size = length_two (take w rest) fraction w l (length-take-le w rest within) size;
        reads = decimal_token (take w rest) fraction (drop l (drop (w + 1) rest)) digits
            (omega (arith, size, front_some is_digit (drop (w + 1) rest) l more digit x.stops)) front x.digits x.stops;
        spells = spells_number u _ _ d exact (rw kept h);
      }
    where
      length_two : (xs ys : List ℕ) (a b : ℕ) → length xs ≡ a → length ys ≡ b → length (xs ++ 46 ∷ ys) ≡ a + 1 + b
      length_two [] ys a b h k = omega (arith, h, k)
      length_two (x ∷ xs) ys zero b h k = absurd (omega (arith, h))
      length_two (x ∷ xs) ys (suc a) b h k = omega (arith, length_two xs ys a b (omega (arith, h)) k)

  -- the same of slices that are these
  pub decimal_lexeme_of : {decimals : List ℕ} (others : List ℕ) → others ≡ drop w rest → decimals ≡ drop 1 others → (l k u : ℕ) (d : Decimal)
      → begins_decimals others ≡ true → HasDecimals decimals v l k u → SpellsNumber u k d → IsLexeme text rest (Number d) (w + 1 + l)
  decimal_lexeme_of others o i l k u d b x h =
      decimal_lexeme l k u d (rw o at b) (subst (λ ds. HasDecimals ds v l k u) (i ∙ ap (drop 1) o ∙ drop-drop 1 w rest) x) h

  -- so for slices
  pub whole_lexeme_of : (others : List ℕ) → others ≡ drop w rest → (d : Decimal) → begins_decimals others ≡ false
      → SpellsNumber v 0 d → IsLexeme text rest (Number d) w
  whole_lexeme_of others o d b h = whole_lexeme d (rw o at b) h

-- decimals that are kept are digits
pub kept_digits : (fraction : List ℕ) (k : ℕ) → all is_digit fraction ≡ true → take k fraction ≡ without_zeros fraction → all is_digit (take k fraction) ≡ true
kept_digits fraction k h z = rw z (all-without_zeros fraction h)

-- a word at place `at` of a text, with n bytes after its first
module _ (text : List ℕ) (at n : ℕ) (place : at < length text) (first : begins_word (get_or text at 0) ≡ true) (more : List ℕ)
    (same : more ≡ drop (at + 1) text)
    (within : n ≤ length more) (front : all goes_on_word (take n more) ≡ true) (stops : StopsAt goes_on_word (drop n more)) where
  bytes : List ℕ
  bytes = get_or text at 0 ∷ take n more

  splits : drop at text ≡ bytes ++ drop n more
  unfolding bytes
  splits = drop_more text at 0 place ∙ ap (λ xs. get_or text at 0 ∷ xs) (sym same ∙ sym (take-append-drop n more))

  size : length bytes ≡ 1 + n
  unfolding bytes
  size = omega (arith, length-take-le n more within)

  read : (code : Code) → Spells text code (word bytes) → IsLexeme text (drop at text) code (1 + n)
  unfolding bytes
  read code h =
      record { bytes = bytes; after = drop n more; token = word bytes; splits = splits; size = size; reads = a_word first front stops; spells = h }

  cut : take (at + (1 + n) - at) (drop at text) ≡ bytes
  cut =
      let e : at + (1 + n) - at ≡ 1 + n = omega arith in
      rw (e, splits) (take_at bytes (drop n more) (1 + n) size)

  good_name : is_among bytes reserved ≡ false → IsTrue (is_name bytes)
  unfolding bytes
  good_name h = let e : goes_on_word (get_or text at 0) ≡ true = rw first refl in rw (first, front, h) refl

  -- a word of the grammar
  pub keyword_lexeme : (w : Keyword) → take (at + (1 + n) - at) (drop at text) ≡ spelling w → IsLexeme text (drop at text) (IsKeyword w) (1 + n)
  keyword_lexeme w h = read (IsKeyword w) (ap word (sym cut ∙ h))

  -- and a name
  pub name_lexeme : is_among (take (at + (1 + n) - at) (drop at text)) reserved ≡ false → IsLexeme text (drop at text) (Name at (at + (1 + n))) (1 + n)
  name_lexeme h =
      read (Name at (at + (1 + n))) (bytes, refl, record { good = good_name (rw cut at h); after = drop n more; stands = splits; ends = omega (arith, size) })

-- a name is of ASCII bytes
pub name_ascii : (text : List ℕ) → IsTrue (is_name text) → IsAscii text
name_ascii [] h = absurd (cc)
name_ascii (c ∷ rest) h =
    let a : begins_word c ≡ true = grind (arith, h) in let b : all goes_on_word rest ≡ true = grind (arith, h) in
    words_ascii (c ∷ rest) (rw (begins_goes_on c a, b) refl)
