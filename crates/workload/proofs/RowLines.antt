-- The line of a generated row: it is whole, not blank, and read as that row, without a fault.
use Rattle.std.proofs.Common.{◌≡◌, inl, ℕ, ◌+◌, ◌*◌, ◌/◌, ◌%◌, ◌^◌, ◌<◌, ◌≤◌, ℤ, List, [], ◌∷◌, ◌++◌, length, length-append}
use Rattle.std.proofs.Common.{append_assoc, nat_abs, true, false, refl, sym, ap, ◌∙◌, arith}
use Rattle.std.specs.Prelude.{decimal}
use Rattle.std.specs.Fmt.{signed_decimal}
use Rattle.std.proofs.lemmas.Int.{ints}
use Rattle.std.proofs.lemmas.List.{append-nil}
use Rattle.std.proofs.lemmas.List.Elements.{All-nil, All-cons}
use Rattle.std.proofs.lemmas.Fmt.{decimal_nonempty, length-decimal-le}
use Rattle.stl_syntax.specs.Trace.{Row}
use Rattle.trace_reader.specs.TraceText.{Heading, fields, is_blank_line, lines}
use Rattle.trace_reader.specs.LineParts.{whole_line}
use Rattle.trace_reader.specs.Feeds.{HasNoFeed}
use Rattle.trace_reader.specs.Headings.{Scaled}
use Rattle.trace_reader.specs.RowLines.{IsRowRead}
use Rattle.trace_reader.proofs.LineLemmas.{done, lines-append, lines-line}
use Rattle.trace_reader.proofs.PlainLemmas.{IsPlainFront, front_first, front_next, time_read, row_free, row_not_blank, row_read}
use Rattle.trace_reader.proofs.RowLemmas.{row_made}
use Rattle.workload.specs.Generated.{next_state, state_value, ticks, columns, row_line}
use Rattle.workload.proofs.Numbers.{decimal_ticks, decimal_plain, signed_plain, signed_read, signed_short}

-- the heading of a generated trace
abbrev pub heading : Heading
heading = record { time_digits = 0; columns = columns; digits = 0 ∷ 0 ∷ [] }

-- with its ticks
abbrev pub counted : Scaled
counted = record { heading = heading; scale = ticks }

-- a row of one value
abbrev pub row_of : ℕ → ℤ → Row
row_of t v = row_made t (v ∷ v ∷ [])

-- its line without LF
abbrev pub front_of : ℕ → ℤ → List ℕ
front_of t v = (decimal t ++ 44 ∷ signed_decimal v) ++ 44 ∷ signed_decimal v

-- values are small
pub value_small : (s : ℕ) → nat_abs (state_value (next_state s)) ≤ 16777216
value_small s =
    let n : ℕ = s * 6364136223846793005 + 1442695040888963407 in
    let small : n % 2 ^ 64 < 18446744073709551616 = omega arith in
    let top : n % 2 ^ 64 / 2 ^ 43 < 2097152 = omega (arith, small) in
    omega (arith, ints, top)

-- the parts of a line: a time, a value, the value again, LF
joined : (a b more : List ℕ) → ((a ++ (44 ∷ (b ++ 44 ∷ (b ++ [])))) ++ 10 ∷ []) ++ more ≡ ((a ++ 44 ∷ b) ++ 44 ∷ b) ++ 10 ∷ more
joined a b more =
    append_assoc (a ++ (44 ∷ (b ++ 44 ∷ (b ++ [])))) (10 ∷ []) more
    ∙ ap (λ x. x ++ 10 ∷ more) (ap (λ y. a ++ (44 ∷ (b ++ 44 ∷ y))) (append-nil b) ∙ sym (append_assoc a (44 ∷ b) (44 ∷ b)))

-- the line of a row with its LF, and what follows
pub line_parts : (t : ℕ) (v : ℤ) (more : List ℕ) → row_line (row_of t v) ++ more ≡ front_of t v ++ 10 ∷ more
line_parts t v more = joined (decimal t) (signed_decimal v) more

module _ (t : ℕ) (v : ℤ) (early : t < 4294967296) (small : nat_abs v ≤ 16777216) where
  -- the time and two values
  pub is_front : IsPlainFront ticks heading (front_of t v) 2 (row_of t v)
  is_front =
      let time = front_first ticks heading (decimal t) t (decimal_nonempty t (omega (arith, early))) (decimal_plain t (omega (arith, early)))
      (time_read (decimal t) 0 0 t (decimal_ticks t (omega (arith, early))) early) in
      let first = front_next ticks heading (decimal t) 0 (row_made t []) (signed_decimal v) 0 v time refl (signed_plain v small) (signed_read v 2 small) in
      front_next ticks heading (decimal t ++ 44 ∷ signed_decimal v) 1 (row_made t (v ∷ [])) (signed_decimal v) 0 v first refl (signed_plain v small)
      (signed_read v 3 small)

  -- it has no LF
  pub no_feed : HasNoFeed (front_of t v)
  no_feed = row_free (front_of t v) (front_of t v) is_front.bytes (inl refl)

  -- it is short
  pub short : length (front_of t v) ≤ 4096
  short =
      let time = length-decimal-le 10 t (omega arith) (omega (arith, early)) (omega (arith, early)) in
      let value = signed_short v small in
      let whole = length-append (decimal t ++ 44 ∷ signed_decimal v) (44 ∷ signed_decimal v) in
      let part = length-append (decimal t) (44 ∷ signed_decimal v) in
      omega (arith, time, value, whole, part)

  -- it is not blank
  pub solid : is_blank_line (whole_line (front_of t v)) ≡ false
  solid = row_not_blank counted (front_of t v) (front_of t v) 2 (row_of t v) is_front (inl refl)

  -- it is read as the row
  pub row_is_read : IsRowRead counted (fields (whole_line (front_of t v))) (row_of t v)
  row_is_read =
      row_read counted (front_of t v) (front_of t v) 2 (row_of t v) is_front (inl refl) refl refl refl
      (record {
        time = omega (arith, early);
        values = All-cons (λ x. nat_abs x ≤ 16777216) v (v ∷ []) small (All-cons (λ x. nat_abs x ≤ 16777216) v
            [] small (All-nil (λ x. nat_abs x ≤ 16777216)));
      })

  -- the lines of the bytes that begin with it
  pub first_line : (more : List ℕ) → lines true (row_line (row_of t v) ++ more) ≡ done (front_of t v) ∷ lines true more
  first_line more =
      ap (lines true) (line_parts t v more)
      ∙ lines-append true (front_of t v) more
      ∙ ap (λ ls. ls ++ lines true more) (lines-line (front_of t v) no_feed)
