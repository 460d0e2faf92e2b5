-- Where an atom's sum passes 0 on a gap, and its sign elsewhere.
use Rattle.std.proofs.Common.{◌≡◌, ◌≢◌, ℕ, zero, suc, ℤ, pos, negsuc, ◌+◌, ◌-◌, ◌*◌, ◌/◌, ◌%◌, ◌<◌, ◌+ℤ◌}
use Rattle.std.proofs.Common.{◌-ℤ◌, ◌*ℤ◌, ◌<ℤ◌, ◌≤ℤ◌, ◌⊎◌, inl, inr, Bool, refl, sym, ap, ◌∙◌, subst, arith}
use Rattle.std.specs.Int.RustNames.{unsigned_abs}
use Rattle.std.proofs.lemmas.Int.{ints}
use Rattle.std.proofs.lemmas.Nat.{div-add-mod'}
use Rattle.std.proofs.Math.Nat.{zero-lt-suc, sub-pos_iff_lt}
use Rattle.std.specs.declared.cmp.Ordering.{Ordering}
use Rattle.std.specs.declared.cmp.Ordering.TheVariants.{Less, Equal, Greater}
use Rattle.rational.specs.Rational.{Rational, ◌<ʳ◌, ◌≈◌, add, whole, ratio, fraction, IsOrder, part_above, part_below}
use Rattle.rational.specs.Line.{at, Rises, Falls}
use Rattle.rational.proofs.Mixed.{parts}
use Rattle.rational.proofs.Order.{le_of_same, ge_of_same, le_trans, lt_of_lt_of_le, lt_of_le_of_lt, same_trans, same_refl}
use Rattle.rational.proofs.Shift.{le_whole, lt_whole}
use Rattle.rational.proofs.Lines.{same_at, lt_at, lt_at_falls, lt_at_cancel, root_at, root_at_falls, at_ramp_base, at_ramp_end}
use Rattle.rational.proofs.Lines.{lt_at_cancel_falls}
use Rattle.rational.proofs.Between.{above_between, below_between, level_between}
use Rattle.stl_syntax.specs.Truth.{compares}
use Rattle.stl_syntax.specs.declared.rel.Rel.{Rel}
use Rattle.atom_lines.specs.declared.gap.Gap.{Gap}
use Rattle.atom_lines.specs.Gaps.{along, Passes}
use Rattle.atom_lines.proofs.Signs.{compare_alike, compare_apart, sign_of}

-- two whole numbers on one side of 0
record AreBelow (e f : ℤ) : Type 0 where
  first : e ≤ℤ pos 0
  second : f ≤ℤ pos 0
  one : (e <ℤ pos 0) ⊎ (f <ℤ pos 0)
  sum : (e +ℤ f) <ℤ pos 0

record AreZero (e f : ℤ) : Type 0 where
  first : e ≡ pos 0
  second : f ≡ pos 0
  sum : (e +ℤ f) ≡ pos 0

record AreAbove (e f : ℤ) : Type 0 where
  first : pos 0 ≤ℤ e
  second : pos 0 ≤ℤ f
  one : (pos 0 <ℤ e) ⊎ (pos 0 <ℤ f)
  sum : pos 0 <ℤ (e +ℤ f)

ends_of : (e f : ℤ) → ¬ (((e <ℤ pos 0) × (pos 0 <ℤ f)) ⊎ ((pos 0 <ℤ e) × (f <ℤ pos 0))) → AreBelow e f ⊎ AreZero e f ⊎ AreAbove e f
ends_of e f n = by_side (sign_of e) (sign_of f)
  where
    by_side : (e <ℤ pos 0) ⊎ (e ≡ pos 0) ⊎ (pos 0 <ℤ e) → (f <ℤ pos 0) ⊎ (f ≡ pos 0) ⊎ (pos 0 <ℤ f) → AreBelow e f ⊎ AreZero e f ⊎ AreAbove e f
    by_side (inl a) (inl b) = inl (record { first = omega (arith, ints); second = omega (arith, ints); one = inl a; sum = omega (arith, ints) })
    by_side (inl a) (inr (inl b)) = inl (record { first = omega (arith, ints); second = omega (arith, ints); one = inl a; sum = omega (arith, ints) })
    by_side (inl a) (inr (inr b)) = absurd (n (inl (a, b)))
    by_side (inr (inl a)) (inl b) = inl (record { first = omega (arith, ints); second = omega (arith, ints); one = inr b; sum = omega (arith, ints) })
    by_side (inr (inl a)) (inr (inl b)) = inr (inl (record { first = a; second = b; sum = omega (arith, ints) }))
    by_side (inr (inl a)) (inr (inr b)) =
        inr (inr (record { first = omega (arith, ints); second = omega (arith, ints); one = inr b; sum = omega (arith, ints) }))
    by_side (inr (inr a)) (inl b) = absurd (n (inr (a, b)))
    by_side (inr (inr a)) (inr (inl b)) =
        inr (inr (record { first = omega (arith, ints); second = omega (arith, ints); one = inl a; sum = omega (arith, ints) }))
    by_side (inr (inr a)) (inr (inr b)) =
        inr (inr (record { first = omega (arith, ints); second = omega (arith, ints); one = inl a; sum = omega (arith, ints) }))

module _ (g : Gap) where
  abbrev first : Rational
  first = whole (pos g.first)

  abbrev second : Rational
  second = whole (pos g.second)

  -- at the first row the sum is that row's
  pub at_first : at (along g) first ≈ whole g.from
  at_first = at_ramp_base (pos g.first) g.from (g.to -ℤ g.from) (g.second - g.first) (sub-pos_iff_lt.1 g.rising)

  -- and at the second the other's
  pub at_second : at (along g) second ≈ whole g.to
  at_second = same_trans (same_at (along g) there)
      (same_trans (at_ramp_end (pos g.first) g.from (g.to -ℤ g.from) (g.second - g.first) (sub-pos_iff_lt.1 g.rising)) reached)
    where
      there : second ≈ add (whole (pos g.first)) (whole (pos (g.second - g.first)))
      there = let h = g.rising in record { same = omega arith }

      reached : add (whole g.from) (whole (g.to -ℤ g.from)) ≈ whole g.to
      reached = record { same = omega (arith, parts) }

  -- the size of the rise where the sum has opposite signs at the ends
  pub rise_size : Passes g → unsigned_abs g.from + unsigned_abs g.to ≡ unsigned_abs (g.to -ℤ g.from)
  rise_size (inl h) = omega (arith, ints)
  rise_size (inr h) = omega (arith, ints)

  root : (n r : ℕ) (q : 0 < r) → Passes g → r ≡ unsigned_abs g.from + unsigned_abs g.to → n ≡ g.first * r + unsigned_abs g.from * (g.second - g.first)
      → at (along g) (ratio (pos n) r q) ≈ whole (pos 0)
  root n r q (inl h) e k = root_at (along g) (pos n) r q rise (omega (arith, ap (λ x. x * g.first) rise, ap (λ x. x * (g.second - g.first)) below, k))
    where
      rise : r + part_below (g.to -ℤ g.from) ≡ part_above (g.to -ℤ g.from)
      rise = omega (arith, parts, e)

      below : unsigned_abs g.from + part_above g.from ≡ part_below g.from
      below = omega (arith, parts)
  root n r q (inr h) e k = root_at_falls (along g) (pos n) r q fall (omega (arith, ap (λ x. x * g.first) fall, ap (λ x. x * (g.second - g.first)) above, k))
    where
      fall : r + part_above (g.to -ℤ g.from) ≡ part_below (g.to -ℤ g.from)
      fall = omega (arith, parts, e)

      above : unsigned_abs g.from + part_below g.from ≡ part_above g.from
      above = omega (arith, parts)

  -- at the crossing the sum is 0
  pub crossing_zero : (num den : ℤ) (n r : ℕ) (v : Rational) → Passes g → r ≡ unsigned_abs g.from + unsigned_abs g.to
      → n ≡ g.first * r + unsigned_abs g.from * (g.second - g.first) → num ≡ pos n → den ≡ pos r → v ≈ fraction num den → at (along g) v ≈ whole (pos 0)
  crossing_zero num den n zero v h e k a b w = absurd (none h)
    where
      none : Passes g → ⊥
      none (inl h) = omega (arith, ints, e)
      none (inr h) = omega (arith, ints, e)
  crossing_zero num den n (suc r) v h e k a b w =
      same_trans (same_at (along g) (subst (λ x. v ≈ fraction x (pos (suc r))) a (subst (λ x. v ≈ fraction num x) b w))) (root n (suc r) (zero-lt-suc r) h e k)

  -- the same, as a whole part and a rest
  pub crossing_mixed : {w : ℤ} {rest r : ℕ} {v : Rational} → v ≈ fraction (w *ℤ pos r +ℤ pos rest) (pos r) → (b length : ℕ) → Passes g
      → r ≡ unsigned_abs g.from + unsigned_abs g.to → b ≡ unsigned_abs g.from → length ≡ g.second - g.first
      → w ≡ pos (g.first + b * length / r) → rest ≡ b * length % r → at (along g) v ≈ whole (pos 0)
  crossing_mixed {w} {rest} {r} {v} h b length p e f k a m =
      crossing_zero (w *ℤ pos r +ℤ pos rest) (pos r) (g.first * r + b * length) r v p e (cc)
      (ap (λ z. z *ℤ pos r +ℤ pos rest) a ∙ ap pos (omega (arith, div-add-mod' (b * length) r, m))) refl h

  rising : (g.from <ℤ pos 0) × (pos 0 <ℤ g.to) → Rises (along g)
  rising h = record { rises = omega (arith, parts) }

  falling : (pos 0 <ℤ g.from) × (g.to <ℤ pos 0) → Falls (along g)
  falling h = record { falls = omega (arith, parts) }

  -- what the sum is at a time, as a comparison sees it
  abbrev test : Rel → Rational → Bool
  test rel t = compares rel (at (along g) t)

  zero_at : (c t : Rational) → at (along g) c ≈ whole (pos 0) → t ≈ c → at (along g) t ≈ whole (pos 0)
  zero_at c t z e = same_trans (same_at (along g) e) z

  -- the truths before, at and after the time at which the sum is 0
  pub record IsTurn (rel : Rel) (c : Rational) : Type 0 where
    -- the crossing is after the first row
    pub after_first : first <ʳ c
    -- and before the second
    pub before_second : c <ʳ second
    -- up to it the comparison is that of the first row
    pub until_then : (t : Rational) → first <ʳ t → t <ʳ c → test rel t ≡ compares rel (whole g.from)
    -- at it that of 0
    pub there : (t : Rational) → t ≈ c → test rel t ≡ compares rel (whole (pos 0))
    -- and from it that of the second row
    pub from_then : (t : Rational) → c <ʳ t → t <ʳ second → test rel t ≡ compares rel (whole g.to)
    -- and the two rows differ
    pub turns : compares rel (whole g.from) ≢ compares rel (whole g.to)

  -- where a sum passes 0 the truth turns over there
  pub turn_at : (rel : Rel) (c : Rational) → Passes g → at (along g) c ≈ whole (pos 0) → IsTurn rel c
  turn_at rel c (inl h) z =
      let p = rising h in
      let low : whole g.from <ʳ whole (pos 0) = lt_whole h.0 in
      let high : whole (pos 0) <ʳ whole g.to = lt_whole h.1 in
      record {
        after_first = lt_at_cancel (along g) p (lt_of_le_of_lt (le_of_same at_first) (lt_of_lt_of_le low (ge_of_same z)));
        before_second = lt_at_cancel (along g) p (lt_of_le_of_lt (le_of_same z) (lt_of_lt_of_le high (ge_of_same at_second)));
        until_then = λ t a b. compare_alike rel Less (at (along g) t) (whole g.from) (lt_of_lt_of_le (lt_at (along g) p b) (le_of_same z)) low;
        there = λ t e. compare_alike rel Equal (at (along g) t) (whole (pos 0)) (zero_at c t z e) (same_refl (whole (pos 0)));
        from_then = λ t a b. compare_alike rel Greater (at (along g) t) (whole g.to) (lt_of_le_of_lt (ge_of_same z) (lt_at (along g) p a)) high;
        turns = compare_apart rel (whole g.from) (whole g.to) low high;
      }
  turn_at rel c (inr h) z =
      let p = falling h in
      let high : whole (pos 0) <ʳ whole g.from = lt_whole h.0 in
      let low : whole g.to <ʳ whole (pos 0) = lt_whole h.1 in
      record {
        after_first = falls_cancel first c (lt_of_le_of_lt (le_of_same z) (lt_of_lt_of_le high (ge_of_same at_first)));
        before_second = falls_cancel c second (lt_of_le_of_lt (le_of_same at_second) (lt_of_lt_of_le low (ge_of_same z)));
        until_then = λ t a b. compare_alike rel Greater (at (along g) t) (whole g.from) (lt_of_le_of_lt (ge_of_same z) (lt_at_falls (along g) p b)) high;
        there = λ t e. compare_alike rel Equal (at (along g) t) (whole (pos 0)) (zero_at c t z e) (same_refl (whole (pos 0)));
        from_then = λ t a b. compare_alike rel Less (at (along g) t) (whole g.to) (lt_of_lt_of_le (lt_at_falls (along g) p a) (le_of_same z)) low;
        turns = λ e. compare_apart rel (whole g.to) (whole g.from) low high (sym e);
      }
    where
      falls_cancel : (t u : Rational) → at (along g) u <ʳ at (along g) t → t <ʳ u
      falls_cancel t u l = lt_at_cancel_falls (along g) (falling h) l

  -- a sum that does not pass 0 has the sign of the sum of its ends
  sign_between : (t : Rational) → ¬ Passes g → first <ʳ t → t <ʳ second
      → (o : Ordering) × IsOrder o (at (along g) t) (whole (pos 0)) × IsOrder o (whole (g.from +ℤ g.to)) (whole (pos 0))
  sign_between t n a b = by_sum (ends_of g.from g.to n)
    where
      below_one : (g.from <ℤ pos 0) ⊎ (g.to <ℤ pos 0) → (at (along g) first <ʳ whole (pos 0)) ⊎ (at (along g) second <ʳ whole (pos 0))
      below_one (inl x) = inl (lt_of_le_of_lt (le_of_same at_first) (lt_whole x))
      below_one (inr x) = inr (lt_of_le_of_lt (le_of_same at_second) (lt_whole x))

      above_one : (pos 0 <ℤ g.from) ⊎ (pos 0 <ℤ g.to) → (whole (pos 0) <ʳ at (along g) first) ⊎ (whole (pos 0) <ʳ at (along g) second)
      above_one (inl x) = inl (lt_of_lt_of_le (lt_whole x) (ge_of_same at_first))
      above_one (inr x) = inr (lt_of_lt_of_le (lt_whole x) (ge_of_same at_second))

      by_sum : AreBelow g.from g.to ⊎ AreZero g.from g.to ⊎ AreAbove g.from g.to
          → (o : Ordering) × IsOrder o (at (along g) t) (whole (pos 0)) × IsOrder o (whole (g.from +ℤ g.to)) (whole (pos 0))
      by_sum (inl s) = (
        Less,
        below_between (along g) a b (le_trans (le_of_same at_first) (le_whole s.first))
            (le_trans (le_of_same at_second) (le_whole s.second)) (below_one s.one),
        lt_whole s.sum,
      )
      by_sum (inr (inl s)) = (
        Equal,
        level_between (along g) a b (subst (λ z. at (along g) first ≈ whole z) s.first at_first)
            (subst (λ z. at (along g) second ≈ whole z) s.second at_second),
        subst (λ z. whole z ≈ whole (pos 0)) (sym s.sum) (same_refl (whole (pos 0))),
      )
      by_sum (inr (inr s)) = (
        Greater,
        above_between (along g) a b (le_trans (le_whole s.first) (ge_of_same at_first))
            (le_trans (le_whole s.second) (ge_of_same at_second)) (above_one s.one),
        lt_whole s.sum,
      )

  -- and where it does not there is one truth on the gap
  pub one_truth : (rel : Rel) (t : Rational) → ¬ Passes g → first <ʳ t → t <ʳ second → test rel t ≡ compares rel (whole (g.from +ℤ g.to))
  one_truth rel t n a b = let s = sign_between t n a b in compare_alike rel s.0 (at (along g) t) (whole (g.from +ℤ g.to)) s.1 s.2

  -- where the comparison is the same at both ends, it is so between them
  pub even_truth : (rel : Rel) (t : Rational) → compares rel (whole g.from) ≡ compares rel (whole g.to) → first <ʳ t → t <ʳ second
      → test rel t ≡ compares rel (whole g.from)
  even_truth rel t e a b = one_truth rel t stays a b ∙ by_ends (ends_of g.from g.to stays)
    where
      stays : Passes g → ⊥
      stays (inl h) = compare_apart rel (whole g.from) (whole g.to) (lt_whole h.0) (lt_whole h.1) e
      stays (inr h) = compare_apart rel (whole g.to) (whole g.from) (lt_whole h.1) (lt_whole h.0) (sym e)

      by_ends : AreBelow g.from g.to ⊎ AreZero g.from g.to ⊎ AreAbove g.from g.to → compares rel (whole (g.from +ℤ g.to)) ≡ compares rel (whole g.from)
      by_ends (inl s) = elim s.one [
        | inl l ↦ compare_alike rel Less (whole (g.from +ℤ g.to)) (whole g.from) (lt_whole s.sum) (lt_whole l)
        | inr l ↦ compare_alike rel Less (whole (g.from +ℤ g.to)) (whole g.to) (lt_whole s.sum) (lt_whole l) ∙ sym e
      ]
      by_ends (inr (inl s)) = ap (λ z. compares rel (whole z)) (s.sum ∙ sym s.first)
      by_ends (inr (inr s)) = elim s.one [
        | inl l ↦ compare_alike rel Greater (whole (g.from +ℤ g.to)) (whole g.from) (lt_whole s.sum) (lt_whole l)
        | inr l ↦ compare_alike rel Greater (whole (g.from +ℤ g.to)) (whole g.to) (lt_whole s.sum) (lt_whole l) ∙ sym e
      ]

  -- where the sum does not begin at 0 and does not pass it, the comparison stays what it is at the first row
  pub held_truth : (rel : Rel) (t : Rational) → g.from ≢ pos 0 → (Passes g → ⊥) → first <ʳ t → t <ʳ second → test rel t ≡ compares rel (whole g.from)
  held_truth rel t n stays a b = one_truth rel t stays a b ∙ by_ends (sign_of g.from) (ends_of g.from g.to stays)
    where
      by_ends : (g.from <ℤ pos 0) ⊎ (g.from ≡ pos 0) ⊎ (pos 0 <ℤ g.from) → AreBelow g.from g.to ⊎ AreZero g.from g.to ⊎ AreAbove g.from g.to
          → compares rel (whole (g.from +ℤ g.to)) ≡ compares rel (whole g.from)
      by_ends (inl l) (inl s) = compare_alike rel Less (whole (g.from +ℤ g.to)) (whole g.from) (lt_whole s.sum) (lt_whole l)
      by_ends (inl l) (inr (inl s)) = absurd (n s.first)
      by_ends (inl l) (inr (inr s)) = absurd (let h = s.first in omega (arith, ints, h, l))
      by_ends (inr (inl e)) s = absurd (n e)
      by_ends (inr (inr l)) (inl s) = absurd (let h = s.first in omega (arith, ints, h, l))
      by_ends (inr (inr l)) (inr (inl s)) = absurd (n s.first)
      by_ends (inr (inr l)) (inr (inr s)) = compare_alike rel Greater (whole (g.from +ℤ g.to)) (whole g.from) (lt_whole s.sum) (lt_whole l)

  -- where it begins at 0 the comparison is what it is at the second row
  pub truth_from_zero : (rel : Rel) (t : Rational) → g.from ≡ pos 0 → first <ʳ t → t <ʳ second → test rel t ≡ compares rel (whole g.to)
  truth_from_zero rel t e a b = one_truth rel t stays a b ∙ ap (λ z. compares rel (whole z)) sum
    where
      stays : Passes g → ⊥
      stays (inl h) = let l = h.0 in omega (arith, ints, e, l)
      stays (inr h) = let l = h.0 in omega (arith, ints, e, l)

      sum : (g.from +ℤ g.to) ≡ g.to
      sum = omega (arith, ints, e)

  -- a sum that passes 0 has a rise
  pub size_positive : Passes g → 0 < unsigned_abs g.from + unsigned_abs g.to
  size_positive (inl h) = omega (arith, ints)
  size_positive (inr h) = omega (arith, ints)
