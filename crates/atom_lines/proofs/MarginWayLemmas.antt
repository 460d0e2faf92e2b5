-- How an atom's margin goes over the gaps of a block of rows, in each trace in which the block stands.
use Rattle.std.proofs.Common.{◌≡◌, ℕ, suc, ℤ, pos, ◌<◌, ◌≤◌, ◌^◌, ◌⊎◌, inl, inr, nat_abs, length, Some, sym, ◌∙◌, subst, arith}
use Rattle.std.specs.Prelude.{IsTrue, slice_get}
use Rattle.std.proofs.lemmas.Option.{same_Some}
use Rattle.rational.specs.Rational.{IsWithin}
use Rattle.rational.specs.Time.{Rational, ◌≤ʳ◌, ◌<ʳ◌, ◌≈◌, whole}
use Rattle.rational.specs.Line.{at}
use Rattle.rational.specs.Extended.{Extended, finite, value_at, ◌≈ᵉ◌}
use Rattle.rational.proofs.AffineLemmas.{bounded_same, finite_same}
use Rattle.rational.proofs.Lines.{same_at}
use Rattle.rational.proofs.Mixed.{within_same, within_whole}
use Rattle.rational.proofs.Order.{le_or_lt, lt_or_same_or_gt, not_lt_of_le, same_sym, same_trans}
use Rattle.rational.proofs.Sames.{transᵉ}
use Rattle.value_laws.specs.Margins.{is_ramp, margin_base, margin_function}
use Rattle.value_laws.specs.declared.margin.Margin.{Margin}
use Rattle.stl_syntax.specs.Trace.{Trace, row_time}
use Rattle.stl_syntax.specs.Truth.{expression}
use Rattle.stl_syntax.specs.SupInf.{margin}
use Rattle.stl_syntax.specs.declared.atom.Atom.{Atom}
use Rattle.stl_syntax.proofs.TimeLaw.{margin_same}
use Rattle.atom_lines.specs.declared.bound_atom.BoundAtom.{BoundAtom}
use Rattle.atom_lines.specs.declared.gap.Gap.{Gap}
use Rattle.atom_lines.specs.Binding.{Binding, IsFor}
use Rattle.atom_lines.specs.Gaps.{along}
use Rattle.atom_lines.specs.Growing.{IsReach, IsReachAt}
use Rattle.atom_lines.specs.How.{by_margin}
use Rattle.atom_lines.specs.MarginWays.{IsMarginWay}
use Rattle.atom_lines.specs.Passages.{HasBlock}
use Rattle.atom_lines.specs.Rows.{row_of, values_at}
use Rattle.atom_lines.specs.Steps.{IsLevelStep, IsStep}
use Rattle.atom_lines.specs.Sums.{reach}
use Rattle.atom_lines.proofs.Crossings.{at_first}
use Rattle.atom_lines.proofs.ValueLimits.{along_still, along_within, worth_bounded}
use Rattle.atom_lines.proofs.SumLemmas.{expression_along, expression_at_row}
use Rattle.atom_lines.proofs.WayLemmas.{neighbours_in, rel_is, row_in}

-- at the first row of a gap the line has the sum of that row
line_begins : (g : Gap) (t : Rational) → t ≈ whole (pos g.first) → at (along g) t ≈ whole g.from
line_begins g t e = same_trans (same_at (along g) e) (at_first g)

-- the sum is small from the first row of a gap on
small_from : (g : Gap) (t : Rational) → whole (pos g.first) ≤ʳ t → t <ʳ whole (pos g.second) → IsWithin (2 ^ 31) (at (along g) t)
small_from g t low high = by_order (lt_or_same_or_gt (whole (pos g.first)) t)
  where
    by_order : (whole (pos g.first) <ʳ t) ⊎ (whole (pos g.first) ≈ t) ⊎ (t <ʳ whole (pos g.first)) → IsWithin (2 ^ 31) (at (along g) t)
    by_order (inl l) = along_within g t l high
    by_order (inr (inl e)) = within_same (2 ^ 31) (same_sym (line_begins g t (same_sym e))) (within_whole (2 ^ 31) g.from g.small_from)
    by_order (inr (inr l)) = absurd (not_lt_of_le low l)

module _ (b : Binding) (i : ℕ) (k : BoundAtom) (here : slice_get b.atoms i ≡ Some (Some k)) (a : Atom) (tr block : Trace)
    (for : IsFor b i a tr) (has : HasBlock tr block) where
  -- at a row the expression is the sum
  pub sum_at : (r : ℕ) (n : ℤ) (t : Rational) → r < length block.rows → n ≡ reach k (values_at block r) (values_at block r) → t ≈ row_time (row_of block r)
      → expression a tr t ≈ whole n
  sum_at r n t h e s = subst (λ z. expression a tr t ≈ whole z) (sym e)
      (expression_at_row b i k here a tr for (row_of block r) t (row_in b i k here a tr block for has r h) s)

  -- from the row on it is on the line of the gap
  pub sum_along : (r : ℕ) (g : Gap) (next : ℤ) (t : Rational) → IsStep k block r g next → row_time (row_of block r) ≤ʳ t
      → t <ʳ row_time (row_of block (suc r)) → expression a tr t ≈ at (along g) t
  sum_along r g next t s low high = by_order (lt_or_same_or_gt (row_time (row_of block r)) t)
    where
      by_order : (row_time (row_of block r) <ʳ t) ⊎ (row_time (row_of block r) ≈ t) ⊎ (t <ʳ row_time (row_of block r)) → expression a tr t ≈ at (along g) t
      by_order (inl l) = expression_along b i k here a tr for g (row_of block r) (row_of block (suc r)) t s.first s.second s.from s.to
          (neighbours_in b i k here a tr block for has r s.within) l high
      by_order (inr (inl e)) = same_trans (sum_at r g.from t (let h = s.within in omega (arith, h)) s.from (same_sym e))
          (same_sym (line_begins g t (subst (λ n. t ≈ whole (pos n)) (sym s.first) (same_sym e))))
      by_order (inr (inr l)) = absurd (not_lt_of_le low l)

  -- over a gap over which the sum stays it is what it was
  pub sum_stays : (r : ℕ) (from next : ℤ) (t : Rational) → IsLevelStep k block r next → from ≡ reach k (values_at block r) (values_at block r)
      → row_time (row_of block r) ≤ʳ t → t <ʳ row_time (row_of block (suc r)) → expression a tr t ≈ whole from
  sum_stays r from next t s e low high = by_order (lt_or_same_or_gt (row_time (row_of block r)) t)
    where
      by_order : (row_time (row_of block r) <ʳ t) ⊎ (row_time (row_of block r) ≈ t) ⊎ (t <ʳ row_time (row_of block r)) → expression a tr t ≈ whole from
      by_order (inl l) = subst (λ z. expression a tr t ≈ whole z) (s.step.from ∙ sym e)
          (same_trans (sum_along r s.gap next t s.step low high)
          (along_still s.gap t s.level (subst (λ n. whole (pos n) <ʳ t) (sym s.step.first) l) (subst (λ n. t <ʳ whole (pos n)) (sym s.step.second) high)))
      by_order (inr (inl f)) = sum_at r from t (let h = s.step.within in omega (arith, h)) e (same_sym f)
      by_order (inr (inr l)) = absurd (not_lt_of_le low l)

  -- what is worth a margin of the expression is worth the atom's
  pub margin_is : (t y : Rational) (v : Extended) → expression a tr t ≈ y → v ≈ᵉ finite (margin k.rel y) → v ≈ᵉ finite (margin a.rel (expression a tr t))
  margin_is t y v e w = transᵉ (subst (λ q. v ≈ᵉ finite (margin q y)) (rel_is b i k here a tr block for has) w) (finite_same (margin_same a.rel (same_sym e)))

-- in each trace in which the block stands the expression is one number from row r on, before row m
pub record IsLevelTo (b : Binding) (i : ℕ) (block : Trace) (r m : ℕ) (from : ℤ) : Type 0 where
  -- it is that number
  pub is : (a : Atom) (tr : Trace) → IsFor b i a tr → HasBlock tr block → (t : Rational) → row_time (row_of block r) ≤ʳ t
      → t <ʳ row_time (row_of block m) → expression a tr t ≈ whole from

module _ (b : Binding) (i : ℕ) (k : BoundAtom) (here : slice_get b.atoms i ≡ Some (Some k)) (block : Trace) where
  -- so it is over one gap over which the sum stays
  pub level_over : (r n : ℕ) (from next : ℤ) → n ≡ suc r → IsLevelStep k block r next → from ≡ reach k (values_at block r) (values_at block r)
      → IsLevelTo b i block r n from
  level_over r n from next count s e = subst (λ m. IsLevelTo b i block r m from) (sym count)
      (record { is = λ a tr for has t low high. sum_stays b i k here a tr block for has r from next t s e low high })

  -- and over one more
  pub level_on : (r m n : ℕ) (from next : ℤ) → n ≡ suc m → IsLevelTo b i block r m from → IsLevelStep k block m next
      → from ≡ reach k (values_at block m) (values_at block m) → IsLevelTo b i block r n from
  level_on r m n from next count so_far s e = subst (λ m. IsLevelTo b i block r m from) (sym count) (record { is = both })
    where
      both : (a : Atom) (tr : Trace) → IsFor b i a tr → HasBlock tr block → (t : Rational) → row_time (row_of block r) ≤ʳ t
          → t <ʳ row_time (row_of block (suc m)) → expression a tr t ≈ whole from
      both a tr for has t low high = elim (le_or_lt (row_time (row_of block m)) t) [
        | inl l ↦ sum_stays b i k here a tr block for has m from next t s e l high
        | inr l ↦ so_far.is a tr for has t low l
      ]

  -- a sum at a row is that of the atom at the node
  pub reach_here : (n : ℕ) (sum : ℤ) → nat_abs k.limit ≤ 1073741824 → IsReach k block n sum → IsReachAt b i block n sum
  reach_here n sum limit h atom at =
      let same : k ≡ atom = same_Some k atom (same_Some (Some k) (Some atom) (sym here ∙ at)) in
      subst (λ (q : BoundAtom). IsReach q block n sum × (nat_abs q.limit ≤ 1073741824)) same (h, limit)

  -- what is known where a way ends at row n, whose sum is `sum`
  pub record EndsAt (r n : ℕ) (sum : ℤ) (m : Margin) : Type 0 where
    -- the way ends after the row with which it begins
    pub later : r < n
    -- at a row of the block
    pub within : n < length block.rows
    -- rows rise
    pub order : (row_of block r).time < (row_of block n).time
    -- the constant is within its limit
    pub limit : nat_abs k.limit ≤ 1073741824
    -- the sum is that at the row
    pub sum_is : IsReach k block n sum
    -- a ramp is measured from the first row
    pub base : IsTrue (is_ramp m) → margin_base m ≡ pos (row_of block r).time

  -- a way over one gap
  pub along_way : (r n : ℕ) (g : Gap) (next sum : ℤ) (m : Margin) → n ≡ suc r → EndsAt r n sum m → IsStep k block r g next
      → ((t : Rational) → value_at (margin_function m) t ≈ᵉ finite (margin k.rel (at (along g) t)))
      → IsMarginWay b i block r (record { row = n; sum = sum; margin = m })
  along_way r n g next sum m count ends s worth = record {
    later = ends.later;
    within = ends.within;
    order = ends.order;
    sum = reach_here n sum ends.limit ends.sum_is;
    base = ends.base;
    bounded = λ t low high. bounded_same (2 ^ 31) (value_at (margin_function m) t) (finite (margin k.rel (at (along g) t))) (worth t)
        (worth_bounded by_margin k.rel (at (along g) t)
        (small_from g t (subst (λ j. whole (pos j) ≤ʳ t) (sym s.first) low) (subst (λ j. t <ʳ whole (pos j)) (sym s.second) (behind t high))));
    tells = λ a tr for has t low high. margin_is b i k here a tr block for has t (at (along g) t) (value_at (margin_function m) t)
        (sum_along b i k here a tr block for has r g next t s low (behind t high)) (worth t);
  }
    where
      behind : (t : Rational) → t <ʳ row_time (row_of block n) → t <ʳ row_time (row_of block (suc r))
      behind t high = subst (λ j. t <ʳ row_time (row_of block j)) count high

  -- a way over which the sum stays
  pub level_way : (r n : ℕ) (from sum : ℤ) (m : Margin) → EndsAt r n sum m → IsLevelTo b i block r n from → nat_abs from ≤ 2 ^ 31
      → ((t : Rational) → value_at (margin_function m) t ≈ᵉ finite (margin k.rel (whole from)))
      → IsMarginWay b i block r (record { row = n; sum = sum; margin = m })
  level_way r n from sum m ends level size worth = record {
    later = ends.later;
    within = ends.within;
    order = ends.order;
    sum = reach_here n sum ends.limit ends.sum_is;
    base = ends.base;
    bounded = λ t low high. bounded_same (2 ^ 31) (value_at (margin_function m) t) (finite (margin k.rel (whole from))) (worth t)
        (worth_bounded by_margin k.rel (whole from) (within_whole (2 ^ 31) from size));
    tells = λ a tr for has t low high. margin_is b i k here a tr block for has t (whole from) (value_at (margin_function m) t)
        (level.is a tr for has t low high) (worth t);
  }
