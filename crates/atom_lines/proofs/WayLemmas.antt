-- How an atom's truth goes over the gaps of a block of rows, in each trace in which the block stands.
use Rattle.std.proofs.Common.{◌≡◌, ◌≢◌, ℕ, suc, ℤ, pos, ◌+◌, ◌-◌, ◌<◌, ◌≤◌, ◌^◌, ◌⊎◌, inl, inr, Bool}
use Rattle.std.proofs.Common.{true, false, not, nat_abs, ◌-ℤ◌, ◌≤ℤ◌, to_z, of_z, List, [], ◌∷◌, length, Some, refl, sym, ap, ◌∙◌, subst, arith}
use Rattle.std.specs.Prelude.{slice_get, MatchBool}
use Rattle.std.proofs.lemmas.Option.{slice_get-get_or, same_Some}
use Rattle.rational.specs.Time.{Rational, ◌≤ʳ◌, ◌<ʳ◌, ◌≈◌, whole}
use Rattle.rational.specs.Line.{at}
use Rattle.std.specs.Int.{w64}
use Rattle.std.proofs.lemmas.Int.{ints}
use Rattle.rational.proofs.Shift.{le_whole}
use Rattle.rational.proofs.Order.{lt_or_same_or_gt, not_lt_of_le, same_sym, le_of_lt, le_of_same}
use Rattle.rational.proofs.Order.{le_or_lt, same_of_le, same_refl, lt_of_lt_of_le, lt_of_le_of_lt}
use Rattle.stl_syntax.specs.Trace.{Row, Trace, row_time}
use Rattle.stl_syntax.specs.Truth.{compares, holds_at}
use Rattle.stl_syntax.specs.declared.atom.Atom.{Atom}
use Rattle.stl_syntax.specs.declared.rel.Rel.{Rel}
use Rattle.stl_syntax.proofs.TruthLemmas.{same_expression}
use Rattle.atom_lines.specs.declared.gap.Gap.{Gap}
use Rattle.atom_lines.specs.declared.bound_atom.BoundTerm.{BoundTerm}
use Rattle.atom_lines.specs.declared.bound_atom.BoundAtom.{BoundAtom}
use Rattle.atom_lines.specs.declared.passage.Passage.{Passage}
use Rattle.atom_lines.specs.declared.passage.Passage.TheVariants.{Steady, Turns}
use Rattle.atom_lines.specs.Binding.{Binding, IsAtomNode, IsFor, HasRow, AreNeighbours}
use Rattle.atom_lines.specs.Gaps.{along, IsEven}
use Rattle.atom_lines.specs.Growing.{IsReach, IsReachAt}
use Rattle.atom_lines.specs.Passages.{HasBlock, IsTurning, IsWay, TellsPassage, TurnsInside, crossing_time}
use Rattle.atom_lines.specs.Rows.{row_of, values_at}
use Rattle.atom_lines.specs.Steps.{IsStep}
use Rattle.atom_lines.specs.Sums.{reach}
use Rattle.atom_lines.proofs.GrowingSums.{one_of_ramps, one_of_steps, reach_small, read_back}
use Rattle.atom_lines.proofs.Crossings.{IsTurn, even_truth}
use Rattle.atom_lines.proofs.Signs.{compare_same}
use Rattle.atom_lines.proofs.SumLemmas.{atom_binding, expression_along, expression_at_row}

-- what it says of a test it says of another with the same truths
pub passage_same : (from to : Rational) (test other : Rational → Bool) (passage : Passage)
    → ((t : Rational) → from <ʳ t → t <ʳ to → other t ≡ test t) → TellsPassage from to test passage → TellsPassage from to other passage
passage_same from to test other (Steady holds) same h = λ t a b. same t a b ∙ h t a b
passage_same from to test other (Turns before x after) same h = record {
  after_first = h.after_first;
  before_second = h.before_second;
  until_then = λ t a u. same t a (lt_of_le_of_lt (upto_le after t u) h.before_second) ∙ h.until_then t a u;
  from_then = λ t u b. same t (lt_of_lt_of_le h.after_first (after_le after t u)) b ∙ h.from_then t u b;
}
  where
    c : Rational
    c = crossing_time x

    upto_le : (b : Bool) (t : Rational) → MatchBool b (t ≤ʳ c) (t <ʳ c) → t ≤ʳ c
    upto_le true t h = h
    upto_le false t h = le_of_lt h

    after_le : (b : Bool) (t : Rational) → MatchBool b (c <ʳ t) (c ≤ʳ t) → c ≤ʳ t
    after_le true t h = le_of_lt h
    after_le false t h = h

-- a passage that is told turns inside the gap
pub passage_inside : (from to : Rational) (test : Rational → Bool) (passage : Passage) → TellsPassage from to test passage → TurnsInside from to passage
passage_inside from to test (Steady holds) h = tt
passage_inside from to test (Turns before x after) h = (h.after_first, h.before_second)

other_truth : (a b : Bool) → a ≢ b → b ≡ not a
other_truth true true n = absurd (n refl)
other_truth true false n = refl
other_truth false true n = refl
other_truth false false n = absurd (n refl)

-- a test that turns inside the gap turns just before that time, or just after it
pub turning_of : (g : Gap) (rel : Rel) (c : Rational) (before point after : Bool) → IsTurn g rel c → before ≡ compares rel (whole g.from)
    → point ≡ compares rel (whole (pos 0)) → (after ≡ true → point ≡ before) → (after ≡ false → point ≢ before)
    → IsTurning (whole (pos g.first)) (whole (pos g.second)) (λ t. compares rel (at (along g) t)) before (record { at = c; after = after })
turning_of g rel c before point after turn e f same apart = record {
  after_first = turn.after_first;
  before_second = turn.before_second;
  until_then = λ t a u. upto after refl t a u;
  from_then = λ t u b. behind after refl t u b;
}
  where
    test : Rational → Bool
    test t = compares rel (at (along g) t)

    at_end : compares rel (whole g.to) ≡ not before
    at_end = other_truth before (compares rel (whole g.to)) (λ h. turn.turns (sym e ∙ h))

    upto : (b : Bool) → after ≡ b → (t : Rational) → whole (pos g.first) <ʳ t → MatchBool b (t ≤ʳ c) (t <ʳ c) → test t ≡ before
    upto false h t a u = turn.until_then t a u ∙ sym e
    upto true h t a u = elim (lt_or_same_or_gt t c) [
      | inl l ↦ turn.until_then t a l ∙ sym e
      | inr o ↦ elim o [ inl s ↦ turn.there t s ∙ sym f ∙ same h | inr l ↦ absurd (not_lt_of_le u l) ]
    ]

    behind : (b : Bool) → after ≡ b → (t : Rational) → MatchBool b (c <ʳ t) (c ≤ʳ t) → t <ʳ whole (pos g.second) → test t ≡ not before
    behind true h t u b = turn.from_then t u b ∙ at_end
    behind false h t u b = elim (lt_or_same_or_gt c t) [
      | inl l ↦ turn.from_then t l b ∙ at_end
      | inr o ↦ elim o [
        | inl s ↦ turn.there t (same_sym s) ∙ sym f ∙ other_truth before point (λ k. apart h (sym k))
        | inr l ↦ absurd (not_lt_of_le u l)
      ]
    ]

abbrev d : Row
d = record { time = 0; values = [] }

module _ (b : Binding) (i : ℕ) (k : BoundAtom) (here : slice_get b.atoms i ≡ Some (Some k)) (a : Atom) (tr block : Trace)
    (for : IsFor b i a tr) (has : HasBlock tr block) where
  -- the relation that is bound is that of the atom
  pub rel_is : k.rel ≡ a.rel
  rel_is = (atom_binding b i k here a tr for).rel

  -- a row of the block stands in the trace
  pub row_in : (r : ℕ) → r < length block.rows → HasRow tr (row_of block r)
  row_in r h = (has.place + r, has.rows r (row_of block r) (slice_get-get_or block.rows r d h))

  -- and two rows of the block, one right after the other, do
  pub neighbours_in : (r : ℕ) → suc r < length block.rows → AreNeighbours tr (row_of block r) (row_of block (suc r))
  neighbours_in r h = (
    has.place + r,
    has.rows r (row_of block r) (slice_get-get_or block.rows r d (omega (arith, h))),
    let e : has.place + suc r ≡ suc (has.place + r) = omega arith in
        subst (λ n. slice_get tr.rows n ≡ Some (row_of block (suc r))) e (has.rows (suc r) (row_of block (suc r)) (slice_get-get_or block.rows (suc r) d h)),
  )

  -- the truth at a row is that of its sum
  pub at_row : (r : ℕ) (n : ℤ) (t : Rational) → r < length block.rows → n ≡ reach k (values_at block r) (values_at block r) → t ≈ row_time (row_of block r)
      → holds_at a tr t ≡ compares k.rel (whole n)
  at_row r n t h e s =
      compare_same a.rel (expression_at_row b i k here a tr for (row_of block r) t (row_in r h) s)
      ∙ ap (λ q. compares q (whole (reach k (values_at block r) (values_at block r)))) (sym rel_is)
      ∙ ap (λ m. compares k.rel (whole m)) (sym e)

  -- the truth on a gap is that of its line
  pub on_gap : (r : ℕ) (g : Gap) (next : ℤ) (t : Rational) → IsStep k block r g next → row_time (row_of block r) <ʳ t → t <ʳ row_time (row_of block (suc r))
      → holds_at a tr t ≡ compares k.rel (at (along g) t)
  on_gap r g next t s low high =
      compare_same a.rel
      (expression_along b i k here a tr for g (row_of block r) (row_of block (suc r)) t s.first s.second s.from s.to (neighbours_in r s.within) low high)
      ∙ ap (λ q. compares q (at (along g) t)) (sym rel_is)

  -- how it passes the gap
  pub passes_gap : (r : ℕ) (g : Gap) (next : ℤ) (p : Passage) → IsStep k block r g next
      → TellsPassage (whole (pos g.first)) (whole (pos g.second)) (λ t. compares k.rel (at (along g) t)) p
      → TellsPassage (row_time (row_of block r)) (row_time (row_of block (suc r))) (holds_at a tr) p
  passes_gap r g next p s h =
      passage_same (row_time (row_of block r)) (row_time (row_of block (suc r))) (λ t. compares k.rel (at (along g) t)) (holds_at a tr) p
      (λ t low high. on_gap r g next t s low high)
      (subst (λ n. TellsPassage (whole (pos n)) (row_time (row_of block (suc r))) (λ t. compares k.rel (at (along g) t)) p) s.first
      (subst (λ n. TellsPassage (whole (pos g.first)) (whole (pos n)) (λ t. compares k.rel (at (along g) t)) p) s.second h))

  -- where the comparison is the same about a gap, the truth stays what it was
  pub stays_on : (r : ℕ) (g : Gap) (next : ℤ) (from : Rational) → IsStep k block r g next → IsEven k.rel g next
      → ((t : Rational) → from ≤ʳ t → t ≤ʳ row_time (row_of block r) → holds_at a tr t ≡ holds_at a tr from) → from ≤ʳ row_time (row_of block r)
      → (t : Rational) → from ≤ʳ t → t ≤ʳ row_time (row_of block (suc r)) → holds_at a tr t ≡ holds_at a tr from
  stays_on r g next from s even so_far begins t low high = by_place (le_or_lt t (row_time (row_of block r)))
    where
      was : compares k.rel (whole g.from) ≡ holds_at a tr from
      was = sym (at_row r g.from (row_time (row_of block r)) (let h = s.within in omega (arith, h)) s.from (same_refl (row_time (row_of block r))))
          ∙ so_far (row_time (row_of block r)) begins (le_of_same (same_refl (row_time (row_of block r))))

      by_place : (t ≤ʳ row_time (row_of block r)) ⊎ (row_time (row_of block r) <ʳ t) → holds_at a tr t ≡ holds_at a tr from
      by_place (inl l) = so_far t low l
      by_place (inr l) = elim (lt_or_same_or_gt t (row_time (row_of block (suc r)))) [
        | inl m ↦
            on_gap r g next t s l m
            ∙ even_truth g k.rel t even.over (subst (λ n. whole (pos n) <ʳ t) (sym s.first) l) (subst (λ n. t <ʳ whole (pos n)) (sym s.second) m) ∙ was
        | inr o ↦ elim o [
          | inl e ↦ at_row (suc r) next t s.within s.at_next e ∙ sym even.behind ∙ was
          | inr m ↦ absurd (not_lt_of_le high m)
        ]
      ]

  -- at one time the truth is one
  pub stays_there : (r : ℕ) (t : Rational) → row_time (row_of block r) ≤ʳ t → t ≤ʳ row_time (row_of block r)
      → holds_at a tr t ≡ holds_at a tr (row_time (row_of block r))
  stays_there r t low high = compare_same a.rel (same_expression a tr (same_of_le high low))

  -- and it stays over one gap more
  pub stays_next : (r m : ℕ) (g : Gap) (next : ℤ) → (row_of block r).time ≤ (row_of block m).time → IsStep k block m g next → IsEven k.rel g next
      → ((t : Rational) → row_time (row_of block r) ≤ʳ t → t ≤ʳ row_time (row_of block m) → holds_at a tr t ≡ holds_at a tr (row_time (row_of block r)))
      → (t : Rational) → row_time (row_of block r) ≤ʳ t → t ≤ʳ row_time (row_of block (suc m)) → holds_at a tr t ≡ holds_at a tr (row_time (row_of block r))
  stays_next r m g next order s even so_far =
      stays_on m g next (row_time (row_of block r)) s even so_far
      (le_whole (let l : pos (row_of block r).time ≤ℤ pos (row_of block m).time = omega (arith, ints, order) in l))

one_item : (ts : List BoundTerm) → length ts ≡ 1 → (t : BoundTerm) × (ts ≡ t ∷ [])
one_item [] e = absurd (omega (arith, e))
one_item (t ∷ []) e = (t, refl)
one_item (t ∷ s ∷ ts) e = absurd (omega (arith, e))

-- on a gap the sum of one term goes to what it was, or to what it is at the next row; so the comparison turns at one of the rows, if at all
pub even_of_one : (k : BoundAtom) (block : Trace) (m : ℕ) (g : Gap) (next : ℤ) → length k.terms.items ≡ 1 → IsStep k block m g next
    → compares k.rel (whole g.from) ≡ compares k.rel (whole next) → IsEven k.rel g next
even_of_one k block m g next one s same = record { over = by_step t.0.step refl; behind = same }
  where
    t : (t : BoundTerm) × (k.terms.items ≡ t ∷ [])
    t = one_item k.terms.items one

    by_step : (b : Bool) → t.0.step ≡ b → compares k.rel (whole g.from) ≡ compares k.rel (whole g.to)
    by_step true e = ap (λ z. compares k.rel (whole z)) (s.from
        ∙ sym (ap (λ z. z -ℤ k.limit) (one_of_steps k.terms.items t.0 (values_at block m) (values_at block (suc m)) t.1 e)) ∙ sym s.to)
    by_step false e = same ∙ ap (λ z. compares k.rel (whole z)) (s.at_next
        ∙ sym (ap (λ z. z -ℤ k.limit) (one_of_ramps k.terms.items t.0 (values_at block m) (values_at block (suc m)) t.1 e)) ∙ sym s.to)

-- the sum at the next row
pub reach_size : (k : BoundAtom) (block : Trace) (r : ℕ) (g : Gap) (next : ℤ) → nat_abs k.limit ≤ 1073741824 → IsStep k block r g next → nat_abs next ≤ 2 ^ 31
reach_size k block r g next limit s =
    subst (λ n. nat_abs n ≤ 2 ^ 31) (sym s.at_next) (reach_small k (values_at block (suc r)) (values_at block (suc r)) limit s.small)

-- which is read as it is
pub read_next : (k : BoundAtom) (block : Trace) (r : ℕ) (g : Gap) (next : ℤ) → nat_abs k.limit ≤ 1073741824 → IsStep k block r g next
    → to_z w64 (of_z w64 next) ≡ next
read_next k block r g next limit s = read_back next (let h = reach_size k block r g next limit s in omega (arith, h))

-- and the next step begins with it
pub reach_next : (k : BoundAtom) (block : Trace) (r n : ℕ) (g : Gap) (next : ℤ) → nat_abs k.limit ≤ 1073741824 → n ≡ suc r → IsStep k block r g next
    → IsReach k block n (to_z w64 (of_z w64 next))
reach_next k block r n g next limit e s =
    subst (λ m. IsReach k block m (to_z w64 (of_z w64 next))) (sym e)
    (subst (IsReach k block (suc r)) (sym (read_next k block r g next limit s)) (record { sum = s.at_next; small = s.small }))

-- the sum at a row, as a node's atom has it, is read as it is
pub sum_read : (b : Binding) (i : ℕ) (block : Trace) (r : ℕ) (n : ℤ) → IsAtomNode b i → IsReachAt b i block r n → to_z w64 (of_z w64 n) ≡ n
sum_read b i block r n node h =
    let s = h node.0 node.1 in
    let size : nat_abs n ≤ 2 ^ 31 =
    subst (λ m. nat_abs m ≤ 2 ^ 31) (sym s.0.sum) (reach_small node.0 (values_at block r) (values_at block r) s.1 s.0.small) in
    read_back n (omega (arith, size))

module _ (b : Binding) (i : ℕ) (k : BoundAtom) (here : slice_get b.atoms i ≡ Some (Some k)) (block : Trace) where
  -- what is known where a way ends: it stays up to row m, and takes the gap behind it
  pub record EndsWay (r m n : ℕ) (g : Gap) (next read : ℤ) (p : Passage) (last : Bool) : Type 0 where
    -- the row behind the gap
    pub count : n ≡ suc m
    -- no row before the first
    pub begins : r ≤ m
    -- rows rise
    pub order : (row_of block r).time ≤ (row_of block m).time
    -- the constant is within its limit
    pub limit : nat_abs k.limit ≤ 1073741824
    -- the gap is that behind row m
    pub step : IsStep k block m g next
    -- the sum is read as it is
    pub as_read : read ≡ next
    -- how the comparison passes the gap
    pub passes : TellsPassage (whole (pos g.first)) (whole (pos g.second)) (λ t. compares k.rel (at (along g) t)) p
    -- and what it is behind it
    pub at_end : last ≡ compares k.rel (whole next)
    -- the truth stays up to row m
    pub stays : (a : Atom) (tr : Trace) → IsFor b i a tr → HasBlock tr block → (t : Rational) → row_time (row_of block r) ≤ʳ t → t ≤ʳ row_time (row_of block m)
        → holds_at a tr t ≡ holds_at a tr (row_time (row_of block r))

  -- so it is a way
  pub way_is : (r m n : ℕ) (g : Gap) (next read : ℤ) (p : Passage) (last : Bool) → EndsWay r m n g next read p last
      → IsWay b i block r (record { row = n; sum = read; passage = p; last = last })
  way_is r m n g next read p last e =
      let back : m ≡ n - 1 = let c = e.count in omega (arith, c) in
      record {
        later = let c = e.count in let l = e.begins in omega (arith, c, l);
        within = subst (λ j. j < length block.rows) (sym e.count) e.step.within;
        order = subst (λ j. (row_of block r).time ≤ (row_of block j).time) back e.order;
        rises = subst (λ j. (row_of block j).time < (row_of block n).time) back
            (subst (λ j. (row_of block m).time < (row_of block j).time) (sym e.count)
            (let f = e.step.first in let s = e.step.second in let l = g.rising in omega (arith, f, s, l)));
        sum = λ atom at.
            let same : k ≡ atom = same_Some k atom (same_Some (Some k) (Some atom) (sym here ∙ at)) in
            subst (λ (q : BoundAtom). IsReach q block n read × (nat_abs q.limit ≤ 1073741824)) same (
              subst (λ j. IsReach k block j read) (sym e.count)
                  (subst (IsReach k block (suc m)) (sym e.as_read) (record { sum = e.step.at_next; small = e.step.small })),
              e.limit,
            );
        inside = subst (λ j. TurnsInside (row_time (row_of block j)) (row_time (row_of block n)) p) back
            (subst (λ j. TurnsInside (row_time (row_of block m)) (row_time (row_of block j)) p) (sym e.count)
            (subst (λ j. TurnsInside (whole (pos j)) (row_time (row_of block (suc m))) p) e.step.first
            (subst (λ j. TurnsInside (whole (pos g.first)) (whole (pos j)) p) e.step.second
            (passage_inside (whole (pos g.first)) (whole (pos g.second)) (λ t. compares k.rel (at (along g) t)) p e.passes))));
        tells = λ a tr for has. record {
          stays = λ t low high. e.stays a tr for has t low (subst (λ j. t ≤ʳ row_time (row_of block j)) (sym back) high);
          passes = subst (λ j. TellsPassage (row_time (row_of block j)) (row_time (row_of block n)) (holds_at a tr) p) back
              (subst (λ j. TellsPassage (row_time (row_of block m)) (row_time (row_of block j)) (holds_at a tr) p) (sym e.count)
              (passes_gap b i k here a tr block for has m g next p e.step e.passes));
          there = λ t s.
              at_row b i k here a tr block for has (suc m) next t e.step.within e.step.at_next (subst (λ j. t ≈ row_time (row_of block j)) e.count s)
              ∙ sym e.at_end;
        };
      }
