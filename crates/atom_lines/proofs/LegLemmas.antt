-- How an atom's truth turns over the gaps of a block of rows, in each trace in which the block stands.
use Rattle.std.proofs.Common.{◌≡◌, ◌≢◌, ℕ, suc, ℤ, pos, inl, ◌-◌, ◌<◌, ◌≤◌, ◌≤ℤ◌, Bool, true, false, not, nat_abs, length, Option, Some, None}
use Rattle.std.proofs.Common.{refl, sym, ap, ◌∙◌, subst, arith}
use mathlib.Core.Bool.{beq}
use Rattle.std.specs.Prelude.{slice_get}
use Rattle.std.proofs.lemmas.Option.{same_Some}
use Rattle.std.proofs.lemmas.Int.{ints}
use Rattle.rational.specs.Time.{Rational, ◌<ʳ◌, ◌≤ʳ◌, ◌≈◌, whole}
use Rattle.rational.proofs.Shift.{le_whole}
use Rattle.rational.specs.Places.{Place, Same, After, Upto}
use Rattle.rational.specs.Line.{at}
use Rattle.rational.proofs.Order.{le_of_same, lt_of_le_of_lt, le_refl, same_refl}
use Rattle.rational.proofs.PlaceLemmas.{not_both, upto_of_before, after_at_most, upto_same, after_same, same_places}
use Rattle.stl_syntax.specs.Trace.{Trace, row_time}
use Rattle.stl_syntax.specs.Truth.{compares, holds_at}
use Rattle.stl_syntax.specs.declared.atom.Atom.{Atom}
use Rattle.atom_lines.specs.declared.gap.Gap.{Gap}
use Rattle.atom_lines.specs.declared.bound_atom.BoundAtom.{BoundAtom}
use Rattle.atom_lines.specs.declared.passage.Turning.{Turning}
use Rattle.atom_lines.specs.Binding.{Binding, IsFor}
use Rattle.atom_lines.specs.Gaps.{along}
use Rattle.atom_lines.specs.Growing.{IsReach}
use Rattle.atom_lines.specs.Legs.{LiesOver, TurnsOver, IsBend, BendsSo, IsLeg, bent, jumped, turning_place}
use Rattle.atom_lines.specs.Passages.{HasBlock, IsTurning}
use Rattle.atom_lines.specs.Rows.{row_of}
use Rattle.atom_lines.specs.Steps.{IsStep, StaysTo}
use Rattle.atom_lines.proofs.WayLemmas.{at_row, on_gap}

-- a place inside the gap lies on it
pub lies_inside : (from to c : Rational) (after : Bool) → from <ʳ c → c <ʳ to → LiesOver from to (record { at = c; after = after })
lies_inside from to c after low high = record {
  begins = λ t u. upto_of_before (record { at = from; after = true }) (record { at = c; after = after }) t (inl low) u;
  ends = high;
}

-- and so does the place right behind its begin
pub lies_behind : (from to : Rational) (c : Place) → Same c (record { at = from; after = true }) → from <ʳ to → LiesOver from to c
lies_behind from to c s order = record {
  begins = λ t u. upto_same (record { at = from; after = true }) c t (same_places s) u;
  ends = lt_of_le_of_lt (le_of_same s.0) order;
}

-- a test that turns there bends there
pub bend_inside : (from to : Rational) (test : Rational → Bool) (holds : Bool) (c : Place) → IsTurning from to test holds c → IsBend from to test holds c
bend_inside from to test holds c turn = record { until_then = turn.until_then; from_then = turn.from_then }

-- one that is the other truth on the whole open gap bends right behind its begin
pub bend_behind : (from to : Rational) (test : Rational → Bool) (holds : Bool) (c : Place) → Same c (record { at = from; after = true })
    → ((t : Rational) → from <ʳ t → t <ʳ to → test t ≡ not holds) → IsBend from to test holds c
bend_behind from to test holds c s other = record {
  until_then = λ t a u. absurd (not_both (record { at = from; after = true }) t (upto_same c (record { at = from; after = true }) t s u) a);
  from_then = λ t u b. other t (after_same c (record { at = from; after = true }) t s u) b;
}

-- how a test bends on the gap, another with the same truths there does
pub bends_same : (from to : Rational) (test other : Rational → Bool) (holds : Bool) (turn : Option Turning) → TurnsOver from to turn
    → ((t : Rational) → from <ʳ t → t <ʳ to → other t ≡ test t) → BendsSo from to test holds turn → BendsSo from to other holds turn
bends_same from to test other holds None inside same h = λ t a b. same t a b ∙ h t a b
bends_same from to test other holds (Some x) inside same h = record {
  until_then = λ t a u. same t a (upto_of_before (turning_place x) (record { at = to; after = false }) t (inl inside.ends) u) ∙ h.until_then t a u;
  from_then = λ t u b. same t (after_at_most (record { at = from; after = true }) (turning_place x) t inside.begins u) b ∙ h.from_then t u b;
}

jumped_to : (a b : Bool) → jumped (not (beq a b)) b ≡ a
jumped_to true true = refl
jumped_to true false = refl
jumped_to false true = refl
jumped_to false false = refl

-- two truths that are not the same
pub other_of : (a b : Bool) → beq a b ≡ false → a ≡ not b
other_of true true e = absurd (let x : true ≡ false = e in cc)
other_of true false e = refl
other_of false true e = refl
other_of false false e = absurd (let x : true ≡ false = e in cc)

pub apart_of : (a b : Bool) → beq a b ≡ false → a ≢ b
apart_of true true e h = absurd (let x : true ≡ false = e in cc)
apart_of true false e h = absurd (let x : true ≡ false = h in cc)
apart_of false true e h = absurd (let x : false ≡ true = h in cc)
apart_of false false e h = absurd (let x : true ≡ false = e in cc)

-- two that are
pub same_of : (a b : Bool) → beq a b ≡ true → a ≡ b
same_of true true e = refl
same_of true false e = absurd (let x : false ≡ true = e in cc)
same_of false true e = absurd (let x : false ≡ true = e in cc)
same_of false false e = refl

module _ (b : Binding) (i : ℕ) (k : BoundAtom) (here : slice_get b.atoms i ≡ Some (Some k)) (block : Trace) where
  -- what is known where a leg ends: the truth stays up to row m, and the leg takes the step behind it
  pub record EndsLeg (r last m n : ℕ) (g : Gap) (next read : ℤ) (turn : Option Turning) (before there over jumps : Bool) : Type 0 where
    -- the row behind the gap
    pub count : n ≡ suc m
    -- the constant is within its limit
    pub limit : nat_abs k.limit ≤ 1073741824
    -- how the truth stays
    pub stay : StaysTo k block r last m g next
    -- the sum is read as it is
    pub as_read : read ≡ next
    -- where the comparison turns on the gap
    pub inside : TurnsOver (whole (pos g.first)) (whole (pos g.second)) turn
    -- and what it is beside that
    pub bends : BendsSo (whole (pos g.first)) (whole (pos g.second)) (λ t. compares k.rel (at (along g) t)) (compares k.rel (whole g.from)) turn
    -- what it is at the gap's begin
    pub at_begin : before ≡ compares k.rel (whole g.from)
    -- and at the next row
    pub at_end : there ≡ compares k.rel (whole next)
    -- what it is at the end of the gap
    pub at_last : over ≡ bent turn before
    -- and whether it jumps behind that
    pub leaps : jumps ≡ not (beq there over)

  -- so it is a leg
  pub leg_is : (r last m n : ℕ) (g : Gap) (next read : ℤ) (turn : Option Turning) (before there over jumps : Bool)
      → EndsLeg r last m n g next read turn before there over jumps
      → IsLeg b i block r (record { row = n; sum = read; turn = turn; jumps = jumps })
  leg_is r last m n g next read turn before there over jumps e = record {
    later = let c = e.count in let l = e.stay.begins in omega (arith, c, l);
    within = subst (λ j. j < length block.rows) (sym e.count) step.within;
    order = subst (λ j. (row_of block r).time ≤ (row_of block j).time) back e.stay.order;
    rises = subst (λ j. (row_of block j).time < (row_of block n).time) back
        (subst (λ j. (row_of block m).time < (row_of block j).time) (sym e.count)
        (let f = step.first in let s = step.second in let l = g.rising in omega (arith, f, s, l)));
    sum = λ atom at.
        let same : k ≡ atom = same_Some k atom (same_Some (Some k) (Some atom) (sym here ∙ at)) in
        subst (λ (q : BoundAtom). IsReach q block n read × (nat_abs q.limit ≤ 1073741824)) same (
          subst (λ j. IsReach k block j read) (sym e.count)
              (subst (IsReach k block (suc m)) (sym e.as_read) (record { sum = step.at_next; small = step.small })),
          e.limit,
        );
    inside = subst (λ j. TurnsOver (row_time (row_of block j)) (row_time (row_of block n)) turn) back
        (subst (λ j. TurnsOver (row_time (row_of block m)) (row_time (row_of block j)) turn) (sym e.count) inside);
    tells = λ a tr for has.
        let start : compares k.rel (whole g.from) ≡ holds_at a tr (row_time (row_of block r)) = starts a tr for has in
        record {
          stays = λ t low high. e.stay.stays b i a tr here for has t low (subst (λ j. t ≤ʳ row_time (row_of block j)) (sym back) high);
          bends = subst
              (λ j. BendsSo (row_time (row_of block j)) (row_time (row_of block n)) (holds_at a tr) (holds_at a tr (row_time (row_of block r))) turn) back
              (subst (λ j. BendsSo (row_time (row_of block m)) (row_time (row_of block j)) (holds_at a tr) (holds_at a tr (row_time (row_of block r))) turn)
              (sym e.count)
              (subst (λ h. BendsSo (row_time (row_of block m)) (row_time (row_of block (suc m))) (holds_at a tr) h turn) start
              (bends_same (row_time (row_of block m)) (row_time (row_of block (suc m))) (λ t. compares k.rel (at (along g) t)) (holds_at a tr)
              (compares k.rel (whole g.from)) turn inside (λ t low high. on_gap b i k here a tr block for has m g next t step low high) bends)));
          there = λ t s.
              at_row b i k here a tr block for has (suc m) next t step.within step.at_next (subst (λ j. t ≈ row_time (row_of block j)) e.count s)
              ∙ sym e.at_end ∙ sym (jumped_to there over) ∙ sym (ap (λ j. jumped j over) e.leaps)
              ∙ ap (jumped jumps) (e.at_last ∙ ap (bent turn) (e.at_begin ∙ start));
        };
  }
    where
      step : IsStep k block m g next
      step = e.stay.step

      back : m ≡ n - 1
      back = let c = e.count in omega (arith, c)

      inside : TurnsOver (row_time (row_of block m)) (row_time (row_of block (suc m))) turn
      inside = subst (λ j. TurnsOver (whole (pos j)) (row_time (row_of block (suc m))) turn) step.first
          (subst (λ j. TurnsOver (whole (pos g.first)) (whole (pos j)) turn) step.second e.inside)

      bends : BendsSo (row_time (row_of block m)) (row_time (row_of block (suc m))) (λ t. compares k.rel (at (along g) t)) (compares k.rel (whole g.from)) turn
      bends = subst (λ j. BendsSo (whole (pos j)) (row_time (row_of block (suc m))) (λ t. compares k.rel (at (along g) t)) (compares k.rel (whole g.from)) turn)
          step.first
          (subst (λ j. BendsSo (whole (pos g.first)) (whole (pos j)) (λ t. compares k.rel (at (along g) t)) (compares k.rel (whole g.from)) turn) step.second
          e.bends)

      starts : (a : Atom) (tr : Trace) → IsFor b i a tr → HasBlock tr block → compares k.rel (whole g.from) ≡ holds_at a tr (row_time (row_of block r))
      starts a tr for has =
          let o = e.stay.order in
          sym (at_row b i k here a tr block for has m g.from (row_time (row_of block m)) (let h = step.within in omega (arith, h)) step.from
          (same_refl (row_time (row_of block m))))
          ∙ e.stay.stays b i a tr here for has (row_time (row_of block m)) (le_whole (let l : pos (row_of block r).time ≤ℤ pos (row_of block m).time =
          omega (arith, ints, o) in l)) (le_refl (row_time (row_of block m)))
