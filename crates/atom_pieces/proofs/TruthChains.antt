-- Pieces that tell an atom's truth, and go on where it turns over.
use Rattle.std.proofs.Common.{◌≡◌, ◌<◌, ◌-◌, ◌^◌, ◌<ℤ◌, ◌≤ℤ◌, ◌⊎◌, inl, inr, ℕ, suc, Bool, not, pos, List, [], ◌∷◌, length, refl, sym, subst, ◌∙◌, arith}
use Rattle.std.proofs.lemmas.Int.{ints}
use Rattle.rational.specs.Rational.{IsWithin}
use Rattle.rational.specs.Time.{Rational, ◌≤ʳ◌, ◌<ʳ◌, ◌≈◌, whole}
use Rattle.rational.specs.Extended.{Extended, Passes, finite, ◌≈ᵉ◌}
use Rattle.rational.specs.Affine.{IsBounded, level}
use Rattle.rational.specs.Places.{After, AtMost, Before, Place, Same, Upto}
use Rattle.rational.proofs.AffineLemmas.{bounded_same}
use Rattle.rational.proofs.LevelLemmas.{level_is}
use Rattle.rational.proofs.Mixed.{tick_within, within_same}
use Rattle.rational.proofs.Order.{le_of_lt, le_refl, le_trans, same_of_le, same_refl, same_sym}
use Rattle.rational.proofs.PlaceLemmas.{after_at_most, after_same, before_at_most, before_of_at_most, before_same, not_both, same_places, sides, upto_same}
use Rattle.rational.proofs.Sames.{transᵉ}
use Rattle.rational.proofs.Shift.{le_whole, lt_whole}
use Rattle.frac128.specs.Cuts.{place}
use Rattle.frac128.specs.declared.cut.Cut.{Cut}
use Rattle.value_laws.specs.Kinds.{truth_shape}
use Rattle.value_laws.specs.Values.{truth_value}
use Rattle.value_laws.specs.declared.truth.Truth.{Truth}
use Rattle.stl_syntax.specs.Trace as trace
use Rattle.stl_syntax.specs.Trace.{Trace, first_time, last_time, row_time}
use Rattle.stl_syntax.specs.Truth.{holds_at}
use Rattle.stl_syntax.specs.SupInf.{truths}
use Rattle.stl_syntax.specs.declared.atom.Atom.{Atom}
use Rattle.stl_syntax.proofs.RowsLemmas.{first_time_at, last_time_at}
use Rattle.atom_lines.specs.declared.passage.Passage.{Passage}
use Rattle.atom_lines.specs.declared.passage.Passage.TheVariants.{Steady, Turns}
use Rattle.atom_lines.specs.declared.passage.Way.{Way}
use Rattle.atom_lines.specs.Binding.{Binding, IsFor}
use Rattle.atom_lines.specs.How.{by_truth}
use Rattle.atom_lines.specs.Passages.{HasBlock, IsWay, TellsPassage, TurnsInside, crossing_time}
use Rattle.atom_lines.specs.Rows.{row_of}
use Rattle.atom_lines.proofs.GrowingLemmas.{between_within, zero_base}
use Rattle.atom_lines.proofs.ValueLimits.{truth_within}
use Rattle.atom_lines.proofs.Readings.{gives}
use Rattle.pieces.specs.declared.piece.Piece.{Piece}
use Rattle.pieces.specs.Building.{GoesOn}
use Rattle.pieces.specs.Chains.{Chain, IsWorth, IsWorthFrom, end, stop}
use Rattle.pieces.specs.Knots.{before, after}
use Rattle.pieces.proofs.Ends.{at_most_itself, at_most_of_before, at_most_of_same, at_most_trans}
use Rattle.atom_pieces.specs.AtomChains.{IsAtomChain}
use Rattle.atom_pieces.specs.Growing.{Follows, GoesOver, TurnsAt}
use Rattle.atom_pieces.proofs.Grown.{grown_whole, whole_block}

-- the truth that a number stands for, as a value
abbrev worth_of : Bool → Extended
worth_of b = finite (whole (truth_value b))

-- pieces of truth have small values
truth_bounded : (c : Place) (ps : List (Piece Truth)) (t : Rational) (v : Extended) → IsWorthFrom truth_shape c ps t v → IsBounded (2 ^ 31) v
truth_bounded c [] t v h = absurd h
truth_bounded c (p ∷ ps) t v (inl h) =
    bounded_same (2 ^ 31) v (worth_of p.shape.holds) (transᵉ h.2 (level_is (truth_value p.shape.holds) t)) (truth_within p.shape.holds)
truth_bounded c (p ∷ ps) t v (inr h) = truth_bounded (end p) ps t v h

-- just before a time is before just after it
around : (t : Rational) → Before (before t) (after t)
around t = inr (same_refl t, refl, refl)

-- where the pieces end that begin at a place: at another place or before
pub record EndBy (from : Place) (chain : Chain Truth) (to : Place) : Type 0 where
  -- they begin there
  pub begins : chain.from ≡ from
  -- where they end is within its limits
  pub within : IsWithin (2 ^ 34) (stop chain).at
  -- and no later than the other place
  pub late : AtMost (stop chain) to

-- so after the truth turns over at a later place
pub turn_ends : (from to at : Place) (old new : Chain Truth) (holds next : Bool) → EndBy from old to → Before to at → IsWithin (2 ^ 34) at.at
    → TurnsAt old holds at next new → EndBy from new at
turn_ends from to at old new holds next h later within (cut, s, inl (e, f)) = subst (λ c. EndBy from c at) (sym f)
    (record { begins = h.begins; within = h.within; late = at_most_trans (stop old) to at h.late (at_most_of_before to at later) })
turn_ends from to at old new holds next h later within (cut, s, inr (p, e, on)) = record {
  begins = on.begins ∙ h.begins;
  within = subst (λ c. IsWithin (2 ^ 34) c.at) (sym on.ends) (within_same (2 ^ 34) (same_sym s.0) within);
  late = subst (λ c. AtMost c at) (sym on.ends) (at_most_of_same (place cut) at s);
}

-- pieces end where they end
pub ends_itself : (chain : Chain Truth) → IsWithin (2 ^ 34) (stop chain).at → EndBy chain.from chain (stop chain)
ends_itself chain within = record { begins = refl; within = within; late = at_most_itself (stop chain) }

-- so, where the truth turns over just after a row, they end there or before
pub mid_ends : (first : ℕ) (old mid : Chain Truth) (holds next : Bool) → first < 2 ^ 32 → IsWithin (2 ^ 34) (stop old).at
    → Before (stop old) (after (whole (pos first))) → TurnsAt old holds (after (whole (pos first))) next mid → EndBy old.from mid (after (whole (pos first)))
mid_ends first old mid holds next few within later goes = turn_ends old.from (stop old) (after (whole (pos first))) old mid holds next (ends_itself old within)
    later (tick_within first few (same_refl (whole (pos first)))) goes

module _ (from : Place) (first second : ℕ) (rise : first < second) (few : second < 2 ^ 32) where
  abbrev here : Rational
  here = whole (pos first)

  abbrev there : Rational
  there = whole (pos second)

  in_order : here <ʳ there
  in_order = let l : pos first <ℤ pos second = omega (arith, ints, rise) in lt_whole l

  -- after the gap behind the first row they end before the second
  pub over_ends : (to : Place) (passage : Passage) (old new : Chain Truth) (holds over : Bool) → EndBy from old to → Before to (after here)
      → TurnsInside here there passage → GoesOver first passage old holds new over
      → (end : Place) × EndBy from new end × Before end (before there)
  over_ends to (Steady next) old new holds over h later inside (e, goes) = (
    after here,
    turn_ends from to (after here) old new holds next h later (tick_within first (omega (arith, rise, few)) (same_refl here)) goes,
    inl in_order,
  )
  over_ends to (Turns was at behind) old new holds over h later inside (e, mid, one, two) =
      let c : Place = record { at = crossing_time at; after = behind } in (
        c,
        turn_ends from (after here) c mid new was (not was)
            (turn_ends from to (after here) old mid holds was h later (tick_within first (omega (arith, rise, few)) (same_refl here)) one)
            (inl inside.0) (between_within first second (omega (arith, rise, few)) few inside.0 inside.1) two,
        inl inside.1,
      )

  -- and after the second row no later than just before it
  pub follow_ends : (to : Place) (passage : Passage) (old new : Chain Truth) (holds last : Bool) → EndBy from old to → Before to (after here)
      → TurnsInside here there passage → Follows first second passage old holds last new → EndBy from new (before there)
  follow_ends to passage old new holds last h later inside (mid, over, goes, turns) =
      let x = over_ends to passage old mid holds over h later inside goes in
      turn_ends from x.0 (before there) mid new over last x.1 x.2 (tick_within second few (same_refl there)) turns

module _ (test : Rational → Bool) where
  -- the pieces tell the test, and from where they end up to a place it is `holds`
  pub record Stands (chain : Chain Truth) (to : Place) (holds : Bool) : Type 0 where
    -- what they are worth is the truth of the test
    pub worth : (t : Rational) (v : Extended) → IsWorth truth_shape chain t v → v ≈ᵉ worth_of (test t)
    -- behind them the test is one truth
    pub stays : (t : Rational) → After (stop chain) t → Upto to t → test t ≡ holds

  -- pieces that go on with that truth tell the test too
  pub told_on : (old new : Chain Truth) (to : Place) (holds : Bool) (cut : Cut) (p : Truth) → Same (place cut) to → p.holds ≡ holds
      → GoesOn truth_shape old cut p new → Stands old to holds → (t : Rational) (v : Extended) → IsWorth truth_shape new t v → v ≈ᵉ worth_of (test t)
  told_on old new to holds cut p s e on h t v w = by_part ((on.worth t v).0 w)
    where
      by_part : IsWorth truth_shape old t v ⊎ (After (stop old) t × Upto (place cut) t × Passes (level (truth_value p.holds)) t v) → v ≈ᵉ worth_of (test t)
      by_part (inl x) = h.worth t v x
      by_part (inr x) = subst (λ b. v ≈ᵉ worth_of b) (e ∙ sym (h.stays t x.0 (upto_same (place cut) to t s x.1)))
          (transᵉ x.2 (level_is (truth_value p.holds) t))

  -- where the truth turns over they go on to that place
  pub stands_turned : (old new : Chain Truth) (at : Place) (holds next : Bool) → TurnsAt old holds at next new → Stands old at holds → Stands new at next
  stands_turned old new at holds next (cut, s, inl (e, f)) h = subst (λ c. Stands c at next) (sym f) (subst (λ b. Stands old at b) e h)
  stands_turned old new at holds next (cut, s, inr (p, e, on)) h = record {
    worth = told_on old new at holds cut p s e on h;
    stays = λ t a u. absurd (not_both at t u (after_same (place cut) at t s (subst (λ c. After c t) on.ends a)));
  }

  -- and while it stays they need not
  pub stands_on : (chain : Chain Truth) (to further : Place) (holds : Bool) → Stands chain to holds
      → ((t : Rational) → After to t → Upto further t → test t ≡ holds) → Stands chain further holds
  stands_on chain to further holds h on = record {
    worth = h.worth;
    stays = λ t a u. elim (sides to t) [ inl x ↦ h.stays t a x | inr x ↦ on t x u ];
  }

  -- over the gap behind a row
  pub stands_over : (first second : ℕ) (passage : Passage) (old new : Chain Truth) (holds over : Bool) → TellsPassage (whole (pos first)) (whole (pos second)) test passage
      → GoesOver first passage old holds new over → Stands old (after (whole (pos first))) holds → Stands new (before (whole (pos second))) over
  stands_over first second (Steady next) old new holds over tells (e, goes) h =
      subst (λ b. Stands new (before (whole (pos second))) b) (sym e)
      (stands_on new (after (whole (pos first))) (before (whole (pos second))) next (stands_turned old new (after (whole (pos first))) holds next goes h) tells)
  stands_over first second (Turns was at behind) old new holds over tells (e, mid, one, two) h =
      let c : Place = record { at = crossing_time at; after = behind } in
      subst (λ b. Stands new (before (whole (pos second))) b) (sym e)
      (stands_on new c (before (whole (pos second))) (not was)
      (stands_turned mid new c was (not was) two
      (stands_on mid (after (whole (pos first))) c was (stands_turned old mid (after (whole (pos first))) holds was one h) tells.until_then))
      tells.from_then)

  -- and to the next row, with it
  pub stands_follow : (first second : ℕ) (passage : Passage) (old new : Chain Truth) (holds last : Bool)
      → TellsPassage (whole (pos first)) (whole (pos second)) test passage → ((t : Rational) → t ≈ whole (pos second) → test t ≡ last)
      → Follows first second passage old holds last new → Stands old (after (whole (pos first))) holds → Stands new (after (whole (pos second))) last
  stands_follow first second passage old new holds last tells at_row (mid, over, goes, turns) h =
      stands_on new (before (whole (pos second))) (after (whole (pos second))) last
      (stands_turned mid new (before (whole (pos second))) over last turns (stands_over first second passage old mid holds over tells goes h))
      (λ t a u. at_row t (same_of_le u a))

module _ (b : Binding) (i : ℕ) (tr : Trace) where
  -- the pieces tell the atom's truth; from where they end up to row k, and at it, the atom is `holds`
  pub record HasTruths (k : ℕ) (holds : Bool) (chain : Chain Truth) : Type 0 where
    -- they begin with the first row
    pub begins : Same chain.from (before (trace.start tr))
    -- they end by row k
    pub ends : EndBy chain.from chain (before (row_time (row_of tr k)))
    -- and tell the atom
    pub tells : (a : Atom) → IsFor b i a tr → Stands (holds_at a tr) chain (after (row_time (row_of tr k))) holds

  -- just before row k is before the place just after each row that is no earlier
  before_of_way : (k : ℕ) (w : Way) → IsWay b i tr k w → Before (before (row_time (row_of tr k))) (after (row_time (row_of tr (w.row - 1))))
  before_of_way k w way =
      let le : row_time (row_of tr k) ≤ʳ row_time (row_of tr (w.row - 1)) =
      (let o : pos (row_of tr k).time ≤ℤ pos (row_of tr (w.row - 1)).time = (let o = way.order in omega (arith, ints, o)) in le_whole o) in
      before_at_most (before (row_time (row_of tr k))) (after (row_time (row_of tr k))) (after (row_time (row_of tr (w.row - 1))))
      (around (row_time (row_of tr k))) (λ t u. le_trans u le)

  -- no piece has told anything at the first row
  pub truths_none : (chain : Chain Truth) (holds : Bool) → 0 < length tr.rows → (row_of tr 0).time < 2 ^ 32 → chain.pieces ≡ []
      → Same chain.from (before (trace.start tr))
      → ((a : Atom) (block : Trace) (t : Rational) → IsFor b i a block → HasBlock block tr → t ≈ row_time (row_of tr 0) → holds_at a block t ≡ holds)
      → HasTruths 0 holds chain
  truths_none chain holds some few none begins at_row = record {
    begins = begins;
    ends = record {
      begins = refl;
      within = tick_within (row_of tr 0).time few ends.0;
      late = at_most_of_same (stop chain) (before (row_time (row_of tr 0))) ends;
    };
    tells = λ a for. record {
      worth = λ t v w. absurd (subst (λ ps. IsWorthFrom truth_shape chain.from ps t v) none w);
      stays = λ t x u. at_row a tr t for (whole_block tr) (same_of_le u (after_same (stop chain) (before (row_time (row_of tr 0))) t ends x));
    };
  }
    where
      ends : Same (stop chain) (before (row_time (row_of tr 0)))
      ends = subst (λ ps. Same (stop (record { from = chain.from; pieces = ps })) (before (row_time (row_of tr 0)))) (sym none)
          (subst (λ n. Same chain.from (before (whole (pos n)))) (first_time_at tr.rows (record { time = 0; values = [] }) some) begins)

  -- they end before the gap that a way takes last
  pub way_later : (k : ℕ) (holds : Bool) (w : Way) (chain : Chain Truth) → IsWay b i tr k w → HasTruths k holds chain
      → Before (stop chain) (after (row_time (row_of tr (w.row - 1))))
  way_later k holds w chain way h = before_of_at_most (stop chain) (before (row_time (row_of tr k))) (after (row_time (row_of tr (w.row - 1)))) h.ends.late
      (before_of_way k w way)

  -- they go on along a way
  pub truths_on : (k : ℕ) (holds : Bool) (w : Way) (old new : Chain Truth) → (row_of tr w.row).time < 2 ^ 32 → IsWay b i tr k w → HasTruths k holds old
      → Follows (row_of tr (w.row - 1)).time (row_of tr w.row).time w.passage old holds w.last new → HasTruths w.row w.last new
  truths_on k holds w old new few way h goes = record {
    begins = subst (λ c. Same c (before (trace.start tr))) (sym ends.begins) h.begins;
    ends = record { begins = refl; within = ends.within; late = ends.late };
    tells = λ a for. stands_follow (holds_at a tr) (row_of tr (w.row - 1)).time (row_of tr w.row).time w.passage old new holds w.last
        (way.tells a tr for (whole_block tr)).passes (way.tells a tr for (whole_block tr)).there goes
        (stands_on (holds_at a tr) old (after (row_time (row_of tr k))) (after (row_time (row_of tr (w.row - 1)))) holds (h.tells a for)
        (λ t x u. (way.tells a tr for (whole_block tr)).stays t (le_of_lt x) u ∙ standing a for));
  }
    where
      ends : EndBy old.from new (before (row_time (row_of tr w.row)))
      ends = follow_ends old.from (row_of tr (w.row - 1)).time (row_of tr w.row).time way.rises few (before (row_time (row_of tr k))) w.passage old new holds
          w.last h.ends (before_of_way k w way) way.inside goes

      standing : (a : Atom) → IsFor b i a tr → holds_at a tr (row_time (row_of tr k)) ≡ holds
      standing a for = (h.tells a for).stays (row_time (row_of tr k))
          (after_at_most (stop old) (before (row_time (row_of tr k))) (row_time (row_of tr k)) h.ends.late (le_refl (row_time (row_of tr k))))
          (le_refl (row_time (row_of tr k)))

  -- they end before the place just after the last row
  pub end_later : (k : ℕ) (holds : Bool) (chain : Chain Truth) (cut : Cut) → HasTruths k holds chain → Same (place cut) (after (row_time (row_of tr k)))
      → Before (stop chain) (place cut)
  end_later k holds chain cut h s = before_of_at_most (stop chain) (before (row_time (row_of tr k))) (place cut) h.ends.late
      (before_same (before (row_time (row_of tr k))) (after (row_time (row_of tr k))) (place cut) (around (row_time (row_of tr k))) (same_places s))

  -- and with what the atom is at the last row they tell it whole
  pub truths_whole : (k : ℕ) (holds : Bool) (old new : Chain Truth) (cut : Cut) (p : Truth) → length tr.rows ≡ suc k → first_time tr.rows < 2 ^ 32
      → (row_of tr k).time < 2 ^ 32 → HasTruths k holds old → Same (place cut) (after (row_time (row_of tr k))) → p.holds ≡ holds
      → GoesOn truth_shape old cut p new → IsAtomChain truth_shape truths b i tr new
  truths_whole k holds old new cut p count few_first few_last h s e on = grown_whole truth_shape by_truth b i tr new few_first
      (subst (λ n. n < 2 ^ 32) (sym last) few_last)
      (record {
        begins = subst (λ c. Same c (before (trace.start tr))) (sym on.begins) h.begins;
        bases = λ q x. zero_base;
        small = λ t v w. truth_bounded new.from new.pieces t v w;
        tells = λ a for. record {
          normal = on.normal;
          worth = λ t v w. gives by_truth tr i a t v
              (told_on (holds_at a tr) old new (after (row_time (row_of tr k))) holds cut p s e on (h.tells a for) t v w);
        };
      })
      (subst (λ c. Same c (after (trace.stop tr))) (sym on.ends) (subst (λ n. Same (place cut) (after (whole (pos n)))) (sym last) s))
    where
      last : last_time 0 tr.rows ≡ (row_of tr k).time
      last = last_time_at 0 tr.rows k (record { time = 0; values = [] }) count
