-- How a signal of an atom grows over the gaps of a trace.
use Rattle.std.proofs.Common.{◌≡◌, ℕ, suc, ℤ, pos, nat_abs, ◌<◌, ◌≤◌, ◌^◌, ◌<ℤ◌, ◌⊎◌, inl, inr, Bool}
use Rattle.std.proofs.Common.{true, false, List, [], ◌∷◌, length, Some, refl, sym, subst, ◌∙◌, arith}
use Rattle.std.specs.Prelude.{slice_get, IsTrue}
use Rattle.std.proofs.lemmas.Int.{ints}
use Rattle.std.proofs.lemmas.Option.{slice_get-get_or}
use Rattle.rational.specs.Time.{Rational, ◌≤ʳ◌, ◌<ʳ◌, ◌≈◌, whole}
use Rattle.rational.specs.Rational.{IsWithin}
use Rattle.rational.specs.Line.{at}
use Rattle.rational.specs.Extended.{Extended, value_at, Passes, finite, ◌≈ᵉ◌}
use Rattle.rational.specs.Affine.{level}
use Rattle.rational.proofs.Order.{le_of_same, ge_of_same, le_refl, le_trans, le_or_lt, lt_irrefl, lt_of_lt_of_le, lt_of_le_of_lt, lt_trans}
use Rattle.rational.proofs.Order.{same_refl, same_trans, same_sym, same_of_le, le_of_lt}
use Rattle.rational.proofs.Shift.{lt_whole}
use Rattle.rational.proofs.Mixed.{within_whole, tick_within}
use Rattle.rational.proofs.AffineLemmas.{same_symᵉ, same_transᵉ, bounded_same}
use Rattle.rational.proofs.LevelLemmas.{level_is}
use Rattle.frac128.specs.Value.{value}
use Rattle.frac128.specs.declared.frac.Frac.{Frac}
use Rattle.value_laws.specs.Values.{truth_value}
use Rattle.value_laws.specs.declared.truth.Truth.{Truth}
use Rattle.value_laws.specs.declared.margin.Margin.{Margin}
use Rattle.value_laws.specs.Margins.{is_ramp, margin_base, others_base}
use Rattle.value_laws.specs.Members.{ShapeOf}
use Rattle.pl_signal.specs.declared.knot.Knot.{Knot}
use Rattle.pl_signal.specs.Knots.{start, stop, HasShape, IsSignal, IsWorth}
use Rattle.pl_signal.specs.Building.{GoesOn}
use Rattle.pl_signal.proofs.Telling.{told}
use Rattle.stl_syntax.specs.Trace.{Trace, row_time}
use Rattle.stl_syntax.specs.Trace as trace
use Rattle.stl_syntax.specs.Truth.{compares, expression}
use Rattle.stl_syntax.specs.SupInf.{Gives}
use Rattle.stl_syntax.specs.declared.atom.Atom.{Atom}
use Rattle.stl_syntax.specs.declared.rel.Rel.{Rel}
use Rattle.stl_syntax.proofs.TruthLemmas.{same_expression}
use Rattle.stl_syntax.proofs.RowsLemmas.{first_time_at, last_time_at}
use Rattle.atom_lines.specs.declared.gap.Gap.{Gap}
use Rattle.atom_lines.specs.declared.bound_atom.BoundAtom.{BoundAtom}
use Rattle.atom_lines.specs.Binding.{Binding, IsFor, HasRow, AreNeighbours}
use Rattle.atom_lines.specs.Gaps.{along}
use Rattle.atom_lines.specs.Rows.{row_of, values_at}
use Rattle.atom_lines.specs.Sums.{reach}
use Rattle.atom_lines.specs.How.{How, by_truth, worth, reading_of}
use Rattle.atom_lines.specs.Growing.{IsRowBase, CatchesUp, GoesAlong, HasGrown}
use Rattle.atom_lines.specs.AtomSignals.{IsAtomSignal}
use Rattle.atom_lines.proofs.SumLemmas.{atom_binding, expression_at_row, expression_along}
use Rattle.rational.specs.Affine.{IsBounded}
use Rattle.atom_lines.proofs.ValueLimits.{worth_bounded, along_within}
use Rattle.pl_signal.proofs.Limits.{limited}
use Rattle.atom_lines.proofs.Readings.{worth_same, gives, given_is_function}

-- a truth is worth what its comparison is
pub truth_worth : (w : Truth) (rel : Rel) (y t : Rational) → compares rel y ≡ w.holds → value_at (level (truth_value w.holds)) t ≈ᵉ worth by_truth rel y
truth_worth w rel y t e =
    subst (λ b. value_at (level (truth_value w.holds)) t ≈ᵉ finite (whole (truth_value b))) (sym e) (level_is (truth_value w.holds) t)

-- the rows of a gap are in order
pub before_end : {x y : Rational} (g : Gap) → x ≈ whole (pos g.first) → y ≈ whole (pos g.second) → x <ʳ y
before_end g e h =
    let rise : pos g.first <ℤ pos g.second = let r = g.rising in omega (arith, ints, r) in
    lt_of_le_of_lt (le_of_same e) (lt_of_lt_of_le (lt_whole rise) (ge_of_same h))

-- times between rows are within their limits
pub between_within : {x : Rational} (n m : ℕ) → n < 2 ^ 32 → m < 2 ^ 32 → whole (pos n) <ʳ x → x <ʳ whole (pos m) → IsWithin (2 ^ 34) x
between_within {x} n m h k a b = (
  le_trans (within_whole (2 ^ 34) (pos n) (omega (arith, ints, h))).0 (le_of_lt a),
  le_trans (le_of_lt b) (within_whole (2 ^ 34) (pos m) (omega (arith, ints, k))).1,
)

-- a time of a row
pub row_base : (n : ℕ) (z : ℤ) → n < 2 ^ 32 → z ≡ pos n → IsRowBase z
row_base n z h e = (omega (arith, ints, e), omega (arith, ints, e, h))

-- the base of what does not move
pub zero_base : IsRowBase (pos 0)
zero_base = (omega (arith, ints), omega (arith, ints))

-- and of a margin on a gap
pub margin_row_base : (m : Margin) (n : ℕ) → n < 2 ^ 32 → (IsTrue (is_ramp m) → margin_base m ≡ pos n) → IsRowBase (margin_base m)
margin_row_base m n h e = by_kind (cases_eq' (is_ramp m))
  where
    cases_eq' : (b : Bool) → (b ≡ true) ⊎ (b ≡ false)
    cases_eq' true = inl refl
    cases_eq' false = inr refl

    by_kind : (is_ramp m ≡ true) ⊎ (is_ramp m ≡ false) → IsRowBase (margin_base m)
    by_kind (inl k) = row_base n (margin_base m) h (e k)
    by_kind (inr k) = subst IsRowBase (sym (others_base m k)) zero_base

module _ {P : Type 0} (shape : ShapeOf P) (steady : P) (to : ℕ) where
  -- a signal that goes on with one shape up to the time
  pub caught_up : (end : Frac) (old new : List (Knot P)) → value end ≈ whole (pos to) → stop old <ʳ value end
      → GoesOn shape old steady end steady new → CatchesUp shape steady to old new
  caught_up end old new h l on = record {
    signal = on.signal;
    begins = on.begins;
    later = le_of_lt (subst (λ x. stop old <ʳ x) (sym on.ends) l);
    ends = subst (λ x. x ≈ whole (pos to)) (sym on.ends) h;
    worth = λ t v w. by_part t v ((on.worth t v).0 w);
    shapes = λ p s. by_shape p (on.shapes p s);
  }
    where
      by_part : (t : Rational) (v : Extended) → IsWorth shape old t v
          ⊎ ((stop old <ʳ t) × (t <ʳ value end) × Passes (shape.function steady) t v) ⊎ ((t ≈ value end) × Passes (shape.function steady) t v)
          → IsWorth shape old t v ⊎ ((stop old <ʳ t) × (t ≤ʳ whole (pos to)) × (v ≈ᵉ value_at (shape.function steady) t))
      by_part t v (inl w) = inl w
      by_part t v (inr (inl (a, z, p))) = inr (a, le_trans (le_of_lt z) (le_of_same h), p)
      by_part t v (inr (inr (e, p))) = inr (lt_of_lt_of_le l (ge_of_same e), le_of_same (same_trans e h), p)

      by_shape : (p : P) → HasShape old p ⊎ (p ≡ steady) ⊎ (p ≡ steady) → HasShape old p ⊎ (p ≡ steady)
      by_shape p (inl s) = inl s
      by_shape p (inr (inl s)) = inr s
      by_shape p (inr (inr s)) = inr s

  -- and one that has come there
  pub caught_already : (old : List (Knot P)) → IsSignal shape old → stop old ≈ whole (pos to) → CatchesUp shape steady to old old
  caught_already old s h = record {
    signal = s;
    begins = refl;
    later = le_refl (stop old);
    ends = h;
    worth = λ t v w. inl w;
    shapes = λ p w. inl w;
  }

-- the two rows of a gap
pub gap_in_order : (g : Gap) → whole (pos g.first) <ʳ whole (pos g.second)
gap_in_order g = before_end g (same_refl (whole (pos g.first))) (same_refl (whole (pos g.second)))

module _ {P : Type 0} (shape : ShapeOf P) (read_as : How) (rel : Rel) (g : Gap) (next : ℤ) where
  abbrev first : Rational
  first = whole (pos g.first)

  abbrev second : Rational
  second = whole (pos g.second)

  -- what the signal is worth so far, up to the gap, on it, or at its end
  abbrev Part : List (Knot P) → Rational → Extended → Type 0
  Part old t v = IsWorth shape old t v ⊎ ((stop old <ʳ t) × (t ≤ʳ first) × (v ≈ᵉ worth read_as rel (whole g.from)))
      ⊎ ((first <ʳ t) × (t <ʳ second) × (v ≈ᵉ worth read_as rel (at (along g) t)))
      ⊎ ((t ≈ second) × (v ≈ᵉ worth read_as rel (whole next)))

  -- nothing is added where all is worth the same up to the second row
  pub goes_still : (old : List (Knot P)) → IsSignal shape old → IsWithin (2 ^ 34) (stop old) → stop old ≤ʳ first
      → worth read_as rel (whole g.from) ≈ᵉ worth read_as rel (whole next)
      → ((t : Rational) → first <ʳ t → t <ʳ second → worth read_as rel (at (along g) t) ≈ᵉ worth read_as rel (whole next))
      → GoesAlong shape read_as rel g next old old
  goes_still old s w l e on = record {
    signal = s;
    begins = refl;
    later = le_refl (stop old);
    ends = le_trans l (le_of_lt (gap_in_order g));
    late = w;
    worth = λ t v h. inl h;
    before = λ h. e;
    on = λ t a b c. on t b c;
    bases = λ p h. inl h;
  }

  -- what goes on from a time to the second row, by the one shape on what is left of the gap, and by the other at its end
  pub record GoesOff (from : Rational) (mid new : List (Knot P)) (after point : P) : Type 0 where
    -- the time of the second row, as the signal has it
    pub end : Frac
    -- which is within its limits
    pub few : g.second < 2 ^ 32
    -- it is that time
    pub at_end : value end ≈ second
    -- the signal goes on to it
    pub goes : GoesOn shape mid after end point new
    -- `after` is worth what is read on the gap
    pub on_gap : (t : Rational) → from <ʳ t → t <ʳ second → value_at (shape.function after) t ≈ᵉ worth read_as rel (at (along g) t)
    -- `point` is worth what is read at its end
    pub there : (t : Rational) → value_at (shape.function point) t ≈ᵉ worth read_as rel (whole next)

  -- over one shape, once the signal has caught up with the gap
  pub goes_one : {old mid : List (Knot P)} {steady : P} (new : List (Knot P)) (after point : P) → CatchesUp shape steady g.first old mid
      → GoesOff first mid new after point → ((t : Rational) → value_at (shape.function steady) t ≈ᵉ worth read_as rel (whole g.from))
      → IsRowBase (shape.base steady) → IsRowBase (shape.base after) → IsRowBase (shape.base point) → GoesAlong shape read_as rel g next old new
  goes_one {old} {mid} {steady} new after point up off was a b c = record {
    signal = off.goes.signal;
    begins = off.goes.begins ∙ up.begins;
    later = le_trans up.later (le_trans (le_of_same up.ends) (le_trans (le_of_lt (gap_in_order g)) (ge_of_same ends)));
    ends = le_of_same ends;
    late = tick_within g.second off.few ends;
    worth = λ t v w. by_part t v ((off.goes.worth t v).0 w);
    before = λ l. absurd (lt_irrefl (lt_trans l (lt_of_lt_of_le (gap_in_order g) (ge_of_same ends))));
    on = λ t l p q. absurd (lt_irrefl (lt_of_lt_of_le (lt_trans l q) (ge_of_same ends)));
    bases = λ p s. by_shape p (off.goes.shapes p s);
  }
    where
      ends : stop new ≈ second
      ends = subst (λ x. x ≈ second) (sym off.goes.ends) off.at_end

      by_mid : (t : Rational) (v : Extended) → IsWorth shape old t v ⊎ ((stop old <ʳ t) × (t ≤ʳ first) × (v ≈ᵉ value_at (shape.function steady) t))
          → Part old t v
      by_mid t v (inl w) = inl w
      by_mid t v (inr (l, z, p)) = inr (inl (l, z, same_transᵉ v (value_at (shape.function steady) t) (worth read_as rel (whole g.from)) p (was t)))

      by_part : (t : Rational) (v : Extended) → IsWorth shape mid t v
          ⊎ ((stop mid <ʳ t) × (t <ʳ value off.end) × Passes (shape.function after) t v) ⊎ ((t ≈ value off.end) × Passes (shape.function point) t v)
          → Part old t v
      by_part t v (inl w) = by_mid t v (up.worth t v w)
      by_part t v (inr (inl (l, z, p))) =
          let past : first <ʳ t = lt_of_le_of_lt (ge_of_same up.ends) l in
          let soon : t <ʳ second = lt_of_lt_of_le z (le_of_same off.at_end) in
          inr (inr (inl (
            past,
            soon,
            same_transᵉ v (value_at (shape.function after) t) (worth read_as rel (at (along g) t)) p (off.on_gap t past soon),
          )))
      by_part t v (inr (inr (e, p))) =
          inr (inr (inr (same_trans e off.at_end, same_transᵉ v (value_at (shape.function point) t) (worth read_as rel (whole next)) p (off.there t))))

      by_old : (p : P) → HasShape old p ⊎ (p ≡ steady) → HasShape old p ⊎ IsRowBase (shape.base p)
      by_old p (inl s) = inl s
      by_old p (inr s) = inr (subst (λ q. IsRowBase (shape.base q)) (sym s) a)

      by_shape : (p : P) → HasShape mid p ⊎ (p ≡ after) ⊎ (p ≡ point) → HasShape old p ⊎ IsRowBase (shape.base p)
      by_shape p (inl s) = by_old p (up.shapes p s)
      by_shape p (inr (inl s)) = inr (subst (λ q. IsRowBase (shape.base q)) (sym s) b)
      by_shape p (inr (inr s)) = inr (subst (λ q. IsRowBase (shape.base q)) (sym s) c)

  -- over one shape, which the atom has from where the signal ends
  pub goes_level : (old new : List (Knot P)) (after point : P) → stop old ≤ʳ first → GoesOff first old new after point
      → ((t : Rational) → value_at (shape.function after) t ≈ᵉ worth read_as rel (whole g.from))
      → ((p : P) → IsRowBase (shape.base p)) → GoesAlong shape read_as rel g next old new
  goes_level old new after point late off was b = record {
    signal = off.goes.signal;
    begins = off.goes.begins;
    later = le_trans late (le_trans (le_of_lt (gap_in_order g)) (ge_of_same ends));
    ends = le_of_same ends;
    late = tick_within g.second off.few ends;
    before = λ l. absurd (lt_irrefl (lt_trans l (lt_of_lt_of_le (gap_in_order g) (ge_of_same ends))));
    on = λ t l p q. absurd (lt_irrefl (lt_of_lt_of_le (lt_trans l q) (ge_of_same ends)));
    worth = λ t v w. by_part t v ((off.goes.worth t v).0 w);
    bases = λ p s. inr (b p);
  }
    where
      ends : stop new ≈ second
      ends = subst (λ x. x ≈ second) (sym off.goes.ends) off.at_end

      by_place : (t : Rational) (v : Extended) → (stop old <ʳ t) → (t <ʳ value off.end) → Passes (shape.function after) t v → (t ≤ʳ first) ⊎ (first <ʳ t)
          → Part old t v
      by_place t v l z p (inl le) = inr (inl (l, le, same_transᵉ v (value_at (shape.function after) t) (worth read_as rel (whole g.from)) p (was t)))
      by_place t v l z p (inr lt) =
          let soon : t <ʳ second = lt_of_lt_of_le z (le_of_same off.at_end) in
          inr (inr (inl (lt, soon, same_transᵉ v (value_at (shape.function after) t) (worth read_as rel (at (along g) t)) p (off.on_gap t lt soon))))

      by_part : (t : Rational) (v : Extended) → IsWorth shape old t v
          ⊎ ((stop old <ʳ t) × (t <ʳ value off.end) × Passes (shape.function after) t v) ⊎ ((t ≈ value off.end) × Passes (shape.function point) t v)
          → Part old t v
      by_part t v (inl w) = inl w
      by_part t v (inr (inl (l, z, p))) = by_place t v l z p (le_or_lt t first)
      by_part t v (inr (inr (e, p))) =
          inr (inr (inr (same_trans e off.at_end, same_transᵉ v (value_at (shape.function point) t) (worth read_as rel (whole next)) p (off.there t))))

  -- up to a turn inside the gap
  pub record Turned (old mid : List (Knot P)) (before there : P) (turn : Frac) : Type 0 where
    -- what was told ends by the gap
    pub late : stop old ≤ʳ first
    -- the turn lies after the first row
    pub after_first : first <ʳ value turn
    -- and before the second
    pub before_second : value turn <ʳ second
    -- the signal goes on to the turn, along `before`, and has `there` at it
    pub goes : GoesOn shape old before turn there mid
    -- at the first row `before` is worth what is read there
    pub begins : (t : Rational) → value_at (shape.function before) t ≈ᵉ worth read_as rel (whole g.from)
    -- so it is on the gap, up to the turn
    pub until_then : (t : Rational) → first <ʳ t → t <ʳ value turn → value_at (shape.function before) t ≈ᵉ worth read_as rel (at (along g) t)
    -- and so is `there` at it
    pub at_turn : (t : Rational) → t ≈ value turn → value_at (shape.function there) t ≈ᵉ worth read_as rel (at (along g) t)

  by_turn : (old mid : List (Knot P)) (before there : P) (turn : Frac) → Turned old mid before there turn
      → (t : Rational) (v : Extended) → IsWorth shape mid t v → Part old t v
  by_turn old mid before there turn d t v h = by_part ((d.goes.worth t v).0 h)
    where
      by_place : (stop old <ʳ t) → (t <ʳ value turn) → Passes (shape.function before) t v → (t ≤ʳ first) ⊎ (first <ʳ t) → Part old t v
      by_place l z p (inl le) = inr (inl (l, le, same_transᵉ v (value_at (shape.function before) t) (worth read_as rel (whole g.from)) p (d.begins t)))
      by_place l z p (inr lt) =
          inr (inr (inl (
            lt,
            lt_trans z d.before_second,
            same_transᵉ v (value_at (shape.function before) t) (worth read_as rel (at (along g) t)) p (d.until_then t lt z),
          )))

      by_part : IsWorth shape old t v ⊎ ((stop old <ʳ t) × (t <ʳ value turn) × Passes (shape.function before) t v)
          ⊎ ((t ≈ value turn) × Passes (shape.function there) t v) → Part old t v
      by_part (inl w) = inl w
      by_part (inr (inl (l, z, p))) = by_place l z p (le_or_lt t first)
      by_part (inr (inr (e, p))) =
          inr (inr (inl (
            lt_of_lt_of_le d.after_first (ge_of_same e),
            lt_of_le_of_lt (le_of_same e) d.before_second,
            same_transᵉ v (value_at (shape.function there) t) (worth read_as rel (at (along g) t)) p (d.at_turn t e),
          )))

  -- over a gap with a turn, from which all is worth the same
  pub goes_turn : (old mid : List (Knot P)) (before there : P) (turn : Frac) → g.first < 2 ^ 32 → g.second < 2 ^ 32
      → Turned old mid before there turn
      → ((t : Rational) → value turn <ʳ t → t <ʳ second → worth read_as rel (at (along g) t) ≈ᵉ worth read_as rel (whole next))
      → ((p : P) → IsRowBase (shape.base p)) → GoesAlong shape read_as rel g next old mid
  goes_turn old mid before there turn n m d from_then b = record {
    signal = d.goes.signal;
    begins = d.goes.begins;
    later = le_trans d.late (le_of_lt past);
    ends = le_of_lt (subst (λ x. x <ʳ second) (sym d.goes.ends) d.before_second);
    late = subst (IsWithin (2 ^ 34)) (sym d.goes.ends) (between_within g.first g.second n m d.after_first d.before_second);
    worth = λ t v w. by_turn old mid before there turn d t v w;
    before = λ l. absurd (lt_irrefl (lt_trans l past));
    on = λ t l p q. from_then t (subst (λ x. x <ʳ t) d.goes.ends l) q;
    bases = λ p s. inr (b p);
  }
    where
      past : first <ʳ stop mid
      past = subst (λ x. first <ʳ x) (sym d.goes.ends) d.after_first

  -- over two shapes, with a point between them
  pub goes_two : (old mid new : List (Knot P)) (before there after point : P) (turn : Frac) → Turned old mid before there turn
      → GoesOff (value turn) mid new after point → ((p : P) → IsRowBase (shape.base p)) → GoesAlong shape read_as rel g next old new
  goes_two old mid new before there after point turn d off b = record {
    signal = off.goes.signal;
    begins = off.goes.begins ∙ d.goes.begins;
    later = le_trans d.late (le_trans (le_of_lt (gap_in_order g)) (ge_of_same ends));
    ends = le_of_same ends;
    late = tick_within g.second off.few ends;
    worth = λ t v w. by_part t v ((off.goes.worth t v).0 w);
    before = λ l. absurd (lt_irrefl (lt_trans l (lt_of_lt_of_le (gap_in_order g) (ge_of_same ends))));
    on = λ t l p q. absurd (lt_irrefl (lt_of_lt_of_le (lt_trans l q) (ge_of_same ends)));
    bases = λ p s. inr (b p);
  }
    where
      ends : stop new ≈ second
      ends = subst (λ x. x ≈ second) (sym off.goes.ends) off.at_end

      by_part : (t : Rational) (v : Extended) → IsWorth shape mid t v ⊎ ((stop mid <ʳ t) × (t <ʳ value off.end) × Passes (shape.function after) t v)
          ⊎ ((t ≈ value off.end) × Passes (shape.function point) t v) → Part old t v
      by_part t v (inl w) = by_turn old mid before there turn d t v w
      by_part t v (inr (inl (l, z, p))) =
          let past : value turn <ʳ t = subst (λ x. x <ʳ t) d.goes.ends l in
          let soon : t <ʳ second = lt_of_lt_of_le z (le_of_same off.at_end) in
          inr (inr (inl (
            lt_trans d.after_first past,
            soon,
            same_transᵉ v (value_at (shape.function after) t) (worth read_as rel (at (along g) t)) p (off.on_gap t past soon),
          )))
      by_part t v (inr (inr (e, p))) =
          inr (inr (inr (same_trans e off.at_end, same_transᵉ v (value_at (shape.function point) t) (worth read_as rel (whole next)) p (off.there t))))

module _ {P : Type 0} (shape : ShapeOf P) (read_as : How) (b : Binding) (i : ℕ) (tr : Trace) (k : BoundAtom) (here : slice_get b.atoms i ≡ Some (Some k)) where
  -- the sum at a row is the atom's expression there
  row_is : (n : ℕ) (next : ℤ) (a : Atom) → IsFor b i a tr → n < length tr.rows → next ≡ reach k (values_at tr n) (values_at tr n)
      → (t : Rational) → t ≈ row_time (row_of tr n) → expression a tr t ≈ whole next
  row_is n next a for h e t when =
      let has : HasRow tr (row_of tr n) = (n, slice_get-get_or tr.rows n (record { time = 0; values = [] }) h) in
      subst (λ z. expression a tr t ≈ whole z) (sym e) (expression_at_row b i k here a tr for (row_of tr n) t has when)

  -- what is worth the sum at a row is what the trace gives there
  at_row : (n : ℕ) (next : ℤ) (a : Atom) → IsFor b i a tr → n < length tr.rows → next ≡ reach k (values_at tr n) (values_at tr n)
      → (t : Rational) (v : Extended) → t ≈ row_time (row_of tr n)
      → v ≈ᵉ worth read_as k.rel (whole next) → Gives (reading_of read_as tr) i a t v
  at_row n next a for h e t v when w =
      let is : expression a tr t ≈ whole next = row_is n next a for h e t when in
      let one : v ≈ᵉ worth read_as a.rel (whole next) = subst (λ q. v ≈ᵉ worth read_as q (whole next)) (atom_binding b i k here a tr for).rel w in
      gives read_as tr i a t v
      (same_transᵉ v (worth read_as a.rel (whole next)) (worth read_as a.rel (expression a tr t)) one (worth_same read_as a.rel (same_sym is)))

  -- a signal that is begun at the first row
  pub begun : (from : ℤ) (at : Frac) (point : P) (n : ℕ) → n < 2 ^ 32 → value at ≈ whole (pos n) → nat_abs from ≤ 2 ^ 31
      → 0 < length tr.rows → from ≡ reach k (values_at tr 0) (values_at tr 0) → value at ≈ row_time (row_of tr 0)
      → ((t : Rational) → value_at (shape.function point) t ≈ᵉ worth read_as k.rel (whole from)) → IsRowBase (shape.base point)
      → HasGrown shape read_as b i tr 0 (record { time = at; point = point; after = point } ∷ [])
  begun from at point n time is size some e when w c = record {
    signal = record { some = omega arith; each = (record { rising = tt; needed = tt; ends = refl }, tt) };
    begins = subst (λ n. value at ≈ whole (pos n)) (sym (first_time_at tr.rows (record { time = 0; values = [] }) some)) when;
    ends = le_of_same when;
    early = tick_within n time is;
    late = tick_within n time is;
    small = small;
    bases = by_shape;
    worth = λ a for t v h. by_part a for t v h;
    since = λ a for t low high. absurd (lt_irrefl (lt_of_lt_of_le low (le_trans high (ge_of_same when))));
  }
    where
      by_shape : (p : P) → (p ≡ point) ⊎ (p ≡ point) ⊎ ⊥ → IsRowBase (shape.base p)
      by_shape p (inl s) = subst (λ q. IsRowBase (shape.base q)) (sym s) c
      by_shape p (inr (inl s)) = subst (λ q. IsRowBase (shape.base q)) (sym s) c
      by_shape p (inr (inr s)) = absurd s

      small : (t : Rational) (v : Extended) → IsWorth shape (record { time = at; point = point; after = point } ∷ []) t v → IsBounded (2 ^ 31) v
      small t v (inl x) =
          bounded_same (2 ^ 31) v (worth read_as k.rel (whole from))
          (same_transᵉ v (value_at (shape.function point) t) (worth read_as k.rel (whole from)) x.worth (w t))
          (worth_bounded read_as k.rel (whole from) (within_whole (2 ^ 31) from size))
      small t v (inr (inl x)) = absurd x
      small t v (inr (inr x)) = absurd x

      by_part : (a : Atom) → IsFor b i a tr → (t : Rational) (v : Extended)
          → IsWorth shape (record { time = at; point = point; after = point } ∷ []) t v → Gives (reading_of read_as tr) i a t v
      by_part a for t v (inl x) = at_row 0 from a for some e t v (same_trans x.when when)
          (same_transᵉ v (value_at (shape.function point) t) (worth read_as k.rel (whole from)) x.worth (w t))
      by_part a for t v (inr (inl x)) = absurd x
      by_part a for t v (inr (inr x)) = absurd x

  -- while the atom stays as it is at row n, what is worth the sum there is what the trace gives
  while_still : {s : List (Knot P)} (n : ℕ) (next : ℤ) (a : Atom) → IsFor b i a tr → n < length tr.rows
      → next ≡ reach k (values_at tr n) (values_at tr n) → HasGrown shape read_as b i tr n s
      → (t : Rational) (v : Extended) → stop s <ʳ t → t ≤ʳ row_time (row_of tr n) → v ≈ᵉ worth read_as k.rel (whole next)
      → Gives (reading_of read_as tr) i a t v
  while_still {s} n next a for h e grown t v low high w =
      let there = row_time (row_of tr n) in
      let is : expression a tr there ≈ whole next = row_is n next a for h e there (same_refl there) in
      let one : v ≈ᵉ worth read_as a.rel (whole next) = subst (λ q. v ≈ᵉ worth read_as q (whole next)) (atom_binding b i k here a tr for).rel w in
      let two : v ≈ᵉ worth read_as a.rel (expression a tr there) =
      same_transᵉ v (worth read_as a.rel (whole next)) (worth read_as a.rel (expression a tr there)) one (worth_same read_as a.rel (same_sym is)) in
      gives read_as tr i a t v
      (same_transᵉ v (worth read_as a.rel (expression a tr there)) (worth read_as a.rel (expression a tr t)) two
      (same_symᵉ (worth read_as a.rel (expression a tr t)) (worth read_as a.rel (expression a tr there)) (grown.since a for t low high)))

  -- the gap is the one between the rows n and r of the trace, and `next` the sum at r
  pub record IsGapTo (n r : ℕ) (g : Gap) (next : ℤ) : Type 0 where
    -- the rows are neighbours
    pub neighbours : r ≡ suc n
    -- the second is a row of the trace
    pub within : r < length tr.rows
    -- the time of the first row
    pub first : g.first ≡ (row_of tr n).time
    -- the time of the second
    pub second : g.second ≡ (row_of tr r).time
    -- the sum at the beginning of the gap, by the values of the row n
    pub from : g.from ≡ reach k (values_at tr n) (values_at tr n)
    -- the one at its end, by those of both rows
    pub to : g.to ≡ reach k (values_at tr n) (values_at tr r)
    -- the sum at the row r
    pub at_next : next ≡ reach k (values_at tr r) (values_at tr r)
    -- which is within its limits
    pub size : nat_abs next ≤ 2 ^ 31

  -- and grown over a gap
  pub grown_on : (r n : ℕ) (g : Gap) (next : ℤ) (old new : List (Knot P)) → IsGapTo n r g next
      → HasGrown shape read_as b i tr n old → GoesAlong shape read_as k.rel g next old new → HasGrown shape read_as b i tr r new
  grown_on r n g next old new gap grown goes = record {
    signal = goes.signal;
    begins = subst (λ x. x ≈ trace.start tr) (sym goes.begins) grown.begins;
    ends = subst (λ m. stop new ≤ʳ whole (pos m)) gap.second goes.ends;
    early = subst (IsWithin (2 ^ 34)) (sym goes.begins) grown.early;
    late = goes.late;
    small = λ t v h. small t v (goes.worth t v h);
    bases = λ p h. by_shape p (goes.bases p h);
    worth = λ a for t v h. by_part a for t v (goes.worth t v h);
    since = λ a for t low high. by_place a for t low high (le_or_lt t (whole (pos g.first)));
  }
    where
      before : n < length tr.rows
      before = let e = gap.neighbours in let within = gap.within in omega (arith, e, within)

      by_shape : (p : P) → HasShape old p ⊎ IsRowBase (shape.base p) → IsRowBase (shape.base p)
      by_shape p (inl h) = grown.bases p h
      by_shape p (inr h) = h

      small : (t : Rational) (v : Extended) → Part shape read_as k.rel g next old t v → IsBounded (2 ^ 31) v
      small t v (inl w) = grown.small t v w
      small t v (inr (inl (low, high, w))) = bounded_same (2 ^ 31) v (worth read_as k.rel (whole g.from)) w
          (worth_bounded read_as k.rel (whole g.from) (within_whole (2 ^ 31) g.from g.small_from))
      small t v (inr (inr (inl (past, high, w)))) =
          bounded_same (2 ^ 31) v (worth read_as k.rel (at (along g) t)) w (worth_bounded read_as k.rel (at (along g) t) (along_within g t past high))
      small t v (inr (inr (inr (when, w)))) = bounded_same (2 ^ 31) v (worth read_as k.rel (whole next)) w
          (worth_bounded read_as k.rel (whole next) (within_whole (2 ^ 31) next gap.size))

      has : AreNeighbours tr (row_of tr n) (row_of tr r)
      has = (
        n,
        slice_get-get_or tr.rows n (record { time = 0; values = [] }) before,
        subst (λ m. slice_get tr.rows m ≡ Some (row_of tr r)) gap.neighbours (slice_get-get_or tr.rows r (record { time = 0; values = [] }) gap.within),
      )

      on_way : (a : Atom) → IsFor b i a tr → (t : Rational) → whole (pos g.first) <ʳ t → t <ʳ whole (pos g.second) → expression a tr t ≈ at (along g) t
      on_way a for t past soon = expression_along b i k here a tr for g (row_of tr n) (row_of tr r) t gap.first gap.second gap.from gap.to has
          (subst (λ m. whole (pos m) <ʳ t) gap.first past) (subst (λ m. t <ʳ whole (pos m)) gap.second soon)

      by_part : (a : Atom) → IsFor b i a tr → (t : Rational) (v : Extended) → Part shape read_as k.rel g next old t v → Gives (reading_of read_as tr) i a t v
      by_part a for t v (inl w) = grown.worth a for t v w
      by_part a for t v (inr (inl (low, high, w))) =
          while_still n g.from a for before gap.from grown t v low (subst (λ m. t ≤ʳ whole (pos m)) gap.first high) w
      by_part a for t v (inr (inr (inl (past, soon, w)))) =
          let one : v ≈ᵉ worth read_as a.rel (at (along g) t) = subst (λ q. v ≈ᵉ worth read_as q (at (along g) t)) (atom_binding b i k here a tr for).rel w in
          gives read_as tr i a t v
          (same_transᵉ v (worth read_as a.rel (at (along g) t)) (worth read_as a.rel (expression a tr t)) one
          (worth_same read_as a.rel (same_sym (on_way a for t past soon))))
      by_part a for t v (inr (inr (inr (when, w)))) = at_row r next a for gap.within gap.at_next t v (subst (λ m. t ≈ whole (pos m)) gap.second when) w

      -- what is worth the sum at the second row is worth what the atom is there
      up_to : (a : Atom) → IsFor b i a tr → (y : Rational) → worth read_as k.rel y ≈ᵉ worth read_as k.rel (whole next)
          → worth read_as a.rel y ≈ᵉ worth read_as a.rel (expression a tr (row_time (row_of tr r)))
      up_to a for y w =
          let there = row_time (row_of tr r) in
          let is : expression a tr there ≈ whole next = row_is r next a for gap.within gap.at_next there (same_refl there) in
          let one : worth read_as a.rel y ≈ᵉ worth read_as a.rel (whole next) =
          subst (λ q. worth read_as q y ≈ᵉ worth read_as q (whole next)) (atom_binding b i k here a tr for).rel w in
          same_transᵉ (worth read_as a.rel y) (worth read_as a.rel (whole next)) (worth read_as a.rel (expression a tr there)) one
          (worth_same read_as a.rel (same_sym is))

      after : (a : Atom) → IsFor b i a tr → (t : Rational) → stop new <ʳ t → t ≤ʳ row_time (row_of tr r) → whole (pos g.first) <ʳ t
          → (whole (pos g.second) ≤ʳ t) ⊎ (t <ʳ whole (pos g.second))
          → worth read_as a.rel (expression a tr t) ≈ᵉ worth read_as a.rel (expression a tr (row_time (row_of tr r)))
      after a for t low high past (inl le) =
          worth_same read_as a.rel (same_expression a tr (same_of_le high (subst (λ m. whole (pos m) ≤ʳ t) gap.second le)))
      after a for t low high past (inr soon) =
          let there = row_time (row_of tr r) in
          same_transᵉ (worth read_as a.rel (expression a tr t)) (worth read_as a.rel (at (along g) t)) (worth read_as a.rel (expression a tr there))
          (worth_same read_as a.rel (on_way a for t past soon)) (up_to a for (at (along g) t) (goes.on t low past soon))

      by_place : (a : Atom) → IsFor b i a tr → (t : Rational) → stop new <ʳ t → t ≤ʳ row_time (row_of tr r)
          → (t ≤ʳ whole (pos g.first)) ⊎ (whole (pos g.first) <ʳ t)
          → worth read_as a.rel (expression a tr t) ≈ᵉ worth read_as a.rel (expression a tr (row_time (row_of tr r)))
      by_place a for t low high (inr past) = after a for t low high past (le_or_lt (whole (pos g.second)) t)
      by_place a for t low high (inl le) =
          let mid = row_time (row_of tr n) in
          let there = row_time (row_of tr r) in
          let is : expression a tr mid ≈ whole g.from = row_is n g.from a for before gap.from mid (same_refl mid) in
          let one : worth read_as a.rel (expression a tr t) ≈ᵉ worth read_as a.rel (expression a tr mid) =
          grown.since a for t (lt_of_le_of_lt goes.later low) (subst (λ m. t ≤ʳ whole (pos m)) gap.first le) in
          let two : worth read_as a.rel (expression a tr t) ≈ᵉ worth read_as a.rel (whole g.from) =
          same_transᵉ (worth read_as a.rel (expression a tr t)) (worth read_as a.rel (expression a tr mid)) (worth read_as a.rel (whole g.from)) one
          (worth_same read_as a.rel is) in
          same_transᵉ (worth read_as a.rel (expression a tr t)) (worth read_as a.rel (whole g.from)) (worth read_as a.rel (expression a tr there)) two
          (up_to a for (whole g.from) (goes.before (lt_of_lt_of_le low le)))

  -- a signal that has grown to the last row, and then was caught up with it, is the atom's
  pub whole_signal : {n time : ℕ} {steady : P} {old : List (Knot P)} (next : ℤ) (new : List (Knot P)) → nat_abs next ≤ 2 ^ 31 → length tr.rows ≡ suc n
      → time < 2 ^ 32 → time ≡ (row_of tr n).time → next ≡ reach k (values_at tr n) (values_at tr n)
      → ((t : Rational) → value_at (shape.function steady) t ≈ᵉ worth read_as k.rel (whole next)) → IsRowBase (shape.base steady)
      → HasGrown shape read_as b i tr n old → CatchesUp shape steady time old new → IsAtomSignal shape (reading_of read_as) b i tr new
  whole_signal {n} {time} {steady} {old} next new size e few at_time at_next is base grown up = record {
    signal = up.signal;
    begins = begins;
    ends = ends;
    tells = λ a for. told shape (Gives (reading_of read_as tr) i a) (trace.start tr) (trace.stop tr) new (given_is_function read_as tr i a)
        (record { signal = up.signal; worth = λ t v h. by_part a for t v (up.worth t v h) }) begins ends;
    bases = λ p h. by_shape p (up.shapes p h);
    limited = limited shape new up.signal (λ t v h. small t v (up.worth t v h)) (subst (IsWithin (2 ^ 34)) (sym up.begins) grown.early)
        (tick_within time few up.ends);
  }
    where
      within : n < length tr.rows
      within = omega (arith, e)

      begins : start new ≈ trace.start tr
      begins = subst (λ x. x ≈ trace.start tr) (sym up.begins) grown.begins

      ends : stop new ≈ trace.stop tr
      ends = subst (λ m. stop new ≈ whole (pos m)) (at_time ∙ sym (last_time_at 0 tr.rows n (record { time = 0; values = [] }) e)) up.ends

      by_shape : (p : P) → HasShape old p ⊎ (p ≡ steady) → IsRowBase (shape.base p)
      by_shape p (inl h) = grown.bases p h
      by_shape p (inr h) = subst (λ q. IsRowBase (shape.base q)) (sym h) base

      worth_is : (t : Rational) (v : Extended) → v ≈ᵉ value_at (shape.function steady) t → v ≈ᵉ worth read_as k.rel (whole next)
      worth_is t v w = same_transᵉ v (value_at (shape.function steady) t) (worth read_as k.rel (whole next)) w (is t)

      small : (t : Rational) (v : Extended) → IsWorth shape old t v ⊎ ((stop old <ʳ t) × (t ≤ʳ whole (pos time)) × (v ≈ᵉ value_at (shape.function steady) t))
          → IsBounded (2 ^ 31) v
      small t v (inl w) = grown.small t v w
      small t v (inr (low, high, w)) = bounded_same (2 ^ 31) v (worth read_as k.rel (whole next)) (worth_is t v w)
          (worth_bounded read_as k.rel (whole next) (within_whole (2 ^ 31) next size))

      by_part : (a : Atom) → IsFor b i a tr → (t : Rational) (v : Extended)
          → IsWorth shape old t v ⊎ ((stop old <ʳ t) × (t ≤ʳ whole (pos time)) × (v ≈ᵉ value_at (shape.function steady) t))
          → Gives (reading_of read_as tr) i a t v
      by_part a for t v (inl w) = grown.worth a for t v w
      by_part a for t v (inr (low, high, w)) =
          while_still n next a for within at_next grown t v low (subst (λ m. t ≤ʳ whole (pos m)) at_time high) (worth_is t v w)
