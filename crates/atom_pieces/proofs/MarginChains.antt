-- Pieces that tell an atom's margin, and go on along its ways.
use Rattle.std.proofs.Common.{◌≡◌, ◌<◌, ◌<ℤ◌, ◌^◌, ◌⊎◌, inl, inr, ℕ, suc, false, pos, [], length, sym, subst, ap, arith}
use Rattle.std.proofs.lemmas.Int.{ints}
use Rattle.rational.specs.Time.{Rational, ◌≤ʳ◌, ◌<ʳ◌, ◌≈◌, whole}
use Rattle.rational.specs.Extended.{finite, value_at, ◌≈ᵉ◌}
use Rattle.rational.specs.Affine.{IsBounded}
use Rattle.rational.specs.Places.{After, Before, Same, Upto}
use Rattle.rational.proofs.AffineLemmas.{bounded_same, value_same}
use Rattle.rational.proofs.Order.{same_of_le, same_sym, same_trans}
use Rattle.rational.proofs.PlaceLemmas.{after_same, before_same, same_before, same_places, upto_same}
use Rattle.rational.proofs.Sames.{symᵉ, transᵉ}
use Rattle.rational.proofs.Shift.{lt_whole}
use Rattle.frac128.specs.Cuts.{place}
use Rattle.frac128.specs.declared.cut.Cut.{Cut}
use Rattle.value_laws.specs.Kinds.{margin_shape}
use Rattle.value_laws.specs.Margins.{is_ramp, margin_base, margin_function, others_base}
use Rattle.value_laws.specs.declared.margin.Margin.{Margin}
use Rattle.stl_syntax.specs.Trace as trace
use Rattle.stl_syntax.specs.Trace.{Trace, row_time}
use Rattle.stl_syntax.specs.Truth.{expression}
use Rattle.stl_syntax.specs.SupInf.{margin}
use Rattle.stl_syntax.specs.declared.atom.Atom.{Atom}
use Rattle.stl_syntax.proofs.RowsLemmas.{first_time_at, last_time_at}
use Rattle.atom_lines.specs.declared.passage.MarginWay.{MarginWay}
use Rattle.atom_lines.specs.Binding.{Binding, IsFor}
use Rattle.atom_lines.specs.Growing.{IsRowBase}
use Rattle.atom_lines.specs.How.{by_margin}
use Rattle.atom_lines.specs.MarginWays.{IsMarginWay}
use Rattle.atom_lines.specs.Passages.{HasBlock}
use Rattle.atom_lines.specs.Rows.{row_of}
use Rattle.atom_lines.proofs.GrowingLemmas.{margin_row_base, zero_base}
use Rattle.pieces.specs.Building.{GoesOn}
use Rattle.pieces.specs.Chains.{Chain, HasShape, stop}
use Rattle.pieces.specs.Knots.{before, after}
use Rattle.atom_pieces.specs.Growing.{EndsAt}
use Rattle.atom_pieces.proofs.Grown.{HasGrown, grown_none, grown_on, whole_block}

module _ (b : Binding) (i : ℕ) (tr : Trace) where
  -- the pieces tell the atom's margin up to just before row k
  pub record HasMargins (k : ℕ) (chain : Chain Margin) : Type 0 where
    -- what they tell is the atom's
    pub grown : HasGrown margin_shape by_margin b i tr chain
    -- and they end there
    pub ends : Same (stop chain) (before (row_time (row_of tr k)))

  -- no piece has told anything before the first row
  pub margins_none : (chain : Chain Margin) → 0 < length tr.rows → chain.pieces ≡ [] → Same chain.from (before (trace.start tr)) → HasMargins 0 chain
  margins_none chain some none begins = record {
    grown = grown_none margin_shape by_margin b i tr chain none begins;
    ends = subst (λ c. Same c (before (row_time (row_of tr 0)))) (sym stops)
        (subst (λ n. Same chain.from (before (whole (pos n)))) (first_time_at tr.rows (record { time = 0; values = [] }) some) begins);
  }
    where
      stops : stop chain ≡ chain.from
      stops = ap (λ ps. stop (record { from = chain.from; pieces = ps })) none

  -- and comes before the row at which a way ends
  pub way_later : (k : ℕ) (w : MarginWay) (chain : Chain Margin) (until : Cut) → IsMarginWay b i tr k w → HasMargins k chain
      → Same (place until) (before (row_time (row_of tr w.row))) → Before (stop chain) (place until)
  way_later k w chain until way h at =
      same_before (stop chain) (before (row_time (row_of tr k))) (place until) h.ends
      (before_same (before (row_time (row_of tr k))) (before (row_time (row_of tr w.row))) (place until)
      (inl (lt_whole rise)) (same_places at))
    where
      rise : pos (row_of tr k).time <ℤ pos (row_of tr w.row).time
      rise = let o = way.order in omega (arith, ints, o)

  -- they go on along a way
  pub margins_on : (k : ℕ) (w : MarginWay) (old new : Chain Margin) (until : Cut) → (row_of tr k).time < 2 ^ 32 → IsMarginWay b i tr k w
      → Same (place until) (before (row_time (row_of tr w.row))) → HasMargins k old → GoesOn margin_shape old until w.margin new → HasMargins w.row new
  margins_on k w old new until few way at h on = record {
    grown = grown_on margin_shape by_margin b i tr h.grown on (record {
      base = margin_row_base w.margin (row_of tr k).time few way.base;
      small = λ t a u. way.bounded t (from t a) (to t u);
      worth = λ a for t x u. way.tells a tr for (whole_block tr) t (from t x) (to t u);
    });
    ends = subst (λ c. Same c (before (row_time (row_of tr w.row)))) (sym on.ends) at;
  }
    where
      from : (t : Rational) → After (stop old) t → row_time (row_of tr k) ≤ʳ t
      from t a = after_same (stop old) (before (row_time (row_of tr k))) t h.ends a

      to : (t : Rational) → Upto (place until) t → t <ʳ row_time (row_of tr w.row)
      to t u = upto_same (place until) (before (row_time (row_of tr w.row))) t at u

  -- what is known of the margin at row k
  pub record IsMarginAtRow (k : ℕ) (point : Margin) : Type 0 where
    -- it is that of the atom
    pub is : (a : Atom) (block : Trace) (t : Rational) → IsFor b i a block → HasBlock block tr → t ≈ row_time (row_of tr k)
        → value_at (margin_function point) t ≈ᵉ finite (margin a.rel (expression a block t))
    -- a constant
    pub level : is_ramp point ≡ false
    -- within its limit
    pub small : (t : Rational) → IsBounded (2 ^ 31) (value_at (margin_function point) t)

  -- they go on to just after the last row
  pub margins_end : (k : ℕ) (old new : Chain Margin) (point : Margin) → IsMarginAtRow k point → HasMargins k old
      → EndsAt old point (row_of tr k).time new → HasGrown margin_shape by_margin b i tr new
  margins_end k old new point is h e = grown_on margin_shape by_margin b i tr h.grown e.goes (record {
    base = by_shape e.of_chain;
    small = λ t a u. bounded_same (2 ^ 31) (value_at (margin_function e.more) t) (value_at (margin_function point) t) (alike t a u) (is.small t);
    worth = λ a for t x u. transᵉ (alike t x u) (is.is a tr t for (whole_block tr) (here t x u));
  })
    where
      there : Rational
      there = row_time (row_of tr k)

      here : (t : Rational) → After (stop old) t → Upto (place e.until) t → t ≈ there
      here t a u = same_of_le (upto_same (place e.until) (after there) t e.there u) (after_same (stop old) (before there) t h.ends a)

      alike : (t : Rational) → After (stop old) t → Upto (place e.until) t → value_at (margin_function e.more) t ≈ᵉ value_at (margin_function point) t
      alike t a u = let s : t ≈ (place e.until).at = same_trans (here t a u) (same_sym e.there.0) in
          transᵉ (value_same (margin_function e.more) s) (transᵉ e.worth (symᵉ (value_same (margin_function point) s)))

      by_shape : HasShape old e.more ⊎ (e.more ≡ point) → IsRowBase (margin_base e.more)
      by_shape (inl s) = h.grown.bases e.more s
      by_shape (inr s) = subst (λ q. IsRowBase (margin_base q)) (sym s) (subst IsRowBase (sym (others_base point is.level)) zero_base)

  -- and end there
  pub end_stops : (k : ℕ) (old new : Chain Margin) (point : Margin) → length tr.rows ≡ suc k → EndsAt old point (row_of tr k).time new
      → Same (stop new) (after (trace.stop tr))
  end_stops k old new point count e = subst (λ c. Same c (after (trace.stop tr))) (sym e.goes.ends)
      (subst (λ n. Same (place e.until) (after (whole (pos n)))) (sym (last_time_at 0 tr.rows k (record { time = 0; values = [] }) count)) e.there)
