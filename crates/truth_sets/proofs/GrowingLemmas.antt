-- The set of an atom grows along its ways over a block of rows.
use Rattle.std.proofs.Common.{◌≡◌, ℕ, ℤ, ◌-◌, ◌+◌, ◌<◌, ◌≤◌, ◌⊎◌, inl, inr, pos, List, [], ◌^◌, nat_abs, to_z, of_z, length, refl, sym, ap, ◌∙◌, subst, arith}
use Rattle.std.specs.Prelude.{Bool, false, slice_get}
use Rattle.rational.specs.Time.{Rational, ◌≤ʳ◌, ◌<ʳ◌, ◌≈◌, whole}
use Rattle.std.specs.Int.{w64}
use Rattle.rational.proofs.Order.{le_of_lt, le_refl, le_or_lt, same_of_le}
use Rattle.rational.proofs.Lists.{slice_get-append_left, slice_get-append_right}
use Rattle.time_sets.specs.Sets.{has}
use Rattle.time_sets.specs.Windows.{IsOf}
use Rattle.time_sets.specs.declared.domain.Domain.{Domain}
use Rattle.time_sets.specs.declared.times.Times.{Times}
use Rattle.stl_syntax.specs.Trace.{Header, Row, Trace, Continues, first_time, row_time}
use Rattle.stl_syntax.proofs.RowsLemmas.{first_time_at}
use Rattle.stl_syntax.specs.Truth.{holds_at}
use Rattle.stl_syntax.specs.declared.atom.Atom.{Atom}
use Rattle.atom_lines.specs.Binding.{Binding, IsAtomNode, IsFor}
use Rattle.atom_lines.proofs.GrowingSums.{reach_small, read_back}
use Rattle.atom_lines.specs.Growing.{IsReachAt}
use Rattle.atom_lines.specs.Legs.{BendsSo, IsLeg, bent, jumped}
use Rattle.atom_lines.specs.Passages.{HasBlock}
use Rattle.atom_lines.specs.Rows.{row_of, values_at}
use Rattle.atom_lines.specs.declared.passage.Leg.{Leg}
use Rattle.truth_sets.specs.Growing.{IsTail, IsTidy, GoesAlong}
use Rattle.truth_sets.specs.Rows.{alone, HasGrown}
use Rattle.truth_sets.specs.declared.atom.NodeSet.{NodeSet}
use Rattle.truth_sets.proofs.MovingLemmas.{rows_le, tidy_later, along_tidy, along_before, along_tells, constant_tidy}

-- a block of the last rows stands in each trace that goes on from them
pub block_in : (block : Trace) (header : Header) (rows : List Row) (tr : Trace) → IsTail block header rows → Continues tr header rows false → HasBlock tr block
block_in block header rows tr tail goes = record {
  place = length tail.earlier;
  rows = λ k r e.
      ap (λ l. slice_get l (length tail.earlier + k)) goes.begins
      ∙ slice_get-append_left rows goes.more (length tail.earlier + k) r
      (ap (λ l. slice_get l (length tail.earlier + k)) tail.parts ∙ slice_get-append_right tail.earlier block.rows k ∙ e);
}

-- the sum at a row of a block is the sum at the row
pub sum_alone : (b : Binding) (i : ℕ) (header : Header) (block : Trace) (k : ℕ) (n : ℤ) → IsReachAt b i block k n
    → IsReachAt b i (alone header (row_of block k)) 0 n
sum_alone b i header block k n h atom at = let s = h atom at in (record { sum = s.0.sum; small = s.0.small }, s.1)

-- and the sum at the row is that at its place in the block
pub sum_within : (b : Binding) (i : ℕ) (header : Header) (block : Trace) (k : ℕ) (n : ℤ)
    → IsReachAt b i (alone header (row_of block k)) 0 n → IsReachAt b i block k n
sum_within b i header block k n h atom at = let s = h atom at in (record { sum = s.0.sum; small = s.0.small }, s.1)

module _ (b : Binding) (i : ℕ) (header : Header) (rows : List Row) (block : Trace) (tail : IsTail block header rows) (at : ℕ)
    (s new : NodeSet) (w : Leg) (leg : IsLeg b i block at w) where
  abbrev here : ℕ
  here = (row_of block at).time

  abbrev before : ℕ
  before = (row_of block (w.row - 1)).time

  abbrev next : ℕ
  next = (row_of block w.row).time

  -- it tells the atom up to the end of the leg
  pub grown_on : HasGrown b i header rows (row_of block at) s → new.sum ≡ w.sum → GoesAlong next w s.times new.times
      → HasGrown b i header rows (row_of block w.row) new
  grown_on g sum goes_along = record {
    sum = subst (λ n. IsReachAt b i (alone header (row_of block w.row)) 0 n) (sym sum) (sum_alone b i header block w.row w.sum leg.sum);
    tidy = along_tidy (first_time rows) before next leg.rises s.times tidy w.turn leg.inside w.jumps goes_along.mid new.times goes_along.bends goes_along.jumps;
    tells = λ a tr for goes t low high. by_place a tr for goes t low high (le_or_lt t (whole (pos before)));
  }
    where
      tidy : IsTidy (first_time rows) before s.times
      tidy = tidy_later (first_time rows) here before s.times leg.order g.tidy

      steady : (a : Atom) (tr : Trace) → IsFor b i a tr → Continues tr header rows false → (t : Rational) → whole (pos (first_time rows)) ≤ʳ t
          → t ≤ʳ whole (pos before) → (t ≤ʳ whole (pos here)) ⊎ (whole (pos here) <ʳ t) → has s.times t ≡ holds_at a tr t
      steady a tr for goes t low high (inl l) = g.tells a tr for goes t low l
      steady a tr for goes t low high (inr l) =
          g.tidy.steady t (le_of_lt l)
          ∙ g.tells a tr for goes (whole (pos here)) (rows_le g.tidy.order) (le_refl (whole (pos here)))
          ∙ sym ((leg.tells a tr for (block_in block header rows tr tail goes)).stays t (le_of_lt l) high)

      -- the set has at the begin of the gap what the atom has at the begin of the leg
      begins : (a : Atom) (tr : Trace) → IsFor b i a tr → Continues tr header rows false → has s.times (whole (pos before)) ≡ holds_at a tr (whole (pos here))
      begins a tr for goes =
          g.tidy.steady (whole (pos before)) (rows_le leg.order)
          ∙ g.tells a tr for goes (whole (pos here)) (rows_le g.tidy.order) (le_refl (whole (pos here)))

      by_place : (a : Atom) (tr : Trace) → IsFor b i a tr → Continues tr header rows false → (t : Rational) → whole (pos (first_time rows)) ≤ʳ t
          → t ≤ʳ whole (pos next) → (t ≤ʳ whole (pos before)) ⊎ (whole (pos before) <ʳ t) → has new.times t ≡ holds_at a tr t
      by_place a tr for goes t low high (inl l) =
          along_before (first_time rows) before next leg.rises s.times tidy w.turn leg.inside w.jumps goes_along.mid new.times
          goes_along.bends goes_along.jumps t l
          ∙ steady a tr for goes t low l (le_or_lt t (whole (pos here)))
      by_place a tr for goes t low high (inr l) =
          let v = leg.tells a tr for (block_in block header rows tr tail goes) in
          let e = sym (begins a tr for goes) in
          along_tells (first_time rows) before next leg.rises s.times tidy w.turn leg.inside (holds_at a tr) w.jumps goes_along.mid new.times
          goes_along.bends goes_along.jumps
          (subst (λ h. BendsSo (whole (pos before)) (whole (pos next)) (holds_at a tr) h w.turn) e v.bends)
          (λ u x. v.there u x ∙ ap (λ h. jumped w.jumps (bent w.turn h)) e)
          t l high

-- a sum is read as it is
pub sum_read : (b : Binding) (i : ℕ) (tr : Trace) (k : ℕ) (n : ℤ) → IsAtomNode b i → IsReachAt b i tr k n → to_z w64 (of_z w64 n) ≡ n
sum_read b i tr k n node h =
    let s = h node.0 node.1 in
    let size : nat_abs n ≤ 2 ^ 31 =
    subst (λ m. nat_abs m ≤ 2 ^ 31) (sym s.0.sum) (reach_small node.0 (values_at tr k) (values_at tr k) s.1 s.0.small) in
    read_back n (omega (arith, size))

module _ (b : Binding) (i : ℕ) (trace : Trace) where
  -- the set begins with the first row
  pub begun : (n : ℤ) (s : Times) (holds : Bool) → IsAtomNode b i → 0 < length trace.rows → IsReachAt b i trace 0 n
      → ((a : Atom) (tr : Trace) (t : Rational) → IsFor b i a tr → HasBlock tr trace → t ≈ row_time (row_of trace 0) → holds_at a tr t ≡ holds)
      → s.turns.items ≡ [] → ((t : Rational) → has s t ≡ holds) → ((on : Domain) → IsOf on s)
      → HasGrown b i trace.header trace.rows (row_of trace 0) (record { sum = to_z w64 (of_z w64 n); times = s })
  begun n s holds node some reach stands none same of = record {
    sum = subst (λ m. IsReachAt b i (alone trace.header (row_of trace 0)) 0 m) (sym (sum_read b i trace 0 n node reach))
        (sum_alone b i trace.header trace 0 n reach);
    tidy = subst (λ m. IsTidy m (row_of trace 0).time s) (sym first) (constant_tidy (row_of trace 0).time s holds none same of);
    tells = λ a tr for goes t low high.
        same t ∙ sym (stands a tr t for (block_in trace trace.header trace.rows tr (record { same_header = refl; earlier = []; parts = refl }) goes)
        (same_of_le high (subst (λ m. whole (pos m) ≤ʳ t) first low)));
  }
    where
      first : first_time trace.rows ≡ (row_of trace 0).time
      first = first_time_at trace.rows (record { time = 0; values = [] }) some
