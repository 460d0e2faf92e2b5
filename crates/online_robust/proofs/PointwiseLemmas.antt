-- How negation and the connectives go through their inputs.
use Rattle.std.proofs.Common.{◌≡◌, ℕ, ◌<◌, List, [], ◌∷◌, Some, None, refl, sym, ap, subst, ◌∙◌, length, drop, slice_get, arith}
use Rattle.std.specs.declared.cmp.Ordering.{Ordering}
use Rattle.std.specs.declared.cmp.Ordering.TheVariants.{Less, Equal, Greater}
use Rattle.std.proofs.lemmas.Option.{same_Some}
use Rattle.rational.specs.Rational.{IsOrder}
use Rattle.rational.specs.Time.{Rational, ◌≈◌, ◌≤ʳ◌, ◌<ʳ◌}
use Rattle.rational.specs.Windows.{Function}
use Rattle.rational.proofs.Order.{le_refl, le_of_lt, le_of_same, ge_of_same, lt_of_le_of_lt, not_lt_of_le, same_sym, same_trans}
use Rattle.frac128.specs.Value.{value}
use Rattle.stl_syntax.specs.SupInf.{Robustness}
use Rattle.online_robust.specs.Lines.{end_of, margin_of}
use Rattle.online_robust.specs.Held.{Held, edge_at, held_at, with_edge, without}
use Rattle.online_robust.specs.ReadLines.{Begins, IsAhead, IsThere, LosesAt}
use Rattle.online_robust.specs.Couples.{IsReadTo, Source}
use Rattle.online_robust.specs.declared.line.MarginLine.{MarginLine}
use Rattle.online_robust.specs.declared.line.MarginLine.TheVariants.{Point, Gap}
use Rattle.online_robust.proofs.JoinedLemmas.{FirstGap, ahead_next, ahead_on, first_of, there_at, there_in}
use Rattle.online_robust.proofs.LinesGone.{took, took_held, loses_at_both}
use Rattle.online_robust.proofs.Robustly.{robust_is_function}

-- a number that is not equal to another, and not below it, is above it
pub above_of : (o : Ordering) {a b : Rational} → IsOrder o a b → (o ≡ Equal → ⊥) → b ≤ʳ a → b <ʳ a
above_of Less h n le = absurd (not_lt_of_le le h)
above_of Equal h n le = absurd (n refl)
above_of Greater h n le = h

-- the first line of an edge was taken, and then the next
pub record TakesTwo (old mid new : Held) (i : ℕ) (v w : MarginLine) : Type 0 where
  -- the edge is one of them
  pub within : i < length old.edges
  -- its first line is a gap
  pub first : slice_get (held_at old i) 0 ≡ Some v
  -- it is taken
  pub taken : mid.edges ≡ with_edge old i (without 1 (edge_at old i))
  -- and the start stays
  pub start : mid.start ≡ old.start
  -- the next line is a point
  pub second : slice_get (held_at mid i) 0 ≡ Some w
  -- it is taken too
  pub taken_too : new.edges ≡ with_edge mid i (without 1 (edge_at mid i))
  -- and the start stays
  pub start_too : new.start ≡ mid.start

-- lines that are some are less without their first two
drop_fewer : (l : List MarginLine) (v : MarginLine) → slice_get l 0 ≡ Some v → length (drop 1 (drop 1 l)) < length l
drop_fewer [] v e = absurd (let h = e in cc)
drop_fewer (x ∷ []) v e = omega arith
drop_fewer (x ∷ y ∷ r) v e = omega arith

module _ {old mid new : Held} {i : ℕ} {v w : MarginLine} (two : TakesTwo old mid new i v w) where
  one_lost : (limit : Rational) → value (end_of v) ≤ʳ limit → LosesAt limit i old mid
  one_lost limit h = took limit i old mid v two.within two.taken two.start two.first h

  mid_count : length mid.edges ≡ length old.edges
  mid_count = (took (value (end_of v)) i old mid v two.within two.taken two.start two.first (le_refl (value (end_of v)))).edges

  -- two lines are gone
  pub two_lost : (limit : Rational) → value (end_of v) ≤ʳ limit → value (end_of w) ≤ʳ limit → LosesAt limit i old new
  two_lost limit h k = loses_at_both (one_lost limit h) (took limit i mid new w (omega (arith, two.within, mid_count)) two.taken_too two.start_too two.second k)

  -- the edge holds the rest
  pub two_held : held_at new i ≡ drop 1 (drop 1 (held_at old i))
  two_held = took_held i mid new (omega (arith, two.within, mid_count)) two.taken_too
      ∙ ap (λ (l : List MarginLine). drop 1 l) (took_held i old mid two.within two.taken)

  -- which are two less
  pub two_fewer : length (held_at new i) < length (held_at old i)
  two_fewer =
      let shorter : length (drop 1 (drop 1 (held_at old i))) < length (held_at old i) = drop_fewer (held_at old i) v two.first in
      let same : length (held_at new i) ≡ length (drop 1 (drop 1 (held_at old i))) = ap (λ (l : List MarginLine). length l) two_held in
      omega (arith, shorter, same)

  -- the point stood behind the gap
  pub second_held : slice_get (drop 1 (held_at old i)) 0 ≡ Some w
  second_held = ap (λ (l : List MarginLine). slice_get l 0) (sym (took_held i old mid two.within two.taken)) ∙ two.second

  -- behind a gap its point was taken
  module _ {P : Function} {reach : ℕ} {at to : Rational} (g : FirstGap P reach at to (held_at old i)) where
    -- the second line that was taken is the point at the gap's end
    pub is_point : w ≡ Point g.u g.v
    is_point =
        let e : slice_get (drop 1 (Gap g.a g.b g.p ∷ Point g.u g.v ∷ g.rest)) 0 ≡ Some w =
        subst (λ (l : List MarginLine). slice_get (drop 1 l) 0 ≡ Some w) g.is second_held in
        let f : Some (Point g.u g.v) ≡ Some w = e in sym (same_Some _ _ f)

    -- the first line that was taken is the gap
    pub is_gap : v ≡ Gap g.a g.b g.p
    is_gap =
        let e : slice_get (Gap g.a g.b g.p ∷ Point g.u g.v ∷ g.rest) 0 ≡ Some v =
        subst (λ (l : List MarginLine). slice_get l 0 ≡ Some v) g.is two.first in
        let f : Some (Gap g.a g.b g.p) ≡ Some v = e in sym (same_Some _ _ f)

    -- the edge then holds the lines behind the point
    pub is_rest : held_at new i ≡ g.rest
    is_rest = two_held ∙ ap (λ (l : List MarginLine). drop 1 (drop 1 l)) g.is

-- an edge whose first line is a gap has a line behind it
pub has_second : {P : Function} {reach : ℕ} {at to : Rational} (old mid : Held) (i : ℕ) → i < length old.edges
    → mid.edges ≡ with_edge old i (without 1 (edge_at old i)) → FirstGap P reach at to (held_at old i) → slice_get (held_at mid i) 0 ≡ None → ⊥
has_second old mid i within taken g none =
    let e : slice_get (drop 1 (held_at old i)) 0 ≡ None = ap (λ (l : List MarginLine). slice_get l 0) (sym (took_held i old mid within taken)) ∙ none in
    let f : slice_get (drop 1 (Gap g.a g.b g.p ∷ Point g.u g.v ∷ g.rest)) 0 ≡ None = subst (λ (l : List MarginLine). slice_get (drop 1 l) 0 ≡ None) g.is e in
    absurd (let h : Some (Point g.u g.v) ≡ None = f in cc)

module _ (x : Source) where
  P : Function
  P = Robustness x.formula x.trace

  -- an input is read up to the end of its first gap
  module _ {old mid new : Held} {i : ℕ} {gap w : MarginLine} {t : Rational} (two : TakesTwo old mid new i gap w) (read : IsReadTo x gap t (held_at old i))
      (end : value (end_of gap) ≈ t) where
    g : FirstGap (Robustness x.formula x.trace) x.reach x.at x.to (held_at old i)
    g = (first_of (Robustness x.formula x.trace) x.reach x.at x.to (held_at old i) gap read.ahead read.first).0

    at_end : value g.b ≈ t
    at_end = subst (λ (m : MarginLine). value (end_of m) ≈ t) (is_gap two g) end

    -- the input has the point's margin there
    pub read_there : IsThere (Robustness x.formula x.trace) x.reach t (margin_of w)
    read_there = subst (λ (m : MarginLine). IsThere (Robustness x.formula x.trace) x.reach t (margin_of m)) (sym (is_point two g))
        (there_at (Robustness x.formula x.trace) x.reach (robust_is_function x.formula x.trace) g.u g.v t g.point g.point_fit
        (same_trans (same_sym g.ends) at_end))

    -- the input goes on from the point
    pub read_ahead : IsAhead (Robustness x.formula x.trace) x.reach t x.to (held_at new i)
    read_ahead = subst (λ (l : List MarginLine). IsAhead (Robustness x.formula x.trace) x.reach t x.to l) (sym (is_rest two g))
        (ahead_next (Robustness x.formula x.trace) x.reach (robust_is_function x.formula x.trace) x.at x.to (held_at old i) g t at_end)

    -- the lines that were read are gone
    pub read_lost : LosesAt t i old new
    read_lost = two_lost two t (le_of_same end)
        (subst (λ (m : MarginLine). value (end_of m) ≤ʳ t) (sym (is_point two g)) (le_of_same (same_trans (same_sym g.ends) at_end)))

  -- or up to a time in that gap
  module _ (lines : List MarginLine) (gap : MarginLine) (t : Rational) (read : IsReadTo x gap t lines) (before : t <ʳ value (end_of gap)) where
    h : (g : FirstGap (Robustness x.formula x.trace) x.reach x.at x.to lines) × (gap ≡ Gap g.a g.b g.p)
    h = first_of (Robustness x.formula x.trace) x.reach x.at x.to lines gap read.ahead read.first

    before_end : t <ʳ value h.0.b
    before_end = subst (λ (m : MarginLine). t <ʳ value (end_of m)) h.1 before

    -- within the gap the input has the gap's margin
    pub gap_there : IsThere (Robustness x.formula x.trace) x.reach t (margin_of gap)
    gap_there = subst (λ (m : MarginLine). IsThere (Robustness x.formula x.trace) x.reach t (margin_of m)) (sym h.1)
        (there_in (Robustness x.formula x.trace) x.reach (robust_is_function x.formula x.trace) h.0.a h.0.b h.0.p t h.0.gap h.0.gap_fit
        (lt_of_le_of_lt h.0.begun read.after) before_end)

    -- the input goes on within the gap
    pub gap_ahead : IsAhead (Robustness x.formula x.trace) x.reach t x.to lines
    gap_ahead = ahead_on (Robustness x.formula x.trace) x.reach (robust_is_function x.formula x.trace) x.at x.to lines read.ahead h.0 t
        (le_of_lt read.after) before_end

-- the point at the start was taken
module _ {P : Function} {reach : ℕ} {from to : Rational} {lines : List MarginLine} (b : Begins P reach from to lines) where
  -- an input that begins has a point first
  pub begun_point : (v : MarginLine) → slice_get lines 0 ≡ Some v → v ≡ Point b.at b.v
  begun_point v first =
      let e : slice_get (Point b.at b.v ∷ b.rest) 0 ≡ Some v = subst (λ (l : List MarginLine). slice_get l 0 ≡ Some v) b.is first in
      let f : Some (Point b.at b.v) ≡ Some v = e in sym (same_Some _ _ f)

  -- behind that point the input's lines are the rest
  pub begun_rest : drop 1 lines ≡ b.rest
  begun_rest = ap (λ (l : List MarginLine). drop 1 l) b.is

  -- the edge of an input that begins holds a line
  pub begun_some : slice_get lines 0 ≡ None → ⊥
  begun_some none =
      let e : slice_get (Point b.at b.v ∷ b.rest) 0 ≡ None = subst (λ (l : List MarginLine). slice_get l 0 ≡ None) b.is none in
      absurd (let f : Some (Point b.at b.v) ≡ None = e in cc)

-- an edge whose first line is a gap has a line
pub no_gap_none : {P : Function} {reach : ℕ} {at to : Rational} {lines : List MarginLine} → FirstGap P reach at to lines → slice_get lines 0 ≡ None → ⊥
no_gap_none g none =
    let f : slice_get (Gap g.a g.b g.p ∷ Point g.u g.v ∷ g.rest) 0 ≡ None = subst (λ (l : List MarginLine). slice_get l 0 ≡ None) g.is none in
    absurd (let h : Some (Gap g.a g.b g.p) ≡ None = f in cc)

-- a number that is not below another is at least that
pub not_less : (o : Ordering) {a b : Rational} → IsOrder o a b → (o ≡ Less → ⊥) → b ≤ʳ a
not_less Less h n = absurd (n refl)
not_less Equal h n = ge_of_same h
not_less Greater h n = le_of_lt h
