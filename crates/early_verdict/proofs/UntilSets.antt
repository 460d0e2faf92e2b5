-- Until by the sets between: where it holds and where it fails.
use Rattle.std.proofs.Common.{◌⊎◌, inl, inr, ℕ, ◌≤◌, Bool, true, false, List, arith}
use Rattle.rational.specs.Time.{Rational, Within, later, ◌≤ʳ◌}
use Rattle.rational.proofs.Order.{le_refl, le_trans, le_of_lt, le_or_lt, same_of_le}
use Rattle.rational.proofs.TimeLemmas.{later_from, later_more, later_zero}
use Rattle.stl_syntax.specs.Trace.{Trace, start, stop}
use Rattle.stl_syntax.specs.Early.{OpenAhead}
use Rattle.stl_syntax.proofs.SettledParts.{sure_earlier}
use Rattle.rational.specs.Places.{Place, Upto}
use Rattle.growing_sets.specs.Spans.{Lies, IsOn, AreTidy}
use Rattle.growing_sets.specs.Steps.{Tells}
use Rattle.growing_sets.specs.Reaching.{GoesOn}
use Rattle.early_verdict.specs.Readings.{Counts, OnlyAhead, SomeAhead, UntilHolds, UntilFails}
use Rattle.early_verdict.specs.Fitting.{Lists, sure_place, UntilHolding, UntilFailing}
use Rattle.growing_sets.specs.declared.stretch.Stretch.{Stretch}
use Rattle.early_verdict.specs.declared.sets.Holding.{Holding}
use Rattle.early_verdict.specs.declared.sets.Failing.{Failing}
use Rattle.growing_sets.proofs.Gaps.{on_same}
use Rattle.growing_sets.proofs.Failures.{past_time, all_or_broken}
use Rattle.early_verdict.proofs.SetsTell.{tells_alike}

-- no wait is no move
pub later_zero_out : (t v : Rational) → later t 0 ≤ʳ v → t ≤ʳ v
later_zero_out t v h = record { le = omega (arith, h.le) }

-- v is on the way to the window
pub on_way : (from t v : Rational) (a : ℕ) → from ≤ʳ v → t ≤ʳ v → v ≤ʳ later t a → OpenAhead from 0 a true true t v
on_way from t v a f h k = record { after = f; begins = le_trans (later_zero t) h; ends = k }

-- where the window ends, of the times that count
pub window_end : (ended : Bool) (tr : Trace) (f : Rational)
    → (d : Place) × ((u : Rational) → Upto d u → (u ≤ʳ f) × Counts ended tr u) × ((u : Rational) → u ≤ʳ f → Counts ended tr u → Upto d u)
window_end false tr f = (past_time f, λ u h. (h, tt), λ u h k. h)
window_end true tr f = elim (le_or_lt f (stop tr)) [
  | inl l ↦ (past_time f, λ u h. (h, le_trans h l), λ u h k. h)
  | inr l ↦ (sure_place tr, λ u h. (le_trans h (le_of_lt l), h), λ u h k. k)
]

module _ (tr : Trace) (a b : ℕ) (order : a ≤ b) (p q : Lists) (x : Holding) (h : UntilHolding tr a b p q x) (bounds : Stretch) (yes : List Stretch)
    (from : (t : Rational) → Lies bounds t → start tr ≤ʳ t)
    (own : (t : Rational) → Lies bounds t → Lies x.some.bounds t × Lies x.each.bounds t)
    (wide : (t u : Rational) → Lies bounds t → t ≤ʳ u → u ≤ʳ later t b → Lies x.both.bounds u × Lies x.run.bounds u) where
  -- what a run says without sureness
  goes : (v : Rational) → IsOn x.run.spans.items v
      → (w : Rational) × (v ≤ʳ w) × IsOn x.both.spans.items w × ((y : Rational) → Within v w y → IsOn p.yes y)
  goes v o = elim ((h.run.only v o).1) [
    | inl (w, l, c, z) ↦ (w, l, c.0, z)
    | inr c ↦ (v, le_refl v, c, λ y k. on_same p.yes v y (same_of_le k.above k.below) ((h.both.only v c).1.0))
  ]

  back : (t : Rational) → Lies bounds t → SomeAhead tr a b true true (IsOn q.yes) t → OnlyAhead false tr 0 a true true (IsOn x.run.spans.items) t
      → UntilHolds tr a b (IsOn p.yes) (IsOn q.yes) t
  back t i (u, o, c, y) runs =
      let s = from t i in
      let e = later t a in
      let run = λ (v : Rational) (k : t ≤ʳ v) (l : v ≤ʳ e). goes v (runs v (on_way (start tr) t v a (le_trans s k) k l) tt) in
      let r = run e (later_from t a) (le_refl e) in
      let along : (f : Rational) → f ≤ʳ r.0 → (v : Rational) → Within t f v → IsOn p.yes v = λ f k v l.
      elim (le_or_lt v e) [
        | inl m ↦ let g = run v l.above m in g.3 v (record { above = le_refl v; below = g.1 })
        | inr m ↦ r.3 v (record { above = le_of_lt m; below = le_trans l.below k })
      ] in
      elim (le_or_lt r.0 u) [
        | inl k ↦
            let f = le_trans s (le_trans (later_from t a) r.1) in (
              r.0,
              record { after = f; begins = r.1; ends = le_trans k o.ends },
              sure_earlier tr t r.0 u f k c,
              (h.both.only r.0 r.2).1.1,
              along r.0 (le_refl r.0),
            )
        | inr k ↦ (u, o, c, y, along u (le_of_lt k))
      ]

  forth : (t : Rational) → Lies bounds t → UntilHolds tr a b (IsOn p.yes) (IsOn q.yes) t → IsOn x.some.spans.items t × IsOn x.each.spans.items t
  forth t i (u, o, c, y, z) =
      let s = from t i in
      let tu = le_trans (later_from t a) o.begins in
      let both = h.both.has u ((wide t u i tu o.ends).0) (z u (record { above = tu; below = le_refl u }), y) in (
        h.some.has t ((own t i).0) (u, o, c, y),
        h.each.has t ((own t i).1) (λ v w k.
            let tv = later_zero_out t v w.begins in
            let vu = le_trans w.ends o.begins in
            h.run.has v ((wide t v i tv (le_trans vu o.ends)).1) (by_sure v tv vu both c.1)),
      )
    where
      by_sure : (v : Rational) → t ≤ʳ v → v ≤ʳ u → IsOn x.both.spans.items u → (u ≤ʳ stop tr) ⊎ (u ≤ʳ t) → GoesOn p.yes x.both.spans.items (sure_place tr) v
      by_sure v tv vu both (inl l) = inl (u, vu, (both, l), λ y k. z y (record { above = le_trans tv k.above; below = k.below }))
      by_sure v tv vu both (inr l) = inr (on_same x.both.spans.items u v (same_of_le (le_trans l tv) vu) both)

  -- the set of until, where it is certainly true
  pub until_is_true : Tells bounds yes (λ t. IsOn x.some.spans.items t × IsOn x.each.spans.items t)
      → Tells bounds yes (UntilHolds tr a b (IsOn p.yes) (IsOn q.yes))
  until_is_true s = tells_alike s (λ t i k. back t i ((h.some.only t k.0).1) ((h.each.only t k.1).1)) forth

module _ (ended : Bool) (tr : Trace) (a b : ℕ) (order : a ≤ b) (p q : Lists) (x : Failing) (h : UntilFailing ended tr a b p q x) (bounds : Stretch)
    (no : List Stretch) (tidy_q : AreTidy q.no) (tidy_fail : AreTidy x.fail.spans.items)
    (from : (t : Rational) → Lies bounds t → start tr ≤ʳ t)
    (own : (t : Rational) → Lies bounds t → Lies x.never.bounds t × Lies x.broken.bounds t)
    (wide : (t u : Rational) → Lies bounds t → t ≤ʳ u → u ≤ʳ later t b → Lies x.fail.bounds u × Lies x.stop.bounds u) where
  out : (t : Rational) → IsOn x.never.spans.items t ⊎ IsOn x.broken.spans.items t → UntilFails ended tr a b (IsOn p.no) (IsOn q.no) t
  out t (inl n) u o c = inl ((h.never.only t n).1 u o c)
  out t (inr n) u o c = by_run ((h.broken.only t n).1)
    where
      by_run : ((v : Rational) × OpenAhead (start tr) 0 a true true t v × IsOn x.stop.spans.items v)
          → IsOn q.no u ⊎ ((v : Rational) × Within t u v × IsOn p.no v)
      by_run (v, i, s) =
          let (w, l, y, z) = (h.stop.only v s).1 in
          let tv = later_zero_out t v i.begins in
          let vu = le_trans i.ends o.begins in
          elim (le_or_lt w u) [
            | inl k ↦ inr (w, record { above = le_trans tv l; below = k }, y)
            | inr k ↦ elim ((h.fail.only u (z u (record { above = vu; below = le_of_lt k }))).1) [
              | inl m ↦ inr (u, record { above = le_trans tv vu; below = le_refl u }, m)
              | inr m ↦ inl m
            ]
          ]

  into : (t : Rational) → Lies bounds t → UntilFails ended tr a b (IsOn p.no) (IsOn q.no) t → IsOn x.never.spans.items t ⊎ IsOn x.broken.spans.items t
  into t i f =
      let s = from t i in
      let e = later t a in
      let d = window_end ended tr (later t b) in
      elim (all_or_broken q.no p.no x.fail.spans.items tidy_q tidy_fail d.0 t e (later_from t a)
      (λ u k l m. h.fail.has u ((wide t u i k (d.1 u l).0).0) m)
      (λ u k l. f u (record { after = le_trans s (le_trans (later_from t a) k); begins = k; ends = (d.1 u l).0 }) (d.1 u l).1)) [
        | inl all ↦ inl (h.never.has t ((own t i).0) (λ u o c. all u o.begins (d.2 u o.ends c)))
        | inr (v, w, g) ↦
            let sv = le_trans s w.above in
            inr (h.broken.has t ((own t i).1) (
              v,
              on_way (start tr) t v a sv w.above w.below,
              h.stop.has v ((wide t v i w.above (le_trans w.below (later_more t a b order))).1) g,
            ))
      ]

  -- the set of until, where it is certainly false
  pub until_is_false : Tells bounds no (λ t. IsOn x.never.spans.items t ⊎ IsOn x.broken.spans.items t)
      → Tells bounds no (UntilFails ended tr a b (IsOn p.no) (IsOn q.no))
  until_is_false s = tells_alike s (λ t i k. out t k) into
