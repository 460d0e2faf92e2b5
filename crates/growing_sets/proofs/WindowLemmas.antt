-- Which windows reach past a place.
use Rattle.std.proofs.Common.{◌≡◌, ◌⊎◌, inl, inr, sym, ℤ}
use Rattle.std.proofs.Common.{◌<◌, ◌≤◌, ◌^◌, Option, Some, None, arith, lit<, subst}
use Rattle.std.specs.Prelude.{IfSome, unsigned_abs}
use Rattle.std.proofs.lemmas.Int.{to_z-of_z, fits_signed_from_abs}
use mir.Val.{hbits}
use Rattle.std.proofs.Common.{to_z, of_z, ℕ, pos}
use Rattle.std.specs.Prelude.{Result, Ok, Err, OnOk}
use Rattle.std.specs.Int.{w64}
use Rattle.rational.specs.Rational.{Rational}
use Rattle.rational.proofs.Order.{same_sym}
use Rattle.rational.specs.Places.{Place, After, Upto, Before}
use Rattle.frac128.specs.Cuts.{place}
use Rattle.growing_sets.specs.Windows.{SeesPart}
use Rattle.time_sets.specs.Parts.{low_place, high_place}
use Rattle.growing_sets.specs.declared.stretch.Stretch.{Stretch}
use Rattle.growing_sets.specs.declared.window.Window.{Window}
use Rattle.rational.proofs.PlaceLemmas.{share, before_through, between, place_order, upto_of_before, upto_same}
use Rattle.growing_sets.proofs.StretchLemmas.{rises}

-- a bound that is a number of ticks is near
pub bound_near : (n : ℕ) (k : ℤ) → k ≡ pos n → n < 2 ^ 32 → unsigned_abs k ≤ 2 ^ 32
bound_near n k e h = subst (λ j. unsigned_abs j ≤ 2 ^ 32) (sym e) (let m : n ≤ 2 ^ 32 = omega (arith, h) in m)

-- a bound fits
pub near_fits : (k : ℤ) → unsigned_abs k ≤ 2 ^ 32 → to_z w64 (of_z w64 k) ≡ k
near_fits k h = to_z-of_z w64 k (fits_signed_from_abs w64 k (let b : 2 ^ 32 < 2 ^ hbits w64 = lit< tt in omega arith))

-- a window that has a time from everywhere meets a part exactly where it begins before the part ends, and ends behind its beginning
pub sees_part : (w : Window) (part : Stretch) (t : Rational) → IfSome w.low (λ k. Before (low_place k w.low_in t) (high_place w.high w.high_in t))
    → Before (place part.from) (high_place w.high w.high_in t) → IfSome w.low (λ k. Before (low_place k w.low_in t) (place part.to)) → SeesPart w part t
sees_part w part t room high low = by_low w.low (λ u h. h) room low
  where
    far : Place
    far = high_place w.high w.high_in t

    open_low : Before (place part.to) far ⊎ (((u : Rational) → Upto far u → Upto (place part.to) u))
        → (u : Rational) × After (place part.from) u × Upto (place part.to) u × Upto far u
    open_low (inl b) = let m = between (place part.from) (place part.to) (rises part) in (m.0, m.1, m.2, upto_of_before (place part.to) far m.0 b m.2)
    open_low (inr f) = let m = between (place part.from) far high in (m.0, m.1, f m.0 m.2, m.2)

    order : Before (place part.to) far ⊎ (((u : Rational) → Upto far u → Upto (place part.to) u))
    order = elim (place_order (place part.to) far) [
      | inl b ↦ inl b
      | inr o ↦ elim o [
        | inl s ↦ inr (λ u h. upto_same far (place part.to) u (same_sym s.0, sym s.1) h)
        | inr b ↦ inr (λ u h. upto_of_before far (place part.to) u b h)
      ]
    ]

    by_low : (low : Option ℤ) → ((u : Rational) → IfSome low (λ k. After (low_place k w.low_in t) u) → IfSome w.low (λ k. After (low_place k w.low_in t) u))
        → IfSome low (λ k. Before (low_place k w.low_in t) far) → IfSome low (λ k. Before (low_place k w.low_in t) (place part.to)) → SeesPart w part t
    by_low None f r l = let m = open_low order in (m.0, (m.1, m.2), record { begins = f m.0 tt; ends = m.3 })
    by_low (Some k) f r l =
        let m = share (place part.from) (place part.to) (low_place k w.low_in t) far (rises part) r high l in
        (m.0, (m.1, m.2), record { begins = f m.0 m.3; ends = m.4 })

-- what follows from a good answer follows where it came
pub on_good : {T E : Type 0} (r : Result T E) {P Q : Type 0} → OnOk r P → (P → Q) → OnOk r Q
on_good (Ok x) h f = f h
on_good (Err e) h f = tt

-- what it sees of the part is such
pub part_seen : (w : Window) (part : Stretch) (t : Rational) → SeesPart w part t
    → Before (place part.from) (high_place w.high w.high_in t) × IfSome w.low (λ k. Before (low_place k w.low_in t) (place part.to))
part_seen w part t (u, h, s) = (before_through (place part.from) (high_place w.high w.high_in t) u h.0 s.ends, by_low w.low s.begins)
  where
    by_low : (low : Option ℤ) → IfSome low (λ k. After (low_place k w.low_in t) u) → IfSome low (λ k. Before (low_place k w.low_in t) (place part.to))
    by_low None b = tt
    by_low (Some k) b = before_through (low_place k w.low_in t) (place part.to) u b h.1
