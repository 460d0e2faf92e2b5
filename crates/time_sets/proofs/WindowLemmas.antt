-- Which windows meet what lies between two places.
use Rattle.std.proofs.Common.{◌≡◌, ◌⊎◌, inl, inr, sym, Bool, true, false, ℤ, neg_ℤ, Option, Some, None, subst}
use Rattle.std.specs.Prelude.{MatchOption, IfSome, IsTrue, ◌↔◌, ◌<ℤ◌}
use Rattle.rational.specs.Time.{Rational, Precedes, add, whole}
use Rattle.rational.specs.Places.{Place, After, Upto, Before, Same, moved_begin, moved_end}
use Rattle.rational.proofs.PlaceLemmas.{share, before_through, between, place_order, upto_of_before, upto_same, after_same, same_places}
use Rattle.time_sets.specs.Turns.{place}
use Rattle.time_sets.specs.Windows.{Lies, Sees}
use Rattle.time_sets.specs.Parts.{HasRoom, low_place, high_place}
use Rattle.time_sets.specs.declared.turn.Turn.{Turn}
use Rattle.time_sets.specs.declared.window.Window.{Window}
use Rattle.time_sets.specs.declared.domain.Domain.{Domain}
use Rattle.time_sets.proofs.WindowPlaces.{ends_past, begins_before, room_in, room_out}

-- a time that a bound precedes lies behind the bound's place
after_low : (i : Bool) (k : ℤ) (t u : Rational) → Precedes i (add t (whole k)) u → After (low_place k i t) u
after_low true k t u h = h
after_low false k t u h = h

low_after : (i : Bool) (k : ℤ) (t u : Rational) → After (low_place k i t) u → Precedes i (add t (whole k)) u
low_after true k t u h = h
low_after false k t u h = h

-- the place is where a window ends that has its low end at the place c: with no low end, that of the domain
abbrev pub IsLast : Domain → Window → Place → Turn → Type 0
IsLast on w c e = MatchOption w.low (e ≡ on.to) (λ k. Same (place e) (moved_end (neg_ℤ k) w.low_in c))

-- a window with a time meets what lies between two places exactly from the times between those that its ends move them to
pub meets_between : (on : Domain) (w : Window) (c d : Place) (b e : Turn) (t : Rational) → HasRoom w → Before c d
    → Same (place b) (moved_begin (neg_ℤ w.high) w.high_in c) → IsLast on w d e → Lies on t
    → ((u : Rational) × Sees w t u × After c u × Upto d u) ↔ (After (place b) t × Upto (place e) t)
meets_between on w c d b e t room order first last lies = (seen, back)
  where
    far : Place
    far = high_place w.high w.high_in t

    by_low : (low : Option ℤ) (u : Rational) → IfSome low (λ k. Precedes w.low_in (add t (whole k)) u) → Upto d u
        → MatchOption low (e ≡ on.to) (λ k. Same (place e) (moved_end (neg_ℤ k) w.low_in d)) → Upto (place e) t
    by_low None u h k s = subst (λ p. Upto (place p) t) (sym s) lies.1
    by_low (Some k) u h j s = upto_same (moved_end (neg_ℤ k) w.low_in d) (place e) t (same_places s)
        ((begins_before k w.low_in d t).1 (before_through (low_place k w.low_in t) d u (after_low w.low_in k t u h) j))

    seen : ((u : Rational) × Sees w t u × After c u × Upto d u) → After (place b) t × Upto (place e) t
    seen (u, s, a, k) = (
      after_same (moved_begin (neg_ℤ w.high) w.high_in c) (place b) t (same_places first)
          ((ends_past w.high w.high_in c t).1 (before_through c far u a s.ends)),
      by_low w.low u s.begins k last,
    )

    to_far : Before d far ⊎ (((u : Rational) → Upto far u → Upto d u))
    to_far = elim (place_order d far) [
      | inl x ↦ inl x
      | inr o ↦ elim o [ inl s ↦ inr (λ u h. upto_same far d u (same_places s) h) | inr x ↦ inr (λ u h. upto_of_before far d u x h) ]
    ]

    open_low : Before c far → Before d far ⊎ (((u : Rational) → Upto far u → Upto d u)) → (u : Rational) × After c u × Upto d u × Upto far u
    open_low high (inl x) = let m = between c d order in (m.0, m.1, m.2, upto_of_before d far m.0 x m.2)
    open_low high (inr f) = let m = between c far high in (m.0, m.1, f m.0 m.2, m.2)

    found : (low : Option ℤ)
        → ((u : Rational) → IfSome low (λ k. Precedes w.low_in (add t (whole k)) u) → IfSome w.low (λ k. Precedes w.low_in (add t (whole k)) u))
        → IfSome low (λ k. (k <ℤ w.high) ⊎ ((k ≡ w.high) × IsTrue w.low_in × IsTrue w.high_in))
        → MatchOption low (e ≡ on.to) (λ k. Same (place e) (moved_end (neg_ℤ k) w.low_in d)) → Before c far → Upto (place e) t
        → (u : Rational) × Sees w t u × After c u × Upto d u
    found None f r s high k = let m = open_low high to_far in (m.0, record { begins = f m.0 tt; ends = m.3 }, m.1, m.2)
    found (Some j) f r s high k =
        let low = (begins_before j w.low_in d t).0 (upto_same (place e) (moved_end (neg_ℤ j) w.low_in d) t s k) in
        let m = share c d (low_place j w.low_in t) far order (room_in j w.high w.low_in w.high_in t r) high low in
        (m.0, record { begins = f m.0 (low_after w.low_in j t m.0 m.3); ends = m.4 }, m.1, m.2)

    back : After (place b) t × Upto (place e) t → (u : Rational) × Sees w t u × After c u × Upto d u
    back (a, k) = found w.low (λ u h. h) room last
        ((ends_past w.high w.high_in c t).0 (after_same (place b) (moved_begin (neg_ℤ w.high) w.high_in c) t first a)) k

-- with no time in the window nothing is seen
pub sees_none : (w : Window) (t u : Rational) → ¬ (HasRoom w) → Sees w t u → ⊥
sees_none w t u tight s = by_low w.low tight s.begins
  where
    by_order : (k : ℤ) → Before (low_place k w.low_in t) (high_place w.high w.high_in t) → (k <ℤ w.high) ⊎ ((k ≡ w.high) × IsTrue w.low_in × IsTrue w.high_in)
    by_order k b = room_out k w.high w.low_in w.high_in t b

    by_low : (low : Option ℤ) → ¬ (IfSome low (λ k. (k <ℤ w.high) ⊎ ((k ≡ w.high) × IsTrue w.low_in × IsTrue w.high_in)))
        → IfSome low (λ k. Precedes w.low_in (add t (whole k)) u) → ⊥
    by_low None n h = n tt
    by_low (Some k) n h = n (by_order k (before_through (low_place k w.low_in t) (high_place w.high w.high_in t) u (after_low w.low_in k t u h) s.ends))
