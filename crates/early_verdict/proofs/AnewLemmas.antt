-- Times from which a since without a bound begins anew, and the times that see one of a list so far before them.
use Rattle.std.proofs.Common.{◌≡◌, ◌≢◌, inl, inr, refl, subst, ℕ, zero, suc, Bool, true, false, ◌||◌, Some, List, [], ◌∷◌, pos, arith}
use Rattle.std.specs.Prelude.{MatchBool, slice_get, ◌↔◌}
use Rattle.std.proofs.lemmas.Option.{same_Some}
use Rattle.rational.specs.Rational.{Rational, add, whole, ◌≤ʳ◌, ◌<ʳ◌}
use Rattle.rational.specs.Time.{later}
use Rattle.rational.proofs.Order.{ge_of_same, le_of_lt, le_of_same, le_refl, le_trans, lt_of_le_of_lt, lt_of_lt_of_le, same_of_le}
use Rattle.rational.proofs.Shift.{le_shift, lt_shift}
use Rattle.rational.proofs.TimeLemmas.{later-add}
use Rattle.rational.specs.Places.{Place, After, Before, Upto, moved_begin}
use Rattle.frac128.specs.Cuts.{place, is_after}
use Rattle.growing_sets.specs.Spans.{AreTidy, IsAmong, IsOn, Lies}
use Rattle.growing_sets.specs.Reaching.{IsLastEnd}
use Rattle.growing_sets.specs.declared.stretch.Stretch.{Stretch}
use Rattle.growing_sets.proofs.Gaps.{on_same}
use Rattle.rational.proofs.PlaceLemmas.{after_of_before, between, sides, le_through, upto_earlier, after_later}
use Rattle.growing_sets.proofs.RunLemmas.{on_one}
use Rattle.early_verdict.proofs.SinceSets.{before_end, less_by, to_end}
use Rattle.growing_sets.proofs.SpanLemmas.{rest_after}
use Rattle.growing_sets.proofs.StretchLemmas.{rises}

-- what ends just after a time has that time
pub at_last : (xs : List Stretch) (part : Stretch) (c : Place) → IsLastEnd xs part c → c.after ≡ true → IsOn xs c.at × Lies part c.at
at_last xs part c h e =
    let r = h.reached c.at (upto_self c.after e) in
    let u = r.0 in
    let k = upto_at c.after u e (h.bounds u r.2.0 r.2.1) in (
      on_same xs u c.at (same_of_le k r.1) r.2.1,
      (after_later (place part.from) u c.at k r.2.0.0, upto_earlier (place part.to) c.at u r.1 r.2.0.1),
    )
  where
    upto_self : (b : Bool) → b ≡ true → MatchBool b (c.at ≤ʳ c.at) (c.at <ʳ c.at)
    upto_self true f = le_refl c.at
    upto_self false f = absurd (let g : false ≡ true = f in cc)

    upto_at : (b : Bool) (u : Rational) → b ≡ true → MatchBool b (u ≤ʳ c.at) (u <ʳ c.at) → u ≤ʳ c.at
    upto_at true u f h = h
    upto_at false u f h = absurd (let g : false ≡ true = f in cc)

-- before a time lies one after an earlier place
pub time_before : (c : Place) (d : Rational) → Before c (record { at = d; after = false }) → (m : Rational) × After c m × (m <ʳ d)
time_before c d b = let m = between c (record { at = d; after = false }) b in (m.0, m.1, m.2)

-- such a time lies after that place itself
pub after_earlier : (c : Place) (d : Rational) → Before c (record { at = d; after = false }) → After c d
after_earlier c d b = let m = time_before c d b in after_later c m.0 d (le_of_lt m.2) m.1

-- what lies after a place that was moved on lies, so much less, after the place; and back
pub moved_after : (c : Place) (a : ℕ) (t : Rational) → After (moved_begin (pos a) true c) t → After c (less_by t a)
moved_after c a t = by_side c.after
  where
    by_side : (b : Bool) → MatchBool (b || false) (add c.at (whole (pos a)) <ʳ t) (add c.at (whole (pos a)) ≤ʳ t)
        → MatchBool b (c.at <ʳ less_by t a) (c.at ≤ʳ less_by t a)
    by_side true h = let l = lt_of_le_of_lt (le_of_same (later-add c.at a)) h in record { lt = omega (arith, l.lt) }
    by_side false h = before_end t c.at a (le_trans (le_of_same (later-add c.at a)) h)

-- and what sees a time after the place, so much before it, lies after the place that was moved on
pub after_moved : (c : Place) (a : ℕ) (t u : Rational) → After c u → later u a ≤ʳ t → After (moved_begin (pos a) true c) t
after_moved c a t u h m = by_side c.after h
  where
    end : add u (whole (pos a)) ≤ʳ t
    end = le_trans (ge_of_same (later-add u a)) m

    by_side : (b : Bool) → MatchBool b (c.at <ʳ u) (c.at ≤ʳ u)
        → MatchBool (b || false) (add c.at (whole (pos a)) <ʳ t) (add c.at (whole (pos a)) ≤ʳ t)
    by_side true h = lt_of_lt_of_le (lt_shift (pos a) h) end
    by_side false h = le_trans (le_shift (pos a) h) end

-- so far after the place where a stretch of the list begins each time sees one of the list
pub sees_one : (xs : List Stretch) (s : Stretch) (a : ℕ) (t : Rational) → IsAmong s xs → After (moved_begin (pos a) true (place s.from)) t
    → (u : Rational) × IsOn xs u × (later u a ≤ʳ t)
sees_one xs s a t i h = elim (sides (place s.to) (less_by t a)) [
  | inl k ↦ (less_by t a, on_one xs s (less_by t a) i (moved_after (place s.from) a t h, k), to_end t (less_by t a) a (le_refl (less_by t a)))
  | inr k ↦
      let m = between (place s.from) (place s.to) (rises s) in
      (m.0, on_one xs s m.0 i (m.1, m.2), to_end t m.0 a (le_through (place s.to) m.0 (less_by t a) m.2 k))
]

-- all times of a list lie after the place where its first stretch begins
pub first_begins : (xs : List Stretch) (s : Stretch) (u : Rational) → AreTidy xs → slice_get xs 0 ≡ Some s → IsOn xs u → After (place s.from) u
first_begins [] s u h e o = absurd o
first_begins (x ∷ xs) s u h e o = subst (λ (z : Stretch). After (place z.from) u) (same_Some x s e) (elim o [
  | inl l ↦ l.0
  | inr m ↦ after_of_before (place x.from) (place x.to) u (rises x) (rest_after (place x.to) xs u h.1 h.0 m)
])

-- what lies after the place where what two stretches share begins, and in the one, lies after the place where the other begins
pub after_shared : (s b : Stretch) (c : Place) (t : Rational)
    → ((v : Rational) → Lies s v ↔ (After c v × Upto (place b.to) v × Lies b v)) → After (place s.from) t
    → After c t
after_shared s b c t is h = elim (sides (place s.to) t) [
  | inl k ↦ ((is t).0 (h, k)).0
  | inr k ↦
      let m = between (place s.from) (place s.to) (rises s) in
      after_later c m.0 t (le_through (place s.to) m.0 t m.2 k) ((is m.0).0 (m.1, m.2)).0
]

-- a side that is not 0 lies after the time
pub on_right : (n : ℕ) → n ≢ 0 → is_after n ≡ true
on_right zero h = absurd (h refl)
on_right (suc n) h = refl
