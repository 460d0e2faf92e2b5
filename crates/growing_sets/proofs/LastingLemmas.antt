-- Sets of the times all of whose window a set has: at their first entry, and where no row follows.
use Rattle.std.proofs.Common.{◌≡◌, ◌⊎◌, inl, inr, subst, ℕ, zero, suc, ℤ, Option, Some, None, List, [], ◌∷◌, take, drop}
use Rattle.std.specs.Prelude.{IfSome, MatchOption}
use Rattle.rational.specs.Rational.{Rational}
use Rattle.rational.specs.Places.{Place, After, Upto, Before}
use Rattle.frac128.specs.Cuts.{place}
use Rattle.growing_sets.specs.Spans.{IsOn, AreTidy, BeginsAfter, EndBefore, Grows}
use Rattle.growing_sets.specs.Windows.{Sees}
use Rattle.time_sets.specs.Parts.{low_place, high_place}
use Rattle.growing_sets.specs.Steps.{BySome, HeldAt, SeesOnly, Tells, Gains}
use Rattle.growing_sets.specs.Lasting.{SeesNone, SeesOnlyBy, BeginsFrom, IsRunTo}
use Rattle.growing_sets.specs.declared.stretch.Stretch.{Stretch}
use Rattle.growing_sets.specs.declared.window.Window.{Window}
use Rattle.rational.proofs.PlaceLemmas.{sides, not_both, between, before_through, at_most_of_not_before, after_at_most}
use Rattle.rational.proofs.PlaceLemmas.{le_through, upto_earlier}
use Rattle.growing_sets.proofs.SpanLemmas.{rest_after}
use Rattle.growing_sets.proofs.RunLemmas.{later_before, decided, decided_either, decided_not}
use Rattle.growing_sets.proofs.SetLaws.{some_by, by_some, held_sees, found}

-- a window that has a time from everywhere, and ends behind the start, has a time from the start on
pub seen_from : (w : Window) (start : Place) (t : Rational) → IfSome w.low (λ k. Before (low_place k w.low_in t) (high_place w.high w.high_in t))
    → Before start (high_place w.high w.high_in t) → (u : Rational) × After start u × Sees w t u
seen_from w start t room b = by_low w.low room (λ u h. h)
  where
    far : Place
    far = high_place w.high w.high_in t

    by_low : (low : Option ℤ) → IfSome low (λ k. Before (low_place k w.low_in t) far)
        → ((u : Rational) → IfSome low (λ k. After (low_place k w.low_in t) u) → IfSome w.low (λ k. After (low_place k w.low_in t) u))
        → (u : Rational) × After start u × Sees w t u
    by_low None r f = let u = between start far b in (u.0, u.1, record { begins = f u.0 tt; ends = u.2 })
    by_low (Some k) r f =
        let m = later_before start (low_place k w.low_in t) far b r in
        let u = between m.0 far m.1 in
        let i = m.2 u.0 u.1 in
        (u.0, i.0, record { begins = f u.0 i.1; ends = u.2 })

-- a window has a time from the start on, or none
pub none_or_one : (w : Window) (start : Place) (t : Rational) → SeesNone w start t ⊎ ((u : Rational) × After start u × Sees w t u)
none_or_one w start t = elim (decided start far) [
  | inr n ↦ inl (λ u a s. n (before_through start far u a s.ends))
  | inl b ↦ by_low b w.low (λ h. seen_from w start t h b) (λ u h. h)
]
  where
    far : Place
    far = high_place w.high w.high_in t

    by_low : Before start far → (low : Option ℤ)
        → (IfSome low (λ k. Before (low_place k w.low_in t) far) → (u : Rational) × After start u × Sees w t u)
        → ((u : Rational) → IfSome w.low (λ k. After (low_place k w.low_in t) u) → IfSome low (λ k. After (low_place k w.low_in t) u))
        → SeesNone w start t ⊎ ((u : Rational) × After start u × Sees w t u)
    by_low b None f g = inr (f tt)
    by_low b (Some k) f g = elim (decided (low_place k w.low_in t) far) [
      | inl c ↦ inr (f c)
      | inr n ↦ inl (λ u a s. n (before_through (low_place k w.low_in t) far u (g u s.begins) s.ends))
    ]

-- what the first entry adds
abbrev pub BeginsAll : Window → Place → List Stretch → List Stretch → Rational → Type 0
BeginsAll w start spans fresh t = SeesNone w start t ⊎ BySome (HeldAt w start spans) fresh t

-- at the first row the set has the times all of whose window the other has
pub first_tells : {bounds : Stretch} {old new told fresh x fx : List Stretch} (w : Window) (start : Place) → AreTidy x → old ≡ [] → Gains [] x fx
    → Grows bounds old new told fresh (BeginsAll w start x fx) → Tells bounds new (SeesOnly w start x)
first_tells {x = x} {fx = fx} w start tidy none gx g = record {
  has = λ t b s. elim (none_or_one w start t) [
    | inl n ↦ g.adds t b (inl n)
    | inr o ↦ elim (gx.gained o.0 (s o.0 o.1 o.2)) [
      | inl k ↦ absurd k
      | inr k ↦
          let p = found w x start tidy fx gx.own t o.0 o.1 o.2 s k in
          g.adds t b (inr (by_some (HeldAt w start x) fx p.0 t p.1 p.2))
    ]
  ];
  only = λ t n. elim (g.only t n) [
    | inl o ↦ absurd (subst (λ xs. IsOn xs t) none o)
    | inr q ↦ (
      q.0,
      elim q.1 [
        | inl k ↦ λ u a s. absurd (k u a s)
        | inr k ↦ let s = some_by (HeldAt w start x) fx t k in held_sees w x start tidy s.2.0 t s.2.1 s.2.3
      ],
    )
  ];
}

-- before a place that no stretch of the list holds or ends at there is a gap
pub gap_at : (xs : List Stretch) (at : ℕ) (c d : Place) → AreTidy xs → EndBefore d (take at xs) → BeginsAfter d (drop at xs) → Before c d
    → (v : Rational) × After c v × Upto d v × ¬ (IsOn xs v)
gap_at xs zero c d h f b l =
    let t = between c d l in (t.0, t.1, t.2, λ o. not_both d t.0 t.2 (rest_after d xs t.0 h b o))
gap_at [] (suc at) c d h f b l = let t = between c d l in (t.0, t.1, t.2, λ o. o)
gap_at (x ∷ xs) (suc at) c d h f b l =
    let k = later_before c (place x.to) d l f.0 in
    let g = gap_at xs at k.0 d h.1 f.1 b k.1 in
    let i = k.2 g.0 g.1 in (
      g.0,
      i.0,
      g.2,
      λ o. elim o [ inl p ↦ not_both (place x.to) g.0 p.1 i.1 | inr r ↦ g.3 r ],
    )

module _ (w : Window) (start from : Place) where
  decided_begin : (t : Rational) → BeginsFrom w start from t ⊎ ¬ (BeginsFrom w start from t)
  decided_begin t =
      decided_either (¬ (Before start from)) (MatchOption w.low ⊥ (λ k. ¬ (Before (low_place k w.low_in t) from)))
      (decided_not (Before start from) (decided start from)) (by_low w.low)
    where
      by_low : (low : Option ℤ) → MatchOption low ⊥ (λ k. ¬ (Before (low_place k w.low_in t) from))
          ⊎ ¬ (MatchOption low ⊥ (λ k. ¬ (Before (low_place k w.low_in t) from)))
      by_low None = inr (λ h. h)
      by_low (Some k) = decided_not (Before (low_place k w.low_in t) from) (decided (low_place k w.low_in t) from)

  -- what such a window sees from the start on lies behind the place
  begins_from : (t u : Rational) → BeginsFrom w start from t → After start u → Sees w t u → After from u
  begins_from t u (inl n) a s = after_at_most from start u (at_most_of_not_before from start n) a
  begins_from t u (inr n) a s = by_low w.low n s.begins
    where
      by_low : (low : Option ℤ) → MatchOption low ⊥ (λ k. ¬ (Before (low_place k w.low_in t) from))
          → IfSome low (λ k. After (low_place k w.low_in t) u) → After from u
      by_low None n b = absurd n
      by_low (Some k) n b = after_at_most from (low_place k w.low_in t) u (at_most_of_not_before from (low_place k w.low_in t) n) b

  -- and another one begins before it
  begins_before : (t : Rational) → ¬ (BeginsFrom w start from t)
      → (c : Place) × Before c from × ((v : Rational) → After c v → After start v × IfSome w.low (λ k. After (low_place k w.low_in t) v))
  begins_before t n = elim (decided start from) [
    | inr m ↦ absurd (n (inl m))
    | inl b ↦ by_low b w.low (λ m. n (inr m)) (λ v h. h)
  ]
    where
      by_low : Before start from → (low : Option ℤ) → ¬ (MatchOption low ⊥ (λ k. ¬ (Before (low_place k w.low_in t) from)))
          → ((v : Rational) → IfSome low (λ k. After (low_place k w.low_in t) v) → IfSome w.low (λ k. After (low_place k w.low_in t) v))
          → (c : Place) × Before c from × ((v : Rational) → After c v → After start v × IfSome w.low (λ k. After (low_place k w.low_in t) v))
      by_low b None m f = (start, b, λ v a. (a, f v tt))
      by_low b (Some k) m f = elim (decided (low_place k w.low_in t) from) [
        | inr q ↦ absurd (m q)
        | inl c ↦
            let r = later_before start (low_place k w.low_in t) from b c in
            (r.0, r.1, λ v a. let i = r.2 v a in (i.0, f v i.1))
      ]

-- what the last entry adds beside what the set gained
pub last_tells : {bounds : Stretch} {old new told fresh x : List Stretch} (w : Window) (start last from : Place) → IsRunTo x last from
    → Tells bounds old (SeesOnly w start x) → Grows bounds old new told fresh (BeginsFrom w start from) → Tells bounds new (SeesOnlyBy w start last x)
last_tells {x = x} w start last from run h g = record {
  has = λ t b s. elim (decided_begin w start from t) [
    | inl k ↦ g.adds t b k
    | inr n ↦ g.keeps t (h.has t b (all t s n))
  ];
  only = λ t n. elim (g.only t n) [
    | inl o ↦ let q = h.only t o in (q.0, λ u a l s. q.1 u a s)
    | inr q ↦ (q.0, λ u a l s. run.holds u (begins_from w start from t u q.1 a s) l)
  ];
}
  where
    -- a window that begins before the run, whose times up to the last the set has, ends in the gap before the run
    all : (t : Rational) → SeesOnlyBy w start last x t → ¬ (BeginsFrom w start from t) → SeesOnly w start x t
    all t s n =
        let c = begins_before w start from t n in
        let v = run.gap c.0 c.1 in
        let i = c.2 v.0 v.1 in
        let before = run.at_most v.0 v.2 in
        elim (sides (high_place w.high w.high_in t) v.0) [
          | inl k ↦ absurd (v.3 (s v.0 i.0 before (record { begins = i.1; ends = k })))
          | inr k ↦ λ u a e. s u a (upto_earlier last u v.0 (le_through (high_place w.high w.high_in t) u v.0 e.ends k) before) e
        ]
