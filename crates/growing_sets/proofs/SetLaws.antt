-- A set that told what its kind tells of its inputs does so after what they gained was added.
use Rattle.std.proofs.Common.{◌⊎◌, inl, inr, refl, subst, Option, Some, None, ℤ, List, [], ◌∷◌}
use Rattle.std.specs.Prelude.{IfSome, MatchOption}
use Rattle.rational.specs.Time.{Rational, ◌≤ʳ◌}
use Rattle.rational.specs.Places.{Place, After, Upto, Before}
use Rattle.frac128.specs.Cuts.{place}
use Rattle.growing_sets.specs.Spans.{Lies, IsOn, IsAmong, AreTidy, Grows}
use Rattle.growing_sets.specs.Windows.{Sees, SeesPart, IsHeld}
use Rattle.time_sets.specs.Parts.{low_place, high_place}
use Rattle.growing_sets.specs.Steps.{BySome, HoldsFrom, Common, HeldAt, SeesOnly, SeesOne, Tells, Gains}
use Rattle.growing_sets.specs.declared.stretch.Stretch.{Stretch}
use Rattle.growing_sets.specs.declared.window.Window.{Window}
use Rattle.rational.proofs.PlaceLemmas.{before_through, at_most_of_not_before, after_at_most, le_through, upto_earlier}
use Rattle.rational.proofs.PlaceLemmas.{after_later}
use Rattle.growing_sets.proofs.RunLemmas.{later_before, gap_before, gap_after, one_of, on_one, holds_all}
use Rattle.growing_sets.proofs.RunLemmas.{decided, decided_both, decided_either, decided_not, decided_among}

-- what some stretch of a list gives, one of them gives
pub some_by : (Q : Stretch → Rational → Type 0) (xs : List Stretch) (t : Rational) → BySome Q xs t → (s : Stretch) × IsAmong s xs × Q s t
some_by Q [] t h = absurd h
some_by Q (x ∷ xs) t (inl q) = (x, inl refl, q)
some_by Q (x ∷ xs) t (inr h) = let r = some_by Q xs t h in (r.0, inr r.1, r.2)

-- what one of the stretches says some stretch says
pub by_some : (Q : Stretch → Rational → Type 0) (xs : List Stretch) (s : Stretch) (t : Rational) → IsAmong s xs → Q s t → BySome Q xs t
by_some Q [] s t m q = absurd m
by_some Q (x ∷ xs) s t (inl e) q = inl (subst (λ r. Q r t) e q)
by_some Q (x ∷ xs) s t (inr m) q = inr (by_some Q xs s t m q)

module _ {bounds : Stretch} {old new told fresh : List Stretch} {x x' fx y y' fy : List Stretch} (gx : Gains x x' fx) (gy : Gains y y' fy) where
  -- either of two sets
  pub either_tells : Tells bounds old (λ t. IsOn x t ⊎ IsOn y t) → Grows bounds old new told fresh (λ t. BySome Lies fx t ⊎ BySome Lies fy t)
      → Tells bounds new (λ t. IsOn x' t ⊎ IsOn y' t)
  either_tells h g = record {
    has = λ t b e. elim e [
      | inl a ↦ elim (gx.gained t a) [
        | inl k ↦ g.keeps t (h.has t b (inl k))
        | inr k ↦ let o = one_of fx t k in g.adds t b (inl (by_some Lies fx o.0 t o.1 o.2))
      ]
      | inr a ↦ elim (gy.gained t a) [
        | inl k ↦ g.keeps t (h.has t b (inr k))
        | inr k ↦ let o = one_of fy t k in g.adds t b (inr (by_some Lies fy o.0 t o.1 o.2))
      ]
    ];
    only = λ t n. elim (g.only t n) [
      | inl o ↦ let k = h.only t o in (k.0, elim k.1 [ inl a ↦ inl (gx.kept t a) | inr a ↦ inr (gy.kept t a) ])
      | inr (b, inl k) ↦ let s = some_by Lies fx t k in (b, inl (gx.own t (on_one fx s.0 t s.1 s.2)))
      | inr (b, inr k) ↦ let s = some_by Lies fy t k in (b, inr (gy.own t (on_one fy s.0 t s.1 s.2)))
    ];
  }

  -- both of them
  pub both_tells : Tells bounds old (λ t. IsOn x t × IsOn y t) → Grows bounds old new told fresh (λ t. BySome (Common y') fx t ⊎ BySome (Common x') fy t)
      → Tells bounds new (λ t. IsOn x' t × IsOn y' t)
  both_tells h g = record {
    has = λ t b e. elim (gx.gained t e.0) [
      | inl k ↦ elim (gy.gained t e.1) [
        | inl l ↦ g.keeps t (h.has t b (k, l))
        | inr l ↦ let o = one_of fy t l in g.adds t b (inr (by_some (Common x') fy o.0 t o.1 (o.2, e.0)))
      ]
      | inr k ↦ let o = one_of fx t k in g.adds t b (inl (by_some (Common y') fx o.0 t o.1 (o.2, e.1)))
    ];
    only = λ t n. elim (g.only t n) [
      | inl o ↦ let k = h.only t o in (k.0, (gx.kept t k.1.0, gy.kept t k.1.1))
      | inr (b, inl k) ↦ let s = some_by (Common y') fx t k in (b, (gx.own t (on_one fx s.0 t s.1 s.2.0), s.2.1))
      | inr (b, inr k) ↦ let s = some_by (Common x') fy t k in (b, (s.2.1, gy.own t (on_one fy s.0 t s.1 s.2.0)))
    ];
  }

-- a set as it is
pub same_tells : {bounds : Stretch} {old new told fresh x x' fx : List Stretch} → Gains x x' fx → Tells bounds old (IsOn x)
    → Grows bounds old new told fresh (BySome Lies fx) → Tells bounds new (IsOn x')
same_tells {fx = fx} gx h g = record {
  has = λ t b o. elim (gx.gained t o) [
    | inl k ↦ g.keeps t (h.has t b k)
    | inr k ↦ let p = one_of fx t k in g.adds t b (by_some Lies fx p.0 t p.1 p.2)
  ];
  only = λ t n. elim (g.only t n) [
    | inl o ↦ let k = h.only t o in (k.0, gx.kept t k.1)
    | inr k ↦ let s = some_by Lies fx t k.1 in (k.0, gx.own t (on_one fx s.0 t s.1 s.2))
  ];
}

module _ (w : Window) {bounds : Stretch} {old new told fresh x x' fx : List Stretch} (gx : Gains x x' fx) where
  -- some time of the window
  pub some_tells : Tells bounds old (SeesOne w x) → Grows bounds old new told fresh (BySome (SeesPart w) fx) → Tells bounds new (SeesOne w x')
  some_tells h g = record {
    has = λ t b s. elim (gx.gained s.0 s.1) [
      | inl k ↦ g.keeps t (h.has t b (s.0, k, s.2))
      | inr k ↦ let o = one_of fx s.0 k in g.adds t b (by_some (SeesPart w) fx o.0 t o.1 (s.0, o.2, s.2))
    ];
    only = λ t n. elim (g.only t n) [
      | inl o ↦ let k = h.only t o in (k.0, (k.1.0, gx.kept k.1.0 k.1.1, k.1.2))
      | inr k ↦ let s = some_by (SeesPart w) fx t k.1 in (k.0, (s.2.0, gx.own s.2.0 (on_one fx s.0 s.2.0 s.1 s.2.1), s.2.2))
    ];
  }

-- whether a stretch holds the times just after a place is decided
pub decided_from : (p : Stretch) (c : Place) → HoldsFrom p c ⊎ ¬ (HoldsFrom p c)
decided_from p c = decided_both (¬ (Before c (place p.from))) (Before c (place p.to)) (decided_not (Before c (place p.from)) (decided c (place p.from)))
    (decided c (place p.to))

-- what a tidy list holds
module _ (w : Window) (xs : List Stretch) (start : Place) (tidy : AreTidy xs) where
  -- a stretch that holds the window holds its times
  pub held_sees : (p : Stretch) (t : Rational) → IsAmong p xs → IsHeld w start p t → SeesOnly w start xs t
  held_sees p t m h u a s = on_one xs p u m (by_begin h.0, at_most_of_not_before (high_place w.high w.high_in t) (place p.to) h.1 u s.ends)
    where
      by_low : (low : Option ℤ) → MatchOption low ⊥ (λ k. ¬ (Before (low_place k w.low_in t) (place p.from)))
          → IfSome low (λ k. After (low_place k w.low_in t) u) → After (place p.from) u
      by_low None n b = absurd n
      by_low (Some k) n b = after_at_most (place p.from) (low_place k w.low_in t) u (at_most_of_not_before (place p.from) (low_place k w.low_in t) n) b

      by_begin : ¬ (Before start (place p.from)) ⊎ MatchOption w.low ⊥ (λ k. ¬ (Before (low_place k w.low_in t) (place p.from))) → After (place p.from) u
      by_begin (inl n) = after_at_most (place p.from) start u (at_most_of_not_before (place p.from) start n) a
      by_begin (inr n) = by_low w.low n s.begins

  -- and where the list holds a window that has a time, the stretch of that time holds the window
  pub sees_held : (p : Stretch) (t u : Rational) → IsAmong p xs → Lies p u → After start u → Sees w t u → SeesOnly w start xs t → IsHeld w start p t
  sees_held p t u m l a s all = (by_start (decided start (place p.from)), at_end)
    where
      at_end : ¬ (Before (place p.to) (high_place w.high w.high_in t))
      at_end b =
          let g = gap_after xs p (high_place w.high w.high_in t) tidy m b in
          let later = le_through (place p.to) u g.0 l.1 g.1 in
          g.3 (all g.0 (after_later start u g.0 later a) (record { begins = by_low w.low g.0 later s.begins; ends = g.2 }))
        where
          by_low : (low : Option ℤ) (v : Rational) → u ≤ʳ v → IfSome low (λ k. After (low_place k w.low_in t) u)
              → IfSome low (λ k. After (low_place k w.low_in t) v)
          by_low None v q b = tt
          by_low (Some k) v q b = after_later (low_place k w.low_in t) u v q b

      -- a time before the stretch that lies in the window is one too many
      missed : (v : Rational) → After start v → Upto (place p.from) v → ¬ (IsOn xs v) → IfSome w.low (λ k. After (low_place k w.low_in t) v) → ⊥
      missed v b r n f =
          n (all v b (record { begins = f; ends = upto_earlier (high_place w.high w.high_in t) v u (le_through (place p.from) v u r l.0) s.ends }))

      by_low : (low : Option ℤ) → ((v : Rational) → IfSome low (λ k. After (low_place k w.low_in t) v) → IfSome w.low (λ k. After (low_place k w.low_in t) v))
          → Before start (place p.from) → MatchOption low ⊥ (λ k. ¬ (Before (low_place k w.low_in t) (place p.from)))
      by_low None f b = let g = gap_before xs p start tidy m b in missed g.0 g.1 g.2 g.3 (f g.0 tt)
      by_low (Some k) f b = λ q.
          let n = later_before start (low_place k w.low_in t) (place p.from) b q in
          let g = gap_before xs p n.0 tidy m n.1 in
          missed g.0 (n.2 g.0 g.1).0 g.2 g.3 (f g.0 (n.2 g.0 g.1).1)

      by_start : Before start (place p.from) ⊎ ¬ (Before start (place p.from))
          → ¬ (Before start (place p.from)) ⊎ MatchOption w.low ⊥ (λ k. ¬ (Before (low_place k w.low_in t) (place p.from)))
      by_start (inr n) = inl n
      by_start (inl b) = inr (by_low w.low (λ v h. h) b)

  decided_low : (low : Option ℤ) (t : Rational) (c : Place) → MatchOption low ⊥ (λ k. ¬ (Before (low_place k w.low_in t) c))
      ⊎ ¬ (MatchOption low ⊥ (λ k. ¬ (Before (low_place k w.low_in t) c)))
  decided_low None t c = inr (λ h. h)
  decided_low (Some k) t c = decided_not (Before (low_place k w.low_in t) c) (decided (low_place k w.low_in t) c)

  decided_held : (p : Stretch) (t : Rational) → IsHeld w start p t ⊎ ¬ (IsHeld w start p t)
  decided_held p t =
      decided_both (¬ (Before start (place p.from)) ⊎ MatchOption w.low ⊥ (λ k. ¬ (Before (low_place k w.low_in t) (place p.from))))
      (¬ (Before (place p.to) (high_place w.high w.high_in t)))
      (decided_either (¬ (Before start (place p.from))) (MatchOption w.low ⊥ (λ k. ¬ (Before (low_place k w.low_in t) (place p.from))))
      (decided_not (Before start (place p.from)) (decided start (place p.from))) (decided_low w.low t (place p.from)))
      (decided_not (Before (place p.to) (high_place w.high w.high_in t)) (decided (place p.to) (high_place w.high w.high_in t)))

  -- whether a part was held at a time is decided
  pub decided_at : (part : Stretch) (t : Rational) → HeldAt w start xs part t ⊎ ¬ (HeldAt w start xs part t)
  decided_at part t =
      elim (decided_among (λ p. HoldsFrom p (place part.from) × IsHeld w start p t)
      (λ p. decided_both (HoldsFrom p (place part.from)) (IsHeld w start p t) (decided_from p (place part.from)) (decided_held p t)) xs) [
        | inl h ↦ inl (h.0, h.1, h.2.0, h.2.1)
        | inr n ↦ inr (λ h. n (h.0, h.1, (h.2, h.3)))
      ]

  -- a time of the window that the list gained lies in a part that it gained, whose first times a stretch holds that holds the window
  pub found : (fx : List Stretch) → ((v : Rational) → IsOn fx v → IsOn xs v) → (t u : Rational) → After start u → Sees w t u → SeesOnly w start xs t
      → IsOn fx u → (part : Stretch) × IsAmong part fx × HeldAt w start xs part t
  found fx own t u a s all k =
      let f = one_of fx u k in
      let p = one_of xs u (own u k) in (
        f.0,
        f.1,
        (
          p.0,
          p.1,
          (
            holds_all xs f.0 p.0 u tidy (λ v l. own v (on_one fx f.0 v f.1 l)) p.1 p.2 f.2,
            before_through (place (f.0).from) (place (p.0).to) u f.2.0 p.2.1,
          ),
          sees_held p.0 t u p.1 p.2 a s all,
        ),
      )

module _ (w : Window) {bounds : Stretch} {old new told fresh x x' fx : List Stretch} (gx : Gains x x' fx) (start : Place) (tidy : AreTidy x') where
  -- each time of the window
  pub each_tells : Tells bounds old (SeesOnly w start x) → Grows bounds old new told fresh (BySome (HeldAt w start x') fx)
      → Tells bounds new (SeesOnly w start x')
  each_tells h g = record {
    has = λ t b s. by_gained t b s (decided_among (λ part. HeldAt w start x' part t) (λ part. decided_at w x' start tidy part t) fx);
    only = λ t n. elim (g.only t n) [
      | inl o ↦ let k = h.only t o in (k.0, λ u a s. gx.kept u (k.1 u a s))
      | inr k ↦ let s = some_by (HeldAt w start x') fx t k.1 in (k.0, held_sees w x' start tidy s.2.0 t s.2.1 s.2.3)
    ];
  }
    where
      by_gained : (t : Rational) → Lies bounds t → SeesOnly w start x' t → ((part : Stretch) × IsAmong part fx × HeldAt w start x' part t)
          ⊎ ¬ ((part : Stretch) × IsAmong part fx × HeldAt w start x' part t) → IsOn new t
      by_gained t b s (inl k) = g.adds t b (by_some (HeldAt w start x') fx k.0 t k.1 k.2)
      by_gained t b s (inr n) = g.keeps t (h.has t b (λ u a v. elim (gx.gained u (s u a v)) [
        | inl k ↦ k
        | inr k ↦ absurd (n (found w x' start tidy fx gx.own t u a v s k))
      ]))
