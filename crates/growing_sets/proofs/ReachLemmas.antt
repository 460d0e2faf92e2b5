-- Sets of times from which a run reaches another set go on to tell so.
use Rattle.std.proofs.Common.{◌⊎◌, inl, inr, Bool, true, false, List}
use Rattle.std.specs.Prelude.{◌↔◌, IsTrue}
use Rattle.rational.specs.Rational.{Rational, ◌≤ʳ◌}
use Rattle.rational.specs.Time.{Within}
use Rattle.rational.specs.Places.{Place, After, Upto, AtMost}
use Rattle.frac128.specs.Cuts.{place}
use Rattle.growing_sets.specs.Spans.{Lies, IsOn, IsAmong, AreTidy, Grows}
use Rattle.growing_sets.specs.Steps.{BySome, HoldsFrom, IsPast, Tells, Gains}
use Rattle.growing_sets.specs.Reaching.{IsNew, ReachesIn, ReachesAt, ReachesBy, ReachedIn, ReachedAt, GoesOn, GoesTo, GoesBack, GoesBackBy, IsCarried}
use Rattle.growing_sets.specs.declared.stretch.Stretch.{Stretch}
use Rattle.rational.proofs.Order.{le_refl}
use Rattle.rational.proofs.PlaceLemmas.{sides, not_both, between, before_through, after_of_before, at_most_of_not_before}
use Rattle.rational.proofs.PlaceLemmas.{after_at_most, le_through, upto_earlier, after_later}
use Rattle.growing_sets.proofs.StretchLemmas.{rises}
use Rattle.growing_sets.proofs.RunLemmas.{gap_before, gap_after, earlier_after, one_of, on_one, holds_all, decided_among}
use Rattle.growing_sets.proofs.TickLemmas.{before_time, after_time}
use Rattle.growing_sets.proofs.SetLaws.{some_by, by_some, decided_from}

-- a run that ends in a stretch of the list lies in it
pub run_into : (xs : List Stretch) (p : Stretch) (t u : Rational) → AreTidy xs → IsAmong p xs → Lies p u → t ≤ʳ u
    → ((v : Rational) → Within t u v → IsOn xs v) → Lies p t
run_into xs p t u tidy m l le run = (elim (sides (place p.from) t) [ inl k ↦ absurd (gap k) | inr k ↦ k ], upto_earlier (place p.to) t u le l.1)
  where
    gap : Upto (place p.from) t → ⊥
    gap k =
        let g = gap_before xs p (record { at = t; after = false }) tidy m (before_time (place p.from) t k) in
        g.3 (run g.0 (record { above = g.1; below = le_through (place p.from) g.0 u g.2 l.0 }))

-- and so does one that begins in it
pub run_from : (xs : List Stretch) (p : Stretch) (u t : Rational) → AreTidy xs → IsAmong p xs → Lies p u → u ≤ʳ t
    → ((v : Rational) → Within u t v → IsOn xs v) → Lies p t
run_from xs p u t tidy m l le run = (after_later (place p.from) u t le l.0, elim (sides (place p.to) t) [ inl k ↦ k | inr k ↦ absurd (gap k) ])
  where
    gap : After (place p.to) t → ⊥
    gap k =
        let g = gap_after xs p (record { at = t; after = true }) tidy m (after_time (place p.to) t k) in
        g.3 (run g.0 (record { above = le_through (place p.to) u g.0 l.1 g.1; below = g.2 }))

-- within a stretch there is no break
pub no_break : (xs : List Stretch) (p : Stretch) (t u v : Rational) → IsAmong p xs → Lies p t → Lies p u → Within t u v → IsOn xs v
no_break xs p t u v m l k w = on_one xs p v m (after_later (place p.from) t v w.above l.0, upto_earlier (place p.to) v u w.below k.1)

-- the stretch of a list that holds a time of a part, which lies in the list, holds the part's first times
pub holds_part : (xs : List Stretch) (p f : Stretch) (u : Rational) → AreTidy xs → ((t : Rational) → Lies f t → IsOn xs t) → IsAmong p xs → Lies p u → Lies f u
    → HoldsFrom p (place f.from)
holds_part xs p f u tidy all m l k = (holds_all xs f p u tidy all m l k, before_through (place f.from) (place p.to) u k.0 l.1)

-- a stretch holds the first times of what lies in another one between two places exactly where it holds the times from one on down
module _ (before sure : Place) (s part p : Stretch) (is : (t : Rational) → Lies part t ↔ IsNew before sure s t) where
  -- a run that comes to the part comes to a new time of it
  pub newly : HoldsFrom p (place part.from)
      → (w : Rational) × IsNew before sure s w × Lies p w × ((v : Rational) → IsNew before sure s v → v ≤ʳ w → Lies p v)
  newly h =
      let q = earlier_after (place part.to) (place p.to) (place part.from) (rises part) h.1 in
      let w = between (place part.from) q.0 q.1 in
      let k = q.2 w.0 w.2 in (
        w.0,
        (is w.0).0 (w.1, k.0),
        (begun w.0 w.1, k.1),
        λ v n le. (begun v ((is v).1 n).0, upto_earlier (place p.to) v w.0 le k.1),
      )
    where
      begun : (v : Rational) → After (place part.from) v → After (place p.from) v
      begun v a = after_at_most (place p.from) (place part.from) v (at_most_of_not_before (place p.from) (place part.from) h.0) a

  -- a run that has a new time, and all new ones before it, comes to the part
  pub from_newly : (w : Rational) → IsNew before sure s w → Lies p w → ((v : Rational) → IsNew before sure s v → v ≤ʳ w → Lies p v)
      → HoldsFrom p (place part.from)
  from_newly w n l all = (
    λ b.
        let v = between (place part.from) (place p.from) b in
        let le = le_through (place p.from) v.0 w v.2 l.0 in
        not_both (place p.from) v.0 v.2 (all v.0 ((is v.0).0 (v.1, upto_earlier (place part.to) v.0 w le ((is w).1 n).1)) le).0,
    before_through (place part.from) (place p.to) w ((is w).1 n).0 l.1,
  )

-- runs that are carried on from before a place: those times that the run has which holds the first ones after it
module _ (xs : List Stretch) (c : Place) (carried : Bool) (tidy : AreTidy xs) where
  -- a run that is carried comes to each time of a stretch that holds from the place
  pub carried_to : (p : Stretch) → IsAmong p xs → HoldsFrom p c → IsTrue carried → (t : Rational) → After c t → Upto (place p.to) t → IsCarried carried c xs t
  carried_to p m h o t a u = record {
    on = o;
    after = a;
    all = λ v b l. on_one xs p v m (after_at_most (place p.from) c v (at_most_of_not_before (place p.from) c h.0) b, upto_earlier (place p.to) v t l u);
  }

  -- a run that is carried comes to no time behind a stretch that holds from the place
  pub carried_within : (p : Stretch) → IsAmong p xs → HoldsFrom p c → (t : Rational) → IsCarried carried c xs t → Upto (place p.to) t
  carried_within p m h t k = elim (sides (place p.to) t) [ inl u ↦ u | inr a ↦ absurd (gap a) ]
    where
      gap : After (place p.to) t → ⊥
      gap a =
          let g = gap_after xs p (record { at = t; after = true }) tidy m (after_time (place p.to) t a) in
          g.3 (k.all g.0 (after_of_before c (place p.to) g.0 h.1 g.1) g.2)

  -- where it comes to a time, such a stretch is there
  pub carried_in : (t : Rational) → IsCarried carried c xs t → (p : Stretch) × IsAmong p xs × HoldsFrom p c
  carried_in t k =
      let p = one_of xs t (k.all t k.after (le_refl t)) in (
        p.0,
        p.1,
        (
          λ b. let g = gap_before xs p.0 c tidy p.1 b in g.3 (k.all g.0 g.1 (le_through (place p.0.from) g.0 t g.2 p.2.0)),
          before_through c (place p.0.to) t k.after p.2.1,
        ),
      )

-- what an entry adds: for what the set and the runs gained, for what became sure, and what the set gained itself
abbrev pub ReachesAnew : List Stretch → List Stretch → List Stretch → List Stretch → Place → Place → Rational → Type 0
ReachesAnew runs more spans fresh before sure t =
    ((BySome (ReachesAt runs spans sure) fresh t ⊎ BySome (ReachesAt runs spans sure) more t) ⊎ BySome (ReachesBy runs spans before sure) spans t)
    ⊎ BySome (IsPast sure) fresh t

-- the same where each time is sure, and backwards
abbrev pub ReachesNew : List Stretch → List Stretch → List Stretch → List Stretch → Place → Rational → Type 0
ReachesNew runs more spans fresh end t = BySome (ReachesAt runs spans end) fresh t ⊎ BySome (ReachesAt runs spans end) more t

abbrev pub ReachedNew : List Stretch → List Stretch → List Stretch → List Stretch → Rational → Type 0
ReachedNew runs more spans fresh t = BySome (ReachedAt runs spans) fresh t ⊎ BySome (ReachedAt runs spans) more t

-- runs z that became z', and a set y that became y', which lies in them
module _ {z z' fz y y' fy : List Stretch} (gz : Gains z z' fz) (gy : Gains y y' fy) (tidy : AreTidy z') (inside : (t : Rational) → IsOn y' t → IsOn z' t) where
  -- a run in a stretch that holds the first times of no part that was gained was there before
  old_run : (p : Stretch) → IsAmong p z' → ¬ ((f : Stretch) × IsAmong f fz × HoldsFrom p (place f.from)) → (v : Rational) → Lies p v → IsOn z v
  old_run p m n v l = elim (gz.gained v (on_one z' p v m l)) [
    | inl k ↦ k
    | inr k ↦
        let f = one_of fz v k in
        absurd (n (f.0, f.1, holds_part z' p f.0 v tidy (λ t h. gz.own t (on_one fz f.0 t f.1 h)) m l f.2))
  ]

  holds_gained : (p f : Stretch) (u : Rational) → IsAmong p z' → IsAmong f fy → Lies p u → Lies f u → HoldsFrom p (place f.from)
  holds_gained p f u m n l k = holds_part z' p f u tidy (λ v j. inside v (gy.own v (on_one fy f v n j))) m l k

  gained_run : (p : Stretch) → ((x : Stretch) × IsAmong x fz × HoldsFrom p (place x.from)) ⊎ ¬ ((x : Stretch) × IsAmong x fz × HoldsFrom p (place x.from))
  gained_run p = decided_among (λ x. HoldsFrom p (place x.from)) (λ x. decided_from p (place x.from)) fz

  module _ {bounds : Stretch} {old new told fresh : List Stretch} where
    -- times from which the runs go on to a sure time
    pub reach_tells : (before sure : Place) → AtMost before sure → Tells bounds old (GoesOn z y before)
        → Grows bounds old new told fresh (ReachesAnew z' fz y' fy before sure) → Tells bounds new (GoesOn z' y' sure)
    reach_tells before sure order h g = record { has = has_it; only = only_it }
      where
        by_run : (t u : Rational) (p : Stretch) → Lies bounds t → (t ≤ʳ u) → IsAmong p z' → Lies p u → Lies p t → IsOn y' u → Upto sure u
            → Upto before u ⊎ After before u → IsOn new t
        by_run t u p b le m l i o s (inr a) =
            let x = one_of y' u o in
            g.adds t b (inl (inr (by_some (ReachesBy z' y' before sure) y' x.0 t x.1 (
              p,
              m,
              (i, (u, le, (l, o, s))),
              (
                u,
                (x.2, a, s),
                l,
                λ v k q. run_into z' p v u tidy m l q
                    (λ r w. inside r (no_break y' x.0 v u r x.1 k.0 x.2 w)),
              ),
            ))))
        by_run t u p b le m l i o s (inl q) = elim (gy.gained u o) [
          | inr n ↦
              let x = one_of fy u n in
              g.adds t b (inl (inl (inl (by_some (ReachesAt z' y' sure) fy x.0 t x.1 (p, m, holds_gained p x.0 u m x.1 l x.2, (i, (u, le, (l, o, s))))))))
          | inl n ↦ elim (gained_run p) [
            | inl x ↦ g.adds t b (inl (inl (inr (by_some (ReachesAt z' y' sure) fz x.0 t x.1 (p, m, x.2, (i, (u, le, (l, o, s))))))))
            | inr x ↦ g.keeps t (h.has t b (inl (
              u,
              le,
              (n, q),
              λ v w. old_run p m x v
                  (after_later (place p.from) t v w.above i.0, upto_earlier (place p.to) v u w.below l.1),
            )))
          ]
        ]

        has_it : (t : Rational) → Lies bounds t → GoesOn z' y' sure t → IsOn new t
        has_it t b (inr o) = elim (sides sure t) [
          | inl s ↦ let p = one_of z' t (inside t o) in by_run t t p.0 b (le_refl t) p.1 p.2 p.2 o s (sides before t)
          | inr s ↦ elim (gy.gained t o) [
            | inl n ↦ g.keeps t (h.has t b (inr n))
            | inr n ↦ let x = one_of fy t n in g.adds t b (inr (by_some (IsPast sure) fy x.0 t x.1 (x.2, s)))
          ]
        ]
        has_it t b (inl (u, le, o, run)) =
            let p = one_of z' u (inside u o.0) in
            by_run t u p.0 b le p.1 p.2 (run_into z' p.0 t u tidy p.1 p.2 le run) o.0 o.1 (sides before u)

        goes : (t : Rational) (p : Stretch) → IsAmong p z' → ReachesIn y' sure p t → GoesOn z' y' sure t
        goes t p m r = inl (r.1.0, r.1.1, (r.1.2.1, r.1.2.2), λ v w. no_break z' p t r.1.0 v m r.0 r.1.2.0 w)

        wider : (t : Rational) → GoesOn z y before t → GoesOn z' y' sure t
        wider t (inl (u, le, o, run)) = inl (u, le, (gy.kept u o.0, order u o.1), λ v w. gz.kept v (run v w))
        wider t (inr o) = inr (gy.kept t o)

        added : (t : Rational) → ReachesAnew z' fz y' fy before sure t → GoesOn z' y' sure t
        added t (inl (inl (inl q))) = let x = some_by (ReachesAt z' y' sure) fy t q in goes t x.2.0 x.2.1 x.2.3
        added t (inl (inl (inr q))) = let x = some_by (ReachesAt z' y' sure) fz t q in goes t x.2.0 x.2.1 x.2.3
        added t (inl (inr q)) = let x = some_by (ReachesBy z' y' before sure) y' t q in goes t x.2.0 x.2.1 x.2.2
        added t (inr q) = let x = some_by (IsPast sure) fy t q in inr (gy.own t (on_one fy x.0 t x.1 x.2.0))

        only_it : (t : Rational) → IsOn new t → Lies bounds t × GoesOn z' y' sure t
        only_it t n = elim (g.only t n) [
          | inr q ↦ (q.0, added t q.1)
          | inl o ↦ let q = h.only t o in (q.0, wider t q.1)
        ]

    -- times from which the runs go on to a time
    pub to_tells : (end : Place) → ((t : Rational) → IsOn y' t → Upto end t) → Tells bounds old (GoesTo z y)
        → Grows bounds old new told fresh (ReachesNew z' fz y' fy end) → Tells bounds new (GoesTo z' y')
    to_tells end within h g = record { has = has_it; only = only_it }
      where
        by_run : (t u : Rational) (p : Stretch) → Lies bounds t → (t ≤ʳ u) → IsAmong p z' → Lies p u → Lies p t → IsOn y' u → IsOn new t
        by_run t u p b le m l i o = elim (gy.gained u o) [
          | inr n ↦
              let x = one_of fy u n in
              g.adds t b (inl (by_some (ReachesAt z' y' end) fy x.0 t x.1 (p, m, holds_gained p x.0 u m x.1 l x.2, (i, (u, le, (l, o, within u o))))))
          | inl n ↦ elim (gained_run p) [
            | inl x ↦ g.adds t b (inr (by_some (ReachesAt z' y' end) fz x.0 t x.1 (p, m, x.2, (i, (u, le, (l, o, within u o))))))
            | inr x ↦ g.keeps t (h.has t b (
              u,
              le,
              n,
              λ v w. old_run p m x v
                  (after_later (place p.from) t v w.above i.0, upto_earlier (place p.to) v u w.below l.1),
            ))
          ]
        ]

        has_it : (t : Rational) → Lies bounds t → GoesTo z' y' t → IsOn new t
        has_it t b (u, le, o, run) =
            let p = one_of z' u (inside u o) in by_run t u p.0 b le p.1 p.2 (run_into z' p.0 t u tidy p.1 p.2 le run) o

        goes : (t : Rational) (p : Stretch) → IsAmong p z' → ReachesIn y' end p t → GoesTo z' y' t
        goes t p m r = (r.1.0, r.1.1, r.1.2.1, λ v w. no_break z' p t r.1.0 v m r.0 r.1.2.0 w)

        only_it : (t : Rational) → IsOn new t → Lies bounds t × GoesTo z' y' t
        only_it t n = elim (g.only t n) [
          | inr q ↦ (
            q.0,
            elim q.1 [
              | inl k ↦ let x = some_by (ReachesAt z' y' end) fy t k in goes t x.2.0 x.2.1 x.2.3
              | inr k ↦ let x = some_by (ReachesAt z' y' end) fz t k in goes t x.2.0 x.2.1 x.2.3
            ],
          )
          | inl o ↦ let q = h.only t o in (q.0, (q.1.0, q.1.1, gy.kept q.1.0 q.1.2, λ v w. gz.kept v (q.1.3 v w)))
        ]

    -- times back from which the runs go on to a time, or are carried on from before a place
    pub back_tells : (b : Bool) (c : Place) → Tells bounds old (GoesBackBy b c z y)
        → Grows bounds old new told fresh (λ t. ReachedNew z' fz y' fy t ⊎ IsCarried b c z' t) → Tells bounds new (GoesBackBy b c z' y')
    back_tells b c h g = record { has = has_it; only = only_it }
      where
        by_run : (t u : Rational) (p : Stretch) → Lies bounds t → (u ≤ʳ t) → IsAmong p z' → Lies p u → Lies p t → IsOn y' u → IsOn new t
        by_run t u p i' le m l i o = elim (gy.gained u o) [
          | inr n ↦
              let x = one_of fy u n in
              g.adds t i' (inl (inl (by_some (ReachedAt z' y') fy x.0 t x.1 (p, m, holds_gained p x.0 u m x.1 l x.2, (i, (u, le, (l, o)))))))
          | inl n ↦ elim (gained_run p) [
            | inl x ↦ g.adds t i' (inl (inr (by_some (ReachedAt z' y') fz x.0 t x.1 (p, m, x.2, (i, (u, le, (l, o)))))))
            | inr x ↦ g.keeps t (h.has t i' (inl (
              u,
              le,
              n,
              λ v w. old_run p m x v
                  (after_later (place p.from) u v w.above l.0, upto_earlier (place p.to) v t w.below i.1),
            )))
          ]
        ]

        has_it : (t : Rational) → Lies bounds t → GoesBackBy b c z' y' t → IsOn new t
        has_it t i (inl (u, le, o, run)) =
            let p = one_of z' u (inside u o) in by_run t u p.0 i le p.1 p.2 (run_from z' p.0 u t tidy p.1 p.2 le run) o
        has_it t i (inr k) = g.adds t i (inr k)

        goes : (t : Rational) (p : Stretch) → IsAmong p z' → ReachedIn y' p t → GoesBack z' y' t
        goes t p m r = (r.1.0, r.1.1, r.1.2.1, λ v w. no_break z' p r.1.0 t v m r.1.2.0 r.0 w)

        still : (t : Rational) → GoesBackBy b c z y t → GoesBackBy b c z' y' t
        still t (inl (u, le, o, run)) = inl (u, le, gy.kept u o, λ v w. gz.kept v (run v w))
        still t (inr k) = inr (record { on = k.on; after = k.after; all = λ v a l. gz.kept v (k.all v a l) })

        only_it : (t : Rational) → IsOn new t → Lies bounds t × GoesBackBy b c z' y' t
        only_it t n = elim (g.only t n) [
          | inr q ↦ (
            q.0,
            elim q.1 [
              | inl (inl k) ↦ let x = some_by (ReachedAt z' y') fy t k in inl (goes t x.2.0 x.2.1 x.2.3)
              | inl (inr k) ↦ let x = some_by (ReachedAt z' y') fz t k in inl (goes t x.2.0 x.2.1 x.2.3)
              | inr k ↦ inr k
            ],
          )
          | inl o ↦ let q = h.only t o in (q.0, still t q.1)
        ]
