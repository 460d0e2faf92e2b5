-- Times without a break in a list of stretches lie in one of them; and what lists decide.
use Rattle.std.proofs.Common.{◌⊎◌, inl, inr, refl, sym, subst, List, [], ◌∷◌}
use Rattle.rational.specs.Rational.{Rational}
use Rattle.rational.specs.Time.{◌≤ʳ◌}
use Rattle.rational.proofs.Order.{le_refl}
use Rattle.rational.specs.Places.{Place, After, Upto, Before}
use Rattle.frac128.specs.Cuts.{place}
use Rattle.growing_sets.specs.Spans.{Lies, IsOn, IsAmong, AreTidy, BeginsAfter}
use Rattle.growing_sets.specs.declared.stretch.Stretch.{Stretch}
use Rattle.rational.proofs.PlaceLemmas.{not_both, between, before_trans, place_order, after_of_before, upto_of_before, upto_same, same_places, after_same}
use Rattle.rational.proofs.PlaceLemmas.{after_later, le_through, upto_earlier}
use Rattle.growing_sets.proofs.StretchLemmas.{rises}
use Rattle.growing_sets.proofs.SpanLemmas.{begins_through, rest_after}

-- of two places before a third, the later one comes before it
pub later_before : (c d e : Place) → Before c e → Before d e → (m : Place) × Before m e × ((v : Rational) → After m v → After c v × After d v)
later_before c d e h k = elim (place_order c d) [
  | inl b ↦ (d, k, λ v a. (after_of_before c d v b a, a))
  | inr o ↦ elim o [
    | inl s ↦ (d, k, λ v a. (after_same d c v (same_places s) a, a))
    | inr b ↦ (c, h, λ v a. (a, after_of_before d c v b a))
  ]
]

-- of two places after a third, the earlier one comes after it
pub earlier_after : (c d e : Place) → Before e c → Before e d → (m : Place) × Before e m × ((v : Rational) → Upto m v → Upto c v × Upto d v)
earlier_after c d e h k = elim (place_order c d) [
  | inl b ↦ (c, h, λ v u. (u, upto_of_before c d v b u))
  | inr o ↦ elim o [
    | inl s ↦ (c, h, λ v u. (u, upto_same c d v s u))
    | inr b ↦ (d, k, λ v u. (upto_of_before d c v b u, u))
  ]
]

-- what begins after a place has each of it after that
pub among_after : (c : Place) (xs : List Stretch) (p : Stretch) → BeginsAfter c xs → AreTidy xs → IsAmong p xs → Before c (place p.from)
among_after c [] p b h m = absurd m
among_after c (x ∷ xs) p b h (inl e) = subst (λ s. Before c (place s.from)) (sym e) b
among_after c (x ∷ xs) p b h (inr m) = among_after c xs p (begins_through c x xs b h.0) h.1 m

-- right after a stretch of the list there is a gap, up to some time before a place
pub gap_next : (xs : List Stretch) (p : Stretch) (c : Place) → AreTidy xs → IsAmong p xs → Before (place p.to) c
    → (v : Rational) × After (place p.to) v × Upto c v × ((y : Rational) → After (place p.to) y → y ≤ʳ v → ¬ (IsOn xs y))
gap_next [] p c h m b = absurd m
gap_next (x ∷ []) p c h (inl e) b =
    let t = between (place p.to) c b in (
      t.0,
      t.1,
      t.2,
      λ y a l o. elim o [ inl k ↦ not_both (place x.to) y k.1 (subst (λ s. After (place s.to) y) e a) | inr r ↦ absurd r ],
    )
gap_next (x ∷ r ∷ xs) p c h (inl e) b =
    let k = earlier_after c (place r.from) (place p.to) b (subst (λ s. Before (place s.to) (place r.from)) (sym e) h.0) in
    let t = between (place p.to) k.0 k.1 in
    let u = (k.2 t.0 t.2).1 in (
      t.0,
      t.1,
      (k.2 t.0 t.2).0,
      λ y a l o. elim o [
        | inl i ↦ not_both (place x.to) y i.1 (subst (λ s. After (place s.to) y) e a)
        | inr q ↦ elim q [
          | inl i ↦ not_both (place r.from) y (upto_earlier (place r.from) y t.0 l u) i.0
          | inr i ↦ not_both (place r.to) y (upto_of_before (place r.from) (place r.to) y (rises r) (upto_earlier (place r.from) y t.0 l u))
              (rest_after (place r.to) xs y h.1.1 h.1.0 i)
        ]
      ],
    )
gap_next (x ∷ xs) p c h (inr m) b =
    let g = gap_next xs p c h.1 m b in
    let k = before_trans (place x.to) (place p.from) (place p.to) (among_after (place x.to) xs p h.0 h.1 m) (rises p) in (
      g.0,
      g.1,
      g.2,
      λ y a l o. elim o [ inl i ↦ not_both (place x.to) y i.1 (after_of_before (place x.to) (place p.to) y k a) | inr r ↦ g.3 y a l r ],
    )

-- and right before it, from some time after a place on
pub gap_last : (xs : List Stretch) (p : Stretch) (c : Place) → AreTidy xs → IsAmong p xs → Before c (place p.from)
    → (v : Rational) × After c v × Upto (place p.from) v × ((y : Rational) → v ≤ʳ y → Upto (place p.from) y → ¬ (IsOn xs y))
gap_last [] p c h m b = absurd m
gap_last (x ∷ xs) p c h (inl e) b =
    let t = between c (place p.from) b in (
      t.0,
      t.1,
      t.2,
      λ y l u o.
          let w : Upto (place x.from) y = subst (λ s. Upto (place s.from) y) e u in
          elim o [
            | inl i ↦ not_both (place x.from) y w i.0
            | inr r ↦ not_both (place x.to) y (upto_of_before (place x.from) (place x.to) y (rises x) w) (rest_after (place x.to) xs y h.1 h.0 r)
          ],
    )
gap_last (x ∷ xs) p c h (inr m) b =
    let k = later_before c (place x.to) (place p.from) b (among_after (place x.to) xs p h.0 h.1 m) in
    let g = gap_last xs p k.0 h.1 m k.1 in (
      g.0,
      (k.2 g.0 g.1).0,
      g.2,
      λ y l u o. elim o [ inl i ↦ not_both (place x.to) y i.1 (k.2 y (after_later k.0 g.0 y l g.1)).1 | inr r ↦ g.3 y l u r ],
    )

-- so there is one before it
pub gap_before : (xs : List Stretch) (p : Stretch) (c : Place) → AreTidy xs → IsAmong p xs → Before c (place p.from)
    → (v : Rational) × After c v × Upto (place p.from) v × ¬ (IsOn xs v)
gap_before xs p c h m b = let g = gap_last xs p c h m b in (g.0, g.1, g.2, g.3 g.0 (le_refl g.0) g.2)

-- and after it
pub gap_after : (xs : List Stretch) (p : Stretch) (c : Place) → AreTidy xs → IsAmong p xs → Before (place p.to) c
    → (v : Rational) × After (place p.to) v × Upto c v × ¬ (IsOn xs v)
gap_after xs p c h m b = let g = gap_next xs p c h m b in (g.0, g.1, g.2, g.3 g.0 g.1 (le_refl g.0))

-- the stretch of the list that holds a time
pub one_of : (xs : List Stretch) (t : Rational) → IsOn xs t → (p : Stretch) × IsAmong p xs × Lies p t
one_of [] t o = absurd o
one_of (x ∷ xs) t (inl l) = (x, inl refl, l)
one_of (x ∷ xs) t (inr o) = let r = one_of xs t o in (r.0, inr r.1, r.2)

-- a time in one of the stretches is on the list
pub on_one : (xs : List Stretch) (p : Stretch) (t : Rational) → IsAmong p xs → Lies p t → IsOn xs t
on_one [] p t m l = absurd m
on_one (x ∷ xs) p t (inl e) l = inl (subst (λ s. Lies s t) e l)
on_one (x ∷ xs) p t (inr m) l = inr (on_one xs p t m l)

-- the order of places decides
pub decided : (c d : Place) → Before c d ⊎ ¬ (Before c d)
decided c d = elim (place_order c d) [
  | inl b ↦ inl b
  | inr o ↦ inr (λ b. let t = between c d b in elim o [
    | inl s ↦ not_both c t.0 (upto_same d c t.0 (same_places s) t.2) t.1
    | inr k ↦ not_both c t.0 (upto_of_before d c t.0 k t.2) t.1
  ])
]

-- two facts that are decided are decided together
pub decided_both : (P Q : Type 0) → P ⊎ ¬ P → Q ⊎ ¬ Q → (P × Q) ⊎ ¬ (P × Q)
decided_both P Q (inl p) (inl q) = inl (p, q)
decided_both P Q (inr n) q = inr (λ h. n h.0)
decided_both P Q (inl p) (inr n) = inr (λ h. n h.1)

-- where two things are decided it is decided whether one of them is so
pub decided_either : (P Q : Type 0) → P ⊎ ¬ P → Q ⊎ ¬ Q → (P ⊎ Q) ⊎ ¬ (P ⊎ Q)
decided_either P Q (inl p) q = inl (inl p)
decided_either P Q (inr n) (inl q) = inl (inr q)
decided_either P Q (inr n) (inr m) = inr (λ h. elim h [ inl p ↦ n p | inr q ↦ m q ])

-- where a thing is decided its contrary is
pub decided_not : (P : Type 0) → P ⊎ ¬ P → (¬ P) ⊎ ¬ (¬ P)
decided_not P (inl p) = inr (λ n. n p)
decided_not P (inr n) = inl n

-- and so whether some stretch of a list is such
pub decided_among : (Q : Stretch → Type 0) → ((s : Stretch) → Q s ⊎ ¬ (Q s)) → (xs : List Stretch)
    → ((s : Stretch) × IsAmong s xs × Q s) ⊎ ¬ ((s : Stretch) × IsAmong s xs × Q s)
decided_among Q d [] = inr (λ h. h.1)
decided_among Q d (x ∷ xs) = by_first (d x) (decided_among Q d xs)
  where
    by_first : Q x ⊎ ¬ (Q x) → ((s : Stretch) × IsAmong s xs × Q s) ⊎ ¬ ((s : Stretch) × IsAmong s xs × Q s)
        → ((s : Stretch) × IsAmong s (x ∷ xs) × Q s) ⊎ ¬ ((s : Stretch) × IsAmong s (x ∷ xs) × Q s)
    by_first (inl q) r = inl (x, inl refl, q)
    by_first (inr n) (inl r) = inl (r.0, inr r.1, r.2)
    by_first (inr n) (inr m) = inr (λ h. by_one h.0 h.1 h.2)
      where
        by_one : (s : Stretch) → IsAmong s (x ∷ xs) → Q s → ⊥
        by_one s (inl e) q = n (subst Q e q)
        by_one s (inr k) q = m (s, k, q)

-- a list that holds all of a stretch holds it in one of its own: the one that holds a time of it begins no later
pub holds_all : (xs : List Stretch) (f p : Stretch) (u : Rational) → AreTidy xs → ((t : Rational) → Lies f t → IsOn xs t) → IsAmong p xs → Lies p u → Lies f u
    → ¬ (Before (place f.from) (place p.from))
holds_all xs f p u h all m l k b =
    let g = gap_before xs p (place f.from) h m b in
    g.3 (all g.0 (g.1, upto_earlier (place f.to) g.0 u (le_through (place p.from) g.0 u g.2 l.0) k.1))
