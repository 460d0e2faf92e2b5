-- What of one set is reached through a window along the runs of another.
use Rattle.std.proofs.Common.{◌≡◌, ◌⊎◌, inl, inr, Bool, true, false, [], Option, None, sym, ◌∙◌, subst, neg_ℤ}
use Rattle.std.specs.Prelude.{IsTrue, IfSome, ◌↔◌}
use Rattle.std.proofs.lemmas.Bool.{false≢true}
use Rattle.rational.specs.Time.{Rational, ◌≤ʳ◌, Within}
use Rattle.rational.specs.Places.{Place, Before, Same, After, Upto, AtMost, moved_begin}
use Rattle.rational.proofs.Order.{le_refl, le_or_lt, le_of_lt, le_trans}
use Rattle.rational.proofs.PlaceLemmas.{not_both, place_order, share, before_through, before_of_at_most, after_at_most, upto_of_before}
use Rattle.rational.proofs.PlaceLemmas.{upto_same, after_same, same_places, upto_earlier, after_later}
use Rattle.time_sets.specs.Turns.{place}
use Rattle.time_sets.specs.Sets.{has}
use Rattle.time_sets.specs.Windows.{Lies, Sees, Reaches}
use Rattle.time_sets.specs.Parts.{IsPart, HasRoom, high_place, ReachesSome, Meets, IsPast}
use Rattle.time_sets.specs.Making.{closed, Grown, CanAdd, Adds, Ends}
use Rattle.time_sets.specs.declared.turn.Turn.{Turn}
use Rattle.time_sets.specs.declared.times.Times.{Times}
use Rattle.time_sets.specs.declared.window.Window.{Window}
use Rattle.time_sets.specs.declared.domain.Domain.{Domain}
use Rattle.time_sets.proofs.WindowPlaces.{ends_past}
use Rattle.time_sets.proofs.WindowLemmas.{meets_between, IsLast}
use Rattle.time_sets.proofs.SeeingLemmas.{regroup, bare_grown}

not_true : (x : Bool) → x ≡ false → IsTrue x → ⊥
not_true x e h = false≢true (sym e ∙ h)

-- v lies from t to u, or from u to t
abbrev IsBetween : Rational → Rational → Rational → Type 0
IsBetween t u v = Within t u v ⊎ Within u t v

between_after : (c : Place) (t u v : Rational) → After c t → After c u → IsBetween t u v → After c v
between_after c t u v a b (inl w) = after_later c t v w.above a
between_after c t u v a b (inr w) = after_later c u v w.above b

between_upto : (c : Place) (t u v : Rational) → Upto c t → Upto c u → IsBetween t u v → Upto c v
between_upto c t u v a b (inl w) = upto_earlier c v u w.below b
between_upto c t u v a b (inr w) = upto_earlier c v t w.below a

lies_between : (on : Domain) (t u v : Rational) → Lies on t → Lies on u → IsBetween t u v → Lies on v
lies_between on t u v l m i = (between_after (place on.from) t u v l.0 m.0 i, between_upto (place on.to) t u v l.1 m.1 i)

first_between : (t u : Rational) → IsBetween t u t
first_between t u = elim (le_or_lt t u) [
  | inl l ↦ inl (record { above = le_refl t; below = l })
  | inr l ↦ inr (record { above = le_of_lt l; below = le_refl t })
]

last_between : (t u : Rational) → IsBetween t u u
last_between t u = elim (le_or_lt t u) [
  | inl l ↦ inl (record { above = l; below = le_refl u })
  | inr l ↦ inr (record { above = le_refl u; below = le_of_lt l })
]

-- what a test has in the domain lies behind where its first stretch begins
behind_from : (on part : Domain) (now later : Rational → Bool) (t : Rational) → IsPart on part now later → Lies on t → IsTrue (now t)
    → After (place part.from) t
behind_from on part now later t is l h = elim ((is.splits t l).0 h) [
  | inl y ↦ y.0
  | inr k ↦ after_at_most (place part.from) (place part.to) t (λ v x. upto_of_before (place part.from) (place part.to) v is.inside.order x) (is.behind t l k)
]

later_from : (on part : Domain) (now later : Rational → Bool) (t : Rational) → IsPart on part now later → Lies on t → IsTrue (later t)
    → After (place part.from) t
later_from on part now later t is l k =
    after_at_most (place part.from) (place part.to) t (λ v x. upto_of_before (place part.from) (place part.to) v is.inside.order x) (is.behind t l k)

module _ (on run part : Domain) (w : Window) (p p' q q' : Rational → Bool) (is : IsPart on run p p') (is' : IsPart on part q q') where
  -- times between which each is one of the set lie in one run
  one_run : (t u : Rational) → Lies on t → Lies on u → ((v : Rational) → IsBetween t u v → IsTrue (p v))
      → ((After (place run.from) t × Upto (place run.to) t) × (After (place run.from) u × Upto (place run.to) u))
      ⊎ ((v : Rational) → IsBetween t u v → IsTrue (p' v))
  one_run t u l m f = elim ((is.splits t l).0 (f t (first_between t u))) [
    | inl a ↦ elim ((is.splits u m).0 (f u (last_between t u))) [
      | inl b ↦ inl (a, b)
      | inr k ↦ let g = is.apart t u a.1 m k in absurd (not_true (p g.0) g.3 (f g.0 (inl (record { above = g.1; below = g.2 }))))
    ]
    | inr h ↦ elim ((is.splits u m).0 (f u (last_between t u))) [
      | inl b ↦ let g = is.apart u t b.1 l h in absurd (not_true (p g.0) g.3 (f g.0 (inr (record { above = g.1; below = g.2 }))))
      | inr k ↦ inr (λ v i. elim ((is.splits v (lies_between on t u v l m i)).0 (f v i)) [ inl y ↦ absurd (cut v y.1 h k i) | inr x ↦ x ])
    ]
  ]
    where
      cut : (v : Rational) → Upto (place run.to) v → IsTrue (p' t) → IsTrue (p' u) → IsBetween t u v → ⊥
      cut v y h k (inl i) = let g = is.apart v u y m k in not_true (p g.0) g.3 (f g.0 (inl (record { above = le_trans i.above g.1; below = g.2 })))
      cut v y h k (inr i) = let g = is.apart v t y l h in not_true (p g.0) g.3 (f g.0 (inr (record { above = le_trans i.above g.1; below = g.2 })))

  of_meets : (t : Rational) → Lies on t → Meets w run part t → ReachesSome on w p q t
  of_meets t l m =
      let u = m.sees.0 in
      let i = is'.inside.within u m.sees.4 m.sees.5 in (
        u,
        i,
        m.sees.1,
        (is'.splits u i).1 (inl (m.sees.4, m.sees.5)),
        λ v b. (is.splits v (lies_between on t u v l i b)).1
            (inl (between_after (place run.from) t u v m.after m.sees.2 b, between_upto (place run.to) t u v m.upto m.sees.3 b)),
      )

  -- where the run ends before the part, the run is done with
  run_done : (t : Rational) → Lies on t → Before (place run.to) (place part.to) → ReachesSome on w p q t ↔ (Meets w run part t ⊎ ReachesSome on w p' q t)
  run_done t l before = (there, back)
    where
      there : ReachesSome on w p q t → Meets w run part t ⊎ ReachesSome on w p' q t
      there (u, m, s, h, f) = elim (one_run t u l m f) [
        | inl y ↦ elim ((is'.splits u m).0 h) [
          | inl x ↦ inl (record { after = y.0.0; upto = y.0.1; sees = (u, s, y.1.0, y.1.1, x.0, x.1) })
          | inr k ↦ absurd (not_both (place part.to) u (upto_of_before (place run.to) (place part.to) u before y.1.1) (is'.behind u m k))
        ]
        | inr g ↦ inr (u, m, s, h, g)
      ]

      back : Meets w run part t ⊎ ReachesSome on w p' q t → ReachesSome on w p q t
      back (inl m) = of_meets t l m
      back (inr (u, m, s, h, g)) = (u, m, s, h, λ v i. (is.splits v (lies_between on t u v l m i)).1 (inr (g v i)))

  -- else the part is
  part_done : (t : Rational) → Lies on t → ¬ (Before (place run.to) (place part.to)) → ReachesSome on w p q t ↔ (Meets w run part t ⊎ ReachesSome on w p q' t)
  part_done t l past = (there, back)
    where
      there : ReachesSome on w p q t → Meets w run part t ⊎ ReachesSome on w p q' t
      there (u, m, s, h, f) = elim ((is'.splits u m).0 h) [
        | inr k ↦ inr (u, m, s, k, f)
        | inl x ↦ elim (one_run t u l m f) [
          | inl y ↦ inl (record { after = y.0.0; upto = y.0.1; sees = (u, s, y.1.0, y.1.1, x.0, x.1) })
          | inr g ↦ absurd (past (before_through (place run.to) (place part.to) u (is.behind u m (g u (last_between t u))) x.1))
        ]
      ]

      back : Meets w run part t ⊎ ReachesSome on w p q' t → ReachesSome on w p q t
      back (inl m) = of_meets t l m
      back (inr (u, m, s, k, f)) = (u, m, s, (is'.splits u m).1 (inr k), f)

-- what is made so far, of what is reached, where `p` and `q` are still left of the two sets
pub record ReachedSoFar (on : Domain) (w : Window) (a b : Times) (end : Option Turn) (made : Times) (p q : Rational → Bool) : Type 0 where
  pub grown : Grown on end made
  pub goes_on : (t u v : Rational) → Lies on t → Lies on u → Lies on v → IsTrue (q u) → IsTrue (p v) → v ≤ʳ t → Upto (high_place w.high w.high_in t) v
      → Upto (high_place w.high w.high_in t) u → IfSome end (λ e. has made t ≡ true)
  pub tells : (t : Rational) → Lies on t → Reaches on w a b t ↔ (IsTrue (closed end made t) ⊎ ReachesSome on w p q t)

-- before the first stretches nothing is made
pub reached_first : (on : Domain) (w : Window) (a b made : Times) (p q : Rational → Bool) → made.starts ≡ false → made.turns.items ≡ []
    → ((t : Rational) → has made t ≡ false) → ((t : Rational) → p t ≡ has a t) → ((t : Rational) → q t ≡ has b t) → ReachedSoFar on w a b None made p q
reached_first on w a b made p q e f off runs parts = record {
  grown = bare_grown on made e f;
  goes_on = λ t u v l m n h k i j x. tt;
  tells = λ t l. (
    (λ (u, m, s, h, g). inr (u, m, s, parts u ∙ h, λ v i. runs v ∙ g v i)),
    (λ x. elim x [ inl h ↦ absurd (not_true (has made t) (off t) h) | inr (u, m, s, h, g) ↦ (u, m, s, sym (parts u) ∙ h, λ v i. sym (runs v) ∙ g v i) ]),
  );
}

module _ (on run part : Domain) (w : Window) (a b : Times) (end : Option Turn) (made : Times) (p p' q q' : Rational → Bool)
    (so : ReachedSoFar on w a b end made p q) (is : IsPart on run p p') (is' : IsPart on part q q') where
  -- a time of the run that is no later than t and before where the window ends
  pick : (t : Rational) → IsPast w run part t
      → (v : Rational) × After (place run.from) v × Upto (place run.to) v × (v ≤ʳ t) × Upto (high_place w.high w.high_in t) v
  pick t past = by_order (place_order (record { at = t; after = true }) (high_place w.high w.high_in t))
    where
      here : Before (place run.from) (record { at = t; after = true })
      here = before_through (place run.from) (record { at = t; after = true }) t past.after (le_refl t)

      by_order : Before (record { at = t; after = true }) (high_place w.high w.high_in t)
          ⊎ Same (record { at = t; after = true }) (high_place w.high w.high_in t)
          ⊎ Before (high_place w.high w.high_in t) (record { at = t; after = true })
          → (v : Rational) × After (place run.from) v × Upto (place run.to) v × (v ≤ʳ t) × Upto (high_place w.high w.high_in t) v
      by_order (inl b) =
          let m = share (place run.from) (place run.to) (place run.from) (record { at = t; after = true }) is.inside.order here here is.inside.order in
          (m.0, m.1, m.2, m.4, upto_of_before (record { at = t; after = true }) (high_place w.high w.high_in t) m.0 b m.4)
      by_order (inr (inl s)) =
          let m = share (place run.from) (place run.to) (place run.from) (record { at = t; after = true }) is.inside.order here here is.inside.order in
          (m.0, m.1, m.2, m.4, upto_same (record { at = t; after = true }) (high_place w.high w.high_in t) m.0 s m.4)
      by_order (inr (inr b)) =
          let m = share (place run.from) (place run.to) (place run.from) (high_place w.high w.high_in t) is.inside.order past.run_begins past.run_begins
          is.inside.order in
          (m.0, m.1, m.2, upto_of_before (high_place w.high w.high_in t) (record { at = t; after = true }) m.0 b m.4, m.4)

  -- what the next two stretches make can be added
  pub reached_can : CanAdd on end (IsPast w run part) made
  reached_can = record {
    grown = so.grown;
    goes_on = λ t l past.
        let v = pick t past in
        let i = is.inside.within v.0 v.1 v.2 in
        let u = share (place part.from) (place part.to) (place part.from) (high_place w.high w.high_in t) is'.inside.order past.part_begins past.part_begins
        is'.inside.order in
        let j = is'.inside.within u.0 u.1 u.2 in
        so.goes_on t u.0 v.0 l j i ((is'.splits u.0 j).1 (inl (u.1, u.2))) ((is.splits v.0 i).1 (inl (v.1, v.2))) v.3 v.4 u.4;
  }

  past_of : (t u v : Rational) → After (place part.from) u → After (place run.from) v → v ≤ʳ t → Upto (high_place w.high w.high_in t) v
      → Upto (high_place w.high w.high_in t) u → IsPast w run part t
  past_of t u v x y i j k = record {
    after = after_later (place run.from) v t i y;
    run_begins = before_through (place run.from) (high_place w.high w.high_in t) v y j;
    part_begins = before_through (place part.from) (high_place w.high w.high_in t) u x k;
  }

  -- and was, and the run is done with
  pub reached_run : (end' : Option Turn) (made' : Times) → Adds on end end' (IsPast w run part) (Meets w run part) made made'
      → Before (place run.to) (place part.to) → ReachedSoFar on w a b end' made' p' q
  reached_run end' made' adds before = record {
    grown = adds.grown;
    goes_on = λ t u v l m n h k i j x. adds.goes_on t l (past_of t u v (behind_from on part q q' u is' m h) (later_from on run p p' v is n k) i j x);
    tells = λ t l. regroup _ _ _ _ _ _ (so.tells t l) (run_done on run part w p p' q q' is is' t l before) (adds.tells t l);
  }

  -- and was, and the part is done with
  pub reached_part : (end' : Option Turn) (made' : Times) → Adds on end end' (IsPast w run part) (Meets w run part) made made'
      → ¬ (Before (place run.to) (place part.to)) → ReachedSoFar on w a b end' made' p q'
  reached_part end' made' adds past = record {
    grown = adds.grown;
    goes_on = λ t u v l m n h k i j x. adds.goes_on t l (past_of t u v (later_from on part q q' u is' m h) (behind_from on run p p' v is n k) i j x);
    tells = λ t l. regroup _ _ _ _ _ _ (so.tells t l) (part_done on run part w p p' q q' is is' t l past) (adds.tells t l);
  }

-- where nothing is left of one of the sets
pub reached_last : (on : Domain) (w : Window) (a b : Times) (end : Option Turn) (made result : Times) (p q : Rational → Bool)
    → ReachedSoFar on w a b end made p q → ((t : Rational) → p t ≡ false) ⊎ ((t : Rational) → q t ≡ false) → Ends on end made result
    → (t : Rational) → Lies on t → IsTrue (has result t) ↔ Reaches on w a b t
reached_last on w a b end made result p q so none ends t l = (
  (λ h. (so.tells t l).1 (inl (sym (ends.times t l) ∙ h))),
  (λ x. elim ((so.tells t l).0 x) [ inl h ↦ ends.times t l ∙ h | inr y ↦ absurd (nothing none y) ]),
)
  where
    nothing : ((t : Rational) → p t ≡ false) ⊎ ((t : Rational) → q t ≡ false) → ReachesSome on w p q t → ⊥
    nothing (inl n) (u, m, s, h, f) = not_true (p t) (n t) (f t (first_between t u))
    nothing (inr n) (u, m, s, h, f) = not_true (q u) (n u) h

-- c is the later of two places
pub record IsLater (a b c : Turn) : Type 0 where
  pub one : (c ≡ a) ⊎ (c ≡ b)
  pub first : AtMost (place a) (place c)
  pub second : AtMost (place b) (place c)

-- c is the earlier of two places
pub record IsEarlier (a b c : Turn) : Type 0 where
  pub one : (c ≡ a) ⊎ (c ≡ b)
  pub first : AtMost (place c) (place a)
  pub second : AtMost (place c) (place b)

-- what holds of two turns holds of one that is one of them
pub of_one : (a b c : Turn) (P : Turn → Type 0) → (c ≡ a) ⊎ (c ≡ b) → P a → P b → P c
of_one a b c P (inl e) x y = subst P (sym e) x
of_one a b c P (inr e) x y = subst P (sym e) y

module _ (on run part : Domain) (w : Window) (from to first last b e : Turn) (room : HasRoom w)
    (is_from : IsLater run.from part.from from) (is_to : IsEarlier run.to part.to to)
    (is_first : Same (place first) (moved_begin (neg_ℤ w.high) w.high_in (place from))) (is_last : IsLast on w (place to) last)
    (is_b : IsLater run.from first b) (is_e : IsEarlier run.to last e) (order : Before (place from) (place to)) where
  past_in : (t : Rational) → IsPast w run part t → After (place b) t
  past_in t past = of_one run.from first b (λ x. After (place x) t) is_b.one past.after
      (after_same (moved_begin (neg_ℤ w.high) w.high_in (place from)) (place first) t (same_places is_first) ((ends_past w.high w.high_in (place from) t).1
      (of_one run.from part.from from (λ x. Before (place x) (high_place w.high w.high_in t)) is_from.one past.run_begins past.part_begins)))

  past_out : (t : Rational) → After (place b) t → IsPast w run part t
  past_out t a =
      let x = after_at_most (place first) (place b) t is_b.second a in
      let far = (ends_past w.high w.high_in (place from) t).0 (after_same (place first) (moved_begin (neg_ℤ w.high) w.high_in (place from)) t is_first x) in
      record {
        after = after_at_most (place run.from) (place b) t is_b.first a;
        run_begins = before_of_at_most (place run.from) (place from) (high_place w.high w.high_in t) is_from.first far;
        part_begins = before_of_at_most (place part.from) (place from) (high_place w.high w.high_in t) is_from.second far;
      }

  met : (t : Rational) → Lies on t → (After (place b) t × Upto (place e) t) ↔ Meets w run part t
  met t l = (there, back)
    where
      meets : ((u : Rational) × Sees w t u × After (place from) u × Upto (place to) u) ↔ (After (place first) t × Upto (place last) t)
      meets = meets_between on w (place from) (place to) first last t room order is_first is_last l

      there : After (place b) t × Upto (place e) t → Meets w run part t
      there (a, k) =
          let m = meets.1 (after_at_most (place first) (place b) t is_b.second a, is_e.second t k) in
          record {
            after = after_at_most (place run.from) (place b) t is_b.first a;
            upto = is_e.first t k;
            sees = (
              m.0,
              m.1,
              after_at_most (place run.from) (place from) m.0 is_from.first m.2,
              is_to.first m.0 m.3,
              after_at_most (place part.from) (place from) m.0 is_from.second m.2,
              is_to.second m.0 m.3,
            );
          }

      back : Meets w run part t → After (place b) t × Upto (place e) t
      back m =
          let u = m.sees.0 in
          let y = meets.0 (
            u,
            m.sees.1,
            of_one run.from part.from from (λ x. After (place x) u) is_from.one m.sees.2 m.sees.4,
            of_one run.to part.to to (λ x. Upto (place x) u) is_to.one m.sees.3 m.sees.5,
          ) in (
            of_one run.from first b (λ x. After (place x) t) is_b.one m.after y.0,
            of_one run.to last e (λ x. Upto (place x) t) is_e.one m.upto y.1,
          )

  -- the times from which they meet can be added
  pub meet_can : (end : Option Turn) (made : Times) → CanAdd on end (IsPast w run part) made → CanAdd on end (After (place b)) made
  meet_can end made can = record { grown = can.grown; goes_on = λ t l a. can.goes_on t l (past_out t a) }

  -- and were
  pub meet_adds : (end end' : Option Turn) (made made' : Times) → Adds on end end' (After (place b)) (λ t. After (place b) t × Upto (place e) t) made made'
      → Adds on end end' (IsPast w run part) (Meets w run part) made made'
  meet_adds end end' made made' adds = record {
    grown = adds.grown;
    goes_on = λ t l past. adds.goes_on t l (past_in t past);
    tells = λ t l. (
      (λ h. elim ((adds.tells t l).0 h) [ inl x ↦ inl x | inr y ↦ inr ((met t l).0 y) ]),
      (λ x. (adds.tells t l).1 (elim x [ inl h ↦ inl h | inr m ↦ inr ((met t l).1 m) ])),
    );
  }

-- where each of two stretches begins before the other ends, what they share has times
pub share_times : (run part : Domain) (from to : Turn) → IsLater run.from part.from from → IsEarlier run.to part.to to → Before (place run.from) (place run.to)
    → Before (place part.from) (place part.to) → Before (place run.from) (place part.to) → Before (place part.from) (place run.to)
    → Before (place from) (place to)
share_times run part from to is_from is_to own other across back = of_one run.from part.from from (λ x. Before (place x) (place to)) is_from.one
    (of_one run.to part.to to (λ y. Before (place run.from) (place y)) is_to.one own across)
    (of_one run.to part.to to (λ y. Before (place part.from) (place y)) is_to.one back other)

-- stretches that share no time meet from nowhere
pub meet_nothing : (on run part : Domain) (w : Window) (end : Option Turn) (made : Times)
    → ((u : Rational) → After (place run.from) u → Upto (place run.to) u → After (place part.from) u → Upto (place part.to) u → ⊥)
    → CanAdd on end (IsPast w run part) made → Adds on end end (IsPast w run part) (Meets w run part) made made
meet_nothing on run part w end made empty can = record {
  grown = can.grown;
  goes_on = can.goes_on;
  tells = λ t l. (
    (λ h. inl h),
    (λ x. elim x [ inl h ↦ h | inr m ↦ absurd (empty m.sees.0 m.sees.2 m.sees.3 m.sees.4 m.sees.5) ]),
  );
}
