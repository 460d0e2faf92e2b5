-- At most one list of verdicts describes a formula on a stretch.
use Rattle.std.proofs.Common.{◌≡◌, ◌⊎◌, inl, inr, List, [], ◌∷◌, Bool, true, false, not, sym, ap, ◌∙◌, refl, suc, ◌++◌, length}
use Rattle.std.proofs.Common.{subst}
use Rattle.std.specs.Prelude.{MatchBool, ◌≢◌}
use Rattle.rational.specs.Rational.{Rational, ◌≤ʳ◌, ◌<ʳ◌, ◌≈◌, middle}
use Rattle.rational.proofs.Order.{le_of_same, le_of_lt, lt_of_lt_of_le, lt_of_le_of_lt, lt_trans}
use Rattle.rational.proofs.Order.{not_lt_of_le, same_trans, same_sym, same_refl, left_of_middle, right_of_middle}
use Rattle.rational.specs.Time.{Interval, IsIn, Touch}
use Rattle.rational.specs.Places.{Place, begins, ends, Same, Before}
use Rattle.rational.proofs.PlaceLemmas.{place_order, same_places, same_before, same_trans_places, before_of_not_empty}
use Rattle.frac128.specs.Spans.{interval}
use Rattle.stl_syntax.specs.Trace.{Trace}
use Rattle.stl_syntax.specs.Formula.{Subformula}
use Rattle.stl_syntax.specs.Truth.{Truth}
use Rattle.stl_syntax.specs.Verdicts.{IsTold, GoesOn, Describes, AreAlike}
use Rattle.stl_syntax.specs.declared.items.Verdict.{Verdict}

-- the time t lies between the places
record Between (c d : Place) (t : Rational) : Type 0 where
  after : (c.at <ʳ t) ⊎ ((c.at ≈ t) × (c.after ≡ false))
  before : (t <ʳ d.at) ⊎ ((t ≈ d.at) × (d.after ≡ true))

-- between two places there is a time
dense : (c d : Place) → Before c d → (t : Rational) × Between c d t
dense c d (inl l) = (middle c.at d.at, record { after = inl (left_of_middle l); before = inl (right_of_middle l) })
dense c d (inr (s, e, f)) = (c.at, record { after = inr (same_refl c.at, e); before = inr (s, f) })

-- a time before a place is before each later place
wider : (c d e : Place) (t : Rational) → Before d e ⊎ Same d e → Between c d t → Between c e t
wider c d e t w b = record { after = b.after; before = by_both w b.before }
  where
    by_both : Before d e ⊎ Same d e → (t <ʳ d.at) ⊎ ((t ≈ d.at) × (d.after ≡ true)) → (t <ʳ e.at) ⊎ ((t ≈ e.at) × (e.after ≡ true))
    by_both (inl (inl l)) (inl m) = inl (lt_trans m l)
    by_both (inl (inl l)) (inr (s, f)) = inl (lt_of_le_of_lt (le_of_same s) l)
    by_both (inl (inr (s, g, h))) (inl m) = inl (lt_of_lt_of_le m (le_of_same s))
    by_both (inl (inr (s, g, h))) (inr (r, f)) = inr (same_trans r s, h)
    by_both (inr (s, g)) (inl m) = inl (lt_of_lt_of_le m (le_of_same s))
    by_both (inr (s, g)) (inr (r, f)) = inr (same_trans r s, sym g ∙ f)

earlier : (c d e : Place) (t : Rational) → Before c d ⊎ Same c d → Between d e t → Between c e t
earlier c d e t w b = record { after = by_both w b.after; before = b.before }
  where
    by_both : Before c d ⊎ Same c d → (d.at <ʳ t) ⊎ ((d.at ≈ t) × (d.after ≡ false)) → (c.at <ʳ t) ⊎ ((c.at ≈ t) × (c.after ≡ false))
    by_both (inl (inl l)) (inl m) = inl (lt_trans l m)
    by_both (inl (inl l)) (inr (s, f)) = inl (lt_of_lt_of_le l (le_of_same s))
    by_both (inl (inr (s, g, h))) (inl m) = inl (lt_of_le_of_lt (le_of_same s) m)
    by_both (inl (inr (s, g, h))) (inr (r, f)) = absurd (let x : true ≡ false = sym h ∙ f in cc)
    by_both (inr (s, g)) (inl m) = inl (lt_of_le_of_lt (le_of_same s) m)
    by_both (inr (s, g)) (inr (r, f)) = inr (same_trans s r, g ∙ f)

-- the interval between the cuts of a span that begins at c
in_span : (v : Verdict) (t : Rational) → Between (begins (interval v.on)) (ends (interval v.on)) t → IsIn (interval v.on) t
in_span v t b = record { above = by_begin (interval v.on).from_in refl b.after; below = by_end (interval v.on).to_in refl b.before }
  where
    on : Interval
    on = interval v.on

    by_begin : (i : Bool) → on.from_in ≡ i → (on.from <ʳ t) ⊎ ((on.from ≈ t) × (not on.from_in ≡ false)) → MatchBool i (on.from ≤ʳ t) (on.from <ʳ t)
    by_begin true e (inl l) = le_of_lt l
    by_begin true e (inr (s, f)) = le_of_same s
    by_begin false e (inl l) = l
    by_begin false e (inr (s, f)) = absurd (let x : true ≡ false = sym (ap not e) ∙ f in cc)

    by_end : (i : Bool) → on.to_in ≡ i → (t <ʳ on.to) ⊎ ((t ≈ on.to) × (on.to_in ≡ true)) → MatchBool i (t ≤ʳ on.to) (t <ʳ on.to)
    by_end true e (inl l) = le_of_lt l
    by_end true e (inr (s, f)) = le_of_same s
    by_end false e (inl l) = l
    by_end false e (inr (s, f)) = absurd (let x : true ≡ false = sym f ∙ e in cc)

before_irrefl : (c d : Place) → Before c d → Before d c ⊎ Same d c → ⊥
before_irrefl c d h k = let t = dense c d h in no_time t.0 (wider c d c t.0 k t.1)
  where
    no_time : (t : Rational) → Between c c t → ⊥
    no_time t b = by_both b.after b.before
      where
        by_both : (c.at <ʳ t) ⊎ ((c.at ≈ t) × (c.after ≡ false)) → (t <ʳ c.at) ⊎ ((t ≈ c.at) × (c.after ≡ true)) → ⊥
        by_both (inl l) (inl m) = not_lt_of_le (le_of_lt l) m
        by_both (inl l) (inr (s, f)) = not_lt_of_le (le_of_same s) l
        by_both (inr (s, f)) (inl m) = not_lt_of_le (le_of_same s) m
        by_both (inr (s, f)) (inr (r, g)) = let x : true ≡ false = sym g ∙ f in cc

touch_cut : (a b : Interval) → Touch a b → Same (begins b) (ends a)
touch_cut a b h = (h.time, by_sides b.from_in a.to_in h.once)
  where
    by_sides : (i o : Bool) → i ≢ o → not i ≡ o
    by_sides true true n = absurd (n refl)
    by_sides true false n = refl
    by_sides false true n = refl
    by_sides false false n = absurd (n refl)

-- two verdicts with a cut inside both tell the same
same_truth : (p : Subformula) (tr : Trace) (v w : Verdict) (t : Rational) → IsTold p tr v → IsTold p tr w → IsIn (interval v.on) t
    → IsIn (interval w.on) t → v.holds ≡ w.holds
same_truth p tr v w t h k i j = by_truth v.holds w.holds (h.truth t i) (k.truth t j)
  where
    by_truth : (b c : Bool) → MatchBool b (Truth p tr t) (¬ Truth p tr t) → MatchBool c (Truth p tr t) (¬ Truth p tr t) → b ≡ c
    by_truth true true x y = refl
    by_truth true false x y = absurd (y x)
    by_truth false true x y = absurd (x y)
    by_truth false false x y = refl

overlap : (p : Subformula) (tr : Trace) (v w : Verdict) → IsTold p tr v → IsTold p tr w
    → Before (begins (interval w.on)) (begins (interval v.on)) ⊎ Same (begins (interval w.on)) (begins (interval v.on))
    → Before (begins (interval v.on)) (ends (interval w.on)) → v.holds ≡ w.holds
overlap p tr v w h k b l = by_order (place_order (ends (interval v.on)) (ends (interval w.on)))
  where
    at_time : (t : Rational) → Between (begins (interval v.on)) (ends (interval v.on)) t
        → Between (begins (interval v.on)) (ends (interval w.on)) t → v.holds ≡ w.holds
    at_time t x y = same_truth p tr v w t h k (in_span v t x)
        (in_span w t (earlier (begins (interval w.on)) (begins (interval v.on)) (ends (interval w.on)) t b y))

    full : (t : Rational) × Between (begins (interval v.on)) (ends (interval v.on)) t
    full = dense (begins (interval v.on)) (ends (interval v.on)) (before_of_not_empty (interval v.on) h.not_empty)

    part : (t : Rational) × Between (begins (interval v.on)) (ends (interval w.on)) t
    part = dense (begins (interval v.on)) (ends (interval w.on)) l

    by_order : Before (ends (interval v.on)) (ends (interval w.on)) ⊎ Same (ends (interval v.on)) (ends (interval w.on))
        ⊎ Before (ends (interval w.on)) (ends (interval v.on)) → v.holds ≡ w.holds
    by_order (inl o) = at_time full.0 full.1 (wider (begins (interval v.on)) (ends (interval v.on)) (ends (interval w.on)) full.0 (inl o) full.1)
    by_order (inr (inl o)) = at_time full.0 full.1 (wider (begins (interval v.on)) (ends (interval v.on)) (ends (interval w.on)) full.0 (inr o) full.1)
    by_order (inr (inr o)) = at_time part.0 (wider (begins (interval v.on)) (ends (interval w.on)) (ends (interval v.on)) part.0 (inl o) part.1) part.1

before_trans : (c d e : Place) → Before c d ⊎ Same c d → Before d e ⊎ Same d e → Before c e ⊎ Same c e
before_trans c d e h k = by_order (place_order c e)
  where
    by_order : Before c e ⊎ Same c e ⊎ Before e c → Before c e ⊎ Same c e
    by_order (inl o) = inl o
    by_order (inr (inl o)) = inr o
    by_order (inr (inr o)) = let t = dense e c o in absurd (no_time t.0 (wider e d e t.0 k (wider e c d t.0 h t.1)))
      where
        no_time : (t : Rational) → Between e e t → ⊥
        no_time t b = by_both b.after b.before
          where
            by_both : (e.at <ʳ t) ⊎ ((e.at ≈ t) × (e.after ≡ false)) → (t <ʳ e.at) ⊎ ((t ≈ e.at) × (e.after ≡ true)) → ⊥
            by_both (inl l) (inl m) = not_lt_of_le (le_of_lt l) m
            by_both (inl l) (inr (s, f)) = not_lt_of_le (le_of_same s) l
            by_both (inr (s, f)) (inl m) = not_lt_of_le (le_of_same s) m
            by_both (inr (s, f)) (inr (r, g)) = let x : true ≡ false = sym g ∙ f in cc

-- no span ends after the stretch
ends_by : (p : Subformula) (tr : Trace) (stretch : Interval) (v : Verdict) (vs : List Verdict) → GoesOn p tr stretch v vs
    → Before (ends (interval v.on)) (ends stretch) ⊎ Same (ends (interval v.on)) (ends stretch)
ends_by p tr stretch v [] h = inr (h.time, h.inside)
ends_by p tr stretch v (x ∷ xs) h =
    before_trans (ends (interval v.on)) (begins (interval x.on)) (ends stretch) (inr (same_places (touch_cut (interval v.on) (interval x.on) h.0)))
    (before_trans (begins (interval x.on)) (ends (interval x.on)) (ends stretch)
    (inl (before_of_not_empty (interval x.on) h.2.not_empty)) (ends_by p tr stretch x xs h.3))

-- two lists of verdicts of one stretch, with first spans v and w that begin alike
record BothGoOn (p : Subformula) (tr : Trace) (stretch : Interval) (v : Verdict) (vs : List Verdict) (w : Verdict) (ws : List Verdict) : Type 0 where
  -- both first spans are told of the formula
  told : IsTold p tr v
  other_told : IsTold p tr w
  -- they begin alike
  begin : Same (begins (interval v.on)) (begins (interval w.on))
  -- the others go on from them
  goes : GoesOn p tr stretch v vs
  other_goes : GoesOn p tr stretch w ws

-- the same, the other way round
swapped : {p : Subformula} {tr : Trace} {stretch : Interval} {v w : Verdict} {vs ws : List Verdict} → BothGoOn p tr stretch v vs w ws
    → BothGoOn p tr stretch w ws v vs
swapped h = record { told = h.other_told; other_told = h.told; begin = same_places h.begin; goes = h.other_goes; other_goes = h.goes }

-- of two lists that begin alike the first span of the one does not end before that of the other
not_shorter : (p : Subformula) (tr : Trace) (stretch : Interval) (v : Verdict) (vs : List Verdict) (w : Verdict) (ws : List Verdict)
    → BothGoOn p tr stretch v vs w ws → v.holds ≡ w.holds → Before (ends (interval v.on)) (ends (interval w.on)) → ⊥
not_shorter p tr stretch v [] w ws both e l =
    let end = both.goes in
    before_irrefl (ends (interval v.on)) (ends (interval w.on)) l
    (before_trans (ends (interval w.on)) (ends stretch) (ends (interval v.on)) (ends_by p tr stretch w ws both.other_goes)
    (inr (same_places (end.time, end.inside))))
not_shorter p tr stretch v (x ∷ xs) w ws both e l =
    let next = both.goes in
    next.1 (e ∙ sym (overlap p tr x w next.2 both.other_told
    (before_trans (begins (interval w.on)) (ends (interval v.on)) (begins (interval x.on))
    (inl (same_before (begins (interval w.on)) (begins (interval v.on)) (ends (interval v.on)) (same_places both.begin)
    (before_of_not_empty (interval v.on) both.told.not_empty)))
    (inr (same_places (touch_cut (interval v.on) (interval x.on) next.0))))
    (same_before (begins (interval x.on)) (ends (interval v.on)) (ends (interval w.on)) (touch_cut (interval v.on) (interval x.on) next.0) l)))

inside_alike : (a b : Bool) → not a ≡ not b → a ≡ b
inside_alike true true e = refl
inside_alike true false e = sym e
inside_alike false true e = sym e
inside_alike false false e = refl

told_alike : (p : Subformula) (tr : Trace) (v w : Verdict) → IsTold p tr v → IsTold p tr w
    → Same (begins (interval v.on)) (begins (interval w.on)) → v.holds ≡ w.holds
told_alike p tr v w a b s =
    overlap p tr v w a b (inr (same_places s))
    (same_before (begins (interval v.on)) (begins (interval w.on)) (ends (interval w.on)) s (before_of_not_empty (interval w.on) b.not_empty))

-- so they end alike
ends_alike : (p : Subformula) (tr : Trace) (stretch : Interval) (v : Verdict) (vs : List Verdict) (w : Verdict) (ws : List Verdict)
    → BothGoOn p tr stretch v vs w ws → Same (ends (interval v.on)) (ends (interval w.on))
ends_alike p tr stretch v vs w ws both = by_order (place_order (ends (interval v.on)) (ends (interval w.on)))
  where
    holds : v.holds ≡ w.holds
    holds = told_alike p tr v w both.told both.other_told both.begin

    by_order : Before (ends (interval v.on)) (ends (interval w.on)) ⊎ Same (ends (interval v.on)) (ends (interval w.on))
        ⊎ Before (ends (interval w.on)) (ends (interval v.on))
        → Same (ends (interval v.on)) (ends (interval w.on))
    by_order (inl o) = absurd (not_shorter p tr stretch v vs w ws both holds o)
    by_order (inr (inl o)) = o
    by_order (inr (inr o)) = absurd (not_shorter p tr stretch w ws v vs (swapped both) (sym holds) o)

-- nothing follows a span that ends as the stretch does
no_more : (p : Subformula) (tr : Trace) (stretch : Interval) (v x : Verdict) (xs : List Verdict) → GoesOn p tr stretch v (x ∷ xs)
    → Same (ends (interval v.on)) (ends stretch) → ⊥
no_more p tr stretch v x xs g s =
    before_irrefl (begins (interval x.on)) (ends (interval x.on)) (before_of_not_empty (interval x.on) g.2.not_empty)
    (before_trans (ends (interval x.on)) (ends stretch) (begins (interval x.on)) (ends_by p tr stretch x xs g.3)
    (before_trans (ends stretch) (ends (interval v.on)) (begins (interval x.on)) (inr (same_places s))
    (inr (same_places (touch_cut (interval v.on) (interval x.on) g.0)))))

rest_alike : (p : Subformula) (tr : Trace) (stretch : Interval) (v : Verdict) (vs : List Verdict) (w : Verdict) (ws : List Verdict)
    → Same (ends (interval v.on)) (ends (interval w.on)) → GoesOn p tr stretch v vs → GoesOn p tr stretch w ws → AreAlike vs ws
rest_alike p tr stretch v [] w [] e g h = tt
rest_alike p tr stretch v [] w (y ∷ ys) e g h = no_more p tr stretch w y ys h (same_trans_places (same_places e) (g.time, g.inside))
rest_alike p tr stretch v (x ∷ xs) w [] e g h = no_more p tr stretch v x xs g (same_trans_places e (h.time, h.inside))
rest_alike p tr stretch v (x ∷ xs) w (y ∷ ys) e g h =
    let s : Same (begins (interval x.on)) (begins (interval y.on)) =
    same_trans_places (touch_cut (interval v.on) (interval x.on) g.0) (same_trans_places e (same_places (touch_cut (interval w.on) (interval y.on) h.0))) in
    let f = ends_alike p tr stretch x xs y ys (record { told = g.2; other_told = h.2; begin = s; goes = g.3; other_goes = h.3 }) in (
      record { time = s.0; inside = inside_alike x.on.from_in y.on.from_in s.1 },
      record { time = f.0; inside = f.1 },
      told_alike p tr x y g.2 h.2 s,
      rest_alike p tr stretch x xs y ys f g.3 h.3,
    )

-- at most one list describes the formula on the stretch
pub Describes-unique : (p : Subformula) (tr : Trace) (stretch : Interval) (vs ws : List Verdict) → Describes vs p tr stretch
    → Describes ws p tr stretch → AreAlike vs ws
Describes-unique p tr stretch [] ws g h = absurd g
Describes-unique p tr stretch (v ∷ vs) [] g h = absurd h
Describes-unique p tr stretch (v ∷ vs) (w ∷ ws) g h =
    let s : Same (begins (interval v.on)) (begins (interval w.on)) =
    (same_trans g.0.time (same_sym h.0.time), ap not (g.0.inside ∙ sym h.0.inside)) in
    let f = ends_alike p tr stretch v vs w ws (record { told = g.1; other_told = h.1; begin = s; goes = g.2; other_goes = h.2 }) in (
      record { time = s.0; inside = g.0.inside ∙ sym h.0.inside },
      record { time = f.0; inside = f.1 },
      told_alike p tr v w g.1 h.1 s,
      rest_alike p tr stretch v vs w ws f g.2 h.2,
    )

-- lists that are alike stay so together
pub alike_append : (vs more ws others : List Verdict) → AreAlike vs ws → AreAlike more others → AreAlike (vs ++ more) (ws ++ others)
alike_append [] more [] others a b = b
alike_append [] more (w ∷ ws) others a b = absurd a
alike_append (v ∷ vs) more [] others a b = absurd a
alike_append (v ∷ vs) more (w ∷ ws) others (begin, end, holds, a) b = (begin, end, holds, alike_append vs more ws others a b)

-- lists that are alike have as many verdicts
pub alike_length : (vs ws : List Verdict) → AreAlike vs ws → length vs ≡ length ws
alike_length [] [] a = refl
alike_length [] (w ∷ ws) a = absurd a
alike_length (v ∷ vs) [] a = absurd a
alike_length (v ∷ vs) (w ∷ ws) a = ap suc (alike_length vs ws a.3)

-- two empty lists are alike
pub none_alike : (vs ws : List Verdict) → vs ≡ [] → ws ≡ [] → AreAlike vs ws
none_alike vs ws e f = subst (λ l. AreAlike l ws) (sym e) (subst (λ l. AreAlike [] l) (sym f) tt)

-- lists are alike the other way round
pub alike_sym : (vs ws : List Verdict) → AreAlike vs ws → AreAlike ws vs
alike_sym [] [] e = tt
alike_sym [] (w ∷ ws) e = absurd e
alike_sym (v ∷ vs) [] e = absurd e
alike_sym (v ∷ vs) (w ∷ ws) (begin, end, holds, e) = (
  record { time = same_sym begin.time; inside = sym begin.inside },
  record { time = same_sym end.time; inside = sym end.inside },
  sym holds,
  alike_sym vs ws e,
)
