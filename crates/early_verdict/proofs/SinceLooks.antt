-- A since that has a bound, and one that has none, of which the operands let go of times.
use Rattle.std.proofs.Common.{◌≡◌, ◌⊎◌, inl, inr, sym, subst, ◌∙◌, ℕ, ◌≤◌, Bool, Option, Some, None, List}
use Rattle.std.specs.Prelude.{MatchOption, slice_get}
use Rattle.std.proofs.lemmas.Option.{same_Some}
use Rattle.rational.specs.Time.{Rational, Within, later, ◌≤ʳ◌, ◌<ʳ◌}
use Rattle.rational.proofs.Order.{le_of_lt, le_refl, le_trans, lt_of_le_of_lt}
use Rattle.rational.proofs.TimeLemmas.{later_more, later_le_back, later_zero}
use Rattle.stl_syntax.specs.Trace.{Trace, start}
use Rattle.stl_syntax.specs.WellFormed.{AreWellFormed}
use Rattle.stl_syntax.specs.declared.node.Node.{Node}
use Rattle.stl_syntax.specs.declared.node.Node.TheVariants.{Since}
use Rattle.rational.specs.Places.{After}
use Rattle.rational.proofs.PlaceLemmas.{upto_earlier, after_later}
use Rattle.frac128.specs.Cuts.{place}
use Rattle.growing_sets.specs.Spans.{AreTidy, IsOn, Lies}
use Rattle.early_verdict.specs.Fitting.{ArePartsTidy, AreSetsTidy, IsTidy, Lists, lists_at}
use Rattle.early_verdict.specs.Living.{IsShown, LooksAlong, NetStands}
use Rattle.growing_sets.specs.Showing.{IsCutAt, IsGrownInside}
use Rattle.early_verdict.specs.Letting.{ArePartsCut, BeginsAtOnce, IsAskedFrom, IsCutTo, IsDecisive}
use Rattle.early_verdict.specs.Letting.{IsEndlessCutAt, IsEndlessPart, IsRunCutAt}
use Rattle.growing_sets.specs.declared.stretch.Stretch.{Stretch}
use Rattle.growing_sets.specs.declared.grown.Grown.{Grown}
use Rattle.early_verdict.specs.declared.sets.Sets.{Sets}
use Rattle.early_verdict.specs.declared.sets.Parts.{Parts}
use Rattle.early_verdict.proofs.AllSets.{is_shown, lists_are, shown_is}
use Rattle.early_verdict.proofs.LettingLemmas.{both_shown, still_on, two_less}
use Rattle.early_verdict.proofs.SinceSets.{none_later}
use Rattle.early_verdict.proofs.SinceStands.{AreBackCut, HoldAndFail, since_stands}
use Rattle.early_verdict.proofs.FewerTimes.{Beside, shown_begun}

-- sets that are cut are tidy
tidy_parts : (d from : Rational) (wide : Stretch) (o o' : Option Parts) → ArePartsCut d from wide o o' → MatchOption o (Unit {0}) ArePartsTidy
    → MatchOption o' (Unit {0}) ArePartsTidy
tidy_parts d from wide None o' c t = subst (λ z. MatchOption z (Unit {0}) ArePartsTidy) (sym c) tt
tidy_parts d from wide (Some x) None c t = absurd c
tidy_parts d from wide (Some x) (Some y) (k, m) t = record {
  holding = record { both = k.both.tidy; run = k.run.tidy; some = k.some.tidy; each = k.each.tidy };
  failing = record { fail = m.fail.tidy; stop = m.stop.tidy; never = m.never.tidy; broken = m.broken.tidy };
}

-- with a bound each is cut
bounded_parts : (d from : Rational) (wide : Stretch) (a b : ℕ) (ys : List Stretch) (o o' : Option Parts) → ArePartsCut d from wide o o'
    → AreBackCut d from wide a (Some b) ys o o'
bounded_parts d from wide a b ys None o' c = c
bounded_parts d from wide a b ys (Some x) None c = c
bounded_parts d from wide a b ys (Some x) (Some y) (k, m) = record {
  both = k.both;
  run = k.run;
  each = k.each;
  runs = k.carried;
  some = k.some;
  fail = m.fail;
  stop = m.stop;
  broken = m.broken;
  stops = m.carried;
  never = m.never;
}

module _ {nodes : List Node} (formed : AreWellFormed nodes) {tr : Trace} {kept cut_to live left old mid new : List Sets} {i p q a b : ℕ}
    (at : slice_get nodes i ≡ Some (Since p q a (Some b))) (order : a ≤ b) {d from : Rational} (back : later d b ≤ʳ from) {wide : Stretch}
    (cut : IsRunCutAt i d from wide kept cut_to) (there : Beside nodes i live left old new cut.was cut.is)
    {l' : Sets} (at_left : slice_get new p ≡ Some l') (is_wide : wide ≡ l'.no.bounds)
    (begins : (t : Rational) → Lies cut.was.no.bounds t → from ≤ʳ t) (h : IsAskedFrom p d old mid) (g : IsAskedFrom q d mid new)
    (st : NetStands nodes tr live old) where
  looks : (t : Rational) → from ≤ʳ t → LooksAlong (start tr) p q a (Some b) old t → LooksAlong (start tr) p q a (Some b) new t
  looks t f (inl k) = inl (λ u o.
      let m = k u o in
      let e = later_le_back d u b (le_trans back (le_trans f o.begins)) in
      (both_shown h g p u e m.0, both_shown h g q u e m.1))
  looks t f (inr (w, o, k, e)) = inr (
    w,
    o,
    still,
    elim e [
      | inl y ↦ inl ((still_on old new (two_less h g) p w at_w.0).0 y.0, (still_on old new (two_less h g) q w at_w.1).0 y.1)
      | inr n ↦ inr ((still_on old new (two_less h g) p w at_w.0).1 n)
    ],
  )
    where
      first : d ≤ʳ w
      first = later_le_back d w b (le_trans back (le_trans f o.begins))

      still : (v : Rational) → Within w t v → IsShown new p v × IsShown new q v
      still v n =
          let m = k v n in
          let j = le_trans first n.above in
          (both_shown h g p v j m.0, both_shown h g q v j m.1)

      at_w : IsShown new p w × IsShown new q w
      at_w = still w (record { above = le_refl w; below = none_later w t a o.ends })

  -- what stands goes on to stand, where a since with a bound lets go
  pub bounded_stands : NetStands nodes tr left new
  bounded_stands = since_stands formed i at (le_trans (later_more d a b order) back) back there cut.by.yes cut.by.no
      (tidy_parts d from wide cut.was.parts cut.is.parts cut.by.parts (st.tidy i cut.was there.is).parts)
      (bounded_parts d from wide a b (lists_at new q).yes cut.was.parts cut.is.parts cut.by.parts) at_left is_wide begins h g st looks

-- without a bound the sets that see to the start are made anew
module _ (d from : Rational) (wide : Stretch) (a : ℕ) (ys : List Stretch) where
  endless_parts : (o m r : Option Parts) → ArePartsCut d from wide o m → MatchOption m (r ≡ None) (λ x. MatchOption r ⊥ (IsEndlessPart a ys x))
      → AreBackCut d from wide a None ys o r
  endless_parts None m r c e = subst (λ z. MatchOption z (r ≡ None) (λ x. MatchOption r ⊥ (IsEndlessPart a ys x))) c e
  endless_parts (Some x) None r c e = absurd c
  endless_parts (Some x) (Some y) None c e = absurd e
  endless_parts (Some x) (Some y) (Some z) (k, m) e = record {
    both = subst (λ (s : Grown). IsCutAt d x.holding.both s) (sym e.both) k.both;
    run = subst (λ (s : Grown). IsCutAt d x.holding.run s) (sym e.run) k.run;
    each = subst (λ (s : Grown). IsCutAt from x.holding.each s) (sym e.each) k.each;
    runs = subst (λ (c : Bool). BeginsAtOnce c z.holding.run) (sym e.runs) (subst (λ (s : Grown). BeginsAtOnce y.holding.carried s) (sym e.run) k.carried);
    some = record {
      tidy = e.some.tidy;
      less = λ t l. k.some.less t (subst (λ s. Lies s t) e.some.bounds l);
      left = λ t l f. subst (λ s. Lies s t) (sym e.some.bounds) (k.some.left t l f);
      has = λ t l o u w f. e.some.left t (k.some.has t (subst (λ s. Lies s t) e.some.bounds l) o) u w f;
      only = λ t o. let n = e.some.kept t o in (subst (λ s. Lies s t) (sym e.some.bounds) (k.some.only t n.0).1, n.1);
    };
    fail = subst (λ (s : Grown). IsCutTo wide x.failing.fail s) (sym e.fail) m.fail;
    stop = subst (λ (s : Grown). IsCutTo wide x.failing.stop s) (sym e.stop) m.stop;
    broken = subst (λ (s : Grown). IsCutAt from x.failing.broken s) (sym e.broken) m.broken;
    stops = subst (λ (c : Bool). BeginsAtOnce c z.failing.stop) (sym e.stops) (subst (λ (s : Grown). BeginsAtOnce y.failing.carried s) (sym e.stop) m.carried);
    never = record {
      none = e.never;
      left = λ t l f. subst (λ s. Lies s t) (sym e.never_bounds) (m.never.left t l f);
      after = λ t l f u n. m.never.after t l f u (subst (λ s. Lies s u) e.never_bounds n);
    };
  }

module _ {nodes : List Node} (formed : AreWellFormed nodes) {tr : Trace} {kept half cut_to live left old mid new : List Sets} {i p q a : ℕ}
    (at : slice_get nodes i ≡ Some (Since p q a None)) {d from : Rational} (back : later d a ≤ʳ from) {wide : Stretch}
    (cut : IsRunCutAt i d from wide kept half) (anew : IsEndlessCutAt i a (lists_at new q).yes half cut_to)
    (there : Beside nodes i live left old new cut.was anew.is) {l' : Sets} (at_left : slice_get new p ≡ Some l')
    (is_wide : wide ≡ l'.no.bounds) (begins : (t : Rational) → Lies cut.was.no.bounds t → from ≤ʳ t) (h : IsAskedFrom p d old mid) (g : IsAskedFrom q d mid new)
    {wl wr : Sets} (at_l : slice_get old p ≡ Some wl) (at_r : slice_get old q ≡ Some wr) (dec : IsDecisive d cut.was wl wr)
    (st : NetStands nodes tr live old) where
  start_before : start tr <ʳ d
  start_before = let m = dec.first in lt_of_le_of_lt (shown_begun st p m.0 (is_shown old p wl m.0 at_l m.1)) m.2

  decides : (IsOn (lists_at old p).yes d × IsOn (lists_at old q).yes d) ⊎ IsOn (lists_at old p).no d
  decides = elim dec.decides [
    | inl o ↦ inl (by_parts cut.was.parts (st.fit i (Since p q a None) cut.was at there.is) o)
    | inr o ↦ inr (subst (λ (l : Lists). IsOn l.no d) (sym (lists_are old p wl at_l)) o)
  ]
    where
      by_parts : (o : Option Parts) → MatchOption o ⊥ (HoldAndFail tr a None (lists_at old p) (lists_at old q) cut.was)
          → MatchOption o (Unit {0}) (λ x. IsOn x.holding.both.spans.items d) → IsOn (lists_at old p).yes d × IsOn (lists_at old q).yes d
      by_parts None f o = absurd f
      by_parts (Some x) (f, m, n) o = (f.both.only d o).1

  now_shown : (t : Rational) → d ≤ʳ t → LooksAlong (start tr) p q a None old t → IsShown old p t × IsShown old q t
  now_shown t f (inl k) = k t (record { after = le_trans (le_of_lt start_before) f; begins = tt; ends = later_zero t })
  now_shown t f (inr (w, o, k, e)) = k t (record { above = none_later w t a o.ends; below = le_refl t })

  looks_anew : (t : Rational) → from ≤ʳ t → LooksAlong (start tr) p q a None old t → LooksAlong (start tr) p q a None new t
  looks_anew t f k = inr (
    d,
    record { after = le_of_lt start_before; begins = tt; ends = ends },
    still,
    elim decides [
      | inl y ↦ inl ((still_on old new (two_less h g) p d at_d.0).0 y.0, (still_on old new (two_less h g) q d at_d.1).0 y.1)
      | inr n ↦ inr ((still_on old new (two_less h g) p d at_d.0).1 n)
    ],
  )
    where
      ends : later d a ≤ʳ t
      ends = le_trans back f

      dt : d ≤ʳ t
      dt = none_later d t a ends

      between_them : (n : ℕ) (w : Sets) → slice_get old n ≡ Some w → After (place w.no.bounds.from) d → IsShown old n t
          → (v : Rational) → d ≤ʳ v → v ≤ʳ t → IsShown old n v
      between_them n w e b m v j u =
          let l = shown_is old n w t e m in
          is_shown old n w v e (after_later (place w.no.bounds.from) d v j b, upto_earlier (place w.no.bounds.to) v t u l.1)

      still : (v : Rational) → Within d t v → IsShown new p v × IsShown new q v
      still v n =
          let m = now_shown t dt k in (
            both_shown h g p v n.above (between_them p wl at_l dec.after_left m.0 v n.above n.below),
            both_shown h g q v n.above (between_them q wr at_r dec.after_right m.1 v n.above n.below),
          )

      at_d : IsShown new p d × IsShown new q d
      at_d = still d (record { above = le_refl d; below = dt })

  same_half : cut.is ≡ anew.was
  same_half = same_Some cut.is anew.was (sym cut.at_new ∙ anew.at_old)

  tidy_anew : (m r : Option Parts) → MatchOption m (r ≡ None) (λ x. MatchOption r ⊥ (IsEndlessPart a (lists_at new q).yes x))
      → MatchOption m (Unit {0}) ArePartsTidy
      → MatchOption r (Unit {0}) ArePartsTidy
  tidy_anew None r e t = subst (λ z. MatchOption z (Unit {0}) ArePartsTidy) (sym e) tt
  tidy_anew (Some x) None e t = absurd e
  tidy_anew (Some x) (Some y) e t = record {
    holding = record {
      both = subst (λ (s : Grown). IsTidy s) (sym e.both) t.holding.both;
      run = subst (λ (s : Grown). IsTidy s) (sym e.run) t.holding.run;
      some = e.some.tidy;
      each = subst (λ (s : Grown). IsTidy s) (sym e.each) t.holding.each;
    };
    failing = record {
      fail = subst (λ (s : Grown). IsTidy s) (sym e.fail) t.failing.fail;
      stop = subst (λ (s : Grown). IsTidy s) (sym e.stop) t.failing.stop;
      never = subst AreTidy (sym e.never) tt;
      broken = subst (λ (s : Grown). IsTidy s) (sym e.broken) t.failing.broken;
    };
  }

  half_cut : ArePartsCut d from wide cut.was.parts anew.was.parts
  half_cut = subst (λ (s : Sets). ArePartsCut d from wide cut.was.parts s.parts) same_half cut.by.parts

  -- and where one without a bound begins anew
  pub endless_stands : NetStands nodes tr left new
  endless_stands = since_stands formed i at back start_before there
      (anew.by.yes ∙ subst (λ (s : Sets). s.yes ≡ cut.was.yes) same_half cut.by.yes)
      (anew.by.no ∙ subst (λ (s : Sets). s.no ≡ cut.was.no) same_half cut.by.no)
      (tidy_anew anew.was.parts anew.is.parts anew.by.parts
      (tidy_parts d from wide cut.was.parts anew.was.parts half_cut (st.tidy i cut.was there.is).parts))
      (endless_parts d from wide a (lists_at new q).yes cut.was.parts anew.was.parts anew.is.parts half_cut anew.by.parts)
      at_left is_wide begins h g st looks_anew

-- where the sets between of one node are cut, its sets are tidy still, and of those that see to the start the times lie within the bounds
module _ {live half : List Sets} {i : ℕ} {d from : Rational} {wide : Stretch} (cut : IsRunCutAt i d from wide live half) where
  -- its sets are tidy still
  pub half_tidy : ((s : Sets) → slice_get live i ≡ Some s → AreSetsTidy s) → (s : Sets) → slice_get half i ≡ Some s → AreSetsTidy s
  half_tidy t s e = subst AreSetsTidy (same_Some cut.is s (sym cut.at_new ∙ e)) (record {
    yes = subst (λ (y : Grown). IsTidy y) (sym cut.by.yes) was.yes;
    no = subst (λ (y : Grown). IsTidy y) (sym cut.by.no) was.no;
    parts = tidy_parts d from wide cut.was.parts cut.is.parts cut.by.parts was.parts;
  })
    where
      was : AreSetsTidy cut.was
      was = t cut.was cut.at_old

  -- the times of the one that sees to the start lie within its bounds
  pub half_inside : (s : Sets) → slice_get half i ≡ Some s → MatchOption s.parts (Unit {0}) (λ x. IsGrownInside x.holding.some)
  half_inside s e =
      subst (λ (z : Sets). MatchOption z.parts (Unit {0}) (λ x. IsGrownInside x.holding.some)) (same_Some cut.is s (sym cut.at_new ∙ e))
      (by_parts cut.was.parts cut.is.parts cut.by.parts)
    where
      by_parts : (o o' : Option Parts) → ArePartsCut d from wide o o' → MatchOption o' (Unit {0}) (λ x. IsGrownInside x.holding.some)
      by_parts None o' c = subst (λ z. MatchOption z (Unit {0}) (λ x. IsGrownInside x.holding.some)) (sym c) tt
      by_parts (Some x) None c = absurd c
      by_parts (Some x) (Some y) (k, m) = λ t o. (k.some.only t o).1
