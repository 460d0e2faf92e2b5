-- What stands goes on to stand, where an until and its operands let go of the times before its own.
use Rattle.std.proofs.Common.{◌≡◌, ◌⊎◌, inl, inr, refl, sym, subst, ◌∙◌, ℕ, ◌<◌, true, false, Option, Some, None, List, length, arith}
use Rattle.std.specs.Prelude.{MatchOption, IsSome, slice_get}
use Rattle.std.proofs.lemmas.Option.{same_Some, slice_get_within}
use Rattle.rational.specs.Time.{Rational, ◌≤ʳ◌}
use Rattle.rational.proofs.Order.{le_refl, le_trans}
use Rattle.rational.proofs.TimeLemmas.{later_from}
use Rattle.stl_syntax.specs.Trace.{Trace, start}
use Rattle.stl_syntax.specs.WellFormed.{AreWellFormed}
use Rattle.stl_syntax.specs.declared.node.Node.{Node}
use Rattle.stl_syntax.specs.declared.node.Node.TheVariants.{Until}
use Rattle.stl_syntax.proofs.PostOrderLemmas.{placed, child_below}
use Rattle.stl_syntax.specs.Cells.{IsChild}
use Rattle.rational.specs.Places.{Upto}
use Rattle.frac128.specs.Cuts.{place}
use Rattle.growing_sets.specs.Spans.{IsOn, Lies}
use Rattle.growing_sets.specs.Steps.{Tells}
use Rattle.early_verdict.specs.Fitting.{Lists, lists_at, lists_of, ArePartsTidy, AreSetsTidy, FailWithin, HasFailBounds}
use Rattle.early_verdict.specs.Fitting.{IsTidy, SayOfParts, UntilFits, UntilHolding, UntilFailing}
use Rattle.early_verdict.specs.Living.{IsLive, NetStands, ReachesAhead}
use Rattle.early_verdict.specs.Letting.{AreAskedBy, AreLess, ArePartsCut, ArePartsInside, IsFailingCut, IsFailingInside}
use Rattle.early_verdict.specs.Letting.{IsHoldingCut, IsHoldingInside, IsInside, IsLess, IsRunCutAt, ShowsFrom}
use Rattle.growing_sets.specs.declared.stretch.Stretch.{Stretch}
use Rattle.growing_sets.specs.declared.grown.Grown.{Grown}
use Rattle.early_verdict.specs.declared.sets.Sets.{Sets}
use Rattle.early_verdict.specs.declared.sets.Parts.{Parts}
use Rattle.early_verdict.proofs.AllSets.{lists_are}
use Rattle.early_verdict.proofs.FewerTimes.{Beside, live_by, one_stands, shown_begun, shown_inside}
use Rattle.rational.proofs.PlaceLemmas.{between}
use Rattle.rational.proofs.Lists.{slice_get_there}
use Rattle.early_verdict.proofs.SetsTell.{unit_of}
use Rattle.growing_sets.proofs.StretchLemmas.{rises}
use Rattle.early_verdict.proofs.UntilCuts.{Agree, broken_in, each_in, failing_cut, holding_cut, never_in, some_in}

-- the sets between lie within their bounds, and what fails within what the left operand shows
module _ {nodes : List Node} {tr : Trace} {live old new : List Sets} (i : ℕ) {p q a b : ℕ}
    (at : slice_get nodes i ≡ Some (Until p q a b)) {from : Rational} {wide : Stretch}
    {l' : Sets} (at_left : slice_get new p ≡ Some l') (is_wide : wide ≡ l'.no.bounds)
    (asked : AreAskedBy (Until p q a b) from old new) (st : NetStands nodes tr live old)
    {s : Sets} (is : slice_get live i ≡ Some s) where
  shown_here : (w : Sets) × (slice_get old i ≡ Some w)
  shown_here = slice_get_there old i (let e = slice_get_within live i s is in let c = st.have.count in let d = st.have.shown_count in omega (arith, e, c, d))

  left_here : (l : Sets) × (slice_get old p ≡ Some l) × IsLess l l'
  left_here = asked.less.each p l' at_left

  up_to : (z : Stretch) → z ≡ (left_here.0).no.bounds → (t : Rational) → Lies z t → Upto (place wide.to) t
  up_to z e t l =
      subst (λ (v : Stretch). Upto (place v.to) t) (sym is_wide)
      ((asked.cut tt p left_here.0 l' (inl refl) left_here.1 at_left).ends t (subst (λ (v : Stretch). Upto (place v.to) t) e l.1))

  -- the sets between lie within the bounds
  pub parts_inside : ArePartsInside wide s
  parts_inside = by_parts s.parts (st.fit i (Until p q a b) s at is)
      ((st.have.has i (Until p q a b) s shown_here.0 at is shown_here.1).left.1 left_here.0 left_here.1)
    where
      by_parts : (o : Option Parts)
          → MatchOption o ⊥ (λ x. UntilHolding tr a b (lists_at old p) (lists_at old q) x.holding
          × UntilFailing false tr a b (lists_at old p) (lists_at old q) x.failing × SayOfParts s x)
          → MatchOption o (Unit {0}) (FailWithin (left_here.0).no.bounds)
          → MatchOption o (Unit {0}) (λ x. IsHoldingInside x.holding × IsFailingInside wide x.failing)
      by_parts None h e = tt
      by_parts (Some x) (h, f, g) e = (
        record {
          both = λ t o. (h.both.only t o).0;
          run = λ t o. (h.run.only t o).0;
          some = λ t o. (h.some.only t o).0;
          each = λ t o. (h.each.only t o).0;
        },
        record {
          fail = λ t o. up_to x.failing.fail.bounds e.0 t (f.fail.only t o).0;
          stop = λ t o. up_to x.failing.stop.bounds e.1 t (f.stop.only t o).0;
          never = λ t o. (f.never.only t o).0;
          broken = λ t o. (f.broken.only t o).0;
        },
      )

-- a node's children that show from a time on what they showed
module _ {nodes : List Node} (formed : AreWellFormed nodes) {tr : Trace} {live old new : List Sets} {i : ℕ} {n : Node} (at : slice_get nodes i ≡ Some n)
    (small : i < length nodes) {from : Rational} (less : AreLess old new)
    (shows : (r : ℕ) (w x : Sets) → IsChild n r → slice_get old r ≡ Some w → slice_get new r ≡ Some x → ShowsFrom from w x)
    (st : NetStands nodes tr live old) where
  -- their lists agree from there on
  pub agree_from : (r : ℕ) → IsChild n r → Agree from (lists_at old r) (lists_at new r)
  agree_from r c =
      let below = child_below i r n (placed nodes i n formed.post_order at) c in
      let x = slice_get_there new r (let e = small in let d = st.have.shown_count in let f = less.count in omega (arith, below, e, d, f)) in
      let w = less.each r x.0 x.1 in
      by_sets w.0 x.0 w.1 x.1 w.2 (shows r w.0 x.0 c w.1 x.1) (shown_inside st r w.0 w.1)
    where
      by_sets : (w x : Sets) → slice_get old r ≡ Some w → slice_get new r ≡ Some x → IsLess w x → ShowsFrom from w x → IsInside w
          → Agree from (lists_at old r) (lists_at new r)
      by_sets w x e f fewer shows inside =
          subst (λ (l : Lists). Agree from l (lists_at new r)) (sym (lists_are old r w e))
          (subst (λ (l : Lists). Agree from (lists_of w) l) (sym (lists_are new r x f)) (record {
            yes_in = λ t k o. fewer.yes_in t (shows.left t (inside.yes t o) k) o;
            yes_out = fewer.yes_out;
            no_in = λ t k o. fewer.no_in t (shows.left t (inside.no t o) k) o;
            no_out = fewer.no_out;
          }))

module _ {nodes : List Node} (formed : AreWellFormed nodes) {tr : Trace} {kept cut_to live left old new : List Sets} {i p q a b : ℕ}
    (at : slice_get nodes i ≡ Some (Until p q a b)) {from : Rational} {wide : Stretch}
    (cut : IsRunCutAt i from from wide kept cut_to) (there : Beside nodes i live left old new cut.was cut.is) {l' : Sets}
    (at_left : slice_get new p ≡ Some l') (is_wide : wide ≡ l'.no.bounds)
    (begins : (t : Rational) → Lies cut.was.no.bounds t → from ≤ʳ t) (asked : AreAskedBy (Until p q a b) from old new) (st : NetStands nodes tr live old) where
  small : i < length nodes
  small = let e = slice_get_within live i cut.was there.is in let c = st.have.count in omega (arith, e, c)

  -- the left operand's bounds, as they were
  was_left : (l : Sets) × (slice_get old p ≡ Some l) × IsLess l l'
  was_left = asked.less.each p l' at_left

  shows : ShowsFrom from was_left.0 l'
  shows = asked.cut tt p was_left.0 l' (inl refl) was_left.1 at_left

  own_shown : (w : Sets) × (slice_get old i ≡ Some w)
  own_shown = slice_get_there old i (let e = small in let d = st.have.shown_count in omega (arith, e, d))

  was : IsLive (start tr) old (Until p q a b) cut.was own_shown.0
  was = st.have.has i (Until p q a b) cut.was own_shown.0 at there.is own_shown.1

  begun : (t : Rational) → Lies was.own t → from ≤ʳ t
  begun t l = begins t (subst (λ z. Lies z t) (sym was.no) l)

  now : (t : Rational) × Lies was.own t
  now = let m = between (place was.own.from) (place was.own.to) (rises was.own) in (m.0, (m.1, m.2))

  from_now : from ≤ʳ now.0
  from_now = begun now.0 now.1

  fail_bounds : HasFailBounds cut.was was_left.0
  fail_bounds = was.left.1 was_left.0 was_left.1

  less_wide : (s : Stretch) → s ≡ (was_left.0).no.bounds → (t : Rational) → Lies wide t → Lies s t
  less_wide s e t l = subst (λ z. Lies z t) (sym e) (was_left.2.less t (subst (λ z. Lies z t) is_wide l))

  left_wide : (s : Stretch) → s ≡ (was_left.0).no.bounds → (t : Rational) → Lies s t → from ≤ʳ t → Lies wide t
  left_wide s e t l f = subst (λ z. Lies z t) (sym is_wide) (shows.left t (subst (λ z. Lies z t) e l) f)

  -- each of these has a time of the until's own
  module _ (x y : Parts) (k : IsHoldingCut from from x.holding y.holding) (m : IsFailingCut from wide x.failing y.failing)
      (r : ReachesAhead (start tr) b was.own x)
      (e : FailWithin (was_left.0).no.bounds x) where
    reach_cut : ReachesAhead (start tr) b was.own y
    reach_cut = record {
      some = λ t l. let z = r.some t l in (k.some.left t z.0 (begun t l), k.each.left t z.1 (begun t l));
      never = λ t l. let z = r.never t l in (m.never.left t z.0 (begun t l), m.broken.left t z.1 (begun t l));
      both = λ t u l f g. let z = r.both t u l f g in let h = le_trans (begun t l) f in (k.both.left u z.0 h, k.run.left u z.1 h);
      fail = λ t u l f g. let z = r.fail t u l f g in let h = le_trans (begun t l) f in (
        subst (λ v. Lies v u) (sym m.fail.bounds_are) (left_wide x.failing.fail.bounds e.0 u z.0 h),
        subst (λ v. Lies v u) (sym m.stop.bounds_are) (left_wide x.failing.stop.bounds e.1 u z.1 h),
      );
    }

    -- the wide times have one of the until's own
    at_wide : (u : Rational) → Lies wide u → from ≤ʳ u
    at_wide u l =
        let z = r.fail now.0 now.0 now.1 (le_refl now.0) (later_from now.0 b) in
        shows.after now.0 (subst (λ v. Lies v now.0) e.0 z.0) from_now u (subst (λ v. Lies v u) is_wide l)

    parts_fit : UntilHolding tr a b (lists_at old p) (lists_at old q) x.holding
        × UntilFailing false tr a b (lists_at old p) (lists_at old q) x.failing × SayOfParts cut.was x
        → UntilHolding tr a b (lists_at new p) (lists_at new q) y.holding
        × UntilFailing false tr a b (lists_at new p) (lists_at new q) y.failing × SayOfParts cut.is y
    parts_fit (h, f, s) =
        let P = agree_from formed at small asked.less (asked.cut tt) st p (inl refl) in
        let Q = agree_from formed at small asked.less (asked.cut tt) st q (inr refl) in
        let z = r.some now.0 now.1 in
        let v = r.never now.0 now.1 in
        let c = r.both now.0 now.0 now.1 (le_refl now.0) (later_from now.0 b) in
        let in_some = some_in from tr a b (lists_at old p) (lists_at old q) (lists_at new p)
        (lists_at new q) P Q now.0 from_now x.holding y.holding k h c.0 c.1 z.0 z.1 in
        let in_each = each_in from tr a b (lists_at old p) (lists_at old q) (lists_at new p)
        (lists_at new q) P Q now.0 from_now x.holding y.holding k h c.0 c.1 z.0 z.1 in
        let in_never =
        never_in from tr a b (lists_at old p) (lists_at old q) (lists_at new p) (lists_at new q) P Q now.0 from_now wide x.failing y.failing m f v.0 v.1
        (less_wide x.failing.fail.bounds e.0) (left_wide x.failing.fail.bounds e.0) (less_wide x.failing.stop.bounds e.1)
        (left_wide x.failing.stop.bounds e.1) at_wide in
        let in_broken = broken_in from tr a b (lists_at old p) (lists_at old q) (lists_at new p)
        (lists_at new q) P Q now.0 from_now wide x.failing y.failing m f v.0 v.1
        (less_wide x.failing.fail.bounds e.0) (left_wide x.failing.fail.bounds e.0) (less_wide x.failing.stop.bounds e.1)
        (left_wide x.failing.stop.bounds e.1) at_wide in (
          holding_cut from tr a b (lists_at old p) (lists_at old q) (lists_at new p)
              (lists_at new q) P Q now.0 from_now x.holding y.holding k h c.0 c.1 z.0 z.1,
          failing_cut from tr a b (lists_at old p) (lists_at old q) (lists_at new p) (lists_at new q) P Q now.0 from_now wide x.failing y.failing m f v.0 v.1
              (less_wide x.failing.fail.bounds e.0) (left_wide x.failing.fail.bounds e.0) (less_wide x.failing.stop.bounds e.1)
              (left_wide x.failing.stop.bounds e.1) at_wide,
          record {
            yes = subst (λ (g : Grown). Tells g.bounds g.spans.items (λ t. IsOn y.holding.some.spans.items t × IsOn y.holding.each.spans.items t))
                (sym cut.by.yes) (record {
                  has = λ t l o. s.yes.has t l ((k.some.only t o.0).0, (k.each.only t o.1).0);
                  only = λ t o. let n = s.yes.only t o in let g = begun t (subst (λ z. Lies z t) was.yes n.0) in (n.0, (in_some t g n.1.0, in_each t g n.1.1));
                });
            no = subst (λ (g : Grown). Tells g.bounds g.spans.items (λ t. IsOn y.failing.never.spans.items t ⊎ IsOn y.failing.broken.spans.items t))
                (sym cut.by.no) (record {
                  has = λ t l o. s.no.has t l (elim o [ inl n ↦ inl (m.never.only t n).0 | inr n ↦ inr (m.broken.only t n).0 ]);
                  only = λ t o. let n = s.no.only t o in let g = begun t (subst (λ z. Lies z t) was.no n.0) in (
                    n.0,
                    elim n.1 [ inl j ↦ inl (in_never t g j) | inr j ↦ inr (in_broken t g j) ],
                  );
                });
          },
        )

    parts_tidy : ArePartsTidy y
    parts_tidy = record {
      holding = record { both = k.both.tidy; run = k.run.tidy; some = k.some.tidy; each = k.each.tidy };
      failing = record { fail = m.fail.tidy; stop = m.stop.tidy; never = m.never.tidy; broken = m.broken.tidy };
    }

  -- of both or of none
  by_parts : (R : Parts → Type 0) (S : Parts → Type 0)
      → ((x y : Parts) → IsHoldingCut from from x.holding y.holding → IsFailingCut from wide x.failing y.failing
      → ReachesAhead (start tr) b was.own x → FailWithin (was_left.0).no.bounds x → R x → S y)
      → (N : Type 0) → (o o' : Option Parts) → ArePartsCut from from wide o o' → MatchOption o (Unit {0}) (ReachesAhead (start tr) b was.own)
      → MatchOption o (Unit {0}) (FailWithin (was_left.0).no.bounds) → MatchOption o N R
      → MatchOption o' N S
  by_parts R S f N None o' c r e h = subst (λ z. MatchOption z N S) (sym c) h
  by_parts R S f N (Some x) None c r e h = absurd c
  by_parts R S f N (Some x) (Some y) c r e h = f x y c.0 c.1 r e h

  reach_parts : MatchOption cut.is.parts (Unit {0}) (ReachesAhead (start tr) b was.own)
  reach_parts = by_parts (λ x. Unit {0}) (ReachesAhead (start tr) b was.own) (λ x y k m r e u. reach_cut x y k m r e)
      (Unit {0}) cut.was.parts cut.is.parts cut.by.parts
      was.looks.1 fail_bounds (unit_of cut.was.parts)

  is_some : IsSome cut.is.parts
  is_some = by_some cut.was.parts cut.is.parts cut.by.parts was.left.0
    where
      by_some : (o o' : Option Parts) → ArePartsCut from from wide o o' → IsSome o → IsSome o'
      by_some None o' c s = absurd (let f : false ≡ true = s in cc)
      by_some (Some x) None c s = absurd c
      by_some (Some x) (Some y) c s = refl

  still_fails : (l : Sets) → slice_get new p ≡ Some l → HasFailBounds cut.is l
  still_fails l f =
      subst (λ z. HasFailBounds cut.is z) (same_Some l' l (sym at_left ∙ f))
      (by_parts (λ x. Unit {0}) (FailWithin l'.no.bounds)
      (λ x y k m r e u. (m.fail.bounds_are ∙ is_wide, m.stop.bounds_are ∙ is_wide)) (Unit {0}) cut.was.parts cut.is.parts cut.by.parts was.looks.1 fail_bounds
      (unit_of cut.was.parts))

  mine : (w x : Sets) → slice_get old i ≡ Some w → slice_get new i ≡ Some x → IsLess w x → IsLive (start tr) new (Until p q a b) cut.is x
  mine w x e f less =
      live_by formed i at there asked.less asked.others st (Until p q a b)
      cut.was cut.is own_shown.0 x cut.by.yes cut.by.no (subst (λ z. IsLess z x) (same_Some w own_shown.0 (sym e ∙ own_shown.1)) less) was
      ((asked.looks (start tr) was.own cut.was.parts (shown_begun st) begun was.looks).0, reach_parts) (is_some, still_fails)

  fits : UntilFits false tr a b (lists_at new p) (lists_at new q) cut.is
  fits = by_parts
      (λ x. UntilHolding tr a b (lists_at old p) (lists_at old q) x.holding
      × UntilFailing false tr a b (lists_at old p) (lists_at old q) x.failing × SayOfParts cut.was x)
      (λ y. UntilHolding tr a b (lists_at new p) (lists_at new q) y.holding
      × UntilFailing false tr a b (lists_at new p) (lists_at new q) y.failing × SayOfParts cut.is y)
      (λ x y k m r e h. parts_fit x y k m r e h) ⊥ cut.was.parts cut.is.parts cut.by.parts was.looks.1 fail_bounds
      (st.fit i (Until p q a b) cut.was at there.is)

  tidy : AreSetsTidy cut.is
  tidy =
      let h = st.tidy i cut.was there.is in
      record {
        yes = subst (λ (g : Grown). IsTidy g) (sym cut.by.yes) h.yes;
        no = subst (λ (g : Grown). IsTidy g) (sym cut.by.no) h.no;
        parts = by_parts ArePartsTidy ArePartsTidy (λ x y k m r e u. parts_tidy x y k m r e)
            (Unit {0}) cut.was.parts cut.is.parts cut.by.parts was.looks.1 fail_bounds h.parts;
      }

  -- all stands where an until lets go
  pub until_stands : NetStands nodes tr left new
  until_stands = one_stands formed i at there asked.less asked.others st mine fits tidy
