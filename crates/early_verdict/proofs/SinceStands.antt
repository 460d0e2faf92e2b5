-- What stands goes on to stand, where a since lets go of the times before its own, and its operands of those that it looks at no more.
use Rattle.std.proofs.Common.{◌≡◌, ◌⊎◌, inl, inr, refl, sym, subst, ◌∙◌, ℕ, ◌<◌, ◌≤◌, true, false, Option, Some, None, List, length, arith}
use Rattle.std.specs.Prelude.{IfSome, MatchOption, IsSome, slice_get, slice_index_or}
use Rattle.std.proofs.lemmas.Option.{same_Some, slice_get_within}
use Rattle.rational.specs.Time.{Rational, later, ◌≤ʳ◌, ◌<ʳ◌}
use Rattle.rational.proofs.Order.{le_refl, le_trans}
use Rattle.rational.proofs.TimeLemmas.{later_from, later_zero}
use Rattle.stl_syntax.specs.Trace.{Trace, start}
use Rattle.stl_syntax.specs.Early.{OpenBehind}
use Rattle.stl_syntax.specs.WellFormed.{AreWellFormed, HasBounds}
use Rattle.stl_syntax.specs.declared.node.Node.{Node}
use Rattle.stl_syntax.specs.declared.node.Node.TheVariants.{Const, Since}
use Rattle.stl_syntax.proofs.PostOrderLemmas.{slice_get_at}
use Rattle.stl_syntax.specs.Cells.{IsChild}
use Rattle.rational.specs.Places.{Upto}
use Rattle.frac128.specs.Cuts.{place}
use Rattle.growing_sets.specs.Spans.{IsOn, Lies}
use Rattle.early_verdict.specs.Readings.{SinceHolds, SinceFails}
use Rattle.early_verdict.specs.Fitting.{Lists, lists_at, ArePartsTidy, AreSetsTidy, FailWithin, HasFailBounds}
use Rattle.early_verdict.specs.Fitting.{IsTidy, Says, SayOfParts, SinceFits, SinceHolding, SinceFailing}
use Rattle.early_verdict.specs.Standing.{AllTidy}
use Rattle.early_verdict.specs.Living.{IsLive, IsShown, Known, LooksAlong, NetStands, ReachesBack}
use Rattle.growing_sets.specs.Showing.{IsCutAt}
use Rattle.early_verdict.specs.Letting.{AreLess, ArePartsInside, IsAskedFrom, IsFailingInside, IsHoldingInside, IsLess, ShowsFrom}
use Rattle.growing_sets.specs.declared.stretch.Stretch.{Stretch}
use Rattle.growing_sets.specs.declared.grown.Grown.{Grown}
use Rattle.early_verdict.specs.declared.sets.Sets.{Sets}
use Rattle.early_verdict.specs.declared.sets.Parts.{Parts}
use Rattle.early_verdict.proofs.AllSets.{is_shown, lists_are, lists_tidy, shown_is, shown_within, yes_there, no_there}
use Rattle.early_verdict.proofs.LettingLemmas.{less_shown, two_less, two_others, two_shows}
use Rattle.early_verdict.proofs.FewerTimes.{Beside, agree, lists_apart, live_by, one_stands, shown_begun, shown_inside}
use Rattle.early_verdict.proofs.NodeReads.{ListedNo, ListedYes, read_on, since_fails, since_holds}
use Rattle.rational.proofs.PlaceLemmas.{between}
use Rattle.rational.proofs.Lists.{slice_get_there}
use Rattle.early_verdict.proofs.SettledBySets.{SaysSince, reaches_along, says_since}
use Rattle.early_verdict.proofs.SinceCuts.{IsBackCut, SeesAnew, SeesNone, failing_back, holding_back}
use Rattle.early_verdict.proofs.SetsTell.{both_alike, unit_of}
use Rattle.early_verdict.proofs.SinceSets.{none_later}
use Rattle.growing_sets.proofs.StretchLemmas.{rises}
use Rattle.early_verdict.proofs.UntilCuts.{Agree}
use Rattle.early_verdict.proofs.UntilStands.{agree_from}

-- the bounds of a since are in order
pub ordered : (nodes : List Node) → AreWellFormed nodes → (i : ℕ) → i < length nodes → (p q a b : ℕ) → slice_get nodes i ≡ Some (Since p q a (Some b)) → a ≤ b
ordered nodes formed i l p q a b at =
    subst HasBounds (same_Some (slice_index_or nodes i (Const false)) (Since p q a (Some b)) (sym (slice_get_at nodes i (Const false) l) ∙ at))
    (formed.bounds i (Const false) l)

-- what the sets between were
abbrev pub HoldAndFail : Trace → ℕ → Option ℕ → Lists → Lists → Sets → Parts → Type 0
HoldAndFail tr a b p q s x = SinceHolding tr a b p q x.holding × SinceFailing tr a b p q x.failing × SayOfParts s x

-- all of them are cut, or there are none
abbrev pub AreBackCut : Rational → Rational → Stretch → ℕ → Option ℕ → List Stretch → Option Parts → Option Parts → Type 0
AreBackCut d from wide a b ys old new = MatchOption old (new ≡ None) (λ x. MatchOption new ⊥ (IsBackCut d from wide a b ys x))

-- the sets between lie within their bounds, and what fails within what the left operand shows
module _ {nodes : List Node} {tr : Trace} {live old mid new : List Sets} (i : ℕ) {p q a : ℕ} {b : Option ℕ}
    (at : slice_get nodes i ≡ Some (Since p q a b)) {d : Rational}
    {wide : Stretch} {l' : Sets} (at_left : slice_get new p ≡ Some l') (is_wide : wide ≡ l'.no.bounds)
    (h : IsAskedFrom p d old mid) (g : IsAskedFrom q d mid new)
    (st : NetStands nodes tr live old) {s : Sets} (is : slice_get live i ≡ Some s) where
  shown_here : (w : Sets) × (slice_get old i ≡ Some w)
  shown_here = slice_get_there old i (let e = slice_get_within live i s is in let c = st.have.count in let f = st.have.shown_count in omega (arith, e, c, f))

  left_here : (l : Sets) × (slice_get old p ≡ Some l) × IsLess l l'
  left_here = (two_less h g).each p l' at_left

  up_to : (z : Stretch) → z ≡ (left_here.0).no.bounds → (t : Rational) → Lies z t → Upto (place wide.to) t
  up_to z e t l =
      subst (λ (v : Stretch). Upto (place v.to) t) (sym is_wide)
      ((two_shows h g p left_here.0 l' (inl refl) left_here.1 at_left).ends t (subst (λ (v : Stretch). Upto (place v.to) t) e l.1))

  -- the sets between lie within the bounds
  pub back_inside : ArePartsInside wide s
  back_inside = by_parts s.parts (st.fit i (Since p q a b) s at is)
      ((st.have.has i (Since p q a b) s shown_here.0 at is shown_here.1).left.1 left_here.0 left_here.1)
    where
      by_parts : (o : Option Parts) → MatchOption o ⊥ (HoldAndFail tr a b (lists_at old p) (lists_at old q) s)
          → MatchOption o (Unit {0}) (FailWithin (left_here.0).no.bounds)
          → MatchOption o (Unit {0}) (λ x. IsHoldingInside x.holding × IsFailingInside wide x.failing)
      by_parts None k e = tt
      by_parts (Some x) (k, f, r) e = (
        record {
          both = λ t o. (k.both.only t o).0;
          run = λ t o. (k.run.only t o).0;
          some = λ t o. (k.some.only t o).0;
          each = λ t o. (k.each.only t o).0;
        },
        record {
          fail = λ t o. up_to x.failing.fail.bounds e.0 t (f.fail.only t o).0;
          stop = λ t o. up_to x.failing.stop.bounds e.1 t (f.stop.only t o).0;
          never = λ t o. (f.never.only t o).0;
          broken = λ t o. (f.broken.only t o).0;
        },
      )

module _ {nodes : List Node} (formed : AreWellFormed nodes) {tr : Trace} {live left old mid new : List Sets} (i : ℕ) {p q a : ℕ} {b : Option ℕ}
    (at : slice_get nodes i ≡ Some (Since p q a b)) {d from : Rational} (back : later d a ≤ʳ from)
    (reach : MatchOption b (start tr <ʳ d) (λ k. later d k ≤ʳ from)) {wide : Stretch} {s r : Sets}
    (there : Beside nodes i live left old new s r) (same_yes : r.yes ≡ s.yes) (same_no : r.no ≡ s.no)
    (tidy_cut : MatchOption r.parts (Unit {0}) ArePartsTidy) (cut : AreBackCut d from wide a b (lists_at new q).yes s.parts r.parts)
    {l' : Sets} (at_left : slice_get new p ≡ Some l') (is_wide : wide ≡ l'.no.bounds)
    (begins : (t : Rational) → Lies s.no.bounds t → from ≤ʳ t) (h : IsAskedFrom p d old mid) (g : IsAskedFrom q d mid new) (st : NetStands nodes tr live old)
    (looks_new : (t : Rational) → from ≤ʳ t → LooksAlong (start tr) p q a b old t → LooksAlong (start tr) p q a b new t) where
  small : i < length nodes
  small = let e = slice_get_within live i s there.is in let c = st.have.count in omega (arith, e, c)

  less : AreLess old new
  less = two_less h g

  shows_from : (n : ℕ) (w x : Sets) → IsChild (Since p q a b) n → slice_get old n ≡ Some w → slice_get new n ≡ Some x → ShowsFrom d w x
  shows_from n w x c e f = two_shows h g n w x c e f

  P : Agree d (lists_at old p) (lists_at new p)
  P = agree_from formed at small less shows_from st p (inl refl)

  Q : Agree d (lists_at old q) (lists_at new q)
  Q = agree_from formed at small less shows_from st q (inr refl)

  -- the left operand's bounds, as they were
  was_left : (l : Sets) × (slice_get old p ≡ Some l) × IsLess l l'
  was_left = less.each p l' at_left

  shows : ShowsFrom d was_left.0 l'
  shows = shows_from p was_left.0 l' (inl refl) was_left.1 at_left

  own_shown : (w : Sets) × (slice_get old i ≡ Some w)
  own_shown = slice_get_there old i (let e = small in let n = st.have.shown_count in omega (arith, e, n))

  was : IsLive (start tr) old (Since p q a b) s own_shown.0
  was = st.have.has i (Since p q a b) s own_shown.0 at there.is own_shown.1

  begun : (t : Rational) → Lies was.own t → from ≤ʳ t
  begun t l = begins t (subst (λ z. Lies z t) (sym was.no) l)

  now : (t : Rational) × Lies was.own t
  now = let m = between (place was.own.from) (place was.own.to) (rises was.own) in (m.0, (m.1, m.2))

  from_now : from ≤ʳ now.0
  from_now = begun now.0 now.1

  d_now : d ≤ʳ now.0
  d_now = le_trans (later_from d a) (le_trans back from_now)

  -- it looks at its own times
  itself_begins : (o : Option ℕ) (t : Rational) → IfSome o (λ k. t ≤ʳ later t k)
  itself_begins None t = tt
  itself_begins (Some k) t = later_from t k

  itself : (t : Rational) → Lies was.own t → OpenBehind (start tr) 0 b true true t t
  itself t l = record { after = was.starts t l; begins = itself_begins b t; ends = later_zero t }

  now_shown : IsShown old p now.0 × IsShown old q now.0
  now_shown = elim (was.looks.0 now.0 now.1) [
    | inl k ↦ k now.0 (itself now.0 now.1)
    | inr (w, o, k, e) ↦ k now.0 (record { above = none_later w now.0 a o.ends; below = le_refl now.0 })
  ]

  -- what an operand shows now is none before
  after_there : (n : ℕ) (c : IsChild (Since p q a b) n) → IsShown old n now.0 → (u : Rational) → IsShown new n u → d ≤ʳ u
  after_there n c m u k =
      let x = slice_get_there new n (shown_within new n u k) in
      let w = less.each n x.0 x.1 in
      (shows_from n w.0 x.0 c w.1 x.1).after now.0 (shown_is old n w.0 now.0 w.1 m) d_now u (shown_is new n x.0 u x.1 k)

  fail_bounds : HasFailBounds s was_left.0
  fail_bounds = was.left.1 was_left.0 was_left.1

  less_wide : (z : Stretch) → z ≡ (was_left.0).no.bounds → (t : Rational) → Lies wide t → Lies z t
  less_wide z e t l = subst (λ z. Lies z t) (sym e) (was_left.2.less t (subst (λ z. Lies z t) is_wide l))

  left_wide : (z : Stretch) → z ≡ (was_left.0).no.bounds → (t : Rational) → Lies z t → d ≤ʳ t → Lies wide t
  left_wide z e t l f = subst (λ z. Lies z t) (sym is_wide) (shows.left t (subst (λ z. Lies z t) e l) f)

  -- the wide times are none before
  at_wide : (u : Rational) → Lies wide u → d ≤ʳ u
  at_wide u l = after_there p (inl refl) now_shown.0 u (is_shown new p l' u at_left (subst (λ z. Lies z u) is_wide l))

  shown_yes : (n : ℕ) (u : Rational) → IsOn (lists_at new n).yes u → IsShown new n u
  shown_yes n u o =
      let x = slice_get_there new n (yes_there new n u o) in
      let w = less.each n x.0 x.1 in
      is_shown new n x.0 u x.1
      ((w.2.inside (shown_inside st n w.0 w.1)).yes u (subst (λ (l : Lists). IsOn l.yes u) (lists_are new n x.0 x.1) o))

  shown_no : (n : ℕ) (u : Rational) → IsOn (lists_at new n).no u → IsShown new n u
  shown_no n u o =
      let x = slice_get_there new n (no_there new n u o) in
      let w = less.each n x.0 x.1 in
      is_shown new n x.0 u x.1
      ((w.2.inside (shown_inside st n w.0 w.1)).no u (subst (λ (l : Lists). IsOn l.no u) (lists_are new n x.0 x.1) o))

  begun_q : (u : Rational) → IsOn (lists_at new q).yes u → start tr ≤ʳ u
  begun_q u o = shown_begun st q u (less_shown old new less q u (shown_yes q u o))

  after_q : (u : Rational) → IsOn (lists_at new q).no u → d ≤ʳ u
  after_q u o = after_there q (inr refl) now_shown.1 u (shown_no q u o)

  new_tidy : AllTidy new
  new_tidy n x e = let w = less.each n x e in w.2.tidy (st.shown_tidy n w.0 w.1)

  looks_still : (t : Rational) → Lies was.own t → LooksAlong (start tr) p q a b new t
  looks_still t l = looks_new t (begun t l) (was.looks.0 t l)

  told : (n : ℕ) → Known (IsShown new n) (lists_at new n) (ListedYes old n) (ListedNo old n)
  told n = agree formed i at there less (two_others h g) st n

  apart_new : (n : ℕ) (u : Rational) → ListedYes new n u → ¬ (ListedNo new n u)
  apart_new n u y m = lists_apart st n u ((told n).yes_out u y) ((told n).no_out u m)

  -- of the lists before and now since is told the same at its own times
  still : (t : Rational) → LooksAlong (start tr) p q a b new t
      → (SinceHolds tr a b (ListedYes old p) (ListedYes old q) t → SinceHolds tr a b (ListedYes new p) (ListedYes new q) t)
      × (SinceFails tr a b (ListedNo old p) (ListedNo old q) t → SinceFails tr a b (ListedNo new p) (ListedNo new q) t)
  still t k = (
    since_holds tr new (ListedYes old) (ListedNo old) (lists_apart st) p q a b (told p) (told q) t k,
    since_fails tr new (ListedYes old) (ListedNo old) (lists_apart st) p q a b (told p) (told q) t k,
  )

  before_so : (t : Rational) → (SinceHolds tr a b (ListedYes new p) (ListedYes new q) t → SinceHolds tr a b (ListedYes old p) (ListedYes old q) t)
      × (SinceFails tr a b (ListedNo new p) (ListedNo new q) t → SinceFails tr a b (ListedNo old p) (ListedNo old q) t)
  before_so = read_on (ListedYes new) (ListedNo new) (ListedYes old) (ListedNo old) tr (Since p q a b)
      (λ n c u. ((told n).yes_out u, (told n).no_out u))

  module _ (x z : Parts) (k : IsBackCut d from wide a b (lists_at new q).yes x z) (m : ReachesBack (start tr) b p old was.own x)
      (e : FailWithin (was_left.0).no.bounds x) where
    some_left : (o : Option ℕ) → MatchOption o (SeesAnew from a (lists_at new q).yes x.holding.some z.holding.some)
        (λ n. IsCutAt from x.holding.some z.holding.some)
        → (t : Rational) → Lies x.holding.some.bounds t → from ≤ʳ t → Lies z.holding.some.bounds t
    some_left None c t l f = c.left t l f
    some_left (Some n) c t l f = c.left t l f

    never_left : (o : Option ℕ) → MatchOption o (SeesNone from x.failing.never z.failing.never) (λ n. IsCutAt from x.failing.never z.failing.never)
        → (t : Rational) → Lies x.failing.never.bounds t → from ≤ʳ t → Lies z.failing.never.bounds t
    never_left None c t l f = c.left t l f
    never_left (Some n) c t l f = c.left t l f

    reach_cut : ReachesBack (start tr) b p new was.own z
    reach_cut = record {
      some = λ t l. let y = m.some t l in (some_left b k.some t y.0 (begun t l), k.each.left t y.1 (begun t l));
      never = λ t l. let y = m.never t l in (never_left b k.never t y.0 (begun t l), k.broken.left t y.1 (begun t l));
      both = λ t u l o i.
          let y = m.both t u l o (less_shown old new less p u i) in
          let f = after_there p (inl refl) now_shown.0 u i in
          (k.both.left u y.0 f, k.run.left u y.1 f);
      fail = λ t u l o i.
          let y = m.fail t u l o (less_shown old new less p u i) in
          let f = after_there p (inl refl) now_shown.0 u i in (
            subst (λ v. Lies v u) (sym k.fail.bounds_are) (left_wide x.failing.fail.bounds e.0 u y.0 f),
            subst (λ v. Lies v u) (sym k.stop.bounds_are) (left_wide x.failing.stop.bounds e.1 u y.1 f),
          );
    }

    parts_fit : ArePartsTidy x → ArePartsTidy z → HoldAndFail tr a b (lists_at old p) (lists_at old q) s x
        → HoldAndFail tr a b (lists_at new p) (lists_at new q) r z
    parts_fit tidy_x tidy_z (n, f, say) = (
      holding,
      failing,
      record {
        yes = subst (λ (y : Grown). Says y (λ t. IsOn z.holding.some.spans.items t × IsOn z.holding.each.spans.items t)) (sym same_yes) own_says.yes;
        no = subst (λ (y : Grown). Says y (λ t. IsOn z.failing.never.spans.items t ⊎ IsOn z.failing.broken.spans.items t)) (sym same_no) own_says.no;
      },
    )
      where
        here : (Lies x.holding.both.bounds now.0 × Lies x.holding.run.bounds now.0)
        here = m.both now.0 now.0 now.1 (itself now.0 now.1) now_shown.0

        holding : SinceHolding tr a b (lists_at new p) (lists_at new q) z.holding
        holding = holding_back d from tr a b (lists_at old p) (lists_at old q) (lists_at new p)
            (lists_at new q) P Q now.0 from_now back reach begun_q after_q wide x z k
            n here.0 here.1 (m.some now.0 now.1).0 (m.some now.0 now.1).1

        failing : SinceFailing tr a b (lists_at new p) (lists_at new q) z.failing
        failing = failing_back d from tr a b (lists_at old p) (lists_at old q) (lists_at new p)
            (lists_at new q) P Q now.0 from_now back reach begun_q after_q wide x z k
            f (m.never now.0 now.1).0 (m.never now.0 now.1).1 (less_wide x.failing.fail.bounds e.0) (left_wide x.failing.fail.bounds e.0)
            (less_wide x.failing.stop.bounds e.1) (left_wide x.failing.stop.bounds e.1) at_wide

        before : (t : Rational) → Lies was.own t → SaysSince tr a b (lists_at old p) (lists_at old q) x t
        before t l =
            says_since x n f tidy_x (lists_tidy old st.shown_tidy q).1 t (m.some t l) (m.never t l)
            (λ w i. lists_apart st p w) (λ w i. lists_apart st q w)
            (reaches_along tr a q m t l (was.looks.0 t l))

        after : (t : Rational) → Lies was.own t → SaysSince tr a b (lists_at new p) (lists_at new q) z t
        after t l =
            says_since z holding failing tidy_z (lists_tidy new new_tidy q).1 t
            (reach_cut.some t l) (reach_cut.never t l)
            (λ w i. apart_new p w) (λ w i. apart_new q w)
            (reaches_along tr a q reach_cut t l (looks_still t l))

        own_says : SayOfParts s z
        own_says = both_alike s was.yes was.no
            (λ t i. let w = still t (looks_still t i) in
            (λ o. (after t i).held (w.0 ((before t i).holds o)), λ o. (after t i).failed (w.1 ((before t i).fails o))))
            (λ t i. (λ o. (before t i).held ((before_so t).0 ((after t i).holds o)), λ o. (before t i).failed ((before_so t).1 ((after t i).fails o)))) say

  -- of both or of none
  by_parts : (R : Parts → Type 0) (S : Parts → Type 0) → ((x y : Parts) → IsBackCut d from wide a b (lists_at new q).yes x y
      → ReachesBack (start tr) b p old was.own x → FailWithin (was_left.0).no.bounds x → ArePartsTidy x → ArePartsTidy y → R x → S y)
      → (N : Type 0) → (o o' : Option Parts) → AreBackCut d from wide a b (lists_at new q).yes o o'
      → MatchOption o (Unit {0}) (ReachesBack (start tr) b p old was.own)
      → MatchOption o (Unit {0}) (FailWithin (was_left.0).no.bounds) → MatchOption o (Unit {0}) ArePartsTidy → MatchOption o' (Unit {0}) ArePartsTidy
      → MatchOption o N R → MatchOption o' N S
  by_parts R S f N None o' c m e t u n = subst (λ z. MatchOption z N S) (sym c) n
  by_parts R S f N (Some x) None c m e t u n = absurd c
  by_parts R S f N (Some x) (Some y) c m e t u n = f x y c m e t u n

  reach_parts : MatchOption r.parts (Unit {0}) (ReachesBack (start tr) b p new was.own)
  reach_parts = by_parts (λ x. Unit {0}) (ReachesBack (start tr) b p new was.own) (λ x y k m e t u n. reach_cut x y k m e) (Unit {0}) s.parts r.parts cut
      was.looks.1 fail_bounds (st.tidy i s there.is).parts tidy_cut (unit_of s.parts)

  is_some : IsSome r.parts
  is_some = by_some s.parts r.parts cut was.left.0
    where
      by_some : (o o' : Option Parts) → AreBackCut d from wide a b (lists_at new q).yes o o' → IsSome o → IsSome o'
      by_some None o' c s = absurd (let f : false ≡ true = s in cc)
      by_some (Some x) None c s = absurd c
      by_some (Some x) (Some y) c s = refl

  still_within : (l : Sets) → slice_get new p ≡ Some l → HasFailBounds r l
  still_within l f =
      subst (λ z. HasFailBounds r z) (same_Some l' l (sym at_left ∙ f))
      (by_parts (λ x. Unit {0}) (FailWithin l'.no.bounds) (λ x y k m e t u n. (k.fail.bounds_are ∙ is_wide, k.stop.bounds_are ∙ is_wide)) (Unit {0})
      s.parts r.parts cut was.looks.1 fail_bounds (st.tidy i s there.is).parts tidy_cut (unit_of s.parts))

  mine : (w x : Sets) → slice_get old i ≡ Some w → slice_get new i ≡ Some x → IsLess w x → IsLive (start tr) new (Since p q a b) r x
  mine w x e f fewer =
      live_by formed i at there less (two_others h g) st
      (Since p q a b) s r own_shown.0 x same_yes same_no (subst (λ z. IsLess z x) (same_Some w own_shown.0 (sym e ∙ own_shown.1)) fewer) was
      (looks_still, reach_parts) (is_some, still_within)

  fits : SinceFits tr a b (lists_at new p) (lists_at new q) r
  fits = by_parts (HoldAndFail tr a b (lists_at old p) (lists_at old q) s) (HoldAndFail tr a b (lists_at new p) (lists_at new q) r)
      (λ x y k m e t u n. parts_fit x y k m e t u n) ⊥ s.parts r.parts cut was.looks.1 fail_bounds (st.tidy i s there.is).parts tidy_cut
      (st.fit i (Since p q a b) s at there.is)

  tidy : AreSetsTidy r
  tidy =
      let n = st.tidy i s there.is in
      record {
        yes = subst (λ (y : Grown). IsTidy y) (sym same_yes) n.yes;
        no = subst (λ (y : Grown). IsTidy y) (sym same_no) n.no;
        parts = tidy_cut;
      }

  -- all stands where a since and its operands let go
  pub since_stands : NetStands nodes tr left new
  since_stands = one_stands formed i at there less (two_others h g) st mine fits tidy
