-- How nodes let go of times, one at a time.
use Rattle.std.proofs.Common.{◌≡◌, ◌⊎◌, inl, inr, refl, sym, ap, subst, ◌∙◌, ℕ, Bool, true}
use Rattle.std.proofs.Common.{false, Option, Some, None, List, [], ◌∷◌, ◌++◌, take, arith}
use Rattle.std.specs.Prelude.{MatchBool, slice_get, slice_index_or, slice_set}
use Rattle.std.proofs.lemmas.Option.{same_Some}
use Rattle.std.proofs.lemmas.Bool.{cases_eq}
use Rattle.rational.specs.Time.{Rational, later, ◌≤ʳ◌, ◌<ʳ◌}
use Rattle.rational.proofs.Order.{ge_of_same, le_of_lt, le_trans, lt_of_lt_of_le, not_lt_of_le}
use Rattle.rational.proofs.TimeLemmas.{later-add, later_le, precedes_le, precedes_of_lt, later_lt}
use Rattle.stl_syntax.specs.Cells.{IsChild}
use Rattle.stl_syntax.specs.Early.{OpenAhead, OpenBehind}
use Rattle.stl_syntax.specs.declared.node.Node.{Node}
use Rattle.stl_syntax.specs.declared.node.Node.TheVariants.{Const, Atom as Leaf, Not, And, Or, Implies, Until, Eventually, Always, Since, Once, Historically}
use Rattle.rational.specs.Places.{Place, After, AtMost, Before, Upto}
use Rattle.frac128.specs.Cuts.{place}
use Rattle.growing_sets.specs.Spans.{AreTidy, IsAmong, IsOn, Lies}
use Rattle.growing_sets.specs.Steps.{HoldsFrom}
use Rattle.early_verdict.specs.Fitting.{Lists, lists_at, lists_of, no_of, yes_of}
use Rattle.early_verdict.specs.Standing.{AllTidy}
use Rattle.early_verdict.specs.Changing.{ChangesAt}
use Rattle.early_verdict.specs.Living.{IsNarrowed, IsShown, LooksAt, LooksBack}
use Rattle.early_verdict.specs.Letting.{AreApart, AreAskedAs, AreAskedBy, AreInside, AreLess, IsAskedFirst, IsAskedFrom}
use Rattle.early_verdict.specs.Letting.{IsFirstLeft, IsFirstShown, IsLess, IsRun, IsUntil, ShowsFrom}
use Rattle.frac128.specs.declared.cut.Cut.{Cut}
use Rattle.growing_sets.specs.declared.stretch.Stretch.{Stretch}
use Rattle.growing_sets.specs.declared.grown.Grown.{Grown}
use Rattle.early_verdict.specs.declared.sets.Sets.{Sets}
use Rattle.early_verdict.specs.declared.sets.Parts.{Parts}
use Rattle.early_verdict.proofs.AllSets.{is_shown, lists_are, shown_is, shown_within}
use Rattle.rational.proofs.PlaceLemmas.{at_most_of_not_before, between, not_both, sides, after_at_most, le_through, upto_earlier}
use Rattle.rational.proofs.Lists.{slice_get_there}
use Rattle.early_verdict.proofs.Places.{lists_by}
use Rattle.early_verdict.proofs.MovedBack.{le_back}
use Rattle.stl_syntax.specs.Views.{view_of}
use Rattle.early_verdict.proofs.SplitLists.{IsSplit, changed_each, changes_at}
use Rattle.growing_sets.proofs.StretchLemmas.{rises}
use Rattle.growing_sets.proofs.RunLemmas.{earlier_after, on_one}
use Rattle.early_verdict.proofs.SetsTell.{parts_tidy}

-- the stretch that holds the times after a place has those up to its end
pub past_one : (xs : List Stretch) (s : Stretch) (c : Place) (t : Rational) → IsAmong s xs → HoldsFrom s c → After c t → Upto (place s.to) t → IsOn xs t
past_one xs s c t m h a u = on_one xs s t m (after_at_most (place s.from) c t (at_most_of_not_before (place s.from) c h.0) a, u)

-- a time before that of a place lies before the place
pub upto_lt : (c : Place) (t : Rational) → t <ʳ c.at → Upto c t
upto_lt c t l = by_side c.after
  where
    by_side : (b : Bool) → MatchBool b (t ≤ʳ c.at) (t <ʳ c.at)
    by_side true = le_of_lt l
    by_side false = l

-- of the times that are shown those before a node's own are told
pub told_early : (own shown : Stretch) (told from : Cut) (Yes : Rational → Type 0) → ((t : Rational) → After (place own.from) t → Upto (place told) t → Yes t)
    → (from ≡ told) ⊎ (from ≡ shown.from) → (t : Rational) → Lies shown t → Lies own t → t <ʳ (place from).at → Yes t
told_early own shown told from Yes h (inl e) t k l b = h t l.0 (upto_lt (place told) t (subst (λ c. t <ʳ (place c).at) e b))
told_early own shown told from Yes h (inr e) t k l b =
    absurd (not_both (place shown.from) t (upto_lt (place shown.from) t (subst (λ c. t <ʳ (place c).at) e b)) k.0)

-- a stretch that goes as far as each time of another ends no earlier
pub ends_most : (s b : Stretch) → ((t : Rational) → Lies s t → Upto (place b.to) t) → AtMost (place s.to) (place b.to)
ends_most s b f t u = elim (sides (place s.from) t) [
  | inl d ↦
      let m = between (place s.from) (place s.to) (rises s) in
      upto_earlier (place b.to) t m.0 (le_through (place s.from) t m.0 d m.1) (f m.0 (m.1, m.2))
  | inr d ↦ f t (d, u)
]

-- narrowed sets show less
pub less_of : (bounds : Stretch) (w x : Sets) → IsNarrowed bounds w x → ((t : Rational) → Lies bounds t → Lies w.no.bounds t) → IsLess w x
less_of bounds w x n less = record {
  tidy = λ h. n.tidy;
  inside = λ h. record {
    yes = λ t o. subst (λ z. Lies z t) (sym n.no_bounds) (n.yes_out t o).1;
    no = λ t o. subst (λ z. Lies z t) (sym n.no_bounds) (n.no_out t o).1;
  };
  same = λ e. n.yes_bounds ∙ sym n.no_bounds;
  less = λ t l. less t (subst (λ z. Lies z t) n.no_bounds l);
  yes_in = λ t l o. n.yes_in t (subst (λ z. Lies z t) n.no_bounds l) o;
  yes_out = λ t o. (n.yes_out t o).0;
  no_in = λ t l o. n.no_in t (subst (λ z. Lies z t) n.no_bounds l) o;
  no_out = λ t o. (n.no_out t o).0;
}

-- sets are no less than themselves
pub same_less : (w : Sets) → IsLess w w
same_less w = record {
  tidy = λ h. h;
  inside = λ h. h;
  same = λ e. e;
  less = λ t l. l;
  yes_in = λ t l o. o;
  yes_out = λ t o. o;
  no_in = λ t l o. o;
  no_out = λ t o. o;
}

less_then : (a b c : Sets) → IsLess a b → IsLess b c → IsLess a c
less_then a b c f g = record {
  tidy = λ h. g.tidy (f.tidy h);
  inside = λ h. g.inside (f.inside h);
  same = λ e. g.same (f.same e);
  less = λ t l. f.less t (g.less t l);
  yes_in = λ t l o. g.yes_in t l (f.yes_in t (g.less t l) o);
  yes_out = λ t o. f.yes_out t (g.yes_out t o);
  no_in = λ t l o. g.no_in t l (f.no_in t (g.less t l) o);
  no_out = λ t o. f.no_out t (g.no_out t o);
}

-- all sets hold no more than themselves
pub none_less : (xs : List Sets) → AreLess xs xs
none_less xs = record { count = refl; each = λ p x e. (x, e, same_less x) }

-- where the sets at one place become less, all do
changed_less : {p : ℕ} {old new : List Sets} {R : Sets → Sets → Type 0} (c : ChangesAt p old new R) → IsLess c.was c.is → AreLess old new
changed_less {old = old} c less = record {
  count = c.count;
  each = changed_each (λ q x. (w : Sets) × (slice_get old q ≡ Some w) × IsLess w x) c (c.was, c.at_old, less) (λ q x e. (x, e, same_less x));
}

-- where one node is asked from a time on
module _ {p : ℕ} {from : Rational} {old new : List Sets} (h : IsAskedFrom p from old new) where
  -- one node's fewer times are fewer of all
  pub one_less : AreLess old new
  one_less = changed_less h (less_of h.by.bounds h.was h.is h.by.narrowed h.by.less)

  -- it shows the times from there on
  pub still_shown : (q : ℕ) (u : Rational) → (q ≡ p → from ≤ʳ u) → IsShown old q u → IsShown new q u
  still_shown q u f s = elim (cases_eq q p) [
    | inl d ↦
        let o = subst (λ k. IsShown old k u) d s in
        let l = shown_is old p h.was u h.at_old o in
        subst (λ k. IsShown new k u) (sym d) (elim (h.by.left u l) [
          | inl b ↦ is_shown new p h.is u h.at_new (subst (λ z. Lies z u) (sym h.by.narrowed.no_bounds) b)
          | inr b ↦ absurd (not_lt_of_le (f d) b)
        ])
    | inr d ↦
        let x = slice_get_there old q (shown_within old q u s) in
        is_shown new q x.0 u (h.others q d ∙ x.1) (shown_is old q x.0 u x.1 s)
  ]

  shown_left : (q : ℕ) (w x : Sets) → slice_get old q ≡ Some w → slice_get new q ≡ Some x → (t : Rational) → Lies w.no.bounds t → from ≤ʳ t → Lies x.no.bounds t
  shown_left q w x e f t l g = elim (cases_eq q p) [
    | inl d ↦
        let a = same_Some h.was w (sym h.at_old ∙ subst (λ k. slice_get old k ≡ Some w) d e) in
        let b = same_Some h.is x (sym h.at_new ∙ subst (λ k. slice_get new k ≡ Some x) d f) in
        subst (λ (z : Sets). Lies z.no.bounds t) b
        (subst (λ z. Lies z t) (sym h.by.narrowed.no_bounds) (elim (h.by.left t (subst (λ (z : Sets). Lies z.no.bounds t) (sym a) l)) [
          | inl m ↦ m
          | inr m ↦ absurd (not_lt_of_le g m)
        ]))
    | inr d ↦ subst (λ (z : Sets). Lies z.no.bounds t) (same_Some w x (sym e ∙ sym (h.others q d) ∙ f)) l
  ]

  shown_ends : (q : ℕ) (w x : Sets) → slice_get old q ≡ Some w → slice_get new q ≡ Some x → AtMost (place w.no.bounds.to) (place x.no.bounds.to)
  shown_ends q w x e f t u = elim (cases_eq q p) [
    | inl d ↦
        let a = same_Some h.was w (sym h.at_old ∙ subst (λ k. slice_get old k ≡ Some w) d e) in
        let b = same_Some h.is x (sym h.at_new ∙ subst (λ k. slice_get new k ≡ Some x) d f) in
        subst (λ (z : Sets). Upto (place z.no.bounds.to) t) b (subst (λ (z : Stretch). Upto (place z.to) t) (sym h.by.narrowed.no_bounds)
        (h.by.ends t (subst (λ (z : Sets). Upto (place z.no.bounds.to) t) (sym a) u)))
    | inr d ↦ subst (λ (z : Sets). Upto (place z.no.bounds.to) t) (same_Some w x (sym e ∙ sym (h.others q d) ∙ f)) u
  ]

  shown_after : (w x : Sets) → slice_get old p ≡ Some w → slice_get new p ≡ Some x → (t : Rational) → Lies w.no.bounds t
      → from ≤ʳ t → (u : Rational) → Lies x.no.bounds u → from ≤ʳ u
  shown_after w x e f t l g u k =
      let a = same_Some h.was w (sym h.at_old ∙ e) in
      let b = same_Some h.is x (sym h.at_new ∙ f) in
      h.by.after t (subst (λ (z : Sets). Lies z.no.bounds t) (sym a) l) g u
      (subst (λ z. Lies z u) h.by.narrowed.no_bounds (subst (λ (z : Sets). Lies z.no.bounds u) (sym b) k))

  -- what is left is tidy
  pub tidy_asked : AllTidy old → AllTidy new
  tidy_asked t q x e = let w = one_less.each q x e in w.2.tidy (t q w.0 w.1)

  -- what is asked for lies within the bounds
  pub inside_asked : AreInside old → AreInside new
  inside_asked t q x e = let w = one_less.each q x e in w.2.inside (t q w.0 w.1)

both_less : (a b c : List Sets) → AreLess a b → AreLess b c → AreLess a c
both_less a b c f g = record {
  count = g.count ∙ f.count;
  each = λ p x e. let w = g.each p x e in let v = f.each p w.0 w.1 in (v.0, v.1, less_then v.0 w.0 x v.2 w.2);
}

-- what a list has of what is shown still it has still
pub still_on : (old new : List Sets) → AreLess old new → (p : ℕ) (u : Rational) → IsShown new p u
    → (IsOn (lists_at old p).yes u → IsOn (lists_at new p).yes u) × (IsOn (lists_at old p).no u → IsOn (lists_at new p).no u)
still_on old new less p u h =
    let x = slice_get_there new p (shown_within new p u h) in
    let w = less.each p x.0 x.1 in
    let l = shown_is new p x.0 u x.1 h in (
      λ o. subst (λ (z : Lists). IsOn z.yes u) (sym (lists_are new p x.0 x.1))
          (w.2.yes_in u l (subst (λ (z : Lists). IsOn z.yes u) (lists_are old p w.0 w.1) o)),
      λ o. subst (λ (z : Lists). IsOn z.no u) (sym (lists_are new p x.0 x.1)) (w.2.no_in u l (subst (λ (z : Lists). IsOn z.no u) (lists_are old p w.0 w.1) o)),
    )

-- what is shown still was shown
pub less_shown : (old new : List Sets) → AreLess old new → (p : ℕ) (u : Rational) → IsShown new p u → IsShown old p u
less_shown old new less p u h =
    let x = slice_get_there new p (shown_within new p u h) in
    let w = less.each p x.0 x.1 in
    is_shown old p w.0 u w.1 (w.2.less u (shown_is new p x.0 u x.1 h))

before_side : (c : Place) (t : Rational) → c.after ≡ false → Upto c t → t <ʳ c.at
before_side c t e = by_side c.after e
  where
    by_side : (b : Bool) → b ≡ false → MatchBool b (t ≤ʳ c.at) (t <ʳ c.at) → t <ʳ c.at
    by_side true f h = absurd (let g : true ≡ false = f in cc)
    by_side false f h = h

-- children that are asked from the times on at which the node looks at them
none_asked : (n : Node) (from : Rational) (xs : List Sets) → ¬ (IsUntil n) → AreAskedBy n from xs xs
none_asked n from xs u = record { less = none_less xs; others = λ p c. refl; run = λ r. refl; looks = λ s own parts k f l. l; cut = λ e. absurd (u e) }

-- what the node looks at from one time on it still looks at
abbrev StillLooks : Node → Rational → List Sets → List Sets → Type 0
StillLooks n from old new = (start : Rational) (own : Stretch) (parts : Option Parts) → ((p : ℕ) (u : Rational) → IsShown old p u → start ≤ʳ u)
    → ((t : Rational) → Lies own t → from ≤ʳ t) → LooksAt n start old own parts → LooksAt n start new own parts

-- a node with one child, which alone changes
asked_one : {p : ℕ} {from : Rational} {old new : List Sets} {R : Sets → Sets → Type 0} (n : Node) → IsChild n p → ¬ (IsRun n) → ¬ (IsUntil n)
    → ChangesAt p old new R → AreLess old new → StillLooks n from old new → AreAskedBy n from old new
asked_one n child no_run no_until c less looks = record {
  less = less;
  others = λ q d. c.others q (λ e. d (subst (λ k. IsChild n k) (sym e) child));
  run = λ r. absurd (no_run r);
  looks = looks;
  cut = λ u. absurd (no_until u);
}

-- a negation asks its operand for its own times
asked_not : {p : ℕ} {from : Rational} {old new : List Sets} → IsAskedFrom p from old new → AreAskedBy (Not p) from old new
asked_not {p} h = asked_one (Not p) refl (λ r. r) (λ u. u) h (one_less h) (λ s own parts k f l t o. still_shown h p t (λ d. f t o) (l t o))

module _ {p q : ℕ} {from : Rational} {old mid new : List Sets} (h : IsAskedFrom p from old mid) (g : IsAskedFrom q from mid new) where
  -- fewer times of two nodes are fewer of all
  pub two_less : AreLess old new
  two_less = both_less old mid new (one_less h) (one_less g)

  -- the nodes beside the two that were asked stay
  pub two_others : (r : ℕ) → ¬ ((p ≡ r) ⊎ (q ≡ r)) → slice_get new r ≡ slice_get old r
  two_others r c = g.others r (λ e. c (inr (sym e))) ∙ h.others r (λ e. c (inl (sym e)))

  -- from there on what was shown is shown
  pub both_shown : (r : ℕ) (t : Rational) → from ≤ʳ t → IsShown old r t → IsShown new r t
  both_shown r t f l = still_shown g r t (λ d. f) (still_shown h r t (λ d. f) l)

  -- a node that looks at its own times of both
  asked_two : (n : Node) → ((r : ℕ) → (p ≡ r) ⊎ (q ≡ r) → IsChild n r) → ¬ (IsRun n) → ¬ (IsUntil n) → StillLooks n from old new → AreAskedBy n from old new
  asked_two n child no_run no_until looks = record {
    less = two_less;
    others = λ r d. two_others r (λ c. d (child r c));
    run = λ r. absurd (no_run r);
    looks = looks;
    cut = λ u. absurd (no_until u);
  }

  -- an `and` asks both sides
  asked_and : AreAskedBy (And p q) from old new
  asked_and = asked_two (And p q) (λ r c. c) (λ r. r) (λ u. u)
      (λ s own parts e f l t o. let k = l t o in (both_shown p t (f t o) k.0, both_shown q t (f t o) k.1))

  -- the operands of an `or` are asked for what the node is asked for
  asked_or : AreAskedBy (Or p q) from old new
  asked_or = asked_two (Or p q) (λ r c. c) (λ r. r) (λ u. u)
      (λ s own parts e f l t o. let k = l t o in (both_shown p t (f t o) k.0, both_shown q t (f t o) k.1))

  -- the operands of an implication are asked for what the node is asked for
  asked_implies : AreAskedBy (Implies p q) from old new
  asked_implies = asked_two (Implies p q) (λ r c. c) (λ r. r) (λ u. u)
      (λ s own parts e f l t o. let k = l t o in (both_shown p t (f t o) k.0, both_shown q t (f t o) k.1))

  -- both show the times from there on
  pub two_shows : (r : ℕ) (w x : Sets) → (p ≡ r) ⊎ (q ≡ r) → slice_get old r ≡ Some w → slice_get new r ≡ Some x → ShowsFrom from w x
  two_shows r w x c e f =
      let y = (one_less g).each r x f in
      by_mid y.0 y.1 y.2
    where
      by_mid : (y : Sets) → slice_get mid r ≡ Some y → IsLess y x → ShowsFrom from w x
      by_mid y m less = record {
        left = λ t l k. shown_left g r y x m f t (shown_left h r w y e m t l k) k;
        after = λ t l k u o. elim c [
          | inl d ↦
              shown_after h w y (subst (λ j. slice_get old j ≡ Some w) (sym d) e)
              (subst (λ j. slice_get mid j ≡ Some y) (sym d) m) t l k u (less.less u o)
          | inr d ↦
              shown_after g y x (subst (λ j. slice_get mid j ≡ Some y) (sym d) m) (subst (λ j. slice_get new j ≡ Some x) (sym d) f) t
              (shown_left h r w y e m t l k) k u o
        ];
        ends = λ t u. shown_ends g r y x m f t (shown_ends h r w y e m t u);
      }

  -- until looks on from its own times alone
  asked_until : (a b : ℕ) → AreAskedBy (Until p q a b) from old new
  asked_until a b = record {
    less = two_less;
    others = two_others;
    run = λ r. absurd r;
    cut = λ u r w x c e f. two_shows r w x c e f;
    looks = λ s own parts j f l. (
      λ t u o d e. let k = l.0 t u o d e in (both_shown p u (le_trans (f t o) d) k.0, both_shown q u (le_trans (f t o) d) k.1),
      l.1,
    );
  }

module _ {p : ℕ} (from : Rational) {first : Rational} {old new : List Sets} (h : IsAskedFrom p first old new) where
  module _ (a b : ℕ) (a_in b_in : Bool) (begins : first ≤ʳ later from a) where
    seen_ahead : (start t u : Rational) → from ≤ʳ t → OpenAhead start a b a_in b_in t u → first ≤ʳ u
    seen_ahead start t u f o = le_trans begins (le_trans (later_le a f) (precedes_le a_in (later t a) u o.begins))

    -- an `eventually` asks for the times from its window's begin on
    asked_eventually : AreAskedBy (Eventually p a b a_in b_in) from old new
    asked_eventually = asked_one (Eventually p a b a_in b_in) refl (λ r. r) (λ u. u) h (one_less h)
        (λ s own parts k f l t u o w. still_shown h p u (λ d. seen_ahead s t u (f t o) w) (l t u o w))

    -- the operand of an `always` is asked for what its windows look at
    asked_always : AreAskedBy (Always p a b a_in b_in) from old new
    asked_always = asked_one (Always p a b a_in b_in) refl (λ r. r) (λ u. u) h (one_less h)
        (λ s own parts k f l t u o w. still_shown h p u (λ d. seen_ahead s t u (f t o) w) (l t u o w))

  module _ (a b : ℕ) (a_in b_in : Bool) (begins : later first b ≤ʳ from) where
    shorter : (x u : Rational) → later x b ≤ʳ later u b → x ≤ʳ u
    shorter x u e = record { le = omega (arith, e.le) }

    seen_behind : (start t u : Rational) → from ≤ʳ t → OpenBehind start a (Some b) a_in b_in t u → first ≤ʳ u
    seen_behind start t u f o = shorter first u (le_trans begins (le_trans f (precedes_le b_in t (later u b) o.begins)))

    -- looking back it goes on to see what it saw, where its list has still what it shows
    still_back : (side : Lists → List Stretch) → ((u : Rational) → IsShown new p u → IsOn (side (lists_at old p)) u → IsOn (side (lists_at new p)) u)
        → (start : Rational) (own : Stretch) → ((t : Rational) → Lies own t → from ≤ʳ t)
        → LooksBack side start a (Some b) a_in b_in p old own → LooksBack side start a (Some b) a_in b_in p new own
    still_back side on s own f l t u o w = elim (l t u o w) [
      | inl m ↦ inl (still_shown h p u (λ d. seen_behind s t u (f t o) w) m)
      | inr (v, d, m, z) ↦ let n = still_shown h p v (λ e. seen_behind s t v (f t o) d) m in inr (v, d, n, on v n z)
    ]

    -- a `once` asks for the times that its window looks back to
    asked_once : AreAskedBy (Once p a (Some b) a_in b_in) from old new
    asked_once = asked_one (Once p a (Some b) a_in b_in) refl (λ r. r) (λ u. u) h (one_less h)
        (λ s own parts k f l. still_back yes_of (λ u n. (still_on old new (one_less h) p u n).0) s own f l)

    -- the operand of a `historically` is asked for what its windows look at
    asked_historically : AreAskedBy (Historically p a (Some b) a_in b_in) from old new
    asked_historically = asked_one (Historically p a (Some b) a_in b_in) refl (λ r. r) (λ u. u) h (one_less h)
        (λ s own parts k f l. still_back no_of (λ u n. (still_on old new (one_less h) p u n).1) s own f l)

-- where a node shows its first times of a truth alone
module _ (p low : ℕ) (at : Rational) (old new : List Sets) (apart : AreApart old) (inside : AreInside old) (tidy : AllTidy old) where
  module _ (holds : Bool) (h : IsAskedFirst p holds low at old new) where
    -- some time that is left lies so far before
    early_time : (limit : Place) → later limit.at low ≤ʳ at → limit.after ≡ false → (s : Stretch) → Before (place s.from) limit
        → (w : Rational) × Lies s w × (later w low <ʳ at)
    early_time limit k e s b =
        let m = earlier_after (place s.to) limit (place s.from) (rises s) b in
        let w = between (place s.from) m.0 m.1 in
        let u = m.2 w.0 w.2 in
        (w.0, (w.1, u.0), lt_of_lt_of_le (later_lt w.0 limit.at low (before_side limit w.0 e u.1)) k)

    -- what decides a node is shown to it: where the first stretch of a list is all that is left of it
    seen_first : (side : Lists → List Stretch) (s : Stretch) → IsAmong s (side (lists_of h.was)) → side (lists_of h.is) ≡ s ∷ [] → h.is.no.bounds ≡ s
        → ((t : Rational) → IsOn (side (lists_of h.was)) t → Lies h.was.no.bounds t) → (w : Rational) × Lies s w × (later w low <ʳ at)
        → (a_in b_in : Bool) (start : Rational) → ((q : ℕ) (u : Rational) → IsShown old q u → start ≤ʳ u) → (t : Rational) → at ≤ʳ t
        → (v : Rational) × OpenBehind start low None a_in b_in t v × IsShown new p v × IsOn (side (lists_at new p)) v
    seen_first side s among left bounds lies (w, l, before) a_in b_in start begun t = λ e. (
      w,
      record {
        after = begun p w (is_shown old p h.was w h.at_old (lies w (on_one (side (lists_of h.was)) s w among l)));
        begins = tt;
        ends = precedes_of_lt a_in (later w low) t (lt_of_lt_of_le before e);
      },
      is_shown new p h.is w h.at_new (subst (λ z. Lies z w) (sym bounds) l),
      subst (λ (z : Lists). IsOn (side z) w) (sym (lists_are new p h.is h.at_new)) (subst (λ xs. IsOn xs w) (sym left) (inl l)),
    )

    -- where it is as it was it looks back as it did
    as_was : h.is ≡ h.was → (side : Lists → List Stretch) (start : Rational) (own : Stretch) (a_in b_in : Bool)
        → LooksBack side start low None a_in b_in p old own → LooksBack side start low None a_in b_in p new own
    as_was e side s own i j l t u o w = elim (l t u o w) [
      | inl m ↦ inl (shown u m)
      | inr (v, d, m, z) ↦ inr (v, d, shown v m, subst (λ (l : Lists). IsOn (side l) v) (lists_by old new p (sym same)) z)
    ]
      where
        same : slice_get new p ≡ slice_get old p
        same = h.at_new ∙ ap Some e ∙ sym h.at_old

        shown : (u : Rational) → IsShown old p u → IsShown new p u
        shown u o = let x = slice_get_there old p (shown_within old p u o) in is_shown new p x.0 u (same ∙ x.1) (shown_is old p x.0 u x.1 o)

  -- the set has the times of the stretch, and no others
  only_part : (x : Grown) (s : Stretch) (t : Rational) → x.spans.items ≡ s ∷ [] → IsOn x.spans.items t → Lies s t
  only_part x s t e o = elim (subst (λ xs. IsOn xs t) e o) [ inl l ↦ l | inr f ↦ absurd f ]

  none_on : (x : Grown) (t : Rational) → x.spans.items ≡ [] → IsOn x.spans.items t → ⊥
  none_on x t e o = subst (λ xs. IsOn xs t) e o

  -- sets of which one stretch is left are less
  first_yes : (was is : Sets) → slice_get old p ≡ Some was → is.parts ≡ was.parts → (limit : Place) → IsFirstLeft limit was.yes is.yes is.no → IsLess was is
  first_yes was is e same limit f = record {
    tidy = λ h. record { yes = subst AreTidy (sym f.left) (tt, tt); no = subst AreTidy (sym f.none) tt; parts = parts_tidy was.parts is.parts same h.parts };
    inside = λ h. record {
      yes = λ t o. subst (λ z. Lies z t) (sym f.other_bounds) (only_part is.yes f.part t f.left o);
      no = λ t o. absurd (none_on is.no t f.none o);
    };
    same = λ h. f.bounds ∙ sym f.other_bounds;
    less = λ t l. (inside p was e).yes t (on_one was.yes.spans.items f.part t f.among (subst (λ z. Lies z t) f.other_bounds l));
    yes_in = λ t l o. subst (λ xs. IsOn xs t) (sym f.left) (inl (subst (λ z. Lies z t) f.other_bounds l));
    yes_out = λ t o. on_one was.yes.spans.items f.part t f.among (only_part is.yes f.part t f.left o);
    no_in = λ t l o. absurd (apart p was e t (on_one was.yes.spans.items f.part t f.among (subst (λ z. Lies z t) f.other_bounds l)) o);
    no_out = λ t o. absurd (none_on is.no t f.none o);
  }

  first_no : (was is : Sets) → slice_get old p ≡ Some was → is.parts ≡ was.parts → (limit : Place) → IsFirstLeft limit was.no is.no is.yes → IsLess was is
  first_no was is e same limit f = record {
    tidy = λ h. record { yes = subst AreTidy (sym f.none) tt; no = subst AreTidy (sym f.left) (tt, tt); parts = parts_tidy was.parts is.parts same h.parts };
    inside = λ h. record {
      yes = λ t o. absurd (none_on is.yes t f.none o);
      no = λ t o. subst (λ z. Lies z t) (sym f.bounds) (only_part is.no f.part t f.left o);
    };
    same = λ h. f.other_bounds ∙ sym f.bounds;
    less = λ t l. (inside p was e).no t (on_one was.no.spans.items f.part t f.among (subst (λ z. Lies z t) f.bounds l));
    yes_in = λ t l o. absurd (apart p was e t o (on_one was.no.spans.items f.part t f.among (subst (λ z. Lies z t) f.bounds l)));
    yes_out = λ t o. absurd (none_on is.yes t f.none o);
    no_in = λ t l o. subst (λ xs. IsOn xs t) (sym f.left) (inl (subst (λ z. Lies z t) f.bounds l));
    no_out = λ t o. on_one was.no.spans.items f.part t f.among (only_part is.no f.part t f.left o);
  }

  same_both : (was is : Sets) → is.parts ≡ was.parts → is.yes ≡ was.yes → is.no ≡ was.no → is ≡ was
  same_both was is e f g =
      subst (λ y. record { yes = y; no = is.no; parts = is.parts } ≡ was) (sym f)
      (subst (λ n. record { yes = was.yes; no = n; parts = is.parts } ≡ was) (sym g)
      (subst (λ x. record { yes = was.yes; no = was.no; parts = x } ≡ was) (sym e) refl))

  -- `once` without a bound asks its operand for the stretch around the first time at which it was true
  asked_once_first : (a_in b_in : Bool) → IsAskedFirst p true low at old new → AreAskedBy (Once p low None a_in b_in) at old new
  asked_once_first i j h = by_shows h.by.shows
    where
      by_shows : IsFirstShown low at h.was.yes h.was.no h.is.yes h.is.no → AreAskedBy (Once p low None i j) at old new
      by_shows (inl (e, f)) =
          let same = same_both h.was h.is h.by.parts e f in
          asked_one (Once p low None i j) refl (λ r. r) (λ u. u) h (changed_less h (subst (λ z. IsLess h.was z) (sym same) (same_less h.was)))
          (λ s own parts k f l. as_was true h same yes_of s own i j l)
      by_shows (inr (limit, k, e, f)) =
          asked_one (Once p low None i j) refl (λ r. r) (λ u. u) h (changed_less h (first_yes h.was h.is h.at_old h.by.parts limit f))
          (λ s own parts begun g l t u o w.
          inr (seen_first true h yes_of f.part f.among f.left f.other_bounds (inside p h.was h.at_old).yes
          (early_time true h limit k e f.part f.begins) i j s begun t (g t o)))

  -- `historically` without a bound asks its operand for the stretch around the first time at which it was false
  asked_historically_first : (a_in b_in : Bool) → IsAskedFirst p false low at old new → AreAskedBy (Historically p low None a_in b_in) at old new
  asked_historically_first i j h = by_shows h.by.shows
    where
      by_shows : IsFirstShown low at h.was.no h.was.yes h.is.no h.is.yes → AreAskedBy (Historically p low None i j) at old new
      by_shows (inl (e, f)) =
          let same = same_both h.was h.is h.by.parts f e in
          asked_one (Historically p low None i j) refl (λ r. r) (λ u. u) h (changed_less h (subst (λ z. IsLess h.was z) (sym same) (same_less h.was)))
          (λ s own parts k f l. as_was false h same no_of s own i j l)
      by_shows (inr (limit, k, e, f)) =
          asked_one (Historically p low None i j) refl (λ r. r) (λ u. u) h (changed_less h (first_no h.was h.is h.at_old h.by.parts limit f))
          (λ s own parts begun g l t u o w.
          inr (seen_first false h no_of f.part f.among f.left f.bounds (inside p h.was h.at_old).no
          (early_time false h limit k e f.part f.begins) i j s begun t (g t o)))

-- a node is asked as it needs it where its operands are as its view wants
pub asked_as : (at : Rational) (old new : List Sets) → AreApart old → AreInside old → AllTidy old → (n : Node)
    → AreAskedAs (view_of n) at old new → AreAskedBy n at old new
asked_as at old new apart inside tidy (Const b) e = subst (λ xs. AreAskedBy (Const b) at old xs) (sym e) (none_asked (Const b) at old (λ u. u))
asked_as at old new apart inside tidy (Leaf a) e = subst (λ xs. AreAskedBy (Leaf a) at old xs) (sym e) (none_asked (Leaf a) at old (λ u. u))
asked_as at old new apart inside tidy (Not q) h = asked_not h
asked_as at old new apart inside tidy (And q r) h = asked_and h.1 h.2
asked_as at old new apart inside tidy (Or q r) h = asked_or h.1 h.2
asked_as at old new apart inside tidy (Implies q r) h = asked_implies h.1 h.2
asked_as at old new apart inside tidy (Until q r a b) h = asked_until h.1 h.2 a b
asked_as at old new apart inside tidy (Since q r a b) e =
    subst (λ xs. AreAskedBy (Since q r a b) at old xs) (sym e) (none_asked (Since q r a b) at old (λ u. u))
asked_as at old new apart inside tidy (Eventually q a b i j) (from, l, h) =
    asked_eventually at h a b i j (le_trans l (ge_of_same (later-add at a)))
asked_as at old new apart inside tidy (Always q a b i j) (from, l, h) =
    asked_always at h a b i j (le_trans l (ge_of_same (later-add at a)))
asked_as at old new apart inside tidy (Once q a None i j) h =
    asked_once_first q a at old new apart inside tidy i j (h a refl)
asked_as at old new apart inside tidy (Once q a (Some b) i j) (from, l, h) =
    asked_once at h a b i j ((le_back b at from).0 l)
asked_as at old new apart inside tidy (Historically q a None i j) h =
    asked_historically_first q a at old new apart inside tidy i j (h a refl)
asked_as at old new apart inside tidy (Historically q a (Some b) i j) (from, l, h) =
    asked_historically at h a b i j ((le_back b at from).0 l)

-- an operand of whose true times the first alone are shown is asked as its node needs it
pub first_yes_at : {sets front back : List Sets} {i : ℕ} {holds : Bool} (d own : Sets) (low : ℕ) (at : Rational) → holds ≡ true → IsSplit sets i front back
    → own.parts ≡ (slice_index_or back 0 d).parts
    → IsFirstShown low at (slice_index_or back 0 d).yes (slice_index_or back 0 d).no own.yes own.no
    → IsAskedFirst i holds low at sets (front ++ slice_set back 0 own)
first_yes_at {sets} {front} {back} {i} d own low at is p k s =
    subst (λ b. IsAskedFirst i b low at sets (front ++ slice_set back 0 own)) (sym is) (changes_at d own p (record { parts = k; shows = s }))

-- and one of whose false times
pub first_no_at : {sets front back : List Sets} {i : ℕ} {holds : Bool} (d own : Sets) (low : ℕ) (at : Rational) → holds ≡ false → IsSplit sets i front back
    → own.parts ≡ (slice_index_or back 0 d).parts
    → IsFirstShown low at (slice_index_or back 0 d).no (slice_index_or back 0 d).yes own.no own.yes
    → IsAskedFirst i holds low at sets (front ++ slice_set back 0 own)
first_no_at {sets} {front} {back} {i} d own low at is p k s =
    subst (λ b. IsAskedFirst i b low at sets (front ++ slice_set back 0 own)) (sym is) (changes_at d own p (record { parts = k; shows = s }))

-- of a list whose first is that one, the first alone
pub take_one : (xs : List Stretch) (s : Stretch) → slice_get xs 0 ≡ Some s → take 1 xs ≡ s ∷ []
take_one [] s e = absurd (let f : None ≡ Some s = e in cc)
take_one (x ∷ xs) s e = ap (λ y. y ∷ []) (same_Some x s e)
