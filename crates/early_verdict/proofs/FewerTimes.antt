-- What stands goes on to stand, where nodes go on from fewer times, or show fewer.
use Rattle.std.proofs.Common.{◌≡◌, ◌≢◌, ◌⊎◌, inl, inr, refl, sym, ap, subst, ◌∙◌, ℕ, zero, suc, ◌-◌}
use Rattle.std.proofs.Common.{Bool, true, false, Option, Some, None, List, [], ◌∷◌, length, arith}
use Rattle.std.specs.Prelude.{MatchBool, MatchOption, slice_get}
use Rattle.std.proofs.lemmas.Option.{same_Some, slice_get_within}
use Rattle.std.proofs.lemmas.Bool.{cases_eq}
use Rattle.rational.specs.Time.{Rational, ◌≤ʳ◌, ◌<ʳ◌}
use Rattle.rational.proofs.Order.{le_of_lt}
use Rattle.stl_syntax.specs.Trace.{Trace, start}
use Rattle.stl_syntax.specs.Formula.{subformula}
use Rattle.stl_syntax.specs.WellFormed.{AreWellFormed}
use Rattle.stl_syntax.specs.declared.atom.Atom.{Atom}
use Rattle.stl_syntax.specs.declared.node.Node.{Node}
use Rattle.stl_syntax.specs.declared.node.Node.TheVariants.{Const, Atom as Leaf, Not, And, Or, Implies, Until, Eventually, Always, Since, Once, Historically}
use Rattle.stl_syntax.proofs.PostOrderLemmas.{placed, child_below}
use Rattle.stl_syntax.specs.Cells.{IsChild}
use Rattle.rational.specs.Places.{Place, After}
use Rattle.rational.proofs.Lists.{slice_get_there}
use Rattle.growing_sets.specs.Spans.{IsOn, Lies}
use Rattle.early_verdict.specs.Fitting.{Lists, lists_at, nothing, Fits, SayBoth, SayOfParts, AreSetsTidy}
use Rattle.early_verdict.specs.Standing.{AllFit, AllTidy, HasParts, left_of}
use Rattle.early_verdict.specs.Living.{IsLive, IsNarrowed, IsShown, Known, LooksAt, NetStands}
use Rattle.early_verdict.specs.Letting.{AreApart, AreAskedBy, AreInside, AreLess, IsInside, IsLess, IsRun, HasShedAt, IsUntil}
use Rattle.growing_sets.specs.declared.stretch.Stretch.{Stretch}
use Rattle.growing_sets.specs.declared.grown.Grown.{Grown}
use Rattle.early_verdict.specs.declared.sets.Sets.{Sets}
use Rattle.early_verdict.specs.declared.sets.Parts.{Parts}
use Rattle.early_verdict.proofs.AllSets.{is_shown, lists_are, shown_is, shown_within, yes_there}
use Rattle.early_verdict.proofs.NeverBoth.{never_both}
use Rattle.stl_syntax.proofs.Parents.{child_or_not, one_parent}
use Rattle.early_verdict.proofs.Childhood.{left_child}
use Rattle.early_verdict.proofs.FitLemmas.{fits_as, fits_within}
use Rattle.early_verdict.proofs.LivingLemmas.{live_leaf, looks_as, parts_as}
use Rattle.early_verdict.proofs.Places.{lists_by}
use Rattle.early_verdict.proofs.NodeReads.{FalseBy, ListedNo, ListedYes, TrueBy, read_listed, read_on}
use Rattle.early_verdict.proofs.SetsTell.{both_alike, parts_kept}
use Rattle.early_verdict.proofs.SplitLists.{changed_each}

-- sets that let go of times say the same of the others
module _ (own bounds : Stretch) (s s' : Sets) (y : s.yes.bounds ≡ own) (n : s.no.bounds ≡ own) (k : IsNarrowed bounds s s')
    (less : (t : Rational) → Lies bounds t → Lies own t) where
  less_both : (P N : Rational → Type 0) → SayBoth s P N → SayBoth s' P N
  less_both P N h = record {
    yes = record {
      has = λ t l p. let b = subst (λ z. Lies z t) k.yes_bounds l in k.yes_in t b (h.yes.has t (subst (λ z. Lies z t) (sym y) (less t b)) p);
      only = λ t o. let w = k.yes_out t o in (subst (λ z. Lies z t) (sym k.yes_bounds) w.1, (h.yes.only t w.0).1);
    };
    no = record {
      has = λ t l p. let b = subst (λ z. Lies z t) k.no_bounds l in k.no_in t b (h.no.has t (subst (λ z. Lies z t) (sym n) (less t b)) p);
      only = λ t o. let w = k.no_out t o in (subst (λ z. Lies z t) (sym k.no_bounds) w.1, (h.no.only t w.0).1);
    };
  }

  run_less : (A B : Parts → Type 0) (o : Option Parts) → MatchOption o ⊥ (λ x. A x × B x × SayOfParts s x) → MatchOption o ⊥ (λ x. A x × B x × SayOfParts s' x)
  run_less A B None h = h
  run_less A B (Some x) h = (h.0, h.1, less_both _ _ h.2)

  run_still : (A B : Parts → Type 0) → MatchOption s.parts ⊥ (λ x. A x × B x × SayOfParts s x) → MatchOption s'.parts ⊥ (λ x. A x × B x × SayOfParts s' x)
  run_still A B h = subst (λ o. MatchOption o ⊥ (λ x. A x × B x × SayOfParts s' x)) (sym k.parts) (run_less A B s.parts h)

  -- sets that go on from fewer times fit still
  pub fits_less : (m : Node) (tr : Trace) (at : ℕ → Lists) → Fits m false tr at s → Fits m false tr at s'
  fits_less (Until p q a b) tr at h = run_still _ _ h
  fits_less (Since p q a b) tr at h = run_still _ _ h
  fits_less _ tr at h = less_both _ _ h

module _ (tr : Trace) (own : Stretch) (s : Sets) (y : s.yes.bounds ≡ own) (n : s.no.bounds ≡ own) (old new : List Sets)
    (agree : (p : ℕ) → Known (IsShown new p) (lists_at new p) (IsOn (lists_at old p).yes) (IsOn (lists_at old p).no))
    (apart : (p : ℕ) (u : Rational) → IsOn (lists_at old p).yes u → ¬ (IsOn (lists_at old p).no u)) where
  told_on : (m : Node) → LooksAt m (start tr) new own s.parts
      → SayBoth s (TrueBy m tr (ListedYes old) (ListedNo old)) (FalseBy m tr (ListedYes old) (ListedNo old))
      → SayBoth s (TrueBy m tr (ListedYes new) (ListedNo new)) (FalseBy m tr (ListedYes new) (ListedNo new))
  told_on m l h = both_alike s y n (read_listed tr new (ListedYes old) (ListedNo old) apart own s.parts m (λ p c. agree p) l)
      (λ t o. read_on (ListedYes new) (ListedNo new) (ListedYes old) (ListedNo old) tr m (λ p c u. ((agree p).yes_out u, (agree p).no_out u)) t) h

  -- a node that is no run and no until fits by what it looks at
  pub fits_local : (m : Node) → ¬ (IsRun m) → ¬ (IsUntil m) → LooksAt m (start tr) new own s.parts
      → Fits m false tr (lists_at old) s → Fits m false tr (lists_at new) s
  fits_local (Until p q a b) r u l h = absurd (u tt)
  fits_local (Since p q a b) r u l h = absurd (r tt)
  fits_local (Const b) r u l h = h
  fits_local (Leaf a) r u l h = h
  fits_local (Not p) r u l h = told_on (Not p) l h
  fits_local (And p q) r u l h = told_on (And p q) l h
  fits_local (Or p q) r u l h = told_on (Or p q) l h
  fits_local (Implies p q) r u l h = told_on (Implies p q) l h
  fits_local (Eventually p a b i j) r u l h = told_on (Eventually p a b i j) l h
  fits_local (Always p a b i j) r u l h = told_on (Always p a b i j) l h
  fits_local (Once p a b i j) r u l h = told_on (Once p a b i j) l h
  fits_local (Historically p a b i j) r u l h = told_on (Historically p a b i j) l h

-- one node goes on from fewer times
module _ {nodes : List Node} {tr : Trace} {live new shown : List Sets} {i : ℕ} (at : HasShedAt i shown live new) (st : NetStands nodes tr live shown) where
  live_here : (n : Node) → slice_get nodes i ≡ Some n → IsLive (start tr) shown n at.is at.by.x
  live_here n here = record {
    own = at.by.shed.bounds;
    yes = k.yes_bounds;
    no = k.no_bounds;
    starts = λ t l. was.starts t (less t l);
    looks = looks_as (start tr) was.own at.by.shed.bounds less n shown shown at.was.parts at.is.parts (λ p e u h. h)
        (λ p e u h. h) (λ p e u. (λ h. h, λ h. h)) (parts_kept at.was.parts at.is.parts k.parts) was.looks;
    left = parts_as n at.was at.is shown shown (parts_kept at.was.parts at.is.parts k.parts) (λ p l' e z. (l', z, refl)) was.left;
    shown_yes = was.shown_yes;
    shown_starts = was.shown_starts;
    yes_within = was.yes_within;
    no_within = was.no_within;
    shows_yes = λ t o l. was.shows_yes t (k.yes_out t o).0 l;
    shows_no = λ t o l. was.shows_no t (k.no_out t o).0 l;
    early = λ t l. elim (was.early t l) [
      | inl o ↦ elim (at.by.shed.told t l (subst (λ z. Lies z t) (sym was.no) o)) [
        | inl b ↦ inl b
        | inr (inl z) ↦ inr (inl (was.shows_yes t z l))
        | inr (inr z) ↦ inr (inr (was.shows_no t z l))
      ]
      | inr z ↦ inr z
    ];
  }
    where
      k : IsNarrowed at.by.shed.bounds at.was at.is
      k = at.by.shed.narrowed

      was : IsLive (start tr) shown n at.was at.by.x
      was = st.have.has i n at.was at.by.x here at.at_old at.by.at_shown

      less : (t : Rational) → Lies at.by.shed.bounds t → Lies was.own t
      less t l = subst (λ z. Lies z t) was.no (at.by.shed.less t l)

  live_there : (j : ℕ) (n : Node) (s x : Sets) → slice_get nodes j ≡ Some n → slice_get new j ≡ Some s
      → slice_get shown j ≡ Some x → IsLive (start tr) shown n s x
  live_there j n s x here is ix =
      changed_each (λ j s. (n : Node) (x : Sets) → slice_get nodes j ≡ Some n → slice_get shown j ≡ Some x → IsLive (start tr) shown n s x) at
      (λ n x e f. subst (λ z. IsLive (start tr) shown n at.is z) (same_Some at.by.x x (sym at.by.at_shown ∙ f)) (live_here n e))
      (λ j s e n x f g. st.have.has j n s x f e g) j s is n x here ix

  fit_there : AllFit nodes false tr new shown
  fit_there j n s here is = changed_each (λ j s. (n : Node) → slice_get nodes j ≡ Some n → Fits n false tr (lists_at shown) s) at fit_here
      (λ j s e n f. st.fit j n s f e) j s is n here
    where
      fit_here : (n : Node) → slice_get nodes i ≡ Some n → Fits n false tr (lists_at shown) at.is
      fit_here n e =
          let was = st.have.has i n at.was at.by.x e at.at_old at.by.at_shown in
          fits_less was.own at.by.shed.bounds at.was at.is was.yes was.no at.by.shed.narrowed
          (λ t l. subst (λ z. Lies z t) was.no (at.by.shed.less t l)) n tr (lists_at shown) (st.fit i n at.was e at.at_old)

  -- all stands where a node goes on from fewer times
  pub shed_stands : NetStands nodes tr new shown
  shed_stands = record {
    have = record { count = at.count ∙ st.have.count; shown_count = st.have.shown_count; has = live_there };
    tidy = changed_each (λ j s. AreSetsTidy s) at at.by.shed.narrowed.tidy st.tidy;
    shown_tidy = st.shown_tidy;
    fit = fit_there;
    known = st.known;
    root = st.root;
  }

-- of until and since the first has the left operand, and the second too
run_of_left : (n : Node) → ¬ (IsUntil n) → (p : ℕ) → left_of n ≡ Some p → IsRun n
run_of_left (Until q r a b) u p e = u tt
run_of_left (Since q r a b) u p e = tt
run_of_left _ u p e = let f : None ≡ Some p = e in cc

run_or_not : (n : Node) → IsRun n ⊎ ¬ (IsRun n)
run_or_not (Since q r a b) = inl tt
run_or_not _ = inr (λ h. h)

-- something stands at a place, or nothing is shown there
at_or_not : (xs : List Sets) (p : ℕ) → ((x : Sets) × (slice_get xs p ≡ Some x)) ⊎ (((u : Rational) → ¬ (IsShown xs p u)) × (lists_at xs p ≡ nothing))
at_or_not [] p = inr (λ u h. h, refl)
at_or_not (x ∷ xs) zero = inl (x, refl)
at_or_not (x ∷ xs) (suc p) = at_or_not xs p

-- where the same stands the same is shown
shown_as : (xs ys : List Sets) (p : ℕ) (u : Rational) → slice_get ys p ≡ slice_get xs p → IsShown xs p u → IsShown ys p u
shown_as xs ys p u e h = let x = slice_get_there xs p (shown_within xs p u h) in is_shown ys p x.0 u (e ∙ x.1) (shown_is xs p x.0 u x.1 h)

-- and so the lists have
lists_as : (xs ys : List Sets) (p : ℕ) (u : Rational) → slice_get ys p ≡ slice_get xs p
    → (IsOn (lists_at xs p).yes u → IsOn (lists_at ys p).yes u) × (IsOn (lists_at xs p).no u → IsOn (lists_at ys p).no u)
lists_as xs ys p u e =
    let d = lists_by xs ys p (sym e) in (λ o. subst (λ (l : Lists). IsOn l.yes u) d o, λ o. subst (λ (l : Lists). IsOn l.no u) d o)

-- what nodes show is from the start on, and the lists of what they show have no time in common
module _ {nodes : List Node} {tr : Trace} {live shown : List Sets} (st : NetStands nodes tr live shown) where
  -- a time that a node shows does not lie before the start
  pub shown_begun : (p : ℕ) (u : Rational) → IsShown shown p u → start tr ≤ʳ u
  shown_begun p u h =
      let l = shown_within shown p u h in
      let c = st.have.count in
      let d = st.have.shown_count in
      let n = slice_get_there nodes p (omega (arith, l, d)) in
      let s = slice_get_there live p (omega (arith, l, c, d)) in
      let x = slice_get_there shown p l in
      (st.have.has p n.0 s.0 x.0 n.1 s.1 x.1).shown_starts u (shown_is shown p x.0 u x.1 h)

  -- no node has a time among its true times and among its false ones
  pub lists_apart : (p : ℕ) (u : Rational) → IsOn (lists_at shown p).yes u → ¬ (IsOn (lists_at shown p).no u)
  lists_apart p u y n =
      let l = yes_there shown p u y in
      let d = st.have.shown_count in
      let k = st.known p (omega (arith, l, d)) in
      never_both (subformula nodes p) tr u (k.yes_out u y) (k.no_out u n)

  -- the true times and the false times of all nodes that are shown lie apart
  pub are_apart : AreApart shown
  are_apart p x is t y n =
      lists_apart p t (subst (λ (l : Lists). IsOn l.yes t) (sym (lists_are shown p x is)) y)
      (subst (λ (l : Lists). IsOn l.no t) (sym (lists_are shown p x is)) n)

-- beside a place each node goes on from what it did; or it is an atom, which goes on from what it shows
abbrev pub StayBeside : List Node → ℕ → List Sets → List Sets → List Sets → List Sets → Type 0
StayBeside nodes i live left old new = (j : ℕ) (v : Sets) → j ≢ i → slice_get left j ≡ Some v → (slice_get live j ≡ Some v)
    ⊎ ((a : Atom) × (slice_get nodes j ≡ Some (Leaf a)) × (slice_get new j ≡ Some v) × ((w : Sets) → slice_get old j ≡ Some w → slice_get live j ≡ Some w))

-- what stands at the place before and after, and beside it
pub record Beside (nodes : List Node) (i : ℕ) (live left old new : List Sets) (s r : Sets) : Type 0 where
  -- what the node at the place went on from
  pub is : slice_get live i ≡ Some s
  -- and goes on from now
  pub ir : slice_get left i ≡ Some r
  -- the others
  pub same : StayBeside nodes i live left old new
  -- there are as many
  pub count : length left ≡ length live

-- what says something within its bounds says it of fewer times
says_less : (w x : Sets) → IsLess w x → w.yes.bounds ≡ w.no.bounds → {P N : Rational → Type 0} → SayBoth w P N → SayBoth x P N
says_less w x less same h = record {
  yes = record {
    has = λ t l p. let m = subst (λ z. Lies z t) (less.same same) l in less.yes_in t m (h.yes.has t (subst (λ z. Lies z t) (sym same) (less.less t m)) p);
    only = λ t o. (subst (λ z. Lies z t) (sym (less.same same)) (inside.yes t o), (h.yes.only t (less.yes_out t o)).1);
  };
  no = record {
    has = λ t l p. less.no_in t l (h.no.has t (less.less t l) p);
    only = λ t o. (inside.no t o, (h.no.only t (less.no_out t o)).1);
  };
}
  where
    inside : IsInside x
    inside = less.inside (record { yes = λ t o. subst (λ z. Lies z t) same (h.yes.only t o).0; no = λ t o. (h.no.only t o).0 })

-- the children of one node show fewer times, and its own sets go on to fit them
module _ {nodes : List Node} (formed : AreWellFormed nodes) {tr : Trace} {live left old new : List Sets} (i : ℕ) {n : Node}
    (at : slice_get nodes i ≡ Some n) {s r : Sets} (there : Beside nodes i live left old new s r) (less : AreLess old new)
    (others : (p : ℕ) → ¬ (IsChild n p) → slice_get new p ≡ slice_get old p) (st : NetStands nodes tr live old) where
  -- what is shown at a place now, and was
  was_shown : (p : ℕ) (x : Sets) → slice_get new p ≡ Some x → (w : Sets) × (slice_get old p ≡ Some w) × IsLess w x
  was_shown = less.each

  -- what is left tells what it told
  pub agree : (p : ℕ) → Known (IsShown new p) (lists_at new p) (IsOn (lists_at old p).yes) (IsOn (lists_at old p).no)
  agree p = elim (at_or_not new p) [
    | inl (x, e) ↦
        let w = was_shown p x e in
        subst (λ (l : Lists). Known (IsShown new p) (lists_at new p) (IsOn l.yes) (IsOn l.no)) (sym (lists_are old p w.0 w.1))
        (subst (λ (l : Lists). Known (IsShown new p) l (IsOn w.0.yes.spans.items) (IsOn w.0.no.spans.items)) (sym (lists_are new p x e)) (record {
          yes_in = λ u h o. w.2.yes_in u (shown_is new p x u e h) o;
          yes_out = w.2.yes_out;
          no_in = λ u h o. w.2.no_in u (shown_is new p x u e h) o;
          no_out = w.2.no_out;
        }))
    | inr (none, e) ↦
        subst (λ (l : Lists). Known (IsShown new p) l (IsOn (lists_at old p).yes) (IsOn (lists_at old p).no)) (sym e) (record {
          yes_in = λ u h o. absurd (none u h);
          yes_out = λ u o. absurd o;
          no_in = λ u h o. absurd (none u h);
          no_out = λ u o. absurd o;
        })
  ]

  shown_less : (p : ℕ) (u : Rational) → IsShown new p u → IsShown old p u
  shown_less p u h =
      let x = slice_get_there new p (shown_within new p u h) in
      let w = was_shown p x.0 x.1 in
      is_shown old p w.0 u w.1 (w.2.less u (shown_is new p x.0 u x.1 h))

  -- a child of another node shows what it did
  not_its : (j p : ℕ) (m : Node) → j ≢ i → slice_get nodes j ≡ Some m → IsChild m p → slice_get new p ≡ slice_get old p
  not_its j p m d here c = others p (λ e. one_parent nodes formed.post_order j i p m n d here at c e)

  -- a node is live by what it was, where it looks at its children still and has its sets between
  pub live_by : (m : Node) (v v' w x : Sets) → v'.yes ≡ v.yes → v'.no ≡ v.no → IsLess w x → (k : IsLive (start tr) old m v w)
      → LooksAt m (start tr) new k.own v'.parts → HasParts m v' new → IsLive (start tr) new m v' x
  live_by m v v' w x e f less k looks has = record {
    own = k.own;
    yes = ap (λ (g : Grown). g.bounds) e ∙ k.yes;
    no = ap (λ (g : Grown). g.bounds) f ∙ k.no;
    starts = k.starts;
    looks = looks;
    left = has;
    shown_yes = less.same k.shown_yes;
    shown_starts = λ t l. k.shown_starts t (less.less t l);
    yes_within = (less.inside (record { yes = k.yes_within; no = k.no_within })).yes;
    no_within = (less.inside (record { yes = k.yes_within; no = k.no_within })).no;
    shows_yes = λ t o l. less.yes_in t l (k.shows_yes t (subst (λ (g : Grown). IsOn g.spans.items t) e o) (less.less t l));
    shows_no = λ t o l. less.no_in t l (k.shows_no t (subst (λ (g : Grown). IsOn g.spans.items t) f o) (less.less t l));
    early = λ t l. elim (k.early t (less.less t l)) [
      | inl o ↦ inl o
      | inr (inl z) ↦ inr (inl (less.yes_in t l z))
      | inr (inr z) ↦ inr (inr (less.no_in t l z))
    ];
  }

  module _ (mine : (w x : Sets) → slice_get old i ≡ Some w → slice_get new i ≡ Some x → IsLess w x → IsLive (start tr) new n r x)
      (fits : Fits n false tr (lists_at new) r) (tidy : AreSetsTidy r) where
    module _ (j : ℕ) (m : Node) (v : Sets) (here : slice_get nodes j ≡ Some m) (iv : slice_get left j ≡ Some v) where
      same_m : j ≡ i → n ≡ m
      same_m q = same_Some n m (sym at ∙ subst (λ k. slice_get nodes k ≡ Some m) q here)

      same_v : j ≡ i → r ≡ v
      same_v q = same_Some r v (sym there.ir ∙ subst (λ k. slice_get left k ≡ Some v) q iv)

      -- an atom that goes on from what it shows
      module _ (a : Atom) (leaf : slice_get nodes j ≡ Some (Leaf a)) (shows : slice_get new j ≡ Some v)
          (was : (w : Sets) → slice_get old j ≡ Some w → slice_get live j ≡ Some w) where
        shown_v : (w : Sets) × (slice_get old j ≡ Some w) × IsLess w v
        shown_v = was_shown j v shows

        leaf_was : IsLive (start tr) old (Leaf a) shown_v.0 shown_v.0
        leaf_was = st.have.has j (Leaf a) shown_v.0 shown_v.0 leaf (was shown_v.0 shown_v.1) shown_v.1

        is_leaf : Leaf a ≡ m
        is_leaf = same_Some (Leaf a) m (sym leaf ∙ here)

        leaf_live : (x : Sets) → slice_get new j ≡ Some x → IsLive (start tr) new m v x
        leaf_live x ix = subst (λ z. IsLive (start tr) new m v z) (same_Some v x (sym shows ∙ ix)) (subst (λ z. IsLive (start tr) new z v v) is_leaf
            (live_leaf a v (shown_v.2.same leaf_was.shown_yes) (λ t l. leaf_was.shown_starts t (shown_v.2.less t l))
            (shown_v.2.inside (record { yes = leaf_was.yes_within; no = leaf_was.no_within }))))

        leaf_fits : Fits m false tr (lists_at new) v
        leaf_fits = subst (λ z. Fits z false tr (lists_at new) v) is_leaf
            (says_less shown_v.0 v shown_v.2 leaf_was.shown_yes (st.fit j (Leaf a) shown_v.0 leaf (was shown_v.0 shown_v.1)))

      live_one : (x : Sets) → slice_get new j ≡ Some x → IsLive (start tr) new m v x
      live_one x ix = by_was (was_shown j x ix)
        where
          by_was : ((w : Sets) × (slice_get old j ≡ Some w) × IsLess w x) → IsLive (start tr) new m v x
          by_was (w, e, less) = elim (cases_eq j i) [
            | inl q ↦ subst (λ z. IsLive (start tr) new m z x) (same_v q) (subst (λ z. IsLive (start tr) new z r x) (same_m q)
                (mine w x (subst (λ k. slice_get old k ≡ Some w) q e) (subst (λ k. slice_get new k ≡ Some x) q ix) less))
            | inr d ↦ elim (there.same j v d iv) [
              | inl o ↦
                  let k = st.have.has j m v w here o e in
                  live_by m v v w x refl refl less k
                  (looks_as (start tr) k.own k.own (λ t h. h) m old new v.parts v.parts (λ p c u h. shown_as old new p u (not_its j p m d here c) h)
                  (λ p c u h. shown_as new old p u (sym (not_its j p m d here c)) h)
                  (λ p c u. lists_as old new p u (not_its j p m d here c))
                  (parts_kept v.parts v.parts refl) k.looks)
                  (parts_as m v v old new (parts_kept v.parts v.parts refl)
                  (λ p l' f z. (l', sym (not_its j p m d here (left_child p m f)) ∙ z, refl)) k.left)
              | inr (a, leaf, shows, was) ↦ leaf_live a leaf shows was x ix
            ]
          ]

      fit_one : Fits m false tr (lists_at new) v
      fit_one = elim (cases_eq j i) [
        | inl q ↦ subst (λ z. Fits m false tr (lists_at new) z) (same_v q) (subst (λ z. Fits z false tr (lists_at new) r) (same_m q) fits)
        | inr d ↦ elim (there.same j v d iv) [
          | inl o ↦ fits_as m false tr (lists_at old) (lists_at new) v (λ p c. lists_by old new p (sym (not_its j p m d here c))) (st.fit j m v here o)
          | inr (a, leaf, shows, was) ↦ leaf_fits a leaf shows was
        ]
      ]

    tidy_one : AllTidy left
    tidy_one j v iv = elim (cases_eq j i) [
      | inl q ↦ subst AreSetsTidy (same_Some r v (sym there.ir ∙ subst (λ k. slice_get left k ≡ Some v) q iv)) tidy
      | inr d ↦ elim (there.same j v d iv) [
        | inl o ↦ st.tidy j v o
        | inr (a, leaf, shows, was) ↦ let w = was_shown j v shows in w.2.tidy (st.shown_tidy j w.0 w.1)
      ]
    ]

    -- all stands where one node lets go
    pub one_stands : NetStands nodes tr left new
    one_stands = record {
      have = record {
        count = there.count ∙ st.have.count;
        shown_count = less.count ∙ st.have.shown_count;
        has = λ j m v x here iv ix. live_one j m v here iv x ix;
      };
      tidy = tidy_one;
      shown_tidy = λ p x e. let w = was_shown p x e in w.2.tidy (st.shown_tidy p w.0 w.1);
      fit = λ j m v here iv. fit_one j m v here iv;
      known = λ p l. record {
        yes_in = λ u h y. (agree p).yes_in u h ((st.known p l).yes_in u (shown_less p u h) y);
        yes_out = λ u o. (st.known p l).yes_out u ((agree p).yes_out u o);
        no_in = λ u h y. (agree p).no_in u h ((st.known p l).no_in u (shown_less p u h) y);
        no_out = λ u o. (st.known p l).no_out u ((agree p).no_out u o);
      };
      root = elim (child_or_not (length nodes - 1) n) [
        | inl c ↦ absurd (let a = child_below i (length nodes - 1) n (placed nodes i n formed.post_order at) c in
            let b = slice_get_within live i s there.is in let d = st.have.count in omega (arith, a, b, d))
        | inr c ↦ shown_as old new (length nodes - 1) (start tr) (others (length nodes - 1) c) st.root
      ];
    }

-- a node that is no until
module _ {nodes : List Node} (formed : AreWellFormed nodes) {tr : Trace} {live left old new : List Sets} (i : ℕ) {n : Node}
    (at : slice_get nodes i ≡ Some n) {s : Sets}
    (there : Beside nodes i live left old new s s) {from : Rational} (begins : (t : Rational) → Lies s.no.bounds t → from ≤ʳ t)
    (asked : AreAskedBy n from old new)
    (st : NetStands nodes tr live old) (plain : ¬ (IsUntil n)) where
  begun : (own : Stretch) → s.no.bounds ≡ own → (t : Rational) → Lies own t → from ≤ʳ t
  begun own e t l = begins t (subst (λ z. Lies z t) (sym e) l)

  mine : (w x : Sets) → slice_get old i ≡ Some w → slice_get new i ≡ Some x → IsLess w x → IsLive (start tr) new n s x
  mine w x e f less =
      let k = st.have.has i n s w at there.is e in
      live_by formed i at there asked.less asked.others st n s s w x refl refl less k
      (asked.looks (start tr) k.own s.parts (shown_begun st) (begun k.own k.no) k.looks)
      (parts_as n s s old new (parts_kept s.parts s.parts refl)
      (λ p l' g z. (l', subst (λ xs. slice_get xs p ≡ Some l') (asked.run (run_of_left n plain p g)) z, refl)) k.left)

  shown_i : (w : Sets) × (slice_get old i ≡ Some w)
  shown_i = slice_get_there old i (let a = slice_get_within live i s there.is in let c = st.have.count in let d = st.have.shown_count in omega (arith, a, c, d))

  fits : Fits n false tr (lists_at new) s
  fits = elim (run_or_not n) [
    | inl h ↦ subst (λ xs. Fits n false tr (lists_at xs) s) (sym (asked.run h)) (st.fit i n s at there.is)
    | inr h ↦
        let k = st.have.has i n s shown_i.0 at there.is shown_i.1 in
        fits_local tr k.own s k.yes k.no old new
        (agree formed i at there asked.less asked.others st)
        (lists_apart st) n h plain
        (asked.looks (start tr) k.own s.parts (shown_begun st) (begun k.own k.no) k.looks) (st.fit i n s at there.is)
  ]

  -- the network stands where one node shows fewer times that are asked for
  pub asked_stands : NetStands nodes tr left new
  asked_stands = one_stands formed i at there asked.less asked.others st mine fits (st.tidy i s there.is)

-- what stands lies within its bounds
module _ {nodes : List Node} {tr : Trace} {live shown : List Sets} (st : NetStands nodes tr live shown) where
  -- what the nodes go on from lies within the bounds
  pub live_inside : AreInside live
  live_inside p s is =
      let l = slice_get_within live p s is in
      let c = st.have.count in
      let d = st.have.shown_count in
      let n = slice_get_there nodes p (omega (arith, l, c)) in
      let x = slice_get_there shown p (omega (arith, l, c, d)) in
      let k = st.have.has p n.0 s x.0 n.1 is x.1 in
      let w = fits_within n.0 false tr (lists_at shown) s (st.fit p n.0 s n.1 is) in
      record { yes = λ t o. subst (λ z. Lies z t) (k.yes ∙ sym k.no) (w.yes_within t o); no = w.no_within }

  -- what all nodes show lies within their bounds
  pub shown_inside : AreInside shown
  shown_inside p x ix =
      let l = slice_get_within shown p x ix in
      let c = st.have.count in
      let d = st.have.shown_count in
      let n = slice_get_there nodes p (omega (arith, l, d)) in
      let s = slice_get_there live p (omega (arith, l, c, d)) in
      let k = st.have.has p n.0 s.0 x n.1 s.1 ix in
      record { yes = k.yes_within; no = k.no_within }

-- a time after a place is no earlier than its time
pub le_after : (c : Place) (t : Rational) → After c t → c.at ≤ʳ t
le_after c t a = by_side c.after a
  where
    by_side : (b : Bool) → MatchBool b (c.at <ʳ t) (c.at ≤ʳ t) → c.at ≤ʳ t
    by_side true l = le_of_lt l
    by_side false l = l
