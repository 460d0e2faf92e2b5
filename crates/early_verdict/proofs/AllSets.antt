-- What the sets of all nodes tell, where they fit.
use Rattle.std.proofs.Common.{◌≡◌, ◌⊎◌, inl, inr, refl, sym, ap, subst, ℕ, zero, suc, ◌<◌, ◌≤◌}
use Rattle.std.proofs.Common.{true, false, Some, None, List, [], ◌∷◌, length, arith, below_more}
use Rattle.std.specs.Prelude.{slice_get, slice_index_or}
use Rattle.std.proofs.lemmas.Option.{same_Some}
use Rattle.rational.specs.Time.{Rational, ◌≤ʳ◌}
use Rattle.rational.proofs.Lists.{slice_get_there}
use Rattle.stl_syntax.specs.Trace.{Trace, start, stop}
use Rattle.stl_syntax.specs.Formula.{subformula}
use Rattle.stl_syntax.specs.Truth.{Truth}
use Rattle.stl_syntax.specs.Early.{Settled, SettledNot}
use Rattle.stl_syntax.specs.WellFormed.{AreWellFormed}
use Rattle.stl_syntax.specs.declared.node.Node.{Node}
use Rattle.stl_syntax.specs.declared.node.Node.TheVariants.{Const}
use Rattle.stl_syntax.proofs.FormulaLemmas.{subformula-at}
use Rattle.stl_syntax.proofs.PostOrderLemmas.{placed, slice_get_at}
use Rattle.growing_sets.specs.Spans.{AreTidy, Lies, IsOn}
use Rattle.early_verdict.specs.Fitting.{Lists, lists_of, lists_at, SayBoth}
use Rattle.early_verdict.specs.Standing.{AllFit, AllTidy}
use Rattle.early_verdict.specs.Living.{AreLive, IsLive, IsShown, Known}
use Rattle.early_verdict.specs.declared.sets.Sets.{Sets}
use Rattle.early_verdict.proofs.NeverBoth.{never_both}
use Rattle.early_verdict.proofs.SettledSets.{node_told}
use Rattle.early_verdict.proofs.EndedSets.{Final, node_final}

-- the lists of a node are those of its sets
pub lists_are : (sets : List Sets) (i : ℕ) (s : Sets) → slice_get sets i ≡ Some s → lists_at sets i ≡ lists_of s
lists_are [] i s e = absurd (let f : None ≡ Some s = e in cc)
lists_are (r ∷ sets) zero s e = ap lists_of (same_Some r s e)
lists_are (r ∷ sets) (suc i) s e = lists_are sets i s e

-- tidy sets have tidy lists
pub lists_tidy : (sets : List Sets) → AllTidy sets → (p : ℕ) → AreTidy (lists_at sets p).yes × AreTidy (lists_at sets p).no
lists_tidy [] h p = (tt, tt)
lists_tidy (s ∷ sets) h zero = let t = h 0 s refl in (t.yes, t.no)
lists_tidy (s ∷ sets) h (suc p) = lists_tidy sets (λ i r e. h (suc i) r e) p

-- what a node shows is what its shown sets lie within
pub shown_is : (shown : List Sets) (i : ℕ) (x : Sets) (u : Rational) → slice_get shown i ≡ Some x → IsShown shown i u → Lies x.no.bounds u
shown_is [] i x u e h = absurd h
shown_is (y ∷ shown) zero x u e h = subst (λ z. Lies z.no.bounds u) (same_Some y x e) h
shown_is (y ∷ shown) (suc i) x u e h = shown_is shown i x u e h

-- a time within the bounds of what is shown is shown
pub is_shown : (shown : List Sets) (i : ℕ) (x : Sets) (u : Rational) → slice_get shown i ≡ Some x → Lies x.no.bounds u → IsShown shown i u
is_shown [] i x u e h = absurd (let f : None ≡ Some x = e in cc)
is_shown (y ∷ shown) zero x u e h = subst (λ z. Lies z.no.bounds u) (sym (same_Some y x e)) h
is_shown (y ∷ shown) (suc i) x u e h = is_shown shown i x u e h

-- only nodes of the formula show anything
pub shown_within : (shown : List Sets) (i : ℕ) (u : Rational) → IsShown shown i u → i < length shown
shown_within [] i u h = absurd h
shown_within (x ∷ shown) zero u h = omega arith
shown_within (x ∷ shown) (suc i) u h = let k = shown_within shown i u h in omega (arith, k)

-- where a list has a time, there is a node
pub yes_there : (shown : List Sets) (i : ℕ) (u : Rational) → IsOn (lists_at shown i).yes u → i < length shown
yes_there [] i u o = absurd o
yes_there (x ∷ shown) zero u o = omega arith
yes_there (x ∷ shown) (suc i) u o = let k = yes_there shown i u o in omega (arith, k)

-- a node whose set of false times has a time is one of the nodes that are shown
pub no_there : (shown : List Sets) (i : ℕ) (u : Rational) → IsOn (lists_at shown i).no u → i < length shown
no_there [] i u o = absurd o
no_there (x ∷ shown) zero u o = omega arith
no_there (x ∷ shown) (suc i) u o = let k = no_there shown i u o in omega (arith, k)

-- what the nodes show was told before, or is what their sets have
pub record AreSound (Yes No : ℕ → Rational → Type 0) (live shown : List Sets) : Type 0 where
  -- a time that is shown true is true, or one that the node goes on from
  pub yes : (i : ℕ) (s x : Sets) → slice_get live i ≡ Some s → slice_get shown i ≡ Some x → (u : Rational)
      → IsOn x.yes.spans.items u → Yes i u ⊎ IsOn s.yes.spans.items u
  -- and so a false one
  pub no : (i : ℕ) (s x : Sets) → slice_get live i ≡ Some s → slice_get shown i ≡ Some x → (u : Rational)
      → IsOn x.no.spans.items u → No i u ⊎ IsOn s.no.spans.items u

module _ {nodes : List Node} (tr : Trace) {live shown : List Sets} (formed : AreWellFormed nodes) (have : AreLive nodes (start tr) live shown)
    (tidy : AllTidy live) (shown_tidy : AllTidy shown) where
  module _ (sound : AreSound (λ i. Settled (subformula nodes i) tr) (λ i. SettledNot (subformula nodes i) tr) live shown) where
    known_of : (i : ℕ) (n : Node) (s x : Sets) → slice_get nodes i ≡ Some n → slice_get live i ≡ Some s → slice_get shown i ≡ Some x
        → SayBoth s (Settled (subformula nodes i) tr) (SettledNot (subformula nodes i) tr)
        → Known (IsShown shown i) (lists_at shown i) (Settled (subformula nodes i) tr) (SettledNot (subformula nodes i) tr)
    known_of i n s x at is ix h =
        subst (λ (l : Lists). Known (IsShown shown i) l (Settled (subformula nodes i) tr) (SettledNot (subformula nodes i) tr))
        (sym (lists_are shown i x ix)) (record {
          yes_in = λ u f y. let l = shown_is shown i x u ix f in elim (k.early u l) [
            | inl o ↦ k.shows_yes u (h.yes.has u (subst (λ b. Lies b u) (sym k.yes) o) y) l
            | inr (inl z) ↦ z
            | inr (inr z) ↦ absurd (never_both (subformula nodes i) tr u y (no_out u z))
          ];
          yes_out = yes_out;
          no_in = λ u f y. let l = shown_is shown i x u ix f in elim (k.early u l) [
            | inl o ↦ k.shows_no u (h.no.has u (subst (λ b. Lies b u) (sym k.no) o) y) l
            | inr (inl z) ↦ absurd (never_both (subformula nodes i) tr u (yes_out u z) y)
            | inr (inr z) ↦ z
          ];
          no_out = no_out;
        })
      where
        k : IsLive (start tr) shown n s x
        k = have.has i n s x at is ix

        yes_out : (u : Rational) → IsOn x.yes.spans.items u → Settled (subformula nodes i) tr u
        yes_out u o = elim (sound.yes i s x is ix u o) [ inl z ↦ z | inr z ↦ (h.yes.only u z).1 ]

        no_out : (u : Rational) → IsOn x.no.spans.items u → SettledNot (subformula nodes i) tr u
        no_out u o = elim (sound.no i s x is ix u o) [ inl z ↦ z | inr z ↦ (h.no.only u z).1 ]

    -- one node more
    next_known : AllFit nodes false tr live shown → (m : ℕ) → m < length nodes
        → ((p : ℕ) → p < m → Known (IsShown shown p) (lists_at shown p) (Settled (subformula nodes p) tr) (SettledNot (subformula nodes p) tr))
        → Known (IsShown shown m) (lists_at shown m) (Settled (subformula nodes m) tr) (SettledNot (subformula nodes m) tr)
    next_known fit m le known =
        let n = slice_index_or nodes m (Const false) in
        let at = slice_get_at nodes m (Const false) le in
        let s = slice_get_there live m (let c = have.count in omega (arith, le, c)) in
        let x = slice_get_there shown m (let c = have.shown_count in omega (arith, le, c)) in
        let h = have.has m n s.0 x.0 at s.1 x.1 in
        let below = placed nodes m n formed.post_order at in
        known_of m n s.0 x.0 at s.1 x.1
        (subst (λ z. SayBoth s.0 (Settled z tr) (SettledNot z tr)) (sym (subformula-at nodes m n at below))
        (node_told tr h.own s.0 h.yes h.no h.starts (tidy m s.0 s.1) shown (λ q. (lists_tidy shown shown_tidy q).1)
        (subformula nodes) m known n below (formed.bounds m (Const false) le) h.looks (fit m n s.0 at s.1)))

    -- sets that fit tell of each node what rows settle
    pub all_known : AllFit nodes false tr live shown → (m : ℕ) → m ≤ length nodes → (p : ℕ) → p < m
        → Known (IsShown shown p) (lists_at shown p) (Settled (subformula nodes p) tr) (SettledNot (subformula nodes p) tr)
    all_known fit zero le p lt = absurd (omega (arith, lt))
    all_known fit (suc m) le p lt =
        below_more (λ k. Known (IsShown shown k) (lists_at shown k) (Settled (subformula nodes k) tr) (SettledNot (subformula nodes k) tr)) m
        (all_known fit m (omega (arith, le))) (next_known fit m (omega (arith, le)) (all_known fit m (omega (arith, le)))) p (omega (arith, lt))

  module _ (sound : AreSound (λ i u. u ≤ʳ stop tr → Truth (subformula nodes i) tr u)
      (λ i u. u ≤ʳ stop tr → ¬ (Truth (subformula nodes i) tr u)) live shown) where
    final_of : (i : ℕ) (n : Node) (s x : Sets) → slice_get nodes i ≡ Some n → slice_get live i ≡ Some s → slice_get shown i ≡ Some x
        → (own : IsLive (start tr) shown n s x) → Final tr (Lies own.own) (lists_of s) (subformula nodes i)
        → Final tr (IsShown shown i) (lists_at shown i) (subformula nodes i)
    final_of i n s x at is ix k f =
        subst (λ (l : Lists). Final tr (IsShown shown i) l (subformula nodes i)) (sym (lists_are shown i x ix)) (record {
          yes = λ u o e. elim (sound.yes i s x is ix u o) [ inl z ↦ z e | inr z ↦ f.yes u z e ];
          no = λ u o e. elim (sound.no i s x is ix u o) [ inl z ↦ z e | inr z ↦ f.no u z e ];
          all = λ u g e. let l = shown_is shown i x u ix g in elim (k.early u l) [
            | inl o ↦ elim (f.all u o e) [ inl y ↦ inl (k.shows_yes u y l) | inr y ↦ inr (k.shows_no u y l) ]
            | inr z ↦ z
          ];
        })

    next_final : AllFit nodes true tr live shown → (m : ℕ) → m < length nodes
        → ((p : ℕ) → p < m → Final tr (IsShown shown p) (lists_at shown p) (subformula nodes p))
        → Final tr (IsShown shown m) (lists_at shown m) (subformula nodes m)
    next_final fit m le known =
        let n = slice_index_or nodes m (Const false) in
        let at = slice_get_at nodes m (Const false) le in
        let s = slice_get_there live m (let c = have.count in omega (arith, le, c)) in
        let x = slice_get_there shown m (let c = have.shown_count in omega (arith, le, c)) in
        let h = have.has m n s.0 x.0 at s.1 x.1 in
        let below = placed nodes m n formed.post_order at in
        final_of m n s.0 x.0 at s.1 x.1 h
        (subst (λ z. Final tr (Lies h.own) (lists_of s.0) z) (sym (subformula-at nodes m n at below))
        (node_final tr h.own s.0 h.yes h.no h.starts (tidy m s.0 s.1) shown (subformula nodes) m known
        (λ q. (lists_tidy shown shown_tidy q).1) (λ q. (lists_tidy shown shown_tidy q).0) n below (formed.bounds m (Const false) le) h.looks
        (fit m n s.0 at s.1)))

    -- at the end the sets of all nodes tell the truth at each time that they show
    pub all_final : AllFit nodes true tr live shown → (m : ℕ) → m ≤ length nodes → (p : ℕ) → p < m
        → Final tr (IsShown shown p) (lists_at shown p) (subformula nodes p)
    all_final fit zero le p lt = absurd (omega (arith, lt))
    all_final fit (suc m) le p lt =
        below_more (λ k. Final tr (IsShown shown k) (lists_at shown k) (subformula nodes k)) m
        (all_final fit m (omega (arith, le))) (next_final fit m (omega (arith, le)) (all_final fit m (omega (arith, le)))) p (omega (arith, lt))
