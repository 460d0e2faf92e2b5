-- With atoms read as 1, -1 and 0 the Sup-Inf value is 1 exactly on what is certainly true, and -1 exactly on what is certainly false.
use Rattle.std.proofs.Common.{◌⊎◌, inl, inr, true, false, lit≤, lit<, refl, sym, ◌∙◌, List}
use Rattle.rational.specs.Time.{Rational, Within}
use Rattle.rational.specs.Windows.{Ahead, Behind, Function, Window, IsSupOver, IsInfOver, IsUpTo, IsDownTo}
use Rattle.stl_syntax.specs.Trace.{Trace, start, stop}
use Rattle.stl_syntax.specs.Formula.{Subformula, constant, atom, negation, conjunction, disjunction}
use Rattle.stl_syntax.specs.Formula.{implication, until, eventually, always, since, once, historically}
use Rattle.rational.specs.Extended.{Extended, ◌≤ᵉ◌, ◌<ᵉ◌, ◌≈ᵉ◌, opposite, IsLeast, IsGreatest}
use Rattle.stl_syntax.specs.SupInf.{Setting, SupInf, one, minus_one, zero_value, HasValues, HasInfs, certainty_setting}
use Rattle.stl_syntax.specs.Kleene.{Must, MustNot}
use Rattle.stl_syntax.specs.declared.items.Item.{Item}
use Rattle.rational.proofs.ExtendedLemmas.{le_totalᵉ, clashᵉ, le_reflᵉ, le_transᵉ, least_of, lt_opposite, opposite_le', opposite_twice}
use Rattle.rational.proofs.TimeLemmas.{within_stretch}
use Rattle.stl_syntax.proofs.TruthLaw.{has_value}

-- v is 1 and P is certain, or v is -1 and N is certain, or v is 0 and neither is
abbrev pub Tells3 : Extended → Type 0 → Type 0 → Type 0
Tells3 v P N = ((v ≈ᵉ one) × P × (¬ N)) ⊎ ((v ≈ᵉ minus_one) × N × (¬ P)) ⊎ ((v ≈ᵉ zero_value) × (¬ P) × (¬ N))

low_zero : minus_one <ᵉ zero_value
low_zero = record { lt = lit< tt }

zero_high : zero_value <ᵉ one
zero_high = record { lt = lit< tt }

low_high : minus_one <ᵉ one
low_high = record { lt = lit< tt }

low_le_zero : minus_one ≤ᵉ zero_value
low_le_zero = record { le = lit≤ tt }

zero_le_high : zero_value ≤ᵉ one
zero_le_high = record { le = lit≤ tt }

low_le_high : minus_one ≤ᵉ one
low_le_high = record { le = lit≤ tt }

-- above 0 is 1; above -1 is 0 or 1
above_zero : (v : Extended) (P N : Type 0) → Tells3 v P N → zero_value <ᵉ v → (one ≤ᵉ v) × P × (v ≤ᵉ one)
above_zero v P N (inl (e, p, n)) l = (e.at_least, p, e.at_most)
above_zero v P N (inr (inl (e, p, n))) l = clashᵉ zero_value v l (le_transᵉ v minus_one zero_value e.at_most low_le_zero)
above_zero v P N (inr (inr (e, p, n))) l = clashᵉ zero_value v l e.at_most

above_low : (v : Extended) (P N : Type 0) → Tells3 v P N → minus_one <ᵉ v → (zero_value ≤ᵉ v) × (¬ N)
above_low v P N (inl (e, p, n)) l = (le_transᵉ zero_value one v zero_le_high e.at_least, n)
above_low v P N (inr (inl (e, p, n))) l = clashᵉ minus_one v l e.at_most
above_low v P N (inr (inr (e, p, n))) l = (e.at_least, n)

not_above_one : {X : Type 0} (v : Extended) (P N : Type 0) → Tells3 v P N → one <ᵉ v → X
not_above_one v P N (inl (e, p, n)) l = clashᵉ one v l e.at_most
not_above_one v P N (inr (inl (e, p, n))) l = clashᵉ one v l (le_transᵉ v minus_one one e.at_most low_le_high)
not_above_one v P N (inr (inr (e, p, n))) l = clashᵉ one v l (le_transᵉ v zero_value one e.at_most zero_le_high)

at_low : (v : Extended) (P N : Type 0) → Tells3 v P N → v ≤ᵉ minus_one → N
at_low v P N (inl (e, p, n)) l = clashᵉ minus_one one low_high (le_transᵉ one v minus_one e.at_least l)
at_low v P N (inr (inl (e, p, n))) l = p
at_low v P N (inr (inr (e, p, n))) l = clashᵉ minus_one zero_value low_zero (le_transᵉ zero_value v minus_one e.at_least l)

at_zero : (v : Extended) (P N : Type 0) → Tells3 v P N → v ≤ᵉ zero_value → ¬ P
at_zero v P N (inl (e, p, n)) l = λ x. clashᵉ zero_value one zero_high (le_transᵉ one v zero_value e.at_least l)
at_zero v P N (inr (inl (e, p, n))) l = n
at_zero v P N (inr (inr (e, p, n))) l = p

-- the Sup over a window in which each time has a value
pub sup_tells3 : (W : Window) (F : Function) (P N : Rational → Type 0) (r : Extended)
    → ((u : Rational) (v : Extended) → W u → F u v → Tells3 v (P u) (N u)) → ((u : Rational) → W u → (v : Extended) × F u v)
    → IsSupOver minus_one W F r → Tells3 r ((u : Rational) × W u × P u) ((u : Rational) → W u → N u)
sup_tells3 W F P N r tells has h = by_low (le_totalᵉ r minus_one)
  where
    Goal : Type 0
    Goal = Tells3 r ((u : Rational) × W u × P u) ((u : Rational) → W u → N u)

    no_more : (v : Extended) × ((u : Rational) × W u × F u v) × (one <ᵉ v) → r ≤ᵉ one
    no_more (v, (u, w, f), l) = not_above_one v (P u) (N u) (tells u v w f) l

    at_most_one : (r ≤ᵉ one) ⊎ (one <ᵉ r) → r ≤ᵉ one
    at_most_one (inl l) = l
    at_most_one (inr l) = no_more (h.reached one low_le_high l)

    no_certain : r ≤ᵉ zero_value → ¬ ((u : Rational) × W u × P u)
    no_certain l (u, w, p) = let f = has u w in at_zero f.0 (P u) (N u) (tells u f.0 w f.1) (le_transᵉ f.0 r zero_value (h.bound f.0 (u, w, f.1)) l) p

    some_open : (v : Extended) × ((u : Rational) × W u × F u v) × (minus_one <ᵉ v) → (zero_value ≤ᵉ r) × (¬ ((u : Rational) → W u → N u))
    some_open (v, (u, w, f), l) =
        let a = above_low v (P u) (N u) (tells u v w f) l in (le_transᵉ zero_value v r a.0 (h.bound v (u, w, f)), λ all. a.1 (all u w))

    some_certain : (v : Extended) × ((u : Rational) × W u × F u v) × (zero_value <ᵉ v) → (one ≤ᵉ r) × ((u : Rational) × W u × P u)
    some_certain (v, (u, w, f), l) =
        let a = above_zero v (P u) (N u) (tells u v w f) l in (le_transᵉ one v r a.0 (h.bound v (u, w, f)), (u, w, a.1))

    by_zero : minus_one <ᵉ r → (r ≤ᵉ zero_value) ⊎ (zero_value <ᵉ r) → Goal
    by_zero g (inl l) = let a = some_open (h.reached minus_one (le_reflᵉ minus_one) g) in inr (inr (record { at_most = l; at_least = a.0 }, no_certain l, a.1))
    by_zero g (inr l) =
        let a = some_open (h.reached minus_one (le_reflᵉ minus_one) g) in
        let b = some_certain (h.reached zero_value low_le_zero l) in
        inl (record { at_most = at_most_one (le_totalᵉ r one); at_least = b.0 }, b.1, a.1)

    by_low : (r ≤ᵉ minus_one) ⊎ (minus_one <ᵉ r) → Goal
    by_low (inl l) =
        inr (inl (
          record { at_most = l; at_least = h.at_least },
          (λ u w. let f = has u w in at_low f.0 (P u) (N u) (tells u f.0 w f.1) (le_transᵉ f.0 r minus_one (h.bound f.0 (u, w, f.1)) l)),
          no_certain (le_transᵉ r minus_one zero_value l low_le_zero),
        ))
    by_low (inr l) = by_zero l (le_totalᵉ r zero_value)

-- the opposite of an Inf is the Sup of the opposite function
opposite_of_inf : (W : Window) (F : Function) (r : Extended) → IsInfOver one W F r → IsSupOver minus_one W (λ u v. F u (opposite v)) (opposite r)
opposite_of_inf W F r h = record {
  at_least = opposite_le' r one h.at_most;
  bound = λ v. λ (u, w, f). let e = opposite_le' r (opposite v) (h.bound (opposite v) (u, w, f)) in rw opposite_twice at e;
  reached = λ w l k. below w (h.reached (opposite w) (let e = lt_opposite w (opposite r) k in rw opposite_twice at e) (opposite_le' minus_one w l));
}
  where
    below : (w : Extended) → (v : Extended) × ((u : Rational) × W u × F u v) × (v <ᵉ opposite w)
        → (v : Extended) × ((u : Rational) × W u × F u (opposite v)) × (w <ᵉ v)
    below w (v, (u, m, f), l) = (opposite v, (u, m, rw opposite_twice f), (let e = lt_opposite v (opposite w) l in rw opposite_twice at e))

opposite_tells3 : (v : Extended) (P N : Type 0) → Tells3 v P N → Tells3 (opposite v) N P
opposite_tells3 v P N (inl (e, p, n)) = inr (inl (record { at_most = opposite_le' one v e.at_least; at_least = opposite_le' v one e.at_most }, p, n))
opposite_tells3 v P N (inr (inl (e, p, n))) =
    inl (record { at_most = opposite_le' minus_one v e.at_least; at_least = opposite_le' v minus_one e.at_most }, p, n)
opposite_tells3 v P N (inr (inr (e, p, n))) =
    inr (inr (record { at_most = opposite_le' zero_value v e.at_least; at_least = opposite_le' v zero_value e.at_most }, n, p))

-- what is told of the opposite is told the other way round
pub opposite_tells3' : (v : Extended) (P N : Type 0) → Tells3 (opposite v) P N → Tells3 v N P
opposite_tells3' v P N h = let e = opposite_tells3 (opposite v) P N h in rw opposite_twice at e

-- the Inf over a window in which each time has a value
pub inf_tells3 : (W : Window) (F : Function) (P N : Rational → Type 0) (r : Extended)
    → ((u : Rational) (v : Extended) → W u → F u v → Tells3 v (P u) (N u)) → ((u : Rational) → W u → (v : Extended) × F u v)
    → IsInfOver one W F r → Tells3 r ((u : Rational) → W u → P u) ((u : Rational) × W u × N u)
inf_tells3 W F P N r tells has h =
    opposite_tells3' r ((u : Rational) × W u × N u) ((u : Rational) → W u → P u)
    (sup_tells3 W (λ u v. F u (opposite v)) N P (opposite r) (λ u v w f. opposite_tells3' v (P u) (N u) (tells u (opposite v) w f))
    (λ u w. let f = has u w in (opposite f.0, rw opposite_twice f.1)) (opposite_of_inf W F r h))

same_three : (r v : Extended) (P N : Type 0) → r ≈ᵉ v → Tells3 v P N → Tells3 r P N
same_three r v P N h (inl (e, p, n)) =
    inl (record { at_most = le_transᵉ r v one h.at_most e.at_most; at_least = le_transᵉ one v r e.at_least h.at_least }, p, n)
same_three r v P N h (inr (inl (e, p, n))) =
    inr (inl (record { at_most = le_transᵉ r v minus_one h.at_most e.at_most; at_least = le_transᵉ minus_one v r e.at_least h.at_least }, p, n))
same_three r v P N h (inr (inr (e, p, n))) =
    inr (inr (record { at_most = le_transᵉ r v zero_value h.at_most e.at_most; at_least = le_transᵉ zero_value v r e.at_least h.at_least }, p, n))

-- what is told may be told in other words
pub retold3 : (r : Extended) (P N Q M : Type 0) → (P → Q) → (Q → P) → (N → M) → (M → N) → Tells3 r P N → Tells3 r Q M
retold3 r P N Q M f g h k (inl (e, p, n)) = inl (e, f p, λ m. n (k m))
retold3 r P N Q M f g h k (inr (inl (e, p, n))) = inr (inl (e, h p, λ q. n (g q)))
retold3 r P N Q M f g h k (inr (inr (e, p, n))) = inr (inr (e, (λ q. p (g q)), λ m. n (k m)))

least_is_left : (v w r : Extended) → v ≤ᵉ w → IsLeast v w r → r ≈ᵉ v
least_is_left v w r h l = record { at_most = l.left; at_least = by_one l.one_of }
  where
    by_one : (v ≤ᵉ r) ⊎ (w ≤ᵉ r) → v ≤ᵉ r
    by_one (inl x) = x
    by_one (inr x) = le_transᵉ v w r h x

least_swaps : (v w r : Extended) → IsLeast v w r → IsLeast w v r
least_swaps v w r l = record { left = l.right; right = l.left; one_of = other l.one_of }
  where
    other : {A B : Type 0} → A ⊎ B → B ⊎ A
    other (inl x) = inr x
    other (inr x) = inl x

at_most_one3 : (v : Extended) (P N : Type 0) → Tells3 v P N → v ≤ᵉ one
at_most_one3 v P N (inl (e, p, n)) = e.at_most
at_most_one3 v P N (inr (inl (e, p, n))) = le_transᵉ v minus_one one e.at_most low_le_high
at_most_one3 v P N (inr (inr (e, p, n))) = le_transᵉ v zero_value one e.at_most zero_le_high

at_least_low3 : (v : Extended) (P N : Type 0) → Tells3 v P N → minus_one ≤ᵉ v
at_least_low3 v P N (inl (e, p, n)) = le_transᵉ minus_one one v low_le_high e.at_least
at_least_low3 v P N (inr (inl (e, p, n))) = e.at_least
at_least_low3 v P N (inr (inr (e, p, n))) = le_transᵉ minus_one zero_value v low_le_zero e.at_least

-- the least of two values tells that both are so, and the greatest that one is
pub least_tells3 : (v w r : Extended) (P N Q M : Type 0) → Tells3 v P N → Tells3 w Q M → IsLeast v w r → Tells3 r (P × Q) (N ⊎ M)
least_tells3 v w r P N Q M (inl (d, p, n)) e l =
    retold3 r Q M (P × Q) (N ⊎ M) (λ q. (p, q)) (λ x. x.1) inr only
    (same_three r w Q M (least_is_left w v r (le_transᵉ w one v (at_most_one3 w Q M e) d.at_least) (least_swaps v w r l)) e)
  where
    only : N ⊎ M → M
    only (inl x) = absurd (n x)
    only (inr x) = x
least_tells3 v w r P N Q M (inr (inl (d, p, n))) e l =
    let same = least_is_left v w r (le_transᵉ v minus_one w d.at_most (at_least_low3 w Q M e)) l in
    inr (inl (
      record { at_most = le_transᵉ r v minus_one same.at_most d.at_most; at_least = le_transᵉ minus_one v r d.at_least same.at_least },
      inl p,
      λ x. n x.0,
    ))
least_tells3 v w r P N Q M (inr (inr (d, p, n))) (inl (e, q, m)) l =
    let same = least_is_left v w r (le_transᵉ v zero_value w d.at_most (le_transᵉ zero_value one w zero_le_high e.at_least)) l in
    inr (inr (
      record { at_most = le_transᵉ r v zero_value same.at_most d.at_most; at_least = le_transᵉ zero_value v r d.at_least same.at_least },
      (λ x. p x.0),
      neither n m,
    ))
  where
    neither : {A B : Type 0} → ¬ A → ¬ B → ¬ (A ⊎ B)
    neither a b (inl x) = a x
    neither a b (inr x) = b x
least_tells3 v w r P N Q M (inr (inr (d, p, n))) (inr (inl (e, q, m))) l =
    let same = least_is_left w v r (le_transᵉ w minus_one v e.at_most (le_transᵉ minus_one zero_value v low_le_zero d.at_least)) (least_swaps v w r l) in
    inr (inl (
      record { at_most = le_transᵉ r w minus_one same.at_most e.at_most; at_least = le_transᵉ minus_one w r e.at_least same.at_least },
      inr q,
      λ x. p x.0,
    ))
least_tells3 v w r P N Q M (inr (inr (d, p, n))) (inr (inr (e, q, m))) l =
    let same = least_is_left v w r (le_transᵉ v zero_value w d.at_most e.at_least) l in
    inr (inr (
      record { at_most = le_transᵉ r v zero_value same.at_most d.at_most; at_least = le_transᵉ zero_value v r d.at_least same.at_least },
      (λ x. p x.0),
      neither n m,
    ))
  where
    neither : {A B : Type 0} → ¬ A → ¬ B → ¬ (A ⊎ B)
    neither a b (inl x) = a x
    neither a b (inr x) = b x

-- the greatest of two values tells that one is so
pub greatest_tells3 : (v w r : Extended) (P N Q M : Type 0) → Tells3 v P N → Tells3 w Q M → IsGreatest v w r → Tells3 r (P ⊎ Q) (N × M)
greatest_tells3 v w r P N Q M d e l =
    opposite_tells3' r (N × M) (P ⊎ Q)
    (least_tells3 (opposite v) (opposite w) (opposite r) N P M Q (opposite_tells3 v P N d) (opposite_tells3 w Q M e)
    (record { left = opposite_le' v r l.left; right = opposite_le' w r l.right; one_of = flipped l.one_of }))
  where
    flipped : (r ≤ᵉ v) ⊎ (r ≤ᵉ w) → (opposite v ≤ᵉ opposite r) ⊎ (opposite w ≤ᵉ opposite r)
    flipped (inl x) = inl (opposite_le' r v x)
    flipped (inr x) = inr (opposite_le' r w x)

-- and with the first one turned, that it implies the second
pub implies_tells3 : (v w r : Extended) (P N Q M : Type 0) → Tells3 v P N → Tells3 w Q M → IsGreatest (opposite v) w r → Tells3 r (N ⊎ Q) (P × M)
implies_tells3 v w r P N Q M d e l = greatest_tells3 (opposite v) w r N P Q M (opposite_tells3 v P N d) e l

module _ (items : List Item) (tr : Trace) where
  abbrev setting : Setting
  setting = certainty_setting tr items

  -- the value 1 says what is certainly true, -1 what is certainly false, and 0 the rest
  pub SupInf-certain : (p : Subformula) → HasValues p setting → HasInfs p setting → (t : Rational) (r : Extended)
      → Within (start tr) (stop tr) t → SupInf p setting t r → Tells3 r (Must p items tr t) (MustNot p items tr t)
  SupInf-certain (constant true) ok more t r w h = inl (h, refl, λ e. cc)
  SupInf-certain (constant false) ok more t r w h = inr (inl (h, refl, λ e. cc))
  SupInf-certain (atom i a) ok more t r w (inl (h, c, e)) = inl (e, (h, c), λ k. let f = sym h ∙ k.0 in cc)
  SupInf-certain (atom i a) ok more t r w (inr (inl (h, c, e))) = inr (inl (e, (h, c), λ k. let f = sym h ∙ k.0 in cc))
  SupInf-certain (atom i a) ok more t r w (inr (inr (c, e))) = inr (inr (e, (λ k. c k.1), λ k. c k.1))
  SupInf-certain (negation p) ok more t r w h =
      opposite_tells3' r (Must p items tr t) (MustNot p items tr t) (SupInf-certain p ok.1 more t (opposite r) w h)
  SupInf-certain (conjunction p q) ok more t r w (x, y, h, k, l) =
      least_tells3 x y r _ _ _ _ (SupInf-certain p ok.1 more.0 t x w h) (SupInf-certain q ok.2 more.1 t y w k) l
  SupInf-certain (disjunction p q) ok more t r w (x, y, h, k, l) =
      greatest_tells3 x y r _ _ _ _ (SupInf-certain p ok.1 more.0 t x w h) (SupInf-certain q ok.2 more.1 t y w k) l
  SupInf-certain (implication p q) ok more t r w (x, y, h, k, l) =
      implies_tells3 x y r _ _ _ _ (SupInf-certain p ok.1 more.0 t x w h) (SupInf-certain q ok.2 more.1 t y w k) l
  SupInf-certain (eventually a b a_in b_in p) ok more t r w h =
      sup_tells3 (Ahead (start tr) (stop tr) a b a_in b_in t) (SupInf p setting) (λ u. Must p items tr u) (λ u. MustNot p items tr u) r
      (λ u v m f. SupInf-certain p ok.1 more u v m.inside f) (λ u m. has_value p setting ok.1 u m.inside) h
  SupInf-certain (always a b a_in b_in p) ok more t r w h =
      inf_tells3 (Ahead (start tr) (stop tr) a b a_in b_in t) (SupInf p setting) (λ u. Must p items tr u) (λ u. MustNot p items tr u) r
      (λ u v m f. SupInf-certain p ok.1 more u v m.inside f) (λ u m. has_value p setting ok.1 u m.inside) h
  SupInf-certain (once a b a_in b_in p) ok more t r w h =
      sup_tells3 (Behind (start tr) (stop tr) a b a_in b_in t) (SupInf p setting) (λ u. Must p items tr u) (λ u. MustNot p items tr u) r
      (λ u v m f. SupInf-certain p ok.1 more u v m.inside f) (λ u m. has_value p setting ok.1 u m.inside) h
  SupInf-certain (historically a b a_in b_in p) ok more t r w h =
      inf_tells3 (Behind (start tr) (stop tr) a b a_in b_in t) (SupInf p setting) (λ u. Must p items tr u) (λ u. MustNot p items tr u) r
      (λ u v m f. SupInf-certain p ok.1 more u v m.inside f) (λ u m. has_value p setting ok.1 u m.inside) h
  SupInf-certain (until a b p q) ok more t r w h =
      retold3 r _ _ (Must (until a b p q) items tr t) (MustNot (until a b p q) items tr t)
      (λ (u, m, k). (u, m, k.0, k.1)) (λ (u, m, k, l). (u, m, (k, l))) (λ f. f) (λ f. f)
      (sup_tells3 (Ahead (start tr) (stop tr) a b true true t) (IsUpTo one (SupInf p setting) (SupInf q setting) t)
      (λ u. Must q items tr u × ((v : Rational) → Within t u v → Must p items tr v))
      (λ u. MustNot q items tr u ⊎ ((v : Rational) × Within t u v × MustNot p items tr v)) r
      (λ u v m. λ (x, y, k, i, l). least_tells3 x y v _ _ _ _ (SupInf-certain q ok.2 more.2 u x m.inside k)
      (inf_tells3 (Within t u) (SupInf p setting) (λ x. Must p items tr x) (λ x. MustNot p items tr x) y
      (λ x z n f. SupInf-certain p ok.1 more.1 x z (within_stretch w m.inside n) f) (λ x n. has_value p setting ok.1 x (within_stretch w m.inside n)) i) l)
      (λ u m. let x = has_value q setting ok.2 u m.inside in let y = more.0 t u w m.inside in let v = least_of x.0 y.0 in (v.0, (x.0, y.0, x.1, y.1, v.1))) h)
  SupInf-certain (since a b p q) ok more t r w h =
      retold3 r _ _ (Must (since a b p q) items tr t) (MustNot (since a b p q) items tr t)
      (λ (u, m, k). (u, m, k.0, k.1)) (λ (u, m, k, l). (u, m, (k, l))) (λ f. f) (λ f. f)
      (sup_tells3 (Behind (start tr) (stop tr) a b true true t) (IsDownTo one (SupInf p setting) (SupInf q setting) t)
      (λ u. Must q items tr u × ((v : Rational) → Within u t v → Must p items tr v))
      (λ u. MustNot q items tr u ⊎ ((v : Rational) × Within u t v × MustNot p items tr v)) r
      (λ u v m. λ (x, y, k, i, l). least_tells3 x y v _ _ _ _ (SupInf-certain q ok.2 more.2 u x m.inside k)
      (inf_tells3 (Within u t) (SupInf p setting) (λ x. Must p items tr x) (λ x. MustNot p items tr x) y
      (λ x z n f. SupInf-certain p ok.1 more.1 x z (within_stretch m.inside w n) f) (λ x n. has_value p setting ok.1 x (within_stretch m.inside w n)) i) l)
      (λ u m. let x = has_value q setting ok.2 u m.inside in let y = more.0 u t m.inside w in let v = least_of x.0 y.0 in (v.0, (x.0, y.0, x.1, y.1, v.1))) h)
