-- With atoms read as 1 and -1 the Sup-Inf value is 1 exactly where the formula holds, and -1 exactly where it does not.
use Rattle.std.proofs.Common.{◌⊎◌, inl, inr, true, false, lit≤, lit<, refl}
use Rattle.rational.specs.Time.{Rational, Within}
use Rattle.rational.specs.Windows.{Ahead, Behind, Function, Window, IsSupOver, IsInfOver, IsUpTo, IsDownTo}
use Rattle.stl_syntax.specs.Trace.{Trace, start, stop}
use Rattle.stl_syntax.specs.Formula.{Subformula, constant, atom, negation, conjunction, disjunction}
use Rattle.stl_syntax.specs.Formula.{implication, until, eventually, always, since, once, historically}
use Rattle.rational.specs.Extended.{Extended, ◌≤ᵉ◌, ◌<ᵉ◌, ◌≈ᵉ◌, opposite, IsLeast, IsGreatest}
use Rattle.stl_syntax.specs.SupInf.{Setting, SupInf, one, minus_one, HasValue, HasValues, truth_setting}
use Rattle.stl_syntax.specs.Truth.{Truth}
use Rattle.rational.proofs.TimeLemmas.{within_stretch}
use Rattle.rational.proofs.ExtendedLemmas.{le_totalᵉ, clashᵉ, le_reflᵉ, le_transᵉ, opposite_le, opposite_le'}

-- v is 1 and P holds, or v is -1 and P does not hold
abbrev pub Tells : Extended → Type 0 → Type 0
Tells v P = ((v ≈ᵉ one) × P) ⊎ ((v ≈ᵉ minus_one) × (¬ P))

apart : minus_one <ᵉ one
apart = record { lt = lit< tt }

-- a Sup of values 1 and -1 over a window
sup_tells : (W : Window) (F : Function) (P : Rational → Type 0) (r : Extended)
    → ((u : Rational) (v : Extended) → W u → F u v → Tells v (P u)) → ((u : Rational) → W u → P u → (v : Extended) × F u v × (v ≈ᵉ one))
    → IsSupOver minus_one W F r → Tells r ((u : Rational) × W u × P u)
sup_tells W F P r tells has h = by_order (le_totalᵉ r minus_one)
  where
    none : r ≤ᵉ minus_one → ¬ ((u : Rational) × W u × P u)
    none l (u, w, p) = too_large (has u w p)
      where
        too_large : (v : Extended) × F u v × (v ≈ᵉ one) → ⊥
        too_large (v, f, e) = clashᵉ minus_one one apart (le_transᵉ one v minus_one e.at_least (le_transᵉ v r minus_one (h.bound v (u, w, f)) l))

    no_more : (v : Extended) × ((u : Rational) × W u × F u v) × (one <ᵉ v) → r ≤ᵉ one
    no_more (v, (u, w, f), l) = by_told (tells u v w f)
      where
        by_told : Tells v (P u) → r ≤ᵉ one
        by_told (inl (e, p)) = clashᵉ one v l e.at_most
        by_told (inr (e, p)) = clashᵉ one v l (le_transᵉ v minus_one one e.at_most (let x : minus_one ≤ᵉ one = record { le = lit≤ tt } in x))

    at_most_one : (r ≤ᵉ one) ⊎ (one <ᵉ r) → r ≤ᵉ one
    at_most_one (inl l) = l
    at_most_one (inr l) = no_more (h.reached one (let x : minus_one ≤ᵉ one = record { le = lit≤ tt } in x) l)

    some : (v : Extended) × ((u : Rational) × W u × F u v) × (minus_one <ᵉ v) → Tells r ((u : Rational) × W u × P u)
    some (v, (u, w, f), l) = by_told (tells u v w f)
      where
        by_told : Tells v (P u) → Tells r ((u : Rational) × W u × P u)
        by_told (inl (e, p)) =
            inl (record { at_most = at_most_one (le_totalᵉ r one); at_least = le_transᵉ one v r e.at_least (h.bound v (u, w, f)) }, (u, w, p))
        by_told (inr (e, p)) = clashᵉ minus_one v l e.at_most

    by_order : (r ≤ᵉ minus_one) ⊎ (minus_one <ᵉ r) → Tells r ((u : Rational) × W u × P u)
    by_order (inl l) = inr (record { at_most = l; at_least = h.at_least }, none l)
    by_order (inr l) = some (h.reached minus_one (le_reflᵉ minus_one) l)

minus_one_le_one : minus_one ≤ᵉ one
minus_one_le_one = record { le = lit≤ tt }

-- an Inf of values 1 and -1 over a window
inf_tells : (W : Window) (F : Function) (P : Rational → Type 0) (r : Extended)
    → ((u : Rational) (v : Extended) → W u → F u v → Tells v (P u)) → ((u : Rational) → W u → (v : Extended) × F u v)
    → IsInfOver one W F r → Tells r ((u : Rational) → W u → P u)
inf_tells W F P r tells has h = by_order (le_totalᵉ one r)
  where
    each : one ≤ᵉ r → (u : Rational) → W u → P u
    each l u w = by_value (has u w)
      where
        by_value : (v : Extended) × F u v → P u
        by_value (v, f) = by_told (tells u v w f)
          where
            by_told : Tells v (P u) → P u
            by_told (inl (e, p)) = p
            by_told (inr (e, p)) = clashᵉ minus_one one apart (le_transᵉ one r minus_one l (le_transᵉ r v minus_one (h.bound v (u, w, f)) e.at_most))

    no_less : (v : Extended) × ((u : Rational) × W u × F u v) × (v <ᵉ minus_one) → minus_one ≤ᵉ r
    no_less (v, (u, w, f), l) = by_told (tells u v w f)
      where
        by_told : Tells v (P u) → minus_one ≤ᵉ r
        by_told (inl (e, p)) = clashᵉ v minus_one l (le_transᵉ minus_one one v minus_one_le_one e.at_least)
        by_told (inr (e, p)) = clashᵉ v minus_one l e.at_least

    at_least_minus_one : (minus_one ≤ᵉ r) ⊎ (r <ᵉ minus_one) → minus_one ≤ᵉ r
    at_least_minus_one (inl l) = l
    at_least_minus_one (inr l) = no_less (h.reached minus_one l minus_one_le_one)

    some : (v : Extended) × ((u : Rational) × W u × F u v) × (v <ᵉ one) → Tells r ((u : Rational) → W u → P u)
    some (v, (u, w, f), l) = by_told (tells u v w f)
      where
        by_told : Tells v (P u) → Tells r ((u : Rational) → W u → P u)
        by_told (inl (e, p)) = clashᵉ v one l e.at_least
        by_told (inr (e, p)) =
            inr (
              record { at_most = le_transᵉ r v minus_one (h.bound v (u, w, f)) e.at_most; at_least = at_least_minus_one (le_totalᵉ minus_one r) },
              λ all. p (all u w),
            )

    by_order : (one ≤ᵉ r) ⊎ (r <ᵉ one) → Tells r ((u : Rational) → W u → P u)
    by_order (inl l) = inl (record { at_most = h.at_most; at_least = l }, each l)
    by_order (inr l) = some (h.reached one l (le_reflᵉ one))

-- where P holds at each time of the window, the Inf is 1
inf_of_ones : (W : Window) (F : Function) (P : Rational → Type 0) → ((u : Rational) (v : Extended) → W u → F u v → Tells v (P u))
    → ((u : Rational) → W u → P u) → IsInfOver one W F one
inf_of_ones W F P tells all = record {
  at_most = le_reflᵉ one;
  bound = λ v. λ (u, w, f). by_told u v (all u w) (tells u v w f);
  reached = λ w l k. clashᵉ one w l k;
}
  where
    by_told : (u : Rational) (v : Extended) → P u → Tells v (P u) → one ≤ᵉ v
    by_told u v p (inl (e, q)) = e.at_least
    by_told u v p (inr (e, q)) = absurd (q p)

least_tells : (v w r : Extended) (P Q : Type 0) → Tells v P → Tells w Q → IsLeast v w r → Tells r (P × Q)
least_tells v w r P Q (inl (d, p)) (inl (e, q)) l = inl (record { at_most = le_transᵉ r v one l.left d.at_most; at_least = by_one l.one_of }, (p, q))
  where
    by_one : (v ≤ᵉ r) ⊎ (w ≤ᵉ r) → one ≤ᵉ r
    by_one (inl x) = le_transᵉ one v r d.at_least x
    by_one (inr x) = le_transᵉ one w r e.at_least x
least_tells v w r P Q (inl (d, p)) (inr (e, q)) l =
    inr (record { at_most = le_transᵉ r w minus_one l.right e.at_most; at_least = by_one l.one_of }, λ (x, y). q y)
  where
    by_one : (v ≤ᵉ r) ⊎ (w ≤ᵉ r) → minus_one ≤ᵉ r
    by_one (inl x) = le_transᵉ minus_one one r minus_one_le_one (le_transᵉ one v r d.at_least x)
    by_one (inr x) = le_transᵉ minus_one w r e.at_least x
least_tells v w r P Q (inr (d, p)) (inl (e, q)) l =
    inr (record { at_most = le_transᵉ r v minus_one l.left d.at_most; at_least = by_one l.one_of }, λ (x, y). p x)
  where
    by_one : (v ≤ᵉ r) ⊎ (w ≤ᵉ r) → minus_one ≤ᵉ r
    by_one (inl x) = le_transᵉ minus_one v r d.at_least x
    by_one (inr x) = le_transᵉ minus_one one r minus_one_le_one (le_transᵉ one w r e.at_least x)
least_tells v w r P Q (inr (d, p)) (inr (e, q)) l =
    inr (record { at_most = le_transᵉ r v minus_one l.left d.at_most; at_least = by_one l.one_of }, λ (x, y). p x)
  where
    by_one : (v ≤ᵉ r) ⊎ (w ≤ᵉ r) → minus_one ≤ᵉ r
    by_one (inl x) = le_transᵉ minus_one v r d.at_least x
    by_one (inr x) = le_transᵉ minus_one w r e.at_least x

greatest_tells : (v w r : Extended) (P Q : Type 0) → Tells v P → Tells w Q → IsGreatest v w r → Tells r (P ⊎ Q)
greatest_tells v w r P Q (inr (d, p)) (inr (e, q)) l = inr (record { at_most = by_one l.one_of; at_least = le_transᵉ minus_one v r d.at_least l.left }, none)
  where
    by_one : (r ≤ᵉ v) ⊎ (r ≤ᵉ w) → r ≤ᵉ minus_one
    by_one (inl x) = le_transᵉ r v minus_one x d.at_most
    by_one (inr x) = le_transᵉ r w minus_one x e.at_most

    none : P ⊎ Q → ⊥
    none (inl x) = p x
    none (inr y) = q y
greatest_tells v w r P Q (inl (d, p)) (inr (e, q)) l = inl (record { at_most = by_one l.one_of; at_least = le_transᵉ one v r d.at_least l.left }, inl p)
  where
    by_one : (r ≤ᵉ v) ⊎ (r ≤ᵉ w) → r ≤ᵉ one
    by_one (inl x) = le_transᵉ r v one x d.at_most
    by_one (inr x) = le_transᵉ r minus_one one (le_transᵉ r w minus_one x e.at_most) minus_one_le_one
greatest_tells v w r P Q (inr (d, p)) (inl (e, q)) l = inl (record { at_most = by_one l.one_of; at_least = le_transᵉ one w r e.at_least l.right }, inr q)
  where
    by_one : (r ≤ᵉ v) ⊎ (r ≤ᵉ w) → r ≤ᵉ one
    by_one (inl x) = le_transᵉ r minus_one one (le_transᵉ r v minus_one x d.at_most) minus_one_le_one
    by_one (inr x) = le_transᵉ r w one x e.at_most
greatest_tells v w r P Q (inl (d, p)) (inl (e, q)) l = inl (record { at_most = by_one l.one_of; at_least = le_transᵉ one v r d.at_least l.left }, inl p)
  where
    by_one : (r ≤ᵉ v) ⊎ (r ≤ᵉ w) → r ≤ᵉ one
    by_one (inl x) = le_transᵉ r v one x d.at_most
    by_one (inr x) = le_transᵉ r w one x e.at_most

opposite_tells : (r : Extended) (P : Type 0) → Tells (opposite r) P → Tells r (¬ P)
opposite_tells r P (inl (e, p)) = inr (record { at_most = opposite_le r minus_one e.at_least; at_least = opposite_le minus_one r e.at_most }, λ q. q p)
opposite_tells r P (inr (e, p)) = inl (record { at_most = opposite_le r one e.at_least; at_least = opposite_le one r e.at_most }, p)

retold : (r : Extended) (P Q : Type 0) → (P → Q) → (Q → P) → Tells r P → Tells r Q
retold r P Q f g (inl (e, p)) = inl (e, f p)
retold r P Q f g (inr (e, p)) = inr (e, λ q. p (g q))

up_to_tells : (P Q : Function) (A B : Rational → Type 0) (t u : Rational) (v : Extended)
    → ((w : Rational) (x : Extended) → Within t u w → P w x → Tells x (A w)) → ((w : Rational) → Within t u w → (x : Extended) × P w x)
    → ((x : Extended) → Q u x → Tells x (B u))
    → IsUpTo one P Q t u v → Tells v (B u × ((w : Rational) → Within t u w → A w))
up_to_tells P Q A B t u v a has b (x, y, q, i, l) =
    least_tells x y v (B u) ((w : Rational) → Within t u w → A w) (b x q) (inf_tells (Within t u) P A y a has i) l

down_to_tells : (P Q : Function) (A B : Rational → Type 0) (t u : Rational) (v : Extended)
    → ((w : Rational) (x : Extended) → Within u t w → P w x → Tells x (A w)) → ((w : Rational) → Within u t w → (x : Extended) × P w x)
    → ((x : Extended) → Q u x → Tells x (B u))
    → IsDownTo one P Q t u v → Tells v (B u × ((w : Rational) → Within u t w → A w))
down_to_tells P Q A B t u v a has b (x, y, q, i, l) =
    least_tells x y v (B u) ((w : Rational) → Within u t w → A w) (b x q) (inf_tells (Within u t) P A y a has i) l

is_one : (v : Extended) (P : Type 0) → P → Tells v P → v ≈ᵉ one
is_one v P p (inl (e, q)) = e
is_one v P p (inr (e, q)) = absurd (q p)

one_is_one : one ≈ᵉ one
one_is_one = record { at_most = le_reflᵉ one; at_least = le_reflᵉ one }

least_of_ones : (x : Extended) → x ≈ᵉ one → IsLeast x one one
least_of_ones x e = record { left = e.at_least; right = le_reflᵉ one; one_of = inl e.at_most }

-- the formula itself has values where each below it has
pub has_value : (p : Subformula) (s : Setting) → HasValues p s → HasValue p s
has_value (constant b) s h = h
has_value (atom i a) s h = h
has_value _ s h = h.0

opposite_tells' : (v : Extended) (P : Type 0) → Tells v P → Tells (opposite v) (¬ P)
opposite_tells' v P (inl (e, p)) = inr (record { at_most = opposite_le' one v e.at_least; at_least = opposite_le' v one e.at_most }, λ q. q p)
opposite_tells' v P (inr (e, p)) = inl (record { at_most = opposite_le' minus_one v e.at_least; at_least = opposite_le' v minus_one e.at_most }, p)

implies_tells : (v w r : Extended) (P Q : Type 0) → Tells v P → Tells w Q → IsGreatest (opposite v) w r → Tells r (P → Q)
implies_tells v w r P Q d e l = retold r ((¬ P) ⊎ Q) (P → Q) forth (back_by d) (greatest_tells (opposite v) w r (¬ P) Q (opposite_tells' v P d) e l)
  where
    forth : (¬ P) ⊎ Q → P → Q
    forth (inl n) p = absurd (n p)
    forth (inr q) p = q

    back_by : Tells v P → (P → Q) → (¬ P) ⊎ Q
    back_by (inl (x, p)) f = inr (f p)
    back_by (inr (x, n)) f = inl n

-- the value 1 says that the formula holds, and -1 that it does not; there is no third
pub SupInf-truth : (p : Subformula) (tr : Trace) → HasValues p (truth_setting tr) → (t : Rational) (r : Extended)
    → Within (start tr) (stop tr) t → SupInf p (truth_setting tr) t r → Tells r (Truth p tr t)
SupInf-truth (constant true) tr ok t r w h = inl (h, refl)
SupInf-truth (constant false) tr ok t r w h = inr (h, λ e. cc)
SupInf-truth (atom i a) tr ok t r w (inl (h, e)) = inl (e, h)
SupInf-truth (atom i a) tr ok t r w (inr (h, e)) = inr (e, λ k. cc)
SupInf-truth (negation p) tr ok t r w h = opposite_tells r (Truth p tr t) (SupInf-truth p tr ok.1 t (opposite r) w h)
SupInf-truth (conjunction p q) tr ok t r w (x, y, h, k, l) =
    least_tells x y r (Truth p tr t) (Truth q tr t) (SupInf-truth p tr ok.1 t x w h) (SupInf-truth q tr ok.2 t y w k) l
SupInf-truth (disjunction p q) tr ok t r w (x, y, h, k, l) =
    greatest_tells x y r (Truth p tr t) (Truth q tr t) (SupInf-truth p tr ok.1 t x w h) (SupInf-truth q tr ok.2 t y w k) l
SupInf-truth (implication p q) tr ok t r w (x, y, h, k, l) =
    implies_tells x y r (Truth p tr t) (Truth q tr t) (SupInf-truth p tr ok.1 t x w h) (SupInf-truth q tr ok.2 t y w k) l
SupInf-truth (eventually a b a_in b_in p) tr ok t r w h =
    sup_tells (Ahead (start tr) (stop tr) a b a_in b_in t) (SupInf p (truth_setting tr)) (λ u. Truth p tr u) r
    (λ u v m f. SupInf-truth p tr ok.1 u v m.inside f)
    (λ u m q. let f = has_value p (truth_setting tr) ok.1 u m.inside in (f.0, f.1, is_one f.0 (Truth p tr u) q (SupInf-truth p tr ok.1 u f.0 m.inside f.1))) h
SupInf-truth (always a b a_in b_in p) tr ok t r w h =
    inf_tells (Ahead (start tr) (stop tr) a b a_in b_in t) (SupInf p (truth_setting tr)) (λ u. Truth p tr u) r
    (λ u v m f. SupInf-truth p tr ok.1 u v m.inside f) (λ u m. has_value p (truth_setting tr) ok.1 u m.inside) h
SupInf-truth (once a b a_in b_in p) tr ok t r w h =
    sup_tells (Behind (start tr) (stop tr) a b a_in b_in t) (SupInf p (truth_setting tr)) (λ u. Truth p tr u) r
    (λ u v m f. SupInf-truth p tr ok.1 u v m.inside f)
    (λ u m q. let f = has_value p (truth_setting tr) ok.1 u m.inside in (f.0, f.1, is_one f.0 (Truth p tr u) q (SupInf-truth p tr ok.1 u f.0 m.inside f.1))) h
SupInf-truth (historically a b a_in b_in p) tr ok t r w h =
    inf_tells (Behind (start tr) (stop tr) a b a_in b_in t) (SupInf p (truth_setting tr)) (λ u. Truth p tr u) r
    (λ u v m f. SupInf-truth p tr ok.1 u v m.inside f) (λ u m. has_value p (truth_setting tr) ok.1 u m.inside) h
SupInf-truth (until a b p q) tr ok t r w h =
    retold r _ (Truth (until a b p q) tr t) (λ (u, m, k). (u, m, k.0, k.1)) (λ (u, m, k, l). (u, m, (k, l)))
    (sup_tells (Ahead (start tr) (stop tr) a b true true t) (IsUpTo one (SupInf p (truth_setting tr)) (SupInf q (truth_setting tr)) t)
    (λ u. Truth q tr u × ((v : Rational) → Within t u v → Truth p tr v)) r
    (λ u v m. up_to_tells (SupInf p (truth_setting tr)) (SupInf q (truth_setting tr)) (λ x. Truth p tr x) (λ x. Truth q tr x) t u v
    (λ x y n f. SupInf-truth p tr ok.1 x y (within_stretch w m.inside n) f)
    (λ x n. has_value p (truth_setting tr) ok.1 x (within_stretch w m.inside n))
    (λ x f. SupInf-truth q tr ok.2 u x m.inside f))
    (λ u m k. let f = has_value q (truth_setting tr) ok.2 u m.inside in (
      one,
      (
        f.0,
        one,
        f.1,
        inf_of_ones (Within t u) (SupInf p (truth_setting tr)) (λ x. Truth p tr x) (λ x y n g. SupInf-truth p tr ok.1 x y (within_stretch w m.inside n) g) k.1,
        least_of_ones f.0 (is_one f.0 (Truth q tr u) k.0 (SupInf-truth q tr ok.2 u f.0 m.inside f.1)),
      ),
      one_is_one,
    )) h)
SupInf-truth (since a b p q) tr ok t r w h =
    retold r _ (Truth (since a b p q) tr t) (λ (u, m, k). (u, m, k.0, k.1)) (λ (u, m, k, l). (u, m, (k, l)))
    (sup_tells (Behind (start tr) (stop tr) a b true true t) (IsDownTo one (SupInf p (truth_setting tr)) (SupInf q (truth_setting tr)) t)
    (λ u. Truth q tr u × ((v : Rational) → Within u t v → Truth p tr v)) r
    (λ u v m. down_to_tells (SupInf p (truth_setting tr)) (SupInf q (truth_setting tr)) (λ x. Truth p tr x) (λ x. Truth q tr x) t u v
    (λ x y n f. SupInf-truth p tr ok.1 x y (within_stretch m.inside w n) f)
    (λ x n. has_value p (truth_setting tr) ok.1 x (within_stretch m.inside w n))
    (λ x f. SupInf-truth q tr ok.2 u x m.inside f))
    (λ u m k. let f = has_value q (truth_setting tr) ok.2 u m.inside in (
      one,
      (
        f.0,
        one,
        f.1,
        inf_of_ones (Within u t) (SupInf p (truth_setting tr)) (λ x. Truth p tr x) (λ x y n g. SupInf-truth p tr ok.1 x y (within_stretch m.inside w n) g) k.1,
        least_of_ones f.0 (is_one f.0 (Truth q tr u) k.0 (SupInf-truth q tr ok.2 u f.0 m.inside f.1)),
      ),
      one_is_one,
    )) h)
