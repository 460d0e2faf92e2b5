-- Where the robustness is above e, the formula holds in every trace whose expressions differ by at most e; below -e it fails there.
use Rattle.std.proofs.Common.{◌≡◌, ℕ, pos, ◌⊎◌, inl, inr, arith, true, false, IsTrue, refl, Bool}
use Rattle.std.specs.Prelude.{Option}
use Rattle.rational.specs.Rational.{Rational, ◌≤ʳ◌, ◌<ʳ◌, whole, add, negate}
use Rattle.rational.proofs.Order.{lt_of_lt_of_le, lt_of_le_of_lt, le_or_lt, le_refl}
use Rattle.rational.proofs.Field.{le_add, lt_add_left}
use Rattle.rational.specs.Time.{Within}
use Rattle.rational.specs.Windows.{Ahead, Behind, Function, IsInfOver, IsSupOver, IsUpTo, IsDownTo}
use Rattle.stl_syntax.specs.Trace.{Trace, start, stop}
use Rattle.stl_syntax.specs.Formula.{Subformula, constant, atom, negation, conjunction, disjunction}
use Rattle.stl_syntax.specs.Formula.{implication, until, eventually, always, since, once, historically}
use Rattle.rational.specs.Extended.{Extended, minus_infinity, finite, infinity, ◌≤ᵉ◌, ◌<ᵉ◌, opposite, IsLeast, IsGreatest}
use Rattle.stl_syntax.specs.SupInf.{margin, margin_setting, Setting, SupInf, HasValues, HasInfs}
use Rattle.stl_syntax.specs.Closeness.{IsClose, AreClose}
use Rattle.stl_syntax.specs.Truth.{Truth, expression, compares}
use Rattle.stl_syntax.specs.declared.rel.Rel.{Rel}
use Rattle.stl_syntax.specs.declared.rel.Rel.TheVariants.{AtLeast, Above, AtMost, Below}
use Rattle.rational.proofs.ExtendedLemmas.{clashᵉ, le_transᵉ, lt_of_lt_of_leᵉ, lt_of_le_of_ltᵉ, least_of, lt_opposite, opposite_twice}
use Rattle.rational.proofs.TimeLemmas.{within_stretch}
use Rattle.stl_syntax.proofs.TruthLaw.{has_value}

positive_close : (e x y : Rational) → IsClose e x y → e <ʳ x → whole (pos 0) <ʳ y
positive_close e x y c h = by_order (le_or_lt y (whole (pos 0)))
  where
    too_small : e <ʳ add (whole (pos 0)) e → ⊥
    too_small k = omega arith

    by_order : (y ≤ʳ whole (pos 0)) ⊎ (whole (pos 0) <ʳ y) → whole (pos 0) <ʳ y
    by_order (inr l) = l
    by_order (inl l) = absurd (too_small (lt_of_lt_of_le (lt_of_lt_of_le h c.low) (le_add l (le_refl e))))

negative_close : (e x y : Rational) → IsClose e x y → x <ʳ negate e → y <ʳ whole (pos 0)
negative_close e x y c h = by_order (le_or_lt (whole (pos 0)) y)
  where
    too_large : whole (pos 0) <ʳ add (negate e) e → ⊥
    too_large k = omega arith

    by_order : (whole (pos 0) ≤ʳ y) ⊎ (y <ʳ whole (pos 0)) → y <ʳ whole (pos 0)
    by_order (inr l) = l
    by_order (inl l) = absurd (too_large (lt_of_le_of_lt l (lt_of_le_of_lt c.high (lt_add_left h (le_refl e)))))

above_holds : (rel : Rel) (e x y : Rational) → IsClose e x y → e <ʳ margin rel x → IsTrue (compares rel y)
above_holds AtLeast e x y c h = let k = (positive_close e x y c h).lt in grind arith
above_holds Above e x y c h = let k = (positive_close e x y c h).lt in grind arith
above_holds AtMost e x y c h = let k = (negative_close e x y c (let j = h.lt in record { lt = omega arith })).lt in grind arith
above_holds Below e x y c h = let k = (negative_close e x y c (let j = h.lt in record { lt = omega arith })).lt in grind arith

below_fails : (rel : Rel) (e x y : Rational) → IsClose e x y → margin rel x <ʳ negate e → ¬ IsTrue (compares rel y)
below_fails AtLeast e x y c h t = let k = (negative_close e x y c h).lt in grind arith
below_fails Above e x y c h t = let k = (negative_close e x y c h).lt in grind arith
below_fails AtMost e x y c h t = let k = (positive_close e x y c (let j = h.lt in record { lt = omega arith })).lt in grind arith
below_fails Below e x y c h t = let k = (positive_close e x y c (let j = h.lt in record { lt = omega arith })).lt in grind arith

-- what the value v at e tells of P: above e it holds, and below -e it fails
abbrev pub Bounds : Rational → Extended → Type 0 → Type 0
Bounds e v P = (finite e <ᵉ v → P) × (v <ᵉ finite (negate e) → ¬ P)

module _ (e : Rational) (tr tr' : Trace) (start_same : start tr' ≡ start tr) (stop_same : stop tr' ≡ stop tr) where
  abbrev s : Setting
  s = margin_setting tr

  ahead_over : (a b : ℕ) (a_in b_in : Bool) (t u : Rational) → Ahead (start tr) (stop tr) a b a_in b_in t u → Ahead (start tr') (stop tr') a b a_in b_in t u
  ahead_over a b a_in b_in t u w = rw (start_same, stop_same) w

  ahead_back : (a b : ℕ) (a_in b_in : Bool) (t u : Rational) → Ahead (start tr') (stop tr') a b a_in b_in t u → Ahead (start tr) (stop tr) a b a_in b_in t u
  ahead_back a b a_in b_in t u w = rw (start_same, stop_same) at w

  behind_over : (a : ℕ) (b : Option ℕ) (a_in b_in : Bool) (t u : Rational) → Behind (start tr) (stop tr) a b a_in b_in t u
      → Behind (start tr') (stop tr') a b a_in b_in t u
  behind_over a b a_in b_in t u w = rw (start_same, stop_same) w

  behind_back : (a : ℕ) (b : Option ℕ) (a_in b_in : Bool) (t u : Rational) → Behind (start tr') (stop tr') a b a_in b_in t u
      → Behind (start tr) (stop tr) a b a_in b_in t u
  behind_back a b a_in b_in t u w = rw (start_same, stop_same) at w

  -- each time of the window has a value with its bounds
  each_above : (W : Rational → Type 0) (F : Function) (P : Rational → Type 0) (y : Extended) → ((u : Rational) → W u → (v : Extended) × F u v)
      → ((u : Rational) (v : Extended) → W u → F u v → Bounds e v (P u)) → IsInfOver infinity W F y → finite e <ᵉ y → (u : Rational) → W u → P u
  each_above W F P y has bounds i h u w = let f = has u w in (bounds u f.0 w f.1).0 (lt_of_lt_of_leᵉ (finite e) y f.0 h (i.bound f.0 (u, w, f.1)))

  some_below : (W : Rational → Type 0) (F : Function) (P : Rational → Type 0) (y : Extended)
      → ((u : Rational) (v : Extended) → W u → F u v → Bounds e v (P u)) → IsInfOver infinity W F y → y <ᵉ finite (negate e) → ¬ ((u : Rational) → W u → P u)
  some_below W F P y bounds i h all = one_below (i.reached (finite (negate e)) h tt)
    where
      one_below : (v : Extended) × ((u : Rational) × W u × F u v) × (v <ᵉ finite (negate e)) → ⊥
      one_below (v, (u, w, f), l) = (bounds u v w f).1 l (all u w)

  some_above : (W : Rational → Type 0) (F : Function) (P : Rational → Type 0) (r : Extended)
      → ((u : Rational) (v : Extended) → W u → F u v → Bounds e v (P u)) → IsSupOver minus_infinity W F r → finite e <ᵉ r → (u : Rational) × W u × P u
  some_above W F P r bounds i h = one_above (i.reached (finite e) tt h)
    where
      one_above : (v : Extended) × ((u : Rational) × W u × F u v) × (finite e <ᵉ v) → (u : Rational) × W u × P u
      one_above (v, (u, w, f), l) = (u, w, (bounds u v w f).0 l)

  none_below : (W : Rational → Type 0) (F : Function) (P : Rational → Type 0) (r : Extended) → ((u : Rational) → W u → (v : Extended) × F u v)
      → ((u : Rational) (v : Extended) → W u → F u v → Bounds e v (P u)) → IsSupOver minus_infinity W F r → r <ᵉ finite (negate e)
      → ¬ ((u : Rational) × W u × P u)
  none_below W F P r has bounds i h (u, w, p) =
      let f = has u w in
      (bounds u f.0 w f.1).1 (lt_of_le_of_ltᵉ f.0 r (finite (negate e)) (i.bound f.0 (u, w, f.1)) h) p

  both_bounds : (x y v : Extended) (P Q : Type 0) → Bounds e x P → Bounds e y Q → IsLeast x y v → Bounds e v (P × Q)
  both_bounds x y v P Q b c l =
      (λ h. (b.0 (lt_of_lt_of_leᵉ (finite e) v x h l.left), c.0 (lt_of_lt_of_leᵉ (finite e) v y h l.right)), λ h z. by_one l.one_of h z)
    where
      by_one : (x ≤ᵉ v) ⊎ (y ≤ᵉ v) → v <ᵉ finite (negate e) → P × Q → ⊥
      by_one (inl k) h z = b.1 (lt_of_le_of_ltᵉ x v (finite (negate e)) k h) z.0
      by_one (inr k) h z = c.1 (lt_of_le_of_ltᵉ y v (finite (negate e)) k h) z.1

  either_bounds : (x y v : Extended) (P Q : Type 0) → Bounds e x P → Bounds e y Q → IsGreatest x y v → Bounds e v (P ⊎ Q)
  either_bounds x y v P Q b c l = (by_one l.one_of, λ h z. neither h z)
    where
      by_one : (v ≤ᵉ x) ⊎ (v ≤ᵉ y) → finite e <ᵉ v → P ⊎ Q
      by_one (inl k) h = inl (b.0 (lt_of_lt_of_leᵉ (finite e) v x h k))
      by_one (inr k) h = inr (c.0 (lt_of_lt_of_leᵉ (finite e) v y h k))

      neither : v <ᵉ finite (negate e) → P ⊎ Q → ⊥
      neither h (inl z) = b.1 (lt_of_le_of_ltᵉ x v (finite (negate e)) l.left h) z
      neither h (inr z) = c.1 (lt_of_le_of_ltᵉ y v (finite (negate e)) l.right h) z

  not_bounds : (x : Extended) (P : Type 0) → Bounds e x P → Bounds e (opposite x) (¬ P)
  not_bounds x P b = (
    λ h. b.1 (let k = lt_opposite (finite e) (opposite x) h in rw opposite_twice at k),
    λ h n. n (b.0 (let k = lt_opposite (opposite x) (finite (negate e)) h in rw opposite_twice at k)),
  )

  implies_bounds : (x y v : Extended) (P Q : Type 0) → Bounds e x P → Bounds e y Q → IsGreatest (opposite x) y v → Bounds e v (P → Q)
  implies_bounds x y v P Q b c l = (λ h p. by_one l.one_of h p, λ h f. c.1 (lt_of_le_of_ltᵉ y v (finite (negate e)) l.right h) (f (b.0 (high h))))
    where
      by_one : (v ≤ᵉ opposite x) ⊎ (v ≤ᵉ y) → finite e <ᵉ v → P → Q
      by_one (inl k) h p =
          absurd (b.1 (let j = lt_opposite (finite e) (opposite x) (lt_of_lt_of_leᵉ (finite e) v (opposite x) h k) in rw opposite_twice at j) p)
      by_one (inr k) h p = c.0 (lt_of_lt_of_leᵉ (finite e) v y h k)

      high : v <ᵉ finite (negate e) → finite e <ᵉ x
      high h = let j = lt_opposite (opposite x) (finite (negate e)) (lt_of_le_of_ltᵉ (opposite x) v (finite (negate e)) l.left h) in rw opposite_twice at j

  -- the formula in the other trace, by the robustness in the first
  pub SupInf-margin : (p : Subformula) → HasValues p s → HasInfs p s → AreClose e tr tr' p → (t : Rational) (r : Extended)
      → Within (start tr) (stop tr) t → SupInf p s t r
      → Bounds e r (Truth p tr' t)
  SupInf-margin (constant true) ok more c t r w h =
      (λ k. refl, λ k x. absurd (clashᵉ r (finite (negate e)) k (le_transᵉ (finite (negate e)) infinity r tt h.at_least)))
  SupInf-margin (constant false) ok more c t r w h = (λ k. clashᵉ (finite e) r k (le_transᵉ r minus_infinity (finite e) h.at_most tt), λ k x. cc)
  SupInf-margin (atom i a) ok more c t r w h = (
    λ k. above_holds a.rel e (expression a tr t) (expression a tr' t) (c t w)
        (lt_of_lt_of_leᵉ (finite e) r (finite (margin a.rel (expression a tr t))) k h.at_most),
    λ k. below_fails a.rel e (expression a tr t) (expression a tr' t) (c t w)
        (lt_of_le_of_ltᵉ (finite (margin a.rel (expression a tr t))) r (finite (negate e)) h.at_least k),
  )
  SupInf-margin (negation p) ok more c t r w h =
      let b = not_bounds (opposite r) (Truth p tr' t) (SupInf-margin p ok.1 more c t (opposite r) w h) in rw opposite_twice at b
  SupInf-margin (conjunction p q) ok more c t r w (x, y, h, k, l) =
      both_bounds x y r (Truth p tr' t) (Truth q tr' t) (SupInf-margin p ok.1 more.0 c.0 t x w h) (SupInf-margin q ok.2 more.1 c.1 t y w k) l
  SupInf-margin (disjunction p q) ok more c t r w (x, y, h, k, l) =
      either_bounds x y r (Truth p tr' t) (Truth q tr' t) (SupInf-margin p ok.1 more.0 c.0 t x w h) (SupInf-margin q ok.2 more.1 c.1 t y w k) l
  SupInf-margin (implication p q) ok more c t r w (x, y, h, k, l) =
      implies_bounds x y r (Truth p tr' t) (Truth q tr' t) (SupInf-margin p ok.1 more.0 c.0 t x w h) (SupInf-margin q ok.2 more.1 c.1 t y w k) l
  SupInf-margin (eventually a b a_in b_in p) ok more c t r w h =
      let bounds : (u : Rational) (v : Extended) → Ahead (start tr) (stop tr) a b a_in b_in t u → SupInf p s u v → Bounds e v (Truth p tr' u) =
      λ u v m f. SupInf-margin p ok.1 more c u v m.inside f in (
        λ k. let z = some_above (Ahead (start tr) (stop tr) a b a_in b_in t) (SupInf p s) (λ u. Truth p tr' u) r bounds h k in
            (z.0, ahead_over a b a_in b_in t z.0 z.1, z.2),
        λ k. λ (u, m, x). none_below (Ahead (start tr) (stop tr) a b a_in b_in t) (SupInf p s) (λ u. Truth p tr' u) r
            (λ u m. has_value p s ok.1 u m.inside) bounds h k (u, ahead_back a b a_in b_in t u m, x),
      )
  SupInf-margin (always a b a_in b_in p) ok more c t r w h =
      let bounds : (u : Rational) (v : Extended) → Ahead (start tr) (stop tr) a b a_in b_in t u → SupInf p s u v → Bounds e v (Truth p tr' u) =
      λ u v m f. SupInf-margin p ok.1 more c u v m.inside f in (
        λ k u m. each_above (Ahead (start tr) (stop tr) a b a_in b_in t) (SupInf p s) (λ u. Truth p tr' u) r
            (λ u m. has_value p s ok.1 u m.inside) bounds h k u (ahead_back a b a_in b_in t u m),
        λ k all. some_below (Ahead (start tr) (stop tr) a b a_in b_in t) (SupInf p s) (λ u. Truth p tr' u) r bounds h k
            (λ u m. all u (ahead_over a b a_in b_in t u m)),
      )
  SupInf-margin (once a b a_in b_in p) ok more c t r w h =
      let bounds : (u : Rational) (v : Extended) → Behind (start tr) (stop tr) a b a_in b_in t u → SupInf p s u v → Bounds e v (Truth p tr' u) =
      λ u v m f. SupInf-margin p ok.1 more c u v m.inside f in (
        λ k. let z = some_above (Behind (start tr) (stop tr) a b a_in b_in t) (SupInf p s) (λ u. Truth p tr' u) r bounds h k in
            (z.0, behind_over a b a_in b_in t z.0 z.1, z.2),
        λ k. λ (u, m, x). none_below (Behind (start tr) (stop tr) a b a_in b_in t) (SupInf p s) (λ u. Truth p tr' u) r
            (λ u m. has_value p s ok.1 u m.inside) bounds h k (u, behind_back a b a_in b_in t u m, x),
      )
  SupInf-margin (historically a b a_in b_in p) ok more c t r w h =
      let bounds : (u : Rational) (v : Extended) → Behind (start tr) (stop tr) a b a_in b_in t u → SupInf p s u v → Bounds e v (Truth p tr' u) =
      λ u v m f. SupInf-margin p ok.1 more c u v m.inside f in (
        λ k u m. each_above (Behind (start tr) (stop tr) a b a_in b_in t) (SupInf p s) (λ u. Truth p tr' u) r
            (λ u m. has_value p s ok.1 u m.inside) bounds h k u (behind_back a b a_in b_in t u m),
        λ k all. some_below (Behind (start tr) (stop tr) a b a_in b_in t) (SupInf p s) (λ u. Truth p tr' u) r bounds h k
            (λ u m. all u (behind_over a b a_in b_in t u m)),
      )
  SupInf-margin (until a b p q) ok more c t r w h =
      let bounds : (u : Rational) (v : Extended) → Ahead (start tr) (stop tr) a b true true t u → IsUpTo infinity (SupInf p s) (SupInf q s) t u v
      → Bounds e v (Truth q tr' u × ((x : Rational) → Within t u x → Truth p tr' x)) =
      λ u v m. λ (x, y, k, i, l). both_bounds x y v (Truth q tr' u) ((x : Rational) → Within t u x → Truth p tr' x)
      (SupInf-margin q ok.2 more.2 c.1 u x m.inside k)
      (let inner : (z : Rational) (v : Extended) → Within t u z → SupInf p s z v → Bounds e v (Truth p tr' z) =
      λ z v n f. SupInf-margin p ok.1 more.1 c.0 z v (within_stretch w m.inside n) f in (
        λ j. each_above (Within t u) (SupInf p s) (λ z. Truth p tr' z) y (λ z n. has_value p s ok.1 z (within_stretch w m.inside n)) inner i j,
        λ j. some_below (Within t u) (SupInf p s) (λ z. Truth p tr' z) y inner i j,
      )) l in (
        λ k. let z = some_above (Ahead (start tr) (stop tr) a b true true t) (IsUpTo infinity (SupInf p s) (SupInf q s) t) (λ u.
            Truth q tr' u × ((x : Rational) → Within t u x → Truth p tr' x)) r bounds h k in
            (z.0, ahead_over a b true true t z.0 z.1, z.2.0, z.2.1),
        λ k. λ (u, m, x, y). none_below (Ahead (start tr) (stop tr) a b true true t) (IsUpTo infinity (SupInf p s) (SupInf q s) t)
            (λ u. Truth q tr' u × ((x : Rational) → Within t u x → Truth p tr' x)) r
            (λ u m. let x = has_value q s ok.2 u m.inside in let y = more.0 t u w m.inside in let v = least_of x.0 y.0 in (v.0, (x.0, y.0, x.1, y.1, v.1)))
            bounds h k (u, ahead_back a b true true t u m, (x, y)),
      )
  SupInf-margin (since a b p q) ok more c t r w h =
      let bounds : (u : Rational) (v : Extended) → Behind (start tr) (stop tr) a b true true t u → IsDownTo infinity (SupInf p s) (SupInf q s) t u v
      → Bounds e v (Truth q tr' u × ((x : Rational) → Within u t x → Truth p tr' x)) =
      λ u v m. λ (x, y, k, i, l). both_bounds x y v (Truth q tr' u) ((x : Rational) → Within u t x → Truth p tr' x)
      (SupInf-margin q ok.2 more.2 c.1 u x m.inside k)
      (let inner : (z : Rational) (v : Extended) → Within u t z → SupInf p s z v → Bounds e v (Truth p tr' z) =
      λ z v n f. SupInf-margin p ok.1 more.1 c.0 z v (within_stretch m.inside w n) f in (
        λ j. each_above (Within u t) (SupInf p s) (λ z. Truth p tr' z) y (λ z n. has_value p s ok.1 z (within_stretch m.inside w n)) inner i j,
        λ j. some_below (Within u t) (SupInf p s) (λ z. Truth p tr' z) y inner i j,
      )) l in (
        λ k. let z = some_above (Behind (start tr) (stop tr) a b true true t) (IsDownTo infinity (SupInf p s) (SupInf q s) t) (λ u.
            Truth q tr' u × ((x : Rational) → Within u t x → Truth p tr' x)) r bounds h k in
            (z.0, behind_over a b true true t z.0 z.1, z.2.0, z.2.1),
        λ k. λ (u, m, x, y). none_below (Behind (start tr) (stop tr) a b true true t)
            (IsDownTo infinity (SupInf p s) (SupInf q s) t) (λ u. Truth q tr' u × ((x : Rational) → Within u t x → Truth p tr' x)) r
            (λ u m. let x = has_value q s ok.2 u m.inside in let y = more.0 u t m.inside w in let v = least_of x.0 y.0 in (v.0, (x.0, y.0, x.1, y.1, v.1)))
            bounds h k (u, behind_back a b true true t u m, (x, y)),
      )
