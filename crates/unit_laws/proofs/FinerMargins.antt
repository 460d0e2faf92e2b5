-- The robustness by another clock.
use Rattle.std.proofs.Common.{Bool, Option, ℕ, ◌*◌, ◌<◌, true, false, sym, subst}
use Rattle.std.specs.Prelude.{◌↔◌, option_map}
use Rattle.rational.specs.Time.{Rational, ◌≈◌, Within}
use Rattle.rational.specs.Extended.{Extended, minus_infinity, finite, infinity, opposite, ◌≈ᵉ◌, IsLeast, IsGreatest}
use Rattle.rational.specs.Windows.{Ahead, Behind, Function, Window, IsSupOver, IsInfOver, IsUpTo, IsDownTo}
use Rattle.rational.proofs.Order.{same_sym}
use Rattle.rational.proofs.Field.{same_negate}
use Rattle.rational.proofs.AffineLemmas.{same_reflᵉ, same_symᵉ, same_transᵉ, finite_same, opposite_same}
use Rattle.rational.proofs.Sups.{inf_value_same}
use Rattle.rational.proofs.WindowLemmas.{inf_over_alike, to_same, from_same}
use Rattle.rational.proofs.ExtendedLemmas.{least_same, greatest_same}
use Rattle.stl_syntax.specs.Trace.{Trace, start, stop}
use Rattle.stl_syntax.specs.Formula.{Subformula, constant, atom, negation, conjunction, disjunction}
use Rattle.stl_syntax.specs.Formula.{implication, until, eventually, always, since, once, historically}
use Rattle.stl_syntax.specs.Truth.{expression}
use Rattle.stl_syntax.specs.SupInf.{SupInf, margin, margin_setting}
use Rattle.stl_syntax.specs.Scaling.{scaled_atom}
use Rattle.stl_syntax.specs.declared.rel.Rel.{Rel}
use Rattle.stl_syntax.specs.declared.rel.Rel.TheVariants.{AtLeast, Above, AtMost, Below}
use Rattle.stl_syntax.proofs.TimeLaw.{SupInf-same}
use Rattle.stl_syntax.proofs.SupInfLemmas.{value_alike}
use Rattle.bounds.proofs.NearTimes.{Move}
use Rattle.unit_laws.proofs.Multiples.{stretch}
use Rattle.unit_laws.proofs.Clocks.{clock, unclock, clock-unclock}
use Rattle.unit_laws.proofs.Recounts.{IsRecount}
use Rattle.unit_laws.proofs.FinerTrees.{finer_tree}
use Rattle.unit_laws.proofs.ByTheClock.{AreShown, within_shown, ahead_shown, behind_shown}
use Rattle.unit_laws.proofs.FinerTruth.{ends}
use Rattle.unit_laws.proofs.FinerValues.{stretchᵉ, shrinkᵉ, opposite_stretch, stretch-shrinkᵉ, same_stretchᵉ}
use Rattle.unit_laws.proofs.FinerValues.{same_backᵉ, least_by, least_back, greatest_by, greatest_back}
use Rattle.unit_laws.proofs.FinerValues.{AreTimes, sup_by, sup_back, inf_by, inf_back}

margin_by : (M : ℕ) (rel : Rel) (x y : Rational) → y ≈ stretch M x → margin rel y ≈ stretch M (margin rel x)
margin_by M AtLeast x y e = e
margin_by M Above x y e = e
margin_by M AtMost x y e = same_negate e
margin_by M Below x y e = same_negate e

module _ (K : ℕ) (o : Move) (M : ℕ) (kp : 0 < K) (mp : 0 < M) where
  -- the values of G are M times those of F, at the times by the clock
  record AreFiner (F G : Function) (t : Rational) : Type 0 where
    forth : (v : Extended) → F t v → G (clock K o t) (stretchᵉ M v)
    back : (v : Extended) → G (clock K o t) (stretchᵉ M v) → F t v

  -- G does not depend on the pair of a time, nor on that of a value
  record IsOfNumbers (G : Function) : Type 0 where
    times : (t u : Rational) (v : Extended) → t ≈ u → G t v → G u v
    values : (t : Rational) (v w : Extended) → v ≈ᵉ w → G t v → G t w

  times_of : (V W : Window) (F G : Function) → AreShown K o kp V W → IsOfNumbers G → ((u : Rational) → V u → AreFiner F G u)
      → ((u : Rational) → u ≈ clock K o (unclock K o kp u))
      → AreTimes M mp (λ v. (u : Rational) × V u × F u v) (λ v. (u : Rational) × W u × G u v)
  times_of V W F G w g f same = record {
    forth = λ v. λ (u, m, h). (clock K o u, w.forth u m, (f u m).forth v h);
    back = λ v. λ (u, m, h). (
      unclock K o kp u,
      w.back u m,
      (f (unclock K o kp u) (w.back u m)).back (shrinkᵉ M mp v) (g.values (clock K o (unclock K o kp u)) v (stretchᵉ M (shrinkᵉ M mp v))
          (same_symᵉ (stretchᵉ M (shrinkᵉ M mp v)) v (stretch-shrinkᵉ M mp v)) (g.times u (clock K o (unclock K o kp u)) v (same u) h)),
    );
  }

  part_same : (u : Rational) → u ≈ clock K o (unclock K o kp u)
  part_same u = same_sym (clock-unclock K o kp u)

  module _ (P Q P' Q' : Function) (number : IsOfNumbers P') (number' : IsOfNumbers Q') where
    -- the least of a value and an Inf, by the clock: over the stretch from a to b, with Q at u
    run_by : (a b u : Rational) → ((s : Rational) → Within a b s → AreFiner P P' s) → AreFiner Q Q' u → (v : Extended)
        → ((x y : Extended) × Q u x × IsInfOver infinity (Within a b) P y × IsLeast x y v)
        → (x y : Extended) × Q' (clock K o u) x × IsInfOver infinity (Within (clock K o a) (clock K o b)) P' y × IsLeast x y (stretchᵉ M v)
    run_by a b u f g v (x, y, q, i, l) = (
      stretchᵉ M x,
      stretchᵉ M y,
      g.forth x q,
      inf_by M mp (times_of (Within a b) (Within (clock K o a) (clock K o b)) P P' (within_shown K o kp a b) number f part_same) y i,
      least_by M x y v l,
    )

    run_back : (a b u : Rational) → ((s : Rational) → Within a b s → AreFiner P P' s) → AreFiner Q Q' u → (v : Extended)
        → ((x y : Extended) × Q' (clock K o u) x × IsInfOver infinity (Within (clock K o a) (clock K o b)) P' y × IsLeast x y (stretchᵉ M v))
        → (x y : Extended) × Q u x × IsInfOver infinity (Within a b) P y × IsLeast x y v
    run_back a b u f g v (x, y, q, i, l) =
        let c = same_symᵉ (stretchᵉ M (shrinkᵉ M mp x)) x (stretch-shrinkᵉ M mp x) in
        let d = same_symᵉ (stretchᵉ M (shrinkᵉ M mp y)) y (stretch-shrinkᵉ M mp y) in (
          shrinkᵉ M mp x,
          shrinkᵉ M mp y,
          g.back (shrinkᵉ M mp x) (number'.values (clock K o u) x (stretchᵉ M (shrinkᵉ M mp x)) c q),
          inf_back M mp (times_of (Within a b) (Within (clock K o a) (clock K o b)) P P' (within_shown K o kp a b) number f part_same) (shrinkᵉ M mp y)
              (inf_value_same y (stretchᵉ M (shrinkᵉ M mp y)) d i),
          least_back M mp (shrinkᵉ M mp x) (shrinkᵉ M mp y) v
              (least_same x (stretchᵉ M (shrinkᵉ M mp x)) y (stretchᵉ M (shrinkᵉ M mp y)) (stretchᵉ M v) (stretchᵉ M v) c d (same_reflᵉ (stretchᵉ M v)) l),
        )

  -- what until and since read is of numbers
  up_of_numbers : (P Q : Function) (t : Rational) → IsOfNumbers Q → IsOfNumbers (IsUpTo infinity P Q t)
  up_of_numbers P Q t n = record {
    times = λ u w v e. λ (x, y, q, i, l).
        (x, y, n.times u w x e q, inf_over_alike (Within t u) (Within t w) P infinity y (λ s m. to_same (same_sym e) m) (λ s m. to_same e m) i, l);
    values = λ u v w e. λ (x, y, q, i, l). (x, y, q, i, least_same x x y y v w (same_reflᵉ x) (same_reflᵉ y) e l);
  }

  down_of_numbers : (P Q : Function) (t : Rational) → IsOfNumbers Q → IsOfNumbers (IsDownTo infinity P Q t)
  down_of_numbers P Q t n = record {
    times = λ u w v e. λ (x, y, q, i, l).
        (x, y, n.times u w x e q, inf_over_alike (Within u t) (Within w t) P infinity y (λ s m. from_same (same_sym e) m) (λ s m. from_same e m) i, l);
    values = λ u v w e. λ (x, y, q, i, l). (x, y, q, i, least_same x x y y v w (same_reflᵉ x) (same_reflᵉ y) e l);
  }

  module _ {tr ur : Trace} (c : IsRecount K o M tr ur) where
    abbrev F : Subformula → Function
    F p = SupInf p (margin_setting tr)

    abbrev G : Subformula → Function
    G p = SupInf (finer_tree K M p) (margin_setting ur)

    of_numbers : (p : Subformula) → IsOfNumbers (G p)
    of_numbers p = record {
      times = λ t u v e h. SupInf-same (finer_tree K M p) (margin_setting ur) v e h;
      values = λ t v w e h. value_alike (finer_tree K M p) ur t v w e h;
    }

    -- a value is M times its M-th part
    whole_of : (x : Extended) → x ≈ᵉ stretchᵉ M (shrinkᵉ M mp x)
    whole_of x = same_symᵉ (stretchᵉ M (shrinkᵉ M mp x)) x (stretch-shrinkᵉ M mp x)

    -- the Sup over a window, and the Inf
    sup_finer : {V W : Window} {A B : Function} → AreShown K o kp V W → IsOfNumbers B → ((u : Rational) → V u → AreFiner A B u) → (v : Extended)
        → IsSupOver minus_infinity V A v ↔ IsSupOver minus_infinity W B (stretchᵉ M v)
    sup_finer {V} {W} {A} {B} w n f v = let e = times_of V W A B w n f part_same in (sup_by M mp e v, sup_back M mp e v)

    inf_finer : {V W : Window} {A B : Function} → AreShown K o kp V W → IsOfNumbers B → ((u : Rational) → V u → AreFiner A B u) → (v : Extended)
        → IsInfOver infinity V A v ↔ IsInfOver infinity W B (stretchᵉ M v)
    inf_finer {V} {W} {A} {B} w n f v = let e = times_of V W A B w n f part_same in (inf_by M mp e v, inf_back M mp e v)

    -- the windows by the clock
    ahead : (a b : ℕ) (i j : Bool) (t : Rational)
        → AreShown K o kp (Ahead (start tr) (stop tr) a b i j t) (Ahead (start ur) (stop ur) (K * a) (K * b) i j (clock K o t))
    ahead a b i j t = ahead_shown K o kp (ends K o M kp mp c) a b i j t

    behind : (a : ℕ) (b : Option ℕ) (i j : Bool) (t : Rational)
        → AreShown K o kp (Behind (start tr) (stop tr) a b i j t) (Behind (start ur) (stop ur) (K * a) (option_map (λ b. K * b) b) i j (clock K o t))
    behind a b i j t = behind_shown K o kp (ends K o M kp mp c) a b i j t

    finer : (p : Subformula) → ((u : Rational) (x : Extended) → F p u x ↔ G p (clock K o u) (stretchᵉ M x)) → (u : Rational) → AreFiner (F p) (G p) u
    finer p h u = record { forth = λ x. (h u x).0; back = λ x. (h u x).1 }

    -- the robustness is M times as large where the clock shows its time
    pub margins_by : (p : Subformula) (t : Rational) (v : Extended) → F p t v ↔ G p (clock K o t) (stretchᵉ M v)
    margins_by (constant true) t v = (λ h. same_stretchᵉ M v infinity h, λ h. same_backᵉ M mp v infinity h)
    margins_by (constant false) t v = (λ h. same_stretchᵉ M v minus_infinity h, λ h. same_backᵉ M mp v minus_infinity h)
    margins_by (atom i a) t v =
        let x = expression a tr t in
        let y = expression (scaled_atom M a) ur (clock K o t) in
        let e = margin_by M a.rel x y (c.expressions a t) in
        let d = finite_same e in (
          λ h. same_transᵉ (stretchᵉ M v) (finite (stretch M (margin a.rel x))) (finite (margin a.rel y))
              (same_stretchᵉ M v (finite (margin a.rel x)) h) (same_symᵉ (finite (margin a.rel y)) (finite (stretch M (margin a.rel x))) d),
          λ h. same_backᵉ M mp v (finite (margin a.rel x)) (same_transᵉ (stretchᵉ M v) (finite (margin a.rel y)) (finite (stretch M (margin a.rel x))) h d),
        )
    margins_by (negation p) t v =
        subst (λ z. F p t (opposite v) ↔ G p (clock K o t) z) (sym (opposite_stretch M v)) (margins_by p t (opposite v))
    margins_by (conjunction p q) t v = (
      λ (x, y, f, g, l). (stretchᵉ M x, stretchᵉ M y, (margins_by p t x).0 f, (margins_by q t y).0 g, least_by M x y v l),
      λ (x, y, f, g, l). (
        shrinkᵉ M mp x,
        shrinkᵉ M mp y,
        (margins_by p t (shrinkᵉ M mp x)).1 ((of_numbers p).values (clock K o t) x (stretchᵉ M (shrinkᵉ M mp x)) (whole_of x) f),
        (margins_by q t (shrinkᵉ M mp y)).1 ((of_numbers q).values (clock K o t) y (stretchᵉ M (shrinkᵉ M mp y)) (whole_of y) g),
        least_back M mp (shrinkᵉ M mp x) (shrinkᵉ M mp y) v
            (least_same x (stretchᵉ M (shrinkᵉ M mp x)) y (stretchᵉ M (shrinkᵉ M mp y)) (stretchᵉ M v) (stretchᵉ M v) (whole_of x)
            (whole_of y) (same_reflᵉ (stretchᵉ M v)) l),
      ),
    )
    margins_by (disjunction p q) t v = (
      λ (x, y, f, g, l). (stretchᵉ M x, stretchᵉ M y, (margins_by p t x).0 f, (margins_by q t y).0 g, greatest_by M x y v l),
      λ (x, y, f, g, l). (
        shrinkᵉ M mp x,
        shrinkᵉ M mp y,
        (margins_by p t (shrinkᵉ M mp x)).1 ((of_numbers p).values (clock K o t) x (stretchᵉ M (shrinkᵉ M mp x)) (whole_of x) f),
        (margins_by q t (shrinkᵉ M mp y)).1 ((of_numbers q).values (clock K o t) y (stretchᵉ M (shrinkᵉ M mp y)) (whole_of y) g),
        greatest_back M mp (shrinkᵉ M mp x) (shrinkᵉ M mp y) v
            (greatest_same x (stretchᵉ M (shrinkᵉ M mp x)) y (stretchᵉ M (shrinkᵉ M mp y)) (stretchᵉ M v) (stretchᵉ M v)
            (whole_of x) (whole_of y) (same_reflᵉ (stretchᵉ M v)) l),
      ),
    )
    margins_by (implication p q) t v = (
      λ (x, y, f, g, l). (
        stretchᵉ M x,
        stretchᵉ M y,
        (margins_by p t x).0 f,
        (margins_by q t y).0 g,
        subst (λ z. IsGreatest z (stretchᵉ M y) (stretchᵉ M v)) (sym (opposite_stretch M x)) (greatest_by M (opposite x) y v l),
      ),
      λ (x, y, f, g, l). (
        shrinkᵉ M mp x,
        shrinkᵉ M mp y,
        (margins_by p t (shrinkᵉ M mp x)).1 ((of_numbers p).values (clock K o t) x (stretchᵉ M (shrinkᵉ M mp x)) (whole_of x) f),
        (margins_by q t (shrinkᵉ M mp y)).1 ((of_numbers q).values (clock K o t) y (stretchᵉ M (shrinkᵉ M mp y)) (whole_of y) g),
        greatest_back M mp (opposite (shrinkᵉ M mp x)) (shrinkᵉ M mp y) v
            (subst (λ z. IsGreatest z (stretchᵉ M (shrinkᵉ M mp y)) (stretchᵉ M v)) (opposite_stretch M (shrinkᵉ M mp x))
            (greatest_same (opposite x) (opposite (stretchᵉ M (shrinkᵉ M mp x))) y (stretchᵉ M (shrinkᵉ M mp y)) (stretchᵉ M v) (stretchᵉ M v)
            (opposite_same x (stretchᵉ M (shrinkᵉ M mp x)) (whole_of x)) (whole_of y) (same_reflᵉ (stretchᵉ M v)) l)),
      ),
    )
    margins_by (eventually a b i j p) t v = sup_finer (ahead a b i j t) (of_numbers p) (λ u m. finer p (λ s x. margins_by p s x) u) v
    margins_by (always a b i j p) t v = inf_finer (ahead a b i j t) (of_numbers p) (λ u m. finer p (λ s x. margins_by p s x) u) v
    margins_by (once a b i j p) t v = sup_finer (behind a b i j t) (of_numbers p) (λ u m. finer p (λ s x. margins_by p s x) u) v
    margins_by (historically a b i j p) t v = inf_finer (behind a b i j t) (of_numbers p) (λ u m. finer p (λ s x. margins_by p s x) u) v
    margins_by (until a b p q) t v =
        let f = finer p (λ s x. margins_by p s x) in
        let g = finer q (λ s x. margins_by q s x) in
        sup_finer {A = IsUpTo infinity (F p) (F q) t} (ahead a b true true t) (up_of_numbers (G p) (G q) (clock K o t) (of_numbers q)) (λ u m. record {
          forth = λ x. run_by (F p) (F q) (G p) (G q) (of_numbers p) (of_numbers q) t u u (λ s n. f s) (g u) x;
          back = λ x. run_back (F p) (F q) (G p) (G q) (of_numbers p) (of_numbers q) t u u (λ s n. f s) (g u) x;
        }) v
    margins_by (since a b p q) t v =
        let f = finer p (λ s x. margins_by p s x) in
        let g = finer q (λ s x. margins_by q s x) in
        sup_finer {A = IsDownTo infinity (F p) (F q) t} (behind a b true true t) (down_of_numbers (G p) (G q) (clock K o t) (of_numbers q)) (λ u m. record {
          forth = λ x. run_by (F p) (F q) (G p) (G q) (of_numbers p) (of_numbers q) u t u (λ s n. f s) (g u) x;
          back = λ x. run_back (F p) (F q) (G p) (G q) (of_numbers p) (of_numbers q) u t u (λ s n. f s) (g u) x;
        }) v
