-- What rows answer they settle, one way or the other.
use Rattle.std.proofs.Common.{◌⊎◌, inl, inr, ◌+◌, ◌-◌, max, true, false, refl, sym, ◌∙◌, lit<, arith}
use Rattle.rational.specs.Time.{Rational, Within}
use Rattle.rational.specs.Windows.{Ahead, Behind, IsUpTo, IsDownTo}
use Rattle.rational.specs.Extended.{Extended}
use Rattle.rational.proofs.Order.{le_refl}
use Rattle.rational.proofs.TimeLemmas.{within_stretch}
use Rattle.rational.proofs.ExtendedLemmas.{least_of, not_twoᵉ}
use Rattle.stl_syntax.specs.Trace.{Trace, start, stop}
use Rattle.stl_syntax.specs.Formula.{Subformula, constant, atom, negation, conjunction, disjunction, implication}
use Rattle.stl_syntax.specs.Formula.{until, eventually, always, since, once, historically, horizon}
use Rattle.stl_syntax.specs.SupInf.{Setting, SupInf, one, minus_one, zero_value, HasValues, HasInfs, truth_setting}
use Rattle.stl_syntax.specs.Truth.{Truth}
use Rattle.stl_syntax.specs.Early.{IsSure, Settled, SettledNot, Decides}
use Rattle.stl_syntax.specs.Laws.{AnsweredIsSettled, RowsDecide}
use Rattle.stl_syntax.proofs.TruthLaw.{Tells, SupInf-truth, has_value}
use Rattle.stl_syntax.proofs.KleeneLaw.{Tells3, sup_tells3, inf_tells3, least_tells3, greatest_tells3, implies_tells3, opposite_tells3', retold3}
use Rattle.stl_syntax.proofs.Reaching.{Reaches, reach_now, reach_less, ahead_reaches, behind_reaches, ahead_opens}
use Rattle.stl_syntax.proofs.Reaching.{ahead_closes, behind_opens, behind_closes, until_left, until_right, since_left}
use Rattle.stl_syntax.proofs.Reaching.{since_right}

module _ (tr : Trace) where
  abbrev from : Rational
  from = start tr

  abbrev to : Rational
  to = stop tr

  abbrev setting : Setting
  setting = truth_setting tr

  -- a time of the domain is sure
  sure : (t u : Rational) → Within from to u → IsSure tr t u
  sure t u w = (w.above, inl w.below)

  -- where the trace reaches the horizon, 1 says that the formula is settled true, and -1 that it is settled false
  decided : (p : Subformula) → HasValues p setting → HasInfs p setting → (t : Rational) (r : Extended) → Reaches from to (horizon p) t
      → SupInf p setting t r → Tells3 r (Settled p tr t) (SettledNot p tr t)
  decided (constant true) ok more t r h v = inl (v, refl, λ e. cc)
  decided (constant false) ok more t r h v = inr (inl (v, refl, λ e. cc))
  decided (atom i a) ok more t r h (inl (x, e)) = inl (e, (reach_now 0 h, x), λ k. let f = sym x ∙ k.1 in cc)
  decided (atom i a) ok more t r h (inr (x, e)) = inr (inl (e, (reach_now 0 h, x), λ k. let f = sym x ∙ k.1 in cc))
  decided (negation p) ok more t r h v = opposite_tells3' r (Settled p tr t) (SettledNot p tr t) (decided p ok.1 more t _ h v)
  decided (conjunction p q) ok more t r h (x, y, f, g, l) =
      let left = decided p ok.1 more.0 t x (reach_less (horizon p) (max (horizon p) (horizon q)) (omega arith) h) f in
      let right = decided q ok.2 more.1 t y (reach_less (horizon q) (max (horizon p) (horizon q)) (omega arith) h) g in
      least_tells3 x y r _ _ _ _ left right l
  decided (disjunction p q) ok more t r h (x, y, f, g, l) =
      let left = decided p ok.1 more.0 t x (reach_less (horizon p) (max (horizon p) (horizon q)) (omega arith) h) f in
      let right = decided q ok.2 more.1 t y (reach_less (horizon q) (max (horizon p) (horizon q)) (omega arith) h) g in
      greatest_tells3 x y r _ _ _ _ left right l
  decided (implication p q) ok more t r h (x, y, f, g, l) =
      let left = decided p ok.1 more.0 t x (reach_less (horizon p) (max (horizon p) (horizon q)) (omega arith) h) f in
      let right = decided q ok.2 more.1 t y (reach_less (horizon q) (max (horizon p) (horizon q)) (omega arith) h) g in
      implies_tells3 x y r _ _ _ _ left right l
  decided (eventually a b a_in b_in p) ok more t r h v =
      retold3 r _ _ (Settled (eventually a b a_in b_in p) tr t) (SettledNot (eventually a b a_in b_in p) tr t)
      (λ (u, w, s). (u, ahead_opens w, sure t u w.inside, s)) (λ (u, o, c, s). (u, ahead_closes (horizon p) h o, s))
      (λ f u o. f u (ahead_closes (horizon p) h o)) (λ f u w. f u (ahead_opens w))
      (sup_tells3 (Ahead from to a b a_in b_in t) (SupInf p setting) (λ u. Settled p tr u) (λ u. SettledNot p tr u) r
      (λ u x w f. decided p ok.1 more u x (ahead_reaches (horizon p) h w) f) (λ u w. has_value p setting ok.1 u w.inside) v)
  decided (always a b a_in b_in p) ok more t r h v =
      retold3 r _ _ (Settled (always a b a_in b_in p) tr t) (SettledNot (always a b a_in b_in p) tr t)
      (λ f u o. f u (ahead_closes (horizon p) h o)) (λ f u w. f u (ahead_opens w))
      (λ (u, w, s). (u, ahead_opens w, sure t u w.inside, s)) (λ (u, o, c, s). (u, ahead_closes (horizon p) h o, s))
      (inf_tells3 (Ahead from to a b a_in b_in t) (SupInf p setting) (λ u. Settled p tr u) (λ u. SettledNot p tr u) r
      (λ u x w f. decided p ok.1 more u x (ahead_reaches (horizon p) h w) f) (λ u w. has_value p setting ok.1 u w.inside) v)
  decided (once a b a_in b_in p) ok more t r h v =
      let now = reach_now (horizon p - a) h in
      retold3 r _ _ (Settled (once a b a_in b_in p) tr t) (SettledNot (once a b a_in b_in p) tr t)
      (λ (u, w, s). (u, behind_opens w, sure t u w.inside, s)) (λ (u, o, c, s). (u, behind_closes now o, s))
      (λ f u o. f u (behind_closes now o)) (λ f u w. f u (behind_opens w))
      (sup_tells3 (Behind from to a b a_in b_in t) (SupInf p setting) (λ u. Settled p tr u) (λ u. SettledNot p tr u) r
      (λ u x w f. decided p ok.1 more u x (behind_reaches (horizon p) h w) f) (λ u w. has_value p setting ok.1 u w.inside) v)
  decided (historically a b a_in b_in p) ok more t r h v =
      let now = reach_now (horizon p - a) h in
      retold3 r _ _ (Settled (historically a b a_in b_in p) tr t) (SettledNot (historically a b a_in b_in p) tr t)
      (λ f u o. f u (behind_closes now o)) (λ f u w. f u (behind_opens w))
      (λ (u, w, s). (u, behind_opens w, sure t u w.inside, s)) (λ (u, o, c, s). (u, behind_closes now o, s))
      (inf_tells3 (Behind from to a b a_in b_in t) (SupInf p setting) (λ u. Settled p tr u) (λ u. SettledNot p tr u) r
      (λ u x w f. decided p ok.1 more u x (behind_reaches (horizon p) h w) f) (λ u w. has_value p setting ok.1 u w.inside) v)
  decided (until a b p q) ok more t r h v =
      let now = reach_now (b + max (horizon p) (horizon q)) h in
      let here : Within from to t = record { above = h.after; below = now } in
      retold3 r _ _ (Settled (until a b p q) tr t) (SettledNot (until a b p q) tr t)
      (λ (u, w, s). (u, ahead_opens w, sure t u w.inside, s.0, s.1)) (λ (u, o, c, f, g). (u, ahead_closes (max (horizon p) (horizon q)) h o, (f, g)))
      (λ f u o. f u (ahead_closes (max (horizon p) (horizon q)) h o)) (λ f u w. f u (ahead_opens w))
      (sup_tells3 (Ahead from to a b true true t) (IsUpTo one (SupInf p setting) (SupInf q setting) t)
      (λ u. Settled q tr u × ((v : Rational) → Within t u v → Settled p tr v))
      (λ u. SettledNot q tr u ⊎ ((v : Rational) × Within t u v × SettledNot p tr v)) r
      (λ u z w. λ (x, y, k, i, l). least_tells3 x y z _ _ _ _ (decided q ok.2 more.2 u x (until_right p q b h w.inside.above w.ends) k)
      (inf_tells3 (Within t u) (SupInf p setting) (λ x. Settled p tr x) (λ x. SettledNot p tr x) y
      (λ x z n f. decided p ok.1 more.1 x z (until_left p q b h w.ends n) f) (λ x n. has_value p setting ok.1 x (within_stretch here w.inside n)) i) l)
      (λ u w.
      let x = has_value q setting ok.2 u w.inside in
      let y = more.0 t u here w.inside in let v = least_of x.0 y.0 in (v.0, (x.0, y.0, x.1, y.1, v.1))) v)
  decided (since a b p q) ok more t r h v =
      let now = reach_now (max (horizon p) (horizon q - a)) h in
      let here : Within from to t = record { above = h.after; below = now } in
      retold3 r _ _ (Settled (since a b p q) tr t) (SettledNot (since a b p q) tr t)
      (λ (u, w, s). (u, behind_opens w, sure t u w.inside, s.0, s.1)) (λ (u, o, c, f, g). (u, behind_closes now o, (f, g)))
      (λ f u o. f u (behind_closes now o)) (λ f u w. f u (behind_opens w))
      (sup_tells3 (Behind from to a b true true t) (IsDownTo one (SupInf p setting) (SupInf q setting) t)
      (λ u. Settled q tr u × ((v : Rational) → Within u t v → Settled p tr v))
      (λ u. SettledNot q tr u ⊎ ((v : Rational) × Within u t v × SettledNot p tr v)) r
      (λ u z w. λ (x, y, k, i, l). least_tells3 x y z _ _ _ _ (decided q ok.2 more.2 u x (since_right p q a h w.inside.above w.ends) k)
      (inf_tells3 (Within u t) (SupInf p setting) (λ x. Settled p tr x) (λ x. SettledNot p tr x) y
      (λ x z n f. decided p ok.1 more.1 x z (since_left p q a h w.inside.above n) f) (λ x n. has_value p setting ok.1 x (within_stretch w.inside here n)) i) l)
      (λ u w.
      let x = has_value q setting ok.2 u w.inside in
      let y = more.0 u t w.inside here in let v = least_of x.0 y.0 in (v.0, (x.0, y.0, x.1, y.1, v.1))) v)

-- the law on what is answered
pub answered_is_settled : AnsweredIsSettled
answered_is_settled p tr t h ok more = by_value (has_value p (truth_setting tr) ok t here)
  where
    reach : Reaches (start tr) (stop tr) (horizon p) t
    reach = record { after = h.0; before = h.1 }

    here : Within (start tr) (stop tr) t
    here = record { above = h.0; below = reach_now (horizon p) reach }

    Goal : Type 0
    Goal = (Settled p tr t × Truth p tr t) ⊎ (SettledNot p tr t × (¬ Truth p tr t))

    by_both : (r : Extended) → Tells3 r (Settled p tr t) (SettledNot p tr t) → Tells r (Truth p tr t) → Goal
    by_both r (inl (e, s, n)) (inl (f, k)) = inl (s, k)
    by_both r (inl (e, s, n)) (inr (f, k)) = not_twoᵉ r one minus_one e f (record { lt = lit< tt })
    by_both r (inr (inl (e, s, n))) (inl (f, k)) = not_twoᵉ r one minus_one f e (record { lt = lit< tt })
    by_both r (inr (inl (e, s, n))) (inr (f, k)) = inr (s, k)
    by_both r (inr (inr (e, s, n))) (inl (f, k)) = not_twoᵉ r one zero_value f e (record { lt = lit< tt })
    by_both r (inr (inr (e, s, n))) (inr (f, k)) = not_twoᵉ r zero_value minus_one e f (record { lt = lit< tt })

    by_value : (r : Extended) × SupInf p (truth_setting tr) t r → Goal
    by_value (r, v) = by_both r (decided tr p ok more t r reach v) (SupInf-truth p tr ok t r here v)

-- the law on rows up to the start and the horizon
pub rows_decide : RowsDecide
rows_decide p tr h ok more = by_settled (answered_is_settled p tr (start tr) (le_refl (start tr), h) ok more)
  where
    by_settled : (Settled p tr (start tr) × Truth p tr (start tr)) ⊎ (SettledNot p tr (start tr) × (¬ Truth p tr (start tr)))
        → Decides p tr true ⊎ Decides p tr false
    by_settled (inl (s, k)) = inl s
    by_settled (inr (s, k)) = inr s
