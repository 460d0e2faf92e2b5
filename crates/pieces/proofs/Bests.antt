-- The order of values for a side, and the best of a set of values.
use Rattle.std.proofs.Common.{◌≡◌, ◌⊎◌, inl, inr, refl}
use Rattle.std.specs.declared.cmp.Ordering.{Ordering}
use Rattle.std.specs.declared.cmp.Ordering.TheVariants.{Less, Equal, Greater}
use Rattle.rational.specs.Time.{Rational, ◌<ʳ◌, ◌≈◌}
use Rattle.rational.specs.Extended.{Extended, ◌≈ᵉ◌, Affine, value_at, Passes}
use Rattle.rational.specs.Places.{Place, After, Upto, Before}
use Rattle.rational.specs.Windows.{Function, Window}
use Rattle.rational.proofs.Order.{same_sym, same_trans}
use Rattle.rational.proofs.ExtendedLemmas.{le_totalᵉ, le_reflᵉ, le_transᵉ, le_of_ltᵉ, lt_of_lt_of_leᵉ, lt_of_le_of_ltᵉ, clashᵉ, greatest_of, least_of}
use Rattle.rational.proofs.AffineLemmas.{near_start, near_stop, above_start, above_stop, value_same}
use Rattle.rational.proofs.PlaceLemmas.{between}
use Rattle.pl_signal.specs.declared.joining.Side.{Side}
use Rattle.pl_signal.specs.declared.joining.Side.TheVariants.{Least, Greatest}
use Rattle.pl_signal.specs.Joining.{IsChosen, IsFavour}
use Rattle.pieces.specs.Best.{IsNoWorse, IsWorse, IsBetter, IsBestOver, none_of, GetsNoWorse, GetsNoBetter}
use Rattle.pieces.proofs.Ends.{after_le, upto_le, after_of_lt, upto_of_lt, only_time}

-- a value is no worse than itself
pub nw_refl : (side : Side) (v : Extended) → IsNoWorse side v v
nw_refl Greatest v = record { order = le_reflᵉ v }
nw_refl Least v = record { order = le_reflᵉ v }

-- what is no worse than one that is no worse than a third is no worse than that
pub nw_trans : {side : Side} {u v w : Extended} → IsNoWorse side u v → IsNoWorse side v w → IsNoWorse side u w
nw_trans {side = Greatest} {u = u} {v = v} {w = w} h k = record { order = le_transᵉ w v u k.order h.order }
nw_trans {side = Least} {u = u} {v = v} {w = w} h k = record { order = le_transᵉ u v w h.order k.order }

-- equal values are no worse than each other
pub nw_same : {v w : Extended} (side : Side) → v ≈ᵉ w → IsNoWorse side v w
nw_same Greatest e = record { order = e.at_least }
nw_same Least e = record { order = e.at_most }

-- and the other way round
pub nw_back : {v w : Extended} (side : Side) → v ≈ᵉ w → IsNoWorse side w v
nw_back Greatest e = record { order = e.at_most }
nw_back Least e = record { order = e.at_least }

-- values of which none is worse are one
pub same_of_nw : {side : Side} {v w : Extended} → IsNoWorse side v w → IsNoWorse side w v → v ≈ᵉ w
same_of_nw {side = Greatest} h k = record { at_most = k.order; at_least = h.order }
same_of_nw {side = Least} h k = record { at_most = h.order; at_least = k.order }

-- a value is no worse than another, or worse
pub nw_or_worse : (side : Side) (v w : Extended) → IsNoWorse side v w ⊎ IsWorse side v w
nw_or_worse Greatest v w = elim (le_totalᵉ w v) [ inl h ↦ inl (record { order = h }) | inr h ↦ inr (record { order = h }) ]
nw_or_worse Least v w = elim (le_totalᵉ v w) [ inl h ↦ inl (record { order = h }) | inr h ↦ inr (record { order = h }) ]

-- not both
pub worse_clash : {X : Type 0} {side : Side} {v w : Extended} → IsWorse side v w → IsNoWorse side v w → X
worse_clash {X = X} {side = Greatest} {v = v} {w = w} h k = clashᵉ v w h.order k.order
worse_clash {X = X} {side = Least} {v = v} {w = w} h k = clashᵉ w v h.order k.order

-- what is worse than a value is worse than what is no worse than that
pub worse_on : {side : Side} {v w x : Extended} → IsWorse side v w → IsNoWorse side x w → IsWorse side v x
worse_on {side = Greatest} {v = v} {w = w} {x = x} h k = record { order = lt_of_lt_of_leᵉ v w x h.order k.order }
worse_on {side = Least} {v = v} {w = w} {x = x} h k = record { order = lt_of_le_of_ltᵉ x w v k.order h.order }

-- a value is no worse than one that is worse
pub nw_of_worse : {side : Side} {v w : Extended} → IsWorse side v w → IsNoWorse side w v
nw_of_worse {side = Greatest} {v = v} {w = w} h = record { order = le_of_ltᵉ v w h.order }
nw_of_worse {side = Least} {v = v} {w = w} h = record { order = le_of_ltᵉ w v h.order }

-- what is chosen of two values is the better one
pub better_of_chosen : (side : Side) (x y r : Extended) → IsChosen side x y r → IsBetter side x y r
better_of_chosen Greatest x y r h = record {
  left = record { order = h.left };
  right = record { order = h.right };
  one_of = elim h.one_of [ inl k ↦ inl (record { order = k }) | inr k ↦ inr (record { order = k }) ];
}
better_of_chosen Least x y r h = record {
  left = record { order = h.left };
  right = record { order = h.right };
  one_of = elim h.one_of [ inl k ↦ inl (record { order = k }) | inr k ↦ inr (record { order = k }) ];
}

-- of two values one is the better one
pub better_some : (side : Side) (x y : Extended) → (r : Extended) × IsBetter side x y r
better_some Greatest x y = let c = greatest_of x y in (c.0, better_of_chosen Greatest x y c.0 c.1)
better_some Least x y = let c = least_of x y in (c.0, better_of_chosen Least x y c.0 c.1)

-- the first, where it is no worse
pub better_is_first : (side : Side) (x y : Extended) → IsNoWorse side x y → IsBetter side x y x
better_is_first side x y h = record { left = nw_refl side x; right = h; one_of = inl (nw_refl side x) }

-- the second, where that is
pub better_is_second : (side : Side) (x y : Extended) → IsNoWorse side y x → IsBetter side x y y
better_is_second side x y h = record { left = h; right = nw_refl side y; one_of = inr (nw_refl side y) }

-- by other ways to write the values
pub better_alike : {side : Side} {x y r x' y' r' : Extended} → x ≈ᵉ x' → y ≈ᵉ y' → r ≈ᵉ r' → IsBetter side x y r → IsBetter side x' y' r'
better_alike {side} e f s h = record {
  left = nw_trans (nw_back side s) (nw_trans h.left (nw_same side e));
  right = nw_trans (nw_back side s) (nw_trans h.right (nw_same side f));
  one_of = elim h.one_of [
    | inl k ↦ inl (nw_trans (nw_back side e) (nw_trans k (nw_same side s)))
    | inr k ↦ inr (nw_trans (nw_back side f) (nw_trans k (nw_same side s)))
  ];
}

-- by the answers of a comparison
pub favour_less : (side : Side) (x y : Extended) → IsFavour side Less x y → IsWorse side y x
favour_less Greatest x y h = record { order = h }
favour_less Least x y h = record { order = h }

-- and by the others
pub favour_greater : (side : Side) (x y : Extended) → IsFavour side Greater x y → IsWorse side x y
favour_greater Greatest x y h = record { order = h }
favour_greater Least x y h = record { order = h }

favour_equal : (side : Side) (x y : Extended) → IsFavour side Equal x y → IsNoWorse side x y × IsNoWorse side y x
favour_equal Greatest x y h = (record { order = h.at_most }, record { order = h.at_least })
favour_equal Least x y h = (record { order = h.at_most }, record { order = h.at_least })

-- the first is no worse, where it is not to be taken last
pub favour_first : (side : Side) (o : Ordering) (x y : Extended) → IsFavour side o x y → ¬ (o ≡ Greater) → IsNoWorse side x y
favour_first side Less x y h n = nw_of_worse (favour_less side x y h)
favour_first side Equal x y h n = (favour_equal side x y h).0
favour_first side Greater x y h n = absurd (n refl)

-- and the second, where the first is not to be taken
pub favour_second : (side : Side) (o : Ordering) (x y : Extended) → IsFavour side o x y → ¬ (o ≡ Less) → IsNoWorse side y x
favour_second side Less x y h n = absurd (n refl)
favour_second side Equal x y h n = (favour_equal side x y h).1
favour_second side Greater x y h n = nw_of_worse (favour_greater side x y h)

-- r is the best of the values of which V tells, of which none is worse than `none`
pub record IsBest (side : Side) (none : Extended) (V : Extended → Type 0) (r : Extended) : Type 0 where
  -- no value is worse than that of none
  pub floor : IsNoWorse side r none
  -- none is better
  pub bound : (v : Extended) → V v → IsNoWorse side r v
  -- and what is worse is worse than one of them
  pub reached : (w : Extended) → IsNoWorse side w none → IsWorse side w r → (v : Extended) × V v × IsWorse side w v

-- the best of no values
pub best_none : (side : Side) (none : Extended) (V : Extended → Type 0) → ((v : Extended) → ¬ V v) → IsBest side none V none
best_none side none V h = record { floor = nw_refl side none; bound = λ v m. absurd (h v m); reached = λ w k l. worse_clash l k }

-- the same of values that are alike
pub best_alike : {side : Side} {none r : Extended} {V W : Extended → Type 0} → ((v : Extended) → V v → W v) → ((v : Extended) → W v → V v)
    → IsBest side none V r → IsBest side none W r
best_alike f g h = record {
  floor = h.floor;
  bound = λ v m. h.bound v (g v m);
  reached = λ w k l. let x = h.reached w k l in (x.0, f x.0 x.1, x.2);
}

-- by another pair
pub best_value : {side : Side} {none r s : Extended} {V : Extended → Type 0} → r ≈ᵉ s → IsBest side none V r → IsBest side none V s
best_value {side} e h = record {
  floor = nw_trans (nw_back side e) h.floor;
  bound = λ v m. nw_trans (nw_back side e) (h.bound v m);
  reached = λ w k l. h.reached w k (worse_on l (nw_same side e));
}

-- the best of two sets of values together is the better of both
pub best_union : {side : Side} {none a b r : Extended} {V W X : Extended → Type 0} → ((v : Extended) → X v → V v ⊎ W v)
    → ((v : Extended) → V v → X v) → ((v : Extended) → W v → X v) → IsBest side none V a → IsBest side none W b → IsBetter side a b r → IsBest side none X r
best_union {side} {none} {a} {b} {r} {V} {W} {X} split f g h k c = record {
  floor = nw_trans c.left h.floor;
  bound = λ v m. by_part v (split v m);
  reached = λ w l m. by_one w l m c.one_of;
}
  where
    by_part : (v : Extended) → V v ⊎ W v → IsNoWorse side r v
    by_part v (inl m) = nw_trans c.left (h.bound v m)
    by_part v (inr m) = nw_trans c.right (k.bound v m)

    by_one : (w : Extended) → IsNoWorse side w none → IsWorse side w r → IsNoWorse side a r ⊎ IsNoWorse side b r → (v : Extended) × X v × IsWorse side w v
    by_one w l m (inl o) = let x = h.reached w l (worse_on m o) in (x.0, f x.0 x.1, x.2)
    by_one w l m (inr o) = let x = k.reached w l (worse_on m o) in (x.0, g x.0 x.1, x.2)

-- of fewer values the best is no better
pub best_of_fewer : {side : Side} {none r s : Extended} {V W : Extended → Type 0} → ((v : Extended) → W v → V v) → IsBest side none V r
    → IsBest side none W s → IsNoWorse side r s
best_of_fewer {side} {none} {r} {s} f h k = elim (nw_or_worse side r s) [
  | inl m ↦ m
  | inr m ↦ (let x = k.reached r h.floor m in worse_clash x.2 (h.bound x.0 (f x.0 x.1)))
]

-- there is one best
pub best_once : {side : Side} {none r s : Extended} {V : Extended → Type 0} → IsBest side none V r → IsBest side none V s → r ≈ᵉ s
best_once h k = same_of_nw (best_of_fewer (λ v m. m) h k) (best_of_fewer (λ v m. m) k h)

-- near an end of an open stretch a function is no worse than anything worse than its value there
pub near_end : (side : Side) (f : Affine) (l r : Rational) (w : Extended) → l <ʳ r → IsWorse side w (value_at f l) ⊎ IsWorse side w (value_at f r)
    → (t : Rational) × (l <ʳ t) × (t <ʳ r) × IsWorse side w (value_at f t)
near_end Greatest f l r w o (inl h) = let m = near_start f l r w o h.order in (m.0, m.1, m.2, record { order = m.3 })
near_end Greatest f l r w o (inr h) = let m = near_stop f l r w o h.order in (m.0, m.1, m.2, record { order = m.3 })
near_end Least f l r w o (inl h) = let m = above_start f l r w o h.order in (m.0, m.1, m.2, record { order = m.3 })
near_end Least f l r w o (inr h) = let m = above_stop f l r w o h.order in (m.0, m.1, m.2, record { order = m.3 })

-- between two places a function is no worse than anything worse than its value at one of them
pub near_place : (side : Side) (f : Affine) (b e : Place) (w : Extended) → Before b e → IsWorse side w (value_at f b.at) ⊎ IsWorse side w (value_at f e.at)
    → (t : Rational) × After b t × Upto e t × IsWorse side w (value_at f t)
near_place side f b e w (inl l) h = let m = near_end side f b.at e.at w l h in (m.0, after_of_lt b m.0 m.1, upto_of_lt e m.0 m.2, m.3)
near_place side f b e w (inr s) h =
    let m = between b e (inr s) in
    let at_end : m.0 ≈ e.at = only_time b e m.0 s.0 m.1 m.2 in (
      m.0,
      m.1,
      m.2,
      elim h [
        | inl k ↦ worse_on k (nw_back side (value_same f (same_trans s.0 (same_sym at_end))))
        | inr k ↦ worse_on k (nw_same side (value_same f at_end))
      ],
    )

-- the values of the function over the window
abbrev pub Values : Window → Function → Extended → Type 0
Values W F v = (u : Rational) × W u × F u v

-- over what lies between two places the best of a function that gets no worse is its value at the later one
pub best_at_end : (side : Side) (none : Extended) (W : Window) (F : Function) (f : Affine) (b e : Place) → Before b e
    → ((t : Rational) → IsNoWorse side (value_at f t) none) → GetsNoWorse side f
    → ((u : Rational) → After b u → Upto e u → W u × F u (value_at f u)) → ((u : Rational) (v : Extended) → W u → F u v → Upto e u × Passes f u v)
    → IsBest side none (Values W F) (value_at f e.at)
best_at_end side none W F f b e order least rises inner outer = record {
  floor = least e.at;
  bound = λ v (u, m, h). let o = outer u v m h in nw_trans (rises u e.at (upto_le e u o.0)) (nw_back side o.1);
  reached = λ w h k. let m = near_place side f b e w order (inr k) in
      let i = inner m.0 m.1 m.2 in (value_at f m.0, (m.0, i.0, i.1), m.3);
}

-- and that of one that gets no better its value at the earlier one
pub best_at_begin : (side : Side) (none : Extended) (W : Window) (F : Function) (f : Affine) (b e : Place) → Before b e
    → ((t : Rational) → IsNoWorse side (value_at f t) none) → GetsNoBetter side f
    → ((u : Rational) → After b u → Upto e u → W u × F u (value_at f u)) → ((u : Rational) (v : Extended) → W u → F u v → After b u × Passes f u v)
    → IsBest side none (Values W F) (value_at f b.at)
best_at_begin side none W F f b e order least falls inner outer = record {
  floor = least b.at;
  bound = λ v (u, m, h). let o = outer u v m h in nw_trans (falls b.at u (after_le b u o.0)) (nw_back side o.1);
  reached = λ w h k. let m = near_place side f b e w order (inl k) in
      let i = inner m.0 m.1 m.2 in (value_at f m.0, (m.0, i.0, i.1), m.3);
}

-- the best is the Sup or the Inf
pub best_over : (side : Side) (lowest highest : Extended) (W : Window) (F : Function) (r : Extended)
    → IsBest side (none_of side lowest highest) (Values W F) r → IsBestOver side lowest highest W F r
best_over Greatest lowest highest W F r h = record {
  at_least = h.floor.order;
  bound = λ v m. (h.bound v m).order;
  reached = λ w k l. let x = h.reached w (record { order = k }) (record { order = l }) in (x.0, x.1, x.2.order);
}
best_over Least lowest highest W F r h = record {
  at_most = h.floor.order;
  bound = λ v m. (h.bound v m).order;
  reached = λ w l k. let x = h.reached w (record { order = k }) (record { order = l }) in (x.0, x.1, x.2.order);
}

-- and the Sup or the Inf is the best
pub over_best : (side : Side) (lowest highest : Extended) (W : Window) (F : Function) (r : Extended)
    → IsBestOver side lowest highest W F r → IsBest side (none_of side lowest highest) (Values W F) r
over_best Greatest lowest highest W F r h = record {
  floor = record { order = h.at_least };
  bound = λ v m. record { order = h.bound v m };
  reached = λ w k l. let x = h.reached w k.order l.order in (x.0, x.1, record { order = x.2 });
}
over_best Least lowest highest W F r h = record {
  floor = record { order = h.at_most };
  bound = λ v m. record { order = h.bound v m };
  reached = λ w k l. let x = h.reached w l.order k.order in (x.0, x.1, record { order = x.2 });
}
