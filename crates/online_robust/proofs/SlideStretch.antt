-- What was told piece by piece, and a point behind it, as a signal: its lines are those that are put onto an edge.
use Rattle.std.proofs.Common.{◌≡◌, ◌⊎◌, inl, inr, ℕ, suc, ◌+◌, ◌<◌, ◌≤◌, arith, Bool, true, false, refl, sym, ◌∙◌, subst, ap, Some}
use Rattle.std.proofs.Common.{List, [], ◌∷◌, ◌++◌, drop, length}
use Rattle.std.specs.Prelude.{cond, slice_get}
use Rattle.std.proofs.lemmas.Bool.{false≢true}
use Rattle.rational.specs.Time.{Rational, less, ◌≈◌, ◌≤ʳ◌, ◌<ʳ◌}
use Rattle.rational.specs.Extended.{Extended, Passes, value_at, ◌≈ᵉ◌}
use Rattle.rational.specs.Places.{Place, Before, Same}
use Rattle.rational.proofs.AffineLemmas.{value_same}
use Rattle.std.proofs.lemmas.List.{drop_all}
use Rattle.rational.proofs.Lists.{drop_on}
use Rattle.rational.proofs.Order.{ge_of_same, le_or_lt, lt_of_le_of_lt, lt_of_lt_of_le, same_refl, same_sym, same_trans}
use Rattle.rational.proofs.Sames.{symᵉ, transᵉ}
use Rattle.rational.proofs.TimeLemmas.{less_in, less_no, less_out}
use Rattle.frac128.specs.Value.{value}
use Rattle.frac128.specs.Cuts.{is_after}
use Rattle.frac128.specs.declared.frac.Frac.{Frac}
use Rattle.value_laws.specs.Kinds.{margin_shape}
use Rattle.value_laws.specs.Margins.{margin_function}
use Rattle.value_laws.specs.declared.margin.Margin.{Margin}
use Rattle.pl_signal.specs.declared.knot.Knot.{Knot}
use Rattle.pl_signal.specs.Knots as knots
use Rattle.pieces.specs.declared.piece.Piece.{Piece}
use Rattle.pieces.specs.Chains.{CanBeLeftOut, Chain, Each, HasShapeIn, IsNormal, IsPiece, Rise, end, stop, stop_from}
use Rattle.pieces.specs.Streaming.{before_time}
use Rattle.pieces.proofs.Ends.{after_of_lt, after_time_same, earlier_upto, here_after, here_upto, upto_of_lt, upto_time_same}
use Rattle.online_robust.specs.Putting.{lines_after, lines_of}
use Rattle.online_robust.specs.Slides.{IsStretchOf, WithPoint, chain_of}
use Rattle.online_robust.specs.ToldLines.{all_told, first_shape, lines_told, shape_at_end}
use Rattle.online_robust.specs.declared.line.MarginLine.TheVariants.{Point, Gap}

-- ---- the lines of what was told, piece by piece

module _ (ps : List (Piece Margin)) (i : ℕ) where
  -- what stands behind a place of the list
  pub behind_next : (q : Piece Margin) (point : Margin) → slice_get ps i ≡ Some q → first_shape (drop i ps) point ≡ q.shape
  behind_next q point e = ap (λ l. first_shape l point) (drop_on ps i q e)

  -- behind the last
  pub behind_last : (point : Margin) (count : ℕ) → count ≡ length ps → count ≤ i + 1 → first_shape (drop (i + 1) ps) point ≡ point
  behind_last point count is last = ap (λ l. first_shape l point) (drop_all (i + 1) ps (omega (arith, is, last)))

  module _ (p : Piece Margin) (at : Frac) (point : Margin) (e : slice_get ps i ≡ Some p) where
    is_there : drop i ps ≡ p ∷ drop (i + 1) ps
    is_there = let up : suc i ≡ i + 1 = omega arith in subst (λ n. drop i ps ≡ p ∷ drop n ps) up (drop_on ps i p e)

    -- a piece that goes on has a gap and a point
    pub some_gap : (v : Margin) → value at <ʳ value p.until.time → v ≡ shape_at_end p (drop (i + 1) ps) point
        → lines_told at (drop i ps) point
        ≡ (Gap at p.until.time p.shape ∷ Point p.until.time v ∷ []) ++ lines_told p.until.time (drop (i + 1) ps) point
    some_gap v lt is = ap (λ l. lines_told at l point) is_there
        ∙ ap (λ b. cond b (Gap at p.until.time p.shape ∷ Point p.until.time (shape_at_end p (drop (i + 1) ps) point)
        ∷ lines_told p.until.time (drop (i + 1) ps) point) (lines_told at (drop (i + 1) ps) point)) (less_in (value at) (value p.until.time) lt)
        ∙ ap (λ w. Gap at p.until.time p.shape ∷ Point p.until.time w ∷ lines_told p.until.time (drop (i + 1) ps) point) (sym is)

    -- one of one time has none
    pub no_gap : (value at <ʳ value p.until.time → ⊥) → lines_told at (drop i ps) point ≡ lines_told at (drop (i + 1) ps) point
    no_gap flat = ap (λ l. lines_told at l point) is_there
        ∙ ap (λ b. cond b (Gap at p.until.time p.shape ∷ Point p.until.time (shape_at_end p (drop (i + 1) ps) point)
        ∷ lines_told p.until.time (drop (i + 1) ps) point) (lines_told at (drop (i + 1) ps) point)) (by_order (le_or_lt (value p.until.time) (value at)))
      where
        by_order : (value p.until.time ≤ʳ value at) ⊎ (value at <ʳ value p.until.time) → less (value at) (value p.until.time) ≡ false
        by_order (inl le) = less_no (value at) (value p.until.time) le
        by_order (inr lt) = absurd (flat lt)

-- ---- they are those of a signal

-- a piece that ends no later than it begins is of one time, from just before it to just after it
instant : (c d : Place) (t : Rational) → c.at ≈ t → Before c d → less t d.at ≡ false → (c.at ≈ d.at) × (c.after ≡ false) × (d.after ≡ true)
instant c d t here (inl lt) flat = absurd (false≢true (sym flat ∙ less_in t d.at (lt_of_le_of_lt (ge_of_same here) lt)))
instant c d t here (inr h) flat = h

module _ (point : Margin) where
  -- the knots of the pieces behind a time, at which the margin is that of a shape
  abbrev knots_told : Frac → Margin → List (Piece Margin) → List (Knot Margin)
  knots_told at v [] = record { time = at; point = v; after = v } ∷ []
  knots_told at v (p ∷ ps) =
      cond (less (value at) (value p.until.time))
      (record { time = at; point = v; after = p.shape } ∷ knots_told p.until.time (shape_at_end p ps point) ps)
      (knots_told at v ps)

  -- something holds of them where it does with the knot of a piece that goes on, and without that of one of one time
  by_piece : (Q : List (Knot Margin) → Type 0) (at : Frac) (v : Margin) (p : Piece Margin) (ps : List (Piece Margin))
      → (value at <ʳ value p.until.time → Q (record { time = at; point = v; after = p.shape } ∷ knots_told p.until.time (shape_at_end p ps point) ps))
      → (less (value at) (value p.until.time) ≡ false → Q (knots_told at v ps)) → Q (knots_told at v (p ∷ ps))
  by_piece Q at v p ps on off = by_test (less (value at) (value p.until.time)) refl
    where
      by_test : (b : Bool) → less (value at) (value p.until.time) ≡ b → Q (cond b
          (record { time = at; point = v; after = p.shape } ∷ knots_told p.until.time (shape_at_end p ps point) ps) (knots_told at v ps))
      by_test true e = on (less_out (value at) (value p.until.time) e)
      by_test false e = off e

  -- they begin with one at the time
  record Heads (at : Frac) (v : Margin) (ks : List (Knot Margin)) : Type 0 where
    after : Margin
    rest : List (Knot Margin)
    is : ks ≡ record { time = at; point = v; after = after } ∷ rest

  heads : (at : Frac) (v : Margin) (ps : List (Piece Margin)) → Heads at v (knots_told at v ps)
  heads at v [] = record { after = v; rest = []; is = refl }
  heads at v (p ∷ ps) = by_piece (Heads at v) at v p ps
      (λ lt. record { after = p.shape; rest = knots_told p.until.time (shape_at_end p ps point) ps; is = refl }) (λ flat. heads at v ps)

  -- what holds of a list that begins so holds of them
  with_head : (Q : List (Knot Margin) → Type 0) (at : Frac) (v : Margin) (ps : List (Piece Margin))
      → ((after : Margin) (rest : List (Knot Margin)) → Q (record { time = at; point = v; after = after } ∷ rest)) → Q (knots_told at v ps)
  with_head Q at v ps all = let h = heads at v ps in subst Q (sym h.is) (all h.after h.rest)

  -- ---- their lines

  later_are : (at : Frac) (v : Margin) (ps : List (Piece Margin)) → lines_of false (knots_told at v ps) ≡ lines_told at ps point
  later_are at v [] = refl
  later_are at v (p ∷ ps) =
      by_test (less (value at) (value p.until.time)) (later_are p.until.time (shape_at_end p ps point) ps) (later_are at v ps)
    where
      by_test : (b : Bool) → lines_of false (knots_told p.until.time (shape_at_end p ps point) ps) ≡ lines_told p.until.time ps point
          → lines_of false (knots_told at v ps) ≡ lines_told at ps point
          → lines_of false
          (cond b (record { time = at; point = v; after = p.shape } ∷ knots_told p.until.time (shape_at_end p ps point) ps) (knots_told at v ps))
          ≡ cond b (Gap at p.until.time p.shape ∷ Point p.until.time (shape_at_end p ps point) ∷ lines_told p.until.time ps point) (lines_told at ps point)
      by_test true on off =
          with_head (λ ks. lines_after (record { time = at; point = v; after = p.shape }) ks
          ≡ Gap at p.until.time p.shape ∷ Point p.until.time (shape_at_end p ps point) ∷ lines_of false ks)
          p.until.time (shape_at_end p ps point) ps (λ a r. refl)
          ∙ ap (λ l. Gap at p.until.time p.shape ∷ Point p.until.time (shape_at_end p ps point) ∷ l) on
      by_test false on off = off

  all_are : (first : Bool) (at : Frac) (ps : List (Piece Margin)) → lines_of first (knots_told at (first_shape ps point) ps) ≡ all_told first at ps point
  all_are true at ps =
      with_head (λ ks. lines_of true ks ≡ Point at (first_shape ps point) ∷ lines_of false ks) at (first_shape ps point) ps (λ a r. refl)
      ∙ ap (λ l. Point at (first_shape ps point) ∷ l) (later_are at (first_shape ps point) ps)
  all_are false at ps = later_are at (first_shape ps point) ps

  -- ---- they are a signal

  -- what makes the next knot needed, once the shape behind it is known
  needed_before : (k n : Knot Margin) (at : Frac) (v : Margin) (ps : List (Piece Margin)) → ¬ knots.CanBeLeftOut margin_shape k n
      → knots.NextIsNeeded margin_shape k (n ∷ knots_told at v ps)
  needed_before k n at v ps kept = with_head (λ ks. knots.NextIsNeeded margin_shape k (n ∷ ks)) at v ps (λ a r. kept)

  module _ (at : Frac) (v : Margin) (p q : Piece Margin) (qs : List (Piece Margin)) (is : IsPiece margin_shape p (q ∷ qs))
      (rise : Rise (end p) (q ∷ qs)) where
    abbrev k : Knot Margin
    k = record { time = at; point = v; after = p.shape }

    abbrev w : Margin
    w = shape_at_end p (q ∷ qs) point

    -- where a piece of one time comes, and another behind it
    needed_behind : (r : Piece Margin) → Before (end q) (end r) → ((end p).at ≈ (end q).at) × ((end p).after ≡ false) × ((end q).after ≡ true)
        → ¬ CanBeLeftOut margin_shape p q r.shape → (rs : List (Piece Margin)) → knots.NextIsNeeded margin_shape k (knots_told p.until.time w (r ∷ rs))
    needed_behind r later one kept rs = by_piece (knots.NextIsNeeded margin_shape k) p.until.time w r rs
        (λ lt. needed_before k (record { time = p.until.time; point = w; after = r.shape }) r.until.time (shape_at_end r rs point) rs
        (λ o. kept (record {
          instant = one.0;
          around = o.on;
          here = transᵉ (symᵉ (value_same (margin_function p.shape) one.0)) (transᵉ
              (subst (λ x. value_at (margin_function p.shape) (value p.until.time) ≈ᵉ value_at (margin_function x) (value p.until.time))
              (ap (λ b. cond b p.shape q.shape) one.1) o.here)
              (value_same (margin_function q.shape) one.0));
        })))
        (λ flat. absurd (false≢true (sym (instant (end q) (end r) (value p.until.time) (same_sym one.0) later flat).1 ∙ one.2)))

    needed_later : (rs : List (Piece Margin)) → IsPiece margin_shape p (q ∷ rs) → Rise (end q) rs → less (value p.until.time) (value q.until.time) ≡ false
        → knots.NextIsNeeded margin_shape k (knots_told p.until.time w rs)
    needed_later [] is' rise' flat = tt
    needed_later (r ∷ rs) is' rise' flat =
        needed_behind r rise'.0 (instant (end p) (end q) (value p.until.time) (same_refl (value p.until.time)) rise.0 flat) is'.needed rs

    -- the knot where a piece ends is needed: another function comes, or a piece of one time that is
    needed : knots.NextIsNeeded margin_shape k (knots_told p.until.time w (q ∷ qs))
    needed = by_piece (knots.NextIsNeeded margin_shape k) p.until.time w q qs
        (λ lt. needed_before k (record { time = p.until.time; point = w; after = q.shape }) q.until.time (shape_at_end q qs point) qs (λ o. is.differs o.on))
        (λ flat. needed_later qs is rise.1 flat)

  next_needed : (at : Frac) (v : Margin) (p : Piece Margin) (ps : List (Piece Margin)) → IsPiece margin_shape p ps → Rise (end p) ps
      → knots.NextIsNeeded margin_shape (record { time = at; point = v; after = p.shape }) (knots_told p.until.time (shape_at_end p ps point) ps)
  next_needed at v p [] is rise = tt
  next_needed at v p (q ∷ qs) is rise = needed at v p q qs is rise

  -- a piece of one time ends where what is behind it begins
  same_end : (c : Place) (at : Frac) (p : Piece Margin) → Before c (end p) → c.at ≈ value at → less (value at) (value p.until.time) ≡ false
      → (end p).at ≈ value at
  same_end c at p before here flat = same_trans (same_sym (instant c (end p) (value at) here before flat).0) here

  each_knot : (c : Place) (at : Frac) (v : Margin) (ps : List (Piece Margin)) → Rise c ps → Each (IsPiece margin_shape) ps → c.at ≈ value at
      → knots.Each (knots.IsKnot margin_shape) (knots_told at v ps)
  each_knot c at v [] rise each here = (record { rising = tt; needed = tt; ends = refl }, tt)
  each_knot c at v (p ∷ ps) rise each here =
      let k : Knot Margin = record { time = at; point = v; after = p.shape } in
      let w = shape_at_end p ps point in
      by_piece (knots.Each (knots.IsKnot margin_shape)) at v p ps
      (λ lt. (
        record {
          rising = with_head (knots.ComesBefore k) p.until.time w ps (λ a r. lt);
          needed = next_needed at v p ps each.0 rise.1;
          ends = with_head (knots.EndsAlike k) p.until.time w ps (λ a r. tt);
        },
        each_knot (end p) p.until.time w ps rise.1 each.1 (same_refl (value p.until.time)),
      ))
      (λ flat. each_knot (end p) at v ps rise.1 each.1 (same_end c at p rise.0 here flat))

  -- ---- what they are worth

  module _ (to : Rational) where
    -- at a place just before a time the first shape counts
    first_is : (c : Place) (ps : List (Piece Margin)) (t : Rational) (x : Extended) → c.after ≡ false → Rise c ps → Same (stop_from c ps) (before_time to)
        → t ≈ c.at → Passes (margin_function (first_shape ps point)) t x → WithPoint (chain_of c ps) to point t x
    first_is c [] t x before rise ends is passes = inr (same_trans is ends.0, passes)
    first_is c (p ∷ ps) t x before rise ends is passes = inl (inl (
      after_time_same c c.at t (same_sym is) (here_after c before),
      upto_time_same (end p) c.at t (same_sym is) (earlier_upto c (end p) rise.0),
      passes,
    ))

    -- behind a piece
    more : (c : Place) (p : Piece Margin) (ps : List (Piece Margin)) (t : Rational) (x : Extended) → WithPoint (chain_of (end p) ps) to point t x
        → WithPoint (chain_of c (p ∷ ps)) to point t x
    more c p ps t x (inl h) = inl (inr h)
    more c p ps t x (inr h) = inr h

    -- what a list of knots is worth from a time on: at the time the shape's value, and else what was told
    abbrev AreWorth : Place → Frac → Margin → List (Piece Margin) → List (Knot Margin) → Type 0
    AreWorth c at v ps ks = (t : Rational) (x : Extended) → knots.IsWorth margin_shape ks t x
        → ((t ≈ value at) × Passes (margin_function v) t x) ⊎ WithPoint (chain_of c ps) to point t x

    module _ (c : Place) (at : Frac) (v : Margin) (p : Piece Margin) (ps : List (Piece Margin)) (rise : Rise c (p ∷ ps))
        (ends : Same (stop_from c (p ∷ ps)) (before_time to)) (here : c.at ≈ value at) where
      abbrev own : Knot Margin
      own = record { time = at; point = v; after = p.shape }

      -- at the end of the piece
      at_end : value at <ʳ value p.until.time → (b : Bool) → is_after p.until.side ≡ b → (t : Rational) (x : Extended) → t ≈ value p.until.time
          → Passes (margin_function (cond b p.shape (first_shape ps point))) t x → WithPoint (chain_of c (p ∷ ps)) to point t x
      at_end lt true e t x is passes = inl (inl (
        after_of_lt c t (lt_of_lt_of_le (lt_of_le_of_lt (ge_of_same (same_sym here)) lt) (ge_of_same is)),
        upto_time_same (end p) (value p.until.time) t (same_sym is) (here_upto (end p) e),
        passes,
      ))
      at_end lt false e t x is passes = more c p ps t x (first_is (end p) ps t x e rise.1 ends is passes)

      -- a piece that goes on
      worth_on : (ks : List (Knot Margin)) → Heads p.until.time (shape_at_end p ps point) ks → value at <ʳ value p.until.time
          → AreWorth (end p) p.until.time (shape_at_end p ps point) ps ks → AreWorth c at v (p ∷ ps) (own ∷ ks)
      worth_on ks h lt rest t x (inl i) = inl (i.when, i.worth)
      worth_on ks h lt rest t x (inr (inl i)) =
          let g = subst (λ l. knots.IsInGap margin_shape own l t x) h.is i in
          inr (inl (inl (after_of_lt c t (lt_of_le_of_lt (ge_of_same (same_sym here)) g.after), upto_of_lt (end p) t g.before, g.worth)))
      worth_on ks h lt rest t x (inr (inr i)) = by_rest (rest t x i)
        where
          by_rest : ((t ≈ value p.until.time) × Passes (margin_function (shape_at_end p ps point)) t x) ⊎ WithPoint (chain_of (end p) ps) to point t x
              → ((t ≈ value at) × Passes (margin_function v) t x) ⊎ WithPoint (chain_of c (p ∷ ps)) to point t x
          by_rest (inl r) = inr (at_end lt (is_after p.until.side) refl t x r.0 r.1)
          by_rest (inr r) = inr (more c p ps t x r)

      -- one of one time
      worth_off : (ks : List (Knot Margin)) → AreWorth (end p) at v ps ks → AreWorth c at v (p ∷ ps) ks
      worth_off ks rest t x i = by_rest (rest t x i)
        where
          by_rest : ((t ≈ value at) × Passes (margin_function v) t x) ⊎ WithPoint (chain_of (end p) ps) to point t x
              → ((t ≈ value at) × Passes (margin_function v) t x) ⊎ WithPoint (chain_of c (p ∷ ps)) to point t x
          by_rest (inl r) = inl r
          by_rest (inr r) = inr (more c p ps t x r)

    worth : (c : Place) (at : Frac) (v : Margin) (ps : List (Piece Margin)) → Rise c ps → Same (stop_from c ps) (before_time to) → c.at ≈ value at
        → AreWorth c at v ps (knots_told at v ps)
    worth c at v [] rise ends here t x (inl h) = inl (h.when, h.worth)
    worth c at v [] rise ends here t x (inr (inl h)) = absurd h
    worth c at v [] rise ends here t x (inr (inr h)) = absurd h
    worth c at v (p ∷ ps) rise ends here t x i =
        let w = shape_at_end p ps point in
        by_piece (AreWorth c at v (p ∷ ps)) at v p ps
        (λ lt. worth_on c at v p ps rise ends here (knots_told p.until.time w ps) (heads p.until.time w ps) lt
        (worth (end p) p.until.time w ps rise.1 ends (same_refl (value p.until.time))))
        (λ flat. worth_off c at v p ps rise ends here (knots_told at v ps) (worth (end p) at v ps rise.1 ends (same_end c at p rise.0 here flat))) t x i

  -- ---- where they begin and end, and their shapes

  ends_at : (c : Place) (at : Frac) (v : Margin) (ps : List (Piece Margin)) → Rise c ps → c.at ≈ value at
      → knots.stop (knots_told at v ps) ≈ (stop_from c ps).at
  ends_at c at v [] rise here = same_sym here
  ends_at c at v (p ∷ ps) rise here =
      let w = shape_at_end p ps point in
      by_piece (λ ks. knots.stop ks ≈ (stop_from (end p) ps).at) at v p ps
      (λ lt. subst (λ t. t ≈ (stop_from (end p) ps).at)
      (with_head (λ ks. knots.stop ks ≡ knots.stop (record { time = at; point = v; after = p.shape } ∷ ks)) p.until.time w ps (λ a r. refl))
      (ends_at (end p) p.until.time w ps rise.1 (same_refl (value p.until.time))))
      (λ flat. ends_at (end p) at v ps rise.1 (same_end c at p rise.0 here flat))

  -- the first shape is that of a piece, or the point's
  first_has : (ps : List (Piece Margin)) (r : Margin) → r ≡ first_shape ps point → HasShapeIn ps r ⊎ (r ≡ point)
  first_has [] r e = inr e
  first_has (p ∷ ps) r e = inl (inl e)

  -- their shapes are that of the time, those of the pieces, and the point's
  abbrev AreOf : Margin → List (Piece Margin) → List (Knot Margin) → Type 0
  AreOf v ps ks = (r : Margin) → knots.HasShape ks r → (r ≡ v) ⊎ HasShapeIn ps r ⊎ (r ≡ point)

  module _ (at : Frac) (v : Margin) (p : Piece Margin) (ps : List (Piece Margin)) where
    in_more : (r : Margin) → HasShapeIn ps r ⊎ (r ≡ point) → (r ≡ v) ⊎ HasShapeIn (p ∷ ps) r ⊎ (r ≡ point)
    in_more r (inl h) = inr (inl (inr h))
    in_more r (inr h) = inr (inr h)

    end_has : (r : Margin) (b : Bool) → r ≡ cond b p.shape (first_shape ps point) → (r ≡ v) ⊎ HasShapeIn (p ∷ ps) r ⊎ (r ≡ point)
    end_has r true e = inr (inl (inl e))
    end_has r false e = in_more r (first_has ps r e)

    shapes_on : (ks : List (Knot Margin)) → AreOf (shape_at_end p ps point) ps ks → AreOf v (p ∷ ps) (record { time = at; point = v; after = p.shape } ∷ ks)
    shapes_on ks rest r (inl e) = inl e
    shapes_on ks rest r (inr (inl e)) = inr (inl (inl e))
    shapes_on ks rest r (inr (inr h)) = by_rest (rest r h)
      where
        by_rest : (r ≡ shape_at_end p ps point) ⊎ HasShapeIn ps r ⊎ (r ≡ point) → (r ≡ v) ⊎ HasShapeIn (p ∷ ps) r ⊎ (r ≡ point)
        by_rest (inl e) = end_has r (is_after p.until.side) e
        by_rest (inr i) = in_more r i

    shapes_off : (ks : List (Knot Margin)) → AreOf v ps ks → AreOf v (p ∷ ps) ks
    shapes_off ks rest r h = by_rest (rest r h)
      where
        by_rest : (r ≡ v) ⊎ HasShapeIn ps r ⊎ (r ≡ point) → (r ≡ v) ⊎ HasShapeIn (p ∷ ps) r ⊎ (r ≡ point)
        by_rest (inl e) = inl e
        by_rest (inr i) = in_more r i

  shapes : (at : Frac) (v : Margin) (ps : List (Piece Margin)) → AreOf v ps (knots_told at v ps)
  shapes at v [] r (inl e) = inl e
  shapes at v [] r (inr (inl e)) = inl e
  shapes at v [] r (inr (inr h)) = absurd h
  shapes at v (p ∷ ps) r h =
      let w = shape_at_end p ps point in
      by_piece (AreOf v (p ∷ ps)) at v p ps (λ lt. shapes_on at v p ps (knots_told p.until.time w ps) (shapes p.until.time w ps))
      (λ flat. shapes_off at v p ps (knots_told at v ps) (shapes at v ps)) r h

-- the lines of what was told up to a time, from its beginning on, are those of a signal of it and the point
pub told_stretch : (told : Chain Margin) (to : Rational) (point : Margin) (at : Frac) (first : Bool) → IsNormal margin_shape told → told.from.after ≡ false
    → Same (stop told) (before_time to) → value at ≡ told.from.at
    → (ks : List (Knot Margin)) × (lines_of first ks ≡ all_told first at told.pieces point) × IsStretchOf told to point ks
told_stretch told to point at first normal begins ends is = (
  knots_told point at (first_shape told.pieces point) told.pieces,
  all_are point first at told.pieces,
  record {
    signal = record {
      some = subst (λ l. 0 < length l) (sym (heads point at (first_shape told.pieces point) told.pieces).is) (omega arith);
      each = each_knot point told.from at (first_shape told.pieces point) told.pieces normal.rising normal.each here;
    };
    worth = λ t x h. by_worth t x (worth point to told.from at (first_shape told.pieces point) told.pieces normal.rising ends here t x h);
    begins = subst (λ l. knots.start l ≈ told.from.at) (sym (heads point at (first_shape told.pieces point) told.pieces).is) (same_sym here);
    ends = same_trans (ends_at point told.from at (first_shape told.pieces point) told.pieces normal.rising here) ends.0;
    shapes = λ r h. by_shape r (shapes point at (first_shape told.pieces point) told.pieces r h);
  },
)
  where
    here : told.from.at ≈ value at
    here = subst (λ t. told.from.at ≈ t) (sym is) (same_refl told.from.at)

    by_worth : (t : Rational) (x : Extended) → ((t ≈ value at) × Passes (margin_function (first_shape told.pieces point)) t x) ⊎ WithPoint told to point t x
        → WithPoint told to point t x
    by_worth t x (inl h) = first_is point to told.from told.pieces t x begins normal.rising ends (same_trans h.0 (same_sym here)) h.1
    by_worth t x (inr h) = h

    by_shape : (r : Margin) → (r ≡ (first_shape told.pieces point)) ⊎ HasShapeIn told.pieces r ⊎ (r ≡ point) → HasShapeIn told.pieces r ⊎ (r ≡ point)
    by_shape r (inl e) = first_has point told.pieces r e
    by_shape r (inr h) = h
