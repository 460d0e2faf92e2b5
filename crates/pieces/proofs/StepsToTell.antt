-- A window that tells no more than it must: what the steps that it has still to tell give stays the best.
use Rattle.std.proofs.Common.{◌≡◌, ◌⊎◌, ◌<◌, ℕ, inl, inr, false, List, [], ◌∷◌, arith, drop, length, refl, sym, subst, ap, ◌∙◌}
use Rattle.std.specs.Prelude.{slice_index_or, ◌-ℤ◌, IsTrue}
use Rattle.std.proofs.lemmas.Bool.{false≢true}
use Rattle.rational.specs.Time.{Rational, ◌≤ʳ◌, add, whole}
use Rattle.rational.specs.Extended.{Extended, ◌≈ᵉ◌, value_at, Passes}
use Rattle.rational.specs.Places.{Place, After, Upto, Before, AtMost, Same}
use Rattle.rational.proofs.Order.{le_or_lt}
use Rattle.rational.proofs.PlaceLemmas.{after_at_most, after_later, after_same, at_most_of_not_before, before_of_at_most, le_of_at_most}
use Rattle.rational.proofs.PlaceLemmas.{le_of_before, not_both, upto_of_before, upto_same}
use Rattle.rational.proofs.Shift.{le_shift}
use Rattle.frac128.specs.Cuts.{place}
use Rattle.value_laws.specs.Members.{ShapeOf, ShapeLaws}
use Rattle.pl_signal.specs.declared.joining.Side.{Side}
use Rattle.pieces.specs.declared.piece.Piece.{Piece}
use Rattle.pieces.specs.declared.sliding.Sliding.{Sliding}
use Rattle.pieces.specs.declared.steps.Step.{Step}
use Rattle.pieces.specs.declared.reach.Way.{Way}
use Rattle.pieces.specs.Best.{FallsFrom, GetsNoBetter, GetsNoWorse, IsBetter, IsNoWorse, LevelFrom, none_of}
use Rattle.pieces.specs.Chains.{Chain, Rise, end, stop}
use Rattle.pieces.specs.Meeting.{Holds, IsUnder, Passes as ComesNext}
use Rattle.pieces.specs.Over.{Plays}
use Rattle.pieces.specs.Sliding.{HasTold, IsBestWith, last_end}
use Rattle.pieces.specs.Steps.{AreSteps, FallOff, Gives, HasCounted, HasSlid, HideTo, IsWorthWith, StepsGive, step_end, steps_end}
use Rattle.pieces.specs.Windows.{BestTo, HasEntered, IsLeft, IsReached, Keeps, Stands, high_place, low_place}
use Rattle.pieces.proofs.Bests.{nw_back, nw_same, nw_trans}
use Rattle.pieces.proofs.Ends.{after_le, at_most_itself, at_most_of_before, at_most_of_same, at_most_trans, upto_le}
use Rattle.pieces.proofs.PieceEnds.{reach_within, reaches_past}
use Rattle.pieces.proofs.WindowGoesOn.{best_on, best_with_none, keeps_told, stands_hidden, stands_slid, tells_more}
use Rattle.pieces.proofs.CountsInPlay.{fall_plays, low_comes}
use Rattle.pieces.proofs.InPlayCauses.{plays_slid, plays_told}
use Rattle.pieces.proofs.WindowEnds.{room_in}
use Rattle.pieces.proofs.SeenBest.{falling_before, rising_within}
use Rattle.pieces.proofs.StepLemmas.{all_above, give_after, give_upto, hide_upto, to_end}

module _ {P : Type 0} (shape : ShapeOf P) (side : Side) (b : Place) (old new : List (Step P)) (p : P) (e : Place) (is : AreSteps shape side b old)
    (falls : FallOff shape side b old) where
  -- what the steps give lies no later than where they end
  late : (t u : Rational) (w : Extended) → t ≤ʳ u → After (steps_end b old) t → ¬ StepsGive shape side b old u w
  late t u w order a k = not_both (steps_end b old) u (give_upto shape side b old u w is k) (after_later (steps_end b old) t u order a)

  -- steps that fall off do so where a constant counts with them
  pub counted_falls : LevelFrom b.at e.at (shape.function p) → HasCounted shape side b old p e new → FallOff shape side b new
  counted_falls level counted t u v w order g k = by_parts (counted.gives t v g) (counted.gives u w k)
    where
      begun : (t : Rational) (v : Extended) → StepsGive shape side b new t v → b.at ≤ʳ t
      begun t v g = after_le b t (give_after shape side b new t v counted.steps g)

      ended : (t : Rational) (v : Extended) → StepsGive shape side b new t v → t ≤ʳ e.at
      ended t v g = upto_le e t (upto_same (steps_end b new) e t counted.ends (give_upto shape side b new t v counted.steps g))

      one : IsNoWorse side (value_at (shape.function p) t) (value_at (shape.function p) u)
      one = nw_same side (level t u (begun t v g) (ended t v g) (begun u w k) (ended u w k))

      by_parts : ((x : Extended) × StepsGive shape side b old t x × IsBetter side x (value_at (shape.function p) t) v)
          ⊎ (After (steps_end b old) t × Upto e t × Passes (shape.function p) t v)
          → ((x : Extended) × StepsGive shape side b old u x × IsBetter side x (value_at (shape.function p) u) w)
          ⊎ (After (steps_end b old) u × Upto e u × Passes (shape.function p) u w) → IsNoWorse side v w
      by_parts (inl (x, h, c)) (inl (y, l, d)) = elim d.one_of [
        | inl m ↦ nw_trans c.left (nw_trans (falls t u x y order h l) m)
        | inr m ↦ nw_trans c.right (nw_trans one m)
      ]
      by_parts (inl (x, h, c)) (inr (a, m, s)) = nw_trans c.right (nw_trans one (nw_back side s))
      by_parts (inr (a, m, s)) (inl (y, l, d)) = absurd (late t u y order a l)
      by_parts (inr (a, m, s)) (inr (n, o, r)) = nw_trans (nw_same side s) (nw_trans one (nw_back side r))

  -- and where a shape that gets no better follows what hides it
  pub slid_falls : (v : Extended) (h : Place) → HideTo shape side old v h → FallsFrom side b.at e.at (shape.function p)
      → ((t : Rational) → After (steps_end b old) t → Upto e t → IsNoWorse side v (value_at (shape.function p) t))
      → HasSlid shape side b old p e new → FallOff shape side b new
  slid_falls hid h hides slope below slid t u v w order g k = by_parts (slid.gives t v g) (slid.gives u w k)
    where
      by_parts : StepsGive shape side b old t v ⊎ (After (steps_end b old) t × Upto e t × Passes (shape.function p) t v)
          → StepsGive shape side b old u w ⊎ (After (steps_end b old) u × Upto e u × Passes (shape.function p) u w) → IsNoWorse side v w
      by_parts (inl x) (inl y) = falls t u v w order x y
      by_parts (inl x) (inr (a, m, s)) = nw_trans (all_above shape side b old hid h is falls hides t v x) (nw_trans (below u a m) (nw_back side s))
      by_parts (inr (a, m, s)) (inl y) = absurd (late t u w order a y)
      by_parts (inr (a, m, s)) (inr (n, o, r)) = nw_trans (nw_same side s) (nw_trans
          (slope t u (after_le b t (give_after shape side b new t v slid.steps g)) order (upto_le e u o)) (nw_back side r))

-- a list whose first element is known is that and the rest
pub first_apart : {X : Type 0} (xs : List X) (n : ℕ) (x : X) → n ≡ length xs → 0 < n → x ≡ slice_index_or xs 0 x → xs ≡ x ∷ drop 1 xs
first_apart [] n x len some e = absurd (omega (arith, len, some))
first_apart (y ∷ ys) n x len some e = ap (λ z. z ∷ ys) (sym e)

-- no steps fall off
pub none_falls : {P : Type 0} (shape : ShapeOf P) (side : Side) (b : Place) (xs : List (Step P)) → xs ≡ [] → FallOff shape side b xs
none_falls shape side b xs nothing = subst (FallOff shape side b) (sym nothing) (λ t u v w order g k. absurd g)

-- a window begins no earlier than a place that it has left
pub left_le : (way : Way) (c : Place) (t : Rational) → ¬ Before (low_place way.over.low way.over.low_in t) c → c.at ≤ʳ add t (whole way.over.low)
left_le way c t n = elim (le_or_lt c.at (add t (whole way.over.low))) [ inl h ↦ h | inr h ↦ absurd (n (inl h)) ]

-- under the first of its steps a window tells what that gives alone, while its high end moves over a piece that gets better
module _ {P : Type 0} (shape : ShapeOf P) (laws : ShapeLaws shape) (chain : Chain P) (way : Way) (c : Place) (p : Piece P) (old new : Sliding P)
    (known : ComesNext shape chain way c p old) (trend : GetsNoWorse way.side (shape.function p.shape)) (next : Place) (reached : IsReached way (end p) next)
    (under : IsUnder shape way.side way.over old.steps.items (shape.function p.shape) next) (gap : P) (still : shape.moves gap ≡ false)
    (is : (t : Rational) → value_at (shape.function gap) t ≈ᵉ none_of way.side shape.lowest shape.highest)
    (told : HasTold shape way.side gap old new) (ends : Same (stop new.out) next) where
  upto_next : AtMost (stop new.out) next
  upto_next = at_most_of_same (stop new.out) next ends

  upto_end : AtMost (stop new.out) (stop chain)
  upto_end = at_most_trans (stop new.out) next (stop chain) upto_next
      (reach_within shape chain way (end p) next reached (reaches_past shape chain way (end p) known.ahead))

  rising : Rise chain.from chain.pieces
  rising = known.met.can.rising

  steps : AreSteps shape way.side (stop old.out) (under.first ∷ under.rest)
  steps = subst (AreSteps shape way.side (stop old.out)) under.are known.met.stands.steps

  -- what is told lies in the first step
  inside : (t : Rational) → Upto next t → Upto (step_end under.first) t
  inside t u = upto_of_before next (step_end under.first) t under.later u

  -- where that is no worse than the piece at the high end
  above : (t : Rational) (x : Extended) → After (stop old.out) t → Upto next t
      → StepsGive shape way.side (stop old.out) (under.first ∷ under.rest) t x
      → IsNoWorse way.side x (value_at (shape.function p.shape) (add t (whole way.over.high)))
  above t x a u (inl (b, m, g)) = nw_trans (nw_trans (first_gives g)
      (steps.0.falls t next.at (after_le (stop old.out) t a) (upto_le next t u)
      (le_of_before next (step_end under.first) under.later)))
      (nw_trans under.above (trend (add t (whole way.over.high)) (add next.at (whole way.over.high)) (le_shift way.over.high (upto_le next t u))))
    where
      first_gives : Gives shape way.side under.first t x → IsNoWorse way.side x (value_at (shape.function under.first.shape) t)
      first_gives g = nw_same way.side (subst (λ o. IsWorthWith shape way.side under.first.shape o t x) under.alone g)
  above t x a u (inr g) = absurd (not_both (step_end under.first) t (inside t u)
      (give_after shape way.side (step_end under.first) under.rest t x steps.1 g))

  -- so it is the best
  best_under : (t : Rational) (v : Extended) → After (stop old.out) t → Upto (stop new.out) t → IsBestWith shape way.side old gap t v
      → BestTo shape chain way (end p) t v
  best_under t v a u (inl (x, g, better)) = best_on shape laws chain way rising known.some c p known.piece t v
      (value_at (shape.function p.shape) (add t (whole way.over.high)))
      (best_with_none shape laws chain way rising c c c gap old known.met.stands (at_most_itself c) is t v (reached.upto t (upto_next t u))
      (inl (x, g, better)))
      (λ h. rising_within shape laws chain way rising known.some c p known.piece t (inl trend) h (reached.before t (upto_next t u)))
      (nw_trans better.left (above t x a (upto_next t u) (subst (λ xs. StepsGive shape way.side (stop old.out) xs t x) under.are g)))
  best_under t v a u (inr (past, w)) = absurd (not_both (last_end old) t
      (subst (λ xs. Upto (steps_end (stop old.out) xs) t) (sym under.are)
      (to_end shape way.side (step_end under.first) under.rest steps.1 t (inside t (upto_next t u)))) past)

  keeps_under : Keeps shape chain way c (end p) c new
  keeps_under = keeps_told shape laws chain way rising c c c gap old new known.met.stands told (end p) upto_end
      (tells_more shape laws chain way rising c c c gap old new known.met.stands told (end p) (λ t a u. reached.before t (upto_next t u)) best_under)
      (inr (λ t u. reached.before t (upto_next t u)))

  -- it has told up to where the window reaches past the piece
  pub entered_under : HasEntered shape chain way (end p) new
  entered_under t a u = reached.after t (after_same (stop new.out) next t ends a) u

  -- and the piece is held at its end
  pub holds_under : Holds shape chain way c p (end p) new
  holds_under = record {
    can = known.met.can;
    to = known.met.to;
    within = known.met.within;
    some = known.some;
    piece = known.piece;
    breaks = known.breaks.last;
    is_best = inr (refl, trend);
    keeps = keeps_under;
    entered = entered_under;
    plays = plays_told shape chain way.over (place way.to) way.side old new known.met.plays gap (λ m. absurd (false≢true (sym still ∙ m))) told;
  }

-- a piece that gets worse, whose begin the steps hide, counts once they end
module _ {P : Type 0} (shape : ShapeOf P) (laws : ShapeLaws shape) (chain : Chain P) (way : Way) (c : Place) (p : Piece P) (old new : Sliding P)
    (known : ComesNext shape chain way c p old) (trend : GetsNoBetter way.side (shape.function p.shape)) (gone until : Place)
    (left_begin : IsLeft way c gone) (left_end : IsLeft way (end p) until)
    (hides : HideTo shape way.side old.steps.items (value_at (shape.function p.shape) c.at) gone) (slope : P)
    (moved : (t : Rational) → value_at (shape.function slope) t ≈ᵉ value_at (shape.function p.shape) (add t (whole way.over.low)))
    (base : IsTrue (shape.moves slope) → IsTrue (shape.moves p.shape) × (shape.base slope ≡ shape.base p.shape -ℤ way.over.low))
    (out : new.out ≡ old.out) (slid : HasSlid shape way.side (stop old.out) old.steps.items slope until new.steps.items) where
  climbs : Rise chain.from chain.pieces
  climbs = known.met.can.rising

  begun : (t : Rational) → ¬ Before (low_place way.over.low way.over.low_in t) c → Before c (high_place way.over.high way.over.high_in t)
  begun t n = before_of_at_most c (low_place way.over.low way.over.low_in t) (high_place way.over.high way.over.high_in t)
      (at_most_of_not_before c (low_place way.over.low way.over.low_in t) n)
      (room_in way.over.low way.over.high way.over.low_in way.over.high_in t known.some)

  past : (t : Rational) → After (last_end old) t → Upto (place way.to) t → ¬ Before (low_place way.over.low way.over.low_in t) c
  past t a u = left_begin.after t (after_at_most gone (last_end old) t
      (hide_upto shape way.side (stop old.out) old.steps.items (value_at (shape.function p.shape) c.at) gone hides) a) u

  lasts : AtMost until (place way.to)
  lasts t u = (left_end.upto t u).1

  stands_before : Stands shape chain way (end p) c old
  stands_before = stands_hidden shape laws chain way climbs known.some c c c p known.piece old old known.met.stands
      (at_most_of_before c (end p) known.piece.order) refl refl (value_at (shape.function p.shape) c.at) gone known.falls hides
      (λ t a u l h. falling_before shape laws chain way climbs known.some c p known.piece t trend h l) left_begin.after (at_most_itself c)

  -- so it is met
  pub stands_lagging : Stands shape chain way (end p) (end p) new
  stands_lagging = stands_slid shape laws chain way climbs known.some c p known.piece old new stands_before out
      (λ t a u. begun t (past t a u)) past slope until trend moved slid left_end.upto left_end.after

  -- what is in play stays so
  pub plays_lagging : Plays shape chain way.over (place way.to) new
  plays_lagging = plays_slid shape chain way.over (place way.to) way.side old new known.met.plays out slope until
      (λ order m. let b = base m in (
        p.shape,
        known.piece.has,
        b.0,
        inr (
          b.1,
          low_comes shape chain way.over (place way.to) c (last_end old) until (le_of_at_most chain.from c known.piece.begins) order lasts past,
        ),
      ))
      (fall_plays shape chain way.over climbs known.met.can.small known.some c p known.piece (last_end old) until
      (λ t a u. past t a (lasts t u)) (λ t a u. (left_end.upto t u).0) (shape.function slope) moved) slid

  -- and the steps fall off
  pub falls_lagging : FallOff shape way.side (stop new.out) new.steps.items
  falls_lagging = subst (λ o. FallOff shape way.side (stop o) new.steps.items) (sym out)
      (slid_falls shape way.side (stop old.out) old.steps.items new.steps.items slope until known.met.stands.steps known.falls
      (value_at (shape.function p.shape) c.at) gone hides
      (λ t u a k m. nw_trans (nw_same way.side (moved t)) (nw_trans
      (trend (add t (whole way.over.low)) (add u (whole way.over.low)) (le_shift way.over.low k)) (nw_back way.side (moved u))))
      (λ t a u. nw_trans (trend c.at (add t (whole way.over.low)) (left_le way c t (past t a (lasts t u)))) (nw_back way.side (moved t))) slid)
