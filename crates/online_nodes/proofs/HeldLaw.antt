-- What of a node's verdicts meets the needed stretch: what is left when those that end too early are dropped from the front.
use Rattle.std.proofs.Common.{◌≡◌, ◌⊎◌, inl, inr, refl, sym, subst, ◌∙◌, Bool, true, false, not, List, [], ◌∷◌}
use Rattle.std.specs.Prelude.{MatchBool, cond}
use Rattle.rational.specs.Rational.{Rational, ◌≤ʳ◌, ◌<ʳ◌}
use Rattle.rational.specs.Time.{Interval, IsIn, left_open, less}
use Rattle.rational.proofs.Order.{le_trans, le_or_lt, not_lt_of_le, lt_of_lt_of_le, le_of_same, le_of_lt}
use Rattle.rational.proofs.TimeLemmas.{less_out, less_in}
use Rattle.frac128.specs.Spans.{interval}
use Rattle.frac128.specs.Value.{value}
use Rattle.online_nodes.specs.Needed.{Meets, AreMeeting}
use Rattle.stl_syntax.specs.declared.items.Verdict.{Verdict}
use Rattle.online_nodes.specs.Laws.{AreTiles, beyond}
use Rattle.rational.specs.Places.{Place, begins, ends, After, Upto, Before, Same}
use Rattle.rational.proofs.PlaceLemmas.{place_order, between, after_of_before, after_same, same_places, upto_of_before}
use Rattle.rational.proofs.PlaceLemmas.{upto_same}
use Rattle.online_nodes.proofs.ToldSoFar.{in_upto}

-- a time behind the begin of a stretch, and not behind its end, is in it
pub is_in : (on : Interval) (t : Rational) → After (begins on) t → Upto (ends on) t → IsIn on t
is_in on t a u = record { above = by_end on.from_in a; below = by_side on.to_in u }
  where
    by_end : (b : Bool) → MatchBool (not b) (on.from <ʳ t) (on.from ≤ʳ t) → MatchBool b (on.from ≤ʳ t) (on.from <ʳ t)
    by_end true x = x
    by_end false x = x

    by_side : (b : Bool) → MatchBool b (t ≤ʳ on.to) (t <ʳ on.to) → MatchBool b (t ≤ʳ on.to) (t <ʳ on.to)
    by_side true x = x
    by_side false x = x

upto_le : (c : Place) (t : Rational) → Upto c t → t ≤ʳ c.at
upto_le c t = by_side c.after
  where
    by_side : (b : Bool) → MatchBool b (t ≤ʳ c.at) (t <ʳ c.at) → t ≤ʳ c.at
    by_side true h = h
    by_side false h = le_of_lt h

-- a span that ends by lo does not meet what follows lo; one that ends later does
pub not_met : (lo f : Rational) (v : Verdict) → value v.on.to ≤ʳ lo → ¬ Meets (left_open lo f) v
not_met lo f v h m = not_lt_of_le (le_trans (upto_le (ends (interval v.on)) m.0 (in_upto (interval v.on) m.0 m.2)) h) m.1.above

-- a verdict that ends behind lo, and by f, meets the stretch between
pub met : (lo f : Rational) (v : Verdict) → Before (begins (interval v.on)) (ends (interval v.on))
    → ((t : Rational) → Upto (ends (interval v.on)) t → t ≤ʳ f)
    → lo <ʳ value v.on.to → Meets (left_open lo f) v
met lo f v some inside l = by_order (place_order (begins (interval v.on)) (record { at = lo; after = true }))
  where
    after_lo : Place
    after_lo = record { at = lo; after = true }

    at_time : (t : Rational) → After (begins (interval v.on)) t → After after_lo t → Upto (ends (interval v.on)) t
        → Meets (left_open lo f) v
    at_time t a b u = (t, record { above = b; below = inside t u }, is_in (interval v.on) t a u)

    from_lo : ((t : Rational) → After after_lo t → After (begins (interval v.on)) t) → Meets (left_open lo f) v
    from_lo g = let t = between after_lo (ends (interval v.on)) (inl l) in at_time t.0 (g t.0 t.1) t.1 t.2

    by_order : Before (begins (interval v.on)) after_lo ⊎ Same (begins (interval v.on)) after_lo ⊎ Before after_lo
        (begins (interval v.on))
        → Meets (left_open lo f) v
    by_order (inl b) = from_lo (λ t a. after_of_before (begins (interval v.on)) after_lo t b a)
    by_order (inr (inl s)) = from_lo (λ t a. after_same after_lo (begins (interval v.on)) t (same_places s) a)
    by_order (inr (inr b)) = let t = between (begins (interval v.on)) (ends (interval v.on)) some in
        at_time t.0 t.1 (after_of_before after_lo (begins (interval v.on)) t.0 b t.1) t.2

-- what lies before verdicts that end by f lies before f
pub tiled_inside : (c : Place) (vs : List Verdict) (d : Place) (f : Rational) → AreTiles c vs d → ((t : Rational) → Upto d t → t ≤ʳ f)
    → (t : Rational) → Upto c t → t ≤ʳ f
tiled_inside c [] d f s h t u = h t (upto_same c d t s u)
tiled_inside c (v ∷ vs) d f (s, b, rest) h t u =
    tiled_inside (ends (interval v.on)) vs d f rest h t
    (upto_of_before (begins (interval v.on)) (ends (interval v.on)) t b (upto_same c (begins (interval v.on)) t s u))

-- a verdict that is not empty ends no earlier than it begins
ends_later : (c : Place) (v : Verdict) → Same c (begins (interval v.on)) → Before (begins (interval v.on)) (ends (interval v.on))
    → c.at ≤ʳ value v.on.to
ends_later c v s (inl l) = le_trans (le_of_same s.0) (le_of_lt l)
ends_later c v s (inr (r, e, f)) = le_trans (le_of_same s.0) (le_of_same r)

all_met : (lo f : Rational) (c : Place) (vs : List Verdict) (d : Place) → lo <ʳ c.at → AreTiles c vs d
    → ((t : Rational) → Upto d t → t ≤ʳ f) → AreMeeting (left_open lo f) vs vs
all_met lo f c [] d l tiled h = refl
all_met lo f c (v ∷ vs) d l (s, b, rest) h =
    let m : lo <ʳ value v.on.to = lt_of_lt_of_le l (ends_later c v s b) in
    inl
    (met lo f v b (tiled_inside (ends (interval v.on)) vs d f rest h) m, (vs, all_met lo f (ends (interval v.on)) vs d m rest h, refl))

-- of verdicts that lead from c to f, those that meet what follows lo
pub meeting_is_suffix : (lo f : Rational) (c : Place) (vs : List Verdict) (d : Place) → AreTiles c vs d
    → ((t : Rational) → Upto d t → t ≤ʳ f) → AreMeeting (left_open lo f) vs (beyond lo vs)
meeting_is_suffix lo f c [] d tiled h = refl
meeting_is_suffix lo f c (v ∷ vs) d (s, b, rest) h = by_test (meeting_is_suffix lo f (ends (interval v.on)) vs d rest h)
    (less lo (value v.on.to)) refl
  where
    by_test : AreMeeting (left_open lo f) vs (beyond lo vs) → (t : Bool) → less lo (value v.on.to) ≡ t
        → AreMeeting (left_open lo f) (v ∷ vs) (cond (less lo (value v.on.to)) (v ∷ vs) (beyond lo vs))
    by_test more true e = subst (λ t. AreMeeting (left_open lo f) (v ∷ vs) (cond t (v ∷ vs) (beyond lo vs))) (sym e)
        (let m = less_out lo (value v.on.to) e in
        inl
        (met lo f v b (tiled_inside (ends (interval v.on)) vs d f rest h) m, (vs, all_met lo f (ends (interval v.on)) vs d m rest h, refl)))
    by_test more false e = subst (λ t. AreMeeting (left_open lo f) (v ∷ vs) (cond t (v ∷ vs) (beyond lo vs))) (sym e)
        (inr (
          not_met lo f v (elim (le_or_lt (value v.on.to) lo) [
            | inl k ↦ k
            | inr k ↦ absurd (let x : true ≡ false = sym
                (less_in lo (value v.on.to) k) ∙ e in cc)
          ]),
          more,
        ))
