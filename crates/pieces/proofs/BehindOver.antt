-- A window behind as a window from one offset to another, both negative.
use Rattle.std.proofs.Common.{arith, ◌≡◌, ◌⊎◌, inl, inr, ℕ, ◌^◌, ℤ, pos, Bool, true, false, Option, None, Some, sym, subst}
use Rattle.std.specs.Prelude.{neg_ℤ, ◌-ℤ◌, ◌+ℤ◌, IfSome}
use Rattle.std.proofs.lemmas.Int.{ints}
use Rattle.rational.specs.Rational.{add, whole}
use Rattle.rational.specs.Time.{Rational, Within, Precedes, shifted, later, ◌≤ʳ◌, ◌<ʳ◌, ◌≈◌}
use Rattle.rational.specs.Extended.{Extended, Affine}
use Rattle.rational.specs.Places.{Upto}
use Rattle.rational.specs.Windows.{Behind}
use Rattle.rational.specs.InPlay.{IsEndBehind, IsInPlay, IsLeftLimit, IsRightLimit, window_behind}
use Rattle.rational.proofs.Order.{le_of_lt, le_of_same, ge_of_same, le_trans, lt_of_le_of_lt, lt_of_lt_of_le, not_lt_of_le, same_refl}
use Rattle.rational.proofs.Shift.{le_shift, le_shift_cancel, lt_ahead, lt_ahead_back, lt_behind, lt_behind_back, shift_forth}
use Rattle.rational.proofs.TimeLemmas.{precedes_of_lt, later-add, shifted-add}
use Rattle.frac128.specs.Value.{value}
use Rattle.value_laws.specs.Members.{ShapeOf}
use Rattle.pl_signal.specs.declared.joining.Side.TheVariants.{Least, Greatest}
use Rattle.pl_signal.specs.declared.faults.WidePair.TheVariants.{Cross, Value}
use Rattle.pl_signal.specs.declared.faults.OpFault.{OpFault}
use Rattle.pl_signal.specs.declared.faults.OpFault.TheVariants as F
use Rattle.pl_signal.specs.Wide.{HasCause}
use Rattle.pieces.specs.declared.reach.Reach.{Reach}
use Rattle.pieces.specs.Chains.{Chain, IsNormal, IsWorth, Tells, stop}
use Rattle.pieces.specs.Over.{BasesBehind, BasesOver, HasCauseOver, InPlay, IsReach, SeesIn}
use Rattle.pieces.specs.Windows.{BestOver, InfBehind, Sees, SupBehind}
use Rattle.pieces.proofs.AheadOver.{after_of_precedes, crossing_of, in_domain, inf_seen, precedes_of_after, sup_seen, tells_alike, value_of}
use Rattle.pieces.proofs.Ends.{upto_le}

-- the offset of the far bound, or one beyond any domain
abbrev pub reach_of : Option ℕ → ℤ
reach_of None = neg_ℤ (pos (2 ^ 32))
reach_of (Some b) = neg_ℤ (pos b)

-- the offset is that of the bound
pub is_reach : (b : Option ℕ) (low : ℤ) → IsReach b low → low ≡ reach_of b
is_reach None low h = h
is_reach (Some b) low h = h

-- a window behind
abbrev pub behind_reach : ℕ → Option ℕ → Bool → Bool → Reach
behind_reach a b a_in b_in = record { low = reach_of b; high = neg_ℤ (pos a); low_in = b_in; high_in = a_in }

-- what comes after t moved back comes, moved on, after t
pub on_of_back : (i : Bool) (t u : Rational) (k : ℕ) → Precedes i (add t (whole (neg_ℤ (pos k)))) u → Precedes i t (later u k)
on_of_back true t u k h = le_trans (ge_of_same (shift_forth t (pos k))) (le_trans (le_shift (pos k) h) (ge_of_same (later-add u k)))
on_of_back false t u k h = lt_of_lt_of_le (lt_ahead t u (pos k) h) (ge_of_same (later-add u k))

-- what comes, moved on, after t comes after t moved back
pub back_of_on : (i : Bool) (t u : Rational) (k : ℕ) → Precedes i t (later u k) → Precedes i (add t (whole (neg_ℤ (pos k)))) u
back_of_on true t u k h = le_shift_cancel (pos k) (le_trans (le_of_same (shift_forth t (pos k))) (le_trans h (le_of_same (later-add u k))))
back_of_on false t u k h = lt_ahead_back t u (pos k) (lt_of_lt_of_le h (le_of_same (later-add u k)))

-- what comes before t moved back comes, moved on, before t
pub on_of_before : (i : Bool) (t u : Rational) (k : ℕ) → Precedes i u (add t (whole (neg_ℤ (pos k)))) → Precedes i (later u k) t
on_of_before true t u k h = le_trans (le_of_same (later-add u k)) (le_trans (le_shift (pos k) h) (le_of_same (shift_forth t (pos k))))
on_of_before false t u k h = lt_of_le_of_lt (le_of_same (later-add u k)) (lt_behind_back u t (pos k) h)

-- what comes, moved on, before t comes before t moved back
pub before_of_on : (i : Bool) (t u : Rational) (k : ℕ) → Precedes i (later u k) t → Precedes i u (add t (whole (neg_ℤ (pos k))))
before_of_on true t u k h = le_shift_cancel (pos k) (le_trans (ge_of_same (later-add u k)) (le_trans h (ge_of_same (shift_forth t (pos k)))))
before_of_on false t u k h = lt_behind u t (pos k) (lt_of_le_of_lt (ge_of_same (later-add u k)) h)

module _ (from to : Rational) (first : whole (pos 0) ≤ʳ from) (last : to <ʳ whole (pos (2 ^ 32))) where
  -- no time of the domain lies as far before it as the longest domain
  pub none_so_far : (t u : Rational) → t ≤ʳ to → from ≤ʳ u → add t (whole (neg_ℤ (pos (2 ^ 32)))) <ʳ u
  none_so_far t u h k = lt_ahead_back t u (pos (2 ^ 32)) (lt_of_lt_of_le (lt_of_le_of_lt h last)
      (le_trans all (le_shift (pos (2 ^ 32)) (le_trans first k))))
    where
      all : whole (pos (2 ^ 32)) ≤ʳ add (whole (pos 0)) (whole (pos (2 ^ 32)))
      all = record { le = omega arith }

  module _ (a : ℕ) (a_in b_in : Bool) where
    -- a time of the domain that is seen between the offsets of a window behind is one of the window
    pub behind_of_sees : (b : Option ℕ) (t u : Rational) → SeesIn from to (behind_reach a b a_in b_in) t u → Behind from to a b a_in b_in t u
    behind_of_sees None t u o = record { inside = o.0; begins = tt; ends = on_of_before a_in t u a o.1.1 }
    behind_of_sees (Some b) t u o = record {
      inside = o.0;
      begins = on_of_back b_in t u b (precedes_of_after b_in (add t (whole (neg_ℤ (pos b)))) u o.1.0);
      ends = on_of_before a_in t u a o.1.1;
    }

    -- a time of the window behind, which is that of a time of the domain, is seen between its offsets
    pub sees_of_behind : (b : Option ℕ) (t u : Rational) → t ≤ʳ to → Behind from to a b a_in b_in t u → Sees (behind_reach a b a_in b_in) t u
    sees_of_behind None t u h o = (
      after_of_precedes b_in (add t (whole (neg_ℤ (pos (2 ^ 32))))) u
          (precedes_of_lt b_in (add t (whole (neg_ℤ (pos (2 ^ 32))))) u (none_so_far t u h o.inside.above)),
      before_of_on a_in t u a o.ends,
    )
    sees_of_behind (Some b) t u h o = (
      after_of_precedes b_in (add t (whole (neg_ℤ (pos b)))) u (back_of_on b_in t u b o.begins),
      before_of_on a_in t u a o.ends,
    )

module _ {P : Type 0} (shape : ShapeOf P) (chain : Chain P) (first : whole (pos 0) ≤ʳ chain.from.at)
    (last : (stop chain).at <ʳ whole (pos (2 ^ 32))) (a : ℕ) (a_in b_in : Bool) where
  into : (b : Option ℕ) (t u : Rational) (c d : Bool) → SeesIn chain.from.at (stop chain).at (behind_reach a b c d) t u
      → Behind chain.from.at (stop chain).at a b c d t u
  into b t u c d = behind_of_sees chain.from.at (stop chain).at first last a c d b t u

  -- what is in play over the offsets of a window behind is in play in its step
  pub in_play_behind : (b : Option ℕ) (tau : Rational) (line : Affine) → tau ≤ʳ (stop chain).at
      → InPlay shape chain (behind_reach a b a_in b_in) tau line
      → IsInPlay (window_behind (IsWorth shape chain) a b a_in b_in) chain.from.at (stop chain).at tau line
  in_play_behind b tau line within (has, inl (k, is, old, inside, part, moved)) =
      ((has.0, into b tau has.0 a_in b_in has.1), inl (k, by_end b is inside, old, inside, part, moved))
    where
      by_end : (b : Option ℕ) → (k ≡ reach_of b) ⊎ (k ≡ neg_ℤ (pos a)) → Within chain.from.at (stop chain).at (shifted tau k) → IsEndBehind a b k
      by_end None (inl e) w = absurd (not_lt_of_le w.above (subst (λ z. shifted tau z <ʳ chain.from.at) (sym e)
          (lt_of_le_of_lt (le_of_same (shifted-add tau (neg_ℤ (pos (2 ^ 32)))))
          (none_so_far chain.from.at (stop chain).at first last tau chain.from.at within (le_of_same (same_refl chain.from.at))))))
      by_end None (inr e) w = e
      by_end (Some b) (inl e) w = inr e
      by_end (Some b) (inr e) w = inl e
  in_play_behind b tau line within (has, inr (inl (u, point, inside, v, f, constant))) = (
    (has.0, into b tau has.0 a_in b_in has.1),
    inr (inl (u, point, into b tau u a_in b_in inside, v, f, constant)),
  )
  in_play_behind b tau line within (has, inr (inr (u, point, closed, v, side, constant))) = (
    (has.0, into b tau has.0 a_in b_in has.1),
    inr (inr (u, point, into b tau u true true closed, v, by_side side, constant)),
  )
    where
      later_is : (k : ℕ) → later u k ≈ shifted u (pos k)
      later_is k = omega arith

      goes_left : (b : Option ℕ) → shifted tau (reach_of b) <ʳ u → IfSome b (λ b. tau <ʳ shifted u (pos b))
      goes_left None h = tt
      goes_left (Some b) h = lt_of_lt_of_le (on_of_back false tau u b (lt_of_le_of_lt (ge_of_same (shifted-add tau (neg_ℤ (pos b)))) h))
          (le_of_same (later_is b))

      goes_right : u <ʳ shifted tau (neg_ℤ (pos a)) → shifted u (pos a) <ʳ tau
      goes_right h = lt_of_le_of_lt (ge_of_same (later_is a))
          (on_of_before false tau u a (lt_of_lt_of_le h (le_of_same (shifted-add tau (neg_ℤ (pos a))))))

      by_side : ((chain.from.at <ʳ u) × (shifted tau (reach_of b) <ʳ u) × IsLeftLimit (IsWorth shape chain) u v)
          ⊎ ((u <ʳ (stop chain).at) × (u <ʳ shifted tau (neg_ℤ (pos a))) × IsRightLimit (IsWorth shape chain) u v)
          → ((chain.from.at <ʳ u) × IfSome b (λ b. tau <ʳ shifted u (pos b)) × IsLeftLimit (IsWorth shape chain) u v)
          ⊎ ((u <ʳ (stop chain).at) × (shifted u (pos a) <ʳ tau) × IsRightLimit (IsWorth shape chain) u v)
      by_side (inl h) = inl (h.0, goes_left b h.1, h.2)
      by_side (inr h) = inr (h.0, goes_right h.1, h.2)

  -- a fault that has a cause over the offsets has one in the step of the window behind
  pub cause_behind : (b : Option ℕ) (e : OpFault P) → HasCauseOver shape chain (behind_reach a b a_in b_in) e
      → HasCause shape (window_behind (IsWorth shape chain) a b a_in b_in) chain.from.at (stop chain).at e
  cause_behind b F.Memory h = tt
  cause_behind b (F.Wide (Cross p q from to den)) h =
      crossing_of shape chain (behind_reach a b a_in b_in) (IsInPlay (window_behind (IsWorth shape chain) a b a_in b_in) chain.from.at (stop chain).at)
      (λ tau line before. in_play_behind b tau line (le_of_lt before)) (shape.function p) (shape.function q) (value from) (value to) den h
  cause_behind b (F.Wide (Value p at den)) h =
      value_of shape chain (behind_reach a b a_in b_in) (IsInPlay (window_behind (IsWorth shape chain) a b a_in b_in) chain.from.at (stop chain).at)
      (λ tau line before. in_play_behind b tau line (le_of_lt before)) (shape.function p) (value at) den h

  -- the bases are those of the chain, more by a finite bound
  pub bases_behind : (b : Option ℕ) (new : Chain P) → BasesOver shape chain (behind_reach a b a_in b_in) new → BasesBehind shape a b chain new
  bases_behind None new h = λ p has moves. let (q, there, m, e) = h p has moves in (q, there, m, by_end p q e)
    where
      by_end : (p q : P) → (shape.base p ≡ shape.base q -ℤ neg_ℤ (pos a))
          ⊎ ((shape.base p ≡ shape.base q -ℤ neg_ℤ (pos (2 ^ 32))) × (chain.from.at ≤ʳ shifted (stop chain).at (neg_ℤ (pos (2 ^ 32)))))
          → shape.base p ≡ shape.base q +ℤ pos a
      by_end p q (inl e) = omega (arith, ints, e)
      by_end p q (inr e) = absurd (not_lt_of_le (le_trans e.1 (le_of_same (shifted-add (stop chain).at (neg_ℤ (pos (2 ^ 32))))))
          (none_so_far chain.from.at (stop chain).at first last (stop chain).at chain.from.at (le_of_same (same_refl (stop chain).at))
          (le_of_same (same_refl chain.from.at))))
  bases_behind (Some b) new h = λ p has moves. let (q, there, m, e) = h p has moves in (q, there, m, by_end p q e)
    where
      by_end : (p q : P) → (shape.base p ≡ shape.base q -ℤ neg_ℤ (pos a))
          ⊎ ((shape.base p ≡ shape.base q -ℤ neg_ℤ (pos b)) × (chain.from.at ≤ʳ shifted (stop chain).at (neg_ℤ (pos b))))
          → (shape.base p ≡ shape.base q +ℤ pos a) ⊎ (shape.base p ≡ shape.base q +ℤ pos b)
      by_end p q (inl e) = inl (omega (arith, ints, e))
      by_end p q (inr e) = let f = e.0 in inr (omega (arith, ints, f))

  module _ (normal : IsNormal shape chain) (b : Option ℕ) where
    -- what is seen of the chain lies in the window
    seen_behind : (t u : Rational) (v : Extended) → IsWorth shape chain u v → Sees (behind_reach a b a_in b_in) t u
        → Behind chain.from.at (stop chain).at a b a_in b_in t u
    seen_behind t u v w m = into b t u a_in b_in (in_domain shape chain normal.rising u v w, m)

    behind_seen : (t u : Rational) (v : Extended) → Upto (stop chain) t → IsWorth shape chain u v
        → Behind chain.from.at (stop chain).at a b a_in b_in t u → Sees (behind_reach a b a_in b_in) t u
    behind_seen t u v before w m = sees_of_behind chain.from.at (stop chain).at first last a a_in b_in b t u (upto_le (stop chain) t before) m

    -- a chain that is the greatest between the offsets is the Sup behind
    pub sup_is_behind : (new : Chain P) → Tells shape (BestOver shape chain (behind_reach a b a_in b_in) Greatest) chain.from (stop chain) new
        → Tells shape (SupBehind chain.from.at (stop chain).at (IsWorth shape chain) shape.lowest a b a_in b_in) chain.from (stop chain) new
    sup_is_behind new = tells_alike shape (BestOver shape chain (behind_reach a b a_in b_in) Greatest)
        (SupBehind chain.from.at (stop chain).at (IsWorth shape chain) shape.lowest a b a_in b_in) chain.from (stop chain) new
        (λ t v d h. sup_seen (Sees (behind_reach a b a_in b_in) t) (Behind chain.from.at (stop chain).at a b a_in b_in t) (IsWorth shape chain)
        shape.lowest v (seen_behind t) (λ u w. behind_seen t u w d) h)
        (λ t v d h. sup_seen (Behind chain.from.at (stop chain).at a b a_in b_in t) (Sees (behind_reach a b a_in b_in) t) (IsWorth shape chain)
        shape.lowest v (λ u w. behind_seen t u w d) (seen_behind t) h)

    -- a chain that is the least between the offsets is the Inf behind
    pub inf_is_behind : (new : Chain P) → Tells shape (BestOver shape chain (behind_reach a b a_in b_in) Least) chain.from (stop chain) new
        → Tells shape (InfBehind chain.from.at (stop chain).at (IsWorth shape chain) shape.highest a b a_in b_in) chain.from (stop chain) new
    inf_is_behind new = tells_alike shape (BestOver shape chain (behind_reach a b a_in b_in) Least)
        (InfBehind chain.from.at (stop chain).at (IsWorth shape chain) shape.highest a b a_in b_in) chain.from (stop chain) new
        (λ t v d h. inf_seen (Sees (behind_reach a b a_in b_in) t) (Behind chain.from.at (stop chain).at a b a_in b_in t) (IsWorth shape chain)
        shape.highest v (seen_behind t) (λ u w. behind_seen t u w d) h)
        (λ t v d h. inf_seen (Behind chain.from.at (stop chain).at a b a_in b_in t) (Sees (behind_reach a b a_in b_in) t) (IsWorth shape chain)
        shape.highest v (λ u w. behind_seen t u w d) (seen_behind t) h)
