-- A window ahead as a window from one offset to another.
use Rattle.std.proofs.Common.{◌≡◌, ◌⊎◌, inl, inr, ℕ, ℤ, pos, Bool, true, false, ap, ◌∙◌}
use Rattle.std.specs.Prelude.{not, ◌-ℤ◌}
use Rattle.rational.specs.Rational.{add, whole}
use Rattle.rational.specs.Time.{Rational, Within, Precedes, shifted, later, ◌≤ʳ◌, ◌<ʳ◌}
use Rattle.rational.specs.Extended.{Extended, Affine}
use Rattle.rational.specs.Places.{Place, After, Upto}
use Rattle.rational.specs.Windows.{Function, Window, Ahead, IsSupOver, IsInfOver}
use Rattle.rational.specs.InPlay.{IsInPlay, IsWideCrossing, IsWideValue, window_ahead}
use Rattle.rational.proofs.Order.{le_of_same, ge_of_same}
use Rattle.rational.proofs.TimeLemmas.{precedes_after, precedes_before, later-add}
use Rattle.rational.proofs.WindowLemmas.{inf_alike, sup_alike}
use Rattle.frac128.specs.Value.{value}
use Rattle.value_laws.specs.Members.{ShapeOf}
use Rattle.pl_signal.specs.declared.joining.Side.TheVariants.{Least, Greatest}
use Rattle.pl_signal.specs.declared.faults.WidePair.TheVariants.{Cross, Value}
use Rattle.pl_signal.specs.declared.faults.OpFault.{OpFault}
use Rattle.pl_signal.specs.declared.faults.OpFault.TheVariants as F
use Rattle.pl_signal.specs.Wide.{HasCause}
use Rattle.pieces.specs.declared.reach.Reach.{Reach}
use Rattle.pieces.specs.Chains.{Chain, IsNormal, IsWorth, Rise, Tells, stop}
use Rattle.pieces.specs.Over.{BasesAhead, BasesOver, HasCauseOver, InPlay, SeesIn}
use Rattle.pieces.specs.Windows.{BestOver, InfAhead, Sees, SupAhead}
use Rattle.pieces.proofs.ChainLemmas.{worth_after, worth_upto}
use Rattle.pieces.proofs.Ends.{after_le, upto_le}

-- behind a place that is just before a time, or just after it where that end of a window is out
pub precedes_of_after : (i : Bool) (c u : Rational) → After (record { at = c; after = not i }) u → Precedes i c u
precedes_of_after true c u h = h
precedes_of_after false c u h = h

-- a time that comes after another, or is that one where the end is in, lies behind such a place at the other
pub after_of_precedes : (i : Bool) (c u : Rational) → Precedes i c u → After (record { at = c; after = not i }) u
after_of_precedes true c u h = h
after_of_precedes false c u h = h

-- a window ahead
abbrev pub ahead_reach : ℕ → ℕ → Bool → Bool → Reach
ahead_reach a b a_in b_in = record { low = pos a; high = pos b; low_in = a_in; high_in = b_in }

module _ (from to : Rational) (a b : ℕ) (a_in b_in : Bool) where
  -- a time of the domain that is seen between the offsets is one of the window
  pub ahead_of_sees : (t u : Rational) → SeesIn from to (ahead_reach a b a_in b_in) t u → Ahead from to a b a_in b_in t u
  ahead_of_sees t u o = record {
    inside = o.0;
    begins = precedes_after a_in (later t a) (add t (whole (pos a))) u (le_of_same (later-add t a))
        (precedes_of_after a_in (add t (whole (pos a))) u o.1.0);
    ends = precedes_before b_in u (add t (whole (pos b))) (later t b) o.1.1 (ge_of_same (later-add t b));
  }

  -- a time of the window ahead is seen between its offsets
  pub sees_of_ahead : (t u : Rational) → Ahead from to a b a_in b_in t u → Sees (ahead_reach a b a_in b_in) t u
  sees_of_ahead t u o = (
    after_of_precedes a_in (add t (whole (pos a))) u
        (precedes_after a_in (add t (whole (pos a))) (later t a) u (ge_of_same (later-add t a)) o.begins),
    precedes_before b_in u (later t b) (add t (whole (pos b))) o.ends (le_of_same (later-add t b)),
  )

module _ {P : Type 0} (shape : ShapeOf P) (chain : Chain P) where
  -- a chain has its values in its domain
  pub in_domain : Rise chain.from chain.pieces → (u : Rational) (v : Extended) → IsWorth shape chain u v → Within chain.from.at (stop chain).at u
  in_domain rising u v w = record {
    above = after_le chain.from u (worth_after shape chain.from chain.pieces u v rising w);
    below = upto_le (stop chain) u (worth_upto shape chain.from chain.pieces u v rising w);
  }

  module _ (over : Reach) (Q : Rational → Affine → Type 0)
      (into : (tau : Rational) (line : Affine) → tau <ʳ (stop chain).at → InPlay shape chain over tau line → Q tau line) where
    -- what is in play over a window is in play in the step
    pub crossing_of : (p q : Affine) (a b : Rational) (den : ℕ) → IsWideCrossing (InPlay shape chain over) chain.from.at (stop chain).at p q a b den
        → IsWideCrossing Q chain.from.at (stop chain).at p q a b den
    crossing_of p q a b den c = record {
      tau = c.tau;
      after_start = c.after_start;
      before_stop = c.before_stop;
      above = c.above;
      below = c.below;
      first = into c.tau p c.before_stop c.first;
      second = into c.tau q c.before_stop c.second;
      meet = c.meet;
      alone = c.alone;
      denominator = c.denominator;
      wide = c.wide;
    }

    -- a value that is wide for the offsets is wide for the window
    pub value_of : (p : Affine) (u : Rational) (den : ℕ) → IsWideValue (InPlay shape chain over) chain.from.at (stop chain).at p u den
        → IsWideValue Q chain.from.at (stop chain).at p u den
    value_of p u den c = record {
      tau = c.tau;
      after_start = c.after_start;
      before_stop = c.before_stop;
      value = c.value;
      is_value = c.is_value;
      line = c.line;
      constant = c.constant;
      in_play = into c.tau c.line c.before_stop c.in_play;
      denominator = c.denominator;
      wide = c.wide;
    }

-- a chain that tells a function tells one that says the same between its ends
pub tells_alike : {P : Type 0} (shape : ShapeOf P) (G H : Function) (from to : Place) (chain : Chain P)
    → ((t : Rational) (v : Extended) → Upto to t → G t v → H t v) → ((t : Rational) (v : Extended) → Upto to t → H t v → G t v)
    → Tells shape G from to chain → Tells shape H from to chain
tells_alike shape G H from to chain there back r = record {
  normal = r.normal;
  begins = r.begins;
  ends = r.ends;
  worth = λ t v. (
    λ w. let h = (r.worth t v).0 w in (h.0, h.1, there t v h.1 h.2),
    λ h. (r.worth t v).1 (h.0, h.1, back t v h.1 h.2),
  );
}

-- the Sup over two windows in which a function has its values at the same times
pub sup_seen : (V W : Window) (F : Function) (lowest r : Extended) → ((u : Rational) (v : Extended) → F u v → V u → W u)
    → ((u : Rational) (v : Extended) → F u v → W u → V u) → IsSupOver lowest V F r → IsSupOver lowest W F r
sup_seen V W F lowest r forth back h = sup_alike lowest r (λ v p. (p.0, forth p.0 v p.2 p.1, p.2)) (λ v p. (p.0, back p.0 v p.2 p.1, p.2)) h

-- the Inf over two such windows
pub inf_seen : (V W : Window) (F : Function) (highest r : Extended) → ((u : Rational) (v : Extended) → F u v → V u → W u)
    → ((u : Rational) (v : Extended) → F u v → W u → V u) → IsInfOver highest V F r → IsInfOver highest W F r
inf_seen V W F highest r forth back h = inf_alike highest r (λ v p. (p.0, forth p.0 v p.2 p.1, p.2)) (λ v p. (p.0, back p.0 v p.2 p.1, p.2)) h

-- a window by its parts
pub reach_is : (o : Reach) (low high : ℤ) (low_in high_in : Bool) → o.low ≡ low → o.high ≡ high → o.low_in ≡ low_in → o.high_in ≡ high_in
    → o ≡ record { low = low; high = high; low_in = low_in; high_in = high_in }
reach_is o low high low_in high_in a b c d =
    ap (λ (x : ℤ). record { low = x; high = o.high; low_in = o.low_in; high_in = o.high_in }) a
    ∙ ap (λ (x : ℤ). record { low = low; high = x; low_in = o.low_in; high_in = o.high_in }) b
    ∙ ap (λ (x : Bool). record { low = low; high = high; low_in = x; high_in = o.high_in }) c
    ∙ ap (λ (x : Bool). record { low = low; high = high; low_in = low_in; high_in = x }) d

module _ {P : Type 0} (shape : ShapeOf P) (chain : Chain P) (normal : IsNormal shape chain) (a b : ℕ) (a_in b_in : Bool) where
  -- what is seen of the chain lies in the window
  seen_ahead : (i j : Bool) (t u : Rational) (v : Extended) → IsWorth shape chain u v → Sees (ahead_reach a b i j) t u
      → Ahead chain.from.at (stop chain).at a b i j t u
  seen_ahead i j t u v w m = ahead_of_sees chain.from.at (stop chain).at a b i j t u (in_domain shape chain normal.rising u v w, m)

  ahead_seen : (t u : Rational) (v : Extended) → IsWorth shape chain u v → Ahead chain.from.at (stop chain).at a b a_in b_in t u
      → Sees (ahead_reach a b a_in b_in) t u
  ahead_seen t u v w m = sees_of_ahead chain.from.at (stop chain).at a b a_in b_in t u m

  -- a chain that is the greatest between the offsets is the Sup ahead
  pub sup_is_ahead : (new : Chain P) → Tells shape (BestOver shape chain (ahead_reach a b a_in b_in) Greatest) chain.from (stop chain) new
      → Tells shape (SupAhead chain.from.at (stop chain).at (IsWorth shape chain) shape.lowest a b a_in b_in) chain.from (stop chain) new
  sup_is_ahead new = tells_alike shape (BestOver shape chain (ahead_reach a b a_in b_in) Greatest)
      (SupAhead chain.from.at (stop chain).at (IsWorth shape chain) shape.lowest a b a_in b_in) chain.from (stop chain) new
      (λ t v u h. sup_seen (Sees (ahead_reach a b a_in b_in) t) (Ahead chain.from.at (stop chain).at a b a_in b_in t) (IsWorth shape chain)
      shape.lowest v (seen_ahead a_in b_in t) (ahead_seen t) h)
      (λ t v u h. sup_seen (Ahead chain.from.at (stop chain).at a b a_in b_in t) (Sees (ahead_reach a b a_in b_in) t) (IsWorth shape chain)
      shape.lowest v (ahead_seen t) (seen_ahead a_in b_in t) h)

  -- a chain that is the least between the offsets is the Inf ahead
  pub inf_is_ahead : (new : Chain P) → Tells shape (BestOver shape chain (ahead_reach a b a_in b_in) Least) chain.from (stop chain) new
      → Tells shape (InfAhead chain.from.at (stop chain).at (IsWorth shape chain) shape.highest a b a_in b_in) chain.from (stop chain) new
  inf_is_ahead new = tells_alike shape (BestOver shape chain (ahead_reach a b a_in b_in) Least)
      (InfAhead chain.from.at (stop chain).at (IsWorth shape chain) shape.highest a b a_in b_in) chain.from (stop chain) new
      (λ t v u h. inf_seen (Sees (ahead_reach a b a_in b_in) t) (Ahead chain.from.at (stop chain).at a b a_in b_in t) (IsWorth shape chain)
      shape.highest v (seen_ahead a_in b_in t) (ahead_seen t) h)
      (λ t v u h. inf_seen (Ahead chain.from.at (stop chain).at a b a_in b_in t) (Sees (ahead_reach a b a_in b_in) t) (IsWorth shape chain)
      shape.highest v (ahead_seen t) (seen_ahead a_in b_in t) h)

  -- the bases are those of the chain, less a bound
  pub bases_ahead : (new : Chain P) → BasesOver shape chain (ahead_reach a b a_in b_in) new → BasesAhead shape a b chain new
  bases_ahead new h p has moves = let (q, there, m, e) = h p has moves in (q, there, m, by_end q e)
    where
      by_end : (q : P) → (shape.base p ≡ shape.base q -ℤ pos b)
          ⊎ ((shape.base p ≡ shape.base q -ℤ pos a) × (chain.from.at ≤ʳ shifted (stop chain).at (pos a)))
          → (shape.base p ≡ shape.base q -ℤ pos a) ⊎ (shape.base p ≡ shape.base q -ℤ pos b)
      by_end q (inl e) = inr e
      by_end q (inr e) = inl e.0

-- what is in play over the offsets of a window ahead is in play in its step
pub in_play_ahead : {P : Type 0} (shape : ShapeOf P) (chain : Chain P) (a b : ℕ) (a_in b_in : Bool) (tau : Rational) (line : Affine)
    → InPlay shape chain (ahead_reach a b a_in b_in) tau line
    → IsInPlay (window_ahead (IsWorth shape chain) a b a_in b_in) chain.from.at (stop chain).at tau line
in_play_ahead shape chain a b a_in b_in tau line (has, inl h) =
    ((has.0, ahead_of_sees chain.from.at (stop chain).at a b a_in b_in tau has.0 has.1), inl h)
in_play_ahead shape chain a b a_in b_in tau line (has, inr (inl (u, point, inside, v, f, constant))) = (
  (has.0, ahead_of_sees chain.from.at (stop chain).at a b a_in b_in tau has.0 has.1),
  inr (inl (u, point, ahead_of_sees chain.from.at (stop chain).at a b a_in b_in tau u inside, v, f, constant)),
)
in_play_ahead shape chain a b a_in b_in tau line (has, inr (inr (u, point, closed, v, side, constant))) = (
  (has.0, ahead_of_sees chain.from.at (stop chain).at a b a_in b_in tau has.0 has.1),
  inr (inr (u, point, ahead_of_sees chain.from.at (stop chain).at a b true true tau u closed, v, side, constant)),
)

-- a fault that has a cause over the offsets has one in the step of the window ahead
pub cause_ahead : {P : Type 0} (shape : ShapeOf P) (chain : Chain P) (a b : ℕ) (a_in b_in : Bool) (e : OpFault P)
    → HasCauseOver shape chain (ahead_reach a b a_in b_in) e
    → HasCause shape (window_ahead (IsWorth shape chain) a b a_in b_in) chain.from.at (stop chain).at e
cause_ahead shape chain a b a_in b_in F.Memory h = tt
cause_ahead shape chain a b a_in b_in (F.Wide (Cross p q from to den)) h =
    crossing_of shape chain (ahead_reach a b a_in b_in) (IsInPlay (window_ahead (IsWorth shape chain) a b a_in b_in) chain.from.at (stop chain).at)
    (λ tau line _. in_play_ahead shape chain a b a_in b_in tau line) (shape.function p) (shape.function q) (value from) (value to) den h
cause_ahead shape chain a b a_in b_in (F.Wide (Value p at den)) h =
    value_of shape chain (ahead_reach a b a_in b_in) (IsInPlay (window_ahead (IsWorth shape chain) a b a_in b_in) chain.from.at (stop chain).at)
    (λ tau line _. in_play_ahead shape chain a b a_in b_in tau line) (shape.function p) (value at) den h
