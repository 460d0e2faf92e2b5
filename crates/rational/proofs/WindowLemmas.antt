-- Windows, and Sups and Infs over them, do not depend on the pair by which a time is written.
use Rattle.std.proofs.Common.{ℕ, Bool}
use Rattle.std.specs.Prelude.{Option, Some, None}
use Rattle.rational.specs.Time.{Rational, ◌≈◌, Within, later}
use Rattle.rational.specs.Extended.{Extended, IsSup, IsInf}
use Rattle.rational.specs.Windows.{Ahead, Behind, Window, Function, IsSupOver, IsInfOver, IsUpTo, IsDownTo}
use Rattle.rational.proofs.Order.{le_of_same, ge_of_same, le_trans, same_sym}
use Rattle.rational.proofs.TimeLemmas.{same_later, precedes_after, precedes_before}

-- a window ahead is one for all pairs of its time
pub ahead_same : {from to t u v : Rational} {a b : ℕ} {a_in b_in : Bool} → t ≈ u → Ahead from to a b a_in b_in t v → Ahead from to a b a_in b_in u v
ahead_same {t = t} {u} {v} {a = a} {b} {a_in} {b_in} e h = record {
  inside = h.inside;
  begins = precedes_after a_in (later u a) (later t a) v (ge_of_same (same_later a e)) h.begins;
  ends = precedes_before b_in v (later t b) (later u b) h.ends (le_of_same (same_later b e));
}

-- and so is one behind
pub behind_same : {from to t u v : Rational} {a : ℕ} {b : Option ℕ} {a_in b_in : Bool} → t ≈ u → Behind from to a b a_in b_in t v
    → Behind from to a b a_in b_in u v
behind_same {t = t} {u} {v} {a = a} {b = None} {a_in} {b_in} e h =
    record { inside = h.inside; begins = tt; ends = precedes_before a_in (later v a) t u h.ends (le_of_same e) }
behind_same {t = t} {u} {v} {a = a} {b = Some b} {a_in} {b_in} e h =
    record {
      inside = h.inside;
      begins = precedes_after b_in u t (later v b) (ge_of_same e) h.begins;
      ends = precedes_before a_in (later v a) t u h.ends (le_of_same e);
    }

-- the times between two times are those for each pair of the first
pub from_same : {t u v w : Rational} → t ≈ u → Within u w v → Within t w v
from_same e h = record { above = le_trans (le_of_same e) h.above; below = h.below }

-- and of the second
pub to_same : {t u v w : Rational} → t ≈ u → Within w u v → Within w t v
to_same e h = record { above = h.above; below = le_trans h.below (ge_of_same e) }

-- a Sup and an Inf are those of each description of the same values
pub sup_alike : {P Q : Extended → Type 0} (lowest r : Extended) → ((v : Extended) → P v → Q v) → ((v : Extended) → Q v → P v)
    → IsSup lowest P r → IsSup lowest Q r
sup_alike {P} {Q} lowest r forth back h = record {
  at_least = h.at_least;
  bound = λ v q. h.bound v (back v q);
  reached = λ w l k. let f = h.reached w l k in (f.0, forth f.0 f.1, f.2);
}

-- so for the Inf
pub inf_alike : {P Q : Extended → Type 0} (highest r : Extended) → ((v : Extended) → P v → Q v) → ((v : Extended) → Q v → P v)
    → IsInf highest P r → IsInf highest Q r
inf_alike {P} {Q} highest r forth back h = record {
  at_most = h.at_most;
  bound = λ v q. h.bound v (back v q);
  reached = λ w l k. let f = h.reached w l k in (f.0, forth f.0 f.1, f.2);
}

-- over windows of the same times
pub sup_over_alike : (V W : Window) (F : Function) (lowest r : Extended) → ((u : Rational) → V u → W u) → ((u : Rational) → W u → V u)
    → IsSupOver lowest V F r → IsSupOver lowest W F r
sup_over_alike V W F lowest r forth back h = sup_alike lowest r (λ v p. (p.0, forth p.0 p.1, p.2)) (λ v p. (p.0, back p.0 p.1, p.2)) h

-- so for the Inf
pub inf_over_alike : (V W : Window) (F : Function) (highest r : Extended) → ((u : Rational) → V u → W u) → ((u : Rational) → W u → V u)
    → IsInfOver highest V F r → IsInfOver highest W F r
inf_over_alike V W F highest r forth back h = inf_alike highest r (λ v p. (p.0, forth p.0 p.1, p.2)) (λ v p. (p.0, back p.0 p.1, p.2)) h

-- the value up to u from t, and down to u from t, is that from another pair of t
pub up_to_same : {t t' : Rational} (highest : Extended) (P Q : Function) (u : Rational) (v : Extended) → t ≈ t'
    → IsUpTo highest P Q t u v → IsUpTo highest P Q t' u v
up_to_same {t} {t'} highest P Q u v e (x, y, q, i, l) =
    (x, y, q, inf_over_alike (Within t u) (Within t' u) P highest y (λ s w. from_same (same_sym e) w) (λ s w. from_same e w) i, l)

-- so for the value down to u
pub down_to_same : {t t' : Rational} (highest : Extended) (P Q : Function) (u : Rational) (v : Extended) → t ≈ t'
    → IsDownTo highest P Q t u v → IsDownTo highest P Q t' u v
down_to_same {t} {t'} highest P Q u v e (x, y, q, i, l) =
    (x, y, q, inf_over_alike (Within u t) (Within u t') P highest y (λ s w. to_same (same_sym e) w) (λ s w. to_same e w) i, l)
