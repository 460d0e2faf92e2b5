-- Signals that tell a function of time, and how they are built.
use Rattle.std.proofs.Common.{◌≡◌, ◌⊎◌, inl, inr, List, [], ◌∷◌, refl, sym, subst, arith}
use Rattle.rational.specs.Time.{Rational, Within, ◌<ʳ◌, ◌≈◌}
use Rattle.rational.specs.Extended.{Extended, Passes, value_at}
use Rattle.rational.specs.Windows.{Function}
use Rattle.rational.proofs.Order.{le_of_same, ge_of_same, le_trans, same_refl, same_sym}
use Rattle.rational.proofs.AffineLemmas.{value_same}
use Rattle.rational.proofs.Sames.{symᵉ, transᵉ}
pub use Rattle.rational.proofs.TimeFunctions.{IsFunction}
use Rattle.frac128.specs.Value.{value}
use Rattle.frac128.specs.declared.frac.Frac.{Frac}
use Rattle.value_laws.specs.Members.{ShapeOf}
use Rattle.pl_signal.specs.declared.knot.Knot.{Knot}
use Rattle.pl_signal.specs.declared.joining.Side.{Side}
use Rattle.pl_signal.specs.Joining.{IsChosen, Joins}
use Rattle.pl_signal.specs.Knots.{start, stop, IsWorth, IsSignal}
use Rattle.pl_signal.specs.Building.{GoesOn}
use Rattle.pl_signal.specs.Moves.{Tells}
use Rattle.pl_signal.proofs.Values.{worth_within, every_time, one_value, worth_same}

module _ {P : Type 0} (shape : ShapeOf P) where
  -- what a signal is worth is a function of time
  pub worth_is_function : (ks : List (Knot P)) → IsSignal shape ks → IsFunction (IsWorth shape ks)
  worth_is_function ks s = record { alike = λ t u v w e f h. worth_same shape ks v w e f h; one = λ t v w a b. one_value shape ks t v w s a b }

  -- all that the signal tells so far is what F says
  pub record TellsSoFar (F : Function) (knots : List (Knot P)) : Type 0 where
    -- the knots are a signal
    pub signal : IsSignal shape knots
    -- and all that it is worth is what F says
    pub worth : (t : Rational) (v : Extended) → IsWorth shape knots t v → F t v

  -- where all that a signal tells is what F says, it tells F between its ends
  pub told : (F : Function) (from to : Rational) (ks : List (Knot P)) → IsFunction F → TellsSoFar F ks → start ks ≈ from → stop ks ≈ to
      → Tells shape F from to ks
  told F from to ks is s begins ends =
      record {
        signal = s.signal;
        begins = begins;
        ends = ends;
        worth = λ t v. (λ w. (between t (worth_within shape ks t v s.signal w), s.worth t v w), λ h. by_value t v h.0 h.1);
      }
    where
      between : (t : Rational) → Within (start ks) (stop ks) t → Within from to t
      between t w = record { above = le_trans (ge_of_same begins) w.above; below = le_trans w.below (le_of_same ends) }

      by_value : (t : Rational) (v : Extended) → Within from to t → F t v → IsWorth shape ks t v
      by_value t v w a =
          let x = every_time shape ks t s.signal (record { above = le_trans (le_of_same begins) w.above; below = le_trans w.below (ge_of_same ends) }) in
          worth_same shape ks x.0 v (same_refl t) (is.one t x.0 v (s.worth t x.0 x.1) a) x.1

  -- a signal that is worth what another is tells it
  pub told_alike : (old new : List (Knot P)) (from to : Rational) → IsSignal shape old → IsSignal shape new → start new ≈ from → stop new ≈ to
      → ((t : Rational) (v : Extended) → IsWorth shape new t v → IsWorth shape old t v) → Tells shape (IsWorth shape old) from to new
  told_alike old new from to is_old is_new begins ends worth = told (IsWorth shape old) from to new (worth_is_function old is_old)
      (record { signal = is_new; worth = worth }) begins ends

  -- what a point is worth at its time, by whichever pairs it is written
  pub of_point : (F : Function) (point : P) (at : Frac) → IsFunction F → F (value at) (value_at (shape.function point) (value at))
      → (t : Rational) (v : Extended) → t ≈ value at → Passes (shape.function point) t v → F t v
  of_point F point at is here t v when worth =
      is.alike (value at) t _ v (same_sym when) (symᵉ (transᵉ worth (value_same (shape.function point) when))) here

  -- the signal of one instant
  pub tells_first : (F : Function) (built : List (Knot P)) (point : P) (at : Frac) → IsFunction F → F (value at) (value_at (shape.function point) (value at))
      → built ≡ record { time = at; point = point; after = point } ∷ [] → TellsSoFar F built
  tells_first F built point at is here e = subst (TellsSoFar F) (sym e) (record {
    signal = record { some = omega arith; each = (record { rising = tt; needed = tt; ends = refl }, tt) };
    worth = λ t v w. elim w [ inl a ↦ of_point F point at is here t v a.when a.worth | inr b ↦ elim b [ inl c ↦ absurd c | inr c ↦ absurd c ] ];
  })

  -- it goes on telling F
  pub tells_on : (F : Function) (old new : List (Knot P)) (after point : P) (at : Frac) → IsFunction F → TellsSoFar F old → GoesOn shape old after at point new
      → ((t : Rational) → stop old <ʳ t → t <ʳ value at → F t (value_at (shape.function after) t))
      → F (value at) (value_at (shape.function point) (value at)) → TellsSoFar F new
  tells_on F old new after point at is s on gap here = record { signal = on.signal; worth = λ t v w. by_part t v ((on.worth t v).0 w) }
    where
      by_part : (t : Rational) (v : Extended) → IsWorth shape old t v ⊎ ((stop old <ʳ t) × (t <ʳ value at) × Passes (shape.function after) t v)
          ⊎ ((t ≈ value at) × Passes (shape.function point) t v) → F t v
      by_part t v (inl w) = s.worth t v w
      by_part t v (inr (inl w)) = is.alike t t (value_at (shape.function after) t) v (same_refl t) (symᵉ w.2) (gap t w.0 w.1)
      by_part t v (inr (inr w)) = of_point F point at is here t v w.0 w.1

  -- and by the least or the greatest of two shapes
  pub tells_join : {old new : List (Knot P)} {p q : P} (F : Function) (side : Side) (point : P) (to : Frac) → IsFunction F → TellsSoFar F old
      → Joins shape side old p q to point new
      → ((t : Rational) (v : Extended) → stop old <ʳ t → t <ʳ value to
      → IsChosen side (value_at (shape.function p) t) (value_at (shape.function q) t) v → F t v)
      → F (value to) (value_at (shape.function point) (value to)) → TellsSoFar F new
  tells_join {old} {p = p} {q = q} F side point to is s joins gap here = record { signal = joins.signal; worth = λ t v w. by_part t v ((joins.worth t v).0 w) }
    where
      by_part : (t : Rational) (v : Extended) → IsWorth shape old t v
          ⊎ ((stop old <ʳ t) × (t <ʳ value to) × IsChosen side (value_at (shape.function p) t) (value_at (shape.function q) t) v)
          ⊎ ((t ≈ value to) × Passes (shape.function point) t v) → F t v
      by_part t v (inl w) = s.worth t v w
      by_part t v (inr (inl w)) = gap t v w.0 w.1 w.2
      by_part t v (inr (inr w)) = of_point F point to is here t v w.0 w.1
