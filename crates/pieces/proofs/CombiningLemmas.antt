-- The least or the greatest of two chains, from place to place.
use Rattle.std.proofs.Common.{◌≡◌, ◌⊎◌, inl, inr, ℕ, ◌+◌, ◌-◌, ◌<◌, Bool, true, false, Result, Ok, Err, sym, subst, arith}
use Rattle.std.specs.Prelude.{IfErr, if◌then◌else◌}
use Rattle.std.proofs.lemmas.Bool.{false≢true}
use Rattle.rational.specs.Time.{Rational, ◌≤ʳ◌}
use Rattle.rational.specs.Extended.{value_at}
use Rattle.rational.specs.InPlay.{of_two}
use Rattle.rational.specs.Places.{After, Upto}
use Rattle.rational.proofs.Order.{lt_of_lt_of_le, lt_of_le_of_lt}
use Rattle.rational.proofs.AffineLemmas.{same_reflᵉ}
use Rattle.frac128.specs.Value.{value}
use Rattle.frac128.specs.Cuts.{place}
use Rattle.frac128.specs.declared.cut.Cut.{Cut}
use Rattle.frac128.specs.declared.frac.Frac.{Frac}
use Rattle.value_laws.specs.Members.{ShapeOf}
use Rattle.pl_signal.specs.declared.joining.Side.{Side}
use Rattle.pl_signal.specs.declared.faults.WidePair.TheVariants.{Cross, Value}
use Rattle.pl_signal.specs.declared.faults.OpFault.{OpFault}
use Rattle.pl_signal.specs.declared.faults.OpFault.TheVariants as F
use Rattle.pl_signal.specs.Wide.{HasCause}
use Rattle.pl_signal.specs.Joining.{ChosenOf, IsGapFault}
use Rattle.pieces.specs.Chains.{Chain, stop, HasShape, IsWorth}
use Rattle.pieces.specs.Joining.{Joins, HasPart, IsJoinFault, IsWideMeeting}
use Rattle.pieces.proofs.ChainsTell.{TellsSoFar, tells_join}

-- one of two places goes on, and both no further than the ends
pub nearer : (m n i j : ℕ) (x y : Bool) → i < m → j < n → (x ≡ true) ⊎ (y ≡ true)
    → (m - (if x then i + 1 else i)) + (n - (if y then j + 1 else j)) < (m - i) + (n - j)
nearer m n i j true true a b one = omega (arith, a, b)
nearer m n i j true false a b one = omega (arith, a, b)
nearer m n i j false true a b one = omega (arith, a, b)
nearer m n i j false false a b (inl e) = absurd (false≢true e)
nearer m n i j false false a b (inr e) = absurd (false≢true e)

module _ {P : Type 0} (shape : ShapeOf P) where
  -- the chain goes on with what is chosen of a shape of each of two chains, which they are worth there
  pub record JoinsBoth (side : Side) (a b old new : Chain P) : Type 0 where
    -- the shape of the first chain there
    pub p : P
    -- and of the second
    pub q : P
    -- where the chain has come then
    pub until : Cut
    -- it goes on by what is chosen
    pub joins : Joins shape side old p q until new
    -- p stands in the first chain
    pub has_p : HasShape a p
    -- q in the second
    pub has_q : HasShape b q
    -- the first is worth what p says
    pub left : (t : Rational) → After (stop old) t → Upto (place until) t → IsWorth shape a t (value_at (shape.function p) t)
    -- the second what q says
    pub right : (t : Rational) → After (stop old) t → Upto (place until) t → IsWorth shape b t (value_at (shape.function q) t)

  -- its shapes are those of the two chains
  pub joined_shapes : {old new : Chain P} (side : Side) (a b : Chain P) → ((r : P) → HasShape old r → HasShape a r ⊎ HasShape b r)
      → JoinsBoth side a b old new → (r : P) → HasShape new r → HasShape a r ⊎ HasShape b r
  joined_shapes {old} side a b so_far both r h = by_part (both.joins.shapes r h)
    where
      by_part : HasShape old r ⊎ (r ≡ both.p) ⊎ (r ≡ both.q) → HasShape a r ⊎ HasShape b r
      by_part (inl k) = so_far r k
      by_part (inr (inl e)) = inl (subst (HasShape a) (sym e) both.has_p)
      by_part (inr (inr e)) = inr (subst (HasShape b) (sym e) both.has_q)

  -- it goes on telling what is chosen
  pub tells_joined : {old new : Chain P} (side : Side) (a b : Chain P) → TellsSoFar shape (ChosenOf side (IsWorth shape a) (IsWorth shape b)) old
      → JoinsBoth side a b old new → TellsSoFar shape (ChosenOf side (IsWorth shape a) (IsWorth shape b)) new
  tells_joined side a b so_far both = tells_join shape (ChosenOf side (IsWorth shape a) (IsWorth shape b)) side so_far both.joins
      (λ t v x y w. (value_at (shape.function both.p) t, value_at (shape.function both.q) t, both.left t x y, both.right t x y, w))

  -- what is refused for a crossing of two parts is a fault of the two chains
  pub fault_of_parts : (a b : Chain P) (p q : P) (from to : Frac) (e : OpFault P) → IsGapFault shape p q from to e → a.from.at ≤ʳ value from
      → value to ≤ʳ (stop a).at → HasShape a p → HasShape b q → HasPart shape a (value from) (value to) p → HasPart shape b (value from) (value to) q
      → IsJoinFault shape a b e
  fault_of_parts a b p q from to F.Memory h above below first second left right = tt
  fault_of_parts a b p q from to (F.Wide (Cross x y c d den)) (e, f, i, j, m) above below first second left right =
      let Wide = λ (x y : P) (c d : Frac). IsWideMeeting shape a b x y (value c) (value d) den in
      subst (λ x. Wide x y c d) (sym e) (subst (λ y. Wide p y c d) (sym f) (subst (λ c. Wide p q c d) (sym i) (subst (λ d. Wide p q from d) (sym j)
      (record {
        after_start = above;
        before_stop = below;
        first = first;
        second = second;
        left = left;
        right = right;
        at = m.0;
        meet = m.1;
        denominator = m.2;
        wide = m.3;
      }))))
  fault_of_parts a b p q from to (F.Wide (Value x c den)) h above below first second left right = absurd h

  -- and it is one for a cause in the step
  pub cause_of_fault : (a b : Chain P) (e : OpFault P) → IsJoinFault shape a b e
      → HasCause shape (of_two (IsWorth shape a) (IsWorth shape b)) a.from.at (stop a).at e
  cause_of_fault a b F.Memory h = tt
  cause_of_fault a b (F.Wide (Cross p q c d den)) h = record {
    tau = h.at;
    after_start = lt_of_le_of_lt h.after_start h.meet.after;
    before_stop = lt_of_lt_of_le h.meet.before h.before_stop;
    above = h.meet.after;
    below = h.meet.before;
    first = inl (record {
      a = value c;
      b = value d;
      above = h.meet.after;
      below = h.meet.before;
      on = λ t x y. (value_at (shape.function p) t, h.left t x y, same_reflᵉ (value_at (shape.function p) t));
    });
    second = inr (record {
      a = value c;
      b = value d;
      above = h.meet.after;
      below = h.meet.before;
      on = λ t x y. (value_at (shape.function q) t, h.right t x y, same_reflᵉ (value_at (shape.function q) t));
    });
    meet = h.meet.meet;
    alone = h.meet.alone;
    denominator = h.denominator;
    wide = h.wide;
  }
  cause_of_fault a b (F.Wide (Value p at den)) h = absurd h

  -- so for an answer that may be refused
  pub causes_of_faults : {R : Type 0} (a b : Chain P) (r : Result R (OpFault P)) → IfErr r (IsJoinFault shape a b)
      → IfErr r (HasCause shape (of_two (IsWorth shape a) (IsWorth shape b)) a.from.at (stop a).at)
  causes_of_faults a b (Ok x) h = h
  causes_of_faults a b (Err e) h = cause_of_fault a b e h
