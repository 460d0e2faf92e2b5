-- Chains that tell a function of time, and how they are built.
use Rattle.std.proofs.Common.{◌≡◌, ◌⊎◌, inl, inr, [], sym, subst}
use Rattle.rational.specs.Time.{Rational}
use Rattle.rational.specs.Extended.{Extended, Passes, value_at}
use Rattle.rational.specs.Places.{Place, After, Upto, Same}
use Rattle.rational.specs.Windows.{Function}
use Rattle.rational.proofs.Order.{same_refl}
use Rattle.rational.proofs.Sames.{symᵉ}
use Rattle.rational.proofs.AffineLemmas.{same_reflᵉ}
use Rattle.rational.proofs.TimeFunctions.{IsFunction}
use Rattle.rational.proofs.PlaceLemmas.{after_same, upto_same, same_places}
use Rattle.frac128.specs.Cuts.{place}
use Rattle.frac128.specs.declared.cut.Cut.{Cut}
use Rattle.value_laws.specs.Members.{ShapeOf}
use Rattle.pl_signal.specs.declared.joining.Side.{Side}
use Rattle.pl_signal.specs.Joining.{IsChosen, ChosenOf}
use Rattle.pl_signal.proofs.Choices.{chosen_same, chosen_once}
use Rattle.pieces.specs.Chains.{Chain, stop, IsWorth, IsNormal, Rise, Tells}
use Rattle.pieces.specs.Building.{GoesOn}
use Rattle.pieces.specs.Joining.{Joins}
use Rattle.pieces.proofs.ChainLemmas.{worth_after, worth_upto, every_time, one_value, worth_same}

-- what is chosen of two functions of time is one
pub chosen_is_function : (side : Side) (A B : Function) → IsFunction A → IsFunction B → IsFunction (ChosenOf side A B)
chosen_is_function side A B f g = record {
  alike = λ t u v w e s (x, y, a, b, m). (x, y, f.alike t u x x e (same_reflᵉ x) a, g.alike t u y y e (same_reflᵉ y) b, chosen_same side x y v w s m);
  one = λ t v w (x, y, a, b, m) (x', y', a', b', m'). record {
    at_most = chosen_once side x y x' y' v w (f.one t x x' a a') (g.one t y y' b b') m m';
    at_least = chosen_once side x' y' x y w v (f.one t x' x a' a) (g.one t y' y b' b) m' m;
  };
}

module _ {P : Type 0} (shape : ShapeOf P) where
  -- what a chain is worth is a function of time
  pub rising_is_function : (chain : Chain P) → Rise chain.from chain.pieces → IsFunction (IsWorth shape chain)
  rising_is_function chain rising = record {
    alike = λ t u v w e f h. worth_same shape chain.from chain.pieces v w e f h;
    one = λ t v w a b. one_value shape chain.from chain.pieces t v w rising a b;
  }

  pub worth_is_function : (chain : Chain P) → IsNormal shape chain → IsFunction (IsWorth shape chain)
  worth_is_function chain s = rising_is_function chain s.rising

  -- all that the chain tells so far is what F says
  pub record TellsSoFar (F : Function) (chain : Chain P) : Type 0 where
    -- the chain is normal
    pub normal : IsNormal shape chain
    -- and all that it is worth is what F says
    pub worth : (t : Rational) (v : Extended) → IsWorth shape chain t v → F t v

  -- where all that a chain tells is what F says, it tells F between its ends
  pub told : (F : Function) (from to : Place) (chain : Chain P) → IsFunction F → TellsSoFar F chain → Same chain.from from → Same (stop chain) to
      → Tells shape F from to chain
  told F from to chain is s begins ends = record {
    normal = s.normal;
    begins = begins;
    ends = ends;
    worth = λ t v. (
      λ w. (
        after_same chain.from from t begins (worth_after shape chain.from chain.pieces t v s.normal.rising w),
        upto_same (stop chain) to t ends (worth_upto shape chain.from chain.pieces t v s.normal.rising w),
        s.worth t v w,
      ),
      λ h. by_value t v h.0 h.1 h.2,
    );
  }
    where
      by_value : (t : Rational) (v : Extended) → After from t → Upto to t → F t v → IsWorth shape chain t v
      by_value t v a u f =
          let x = every_time shape chain.from chain.pieces t (after_same from chain.from t (same_places begins) a)
          (upto_same to (stop chain) t (same_places ends) u) in
          worth_same shape chain.from chain.pieces x.0 v (same_refl t) (is.one t x.0 v (s.worth t x.0 x.1) f) x.1

  -- no piece yet
  pub tells_none : (F : Function) (from : Place) (chain : Chain P) → chain ≡ record { from = from; pieces = [] } → TellsSoFar F chain
  tells_none F from chain e = subst (λ x. TellsSoFar F x) (sym e) (record { normal = record { rising = tt; each = tt }; worth = λ t v w. absurd w })

  -- it goes on telling F
  pub tells_on : {old new : Chain P} {until : Cut} {more : P} (F : Function) → IsFunction F → TellsSoFar F old → GoesOn shape old until more new
      → ((t : Rational) → After (stop old) t → Upto (place until) t → F t (value_at (shape.function more) t)) → TellsSoFar F new
  tells_on {old} {until = until} {more = more} F is s on here = record { normal = on.normal; worth = λ t v w. by_part t v ((on.worth t v).0 w) }
    where
      by_part : (t : Rational) (v : Extended) → IsWorth shape old t v ⊎ (After (stop old) t × Upto (place until) t × Passes (shape.function more) t v) → F t v
      by_part t v (inl w) = s.worth t v w
      by_part t v (inr w) = is.alike t t (value_at (shape.function more) t) v (same_refl t) (symᵉ w.2) (here t w.0 w.1)

  -- and by the least or the greatest of two shapes
  pub tells_join : {old new : Chain P} {p q : P} {until : Cut} (F : Function) (side : Side) → TellsSoFar F old → Joins shape side old p q until new
      → ((t : Rational) (v : Extended) → After (stop old) t → Upto (place until) t
      → IsChosen side (value_at (shape.function p) t) (value_at (shape.function q) t) v → F t v) → TellsSoFar F new
  tells_join {old} {p = p} {q = q} {until = until} F side s joins here =
      record { normal = joins.normal; worth = λ t v w. by_part t v ((joins.worth t v).0 w) }
    where
      by_part : (t : Rational) (v : Extended) → IsWorth shape old t v ⊎ (After (stop old) t × Upto (place until) t
          × IsChosen side (value_at (shape.function p) t) (value_at (shape.function q) t) v) → F t v
      by_part t v (inl w) = s.worth t v w
      by_part t v (inr w) = here t v w.0 w.1 w.2
