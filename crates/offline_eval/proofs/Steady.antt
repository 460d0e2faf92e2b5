-- A chain that is one shape over the whole domain.
use Rattle.std.proofs.Common.{◌≡◌, ◌⊎◌, inl, inr, ℕ, pos, ◌≤ℤ◌, Bool, true, false, ◌<◌, ◌≤◌, ◌^◌, [], refl, ap, ◌∙◌, sym, subst, arith}
use Rattle.std.proofs.lemmas.Int.{ints}
use Rattle.rational.specs.Time.{Rational, whole, ◌≤ʳ◌, ◌<ʳ◌, ◌≈◌}
use Rattle.std.specs.Prelude.{MatchBool}
use Rattle.rational.specs.Affine.{IsBounded}
use Rattle.rational.specs.Extended.{Extended, Affine, value_at, ◌≈ᵉ◌, Passes}
use Rattle.rational.proofs.Order.{same_refl, same_of_le, le_or_lt, le_trans, le_of_same, ge_of_same}
use Rattle.rational.specs.Places.{Before, Same}
use Rattle.rational.proofs.Shift.{le_whole}
use Rattle.rational.proofs.AffineLemmas.{bounded_same, passes, same_symᵉ, same_transᵉ, value_same}
use Rattle.rational.proofs.Mixed.{tick_within}
use Rattle.frac128.specs.Value.{value}
use Rattle.frac128.specs.declared.frac.Frac.{Frac}
use Rattle.value_laws.specs.Members.{ShapeOf}
use Rattle.pl_signal.specs.Knots.{HasShape}
use Rattle.pl_signal.specs.Building.{GoesOn}
use Rattle.pl_signal.specs.Moves.{Tells}
use Rattle.pieces.specs.Building as growing
use Rattle.pieces.specs.Chains as chains
use Rattle.pieces.specs.Chains.{Chain}
use Rattle.pieces.specs.Knots.{before, after}
use Rattle.stl_syntax.specs.Formula.{constant}
use Rattle.stl_syntax.specs.SupInf.{Setting, SupInf}
use Rattle.offline_eval.specs.Forms.{Form}
use Rattle.offline_eval.specs.Inputs.{IsOver}
use Rattle.offline_eval.specs.Making.{IsSound, TellsValue}
use Rattle.offline_eval.proofs.Along.{tells_along}
use Rattle.offline_eval.proofs.Forms.{FormLaws}
use Rattle.offline_eval.proofs.Sound.{reached_zero}
use Rattle.pl_signal.proofs.Telling.{IsFunction, told}
use Rattle.pieces.proofs.ChainsTell.{tells_none, tells_on}
use Rattle.pieces.proofs.ChainsTell.{told as of_chain}

-- just before a tick comes before just after one that is no earlier
pub tick_places : {a b : Rational} (n m : ℕ) → n ≤ m → a ≈ whole (pos n) → b ≈ whole (pos m) → Before (before a) (after b)
tick_places {a} {b} n m h e f = by_order (le_or_lt b a)
  where
    below : (n m : ℕ) → n ≤ m → pos n ≤ℤ pos m
    below n m h = omega (arith, ints, h)

    order : a ≤ʳ b
    order = le_trans (le_of_same e) (le_trans (le_whole (below n m h)) (ge_of_same f))

    by_order : (b ≤ʳ a) ⊎ (a <ʳ b) → Before (before a) (after b)
    by_order (inl k) = inr (same_of_le order k, refl, refl)
    by_order (inr k) = inl k

module _ {P : Type 0} (shape : ShapeOf P) where
  line_is_function : (p : P) → IsFunction (Passes (shape.function p))
  line_is_function p = record {
    alike = λ t u v w e f h. same_transᵉ w v (value_at (shape.function p) u) (same_symᵉ v w f)
        (same_transᵉ v (value_at (shape.function p) t) (value_at (shape.function p) u) h (value_same (shape.function p) e));
    one = λ t v w a b. same_transᵉ v (value_at (shape.function p) t) w a (same_symᵉ w (value_at (shape.function p) t) b);
  }

  -- the chain of one piece tells its shape
  pub steady_chain : (old new : Chain P) (at till : Frac) (p : P) (from to : Rational) → old ≡ record { from = before (value at); pieces = [] }
      → growing.GoesOn shape old (record { time = till; side = 1 }) p new → value at ≈ from → value till ≈ to
      → chains.Tells shape (Passes (shape.function p)) (before from) (after to) new
  steady_chain old new at till p from to e on begins ends =
      let line = shape.function p in
      of_chain shape (Passes line) (before from) (after to) new (line_is_function p)
      (tells_on shape (Passes line) (line_is_function p) (tells_none shape (Passes line) (before (value at)) old e) on (λ t a u. passes line t))
      (subst (λ c. Same c (before from)) (sym (on.begins ∙ ap (λ x. x.from) e)) (begins, refl)) (subst (λ c. Same c (after to)) (sym on.ends) (ends, refl))

  -- its one shape
  pub steady_chain_shapes : (old new : Chain P) (at till : Frac) (p : P) → old ≡ record { from = before (value at); pieces = [] }
      → growing.GoesOn shape old (record { time = till; side = 1 }) p new → (q : P) → chains.HasShape new q → q ≡ p
  steady_chain_shapes old new at till p e on q h = by_part (on.shapes q h)
    where
      by_part : chains.HasShape old q ⊎ (q ≡ p) → q ≡ p
      by_part (inl w) = absurd (subst (λ x. chains.HasShape x q) e w)
      by_part (inr w) = w

module _ {X P : Type 0} {form : Form X P} (laws : FormLaws form) where
  -- it is sound, since its one shape is bounded and does not move
  pub steady_sound : (from to : ℕ) (r : X) (p : P) → from ≤ to → to < 2 ^ 32
      → form.Tells (Passes (form.shape.function p)) (whole (pos from)) (whole (pos to)) r
      → ((q : P) → form.HasShape r q → q ≡ p) → form.shape.base p ≡ pos 0
      → ((t : Rational) → IsBounded (2 ^ 31) (value_at (form.shape.function p) t)) → IsSound form from to 0 r
  steady_sound from to r p order small tells shapes still bounded =
      let line = form.shape.function p in
      let is = laws.told (Passes line) (whole (pos from)) (whole (pos to)) r tells in
      record {
        begins = is.begins;
        ends = is.ends;
        limited = laws.limited (Passes line) (whole (pos from)) (whole (pos to)) r tells
            (λ t v w. bounded_same (2 ^ 31) v (value_at line t) w (bounded t))
            (tick_within from (omega (arith, order, small)) (same_refl (whole (pos from)))) (tick_within to small (same_refl (whole (pos to))));
        bases = λ q h. reached_zero 0 (form.shape.base q) (subst (λ q. form.shape.base q ≡ pos 0) (sym (shapes q h)) still);
      }

  -- true has the greatest value, and false the least
  pub told_constant : (from to : ℕ) (holds : Bool) (p : P) (r : X)
      → form.Tells (Passes (form.shape.function p)) (whole (pos from)) (whole (pos to)) r
      → MatchBool holds ((t : Rational) → value_at (form.shape.function p) t ≈ᵉ form.shape.highest)
      ((t : Rational) → value_at (form.shape.function p) t ≈ᵉ form.shape.lowest)
      → (s : Setting) → IsOver form.shape.lowest form.shape.highest from to s → TellsValue form s (constant holds) r
  told_constant from to holds p r tells value s over =
      tells_along laws (Passes (form.shape.function p)) (SupInf (constant holds) s) (whole (pos from)) (whole (pos to)) s.from s.to r tells
      (same_of (sym over.from)) (same_of (sym over.to)) (λ t v i. by_value holds value t v)
    where
      same_of : {a b : Rational} → a ≡ b → a ≈ b
      same_of {a} e = subst (λ b. a ≈ b) e (same_refl a)

      by_value : (holds : Bool) → MatchBool holds ((t : Rational) → value_at (form.shape.function p) t ≈ᵉ form.shape.highest)
          ((t : Rational) → value_at (form.shape.function p) t ≈ᵉ form.shape.lowest) → (t : Rational) (v : Extended)
          → (Passes (form.shape.function p) t v → SupInf (constant holds) s t v) × (SupInf (constant holds) s t v → Passes (form.shape.function p) t v)
      by_value true h t v =
          let is : value_at (form.shape.function p) t ≈ᵉ s.highest =
          subst (λ x. value_at (form.shape.function p) t ≈ᵉ x) (sym over.highest) (h t) in (
            λ w. same_transᵉ v (value_at (form.shape.function p) t) s.highest w is,
            λ w. same_transᵉ v s.highest (value_at (form.shape.function p) t) w (same_symᵉ (value_at (form.shape.function p) t) s.highest is),
          )
      by_value false h t v =
          let is : value_at (form.shape.function p) t ≈ᵉ s.lowest =
          subst (λ x. value_at (form.shape.function p) t ≈ᵉ x) (sym over.lowest) (h t) in (
            λ w. same_transᵉ v (value_at (form.shape.function p) t) s.lowest w is,
            λ w. same_transᵉ v s.lowest (value_at (form.shape.function p) t) w (same_symᵉ (value_at (form.shape.function p) t) s.lowest is),
          )

-- the extreme values are bounded
pub extreme_bounded : (f : Affine) (lowest highest : Extended) (holds : Bool) → IsBounded (2 ^ 31) lowest → IsBounded (2 ^ 31) highest
    → MatchBool holds ((t : Rational) → value_at f t ≈ᵉ highest) ((t : Rational) → value_at f t ≈ᵉ lowest) → (t : Rational) → IsBounded (2 ^ 31) (value_at f t)
extreme_bounded f lowest highest true low high h t = bounded_same (2 ^ 31) (value_at f t) highest (h t) high
extreme_bounded f lowest highest false low high h t = bounded_same (2 ^ 31) (value_at f t) lowest (h t) low
