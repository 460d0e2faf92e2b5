-- The Sup and the Inf over a window of a signal, as functions over the domain of a setting.
use Rattle.std.proofs.Common.{◌≡◌, ◌⊎◌, inl, inr, ℕ, ℤ, pos, ◌≤◌, ◌^◌, ◌-◌, ◌-ℤ◌, ◌+ℤ◌, Bool, arith}
use Rattle.std.specs.Prelude.{Option, Some, None, IfSome, IsTrue}
use Rattle.std.proofs.lemmas.Int.{ints}
use Rattle.rational.specs.Time.{Rational, Within, whole, ◌≤ʳ◌, ◌<ʳ◌}
use Rattle.rational.specs.Extended.{Extended}
use Rattle.rational.specs.Affine.{IsBounded}
use Rattle.rational.specs.Windows.{Function, Window, Ahead, Behind, IsSupOver, IsInfOver}
use Rattle.rational.specs.InPlay.{Step, window_ahead, window_behind}
use Rattle.rational.proofs.Order.{lt_of_le_of_lt, same_sym}
use Rattle.rational.proofs.Shift.{lt_whole}
use Rattle.rational.proofs.WindowLemmas.{sup_alike, inf_alike}
use Rattle.pl_signal.specs.declared.faults.OpFault.{OpFault}
use Rattle.pl_signal.specs.Wide.{HasCause}
use Rattle.pieces.specs.Windows.{SupAhead, InfAhead, SupBehind, InfBehind}
use Rattle.stl_syntax.specs.Formula.{Subformula}
use Rattle.stl_syntax.specs.SupInf.{Setting}
use Rattle.stl_syntax.specs.WideCause.{IsStepOf}
use Rattle.stl_syntax.specs.Limits.{reach_of_bound}
use Rattle.stl_syntax.specs.WellFormed.{IsInOrder}
use Rattle.pieces.proofs.PlayAlong.{ahead_ends, behind_ends, ahead_along, behind_along}
use Rattle.offline_eval.specs.Forms.{Form}
use Rattle.offline_eval.specs.Making.{IsFaultOf}
use Rattle.offline_eval.proofs.Along.{tells_along}
use Rattle.rational.proofs.Bounds.{sup_bounded, inf_bounded}
use Rattle.offline_eval.proofs.Causes.{cause_of, on_of}
use Rattle.offline_eval.proofs.Forms.{FormLaws, IsTold}
use Rattle.offline_eval.proofs.Sound.{IsMovedBy}

-- what ends by the last tick ends before the tick after it
pub before_end : {t : Rational} → t ≤ʳ whole (pos (2 ^ 32 - 1)) → t <ʳ whole (pos (2 ^ 32))
before_end h = lt_of_le_of_lt h (lt_whole {j = pos (2 ^ 32 - 1)} {k = pos (2 ^ 32)} (omega (arith, ints)))

module _ {X P : Type 0} {form : Form X P} (laws : FormLaws form) where
  -- the Sup over a window of what a signal tells
  pub sup_of : (F : Function) (from to : Rational) (x : X) (W W' : Window) (r : Extended) → IsTold form F from to x
      → ((u : Rational) → W u → W' u) → ((u : Rational) → W' u → W u) → ((u : Rational) → W' u → Within from to u)
      → (IsSupOver form.shape.lowest W (form.IsWorth x) r → IsSupOver form.shape.lowest W' F r)
      × (IsSupOver form.shape.lowest W' F r → IsSupOver form.shape.lowest W (form.IsWorth x) r)
  sup_of F from to x W W' r told forth back inside = (
    sup_alike form.shape.lowest r (λ v (u, w, f). (u, forth u w, ((told.worth u v).0 f).1)) (λ v (u, w, f). (u, back u w, (told.worth u v).1 (inside u w, f))),
    sup_alike form.shape.lowest r (λ v (u, w, f). (u, back u w, (told.worth u v).1 (inside u w, f))) (λ v (u, w, f). (u, forth u w, ((told.worth u v).0 f).1)),
  )

  -- so for the Inf
  pub inf_of : (F : Function) (from to : Rational) (x : X) (W W' : Window) (r : Extended) → IsTold form F from to x
      → ((u : Rational) → W u → W' u) → ((u : Rational) → W' u → W u) → ((u : Rational) → W' u → Within from to u)
      → (IsInfOver form.shape.highest W (form.IsWorth x) r → IsInfOver form.shape.highest W' F r)
      × (IsInfOver form.shape.highest W' F r → IsInfOver form.shape.highest W (form.IsWorth x) r)
  inf_of F from to x W W' r told forth back inside = (
    inf_alike form.shape.highest r (λ v (u, w, f). (u, forth u w, ((told.worth u v).0 f).1)) (λ v (u, w, f). (u, back u w, (told.worth u v).1 (inside u w, f))),
    inf_alike form.shape.highest r (λ v (u, w, f). (u, back u w, (told.worth u v).1 (inside u w, f))) (λ v (u, w, f). (u, forth u w, ((told.worth u v).0 f).1)),
  )

  module _ (F : Function) (from to : Rational) (x r : X) (told : IsTold form F from to x) where
    -- the Sup ahead as a function over the domain
    pub sup_ahead_told : (a b : ℕ) (a_in b_in : Bool) → form.Tells (SupAhead (form.start x) (form.stop x) (form.IsWorth x) form.shape.lowest a b a_in b_in)
        (form.start x) (form.stop x) r
        → form.Tells (λ t v. IsSupOver form.shape.lowest (Ahead from to a b a_in b_in t) F v) from to r
    sup_ahead_told a b a_in b_in made = tells_along laws _ _ (form.start x) (form.stop x) from to r made told.begins told.ends
        (λ t v i. sup_of F from to x (Ahead (form.start x) (form.stop x) a b a_in b_in t) (Ahead from to a b a_in b_in t) v told
        (λ u w. ahead_ends (form.start x) (form.stop x) from to told.begins told.ends w)
        (λ u w. ahead_ends from to (form.start x) (form.stop x) (same_sym told.begins) (same_sym told.ends) w) (λ u w. w.inside))

    -- the Inf ahead
    pub inf_ahead_told : (a b : ℕ) (a_in b_in : Bool) → form.Tells (InfAhead (form.start x) (form.stop x) (form.IsWorth x) form.shape.highest a b a_in b_in)
        (form.start x) (form.stop x) r
        → form.Tells (λ t v. IsInfOver form.shape.highest (Ahead from to a b a_in b_in t) F v) from to r
    inf_ahead_told a b a_in b_in made = tells_along laws _ _ (form.start x) (form.stop x) from to r made told.begins told.ends
        (λ t v i. inf_of F from to x (Ahead (form.start x) (form.stop x) a b a_in b_in t) (Ahead from to a b a_in b_in t) v told
        (λ u w. ahead_ends (form.start x) (form.stop x) from to told.begins told.ends w)
        (λ u w. ahead_ends from to (form.start x) (form.stop x) (same_sym told.begins) (same_sym told.ends) w) (λ u w. w.inside))

    -- the Sup behind
    pub sup_behind_told : (a : ℕ) (b : Option ℕ) (a_in b_in : Bool)
        → form.Tells (SupBehind (form.start x) (form.stop x) (form.IsWorth x) form.shape.lowest a b a_in b_in) (form.start x) (form.stop x) r
        → form.Tells (λ t v. IsSupOver form.shape.lowest (Behind from to a b a_in b_in t) F v) from to r
    sup_behind_told a b a_in b_in made = tells_along laws _ _ (form.start x) (form.stop x) from to r made told.begins told.ends
        (λ t v i. sup_of F from to x (Behind (form.start x) (form.stop x) a b a_in b_in t) (Behind from to a b a_in b_in t) v told
        (λ u w. behind_ends (form.start x) (form.stop x) from to told.begins told.ends w)
        (λ u w. behind_ends from to (form.start x) (form.stop x) (same_sym told.begins) (same_sym told.ends) w) (λ u w. w.inside))

    -- the Inf behind
    pub inf_behind_told : (a : ℕ) (b : Option ℕ) (a_in b_in : Bool)
        → form.Tells (InfBehind (form.start x) (form.stop x) (form.IsWorth x) form.shape.highest a b a_in b_in) (form.start x) (form.stop x) r
        → form.Tells (λ t v. IsInfOver form.shape.highest (Behind from to a b a_in b_in t) F v) from to r
    inf_behind_told a b a_in b_in made = tells_along laws _ _ (form.start x) (form.stop x) from to r made told.begins told.ends
        (λ t v i. inf_of F from to x (Behind (form.start x) (form.stop x) a b a_in b_in t) (Behind from to a b a_in b_in t) v told
        (λ u w. behind_ends (form.start x) (form.stop x) from to told.begins told.ends w)
        (λ u w. behind_ends from to (form.start x) (form.stop x) (same_sym told.begins) (same_sym told.ends) w) (λ u w. w.inside))

  -- the Sup and the Inf over a window of a limited signal are bounded
  pub sup_over_bounded : (x : X) (W : Window) (r : Extended) → IsBounded (2 ^ 31) form.shape.lowest → form.IsLimited x
      → IsSupOver form.shape.lowest W (form.IsWorth x) r → IsBounded (2 ^ 31) r
  sup_over_bounded x W r low limited sup = sup_bounded (2 ^ 31) _ form.shape.lowest r low (λ v (u, w, f). laws.bounded x limited u v f) sup

  -- so for the Inf
  pub inf_over_bounded : (x : X) (W : Window) (r : Extended) → IsBounded (2 ^ 31) form.shape.highest → form.IsLimited x
      → IsInfOver form.shape.highest W (form.IsWorth x) r → IsBounded (2 ^ 31) r
  inf_over_bounded x W r high limited inf = inf_bounded (2 ^ 31) form.shape.highest _ r inf high (λ v (u, w, f). laws.bounded x limited u v f)

  -- a cause in the step of a window ahead is a fault of the formula of which it is a step
  pub ahead_cause : (F : Function) (x : X) (a b : ℕ) (a_in b_in : Bool) (p : Subformula) (s : Setting) (e : OpFault P)
      → form.Tells F s.from s.to x → ((C : Step → Type 0) → C (window_ahead F a b a_in b_in) → IsStepOf p s C)
      → HasCause form.shape (window_ahead (form.IsWorth x) a b a_in b_in) (form.start x) (form.stop x) e → IsFaultOf form.shape s p e
  ahead_cause F x a b a_in b_in p s e tells is h =
      let told = laws.told F s.from s.to x tells in
      cause_of form.shape (window_ahead (form.IsWorth x) a b a_in b_in) (window_ahead F a b a_in b_in) (form.start x)
      (form.stop x) p s e told.begins told.ends
      (λ tau line k l i. ahead_along (form.start x) (form.stop x) s.from s.to told.begins told.ends (form.IsWorth x) F
      (on_of laws F s.from s.to x tells) a b a_in b_in tau line i) is h

  -- and for one behind
  pub behind_cause : (F : Function) (x : X) (a : ℕ) (b : Option ℕ) (a_in b_in : Bool) (p : Subformula) (s : Setting) (e : OpFault P)
      → form.Tells F s.from s.to x → ((C : Step → Type 0) → C (window_behind F a b a_in b_in) → IsStepOf p s C)
      → HasCause form.shape (window_behind (form.IsWorth x) a b a_in b_in) (form.start x) (form.stop x) e → IsFaultOf form.shape s p e
  behind_cause F x a b a_in b_in p s e tells is h =
      let told = laws.told F s.from s.to x tells in
      cause_of form.shape (window_behind (form.IsWorth x) a b a_in b_in) (window_behind F a b a_in b_in) (form.start x)
      (form.stop x) p s e told.begins told.ends
      (λ tau line k l i. behind_along (form.start x) (form.stop x) s.from s.to told.begins told.ends (form.IsWorth x) F
      (on_of laws F s.from s.to x tells) a b a_in b_in tau line i) is h

-- bases that a window moved
moved_ahead : (a b : ℕ) (old new : ℤ) → a ≤ b → (new ≡ old -ℤ pos a) ⊎ (new ≡ old -ℤ pos b) → IsMovedBy b old new
moved_ahead a b old new o (inl e) = record { not_less = omega (arith, ints, o, e); not_more = omega (arith, ints, o, e) }
moved_ahead a b old new o (inr e) = record { not_less = omega (arith, ints, o, e); not_more = omega (arith, ints, o, e) }

moved_more : (a b : ℕ) (old new : ℤ) → a ≤ b → new ≡ old +ℤ pos a → IsMovedBy b old new
moved_more a b old new o e = record { not_less = omega (arith, ints, o, e); not_more = omega (arith, ints, o, e) }

module _ {X P : Type 0} (form : Form X P) where
  -- each moving shape of the new signal has the base of a moving shape of the old one, less one of the two bounds
  abbrev pub BasesAhead : ℕ → ℕ → X → X → Type 0
  BasesAhead a b old new = (p : P) → form.HasShape new p → IsTrue (form.shape.moves p) → (q : P) × form.HasShape old q
      × IsTrue (form.shape.moves q) × ((form.shape.base p ≡ form.shape.base q -ℤ pos a) ⊎ (form.shape.base p ≡ form.shape.base q -ℤ pos b))

  -- more by one of the finite bounds
  abbrev pub BasesBehind : ℕ → Option ℕ → X → X → Type 0
  BasesBehind a None old new = (p : P) → form.HasShape new p → IsTrue (form.shape.moves p) → (q : P) × form.HasShape old q
      × IsTrue (form.shape.moves q) × (form.shape.base p ≡ form.shape.base q +ℤ pos a)
  BasesBehind a (Some b) old new = (p : P) → form.HasShape new p → IsTrue (form.shape.moves p) → (q : P) × form.HasShape old q
      × IsTrue (form.shape.moves q) × ((form.shape.base p ≡ form.shape.base q +ℤ pos a) ⊎ (form.shape.base p ≡ form.shape.base q +ℤ pos b))

  -- the shape of the old signal from which one of the new signal was made
  abbrev pub ComesFrom : ℕ → X → P → Type 0
  ComesFrom own x p = (q : P) × form.HasShape x q × IsTrue (form.shape.moves q) × IsMovedBy own (form.shape.base q) (form.shape.base p)

  -- the shapes of a window ahead come from within its bounds
  pub ahead_from : (a b : ℕ) (x r : X) → a ≤ b → BasesAhead a b x r → (p : P) → form.HasShape r p → IsTrue (form.shape.moves p) → ComesFrom b x p
  ahead_from a b x r o bases p h m = let f = bases p h m in (f.0, f.1, f.2, moved_ahead a b (form.shape.base f.0) (form.shape.base p) o f.3)

  -- so for one behind
  pub behind_from : (a : ℕ) (b : Option ℕ) (x r : X) → IsInOrder a b → BasesBehind a b x r → (p : P) → form.HasShape r p
      → IsTrue (form.shape.moves p) → ComesFrom (reach_of_bound a b) x p
  behind_from a None x r o bases p h m = let f = bases p h m in (f.0, f.1, f.2, moved_more a a (form.shape.base f.0) (form.shape.base p) (omega arith) f.3)
  behind_from a (Some b) x r o bases p h m = let f = bases p h m in (f.0, f.1, f.2, by_one (form.shape.base f.0) (form.shape.base p) f.3)
    where
      by_one : (old new : ℤ) → (new ≡ old +ℤ pos a) ⊎ (new ≡ old +ℤ pos b) → IsMovedBy b old new
      by_one old new (inl e) = moved_more a b old new o e
      by_one old new (inr e) = moved_more b b old new (omega arith) e

  -- and are moved by no more than its bounds
  pub ahead_moved : (a b : ℕ) (x r : X) → a ≤ b → BasesAhead a b x r → (p : P) → form.HasShape r p → IsTrue (form.shape.moves p) → (q : P)
      × form.HasShape x q × IsMovedBy b (form.shape.base q) (form.shape.base p)
  ahead_moved a b x r o bases p h m = let f = ahead_from a b x r o bases p h m in (f.0, f.1, f.3)

  -- so for one behind
  pub behind_moved : (a : ℕ) (b : Option ℕ) (x r : X) → IsInOrder a b → BasesBehind a b x r → (p : P) → form.HasShape r p
      → IsTrue (form.shape.moves p) → (q : P) × form.HasShape x q × IsMovedBy (reach_of_bound a b) (form.shape.base q) (form.shape.base p)
  behind_moved a b x r o bases p h m = let f = behind_from a b x r o bases p h m in (f.0, f.1, f.3)

-- bounds in order
pub in_order : (a : ℕ) (b : Option ℕ) → IsInOrder a b → IfSome b (λ b. a ≤ b)
in_order a None h = tt
in_order a (Some b) h = h

-- the lower bound is within the reach
pub reach_of_order : (a : ℕ) (b : Option ℕ) → IsInOrder a b → a ≤ reach_of_bound a b
reach_of_order a None h = omega arith
reach_of_order a (Some b) h = h
