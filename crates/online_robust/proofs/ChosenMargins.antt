-- Margins negated, and chosen of two, at a time.
use Rattle.std.proofs.Common.{◌≡◌, ◌⊎◌, inl, inr, ℕ, ℤ, pos, neg_ℤ, ◌+◌, ◌^◌, Bool, true, false, refl, sym, subst, arith}
use Rattle.std.specs.Prelude.{IsTrue, ◌≤ℤ◌, ◌<ℤ◌}
use Rattle.std.proofs.lemmas.Int.{ints}
use Rattle.rational.specs.Time.{Rational}
use Rattle.rational.specs.Extended.{Extended, opposite, value_at, ◌≈ᵉ◌}
use Rattle.rational.specs.Affine.{IsBounded, HasBoundedLevel}
use Rattle.rational.specs.Windows.{Function}
use Rattle.rational.proofs.Order.{same_refl}
use Rattle.rational.proofs.ExtendedLemmas.{opposite_twice}
use Rattle.rational.proofs.AffineLemmas.{same_reflᵉ, bounded_same, opposite_back, opposite_same}
use Rattle.rational.proofs.Sames.{symᵉ}
use Rattle.rational.proofs.Bounds.{greatest_bounded, least_bounded, level_bounded, opposite_bounded}
use Rattle.rational.proofs.TimeFunctions.{IsFunction}
use Rattle.value_laws.specs.Margins.{is_ramp, margin_base, margin_function, others_base}
use Rattle.value_laws.specs.declared.margin.Margin.{Margin}
use Rattle.pl_signal.specs.declared.joining.Side.{Side}
use Rattle.pl_signal.specs.declared.joining.Side.TheVariants.{Least, Greatest}
use Rattle.pl_signal.specs.Joining.{IsChosen, ChosenOf}
use Rattle.pl_signal.proofs.Choices.{chosen_same, chosen_once}
use Rattle.online_robust.specs.Told.{IsMovedBy}
use Rattle.online_robust.specs.ReadLines.{IsThere, turned_by, value_turned}

-- minus a function of time is one
pub turned_is_function : (b : Bool) (P : Function) → IsFunction P → IsFunction (turned_by b P)
turned_is_function false P is = is
turned_is_function true P is = record {
  alike = λ t u v w e f h. is.alike t u (opposite v) (opposite w) e (opposite_same v w f) h;
  one = λ t v w a b. from_opposites v w (is.one t (opposite v) (opposite w) a b);
}
  where
    from_opposites : (v w : Extended) → opposite v ≈ᵉ opposite w → v ≈ᵉ w
    from_opposites v w h = let e = opposite_back (opposite v) w h in symᵉ (rw opposite_twice at e)

-- what is chosen of two functions of time is one
pub chosen_is_function : (side : Side) (A B : Function) → IsFunction A → IsFunction B → IsFunction (ChosenOf side A B)
chosen_is_function side A B a b = record {
  alike = λ t u v w e f (x, y, h, k, m).
      (x, y, a.alike t u x x e (same_reflᵉ x) h, b.alike t u y y e (same_reflᵉ y) k, chosen_same side x y v w f m);
  one = λ t v w (x, y, h, k, m) (x', y', h', k', m'). record {
    at_most = chosen_once side x y x' y' v w (a.one t x x' h h') (b.one t y y' k k') m m';
    at_least = chosen_once side x' y' x y w v (a.one t x' x h' h) (b.one t y' y k' k) m' m;
  };
}

-- a margin with the base of another, or with none, is moved no further
pub moved_as : (reach : ℕ) (p q : Margin) → (IsTrue (is_ramp q) → IsTrue (is_ramp p) × (margin_base q ≡ margin_base p)) → IsMovedBy reach p → IsMovedBy reach q
moved_as reach p q base h = by_ramp (is_ramp q) refl
  where
    still : margin_base q ≡ pos 0 → IsMovedBy reach q
    still e = (
      subst (λ (b : ℤ). neg_ℤ (pos reach) ≤ℤ b) (sym e) (omega (arith, ints)),
      subst (λ (b : ℤ). b <ℤ pos (2 ^ 32 + reach)) (sym e) (omega (arith, ints)),
    )

    by_ramp : (b : Bool) → is_ramp q ≡ b → IsMovedBy reach q
    by_ramp false e = still (others_base q e)
    by_ramp true e =
        let same = (base e).1 in (
          subst (λ (b : ℤ). neg_ℤ (pos reach) ≤ℤ b) (sym same) h.0,
          subst (λ (b : ℤ). b <ℤ pos (2 ^ 32 + reach)) (sym same) h.1,
        )

-- what is small within its limits at a time has a small level
pub level_there : {P : Function} {reach : ℕ} {t : Rational} (p : Margin) → IsThere P reach t p → HasBoundedLevel (2 ^ 31) (margin_function p)
level_there {t = t} p h = level_bounded (2 ^ 31) (margin_function p) t h.bounded

-- a margin that was negated, or not, is there where the other was
pub turned_there : (b : Bool) (P : Function) (reach : ℕ) (t : Rational) (p q : Margin) → IsFunction P → IsThere P reach t p
    → value_at (margin_function q) t ≈ᵉ value_turned b (value_at (margin_function p) t)
    → (IsTrue (is_ramp q) → IsTrue (is_ramp p) × (margin_base q ≡ margin_base p)) → IsThere (turned_by b P) reach t q
turned_there false P reach t p q is there same base = record {
  told = is.alike t t (value_at (margin_function p) t) (value_at (margin_function q) t) (same_refl t) (symᵉ same) there.told;
  bounded = bounded_same (2 ^ 31) (value_at (margin_function q) t) (value_at (margin_function p) t) same there.bounded;
  moved = moved_as reach p q base there.moved;
}
turned_there true P reach t p q is there same base = record {
  told = is.alike t t (value_at (margin_function p) t) (opposite (value_at (margin_function q) t)) (same_refl t)
      (opposite_back (value_at (margin_function q) t) (value_at (margin_function p) t) same) there.told;
  bounded = bounded_same (2 ^ 31) (value_at (margin_function q) t) (opposite (value_at (margin_function p) t)) same
      (opposite_bounded (2 ^ 31) (opposite (value_at (margin_function p) t)) (rw opposite_twice there.bounded));
  moved = moved_as reach p q base there.moved;
}

-- one of two margins, chosen at a time
pub chosen_there : (side : Side) (A B : Function) (reach : ℕ) (t : Rational) (p q r : Margin) → IsThere A reach t p → IsThere B reach t q
    → (r ≡ p) ⊎ (r ≡ q) → IsChosen side (value_at (margin_function p) t) (value_at (margin_function q) t) (value_at (margin_function r) t)
    → IsThere (ChosenOf side A B) reach t r
chosen_there side A B reach t p q r a b one chosen = record {
  told = (value_at (margin_function p) t, value_at (margin_function q) t, a.told, b.told, chosen);
  bounded = bounded one;
  moved = moved one;
}
  where
    bounded : (r ≡ p) ⊎ (r ≡ q) → IsBounded (2 ^ 31) (value_at (margin_function r) t)
    bounded (inl e) = subst (λ (m : Margin). IsBounded (2 ^ 31) (value_at (margin_function m) t)) (sym e) a.bounded
    bounded (inr e) = subst (λ (m : Margin). IsBounded (2 ^ 31) (value_at (margin_function m) t)) (sym e) b.bounded

    moved : (r ≡ p) ⊎ (r ≡ q) → IsMovedBy reach r
    moved (inl e) = subst (IsMovedBy reach) (sym e) a.moved
    moved (inr e) = subst (IsMovedBy reach) (sym e) b.moved

-- a value chosen of two that are bounded is bounded
pub chosen_bounded : (n : ℕ) (side : Side) (x y v : Extended) → IsChosen side x y v → IsBounded n x → IsBounded n y → IsBounded n v
chosen_bounded n Least x y v c a b = least_bounded n x y v c a b
chosen_bounded n Greatest x y v c a b = greatest_bounded n x y v c a b
