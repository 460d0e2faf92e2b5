-- Extended values times M, and the Sup and the Inf of them.
use Rattle.std.proofs.Common.{◌≡◌, ℕ, ◌<◌, refl}
use Rattle.rational.specs.Extended.{Extended, minus_infinity, finite, infinity, opposite, ◌≤ᵉ◌, ◌<ᵉ◌, ◌≈ᵉ◌, IsLeast, IsGreatest, IsSup, IsInf}
use Rattle.rational.proofs.Order.{le_of_same, ge_of_same}
use Rattle.rational.proofs.ExtendedLemmas.{le_transᵉ, lt_of_lt_of_leᵉ, lt_of_le_of_ltᵉ, below_infinity}
use Rattle.rational.proofs.Tests.{either}
use Rattle.unit_laws.proofs.Multiples.{stretch, shrink, stretch_le, stretch_lt, le_back, lt_back, stretch-shrink}

-- M times the value
abbrev pub stretchᵉ : ℕ → Extended → Extended
stretchᵉ M minus_infinity = minus_infinity
stretchᵉ M (finite x) = finite (stretch M x)
stretchᵉ M infinity = infinity

-- the M-th part of the value
abbrev pub shrinkᵉ : (M : ℕ) → 0 < M → Extended → Extended
shrinkᵉ M p minus_infinity = minus_infinity
shrinkᵉ M p (finite x) = finite (shrink M p x)
shrinkᵉ M p infinity = infinity

-- minus M times the value
pub opposite_stretch : (M : ℕ) (v : Extended) → opposite (stretchᵉ M v) ≡ stretchᵉ M (opposite v)
opposite_stretch M minus_infinity = refl
opposite_stretch M _ = refl

-- the order stays
pub le_stretchᵉ : (M : ℕ) (v w : Extended) → v ≤ᵉ w → stretchᵉ M v ≤ᵉ stretchᵉ M w
le_stretchᵉ M (finite x) minus_infinity h = h
le_stretchᵉ M (finite x) (finite y) h = stretch_le M h
le_stretchᵉ M infinity minus_infinity h = h
le_stretchᵉ M infinity (finite y) h = h
le_stretchᵉ M _ _ h = tt

-- M times two values are ordered as the values
pub lt_stretchᵉ : (M : ℕ) → 0 < M → (v w : Extended) → v <ᵉ w → stretchᵉ M v <ᵉ stretchᵉ M w
lt_stretchᵉ M p minus_infinity (finite y) h = tt
lt_stretchᵉ M p minus_infinity infinity h = tt
lt_stretchᵉ M p (finite x) (finite y) h = stretch_lt M p h
lt_stretchᵉ M p (finite x) infinity h = tt
lt_stretchᵉ M p _ _ h = h

-- and the other way
pub le_backᵉ : (M : ℕ) → 0 < M → (v w : Extended) → stretchᵉ M v ≤ᵉ stretchᵉ M w → v ≤ᵉ w
le_backᵉ M p (finite x) minus_infinity h = h
le_backᵉ M p (finite x) (finite y) h = le_back M p h
le_backᵉ M p infinity minus_infinity h = h
le_backᵉ M p infinity (finite y) h = h
le_backᵉ M p _ _ h = tt

-- two values are ordered as M times the values
pub lt_backᵉ : (M : ℕ) (v w : Extended) → stretchᵉ M v <ᵉ stretchᵉ M w → v <ᵉ w
lt_backᵉ M minus_infinity (finite y) h = tt
lt_backᵉ M minus_infinity infinity h = tt
lt_backᵉ M (finite x) (finite y) h = lt_back M h
lt_backᵉ M (finite x) infinity h = tt
lt_backᵉ M _ _ h = h

-- two ways to write one value are, times M, one value
pub same_stretchᵉ : (M : ℕ) (v w : Extended) → v ≈ᵉ w → stretchᵉ M v ≈ᵉ stretchᵉ M w
same_stretchᵉ M v w e = record { at_most = le_stretchᵉ M v w e.at_most; at_least = le_stretchᵉ M w v e.at_least }

-- two values are the same where M times the values are
pub same_backᵉ : (M : ℕ) → 0 < M → (v w : Extended) → stretchᵉ M v ≈ᵉ stretchᵉ M w → v ≈ᵉ w
same_backᵉ M p v w e = record { at_most = le_backᵉ M p v w e.at_most; at_least = le_backᵉ M p w v e.at_least }

-- a value is M times its M-th part
pub stretch-shrinkᵉ : (M : ℕ) (p : 0 < M) (v : Extended) → stretchᵉ M (shrinkᵉ M p v) ≈ᵉ v
stretch-shrinkᵉ M p minus_infinity = record { at_most = tt; at_least = tt }
stretch-shrinkᵉ M p (finite x) = record { at_most = le_of_same (stretch-shrink M p x); at_least = ge_of_same (stretch-shrink M p x) }
stretch-shrinkᵉ M p infinity = record { at_most = tt; at_least = tt }

-- the least of two, and the greatest
pub least_by : (M : ℕ) (v w r : Extended) → IsLeast v w r → IsLeast (stretchᵉ M v) (stretchᵉ M w) (stretchᵉ M r)
least_by M v w r l = record {
  left = le_stretchᵉ M r v l.left;
  right = le_stretchᵉ M r w l.right;
  one_of = either (le_stretchᵉ M v r) (le_stretchᵉ M w r) l.one_of;
}

-- r is the least of two values where M times r is the least of M times the values
pub least_back : (M : ℕ) → 0 < M → (v w r : Extended) → IsLeast (stretchᵉ M v) (stretchᵉ M w) (stretchᵉ M r) → IsLeast v w r
least_back M p v w r l = record {
  left = le_backᵉ M p r v l.left;
  right = le_backᵉ M p r w l.right;
  one_of = either (le_backᵉ M p v r) (le_backᵉ M p w r) l.one_of;
}

-- M times the greatest of two values is the greatest of M times the values
pub greatest_by : (M : ℕ) (v w r : Extended) → IsGreatest v w r → IsGreatest (stretchᵉ M v) (stretchᵉ M w) (stretchᵉ M r)
greatest_by M v w r l = record {
  left = le_stretchᵉ M v r l.left;
  right = le_stretchᵉ M w r l.right;
  one_of = either (le_stretchᵉ M r v) (le_stretchᵉ M r w) l.one_of;
}

-- r is the greatest of two values where M times r is the greatest of M times the values
pub greatest_back : (M : ℕ) → 0 < M → (v w r : Extended) → IsGreatest (stretchᵉ M v) (stretchᵉ M w) (stretchᵉ M r) → IsGreatest v w r
greatest_back M p v w r l = record {
  left = le_backᵉ M p v r l.left;
  right = le_backᵉ M p w r l.right;
  one_of = either (le_backᵉ M p r v) (le_backᵉ M p r w) l.one_of;
}

-- the values of Q are M times those of P
pub record AreTimes (M : ℕ) (p : 0 < M) (P Q : Extended → Type 0) : Type 0 where
  -- what is so is, times M, so in smaller ticks
  pub forth : (v : Extended) → P v → Q (stretchᵉ M v)
  -- and the other way round
  pub back : (w : Extended) → Q w → P (shrinkᵉ M p w)

module _ (M : ℕ) (p : 0 < M) {P Q : Extended → Type 0} (e : AreTimes M p P Q) where
  part : Extended → Extended
  part w = shrinkᵉ M p w

  whole_is : (w : Extended) → stretchᵉ M (part w) ≈ᵉ w
  unfolding part
  whole_is w = stretch-shrinkᵉ M p w

  there : (w : Extended) → Q w → P (part w)
  unfolding part
  there w q = e.back w q

  -- so is their Sup
  pub sup_by : (r : Extended) → IsSup minus_infinity P r → IsSup minus_infinity Q (stretchᵉ M r)
  sup_by r h = record {
    at_least = tt;
    bound = λ w q. le_transᵉ w (stretchᵉ M (part w)) (stretchᵉ M r) (whole_is w).at_least (le_stretchᵉ M (part w) r (h.bound (part w) (there w q)));
    reached = λ w l k.
        let below = lt_backᵉ M (part w) r (lt_of_le_of_ltᵉ (stretchᵉ M (part w)) w (stretchᵉ M r) (whole_is w).at_most k) in
        let (v, q, m) = h.reached (part w) tt below in
        (stretchᵉ M v, e.forth v q, lt_of_le_of_ltᵉ w (stretchᵉ M (part w)) (stretchᵉ M v) (whole_is w).at_least (lt_stretchᵉ M p (part w) v m));
  }

  -- r is the Sup where M times r is the Sup in smaller ticks
  pub sup_back : (r : Extended) → IsSup minus_infinity Q (stretchᵉ M r) → IsSup minus_infinity P r
  sup_back r h = record {
    at_least = tt;
    bound = λ v q. le_backᵉ M p v r (h.bound (stretchᵉ M v) (e.forth v q));
    reached = λ w l k.
        let (v, q, m) = h.reached (stretchᵉ M w) tt (lt_stretchᵉ M p w r k) in
        (part v, there v q, lt_backᵉ M w (part v) (lt_of_lt_of_leᵉ (stretchᵉ M w) v (stretchᵉ M (part v)) m (whole_is v).at_least));
  }

  -- and their Inf
  pub inf_by : (r : Extended) → IsInf infinity P r → IsInf infinity Q (stretchᵉ M r)
  inf_by r h = record {
    at_most = below_infinity (stretchᵉ M r);
    bound = λ w q. le_transᵉ (stretchᵉ M r) (stretchᵉ M (part w)) w (le_stretchᵉ M r (part w) (h.bound (part w) (there w q))) (whole_is w).at_most;
    reached = λ w k l.
        let above = lt_backᵉ M r (part w) (lt_of_lt_of_leᵉ (stretchᵉ M r) w (stretchᵉ M (part w)) k (whole_is w).at_least) in
        let (v, q, m) = h.reached (part w) above (below_infinity (part w)) in
        (stretchᵉ M v, e.forth v q, lt_of_lt_of_leᵉ (stretchᵉ M v) (stretchᵉ M (part w)) w (lt_stretchᵉ M p v (part w) m) (whole_is w).at_most);
  }

  -- r is the Inf where M times r is the Inf in smaller ticks
  pub inf_back : (r : Extended) → IsInf infinity Q (stretchᵉ M r) → IsInf infinity P r
  inf_back r h = record {
    at_most = below_infinity r;
    bound = λ v q. le_backᵉ M p r v (h.bound (stretchᵉ M v) (e.forth v q));
    reached = λ w k l.
        let (v, q, m) = h.reached (stretchᵉ M w) (lt_stretchᵉ M p r w k) (below_infinity (stretchᵉ M w)) in
        (part v, there v q, lt_backᵉ M (part v) w (lt_of_le_of_ltᵉ (stretchᵉ M (part v)) v (stretchᵉ M w) (whole_is v).at_most m));
  }
