-- Bounded values of functions of time, of their limits and of their Sups.
use Rattle.std.proofs.Common.{ℕ, pos, neg_ℤ, ◌⊎◌, inl, inr}
use Rattle.rational.specs.Time.{Rational, ◌≤ʳ◌, ◌<ʳ◌, whole}
use Rattle.rational.specs.Rational.{IsWithin}
use Rattle.rational.specs.Extended.{Extended, minus_infinity, finite, infinity, ◌≤ᵉ◌, ◌<ᵉ◌, Affine, always_low}
use Rattle.rational.specs.Extended.{affine, always_high, value_at, opposite, IsLeast, IsGreatest, IsSup, IsInf}
use Rattle.rational.specs.Line.{at}
use Rattle.rational.specs.Affine.{IsBounded, HasBoundedLevel}
use Rattle.rational.specs.Windows.{Function}
use Rattle.rational.proofs.Order.{le_or_lt, le_trans, not_lt_of_le}
use Rattle.rational.proofs.Mixed.{within_negate}
use Rattle.rational.proofs.AffineLemmas.{bounded_same, near_start, near_stop, above_start, above_stop, lies_between}

-- a function that is bounded on an open interval is so at its ends
abbrev pub IsBoundedOn : ℕ → Affine → Rational → Rational → Type 0
IsBoundedOn n f l r = (t : Rational) → l <ʳ t → t <ʳ r → IsBounded n (value_at f t)

-- a function that is bounded between two times is bounded at the earlier
pub bounded_start : (n : ℕ) (f : Affine) (l r : Rational) → l <ʳ r → IsBoundedOn n f l r → IsBounded n (value_at f l)
bounded_start n always_low l r h b = tt
bounded_start n always_high l r h b = tt
bounded_start n (affine f) l r h b = (low (le_or_lt (whole (neg_ℤ (pos n))) (at f l)), high (le_or_lt (at f l) (whole (pos n))))
  where
    low : (whole (neg_ℤ (pos n)) ≤ʳ at f l) ⊎ (at f l <ʳ whole (neg_ℤ (pos n))) → whole (neg_ℤ (pos n)) ≤ʳ at f l
    low (inl k) = k
    low (inr k) = let m = above_start (affine f) l r (finite (whole (neg_ℤ (pos n)))) h k in absurd (not_lt_of_le (b m.0 m.1 m.2).0 m.3)

    high : (at f l ≤ʳ whole (pos n)) ⊎ (whole (pos n) <ʳ at f l) → at f l ≤ʳ whole (pos n)
    high (inl k) = k
    high (inr k) = let m = near_start (affine f) l r (finite (whole (pos n))) h k in absurd (not_lt_of_le (b m.0 m.1 m.2).1 m.3)

-- and at the later
pub bounded_stop : (n : ℕ) (f : Affine) (l r : Rational) → l <ʳ r → IsBoundedOn n f l r → IsBounded n (value_at f r)
bounded_stop n always_low l r h b = tt
bounded_stop n always_high l r h b = tt
bounded_stop n (affine f) l r h b = (low (le_or_lt (whole (neg_ℤ (pos n))) (at f r)), high (le_or_lt (at f r) (whole (pos n))))
  where
    low : (whole (neg_ℤ (pos n)) ≤ʳ at f r) ⊎ (at f r <ʳ whole (neg_ℤ (pos n))) → whole (neg_ℤ (pos n)) ≤ʳ at f r
    low (inl k) = k
    low (inr k) = let m = above_stop (affine f) l r (finite (whole (neg_ℤ (pos n)))) h k in absurd (not_lt_of_le (b m.0 m.1 m.2).0 m.3)

    high : (at f r ≤ʳ whole (pos n)) ⊎ (whole (pos n) <ʳ at f r) → at f r ≤ʳ whole (pos n)
    high (inl k) = k
    high (inr k) = let m = near_stop (affine f) l r (finite (whole (pos n))) h k in absurd (not_lt_of_le (b m.0 m.1 m.2).1 m.3)

-- between two times a function is bounded that is so there
pub bounded_between : (n : ℕ) (f : Affine) (l t r : Rational) → l <ʳ t → t <ʳ r → IsBounded n (value_at f l)
    → IsBounded n (value_at f r) → IsBounded n (value_at f t)
bounded_between n always_low l t r h k a b = tt
bounded_between n always_high l t r h k a b = tt
bounded_between n (affine f) l t r h k a b = by_order (lies_between (affine f) l t r h k)
  where
    by_order : ((at f l ≤ʳ at f t) × (at f t ≤ʳ at f r)) ⊎ ((at f r ≤ʳ at f t) × (at f t ≤ʳ at f l)) → IsWithin n (at f t)
    by_order (inl o) = (le_trans a.0 o.0, le_trans o.1 b.1)
    by_order (inr o) = (le_trans b.0 o.0, le_trans o.1 a.1)

-- a function of time has bounded values
abbrev pub HasBounded : ℕ → Function → Type 0
HasBounded n F = (t : Rational) (v : Extended) → F t v → IsBounded n v

-- the Sup of bounded values is bounded
pub sup_bounded : (n : ℕ) (Q : Extended → Type 0) (lowest r : Extended) → IsBounded n lowest
    → ((v : Extended) → Q v → IsBounded n v) → IsSup lowest Q r → IsBounded n r
sup_bounded n Q lowest minus_infinity b h s = tt
sup_bounded n Q lowest infinity b h s = tt
sup_bounded n Q lowest (finite x) b h s =
    (low lowest b s.at_least (s.reached minus_infinity) (le_or_lt (whole (neg_ℤ (pos n))) x), high (le_or_lt x (whole (pos n))))
  where
    from_below : (v : Extended) → IsBounded n v → minus_infinity <ᵉ v → v ≤ᵉ finite x → whole (neg_ℤ (pos n)) ≤ʳ x
    from_below minus_infinity c k l = absurd k
    from_below (finite y) c k l = le_trans c.0 l
    from_below infinity c k l = absurd l

    low : (lowest : Extended) → IsBounded n lowest → lowest ≤ᵉ finite x
        → (lowest ≤ᵉ minus_infinity → minus_infinity <ᵉ finite x → (v : Extended) × Q v × (minus_infinity <ᵉ v))
        → (whole (neg_ℤ (pos n)) ≤ʳ x) ⊎ (x <ʳ whole (neg_ℤ (pos n))) → whole (neg_ℤ (pos n)) ≤ʳ x
    low minus_infinity c k reached o = let v = reached tt tt in from_below v.0 (h v.0 v.1) v.2 (s.bound v.0 v.1)
    low (finite y) c k reached o = le_trans c.0 k
    low infinity c k reached o = absurd k

    from_above : (v : Extended) → IsBounded n v → finite (whole (pos n)) <ᵉ v → v ≤ᵉ finite x → x ≤ʳ whole (pos n)
    from_above minus_infinity c k l = absurd k
    from_above (finite y) c k l = absurd (not_lt_of_le c.1 k)
    from_above infinity c k l = absurd l

    at_least : (lowest : Extended) → IsBounded n lowest → lowest ≤ᵉ finite x → lowest ≤ᵉ finite (whole (pos n))
    at_least minus_infinity c k = tt
    at_least (finite y) c k = c.1
    at_least infinity c k = absurd k

    high : (x ≤ʳ whole (pos n)) ⊎ (whole (pos n) <ʳ x) → x ≤ʳ whole (pos n)
    high (inl k) = k
    high (inr k) = let v = s.reached (finite (whole (pos n))) (at_least lowest b s.at_least) k in from_above v.0 (h v.0 v.1) v.2 (s.bound v.0 v.1)

-- minus a bounded value is bounded
pub opposite_bounded : (n : ℕ) (v : Extended) → IsBounded n (opposite v) → IsBounded n v
opposite_bounded n minus_infinity h = tt
opposite_bounded n (finite x) h = within_negate n h
opposite_bounded n infinity h = tt

-- the least of two bounded values is one of them
pub least_bounded : (n : ℕ) (v w r : Extended) → IsLeast v w r → IsBounded n v → IsBounded n w → IsBounded n r
least_bounded n v w r least h k = by_one least.one_of
  where
    by_one : (v ≤ᵉ r) ⊎ (w ≤ᵉ r) → IsBounded n r
    by_one (inl e) = bounded_same n r v (record { at_most = least.left; at_least = e }) h
    by_one (inr e) = bounded_same n r w (record { at_most = least.right; at_least = e }) k

-- and so is the greatest
pub greatest_bounded : (n : ℕ) (v w r : Extended) → IsGreatest v w r → IsBounded n v → IsBounded n w → IsBounded n r
greatest_bounded n v w r greatest h k = by_one greatest.one_of
  where
    by_one : (r ≤ᵉ v) ⊎ (r ≤ᵉ w) → IsBounded n r
    by_one (inl e) = bounded_same n r v (record { at_most = e; at_least = greatest.left }) h
    by_one (inr e) = bounded_same n r w (record { at_most = e; at_least = greatest.right }) k

-- an Inf of bounded values is bounded
pub inf_bounded : (n : ℕ) (highest : Extended) (V : Extended → Type 0) (r : Extended) → IsInf highest V r → IsBounded n highest
    → ((v : Extended) → V v → IsBounded n v) → IsBounded n r
inf_bounded n highest V minus_infinity inf high all = tt
inf_bounded n highest V infinity inf high all = tt
inf_bounded n highest V (finite x) inf high all = (not_below (le_or_lt (whole (neg_ℤ (pos n))) x), not_above (le_or_lt x (whole (pos n))))
  where
    highest_at_least : (h : Extended) → finite x ≤ᵉ h → IsBounded n h → finite (whole (neg_ℤ (pos n))) ≤ᵉ h
    highest_at_least minus_infinity k b = absurd k
    highest_at_least (finite y) k b = b.0
    highest_at_least infinity k b = tt

    member_below : (v : Extended) → v <ᵉ finite (whole (neg_ℤ (pos n))) → finite x ≤ᵉ v → IsBounded n v → ⊥
    member_below minus_infinity h k b = k
    member_below (finite y) h k b = not_lt_of_le b.0 h
    member_below infinity h k b = h

    not_below : (whole (neg_ℤ (pos n)) ≤ʳ x) ⊎ (x <ʳ whole (neg_ℤ (pos n))) → whole (neg_ℤ (pos n)) ≤ʳ x
    not_below (inl h) = h
    not_below (inr h) =
        let m = inf.reached (finite (whole (neg_ℤ (pos n)))) h (highest_at_least highest inf.at_most high) in
        absurd (member_below m.0 m.2 (inf.bound m.0 m.1) (all m.0 m.1))

    member_above : (v : Extended) → v <ᵉ infinity → finite x ≤ᵉ v → IsBounded n v → x ≤ʳ whole (pos n)
    member_above minus_infinity h k b = absurd k
    member_above (finite y) h k b = le_trans k b.1
    member_above infinity h k b = absurd h

    from_highest : (h : Extended) → finite x ≤ᵉ h → IsBounded n h
        → ((w : Extended) → finite x <ᵉ w → w ≤ᵉ h → (v : Extended) × V v × (v <ᵉ w)) → x ≤ʳ whole (pos n)
    from_highest minus_infinity k b reached = absurd k
    from_highest (finite y) k b reached = le_trans k b.1
    from_highest infinity k b reached = let m = reached infinity tt tt in member_above m.0 m.2 (inf.bound m.0 m.1) (all m.0 m.1)

    not_above : (x ≤ʳ whole (pos n)) ⊎ (whole (pos n) <ʳ x) → x ≤ʳ whole (pos n)
    not_above (inl h) = h
    not_above (inr h) = from_highest highest inf.at_most high inf.reached

-- a function that is bounded at one time has a bounded level, where it is level
pub level_bounded : (n : ℕ) (f : Affine) (t : Rational) → IsBounded n (value_at f t) → HasBoundedLevel n f
level_bounded n f t h = λ steady u. bounded_same n (value_at f u) (value_at f t) (steady u t) h
