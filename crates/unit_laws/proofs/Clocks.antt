-- Times by another clock: it counts K ticks for one of the first, and shows o where the first shows 0.
use Rattle.std.proofs.Common.{ℕ, ◌+◌, ◌*◌, ◌<◌, ◌≤◌, Bool, true, false, arith}
use Rattle.std.proofs.Math.Nat.{mul-pos, mul-le-mul_left, le_of_mul-le-mul_left, mul-lt-mul_of_pos_left, lt_of_mul-lt-mul_left}
use Rattle.rational.specs.Time.{Rational, ◌≤ʳ◌, ◌<ʳ◌, ◌≈◌, Within, Precedes, later}
use Rattle.rational.proofs.Order.{same_of_le, le_of_same, ge_of_same, same_sym, same_trans, lt_of_le_of_lt, lt_of_lt_of_le}
use Rattle.bounds.proofs.NearTimes.{Move}

-- what the clock shows at t
abbrev pub clock : ℕ → Move → Rational → Rational
clock K o t = record { up = K * t.up + o.up * t.den; down = K * t.down + o.down * t.den; den = t.den; positive = t.positive }

-- the time at which it shows t
abbrev pub unclock : (K : ℕ) (o : Move) → 0 < K → Rational → Rational
unclock K o p t = record { up = t.up + o.down * t.den; down = t.down + o.up * t.den; den = K * t.den; positive = mul-pos p t.positive }

-- the order stays
pub clock_le : {t u : Rational} (K : ℕ) (o : Move) → t ≤ʳ u → clock K o t ≤ʳ clock K o u
clock_le {t} {u} K o h = record { le = let m = mul-le-mul_left K h.le in omega (arith, m) }

-- and the strict order
pub clock_lt : {t u : Rational} (K : ℕ) (o : Move) → 0 < K → t <ʳ u → clock K o t <ʳ clock K o u
clock_lt {t} {u} K o p h = record { lt = let m = mul-lt-mul_of_pos_left h.lt p in omega (arith, m) }

-- two ways to write one time are one time by the clock
pub clock_same : {t u : Rational} (K : ℕ) (o : Move) → t ≈ u → clock K o t ≈ clock K o u
clock_same K o h = same_of_le (clock_le K o (le_of_same h)) (clock_le K o (ge_of_same h))

-- what the clock shows in order is in order
pub le_of_clock : {t u : Rational} (K : ℕ) (o : Move) → 0 < K → clock K o t ≤ʳ clock K o u → t ≤ʳ u
le_of_clock {t} {u} K o p h = record {
  le = le_of_mul-le-mul_left (let e : K * (t.up * u.den + u.down * t.den) ≤ K * (u.up * t.den + t.down * u.den) = omega (arith, h.le) in e) p;
}

-- and so for the strict order
pub lt_of_clock : {t u : Rational} (K : ℕ) (o : Move) → clock K o t <ʳ clock K o u → t <ʳ u
lt_of_clock {t} {u} K o h = record {
  lt = lt_of_mul-lt-mul_left K (let e : K * (t.up * u.den + u.down * t.den) < K * (u.up * t.den + t.down * u.den) = omega (arith, h.lt) in e);
}

-- times are one where the clock shows one
pub same_of_clock : {t u : Rational} (K : ℕ) (o : Move) → 0 < K → clock K o t ≈ clock K o u → t ≈ u
same_of_clock K o p h = same_of_le (le_of_clock K o p (le_of_same h)) (le_of_clock K o p (ge_of_same h))

-- each time is one that the clock shows
pub clock-unclock : (K : ℕ) (o : Move) (p : 0 < K) (t : Rational) → clock K o (unclock K o p t) ≈ t
clock-unclock K o p t = record { same = omega arith }

-- and is shown at its own time alone
pub unclock-clock : (K : ℕ) (o : Move) (p : 0 < K) (t : Rational) → unclock K o p (clock K o t) ≈ t
unclock-clock K o p t = record { same = omega arith }

-- what precedes another time does so by the clock
pub precedes_clock : (K : ℕ) (o : Move) → 0 < K → (b : Bool) (t u : Rational) → Precedes b t u → Precedes b (clock K o t) (clock K o u)
precedes_clock K o p true t u h = clock_le K o h
precedes_clock K o p false t u h = clock_lt K o p h

-- and the other way round
pub precedes_of_clock : (K : ℕ) (o : Move) → 0 < K → (b : Bool) (t u : Rational) → Precedes b (clock K o t) (clock K o u) → Precedes b t u
precedes_of_clock K o p true t u h = le_of_clock K o p h
precedes_of_clock K o p false t u h = lt_of_clock K o h

-- a time that is later by a is by the clock later by K times as much
pub later_clock : (K : ℕ) (o : Move) (a : ℕ) (t : Rational) → later (clock K o t) (K * a) ≈ clock K o (later t a)
later_clock K o a t = record { same = omega arith }

-- what lies within two times does so by the clock
pub within_clock : {t u v : Rational} (K : ℕ) (o : Move) → Within t u v → Within (clock K o t) (clock K o u) (clock K o v)
within_clock K o h = record { above = clock_le K o h.above; below = clock_le K o h.below }

-- and the other way round
pub within_of_clock : {t u v : Rational} (K : ℕ) (o : Move) → 0 < K → Within (clock K o t) (clock K o u) (clock K o v) → Within t u v
within_of_clock K o p h = record { above = le_of_clock K o p h.above; below = le_of_clock K o p h.below }

-- two ways to write what the clock shows are shown at one time
pub unclock_same : {t u : Rational} (K : ℕ) (o : Move) (p : 0 < K) → t ≈ u → unclock K o p t ≈ unclock K o p u
unclock_same {t} {u} K o p e = same_of_clock K o p (same_trans (clock-unclock K o p t) (same_trans e (same_sym (clock-unclock K o p u))))

-- the times at which the clock shows two times are ordered as these
pub unclock_lt : {t u : Rational} (K : ℕ) (o : Move) (p : 0 < K) → t <ʳ u → unclock K o p t <ʳ unclock K o p u
unclock_lt {t} {u} K o p h =
    lt_of_clock K o (lt_of_le_of_lt (le_of_same (clock-unclock K o p t)) (lt_of_lt_of_le h (ge_of_same (clock-unclock K o p u))))
