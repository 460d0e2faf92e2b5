-- Windows by another clock.
use Rattle.std.proofs.Common.{ℕ, ◌*◌, ◌<◌, Bool, Option, Some, None}
use Rattle.std.specs.Prelude.{option_map}
use Rattle.rational.specs.Time.{Rational, ◌≈◌, Within, Precedes, later}
use Rattle.rational.specs.Windows.{Ahead, Behind}
use Rattle.rational.proofs.Order.{le_trans, le_of_same, ge_of_same}
use Rattle.rational.proofs.TimeLemmas.{precedes_after, precedes_before, later_le}
use Rattle.bounds.proofs.NearTimes.{Move}
use Rattle.unit_laws.proofs.Clocks.{clock, clock_le, le_of_clock, precedes_clock, precedes_of_clock, later_clock}

-- what begins a window begins it by the clock
pub begins_by : (K : ℕ) (o : Move) → 0 < K → (a : ℕ) (i : Bool) (t u : Rational) → Precedes i (later t a) u
    → Precedes i (later (clock K o t) (K * a)) (clock K o u)
begins_by K o p a i t u h =
    precedes_after i (later (clock K o t) (K * a)) (clock K o (later t a)) (clock K o u) (le_of_same (later_clock K o a t))
    (precedes_clock K o p i (later t a) u h)

-- and what ends it
pub ends_by : (K : ℕ) (o : Move) → 0 < K → (b : ℕ) (i : Bool) (t u : Rational) → Precedes i u (later t b)
    → Precedes i (clock K o u) (later (clock K o t) (K * b))
ends_by K o p b i t u h =
    precedes_before i (clock K o u) (clock K o (later t b)) (later (clock K o t) (K * b)) (precedes_clock K o p i u (later t b) h)
    (ge_of_same (later_clock K o b t))

-- and the other way round
pub begins_back : (K : ℕ) (o : Move) → 0 < K → (a : ℕ) (i : Bool) (t u : Rational) → Precedes i (later (clock K o t) (K * a)) (clock K o u)
    → Precedes i (later t a) u
begins_back K o p a i t u h =
    precedes_of_clock K o p i (later t a) u
    (precedes_after i (clock K o (later t a)) (later (clock K o t) (K * a)) (clock K o u) (ge_of_same (later_clock K o a t)) h)

-- likewise
pub ends_back : (K : ℕ) (o : Move) → 0 < K → (b : ℕ) (i : Bool) (t u : Rational) → Precedes i (clock K o u) (later (clock K o t) (K * b))
    → Precedes i u (later t b)
ends_back K o p b i t u h =
    precedes_of_clock K o p i u (later t b)
    (precedes_before i (clock K o u) (later (clock K o t) (K * b)) (clock K o (later t b)) h (le_of_same (later_clock K o b t)))

-- the same pair of ends by the clock
pub record AreEnds (K : ℕ) (o : Move) (from to from' to' : Rational) : Type 0 where
  -- the domain begins where the clock shows its begin
  pub from_same : from' ≈ clock K o from
  -- and ends where it shows its end
  pub to_same : to' ≈ clock K o to

module _ (K : ℕ) (o : Move) (p : 0 < K) {from to from' to' : Rational} (e : AreEnds K o from to from' to') where
  -- a time of the domain is by the clock one of the other
  pub inside_by : {u : Rational} → Within from to u → Within from' to' (clock K o u)
  inside_by w = record {
    above = le_trans (le_of_same e.from_same) (clock_le K o w.above);
    below = le_trans (clock_le K o w.below) (ge_of_same e.to_same);
  }

  -- and the other way round
  pub inside_back : {u : Rational} → Within from' to' (clock K o u) → Within from to u
  inside_back w = record {
    above = le_of_clock K o p (le_trans (ge_of_same e.from_same) w.above);
    below = le_of_clock K o p (le_trans w.below (le_of_same e.to_same));
  }

  -- windows ahead
  pub ahead_by : {a b : ℕ} {i j : Bool} {t u : Rational} → Ahead from to a b i j t u → Ahead from' to' (K * a) (K * b) i j (clock K o t) (clock K o u)
  ahead_by {a = a} {b = b} {i = i} {j = j} {t = t} {u = u} w = record {
    inside = inside_by w.inside;
    begins = begins_by K o p a i t u w.begins;
    ends = ends_by K o p b j t u w.ends;
  }

  -- a time of the larger window ahead is one of the window
  pub ahead_back : (a b : ℕ) (i j : Bool) (t u : Rational) → Ahead from' to' (K * a) (K * b) i j (clock K o t) (clock K o u) → Ahead from to a b i j t u
  ahead_back a b i j t u w = record {
    inside = inside_back w.inside;
    begins = begins_back K o p a i t u w.begins;
    ends = ends_back K o p b j t u w.ends;
  }

  -- windows behind
  pub behind_by : {a : ℕ} {b : Option ℕ} {i j : Bool} {t u : Rational} → Behind from to a b i j t u
      → Behind from' to' (K * a) (option_map (λ b. K * b) b) i j (clock K o t) (clock K o u)
  behind_by {a = a} {b = None} {i = i} {j = j} {t = t} {u = u} w =
      record { inside = inside_by w.inside; begins = w.begins; ends = begins_by K o p a i u t w.ends }
  behind_by {a = a} {b = Some b} {i = i} {j = j} {t = t} {u = u} w = record {
    inside = inside_by w.inside;
    begins = ends_by K o p b j u t w.begins;
    ends = begins_by K o p a i u t w.ends;
  }

  -- a time of the larger window behind is one of the window
  pub behind_back : (a : ℕ) (b : Option ℕ) (i j : Bool) (t u : Rational)
      → Behind from' to' (K * a) (option_map (λ b. K * b) b) i j (clock K o t) (clock K o u) → Behind from to a b i j t u
  behind_back a None i j t u w = record { inside = inside_back w.inside; begins = w.begins; ends = begins_back K o p a i u t w.ends }
  behind_back a (Some b) i j t u w = record {
    inside = inside_back w.inside;
    begins = ends_back K o p b j u t w.begins;
    ends = begins_back K o p a i u t w.ends;
  }

-- another pair of a time in a window
pub ahead_at : {from to : Rational} {a b : ℕ} {i j : Bool} {t u v : Rational} → u ≈ v → Ahead from to a b i j t u → Ahead from to a b i j t v
ahead_at {a = a} {b = b} {i = i} {j = j} {t = t} {u = u} {v = v} e w = record {
  inside = record { above = le_trans w.inside.above (le_of_same e); below = le_trans (ge_of_same e) w.inside.below };
  begins = precedes_before i (later t a) u v w.begins (le_of_same e);
  ends = precedes_after j v u (later t b) (ge_of_same e) w.ends;
}

-- another way to write a time of a window behind is in the window too
pub behind_at : {from to : Rational} {a : ℕ} {b : Option ℕ} {i j : Bool} {t u v : Rational} → u ≈ v → Behind from to a b i j t u → Behind from to a b i j t v
behind_at {a = a} {b = None} {i = i} {j = j} {t = t} {u = u} {v = v} e w = record {
  inside = record { above = le_trans w.inside.above (le_of_same e); below = le_trans (ge_of_same e) w.inside.below };
  begins = w.begins;
  ends = precedes_after i (later v a) (later u a) t (later_le a (ge_of_same e)) w.ends;
}
behind_at {a = a} {b = Some b} {i = i} {j = j} {t = t} {u = u} {v = v} e w = record {
  inside = record { above = le_trans w.inside.above (le_of_same e); below = le_trans (ge_of_same e) w.inside.below };
  begins = precedes_before j t (later u b) (later v b) w.begins (later_le b (le_of_same e));
  ends = precedes_after i (later v a) (later u a) t (later_le a (ge_of_same e)) w.ends;
}
