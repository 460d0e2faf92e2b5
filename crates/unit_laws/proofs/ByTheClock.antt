-- What is so at some time of a window, or at each, is so by the clock.
use Rattle.std.proofs.Common.{ℕ, ◌*◌, ◌<◌, Bool, Option}
use Rattle.std.specs.Prelude.{◌⊎◌, ◌↔◌, option_map}
use Rattle.rational.specs.Time.{Rational, ◌≈◌, Within}
use Rattle.rational.specs.Windows.{Ahead, Behind, Window}
use Rattle.rational.proofs.Order.{same_sym, le_trans, le_of_same, ge_of_same}
use Rattle.rational.proofs.WindowLemmas.{to_same, from_same}
use Rattle.rational.proofs.Tests.{either}
use Rattle.bounds.proofs.NearTimes.{Move}
use Rattle.unit_laws.proofs.Clocks.{clock, unclock, clock-unclock, within_clock, within_of_clock}
use Rattle.unit_laws.proofs.ClockWindows.{AreEnds, ahead_by, ahead_back, ahead_at, behind_by, behind_back, behind_at}

module _ (K : ℕ) (o : Move) (kp : 0 < K) where
  -- Q holds where the clock shows the times of P
  pub record Carries (P Q : Window) : Type 0 where
    -- where P holds, so does Q by the clock
    pub forth : (u : Rational) → P u → Q (clock K o u)
    -- and the other way round
    pub back : (u : Rational) → Q (clock K o u) → P u
    -- Q does not depend on the pair of a time
    pub same : (u v : Rational) → u ≈ v → Q u → Q v

  -- W has the times that the clock shows at those of V
  pub record AreShown (V W : Window) : Type 0 where
    -- where V has a time, W has what the clock shows
    pub forth : (u : Rational) → V u → W (clock K o u)
    -- and the other way round
    pub back : (u : Rational) → W u → V (unclock K o kp u)

  module _ {V W P Q : Window} (w : AreShown V W) (c : Carries P Q) where
    -- at some time of the window
    pub some_of : ((u : Rational) × V u × P u) ↔ ((u : Rational) × W u × Q u)
    some_of = (
      λ (u, m, h). (clock K o u, w.forth u m, c.forth u h),
      λ (u, m, h). (
        unclock K o kp u,
        w.back u m,
        c.back (unclock K o kp u) (c.same u (clock K o (unclock K o kp u)) (same_sym (clock-unclock K o kp u)) h),
      ),
    )

    -- at each time of the window
    pub every_of : ((u : Rational) → V u → P u) ↔ ((u : Rational) → W u → Q u)
    every_of = (
      λ h u m. c.same (clock K o (unclock K o kp u)) u (clock-unclock K o kp u) (c.forth (unclock K o kp u) (h (unclock K o kp u) (w.back u m))),
      λ h u m. c.back u (h (clock K o u) (w.forth u m)),
    )

  -- the times within two times
  pub within_shown : (t u : Rational) → AreShown (Within t u) (Within (clock K o t) (clock K o u))
  within_shown t u = record { forth = λ v n. within_clock K o n; back = λ v n. within_of_clock K o kp (at v n) }
    where
      at : (v : Rational) → Within (clock K o t) (clock K o u) v → Within (clock K o t) (clock K o u) (clock K o (unclock K o kp v))
      at v n =
          let e = clock-unclock K o kp v in
          record { above = le_trans n.above (ge_of_same e); below = le_trans (le_of_same e) n.below }

  -- windows ahead and behind
  module _ {from to from' to' : Rational} (e : AreEnds K o from to from' to') where
    -- a window ahead
    pub ahead_shown : (a b : ℕ) (i j : Bool) (t : Rational) → AreShown (Ahead from to a b i j t) (Ahead from' to' (K * a) (K * b) i j (clock K o t))
    ahead_shown a b i j t = record {
      forth = λ u w. ahead_by K o kp e w;
      back = λ u w. ahead_back K o kp e a b i j t (unclock K o kp u) (ahead_at (same_sym (clock-unclock K o kp u)) w);
    }

    -- a window behind
    pub behind_shown : (a : ℕ) (b : Option ℕ) (i j : Bool) (t : Rational)
        → AreShown (Behind from to a b i j t) (Behind from' to' (K * a) (option_map (λ b. K * b) b) i j (clock K o t))
    behind_shown a b i j t = record {
      forth = λ u w. behind_by K o kp e w;
      back = λ u w. behind_back K o kp e a b i j t (unclock K o kp u) (behind_at (same_sym (clock-unclock K o kp u)) w);
    }

  module _ {P P' Q Q' : Window} (c : Carries P P') (g : Carries Q Q') (t : Rational) where
    -- Q at a time, and P from t up to it
    pub up_by : Carries (λ u. Q u × ((v : Rational) → Within t u v → P v)) (λ u. Q' u × ((v : Rational) → Within (clock K o t) u v → P' v))
    up_by = record {
      forth = λ u. λ (q, f). (g.forth u q, (every_of (within_shown t u) c).0 f);
      back = λ u. λ (q, f). (g.back u q, (every_of (within_shown t u) c).1 f);
      same = λ u v e. λ (q, f). (g.same u v e q, λ x n. f x (to_same e n));
    }

    -- Q at a time, and P from it up to t
    pub down_by : Carries (λ u. Q u × ((v : Rational) → Within u t v → P v)) (λ u. Q' u × ((v : Rational) → Within u (clock K o t) v → P' v))
    down_by = record {
      forth = λ u. λ (q, f). (g.forth u q, (every_of (within_shown u t) c).0 f);
      back = λ u. λ (q, f). (g.back u q, (every_of (within_shown u t) c).1 f);
      same = λ u v e. λ (q, f). (g.same u v e q, λ x n. f x (from_same e n));
    }

    -- Q at a time, or P somewhere from t up to it
    pub up_or : Carries (λ u. Q u ⊎ ((v : Rational) × Within t u v × P v)) (λ u. Q' u ⊎ ((v : Rational) × Within (clock K o t) u v × P' v))
    up_or = record {
      forth = λ u. either (g.forth u) (some_of (within_shown t u) c).0;
      back = λ u. either (g.back u) (some_of (within_shown t u) c).1;
      same = λ u v e. either (g.same u v e) (λ (x, n, h). (x, to_same (same_sym e) n, h));
    }

    -- Q at a time, or P somewhere from it up to t
    pub down_or : Carries (λ u. Q u ⊎ ((v : Rational) × Within u t v × P v)) (λ u. Q' u ⊎ ((v : Rational) × Within u (clock K o t) v × P' v))
    down_or = record {
      forth = λ u. either (g.forth u) (some_of (within_shown u t) c).0;
      back = λ u. either (g.back u) (some_of (within_shown u t) c).1;
      same = λ u v e. either (g.same u v e) (λ (x, n, h). (x, from_same (same_sym e) n, h));
    }

  module _ {V W P P' Q Q' : Window} (w : AreShown V W) (c : Carries P P') (g : Carries Q Q') (t : Rational) where
    -- at some time of the window Q, and P from t up to it
    pub until_of : ((u : Rational) × V u × Q u × ((v : Rational) → Within t u v → P v))
        ↔ ((u : Rational) × W u × Q' u × ((v : Rational) → Within (clock K o t) u v → P' v))
    until_of = (
      λ (u, k, h, f). let r = (some_of w (up_by c g t)).0 (u, k, (h, f)) in (r.0, r.1, r.2.0, r.2.1),
      λ (u, k, h, f). let r = (some_of w (up_by c g t)).1 (u, k, (h, f)) in (r.0, r.1, r.2.0, r.2.1),
    )

    -- at some time of the window Q, and P from it up to t
    pub since_of : ((u : Rational) × V u × Q u × ((v : Rational) → Within u t v → P v))
        ↔ ((u : Rational) × W u × Q' u × ((v : Rational) → Within u (clock K o t) v → P' v))
    since_of = (
      λ (u, k, h, f). let r = (some_of w (down_by c g t)).0 (u, k, (h, f)) in (r.0, r.1, r.2.0, r.2.1),
      λ (u, k, h, f). let r = (some_of w (down_by c g t)).1 (u, k, (h, f)) in (r.0, r.1, r.2.0, r.2.1),
    )
