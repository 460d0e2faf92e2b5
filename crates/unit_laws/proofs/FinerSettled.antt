-- What rows settle, by another clock.
use Rattle.std.proofs.Common.{ℕ, ◌*◌, ◌<◌, Bool, true, Option, Some, None}
use Rattle.std.specs.Prelude.{◌↔◌, option_map}
use Rattle.rational.specs.Time.{Rational, later, ◌≈◌}
use Rattle.rational.specs.Windows.{Window}
use Rattle.rational.proofs.Order.{le_trans, le_of_same, ge_of_same, same_sym}
use Rattle.rational.proofs.TimeLemmas.{later_le, precedes_after, precedes_before}
use Rattle.rational.proofs.Tests.{either}
use Rattle.stl_syntax.specs.Trace.{Trace, start}
use Rattle.stl_syntax.specs.Formula.{Subformula, constant, atom, negation, conjunction, disjunction}
use Rattle.stl_syntax.specs.Formula.{implication, until, eventually, always, since, once, historically}
use Rattle.stl_syntax.specs.Truth.{holds_at}
use Rattle.stl_syntax.specs.Scaling.{scaled_atom}
use Rattle.stl_syntax.specs.Early.{OpenAhead, OpenBehind, IsSure, Settled, SettledNot}
use Rattle.stl_syntax.proofs.SettledTimes.{settled_is_of_times}
use Rattle.bounds.proofs.NearTimes.{Move}
use Rattle.unit_laws.proofs.Clocks.{clock, unclock, clock_le, le_of_clock, clock-unclock}
use Rattle.unit_laws.proofs.Recounts.{IsRecount, holds_by}
use Rattle.unit_laws.proofs.FinerTrees.{finer_tree}
use Rattle.unit_laws.proofs.ClockWindows.{begins_by, ends_by, begins_back, ends_back}
use Rattle.unit_laws.proofs.FinerCertainty.{false_alike}
use Rattle.unit_laws.proofs.ByTheClock.{Carries, AreShown, some_of, every_of, up_by, down_by, up_or, down_or}

open_ahead_at : {from : Rational} {a b : ℕ} {i j : Bool} {t u v : Rational} → u ≈ v → OpenAhead from a b i j t u → OpenAhead from a b i j t v
open_ahead_at {a = a} {b = b} {i = i} {j = j} {t = t} {u = u} {v = v} e w = record {
  after = le_trans w.after (le_of_same e);
  begins = precedes_before i (later t a) u v w.begins (le_of_same e);
  ends = precedes_after j v u (later t b) (ge_of_same e) w.ends;
}

open_behind_at : {from : Rational} {a : ℕ} {b : Option ℕ} {i j : Bool} {t u v : Rational} → u ≈ v → OpenBehind from a b i j t u → OpenBehind from a b i j t v
open_behind_at {a = a} {b = None} {i = i} {j = j} {t = t} {u = u} {v = v} e w = record {
  after = le_trans w.after (le_of_same e);
  begins = w.begins;
  ends = precedes_after i (later v a) (later u a) t (later_le a (ge_of_same e)) w.ends;
}
open_behind_at {a = a} {b = Some b} {i = i} {j = j} {t = t} {u = u} {v = v} e w = record {
  after = le_trans w.after (le_of_same e);
  begins = precedes_before j t (later u b) (later v b) w.begins (later_le b (le_of_same e));
  ends = precedes_after i (later v a) (later u a) t (later_le a (ge_of_same e)) w.ends;
}

module _ (K : ℕ) (o : Move) (M : ℕ) (kp : 0 < K) (mp : 0 < M) {tr ur : Trace} (c : IsRecount K o M tr ur) where
  shown_same : (u : Rational) → u ≈ clock K o (unclock K o kp u)
  shown_same u = same_sym (clock-unclock K o kp u)

  open_ahead_shown : (a b : ℕ) (i j : Bool) (t : Rational)
      → AreShown K o kp (OpenAhead (start tr) a b i j t) (OpenAhead (start ur) (K * a) (K * b) i j (clock K o t))
  open_ahead_shown a b i j t = record {
    forth = λ u w. record {
      after = le_trans (le_of_same c.starts) (clock_le K o w.after);
      begins = begins_by K o kp a i t u w.begins;
      ends = ends_by K o kp b j t u w.ends;
    };
    back = λ u w. at u (open_ahead_at (shown_same u) w);
  }
    where
      at : (u : Rational) → OpenAhead (start ur) (K * a) (K * b) i j (clock K o t) (clock K o (unclock K o kp u))
          → OpenAhead (start tr) a b i j t (unclock K o kp u)
      at u w = record {
        after = le_of_clock K o kp (le_trans (ge_of_same c.starts) w.after);
        begins = begins_back K o kp a i t (unclock K o kp u) w.begins;
        ends = ends_back K o kp b j t (unclock K o kp u) w.ends;
      }

  open_behind_by : (a : ℕ) (b : Option ℕ) (i j : Bool) (t u : Rational) → OpenBehind (start tr) a b i j t u
      → OpenBehind (start ur) (K * a) (option_map (λ b. K * b) b) i j (clock K o t) (clock K o u)
  open_behind_by a None i j t u w =
      record { after = le_trans (le_of_same c.starts) (clock_le K o w.after); begins = w.begins; ends = begins_by K o kp a i u t w.ends }
  open_behind_by a (Some b) i j t u w = record {
    after = le_trans (le_of_same c.starts) (clock_le K o w.after);
    begins = ends_by K o kp b j u t w.begins;
    ends = begins_by K o kp a i u t w.ends;
  }

  open_behind_back : (a : ℕ) (b : Option ℕ) (i j : Bool) (t u : Rational)
      → OpenBehind (start ur) (K * a) (option_map (λ b. K * b) b) i j (clock K o t) (clock K o u) → OpenBehind (start tr) a b i j t u
  open_behind_back a None i j t u w =
      record { after = le_of_clock K o kp (le_trans (ge_of_same c.starts) w.after); begins = w.begins; ends = begins_back K o kp a i u t w.ends }
  open_behind_back a (Some b) i j t u w = record {
    after = le_of_clock K o kp (le_trans (ge_of_same c.starts) w.after);
    begins = ends_back K o kp b j u t w.begins;
    ends = begins_back K o kp a i u t w.ends;
  }

  open_behind_shown : (a : ℕ) (b : Option ℕ) (i j : Bool) (t : Rational)
      → AreShown K o kp (OpenBehind (start tr) a b i j t) (OpenBehind (start ur) (K * a) (option_map (λ b. K * b) b) i j (clock K o t))
  open_behind_shown a b i j t = record {
    forth = λ u w. open_behind_by a b i j t u w;
    back = λ u w. open_behind_back a b i j t (unclock K o kp u) (open_behind_at (shown_same u) w);
  }

  sure_by : (t u : Rational) → IsSure tr t u → IsSure ur (clock K o t) (clock K o u)
  sure_by t u h = (
    le_trans (le_of_same c.starts) (clock_le K o h.0),
    either (λ l. le_trans (clock_le K o l) (ge_of_same c.stops)) (λ l. clock_le K o l) h.1,
  )

  sure_back : (t u : Rational) → IsSure ur (clock K o t) u → IsSure tr t (unclock K o kp u)
  sure_back t u h = (
    le_of_clock K o kp (le_trans (ge_of_same c.starts) (le_trans h.0 (le_of_same (shown_same u)))),
    either (λ l. le_of_clock K o kp (le_trans (ge_of_same (shown_same u)) (le_trans l (le_of_same c.stops))))
        (λ l. le_of_clock K o kp (le_trans (ge_of_same (shown_same u)) l)) h.1,
  )

  module _ (t : Rational) {V W P Q : Window} (w : AreShown K o kp V W) (g : Carries K o kp P Q) where
    -- the window's times that are sure
    sure_shown : AreShown K o kp (λ u. V u × IsSure tr t u) (λ u. W u × IsSure ur (clock K o t) u)
    sure_shown = record { forth = λ u h. (w.forth u h.0, sure_by t u h.1); back = λ u h. (w.back u h.0, sure_back t u h.1) }

    some_sure : ((u : Rational) × V u × IsSure tr t u × P u) ↔ ((u : Rational) × W u × IsSure ur (clock K o t) u × Q u)
    some_sure = (
      λ (u, m, s, h). let r = (some_of K o kp sure_shown g).0 (u, (m, s), h) in (r.0, r.1.0, r.1.1, r.2),
      λ (u, m, s, h). let r = (some_of K o kp sure_shown g).1 (u, (m, s), h) in (r.0, r.1.0, r.1.1, r.2),
    )

  -- what rows settle at t they settle by the clock
  pub record IsSettledBy (p : Subformula) (t : Rational) : Type 0 where
    -- true
    pub so : Settled p tr t ↔ Settled (finer_tree K M p) ur (clock K o t)
    -- false
    pub not_so : SettledNot p tr t ↔ SettledNot (finer_tree K M p) ur (clock K o t)

  so_carries : (p : Subformula) → ((u : Rational) → IsSettledBy p u) → Carries K o kp (Settled p tr) (Settled (finer_tree K M p) ur)
  so_carries p h = record { forth = λ u. (h u).so.0; back = λ u. (h u).so.1; same = λ u v e. (settled_is_of_times (finer_tree K M p) ur u v e).0 }

  not_carries : (p : Subformula) → ((u : Rational) → IsSettledBy p u) → Carries K o kp (SettledNot p tr) (SettledNot (finer_tree K M p) ur)
  not_carries p h =
      record { forth = λ u. (h u).not_so.0; back = λ u. (h u).not_so.1; same = λ u v e. (settled_is_of_times (finer_tree K M p) ur u v e).1 }

  -- what the rows settle is settled by the clock
  pub settled_by : (p : Subformula) (t : Rational) → IsSettledBy p t
  settled_by (constant b) t = record { so = (λ h. h, λ h. h); not_so = (λ h. h, λ h. h) }
  settled_by (atom i a) t =
      let h = holds_by K o M mp c a t in
      let g = false_alike (holds_at a tr t) (holds_at (scaled_atom M a) ur (clock K o t)) h in record {
        so = (λ x. (le_trans (clock_le K o x.0) (ge_of_same c.stops), h.0 x.1), λ x. (le_of_clock K o kp (le_trans x.0 (le_of_same c.stops)), h.1 x.1));
        not_so = (λ x. (le_trans (clock_le K o x.0) (ge_of_same c.stops), g.0 x.1), λ x. (le_of_clock K o kp (le_trans x.0 (le_of_same c.stops)), g.1 x.1));
      }
  settled_by (negation p) t = let s = settled_by p t in record { so = s.not_so; not_so = s.so }
  settled_by (conjunction p q) t =
      let s = settled_by p t in
      let u = settled_by q t in record {
        so = (λ h. (s.so.0 h.0, u.so.0 h.1), λ h. (s.so.1 h.0, u.so.1 h.1));
        not_so = (either s.not_so.0 u.not_so.0, either s.not_so.1 u.not_so.1);
      }
  settled_by (disjunction p q) t =
      let s = settled_by p t in
      let u = settled_by q t in record {
        so = (either s.so.0 u.so.0, either s.so.1 u.so.1);
        not_so = (λ h. (s.not_so.0 h.0, u.not_so.0 h.1), λ h. (s.not_so.1 h.0, u.not_so.1 h.1));
      }
  settled_by (implication p q) t =
      let s = settled_by p t in
      let u = settled_by q t in record {
        so = (either s.not_so.0 u.so.0, either s.not_so.1 u.so.1);
        not_so = (λ h. (s.so.0 h.0, u.not_so.0 h.1), λ h. (s.so.1 h.0, u.not_so.1 h.1));
      }
  settled_by (eventually a b i j p) t =
      let w = open_ahead_shown a b i j t in
      record { so = some_sure t w (so_carries p (λ u. settled_by p u)); not_so = every_of K o kp w (not_carries p (λ u. settled_by p u)) }
  settled_by (always a b i j p) t =
      let w = open_ahead_shown a b i j t in
      record { so = every_of K o kp w (so_carries p (λ u. settled_by p u)); not_so = some_sure t w (not_carries p (λ u. settled_by p u)) }
  settled_by (once a b i j p) t =
      let w = open_behind_shown a b i j t in
      record { so = some_sure t w (so_carries p (λ u. settled_by p u)); not_so = every_of K o kp w (not_carries p (λ u. settled_by p u)) }
  settled_by (historically a b i j p) t =
      let w = open_behind_shown a b i j t in
      record { so = every_of K o kp w (so_carries p (λ u. settled_by p u)); not_so = some_sure t w (not_carries p (λ u. settled_by p u)) }
  settled_by (until a b p q) t =
      let w = open_ahead_shown a b true true t in
      let m = up_by K o kp (so_carries p (λ u. settled_by p u)) (so_carries q (λ u. settled_by q u)) t in record {
        so = (
          λ (u, k, s, h, f). let r = (some_sure t w m).0 (u, k, s, (h, f)) in (r.0, r.1, r.2, r.3.0, r.3.1),
          λ (u, k, s, h, f). let r = (some_sure t w m).1 (u, k, s, (h, f)) in (r.0, r.1, r.2, r.3.0, r.3.1),
        );
        not_so = every_of K o kp w (up_or K o kp (not_carries p (λ u. settled_by p u)) (not_carries q (λ u. settled_by q u)) t);
      }
  settled_by (since a b p q) t =
      let w = open_behind_shown a b true true t in
      let m = down_by K o kp (so_carries p (λ u. settled_by p u)) (so_carries q (λ u. settled_by q u)) t in record {
        so = (
          λ (u, k, s, h, f). let r = (some_sure t w m).0 (u, k, s, (h, f)) in (r.0, r.1, r.2, r.3.0, r.3.1),
          λ (u, k, s, h, f). let r = (some_sure t w m).1 (u, k, s, (h, f)) in (r.0, r.1, r.2, r.3.0, r.3.1),
        );
        not_so = every_of K o kp w (down_or K o kp (not_carries p (λ u. settled_by p u)) (not_carries q (λ u. settled_by q u)) t);
      }
