-- The verdicts of a delayed trace are those of the trace, later.
use Rattle.std.proofs.Common.{ℕ, List, [], ◌∷◌, refl, subst}
use Rattle.rational.specs.Time.{◌≈◌, later}
use Rattle.rational.proofs.Order.{same_sym, same_trans}
use Rattle.rational.proofs.TimeLemmas.{same_later}
use Rattle.frac128.specs.Value.{value}
use Rattle.frac128.specs.declared.frac.Frac.{Frac}
use Rattle.stl_syntax.specs.declared.items.Verdict.{Verdict}
use Rattle.unit_laws.specs.Origins.{delayed, AreDelayed, AreVerdicts, VerdictsMove}
use Rattle.bounds.proofs.NearTimes.{ahead, behind}
use Rattle.unit_laws.proofs.Clocks.{clock}
use Rattle.unit_laws.proofs.FinerVerdicts.{frac_of, frac_same, verdict_by, verdicts_by, verdicts_describe}
use Rattle.unit_laws.proofs.OriginRows.{same_tree, some_one, delayed_counts, trace_counts, clock_later, later_behind}

-- an end is d ticks later
pub frac_delayed : (d : ℕ) (f : Frac) → value (frac_of 1 (ahead d) some_one f) ≈ later (value f) d
frac_delayed d f = same_trans (frac_same 1 (ahead d) some_one f) (clock_later d (value f))

are_delayed : (d : ℕ) (vs : List Verdict) → AreDelayed d vs (verdicts_by 1 (ahead d) some_one vs)
are_delayed d [] = refl
are_delayed d (v ∷ vs) = (
  verdict_by 1 (ahead d) some_one v,
  verdicts_by 1 (ahead d) some_one vs,
  refl,
  record {
    begins = record { time = frac_delayed d v.on.from; inside = refl };
    ends = record { time = frac_delayed d v.on.to; inside = refl };
    holds = refl;
  },
  are_delayed d vs,
)

-- a number is d ticks later than what the clock that shows -d at 0 shows at it
pub later_back : (d : ℕ) (f : Frac) → value f ≈ later (value (frac_of 1 (behind d) some_one f)) d
later_back d f =
    same_sym (same_trans (same_later d (frac_same 1 (behind d) some_one f))
    (same_trans (same_sym (clock_later d (clock 1 (behind d) (value f)))) (later_behind d (value f))))

-- the verdicts are d ticks later than by the clock that shows -d at 0
pub were_delayed : (d : ℕ) (ws : List Verdict) → AreDelayed d (verdicts_by 1 (behind d) some_one ws) ws
were_delayed d [] = refl
were_delayed d (w ∷ ws) = (
  w,
  ws,
  refl,
  record {
    begins = record { time = later_back d w.on.from; inside = refl };
    ends = record { time = later_back d w.on.to; inside = refl };
    holds = refl;
  },
  were_delayed d ws,
)

-- the verdicts move with the trace
pub verdicts_move : VerdictsMove
verdicts_move p tr d ok = (
  λ vs h. (
    verdicts_by 1 (ahead d) some_one vs,
    are_delayed d vs,
    subst (λ q. AreVerdicts (verdicts_by 1 (ahead d) some_one vs) q (delayed d tr)) (same_tree p)
        (verdicts_describe 1 (ahead d) 1 some_one some_one (delayed_counts d tr ok) p vs h),
  ),
  λ ws h. (
    verdicts_by 1 (behind d) some_one ws,
    were_delayed d ws,
    subst (λ q. AreVerdicts (verdicts_by 1 (behind d) some_one ws) q tr) (same_tree p)
        (verdicts_describe 1 (behind d) 1 some_one some_one (trace_counts d tr ok) p ws h),
  ),
)
