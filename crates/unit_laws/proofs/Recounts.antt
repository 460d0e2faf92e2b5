-- A trace counted anew: by another clock, and in smaller ticks of value.
use Rattle.std.proofs.Common.{ℕ, ◌<◌, IsTrue}
use Rattle.std.specs.Prelude.{◌↔◌}
use Rattle.rational.specs.Time.{Rational, ◌≈◌}
use Rattle.rational.proofs.Order.{same_sym}
use Rattle.stl_syntax.specs.Trace.{Trace, start, stop}
use Rattle.stl_syntax.specs.Truth.{expression, holds_at}
use Rattle.stl_syntax.specs.Scaling.{scaled_atom}
use Rattle.stl_syntax.specs.declared.atom.Atom.{Atom}
use Rattle.stl_syntax.proofs.TruthLemmas.{compares_same}
use Rattle.bounds.proofs.NearTimes.{Move}
use Rattle.unit_laws.proofs.Multiples.{stretch, compares_stretch, compares_back}
use Rattle.unit_laws.proofs.Clocks.{clock}

-- the second trace is the first by a clock that counts K ticks for one and shows o at 0, with M ticks of value for one
pub record IsRecount (K : ℕ) (o : Move) (M : ℕ) (tr ur : Trace) : Type 0 where
  -- an atom's expression is M times as large where the clock shows its time
  pub expressions : (a : Atom) (t : Rational) → expression (scaled_atom M a) ur (clock K o t) ≈ stretch M (expression a tr t)
  -- the second begins where the clock shows the start of the first
  pub starts : start ur ≈ clock K o (start tr)
  -- and ends where it shows its end
  pub stops : stop ur ≈ clock K o (stop tr)

-- an atom holds where it holds by the clock
pub holds_by : (K : ℕ) (o : Move) (M : ℕ) → 0 < M → {tr ur : Trace} → IsRecount K o M tr ur → (a : Atom) (t : Rational)
    → IsTrue (holds_at a tr t) ↔ IsTrue (holds_at (scaled_atom M a) ur (clock K o t))
holds_by K o M mp {tr} {ur} c a t =
    let e = c.expressions a t in (
      λ h. compares_same a.rel (stretch M (expression a tr t)) (expression (scaled_atom M a) ur (clock K o t)) (same_sym e)
          (compares_stretch M mp a.rel (expression a tr t) h),
      λ h. compares_back M mp a.rel (expression a tr t)
          (compares_same a.rel (expression (scaled_atom M a) ur (clock K o t)) (stretch M (expression a tr t)) e h),
    )
