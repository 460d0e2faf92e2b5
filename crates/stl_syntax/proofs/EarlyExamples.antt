-- Early verdicts: `eventually[5,5] true` from 0 on is settled once 5 is sure to be a time of the trace.
use Rattle.std.proofs.Common.{◌≡◌, ℕ, pos, List, [], ◌∷◌, ◌++◌, inl, inr, refl, true, false, Bool, arith}
use Rattle.rational.specs.Time.{◌≤ʳ◌}
use Rattle.rational.proofs.Order.{le_trans}
use Rattle.stl_syntax.specs.Trace.{Row, Trace}
use Rattle.stl_syntax.specs.Formula.{Subformula, constant, eventually}
use Rattle.stl_syntax.specs.Early.{Decides, FirstDecides}
use Rattle.stl_syntax.proofs.Examples.{row, x_header, at_time}

abbrev at_5 : Subformula
at_5 = eventually 5 5 true true (constant true)

abbrev rows_to : ℕ → Trace
rows_to n = record { header = x_header; rows = row 0 (pos 0) ∷ row n (pos 0) ∷ [] }

-- with the last row at 4 nothing is decided: 5 may be a time of the trace, and may not
open_at_4 : (holds : Bool) → ¬ Decides at_5 (rows_to 4) holds
open_at_4 true (u, w, s, h) =
    elim s.1 [
      | inl l ↦ (let a = w.begins in let c : at_time 5 ≤ʳ at_time 4 = le_trans (record { le = omega (arith, a.le) }) l in omega (arith, c.le))
      | inr l ↦ (let a = w.begins in omega (arith, a.le, l.le))
    ]
open_at_4 false h = let x : true ≡ false = h (at_time 5) (omega arith) in cc

-- with the last row at 5 it is true
true_at_5 : Decides at_5 (rows_to 5) true
true_at_5 = (at_time 5, omega arith, (record { le = omega arith }, inl (record { le = omega arith })), refl)

-- and that row is the first that decides
first_at_5 : FirstDecides at_5 x_header (row 0 (pos 0) ∷ []) (row 5 (pos 0)) true
first_at_5 = record { decides = true_at_5; not_before = λ earlier later s b e. not_before earlier later s b e }
  where
    alone : (b : Bool) → ¬ Decides at_5 (record { header = x_header; rows = row 0 (pos 0) ∷ [] }) b
    alone true (u, w, s, h) =
        elim s.1 [
          | inl l ↦ (let a = w.begins in let c : at_time 5 ≤ʳ at_time 0 = le_trans (record { le = omega (arith, a.le) }) l in omega (arith, c.le))
          | inr l ↦ (let a = w.begins in omega (arith, a.le, l.le))
        ]
    alone false h = let x : true ≡ false = h (at_time 5) (omega arith) in cc

    not_before : (earlier later : List Row) (s : Row) (b : Bool) → row 0 (pos 0) ∷ [] ≡ earlier ++ s ∷ later
        → ¬ Decides at_5 (record { header = x_header; rows = earlier ++ s ∷ [] }) b
    not_before [] later s b e d = let f : row 0 (pos 0) ≡ s = cc in alone b (rw f d)
    not_before (r ∷ []) later s b e d = absurd (let f : [] ≡ s ∷ later = cc in cc)
    not_before (r ∷ x ∷ earlier) later s b e d = absurd (let f : [] ≡ x ∷ (earlier ++ s ∷ later) = cc in cc)
