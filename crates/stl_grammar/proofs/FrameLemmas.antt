-- What is pending.
use Rattle.std.proofs.Common.{◌≡◌, ℕ, zero, suc, ◌+◌, ◌<◌, ◌≤◌, List, [], ◌∷◌, length, refl, sym, ◌∙◌, Bool, true, false, if◌then◌else◌, ◌&&◌, arith}
use Rattle.std.specs.Prelude.{nat_le, nat_lt}
use Rattle.std.proofs.lemmas.Bool.Decides.{nat_tests}
use Rattle.stl_grammar.specs.FormulaRefusals.{Pending, has_paren}
use Rattle.stl_grammar.specs.Machine.{with_rank, pending_of}
use Rattle.stl_grammar.specs.Operators.{by_and, TUntil}
use Rattle.stl_grammar.specs.Parsing.{operator_rank, rank}
use Rattle.stl_grammar.specs.Refusing.{ranks_of, marks_in, parens_in, parens_of}
use Rattle.stl_grammar.specs.declared.draft.Operator.{Operator}
use Rattle.stl_grammar.specs.declared.draft.Operator.TheVariants.{Not as Negation, Connective as Joins, Timed as Bounded}
use Rattle.stl_grammar.specs.declared.draft.Frame.{Frame}
use Rattle.stl_grammar.specs.declared.draft.Frame.TheVariants.{Paren as Opened, Operator as Waits}
use Rattle.stl_grammar.proofs.MachineRuns.{no_paren}

-- what is open adds its own
pub marks_more : (f : Frame) (frames : List Frame) → length (pending_of (ranks_of (f ∷ frames))) ≡ marks_in f + length (pending_of (ranks_of frames))
marks_more f frames = by_rank (rank f) (pending_of (ranks_of frames))
  where
    by_rank : (r : ℕ) (pending : List Pending)
        → length (with_rank r pending) ≡ (if nat_le 2 r && nat_le r 4 then 0 else 1) + length pending
    by_rank zero pending = omega arith
    by_rank (suc zero) pending = omega arith
    by_rank (suc (suc r)) pending = split (nat_le 5 (suc (suc r))) refl
      where
        split : (b : Bool) → nat_le 5 (suc (suc r)) ≡ b
            → length (with_rank (suc (suc r)) pending) ≡ (if nat_le 2 (suc (suc r)) && nat_le (suc (suc r)) 4 then 0 else 1) + length pending
        split true e = let g : (nat_le 2 (suc (suc r)) && nat_le (suc (suc r)) 4) ≡ false = grind (arith, nat_tests, e) in rw (e, g) (omega arith)
        split false e = let g : (nat_le 2 (suc (suc r)) && nat_le (suc (suc r)) 4) ≡ true = grind (arith, nat_tests, e) in rw (e, g) (omega arith)

-- of which there is one at most
pub marks_one : (f : Frame) → marks_in f ≤ 1
marks_one f = by_test (nat_le 2 (rank f) && nat_le (rank f) 4)
  where
    by_test : (b : Bool) → (if b then 0 else 1) ≤ 1
    by_test true = omega arith
    by_test false = omega arith

-- so for parentheses
pub parens_one : (f : Frame) → parens_in f ≤ 1
parens_one Opened = omega arith
parens_one _ = omega arith

-- there are no more marks than frames
pub marks_few : (frames : List Frame) → length (pending_of (ranks_of frames)) ≤ length frames
marks_few [] = omega arith
marks_few (f ∷ frames) = omega (arith, marks_few frames, marks_more f frames, marks_one f)

-- nor more parentheses
pub parens_few : (frames : List Frame) → parens_of frames ≤ length frames
parens_few [] = omega arith
parens_few (f ∷ frames) = omega (arith, parens_few frames, parens_one f)

-- a parenthesis is open where their number is not 0
pub paren_counted : (frames : List Frame) → nat_lt 0 (parens_of frames) ≡ has_paren (pending_of (ranks_of frames))
paren_counted [] = refl
paren_counted (Opened ∷ frames) = grind (arith, nat_tests)
paren_counted (Waits o left ∷ frames) =
    let e : 0 + parens_of frames ≡ parens_of frames = omega arith in
    rw e (paren_counted frames) ∙ sym (no_paren (operator_rank o) (pending_of (ranks_of frames)) (some_rank o))
  where
    some_rank : (o : Operator) → 0 < operator_rank o
    some_rank (Joins by_and) = omega arith
    some_rank (Joins _) = omega arith
    some_rank (Bounded TUntil b) = omega arith
    some_rank (Bounded _ b) = omega arith
    some_rank Negation = omega arith
