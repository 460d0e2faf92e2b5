-- How a run ends whose text gives no formula: its line was said, with its status.
use Rattle.std.proofs.Common.{◌≡◌, ◌⊎◌, inl, inr, ℕ, List, refl, sym, subst, Result, Ok, Err}
use Rattle.std.specs.Prelude.{Option}
use Rattle.io_edge.specs.Causes.{HasCause}
use Rattle.stl_grammar.specs.FormulaRefusals.{IsFormulaFault}
use Rattle.stl_grammar.specs.declared.fault.FormulaFault.{FormulaFault}
use Rattle.stl_grammar.specs.declared.fault.FormulaFault.TheVariants.{Empty, BadByte, Expected, BadNumber, BoundOrder}
use Rattle.stl_grammar.specs.declared.fault.FormulaFault.TheVariants.{UnboundedFuture, TooManyTerms, TooLong, TooDeep}
use Rattle.stl_grammar.specs.declared.fault.FormulaFault.TheVariants.{TooManyNodes, ReachTooLarge, ConstantTooLarge, Memory}
use Rattle.command_line.specs.ErrTexts.{formula_fault_text}
use Rattle.command_line.specs.Saying.{IsSaid, whole, part}
use Rattle.command_line.specs.Words.{IsBadEnd, refused, no_room, status_of_fault}
use Rattle.command_line.specs.Writing.{IsWritten}

-- what came of writing a line
pub said : {T E : Type 0} (held held_after : Option (List ℕ)) (faults faults_after : ℕ) (r : Result T E) (line : List ℕ)
    → IsWritten held held_after r line → HasCause faults faults_after r → IsSaid held held_after faults faults_after line
said held held_after faults faults_after (Ok x) line w c = whole w
said held held_after faults faults_after (Err x) line w c = part w c.failed

memory_or : (r : FormulaFault) → (r ≡ Memory) ⊎ (status_of_fault r ≡ 3)
memory_or Empty = inr refl
memory_or (BadByte p) = inr refl
memory_or (Expected p w) = inr refl
memory_or (BadNumber p) = inr refl
memory_or (BoundOrder p) = inr refl
memory_or (UnboundedFuture p) = inr refl
memory_or (TooManyTerms p) = inr refl
memory_or (TooLong n) = inr refl
memory_or (TooDeep p) = inr refl
memory_or (TooManyNodes p) = inr refl
memory_or (ReachTooLarge n) = inr refl
memory_or (ConstantTooLarge i) = inr refl
memory_or Memory = inl refl

out_of_room : (text : List ℕ) (r : FormulaFault) → r ≡ Memory → IsBadEnd text (status_of_fault r) (formula_fault_text r)
out_of_room text r e = subst (λ (r : FormulaFault). IsBadEnd text (status_of_fault r) (formula_fault_text r)) (sym e) no_room

-- a refusal, with its status and its line
refused_end : (text : List ℕ) (r : FormulaFault) → (r ≡ Memory) ⊎ IsFormulaFault text r → IsBadEnd text (status_of_fault r) (formula_fault_text r)
refused_end text r (inl e) = out_of_room text r e
refused_end text r (inr h) = by_case (memory_or r)
  where
    by_case : (r ≡ Memory) ⊎ (status_of_fault r ≡ 3) → IsBadEnd text (status_of_fault r) (formula_fault_text r)
    by_case (inl e) = out_of_room text r e
    by_case (inr e) = subst (λ s. IsBadEnd text s (formula_fault_text r)) (sym e) (refused (r, h, refl))

-- how a text that gives no formula ends, once its line was said
pub refused_said : (text : List ℕ) (r : FormulaFault) (line : List ℕ) (status : ℕ) → line ≡ formula_fault_text r → status ≡ status_of_fault r
    → (r ≡ Memory) ⊎ IsFormulaFault text r → IsBadEnd text status line
refused_said text r line status is_line s h =
    subst (λ n. IsBadEnd text n line) (sym s) (subst (λ l. IsBadEnd text (status_of_fault r) l) (sym is_line) (refused_end text r h))
