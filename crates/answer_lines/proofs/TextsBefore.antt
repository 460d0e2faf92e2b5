-- Texts that are put before others, one after another.
use Rattle.std.proofs.Common.{◌≡◌, ℕ, ◌+◌, ◌≤◌, List, ◌++◌, length, take, drop, decimal}
use Rattle.std.proofs.Common.{take-append-drop, length-append, length-drop, length-take-le, sym, ap, ◌∙◌, arith}
use Rattle.answer_lines.specs.Before.{IsPut}

-- the word is this one, and may take more
pub put_as : {w v : List ℕ} {j k : ℕ} {old new : List ℕ} {end at : ℕ} → w ≡ v → j ≤ k → IsPut w j old end new at → IsPut v k old end new at
put_as {w} {v} {j} {k} {old} {new} {end} {at} e h p =
    record { put = p.put ∙ ap (λ x. x ++ drop end old) e; few = omega (arith, p.few); inside = p.inside; same = p.same }

-- digits that were written before a place
pub put_digits_is : (n : ℕ) (old : List ℕ) (end : ℕ) (new : List ℕ) (at : ℕ) → length (decimal n) ≤ 20 → end ≤ length old → at + length (decimal n) ≡ end
    → drop at new ≡ decimal n ++ drop end old → take at new ≡ take at old → IsPut (decimal n) 40 old end new at
put_digits_is n old end new at few inside begins after before = record {
  put = after;
  few = omega arith;
  inside = omega arith;
  same = ap length (sym (take-append-drop at new)) ∙ ap length (ap (λ xs. xs ++ drop at new) before ∙ ap (λ xs. take at old ++ xs) after) ∙ whole;
}
  where
    whole : length (take at old ++ (decimal n ++ drop end old)) ≡ length old
    whole =
        omega (
          arith,
          length-append (take at old) (decimal n ++ drop end old),
          length-append (decimal n) (drop end old),
          length-take-le at old (omega arith),
          length-drop end old,
        )
