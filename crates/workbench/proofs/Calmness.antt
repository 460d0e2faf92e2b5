-- What a run leaves as it was: where an ending has its status, of a stream, and of a command that writes nothing before all is known.
use Rattle.std.proofs.Common.{◌≡◌, ◌≢◌, ◌⊎◌, inl, inr, ℕ, zero, suc, ◌≤◌, Bool, false, List, refl, sym, ap, ◌∙◌, arith, Result, Err}
use Rattle.std.specs.Prelude.{IsErr}
use Rattle.std.proofs.lemmas.Bool.{false≢true}
use Rattle.io_edge.specs.Calls.{Drained, Filled}
use Rattle.command_line.specs.Commands.{Verb, on_formula, generate}
use Rattle.command_line.specs.Words.{IsAsked, is_held}
use Rattle.workbench.specs.Calm.{IsCalm, IsUntouched}
use Rattle.workbench.specs.Wholes.{status_of}
use Rattle.workbench.specs.declared.fault.Stop.{Stop}
use Rattle.workbench.specs.declared.fault.Stop.TheVariants.{Unread, Unwritten}
use Rattle.workbench.proofs.RunEnds.{large_is, not_words}

-- of an ending with its status
pub calm_ending : {i : Drained} {o e : Filled} {Unsaid : Type 0} {status : ℕ} (ending : Result Bool Stop) → status ≡ status_of ending
    → (ending ≢ Err Unread → i.faults_after ≡ i.faults) → (ending ≢ Err Unwritten → o.faults_after ≡ o.faults) → (status ≤ 1 → Unsaid)
    → i.faults ≤ i.faults_after → o.faults ≤ o.faults_after → e.faults ≤ e.faults_after → IsCalm i o e Unsaid status
calm_ending ending is read write quiet input out err = record {
  read_due = λ n. read (λ same. n (is ∙ ap status_of same));
  write_due = λ n. write (λ same. n (is ∙ ap status_of same));
  quiet = quiet;
  input_later = input;
  out_later = out;
  err_later = err;
}

two_or_three : (n : ℕ) → 2 ≤ n → n ≤ 3 → (n ≡ 2) ⊎ (n ≡ 3)
two_or_three zero low high = absurd (omega (arith, low))
two_or_three (suc zero) low high = absurd (omega (arith, low))
two_or_three (suc (suc zero)) low high = inl refl
two_or_three (suc (suc (suc zero))) low high = inr refl
two_or_three (suc (suc (suc (suc n)))) low high = absurd (omega (arith, high))

module _ {words : List (List ℕ)} {Unread_ Unwritten_ Unkept_ : Type 0} {status : ℕ}
    (none : (number rows : ℕ) → ¬ IsAsked words (generate number rows)) where
  -- a stream, whose status is not that of words or of a formula, touches what it will, and keeps what was left unless it answers
  pub of_stream : (j : Verb) (text : List ℕ) → IsAsked words (on_formula j text) → is_held (on_formula j text) ≡ false
      → ¬ ((status ≡ 2) ⊎ (status ≡ 3)) → (2 ≤ status → Unkept_) → IsUntouched words Unread_ Unwritten_ Unkept_ status
  of_stream j text form streamed known unkept = record {
    unread = λ h. elim h [
      | inl two ↦ absurd (known (inl two))
      | inr (inl three) ↦ absurd (known (inr three))
      | inr (inr (number, rows, asked)) ↦ absurd (none number rows asked)
    ];
    nothing = λ some other h. elim h [
      | inl few ↦ absurd (known (two_or_three status some few))
      | inr held ↦ absurd (false≢true (sym streamed ∙ held (on_formula j text) form))
    ];
    unkept = λ h. elim h [
      | inl some ↦ unkept some
      | inr held ↦ absurd (false≢true (sym streamed ∙ held (on_formula j text) form))
    ];
  }

  -- a command that holds the whole trace reads it, writes nothing but its answer, and leaves nothing
  pub of_held : (ending : Result Bool Stop) → status ≡ status_of ending → (IsErr ending → ending ≢ Err Unwritten → Unwritten_) → Unkept_
      → IsUntouched words Unread_ Unwritten_ Unkept_ status
  of_held ending is nothing unkept = record {
    unread = λ h. elim h [
      | inl two ↦ absurd (not_words ending (inl (sym is ∙ two)))
      | inr (inl three) ↦ absurd (not_words ending (inr (sym is ∙ three)))
      | inr (inr (number, rows, asked)) ↦ absurd (none number rows asked)
    ];
    nothing = λ some other _. nothing (large_is ending (omega (arith, is, some))) (λ same. other (is ∙ ap status_of same));
    unkept = λ _. unkept;
  }
