-- A text that was written begins one that is due: where only the first bytes are answered, and where all are.
use Rattle.std.proofs.Common.{◌≡◌, Bool, false, List, [], ◌++◌, ℕ, refl, sym, ap, ◌∙◌, subst, append-nil, append_assoc}
use Rattle.std.proofs.lemmas.Bool.{false≢true}
use Rattle.workbench.specs.Requests.{Request}
use Rattle.workbench.specs.Running.{IsBegun, IsDue}

module _ (request : Request) where
  -- what was due for the first bytes alone
  pub begun_before : (bytes piece text : List ℕ) (ended : Bool) → IsDue request bytes false text
      → IsBegun request (bytes ++ piece) ended (text ++ []) []
  begun_before bytes piece text ended due = record {
    seen = bytes;
    later = piece;
    parts = refl;
    seen_end = false;
    at_end = λ t. absurd (false≢true t);
    owed = subst (λ t. IsDue request bytes false t) (sym (append-nil (text ++ []) ∙ append-nil text)) due;
  }

  -- what was due for all bytes
  pub begun_now : (bytes text front back made : List ℕ) (ended : Bool) → made ≡ front ++ back → IsDue request bytes ended (text ++ made)
      → IsBegun request bytes ended (text ++ front) back
  begun_now bytes text front back made ended e due = record {
    seen = bytes;
    later = [];
    parts = sym (append-nil bytes);
    seen_end = ended;
    at_end = λ t. (t, refl);
    owed = subst (λ t. IsDue request bytes ended t) (ap (λ t. text ++ t) e ∙ sym (append_assoc text front back)) due;
  }
