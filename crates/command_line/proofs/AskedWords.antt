-- Words of the form of a command: its own word and one more, and they alone.
use Rattle.std.proofs.Common.{◌≡◌, inl, inr, ℕ, List, [], ◌∷◌, refl, sym, subst}
use Rattle.command_line.specs.Commands.{Verb, on_formula, IsForm, of_formula, verb_word}
use Rattle.command_line.specs.Words.{IsAsked, IsAmong, built_commands, AreOfNoFormula, verb_of}
use Rattle.command_line.specs.declared.request.Command.TheVariants.{Check, Robust, Explain, Json, Table}
use Rattle.command_line.specs.declared.request.Mode.{Mode}
use Rattle.command_line.specs.declared.request.Mode.TheVariants.{Whole, Watch, Early, Mux, Margins}

-- the words of the form of a command
pub word_form : {words : List (List ℕ)} {j : Verb} {text : List ℕ} → IsForm words (on_formula j text) → words ≡ verb_word j ∷ text ∷ []
word_form (of_formula j) = refl

is_built : (m : Mode) → IsAmong (verb_of m) built_commands
is_built (Whole Check) = inl refl
is_built Watch = inr (inl refl)
is_built (Whole Robust) = inr (inr (inl refl))
is_built (Whole Explain) = inr (inr (inr (inl refl)))
is_built (Whole Json) = inr (inr (inr (inr (inl refl))))
is_built (Whole Table) = inr (inr (inr (inr (inr (inl refl)))))
is_built Early = inr (inr (inr (inr (inr (inr (inl refl))))))
is_built Mux = inr (inr (inr (inr (inr (inr (inr (inl refl)))))))
is_built Margins = inr (inr (inr (inr (inr (inr (inr (inr (inl refl))))))))

-- a command's word and one more are of a form that is built
pub asked_word : {words : List (List ℕ)} (m : Mode) (text : List ℕ) → words ≡ verb_word (verb_of m) ∷ text ∷ [] → IsAsked words (on_formula (verb_of m) text)
asked_word {words} m text e = record { built = is_built m; is = subst (λ ws. IsForm ws (on_formula (verb_of m) text)) (sym e) (of_formula (verb_of m)) }

-- and they alone
pub none_asked : {words : List (List ℕ)} → ((m : Mode) (text : List ℕ) → words ≡ verb_word (verb_of m) ∷ text ∷ [] → ⊥) → AreOfNoFormula words
none_asked {words} h j text a = by_word a.built
  where
    form_of : (m : Mode) → j ≡ verb_of m → ⊥
    form_of m e = h m text (subst (λ k. words ≡ verb_word k ∷ text ∷ []) e (word_form a.is))

    by_word : IsAmong j built_commands → ⊥
    by_word (inl e) = form_of (Whole Check) e
    by_word (inr (inl e)) = form_of Watch e
    by_word (inr (inr (inl e))) = form_of (Whole Robust) e
    by_word (inr (inr (inr (inl e)))) = form_of (Whole Explain) e
    by_word (inr (inr (inr (inr (inl e))))) = form_of (Whole Json) e
    by_word (inr (inr (inr (inr (inr (inl e)))))) = form_of (Whole Table) e
    by_word (inr (inr (inr (inr (inr (inr (inl e))))))) = form_of Early e
    by_word (inr (inr (inr (inr (inr (inr (inr (inl e)))))))) = form_of Mux e
    by_word (inr (inr (inr (inr (inr (inr (inr (inr (inl e))))))))) = form_of Margins e
    by_word (inr (inr (inr (inr (inr (inr (inr (inr (inr other))))))))) = other
