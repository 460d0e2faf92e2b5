-- Bytes that grow by one text after another, or by a first part of the last.
use Rattle.std.proofs.Common.{◌≡◌, ℕ, List, [], ◌++◌, append-nil, append_assoc, refl, sym, ap, ◌∙◌, subst}
use Rattle.std.specs.Prelude.{Result, Ok, Err, OnOk}
use Rattle.std.proofs.lemmas.List.{append_cancel_left}
use Rattle.answer_lines.specs.Appended.{Grew, GrewInPart, Then, Is}

-- some text of a kind
abbrev pub Some : (List ℕ → Type 0) → Type 0
Some P = (text : List ℕ) × P text

-- these bytes are a text of their own kind
pub word_exists : (word : List ℕ) → Some (Is word)
word_exists word = (word, refl)

-- what was appended is the growth
pub grew_is : (word old new : List ℕ) → new ≡ old ++ word → Grew (Is word) old new
grew_is word old new e = (word, refl, e)

-- nothing came
pub part_none : (P : List ℕ → Type 0) (old new : List ℕ) → Some P → new ≡ old → GrewInPart P old new
part_none P old new (text, p) e = ([], text, p, e ∙ sym (append-nil old))

-- two growths, one after the other, are one
pub grew_then : (P Q : List ℕ → Type 0) (old mid new : List ℕ) → Grew P old mid → Grew Q mid new → Grew (Then P Q) old new
grew_then P Q old mid new (a, p, e) (b, q, f) = (a ++ b, (a, b, p, q, refl), f ∙ ap (λ w. w ++ b) e ∙ append_assoc old a b)

-- a growth and a cut in the next are a cut in both
pub part_then : (P Q : List ℕ → Type 0) (old mid new : List ℕ) → Grew P old mid → GrewInPart Q mid new → GrewInPart (Then P Q) old new
part_then P Q old mid new (a, p, e) (b, rest, q, f) =
    (a ++ b, rest, (a, b ++ rest, p, q, append_assoc a b rest), f ∙ ap (λ w. w ++ b) e ∙ append_assoc old a b)

-- a cut in the first is a cut in both, where there is a second
pub part_first : (P Q : List ℕ → Type 0) (old new : List ℕ) → GrewInPart P old new → Some Q → GrewInPart (Then P Q) old new
part_first P Q old new (a, rest, p, e) (b, q) = (a, rest ++ b, (a ++ rest, b, p, q, sym (append_assoc a rest b)), e)

-- a growth of one kind is one of a wider kind
pub grew_as : (P Q : List ℕ → Type 0) (old new : List ℕ) → ((w : List ℕ) → P w → Q w) → Grew P old new → Grew Q old new
grew_as P Q old new h (a, p, e) = (a, h a p, e)

-- a cut in a text of one kind is one in a text of a wider kind
pub part_as : (P Q : List ℕ → Type 0) (old new : List ℕ) → ((w : List ℕ) → P w → Q w) → GrewInPart P old new → GrewInPart Q old new
part_as P Q old new h (a, rest, p, e) = (a, rest, h (a ++ rest) p, e)

-- where both have a text, both together have one
pub some_then : (P Q : List ℕ → Type 0) → Some P → Some Q → Some (Then P Q)
some_then P Q (a, p) (b, q) = (a ++ b, (a, b, p, q, refl))

-- what was appended of a cut, from the same place on, is a cut
pub part_shorter : (P : List ℕ → Type 0) (old new more front : List ℕ) → GrewInPart P old (new ++ more) → new ≡ old ++ front → GrewInPart P old new
part_shorter P old new more front (a, rest, p, e) f =
    let same : a ≡ front ++ more = append_cancel_left old a (front ++ more) (sym e ∙ (ap (λ w. w ++ more) f ∙ append_assoc old front more)) in
    (front, more ++ rest, subst P (ap (λ w. w ++ rest) same ∙ append_assoc front more rest) p, f)

-- two growths, one after the other
pub front_then : (old mid new a b : List ℕ) → mid ≡ old ++ a → new ≡ mid ++ b → new ≡ old ++ (a ++ b)
front_then old mid new a b e f = f ∙ (ap (λ w. w ++ b) e ∙ append_assoc old a b)

-- both parts stayed as they were
pub joined_same : (t u l m : List ℕ) → u ≡ t → m ≡ l → u ++ m ≡ (t ++ l) ++ []
joined_same t u l m e f = ap (λ w. w ++ m) e ∙ (ap (λ w. t ++ w) f ∙ sym (append-nil (t ++ l)))

-- two facts of an Ok make a third
pub on_ok_both : {T E A B C : Type 0} (r : Result T E) → (A → B → C) → OnOk r A → OnOk r B → OnOk r C
on_ok_both (Ok x) f a b = f a b
on_ok_both (Err e) f a b = tt

-- what was handed over and what is left are what there was
pub joined_none : (t u l m : List ℕ) → u ≡ t ++ l → m ≡ [] → u ++ m ≡ t ++ l
joined_none t u l m e f = ap (λ w. u ++ w) f ∙ (append-nil u ∙ e)
