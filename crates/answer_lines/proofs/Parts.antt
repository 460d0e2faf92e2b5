-- Bytes that grew by the first part of a text.
use Rattle.std.proofs.Common.{◌≡◌, ℕ, List, ◌++◌, Result, OnErr, sym, ◌∙◌, ap, append_assoc, append-nil, [], subst}
use Rattle.rational.proofs.Lists.{on_err_anyway}
use Rattle.answer_lines.specs.Appended.{GrewInPart}

-- the first part of one text
pub part_of : {T E : Type 0} (r : Result T E) (whole old new first rest : List ℕ) → first ++ rest ≡ whole → new ≡ old ++ first
    → OnErr r (GrewInPart (λ w. w ≡ whole) old new)
part_of r whole old new first rest e grew = let p : GrewInPart (λ w. w ≡ whole) old new = (first, rest, e, grew) in on_err_anyway r p

-- the first part of a text of a kind
pub part_in : {T E : Type 0} (P : List ℕ → Type 0) (r : Result T E) (whole old new first rest : List ℕ) → P whole
    → first ++ rest ≡ whole → new ≡ old ++ first → OnErr r (GrewInPart P old new)
part_in P r whole old new first rest p e grew = let q : GrewInPart P old new = (first, rest, subst P (sym e) p, grew) in on_err_anyway r q

-- the first part of a middle text, after what came before it
pub part_inside : {T E : Type 0} (P : List ℕ → Type 0) (r : Result T E) (before middle after old mid new : List ℕ)
    → P (before ++ middle ++ after) → mid ≡ old ++ before
    → GrewInPart (λ w. w ≡ middle) mid new → OnErr r (GrewInPart P old new)
part_inside P r before middle after old mid new p e g =
    part_in P r (before ++ middle ++ after) old new (before ++ g.0) (g.1 ++ after) p
    (sym (append_assoc (before ++ g.0) g.1 after) ∙ ap (λ w. w ++ after) (append_assoc before g.0 g.1 ∙ ap (λ w. before ++ w) g.2))
    (g.3 ∙ ap (λ w. w ++ g.0) e ∙ append_assoc old before g.0)

-- nothing is the first part of each text
pub unwritten : (P : List ℕ → Type 0) (old text : List ℕ) → P text → GrewInPart P old old
unwritten P old text h = ([], text, h, sym (append-nil old))
