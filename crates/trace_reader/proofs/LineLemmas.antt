-- The lines of bytes that go on: lines that are whole stay as they are.
use Rattle.std.proofs.Common.{◌≡◌, ℕ, suc, ◌⊎◌, inl, inr, Bool, true, false, List, [], ◌∷◌, ◌++◌, length, ◌+◌, ◌<◌, add-one, arith, refl, sym, ap, ◌∙◌}
use Rattle.std.proofs.lemmas.Bool.{cases_eq, eq-eqb, ne_eqb}
use Rattle.std.specs.Prelude.{All}
use Rattle.std.proofs.lemmas.List.{append-nil, length_push}
use Rattle.std.proofs.lemmas.List.Elements.{All-nil, All-cons, All-head, All-tail}
use Rattle.trace_reader.specs.TraceText.{Line, split, lines}
use Rattle.trace_reader.specs.Feeds.{HasNoFeed}
use Rattle.trace_reader.specs.Cut.{begun_after}

-- a cut text has a first part
split_some : (xs : List ℕ) → (p : List ℕ) × (ps : List (List ℕ)) × (split 10 xs ≡ p ∷ ps)
split_some [] = ([], [], refl)
split_some (x ∷ xs) = by_test (split_some xs) (cases_eq x 10)
  where
    by_test : ((p : List ℕ) × (ps : List (List ℕ)) × (split 10 xs ≡ p ∷ ps)) → (x ≡ 10) ⊎ (x ≡ 10 → ⊥)
        → (p : List ℕ) × (ps : List (List ℕ)) × (split 10 (x ∷ xs) ≡ p ∷ ps)
    by_test before (inl e) = ([], split 10 xs, rw (eq-eqb x 10 e) refl)
    by_test (p, ps, h) (inr e) = (x ∷ p, ps, rw (ne_eqb x 10 e, h) refl)

-- a byte before the first of some lines
abbrev pub put : Bool → ℕ → List Line → List Line
put ended x [] = record { bytes = x ∷ []; whole = ended } ∷ []
put ended x (l ∷ ls) = record { bytes = x ∷ l.bytes; whole = l.whole } ∷ ls

-- a line with these bytes that is whole
abbrev pub done : List ℕ → Line
done bytes = record { bytes = bytes; whole = true }

-- bytes without LF as lines
abbrev pub rest : Bool → List ℕ → List Line
rest ended [] = []
rest ended (c ∷ cs) = record { bytes = c ∷ cs; whole = ended } ∷ []

-- no bytes have no line
pub lines-nil : (ended : Bool) → lines ended [] ≡ []
unfolding lines
lines-nil ended = refl

-- an LF ends an empty line
pub lines-feed : (ended : Bool) (xs : List ℕ) → lines ended (10 ∷ xs) ≡ done [] ∷ lines ended xs
unfolding lines
lines-feed ended xs = let (p, ps, h) = split_some xs in rw h refl

-- another byte begins or lengthens the first line
pub lines-other : (ended : Bool) (x : ℕ) (xs : List ℕ) → (x ≡ 10 → ⊥) → lines ended (x ∷ xs) ≡ put ended x (lines ended xs)
unfolding lines
lines-other ended x xs other = let (p, ps, h) = split_some xs in by_parts p ps h
  where
    by_parts : (p : List ℕ) (ps : List (List ℕ)) → split 10 xs ≡ p ∷ ps → lines ended (x ∷ xs) ≡ put ended x (lines ended xs)
    by_parts [] [] h = rw (ne_eqb x 10 other, h) refl
    by_parts [] (q ∷ qs) h = rw (ne_eqb x 10 other, h) refl
    by_parts (c ∷ p) [] h = rw (ne_eqb x 10 other, h) refl
    by_parts (c ∷ p) (q ∷ qs) h = rw (ne_eqb x 10 other, h) refl

-- what ends with an LF has a line
some_line : (ended : Bool) (xs : List ℕ) → (l : Line) × (ls : List Line) × (lines ended (xs ++ 10 ∷ []) ≡ l ∷ ls)
some_line ended [] = (done [], lines ended [], lines-feed ended [])
some_line ended (x ∷ xs) = by_test (some_line ended xs) (cases_eq x 10)
  where
    by_test : ((l : Line) × (ls : List Line) × (lines ended (xs ++ 10 ∷ []) ≡ l ∷ ls)) → (x ≡ 10) ⊎ (x ≡ 10 → ⊥)
        → (l : Line) × (ls : List Line) × (lines ended ((x ∷ xs) ++ 10 ∷ []) ≡ l ∷ ls)
    by_test before (inl e) = (done [], lines ended (xs ++ 10 ∷ []), rw e (lines-feed ended (xs ++ 10 ∷ [])))
    by_test (l, ls, h) (inr e) = (record { bytes = x ∷ l.bytes; whole = l.whole }, ls, lines-other ended x (xs ++ 10 ∷ []) e ∙ ap (put ended x) h)

-- the lines up to an LF stay, and the others are those of what follows
pub lines-append : (ended : Bool) (xs ys : List ℕ) → lines ended (xs ++ 10 ∷ ys) ≡ lines false (xs ++ 10 ∷ []) ++ lines ended ys
lines-append ended [] ys = lines-feed ended ys ∙ sym (ap (λ ls. ls ++ lines ended ys) (lines-feed false [] ∙ ap (λ ls. done [] ∷ ls) (lines-nil false)))
lines-append ended (x ∷ xs) ys = by_test (lines-append ended xs ys) (some_line false xs) (cases_eq x 10)
  where
    by_test : lines ended (xs ++ 10 ∷ ys) ≡ lines false (xs ++ 10 ∷ []) ++ lines ended ys
        → ((l : Line) × (ls : List Line) × (lines false (xs ++ 10 ∷ []) ≡ l ∷ ls))
        → (x ≡ 10) ⊎ (x ≡ 10 → ⊥) → lines ended ((x ∷ xs) ++ 10 ∷ ys) ≡ lines false ((x ∷ xs) ++ 10 ∷ []) ++ lines ended ys
    by_test before some (inl e) =
        rw e (lines-feed ended (xs ++ 10 ∷ ys) ∙ (ap (λ ls. done [] ∷ ls) before ∙ sym (ap (λ ls. ls ++ lines ended ys) (lines-feed false (xs ++ 10 ∷ [])))))
    by_test before (l, ls, h) (inr e) =
        lines-other ended x (xs ++ 10 ∷ ys) e ∙ (ap (put ended x) (before ∙ ap (λ ms. ms ++ lines ended ys) h)
        ∙ sym (ap (λ ms. ms ++ lines ended ys) (lines-other false x (xs ++ 10 ∷ []) e ∙ ap (put false x) h)))

abbrev pub IsDone : Line → Type 0
IsDone line = line.whole ≡ true

-- they are whole
pub lines-done : (xs : List ℕ) → All IsDone (lines false (xs ++ 10 ∷ []))
lines-done [] = rw (lines-feed false [], lines-nil) (All-cons IsDone (done []) [] refl (All-nil IsDone))
lines-done (x ∷ xs) = by_test (lines-done xs) (some_line false xs) (cases_eq x 10)
  where
    by_test : All IsDone (lines false (xs ++ 10 ∷ [])) → ((l : Line) × (ls : List Line) × (lines false (xs ++ 10 ∷ []) ≡ l ∷ ls)) → (x ≡ 10) ⊎ (x ≡ 10 → ⊥)
        → All IsDone (lines false ((x ∷ xs) ++ 10 ∷ []))
    by_test before some (inl e) = rw (e, lines-feed false (xs ++ 10 ∷ [])) (All-cons IsDone (done []) (lines false (xs ++ 10 ∷ [])) refl before)
    by_test before (l, ls, h) (inr e) =
        let b : All IsDone (l ∷ ls) = rw h at before in
        rw (lines-other false x (xs ++ 10 ∷ []) e, h)
        (All-cons IsDone (record { bytes = x ∷ l.bytes; whole = l.whole }) ls (All-head IsDone l ls b) (All-tail IsDone l ls b))

-- bytes without LF are one line, if there are any
pub lines-rest : (ended : Bool) (xs : List ℕ) → HasNoFeed xs → lines ended xs ≡ rest ended xs
lines-rest ended [] h = lines-nil ended
lines-rest ended (x ∷ xs) h = lines-other ended x xs (All-head (λ c. c ≡ 10 → ⊥) x xs h)
    ∙ (ap (put ended x) (lines-rest ended xs (All-tail (λ c. c ≡ 10 → ⊥) x xs h)) ∙ put-rest xs)
  where
    put-rest : (ys : List ℕ) → put ended x (rest ended ys) ≡ rest ended (x ∷ ys)
    put-rest [] = refl
    put-rest (y ∷ ys) = refl

-- and with an LF they are one whole line
pub lines-line : (xs : List ℕ) → HasNoFeed xs → lines false (xs ++ 10 ∷ []) ≡ done xs ∷ []
lines-line [] h = lines-feed false [] ∙ ap (λ ls. done [] ∷ ls) (lines-nil false)
lines-line (x ∷ xs) h = lines-other false x (xs ++ 10 ∷ []) (All-head (λ c. c ≡ 10 → ⊥) x xs h)
    ∙ ap (put false x) (lines-line xs (All-tail (λ c. c ≡ 10 → ⊥) x xs h))

-- the lines begun
pub begun-going : (front : List Line) (begun : ℕ) (line part : List ℕ) → begun ≡ length (front ++ rest false line)
    → begun_after begun line (length part) ≡ length (front ++ rest false (line ++ part))
begun-going front begun [] [] h = h
begun-going front begun [] (c ∷ cs) h = ap suc (h ∙ ap length (append-nil front))
    ∙ sym (length_push front (record { bytes = c ∷ cs; whole = false }) ∙ add-one (length front))
begun-going front begun (c ∷ cs) part h =
    h ∙ (length_push front (record { bytes = c ∷ cs; whole = false }) ∙ sym (length_push front (record { bytes = c ∷ (cs ++ part); whole = false })))

-- the lines begun once an LF came
pub begun-closed : (front : List Line) (begun n : ℕ) (line text : List ℕ) → begun ≡ length (front ++ rest false line)
    → begun_after begun line (n + 1) ≡ length (front ++ done text ∷ [])
begun-closed front begun n [] text h =
    rw add-one (ap suc (h ∙ ap length (append-nil front)) ∙ sym (length_push front (done text) ∙ add-one (length front)))
begun-closed front begun n (c ∷ cs) text h =
    h ∙ (length_push front (record { bytes = c ∷ cs; whole = false }) ∙ sym (length_push front (done text)))

-- a line that is not empty has a byte
pub some_bytes : (line : List ℕ) → (line ≡ [] → ⊥) → 0 < length line
some_bytes [] h = absurd (h refl)
some_bytes (c ∷ cs) h = omega arith
