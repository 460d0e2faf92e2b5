-- The last lines of what was said.
use Rattle.std.proofs.Common.{◌≡◌, refl, sym, ap, ◌∙◌, ℕ, suc, ◌-◌, true, List, [], ◌∷◌, ◌++◌, length, drop, arith, length-append, length-drop}
use Rattle.std.specs.Prelude.{map}
use Rattle.std.proofs.lemmas.List.{drop-append-le, drop-drop, drop-map}
use Rattle.circular_buffer.specs.Buffer.{keep_last}
use Rattle.stl_syntax.specs.Texts.{newline}
use Rattle.trace_reader.specs.TraceText.{Line, lines}
use Rattle.session_mux.specs.Sessions.{prefixed, last_eight}
use Rattle.session_mux.specs.Saying.{texts, prefixed_texts}

-- what falls out early does not come back
pub kept_again : {X : Type 0} (n : ℕ) (xs ys : List X) → keep_last n (keep_last n xs ++ ys) ≡ keep_last n (xs ++ ys)
kept_again n xs ys =
    let k : ℕ = length xs - n in
    let front : drop k xs ++ ys ≡ drop k (xs ++ ys) = sym (drop-append-le k xs ys (omega arith)) in
    ap (λ zs. drop (length zs - n) zs) front
    ∙ drop-drop (length (drop k (xs ++ ys)) - n) k (xs ++ ys)
    ∙ ap (λ m. drop m (xs ++ ys)) (omega (arith, length-drop k (xs ++ ys), length-append xs ys))

-- lines, each after a prefix, by their bytes
pub prefixed_by_bytes : (prefix : List ℕ) (all : List Line) → prefixed_texts prefix (map (λ (line : Line). line.bytes) all) ≡ prefixed prefix all
prefixed_by_bytes prefix [] = refl
prefixed_by_bytes prefix (line ∷ all) = ap (λ t. (prefix ++ line.bytes ++ newline) ++ t) (prefixed_by_bytes prefix all)

line_count : (all : List Line) → length (map (λ (line : Line). line.bytes) all) ≡ length all
line_count [] = refl
line_count (line ∷ all) = ap suc (line_count all)

-- the last ones
pub prefixed_last : (prefix text : List ℕ) → prefixed_texts prefix (keep_last 8 (texts text)) ≡ prefixed prefix (last_eight (lines true text))
prefixed_last prefix text =
    ap (λ n. prefixed_texts prefix (drop (n - 8) (texts text))) (line_count (lines true text))
    ∙ ap (λ ts. prefixed_texts prefix ts) (drop-map (λ (line : Line). line.bytes) (length (lines true text) - 8) (lines true text))
    ∙ prefixed_by_bytes prefix (last_eight (lines true text))
