-- What a bench hears of the whole lines of a text comes first in what it hears of each text that goes on from it.
use Rattle.std.proofs.Common.{◌≡◌, ℕ, Bool, true, false, List, [], ◌∷◌, ◌++◌, refl, sym, ap, ◌∙◌, append-nil}
use Rattle.std.specs.Prelude.{All, map, flat_map, if◌then◌else◌}
use Rattle.std.proofs.lemmas.Grind.{flat_map-append}
use Rattle.std.proofs.lemmas.List.{map-append}
use Rattle.std.proofs.lemmas.List.Elements.{All-head, All-tail}
use Rattle.trace_reader.specs.TraceText.{Line, lines}
use Rattle.trace_reader.proofs.LineLemmas.{IsDone, rest, lines-nil}
use Rattle.trace_reader.proofs.OpenLines.{Parts, parts, lines-now, open_line}
use Rattle.session_laws.specs.Hearing.{heard, says_to}
use Rattle.session_mux.specs.Saying.{texts}
use Rattle.run_laws.specs.Crowd.{whole_texts, heard_whole}

abbrev bytes_of : Line → List ℕ
bytes_of line = line.bytes

abbrev kept : Line → List (List ℕ)
kept line = if line.whole then line.bytes ∷ [] else []

-- of whole lines all are kept
all_kept : (ls : List Line) → All IsDone ls → flat_map kept ls ≡ map bytes_of ls
all_kept [] whole = refl
all_kept (l ∷ ls) whole =
    ap (λ (w : Bool). (if w then l.bytes ∷ [] else []) ++ flat_map kept ls) (All-head IsDone l ls whole)
    ∙ ap (λ ts. l.bytes ∷ ts) (all_kept ls (All-tail IsDone l ls whole))

-- a line that goes on is not
none_kept : (line : List ℕ) → flat_map kept (rest false line) ≡ []
none_kept [] = refl
none_kept (c ∷ cs) = refl

-- the whole lines of a text come first in each text that goes on from it
whole_first : (text more : List ℕ) → (later : List (List ℕ)) × (texts (text ++ more) ≡ whole_texts text ++ later)
whole_first text more = let (line, o) = open_line text in of_parts line (parts o)
  where
    of_parts : (line : List ℕ) → Parts text line → (later : List (List ℕ)) × (texts (text ++ more) ≡ whole_texts text ++ later)
    of_parts line p =
        let mine : whole_texts text ≡ map bytes_of p.front =
        ap (flat_map kept) (lines-now text line p false) ∙ flat_map-append kept p.front (rest false line)
        ∙ ap (λ ts. flat_map kept p.front ++ ts) (none_kept line) ∙ append-nil (flat_map kept p.front) ∙ all_kept p.front p.whole in
        let later = map bytes_of (lines true (line ++ more)) in
        (later, ap (map bytes_of) (p.joins true more) ∙ map-append bytes_of p.front (lines true (line ++ more)) ∙ ap (λ ts. ts ++ later) (sym mine))

-- so does what the bench hears of them
pub heard_first : (t text more : List ℕ) → (later : List (List ℕ)) × (heard t (text ++ more) ≡ heard_whole t text ++ later)
heard_first t text more =
    let (later, e) = whole_first text more in
    (flat_map (says_to t) later, ap (flat_map (says_to t)) e ∙ flat_map-append (says_to t) (whole_texts text) later)

-- of nothing it hears nothing
pub heard_nothing : (t : List ℕ) → heard_whole t [] ≡ []
heard_nothing t = ap (λ ls. flat_map (says_to t) (flat_map kept ls)) (lines-nil false)
