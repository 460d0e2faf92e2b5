-- Bytes by their whole lines and the bytes of a line that goes on.
use Rattle.std.proofs.Common.{◌≡◌, ℕ, ◌<◌, ◌≤◌, ◌⊎◌, inl, inr, Bool, false, List, [], ◌∷◌, ◌++◌, length, refl, sym, ap, ◌∙◌, subst, arith}
use Rattle.std.specs.Prelude.{All}
use Rattle.std.proofs.lemmas.List.{append_assoc, append-nil}
use Rattle.std.proofs.lemmas.List.Elements.{All-nil, All-cons, All-head, All-tail}
use Rattle.std.proofs.lemmas.Bool.{cases_eq}
use Rattle.trace_reader.specs.TraceText.{Line, lines}
use Rattle.trace_reader.specs.Feeds.{HasNoFeed, IsOpenLine, first, later}
use Rattle.trace_reader.proofs.LineLemmas.{IsDone, rest, put, lines-append, lines-done, lines-rest, lines-other}

-- a text by the lines up to its last LF, and what follows it
pub record Parts (bytes line : List ℕ) : Type 0 where
  -- the lines that have ended
  pub front : List Line
  -- each of them has its LF
  pub whole : All IsDone front
  -- what follows them has no LF
  pub free : HasNoFeed line
  -- more bytes change only the line that goes on and what follows it
  pub joins : (e : Bool) (more : List ℕ) → lines e (bytes ++ more) ≡ front ++ lines e (line ++ more)

-- each text has these parts
pub parts : {bytes line : List ℕ} → IsOpenLine bytes line → Parts bytes line
parts (first free) = record { front = []; whole = All-nil IsDone; free = free; joins = λ e more. refl }
parts (later before {line} free) = record {
  front = lines false (before ++ 10 ∷ []);
  whole = lines-done before;
  free = free;
  joins = λ e more. ap (lines e) (append_assoc before (10 ∷ line) more) ∙ lines-append e before (line ++ more);
}

-- the lines now
module _ (bytes line : List ℕ) (p : Parts bytes line) where
  -- its lines by them
  pub lines-now : (e : Bool) → lines e bytes ≡ p.front ++ rest e line
  lines-now e =
      sym (ap (lines e) (append-nil bytes)) ∙ (p.joins e []
      ∙ ap (λ ls. p.front ++ ls) (ap (lines e) (append-nil line) ∙ lines-rest e line p.free))

-- what follows the last LF
one_more : (x : ℕ) {bytes line : List ℕ} → IsOpenLine bytes line → (x ≡ 10) ⊎ (x ≡ 10 → ⊥) → (l : List ℕ) × IsOpenLine (x ∷ bytes) l
one_more x (first {line} free) (inl e) = (line, subst (λ c. IsOpenLine (c ∷ line) line) (sym e) (later [] free))
one_more x (first {line} free) (inr e) = (x ∷ line, first (All-cons (λ c. c ≡ 10 → ⊥) x line e free))
one_more x (later before {line} free) e = (line, later (x ∷ before) free)

-- what follows the last LF
pub open_line : (bytes : List ℕ) → (line : List ℕ) × IsOpenLine bytes line
open_line [] = ([], first (All-nil (λ c. c ≡ 10 → ⊥)))
open_line (x ∷ bytes) = let (line, o) = open_line bytes in one_more x o (cases_eq x 10)

-- a line that goes on keeps its bytes
pub grows : (ended : Bool) (line more : List ℕ) → HasNoFeed line → 0 < length line
    → (l : Line) × (ls : List Line) × (lines ended (line ++ more) ≡ l ∷ ls) × (length line ≤ length l.bytes)
grows ended [] more h some = absurd (omega arith)
grows ended (x ∷ []) more h some =
    let e = lines-other ended x more (All-head (λ c. c ≡ 10 → ⊥) x [] h) in by_lines (lines ended more) e
  where
    by_lines : (ms : List Line) → lines ended (x ∷ more) ≡ put ended x ms
        → (l : Line) × (ls : List Line) × (lines ended (x ∷ more) ≡ l ∷ ls) × (1 ≤ length l.bytes)
    by_lines [] e = (record { bytes = x ∷ []; whole = ended }, [], e, omega arith)
    by_lines (m ∷ ms) e = (record { bytes = x ∷ m.bytes; whole = m.whole }, ms, e, omega arith)
grows ended (x ∷ y ∷ line) more h some =
    let t = All-tail (λ c. c ≡ 10 → ⊥) x (y ∷ line) h in
    let (l, ls, e, n) = grows ended (y ∷ line) more t (omega arith) in (
      record { bytes = x ∷ l.bytes; whole = l.whole },
      ls,
      lines-other ended x ((y ∷ line) ++ more) (All-head (λ c. c ≡ 10 → ⊥) x (y ∷ line) h) ∙ ap (put ended x) e,
      omega (arith, n),
    )
