-- The first line of a text, and the lines of one line after another.
use Rattle.std.proofs.Common.{◌≡◌, refl, sym, ap, ◌∙◌, ℕ, ◌+◌, ◌<◌, true, List, [], ◌∷◌, ◌++◌, length, take, drop, append_assoc, arith}
use Rattle.std.specs.Prelude.{map}
use Rattle.std.proofs.lemmas.List.{append-nil, append_cancel_left, take-append-drop, map-append}
use Rattle.std.proofs.lemmas.Grind.{flat_map-append}
use Rattle.circular_buffer.specs.Buffer.{Buffer, buffer, keep_last}
use Rattle.memchr.specs.Find.{is_byte, Nowhere, NoneBefore, Passes}
use Rattle.answer_lines.specs.Appended.{GrewInPart, Is}
use Rattle.stl_syntax.specs.Texts.{newline}
use Rattle.trace_reader.specs.TraceText.{Line, lines}
use Rattle.trace_reader.proofs.FeedLemmas.{none-free, at-free, at-taken}
use Rattle.trace_reader.proofs.LineLemmas.{done, lines-nil, lines-append, lines-rest, lines-line}
use Rattle.session_mux.specs.Sessions.{prefixed}
use Rattle.session_mux.specs.Saying.{texts, Putting}
use Rattle.session_mux.proofs.RecentLemmas.{kept_again}

-- up to its first LF
pub line_found : (text : List ℕ) (at : ℕ) → NoneBefore (Passes (is_byte 10) text) 0 (length text) at → Passes (is_byte 10) text at → at < length text
    → lines true text ≡ done (take at text) ∷ lines true (drop (at + 1) text)
line_found text at before here within =
    ap (λ t. lines true t) (sym (take-append-drop (at + 1) text) ∙ ap (λ t. t ++ drop (at + 1) text) (at-taken text at before here)
    ∙ append_assoc (take at text) newline (drop (at + 1) text))
    ∙ lines-append true (take at text) (drop (at + 1) text)
    ∙ ap (λ ls. ls ++ lines true (drop (at + 1) text)) (lines-line (take at text) (at-free text at before here))

-- without an LF it is one line
pub line_alone : (text : List ℕ) → 0 < length text → Nowhere (Passes (is_byte 10) text) 0 (length text) → lines true text ≡ done text ∷ []
line_alone [] some none = absurd (omega (arith, some))
line_alone (c ∷ text) some none = lines-rest true (c ∷ text) (none-free (c ∷ text) none)

-- ---- said so far

-- before the first line nothing was said
pub putting_begins : (prefix text before waiting : List ℕ) → waiting ≡ [] → Putting prefix text before text before waiting
putting_begins prefix text before waiting none = record {
  front = [];
  split = refl;
  added = ap (λ w. before ++ w) none;
  begins = ([], sym (append-nil before));
}

module _ (prefix text before rest mid now : List ℕ) (t : Putting prefix text before rest mid now)
    (line others : List ℕ) (is : lines true rest ≡ done line ∷ lines true others) where
  all : lines true text ≡ (t.front ++ done line ∷ []) ++ lines true others
  all = t.split ∙ ap (λ ls. t.front ++ ls) is ∙ sym (append_assoc t.front (done line ∷ []) (lines true others))

  one : prefixed prefix (done line ∷ []) ≡ prefix ++ line ++ newline
  one = append-nil (prefix ++ line ++ newline)

  -- what was said, and the line
  all_said : (w : List ℕ) → w ≡ (mid ++ now) ++ (prefix ++ line ++ newline) → w ≡ before ++ prefixed prefix (t.front ++ done line ∷ [])
  all_said w e =
      e ∙ ap (λ v. v ++ (prefix ++ line ++ newline)) t.added ∙ append_assoc before (prefixed prefix t.front) (prefix ++ line ++ newline)
      ∙ ap (λ v. before ++ v) (ap (λ v. prefixed prefix t.front ++ v) (sym one)
      ∙ sym (flat_map-append (λ (l : Line). prefix ++ l.bytes ++ newline) t.front (done line ∷ [])))

  -- what was added, and more
  on_from : (after : List ℕ) → (first : List ℕ) × (after ≡ mid ++ first) → (first : List ℕ) × (after ≡ before ++ first)
  on_from after (more, e) = (t.begins.0 ++ more, e ∙ ap (λ w. w ++ more) t.begins.1 ∙ append_assoc before t.begins.0 more)

  -- one line more
  pub putting_on : (after next : List ℕ) → after ++ next ≡ (mid ++ now) ++ (prefix ++ line ++ newline) → (first : List ℕ) × (after ≡ mid ++ first)
      → Putting prefix text before others after next
  putting_on after next e more = record { front = t.front ++ done line ∷ []; split = all; added = all_said (after ++ next) e; begins = on_from after more }

  -- a part of one more
  pub putting_cut : (after : List ℕ) → (left : List ℕ) × (after ++ left ≡ (mid ++ now) ++ (prefix ++ line ++ newline))
      → (first : List ℕ) × (after ≡ mid ++ first) → GrewInPart (Is (prefixed prefix (lines true text))) before after
  putting_cut after (left, e) more =
      let (first, k) = on_from after more in
      let whole : first ++ left ≡ prefixed prefix (t.front ++ done line ∷ []) =
      append_cancel_left before (first ++ left) (prefixed prefix (t.front ++ done line ∷ []))
      (sym (append_assoc before first left) ∙ ap (λ w. w ++ left) (sym k) ∙ all_said (after ++ left) e) in (
        first,
        left ++ prefixed prefix (lines true others),
        sym (append_assoc first left (prefixed prefix (lines true others))) ∙ ap (λ w. w ++ prefixed prefix (lines true others)) whole
            ∙ sym (ap (λ ls. prefixed prefix ls) all
            ∙ flat_map-append (λ (l : Line). prefix ++ l.bytes ++ newline) (t.front ++ done line ∷ []) (lines true others)),
        k,
      )

-- all lines
module _ (prefix text before rest mid now : List ℕ) (t : Putting prefix text before rest mid now) (none : rest ≡ []) where
  every : t.front ≡ lines true text
  every = sym (t.split ∙ ap (λ ls. t.front ++ ls) (ap (λ w. lines true w) none ∙ lines-nil true) ∙ append-nil t.front)

  -- once the text is used up all of its lines were put
  pub putting_all : (after : List ℕ) → after ≡ mid ++ now → after ≡ before ++ prefixed prefix (lines true text)
  putting_all after e = e ∙ t.added ∙ ap (λ ls. before ++ prefixed prefix ls) every

  -- or some, where those that wait could not be added
  pub putting_left : (after : List ℕ) → after ≡ mid → GrewInPart (Is (prefixed prefix (lines true text))) before after
  putting_left after e =
      let (first, k) = t.begins in (
        first,
        now,
        append_cancel_left before (first ++ now) (prefixed prefix (lines true text))
            (sym (append_assoc before first now) ∙ ap (λ w. w ++ now) (sym k) ∙ putting_all (mid ++ now) refl),
        e ∙ k,
      )

-- ---- kept so far

-- some of the lines were kept, and the others are those of the rest
pub record Keeping (text : List ℕ) (first : Buffer (List ℕ)) (rest : List ℕ) (now : Buffer (List ℕ)) : Type 0 where
  -- the lines that were kept
  pub front : List Line
  -- with the rest they are the lines of the text
  pub split : lines true text ≡ front ++ lines true rest
  -- the last eight lines have room
  pub capacity : now.capacity ≡ 8
  -- and are the last of those before and these
  pub kept : (said : List (List ℕ)) → first ≡ buffer (keep_last 8 said) 8 → now ≡ buffer (keep_last 8 (said ++ map (λ (line : Line). line.bytes) front)) 8

-- before the first line none was kept
pub keeping_begins : (text : List ℕ) (first : Buffer (List ℕ)) → first.capacity ≡ 8 → Keeping text first text first
keeping_begins text first room = record {
  front = [];
  split = refl;
  capacity = room;
  kept = λ said e. e ∙ ap (λ ts. buffer (keep_last 8 ts) 8) (sym (append-nil said));
}

-- one line more
pub keeping_on : (text : List ℕ) (first : Buffer (List ℕ)) (rest : List ℕ) (now : Buffer (List ℕ)) → (t : Keeping text first rest now)
    → (line others : List ℕ) → lines true rest ≡ done line ∷ lines true others
    → (next : Buffer (List ℕ)) → next ≡ buffer (keep_last 8 (now.items ++ line ∷ [])) 8 → Keeping text first others next
keeping_on text first rest now t line others is next e = record {
  front = t.front ++ done line ∷ [];
  split = t.split ∙ ap (λ ls. t.front ++ ls) is ∙ sym (append_assoc t.front (done line ∷ []) (lines true others));
  capacity = ap (λ (b : Buffer (List ℕ)). b.capacity) e;
  kept = λ said f. e
      ∙ ap (λ (b : Buffer (List ℕ)). buffer (keep_last 8 (b.items ++ line ∷ [])) 8) (t.kept said f)
      ∙ ap (λ ts. buffer ts 8) (kept_again 8 (said ++ map (λ (l : Line). l.bytes) t.front) (line ∷ []))
      ∙ ap (λ ts. buffer (keep_last 8 ts) 8) (append_assoc said (map (λ (l : Line). l.bytes) t.front) (line ∷ [])
      ∙ ap (λ ts. said ++ ts) (sym (map-append (λ (l : Line). l.bytes) t.front (done line ∷ []))));
}

-- once the text is used up the last eight lines are those of all that was said
pub keeping_all : (text : List ℕ) (first : Buffer (List ℕ)) (rest : List ℕ) (now : Buffer (List ℕ)) → (t : Keeping text first rest now) → rest ≡ []
    → (said : List (List ℕ)) → first ≡ buffer (keep_last 8 said) 8 → now ≡ buffer (keep_last 8 (said ++ texts text)) 8
keeping_all text first rest now t none said e =
    t.kept said e ∙ ap (λ ls. buffer (keep_last 8 (said ++ map (λ (l : Line). l.bytes) ls)) 8)
    (sym (t.split ∙ ap (λ ls. t.front ++ ls) (ap (λ w. lines true w) none ∙ lines-nil true) ∙ append-nil t.front))
