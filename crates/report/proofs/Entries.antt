-- The entries of verdicts that describe a signal: there is a text for them, and it grows list by list.
use Rattle.std.proofs.Common.{◌≡◌, ℕ, Bool, true, false, List, [], ◌∷◌, ◌++◌}
use Rattle.std.proofs.Common.{append-nil, append_assoc, refl, sym, ap, ◌∙◌, subst}
use Rattle.rational.specs.Time.{closed}
use Rattle.frac128.specs.Value.{value}
use Rattle.value_laws.specs.Members.{ShapeOf}
use Rattle.stl_syntax.specs.Texts.{IsVerdictLine, AreVerdictLines}
use Rattle.stl_syntax.specs.declared.items.Verdict.{Verdict}
use Rattle.stl_syntax.specs.declared.scale.Scale.{Scale}
use Rattle.pl_signal.specs.declared.knot.Knot.{Knot}
use Rattle.pl_signal.specs.Knots.{start, stop, IsWorth}
use Rattle.report.specs.SignalVerdicts.{DescribesFunction, AreSignalLines}
use Rattle.report.specs.VerdictForms.{IsEntry, AreEntries}
use Rattle.answer_lines.specs.Appended.{Grew, GrewInPart, AreEach, Then}
use Rattle.answer_lines.proofs.Growths as growth
use Rattle.answer_lines.proofs.Lines.{number_exists, line_exists, lines_join}
use Rattle.answer_lines.proofs.Growths.{grew_then, part_then, some_then}
use Rattle.answer_lines.proofs.Sequences.{each_join, each_exist}
use Rattle.answer_lines.proofs.Spans.{span_text}

each_line : (scale : Scale) (vs : List Verdict) (text : List ℕ) → AreEach (IsVerdictLine scale) vs text → AreVerdictLines scale vs text
each_line scale [] text h = h
each_line scale (v ∷ vs) text (here, later, first, others, e) = (here, later, first, each_line scale vs later others, e)

-- each verdict has a text in each form
pub entry_exists : (json last : Bool) (scale : Scale) (v : Verdict) → growth.Some (IsEntry json last scale v)
entry_exists false last scale v = line_exists scale v
entry_exists true last scale v =
    let from = number_exists scale.time (value v.on.from) in
    let to = number_exists scale.time (value v.on.to) in
    (_, (_, (_, span_text scale v.on from.0 to.0 from.1 to.1, refl), refl))

module _ {P : Type 0} (shape : ShapeOf P) (json : Bool) (scale : Scale) (knots : List (Knot P)) where
  -- the verdicts describe the signal
  abbrev pub Described : List Verdict → Type 0
  Described verdicts = DescribesFunction (IsWorth shape knots) verdicts (closed (start knots) (stop knots))

  abbrev Written : List Verdict → Verdict → List ℕ → Type 0
  Written before last = Then (AreEach (IsEntry json false scale) before) (IsEntry json true scale last)

  -- verdicts that describe a signal, the last one apart
  pub entries_all : (before : List Verdict) (last : Verdict) (old mid new : List ℕ) → Described (before ++ last ∷ [])
      → Grew (AreEach (IsEntry json false scale) before) old mid → Grew (IsEntry json true scale last) mid new
      → Grew (AreEntries shape json scale knots) old new
  entries_all before last old mid new d h k =
      let (text, w, e) = grew_then (AreEach (IsEntry json false scale) before) (IsEntry json true scale last) old mid new h k in
      (text, record { before = before; last = last; described = d; written = w }, e)

  part_written : (before : List Verdict) (last : Verdict) (old new : List ℕ) → Described (before ++ last ∷ []) → GrewInPart (Written before last) old new
      → GrewInPart (AreEntries shape json scale knots) old new
  part_written before last old new d (first, rest, w, e) = (first, rest, record { before = before; last = last; described = d; written = w }, e)

  -- a part of the last
  pub entries_part_last : (before : List Verdict) (last : Verdict) (old mid new : List ℕ) → Described (before ++ last ∷ [])
      → Grew (AreEach (IsEntry json false scale) before) old mid → GrewInPart (IsEntry json true scale last) mid new
      → GrewInPart (AreEntries shape json scale knots) old new
  entries_part_last before last old mid new d h k =
      part_written before last old new d (part_then (AreEach (IsEntry json false scale) before) (IsEntry json true scale last) old mid new h k)

  -- a part of one before it
  pub entries_part : (vs ws later : List Verdict) (last : Verdict) (old mid new : List ℕ) → Described (vs ++ (ws ++ (later ++ last ∷ [])))
      → Grew (AreEach (IsEntry json false scale) vs) old mid → GrewInPart (AreEach (IsEntry json false scale) ws) mid new
      → GrewInPart (AreEntries shape json scale knots) old new
  entries_part vs ws later last old mid new d (text, h, e) (a, b, k, f) =
      let E = IsEntry json false scale in
      let more = each_exist E (entry_exists json false scale) later in
      let end = entry_exists json true scale last in
      let front = each_join E vs (ws ++ later) text ((a ++ b) ++ more.0) h (each_join E ws later (a ++ b) more.0 k more.1) in
      part_written (vs ++ (ws ++ later)) last old new (subst Described (sym (lists vs ws later (last ∷ []))) d) (
        text ++ a,
        b ++ (more.0 ++ end.0),
        (text ++ ((a ++ b) ++ more.0), end.0, front, end.1, texts text a b more.0 end.0),
        f ∙ ap (λ w. w ++ a) e ∙ append_assoc old text a,
      )
    where
      lists : (a b c d : List Verdict) → (a ++ (b ++ c)) ++ d ≡ a ++ (b ++ (c ++ d))
      lists a b c d = simp append_assoc

      texts : (t a b m n : List ℕ) → (t ++ a) ++ (b ++ (m ++ n)) ≡ (t ++ ((a ++ b) ++ m)) ++ n
      texts t a b m n = simp append_assoc

  -- they have a text
  pub entries_text : (before : List Verdict) (last : Verdict) → Described (before ++ last ∷ []) → growth.Some (AreEntries shape json scale knots)
  entries_text before last d =
      let E = IsEntry json false scale in
      let all =
      some_then (AreEach E before) (IsEntry json true scale last) (each_exist E (entry_exists json false scale) before) (entry_exists json true scale last) in
      (all.0, record { before = before; last = last; described = d; written = all.1 })

-- verdicts in lines are the lines of the signal
pub entries_are_lines : {P : Type 0} (shape : ShapeOf P) (scale : Scale) (knots : List (Knot P)) (text : List ℕ) → AreEntries shape false scale knots text
    → AreSignalLines shape scale knots text
entries_are_lines shape scale knots text h =
    let (front, end, lines, line, e) = h.written in
    record {
      verdicts = h.before ++ h.last ∷ [];
      described = h.described;
      lines = subst (AreVerdictLines scale (h.before ++ h.last ∷ [])) (sym e)
          (lines_join scale h.before (h.last ∷ []) front end (each_line scale h.before front lines) (end, [], line, refl, sym (append-nil end)));
    }
