-- Whole lines one after another: what further lines come to after them.
use Rattle.std.proofs.Common.{◌≡◌, ℕ, inl, inr, suc, ◌<◌, ◌≤◌, Bool, true, false, List, [], ◌∷◌, ◌++◌, length}
use Rattle.std.proofs.Common.{refl, sym, ap, ◌∙◌, subst, arith, Option, Some, None, append_assoc, add-one}
use Rattle.std.specs.Prelude.{All, MatchBool}
use Rattle.std.proofs.lemmas.List.{append-nil, length_push}
use Rattle.std.proofs.lemmas.List.Elements.{All-nil, All-cons, All-append, All-push, All-weaker}
use Rattle.std.proofs.lemmas.Bool.{false≢true}
use Rattle.stl_syntax.specs.Trace.{Row, Header}
use Rattle.stl_syntax.specs.declared.scale.Scale.{Scale}
use Rattle.stl_syntax.proofs.RowsLemmas.{last_time-push}
use Rattle.trace_reader.specs.TraceText.{Line, lines, is_blank_line, fields, Heading, IsHeading, IsRow, scale_of}
use Rattle.trace_reader.specs.TraceText.{AreRowLines, none, unfinished, blank, row, AreTraceLines, heading}
use Rattle.trace_reader.specs.TraceRefusals.{LineFault, InLine, HeaderFault, RowFault, FaultFrom, FaultAfter}
use Rattle.trace_reader.specs.Reader.{FaultsOn, ReadsOn, GoesOn, HasRead, IsBlankSoFar, header_of, last_seen}
use Rattle.trace_reader.specs.declared.refusal.Limits.{Limits}
use Rattle.trace_reader.specs.declared.refusal.TraceRefusal.{TraceRefusal}
use Rattle.trace_reader.specs.declared.refusal.TraceKind.{TraceKind}
use Rattle.trace_reader.proofs.LineLemmas.{done, rest}
use Rattle.trace_reader.proofs.TraceRefusalExamples.{no_line_fault}
use Rattle.trace_reader.proofs.TraceRefusalLaw.{heading-unique, row-unique}

in_true : (b : Bool) (A B : Type 0) → b ≡ true → A → MatchBool b A B
in_true true A B e a = a
in_true false A B e a = absurd (false≢true e)

in_false : (b : Bool) (A B : Type 0) → b ≡ false → B → MatchBool b A B
in_false true A B e x = absurd (false≢true (sym e))
in_false false A B e x = x

out_true : (b : Bool) (A B : Type 0) → b ≡ true → MatchBool b A B → A
out_true true A B e a = a
out_true false A B e a = absurd (false≢true e)

out_false : (b : Bool) (A B : Type 0) → b ≡ false → MatchBool b A B → B
out_false true A B e x = absurd (false≢true (sym e))
out_false false A B e x = x

-- a fault of the first line that is known before it is whole
pub line_bad : (limits : Limits) (least : Scale) (h : Option Heading) (rows : List Row) (ended : Bool) (n : ℕ) (l : Line) (more : List Line) (x : TraceRefusal)
    → InLine n (LineFault limits n l) x → FaultsOn limits least h rows ended n (l ∷ more) x
line_bad limits least None rows ended n l more x f = inl f
line_bad limits least (Some h) rows ended n l more x f = inl f

-- a whole line within the limits, the first of those from line n on
module _ (limits : Limits) (least : Scale) (ended : Bool) (n : ℕ) (line : List ℕ) (more : List Line) (x : TraceRefusal)
    (few : n ≤ limits.lines) (short : length line ≤ 4096) where
  fits : (y : TraceRefusal) → ¬ InLine n (LineFault limits n (done line)) y
  fits = no_line_fault limits n (done line) few short

  -- the faults after a blank line are those from it on
  pub blank_to : (h : Option Heading) (rows : List Row) → is_blank_line (done line) ≡ true → FaultsOn limits least h rows ended (suc n) more x
      → FaultsOn limits least h rows ended n (done line ∷ more) x
  blank_to None rows b f = inr (fits, (refl, in_true (is_blank_line (done line)) _ _ b f))
  blank_to (Some h) rows b f = inr (fits, (refl, in_true (is_blank_line (done line)) _ _ b f))

  -- and the other way
  pub blank_from : (h : Option Heading) (rows : List Row) → is_blank_line (done line) ≡ true → FaultsOn limits least h rows ended n (done line ∷ more) x
      → FaultsOn limits least h rows ended (suc n) more x
  blank_from None rows b (inl f) = absurd (fits x f)
  blank_from None rows b (inr (_, (w, f))) = out_true (is_blank_line (done line)) _ _ b f
  blank_from (Some h) rows b (inl f) = absurd (fits x f)
  blank_from (Some h) rows b (inr (_, (w, f))) = out_true (is_blank_line (done line)) _ _ b f

  module _ (b : is_blank_line (done line) ≡ false) where
    -- a fault of the header is the first from its line on
    pub heading_bad : (rows : List Row) → x.line ≡ n → HeaderFault (fields (done line)) x.kind → FaultsOn limits least None rows ended n (done line ∷ more) x
    heading_bad rows e f = inr (fits, (refl, in_false (is_blank_line (done line)) _ _ b (inl (e, f))))

    -- and a fault of a row is
    pub row_bad : (h : Heading) (rows : List Row) → x.line ≡ n → RowFault limits (scale_of least h) h (length rows) (last_seen rows) (fields (done line)) x.kind
        → FaultsOn limits least (Some h) rows ended n (done line ∷ more) x
    row_bad h rows e f = inr (fits, (refl, in_false (is_blank_line (done line)) _ _ b (inl (e, f))))

    module _ (h : Heading) (is : IsHeading (fields (done line)) h) (sound : (k : TraceKind) → ¬ HeaderFault (fields (done line)) k) where
      -- the faults after the header are those from it on
      pub heading_to : FaultsOn limits least (Some h) [] ended (suc n) more x → FaultsOn limits least None [] ended n (done line ∷ more) x
      heading_to f = inr (fits, (refl, in_false (is_blank_line (done line)) _ _ b (inr ((λ y a. sound y.kind a.1), (h, is, f)))))

      -- and the other way
      pub heading_from : FaultsOn limits least None [] ended n (done line ∷ more) x → FaultsOn limits least (Some h) [] ended (suc n) more x
      heading_from (inl f) = absurd (fits x f)
      heading_from (inr (_, (w, m))) = elim (out_false (is_blank_line (done line)) _ _ b m) [
        | inl f ↦ absurd (sound x.kind f.1)
        | inr f ↦ subst (λ g. FaultsOn limits least (Some g) [] ended (suc n) more x) (heading-unique (fields (done line)) f.1.0 h f.1.1 is) f.1.2
      ]

    module _ (h : Heading) (rows : List Row) (r : Row) (is : IsRow (scale_of least h) h (fields (done line)) r)
        (sound : (k : TraceKind) → ¬ RowFault limits (scale_of least h) h (length rows) (last_seen rows) (fields (done line)) k) where
      abbrev Later : Row → Type 0
      Later y = FaultAfter limits (scale_of least h) h ended (suc n) (suc (length rows)) (Some y.time) more x

      -- the faults after a row are those from it on
      pub row_to : Later r → FaultsOn limits least (Some h) rows ended n (done line ∷ more) x
      row_to f = inr (fits, (refl, in_false (is_blank_line (done line)) _ _ b (inr ((λ y a. sound y.kind a.1), (r, is, f)))))

      -- and the other way
      pub row_from : FaultsOn limits least (Some h) rows ended n (done line ∷ more) x → Later r
      row_from (inl f) = absurd (fits x f)
      row_from (inr (_, (w, m))) = elim (out_false (is_blank_line (done line)) _ _ b m) [
        | inl f ↦ absurd (sound x.kind f.1)
        | inr f ↦ subst Later (row-unique (scale_of least h) h (fields (done line)) f.1.0 r f.1.1 is) f.1.2
      ]

-- what is read of a line more
reads_blank : (least : Scale) (h : Option Heading) (line : List ℕ) (more : List Line) (g : Header) (later : List Row)
    → is_blank_line (done line) ≡ true → ReadsOn least h more g later
    → ReadsOn least h (done line ∷ more) g later
reads_blank least None line more g later b r = blank refl b r
reads_blank least (Some h) line more g later b r = (r.0, blank refl b r.1)

-- a line more after those that were read
abbrev IsBlankLine : Line → Type 0
IsBlankLine l = is_blank_line l ≡ true

module _ (limits : Limits) (least : Scale) (front : List Line) (line : List ℕ) (few : suc (length front) ≤ limits.lines) (short : length line ≤ 4096) where
  abbrev longer : List Line
  longer = front ++ done line ∷ []

  place : suc (length longer) ≡ suc (suc (length front))
  place = ap suc (length_push front (done line) ∙ add-one (length front))

  joined : (more : List Line) → longer ++ more ≡ front ++ (done line ∷ more)
  joined more = append_assoc front (done line ∷ []) more

  -- lines go on after a blank line
  pub goes_blank : (h : Option Heading) (rows : List Row) → GoesOn limits least front h rows → is_blank_line (done line) ≡ true
      → GoesOn limits least longer h rows
  goes_blank h rows g b = record {
    faults = λ ended more x f. subst (λ ls. FaultFrom limits least ended 1 ls x) (sym (joined more)) (g.faults ended (done line ∷ more) x
        (blank_to limits least ended (suc (length front)) line more x few short h rows b (subst (λ n. FaultsOn limits least h rows ended n more x) place f)));
    only = λ ended more x f. subst (λ n. FaultsOn limits least h rows ended n more x) (sym place)
        (blank_from limits least ended (suc (length front)) line more x few short h rows b
        (g.only ended (done line ∷ more) x (subst (λ ls. FaultFrom limits least ended 1 ls x) (joined more) f)));
    reads = λ more header later r. subst (λ ls. AreTraceLines least ls header (rows ++ later)) (sym (joined more))
        (g.reads (done line ∷ more) header later (reads_blank least h line more header later b r));
    blank = λ e. let w = g.blank e in (All-push IsBlankLine front (done line) w.0 b, w.1);
  }

  -- after the header
  pub goes_heading : GoesOn limits least front None [] → is_blank_line (done line) ≡ false → (h : Heading) → IsHeading (fields (done line)) h
      → ((k : TraceKind) → ¬ HeaderFault (fields (done line)) k) → GoesOn limits least longer (Some h) []
  goes_heading g b h is sound = record {
    faults = λ ended more x f. subst (λ ls. FaultFrom limits least ended 1 ls x) (sym (joined more)) (g.faults ended (done line ∷ more) x
        (heading_to limits least ended (suc (length front)) line more x few short b h is sound
        (subst (λ n. FaultsOn limits least (Some h) [] ended n more x) place f)));
    only = λ ended more x f. subst (λ n. FaultsOn limits least (Some h) [] ended n more x) (sym place)
        (heading_from limits least ended (suc (length front)) line more x few short b h is sound
        (g.only ended (done line ∷ more) x (subst (λ ls. FaultFrom limits least ended 1 ls x) (joined more) f)));
    reads = λ more header later r. subst (λ ls. AreTraceLines least ls header later) (sym (joined more))
        (g.reads (done line ∷ more) header later (subst (λ t. AreTraceLines least (done line ∷ more) t later) (sym r.0) (heading h refl b is r.1)));
    blank = λ e. absurd (let f = e in cc);
  }

  -- and after a row
  pub goes_row : (h : Heading) (rows : List Row) → GoesOn limits least front (Some h) rows → is_blank_line (done line) ≡ false
      → (r : Row) → IsRow (scale_of least h) h (fields (done line)) r
      → ((k : TraceKind) → ¬ RowFault limits (scale_of least h) h (length rows) (last_seen rows) (fields (done line)) k)
      → GoesOn limits least longer (Some h) (rows ++ r ∷ [])
  goes_row h rows g b r is sound = record {
    faults = λ ended more x f. subst (λ ls. FaultFrom limits least ended 1 ls x) (sym (joined more)) (g.faults ended (done line ∷ more) x
        (row_to limits least ended (suc (length front)) line more x few short b h rows r is sound (later_to ended more x f)));
    only = λ ended more x f. later_from ended more x
        (row_from limits least ended (suc (length front)) line more x few short b h rows r is sound
        (g.only ended (done line ∷ more) x (subst (λ ls. FaultFrom limits least ended 1 ls x) (joined more) f)));
    reads = λ more header later t. subst (λ ls. AreTraceLines least ls header ((rows ++ r ∷ []) ++ later)) (sym (joined more))
        (subst (λ rs. AreTraceLines least (front ++ (done line ∷ more)) header rs) (sym (append_assoc rows (r ∷ []) later))
        (g.reads (done line ∷ more) header (r ∷ later) (t.0, row refl b is t.1)));
    blank = λ e. absurd (let f = e in cc);
  }
    where
      count : length (rows ++ r ∷ []) ≡ suc (length rows)
      count = length_push rows r ∙ add-one (length rows)

      seen : (rs : List Row) → last_seen (rs ++ r ∷ []) ≡ Some r.time
      seen [] = refl
      seen (s ∷ rs) = ap Some (last_time-push s.time rs r)

      later_to : (ended : Bool) (more : List Line) (x : TraceRefusal) → FaultsOn limits least (Some h) (rows ++ r ∷ []) ended (suc (length longer)) more x
          → FaultAfter limits (scale_of least h) h ended (suc (suc (length front))) (suc (length rows)) (Some r.time) more x
      later_to ended more x f =
          subst (λ n. FaultAfter limits (scale_of least h) h ended n (suc (length rows)) (Some r.time) more x) place
          (subst (λ c. FaultAfter limits (scale_of least h) h ended (suc (length longer)) c (Some r.time) more x) count
          (subst (λ t. FaultAfter limits (scale_of least h) h ended (suc (length longer)) (length (rows ++ r ∷ [])) t more x) (seen rows) f))

      later_from : (ended : Bool) (more : List Line) (x : TraceRefusal)
          → FaultAfter limits (scale_of least h) h ended (suc (suc (length front))) (suc (length rows)) (Some r.time) more x
          → FaultsOn limits least (Some h) (rows ++ r ∷ []) ended (suc (length longer)) more x
      later_from ended more x f =
          subst (λ t. FaultAfter limits (scale_of least h) h ended (suc (length longer)) (length (rows ++ r ∷ [])) t more x) (sym (seen rows))
          (subst (λ c. FaultAfter limits (scale_of least h) h ended (suc (length longer)) c (Some r.time) more x) (sym count)
          (subst (λ n. FaultAfter limits (scale_of least h) h ended n (suc (length rows)) (Some r.time) more x) (sym place) f))

-- no line yet
pub goes_start : (limits : Limits) (least : Scale) → GoesOn limits least [] None []
goes_start limits least = record {
  faults = λ ended more x f. f;
  only = λ ended more x f. f;
  reads = λ more header later r. r;
  blank = λ e. (All-nil IsBlankLine, refl);
}

-- a line that is not whole has no fault within the limits
pub rest_sound : (limits : Limits) (least : Scale) (h : Option Heading) (rows : List Row) (n : ℕ) (line : List ℕ)
    → (0 < length line → n ≤ limits.lines) → length line ≤ 4096 → (x : TraceRefusal)
    → ¬ FaultsOn limits least h rows false n (rest false line) x
rest_sound limits least None rows n [] few short x f = absurd (false≢true f.1.0)
rest_sound limits least (Some h) rows n [] few short x f = absurd (false≢true f.1.0.0)
rest_sound limits least None rows n (c ∷ cs) few short x (inl f) =
    no_line_fault limits n (record { bytes = c ∷ cs; whole = false }) (few (omega arith)) short x f
rest_sound limits least None rows n (c ∷ cs) few short x (inr (_, (w, f))) = absurd (false≢true w)
rest_sound limits least (Some h) rows n (c ∷ cs) few short x (inl f) =
    no_line_fault limits n (record { bytes = c ∷ cs; whole = false }) (few (omega arith)) short x f
rest_sound limits least (Some h) rows n (c ∷ cs) few short x (inr (_, (w, f))) = absurd (false≢true w)

rest_rows : (s : Scale) (h : Heading) (line : List ℕ) → AreRowLines s h (rest false line) []
rest_rows s h [] = none
rest_rows s h (c ∷ cs) = unfinished refl

rest_blank : (line : List ℕ) → All IsBlankSoFar (rest false line)
rest_blank [] = All-nil IsBlankSoFar
rest_blank (c ∷ cs) = All-cons IsBlankSoFar (record { bytes = c ∷ cs; whole = false }) [] (λ w. absurd (false≢true w)) (All-nil IsBlankSoFar)

-- what was read of these lines and one that is not whole
pub reads_so_far : (limits : Limits) (least : Scale) (front : List Line) (h : Option Heading) (rows : List Row)
    → GoesOn limits least front h rows → (bytes line : List ℕ)
    → lines false bytes ≡ front ++ rest false line → HasRead h least bytes rows
reads_so_far limits least front None rows g bytes line e =
    let w = g.blank refl in (
      subst (All IsBlankSoFar) (sym e)
          (All-append IsBlankSoFar front (rest false line) (All-weaker IsBlankLine IsBlankSoFar (λ l b d. b) front w.0) (rest_blank line)),
      w.1,
    )
reads_so_far limits least front (Some h) rows g bytes line e =
    subst (λ ls. AreTraceLines least ls (header_of least h) rows) (sym e)
    (subst (λ rs. AreTraceLines least (front ++ rest false line) (header_of least h) rs) (append-nil rows)
    (g.reads (rest false line) (header_of least h) [] (refl, rest_rows (scale_of least h) h line)))
