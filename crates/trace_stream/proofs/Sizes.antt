-- Bytes without a fault are few: their lines are short, and not many.
use Rattle.std.proofs.Common.{◌≡◌, ◌⊎◌, inl, inr, ℕ, suc, ◌+◌, ◌*◌, ◌<◌, ◌≤◌, false, List, [], ◌∷◌, length, refl, arith, Option, Some, None}
use Rattle.std.specs.Prelude.{All, IsTrue}
use Rattle.std.proofs.lemmas.Bool.{cases_eq, cases_order}
use Rattle.std.proofs.lemmas.List.Elements.{All-head, All-tail}
use Rattle.stl_syntax.specs.Trace.{Row, Header}
use Rattle.stl_syntax.specs.declared.scale.Scale.{Scale}
use Rattle.trace_reader.specs.TraceText.{Line, lines, is_blank_line, Heading, scale_of, AreRowLines, none}
use Rattle.trace_reader.specs.TraceText.{unfinished, row, blank as blank_row, AreTraceLines, heading, blank}
use Rattle.trace_reader.specs.TraceRefusals.{InLine, LineFault, FaultFrom, FaultAfter}
use Rattle.trace_reader.specs.Reader.{IsBlankSoFar, HasRead}
use Rattle.trace_reader.specs.declared.refusal.Limits.{Limits}
use Rattle.trace_reader.specs.declared.refusal.TraceRefusal.{TraceRefusal}
use Rattle.trace_reader.specs.declared.refusal.TraceKind.TheVariants.{TooManyLines, LineTooLong}
use Rattle.trace_reader.proofs.LineLemmas.{put, done, lines-nil, lines-feed, lines-other}
use Rattle.trace_stream.proofs.FaultPlaces.{to_true, to_false, InHeading, InRow}

-- the bytes of lines, with an LF each
weigh : List Line → ℕ
weigh [] = 0
weigh (l ∷ ls) = suc (length l.bytes) + weigh ls

weigh-put : (x : ℕ) (ls : List Line) → suc (weigh ls) ≤ weigh (put false x ls)
unfolding weigh
weigh-put x [] = omega arith
weigh-put x (l ∷ ls) = omega arith

weigh-lines : (bytes : List ℕ) → length bytes ≤ weigh (lines false bytes)
unfolding weigh
weigh-lines [] = omega arith
weigh-lines (x ∷ xs) = by_test (weigh-lines xs) (cases_eq x 10)
  where
    by_test : length xs ≤ weigh (lines false xs) → (x ≡ 10) ⊎ (x ≡ 10 → ⊥) → length (x ∷ xs) ≤ weigh (lines false (x ∷ xs))
    by_test h (inl e) = rw (e, lines-feed false xs) (omega (arith, h))
    by_test h (inr e) = rw (lines-other false x xs e) (omega (arith, h, weigh-put x (lines false xs)))

-- all lines but the last are whole
AreLined : List Line → Type 0
AreLined [] = Unit {0}
AreLined (l ∷ []) = Unit {0}
AreLined (l ∷ m ∷ ls) = IsTrue l.whole × AreLined (m ∷ ls)

lined-put : (x : ℕ) (ls : List Line) → AreLined ls → AreLined (put false x ls)
unfolding AreLined
lined-put x [] h = tt
lined-put x (l ∷ []) h = tt
lined-put x (l ∷ m ∷ ls) h = h

lined-more : (l : Line) (ls : List Line) → IsTrue l.whole → AreLined ls → AreLined (l ∷ ls)
unfolding AreLined
lined-more l [] w h = tt
lined-more l (m ∷ ls) w h = (w, h)

lines-lined : (bytes : List ℕ) → AreLined (lines false bytes)
unfolding AreLined
lines-lined [] = rw (lines-nil false) tt
lines-lined (x ∷ xs) = by_test (lines-lined xs) (cases_eq x 10)
  where
    by_test : AreLined (lines false xs) → (x ≡ 10) ⊎ (x ≡ 10 → ⊥) → AreLined (lines false (x ∷ xs))
    by_test h (inl e) = rw (e, lines-feed false xs) (lined-more (done []) (lines false xs) refl h)
    by_test h (inr e) = rw (lines-other false x xs e) (lined-put x (lines false xs) h)

lined-rest : (l m : Line) (ls : List Line) → AreLined (l ∷ m ∷ ls) → IsTrue l.whole × AreLined (m ∷ ls)
unfolding AreLined
lined-rest l m ls h = h

module _ (limits : Limits) where
  -- what lines may weigh from line n on
  abbrev IsLight : ℕ → List Line → Type 0
  IsLight n ls = weigh ls + 4097 * n ≤ 4097 * suc limits.lines

  abbrev HasNoOwn : ℕ → Line → Type 0
  HasNoOwn n l = (y : TraceRefusal) → ¬ InLine n (LineFault limits n l) y

  -- a line without a fault of its own
  not_many : (n : ℕ) (l : Line) → HasNoOwn n l → n ≤ limits.lines
  not_many n l sound = by_order (cases_order limits.lines n)
    where
      by_order : (limits.lines ≡ n) ⊎ ((limits.lines < n) ⊎ (n < limits.lines)) → n ≤ limits.lines
      by_order (inl e) = omega (arith, e)
      by_order (inr (inl many)) = absurd (sound (record { line = n; kind = TooManyLines }) (refl, inl (many, refl)))
      by_order (inr (inr few)) = omega (arith, few)

  short : (n : ℕ) (l : Line) → HasNoOwn n l → length l.bytes ≤ 4096
  short n l sound = by_order (cases_order 4096 (length l.bytes)) (not_many n l sound)
    where
      by_order : (4096 ≡ length l.bytes) ⊎ ((4096 < length l.bytes) ⊎ (length l.bytes < 4096)) → n ≤ limits.lines → length l.bytes ≤ 4096
      by_order (inl e) few = omega (arith, e)
      by_order (inr (inl long)) few = absurd (sound (record { line = n; kind = LineTooLong }) (refl, inr ((λ k f. omega (arith, f.0, few)), (long, refl))))
      by_order (inr (inr less)) few = omega (arith, less)

  one_more : (n : ℕ) (l : Line) (ls : List Line) → HasNoOwn n l → IsLight (suc n) ls → IsLight n (l ∷ ls)
  unfolding weigh
  one_more n l ls sound light = omega (arith, light, short n l sound)

  one_line : (n : ℕ) (l : Line) → HasNoOwn n l → IsLight n (l ∷ [])
  unfolding weigh
  one_line n l sound = omega (arith, short n l sound, not_many n l sound)

  no_line : (n : ℕ) → n ≤ suc limits.lines → IsLight n []
  unfolding weigh
  no_line n few = omega (arith, few)

  module _ (s : Scale) (h : Heading) where
    abbrev SoundRows : ℕ → ℕ → Option ℕ → List Line → Type 0
    SoundRows n count last ls = (y : TraceRefusal) → ¬ FaultAfter limits s h false n count last ls y

    abbrev RowsLater : ℕ → ℕ → Option ℕ → List Line → TraceRefusal → Type 0
    RowsLater n count last ls = FaultAfter limits s h false (suc n) count last ls

    light_rows : (n count : ℕ) (last : Option ℕ) {ls : List Line} {rows : List Row} → AreRowLines s h ls rows
        → n ≤ suc limits.lines → SoundRows n count last ls → IsLight n ls
    light_rows n count last none few sound = no_line n few
    light_rows n count last (unfinished {line = l} w) few sound = one_line n l (λ y f. sound y (inl f))
    light_rows n count last (blank_row {line = l} {more = ls} w b rest) few sound =
        let own : HasNoOwn n l = λ y f. sound y (inl f) in
        let count_small = not_many n l own in
        one_more n l ls own (light_rows (suc n) count last rest (omega (arith, count_small))
        (λ y f. sound y (inr (own, (w, to_true (RowsLater n count last ls y) (InRow limits s h false n count last l ls y) (is_blank_line l) b f)))))
    light_rows n count last (row {line = l} {more = ls} {r = r} w b is rest) few sound =
        let own : HasNoOwn n l = λ y f. sound y (inl f) in
        let in_row = λ (y : TraceRefusal) (f : InRow limits s h false n count last l ls y).
        sound y (inr (own, (w, to_false (RowsLater n count last ls y) (InRow limits s h false n count last l ls y) (is_blank_line l) b f))) in
        let count_small = not_many n l own in
        one_more n l ls own (light_rows (suc n) (suc count) (Some r.time) rest (omega (arith, count_small))
        (λ y f. in_row y (inr ((λ z g. in_row z (inl g)), (r, is, f)))))

  module _ (least : Scale) where
    abbrev Sound : ℕ → List Line → Type 0
    Sound n ls = (y : TraceRefusal) → ¬ FaultFrom limits least false n ls y

    light_trace : (n : ℕ) {ls : List Line} {header : Header} {rows : List Row} → AreTraceLines least ls header rows
        → n ≤ suc limits.lines → Sound n ls → IsLight n ls
    light_trace n (blank {line = l} {more = ls} w b rest) few sound =
        let own : HasNoOwn n l = λ y f. sound y (inl f) in
        let count_small = not_many n l own in
        one_more n l ls own (light_trace (suc n) rest (omega (arith, count_small))
        (λ y f. sound y (inr (own, (w, to_true (FaultFrom limits least false (suc n) ls y) (InHeading limits least false n l ls y) (is_blank_line l) b f)))))
    light_trace n (heading {line = l} {more = ls} h w b is rest) few sound =
        let own : HasNoOwn n l = λ y f. sound y (inl f) in
        let in_heading = λ (y : TraceRefusal) (f : InHeading limits least false n l ls y).
        sound y (inr (own, (w, to_false (FaultFrom limits least false (suc n) ls y) (InHeading limits least false n l ls y) (is_blank_line l) b f))) in
        let count_small = not_many n l own in
        one_more n l ls own (light_rows (scale_of least h) h (suc n) 0 None rest (omega (arith, count_small))
        (λ y f. in_heading y (inr ((λ z g. in_heading z (inl g)), (h, is, f)))))

    light_blank : (n : ℕ) (ls : List Line) → All IsBlankSoFar ls → AreLined ls → n ≤ suc limits.lines → Sound n ls → IsLight n ls
    light_blank n [] all lined few sound = no_line n few
    light_blank n (l ∷ []) all lined few sound = one_line n l (λ y f. sound y (inl f))
    light_blank n (l ∷ m ∷ ls) all lined few sound =
        let own : HasNoOwn n l = λ y f. sound y (inl f) in
        let (w, rest) = lined-rest l m ls lined in
        let b = All-head IsBlankSoFar l (m ∷ ls) all w in
        let count_small = not_many n l own in
        one_more n l (m ∷ ls) own (light_blank (suc n) (m ∷ ls) (All-tail IsBlankSoFar l (m ∷ ls) all) rest (omega (arith, count_small))
        (λ y f. sound y (inr (
          own,
          (w, to_true (FaultFrom limits least false (suc n) (m ∷ ls) y) (InHeading limits least false n l (m ∷ ls) y) (is_blank_line l) b f),
        ))))

    light : (o : Option Heading) (bytes : List ℕ) (rows : List Row) → HasRead o least bytes rows → Sound 1 (lines false bytes) → IsLight 1 (lines false bytes)
    light None bytes rows read sound = light_blank 1 (lines false bytes) read.0 (lines-lined bytes) (omega arith) sound
    light (Some h) bytes rows read sound = light_trace 1 read (omega arith) sound

    -- bytes that were read without a fault
    pub few_bytes : (o : Option Heading) (bytes : List ℕ) (rows : List Row) → HasRead o least bytes rows
        → Sound 1 (lines false bytes) → length bytes ≤ 4097 * suc limits.lines
    few_bytes o bytes rows read sound = omega (arith, light o bytes rows read sound, weigh-lines bytes)
