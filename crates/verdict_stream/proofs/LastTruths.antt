-- The truth that the last line of verdicts tells: by the letter before the last of its word.
use Rattle.std.proofs.Common.{◌≡◌, inl, inr, refl, sym, ap, ◌∙◌, subst, ℕ, ◌+◌, ◌-◌, ◌≤◌, Bool, true, false, List, [], ◌∷◌, ◌++◌, length}
use Rattle.std.proofs.Common.{Option, Some, None, arith, append-nil, append_assoc, ℤ, pos, ◌-ℤ◌, ◌≤ℤ◌, codes}
use Rattle.std.specs.Prelude.{MatchBool, cond, int_lt, ◌==◌}
use Rattle.std.proofs.lemmas.Int.{ints}
use Rattle.std.proofs.lemmas.List.{append_cancel_left}
use Rattle.rational.specs.Rational.{whole}
use Rattle.rational.specs.Time.{closed, left_open, Interval, Precedes, IsIn, IsNotEmpty, EndAlike}
use Rattle.rational.proofs.Order.{le_of_same, same_sym, lt_of_lt_of_le, le_trans}
use Rattle.rational.proofs.TimeLemmas.{precedes_of_lt}
use Rattle.rational.proofs.Tests.{int_order}
use Rattle.frac128.specs.Spans.{interval}
use Rattle.stl_syntax.specs.Formula.{Subformula, horizon}
use Rattle.stl_syntax.specs.Trace.{Header, Row, Trace, first_time}
use Rattle.stl_syntax.specs.Truth.{Truth}
use Rattle.stl_syntax.specs.Texts.{AreVerdictLines, IsVerdictLine, bool_text, newline}
use Rattle.stl_syntax.specs.Verdicts.{IsTold, GoesOn}
use Rattle.stl_syntax.specs.Stream.{NewText, answered_by, IsStretchText, IsNewText, IsRowsText}
use Rattle.stl_syntax.specs.declared.items.Verdict.{Verdict}
use Rattle.stl_syntax.specs.declared.scale.Scale.{Scale}
use Rattle.answer_lines.proofs.StreamTexts.{new_once, rows_once}
use Rattle.online_nodes.specs.Truths.{Is}
use Rattle.verdict_stream.specs.Quieting.{IsLastTruth}

-- the end of an interval lies in it, where a stretch that has its end ends alike
end_in : (on stretch : Interval) → IsNotEmpty on → EndAlike on stretch → stretch.to_in ≡ true → IsIn on stretch.to
end_in on stretch some alike has = record {
  above = begins_by some;
  below = subst (λ b. Precedes b stretch.to on.to) (sym (alike.inside ∙ has)) (le_of_same (same_sym alike.time));
}
  where
    begins_by : IsNotEmpty on → Precedes on.from_in on.from stretch.to
    begins_by (inl h) = precedes_of_lt on.from_in on.from stretch.to (lt_of_lt_of_le h (le_of_same alike.time))
    begins_by (inr h) = subst (λ b. Precedes b on.from stretch.to) (sym h.1) (le_trans (le_of_same h.0) (le_of_same alike.time))

-- the last of some verdicts, and its line
record HasLastLine (p : Subformula) (tr : Trace) (stretch : Interval) (scale : Scale) (text : List ℕ) : Type 0 where
  last : Verdict
  told : IsTold p tr last
  end : EndAlike (interval last.on) stretch
  front : List ℕ
  line : List ℕ
  is_line : IsVerdictLine scale last line
  is : text ≡ front ++ line

last_line : (p : Subformula) (tr : Trace) (stretch : Interval) (scale : Scale) (v : Verdict) (vs : List Verdict) (text : List ℕ) → IsTold p tr v
    → GoesOn p tr stretch v vs → AreVerdictLines scale (v ∷ vs) text → HasLastLine p tr stretch scale text
last_line p tr stretch scale v [] text told end (here, later, line, none, is) = record {
  last = v;
  told = told;
  end = end;
  front = [];
  line = here;
  is_line = line;
  is = is ∙ ap (λ t. here ++ t) none ∙ append-nil here;
}
last_line p tr stretch scale v (w ∷ vs) text told (touch, other, next, on) (here, later, line, lines, is) =
    let l = last_line p tr stretch scale w vs later next on lines in
    record {
      last = l.last;
      told = l.told;
      end = l.end;
      front = here ++ l.front;
      line = l.line;
      is_line = l.is_line;
      is = is ∙ ap (λ t. here ++ t) l.is ∙ sym (append_assoc here l.front l.line);
    }

-- its word has that letter
by_parts : (h : Bool) (front on some : List ℕ) (x y z : ℕ) (text : List ℕ) → IsLastTruth text h → text ≡ front ++ (on ++ (some ++ x ∷ y ∷ z ∷ []))
    → h ≡ (x == 117)
by_parts h front on some x y z text last e =
    last.letter (front ++ (on ++ some)) x y z
    (e ∙ ap (λ t. front ++ t) (sym (append_assoc on some (x ∷ y ∷ z ∷ []))) ∙ sym (append_assoc front (on ++ some) (x ∷ y ∷ z ∷ [])))

by_word : (b h : Bool) (front on text : List ℕ) → IsLastTruth text h → text ≡ front ++ (on ++ codes " " ++ bool_text b ++ newline) → h ≡ b
by_word true h front on text last e =
    by_parts h front on (32 ∷ 116 ∷ 114 ∷ []) 117 101 10 text last
    (e ∙ ap (λ t. front ++ t) (append_assoc (on ++ codes " ") (bool_text true) newline ∙ append_assoc on (codes " ") (bool_text true ++ newline)))
by_word false h front on text last e =
    by_parts h front on (32 ∷ 102 ∷ 97 ∷ 108 ∷ []) 115 101 10 text last
    (e ∙ ap (λ t. front ++ t) (append_assoc (on ++ codes " ") (bool_text false) newline ∙ append_assoc on (codes " ") (bool_text false ++ newline)))

-- so the last truth is that at the end of the stretch
stretch_truth : (p : Subformula) (tr : Trace) (stretch : Interval) (text : List ℕ) (h : Bool) → IsStretchText p tr stretch text → stretch.to_in ≡ true
    → IsLastTruth text h → Is h (Truth p tr) stretch.to
stretch_truth p tr stretch text h ([], described, lines) has last = absurd described
stretch_truth p tr stretch text h (v ∷ vs, (begin, told, on), lines) has last =
    let l = last_line p tr stretch tr.header.scale v vs text told on lines in
    let (word, span, is) = l.is_line in
    let same : h ≡ l.last.holds = by_word l.last.holds h l.front word text last (l.is ∙ ap (λ t. l.front ++ t) is) in
    subst (λ b. Is b (Truth p tr) stretch.to) (sym same)
    (l.told.truth stretch.to (end_in (interval l.last.on) stretch l.told.not_empty l.end has))

-- what a row tells at the last time that it answers
pub record IsToldAt (p : Subformula) (tr : Trace) (begin time : ℕ) (h : Bool) : Type 0 where
  pub answered : begin + horizon p ≤ time
  pub truth : Is h (Truth p tr) (whole (pos (time - horizon p)))

-- it is that of its last line
pub row_truth : (p : Subformula) (tr : Trace) (old : Option ℤ) (time : ℕ) (text : List ℕ) (h : Bool)
    → IsNewText p tr old (answered_by (first_time tr.rows) p time) text → IsLastTruth text h → IsToldAt p tr (first_time tr.rows) time h
row_truth p tr old time text h new last = by_test (int_lt g (pos b)) refl
  where
    b : ℕ
    b = first_time tr.rows

    g : ℤ
    g = pos time -ℤ pos (horizon p)

    nothing : text ≡ [] → ⊥
    nothing e = let x = last.some in let y : length text ≡ 0 = ap length e in omega (arith, x, y)

    by_old : (o : Option ℤ) → IsNewText p tr o (Some g) text → Is h (Truth p tr) (whole g)
    by_old None new = stretch_truth p tr (closed (whole (pos b)) (whole g)) text h new refl last
    by_old (Some o) new = by_rise (int_lt o g) new
      where
        by_rise : (t : Bool) → MatchBool t (IsStretchText p tr (left_open (whole o) (whole g)) text) (text ≡ []) → Is h (Truth p tr) (whole g)
        by_rise true new = stretch_truth p tr (left_open (whole o) (whole g)) text h new refl last
        by_rise false none = absurd (nothing none)

    by_test : (t : Bool) → int_lt g (pos b) ≡ t → IsToldAt p tr b time h
    by_test true e =
        let x : answered_by b p time ≡ None = ap (λ t. cond t None (Some g)) e in
        absurd (nothing (subst (λ o. IsNewText p tr old o text) x new))
    by_test false e =
        let x : answered_by b p time ≡ Some g = ap (λ t. cond t None (Some g)) e in
        let from : pos b ≤ℤ g = int_order g (pos b) false e in
        let f : pos (time - horizon p) ≡ g = omega (arith, ints, from) in
        record {
          answered = omega (arith, ints, from);
          truth = subst (λ z. Is h (Truth p tr) (whole z)) (sym f) (by_old old (subst (λ o. IsNewText p tr old o text) x new));
        }

-- the texts of rows and of one more
record HasLastText (New : NewText) (p : Subformula) (header : Header) (before : List Row) (old : Option ℤ) (rows : List Row) (r : Row) (text : List ℕ)
    : Type 0 where
  first : List ℕ
  here : List ℕ
  front : Option ℤ
  told : IsRowsText New p header before old rows first
  new : New (record { header = header; rows = (before ++ rows) ++ r ∷ [] }) front (answered_by (first_time ((before ++ rows) ++ r ∷ [])) p r.time) here
  is : text ≡ first ++ here

last_text : (New : NewText) (p : Subformula) (header : Header) (before : List Row) (old : Option ℤ) (rows : List Row) (r : Row) (text : List ℕ)
    → IsRowsText New p header before old (rows ++ r ∷ []) text → HasLastText New p header before old rows r text
last_text New p header before old [] r text (here, later, new, none, is) = record {
  first = [];
  here = here;
  front = old;
  told = refl;
  new = subst (λ rs. New (record { header = header; rows = rs ++ r ∷ [] }) old (answered_by (first_time (rs ++ r ∷ [])) p r.time) here)
      (sym (append-nil before)) new;
  is = is ∙ ap (λ t. here ++ t) none ∙ append-nil here;
}
last_text New p header before old (q ∷ rows) r text (here, later, new, rest, is) =
    let l = last_text New p header (before ++ q ∷ []) (answered_by (first_time (before ++ q ∷ [])) p q.time) rows r later rest in
    record {
      first = here ++ l.first;
      here = l.here;
      front = l.front;
      told = (here, l.first, new, l.told, refl);
      new = subst (λ rs. New (record { header = header; rows = rs ++ r ∷ [] }) l.front (answered_by (first_time (rs ++ r ∷ [])) p r.time) l.here)
          (append_assoc before (q ∷ []) rows) l.new;
      is = is ∙ ap (λ t. here ++ t) l.is ∙ sym (append_assoc here l.first l.here);
    }

-- what a row tells is what the text grew by
pub grown_truth : (p : Subformula) (header : Header) (rows : List Row) (r : Row) (made grown : List ℕ) (h : Bool)
    → IsRowsText (IsNewText p) p header [] None rows made → IsRowsText (IsNewText p) p header [] None (rows ++ r ∷ []) (made ++ grown) → IsLastTruth grown h
    → IsToldAt p (record { header = header; rows = rows ++ r ∷ [] }) (first_time (rows ++ r ∷ [])) r.time h
grown_truth p header rows r made grown h told now last =
    let l = last_text (IsNewText p) p header [] None rows r (made ++ grown) now in
    let same : l.first ≡ made = rows_once (new_once p) p header [] None rows l.first made l.told told in
    let here : l.here ≡ grown = append_cancel_left made l.here grown (ap (λ t. t ++ l.here) (sym same) ∙ sym l.is) in
    row_truth p (record { header = header; rows = rows ++ r ∷ [] }) l.front r.time grown h
    (subst (λ t. IsNewText p (record { header = header; rows = rows ++ r ∷ [] }) l.front (answered_by (first_time (rows ++ r ∷ [])) p r.time) t) here l.new) last
