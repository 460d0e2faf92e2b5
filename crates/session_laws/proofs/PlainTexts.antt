-- Each line of what a session writes is one line, and begins with no `?`.
use Rattle.std.proofs.Common.{◌≡◌, ◌⊎◌, inl, inr, refl, sym, ap, subst, ◌∙◌, ℕ, ℤ, pos, negsuc, zero, suc, ◌+◌, ◌/◌}
use Rattle.std.proofs.Common.{◌%◌, Bool, true, false, List, [], ◌∷◌, ◌++◌, append_assoc, arith, Option, Some, None}
use Rattle.std.specs.Prelude.{◌==◌, ◌&&◌, not, codes, decimal, int_lt, MatchBool, ◌≢◌, if◌then◌else◌, nat_lt}
use Rattle.std.specs.Fmt.{digits, digits_onto, digit_glyph, signed_decimal}
use Rattle.std.proofs.lemmas.Bool.{false≢true, ne_eqb, cases_eq}
use Rattle.std.proofs.lemmas.List.{append-nil}
use Rattle.std.proofs.lemmas.List.Elements.{All-nil, All-cons}
use Rattle.rational.specs.Time.{Rational}
use Rattle.stl_syntax.specs.Formula.{Formula, Subformula, root}
use Rattle.stl_syntax.specs.Scaling.{scaled}
use Rattle.stl_syntax.specs.Stream.{IsStretchText, IsNewText, IsRowsText, IsStreamText, answered_by, after}
use Rattle.stl_syntax.specs.Texts.{newline, bool_text, fraction_text, IsSpanText, IsNumberText, AreVerdictLines}
use Rattle.stl_syntax.specs.Trace.{Header, Row, Trace, first_time, last_time}
use Rattle.stl_syntax.specs.declared.items.Verdict.{Verdict}
use Rattle.stl_syntax.specs.declared.scale.Scale.{Scale}
use Rattle.stl_syntax.specs.declared.scale.UnitFault.{UnitFault}
use Rattle.stl_syntax.specs.declared.scale.UnitFault.TheVariants as unit
use Rattle.frac128.specs.declared.span.Span.{Span}
use Rattle.trace_reader.specs.Feeds.{HasNoFeed}
use Rattle.trace_reader.specs.TraceText.{Line, lines}
use Rattle.trace_reader.specs.InputFaults.{Fault, stream_limits, IsInputFault}
use Rattle.trace_reader.specs.declared.refusal.TraceKind.{TraceKind}
use Rattle.trace_reader.specs.declared.refusal.TraceKind.TheVariants as trace
use Rattle.trace_reader.proofs.LineLemmas.{put, lines-nil, lines-feed, lines-other}
use Rattle.answer_lines.specs.FaultTexts.{in_line, fault_text, kind_text, unit_fault_text}
use Rattle.session_mux.specs.Sessions.{IsRowsStream, Alone}
use Rattle.session_mux.proofs.TextLemmas.{EndsInFeed, one_line, lines_joined, rows_stream_ends, new_ends, rows_end}
use Rattle.session_laws.specs.Hearing.{is_plain, begins_with, HasPlainNames}

-- ---- bytes without LF

-- two plain texts together are plain
pub plain_both : (xs ys : List ℕ) → is_plain xs ≡ true → is_plain ys ≡ true → is_plain (xs ++ ys) ≡ true
plain_both [] ys h k = k
plain_both (x ∷ xs) ys h k = by_first (not (x == 10)) h (plain_both xs ys)
  where
    by_first : (b : Bool) → (b && is_plain xs) ≡ true → (is_plain xs ≡ true → is_plain ys ≡ true → is_plain (xs ++ ys) ≡ true)
        → (b && is_plain (xs ++ ys)) ≡ true
    by_first true h rest = rest h k
    by_first false h rest = absurd (false≢true h)

-- a plain text has no LF
pub plain_free : (xs : List ℕ) → is_plain xs ≡ true → HasNoFeed xs
plain_free [] h = All-nil (λ c. c ≢ 10)
plain_free (x ∷ xs) h = by_first (x == 10) refl h (plain_free xs)
  where
    by_first : (b : Bool) → (x == 10) ≡ b → (not b && is_plain xs) ≡ true → (is_plain xs ≡ true → HasNoFeed xs) → HasNoFeed (x ∷ xs)
    by_first true e h rest = absurd (false≢true h)
    by_first false e h rest = All-cons (λ c. c ≢ 10) x xs (λ k. absurd (false≢true (sym e ∙ eq_test x k))) (rest h)
      where
        eq_test : (y : ℕ) → y ≡ 10 → (y == 10) ≡ true
        eq_test y k = ap (λ z. z == 10) k

plain_digits : (k n : ℕ) (acc : List ℕ) → is_plain acc ≡ true → is_plain (digits_onto k 10 false n acc) ≡ true
plain_digits zero n acc h = h
plain_digits (suc k) n acc h = by_rest (n / 10 == 0) (plain_digits k (n / 10) (digit_glyph false (n % 10) ∷ acc) (glyph (n % 10) acc h))
  where
    glyph : (d : ℕ) (rest : List ℕ) → is_plain rest ≡ true → is_plain (digit_glyph false d ∷ rest) ≡ true
    glyph d rest p = by_size (nat_lt d 10)
      where
        by_size : (b : Bool) → (not ((if b then 48 + d else 87 + d) == 10) && is_plain rest) ≡ true
        by_size true = ap (λ b. not b && is_plain rest) (ne_eqb (48 + d) 10 (λ e. absurd (omega (arith, e)))) ∙ p
        by_size false = ap (λ b. not b && is_plain rest) (ne_eqb (87 + d) 10 (λ e. absurd (omega (arith, e)))) ∙ p

    by_rest : (b : Bool) → is_plain (digits_onto k 10 false (n / 10) (digit_glyph false (n % 10) ∷ acc)) ≡ true
        → is_plain (if b then digit_glyph false (n % 10) ∷ acc else digits_onto k 10 false (n / 10) (digit_glyph false (n % 10) ∷ acc)) ≡ true
    by_rest true p = glyph (n % 10) acc h
    by_rest false p = p

-- a number's digits are plain
pub plain_decimal : (n : ℕ) → is_plain (decimal n) ≡ true
unfolding digits
plain_decimal n = plain_digits 64 n [] refl

plain_signed : (z : ℤ) → is_plain (signed_decimal z) ≡ true
plain_signed (pos n) = plain_decimal n
plain_signed (negsuc n) = plain_decimal (suc n)

plain_fraction : (num : ℤ) (den : ℕ) → is_plain (fraction_text num den) ≡ true
plain_fraction num den = by_test (den == 1)
  where
    by_test : (b : Bool) → is_plain (if b then signed_decimal num else signed_decimal num ++ codes "/" ++ decimal den) ≡ true
    by_test true = plain_signed num
    by_test false = plain_both (signed_decimal num ++ codes "/") (decimal den)
        (plain_both (signed_decimal num) (codes "/") (plain_signed num) refl) (plain_decimal den)

-- ---- lines

-- each is without LF, and begins with no `?`
abbrev pub AreFree : List Line → Type 0
AreFree [] = Unit {0}
AreFree (line ∷ more) = HasNoFeed line.bytes × AreFree more

abbrev pub IsSaid : List ℕ → Type 0
IsSaid w = begins_with (codes "?") w ≡ false

abbrev pub AreSaid : List Line → Type 0
AreSaid [] = Unit {0}
AreSaid (line ∷ more) = IsSaid line.bytes × AreSaid more

-- the lines of bytes are such
pub lines_free : (ended : Bool) (xs : List ℕ) → AreFree (lines ended xs)
lines_free ended [] = subst (λ ls. AreFree ls) (sym (lines-nil ended)) tt
lines_free ended (x ∷ xs) = by_test (lines_free ended xs) (cases_eq x 10)
  where
    put_free : (ls : List Line) → x ≢ 10 → AreFree ls → AreFree (put ended x ls)
    put_free [] ne h = (All-cons (λ c. c ≢ 10) x [] ne (All-nil (λ c. c ≢ 10)), tt)
    put_free (l ∷ ls) ne h = (All-cons (λ c. c ≢ 10) x l.bytes ne h.0, h.1)

    by_test : AreFree (lines ended xs) → (x ≡ 10) ⊎ (x ≢ 10) → AreFree (lines ended (x ∷ xs))
    by_test h (inl e) = subst (λ y. AreFree (lines ended (y ∷ xs))) (sym e) (subst (λ ls. AreFree ls) (sym (lines-feed ended xs)) (All-nil (λ c. c ≢ 10), h))
    by_test h (inr ne) = subst (λ ls. AreFree ls) (sym (lines-other ended x xs ne)) (put_free (lines ended xs) ne h)

said_one : (w : List ℕ) → is_plain w ≡ true → IsSaid w → AreSaid (lines true (w ++ newline))
said_one w p s = subst (λ ls. AreSaid ls) (sym (one_line w (plain_free w p))) (s, tt)

said_append : (xs ys : List Line) → AreSaid xs → AreSaid ys → AreSaid (xs ++ ys)
said_append [] ys h k = k
said_append (x ∷ xs) ys h k = (h.0, said_append xs ys h.1 k)

-- the lines behind some that a session may write are such too
pub said_back : (xs ys : List Line) → AreSaid (xs ++ ys) → AreSaid ys
said_back [] ys h = h
said_back (x ∷ xs) ys h = said_back xs ys h.1

said_none : AreSaid (lines true [])
said_none = subst (λ ls. AreSaid ls) (sym (lines-nil true)) tt

said_both : (a b text : List ℕ) → EndsInFeed a → AreSaid (lines true a) → AreSaid (lines true b) → text ≡ a ++ b → AreSaid (lines true text)
said_both a b text ends h k e =
    subst (λ ls. AreSaid ls) (sym (ap (λ t. lines true t) e ∙ lines_joined a b ends)) (said_append (lines true a) (lines true b) h k)

-- ---- texts

-- a span's text, whose first byte opens it
opened : (b : Bool) (rest : List ℕ) → IsSaid ((if b then codes "[" else codes "(") ++ rest)
opened true rest = refl
opened false rest = refl

said_span : (scale : Scale) (on : Span) (text rest : List ℕ) → IsSpanText scale on text → (is_plain text ≡ true) × IsSaid (text ++ rest)
said_span scale on text rest s = (
  subst (λ w. is_plain w ≡ true) (sym s.is)
      (plain_both ((if on.from_in then codes "[" else codes "(") ++ s.from ++ codes "," ++ s.to) (if on.to_in then codes "]" else codes ")")
      (plain_both ((if on.from_in then codes "[" else codes "(") ++ s.from ++ codes ",") s.to
      (plain_both ((if on.from_in then codes "[" else codes "(") ++ s.from) (codes ",")
      (plain_both (if on.from_in then codes "[" else codes "(") s.from (bracket on.from_in) (number s.from_is)) refl) (number s.to_is))
      (closing on.to_in)),
  subst (λ w. IsSaid (w ++ rest)) (sym s.is)
      (subst (λ w. IsSaid w) (sym regroup) (opened on.from_in (s.from ++ (codes "," ++ (s.to ++ ((if on.to_in then codes "]" else codes ")") ++ rest)))))),
)
  where
    bracket : (b : Bool) → is_plain (if b then codes "[" else codes "(") ≡ true
    bracket true = refl
    bracket false = refl

    closing : (b : Bool) → is_plain (if b then codes "]" else codes ")") ≡ true
    closing true = refl
    closing false = refl

    number : {digits : ℕ} {t : Rational} {w : List ℕ} → IsNumberText digits t w → is_plain w ≡ true
    number n = subst (λ w. is_plain w ≡ true) (sym n.is) (plain_fraction n.num n.den)

    regroup : ((if on.from_in then codes "[" else codes "(") ++ s.from ++ codes "," ++ s.to ++ (if on.to_in then codes "]" else codes ")")) ++ rest
        ≡ (if on.from_in then codes "[" else codes "(") ++ (s.from ++ (codes "," ++ (s.to ++ ((if on.to_in then codes "]" else codes ")") ++ rest))))
    regroup = simp append_assoc

said_truth : (b : Bool) → is_plain (bool_text b) ≡ true
said_truth true = refl
said_truth false = refl

said_verdicts : (scale : Scale) (given : List Verdict) (text : List ℕ) → AreVerdictLines scale given text → AreSaid (lines true text)
said_verdicts scale [] text e = subst (λ t. AreSaid (lines true t)) (sym e) said_none
said_verdicts scale (v ∷ given) text (here, later, (on, is, e), more, k) =
    let s = said_span scale v.on on (codes " " ++ bool_text v.holds) is in
    let plain : is_plain (on ++ codes " " ++ bool_text v.holds) ≡ true =
    plain_both (on ++ codes " ") (bool_text v.holds) (plain_both on (codes " ") s.0 refl) (said_truth v.holds) in
    said_both here later text (inr (on ++ codes " " ++ bool_text v.holds, e))
    (subst (λ t. AreSaid (lines true t)) (sym e)
    (said_one (on ++ codes " " ++ bool_text v.holds) plain (subst (λ w. IsSaid w) (sym (append_assoc on (codes " ") (bool_text v.holds))) s.1)))
    (said_verdicts scale given later more) k

said_new : (p : Subformula) (tr : Trace) (old new : Option ℤ) (text : List ℕ) → IsNewText p tr old new text → AreSaid (lines true text)
said_new p tr old None text h = subst (λ t. AreSaid (lines true t)) (sym h) said_none
said_new p tr None (Some new) text (given, is, all) = said_verdicts tr.header.scale given text all
said_new p tr (Some old) (Some new) text h = by_order (int_lt old new) h
  where
    by_order : (b : Bool) → MatchBool b (IsStretchText p tr (after (first_time tr.rows) (Some old) new) text) (text ≡ []) → AreSaid (lines true text)
    by_order true (given, is, all) = said_verdicts tr.header.scale given text all
    by_order false k = subst (λ t. AreSaid (lines true t)) (sym k) said_none

said_rows : (p : Subformula) (header : Header) (rows : List Row) (old : Option ℤ) (more : List Row) (text : List ℕ)
    → IsRowsText (IsNewText p) p header rows old more text → AreSaid (lines true text)
said_rows p header rows old [] text e = subst (λ t. AreSaid (lines true t)) (sym e) said_none
said_rows p header rows old (r ∷ more) text (here, later, is, on, e) =
    let tr : Trace = record { header = header; rows = rows ++ r ∷ [] } in
    let now = answered_by (first_time (rows ++ r ∷ [])) p r.time in
    said_both here later text (new_ends p tr old now here is) (said_new p tr old now here is) (said_rows p header (rows ++ r ∷ []) now more later on) e

said_stream : (p : Subformula) (header : Header) (rows : List Row) (ended : Bool) (text : List ℕ)
    → IsStreamText p header rows ended text → AreSaid (lines true text)
said_stream p header rows false text h = said_rows p header [] None rows text h
said_stream p header rows true text (are, (during, rest, line, on, left, (holds, truth, is), e)) =
    let tr : Trace = record { header = header; rows = rows } in
    let old = answered_by (first_time rows) p (last_time 0 rows) in
    let new : Option ℤ = Some (pos (last_time 0 rows)) in
    let during_ends = rows_end p header [] None rows during on in
    let rest_ends = new_ends p tr old new rest left in
    said_both (during ++ rest) line text (joined during rest during_ends rest_ends)
    (said_both during rest (during ++ rest) during_ends (said_rows p header [] None rows during on) (said_new p tr old new rest left) refl)
    (subst (λ t. AreSaid (lines true t)) (sym is)
    (said_one (codes "start " ++ bool_text holds) (plain_both (codes "start ") (bool_text holds) refl (said_truth holds)) refl)) e
  where
    joined : (a b : List ℕ) → EndsInFeed a → EndsInFeed b → EndsInFeed (a ++ b)
    joined a b p (inl e) = subst (λ t. EndsInFeed t) (sym (ap (λ t. a ++ t) e ∙ append-nil a)) p
    joined a b p (inr (x, e)) = inr (a ++ x, ap (λ t. a ++ t) e ∙ sym (append_assoc a x newline))

said_rows_stream : (f : Formula) (header : Option Header) (rows : List Row) (whole : Bool) (text : List ℕ)
    → IsRowsStream f header rows whole text → AreSaid (lines true text)
said_rows_stream f None rows whole text e = subst (λ t. AreSaid (lines true t)) (sym e) said_none
said_rows_stream f (Some header) rows whole text h = said_stream (root (scaled f header.scale).nodes) header rows whole text h

-- a message about a line
said_message : (n : ℕ) (message : List ℕ) → is_plain message ≡ true → AreSaid (lines true (in_line n message))
said_message n message p =
    said_one (codes "line " ++ decimal n ++ codes ": " ++ message)
    (plain_both (codes "line " ++ decimal n ++ codes ": ") message
    (plain_both (codes "line " ++ decimal n) (codes ": ") (plain_both (codes "line ") (decimal n) refl (plain_decimal n)) refl) p) refl

plain_field : (i : ℕ) (message : List ℕ) → is_plain message ≡ true → is_plain (codes "field " ++ decimal i ++ codes ": " ++ message) ≡ true
plain_field i message p =
    plain_both (codes "field " ++ decimal i ++ codes ": ") message
    (plain_both (codes "field " ++ decimal i) (codes ": ") (plain_both (codes "field ") (decimal i) refl (plain_decimal i)) refl) p

said_kind : (n : ℕ) (kind : TraceKind) → AreSaid (lines true (kind_text n kind))
said_kind n trace.Empty = said_message n (codes "no header") refl
said_kind n (trace.BadName i) = said_message n _ (plain_field i (codes "bad name") refl)
said_kind n (trace.SameName i) = said_message n _ (plain_field i (codes "same name") refl)
said_kind n (trace.TooManyColumns k) = said_message n (decimal k ++ codes " columns") (plain_both (decimal k) (codes " columns") (plain_decimal k) refl)
said_kind n (trace.BadMode i) = said_message n _ (plain_field i (codes "bad mode") refl)
said_kind n trace.LineTooLong = said_message n (codes "line too long") refl
said_kind n (trace.BadNumber i) = said_message n _ (plain_field i (codes "bad number") refl)
said_kind n (trace.WrongCount k) = said_message n (decimal k ++ codes " fields") (plain_both (decimal k) (codes " fields") (plain_decimal k) refl)
said_kind n trace.TimeNotRising = said_message n (codes "time not rising") refl
said_kind n (trace.OutOfRange i) = said_message n _ (plain_field i (codes "out of range") refl)
said_kind n trace.NoRows = said_message n (codes "no rows") refl
said_kind n trace.TooManyRows = said_message n (codes "too many rows") refl
said_kind n trace.TooManyLines = said_message n (codes "too many lines") refl

said_unit : (n : ℕ) (fault : UnitFault) → AreSaid (lines true (unit_fault_text n fault))
said_unit n (unit.Constant i) =
    said_message n (codes "node " ++ decimal i ++ codes ": constant out of range")
    (plain_both (codes "node " ++ decimal i) (codes ": constant out of range") (plain_both (codes "node ") (decimal i) refl (plain_decimal i)) refl)
said_unit n (unit.Reach sum) =
    said_message n (codes "bounds sum to " ++ decimal sum) (plain_both (codes "bounds sum to ") (decimal sum) refl (plain_decimal sum))
said_unit n unit.Memory = said_one (codes "out of memory") refl refl

said_unknown : (n : ℕ) (name : List ℕ) → is_plain name ≡ true → AreSaid (lines true (in_line n (codes "unknown column " ++ name)))
said_unknown n name p = said_message n (codes "unknown column " ++ name) (plain_both (codes "unknown column ") name refl p)

said_fault : (f : Formula) (bytes : List ℕ) (ended : Bool) (x : Fault) → HasPlainNames f
    → IsInputFault stream_limits f bytes ended x → AreSaid (lines true (fault_text x))
said_fault f bytes ended x names (inl (n, h, at, inl (atom, term, name, is, e), clean)) =
    subst (λ (y : Fault). AreSaid (lines true (fault_text y))) (sym e)
    (said_unknown n name (subst (λ w. is_plain w ≡ true) is.named (names atom term is.owner is.lacking is.at_atom is.at_term)))
said_fault f bytes ended x names (inl (n, h, at, inr (fits, (fault, is, e)), clean)) =
    subst (λ (y : Fault). AreSaid (lines true (fault_text y))) (sym e) (said_unit n fault)
said_fault f bytes ended x names (inr (none, (r, first, e))) = subst (λ (y : Fault). AreSaid (lines true (fault_text y))) (sym e) (said_kind r.line r.kind)

-- all that a session writes alone
pub said_alone : (f : Formula) (bytes : List ℕ) (ended : Bool) (text : List ℕ) → HasPlainNames f → Alone f bytes ended text → AreSaid (lines true text)
said_alone f bytes ended text names (header, rows, whole, stream, line, before, said, inl (none, k), e) =
    said_both stream line text (rows_stream_ends f header rows whole stream said)
    (said_rows_stream f header rows whole stream said) (subst (λ t. AreSaid (lines true t)) (sym k) said_none) e
said_alone f bytes ended text names (header, rows, whole, stream, line, before, said, inr (x, is, k), e) =
    said_both stream line text (rows_stream_ends f header rows whole stream said) (said_rows_stream f header rows whole stream said)
    (subst (λ t. AreSaid (lines true t)) (sym k) (said_fault f bytes ended x names is)) e
