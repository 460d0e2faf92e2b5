-- What is owed to a stream is one text, and only grows.
use Rattle.std.proofs.Common.{◌≡◌, ℕ, Bool, true, false, List, [], ◌∷◌, ◌++◌, sym, ap, ◌∙◌, subst, Option, Some, None}
use Rattle.stl_syntax.specs.Formula.{Formula, Subformula}
use Rattle.stl_syntax.specs.Trace.{Header, Row}
use Rattle.stl_syntax.specs.EarlyText.{IsEarlyText, at_row, at_end, not_yet}
use Rattle.trace_reader.specs.InputFaults.{AreRowsBefore}
use Rattle.answer_lines.proofs.StreamTexts.{IsLonger, stream_once, stream_grows, early_once, early_grows}
use Rattle.trace_stream.specs.Streams.{Stream, verdicts, early, margins, limits_of, StreamText, StreamOf, OwesRows}
use Rattle.trace_stream.proofs.MarginTexts.{margin_stream_once, margin_stream_grows}
use Rattle.trace_stream.proofs.RowsBefore.{GoesOnFrom, from_none, from_some, rows_go_on, rows_once}

text_once : (s : Stream) (p : Subformula) (header : Header) (rows : List Row) (ended : Bool) (x y : List ℕ)
    → StreamText s p header rows ended x → StreamText s p header rows ended y → x ≡ y
text_once verdicts p header rows ended x y a b = stream_once p header rows ended x y a b
text_once early p header rows ended x y a b = early_once p header rows ended x y a b
text_once margins p header rows ended x y a b = margin_stream_once p header rows ended x y a b

text_grows : (s : Stream) (p : Subformula) (header : Header) (rows beyond : List Row) (ended : Bool) (x y : List ℕ)
    → StreamText s p header rows false x → StreamText s p header (rows ++ beyond) ended y → IsLonger x y
text_grows verdicts p header rows beyond ended x y a b = stream_grows p header rows beyond ended x y a b
text_grows early p header rows beyond ended x y a b = early_grows p header rows beyond ended x y a b
text_grows margins p header rows beyond ended x y a b = margin_stream_grows p header rows beyond ended x y a b

-- without a row there is no text before the end
none_early : (p : Subformula) (header : Header) (rows : List Row) (x : List ℕ) → rows ≡ [] → IsEarlyText p header rows false x → x ≡ []
none_early p header rows x e (at_row before after r holds time k first is text) = absurd (no_row before (sym k ∙ e))
  where
    no_row : (before : List Row) → before ++ r ∷ after ≡ [] → ⊥
    no_row [] e = cc
    no_row (q ∷ before) e = cc
none_early p header rows x e (at_end line ended k none is text) = let b : false ≡ true = ended in absurd cc
none_early p header rows x e (not_yet ended none text) = text

none_yet : (s : Stream) (p : Subformula) (header : Header) (rows : List Row) (x : List ℕ) → rows ≡ [] → StreamText s p header rows false x → x ≡ []
none_yet verdicts p header rows x e a = subst (λ l. StreamText verdicts p header l false x → x ≡ []) (sym e) (λ k. k) a
none_yet early p header rows x e a = none_early p header rows x e a
none_yet margins p header rows x e a = subst (λ l. StreamText margins p header l false x → x ≡ []) (sym e) (λ k. k) a

of_once : (s : Stream) (f : Formula) (header : Option Header) (rows : List Row) (ended : Bool) (x y : List ℕ)
    → StreamOf s f header rows ended x → StreamOf s f header rows ended y → x ≡ y
of_once s f None rows ended x y a b = a ∙ sym b
of_once s f (Some header) rows ended x y a b = text_once s _ header rows ended x y a b

-- no text is told of no rows before the end
pub no_rows_no_text : (s : Stream) (f : Formula) (header : Option Header) (rows : List Row) (x : List ℕ) → rows ≡ [] → StreamOf s f header rows false x → x ≡ []
no_rows_no_text s f None rows x e a = a
no_rows_no_text s f (Some header) rows x e a = none_yet s _ header rows x e a

longer_nil : (x y : List ℕ) → x ≡ [] → IsLonger x y
longer_nil x y e = (y, ap (λ t. t ++ y) (sym e))

of_grows : (s : Stream) (f : Formula) (header other : Option Header) (rows more : List Row) (whole : Bool) (x y : List ℕ) → GoesOnFrom header rows other more
    → StreamOf s f header rows false x → StreamOf s f other more whole y → IsLonger x y
of_grows s f None other rows more whole x y g a b = longer_nil x y a
of_grows s f (Some header) other rows more whole x y (from_none none) a b = longer_nil x y (none_yet s _ header rows x none a)
of_grows s f (Some header) other rows more whole x y (from_some same (beyond, e)) a b =
    text_grows s _ header rows beyond whole x y a (subst (λ l. StreamOf s f (Some header) l whole y) e (subst (λ h. StreamOf s f h more whole y) same b))

-- a stream is owed one text
pub stream_owed_once : (s : Stream) (f : Formula) (bytes : List ℕ) (ended : Bool) (x y : List ℕ) → OwesRows s f bytes ended x
    → OwesRows s f bytes ended y → x ≡ y
stream_owed_once s f bytes ended x y a b =
    let e = rows_once (limits_of s) f bytes ended a.before b.before in
    of_once s f b.header b.rows b.whole x y
    (subst (λ (w : Bool). StreamOf s f b.header b.rows w x) e.same_end
    (subst (λ l. StreamOf s f b.header l a.whole x) e.same_rows (subst (λ h. StreamOf s f h a.rows a.whole x) e.same_header a.is))) b.is

never_whole : (s : Stream) (f : Formula) (bytes : List ℕ) {header : Option Header} {rows : List Row}
    → ¬ AreRowsBefore (limits_of s) f bytes false header rows true
never_whole s f bytes k = elim k [ ]

-- which is the front of what it is owed for more bytes
pub stream_owed_grows : (s : Stream) (f : Formula) (bytes more : List ℕ) (ended : Bool) (x y : List ℕ)
    → OwesRows s f bytes false x → OwesRows s f (bytes ++ more) ended y → IsLonger x y
stream_owed_grows s f bytes more ended x y a b = by_whole a.whole a.before a.is
  where
    by_whole : (w : Bool) → AreRowsBefore (limits_of s) f bytes false a.header a.rows w → StreamOf s f a.header a.rows w x → IsLonger x y
    by_whole false before is = of_grows s f a.header b.header a.rows b.rows b.whole x y (rows_go_on (limits_of s) f bytes more ended before b.before) is b.is
    by_whole true before is = absurd (never_whole s f bytes before)
