-- What a stream writes for rows is one text, and rows more only make it longer.
use Rattle.std.proofs.Common.{◌≡◌, inl, inr, ℕ, Bool, true, false, List, [], ◌∷◌, ◌++◌, refl, sym, ap}
use Rattle.std.proofs.Common.{◌∙◌, subst, append_assoc, append-nil, Option, Some, None, ℤ, codes}
use Rattle.std.proofs.lemmas.Bool.{false≢true}
use Rattle.std.specs.Prelude.{int_lt, MatchBool}
use Rattle.rational.specs.Time.{Rational, Interval}
use Rattle.rational.proofs.Order.{same_refl}
use Rattle.stl_syntax.specs.Texts.{IsNumberText, newline, start_line}
use Rattle.stl_syntax.specs.Trace.{Header, Row, Trace, row_time}
use Rattle.stl_syntax.specs.Formula.{Subformula, constant, atom, negation, conjunction, disjunction}
use Rattle.stl_syntax.specs.Formula.{implication, eventually, always, once, historically, until, since}
use Rattle.stl_syntax.specs.Stream.{NewText, IsStretchText, IsNewText, IsRowsText, IsRestText, IsStreamText}
use Rattle.stl_syntax.specs.EarlyText.{IsEarlyText, at_row, at_end, not_yet}
use Rattle.stl_syntax.specs.Early.{Settled, SettledNot, Decides, FirstDecides}
use Rattle.stl_syntax.proofs.VerdictsLaw.{Describes-unique}
use Rattle.answer_lines.proofs.OneText.{number_once, verdicts_once, start_once}

-- the second text is the first and a rest
abbrev pub IsLonger : List ℕ → List ℕ → Type 0
IsLonger text all = (rest : List ℕ) × (all ≡ text ++ rest)

-- the texts of what is answered are one
abbrev pub IsOneText : NewText → Type 0
IsOneText New = (tr : Trace) (old new : Option ℤ) (x y : List ℕ) → New tr old new x → New tr old new y → x ≡ y

-- the verdict lines of a stretch
pub stretch_once : (p : Subformula) (tr : Trace) (stretch : Interval) (x y : List ℕ) → IsStretchText p tr stretch x → IsStretchText p tr stretch y → x ≡ y
stretch_once p tr stretch x y (vs, a, lines) (ws, b, others) = verdicts_once tr.header.scale vs ws x y (Describes-unique p tr stretch vs ws a b) lines others

-- one of two kinds by a test
pub by_test : (A : List ℕ → Type 0) (b : Bool) (x y : List ℕ) → (A x → A y → x ≡ y) → MatchBool b (A x) (x ≡ []) → MatchBool b (A y) (y ≡ []) → x ≡ y
by_test A true x y one a b = one a b
by_test A false x y one a b = a ∙ sym b

-- the lines of verdicts that a row answers
pub new_once : (p : Subformula) → IsOneText (IsNewText p)
new_once p tr old None x y a b = a ∙ sym b
new_once p tr None (Some new) x y a b = stretch_once p tr _ x y a b
new_once p tr (Some old) (Some new) x y a b = by_test (IsStretchText p tr _) (int_lt old new) x y (stretch_once p tr _ x y) a b

module _ {New : NewText} (one : IsOneText New) (p : Subformula) (header : Header) where
  -- rows in turn have one text
  pub rows_once : (rows : List Row) (old : Option ℤ) (more : List Row) (x y : List ℕ) → IsRowsText New p header rows old more x
      → IsRowsText New p header rows old more y → x ≡ y
  rows_once rows old [] x y a b = a ∙ sym b
  rows_once rows old (r ∷ more) x y (here, later, a, rest, is) (here', later', a', rest', is') =
      is ∙ ap (λ t. t ++ later) (one _ _ _ here here' a a') ∙ ap (λ t. here' ++ t) (rows_once (rows ++ r ∷ []) _ more later later' rest rest') ∙ sym is'

  -- which begins that of more rows
  pub rows_grow : (rows : List Row) (old : Option ℤ) (more beyond : List Row) (x y : List ℕ) → IsRowsText New p header rows old more x
      → IsRowsText New p header rows old (more ++ beyond) y → IsLonger x y
  rows_grow rows old [] beyond x y a b = (y, ap (λ t. t ++ y) (sym a))
  rows_grow rows old (r ∷ more) beyond x y (here, later, a, rest, is) (here', later', a', rest', is') =
      let (tail, e) = rows_grow (rows ++ r ∷ []) _ more beyond later later' rest rest' in (
        tail,
        is' ∙ ap (λ t. t ++ later') (sym (one _ _ _ here here' a a')) ∙ ap (λ t. here ++ t) e ∙ sym (append_assoc here later tail)
            ∙ ap (λ t. t ++ tail) (sym is),
      )

  -- so has what is left
  pub rest_once : (tr : Trace) (x y : List ℕ) → IsRestText New p tr x → IsRestText New p tr y → x ≡ y
  rest_once tr x y a b = one tr _ _ x y a b

-- ---- streams of verdicts

-- a stream's text is one for its rows
pub stream_once : (p : Subformula) (header : Header) (rows : List Row) (ended : Bool) (x y : List ℕ)
    → IsStreamText p header rows ended x → IsStreamText p header rows ended y → x ≡ y
stream_once p header rows false x y a b = rows_once (new_once p) p header [] None rows x y a b
stream_once p header rows true x y (_, (during, rest, line, a, b, c, is)) (_, (during', rest', line', a', b', c', is')) =
    is ∙ ap (λ t. t ++ rest ++ line) (rows_once (new_once p) p header [] None rows during during' a a')
    ∙ ap (λ t. during' ++ t ++ line) (rest_once (new_once p) p header (record { header = header; rows = rows }) rest rest' b b')
    ∙ ap (λ t. during' ++ rest' ++ t) (start_once p (record { header = header; rows = rows }) line line' c c') ∙ sym is'

-- rows more make a stream's text longer
pub stream_grows : (p : Subformula) (header : Header) (rows beyond : List Row) (ended : Bool) (x y : List ℕ) → IsStreamText p header rows false x
    → IsStreamText p header (rows ++ beyond) ended y → IsLonger x y
stream_grows p header rows beyond false x y a b = rows_grow (new_once p) p header [] None rows beyond x y a b
stream_grows p header rows beyond true x y a (_, (during, rest, line, b, _, _, is)) =
    let (tail, e) = rows_grow (new_once p) p header [] None rows beyond x during a b in
    (tail ++ rest ++ line, is ∙ ap (λ t. t ++ rest ++ line) e ∙ ap (λ t. t ++ line) (append_assoc x tail rest) ∙ append_assoc x (tail ++ rest) line)

-- ---- early verdicts

-- a list parted at two of its rows: at the same, or at one of them first
data Parting (a : List Row) (x : Row) (b : List Row) (c : List Row) (y : Row) : Type 0 where
  same : a ≡ c → x ≡ y → Parting a x b c y
  first : (e : List Row) → c ≡ a ++ x ∷ e → Parting a x b c y
  other : (e : List Row) → a ≡ c ++ y ∷ e → Parting a x b c y

parted : (a : List Row) (x : Row) (b c : List Row) (y : Row) (d : List Row) → a ++ x ∷ b ≡ c ++ y ∷ d → Parting a x b c y
parted [] x b [] y d e = same refl (let h : x ≡ y = cc in h)
parted [] x b (z ∷ c) y d e = first c (let h : x ≡ z = cc in ap (λ w. w ∷ c) (sym h))
parted (z ∷ a) x b [] y d e = other a (let h : z ≡ y = cc in ap (λ w. w ∷ a) h)
parted (z ∷ a) x b (w ∷ c) y d e =
    let h : z ≡ w = cc in
    elim (parted a x b c y d (let k : a ++ x ∷ b ≡ c ++ y ∷ d = cc in k)) [
      | same f g ↦ same (ap (λ v. v ∷ a) h ∙ ap (λ l. w ∷ l) f) g
      | first e f ↦ first e (ap (λ l. w ∷ l) f ∙ ap (λ v. v ∷ (a ++ x ∷ e)) (sym h))
      | other e f ↦ other e (ap (λ v. v ∷ a) h ∙ ap (λ l. w ∷ l) f)
    ]

-- what is settled true is not settled false
settled_once : (p : Subformula) (tr : Trace) (t : Rational) → Settled p tr t → ¬ SettledNot p tr t
settled_once (constant b) tr t h k = false≢true (sym k ∙ h)
settled_once (atom i a) tr t h k = false≢true (sym k.1 ∙ h.1)
settled_once (negation p) tr t h k = settled_once p tr t k h
settled_once (conjunction p q) tr t h (inl k) = settled_once p tr t h.0 k
settled_once (conjunction p q) tr t h (inr k) = settled_once q tr t h.1 k
settled_once (disjunction p q) tr t (inl h) k = settled_once p tr t h k.0
settled_once (disjunction p q) tr t (inr h) k = settled_once q tr t h k.1
settled_once (implication p q) tr t (inl h) k = settled_once p tr t k.0 h
settled_once (implication p q) tr t (inr h) k = settled_once q tr t h k.1
settled_once (eventually a b a_in b_in p) tr t (u, w, sure, h) k = settled_once p tr u h (k u w)
settled_once (always a b a_in b_in p) tr t h (u, w, sure, k) = settled_once p tr u (h u w) k
settled_once (once a b a_in b_in p) tr t (u, w, sure, h) k = settled_once p tr u h (k u w)
settled_once (historically a b a_in b_in p) tr t h (u, w, sure, k) = settled_once p tr u (h u w) k
settled_once (until a b p q) tr t (u, w, sure, h, on) k = elim (k u w) [
  | inl f ↦ settled_once q tr u h f
  | inr f ↦ settled_once p tr f.0 (on f.0 f.1) f.2
]
settled_once (since a b p q) tr t (u, w, sure, h, on) k = elim (k u w) [
  | inl f ↦ settled_once q tr u h f
  | inr f ↦ settled_once p tr f.0 (on f.0 f.1) f.2
]

-- rows decide for one truth
one_decision : (p : Subformula) (tr : Trace) (a b : Bool) → Decides p tr a → Decides p tr b → a ≡ b
one_decision p tr true true h k = refl
one_decision p tr true false h k = absurd (settled_once p tr _ h k)
one_decision p tr false true h k = absurd (settled_once p tr _ k h)
one_decision p tr false false h k = refl

-- rows of which one is the first to decide, and the early text for it
record DecidedAt (p : Subformula) (header : Header) (digits : ℕ) (rows : List Row) (text : List ℕ) : Type 0 where
  before : List Row
  after : List Row
  row : Row
  parts : rows ≡ before ++ row ∷ after
  holds : Bool
  decides : FirstDecides p header before row holds
  time : List ℕ
  time_is : IsNumberText digits (row_time row) time
  is : text ≡ codes "decided at " ++ time ++ newline ++ start_line holds

module _ (p : Subformula) (header : Header) (digits : ℕ) (rows : List Row) {x y : List ℕ} (a : DecidedAt p header digits rows x)
    (b : DecidedAt p header digits rows y) where
  -- two rows that are the first to decide are one
  first_once : (a.row ≡ b.row) × (a.holds ≡ b.holds)
  first_once = by_parting (parted a.before a.row a.after b.before b.row b.after (sym a.parts ∙ b.parts))
    where
      by_parting : Parting a.before a.row a.after b.before b.row → (a.row ≡ b.row) × (a.holds ≡ b.holds)
      by_parting (same f g) = (
        g,
        one_decision p _ a.holds b.holds a.decides.decides
            (subst (λ w. Decides p (record { header = header; rows = a.before ++ w ∷ [] }) b.holds) (sym g)
            (subst (λ l. Decides p (record { header = header; rows = l ++ b.row ∷ [] }) b.holds) (sym f) b.decides.decides)),
      )
      by_parting (first rest f) = absurd (b.decides.not_before a.before rest a.row a.holds f a.decides.decides)
      by_parting (other rest f) = absurd (a.decides.not_before b.before rest b.row b.holds f b.decides.decides)

  -- and so are their early texts
  decided_once : x ≡ y
  decided_once =
      let (same_row, same_truth) = first_once in
      let times : a.time ≡ b.time =
      number_once digits (same_refl _) (subst (λ w. IsNumberText digits (row_time w) a.time) same_row a.time_is) b.time_is in
      a.is ∙ ap (λ z. codes "decided at " ++ z ++ newline ++ start_line a.holds) times
      ∙ ap (λ h. codes "decided at " ++ b.time ++ newline ++ start_line h) same_truth ∙ sym b.is

-- the early text is one for its rows
pub early_once : (p : Subformula) (header : Header) (rows : List Row) (ended : Bool) (x y : List ℕ)
    → IsEarlyText p header rows ended x → IsEarlyText p header rows ended y → x ≡ y
early_once p header rows ended x y (at_row b a r h t e f s is) (at_row b' a' r' h' t' e' f' s' is') =
    decided_once p header header.scale.time rows
    (record { before = b; after = a; row = r; parts = e; holds = h; decides = f; time = t; time_is = s; is = is })
    (record { before = b'; after = a'; row = r'; parts = e'; holds = h'; decides = f'; time = t'; time_is = s'; is = is' })
early_once p header rows ended x y (at_row b a r h t e f s is) (at_end l d k none c is') = absurd (none b a r h e f.decides)
early_once p header rows ended x y (at_row b a r h t e f s is) (not_yet o none is') = absurd (none b a r h e f.decides)
early_once p header rows ended x y (at_end l d k none c is) (at_row b' a' r' h' t' e' f' s' is') = absurd (none b' a' r' h' e' f'.decides)
early_once p header rows ended x y (at_end l d k none c is) (at_end l' d' k' none' c' is') = is
    ∙ ap (λ t. codes "decided at end" ++ newline ++ t) (start_once p (record { header = header; rows = rows }) l l' c c') ∙ sym is'
early_once p header rows ended x y (at_end l d k none c is) (not_yet o none' is') = absurd (false≢true (sym o ∙ d))
early_once p header rows ended x y (not_yet o none is) (at_row b' a' r' h' t' e' f' s' is') = absurd (none b' a' r' h' e' f'.decides)
early_once p header rows ended x y (not_yet o none is) (at_end l' d' k' none' c' is') = absurd (false≢true (sym o ∙ d'))
early_once p header rows ended x y (not_yet o none is) (not_yet o' none' is') = is ∙ sym is'

-- rows more make the early text longer
pub early_grows : (p : Subformula) (header : Header) (rows beyond : List Row) (ended : Bool) (x y : List ℕ) → IsEarlyText p header rows false x
    → IsEarlyText p header (rows ++ beyond) ended y → IsLonger x y
early_grows p header rows beyond ended x y (not_yet o none is) _ = (y, ap (λ t. t ++ y) (sym is))
early_grows p header rows beyond ended x y (at_end l d k none c is) _ = absurd (false≢true d)
early_grows p header rows beyond ended x y (at_row b a r h t e f s is) (at_row b' a' r' h' t' e' f' s' is') = (
  [],
  sym (append-nil x ∙ decided_once p header header.scale.time (rows ++ beyond)
      (record {
        before = b;
        after = a ++ beyond;
        row = r;
        parts = ap (λ l. l ++ beyond) e ∙ append_assoc b (r ∷ a) beyond;
        holds = h;
        decides = f;
        time = t;
        time_is = s;
        is = is;
      })
      (record { before = b'; after = a'; row = r'; parts = e'; holds = h'; decides = f'; time = t'; time_is = s'; is = is' })),
)
early_grows p header rows beyond ended x y (at_row b a r h t e f s is) (at_end l d k none c is') =
    absurd (none b (a ++ beyond) r h (ap (λ l. l ++ beyond) e ∙ append_assoc b (r ∷ a) beyond) f.decides)
early_grows p header rows beyond ended x y (at_row b a r h t e f s is) (not_yet o none is') =
    absurd (none b (a ++ beyond) r h (ap (λ l. l ++ beyond) e ∙ append_assoc b (r ∷ a) beyond) f.decides)
