-- The text of an early run goes on with a row, and to the end.
use Rattle.std.proofs.Common.{◌≡◌, ◌⊎◌, inl, inr, refl, sym, ap, subst, ◌∙◌, ℕ, ◌<◌, Bool, true, false, Option}
use Rattle.std.proofs.Common.{Some, None, List, [], ◌∷◌, ◌++◌, length, pos, codes, arith, append_assoc, append-nil}
use Rattle.std.specs.Prelude.{MatchBool, MatchOption, IfSome, IsSome}
use Rattle.rational.specs.Time.{whole}
use Rattle.stl_syntax.specs.Trace.{Header, Row, AreRows, IsTrace, row_time, start, last_time}
use Rattle.stl_syntax.specs.Formula.{Subformula, Formula, root}
use Rattle.stl_syntax.specs.Truth.{Truth}
use Rattle.stl_syntax.specs.Scaling.{scaled}
use Rattle.stl_syntax.specs.Early.{NoneDecides}
use Rattle.stl_syntax.specs.EarlyText.{IsEarlyText, at_row, at_end, not_yet}
use Rattle.stl_syntax.specs.Texts.{IsNumberText, newline, start_line}
use Rattle.stl_syntax.specs.declared.scale.Scale.{Scale}
use Rattle.early_verdict.specs.Deciding.{IsAnswer, IsBlockAnswer, IsTruthAtStart, SetsAre, Stands, WasDecided, last_of, trace_of}
use Rattle.early_verdict.specs.declared.early.Decided.{Decided}
use Rattle.early_verdict.proofs.DecideLemmas.{none_more, none_first}
use Rattle.early_verdict.proofs.RowLemmas.{last_is}
use Rattle.answer_lines.specs.Appended.{Grew}
use Rattle.answer_lines.specs.EarlyLines.{IsDecidedLine}
use Rattle.trace_stream.specs.Cases.{IsCase, with_row}
use Rattle.trace_stream.specs.Kept.{with_rows}
use Rattle.trace_stream.specs.Streams.{early, status_of_truth}
use Rattle.trace_stream.specs.Following.{Follows, IsComplete, IsFollowedOn, IsFollowedOut}
use Rattle.trace_stream.specs.declared.case.Case.{Case}
use Rattle.early_stream.specs.declared.deciding.Deciding.{Deciding}
use Rattle.early_stream.specs.Deciding.{IsDeciding}
use Rattle.early_stream.specs.EarlyLines.{AreDecidedLines}

-- nothing is said before any row
pub nothing_said : (p : Subformula) (header : Header) → IsEarlyText p header [] false []
nothing_said p header = not_yet refl (none_first p header) refl

-- rows of which none is the first to decide leave the text
pub still_said : (p : Subformula) (header : Header) (rows more : List Row) (made : List ℕ) → IsEarlyText p header rows false made
    → (NoneDecides p header rows → NoneDecides p header (rows ++ more)) → IsEarlyText p header (rows ++ more) false made
still_said p header rows more made told none = elim told [
  | at_row before after q holds time e first num is ↦
      at_row before (after ++ more) q holds time (ap (λ l. l ++ more) e ∙ append_assoc before (q ∷ after) more) first num is
  | at_end line t ok n l is ↦ absurd (let f : false ≡ true = t in cc)
  | not_yet f n is ↦ not_yet refl (none n) is
]

-- before the first row that decides the text is empty
pub empty_before : (p : Subformula) (header : Header) (rows : List Row) (made : List ℕ) → IsEarlyText p header rows false made
    → NoneDecides p header rows → made ≡ []
empty_before p header rows made told none = elim told [
  | at_row before after q holds time e first num is ↦ absurd (none before after q holds e first.decides)
  | at_end line t ok n l is ↦ absurd (let f : false ≡ true = t in cc)
  | not_yet f n is ↦ is
]

-- rows of which one is the first that decides
pub now_said : {p : Subformula} {header : Header} {rows : List Row} {made : List ℕ} (more : List Row) (grown : List ℕ) (d : Decided) (scale : Scale)
    → IsEarlyText p header rows false made → NoneDecides p header rows → WasDecided p header (rows ++ more) d
    → scale.time ≡ header.scale.time → AreDecidedLines scale d.at d.holds grown
    → IsEarlyText p header (rows ++ more) false (made ++ grown)
now_said {p} {header} {rows} {made} more grown d scale told none w digits (time, num, is) =
    at_row w.before w.after w.row d.holds time w.among w.first
    (subst (λ k. IsNumberText k (row_time w.row) time) digits (subst (λ t. IsNumberText scale.time (whole (pos t)) time) w.at num))
    (ap (λ m. m ++ grown) (empty_before p header rows made told none) ∙ is)

-- one row is some rows
of_row : (p : Subformula) (header : Header) (rows : List Row) (r : Row) (answer : Option Decided) → IsAnswer p header rows r answer
    → IsBlockAnswer p header rows (r ∷ []) answer
of_row p header rows r None h = λ none. none_more p header rows r none (λ b d. h b (record { decides = d; not_before = none }))
of_row p header rows r (Some d) (at, first) =
    (first.not_before, record { before = rows; row = r; after = []; among = refl; at = at; first = first })

-- the end, where a row had decided
pub said_before : (p : Subformula) (header : Header) (rows : List Row) (made : List ℕ) (d : Decided) → IsEarlyText p header rows false made
    → WasDecided p header rows d → IsEarlyText p header rows true made
said_before p header rows made d told w = elim told [
  | at_row before after q holds time e first num is ↦ at_row before after q holds time e first num is
  | at_end line t ok n l is ↦ absurd (let f : false ≡ true = t in cc)
  | not_yet f n is ↦ absurd (n w.before w.after w.row d.holds w.among w.first.decides)
]

-- and where none had
pub said_at_end : (p : Subformula) (header : Header) (rows : List Row) (made : List ℕ) (holds : Bool) → IsEarlyText p header rows false made
    → NoneDecides p header rows → AreRows (length header.columns) rows → IsTruthAtStart p (trace_of header rows) holds
    → IsEarlyText p header rows true (made ++ (codes "decided at end" ++ newline ++ start_line holds))
said_at_end p header rows made holds told none ok truth =
    at_end (start_line holds) refl ok none (holds, truth, refl)
    (ap (λ m. m ++ (codes "decided at end" ++ newline ++ start_line holds)) (empty_before p header rows made told none))

-- the last row's time is earlier than the next
pub later_row : (rows : List Row) (r : Row) → (0 < length rows → last_time 0 rows < r.time) → (last : Option Row)
    → last ≡ last_of rows → IfSome last (λ q. q.time < r.time)
later_row [] r l last e = subst (λ o. IfSome o (λ q. q.time < r.time)) (sym e) tt
later_row (q ∷ rows) r l last e =
    subst (λ o. IfSome o (λ q. q.time < r.time)) (sym e) (subst (λ t. t < r.time) (last_is q rows) (l (omega arith)))

-- rows of a trace have a last one
pub some_last : (width : ℕ) (rows : List Row) (last : Option Row) → AreRows width rows → last ≡ last_of rows → IsSome last
some_last width [] last ok e = absurd ok
some_last width (q ∷ rows) last ok e = subst (λ o. IsSome o) (sym e) refl

module _ (x y : Deciding) (case : Case) (made : List ℕ) (h : Follows (λ c text. IsDeciding false x c) early case made)
    (nodes : y.early.nodes ≡ x.early.nodes) (header : y.early.header ≡ x.early.header) (scale : y.scale ≡ x.scale) where
  follows : (rows : List Row) (grown : List ℕ) → Stands y.early rows false
      → IsEarlyText (root case.formula.nodes) case.trace.header rows false (made ++ grown)
      → Follows (λ c text. IsDeciding false y c) early (record case { trace = record case.trace { rows = rows } }) (made ++ grown)
  follows rows grown st told = record {
    stands = record {
      stands = st;
      nodes = nodes ∙ h.stands.nodes;
      header = header ∙ h.stands.header;
      digits = ap (λ (s : Scale). s.time) scale ∙ h.stands.digits;
    };
    fits = (h.fits.0, record { formula = h.fits.1.formula; bound = h.fits.1.bound });
    told = told;
  }

  -- some rows, of which one may be the first that decides
  pub rows_on : (more : List Row) (old new : List ℕ) (answer : Option Decided) → Stands y.early (case.trace.rows ++ more) false
      → IsBlockAnswer (root x.early.nodes) x.early.header case.trace.rows more answer
      → MatchOption answer (new ≡ old) (λ d. Grew (AreDecidedLines x.scale d.at d.holds) old new)
      → IsFollowedOn (λ c text. IsDeciding false y c) early (with_rows more case) old new made
  rows_on more old new answer st is grew = by_answer answer (subst (λ n. IsBlockAnswer (root n) case.trace.header case.trace.rows more answer) h.stands.nodes
      (subst (λ l. IsBlockAnswer (root x.early.nodes) l case.trace.rows more answer) h.stands.header is)) grew
    where
      by_answer : (o : Option Decided) → IsBlockAnswer (root case.formula.nodes) case.trace.header case.trace.rows more o
          → MatchOption o (new ≡ old) (λ d. Grew (AreDecidedLines x.scale d.at d.holds) old new)
          → IsFollowedOn (λ c text. IsDeciding false y c) early (with_rows more case) old new made
      by_answer None none e = (
        [],
        e ∙ sym (append-nil old),
        follows (case.trace.rows ++ more) [] st
            (subst (λ m. IsEarlyText (root case.formula.nodes) case.trace.header (case.trace.rows ++ more) false m) (sym (append-nil made))
            (still_said (root case.formula.nodes) case.trace.header case.trace.rows more made h.told none)),
      )
      by_answer (Some d) (none, w) (grown, lines, e) = (
        grown,
        e,
        follows (case.trace.rows ++ more) grown st (now_said more grown d x.scale h.told none w h.stands.digits lines),
      )

  -- a row
  pub row_on : (r : Row) (old new : List ℕ) (answer : Option Decided) → Stands y.early (case.trace.rows ++ r ∷ []) false
      → IsAnswer (root x.early.nodes) x.early.header case.trace.rows r answer
      → MatchOption answer (new ≡ old) (λ d. Grew (AreDecidedLines x.scale d.at d.holds) old new)
      → IsFollowedOn (λ c text. IsDeciding false y c) early (with_row r case) old new made
  row_on r old new answer st is grew =
      rows_on (r ∷ []) old new answer st (of_row (root x.early.nodes) x.early.header case.trace.rows r answer is) grew

  -- the end
  pub end_on : (old new : List ℕ) (decided : Option Decided) (holds : Bool) → decided ≡ x.early.decided
      → Stands y.early case.trace.rows true → IsTrace case.trace
      → IsTruthAtStart (root x.early.nodes) (trace_of x.early.header case.trace.rows) holds
      → MatchOption decided (new ≡ old ++ (codes "decided at end" ++ newline ++ start_line holds)) (λ d. new ≡ old)
      → IsFollowedOut (λ c text. IsDeciding true y c) early case old new made holds
  end_on old new decided holds was st ok truth grew = by_decided x.early.decided h.stands.stands.by
      (subst (λ o. MatchOption o (new ≡ old ++ (codes "decided at end" ++ newline ++ start_line holds)) (λ d. new ≡ old)) was grew)
    where
      here : IsTruthAtStart (root case.formula.nodes) case.trace holds
      here = subst (λ n. IsTruthAtStart (root n) case.trace holds) h.stands.nodes
          (subst (λ l. IsTruthAtStart (root x.early.nodes) (trace_of l case.trace.rows) holds) h.stands.header truth)

      verdict_of : (b : Bool) (P : Type 0) → MatchBool b P (¬ P) → ((status_of_truth b ≡ 0) × P) ⊎ ((status_of_truth b ≡ 1) × (¬ P))
      verdict_of true P t = inl (refl, t)
      verdict_of false P t = inr (refl, t)

      complete : (grown : List ℕ) → IsEarlyText (root case.formula.nodes) case.trace.header case.trace.rows true (made ++ grown)
          → IsComplete (λ c text. IsDeciding true y c) early case (made ++ grown) holds
      complete grown told = record {
        ended = record {
          stands = st;
          nodes = nodes ∙ h.stands.nodes;
          header = header ∙ h.stands.header;
          digits = ap (λ (s : Scale). s.time) scale ∙ h.stands.digits;
        };
        told = told;
        verdict = λ f is. verdict_of holds (Truth (root (scaled f case.trace.header.scale).nodes) case.trace (start case.trace))
            (subst (λ (g : Formula). IsTruthAtStart (root g.nodes) case.trace holds) is.formula here);
      }

      by_decided : (o : Option Decided)
          → MatchOption o (NoneDecides (root x.early.nodes) x.early.header case.trace.rows
          × (x.early.ended ≡ false → SetsAre x.early.nodes x.early.header x.early.begin x.early.live x.early.shown case.trace.rows))
          (WasDecided (root x.early.nodes) x.early.header case.trace.rows)
          → MatchOption o (new ≡ old ++ (codes "decided at end" ++ newline ++ start_line holds)) (λ d. new ≡ old)
          → IsFollowedOut (λ c text. IsDeciding true y c) early case old new made holds
      by_decided None none e = (
        codes "decided at end" ++ newline ++ start_line holds,
        e,
        complete (codes "decided at end" ++ newline ++ start_line holds)
            (said_at_end (root case.formula.nodes) case.trace.header case.trace.rows made holds h.told
            (subst (λ n. NoneDecides (root n) case.trace.header case.trace.rows) h.stands.nodes
            (subst (λ l. NoneDecides (root x.early.nodes) l case.trace.rows) h.stands.header none.0)) ok.rows here),
      )
      by_decided (Some d) w e = (
        [],
        e ∙ sym (append-nil old),
        complete [] (subst (λ m. IsEarlyText (root case.formula.nodes) case.trace.header case.trace.rows true m) (sym (append-nil made))
            (said_before (root case.formula.nodes) case.trace.header case.trace.rows made d h.told
            (subst (λ n. WasDecided (root n) case.trace.header case.trace.rows d) h.stands.nodes
            (subst (λ l. WasDecided (root x.early.nodes) l case.trace.rows d) h.stands.header w)))),
      )

-- no rows yet
pub begun : (x : Deciding) (case : Case) (f : Formula) → IsCase f case → case.trace.rows ≡ [] → Stands x.early [] false → x.early.nodes ≡ case.formula.nodes
    → x.early.header ≡ case.trace.header → x.scale ≡ case.formula.scale → Follows (λ c text. IsDeciding false x c) early case []
begun x case f is none st nodes header scale = record {
  stands = record {
    stands = subst (λ l. Stands x.early l false) (sym none) st;
    nodes = nodes;
    header = header;
    digits = ap (λ (s : Scale). s.time) scale ∙ ap (λ (g : Formula). g.scale.time) is.formula;
  };
  fits = (f, is);
  told = subst (λ l. IsEarlyText (root case.formula.nodes) case.trace.header l false []) (sym none) (nothing_said (root case.formula.nodes) case.trace.header);
}

-- the two lines, one after the other
pub two_lines : (scale : Scale) (at : ℕ) (holds : Bool) (old mid new : List ℕ) → Grew (IsDecidedLine scale at) old mid → new ≡ mid ++ start_line holds
    → Grew (AreDecidedLines scale at holds) old new
two_lines scale at holds old mid new (line, (time, num, is), e) f = (
  line ++ start_line holds,
  (time, num, ap (λ l. l ++ start_line holds) is),
  f ∙ ap (λ l. l ++ start_line holds) e ∙ append_assoc old line (start_line holds),
)

-- a row has the columns of the atoms
pub wide_row : (x : Deciding) (case : Case) → IsDeciding false x case → (r : Row)
    → length r.values ≡ length case.trace.header.columns → length r.values ≡ x.early.bound.width
wide_row x case s r w = w ∙ sym (s.stands.bound.width ∙ ap (λ (h : Header). length h.columns) s.header)
