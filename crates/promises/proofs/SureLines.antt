-- The lines of a stream of verdicts are the truth in each trace that goes on from the rows, and in the end they cover the trace.
use Rattle.std.proofs.Common.{◌≡◌, refl, sym, ap, subst, ◌∙◌, ℕ}
use Rattle.std.proofs.Common.{Bool, true, false, Option, Some, None, List, [], ◌++◌, ℤ, pos, ◌≤ℤ◌, arith}
use Rattle.std.specs.Prelude.{MatchBool, int_lt}
use Rattle.std.proofs.lemmas.Int.{ints}
use Rattle.rational.specs.Time.{whole, closed, left_open}
use Rattle.rational.specs.Places.{Same}
use Rattle.rational.proofs.Order.{le_trans}
use Rattle.rational.proofs.Shift.{le_whole}
use Rattle.rational.proofs.Tests.{one_truth, int_order}
use Rattle.stl_syntax.specs.Trace.{Header, Row, Trace, first_time, start, stop}
use Rattle.stl_syntax.specs.Formula.{Formula, Subformula, root}
use Rattle.stl_syntax.specs.Truth.{Truth}
use Rattle.stl_syntax.specs.Stream.{IsStretchText, IsNewText, IsStreamText}
use Rattle.stl_syntax.specs.Texts.{AreVerdictLines}
use Rattle.stl_syntax.specs.declared.items.Verdict.{Verdict}
use Rattle.stl_syntax.proofs.LawProofs.{answers_stay}
use Rattle.online_nodes.specs.Laws.{AreTold, AreTiles, answered_to}
use Rattle.online_nodes.proofs.StayLaw.{Agree, AgreeOn, described, told_append}
use Rattle.online_nodes.proofs.ToldSoFar.{same_itself}
use Rattle.online_nodes.proofs.EmittedLaw.{describes_tiles, tiles_append}
use Rattle.stl_syntax.specs.Scaling.{nodes_for}
use Rattle.answer_lines.proofs.Lines.{lines_join}
use Rattle.agreeing.proofs.SignLaw.{told_at}
use Rattle.workbench.specs.Requests.{verdicts}
use Rattle.workbench.specs.Ended.{IsAnsweredByRow}
use Rattle.promises.specs.SureLines.{AreSure, AreSureByRow, AreSureToEnd, IsCoverText, TellAlike, IsWatchText}
use Rattle.promises.proofs.SureRows.{Low, Lines, IsKind, sure_by_row, sure_at_end, whole_passage}

-- up to where a front leads, and nothing where there is none yet
abbrev Led : ℕ → Option ℤ → List Verdict → Option ℤ → Type 0
Led first old vs None = (old ≡ None) × (vs ≡ [])
Led first old vs (Some f) = AreTiles (answered_to first old) vs (answered_to first (Some f))

no_led : (first : ℕ) (o : Option ℤ) → Led first o [] o
no_led first None = (refl, refl)
no_led first (Some f) = same_itself (answered_to first (Some f))

led_join : (first : ℕ) (old mid new : Option ℤ) (vs ws : List Verdict) → Led first old vs mid → Led first mid ws new → Led first old (vs ++ ws) new
led_join first old None None vs ws a b = (a.0, ap (λ l. l ++ ws) a.1 ∙ b.1)
led_join first old None (Some f) vs ws a b =
    subst (λ (o : Option ℤ). AreTiles (answered_to first o) (vs ++ ws) (answered_to first (Some f))) (sym a.0)
    (subst (λ l. AreTiles (answered_to first None) (l ++ ws) (answered_to first (Some f))) (sym a.1) b)
led_join first old (Some m) None vs ws a b = absurd (let k = b.0 in cc)
led_join first old (Some m) (Some f) vs ws a b = tiles_append (answered_to first old) vs (answered_to first (Some m)) ws (answered_to first (Some f)) a b

module _ (p : Subformula) (header : Header) where
  new_lines : (rows : List Row) (old new : Option ℤ) (text : List ℕ) → Low (first_time rows) old
      → IsNewText p (record { header = header; rows = rows }) old new text
      → Lines (AreVerdictLines header.scale) (AreTold p) (Agree p) Led header rows old new text
  new_lines rows None None text low is = record { items = []; lines = is; told = λ tr agree. tt; led = λ never. (refl, refl) }
  new_lines rows (Some o) None text low is = record { items = []; lines = is; told = λ tr agree. tt; led = λ never. absurd never }
  new_lines rows None (Some f) text low (vs, d, lines) = record {
    items = vs;
    lines = lines;
    told = λ tr agree.
        described p (record { header = header; rows = rows }) tr (closed (whole (pos (first_time rows))) (whole f)) vs (λ t a b. agree f refl t a b) d;
    led = λ never. describes_tiles p (record { header = header; rows = rows }) (closed (whole (pos (first_time rows))) (whole f)) vs d;
  }
  new_lines rows (Some o) (Some f) text low is = by_test (int_lt o f) refl is
    where
      by_test : (b : Bool) → int_lt o f ≡ b
          → MatchBool b (IsStretchText p (record { header = header; rows = rows }) (left_open (whole o) (whole f)) text) (text ≡ [])
          → Lines (AreVerdictLines header.scale) (AreTold p) (Agree p) Led header rows (Some o) (Some f) text
      by_test true e (vs, d, lines) = record {
        items = vs;
        lines = lines;
        told = λ tr agree.
            described p (record { header = header; rows = rows }) tr (left_open (whole o) (whole f)) vs
            (λ t a b. agree f refl t (le_trans (le_whole low) a) b) d;
        led = λ never. describes_tiles p (record { header = header; rows = rows }) (left_open (whole o) (whole f)) vs d;
      }
      by_test false e none = record { items = []; lines = none; told = λ tr agree. tt; led = λ never. same_place never (int_order o f false e) }
        where
          same_place : o ≤ℤ f → f ≤ℤ o → Same (answered_to (first_time rows) (Some o)) (answered_to (first_time rows) (Some f))
          same_place a b =
              let e : o ≡ f = omega (arith, ints) in
              subst (λ z. Same (answered_to (first_time rows) (Some o)) (answered_to (first_time rows) (Some z))) e
              (same_itself (answered_to (first_time rows) (Some o)))

  -- lines of verdicts are a kind of lines
  kind : IsKind (AreVerdictLines header.scale) (AreTold p) (Agree p) Led header p (IsNewText p)
  kind = record {
    new_lines = new_lines;
    stays = λ r rows tr t is c h. let ans = answers_stay p header r rows tr false t is c h in (ans.0, ans.1);
    itself = λ tr t. (λ x. x, λ x. x);
    no_lines = λ text e. e;
    no_told = λ tr. tt;
    no_led = no_led;
    lines_join = lines_join header.scale;
    told_join = told_append p;
    led_join = led_join;
  }

-- the law before the end
pub lines_are_sure : (p : Subformula) (header : Header) (rows : List Row) (text : List ℕ) → IsStreamText p header rows false text
    → AreSureByRow p header [] rows text
lines_are_sure p header rows text t =
    sure_by_row (kind p header) (AreSure p header) (λ rows ended text vs lines told. record { verdicts = vs; lines = lines; told = told }) rows text t

-- the law at the end
pub lines_are_sure_to_end : (p : Subformula) (header : Header) (rows : List Row) (text : List ℕ)
    → IsStreamText p header rows true text → AreSureToEnd p header rows text
lines_are_sure_to_end p header rows text (are, (during, rest, line, t, at_end, first, is)) = record {
  during = during;
  rest = rest;
  line = line;
  by_row = lines_are_sure p header rows during t;
  at_end =
      sure_at_end (kind p header) (AreSure p header) (λ rows ended text vs lines told. record { verdicts = vs; lines = lines; told = told }) rows rest at_end;
  start_is = first;
  is = is;
}

-- the lines cover the trace
covered : (p : Subformula) (header : Header) (rows : List Row) (text : List ℕ) → IsStreamText p header rows true text
    → (vs : List Verdict) × IsCoverText p (record { header = header; rows = rows }) vs text
covered p header rows text (are, (during, rest, line, t, at_end, first, is)) =
    let c = whole_passage (kind p header) rows during rest are t at_end in (
      c.items,
      record { cover = record { tiles = c.led; told = c.told }; body = during ++ rest; line = line; lines = c.lines; start_is = first; is = is },
    )

-- ---- what `check` tells

tell_alike : (p : Subformula) (tr : Trace) (vs ws : List Verdict) → AreTold p tr vs → AreTold p tr ws → TellAlike vs ws
tell_alike p tr vs ws a b = λ i j v w t e f x y.
    one_truth (Truth p tr t) v.holds w.holds ((told_at p tr vs i v a e).truth t x) ((told_at p tr ws j w b f).truth t y)

-- the law of what is written in the end
pub watch_text : (f : Formula) (bytes : List ℕ) (status : ℕ) (text : List ℕ) → IsAnsweredByRow verdicts f bytes status text → IsWatchText f bytes text
watch_text f bytes status text a =
    let p = root (nodes_for f a.tr) in
    let (vs, c) = covered p a.tr.header a.tr.rows text a.written in
    record {
      tr = a.tr;
      trace = a.trace;
      verdicts = vs;
      covers = c;
      alike = λ others d. tell_alike p a.tr vs others c.cover.told (described p a.tr a.tr (closed (start a.tr) (stop a.tr)) others (itself p a.tr) d);
    }
  where
    itself : (p : Subformula) (tr : Trace) → AgreeOn p tr tr (closed (start tr) (stop tr))
    itself p tr = λ t a b. (λ x. x, λ x. x)
