-- What an explanation comes to: its lines refute the formula, and none can be left out.
use Rattle.std.proofs.Common.{◌≡◌, ◌⊎◌, inl, inr, ℕ, Bool, true, false, List, [], ◌∷◌, ◌++◌, refl, ap, subst, ◌∙◌, append-nil}
use Rattle.std.specs.Prelude.{MatchBool}
use Rattle.stl_syntax.specs.Formula.{Formula, root}
use Rattle.stl_syntax.specs.Trace.{Trace, start}
use Rattle.stl_syntax.specs.Truth.{Truth}
use Rattle.stl_syntax.specs.Kleene.{MustNot}
use Rattle.stl_syntax.specs.Kept.{Kept}
use Rattle.stl_syntax.specs.Texts.{start_line}
use Rattle.stl_syntax.specs.declared.items.Item.{Item}
use Rattle.implicants.proofs.KeptCells.{kept_is_needed, certainty_grows}
use Rattle.stl_syntax.specs.Scaling.{nodes_for}
use Rattle.report.specs.Report.{explain, json, IsExplained as Described, IsItemLines, AreItemLines}
use Rattle.report.proofs.JoinedTimes.{SayMore, joined_say, line_without}
use Rattle.report.proofs.JoinedCells.{cover_as, so_as}
use Rattle.trace_stream.specs.Streams.{HoldsAtStart}
use Rattle.workbench.specs.Ended.{Refute, KeptRefute, TellsTruth, IsAnsweredWhole}
use Rattle.promises.specs.Accounts.{AreReasons, IsRefutation, IsAccount, IsReportAccount}

module _ (f : Formula) (tr : Trace) where
  -- items that say as much refute as well
  refute_as : (items lines : List Item) → SayMore items lines → Refute f tr items → Refute f tr lines
  refute_as items lines more r = record {
    certain = (certainty_grows (root (nodes_for f tr)) items lines tr (start tr) (cover_as items lines more)).1 r.certain;
    elsewhere = λ tr' agree. r.elsewhere tr' (record { like = agree.like; so = so_as (nodes_for f tr) tr' items lines more agree.so });
  }

  -- without a line the others are not enough
  line_needed : (items lines before after : List Item) (l : Item) → Kept (nodes_for f tr) tr items → IsItemLines items lines → lines ≡ before ++ l ∷ after
      → ¬ MustNot (root (nodes_for f tr)) (before ++ after) tr (start tr)
  line_needed items lines before after l kept joined is m =
      let w = line_without items lines before l after joined is in
      kept_is_needed (nodes_for f tr) tr items w.before w.after w.e kept w.is
      ((certainty_grows (root (nodes_for f tr)) (before ++ after) (w.before ++ w.after) tr (start tr)
      (cover_as (before ++ after) (w.before ++ w.after) w.more)).1 m)

  reasons_of : (items lines : List Item) → KeptRefute f tr → ¬ HoldsAtStart f tr → Kept (nodes_for f tr) tr items
      → IsItemLines items lines → AreReasons f tr lines
  reasons_of items lines sure fails kept joined = record {
    items = items;
    kept = kept;
    joined = joined;
    refute = refute_as items lines (joined_say items lines joined) (sure items fails kept);
    needed = λ before after l is. line_needed items lines before after l kept joined is;
  }

  -- the text of a start that is true is its line
  true_text : (lines : List Item) (body text : List ℕ) → lines ≡ [] → AreItemLines tr.header.scale f lines body
      → text ≡ start_line true ++ body → text ≡ start_line true
  true_text lines body text none written is =
      let nothing : body ≡ [] = subst (λ ls. AreItemLines tr.header.scale f ls body) none written in
      is ∙ ap (λ b. start_line true ++ b) nothing ∙ append-nil (start_line true)

  Says : ℕ → List ℕ → Type 0
  Says status text = ((status ≡ 0) × HoldsAtStart f tr × (text ≡ start_line true)) ⊎ IsRefutation f tr status text

  says : (status : ℕ) (lines : List Item) (body text : List ℕ) → KeptRefute f tr → TellsTruth f tr status → Described f tr lines → (holds : Bool)
      → MatchBool holds (Truth (root (nodes_for f tr)) tr (start tr)) (¬ Truth (root (nodes_for f tr)) tr (start tr))
      → AreItemLines tr.header.scale f lines body → text ≡ start_line holds ++ body → Says status text
  unfolding Says
  says status lines body text sure (inl (s, h)) (inl (k, none)) true m written is = inl (s, h, true_text lines body text none written is)
  says status lines body text sure (inl (s, h)) (inl (k, none)) false m written is = absurd (m h)
  says status lines body text sure (inl (s, h)) (inr (n, more)) holds m written is = absurd (n h)
  says status lines body text sure (inr (s, n)) (inl (k, none)) holds m written is = absurd (n k)
  says status lines body text sure (inr (s, n)) (inr (o, more)) true m written is = absurd (n m)
  says status lines body text sure (inr (s, n)) (inr (o, (items, kept, joined))) false m written is = inr (record {
    status_is = s;
    fails = n;
    lines = lines;
    body = body;
    reasons = reasons_of items lines sure n kept joined;
    written = written;
    text_is = is;
  })

  ReportSays : ℕ → Bool → List Item → Type 0
  ReportSays status holds items =
      ((status ≡ 0) × (holds ≡ true) × HoldsAtStart f tr × (items ≡ []))
      ⊎ ((status ≡ 1) × (holds ≡ false) × (¬ HoldsAtStart f tr) × AreReasons f tr items)

  report_says : (status : ℕ) (lines : List Item) → KeptRefute f tr → TellsTruth f tr status → Described f tr lines → (holds : Bool)
      → MatchBool holds (Truth (root (nodes_for f tr)) tr (start tr)) (¬ Truth (root (nodes_for f tr)) tr (start tr)) → ReportSays status holds lines
  unfolding ReportSays
  report_says status lines sure (inl (s, h)) (inl (k, none)) true m = inl (s, refl, h, none)
  report_says status lines sure (inl (s, h)) (inl (k, none)) false m = absurd (m h)
  report_says status lines sure (inl (s, h)) (inr (n, more)) holds m = absurd (n h)
  report_says status lines sure (inr (s, n)) (inl (k, none)) holds m = absurd (n k)
  report_says status lines sure (inr (s, n)) (inr (o, more)) true m = absurd (n m)
  report_says status lines sure (inr (s, n)) (inr (o, (items, kept, joined))) false m =
      inr (s, refl, n, reasons_of items lines sure n kept joined)

-- what `explain` wrote is an account
pub accounted : (f : Formula) (bytes text : List ℕ) (status : ℕ) → IsAnsweredWhole explain f bytes status text → IsAccount f bytes text status
unfolding Says
accounted f bytes text status a =
    let (lines, line, body, explained, started, written, is) = a.written in
    record {
      tr = a.tr;
      trace = a.trace;
      says = says f a.tr status lines body text a.sure a.verdict explained started.0 started.1 written (is ∙ ap (λ l. l ++ body) started.2);
    }

-- so is what `json` wrote
pub report_accounted : (f : Formula) (bytes text : List ℕ) (status : ℕ) → IsAnsweredWhole json f bytes status text → IsReportAccount f bytes text status
unfolding ReportSays
report_accounted f bytes text status a =
    let (verdicts, knots, items, holds, report, described, measured, explained, truth, is, text_is) = a.written in
    record {
      tr = a.tr;
      trace = a.trace;
      verdicts = verdicts;
      knots = knots;
      items = items;
      holds = holds;
      report = report;
      is = is;
      text_is = text_is;
      says = report_says f a.tr status items a.sure.1 a.verdict explained holds truth;
    }
