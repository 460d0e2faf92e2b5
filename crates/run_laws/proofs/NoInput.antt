-- A request that reads no input ends in one way.
use Rattle.std.proofs.Common.{◌≡◌, ℕ, suc, Bool, true, false, List, [], ◌++◌, refl, sym, ap, ◌∙◌, subst, arith}
use Rattle.std.specs.Prelude.{codes, decimal}
use Rattle.std.proofs.lemmas.Bool.{false≢true}
use Rattle.stl_syntax.specs.Formula.{Formula, root}
use Rattle.stl_syntax.specs.Stream.{IsStreamText}
use Rattle.stl_syntax.specs.Texts.{newline, IsStartLine}
use Rattle.stl_grammar.proofs.LawProofs.{one_formula}
use Rattle.stl_syntax.specs.Scaling.{nodes_for}
use Rattle.report.specs.Report.{check, Out}
use Rattle.answer_lines.proofs.OneText.{start_once}
use Rattle.answer_lines.proofs.StreamTexts.{stream_once}
use Rattle.workbench.specs.Requests.{Request, no_form, refused, whole, stream, sessions, generated, has_input, usage_line}
use Rattle.workload_summary.specs.Generator.{IsSummary, generated as generated_trace, judged, line_count}
use Rattle.workbench.specs.Ended.{EndsWith, none, bad, faulty, answered, wide, overfull}
use Rattle.promises.proofs.OwedLaws.{check_once}
use Rattle.run_laws.proofs.OneEnding.{AreOne}

-- ---- the summary of a generated trace

abbrev summary_text : ℕ → ℕ → ℕ → List ℕ → List ℕ
summary_text rows checked watched line =
    codes "rows " ++ decimal rows ++ newline ++ codes "check " ++ decimal checked ++ newline ++ codes "watch " ++ decimal watched ++ newline ++ line

-- it is one text
pub summary_once : (number rows : ℕ) (x y : List ℕ) → IsSummary number rows x → IsSummary number rows y → x ≡ y
summary_once number rows x y a b =
    a.is ∙ ap (λ n. summary_text rows n a.watch_lines a.start_line) checks ∙ ap (λ n. summary_text rows b.check_lines n a.start_line) watches
    ∙ ap (summary_text rows b.check_lines b.watch_lines) starts ∙ sym b.is
  where
    same : a.formula ≡ b.formula
    same = one_formula judged a.formula b.formula a.is_judged b.is_judged

    starts : a.start_line ≡ b.start_line
    starts = start_once (root (nodes_for b.formula (generated_trace number rows))) (generated_trace number rows) a.start_line b.start_line
        (subst (λ (f : Formula). IsStartLine (root (nodes_for f (generated_trace number rows))) (generated_trace number rows) a.start_line) same a.start_text)
        b.start_text

    checks : a.check_lines ≡ b.check_lines
    checks =
        let texts = check_once b.formula (generated_trace number rows) a.checked b.checked
        (subst (λ (f : Formula). Out check f (generated_trace number rows) a.checked) same a.check_text) b.check_text in
        let counts : suc a.check_lines ≡ suc b.check_lines = sym a.check_count ∙ ap line_count texts ∙ b.check_count in
        omega (arith, counts)

    watches : a.watch_lines ≡ b.watch_lines
    watches =
        let texts = stream_once (root (nodes_for b.formula (generated_trace number rows))) (generated_trace number rows).header
        (generated_trace number rows).rows true a.watched b.watched
        (subst (λ (f : Formula). IsStreamText (root (nodes_for f (generated_trace number rows))) (generated_trace number rows).header
        (generated_trace number rows).rows true a.watched) same a.watch_text)
        b.watch_text in
        let counts : suc a.watch_lines ≡ suc b.watch_lines = sym a.watch_count ∙ ap line_count texts ∙ b.watch_count in
        omega (arith, counts)

-- ---- endings

-- words of no form end with 2
pub none_end : {read line text : List ℕ} {ended : Bool} {status : ℕ} → EndsWith read ended no_form status line text
    → (status ≡ 2) × (line ≡ usage_line) × (text ≡ [])
none_end none = (refl, refl, refl)
none_end (faulty h prompt owed) = absurd h
none_end (answered h) = absurd h
none_end (wide i den h) = absurd h
none_end (overfull count h) = absurd h

-- a formula that is refused ends with 3
pub bad_end : {read line text : List ℕ} {ended : Bool} {status : ℕ} (said : List ℕ) → EndsWith read ended (refused said) status line text
    → (status ≡ 3) × (line ≡ said) × (text ≡ [])
bad_end said bad = (refl, refl, refl)
bad_end said (faulty h prompt owed) = absurd h
bad_end said (answered h) = absurd h
bad_end said (wide i den h) = absurd h
bad_end said (overfull count h) = absurd h

-- a trace that is generated ends with 0
pub made_end : {read line text : List ℕ} {ended : Bool} {status : ℕ} (number rows : ℕ) → EndsWith read ended (generated number rows) status line text
    → (status ≡ 0) × (line ≡ []) × IsSummary number rows text
made_end number rows (faulty h prompt owed) = absurd h
made_end number rows (answered h) = (h.0, refl, h.1)
made_end number rows (wide i den h) = absurd h
made_end number rows (overfull count h) = absurd h

-- a request that reads no input ends in one way
pub unread_once : (request : Request) (read other : List ℕ) (ended also : Bool) {m n : ℕ} {line said text more : List ℕ} → has_input request ≡ false
    → EndsWith read ended request m line text → EndsWith other also request n said more → AreOne m n line said text more
unread_once no_form read other ended also has a b =
    let x = none_end a in let y = none_end b in record { status = x.0 ∙ sym y.0; lines = x.1 ∙ sym y.1; texts = x.2 ∙ sym y.2 }
unread_once (refused l) read other ended also has a b =
    let x = bad_end l a in let y = bad_end l b in record { status = x.0 ∙ sym y.0; lines = x.1 ∙ sym y.1; texts = x.2 ∙ sym y.2 }
unread_once (whole c f) read other ended also has a b = absurd (false≢true (sym has))
unread_once (stream s f) read other ended also has a b = absurd (false≢true (sym has))
unread_once (sessions f) read other ended also has a b = absurd (false≢true (sym has))
unread_once (generated number rows) read other ended also {text = text} {more = more} has a b =
    let x = made_end number rows a in let y = made_end number rows b in
    record { status = x.0 ∙ sym y.0; lines = x.1 ∙ sym y.1; texts = summary_once number rows text more x.2 y.2 }
