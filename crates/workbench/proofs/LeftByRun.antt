-- What a run leaves to its caller.
use Rattle.std.proofs.Common.{◌≡◌, ◌∙◌, inl, inr, ℕ, Bool, true, false, Some, List, [], refl, sym, ap, subst, arith, Result, Ok, Err}
use Rattle.std.specs.Prelude.{IfOk, OnOk, map}
use Rattle.std.specs.Result.{is_err}
use Rattle.std.proofs.lemmas.Bool.{false≢true}
use Rattle.std.specs.Io.KnownBytes.{Appends, Consumes}
use Rattle.std.proofs.KnownBytes.{Appends-nil, Consumes-nil}
use Rattle.io_edge.specs.Calls.{Drained, Filled}
use Rattle.stl_syntax.specs.Scaling.{nodes_for}
use Rattle.report.specs.Report.{Command}
use Rattle.stl_syntax.specs.Formula.{Formula, root}
use Rattle.stl_syntax.specs.declared.node.Node.{Node}
use Rattle.online_nodes.specs.MarginEdges.{AreEmittedParts}
use Rattle.online_robust.specs.Nets.{StandsFor}
use Rattle.online_robust.specs.Pasts.{part_of}
use Rattle.margin_stream.specs.Margining.{IsMargined}
use Rattle.margin_stream.specs.declared.margins.Margins.{Margins as Measurer}
use Rattle.stl_grammar.specs.FormulaRefusals.{IsFormulaOf}
use Rattle.trace_stream.specs.Following.{IsDone}
use Rattle.trace_stream.specs.declared.live.Live.{Live}
use Rattle.command_line.specs.Commands.{Verb, on_formula, generate}
use Rattle.command_line.specs.Commands as word
use Rattle.command_line.specs.ErrTexts.{not_streamed_text, out_of_memory}
use Rattle.workbench.specs.Requests.{Request, no_form, refused as bad_request, whole, stream, early, margins, sessions, generated}
use Rattle.workbench.specs.Requests.{Asks, AreNone, AreFor, IsAsked, IsUnserved, is_streamed, word_of, word_of_stream}
use Rattle.workbench.specs.Running.{IsRun, asked as run_asked, by_itself, unknown as run_unknown}
use Rattle.workbench.specs.Ended.{bad}
use Rattle.command_line.specs.Saying.{IsSaid}
use Rattle.early_stream.specs.Deciding.{IsDeciding}
use Rattle.early_stream.specs.declared.deciding.Deciding.{Deciding as Follower}
use Rattle.workbench.specs.Keeping.{Holds, IsEarlyOf, IsLeft, IsNetOf, asked, unknown, HasRun}
use Rattle.command_line.specs.Words.{IsBadEnd, refused, no_room}
use Rattle.workbench.specs.Wholes.{status_of}
use Rattle.workbench.specs.Pushing.{IsStreamedFor}
use Rattle.workbench.proofs.RunEnds.{stop_high}
use Rattle.workbench.proofs.StreamSteps.{streams}
use Rattle.workbench.specs.declared.fault.Stop.{Stop}
use Rattle.workbench.specs.declared.kept.Kept.{Kept}

-- words of no form leave nothing
pub none_left : {words : List (List ℕ)} {i : Drained} {o e : Filled} {status : ℕ} (old new : Kept) → AreNone words → new ≡ old
    → IsRun words i o e status → HasRun words i o e old new status
none_left old new h same run = record { run = run; left = asked no_form h (inr (inl refl, same)) }

-- nor does a generated trace
pub made_left : {words : List (List ℕ)} {i : Drained} {o e : Filled} {status : ℕ} (number rows : ℕ) (old new : Kept)
    → IsAsked words (generate number rows) → new ≡ old
    → IsRun words i o e status → HasRun words i o e old new status
made_left number rows old new form same run = record { run = run; left = asked (generated number rows) form (inr (inl refl, same)) }

-- nor does a text that gives no formula
pub refused_left : {words : List (List ℕ)} {text : List ℕ} {i : Drained} {o e : Filled} {line : List ℕ} (j : Verb)
    (old new : Kept) (status : ℕ) → IsAsked words (on_formula j text)
    → IsBadEnd text status line → new ≡ old → IsRun words i o e status → HasRun words i o e old new status
refused_left {words} {text} {i} {o} {e} j old new _ form (refused {line = line} b) same run = record {
  run = run;
  left = asked (bad_request line) (record { command = j; text = text; form = form; is = inl b }) (inr (inl refl, same));
}
refused_left j old new _ form no_room same run = record { run = run; left = unknown refl same }

-- nor does a command that holds the whole trace
pub whole_left : {words : List (List ℕ)} {i : Drained} {o e : Filled} {status : ℕ} (c : Command) (f : Formula) (old new : Kept)
    → AreFor words (word_of c) f → new ≡ old
    → IsRun words i o e status → HasRun words i o e old new status
whole_left c f old new ask same run = record { run = run; left = asked (whole c f) ask (inr (inl refl, same)) }

-- words that ask for a stream are of some form
pub asks_some : (words : List (List ℕ)) (q : Request) → Asks words q → is_streamed q ≡ true → ¬ AreNone words
asks_some words no_form ask is = absurd (false≢true is)
asks_some words (bad_request line) ask is = absurd (false≢true is)
asks_some words (whole c f) ask is = absurd (false≢true is)
asks_some words (stream s f) ask is = λ none. none (on_formula (word_of_stream s) ask.text) ask.form
asks_some words (sessions f) ask is = λ none. none (on_formula word.mux ask.text) ask.form
asks_some words (generated number rows) ask is = absurd (false≢true is)

-- nor does a stream for which there is no room
pub starved_left : {words : List (List ℕ)} (i : Drained) (o e : Filled) (old new : Kept) (line : List ℕ) → (¬ AreNone words) → line ≡ out_of_memory
    → i.after ≡ i.before → o.after ≡ o.before → IsSaid e.before e.after e.faults e.faults_after line → new ≡ old → HasRun words i o e old new 7
starved_left i o e old new line some is same_in same_out said same = record {
  run = record {
    bytes = [];
    text = [];
    line = out_of_memory;
    moved = subst (λ x. Consumes i.before x []) (sym same_in) (Consumes-nil i.before);
    grew = subst (λ x. Appends o.before x []) (sym same_out) (Appends-nil o.before);
    said = subst (λ l. IsSaid e.before e.after e.faults e.faults_after l) is said;
    ended = run_unknown some refl;
  };
  left = unknown refl same;
}

-- what stops for a reason leaves nothing
pub stopped_left : (words : List (List ℕ)) (q : Request) (bytes : List ℕ) (ending : Result Bool Stop) (kept : Kept) → Asks words q → is_err ending ≡ true
    → IsLeft words bytes (status_of ending) kept kept
stopped_left words q bytes (Ok holds) kept ask e = absurd (false≢true e)
stopped_left words q bytes (Err stop) kept ask e =
    asked q ask (inr (inr (λ s. omega (arith, s, stop_high stop), λ s. omega (arith, s, stop_high stop)), refl))

-- what came to its end leaves what stands for all bytes
pub kept_left : (words : List (List ℕ)) (q : Request) (f : Formula) (bytes : List ℕ) (ending : Result Bool Stop) (old new : Kept) → Asks words q
    → IsStreamedFor q f → is_err ending ≡ false → Holds q bytes new → IsLeft words bytes (status_of ending) old new
kept_left words q f bytes (Ok true) old new ask of e holds = asked q ask (inl ((streams q f of).1, inl refl, holds))
kept_left words q f bytes (Ok false) old new ask of e holds = asked q ask (inl ((streams q f of).1, inr refl, holds))
kept_left words q f bytes (Err stop) old new ask of e holds = absurd (false≢true (sym e))

-- what holds of an answer holds where there is one
pub of_answer : {T E Good : Type 0} (r : Result T E) → is_err r ≡ false → OnOk r Good → Good
of_answer (Ok x) e h = h
of_answer (Err x) e h = absurd (false≢true (sym e))

-- so of a value that is given
pub of_value : {T E : Type 0} (Good : T → Type 0) (r : Result T E) (x : T) → r ≡ Ok x → IfOk r Good → Good x
of_value {T} {E} Good r x e h = subst (λ (k : Result T E). IfOk k Good) e h

-- the reader that has come to its end has what decided
pub early_over : (bytes text : List ℕ) (live : Live Follower) → IsDone (λ s c made. IsDeciding true s c) early live bytes text
    → (x : Follower) × (live.follower ≡ Some x) × IsEarlyOf live.formula bytes x.early
early_over bytes text live (holds, over) = (
  over.follower,
  over.is,
  record {
    tr = over.case.trace;
    trace = over.trace;
    nodes = over.complete.ended.nodes ∙ ap (λ (g : Formula). g.nodes) over.fits.formula;
    header = over.complete.ended.header;
    stands = over.complete.ended.stands;
  },
)

-- and so the network
pub margins_over : (bytes text : List ℕ) (live : Live Measurer) → IsDone (λ s c made. IsMargined true s c made) margins live bytes text
    → (x : Measurer) × (live.follower ≡ Some x) × IsNetOf live.formula bytes x.net
margins_over bytes text live (holds, over) =
    let is : over.case.formula.nodes ≡ nodes_for live.formula over.case.trace = ap (λ (g : Formula). g.nodes) over.fits.formula in (
      over.follower,
      over.is,
      record {
        tr = over.case.trace;
        trace = over.trace;
        given = over.complete.ended.given;
        stands = subst (λ (ns : List Node).
            StandsFor ns over.case.trace.header over.follower.net (record { rows = over.case.trace.rows; ended = true }) over.complete.ended.given) is
            over.complete.ended.stands;
        all = subst (λ (ns : List Node). AreEmittedParts (root ns) over.case.trace.header over.case.trace.rows true (map part_of over.complete.ended.given))
            is over.complete.ended.emitted;
      },
    )

-- a formula that is not served is refused before anything is read
pub unserved_left : {words : List (List ℕ)} {text : List ℕ} {f : Formula} {i : Drained} {o e : Filled} {old new : Kept} {line : List ℕ} (node : ℕ)
    → IsAsked words (on_formula word.rwatch text) → IsFormulaOf text f → IsUnserved word.rwatch f node → line ≡ not_streamed_text node
    → i.after ≡ i.before → o.after ≡ o.before → IsSaid e.before e.after e.faults e.faults_after line → new ≡ old → HasRun words i o e old new 3
unserved_left {words} {text} {f} {i} {o} {e} {line = line} node form is unserved line_is same_in same_out said same =
    let ask : Asks words (bad_request line) = record { command = word.rwatch; text = text; form = form; is = inr (f, node, is, unserved, line_is) } in
    record {
      run = record {
        bytes = [];
        text = [];
        line = line;
        moved = subst (λ x. Consumes i.before x []) (sym same_in) (Consumes-nil i.before);
        grew = subst (λ x. Appends o.before x []) (sym same_out) (Appends-nil o.before);
        said = said;
        ended = run_asked (bad_request line) ask (λ _. refl) (λ _ x. absurd (false≢true x)) (λ x. absurd (false≢true x)) (by_itself bad);
      };
      left = asked (bad_request line) ask (inr (inl refl, same));
    }
