use Rattle.std.proofs.Common.{false, refl, subst}
use Rattle.command_line.specs.Commands.{on_formula}
use Rattle.command_line.specs.Commands as word
use Rattle.command_line.specs.Words.{IsAsked, command_of, verb_of}
use Rattle.command_line.specs.declared.request.Mode.{Mode}
use Rattle.early_stream.specs.Deciding.{IsDeciding}
use Rattle.workbench.specs.Requests.{stream, sessions, verdicts, early}
use Rattle.verdict_stream.specs.Watching.{WatchesRows}
use Rattle.workbench.proofs.AtRest.{live_begun, live_asked}
use Rattle.workbench.proofs.Calmness.{calm_ending, of_held, of_stream}
use Rattle.workbench.proofs.LeftByRun.{whole_left}
use Rattle.workbench.proofs.ManyLines.{many_begun, many_asked}
use Rattle.workbench.proofs.RunEnds.{known_run, ends_soundly, serves}
use Rattle.workbench.proofs.top.by_mode.Goals as goal

pub finish-requires : goal.finish-requires
finish-requires g c = ends_soundly c.whole-ending.ensures.ending

pub streamed-requires : goal.streamed-requires
streamed-requires g c = live_begun WatchesRows verdicts c.new-live.result c.new-live.ensures.live c.new-live.ensures.limits c.new-live.ensures.empty

pub streamed-requires-in-Early : goal.streamed-requires-in-Early
streamed-requires-in-Early g c =
    live_begun (λ s k made. IsDeciding false s k) early c.new-live-in-Early.result c.new-live-in-Early.ensures.live c.new-live-in-Early.ensures.limits
    c.new-live-in-Early.ensures.empty

pub streamed-requires-in-Mux : goal.streamed-requires-in-Mux
streamed-requires-in-Mux g c = many_begun c.new.result c.new.ensures.rest

pub returns-in-Watch-clause-ran : goal.returns-in-Watch-clause-ran
returns-in-Watch-clause-ran g c = λ words text form is.
    c.streamed.ensures.ran words (stream verdicts c.args.formula) (record {
      text = text;
      form = subst (λ (m : Mode). IsAsked words (on_formula (verb_of m) text)) c.in-Watch.is form;
      is = is;
      served = λ i h. h;
    }) refl (live_asked verdicts c.args.formula c.new-live.result c.new-live.ensures.formula)

pub returns-in-Watch-clause-untouched : goal.returns-in-Watch-clause-untouched
returns-in-Watch-clause-untouched g c = λ words text form none.
    of_stream none word.watch text (subst (λ (m : Mode). IsAsked words (on_formula (verb_of m) text)) c.in-Watch.is form) refl
    c.streamed.ensures.known c.streamed.ensures.unkept

pub returns-in-Watch-clause-calm : goal.returns-in-Watch-clause-calm
returns-in-Watch-clause-calm g c = c.streamed.ensures.calm

pub returns-in-Early-clause-ran : goal.returns-in-Early-clause-ran
returns-in-Early-clause-ran g c = λ words text form is.
    c.streamed-in-Early.ensures.ran words (stream early c.args.formula) (record {
      text = text;
      form = subst (λ (m : Mode). IsAsked words (on_formula (verb_of m) text)) c.in-Early.is form;
      is = is;
      served = λ i h. h;
    }) refl (live_asked early c.args.formula c.new-live-in-Early.result c.new-live-in-Early.ensures.formula)

pub returns-in-Early-clause-untouched : goal.returns-in-Early-clause-untouched
returns-in-Early-clause-untouched g c = λ words text form none.
    of_stream none word.early text (subst (λ (m : Mode). IsAsked words (on_formula (verb_of m) text)) c.in-Early.is form) refl
    c.streamed-in-Early.ensures.known c.streamed-in-Early.ensures.unkept

pub returns-in-Early-clause-calm : goal.returns-in-Early-clause-calm
returns-in-Early-clause-calm g c = c.streamed-in-Early.ensures.calm

pub returns-in-Mux-clause-ran : goal.returns-in-Mux-clause-ran
returns-in-Mux-clause-ran g c = λ words text form is.
    c.streamed-in-Mux.ensures.ran words (sessions c.args.formula) (record {
      text = text;
      form = subst (λ (m : Mode). IsAsked words (on_formula (verb_of m) text)) c.in-Mux.is form;
      is = is;
      served = λ i h. h;
    }) refl (many_asked c.args.formula c.new.result c.new.ensures.formula)

pub returns-in-Mux-clause-untouched : goal.returns-in-Mux-clause-untouched
returns-in-Mux-clause-untouched g c = λ words text form none.
    of_stream none word.mux text (subst (λ (m : Mode). IsAsked words (on_formula (verb_of m) text)) c.in-Mux.is form) refl
    c.streamed-in-Mux.ensures.known c.streamed-in-Mux.ensures.unkept

pub returns-in-Mux-clause-calm : goal.returns-in-Mux-clause-calm
returns-in-Mux-clause-calm g c = c.streamed-in-Mux.ensures.calm

pub returns-in-Margins-clause-ran : goal.returns-in-Margins-clause-ran
returns-in-Margins-clause-ran g c = λ words text form is.
    c.margins_of_rows.ensures.ran words text (subst (λ (m : Mode). IsAsked words (on_formula (verb_of m) text)) c.in-Margins.is form) is

pub returns-in-Margins-clause-untouched : goal.returns-in-Margins-clause-untouched
returns-in-Margins-clause-untouched g c = λ words text form none.
    c.margins_of_rows.ensures.untouched words text (subst (λ (m : Mode). IsAsked words (on_formula (verb_of m) text)) c.in-Margins.is form) none

pub returns-in-Margins-clause-calm : goal.returns-in-Margins-clause-calm
returns-in-Margins-clause-calm g c = c.margins_of_rows.ensures.calm

pub returns-in-Whole-clause-ran : goal.returns-in-Whole-clause-ran
returns-in-Whole-clause-ran g c = λ words text asked is.
    let reason = c.finish.ensures.said in
    let command = command_of c.in-Whole.command in
    let f = c.args.formula in
    let form = subst (λ (m : Mode). IsAsked words (on_formula (verb_of m) text)) c.in-Whole.is asked in
    whole_left command f _ _ (record { text = text; form = form; is = is; served = serves command f }) refl
    (known_run words command f _ _ _ (record { text = text; form = form; is = is; served = serves command f })
    c.whole-ending.result c.finish.result reason.0 c.finish.ensures.status c.whole-ending.ensures.ending c.whole-ending.ensures.read
    c.whole-ending.ensures.write
    c.whole-ending.ensures.ends reason.1 reason.2)

pub returns-in-Whole-clause-untouched : goal.returns-in-Whole-clause-untouched
returns-in-Whole-clause-untouched g c = λ words text form none.
    of_held none c.whole-ending.result c.finish.ensures.status c.whole-ending.ensures.nothing refl

pub returns-in-Whole-clause-calm : goal.returns-in-Whole-clause-calm
returns-in-Whole-clause-calm g c =
    calm_ending c.whole-ending.result c.finish.ensures.status c.whole-ending.ensures.read_due c.whole-ending.ensures.write_due
    c.finish.ensures.quiet c.whole-ending.ensures.input_later c.whole-ending.ensures.out_later c.finish.ensures.later
