use Rattle.std.proofs.Common.{false, refl, arith}
use Rattle.command_line.specs.Commands as word
use Rattle.trace_stream.specs.Streams.{margins}
use Rattle.margin_stream.specs.Margining.{IsMargined}
use Rattle.workbench.specs.Requests.{stream}
use Rattle.workbench.proofs.AtRest.{live_begun, live_asked}
use Rattle.workbench.proofs.Calmness.{of_stream}
use Rattle.workbench.proofs.LeftByRun.{unserved_left}
use Rattle.workbench.proofs.top.margins_of_rows.Goals as goal

pub returns-in-Some-clause-ran : goal.returns-in-Some-clause-ran
returns-in-Some-clause-ran g c = λ words text form is.
    unserved_left c.in-Some.node form is c.in-Some.ensures c.not_streamed_line.ensures refl refl c.say.ensures.said refl

pub new-live-requires-clause-streamed : goal.new-live-requires-clause-streamed
new-live-requires-clause-streamed g c = c.in_default.ensures

pub streamed-requires : goal.streamed-requires
streamed-requires g c =
    live_begun (λ s k made. IsMargined false s k made) margins c.new-live.result c.new-live.ensures.live c.new-live.ensures.limits c.new-live.ensures.empty

pub returns-clause-ran : goal.returns-clause-ran
returns-clause-ran g c = λ words text form is.
    c.streamed.ensures.ran words (stream margins c.args.formula)
    (record { text = text; form = form; is = is; served = λ i first. c.in_default.ensures i first.node first.at first.is }) refl
    (live_asked margins c.args.formula c.new-live.result c.new-live.ensures.formula)

pub returns-in-Some-clause-untouched : goal.returns-in-Some-clause-untouched
returns-in-Some-clause-untouched g c = λ words text form none. record { unread = λ _. refl; nothing = λ _ _ _. refl; unkept = λ _. refl }

pub returns-in-Some-clause-calm : goal.returns-in-Some-clause-calm
returns-in-Some-clause-calm g c = record {
  read_due = λ _. refl;
  write_due = λ _. refl;
  quiet = λ s. absurd (omega (arith, s));
  input_later = omega arith;
  out_later = omega arith;
  err_later = c.say.ensures.later;
}

pub returns-clause-untouched : goal.returns-clause-untouched
returns-clause-untouched g c = λ words text form none. of_stream none word.rwatch text form refl c.streamed.ensures.known c.streamed.ensures.unkept

pub returns-clause-calm : goal.returns-clause-calm
returns-clause-calm g c = c.streamed.ensures.calm
