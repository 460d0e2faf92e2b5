use Rattle.std.proofs.Common.{sym, ap, ◌∙◌}
use Rattle.session_mux.specs.Owning.{asks, stops, stopped_now, next_line, with_content}
use Rattle.session_mux.specs.Standing.{IsGrowth, IsReply}
use Rattle.session_mux.proofs.SessionLemmas.{either_way, replied_as, cut_as, reply_of, growth_of, is_shown, content_stops, content_goes_on}
use Rattle.session_mux.proofs.RunInputs.{without_feed}
use Rattle.session_mux.proofs.session.Session.line.Goals as goal

pub returns-then-asks-clause-replied : goal.returns-then-asks-clause-replied
returns-then-asks-clause-replied c = λ f o said content h e.
    let s = c.args.self.now in
    let asked = ap asks (sym (without_feed c.args.line.now content e)) ∙ (sym c.asks.ensures ∙ c.if-asks.true) in
    is_shown f o said s h content asked c.show.result c.args.out.now c.show.new.out c.show.ensures.ok c.show.ensures.err

pub returns-then-stops-clause-replied : goal.returns-then-stops-clause-replied
returns-then-stops-clause-replied c = λ f o said content h e.
    let s = c.args.self.now in
    let is = sym (without_feed c.args.line.now content e) in
    let no_question = ap asks is ∙ (sym c.asks.ensures ∙ c.if-asks.false) in
    let then_is = content_stops o.bytes o.stopped content no_question (ap stops is ∙ (sym c.stops.ensures ∙ c.if-stops.true)) in
    either_way c.end.result
    (replied_as f (stopped_now o) (with_content o content) s c.end.new.self (IsGrowth f s.tag o (stopped_now o))
    (IsReply f s.tag o content) c.args.out.now c.end.new.out (sym then_is)
    (reply_of f s.tag o (stopped_now o) content no_question then_is))
    (cut_as (IsGrowth f s.tag o (stopped_now o)) (IsReply f s.tag o content) c.args.out.now c.end.new.out
    (growth_of f s.tag o (stopped_now o) content no_question then_is))
    (c.end.ensures.replied f o said h)

pub returns-clause-replied : goal.returns-clause-replied
returns-clause-replied c = λ f o said content h e.
    let s = c.args.self.now in
    let is = sym (without_feed c.args.line.now content e) in
    let no_question = ap asks is ∙ (sym c.asks.ensures ∙ c.if-asks.false) in
    let then_is = content_goes_on o content no_question (ap stops is ∙ (sym c.stops.ensures ∙ c.if-stops.false)) in
    either_way c.take.result
    (replied_as f (next_line o content) (with_content o content) s c.take.new.self (IsGrowth f s.tag o (next_line o content))
    (IsReply f s.tag o content) c.args.out.now c.take.new.out (sym then_is)
    (reply_of f s.tag o (next_line o content) content no_question then_is))
    (cut_as (IsGrowth f s.tag o (next_line o content)) (IsReply f s.tag o content) c.args.out.now c.take.new.out
    (growth_of f s.tag o (next_line o content) content no_question then_is))
    (c.take.ensures.replied f o said content h e)
