use Rattle.std.proofs.Common.{◌≡◌, not, subst, sym, ap, ◌∙◌, List, [], ◌∷◌, ◌++◌}
use Rattle.std.specs.Prelude.{Result, Ok, Err, OnOk}
use Rattle.time_sets.specs.Turns.{place}
use Rattle.time_sets.specs.Sets.{turned, Rise, BeginAfter, EndBefore}
use Rattle.time_sets.specs.declared.turn.Turn.{Turn}
use Rattle.time_sets.proofs.SetLemmas.{turned_last, rise_last, end_last, begin_last, end_later}
use Rattle.time_sets.proofs.MakingLemmas.{at_upto, at_after}
use Rattle.std.proofs.lemmas.Result.{on_ok_weaker}
use Rattle.time_sets.proofs.times.Times.turn.Goals as goal

pub returns-clause-before : goal.returns-clause-before
returns-clause-before c = on_ok_weaker c.push.result (λ items t u. ap (λ xs. turned c.push.new.self.starts xs t) items
    ∙ ap (λ b. turned b (c.args.self.now.turns.items ++ c.args.at ∷ []) t) c.push.ensures.starts
    ∙ turned_last c.args.self.now.starts c.args.self.now.turns.items c.args.at t c.requires.last ∙ at_upto c.args.at t _ u) c.push.ensures.items

pub returns-clause-behind : goal.returns-clause-behind
returns-clause-behind c = on_ok_weaker c.push.result (λ items t a. ap (λ xs. turned c.push.new.self.starts xs t) items
    ∙ ap (λ b. turned b (c.args.self.now.turns.items ++ c.args.at ∷ []) t) c.push.ensures.starts
    ∙ turned_last c.args.self.now.starts c.args.self.now.turns.items c.args.at t c.requires.last ∙ at_after c.args.at t _ a) c.push.ensures.items

pub returns-clause-rise : goal.returns-clause-rise
returns-clause-rise c = on_ok_weaker c.push.result
    (λ items. subst Rise (sym items) (rise_last c.args.self.now.turns.items c.args.at c.requires.rise c.requires.last)) c.push.ensures.items

pub returns-clause-last : goal.returns-clause-last
returns-clause-last c = on_ok_weaker c.push.result (λ items d b. subst (EndBefore d) (sym items)
    (end_last d c.args.self.now.turns.items c.args.at (end_later (place c.args.at) d c.args.self.now.turns.items c.requires.last b) b)) c.push.ensures.items

pub returns-clause-of : goal.returns-clause-of
returns-clause-of c = on_ok_weaker c.push.result (λ items on o b e. record {
  rise = subst Rise (sym items) (rise_last c.args.self.now.turns.items c.args.at c.requires.rise c.requires.last);
  begins = subst (BeginAfter (place on.from)) (sym items) (begin_last (place on.from) c.args.self.now.turns.items c.args.at o.begins b);
  ends = subst (EndBefore (place on.to)) (sym items) (end_last (place on.to) c.args.self.now.turns.items c.args.at o.ends e);
}) c.push.ensures.items
