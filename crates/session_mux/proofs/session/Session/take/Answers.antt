use Rattle.std.proofs.Common.{sym, subst, refl, Option, Bool, ◌++◌}
use Rattle.trace_stream.specs.declared.live.Live.{Live}
use Rattle.verdict_stream.specs.declared.verdicts.Verdicts.{Verdicts}
use Rattle.session_mux.specs.Owning.{next_line}
use Rattle.session_mux.specs.Standing.{GoesOnWith, IsAfterLine, HasGrown}
use Rattle.session_mux.proofs.SessionLemmas.{says_nothing, over_at_line, grew_under, took_line, took_last_line}
use Rattle.session_mux.proofs.session.Session.take.Goals as goal

pub returns-in-None-clause-replied : goal.returns-in-None-clause-replied
returns-in-None-clause-replied c = λ f o said content h e.
    let over = over_at_line f o said h.alone (subst (λ (s : Option (Live Verdicts)). GoesOnWith f o said s) c.in-None.is h.goes_on) content in
    says_nothing f o (next_line o content) said c.args.out.now c.args.self.now h over.0
    (subst (λ (s : Option (Live Verdicts)). GoesOnWith f (next_line o content) said s) (sym c.in-None.is) over.1)

pub returns-then-not-goes_on-clause-replied : goal.returns-then-not-goes_on-clause-replied
returns-then-not-goes_on-clause-replied c = λ f o said content h e.
    let on = subst (λ (s : Option (Live Verdicts)). GoesOnWith f o said s) c.in-Some.is h.goes_on in
    let g = subst (λ (b : Bool). HasGrown f c.args.self.now.tag (next_line o content) said c.take_with.new.recent c.args.out.now
    c.take_with.new.out (IsAfterLine f (next_line o content).bytes b c.take_with.new.live))
    c.if-not-goes_on.true (c.in_ok-goes_on-in-Some.ensures f o said content h.alone h.recent on.0 on.1 e) in
    grew_under o c.args.self.now _ refl refl h.alone g
    (subst (λ (s : Option (Live Verdicts)). GoesOnWith f (next_line o content) (said ++ g.grown) s) (sym c.let_go.ensures)
    (took_last_line f o content c.take_with.new.live (said ++ g.grown) g.then))

pub returns-else-not-goes_on-clause-replied : goal.returns-else-not-goes_on-clause-replied
returns-else-not-goes_on-clause-replied c = λ f o said content h e.
    let on = subst (λ (s : Option (Live Verdicts)). GoesOnWith f o said s) c.in-Some.is h.goes_on in
    let g = subst (λ (b : Bool). HasGrown f c.args.self.now.tag (next_line o content) said c.take_with.new.recent c.args.out.now
    c.take_with.new.out (IsAfterLine f (next_line o content).bytes b c.take_with.new.live))
    c.if-not-goes_on.false (c.in_ok-goes_on-in-Some.ensures f o said content h.alone h.recent on.0 on.1 e) in
    grew_under o c.args.self.now _ refl refl h.alone g
    (took_line f o content said c.take_with.new.live on.0 (said ++ g.grown) g.then)
