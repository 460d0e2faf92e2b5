use Rattle.std.proofs.Common.{sym, subst, inl, refl, Option, ◌++◌}
use Rattle.trace_stream.specs.declared.live.Live.{Live}
use Rattle.verdict_stream.specs.declared.verdicts.Verdicts.{Verdicts}
use Rattle.session_mux.specs.Owning.{stopped_now}
use Rattle.session_mux.specs.Standing.{GoesOnWith}
use Rattle.session_mux.proofs.SessionLemmas.{says_nothing, over_at_end, grew_under}
use Rattle.session_mux.proofs.session.Session.end.Goals as goal

pub returns-in-None-clause-replied : goal.returns-in-None-clause-replied
returns-in-None-clause-replied c = λ f o said h.
    says_nothing f o (stopped_now o) said c.args.out.now c.args.self.now h
    (over_at_end f o said h.alone (subst (λ (s : Option (Live Verdicts)). GoesOnWith f o said s) c.in-None.is h.goes_on))
    (subst (λ (s : Option (Live Verdicts)). GoesOnWith f (stopped_now o) said s) (sym c.in-None.is) (inl refl))

pub returns-clause-replied : goal.returns-clause-replied
returns-clause-replied c = λ f o said h.
    let on = subst (λ (s : Option (Live Verdicts)). GoesOnWith f o said s) c.in-Some.is h.goes_on in
    let g = c.in_ok-end_with-in-Some.ensures f o said h.alone h.recent on.1 in
    grew_under o c.args.self.now _ refl refl h.alone g
    (subst (λ (s : Option (Live Verdicts)). GoesOnWith f (stopped_now o) (said ++ g.grown) s) (sym c.let_go.ensures) (inl refl))
