use Rattle.std.proofs.Common.{sym, subst, ◌∙◌, refl}
use Rattle.session_mux.specs.Muxes.{Muxed, StandsFor, HasTags}
use Rattle.session_mux.proofs.mux.Mux.end.Goals as goal

pub returns-in-Ok-clause-ended : goal.returns-in-Ok-clause-ended
returns-in-Ok-clause-ended c = λ p stands.
    let s = subst (λ (m : Muxed). StandsFor p m) (sym c.self.view_is) stands in
    let e = c.in-Ok.ensures.ended p.formula p.seen s.knows in
    (e.0, record { phase = refl; knows = e.1 })

pub returns-in-Ok-clause-tags : goal.returns-in-Ok-clause-tags
returns-in-Ok-clause-tags c = λ p tags. c.in-Ok.ensures.tags ∙ subst (λ (m : Muxed). HasTags p m) (sym c.self.view_is) tags

pub returns-in-Err-clause-tags : goal.returns-in-Err-clause-tags
returns-in-Err-clause-tags c = λ p tags. c.in-Err.ensures.tags ∙ subst (λ (m : Muxed). HasTags p m) (sym c.self.view_is) tags
