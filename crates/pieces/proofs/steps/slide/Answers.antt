use Rattle.std.proofs.Common.{◌≡◌, List, [], ◌∷◌, ◌++◌, refl, sym, ◌∙◌, subst}
use Rattle.std.proofs.lemmas.Bool.{false≢true}
use Rattle.rational.specs.Places.{Before}
use Rattle.frac128.specs.Cuts.{place}
use Rattle.pieces.specs.Steps.{steps_end, HasSlid}
use Rattle.pieces.proofs.StepLemmas.{slid_none, slid_on, slope_step, to_end}
use Rattle.pieces.proofs.steps.slide.Goals as goal

-- what was pushed onto equal lists
pushed : {T : Type 0} (new xs ys : List T) (last : T) → new ≡ xs ++ last ∷ [] → xs ≡ ys → new ≡ ys ++ last ∷ []
pushed new xs ys last e h = subst (λ zs. new ≡ zs ++ last ∷ []) h e

pub returns-then-not-precedes : goal.returns-then-not-precedes
returns-then-not-precedes g c =
    slid_none g.P.Shape c.args.side (place c.args.from.now) c.args.steps.now.items c.args.slope.now (place c.args.until.now) c.requires.steps
    (λ b. false≢true (sym c.if-not-precedes.true ∙ c.precedes.ensures.1 (subst (λ s. Before s (place c.args.until.now)) (sym c.end_of-begin.ensures) b)))

pub returns : goal.returns
returns g c =
    let b = place c.args.from.now in
    let later = subst (λ s. Before s (place c.args.until.now)) c.end_of-begin.ensures (c.precedes.ensures.0 c.if-not-precedes.false) in
    subst (λ xs. HasSlid g.P.Shape c.args.side b c.args.steps.now.items c.args.slope.now (place c.args.until.now) xs)
    (sym (pushed _ _ _ _ c.push_back_reserved.ensures.items c.reserve.ensures.items))
    (slid_on g.P.Shape c.args.side b c.args.steps.now.items c.args.slope.now (place c.args.until.now) c.requires.steps _ refl refl refl
    (slope_step g.P.Shape c.args.side b (steps_end b c.args.steps.now.items) c.args.until.now c.args.slope.now
    (to_end g.P.Shape c.args.side b c.args.steps.now.items c.requires.steps) later c.requires.until_within c.requires.falls c.requires.level))
