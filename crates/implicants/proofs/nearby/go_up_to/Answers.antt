use Rattle.std.proofs.Common.{inl, inr, refl, sym, subst, ◌∙◌}
use Rattle.std.proofs.lemmas.Bool.{false≢true}
use Rattle.std.proofs.lemmas.Result.{on_ok_weaker}
use Rattle.rational.specs.Places.{Before}
use Rattle.frac128.specs.Cuts.{place}
use Rattle.implicants.proofs.nearby.go_up_to.Goals as goal

pub put-requires-clause-later : goal.put-requires-clause-later
put-requires-clause-later c = subst (λ x. Before x (place c.args.until.now)) c.until.ensures.value (c.precedes.ensures.0 c.if-precedes.true)

pub returns-then-precedes : goal.returns-then-precedes
returns-then-precedes c = on_ok_weaker c.put.result (λ on. inr on) c.put.ensures.ok

pub returns : goal.returns
returns c = inl (
  λ b. false≢true (sym c.if-precedes.false ∙ c.precedes.ensures.1 (subst (λ x. Before x (place c.args.until.now)) (sym c.until.ensures.value) b)),
  refl,
)
