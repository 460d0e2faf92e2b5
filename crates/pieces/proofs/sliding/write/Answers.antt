use Rattle.std.proofs.Common.{◌≡◌, ◌⊎◌, Some, inl, inr, refl, sym, ap, ◌∙◌}
use Rattle.std.proofs.lemmas.Option.{IfSome_then}
use Rattle.std.proofs.lemmas.Result.{on_ok_weaker, on_err_weaker}
use Rattle.rational.specs.Time.{Rational}
use Rattle.rational.specs.Extended.{value_at}
use Rattle.rational.proofs.Order.{le_refl, le_trans}
use Rattle.rational.proofs.PlaceLemmas.{le_of_at_most}
use Rattle.frac128.specs.Value.{value}
use Rattle.frac128.specs.Cuts.{place}
use Rattle.pieces.specs.Chains.{stop}
use Rattle.pieces.specs.Steps.{IsOfStep}
use Rattle.pieces.proofs.JoiningLemmas.{joins_alone, taken_of_nw, whole_first}
use Rattle.pieces.proofs.SlidingLemmas.{cross_more, cross_of_join, written_alone, written_like}
use Rattle.pieces.proofs.sliding.write.Goals as goal

pub write_three-requires-clause-falls : goal.write_three-requires-clause-falls
write_three-requires-clause-falls g c =
    λ t u a k m. c.requires.is.falls t u a k (le_trans m (le_of_at_most (place c.args.until.now) (place c.args.step.now.until) c.requires.most))

pub returns-in-Some-clause-ok : goal.returns-in-Some-clause-ok
returns-in-Some-clause-ok g c =
    on_ok_weaker c.write_three.result (λ w. written_like g.P.Shape c.args.side c.args.out.now c.write_three.new.out c.args.step.now c.args.gap.now
    c.in-Some.other c.args.until.now c.in-Some.is w) c.write_three.ensures.ok

pub returns-in-Some-clause-wide : goal.returns-in-Some-clause-wide
returns-in-Some-clause-wide g c =
    let into : (p : g.row.P.Denot) → (p ≡ c.args.step.now.shape) ⊎ (p ≡ c.in-Some.other) ⊎ (p ≡ c.args.gap.now)
    → IsOfStep c.args.step.now p ⊎ (p ≡ c.args.gap.now) =
    λ p h. elim h [ inl e ↦ inl (inl e) | inr o ↦ elim o [ inl e ↦ inl (inr (c.in-Some.is ∙ ap (λ x. Some x) (sym e))) | inr e ↦ inr e ] ] in
    on_err_weaker c.write_three.result (λ some. IfSome_then c.write_three.new.fault some
    (λ pair x. cross_more g.P.Shape (λ _ p. (p ≡ c.args.step.now.shape) ⊎ (p ≡ c.in-Some.other) ⊎ (p ≡ c.args.gap.now))
    (λ _ p. IsOfStep c.args.step.now p ⊎ (p ≡ c.args.gap.now)) (stop c.args.out.now).at (value c.args.until.now.time) (stop c.args.out.now).at
    (value c.args.until.now.time) pair (le_refl (stop c.args.out.now).at) (le_refl (value c.args.until.now.time)) (λ t p a u h. into p h) x))
    c.write_three.ensures.wide

pub returns-then-alone-clause-ok : goal.returns-then-alone-clause-ok
returns-then-alone-clause-ok g c =
    let side = c.args.side in
    let old = c.args.out.now in
    let p = c.args.step.now.shape in
    let gap = c.args.gap.now in
    let at = λ (t : Rational). taken_of_nw side (value_at (g.P.Shape.function p) t) (value_at (g.P.Shape.function gap) t)
    (c.requires.alone c.if-alone.true p t) in
    on_ok_weaker c.put.result (λ on. written_alone g.P.Shape side old c.put.new.self c.args.step.now gap c.args.until.now c.in-None.is
    (joins_alone g.P.Shape side old c.put.new.self p gap p c.args.until.now (whole_first g.P.Shape side p gap (stop old) (place c.args.until.now)
    (at (stop old).at) (at (place c.args.until.now).at)) on)) c.put.ensures.ok

pub join_falling-requires-clause-falls : goal.join_falling-requires-clause-falls
join_falling-requires-clause-falls g c =
    λ t u a k m. c.requires.is.falls t u a k (le_trans m (le_of_at_most (place c.args.until.now) (place c.args.step.now.until) c.requires.most))

pub returns-else-alone-clause-ok : goal.returns-else-alone-clause-ok
returns-else-alone-clause-ok g c =
    on_ok_weaker c.join_falling.result (λ j. written_alone g.P.Shape c.args.side c.args.out.now c.join_falling.new.self c.args.step.now
    c.args.gap.now c.args.until.now c.in-None.is j) c.join_falling.ensures.ok

pub returns-else-alone-clause-wide : goal.returns-else-alone-clause-wide
returns-else-alone-clause-wide g c =
    on_err_weaker c.join_falling.result (λ some. cross_of_join g.P.Shape (λ _ p. IsOfStep c.args.step.now p ⊎ (p ≡ c.args.gap.now)) (stop c.args.out.now).at
    (value c.args.until.now.time) (stop c.args.out.now).at c.args.step.now.shape c.args.gap.now c.args.until.now.time c.join_falling.new.fault some
    (λ t a u. (inl (inl refl), inr refl)) (le_refl (stop c.args.out.now).at) (le_refl (value c.args.until.now.time))) c.join_falling.ensures.wide
