use Rattle.std.proofs.Common.{◌^◌, inl, ◌∙◌, ap, sym, subst}
use Rattle.std.proofs.lemmas.Result.{on_ok_weaker}
use Rattle.rational.specs.Rational.{IsWithin}
use Rattle.rational.specs.Places.{Before}
use Rattle.rational.proofs.Order.{same_sym}
use Rattle.rational.proofs.Mixed.{within_same}
use Rattle.frac128.specs.Value.{value}
use Rattle.frac128.specs.Cuts.{place}
use Rattle.pieces.specs.Building.{GoesOn}
use Rattle.pieces.specs.Chains.{stop}
use Rattle.pieces.proofs.KnotLemmas.{just_later}
use Rattle.pieces.proofs.signals.put_both.Goals as goal

pub put-requires-clause-limited : goal.put-requires-clause-limited
put-requires-clause-limited g c = within_same (2 ^ 34) (same_sym c.requires.begins.0) c.requires.from_within

pub put-requires-clause-later : goal.put-requires-clause-later
put-requires-clause-later g c = subst (λ u. Before (stop c.args.built.now) (place u)) (sym c.just_after-here.ensures)
    (just_later (stop c.args.built.now) (value c.args.knot.now.time) c.requires.begins)

pub put-requires-2-clause-limited : goal.put-requires-2-clause-limited
put-requires-2-clause-limited g c = subst (λ s. IsWithin (2 ^ 34) s.at) (sym (c.in_ok-put.ensures.ok.ends ∙ ap (λ u. place u) c.just_after-here.ensures))
    c.requires.from_within

pub put-requires-2-clause-later : goal.put-requires-2-clause-later
put-requires-2-clause-later g c =
    subst (λ s. Before s (place c.args.until.now)) (sym (c.in_ok-put.ensures.ok.ends ∙ ap (λ u. place u) c.just_after-here.ensures))
    (inl c.requires.order)

pub returns : goal.returns
returns g c = on_ok_weaker c.put-2.result
    (λ on. (
      c.put.new.self,
      subst (λ u. GoesOn g.P.Shape c.args.built.now u c.args.knot.now.point c.put.new.self)
          c.just_after-here.ensures c.in_ok-put.ensures.ok,
      on,
    ))
    c.put-2.ensures.ok
