use Rattle.std.proofs.Common.{◌≡◌, ◌+◌, [], ◌∷◌, ◌++◌, length, get_or, refl, sym, ◌∙◌, ap, subst, arith}
use Rattle.std.specs.Prelude.{slice_range}
use Rattle.std.proofs.lemmas.Option.{slice_get_read}
use Rattle.std.proofs.lemmas.Result.{IfOk-weaker}
use Rattle.rational.proofs.Order.{le_trans}
use Rattle.pl_signal.specs.Cuts.{IsCut}
use Rattle.pl_signal.proofs.Cutting.{BeginsIn, cut_instant, cut_at_knot, cut_after_knot}
use Rattle.pl_signal.proofs.SampleLemmas.{earlier}
use Rattle.pl_signal.proofs.moves.cut.Goals as goal

pub place_of-j-requires : goal.place_of-j-requires
place_of-j-requires g c = record { some = c.requires.signal.some; first = le_trans c.requires.first c.requires.order }

pub returns-in-Equal : goal.returns-in-Equal
returns-in-Equal g c =
    let k = c.index-knots-i.result in
    let begins : BeginsIn g.P.Shape c.args.knots.now c.place_of-i.result k c.args.from.now c.shape_from-point.result =
    record { inside = c.place_of-i.ensures.inside; at_i = c.index-knots-i.is; stands = c.shape_from-point.ensures; later = c.place_of-i.ensures.later } in
    IfOk-weaker c.instant.result _ _
    (λ r e. subst (IsCut g.P.Shape c.args.knots.now c.args.from.now c.args.to.now) (sym e)
    (cut_instant g.P.Shape c.args.knots.now c.args.from.now c.args.to.now c.shape_from-point.result c.requires.signal begins c.in-Equal.ensures
    (le_trans c.requires.order c.requires.last)))
    c.instant.ensures

pub between-requires : goal.between-requires
between-requires g c =
    let k = c.index-knots-i.result in
    let begins : BeginsIn g.P.Shape c.args.knots.now c.place_of-i.result k c.args.from.now c.shape_from-point.result =
    record { inside = c.place_of-i.ensures.inside; at_i = c.index-knots-i.is; stands = c.shape_from-point.ensures; later = c.place_of-i.ensures.later } in
    let n = c.index-knots-j.result in
    let at_j : n ≡ get_or c.args.knots.now c.place_of-j.result n = c.index-knots-j.is in
    let all = cut_at_knot g.P.Shape c.args.knots.now c.place_of-j.result n c.args.to.now c.requires.signal begins
    c.place_of-j.ensures.inside at_j
    (earlier c.cmp.result c.cmp.ensures c.requires.order c.in_default.not-Equal)
    c.in-Equal-cmp.ensures in
    record { after_one = omega arith; order = omega (arith, all.0); before_one = c.place_of-j.ensures.inside; few = c.place_of-j.ensures.few }

pub returns-in-Equal-cmp : goal.returns-in-Equal-cmp
returns-in-Equal-cmp g c =
    let k = c.index-knots-i.result in
    let begins : BeginsIn g.P.Shape c.args.knots.now c.place_of-i.result k c.args.from.now c.shape_from-point.result =
    record { inside = c.place_of-i.ensures.inside; at_i = c.index-knots-i.is; stands = c.shape_from-point.ensures; later = c.place_of-i.ensures.later } in
    let n = c.index-knots-j.result in
    let at_j : n ≡ get_or c.args.knots.now c.place_of-j.result n = c.index-knots-j.is in
    IfOk-weaker c.between.result _ _
    (λ r e. subst (IsCut g.P.Shape c.args.knots.now c.args.from.now c.args.to.now)
    (sym (e ∙ ap (λ l. record { time = c.args.from.now; point = c.shape_from-point.result; after = k.after } ∷ slice_range c.args.knots.now
    (c.place_of-i.result + 1) c.place_of-j.result ++ l ∷ []) c.ending.ensures))
    (cut_at_knot g.P.Shape c.args.knots.now c.place_of-j.result n c.args.to.now c.requires.signal begins
    c.place_of-j.ensures.inside at_j
    (earlier c.cmp.result c.cmp.ensures c.requires.order c.in_default.not-Equal)
    c.in-Equal-cmp.ensures).1)
    c.between.ensures

pub between-requires-2 : goal.between-requires-2
between-requires-2 g c =
    let k = c.index-knots-i.result in
    let begins : BeginsIn g.P.Shape c.args.knots.now c.place_of-i.result k c.args.from.now c.shape_from-point.result =
    record { inside = c.place_of-i.ensures.inside; at_i = c.index-knots-i.is; stands = c.shape_from-point.ensures; later = c.place_of-i.ensures.later } in
    let n = c.index-knots-j.result in
    let at_j : n ≡ get_or c.args.knots.now c.place_of-j.result n = c.index-knots-j.is in
    let all = cut_after_knot g.P.Shape c.args.knots.now c.place_of-j.result n c.args.to.now c.requires.signal begins
    c.place_of-j.ensures.inside at_j
    (earlier c.cmp.result c.cmp.ensures c.requires.order c.in_default.not-Equal)
    (earlier c.cmp-2.result c.cmp-2.ensures
    (c.place_of-j.ensures.not_later n
    (slice_get_read c.args.knots.now (length c.args.knots.now) c.place_of-j.result n refl c.place_of-j.ensures.inside at_j)) c.in_default-cmp.not-Equal)
    c.place_of-j.ensures.later c.requires.last in
    record { after_one = omega arith; order = omega (arith, all.0); before_one = all.1; few = c.place_of-j.ensures.few }

pub returns : goal.returns
returns g c =
    let k = c.index-knots-i.result in
    let begins : BeginsIn g.P.Shape c.args.knots.now c.place_of-i.result k c.args.from.now c.shape_from-point.result =
    record { inside = c.place_of-i.ensures.inside; at_i = c.index-knots-i.is; stands = c.shape_from-point.ensures; later = c.place_of-i.ensures.later } in
    let n = c.index-knots-j.result in
    let at_j : n ≡ get_or c.args.knots.now c.place_of-j.result n = c.index-knots-j.is in
    IfOk-weaker c.between-2.result _ _
    (λ r e. subst (IsCut g.P.Shape c.args.knots.now c.args.from.now c.args.to.now)
    (sym (e ∙ ap (λ l. record { time = c.args.from.now; point = c.shape_from-point.result; after = k.after } ∷ slice_range c.args.knots.now
    (c.place_of-i.result + 1) (c.place_of-j.result + 1) ++ l ∷ []) c.ending-2.ensures))
    (cut_after_knot g.P.Shape c.args.knots.now c.place_of-j.result n c.args.to.now c.requires.signal begins
    c.place_of-j.ensures.inside at_j
    (earlier c.cmp.result c.cmp.ensures c.requires.order c.in_default.not-Equal)
    (earlier c.cmp-2.result c.cmp-2.ensures
    (c.place_of-j.ensures.not_later n
    (slice_get_read c.args.knots.now (length c.args.knots.now) c.place_of-j.result n refl c.place_of-j.ensures.inside at_j)) c.in_default-cmp.not-Equal)
    c.place_of-j.ensures.later c.requires.last).2)
    c.between-2.ensures
