use Rattle.std.proofs.Common.{rules, ◌≡◌, ◌≤◌, drop, length, ap, ◌∙◌, arith, refl, subst, sym}
use Rattle.std.specs.Prelude.{IsNone}
use Rattle.std.proofs.lemmas.List.{length-drop}
use Rattle.window_extrema.specs.Range.{IsGreatestOf}
use Rattle.pieces.proofs.ConstantLemmas.{asked_dropped, settled_best, settled_none}
use Rattle.pieces.proofs.constants.settle.Goals as goal

pub returns-in-Some-clause-settled : goal.returns-in-Some-clause-settled
returns-in-Some-clause-settled g c side asked =
    let ls = c.args.steps.now.items in
    let hi : c.len.result ≡ length ls = search rules in
    settled_best g.P.Shape side ls c.args.range.now asked c.requires.constant c.args.from c.let_go.new.steps.items c.in-Some.best
    (subst (λ n. IsGreatestOf g.P.Shape.function c.args.range.now.items c.args.from n c.in-Some.best) hi c.in-Some.ensures.place) c.let_go.ensures.steps

pub returns-in-Some-clause-asked : goal.returns-in-Some-clause-asked
returns-in-Some-clause-asked g c side asked =
    let ls = c.args.steps.now.items in
    let best = c.in-Some.best in
    let hi : c.len.result ≡ length ls = search rules in
    let low : c.let_go.new.range.low ≡ 0 =
    let m = c.let_go.ensures.low in let n = c.ask.ensures.low in let o = c.in-Some.ensures.place.from in omega (arith, m, n, o) in
    let high : c.let_go.new.range.high ≤ length c.let_go.new.steps.items =
    let m = c.let_go.ensures.high in let n = c.ask.ensures.high in let o = ap length c.let_go.ensures.steps ∙ length-drop best ls in
    omega (arith, m, n, o, hi) in
    asked_dropped g.P.Shape side ls c.let_go.new.steps.items c.args.range.now c.let_go.new.range best asked c.let_go.ensures.steps
    (c.let_go.ensures.items ∙ ap (λ xs. drop best xs) c.ask.ensures.items) low high

pub returns-in-None-clause-settled : goal.returns-in-None-clause-settled
returns-in-None-clause-settled g c side asked =
    let ls = c.args.steps.now.items in
    let hi : c.len.result ≡ length ls = search rules in
    settled_none g.P.Shape side ls c.args.range.now asked c.requires.constant c.args.from c.let_go-in-None.new.steps.items
    (c.ask.ensures.none.0 (subst (λ o. IsNone o) (sym c.in-None.is) refl) ∙ hi) c.let_go-in-None.ensures.steps
