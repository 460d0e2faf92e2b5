use Rattle.std.proofs.Common.{length, refl, sym, ◌∙◌, arith}
use Rattle.std.proofs.lemmas.Option.{slice_get_read}
use Rattle.std.proofs.lemmas.Result.{IfOk-weaker, IfErr-weaker}
use Rattle.stl_syntax.specs.Limits.{own_reach}
use Rattle.offline_eval.specs.Making.{make_one, make_two}
use Rattle.offline_eval.proofs.NodeLemmas.{HasOne, HasTwo, fit_of, are_fit, one_operand, two_operands}
use Rattle.offline_eval.proofs.NodeLemmas.{one_sound, two_sound, one_told, two_told, one_fault, two_fault}
use Rattle.offline_eval.specs.Forms.{of_pieces}
use Rattle.offline_eval.proofs.nodes.of_operands.Goals as goal

pub of_two-requires : goal.of_two-requires
of_two-requires g c =
    let done = c.args.done.now in
    let known = two_operands c.args.node.now c.in-Some-Some.p c.in-Some-Some.q
    (sym c.inputs.ensures.first ∙ c.in-Some-Some.is-0) (sym c.inputs.ensures.second ∙ c.in-Some-Some.is-1) in
    let below = known.below (length done) c.requires.children in
    let at_p = slice_get_read done _ c.in-Some-Some.p c.index-done-p.result refl below.0 c.index-done-p.is in
    let at_q = slice_get_read done _ c.in-Some-Some.q c.index-done-q.result refl below.1 c.index-done-q.is in
    record {
      two = known.two;
      bounds = c.requires.bounds;
      fit = are_fit (of_pieces g.P.Shape) c.args.from c.args.to c.index-done-p.result c.index-done-q.result (omega arith)
          (c.requires.sound c.in-Some-Some.p c.index-done-p.result at_p) (c.requires.sound c.in-Some-Some.q c.index-done-q.result at_q);
    }

pub returns-in-Some-Some : goal.returns-in-Some-Some
returns-in-Some-Some g c =
    let done = c.args.done.now in
    let n = c.args.node.now in
    let form = of_pieces g.P.Shape in
    let known = two_operands n c.in-Some-Some.p c.in-Some-Some.q
    (sym c.inputs.ensures.first ∙ c.in-Some-Some.is-0) (sym c.inputs.ensures.second ∙ c.in-Some-Some.is-1) in
    let below = known.below (length done) c.requires.children in
    let at_p = slice_get_read done _ c.in-Some-Some.p c.index-done-p.result refl below.0 c.index-done-p.is in
    let at_q = slice_get_read done _ c.in-Some-Some.q c.index-done-q.result refl below.1 c.index-done-q.is in
    let has : HasTwo n c.in-Some-Some.p c.in-Some-Some.q done c.index-done-p.result c.index-done-q.result (make_two n) =
    record { at_p = at_p; at_q = at_q; is = known.is } in
    record {
      sound = IfOk-weaker c.of_two.result _ _ (λ r h. two_sound form c.args.from c.args.to (own_reach n) r has refl h) c.of_two.ensures.sound;
      told = IfOk-weaker c.of_two.result _ _ (λ r h. two_told form c.args.from c.args.to r has h) c.of_two.ensures.told;
      wide = IfErr-weaker c.of_two.result _ _ (λ e h. two_fault form c.args.from c.args.to e has h) c.of_two.ensures.wide;
    }

pub of_one-requires : goal.of_one-requires
of_one-requires g c =
    let x = c.index-done-p-in-Some-None.result in
    let known = one_operand c.args.node.now c.in-Some-None.p
    (sym c.inputs.ensures.first ∙ c.in-Some-None.is-0) (sym c.inputs.ensures.second ∙ c.in-Some-None.is-1) in
    let at_p = slice_get_read c.args.done.now _ c.in-Some-None.p x refl (known.below (length c.args.done.now) c.requires.children)
    c.index-done-p-in-Some-None.is in
    record {
      one = known.one;
      bounds = c.requires.bounds;
      fit = fit_of (of_pieces g.P.Shape) c.args.from c.args.to x (omega arith) (c.requires.sound c.in-Some-None.p x at_p);
    }

pub returns-in-Some-None : goal.returns-in-Some-None
returns-in-Some-None g c =
    let x = c.index-done-p-in-Some-None.result in
    let done = c.args.done.now in
    let n = c.args.node.now in
    let form = of_pieces g.P.Shape in
    let known = one_operand n c.in-Some-None.p
    (sym c.inputs.ensures.first ∙ c.in-Some-None.is-0) (sym c.inputs.ensures.second ∙ c.in-Some-None.is-1) in
    let at_p = slice_get_read done _ c.in-Some-None.p x refl (known.below (length done) c.requires.children) c.index-done-p-in-Some-None.is in
    let has : HasOne n c.in-Some-None.p done x (make_one n) = record { at_p = at_p; is = known.is } in
    record {
      sound = IfOk-weaker c.of_one.result _ _ (λ r h. one_sound form c.args.from c.args.to n c.in-Some-None.p (own_reach n) done x r at_p refl h)
          c.of_one.ensures.sound;
      told = IfOk-weaker c.of_one.result _ _ (λ r h. one_told form c.args.from c.args.to r has h) c.of_one.ensures.told;
      wide = IfErr-weaker c.of_one.result _ _ (λ e h. one_fault form c.args.from c.args.to e has h) c.of_one.ensures.wide;
    }
