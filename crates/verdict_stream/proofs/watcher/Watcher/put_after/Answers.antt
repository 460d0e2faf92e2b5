use Rattle.std.proofs.Common.{◌-◌, [], ◌++◌, refl, sym, ap, ◌∙◌, subst, append-nil}
use Rattle.rational.specs.Places.{begins, ends, Same}
use Rattle.frac128.specs.Spans.{interval}
use Rattle.stl_syntax.specs.Texts.{IsVerdictLine}
use Rattle.stl_syntax.specs.declared.items.Verdict.{Verdict}
use Rattle.stl_syntax.specs.declared.scale.Scale.{Scale}
use Rattle.verdict_stream.specs.Pendings.{just_after}
use Rattle.verdict_stream.proofs.watcher.Watcher.put_after.Goals as goal

pub returns-clause-line : goal.returns-clause-line
returns-clause-line c =
    let (line, is, joined) = c.in_ok-put.ensures.ok in
    let v : Verdict = record { on = c.span_after-on.result; holds = c.args.holds } in
    let at : IsVerdictLine c.scale-scale.result v line = is in (
      line,
      (
        v,
        subst (λ n. Same (just_after (n - c.args.self.now.horizon)) (begins (interval c.span_after-on.result))) c.from.ensures c.span_after-on.ensures.begin,
        subst (λ n. Same (ends (interval c.span_after-on.result)) (just_after (n - c.args.self.now.horizon))) c.from-2.ensures c.span_after-on.ensures.end,
        refl,
        (line, [], subst (λ (s : Scale). IsVerdictLine s v line) c.scale-scale.ensures.scale at, refl, sym (append-nil line)),
      ),
      c.in_ok-hand_over.ensures.text ∙ joined ∙ ap (λ t. (c.args.text.now ++ t) ++ line) c.requires.none ∙ ap (λ t. t ++ line) (append-nil c.args.text.now),
    )
