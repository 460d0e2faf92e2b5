use Rattle.std.proofs.Common.{true, inl, sym, subst, ◌∙◌}
use Rattle.rational.specs.Time.{Rational}
use Rattle.growing_sets.specs.Spans.{Lies, IsOn}
use Rattle.early_verdict.proofs.SetsTell.{tells_as}
use Rattle.early_verdict.proofs.LookLemmas.{only_step}
use Rattle.early_verdict.proofs.RunSets.{broken_is, until_failed}
use Rattle.early_verdict.proofs.runs.until_fails.Goals as goal

pub returns-clause-fits : goal.returns-clause-fits
returns-clause-fits c = λ old tr p q a b is is_up h hp hq same_fail same_stop was.
    let e = c.args.entry.now in
    let x = c.args.own.now in
    let up_to = c.args.up_to.now in
    let from = λ (t : Rational) (l : Lies x.stop.bounds t). hp.no.from t (subst (λ s. Lies s t) same_stop l) in
    let had = until_failed e tr p q a old h b up_to is_up x hp.no.first hq.no.first from was in
    let fail = c.in_ok-either.ensures.tells p.no q.no hp.no.gains hq.no.gains had.fail in
    let inside = λ (t : Rational) (o : IsOn c.args.p.now.no.spans.items t).
    fail.has t (subst (λ s. Lies s t) (sym (c.in_ok-either.ensures.bounds ∙ same_fail)) (hp.no.within t o)) (inl o) in
    let stop = c.in_ok-reach.ensures.tells x.fail.spans.items p.no c.in_ok-either.ensures.gains hp.no.gains inside hp.no.within had.stop in
    record {
      fail = fail;
      stop = stop;
      never = only_step e tr old h e.ended c.args.w.now a b true true is q.no c.args.q.now.no.spans.items x.never c.each_ahead.new.own had.never
          (c.in_ok-each_ahead.ensures.tells old tr q.no h hq.no.gains hq.no.first);
      broken = tells_as
          (broken_is up_to a is_up tr c.reach.new.self.spans.items (λ v o. from v (subst (λ s. Lies s v) c.in_ok-reach.ensures.bounds (stop.only v o).0)))
          (c.in_ok-some.ensures.tells x.stop.spans.items c.in_ok-reach.ensures.gains had.broken);
    }

pub either-requires : goal.either-requires
either-requires c = c.requires.own.tidy.fail

pub reach-requires : goal.reach-requires
reach-requires c = record { own = c.requires.own.tidy.stop; runs = c.in_ok-either.ensures.tidy; input = c.requires.left.no }

pub each_ahead-requires : goal.each_ahead-requires
each_ahead-requires c = record {
  own = record { tidy = c.requires.own.tidy.never; entry = c.requires.own.entry; none = λ f. (c.requires.own.none f).never };
  input = c.requires.right.no;
}

pub some-requires : goal.some-requires
some-requires c = c.requires.own.tidy.broken
