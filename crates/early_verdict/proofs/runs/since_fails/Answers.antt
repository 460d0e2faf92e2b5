use Rattle.std.proofs.Common.{true, Some, inl, sym, subst, ◌∙◌}
use Rattle.rational.specs.Time.{Rational}
use Rattle.growing_sets.specs.Spans.{Lies, IsOn}
use Rattle.early_verdict.proofs.LookLemmas.{one_step, back_step}
use Rattle.early_verdict.proofs.RunSets.{since_failed}
use Rattle.early_verdict.proofs.runs.since_fails.Goals as goal

pub returns-clause-fits : goal.returns-clause-fits
returns-clause-fits c = λ old tr p q a b is is_down h hp hq same_fail same_stop was.
    let e = c.args.entry.now in
    let x = c.args.own.now in
    let had = since_failed e tr p q a old b x hp.no.first hq.no.first was in
    let fail = c.in_ok-either.ensures.tells p.no q.no hp.no.gains hq.no.gains had.fail in
    let inside = λ (t : Rational) (o : IsOn c.args.p.now.no.spans.items t).
    fail.has t (subst (λ s. Lies s t) (sym (c.in_ok-either.ensures.bounds ∙ same_fail)) (hp.no.within t o)) (inl o) in
    let stop = c.in_ok-reach_back.ensures.tells x.fail.spans.items p.no c.in_ok-either.ensures.gains hp.no.gains inside had.stop in
    record {
      fail = fail;
      stop = stop;
      never = back_step e tr old h c.args.w.now a b true true is q.no c.args.q.now.no.spans.items x.never c.each_open.new.own had.never
          (c.in_ok-each_open.ensures.tells old tr q.no h hq.no.gains hq.no.first);
      broken = one_step e tr old h c.args.down_to.now 0 (Some a) true true is_down x.stop.spans.items c.reach_back.new.self x.broken c.some.new.self
          (record {
            gains = c.in_ok-reach_back.ensures.gains;
            first = had.no_stop;
            within = λ u o. (stop.only u o).0;
            from = λ u l. hp.no.from u (subst (λ s. Lies s u) (c.in_ok-reach_back.ensures.bounds ∙ same_stop) l);
          }) had.broken (c.in_ok-some.ensures.tells x.stop.spans.items c.in_ok-reach_back.ensures.gains);
    }

pub either-requires : goal.either-requires
either-requires c = c.requires.own.tidy.fail

pub reach_back-requires : goal.reach_back-requires
reach_back-requires c = record { own = c.requires.own.tidy.stop; runs = c.in_ok-either.ensures.tidy; input = c.requires.left.no }

pub each_open-requires : goal.each_open-requires
each_open-requires c = record {
  own = record { tidy = c.requires.own.tidy.never; entry = c.requires.own.entry; none = λ f. (c.requires.own.none f).never };
  input = c.requires.right.no;
}

pub some-requires : goal.some-requires
some-requires c = c.requires.own.tidy.broken
