use Rattle.std.proofs.Common.{sym, subst}
use Rattle.std.specs.Prelude.{slice_index_or}
use Rattle.growing_sets.specs.Spans.{Lies}
use Rattle.early_verdict.proofs.LettingLemmas.{ends_most}
use Rattle.early_verdict.proofs.SplitLists.{at_split, changes_at}
use Rattle.early_verdict.proofs.letting.ask_from.Goals as goal

pub narrow_both-requires-clause-tidy : goal.narrow_both-requires-clause-tidy
narrow_both-requires-clause-tidy c =
    let f = c.split_at_mut-from in
    c.requires.tidy c.args.place _ (at_split c.args.shown.now f.result.1.now c.args.place c.index-from-0.result f.ensures.back c.requires.within)

pub narrow_both-requires-clause-yes : goal.narrow_both-requires-clause-yes
narrow_both-requires-clause-yes c = λ t o.
    let f = c.split_at_mut-from in
    let k = c.requires.inside c.args.place _ (at_split c.args.shown.now f.result.1.now c.args.place c.index-from-0.result f.ensures.back c.requires.within) in
    c.bounds_from.ensures.ends t (subst (λ b. Lies b t) (sym c.bounds-within.ensures) (k.yes t o))

pub narrow_both-requires-clause-no : goal.narrow_both-requires-clause-no
narrow_both-requires-clause-no c = λ t o.
    let f = c.split_at_mut-from in
    let k = c.requires.inside c.args.place _ (at_split c.args.shown.now f.result.1.now c.args.place c.index-from-0.result f.ensures.back c.requires.within) in
    c.bounds_from.ensures.ends t (subst (λ b. Lies b t) (sym c.bounds-within.ensures) (k.no t o))

pub returns : goal.returns
returns c =
    let f = c.split_at_mut-from in
    changes_at c.index-from-0.result c.narrow_both.new.own
    (record { front_is = f.ensures.front; back_is = f.ensures.back; within = c.requires.within }) (record {
      bounds = c.bounds_from.result;
      narrowed = c.narrow_both.ensures;
      less = λ t l. subst (λ b. Lies b t) c.bounds-within.ensures (c.bounds_from.ensures.within t l);
      left = λ t l. c.bounds_from.ensures.left t (subst (λ b. Lies b t) (sym c.bounds-within.ensures) l);
      after = λ t l. c.bounds_from.ensures.after t (subst (λ b. Lies b t) (sym c.bounds-within.ensures) l);
      ends = ends_most (slice_index_or f.result.1.now 0 c.index-from-0.result).no.bounds c.bounds_from.result
          (λ t l. c.bounds_from.ensures.ends t (subst (λ b. Lies b t) (sym c.bounds-within.ensures) l));
    })
