use Rattle.std.proofs.Common.{rules, ◌-◌, inl, inr, [], ◌∷◌, take, sym, ◌∙◌, subst}
use Rattle.std.specs.VecDeque.{deque_len}
use Rattle.std.proofs.lemmas.Bool.{false≢true}
use Rattle.rational.proofs.Lists.{last_apart}
use Rattle.rational.proofs.PlaceLemmas.{at_most_of_not_before}
use Rattle.frac128.specs.Cuts.{place}
use Rattle.pieces.proofs.Bests.{nw_trans}
use Rattle.pieces.specs.Steps.{AreSteps}
use Rattle.pieces.proofs.StepLemmas.{steps_back, with_no_worse, with_other}
use Rattle.pieces.proofs.window.is_hidden.Goals as goal

pub returns-then-stays_above : goal.returns-then-stays_above
returns-then-stays_above g c h =
    let xs = c.args.steps.now.items in
    let n = deque_len c.args.steps.now in
    let last = c.in-Some.last.now in
    record {
      front = take (n - 1) xs;
      last = last;
      are = last_apart xs n last (search rules) (search rules) (search rules);
      upto = at_most_of_not_before (place c.args.until.now) (place last.until) (λ b. false≢true (sym c.if-precedes.false ∙ c.precedes.ensures.1 b));
      above = inl (λ t x w. nw_trans (with_other g.P.Shape c.args.way.now.side last.shape c.in-Some-other.other last.other t x c.in-Some-other.is w)
          (c.stays_above.ensures c.if-stays_above.true t));
    }

pub returns-then-stays_above-2 : goal.returns-then-stays_above-2
returns-then-stays_above-2 g c h =
    let xs = c.args.steps.now.items in
    let n = deque_len c.args.steps.now in
    let last = c.in-Some.last.now in
    record {
      front = take (n - 1) xs;
      last = last;
      are = last_apart xs n last (search rules) (search rules) (search rules);
      upto = at_most_of_not_before (place c.args.until.now) (place last.until) (λ b. false≢true (sym c.if-precedes.false ∙ c.precedes.ensures.1 b));
      above = inl (λ t x w. nw_trans (with_no_worse g.P.Shape c.args.way.now.side last.shape last.other t x w)
          (c.stays_above-2.ensures c.if-stays_above-2.true t));
    }

pub ends_above-requires-clause-within : goal.ends_above-requires-clause-within
ends_above-requires-clause-within g c =
    let xs = c.args.steps.now.items in
    let n = deque_len c.args.steps.now in
    let last = c.in-Some.last.now in
    let b = place c.args.from.now in
    (steps_back g.P.Shape c.args.way.now.side b (take (n - 1) xs) (last ∷ []) (subst (AreSteps g.P.Shape c.args.way.now.side b)
    (last_apart xs n last (search rules) (search rules) (search rules)) c.requires.steps)).0.within

pub returns : goal.returns
returns g c h =
    let xs = c.args.steps.now.items in
    let n = deque_len c.args.steps.now in
    let last = c.in-Some.last.now in
    record {
      front = take (n - 1) xs;
      last = last;
      are = last_apart xs n last (search rules) (search rules) (search rules);
      upto = at_most_of_not_before (place c.args.until.now) (place last.until) (λ b. false≢true (sym c.if-precedes.false ∙ c.precedes.ensures.1 b));
      above = inr (c.ends_above.ensures h);
    }
