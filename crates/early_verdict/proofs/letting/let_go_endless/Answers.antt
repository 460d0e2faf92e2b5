use Rattle.std.proofs.Common.{◌<◌, ◌∙◌, inl, inr, refl, sym, subst, length, arith}
use Rattle.std.proofs.lemmas.Option.{same_Some}
use Rattle.frac128.specs.Value.{value}
use Rattle.growing_sets.specs.Spans.{AreTidy}
use Rattle.early_verdict.specs.Fitting.{Lists}
use Rattle.early_verdict.specs.Letting.{IsDecisive, IsEndlessCutAt}
use Rattle.early_verdict.specs.declared.sets.Sets.{Sets}
use Rattle.early_verdict.proofs.AllSets.{lists_are}
use Rattle.early_verdict.proofs.KnownNode.{begins_from, child_there, own_beside, own_listed, own_there, own_tidy}
use Rattle.early_verdict.proofs.LettingLemmas.{two_less}
use Rattle.early_verdict.proofs.FewerTimes.{shown_inside}
use Rattle.early_verdict.proofs.Places.{item_at}
use Rattle.early_verdict.proofs.SinceLooks.{endless_stands, half_inside, half_tidy}
use Rattle.early_verdict.proofs.SinceStands.{back_inside}
use Rattle.early_verdict.proofs.letting.let_go_endless.Goals as goal

pub bounds_at-own-requires : goal.bounds_at-own-requires
bounds_at-own-requires c = own_there c.requires.2 tt

pub begin_of-requires : goal.begin_of-requires
begin_of-requires c =
    let h = c.requires.2 in
    record {
      own = own_there h tt;
      left = child_there h tt c.args.since.now.left (inl refl);
      right = child_there h tt c.args.since.now.right (inr refl);
      tidy = own_tidy h tt;
      left_tidy = h.stands.shown_tidy;
      near = c.bounds_at-own.result.low;
    }

pub returns-in_default-clause-stands : goal.returns-in_default-clause-stands
returns-in_default-clause-stands c = λ nodes tr h. h.stands

pub ask_both-requires : goal.ask_both-requires
ask_both-requires c =
    let h = c.requires.2 in
    record {
      left = child_there h tt c.args.since.now.left (inl refl);
      right = child_there h tt c.args.since.now.right (inr refl);
      tidy = h.stands.shown_tidy;
      inside = shown_inside h.stands;
    }

pub bounds_at-wide-requires : goal.bounds_at-wide-requires
bounds_at-wide-requires c =
    let there = child_there c.requires.2 tt c.args.since.now.left (inl refl) in
    let less = (two_less c.ask_both.ensures.1 c.ask_both.ensures.2).count in
    omega (arith, there, less)

pub cut_run_at-requires : goal.cut_run_at-requires
cut_run_at-requires c =
    let h = c.requires.2 in
    let wide = c.bounds_at-wide.ensures in
    let asked = c.ask_both.ensures in
    record {
      within = own_there h tt;
      tidy = own_tidy h tt;
      inside = λ s is. back_inside c.args.i h.here wide.1 wide.2 asked.1 asked.2 h.stands (own_listed h tt s is);
    }

pub cut_endless_at-requires : goal.cut_endless_at-requires
cut_endless_at-requires c =
    let h = c.requires.2 in
    let cut = c.cut_run_at.ensures in
    let less = two_less c.ask_both.ensures.1 c.ask_both.ensures.2 in
    let new = c.ask_both.new.shown in
    let q = c.args.since.now.right in
    let shows = c.index-shown-since in
    let below = child_there h tt q (inr refl) in
    let there : q < length new = let d = less.count in omega (arith, below, d) in
    let w = less.each q shows.result (item_at new q shows.result there shows.is) in
    record {
      within = let a = own_there h tt in let e = cut.count in omega (arith, a, e);
      tidy = half_tidy cut (own_tidy h tt);
      inside = half_inside cut;
      spans = subst (λ (z : Sets). AreTidy z.yes.spans.items) shows.is (w.2.tidy (h.stands.shown_tidy q w.0 w.1)).yes;
    }

pub returns-clause-count : goal.returns-clause-count
returns-clause-count c = c.cut_endless_at.ensures.count ∙ c.cut_run_at.ensures.count

pub returns-clause-stands : goal.returns-clause-stands
returns-clause-stands c = λ nodes tr h.
    let new = c.ask_both.new.shown in
    let since = c.args.since.now in
    let q = since.right in
    let own = c.bounds_at-own.ensures in
    let wide = c.bounds_at-wide.ensures in
    let asked = c.ask_both.ensures in
    let cut = c.cut_run_at.ensures in
    let half = c.cut_run_at.new.live in
    let less = two_less asked.1 asked.2 in
    let shows = c.index-shown-since in
    let below = child_there h tt q (inr refl) in
    let there : q < length new = let d = less.count in omega (arith, below, d) in
    let lists = lists_are new q shows.result (item_at new q shows.result there shows.is) in
    let anew = subst (λ (z : Lists). IsEndlessCutAt c.args.i since.low z.yes half c.cut_endless_at.new.live) (sym lists)
    (subst (λ (z : Sets). IsEndlessCutAt c.args.i since.low z.yes.spans.items half c.cut_endless_at.new.live) (sym shows.is) c.cut_endless_at.ensures) in
    let (back, d) = c.in-Some.ensures in
    endless_stands h.formed h.here back cut anew
    (own_beside h tt c.cut_endless_at.new.live (λ j n. anew.others j n ∙ cut.others j n) (anew.count ∙ cut.count) less cut.at_old anew.at_new)
    wide.1 wide.2 (begins_from c.args.live.now c.args.i own.1 own.2 cut.at_old) asked.1 asked.2 d.at_left d.at_right
    (subst (λ (z : Sets). IsDecisive (value c.in-Some.first.time) z d.left d.right) (same_Some d.own cut.was (sym d.at_own ∙ cut.at_old)) d.decides)
    h.stands

pub bounds-shown-since : goal.bounds-shown-since
bounds-shown-since c =
    let there = child_there c.requires.2 tt c.args.since.now.right (inr refl) in
    let less = (two_less c.ask_both.ensures.1 c.ask_both.ensures.2).count in
    omega (arith, there, less)
